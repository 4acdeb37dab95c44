-- How far a file was read.
use Rattle.std.specs.Prelude.{ℕ, ◌+◌, ◌<◌, ◌≤◌, ◌≡◌, List, [], ◌∷◌, length, drop, Result, Err}
use Rattle.eulumdat_read.specs.declared.fault.LdtFault.{LdtFault}
use Rattle.eulumdat_read.specs.declared.fault.LdtFault.TheVariants as fault
use Rattle.eulumdat_read.specs.declared.line.Cursor.{Cursor}
use Rattle.eulumdat_read.specs.Lines.{lines_of}

-- the lines of the bytes from a place on
abbrev pub lines_from : List ℕ → ℕ → List (List ℕ)
lines_from bytes at = lines_of (drop at bytes)

-- as many lines lie before the cursor's byte as it says; each has a byte at least
pub record IsAt (bytes : List ℕ) (c : Cursor) : Type 0 where
  pub rest : lines_from bytes c.at ≡ drop c.line (lines_of bytes)
  pub within : c.at ≤ length bytes
  pub few : c.line ≤ c.at
  pub taken : c.line ≤ length (lines_of bytes)

-- no line is left
pub record IsAtEnd (bytes : List ℕ) (c : Cursor) : Type 0 where
  pub nothing : lines_from bytes c.at ≡ []

-- the fault is that of the definition; want of memory says nothing
abbrev pub IsRefused : {A : Type 0} → LdtFault → Result A LdtFault → Type 0
IsRefused e r = (e ≡ fault.Memory → ⊥) → r ≡ Err e

-- the next line was taken
pub record Takes (bytes : List ℕ) (old new : Cursor) (line : List ℕ) : Type 0 where
  pub first : lines_from bytes old.at ≡ line ∷ lines_from bytes new.at
  pub count : new.line ≡ old.line + 1
  pub further : old.at < new.at
  pub within : new.at ≤ length bytes
