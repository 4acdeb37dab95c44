-- Where a reader stands.
use Rattle.std.specs.Prelude.{ℕ, ◌+◌, ◌<◌, ◌≤◌, ◌≡◌, List, [], ◌∷◌, length, drop, Result, Err}
use Rattle.lm63_read.specs.Items.{items_of}
use Rattle.lm63_read.specs.Reads.{item_at}
use Rattle.lm63_read.specs.declared.items.Cursor.{Cursor}
use Rattle.lm63_read.specs.declared.fault.IesFault.{IesFault}
use Rattle.lm63_read.specs.declared.fault.IesFault.TheVariants as fault

-- so many items of the bytes have been passed
pub record IsAt (bytes : List ℕ) (c : Cursor) : Type 0 where
  pub rest : items_of (drop c.at bytes) ≡ drop c.count (items_of bytes)
  pub within : c.at ≤ length bytes
  pub taken : c.count ≤ length (items_of bytes)

-- item k is the last that was passed
pub record IsAfter (bytes : List ℕ) (c : Cursor) (k : ℕ) : Type 0 where
  pub at : IsAt bytes c
  pub count : c.count ≡ k

-- the next item is taken
pub record Takes (bytes : List ℕ) (old new : Cursor) (item : List ℕ) : Type 0 where
  pub first : items_of (drop old.at bytes) ≡ item ∷ items_of (drop new.at bytes)
  pub count : new.count ≡ old.count + 1
  pub within : new.at ≤ length bytes

-- nothing but separators is left
abbrev pub IsAtEnd : List ℕ → Cursor → Type 0
IsAtEnd bytes c = items_of (drop c.at bytes) ≡ []

-- from here on item k is that fault, whichever it is
abbrev pub IsMissing : List ℕ → Cursor → IesFault → Type 0
IsMissing bytes c e = (k : ℕ) → c.count < k → item_at (items_of bytes) k ≡ Err e

-- the fault is that of the definition; want of memory says nothing
abbrev pub IsRefused : {A : Type 0} → IesFault → Result A IesFault → Type 0
IsRefused e r = (e ≡ fault.Memory → ⊥) → r ≡ Err e
