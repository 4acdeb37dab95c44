-- A file that isn't taken from the shelf: what is written of it, and what was the cause.
use Rattle.std.specs.Prelude.{ℕ, ◌≡◌, ◌≢◌, ◌+◌, ◌<◌, ◌⊎◌, List, ◌++◌, length, codes, None, IfSome, IsSomeAnd}
use Rattle.decimal_text.specs.Lines.{line}
use Rattle.lux_io.specs.Files.{bytes_of, Rose}
use Rattle.lux_io.specs.declared.take.TakeFault.{TakeFault}
use Rattle.lux_io.specs.declared.take.TakeFault.TheVariants as take
use Rattle.lux_core.specs.Runs.{Run, HasStood, longest_file}
use Rattle.lux_core.specs.declared.status.Status.{Status}
use Rattle.lux_core.specs.declared.status.Status.TheVariants as status

-- there is no file of that name
pub record IsAbsent (r : Run) (name : List ℕ) (given : Status) (text : List ℕ) : Type 0 where
  pub status_is : given ≡ status.Refused
  pub text_is : text ≡ line (codes "refused " ++ name ++ codes " Absent")
  pub rose : Rose r.absences.before r.absences.now
  pub faults : r.faults.now ≡ r.faults.before
  pub told : IfSome r.files (λ files. bytes_of name files ≡ None)
  pub taken : r.taken ≢ longest_file + 1

-- the file has too many bytes
pub record IsTooLong (r : Run) (name : List ℕ) (given : Status) (text : List ℕ) : Type 0 where
  pub status_is : given ≡ status.Refused
  pub text_is : text ≡ line (codes "refused " ++ name ++ codes " TooLong")
  pub taken : r.taken ≡ longest_file + 1
  pub stood : HasStood r
  pub told : IfSome r.files (λ files. IsSomeAnd (bytes_of name files) (λ bytes. longest_file < length bytes))

-- the file couldn't be read
pub record IsReadFault (r : Run) (name : List ℕ) (given : Status) (text : List ℕ) : Type 0 where
  pub status_is : given ≡ status.ReadFault
  pub text_is : text ≡ line (codes "read fault " ++ name)
  pub rose : Rose r.faults.before r.faults.now
  pub absences : r.absences.now ≡ r.absences.before
  pub taken : r.taken ≢ longest_file + 1

-- one of these
abbrev pub IsUntaken : Run → (name : List ℕ) → Status → List ℕ → Type 0
IsUntaken r name given text = IsAbsent r name given text ⊎ IsTooLong r name given text ⊎ IsReadFault r name given text

-- ---- by the fault alone

abbrev pub IsFaultAnswer : List ℕ → TakeFault → Status → List ℕ → Type 0
IsFaultAnswer name take.Absent given text = (given ≡ status.Refused) × (text ≡ line (codes "refused " ++ name ++ codes " Absent"))
IsFaultAnswer name take.TooLong given text = (given ≡ status.Refused) × (text ≡ line (codes "refused " ++ name ++ codes " TooLong"))
IsFaultAnswer name take.Failed given text = (given ≡ status.ReadFault) × (text ≡ line (codes "read fault " ++ name))
IsFaultAnswer name take.Memory given text = ⊥
