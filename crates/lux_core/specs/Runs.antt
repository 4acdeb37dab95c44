-- What a shelf of files held and counted in a run.
use Rattle.std.specs.Prelude.{ℕ, ◌≡◌, ◌≤◌, List, length, Option, Some, IfSome}
use Rattle.lux_io.specs.Files.{bytes_of}

-- a count before a run and after it
pub record Count : Type 0 where
  pub before : ℕ
  pub now : ℕ

pub record Run : Type 0 where
  -- the files that the shelf holds, a name and bytes each, where it tells them
  pub files : Option (List (List ℕ × List ℕ))
  -- how often there was no file of a name, and how often the shelf failed
  pub absences : Count
  pub faults : Count
  -- how many bytes were taken from the file that was opened last
  pub taken : ℕ

abbrev pub run : Option (List (List ℕ × List ℕ)) → (absences_before absences_now faults_before faults_now taken : ℕ) → Run
run files absences_before absences_now faults_before faults_now taken = record {
  files = files;
  absences = record { before = absences_before; now = absences_now };
  faults = record { before = faults_before; now = faults_now };
  taken = taken;
}

-- no file was missed in the run, and the shelf didn't fail
pub record HasStood (r : Run) : Type 0 where
  pub absences : r.absences.now ≡ r.absences.before
  pub faults : r.faults.now ≡ r.faults.before

-- the run counted nothing else but what it took: these are the bytes of the file that was opened last, where one was
pub record EndedWith (r : Run) (last : Option (List ℕ)) : Type 0 where
  pub taken : IfSome last (λ bytes. r.taken ≡ length bytes)
  pub stood : HasStood r

-- the greatest number of bytes of a file
abbrev pub longest_file : ℕ
longest_file = 16777216

-- these are all bytes of the file: those under its name, where the shelf tells its files
pub record IsContent (files : Option (List (List ℕ × List ℕ))) (name bytes : List ℕ) : Type 0 where
  pub told : IfSome files (λ fs. bytes_of name fs ≡ Some bytes)
  pub few : length bytes ≤ longest_file
