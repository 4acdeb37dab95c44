-- The table of a file.
use Rattle.std.specs.Prelude.{ℕ, ◌-◌, ◌*◌, ◌^◌, ◌≡◌, if◌then◌else◌, List, length, map, take, Some, Ok}
use Rattle.fx_base.specs.Fraction.{ratio}
use Rattle.fx_base.specs.Interval.{Interval, exact}
use Rattle.fx_base.specs.declared.micro.Micro.{Micro}
use Rattle.photo_table.specs.Exact.{IsRoundedOf}
use Rattle.photo_table.specs.Kept.{angle_of}
use Rattle.photo_table.specs.Table.{Table}
use Rattle.symmetry_expand.specs.AllRound.{all_round}
use Rattle.symmetry_expand.specs.Measured.{first_angle, last_angle, lifted}
use Rattle.symmetry_expand.specs.declared.symmetry.Symmetry.{Symmetry}
use Rattle.lm63_read.specs.Angles.{is_degrees, symmetry_of}
use Rattle.lm63_read.specs.Files.{IesFile}
use Rattle.lm63_read.specs.Head.{file_of}

-- how many half-planes are kept: a last one at 360 degrees would be the first one again, and isn't
abbrev pub kept : List Micro → ℕ
kept planes = if is_degrees 360 (last_angle planes) then length planes - 1 else length planes

abbrev pub kept_planes : List Micro → List Micro
kept_planes planes = take (kept planes) planes

-- of so many intensities in each half-plane those that are kept
abbrev pub kept_values : {A : Type 0} → List Micro → ℕ → List A → List A
kept_values planes gammas values = take (kept planes * gammas) values

-- so many candela over 10^24
abbrev pub candela : ℕ → Interval
candela v = exact (ratio v (10 ^ 24))

-- what was measured, with the exact intensities
abbrev pub measured : IesFile → Table
measured f = record {
  planes = lifted (kept_planes f.horizontals);
  gammas = map angle_of f.verticals;
  values = map candela (kept_values f.horizontals (length f.verticals) f.values);
}

-- t is the exact table of all half-planes that those of the file stand for
pub record IsTableOf (f : IesFile) (t : Table) : Type 0 where
  pub symmetry : Symmetry
  pub stands : symmetry_of (length f.horizontals) (first_angle f.horizontals) (last_angle f.horizontals) ≡ Some symmetry
  pub table : t ≡ all_round symmetry (measured f)

-- p is the table of the file that the bytes are, each intensity rounded down and up to a tick
pub record IsReadFrom (bytes : List ℕ) (p : Table) : Type 0 where
  pub file : IesFile
  pub read : file_of bytes ≡ Ok file
  pub table : Table
  pub of_file : IsTableOf file table
  pub rounded : IsRoundedOf p table
