-- What the program's spans of pi, sine and cosine are.
use Rattle.std.specs.Prelude.{ℕ, ◌*◌, ◌≤ℤ◌, ◌+ℤ◌, pos}
use Rattle.fx_base.specs.Ends.{Ends}
use Rattle.fx_base.specs.Interval.{Meets}
use Rattle.fx_base.specs.Units.{millionths, of_span}
use Rattle.series_enclose.specs.Series.{sine, cosine}

-- a span of an angle's sine, the angle in millionths of a degree: it meets the enclosure at every depth, is at most 16 ticks wide,
-- and its lower end isn't negative
pub record IsSine (angle : ℕ) (span : Ends) : Type 0 where
  pub meets : (n : ℕ) → Meets (of_span span) (sine n (millionths angle))
  pub narrow : span.hi ≤ℤ (span.lo +ℤ pos 16)
  pub natural : pos 0 ≤ℤ span.lo

-- the same of its cosine
pub record IsCosine (angle : ℕ) (span : Ends) : Type 0 where
  pub meets : (n : ℕ) → Meets (of_span span) (cosine n (millionths angle))
  pub narrow : span.hi ≤ℤ (span.lo +ℤ pos 16)
  pub natural : pos 0 ≤ℤ span.lo

-- row k of the table: the spans of k * 15,625 millionths of a degree
pub record IsRow (k : ℕ) (sin cos : Ends) : Type 0 where
  pub sine : IsSine (k * 15625) sin
  pub cosine : IsCosine (k * 15625) cos
