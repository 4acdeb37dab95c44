-- How the light of a lamp's point goes to a plane: over which lengths, and at which angles it leaves the lamp.
use Rattle.std.specs.Prelude.{ℕ, ◌+◌, ◌<◌, ◌≤◌, ◌≡◌, ◌⊎◌, Bool, true, false, pos, ◌≤ℤ◌}
use Rattle.fx_base.specs.Interval.{Meets, MeetsOnCircle}
use Rattle.fx_base.specs.Units.{natural, of_bracket}
use Rattle.fx_base.specs.declared.micro.Bracket.{Bracket}
use Rattle.room_layout.specs.Place.{Place, in_front, squared_distance}
use Rattle.room_layout.specs.declared.geometry.Face.{Face}
use Rattle.room_layout.specs.declared.room.Lamp.{Lamp}
use Rattle.direct_light.specs.Directions.{Step, c_towards, gamma_towards}
use Rattle.direct_light.specs.declared.angles.Angles.{Angles}
use Rattle.direct_light.specs.declared.step.Step.{Step as HeldStep}
use Rattle.direct_light.specs.declared.way.Way.{Way}

-- the step that the program holds
abbrev pub step_of : HeldStep → Step
step_of s = record { x = s.x; y = s.y; z = s.z }

-- the plane at p that faces so has nothing of the point q: it is hidden, or not in front of the plane
abbrev pub IsDark : Place → Place → Face → Bool → Type 0
IsDark q p face clear = (clear ≡ false) ⊎ (in_front face p q ≡ 0)

-- it has light of the point over these lengths
pub record IsWay (q p : Place) (face : Face) (clear : Bool) (w : Way) : Type 0 where
  pub seen : clear ≡ true
  pub ahead : w.ahead ≡ in_front face p q
  pub squared : w.squared ≡ squared_distance p q
  pub in_front : 0 < w.ahead
  pub near : w.ahead ≤ w.squared
  pub within : w.ahead ≤ 200000
  pub far : w.squared ≤ 120000000000

-- a bracket of angles that aren't negative, at most 1/4000 degree wide
pub record IsNarrowBracket (b : Bracket) : Type 0 where
  pub not_negative : pos 0 ≤ℤ b.lo.0
  pub in_order : b.lo.0 ≤ℤ b.hi.0
  pub narrow : natural b.hi.0 ≤ natural b.lo.0 + 250

-- brackets of the angles at which light leaves the lamp's point q for p: they meet the exact ones at every depth
pub record AreAngles (l : Lamp) (q p : Place) (a : Angles) : Type 0 where
  pub c_meets : (n : ℕ) → MeetsOnCircle (of_bracket a.c) (c_towards n l q p)
  pub c_narrow : IsNarrowBracket a.c
  pub c_below : natural a.c.lo.0 < 360000000
  pub gamma_meets : (n : ℕ) → Meets (of_bracket a.gamma) (gamma_towards n l q p)
  pub gamma_narrow : IsNarrowBracket a.gamma
  pub gamma_within : natural a.gamma.hi.0 ≤ 180000000
