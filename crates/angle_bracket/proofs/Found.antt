-- How far the search for a slope's angle has come: its start, a row's steps, and its end.
use Rattle.std.proofs.Common.{ℕ, ◌+◌, ◌*◌, ◌≡◌, min, arith, subst, inl, inr}
use Rattle.std.proofs.lemmas.Bool.{cases_lt}
use Rattle.fx_base.specs.Fraction.{◌≤ᶠ◌, whole}
use Rattle.fx_base.specs.Units.{millionths}
use Rattle.fx_base.proofs.Order.{le_trans_f, zero_le_f}
use Rattle.series_enclose.specs.Slant.{slant}
use Rattle.angle_bracket.specs.Found.{IsBelow, IsBefore, IsFound}
use Rattle.angle_bracket.proofs.Candidates.{low_within}

none_is_zero : millionths (0 * 15625) ≤ᶠ whole 0
unfolding millionths whole
none_is_zero = record { cross = omega arith }

last_is_45 : whole 45 ≤ᶠ millionths 45000000
unfolding millionths whole
last_is_45 = record { cross = omega arith }

-- nothing is known yet: no angle comes after 45 degrees
pub found_none : (x y : ℕ) → IsFound x y 15625 0 2880
found_none x y = record {
  order = omega arith;
  within = omega arith;
  below = record { below = λ n. le_trans_f none_is_zero (zero_le_f (slant n x y).hi) };
  above = record { above = λ step n within some. absurd (omega (arith, within, some)) };
}

-- a row is 125 steps
pub found_steps : (x y row : ℕ) → IsFound x y 15625 row (row + 1) → IsFound x y 125 (row * 125) (row * 125 + 125)
found_steps x y row f =
    let low : row * 15625 ≡ row * 125 * 125 = omega arith in
    let high : (row + 1) * 15625 ≡ (row * 125 + 125) * 125 = omega arith in
    record {
      order = omega arith;
      within = let w = f.within in omega (arith, w);
      below = subst (λ m. IsBelow x y m) low f.below;
      above = subst (λ m. IsBefore x y m) high f.above;
    }

-- the lower ends are at most two steps past the last one that is below, and at most 45 degrees
pub found_end : (x y step n : ℕ) → IsFound x y 125 step (step + 1) → (slant n x y).lo ≤ᶠ millionths (min (step + 2) 360000 * 125)
found_end x y step n f =
    let P : ℕ → Type 0 = λ m. (slant n x y).lo ≤ᶠ millionths m in
    let within = f.within in
    elim (cases_lt (step + 1) 360000) [
      | inl l ↦ (let e : (step + 1) * 125 + 125 ≡ min (step + 2) 360000 * 125 = omega arith in subst P e (f.above.above 125 n (omega arith) (omega arith)))
      | inr k ↦ (let e : 45000000 ≡ min (step + 2) 360000 * 125 = omega arith in subst P e (le_trans_f (low_within n x y) last_is_45))
    ]
