-- An edge cut into sixteen, and the part of it in which a point of a segment lies. A point is given by its weights r and s at the ends,
-- whose sum is w, and by n, w times its coordinate.
use Rattle.std.proofs.Common.{ℕ, zero, suc, ◌+◌, ◌*◌, ◌<◌, ◌≤◌, ◌≡◌, min, max, add-one, arith, inl, inr}
use Rattle.std.proofs.Math.Nat.{mul-le-mul_left, mul-le-mul_right, le_of_mul-le-mul_left, lt_of_mul-lt-mul_left}
use Rattle.std.proofs.lemmas.Bool.{cases_lt}
use Rattle.sight_line.specs.Sight.{DividesWithin}
use Rattle.sight_index.specs.Cells.{begins, TouchesOn, BoundsTouchOn}
use Rattle.sight_index.specs.Masks.{SomeBelow}

pub begins_first : (edge : ℕ) → begins edge 0 ≡ 0
begins_first edge = omega arith

pub begins_last : (edge : ℕ) → begins edge 16 ≡ edge
begins_last edge = omega arith

pub begins_later : (edge k : ℕ) → begins edge k ≤ begins edge (k + 1)
begins_later edge k = omega (arith, mul-le-mul_right {m = k} {n = k + 1} edge (omega arith))

-- ---- the part in which a point lies

abbrev IsInPart : ℕ → ℕ → ℕ → ℕ → Type 0
IsInPart w n edge k = (w * (2 * begins edge k) ≤ n) × (n ≤ w * (2 * begins edge (k + 1)))

-- one of the first m parts, found by going down
part_below : (w n edge m : ℕ) → m ≤ 16 → n ≤ w * (2 * begins edge m) → 0 < m → SomeBelow 16 (λ k. IsInPart w n edge k)
part_below w n edge zero few high some = absurd (omega arith)
part_below w n edge (suc zero) few high some = record {
  at = 0;
  below = omega arith;
  holds = (rw (begins_first edge) (omega arith), high);
}
part_below w n edge (suc (suc m)) few high some =
    elim (cases_lt n (w * (2 * begins edge (suc m)))) [
      | inl lower ↦ part_below w n edge (suc m) (omega arith) (omega arith) (omega arith)
      | inr here ↦ record { at = suc m; below = omega arith; holds = (here, rw (add-one (suc m)) high) }
    ]

pub part_of : (w n edge : ℕ) → n ≤ w * (2 * edge) → SomeBelow 16 (λ k. IsInPart w n edge k)
part_of w n edge h = part_below w n edge 16 (omega arith) (rw (begins_last edge) h) (omega arith)

-- ---- segments

-- the part in which one end lies is one that the bounds of the segment touch
pub end_part : (edge p q : ℕ) → p ≤ 2 * edge → SomeBelow 16 (λ k. BoundsTouchOn edge k p q)
end_part edge p q h =
    let part = part_of 1 p edge (omega arith) in
    record {
      at = part.at;
      below = part.below;
      holds = record { low = omega (arith, part.holds); high = omega (arith, part.holds) };
    }

-- a point of a segment lies between the ends
above_least : (r s p q : ℕ) → (r + s) * min p q ≤ r * p + s * q
above_least r s p q = omega (arith, mul-le-mul_left {m = min p q} {n = p} r (omega arith), mul-le-mul_left {m = min p q} {n = q} s (omega arith))

below_most : (r s p q : ℕ) → r * p + s * q ≤ (r + s) * max p q
below_most r s p q = omega (arith, mul-le-mul_left {m = p} {n = max p q} r (omega arith), mul-le-mul_left {m = q} {n = max p q} s (omega arith))

-- where a point of the segment lies strictly between lo and hi, its part touches both these and the segment's bounds
pub met_part : (edge r s p q lo hi : ℕ) → 0 < r + s → p ≤ 2 * edge → q ≤ 2 * edge → DividesWithin r s p q lo hi →
    SomeBelow 16 (λ k. TouchesOn edge k lo hi × BoundsTouchOn edge k p q)
met_part edge r s p q lo hi some from to within =
    let most : r * p + s * q ≤ (r + s) * (2 * edge) =
    omega (arith, mul-le-mul_left r from, mul-le-mul_left s to) in
    let part = part_of (r + s) (r * p + s * q) edge most in
    let k : ℕ = part.at in
    let least = above_least r s p q in
    let greatest = below_most r s p q in
    let begun : 2 * lo < 2 * begins edge (k + 1) = lt_of_mul-lt-mul_left (r + s) (omega (arith, part.holds, within)) in
    let unended : 2 * begins edge k < 2 * hi = lt_of_mul-lt-mul_left (r + s) (omega (arith, part.holds, within)) in
    record {
      at = k;
      below = part.below;
      holds = (
        record { begun = omega arith; unended = omega arith },
        record {
          low = le_of_mul-le-mul_left {k = r + s} (omega (arith, part.holds, least)) some;
          high = le_of_mul-le-mul_left {k = r + s} (omega (arith, part.holds, greatest)) some;
        },
      );
    }
