-- A number rounded to the ticks next to it, and a table of such numbers.
use Rattle.std.proofs.Common.{ℕ, suc, ◌+◌, ◌*◌, ◌/◌, ◌<◌, ◌≤◌, ◌≡◌, ◌%◌, arith, inl, inr, List, length, map, slice_index_or, refl, [], ◌∷◌, zero}
use Rattle.std.specs.Int.{div_ceil}
use Rattle.std.proofs.lemmas.List.{length-map}
use Rattle.std.proofs.lemmas.Grind.{div_ceil_times}
use Rattle.std.proofs.lemmas.Bool.{cases_lt}
use Rattle.std.proofs.Math.Nat.{mul-le-mul_left, mul-lt-mul_of_pos_left}
use Rattle.fx_base.specs.Fraction.{Fraction, ◌≤ᶠ◌, ◌<ᶠ◌, ◌≈ᶠ◌, ◌+ᶠ◌, whole}
use Rattle.fx_base.specs.Interval.{Interval, exact}
use Rattle.fx_base.specs.Units.{ticks}
use Rattle.fx_base.proofs.Order.{le_refl_f, le_add_f}
use Rattle.photo_table.specs.Table.{Table, value}
use Rattle.photo_table.specs.Exact.{IsRoundedOf, rounded, ticks_below, ticks_above, RoundsToNextTick, RoundedStands, RoundedIsNarrow}

-- r is i moved outward by at most a tick at either end
record IsNear (r i : Interval) : Type 0 where
  low : r.lo ≤ᶠ i.lo
  low_near : i.lo ≤ᶠ (r.lo +ᶠ ticks 1)
  high : i.hi ≤ᶠ r.hi
  high_near : r.hi ≤ᶠ (i.hi +ᶠ ticks 1)

low_of : (x : Fraction) → ticks (ticks_below x) ≤ᶠ x
unfolding ticks
low_of x = let p = x.positive in record { cross = omega arith }

low_next : (x : Fraction) → x <ᶠ ticks (ticks_below x + 1)
unfolding ticks
low_next x = let p = x.positive in record { cross = step (x.num * 68719476736) x.den (x.num * 68719476736 / x.den) (omega arith) }
  where
    step : (a d q : ℕ) → a < q * d + d → a < (q + 1) * d
    step a d q h = omega arith

high_of : (x : Fraction) → x ≤ᶠ ticks (ticks_above x)
unfolding ticks
high_of x = let p = x.positive in record { cross = omega (arith, (div_ceil_times (x.num * 68719476736) x.den p).0) }

high_next : (x : Fraction) (m : ℕ) → m < ticks_above x → ticks m <ᶠ x
unfolding ticks
high_next x m h =
    let p = x.positive in
    let g : m + 1 ≤ div_ceil (x.num * 68719476736) x.den = omega arith in
    record { cross = omega (arith, (div_ceil_times (x.num * 68719476736) x.den p).1, mul-le-mul_left x.den g) }

pub rounds_to_next_tick : RoundsToNextTick
rounds_to_next_tick x = (record { below = low_of x; next = low_next x }, record { above = high_of x; next = high_next x })

low_near_of : (x : Fraction) → x ≤ᶠ (ticks (ticks_below x) +ᶠ ticks 1)
unfolding ticks ◌+ᶠ◌
low_near_of x = let p = x.positive in record { cross = near (x.num * 68719476736) x.den (x.num * 68719476736 / x.den) x.num refl (omega arith) }
  where
    near : (a d q n : ℕ) → a ≡ n * 68719476736 → a < (q + 1) * d → n * (68719476736 * 68719476736) ≤ (q * 68719476736 + 1 * 68719476736) * d
    near a d q n e h = omega arith

high_near_of : (x : Fraction) → ticks (ticks_above x) ≤ᶠ (x +ᶠ ticks 1)
unfolding ticks ◌+ᶠ◌
high_near_of x = let p = x.positive in record { cross = near (x.num * 68719476736) x.den (div_ceil (x.num * 68719476736) x.den) x.num refl (omega (arith, (div_ceil_times (x.num * 68719476736) x.den p).1)) }
  where
    near : (a d q n : ℕ) → a ≡ n * 68719476736 → q * d < a + d → q * (d * 68719476736) ≤ (n * 68719476736 + 1 * d) * 68719476736
    near a d q n e h = omega arith

near_at : (is : List Interval) (k : ℕ) → IsNear (slice_index_or (map rounded is) k (exact (whole 0))) (slice_index_or is k (exact (whole 0)))
near_at [] k = record { low = le_refl_f (whole 0); low_near = le_add_f (whole 0) (ticks 1); high = le_refl_f (whole 0); high_near = le_add_f (whole 0) (ticks 1) }
near_at (i ∷ is) zero = record { low = low_of i.lo; low_near = low_near_of i.lo; high = high_of i.hi; high_near = high_near_of i.hi }
near_at (i ∷ is) (suc k) = near_at is k

-- the intensity in plane i at gamma j of both tables
place_near : (p t : Table) → IsRoundedOf p t → (i j : ℕ) → IsNear (value p i j) (value t i j)
unfolding value
place_near p t h i j =
    rw (h.planes, h.gammas, h.values) (near_at t.values (i % length t.planes * length t.gammas + j))

pub rounded_stands : RoundedStands
unfolding value
rounded_stands p t h = record {
  planes = h.planes;
  gammas = h.gammas;
  all_values = rw h.values (length-map t.values rounded);
  exact = λ i j. h.exact.each (i % length t.planes * length t.gammas + j);
  low = λ i j. (place_near p t h i j).low;
  low_near = λ i j. (place_near p t h i j).low_near;
  high = λ i j. (place_near p t h i j).high;
  high_near = λ i j. (place_near p t h i j).high_near;
}

-- no tick lies between the two neighbours of a number
narrow_of : (x y : Fraction) → x ≈ᶠ y → ticks (ticks_above y) ≤ᶠ (ticks (ticks_below x) +ᶠ ticks 1)
unfolding ticks ◌+ᶠ◌
narrow_of x y e =
    let p = x.positive in let q = y.positive in
    let c = e.cross in
    let low : x.num * 68719476736 < (ticks_below x + 1) * x.den = omega arith in
    let high = div_ceil_times (y.num * 68719476736) y.den q in
    record { cross = wide x.num x.den y.num y.den (ticks_below x) (ticks_above y) p q c low (omega (arith, high.1)) }
  where
    -- (a - 1) * d is below n * 2^36, which is the same number as m * 2^36 / c * d, so that a - 1 is below b + 1
    step : (m c n d b a : ℕ) → 0 < c → 0 < d → m * d ≡ n * c → m * 68719476736 < (b + 1) * c → a * d < n * 68719476736 + d → a ≤ b + 1
    step m c n d b a p q e l h = elim (cases_lt (b + 1) a) [
      | inl g ↦ let k : b + 2 ≤ a = omega arith in absurd (omega (arith, mul-le-mul_left (c * d) k, mul-lt-mul_of_pos_left {k = d} l q, mul-lt-mul_of_pos_left {k = c} h p))
      | inr g ↦ g
    ]

    wide : (m c n d b a : ℕ) → 0 < c → 0 < d → m * d ≡ n * c → m * 68719476736 < (b + 1) * c → a * d < n * 68719476736 + d
        → a * (68719476736 * 68719476736) ≤ (b * 68719476736 + 1 * 68719476736) * 68719476736
    wide m c n d b a p q e l h = let s = step m c n d b a p q e l h in omega arith

narrow_at : (is : List Interval) (k : ℕ) → ((k : ℕ) → (slice_index_or is k (exact (whole 0))).lo ≈ᶠ (slice_index_or is k (exact (whole 0))).hi)
    → (slice_index_or (map rounded is) k (exact (whole 0))).hi ≤ᶠ ((slice_index_or (map rounded is) k (exact (whole 0))).lo +ᶠ ticks 1)
narrow_at [] k h = le_add_f (whole 0) (ticks 1)
narrow_at (i ∷ is) zero h = narrow_of i.lo i.hi (h 0)
narrow_at (i ∷ is) (suc k) h = narrow_at is k (λ k. h (suc k))

pub rounded_is_narrow : RoundedIsNarrow
rounded_is_narrow p t h = record { each = λ k. rw h.values (narrow_at t.values k h.exact.each) }
