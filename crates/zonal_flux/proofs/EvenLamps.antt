-- A lamp that shines evenly sends its candela into the whole sphere.
use Rattle.std.proofs.Common.{ℕ, zero, suc, ◌+◌, ◌*◌, ◌%◌, ◌<◌, ◌≤◌, ◌≡◌, [], ◌∷◌, length, slice_index_or, arith, subst, refl}
use Rattle.fx_base.specs.Fraction.{Fraction, ◌≤ᶠ◌, ◌≈ᶠ◌, ◌+ᶠ◌, ◌*ᶠ◌, whole, ratio, sum_to}
use Rattle.fx_base.specs.Interval.{Interval, Meets, exact, sum_of}
use Rattle.fx_base.specs.Units.{millionths, ticks, ticks_between}
use Rattle.fx_base.proofs.Order.{le_refl_f, le_trans_f, le_of_eq_f, ge_of_eq_f, eq_of_le_f, eq_trans_f, add_le_f, mul_le_f}
use Rattle.fx_base.proofs.Sums.{sum_to_le, sum_to_times, times_sum_to, ticks_whole, whole_ticks}
use Rattle.photo_table.specs.Angles.{turn_later}
use Rattle.photo_table.specs.Axis.{between}
use Rattle.photo_table.specs.Kept.{even_table}
use Rattle.photo_table.specs.Laws.{AreSame}
use Rattle.photo_table.specs.Table.{Table, IsTable, plane, gamma, last_gamma, value, lower, upper, end_at, bilinear}
use Rattle.photo_table.proofs.Between.{IsOn, at_left, at_right, between_at_most, between_at_least, between_eq, millionths_le}
use Rattle.photo_table.proofs.HullLaws.{first_below}
use Rattle.photo_table.proofs.Sheet.{across}
use Rattle.photo_table.proofs.Tables.{plane_piece, gamma_piece, end_straight}
use Rattle.series_enclose.specs.Series.{pi}
use Rattle.zonal_flux.specs.Zones.{constant, product, twice}
use Rattle.zonal_flux.specs.Fluxes.{middle, in_plane, half_sector, part, mean, into_zone, into_zones, total}
use Rattle.zonal_flux.specs.Laws.{EvenLampSendsSphere}
use Rattle.zonal_flux.proofs.Spheres.{half_spheres}

-- ---- one value

-- a line between equal values
level_line : (a b : ℕ) (x m : Fraction) → IsOn a b x → between x a m b m ≈ᶠ m
level_line a b x m on =
    let r = on.rise in
    let first : IsOn a b (millionths a) = record { rise = on.rise; low = le_refl_f (millionths a); high = millionths_le a b (omega arith) } in
    let second : IsOn a b (millionths b) = record { rise = on.rise; low = millionths_le a b (omega arith); high = le_refl_f (millionths b) } in
    let at_a = at_left a b (millionths a) m m first (le_refl_f (millionths a)) in
    let at_b = at_right a b (millionths b) m m second (le_refl_f (millionths b)) in
    eq_of_le_f
    (between_at_most a b m m m (millionths a) x (millionths b) first on second on.low on.high (le_of_eq_f at_a) (le_of_eq_f at_b))
    (between_at_least a b m m m (millionths a) x (millionths b) first on second on.low on.high (ge_of_eq_f at_a) (ge_of_eq_f at_b))

-- a table of one value has it in each direction within its gammas
one_value : (end : Interval → Fraction) (t : Table) → IsTable t → (m x y : Fraction) → ((i j : ℕ) → j < length t.gammas → end (value t i j) ≈ᶠ m)
    → millionths (plane t 0) ≤ᶠ x → millionths (gamma t 0) ≤ᶠ y → y ≤ᶠ millionths (last_gamma t) → end_at end t x y ≈ᶠ m
unfolding across
one_value end t h m x y same low from to =
    let p = plane_piece t h x low in
    let g = gamma_piece t h y from to in
    let within = g.within in
    let row = λ (a : ℕ). eq_trans_f
    (between_eq (gamma t g.i) (gamma t (suc g.i)) y (end (value t a g.i)) (end (value t a (suc g.i))) m m (same a g.i (omega arith)) (same a (suc g.i) within))
    (level_line (gamma t g.i) (gamma t (suc g.i)) y m g.on) in
    eq_trans_f ((end_straight end t h p.i g.i g.within).value x y p.on g.on)
    (eq_trans_f (between_eq (plane t p.i) (plane t (suc p.i)) x _ _ m m (row p.i) (row (suc p.i)))
    (level_line (plane t p.i) (plane t (suc p.i)) x m p.on))

-- ---- the even lamp

even_is_table : (c : ℕ) → IsTable (even_table c)
even_is_table c = record {
  some_plane = omega arith;
  planes_rise = λ i j p q. absurd (omega arith);
  first_plane = omega arith;
  one_turn = λ i p. first_only i p;
  two_gammas = omega arith;
  gammas_rise = rise;
  gammas_up_to = up_to;
  all_values = omega arith;
}
  where
    first_only : (i : ℕ) → i < 1 → slice_index_or (0 ∷ []) i 0 < 360000000
    first_only zero p = omega arith
    first_only (suc i) p = absurd (omega arith)

    rise : (i j : ℕ) → i < j → j < 2 → slice_index_or (0 ∷ 180000000 ∷ []) i 0 < slice_index_or (0 ∷ 180000000 ∷ []) j 0
    rise zero zero p q = absurd (omega arith)
    rise zero (suc zero) p q = omega arith
    rise zero (suc (suc j)) p q = absurd (omega arith)
    rise (suc i) j p q = absurd (omega arith)

    up_to : (j : ℕ) → j < 2 → slice_index_or (0 ∷ 180000000 ∷ []) j 0 ≤ 180000000
    up_to zero p = omega arith
    up_to (suc zero) p = omega arith
    up_to (suc (suc j)) p = absurd (omega arith)

even_value : (c i j : ℕ) → j < 2 → value (even_table c) i j ≡ ticks_between (c * 68719476736) (c * 68719476736)
unfolding value
even_value c i j p = let e : i % 1 * 2 + j ≡ j = omega arith in rw e (here j p)
  where
    here : (j : ℕ) → j < 2 → slice_index_or (even_table c).values j (exact (whole 0)) ≡ ticks_between (c * 68719476736) (c * 68719476736)
    here zero p = refl
    here (suc zero) p = refl
    here (suc (suc j)) p = absurd (omega arith)

in_candela : (c : ℕ) → ticks (c * 68719476736) ≈ᶠ whole c
in_candela c = eq_of_le_f (ticks_whole c) (whole_ticks c)

even_in_plane : (c k i : ℕ) → k < 36 → AreSame (in_plane (even_table c) k i) (exact (whole c))
unfolding in_plane bilinear
even_in_plane c k i p =
    let t = even_table c in
    let h = even_is_table c in
    let x = millionths (plane t i) in
    let from = millionths_le 0 (k * 5000000 + 2500000) (omega arith) in
    let to = millionths_le (k * 5000000 + 2500000) 180000000 (omega arith) in
    record {
      lower = one_value lower t h (whole c) (turn_later x) (middle k) (λ i j q. rw (even_value c i j q) (in_candela c)) (first_below t h x) from to;
      upper = one_value upper t h (whole c) (turn_later x) (middle k) (λ i j q. rw (even_value c i j q) (in_candela c)) (first_below t h x) from to;
    }

-- half of a turn by a turn, twice
both_halves : (c : ℕ) → (whole 0 +ᶠ (ratio 360000000 720000000 *ᶠ (whole c +ᶠ whole c))) ≈ᶠ whole c
unfolding whole ratio ◌+ᶠ◌ ◌*ᶠ◌
both_halves c = record { cross = omega arith }

even_mean : (c k : ℕ) → k < 36 → AreSame (mean (even_table c) k) (exact (whole c))
unfolding mean part half_sector sum_to plane
even_mean c k p =
    let a = even_in_plane c k 0 p in
    let b = even_in_plane c k (0 + 1) p in
    let r = ratio 360000000 720000000 in
    record {
      lower = eq_trans_f (eq_of_le_f
          (add_le_f (le_refl_f (whole 0)) (mul_le_f (le_refl_f r) (add_le_f (le_of_eq_f a.lower) (le_of_eq_f b.lower))))
          (add_le_f (le_refl_f (whole 0)) (mul_le_f (le_refl_f r) (add_le_f (ge_of_eq_f a.lower) (ge_of_eq_f b.lower))))) (both_halves c);
      upper = eq_trans_f (eq_of_le_f
          (add_le_f (le_refl_f (whole 0)) (mul_le_f (le_refl_f r) (add_le_f (le_of_eq_f a.upper) (le_of_eq_f b.upper))))
          (add_le_f (le_refl_f (whole 0)) (mul_le_f (le_refl_f r) (add_le_f (ge_of_eq_f a.upper) (ge_of_eq_f b.upper))))) (both_halves c);
    }

-- ---- its flux

times : ℕ → Interval → Interval
times c i = record { lo = whole c *ᶠ i.lo; hi = whole c *ᶠ i.hi }

-- zones whose constants make half a sphere
even_zones : (c n first : ℕ) (k : ℕ → Interval) → first ≤ 18 → ((i : ℕ) → i < 18 → constant n (first + i) ≡ k i) → Meets (sum_of 18 k) (twice (pi n))
    → Meets (into_zones n (even_table c) first 18) (times c (twice (pi n)))
unfolding into_zones into_zone product times
even_zones c n first k p same h =
    let m = λ (i : ℕ). mean (even_table c) (first + i) in
    record {
      above =
          le_trans_f (sum_to_le 18 (λ i. (m i).lo *ᶠ (constant n (first + i)).lo) (λ i. whole c *ᶠ (k i).lo)
          (λ i q. rw (same i q) (mul_le_f (le_of_eq_f (even_mean c (first + i) (omega arith)).lower) (le_refl_f (k i).lo))))
          (le_trans_f (sum_to_times 18 (whole c) (λ i. (k i).lo)) (mul_le_f (le_refl_f (whole c)) h.above));
      below =
          le_trans_f (mul_le_f (le_refl_f (whole c)) h.below)
          (le_trans_f (times_sum_to 18 (whole c) (λ i. (k i).hi))
          (sum_to_le 18 (λ i. whole c *ᶠ (k i).hi) (λ i. (m i).hi *ᶠ (constant n (first + i)).hi)
          (λ i q. rw (same i q) (mul_le_f (ge_of_eq_f (even_mean c (first + i) (omega arith)).upper) (le_refl_f (k i).hi)))));
    }

two_halves : (c : ℕ) (x : Fraction) → ((whole c *ᶠ (whole 2 *ᶠ x)) +ᶠ (whole c *ᶠ (whole 2 *ᶠ x))) ≈ᶠ (whole (4 * c) *ᶠ x)
unfolding whole ◌+ᶠ◌ ◌*ᶠ◌
two_halves c x = record { cross = omega arith }

pub even_lamp : EvenLampSendsSphere
unfolding total twice times
even_lamp c n =
    let spheres = half_spheres n in
    let down = even_zones c n 0 (constant n) (omega arith) (λ i p. let e : 0 + i ≡ i = omega arith in
    let P : ℕ → Type 0 = λ z. constant n (0 + i) ≡ constant n z in subst P e refl) spheres.0 in
    let up = even_zones c n 18 (λ i. constant n (18 + i)) (omega arith) (λ i p. refl) spheres.1 in
    record {
      above = le_trans_f (add_le_f down.above up.above) (le_of_eq_f (two_halves c (pi n).hi));
      below = le_trans_f (ge_of_eq_f (two_halves c (pi n).lo)) (add_le_f down.below up.below);
    }
