-- A table whose intensities lie within those of another: the means of both meet.
use Rattle.std.proofs.Common.{ℕ, ◌+◌, ◌*◌, ◌/◌, ◌%◌, ◌<◌, ◌≤◌, ◌≡◌, List, length, slice_index_or, ap, sym, subst}
use Rattle.fx_base.specs.Fraction.{Fraction, whole}
use Rattle.fx_base.specs.Interval.{Meets, sum_of}
use Rattle.fx_base.specs.Units.{millionths}
use Rattle.fx_base.proofs.Order.{le_refl_f, le_trans_f, le_add_f, add_zero_f, add_le_f, mul_le_f}
use Rattle.fx_base.proofs.Sums.{sum_to_le}
use Rattle.photo_table.specs.Angles.{turn_later}
use Rattle.photo_table.specs.Table.{Table, IsTable, plane, value, lower, upper, bilinear}
use Rattle.photo_table.proofs.HullLaws.{first_below}
use Rattle.photo_table.proofs.Tables.{IsNear, end_near}
use Rattle.zonal_flux.specs.Fluxes.{middle, in_plane, half_sector, part, mean, LiesWithin}

-- it is a table too
within_table : (t p : Table) → IsTable p → LiesWithin t p → IsTable t
within_table t p h s = record {
  some_plane = let P : List ℕ → Type 0 = λ z. 0 < length z in subst P (sym s.planes) h.some_plane;
  planes_rise = let P : List ℕ → Type 0 = λ z. (i j : ℕ) → i < j → j < length z → slice_index_or z i 0 < slice_index_or z j 0 in subst P (sym s.planes) h.planes_rise;
  first_plane = let P : List ℕ → Type 0 = λ z. slice_index_or z 0 0 ≤ 360000000 in subst P (sym s.planes) h.first_plane;
  one_turn = let P : List ℕ → Type 0 = λ z. (i : ℕ) → i < length z → slice_index_or z i 0 < slice_index_or z 0 0 + 360000000 in subst P (sym s.planes) h.one_turn;
  two_gammas = let P : List ℕ → Type 0 = λ z. 2 ≤ length z in subst P (sym s.gammas) h.two_gammas;
  gammas_rise = let P : List ℕ → Type 0 = λ z. (i j : ℕ) → i < j → j < length z → slice_index_or z i 0 < slice_index_or z j 0 in subst P (sym s.gammas) h.gammas_rise;
  gammas_up_to = let P : List ℕ → Type 0 = λ z. (j : ℕ) → j < length z → slice_index_or z j 0 ≤ 180000000 in subst P (sym s.gammas) h.gammas_up_to;
  all_values = rw (s.all_values, s.planes, s.gammas) h.all_values;
}

-- no lower end of either lies above the upper end of the other
above_near : (t p : Table) → LiesWithin t p → IsNear p t lower upper (whole 0)
unfolding value
above_near t p s = record {
  planes = sym s.planes;
  gammas = sym s.gammas;
  values = λ i j. let k = i % length p.planes * length p.gammas + j in
      rw (s.planes, s.gammas) (le_trans_f (s.values k).lower (le_trans_f (s.in_order k) (le_add_f _ (whole 0))));
}

below_near : (t p : Table) → LiesWithin t p → IsNear t p lower upper (whole 0)
unfolding value
below_near t p s = record {
  planes = s.planes;
  gammas = s.gammas;
  values = λ i j. let k = i % length p.planes * length p.gammas + j in
      rw (s.planes, s.gammas) (le_trans_f (s.in_order k) (le_trans_f (s.values k).upper (le_add_f _ (whole 0))));
}

bilinear_meets : (t p : Table) → IsTable p → LiesWithin t p → (x y : Fraction) → Meets (bilinear p x y) (bilinear t x y)
unfolding bilinear
bilinear_meets t p h s x y =
    let g = within_table t p h s in
    let z = turn_later x in
    record {
      above = le_trans_f (end_near p t lower upper (whole 0) h g (above_near t p s) z y (first_below p h x)) (add_zero_f _);
      below = le_trans_f (end_near t p lower upper (whole 0) g h (below_near t p s) z y (first_below t g x)) (add_zero_f _);
    }

plane_same : (t p : Table) → LiesWithin t p → (i : ℕ) → plane t i ≡ plane p i
unfolding plane
plane_same t p s i = ap (λ (ps : List ℕ). slice_index_or ps (i % length ps) 0 + 360000000 * (i / length ps)) s.planes

in_plane_meets : (t p : Table) → IsTable p → LiesWithin t p → (k i : ℕ) → Meets (in_plane p k i) (in_plane t k i)
unfolding in_plane
in_plane_meets t p h s k i = rw (plane_same t p s i) (bilinear_meets t p h s (millionths (plane p i)) (middle k))

part_meets : (t p : Table) → IsTable p → LiesWithin t p → (k i : ℕ) → Meets (part p k i) (part t k i)
unfolding part half_sector
part_meets t p h s k i =
    let a = in_plane_meets t p h s k i in
    let b = in_plane_meets t p h s k (i + 1) in
    rw (plane_same t p s i, plane_same t p s (i + 1)) (record {
      above = mul_le_f (le_refl_f _) (add_le_f a.above b.above);
      below = mul_le_f (le_refl_f _) (add_le_f a.below b.below);
    })

pub mean_meets : (t p : Table) → IsTable p → LiesWithin t p → (k : ℕ) → Meets (mean p k) (mean t k)
unfolding mean
mean_meets t p h s k =
    let n = length p.planes in
    let same : n ≡ length t.planes = ap (λ (ps : List ℕ). length ps) (sym s.planes) in
    let P : ℕ → Type 0 = λ z. Meets (sum_of n (part p k)) (sum_of z (part t k)) in
    subst P same (record {
      above = sum_to_le n (λ i. (part p k i).lo) (λ i. (part t k i).hi) (λ i q. (part_meets t p h s k i).above);
      below = sum_to_le n (λ i. (part t k i).lo) (λ i. (part p k i).hi) (λ i q. (part_meets t p h s k i).below);
    })
