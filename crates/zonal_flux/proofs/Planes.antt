-- Planes and the intensities in them.
use Rattle.std.proofs.Common.{ℕ, ◌+◌, ◌-◌, ◌*◌, ◌/◌, ◌%◌, ◌≤◌, ◌≡◌, pos, ◌≤ℤ◌, length, arith, subst, sym}
use Rattle.fx_base.specs.Ends.{Ends}
use Rattle.fx_base.specs.Fraction.{◌≤ᶠ◌, ◌≈ᶠ◌, ◌+ᶠ◌, whole}
use Rattle.fx_base.specs.Interval.{LiesIn}
use Rattle.fx_base.specs.Units.{millionths, micros_between, natural, of_span, ticks}
use Rattle.fx_base.proofs.Order.{le_refl_f, le_trans_f, le_of_eq_f, ge_of_eq_f, add_le_f}
use Rattle.fx_base.proofs.Sums.{ticks_le, ticks_split}
use Rattle.photo_table.specs.Table.{Table, IsTable, plane, upper, bilinear}
use Rattle.photo_table.specs.Hull.{hull}
use Rattle.photo_table.specs.Kept.{IsGreatest, Rounds}
use Rattle.photo_table.specs.Laws.{AreSame}
use Rattle.photo_table.proofs.Tables.{plane_le, plane_step}
use Rattle.photo_table.proofs.Points.{hull_at_point, planes_go_round, intensity_goes_round}
use Rattle.zonal_flux.specs.Fluxes.{in_plane, middle}
use Rattle.zonal_flux.specs.Steps.{IsInPlane}

-- ---- angles

pub first_again : (t : Table) → IsTable t → (i : ℕ) → i ≡ length t.planes → plane t i ≡ plane t 0 + 360000000
first_again t h i e =
    let g = planes_go_round t h 0 1 in
    let f : 0 + length t.planes * 1 ≡ i = omega arith in
    let P : ℕ → Type 0 = λ z. plane t z ≡ plane t 0 + 360000000 * 1 in
    let k = subst P f g in
    omega (arith, k)

-- the planes rise from the first one, by a turn at most
pub plane_after : (t : Table) → IsTable t → (i : ℕ) → plane t i ≤ plane t (i + 1)
plane_after t h i = plane_le t h i (i + 1) (omega arith)

pub plane_width : (t : Table) → IsTable t → (i : ℕ) → plane t (i + 1) - plane t i ≤ 360000000
plane_width t h i = let g = plane_step t h i in omega (arith, g)

pub first_is_least : (t : Table) → IsTable t → (i : ℕ) → plane t 0 ≤ plane t i
first_is_least t h i = plane_le t h 0 i (omega arith)

pub whole_turn : (t : Table) → IsTable t → plane t (length t.planes) - plane t 0 ≡ 360000000
whole_turn t h = let g = first_again t h (length t.planes) (omega arith) in omega (arith, g)

pub part_of_turn : (t : Table) → IsTable t → (i : ℕ) → i ≤ length t.planes → plane t i - plane t 0 ≤ 360000000
part_of_turn t h i p =
    let g = whole_turn t h in
    let k = plane_le t h i (length t.planes) p in
    omega (arith, g, k)

-- ---- the intensity in a plane

turns_apart : (a b turns : ℕ) → b ≡ a + 360000000 * turns → millionths b ≈ᶠ (millionths a +ᶠ whole (360 * turns))
unfolding millionths ◌+ᶠ◌ whole
turns_apart a b turns e = record { cross = rw e (omega arith) }

-- it is that of the plane of the table from which plane i is some turns away
in_plane_same : (t : Table) → IsTable t → (k i : ℕ) → AreSame (in_plane t k i) (bilinear t (millionths (plane t (i % length t.planes))) (middle k))
unfolding in_plane
in_plane_same t h k i =
    let n = length t.planes in
    let some = h.some_plane in
    let f : i % n + n * (i / n) ≡ i = omega arith in
    let P : ℕ → Type 0 = λ z. plane t z ≡ plane t (i % n) + 360000000 * (i / n) in
    let e : plane t i ≡ plane t (i % n) + 360000000 * (i / n) = subst P f (planes_go_round t h (i % n) (i / n)) in
    intensity_goes_round t h (i / n) (millionths (plane t (i % n))) (millionths (plane t i)) (middle k)
    (turns_apart (plane t (i % n)) (plane t i) (i / n) e)

one_up : (hi : ℕ) → ticks hi ≤ᶠ (ticks (hi - 1) +ᶠ ticks 1)
one_up hi = le_trans_f (ticks_le hi (hi - 1 + 1) (omega arith)) (ticks_split (hi - 1) 1)

-- the hull over one direction, rounded, is the intensity there rounded by a tick
pub in_plane_is : (p : Table) → IsTable p → (k i a g : ℕ) (s : Ends) → s.lo ≤ℤ s.hi → a ≡ plane p (i % length p.planes) → g ≡ k * 5000000 + 2500000
    → Rounds (hull p (micros_between a a) (micros_between g g)).lo (hull p (micros_between a a) (micros_between g g)).hi (natural s.lo) (natural s.hi)
    → LiesIn (bilinear p (millionths a) (millionths g)) (of_span s) → pos 0 ≤ℤ s.lo → natural s.hi ≤ 687194767360000001
    → ((m : ℕ) → IsGreatest upper p (ticks m) → natural s.hi ≤ m + 1) → IsInPlane p k i s
in_plane_is p h k i a g s order ea eg r inside low bright most =
    let A : ℕ → Type 0 = λ z. AreSame (in_plane p k i) (bilinear p (millionths z) (middle k)) in
    let G : ℕ → Type 0 = λ z. AreSame (in_plane p k i) (bilinear p (millionths a) (millionths z)) in
    let same = subst G (sym eg) (subst A (sym ea) (in_plane_same p h k i)) in
    let point = hull_at_point p h (millionths a) (millionths g) in
    record {
      low = le_trans_f inside.lower (ge_of_eq_f same.lower);
      low_near = le_trans_f (le_of_eq_f same.lower) (le_trans_f point.lower r.low_near);
      high = le_trans_f (le_of_eq_f same.upper) inside.upper;
      high_near = le_trans_f (one_up (natural s.hi))
          (add_le_f (le_trans_f r.high_near (le_trans_f point.upper (ge_of_eq_f same.upper))) (le_refl_f (ticks 1)));
      not_negative = low;
      in_order = order;
      bright = bright;
      below_the_greatest = most;
    }
