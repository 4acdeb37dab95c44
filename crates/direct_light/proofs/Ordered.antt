-- The ends of intensities and shares are in order at every depth.
use Rattle.std.proofs.Common.{ℕ, zero, suc, ◌+◌, ◌*◌, ◌<◌, ◌≤◌, ◌≡◌, inl, inr, Bool, true, false, nat_lt, nat_le, arith, refl, ℤ}
use Rattle.std.proofs.Math.Nat.{mul-pos}
use Rattle.std.proofs.lemmas.Bool.Decides.{nat_tests}
use Rattle.fx_base.specs.Fraction.{Fraction, ◌≤ᶠ◌, ◌+ᶠ◌, ◌*ᶠ◌, ◌/ᶠ◌, ratio, whole, half_power}
use Rattle.fx_base.specs.Interval.{Interval, InOrder, exact, outward}
use Rattle.fx_base.specs.Root.{root}
use Rattle.fx_base.proofs.Order.{le_refl_f, le_trans_f, add_le_f, add_zero_f, mul_le_f, le_add_f, sub_le_self_f, le_of_eq_f}
use Rattle.fx_base.proofs.Ratios.{ratio_le_ratio, over_le_any, le_lesser}
use Rattle.fx_base.proofs.RootLaws.{root_nested}
use Rattle.fx_base.proofs.SearchLaws.{is_true_or_false}
use Rattle.series_enclose.specs.Slant.{slant}
use Rattle.room_layout.specs.Place.{Place, in_front, squared_distance}
use Rattle.room_layout.specs.declared.geometry.Face.{Face}
use Rattle.room_layout.specs.declared.room.Lamp.{Lamp}
use Rattle.room_layout.specs.declared.room.Shine.{Shine}
use Rattle.room_layout.specs.declared.room.Shine.TheVariants.{Even, File}
use Rattle.angle_bracket.specs.Direction.{square, is_positive, less_angle, quarter_angle, direction_gamma}
use Rattle.angle_bracket.proofs.Ordered.{c_in_order, gamma_in_order}
use Rattle.angle_bracket.proofs.Candidates.{low_within}
use Rattle.photo_table.specs.Hull.{hull}
use Rattle.photo_table.specs.Laws.{loose_c, loose_gamma}
use Rattle.photo_table.specs.Table.{Table, value, bilinear, lower, upper}
use Rattle.photo_table.specs.Angles.{turn_later}
use Rattle.photo_table.proofs.HullLaws.{first_below, hull_contains, stands_table}
use Rattle.photo_table.proofs.Tables.{end_near}
use Rattle.direct_light.specs.Directions.{step_towards, c_towards, gamma_towards, seen, loose_seen, bracket_width}
use Rattle.direct_light.specs.Laws.{IsOrdered, ExactIsOrdered, SeenIsInOrder, ShareIsInOrder, LampShareIsInOrder}
use Rattle.direct_light.specs.Lamps.{part_count}
use Rattle.direct_light.specs.Shares.{falloff, fallen, share_of, loosened, table_at}
use Rattle.direct_light.proofs.Falls.{root_low_positive}
use Rattle.direct_light.proofs.Frames.{somewhere_towards}
use Rattle.direct_light.proofs.Shown.{at_most_square}
use Rattle.room_layout.proofs.Apart.{ahead}

-- ---- falloff

product_nothing : (r : ℕ) (d e : Fraction) → (0 < r → 0 < e.num) → (whole r *ᶠ e).num ≡ 0 → (whole r *ᶠ d).num ≡ 0
unfolding whole ◌*ᶠ◌
product_nothing zero d e p h = omega arith
product_nothing (suc r) d e p h = absurd (let q = mul-pos {m = suc r} {n = e.num} (omega arith) (p (omega arith)) in omega (arith, q, h))

falloff_order : (m s a r : ℕ) (i j d e : Fraction) → (0 < r → 0 < e.num) → i ≤ᶠ j → e ≤ᶠ d → falloff m s a r i d ≤ᶠ falloff m s a r j e
unfolding falloff
falloff_order m s a r i j d e p h g =
    over_le_any (i *ᶠ ratio m 1000 *ᶠ whole (a * 4000000) /ᶠ (whole r *ᶠ d)) (whole s) (j *ᶠ ratio m 1000 *ᶠ whole (a * 4000000) /ᶠ (whole r *ᶠ e)) (whole s)
    (over_le_any (i *ᶠ ratio m 1000 *ᶠ whole (a * 4000000)) (whole r *ᶠ d) (j *ᶠ ratio m 1000 *ᶠ whole (a * 4000000)) (whole r *ᶠ e)
    (mul_le_f (mul_le_f h (le_refl_f (ratio m 1000))) (le_refl_f (whole (a * 4000000)))) (mul_le_f (le_refl_f (whole r)) g) (product_nothing r d e p))
    (le_refl_f (whole s)) (λ z. z)

fallen_order : (n m s a r : ℕ) (i : Interval) → InOrder i → InOrder (fallen n m s a r i)
fallen_order n m s a r i h = falloff_order m s a r i.lo i.hi (root n r).hi (root n r).lo (root_low_positive n r) h ((root_nested r).order n)

-- ---- shares

lit_order : (n m s a r : ℕ) (i : Interval) → a ≤ r → (0 < r → InOrder i) → 0 < a → InOrder (fallen n m s a r i)
lit_order n m s a r i l h p = fallen_order n m s a r i (h (omega (arith, l, p)))

in_front_le : (face : Face) (p q : Place) → in_front face p q ≤ squared_distance p q
in_front_le face p q = at_most_square (in_front face p q) (squared_distance p q) (ahead face p q)

pub share_order : (n : ℕ) (i : Interval) (l : Lamp) (q p : Place) (face : Face) (clear : Bool) → (0 < squared_distance p q → InOrder i) → InOrder (share_of n i l q p face clear)
unfolding share_of
share_order n i l q p face false h = le_refl_f (whole 0)
share_order n i l q p face true h = elim (is_true_or_false (nat_lt 0 (in_front face p q))) [
  | inl e ↦
      let some : 0 < in_front face p q = grind (arith, nat_tests) in
      rw (share_of, e) (lit_order n l.maintenance (part_count l) (in_front face p q) (squared_distance p q) i (in_front_le face p q) h some)
  | inr e ↦ rw (share_of, e) (le_refl_f (whole 0))
]

pub loosened_order : (i : Interval) → InOrder i → InOrder (loosened i)
unfolding loosened
loosened_order i h =
    le_trans_f (sub_le_self_f (i.lo *ᶠ ratio 16777215 16777216) (half_power 20))
    (le_trans_f (mul_le_f h (ratio_le_ratio 16777215 16777216 16777217 16777216 (omega arith) (omega arith) (omega arith))) (le_add_f (i.hi *ᶠ ratio 16777217 16777216) (half_power 20)))

pub shares_in_order : ShareIsInOrder
shares_in_order n i l q p face clear h =
    let g = share_order n i l q p face clear h in (g, loosened_order (share_of n i l q p face clear) g)

-- ---- intensities

pub outward_order : (e : Fraction) (i : Interval) → InOrder i → InOrder (outward e i)
outward_order e i h = le_trans_f (sub_le_self_f i.lo e) (le_trans_f h (le_add_f i.hi e))

middle_order : (t : Table) → IsOrdered t → (x y : Fraction) → InOrder (bilinear t x y)
unfolding bilinear
middle_order t h x y =
    le_trans_f (end_near t t lower upper (whole 0) h.is_table h.is_table
    (record { planes = refl; gammas = refl; values = λ i j. le_trans_f (h.values i j) (le_add_f (value t i j).hi (whole 0)) })
    (turn_later x) y (first_below t h.is_table x)) (add_zero_f _)

hull_order : (t : Table) → IsOrdered t → (c g : Interval) → InOrder c → InOrder g → InOrder (hull t c g)
hull_order t h c g order_c order_g =
    let inside = hull_contains t h.is_table c g c.lo g.lo (le_refl_f c.lo, order_c) (le_refl_f g.lo, order_g) in
    le_trans_f inside.lower (le_trans_f (middle_order t h c.lo g.lo) inside.upper)

loose_c_order : (w : Fraction) (c : Interval) → InOrder c → InOrder (loose_c w c)
loose_c_order w c h = le_trans_f (sub_le_self_f (c.lo +ᶠ whole 360) w) (le_trans_f (add_le_f h (le_refl_f (whole 360))) (le_add_f (c.hi +ᶠ whole 360) w))

loose_gamma_order : (w : Fraction) (g : Interval) → InOrder g → g.lo ≤ᶠ whole 180 → InOrder (loose_gamma w g)
loose_gamma_order w g h below =
    le_lesser (g.hi +ᶠ w) (whole 180) (le_trans_f (sub_le_self_f g.lo w) (le_trans_f h (le_add_f g.hi w))) (le_trans_f (sub_le_self_f g.lo w) below)

-- gamma is at most 180 degrees
within_half : (m : ℕ) → m ≤ 180 → whole m ≤ᶠ whole 180
unfolding whole
within_half m h = record { cross = omega arith }

quarter_below : (n x y : ℕ) → (quarter_angle n x y).lo ≤ᶠ whole 180
unfolding quarter_angle less_angle
quarter_below n x y = elim (is_true_or_false (nat_le y x)) [
  | inl e ↦ rw (quarter_angle, e) (le_trans_f (low_within n x y) (within_half 45 (omega arith)))
  | inr e ↦ rw (quarter_angle, e) (le_trans_f (sub_le_self_f (whole 90) (slant n y x).hi) (within_half 90 (omega arith)))
]

gamma_below : (n : ℕ) (dx dy dz : ℤ) → (direction_gamma n dx dy dz).lo ≤ᶠ whole 180
unfolding direction_gamma less_angle
gamma_below n dx dy dz = elim (is_true_or_false (is_positive dz)) [
  | inl e ↦ rw (direction_gamma, e) (sub_le_self_f (whole 180) (quarter_angle n (square dz) (square dx + square dy)).hi)
  | inr e ↦ rw (direction_gamma, e) (quarter_below n (square dz) (square dx + square dy))
]

pub seen_in_order : SeenIsInOrder
seen_in_order t h n l q p apart =
    let c = c_in_order n (step_towards l q p).x (step_towards l q p).y l.turn in
    let g = gamma_in_order n (step_towards l q p).x (step_towards l q p).y (step_towards l q p).z (somewhere_towards l q p apart) in
    let below = gamma_below n (step_towards l q p).x (step_towards l q p).y (step_towards l q p).z in (
      hull_order t h (c_towards n l q p) (gamma_towards n l q p) c g,
      outward_order (half_power 30) (hull t (loose_c bracket_width (c_towards n l q p)) (loose_gamma bracket_width (gamma_towards n l q p)))
          (hull_order t h (loose_c bracket_width (c_towards n l q p)) (loose_gamma bracket_width (gamma_towards n l q p))
          (loose_c_order bracket_width (c_towards n l q p) c) (loose_gamma_order bracket_width (gamma_towards n l q p) g below)),
    )

pub exact_is_ordered : ExactIsOrdered
exact_is_ordered p t h s = record { is_table = stands_table p t h s; values = λ i j. le_of_eq_f (s.exact i j) }

-- ---- a lamp as it shines

pub lamp_shares_in_order : LampShareIsInOrder
lamp_shares_in_order n tables l q p face clear h = elim l.shine as (λ (s : Shine). ((k : ℕ) → s ≡ File k → IsOrdered (table_at tables k)) →
    InOrder (share_of n (elim s [ Even candela ↦ exact (whole candela) | File k ↦ seen n (table_at tables k) l q p ]) l q p face clear)
    × InOrder (loosened (share_of n (elim s [ Even candela ↦ outward (half_power 30) (exact (whole candela)) | File k ↦ loose_seen n (table_at tables k) l q p ]) l q p face clear))) [
      | Even candela ↦ λ g. (
        share_order n (exact (whole candela)) l q p face clear (λ d. le_refl_f (whole candela)),
        (shares_in_order n (outward (half_power 30) (exact (whole candela))) l q p face clear (λ d. outward_order (half_power 30) (exact (whole candela)) (le_refl_f (whole candela)))).1,
      )
      | File k ↦ λ g. (
        share_order n (seen n (table_at tables k) l q p) l q p face clear (λ d. (seen_in_order (table_at tables k) (g k refl) n l q p d).0),
        (shares_in_order n (loose_seen n (table_at tables k) l q p) l q p face clear (λ d. (seen_in_order (table_at tables k) (g k refl) n l q p d).1)).1,
      )
    ] h
