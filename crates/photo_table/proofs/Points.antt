-- One direction: it may be said by any fraction of the same number, and some turns later it is the same direction.
use Rattle.std.proofs.Common.{ℕ, suc, ◌*◌}
use Rattle.fx_base.specs.Fraction.{Fraction, ◌≤ᶠ◌, ◌≈ᶠ◌, ◌+ᶠ◌, whole, lesser, greater}
use Rattle.fx_base.specs.Interval.{Interval, Contains, exact}
use Rattle.fx_base.specs.Units.{millionths}
use Rattle.fx_base.proofs.Order.{le_refl_f, le_trans_f, le_lt_trans_f, lt_le_trans_f, eq_of_le_f, eq_sym_f, eq_trans_f, eq_refl_f, le_of_eq_f, ge_of_eq_f, add_swap_f, add_le_f}
use Rattle.photo_table.specs.Angles.{turn_later, later}
use Rattle.photo_table.specs.Axis.{between}
use Rattle.photo_table.specs.Table.{Table, IsTable, plane, gamma, end_at, lower, upper, bilinear}
use Rattle.photo_table.specs.Hull.{hull}
use Rattle.photo_table.specs.Laws.{HullAtPoint, PlanesGoRound, IntensityGoesRound}
use Rattle.photo_table.proofs.Between.{IsOn, between_at_most, between_at_least, between_eq}
use Rattle.photo_table.proofs.Outward.{outward_below, outward_above}
use Rattle.photo_table.proofs.Sheet.{across}
use Rattle.photo_table.proofs.Tables.{plane_later, plane_piece, stands, end_below, end_above, end_straight, end_moved}
use Rattle.photo_table.proofs.Tables.Stands.{under, over, inside}
use Rattle.photo_table.proofs.Hulls.{extreme_all}
use Rattle.photo_table.proofs.HullLaws.{first_below, turn_later_le, turn_later_is}

on_same : (a b : ℕ) (x u : Fraction) → x ≈ᶠ u → IsOn a b x → IsOn a b u
on_same a b x u e on = record { rise = on.rise; low = le_trans_f on.low (le_of_eq_f e); high = le_trans_f (ge_of_eq_f e) on.high }

-- the line at two fractions of the same number
between_same : (a b : ℕ) (x u p q : Fraction) → x ≈ᶠ u → IsOn a b x → between x a p b q ≈ᶠ between u a p b q
between_same a b x u p q e on =
    let there = on_same a b x u e on in
    let m = between u a p b q in
    eq_of_le_f
    (between_at_most a b p q m u x u there on there (ge_of_eq_f e) (le_of_eq_f e) (le_refl_f m) (le_refl_f m))
    (between_at_least a b p q m u x u there on there (ge_of_eq_f e) (le_of_eq_f e) (le_refl_f m) (le_refl_f m))

-- the intensity at two such pairs
end_same : (end : Interval → Fraction) (t : Table) → IsTable t → (x y u v : Fraction) → millionths (plane t 0) ≤ᶠ x → x ≈ᶠ u → y ≈ᶠ v
    → end_at end t x y ≈ᶠ end_at end t u v
unfolding across
end_same end t h x y u v low e f = elim (stands t h y) [
  | under s ↦ rw (end_below end t x y s, end_below end t u v (le_lt_trans_f (ge_of_eq_f f) s)) (eq_refl_f (whole 0))
  | over s ↦ rw (end_above end t x y s, end_above end t u v (lt_le_trans_f s (le_of_eq_f f))) (eq_refl_f (whole 0))
  | inside g ↦
      let p = plane_piece t h x low in
      let i = p.i in
      let j = g.i in
      let on_u = on_same (plane t i) (plane t (suc i)) x u e p.on in
      let on_v = on_same (gamma t j) (gamma t (suc j)) y v f g.on in
      eq_trans_f ((end_straight end t h i j g.within).value x y p.on g.on)
      (eq_trans_f (between_same (plane t i) (plane t (suc i)) x u _ _ e p.on)
      (eq_trans_f (between_eq (plane t i) (plane t (suc i)) u _ _ _ _
      (between_same (gamma t j) (gamma t (suc j)) y v _ _ f g.on)
      (between_same (gamma t j) (gamma t (suc j)) y v _ _ f g.on))
      (eq_sym_f ((end_straight end t h i j g.within).value u v on_u on_v))))
]

-- nothing that is in an exact interval is another number
only : (x u : Fraction) → Contains (exact x) u → x ≈ᶠ u
only x u h = eq_of_le_f h.0 h.1

pub hull_at_point : HullAtPoint
unfolding hull bilinear
hull_at_point t h x y =
    let low = first_below t h x in
    let order = turn_later_le (le_refl_f x) in
    record {
      lower = extreme_all lesser (λ a b. a ≤ᶠ b) outward_below lower t (later (exact x)) (exact y) (end_at lower t (turn_later x) y) order (le_refl_f y)
          (λ u v in_c in_g. le_of_eq_f (end_same lower t h (turn_later x) y u v low (only (turn_later x) u in_c) (only y v in_g)));
      upper = extreme_all greater (λ a b. b ≤ᶠ a) outward_above upper t (later (exact x)) (exact y) (end_at upper t (turn_later x) y) order (le_refl_f y)
          (λ u v in_c in_g. ge_of_eq_f (end_same upper t h (turn_later x) y u v low (only (turn_later x) u in_c) (only y v in_g)));
    }

pub planes_go_round : PlanesGoRound
planes_go_round = plane_later

-- z is some turns after x, both a turn later
turns_later : (turns : ℕ) (x z : Fraction) → z ≈ᶠ (x +ᶠ whole (360 * turns)) → turn_later z ≈ᶠ (turn_later x +ᶠ whole (360 * turns))
turns_later turns x z e =
    let w = whole (360 * turns) in
    eq_of_le_f
    (le_trans_f (le_of_eq_f (turn_later_is z))
    (le_trans_f (add_le_f (le_of_eq_f e) (le_refl_f (whole 360)))
    (le_trans_f (add_swap_f x w (whole 360)) (add_le_f (ge_of_eq_f (turn_later_is x)) (le_refl_f w)))))
    (le_trans_f (add_le_f (le_of_eq_f (turn_later_is x)) (le_refl_f w))
    (le_trans_f (add_swap_f x (whole 360) w)
    (le_trans_f (add_le_f (ge_of_eq_f e) (le_refl_f (whole 360))) (ge_of_eq_f (turn_later_is z)))))

pub intensity_goes_round : IntensityGoesRound
unfolding bilinear
intensity_goes_round t h turns x z y e =
    let low = first_below t h x in
    let f = turns_later turns x z e in
    record {
      lower = end_moved lower t h turns (turn_later x) (turn_later z) y low f;
      upper = end_moved upper t h turns (turn_later x) (turn_later z) y low f;
    }
