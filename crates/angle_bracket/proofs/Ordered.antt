-- The ends of the directions' enclosures are in order at every depth.
use Rattle.std.proofs.Common.{ℕ, ◌+◌, ◌<◌, ◌≤◌, inl, inr, Bool, true, false, arith, ℤ, nat_le, nat_eq}
use Rattle.std.proofs.lemmas.Bool.Decides.{nat_tests}
use Rattle.fx_base.specs.Fraction.{whole, at_most}
use Rattle.fx_base.specs.Interval.{Interval, InOrder}
use Rattle.fx_base.proofs.Order.{le_refl_f, add_le_f, sub_mono_f}
use Rattle.fx_base.proofs.SearchLaws.{is_true_or_false}
use Rattle.series_enclose.specs.Slant.{slant}
use Rattle.series_enclose.proofs.SlantLaws.{slant_nested}
use Rattle.angle_bracket.specs.Direction.{square, is_negative, is_positive, less_angle, plus_angle, quarter_angle, in_quarter, angle_c, less_turn, brought, direction_c, direction_gamma}

less_order : (d : ℕ) (t : Interval) → InOrder t → InOrder (less_angle d t)
unfolding less_angle
less_order d t h = sub_mono_f (le_refl_f (whole d)) h

plus_order : (d : ℕ) (t : Interval) → InOrder t → InOrder (plus_angle d t)
unfolding plus_angle
plus_order d t h = add_le_f (le_refl_f (whole d)) h

quarter_order : (n x y : ℕ) → 0 < x + y → InOrder (quarter_angle n x y)
unfolding quarter_angle
quarter_order n x y h = elim (is_true_or_false (nat_le y x)) [
  | inl e ↦
      let k : y ≤ x = grind (arith, nat_tests) in
      rw (quarter_angle, e) ((slant_nested x y (omega arith)).order n)
  | inr e ↦
      let k : x < y = grind (arith, nat_tests) in
      rw (quarter_angle, e) (less_order 90 (slant n y x) ((slant_nested y x (omega arith)).order n))
]

in_quarter_order : (west south : Bool) (t : Interval) → InOrder t → InOrder (in_quarter west south t)
unfolding in_quarter
in_quarter_order true true t h = plus_order 180 t h
in_quarter_order false true t h = less_order 360 t h
in_quarter_order true false t h = less_order 180 t h
in_quarter_order false false t h = h

less_turn_order : (turn : ℕ) (t : Interval) → InOrder t → InOrder (less_turn turn t)
unfolding less_turn
less_turn_order turn t h = sub_mono_f (add_le_f h (le_refl_f (whole 360))) (le_refl_f (whole turn))

brought_order : (t : Interval) → InOrder t → InOrder (brought t)
unfolding brought
brought_order t h = elim (is_true_or_false (at_most (whole 360) t.lo)) [
  | inl e ↦ rw (brought, e) (sub_mono_f h (le_refl_f (whole 360)))
  | inr e ↦ rw (brought, e) h
]

pub c_in_order : (n : ℕ) (dx dy : ℤ) (turn : ℕ) → InOrder (direction_c n dx dy turn)
unfolding direction_c angle_c
c_in_order n dx dy turn = elim (is_true_or_false (nat_eq (square dx + square dy) 0)) [
  | inl e ↦ rw (direction_c, e) (le_refl_f (whole 0))
  | inr e ↦
      let some : 0 < square dx + square dy = grind (arith, nat_tests) in
      rw (direction_c, e) (brought_order (less_turn turn (angle_c n dx dy)) (less_turn_order turn (angle_c n dx dy)
      (in_quarter_order (is_negative dx) (is_negative dy) (quarter_angle n (square dx) (square dy)) (quarter_order n (square dx) (square dy) some))))
]

pub gamma_in_order : (n : ℕ) (dx dy dz : ℤ) → 0 < square dx + square dy + square dz → InOrder (direction_gamma n dx dy dz)
unfolding direction_gamma
gamma_in_order n dx dy dz some =
    let t = quarter_angle n (square dz) (square dx + square dy) in
    let h = quarter_order n (square dz) (square dx + square dy) (omega arith) in
    elim (is_true_or_false (is_positive dz)) [
      | inl e ↦ rw (direction_gamma, e) (less_order 180 t h)
      | inr e ↦ rw (direction_gamma, e) h
    ]
