-- What is done to an angle between whole millionths of a degree meets what is done to an enclosure that it meets.
use mir.Syntax.{w32}
use mir.Val.{SFits, of_z, to_z}
use Rattle.std.proofs.Common.{ℕ, ◌+◌, ◌-◌, ◌*◌, ◌<◌, ◌≤◌, ◌≡◌, inl, inr, Bool, true, false, arith, nat_le, nat_eq, ℤ, ◌∙◌, ap, sym, subst}
use Rattle.std.proofs.lemmas.Bool.Decides.{nat_tests}
use Rattle.std.proofs.lemmas.Int.{to_z-of_z}
use Rattle.fx_base.specs.Fraction.{◌≤ᶠ◌, ◌+ᶠ◌, ◌-ᶠ◌, whole, at_most}
use Rattle.fx_base.specs.Interval.{Interval, exact, Meets, MeetsOnCircle}
use Rattle.fx_base.specs.Units.{millionths, micros_between}
use Rattle.fx_base.proofs.Order.{le_refl_f, le_trans_f, add_le_f, sub_mono_f, sub_le_f, le_sub_f, sub_add_f, le_sub_add_f, add_zero_f, le_add_f, at_most_le}
use Rattle.fx_base.proofs.SearchLaws.{is_true_or_false}
use Rattle.series_enclose.specs.Slant.{slant}
use Rattle.angle_bracket.specs.Direction.{square, is_negative, is_positive, less_angle, plus_angle, quarter_angle, in_quarter, angle_c, less_turn, brought, direction_c, direction_gamma}

-- ---- millionths and whole degrees

sub_split : (d m : ℕ) → millionths (d * 1000000 - m) ≤ᶠ (whole d -ᶠ millionths m)
unfolding millionths whole ◌-ᶠ◌
sub_split d m = record { cross = omega arith }

sub_join : (d m : ℕ) → (whole d -ᶠ millionths m) ≤ᶠ millionths (d * 1000000 - m)
unfolding millionths whole ◌-ᶠ◌
sub_join d m = record { cross = omega arith }

add_split : (d m : ℕ) → millionths (d * 1000000 + m) ≤ᶠ (whole d +ᶠ millionths m)
unfolding millionths whole ◌+ᶠ◌
add_split d m = record { cross = omega arith }

add_join : (d m : ℕ) → (whole d +ᶠ millionths m) ≤ᶠ millionths (d * 1000000 + m)
unfolding millionths whole ◌+ᶠ◌
add_join d m = record { cross = omega arith }

rest_split : (turn m : ℕ) → turn < 360 → millionths (m + (360 - turn) * 1000000) ≤ᶠ ((millionths m +ᶠ whole 360) -ᶠ whole turn)
unfolding millionths whole ◌+ᶠ◌ ◌-ᶠ◌
rest_split turn m h = record { cross = omega arith }

rest_join : (turn m : ℕ) → turn < 360 → ((millionths m +ᶠ whole 360) -ᶠ whole turn) ≤ᶠ millionths (m + (360 - turn) * 1000000)
unfolding millionths whole ◌+ᶠ◌ ◌-ᶠ◌
rest_join turn m h = record { cross = omega arith }

-- ---- an angle less or more

pub meets_less : (d lo hi : ℕ) (t : Interval) → Meets (micros_between lo hi) t → Meets (micros_between (d * 1000000 - hi) (d * 1000000 - lo)) (less_angle d t)
unfolding less_angle
meets_less d lo hi t m = record {
  above = le_trans_f (sub_split d hi) (sub_mono_f (le_refl_f (whole d)) m.below);
  below = le_trans_f (sub_mono_f (le_refl_f (whole d)) m.above) (sub_join d lo);
}

pub meets_plus : (d lo hi : ℕ) (t : Interval) → Meets (micros_between lo hi) t → Meets (micros_between (d * 1000000 + lo) (d * 1000000 + hi)) (plus_angle d t)
unfolding plus_angle
meets_plus d lo hi t m = record {
  above = le_trans_f (add_split d lo) (add_le_f (le_refl_f (whole d)) m.above);
  below = le_trans_f (add_le_f (le_refl_f (whole d)) m.below) (add_join d hi);
}

meets_less_turn : (turn lo hi : ℕ) (t : Interval) → turn < 360 → Meets (micros_between lo hi) t
    → Meets (micros_between (lo + (360 - turn) * 1000000) (hi + (360 - turn) * 1000000)) (less_turn turn t)
unfolding less_turn
meets_less_turn turn lo hi t h m = record {
  above = le_trans_f (rest_split turn lo h) (sub_mono_f (add_le_f m.above (le_refl_f (whole 360))) (le_refl_f (whole turn)));
  below = le_trans_f (sub_mono_f (add_le_f m.below (le_refl_f (whole 360))) (le_refl_f (whole turn))) (rest_join turn hi h);
}

-- ---- by a test

pub meets_flat : (n x y : ℕ) (a : Interval) → y ≤ x → Meets a (slant n x y) → Meets a (quarter_angle n x y)
unfolding quarter_angle
meets_flat n x y a h m = let e : nat_le y x ≡ true = grind (arith, nat_tests) in rw (quarter_angle, e) m

pub meets_steep : (n x y lo hi : ℕ) → x < y → Meets (micros_between lo hi) (slant n y x)
    → Meets (micros_between (90 * 1000000 - hi) (90 * 1000000 - lo)) (quarter_angle n x y)
unfolding quarter_angle
meets_steep n x y lo hi h m =
    let e : nat_le y x ≡ false = grind (arith, nat_tests) in
    let k = meets_less 90 lo hi (slant n y x) m in
    rw (quarter_angle, e) k

-- ---- whole turns

no_turn : (a b : Interval) → Meets a b → MeetsOnCircle a b
no_turn a b m = (0, inl (record { above = le_trans_f (add_zero_f a.lo) m.above; below = le_trans_f m.below (le_add_f a.hi (whole 0)) }))

meets_brought : (a b : Interval) → Meets a b → MeetsOnCircle a (brought b)
unfolding brought
meets_brought a b m = elim (is_true_or_false (at_most (whole 360) b.lo)) [
  | inl e ↦ rw (brought, e) ((
    1,
    inr (record {
      above = le_trans_f m.above (le_sub_add_f b.hi (whole 360));
      below = le_trans_f (sub_add_f b.lo (whole 360) (at_most_le (whole 360) b.lo e)) m.below;
    }),
  ))
  | inr e ↦ rw (brought, e) (no_turn a b m)
]

-- where the code has taken a whole turn off
earlier_brought : (c a b : Interval) → (c.lo +ᶠ whole 360) ≤ᶠ a.lo → a.hi ≤ᶠ (c.hi +ᶠ whole 360) → Meets a b → MeetsOnCircle c (brought b)
unfolding brought
earlier_brought c a b low high m = elim (is_true_or_false (at_most (whole 360) b.lo)) [
  | inl e ↦ rw (brought, e) (no_turn c (record { lo = b.lo -ᶠ whole 360; hi = b.hi -ᶠ whole 360 }) (record {
    above = le_sub_f b.hi (whole 360) (le_trans_f low m.above);
    below = sub_le_f b.lo (whole 360) (le_trans_f m.below high);
  }))
  | inr e ↦ rw (brought, e) ((1, inl (record { above = le_trans_f low m.above; below = le_trans_f m.below high })))
]

-- a whole turn off
turn_low : (m : ℕ) → 360000000 ≤ m → (millionths (m - 360000000) +ᶠ whole 360) ≤ᶠ millionths m
unfolding millionths whole ◌+ᶠ◌
turn_low m h = record { cross = omega arith }

turn_high : (m : ℕ) → millionths m ≤ᶠ (millionths (m - 360000000) +ᶠ whole 360)
unfolding millionths whole ◌+ᶠ◌
turn_high m = record { cross = omega arith }

pub meets_turned : (turn lo hi : ℕ) (t : Interval) → turn < 360 → Meets (micros_between lo hi) t
    → MeetsOnCircle (micros_between (lo + (360 - turn) * 1000000) (hi + (360 - turn) * 1000000)) (brought (less_turn turn t))
meets_turned turn lo hi t h m =
    meets_brought (micros_between (lo + (360 - turn) * 1000000) (hi + (360 - turn) * 1000000)) (less_turn turn t) (meets_less_turn turn lo hi t h m)

pub meets_turned_earlier : (turn lo hi : ℕ) (t : Interval) → turn < 360 → 360000000 ≤ lo + (360 - turn) * 1000000 → Meets (micros_between lo hi) t
    → MeetsOnCircle (micros_between (lo + (360 - turn) * 1000000 - 360000000) (hi + (360 - turn) * 1000000 - 360000000)) (brought (less_turn turn t))
meets_turned_earlier turn lo hi t h late m =
    let low = lo + (360 - turn) * 1000000 in
    let high = hi + (360 - turn) * 1000000 in
    earlier_brought (micros_between (low - 360000000) (high - 360000000)) (micros_between low high) (less_turn turn t)
    (turn_low low late) (turn_high high) (meets_less_turn turn lo hi t h m)

-- ---- by quarters

pub meets_south_west : (west south : Bool) (lo hi : ℕ) (t : Interval) → south ≡ true → west ≡ true → Meets (micros_between lo hi) t
    → Meets (micros_between (180 * 1000000 + lo) (180 * 1000000 + hi)) (in_quarter west south t)
unfolding in_quarter
meets_south_west west south lo hi t s w m = rw (in_quarter, s, w) (meets_plus 180 lo hi t m)

pub meets_south_east : (west south : Bool) (lo hi : ℕ) (t : Interval) → south ≡ true → west ≡ false → Meets (micros_between lo hi) t
    → Meets (micros_between (360 * 1000000 - hi) (360 * 1000000 - lo)) (in_quarter west south t)
unfolding in_quarter
meets_south_east west south lo hi t s w m = rw (in_quarter, s, w) (meets_less 360 lo hi t m)

pub meets_north_west : (west south : Bool) (lo hi : ℕ) (t : Interval) → south ≡ false → west ≡ true → Meets (micros_between lo hi) t
    → Meets (micros_between (180 * 1000000 - hi) (180 * 1000000 - lo)) (in_quarter west south t)
unfolding in_quarter
meets_north_west west south lo hi t s w m = rw (in_quarter, s, w) (meets_less 180 lo hi t m)

pub meets_north_east : (west south : Bool) (lo hi : ℕ) (t : Interval) → south ≡ false → west ≡ false → Meets (micros_between lo hi) t
    → Meets (micros_between lo hi) (in_quarter west south t)
unfolding in_quarter
meets_north_east west south lo hi t s w m = rw (in_quarter, s, w) m

-- ---- the two angles

-- what a call has made of a coordinate that was passed as 32 bits
pub squared : (d : ℤ) (r : ℕ) → SFits w32 d → r ≡ square (to_z w32 (of_z w32 d)) → r ≡ square d
squared d r fits e = e ∙ ap square (to_z-of_z w32 d fits)

pub tested : (test : ℤ → Bool) (d : ℤ) (b : Bool) → SFits w32 d → test (to_z w32 (of_z w32 d)) ≡ b → test d ≡ b
tested test d b fits e = sym (ap test (to_z-of_z w32 d fits)) ∙ e

pub same_quarter : (dx dy : ℤ) (q a : Interval) → SFits w32 dx → SFits w32 dy
    → ((t : Interval) → Meets q t → Meets a (in_quarter (is_negative (to_z w32 (of_z w32 dx))) (is_negative (to_z w32 (of_z w32 dy))) t))
    → (t : Interval) → Meets q t → Meets a (in_quarter (is_negative dx) (is_negative dy) t)
same_quarter dx dy q a fits fits' quarter t m =
    let P : ℤ → ℤ → Type 0 = λ x y. Meets a (in_quarter (is_negative x) (is_negative y) t) in
    subst (λ (x : ℤ). P x dy) (to_z-of_z w32 dx fits) (subst (λ (y : ℤ). P (to_z w32 (of_z w32 dx)) y) (to_z-of_z w32 dy fits') (quarter t m))

nothing_meets : Meets (micros_between 0 0) (exact (whole 0))
unfolding millionths whole
nothing_meets = record { above = record { cross = omega arith }; below = record { cross = omega arith } }

pub meets_nowhere : (n : ℕ) (dx dy : ℤ) (turn : ℕ) → square dx + square dy ≡ 0 → MeetsOnCircle (micros_between 0 0) (direction_c n dx dy turn)
unfolding direction_c
meets_nowhere n dx dy turn none =
    let e : nat_eq (square dx + square dy) 0 ≡ true = grind (arith, nat_tests) in
    rw (direction_c, e) (no_turn (micros_between 0 0) (exact (whole 0)) nothing_meets)

pub meets_c : (n east north turn : ℕ) (dx dy : ℤ) (q a r : Interval) → east ≡ square dx → north ≡ square dy → 0 < east + north
    → Meets q (quarter_angle n east north) → ((t : Interval) → Meets q t → Meets a (in_quarter (is_negative dx) (is_negative dy) t))
    → ((t : Interval) → Meets a t → MeetsOnCircle r (brought (less_turn turn t))) → MeetsOnCircle r (direction_c n dx dy turn)
unfolding direction_c angle_c
meets_c n east north turn dx dy q a r e f some m quarter back =
    let k = rw (e, f) at m in
    let test : nat_eq (square dx + square dy) 0 ≡ false = grind (arith, nat_tests) in
    rw (direction_c, test) (back (angle_c n dx dy) (quarter (quarter_angle n (square dx) (square dy)) k))

pub meets_gamma_above : (n v h lo hi : ℕ) (dx dy dz : ℤ) → v ≡ square dz → h ≡ square dx + square dy → is_positive dz ≡ true
    → Meets (micros_between lo hi) (quarter_angle n v h) → Meets (micros_between (180 * 1000000 - hi) (180 * 1000000 - lo)) (direction_gamma n dx dy dz)
unfolding direction_gamma
meets_gamma_above n v h lo hi dx dy dz e f test m =
    let k = rw (e, f) at m in
    rw (direction_gamma, test) (meets_less 180 lo hi (quarter_angle n (square dz) (square dx + square dy)) k)

pub meets_gamma_below : (n v h lo hi : ℕ) (dx dy dz : ℤ) → v ≡ square dz → h ≡ square dx + square dy → is_positive dz ≡ false
    → Meets (micros_between lo hi) (quarter_angle n v h) → Meets (micros_between lo hi) (direction_gamma n dx dy dz)
unfolding direction_gamma
meets_gamma_below n v h lo hi dx dy dz e f test m =
    let k = rw (e, f) at m in
    rw (direction_gamma, test) k
