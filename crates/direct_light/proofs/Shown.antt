-- A share where the plane has light of the point, and where it has none.
use Rattle.std.proofs.Common.{ℕ, zero, suc, ◌*◌, ◌<◌, ◌≤◌, ◌≡◌, refl, sym, subst, arith, inl, inr, Bool, true, false, nat_lt, pos}
use Rattle.std.proofs.lemmas.Bool.Decides.{nat_tests}
use Rattle.fx_base.specs.Fraction.{Fraction, ◌≤ᶠ◌, ◌+ᶠ◌, ◌*ᶠ◌, whole, ratio, half_power}
use Rattle.fx_base.specs.Interval.{Interval, Meets, LiesIn, exact, outward}
use Rattle.fx_base.specs.Ends.{Ends}
use Rattle.fx_base.specs.Units.{ticks, of_span}
use Rattle.fx_base.proofs.Order.{le_trans_f, zero_le_f, sub_le_f, sub_le_self_f, le_add_f}
use Rattle.fx_base.proofs.Sums.{no_ticks, ticks_whole, whole_ticks}
use Rattle.room_layout.specs.Place.{Place, in_front, squared_distance}
use Rattle.room_layout.specs.declared.geometry.Face.{Face}
use Rattle.room_layout.specs.declared.room.Lamp.{Lamp}
use Rattle.room_layout.proofs.Apart.{ahead}
use Rattle.direct_light.specs.Lamps.{part_count}
use Rattle.direct_light.specs.Shares.{fallen, share_of, loosened}
use Rattle.direct_light.specs.Ways.{IsDark, IsWay}
use Rattle.direct_light.specs.declared.way.Way.{Way}

-- ---- the way

pub at_most_square : (a r : ℕ) → a * a ≤ r → a ≤ r
at_most_square zero r h = omega arith
at_most_square (suc a) r h = omega (arith, h)

some_at : (a : ℕ) → (a ≡ 0 → ⊥) → 0 < a
some_at zero n = absurd (n refl)
some_at (suc a) n = omega arith

pub way_is : (q p there here : Place) (face : Face) (clear : Bool) (a r : ℕ) → there ≡ q → here ≡ p → clear ≡ true → a ≡ in_front face here there → (a ≡ 0 → ⊥)
    → a ≤ 200000 → r ≡ squared_distance here there → r ≤ 120000000000 → IsWay q p face clear (record { ahead = a; squared = r })
way_is q p there here face clear a r e f seen front some within square far = record {
  seen = seen;
  ahead = rw (e, f) at front;
  squared = rw (e, f) at square;
  in_front = some_at a some;
  near = at_most_square a r (rw (front, square) (ahead face here there));
  within = within;
  far = far;
}

-- a place with light is apart from the point
pub way_apart : (q p : Place) (face : Face) (clear : Bool) (w : Way) → IsWay q p face clear w → 0 < squared_distance p q
way_apart q p face clear w way = let f = way.in_front in let g = way.near in let h : 0 < w.squared = omega arith in rw way.squared at h

-- a place that is dark for a point has no way to it
pub dark_without_way : (q p : Place) (face : Face) (clear : Bool) (w : Way) → IsWay q p face clear w → IsDark q p face clear → ⊥
dark_without_way q p face clear w way (inl e) = let f = way.seen in cc
dark_without_way q p face clear w way (inr e) = let f = way.in_front in let g = way.ahead in omega (arith, e, f, g)

-- ---- a share on it

share_lit : (n : ℕ) (i : Interval) (l : Lamp) (q p : Place) (face : Face) (clear : Bool) (w : Way) → IsWay q p face clear w
    → share_of n i l q p face clear ≡ fallen n l.maintenance (part_count l) w.ahead w.squared i
unfolding share_of
share_lit n i l q p face clear w way =
    let some : 0 < in_front face p q = rw way.ahead at way.in_front in
    let front : nat_lt 0 (in_front face p q) ≡ true = grind (arith, nat_tests) in
    rw (way.seen, front, way.ahead, way.squared) refl

pub lit_meets : (n : ℕ) (i s : Interval) (l : Lamp) (q p : Place) (face : Face) (clear : Bool) (w : Way) (parts : ℕ) → IsWay q p face clear w → parts ≡ part_count l
    → Meets s (fallen n l.maintenance parts w.ahead w.squared i) → Meets s (share_of n i l q p face clear)
lit_meets n i s l q p face clear w parts way e h =
    let P : Interval → Type 0 = λ j. Meets s j in subst P (sym (share_lit n i l q p face clear w way)) (rw e at h)

pub lit_near : (n : ℕ) (i s : Interval) (l : Lamp) (q p : Place) (face : Face) (clear : Bool) (w : Way) (parts : ℕ) → IsWay q p face clear w → parts ≡ part_count l
    → LiesIn s (loosened (fallen n l.maintenance parts w.ahead w.squared i)) → LiesIn s (loosened (share_of n i l q p face clear))
lit_near n i s l q p face clear w parts way e h =
    let P : Interval → Type 0 = λ j. LiesIn s (loosened j) in subst P (sym (share_lit n i l q p face clear w way)) (rw e at h)

-- ---- no share

share_dark : (n : ℕ) (i : Interval) (l : Lamp) (q p : Place) (face : Face) (clear : Bool) → IsDark q p face clear → share_of n i l q p face clear ≡ exact (whole 0)
unfolding share_of
share_dark n i l q p face true (inl e) = cc
share_dark n i l q p face true (inr e) = rw e refl
share_dark n i l q p face false d = refl

no_span : (s : Ends) → s.lo ≡ pos 0 → s.hi ≡ pos 0 → exact (ticks 0) ≡ of_span s
no_span s low high = rw (low, high) refl

pub dark_meets : (n : ℕ) (i : Interval) (s : Ends) (l : Lamp) (q p : Place) (face : Face) (clear : Bool) → IsDark q p face clear → s.lo ≡ pos 0 → s.hi ≡ pos 0
    → Meets (of_span s) (share_of n i l q p face clear)
dark_meets n i s l q p face clear d low high =
    rw (share_dark n i l q p face clear d, ← no_span s low high) (record { above = no_ticks.0; below = no_ticks.1 })

nothing_times : (a : Fraction) → (whole 0 *ᶠ a) ≤ᶠ whole 0
unfolding whole ◌*ᶠ◌
nothing_times a = record { cross = omega arith }

loose_nothing : LiesIn (exact (ticks 0)) (loosened (exact (whole 0)))
unfolding loosened
loose_nothing = record {
  lower = sub_le_f (whole 0 *ᶠ ratio 16777215 16777216) (half_power 20) (le_trans_f (nothing_times (ratio 16777215 16777216)) (zero_le_f (ticks 0 +ᶠ half_power 20)));
  upper = le_trans_f (no_ticks.0) (zero_le_f (whole 0 *ᶠ ratio 16777217 16777216 +ᶠ half_power 20));
}

pub dark_near : (n : ℕ) (i : Interval) (s : Ends) (l : Lamp) (q p : Place) (face : Face) (clear : Bool) → IsDark q p face clear → s.lo ≡ pos 0 → s.hi ≡ pos 0
    → LiesIn (of_span s) (loosened (share_of n i l q p face clear))
dark_near n i s l q p face clear d low high = rw (share_dark n i l q p face clear d, ← no_span s low high) loose_nothing

-- ---- whole candela

pub even_meets : (c : ℕ) (s : Ends) → s.lo ≡ pos (c * 68719476736) → s.hi ≡ pos (c * 68719476736) → Meets (of_span s) (exact (whole c))
even_meets c s low high = rw (low, high) (record { above = ticks_whole c; below = whole_ticks c })

pub even_near : (c : ℕ) (s : Ends) → s.lo ≡ pos (c * 68719476736) → s.hi ≡ pos (c * 68719476736) → LiesIn (of_span s) (outward (half_power 30) (exact (whole c)))
even_near c s low high = rw (low, high) (record {
  lower = le_trans_f (sub_le_self_f (whole c) (half_power 30)) (whole_ticks c);
  upper = le_trans_f (ticks_whole c) (le_add_f (whole c) (half_power 30));
})
