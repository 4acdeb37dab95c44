-- Every symmetry gives in each direction what was measured at the angle that stands for it.
use Rattle.std.proofs.Common.{ℕ, suc, ◌+◌, ◌-◌, ◌*◌, ◌%◌, ◌<◌, ◌≤◌, ◌≡◌, [], ◌∷◌, length, slice_index_or, arith, ap, refl, inl, inr, ◌⊎◌}
use Rattle.std.proofs.lemmas.Bool.{cases_lt}
use Rattle.fx_base.specs.Fraction.{Fraction, ◌≤ᶠ◌, ◌<ᶠ◌, ◌≈ᶠ◌, whole}
use Rattle.fx_base.specs.Interval.{Interval}
use Rattle.fx_base.specs.Units.{millionths}
use Rattle.fx_base.proofs.Order.{le_refl_f, eq_refl_f, eq_sym_f, eq_trans_f, eq_of_le_f, le_of_eq_f, ge_of_eq_f}
use Rattle.photo_table.specs.Angles.{turn_later}
use Rattle.photo_table.specs.Axis.{between}
use Rattle.photo_table.specs.Table.{Table, IsTable, plane, gamma, value, end_at, lower, upper, bilinear}
use Rattle.photo_table.proofs.Between.{IsOn, between_at_most, between_at_least, at_left, at_right, millionths_le}
use Rattle.photo_table.proofs.Sheet.{across}
use Rattle.photo_table.proofs.Tables.{plane_piece, end_below, end_above, end_straight, stands}
use Rattle.photo_table.proofs.Tables.Stands.{under, over, inside}
use Rattle.photo_table.proofs.HullLaws.{first_below}
use Rattle.symmetry_expand.specs.declared.symmetry.Symmetry.TheVariants.{None, Axis, Plane0, Plane90, Both}
use Rattle.symmetry_expand.specs.AllRound.{all_round, round_trip}
use Rattle.symmetry_expand.specs.Fold.{fold, mirror_0, mirror_90, AreEnds, AllRoundIsFolded}
use Rattle.symmetry_expand.specs.Steps.{first_of, GoesRound}
use Rattle.symmetry_expand.proofs.Planes.{RiseOnce}
use Rattle.symmetry_expand.proofs.Turns.{trip_is_table}
use Rattle.symmetry_expand.proofs.Ways.{Way, way_of}
use Rattle.symmetry_expand.proofs.Ways.Way.{on_way, on_way_back}
use Rattle.symmetry_expand.proofs.Folds.{Seen, across_0_forth, across_0_back, both_forth, both_back}
use Rattle.symmetry_expand.proofs.Across.{folded, fold_is, round_0_forth, round_0_back, round_180_forth, round_180_back}

-- ---- one plane

-- between two knots of one value there is that value
level : (a b : ℕ) (x u : Fraction) → IsOn a b x → between x a u b u ≈ᶠ u
level a b x u on =
    let r = on.rise in
    let first : IsOn a b (millionths a) = record { rise = on.rise; low = le_refl_f (millionths a); high = millionths_le a b (omega arith) } in
    let second : IsOn a b (millionths b) = record { rise = on.rise; low = millionths_le a b (omega arith); high = le_refl_f (millionths b) } in
    let l = at_left a b (millionths a) u u first (le_refl_f (millionths a)) in
    let h = at_right a b (millionths b) u u second (le_refl_f (millionths b)) in
    eq_of_le_f
    (between_at_most a b u u u (millionths a) x (millionths b) first on second on.low on.high (le_of_eq_f l) (le_of_eq_f h))
    (between_at_least a b u u u (millionths a) x (millionths b) first on second on.low on.high (ge_of_eq_f l) (ge_of_eq_f h))

one_value : (t : Table) → length t.planes ≡ 1 → (i j : ℕ) → value t i j ≡ slice_index_or t.values j (record { lo = whole 0; hi = whole 0 })
unfolding value
one_value t one i j =
    let e : i % length t.planes * length t.gammas + j ≡ j = let z : i % length t.planes ≡ 0 = rw one (omega arith) in rw z (omega arith) in
    rw e refl

one_row : (end : Interval → Fraction) (t : Table) → IsTable t → length t.planes ≡ 1 → (x g : Fraction) → millionths (plane t 0) ≤ᶠ x → (j : ℕ) → suc j < length t.gammas → IsOn (gamma t j) (gamma t (suc j)) g
    → end_at end t x g ≈ᶠ between g (gamma t j) (end (slice_index_or t.values j (record { lo = whole 0; hi = whole 0 }))) (gamma t (suc j)) (end (slice_index_or t.values (suc j) (record { lo = whole 0; hi = whole 0 })))
unfolding across
one_row end t it one x g low j w on =
    let p = plane_piece t it x low in
    let seen = (end_straight end t it p.i j w).value x g p.on on in
    let seen' = rw (one_value t one p.i j, one_value t one p.i (suc j), one_value t one (suc p.i) j, one_value t one (suc p.i) (suc j)) at seen in
    eq_trans_f seen' (level (plane t p.i) (plane t (suc p.i)) x _ p.on)

one_is_table : (m : Table) → IsTable m → length m.planes ≡ 1 → IsTable (record { planes = 0 ∷ []; gammas = m.gammas; values = m.values })
one_is_table m is one = record {
  some_plane = omega arith;
  planes_rise = λ i j p q. absurd (omega arith);
  first_plane = omega arith;
  one_turn = λ i p. let e : i ≡ 0 = omega arith in rw e (omega arith);
  two_gammas = is.two_gammas;
  gammas_rise = is.gammas_rise;
  gammas_up_to = is.gammas_up_to;
  all_values = let a = is.all_values in let b = ap (λ (z : ℕ). z * length m.gammas) one in omega (arith, a, b);
}

axis_seen : (end : Interval → Fraction) (m : Table) → IsTable m → length m.planes ≡ 1 → (c y : Fraction) → Seen end (record { planes = 0 ∷ []; gammas = m.gammas; values = m.values }) m c y
axis_seen end m im one c y =
    let t : Table = record { planes = 0 ∷ []; gammas = m.gammas; values = m.values } in
    let it = one_is_table m im one in
    λ g. elim (stands m im g) [
      | under u ↦ rw (end_below end m (turn_later y) g u, end_below end t (turn_later c) g u) (eq_refl_f (whole 0))
      | over o ↦ rw (end_above end m (turn_later y) g o, end_above end t (turn_later c) g o) (eq_refl_f (whole 0))
      | inside p ↦ eq_trans_f (one_row end t it refl (turn_later c) g (first_below t it c) p.i p.within p.on) (eq_sym_f (one_row end m im one (turn_later y) g (first_below m im y) p.i p.within p.on))
    ]

-- ---- the mirrors

pub rise_once : (m : Table) → IsTable m → (n : ℕ) → first_of m.planes ≡ n → n < 360000000 → RiseOnce m.planes
rise_once m is n e p = record { some = is.some_plane; rise = is.planes_rise; first = omega arith; one_turn = is.one_turn }

two_of : (m : Table) → IsTable m → (a b : ℕ) → AreEnds m.planes a b → 2 ≤ length m.planes
two_of m is a b h = elim (cases_lt (length m.planes) 2) [
  | inl l ↦ let s = is.some_plane in let e : length m.planes - 1 ≡ 0 = omega arith in let f = ap (λ (k : ℕ). slice_index_or m.planes k 0) e in let g = h.two in let i = h.begins in let k = h.ends in absurd (omega (arith, f, g, i, k))
  | inr g ↦ g
]

pub goes : (m : Table) → IsTable m → (a b times base : ℕ) → AreEnds m.planes a b → 1 ≤ times → times ≤ 2 → times * (2 * (b - a)) ≡ 360000000 → a ≤ base → base + a ≤ 2 * b → GoesRound m.planes times base
goes m is a b times base h some few turn before reached = record {
  two = two_of m is a b h;
  some = some;
  few = few;
  turn = rw (h.begins, h.ends) turn;
  before = rw h.begins before;
  reached = rw (h.begins, h.ends) reached;
}

-- the way of a direction between given ends
pub way_between : (end : Interval → Fraction) (m : Table) (times base a b : ℕ) → IsTable m → a < 360000000 → AreEnds m.planes a b → GoesRound m.planes times base → (c : Fraction)
    → Way end (round_trip times base m) m (turn_later c) base (2 * (b - a)) a b
way_between end m times base a b im small h r c =
    let rise = rise_once m im a h.begins small in
    let it = trip_is_table m times base im rise r in
    rw (h.begins, h.ends) at (way_of end m times base im rise r (turn_later c) (first_below (round_trip times base m) it c))

plane0_seen : (end : Interval → Fraction) (m : Table) → IsTable m → AreEnds m.planes 0 180000000 → (c : Fraction) → c <ᶠ whole 360 → Seen end (round_trip 1 0 m) m c (mirror_0 c)
unfolding turn_later
plane0_seen end m im h c below = elim (way_between end m 1 0 0 180000000 im (omega arith) h (goes m im 0 180000000 1 0 h (omega arith) (omega arith) refl (omega arith) (omega arith)) c) [
  | on_way q low high same ↦ across_0_forth end (round_trip 1 0 m) m im h.begins c below q low high same
  | on_way_back q low high same ↦ across_0_back end (round_trip 1 0 m) m im h.begins c below q low high same
]

both_seen : (end : Interval → Fraction) (m : Table) → IsTable m → AreEnds m.planes 0 90000000 → (c : Fraction) → c <ᶠ whole 360 → Seen end (round_trip 2 0 m) m c (mirror_90 (mirror_0 c))
unfolding turn_later
both_seen end m im h c below = elim (way_between end m 2 0 0 90000000 im (omega arith) h (goes m im 0 90000000 2 0 h (omega arith) (omega arith) refl (omega arith) (omega arith)) c) [
  | on_way q low high same ↦ both_forth end (round_trip 2 0 m) m im h.begins c below q low high same
  | on_way_back q low high same ↦ both_back end (round_trip 2 0 m) m im h.begins c below q low high same
]

round_0_seen : (end : Interval → Fraction) (m : Table) → IsTable m → AreEnds m.planes 270000000 450000000 → (c : Fraction) → c <ᶠ whole 360 → Seen end (round_trip 1 360000000 m) m c (folded 270000000 450000000 c)
unfolding turn_later
round_0_seen end m im h c below = elim (way_between end m 1 360000000 270000000 450000000 im (omega arith) h (goes m im 270000000 450000000 1 360000000 h (omega arith) (omega arith) refl (omega arith) (omega arith)) c) [
  | on_way q low high same ↦ round_0_forth end (round_trip 1 360000000 m) m im h.begins c below q low high same
  | on_way_back q low high same ↦ round_0_back end (round_trip 1 360000000 m) m im h.begins c below q low high same
]

round_180_seen : (end : Interval → Fraction) (m : Table) → IsTable m → AreEnds m.planes 90000000 270000000 → (c : Fraction) → c <ᶠ whole 360 → Seen end (round_trip 1 360000000 m) m c (folded 90000000 270000000 c)
unfolding turn_later
round_180_seen end m im h c below = elim (way_between end m 1 360000000 90000000 270000000 im (omega arith) h (goes m im 90000000 270000000 1 360000000 h (omega arith) (omega arith) refl (omega arith) (omega arith)) c) [
  | on_way q low high same ↦ round_180_forth end (round_trip 1 360000000 m) m im h.begins c below q low high same
  | on_way_back q low high same ↦ round_180_back end (round_trip 1 360000000 m) m im h.begins c below q low high same
]

plane90_seen : (end : Interval → Fraction) (m : Table) → IsTable m → AreEnds m.planes 270000000 450000000 ⊎ AreEnds m.planes 90000000 270000000 → (c : Fraction) → c <ᶠ whole 360
    → Seen end (round_trip 1 360000000 m) m c (fold Plane90 m.planes c)
plane90_seen end m im (inl h) c below = rw (fold_is m.planes 270000000 450000000 h c) (round_0_seen end m im h c below)
plane90_seen end m im (inr h) c below = rw (fold_is m.planes 90000000 270000000 h c) (round_180_seen end m im h c below)

pub all_round_is_folded : AllRoundIsFolded
unfolding all_round fold bilinear
all_round_is_folded None m im r c g below = (eq_refl_f _, eq_refl_f _)
all_round_is_folded Axis m im r c g below = (axis_seen lower m im r c (millionths (first_of m.planes)) g, axis_seen upper m im r c (millionths (first_of m.planes)) g)
all_round_is_folded Plane0 m im r c g below = (plane0_seen lower m im r c below g, plane0_seen upper m im r c below g)
all_round_is_folded Plane90 m im r c g below = (plane90_seen lower m im r c below g, plane90_seen upper m im r c below g)
all_round_is_folded Both m im r c g below = (both_seen lower m im r c below g, both_seen upper m im r c below g)
