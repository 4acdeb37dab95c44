-- Stored planes whose ends fit rise by less than a turn.
use Rattle.std.proofs.Common.{ℕ, ◌+◌, ◌-◌, ◌*◌, ◌/◌, ◌%◌, ◌<◌, ◌≤◌, ◌≡◌, ◌≤ℤ◌, ◌<ℤ◌, ◌-ℤ◌, ℤ, pos, negsuc, List, length, map, slice_index_or, arith, refl, ap, sym, ◌∙◌, inl, inr, true, false, Bool, int_lt, ◌⊎◌, ◌&&◌, ◌||◌, subst}
use Rattle.std.proofs.Math.Nat.{mod-eq_of_lt}
use Rattle.std.proofs.lemmas.Nat.{mod-mul-add}
use Rattle.std.proofs.lemmas.Int.{ints}
use Rattle.std.proofs.lemmas.Bool.Decides.{nat_tests, Decides-int_eq}
use Rattle.std.specs.Ordering.{int_eq}
use Rattle.std.proofs.lemmas.Bool.{cases_lt, false≢true}
use Rattle.std.proofs.lemmas.List.{get_or-map}
use Rattle.fx_base.specs.declared.Micro.{Micro}
use Rattle.photo_table.specs.Kept.{angle_of}
use Rattle.symmetry_expand.specs.declared.symmetry.Symmetry.{Symmetry}
use Rattle.symmetry_expand.specs.declared.symmetry.Symmetry.TheVariants as symmetry
use Rattle.symmetry_expand.specs.Measured.{RiseWithinTurn, AreSuited, first_angle, last_angle, no_angle, runs_as_needed}
use Rattle.symmetry_expand.specs.Stored.{multiple_of, stored_count}
use Rattle.symmetry_expand.proofs.Joined.{ones_get, ones_length}
use Rattle.symmetry_expand.proofs.Planes.{natural_is}
use Rattle.eulumdat_read.specs.Ldt.{handed_on, stored_angle, stored_angles}
use Rattle.eulumdat_read.specs.Runs.{AreAngles}

-- ---- an angle of the run, as a signed number

angle_low : (n most : ℕ) (xs : List Micro) → AreAngles n most xs → (i : ℕ) (d : Micro) → i < length xs → pos 0 ≤ℤ (slice_index_or xs i d).0
angle_low n most xs h i d p = h.not_negative i d p

angle_is : (n most : ℕ) (xs : List Micro) → AreAngles n most xs → (i : ℕ) (d : Micro) → i < length xs → (slice_index_or xs i d).0 ≡ pos (slice_index_or (map angle_of xs) i 0)
angle_is n most xs h i d p = sym (ap pos (get_or-map angle_of xs i d 0 p) ∙ natural_is (slice_index_or xs i d).0 (h.not_negative i d p))

angle_high : (n most : ℕ) (xs : List Micro) → AreAngles n most xs → (i : ℕ) (d : Micro) → i < length xs → (slice_index_or xs i d).0 <ℤ pos most
angle_high n most xs h i d p = let e = angle_is n most xs h i d p in let b = h.below i p in rw e (omega (arith, ints, b))

angle_lt : (n most : ℕ) (xs : List Micro) → AreAngles n most xs → (i j : ℕ) (d : Micro) → i < j → j < length xs → (slice_index_or xs i d).0 <ℤ (slice_index_or xs j d).0
angle_lt n most xs h i j d p q =
    let e = angle_is n most xs h i d (omega arith) in
    let f = angle_is n most xs h j d q in
    let r = h.rise i j p q in rw (e, f) (omega (arith, ints, r))

-- ---- the stored ones

pub stored_length : (s : Symmetry) (planes : ℕ) (xs : List Micro) → length (stored_angles s planes xs) ≡ stored_count s planes
stored_length s planes xs = ones_length (λ p. stored_angle s planes xs p) (stored_count s planes)

pub stored_get : (s : Symmetry) (planes : ℕ) (xs : List Micro) (p : ℕ) (d : Micro) → p < stored_count s planes → slice_index_or (stored_angles s planes xs) p d ≡ stored_angle s planes xs p
stored_get s planes xs p d h = ones_get (λ p. stored_angle s planes xs p) (stored_count s planes) d p h

-- from the first plane on
pub record AreFirst (s : Symmetry) (planes : ℕ) (xs : List Micro) : Type 0 where
  pub some : 0 < stored_count s planes
  pub few : stored_count s planes ≤ planes
  pub each : (p : ℕ) → p < stored_count s planes → stored_angle s planes xs p ≡ slice_index_or xs p no_angle

first_rise : (s : Symmetry) (planes : ℕ) (xs : List Micro) → AreAngles planes 360000000 xs → AreFirst s planes xs → RiseWithinTurn (stored_angles s planes xs)
first_rise s planes xs h f =
    let all = stored_length s planes xs in
    let n = h.count in
    let few = f.few in
    let some = f.some in
    let at = λ (p : ℕ) (d : Micro) (q : p < stored_count s planes). stored_get s planes xs p d q ∙ f.each p q in
    record {
      some = rw all some;
      rise = λ i j d p q. let q' : j < stored_count s planes = rw all at q in rw (at i d (omega arith), at j d q') (angle_lt planes 360000000 xs h i j no_angle p (omega arith));
      one_turn = λ i d p.
          let p' : i < stored_count s planes = rw all at p in
          let a = angle_high planes 360000000 xs h i no_angle (omega arith) in
          let b = angle_low planes 360000000 xs h 0 no_angle (omega arith) in
          let f = ap (λ (m : Micro). m.0) (at 0 no_angle some) in
          rw (at i d p') (omega (arith, ints, a, b, f));
    }

from_first : (planes p : ℕ) (xs : List Micro) → p < planes → slice_index_or xs ((1 - 1 + p) % planes) no_angle ≡ slice_index_or xs p no_angle
from_first planes p xs h = let e : 1 - 1 + p ≡ p = omega arith in rw (e, mod-eq_of_lt h) refl

pub none_first : (planes : ℕ) (xs : List Micro) → 1 ≤ planes → AreFirst symmetry.None planes xs
none_first planes xs h = record { some = omega arith; few = omega arith; each = λ p q. from_first planes p xs q }

pub axis_first : (planes : ℕ) (xs : List Micro) → 1 ≤ planes → AreFirst symmetry.Axis planes xs
axis_first planes xs h = record { some = omega arith; few = omega arith; each = λ p q. from_first planes p xs (omega arith) }

pub plane0_first : (planes : ℕ) (xs : List Micro) → 1 ≤ planes → planes % 2 ≡ 0 → AreFirst symmetry.Plane0 planes xs
plane0_first planes xs h e = let f : planes / 2 + 1 ≤ planes = omega arith in record { some = omega arith; few = f; each = λ p q. from_first planes p xs (omega arith) }

pub both_first : (planes : ℕ) (xs : List Micro) → 1 ≤ planes → planes % 4 ≡ 0 → AreFirst symmetry.Both planes xs
both_first planes xs h e = let f : planes / 4 + 1 ≤ planes = omega arith in record { some = omega arith; few = f; each = λ p q. from_first planes p xs (omega arith) }

-- ---- the mirror at 90: the first quarter of the stored planes is the last quarter of all, less a turn

far_round : (z : ℤ) → pos 180000000 <ℤ z → int_lt (pos 180000000) z ≡ true
far_round (pos n) h = let p : 180000000 < n = omega (arith, ints) in grind (arith, nat_tests)
far_round (negsuc n) h = absurd (omega (arith, ints))

near_by : (z : ℤ) → z ≤ℤ pos 180000000 → int_lt (pos 180000000) z ≡ false
near_by (pos n) h = let p : n ≤ 180000000 = omega (arith, ints) in grind (arith, nat_tests)
near_by (negsuc n) h = refl

less_turn : (a : Micro) → pos 180000000 <ℤ a.0 → (handed_on symmetry.Plane90 a).0 ≡ a.0 -ℤ pos 360000000
less_turn a h = rw (far_round a.0 h) refl

as_it_is : (a : Micro) → a.0 ≤ℤ pos 180000000 → (handed_on symmetry.Plane90 a).0 ≡ a.0
as_it_is a h = rw (near_by a.0 h) refl

early : (m p : ℕ) → p < m → (3 * (4 * m) / 4 + 1 - 1 + p) % (4 * m) ≡ 3 * m + p
early m p h = let e : 3 * (4 * m) / 4 + 1 - 1 + p ≡ 3 * m + p = omega arith in rw (e, mod-eq_of_lt {n = 3 * m + p} {m = 4 * m} (omega arith)) refl

late : (m p : ℕ) → m ≤ p → p ≤ 2 * m → 1 ≤ m → (3 * (4 * m) / 4 + 1 - 1 + p) % (4 * m) ≡ p - m
late m p h g s = let e : 3 * (4 * m) / 4 + 1 - 1 + p ≡ 1 * (4 * m) + (p - m) = omega arith in rw e (mod-mul-add 1 (4 * m) (p - m) (omega arith))

at_early : (m p : ℕ) (xs : List Micro) → p < m → stored_angle symmetry.Plane90 (4 * m) xs p ≡ handed_on symmetry.Plane90 (slice_index_or xs (3 * m + p) no_angle)
at_early m p xs h = ap (λ (k : ℕ). handed_on symmetry.Plane90 (slice_index_or xs k no_angle)) (early m p h)

at_late : (m p : ℕ) (xs : List Micro) → m ≤ p → p ≤ 2 * m → 1 ≤ m → stored_angle symmetry.Plane90 (4 * m) xs p ≡ handed_on symmetry.Plane90 (slice_index_or xs (p - m) no_angle)
at_late m p xs h g s = ap (λ (k : ℕ). handed_on symmetry.Plane90 (slice_index_or xs k no_angle)) (late m p h g s)

sides : (z : ℤ) → (pos 180000000 <ℤ z) ⊎ (z ≤ℤ pos 180000000)
sides (pos n) = elim (cases_lt 180000000 n) [ inl p ↦ inl (omega (arith, ints)) | inr p ↦ inr (omega (arith, ints)) ]
sides (negsuc n) = inr (omega (arith, ints))

at_most_half : (a : Micro) → a.0 <ℤ pos 360000000 → (handed_on symmetry.Plane90 a).0 ≤ℤ pos 180000000
at_most_half a h = elim (sides a.0) [
  | inl p ↦ let e = less_turn a p in omega (arith, ints, e, h)
  | inr p ↦ let e = as_it_is a p in omega (arith, ints, e, p)
]

three_quarters : (a : Micro) → pos 0 ≤ℤ a.0 → (handed_on symmetry.Plane90 a).0 ≡ negsuc 89999999 → a.0 ≡ pos 270000000
three_quarters a low h = elim (sides a.0) [
  | inl p ↦ let e = less_turn a p in omega (arith, ints, e, h)
  | inr p ↦ let e = as_it_is a p in absurd (omega (arith, ints, e, h, low))
]

one_quarter : (a : Micro) → a.0 <ℤ pos 360000000 → (handed_on symmetry.Plane90 a).0 ≡ pos 90000000 → a.0 ≡ pos 90000000
one_quarter a high h = elim (sides a.0) [
  | inl p ↦ let e = less_turn a p in absurd (omega (arith, ints, e, h, high))
  | inr p ↦ let e = as_it_is a p in omega (arith, ints, e, h)
]

either : (a b c d : Bool) → ((a && b) || (c && d)) ≡ true → ((a ≡ true) × (b ≡ true)) ⊎ ((c ≡ true) × (d ≡ true))
either true true c d h = inl (refl, refl)
either true false true true h = inr (refl, refl)
either false b true true h = inr (refl, refl)
either true false false d h = absurd (false≢true h)
either true false true false h = absurd (false≢true h)
either false b false d h = absurd (false≢true h)
either false b true false h = absurd (false≢true h)

-- from -90 to 90 degrees, for no stored plane is beyond 180
low_ends : (first last : ℤ) → last ≤ℤ pos 180000000 → runs_as_needed symmetry.Plane90 first last ≡ true → (first ≡ negsuc 89999999) × (last ≡ pos 90000000)
low_ends first last h r = elim (either (int_eq first (negsuc 89999999)) (int_eq last (pos 90000000)) (int_eq first (pos 90000000)) (int_eq last (pos 270000000)) r) [
  | inl e ↦ ((Decides-int_eq first (negsuc 89999999)).0 e.0, (Decides-int_eq last (pos 90000000)).0 e.1)
  | inr e ↦ let f = (Decides-int_eq last (pos 270000000)).0 e.1 in absurd (omega (arith, ints, f, h))
]

-- of all angles the one that is the first stored, and the one that is the last
pub record AreTurned (m : ℕ) (xs : List Micro) : Type 0 where
  pub first : (slice_index_or xs (3 * m) no_angle).0 ≡ pos 270000000
  pub last : (slice_index_or xs m no_angle).0 ≡ pos 90000000

pub are_turned : (m : ℕ) (xs : List Micro) → AreAngles (4 * m) 360000000 xs → 1 ≤ m
    → runs_as_needed symmetry.Plane90 (first_angle (stored_angles symmetry.Plane90 (4 * m) xs)) (last_angle (stored_angles symmetry.Plane90 (4 * m) xs)) ≡ true → AreTurned m xs
are_turned m xs h some r =
    let n = h.count in
    let count : length (stored_angles symmetry.Plane90 (4 * m) xs) - 1 ≡ 2 * m = let all = stored_length symmetry.Plane90 (4 * m) xs in omega (arith, all) in
    let third : 3 * m + 0 ≡ 3 * m = omega arith in
    let middle : 2 * m - m ≡ m = omega arith in
    let first : first_angle (stored_angles symmetry.Plane90 (4 * m) xs) ≡ (handed_on symmetry.Plane90 (slice_index_or xs (3 * m) no_angle)).0 =
    ap (λ (a : Micro). a.0) (stored_get symmetry.Plane90 (4 * m) xs 0 no_angle (omega arith) ∙ at_early m 0 xs (omega arith)) ∙ ap (λ (k : ℕ). (handed_on symmetry.Plane90 (slice_index_or xs k no_angle)).0) third in
    let last : last_angle (stored_angles symmetry.Plane90 (4 * m) xs) ≡ (handed_on symmetry.Plane90 (slice_index_or xs m no_angle)).0 =
    ap (λ (k : ℕ). (slice_index_or (stored_angles symmetry.Plane90 (4 * m) xs) k no_angle).0) count
    ∙ ap (λ (a : Micro). a.0) (stored_get symmetry.Plane90 (4 * m) xs (2 * m) no_angle (omega arith) ∙ at_late m (2 * m) xs (omega arith) (omega arith) some)
    ∙ ap (λ (k : ℕ). (handed_on symmetry.Plane90 (slice_index_or xs k no_angle)).0) middle in
    let high = angle_high (4 * m) 360000000 xs h m no_angle (omega arith) in
    let ends = low_ends _ _ (rw last (at_most_half (slice_index_or xs m no_angle) high)) r in
    record {
      first = three_quarters (slice_index_or xs (3 * m) no_angle) (angle_low (4 * m) 360000000 xs h (3 * m) no_angle (omega arith)) (sym first ∙ ends.0);
      last = one_quarter (slice_index_or xs m no_angle) high (sym last ∙ ends.1);
    }

-- the stored ones before 0 degrees, and the others
pub early_is : (m : ℕ) (xs : List Micro) → AreAngles (4 * m) 360000000 xs → AreTurned m xs → (p : ℕ) (d : Micro) → p < m
    → ((slice_index_or (stored_angles symmetry.Plane90 (4 * m) xs) p d).0 ≡ (slice_index_or xs (3 * m + p) no_angle).0 -ℤ pos 360000000) × (pos 270000000 ≤ℤ (slice_index_or xs (3 * m + p) no_angle).0)
early_is m xs h t p d q =
    let n = h.count in
    let first = t.first in
    let far : pos 270000000 ≤ℤ (slice_index_or xs (3 * m + p) no_angle).0 = elim (cases_lt 0 p) [
      | inl s ↦ let u = angle_lt (4 * m) 360000000 xs h (3 * m) (3 * m + p) no_angle (omega arith) (omega arith) in omega (arith, ints, u, first)
      | inr s ↦ let e : 3 * m + p ≡ 3 * m = omega arith in rw (e, first) (omega (arith, ints))
    ] in
    (ap (λ (a : Micro). a.0) (stored_get symmetry.Plane90 (4 * m) xs p d (omega arith) ∙ at_early m p xs q) ∙ less_turn (slice_index_or xs (3 * m + p) no_angle) (omega (arith, ints, far)), far)

pub late_is : (m : ℕ) (xs : List Micro) → AreAngles (4 * m) 360000000 xs → AreTurned m xs → 1 ≤ m → (p : ℕ) (d : Micro) → m ≤ p → p ≤ 2 * m
    → ((slice_index_or (stored_angles symmetry.Plane90 (4 * m) xs) p d).0 ≡ (slice_index_or xs (p - m) no_angle).0) × ((slice_index_or xs (p - m) no_angle).0 ≤ℤ pos 90000000)
late_is m xs h t some p d q s =
    let n = h.count in
    let last = t.last in
    let near : (slice_index_or xs (p - m) no_angle).0 ≤ℤ pos 90000000 = elim (cases_lt (p - m) m) [
      | inl u ↦ let v = angle_lt (4 * m) 360000000 xs h (p - m) m no_angle u (omega arith) in omega (arith, ints, v, last)
      | inr u ↦ let e : p - m ≡ m = omega arith in rw (e, last) (omega (arith, ints))
    ] in
    (ap (λ (a : Micro). a.0) (stored_get symmetry.Plane90 (4 * m) xs p d (omega arith) ∙ at_late m p xs q s some) ∙ as_it_is (slice_index_or xs (p - m) no_angle) (omega (arith, ints, near)), near)

plane90_rise : (m : ℕ) (xs : List Micro) → AreAngles (4 * m) 360000000 xs → 1 ≤ m
    → runs_as_needed symmetry.Plane90 (first_angle (stored_angles symmetry.Plane90 (4 * m) xs)) (last_angle (stored_angles symmetry.Plane90 (4 * m) xs)) ≡ true → RiseWithinTurn (stored_angles symmetry.Plane90 (4 * m) xs)
plane90_rise m xs h some r =
    let n = h.count in
    let all = stored_length symmetry.Plane90 (4 * m) xs in
    let t = are_turned m xs h some r in
    record {
      some = omega (arith, all);
      rise = λ i j d p q. elim (cases_lt j m) [
        | inl u ↦
            let a = early_is m xs h t i d (omega arith) in
            let b = early_is m xs h t j d u in
            let c = angle_lt (4 * m) 360000000 xs h (3 * m + i) (3 * m + j) no_angle (omega arith) (omega arith) in
            rw (a.0, b.0) (omega (arith, ints, c))
        | inr u ↦
            let b = late_is m xs h t some j d u (omega (arith, all, q)) in
            let low = angle_low (4 * m) 360000000 xs h (j - m) no_angle (omega (arith, all, q)) in
            elim (cases_lt i m) [
              | inl v ↦
                  let a = early_is m xs h t i d v in
                  let high = angle_high (4 * m) 360000000 xs h (3 * m + i) no_angle (omega arith) in
                  rw (a.0, b.0) (omega (arith, ints, low, high))
              | inr v ↦
                  let a = late_is m xs h t some i d v (omega (arith, all, p, q)) in
                  let c = angle_lt (4 * m) 360000000 xs h (i - m) (j - m) no_angle (omega arith) (omega (arith, all, q)) in
                  rw (a.0, b.0) (omega (arith, ints, c))
            ]
      ];
      one_turn = λ i d p.
          let f = early_is m xs h t 0 no_angle (omega arith) in
          let low : pos 270000000 ≤ℤ (slice_index_or xs (3 * m + 0) no_angle).0 = f.1 in
          let first = f.0 in
          elim (cases_lt i m) [
            | inl u ↦
                let a = (early_is m xs h t i d u).0 in
                let high = angle_high (4 * m) 360000000 xs h (3 * m + i) no_angle (omega arith) in
                omega (arith, ints, first, low, a, high)
            | inr u ↦
                let b = late_is m xs h t some i d u (omega (arith, all, p)) in
                let c = b.0 in
                let near = b.1 in
                omega (arith, ints, first, low, c, near)
          ];
    }

plane90_of_all : (planes m : ℕ) (xs : List Micro) → planes ≡ 4 * m → AreAngles planes 360000000 xs → 1 ≤ m
    → runs_as_needed symmetry.Plane90 (first_angle (stored_angles symmetry.Plane90 planes xs)) (last_angle (stored_angles symmetry.Plane90 planes xs)) ≡ true → RiseWithinTurn (stored_angles symmetry.Plane90 planes xs)
plane90_of_all planes m xs e = subst
    (λ (n : ℕ). AreAngles n 360000000 xs → 1 ≤ m → runs_as_needed symmetry.Plane90 (first_angle (stored_angles symmetry.Plane90 n xs)) (last_angle (stored_angles symmetry.Plane90 n xs)) ≡ true
    → RiseWithinTurn (stored_angles symmetry.Plane90 n xs))
    (sym e) (plane90_rise m xs)

pub stored_rise : (s : Symmetry) (planes : ℕ) (xs : List Micro) → AreAngles planes 360000000 xs → 1 ≤ planes → planes % multiple_of s ≡ 0
    → runs_as_needed s (first_angle (stored_angles s planes xs)) (last_angle (stored_angles s planes xs)) ≡ true → RiseWithinTurn (stored_angles s planes xs)
stored_rise symmetry.None planes xs h some e r = first_rise symmetry.None planes xs h (none_first planes xs some)
stored_rise symmetry.Axis planes xs h some e r = first_rise symmetry.Axis planes xs h (axis_first planes xs some)
stored_rise symmetry.Plane0 planes xs h some e r = first_rise symmetry.Plane0 planes xs h (plane0_first planes xs some e)
stored_rise symmetry.Plane90 planes xs h some e r = plane90_of_all planes (planes / 4) xs (omega arith) h (omega arith) r
stored_rise symmetry.Both planes xs h some e r = first_rise symmetry.Both planes xs h (both_first planes xs some e)

pub stored_suited : (s : Symmetry) (planes : ℕ) (xs : List Micro) → AreAngles planes 360000000 xs → 1 ≤ planes → AreSuited s (stored_angles s planes xs)
stored_suited symmetry.None planes xs h some =
    let all = stored_length symmetry.None planes xs in
    let n = h.count in
    let at = λ (p : ℕ) (q : p < planes). stored_get symmetry.None planes xs p no_angle q ∙ from_first planes p xs q in
    let first = ap (λ (m : Micro). m.0) (at 0 (omega arith)) in
    let last = ap (λ (k : ℕ). (slice_index_or (stored_angles symmetry.None planes xs) (k - 1) no_angle).0) all ∙ ap (λ (m : Micro). m.0) (at (planes - 1) (omega arith)) in
    let low = angle_low planes 360000000 xs h 0 no_angle (omega arith) in
    let high = angle_high planes 360000000 xs h (planes - 1) no_angle (omega arith) in
    (omega (arith, ints, first, low), omega (arith, ints, last, high))
stored_suited symmetry.Axis planes xs h some = stored_length symmetry.Axis planes xs
stored_suited symmetry.Plane0 planes xs h some = tt
stored_suited symmetry.Plane90 planes xs h some = tt
stored_suited symmetry.Both planes xs h some = tt
