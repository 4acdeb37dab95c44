-- Measured planes brought into their turn.
use Rattle.std.proofs.Common.{ℕ, zero, suc, ◌+◌, ◌-◌, ◌<◌, ◌≤◌, ◌≡◌, ℤ, pos, negsuc, ◌-ℤ◌, ◌≤ℤ◌, ◌<ℤ◌, List, [], ◌∷◌, length, map, slice_index_or, arith, ap, refl, unsigned_abs, inl, inr}
use Rattle.std.proofs.lemmas.Int.{ints}
use Rattle.std.proofs.lemmas.Bool.{cases_lt}
use Rattle.std.proofs.lemmas.List.{get_or-map}
use Rattle.std.proofs.Math.ListN.{length-map}
use Rattle.fx_base.specs.Units.{natural}
use Rattle.fx_base.specs.declared.Micro.{Micro}
use Rattle.photo_table.specs.Kept.{ArePlanes, angle_of}
use Rattle.symmetry_expand.specs.Measured.{RiseWithinTurn, first_angle, last_angle, in_turn, lifted, no_angle}
use Rattle.symmetry_expand.specs.Steps.{first_of, last_of}

-- planes that rise by less than a turn from where the first one lies in it
pub record RiseOnce (ps : List ℕ) : Type 0 where
  pub some : 0 < length ps
  pub rise : (i j : ℕ) → i < j → j < length ps → slice_index_or ps i 0 < slice_index_or ps j 0
  pub first : slice_index_or ps 0 0 < 360000000
  pub one_turn : (i : ℕ) → i < length ps → slice_index_or ps i 0 < slice_index_or ps 0 0 + 360000000

-- ---- whole numbers that aren't negative

pub natural_is : (z : ℤ) → pos 0 ≤ℤ z → pos (natural z) ≡ z
natural_is (pos n) h = refl
natural_is (negsuc n) h = absurd (omega (arith, ints))

pub abs_natural : (z : ℤ) → pos 0 ≤ℤ z → unsigned_abs z ≡ natural z
abs_natural (pos n) h = refl
abs_natural (negsuc n) h = absurd (omega (arith, ints))

-- the distance from one to another
pub way_between : (a b : ℤ) → a ≤ℤ b → unsigned_abs (b -ℤ a) ≡ natural (b -ℤ a)
way_between a b h = abs_natural (b -ℤ a) (omega (arith, ints))

pub ruleset way_rule = (way_between)

pub in_turn_below : (z : ℤ) → in_turn z < 360000000
in_turn_below (pos n) = omega arith
in_turn_below (negsuc n) = omega arith

-- ---- the lifted planes

pub lifted_length : (ps : List Micro) → length (lifted ps) ≡ length ps
lifted_length ps = length-map ps (λ (p : Micro). in_turn (first_angle ps) + natural (p.0 -ℤ first_angle ps))

pub lifted_get : (ps : List Micro) (k : ℕ) (d : Micro) → k < length ps → slice_index_or (lifted ps) k 0 ≡ in_turn (first_angle ps) + natural ((slice_index_or ps k d).0 -ℤ first_angle ps)
lifted_get ps k d p = get_or-map (λ (p : Micro). in_turn (first_angle ps) + natural (p.0 -ℤ first_angle ps)) ps k d 0 p

pub first_least : (ps : List Micro) → RiseWithinTurn ps → (k : ℕ) (d : Micro) → k < length ps → first_angle ps ≤ℤ (slice_index_or ps k d).0
first_least [] h k d p = absurd (omega arith)
first_least (x ∷ ps) h zero d p = omega (arith, ints)
first_least (x ∷ ps) h (suc k) d p = let g = h.rise 0 (suc k) d (omega arith) p in omega (arith, ints)

-- how far plane k is from the first one
pub far : (ps : List Micro) → RiseWithinTurn ps → (k : ℕ) (d : Micro) → k < length ps
    → pos (natural ((slice_index_or ps k d).0 -ℤ first_angle ps)) ≡ (slice_index_or ps k d).0 -ℤ first_angle ps
far ps h k d p = let g = first_least ps h k d p in natural_is ((slice_index_or ps k d).0 -ℤ first_angle ps) (omega (arith, ints))

pub far_most : (ps : List Micro) → RiseWithinTurn ps → (k : ℕ) (d : Micro) → k < length ps → natural ((slice_index_or ps k d).0 -ℤ first_angle ps) < 360000000
far_most ps h k d p = let e = far ps h k d p in let g = h.one_turn k d p in omega (arith, ints, e, g)

no_way : (z : ℤ) → natural (z -ℤ z) ≡ 0
no_way z = let e : z -ℤ z ≡ pos 0 = omega (arith, ints) in rw e refl

-- the first one is where it lies in its turn
pub first_is : (ps : List Micro) → 0 < length ps → first_of (lifted ps) ≡ in_turn (first_angle ps)
first_is ps p = let e = lifted_get ps 0 no_angle p in let f = no_way (first_angle ps) in omega (arith, e, f)

pub lifted_rise : (ps : List Micro) → RiseWithinTurn ps → RiseOnce (lifted ps)
lifted_rise ps h = record {
  some = rw (lifted_length ps) h.some;
  rise = λ i j p q.
      let q' : j < length ps = rw (lifted_length ps) at q in
      let a = lifted_get ps i no_angle (omega arith) in
      let b = lifted_get ps j no_angle q' in
      let c = far ps h i no_angle (omega arith) in
      let d = far ps h j no_angle q' in
      let e = h.rise i j no_angle p q' in
      let f : natural ((slice_index_or ps i no_angle).0 -ℤ first_angle ps) < natural ((slice_index_or ps j no_angle).0 -ℤ first_angle ps) = omega (arith, ints, c, d, e) in
      omega (arith, a, b, f);
  first = let e = first_is ps h.some in let f = in_turn_below (first_angle ps) in omega (arith, e, f);
  one_turn = λ i p.
      let p' : i < length ps = rw (lifted_length ps) at p in
      let e = first_is ps h.some in
      let a = lifted_get ps i no_angle p' in
      let b = far_most ps h i no_angle p' in omega (arith, e, a, b);
}

-- rising numbers are at least as far from the first as their place
at_least_place : (ps : List ℕ) → RiseOnce ps → (i : ℕ) → i < length ps → slice_index_or ps 0 0 + i ≤ slice_index_or ps i 0
at_least_place ps h zero p = omega arith
at_least_place ps h (suc i) p = let g = at_least_place ps h i (omega arith) in let r = h.rise i (suc i) (omega arith) p in omega arith

pub few_planes : (ps : List ℕ) → RiseOnce ps → length ps ≤ 360000000
few_planes ps h = elim (cases_lt 360000000 (length ps)) [
  | inr g ↦ g
  | inl l ↦ let a = at_least_place ps h 360000000 l in let b = h.one_turn 360000000 l in absurd (omega arith)
]

pub at_most_last : (ps : List ℕ) → RiseOnce ps → (k : ℕ) → k < length ps → slice_index_or ps k 0 ≤ last_of ps
at_most_last ps h k p = elim (cases_lt k (length ps - 1)) [
  | inl l ↦ let g = h.rise k (length ps - 1) l (omega arith) in omega arith
  | inr g ↦ let e : k ≡ length ps - 1 = omega arith in rw e (omega arith)
]

pub at_least_first : (ps : List ℕ) → RiseOnce ps → (k : ℕ) → k < length ps → first_of ps ≤ slice_index_or ps k 0
at_least_first ps h zero p = omega arith
at_least_first ps h (suc k) p = let g = h.rise 0 (suc k) (omega arith) p in omega arith

pub first_below_last : (ps : List ℕ) → RiseOnce ps → 2 ≤ length ps → first_of ps < last_of ps
first_below_last ps h two = h.rise 0 (length ps - 1) (omega arith) (omega arith)

pub last_most : (ps : List ℕ) → RiseOnce ps → last_of ps < 720000000
last_most ps h = let s = h.some in let g = h.one_turn (length ps - 1) (omega arith) in let f = h.first in omega arith

-- ---- planes that were all measured

map_same : {B : Type 0} (f g : Micro → B) (xs : List Micro) → ((k : ℕ) (d : Micro) → k < length xs → f (slice_index_or xs k d) ≡ g (slice_index_or xs k d)) → map f xs ≡ map g xs
map_same f g [] h = refl
map_same f g (x ∷ xs) h = let a = h 0 x (omega arith) in let b = map_same f g xs (λ k d p. h (suc k) d (omega arith)) in rw (a, b) refl

in_turn_stays : (z : ℤ) → pos 0 ≤ℤ z → z <ℤ pos 360000000 → in_turn z ≡ natural z
in_turn_stays (pos n) h g = let p : n < 360000000 = omega (arith, ints) in omega arith
in_turn_stays (negsuc n) h g = absurd (omega (arith, ints))

natural_sum : (a b : ℤ) → pos 0 ≤ℤ a → a ≤ℤ b → natural a + natural (b -ℤ a) ≡ natural b
natural_sum a b h g =
    let p = natural_is a h in
    let q = natural_is (b -ℤ a) (omega (arith, ints)) in
    let r = natural_is b (omega (arith, ints)) in
    omega (arith, ints, p, q, r)

most_last : (ps : List Micro) → RiseWithinTurn ps → (k : ℕ) (d : Micro) → k < length ps → (slice_index_or ps k d).0 ≤ℤ last_angle ps
most_last ps h k d p = elim (cases_lt k (length ps - 1)) [
  | inl l ↦ let g = h.rise k (length ps - 1) d l (omega arith) in let e = same_default ps (length ps - 1) d no_angle (omega arith) in let f = ap (λ (m : Micro). m.0) e in omega (arith, ints, g, f)
  | inr g ↦ let e : k ≡ length ps - 1 = omega arith in let f = ap (λ (m : Micro). m.0) (same_default ps (length ps - 1) d no_angle (omega arith)) in rw e (omega (arith, ints, f))
]
  where
    same_default : (xs : List Micro) (k : ℕ) (d e : Micro) → k < length xs → slice_index_or xs k d ≡ slice_index_or xs k e
    same_default [] k d e p = absurd (omega arith)
    same_default (x ∷ xs) zero d e p = refl
    same_default (x ∷ xs) (suc k) d e p = same_default xs k d e (omega arith)

pub plain_lifted : (ps : List Micro) → RiseWithinTurn ps → pos 0 ≤ℤ first_angle ps → last_angle ps <ℤ pos 360000000 → lifted ps ≡ map angle_of ps
plain_lifted ps h low high =
    let s = h.some in
    let f = most_last ps h 0 no_angle s in
    map_same (λ (p : Micro). in_turn (first_angle ps) + natural (p.0 -ℤ first_angle ps)) angle_of ps
    (λ k d p. rw (in_turn_stays (first_angle ps) low (omega (arith, ints))) (natural_sum (first_angle ps) (slice_index_or ps k d).0 low (first_least ps h k d p)))

pub plain_planes : (ps : List Micro) → RiseWithinTurn ps → pos 0 ≤ℤ first_angle ps → last_angle ps <ℤ pos 360000000 → ArePlanes ps
plain_planes ps h low high =
    let e = plain_lifted ps h low high in
    let r = lifted_rise ps h in
    let n = lifted_length ps in
    record {
      some = h.some;
      not_negative = λ i d p. let g = first_least ps h i d p in omega (arith, ints);
      rise = λ i j p q. let g = r.rise i j p (omega arith) in rw e at g;
      below = λ i p.
          let g = most_last ps h i no_angle p in
          let l = first_least ps h i no_angle p in
          let a = natural_is (slice_index_or ps i no_angle).0 (omega (arith, ints)) in
          rw (get_or-map angle_of ps i no_angle 0 p) (omega (arith, ints, a, g));
    }
