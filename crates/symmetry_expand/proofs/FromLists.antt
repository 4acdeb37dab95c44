-- When given planes rise within a turn.
use Rattle.std.proofs.Common.{ℕ, zero, suc, ◌<◌, ◌<ℤ◌, ℤ, pos, List, [], ◌∷◌, length, slice_index_or, arith}
use Rattle.std.specs.Prelude.{◌+ℤ◌}
use Rattle.std.proofs.lemmas.Int.{ints}
use Rattle.fx_base.specs.declared.Micro.{Micro}
use Rattle.symmetry_expand.specs.Measured.{RiseWithinTurn}

-- the angles rise, the first of them from above a, and all lie below b
abbrev pub RisesFrom : ℤ → ℤ → List Micro → Type 0
RisesFrom a b [] = Unit {0}
RisesFrom a b (x ∷ xs) = (a <ℤ x.0) × ((x.0 <ℤ b) × RisesFrom x.0 b xs)

rises_above : (a b : ℤ) (xs : List Micro) → RisesFrom a b xs → (j : ℕ) (d : Micro) → j < length xs → (a <ℤ (slice_index_or xs j d).0) × ((slice_index_or xs j d).0 <ℤ b)
rises_above a b [] h j d p = absurd (omega arith)
rises_above a b (x ∷ xs) h zero d p = (h.0, h.1.0)
rises_above a b (x ∷ xs) h (suc j) d p = let g = rises_above x.0 b xs h.1.1 j d (omega arith) in let f = h.0 in (let e = g.0 in omega (arith, ints), g.1)

rises_pairs : (b : ℤ) (x : Micro) (xs : List Micro) → RisesFrom x.0 b xs → (i j : ℕ) (d : Micro) → i < j → j < length (x ∷ xs)
    → (slice_index_or (x ∷ xs) i d).0 <ℤ (slice_index_or (x ∷ xs) j d).0
rises_pairs b x xs h i zero d p q = absurd (omega arith)
rises_pairs b x xs h zero (suc j) d p q = (rises_above x.0 b xs h j d (omega arith)).0
rises_pairs b x [] h (suc i) (suc j) d p q = absurd (omega arith)
rises_pairs b x (y ∷ ys) h (suc i) (suc j) d p q = rises_pairs b y ys h.1.1 i j d (omega arith) (omega arith)

-- one plane, and those after it
pub rise_of : (x : Micro) (xs : List Micro) → RisesFrom x.0 (x.0 +ℤ pos 360000000) xs → RiseWithinTurn (x ∷ xs)
rise_of x xs h = record {
  some = omega arith;
  rise = rises_pairs (x.0 +ℤ pos 360000000) x xs h;
  one_turn = λ i d p. turn i d p;
}
  where
    turn : (i : ℕ) (d : Micro) → i < length (x ∷ xs) → (slice_index_or (x ∷ xs) i d).0 <ℤ (x.0 +ℤ pos 360000000)
    turn zero d p = omega (arith, ints)
    turn (suc i) d p = (rises_above x.0 (x.0 +ℤ pos 360000000) xs h i d (omega arith)).1
