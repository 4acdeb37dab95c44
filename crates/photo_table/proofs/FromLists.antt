-- When given lists make a table: each rises, and every number is in its range.
use Rattle.std.proofs.Common.{ℕ, zero, suc, ◌*◌, ◌<◌, ◌≤◌, ◌≡◌, ◌≤ℤ◌, pos, List, [], ◌∷◌, length, map, slice_index_or, arith, ◌^◌}
use Rattle.std.proofs.lemmas.Int.{ints}
use Rattle.fx_base.specs.Ends.{Ends}
use Rattle.fx_base.specs.Units.{natural}
use Rattle.fx_base.specs.declared.Micro.{Micro}
use Rattle.photo_table.specs.Kept.{ArePlanes, AreGammas, AreIntensities, angle_of}
use Rattle.photo_table.proofs.Lists.{count_is}

-- the numbers rise, the first of them from above a
abbrev pub RisesFrom : ℕ → List ℕ → Type 0
RisesFrom a [] = Unit {0}
RisesFrom a (x ∷ xs) = (a < x) × RisesFrom x xs

rises_above : (a : ℕ) (xs : List ℕ) → RisesFrom a xs → (j : ℕ) → j < length xs → a < slice_index_or xs j 0
rises_above a [] h j p = absurd (omega arith)
rises_above a (x ∷ xs) h zero p = h.0
rises_above a (x ∷ xs) h (suc j) p = let g = rises_above x xs h.1 j (omega arith) in let f = h.0 in omega arith

rises_pairs : (x : ℕ) (xs : List ℕ) → RisesFrom x xs → (i j : ℕ) → i < j → j < length (x ∷ xs) → slice_index_or (x ∷ xs) i 0 < slice_index_or (x ∷ xs) j 0
rises_pairs x xs h i zero p q = absurd (omega arith)
rises_pairs x xs h zero (suc j) p q = rises_above x xs h j (omega arith)
rises_pairs x [] h (suc i) (suc j) p q = absurd (omega arith)
rises_pairs x (y ∷ ys) h (suc i) (suc j) p q = rises_pairs y ys h.1 i j (omega arith) (omega arith)

abbrev pub Each : {A : Type 0} → (A → Type 0) → List A → Type 0
Each P [] = Unit {0}
Each P (x ∷ xs) = P x × Each P xs

all_at : {A : Type 0} (P : A → Type 0) (xs : List A) → Each P xs → (i : ℕ) (d : A) → i < length xs → P (slice_index_or xs i d)
all_at P [] h i d p = absurd (omega arith)
all_at P (x ∷ xs) h zero d p = h.0
all_at P (x ∷ xs) h (suc i) d p = all_at P xs h.1 i d (omega arith)

all_of_map : (P : ℕ → Type 0) (xs : List Micro) → Each (λ (m : Micro). P (angle_of m)) xs → Each P (map angle_of xs)
all_of_map P [] h = tt
all_of_map P (x ∷ xs) h = (h.0, all_of_map P xs h.1)

-- one plane, and those after it
pub planes_of : (p : Micro) (ps : List Micro) → RisesFrom (angle_of p) (map angle_of ps) → Each (λ (m : Micro). pos 0 ≤ℤ m.0) (p ∷ ps)
    → Each (λ (m : Micro). angle_of m < 360000000) (p ∷ ps) → ArePlanes (p ∷ ps)
planes_of p ps rise natural below = record {
  some = omega arith;
  not_negative = all_at (λ (m : Micro). pos 0 ≤ℤ m.0) (p ∷ ps) natural;
  rise = λ i j k l. rises_pairs (angle_of p) (map angle_of ps) rise i j k (rw (count_is (p ∷ ps)) l);
  below = λ i k. all_at (λ (x : ℕ). x < 360000000) (map angle_of (p ∷ ps)) (all_of_map (λ (x : ℕ). x < 360000000) (p ∷ ps) below) i 0 (rw (count_is (p ∷ ps)) k);
}

pub gammas_of : (g : Micro) (gs : List Micro) → RisesFrom (angle_of g) (map angle_of gs) → Each (λ (m : Micro). pos 0 ≤ℤ m.0) (g ∷ gs)
    → Each (λ (m : Micro). angle_of m ≤ 180000000) (g ∷ gs) → 0 < length gs → AreGammas (g ∷ gs)
gammas_of g gs rise natural up_to some = record {
  two = omega arith;
  not_negative = all_at (λ (m : Micro). pos 0 ≤ℤ m.0) (g ∷ gs) natural;
  rise = λ i j k l. rises_pairs (angle_of g) (map angle_of gs) rise i j k (rw (count_is (g ∷ gs)) l);
  up_to = λ i k. all_at (λ (x : ℕ). x ≤ 180000000) (map angle_of (g ∷ gs)) (all_of_map (λ (x : ℕ). x ≤ 180000000) (g ∷ gs) up_to) i 0 (rw (count_is (g ∷ gs)) k);
}

abbrev pub IsBright : Ends → Type 0
IsBright e = (pos 0 ≤ℤ e.lo) × (natural e.hi ≤ 687194767360000000)

pub intensities_of : (vs : List Ends) → Each IsBright vs → AreIntensities vs
intensities_of vs h = record { not_negative = λ i d p. (all_at IsBright vs h i d p).0; high = λ i d p. (all_at IsBright vs h i d p).1 }

-- a whole number of candela
pub whole_intensity : (e : Ends) (n : ℕ) → e.lo ≡ pos (n * 2 ^ 36) → e.hi ≡ pos (n * 2 ^ 36) → n ≤ 10000000 → IsBright e
whole_intensity e n g h p = (rw g (omega (arith, ints)), rw h (omega arith))
