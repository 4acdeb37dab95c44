-- The table of one turn is what its lists say.
use Rattle.std.proofs.Common.{ℕ, zero, suc, inl, inr, drop, ◌+◌, ◌-◌, ◌*◌, ◌<◌, ◌≤◌, ◌≡◌, ◌≤ℤ◌, pos, List, [], ◌∷◌, length, map, slice_index_or, arith, ap, sym, refl, ◌∙◌}
use Rattle.fx_base.specs.Ends.{Ends}
use Rattle.fx_base.specs.Units.{natural, of_span}
use Rattle.fx_base.specs.declared.Micro.{Micro}
use Rattle.photo_table.specs.Kept.{AreGammas, AreIntensities, angle_of, table_of}
use Rattle.std.proofs.lemmas.List.{drop-map}
use Rattle.std.specs.List.{take-map}
use Rattle.std.proofs.Math.ListN.{length-map}
use Rattle.std.proofs.lemmas.Bool.{cases_lt}
use Rattle.symmetry_expand.specs.AllRound.{joined, row_of, round_trip}
use Rattle.symmetry_expand.specs.Measured.{lifted, measured_table, micro}
use Rattle.symmetry_expand.specs.Steps.{last_place, source, start_of, zigzag}
use Rattle.symmetry_expand.proofs.Joined.{joined_map, joined_same, joined_all, row_all, joined_length, row_length}
use Rattle.symmetry_expand.proofs.Zigzag.{source_within}
use Rattle.symmetry_expand.proofs.Rounds.{turn_angle, turn_steps, angles_of}

-- the values of the turn
abbrev pub turn_rows : {A : Type 0} → List ℕ → ℕ → ℕ → List A → ℕ → List A
turn_rows ps base g values n = joined (λ i. row_of g (source (last_place ps) (start_of ps base + i)) values) n

row_map : {A B : Type 0} (f : A → B) (g k : ℕ) (xs : List A) → map f (row_of g k xs) ≡ row_of g k (map f xs)
row_map f g k xs = sym (rw (drop-map f (k * g) xs, take-map f g (drop (k * g) xs)) refl)

pub rows_map : {A B : Type 0} (f : A → B) (ps : List ℕ) (base g : ℕ) (xs : List A) (n : ℕ) → map f (turn_rows ps base g xs n) ≡ turn_rows ps base g (map f xs) n
rows_map f ps base g xs n =
    joined_map f (λ i. row_of g (source (last_place ps) (start_of ps base + i)) xs) n
    ∙ joined_same (λ i. map f (row_of g (source (last_place ps) (start_of ps base + i)) xs)) (λ i. row_of g (source (last_place ps) (start_of ps base + i)) (map f xs)) n
    (λ i p. row_map f g (source (last_place ps) (start_of ps base + i)) xs)

pub rows_length : {A : Type 0} (ps : List ℕ) (base g n : ℕ) (xs : List A) → 2 ≤ length ps → length xs ≡ length ps * g → length (turn_rows ps base g xs n) ≡ n * g
rows_length ps base g n xs two e =
    joined_length (λ i. row_of g (source (last_place ps) (start_of ps base + i)) xs) g n
    (λ i p. row_length g (source (last_place ps) (start_of ps base + i)) (last_place ps) xs (source_within (last_place ps) (start_of ps base + i) (omega arith))
    (let f : length ps - 1 + 1 ≡ length ps = omega arith in rw f e))

pub rows_bright : (ps : List ℕ) (base g n : ℕ) (xs : List Ends) → AreIntensities xs → AreIntensities (turn_rows ps base g xs n)
rows_bright ps base g n xs h =
    let row = λ (i : ℕ). row_of g (source (last_place ps) (start_of ps base + i)) xs in
    let low : Ends → Type 0 = λ e. pos 0 ≤ℤ e.lo in
    let high : Ends → Type 0 = λ e. natural e.hi ≤ 687194767360000000 in
    record {
      not_negative = joined_all low row n (λ i p. row_all low g (source (last_place ps) (start_of ps base + i)) xs h.not_negative);
      high = joined_all high row n (λ i p. row_all high g (source (last_place ps) (start_of ps base + i)) xs h.high);
    }

pub turn_is : (ps gs : List Micro) (vs : List Ends) (times base : ℕ)
    → table_of (joined (λ i. micro (turn_angle (lifted ps) base i) ∷ []) (turn_steps (lifted ps) times)) gs (turn_rows (lifted ps) base (length gs) vs (turn_steps (lifted ps) times))
    ≡ round_trip times base (measured_table ps gs vs)
unfolding round_trip
turn_is ps gs vs times base =
    rw (angles_of (lifted ps) base (turn_steps (lifted ps) times), rows_map of_span (lifted ps) base (length gs) vs (turn_steps (lifted ps) times), length-map gs angle_of) refl

-- ---- the lists as the program has them

pub planes_given : (ps qs items : List Micro) (s base n m : ℕ) → qs ≡ ps → s ≡ start_of (lifted ps) base → n ≡ m
    → items ≡ joined (λ i. micro (zigzag (lifted qs) (s + i) - base) ∷ []) n → items ≡ joined (λ i. micro (turn_angle (lifted ps) base i) ∷ []) m
planes_given ps qs items s base n m e f g h =
    h ∙ ap (λ (xs : List Micro). joined (λ i. micro (zigzag (lifted xs) (s + i) - base) ∷ []) n) e
    ∙ ap (λ (z : ℕ). joined (λ i. micro (zigzag (lifted ps) (z + i) - base) ∷ []) n) f
    ∙ ap (joined (λ i. micro (turn_angle (lifted ps) base i) ∷ [])) g

pub values_given : (ps : List ℕ) (vs ws items : List Ends) (s base g g' n m k : ℕ) → ws ≡ vs → s ≡ start_of ps base → g' ≡ g → k ≡ last_place ps → n ≡ m
    → items ≡ joined (λ i. row_of g' (source k (s + i)) ws) n → items ≡ turn_rows ps base g vs m
values_given ps vs ws items s base g g' n m k d e f j l h =
    h ∙ ap (λ (xs : List Ends). joined (λ i. row_of g' (source k (s + i)) xs) n) d
    ∙ ap (λ (z : ℕ). joined (λ i. row_of g' (source k (z + i)) vs) n) e
    ∙ ap (λ (z : ℕ). joined (λ i. row_of z (source k (start_of ps base + i)) vs) n) f
    ∙ ap (λ (z : ℕ). joined (λ i. row_of g (source z (start_of ps base + i)) vs) n) j
    ∙ ap (λ (z : ℕ). turn_rows ps base g vs z) l

pub few_gammas : (gs : List Micro) → AreGammas gs → length gs ≤ 180000001
few_gammas gs h = elim (cases_lt 180000001 (length gs)) [
  | inr g ↦ g
  | inl l ↦ let a = at_least_place gs h 180000001 l in let b = h.up_to 180000001 l in absurd (omega arith)
]
  where
    at_least_place : (gs : List Micro) → AreGammas gs → (i : ℕ) → i < length gs → i ≤ slice_index_or (map angle_of gs) i 0
    at_least_place gs h zero p = omega arith
    at_least_place gs h (suc i) p = let g = at_least_place gs h i (omega arith) in let r = h.rise i (suc i) (omega arith) p in omega arith
