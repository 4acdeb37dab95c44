-- The half-planes that are kept can be unfolded by the symmetry that they stand for.
use Rattle.std.proofs.Common.{ℕ, ◌-◌, ◌<◌, ◌≤◌, ◌≡◌, true, List, length, get_or, ℤ, pos, refl, ap, sym, ◌∙◌, arith}
use Rattle.std.specs.Prelude.{◌<ℤ◌}
use Rattle.std.proofs.lemmas.Int.{ints}
use Rattle.std.proofs.lemmas.List.{get_or_default, get_or-take, length-take-le}
use Rattle.std.proofs.Math.Seq.{take-length}
use Rattle.fx_base.specs.declared.micro.Micro.{Micro}
use Rattle.symmetry_expand.specs.declared.symmetry.Symmetry.{Symmetry}
use Rattle.symmetry_expand.specs.declared.symmetry.Symmetry.TheVariants as symmetry
use Rattle.symmetry_expand.specs.Measured.{AreSuited, RiseWithinTurn, first_angle, last_angle, runs_as_needed}
use Rattle.lm63_read.specs.Angles.{micro}
use Rattle.lm63_read.specs.Grammar.{AreAngles, angle}
use Rattle.lm63_read.specs.Tables.{kept, kept_planes}
use Rattle.lm63_read.proofs.Kept.{HasEnds, IsKept, above, low_first}

-- an angle that is kept
kept_at : (xs : List Micro) (i : ℕ) (d : Micro) → i < kept xs → kept xs ≤ length xs → get_or (kept_planes xs) i d ≡ get_or xs i (micro (pos 0))
kept_at xs i d l w = get_or-take (kept xs) xs i d l ∙ get_or_default xs i d (micro (pos 0)) (omega arith)

size_of : (xs : List Micro) → kept xs ≤ length xs → length (kept_planes xs) ≡ kept xs
size_of xs w = length-take-le (kept xs) xs w

pub rise_within_turn : (items : List (List ℕ)) (k n : ℕ) (xs : List Micro) → AreAngles items k n xs → IsKept xs n → RiseWithinTurn (kept_planes xs)
rise_within_turn items k n xs h q =
    let e = h.size in
    let s = q.some in
    let w = q.within in
    let v : kept xs ≤ length xs = omega arith in
    let m = size_of xs v in
    let first : first_angle (kept_planes xs) ≡ angle xs 0 = ap (λ (x : Micro). x.0) (kept_at xs 0 (micro (pos 0)) s v) in
    let low = low_first items k n xs h in
    record {
      some = omega arith;
      rise = λ i j d l g. rw (kept_at xs i d (omega arith) v, kept_at xs j d (omega arith) v) (above items k n xs h i j l (omega arith));
      one_turn = λ i d l. rw (first, kept_at xs i d (omega arith) v) (let b = q.below i (omega arith) in omega (arith, ints));
    }

pub are_suited : (s : Symmetry) (items : List (List ℕ)) (k n : ℕ) (xs : List Micro) → AreAngles items k n xs → IsKept xs n → HasEnds s n (angle xs 0) (angle xs (n - 1))
    → AreSuited s (kept_planes xs)
are_suited symmetry.None items k n xs h q e =
    let z = h.size in
    let s = q.some in
    let w = q.within in
    let v : kept xs ≤ length xs = omega arith in
    let m = size_of xs v in
    let i : length (kept_planes xs) - 1 < kept xs = omega arith in
    let last : last_angle (kept_planes xs) ≡ angle xs (length (kept_planes xs) - 1) = ap (λ (x : Micro). x.0) (kept_at xs (length (kept_planes xs) - 1) (micro (pos 0)) i v) in
    let first : first_angle (kept_planes xs) ≡ angle xs 0 = ap (λ (x : Micro). x.0) (kept_at xs 0 (micro (pos 0)) s v) in
    (rw first (low_first items k n xs h), rw last (q.below (length (kept_planes xs) - 1) i))
are_suited symmetry.Axis items k n xs h q e =
    let z = h.size in
    let s = q.some in
    let w = q.within in
    let o = e.1 in
    let m = size_of xs (omega arith) in
    omega arith
are_suited symmetry.Plane0 items k n xs h q e = tt
are_suited symmetry.Plane90 items k n xs h q e = tt
are_suited symmetry.Both items k n xs h q e = tt

-- all are kept where the last is below 360
all_kept : (items : List (List ℕ)) (k n : ℕ) (xs : List Micro) → AreAngles items k n xs → IsKept xs n → angle xs (n - 1) <ℤ pos 360000000 → kept_planes xs ≡ xs
all_kept items k n xs h q l =
    let g : last_angle xs ≡ angle xs (n - 1) = ap (λ m. angle xs (m - 1)) h.size in
    let m : kept xs ≡ length xs = q.whole (rw g l) ∙ sym h.size in
    rw m (take-length xs)

runs : (s : Symmetry) (items : List (List ℕ)) (k n : ℕ) (xs : List Micro) (first last : ℤ) → AreAngles items k n xs → IsKept xs n
    → angle xs 0 ≡ first → angle xs (n - 1) ≡ last → last <ℤ pos 360000000 → runs_as_needed s first last ≡ true
    → runs_as_needed s (first_angle (kept_planes xs)) (last_angle (kept_planes xs)) ≡ true
runs s items k n xs first last h q a b l r =
    let g : last_angle xs ≡ angle xs (n - 1) = ap (λ m. angle xs (m - 1)) h.size in
    rw (all_kept items k n xs h q (rw b l), a, g, b) r

pub run_as_needed : (s : Symmetry) (items : List (List ℕ)) (k n : ℕ) (xs : List Micro) → AreAngles items k n xs → IsKept xs n → HasEnds s n (angle xs 0) (angle xs (n - 1))
    → runs_as_needed s (first_angle (kept_planes xs)) (last_angle (kept_planes xs)) ≡ true
run_as_needed symmetry.None items k n xs h q e = refl
run_as_needed symmetry.Axis items k n xs h q e = refl
run_as_needed symmetry.Plane0 items k n xs h q e = runs symmetry.Plane0 items k n xs (pos 0) (pos 180000000) h q e.0 e.1 (omega (arith, ints)) refl
run_as_needed symmetry.Plane90 items k n xs h q e = runs symmetry.Plane90 items k n xs (pos 90000000) (pos 270000000) h q e.0 e.1 (omega (arith, ints)) refl
run_as_needed symmetry.Both items k n xs h q e = runs symmetry.Both items k n xs (pos 0) (pos 90000000) h q e.0 e.1 (omega (arith, ints)) refl
