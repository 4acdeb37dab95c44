-- What is kept of a file that fits the grammar can be unfolded.
use Rattle.std.proofs.Common.{ℕ, zero, suc, ◌+◌, ◌-◌, ◌*◌, ◌<◌, ◌≤◌, ◌≡◌, ◌≢◌, inl, inr, Bool, true, false, cond, ◌==◌, ◌&&◌, List, [], ◌∷◌, length, map, get_or, ℤ, pos, negsuc, Some, None, refl, ap, sym, subst, ◌∙◌, arith}
use Rattle.std.specs.Prelude.{int_lt, int_le, ◌<ℤ◌, ◌≤ℤ◌}
use Rattle.std.proofs.lemmas.Bool.Decides.{nat_tests, Decides-int_eq}
use Rattle.std.proofs.lemmas.Bool.{cases_lt}
use Rattle.std.proofs.lemmas.Int.{ints}
use Rattle.std.proofs.lemmas.List.{get_or_default}
use Rattle.fx_base.specs.Units.{natural}
use Rattle.fx_base.specs.declared.micro.Micro.{Micro}
use Rattle.fx_base.proofs.Rounding.{natural_most}
use Rattle.photo_table.specs.Kept.{AreGammas, angle_of}
use Rattle.symmetry_expand.specs.declared.symmetry.Symmetry.{Symmetry}
use Rattle.symmetry_expand.specs.declared.symmetry.Symmetry.TheVariants as symmetry
use Rattle.symmetry_expand.specs.Measured.{last_angle}
use Rattle.lm63_read.specs.Angles.{is_degrees, micro, symmetry_of}
use Rattle.lm63_read.specs.Grammar.{AreAngles, AreVerticals, angle}
use Rattle.lm63_read.specs.Tables.{kept}

-- ---- what a symmetry says of the ends

abbrev pub HasEnds : Symmetry → ℕ → ℤ → ℤ → Type 0
HasEnds symmetry.None n first last = (first ≡ pos 0) × (pos 180000000 <ℤ last) × (last ≤ℤ pos 360000000)
HasEnds symmetry.Axis n first last = (first ≡ pos 0) × (n ≡ 1)
HasEnds symmetry.Plane0 n first last = (first ≡ pos 0) × (last ≡ pos 180000000)
HasEnds symmetry.Plane90 n first last = (first ≡ pos 90000000) × (last ≡ pos 270000000)
HasEnds symmetry.Both n first last = (first ≡ pos 0) × (last ≡ pos 90000000)

some_is : (s t : Symmetry) (n : ℕ) (first last : ℤ) → Some s ≡ Some t → HasEnds s n first last → HasEnds t n first last
some_is s t n first last e h = let P : Symmetry → Type 0 = λ u. HasEnds u n first last in let i : s ≡ t = cc in subst P i h

is_at : (d : ℕ) (z : ℤ) → is_degrees d z ≡ true → z ≡ pos (d * 1000000)
is_at d z h = (Decides-int_eq z (pos (d * 1000000))).0 h

between : (z : ℤ) → (int_lt (pos 180000000) z && int_le z (pos 360000000)) ≡ true → (pos 180000000 <ℤ z) × (z ≤ℤ pos 360000000)
between z h = (grind (arith, ints), grind (arith, ints))

pub ends_of : (s : Symmetry) (n : ℕ) (first last : ℤ) → symmetry_of n first last ≡ Some s → HasEnds s n first last
ends_of s n first last h =
    at (n == 1) refl (is_degrees 0 first) refl (is_degrees 90 last) refl (is_degrees 180 last) refl (int_lt (pos 180000000) last && int_le last (pos 360000000)) refl
    (is_degrees 90 first) refl (is_degrees 270 last) refl h
  where
    at : (c : Bool) → (n == 1) ≡ c → (f0 : Bool) → is_degrees 0 first ≡ f0 → (l90 : Bool) → is_degrees 90 last ≡ l90 → (l180 : Bool) → is_degrees 180 last ≡ l180
        → (more : Bool) → (int_lt (pos 180000000) last && int_le last (pos 360000000)) ≡ more → (f90 : Bool) → is_degrees 90 first ≡ f90 → (l270 : Bool) → is_degrees 270 last ≡ l270
        → cond c (cond f0 (Some symmetry.Axis) None)
        (cond f0 (cond l90 (Some symmetry.Both) (cond l180 (Some symmetry.Plane0) (cond more (Some symmetry.None) None))) (cond (f90 && l270) (Some symmetry.Plane90) None)) ≡ Some s
        → HasEnds s n first last
    at true c true f0 l90 a l180 b more m f90 d l270 e h = some_is symmetry.Axis s n first last h (is_at 0 first f0, grind (arith, nat_tests))
    at true c false f0 l90 a l180 b more m f90 d l270 e h = absurd (cc)
    at false c true f0 true a l180 b more m f90 d l270 e h = some_is symmetry.Both s n first last h (is_at 0 first f0, is_at 90 last a)
    at false c true f0 false a true b more m f90 d l270 e h = some_is symmetry.Plane0 s n first last h (is_at 0 first f0, is_at 180 last b)
    at false c true f0 false a false b true m f90 d l270 e h = some_is symmetry.None s n first last h (is_at 0 first f0, (between last m).0, (between last m).1)
    at false c true f0 false a false b false m f90 d l270 e h = absurd (cc)
    at false c false f0 l90 a l180 b more m true d true e h = some_is symmetry.Plane90 s n first last h (is_at 90 first d, is_at 270 last e)
    at false c false f0 l90 a l180 b more m true d false e h = absurd (cc)
    at false c false f0 l90 a l180 b more m false d l270 e h = absurd (cc)

-- ---- angles that rise

pub low_first : (items : List (List ℕ)) (k n : ℕ) (xs : List Micro) → AreAngles items k n xs → pos 0 ≤ℤ angle xs 0
low_first items k n xs h = elim h.first [ inl e ↦ rw e (omega (arith, ints)) | inr e ↦ rw e (omega (arith, ints)) ]

far : (items : List (List ℕ)) (k n : ℕ) (xs : List Micro) → AreAngles items k n xs → (i m : ℕ) → i + 1 + m < n → angle xs i <ℤ angle xs (i + 1 + m)
far items k n xs h i zero l = let e : i + 1 + 0 ≡ i + 1 = omega arith in rw e (h.rise i (omega arith))
far items k n xs h i (suc m) l =
    let e : i + 1 + suc m ≡ i + 1 + m + 1 = omega arith in
    let a : angle xs i <ℤ angle xs (i + 1 + m) = far items k n xs h i m (omega arith) in
    let b : angle xs (i + 1 + m) <ℤ angle xs (i + 1 + m + 1) = h.rise (i + 1 + m) (omega arith) in
    rw e (omega (arith, ints))

pub above : (items : List (List ℕ)) (k n : ℕ) (xs : List Micro) → AreAngles items k n xs → (i j : ℕ) → i < j → j < n → angle xs i <ℤ angle xs j
above items k n xs h i j l m = let e : j ≡ i + 1 + (j - i - 1) = omega arith in rw e (far items k n xs h i (j - i - 1) (omega arith))

pub none_negative : (items : List (List ℕ)) (k n : ℕ) (xs : List Micro) → AreAngles items k n xs → (i : ℕ) → i < n → pos 0 ≤ℤ angle xs i
none_negative items k n xs h zero l = low_first items k n xs h
none_negative items k n xs h (suc i) l =
    let a = low_first items k n xs h in
    let b : angle xs 0 <ℤ angle xs (suc i) = above items k n xs h 0 (suc i) (omega arith) l in
    omega (arith, ints)

up_to_last : (items : List (List ℕ)) (k n : ℕ) (xs : List Micro) → AreAngles items k n xs → (i : ℕ) → i < n → angle xs i ≤ℤ angle xs (n - 1)
up_to_last items k n xs h i l = at (n - 1 - i) refl
  where
    at : (m : ℕ) → n - 1 - i ≡ m → angle xs i ≤ℤ angle xs (n - 1)
    at zero e = let j : n - 1 ≡ i = omega arith in rw j (omega (arith, ints))
    at (suc m) e = let b : angle xs i <ℤ angle xs (n - 1) = above items k n xs h i (n - 1) (omega arith) (omega arith) in omega (arith, ints)

-- ---- gammas

natural_of : (xs : List Micro) (i : ℕ) → get_or (map angle_of xs) i 0 ≡ natural (angle xs i)
natural_of [] i = refl
natural_of (x ∷ xs) zero = refl
natural_of (x ∷ xs) (suc i) = natural_of xs i

natural_less : (a b : ℤ) → pos 0 ≤ℤ a → a <ℤ b → natural a < natural b
natural_less (pos m) (pos n) h g = omega (arith, ints)
natural_less (pos m) (negsuc n) h g = absurd (omega (arith, ints))
natural_less (negsuc m) b h g = absurd (omega (arith, ints))

pub are_gammas : (items : List (List ℕ)) (k n : ℕ) (xs : List Micro) → 2 ≤ n → AreVerticals items k n xs → AreGammas xs
are_gammas items k n xs p h =
    let a = h.angles in
    let e = a.size in
    let last : angle xs (n - 1) ≤ℤ pos 180000000 = elim h.last [ inl e ↦ rw e (omega (arith, ints)) | inr e ↦ rw e (omega (arith, ints)) ] in
    record {
      two = omega arith;
      not_negative = λ i d l. rw (get_or_default xs i d (micro (pos 0)) l) (none_negative items k n xs a i (omega arith));
      rise = λ i j l m. rw (natural_of xs i, natural_of xs j) (natural_less (angle xs i) (angle xs j) (none_negative items k n xs a i (omega arith)) (above items k n xs a i j l (omega arith)));
      up_to = λ i l. rw (natural_of xs i) (natural_most (angle xs i) 180000000 (let u = up_to_last items k n xs a i (omega arith) in omega (arith, ints)));
    }

-- ---- half-planes

-- those that are kept
pub record IsKept (xs : List Micro) (n : ℕ) : Type 0 where
  pub some : 0 < kept xs
  pub within : kept xs ≤ n
  pub below : (i : ℕ) → i < kept xs → angle xs i <ℤ pos 360000000
  pub whole : (last_angle xs <ℤ pos 360000000) → kept xs ≡ n

not_all_round : (z : ℤ) → z ≤ℤ pos 360000000 → is_degrees 360 z ≡ false → z <ℤ pos 360000000
not_all_round (pos m) h e = let t : m ≢ 360000000 = λ g. absurd (let P : ℤ → Type 0 = λ w. is_degrees 360 w ≡ false in let f = subst P (ap pos g) e in cc) in omega (arith, ints)
not_all_round (negsuc m) h e = omega (arith, ints)

pub last_most : (s : Symmetry) (n : ℕ) (xs : List Micro) → length xs ≡ n → HasEnds s n (angle xs 0) (angle xs (n - 1)) → angle xs (n - 1) ≤ℤ pos 360000000
last_most symmetry.None n xs l h = h.2
last_most symmetry.Axis n xs l h = let e : n - 1 ≡ 0 = let o = h.1 in omega arith in rw (e, h.0) (omega (arith, ints))
last_most symmetry.Plane0 n xs l h = rw h.1 (omega (arith, ints))
last_most symmetry.Plane90 n xs l h = rw h.1 (omega (arith, ints))
last_most symmetry.Both n xs l h = rw h.1 (omega (arith, ints))

pub is_kept : (items : List (List ℕ)) (k n : ℕ) (xs : List Micro) → 0 < n → AreAngles items k n xs → angle xs (n - 1) ≤ℤ pos 360000000 → IsKept xs n
is_kept items k n xs p h most = at (is_degrees 360 (last_angle xs)) refl
  where
    size : length xs ≡ n
    size = h.size

    last : last_angle xs ≡ angle xs (n - 1)
    last = ap (λ m. angle xs (m - 1)) size

    two : angle xs (n - 1) ≡ pos 360000000 → 2 ≤ n
    two e = more (n - 2) refl
      where
        more : (m : ℕ) → n - 2 ≡ m → 2 ≤ n
        more (suc m) g = omega arith
        more zero g = elim (cases_lt 1 n) [
          | inl l ↦ omega arith
          | inr l ↦ absurd (let z : n - 1 ≡ 0 = omega arith in let f : angle xs 0 ≡ pos 360000000 = rw z at e in
              elim h.first as (λ _. ⊥) [ inl a ↦ (let b = ap natural (sym a ∙ f) in omega (arith, b)) | inr a ↦ (let b = ap natural (sym a ∙ f) in omega (arith, b)) ])
        ]

    at : (b : Bool) → is_degrees 360 (last_angle xs) ≡ b → IsKept xs n
    at true e =
        let z : angle xs (n - 1) ≡ pos 360000000 = sym last ∙ is_at 360 (last_angle xs) e in
        let t = two z in
        let m : kept xs ≡ n - 1 = rw (e, size) refl in
        record {
          some = omega arith;
          within = omega arith;
          below = λ i l. let a : angle xs i <ℤ angle xs (n - 1) = above items k n xs h i (n - 1) (omega arith) (omega arith) in rw z at a;
          whole = λ g. absurd (let f = is_at 360 (last_angle xs) e in let q = rw f at g in omega (arith, ints));
        }
    at false e =
        let g : angle xs (n - 1) <ℤ pos 360000000 = not_all_round (angle xs (n - 1)) most (rw last at e) in
        let m : kept xs ≡ n = rw (e, size) refl in
        record {
          some = omega arith;
          within = omega arith;
          below = λ i l. let u = up_to_last items k n xs h i (omega arith) in omega (arith, ints);
          whole = λ _. m;
        }
