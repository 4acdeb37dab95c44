-- Angles in the words of the grammar.
use Rattle.std.proofs.Common.{ℕ, zero, suc, ◌+◌, ◌-◌, ◌*◌, ◌<◌, ◌≡◌, ◌⊎◌, inl, inr, Bool, true, false, ◌==◌, ◌||◌, nat_lt, List, [], length, take, get_or, ℤ, pos, Ok, Option, Some, None, is_some, refl, ap, sym, subst, ◌∙◌, arith}
use Rattle.std.specs.Prelude.{int_lt, ◌<ℤ◌}
use Rattle.std.proofs.lemmas.Bool.Decides.{nat_tests, Decides-int_eq}
use Rattle.std.proofs.lemmas.Int.{ints}
use Rattle.std.proofs.lemmas.List.{length-take-le, get_or-take, get_or_default}
use Rattle.fx_base.specs.declared.micro.Micro.{Micro}
use Rattle.fx_base.proofs.Truth.{both_true}
use Rattle.symmetry_expand.specs.declared.symmetry.Symmetry.{Symmetry}
use Rattle.lm63_read.specs.declared.angles.AngleKind.{AngleKind}
use Rattle.lm63_read.specs.declared.angles.AngleKind.TheVariants.{Vertical, Horizontal}
use Rattle.lm63_read.specs.declared.fault.IesFault.TheVariants as fault
use Rattle.decimal_text.specs.Steps.{◌>>=◌, demand}
use Rattle.lm63_read.specs.Reads.{number_at}
use Rattle.lm63_read.specs.Angles.{angle_at, angles_at, fits, first_of, is_degrees, last_of, micro, rises, symmetry_of}
use Rattle.lm63_read.specs.Grammar.{AreAngles, AreHorizontals, AreVerticals, IsDegrees, Says, angle}
use Rattle.decimal_text.proofs.Steps.{both_gave, held, ok_of}
use Rattle.lm63_read.proofs.Steps.{gives_of_run, run_of_gives}
use Rattle.lm63_read.proofs.Said.{says_of, of_says}

-- ---- each angle follows those in front of it

pub record Follow (kind : AngleKind) (items : List (List ℕ)) (k n : ℕ) (xs : List Micro) : Type 0 where
  pub size : length xs ≡ n
  pub each : (i : ℕ) → i < n → Says items (k + i) (angle xs i)
  pub fit : (i : ℕ) → i < n → fits kind (take i xs) (angle xs i) (n - 1 - i) ≡ true

next_says : (kind : AngleKind) (items : List (List ℕ)) (k : ℕ) (front : List Micro) (left : ℕ) (a : Micro) → angle_at kind items k front left ≡ Ok a
    → Says items k a.0 × (fits kind front a.0 left ≡ true)
unfolding angle_at
next_says kind items k front left a h =
    let s = both_gave (number_at items k) (λ z. demand (fits kind front z left) (fault.Angles k) >>= λ u. Ok (micro z)) a h in
    let t = both_gave (demand (fits kind front s.0 left) (fault.Angles k)) (λ u. Ok (micro s.0)) a s.2 in
    let e : s.0 ≡ a.0 = ap (λ (m : Micro). m.0) (ok_of (micro s.0) a t.2) in
    let b : fits kind front s.0 left ≡ true = held (fits kind front s.0 left) (fault.Angles k) t.0 t.1 in
    let P : ℤ → Type 0 = λ z. fits kind front z left ≡ true in
    (says_of items k a.0 (s.1 ∙ ap Ok e), subst P e b)

says_next : (kind : AngleKind) (items : List (List ℕ)) (k : ℕ) (front : List Micro) (left : ℕ) (a : Micro) → Says items k a.0
    → fits kind front a.0 left ≡ true → angle_at kind items k front left ≡ Ok a
unfolding angle_at
says_next kind items k front left a h f = rw (of_says items k a.0 h, f) refl

pub follow_of : (kind : AngleKind) (items : List (List ℕ)) (k n : ℕ) (xs : List Micro) → angles_at kind items k [] n ≡ Ok xs → Follow kind items k n xs
unfolding angles_at
follow_of kind items k n xs h =
    let g = gives_of_run (angle_at kind items) (angles_at kind items) (λ j front. refl) (λ j front m. refl) n k [] xs h in
    let at : (i : ℕ) → i < n → Says items (k + i) (angle g.rest i) × (fits kind (take i g.rest) (angle g.rest i) (n - 1 - i) ≡ true) =
    λ i l. next_says kind items (k + i) (take i g.rest) (n - 1 - i) (get_or g.rest i (micro (pos 0))) (g.each i (micro (pos 0)) l) in
    let P : List Micro → Type 0 = λ ys. Follow kind items k n ys in
    subst P (sym g.whole) (record { size = g.size; each = λ i l. (at i l).0; fit = λ i l. (at i l).1 })

pub of_follow : (kind : AngleKind) (items : List (List ℕ)) (k n : ℕ) (xs : List Micro) → Follow kind items k n xs → angles_at kind items k [] n ≡ Ok xs
unfolding angles_at
of_follow kind items k n xs h =
    let e = h.size in
    let each : (i : ℕ) (d : Micro) → i < length xs → angle_at kind items (k + i) (take i xs) (length xs - 1 - i) ≡ Ok (get_or xs i d) =
    λ i d l.
    let a : i < n = omega arith in
    let b : n - 1 - i ≡ length xs - 1 - i = omega arith in
    rw (← b, get_or_default xs i d (micro (pos 0)) l) (says_next kind items (k + i) (take i xs) (n - 1 - i) (get_or xs i (micro (pos 0))) (h.each i a) (h.fit i a)) in
    let P : ℕ → Type 0 = λ m. angles_at kind items k [] m ≡ Ok xs in
    subst P e (run_of_gives (angle_at kind items) (angles_at kind items) (λ j front. refl) (λ j front m. refl) xs k [] each)

-- ---- what that says of the first, of the others, and of the last

less_of : (a b : ℤ) → int_lt a b ≡ true → a <ℤ b
less_of a b h = grind (arith, ints)

of_less : (a b : ℤ) → a <ℤ b → int_lt a b ≡ true
of_less a b h = grind (arith, ints)

either_of : (b c : Bool) → (b || c) ≡ true → (b ≡ true) ⊎ (c ≡ true)
either_of true c h = inl refl
either_of false c h = inr h

of_either : (b c : Bool) → (b ≡ true) ⊎ (c ≡ true) → (b || c) ≡ true
of_either b c (inl h) = rw h refl
of_either true c (inr h) = refl
of_either false c (inr h) = h

degrees_of : (d e : ℕ) (z : ℤ) → (is_degrees d z || is_degrees e z) ≡ true → IsDegrees d z ⊎ IsDegrees e z
degrees_of d e z h = elim (either_of (is_degrees d z) (is_degrees e z) h) [
  | inl a ↦ inl ((Decides-int_eq z (pos (d * 1000000))).0 a)
  | inr a ↦ inr ((Decides-int_eq z (pos (e * 1000000))).0 a)
]

of_degrees : (d e : ℕ) (z : ℤ) → IsDegrees d z ⊎ IsDegrees e z → (is_degrees d z || is_degrees e z) ≡ true
of_degrees d e z h = of_either (is_degrees d z) (is_degrees e z) (elim h [
  | inl a ↦ inl ((Decides-int_eq z (pos (d * 1000000))).1 a)
  | inr a ↦ inr ((Decides-int_eq z (pos (e * 1000000))).1 a)
])

-- what stands in front of the one at place i + 1
rises_at : (xs : List Micro) (i : ℕ) (z : ℤ) → i < length xs → rises (take (i + 1) xs) z ≡ int_lt (angle xs i) z
rises_at xs i z l =
    let n : length (take (i + 1) xs) ≡ i + 1 = length-take-le (i + 1) xs (omega arith) in
    let t : (i + 1 == 0) ≡ false = grind (arith, nat_tests) in
    let m : i + 1 - 1 ≡ i = omega arith in
    let w : (get_or (take (i + 1) xs) (i + 1 - 1) (micro (pos 0))).0 ≡ angle xs i = rw (m, get_or-take (i + 1) xs i (micro (pos 0)) (omega arith)) refl in
    let v : last_of (take (i + 1) xs) ≡ angle xs i = ap (λ k. (get_or (take (i + 1) xs) (k - 1) (micro (pos 0))).0) n ∙ w in
    rw (n, t) (ap (λ a. int_lt a z) v)

-- the test of the last one
abbrev ends : AngleKind → List Micro → ℤ → Bool
ends Vertical front z = is_degrees 90 z || is_degrees 180 z
ends Horizontal front z = is_some (symmetry_of (length front + 1) (first_of front z) z)

pub fit_rises : (kind : AngleKind) (front : List Micro) (z : ℤ) (left : ℕ) → fits kind front z left ≡ true → rises front z ≡ true
unfolding fits
fit_rises Vertical front z left h = (both_true (rises front z) (nat_lt 0 left || is_degrees 90 z || is_degrees 180 z) h).0
fit_rises Horizontal front z left h = (both_true (rises front z) (nat_lt 0 left || ends Horizontal front z) h).0

pub fit_ends : (kind : AngleKind) (front : List Micro) (z : ℤ) → fits kind front z 0 ≡ true → ends kind front z ≡ true
unfolding fits
fit_ends Vertical front z h = (both_true (rises front z) (ends Vertical front z) h).1
fit_ends Horizontal front z h = (both_true (rises front z) (ends Horizontal front z) h).1

pub fit_before : (kind : AngleKind) (front : List Micro) (z : ℤ) (left : ℕ) → rises front z ≡ true → 0 < left → fits kind front z left ≡ true
unfolding fits
fit_before Vertical front z left h l = let t : nat_lt 0 left ≡ true = grind (arith, nat_tests) in rw (h, t) refl
fit_before Horizontal front z left h l = let t : nat_lt 0 left ≡ true = grind (arith, nat_tests) in rw (h, t) refl

pub fit_last : (kind : AngleKind) (front : List Micro) (z : ℤ) → rises front z ≡ true → ends kind front z ≡ true → fits kind front z 0 ≡ true
unfolding fits
fit_last Vertical front z h e = rw h e
fit_last Horizontal front z h e = rw h e

pub angles_of : (kind : AngleKind) (items : List (List ℕ)) (k n : ℕ) (xs : List Micro) → 0 < n → Follow kind items k n xs → AreAngles items k n xs
angles_of kind items k n xs p h =
    let e = h.size in
    record {
      size = e;
      each = h.each;
      first = degrees_of 0 90 (angle xs 0) (fit_rises kind [] (angle xs 0) (n - 1 - 0) (h.fit 0 p));
      rise = λ i l. less_of (angle xs i) (angle xs (i + 1)) (sym (rises_at xs i (angle xs (i + 1)) (omega arith)) ∙ fit_rises kind (take (i + 1) xs) (angle xs (i + 1)) (n - 1 - (i + 1)) (h.fit (i + 1) l));
    }

pub ends_of : (kind : AngleKind) (items : List (List ℕ)) (k n : ℕ) (xs : List Micro) → 0 < n → Follow kind items k n xs
    → ends kind (take (n - 1) xs) (angle xs (n - 1)) ≡ true
ends_of kind items k n xs p h =
    let z : n - 1 - (n - 1) ≡ 0 = omega arith in
    fit_ends kind (take (n - 1) xs) (angle xs (n - 1)) (rw z at (h.fit (n - 1) (omega arith)))

-- from the words back
rises_from : (xs : List Micro) (items : List (List ℕ)) (k n i : ℕ) → i < n → AreAngles items k n xs → rises (take i xs) (angle xs i) ≡ true
rises_from xs items k n zero l h = of_degrees 0 90 (angle xs 0) h.first
rises_from xs items k n (suc i) l h =
    let e = h.size in
    let s : suc i ≡ i + 1 = omega arith in
    rw s (rises_at xs i (angle xs (i + 1)) (omega arith) ∙ of_less (angle xs i) (angle xs (i + 1)) (h.rise i (omega arith)))

pub follow_from : (kind : AngleKind) (items : List (List ℕ)) (k n : ℕ) (xs : List Micro) → AreAngles items k n xs
    → ends kind (take (n - 1) xs) (angle xs (n - 1)) ≡ true → Follow kind items k n xs
follow_from kind items k n xs h e = record {
  size = h.size;
  each = h.each;
  fit = λ i l. at i l (n - 1 - i) refl;
}
  where
    at : (i : ℕ) → i < n → (left : ℕ) → n - 1 - i ≡ left → fits kind (take i xs) (angle xs i) left ≡ true
    at i l zero z =
        let j : i ≡ n - 1 = omega arith in
        let r = rises_from xs items k n i l h in
        fit_last kind (take i xs) (angle xs i) r (rw j e)
    at i l (suc left) z = fit_before kind (take i xs) (angle xs i) (suc left) (rises_from xs items k n i l h) (omega arith)

-- ---- the two kinds

pub verticals_of : (items : List (List ℕ)) (k n : ℕ) (xs : List Micro) → 0 < n → angles_at Vertical items k [] n ≡ Ok xs → AreVerticals items k n xs
verticals_of items k n xs p h =
    let f = follow_of Vertical items k n xs h in
    record { angles = angles_of Vertical items k n xs p f; last = degrees_of 90 180 (angle xs (n - 1)) (ends_of Vertical items k n xs p f) }

pub of_verticals : (items : List (List ℕ)) (k n : ℕ) (xs : List Micro) → AreVerticals items k n xs → angles_at Vertical items k [] n ≡ Ok xs
of_verticals items k n xs h =
    of_follow Vertical items k n xs (follow_from Vertical items k n xs h.angles (of_degrees 90 180 (angle xs (n - 1)) h.last))

-- of n angles those in front of the last are n - 1, and the first of all is the first of them
whole_run : (xs : List Micro) (n : ℕ) → 0 < n → length xs ≡ n
    → symmetry_of (length (take (n - 1) xs) + 1) (first_of (take (n - 1) xs) (angle xs (n - 1))) (angle xs (n - 1)) ≡ symmetry_of n (angle xs 0) (angle xs (n - 1))
whole_run xs zero p e = absurd (omega arith)
whole_run xs (suc zero) p e = refl
whole_run xs (suc (suc j)) p e =
    let n = suc (suc j) in
    let a = angle xs (n - 1) in
    let l : length (take (n - 1) xs) ≡ n - 1 = length-take-le (n - 1) xs (omega arith) in
    let m : length (take (n - 1) xs) + 1 ≡ n = omega arith in
    let f : first_of (take (n - 1) xs) a ≡ angle xs 0 =
    ap (λ (x : Micro). x.0) (get_or-take (n - 1) xs 0 (micro a) (omega arith) ∙ get_or_default xs 0 (micro a) (micro (pos 0)) (omega arith)) in
    ap (λ c. symmetry_of c (first_of (take (n - 1) xs) a) a) m ∙ ap (λ x. symmetry_of n x a) f

pub horizontals_of : (items : List (List ℕ)) (k n : ℕ) (xs : List Micro) → 0 < n → angles_at Horizontal items k [] n ≡ Ok xs → AreHorizontals items k n xs
horizontals_of items k n xs p h =
    let f = follow_of Horizontal items k n xs h in
    let s = some_of (symmetry_of n (angle xs 0) (angle xs (n - 1))) (ap is_some (sym (whole_run xs n p f.size)) ∙ ends_of Horizontal items k n xs p f) in
    record { angles = angles_of Horizontal items k n xs p f; symmetry = s.0; is = s.1 }
  where
    some_of : (o : Option Symmetry) → is_some o ≡ true → (s : Symmetry) × (o ≡ Some s)
    some_of (Some s) h = (s, refl)
    some_of None h = absurd (cc)

pub of_horizontals : (items : List (List ℕ)) (k n : ℕ) (xs : List Micro) → 0 < n → AreHorizontals items k n xs → angles_at Horizontal items k [] n ≡ Ok xs
of_horizontals items k n xs p h =
    of_follow Horizontal items k n xs (follow_from Horizontal items k n xs h.angles (ap is_some (whole_run xs n p h.angles.size ∙ h.is)))
