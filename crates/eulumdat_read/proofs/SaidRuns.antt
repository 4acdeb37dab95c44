-- Runs of lines in the words of the grammar. Each run gives what is in front, and then what its lines say.
use Rattle.std.proofs.Common.{ℕ, zero, suc, ◌+◌, ◌-◌, ◌*◌, ◌/◌, ◌%◌, ◌<◌, ◌≤◌, ◌≡◌, nat_le, true, false, Bool, cond, List, [], ◌∷◌, ◌++◌, length, slice_index_or, ℤ, pos, negsuc, Ok, Err, refl, ap, sym, subst, ◌∙◌, arith, append_assoc, append-nil}
use Rattle.std.specs.Prelude.{◌<ℤ◌, ◌≤ℤ◌}
use Rattle.std.specs.List.{list_all}
use Rattle.std.proofs.Math.Nat.{div-add-mod, div-lt_iff_lt-mul, mod-lt, mul-le-mul_right}
use Rattle.std.proofs.lemmas.Bool.Decides.{nat_tests}
use Rattle.std.proofs.lemmas.Int.{ints}
use Rattle.fx_base.specs.declared.Micro.{Micro}
use Rattle.fx_base.proofs.Truth.{le_true}
use Rattle.symmetry_expand.specs.Measured.{micro}
use Rattle.eulumdat_read.specs.declared.fault.LdtFault.TheVariants as fault
use Rattle.eulumdat_read.specs.Grammar.{HasFlux, IsIntensity, SayAngles, SayIntensities, Says, SaysIn, angle}
use Rattle.decimal_text.specs.Steps.{◌>>=◌, demand}
use Rattle.eulumdat_read.specs.Items.{all_blank, angles_at, fluxes_at, measured_at, value_at, values_at}
use Rattle.eulumdat_read.specs.Lines.{is_blank_byte}
use Rattle.decimal_text.proofs.Steps.{both_gave, held, ok_of}
use Rattle.eulumdat_read.proofs.Said.{in_of, of_in, intensity_of, of_intensity, says_one}

-- ---- angles

-- of n angles from line k on those in `rest`: the first is at least so much
record Rising (lines : List (List ℕ)) (k high least n : ℕ) (rest : List Micro) : Type 0 where
  size : length rest ≡ n
  each : (i : ℕ) → i < n → Says lines (k + i) (angle rest i)
  low : (i : ℕ) → i < n → pos 0 ≤ℤ angle rest i
  most : (i : ℕ) → i < n → angle rest i ≤ℤ pos high
  first : 0 < n → pos least ≤ℤ angle rest 0
  rise : (i : ℕ) → i + 1 < n → angle rest i <ℤ angle rest (i + 1)

one_more : (lines : List (List ℕ)) (k high least n a : ℕ) (rest : List Micro) → SaysIn lines k 0 high a → least ≤ a → Rising lines (k + 1) high (a + 1) n rest
    → Rising lines k high least (suc n) (micro a ∷ rest)
one_more lines k high least n a rest s l h =
    let z = h.size in
    record {
      size = omega arith;
      each = λ i p. each i p;
      low = λ i p. low i p;
      most = λ i p. high_at i p;
      first = λ p. omega (arith, ints);
      rise = λ i p. rise i p;
    }
  where
    each : (i : ℕ) → i < suc n → Says lines (k + i) (angle (micro a ∷ rest) i)
    each zero p = let e : k + 0 ≡ k = omega arith in rw e s.says
    each (suc i) p = let e : k + suc i ≡ k + 1 + i = omega arith in rw e (h.each i (omega arith))

    low : (i : ℕ) → i < suc n → pos 0 ≤ℤ angle (micro a ∷ rest) i
    low zero p = omega (arith, ints)
    low (suc i) p = h.low i (omega arith)

    high_at : (i : ℕ) → i < suc n → angle (micro a ∷ rest) i ≤ℤ pos high
    high_at zero p = let top = s.most in omega (arith, ints)
    high_at (suc i) p = h.most i (omega arith)

    rise : (i : ℕ) → i + 1 < suc n → angle (micro a ∷ rest) i <ℤ angle (micro a ∷ rest) (i + 1)
    rise zero p = let f = h.first (omega arith) in omega (arith, ints)
    rise (suc i) p = let e : suc i + 1 ≡ suc (i + 1) = omega arith in rw e (h.rise i (omega arith))

rising_of : (lines : List (List ℕ)) (n k high least : ℕ) (front xs : List Micro) → angles_at lines k high least front n ≡ Ok xs
    → (rest : List Micro) × (xs ≡ front ++ rest) × Rising lines k high least n rest
unfolding angles_at
rising_of lines zero k high least front xs h = (
  [],
  sym (ok_of front xs h) ∙ sym (append-nil front),
  record {
    size = refl;
    each = λ i p. absurd (omega arith);
    low = λ i p. absurd (omega arith);
    most = λ i p. absurd (omega arith);
    first = λ p. absurd (omega arith);
    rise = λ i p. absurd (omega arith);
  },
)
rising_of lines (suc n) k high least front xs h =
    let s = both_gave (measured_at lines k 0 high) (λ a. demand (nat_le least a) (fault.Order k) >>= λ _. angles_at lines (k + 1) high (a + 1) (front ++ micro a ∷ []) n) xs h in
    let t = both_gave (demand (nat_le least s.0) (fault.Order k)) (λ _. angles_at lines (k + 1) high (s.0 + 1) (front ++ micro s.0 ∷ []) n) xs s.2 in
    let b = held (nat_le least s.0) (fault.Order k) t.0 t.1 in
    let l : least ≤ s.0 = grind (arith, nat_tests) in
    let r = rising_of lines n (k + 1) high (s.0 + 1) (front ++ micro s.0 ∷ []) xs t.2 in
    (micro s.0 ∷ r.0, r.1 ∙ append_assoc front (micro s.0 ∷ []) r.0, one_more lines k high least n s.0 r.0 (in_of lines k 0 high s.0 s.1) l r.2)

pub angles_of : (lines : List (List ℕ)) (first n high : ℕ) (xs : List Micro) → angles_at lines first high 0 [] n ≡ Ok xs → SayAngles lines first n high xs
angles_of lines first n high xs h =
    let r = rising_of lines n first high 0 [] xs h in
    let P : List Micro → Type 0 = λ ys. SayAngles lines first n high ys in
    subst P (sym r.1) (record { size = r.2.size; each = r.2.each; least = r.2.low; most = r.2.most; rise = r.2.rise })

-- an angle that isn't below 0, as a natural number
natural_at : (lines : List (List ℕ)) (k high : ℕ) (x : Micro) → Says lines k x.0 → pos 0 ≤ℤ x.0 → x.0 ≤ℤ pos high → (a : ℕ) × (x ≡ micro a) × SaysIn lines k 0 high a
natural_at lines k high x s l m = at x.0 refl s l m
  where
    at : (z : ℤ) → x.0 ≡ z → Says lines k z → pos 0 ≤ℤ z → z ≤ℤ pos high → (a : ℕ) × (x ≡ micro a) × SaysIn lines k 0 high a
    at (pos a) e s l m = (a, ap (λ y. let m : Micro = record { 0 = y } in m) e, record { says = s; least = omega arith; most = omega (arith, ints) })
    at (negsuc a) e s l m = absurd (omega (arith, ints))

of_rising : (lines : List (List ℕ)) (rest : List Micro) (k high least : ℕ) (front : List Micro) → Rising lines k high least (length rest) rest
    → angles_at lines k high least front (length rest) ≡ Ok (front ++ rest)
unfolding angles_at
of_rising lines [] k high least front h = ap Ok (sym (append-nil front))
of_rising lines (x ∷ rest) k high least front h =
    let n = length rest in
    let e : k + 0 ≡ k = omega arith in
    let s : Says lines k x.0 = rw e at (h.each 0 (omega arith)) in
    let a = natural_at lines k high x s (h.low 0 (omega arith)) (h.most 0 (omega arith)) in
    let is : x.0 ≡ pos a.0 = ap (λ (m : Micro). m.0) a.1 in
    let first = h.first (omega arith) in
    let l : least ≤ a.0 = omega (arith, ints) in
    let others = of_rising lines rest (k + 1) high (a.0 + 1) (front ++ micro a.0 ∷ []) (record {
      size = refl;
      each = λ i p. let e : k + 1 + i ≡ k + suc i = omega arith in rw e (h.each (suc i) (omega arith));
      low = λ i p. h.low (suc i) (omega arith);
      most = λ i p. h.most (suc i) (omega arith);
      first = λ p. let r = h.rise 0 (omega arith) in omega (arith, ints);
      rise = λ i p. let e : suc i + 1 ≡ suc (i + 1) = omega arith in rw e at (h.rise (suc i) (omega arith));
    }) in
    rw (of_in lines k 0 high a.0 a.2, le_true least a.0 l) (others ∙ ap Ok (append_assoc front (micro a.0 ∷ []) rest ∙ ap (λ y. front ++ y ∷ rest) (sym a.1)))

pub of_angles : (lines : List (List ℕ)) (first n high : ℕ) (xs : List Micro) → SayAngles lines first n high xs → angles_at lines first high 0 [] n ≡ Ok xs
of_angles lines first n high xs h =
    let e = h.size in
    let P : ℕ → Type 0 = λ m. angles_at lines first high 0 [] m ≡ Ok xs in
    let Q : ℕ → Type 0 = λ m. Rising lines first high 0 m xs in
    subst P e (of_rising lines xs first high 0 [] (subst Q (sym e) (record { size = e; each = h.each; low = h.least; most = h.most; first = λ p. h.least 0 p; rise = h.rise })))

-- ---- fluxes

abbrev Flux : List (List ℕ) → ℕ → ℕ → Type 0
Flux lines k n = SaysIn lines k 0 10000000000000 n

lit_from : (lines : List (List ℕ)) (n k : ℕ) (front xs : List ℕ) → fluxes_at lines k front n ≡ Ok xs
    → (rest : List ℕ) × (xs ≡ front ++ rest) × (length rest ≡ n) × ((i : ℕ) → i < n → Flux lines (k + 6 * i) (slice_index_or rest i 0))
unfolding fluxes_at
lit_from lines zero k front xs h = ([], sym (ok_of front xs h) ∙ sym (append-nil front), refl, λ i p. absurd (omega arith))
lit_from lines (suc n) k front xs h =
    let s = both_gave (measured_at lines k 0 10000000000000) (λ f. fluxes_at lines (k + 6) (front ++ f ∷ []) n) xs h in
    let r = lit_from lines n (k + 6) (front ++ s.0 ∷ []) xs s.2 in
    let z = r.2 in
    (s.0 ∷ r.0, r.1 ∙ append_assoc front (s.0 ∷ []) r.0, omega arith, each s.0 r.0 (in_of lines k 0 10000000000000 s.0 s.1) r.3)
  where
    each : (f : ℕ) (rest : List ℕ) → Flux lines k f → ((i : ℕ) → i < n → Flux lines (k + 6 + 6 * i) (slice_index_or rest i 0))
        → (i : ℕ) → i < suc n → Flux lines (k + 6 * i) (slice_index_or (f ∷ rest) i 0)
    each f rest a others zero p = let e : k + 6 * 0 ≡ k = omega arith in rw e a
    each f rest a others (suc i) p = let e : k + 6 * suc i ≡ k + 6 + 6 * i = omega arith in rw e (others i (omega arith))

-- the fluxes of n sets, each of which has one
pub fluxes_from : (lines : List (List ℕ)) (n k : ℕ) (front : List ℕ) → ((i : ℕ) → i < n → (f : ℕ) × Flux lines (k + 6 * i) f)
    → (xs : List ℕ) × (fluxes_at lines k front n ≡ Ok xs)
unfolding fluxes_at
fluxes_from lines zero k front h = (front, refl)
fluxes_from lines (suc n) k front h =
    let a = h 0 (omega arith) in
    let e : k + 6 * 0 ≡ k = omega arith in
    let s : Flux lines k a.0 = rw e at a.1 in
    let r = fluxes_from lines n (k + 6) (front ++ a.0 ∷ []) (λ i p. let g : k + 6 + 6 * i ≡ k + 6 * suc i = omega arith in rw g (h (suc i) (omega arith))) in
    (r.0, rw (of_in lines k 0 10000000000000 a.0 s) r.1)

-- set k, counted from 1, has the flux at place k - 1
pub flux_of : (lines : List (List ℕ)) (n : ℕ) (xs : List ℕ) → fluxes_at lines 29 [] n ≡ Ok xs → (k : ℕ) → 1 ≤ k → k ≤ n → HasFlux lines k (slice_index_or xs (k - 1) 0)
flux_of lines n xs h k p q =
    let r = lit_from lines n 29 [] xs h in
    let e : 23 + 6 * k ≡ 29 + 6 * (k - 1) = omega arith in
    rw (e, r.1) (r.3 (k - 1) (omega arith))

pub flux_is : (lines : List (List ℕ)) (n : ℕ) (xs : List ℕ) → fluxes_at lines 29 [] n ≡ Ok xs → (k f : ℕ) → 1 ≤ k → k ≤ n → HasFlux lines k f → slice_index_or xs (k - 1) 0 ≡ f
flux_is lines n xs h k f p q g =
    says_one lines (23 + 6 * k) 0 10000000000000 0 10000000000000 (slice_index_or xs (k - 1) 0) f (flux_of lines n xs h k p q) g

-- ---- intensities

valued : (lines : List (List ℕ)) (factor n k : ℕ) (front vs : List ℕ) → values_at lines k factor front n ≡ Ok vs
    → (rest : List ℕ) × (vs ≡ front ++ rest) × (length rest ≡ n) × ((i : ℕ) → i < n → IsIntensity lines (k + i) factor (slice_index_or rest i 0))
unfolding values_at
valued lines factor zero k front vs h = ([], sym (ok_of front vs h) ∙ sym (append-nil front), refl, λ i p. absurd (omega arith))
valued lines factor (suc n) k front vs h =
    let s = both_gave (value_at lines k factor) (λ v. values_at lines (k + 1) factor (front ++ v ∷ []) n) vs h in
    let r = valued lines factor n (k + 1) (front ++ s.0 ∷ []) vs s.2 in
    let z = r.2 in
    (s.0 ∷ r.0, r.1 ∙ append_assoc front (s.0 ∷ []) r.0, omega arith, each s.0 r.0 (intensity_of lines k factor s.0 s.1) r.3)
  where
    each : (v : ℕ) (rest : List ℕ) → IsIntensity lines k factor v → ((i : ℕ) → i < n → IsIntensity lines (k + 1 + i) factor (slice_index_or rest i 0))
        → (i : ℕ) → i < suc n → IsIntensity lines (k + i) factor (slice_index_or (v ∷ rest) i 0)
    each v rest a others zero p = let e : k + 0 ≡ k = omega arith in rw e a
    each v rest a others (suc i) p = let e : k + suc i ≡ k + 1 + i = omega arith in rw e (others i (omega arith))

of_valued : (lines : List (List ℕ)) (factor : ℕ) (rest : List ℕ) (k : ℕ) (front : List ℕ) → ((i : ℕ) → i < length rest → IsIntensity lines (k + i) factor (slice_index_or rest i 0))
    → values_at lines k factor front (length rest) ≡ Ok (front ++ rest)
unfolding values_at
of_valued lines factor [] k front h = ap Ok (sym (append-nil front))
of_valued lines factor (v ∷ rest) k front h =
    let e : k + 0 ≡ k = omega arith in
    let a : IsIntensity lines k factor v = rw e at (h 0 (omega arith)) in
    let others = of_valued lines factor rest (k + 1) (front ++ v ∷ []) (λ i p. let g : k + 1 + i ≡ k + suc i = omega arith in rw g (h (suc i) (omega arith))) in
    rw (of_intensity lines k factor v a) (others ∙ ap Ok (append_assoc front (v ∷ []) rest))

within_plane : (p g planes gammas : ℕ) → p < planes → g < gammas → p * gammas + g < planes * gammas
within_plane p g planes gammas a b = let l : (p + 1) * gammas ≤ planes * gammas = mul-le-mul_right gammas (omega arith) in omega (arith, l)

pub intensities_of : (lines : List (List ℕ)) (first planes gammas factor : ℕ) (vs : List ℕ) → values_at lines first factor [] (planes * gammas) ≡ Ok vs
    → SayIntensities lines first planes gammas factor vs
intensities_of lines first planes gammas factor vs h =
    let r = valued lines factor (planes * gammas) first [] vs h in
    let P : List ℕ → Type 0 = λ ws. SayIntensities lines first planes gammas factor ws in
    subst P (sym r.1) (record {
      size = r.2;
      each = λ p g a b. let e : first + p * gammas + g ≡ first + (p * gammas + g) = omega arith in rw e (r.3 (p * gammas + g) (within_plane p g planes gammas a b));
    })

pub of_intensities : (lines : List (List ℕ)) (first planes gammas factor : ℕ) (vs : List ℕ) → 0 < gammas → SayIntensities lines first planes gammas factor vs
    → values_at lines first factor [] (planes * gammas) ≡ Ok vs
of_intensities lines first planes gammas factor vs some h =
    let e = h.size in
    let P : ℕ → Type 0 = λ m. values_at lines first factor [] m ≡ Ok vs in
    subst P e (of_valued lines factor vs first [] (λ i p.
    let q = i / gammas in
    let r = i % gammas in
    let a : q < planes = (div-lt_iff_lt-mul some).1 (rw e at p) in
    let b : r < gammas = mod-lt i some in
    let c : q * gammas + r ≡ i = omega (arith, div-add-mod i gammas) in
    let d : first + q * gammas + r ≡ first + i = omega (arith, c) in
    rw (c, d) at (h.each q r a b)))

-- ---- the end

pub blanks_of : (k : ℕ) (lines : List (List ℕ)) → all_blank k lines ≡ Ok tt → (i : ℕ) → i < length lines → list_all is_blank_byte (slice_index_or lines i []) ≡ true
unfolding all_blank
blanks_of k [] h i p = absurd (omega arith)
blanks_of k (line ∷ lines) h i p = at (blanks_of (k + 1) lines) (list_all is_blank_byte line) refl h i p
  where
    at : (all_blank (k + 1) lines ≡ Ok tt → (i : ℕ) → i < length lines → list_all is_blank_byte (slice_index_or lines i []) ≡ true)
        → (b : Bool) → list_all is_blank_byte line ≡ b → cond b (all_blank (k + 1) lines) (Err (fault.Trailing k)) ≡ Ok tt → (i : ℕ) → i < suc (length lines)
        → list_all is_blank_byte (slice_index_or (line ∷ lines) i []) ≡ true
    at others true e h zero p = e
    at others true e h (suc i) p = others h i (omega arith)
    at others false e h i p = absurd (cc)

pub of_blanks : (lines : List (List ℕ)) (k : ℕ) → ((i : ℕ) → i < length lines → list_all is_blank_byte (slice_index_or lines i []) ≡ true) → all_blank k lines ≡ Ok tt
unfolding all_blank
of_blanks [] k h = refl
of_blanks (line ∷ lines) k h = rw (h 0 (omega arith)) (of_blanks lines (k + 1) (λ i p. h (suc i) (omega arith)))
