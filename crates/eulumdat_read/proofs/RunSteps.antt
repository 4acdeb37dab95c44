-- One line more of a run.
use Rattle.std.proofs.Common.{ℕ, zero, suc, ◌+◌, ◌-◌, ◌*◌, ◌^◌, ◌<◌, ◌≤◌, ◌≡◌, List, [], ◌∷◌, ◌++◌, length, map, slice_index_or, arith, refl, ap, ◌∙◌, inl, inr, true, false, Ok, Err, Result, add-zero}
use Rattle.std.specs.List.{list_all}
use Rattle.std.proofs.lemmas.Int.{ints}
use Rattle.std.proofs.lemmas.Bool.{cases_lt}
use Rattle.std.proofs.lemmas.List.{map-append, length-append, get_or_append_left, get_or-append_right}
use Rattle.std.proofs.Math.ListN.{length-map}
use Rattle.fx_base.specs.Ends.{Ends}
use Rattle.fx_base.specs.declared.Micro.{Micro}
use Rattle.fx_base.proofs.Truth.{le_false, le_true}
use Rattle.photo_table.specs.Kept.{angle_of}
use Rattle.symmetry_expand.specs.Measured.{micro}
use Rattle.eulumdat_read.specs.Items.{measured_at, angles_at, fluxes_at, value_at, values_at, all_blank}
use Rattle.eulumdat_read.specs.Ldt.{flux_at}
use Rattle.eulumdat_read.specs.Lines.{is_blank_byte}
use Rattle.eulumdat_read.specs.Runs.{AreAngles, AreSpansOf, LitSoFar, ReadSoFar, span_of}
use Rattle.eulumdat_read.specs.declared.fault.LdtFault.{LdtFault}
use Rattle.eulumdat_read.specs.declared.fault.LdtFault.TheVariants as fault

-- ---- angles

pub angles_fault : (lines : List (List ℕ)) (k most least : ℕ) (front : List Micro) (m : ℕ) (e : LdtFault) → 0 < m → measured_at lines k 0 most ≡ Err e → angles_at lines k most least front m ≡ Err e
unfolding angles_at
angles_fault lines k most least front zero e p h = absurd (omega arith)
angles_fault lines k most least front (suc m) e p h = rw h refl

pub angles_order : (lines : List (List ℕ)) (k most least : ℕ) (front : List Micro) (m a : ℕ) → 0 < m → measured_at lines k 0 most ≡ Ok a → a < least → angles_at lines k most least front m ≡ Err (fault.Order k)
unfolding angles_at
angles_order lines k most least front zero a p h l = absurd (omega arith)
angles_order lines k most least front (suc m) a p h l = rw (h, le_false least a l) refl

pub angles_more : (lines : List (List ℕ)) (k k' most least : ℕ) (front front' : List Micro) (m m' a : ℕ) → measured_at lines k 0 most ≡ Ok a → least ≤ a → k' ≡ k + 1 → m ≡ m' + 1 → front' ≡ front ++ micro a ∷ []
    → angles_at lines k most least front m ≡ angles_at lines k' most (a + 1) front' m'
unfolding angles_at
angles_more lines k k' most least front front' m m' a h l e f g = let s : m ≡ suc m' = omega arith in rw (s, e, g, h, le_true least a l) refl

pub angles_done : (lines : List (List ℕ)) (k most least : ℕ) (front : List Micro) (m : ℕ) → m ≡ 0 → angles_at lines k most least front m ≡ Ok front
unfolding angles_at
angles_done lines k most least front m e = rw e refl

pub no_angles : (items : List Micro) (least : ℕ) → items ≡ [] → AreAngles 0 least items
no_angles items least e = rw e (record { count = refl; not_negative = λ i d p. absurd (omega arith); rise = λ i j p q. absurd (omega arith); below = λ i p. absurd (omega arith) })

angle_left : (xs : List Micro) (a i : ℕ) → i < length xs → slice_index_or (map angle_of (xs ++ micro a ∷ [])) i 0 ≡ slice_index_or (map angle_of xs) i 0
angle_left xs a i p = rw (map-append angle_of xs (micro a ∷ [])) (get_or_append_left (map angle_of xs) (a ∷ []) 0 i (rw (length-map xs angle_of) p))

angle_here : (xs : List Micro) (a : ℕ) → slice_index_or (map angle_of (xs ++ micro a ∷ [])) (length xs) 0 ≡ a
angle_here xs a =
    let z : length xs - length xs ≡ 0 = omega arith in
    rw (map-append angle_of xs (micro a ∷ [])) (get_or-append_right (map angle_of xs) (a ∷ []) (length xs) (length xs) 0 (length-map xs angle_of) (omega arith) ∙ rw z refl)

pub more_angles : (xs ys : List Micro) (n least a : ℕ) → AreAngles n least xs → least ≤ a → ys ≡ xs ++ micro a ∷ [] → AreAngles (n + 1) (a + 1) ys
more_angles xs ys n least a h l e =
    let c = h.count in
    let all = length-append xs (micro a ∷ []) in
    rw e (record {
      count = omega (arith, all);
      not_negative = λ i d p. elim (cases_lt i (length xs)) [
        | inl q ↦ rw (get_or_append_left xs (micro a ∷ []) d i q) (h.not_negative i d q)
        | inr q ↦ let z : i - length xs ≡ 0 = omega (arith, all) in rw (get_or-append_right xs (micro a ∷ []) (length xs) i d refl q, z) (omega (arith, ints))
      ];
      rise = λ i j p q. elim (cases_lt j (length xs)) [
        | inl r ↦ rw (angle_left xs a i (omega arith), angle_left xs a j r) (h.rise i j p r)
        | inr r ↦ let s : j ≡ length xs = omega (arith, all) in let b = h.below i (omega arith) in rw (angle_left xs a i (omega arith), s, angle_here xs a) (omega arith)
      ];
      below = λ i p. elim (cases_lt i (length xs)) [
        | inl r ↦ let b = h.below i r in rw (angle_left xs a i r) (omega arith)
        | inr r ↦ let s : i ≡ length xs = omega (arith, all) in rw (s, angle_here xs a) (omega arith)
      ];
    })

pub angles_within : (n m least most : ℕ) (xs : List Micro) → AreAngles n least xs → n ≡ m → least ≤ most → AreAngles m most xs
angles_within n m least most xs h e l = record { count = h.count ∙ e; not_negative = h.not_negative; rise = h.rise; below = λ i p. let b = h.below i p in omega arith }

-- ---- fluxes

fluxes_fault : (lines : List (List ℕ)) (k : ℕ) (front : List ℕ) (m : ℕ) (e : LdtFault) → 0 < m → measured_at lines k 0 10000000000000 ≡ Err e → fluxes_at lines k front m ≡ Err e
unfolding fluxes_at
fluxes_fault lines k front zero e p h = absurd (omega arith)
fluxes_fault lines k front (suc m) e p h = rw h refl

fluxes_more : (lines : List (List ℕ)) (k k' : ℕ) (front front' : List ℕ) (m m' f : ℕ) → measured_at lines k 0 10000000000000 ≡ Ok f → k' ≡ k + 6 → m ≡ m' + 1 → front' ≡ front ++ f ∷ []
    → fluxes_at lines k front m ≡ fluxes_at lines k' front' m'
unfolding fluxes_at
fluxes_more lines k k' front front' m m' f h e g i = let s : m ≡ suc m' = omega arith in rw (s, e, i, h) refl

fluxes_done : (lines : List (List ℕ)) (k : ℕ) (front : List ℕ) (m : ℕ) → m ≡ 0 → fluxes_at lines k front m ≡ Ok front
unfolding fluxes_at
fluxes_done lines k front m e = rw e refl

-- no set is read yet
pub lit_none : (lines : List (List ℕ)) (set n : ℕ) → 1 ≤ set → LitSoFar lines set n 0 0
lit_none lines set n some = record { front = []; so_far = let z : n - 0 ≡ n = omega arith in rw z refl; count = refl; chosen = λ p. absurd (omega arith); small = omega arith }

pub lit_fault : (lines : List (List ℕ)) (set n i flux : ℕ) (e : LdtFault) → LitSoFar lines set n i flux → i < n → measured_at lines (29 + 6 * i) 0 10000000000000 ≡ Err e → flux_at lines n set ≡ Err e
unfolding flux_at
lit_fault lines set n i flux e r p h =
    let f : fluxes_at lines 29 [] n ≡ Err e = r.so_far ∙ fluxes_fault lines (29 + 6 * i) r.front (n - i) e (omega arith) h in
    rw f refl

-- one set more, which is the chosen one or isn't
lit_more : (lines : List (List ℕ)) (set n i flux f x : ℕ) → (r : LitSoFar lines set n i flux) → i < n → measured_at lines (29 + 6 * i) 0 10000000000000 ≡ Ok f
    → (set ≤ i + 1 → slice_index_or (r.front ++ f ∷ []) (set - 1) 0 ≡ x) → x ≤ 10000000000000 → LitSoFar lines set n (i + 1) x
lit_more lines set n i flux f x r p h at small =
    let c = r.count in
    let all = length-append r.front (f ∷ []) in
    record {
      front = r.front ++ f ∷ [];
      so_far = r.so_far ∙ fluxes_more lines (29 + 6 * i) (29 + 6 * (i + 1)) r.front (r.front ++ f ∷ []) (n - i) (n - (i + 1)) f h (omega arith) (omega arith) refl;
      count = omega (arith, all);
      chosen = at;
      small = small;
    }

pub lit_here : (lines : List (List ℕ)) (set n i flux f : ℕ) → LitSoFar lines set n i flux → i < n → measured_at lines (29 + 6 * i) 0 10000000000000 ≡ Ok f → i + 1 ≡ set → f ≤ 10000000000000
    → LitSoFar lines set n (i + 1) f
lit_here lines set n i flux f r p h e small =
    let c = r.count in
    let s : set - 1 ≡ length r.front = omega arith in
    let z : length r.front - length r.front ≡ 0 = omega arith in
    lit_more lines set n i flux f f r p h (λ q. rw s (get_or-append_right r.front (f ∷ []) (length r.front) (length r.front) 0 refl (omega arith) ∙ rw z refl)) small

pub lit_there : (lines : List (List ℕ)) (set n i flux f : ℕ) → 1 ≤ set → LitSoFar lines set n i flux → i < n → measured_at lines (29 + 6 * i) 0 10000000000000 ≡ Ok f → (i + 1 ≡ set → ⊥)
    → LitSoFar lines set n (i + 1) flux
lit_there lines set n i flux f some r p h e =
    let c = r.count in
    lit_more lines set n i flux f flux r p h (λ q. elim (cases_lt i set) [
      | inl a ↦ absurd (e (omega arith))
      | inr a ↦ get_or_append_left r.front (f ∷ []) 0 (set - 1) (omega arith) ∙ r.chosen a
    ]) r.small

pub lit_all : (lines : List (List ℕ)) (set n i flux : ℕ) → LitSoFar lines set n i flux → i ≡ n → set ≤ n → flux_at lines n set ≡ Ok flux
unfolding flux_at
lit_all lines set n i flux r e p =
    let f : fluxes_at lines 29 [] n ≡ Ok r.front = r.so_far ∙ fluxes_done lines (29 + 6 * i) r.front (n - i) (omega arith) in
    rw f (ap (λ (x : ℕ). let y : Result ℕ LdtFault = Ok x in y) (r.chosen (omega arith)))

-- what holds of each number so far holds of one more
more_small : (xs ys : List ℕ) (x n most : ℕ) → length xs ≡ n → ((j : ℕ) → j < n → slice_index_or xs j 0 ≤ most) → x ≤ most → ys ≡ xs ++ x ∷ [] → (j : ℕ) → j < n + 1 → slice_index_or ys j 0 ≤ most
more_small xs ys x n most c h p e j q = elim (cases_lt j (length xs)) [
  | inl r ↦ rw (e, get_or_append_left xs (x ∷ []) 0 j r) (h j (omega arith))
  | inr r ↦ let z : j - length xs ≡ 0 = omega arith in rw (e, get_or-append_right xs (x ∷ []) (length xs) j 0 refl r, z) p
]

-- ---- intensities

pub values_fault : (lines : List (List ℕ)) (k factor : ℕ) (front : List ℕ) (m : ℕ) (e : LdtFault) → 0 < m → value_at lines k factor ≡ Err e → values_at lines k factor front m ≡ Err e
unfolding values_at
values_fault lines k factor front zero e p h = absurd (omega arith)
values_fault lines k factor front (suc m) e p h = rw h refl

values_more : (lines : List (List ℕ)) (k k' factor : ℕ) (front : List ℕ) (m m' v : ℕ) → value_at lines k factor ≡ Ok v → k' ≡ k + 1 → m ≡ m' + 1 → values_at lines k factor front m ≡ values_at lines k' factor (front ++ v ∷ []) m'
unfolding values_at
values_more lines k k' factor front m m' v h e g = let s : m ≡ suc m' = omega arith in rw (s, e, h) refl

pub values_done : (lines : List (List ℕ)) (k factor : ℕ) (front : List ℕ) (m : ℕ) → m ≡ 0 → values_at lines k factor front m ≡ Ok front
unfolding values_at
values_done lines k factor front m e = rw e refl

pub none_read : (lines : List (List ℕ)) (k factor n : ℕ) (spans : List Ends) → spans ≡ [] → ReadSoFar lines k factor n 0 spans
none_read lines k factor n spans e = record { front = []; so_far = let z : n - 0 ≡ n = omega arith in rw (add-zero k, z) refl; are = e; small = λ j p. absurd (omega arith); count = refl }

pub read_fault : (lines : List (List ℕ)) (k factor n i : ℕ) (spans : List Ends) (e : LdtFault) → ReadSoFar lines k factor n i spans → i < n → value_at lines (k + i) factor ≡ Err e → values_at lines k factor [] n ≡ Err e
read_fault lines k factor n i spans e r p h = r.so_far ∙ values_fault lines (k + i) factor r.front (n - i) e (omega arith) h

pub read_more : (lines : List (List ℕ)) (k factor n i v : ℕ) (spans spans' : List Ends) → ReadSoFar lines k factor n i spans → i < n → value_at lines (k + i) factor ≡ Ok v → v ≤ 10 ^ 28 → spans' ≡ spans ++ span_of v ∷ [] → ReadSoFar lines k factor n (i + 1) spans'
read_more lines k factor n i v spans spans' r p h small e =
    let c = r.count in
    let all = length-append r.front (v ∷ []) in
    record {
      front = r.front ++ v ∷ [];
      so_far = r.so_far ∙ values_more lines (k + i) (k + (i + 1)) factor r.front (n - i) (n - (i + 1)) v h (omega arith) (omega arith);
      are = rw (e, map-append span_of r.front (v ∷ []), ← r.are) refl;
      small = λ j q. more_small r.front (r.front ++ v ∷ []) v (length r.front) (10 ^ 28) refl r.small small refl j (omega (arith, all));
      count = omega (arith, all);
    }

pub all_spans : (lines : List (List ℕ)) (k factor n i : ℕ) (spans : List Ends) → ReadSoFar lines k factor n i spans → i ≡ n → AreSpansOf n spans (values_at lines k factor [] n)
all_spans lines k factor n i spans r e =
    record { values = r.front; is = r.so_far ∙ values_done lines (k + i) factor r.front (n - i) (omega arith); are = r.are; small = r.small; count = r.count ∙ e }

-- ---- the end

pub blank_more : (k : ℕ) (lines : List (List ℕ)) (line : List ℕ) (rest : List (List ℕ)) → lines ≡ line ∷ rest → list_all is_blank_byte line ≡ true → all_blank k lines ≡ all_blank (k + 1) rest
unfolding all_blank
blank_more k lines line rest e h = rw (e, h) refl

pub blank_not : (k : ℕ) (lines : List (List ℕ)) (line : List ℕ) (rest : List (List ℕ)) → lines ≡ line ∷ rest → list_all is_blank_byte line ≡ false → all_blank k lines ≡ Err (fault.Trailing k)
unfolding all_blank
blank_not k lines line rest e h = rw (e, h) refl

pub blank_done : (k : ℕ) (lines : List (List ℕ)) → lines ≡ [] → all_blank k lines ≡ Ok tt
unfolding all_blank
blank_done k lines e = rw e refl
