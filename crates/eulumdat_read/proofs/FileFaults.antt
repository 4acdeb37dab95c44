-- No file is refused for want of memory.
use Rattle.std.proofs.Common.{ℕ, zero, suc, ◌+◌, ◌*◌, ◌%◌, ◌^◌, ◌==◌, ◌&&◌, nat_le, ◌≡◌, List, [], ◌∷◌, length, ℤ, pos, negsuc, refl, ap, sym, ◌∙◌, true, false, Bool, Result, Ok, Err, if◌then◌else◌}
use Rattle.std.proofs.lemmas.Bool.{false≢true}
use Rattle.std.specs.List.{list_all}
use Rattle.fx_base.specs.declared.Micro.{Micro}
use Rattle.decimal_text.specs.declared.number.NumberFault.{NumberFault}
use Rattle.decimal_text.specs.declared.number.NumberFault.TheVariants.{NotNumber, TooLarge}
use Rattle.symmetry_expand.specs.declared.symmetry.ExpandFault.TheVariants as expand
use Rattle.symmetry_expand.specs.Stored.{multiple_of}
use Rattle.decimal_text.specs.Steps.{◌>>=◌, demand}
use Rattle.eulumdat_read.specs.Items.{line_at, or_fault, number_at, ranged, measured_at, count_at, angles_at, fluxes_at, lit, value_at, values_at, all_blank}
use Rattle.eulumdat_read.specs.Ldt.{Head, symmetry_by, head_of, flux_at, run_well, stored_angles, planes_at, body_of, ldt}
use Rattle.eulumdat_read.specs.Lines.{is_blank_byte}
use Rattle.eulumdat_read.specs.declared.fault.LdtFault.{LdtFault}
use Rattle.eulumdat_read.specs.declared.fault.LdtFault.TheVariants as fault

abbrev is_want : LdtFault → Bool
is_want (fault.Short k) = false
is_want (fault.Number k) = false
is_want (fault.Range k) = false
is_want fault.NoLampSet = false
is_want (fault.Order k) = false
is_want (fault.Negative k) = false
is_want (fault.Expand expand.PlaneCount) = false
is_want (fault.Expand expand.PlaneAngle) = false
is_want (fault.Expand expand.Memory) = true
is_want (fault.Intensity k) = false
is_want (fault.Trailing k) = false
is_want fault.Memory = true

abbrev is_memory : LdtFault → Bool
is_memory (fault.Short k) = false
is_memory (fault.Number k) = false
is_memory (fault.Range k) = false
is_memory fault.NoLampSet = false
is_memory (fault.Order k) = false
is_memory (fault.Negative k) = false
is_memory (fault.Expand e) = false
is_memory (fault.Intensity k) = false
is_memory (fault.Trailing k) = false
is_memory fault.Memory = true

abbrev wants : {A : Type 0} → Result A LdtFault → Bool
wants (Ok x) = false
wants (Err e) = is_want e

next : {A B : Type 0} (r : Result A LdtFault) (f : A → Result B LdtFault) → wants r ≡ false → ((x : A) → wants (f x) ≡ false) → wants (r >>= f) ≡ false
next (Ok x) f h g = g x
next (Err e) f h g = h

either : {A : Type 0} (b : Bool) (x y : Result A LdtFault) → wants x ≡ false → wants y ≡ false → wants (if b then x else y) ≡ false
either true x y h g = h
either false x y h g = g

demanded : (b : Bool) (e : LdtFault) → is_want e ≡ false → wants (demand b e) ≡ false
demanded true e h = refl
demanded false e h = h

or_none : (k : ℕ) (r : Result ℤ NumberFault) → wants (or_fault k r) ≡ false
or_none k (Ok z) = refl
or_none k (Err NotNumber) = refl
or_none k (Err TooLarge) = refl

line_none : (lines : List (List ℕ)) (k : ℕ) → wants (line_at lines k) ≡ false
unfolding line_at
line_none lines k = either (nat_le k (length lines)) _ _ refl refl

number_none : (lines : List (List ℕ)) (k : ℕ) → wants (number_at lines k) ≡ false
unfolding number_at
number_none lines k = next (line_at lines k) _ (line_none lines k) (λ line. or_none k _)

ranged_none : (k lo hi : ℕ) (z : ℤ) → wants (ranged k lo hi z) ≡ false
ranged_none k lo hi (pos n) = either (nat_le lo n && nat_le n hi) _ _ refl refl
ranged_none k lo hi (negsuc n) = refl

measured_none : (lines : List (List ℕ)) (k lo hi : ℕ) → wants (measured_at lines k lo hi) ≡ false
unfolding measured_at
measured_none lines k lo hi = next (number_at lines k) _ (number_none lines k) (λ z. ranged_none k lo hi z)

count_none : (lines : List (List ℕ)) (k lo hi : ℕ) → wants (count_at lines k lo hi) ≡ false
unfolding count_at
count_none lines k lo hi = next (measured_at lines k (lo * 1000000) (hi * 1000000)) _ (measured_none lines k (lo * 1000000) (hi * 1000000)) (λ n. either (n % 1000000 == 0) _ _ refl refl)

angles_none : (lines : List (List ℕ)) (k most least : ℕ) (front : List Micro) (n : ℕ) → wants (angles_at lines k most least front n) ≡ false
unfolding angles_at
angles_none lines k most least front zero = refl
angles_none lines k most least front (suc n) =
    next (measured_at lines k 0 most) _ (measured_none lines k 0 most) (λ a. next (demand (nat_le least a) (fault.Order k)) _ (demanded (nat_le least a) (fault.Order k) refl) (λ _. angles_none lines (k + 1) most (a + 1) _ n))

fluxes_none : (lines : List (List ℕ)) (k : ℕ) (front : List ℕ) (n : ℕ) → wants (fluxes_at lines k front n) ≡ false
unfolding fluxes_at
fluxes_none lines k front zero = refl
fluxes_none lines k front (suc n) = next (measured_at lines k 0 10000000000000) _ (measured_none lines k 0 10000000000000) (λ f. fluxes_none lines (k + 6) _ n)

lit_none : (k factor : ℕ) (z : ℤ) → wants (lit k factor z) ≡ false
lit_none k factor (pos n) = either (nat_le (n * factor) (10 ^ 28)) _ _ refl refl
lit_none k factor (negsuc n) = refl

value_none : (lines : List (List ℕ)) (k factor : ℕ) → wants (value_at lines k factor) ≡ false
unfolding value_at
value_none lines k factor = next (number_at lines k) _ (number_none lines k) (λ z. lit_none k factor z)

values_none : (lines : List (List ℕ)) (k factor : ℕ) (front : List ℕ) (n : ℕ) → wants (values_at lines k factor front n) ≡ false
unfolding values_at
values_none lines k factor front zero = refl
values_none lines k factor front (suc n) = next (value_at lines k factor) _ (value_none lines k factor) (λ v. values_none lines (k + 1) factor _ n)

blank_none : (k : ℕ) (lines : List (List ℕ)) → wants (all_blank k lines) ≡ false
unfolding all_blank
blank_none k [] = refl
blank_none k (line ∷ lines) = either (list_all is_blank_byte line) _ _ (blank_none (k + 1) lines) refl

head_none : (lines : List (List ℕ)) (set : ℕ) → wants (head_of lines set) ≡ false
unfolding head_of
head_none lines set =
    next _ _ (count_none lines 3 0 4) (λ isym.
    next _ _ (count_none lines 4 1 720) (λ planes.
    next _ _ (demanded (planes % multiple_of (symmetry_by isym) == 0) (fault.Expand expand.PlaneCount) refl) (λ _.
    next _ _ (count_none lines 6 2 721) (λ gammas.
    next _ _ (measured_none lines 24 0 1000000000) (λ factor.
    next _ _ (count_none lines 26 1 20) (λ sets.
    next _ _ (demanded (nat_le set sets) fault.NoLampSet refl) (λ _. refl)))))))

flux_none : (lines : List (List ℕ)) (sets set : ℕ) → wants (flux_at lines sets set) ≡ false
unfolding flux_at
flux_none lines sets set = next _ _ (fluxes_none lines 29 [] sets) (λ fluxes. refl)

planes_none : (lines : List (List ℕ)) (h : Head) → wants (planes_at lines h) ≡ false
unfolding planes_at
planes_none lines h =
    next _ _ (angles_none lines _ 359999999 0 [] h.planes) (λ angles.
    next _ _ (demanded (run_well h.symmetry (stored_angles h.symmetry h.planes angles)) (fault.Expand expand.PlaneAngle) refl) (λ _. refl))

body_none : (lines : List (List ℕ)) (set : ℕ) (h : Head) → wants (body_of lines set h) ≡ false
unfolding body_of
body_none lines set h =
    next _ _ (flux_none lines h.sets set) (λ flux.
    next _ _ (planes_none lines h) (λ planes.
    next _ _ (angles_none lines _ 180000000 0 [] h.gammas) (λ gammas.
    next _ _ (values_none lines _ _ [] _) (λ values.
    next _ _ (blank_none _ _) (λ _. refl)))))

none : (lines : List (List ℕ)) (set : ℕ) → wants (ldt lines set) ≡ false
unfolding ldt
none lines set = next (head_of lines set) (body_of lines set) (head_none lines set) (λ h. body_none lines set h)

pub never_want : (lines : List (List ℕ)) (set : ℕ) (e : LdtFault) → ((e ≡ fault.Memory → ⊥) → ldt lines set ≡ Err e) → e ≡ fault.Expand expand.Memory → ⊥
never_want lines set e said h =
    let other = λ (m : e ≡ fault.Memory). false≢true (ap is_memory (sym h ∙ m)) in
    false≢true (sym (none lines set) ∙ ap wants (said other) ∙ ap is_want h)
