-- Lines are read exactly where they fit the grammar, and then to what they say.
use Rattle.std.proofs.Common.{ℕ, zero, suc, ◌+◌, ◌-◌, ◌*◌, ◌%◌, ◌≤◌, ◌≡◌, ◌==◌, true, nat_le, List, [], length, drop, slice_index_or, Ok, refl, ap, sym, subst, arith}
use Rattle.std.proofs.lemmas.Bool.Decides.{nat_tests}
use Rattle.std.proofs.lemmas.List.{get_or-drop, length-drop}
use Rattle.fx_base.specs.declared.Micro.{Micro}
use Rattle.fx_base.proofs.Truth.{le_true}
use Rattle.symmetry_expand.specs.declared.symmetry.ExpandFault.TheVariants as expand
use Rattle.symmetry_expand.specs.declared.symmetry.Symmetry.{Symmetry}
use Rattle.symmetry_expand.specs.declared.symmetry.Symmetry.TheVariants as symmetry
use Rattle.symmetry_expand.specs.Stored.{multiple_of, stored_count}
use Rattle.eulumdat_read.specs.declared.fault.LdtFault.TheVariants as fault
use Rattle.eulumdat_read.specs.Grammar.{AreStored, Counts, FitsLdt, HasFlux, IsBlank, LdtIsFit, RunAsNeeded, SayAngles, SayIntensities, SaysIn, indicator}
use Rattle.decimal_text.specs.Steps.{demand}
use Rattle.eulumdat_read.specs.Items.{all_blank, angles_at, count_at, fluxes_at, measured_at, values_at}
use Rattle.eulumdat_read.specs.Ldt.{Head, LdtFile, body_of, flux_at, planes_at, run_well, end_line, gammas_line, head_of, ldt, planes_line, stored_angles, symmetry_by, value_count, values_line}
use Rattle.eulumdat_read.proofs.Said.{count_of, in_of, of_count, of_in}
use Rattle.eulumdat_read.proofs.SaidPlanes.{Stored, measured_of, says_stored, stored_says}
use Rattle.eulumdat_read.proofs.SaidRuns.{angles_of, blanks_of, flux_is, flux_of, fluxes_from, intensities_of, of_angles, of_blanks, of_intensities}
use Rattle.decimal_text.proofs.Steps.{both_gave, gives_both, held, ok_of}

-- ---- lines 1 to 26

pub record IsHeaded (lines : List (List ℕ)) (set : ℕ) (h : Head) : Type 0 where
  pub indicator_is : Counts lines 3 0 4 (indicator h.symmetry)
  pub planes_are : Counts lines 4 1 720 h.planes
  pub planes_fit : h.planes % multiple_of h.symmetry ≡ 0
  pub gammas_are : Counts lines 6 2 721 h.gammas
  pub factor_is : SaysIn lines 24 0 1000000000 h.factor
  pub sets_are : Counts lines 26 1 20 h.sets
  pub chosen : set ≤ h.sets

indicator_by : (i : ℕ) → i ≤ 4 → indicator (symmetry_by i) ≡ i
indicator_by zero l = refl
indicator_by (suc zero) l = refl
indicator_by (suc (suc zero)) l = refl
indicator_by (suc (suc (suc zero))) l = refl
indicator_by (suc (suc (suc (suc zero)))) l = refl
indicator_by (suc (suc (suc (suc (suc n))))) l = absurd (omega arith)

by_indicator : (s : Symmetry) → symmetry_by (indicator s) ≡ s
by_indicator symmetry.None = refl
by_indicator symmetry.Axis = refl
by_indicator symmetry.Plane0 = refl
by_indicator symmetry.Plane90 = refl
by_indicator symmetry.Both = refl

headed_of : (lines : List (List ℕ)) (set : ℕ) (h : Head) → head_of lines set ≡ Ok h → IsHeaded lines set h
unfolding head_of
headed_of lines set h e =
    let a = both_gave (count_at lines 3 0 4) _ h e in
    let b = both_gave (count_at lines 4 1 720) _ h a.2 in
    let c = both_gave (demand (b.0 % multiple_of (symmetry_by a.0) == 0) (fault.Expand expand.PlaneCount)) _ h b.2 in
    let d = both_gave (count_at lines 6 2 721) _ h c.2 in
    let f = both_gave (measured_at lines 24 0 1000000000) _ h d.2 in
    let g = both_gave (count_at lines 26 1 20) _ h f.2 in
    let k = both_gave (demand (nat_le set g.0) fault.NoLampSet) _ h g.2 in
    let whole = held (b.0 % multiple_of (symmetry_by a.0) == 0) (fault.Expand expand.PlaneCount) c.0 c.1 in
    let few = held (nat_le set g.0) fault.NoLampSet k.0 k.1 in
    let i = count_of lines 3 0 4 a.0 a.1 in
    let P : Head → Type 0 = λ t. IsHeaded lines set t in
    subst P (ok_of (record { symmetry = symmetry_by a.0; planes = b.0; gammas = d.0; factor = f.0; sets = g.0 }) h k.2) (record {
      indicator_is = let most = i.most in rw (indicator_by a.0 (omega arith)) i;
      planes_are = count_of lines 4 1 720 b.0 b.1;
      planes_fit = grind (arith, nat_tests);
      gammas_are = count_of lines 6 2 721 d.0 d.1;
      factor_is = in_of lines 24 0 1000000000 f.0 f.1;
      sets_are = count_of lines 26 1 20 g.0 g.1;
      chosen = grind (arith, nat_tests);
    })

of_headed : (lines : List (List ℕ)) (set : ℕ) (h : Head) → IsHeaded lines set h → head_of lines set ≡ Ok h
unfolding head_of
of_headed lines set h g =
    let fit = g.planes_fit in
    let whole : (h.planes % multiple_of h.symmetry == 0) ≡ true = grind (arith, nat_tests) in
    rw (
      of_count lines 3 0 4 (indicator h.symmetry) g.indicator_is,
      of_count lines 4 1 720 h.planes g.planes_are,
      by_indicator h.symmetry,
      whole,
      of_count lines 6 2 721 h.gammas g.gammas_are,
      of_in lines 24 0 1000000000 h.factor g.factor_is,
      of_count lines 26 1 20 h.sets g.sets_are,
      le_true set h.sets g.chosen,
    ) refl

-- ---- what follows them

pub record IsBodied (lines : List (List ℕ)) (set : ℕ) (h : Head) (f : LdtFile) : Type 0 where
  pub flux : ℕ
  pub angles : List Micro
  pub same : f.symmetry ≡ h.symmetry
  pub lit : (k : ℕ) → 1 ≤ k → k ≤ h.sets → (n : ℕ) × HasFlux lines k n
  pub flux_is : HasFlux lines set flux
  pub angles_are : SayAngles lines (planes_line h) h.planes 359999999 angles
  pub stored : AreStored h.symmetry angles f.planes
  pub run : RunAsNeeded h.symmetry f.planes
  pub gamma_angles : SayAngles lines (gammas_line h) h.gammas 180000000 f.gammas
  pub values : SayIntensities lines (values_line h) (stored_count h.symmetry h.planes) h.gammas (h.factor * flux) f.values
  pub rest : (k : ℕ) → end_line h ≤ k → k ≤ length lines → IsBlank lines k

rest_of : (lines : List (List ℕ)) (e : ℕ) → 1 ≤ e → all_blank e (drop (e - 1) lines) ≡ Ok tt → (k : ℕ) → e ≤ k → k ≤ length lines → IsBlank lines k
rest_of lines e some h k p q =
    let n = length-drop (e - 1) lines in
    let a = blanks_of e (drop (e - 1) lines) h (k - e) (omega (arith, n)) in
    let s : e - 1 + (k - e) ≡ k - 1 = omega arith in
    rw (get_or-drop (e - 1) lines (k - e) [], s) at a

of_rest : (lines : List (List ℕ)) (e : ℕ) → 1 ≤ e → ((k : ℕ) → e ≤ k → k ≤ length lines → IsBlank lines k) → all_blank e (drop (e - 1) lines) ≡ Ok tt
of_rest lines e some h =
    let n = length-drop (e - 1) lines in
    of_blanks (drop (e - 1) lines) e (λ i p.
    let a = h (e + i) (omega arith) (omega (arith, n)) in
    let s : e - 1 + i ≡ e + i - 1 = omega arith in
    rw (get_or-drop (e - 1) lines i [], s) a)

-- the flux of the chosen set, all sets having one
lit_of : (lines : List (List ℕ)) (sets set flux : ℕ) → 1 ≤ set → set ≤ sets → flux_at lines sets set ≡ Ok flux
    → ((k : ℕ) → 1 ≤ k → k ≤ sets → (n : ℕ) × HasFlux lines k n) × HasFlux lines set flux
unfolding flux_at
lit_of lines sets set flux some few e =
    let a = both_gave (fluxes_at lines 29 [] sets) _ flux e in
    let P : ℕ → Type 0 = λ n. HasFlux lines set n in
    (λ k p q. (slice_index_or a.0 (k - 1) 0, flux_of lines sets a.0 a.1 k p q), subst P (ok_of (slice_index_or a.0 (set - 1) 0) flux a.2) (flux_of lines sets a.0 a.1 set some few))

of_lit : (lines : List (List ℕ)) (sets set flux : ℕ) → 1 ≤ set → set ≤ sets → ((k : ℕ) → 1 ≤ k → k ≤ sets → (n : ℕ) × HasFlux lines k n) → HasFlux lines set flux
    → flux_at lines sets set ≡ Ok flux
unfolding flux_at
of_lit lines sets set flux some few lit h =
    let xs = fluxes_from lines sets 29 [] (λ i p. let s : 23 + 6 * (i + 1) ≡ 29 + 6 * i = omega arith in rw s at (lit (i + 1) (omega arith) (omega arith))) in
    rw xs.1 (ap Ok (flux_is lines sets xs.0 xs.1 set flux some few h))

-- the stored planes, and all angles C
stored_of : (lines : List (List ℕ)) (set : ℕ) (h : Head) → IsHeaded lines set h → (planes : List Micro) → planes_at lines h ≡ Ok planes
    → (angles : List Micro) × SayAngles lines (planes_line h) h.planes 359999999 angles × Stored h.symmetry angles planes
unfolding planes_at
stored_of lines set h g planes e =
    let b = both_gave (angles_at lines (planes_line h) 359999999 0 [] h.planes) _ planes e in
    let all = stored_angles h.symmetry h.planes b.0 in
    let c = both_gave (demand (run_well h.symmetry all) (fault.Expand expand.PlaneAngle)) (λ _. Ok all) planes b.2 in
    let said = angles_of lines (planes_line h) h.planes 359999999 b.0 b.1 in
    let many = g.planes_are.least in
    let s = says_stored h.symmetry h.planes b.0 (measured_of lines (planes_line h) h.planes 359999999 360000000 b.0 (omega arith) said) (omega arith) g.planes_fit
    (held (run_well h.symmetry all) (fault.Expand expand.PlaneAngle) c.0 c.1) in
    let P : List Micro → Type 0 = λ ps. Stored h.symmetry b.0 ps in
    (b.0, said, subst P (ok_of all planes c.2) s)

of_stored : (lines : List (List ℕ)) (set : ℕ) (h : Head) → IsHeaded lines set h → (angles planes : List Micro) → SayAngles lines (planes_line h) h.planes 359999999 angles
    → Stored h.symmetry angles planes → planes_at lines h ≡ Ok planes
unfolding planes_at
of_stored lines set h g angles planes said s =
    let many = g.planes_are.least in
    let t = stored_says h.symmetry h.planes angles planes (measured_of lines (planes_line h) h.planes 359999999 360000000 angles (omega arith) said) (omega arith) g.planes_fit s in
    rw (of_angles lines (planes_line h) h.planes 359999999 angles said, t.0, t.1) refl

bodied_of : (lines : List (List ℕ)) (set : ℕ) (h : Head) (f : LdtFile) → 1 ≤ set → IsHeaded lines set h → body_of lines set h ≡ Ok f → IsBodied lines set h f
unfolding body_of
bodied_of lines set h f some g e =
    let a = both_gave (flux_at lines h.sets set) _ f e in
    let b = both_gave (planes_at lines h) _ f a.2 in
    let d = both_gave (angles_at lines (gammas_line h) 180000000 0 [] h.gammas) _ f b.2 in
    let v = both_gave (values_at lines (values_line h) (h.factor * a.0) [] (value_count h)) _ f d.2 in
    let r = both_gave (all_blank (end_line h) (drop (end_line h - 1) lines)) _ f v.2 in
    let l = lit_of lines h.sets set a.0 some g.chosen a.1 in
    let s = stored_of lines set h g b.0 b.1 in
    let P : LdtFile → Type 0 = λ t. IsBodied lines set h t in
    subst P (ok_of (record { symmetry = h.symmetry; planes = b.0; gammas = d.0; values = v.0 }) f r.2) (record {
      flux = a.0;
      angles = s.0;
      same = refl;
      lit = l.0;
      flux_is = l.1;
      angles_are = s.1;
      stored = s.2.0;
      run = s.2.1;
      gamma_angles = angles_of lines (gammas_line h) h.gammas 180000000 d.0 d.1;
      values = intensities_of lines (values_line h) (stored_count h.symmetry h.planes) h.gammas (h.factor * a.0) v.0 v.1;
      rest = rest_of lines (end_line h) (omega arith) r.1;
    })

of_bodied : (lines : List (List ℕ)) (set : ℕ) (h : Head) (f : LdtFile) → 1 ≤ set → IsHeaded lines set h → IsBodied lines set h f → body_of lines set h ≡ Ok f
unfolding body_of
of_bodied lines set h f some g b =
    let two = g.gammas_are.least in
    let file : record { symmetry = h.symmetry; planes = f.planes; gammas = f.gammas; values = f.values } ≡ f =
    ap (λ x. let t : LdtFile = record { symmetry = x; planes = f.planes; gammas = f.gammas; values = f.values } in t) (sym b.same) in
    rw (
      of_lit lines h.sets set b.flux some g.chosen b.lit b.flux_is,
      of_stored lines set h g b.angles f.planes b.angles_are (b.stored, b.run),
      of_angles lines (gammas_line h) h.gammas 180000000 f.gammas b.gamma_angles,
      of_intensities lines (values_line h) (stored_count h.symmetry h.planes) h.gammas (h.factor * b.flux) f.values (omega arith) b.values,
      of_rest lines (end_line h) (omega arith) b.rest,
    ) (ap Ok file)

-- ---- the whole file

fits_of : (lines : List (List ℕ)) (set : ℕ) (f : LdtFile) → 1 ≤ set → ldt lines set ≡ Ok f → FitsLdt lines set f
unfolding ldt
fits_of lines set f some e =
    let a = both_gave (head_of lines set) (body_of lines set) f e in
    let g = headed_of lines set a.0 a.1 in
    let b = bodied_of lines set a.0 f some g a.2 in
    let s = sym b.same in
    record {
      planes = a.0.planes;
      gammas = a.0.gammas;
      factor = a.0.factor;
      sets = a.0.sets;
      flux = b.flux;
      angles = b.angles;
      indicator_is = rw s at g.indicator_is;
      planes_are = g.planes_are;
      planes_fit = rw s at g.planes_fit;
      gammas_are = g.gammas_are;
      factor_is = g.factor_is;
      sets_are = g.sets_are;
      chosen = g.chosen;
      lit = b.lit;
      flux_is = b.flux_is;
      angles_are = b.angles_are;
      stored = rw s at b.stored;
      run = rw s at b.run;
      gamma_angles = b.gamma_angles;
      values = rw s at b.values;
      rest = rw s at b.rest;
    }

of_fits : (lines : List (List ℕ)) (set : ℕ) (f : LdtFile) → 1 ≤ set → FitsLdt lines set f → ldt lines set ≡ Ok f
unfolding ldt
of_fits lines set f some h =
    let t : Head = record { symmetry = f.symmetry; planes = h.planes; gammas = h.gammas; factor = h.factor; sets = h.sets } in
    let g : IsHeaded lines set t = record {
      indicator_is = h.indicator_is;
      planes_are = h.planes_are;
      planes_fit = h.planes_fit;
      gammas_are = h.gammas_are;
      factor_is = h.factor_is;
      sets_are = h.sets_are;
      chosen = h.chosen;
    } in
    gives_both (head_of lines set) (body_of lines set) t f (of_headed lines set t g)
    (of_bodied lines set t f some g (record {
      flux = h.flux;
      angles = h.angles;
      same = refl;
      lit = h.lit;
      flux_is = h.flux_is;
      angles_are = h.angles_are;
      stored = h.stored;
      run = h.run;
      gamma_angles = h.gamma_angles;
      values = h.values;
      rest = h.rest;
    }))

pub ldt_is_fit : LdtIsFit
ldt_is_fit lines set f some = (fits_of lines set f some, of_fits lines set f some)
