-- What the table of a file is made of.
use Rattle.std.proofs.Common.{ℕ, ◌+◌, ◌-◌, ◌*◌, ◌%◌, ◌^◌, ◌<◌, ◌≤◌, ◌≡◌, true, List, [], length, map, drop, arith, refl, ap, sym, ◌∙◌, Ok, Result}
use Rattle.std.proofs.Math.ListN.{length-map}
use Rattle.std.proofs.Math.Nat.{mul-le-mul}
use Rattle.fx_base.specs.Ends.{Ends}
use Rattle.fx_base.specs.declared.Micro.{Micro}
use Rattle.photo_table.specs.Kept.{angle_of, AreGammas, AreIntensities}
use Rattle.photo_table.specs.Table.{Table}
use Rattle.symmetry_expand.specs.declared.symmetry.Symmetry.{Symmetry}
use Rattle.symmetry_expand.specs.declared.symmetry.Symmetry.TheVariants as symmetry
use Rattle.symmetry_expand.specs.AllRound.{all_round}
use Rattle.symmetry_expand.specs.Measured.{lifted, measured_table}
use Rattle.symmetry_expand.specs.Stored.{multiple_of, stored_count}
use Rattle.symmetry_expand.proofs.RoundedAll.{all_round_is_rounded}
use Rattle.eulumdat_read.specs.Given.{GivesTable}
use Rattle.eulumdat_read.specs.Items.{all_blank, angles_at, values_at}
use Rattle.eulumdat_read.specs.Ldt.{Head, LdtFile, body_of, end_line, flux_at, gammas_line, planes_at, run_well, stored_angles, value_count, values_line}
use Rattle.eulumdat_read.specs.Runs.{AreAngles, AreSpansOf, AreStoredPlanes, span_of}
use Rattle.eulumdat_read.specs.declared.fault.LdtFault.{LdtFault}
use Rattle.eulumdat_read.proofs.Rounded.{rounded_table, are_intensities}
use Rattle.eulumdat_read.proofs.StoredPlanes.{stored_length, stored_rise, stored_suited}

-- ---- what the parts say together

-- the next line is the one after the last intensity
at_end : (lines : List (List ℕ)) (h : Head) (line : ℕ) → line + 1 ≡ end_line h → all_blank (line + 1) (drop line lines) ≡ all_blank (end_line h) (drop (end_line h - 1) lines)
at_end lines h line e = let f : line ≡ end_line h - 1 = omega (arith, e) in ap (λ (k : ℕ). all_blank k (drop line lines)) e ∙ ap (λ (k : ℕ). all_blank (end_line h) (drop k lines)) f

pub body_says : (lines : List (List ℕ)) (set : ℕ) (h : Head) (flux : ℕ) (planes gammas : List Micro) (values : List ℕ) (factor n line : ℕ)
    → flux_at lines h.sets set ≡ Ok flux → planes_at lines h ≡ Ok planes → angles_at lines (gammas_line h) 180000000 0 [] h.gammas ≡ Ok gammas
    → factor ≡ h.factor * flux → n ≡ value_count h → values_at lines (values_line h) factor [] n ≡ Ok values
    → line + 1 ≡ end_line h → all_blank (line + 1) (drop line lines) ≡ Ok tt
    → body_of lines set h ≡ Ok (record { symmetry = h.symmetry; planes = planes; gammas = gammas; values = values })
unfolding body_of
body_says lines set h flux planes gammas values factor n line f p g a b v e r =
    let w : values_at lines (values_line h) (h.factor * flux) [] (value_count h) ≡ Ok values = rw (← a, ← b) v in
    rw (f, p, g, w, sym (at_end lines h line e) ∙ r) refl

-- the table of all planes is that of the file that was said
pub gives : (said : Result LdtFile LdtFault) (s : Symmetry) (n : ℕ) (planes gammas : List Micro) (spans : List Ends) (values : Result (List ℕ) LdtFault) (t : Table) → (a : AreSpansOf n spans values)
    → said ≡ Ok (record { symmetry = s; planes = planes; gammas = gammas; values = a.values }) → t ≡ all_round s (measured_table planes gammas spans) → GivesTable said t
gives said s n planes gammas spans values t a h e = record {
  file = record { symmetry = s; planes = planes; gammas = gammas; values = a.values };
  is = h;
  table = rw e (all_round_is_rounded s _ _ (rounded_table (lifted planes) (map angle_of gammas) a.values spans a.are));
}

-- ---- what the table is made of

stored_some : (s : Symmetry) (planes : ℕ) → 1 ≤ planes → planes ≤ 720 → (1 ≤ stored_count s planes) × (stored_count s planes ≤ 721)
stored_some symmetry.None planes p q = (p, omega arith)
stored_some symmetry.Axis planes p q = (omega arith, omega arith)
stored_some symmetry.Plane0 planes p q = (omega arith, omega arith)
stored_some symmetry.Plane90 planes p q = (omega arith, omega arith)
stored_some symmetry.Both planes p q = (omega arith, omega arith)

-- the stored planes can be unfolded
pub are_stored : (s : Symmetry) (planes n : ℕ) (angles ps : List Micro) → AreAngles planes 360000000 angles → 1 ≤ planes → planes % multiple_of s ≡ 0 → n ≡ stored_count s planes
    → ps ≡ stored_angles s planes angles → run_well s ps ≡ true → AreStoredPlanes s n ps
are_stored s planes n angles ps h some w e g r = rw g (record {
  count = stored_length s planes angles ∙ sym e;
  rise = stored_rise s planes angles h some w (rw g at r);
  suited = stored_suited s planes angles h some;
  run = rw g at r;
})

pub some_stored : (s : Symmetry) (planes : ℕ) (angles ps : List Micro) → 1 ≤ planes → planes ≤ 720 → ps ≡ stored_angles s planes angles → 0 < length ps
some_stored s planes angles ps some few g =
    let n : length ps ≡ stored_count s planes = ap length g ∙ stored_length s planes angles in
    let c = (stored_some s planes some few).0 in
    omega (arith, n, c)

pub are_gammas : (n : ℕ) (xs : List Micro) → 2 ≤ n → AreAngles n 180000001 xs → AreGammas xs
are_gammas n xs two h = let c = h.count in record { two = omega (arith, c); not_negative = h.not_negative; rise = h.rise; up_to = λ i p. let b = h.below i p in omega (arith, b) }

pub are_read : (n : ℕ) (spans : List Ends) (said : Result (List ℕ) LdtFault) → AreSpansOf n spans said → AreIntensities spans
are_read n spans said a = are_intensities a.values spans a.are a.small

pub count_read : (n : ℕ) (spans : List Ends) (said : Result (List ℕ) LdtFault) → AreSpansOf n spans said → length spans ≡ n
count_read n spans said a = ap length a.are ∙ length-map a.values span_of ∙ a.count

-- ---- the factor and the number of intensities

pub factor_small : (a b : ℕ) → a ≤ 1000000000 → b ≤ 10000000000000 → a * b ≤ 10 ^ 22
factor_small a b p q = let m = mul-le-mul p q in omega (arith, m)

pub some_values : (s : Symmetry) (planes count gammas : ℕ) → 1 ≤ planes → planes ≤ 720 → count ≡ stored_count s planes → 2 ≤ gammas → 1 ≤ count * gammas
some_values s planes count gammas p q e g =
    let a = (stored_some s planes p q).0 in
    let b : 1 ≤ count = rw e a in
    let m = mul-le-mul {n₁ = 1} {m₁ = 2} {n₂ = count} {m₂ = gammas} b g in omega (arith, m)

pub few_values : (s : Symmetry) (planes count gammas : ℕ) → 1 ≤ planes → planes ≤ 720 → count ≡ stored_count s planes → gammas ≤ 721 → count * gammas ≤ 1000000
few_values s planes count gammas p q e g =
    let a = (stored_some s planes p q).1 in
    let b : count ≤ 721 = rw e a in
    let m = mul-le-mul {n₁ = count} {m₁ = gammas} {n₂ = 721} {m₂ = 721} b g in omega (arith, m)
