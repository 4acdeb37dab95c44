-- A file that was read, whole: what is kept of it can be unfolded to its table.
use Rattle.std.proofs.Common.{ℕ, ◌+◌, ◌-◌, ◌*◌, ◌^◌, ◌<◌, ◌≤◌, ◌≡◌, Bool, true, List, length, take, drop, map, get_or, Ok, Some, ap, sym, subst, ◌∙◌, arith}
use Rattle.std.proofs.Math.Nat.{mul-le-mul_left}
use Rattle.std.proofs.lemmas.List.{length-map, length-take-le, get_or-take}
use Rattle.fx_base.specs.Ends.{Ends}
use Rattle.fx_base.specs.declared.micro.Micro.{Micro}
use Rattle.photo_table.specs.Kept.{AreGammas, AreIntensities}
use Rattle.symmetry_expand.specs.declared.symmetry.Symmetry.{Symmetry}
use Rattle.symmetry_expand.specs.Measured.{AreSuited, RiseWithinTurn, first_angle, last_angle, runs_as_needed}
use Rattle.lm63_read.specs.declared.head.Header.{Header}
use Rattle.lm63_read.specs.Items.{items_of}
use Rattle.lm63_read.specs.Angles.{symmetry_of}
use Rattle.lm63_read.specs.Files.{IesFile}
use Rattle.lm63_read.specs.Head.{file_of, first_line, found, header_of, next_lines, tilt_from, tilted, trimmed}
use Rattle.lm63_read.specs.Grammar.{FitsIes, angle}
use Rattle.lm63_read.specs.Spans.{IsReading, span_of, spans_of}
use Rattle.lm63_read.specs.Tables.{kept, kept_planes, kept_values}
use Rattle.decimal_text.proofs.Steps.{both_gave}
use Rattle.lm63_read.proofs.Fits.{fits_of}
use Rattle.lm63_read.proofs.Kept.{are_gammas, ends_of, is_kept, last_most}
use Rattle.lm63_read.proofs.Unfolds.{are_suited, rise_within_turn, run_as_needed}
use Rattle.lm63_read.proofs.Rounds.{are_intensities, map_take}

-- it fits the grammar
pub record Fitting (f : IesFile) : Type 0 where
  pub header : Header
  pub items : List (List ℕ)
  pub included : Bool
  pub fits : FitsIes header items included f

pub fitting_of : (bytes : List ℕ) (f : IesFile) → file_of bytes ≡ Ok f → Fitting f
unfolding file_of
fitting_of bytes f h =
    let a = both_gave (header_of (trimmed (first_line bytes))) _ f h in
    let b = both_gave (found (tilt_from true (next_lines bytes))) _ f a.2 in
    let c = both_gave (tilted (drop 5 (trimmed (first_line b.0)))) _ f b.2 in
    record { header = a.0; items = items_of (next_lines b.0); included = c.0; fits = fits_of a.0 (items_of (next_lines b.0)) c.0 f c.2 }

-- what the symmetry is, and what it asks
pub record Unfolds (f : IesFile) : Type 0 where
  pub symmetry : Symmetry
  pub stands : symmetry_of (length f.horizontals) (first_angle f.horizontals) (last_angle f.horizontals) ≡ Some symmetry
  pub few_planes : length f.horizontals ≤ 721
  pub few_gammas : length f.verticals ≤ 721
  pub rise : RiseWithinTurn (kept_planes f.horizontals)
  pub suited : AreSuited symmetry (kept_planes f.horizontals)
  pub runs : runs_as_needed symmetry (first_angle (kept_planes f.horizontals)) (last_angle (kept_planes f.horizontals)) ≡ true
  pub gammas : AreGammas f.verticals
  pub values : AreIntensities (kept_values f.horizontals (length f.verticals) (spans_of f.values))
  pub all : length (kept_values f.horizontals (length f.verticals) (spans_of f.values)) ≡ length (kept_planes f.horizontals) * length f.verticals

pub unfolds_of : (f : IesFile) → Fitting f → Unfolds f
unfolding spans_of
unfolds_of f w =
    let t = w.fits in
    let h = t.horizontals_are in
    let v = t.verticals_are in
    let xs = f.horizontals in
    let items = w.items in
    let k = t.shift + 14 + t.gammas in
    let n = t.planes in
    let size : length xs ≡ n = h.angles.size in
    let size_v : length f.verticals ≡ t.gammas = v.angles.size in
    let pa = t.planes_are.least in
    let pb = t.planes_are.most in
    let ga = t.gammas_are.least in
    let gb = t.gammas_are.most in
    let e = ends_of h.symmetry n (angle xs 0) (angle xs (n - 1)) h.is in
    let q = is_kept items k n xs (omega arith) h.angles (last_most h.symmetry n xs size e) in
    let last : last_angle xs ≡ angle xs (n - 1) = ap (λ m. angle xs (m - 1)) size in
    let within = q.within in
    let kept_size : length (kept_planes xs) ≡ kept xs = length-take-le (kept xs) xs (omega arith) in
    let values = t.values_are in
    let size_f : length f.values ≡ n * t.gammas = values.size in
    let room : kept xs * length f.verticals ≤ length f.values = omega (arith, mul-le-mul_left t.gammas within, size_f, ap (λ j. kept xs * j) size_v) in
    let m = kept xs * length f.verticals in
    record {
      symmetry = h.symmetry;
      stands = rw (size, last) h.is;
      few_planes = omega arith;
      few_gammas = omega arith;
      rise = rise_within_turn items k n xs h.angles q;
      suited = are_suited h.symmetry items k n xs h.angles q e;
      runs = run_as_needed h.symmetry items k n xs h.angles q e;
      gammas = are_gammas items (t.shift + 14) t.gammas f.verticals (omega arith) v;
      values = rw (map_take span_of m f.values) (are_intensities (take m f.values) (λ i l.
          let b : i < m = omega (arith, length-take-le m f.values room) in
          let a : i < n * t.gammas = omega arith in
          let most : get_or f.values i 0 ≤ 10 ^ 31 = (values.each i a).most in
          rw (get_or-take m f.values i 0 b) most));
      all = length-take-le m (map span_of f.values) (rw (length-map f.values span_of) room) ∙ ap (λ j. j * length f.verticals) (sym kept_size);
    }

-- the same of the lists that the reader holds
pub unfolds_in : (bytes : List ℕ) (verticals horizontals : List Micro) (spans : List Ends) (h : IsReading verticals horizontals spans (file_of bytes))
    → Unfolds (record { verticals = verticals; horizontals = horizontals; values = h.products })
unfolds_in bytes verticals horizontals spans h =
    let f : IesFile = record { verticals = verticals; horizontals = horizontals; values = h.products } in
    unfolds_of f (fitting_of bytes f h.is)

-- it stands for one symmetry
abbrev Stands : IesFile → Symmetry → Type 0
Stands f s = symmetry_of (length f.horizontals) (first_angle f.horizontals) (last_angle f.horizontals) ≡ Some s

one_symmetry : (s t : Symmetry) → Some s ≡ Some t → s ≡ t
one_symmetry s t h = cc

pub suited_to : (f : IesFile) (s : Symmetry) → Unfolds f → Stands f s → AreSuited s (kept_planes f.horizontals)
suited_to f s u h =
    let P : Symmetry → Type 0 = λ t. AreSuited t (kept_planes f.horizontals) in
    subst P (one_symmetry u.symmetry s (sym u.stands ∙ h)) u.suited

pub runs_for : (f : IesFile) (s : Symmetry) → Unfolds f → Stands f s → runs_as_needed s (first_angle (kept_planes f.horizontals)) (last_angle (kept_planes f.horizontals)) ≡ true
runs_for f s u h =
    let P : Symmetry → Type 0 = λ t. runs_as_needed t (first_angle (kept_planes f.horizontals)) (last_angle (kept_planes f.horizontals)) ≡ true in
    subst P (one_symmetry u.symmetry s (sym u.stands ∙ h)) u.runs
