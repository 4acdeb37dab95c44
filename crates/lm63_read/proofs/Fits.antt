-- A file is read exactly where it fits the grammar, and then to what it says.
use Rattle.std.proofs.Common.{ℕ, ◌+◌, ◌-◌, ◌*◌, ◌<◌, ◌≤◌, ◌≡◌, Bool, true, nat_le, List, [], length, pos, Ok, refl, ap, sym, subst, arith}
use Rattle.std.proofs.Math.Nat.{mul-pos}
use Rattle.std.proofs.lemmas.Bool.Decides.{nat_tests}
use Rattle.lm63_read.specs.declared.head.Header.{Header}
use Rattle.lm63_read.specs.declared.angles.AngleKind.TheVariants.{Vertical, Horizontal}
use Rattle.lm63_read.specs.declared.fault.IesFault.TheVariants as fault
use Rattle.lm63_read.specs.Reads.{measured_at, count_at, type_at}
use Rattle.lm63_read.specs.Angles.{angles_at}
use Rattle.lm63_read.specs.Values.{values_at}
use Rattle.lm63_read.specs.Sizes.{Sizes, shift_of, further_at, sizes_of}
use Rattle.lm63_read.specs.Files.{IesFile, ended_at, last_item, table_at, ies}
use Rattle.lm63_read.specs.Grammar.{IsShift, IsFurther, Says, SaysIn, AreVerticals, AreHorizontals, AreProducts, FitsIes, IesIsFit}
use Rattle.decimal_text.proofs.Steps.{both_gave, gives_both, held, ok_of}
use Rattle.lm63_read.proofs.Said.{in_of, of_in, count_of, of_count, type_of, of_type, is_shift, of_shift, is_further, of_further}
use Rattle.lm63_read.proofs.Followed.{verticals_of, of_verticals, horizontals_of, of_horizontals}
use Rattle.lm63_read.proofs.Multiplied.{products_of, of_products}

-- the numbers before the angles
pub record AreSized (header : Header) (items : List (List ℕ)) (tilted : Bool) (s : Sizes) : Type 0 where
  pub multiplier : ℕ
  pub ballast : ℕ
  pub further : ℕ
  pub shift_is : IsShift items tilted s.shift
  pub multiplier_is : SaysIn items (s.shift + 3) 0 10000000000 multiplier
  pub gammas_are : SaysIn items (s.shift + 4) 2000000 721000000 (s.gammas * 1000000)
  pub planes_are : SaysIn items (s.shift + 5) 1000000 721000000 (s.planes * 1000000)
  pub type_is : Says items (s.shift + 6) (pos 1000000)
  pub ballast_is : SaysIn items (s.shift + 11) 0 10000000 ballast
  pub further_is : IsFurther header items (s.shift + 12) further
  pub factor : s.factor ≡ multiplier * ballast * further

pub sized_of : (header : Header) (items : List (List ℕ)) (tilted : Bool) (s : Sizes) → sizes_of header items tilted ≡ Ok s → AreSized header items tilted s
unfolding sizes_of
sized_of header items tilted s h =
    let a = both_gave (shift_of items tilted) _ s h in
    let b = both_gave (measured_at items (a.0 + 3) 0 10000000000) _ s a.2 in
    let c = both_gave (count_at items (a.0 + 4) 2 721) _ s b.2 in
    let d = both_gave (count_at items (a.0 + 5) 1 721) _ s c.2 in
    let e = both_gave (type_at items (a.0 + 6)) _ s d.2 in
    let f = both_gave (measured_at items (a.0 + 11) 0 10000000) _ s e.2 in
    let g = both_gave (further_at header items (a.0 + 12)) _ s f.2 in
    let P : Sizes → Type 0 = λ t. AreSized header items tilted t in
    subst P (ok_of (record { shift = a.0; gammas = c.0; planes = d.0; factor = b.0 * f.0 * g.0 }) s g.2) (record {
      multiplier = b.0;
      ballast = f.0;
      further = g.0;
      shift_is = is_shift items tilted a.0 a.1;
      multiplier_is = in_of items (a.0 + 3) 0 10000000000 b.0 b.1;
      gammas_are = count_of items (a.0 + 4) 2 721 c.0 c.1;
      planes_are = count_of items (a.0 + 5) 1 721 d.0 d.1;
      type_is = type_of items (a.0 + 6) e.0 e.1;
      ballast_is = in_of items (a.0 + 11) 0 10000000 f.0 f.1;
      further_is = is_further header items (a.0 + 12) g.0 g.1;
      factor = refl;
    })

pub of_sized : (header : Header) (items : List (List ℕ)) (tilted : Bool) (s : Sizes) → AreSized header items tilted s → sizes_of header items tilted ≡ Ok s
unfolding sizes_of
of_sized header items tilted s h =
    let e : record { shift = s.shift; gammas = s.gammas; planes = s.planes; factor = h.multiplier * h.ballast * h.further } ≡ s =
    ap (λ n. let t : Sizes = record { shift = s.shift; gammas = s.gammas; planes = s.planes; factor = n } in t) (sym h.factor) in
    rw (
      of_shift items tilted s.shift h.shift_is,
      of_in items (s.shift + 3) 0 10000000000 h.multiplier h.multiplier_is,
      of_count items (s.shift + 4) 2 721 s.gammas h.gammas_are,
      of_count items (s.shift + 5) 1 721 s.planes h.planes_are,
      of_type items (s.shift + 6) h.type_is,
      of_in items (s.shift + 11) 0 10000000 h.ballast h.ballast_is,
      of_further header items (s.shift + 12) h.further h.further_is,
    ) (ap Ok e)

-- the angles and intensities, and the end
pub record IsTabled (items : List (List ℕ)) (s : Sizes) (f : IesFile) : Type 0 where
  pub verticals_are : AreVerticals items (s.shift + 14) s.gammas f.verticals
  pub horizontals_are : AreHorizontals items (s.shift + 14 + s.gammas) s.planes f.horizontals
  pub values_are : AreProducts items (s.shift + 14 + s.gammas + s.planes) (s.planes * s.gammas) s.factor f.values
  pub few : length items ≤ last_item s

pub tabled_of : (items : List (List ℕ)) (s : Sizes) (f : IesFile) → 0 < s.gammas → 0 < s.planes → table_at items s ≡ Ok f → IsTabled items s f
unfolding table_at
tabled_of items s f p q h =
    let a = both_gave (angles_at Vertical items (s.shift + 14) [] s.gammas) _ f h in
    let b = both_gave (angles_at Horizontal items (s.shift + 14 + s.gammas) [] s.planes) _ f a.2 in
    let c = both_gave (values_at items (s.shift + 14 + s.gammas + s.planes) s.factor [] (s.planes * s.gammas)) _ f b.2 in
    let d = both_gave (ended_at items (last_item s)) _ f c.2 in
    let t = held (nat_le (length items) (last_item s)) (fault.Trailing (last_item s + 1)) d.0 d.1 in
    let P : IesFile → Type 0 = λ g. IsTabled items s g in
    subst P (ok_of (record { verticals = a.0; horizontals = b.0; values = c.0 }) f d.2) (record {
      verticals_are = verticals_of items (s.shift + 14) s.gammas a.0 p a.1;
      horizontals_are = horizontals_of items (s.shift + 14 + s.gammas) s.planes b.0 q b.1;
      values_are = products_of items (s.shift + 14 + s.gammas + s.planes) (s.planes * s.gammas) s.factor c.0 c.1;
      few = grind (arith, nat_tests);
    })

pub of_tabled : (items : List (List ℕ)) (s : Sizes) (f : IesFile) → 0 < s.planes → IsTabled items s f → table_at items s ≡ Ok f
unfolding table_at
of_tabled items s f q h =
    let few = h.few in
    let t : nat_le (length items) (last_item s) ≡ true = grind (arith, nat_tests) in
    rw (
      of_verticals items (s.shift + 14) s.gammas f.verticals h.verticals_are,
      of_horizontals items (s.shift + 14 + s.gammas) s.planes f.horizontals q h.horizontals_are,
      of_products items (s.shift + 14 + s.gammas + s.planes) (s.planes * s.gammas) s.factor f.values h.values_are,
      t,
    ) refl

-- the last intensity is there
last_there : (items : List (List ℕ)) (s : Sizes) (vs : List ℕ) → 0 < s.gammas → 0 < s.planes
    → AreProducts items (s.shift + 14 + s.gammas + s.planes) (s.planes * s.gammas) s.factor vs → last_item s ≤ length items
last_there items s vs p q h =
    let n : 0 < s.planes * s.gammas = mul-pos q p in
    let t = (h.each (s.planes * s.gammas - 1) (omega arith)).says.there in
    omega arith

pub fits_of : (header : Header) (items : List (List ℕ)) (tilted : Bool) (f : IesFile) → ies header items tilted ≡ Ok f → FitsIes header items tilted f
unfolding ies
fits_of header items tilted f h =
    let a = both_gave (sizes_of header items tilted) (table_at items) f h in
    let s = sized_of header items tilted a.0 a.1 in
    let p : 0 < a.0.gammas = let l = s.gammas_are.least in omega arith in
    let q : 0 < a.0.planes = let l = s.planes_are.least in omega arith in
    let t = tabled_of items a.0 f p q a.2 in
    let few = t.few in
    let all = last_there items a.0 f.values p q t.values_are in
    let P : ℕ → Type 0 = λ n. AreProducts items (a.0.shift + 14 + a.0.gammas + a.0.planes) (a.0.planes * a.0.gammas) n f.values in
    record {
      shift = a.0.shift;
      multiplier = s.multiplier;
      gammas = a.0.gammas;
      planes = a.0.planes;
      ballast = s.ballast;
      further = s.further;
      shift_is = s.shift_is;
      multiplier_is = s.multiplier_is;
      gammas_are = s.gammas_are;
      planes_are = s.planes_are;
      type_is = s.type_is;
      ballast_is = s.ballast_is;
      further_is = s.further_is;
      verticals_are = t.verticals_are;
      horizontals_are = t.horizontals_are;
      values_are = subst P s.factor t.values_are;
      size = omega arith;
    }

pub of_fits : (header : Header) (items : List (List ℕ)) (tilted : Bool) (f : IesFile) → FitsIes header items tilted f → ies header items tilted ≡ Ok f
unfolding ies
of_fits header items tilted f h =
    let s : Sizes = record { shift = h.shift; gammas = h.gammas; planes = h.planes; factor = h.multiplier * h.ballast * h.further } in
    let q : 0 < h.planes = let l = h.planes_are.least in omega arith in
    let e = h.size in
    gives_both (sizes_of header items tilted) (table_at items) s f
    (of_sized header items tilted s (record {
      multiplier = h.multiplier;
      ballast = h.ballast;
      further = h.further;
      shift_is = h.shift_is;
      multiplier_is = h.multiplier_is;
      gammas_are = h.gammas_are;
      planes_are = h.planes_are;
      type_is = h.type_is;
      ballast_is = h.ballast_is;
      further_is = h.further_is;
      factor = refl;
    }))
    (of_tabled items s f q (record { verticals_are = h.verticals_are; horizontals_are = h.horizontals_are; values_are = h.values_are; few = omega arith }))

pub ies_is_fit : IesIsFit
ies_is_fit header items tilted f = (fits_of header items tilted f, of_fits header items tilted f)
