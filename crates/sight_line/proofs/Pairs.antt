-- A point that lies inside each of some faces, found from facts on each two of them: no division, and no search but for the greatest of
-- the ratios at which the segment comes inside a face.
use Rattle.std.proofs.Common.{◌≡◌, ℕ, zero, suc, ◌+◌, ◌*◌, ◌<◌, ◌≤◌, List, [], ◌∷◌, get_or, refl, arith, lit<, inl, inr}
use Rattle.std.specs.List.{All}
use Rattle.std.proofs.Math.Nat.{mul-le-mul_left, le_of_mul-le-mul_left, lt_of_mul-lt-mul_left}
use Rattle.std.proofs.lemmas.Nat.{mul-lt}
use Rattle.std.proofs.lemmas.Bool.{cases_lt}
use Rattle.std.proofs.lemmas.List.Elements.{All-cons}
use Rattle.sight_line.specs.Sight.{Side}

-- an end that lies inside the face doesn't lie outside
pub record IsApart (f : Side) : Type 0 where
  pub p : 0 < f.p_in → f.p_out ≡ 0
  pub q : 0 < f.q_in → f.q_out ≡ 0

-- where p isn't inside f and q isn't inside g, the segment comes inside f before it leaves g
pub record IsBefore (f g : Side) : Type 0 where
  pub before : f.p_in ≡ 0 → g.q_in ≡ 0 → f.p_out * g.q_out < g.p_in * f.q_in

-- the point with weights r and s lies inside the face
pub record IsAt (r s : ℕ) (f : Side) : Type 0 where
  pub at : r * f.p_out + s * f.q_out < r * f.p_in + s * f.q_in

-- ---- from a point to the facts on pairs

crosses : (r s po qi qo pi : ℕ) → r * po < s * qi → s * qo < r * pi → po * qo < pi * qi
crosses r s po qi qo pi f g = lt_of_mul-lt-mul_left (r * s) (omega (arith, mul-lt (r * po) (s * qo) (s * qi) (r * pi) f g))

pub before_from : (r s : ℕ) (f g : Side) → IsAt r s f → IsAt r s g → IsBefore f g
before_from r s f g a b = record {
  before = λ e h.
      let in_f : r * f.p_out + s * f.q_out < r * 0 + s * f.q_in = rw e at a.at in
      let in_g : r * g.p_out + s * g.q_out < r * g.p_in + s * 0 = rw h at b.at in
      crosses r s f.p_out f.q_in g.q_out g.p_in (omega arith) (omega arith);
}

-- ---- from the facts on pairs to a point

-- an end of the segment lies inside the face
reach : (pi po qi qo : ℕ) → (pi ≡ 0 → qi ≡ 0 → po * qo < pi * qi) → pi ≡ 0 → 0 < qi
reach pi po zero qo b e = let h : po * qo < pi * 0 = b e refl in omega arith
reach pi po (suc qi) qo b e = omega arith

reaches : (f : Side) → IsBefore f f → f.p_in ≡ 0 → 0 < f.q_in
reaches f b e = reach f.p_in f.p_out f.q_in f.q_out b.before e

-- a ratio o : u that is at least each at which the segment comes inside one of the faces fs, and below each at which it leaves one of
-- all
record Entry (fs all : List Side) : Type 0 where
  o : ℕ
  u : ℕ
  positive : 0 < u
  greatest : All (λ f. f.p_in ≡ 0 → f.p_out * u ≤ o * f.q_in) fs
  before : All (λ g. g.q_in ≡ 0 → o * g.q_out < g.p_in * u) all

-- a ratio of at least another is of at least what that one is of
at_least_more : (a b o u o' u' : ℕ) → a * u ≤ o * b → o * u' < o' * u → 0 < u → a * u' ≤ o' * b
at_least_more a b o u o' u' h l p = le_of_mul-le-mul_left {k = u} (omega (arith, mul-le-mul_left u' h, mul-le-mul_left b l)) p

-- of the faces f and fs, where the ratio of fs is at least that of f, or p lies inside f
keep : (all fs : List Side) (f : Side) (e : Entry fs all) → (f.p_in ≡ 0 → f.p_out * e.u ≤ e.o * f.q_in) → Entry (f ∷ fs) all
keep all fs f e h = record {
  o = e.o;
  u = e.u;
  positive = e.positive;
  greatest = All-cons (λ g. g.p_in ≡ 0 → g.p_out * e.u ≤ e.o * g.q_in) f fs h e.greatest;
  before = e.before;
}

-- where it is less
raise : (all fs : List Side) (f : Side) (e : Entry fs all) → f.p_in ≡ 0 → IsBefore f f → All (λ g. IsBefore f g) all →
    e.o * f.q_in < f.p_out * e.u → Entry (f ∷ fs) all
raise all fs f e z own each l = record {
  o = f.p_out;
  u = f.q_in;
  positive = reaches f own z;
  greatest = All-cons (λ g. g.p_in ≡ 0 → g.p_out * f.q_in ≤ f.p_out * g.q_in) f fs (λ y. omega arith)
      (λ k d h y. at_least_more (get_or fs k d).p_out (get_or fs k d).q_in e.o e.u f.p_out f.q_in (e.greatest k d h y) l e.positive);
  before = λ k d h y. (each k d h).before z y;
}

with_face : (all fs : List Side) (f : Side) → IsBefore f f → All (λ g. IsBefore f g) all → Entry fs all → Entry (f ∷ fs) all
with_face all fs f own each e =
    elim (cases_lt 0 f.p_in) [
      | inl inside ↦ keep all fs f e (λ z. absurd (omega arith))
      | inr outside ↦ elim (cases_lt (e.o * f.q_in) (f.p_out * e.u)) [
        | inl less ↦ raise all fs f e (omega arith) own each less
        | inr more ↦ keep all fs f e (λ z. more)
      ]
    ]

stays : (pi po qi qo : ℕ) → (pi ≡ 0 → qi ≡ 0 → po * qo < pi * qi) → qi ≡ 0 → 0 * qo < pi * 1
stays zero po qi qo b e = let h : po * qo < 0 * qi = b refl e in omega arith
stays (suc pi) po qi qo b e = omega arith

leaves_later : (g : Side) → IsBefore g g → g.q_in ≡ 0 → 0 * g.q_out < g.p_in * 1
leaves_later g b e = stays g.p_in g.p_out g.q_in g.q_out b.before e

entry : (all fs : List Side) → All (λ g. IsBefore g g) all → All (λ f. All (λ g. IsBefore f g) all) fs → All (λ f. IsBefore f f) fs →
    Entry fs all
entry all [] own each ones = record {
  o = 0;
  u = 1;
  positive = lit< tt;
  greatest = λ k d l. absurd (omega arith);
  before = λ k d l y. leaves_later (get_or all k d) (own k d l) y;
}
entry all (f ∷ fs) own each ones =
    let rest : Entry fs all = entry all fs own (λ k d l. each (suc k) d (omega arith)) (λ k d l. ones (suc k) d (omega arith)) in
    with_face all fs f (ones 0 f (omega arith)) (each 0 f (omega arith)) rest

-- a point just past the ratio o : u lies inside a face that the segment comes inside there or sooner, or leaves later
just_past : (n o u pi po qi qo : ℕ) → (0 < pi → po ≡ 0) → (0 < qi → qo ≡ 0) → (pi ≡ 0 → 0 < qi) → (pi ≡ 0 → po * u ≤ o * qi) →
    (qi ≡ 0 → o * qo < pi * u) → qo < n → n * u * po + (n * o + 1) * qo < n * u * pi + (n * o + 1) * qi
just_past n o u zero po qi qo p q own enters leaves more =
    let h : po * u ≤ o * qi = enters refl in
    let z : qo ≡ 0 = q (own refl) in
    let i : 0 < qi = own refl in
    rw z (omega (arith, mul-le-mul_left n h))
just_past n o u (suc pi) po zero qo p q own enters leaves more =
    let h : o * qo < suc pi * u = leaves refl in
    let z : po ≡ 0 = p (omega arith) in
    rw z (omega (arith, mul-le-mul_left n h))
just_past n o u (suc pi) po (suc qi) qo p q own enters leaves more =
    let z : po ≡ 0 = p (omega arith) in
    let y : qo ≡ 0 = q (omega arith) in
    rw (z, y) (omega arith)

-- a number that no q_out is above
most_out : List Side → ℕ
most_out [] = 0
most_out (f ∷ fs) = f.q_out + most_out fs

below_most : (fs : List Side) → All (λ f. f.q_out ≤ most_out fs) fs
unfolding most_out
below_most [] = λ k d l. absurd (omega arith)
below_most (f ∷ fs) =
    All-cons (λ g. g.q_out ≤ f.q_out + most_out fs) f fs (omega arith) (λ k d l. let h = below_most fs k d l in omega arith)

-- the weights of a point inside each face
pub record Inside (all : List Side) : Type 0 where
  pub r : ℕ
  pub s : ℕ
  pub some : 0 < r + s
  pub each : All (λ f. IsAt r s f) all

past_entry : (all : List Side) → All (λ f. IsApart f) all → All (λ f. IsBefore f f) all → Entry all all → Inside all
past_entry all apart own e = record {
  r = suc (most_out all) * e.u;
  s = suc (most_out all) * e.o + 1;
  some = omega arith;
  each = λ k d l.
      let f : Side = get_or all k d in
      let few = below_most all k d l in
      record {
        at = just_past (suc (most_out all)) e.o e.u f.p_in f.p_out f.q_in f.q_out (apart k d l).p (apart k d l).q (reaches f (own k d l))
            (e.greatest k d l) (e.before k d l) (omega arith);
      };
}

pub inside_each : (all : List Side) → All (λ f. IsApart f) all → All (λ f. All (λ g. IsBefore f g) all) all → Inside all
inside_each all apart each =
    let own : All (λ f. IsBefore f f) all = λ k d l. each k d l k d l in
    past_entry all apart own (entry all all own each own)
