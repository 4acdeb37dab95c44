-- The least of some numbers, found one after the other.
use Rattle.std.proofs.Common.{ℕ, zero, suc, ◌+◌, ◌<◌, ◌≤◌, ◌≡◌, ◌⊎◌, inl, inr, min, Bool, true, false, List, [], ◌∷◌, length, arith, refl, subst, sym, ap, ◌∙◌, drop, drop-cons, All, add-one, if◌then◌else◌}
use Rattle.std.specs.Prelude.{slice_index_or, count_by}
use Rattle.std.proofs.Math.Seq.{drop-length}
use Rattle.std.proofs.lemmas.Bool.{cases_lt}
use Rattle.fx_base.proofs.Rounding.{natural-mono}
use Rattle.scene_system.specs.Sums.{is_open, lower_end, upper_end, IsValue}
use Rattle.grid_report.specs.Uniformities.{lesser_open, IsLeast}
use Rattle.scene_system.specs.declared.value.PointValue.{PointValue}
use Rattle.scene_system.proofs.Means.{no_point}

-- the least of `least` and the numbers of the values that aren't covered
unfoldable pub least_from : (PointValue → ℕ) → List PointValue → ℕ → ℕ
least_from number [] least = least
least_from number (v ∷ vs) least = least_from number vs (if v.covered then least else min least (number v))

next_most : (b : Bool) (least number : ℕ) → lesser_open b least number ≤ least
next_most true least number = omega arith
next_most false least number = omega arith

-- it is at most what it starts from
pub most_start : (number : PointValue → ℕ) (vs : List PointValue) (least : ℕ) → least_from number vs least ≤ least
unfolding least_from
most_start number [] least = omega arith
most_start number (v ∷ vs) least =
    let g = most_start number vs (lesser_open v.covered least (number v)) in let h = next_most v.covered least (number v) in omega arith

next_below : (b : Bool) (least number : ℕ) → b ≡ false → lesser_open b least number ≤ number
next_below true least number e = absurd (cc)
next_below false least number e = omega arith

-- and at most the number of each value that isn't covered
pub below_at : (number : PointValue → ℕ) (vs : List PointValue) (least : ℕ) (g : ℕ) (d : PointValue) → g < length vs
    → (slice_index_or vs g d).covered ≡ false → least_from number vs least ≤ number (slice_index_or vs g d)
unfolding least_from
below_at number [] least g d h e = absurd (omega arith)
below_at number (v ∷ vs) least zero d h e =
    let g = most_start number vs (lesser_open v.covered least (number v)) in let k = next_below v.covered least (number v) e in omega arith
below_at number (v ∷ vs) least (suc g) d h e = below_at number vs (lesser_open v.covered least (number v)) g d (omega arith) e

abbrev IsAttained : (PointValue → ℕ) → List PointValue → ℕ → PointValue → Type 0
IsAttained number vs least d = (g : ℕ) × (g < length vs) × ((slice_index_or vs g d).covered ≡ false) × (number (slice_index_or vs g d) ≡ least)

first_or_start : (number : PointValue → ℕ) (v : PointValue) (vs : List PointValue) (d : PointValue) (b : Bool) (least result : ℕ) → v.covered ≡ b
    → result ≡ lesser_open b least (number v) → IsAttained number (v ∷ vs) result d ⊎ (result ≡ least)
first_or_start number v vs d true least result c e = inr e
first_or_start number v vs d false least result c e = elim (cases_lt least (number v)) [
  | inl l ↦ inr (omega (arith, e, l))
  | inr g ↦ inl (0, omega arith, c, omega (arith, e, g))
]

pub attained_at : (number : PointValue → ℕ) (vs : List PointValue) (least : ℕ) (d : PointValue)
    → IsAttained number vs (least_from number vs least) d ⊎ (least_from number vs least ≡ least)
unfolding least_from
attained_at number [] least d = inr refl
attained_at number (v ∷ vs) least d = elim (attained_at number vs (lesser_open v.covered least (number v)) d) [
  | inl a ↦ inl (suc (a.0), omega (arith, a.1), a.2, a.3)
  | inr e ↦ first_or_start number v vs d v.covered least (least_from number vs (lesser_open v.covered least (number v))) refl e
]

abbrev IsOpenAt : List PointValue → PointValue → Type 0
IsOpenAt vs d = (g : ℕ) × (g < length vs) × ((slice_index_or vs g d).covered ≡ false)

first_open : (v : PointValue) (vs : List PointValue) (d : PointValue) (b : Bool) → v.covered ≡ b → (b ≡ true → IsOpenAt vs d) → IsOpenAt (v ∷ vs) d
first_open v vs d true c later = let a = later refl in (suc (a.0), omega (arith, a.1), a.2)
first_open v vs d false c later = (0, omega arith, c)

covered_counts : (v : PointValue) (vs : List PointValue) → v.covered ≡ true → 0 < count_by is_open (v ∷ vs) → 0 < count_by is_open vs
covered_counts v vs e h = rw e at h

pub some_open : (vs : List PointValue) (d : PointValue) → 0 < count_by is_open vs → IsOpenAt vs d
some_open [] d h = absurd (omega arith)
some_open (v ∷ vs) d h = first_open v vs d v.covered refl (λ e. some_open vs d (covered_counts v vs e h))

open_attained : (number : PointValue → ℕ) (vs : List PointValue) (start result : ℕ) (d : PointValue) → IsOpenAt vs d
    → ((g : ℕ) → g < length vs → number (slice_index_or vs g d) ≤ start)
    → ((g : ℕ) → g < length vs → (slice_index_or vs g d).covered ≡ false → result ≤ number (slice_index_or vs g d))
    → IsAttained number vs result d ⊎ (result ≡ start) → IsAttained number vs result d
open_attained number vs start result d a most below (inl found) = found
open_attained number vs start result d a most below (inr e) =
    (a.0, a.1, a.2, (let h = most (a.0) (a.1) in let g = below (a.0) (a.1) (a.2) in omega (arith, e)))

pub is_least : (number : PointValue → ℕ) (vs : List PointValue) (start : ℕ) → 0 < count_by is_open vs
    → ((g : ℕ) (d : PointValue) → g < length vs → number (slice_index_or vs g d) ≤ start) → IsLeast number vs (least_from number vs start)
is_least number vs start some most = record {
  below = λ g d h e. below_at number vs start g d h e;
  attained = λ d. open_attained number vs start (least_from number vs start) d (some_open vs d some) (λ g h. most g d h)
      (λ g h e. below_at number vs start g d h e) (attained_at number vs start d);
}

-- ---- found by a loop: what is left after the first values

pub record IsLeastSoFar (values : List PointValue) (index low high start : ℕ) : Type 0 where
  pub lower : least_from lower_end (drop index values) low ≡ least_from lower_end values start
  pub upper : least_from upper_end (drop index values) high ≡ least_from upper_end values start

opened : (number : PointValue → ℕ) (v : PointValue) (vs : List PointValue) (least : ℕ) → least_from number (v ∷ vs) least ≡ least_from number vs (lesser_open v.covered least (number v))
unfolding least_from
opened number v vs least = refl

step_at : (number : PointValue → ℕ) (values : List PointValue) (i : ℕ) (d : PointValue) (least more : ℕ) → i < length values
    → more ≡ lesser_open (slice_index_or values i d).covered least (number (slice_index_or values i d))
    → least_from number (drop i values) least ≡ least_from number (drop (i + 1) values) more
step_at number values i d least more h e = rw (add-one, e) (ap (λ (xs : List PointValue). least_from number xs least) (drop-cons values i d h) ∙ opened number (slice_index_or values i d) (drop (suc i) values) least)

pub least_step : (number : PointValue → ℕ) (values : List PointValue) (i : ℕ) (v : PointValue) (least more start : ℕ) → i < length values
    → v ≡ slice_index_or values i v → more ≡ lesser_open v.covered least (number v) → least_from number (drop i values) least ≡ least_from number values start
    → least_from number (drop (i + 1) values) more ≡ least_from number values start
least_step number values i v least more start h is e so_far =
    let P : PointValue → Type 0 = λ w. more ≡ lesser_open w.covered least (number w) in
    sym (step_at number values i v least more h (subst P is e)) ∙ so_far

pub upper_within : (values : List PointValue) → All IsValue values → (g : ℕ) (d : PointValue) → g < length values → upper_end (slice_index_or values g d) ≤ 5070602400912917605986812821504
upper_within values all g d h = (all g d h).high

pub lower_within : (values : List PointValue) → All IsValue values → (g : ℕ) (d : PointValue) → g < length values → lower_end (slice_index_or values g d) ≤ 5070602400912917605986812821504
lower_within values all g d h =
    let v = all g d h in let m = natural-mono (slice_index_or values g d).value.lo (slice_index_or values g d).value.hi v.low v.order in let k = v.high in omega arith

none_left : (number : PointValue → ℕ) (least : ℕ) → least_from number [] least ≡ least
unfolding least_from
none_left number least = refl

ended : (number : PointValue → ℕ) (values : List PointValue) (least : ℕ) → least_from number (drop (length values) values) least ≡ least
ended number values least = rw (drop-length values) (none_left number least)

pub all_least : (number : PointValue → ℕ) (values : List PointValue) (index least start : ℕ) → index ≡ length values
    → least_from number (drop index values) least ≡ least_from number values start → 0 < count_by is_open values
    → ((g : ℕ) (d : PointValue) → g < length values → number (slice_index_or values g d) ≤ start) → IsLeast number values least
all_least number values index least start e so_far some most =
    let P : ℕ → Type 0 = λ m. IsLeast number values m in
    let f : least_from number values start ≡ least = sym so_far ∙ (rw e (ended number values least)) in
    subst P f (is_least number values start some most)

pub least_within : (number : PointValue → ℕ) (values : List PointValue) (index least start : ℕ) → index ≡ length values
    → least_from number (drop index values) least ≡ least_from number values start → least ≤ start
least_within number values index least start e so_far =
    let f : least_from number values start ≡ least = sym so_far ∙ (rw e (ended number values least)) in
    let g = most_start number values start in omega arith

-- the least lower end is at most the least upper end
pub leasts_order : (vs : List PointValue) (a b : ℕ) → ((g : ℕ) (d : PointValue) → g < length vs → IsValue (slice_index_or vs g d))
    → IsLeast lower_end vs a → IsLeast upper_end vs b → a ≤ b
leasts_order vs a b each low high =
    let w = high.attained no_point in
    let v = slice_index_or vs (w.0) no_point in
    let one = low.below (w.0) no_point (w.1) (w.2) in
    let is = each (w.0) no_point (w.1) in
    let two = natural-mono v.value.lo v.value.hi is.low is.order in
    let three = w.3 in omega arith
