-- The greatest of one end of a list of spans, so far.
use Rattle.std.proofs.Common.{ℕ, ◌+◌, ◌<◌, ◌≤◌, ◌≡◌, List, length, map, slice_index_or, max, pos, inl, inr, arith, ap, sym, ◌∙◌, subst}
use Rattle.std.proofs.lemmas.Bool.{cases_lt}
use Rattle.std.proofs.lemmas.List.{get_or-map, get_or_default}
use Rattle.std.proofs.Math.ListN.{length-map}
use Rattle.fx_base.specs.Fraction.{whole}
use Rattle.fx_base.specs.Interval.{exact}
use Rattle.fx_base.specs.Ends.{Ends}
use Rattle.fx_base.specs.Units.{natural, ticks, of_span}
use Rattle.fx_base.specs.declared.Micro.{Micro}
use Rattle.fx_base.proofs.Sums.{ticks_le}
use Rattle.photo_table.specs.Table.{lower, upper}
use Rattle.photo_table.specs.Kept.{IsGreatest, table_of}

-- x is at least that end of each of the first n spans, and that end of one of all
pub record GreatestSoFar (end : Ends → ℕ) (vs : List Ends) (n x : ℕ) : Type 0 where
  pub all : (k : ℕ) (d : Ends) → k < n → end (slice_index_or vs k d) ≤ x
  pub place : ℕ
  pub within : place < length vs
  pub is : (d : Ends) → end (slice_index_or vs place d) ≡ x

-- an element within the list doesn't depend on what stands for one outside
pub same_place : (vs : List Ends) (k : ℕ) (d e : Ends) → k < length vs → slice_index_or vs k d ≡ slice_index_or vs k e
same_place vs k d e p = get_or_default vs k d e p

pub greatest_first : (end : Ends → ℕ) (vs : List Ends) (e : Ends) (x : ℕ) → 0 < length vs → e ≡ slice_index_or vs 0 e → x ≡ end e → GreatestSoFar end vs 0 x
greatest_first end vs e x p h f = record {
  all = λ k d q. absurd (omega arith);
  place = 0;
  within = p;
  is = λ d. ap end (same_place vs 0 d e p ∙ sym h) ∙ sym f;
}

pub greatest_more : (end : Ends → ℕ) (vs : List Ends) (n x : ℕ) (e : Ends) (y z : ℕ) → GreatestSoFar end vs n x → n < length vs → e ≡ slice_index_or vs n e → y ≡ end e → z ≡ max x y
    → GreatestSoFar end vs (n + 1) z
greatest_more end vs n x e y z g p h f m =
    let here : (d : Ends) → end (slice_index_or vs n d) ≡ y = λ d. ap end (same_place vs n d e p ∙ sym h) ∙ sym f in
    let all : (k : ℕ) (d : Ends) → k < n + 1 → end (slice_index_or vs k d) ≤ z = λ k d q. elim (cases_lt k n) [
      | inl l ↦ let a = g.all k d l in omega arith
      | inr l ↦ let s : n ≡ k = omega arith in let a = here d in
          let P : ℕ → Type 0 = λ i. end (slice_index_or vs i d) ≤ z in subst P s (omega arith)
    ] in
    elim (cases_lt x y) [
      | inl l ↦ let e' : y ≡ z = omega arith in record { all = all; place = n; within = p; is = λ d. here d ∙ e' }
      | inr l ↦ let e' : x ≡ z = omega arith in record { all = all; place = g.place; within = g.within; is = λ d. g.is d ∙ e' }
    ]

read : (ps gs : List Micro) (vs : List Ends) (k : ℕ) (d : Ends) → k < length vs → slice_index_or (map of_span vs) k (exact (whole 0)) ≡ of_span (slice_index_or vs k d)
read ps gs vs k d p = get_or-map of_span vs k d (exact (whole 0)) p

pub greatest_lower : (ps gs : List Micro) (vs : List Ends) (n x : ℕ) → n ≡ length vs → GreatestSoFar (λ (e : Ends). natural e.lo) vs n x → IsGreatest lower (table_of ps gs vs) (ticks x)
greatest_lower ps gs vs n x h g =
    let d = slice_index_or vs g.place (record { lo = pos 0; hi = pos 0 }) in
    record {
      all = λ k p. let q : k < length vs = rw (length-map vs of_span) at p in
          rw (read ps gs vs k d q) (ticks_le _ _ (g.all k d (omega arith)));
      place = g.place;
      within = rw (length-map vs of_span) g.within;
      is = rw (read ps gs vs g.place d g.within) (ap ticks (g.is d));
    }

pub greatest_upper : (ps gs : List Micro) (vs : List Ends) (n x : ℕ) → n ≡ length vs → GreatestSoFar (λ (e : Ends). natural e.hi) vs n x → IsGreatest upper (table_of ps gs vs) (ticks x)
greatest_upper ps gs vs n x h g =
    let d = slice_index_or vs g.place (record { lo = pos 0; hi = pos 0 }) in
    record {
      all = λ k p. let q : k < length vs = rw (length-map vs of_span) at p in
          rw (read ps gs vs k d q) (ticks_le _ _ (g.all k d (omega arith)));
      place = g.place;
      within = rw (length-map vs of_span) g.within;
      is = rw (read ps gs vs g.place d g.within) (ap ticks (g.is d));
    }
