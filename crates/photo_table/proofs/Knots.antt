-- The law of pieces: on whichever piece a place lies, the value there is that of the straight line of this piece.
use Rattle.std.proofs.Common.{ℕ, suc, ◌-◌, ◌<◌, ◌≤◌, ◌≡◌, Bool, true, inl, inr, arith, subst}
use Rattle.std.proofs.lemmas.Bool.{cases_lt}
use Rattle.fx_base.specs.Fraction.{Fraction, ◌≤ᶠ◌, ◌≈ᶠ◌, at_most}
use Rattle.fx_base.specs.Units.{millionths}
use Rattle.fx_base.specs.Search.{greatest}
use Rattle.fx_base.proofs.Order.{le_trans_f, le_of_lt_f, eq_refl_f, eq_sym_f, eq_trans_f, at_most_true, at_most_le, at_most_false}
use Rattle.fx_base.proofs.SearchLaws.{greatest_within, greatest_passes, greatest_most, is_true_or_false}
use Rattle.photo_table.specs.Axis.{between, piece, along}
use Rattle.photo_table.proofs.Between.{IsOn, at_left, at_right, millionths_le, millionths_back}

-- the first n knots rise
pub record IsRising (k : ℕ → ℕ) (n : ℕ) : Type 0 where
  pub rises : (i j : ℕ) → i < j → j < n → k i < k j

pub rising_le : (k : ℕ → ℕ) (n i j : ℕ) → IsRising k n → i ≤ j → j < n → k i ≤ k j
rising_le k n i j r h p = elim (cases_lt i j) [
  | inl l ↦ let g = r.rises i j l p in omega arith
  | inr g ↦ let e : i ≡ j = omega arith in let P : ℕ → Type 0 = λ z. k i ≤ k z in subst P e (omega arith)
]

-- two pieces on which x lies have the same value there
same_on_pieces : (k : ℕ → ℕ) (n : ℕ) (v : ℕ → Fraction) (x : Fraction) (i j : ℕ) → IsRising k n → suc j < n → i ≤ j
    → IsOn (k i) (k (suc i)) x → millionths (k j) ≤ᶠ x
    → between x (k j) (v j) (k (suc j)) (v (suc j)) ≈ᶠ between x (k i) (v i) (k (suc i)) (v (suc i))
same_on_pieces k n v x i j r p h on low = elim (cases_lt i j) [
  | inr g ↦ let e : i ≡ j = omega arith in
      let P : ℕ → Type 0 = λ z. between x (k z) (v z) (k (suc z)) (v (suc z)) ≈ᶠ between x (k i) (v i) (k (suc i)) (v (suc i)) in
      subst P e (eq_refl_f (between x (k i) (v i) (k (suc i)) (v (suc i))))
  | inl l ↦ elim (cases_lt (suc i) j) [
    | inl m ↦ let up = r.rises (suc i) j m (omega arith) in
        let back = millionths_back (k j) (k (suc i)) (le_trans_f low on.high) in absurd (omega arith)
    | inr g ↦ let e : j ≡ suc i = omega arith in
        let Q : ℕ → Type 0 = λ z. millionths (k z) ≤ᶠ x in
        let at = subst Q e low in
        let on' : IsOn (k (suc i)) (k (suc (suc i))) x = record {
          rise = r.rises (suc i) (suc (suc i)) (omega arith) (omega arith);
          low = at;
          high = le_trans_f on.high (millionths_le (k (suc i)) (k (suc (suc i))) (rising_le k n (suc i) (suc (suc i)) r (omega arith) (omega arith)));
        } in
        let P : ℕ → Type 0 = λ z. between x (k z) (v z) (k (suc z)) (v (suc z)) ≈ᶠ between x (k i) (v i) (k (suc i)) (v (suc i)) in
        let f : suc i ≡ j = omega arith in
        subst P f (eq_trans_f (at_left (k (suc i)) (k (suc (suc i))) x (v (suc i)) (v (suc (suc i))) on' on.high)
        (eq_sym_f (at_right (k i) (k (suc i)) x (v i) (v (suc i)) on at)))
  ]
]

pub along_is : (k : ℕ → ℕ) (n : ℕ) (v : ℕ → Fraction) (x : Fraction) (i : ℕ) → IsRising k n → suc i < n → IsOn (k i) (k (suc i)) x
    → along k n v x ≈ᶠ between x (k i) (v i) (k (suc i)) (v (suc i))
unfolding along piece
along_is k n v x i r p on =
    let test : ℕ → Bool = λ j. at_most (millionths (k j)) x in
    let first : test 0 ≡ true = at_most_true (le_trans_f (millionths_le (k 0) (k i) (rising_le k n 0 i r (omega arith) (omega arith))) on.low) in
    let within = greatest_within test (n - 2) in
    same_on_pieces k n v x i (greatest test (n - 2)) r (omega arith)
    (greatest_most test (n - 2) i (omega arith) (at_most_true on.low)) on
    (at_most_le (millionths (k (greatest test (n - 2)))) x (greatest_passes test (n - 2) first))

-- the piece on which x lies
pub record HasPiece (k : ℕ → ℕ) (n : ℕ) (x : Fraction) : Type 0 where
  pub i : ℕ
  pub within : suc i < n
  pub on : IsOn (k i) (k (suc i)) x

pub piece_of : (k : ℕ → ℕ) (n : ℕ) (x : Fraction) → IsRising k n → 2 ≤ n → millionths (k 0) ≤ᶠ x → x ≤ᶠ millionths (k (n - 1)) → HasPiece k n x
piece_of k n x r two low high =
    let test : ℕ → Bool = λ j. at_most (millionths (k j)) x in
    let within = greatest_within test (n - 2) in
    let i = greatest test (n - 2) in
    record {
      i = i;
      within = omega arith;
      on = record {
        rise = r.rises i (suc i) (omega arith) (omega arith);
        low = at_most_le (millionths (k i)) x (greatest_passes test (n - 2) (at_most_true low));
        high = elim (cases_lt i (n - 2)) [
          | inr g ↦ let e : n - 1 ≡ suc i = omega arith in let P : ℕ → Type 0 = λ z. x ≤ᶠ millionths (k z) in subst P e high
          | inl l ↦ elim (is_true_or_false (test (suc i))) [
            | inl y ↦ let m = greatest_most test (n - 2) (suc i) (omega arith) y in absurd (omega arith)
            | inr f ↦ le_of_lt_f (at_most_false (millionths (k (suc i))) x f)
          ]
        ];
      };
    }
