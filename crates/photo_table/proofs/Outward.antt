-- Lower and upper ends at once: R m x says that m is at or outside of x, and `pick` takes the outer one of two.
use Rattle.std.proofs.Common.{ℕ}
use Rattle.fx_base.specs.Fraction.{Fraction, ◌≤ᶠ◌, ◌≈ᶠ◌, lesser, greater}
use Rattle.fx_base.proofs.Order.{le_trans_f, le_of_eq_f, ge_of_eq_f}
use Rattle.fx_base.proofs.Ratios.{lesser_left, lesser_right, le_lesser, greater_left, greater_right, greater_le}
use Rattle.photo_table.specs.Axis.{between}
use Rattle.photo_table.proofs.Between.{IsOn, between_at_most, between_at_least}

pub record IsOutward (pick : Fraction → Fraction → Fraction) (R : Fraction → Fraction → Type 0) : Type 0 where
  pub same : {a b : Fraction} → a ≈ᶠ b → R a b
  pub trans : {a b c : Fraction} → R a b → R b c → R a c
  pub left : (a b : Fraction) → R (pick a b) a
  pub right : (a b : Fraction) → R (pick a b) b
  pub both : (a b : Fraction) {c : Fraction} → R c a → R c b → R c (pick a b)
  pub line : (a b : ℕ) (u v m y x z : Fraction) → IsOn a b y → IsOn a b x → IsOn a b z → y ≤ᶠ x → x ≤ᶠ z
      → R m (between y a u b v) → R m (between z a u b v) → R m (between x a u b v)

pub outward_below : IsOutward lesser (λ m x. m ≤ᶠ x)
outward_below = record {
  same = λ {a} {b} e. le_of_eq_f e;
  trans = λ {a} {b} {c} g h. le_trans_f g h;
  left = lesser_left;
  right = lesser_right;
  both = λ a b {c} g h. le_lesser a b g h;
  line = between_at_least;
}

pub outward_above : IsOutward greater (λ m x. x ≤ᶠ m)
outward_above = record {
  same = λ {a} {b} e. ge_of_eq_f e;
  trans = λ {a} {b} {c} g h. le_trans_f h g;
  left = greater_left;
  right = greater_right;
  both = λ a b {c} g h. greater_le a b g h;
  line = between_at_most;
}
