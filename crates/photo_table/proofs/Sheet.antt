-- A value over two axes that is straight along each on every piece: a bound at the corners of a box is one in the whole box.
use Rattle.std.proofs.Common.{ℕ, suc, ◌<◌}
use Rattle.fx_base.specs.Fraction.{Fraction, ◌≈ᶠ◌}
use Rattle.fx_base.specs.Interval.{Interval, Contains}
use Rattle.fx_base.proofs.Order.{eq_sym_f, eq_trans_f}
use Rattle.photo_table.specs.Axis.{between}
use Rattle.photo_table.proofs.Between.{IsOn, swap_axes}
use Rattle.photo_table.proofs.Outward.{IsOutward}
use Rattle.photo_table.proofs.Corners.{AtCorners, corner_before, corner_after}

-- the value at x on the i-th piece of the first axis and y on the j-th of the second
unfoldable pub across : (ℕ → ℕ) → (ℕ → ℕ) → (ℕ → ℕ → Fraction) → ℕ → ℕ → Fraction → Fraction → Fraction
across k g v i j x y =
    between x (k i) (between y (g j) (v i j) (g (suc j)) (v i (suc j))) (k (suc i)) (between y (g j) (v (suc i) j) (g (suc j)) (v (suc i) (suc j)))

-- the other axis first
unfoldable pub down : (ℕ → ℕ) → (ℕ → ℕ) → (ℕ → ℕ → Fraction) → ℕ → ℕ → Fraction → Fraction → Fraction
down k g v i j x y =
    between y (g j) (between x (k i) (v i j) (k (suc i)) (v (suc i) j)) (g (suc j)) (between x (k i) (v i (suc j)) (k (suc i)) (v (suc i) (suc j)))

pub across_down : (k g : ℕ → ℕ) (v : ℕ → ℕ → Fraction) (i j : ℕ) (x y : Fraction) → across k g v i j x y ≈ᶠ down k g v i j x y
unfolding across down
across_down k g v i j x y = swap_axes (k i) (k (suc i)) (g j) (g (suc j)) x y (v i j) (v i (suc j)) (v (suc i) j) (v (suc i) (suc j))

-- f is that value where both places lie on these pieces
pub record IsStraight (k g : ℕ → ℕ) (v : ℕ → ℕ → Fraction) (f : Fraction → Fraction → Fraction) (i j : ℕ) : Type 0 where
  pub value : (x y : Fraction) → IsOn (k i) (k (suc i)) x → IsOn (g j) (g (suc j)) y → f x y ≈ᶠ across k g v i j x y

down_value : (k g : ℕ → ℕ) (v : ℕ → ℕ → Fraction) (f : Fraction → Fraction → Fraction) (i j : ℕ) → IsStraight k g v f i j
    → (x y : Fraction) → IsOn (k i) (k (suc i)) x → IsOn (g j) (g (suc j)) y → f x y ≈ᶠ down k g v i j x y
down_value k g v f i j s x y on_x on_y = eq_trans_f (s.value x y on_x on_y) (across_down k g v i j x y)

-- a bound at the corners of the second axis
box_line : (pick : Fraction → Fraction → Fraction) (R : Fraction → Fraction → Type 0) → IsOutward pick R
    → (k g : ℕ → ℕ) (v : ℕ → ℕ → Fraction) (f : Fraction → Fraction → Fraction) (i j : ℕ) → IsStraight k g v f i j
    → (n : ℕ) (d : Interval) (m x y : Fraction) → AtCorners g n d (λ z. R m (f x z)) → suc j < n → Contains d y
    → IsOn (k i) (k (suc i)) x → IsOn (g j) (g (suc j)) y → R m (f x y)
unfolding down
box_line pick R o k g v f i j s n d m x y corners p inside on_x on_y =
    let P : Fraction → Type 0 = λ z. R m (f x z) in
    let before = corner_before g n d P y j corners inside p on_y in
    let after = corner_after g n d P y j corners inside p on_y in
    let seen = λ (z : Fraction) (on : IsOn (g j) (g (suc j)) z) (h : R m (f x z)). o.trans h (o.same (down_value k g v f i j s x z on_x on)) in
    o.trans
    (o.line (g j) (g (suc j)) (between x (k i) (v i j) (k (suc i)) (v (suc i) j)) (between x (k i) (v i (suc j)) (k (suc i)) (v (suc i) (suc j)))
    m before.y y after.y before.on on_y after.on before.order after.order
    (seen before.y before.on before.holds) (seen after.y after.on after.holds))
    (o.same (eq_sym_f (down_value k g v f i j s x y on_x on_y)))

-- a bound at the corners of both
pub box : (pick : Fraction → Fraction → Fraction) (R : Fraction → Fraction → Type 0) → IsOutward pick R
    → (k g : ℕ → ℕ) (v : ℕ → ℕ → Fraction) (f : Fraction → Fraction → Fraction) (i j : ℕ) → IsStraight k g v f i j
    → (l n : ℕ) (c d : Interval) (m x y : Fraction) → AtCorners k l c (λ w. AtCorners g n d (λ z. R m (f w z)))
    → suc i < l → suc j < n → Contains c x → Contains d y → IsOn (k i) (k (suc i)) x → IsOn (g j) (g (suc j)) y → R m (f x y)
unfolding across
box pick R o k g v f i j s l n c d m x y corners p q in_c in_d on_x on_y =
    let P : Fraction → Type 0 = λ w. AtCorners g n d (λ z. R m (f w z)) in
    let before = corner_before k l c P x i corners in_c p on_x in
    let after = corner_after k l c P x i corners in_c p on_x in
    let seen = λ (w : Fraction) (on : IsOn (k i) (k (suc i)) w) (h : AtCorners g n d (λ z. R m (f w z))).
    o.trans (box_line pick R o k g v f i j s n d m w y h q in_d on on_y) (o.same (s.value w y on on_y)) in
    o.trans
    (o.line (k i) (k (suc i)) (between y (g j) (v i j) (g (suc j)) (v i (suc j))) (between y (g j) (v (suc i) j) (g (suc j)) (v (suc i) (suc j)))
    m before.y x after.y before.on on_x after.on before.order after.order
    (seen before.y before.on before.holds) (seen after.y after.on after.holds))
    (o.same (eq_sym_f (s.value x y on_x on_y)))
