-- Values on the straight line between two neighbouring knots.
use Rattle.std.proofs.Common.{ℕ, ◌+◌, ◌-◌, ◌*◌, ◌<◌, ◌≤◌, ◌≡◌, max, arith, ap}
use Rattle.std.proofs.Math.Nat.{mul-pos, le-max_left, mul-sub}
use Rattle.fx_base.specs.Fraction.{Fraction, ◌≤ᶠ◌, ◌≈ᶠ◌, whole, ◌+ᶠ◌, ◌*ᶠ◌}
use Rattle.fx_base.specs.Units.{millionths}
use Rattle.fx_base.proofs.Order.{le_refl_f, le_trans_f, le_of_eq_f, ge_of_eq_f, eq_of_le_f, add_le_f, mul_le_f, mul_add_right_f, add_pairs_f, add_mul_f, mul_one_f}
use Rattle.photo_table.specs.Axis.{behind, ahead, between}
use Rattle.photo_table.proofs.Line.{line_at_most, line_at_least, whole_way, more_behind, more_of_the_way, cross_at_most, cross_at_most_back, cross_at_least, cross_at_least_back}

-- x lies from knot a to knot b
pub record IsOn (a b : ℕ) (x : Fraction) : Type 0 where
  pub rise : a < b
  pub low : millionths a ≤ᶠ x
  pub high : x ≤ᶠ millionths b

num_ahead : ℕ → Fraction → ℕ
num_ahead b x = b * x.den - x.num * 1000000

num_behind : ℕ → Fraction → ℕ
num_behind a x = x.num * 1000000 - a * x.den

way : ℕ → ℕ → Fraction → ℕ
way a b x = max 1 (b - a) * x.den

way_some : (a b : ℕ) (x : Fraction) → 0 < way a b x
unfolding way
way_some a b x = mul-pos (le-max_left 1 (b - a)) x.positive

way_is : (a b : ℕ) (x : Fraction) → IsOn a b x → num_ahead b x + num_behind a x ≡ way a b x
unfolding way num_ahead num_behind millionths
way_is a b x on = whole_way a b (x.num * 1000000) x.den on.rise (omega (arith, on.low.cross)) (omega (arith, on.high.cross))

steeper : (a b : ℕ) (x y : Fraction) → IsOn a b x → IsOn a b y → x ≤ᶠ y → num_behind a x * num_ahead b y ≤ num_behind a y * num_ahead b x
unfolding way num_behind
steeper a b x y on_x on_y h =
    more_of_the_way (num_ahead b x) (num_behind a x) (num_ahead b y) (num_behind a y) x.den y.den (max 1 (b - a))
    (way_is a b x on_x) (way_is a b y on_y)
    (more_behind a (x.num * 1000000) x.den (y.num * 1000000) y.den (omega (arith, h.cross)))

-- ---- the value against a bound

at_most_if : (a b : ℕ) (u v m x : Fraction) → IsOn a b x
    → (u.num * (v.den * m.den)) * num_ahead b x + (v.num * (u.den * m.den)) * num_behind a x ≤ (m.num * (u.den * v.den)) * (num_ahead b x + num_behind a x)
    → between x a u b v ≤ᶠ m
unfolding between ahead behind num_ahead num_behind way ◌+ᶠ◌ ◌*ᶠ◌
at_most_if a b u v m x on h =
    let g = rw (way_is a b x on) at h in
    record { cross = cross_at_most u.num u.den v.num v.den m.num m.den (num_ahead b x) (num_behind a x) (way a b x) g }

at_most_back : (a b : ℕ) (u v m x : Fraction) → IsOn a b x → between x a u b v ≤ᶠ m
    → (u.num * (v.den * m.den)) * num_ahead b x + (v.num * (u.den * m.den)) * num_behind a x ≤ (m.num * (u.den * v.den)) * (num_ahead b x + num_behind a x)
unfolding between ahead behind num_ahead num_behind way ◌+ᶠ◌ ◌*ᶠ◌
at_most_back a b u v m x on h =
    rw (way_is a b x on) (cross_at_most_back u.num u.den v.num v.den m.num m.den (num_ahead b x) (num_behind a x) (way a b x) (way_some a b x) h.cross)

at_least_if : (a b : ℕ) (u v m x : Fraction) → IsOn a b x
    → (m.num * (u.den * v.den)) * (num_ahead b x + num_behind a x) ≤ (u.num * (v.den * m.den)) * num_ahead b x + (v.num * (u.den * m.den)) * num_behind a x
    → m ≤ᶠ between x a u b v
unfolding between ahead behind num_ahead num_behind way ◌+ᶠ◌ ◌*ᶠ◌
at_least_if a b u v m x on h =
    let g = rw (way_is a b x on) at h in
    record { cross = cross_at_least u.num u.den v.num v.den m.num m.den (num_ahead b x) (num_behind a x) (way a b x) g }

at_least_back : (a b : ℕ) (u v m x : Fraction) → IsOn a b x → m ≤ᶠ between x a u b v
    → (m.num * (u.den * v.den)) * (num_ahead b x + num_behind a x) ≤ (u.num * (v.den * m.den)) * num_ahead b x + (v.num * (u.den * m.den)) * num_behind a x
unfolding between ahead behind num_ahead num_behind way ◌+ᶠ◌ ◌*ᶠ◌
at_least_back a b u v m x on h =
    rw (way_is a b x on) (cross_at_least_back u.num u.den v.num v.den m.num m.den (num_ahead b x) (num_behind a x) (way a b x) (way_some a b x) h.cross)

way_pos : (a b : ℕ) (x : Fraction) → IsOn a b x → 0 < num_ahead b x + num_behind a x
way_pos a b x on = rw (way_is a b x on) (way_some a b x)

-- a bound at two places y and z is one at x between them
pub between_at_most : (a b : ℕ) (u v m y x z : Fraction) → IsOn a b y → IsOn a b x → IsOn a b z → y ≤ᶠ x → x ≤ᶠ z
    → between y a u b v ≤ᶠ m → between z a u b v ≤ᶠ m → between x a u b v ≤ᶠ m
between_at_most a b u v m y x z on_y on_x on_z g h p q =
    at_most_if a b u v m x on_x
    (line_at_most (u.num * (v.den * m.den)) (v.num * (u.den * m.den)) (m.num * (u.den * v.den))
    (num_ahead b x) (num_behind a x) (num_ahead b y) (num_behind a y) (num_ahead b z) (num_behind a z)
    (way_pos a b y on_y) (way_pos a b z on_z) (at_most_back a b u v m y on_y p) (at_most_back a b u v m z on_z q)
    (steeper a b y x on_y on_x g) (steeper a b x z on_x on_z h))

pub between_at_least : (a b : ℕ) (u v m y x z : Fraction) → IsOn a b y → IsOn a b x → IsOn a b z → y ≤ᶠ x → x ≤ᶠ z
    → m ≤ᶠ between y a u b v → m ≤ᶠ between z a u b v → m ≤ᶠ between x a u b v
between_at_least a b u v m y x z on_y on_x on_z g h p q =
    at_least_if a b u v m x on_x
    (line_at_least (u.num * (v.den * m.den)) (v.num * (u.den * m.den)) (m.num * (u.den * v.den))
    (num_ahead b x) (num_behind a x) (num_ahead b y) (num_behind a y) (num_ahead b z) (num_behind a z)
    (way_pos a b y on_y) (way_pos a b z on_z) (at_least_back a b u v m y on_y p) (at_least_back a b u v m z on_z q)
    (steeper a b y x on_y on_x g) (steeper a b x z on_x on_z h))

-- ---- at the knots

cross_left : (u c v d A B D : ℕ) → B ≡ 0 → A ≡ D → ((u * A) * (d * D) + (v * B) * (c * D)) * c ≡ u * ((c * D) * (d * D))
cross_left u c v d A B D e f = rw (e, f) (omega arith)

cross_right : (u c v d A B D : ℕ) → A ≡ 0 → B ≡ D → ((u * A) * (d * D) + (v * B) * (c * D)) * d ≡ v * ((c * D) * (d * D))
cross_right u c v d A B D e f = rw (e, f) (omega arith)

pub at_left : (a b : ℕ) (x u v : Fraction) → IsOn a b x → x ≤ᶠ millionths a → between x a u b v ≈ᶠ u
unfolding between ahead behind num_ahead num_behind way ◌+ᶠ◌ ◌*ᶠ◌ millionths
at_left a b x u v on h =
    let w = way_is a b x on in
    let g = h.cross in
    let e : num_behind a x ≡ 0 = omega arith in
    let f : num_ahead b x ≡ way a b x = omega arith in
    record { cross = cross_left u.num u.den v.num v.den (num_ahead b x) (num_behind a x) (way a b x) e f }

pub at_right : (a b : ℕ) (x u v : Fraction) → IsOn a b x → millionths b ≤ᶠ x → between x a u b v ≈ᶠ v
unfolding between ahead behind num_ahead num_behind way ◌+ᶠ◌ ◌*ᶠ◌ millionths
at_right a b x u v on h =
    let w = way_is a b x on in
    let g = h.cross in
    let e : num_ahead b x ≡ 0 = omega arith in
    let f : num_behind a x ≡ way a b x = omega arith in
    record { cross = cross_right u.num u.den v.num v.den (num_ahead b x) (num_behind a x) (way a b x) e f }

pub millionths_le : (m n : ℕ) → m ≤ n → millionths m ≤ᶠ millionths n
unfolding millionths
millionths_le m n h = record { cross = omega arith }

pub millionths_back : (m n : ℕ) → millionths m ≤ᶠ millionths n → m ≤ n
unfolding millionths
millionths_back m n h = let g = h.cross in omega arith

-- ---- a line moved along with its place

cross_moved_ahead : (b X x Y y move : ℕ) → Y * x ≡ (X + move * x) * y → ((b + move) * y - Y) * x ≡ (b * x - X) * y
cross_moved_ahead b X x Y y move h = omega (arith, mul-sub x ((b + move) * y) Y, mul-sub y (b * x) X)

cross_moved_behind : (a X x Y y move : ℕ) → Y * x ≡ (X + move * x) * y → (Y - (a + move) * y) * x ≡ (X - a * x) * y
cross_moved_behind a X x Y y move h = omega (arith, mul-sub x Y ((a + move) * y), mul-sub y X (a * x))

scaled : (P Q x y w : ℕ) → P * x ≡ Q * y → P * (w * x) ≡ Q * (w * y)
scaled P Q x y w h = let e = ap (λ (z : ℕ). w * z) h in omega (arith, e)

same_way : (a b move : ℕ) → (b + move) - (a + move) ≡ b - a
same_way a b move = omega arith

pub ahead_moved : (a b turns : ℕ) (x y : Fraction) → y ≈ᶠ (x +ᶠ whole (360 * turns))
    → ahead (a + 360000000 * turns) (b + 360000000 * turns) y ≈ᶠ ahead a b x
unfolding ahead ◌+ᶠ◌ whole
ahead_moved a b turns x y h =
    let e : (y.num * 1000000) * x.den ≡ (x.num * 1000000 + 360000000 * turns * x.den) * y.den = omega (arith, h.cross) in
    record {
      cross = rw (same_way a b (360000000 * turns))
          (scaled ((b + 360000000 * turns) * y.den - y.num * 1000000) (b * x.den - x.num * 1000000) x.den y.den (max 1 (b - a))
          (cross_moved_ahead b (x.num * 1000000) x.den (y.num * 1000000) y.den (360000000 * turns) e));
    }

pub behind_moved : (a b turns : ℕ) (x y : Fraction) → y ≈ᶠ (x +ᶠ whole (360 * turns))
    → behind (a + 360000000 * turns) (b + 360000000 * turns) y ≈ᶠ behind a b x
unfolding behind ◌+ᶠ◌ whole
behind_moved a b turns x y h =
    let e : (y.num * 1000000) * x.den ≡ (x.num * 1000000 + 360000000 * turns * x.den) * y.den = omega (arith, h.cross) in
    record {
      cross = rw (same_way a b (360000000 * turns))
          (scaled (y.num * 1000000 - (a + 360000000 * turns) * y.den) (x.num * 1000000 - a * x.den) x.den y.den (max 1 (b - a))
          (cross_moved_behind a (x.num * 1000000) x.den (y.num * 1000000) y.den (360000000 * turns) e));
    }

pub between_moved : (a b turns : ℕ) (x y u v : Fraction) → y ≈ᶠ (x +ᶠ whole (360 * turns))
    → between y (a + 360000000 * turns) u (b + 360000000 * turns) v ≈ᶠ between x a u b v
unfolding between
between_moved a b turns x y u v h =
    let l = ahead_moved a b turns x y h in
    let r = behind_moved a b turns x y h in
    eq_of_le_f
    (add_le_f (mul_le_f (le_refl_f u) (le_of_eq_f l)) (mul_le_f (le_refl_f v) (le_of_eq_f r)))
    (add_le_f (mul_le_f (le_refl_f u) (ge_of_eq_f l)) (mul_le_f (le_refl_f v) (ge_of_eq_f r)))

-- ---- order

-- the line rises with the values at its knots
pub between_le : (a b : ℕ) (x u v u' v' : Fraction) → u ≤ᶠ u' → v ≤ᶠ v' → between x a u b v ≤ᶠ between x a u' b v'
unfolding between
between_le a b x u v u' v' g h = add_le_f (mul_le_f g (le_refl_f (ahead a b x))) (mul_le_f h (le_refl_f (behind a b x)))

pub between_eq : (a b : ℕ) (x u v u' v' : Fraction) → u ≈ᶠ u' → v ≈ᶠ v' → between x a u b v ≈ᶠ between x a u' b v'
between_eq a b x u v u' v' g h =
    eq_of_le_f (between_le a b x u v u' v' (le_of_eq_f g) (le_of_eq_f h)) (between_le a b x u' v' u v (ge_of_eq_f g) (ge_of_eq_f h))

-- two lines of lines: the order of the axes doesn't matter
pub swap_sums : (p q r s l l' k k' : Fraction) →
    ((((p *ᶠ k) +ᶠ (q *ᶠ k')) *ᶠ l) +ᶠ (((r *ᶠ k) +ᶠ (s *ᶠ k')) *ᶠ l')) ≈ᶠ ((((p *ᶠ l) +ᶠ (r *ᶠ l')) *ᶠ k) +ᶠ (((q *ᶠ l) +ᶠ (s *ᶠ l')) *ᶠ k'))
unfolding ◌+ᶠ◌ ◌*ᶠ◌
swap_sums p q r s l l' k k' = record { cross = omega arith }

pub swap_axes : (a b c d : ℕ) (x y p q r s : Fraction) →
    between x a (between y c p d q) b (between y c r d s) ≈ᶠ between y c (between x a p b r) d (between x a q b s)
unfolding between
swap_axes a b c d x y p q r s = swap_sums p q r s (ahead a b x) (behind a b x) (ahead c d y) (behind c d y)

-- ---- values a little off

ahead_and_behind : (a b : ℕ) (x : Fraction) → IsOn a b x → (ahead a b x +ᶠ behind a b x) ≤ᶠ whole 1
unfolding ahead behind num_ahead num_behind way ◌+ᶠ◌ whole
ahead_and_behind a b x on = record { cross = sum_of_way (num_ahead b x) (num_behind a x) (way a b x) (way_is a b x on) }
  where
    sum_of_way : (A B D : ℕ) → A + B ≡ D → (A * D + B * D) * 1 ≤ 1 * (D * D)
    sum_of_way A B D e = let f = ap (λ (z : ℕ). z * D) e in omega (arith, f)

-- values at most e above others give a value at most e above
pub between_near : (a b : ℕ) (x u v u' v' e : Fraction) → IsOn a b x → u ≤ᶠ (u' +ᶠ e) → v ≤ᶠ (v' +ᶠ e)
    → between x a u b v ≤ᶠ (between x a u' b v' +ᶠ e)
unfolding between
between_near a b x u v u' v' e on g h =
    let l = ahead a b x in
    let r = behind a b x in
    le_trans_f (between_le a b x u v (u' +ᶠ e) (v' +ᶠ e) g h)
    (le_trans_f (add_le_f (mul_add_right_f u' e l) (mul_add_right_f v' e r))
    (le_trans_f (add_pairs_f (u' *ᶠ l) (e *ᶠ l) (v' *ᶠ r) (e *ᶠ r))
    (add_le_f (le_refl_f ((u' *ᶠ l) +ᶠ (v' *ᶠ r)))
    (le_trans_f (add_mul_f e l r) (le_trans_f (mul_le_f (le_refl_f e) (ahead_and_behind a b x on)) (mul_one_f e))))))
