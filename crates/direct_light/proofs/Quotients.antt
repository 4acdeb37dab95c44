-- What the calls of a span make of the numbers of a lamp's point is a light made by two quotients.
use Rattle.std.proofs.Common.{ℕ, ◌+◌, ◌*◌, ◌/◌, ◌^◌, ◌<◌, ◌≤◌, ◌≡◌, ap, arith, inl, inr, ℤ, pos}
use Rattle.std.proofs.Math.Nat.{mul-pos, mul-le-mul_left, div-mul-le_self, lt-div-mul-add, lt_of_mul-lt-mul_left}
use Rattle.std.proofs.lemmas.Bool.{cases_lt}
use Rattle.std.proofs.lemmas.Grind.{div_ceil_times}
use Rattle.std.specs.Int.{div_ceil}
use Rattle.fx_base.specs.Ends.{Ends, IsRootBelow}
use Rattle.fx_base.specs.Units.{natural}
use Rattle.fx_base.proofs.SearchLaws.{square_lt}
use Rattle.direct_light.proofs.Falls.{IsMade}

-- k and h are the neighbours of the root of m, and both the root where it is whole
pub record IsRootSpan (m k h : ℕ) : Type 0 where
  pub below : k * k ≤ m
  pub above : m ≤ h * h
  pub order : k ≤ h
  pub near : h ≤ k + 1

whole_span : (m k h : ℕ) → k * k ≡ m → h ≡ k → IsRootSpan m k h
whole_span m k h e f = rw f (record { below = omega (arith, e); above = omega (arith, e); order = omega arith; near = omega arith })

next_span : (m k h : ℕ) → k * k ≤ m → m < (k + 1) * (k + 1) → h ≡ k + 1 → IsRootSpan m k h
next_span m k h e g f = rw f (record { below = e; above = omega (arith, g); order = omega arith; near = omega arith })

span_of_root : (m k h : ℕ) → k * k ≤ m → m < (k + 1) * (k + 1) → (k * k ≡ m → h ≡ k) → (k * k < m → h ≡ k + 1) → IsRootSpan m k h
span_of_root m k h e g exact next = elim (cases_lt (k * k) m) [
  | inl l ↦ next_span m k h e g (next l)
  | inr r ↦ let same : k * k ≡ m = omega (arith, e, r) in whole_span m k h same (exact same)
]

root_below_is : (m : ℕ) (z : ℤ) → IsRootBelow m z → (natural z * natural z ≤ m) × (m < (natural z + 1) * (natural z + 1))
root_below_is m z (k, is, low, high) = rw is (low, high)

pub root_span : (m : ℕ) (e : Ends) → IsRootBelow m e.lo → (natural e.lo * natural e.lo ≡ m → e.hi ≡ e.lo)
    → (natural e.lo * natural e.lo < m → e.hi ≡ pos (natural e.lo + 1)) → IsRootSpan m (natural e.lo) (natural e.hi)
root_span m e low exact next =
    let both = root_below_is m e.lo low in
    span_of_root m (natural e.lo) (natural e.hi) (both.0) (both.1) (λ h. ap natural (exact h)) (λ h. ap natural (next h))

root_is_big : (r k : ℕ) → 0 < r → r * 4 ^ 36 < (k + 1) * (k + 1) → 68719476736 ≤ k
root_is_big r k p h =
    let l : 68719476736 < k + 1 = square_lt 68719476736 (k + 1) (r * 4 ^ 36) (omega (arith, p)) h in omega arith

made : (c e w u r h k x y q t : ℕ) → 0 < u → 0 < r → IsRootSpan (r * 4 ^ 36) k h → r * 4 ^ 36 < (k + 1) * (k + 1)
    → x ≡ c * w / u → y ≡ div_ceil (e * w) u → q ≡ x * 68719476736 / h → t ≡ div_ceil (y * 68719476736) k → IsMade c e w u r h k x y q t
made c e w u r h k x y q t o p root next ex ey eq et =
    let big = root_is_big r k p next in
    let order = root.order in
    let first = div_ceil_times (e * w) u o in
    let then = div_ceil_times (y * 68719476736) k (omega arith) in
    record {
      root_below = root.below;
      root_above = root.above;
      order = root.order;
      near = root.near;
      big = big;
      first_down = rw ex (div-mul-le_self (c * w) u);
      first_down_near = rw ex (omega (arith, lt-div-mul-add {a = c * w} o));
      then_down = rw eq (div-mul-le_self (x * 68719476736) h);
      then_down_near = rw eq (let z : 0 < h = omega arith in omega (arith, lt-div-mul-add {a = x * 68719476736} z));
      first_up = rw ey (first.0);
      first_up_near = rw ey (first.1);
      then_up = rw et (then.0);
      then_up_near = rw et (then.1);
    }

-- the same of the ends of spans
pub light_made : (m s a r : ℕ) (part root spread light : Ends) → 0 < s → 0 < r → IsRootBelow (r * 4 ^ 36) root.lo
    → (natural root.lo * natural root.lo ≡ r * 4 ^ 36 → root.hi ≡ root.lo) → (natural root.lo * natural root.lo < r * 4 ^ 36 → root.hi ≡ pos (natural root.lo + 1))
    → spread.lo ≡ pos (natural part.lo * (m * a * 4000) / (r * s)) → spread.hi ≡ pos (div_ceil (natural part.hi * (m * a * 4000)) (r * s))
    → light.lo ≡ pos (natural spread.lo * 68719476736 / natural root.hi) → light.hi ≡ pos (div_ceil (natural spread.hi * 68719476736) (natural root.lo))
    → IsMade (natural part.lo) (natural part.hi) (m * a * 4000) (r * s) r (natural root.hi) (natural root.lo) (natural spread.lo) (natural spread.hi) (natural light.lo) (natural light.hi)
light_made m s a r part root spread light o p below exact next sl sh ll lh =
    made (natural part.lo) (natural part.hi) (m * a * 4000) (r * s) r (natural root.hi) (natural root.lo) (natural spread.lo) (natural spread.hi) (natural light.lo) (natural light.hi)
    (mul-pos p o) p (root_span (r * 4 ^ 36) root below exact next) ((root_below_is (r * 4 ^ 36) root.lo below).1)
    (ap natural sl) (ap natural sh) (ap natural ll) (ap natural lh)

-- ---- the calls can be made

-- a quotient is at most b times the intensity and one more
spread_most : (e w u b y : ℕ) → 0 < u → w ≤ b * u → y ≡ div_ceil (e * w) u → y ≤ e * b + 1
spread_most e w u b y p l is =
    let f : y * u < e * w + u = rw is ((div_ceil_times (e * w) u p).1) in
    let h : y < e * b + 1 = lt_of_mul-lt-mul_left u (omega (arith, f, mul-le-mul_left e l)) in omega arith

pub light_fits : (m s a r e y : ℕ) → 0 < s → 0 < r → m ≤ 1000 → a ≤ r → e ≤ 687194767360000001 → y ≡ div_ceil (e * (m * a * 4000)) (r * s)
    → y ≤ 2 ^ 90
light_fits m s a r e y o p kept near bright is =
    let w : m * a * 4000 ≤ 4000000 * (r * s) = omega (arith, mul-le-mul_left a kept, mul-le-mul_left r o, near) in
    let g = spread_most e (m * a * 4000) (r * s) 4000000 y (mul-pos p o) w is in omega (arith, g, bright)
