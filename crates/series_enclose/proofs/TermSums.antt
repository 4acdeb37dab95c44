-- One turn of the sum of a series in ticks, and what three turns give.
use Rattle.std.proofs.Common.{ℕ, zero, suc, ◌+◌, ◌-◌, ◌*◌, ◌^◌, ◌<◌, ◌≤◌, ◌≡◌, arith, refl, subst, lit<}
use Rattle.std.proofs.Math.Nat.{mul-le-mul, mul-le-mul_left, mul-lt-mul_of_pos_left, le_of_lt, mul-pos, pow-le-pow_left, one-le-pow, zero-lt-suc, le_of_mul-le-mul_left, lt_of_mul-lt-mul_left}
use Rattle.fx_base.specs.Fraction.{Fraction, ◌≤ᶠ◌, ◌*ᶠ◌, whole}
use Rattle.fx_base.specs.Units.{ticks}
use Rattle.fx_base.proofs.Order.{le_trans_f, add_le_f, sub_mono_f}
use Rattle.fx_base.proofs.Sums.{ticks_split, ticks_join, ticks_sub_split, ticks_sub_join}
use Rattle.series_enclose.specs.Series.{upper_sum, lower_sum, power_over, factorial, exponential_term}
use Rattle.series_enclose.specs.Turns.{IsProduct, series_term, IsBetween, IsStart, IsSum}
use Rattle.series_enclose.proofs.Terms.{pow_two_more, factorial_two, at_most_one}

-- ---- in whole numbers, Q ticks in one: a term a / (A F), the square u u / (D D), and the next term (a u u) / (A D D F d)

core_low : (Q t s r a A u D F d : ℕ) → 0 < Q → t * (A * F) ≤ a * Q → s * (D * D) ≤ (u * u) * Q → r * (Q * d) ≤ t * s
    → r * ((A * (D * D)) * (F * d)) ≤ (a * (u * u)) * Q
core_low Q t s r a A u D F d p g h k =
    let both = mul-le-mul {n₁ = t * (A * F)} {m₁ = s * (D * D)} {n₂ = a * Q} {m₂ = (u * u) * Q} g h in
    le_of_mul-le-mul_left {k = Q} (omega (arith, mul-le-mul_left ((A * F) * (D * D)) k, both)) p

core_high : (Q t s r a A u D F d : ℕ) → 0 < Q → a * Q ≤ t * (A * F) → (u * u) * Q ≤ s * (D * D) → t * s ≤ r * (Q * d)
    → (a * (u * u)) * Q ≤ r * ((A * (D * D)) * (F * d))
core_high Q t s r a A u D F d p g h k =
    let both = mul-le-mul {n₁ = a * Q} {m₁ = (u * u) * Q} {n₂ = t * (A * F)} {m₂ = s * (D * D)} g h in
    le_of_mul-le-mul_left {k = Q} (omega (arith, mul-le-mul_left ((A * F) * (D * D)) k, both)) p

-- ---- the next term

factorial_next : (m k d : ℕ) → k ≡ m + 2 → d ≡ (m + 1) * (m + 2) → factorial k ≡ factorial m * d
factorial_next m k d e f =
    let g : k ≡ suc (suc m) = omega arith in
    let h : suc m * suc (suc m) ≡ d = omega arith in
    rw (g, factorial_two, ← h) (omega arith)

pub next_low : (x : Fraction) (m k d t s r : ℕ) → k ≡ m + 2 → d ≡ (m + 1) * (m + 2)
    → ticks t ≤ᶠ exponential_term x m → ticks s ≤ᶠ (x *ᶠ x) → r * (68719476736 * d) ≤ t * s → ticks r ≤ᶠ exponential_term x k
unfolding ticks exponential_term power_over ◌*ᶠ◌
next_low x m k d t s r e f g h i = record {
  cross = rw (pow_two_more x.num m k e, pow_two_more x.den m k e, factorial_next m k d e f)
      (core_low 68719476736 t s r (x.num ^ m) (x.den ^ m) x.num x.den (factorial m) d (zero-lt-suc 68719476735) g.cross h.cross i);
}

pub next_high : (x : Fraction) (m k d t s r : ℕ) → k ≡ m + 2 → d ≡ (m + 1) * (m + 2)
    → exponential_term x m ≤ᶠ ticks t → (x *ᶠ x) ≤ᶠ ticks s → t * s ≤ r * (68719476736 * d) → exponential_term x k ≤ᶠ ticks r
unfolding ticks exponential_term power_over ◌*ᶠ◌
next_high x m k d t s r e f g h i = record {
  cross = rw (pow_two_more x.num m k e, pow_two_more x.den m k e, factorial_next m k d e f)
      (core_high 68719476736 t s r (x.num ^ m) (x.den ^ m) x.num x.den (factorial m) d (zero-lt-suc 68719476735) g.cross h.cross i);
}

pub next_between : (o k j d tl th sl sh rl rh : ℕ) (x : Fraction) → j ≡ k + 1 → d ≡ (2 * k + o + 1) * (2 * k + o + 2)
    → IsProduct d tl th sl sh rl rh → IsBetween sl sh (x *ᶠ x) → IsBetween tl th (series_term o x k) → IsBetween rl rh (series_term o x j)
unfolding series_term
next_between o k j d tl th sl sh rl rh x e f p s t = record {
  low = next_low x (2 * k + o) (2 * j + o) d tl sl rl (omega arith) f t.low s.low p.low;
  high = next_high x (2 * k + o) (2 * j + o) d th sh rh (omega arith) f t.high s.high p.high;
}

-- ---- widths and sizes of a rounded product

order_core : (W rl rh p q : ℕ) → rl * W ≤ p → p ≤ q → q ≤ rh * W → 0 < W → rl ≤ rh
order_core W rl rh p q g h k pos = le_of_mul-le-mul_left {k = W} (omega arith) pos

product_order : (d tl th sl sh rl rh : ℕ) → 0 < d → IsProduct d tl th sl sh rl rh → tl ≤ th → sl ≤ sh → rl ≤ rh
product_order d tl th sl sh rl rh p h g k =
    order_core (68719476736 * d) rl rh (tl * sl) (th * sh) h.low (mul-le-mul {n₁ = tl} {m₁ = sl} {n₂ = th} {m₂ = sh} g k) h.high
    (mul-pos {m = 68719476736} {n = d} (zero-lt-suc 68719476735) p)

-- th sh is at most e W above tl sl
width_core : (W rl rh p q e : ℕ) → p < (rl + 1) * W → rh * W < q + W → q ≤ p + e * W → rh ≤ rl + (e + 1)
width_core W rl rh p q e g h k =
    let l : W * rh < W * (rl + (e + 2)) = omega arith in
    let m : rh < rl + (e + 2) = lt_of_mul-lt-mul_left W l in
    omega arith

pub product_width : (e d tl th sl sh rl rh : ℕ) → IsProduct d tl th sl sh rl rh → th * sh ≤ tl * sl + e * (68719476736 * d) → rh ≤ rl + (e + 1)
product_width e d tl th sl sh rl rh h g = width_core (68719476736 * d) rl rh (tl * sl) (th * sh) e h.low_near h.high_near g

-- a term at most 4 wide and at most 2^35 gives the next one at most 2 wide
turn_excess : (d tl th sl sh : ℕ) → 12 ≤ d → th ≤ tl + 4 → th ≤ 34359738368 → tl ≤ th → sh ≤ sl + 5 → sl ≤ 68719476736
    → th * sh ≤ tl * sl + 1 * (68719476736 * d)
turn_excess d tl th sl sh h a b f c e =
    omega (arith, mul-le-mul {n₁ = th} {m₁ = sh} {n₂ = tl + 4} {m₂ = sl + 5} a c)

turn_below_core : (d th sh rh : ℕ) → 12 ≤ d → th ≤ 34359738368 → sh ≤ 68719476736 → rh * (68719476736 * d) < th * sh + 68719476736 * d → rh ≤ 34359738368
turn_below_core d th sh rh h a b g =
    let m = mul-le-mul {n₁ = th} {m₁ = sh} {n₂ = 34359738368} {m₂ = 68719476736} a b in
    let l : d * rh < d * 34359738369 = omega arith in
    let k : rh < 34359738369 = lt_of_mul-lt-mul_left d l in
    omega arith

-- ---- the sum so far: n turns done, the sum of 2n + 1 terms, and term 2n + 1

pub record IsSumAt (o n tl th ul uh : ℕ) (x : Fraction) : Type 0 where
  pub term : IsBetween tl th (series_term o x (2 * n + 1))
  pub sum : IsBetween ul uh (upper_sum (series_term o x) n)

-- the sum after n turns
pub record IsSumSoFar (o n fl fh cl ch sl sh tl th ul uh : ℕ) : Type 0 where
  pub encloses : (x : Fraction) → IsStart o fl fh cl ch sl sh x → IsSumAt o n tl th ul uh x
  pub order : tl ≤ th
  pub sum_order : ul ≤ uh
  pub narrow : th ≤ tl + 4
  pub below : th ≤ 34359738368
  pub both : uh + th ≤ (ul + tl) + (4 + 4 * n)
  pub sum_below : uh ≤ 68719476736 * (n + 1)

pub sum_start : (o fl fh cl ch sl sh : ℕ) → fl ≤ fh → cl ≤ ch → fh ≤ 68719476736 → ch ≤ 34359738368 → fh + ch ≤ fl + cl + 4
    → IsSumSoFar o 0 fl fh cl ch sl sh cl ch fl fh
unfolding upper_sum
sum_start o fl fh cl ch sl sh a b c d e = record {
  encloses = λ x s. record { term = s.second; sum = s.first };
  order = b;
  sum_order = a;
  narrow = omega arith;
  below = d;
  both = omega arith;
  sum_below = omega arith;
}

divisor_big : (k o : ℕ) → 1 ≤ k → 12 ≤ (2 * k + o + 1) * (2 * k + o + 2)
divisor_big k o h =
    let a : 3 ≤ 2 * k + o + 1 = omega arith in
    let b : 4 ≤ 2 * k + o + 2 = omega arith in
    mul-le-mul {n₁ = 3} {m₁ = 4} {n₂ = 2 * k + o + 1} {m₂ = 2 * k + o + 2} a b

sum_turn_between : (t : ℕ → Fraction) (n tl th nl nh ul uh : ℕ) → IsBetween tl th (t (2 * n + 1)) → IsBetween nl nh (t (2 * n + 2))
    → IsBetween ul uh (upper_sum t n) → IsBetween ((ul - th) + nl) ((uh - tl) + nh) (upper_sum t (suc n))
unfolding upper_sum
sum_turn_between t n tl th nl nh ul uh a b c = record {
  low = le_trans_f (ticks_split (ul - th) nl) (add_le_f (le_trans_f (ticks_sub_split ul th) (sub_mono_f c.low a.high)) b.low);
  high = le_trans_f (add_le_f (le_trans_f (sub_mono_f c.high a.low) (ticks_sub_join uh tl)) b.high) (ticks_join (uh - tl) nh);
}

pub sum_turn : (o n m d e fl fh cl ch sl sh tl th ul uh nl nh rl rh : ℕ) → m ≡ n + 1
    → d ≡ (2 * (2 * n + 1) + o + 1) * (2 * (2 * n + 1) + o + 2) → e ≡ (2 * (2 * n + 2) + o + 1) * (2 * (2 * n + 2) + o + 2)
    → sl ≤ sh → sh ≤ 68719476736 → sh ≤ sl + 5
    → IsSumSoFar o n fl fh cl ch sl sh tl th ul uh → IsProduct d tl th sl sh nl nh → IsProduct e nl nh sl sh rl rh
    → IsSumSoFar o m fl fh cl ch sl sh rl rh ((ul - th) + nl) ((uh - tl) + nh)
sum_turn o n m d e fl fh cl ch sl sh tl th ul uh nl nh rl rh i f g so sb sn h p q =
    let ho = h.order in let hs = h.sum_order in let hn = h.narrow in let hb = h.below in let hh = h.both in let hm = h.sum_below in
    let d_big : 12 ≤ d = rw f (divisor_big (2 * n + 1) o (omega arith)) in
    let e_big : 12 ≤ e = rw g (divisor_big (2 * n + 2) o (omega arith)) in
    let n_order : nl ≤ nh = product_order d tl th sl sh nl nh (omega arith) p ho so in
    let n_narrow : nh ≤ nl + 2 = product_width 1 d tl th sl sh nl nh p (turn_excess d tl th sl sh d_big hn hb ho sn (omega arith)) in
    let n_below : nh ≤ 34359738368 = turn_below_core d th sh nh d_big hb sb p.high_near in
    let r_order : rl ≤ rh = product_order e nl nh sl sh rl rh (omega arith) q n_order so in
    let r_narrow : rh ≤ rl + 2 = product_width 1 e nl nh sl sh rl rh q (turn_excess e nl nh sl sh e_big (omega arith) n_below n_order sn (omega arith)) in
    let r_below : rh ≤ 34359738368 = turn_below_core e nh sh rh e_big n_below sb q.high_near in
    let P : ℕ → Type 0 = λ k. IsSumSoFar o k fl fh cl ch sl sh rl rh ((ul - th) + nl) ((uh - tl) + nh) in
    let m_is : suc n ≡ m = omega arith in
    subst P m_is (record {
      encloses = λ x s. let at = h.encloses x s in
          let next = next_between o (2 * n + 1) (2 * n + 2) d tl th sl sh nl nh x (omega arith) f p s.square at.term in
          record {
            term = next_between o (2 * n + 2) (2 * suc n + 1) e nl nh sl sh rl rh x (omega arith) g q s.square next;
            sum = sum_turn_between (series_term o x) n tl th nl nh ul uh at.term next at.sum;
          };
      order = r_order;
      sum_order = omega arith;
      narrow = omega arith;
      below = r_below;
      both = omega arith;
      sum_below = omega arith;
    })

-- ---- three turns: the last term is below a tick

tiny : (o : ℕ) → o ≤ 1 → 68719476736 < factorial (2 * 7 + o)
unfolding factorial
tiny zero h = lit< tt
tiny (suc zero) h = lit< tt
tiny (suc (suc o)) h = absurd (omega arith)

no_tick : (t a A F : ℕ) → 0 < A → a ≤ A → 68719476736 < F → t * (A * F) ≤ a * 68719476736 → t ≡ 0
no_tick zero a A F p h g k = refl
no_tick (suc t) a A F p h g k =
    let AF : A * 68719476736 < A * F = mul-lt-mul_of_pos_left g p in
    absurd (omega (arith, mul-le-mul_left t (le_of_lt AF)))

last_term : (o t : ℕ) (x : Fraction) → o ≤ 1 → x ≤ᶠ whole 1 → ticks t ≤ᶠ series_term o x 7 → t ≡ 0
unfolding series_term exponential_term power_over ticks
last_term o t x h one le =
    no_tick t (x.num ^ (2 * 7 + o)) (x.den ^ (2 * 7 + o)) (factorial (2 * 7 + o)) (one-le-pow (2 * 7 + o) x.den x.positive)
    (pow-le-pow_left (at_most_one one) (2 * 7 + o)) (tiny o h) le.cross

pub three_turns : (o fl fh cl ch sl sh tl th ul uh : ℕ) (x : Fraction) → IsSumSoFar o 3 fl fh cl ch sl sh tl th ul uh
    → IsStart o fl fh cl ch sl sh x → IsSum o (ul - th) uh x
unfolding lower_sum
three_turns o fl fh cl ch sl sh tl th ul uh x h s = let at = h.encloses x s in record {
  low = le_trans_f (ticks_sub_split ul th) (sub_mono_f at.sum.low at.term.high);
  high = at.sum.high;
}

pub three_turns_narrow : (o fl fh cl ch sl sh tl th ul uh : ℕ) (x : Fraction) → o ≤ 1 → IsSumSoFar o 3 fl fh cl ch sl sh tl th ul uh
    → IsStart o fl fh cl ch sl sh x → uh ≤ (ul - th) + 16
three_turns_narrow o fl fh cl ch sl sh tl th ul uh x h g s =
    let none : tl ≡ 0 = last_term o tl x h s.small (g.encloses x s).term.low in
    let both = g.both in
    omega arith
