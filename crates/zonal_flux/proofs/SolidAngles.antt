-- The constants of zones: each step meets its part of the definition, and none widens it much.
use Rattle.std.proofs.Common.{ℕ, ◌+◌, ◌-◌, ◌*◌, ◌/◌, ◌^◌, ◌<◌, ◌≤◌, ◌≡◌, pos, ◌≤ℤ◌, ◌+ℤ◌, nat_lt, true, false, arith, subst, ap}
use Rattle.std.specs.Int.{div_ceil}
use Rattle.std.proofs.lemmas.Int.{ints}
use Rattle.std.proofs.Math.Nat.{mul-le-mul, mul-le-mul_left}
use Rattle.std.proofs.lemmas.Bool.Decides.{nat_tests}
use Rattle.fx_base.specs.Ends.{Ends}
use Rattle.fx_base.specs.Fraction.{◌≤ᶠ◌, ◌*ᶠ◌, whole}
use Rattle.fx_base.specs.Interval.{Interval, Meets}
use Rattle.fx_base.specs.Units.{natural, ticks, of_span}
use Rattle.fx_base.proofs.Order.{le_refl_f, le_trans_f, mul_le_f, sub_mono_f}
use Rattle.fx_base.proofs.Sums.{ticks_back, whole_ticks, ticks_sub_split, ticks_sub_join, ticks_times_low}
use Rattle.fx_base.proofs.SpanSteps.{product_up}
use Rattle.fx_base.proofs.Rounding.{ceil_below, quotients-in_order, natural-mono}
use Rattle.fx_base.proofs.Truth.{le_true, le_false}
use Rattle.series_enclose.specs.Enclosed.{IsSine, IsCosine}
use Rattle.series_enclose.specs.Series.{pi}
use Rattle.series_enclose.proofs.PiLaws.{pi_at_most_four}
use Rattle.series_enclose.proofs.Sizes.{sine_below, cosine_below}
use Rattle.zonal_flux.specs.Zones.{cosine_at, twice, difference, product, below, constant, IsConstant}
use Rattle.zonal_flux.specs.Steps.{IsCosineAt, IsTwoPi}
use Rattle.zonal_flux.proofs.Naturals.{natural_width}

-- ---- cosines

pub near_cosine : (m row : ℕ) (s : Ends) → m ≤ 45 → row * 15625 ≡ m * 1000000 → IsCosine (row * 15625) s → IsCosineAt m s
unfolding cosine_at
near_cosine m row s p e h =
    let q = le_true m 45 p in
    let P : ℕ → Type 0 = λ z. IsCosine z s in
    let g = subst P e h in
    record { meets = λ n. rw q (g.meets n); narrow = g.narrow; low = g.natural; high = cosine_below (m * 1000000) s g }

pub far_cosine : (m row : ℕ) (s : Ends) → 45 < m → row * 15625 ≡ (90 - m) * 1000000 → IsSine (row * 15625) s → IsCosineAt m s
unfolding cosine_at
far_cosine m row s p e h =
    let q = le_false m 45 p in
    let P : ℕ → Type 0 = λ z. IsSine z s in
    let g = subst P e h in
    record { meets = λ n. rw q (g.meets n); narrow = g.narrow; low = g.natural; high = sine_below ((90 - m) * 1000000) s (omega arith) g }

-- ---- twice pi

double_split : (a : ℕ) → ticks (2 * a) ≤ᶠ (whole 2 *ᶠ ticks a)
unfolding ticks whole ◌*ᶠ◌
double_split a = record { cross = omega arith }

double_join : (a : ℕ) → (whole 2 *ᶠ ticks a) ≤ᶠ ticks (2 * a)
unfolding ticks whole ◌*ᶠ◌
double_join a = record { cross = omega arith }

pub pi_below_four : (p : Ends) → ((n : ℕ) → Meets (of_span p) (pi n)) → natural p.lo ≤ 274877906944
pi_below_four p h = ticks_back (natural p.lo) 274877906944 (le_trans_f (h 0).above (le_trans_f (pi_at_most_four 0) (whole_ticks 4)))

pub two_pi_is : (p s : Ends) → ((n : ℕ) → Meets (of_span p) (pi n)) → p.hi ≤ℤ (p.lo +ℤ pos 1) → pos 0 ≤ℤ p.lo → p.lo ≤ℤ p.hi
    → s.lo ≡ pos (2 * natural p.lo) → s.hi ≡ pos (2 * natural p.hi) → IsTwoPi s
unfolding twice
two_pi_is p s meets narrow low order e f =
    let w = natural_width 1 p.lo p.hi low narrow in
    let four = pi_below_four p meets in
    let o = natural-mono p.lo p.hi low order in
    record {
      meets = λ n. rw (e, f) (record {
        above = le_trans_f (double_split (natural p.lo)) (mul_le_f (le_refl_f (whole 2)) (meets n).above);
        below = le_trans_f (mul_le_f (le_refl_f (whole 2)) (meets n).below) (double_join (natural p.hi));
      });
      narrow = rw (e, f) (omega (arith, ints));
      low = rw e (omega (arith, ints));
      in_order = rw (e, f) (omega (arith, ints));
      low_most = rw e (omega arith);
      high_most = rw f (omega arith);
    }

-- ---- differences and products

pub difference_meets : (a b s : Ends) (x y : Interval) → Meets (of_span a) x → Meets (of_span b) y
    → s.lo ≡ pos (natural a.lo - natural b.hi) → s.hi ≡ pos (natural a.hi - natural b.lo) → Meets (of_span s) (difference x y)
unfolding difference
difference_meets a b s x y g h e f = rw (e, f) (record {
  above = le_trans_f (ticks_sub_split (natural a.lo) (natural b.hi)) (sub_mono_f g.above h.below);
  below = le_trans_f (sub_mono_f g.below h.above) (ticks_sub_join (natural a.hi) (natural b.lo));
})

pub product_meets : (a b s : Ends) (x y : Interval) → Meets (of_span a) x → Meets (of_span b) y
    → s.lo ≡ pos (natural a.lo * natural b.lo / 68719476736) → s.hi ≡ pos (div_ceil (natural a.hi * natural b.hi) 68719476736) → Meets (of_span s) (product x y)
unfolding product
product_meets a b s x y g h e f = rw (e, f) (record {
  above = le_trans_f (ticks_times_low (natural a.lo) (natural b.lo)) (mul_le_f g.above h.above);
  below = le_trans_f (mul_le_f g.below h.below) (product_up (natural a.hi) (natural b.hi));
})

-- twice pi from pl to ph times a difference from dl to dh
product_width : (pl ph dl dh : ℕ) → ph ≤ pl + 2 → pl ≤ 549755813890 → dh ≤ dl + 32 → dh ≤ 68719476752
    → div_ceil (ph * dh) 68719476736 ≤ pl * dl / 68719476736 + 1024
product_width pl ph dl dh p q r s =
    let a = mul-le-mul_left dh p in
    let b = mul-le-mul_left pl r in
    let c = ceil_below (ph * dh) 68719476736 (omega arith) in
    omega (arith, a, b, c)

product_most : (ph dh : ℕ) → ph ≤ 549755813890 → dh ≤ 68719476752 → ph * dh ≤ 37778931871890693685280
product_most ph dh p q =
    let a = mul-le-mul_left dh p in
    omega (arith, a)

-- ---- the constant

-- the steps of the code to the constant of a zone from 5 b degrees to 5 b + 5
pub constant_is : (k b : ℕ) (p i o d s : Ends) → b ≡ below k → IsTwoPi p → IsCosineAt (5 * b) i → IsCosineAt (5 * b + 5) o
    → d.lo ≡ pos (natural i.lo - natural o.hi) → d.hi ≡ pos (natural i.hi - natural o.lo) → d.lo ≤ℤ d.hi
    → s.lo ≡ pos (natural p.lo * natural d.lo / 68719476736) → s.hi ≡ pos (div_ceil (natural p.hi * natural d.hi) 68719476736)
    → IsConstant k s
unfolding constant
constant_is k b p i o d s same two inner outer dl dh order sl sh =
    let lower : natural d.lo ≡ natural i.lo - natural o.hi = ap natural dl in
    let upper : natural d.hi ≡ natural i.hi - natural o.lo = ap natural dh in
    let wi = natural_width 16 i.lo i.hi inner.low inner.narrow in
    let wo = natural_width 16 o.lo o.hi outer.low outer.narrow in
    let wp = natural_width 2 p.lo p.hi two.low two.narrow in
    let pl = two.low_most in
    let hi = inner.high in
    let hp = two.high_most in
    let w = product_width (natural p.lo) (natural p.hi) (natural d.lo) (natural d.hi) wp (omega arith) (omega arith) (omega arith) in
    let m = product_most (natural p.hi) (natural d.hi) hp (omega arith) in
    let c = ceil_below (natural p.hi * natural d.hi) 68719476736 (omega arith) in
    let op : natural p.lo ≤ natural p.hi = natural-mono p.lo p.hi two.low two.in_order in
    let od : natural d.lo ≤ natural d.hi = natural-mono d.lo d.hi (rw dl (omega (arith, ints))) order in
    let q = quotients-in_order (natural p.lo * natural d.lo) 68719476736 (natural p.hi * natural d.hi) 68719476736 (mul-le-mul op od) (omega arith) (omega arith) in
    record {
      meets = λ n. rw (← same) (product_meets p d s (twice (pi n)) (difference (cosine_at n (5 * b)) (cosine_at n (5 * b + 5))) (two.meets n)
          (difference_meets i o d (cosine_at n (5 * b)) (cosine_at n (5 * b + 5)) (inner.meets n) (outer.meets n) dl dh) sl sh);
      narrow = rw (sl, sh) (omega (arith, ints, w));
      low = rw sl (omega (arith, ints));
      in_order = rw (sl, sh) (omega (arith, ints, q));
      high = rw sh (omega (arith, c, m));
    }

-- and what is multiplied fits
pub constant_fits : (m : ℕ) (p i d : Ends) (o : ℕ) → IsTwoPi p → IsCosineAt m i → d.hi ≡ pos (natural i.hi - o) → natural p.hi * natural d.hi ≤ 2 ^ 126
constant_fits m p i d o two inner e =
    let f : natural d.hi ≡ natural i.hi - o = ap natural e in
    let g = inner.high in
    let h = product_most (natural p.hi) (natural d.hi) two.high_most (omega arith) in
    omega arith

-- ---- zones below the level plane and above it

lt_true : (m n : ℕ) → m < n → nat_lt m n ≡ true
lt_true m n h = grind (arith, nat_tests)

lt_false : (m n : ℕ) → n ≤ m → nat_lt m n ≡ false
lt_false m n h = grind (arith, nat_tests)

pub below_is : (k b : ℕ) → k < 18 → b ≡ k → b ≡ below k
below_is k b p e = let q = lt_true k 18 p in rw q e

pub above_is : (k b : ℕ) → 18 ≤ k → b ≡ 35 - k → b ≡ below k
above_is k b p e = let q = lt_false k 18 p in rw q e
