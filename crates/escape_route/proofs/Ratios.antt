-- A ratio of ticks in thousandths, against the ratio of the intervals that they meet or lie in.
use Rattle.std.proofs.Common.{ℕ, zero, suc, ◌+◌, ◌-◌, ◌*◌, ◌/◌, ◌<◌, ◌≤◌, ◌≡◌, arith, lit<}
use Rattle.std.specs.Int.{div_ceil}
use Rattle.std.proofs.Math.Nat.{mul-div-le}
use Rattle.std.proofs.lemmas.Grind.{div_ceil_times}
use Rattle.fx_base.specs.Ends.{Ends}
use Rattle.fx_base.specs.Fraction.{◌≤ᶠ◌, ◌+ᶠ◌, ◌*ᶠ◌, ◌/ᶠ◌, ratio}
use Rattle.fx_base.specs.Units.{natural, ticks}
use Rattle.fx_base.proofs.Order.{le_trans_f, le_refl_f, add_le_f}
use Rattle.fx_base.proofs.Ratios.{ratio_num, ratio_den, ratio_le_ratio, over_le, le_over, over_below}
use Rattle.fx_base.proofs.Rounding.{natural-mono, quotients-in_order}
use Rattle.fx_base.proofs.Sums.{ticks_positive}
use Rattle.escape_route.specs.Ratios.{IsLight, IsRatio, RatioHolds}

-- ---- a quotient of ticks

by_ticks : (m c b : ℕ) → 0 < b → m * b ≤ c * 1000 → ratio m 1000 ≤ᶠ (ticks c /ᶠ ticks b)
unfolding ticks ◌*ᶠ◌
by_ticks m c b some h = le_over (ticks c) (ticks b) (ratio m 1000) some (record {
  cross = rw (ratio_num m 1000 (lit< tt), ratio_den m 1000 (lit< tt)) (omega (arith, h));
})

ticks_by : (m d a : ℕ) → 0 < a → d * 1000 ≤ m * a → (ticks d /ᶠ ticks a) ≤ᶠ ratio m 1000
unfolding ticks ◌*ᶠ◌
ticks_by m d a some h = over_below (ticks d) (ticks a) (ratio m 1000) some (record {
  cross = rw (ratio_num m 1000 (lit< tt), ratio_den m 1000 (lit< tt)) (omega (arith, h));
})

one_thousandth : (m : ℕ) → ratio (m + 1) 1000 ≤ᶠ (ratio m 1000 +ᶠ ratio 1 1000)
unfolding ◌+ᶠ◌
one_thousandth m = record {
  cross = rw (ratio_num (m + 1) 1000 (lit< tt), ratio_den (m + 1) 1000 (lit< tt), ratio_num m 1000 (lit< tt), ratio_den m 1000 (lit< tt), ratio_num 1 1000 (lit< tt), ratio_den 1 1000 (lit< tt)) (omega arith);
}

-- ---- rounded down and up

down_fits : (n d : ℕ) → n / d * d ≤ n
down_fits n d = let h = mul-div-le n d in omega (arith, h)

down_next : (n d : ℕ) → 0 < d → n ≤ (n / d + 1) * d
down_next n d some = grind arith

-- the least number of thousandths that isn't below, and one less
up_before : (n d m : ℕ) → 0 < d → m ≡ div_ceil n d → (m - 1) * d ≤ n
up_before n d zero some e = omega arith
up_before n d (suc m) some e = let c = (div_ceil_times n d some).1 in let h = rw (← e) at c in let g : m * d ≤ n = omega (arith, h) in let one : suc m - 1 ≡ m = omega arith in rw one g

next : (m : ℕ) → m ≤ (m - 1) + 1
next m = omega arith

-- ---- the ratio

pub ratio_holds : (least greatest : Ends) (lo hi : ℕ) → IsLight least → IsLight greatest → IsRatio least greatest lo hi → RatioHolds least greatest lo hi
ratio_holds least greatest lo hi ll gg is =
    let a = natural least.lo in
    let b = natural least.hi in
    let c = natural greatest.lo in
    let d = natural greatest.hi in
    let some : 0 < a = is.positive in
    let ab : a ≤ b = natural-mono least.lo least.hi ll.low ll.in_order in
    let cd : c ≤ d = natural-mono greatest.lo greatest.hi gg.low gg.in_order in
    let more : 0 < b = omega (arith, some, ab) in
    let low : lo * b ≤ c * 1000 = rw is.lower (down_fits (c * 1000) b) in
    let low_next : c * 1000 ≤ (lo + 1) * b = rw is.lower (down_next (c * 1000) b more) in
    let high : d * 1000 ≤ hi * a = rw is.upper ((div_ceil_times (d * 1000) a some).0) in
    let high_before : (hi - 1) * a ≤ d * 1000 = up_before (d * 1000) a hi some is.upper in
    record {
      in_order = rw (is.lower, is.upper) (quotients-in_order (c * 1000) b (d * 1000) a (omega (arith, cd)) some ab);
      meets = λ l g ml mg. record {
        above = λ p. le_trans_f (by_ticks lo c b more low) (over_le {a = ticks c} {b = ticks b} {c = g.hi} {d = l.lo} p mg.above ml.below);
        below = λ p. le_trans_f (over_le {a = g.lo} {b = l.hi} {c = ticks d} {d = ticks a} (ticks_positive a some) mg.below ml.above) (ticks_by hi d a some high);
      };
      near = λ l g nl ng. record {
        lower = λ p. le_trans_f (over_le {a = g.lo} {b = l.hi} {c = ticks c} {d = ticks b} (ticks_positive b more) ng.lower nl.upper) (le_trans_f (ticks_by (lo + 1) c b more low_next) (one_thousandth lo));
        upper = λ p. le_trans_f (le_trans_f (ratio_le_ratio hi 1000 ((hi - 1) + 1) 1000 (lit< tt) (lit< tt) (let n = next hi in omega (arith, n))) (one_thousandth (hi - 1)))
            (add_le_f (le_trans_f (by_ticks (hi - 1) d a some high_before) (over_le {a = ticks d} {b = ticks a} {c = g.hi} {d = l.lo} p ng.upper nl.lower)) (le_refl_f (ratio 1 1000)));
      };
    }
