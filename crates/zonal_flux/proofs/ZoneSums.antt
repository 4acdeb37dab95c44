-- The flux into a zone, and sums over zones.
use Rattle.std.proofs.Common.{ℕ, suc, ◌+◌, ◌-◌, ◌*◌, ◌/◌, ◌^◌, ◌≤◌, ◌≡◌, pos, ◌+ℤ◌, arith, ap, subst, ◌∙◌}
use Rattle.std.specs.Int.{div_ceil}
use Rattle.std.proofs.lemmas.Int.{ints}
use Rattle.std.proofs.Math.Nat.{mul-le-mul, mul-le-mul_left, mul-le-mul_right}
use Rattle.fx_base.specs.Ends.{Ends, IsWithin}
use Rattle.fx_base.specs.Fraction.{Fraction, ◌≤ᶠ◌, ◌+ᶠ◌, ◌*ᶠ◌, ratio, whole, sum_to}
use Rattle.fx_base.specs.Interval.{Interval}
use Rattle.fx_base.specs.Units.{natural, ticks}
use Rattle.fx_base.proofs.Order.{le_refl_f, le_trans_f, add_le_f, add_pairs_f, mul_le_f, sub_le_f, zero_le_f}
use Rattle.fx_base.proofs.Rounding.{ceil_below, quotients-in_order, natural-mono}
use Rattle.fx_base.proofs.SpanSteps.{product_up}
use Rattle.fx_base.proofs.Sums.{no_ticks, ticks_le, ticks_split, ticks_join, ticks_sub_split, ticks_times_low}
use Rattle.photo_table.specs.Table.{Table, IsTable}
use Rattle.zonal_flux.specs.Zones.{product, IsConstant}
use Rattle.zonal_flux.specs.Fluxes.{into_zone, into_zones, down, up, total, allowance, IsFlux}
use Rattle.zonal_flux.specs.Steps.{slack, IsMean, IsLoose, IsSoFar}
use Rattle.zonal_flux.proofs.Naturals.{natural_plus, natural_width, plus_not_negative, high_not_negative, plus_in_order, pos_le, is_within}
use Rattle.zonal_flux.proofs.Within.{mean_meets}

-- ---- one zone

-- a product of two numbers of ticks, each moved by a little: below it lies that of the unmoved ones
low_slack : (a b c m z : ℕ) → z ≡ a * b / 68719476736 → c ≤ b + 1024 → b ≤ 1099511627776 → a ≤ m + 1 → (a + 2) * c ≤ (z + slack m) * 68719476736
low_slack a b c m z e h p q =
    let x = mul-le-mul_left (a + 2) h in
    omega (arith, x)

high_slack : (a b c d m z : ℕ) → z ≡ div_ceil (a * c) 68719476736 → a ≤ d + 2 → c ≤ b + 1024 → b ≤ 1099511627776 → d ≤ m + 1 → z * 68719476736 ≤ d * b + slack m * 68719476736
high_slack a b c d m z e g h p q =
    let x = mul-le-mul g h in
    let y = ceil_below (a * c) 68719476736 (omega arith) in
    omega (arith, x, y)

-- so many ticks times so many ticks against ticks
product_at_most : (a c z : ℕ) → a * c ≤ z * 68719476736 → (ticks a *ᶠ ticks c) ≤ᶠ ticks z
unfolding ticks ◌*ᶠ◌
product_at_most a c z h = record { cross = omega (arith, h) }

at_most_product : (a c z s : ℕ) → z * 68719476736 ≤ a * c + s * 68719476736 → ticks z ≤ᶠ ((ticks a *ᶠ ticks c) +ᶠ ticks s)
unfolding ticks ◌*ᶠ◌ ◌+ᶠ◌
at_most_product a c z s h = record { cross = omega (arith, h) }

pub zone_is : (p : Table) → IsTable p → (k : ℕ) (m c z : Ends) → IsMean p k m → IsConstant k c
    → z.lo ≡ pos (natural m.lo * natural c.lo / 68719476736) → z.hi ≡ pos (div_ceil (natural m.hi * natural c.hi) 68719476736)
    → IsLoose p (λ n t. into_zone n t k) 1 z
unfolding into_zone product
zone_is p h k m c z mean_of constant_of e f =
    let a = natural m.lo in
    let b = natural c.lo in
    let u = natural m.hi in
    let v = natural c.hi in
    let lo : natural z.lo ≡ a * b / 68719476736 = ap natural e in
    let hi : natural z.hi ≡ div_ceil (u * v) 68719476736 = ap natural f in
    let wide = natural_width 1024 c.lo c.hi constant_of.low constant_of.narrow in
    let m_order = natural-mono m.lo m.hi mean_of.not_negative mean_of.in_order in
    let c_order = natural-mono c.lo c.hi constant_of.low constant_of.in_order in
    let c_high = constant_of.high in
    let m_high = mean_of.bright in
    record {
      meets = λ t s n. let g = mean_meets t p h s k in rw (lo, hi) (record {
        above = le_trans_f (ticks_times_low a b) (mul_le_f (le_trans_f mean_of.low g.above) (constant_of.meets n).above);
        below = le_trans_f (mul_le_f (le_trans_f g.below mean_of.high) (constant_of.meets n).below) (product_up u v);
      });
      low_near = λ n g q. let r = mean_of.below_the_greatest g q in
          le_trans_f (mul_le_f mean_of.low_near (constant_of.meets n).below)
          (product_at_most (a + 2) v (natural z.lo + 1 * slack g) (let y = low_slack a b v g (natural z.lo) lo wide (omega arith) (omega arith) in omega (arith, y)));
      high_near = λ n g q. let r = mean_of.below_the_greatest g q in
          le_trans_f (at_most_product (u - 2) b (natural z.hi) (1 * slack g)
          (let y = high_slack u b v (u - 2) g (natural z.hi) hi (omega arith) wide (omega arith) (omega arith) in omega (arith, y)))
          (add_le_f (mul_le_f (le_trans_f (ticks_sub_split u 2) (sub_le_f (ticks u) (ticks 2) mean_of.high_near)) (constant_of.meets n).above) (le_refl_f _));
      not_negative = rw e (omega (arith, ints));
      in_order = rw (e, f) (pos_le _ _ (quotients-in_order (a * b) 68719476736 (u * v) 68719476736 (mul-le-mul m_order c_order) (omega arith) (omega arith)));
      high = rw hi (zone_most u v m_high c_high);
    }
  where
    zone_most : (u v : ℕ) → u ≤ 687194767360000001 → v ≤ 1099511627776 → div_ceil (u * v) 68719476736 ≤ 1 * 18446744073709551616
    zone_most u v h g = let x = mul-le-mul h g in let y = ceil_below (u * v) 68719476736 (omega arith) in omega (arith, x, y)

pub zone_fits : (p : Table) (k : ℕ) (m c : Ends) → IsMean p k m → IsConstant k c → natural m.hi * natural c.hi ≤ 2 ^ 126
zone_fits p k m c h g = let x = mul-le-mul h.bright g.high in omega (arith, x)

-- ---- sums

pub loose_sum : (p : Table) (a b : ℕ → Table → Interval) (i j : ℕ) (s t r : Ends) → IsLoose p a i s → IsLoose p b j t → r.lo ≡ s.lo +ℤ t.lo → r.hi ≡ s.hi +ℤ t.hi
    → IsLoose p (λ n q. record { lo = (a n q).lo +ᶠ (b n q).lo; hi = (a n q).hi +ᶠ (b n q).hi }) (i + j) r
loose_sum p a b i j s t r g h e f =
    let sl = natural s.lo in
    let sh = natural s.hi in
    let tl = natural t.lo in
    let th = natural t.hi in
    let lo : natural r.lo ≡ sl + tl = ap natural e ∙ natural_plus s.lo t.lo g.not_negative h.not_negative in
    let hi : natural r.hi ≡ sh + th = ap natural f
    ∙ natural_plus s.hi t.hi (high_not_negative s.lo s.hi g.not_negative g.in_order) (high_not_negative t.lo t.hi h.not_negative h.in_order) in
    let g_high = g.high in
    let h_high = h.high in
    record {
      meets = λ q w n. let x = g.meets q w n in let y = h.meets q w n in rw (lo, hi) (record {
        above = le_trans_f (ticks_split sl tl) (add_le_f x.above y.above);
        below = le_trans_f (add_le_f x.below y.below) (ticks_join sh th);
      });
      low_near = λ n m q. rw lo (le_trans_f (add_le_f (g.low_near n m q) (h.low_near n m q))
          (le_trans_f (ticks_join (sl + i * slack m) (tl + j * slack m)) (ticks_le (sl + i * slack m + (tl + j * slack m)) (sl + tl + (i + j) * slack m) (omega arith))));
      high_near = λ n m q. rw hi (le_trans_f (ticks_split sh th) (le_trans_f (add_le_f (g.high_near n m q) (h.high_near n m q))
          (le_trans_f (add_pairs_f (a n p).hi (ticks (i * slack m)) (b n p).hi (ticks (j * slack m)))
          (add_le_f (le_refl_f _) (le_trans_f (ticks_join (i * slack m) (j * slack m)) (ticks_le (i * slack m + j * slack m) ((i + j) * slack m) (omega arith)))))));
      not_negative = rw e (plus_not_negative s.lo t.lo g.not_negative h.not_negative);
      in_order = rw (e, f) (plus_in_order s.lo s.hi t.lo t.hi g.in_order h.in_order);
      high = rw hi (omega arith);
    }

no_light : (p : Table) (s : Ends) → s.lo ≡ pos 0 → s.hi ≡ pos 0 → IsLoose p (λ n t. record { lo = whole 0; hi = whole 0 }) 0 s
no_light p s e f = rw (e, f) (record {
  meets = λ t w n. record { above = none_or_more (whole 0); below = zero_le_f (ticks 0) };
  low_near = λ n m q. zero_le_f _;
  high_near = λ n m q. none_or_more _;
  not_negative = omega (arith, ints);
  in_order = omega (arith, ints);
  high = omega arith;
})
  where
    none_or_more : (x : Fraction) → ticks 0 ≤ᶠ x
    none_or_more x = le_trans_f no_ticks.0 (zero_le_f x)

pub no_zones : (p : Table) (first : ℕ) (s : Ends) → s.lo ≡ pos 0 → s.hi ≡ pos 0 → IsSoFar p first 0 s
unfolding into_zones sum_to
no_zones p first s e f = no_light p s e f

pub more_zones : (p : Table) (first i k : ℕ) (s t r : Ends) → k ≡ first + i → IsSoFar p first i s → IsLoose p (λ n q. into_zone n q k) 1 t
    → r.lo ≡ s.lo +ℤ t.lo → r.hi ≡ s.hi +ℤ t.hi → IsSoFar p first (i + 1) r
unfolding into_zones sum_to
more_zones p first i k s t r at g h e f =
    let K : ℕ → Type 0 = λ z. IsLoose p (λ n q. into_zone n q z) 1 t in
    let sum = loose_sum p (λ n q. into_zones n q first i) (λ n q. into_zone n q (first + i)) i 1 s t r g (subst K at h) e f in
    let one : suc i ≡ i + 1 = omega arith in
    let N : ℕ → Type 0 = λ z. IsLoose p (λ n q. into_zones n q first z) (i + 1) r in
    subst N one sum

pub zones_fit_low : (p : Table) (flux : ℕ → Table → Interval) (i : ℕ) (s : Ends) → IsLoose p flux i s → i ≤ 36 → IsWithin (2 ^ 125) s.lo
zones_fit_low p flux i s h q =
    is_within (2 ^ 125) s.lo h.not_negative
    (let g = h.high in let o = natural-mono s.lo s.hi h.not_negative h.in_order in omega (arith, g, o))

pub zones_fit_high : (p : Table) (flux : ℕ → Table → Interval) (i : ℕ) (s : Ends) → IsLoose p flux i s → i ≤ 36 → IsWithin (2 ^ 125) s.hi
zones_fit_high p flux i s h q =
    is_within (2 ^ 125) s.hi (high_not_negative s.lo s.hi h.not_negative h.in_order) (let g = h.high in omega (arith, g))

-- ---- the fluxes

-- what 36 zones are moved outward by is within the allowance
within_allowance : (i m : ℕ) → i ≤ 36 → ticks (i * slack m) ≤ᶠ allowance m
unfolding ticks ratio ◌*ᶠ◌ ◌+ᶠ◌
within_allowance i m q = let g = mul-le-mul_right (slack m) q in record { cross = omega (arith, g) }

pub flux_is : (p : Table) (flux : ℕ → Table → Interval) (i : ℕ) (s : Ends) → i ≤ 36 → IsLoose p flux i s → IsFlux flux p s
flux_is p flux i s q h =
    let high = h.high in
    record {
      meets = h.meets;
      near = λ n m g. record {
        lower = sub_le_f (flux n p).lo (allowance m) (le_trans_f (h.low_near n m g)
            (le_trans_f (ticks_split (natural s.lo) (i * slack m)) (add_le_f (le_refl_f _) (within_allowance i m q))));
        upper = le_trans_f (h.high_near n m g) (add_le_f (le_refl_f _) (within_allowance i m q));
      };
      low = h.not_negative;
      in_order = h.in_order;
      high = omega (arith, high);
    }

pub total_is : (p : Table) (s t r : Ends) → IsSoFar p 0 18 s → IsSoFar p 18 18 t → r.lo ≡ s.lo +ℤ t.lo → r.hi ≡ s.hi +ℤ t.hi → IsFlux total p r
unfolding total
total_is p s t r g h e f = flux_is p total 36 r (omega arith) (loose_sum p down up 18 18 s t r g h e f)
