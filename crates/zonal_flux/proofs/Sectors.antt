-- Sums over the sectors between planes, and the mean of a zone.
use Rattle.std.proofs.Common.{ℕ, suc, ◌+◌, ◌-◌, ◌*◌, ◌/◌, ◌^◌, ◌≤◌, ◌≡◌, pos, ◌+ℤ◌, length, arith, ap, subst, ◌∙◌}
use Rattle.std.specs.Int.{div_ceil}
use Rattle.std.proofs.lemmas.Int.{ints}
use Rattle.std.proofs.Math.Nat.{mul-le-mul, mul-le-mul_right, mul-le-mul_left}
use Rattle.fx_base.specs.Ends.{Ends, IsWithin}
use Rattle.fx_base.specs.Fraction.{Fraction, ◌≤ᶠ◌, ◌+ᶠ◌, ◌*ᶠ◌, ratio, whole, sum_to}
use Rattle.fx_base.specs.Units.{natural, ticks}
use Rattle.fx_base.proofs.Order.{le_refl_f, le_trans_f, add_le_f, add_pairs_f, add_right_f, mul_le_f, mul_add_f}
use Rattle.fx_base.proofs.Rounding.{ceil_above, ceil_below, quotients-in_order, natural-mono}
use Rattle.fx_base.proofs.Sums.{ticks_join}
use Rattle.photo_table.specs.Table.{Table, IsTable, plane}
use Rattle.zonal_flux.specs.Fluxes.{half_sector, part, mean}
use Rattle.zonal_flux.specs.Steps.{spread, IsInPlane, IsMean, IsRounded, IsSpread, IsSector, AreSectors}
use Rattle.zonal_flux.proofs.Naturals.{natural_plus, plus_not_negative, high_not_negative, plus_in_order, pos_le, is_within}
use Rattle.zonal_flux.proofs.Planes.{first_is_least, plane_after, plane_width, whole_turn}

-- ---- ticks times millionths of a degree

spread_le : (x y : ℕ) → x ≤ y → spread x ≤ᶠ spread y
unfolding ratio
spread_le x y h = record { cross = omega arith }

spread_split : (x y : ℕ) → spread (x + y) ≤ᶠ (spread x +ᶠ spread y)
unfolding ratio ◌+ᶠ◌
spread_split x y = record { cross = omega arith }

spread_join : (x y : ℕ) → (spread x +ᶠ spread y) ≤ᶠ spread (x + y)
unfolding ratio ◌+ᶠ◌
spread_join x y = record { cross = omega arith }

-- two intensities in ticks, times half of what a sector of that width is of a turn
sector_split : (w x y : ℕ) → spread ((x + y) * w) ≤ᶠ (ratio w 720000000 *ᶠ (ticks x +ᶠ ticks y))
unfolding ratio ◌+ᶠ◌ ◌*ᶠ◌ ticks
sector_split w x y = record { cross = omega arith }

sector_join : (w x y : ℕ) → (ratio w 720000000 *ᶠ (ticks x +ᶠ ticks y)) ≤ᶠ spread ((x + y) * w)
unfolding ratio ◌+ᶠ◌ ◌*ᶠ◌ ticks
sector_join w x y = record { cross = omega arith }

-- ---- one sector

by_one : (x : ℕ) → x / 1 ≡ x
by_one x = omega arith

up_by_one : (x : ℕ) → div_ceil x 1 ≡ x
up_by_one x = let a = ceil_above x 1 (omega arith) in let b = ceil_below x 1 (omega arith) in omega (arith, a, b)

-- an end that is rounded by a tick at both planes is rounded by two ticks times the width
widened : (w x y : ℕ) (a b : Fraction) → ticks x ≤ᶠ (a +ᶠ ticks 1) → ticks y ≤ᶠ (b +ᶠ ticks 1)
    → spread ((x + y) * w) ≤ᶠ ((ratio w 720000000 *ᶠ (a +ᶠ b)) +ᶠ spread (2 * w))
widened w x y a b g h =
    let r = ratio w 720000000 in
    le_trans_f (sector_split w x y)
    (le_trans_f (mul_le_f (le_refl_f r) (le_trans_f (add_le_f g h) (add_pairs_f a (ticks 1) b (ticks 1))))
    (le_trans_f (mul_add_f r (a +ᶠ b) (ticks 1 +ᶠ ticks 1))
    (add_le_f (le_refl_f (r *ᶠ (a +ᶠ b))) (le_trans_f (sector_join w 1 1) (spread_le ((1 + 1) * w) (2 * w) (omega arith))))))

pub sector_is : (p : Table) (k i v : ℕ) (near far both s : Ends) → v ≡ plane p (i + 1) - plane p i → IsInPlane p k i near → IsInPlane p k (i + 1) far
    → both.lo ≡ near.lo +ℤ far.lo → both.hi ≡ near.hi +ℤ far.hi
    → s.lo ≡ pos (natural both.lo * v / 1) → s.hi ≡ pos (div_ceil (natural both.hi * v) 1) → IsSector p k i s
unfolding part half_sector
sector_is p k i v near far both s width n f bl bh sl sh =
    let w = plane p (i + 1) - plane p i in
    let r = ratio w 720000000 in
    let nl = natural near.lo in
    let nh = natural near.hi in
    let fl = natural far.lo in
    let fh = natural far.hi in
    let n_high = high_not_negative near.lo near.hi n.not_negative n.in_order in
    let f_high = high_not_negative far.lo far.hi f.not_negative f.in_order in
    let both_lo : natural both.lo ≡ nl + fl = ap natural bl ∙ natural_plus near.lo far.lo n.not_negative f.not_negative in
    let both_hi : natural both.hi ≡ nh + fh = ap natural bh ∙ natural_plus near.hi far.hi n_high f_high in
    let lo : s.lo ≡ pos ((nl + fl) * w) = sl ∙ ap pos (by_one (natural both.lo * v) ∙ times_same (natural both.lo) (nl + fl) v w both_lo width) in
    let hi : s.hi ≡ pos ((nh + fh) * w) = sh ∙ ap pos (up_by_one (natural both.hi * v) ∙ times_same (natural both.hi) (nh + fh) v w both_hi width) in
    let order = plus_le nl nh fl fh (natural-mono near.lo near.hi n.not_negative n.in_order) (natural-mono far.lo far.hi f.not_negative f.in_order) in
    let n_bright = n.bright in
    let f_bright = f.bright in
    rw (lo, hi) (record {
      low = le_trans_f (sector_split w nl fl) (mul_le_f (le_refl_f r) (add_le_f n.low f.low));
      low_near = le_trans_f (mul_le_f (le_refl_f r) (add_le_f n.low_near f.low_near))
          (le_trans_f (sector_join w (nl + 1) (fl + 1)) (spread_le ((nl + 1 + (fl + 1)) * w) ((nl + fl) * w + 2 * w) (omega arith)));
      high = le_trans_f (mul_le_f (le_refl_f r) (add_le_f n.high f.high)) (sector_join w nh fh);
      high_near = widened w nh fh _ _ n.high_near f.high_near;
      not_negative = omega (arith, ints);
      in_order = pos_le ((nl + fl) * w) ((nh + fh) * w) (mul-le-mul_right w order);
      bright = mul-le-mul_right w (omega arith);
      below_the_greatest = λ m g. let a = n.below_the_greatest m g in let b = f.below_the_greatest m g in mul-le-mul_right w (omega arith);
    })
  where
    plus_le : (a b c d : ℕ) → a ≤ b → c ≤ d → a + c ≤ b + d
    plus_le a b c d h g = omega arith

    times_same : (a b v w : ℕ) → a ≡ b → v ≡ w → a * v ≡ b * w
    times_same a b v w e f = cc

-- what is multiplied and added fits
pub sector_fits : (p : Table) → IsTable p → (k i v : ℕ) (near far both : Ends) → v ≡ plane p (i + 1) - plane p i → IsInPlane p k i near → IsInPlane p k (i + 1) far
    → both.hi ≡ near.hi +ℤ far.hi → natural both.hi * v ≤ 2 ^ 126
sector_fits p h k i v near far both width n f bh =
    let n_high = high_not_negative near.lo near.hi n.not_negative n.in_order in
    let f_high = high_not_negative far.lo far.hi f.not_negative f.in_order in
    let both_hi : natural both.hi ≡ natural near.hi + natural far.hi = ap natural bh ∙ natural_plus near.hi far.hi n_high f_high in
    let n_bright = n.bright in
    let f_bright = f.bright in
    let w = plane_width p h i in
    let a : natural both.hi ≤ 1374389534720000002 = omega arith in
    let b : v ≤ 360000000 = omega arith in
    let g : natural both.hi * v ≤ 1374389534720000002 * 360000000 = mul-le-mul a b in
    omega (arith, g)

spread_within : (p : Table) (w : ℕ) (lo hi : Fraction) (s : Ends) → IsSpread p w lo hi s → w ≤ 360000000 → natural s.hi ≤ 2 ^ 100
spread_within p w lo hi s h q =
    let b = h.bright in
    let g : 1374389534720000002 * w ≤ 1374389534720000002 * 360000000 = mul-le-mul_left 1374389534720000002 q in
    omega (arith, b, g)

pub spread_fits_low : (p : Table) (w : ℕ) (lo hi : Fraction) (s : Ends) → IsSpread p w lo hi s → w ≤ 360000000 → IsWithin (2 ^ 125) s.lo
spread_fits_low p w lo hi s h q =
    is_within (2 ^ 125) s.lo h.not_negative (let g = spread_within p w lo hi s h q in let o = natural-mono s.lo s.hi h.not_negative h.in_order in omega (arith, g, o))

pub spread_fits_high : (p : Table) (w : ℕ) (lo hi : Fraction) (s : Ends) → IsSpread p w lo hi s → w ≤ 360000000 → IsWithin (2 ^ 125) s.hi
spread_fits_high p w lo hi s h q =
    is_within (2 ^ 125) s.hi (high_not_negative s.lo s.hi h.not_negative h.in_order) (let g = spread_within p w lo hi s h q in omega (arith, g))

pub sum_fits : (p : Table) (k i : ℕ) (s : Ends) → AreSectors p k i s → plane p i - plane p 0 ≤ 360000000 → natural s.hi * 1 ≤ 2 ^ 126
sum_fits p k i s h q = let g = spread_within p _ _ _ s h q in omega (arith, g)

-- ---- their sum

spread_none : (x : Fraction) → spread 0 ≤ᶠ x
unfolding ratio
spread_none x = record { cross = omega arith }

none_spread : (x : Fraction) → whole 0 ≤ᶠ x
unfolding whole
none_spread x = record { cross = omega arith }

pub no_sectors : (p : Table) (k : ℕ) (s : Ends) → s.lo ≡ pos 0 → s.hi ≡ pos 0 → AreSectors p k 0 s
unfolding sum_to
no_sectors p k s e f = rw (e, f) (record {
  low = spread_none (whole 0);
  low_near = none_spread _;
  high = none_spread _;
  high_near = spread_none _;
  not_negative = omega (arith, ints);
  in_order = omega (arith, ints);
  bright = omega arith;
  below_the_greatest = λ m g. omega arith;
})

spread_sum : (p : Table) (w v : ℕ) (a b c d : Fraction) (s t r : Ends) → IsSpread p w a b s → IsSpread p v c d t
    → r.lo ≡ s.lo +ℤ t.lo → r.hi ≡ s.hi +ℤ t.hi → IsSpread p (w + v) (a +ᶠ c) (b +ᶠ d) r
spread_sum p w v a b c d s t r g h e f =
    let sl = natural s.lo in
    let sh = natural s.hi in
    let tl = natural t.lo in
    let th = natural t.hi in
    let lo : natural r.lo ≡ sl + tl = ap natural e ∙ natural_plus s.lo t.lo g.not_negative h.not_negative in
    let hi : natural r.hi ≡ sh + th = ap natural f
    ∙ natural_plus s.hi t.hi (high_not_negative s.lo s.hi g.not_negative g.in_order) (high_not_negative t.lo t.hi h.not_negative h.in_order) in
    let g_bright = g.bright in
    let h_bright = h.bright in
    record {
      low = rw lo (le_trans_f (spread_split sl tl) (add_le_f g.low h.low));
      low_near = rw lo (le_trans_f (add_le_f g.low_near h.low_near)
          (le_trans_f (spread_join (sl + 2 * w) (tl + 2 * v)) (spread_le (sl + 2 * w + (tl + 2 * v)) (sl + tl + 2 * (w + v)) (omega arith))));
      high = rw hi (le_trans_f (add_le_f g.high h.high) (spread_join sh th));
      high_near = rw hi (le_trans_f (spread_split sh th) (le_trans_f (add_le_f g.high_near h.high_near)
          (le_trans_f (add_pairs_f b (spread (2 * w)) d (spread (2 * v)))
          (add_le_f (le_refl_f (b +ᶠ d)) (le_trans_f (spread_join (2 * w) (2 * v)) (spread_le (2 * w + 2 * v) (2 * (w + v)) (omega arith)))))));
      not_negative = rw e (plus_not_negative s.lo t.lo g.not_negative h.not_negative);
      in_order = rw (e, f) (plus_in_order s.lo s.hi t.lo t.hi g.in_order h.in_order);
      bright = omega arith;
      below_the_greatest = λ m q. let x = g.below_the_greatest m q in let y = h.below_the_greatest m q in omega (arith, x, y);
    }

pub more_sectors : (p : Table) → IsTable p → (k i : ℕ) (s t r : Ends) → AreSectors p k i s → IsSector p k i t
    → r.lo ≡ s.lo +ℤ t.lo → r.hi ≡ s.hi +ℤ t.hi → AreSectors p k (i + 1) r
unfolding sum_to
more_sectors p h k i s t r g f e d =
    let sum = spread_sum p (plane p i - plane p 0) (plane p (i + 1) - plane p i) _ _ _ _ s t r g f e d in
    let width : (plane p i - plane p 0) + (plane p (i + 1) - plane p i) ≡ plane p (i + 1) - plane p 0 =
    let a = first_is_least p h i in let b = plane_after p h i in omega (arith, a, b) in
    let W : ℕ → Type 0 = λ w. IsSpread p w (sum_to i (λ j. (part p k j).lo) +ᶠ (part p k i).lo) (sum_to i (λ j. (part p k j).hi) +ᶠ (part p k i).hi) r in
    let N : ℕ → Type 0 = λ n. IsSpread p (plane p (i + 1) - plane p 0) (sum_to n (λ j. (part p k j).lo)) (sum_to n (λ j. (part p k j).hi)) r in
    let one : suc i ≡ i + 1 = omega arith in
    subst N one (subst W width sum)

-- ---- the mean

divided_low : (s : ℕ) → ticks (s / 720000000) ≤ᶠ spread s
unfolding ticks ratio
divided_low s = record { cross = omega arith }

divided_low_near : (s : ℕ) → spread (s + 720000000) ≤ᶠ ticks (s / 720000000 + 2)
unfolding ticks ratio
divided_low_near s = record { cross = omega arith }

divided_high : (s : ℕ) → spread s ≤ᶠ ticks (div_ceil s 720000000)
unfolding ticks ratio
divided_high s = let g = ceil_above s 720000000 (omega arith) in record { cross = omega (arith, g) }

divided_high_near : (s : ℕ) → ticks (div_ceil s 720000000) ≤ᶠ (spread s +ᶠ ticks 1)
unfolding ticks ratio ◌+ᶠ◌
divided_high_near s = let g = ceil_below s 720000000 (omega arith) in record { cross = omega (arith, g) }

spread_of_turn : spread 720000000 ≤ᶠ ticks 1
unfolding ticks ratio
spread_of_turn = record { cross = omega arith }

divided_most : (s m : ℕ) → s ≤ 720000000 * m → div_ceil s 720000000 ≤ m
divided_most s m h = let g = ceil_below s 720000000 (omega arith) in omega (arith, g)

-- all sectors, divided by twice a turn
mean_of : (p : Table) (n k : ℕ) (s : Ends) → AreSectors p k n s → plane p n - plane p 0 ≡ 360000000
    → IsRounded p 2 (sum_to n (λ j. (part p k j).lo)) (sum_to n (λ j. (part p k j).hi)) (record { lo = pos (natural s.lo / 720000000); hi = pos (div_ceil (natural s.hi) 720000000) })
mean_of p n k s g turn =
    let W : ℕ → Type 0 = λ w. IsSpread p w (sum_to n (λ j. (part p k j).lo)) (sum_to n (λ j. (part p k j).hi)) s in
    let h = subst W turn g in
    let order = natural-mono s.lo s.hi h.not_negative h.in_order in
    let bright = h.bright in
    record {
      low = le_trans_f (divided_low (natural s.lo)) h.low;
      low_near = le_trans_f h.low_near (divided_low_near (natural s.lo));
      high = le_trans_f h.high (divided_high (natural s.hi));
      high_near = le_trans_f (divided_high_near (natural s.hi)) (le_trans_f (add_le_f (le_trans_f h.high_near (add_le_f (le_refl_f _) spread_of_turn)) (le_refl_f (ticks 1)))
          (le_trans_f (add_right_f _ (ticks 1) (ticks 1)) (add_le_f (le_refl_f _) (ticks_join 1 1))));
      not_negative = omega (arith, ints);
      in_order = pos_le _ _ (quotients-in_order (natural s.lo) 720000000 (natural s.hi) 720000000 order (omega arith) (omega arith));
      bright = divided_most (natural s.hi) 687194767360000001 (omega arith);
      below_the_greatest = λ m q. let x = h.below_the_greatest m q in divided_most (natural s.hi) (m + 1) (omega (arith, x));
    }

times_one : (x : ℕ) → x * 1 ≡ x
times_one x = omega arith

pub mean_is : (p : Table) → IsTable p → (k i : ℕ) (s r : Ends) → i ≡ length p.planes → AreSectors p k i s
    → r.lo ≡ pos (natural s.lo * 1 / 720000000) → r.hi ≡ pos (div_ceil (natural s.hi * 1) 720000000) → IsMean p k r
unfolding mean
mean_is p h k i s r all g e f =
    let n = length p.planes in
    let turn : plane p n - plane p 0 ≡ 360000000 = whole_turn p h in
    let N : ℕ → Type 0 = λ z. AreSectors p k z s in
    let a = mean_of p n k s (subst N all g) turn in
    let lo : r.lo ≡ pos (natural s.lo / 720000000) = e ∙ ap (λ (z : ℕ). pos (z / 720000000)) (times_one (natural s.lo)) in
    let hi : r.hi ≡ pos (div_ceil (natural s.hi) 720000000) = f ∙ ap (λ (z : ℕ). pos (div_ceil z 720000000)) (times_one (natural s.hi)) in
    rw (lo, hi) a
