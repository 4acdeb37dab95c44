-- Coefficients and the weights that meet them.
use Rattle.std.proofs.Common.{ℕ, suc, ◌+◌, ◌*◌, ◌/◌, ◌<◌, ◌≤◌, ◌≡◌, Bool, true, false, ◌&&◌, if◌then◌else◌, nat_lt, min, inl, inr, refl, arith, lit≤}
use Rattle.std.proofs.Math.Nat.{div-mul-le_self, div-le_of_le-mul, lt-div-mul-add}
use Rattle.std.proofs.lemmas.Bool.{and_parts, cases_lt}
use Rattle.std.proofs.lemmas.Bool.Decides.{nat_tests}
use Rattle.fx_base.specs.Fraction.{Fraction, ◌≤ᶠ◌, ◌+ᶠ◌, whole, ratio, half_power}
use Rattle.fx_base.specs.Interval.{Interval, Meets, LiesIn, exact}
use Rattle.fx_base.specs.Nesting.{IsNested}
use Rattle.fx_base.specs.Units.{of_weight, ticks}
use Rattle.fx_base.specs.declared.weight.Weight.{Weight}
use Rattle.fx_base.proofs.Order.{le_refl_f, le_trans_f, add_le_f, le_add_f, zero_le_f}
use Rattle.fx_base.proofs.Near.{near_by_meeting}
use Rattle.fx_base.proofs.Sums.{ticks_le, ticks_split, ticks_whole}
use Rattle.fx_base.proofs.Truth.{not_second}
use Rattle.series_enclose.specs.Series.{pi}
use Rattle.series_enclose.proofs.PiLaws.{pi_nested, pi_above_three, pi_narrow}
use Rattle.room_layout.specs.Place.{Place, place_of, squared_distance}
use Rattle.room_layout.specs.declared.geometry.Face.{Face}
use Rattle.patch_mesh.specs.declared.patch.Patch.{Patch}
use Rattle.form_factor.specs.Coefficient.{kernel, fronts, coefficient, loose_coefficient}
use Rattle.form_factor.specs.Weights.{IsCoefficient}
use Rattle.form_factor.specs.Laws.{CoefficientNests, CoefficientNarrows}
use Rattle.form_factor.specs.Divisor.{IsAbove, IsNear}
use Rattle.form_factor.proofs.Divided.{low_under, high_over, one_over, over_most, times_least}
use Rattle.form_factor.proofs.Apart.{fronts_near, fronts_far}
use Rattle.form_factor.proofs.Kernel.{kernel_falls, ticks_below_kernel, ticks_above_kernel}
use Rattle.form_factor.proofs.Spread.{spreads}

-- ---- a weight between whose ends the kernel lies, with pi between P and Q ticks

pub low_end : (reflect fronts r area m k Q d lo : ℕ) (p : Fraction) → 0 < r → 0 < area → 0 < m → 0 < k → p ≤ᶠ ticks Q
    → IsAbove (1000 * (m * r)) Q (k * r) (k * area) d → lo ≡ reflect * (k * area) * 8192 * (m * fronts) / d → ticks lo ≤ᶠ kernel reflect fronts r area p
low_end reflect fronts r area m k Q d lo p far some pm pk h above is =
    le_trans_f (ticks_below_kernel reflect fronts r area Q lo far some
    (low_under reflect fronts r area m k Q d lo pm pk above (rw is (div-mul-le_self (reflect * (k * area) * 8192 * (m * fronts)) d))))
    (kernel_falls reflect fronts r area p (ticks Q) some h)

pub five_above : (reflect fronts r area m k P Q d lo : ℕ) (p : Fraction) → 0 < r → 0 < area → 0 < m → 0 < k → ticks P ≤ᶠ p
    → 16777216 ≤ m * r → 16777216 ≤ k * (r + area) → 206158430208 ≤ Q → Q ≤ P + 1 → 0 < d → lo ≤ 68719476736
    → IsNear (1000 * (m * r)) Q (k * r) (k * area) d → lo ≡ reflect * (k * area) * 8192 * (m * fronts) / d → kernel reflect fronts r area p ≤ᶠ ticks (lo + 5)
five_above reflect fronts r area m k P Q d lo p far some pm pk h large wide three close pd most near is =
    le_trans_f (kernel_falls reflect fronts r area (ticks P) p some h)
    (ticks_above_kernel reflect fronts r area P (lo + 5) far some
    (high_over reflect fronts r area m k P Q d lo pm pk large wide three close most near
    (rw is (omega (arith, lt-div-mul-add {a = reflect * (k * area) * 8192 * (m * fronts)} {b = d} pd)))))

pub one_above : (reflect fronts r area P : ℕ) (p : Fraction) → reflect ≤ 1000 → fronts ≤ r → 0 < r → 0 < area → ticks P ≤ᶠ p
    → kernel reflect fronts r area p ≤ᶠ ticks 68719476736
one_above reflect fronts r area P p dull near far some h =
    le_trans_f (kernel_falls reflect fronts r area (ticks P) p some h)
    (ticks_above_kernel reflect fronts r area P 68719476736 far some (one_over reflect fronts r area P (times_least reflect fronts r dull near)))

pub lo_most : (reflect fronts r area m k Q d : ℕ) → reflect ≤ 1000 → fronts ≤ r → 0 < d → IsAbove (1000 * (m * r)) Q (k * r) (k * area) d
    → reflect * (k * area) * 8192 * (m * fronts) / d ≤ 68719476736
lo_most reflect fronts r area m k Q d dull near pd above =
    let most : reflect * (k * area) * 8192 * (m * fronts) ≤ d * 68719476736
    = omega (arith, over_most reflect fronts r area m k Q d (times_least reflect fronts r dull near) above) in
    div-le_of_le-mul d most

-- the upper end is five ticks above the lower one, and at most one
pub holds_above : (kern : Fraction) (lo hi : ℕ) → hi ≡ min (lo + 5) 68719476736 → kern ≤ᶠ ticks (lo + 5) → kern ≤ᶠ ticks 68719476736 → kern ≤ᶠ ticks hi
holds_above kern lo hi e five one = elim (cases_lt (lo + 5) 68719476736) [
  | inl w ↦ let h : hi ≡ lo + 5 = omega arith in rw h five
  | inr w ↦ let h : hi ≡ 68719476736 = omega arith in rw h one
]

-- a patch that reflects nothing hands on nothing
pub dark_above : (fronts r area : ℕ) (p : Fraction) → 0 < r → 0 < area → kernel 0 fronts r area p ≤ᶠ ticks 0
dark_above fronts r area p far some =
    le_trans_f (kernel_falls 0 fronts r area (ticks 0) p some (le_trans_f (ticks_whole 0) (zero_le_f p)))
    (ticks_above_kernel 0 fronts r area 0 0 far some (omega arith))

pub none_below : (x : Fraction) → ticks 0 ≤ᶠ x
none_below x = le_trans_f (ticks_whole 0) (zero_le_f x)

-- ---- coefficients by cases

by_test : (b : Bool) (i : Interval) → (b ≡ false) → (if b then i else exact (whole 0)) ≡ exact (whole 0)
by_test true i e = absurd (cc)
by_test false i e = refl

coefficient_hidden : (n : ℕ) (p : Place) (f : Face) (patch : Patch) (clear : Bool) → (clear && nat_lt 0 (fronts p f (place_of patch.centre) patch.face)) ≡ false
    → coefficient n p f patch clear ≡ exact (whole 0)
unfolding coefficient
coefficient_hidden n p f patch clear e = by_test _ _ e

coefficient_seen : (n : ℕ) (p : Place) (f : Face) (patch : Patch) → 0 < fronts p f (place_of patch.centre) patch.face
    → coefficient n p f patch true ≡ record {
      lo = kernel patch.reflect (fronts p f (place_of patch.centre) patch.face) (squared_distance p (place_of patch.centre)) (4 * patch.area) (pi n).hi;
      hi = kernel patch.reflect (fronts p f (place_of patch.centre) patch.face) (squared_distance p (place_of patch.centre)) (4 * patch.area) (pi n).lo;
    }
unfolding coefficient
coefficient_seen n p f patch h = let e : nat_lt 0 (fronts p f (place_of patch.centre) patch.face) ≡ true = grind (arith, nat_tests) in rw e refl

-- ---- weights

nothing_is : (p : Place) (f : Face) (patch : Patch) (clear : Bool) → ((n : ℕ) → coefficient n p f patch clear ≡ exact (whole 0))
    → IsCoefficient p f patch clear (record { lo = 0; hi = 0 })
nothing_is p f patch clear e = record {
  low = λ n. rw (e n) (ticks_whole 0);
  high = λ n. rw (e n) (zero_le_f (ticks 0));
  narrow = omega arith;
  order = omega arith;
  most = lit≤ tt;
  blocked = λ _. refl;
  behind = λ _. refl;
}

pub blocked_is : (p : Place) (f : Face) (patch : Patch) (clear : Bool) → clear ≡ false → IsCoefficient p f patch clear (record { lo = 0; hi = 0 })
blocked_is p f patch clear e = nothing_is p f patch clear (λ n. coefficient_hidden n p f patch clear (rw e refl))

pub behind_is : (p : Place) (f : Face) (patch : Patch) (clear : Bool) → fronts p f (place_of patch.centre) patch.face ≡ 0 → IsCoefficient p f patch clear (record { lo = 0; hi = 0 })
behind_is p f patch clear e = nothing_is p f patch clear (λ n. coefficient_hidden n p f patch clear (not_second clear _ (rw e refl)))

not_clear : (b : Bool) → b ≡ true → b ≡ false → ⊥
not_clear b e f = cc

pub seen_is : (p : Place) (f : Face) (patch : Patch) (clear : Bool) (d r : ℕ) (w : Weight) → clear ≡ true → 0 < d
    → d ≡ fronts p f (place_of patch.centre) patch.face → r ≡ squared_distance p (place_of patch.centre)
    → ((n : ℕ) → ticks w.lo ≤ᶠ kernel patch.reflect d r (4 * patch.area) (pi n).lo) → ((n : ℕ) → kernel patch.reflect d r (4 * patch.area) (pi n).hi ≤ᶠ ticks w.hi)
    → w.hi ≤ w.lo + 5 → w.lo ≤ w.hi → w.hi ≤ 68719476736 → IsCoefficient p f patch clear w
seen_is p f patch clear d r w is_clear some is_d is_r low high narrow order most =
    let front : 0 < fronts p f (place_of patch.centre) patch.face = omega (arith, some, is_d) in
    record {
      low = λ n. rw (is_clear, coefficient_seen n p f patch front, ← is_d, ← is_r) (low n);
      high = λ n. rw (is_clear, coefficient_seen n p f patch front, ← is_d, ← is_r) (high n);
      narrow = narrow;
      order = order;
      most = most;
      blocked = λ e. absurd (not_clear clear is_clear e);
      behind = λ e. absurd (omega (arith, e, front));
    }

-- what meets and is narrow lies in the loose form
five_ticks : ticks 5 ≤ᶠ half_power 32
unfolding ticks half_power
five_ticks = record { cross = lit≤ tt }

pub meets_of : (p : Place) (f : Face) (patch : Patch) (clear : Bool) (w : Weight) → IsCoefficient p f patch clear w → (n : ℕ) → Meets (of_weight w) (coefficient n p f patch clear)
meets_of p f patch clear w h n = record { above = h.low n; below = h.high n }

pub close_of : (p : Place) (f : Face) (patch : Patch) (clear : Bool) (w : Weight) → IsCoefficient p f patch clear w → (n : ℕ) → LiesIn (of_weight w) (loose_coefficient n p f patch clear)
close_of p f patch clear w h n =
    near_by_meeting (of_weight w) (coefficient n p f patch clear) (half_power 32)
    (le_trans_f (ticks_le w.hi (w.lo + 5) h.narrow) (le_trans_f (ticks_split w.lo 5) (add_le_f (le_refl_f (ticks w.lo)) five_ticks)))
    (meets_of p f patch clear w h n)

-- ---- laws

nest_by : (b : Bool) (k : Fraction → Fraction) → ((p q : Fraction) → p ≤ᶠ q → k q ≤ᶠ k p)
    → IsNested (λ n. if b then record { lo = k (pi n).hi; hi = k (pi n).lo } else exact (whole 0))
nest_by true k falls = record {
  nests = λ n. record { lower = falls (pi (suc n)).hi (pi n).hi (pi_nested.nests n).upper; upper = falls (pi n).lo (pi (suc n)).lo (pi_nested.nests n).lower };
  order = λ n. falls (pi n).lo (pi n).hi (pi_nested.order n);
}
nest_by false k falls = record {
  nests = λ n. record { lower = le_refl_f (whole 0); upper = le_refl_f (whole 0) };
  order = λ n. le_refl_f (whole 0);
}

pub nests : CoefficientNests
unfolding coefficient
nests p f patch clear some =
    nest_by (clear && nat_lt 0 (fronts p f (place_of patch.centre) patch.face))
    (kernel patch.reflect (fronts p f (place_of patch.centre) patch.face) (squared_distance p (place_of patch.centre)) (4 * patch.area))
    (λ a b h. kernel_falls patch.reflect (fronts p f (place_of patch.centre) patch.face) (squared_distance p (place_of patch.centre)) (4 * patch.area) a b (omega (arith, some)) h)

narrow_by : (b : Bool) (i : Interval) (w : Fraction) → (b ≡ true → i.hi ≤ᶠ (i.lo +ᶠ w)) → (if b then i else exact (whole 0)).hi ≤ᶠ ((if b then i else exact (whole 0)).lo +ᶠ w)
narrow_by true i w h = h refl
narrow_by false i w h = le_add_f (whole 0) w

front_of : (clear : Bool) (d : ℕ) → (clear && nat_lt 0 d) ≡ true → 0 < d
front_of clear d e = let (_, t) = and_parts clear (nat_lt 0 d) e in grind (arith, nat_tests, t)

pub narrows : CoefficientNarrows
unfolding coefficient
narrows n p f patch clear deep some dull =
    let q = place_of patch.centre in
    narrow_by (clear && nat_lt 0 (fronts p f q patch.face)) _ (ratio 1 2400000)
    (λ e. spreads patch.reflect (fronts p f q patch.face) (squared_distance p q) (4 * patch.area) (pi n).lo (pi n).hi (ratio 1 2400000) dull
    (fronts_near p q f patch.face) (fronts_far p q f patch.face (front_of clear (fronts p f q patch.face) e)) (omega (arith, some))
    (le_trans_f one_three (le_trans_f (pi_above_three n) (pi_nested.order n))) (pi_narrow n deep))
  where
    one_three : whole 1 ≤ᶠ whole 3
    one_three = Rattle.fx_base.proofs.Ratios.whole_le 1 3 (lit≤ tt)
