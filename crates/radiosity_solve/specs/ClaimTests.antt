-- Claims on two patches that light each other, computed: h0 = 1 + h1 / 2 and h1 = h0 / 4, whose solution is 8/7 and 2/7 lux. The
-- upper ends of the weights are a tick more. The sums are from Python's fractions:
--
--     half, quarter, lux = 2**35, 2**34, 2**36
--     def from_below(h): return lux + floor(F(half * h[1], lux)), floor(F(quarter * h[0], lux))
--     def from_above(h): return lux + ceil(F((half + 1) * h[1], lux)), ceil(F((quarter + 1) * h[0], lux))
use Rattle.std.specs.Prelude.{ℕ, ◌≡◌, ◌∷◌, [], List, pos, refl}
use Rattle.std.proofs.Common.{lit<, lit≤}
use Rattle.std.proofs.Math.Nat.{not-le_of_lt}
use Rattle.fx_base.specs.declared.Tick.{Tick}
use Rattle.fx_base.specs.Rounded.{down_to, up_to}
use Rattle.interval_system.specs.System.{System}
use Rattle.radiosity_solve.specs.Turn.{next_low, next_high}
use Rattle.radiosity_solve.specs.Claim.{IsShownAt, IsShown, IsFirstNotShown}
use borrow.Author.Count.{below_none, below_more}

unfoldable computed : Unit {0}
unfolding next_low next_high down_to up_to
computed = tt

abbrev two_patches : System
two_patches = record {
  rows = (record { lo = 0; hi = 0 } ∷ record { lo = 34359738368; hi = 34359738369 } ∷ [])
      ∷ (record { lo = 17179869184; hi = 17179869185 } ∷ record { lo = 0; hi = 0 } ∷ []) ∷ [];
  direct = record { lo = pos 68719476736; hi = pos 68719476736 } ∷ record { lo = pos 0; hi = pos 0 } ∷ [];
}

abbrev light : ℕ → ℕ → List Tick
light first second = record { 0 = pos first } ∷ record { 0 = pos second } ∷ []

abbrev least : List Tick
least = light 78536544841 19634136210

abbrev most : List Tick
most = light 78536544843 19634136212

sent_from_below : next_low two_patches least 0 ≡ 78536544841
unfolding computed
sent_from_below = refl

sent_from_above : next_high two_patches most 1 ≡ 19634136212
unfolding computed
sent_from_above = refl

first_is_shown : IsShownAt two_patches least most 0
unfolding computed
first_is_shown = record { below = lit≤ tt; above = lit≤ tt }

both_are_shown : IsShown two_patches least most
unfolding computed
both_are_shown = record {
  at = below_more (λ k. IsShownAt two_patches least most k) 1
      (below_more (λ k. IsShownAt two_patches least most k) 0 (below_none (λ k. IsShownAt two_patches least most k)) first_is_shown)
      (record { below = lit≤ tt; above = lit≤ tt });
}

-- a tick more from below, a tick less from above
too_high : List Tick
too_high = light 78536544841 19634136211

too_low : List Tick
too_low = light 78536544843 19634136211

lower_alone : IsFirstNotShown two_patches least too_low 1
unfolding computed too_low
lower_alone = record {
  inside = lit< tt;
  not_shown = λ shown. not-le_of_lt (lit< tt) shown.above;
  earlier = below_more (λ k. IsShownAt two_patches least too_low k) 0 (below_none (λ k. IsShownAt two_patches least too_low k))
      (record { below = lit≤ tt; above = lit≤ tt });
}

upper_alone : IsFirstNotShown two_patches too_high most 1
unfolding computed too_high
upper_alone = record {
  inside = lit< tt;
  not_shown = λ shown. not-le_of_lt (lit< tt) shown.below;
  earlier = below_more (λ k. IsShownAt two_patches too_high most k) 0 (below_none (λ k. IsShownAt two_patches too_high most k))
      (record { below = lit≤ tt; above = lit≤ tt });
}
