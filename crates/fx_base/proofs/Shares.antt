-- A share of a light in ticks, rounded to a tick: its size, its order, and how near it is to the exact product.
use Rattle.std.proofs.Common.{ℕ, ◌+◌, ◌*◌, ◌/◌, ◌^◌, ◌≤◌, ◌≡◌, arith, refl}
use Rattle.std.proofs.Math.Nat.{mul-le-mul}
use Rattle.fx_base.specs.Bound.{IsEnd}
use Rattle.fx_base.specs.Fraction.{◌≤ᶠ◌, ◌+ᶠ◌, ◌*ᶠ◌}
use Rattle.fx_base.specs.Rounded.{down_to, up_to}
use Rattle.fx_base.specs.Units.{natural, ticks}
use Rattle.fx_base.specs.declared.tick.Tick.{Tick}
use Rattle.fx_base.proofs.Rounding.{natural_most}
use Rattle.fx_base.proofs.Sums.{ticks_times_low, ticks_times_high}

pub end_small : (t : Tick) → IsEnd t → natural t.0 ≤ 2 ^ 90
end_small t e = natural_most t.0 (2 ^ 90) e.high

pub product_most : (s l : ℕ) → s ≤ 68719476736 → l ≤ 2 ^ 90 → s * l ≤ 2 ^ 126
product_most s l h g = omega (arith, mul-le-mul h g)

pub below_is : (x : ℕ) → down_to 68719476736 x ≡ x / 68719476736
unfolding down_to
below_is x = refl

pub above_is : (x : ℕ) → up_to 68719476736 x ≡ (x + 68719476735) / 68719476736
unfolding up_to
above_is x = refl

pub ruleset shares = (product_most, below_is, above_is)

-- ---- order

pub down_rises : (a b : ℕ) → a ≤ b → down_to 68719476736 a ≤ down_to 68719476736 b
unfolding down_to
down_rises a b h = omega arith

pub up_rises : (a b : ℕ) → a ≤ b → up_to 68719476736 a ≤ up_to 68719476736 b
unfolding up_to
up_rises a b h = omega arith

pub down_below_up : (a b : ℕ) → a ≤ b → down_to 68719476736 a ≤ up_to 68719476736 b
unfolding down_to up_to
down_below_up a b h = omega arith

-- ---- against the exact product

pub share_down : (s t : ℕ) → ticks (down_to (2 ^ 36) (s * t)) ≤ᶠ (ticks s *ᶠ ticks t)
unfolding down_to
share_down s t = ticks_times_low s t

pub share_up : (s t : ℕ) → (ticks s *ᶠ ticks t) ≤ᶠ ticks (up_to (2 ^ 36) (s * t))
unfolding up_to
share_up s t = ticks_times_high s t

-- each is within a tick of it
pub share_down_near : (s t : ℕ) → (ticks s *ᶠ ticks t) ≤ᶠ (ticks (down_to (2 ^ 36) (s * t)) +ᶠ ticks 1)
unfolding ticks down_to ◌+ᶠ◌ ◌*ᶠ◌
share_down_near s t = record { cross = omega arith }

pub share_up_near : (s t : ℕ) → ticks (up_to (2 ^ 36) (s * t)) ≤ᶠ ((ticks s *ᶠ ticks t) +ᶠ ticks 1)
unfolding ticks up_to ◌+ᶠ◌ ◌*ᶠ◌
share_up_near s t = record { cross = omega arith }
