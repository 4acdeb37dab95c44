-- Numbers that may be below 0, as differences of two fractions: what they start from, and what is taken away.
use Rattle.std.specs.Prelude.{ℤ, neg_ℤ}
use Rattle.fx_base.specs.Fraction.{Fraction, ◌≤ᶠ◌, ◌+ᶠ◌}
use Rattle.fx_base.specs.Ends.{Ends}
use Rattle.fx_base.specs.Units.{natural, ticks}

pub record Difference : Type 0 where
  pub start : Fraction
  pub taken : Fraction

infix 50 ◌≤ᵈ◌
pub record ◌≤ᵈ◌ (a b : Difference) : Type 0 where
  pub cross : (a.start +ᶠ b.taken) ≤ᶠ (b.start +ᶠ a.taken)

infixl 60 ◌+ᵈ◌
abbrev pub ◌+ᵈ◌ : Difference → Difference → Difference
a +ᵈ b = record { start = a.start +ᶠ b.start; taken = a.taken +ᶠ b.taken }

-- z ticks, of which there may be fewer than none
abbrev pub signed_ticks : ℤ → Difference
signed_ticks z = record { start = ticks (natural z); taken = ticks (natural (neg_ℤ z)) }

-- the number lies between the two ends of a span
abbrev pub spans : Ends → Difference → Type 0
spans s x = (signed_ticks s.lo ≤ᵈ x) × (x ≤ᵈ signed_ticks s.hi)
