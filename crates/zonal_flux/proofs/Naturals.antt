-- The ends of spans as whole numbers of ticks.
use Rattle.std.proofs.Common.{ℕ, ◌+◌, ◌<◌, ◌≤◌, ◌≡◌, ℤ, pos, negsuc, ◌≤ℤ◌, ◌+ℤ◌, arith}
use Rattle.std.proofs.lemmas.Int.{ints}
use Rattle.fx_base.specs.Ends.{IsWithin}
use Rattle.fx_base.specs.Units.{natural}
use Rattle.fx_base.proofs.Rounding.{natural-mono}

pub natural_plus : (a b : ℤ) → pos 0 ≤ℤ a → pos 0 ≤ℤ b → natural (a +ℤ b) ≡ natural a + natural b
natural_plus (pos m) (pos n) h g = omega (arith, ints)
natural_plus (pos m) (negsuc n) h g = absurd (omega (arith, ints))
natural_plus (negsuc m) b h g = absurd (omega (arith, ints))

pub plus_not_negative : (a b : ℤ) → pos 0 ≤ℤ a → pos 0 ≤ℤ b → pos 0 ≤ℤ (a +ℤ b)
plus_not_negative a b h g = omega (arith, ints)

-- a width in ticks, of whole numbers that aren't negative
pub natural_width : (w : ℕ) (a b : ℤ) → pos 0 ≤ℤ a → b ≤ℤ (a +ℤ pos w) → natural b ≤ natural a + w
natural_width w (pos m) (pos n) h g = omega (arith, ints)
natural_width w (pos m) (negsuc n) h g = omega arith
natural_width w (negsuc m) b h g = absurd (omega (arith, ints))

pub high_not_negative : (a b : ℤ) → pos 0 ≤ℤ a → a ≤ℤ b → pos 0 ≤ℤ b
high_not_negative a b h g = omega (arith, ints)

pub plus_in_order : (a b c d : ℤ) → a ≤ℤ b → c ≤ℤ d → (a +ℤ c) ≤ℤ (b +ℤ d)
plus_in_order a b c d h g = omega (arith, ints)

pub pos_le : (m n : ℕ) → m ≤ n → pos m ≤ℤ pos n
pos_le m n h = omega (arith, ints)

pub some_is_positive : (a : ℤ) → 0 < natural a → pos 0 ≤ℤ a
some_is_positive (pos m) h = omega (arith, ints)
some_is_positive (negsuc m) h = absurd (omega arith)

pub is_pos : (a : ℤ) → pos 0 ≤ℤ a → a ≡ pos (natural a)
is_pos (pos m) h = omega (arith, ints)
is_pos (negsuc m) h = absurd (omega (arith, ints))

-- what is at most a bound lies within it
pub is_within : (n : ℕ) (a : ℤ) → pos 0 ≤ℤ a → natural a ≤ n → IsWithin n a
is_within n (pos m) h g = (omega (arith, ints), omega (arith, ints))
is_within n (negsuc m) h g = absurd (omega (arith, ints))

-- a lower end is at most an upper one that isn't negative
pub low_within : (n : ℕ) (a b : ℤ) → pos 0 ≤ℤ a → a ≤ℤ b → natural b ≤ n → natural a ≤ n
low_within n a b h g k = let e = natural-mono a b h g in omega arith
