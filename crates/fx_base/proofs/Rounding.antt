-- Quotients rounded down and up.
use Rattle.std.proofs.Common.{ℕ, ◌+◌, ◌*◌, ◌/◌, ◌%◌, ◌<◌, ◌≤◌, ◌≡◌, min, arith, ap, sym, ◌∙◌, ℤ, pos, negsuc, ◌≤ℤ◌}
use Rattle.std.proofs.Math.Nat.{div-le_of_le-mul, div-mul-le_self, mul-le-mul_left, mul-add-div_right, mul-add-mod_self_right}
use Rattle.std.proofs.lemmas.Nat.{div-add-mod'}
use Rattle.std.proofs.lemmas.Grind.{div_ceil_times}
use Rattle.std.proofs.lemmas.Int.{ints}
use Rattle.std.specs.Int.{div_ceil}
use Rattle.fx_base.specs.Units.{natural}

-- n / d down and up, in whole numbers
pub floor_below : (n d : ℕ) → n / d * d ≤ n
floor_below n d = div-mul-le_self n d

pub ceil_above : (n d : ℕ) → 0 < d → n ≤ div_ceil n d * d
ceil_above n d p = (div_ceil_times n d p).0

pub ceil_below : (n d : ℕ) → 0 < d → div_ceil n d * d < n + d
ceil_below n d p = (div_ceil_times n d p).1

at_most-times : (a b x y q : ℕ) → a ≤ x → y ≤ b → x ≤ q * y → a ≤ b * q
at_most-times a b x y q h g k = omega (arith, mul-le-mul_left q g)

-- the lower quotient isn't above the upper one
pub quotients-in_order : (a b x y : ℕ) → a ≤ x → 0 < y → y ≤ b → a / b ≤ div_ceil x y
quotients-in_order a b x y h p g =
    div-le_of_le-mul b (at_most-times a b x y (div_ceil x y) h g ((div_ceil_times x y p).0))

apart : (n d s : ℕ) → n * s ≡ (n / d * s) * d + n % d * s
apart n d s = let e = ap (λ (z : ℕ). z * s) (sym (div-add-mod' n d)) in omega (arith, e)

-- n * s / d without forming n * s
pub scaled_down : (n d s : ℕ) → 0 < d → n * s / d ≡ n / d * s + n % d * s / d
scaled_down n d s p = ap (λ (z : ℕ). z / d) (apart n d s) ∙ mul-add-div_right p (n / d * s) (n % d * s)

scaled_rest : (n d s : ℕ) → n * s % d ≡ n % d * s % d
scaled_rest n d s = ap (λ (z : ℕ). z % d) (apart n d s) ∙ mul-add-mod_self_right (n / d * s) d (n % d * s)

pub scaled_up : (n d s : ℕ) → 0 < d → div_ceil (n * s) d ≡ n / d * s + div_ceil (n % d * s) d
scaled_up n d s p = omega (arith, scaled_down n d s p, ap (λ (z : ℕ). min 1 z) (scaled_rest n d s))

-- of whole numbers
pub natural-mono : (a b : ℤ) → pos 0 ≤ℤ a → a ≤ℤ b → natural a ≤ natural b
natural-mono (pos a) (pos b) p h = omega (arith, ints)
natural-mono (pos a) (negsuc b) p h = absurd (omega (arith, ints))
natural-mono (negsuc a) b p h = absurd (omega (arith, ints))

pub natural_most : (a : ℤ) (n : ℕ) → a ≤ℤ pos n → natural a ≤ n
natural_most (pos a) n h = omega (arith, ints)
natural_most (negsuc a) n h = omega arith

pub ruleset quotients_rule = (quotients-in_order)

pub ruleset natural_rule = (natural-mono)
