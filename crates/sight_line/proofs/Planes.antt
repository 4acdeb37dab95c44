-- A point of a segment on one side of a plane, said by how far the ends lie from the plane.
use Rattle.std.proofs.Common.{ℕ, ◌+◌, ◌*◌, ◌-◌, ◌<◌, ◌↔◌, arith}
use Rattle.std.proofs.Math.Nat.{mul-sub}

-- above the plane at l
pub above_plane : (r s p q l : ℕ) → (r * (l - p) + s * (l - q) < r * (p - l) + s * (q - l)) ↔ ((r + s) * l < r * p + s * q)
above_plane r s p q l = (
  λ h. omega (arith, h, mul-sub r p l, mul-sub r l p, mul-sub s q l, mul-sub s l q),
  λ h. omega (arith, h, mul-sub r p l, mul-sub r l p, mul-sub s q l, mul-sub s l q),
)

-- below the plane at l
pub below_plane : (r s p q l : ℕ) → (r * (p - l) + s * (q - l) < r * (l - p) + s * (l - q)) ↔ (r * p + s * q < (r + s) * l)
below_plane r s p q l = (
  λ h. omega (arith, h, mul-sub r p l, mul-sub r l p, mul-sub s q l, mul-sub s l q),
  λ h. omega (arith, h, mul-sub r p l, mul-sub r l p, mul-sub s q l, mul-sub s l q),
)
