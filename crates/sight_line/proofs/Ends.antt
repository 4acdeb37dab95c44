-- Where an end of a segment lies in the open inside of a box, so do points beside it: a point with weights r and s has a neighbour with
-- weights n * r + 1 and n * s + 1, for n large enough.
use Rattle.std.proofs.Common.{ℕ, suc, ◌+◌, ◌*◌, ◌<◌, arith}
use Rattle.std.proofs.Math.Nat.{mul-le-mul_left}
use Rattle.room_layout.specs.Place.{Place}
use Rattle.room_layout.specs.declared.room.Block.{Block}
use Rattle.sight_line.specs.Sight.{DividesWithin, MeetsBox}
use Rattle.sight_line.specs.Clip.{IsWithin}

above_still : (n r s p q l : ℕ) → (r + s) * l < r * p + s * q → 2 * l < n →
    (n * r + 1 + (n * s + 1)) * l < (n * r + 1) * p + (n * s + 1) * q
above_still n r s p q l h more = omega (arith, mul-le-mul_left n h)

below_still : (n r s p q l : ℕ) → r * p + s * q < (r + s) * l → p + q < n →
    (n * r + 1) * p + (n * s + 1) * q < (n * r + 1 + (n * s + 1)) * l
below_still n r s p q l h more = omega (arith, mul-le-mul_left n h)

within_still : (n r s p q lo hi : ℕ) → DividesWithin r s p q lo hi → 4 * lo + p + q < n →
    DividesWithin (n * r + 1) (n * s + 1) p q lo hi
within_still n r s p q lo hi h more =
    (above_still n r s p q (2 * lo) h.0 (omega arith), below_still n r s p q (2 * hi) h.1 (omega arith))

-- a point inside the segment in the open inside of the box
pub record MeetsWithin (p q : Place) (b : Block) : Type 0 where
  pub r : ℕ
  pub s : ℕ
  pub within : IsWithin p q b r s

pub meets_within : (p q : Place) (b : Block) → MeetsBox p q b → MeetsWithin p q b
meets_within p q b m =
    let n : ℕ = suc ((4 * b.lo.x + p.x + q.x) + (4 * b.lo.y + p.y + q.y) + (4 * b.lo.z + p.z + q.z)) in
    record {
      r = n * m.r + 1;
      s = n * m.s + 1;
      within = record {
        from = omega arith;
        to = omega arith;
        x = within_still n m.r m.s p.x q.x b.lo.x b.hi.x m.x (omega arith);
        y = within_still n m.r m.s p.y q.y b.lo.y b.hi.y m.y (omega arith);
        z = within_still n m.r m.s p.z q.z b.lo.z b.hi.z m.z (omega arith);
      };
    }

pub within_meets : (p q : Place) (b : Block) (r s : ℕ) → IsWithin p q b r s → MeetsBox p q b
within_meets p q b r s w = record { r = r; s = s; some = omega (arith, w.from); x = w.x; y = w.y; z = w.z }
