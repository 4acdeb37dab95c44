-- Masks of boxes: bit b of a mask is box b's.
use Rattle.std.specs.Prelude.{ℕ, ◌≡◌, ◌<◌, ◌↔◌, List, slice_get, IsSomeAnd}
use Rattle.std.specs.Int.{bit_at}
use Rattle.room_layout.specs.declared.room.Block.{Block}

abbrev pub HasBit : ℕ → ℕ → Type 0
HasBit mask b = bit_at mask b ≡ 1

-- bit b is set exactly where there is a box b and P holds of it
pub record IsMaskOf (P : Block → Type 0) (blocks : List Block) (mask : ℕ) : Type 0 where
  pub bits : (b : ℕ) → HasBit mask b ↔ IsSomeAnd (slice_get blocks b) P

-- P holds of some number below n
pub record SomeBelow (n : ℕ) (P : ℕ → Type 0) : Type 0 where
  pub at : ℕ
  pub below : at < n
  pub holds : P at
