-- What is left of a segment between some of the faces of a box. A point inside the segment is given by its weights r and s at the ends.
use Rattle.std.specs.Prelude.{ℕ, ◌+◌, ◌*◌, ◌<◌, ◌↔◌, Option, IsSomeAnd}
use Rattle.room_layout.specs.Place.{Place}
use Rattle.room_layout.specs.declared.room.Block.{Block}
use Rattle.sight_line.specs.Sight.{DividesWithin}
use Rattle.sight_line.specs.declared.window.Window.{Window}
use Rattle.sight_line.specs.declared.window.Side.{Side}

-- the ratio of s to r lies strictly between the bounds
abbrev pub Allows : Window → ℕ → ℕ → Type 0
Allows w r s = (r * w.above.over < s * w.above.under) × (s * w.below.under < r * w.below.over)

-- something is left, and the point lies in it
abbrev pub IsLeft : Option Window → ℕ → ℕ → Type 0
IsLeft o r s = IsSomeAnd o (λ w. Allows w r s)

-- the point lies strictly inside the face
abbrev pub IsInside : Side → ℕ → ℕ → Type 0
IsInside f r s = r * f.from_out + s * f.to_out < r * f.from_in + s * f.to_in

-- a point is left exactly where it was left before and lies within as well
abbrev pub Narrows : Window → Option Window → (ℕ → ℕ → Type 0) → Type 0
Narrows before after Within = (r s : ℕ) → IsLeft after r s ↔ (Allows before r s × Within r s)

-- some point is left
pub record IsOpen (w : Window) : Type 0 where
  pub r : ℕ
  pub s : ℕ
  pub allowed : Allows w r s

-- the point with these weights, neither of them 0, lies in the open inside of the box
pub record IsWithin (p q : Place) (b : Block) (r s : ℕ) : Type 0 where
  pub from : 0 < r
  pub to : 0 < s
  pub x : DividesWithin r s p.x q.x b.lo.x b.hi.x
  pub y : DividesWithin r s p.y q.y b.lo.y b.hi.y
  pub z : DividesWithin r s p.z q.z b.lo.z b.hi.z
