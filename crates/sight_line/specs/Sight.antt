-- Where a segment meets the open inside of a box, over whole numbers and without division: places in half millimetres, boxes in
-- millimetres.
use Rattle.std.specs.Prelude.{ℕ, ◌+◌, ◌*◌, ◌-◌, ◌<◌, Bool, not, ◌||◌, nat_lt, List, [], ◌∷◌, take, slice_get, All, IsSomeAnd}
use Rattle.std.specs.List.{list_all, list_any}
use Rattle.room_layout.specs.Place.{Place}
use Rattle.room_layout.specs.declared.room.Block.{Block}
use Rattle.room_layout.specs.declared.room.Room.{Room}

-- ---- the relation

-- on one axis, the point of the segment from p to q with weight r at p and s at q lies strictly between planes at lo and hi mm
abbrev pub DividesWithin : ℕ → ℕ → ℕ → ℕ → ℕ → ℕ → Type 0
DividesWithin r s p q lo hi = ((r + s) * (2 * lo) < r * p + s * q) × (r * p + s * q < (r + s) * (2 * hi))

-- some point of the closed segment from p to q lies in the open inside of the box
pub record MeetsBox (p q : Place) (b : Block) : Type 0 where
  pub r : ℕ
  pub s : ℕ
  pub some : 0 < r + s
  pub x : DividesWithin r s p.x q.x b.lo.x b.hi.x
  pub y : DividesWithin r s p.y q.y b.lo.y b.hi.y
  pub z : DividesWithin r s p.z q.z b.lo.z b.hi.z

-- the segment meets none of the boxes
abbrev pub NoneMet : List Block → Place → Place → Type 0
NoneMet blocks p q = All (λ b. ¬ MeetsBox p q b) blocks

-- the segment meets box k and none before it
pub record IsFirstMet (blocks : List Block) (p q : Place) (k : ℕ) : Type 0 where
  pub met : IsSomeAnd (slice_get blocks k) (λ b. MeetsBox p q b)
  pub none_before : NoneMet (take k blocks) p q

-- ---- the same as a test

-- how far p and q lie inside a face of the box, and how far outside
pub record Side : Type 0 where
  pub p_in : ℕ
  pub p_out : ℕ
  pub q_in : ℕ
  pub q_out : ℕ

-- the face at lo mm, which the box lies above
abbrev pub low_side : ℕ → ℕ → ℕ → Side
low_side p q lo = record { p_in = p - 2 * lo; p_out = 2 * lo - p; q_in = q - 2 * lo; q_out = 2 * lo - q }

-- the face at hi mm, which the box lies below
abbrev pub high_side : ℕ → ℕ → ℕ → Side
high_side p q hi = record { p_in = 2 * hi - p; p_out = p - 2 * hi; q_in = 2 * hi - q; q_out = q - 2 * hi }

abbrev pub sides : Place → Place → Block → List Side
sides p q b =
    low_side p.x q.x b.lo.x ∷ high_side p.x q.x b.hi.x ∷ low_side p.y q.y b.lo.y ∷ high_side p.y q.y b.hi.y ∷ low_side p.z q.z b.lo.z
    ∷ high_side p.z q.z b.hi.z ∷ []

-- on the way from p to q the segment comes inside the face f before it leaves the face g
abbrev pub enters_before : Side → Side → Bool
enters_before f g = (nat_lt 0 f.p_in || nat_lt 0 g.q_in) || nat_lt (f.p_out * g.q_out) (g.p_in * f.q_in)

-- the segment comes inside each face before it leaves any
unfoldable pub meets_box : Place → Place → Block → Bool
meets_box p q b = list_all (λ f. list_all (λ g. enters_before f g) (sides p q b)) (sides p q b)

-- the segment meets one of the boxes
unfoldable pub is_blocked : List Block → Place → Place → Bool
is_blocked blocks p q = list_any (λ b. meets_box p q b) blocks

-- the way between two places of a room is clear: no point of it lies in the open inside of a box
unfoldable pub is_clear : Room → Place → Place → Bool
is_clear room p q = not (is_blocked room.blocks p q)
