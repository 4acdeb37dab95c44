-- What holds of shares at every depth.
use Rattle.std.specs.Prelude.{ℕ, ◌<◌, ◌≡◌, Bool, List, map}
use Rattle.fx_base.specs.Interval.{Interval, InOrder}
use Rattle.fx_base.specs.Ends.{Ends}
use Rattle.fx_base.specs.Units.{of_span}
use Rattle.room_layout.specs.Place.{Place, squared_distance}
use Rattle.room_layout.specs.declared.geometry.Face.{Face}
use Rattle.room_layout.specs.declared.room.Lamp.{Lamp}
use Rattle.room_layout.specs.declared.room.Shine.TheVariants.{File}
use Rattle.photo_table.specs.Exact.{IsIntensityTable, IsNarrow, IsRoundedOf}
use Rattle.photo_table.specs.Laws.{StandsFor}
use Rattle.photo_table.specs.Table.{Table, IsTable, value}
use Rattle.direct_light.specs.Directions.{seen, loose_seen}
use Rattle.direct_light.specs.Shares.{share_of, loosened, table_at, share, loose_share}

-- a table whose intensities have ends in order
pub record IsOrdered (t : Table) : Type 0 where
  pub is_table : IsTable t
  pub values : (i j : ℕ) → InOrder (value t i j)

-- the exact table that a table stands for is one
abbrev pub ExactIsOrdered : Type 0
ExactIsOrdered = (p t : Table) → IsTable p → StandsFor p t → IsOrdered t

-- the intensity in which a place is seen has ends in order, and so has its loose form
abbrev pub SeenIsInOrder : Type 0
SeenIsInOrder = (t : Table) → IsOrdered t → (n : ℕ) (l : Lamp) (q p : Place) → 0 < squared_distance p q →
    InOrder (seen n t l q p) × InOrder (loose_seen n t l q p)

-- a share has ends in order where the intensity has, and so has its loose form
abbrev pub ShareIsInOrder : Type 0
ShareIsInOrder = (n : ℕ) (i : Interval) (l : Lamp) (q p : Place) (face : Face) (clear : Bool) → (0 < squared_distance p q → InOrder i) →
    InOrder (share_of n i l q p face clear) × InOrder (loosened (share_of n i l q p face clear))

-- the share of a lamp as it shines has ends in order, and so has its loose form, where the table of its file is in order
abbrev pub LampShareIsInOrder : Type 0
LampShareIsInOrder = (n : ℕ) (tables : List Table) (l : Lamp) (q p : Place) (face : Face) (clear : Bool) →
    ((k : ℕ) → l.shine ≡ File k → IsOrdered (table_at tables k)) → InOrder (share n tables l q p face clear) × InOrder (loose_share n tables l q p face clear)

-- a table whose intensities are spans of ticks, as a kept one's are, and none of them wider than a tick, is some exact table rounded
abbrev pub NarrowHasExact : Type 0
NarrowHasExact = (p : Table) (spans : List Ends) → p.values ≡ map of_span spans → IsIntensityTable p → IsNarrow p → (t : Table) × IsRoundedOf p t
