-- The light that one point of a lamp gives on a plane at a place, in lux.
use Rattle.std.specs.Prelude.{ℕ, ◌*◌, Bool, ◌&&◌, nat_lt, if◌then◌else◌, List, [], slice_index_or}
use Rattle.fx_base.specs.Fraction.{Fraction, ◌+ᶠ◌, ◌-ᶠ◌, ◌*ᶠ◌, ◌/ᶠ◌, ratio, whole, half_power}
use Rattle.fx_base.specs.Interval.{Interval, exact, outward}
use Rattle.fx_base.specs.Root.{root}
use Rattle.room_layout.specs.Place.{Place, in_front, squared_distance}
use Rattle.room_layout.specs.declared.geometry.Face.{Face}
use Rattle.room_layout.specs.declared.room.Lamp.{Lamp}
use Rattle.room_layout.specs.declared.room.Shine.TheVariants.{Even, File}
use Rattle.photo_table.specs.Table.{Table}
use Rattle.direct_light.specs.Lamps.{part_count}
use Rattle.direct_light.specs.Directions.{seen, loose_seen}

-- ---- the share of one point: intensity times cosine by the squared distance, the lengths in half mm. The cosine is the distance
-- `above` of the lamp's point in front of the plane, by the distance between the two.

unfoldable pub falloff : (maintenance parts above squared : ℕ) → (candela distance : Fraction) → Fraction
falloff maintenance parts above squared candela distance =
    candela *ᶠ ratio maintenance 1000 *ᶠ whole (above * 4000000) /ᶠ (whole squared *ᶠ distance) /ᶠ whole parts

-- the lower end by the greatest distance at depth n, the upper end by the least one
abbrev pub fallen : ℕ → (maintenance parts above squared : ℕ) → Interval → Interval
fallen n maintenance parts above squared candela = record {
  lo = falloff maintenance parts above squared candela.lo (root n squared).hi;
  hi = falloff maintenance parts above squared candela.hi (root n squared).lo;
}

-- from the lamp's point q to the place p of a plane that faces so; 0 where q isn't in front of the plane, or isn't seen
unfoldable pub share_of : ℕ → Interval → Lamp → Place → Place → Face → Bool → Interval
share_of n candela l q p face clear =
    if clear && nat_lt 0 (in_front face p q)
    then fallen n l.maintenance (part_count l) (in_front face p q) (squared_distance p q) candela
    else exact (whole 0)

-- the loose form: the lower end less a 2^24th and 2^-20 lux, and the upper end with so much more
unfoldable pub loosened : Interval → Interval
loosened i = record {
  lo = i.lo *ᶠ ratio 16777215 16777216 -ᶠ half_power 20;
  hi = i.hi *ᶠ ratio 16777217 16777216 +ᶠ half_power 20;
}

-- ---- by how a lamp shines: evenly in all directions, or by the table of its file, the one of that number

abbrev pub no_table : Table
no_table = record { planes = []; gammas = []; values = [] }

abbrev pub table_at : List Table → ℕ → Table
table_at tables k = slice_index_or tables k no_table

abbrev pub intensity : ℕ → List Table → Lamp → Place → Place → Interval
intensity n tables l q p = elim l.shine [ Even candela ↦ exact (whole candela) | File k ↦ seen n (table_at tables k) l q p ]

abbrev pub loose_intensity : ℕ → List Table → Lamp → Place → Place → Interval
loose_intensity n tables l q p = elim l.shine [
  | Even candela ↦ outward (half_power 30) (exact (whole candela))
  | File k ↦ loose_seen n (table_at tables k) l q p
]

abbrev pub share : ℕ → List Table → Lamp → Place → Place → Face → Bool → Interval
share n tables l q p face clear = share_of n (intensity n tables l q p) l q p face clear

abbrev pub loose_share : ℕ → List Table → Lamp → Place → Place → Face → Bool → Interval
loose_share n tables l q p face clear = loosened (share_of n (loose_intensity n tables l q p) l q p face clear)
