-- The share of one point of a lamp as the program finds it.
use Rattle.std.proofs.Common.{ℕ, ◌+◌, ◌*◌, ◌<◌, ◌≤◌, ◌≡◌, pos, ◌≤ℤ◌, Bool, false, List, length, arith, inl, inr, refl, sym, ◌∙◌}
use Rattle.fx_base.specs.Ends.{Ends}
use Rattle.fx_base.specs.Fraction.{half_power, whole}
use Rattle.fx_base.specs.Interval.{LiesIn, Meets, exact, outward}
use Rattle.fx_base.specs.Units.{natural, of_span, ticks}
use Rattle.room_layout.specs.Accepted.{IsShine}
use Rattle.room_layout.specs.Place.{Place, in_front}
use Rattle.room_layout.specs.declared.geometry.Face.{Face}
use Rattle.room_layout.specs.declared.room.Lamp.{Lamp}
use Rattle.room_layout.specs.declared.room.Shine.{Shine}
use Rattle.room_layout.specs.declared.room.Shine.TheVariants.{Even, File}
use Rattle.photo_table.specs.Kept.{IsGreatest}
use Rattle.photo_table.specs.Laws.{StandsFor}
use Rattle.photo_table.specs.Table.{Table, upper}
use Rattle.direct_light.specs.Directions.{loose_seen, seen}
use Rattle.direct_light.specs.Lamps.{part_count}
use Rattle.direct_light.specs.Shares.{loosened, share_of, table_at}
use Rattle.direct_light.specs.Ways.{IsDark}
use Rattle.direct_light.proofs.Found as found
use Rattle.scene_system.specs.Causes.{greatest_ticks, ticks_of}
use Rattle.scene_system.specs.Positions.{IsShare}
use Rattle.scene_system.specs.Tables.{AreKept}
use Rattle.scene_system.proofs.Kept.{kept_at}

-- ---- a lamp of a file

shine_at : (files k : ℕ) (s : Shine) → s ≡ File k → IsShine files s → k < files
shine_at files k s e is = rw e at is

pub shine_inside : (photos : List Table) (files : ℕ) (l : Lamp) (k : ℕ) → length photos ≡ files → IsShine files l.shine → l.shine ≡ File k → k < length photos
shine_inside photos files l k count is e = omega (arith, count, shine_at files k l.shine e is)

pub file_share : (photos : List Table) (l : Lamp) (q p : Place) (face : Face) (clear : Bool) (k : ℕ) (d : Ends) → l.shine ≡ File k → k < length photos → AreKept photos
    → ((t : Table) → StandsFor (table_at photos k) t → (n : ℕ) → Meets (of_span d) (share_of n (seen n t l q p) l q p face clear))
    → ((t : Table) → StandsFor (table_at photos k) t → (n : ℕ) → LiesIn (of_span d) (loosened (share_of n (loose_seen n t l q p) l q p face clear)))
    → pos 0 ≤ℤ d.lo
    → ((m : ℕ) → IsGreatest upper (table_at photos k) (ticks m) → natural d.hi * part_count l ≤ (m + 1) * 4000000 + 2 * part_count l)
    → IsShare photos l q p face clear d
file_share photos l q p face clear k d e inside kept meets near low most =
    found.file_share photos (ticks_of photos l) l q p face clear k (table_at photos k) d e inside refl meets near low
    (rw e (most (greatest_ticks (table_at photos k)) (kept_at photos k kept inside).greatest))

-- ---- a lamp that shines evenly

pub even_share : (photos : List Table) (l : Lamp) (q p : Place) (face : Face) (clear : Bool) (candela : ℕ) (d : Ends) → l.shine ≡ Even candela
    → ((n : ℕ) → Meets (of_span d) (share_of n (exact (whole candela)) l q p face clear))
    → ((n : ℕ) → LiesIn (of_span d) (loosened (share_of n (outward (half_power 30) (exact (whole candela))) l q p face clear)))
    → pos 0 ≤ℤ d.lo → natural d.hi * part_count l ≤ candela * 68719476736 * 4000000 + 2 * part_count l → IsShare photos l q p face clear d
even_share photos l q p face clear candela d e meets near low most =
    found.even_share photos (ticks_of photos l) l q p face clear candela d e meets near low (rw e (omega (arith, most)))

-- ---- a point that gives nothing

-- a span of no ticks, where the plane has nothing of the point
dark : (photos : List Table) (l : Lamp) (q p : Place) (face : Face) (clear : Bool) (d : Ends) → IsDark q p face clear → d.lo ≡ pos 0 → d.hi ≡ pos 0
    → IsShare photos l q p face clear d
dark photos l q p face clear d none low high = found.dark_share photos (ticks_of photos l) l q p face clear d none low high

pub behind_share : (photos : List Table) (l : Lamp) (q p h t : Place) (face : Face) (clear : Bool) (above : ℕ) (d : Ends) → h ≡ p → t ≡ q → above ≡ in_front face h t → above ≡ 0
    → d.lo ≡ pos 0 → d.hi ≡ pos 0 → IsShare photos l q p face clear d
behind_share photos l q p h t face clear above d a b f none low high = dark photos l q p face clear d (inr (rw (a, b) at (sym f ∙ none))) low high

pub hidden_share : (photos : List Table) (l : Lamp) (q p : Place) (face : Face) (clear : Bool) (d : Ends) → clear ≡ false → d.lo ≡ pos 0 → d.hi ≡ pos 0
    → IsShare photos l q p face clear d
hidden_share photos l q p face clear d hidden low high = dark photos l q p face clear d (inl hidden) low high
