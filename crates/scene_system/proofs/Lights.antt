-- The light of several points, and of several lamps, one after the other.
use Rattle.std.proofs.Common.{ℕ, suc, ◌+◌, ◌*◌, ◌^◌, ◌<◌, ◌≤◌, ◌≡◌, ℤ, pos, negsuc, ◌≤ℤ◌, Bool, List, length, map, take, sum_by, arith, ap, sym, ◌∙◌, subst}
use Rattle.std.proofs.lemmas.Int.{ints}
use Rattle.std.proofs.lemmas.List.{get_or-map, length-map, take_all}
use Rattle.std.proofs.lemmas.List.Sums.{sum_by_more}
use Rattle.std.specs.Prelude.{slice_index_or}
use Rattle.fx_base.specs.Interval.{Interval, LiesIn, Meets, sum_of}
use Rattle.fx_base.specs.Ends.{Ends}
use Rattle.fx_base.specs.Units.{natural, of_span}
use Rattle.room_layout.specs.Accepted.{IsLampIn, IsShine}
use Rattle.room_layout.specs.Place.{Place, place_of, point_of}
use Rattle.room_layout.specs.declared.geometry.Face.{Face}
use Rattle.room_layout.specs.declared.geometry.Point.{Point}
use Rattle.room_layout.specs.declared.room.Lamp.{Lamp}
use Rattle.room_layout.specs.declared.room.Room.{Room}
use Rattle.sight_index.specs.declared.vantage.Vantage.{Vantage}
use Rattle.photo_table.specs.Table.{Table}
use Rattle.interval_system.specs.System.{IsDirectLight}
use Rattle.direct_light.specs.Lamps.{lamp_place, lamp_points, part_count}
use Rattle.scene_system.specs.Causes.{greatest_total, ticks_of, total_ticks}
use Rattle.sight_line.specs.Sight.{is_clear}
use Rattle.direct_light.specs.LampLight.{lamp_light, light_of_lamp, loose_lamp_light}
use Rattle.direct_light.specs.Shares.{loose_share, share}
use Rattle.scene_system.specs.Light.{no_lamp}
use Rattle.scene_system.specs.Parts.{IsDirectFor}
use Rattle.scene_system.specs.Positions.{IsLampLight, IsShare}
use Rattle.scene_system.specs.Sight.{at_of}
use Rattle.scene_system.specs.Tables.{AreKept, AreTablesOf}
use Rattle.scene_system.proofs.Kept.{ticks_most}
use Rattle.direct_light.specs.Found.{most_light}
use Rattle.direct_light.proofs.Found.{lamp_most, more_meets, more_near, none_meets, none_near, parts_of, IsTogether}
use Rattle.direct_light.proofs.PointLists.{lamp_point_at, length-lamp_points}

-- ---- the points of a lamp

pub lamp_count : (l : Lamp) (points : List Vantage) → map at_of points ≡ lamp_points l → length points ≡ part_count l
lamp_count l points are = sym (length-map points at_of) ∙ ap length are ∙ length-lamp_points l

point_there : (l : Lamp) (points : List Vantage) (k : ℕ) (d : Vantage) → map at_of points ≡ lamp_points l → k < part_count l → (slice_index_or points k d).at ≡ point_of (lamp_place l k)
point_there l points k d are inside =
    let here : k < length points = let e = lamp_count l points are in omega (arith, e, inside) in
    sym (get_or-map at_of points k d d.at here) ∙ ap (λ (ps : List Point). slice_index_or ps k d.at) are ∙ lamp_point_at l k d.at inside

-- the share of the point of number k
pub share_at : (photos : List Table) (room : Room) (p : Place) (face : Face) (l : Lamp) (points : List Vantage) (k : ℕ) (d : Vantage) (t : Ends)
    → map at_of points ≡ lamp_points l → k < part_count l
    → IsShare photos l (place_of (slice_index_or points k d).at) p face (is_clear room (place_of (slice_index_or points k d).at) p) t
    → IsShare photos l (lamp_place l k) p face (is_clear room (lamp_place l k) p) t
share_at photos room p face l points k d t are inside h =
    let P : Place → Type 0 = λ z. IsShare photos l z p face (is_clear room z p) t in
    subst P (ap (λ (z : Point). place_of z) (point_there l points k d are inside)) h

pub lamp_bounds : (photos : List Table) (room : Room) (l : Lamp) → IsLampIn room.size (length room.files) l → length photos ≡ length room.files → AreKept photos
    → most_light (ticks_of photos l) (part_count l) ≤ 2 ^ 82
lamp_bounds photos room l is count kept =
    let parts = parts_of room.size (length room.files) l is in
    let shine : IsShine (length photos) l.shine = rw count is.shine in
    lamp_most (ticks_of photos l) (part_count l) (ticks_most photos l shine kept) (parts.1)

-- ---- the lamps of a room

-- the light of the first `count` lamps of a room, whose points give their shares
abbrev light_of_first : (Lamp → Place → Place → Face → Bool → Interval) → ℕ → Room → Place → Face → Interval
light_of_first share count room p face = sum_of count (λ k. light_of_lamp share room p face (slice_index_or room.lamps k no_lamp))

-- a span is that light
pub record IsLightOfFirst (photos : List Table) (room : Room) (p : Place) (face : Face) (count : ℕ) (s : Ends) : Type 0 where
  pub meets : (tables : List Table) → AreTablesOf photos tables → (n : ℕ) → Meets (of_span s) (light_of_first (share n tables) count room p face)
  pub near : (tables : List Table) → AreTablesOf photos tables → (n : ℕ) → LiesIn (of_span s) (light_of_first (loose_share n tables) count room p face)
  pub low : pos 0 ≤ℤ s.lo
  pub most : natural s.hi ≤ sum_by (ticks_of photos) (take count room.lamps) * 4000000 + count * 4000128
  pub fits : natural s.hi ≤ count * 2 ^ 82

pub no_lights : (photos : List Table) (room : Room) (p : Place) (face : Face) (s : Ends) → s.lo ≡ pos 0 → s.hi ≡ pos 0 → IsLightOfFirst photos room p face 0 s
no_lights photos room p face s low high = record {
  meets = λ tables are n. none_meets (λ k. lamp_light n tables room p face (slice_index_or room.lamps k no_lamp)) s low high;
  near = λ tables are n. none_near (λ k. loose_lamp_light n tables room p face (slice_index_or room.lamps k no_lamp)) s low high;
  low = rw low (omega (arith, ints));
  most = rw high (omega arith);
  fits = rw high (omega arith);
}

more_most : (b d x c y k parts : ℕ) → b ≤ x * 4000000 + k * 4000128 → d ≤ most_light c parts → parts ≤ 64 → y ≡ x + c → b + d ≤ y * 4000000 + suc k * 4000128
more_most b d x c y k parts f g few e = rw e (omega (arith, f, g, few))

more_ticks : (photos : List Table) (lamps : List Lamp) (k j : ℕ) → j ≡ k + 1 → k < length lamps
    → sum_by (ticks_of photos) (take j lamps) ≡ sum_by (ticks_of photos) (take k lamps) + ticks_of photos (slice_index_or lamps k no_lamp)
more_ticks photos lamps k j e inside = rw e (sum_by_more (ticks_of photos) lamps k no_lamp inside)

pub one_more_light : (photos : List Table) (room : Room) (p : Place) (face : Face) (s t r : Ends) (k j : ℕ) → j ≡ suc k → k < length room.lamps
    → part_count (slice_index_or room.lamps k no_lamp) ≤ 64 → IsLightOfFirst photos room p face k s
    → IsLampLight photos room p face (slice_index_or room.lamps k no_lamp) t → natural t.hi ≤ 2 ^ 82
    → r.lo ≡ pos (natural s.lo + natural t.lo) → r.hi ≡ pos (natural s.hi + natural t.hi) → IsLightOfFirst photos room p face j r
one_more_light photos room p face s t r k j e inside parts so_far lamp fits low high =
    let both : IsTogether s t r = record { low = low; high = high } in
    let l = slice_index_or room.lamps k no_lamp in
    rw e (record {
      meets = λ tables are n. more_meets (λ k. lamp_light n tables room p face (slice_index_or room.lamps k no_lamp)) k s t r both (so_far.meets tables are n) (lamp.meets tables are n);
      near = λ tables are n. more_near (λ k. loose_lamp_light n tables room p face (slice_index_or room.lamps k no_lamp)) k s t r both (so_far.near tables are n) (lamp.near tables are n);
      low = rw low (omega (arith, ints));
      most = rw high (more_most (natural s.hi) (natural t.hi) (sum_by (ticks_of photos) (take k room.lamps)) (ticks_of photos l)
          (sum_by (ticks_of photos) (take (suc k) room.lamps)) k (part_count l) so_far.most lamp.most parts (more_ticks photos room.lamps k (suc k) (omega arith) inside));
      fits = rw high (let h = so_far.fits in omega (arith, h, fits));
    })

-- ---- all lamps

pub whole_direct : (photos : List Table) (room : Room) (p : Place) (face : Face) (count : ℕ) (s : Ends) → count ≡ length room.lamps → IsLightOfFirst photos room p face count s
    → IsDirectFor photos room p face s
whole_direct photos room p face count s e so_far =
    let m = so_far.meets in
    let n = so_far.near in
    let all_meet : (tables : List Table) → AreTablesOf photos tables → (n : ℕ) → Meets (of_span s) (light_of_first (share n tables) (length room.lamps) room p face) = rw e at m in
    let all_near : (tables : List Table) → AreTablesOf photos tables → (n : ℕ) → LiesIn (of_span s) (light_of_first (loose_share n tables) (length room.lamps) room p face) = rw e at n in
    λ tables are. record { meets = all_meet tables are; near = all_near tables are }

total_most : (x h k : ℕ) → x ≤ greatest_total → k ≤ 256 → h ≤ x * 4000000 + k * 4000128 → h ≤ 2 ^ 82
total_most x h k d few f = omega (arith, d, few, f)

in_ticks : (z : ℤ) (m : ℕ) → natural z ≤ m → z ≤ℤ pos m
in_ticks (pos n) m h = omega (arith, ints, h)
in_ticks (negsuc n) m h = omega (arith, ints)

pub whole_light : (photos : List Table) (room : Room) (p : Place) (face : Face) (count : ℕ) (s : Ends) → count ≡ length room.lamps → length room.lamps ≤ 256
    → total_ticks photos room ≤ greatest_total → s.lo ≤ℤ s.hi → IsLightOfFirst photos room p face count s → IsDirectLight s
whole_light photos room p face count s e few dim order so_far =
    let h = so_far.most in
    record {
      low = so_far.low;
      in_order = order;
      most = in_ticks s.hi (2 ^ 82) (total_most (total_ticks photos room) (natural s.hi) count dim (omega (arith, e, few))
          (rw (take_all count room.lamps (omega (arith, e))) at h));
    }
