-- The light of a lamp as the program finds it: its shares, and their sum.
use Rattle.std.proofs.Common.{ℕ, suc, ◌+◌, ◌*◌, ◌^◌, ◌<◌, ◌≤◌, ◌≡◌, ℤ, pos, ◌≤ℤ◌, Bool, List, length, inl, arith}
use Rattle.std.proofs.lemmas.Int.{ints}
use Rattle.std.proofs.Math.Nat.{mul-le-mul, le_of_mul-le-mul_left}
use Rattle.fx_base.specs.Ends.{Ends}
use Rattle.fx_base.specs.Fraction.{half_power, sum_to, whole}
use Rattle.fx_base.specs.Interval.{Interval, LiesIn, Meets, exact, outward, sum_of}
use Rattle.fx_base.specs.Units.{natural, of_span}
use Rattle.fx_base.proofs.Order.{le_trans_f, add_le_f}
use Rattle.fx_base.proofs.Sums.{no_ticks, ticks_join, ticks_split}
use Rattle.room_layout.specs.Accepted.{IsLampIn}
use Rattle.room_layout.specs.Place.{Place}
use Rattle.room_layout.specs.declared.geometry.Face.{Face}
use Rattle.room_layout.specs.declared.geometry.Size.{Size}
use Rattle.room_layout.specs.declared.room.Lamp.{Lamp}
use Rattle.room_layout.specs.declared.room.Room.{Room}
use Rattle.room_layout.specs.declared.room.Shine.TheVariants.{Even, File}
use Rattle.photo_table.specs.Laws.{StandsFor}
use Rattle.photo_table.specs.Table.{Table}
use Rattle.photo_table.proofs.Exactly.{rounded_stands}
use Rattle.sight_line.specs.Sight.{is_clear}
use Rattle.direct_light.specs.Directions.{loose_seen, seen}
use Rattle.direct_light.specs.Found.{greatest_intensity, most_light, IsLampLight, IsShare}
use Rattle.direct_light.specs.Lamps.{lamp_place, part_count}
use Rattle.direct_light.specs.Shares.{intensity, loose_intensity, loose_share, loosened, share, share_of, table_at}
use Rattle.direct_light.specs.Tables.{AreTablesOf}
use Rattle.direct_light.specs.Ways.{IsDark}
use Rattle.direct_light.proofs.Shown.{dark_meets, dark_near}

-- ---- a share

-- `kept` is the table of the lamp's file
pub file_share : (photos : List Table) (greatest : ℕ) (l : Lamp) (q p : Place) (face : Face) (clear : Bool) (k : ℕ) (kept : Table) (d : Ends) → l.shine ≡ File k → k < length photos
    → kept ≡ table_at photos k
    → ((t : Table) → StandsFor kept t → (n : ℕ) → Meets (of_span d) (share_of n (seen n t l q p) l q p face clear))
    → ((t : Table) → StandsFor kept t → (n : ℕ) → LiesIn (of_span d) (loosened (share_of n (loose_seen n t l q p) l q p face clear)))
    → pos 0 ≤ℤ d.lo → natural d.hi * part_count l ≤ most_light greatest (part_count l) → IsShare photos greatest l q p face clear d
unfolding share_of
file_share photos greatest l q p face clear k kept d e inside same meets near low most =
    let stands : (tables : List Table) → AreTablesOf photos tables → StandsFor kept (table_at tables k) =
    λ tables are. rw same (rounded_stands (table_at photos k) (table_at tables k) (are.each k inside)) in
    record {
      meets = λ tables are n. rw e (meets (table_at tables k) (stands tables are) n);
      near = λ tables are n. rw e (near (table_at tables k) (stands tables are) n);
      low = low;
      most = most;
    }

pub even_share : (photos : List Table) (greatest : ℕ) (l : Lamp) (q p : Place) (face : Face) (clear : Bool) (candela : ℕ) (d : Ends) → l.shine ≡ Even candela
    → ((n : ℕ) → Meets (of_span d) (share_of n (exact (whole candela)) l q p face clear))
    → ((n : ℕ) → LiesIn (of_span d) (loosened (share_of n (outward (half_power 30) (exact (whole candela))) l q p face clear)))
    → pos 0 ≤ℤ d.lo → natural d.hi * part_count l ≤ most_light greatest (part_count l) → IsShare photos greatest l q p face clear d
unfolding share_of
even_share photos greatest l q p face clear candela d e meets near low most = record {
  meets = λ tables are n. rw e (meets n);
  near = λ tables are n. rw e (near n);
  low = low;
  most = most;
}

-- what an even lamp of so many candela gives is within the most of a lamp that shines with more
pub even_most : (x candela greatest parts : ℕ) → candela * 68719476736 ≤ greatest → x ≤ candela * 68719476736 * 4000000 + 2 * parts → x ≤ most_light greatest parts
even_most x candela greatest parts dim h = omega (arith, dim, h)

-- a span of no ticks, where the plane has nothing of the point
pub dark_share : (photos : List Table) (greatest : ℕ) (l : Lamp) (q p : Place) (face : Face) (clear : Bool) (d : Ends) → IsDark q p face clear → d.lo ≡ pos 0 → d.hi ≡ pos 0
    → IsShare photos greatest l q p face clear d
dark_share photos greatest l q p face clear d none low high = record {
  meets = λ tables are n. dark_meets n (intensity n tables l q p) d l q p face clear none low high;
  near = λ tables are n. dark_near n (loose_intensity n tables l q p) d l q p face clear none low high;
  low = rw low (omega (arith, ints));
  most = rw high (omega arith);
}

-- ---- sums of spans

pub none_meets : (f : ℕ → Interval) (s : Ends) → s.lo ≡ pos 0 → s.hi ≡ pos 0 → Meets (of_span s) (sum_of 0 f)
unfolding sum_to
none_meets f s low high = rw (low, high) (record { above = no_ticks.0; below = no_ticks.1 })

pub none_near : (f : ℕ → Interval) (s : Ends) → s.lo ≡ pos 0 → s.hi ≡ pos 0 → LiesIn (of_span s) (sum_of 0 f)
unfolding sum_to
none_near f s low high = rw (low, high) (record { lower = no_ticks.1; upper = no_ticks.0 })

-- a span is two others together
pub record IsTogether (s t r : Ends) : Type 0 where
  pub low : r.lo ≡ pos (natural s.lo + natural t.lo)
  pub high : r.hi ≡ pos (natural s.hi + natural t.hi)

pub more_meets : (f : ℕ → Interval) (k : ℕ) (s t r : Ends) → IsTogether s t r → Meets (of_span s) (sum_of k f) → Meets (of_span t) (f k) → Meets (of_span r) (sum_of (suc k) f)
unfolding sum_to
more_meets f k s t r is g h = rw (is.low, is.high) (record {
  above = le_trans_f (ticks_split (natural s.lo) (natural t.lo)) (add_le_f g.above h.above);
  below = le_trans_f (add_le_f g.below h.below) (ticks_join (natural s.hi) (natural t.hi));
})

pub more_near : (f : ℕ → Interval) (k : ℕ) (s t r : Ends) → IsTogether s t r → LiesIn (of_span s) (sum_of k f) → LiesIn (of_span t) (f k) → LiesIn (of_span r) (sum_of (suc k) f)
unfolding sum_to
more_near f k s t r is g h = rw (is.low, is.high) (record {
  lower = le_trans_f (add_le_f g.lower h.lower) (ticks_join (natural s.lo) (natural t.lo));
  upper = le_trans_f (ticks_split (natural s.hi) (natural t.hi)) (add_le_f g.upper h.upper);
})

-- ---- the points of a lamp

-- how many parts a lamp of a room has
pub parts_of : (size : Size) (files : ℕ) (l : Lamp) → IsLampIn size files l → (1 ≤ part_count l) × (part_count l ≤ 64)
parts_of size files l is =
    let x = is.split_x in
    let y = is.split_y in
    let low : 1 * 1 ≤ l.split_x * l.split_y = mul-le-mul (x.0) (y.0) in
    let high : l.split_x * l.split_y ≤ 8 * 8 = mul-le-mul (x.1) (y.1) in
    (low, high)

-- what a lamp within the limit gives is at most 2^82 ticks
pub lamp_most : (greatest parts : ℕ) → greatest ≤ greatest_intensity → parts ≤ 64 → most_light greatest parts ≤ 2 ^ 82
lamp_most greatest parts dim few = omega (arith, dim, few)

pub share_most : (hi parts m : ℕ) → 1 ≤ parts → hi * parts ≤ m → hi ≤ m
share_most hi parts m some h = let g : hi * 1 ≤ hi * parts = mul-le-mul {n₁ = hi} {m₁ = 1} {n₂ = hi} {m₂ = parts} (omega arith) some in omega (arith, g, h)

-- the light of the first `count` points of a lamp, each of which gives its share
abbrev light_of_points : (Lamp → Place → Place → Face → Bool → Interval) → ℕ → Room → Place → Face → Lamp → Interval
light_of_points share count room p face l = sum_of count (λ k. share l (lamp_place l k) p face (is_clear room (lamp_place l k) p))

-- a span is that light
pub record IsLightOfPoints (photos : List Table) (greatest : ℕ) (room : Room) (p : Place) (face : Face) (l : Lamp) (count : ℕ) (s : Ends) : Type 0 where
  pub meets : (tables : List Table) → AreTablesOf photos tables → (n : ℕ) → Meets (of_span s) (light_of_points (share n tables) count room p face l)
  pub near : (tables : List Table) → AreTablesOf photos tables → (n : ℕ) → LiesIn (of_span s) (light_of_points (loose_share n tables) count room p face l)
  pub low : pos 0 ≤ℤ s.lo
  pub most : natural s.hi * part_count l ≤ count * most_light greatest (part_count l)
  pub fits : natural s.hi ≤ count * 2 ^ 82

pub no_points : (photos : List Table) (greatest : ℕ) (room : Room) (p : Place) (face : Face) (l : Lamp) (s : Ends) → s.lo ≡ pos 0 → s.hi ≡ pos 0
    → IsLightOfPoints photos greatest room p face l 0 s
no_points photos greatest room p face l s low high = record {
  meets = λ tables are n. none_meets (λ k. share n tables l (lamp_place l k) p face (is_clear room (lamp_place l k) p)) s low high;
  near = λ tables are n. none_near (λ k. loose_share n tables l (lamp_place l k) p face (is_clear room (lamp_place l k) p)) s low high;
  low = rw low (omega (arith, ints));
  most = rw high (omega arith);
  fits = rw high (omega arith);
}

-- the sum of the points so far and of one more has room
pub points_fit : (photos : List Table) (greatest : ℕ) (room : Room) (p : Place) (face : Face) (l : Lamp) (k : ℕ) (s : Ends) → part_count l ≤ 64 → k < part_count l
    → IsLightOfPoints photos greatest room p face l k s → natural s.hi ≤ 2 ^ 100
points_fit photos greatest room p face l k s few inside h = let fits = h.fits in omega (arith, fits, few, inside)

more_parts : (a b parts k m : ℕ) → a * parts ≤ k * m → b * parts ≤ m → (a + b) * parts ≤ suc k * m
more_parts a b parts k m g h = omega (arith, g, h)

pub one_more_point : (photos : List Table) (greatest : ℕ) (room : Room) (p : Place) (face : Face) (l : Lamp) (s t r : Ends) (k j : ℕ) → j ≡ suc k → 1 ≤ part_count l
    → most_light greatest (part_count l) ≤ 2 ^ 82 → IsLightOfPoints photos greatest room p face l k s
    → IsShare photos greatest l (lamp_place l k) p face (is_clear room (lamp_place l k) p) t
    → r.lo ≡ pos (natural s.lo + natural t.lo) → r.hi ≡ pos (natural s.hi + natural t.hi) → IsLightOfPoints photos greatest room p face l j r
one_more_point photos greatest room p face l s t r k j e some dim so_far is low high =
    let both : IsTogether s t r = record { low = low; high = high } in
    let one : natural t.hi ≤ most_light greatest (part_count l) = share_most (natural t.hi) (part_count l) (most_light greatest (part_count l)) some is.most in
    rw e (record {
      meets = λ tables are n. more_meets (λ k. share n tables l (lamp_place l k) p face (is_clear room (lamp_place l k) p)) k s t r both (so_far.meets tables are n) (is.meets tables are n);
      near = λ tables are n. more_near (λ k. loose_share n tables l (lamp_place l k) p face (is_clear room (lamp_place l k) p)) k s t r both (so_far.near tables are n) (is.near tables are n);
      low = rw low (omega (arith, ints));
      most = rw high (more_parts (natural s.hi) (natural t.hi) (part_count l) k (most_light greatest (part_count l)) so_far.most is.most);
      fits = rw high (let h = so_far.fits in omega (arith, h, one, dim));
    })

parts_cancel : (hi parts m : ℕ) → 1 ≤ parts → hi * parts ≤ parts * m → hi ≤ m
parts_cancel hi parts m some h = le_of_mul-le-mul_left {k = parts} (omega (arith, h)) some

pub all_points : (photos : List Table) (greatest : ℕ) (room : Room) (p : Place) (face : Face) (l : Lamp) (count : ℕ) (s : Ends) → count ≡ part_count l → 1 ≤ part_count l
    → IsLightOfPoints photos greatest room p face l count s → IsLampLight photos greatest room p face l s
all_points photos greatest room p face l count s e some h =
    let m = h.meets in
    let n = h.near in
    let most = h.most in
    record {
      meets = rw e at m;
      near = rw e at n;
      low = h.low;
      most = parts_cancel (natural s.hi) (part_count l) (most_light greatest (part_count l)) some (rw e at most);
    }
