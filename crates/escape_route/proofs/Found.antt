-- The least and the greatest light of the points so far.
use Rattle.std.proofs.Common.{ℕ, suc, ◌+◌, ◌-◌, ◌<◌, ◌≤◌, ◌≡◌, min, max, List, length, arith, subst}
use Rattle.std.specs.Prelude.{slice_index_or}
use Rattle.std.proofs.lemmas.List.{get_or_default}
use Rattle.fx_base.specs.Ends.{Ends}
use Rattle.fx_base.specs.Interval.{Interval}
use Rattle.fx_base.specs.Units.{natural}
use Rattle.room_layout.specs.Place.{place_of}
use Rattle.room_layout.specs.declared.geometry.Point.{Point}
use Rattle.room_layout.specs.declared.room.Room.{Room}
use Rattle.photo_table.specs.Table.{Table}
use Rattle.escape_route.specs.Extremes.{greatest, greatest_of, least, least_of}
use Rattle.escape_route.specs.Found.{AreExtremes, IsFound, IsMarkedLight}
use Rattle.escape_route.specs.Light.{loose_value_at, value_at}
use Rattle.escape_route.specs.Ratios.{IsLight}
use Rattle.escape_route.specs.Routes.{no_point}
use Rattle.escape_route.proofs.OuterEnds.{greatest_above, greatest_below, least_above, least_below}

-- ---- of intervals

-- the interval of each number at a depth, by the exact tables
abbrev pub Intervals : Type 0
Intervals = ℕ → List Table → ℕ → Interval

-- a span is that of number k
abbrev pub IsFoundAt : List Table → Intervals → Intervals → ℕ → Ends → Type 0
IsFoundAt photos exact loose k d = IsFound photos (λ n tables. exact n tables k) (λ n tables. loose n tables k) d

-- it is the least of those up to number m
abbrev pub IsLeastTo : List Table → Intervals → Intervals → ℕ → Ends → Type 0
IsLeastTo photos exact loose m d = IsFound photos (λ n tables. least m (exact n tables)) (λ n tables. least m (loose n tables)) d

-- and the greatest
abbrev pub IsGreatestTo : List Table → Intervals → Intervals → ℕ → Ends → Type 0
IsGreatestTo photos exact loose m d = IsFound photos (λ n tables. greatest m (exact n tables)) (λ n tables. greatest m (loose n tables)) d

least_start : (photos : List Table) (exact loose : Intervals) (d : Ends) → IsFoundAt photos exact loose 0 d → IsLeastTo photos exact loose 0 d
unfolding least_of
least_start photos exact loose d h = record { meets = λ tables are n. h.meets tables are n; near = λ tables are n. h.near tables are n }

greatest_start : (photos : List Table) (exact loose : Intervals) (d : Ends) → IsFoundAt photos exact loose 0 d → IsGreatestTo photos exact loose 0 d
unfolding greatest_of
greatest_start photos exact loose d h = record { meets = λ tables are n. h.meets tables are n; near = λ tables are n. h.near tables are n }

least_more : (photos : List Table) (exact loose : Intervals) (m : ℕ) (a b r : Ends) → natural r.lo ≡ min (natural a.lo) (natural b.lo) → natural r.hi ≡ min (natural a.hi) (natural b.hi)
    → IsLeastTo photos exact loose m a → IsFoundAt photos exact loose (suc m) b → IsLeastTo photos exact loose (suc m) r
unfolding least_of
least_more photos exact loose m a b r low high g h = record {
  meets = λ tables are n. let x = g.meets tables are n in let y = h.meets tables are n in rw (low, high) (record {
    above = least_below (natural a.lo) (natural b.lo) (least m (exact n tables)).hi (exact n tables (suc m)).hi x.above y.above;
    below = least_above (natural a.hi) (natural b.hi) (least m (exact n tables)).lo (exact n tables (suc m)).lo x.below y.below;
  });
  near = λ tables are n. let x = g.near tables are n in let y = h.near tables are n in rw (low, high) (record {
    lower = least_above (natural a.lo) (natural b.lo) (least m (loose n tables)).lo (loose n tables (suc m)).lo x.lower y.lower;
    upper = least_below (natural a.hi) (natural b.hi) (least m (loose n tables)).hi (loose n tables (suc m)).hi x.upper y.upper;
  });
}

greatest_more : (photos : List Table) (exact loose : Intervals) (m : ℕ) (a b r : Ends) → natural r.lo ≡ max (natural a.lo) (natural b.lo) → natural r.hi ≡ max (natural a.hi) (natural b.hi)
    → IsGreatestTo photos exact loose m a → IsFoundAt photos exact loose (suc m) b → IsGreatestTo photos exact loose (suc m) r
unfolding greatest_of
greatest_more photos exact loose m a b r low high g h = record {
  meets = λ tables are n. let x = g.meets tables are n in let y = h.meets tables are n in rw (low, high) (record {
    above = greatest_below (natural a.lo) (natural b.lo) (greatest m (exact n tables)).hi (exact n tables (suc m)).hi x.above y.above;
    below = greatest_above (natural a.hi) (natural b.hi) (greatest m (exact n tables)).lo (exact n tables (suc m)).lo x.below y.below;
  });
  near = λ tables are n. let x = g.near tables are n in let y = h.near tables are n in rw (low, high) (record {
    lower = greatest_above (natural a.lo) (natural b.lo) (greatest m (loose n tables)).lo (loose n tables (suc m)).lo x.lower y.lower;
    upper = greatest_below (natural a.hi) (natural b.hi) (greatest m (loose n tables)).hi (loose n tables (suc m)).hi x.upper y.upper;
  });
}

-- ---- of the points of a route

abbrev values : Room → List ℕ → List Point → Intervals
values room marked points n tables k = value_at n tables room marked points k

abbrev loose_values : Room → List ℕ → List Point → Intervals
loose_values room marked points n tables k = loose_value_at n tables room marked points k

-- two spans are the least and the greatest of the first points
pub record AreSoFar (photos : List Table) (room : Room) (marked : List ℕ) (points : List Point) (count : ℕ) (least greatest : Ends) : Type 0 where
  pub some : 1 ≤ count
  pub least_is : IsLeastTo photos (values room marked points) (loose_values room marked points) (count - 1) least
  pub greatest_is : IsGreatestTo photos (values room marked points) (loose_values room marked points) (count - 1) greatest
  pub least_light : IsLight least
  pub greatest_light : IsLight greatest

-- the light at the point of that number
value_there : (photos : List Table) (room : Room) (marked : List ℕ) (points : List Point) (k : ℕ) (q : Point) (d : Ends) → k < length points
    → IsMarkedLight photos room marked (place_of (slice_index_or points k q)) d → IsFoundAt photos (values room marked points) (loose_values room marked points) k d
value_there photos room marked points k q d inside h =
    let there : slice_index_or points k q ≡ slice_index_or points k no_point = get_or_default points k q no_point inside in
    let P : Point → Type 0 = λ z. IsMarkedLight photos room marked (place_of z) d in
    (subst P there h).found

pub first_point : (photos : List Table) (room : Room) (marked : List ℕ) (points : List Point) (q : Point) (d : Ends) → 0 < length points
    → IsMarkedLight photos room marked (place_of (slice_index_or points 0 q)) d → AreSoFar photos room marked points 1 d d
first_point photos room marked points q d some h =
    let there = value_there photos room marked points 0 q d some h in
    record {
      some = omega arith;
      least_is = least_start photos (values room marked points) (loose_values room marked points) d there;
      greatest_is = greatest_start photos (values room marked points) (loose_values room marked points) d there;
      least_light = h.light;
      greatest_light = h.light;
    }

pub one_more_value : (photos : List Table) (room : Room) (marked : List ℕ) (points : List Point) (k : ℕ) (q : Point) (l g d least greatest : Ends)
    → AreSoFar photos room marked points k l g → k < length points → IsMarkedLight photos room marked (place_of (slice_index_or points k q)) d
    → natural least.lo ≡ min (natural l.lo) (natural d.lo) → natural least.hi ≡ min (natural l.hi) (natural d.hi) → IsLight least
    → natural greatest.lo ≡ max (natural g.lo) (natural d.lo) → natural greatest.hi ≡ max (natural g.hi) (natural d.hi) → IsLight greatest
    → AreSoFar photos room marked points (k + 1) least greatest
one_more_value photos room marked points k q l g d least greatest h inside light least_low least_high least_light greatest_low greatest_high greatest_light =
    let f = values room marked points in
    let loose = loose_values room marked points in
    let some = h.some in
    let e : suc (k - 1) ≡ k + 1 - 1 = omega (arith, some) in
    let here : k ≡ suc (k - 1) = omega (arith, some) in
    let there : IsFoundAt photos f loose (suc (k - 1)) d = subst (λ z. IsFoundAt photos f loose z d) here (value_there photos room marked points k q d inside light) in
    record {
      some = omega arith;
      least_is = subst (λ z. IsLeastTo photos f loose z least) e (least_more photos f loose (k - 1) l d least least_low least_high h.least_is there);
      greatest_is = subst (λ z. IsGreatestTo photos f loose z greatest) e (greatest_more photos f loose (k - 1) g d greatest greatest_low greatest_high h.greatest_is there);
      least_light = least_light;
      greatest_light = greatest_light;
    }

pub all_values : (photos : List Table) (room : Room) (marked : List ℕ) (points : List Point) (count : ℕ) (l g : Ends) → count ≡ length points
    → AreSoFar photos room marked points count l g → AreExtremes photos room marked points (record { least = l; greatest = g })
all_values photos room marked points count l g e h =
    let P : ℕ → Type 0 = λ z. AreSoFar photos room marked points z l g in
    let all : AreSoFar photos room marked points (length points) l g = subst P e h in
    record { least_found = all.least_is; greatest_found = all.greatest_is }
