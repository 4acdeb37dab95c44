-- The light of marked lamps, one after the other.
use Rattle.std.proofs.Common.{ℕ, suc, ◌+◌, ◌*◌, ◌^◌, ◌≤◌, ◌≡◌, pos, ◌≤ℤ◌, Bool, List, length, arith}
use Rattle.std.proofs.lemmas.Int.{ints}
use Rattle.fx_base.specs.Ends.{Ends}
use Rattle.fx_base.specs.Interval.{Interval, LiesIn, Meets, sum_of}
use Rattle.fx_base.specs.Units.{natural, of_span}
use Rattle.room_layout.specs.Place.{Place}
use Rattle.room_layout.specs.declared.geometry.Face.{Face}
use Rattle.room_layout.specs.declared.geometry.Face.TheVariants.{Up}
use Rattle.room_layout.specs.declared.room.Lamp.{Lamp}
use Rattle.room_layout.specs.declared.room.Room.{Room}
use Rattle.photo_table.specs.Table.{Table}
use Rattle.direct_light.specs.Found.{greatest_intensity, IsLampLight}
use Rattle.direct_light.specs.LampLight.{lamp_light, light_of_lamp, loose_lamp_light}
use Rattle.direct_light.specs.Shares.{loose_share, share}
use Rattle.direct_light.specs.Tables.{AreTablesOf}
use Rattle.direct_light.proofs.Found.{more_meets, more_near, none_meets, none_near, IsTogether}
use Rattle.escape_route.specs.Found.{IsMarkedLight}
use Rattle.escape_route.specs.Light.{marked_lamp}

-- the light of the first `count` marked lamps, whose points give their shares
abbrev light_of_first : (Lamp → Place → Place → Face → Bool → Interval) → ℕ → Room → List ℕ → Place → Interval
light_of_first share count room marked p = sum_of count (λ i. light_of_lamp share room p Up (marked_lamp room marked i))

-- a span is that light
pub record IsLightOfFirst (photos : List Table) (room : Room) (marked : List ℕ) (p : Place) (count : ℕ) (s : Ends) : Type 0 where
  pub meets : (tables : List Table) → AreTablesOf photos tables → (n : ℕ) → Meets (of_span s) (light_of_first (share n tables) count room marked p)
  pub near : (tables : List Table) → AreTablesOf photos tables → (n : ℕ) → LiesIn (of_span s) (light_of_first (loose_share n tables) count room marked p)
  pub low : pos 0 ≤ℤ s.lo
  pub fits : natural s.hi ≤ count * 2 ^ 82

pub no_lights : (photos : List Table) (room : Room) (marked : List ℕ) (p : Place) (s : Ends) → s.lo ≡ pos 0 → s.hi ≡ pos 0 → IsLightOfFirst photos room marked p 0 s
no_lights photos room marked p s low high = record {
  meets = λ tables are n. none_meets (λ i. lamp_light n tables room p Up (marked_lamp room marked i)) s low high;
  near = λ tables are n. none_near (λ i. loose_lamp_light n tables room p Up (marked_lamp room marked i)) s low high;
  low = rw low (omega (arith, ints));
  fits = rw high (omega arith);
}

-- the sum of the lamps so far and of one more has room
pub lights_fit : (photos : List Table) (room : Room) (marked : List ℕ) (p : Place) (k : ℕ) (s : Ends) → k ≤ 16 → IsLightOfFirst photos room marked p k s → natural s.hi ≤ 2 ^ 90
lights_fit photos room marked p k s few h = let fits = h.fits in omega (arith, fits, few)

pub one_more_light : (photos : List Table) (room : Room) (marked : List ℕ) (p : Place) (s t r : Ends) (k j : ℕ) → j ≡ suc k → IsLightOfFirst photos room marked p k s
    → IsLampLight photos greatest_intensity room p Up (marked_lamp room marked k) t → natural t.hi ≤ 2 ^ 82
    → r.lo ≡ pos (natural s.lo + natural t.lo) → r.hi ≡ pos (natural s.hi + natural t.hi) → IsLightOfFirst photos room marked p j r
one_more_light photos room marked p s t r k j e so_far lamp one low high =
    let both : IsTogether s t r = record { low = low; high = high } in
    rw e (record {
      meets = λ tables are n. more_meets (λ i. lamp_light n tables room p Up (marked_lamp room marked i)) k s t r both (so_far.meets tables are n) (lamp.meets tables are n);
      near = λ tables are n. more_near (λ i. loose_lamp_light n tables room p Up (marked_lamp room marked i)) k s t r both (so_far.near tables are n) (lamp.near tables are n);
      low = rw low (omega (arith, ints));
      fits = rw high (let h = so_far.fits in omega (arith, h, one));
    })

pub all_lights : (photos : List Table) (room : Room) (marked : List ℕ) (p : Place) (count : ℕ) (s : Ends) → count ≡ length marked → length marked ≤ 16 → s.lo ≤ℤ s.hi
    → IsLightOfFirst photos room marked p count s → IsMarkedLight photos room marked p s
all_lights photos room marked p count s e few order h =
    let m = h.meets in
    let n = h.near in
    record {
      found = record { meets = rw e at m; near = rw e at n };
      light = record { low = h.low; in_order = order; high = lights_fit photos room marked p count s (omega (arith, e, few)) h };
    }
