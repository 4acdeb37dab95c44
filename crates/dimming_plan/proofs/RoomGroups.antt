-- The averages of the groups of a room, found one after the other, against the exact and the loose ones at a depth.
use Rattle.std.proofs.Common.{ℕ, zero, suc, ◌+◌, ◌<◌, ◌≤◌, ◌≡◌, Bool, true, false, List, [], ◌∷◌, arith, refl, sym, subst, ap, inl, inr}
use Rattle.std.specs.Prelude.{slice_index, IfNone, IfSome, MatchOption, Option, None, Some}
use Rattle.std.proofs.lemmas.Bool.{cases_Bool}
use Rattle.fx_base.specs.Fraction.{Fraction, ◌≤ᶠ◌, ◌+ᶠ◌, ◌-ᶠ◌, ratio, whole}
use Rattle.fx_base.specs.Interval.{InOrder, Interval, Meets, LiesIn, exact, outward}
use Rattle.fx_base.specs.Units.{natural, of_span, ticks}
use Rattle.fx_base.proofs.Order.{le_trans_f, sub_back_f, zero_le_f, le_refl_f, le_add_f}
use Rattle.fx_base.proofs.Sums.{no_ticks}
use Rattle.interval_system.specs.Radiosity.{Light, IsLightOf, values}
use Rattle.interval_system.specs.Values.{average}
use Rattle.photo_table.specs.Table.{Table}
use Rattle.room_layout.specs.declared.room.Room.{Room}
use Rattle.scene_system.specs.Scene.{radiosity, loose_radiosity}
use Rattle.dimming_plan.specs.Bracket.{AreAverages, IsBracket, PlansAreABracket}
use Rattle.dimming_plan.specs.Dimming.{group_powers, group_room, has_lamp, AreAveragesOf, AreLeast, IsAverageIn, IsAverageOf, IsDimmed}
use Rattle.dimming_plan.specs.GroupAverages.{IsGroupAverage}
use Rattle.dimming_plan.specs.OneGroup.{IsGroupOf}
use Rattle.dimming_plan.specs.Steps.{high_light, low_light, watts_of, IsLeastPlan, NoPlan}
use Rattle.dimming_plan.specs.declared.entry.PlanLamp.{PlanLamp}
use Rattle.dimming_plan.specs.declared.power.Found.{Found}
use Rattle.dimming_plan.specs.declared.power.Group.{Group}
use Rattle.dimming_plan.specs.declared.power.PowerBracket.{PowerBracket}
use Rattle.dimming_plan.proofs.PlanLight.{plans_are_a_bracket}

-- what the ends of a group's average in ticks are to the exact average i and to the loose one j
record Encloses (low high : ℕ) (i j : Interval) : Type 0 where
  above : ticks low ≤ᶠ i.hi
  below : i.lo ≤ᶠ ticks high
  near_low : j.lo ≤ᶠ (ticks low +ᶠ ratio 1 10000)
  near_high : ticks high ≤ᶠ (j.hi +ᶠ ratio 1 10000)
  in_order : InOrder i
  loose_in_order : InOrder j

by_span : (tables : List Table) (room : Room) (group : Group) (n : ℕ) (i j : Interval) → 2 ≤ n → IsGroupAverage tables room group.average
    → IsAverageIn (radiosity n tables room) i → IsAverageIn (loose_radiosity n tables room) j
    → Encloses (natural group.average.lo) (natural group.average.hi) i j
by_span tables room group n i j deep g (light, solves, is) (dim, loosely, near) =
    let meets = subst (λ (x : Interval). Meets (of_span group.average) x) (sym is) (g.meets n deep light solves) in
    let lies = subst (λ (x : Interval). LiesIn (of_span group.average) (outward (ratio 1 10000) x)) (sym near) (g.near n deep dim loosely) in
    record {
      above = meets.above;
      below = meets.below;
      near_low = sub_back_f j.lo (ratio 1 10000) lies.lower;
      near_high = lies.upper;
      in_order = subst (λ (x : Interval). InOrder x) (sym is) (g.in_order n deep light solves);
      loose_in_order = subst (λ (x : Interval). InOrder x) (sym near) (g.loose_in_order n deep dim loosely);
    }

by_nothing : (low high : ℕ) (i j : Interval) → low ≡ 0 → high ≡ 0 → i ≡ exact (whole 0) → j ≡ exact (whole 0) → Encloses low high i j
by_nothing low high i j l h is near =
    rw (l, h, is, near) (record {
      above = no_ticks.0;
      below = no_ticks.1;
      near_low = zero_le_f (ticks 0 +ᶠ ratio 1 10000);
      near_high = le_trans_f no_ticks.0 (zero_le_f (whole 0 +ᶠ ratio 1 10000));
      in_order = le_refl_f (whole 0);
      loose_in_order = le_refl_f (whole 0);
    })

encloses : (tables : List Table) (room : Room) (plan : List PlanLamp) (g : ℕ) (group : Group) (n : ℕ) (i j : Interval) → 2 ≤ n → IsGroupOf tables room plan g group
    → IsAverageOf (radiosity n tables) room plan g i → IsAverageOf (loose_radiosity n tables) room plan g j
    → Encloses (natural group.average.lo) (natural group.average.hi) i j
encloses tables room plan g group n i j deep h exactly loosely = elim (cases_Bool (has_lamp plan g)) [
  | inl some ↦ by_span tables (group_room room plan g) group n i j deep (h.some some) (exactly.some some) (loosely.some some)
  | inr none ↦ by_nothing (natural group.average.lo) (natural group.average.hi) i j (ap natural (h.none none).0) (ap natural (h.none none).1) (exactly.none none) (loosely.none none)
]

-- ---- six groups

pub record AreGroupsOf (tables : List Table) (room : Room) (plan : List PlanLamp) (a b c d e f : Group) : Type 0 where
  pub first : IsGroupOf tables room plan 0 a
  pub second : IsGroupOf tables room plan 1 b
  pub third : IsGroupOf tables room plan 2 c
  pub fourth : IsGroupOf tables room plan 3 d
  pub fifth : IsGroupOf tables room plan 4 e
  pub sixth : IsGroupOf tables room plan 5 f

-- the groups by their numbers
group_at : (a b c d e f : Group) → ℕ → Group
group_at a b c d e f zero = a
group_at a b c d e f (suc zero) = b
group_at a b c d e f (suc (suc zero)) = c
group_at a b c d e f (suc (suc (suc zero))) = d
group_at a b c d e f (suc (suc (suc (suc zero)))) = e
group_at a b c d e f (suc (suc (suc (suc (suc g))))) = f

each_group : (tables : List Table) (room : Room) (plan : List PlanLamp) (a b c d e f : Group) → AreGroupsOf tables room plan a b c d e f → (g : ℕ) → g < 6
    → IsGroupOf tables room plan g (group_at a b c d e f g)
unfolding group_at
each_group tables room plan a b c d e f h zero few = h.first
each_group tables room plan a b c d e f h (suc zero) few = h.second
each_group tables room plan a b c d e f h (suc (suc zero)) few = h.third
each_group tables room plan a b c d e f h (suc (suc (suc zero))) few = h.fourth
each_group tables room plan a b c d e f h (suc (suc (suc (suc zero)))) few = h.fifth
each_group tables room plan a b c d e f h (suc (suc (suc (suc (suc zero))))) few = h.sixth
each_group tables room plan a b c d e f h (suc (suc (suc (suc (suc (suc g)))))) few = absurd (omega (few, arith))

abbrev all : (a b c d e f : Group) → List Group
all a b c d e f = a ∷ b ∷ c ∷ d ∷ e ∷ f ∷ []

low_at : (a b c d e f : Group) (g : ℕ) → g < 6 → slice_index (low_light (all a b c d e f)) g ≡ natural (group_at a b c d e f g).average.lo
unfolding group_at
low_at a b c d e f zero few = refl
low_at a b c d e f (suc zero) few = refl
low_at a b c d e f (suc (suc zero)) few = refl
low_at a b c d e f (suc (suc (suc zero))) few = refl
low_at a b c d e f (suc (suc (suc (suc zero)))) few = refl
low_at a b c d e f (suc (suc (suc (suc (suc zero))))) few = refl
low_at a b c d e f (suc (suc (suc (suc (suc (suc g)))))) few = absurd (omega (few, arith))

high_at : (a b c d e f : Group) (g : ℕ) → g < 6 → slice_index (high_light (all a b c d e f)) g ≡ natural (group_at a b c d e f g).average.hi
unfolding group_at
high_at a b c d e f zero few = refl
high_at a b c d e f (suc zero) few = refl
high_at a b c d e f (suc (suc zero)) few = refl
high_at a b c d e f (suc (suc (suc zero))) few = refl
high_at a b c d e f (suc (suc (suc (suc zero)))) few = refl
high_at a b c d e f (suc (suc (suc (suc (suc zero))))) few = refl
high_at a b c d e f (suc (suc (suc (suc (suc (suc g)))))) few = absurd (omega (few, arith))

each_encloses : (tables : List Table) (room : Room) (plan : List PlanLamp) (a b c d e f : Group) (n : ℕ) (exactly loosely : ℕ → Interval) → 2 ≤ n
    → AreGroupsOf tables room plan a b c d e f → AreAveragesOf (radiosity n tables) room plan exactly → AreAveragesOf (loose_radiosity n tables) room plan loosely
    → (g : ℕ) → g < 6 → Encloses (slice_index (low_light (all a b c d e f)) g) (slice_index (high_light (all a b c d e f)) g) (exactly g) (loosely g)
each_encloses tables room plan a b c d e f n exactly loosely deep h x y g few = rw (low_at a b c d e f g few, high_at a b c d e f g few)
    (encloses tables room plan g (group_at a b c d e f g) n (exactly g) (loosely g) deep (each_group tables room plan a b c d e f h g few) (x g few) (y g few))

are_averages : (low high : List ℕ) (exactly loosely : ℕ → Interval) → ((g : ℕ) → g < 6 → Encloses (slice_index low g) (slice_index high g) (exactly g) (loosely g))
    → AreAverages low high exactly loosely
are_averages low high exactly loosely each = record {
  above = λ g few. (each g few).above;
  below = λ g few. (each g few).below;
  near_low = λ g few. (each g few).near_low;
  near_high = λ g few. (each g few).near_high;
}

watts_are : (tables : List Table) (room : Room) (plan : List PlanLamp) (a b c d e f : Group) → AreGroupsOf tables room plan a b c d e f
    → watts_of (all a b c d e f) ≡ group_powers plan
watts_are tables room plan a b c d e f h = rw (h.first.watts, h.second.watts, h.third.watts, h.fourth.watts, h.fifth.watts, h.sixth.watts) refl

-- what is known with an answer and without one
pub either_found : (found : Option Found) (N : Type 0) (P : Found → Type 0) → IfNone found N → IfSome found P → MatchOption found N P
either_found None N P none some = none
either_found (Some f) N P none some = some

pub dimmed : (tables : List Table) (room : Room) (plan : List PlanLamp) (least : ℕ) (a b c d e f : Group) (found : PowerBracket) → AreGroupsOf tables room plan a b c d e f
    → MatchOption found.met (NoPlan (low_light (all a b c d e f)) least) (IsLeastPlan (low_light (all a b c d e f)) (watts_of (all a b c d e f)) least)
    → MatchOption found.possible (NoPlan (high_light (all a b c d e f)) least) (IsLeastPlan (high_light (all a b c d e f)) (watts_of (all a b c d e f)) least)
    → IsDimmed tables room plan least found
dimmed tables room plan least a b c d e f found h met possible =
    let low = low_light (all a b c d e f) in
    let high = high_light (all a b c d e f) in
    let each : (n : ℕ) → 2 ≤ n → (exactly loosely : ℕ → Interval) → AreAveragesOf (radiosity n tables) room plan exactly
    → AreAveragesOf (loose_radiosity n tables) room plan loosely → (g : ℕ) → g < 6 → Encloses (slice_index low g) (slice_index high g) (exactly g) (loosely g) =
    λ n deep exactly loosely x y g few. each_encloses tables room plan a b c d e f n exactly loosely deep h x y g few in
    let watts = watts_are tables room plan a b c d e f h in
    record {
      one_solution = λ n deep g few some. ((each_group tables room plan a b c d e f h g few).some some).rows n deep;
      one_loose_solution = λ n deep g few some. ((each_group tables room plan a b c d e f h g few).some some).loose_rows n deep;
      in_order = λ n deep exactly loosely x y g few. ((each n deep exactly loosely x y g few).in_order, (each n deep exactly loosely x y g few).loose_in_order);
      low = low;
      high = high;
      averages = λ n deep exactly loosely x y. are_averages low high exactly loosely (each n deep exactly loosely x y);
      plans = subst (λ (w : List ℕ). AreLeast w least low high found) watts (record { met = met; possible = possible });
      bracket = λ n deep exactly loosely x y. subst (λ (w : List ℕ). IsBracket w least found.met found.possible exactly loosely) watts
          (plans_are_a_bracket low high (watts_of (all a b c d e f)) least found.met found.possible exactly loosely
          (are_averages low high exactly loosely (each n deep exactly loosely x y)) met possible);
    }
