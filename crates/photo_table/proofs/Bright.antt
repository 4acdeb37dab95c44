-- How high a hull reaches, and what a span that rounds it holds.
use Rattle.std.proofs.Common.{ℕ, ◌+◌, ◌-◌, ◌*◌, ◌%◌, ◌<◌, ◌≤◌, ◌≡◌, List, length, slice_index_or, inl, inr, arith, refl, pos}
use Rattle.std.proofs.lemmas.Bool.{cases_lt}
use Rattle.std.proofs.lemmas.List.{get_or-map}
use Rattle.std.proofs.Math.ListN.{length-map, get_or-eq_default}
use Rattle.fx_base.specs.Fraction.{Fraction, ◌≤ᶠ◌, whole, lesser, greater}
use Rattle.fx_base.specs.Interval.{Interval, exact, LiesIn}
use Rattle.fx_base.specs.Ends.{Ends}
use Rattle.fx_base.specs.Units.{natural, ticks, millionths, of_span, micros_between}
use Rattle.fx_base.specs.declared.Micro.{Micro}
use Rattle.fx_base.proofs.Order.{le_trans_f, zero_le_f}
use Rattle.fx_base.proofs.Sums.{ticks_le, ticks_back}
use Rattle.photo_table.specs.Angles.{turn_later}
use Rattle.photo_table.specs.Table.{Table, IsTable, plane, value, upper, lower}
use Rattle.photo_table.specs.Hull.{plane_extreme, hull}
use Rattle.photo_table.specs.Kept.{IsKept, IsGreatest, Rounds, table_of}
use Rattle.photo_table.proofs.Between.{millionths_le}
use Rattle.photo_table.proofs.Outward.{outward_above}
use Rattle.photo_table.proofs.Tables.{end_within}
use Rattle.photo_table.proofs.Hulls.{extreme_all}
use Rattle.photo_table.proofs.HullLaws.{first_is}

-- what bounds each intensity of the list bounds each of the table
value_at_most : (t : Table) (b : Fraction) → ((k : ℕ) → k < length t.values → upper (slice_index_or t.values k (exact (whole 0))) ≤ᶠ b) → (i j : ℕ) → upper (value t i j) ≤ᶠ b
unfolding value
value_at_most t b h i j =
    let k = i % length t.planes * length t.gammas + j in
    elim (cases_lt k (length t.values)) [
      | inl l ↦ h k l
      | inr g ↦ rw (get_or-eq_default t.values (exact (whole 0)) g) (zero_le_f b)
    ]

-- a hull is at most what every intensity is at most
extreme_at_most : (t : Table) → IsTable t → (m a b c d : ℕ) → ((i j : ℕ) → upper (value t i j) ≤ᶠ ticks m) → 360000000 ≤ a → a ≤ b → c ≤ d
    → plane_extreme greater upper t (micros_between a b) (micros_between c d) ≤ᶠ ticks m
extreme_at_most t h m a b c d values turn round order =
    let first : plane t 0 ≤ a = let e = first_is t h in let f = h.first_plane in omega arith in
    extreme_all greater (λ (u v : Fraction). v ≤ᶠ u) outward_above upper t (micros_between a b) (micros_between c d) (ticks m)
    (millionths_le a b round) (millionths_le c d order)
    (λ x y in_c in_g. end_within greater (λ (u v : Fraction). v ≤ᶠ u) outward_above upper t h (ticks m) x y values (zero_le_f (ticks m))
    (le_trans_f (millionths_le (plane t 0) a first) in_c.0))

rounded_at_most : (t : Table) → IsTable t → (m a b c d lo hi : ℕ) → ((i j : ℕ) → upper (value t i j) ≤ᶠ ticks m) → 360000000 ≤ a → a ≤ b → c ≤ d
    → Rounds (plane_extreme lesser lower t (micros_between a b) (micros_between c d)) (plane_extreme greater upper t (micros_between a b) (micros_between c d)) lo hi → hi ≤ m + 1
rounded_at_most t h m a b c d lo hi values turn round order r =
    let g = ticks_back (hi - 1) m (le_trans_f r.high_near (extreme_at_most t h m a b c d values turn round order)) in omega arith

pub below_the_greatest : (t : Table) → IsTable t → (m a b c d lo hi : ℕ) → IsGreatest upper t (ticks m) → 360000000 ≤ a → a ≤ b → c ≤ d
    → Rounds (plane_extreme lesser lower t (micros_between a b) (micros_between c d)) (plane_extreme greater upper t (micros_between a b) (micros_between c d)) lo hi → hi ≤ m + 1
below_the_greatest t h m a b c d lo hi g = rounded_at_most t h m a b c d lo hi (value_at_most t (ticks m) g.all)

none : Ends
none = record { lo = pos 0; hi = pos 0 }

pub kept_bright : (ps gs : List Micro) (vs : List Ends) → IsKept ps gs vs → (a b c d lo hi : ℕ) → 360000000 ≤ a → a ≤ b → c ≤ d
    → Rounds (plane_extreme lesser lower (table_of ps gs vs) (micros_between a b) (micros_between c d)) (plane_extreme greater upper (table_of ps gs vs) (micros_between a b) (micros_between c d)) lo hi
    → hi ≤ 687194767360000001
kept_bright ps gs vs k a b c d lo hi turn round order r =
    rounded_at_most (table_of ps gs vs) k.is_table 687194767360000000 a b c d lo hi
    (value_at_most (table_of ps gs vs) (ticks 687194767360000000)
    (λ i p. let q : i < length vs = rw (length-map vs of_span) at p in
    rw (get_or-map of_span vs i none (exact (whole 0)) q) (ticks_le _ _ (k.intensities i none q).high)))
    turn round order r

-- ---- brackets in whole numbers

pub hull_at : (t : Table) (a b c d : ℕ) → hull t (micros_between a b) (micros_between c d)
    ≡ record {
      lo = plane_extreme lesser lower t (micros_between (a + 360000000) (b + 360000000)) (micros_between c d);
      hi = plane_extreme greater upper t (micros_between (a + 360000000) (b + 360000000)) (micros_between c d);
    }
unfolding hull turn_later millionths
hull_at t a b c d = refl

-- what lies in an interval lies in a span that rounds it
pub rounds_contains : (i j : Interval) (e : Ends) → Rounds j.lo j.hi (natural e.lo) (natural e.hi) → LiesIn i j → LiesIn i (of_span e)
rounds_contains i j e r h = record { lower = le_trans_f r.low h.lower; upper = le_trans_f h.upper r.high }
