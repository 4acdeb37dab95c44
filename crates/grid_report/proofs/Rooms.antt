-- The report of the values of a room's task points is right.
use Rattle.std.proofs.Common.{ℕ, zero, suc, ◌*◌, ◌/◌, ◌<◌, ◌≤◌, ◌≡◌, ◌⊎◌, ◌↔◌, Bool, true, false, if◌then◌else◌, min, List, [], ◌∷◌, length, map, arith, refl, sym, subst, ap, ◌∙◌, inl, inr}
use Rattle.std.specs.Prelude.{slice_index_or, Option, Some, None, IfSome, IfNone, IsNone, MatchOption}
use Rattle.std.specs.Int.{div_ceil}
use Rattle.std.proofs.Math.Nat.{div-mul-le_self, mul-le-mul_left, le_of_mul-le-mul_left}
use Rattle.std.proofs.lemmas.Bool.{cases_lt}
use Rattle.std.proofs.lemmas.Grind.{div_ceil_times}
use Rattle.fx_base.specs.Fraction.{◌≤ᶠ◌, ◌<ᶠ◌, ◌+ᶠ◌, ratio, whole, half_power}
use Rattle.fx_base.specs.Interval.{Meets, LiesIn, InOrder, outward}
use Rattle.fx_base.specs.Units.{ticks, natural}
use Rattle.fx_base.proofs.Order.{le_lt_trans_f, sub_back_f}
use Rattle.fx_base.proofs.Rounding.{natural-mono}
use Rattle.interval_system.specs.Radiosity.{values}
use Rattle.interval_system.specs.Values.{Grid, open_count, average, uniformity}
use Rattle.room_layout.specs.declared.room.Room.{Room}
use Rattle.photo_table.specs.Table.{Table}
use Rattle.scene_system.specs.Scene.{task_point_of, radiosity, loose_radiosity}
use Rattle.grid_report.specs.Headline.{least_end, IsInOrder, AreInOrder, Fits, HaveValuesInOrder, MeetsValues, IsNarrow, IsRight}
use Rattle.scene_system.specs.RoomValues.{ForExactValues, ForLooseValues}
use Rattle.report_form.specs.Spelled.{said}
use Rattle.report_form.specs.declared.report.Printed.{Printed}
use Rattle.report_form.specs.declared.report.Report.{Report}
use Rattle.scene_system.specs.PointValues.{ArePoints}
use Rattle.grid_report.specs.Reports.{in_cents, printed_ratio, printed_value, IsReportOf}
use Rattle.scene_system.specs.Sums.{lower_end, upper_end, open_total, average_low, average_high, IsValue}
use Rattle.grid_report.specs.Uniformities.{IsLeast, IsUniformity}
use Rattle.scene_system.specs.declared.value.PointValue.{PointValue}
use Rattle.grid_report.specs.declared.ratio.Ratio.{Ratio}
use Rattle.scene_system.proofs.MeanOrder.{average_order}
use Rattle.grid_report.proofs.GridOrder.{uniformity_order}
use Rattle.scene_system.proofs.Means.{no_point}
use Rattle.scene_system.proofs.TickMeans.{count_is}
use Rattle.grid_report.proofs.Printing.{printed_meets, printed_near}
use Rattle.scene_system.proofs.Averages.{averages_order, AreMeeting, AreNear, average_meets, average_near_low, average_near_high}
use Rattle.grid_report.proofs.Right.{least_within_average, down_uniformity, up_uniformity, positive_average, down_uniformity_near, up_uniformity_near}
use Rattle.grid_report.proofs.Reported.{cents_order}
use Rattle.grid_report.proofs.Leasts.{leasts_order}
use Rattle.grid_report.proofs.Shares.{IsDown, IsUp, is_down, is_up, down_by_ends, up_by_ends}
use Rattle.scene_system.proofs.RoomAverages.{covered_points, each_value, meeting, near}

-- ---- the printed values of the points

printed_within : (vs : List PointValue) (g : ℕ) → g < length vs → slice_index_or (map printed_value vs) g None ≡ printed_value (slice_index_or vs g no_point)
printed_within [] g l = absurd (omega arith)
printed_within (v ∷ vs) zero l = refl
printed_within (v ∷ vs) (suc g) l = printed_within vs g (omega arith)

printed_past : (vs : List PointValue) (g : ℕ) → length vs ≤ g → slice_index_or (map printed_value vs) g None ≡ None
printed_past [] g l = refl
printed_past (v ∷ vs) zero l = absurd (omega arith)
printed_past (v ∷ vs) (suc g) l = printed_past vs g (omega arith)

-- a fact of what is printed of each point, from that of the values
each_printed : (P : Option Printed → Type 0) (vs : List PointValue) (g : ℕ) → P None
    → (g < length vs → P (printed_value (slice_index_or vs g no_point))) → P (slice_index_or (map printed_value vs) g None)
each_printed P vs g none some = elim (cases_lt g (length vs)) [
  | inl l ↦ subst P (sym (printed_within vs g l)) (some l)
  | inr h ↦ subst P (sym (printed_past vs g h)) none
]

open_value : (v : PointValue) → v.covered ≡ false → printed_value v ≡ Some (in_cents (natural v.value.lo) (natural v.value.hi))
open_value v e = rw e refl

-- what is printed of a point, by whether it is covered
by_cover : (P : Option Printed → Type 0) (b : Bool) (x : Printed) → P None → (b ≡ false → P (Some x)) → P (if b then None else Some x)
by_cover P true x none some = none
by_cover P false x none some = some refl

uncovered : (b : Bool) (x e : Printed) → (let o : Option Printed = if b then None else Some x in o) ≡ Some e → b ≡ false
uncovered true x e h = absurd (cc)
uncovered false x e h = refl

none_where_covered : (b c : Bool) (x : Printed) → b ≡ c → IsNone (let o : Option Printed = if b then None else Some x in o) ↔ (c ≡ true)
none_where_covered true c x h = ((λ a. sym h), (λ a. refl))
none_where_covered false c x h = ((λ a. sym h ∙ sym a), (λ a. sym (h ∙ a)))

length-map : (vs : List PointValue) → length (map printed_value vs) ≡ length vs
length-map [] = refl
length-map (v ∷ vs) = ap suc (length-map vs)

-- ---- the parts of the promise

points_meet : (tables : List Table) (room : Room) (vs : List PointValue) → ArePoints tables room vs → (g : ℕ)
    → IfSome (slice_index_or (map printed_value vs) g None) (λ e. ForExactValues tables room (λ x. Meets (said 100 e) (x.value g)))
points_meet tables room vs are g =
    let P : Option Printed → Type 0 = λ o. IfSome o (λ e. ForExactValues tables room (λ x. Meets (said 100 e) (x.value g))) in
    let v = slice_index_or vs g no_point in
    each_printed P vs g tt (λ l. by_cover P v.covered (in_cents (natural v.value.lo) (natural v.value.hi)) tt
    (λ o n deep light solves. printed_meets (natural v.value.lo) (natural v.value.hi) ((values (radiosity n tables room) light).value g) ((are.each g no_point l).meets o n deep light solves)))

points_near : (tables : List Table) (room : Room) (vs : List PointValue) → ArePoints tables room vs → (g : ℕ)
    → IfSome (slice_index_or (map printed_value vs) g None) (λ e. ForLooseValues tables room (λ x. LiesIn (said 100 e) (outward (ratio 12 1000) (x.value g))))
points_near tables room vs are g =
    let P : Option Printed → Type 0 = λ o. IfSome o (λ e. ForLooseValues tables room (λ x. LiesIn (said 100 e) (outward (ratio 12 1000) (x.value g)))) in
    let v = slice_index_or vs g no_point in
    each_printed P vs g tt (λ l. by_cover P v.covered (in_cents (natural v.value.lo) (natural v.value.hi)) tt
    (λ o n deep light solves. let k = (are.each g no_point l).near o n deep light solves in
    let x = (values (loose_radiosity n tables room) light).value g in
    printed_near 2048 (natural v.value.lo) (natural v.value.hi) x (omega arith) (sub_back_f x.lo (ticks 2048) k.lower) k.upper))

-- a printed uniformity is of the least ends and the average's ends
abbrev IsPrintedUniformity : List PointValue → Printed → Type 0
IsPrintedUniformity vs e = (u : Ratio) × IsUniformity vs u.lo u.hi × (e ≡ printed_ratio u)

record IsShare (vs : List PointValue) (e : Printed) : Type 0 where
  pub a : ℕ
  pub b : ℕ
  pub least_low : IsLeast lower_end vs a
  pub least_high : IsLeast upper_end vs b
  pub down : IsDown a (average_high vs) e.lo
  pub up : IsUp b (average_low vs) e.hi
  pub positive : 0 < average_low vs
  pub order : average_low vs ≤ average_high vs

shares_of : (tables : List Table) (room : Room) (vs : List PointValue) (e : Printed) → ArePoints tables room vs → 0 < open_total vs → IsPrintedUniformity vs e → IsShare vs e
shares_of tables room vs e are some printed =
    let u = printed.1 in
    let covered : ℕ → Bool = λ g. (task_point_of room g).covered in
    let order = averages_order vs covered (covered_points tables room vs are) some (each_value tables room vs are) in
    let positive = u.positive in
    let D : ℕ → Type 0 = λ z. IsDown u.least_low (average_high vs) z in
    let U : ℕ → Type 0 = λ z. IsUp u.least_high (average_low vs) z in
    record {
      a = u.least_low;
      b = u.least_high;
      least_low = u.is_least_low;
      least_high = u.is_least_high;
      down = subst D (sym (ap (λ (d : Printed). d.lo) (printed.2) ∙ ap (λ (z : ℕ). z / 1000) u.lower)) (is_down u.least_low (average_high vs) (omega (arith, order, positive))
          (least_within_average vs covered u.least_low (covered_points tables room vs are) some u.is_least_low (each_value tables room vs are)));
      up = subst U (sym (ap (λ (d : Printed). d.hi) (printed.2) ∙ ap (λ (z : ℕ). div_ceil z 1000) u.upper)) (is_up u.least_high (average_low vs) positive);
      positive = positive;
      order = order;
    }

-- ---- cases of options

if_some : {T : Type 0} (o : Option T) (Q : T → Type 0) → ((m : T) → o ≡ Some m → Q m) → IfSome o Q
if_some None Q h = tt
if_some (Some m) Q h = h m refl

some_case : (o : Option Printed) (N : Type 0) (R Q : Printed → Type 0) → MatchOption o N R → ((u : Printed) → R u → Q u) → IfSome o Q
some_case None N R Q m h = tt
some_case (Some u) N R Q m h = h u m

none_case : (o : Option Printed) (N M : Type 0) (R : Printed → Type 0) → MatchOption o N R → (N → M) → IfNone o M
none_case None N M R m h = h m
none_case (Some u) N M R m h = tt

-- ---- the least printed ends

abbrev joined : (Printed → ℕ) → Printed → Option ℕ → Option ℕ
joined side e o = elim o [ None ↦ Some (side e) | Some m ↦ Some (min (side e) m) ]

joined_first : (side : Printed → ℕ) (e : Printed) (o : Option ℕ) (low : ℕ) → joined side e o ≡ Some low → low ≤ side e
joined_first side e None low h = let f : side e ≡ low = cc in omega arith
joined_first side e (Some m) low h = let f : min (side e) m ≡ low = cc in omega arith

-- what is left is the least of what is left, and that is at least the least of all
joined_rest : (side : Printed → ℕ) (e : Printed) (o : Option ℕ) (low : ℕ) → joined side e o ≡ Some low → (m : ℕ) → o ≡ Some m → low ≤ m
joined_rest side e None low h m f = absurd (cc)
joined_rest side e (Some k) low h m f = let g : min (side e) k ≡ low = cc in let i : k ≡ m = cc in omega arith

-- it is one of the two
joined_either : (side : Printed → ℕ) (e : Printed) (o : Option ℕ) (low : ℕ) → joined side e o ≡ Some low → (side e ≡ low) ⊎ (o ≡ Some low)
joined_either side e None low h = inl (cc)
joined_either side e (Some m) low h = let g : min (side e) m ≡ low = cc in elim (cases_lt (side e) m) [
  | inl l ↦ inl (omega arith)
  | inr k ↦ inr (ap (λ (z : ℕ). let o : Option ℕ = Some z in o) (omega arith))
]

joined_some : (side : Printed → ℕ) (e : Printed) (o : Option ℕ) → (m : ℕ) × (joined side e o ≡ Some m)
joined_some side e None = (side e, refl)
joined_some side e (Some m) = (min (side e) m, refl)

some_least : (side : Printed → ℕ) (points : List (Option Printed)) (k : ℕ) (e : Printed) → slice_index_or points k None ≡ Some e → (m : ℕ) × (least_end side points ≡ Some m)
some_least side [] k e h = absurd (cc)
some_least side (None ∷ more) zero e h = absurd (cc)
some_least side (None ∷ more) (suc k) e h = some_least side more k e h
some_least side (Some f ∷ more) k e h = joined_some side f (least_end side more)

least_end_below : (side : Printed → ℕ) (points : List (Option Printed)) (low : ℕ) → least_end side points ≡ Some low
    → (k : ℕ) (e : Printed) → slice_index_or points k None ≡ Some e → low ≤ side e
least_end_below side [] low h k e f = absurd (cc)
least_end_below side (None ∷ more) low h zero e f = absurd (cc)
least_end_below side (None ∷ more) low h (suc k) e f = least_end_below side more low h k e f
least_end_below side (Some d ∷ more) low h zero e f =
    let same : d ≡ e = cc in let P : Printed → Type 0 = λ z. low ≤ side z in subst P same (joined_first side d (least_end side more) low h)
least_end_below side (Some d ∷ more) low h (suc k) e f =
    let w = some_least side more k e f in
    let g = joined_rest side d (least_end side more) low h (w.0) (w.1) in
    let i = least_end_below side more (w.0) (w.1) k e f in omega arith

least_end_attained : (side : Printed → ℕ) (points : List (Option Printed)) (low : ℕ) → least_end side points ≡ Some low
    → (k : ℕ) × (e : Printed) × (slice_index_or points k None ≡ Some e) × (side e ≡ low)
least_end_attained side [] low h = absurd (cc)
least_end_attained side (None ∷ more) low h = let w = least_end_attained side more low h in (suc (w.0), w.1, w.2, w.3)
least_end_attained side (Some d ∷ more) low h = elim (joined_either side d (least_end side more) low h) [
  | inl e ↦ (0, d, refl, e)
  | inr o ↦ let w = least_end_attained side more low o in (suc (w.0), w.1, w.2, w.3)
]

some_same : (d e : Printed) → Some d ≡ Some e → d ≡ e
some_same d e h = cc

none_some : (e : Printed) → (let o : Option Printed = None in o) ≡ Some e → ⊥
none_some e h = cc

-- the least printed lower end is at most the least lower end, printed
printed_open : (vs : List PointValue) (g : ℕ) → g < length vs → (slice_index_or vs g no_point).covered ≡ false
    → slice_index_or (map printed_value vs) g None ≡ Some (in_cents (lower_end (slice_index_or vs g no_point)) (upper_end (slice_index_or vs g no_point)))
printed_open vs g l c = printed_within vs g l ∙ open_value (slice_index_or vs g no_point) c

least_low_printed : (vs : List PointValue) (a low : ℕ) → IsLeast lower_end vs a → least_end (λ (d : Printed). d.lo) (map printed_value vs) ≡ Some low → low * 68719476736 ≤ a * 100
least_low_printed vs a low is e =
    let w = is.attained no_point in
    let v = slice_index_or vs (w.0) no_point in
    let h : low ≤ lower_end v * 100 / 68719476736 =
    least_end_below (λ (d : Printed). d.lo) (map printed_value vs) low e (w.0) (in_cents (lower_end v) (upper_end v)) (printed_open vs (w.0) (w.1) (w.2)) in
    let k = div-mul-le_self (lower_end v * 100) 68719476736 in
    let i = w.3 in omega arith

-- and the least printed upper end is at least the least upper end, printed
least_high_printed : (vs : List PointValue) (b high : ℕ) → IsLeast upper_end vs b
    → least_end (λ (d : Printed). d.hi) (map printed_value vs) ≡ Some high → b * 100 ≤ high * 68719476736
least_high_printed vs b high is e =
    let w = least_end_attained (λ (d : Printed). d.hi) (map printed_value vs) high e in
    elim (cases_lt (w.0) (length vs)) [
      | inl l ↦ (
          let v = slice_index_or vs (w.0) no_point in
          let o : v.covered ≡ false = uncovered v.covered (in_cents (lower_end v) (upper_end v)) (w.1) (sym (printed_within vs (w.0) l) ∙ w.2) in
          let same : w.1 ≡ in_cents (lower_end v) (upper_end v) = some_same (w.1) (in_cents (lower_end v) (upper_end v)) (sym (w.2) ∙ printed_open vs (w.0) l o) in
          let i : (w.1).hi ≡ div_ceil (upper_end v * 100) 68719476736 = ap (λ (d : Printed). d.hi) same in
          let j = (div_ceil_times (upper_end v * 100) 68719476736 (omega arith)).0 in
          let k = is.below (w.0) no_point l o in
          let m = w.3 in omega arith)
      | inr g ↦ absurd (none_some (w.1) (sym (printed_past vs (w.0) g) ∙ w.2))
    ]

-- ---- what is printed is in order

positive_cents : (high : ℕ) → 0 < high → 0 < div_ceil (high * 100) 68719476736
positive_cents high h = omega (arith, (div_ceil_times (high * 100) 68719476736 (omega arith)).0, h)

points_order : (tables : List Table) (room : Room) (vs : List PointValue) → ArePoints tables room vs → (g : ℕ) → IfSome (slice_index_or (map printed_value vs) g None) IsInOrder
points_order tables room vs are g =
    let P : Option Printed → Type 0 = λ o. IfSome o IsInOrder in
    let v = slice_index_or vs g no_point in
    each_printed P vs g tt (λ l. let p = are.each g no_point l in by_cover P v.covered (in_cents (natural v.value.lo) (natural v.value.hi)) tt
    (λ o. cents_order (natural v.value.lo) (natural v.value.hi) (natural-mono v.value.lo v.value.hi p.low p.order)))

quotients_order : (a b low high m n : ℕ) → a ≤ b → low ≤ high → 0 < low → m * high ≤ a * 1000 → b * 1000 ≤ n * low → m ≤ n
quotients_order a b low high m n h o p below above =
    le_of_mul-le-mul_left {k = low} (omega (arith, mul-le-mul_left m o, below, above, h)) p

printed_order : (vs : List PointValue) (e : Printed) → ((g : ℕ) (d : PointValue) → g < length vs → IsValue (slice_index_or vs g d)) → IsShare vs e → IsInOrder e
printed_order vs e each s = elim s.up.over [
  | inl one ↦ (let m = s.down.most in omega arith)
  | inr above ↦ quotients_order s.a s.b (average_low vs) (average_high vs) e.lo e.hi (leasts_order vs s.a s.b each s.least_low s.least_high) s.order s.positive s.down.under above
]

-- ---- the whole promise

fits : (tables : List Table) (room : Room) (vs : List PointValue) (r : Report) → ArePoints tables room vs → 0 < open_total vs → IsReportOf room.task.nx vs r → Fits room r
fits tables room vs r are some of = record {
  columns = of.columns_are;
  points = rw of.points_are (length-map vs ∙ are.count);
  covered = rw of.points_are (λ g l. let h : g < length vs = omega (arith, l, length-map vs) in
      let v = slice_index_or vs g no_point in
      rw (printed_within vs g h) (none_where_covered v.covered (task_point_of room g).covered (in_cents (natural v.value.lo) (natural v.value.hi)) (are.each g no_point h).covered_is));
  points_in_order = λ g. rw of.points_are (points_order tables room vs are g);
  average_in_order = rw of.average_is (cents_order (average_low vs) (average_high vs)
      (averages_order vs (λ g. (task_point_of room g).covered) (covered_points tables room vs are) some (each_value tables room vs are)));
  uniformity_in_order = some_case r.uniformity (average_low vs ≡ 0) (IsPrintedUniformity vs) IsInOrder of.uniformity_is
      (λ e i. printed_order vs e (each_value tables room vs are) (shares_of tables room vs e are some i));
}

meets : (tables : List Table) (room : Room) (vs : List PointValue) (r : Report) → ArePoints tables room vs → 0 < open_total vs → IsReportOf room.task.nx vs r → MeetsValues tables room r
meets tables room vs r are some of = record {
  each_point = λ g. rw of.points_are (points_meet tables room vs are g);
  the_average = λ n h light solves. rw of.average_is (printed_meets (average_low vs) (average_high vs) (average (values (radiosity n tables room) light))
      (average_meets (values (radiosity n tables room) light) vs (meeting tables room vs n light h solves are) some));
  the_uniformity = some_case r.uniformity (average_low vs ≡ 0) (IsPrintedUniformity vs) (λ e. ForExactValues tables room (λ x. Meets (said 1000 e) (uniformity x))) of.uniformity_is
      (λ e i n h light solves. let s = shares_of tables room vs e are some i in record {
        above = down_uniformity (values (radiosity n tables room) light) vs s.a e.lo (meeting tables room vs n light h solves are) some s.least_low s.down;
        below = up_uniformity (values (radiosity n tables room) light) vs s.b e.hi (meeting tables room vs n light h solves are) some s.positive s.least_high s.up;
      });
  positive = some_case r.uniformity (average_low vs ≡ 0) (IsPrintedUniformity vs) (λ e. ForExactValues tables room (λ x. whole 0 <ᶠ (average x).hi)) of.uniformity_is
      (λ e i n h light solves. positive_average (values (radiosity n tables room) light) vs (meeting tables room vs n light h solves are) some (i.1).positive);
  printed_positive = some_case r.uniformity (average_low vs ≡ 0) (IsPrintedUniformity vs) (λ e. 0 < r.average.hi) of.uniformity_is
      (λ e i. let s = shares_of tables room vs e are some i in rw of.average_is (positive_cents (average_high vs) (let o = s.order in let p = s.positive in omega arith)));
  none = none_case r.uniformity (average_low vs ≡ 0) (r.average.lo ≡ 0) (IsPrintedUniformity vs) of.uniformity_is (λ z. rw (of.average_is, z) refl);
}

lower_ends : (vs : List PointValue) (a n low : ℕ) → IsLeast lower_end vs a → IsDown a (average_high vs) n → 0 < average_low vs → average_low vs ≤ average_high vs
    → least_end (λ (d : Printed). d.lo) (map printed_value vs) ≡ Some low → ratio low (div_ceil (average_high vs * 100) 68719476736) ≤ᶠ (ratio n 1000 +ᶠ ratio 1 1000)
lower_ends vs a n low is d positive order e =
    let h = (div_ceil_times (average_high vs * 100) 68719476736 (omega arith)).0 in
    down_by_ends a (average_high vs) n low (div_ceil (average_high vs * 100) 68719476736) d (least_low_printed vs a low is e) h (omega (arith, h, positive, order))

few_ticks : (t : ℕ) → t ≡ 0 → (ticks t +ᶠ ticks 2049) <ᶠ half_power 20
unfolding ticks half_power ◌+ᶠ◌
few_ticks t e = rw e (record { cross = omega arith })

narrow : (tables : List Table) (room : Room) (vs : List PointValue) (r : Report) → ArePoints tables room vs → 0 < open_total vs → IsReportOf room.task.nx vs r → IsNarrow tables room r
narrow tables room vs r are some of = record {
  each_point = λ g. rw of.points_are (points_near tables room vs are g);
  the_average = λ n h light solves. rw of.average_is (printed_near 2049 (average_low vs) (average_high vs) (average (values (loose_radiosity n tables room) light)) (omega arith)
      (average_near_low 2048 (values (loose_radiosity n tables room) light) vs (near tables room vs n light h solves are) some)
      (average_near_high 2048 (values (loose_radiosity n tables room) light) vs (near tables room vs n light h solves are) some));
  none = none_case r.uniformity (average_low vs ≡ 0) (ForLooseValues tables room (λ x. (average x).lo <ᶠ half_power 20)) (IsPrintedUniformity vs) of.uniformity_is
      (λ z n h light solves. le_lt_trans_f (average_near_low 2048 (values (loose_radiosity n tables room) light) vs (near tables room vs n light h solves are) some) (few_ticks (average_low vs) z));
  the_uniformity = some_case r.uniformity (average_low vs ≡ 0) (IsPrintedUniformity vs)
      (λ e. ForLooseValues tables room (λ x. whole 1 ≤ᶠ (average x).lo → LiesIn (said 1000 e) (outward (ratio 2 1000) (uniformity x)))) of.uniformity_is
      (λ e i n h light solves one. let s = shares_of tables room vs e are some i in record {
        lower = down_uniformity_near 2048 (values (loose_radiosity n tables room) light) vs s.a e.lo (near tables room vs n light h solves are) some s.order s.least_low s.down one;
        upper = up_uniformity_near 2048 (values (loose_radiosity n tables room) light) vs s.b e.hi (near tables room vs n light h solves are) some s.least_high s.up one;
      });
  at_most_one = some_case r.uniformity (average_low vs ≡ 0) (IsPrintedUniformity vs) (λ e. e.hi ≤ 1000) of.uniformity_is
      (λ e i. (shares_of tables room vs e are some i).up.most);
  lower_by_ends = some_case r.uniformity (average_low vs ≡ 0) (IsPrintedUniformity vs)
      (λ e. IfSome (least_end (λ (d : Printed). d.lo) r.points) (λ low. ratio low r.average.hi ≤ᶠ (ratio e.lo 1000 +ᶠ ratio 1 1000))) of.uniformity_is
      (λ e i. let s = shares_of tables room vs e are some i in
      rw (of.points_are, of.average_is) (if_some (least_end (λ (d : Printed). d.lo) (map printed_value vs)) (λ low. ratio low (div_ceil (average_high vs * 100) 68719476736) ≤ᶠ (ratio e.lo 1000 +ᶠ ratio 1 1000))
      (λ low h. lower_ends vs s.a e.lo low s.least_low s.down s.positive s.order h)));
  upper_by_ends = some_case r.uniformity (average_low vs ≡ 0) (IsPrintedUniformity vs)
      (λ e. IfSome (least_end (λ (d : Printed). d.hi) r.points) (λ high. 0 < r.average.lo → ratio e.hi 1000 ≤ᶠ (ratio high r.average.lo +ᶠ ratio 1 1000))) of.uniformity_is
      (λ e i. let s = shares_of tables room vs e are some i in
      rw (of.points_are, of.average_is) (if_some (least_end (λ (d : Printed). d.hi) (map printed_value vs)) (λ high. 0 < average_low vs * 100 / 68719476736 → ratio e.hi 1000 ≤ᶠ (ratio high (average_low vs * 100 / 68719476736) +ᶠ ratio 1 1000))
      (λ high h p. up_by_ends s.b (average_low vs) e.hi high (average_low vs * 100 / 68719476736) s.up
      (least_high_printed vs s.b high s.least_high h) (div-mul-le_self (average_low vs * 100) 68719476736) p)));
}

-- ---- the values are in order

grid_order : (x : Grid) → 0 < open_count x.covered x.points → ((g : ℕ) → g < x.points → InOrder (x.value g)) → AreInOrder x
grid_order x some each = record {
  some_open = some;
  each_point = each;
  the_average = average_order x some (λ g l o. each g l);
  the_uniformity = uniformity_order x some (λ g l o. each g l);
}

meeting_order : (x : Grid) (vs : List PointValue) → 0 < open_total vs → AreMeeting x vs → AreInOrder x
meeting_order x vs some m = grid_order x (rw (m.count, count_is vs x.covered m.covered) some) (λ g l. m.order g (subst (λ z. g < z) m.count l))

near_order : (y : Grid) (vs : List PointValue) → 0 < open_total vs → AreNear 2048 y vs → AreInOrder y
near_order y vs some m = grid_order y (rw (m.count, count_is vs y.covered m.covered) some) (λ g l. m.order g (subst (λ z. g < z) m.count l))

in_order : (tables : List Table) (room : Room) (vs : List PointValue) → ArePoints tables room vs → 0 < open_total vs → HaveValuesInOrder tables room
in_order tables room vs are some = record {
  exact = λ n deep light solves. meeting_order (values (radiosity n tables room) light) vs some (meeting tables room vs n light deep solves are);
  loose = λ n deep light solves. near_order (values (loose_radiosity n tables room) light) vs some (near tables room vs n light deep solves are);
}

pub is_right : (tables : List Table) (room : Room) (vs : List PointValue) (r : Report) → ArePoints tables room vs → 0 < open_total vs → IsReportOf room.task.nx vs r → IsRight tables room r
is_right tables room vs r are some of = record { fits = fits tables room vs r are some of; one_solution = record { exact = are.rows; loose = are.loose_rows }; in_order = in_order tables room vs are some; meets = meets tables room vs r are some of; narrow = narrow tables room vs r are some of }
