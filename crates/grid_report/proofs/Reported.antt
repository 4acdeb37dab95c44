-- What is printed of values: in order, and the same ends from the values as from their report.
use Rattle.std.proofs.Common.{ℕ, ◌*◌, ◌/◌, ◌<◌, ◌≤◌, ◌≡◌, ◌∙◌, List, min, ap, sym, refl, arith}
use Rattle.std.specs.Int.{div_ceil}
use Rattle.std.specs.Prelude.{Option, Some, None, MatchOption, option_map}
use Rattle.std.proofs.Math.Nat.{div-mul-le_self, mul-le-mul_left, le_of_mul-le-mul_left}
use Rattle.std.proofs.lemmas.Grind.{div_ceil_times}
use Rattle.report_form.specs.declared.report.Printed.{Printed}
use Rattle.grid_report.specs.Laws.{EndsAreTheReports}
use Rattle.grid_report.specs.Reports.{in_cents, IsUniformityPrinted}
use Rattle.scene_system.specs.Sums.{average_high, average_low, lower_end, upper_end}
use Rattle.grid_report.specs.Uniformities.{IsLeast, IsUniformity}
use Rattle.grid_report.specs.declared.ratio.Ratio.{Ratio}
use Rattle.scene_system.specs.declared.value.PointValue.{PointValue}
use Rattle.scene_system.proofs.Means.{no_point}

-- ---- one uniformity

-- at most one number is the least of those of the points that aren't covered
one_least : (number : PointValue → ℕ) (values : List PointValue) (a b : ℕ) → IsLeast number values a → IsLeast number values b → a ≡ b
one_least number values a b first second =
    let v = first.attained no_point in
    let w = second.attained no_point in
    let f = first.below (w.0) no_point (w.1) (w.2) in
    let g = second.below (v.0) no_point (v.1) (v.2) in
    let p = v.3 in
    let q = w.3 in
    omega arith

same_low : (values : List PointValue) (u m : Ratio) → IsUniformity values u.lo u.hi → IsUniformity values m.lo m.hi → u.lo ≡ m.lo
same_low values u m f g =
    f.lower ∙ ap (λ (a : ℕ). min (a * 1000000 / average_high values) 1000000) (one_least lower_end values f.least_low g.least_low f.is_least_low g.is_least_low) ∙ sym g.lower

same_high : (values : List PointValue) (u m : Ratio) → IsUniformity values u.lo u.hi → IsUniformity values m.lo m.hi → u.hi ≡ m.hi
same_high values u m f g =
    f.upper ∙ ap (λ (a : ℕ). min (div_ceil (a * 1000000) (average_low values)) 1000000) (one_least upper_end values f.least_high g.least_high f.is_least_high g.is_least_high) ∙ sym g.upper

abbrev AreEndsPrinted : List PointValue → Option (ℕ × ℕ) → Type 0
AreEndsPrinted values o = MatchOption o (average_low values ≡ 0) (λ u. (m : Ratio) × IsUniformity values m.lo m.hi × (u.0 ≡ m.lo / 1000) × (u.1 ≡ div_ceil m.hi 1000))

same_uniformity : (values : List PointValue) (printed : Option Printed) (o : Option (ℕ × ℕ)) → IsUniformityPrinted values printed → AreEndsPrinted values o
    → option_map (λ (e : Printed). (e.lo, e.hi)) printed ≡ o
same_uniformity values None None p q = refl
same_uniformity values None (Some u) p q = absurd (let positive = (q.1).positive in omega arith)
same_uniformity values (Some e) None p q = absurd (let positive = (p.1).positive in omega arith)
same_uniformity values (Some e) (Some u) p q =
    let low : e.lo ≡ u.0 = ap (λ (d : Printed). d.lo) (p.2) ∙ ap (λ (n : ℕ). n / 1000) (same_low values (p.0) (q.0) (p.1) (q.1)) ∙ sym (q.2) in
    let high : e.hi ≡ u.1 = ap (λ (d : Printed). d.hi) (p.2) ∙ ap (λ (n : ℕ). div_ceil n 1000) (same_high values (p.0) (q.0) (p.1) (q.1)) ∙ sym (q.3) in
    rw (low, high) refl

pub same_ends : EndsAreTheReports
same_ends columns values r e is of =
    let low : r.average.lo * 10 ≡ e.average_lo = ap (λ (d : Printed). d.lo * 10) is.average_is ∙ sym of.average_lo in
    let high : r.average.hi * 10 ≡ e.average_hi = ap (λ (d : Printed). d.hi * 10) is.average_is ∙ sym of.average_hi in
    let uniformity = same_uniformity values r.uniformity e.uniformity is.uniformity_is of.uniformity in
    rw (low, high, uniformity) refl

-- ---- in order

-- ticks in order are printed in order
pub cents_order : (low high : ℕ) → low ≤ high → (in_cents low high).lo ≤ (in_cents low high).hi
cents_order low high h = omega (arith, div-mul-le_self (low * 100) 68719476736, (div_ceil_times (high * 100) 68719476736 (omega arith)).0, h)

-- and so are millionths
pub thousandths_order : (low high : ℕ) → low ≤ high → low / 1000 ≤ div_ceil high 1000
thousandths_order low high h = omega (arith, div-mul-le_self low 1000, (div_ceil_times high 1000 (omega arith)).0, h)

quotients_order : (a b low high m n : ℕ) → a ≤ b → low ≤ high → 0 < low → m * high ≤ a * 1000000 → b * 1000000 ≤ n * low → m ≤ n
quotients_order a b low high m n h o p below above =
    le_of_mul-le-mul_left {k = low} (omega (arith, mul-le-mul_left m o, below, above, h)) p

-- the lesser number by the greater average is at most the greater one by the lesser average
pub shares_order : (a b low high : ℕ) → a ≤ b → low ≤ high → 0 < low → min (a * 1000000 / high) 1000000 ≤ min (div_ceil (b * 1000000) low) 1000000
shares_order a b low high h o p =
    let m = a * 1000000 / high in
    let n = div_ceil (b * 1000000) low in
    let q : m ≤ n = quotients_order a b low high m n h o p (div-mul-le_self (a * 1000000) high) ((div_ceil_times (b * 1000000) low p).0) in
    omega arith
