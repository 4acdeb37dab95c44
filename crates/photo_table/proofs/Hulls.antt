-- The laws of the hull, for one of its ends at a time.
use Rattle.std.proofs.Common.{ℕ, ◌*◌, length}
use Rattle.fx_base.specs.Fraction.{Fraction, ◌≤ᶠ◌, ◌≈ᶠ◌, whole, ◌+ᶠ◌, ◌-ᶠ◌}
use Rattle.fx_base.specs.Interval.{Interval, InOrder, LiesIn, Contains, turned}
use Rattle.fx_base.specs.Units.{millionths}
use Rattle.fx_base.proofs.Order.{le_refl_f, le_trans_f, eq_of_le_f, eq_sym_f, le_lt_trans_f, lt_le_trans_f, eq_refl_f, eq_trans_f, add_le_f, le_add_left_f, le_sub_f, sub_le_f, sub_add_f, le_sub_add_f}
use Rattle.photo_table.specs.Table.{Table, IsTable, plane, gamma, planes_to, end_at}
use Rattle.photo_table.specs.Hull.{gamma_extreme, plane_extreme}
use Rattle.photo_table.proofs.Outward.{IsOutward}
use Rattle.photo_table.proofs.Corners.{AtCorners, corners_of_all, map_corners, extreme_outward, extreme_within}
use Rattle.photo_table.proofs.Sheet.{box}
use Rattle.photo_table.proofs.Tables.{plane_piece, within_planes, under, over, inside, stands, end_below, end_above, end_straight, end_moved, ends_of}

-- ---- one end of a hull over brackets that lie above the first plane

at_gammas : (pick : Fraction → Fraction → Fraction) (R : Fraction → Fraction → Type 0) → IsOutward pick R → (end : Interval → Fraction) (t : Table)
    (g : Interval) (m x : Fraction) → R m (gamma_extreme pick end t g x) → AtCorners (gamma t) (length t.gammas) g (λ y. R m (end_at end t x y))
unfolding gamma_extreme
at_gammas pick R o end t g m x h =
    map_corners (gamma t) (length t.gammas) g _ _ (λ y r. o.trans h r) (extreme_outward pick R o (gamma t) (length t.gammas) g (end_at end t x))

at_planes : (pick : Fraction → Fraction → Fraction) (R : Fraction → Fraction → Type 0) → IsOutward pick R → (end : Interval → Fraction) (t : Table) (c g : Interval)
    → AtCorners (plane t) (planes_to t c.hi) c (λ x. AtCorners (gamma t) (length t.gammas) g (λ y. R (plane_extreme pick end t c g) (end_at end t x y)))
unfolding plane_extreme
at_planes pick R o end t c g =
    map_corners (plane t) (planes_to t c.hi) c _ _ (λ x r. at_gammas pick R o end t g _ x r)
    (extreme_outward pick R o (plane t) (planes_to t c.hi) c (gamma_extreme pick end t g))

-- it is outside of the value at every point
pub extreme_contains : (pick : Fraction → Fraction → Fraction) (R : Fraction → Fraction → Type 0) → IsOutward pick R → (end : Interval → Fraction) (t : Table) → IsTable t
    → (c g : Interval) (x y : Fraction) → millionths (plane t 0) ≤ᶠ c.lo → Contains c x → Contains g y → R (plane_extreme pick end t c g) (end_at end t x y)
extreme_contains pick R o end t h c g x y low in_c in_g =
    let m = plane_extreme pick end t c g in
    let corners = at_planes pick R o end t c g in
    elim (stands t h y) [
      | under u ↦ rw (end_below end t x y u) (rw (end_below end t c.lo g.lo (le_lt_trans_f in_g.0 u)) at corners.low.low)
      | over a ↦ rw (end_above end t x y a) (rw (end_above end t c.lo g.hi (lt_le_trans_f a in_g.1)) at corners.low.high)
      | inside p ↦
          let q = plane_piece t h x (le_trans_f low in_c.0) in
          box pick R o (plane t) (gamma t) (ends_of end t) (end_at end t) q.i p.i (end_straight end t h q.i p.i p.within)
          (planes_to t c.hi) (length t.gammas) c g m x y corners (within_planes t h q.i c.hi (le_trans_f q.on.low in_c.1)) p.within in_c in_g q.on p.on
    ]

-- and nothing that is outside of all of them is further in
pub extreme_all : (pick : Fraction → Fraction → Fraction) (R : Fraction → Fraction → Type 0) → IsOutward pick R → (end : Interval → Fraction) (t : Table)
    (c g : Interval) (m : Fraction) → InOrder c → InOrder g → ((x y : Fraction) → Contains c x → Contains g y → R m (end_at end t x y))
    → R m (plane_extreme pick end t c g)
unfolding plane_extreme gamma_extreme
extreme_all pick R o end t c g m order_c order_g h =
    extreme_within pick R o (plane t) (planes_to t c.hi) c (gamma_extreme pick end t g) m
    (corners_of_all (plane t) (planes_to t c.hi) c _ order_c
    (λ x in_c. extreme_within pick R o (gamma t) (length t.gammas) g (end_at end t x) m
    (corners_of_all (gamma t) (length t.gammas) g _ order_g (λ y in_g. h x y in_c in_g))))

-- a wider bracket has the outer extreme, up to turns of either
pub extreme_grows : (pick : Fraction → Fraction → Fraction) (R : Fraction → Fraction → Type 0) → IsOutward pick R → (end : Interval → Fraction) (t : Table) → IsTable t
    → (m n : ℕ) (c g d h : Interval) → millionths (plane t 0) ≤ᶠ c.lo → millionths (plane t 0) ≤ᶠ d.lo → InOrder c → InOrder g
    → LiesIn (turned m c) (turned n d) → LiesIn g h → R (plane_extreme pick end t d h) (plane_extreme pick end t c g)
extreme_grows pick R o end t is m n c g d h low_c low_d order_c order_g in_d in_h =
    extreme_all pick R o end t c g (plane_extreme pick end t d h) order_c order_g (λ x y in_c in_g.
    let z = x +ᶠ whole (360 * m) in
    let w = z -ᶠ whole (360 * n) in
    let enough : (d.lo +ᶠ whole (360 * n)) ≤ᶠ z = le_trans_f in_d.lower (add_le_f in_c.0 (le_refl_f (whole (360 * m)))) in
    let whole_turns : whole (360 * n) ≤ᶠ z = le_trans_f (le_add_left_f d.lo (whole (360 * n))) enough in
    let low_w : d.lo ≤ᶠ w = le_sub_f z (whole (360 * n)) enough in
    let high_w : w ≤ᶠ d.hi = sub_le_f z (whole (360 * n)) (le_trans_f (add_le_f in_c.1 (le_refl_f (whole (360 * m)))) in_d.upper) in
    let same : z ≈ᶠ (w +ᶠ whole (360 * n)) = eq_of_le_f (le_sub_add_f z (whole (360 * n))) (sub_add_f z (whole (360 * n)) whole_turns) in
    let at_w = end_moved end t is n w z y (le_trans_f low_d low_w) same in
    let at_x = end_moved end t is m x z y (le_trans_f low_c in_c.0) (eq_refl_f z) in
    o.trans (extreme_contains pick R o end t is d h w y low_d (low_w, high_w) (le_trans_f in_h.lower in_g.0, le_trans_f in_g.1 in_h.upper))
    (o.same (eq_trans_f (eq_sym_f at_w) at_x)))
