-- The hull contains what it should, grows with its brackets, and meets and is near the hull of the exact table.
use Rattle.std.proofs.Common.{ℕ, suc, ◌+◌, ◌*◌, ◌≤◌, ◌≡◌, arith, length, slice_index_or, sym, List, subst, ◌<◌}
use Rattle.std.proofs.Math.Nat.{mul-le-mul_left}
use Rattle.fx_base.specs.Fraction.{Fraction, ◌≤ᶠ◌, ◌≈ᶠ◌, whole, ◌+ᶠ◌, ◌-ᶠ◌, lesser, greater}
use Rattle.fx_base.specs.Interval.{Interval, InOrder, LiesIn, Meets, Contains, turned}
use Rattle.fx_base.specs.Units.{millionths, ticks}
use Rattle.fx_base.proofs.Order.{le_refl_f, le_trans_f, eq_of_le_f, le_of_eq_f, ge_of_eq_f, add_le_f, add_swap_f, add_cancel_f, le_add_left_f, le_sub_f, sub_le_f, sub_add_f, sub_back_f, le_sub_add_f, le_add_f, add_zero_f}
use Rattle.fx_base.proofs.Ratios.{greater_left, greater_right, greater_le, le_lesser}
use Rattle.fx_base.proofs.Near.{meets_sym}
use Rattle.photo_table.specs.Angles.{turn_later, later}
use Rattle.photo_table.specs.Table.{Table, IsTable, plane, end_at, lower, upper, value, bilinear}
use Rattle.photo_table.specs.Hull.{plane_extreme, hull}
use Rattle.photo_table.specs.Laws.{StandsFor, MeetTurned, loose_c, loose_gamma, HullContains, HullGrows, HullsMeet, HullsNear}
use Rattle.photo_table.proofs.Outward.{outward_below, outward_above}
use Rattle.photo_table.proofs.Tables.{plane_at, end_moved, end_near, IsNear}
use Rattle.photo_table.proofs.Hulls.{extreme_contains, extreme_all, extreme_grows}

-- ---- a turn later

pub turn_later_le : {x y : Fraction} → x ≤ᶠ y → turn_later x ≤ᶠ turn_later y
unfolding turn_later
turn_later_le {x} {y} h = let g = h.cross in record { cross = omega arith }

pub turn_later_is : (x : Fraction) → turn_later x ≈ᶠ (x +ᶠ whole 360)
unfolding turn_later ◌+ᶠ◌ whole
turn_later_is x = record { cross = omega arith }

pub first_is : (t : Table) → IsTable t → plane t 0 ≡ slice_index_or t.planes 0 0
first_is t h =
    let e : 0 * length t.planes + 0 ≡ 0 = omega arith in
    let f = plane_at t 0 0 h.some_plane in
    let g = rw e at f in omega arith

-- every angle lies above the first plane a turn later
pub first_below : (t : Table) → IsTable t → (x : Fraction) → millionths (plane t 0) ≤ᶠ turn_later x
unfolding turn_later millionths
first_below t h x = let e = first_is t h in let g = h.first_plane in
    record { cross = rw e (omega (arith, mul-le-mul_left x.den g)) }

later_shift : (a b u v : Fraction) → (a +ᶠ u) ≤ᶠ (b +ᶠ v) → (turn_later a +ᶠ u) ≤ᶠ (turn_later b +ᶠ v)
later_shift a b u v h =
    le_trans_f (add_le_f (le_of_eq_f (turn_later_is a)) (le_refl_f u))
    (le_trans_f (add_swap_f a (whole 360) u)
    (le_trans_f (add_le_f h (le_refl_f (whole 360)))
    (le_trans_f (add_swap_f b v (whole 360))
    (add_le_f (ge_of_eq_f (turn_later_is b)) (le_refl_f v)))))

later_in : (m n : ℕ) (c d : Interval) → LiesIn (turned m c) (turned n d) → LiesIn (turned m (later c)) (turned n (later d))
later_in m n c d h = record {
  lower = later_shift d.lo c.lo (whole (360 * n)) (whole (360 * m)) h.lower;
  upper = later_shift c.hi d.hi (whole (360 * m)) (whole (360 * n)) h.upper;
}

later_meet : (m n : ℕ) (c d : Interval) → MeetTurned m n c d → MeetTurned m n (later c) (later d)
later_meet m n c d h = record {
  above = later_shift c.lo d.hi (whole (360 * m)) (whole (360 * n)) h.above;
  below = later_shift d.lo c.hi (whole (360 * n)) (whole (360 * m)) h.below;
}

-- ---- contains, grows

pub hull_contains : HullContains
unfolding hull bilinear
hull_contains t h c g x y in_c in_g =
    let in_later : Contains (later c) (turn_later x) = (turn_later_le in_c.0, turn_later_le in_c.1) in
    record {
      lower = extreme_contains lesser (λ a b. a ≤ᶠ b) outward_below lower t h (later c) g (turn_later x) y (first_below t h c.lo) in_later in_g;
      upper = extreme_contains greater (λ a b. b ≤ᶠ a) outward_above upper t h (later c) g (turn_later x) y (first_below t h c.lo) in_later in_g;
    }

pub hull_grows : HullGrows
unfolding hull
hull_grows t is m n c g d h order_c order_g in_d in_h =
    let l = later_in m n c d in_d in
    record {
      lower = extreme_grows lesser (λ a b. a ≤ᶠ b) outward_below lower t is m n (later c) g (later d) h (first_below t is c.lo) (first_below t is d.lo) (turn_later_le order_c) order_g l in_h;
      upper = extreme_grows greater (λ a b. b ≤ᶠ a) outward_above upper t is m n (later c) g (later d) h (first_below t is c.lo) (first_below t is d.lo) (turn_later_le order_c) order_g l in_h;
    }

-- ---- meets

-- the place in the bracket that is z after so many turns
pub record HasPlace (turns : ℕ) (c : Interval) (z : Fraction) : Type 0 where
  pub x : Fraction
  pub inside : Contains c x
  pub same : z ≈ᶠ (x +ᶠ whole (360 * turns))

place_of : (turns : ℕ) (c : Interval) (z : Fraction) → Contains (turned turns c) z → HasPlace turns c z
place_of turns c z h = record {
  x = z -ᶠ whole (360 * turns);
  inside = (le_sub_f z (whole (360 * turns)) h.0, sub_le_f z (whole (360 * turns)) h.1);
  same = eq_of_le_f (le_sub_add_f z (whole (360 * turns))) (sub_add_f z (whole (360 * turns)) (le_trans_f (le_add_left_f c.lo (whole (360 * turns))) h.0));
}

-- where p's lower ends are at most t's upper ends, p's hull begins at or below the end of t's
ends_cross : (p t : Table) → IsTable p → IsTable t → IsNear p t lower upper (whole 0) → (m n : ℕ) (c g d h : Interval)
    → InOrder c → InOrder g → InOrder d → InOrder h → MeetTurned m n c d → Meets g h → (hull p c g).lo ≤ᶠ (hull t d h).hi
unfolding hull
ends_cross p t is_p is_t near m n c g d h order_c order_g order_d order_h meet_c meet_g =
    let meet = later_meet m n c d meet_c in
    let c' = later c in
    let d' = later d in
    let z = greater (c'.lo +ᶠ whole (360 * m)) (d'.lo +ᶠ whole (360 * n)) in
    let y = greater g.lo h.lo in
    let in_c : Contains (turned m c') z = (greater_left _ _, greater_le _ _ (add_le_f (turn_later_le order_c) (le_refl_f (whole (360 * m)))) meet.below) in
    let in_d : Contains (turned n d') z = (greater_right _ _, greater_le _ _ meet.above (add_le_f (turn_later_le order_d) (le_refl_f (whole (360 * n))))) in
    let in_g : Contains g y = (greater_left g.lo h.lo, greater_le g.lo h.lo order_g meet_g.below) in
    let in_h : Contains h y = (greater_right g.lo h.lo, greater_le g.lo h.lo meet_g.above order_h) in
    let a = place_of m c' z in_c in
    let b = place_of n d' z in_d in
    let low_p = le_trans_f (first_below p is_p c.lo) a.inside.0 in
    let low_t = le_trans_f (first_below t is_t d.lo) b.inside.0 in
    let low_z = le_trans_f low_p (le_trans_f (le_add_f a.x (whole (360 * m))) (ge_of_eq_f a.same)) in
    le_trans_f (extreme_contains lesser (λ i j. i ≤ᶠ j) outward_below lower p is_p c' g a.x y (first_below p is_p c.lo) a.inside in_g)
    (le_trans_f (ge_of_eq_f (end_moved lower p is_p m a.x z y low_p a.same))
    (le_trans_f (end_near p t lower upper (whole 0) is_p is_t near z y low_z)
    (le_trans_f (add_zero_f (end_at upper t z y))
    (le_trans_f (le_of_eq_f (end_moved upper t is_t n b.x z y low_t b.same))
    (extreme_contains greater (λ i j. j ≤ᶠ i) outward_above upper t is_t d' h b.x y (first_below t is_t d.lo) b.inside in_h)))))

-- the exact table has the same planes and gammas, so it is one too
pub stands_table : (p t : Table) → IsTable p → StandsFor p t → IsTable t
stands_table p t h s = record {
  some_plane = let P : List ℕ → Type 0 = λ z. 0 < length z in subst P s.planes h.some_plane;
  planes_rise = let P : List ℕ → Type 0 = λ z. (i j : ℕ) → i < j → j < length z → slice_index_or z i 0 < slice_index_or z j 0 in subst P s.planes h.planes_rise;
  first_plane = let P : List ℕ → Type 0 = λ z. slice_index_or z 0 0 ≤ 360000000 in subst P s.planes h.first_plane;
  one_turn = let P : List ℕ → Type 0 = λ z. (i : ℕ) → i < length z → slice_index_or z i 0 < slice_index_or z 0 0 + 360000000 in subst P s.planes h.one_turn;
  two_gammas = let P : List ℕ → Type 0 = λ z. 2 ≤ length z in subst P s.gammas h.two_gammas;
  gammas_rise = let P : List ℕ → Type 0 = λ z. (i j : ℕ) → i < j → j < length z → slice_index_or z i 0 < slice_index_or z j 0 in subst P s.gammas h.gammas_rise;
  gammas_up_to = let P : List ℕ → Type 0 = λ z. (j : ℕ) → j < length z → slice_index_or z j 0 ≤ 180000000 in subst P s.gammas h.gammas_up_to;
  all_values = rw (← s.all_values, ← s.planes, ← s.gammas) h.all_values;
}

pub hulls_meet : HullsMeet
hulls_meet p t is_p s m n c g d h order_c order_g order_d order_h meet_c meet_g = let is_t = stands_table p t is_p s in record {
  above = ends_cross p t is_p is_t
      (record { planes = s.planes; gammas = s.gammas; values = λ i j. le_trans_f (s.low i j) (le_trans_f (le_of_eq_f (s.exact i j)) (le_add_f (value t i j).hi (whole 0))) })
      m n c g d h order_c order_g order_d order_h meet_c meet_g;
  below = ends_cross t p is_t is_p
      (record { planes = sym s.planes; gammas = sym s.gammas; values = λ i j. le_trans_f (le_of_eq_f (s.exact i j)) (le_trans_f (s.high i j) (le_add_f (value p i j).hi (whole 0))) })
      n m d h c g order_d order_h order_c order_g (meets_sym meet_c) (meets_sym meet_g);
}

-- ---- near

low_near : (p t : Table) → IsTable p → IsTable t → (e : Fraction) → IsNear t p lower lower e → (c g : Interval) → InOrder c → InOrder g
    → (hull t c g).lo ≤ᶠ ((hull p c g).lo +ᶠ e)
unfolding hull
low_near p t is_p is_t e near c g order_c order_g =
    let m = plane_extreme lesser lower t (later c) g in
    sub_back_f m e (extreme_all lesser (λ a b. a ≤ᶠ b) outward_below lower p (later c) g (m -ᶠ e) (turn_later_le order_c) order_g
    (λ x y in_c in_g. sub_le_f m e
    (le_trans_f (extreme_contains lesser (λ a b. a ≤ᶠ b) outward_below lower t is_t (later c) g x y (first_below t is_t c.lo) in_c in_g)
    (end_near t p lower lower e is_t is_p near x y (le_trans_f (first_below t is_t c.lo) in_c.0)))))

high_near : (p t : Table) → IsTable p → IsTable t → (e : Fraction) → IsNear p t upper upper e → (c g : Interval) → InOrder c → InOrder g
    → (hull p c g).hi ≤ᶠ ((hull t c g).hi +ᶠ e)
unfolding hull
high_near p t is_p is_t e near c g order_c order_g =
    let m = plane_extreme greater upper t (later c) g in
    extreme_all greater (λ a b. b ≤ᶠ a) outward_above upper p (later c) g (m +ᶠ e) (turn_later_le order_c) order_g
    (λ x y in_c in_g. le_trans_f (end_near p t upper upper e is_p is_t near x y (le_trans_f (first_below p is_p c.lo) in_c.0))
    (add_le_f (extreme_contains greater (λ a b. b ≤ᶠ a) outward_above upper t is_t (later c) g x y (first_below t is_t c.lo) in_c in_g) (le_refl_f e)))

-- one turn more
turn_more : (x : Fraction) (m : ℕ) → (x +ᶠ whole (360 * suc m)) ≈ᶠ ((x +ᶠ whole (360 * m)) +ᶠ whole 360)
unfolding ◌+ᶠ◌ whole
turn_more x m = record { cross = omega arith }

regrouped : (a b u v : Fraction) → (((a +ᶠ b) +ᶠ u) +ᶠ v) ≤ᶠ (((a +ᶠ v) +ᶠ u) +ᶠ b)
unfolding ◌+ᶠ◌
regrouped a b u v = record { cross = omega arith }

near_circle : (w : Fraction) (m n : ℕ) (c d : Interval) → w ≤ᶠ whole 360 → c.hi ≤ᶠ (c.lo +ᶠ w) → MeetTurned m n c d
    → LiesIn (turned (suc m) c) (turned n (loose_c w d))
near_circle w m n c d small narrow meet = record {
  lower = add_cancel_f _ _ w
      (le_trans_f (add_swap_f ((d.lo +ᶠ whole 360) -ᶠ w) (whole (360 * n)) w)
      (le_trans_f (add_le_f (sub_add_f (d.lo +ᶠ whole 360) w (le_trans_f small (le_add_left_f d.lo (whole 360)))) (le_refl_f (whole (360 * n))))
      (le_trans_f (add_swap_f d.lo (whole 360) (whole (360 * n)))
      (le_trans_f (add_le_f (le_trans_f meet.below (le_trans_f (add_le_f narrow (le_refl_f (whole (360 * m)))) (add_swap_f c.lo w (whole (360 * m))))) (le_refl_f (whole 360)))
      (le_trans_f (add_swap_f (c.lo +ᶠ whole (360 * m)) w (whole 360))
      (add_le_f (ge_of_eq_f (turn_more c.lo m)) (le_refl_f w)))))));
  upper =
      le_trans_f (le_of_eq_f (turn_more c.hi m))
      (le_trans_f (add_le_f (le_trans_f (add_le_f narrow (le_refl_f (whole (360 * m)))) (le_trans_f (add_swap_f c.lo w (whole (360 * m))) (add_le_f meet.above (le_refl_f w)))) (le_refl_f (whole 360)))
      (regrouped d.hi (whole (360 * n)) w (whole 360)));
}

pub hulls_near : HullsNear
hulls_near p t is_p s w m n c g d h order_c order_g small narrow_c narrow_g high meet_c meet_g =
    let is_t = stands_table p t is_p s in
    let in_c = near_circle w m n c d small narrow_c meet_c in
    let in_g : LiesIn g (loose_gamma w h) = record {
      lower = sub_le_f h.lo w (le_trans_f meet_g.below narrow_g);
      upper = le_lesser (h.hi +ᶠ w) (whole 180) (le_trans_f narrow_g (add_le_f meet_g.above (le_refl_f w))) high;
    } in
    let grown = hull_grows t is_t (suc m) n c g (loose_c w d) (loose_gamma w h) order_c order_g in_c in_g in
    record {
      lower = sub_le_f (hull t (loose_c w d) (loose_gamma w h)).lo (ticks 1)
          (le_trans_f grown.lower (low_near p t is_p is_t (ticks 1) (record { planes = sym s.planes; gammas = sym s.gammas; values = s.low_near }) c g order_c order_g));
      upper = le_trans_f (high_near p t is_p is_t (ticks 1) (record { planes = s.planes; gammas = s.gammas; values = s.high_near }) c g order_c order_g)
          (add_le_f grown.upper (le_refl_f (ticks 1)));
    }
