-- The hull that the program takes of a table against the intensity of the exact table at every depth.
use Rattle.std.proofs.Common.{ℕ, ◌+◌, ◌*◌, ◌-◌, ◌<◌, ◌≤◌, ◌≡◌, inl, inr, arith, ℤ, pos, negsuc, ◌+ℤ◌, ◌≤ℤ◌, ◌<ℤ◌}
use Rattle.std.proofs.lemmas.Int.{ints}
use Rattle.fx_base.specs.Fraction.{◌≤ᶠ◌, ◌+ᶠ◌, whole, ratio, half_power}
use Rattle.fx_base.specs.Interval.{Interval, InOrder, Meets, LiesIn, MeetsOnCircle, outward}
use Rattle.fx_base.specs.Ends.{Ends}
use Rattle.fx_base.specs.Units.{ticks, millionths, natural, of_span, of_bracket}
use Rattle.fx_base.specs.declared.micro.Bracket.{Bracket}
use Rattle.fx_base.proofs.Order.{le_refl_f, le_trans_f, add_le_f, add_zero_f, le_add_f, add_right_f, sub_le_f, sub_back_f}
use Rattle.fx_base.proofs.Rounding.{natural-mono}
use Rattle.room_layout.specs.Place.{Place, squared_distance}
use Rattle.room_layout.specs.declared.room.Lamp.{Lamp}
use Rattle.angle_bracket.specs.Direction.{direction_c, direction_gamma}
use Rattle.angle_bracket.proofs.Ordered.{c_in_order, gamma_in_order}
use Rattle.photo_table.specs.Hull.{hull}
use Rattle.photo_table.specs.Kept.{Rounds}
use Rattle.photo_table.specs.Laws.{StandsFor, MeetTurned, loose_c, loose_gamma}
use Rattle.photo_table.specs.Table.{Table, IsTable}
use Rattle.photo_table.proofs.HullLaws.{hulls_meet, hulls_near}
use Rattle.direct_light.specs.Directions.{step_towards, c_towards, gamma_towards, seen, loose_seen, bracket_width}
use Rattle.direct_light.specs.Ways.{IsNarrowBracket, AreAngles}
use Rattle.direct_light.specs.declared.angles.Angles.{Angles}
use Rattle.direct_light.proofs.Frames.{somewhere_towards}

-- ---- brackets of whole millionths

millionths_le : (a b : ℕ) → a ≤ b → millionths a ≤ᶠ millionths b
unfolding millionths
millionths_le a b h = record { cross = omega arith }

natural_most : (a : ℤ) (m : ℕ) → a ≤ℤ pos m → natural a ≤ m
natural_most (pos a) m h = omega (arith, ints)
natural_most (negsuc a) m h = omega arith

pub natural_below : (a : ℤ) (m : ℕ) → 0 < m → a <ℤ pos m → natural a < m
natural_below (pos a) m p h = omega (arith, ints)
natural_below (negsuc a) m p h = omega arith

pub natural_narrow : (a b : ℤ) (m : ℕ) → pos 0 ≤ℤ a → b ≤ℤ (a +ℤ pos m) → natural b ≤ natural a + m
natural_narrow (pos a) (pos b) m g h = omega (arith, ints)
natural_narrow (pos a) (negsuc b) m g h = omega arith
natural_narrow (negsuc a) b m g h = absurd (omega (arith, ints))

bracket_order : (b : Bracket) → IsNarrowBracket b → InOrder (of_bracket b)
bracket_order b h = millionths_le (natural b.lo.0) (natural b.hi.0) (natural-mono b.lo.0 b.hi.0 h.not_negative h.in_order)

width : (a b : ℕ) → b ≤ a + 250 → millionths b ≤ᶠ (millionths a +ᶠ bracket_width)
unfolding millionths ratio ◌+ᶠ◌
width a b h = record { cross = omega arith }

bracket_narrow : (b : Bracket) → IsNarrowBracket b → (of_bracket b).hi ≤ᶠ ((of_bracket b).lo +ᶠ bracket_width)
bracket_narrow b h = width (natural b.lo.0) (natural b.hi.0) h.narrow

half_turn : (m : ℕ) → m ≤ 180000000 → millionths m ≤ᶠ whole 180
unfolding millionths whole
half_turn m h = record { cross = omega arith }

width_small : bracket_width ≤ᶠ whole 360
unfolding ratio whole
width_small = record { cross = omega arith }

-- ---- brackets of C that meet up to whole turns

pub record MeetSomehow (c d : Interval) : Type 0 where
  pub turns : ℕ
  pub others : ℕ
  pub meet : MeetTurned turns others c d

circle_meets : (c d : Interval) → MeetsOnCircle c d → MeetSomehow c d
circle_meets c d (k, inl h) = record {
  turns = k;
  others = 0;
  meet = record {
    above = le_trans_f h.above (le_add_f d.hi (whole 0));
    below = le_trans_f (add_zero_f d.lo) h.below;
  };
}
circle_meets c d (k, inr h) = record {
  turns = 0;
  others = k;
  meet = record {
    above = le_trans_f (add_zero_f c.lo) h.above;
    below = le_trans_f h.below (le_add_f c.hi (whole 0));
  };
}

-- ---- the hull in ticks

-- it is rounded outward
rounded_meets : (i j : Interval) (s : Ends) → Rounds i.lo i.hi (natural s.lo) (natural s.hi) → Meets i j → Meets (of_span s) j
rounded_meets i j s r m = record { above = le_trans_f r.low m.above; below = le_trans_f m.below r.high }

two_ticks_on : (k : ℕ) → (ticks (k + 1) +ᶠ ticks 1) ≤ᶠ (ticks k +ᶠ half_power 30)
unfolding ticks half_power ◌+ᶠ◌
two_ticks_on k = record { cross = omega arith }

tick_back : (k : ℕ) → ticks k ≤ᶠ (ticks (k - 1) +ᶠ ticks 1)
unfolding ticks ◌+ᶠ◌
tick_back k = record { cross = omega arith }

two_ticks_small : (ticks 1 +ᶠ ticks 1) ≤ᶠ half_power 30
unfolding ticks half_power ◌+ᶠ◌
two_ticks_small = record { cross = omega arith }

-- by at most a tick, and so is the hull of the exact table: together these are within 2^-30 cd
rounded_near : (i j : Interval) (s : Ends) → Rounds i.lo i.hi (natural s.lo) (natural s.hi) → LiesIn i (outward (ticks 1) j) → LiesIn (of_span s) (outward (half_power 30) j)
rounded_near i j s r h = record {
  lower = sub_le_f j.lo (half_power 30)
      (le_trans_f (sub_back_f j.lo (ticks 1) h.lower) (le_trans_f (add_le_f r.low_near (le_refl_f (ticks 1))) (two_ticks_on (natural s.lo))));
  upper = le_trans_f (tick_back (natural s.hi))
      (le_trans_f (add_le_f (le_trans_f r.high_near h.upper) (le_refl_f (ticks 1)))
      (le_trans_f (add_right_f j.hi (ticks 1) (ticks 1)) (add_le_f (le_refl_f j.hi) two_ticks_small)));
}

-- ---- at the angles of the program

pub seen_meets : (p t : Table) (l : Lamp) (q r : Place) (a : Angles) (s : Ends) → IsTable p → StandsFor p t → 0 < squared_distance r q → AreAngles l q r a
    → Rounds (hull p (of_bracket a.c) (of_bracket a.gamma)).lo (hull p (of_bracket a.c) (of_bracket a.gamma)).hi (natural s.lo) (natural s.hi)
    → (n : ℕ) → Meets (of_span s) (seen n t l q r)
seen_meets p t l q r a s is stands apart h rounds n =
    let m = circle_meets (of_bracket a.c) (c_towards n l q r) (h.c_meets n) in
    rounded_meets (hull p (of_bracket a.c) (of_bracket a.gamma)) (seen n t l q r) s rounds
    (hulls_meet p t is stands m.turns m.others (of_bracket a.c) (of_bracket a.gamma) (c_towards n l q r) (gamma_towards n l q r)
    (bracket_order a.c h.c_narrow) (bracket_order a.gamma h.gamma_narrow) (c_in_order n (step_towards l q r).x (step_towards l q r).y l.turn)
    (gamma_in_order n (step_towards l q r).x (step_towards l q r).y (step_towards l q r).z (somewhere_towards l q r apart)) m.meet (h.gamma_meets n))

pub seen_near : (p t : Table) (l : Lamp) (q r : Place) (a : Angles) (s : Ends) → IsTable p → StandsFor p t → AreAngles l q r a
    → Rounds (hull p (of_bracket a.c) (of_bracket a.gamma)).lo (hull p (of_bracket a.c) (of_bracket a.gamma)).hi (natural s.lo) (natural s.hi)
    → (n : ℕ) → LiesIn (of_span s) (loose_seen n t l q r)
seen_near p t l q r a s is stands h rounds n =
    let m = circle_meets (of_bracket a.c) (c_towards n l q r) (h.c_meets n) in
    rounded_near (hull p (of_bracket a.c) (of_bracket a.gamma)) (hull t (loose_c bracket_width (c_towards n l q r)) (loose_gamma bracket_width (gamma_towards n l q r))) s rounds
    (hulls_near p t is stands bracket_width m.turns m.others (of_bracket a.c) (of_bracket a.gamma) (c_towards n l q r) (gamma_towards n l q r)
    (bracket_order a.c h.c_narrow) (bracket_order a.gamma h.gamma_narrow) width_small (bracket_narrow a.c h.c_narrow) (bracket_narrow a.gamma h.gamma_narrow)
    (half_turn (natural a.gamma.hi.0) h.gamma_within) m.meet (h.gamma_meets n))

-- what the calls of the two angles say, for the coordinates x, y and z of the step
pub angles_are : (l : Lamp) (q r : Place) (x y z : ℤ) (a : Angles) → x ≡ (step_towards l q r).x → y ≡ (step_towards l q r).y → z ≡ (step_towards l q r).z
    → ((n : ℕ) → MeetsOnCircle (of_bracket a.c) (direction_c n x y l.turn)) → ((n : ℕ) → Meets (of_bracket a.gamma) (direction_gamma n x y z))
    → IsNarrowBracket a.c → IsNarrowBracket a.gamma → a.c.lo.0 <ℤ pos 360000000 → a.gamma.hi.0 ≤ℤ pos 180000000 → AreAngles l q r a
angles_are l q r x y z a ex ey ez c_meets gamma_meets c_narrow gamma_narrow below within = record {
  c_meets = λ n. rw (ex, ey) at (c_meets n);
  c_narrow = c_narrow;
  c_below = natural_below a.c.lo.0 360000000 (omega arith) below;
  gamma_meets = λ n. rw (ex, ey, ez) at (gamma_meets n);
  gamma_narrow = gamma_narrow;
  gamma_within = natural_most a.gamma.hi.0 180000000 within;
}

pub narrow_bracket : (b : Bracket) → pos 0 ≤ℤ b.lo.0 → b.lo.0 ≤ℤ b.hi.0 → b.hi.0 ≤ℤ (b.lo.0 +ℤ pos 250) → IsNarrowBracket b
narrow_bracket b g h i = record { not_negative = g; in_order = h; narrow = natural_narrow b.lo.0 b.hi.0 250 g i }

-- ---- how great the light is

pub most_of_table : (light part parts m : ℕ) → part ≤ m + 1 → light * parts ≤ part * 4000000 + 2 * parts → light * parts ≤ (m + 1) * 4000000 + 2 * parts
most_of_table light part parts m g h = omega (arith, g, h)
