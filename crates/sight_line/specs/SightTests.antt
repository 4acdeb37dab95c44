-- Segments in a room of 3000 mm on each edge with a box from 1000 to 2000 on each axis; the rows are worked out by hand
-- where nothing else is said.
use Rattle.std.specs.Prelude.{ℕ, ◌≡◌, ◌*◌, true, false, refl, [], ◌∷◌}
use Rattle.std.proofs.Common.{lit<}
use Rattle.std.proofs.lemmas.List.Elements.{All-nil}
use Rattle.room_layout.specs.Place.{Place}
use Rattle.room_layout.specs.declared.room.Block.{Block}
use Rattle.sight_line.specs.Sight.{MeetsBox, NoneMet, IsFirstMet, meets_box, is_blocked}

abbrev box : Block
box = record { lo = record { x = 1000; y = 1000; z = 1000 }; hi = record { x = 2000; y = 2000; z = 2000 }; reflect = 0 }

-- the place at so many millimetres
abbrev place : ℕ → ℕ → ℕ → Place
place a b c = record { x = 2 * a; y = 2 * b; z = 2 * c }

through : meets_box (place 0 1500 1500) (place 3000 1500 1500) box ≡ true
unfolding meets_box
through = refl

-- the relation on the same segment: its middle
through_relation : MeetsBox (place 0 1500 1500) (place 3000 1500 1500) box
through_relation = record { r = 1; s = 1; some = lit< tt; x = (lit< tt, lit< tt); y = (lit< tt, lit< tt); z = (lit< tt, lit< tt) }

along_a_face : meets_box (place 0 1000 1500) (place 3000 1000 1500) box ≡ false
unfolding meets_box
along_a_face = refl

through_an_edge : meets_box (place 0 2000 1500) (place 2000 0 1500) box ≡ false
unfolding meets_box
through_an_edge = refl

-- half a millimetre nearer the middle of the box, the segment cuts the edge off
beside_an_edge : meets_box (record { x = 1; y = 4000; z = 3000 }) (record { x = 4001; y = 0; z = 3000 }) box ≡ true
unfolding meets_box
beside_an_edge = refl

ends_on_a_face : meets_box (place 0 1500 1500) (place 1000 1500 1500) box ≡ false
unfolding meets_box
ends_on_a_face = refl

ends_half_a_millimetre_inside : meets_box (place 0 1500 1500) (record { x = 2001; y = 3000; z = 3000 }) box ≡ true
unfolding meets_box
ends_half_a_millimetre_inside = refl

one_point : meets_box (place 500 500 500) (place 500 500 500) box ≡ false
unfolding meets_box
one_point = refl

from_inside : meets_box (place 1500 1500 1500) (place 0 0 0) box ≡ true
unfolding meets_box
from_inside = refl

-- the relation at the end that lies inside: all weight at it
from_inside_relation : MeetsBox (place 1500 1500 1500) (place 0 0 0) box
from_inside_relation = record { r = 1; s = 0; some = lit< tt; x = (lit< tt, lit< tt); y = (lit< tt, lit< tt); z = (lit< tt, lit< tt) }

point_inside : meets_box (place 1500 1500 1500) (place 1500 1500 1500) box ≡ true
unfolding meets_box
point_inside = refl

-- within the box on each axis somewhere, and nowhere on all three at once
never_at_once : meets_box (place 0 1500 1500) (place 1500 3000 1500) box ≡ false
unfolding meets_box
never_at_once = refl

no_box : is_blocked [] (place 0 1500 1500) (place 3000 1500 1500) ≡ false
unfolding is_blocked
no_box = refl

second_box : is_blocked (record box { hi = record { x = 1500; y = 1500; z = 1500 } } ∷ box ∷ []) (place 0 1500 1500) (place 3000 1500 1500) ≡ true
unfolding is_blocked meets_box
second_box = refl

-- ---- with other answers: those of `meets` in expected/segments.py, a search over fractions

-- on a way that runs along all three axes, half a millimetre at one end decides
just_past : meets_box (record { x = 996; y = 4948; z = 4172 }) (record { x = 3967; y = 3778; z = 1491 }) box ≡ false
unfolding meets_box
just_past = refl

just_met : meets_box (record { x = 996; y = 4948; z = 4172 }) (record { x = 3967; y = 3778; z = 1492 }) box ≡ true
unfolding meets_box
just_met = refl

other_way_past : meets_box (record { x = 1095; y = 667; z = 2978 }) (record { x = 5588; y = 4069; z = 482 }) box ≡ false
unfolding meets_box
other_way_past = refl

other_way_met : meets_box (record { x = 1095; y = 667; z = 2979 }) (record { x = 5588; y = 4069; z = 482 }) box ≡ true
unfolding meets_box
other_way_met = refl

-- no box is met where there is none, and of two equal boxes the first is
none_met : NoneMet [] (place 0 1500 1500) (place 3000 1500 1500)
none_met = All-nil _

first_is_met : IsFirstMet (box ∷ box ∷ []) (place 0 1500 1500) (place 3000 1500 1500) 0
first_is_met = record { met = through_relation; none_before = All-nil _ }
