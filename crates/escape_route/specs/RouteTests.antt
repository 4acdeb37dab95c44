-- Routes, computed. The points are worked out by hand.
use Rattle.std.specs.Prelude.{◌≡◌, ◌⊎◌, ℕ, [], ◌∷◌, map, refl}
use Rattle.std.proofs.Common.{lit<, lit≤, inl, inr}
use Rattle.std.proofs.lemmas.List.Elements.{All-nil}
use Rattle.room_layout.specs.Place.{Place}
use Rattle.escape_route.specs.Routes.{point_count, route_place, towards, IsFirstMissing, IsLineIn}
use Rattle.escape_route.specs.declared.route.Route.{Route}

-- 1,200 mm along y, the one way and the other
abbrev up : Route
up = record { x0 = 1000; y0 = 300; x1 = 1000; y1 = 1500 }

abbrev down : Route
down = record { x0 = 1000; y0 = 1500; x1 = 1000; y1 = 300 }

abbrev place : ℕ → Place
place y = record { x = 2000; y = y; z = 0 }

four_points : point_count up ≡ 4
four_points = refl

points_up : route_place up 0 ∷ route_place up 1 ∷ route_place up 2 ∷ route_place up 3 ∷ [] ≡ place 600 ∷ place 1600 ∷ place 2600 ∷ place 3000 ∷ []
points_up = refl

points_down : route_place down 0 ∷ route_place down 1 ∷ route_place down 2 ∷ route_place down 3 ∷ [] ≡ place 3000 ∷ place 2000 ∷ place 1000 ∷ place 600 ∷ []
points_down = refl

-- a line of no length has one point, one of 500 mm two, and one of 501 mm three
abbrev to : ℕ → Route
to x = record { x0 = 1000; y0 = 300; x1 = x; y1 = 300 }

counts : map (λ x. point_count (to x)) (1000 ∷ 1499 ∷ 1500 ∷ 1501 ∷ 499 ∷ []) ≡ 1 ∷ 2 ∷ 2 ∷ 3 ∷ 3 ∷ []
counts = refl

no_further_than_the_end : towards 100 350 500 ∷ towards 350 100 500 ∷ towards 350 100 100 ∷ [] ≡ 700 ∷ 200 ∷ 500 ∷ []
no_further_than_the_end = refl

along_an_axis : IsLineIn (record { x = 1000; y = 1500; z = 3000 }) up
along_an_axis = record { along = inl refl; first_x = lit≤ tt; first_y = lit≤ tt; second_x = lit≤ tt; second_y = lit≤ tt }

-- and a line that lies along neither
abbrev slanting : Route
slanting = record { x0 = 0; y0 = 1; x1 = 1; y1 = 0 }

along_neither : (slanting.x0 ≡ slanting.x1) ⊎ (slanting.y0 ≡ slanting.y1) → ⊥
along_neither (inl e) = cc
along_neither (inr e) = cc

-- of three lamps there is none of number 3
third_is_missing : IsFirstMissing 3 (3 ∷ 7 ∷ []) 3
third_is_missing = record { place = 0; within = lit< tt; is = refl; missing = lit≤ tt; before = All-nil _ }
