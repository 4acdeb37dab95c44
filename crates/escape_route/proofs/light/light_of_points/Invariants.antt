-- The light so far is that of the first points of the lamp.
use Rattle.room_layout.specs.Place.{place_of}
use Rattle.room_layout.specs.declared.geometry.Face.TheVariants.{Up}
use Rattle.direct_light.specs.Found.{greatest_intensity}
use Rattle.direct_light.proofs.Found.{IsLightOfPoints}
use Rattle.escape_route.proofs.light.light_of_points.Given as goal

abbrev pub invariant-loop-i : goal.invariant-loop-i
invariant-loop-i l = IsLightOfPoints l.photos greatest_intensity l.room (place_of l.at) Up l.lamp l.i l.light
