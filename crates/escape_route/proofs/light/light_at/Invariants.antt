-- The light so far is that of the first marked lamps.
use Rattle.room_layout.specs.Place.{place_of}
use Rattle.escape_route.proofs.Marked.{IsLightOfFirst}
use Rattle.escape_route.proofs.light.light_at.Given as goal

abbrev pub invariant-loop-i : goal.invariant-loop-i
invariant-loop-i l = IsLightOfFirst l.photos l.room l.lamps (place_of l.at) l.i l.light
