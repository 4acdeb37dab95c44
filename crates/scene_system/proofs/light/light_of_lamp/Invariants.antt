use Rattle.room_layout.specs.Place.{place_of}
use Rattle.direct_light.proofs.Found.{IsLightOfPoints}
use Rattle.scene_system.specs.Causes.{ticks_of}
use Rattle.scene_system.proofs.light.light_of_lamp.Given as goal

abbrev pub invariant-loop-i : goal.invariant-loop-i
invariant-loop-i l = IsLightOfPoints l.sources.photos.now (ticks_of l.sources.photos.now l.lamp) l.sources.room.now (place_of l.at.at) l.face l.lamp l.i l.light
