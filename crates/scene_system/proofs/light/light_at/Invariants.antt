use Rattle.room_layout.specs.Place.{place_of}
use Rattle.scene_system.proofs.Lights.{IsLightOfFirst}
use Rattle.scene_system.proofs.light.light_at.Given as goal

abbrev pub invariant-loop-k : goal.invariant-loop-k
invariant-loop-k l = IsLightOfFirst l.sources.photos.now l.sources.room.now (place_of l.at.at) l.face l.k l.light
