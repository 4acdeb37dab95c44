use Rattle.std.proofs.Common.{sym}
use Rattle.room_layout.specs.Place.{place_of}
use Rattle.room_layout.specs.Positions.{place_at}
use Rattle.sight_line.specs.Sight.{is_clear}
use Rattle.scene_system.proofs.Shares.{behind_share, hidden_share}
use Rattle.scene_system.proofs.light.light_of_point.Goals as goal

pub returns-then-in_front-eq0 : goal.returns-then-in_front-eq0
returns-then-in_front-eq0 c = record {
  light = behind_share c.args.sources.now.photos.now c.args.lamp.now (place_of c.args.from.now.at) (place_of c.args.at.now.at) (place_at c.position_of-here.result) (place_at c.position_of-there.result)
      c.args.face (is_clear c.args.sources.now.room.now (place_of c.args.from.now.at) (place_of c.args.at.now.at)) c.in_front.result c.whole.result
      c.position_of-here.ensures.place c.position_of-there.ensures.place c.in_front.ensures.front c.if-in_front-eq0.true c.whole.ensures.low c.whole.ensures.high;
}

pub returns-then-not-is_clear : goal.returns-then-not-is_clear
returns-then-not-is_clear c = record {
  light = hidden_share c.args.sources.now.photos.now c.args.lamp.now (place_of c.args.from.now.at) (place_of c.args.at.now.at) c.args.face
      (is_clear c.args.sources.now.room.now (place_of c.args.from.now.at) (place_of c.args.at.now.at)) c.whole-then-not-is_clear.result (sym c.if-not-is_clear.ensures)
      c.whole-then-not-is_clear.ensures.low c.whole-then-not-is_clear.ensures.high;
}
