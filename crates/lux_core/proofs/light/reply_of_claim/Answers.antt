-- What of `reply_of_claim` wants a proof by hand.
use Rattle.std.proofs.Common.{refl}
use Rattle.scene_system.specs.Assembled.{numbers}
use Rattle.lux_core.proofs.light.reply_of_claim.Goals as goal

pub returns : goal.returns
returns c = λ tables exact scene.
    let r = c.requires in
    let bounds = c.args.bounds.now in
    let are = c.bounds_hold_light.ensures tables c.args.room.now (numbers c.args.scene.now) bounds.lower.items bounds.upper.items r.accepted exact r.formed scene r.none_heavy r.lower r.upper in
    record {
      status_is = refl;
      lower = bounds.lower.items;
      upper = bounds.upper.items;
      text_is = c.in_ok-text.ensures.text;
      holds = are.0;
      near = are.1;
    }
