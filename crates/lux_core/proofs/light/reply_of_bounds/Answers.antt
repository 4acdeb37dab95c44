-- What of `reply_of_bounds` wants a proof by hand.
use Rattle.scene_system.specs.Assembled.{numbers}
use Rattle.lux_core.proofs.LampLists.{shining_by}
use Rattle.lux_core.proofs.light.reply_of_bounds.Goals as goal

pub returns-in_ok-reply-in-Report : goal.returns-in_ok-reply-in-Report
returns-in_ok-reply-in-Report c = λ tables are exact within scene.
    let r = c.requires in
    rw c.in-Report.is (
      record {
        shining = shining_by c.args.room.now tables r.accepted exact.count;
        within = within;
        none_heavy = c.none_is_shown_heavy.ensures c.args.room.now (numbers c.args.scene.now) r.accepted r.formed r.weights r.none_heavy;
      },
      c.in_ok-reply-in-Report.ensures tables are exact scene,
    )

pub returns-in_ok-reply-in-Claim : goal.returns-in_ok-reply-in-Claim
returns-in_ok-reply-in-Claim c = λ tables are exact within scene.
    let r = c.requires in
    rw c.in-Claim.is (
      record {
        shining = shining_by c.args.room.now tables r.accepted exact.count;
        within = within;
        none_heavy = c.none_is_shown_heavy.ensures c.args.room.now (numbers c.args.scene.now) r.accepted r.formed r.weights r.none_heavy;
      },
      c.in_ok-reply-in-Claim.ensures tables exact scene,
    )
