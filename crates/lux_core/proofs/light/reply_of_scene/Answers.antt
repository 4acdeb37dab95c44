-- What of `reply_of_scene` wants a proof by hand.
use Rattle.std.proofs.Common.{◌∙◌, inr}
use Rattle.scene_system.specs.Assembled.{numbers}
use Rattle.scene_system.specs.RowSums.{in_thousandths}
use Rattle.lux_core.proofs.light.reply_of_scene.Goals as goal

pub returns-in_ok-text-in-Err-RowSum : goal.returns-in_ok-text-in-Err-RowSum
returns-in_ok-text-in-Err-RowSum g c = λ tables are exact within scene.
    let r = c.requires in
    let heavy = c.in-Err-RowSum.heavy in
    inr (inr (record {
      status_is = c.refused.ensures.status;
      within = within;
      row = heavy.row;
      sum = in_thousandths heavy.upper;
      heavy = c.heavy_has_cause.ensures c.args.room.now (numbers c.args.scene.now) heavy.row heavy.upper r.accepted r.formed r.weights (rw c.in-Err-RowSum.field-0-is at c.in-Err-RowSum.ensures.refused);
      text_is = c.refused.ensures.text ∙ (rw c.in-Err-RowSum.field-0-is at c.in_ok-text-in-Err-RowSum.ensures);
    }))
