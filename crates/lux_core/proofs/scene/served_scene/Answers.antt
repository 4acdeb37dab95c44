-- What of `served_scene` wants a proof by hand.
use Rattle.std.proofs.Common.{inr}
use Rattle.scene_system.specs.Assembled.{numbers}
use Rattle.scene_system.specs.RowSums.{in_thousandths}
use Rattle.lux_core.proofs.LampLists.{shining_by}
use Rattle.lux_core.proofs.scene.served_scene.Goals as goal

pub returns-in-None-clause-served : goal.returns-in-None-clause-served
returns-in-None-clause-served g c = λ tables are.
    let r = c.requires in
    let s = c.in_ok-scene.ensures in
    record {
      shining = shining_by c.args.room.now tables r.accepted (s.exact tables are).count;
      within = s.within tables are;
      none_heavy = c.none_is_shown_heavy.ensures c.args.room.now (numbers c.in_ok-scene.scene) r.accepted s.formed s.weights c.in-None.ensures;
    }

pub returns-in_ok-text-in-Some-clause-not_served : goal.returns-in_ok-text-in-Some-clause-not_served
returns-in_ok-text-in-Some-clause-not_served g c = λ tables are.
    let r = c.requires in
    let s = c.in_ok-scene.ensures in
    let heavy = c.in-Some.heavy in
    inr (record {
      status_is = c.refused.ensures.status;
      within = s.within tables are;
      row = heavy.row;
      sum = in_thousandths heavy.upper;
      heavy = c.heavy_has_cause.ensures c.args.room.now (numbers c.in_ok-scene.scene) heavy.row heavy.upper r.accepted s.formed s.weights c.in-Some.ensures;
      text_is = rw c.refused.ensures.text c.in_ok-text-in-Some.ensures;
    })
