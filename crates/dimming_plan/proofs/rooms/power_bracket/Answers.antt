-- What of `power_bracket` wants a proof by hand.
use Rattle.dimming_plan.proofs.RoomGroups.{dimmed, either_found}
use Rattle.dimming_plan.proofs.rooms.power_bracket.Goals as goal

pub returns-clause-dimmed : goal.returns-clause-dimmed
returns-clause-dimmed g c = λ tables are.
    let e = c.least_power.ensures in
    dimmed tables c.args.room.now c.args.plan.now c.args.least c.in_ok-group_of.field-0 c.in_ok-group_of-2.field-0 c.in_ok-group_of-3.field-0 c.in_ok-group_of-4.field-0
    c.in_ok-group_of-5.field-0 c.in_ok-group_of-6.field-0 c.least_power.result
    (record {
      first = c.in_ok-group_of.ensures.group tables are;
      second = c.in_ok-group_of-2.ensures.group tables are;
      third = c.in_ok-group_of-3.ensures.group tables are;
      fourth = c.in_ok-group_of-4.ensures.group tables are;
      fifth = c.in_ok-group_of-5.ensures.group tables are;
      sixth = c.in_ok-group_of-6.ensures.group tables are;
    })
    (either_found c.least_power.result.met _ _ e.none_met e.met) (either_found c.least_power.result.possible _ _ e.none_possible e.possible)
