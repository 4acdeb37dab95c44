use Rattle.std.proofs.Common.{arith}
use Rattle.direct_light.proofs.MiddleLamps.{middle_in_reach}
use Rattle.direct_light.proofs.tests.lamp.Goals as goal

pub returns : goal.returns
returns c =
    let reach = middle_in_reach c.args.aim c.args.size.0 c.args.size.1 c.requires.size_x c.requires.size_y in
    let size_x = c.requires.size_x in
    let size_y = c.requires.size_y in
    record {
      x = reach.0;
      y = reach.1;
      z = reach.2;
      turn = c.requires.turn;
      maintenance = c.requires.maintenance;
      size_x = omega (arith, size_x);
      size_y = omega (arith, size_y);
      split_x = c.requires.split_x;
      split_y = c.requires.split_y;
    }
