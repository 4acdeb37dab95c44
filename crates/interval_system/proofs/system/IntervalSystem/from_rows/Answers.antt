use Rattle.std.proofs.Common.{All}
use Rattle.interval_system.specs.System.{IsRow, IsDirectLight}
use Rattle.interval_system.proofs.system.IntervalSystem.from_rows.Goals as goal

pub invariant_of-result : goal.invariant_of-result
invariant_of-result c =
    let kept : All IsRow c.args.rows.items = rw c.as_slice.ensures.value at c.rows_hold.ensures in
    let light : All IsDirectLight c.args.direct.items = rw c.as_slice-2.ensures.value at c.lights_hold.ensures in
    record {
      few = c.requires.few;
      square = c.requires.square;
      weights = λ k d l. (kept k d l).each;
      lights = c.requires.lights;
      light = light;
    }
