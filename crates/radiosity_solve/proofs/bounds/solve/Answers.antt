use Rattle.radiosity_solve.proofs.Mild.{mild}
use Rattle.radiosity_solve.proofs.NearEnough.{answers_in_order, uniquely_solved}
use Rattle.radiosity_solve.proofs.bounds.solve.Goals as goal

pub returns-clause-in_order : goal.returns-clause-in_order
returns-clause-in_order g c =
    answers_in_order c.args.system.now c.lower_bounds-lower.result.items c.upper_bounds-upper.result.items
    (mild c.args.system.now c.size-size.ensures.system c.in_default.ensures) c.lower_bounds-lower.ensures.answer c.upper_bounds-upper.ensures

pub returns-clause-one_solution : goal.returns-clause-one_solution
returns-clause-one_solution g c = uniquely_solved c.args.system.now (mild c.args.system.now c.size-size.ensures.system c.in_default.ensures)
