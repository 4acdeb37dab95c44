use Rattle.std.specs.Prelude.{Option, Some, None, IfSome}
use Rattle.std.proofs.Common.{◌≤◌, length, rules}
use Rattle.lux_core.proofs.words.question_of.Goals as goal

whatever : {T : Type 0} (o : Option T) (P : Type 0) → P → IfSome o (λ _. P)
whatever None P p = tt
whatever (Some x) P p = p

pub returns-clause-named : goal.returns-clause-named
returns-clause-named c = whatever c.asked_of.result (2 ≤ length c.args.words.now) (c.names_a_file.ensures.two (search rules))
