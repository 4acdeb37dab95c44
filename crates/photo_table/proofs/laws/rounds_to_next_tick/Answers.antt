use Rattle.photo_table.proofs.Exactly.{rounds_to_next_tick}
use Rattle.photo_table.proofs.laws.rounds_to_next_tick.Goals as goal

pub returns : goal.returns
returns c = rounds_to_next_tick
