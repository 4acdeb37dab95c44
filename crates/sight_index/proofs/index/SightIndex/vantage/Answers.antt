use Rattle.std.proofs.Common.{rules}
use Rattle.sight_index.proofs.index.SightIndex.vantage.Goals as goal

pub returns-clause-vantage : goal.returns-clause-vantage
returns-clause-vantage c = record { within = c.requires; x = search rules; y = search rules; z = search rules }
