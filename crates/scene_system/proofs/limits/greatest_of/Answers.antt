use Rattle.std.proofs.Common.{◌∙◌}
use Rattle.fx_base.specs.Units.{natural}
use Rattle.scene_system.proofs.Kept.{greatest_is, kept_table}
use Rattle.scene_system.proofs.limits.greatest_of.Goals as goal

pub returns-clause-greatest : goal.returns-clause-greatest
returns-clause-greatest c = c.magnitude.ensures ∙ greatest_is c.args.photo.now (natural c.greatest.result.0) c.greatest.ensures.greatest

pub returns-clause-kept : goal.returns-clause-kept
returns-clause-kept c = kept_table c.args.photo.now (natural c.greatest.result.0) c.greatest.ensures.kept c.greatest.ensures.greatest c.greatest.ensures.bright
