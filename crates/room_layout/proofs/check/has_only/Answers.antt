use Rattle.std.proofs.Common.{sym, ◌∙◌}
use Rattle.room_layout.proofs.Views.{has_only-entries}
use Rattle.room_layout.proofs.check.has_only.Goals as goal

pub returns : goal.returns
returns c = c.keys_are_among.ensures ∙ sym (has_only-entries _ c.args.table.now.entries)
