use Rattle.std.proofs.Common.{sym}
use Rattle.std.specs.Prelude.{codes}
use Rattle.toml.specs.Data.{get_member}
use Rattle.toml.specs.View.{table_view}
use Rattle.room_layout.proofs.Ranges.{optional_numbers_between, no_reflects_between}
use Rattle.room_layout.proofs.read.read_shell.Goals as goal

pub reflects_from-requires : goal.reflects_from-requires
reflects_from-requires c =
    let between = optional_numbers_between _ 6 0 950 c.of-3.result (get_member (codes "reflect") (table_view c.in_ok-room.room.now)) _ no_reflects_between (sym c.in_ok-reflect.ensures) in
    λ k h. (between.each_one k h).1
