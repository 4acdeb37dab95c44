-- The exit statuses.
use Rattle.std.specs.Prelude.{ℕ}
use Rattle.lux_core.specs.declared.status.Status.{Status}
use Rattle.lux_core.specs.declared.status.Status.TheVariants.{Done, Refused, Usage, ReadFault, WriteFault, Memory, Missed, Undecided, NotShown}

abbrev pub status_code : Status → ℕ
status_code Done = 0
status_code Refused = 1
status_code Usage = 2
status_code ReadFault = 3
status_code WriteFault = 4
status_code Memory = 5
status_code Missed = 10
status_code Undecided = 11
status_code NotShown = 12
