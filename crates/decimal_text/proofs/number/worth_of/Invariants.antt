-- What the digits so far are worth.
use Rattle.std.proofs.Common.{◌≡◌, ◌<◌, ◌^◌, take}
use Rattle.decimal_text.specs.Numbers.{worth}
use Rattle.decimal_text.proofs.number.worth_of.Given as goal

abbrev pub invariant-loop-d : goal.invariant-loop-d
invariant-loop-d l = record { so_far : l.value ≡ worth (take l.d-index l.digits); small : l.value < 10 ^ l.d-index }
