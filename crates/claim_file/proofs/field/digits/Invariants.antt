-- What holds before each turn of the loops of `digits`.
use Rattle.std.proofs.Common.{◌^◌, ◌+◌, ◌≤◌, ◌≡◌, drop}
use Rattle.std.specs.Prelude.{option_map}
use Rattle.claim_file.specs.Numbers.{capped, number_after}
use Rattle.claim_file.proofs.field.digits.Given as goal

abbrev pub invariant-loop-digit : goal.invariant-loop-digit
invariant-loop-digit l = record {
  small : l.value ≤ 2 ^ 90 + 1;
  so_far : option_map capped (number_after 0 l.field) ≡ option_map capped (number_after l.value (drop l.digit-index l.field));
}
