use Rattle.std.proofs.Common.{arith}
use Rattle.std.proofs.lemmas.Bool.Decides.{nat_tests}
use Rattle.std.proofs.lemmas.List.{length-map}
use Rattle.std.proofs.lemmas.List.Folds.{list_all-map}
use Rattle.room_layout.proofs.check.all_numbers.Goals as goal

pub returns : goal.returns
returns g c = grind (arith, nat_tests, length-map, list_all-map)

pub returns-then-items : goal.returns-then-items
returns-then-items g c = grind (arith, nat_tests, length-map, list_all-map)

pub returns-then-not-are_integers : goal.returns-then-not-are_integers
returns-then-not-are_integers g c = grind (arith, nat_tests, length-map, list_all-map)
