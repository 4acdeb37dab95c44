use Rattle.escape_route.proofs.Prints.{route_text_is_right}
use Rattle.escape_route.proofs.laws.route_text_is_right.Goals as goal

pub returns : goal.returns
returns c = route_text_is_right
