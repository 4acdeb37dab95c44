use Rattle.std.proofs.Common.{◌≡◌, ◌++◌, length, take, drop, Ok}
use Rattle.toml.specs.View.{view}
use Rattle.room_layout.specs.Checks.{◌>>=◌, each, number}
use Rattle.room_layout.proofs.check.each_number.Given as goal

-- the numbers so far, and then what the rest gives
abbrev pub invariant-loop-i : goal.invariant-loop-i
invariant-loop-i g l = record {
  whole : length l.numbers ≡ g.row.N;
  same_length : length l.items ≡ g.row.N;
  so_far : each (λ v. number l.least l.most l.spot (view v)) l.items ≡ each (λ v. number l.least l.most l.spot (view v)) (drop l.i l.items) >>= λ ns. Ok (take l.i l.numbers ++ ns);
}
