-- Rows from k on are as they were, and rows below k stand in the job's relation to what they were.
use Prim.Native.Nat.{ℕ, ◌+◌, ◌<◌, ◌≤◌}
use mathlib.Core.Path.{◌≡◌}
use lib.ListN.{get_or}
use Rattle.fork_rows.proofs.fill.in_turn.Given as goal

abbrev pub invariant-loop-k : goal.invariant-loop-k
invariant-loop-k g l =
    ((j : ℕ) (d : g.row.T.Denot) → l.k ≤ j → get_or l.rows j d ≡ get_or l.initial.rows j d)
    × ((j : ℕ) (d : g.row.T.Denot) → j < l.k → g.J.RowJob.makes l.job (l.base + j) (get_or l.initial.rows j d) (get_or l.rows j d))
