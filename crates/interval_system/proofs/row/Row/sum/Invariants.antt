use Rattle.std.proofs.Common.{◌≡◌, ◌≤◌, ◌^◌, ◌*◌, take, sum_by}
use Rattle.fx_base.specs.declared.Weight.{Weight}
use Rattle.interval_system.proofs.row.Row.sum.Given as goal

abbrev pub invariant-loop-w : goal.invariant-loop-w
invariant-loop-w l = record {
  so_far : l.sum ≡ sum_by (λ (w : Weight). w.hi) (take l.w-index l.w-items);
  most : l.sum ≤ l.w-index * 2 ^ 36;
}
