-- No file is refused for want of memory in the planes' name.
use Rattle.std.proofs.Common.{refl}
use Rattle.std.proofs.lemmas.Result.{err_from_is_err_and}
use Rattle.eulumdat_read.specs.Ldt.{ldt}
use Rattle.eulumdat_read.specs.Lines.{lines_of}
use Rattle.eulumdat_read.proofs.FileFaults.{never_want}
use Rattle.eulumdat_read.proofs.body.read_ldt.Goals as goal

pub returns-in_err-head-clause-planes : goal.returns-in_err-head-clause-planes
unfolding ldt
returns-in_err-head-clause-planes c =
    let p = err_from_is_err_and c.from_residual.result c.from_residual.ensures.1 in
    rw (p.1, p.2) (never_want (lines_of c.args.bytes.now) c.args.lamp_set c.in_err-head.field-0.0 (λ n. rw c.in_err-head.ensures refl))

pub returns-in_err-table-clause-planes : goal.returns-in_err-table-clause-planes
unfolding ldt
returns-in_err-table-clause-planes c =
    let p = err_from_is_err_and c.from_residual-in_err-table.result c.from_residual-in_err-table.ensures.1 in
    rw (p.1, p.2) (never_want (lines_of c.args.bytes.now) c.args.lamp_set c.in_err-table.field-0.0 (λ n. rw c.in_ok-head.ensures.0 (c.in_err-table.ensures n)))
