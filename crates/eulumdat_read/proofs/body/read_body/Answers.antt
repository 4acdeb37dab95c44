-- The table that was read is that of the file.
use Rattle.std.proofs.Common.{◌∙◌, ◌*◌, ◌+◌, ℕ, ap}
use Rattle.eulumdat_read.specs.Heads.{head_in}
use Rattle.eulumdat_read.specs.Ldt.{values_line}
use Rattle.eulumdat_read.specs.Lines.{lines_of}
use Rattle.eulumdat_read.proofs.BodySteps.{are_read, body_says, gives}
use Rattle.eulumdat_read.proofs.body.read_body.Goals as goal

pub expand-requires-clause-values : goal.expand-requires-clause-values
expand-requires-clause-values c = are_read _ _ _ c.in_ok-values.ensures.0

pub returns-in-Ok : goal.returns-in-Ok
returns-in-Ok c =
    let h = head_in c.args.head in
    let a = c.in_ok-values.ensures.0 in
    let count = ap (λ (n : ℕ). n * c.args.head.gammas) c.requires.head.count in
    let factor = ap (λ (n : ℕ). n * c.from-2.result) c.from.ensures ∙ ap (λ (n : ℕ). c.args.head.factor * n) c.from-2.ensures in
    let end = c.in_ok-values.ensures.1.1 ∙ ap (λ (n : ℕ). values_line h + n) count in
    gives _ _ _ _ _ _ _ _ a
    (body_says (lines_of c.args.bytes.now) c.args.lamp_set h c.in_ok-flux.flux c.in_ok-planes.planes.items c.in_ok-gammas.gammas.items a.values _ _ c.read_values.new.cursor.line
    c.in_ok-flux.ensures.0 c.in_ok-planes.ensures.0 c.in_ok-gammas.ensures.0 factor count a.is end c.in_ok-read_end.ensures)
    c.in-Ok.ensures.table
