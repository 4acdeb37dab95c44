-- What of `refused_row` wants a proof by hand.
use Rattle.std.proofs.Common.{◌++◌, ◌∙◌, ap, sym, append_assoc}
use Rattle.std.specs.Prelude.{codes, decimal, List, ℕ}
use Rattle.decimal_text.specs.Decimals.{thousandths}
use Rattle.scene_system.specs.RowSums.{in_thousandths}
use Rattle.lux_core.proofs.scene.refused_row.Goals as goal

pub returns : goal.returns
returns c =
    let row = decimal c.args.heavy.row in
    let sum = thousandths (in_thousandths c.args.heavy.upper) in
    (rw c.div_ceil.ensures at c.in_ok-text.ensures.ok)
    ∙ ap (λ (text : List ℕ). codes "refused rows 1 RowSum " ++ text) (sym (append_assoc (row ++ codes " ") sum (codes "\n") ∙ append_assoc row (codes " ") (sum ++ codes "\n")))
