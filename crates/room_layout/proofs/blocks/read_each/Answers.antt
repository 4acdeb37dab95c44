use Rattle.std.proofs.Common.{◌≡◌, ◌<◌, ◌≤◌, length, get_or, Ok, Err, sym, ◌∙◌, arith}
use Rattle.std.proofs.lemmas.Result.{err_from_is_err_and}
use Rattle.toml.specs.View.{view}
use Rattle.room_layout.specs.Layout.{block_of}
use Rattle.room_layout.proofs.Elements.{no_blocks_before, block_passes, block_fails, blocks_end}
use Rattle.room_layout.proofs.blocks.read_each.Goals as goal

pub loop-i-init : goal.loop-i-init
loop-i-init c = rw c.new-blocks.ensures.items (sym (no_blocks_before _))

pub loop-i-preserved : goal.loop-i-preserved
loop-i-preserved c =
    let within : c.loop-i.i < length c.args.boxes.now = omega (arith, c.loop-i-test.true) in
    let passes : block_of c.args.room c.loop-i.i (view (get_or c.args.boxes.now c.loop-i.i c.index-boxes-i.result)) ≡ Ok c.in_ok-block.block = rw (← c.index-boxes-i.is) (sym c.in_ok-block.ensures) in
    rw c.in_ok-push.ensures.items (c.loop-i.invariant ∙ block_passes _ _ c.loop-i.i c.index-boxes-i.result _ _ within passes)

pub returns-in_err-block-clause-refused : goal.returns-in_err-block-clause-refused
returns-in_err-block-clause-refused c =
    let p = err_from_is_err_and c.from_residual.result c.from_residual.ensures.1 in
    let within : c.loop-i.i < length c.args.boxes.now = omega (arith, c.loop-i-test.true) in
    let fails : block_of c.args.room c.loop-i.i (view (get_or c.args.boxes.now c.loop-i.i c.index-boxes-i.result)) ≡ Err c.in_err-block.field-0.0 = rw (← c.index-boxes-i.is) (sym c.in_err-block.ensures) in
    rw (p.1, p.2) (λ _. c.loop-i.invariant ∙ block_fails _ _ c.loop-i.i c.index-boxes-i.result _ _ within fails)

pub returns-clause-given : goal.returns-clause-given
returns-clause-given c = let all : length c.args.boxes.now ≤ c.loop-i.i = omega (arith, c.loop-i-test.false) in c.loop-i.invariant ∙ blocks_end _ _ c.loop-i.i _ all
