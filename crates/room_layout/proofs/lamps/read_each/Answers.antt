use Rattle.std.proofs.Common.{◌≡◌, ◌<◌, ◌≤◌, length, get_or, Ok, Err, sym, ◌∙◌, arith}
use Rattle.std.proofs.lemmas.Result.{err_from_is_err_and}
use Rattle.toml.specs.View.{view}
use Rattle.room_layout.specs.Layout.{lamp_of}
use Rattle.room_layout.proofs.Elements.{no_lamps_before, lamp_passes, lamp_fails, lamps_end}
use Rattle.room_layout.proofs.lamps.read_each.Goals as goal

pub loop-i-init : goal.loop-i-init
loop-i-init c = record { so_far = rw (c.new-lamps.ensures.items, c.new-files.ensures.items) (sym (no_lamps_before _)); few = rw c.new-files.ensures.items (omega arith) }

pub loop-i-preserved : goal.loop-i-preserved
loop-i-preserved c =
    let within : c.loop-i.i < length c.args.values.now = omega (arith, c.loop-i-test.true) in
    let passes : lamp_of c.args.room c.loop-i.i c.loop-i.files.items (view (get_or c.args.values.now c.loop-i.i c.index-values-i.result)) ≡ Ok (c.in_ok-lamp.lamp, c.read_lamp.new.files.items) =
    rw (← c.index-values-i.is) c.in_ok-lamp.ensures.given in
    record {
      so_far = rw c.in_ok-push.ensures.items (c.loop-i.invariant.so_far ∙ lamp_passes _ _ c.loop-i.i c.index-values-i.result _ _ _ _ within passes);
      few = c.in_ok-lamp.ensures.few;
    }

pub returns-in_err-lamp-clause-refused : goal.returns-in_err-lamp-clause-refused
returns-in_err-lamp-clause-refused c =
    let p = err_from_is_err_and c.from_residual.result c.from_residual.ensures.1 in
    let within : c.loop-i.i < length c.args.values.now = omega (arith, c.loop-i-test.true) in
    rw (p.1, p.2) (λ other.
    let fails : lamp_of c.args.room c.loop-i.i c.loop-i.files.items (view (get_or c.args.values.now c.loop-i.i c.index-values-i.result)) ≡ Err c.in_err-lamp.field-0.0 =
    rw (← c.index-values-i.is) (c.in_err-lamp.ensures.refused other) in
    c.loop-i.invariant.so_far ∙ lamp_fails _ _ c.loop-i.i c.index-values-i.result _ _ _ within fails)

pub returns-clause-given : goal.returns-clause-given
returns-clause-given c =
    let all : length c.args.values.now ≤ c.loop-i.i = omega (arith, c.loop-i-test.false) in
    rw (c.from_vec.ensures, c.from_vec-2.ensures) (c.loop-i.invariant.so_far ∙ lamps_end _ _ c.loop-i.i _ _ all)
