use Rattle.std.proofs.Common.{◌≡◌, ◌+◌, ◌<◌, ◌≤◌, ◌++◌, length, get_or, drop, Ok, Err, sym, ◌∙◌, ap, arith}
use Rattle.std.proofs.lemmas.List.{take_more_set, length-set}
use Rattle.std.proofs.lemmas.Result.{err_from_is_err_and}
use Rattle.toml.specs.View.{view}
use Rattle.room_layout.specs.Checks.{◌>>=◌, each, number}
use Rattle.room_layout.proofs.Each.{each-map, each_passes, each_fails, each_ends}
use Rattle.room_layout.proofs.check.each_number.Goals as goal

pub returns-in_err-numbers : goal.returns-in_err-numbers
returns-in_err-numbers g c =
    let p = err_from_is_err_and c.from_residual.result c.from_residual.ensures.1 in
    let within : c.loop-i.i < length c.args.items.now = omega (arith, c.loop-i.invariant.same_length, c.loop-i-test.true) in
    let fails : number c.args.least c.args.most c.args.spot (view (get_or c.args.items.now c.loop-i.i c.index-items-i.result)) ≡ Err c.in_err-numbers.field-0.0 =
    rw (← c.index-items-i.is) (sym c.number.ensures ∙ c.in_err-numbers.was) in
    rw (p.1, p.2) (sym (each-map (number c.args.least c.args.most c.args.spot) view c.args.items.now ∙ c.loop-i.invariant.so_far ∙ each_fails _ _ c.loop-i.i _ _ _ within fails))

pub loop-i-preserved : goal.loop-i-preserved
loop-i-preserved g c =
    let within : c.loop-i.i < length c.args.items.now = omega (arith, c.loop-i.invariant.same_length, c.loop-i-test.true) in
    let kept : c.loop-i.i < length c.loop-i.numbers = omega (arith, c.loop-i.invariant.whole, c.loop-i-test.true) in
    let passes : number c.args.least c.args.most c.args.spot (view (get_or c.args.items.now c.loop-i.i c.index-items-i.result)) ≡ Ok c.in_ok-numbers.field-0 =
    rw (← c.index-items-i.is) (sym c.number.ensures ∙ c.in_ok-numbers.was) in
    record {
      whole = length-set c.loop-i.numbers c.loop-i.i c.in_ok-numbers.field-0 ∙ c.loop-i.invariant.whole;
      same_length = c.loop-i.invariant.same_length;
      so_far = c.loop-i.invariant.so_far ∙ each_passes (λ v. number c.args.least c.args.most c.args.spot (view v)) _ c.loop-i.i _ _ _ within passes
          ∙ ap (λ before. each (λ v. number c.args.least c.args.most c.args.spot (view v)) (drop (c.loop-i.i + 1) c.args.items.now) >>= λ more. Ok (before ++ more))
          (sym (take_more_set c.loop-i.numbers c.loop-i.i c.in_ok-numbers.field-0 kept));
    }

pub returns : goal.returns
returns g c =
    let all : length c.args.items.now ≤ c.loop-i.i = omega (arith, c.loop-i.invariant.same_length, c.loop-i-test.false) in
    let whole : length c.loop-i.numbers ≤ c.loop-i.i = omega (arith, c.loop-i.invariant.whole, c.loop-i-test.false) in
    sym (each-map (number c.args.least c.args.most c.args.spot) view c.args.items.now ∙ c.loop-i.invariant.so_far ∙ each_ends _ _ c.loop-i.i _ all whole)
