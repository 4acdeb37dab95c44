use Rattle.std.proofs.Common.{◌≡◌, ◌∙◌, ap, length, Vec, Global, arith}
use Rattle.std.proofs.lemmas.List.{with_items_is}
use Rattle.fx_base.specs.declared.Tick.{Tick}
use Rattle.radiosity_solve.specs.Turn.{IsUpperTurn}
use Rattle.radiosity_solve.proofs.Mild.{AreMild, mild}
use Rattle.radiosity_solve.proofs.Iterates.{upper_begins, start_size, upper_starts, upper_spent, upper_turned}
use Rattle.radiosity_solve.proofs.NearEnough.{upper_settled, upper_answer}
use Rattle.radiosity_solve.proofs.side.upper_side.Goals as goal

pub loop-turn-init : goal.loop-turn-init
loop-turn-init g c =
    record {
      x_size = start_size (length c.args.system.now.rows) c.args.tops.items _ c.requires.start;
      y_size = c.requires.room;
      ends = upper_starts (length c.args.system.now.rows) c.args.tops.items c.requires.start;
      state = upper_begins c.args.system.now c.args.tops.items (mild c.args.system.now c.size-size.ensures.system c.requires.none_heavy) c.requires.start;
    }

pub loop-turn-preserved : goal.loop-turn-preserved
loop-turn-preserved g c =
    let filled : length c.fall-change.new.into ≡ c.loop-turn.y.len = omega arith in
    let is : c.swap.new.x.items ≡ c.fall-change.new.into =
    ap (λ (v : Vec Tick Global). v.items) c.swap.ensures.x_after ∙ with_items_is c.loop-turn.y c.fall-change.new.into filled in
    let other : c.swap.new.y.items ≡ c.loop-turn.x.items = ap (λ (v : Vec Tick Global). v.items) c.swap.ensures.y_after in
    let turn : IsUpperTurn c.args.system.now c.loop-turn.x.items c.fall-change.new.into = rw c.as_slice.ensures.value at c.fall-change.ensures.turn in
    record {
      x_size = rw is (omega arith);
      y_size = rw other c.loop-turn.invariant.x_size;
      ends = rw is c.fall-change.ensures.ends;
      state = rw is (upper_turned c.args.system.now c.loop-turn.x.items c.fall-change.new.into c.loop-turn.turn
          (mild c.args.system.now c.size-size.ensures.system c.requires.none_heavy) c.loop-turn.invariant.state turn);
    }

pub returns-then-change-le-SMALL_CHANGE : goal.returns-then-change-le-SMALL_CHANGE
returns-then-change-le-SMALL_CHANGE g c =
    let filled : length c.fall-change.new.into ≡ c.loop-turn.y.len = omega arith in
    let is : c.swap.new.x.items ≡ c.fall-change.new.into =
    ap (λ (v : Vec Tick Global). v.items) c.swap.ensures.x_after ∙ with_items_is c.loop-turn.y c.fall-change.new.into filled in
    let turn : IsUpperTurn c.args.system.now c.loop-turn.x.items c.fall-change.new.into = rw c.as_slice.ensures.value at c.fall-change.ensures.turn in
    let a : AreMild c.args.system.now = mild c.args.system.now c.size-size.ensures.system c.requires.none_heavy in
    rw is (upper_answer c.args.system.now c.fall-change.new.into a
    (upper_turned c.args.system.now c.loop-turn.x.items c.fall-change.new.into c.loop-turn.turn a c.loop-turn.invariant.state turn).shown
    (upper_settled c.args.system.now c.loop-turn.x.items c.fall-change.new.into c.fall-change.result a c.loop-turn.invariant.state.shown turn
    c.loop-turn.invariant.x_size (rw c.as_slice.ensures.value at c.fall-change.ensures.change) c.if-change-le-SMALL_CHANGE.true)
    (omega arith) c.fall-change.ensures.ends)

pub returns : goal.returns
returns g c =
    let last : c.loop-turn.turn ≡ 16384 = omega arith in
    upper_answer c.args.system.now c.loop-turn.x.items (mild c.args.system.now c.size-size.ensures.system c.requires.none_heavy)
    c.loop-turn.invariant.state.shown (upper_spent c.args.system.now c.loop-turn.x.items (rw last at c.loop-turn.invariant.state))
    c.loop-turn.invariant.x_size c.loop-turn.invariant.ends
