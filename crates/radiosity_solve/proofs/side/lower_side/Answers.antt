use Rattle.std.proofs.Common.{◌≡◌, ◌∙◌, ap, length, Vec, Global, arith}
use Rattle.std.proofs.lemmas.List.{with_items_is}
use Rattle.fx_base.specs.declared.Tick.{Tick}
use Rattle.radiosity_solve.specs.Turn.{IsLowerTurn}
use Rattle.radiosity_solve.proofs.Mild.{AreMild, mild}
use Rattle.radiosity_solve.proofs.Iterates.{lower_begins, start_size, lower_starts, lower_spent, lower_turned}
use Rattle.radiosity_solve.proofs.NearEnough.{lower_settled, lower_answer}
use Rattle.radiosity_solve.proofs.side.lower_side.Goals as goal

pub loop-turn-init : goal.loop-turn-init
loop-turn-init g c =
    record {
      x_size = start_size (length c.args.system.now.rows) c.args.zeros.items _ c.requires.start;
      y_size = c.requires.room;
      ends = lower_starts (length c.args.system.now.rows) c.args.zeros.items c.requires.start;
      state = lower_begins c.args.system.now c.args.zeros.items (mild c.args.system.now c.size-size.ensures.system c.requires.none_heavy) c.requires.start;
    }

pub loop-turn-preserved : goal.loop-turn-preserved
loop-turn-preserved g c =
    let filled : length c.rise-change.new.into ≡ c.loop-turn.y.len = omega arith in
    let is : c.swap.new.x.items ≡ c.rise-change.new.into =
    ap (λ (v : Vec Tick Global). v.items) c.swap.ensures.x_after ∙ with_items_is c.loop-turn.y c.rise-change.new.into filled in
    let other : c.swap.new.y.items ≡ c.loop-turn.x.items = ap (λ (v : Vec Tick Global). v.items) c.swap.ensures.y_after in
    let turn : IsLowerTurn c.args.system.now c.loop-turn.x.items c.rise-change.new.into = rw c.as_slice.ensures.value at c.rise-change.ensures.turn in
    record {
      x_size = rw is (omega arith);
      y_size = rw other c.loop-turn.invariant.x_size;
      ends = rw is c.rise-change.ensures.ends;
      state = rw is (lower_turned c.args.system.now c.loop-turn.x.items c.rise-change.new.into c.loop-turn.turn
          (mild c.args.system.now c.size-size.ensures.system c.requires.none_heavy) c.loop-turn.invariant.state turn);
    }

pub returns-then-change-le-SMALL_CHANGE : goal.returns-then-change-le-SMALL_CHANGE
returns-then-change-le-SMALL_CHANGE g c =
    let filled : length c.rise-change.new.into ≡ c.loop-turn.y.len = omega arith in
    let is : c.swap.new.x.items ≡ c.rise-change.new.into =
    ap (λ (v : Vec Tick Global). v.items) c.swap.ensures.x_after ∙ with_items_is c.loop-turn.y c.rise-change.new.into filled in
    let turn : IsLowerTurn c.args.system.now c.loop-turn.x.items c.rise-change.new.into = rw c.as_slice.ensures.value at c.rise-change.ensures.turn in
    let a : AreMild c.args.system.now = mild c.args.system.now c.size-size.ensures.system c.requires.none_heavy in
    rw is (lower_answer c.args.system.now c.rise-change.new.into a
    (lower_turned c.args.system.now c.loop-turn.x.items c.rise-change.new.into c.loop-turn.turn a c.loop-turn.invariant.state turn).shown
    (lower_settled c.args.system.now c.loop-turn.x.items c.rise-change.new.into c.rise-change.result a c.loop-turn.invariant.state.shown turn
    c.loop-turn.invariant.x_size (rw c.as_slice.ensures.value at c.rise-change.ensures.change) c.if-change-le-SMALL_CHANGE.true)
    (omega arith) c.rise-change.ensures.ends)

pub returns : goal.returns
returns g c =
    let last : c.loop-turn.turn ≡ 16384 = omega arith in
    lower_answer c.args.system.now c.loop-turn.x.items (mild c.args.system.now c.size-size.ensures.system c.requires.none_heavy)
    c.loop-turn.invariant.state.shown (lower_spent c.args.system.now c.loop-turn.x.items (rw last at c.loop-turn.invariant.state))
    c.loop-turn.invariant.x_size c.loop-turn.invariant.ends
