use Rattle.std.proofs.Common.{IsTrue, false}
use Rattle.room_layout.specs.Positions.{place_at}
use Rattle.sight_line.proofs.Ends.{meets_within, within_meets}
use Rattle.sight_line.proofs.Decided.{same_test, decided}
use Rattle.sight_line.proofs.sight.is_met.Goals as goal

pub returns-in-Some-clause-met : goal.returns-in-Some-clause-met
returns-in-Some-clause-met c = (
  λ t. let o = c.is_open.ensures.0 t in
      within_meets (place_at c.args.from) (place_at c.args.to) c.args.block.now o.r o.s ((c.in-Some.ensures o.r o.s).0 o.allowed),
  λ m. let w = meets_within (place_at c.args.from) (place_at c.args.to) c.args.block.now m in
      c.is_open.ensures.1 (record { r = w.r; s = w.s; allowed = (c.in-Some.ensures w.r w.s).1 w.within }),
)

pub returns-in-Some-clause-test : goal.returns-in-Some-clause-test
returns-in-Some-clause-test c =
    same_test _ _ (returns-in-Some-clause-met c) (decided (place_at c.args.from) (place_at c.args.to) c.args.block.now)

pub returns-in-None-clause-met : goal.returns-in-None-clause-met
returns-in-None-clause-met c = (
  λ t. let f : IsTrue false = t in cc,
  λ m. let w = meets_within (place_at c.args.from) (place_at c.args.to) c.args.block.now m in
      absurd ((c.in-None.ensures w.r w.s).1 w.within),
)

pub returns-in-None-clause-test : goal.returns-in-None-clause-test
returns-in-None-clause-test c =
    same_test _ _ (returns-in-None-clause-met c) (decided (place_at c.args.from) (place_at c.args.to) c.args.block.now)
