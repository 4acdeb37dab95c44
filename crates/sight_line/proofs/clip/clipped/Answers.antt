use Rattle.std.proofs.Common.{arith}
use Rattle.sight_line.proofs.clip.clipped.Goals as goal

pub returns-in_err-y : goal.returns-in_err-y
returns-in_err-y c =
    rw c.from_residual-in_err-y.ensures (λ r s. (
      λ h. absurd h,
      λ w. absurd ((c.in_err-y.ensures r s).1 ((c.in_ok-x.ensures r s).1 ((omega (arith, w.to), omega (arith, w.from)), w.x), w.y)),
    ))

pub returns : goal.returns
returns c = λ r s. (
  λ h.
      let z = (c.between_planes-3.ensures r s).0 h in
      let y = (c.in_ok-y.ensures r s).0 z.0 in
      let x = (c.in_ok-x.ensures r s).0 y.0 in
      record { from = omega (arith, x.0.1); to = omega (arith, x.0.0); x = x.1; y = y.1; z = z.1 },
  λ w.
      let x = (c.in_ok-x.ensures r s).1 ((omega (arith, w.to), omega (arith, w.from)), w.x) in
      let y = (c.in_ok-y.ensures r s).1 (x, w.y) in
      (c.between_planes-3.ensures r s).1 (y, w.z),
)
