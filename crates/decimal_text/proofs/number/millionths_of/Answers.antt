-- Six decimals at most.
use Rattle.std.proofs.Common.{◌≡◌, ◌<◌, ◌^◌, ◌-◌, ◌*◌, length, take, arith, ap}
use Rattle.std.proofs.lemmas.List.{length-take-le}
use Rattle.decimal_text.proofs.Digits.{below_a_million}
use Rattle.decimal_text.proofs.number.millionths_of.Goals as goal

pub returns-clause-small : goal.returns-clause-small
returns-clause-small c =
    let n = c.min-kept.result in
    let xs = c.args.decimals.now in
    let l : length (take n xs) ≡ n = length-take-le n xs (omega (arith, c.min-kept.ensures)) in
    let g : c.worth_of.result < 10 ^ n = omega (arith, c.worth_of.ensures.small, ap (λ k. 10 ^ k) l) in
    let p : c.pow.result ≡ 10 ^ (6 - n) = omega (arith, c.pow.ensures) in
    omega (arith, below_a_million c.worth_of.result n (omega (arith, c.min-kept.ensures)) g, ap (λ k. c.worth_of.result * k) p)
