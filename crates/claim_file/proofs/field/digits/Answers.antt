-- What of `digits` wants a proof by hand.
use Rattle.std.proofs.Common.{◌∙◌, arith, refl, sym, ap, Option, ℕ}
use Rattle.std.specs.Prelude.{option_map}
use Rattle.claim_file.specs.Numbers.{capped}
use Rattle.claim_file.proofs.Digits.{is_over, next_digit, not_a_digit}
use Rattle.claim_file.proofs.field.digits.Goals as goal

pub returns-then-not-is_ascii_digit : goal.returns-then-not-is_ascii_digit
returns-then-not-is_ascii_digit c =
    let none = not_a_digit c.loop-digit.value _ c.loop-digit.digit-index c.args.field.now c.loop-digit-test.true refl
    (sym c.is_ascii_digit.ensures.value ∙ c.if-not-is_ascii_digit.true) in
    sym (c.loop-digit.invariant.so_far ∙ ap (λ (o : Option ℕ). option_map capped o) none)

pub loop-digit-preserved : goal.loop-digit-preserved
loop-digit-preserved c =
    let next = next_digit c.loop-digit.value _ c.loop-digit.digit-index c.args.field.now c.loop-digit-test.true refl
    (sym c.is_ascii_digit.ensures.value ∙ c.if-not-is_ascii_digit.false) in
    record { small = omega arith; so_far = rw c.min-value.ensures (c.loop-digit.invariant.so_far ∙ next) }

pub returns : goal.returns
returns c = sym (c.loop-digit.invariant.so_far ∙ is_over c.loop-digit.value c.loop-digit.digit-index c.args.field.now c.loop-digit-test.false c.loop-digit.invariant.small)
