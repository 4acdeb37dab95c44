-- What of `take_record` wants a proof by hand.
use Rattle.std.proofs.Common.{◌∙◌, sym}
use Rattle.csv.specs.Records.{fields_of}
use Rattle.claim_file.specs.Rows.{Answers}
use Rattle.claim_file.proofs.Taking.{ended, taken, uneven}
use Rattle.claim_file.proofs.rows.take_record.Goals as goal

pub returns-in-Ok-true : goal.returns-in-Ok-true
unfolding Answers
returns-in-Ok-true c =
    let next = taken c.args.reader.now c.read_byte_record.new.self (fields_of c.read_byte_record.new.row) c.requires.at
    (rw c.in-Ok-true.field-0-test at (c.in-Ok-true.ensures.reads c.requires.at.plain c.requires.at.ready)) (c.in-Ok-true.ensures.ready c.requires.at.plain)
    c.in-Ok-true.ensures.flexible in
    record { taken = next }

pub returns-in-Ok-false : goal.returns-in-Ok-false
unfolding Answers
returns-in-Ok-false c =
    let none = ended c.args.reader.now c.read_byte_record.new.self (fields_of c.read_byte_record.new.row) c.requires.at
    (rw c.in-Ok-false.field-0-test at (c.in-Ok-false.ensures.reads c.requires.at.plain c.requires.at.ready)) in
    record { taken = none }

pub returns-in-UnequalLengths : goal.returns-in-UnequalLengths
unfolding Answers
returns-in-UnequalLengths c =
    let why = rw (sym c.kind.ensures ∙ c.in-UnequalLengths.is) at (c.in-Err.ensures.why c.requires.at.ready) in
    let other = uneven c.args.reader.now c.read_byte_record.new.self why.3 c.in-UnequalLengths.expected_len c.requires.at why.1 (λ e. why.2 (e ∙ why.5)) why.4 in
    record { taken = other }
