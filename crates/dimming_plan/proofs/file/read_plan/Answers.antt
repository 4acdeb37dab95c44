-- What of `read_plan` wants a proof by hand.
use Rattle.std.proofs.Common.{◌≡◌, ◌∙◌, sym, ap, ℕ, Some, None}
use Rattle.csv.specs.Reading.{expected_len}
use Rattle.csv.specs.Records.{fields_of}
use Rattle.claim_file.specs.Rows.{rows_left}
use Rattle.claim_file.proofs.Taking.{as_end, as_record, as_uneven}
use Rattle.claim_file.proofs.Texts.{all_left}
use Rattle.dimming_plan.proofs.PlanLamps.{after_header, no_lamp, no_record}
use Rattle.dimming_plan.proofs.file.read_plan.Goals as goal

pub read_lamps-requires-clause-at : goal.read_lamps-requires-clause-at
read_lamps-requires-clause-at c =
    (as_record c.in_ok-take_record.field-0 c.from_reader-reader.result c.take_record.new.reader (fields_of c.take_record.new.row) c.in-Record.is
    c.in_ok-take_record.ensures.taken).at

pub read_lamps-requires-clause-width : goal.read_lamps-requires-clause-width
read_lamps-requires-clause-width c =
    let t = as_record c.in_ok-take_record.field-0 c.from_reader-reader.result c.take_record.new.reader (fields_of c.take_record.new.row) c.in-Record.is
    c.in_ok-take_record.ensures.taken in
    t.width ∙ ap (λ (n : ℕ). Some n) (sym c.len-width.ensures)

pub returns-in-Record-clause-read : goal.returns-in-Record-clause-read
returns-in-Record-clause-read c =
    let t = as_record c.in_ok-take_record.field-0 c.from_reader-reader.result c.take_record.new.reader (fields_of c.take_record.new.row) c.in-Record.is
    c.in_ok-take_record.ensures.taken in
    let start = all_left c.from_reader-reader.result c.args.bytes.now c.from_reader-reader.ensures.state c.from_reader-reader.ensures.source in
    let says = after_header c.args.bytes.now c.args.lamps c.len-width.result (rows_left c.from_reader-reader.result) (fields_of c.take_record.new.row)
    (rows_left c.take_record.new.reader) start t.rows (sym c.len-width.ensures) in
    rw says c.read_lamps.ensures.read

pub returns-in-Record-clause-refused : goal.returns-in-Record-clause-refused
returns-in-Record-clause-refused c =
    let t = as_record c.in_ok-take_record.field-0 c.from_reader-reader.result c.take_record.new.reader (fields_of c.take_record.new.row) c.in-Record.is
    c.in_ok-take_record.ensures.taken in
    let start = all_left c.from_reader-reader.result c.args.bytes.now c.from_reader-reader.ensures.state c.from_reader-reader.ensures.source in
    let says = after_header c.args.bytes.now c.args.lamps c.len-width.result (rows_left c.from_reader-reader.result) (fields_of c.take_record.new.row)
    (rows_left c.take_record.new.reader) start t.rows (sym c.len-width.ensures) in
    rw says c.read_lamps.ensures.refused

-- the first record can't differ from one before it
pub unreachable-requires : goal.unreachable-requires
unreachable-requires c =
    let u = as_uneven c.in_ok-take_record.field-0 c.from_reader-reader.result c.take_record.new.reader (fields_of c.take_record.new.row) c.in-OtherLength.is
    c.in_ok-take_record.ensures.taken in
    let none : expected_len c.from_reader-reader.result ≡ None = c.from_reader-reader.ensures.expected in
    cc (sym none ∙ u.expected)

pub returns-in-End-clause-read : goal.returns-in-End-clause-read
returns-in-End-clause-read c =
    let start = all_left c.from_reader-reader.result c.args.bytes.now c.from_reader-reader.ensures.state c.from_reader-reader.ensures.source in
    let none = as_end c.in_ok-take_record.field-0 c.from_reader-reader.result c.take_record.new.reader (fields_of c.take_record.new.row) c.in-End.is
    c.in_ok-take_record.ensures.taken in
    rw c.new-in-End.ensures.items
    (no_lamp c.args.bytes.now c.args.lamps (rows_left c.from_reader-reader.result) start none c.if-lamps-eq0.true)

pub returns-clause-refused : goal.returns-clause-refused
returns-clause-refused c =
    let start = all_left c.from_reader-reader.result c.args.bytes.now c.from_reader-reader.ensures.state c.from_reader-reader.ensures.source in
    let none = as_end c.in_ok-take_record.field-0 c.from_reader-reader.result c.take_record.new.reader (fields_of c.take_record.new.row) c.in-End.is
    c.in_ok-take_record.ensures.taken in
    λ not. no_record c.args.bytes.now c.args.lamps (rows_left c.from_reader-reader.result) start none c.if-lamps-eq0.false
