-- What of `read_entries` wants a proof by hand.
use Rattle.std.proofs.Common.{◌≡◌, ◌∙◌, sym, ap, arith, length, rules, [], ◌∷◌, ◌++◌, ℕ, Some}
use Rattle.std.proofs.lemmas.List.Elements.{All-push}
use Rattle.csv.specs.Reading.{expected_len}
use Rattle.csv.specs.Records.{fields_of}
use Rattle.fx_base.specs.Bound.{IsEnd}
use Rattle.claim_file.specs.Rows.{rows_left}
use Rattle.claim_file.proofs.Taking.{as_end, as_record, as_some, as_uneven, as_wide, not_as_wide}
use Rattle.claim_file.proofs.Entries.{all_read, at_first, missing, one_more, refused, too_many, uneven}
use Rattle.claim_file.proofs.read.read_entries.Goals as goal

pub loop-n-init : goal.loop-n-init
loop-n-init c =
    record {
      at = c.requires.at;
      width = c.requires.width;
      lower_size = search rules;
      upper_size = search rules;
      lower_ends = search rules;
      upper_ends = search rules;
      so_far = rw (c.new-lower.ensures.items, c.new-upper.ensures.items) (at_first c.args.patches c.args.width (rows_left c.args.reader.now));
    }

pub returns-in_err-entry-in-Record-clause-refused : goal.returns-in_err-entry-in-Record-clause-refused
returns-in_err-entry-in-Record-clause-refused c =
    let t = as_record c.in_ok-take_record.field-0 c.loop-n.reader c.take_record.new.reader (fields_of c.take_record.new.row) c.in-Record.is c.in_ok-take_record.ensures.taken in
    let even = as_wide (expected_len c.loop-n.reader) c.args.width (length (fields_of c.take_record.new.row)) c.loop-n.invariant.width t.even in
    let said = sym c.read_entry.ensures.read ∙ c.in_err-entry-in-Record.was in
    let fault = c.loop-n.invariant.so_far
    ∙ refused c.args.patches c.args.width c.loop-n.n (rows_left c.loop-n.reader) (fields_of c.take_record.new.row) (rows_left c.take_record.new.reader)
    c.loop-n.lower.items c.loop-n.upper.items c.in_err-entry-in-Record.field-0.0 c.loop-n-test.true t.rows even said in
    search (rules, fault)

pub returns-in-OtherLength-clause-refused : goal.returns-in-OtherLength-clause-refused
returns-in-OtherLength-clause-refused c =
    let u = as_uneven c.in_ok-take_record.field-0 c.loop-n.reader c.take_record.new.reader (fields_of c.take_record.new.row) c.in-OtherLength.is c.in_ok-take_record.ensures.taken in
    λ not. c.loop-n.invariant.so_far
    ∙ uneven c.args.patches c.args.width c.loop-n.n (rows_left c.loop-n.reader) u.fields u.more c.loop-n.lower.items c.loop-n.upper.items c.loop-n-test.true u.rows
    (not_as_wide u.width c.args.width (length u.fields) (expected_len c.loop-n.reader) u.expected c.loop-n.invariant.width u.uneven)

pub returns-in-End-clause-refused : goal.returns-in-End-clause-refused
returns-in-End-clause-refused c =
    λ not. c.loop-n.invariant.so_far
    ∙ missing c.args.patches c.args.width c.loop-n.n (rows_left c.loop-n.reader) c.loop-n.lower.items c.loop-n.upper.items c.loop-n-test.true
    (as_end c.in_ok-take_record.field-0 c.loop-n.reader c.take_record.new.reader (fields_of c.take_record.new.row) c.in-End.is c.in_ok-take_record.ensures.taken)

pub loop-n-preserved : goal.loop-n-preserved
loop-n-preserved c =
    let t = as_record c.in_ok-take_record.field-0 c.loop-n.reader c.take_record.new.reader (fields_of c.take_record.new.row) c.in-Record.is c.in_ok-take_record.ensures.taken in
    let even = as_wide (expected_len c.loop-n.reader) c.args.width (length (fields_of c.take_record.new.row)) c.loop-n.invariant.width t.even in
    let said = sym c.read_entry.ensures.read ∙ c.in_ok-entry-in-Record.was in
    let lowers : c.push.new.self.items ≡ c.loop-n.lower.items ++ (c.in_ok-entry-in-Record.entry.lower ∷ []) = search rules in
    let uppers : c.push-in-Record.new.self.items ≡ c.loop-n.upper.items ++ (c.in_ok-entry-in-Record.entry.upper ∷ []) = search rules in
    record {
      at = t.at;
      width = t.width ∙ ap (λ (n : ℕ). Some n) even;
      lower_size = search rules;
      upper_size = search rules;
      lower_ends = rw lowers (All-push IsEnd c.loop-n.lower.items c.in_ok-entry-in-Record.entry.lower c.loop-n.invariant.lower_ends c.in_ok-entry-in-Record.ensures.lower_end);
      upper_ends = rw uppers (All-push IsEnd c.loop-n.upper.items c.in_ok-entry-in-Record.entry.upper c.loop-n.invariant.upper_ends c.in_ok-entry-in-Record.ensures.upper_end);
      so_far = rw (lowers, uppers) (c.loop-n.invariant.so_far
          ∙ one_more c.args.patches c.args.width c.loop-n.n (rows_left c.loop-n.reader) (fields_of c.take_record.new.row) (rows_left c.take_record.new.reader)
          c.loop-n.lower.items c.loop-n.upper.items c.in_ok-entry-in-Record.entry c.loop-n-test.true t.rows even said);
    }

pub returns-in-End-2-clause-read : goal.returns-in-End-2-clause-read
returns-in-End-2-clause-read c =
    c.loop-n.invariant.so_far
    ∙ all_read c.args.patches c.args.width c.loop-n.n (rows_left c.loop-n.reader) c.loop-n.lower.items c.loop-n.upper.items (omega arith)
    (as_end c.in_ok-take_record-2.field-0 c.loop-n.reader c.take_record-2.new.reader (fields_of c.take_record-2.new.row) c.in-End-2.is c.in_ok-take_record-2.ensures.taken)

pub returns-in-Record-2-clause-refused : goal.returns-in-Record-2-clause-refused
returns-in-Record-2-clause-refused c =
    let s = as_some c.in_ok-take_record-2.field-0 c.loop-n.reader c.take_record-2.new.reader (fields_of c.take_record-2.new.row) c.in-Record-2.is
    c.in_ok-take_record-2.ensures.taken in
    λ not. c.loop-n.invariant.so_far
    ∙ too_many c.args.patches c.args.width c.loop-n.n (rows_left c.loop-n.reader) s.0 s.1 c.loop-n.lower.items c.loop-n.upper.items (omega arith) s.2
