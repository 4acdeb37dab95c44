-- What of `read_lamps` wants a proof by hand.
use Rattle.std.proofs.Common.{◌≡◌, ◌∙◌, sym, ap, arith, length, rules, [], ◌∷◌, ◌++◌, ℕ, Some}
use Rattle.std.proofs.lemmas.List.Elements.{All-push}
use Rattle.csv.specs.Reading.{expected_len}
use Rattle.csv.specs.Records.{fields_of}
use Rattle.claim_file.specs.Rows.{rows_left}
use Rattle.claim_file.proofs.Taking.{as_end, as_record, as_some, as_uneven, as_wide, not_as_wide}
use Rattle.dimming_plan.specs.PlanFile.{lamps_from, IsPlanLamp}
use Rattle.dimming_plan.proofs.PlanLamps.{all_read, at_first, missing, one_more, refused, too_many, uneven}
use Rattle.dimming_plan.proofs.file.read_lamps.Goals as goal

pub loop-n-init : goal.loop-n-init
loop-n-init c =
    record {
      at = c.requires.at;
      width = c.requires.width;
      size = search rules;
      within = search rules;
      so_far = rw c.new-plan.ensures.items (at_first (lamps_from c.args.lamps c.args.width 0 (rows_left c.args.reader.now)));
    }

pub returns-in_err-lamp-in-Record-clause-refused : goal.returns-in_err-lamp-in-Record-clause-refused
returns-in_err-lamp-in-Record-clause-refused c =
    let t = as_record c.in_ok-take_record.field-0 c.loop-n.reader c.take_record.new.reader (fields_of c.take_record.new.row) c.in-Record.is c.in_ok-take_record.ensures.taken in
    let even = as_wide (expected_len c.loop-n.reader) c.args.width (length (fields_of c.take_record.new.row)) c.loop-n.invariant.width t.even in
    let said = sym c.read_lamp.ensures.read ∙ c.in_err-lamp-in-Record.was in
    let fault = c.loop-n.invariant.so_far
    ∙ refused c.args.lamps c.args.width c.loop-n.n (rows_left c.loop-n.reader) (fields_of c.take_record.new.row) (rows_left c.take_record.new.reader)
    c.loop-n.plan.items c.in_err-lamp-in-Record.field-0.0 c.loop-n-test.true t.rows even said in
    search (rules, fault)

pub returns-in-OtherLength-clause-refused : goal.returns-in-OtherLength-clause-refused
returns-in-OtherLength-clause-refused c =
    let u = as_uneven c.in_ok-take_record.field-0 c.loop-n.reader c.take_record.new.reader (fields_of c.take_record.new.row) c.in-OtherLength.is c.in_ok-take_record.ensures.taken in
    λ not. c.loop-n.invariant.so_far
    ∙ uneven c.args.lamps c.args.width c.loop-n.n (rows_left c.loop-n.reader) u.fields u.more c.loop-n.plan.items c.loop-n-test.true u.rows
    (not_as_wide u.width c.args.width (length u.fields) (expected_len c.loop-n.reader) u.expected c.loop-n.invariant.width u.uneven)

pub returns-in-End-clause-refused : goal.returns-in-End-clause-refused
returns-in-End-clause-refused c =
    λ not. c.loop-n.invariant.so_far
    ∙ missing c.args.lamps c.args.width c.loop-n.n (rows_left c.loop-n.reader) c.loop-n.plan.items c.loop-n-test.true
    (as_end c.in_ok-take_record.field-0 c.loop-n.reader c.take_record.new.reader (fields_of c.take_record.new.row) c.in-End.is c.in_ok-take_record.ensures.taken)

pub loop-n-preserved : goal.loop-n-preserved
loop-n-preserved c =
    let t = as_record c.in_ok-take_record.field-0 c.loop-n.reader c.take_record.new.reader (fields_of c.take_record.new.row) c.in-Record.is c.in_ok-take_record.ensures.taken in
    let even = as_wide (expected_len c.loop-n.reader) c.args.width (length (fields_of c.take_record.new.row)) c.loop-n.invariant.width t.even in
    let said = sym c.read_lamp.ensures.read ∙ c.in_ok-lamp-in-Record.was in
    let longer : c.push.new.self.items ≡ c.loop-n.plan.items ++ (c.in_ok-lamp-in-Record.lamp ∷ []) = search rules in
    record {
      at = t.at;
      width = t.width ∙ ap (λ (n : ℕ). Some n) even;
      size = search rules;
      within = rw longer (All-push IsPlanLamp c.loop-n.plan.items c.in_ok-lamp-in-Record.lamp c.loop-n.invariant.within c.in_ok-lamp-in-Record.ensures.within);
      so_far = rw longer (c.loop-n.invariant.so_far
          ∙ one_more c.args.lamps c.args.width c.loop-n.n (rows_left c.loop-n.reader) (fields_of c.take_record.new.row) (rows_left c.take_record.new.reader)
          c.loop-n.plan.items c.in_ok-lamp-in-Record.lamp c.loop-n-test.true t.rows even said);
    }

pub returns-in-End-2-clause-read : goal.returns-in-End-2-clause-read
returns-in-End-2-clause-read c =
    c.loop-n.invariant.so_far
    ∙ all_read c.args.lamps c.args.width c.loop-n.n (rows_left c.loop-n.reader) c.loop-n.plan.items (omega arith)
    (as_end c.in_ok-take_record-2.field-0 c.loop-n.reader c.take_record-2.new.reader (fields_of c.take_record-2.new.row) c.in-End-2.is c.in_ok-take_record-2.ensures.taken)

pub returns-in-Record-2-clause-refused : goal.returns-in-Record-2-clause-refused
returns-in-Record-2-clause-refused c =
    let s = as_some c.in_ok-take_record-2.field-0 c.loop-n.reader c.take_record-2.new.reader (fields_of c.take_record-2.new.row) c.in-Record-2.is
    c.in_ok-take_record-2.ensures.taken in
    λ not. c.loop-n.invariant.so_far
    ∙ too_many c.args.lamps c.args.width c.loop-n.n (rows_left c.loop-n.reader) s.0 s.1 c.loop-n.plan.items (omega arith) s.2
