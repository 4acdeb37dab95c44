-- What of `claim_text` wants a proof by hand.
use Rattle.std.proofs.Common.{◌≡◌, ◌∙◌, ◌++◌, sym, ap, arith, ℕ, List}
use Rattle.claim_file.specs.Writers.{written}
use Rattle.claim_file.specs.Written.{claim_bytes, claim_rows, rows_text}
use Rattle.claim_file.proofs.Back.{written_is_read}
use Rattle.claim_file.proofs.Writing.{all_written, header_first, patch_more}
use Rattle.claim_file.proofs.write.claim_text.Goals as goal

pub loop-n-init : goal.loop-n-init
loop-n-init c =
    let head = rw (
      c.from_writer-writer.ensures.wtr,
      c.new-2.ensures.items,
      c.from_writer-writer.ensures.empty,
      c.as_slice.ensures,
      c.as_slice-2.ensures,
      c.as_slice-3.ensures,
    ) at c.in_ok-put_record.ensures.text in
    record {
      plain = c.in_ok-put_record.ensures.plain;
      so_far = header_first c.args.bounds.now.lower.items c.args.bounds.now.upper.items
          ∙ ap (λ (t : List ℕ). t ++ rows_text (claim_rows 0 c.args.bounds.now.lower.items c.args.bounds.now.upper.items)) (sym head);
    }

pub loop-n-preserved : goal.loop-n-preserved
loop-n-preserved c =
    record {
      plain = c.in_ok-put_patch.ensures.plain;
      so_far = patch_more c.loop-n.n c.args.bounds.now.lower.items c.args.bounds.now.upper.items c.index.result.now c.index-in-loop-n.result.now
          (claim_bytes c.args.bounds.now.lower.items c.args.bounds.now.upper.items) (written c.loop-n.writer) (written c.put_patch.new.writer)
          (omega arith) (omega arith) c.index.ensures c.index-in-loop-n.ensures c.loop-n.invariant.so_far c.in_ok-put_patch.ensures.text;
    }

pub returns-in-Ok-clause-text : goal.returns-in-Ok-clause-text
returns-in-Ok-clause-text c =
    c.in-Ok.ensures.ok ∙ sym (all_written c.loop-n.n c.args.bounds.now.lower.items c.args.bounds.now.upper.items
    (claim_bytes c.args.bounds.now.lower.items c.args.bounds.now.upper.items) (written c.loop-n.writer) (omega arith) c.loop-n.invariant.so_far)

pub returns-in-Ok-clause-back : goal.returns-in-Ok-clause-back
returns-in-Ok-clause-back c =
    let text : c.in-Ok.text.items ≡ claim_bytes c.args.bounds.now.lower.items c.args.bounds.now.upper.items =
    c.in-Ok.ensures.ok ∙ sym (all_written c.loop-n.n c.args.bounds.now.lower.items c.args.bounds.now.upper.items
    (claim_bytes c.args.bounds.now.lower.items c.args.bounds.now.upper.items) (written c.loop-n.writer) (omega arith) c.loop-n.invariant.so_far) in
    rw text (written_is_read c.args.bounds.now.lower.items c.args.bounds.now.upper.items c.requires.same c.requires.few c.requires.lower_ends c.requires.upper_ends)
