-- The lines so far sum up the first tables.
use Rattle.std.proofs.Common.{◌≡◌, length, map, string_bytes}
use Rattle.report_page.proofs.Summaries.{SumUp}
use Rattle.report_page.proofs.files.summaries_of.Given as goal

abbrev pub invariant-loop-photo : goal.invariant-loop-photo
invariant-loop-photo l = (length l.summaries.items ≡ l.photo-index) × SumUp l.photos (map string_bytes l.summaries.items)
