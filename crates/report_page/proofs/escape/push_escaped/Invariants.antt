-- The text has grown by the characters so far.
use Rattle.std.proofs.Common.{◌≡◌, ◌++◌, string_bytes}
use lib.Utf8.{encodes}
use Rattle.report_page.specs.Escaped.{escaped}
use Rattle.report_page.proofs.escape.push_escaped.Given as goal

abbrev pub invariant-loop-c : goal.invariant-loop-c
invariant-loop-c l = string_bytes l.text ≡ string_bytes l.initial.text ++ escaped (encodes l.yielded)
