use Rattle.std.proofs.Common.{◌-◌, List, ℕ, map, drop, length}
use Rattle.std.specs.Prelude.{codes}
use Rattle.std.specs.Char.{to_ascii_lowercase}
use Rattle.std.specs.Str.{bytes_eq}
use Rattle.std.proofs.lemmas.Bool.Decides.{same_from_decides}
use Rattle.std.proofs.lemmas.Slice.Eq.{bytes_eq-Decides}
use Rattle.lux_core.proofs.words.is_lm63.Goals as goal

pub returns : goal.returns
returns c =
    let end : List ℕ = map to_ascii_lowercase (drop (length c.args.name.now - 4) c.args.name.now) in
    same_from_decides c.eq_ignore_ascii_case.result (bytes_eq end (codes ".ies")) (rw (c.last_four-end.ensures.end, c.as_bytes.ensures.value) at c.eq_ignore_ascii_case.ensures.test) (bytes_eq-Decides end (codes ".ies"))
