-- The text of a route, put together of its parts.
use Rattle.std.proofs.Common.{ℕ, ◌*◌, ◌≡◌, ◌++◌, List, refl}
use Rattle.std.specs.Prelude.{Option, codes}
use Rattle.limit_verdict.specs.Verdicts.{verdict}
use Rattle.limit_verdict.specs.declared.verdict.Verdict.{Verdict}
use Rattle.escape_route.specs.Printed.{light_lines, limit_line, printed_hi, printed_lo, ratio_verdict, route_lines}
use Rattle.escape_route.specs.declared.ends.Extremes.{Extremes}
use Rattle.escape_route.specs.declared.lines.RouteLimits.{RouteLimits}

pub all_lines : (points : ℕ) (limits : RouteLimits) (e : Extremes) (r : Option (ℕ × ℕ)) (least_lo least_hi greatest_lo greatest_hi : ℕ) (v w : Verdict) (light first both : List ℕ)
    → least_lo ≡ printed_lo e.least → least_hi ≡ printed_hi e.least → greatest_lo ≡ printed_lo e.greatest → greatest_hi ≡ printed_hi e.greatest
    → v ≡ verdict limits.least (least_lo * 10) (least_hi * 10) → w ≡ ratio_verdict limits.ratio r
    → light ≡ light_lines points (least_lo, least_hi) (greatest_lo, greatest_hi) r → first ≡ light ++ limit_line (codes "least") limits.least v
    → both ≡ first ++ limit_line (codes "ratio") (limits.ratio * 1000) w → both ≡ route_lines points limits e r
all_lines points limits e r least_lo least_hi greatest_lo greatest_hi v w light first both a b c d f g h i j = rw (j, i, h, f, g, a, b, c, d) refl
