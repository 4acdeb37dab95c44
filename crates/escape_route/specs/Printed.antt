-- How the light of a route is printed: in lux with two decimals and as a ratio with three, rounded outward, and held against limits.
use Rattle.std.specs.Prelude.{ℕ, ◌≡◌, ◌*◌, List, ◌++◌, codes, decimal, Option, Some, None, IfSome, MatchOption}
use Rattle.fx_base.specs.Ends.{Ends}
use Rattle.fx_base.specs.Rounded.{hundredths_below, hundredths_above}
use Rattle.fx_base.specs.Units.{natural}
use Rattle.decimal_text.specs.Decimals.{hundredths, thousandths}
use Rattle.decimal_text.specs.Lines.{line}
use Rattle.limit_verdict.specs.Verdicts.{verdict, verdict_word, worse}
use Rattle.limit_verdict.specs.declared.verdict.Verdict.{Verdict}
use Rattle.limit_verdict.specs.declared.verdict.Verdict.TheVariants.{Undecided}
use Rattle.escape_route.specs.Ratios.{most_verdict, IsRatio, RatioHolds}
use Rattle.escape_route.specs.declared.ends.Extremes.{Extremes}
use Rattle.escape_route.specs.declared.lines.RouteLimits.{RouteLimits}

-- ---- numbers

-- the ends that are printed of a light, in hundredths
abbrev pub printed_lo : Ends → ℕ
printed_lo span = hundredths_below (natural span.lo)

abbrev pub printed_hi : Ends → ℕ
printed_hi span = hundredths_above (natural span.hi)

abbrev pub printed_ends : Ends → ℕ × ℕ
printed_ends span = (printed_lo span, printed_hi span)

abbrev pub ends_text : ℕ × ℕ → List ℕ
ends_text ends = hundredths ends.0 ++ codes " " ++ hundredths ends.1

-- a ratio in thousandths, where there is one
abbrev pub ratio_text : Option (ℕ × ℕ) → List ℕ
ratio_text None = codes "none"
ratio_text (Some r) = thousandths r.0 ++ codes " " ++ thousandths r.1

-- ---- verdicts, by what is printed

-- on a least light that is asked for, in thousandths of a lux
abbrev pub least_verdict : ℕ → Ends → Verdict
least_verdict least span = verdict least (printed_lo span * 10) (printed_hi span * 10)

-- on a ratio that is asked to be so many times at most; without a printed one nothing is decided
abbrev pub ratio_verdict : ℕ → Option (ℕ × ℕ) → Verdict
ratio_verdict most None = Undecided
ratio_verdict most (Some r) = most_verdict (most * 1000) r.0 r.1

-- the worse of the two
abbrev pub route_verdict : RouteLimits → Extremes → Option (ℕ × ℕ) → Verdict
route_verdict limits e r = worse (least_verdict limits.least e.least) (ratio_verdict limits.ratio r)

-- ---- lines

-- the number of points, and the light
abbrev pub light_lines : (points : ℕ) → (least greatest : ℕ × ℕ) → (ratio : Option (ℕ × ℕ)) → List ℕ
light_lines points least greatest ratio =
    line (codes "points " ++ decimal points) ++ line (codes "least " ++ ends_text least) ++ line (codes "greatest " ++ ends_text greatest)
    ++ line (codes "ratio " ++ ratio_text ratio)

-- a limit and its verdict; what is asked is in thousandths
abbrev pub limit_line : List ℕ → ℕ → Verdict → List ℕ
limit_line name asked v = line (codes "limit " ++ name ++ codes " " ++ thousandths asked ++ codes " " ++ verdict_word v)

abbrev pub route_lines : (points : ℕ) → RouteLimits → Extremes → Option (ℕ × ℕ) → List ℕ
route_lines points limits e r =
    light_lines points (printed_ends e.least) (printed_ends e.greatest) r ++ limit_line (codes "least") limits.least (least_verdict limits.least e.least)
    ++ limit_line (codes "ratio") (limits.ratio * 1000) (ratio_verdict limits.ratio r)

-- the text has the lines of a route of so many points, and this is the worse of its verdicts
pub record IsRouteText (points : ℕ) (e : Extremes) (limits : RouteLimits) (v : Verdict) (text : List ℕ) : Type 0 where
  pub ratio : Option (ℕ × ℕ)
  pub ratio_is : MatchOption ratio (natural e.least.lo ≡ 0) (λ r. IsRatio e.least e.greatest r.0 r.1)
  pub ratio_holds : IfSome ratio (λ r. RatioHolds e.least e.greatest r.0 r.1)
  pub verdict_is : v ≡ route_verdict limits e ratio
  pub text_is : text ≡ route_lines points limits e ratio
