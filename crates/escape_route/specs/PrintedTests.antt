-- Printed routes and their verdicts, computed.
use Rattle.std.specs.Prelude.{◌≡◌, ℕ, ◌*◌, pos, [], ◌∷◌, map, codes, Some, None, refl}
use Rattle.std.specs.Fmt.{digits}
use Rattle.fx_base.specs.Ends.{Ends}
use Rattle.limit_verdict.specs.declared.verdict.Verdict.TheVariants.{Met, Missed, Undecided}
use Rattle.escape_route.specs.Printed.{least_verdict, ratio_verdict, route_lines, route_verdict}
use Rattle.escape_route.specs.Ratios.{most_verdict}

-- exactly so many lux
abbrev lux : ℕ → Ends
lux n = record { lo = pos (n * 68719476736); hi = pos (n * 68719476736) }

-- 40 is asked at most: the interval ends there, goes beyond, and begins there and a thousandth beyond
at_the_limit : most_verdict 40000 39999 40000 ∷ most_verdict 40000 39999 40001 ∷ most_verdict 40000 40000 40001 ∷ most_verdict 40000 40001 40001 ∷ [] ≡ Met ∷ Undecided ∷ Undecided ∷ Missed ∷ []
at_the_limit = refl

-- a lux is asked of a lux, a thousandth more, and a thousandth less
least_at_the_limit : map (λ least. least_verdict least (lux 1)) (1000 ∷ 1001 ∷ 999 ∷ []) ≡ Met ∷ Missed ∷ Met ∷ []
least_at_the_limit = refl

no_ratio : ratio_verdict 1000 None ≡ Undecided
no_ratio = refl

-- the worse of both
missed_and_undecided : route_verdict (record { least = 1; ratio = 40 }) (record { least = lux 0; greatest = lux 2 }) None ≡ Missed
missed_and_undecided = refl

two_to_one : route_lines 5 (record { least = 1000; ratio = 40 }) (record { least = lux 1; greatest = lux 2 }) (Some (2000, 2000))
    ≡ codes "points 5\nleast 1.00 1.00\ngreatest 2.00 2.00\nratio 2.000 2.000\nlimit least 1.000 met\nlimit ratio 40.000 met\n"
unfolding digits
two_to_one = refl

in_the_dark : route_lines 1 (record { least = 1000; ratio = 40 }) (record { least = lux 0; greatest = lux 0 }) None
    ≡ codes "points 1\nleast 0.00 0.00\ngreatest 0.00 0.00\nratio none\nlimit least 1.000 missed\nlimit ratio 40.000 undecided\n"
unfolding digits
in_the_dark = refl
