-- Verdicts, computed.
use Rattle.std.specs.Prelude.{◌≡◌, refl, codes, map, [], ◌∷◌, Some, None}
use Rattle.std.specs.Fmt.{digits}
use Rattle.room_layout.specs.declared.room.Limits.{Limits}
use Rattle.limit_verdict.specs.declared.verdict.Verdict.TheVariants.{Met, Missed, Undecided}
use Rattle.limit_verdict.specs.Verdicts.{verdict, verdicts_of, overall, worse, verdict_lines}

-- 300 lux are asked, in thousandths: the interval has both sides of them, begins there, ends just below them, ends there
at_the_limit : verdict 300000 299980 300020 ∷ verdict 300000 300000 300040 ∷ verdict 300000 299950 299999 ∷ verdict 300000 299950 300000 ∷ []
    ≡ Undecided ∷ Met ∷ Missed ∷ Undecided ∷ []
at_the_limit = refl

-- nothing is asked, so that each interval reaches it
nothing_asked : verdict 0 0 0 ≡ Met
nothing_asked = refl

-- ---- together

-- one that is missed hides each other, and one that is undecided hides those that are met
worst_of_two :
    map (worse Met) (Met ∷ Missed ∷ Undecided ∷ []) ∷ map (worse Missed) (Met ∷ Missed ∷ Undecided ∷ []) ∷ map (worse Undecided) (Met ∷ Missed ∷ Undecided ∷ []) ∷ []
    ≡ (Met ∷ Missed ∷ Undecided ∷ []) ∷ (Missed ∷ Missed ∷ Missed ∷ []) ∷ (Undecided ∷ Missed ∷ Undecided ∷ []) ∷ []
worst_of_two = refl

-- an average of 1 lux and a uniformity of 0.5 are asked, where the average is below 0.01 lux and no uniformity is printed
both_asked : Limits
both_asked = record { average = Some 1000; uniformity = Some 500 }

in_the_dark : verdicts_of both_asked 0 10 None ≡ record { average = Some Missed; uniformity = Some Undecided }
unfolding both_asked
in_the_dark = refl

in_the_dark_together : overall (verdicts_of both_asked 0 10 None) ≡ Missed
unfolding both_asked
in_the_dark_together = refl

none_asked : overall (verdicts_of (record { average = None; uniformity = None }) 0 10 None) ≡ Met
none_asked = refl

-- ---- printed

lines_in_the_dark : verdict_lines both_asked 0 10 None ≡ codes "limit average 1.000 missed\nlimit uniformity 0.500 undecided\n"
unfolding both_asked digits
lines_in_the_dark = refl

one_line : verdict_lines (record { average = None; uniformity = Some 500 }) 383500 383510 (Some (522, 523)) ≡ codes "limit uniformity 0.500 met\n"
unfolding digits
one_line = refl

no_line : verdict_lines (record { average = None; uniformity = None }) 383500 383510 (Some (522, 523)) ≡ []
no_line = refl
