-- Verdicts on the limits of a room, by printed ends: their rule, what they say together, and how they are printed.
use Rattle.std.specs.Prelude.{ℕ, ◌≡◌, ◌⊎◌, nat_le, nat_lt, if◌then◌else◌, List, [], ◌++◌, codes, Option, Some, None, unwrap_or}
use Rattle.std.specs.Option.{option_map}
use Rattle.decimal_text.specs.Decimals.{thousandths}
use Rattle.decimal_text.specs.Lines.{line}
use Rattle.room_layout.specs.declared.room.Limits.{Limits}
use Rattle.limit_verdict.specs.declared.verdict.Verdict.{Verdict}
use Rattle.limit_verdict.specs.declared.verdict.Verdict.TheVariants.{Met, Missed, Undecided}
use Rattle.limit_verdict.specs.declared.verdict.Verdicts.{Verdicts}

-- met where the lower end reaches the least that is asked, missed where the upper end doesn't
abbrev pub verdict : ℕ → ℕ → ℕ → Verdict
verdict least lo hi = if nat_le least lo then Met else (if nat_lt hi least then Missed else Undecided)

-- without a printed uniformity nothing is decided
abbrev pub uniformity_verdict : ℕ → Option (ℕ × ℕ) → Verdict
uniformity_verdict least None = Undecided
uniformity_verdict least (Some e) = verdict least e.0 e.1

-- on each limit that is given, by the ends of the average and of the uniformity
abbrev pub verdicts_of : Limits → ℕ → ℕ → Option (ℕ × ℕ) → Verdicts
verdicts_of limits lo hi uniformity = record {
  average = option_map (λ least. verdict least lo hi) limits.average;
  uniformity = option_map (λ least. uniformity_verdict least uniformity) limits.uniformity;
}

-- ---- together

-- there is this one among them
abbrev pub SomeIs : Verdict → Verdicts → Type 0
SomeIs v verdicts = (verdicts.average ≡ Some v) ⊎ (verdicts.uniformity ≡ Some v)

-- missed before undecided, and undecided before met
abbrev pub worse : Verdict → Verdict → Verdict
worse Met w = w
worse Missed w = Missed
worse Undecided Missed = Missed
worse Undecided Met = Undecided
worse Undecided Undecided = Undecided

-- the worse of the two, where a limit that isn't given counts as met
abbrev pub overall : Verdicts → Verdict
overall verdicts = worse (unwrap_or verdicts.average Met) (unwrap_or verdicts.uniformity Met)

-- ---- printed

abbrev pub verdict_word : Verdict → List ℕ
verdict_word Met = codes "met"
verdict_word Missed = codes "missed"
verdict_word Undecided = codes "undecided"

-- the line of a limit; there is none where it isn't given
abbrev pub limit_line : List ℕ → Option ℕ → Option Verdict → List ℕ
limit_line name (Some least) (Some v) = line (codes "limit " ++ name ++ codes " " ++ thousandths least ++ codes " " ++ verdict_word v)
limit_line name (Some least) None = []
limit_line name None v = []

-- the lines of both limits
abbrev pub verdict_lines : Limits → ℕ → ℕ → Option (ℕ × ℕ) → List ℕ
verdict_lines limits lo hi uniformity =
    let verdicts = verdicts_of limits lo hi uniformity in
    limit_line (codes "average") limits.average verdicts.average ++ limit_line (codes "uniformity") limits.uniformity verdicts.uniformity
