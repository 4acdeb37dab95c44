-- What holds of verdicts.
use Rattle.std.specs.Prelude.{ℕ, ◌≡◌, ◌<◌, ◌≤◌, ◌↔◌, Option, Some, IfSome, IsSomeAnd}
use Rattle.room_layout.specs.declared.room.Limits.{Limits}
use Rattle.limit_verdict.specs.declared.verdict.Verdict.TheVariants.{Met, Missed, Undecided}
use Rattle.limit_verdict.specs.declared.verdict.Verdicts.{Verdicts}
use Rattle.limit_verdict.specs.Verdicts.{overall, verdicts_of, SomeIs}

-- each number of the interval reaches the least that is asked
abbrev pub AllReach : ℕ → ℕ → ℕ → Type 0
AllReach least lo hi = (x : ℕ) → lo ≤ x → x ≤ hi → least ≤ x

-- none does
abbrev pub NoneReach : ℕ → ℕ → ℕ → Type 0
NoneReach least lo hi = (x : ℕ) → lo ≤ x → x ≤ hi → x < least

-- the lower end doesn't, and the upper end does, so that the interval lies on both sides
abbrev pub LiesOnBothSides : ℕ → ℕ → ℕ → Type 0
LiesOnBothSides least lo hi = lo < least × least ≤ hi

-- what holds of all limits and printed ends that are in order
abbrev pub OfAllEnds : (Limits → ℕ → ℕ → Option (ℕ × ℕ) → Type 0) → Type 0
OfAllEnds P = (limits : Limits) (lo hi : ℕ) (uniformity : Option (ℕ × ℕ)) → lo ≤ hi → IfSome uniformity (λ e. e.0 ≤ e.1) → P limits lo hi uniformity

-- a limit is met exactly where it is given and the whole printed interval reaches it
abbrev pub MetExactly : Type 0
MetExactly = OfAllEnds (λ limits lo hi uniformity.
    ((verdicts_of limits lo hi uniformity).average ≡ Some Met ↔ IsSomeAnd limits.average (λ least. AllReach least lo hi))
    × ((verdicts_of limits lo hi uniformity).uniformity ≡ Some Met ↔ IsSomeAnd limits.uniformity (λ least. IsSomeAnd uniformity (λ e. AllReach least e.0 e.1))))

-- it is missed exactly where it is given and nothing of the printed interval reaches it
abbrev pub MissedExactly : Type 0
MissedExactly = OfAllEnds (λ limits lo hi uniformity.
    ((verdicts_of limits lo hi uniformity).average ≡ Some Missed ↔ IsSomeAnd limits.average (λ least. NoneReach least lo hi))
    × ((verdicts_of limits lo hi uniformity).uniformity ≡ Some Missed ↔ IsSomeAnd limits.uniformity (λ least. IsSomeAnd uniformity (λ e. NoneReach least e.0 e.1))))

-- it is undecided exactly where it is given and the printed interval has both sides of it, or where no uniformity is printed
abbrev pub UndecidedExactly : Type 0
UndecidedExactly = OfAllEnds (λ limits lo hi uniformity.
    ((verdicts_of limits lo hi uniformity).average ≡ Some Undecided ↔ IsSomeAnd limits.average (λ least. LiesOnBothSides least lo hi))
    × ((verdicts_of limits lo hi uniformity).uniformity ≡ Some Undecided ↔ IsSomeAnd limits.uniformity (λ least. IfSome uniformity (λ e. LiesOnBothSides least e.0 e.1))))

-- verdicts say missed together exactly where one of them is
abbrev pub MissedOverall : Type 0
MissedOverall = (v : Verdicts) → (overall v ≡ Missed) ↔ SomeIs Missed v

-- undecided exactly where one of them is and none is missed
abbrev pub UndecidedOverall : Type 0
UndecidedOverall = (v : Verdicts) → (overall v ≡ Undecided) ↔ (SomeIs Undecided v × ¬ SomeIs Missed v)

-- met exactly where each of them is
abbrev pub MetOverall : Type 0
MetOverall = (v : Verdicts) → (overall v ≡ Met) ↔ (IfSome v.average (λ a. a ≡ Met) × IfSome v.uniformity (λ u. u ≡ Met))
