-- How far a search among all plans is. Plans are looked at by number: their steps are its digits to the base 11, so that a plan comes before
-- another where its number is the lesser one.
use Rattle.std.specs.Prelude.{ℕ, ◌≡◌, ◌/◌, ◌%◌, ◌<◌, ◌≤◌, List, [], ◌∷◌, Option, MatchOption}
use Rattle.dimming_plan.specs.declared.power.Found.{Found}
use Rattle.dimming_plan.specs.Steps.{Reaches, weighed}

abbrev pub IsStep : ℕ → Type 0
IsStep step = step ≤ 10

-- the plan of a number
unfoldable pub plan_at : ℕ → List ℕ
plan_at p = p / 11 / 11 / 11 / 11 / 11 ∷ p / 11 / 11 / 11 / 11 % 11 ∷ p / 11 / 11 / 11 % 11 ∷ p / 11 / 11 % 11 ∷ p / 11 % 11 ∷ p % 11 ∷ []

-- the plan of a number below n, which is the best of these
pub record IsBest (light watts : List ℕ) (least n : ℕ) (found : Found) : Type 0 where
  pub place : ℕ
  pub within : place < n
  pub steps : found.steps ≡ plan_at place
  pub reaches : Reaches light least (plan_at place)
  pub power : found.tenths ≡ weighed (plan_at place) watts
  pub least_of_all : (p : ℕ) → p < n → Reaches light least (plan_at p) → found.tenths ≤ weighed (plan_at p) watts
  pub first : (p : ℕ) → p < place → Reaches light least (plan_at p) → found.tenths < weighed (plan_at p) watts

abbrev pub NoneReaches : List ℕ → (least n : ℕ) → Type 0
NoneReaches light least n = (p : ℕ) → p < n → Reaches light least (plan_at p) → ⊥

-- the best of the plans whose numbers are below n, where one of them reaches the limit
unfoldable pub SoFar : (light watts : List ℕ) → (least n : ℕ) → Option Found → Type 0
SoFar light watts least n best = MatchOption best (NoneReaches light least n) (IsBest light watts least n)
