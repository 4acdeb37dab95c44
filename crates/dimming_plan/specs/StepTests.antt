-- The power and the light of small plans, computed.
use Rattle.std.specs.Prelude.{ℕ, ◌≡◌, ◌*◌, ◌^◌, ◌≤◌, List, [], ◌∷◌, refl}
use Rattle.std.proofs.Common.{arith, inl, inr}
use Rattle.dimming_plan.specs.Steps.{Before, Reaches, weighed}

-- two groups of 50 and 40 watts, the first at a tenth and the second in full, take 450 tenths of a watt
two_groups : weighed (1 ∷ 10 ∷ 0 ∷ 0 ∷ 0 ∷ 0 ∷ []) (50 ∷ 40 ∷ 0 ∷ 0 ∷ 0 ∷ 0 ∷ []) ≡ 450
unfolding weighed
two_groups = refl

-- half of a group of 3 lux gives 1500 thousandths, and no more
half_of_three : Reaches (3 * 2 ^ 36 ∷ 0 ∷ 0 ∷ 0 ∷ 0 ∷ 0 ∷ []) 1500 (5 ∷ 0 ∷ 0 ∷ 0 ∷ 0 ∷ 0 ∷ [])
unfolding weighed
half_of_three = record { enough = omega arith }

-- a plan comes before another by its first step that differs, whatever follows
first_step_counts : Before (0 ∷ 10 ∷ 10 ∷ []) (1 ∷ 0 ∷ 0 ∷ [])
unfolding Before
first_step_counts = inl (omega arith)

last_step_counts : Before (1 ∷ 0 ∷ 2 ∷ []) (1 ∷ 0 ∷ 3 ∷ [])
unfolding Before
last_step_counts = inr (refl, inr (refl, inl (omega arith)))
