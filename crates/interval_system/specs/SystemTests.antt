-- Systems and their equations in whole numbers, computed.
use Rattle.std.specs.Prelude.{ℕ, ◌≡◌, ◌<◌, ◌≤◌, ◌∷◌, [], List, All, length, slice_index_or, refl, pos}
use Rattle.std.proofs.Common.{lit<, lit≤, sym, subst}
use Rattle.std.proofs.Math.Arith.{lt-one}
use Rattle.std.proofs.Math.Nat.{zero-lt-suc}
use Rattle.std.proofs.lemmas.List.Elements.{All-from_recursion}
use Rattle.fx_base.specs.declared.Weight.{Weight}
use Rattle.interval_system.specs.Whole.{IsSolution}
use Rattle.interval_system.specs.System.{System, IsWeight, IsDirectLight, IsSystem, NoneHeavy, IsFirstHeavy, low_weight, high_weight, high_direct, upper_total, greatest_row_sum}

-- h = 1 + h / 2 over the denominator 2: h is 2, and 6/3 too
one_patch : IsSolution 1 2 (λ i j. 1) (λ i. pos 2) 1 (λ i. pos 2)
one_patch = record { positive = zero-lt-suc 0; row = λ i l. refl }

the_same_in_thirds : IsSolution 1 2 (λ i j. 1) (λ i. pos 2) 3 (λ i. pos 6)
the_same_in_thirds = record { positive = zero-lt-suc 2; row = λ i l. refl }

first_row : List Weight
first_row = record { lo = 0; hi = 1 } ∷ record { lo = 5; hi = 7 } ∷ []

sample : System
unfolding first_row
sample = record {
  rows = first_row ∷ (record { lo = 2; hi = 3 } ∷ record { lo = 0; hi = 0 } ∷ []) ∷ [];
  direct = record { lo = pos 10; hi = pos 11 } ∷ record { lo = pos 0; hi = pos 20 } ∷ [];
}

row_sum : upper_total first_row ≡ 8
unfolding first_row
row_sum = refl

low_of_the_second_column : low_weight sample 0 1 ≡ 5
unfolding sample
low_of_the_second_column = refl

high_of_the_second_row : high_weight sample 1 0 ≡ 3
unfolding sample
high_of_the_second_row = refl

light_of_the_second_patch : high_direct sample 1 ≡ 20
unfolding sample
light_of_the_second_patch = refl

all_weights : (a b : Weight) → IsWeight a → IsWeight b → All (λ w. IsWeight w) (a ∷ b ∷ [])
all_weights a b x y = All-from_recursion (λ w. IsWeight w) (a ∷ b ∷ []) (x, (y, tt))

sample_is_a_system : IsSystem sample
unfolding first_row sample
sample_is_a_system = record {
  few = lit≤ tt;
  square = All-from_recursion (λ row. length row ≡ 2) sample.rows (refl, (refl, tt));
  weights = All-from_recursion (λ row. All (λ w. IsWeight w) row) sample.rows (
    all_weights (record { lo = 0; hi = 1 }) (record { lo = 5; hi = 7 })
        (record { in_order = lit≤ tt; most = lit≤ tt }) (record { in_order = lit≤ tt; most = lit≤ tt }),
    (
      all_weights (record { lo = 2; hi = 3 }) (record { lo = 0; hi = 0 })
          (record { in_order = lit≤ tt; most = lit≤ tt }) (record { in_order = lit≤ tt; most = lit≤ tt }),
      tt,
    ),
  );
  lights = refl;
  light = All-from_recursion (λ d. IsDirectLight d) sample.direct (
    record { low = record { le = tt }; in_order = record { le = tt }; most = record { le = tt } },
    (record { low = record { le = tt }; in_order = record { le = tt }; most = record { le = tt } }, tt),
  );
}

-- ---- 255/256 and a tick more

just : List Weight
just = record { lo = 0; hi = 68451041280 } ∷ []

more : List Weight
more = record { lo = 0; hi = 68451041281 } ∷ []

just_is_not_heavy : NoneHeavy (just ∷ just ∷ [])
unfolding just
just_is_not_heavy = All-from_recursion (λ row. upper_total row ≤ greatest_row_sum) (just ∷ just ∷ []) (lit≤ tt, (lit≤ tt, tt))

before_the_second : (k : ℕ) → k < 1 → upper_total (slice_index_or (just ∷ more ∷ more ∷ []) k []) ≤ greatest_row_sum
unfolding just more
before_the_second k l = subst (λ k. upper_total (slice_index_or (just ∷ more ∷ more ∷ []) k []) ≤ greatest_row_sum) (sym (lt-one l)) (lit≤ tt)

-- of two heavy rows the first is named
second_is_the_first_heavy : IsFirstHeavy (just ∷ more ∷ more ∷ []) 1 68451041281
unfolding just more
second_is_the_first_heavy = record { inside = lit< tt; is = refl; heavy = lit< tt; earlier = before_the_second }
