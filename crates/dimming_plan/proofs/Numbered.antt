-- Plans by number: the steps of a plan are the digits of its number to the base 11, and plans come before each other as their numbers do.
use Rattle.std.proofs.Common.{ℕ, zero, suc, ◌+◌, ◌*◌, ◌/◌, ◌%◌, ◌<◌, ◌≤◌, ◌≡◌, ◌⊎◌, inl, inr, List, [], ◌∷◌, All, length, arith, refl, sym, ap, ◌∙◌, subst}
use Rattle.std.specs.Prelude.{slice_index}
use Rattle.dimming_plan.specs.Search.{plan_at}
use Rattle.dimming_plan.specs.Steps.{Before, IsPlan}

-- the number of six steps
abbrev number : (a b c d e f : ℕ) → ℕ
number a b c d e f = ((((a * 11 + b) * 11 + c) * 11 + d) * 11 + e) * 11 + f

without_last : (n d : ℕ) → d ≤ 10 → (n * 11 + d) / 11 ≡ n
without_last n d h = omega arith

last_of : (n d : ℕ) → d ≤ 10 → (n * 11 + d) % 11 ≡ d
last_of n d h = omega arith

-- six steps are the plan of their number
back : (a b c d e f : ℕ) → a ≤ 10 → b ≤ 10 → c ≤ 10 → d ≤ 10 → e ≤ 10 → f ≤ 10 → plan_at (number a b c d e f) ≡ a ∷ b ∷ c ∷ d ∷ e ∷ f ∷ []
unfolding plan_at
back a b c d e f ha hb hc hd he hf =
    let n5 = (((a * 11 + b) * 11 + c) * 11 + d) * 11 + e in
    let n4 = ((a * 11 + b) * 11 + c) * 11 + d in
    let n3 = (a * 11 + b) * 11 + c in
    let n2 = a * 11 + b in
    rw (
      without_last n5 f hf,
      last_of n5 f hf,
      without_last n4 e he,
      last_of n4 e he,
      without_last n3 d hd,
      last_of n3 d hd,
      without_last n2 c hc,
      last_of n2 c hc,
      without_last a b hb,
      last_of a b hb,
    ) refl

-- each plan has a number below that of all plans
pub record HasNumber (s : List ℕ) : Type 0 where
  pub number : ℕ
  pub few : number < 1771561
  pub is : plan_at number ≡ s

pub numbered : (s : List ℕ) → IsPlan s → HasNumber s
numbered (a ∷ b ∷ c ∷ d ∷ e ∷ f ∷ []) h =
    record {
      number = number a b c d e f;
      few = omega (h.each 0, h.each 1, h.each 2, h.each 3, h.each 4, h.each 5, arith);
      is = back a b c d e f (h.each 0) (h.each 1) (h.each 2) (h.each 3) (h.each 4) (h.each 5);
    }
numbered [] h = absurd (omega (h.six, arith))
numbered (a ∷ []) h = absurd (omega (h.six, arith))
numbered (a ∷ b ∷ []) h = absurd (omega (h.six, arith))
numbered (a ∷ b ∷ c ∷ []) h = absurd (omega (h.six, arith))
numbered (a ∷ b ∷ c ∷ d ∷ []) h = absurd (omega (h.six, arith))
numbered (a ∷ b ∷ c ∷ d ∷ e ∷ []) h = absurd (omega (h.six, arith))
numbered (a ∷ b ∷ c ∷ d ∷ e ∷ f ∷ g ∷ more) h = absurd (omega (h.six, arith))

each_step : (p : ℕ) → p < 1771561 → (g : ℕ) → slice_index (plan_at p) g ≤ 10
unfolding plan_at
each_step p few zero = omega (few, arith)
each_step p few (suc zero) = omega arith
each_step p few (suc (suc zero)) = omega arith
each_step p few (suc (suc (suc zero))) = omega arith
each_step p few (suc (suc (suc (suc zero)))) = omega arith
each_step p few (suc (suc (suc (suc (suc zero))))) = omega arith
each_step p few (suc (suc (suc (suc (suc (suc g)))))) = omega arith

-- the plan of a number is one
pub is_plan : (p : ℕ) → p < 1771561 → IsPlan (plan_at p)
unfolding plan_at
is_plan p few = record { six = refl; each = each_step p few }

-- of two numbers with the same leading digits the one with the lesser last digit is the lesser
less_by_last : (p q : ℕ) → p / 11 ≡ q / 11 → p % 11 < q % 11 → p < q
less_by_last p q e l = omega arith

same : (p q : ℕ) → p / 11 ≡ q / 11 → p % 11 ≡ q % 11 → p ≡ q
same p q e l = omega arith

less_by_leading : (p q : ℕ) → p / 11 < q / 11 → p < q
less_by_leading p q l = omega arith

-- a plan that comes before another has the lesser number
pub before_less : (p q : ℕ) → Before (plan_at p) (plan_at q) → p < q
unfolding plan_at Before
before_less p q (inl l) =
    less_by_leading p q (less_by_leading (p / 11) (q / 11) (less_by_leading (p / 11 / 11) (q / 11 / 11)
    (less_by_leading (p / 11 / 11 / 11) (q / 11 / 11 / 11) (less_by_leading (p / 11 / 11 / 11 / 11) (q / 11 / 11 / 11 / 11) l))))
before_less p q (inr (e5, inl l)) =
    less_by_leading p q (less_by_leading (p / 11) (q / 11) (less_by_leading (p / 11 / 11) (q / 11 / 11)
    (less_by_leading (p / 11 / 11 / 11) (q / 11 / 11 / 11) (less_by_last (p / 11 / 11 / 11 / 11) (q / 11 / 11 / 11 / 11) e5 l))))
before_less p q (inr (e5, inr (e4, inl l))) =
    let e = same (p / 11 / 11 / 11 / 11) (q / 11 / 11 / 11 / 11) e5 e4 in
    less_by_leading p q (less_by_leading (p / 11) (q / 11) (less_by_leading (p / 11 / 11) (q / 11 / 11)
    (less_by_last (p / 11 / 11 / 11) (q / 11 / 11 / 11) e l)))
before_less p q (inr (e5, inr (e4, inr (e3, inl l)))) =
    let e = same (p / 11 / 11 / 11) (q / 11 / 11 / 11) (same (p / 11 / 11 / 11 / 11) (q / 11 / 11 / 11 / 11) e5 e4) e3 in
    less_by_leading p q (less_by_leading (p / 11) (q / 11) (less_by_last (p / 11 / 11) (q / 11 / 11) e l))
before_less p q (inr (e5, inr (e4, inr (e3, inr (e2, inl l))))) =
    let e = same (p / 11 / 11) (q / 11 / 11) (same (p / 11 / 11 / 11) (q / 11 / 11 / 11) (same (p / 11 / 11 / 11 / 11) (q / 11 / 11 / 11 / 11) e5 e4) e3) e2 in
    less_by_leading p q (less_by_last (p / 11) (q / 11) e l)
before_less p q (inr (e5, inr (e4, inr (e3, inr (e2, inr (e1, inl l)))))) =
    let e = same (p / 11) (q / 11)
    (same (p / 11 / 11) (q / 11 / 11) (same (p / 11 / 11 / 11) (q / 11 / 11 / 11) (same (p / 11 / 11 / 11 / 11) (q / 11 / 11 / 11 / 11) e5 e4) e3) e2) e1 in
    less_by_last p q e l
before_less p q (inr (e5, inr (e4, inr (e3, inr (e2, inr (e1, inr (e0, none))))))) = absurd none
