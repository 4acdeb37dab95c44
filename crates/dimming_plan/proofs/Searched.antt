-- The best of the plans whose numbers were looked at: of least power among those that reach the limit, and the first of those that take as
-- much.
use Rattle.std.proofs.Common.{ℕ, zero, suc, ◌+◌, ◌<◌, ◌≤◌, ◌≡◌, ◌⊎◌, inl, inr, List, [], ◌∷◌, arith, refl, sym, subst, ap, ◌∙◌}
use Rattle.std.specs.Prelude.{Option, Some, None, MatchOption, IfSome, IfNone}
use Rattle.std.proofs.lemmas.Bool.{cases_lt}
use Rattle.dimming_plan.specs.declared.power.Found.{Found}
use Rattle.dimming_plan.specs.Steps.{Before, IsLeastPlan, IsPlan, NoPlan, Reaches, weighed}
use Rattle.dimming_plan.specs.Search.{plan_at, IsBest, NoneReaches, SoFar}
use Rattle.dimming_plan.proofs.Numbered.{before_less, is_plan, numbered}

pub at_first : (light watts : List ℕ) (least : ℕ) → SoFar light watts least 0 None
unfolding SoFar
at_first light watts least = λ p few h. absurd (omega arith)

-- ---- one more plan

last_or_before : (p n : ℕ) → p < n + 1 → (p < n) ⊎ (p ≡ n)
last_or_before p n h = elim (cases_lt p n) [ inl l ↦ inl l | inr g ↦ inr (omega arith) ]

-- it doesn't reach the limit
pub not_reached : (light watts : List ℕ) (least n : ℕ) (best : Option Found) → SoFar light watts least n best → (Reaches light least (plan_at n) → ⊥)
    → SoFar light watts least (n + 1) best
unfolding SoFar
not_reached light watts least n None h fails = λ p few reached. elim (last_or_before p n few) [
  | inl l ↦ h p l reached
  | inr e ↦ fails (subst (λ (k : ℕ). Reaches light least (plan_at k)) e reached)
]
not_reached light watts least n (Some f) h fails = record {
  place = h.place;
  within = omega (h.within, arith);
  steps = h.steps;
  reaches = h.reaches;
  power = h.power;
  least_of_all = λ p few reached. elim (last_or_before p n few) [
    | inl l ↦ h.least_of_all p l reached
    | inr e ↦ absurd (fails (subst (λ (k : ℕ). Reaches light least (plan_at k)) e reached))
  ];
  first = h.first;
}

-- it takes no less than the best so far
pub not_less : (light watts : List ℕ) (least n tenths : ℕ) (best : Option Found) → SoFar light watts least n best → tenths ≡ weighed (plan_at n) watts
    → (IfSome best (λ f. tenths < f.tenths) → ⊥) → SoFar light watts least (n + 1) best
unfolding SoFar
not_less light watts least n tenths None h power more = absurd (more tt)
not_less light watts least n tenths (Some f) h power more = record {
  place = h.place;
  within = omega (h.within, arith);
  steps = h.steps;
  reaches = h.reaches;
  power = h.power;
  least_of_all = λ p few reached. elim (last_or_before p n few) [
    | inl l ↦ h.least_of_all p l reached
    | inr e ↦ subst (λ (k : ℕ). f.tenths ≤ weighed (plan_at k) watts) (sym e) (elim (cases_lt tenths f.tenths) [ inl l ↦ absurd (more l) | inr g ↦ omega (g, power, arith) ])
  ];
  first = h.first;
}

-- it reaches the limit, and takes less than the best so far
pub better : (light watts : List ℕ) (least n : ℕ) (best : Option Found) (f : Found) → SoFar light watts least n best → IfSome best (λ b. f.tenths < b.tenths)
    → f.steps ≡ plan_at n → Reaches light least (plan_at n) → f.tenths ≡ weighed (plan_at n) watts → SoFar light watts least (n + 1) (Some f)
unfolding SoFar
better light watts least n None f h less steps reaches power = record {
  place = n;
  within = omega arith;
  steps = steps;
  reaches = reaches;
  power = power;
  least_of_all = λ p few reached. elim (last_or_before p n few) [
    | inl l ↦ absurd (h p l reached)
    | inr e ↦ subst (λ (k : ℕ). f.tenths ≤ weighed (plan_at k) watts) (sym e) (omega (power, arith))
  ];
  first = λ p few reached. absurd (h p few reached);
}
better light watts least n (Some b) f h less steps reaches power = record {
  place = n;
  within = omega arith;
  steps = steps;
  reaches = reaches;
  power = power;
  least_of_all = λ p few reached. elim (last_or_before p n few) [
    | inl l ↦ let m = h.least_of_all p l reached in omega (m, less, arith)
    | inr e ↦ subst (λ (k : ℕ). f.tenths ≤ weighed (plan_at k) watts) (sym e) (omega (power, arith))
  ];
  first = λ p few reached. let m = h.least_of_all p few reached in omega (m, less, arith);
}

-- ---- after all plans

pub none_found : (light watts : List ℕ) (least n : ℕ) (best : Option Found) → n ≡ 1771561 → SoFar light watts least n best → IfNone best (NoPlan light least)
unfolding SoFar
none_found light watts least n None all h = record {
  none = λ s plan reached. let p = numbered s plan in h p.number (omega (p.few, all, arith)) (subst (λ (t : List ℕ). Reaches light least t) (sym p.is) reached);
}
none_found light watts least n (Some f) all h = tt

pub one_found : (light watts : List ℕ) (least n : ℕ) (best : Option Found) → n ≡ 1771561 → SoFar light watts least n best → IfSome best (IsLeastPlan light watts least)
unfolding SoFar
one_found light watts least n None all h = tt
one_found light watts least n (Some f) all h = record {
  is_plan = subst (λ (t : List ℕ). IsPlan t) (sym h.steps) (is_plan h.place (omega (h.within, all, arith)));
  reaches = subst (λ (t : List ℕ). Reaches light least t) (sym h.steps) h.reaches;
  power = h.power ∙ ap (λ (t : List ℕ). weighed t watts) (sym h.steps);
  least_of_all = λ s plan reached. let p = numbered s plan in
      subst (λ (t : List ℕ). f.tenths ≤ weighed t watts) p.is (h.least_of_all p.number (omega (p.few, all, arith)) (subst (λ (t : List ℕ). Reaches light least t) (sym p.is) reached));
  first = λ s plan reached equal before. let p = numbered s plan in
      let less = before_less p.number h.place (rw p.is (subst (λ (t : List ℕ). Before s t) h.steps before)) in
      let more = h.first p.number less (subst (λ (t : List ℕ). Reaches light least t) (sym p.is) reached) in
      let more_of = subst (λ (t : List ℕ). f.tenths < weighed t watts) p.is more in
      absurd (omega (more_of, equal, arith));
}
