-- Numbers of six groups, all within a bound.
use Rattle.std.proofs.Common.{ℕ, ◌*◌, ◌^◌, ◌≤◌, ◌≡◌, List, [], ◌∷◌, All, arith, inl, inr, length, map, subst, sym}
use Rattle.std.specs.Prelude.{slice_index}
use Rattle.std.proofs.Math.Nat.{mul-le-mul}
use Rattle.std.proofs.lemmas.Bool.{cases_lt}
use Rattle.std.proofs.lemmas.List.{get_or_past}
use Rattle.std.proofs.lemmas.List.Elements.{All-cons, All-get_or, All-head, All-nil, All-tail}
use Rattle.fx_base.specs.Units.{natural}
use Rattle.fx_base.proofs.Rounding.{natural-mono}
use Rattle.dimming_plan.specs.Search.{IsStep}
use Rattle.dimming_plan.specs.Steps.{weighed, IsGroup}
use Rattle.dimming_plan.specs.declared.power.Group.{Group}

-- what a function makes of things that are so
each_made : {A : Type 0} (P : A → Type 0) (Q : ℕ → Type 0) (f : A → ℕ) (xs : List A) → ((x : A) → P x → Q (f x)) → All P xs → All Q (map f xs)
each_made P Q f [] h all = All-nil Q
each_made P Q f (x ∷ xs) h all = All-cons Q (f x) (map f xs) (h x (All-head P x xs all)) (each_made P Q f xs h (All-tail P x xs all))

pub all_made : {A : Type 0} (P : A → Type 0) (Q : ℕ → Type 0) (f : A → ℕ) (xs : List A) (ys : List ℕ) → ys ≡ map f xs → ((x : A) → P x → Q (f x)) → All P xs → All Q ys
all_made P Q f xs ys e h all = subst (λ (zs : List ℕ). All Q zs) (sym e) (each_made P Q f xs h all)

-- the lower end of a group's average is within the bound of the upper one
pub low_within : (g : Group) → IsGroup g → natural g.average.lo ≤ 2 ^ 105
low_within g h = let l = natural-mono g.average.lo g.average.hi h.low h.order in omega (l, h.high, arith)

-- ---- the weighed sum of six numbers

at_most : (most : ℕ) (xs : List ℕ) (i : ℕ) → All (λ n. n ≤ most) xs → slice_index xs i ≤ most
at_most most xs i all = elim (cases_lt i (length xs)) [
  | inl l ↦ All-get_or (λ n. n ≤ most) xs i 0 l all
  | inr g ↦ rw (get_or_past xs i 0 g) (omega arith)
]

pub weighed_most : (steps light : List ℕ) → All IsStep steps → All (λ n. n ≤ 2 ^ 105) light → weighed steps light ≤ 60 * 2 ^ 105
unfolding weighed
weighed_most steps light few most =
    let term : (g : ℕ) → slice_index steps g * slice_index light g ≤ 10 * 2 ^ 105 = λ g. mul-le-mul (at_most 10 steps g few) (at_most (2 ^ 105) light g most) in
    omega (term 0, term 1, term 2, term 3, term 4, term 5, arith)

-- ---- six things that are so

pub all_six : {A : Type 0} (P : A → Type 0) (a b c d e f : A) → P a → P b → P c → P d → P e → P f → All P (a ∷ b ∷ c ∷ d ∷ e ∷ f ∷ [])
all_six P a b c d e f pa pb pc pd pe pf =
    All-cons P a (b ∷ c ∷ d ∷ e ∷ f ∷ []) pa (All-cons P b (c ∷ d ∷ e ∷ f ∷ []) pb (All-cons P c (d ∷ e ∷ f ∷ []) pc
    (All-cons P d (e ∷ f ∷ []) pd (All-cons P e (f ∷ []) pe (All-cons P f [] pf (All-nil P))))))
