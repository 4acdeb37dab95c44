-- Planes that run as a symmetry asks go round.
use Rattle.std.proofs.Common.{ℕ, ◌+◌, ◌-◌, ◌<◌, ◌≤◌, ◌≡◌, ℤ, pos, negsuc, ◌-ℤ◌, List, [], ◌∷◌, length, arith, sym, refl, ◌∙◌, ap, Bool, true, false, ◌&&◌, ◌||◌, ◌⊎◌, inl, inr}
use Rattle.std.specs.Ordering.{int_eq}
use Rattle.std.proofs.lemmas.Bool.Decides.{Decides-int_eq}
use Rattle.std.proofs.lemmas.Int.{ints}
use Rattle.fx_base.specs.Units.{natural}
use Rattle.fx_base.specs.declared.Micro.{Micro}
use Rattle.fx_base.proofs.Truth.{both_true}
use Rattle.symmetry_expand.specs.declared.symmetry.Symmetry.TheVariants.{Plane0, Plane90, Both}
use Rattle.symmetry_expand.specs.Measured.{RiseWithinTurn, first_angle, last_angle, in_turn, lifted, no_angle, runs_as_needed}
use Rattle.symmetry_expand.specs.Steps.{first_of, last_of, GoesRound}
use Rattle.symmetry_expand.proofs.Planes.{lifted_length, lifted_get, first_is}

-- they begin at a and end at b
pub record RunsFrom (ps : List Micro) (a b : ℤ) : Type 0 where
  pub first : first_angle ps ≡ a
  pub last : last_angle ps ≡ b

runs_between : (ps : List Micro) (a b : ℤ) → (int_eq (first_angle ps) a && int_eq (last_angle ps) b) ≡ true → RunsFrom ps a b
runs_between ps a b h =
    let g = both_true (int_eq (first_angle ps) a) (int_eq (last_angle ps) b) h in
    record { first = (Decides-int_eq (first_angle ps) a).0 g.0; last = (Decides-int_eq (last_angle ps) b).0 g.1 }

-- where the lifted planes begin and end
pub record LiftedFrom (ps : List Micro) (a b : ℕ) : Type 0 where
  pub two : 2 ≤ length (lifted ps)
  pub first : first_of (lifted ps) ≡ a
  pub last : last_of (lifted ps) ≡ b

two_planes : (ps : List Micro) (a b : ℤ) → 0 < length ps → RunsFrom ps a b → (a ≡ b → ⊥) → 2 ≤ length ps
two_planes [] a b p h n = absurd (omega arith)
two_planes (x ∷ []) a b p h n = absurd (n (sym h.first ∙ h.last))
two_planes (x ∷ y ∷ ps) a b p h n = omega arith

pub lifted_from : (ps : List Micro) (a b : ℤ) → RiseWithinTurn ps → RunsFrom ps a b → (a ≡ b → ⊥) → LiftedFrom ps (in_turn a) (in_turn a + natural (b -ℤ a))
lifted_from ps a b h r n =
    let s = h.some in
    let l = lifted_length ps in
    record {
      two = let t = two_planes ps a b s r n in omega arith;
      first = first_is ps s ∙ ap in_turn r.first;
      last = rw l (lifted_get ps (length ps - 1) no_angle (omega arith) ∙ rw (r.last, r.first) refl);
    }

pub plane0_runs : (ps : List Micro) → RiseWithinTurn ps → runs_as_needed Plane0 (first_angle ps) (last_angle ps) ≡ true → LiftedFrom ps 0 180000000
plane0_runs ps h r = lifted_from ps (pos 0) (pos 180000000) h (runs_between ps (pos 0) (pos 180000000) r) (λ e. absurd (omega (arith, ints)))

pub both_runs : (ps : List Micro) → RiseWithinTurn ps → runs_as_needed Both (first_angle ps) (last_angle ps) ≡ true → LiftedFrom ps 0 90000000
both_runs ps h r = lifted_from ps (pos 0) (pos 90000000) h (runs_between ps (pos 0) (pos 90000000) r) (λ e. absurd (omega (arith, ints)))

either_true : (a b : Bool) → (a || b) ≡ true → (a ≡ true) ⊎ (b ≡ true)
either_true true b h = inl refl
either_true false b h = inr h

pub plane90_runs : (ps : List Micro) → RiseWithinTurn ps → runs_as_needed Plane90 (first_angle ps) (last_angle ps) ≡ true
    → LiftedFrom ps 270000000 450000000 ⊎ LiftedFrom ps 90000000 270000000
plane90_runs ps h r = elim (either_true _ _ r) [
  | inl g ↦ inl (lifted_from ps (negsuc 89999999) (pos 90000000) h (runs_between ps (negsuc 89999999) (pos 90000000) g) (λ e. absurd (omega (arith, ints))))
  | inr g ↦ inr (lifted_from ps (pos 90000000) (pos 270000000) h (runs_between ps (pos 90000000) (pos 270000000) g) (λ e. absurd (omega (arith, ints))))
]

pub plane0_round : (ps : List Micro) → LiftedFrom ps 0 180000000 → GoesRound (lifted ps) 1 0
plane0_round ps h = let f = h.first in let l = h.last in record { two = h.two; some = omega arith; few = omega arith; turn = omega (arith, f, l); before = omega (arith, f); reached = omega (arith, f, l) }

pub both_round : (ps : List Micro) → LiftedFrom ps 0 90000000 → GoesRound (lifted ps) 2 0
both_round ps h = let f = h.first in let l = h.last in record { two = h.two; some = omega arith; few = omega arith; turn = omega (arith, f, l); before = omega (arith, f); reached = omega (arith, f, l) }

pub plane90_round : (ps : List Micro) → LiftedFrom ps 270000000 450000000 ⊎ LiftedFrom ps 90000000 270000000 → GoesRound (lifted ps) 1 360000000
plane90_round ps (inl h) = let f = h.first in let l = h.last in record { two = h.two; some = omega arith; few = omega arith; turn = omega (arith, f, l); before = omega (arith, f); reached = omega (arith, f, l) }
plane90_round ps (inr h) = let f = h.first in let l = h.last in record { two = h.two; some = omega arith; few = omega arith; turn = omega (arith, f, l); before = omega (arith, f); reached = omega (arith, f, l) }
