-- A number below 16 at which four facts hold, found from numbers at which two of them do: two that stay true upwards, and two that stay
-- true downwards.
use Rattle.std.proofs.Common.{ℕ, zero, suc, ◌+◌, ◌-◌, ◌<◌, ◌≤◌, ◌≡◌, subst, sym, arith, inl, inr}
use Rattle.std.proofs.lemmas.Bool.{cases_lt}
use Rattle.sight_index.specs.Masks.{SomeBelow}

pub record Rises (P : ℕ → Type 0) : Type 0 where
  pub up : (k l : ℕ) → k ≤ l → l < 16 → P k → P l

pub record Falls (P : ℕ → Type 0) : Type 0 where
  pub down : (k l : ℕ) → k ≤ l → l < 16 → P l → P k

-- ---- from one number to the next

climb : (P : ℕ → Type 0) → ((k : ℕ) → k + 1 < 16 → P k → P (k + 1)) → (k n : ℕ) → k + n < 16 → P k → P (k + n)
climb P step k zero l h = let e : k + 0 ≡ k = omega arith in subst P (sym e) h
climb P step k (suc n) l h =
    let e : k + suc n ≡ k + n + 1 = omega arith in
    subst P (sym e) (step (k + n) (omega arith) (climb P step k n (omega arith) h))

pub rises : (P : ℕ → Type 0) → ((k : ℕ) → k + 1 < 16 → P k → P (k + 1)) → Rises P
rises P step = record {
  up = λ k l le below h.
      let e : k + (l - k) ≡ l = omega arith in
      subst P e (climb P step k (l - k) (omega arith) h);
}

descend : (P : ℕ → Type 0) → ((k : ℕ) → k + 1 < 16 → P (k + 1) → P k) → (k n : ℕ) → k + n < 16 → P (k + n) → P k
descend P step k zero l h = let e : k + 0 ≡ k = omega arith in subst P e h
descend P step k (suc n) l h =
    let e : k + suc n ≡ k + n + 1 = omega arith in
    descend P step k n (omega arith) (step (k + n) (omega arith) (subst P e h))

pub falls : (P : ℕ → Type 0) → ((k : ℕ) → k + 1 < 16 → P (k + 1) → P k) → Falls P
falls P step = record {
  down = λ k l le below h.
      let e : k + (l - k) ≡ l = omega arith in
      descend P step k (l - k) (omega arith) (subst P (sym e) h);
}

-- ---- where they meet

-- the lesser of two numbers
both_down : (A B C : ℕ → Type 0) → Falls B → Falls C → SomeBelow 16 (λ k. A k × B k) → SomeBelow 16 (λ k. A k × C k) →
    SomeBelow 16 (λ k. A k × B k × C k)
both_down A B C fb fc s t =
    elim (cases_lt s.at t.at) [
      | inl less ↦ record { at = s.at; below = s.below; holds = (s.holds.0, s.holds.1, fc.down s.at t.at (omega arith) t.below t.holds.1) }
      | inr more ↦ record { at = t.at; below = t.below; holds = (t.holds.0, fb.down t.at s.at more s.below s.holds.1, t.holds.1) }
    ]

-- the greater of the two that are left
pub meeting : (A D B C : ℕ → Type 0) → Rises A → Rises D → Falls B → Falls C → SomeBelow 16 (λ k. A k × B k) → SomeBelow 16 (λ k. A k × C k) →
    SomeBelow 16 (λ k. D k × B k) → SomeBelow 16 (λ k. D k × C k) → SomeBelow 16 (λ k. (A k × B k) × (D k × C k))
meeting A D B C ra rd fb fc ab ac db dc =
    let u = both_down A B C fb fc ab ac in
    let v = both_down D B C fb fc db dc in
    elim (cases_lt u.at v.at) [
      | inl less ↦ record {
        at = v.at;
        below = v.below;
        holds = ((ra.up u.at v.at (omega arith) v.below u.holds.0, v.holds.1), (v.holds.0, v.holds.2));
      }
      | inr more ↦ record {
        at = u.at;
        below = u.below;
        holds = ((u.holds.0, u.holds.1), (rd.up v.at u.at more u.below v.holds.0, u.holds.2));
      }
    ]
