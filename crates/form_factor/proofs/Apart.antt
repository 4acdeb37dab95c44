-- Distances in front of planes, against the distance between two places.
use Rattle.std.proofs.Common.{ℕ, zero, suc, ◌*◌, ◌<◌, ◌≤◌, ◌≡◌, inl, inr, refl, arith}
use Rattle.std.proofs.Math.Nat.{mul-le-mul, mul-le-mul_left}
use Rattle.std.proofs.lemmas.Bool.{cases_lt}
use Rattle.room_layout.specs.declared.geometry.Face.{Face}
use Rattle.room_layout.specs.Place.{Place, in_front, squared_distance}
use Rattle.room_layout.proofs.Apart.{ahead, behind}
use Rattle.form_factor.specs.Coefficient.{fronts}
use Rattle.form_factor.specs.Laws.{FrontsAreNear}

pub product_small : (a b : ℕ) → a ≤ 200000 → b ≤ 200000 → a * b ≤ 40000000000
product_small a b p q = mul-le-mul {n₁ = a} {m₁ = b} {n₂ = 200000} {m₂ = 200000} p q

pub ruleset products = (product_small)

-- a product is at most the square of its greater factor
product_most : (a b d : ℕ) → a * a ≤ d → b * b ≤ d → a * b ≤ d
product_most a b d g h = elim (cases_lt a b) [
  | inl l ↦ let k : a ≤ b = omega arith in omega (arith, mul-le-mul_left b k)
  | inr l ↦ omega (arith, mul-le-mul_left a l)
]

pub fronts_near : FrontsAreNear
unfolding fronts
fronts_near p q f g = product_most (in_front f p q) (in_front g q p) (squared_distance p q) (ahead f p q) (behind g p q)

-- so much as one in front of the other, they aren't in one place
pub fronts_far : (p q : Place) (f g : Face) → 0 < fronts p f q g → 0 < squared_distance p q
fronts_far p q f g h = omega (arith, fronts_near p q f g)

-- the same of numbers that the program has, at places that it has
pub near_at : (d r : ℕ) (p q : Place) (f g : Face) → d ≡ fronts p f q g → r ≡ squared_distance p q → d ≤ r
near_at d r p q f g e k = omega (arith, e, k, fronts_near p q f g)

pub some_at : (d : ℕ) → (d ≡ 0 → ⊥) → 0 < d
some_at zero n = absurd (n refl)
some_at (suc d) n = omega arith

pub far_at : (d r : ℕ) (p q : Place) (f g : Face) → d ≡ fronts p f q g → r ≡ squared_distance p q → (d ≡ 0 → ⊥) → 0 < r
far_at d r p q f g e k some = let h = some_at d some in omega (arith, k, fronts_far p q f g (omega (arith, h, e)))

pub fronts_at : (d : ℕ) (h t p q : Place) (f g : Face) → h ≡ p → t ≡ q → d ≡ fronts h f t g → d ≡ fronts p f q g
fronts_at d h t p q f g e k s = rw (← e, ← k) s

pub distance_at : (r : ℕ) (h t p q : Place) → h ≡ p → t ≡ q → r ≡ squared_distance h t → r ≡ squared_distance p q
distance_at r h t p q e k s = rw (← e, ← k) s
