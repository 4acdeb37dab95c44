-- One turn of the way to and fro, from its start on.
use Rattle.std.proofs.Common.{ℕ, ◌+◌, ◌-◌, ◌*◌, ◌<◌, ◌≤◌, ◌≡◌, List, [], ◌∷◌, map, arith, ap, inl, inr}
use Rattle.std.proofs.lemmas.Bool.{cases_lt}
use Rattle.std.proofs.lemmas.Int.{ints}
use Rattle.std.proofs.Math.Nat.{mul-pos}
use Rattle.photo_table.specs.Kept.{ArePlanes, angle_of}
use Rattle.symmetry_expand.specs.AllRound.{joined}
use Rattle.symmetry_expand.specs.Measured.{micro}
use Rattle.symmetry_expand.specs.Steps.{last_place, first_of, zigzag, start_of, GoesRound}
use Rattle.symmetry_expand.proofs.Planes.{RiseOnce}
use Rattle.symmetry_expand.proofs.Zigzag.{zig_there, zig_later, zig_le, zig_lt}
use Rattle.symmetry_expand.proofs.Starts.{start_reached, start_least}
use Rattle.symmetry_expand.proofs.Joined.{joined_map, ones_length, ones_get}

-- how many steps a turn has
abbrev pub turn_steps : List ℕ → ℕ → ℕ
turn_steps ps times = times * (2 * last_place ps)

-- the angle of plane i
abbrev pub turn_angle : List ℕ → ℕ → ℕ → ℕ
turn_angle ps base i = zigzag ps (start_of ps base + i) - base

pub base_reached : (ps : List ℕ) (times base : ℕ) → GoesRound ps times base → base ≤ zigzag ps (2 * last_place ps)
base_reached ps times base h =
    let two = h.two in
    let e : 1 * (2 * last_place ps) + 0 ≡ 2 * last_place ps = omega arith in
    let z = rw e at (zig_there ps 1 0 (omega arith) two) in
    let r = h.reached in
    omega (arith, z, r)

pub from_base : (ps : List ℕ) (times base : ℕ) → RiseOnce ps → GoesRound ps times base → (i : ℕ) → base ≤ zigzag ps (start_of ps base + i)
from_base ps times base rise h i =
    let a = start_reached ps base (base_reached ps times base h) in
    let b = zig_le ps rise h.two (start_of ps base) (start_of ps base + i) (omega arith) in
    omega arith

-- after a turn the same comes again
pub turn_later : (ps : List ℕ) (times base : ℕ) → GoesRound ps times base → (i u : ℕ) → zigzag ps (i + turn_steps ps times * u) ≡ zigzag ps i + 360000000 * u
turn_later ps times base h i u =
    let e : i + 2 * last_place ps * (times * u) ≡ i + turn_steps ps times * u = omega arith in
    let z = rw e at (zig_later ps i (times * u) h.two) in
    let f = ap (λ (k : ℕ). k * u) h.turn in
    omega (arith, z, f)

pub within_turn : (ps : List ℕ) (times base : ℕ) → RiseOnce ps → GoesRound ps times base → (i : ℕ) → i < turn_steps ps times
    → zigzag ps (start_of ps base + i) < base + 360000000
within_turn ps times base rise h i p = elim (cases_lt 0 (start_of ps base)) [
  | inl l ↦
      let s = start_of ps base - 1 in
      let e : s + turn_steps ps times * 1 ≡ s + turn_steps ps times = omega arith in
      let z = rw e at (turn_later ps times base h s 1) in
      let a = start_least ps base s (omega arith) in
      let b = zig_le ps rise h.two (start_of ps base + i) (s + turn_steps ps times) (omega arith) in
      omega (arith, a, b, z)
  | inr g ↦
      let e : start_of ps base ≡ 0 = omega arith in
      let f : 0 + turn_steps ps times * 1 ≡ turn_steps ps times = omega arith in
      let z = rw f at (turn_later ps times base h 0 1) in
      let a = zig_lt ps rise h.two (start_of ps base + i) (turn_steps ps times) (omega arith) in
      let b : zigzag ps 0 ≡ first_of ps = let k : 0 * (2 * last_place ps) + 0 ≡ 0 = omega arith in let y = rw k at (zig_there ps 0 0 (omega arith) h.two) in omega (arith, y) in
      let c = h.before in
      omega (arith, z, a, b, c)
]

pub angles_of : (ps : List ℕ) (base n : ℕ) → map angle_of (joined (λ i. micro (turn_angle ps base i) ∷ []) n) ≡ joined (λ i. turn_angle ps base i ∷ []) n
angles_of ps base n = joined_map angle_of (λ i. micro (turn_angle ps base i) ∷ []) n

pub turn_planes_are : (ps : List ℕ) (times base : ℕ) → RiseOnce ps → GoesRound ps times base
    → ArePlanes (joined (λ i. micro (turn_angle ps base i) ∷ []) (turn_steps ps times))
turn_planes_are ps times base rise h =
    let n = turn_steps ps times in
    let x = λ (i : ℕ). micro (turn_angle ps base i) in
    let all = ones_length x n in
    let two = h.two in
    let at = λ (i : ℕ) (p : i < n). ones_get (λ i. turn_angle ps base i) n 0 i p in
    record {
      some = let k = h.some in rw all (positive times (2 * last_place ps) k (omega arith));
      not_negative = λ i d p. rw (ones_get x n d i (rw all at p)) (omega (arith, ints));
      rise = λ i j p q.
          let q' : j < n = rw all at q in
          let l = zig_lt ps rise two (start_of ps base + i) (start_of ps base + j) (omega arith) in
          let b = from_base ps times base rise h i in
          rw (angles_of ps base n, at i (omega arith), at j q') (omega arith);
      below = λ i p.
          let p' : i < n = rw all at p in
          let l = within_turn ps times base rise h i p' in
          rw (angles_of ps base n, at i p') (omega arith);
    }
  where
    positive : (a b : ℕ) → 1 ≤ a → 1 ≤ b → 0 < a * b
    positive a b p q = mul-pos p q
