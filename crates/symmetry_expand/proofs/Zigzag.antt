-- The steps to and fro.
use Rattle.std.proofs.Common.{ℕ, zero, suc, ◌+◌, ◌-◌, ◌*◌, ◌/◌, ◌%◌, ◌<◌, ◌≤◌, ◌≡◌, ◌^◌, List, length, slice_index_or, arith, sym, refl, inl, inr, nat_le, if◌then◌else◌}
use Rattle.std.proofs.Math.Nat.{add-mul-div_left, add-mul-mod_self_left, mul-le-mul_left}
use Rattle.std.proofs.lemmas.Nat.{div-mul-add, mod-mul-add}
use Rattle.std.proofs.lemmas.Bool.{cases_lt}
use Rattle.fx_base.proofs.Truth.{le_false, le_true}
use Rattle.symmetry_expand.specs.Steps.{last_place, last_of, there_and_back, zigzag, source}
use Rattle.symmetry_expand.proofs.Planes.{RiseOnce, at_most_last, first_below_last, last_most}

-- on the way there
pub zig_there : (ps : List ℕ) (q r : ℕ) → r ≤ last_place ps → 2 ≤ length ps → zigzag ps (q * (2 * last_place ps) + r) ≡ there_and_back ps * q + slice_index_or ps r 0
unfolding zigzag
zig_there ps q r h two =
    let few : r < 2 * last_place ps = omega arith in
    rw (div-mul-add q (2 * last_place ps) r few, mod-mul-add q (2 * last_place ps) r few, le_true r (last_place ps) h) refl

turning : (ps : List ℕ) (q k r : ℕ) → k < last_place ps → 0 < k → r ≡ 2 * last_place ps - k
    → zigzag ps (q * (2 * last_place ps) + r) ≡ there_and_back ps * q + (2 * last_of ps - slice_index_or ps k 0)
unfolding zigzag
turning ps q k r l some e =
    let few : r < 2 * last_place ps = omega arith in
    let back : 2 * last_place ps - r ≡ k = omega arith in
    rw (div-mul-add q (2 * last_place ps) r few, mod-mul-add q (2 * last_place ps) r few, le_false r (last_place ps) (omega arith), back) refl

-- on the way back, k planes before the next first one
pub zig_back : (ps : List ℕ) → RiseOnce ps → (q k : ℕ) → k ≤ last_place ps → 2 ≤ length ps
    → zigzag ps (q * (2 * last_place ps) + (2 * last_place ps - k)) ≡ there_and_back ps * q + (2 * last_of ps - slice_index_or ps k 0)
zig_back ps h q zero p two =
    let e : q * (2 * last_place ps) + (2 * last_place ps - 0) ≡ (q + 1) * (2 * last_place ps) + 0 = omega arith in
    let f = zig_there ps (q + 1) 0 (omega arith) two in
    let g = first_below_last ps h two in
    rw e (rw f (omega arith))
zig_back ps h q (suc k) p two = elim (cases_lt (suc k) (last_place ps)) [
  | inl l ↦ turning ps q (suc k) (2 * last_place ps - suc k) l (omega arith) (omega arith)
  | inr g ↦
      let e : suc k ≡ last_place ps = omega arith in
      let f : q * (2 * last_place ps) + (2 * last_place ps - suc k) ≡ q * (2 * last_place ps) + last_place ps = omega arith in
      let z = zig_there ps q (last_place ps) (omega arith) two in
      rw (f, z, e) (omega arith)
]

pub source_there : (n q r : ℕ) → r ≤ n → 1 ≤ n → source n (q * (2 * n) + r) ≡ r
unfolding source
source_there n q r h some =
    let few : r < 2 * n = omega arith in
    rw (mod-mul-add q (2 * n) r few, le_true r n h) refl

source_turning : (n q k r : ℕ) → k < n → 0 < k → r ≡ 2 * n - k → source n (q * (2 * n) + r) ≡ k
unfolding source
source_turning n q k r l some e =
    let few : r < 2 * n = omega arith in
    rw (mod-mul-add q (2 * n) r few, le_false r n (omega arith)) (omega arith)

pub source_back : (n q k : ℕ) → k ≤ n → 1 ≤ n → source n (q * (2 * n) + (2 * n - k)) ≡ k
source_back n q zero p some =
    let e : q * (2 * n) + (2 * n - 0) ≡ (q + 1) * (2 * n) + 0 = omega arith in
    rw e (source_there n (q + 1) 0 (omega arith) some)
source_back n q (suc k) p some = elim (cases_lt (suc k) n) [
  | inl l ↦ source_turning n q (suc k) (2 * n - suc k) l (omega arith) (omega arith)
  | inr g ↦
      let f : q * (2 * n) + (2 * n - suc k) ≡ q * (2 * n) + n = omega arith in
      let s = source_there n q n (omega arith) some in
      rw (f, s) (omega arith)
]

pub source_within : (n i : ℕ) → 1 ≤ n → source n i ≤ n
unfolding source
source_within n i some = let few : i % (2 * n) < 2 * n = omega arith in within (i % (2 * n)) n few
  where
    within : (r n : ℕ) → r < 2 * n → (if nat_le r n then r else 2 * n - r) ≤ n
    within r n h = elim (cases_lt n r) [
      | inl l ↦ rw (le_false r n l) (omega arith)
      | inr g ↦ rw (le_true r n g) g
    ]

-- ---- so many times there and back later

pub zig_later : (ps : List ℕ) (i v : ℕ) → 2 ≤ length ps → zigzag ps (i + 2 * last_place ps * v) ≡ zigzag ps i + there_and_back ps * v
unfolding zigzag
zig_later ps i v two =
    let some : 0 < 2 * last_place ps = omega arith in
    rw (add-mul-div_left i v some, add-mul-mod_self_left i (2 * last_place ps) v) (omega arith)

pub source_later : (n i v : ℕ) → source n (i + 2 * n * v) ≡ source n i
unfolding source
source_later n i v = rw (add-mul-mod_self_left i (2 * n) v) refl

-- ---- where a step is

pub data Place (ps : List ℕ) (i : ℕ) : Type 0 where
  there : (q r : ℕ) → r < last_place ps → i ≡ q * (2 * last_place ps) + r → Place ps i
  back : (q k : ℕ) → k < last_place ps → i + 1 ≡ q * (2 * last_place ps) + (2 * last_place ps - k) → Place ps i

pub place_of : (ps : List ℕ) (i : ℕ) → 2 ≤ length ps → Place ps i
place_of ps i two =
    let q = i / (2 * last_place ps) in
    let r = i % (2 * last_place ps) in
    let at : q * (2 * last_place ps) + r ≡ i = omega arith in
    let few : r < 2 * last_place ps = omega arith in
    elim (cases_lt r (last_place ps)) [
      | inl l ↦ there q r l (sym at)
      | inr g ↦ back q (2 * last_place ps - r - 1) (omega arith) (omega arith)
    ]

-- ---- the steps rise

pub zig_next : (ps : List ℕ) → RiseOnce ps → 2 ≤ length ps → (i : ℕ) → zigzag ps i < zigzag ps (i + 1)
zig_next ps h two i = elim (place_of ps i two) [
  | there q r l e ↦
      let f : i + 1 ≡ q * (2 * last_place ps) + (r + 1) = omega arith in
      let a = zig_there ps q r (omega arith) two in
      let b = zig_there ps q (r + 1) (omega arith) two in
      let c = h.rise r (r + 1) (omega arith) (omega arith) in
      rw (f, b, e, a) (omega arith)
  | back q k l e ↦
      let f : i ≡ q * (2 * last_place ps) + (2 * last_place ps - (k + 1)) = omega arith in
      let a = zig_back ps h q (k + 1) (omega arith) two in
      let b = zig_back ps h q k (omega arith) two in
      let c = h.rise k (k + 1) (omega arith) (omega arith) in
      let d = at_most_last ps h (k + 1) (omega arith) in
      rw (e, b, f, a) (omega arith)
]

pub zig_rises : (ps : List ℕ) → RiseOnce ps → 2 ≤ length ps → (i k : ℕ) → zigzag ps i < zigzag ps (i + suc k)
zig_rises ps h two i zero = zig_next ps h two i
zig_rises ps h two i (suc k) =
    let a = zig_rises ps h two i k in
    let b = zig_next ps h two (i + suc k) in
    let e : i + suc k + 1 ≡ i + suc (suc k) = omega arith in
    let c = rw e at b in omega arith

pub zig_lt : (ps : List ℕ) → RiseOnce ps → 2 ≤ length ps → (i j : ℕ) → i < j → zigzag ps i < zigzag ps j
zig_lt ps h two i j p =
    let e : i + suc (j - i - 1) ≡ j = omega arith in
    let g = zig_rises ps h two i (j - i - 1) in
    rw e at g

pub zig_le : (ps : List ℕ) → RiseOnce ps → 2 ≤ length ps → (i j : ℕ) → i ≤ j → zigzag ps i ≤ zigzag ps j
zig_le ps h two i j p = elim (cases_lt i j) [
  | inl l ↦ let g = zig_lt ps h two i j l in omega arith
  | inr g ↦ let e : i ≡ j = omega arith in rw e (omega arith)
]

pub zig_back_lt : (ps : List ℕ) → RiseOnce ps → 2 ≤ length ps → (i j : ℕ) → zigzag ps i < zigzag ps j → i < j
zig_back_lt ps h two i j p = elim (cases_lt i j) [
  | inl l ↦ l
  | inr g ↦ let e = zig_le ps h two j i g in absurd (omega arith)
]

-- a step within `trips` times there and back is at most so far
pub zig_most : (ps : List ℕ) → RiseOnce ps → 2 ≤ length ps → (i : ℕ) → i ≤ 4 * (2 * last_place ps) → zigzag ps i ≤ 2 ^ 36
zig_most ps h two i p =
    let a = zig_le ps h two i (4 * (2 * last_place ps) + 0) (omega arith) in
    let b = zig_there ps 4 0 (omega arith) two in
    let c = last_most ps h in
    let d = h.first in
    omega (arith, a, b, c, d)

-- ---- as they are computed

pub zig_short : (ps : List ℕ) (i : ℕ) → i % (2 * last_place ps) ≤ last_place ps
    → there_and_back ps * (i / (2 * last_place ps)) + slice_index_or ps (i % (2 * last_place ps)) 0 ≡ zigzag ps i
unfolding zigzag
zig_short ps i h = rw (le_true (i % (2 * last_place ps)) (last_place ps) h) refl

pub zig_long : (ps : List ℕ) (i : ℕ) → last_place ps < i % (2 * last_place ps)
    → there_and_back ps * (i / (2 * last_place ps)) + (2 * last_of ps - slice_index_or ps (2 * last_place ps - i % (2 * last_place ps)) 0) ≡ zigzag ps i
unfolding zigzag
zig_long ps i h = rw (le_false (i % (2 * last_place ps)) (last_place ps) h) refl

pub source_short : (n i : ℕ) → i % (2 * n) ≤ n → i % (2 * n) ≡ source n i
unfolding source
source_short n i h = rw (le_true (i % (2 * n)) n h) refl

pub source_long : (n i : ℕ) → n < i % (2 * n) → 2 * n - i % (2 * n) ≡ source n i
unfolding source
source_long n i h = rw (le_false (i % (2 * n)) n h) refl

-- so many times there and back are at most 4 for a step within them
pub few_trips : (n i : ℕ) → 1 ≤ n → i ≤ 4 * (2 * n) → i / (2 * n) ≤ 4
few_trips n i some h = elim (cases_lt 4 (i / (2 * n))) [
  | inl l ↦ let few : i % (2 * n) < 2 * n = omega arith in let at : i / (2 * n) * (2 * n) + i % (2 * n) ≡ i = omega arith in
      let g : 5 ≤ i / (2 * n) = omega arith in absurd (omega (arith, mul-le-mul_left (2 * n) g))
  | inr g ↦ g
]

pub trips_most : (l f q : ℕ) → l ≤ 720000000 → q ≤ 4 → 2 * (l - f) * q ≤ 5760000000
trips_most l f q p h = omega (arith, mul-le-mul_left (2 * (l - f)) h)
