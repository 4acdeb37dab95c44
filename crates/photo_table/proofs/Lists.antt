-- What the lists of a table say, read one by one.
use Rattle.std.proofs.Common.{ℕ, zero, suc, ◌+◌, ◌-◌, ◌*◌, ◌/◌, ◌%◌, ◌<◌, ◌≤◌, ◌≡◌, List, length, map, slice_index_or, arith, ap, refl, inl, inr, sym, ◌∙◌}
use Rattle.std.proofs.Math.Nat.{mul-le-mul_left}
use Rattle.std.proofs.lemmas.Bool.{cases_lt}
use Rattle.std.proofs.lemmas.List.{get_or-map}
use Rattle.std.proofs.Math.ListN.{length-map}
use Rattle.fx_base.specs.Fraction.{whole}
use Rattle.fx_base.specs.Interval.{exact}
use Rattle.fx_base.specs.Ends.{Ends}
use Rattle.fx_base.specs.Units.{of_span}
use Rattle.fx_base.specs.declared.Micro.{Micro}
use Rattle.photo_table.specs.Table.{Table, IsTable, plane, value}
use Rattle.photo_table.specs.Kept.{IsKept, angle_of, table_of}
use Rattle.photo_table.proofs.Tables.{plane_at}

pub angle_read : (angles : List Micro) (i : ℕ) (d : Micro) → i < length angles → slice_index_or (map angle_of angles) i 0 ≡ angle_of (slice_index_or angles i d)
angle_read angles i d p = get_or-map angle_of angles i d 0 p

pub count_is : (angles : List Micro) → length (map angle_of angles) ≡ length angles
count_is angles = length-map angles angle_of

pub plane_read : (ps gs : List Micro) (vs : List Ends) (i n : ℕ) → n ≡ length ps
    → slice_index_or (map angle_of ps) (i % n) 0 + 360000000 * (i / n) ≡ plane (table_of ps gs vs) i
unfolding plane
plane_read ps gs vs i n e = rw (e, count_is ps) refl

-- the plane of number k within the first turn is the angle in its place
pub plane_in_turn : (ps gs : List Micro) (vs : List Ends) (k : ℕ) (m : Micro) → k < length ps → m ≡ slice_index_or ps k m
    → angle_of m ≡ plane (table_of ps gs vs) k
plane_in_turn ps gs vs k m p e =
    let t = table_of ps gs vs in
    let a = plane_at t 0 k (rw (count_is ps) p) in
    let f : 0 * length t.planes + k ≡ k = omega arith in
    let g : angle_of m ≡ slice_index_or t.planes k 0 = ap angle_of e ∙ sym (angle_read ps k m p) in
    let b = rw f at a in omega (arith, b, g)

pub value_read : (ps gs : List Micro) (vs : List Ends) (i j n m : ℕ) (e : Ends) → n ≡ length ps → m ≡ length gs → i % n * m + j < length vs
    → e ≡ slice_index_or vs (i % n * m + j) e → value (table_of ps gs vs) i j ≡ of_span e
unfolding value
value_read ps gs vs i j n m e f g p h =
    rw (count_is ps, count_is gs, ← f, ← g) (get_or-map of_span vs (i % n * m + j) e (exact (whole 0)) p ∙ ap of_span (sym h))

-- ---- the lists rise

pub planes_rise : (ps gs : List Micro) (vs : List Ends) → IsKept ps gs vs
    → (i j : ℕ) → i < j → j < length ps → slice_index_or (map angle_of ps) i 0 < slice_index_or (map angle_of ps) j 0
planes_rise ps gs vs k i j p q = k.is_table.planes_rise i j p (rw (count_is ps) q)

pub gammas_rise : (ps gs : List Micro) (vs : List Ends) → IsKept ps gs vs
    → (i j : ℕ) → i < j → j < length gs → slice_index_or (map angle_of gs) i 0 < slice_index_or (map angle_of gs) j 0
gammas_rise ps gs vs k i j p q = k.is_table.gammas_rise i j p (rw (count_is gs) q)

-- rising numbers are at least their place
at_least_place : (f : ℕ → ℕ) (n : ℕ) → ((i j : ℕ) → i < j → j < n → f i < f j) → (i : ℕ) → i < n → i ≤ f i
at_least_place f n h zero p = omega arith
at_least_place f n h (suc i) p = let g = at_least_place f n h i (omega arith) in let r = h i (suc i) (omega arith) p in omega arith

pub few_planes : (ps gs : List Micro) (vs : List Ends) → IsKept ps gs vs → length ps ≤ 360000000
few_planes ps gs vs k = elim (cases_lt 360000000 (length ps)) [
  | inr g ↦ g
  | inl l ↦
      let a = at_least_place (λ i. slice_index_or (map angle_of ps) i 0) (length ps) (planes_rise ps gs vs k) 360000000 l in
      let b = k.planes_below 360000000 l in absurd (omega arith)
]

-- the place of a value lies in the list
pub place_within : (r n m j : ℕ) → r < n → j < m → r * m + j < n * m
place_within r n m j p q = let g : r + 1 ≤ n = omega arith in omega (arith, mul-le-mul_left m g)

pub value_within : (ps gs : List Micro) (vs : List Ends) → IsKept ps gs vs → (i j n m : ℕ) → n ≡ length ps → m ≡ length gs → j < m → i % n * m + j < length vs
value_within ps gs vs k i j n m f g p =
    let all = rw (length-map vs of_span, count_is ps, count_is gs, ← f, ← g) at k.is_table.all_values in
    let some = rw (count_is ps, ← f) at k.is_table.some_plane in
    rw all (place_within (i % n) n m j (omega arith) p)

-- ---- the piece of planes on which x lies

-- counted: cnt planes of this turn aren't above x
piece_number : (n q c : ℕ) → 0 < q → c ≡ 0 → 0 < n → n * q + c - 1 ≡ (q - 1) * n + (n - 1)
piece_number n q c p e s =
    let f : q ≡ (q - 1) + 1 = omega arith in
    let g = ap (λ (z : ℕ). n * z) f in omega arith

pub piece_low : (t : Table) → IsTable t → (x n c : ℕ) → n ≡ length t.planes → 360000000 ≤ x → c ≤ n
    → ((i : ℕ) → i < n → slice_index_or t.planes i 0 < 360000000)
    → ((i : ℕ) → i < c → slice_index_or t.planes i 0 ≤ x % 360000000)
    → plane t (n * (x / 360000000) + c - 1) ≤ x
piece_low t h x n c e turn few below up_to = elim (cases_lt 0 c) [
  | inr z ↦
      let q = x / 360000000 in
      let s = h.some_plane in
      let f : n * q + c - 1 ≡ (q - 1) * length t.planes + (n - 1) = let g = piece_number n q c (omega arith) (omega arith) (omega arith) in rw (← e) g in
      let a = plane_at t (q - 1) (n - 1) (omega arith) in
      let b = below (n - 1) (omega arith) in
      rw f (rw a (omega arith))
  | inl l ↦
      let q = x / 360000000 in
      let f : n * q + c - 1 ≡ q * length t.planes + (c - 1) = rw (← e) (omega arith) in
      let a = plane_at t q (c - 1) (omega arith) in
      let b = up_to (c - 1) (omega arith) in
      rw f (rw a (omega arith))
]

pub piece_high : (t : Table) → IsTable t → (x n c : ℕ) → n ≡ length t.planes → 360000000 ≤ x → c ≤ n
    → ((i : ℕ) → c ≤ i → i < n → x % 360000000 < slice_index_or t.planes i 0)
    → x < plane t (n * (x / 360000000) + c - 1 + 1)
piece_high t h x n c e turn few above = elim (cases_lt c n) [
  | inl l ↦
      let q = x / 360000000 in
      let s = h.some_plane in
      let g : n * 1 ≤ n * q = mul-le-mul_left n (omega arith) in
      let f : n * q + c - 1 + 1 ≡ q * length t.planes + c = rw (← e) (omega arith) in
      let a = plane_at t q c (omega arith) in
      let b = above c (omega arith) l in
      rw f (rw a (omega arith))
  | inr z ↦
      let q = x / 360000000 in
      let s = h.some_plane in
      let f : n * q + c - 1 + 1 ≡ (q + 1) * length t.planes + 0 = rw (← e) (omega arith) in
      let a = plane_at t (q + 1) 0 s in
      rw f (rw a (omega arith))
]
