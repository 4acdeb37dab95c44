-- The planes and values of a turn, at each of its planes and on past the last one.
use Rattle.std.proofs.Common.{ℕ, ◌+◌, ◌*◌, ◌/◌, ◌%◌, ◌<◌, ◌≤◌, ◌≡◌, List, [], ◌∷◌, length, arith, refl, ◌∙◌}
use Rattle.std.proofs.Math.Nat.{mul-pos}
use Rattle.std.proofs.Math.Nat.{mod-eq_of_lt}
use Rattle.fx_base.specs.Fraction.{whole}
use Rattle.fx_base.specs.Interval.{exact}
use Rattle.photo_table.specs.Table.{Table, IsTable, plane, value}
use Rattle.symmetry_expand.specs.AllRound.{joined, row_of, round_trip}
use Rattle.symmetry_expand.specs.Measured.{micro}
use Rattle.symmetry_expand.specs.Steps.{last_place, zigzag, source, start_of, GoesRound}
use Rattle.symmetry_expand.proofs.Planes.{RiseOnce}
use Rattle.symmetry_expand.proofs.Zigzag.{source_within, source_later}
use Rattle.symmetry_expand.proofs.Joined.{joined_get, row_length, row_get, ones_length, ones_get}
use Rattle.symmetry_expand.proofs.Rounds.{turn_angle, turn_steps, turn_later, from_base, turn_planes_are, angles_of}
use Rattle.symmetry_expand.proofs.Turned.{rows_length}

pub trip_planes : (m : Table) (times base : ℕ) → (round_trip times base m).planes ≡ joined (λ i. turn_angle m.planes base i ∷ []) (turn_steps m.planes times)
unfolding round_trip
trip_planes m times base = refl

trip_values : (m : Table) (times base : ℕ) → (round_trip times base m).values
    ≡ joined (λ i. row_of (length m.gammas) (source (last_place m.planes) (start_of m.planes base + i)) m.values) (turn_steps m.planes times)
unfolding round_trip
trip_values m times base = refl

pub trip_gammas : (m : Table) (times base : ℕ) → (round_trip times base m).gammas ≡ m.gammas
unfolding round_trip
trip_gammas m times base = refl

pub trip_count : (m : Table) (times base : ℕ) → length (round_trip times base m).planes ≡ turn_steps m.planes times
trip_count m times base = rw (trip_planes m times base) (ones_length (λ i. turn_angle m.planes base i) (turn_steps m.planes times))

some_steps : (ps : List ℕ) (times base : ℕ) → GoesRound ps times base → 0 < turn_steps ps times
some_steps ps times base h = let k = h.some in let t = h.two in mul-pos {m = times} {n = 2 * last_place ps} (omega arith) (omega arith)

-- plane i of the turn, and so on past its last one
pub trip_plane : (m : Table) (times base : ℕ) → RiseOnce m.planes → GoesRound m.planes times base → (i : ℕ)
    → plane (round_trip times base m) i + base ≡ zigzag m.planes (start_of m.planes base + i)
unfolding plane
trip_plane m times base rise h i =
    let n = turn_steps m.planes times in
    let some = some_steps m.planes times base h in
    let r = i % n in
    let few : r < n = omega arith in
    let at : start_of m.planes base + i ≡ start_of m.planes base + r + n * (i / n) = omega arith in
    let z = turn_later m.planes times base h (start_of m.planes base + r) (i / n) in
    let b = from_base m.planes times base rise h r in
    rw (trip_count m times base, trip_planes m times base, ones_get (λ i. turn_angle m.planes base i) n 0 r few, at, z) (omega arith)

pub trip_value : (m : Table) (times base : ℕ) → IsTable m → GoesRound m.planes times base → (i j : ℕ) → j < length m.gammas
    → value (round_trip times base m) i j ≡ value m (source (last_place m.planes) (start_of m.planes base + i)) j
unfolding value
trip_value m times base is h i j p =
    let n = turn_steps m.planes times in
    let g = length m.gammas in
    let k = last_place m.planes in
    let some = some_steps m.planes times base h in
    let two = h.two in
    let r = i % n in
    let few : r < n = omega arith in
    let at : start_of m.planes base + i ≡ start_of m.planes base + r + 2 * k * (times * (i / n)) = omega arith in
    let s = source_later k (start_of m.planes base + r) (times * (i / n)) in
    let src = source k (start_of m.planes base + r) in
    let within : src ≤ k = source_within k (start_of m.planes base + r) (omega arith) in
    let all : length m.values ≡ (k + 1) * g = let e : k + 1 ≡ length m.planes = omega arith in rw e is.all_values in
    let rows = λ (i : ℕ). row_of g (source k (start_of m.planes base + i)) m.values in
    let same : src % length m.planes ≡ src = mod-eq_of_lt (omega arith) in
    rw (trip_count m times base, trip_gammas m times base, trip_values m times base, at, s, same)
    (joined_get rows g n (exact (whole 0)) (λ i q. row_length g (source k (start_of m.planes base + i)) k m.values (source_within k (start_of m.planes base + i) (omega arith)) all) r j few p
    ∙ row_get g src m.values j (exact (whole 0)) p)

pub trip_is_table : (m : Table) (times base : ℕ) → IsTable m → RiseOnce m.planes → GoesRound m.planes times base → IsTable (round_trip times base m)
trip_is_table m times base is rise h =
    let n = turn_steps m.planes times in
    let a = turn_planes_are m.planes times base rise h in
    let e = angles_of m.planes base n in
    let p = trip_planes m times base in
    let c = trip_count m times base in
    let all = ones_length (λ i. micro (turn_angle m.planes base i)) n in
    let x = λ (i : ℕ). turn_angle m.planes base i in
    let below : (i : ℕ) → i < n → x i < 360000000 = λ i q. let f = rw (e, ones_get x n 0 i q) at (a.below i (rw all q)) in f in
    let some = some_steps m.planes times base h in
    record {
      some_plane = rw c some;
      planes_rise = λ i j q r.
          let r' : j < n = rw c at r in
          let f = rw (e, ones_get x n 0 i (omega arith), ones_get x n 0 j r') at (a.rise i j q (rw all r')) in
          rw (p, ones_get x n 0 i (omega arith), ones_get x n 0 j r') f;
      first_plane = rw (p, ones_get x n 0 0 some) (let f = below 0 some in omega arith);
      one_turn = λ i q.
          let q' : i < n = rw c at q in
          rw (p, ones_get x n 0 i q', ones_get x n 0 0 some) (let f = below i q' in omega arith);
      two_gammas = rw (trip_gammas m times base) is.two_gammas;
      gammas_rise = rw (trip_gammas m times base) is.gammas_rise;
      gammas_up_to = rw (trip_gammas m times base) is.gammas_up_to;
      all_values = rw (c, trip_gammas m times base, trip_values m times base) (rows_length m.planes base (length m.gammas) n m.values h.two is.all_values);
    }
