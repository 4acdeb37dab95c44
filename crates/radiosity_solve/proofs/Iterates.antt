-- What holds of the iterates after each turn, and after the last.
use Rattle.std.proofs.Common.{ℕ, ◌+◌, ◌*◌, ◌^◌, ◌<◌, ◌≤◌, ◌≡◌, refl, ap, ◌∙◌, List, length, All, replicate, arith, add-one, lit≤}
use Rattle.std.proofs.lemmas.List.{get_or-replicate, length-replicate}
use Rattle.std.specs.Prelude.{pos}
use Rattle.std.proofs.Math.Nat.{mul-le-mul_left, le_of_mul-le-mul_left, pow-suc, one-le-pow}
use Rattle.std.proofs.lemmas.List.Elements.{All-from_get_or}
use Rattle.fx_base.specs.declared.Tick.{Tick}
use Rattle.interval_system.specs.Whole.{denominator, numerator}
use Rattle.interval_system.specs.System.{System, low_weight, high_weight, low_direct, high_direct}
use Rattle.radiosity_solve.specs.Shown.{lower_sum, upper_sum, IsShownLower, IsShownUpper}
use Rattle.radiosity_solve.specs.Bounds.{IsEnd, tick_at, no_tick}
use Rattle.radiosity_solve.specs.Turn.{IsLowerTurn, IsUpperTurn}
use Rattle.radiosity_solve.proofs.Pairs.{none, plain-solves}
use Rattle.radiosity_solve.proofs.Claims.{upper_holds}
use Rattle.radiosity_solve.proofs.Rate.{light-below, upper_turn, lower_turn}
use Rattle.radiosity_solve.proofs.Mild.{AreMild}
use Rattle.radiosity_solve.proofs.Turned.{upper_sum-rises, top, top-shown, upper_made, upper_shown, lower_made, lower_shown, end-of}
use Rattle.radiosity_solve.proofs.NearEnough.{high_solves, low_solves, IsNearUpper, IsNearLower}

-- ---- powers

next : (b t : ℕ) → b ^ (t + 1) ≡ b ^ t * b
next b t = rw add-one (pow-suc b t)

powers : (c e n : ℕ) → n ≤ 2048 → 255 * (e * 2 ^ 90 + c * 524288) + 256 * c * n ≤ e * 255 * 2 ^ 90 + c * 256 * 524288
powers c e n h = omega (arith, mul-le-mul_left c h)

-- c and e are 256 ^ t and 255 ^ t, u and v those of t + 1: from above x is m * y and z is 68719476736 * h, from below the other way
nearer : (c e u v m n x z : ℕ) → n ≤ 2048 → u ≡ c * 256 → v ≡ e * 255
    → 256 * c * x ≤ 256 * c * z + m * (255 * (e * 2 ^ 90 + c * 524288) + 256 * c * n) → u * x ≤ u * z + m * (v * 2 ^ 90 + u * 524288)
nearer c e u v m n x z few c-next e-next h = rw (c-next, e-next) (omega (arith, h, mul-le-mul_left m (powers c e n few)))

last-powers : 255 ^ 16384 * 2 ^ 90 + 256 ^ 16384 * 524288 ≤ 256 ^ 16384 * 6871947
last-powers = lit≤ tt

-- ---- from above

-- by how much, over 256 ^ t, an iterate may be off after t turns
abbrev pub error : ℕ → ℕ
error t = 255 ^ t * 2 ^ 90 + 256 ^ t * 524288

pub record IsUpperState (s : System) (x : List Tick) (t : ℕ) : Type 0 where
  pub shown : IsShownUpper (length s.rows) 68719476736 (high_weight s) (high_direct s) (tick_at x)
  pub near : (i : ℕ) → i < length s.rows →
      256 ^ t * (denominator (length s.rows) 68719476736 (high_weight s) * tick_at x i)
      ≤ 256 ^ t * (68719476736 * numerator (length s.rows) 68719476736 (high_weight s) (high_direct s) i)
      + denominator (length s.rows) 68719476736 (high_weight s) * error t

replicate-tick : (n v i : ℕ) → i < n → tick_at (replicate n (record { 0 = pos v })) i ≡ v
replicate-tick n v i l = rw (get_or-replicate n i (record { 0 = pos v }) no_tick l) refl

pub upper_begins : (s : System) (x : List Tick) → AreMild s → x ≡ replicate (length s.rows) (record { 0 = pos (2 ^ 90) }) → IsUpperState s x 0
unfolding top
upper_begins s x a is =
    let at : (i : ℕ) → i < length s.rows → tick_at x i ≡ 2 ^ 90 = λ i l. rw is (replicate-tick (length s.rows) (2 ^ 90) i l) in
    record {
      shown = record {
        row = λ i l. omega (
          arith,
          at i l,
          (top-shown (length s.rows) (high_weight s) (high_direct s) a.high a.high_light).row i l,
          upper_sum-rises (length s.rows) (high_weight s) (high_direct s) (tick_at x) (λ j. 2 ^ 90) (λ j w. omega (arith, at j w)) i,
        );
      };
      near = λ i l. omega (arith, ap (λ (z : ℕ). denominator (length s.rows) 68719476736 (high_weight s) * z) (at i l));
    }

pub upper_turned : (s : System) (x y : List Tick) (t : ℕ) → AreMild s → IsUpperState s x t → IsUpperTurn s x y → IsUpperState s y (t + 1)
upper_turned s x y t a state turn = record {
  shown = upper_shown s x y state.shown turn;
  near = λ i l.
      let n : ℕ = length s.rows in
      let m : ℕ = denominator n 68719476736 (high_weight s) in
      let h : ℕ → ℕ = numerator n 68719476736 (high_weight s) (high_direct s) in
      rw (upper_made s x y turn i l)
      (nearer (256 ^ t) (255 ^ t) (256 ^ (t + 1)) (255 ^ (t + 1)) m n
      (m * upper_sum n 68719476736 (high_weight s) (high_direct s) (tick_at x) i) (68719476736 * h i) a.few (next 256 t) (next 255 t)
      (upper_turn n 68719476736 (high_weight s) (high_direct s) m h (tick_at x) (256 ^ t) (error t) (omega arith) a.high (high_solves s a) state.near i l));
}

-- after 16,384 turns
cancel-powers : (c e m x z : ℕ) → 0 < c → e ≤ c * 6871947 → c * x ≤ c * z + m * e → x ≤ z + m * 6871947
cancel-powers c e m x z p small h = le_of_mul-le-mul_left {k = c} (omega (arith, mul-le-mul_left m small)) p

pub upper_spent : (s : System) (x : List Tick) → IsUpperState s x 16384 → IsNearUpper s x
upper_spent s x state = record {
  row = λ i l. cancel-powers (256 ^ 16384) (255 ^ 16384 * 2 ^ 90 + 256 ^ 16384 * 524288) (denominator (length s.rows) 68719476736 (high_weight s))
      (denominator (length s.rows) 68719476736 (high_weight s) * tick_at x i)
      (68719476736 * numerator (length s.rows) 68719476736 (high_weight s) (high_direct s) i)
      (one-le-pow 16384 256 (lit≤ tt)) last-powers (state.near i l);
}

-- ---- from below

pub record IsLowerState (s : System) (x : List Tick) (t : ℕ) : Type 0 where
  pub shown : IsShownLower (length s.rows) 68719476736 (low_weight s) (low_direct s) (tick_at x)
  pub near : (i : ℕ) → i < length s.rows →
      256 ^ t * (68719476736 * numerator (length s.rows) 68719476736 (low_weight s) (low_direct s) i)
      ≤ 256 ^ t * (denominator (length s.rows) 68719476736 (low_weight s) * tick_at x i)
      + denominator (length s.rows) 68719476736 (low_weight s) * error t

-- the solution of all lower ends is at most 2^90 ticks
low-top : (s : System) → AreMild s → (i : ℕ) → i < length s.rows
    → 68719476736 * numerator (length s.rows) 68719476736 (low_weight s) (low_direct s) i ≤ denominator (length s.rows) 68719476736 (low_weight s) * 2 ^ 90
unfolding none top
low-top s a i l =
    let n : ℕ = length s.rows in
    let m : ℕ = denominator n 68719476736 (low_weight s) in
    let h : ℕ → ℕ = numerator n 68719476736 (low_weight s) (low_direct s) in
    omega (
      arith,
      upper_holds n 68719476736 (low_weight s) (low_direct s) top 68719476736 (low_weight s) (low_direct s) m h none (omega arith)
          (light-below n 68719476736 (low_weight s) (omega arith) a.low) (record { coefficient = λ i j l w. omega arith; light = λ i l. omega arith })
          (top-shown n (low_weight s) (low_direct s) a.low a.low_light)
          (plain-solves n 68719476736 (low_weight s) (low_direct s) m h (low_solves s a)) i l,
    )

pub lower_begins : (s : System) (x : List Tick) → AreMild s → x ≡ replicate (length s.rows) (record { 0 = pos 0 }) → IsLowerState s x 0
lower_begins s x a is =
    let at : (i : ℕ) → i < length s.rows → tick_at x i ≡ 0 = λ i l. rw is (replicate-tick (length s.rows) 0 i l) in
    record {
      shown = record { row = λ i l. omega (arith, at i l) };
      near = λ i l. omega (arith, low-top s a i l);
    }

pub lower_turned : (s : System) (x y : List Tick) (t : ℕ) → AreMild s → IsLowerState s x t → IsLowerTurn s x y → IsLowerState s y (t + 1)
lower_turned s x y t a state turn = record {
  shown = lower_shown s x y state.shown turn;
  near = λ i l.
      let n : ℕ = length s.rows in
      let m : ℕ = denominator n 68719476736 (low_weight s) in
      let h : ℕ → ℕ = numerator n 68719476736 (low_weight s) (low_direct s) in
      rw (lower_made s x y turn i l)
      (nearer (256 ^ t) (255 ^ t) (256 ^ (t + 1)) (255 ^ (t + 1)) m n (68719476736 * h i)
      (m * lower_sum n 68719476736 (low_weight s) (low_direct s) (tick_at x) i) a.few (next 256 t) (next 255 t)
      (lower_turn n 68719476736 (low_weight s) (low_direct s) m h (tick_at x) (256 ^ t) (error t) (omega arith) a.low (low_solves s a) state.near i l));
}

pub lower_spent : (s : System) (x : List Tick) → IsLowerState s x 16384 → IsNearLower s x
lower_spent s x state = record {
  row = λ i l. cancel-powers (256 ^ 16384) (255 ^ 16384 * 2 ^ 90 + 256 ^ 16384 * 524288) (denominator (length s.rows) 68719476736 (low_weight s))
      (68719476736 * numerator (length s.rows) 68719476736 (low_weight s) (low_direct s) i)
      (denominator (length s.rows) 68719476736 (low_weight s) * tick_at x i)
      (one-le-pow 16384 256 (lit≤ tt)) last-powers (state.near i l);
}

-- ---- the lists with which the iterations begin

pub start_size : (n : ℕ) (x : List Tick) (t : Tick) → x ≡ replicate n t → length x ≡ n
start_size n x t is = ap (λ (xs : List Tick). length xs) is ∙ length-replicate n t

start-ends : (n v : ℕ) (x : List Tick) → v ≤ 2 ^ 90 → x ≡ replicate n (record { 0 = pos v }) → All IsEnd x
start-ends n v x h is =
    All-from_get_or IsEnd x no_tick
    (λ i l.
    let inside : i < n = omega (arith, start_size n x (record { 0 = pos v }) is) in
    rw is (rw (get_or-replicate n i (record { 0 = pos v }) no_tick inside) (end-of v h)))

pub lower_starts : (n : ℕ) (x : List Tick) → x ≡ replicate n (record { 0 = pos 0 }) → All IsEnd x
lower_starts n x is = start-ends n 0 x (lit≤ tt) is

pub upper_starts : (n : ℕ) (x : List Tick) → x ≡ replicate n (record { 0 = pos (2 ^ 90) }) → All IsEnd x
upper_starts n x is = start-ends n (2 ^ 90) x (lit≤ tt) is
