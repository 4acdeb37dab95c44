-- Square roots, enclosed at every depth.
use Rattle.std.specs.Prelude.{ℕ, ◌+◌, ◌*◌, ◌^◌}
use Rattle.std.proofs.Math.Nat.{zero-lt-suc, one-le-pow}
use Rattle.fx_base.specs.Fraction.{Fraction}
use Rattle.fx_base.specs.Interval.{Interval}
use Rattle.fx_base.specs.Search.{whole_root}

-- k / 2^n
unfoldable pub halved : ℕ → ℕ → Fraction
halved n k = record { num = k; den = 2 ^ n; positive = one-le-pow n 2 (zero-lt-suc 1) }

-- the root of r lies in [k / 2^n, (k + 1) / 2^n], k the greatest whole number with k^2 at most r 4^n
unfoldable pub root : ℕ → ℕ → Interval
root n r = let k = whole_root (r * 4 ^ n) in record { lo = halved n k; hi = halved n (k + 1) }
