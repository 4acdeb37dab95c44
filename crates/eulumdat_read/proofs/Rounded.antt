-- Spans of products are the exact intensities, rounded.
use Rattle.std.proofs.Common.{ℕ, zero, suc, ◌≡◌, List, [], ◌∷◌, map, refl, ap, arith, ◌<◌, ◌≤◌, length, slice_index_or, ◌*◌, ◌^◌}
use Rattle.std.proofs.Math.ListN.{length-map}
use Rattle.std.proofs.lemmas.List.{get_or-map}
use Rattle.std.proofs.lemmas.Grind.{div_ceil_times}
use Rattle.std.proofs.lemmas.Int.{ints}
use Rattle.fx_base.specs.Ends.{Ends}
use Rattle.fx_base.specs.Fraction.{ratio, whole, ◌≈ᶠ◌}
use Rattle.fx_base.specs.Interval.{Interval, exact}
use Rattle.fx_base.specs.Units.{natural, of_span, ticks}
use Rattle.fx_base.proofs.Order.{eq_refl_f}
use Rattle.photo_table.specs.Exact.{rounded, IsRoundedOf}
use Rattle.photo_table.specs.Kept.{AreIntensities}
use Rattle.eulumdat_read.specs.Runs.{span_of}

abbrev pub exactly : ℕ → Interval
exactly n = exact (ratio n 1000000000000000000000)

pub spans_rounded : (ns : List ℕ) → map of_span (map span_of ns) ≡ map rounded (map exactly ns)
unfolding ratio ticks
spans_rounded [] = refl
spans_rounded (n ∷ ns) = ap (λ (is : List Interval). of_span (span_of n) ∷ is) (spans_rounded ns)

all_exact : (ns : List ℕ) (k : ℕ) → (slice_index_or (map exactly ns) k (exact (whole 0))).lo ≈ᶠ (slice_index_or (map exactly ns) k (exact (whole 0))).hi
all_exact [] k = eq_refl_f (whole 0)
all_exact (n ∷ ns) zero = eq_refl_f (ratio n 1000000000000000000000)
all_exact (n ∷ ns) (suc k) = all_exact ns k

pub rounded_table : (planes gammas : List ℕ) (ns : List ℕ) (spans : List Ends) → spans ≡ map span_of ns
    → IsRoundedOf (record { planes = planes; gammas = gammas; values = map of_span spans }) (record { planes = planes; gammas = gammas; values = map exactly ns })
rounded_table planes gammas ns spans e = record { planes = refl; gammas = refl; exact = record { each = all_exact ns }; values = rw e (spans_rounded ns) }

-- a product up to 10,000,000 candela
intensity : (n : ℕ) → n ≤ 10 ^ 28 → natural (span_of n).hi ≤ 687194767360000000
intensity n h = let d = div_ceil_times (n * 68719476736) 1000000000000000000000 (omega arith) in omega (arith, d.1)

pub are_intensities : (ns : List ℕ) (spans : List Ends) → spans ≡ map span_of ns → ((i : ℕ) → i < length ns → slice_index_or ns i 0 ≤ 10 ^ 28) → AreIntensities spans
are_intensities ns spans e h = rw e (record {
  not_negative = λ i d p. let q : i < length ns = rw (← length-map ns span_of) p in rw (get_or-map span_of ns i 0 d q) (omega (arith, ints));
  high = λ i d p. let q : i < length ns = rw (← length-map ns span_of) p in rw (get_or-map span_of ns i 0 d q) (intensity (slice_index_or ns i 0) (h i q));
})
