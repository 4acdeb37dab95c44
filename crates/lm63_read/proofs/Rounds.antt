-- Products as spans, and as exact intensities.
use Rattle.std.proofs.Common.{ℕ, zero, suc, ◌*◌, ◌^◌, ◌<◌, ◌≤◌, ◌≡◌, List, [], ◌∷◌, length, take, map, get_or, slice_index_or, pos, refl, ap, ◌∙◌, arith}
use Rattle.std.specs.Prelude.{◌≤ℤ◌}
use Rattle.std.proofs.lemmas.Grind.{div_ceil_times}
use Rattle.std.proofs.lemmas.Int.{ints}
use Rattle.std.proofs.lemmas.List.{length-map}
use Rattle.fx_base.specs.Ends.{Ends}
use Rattle.fx_base.specs.Fraction.{◌≈ᶠ◌, ratio, whole}
use Rattle.fx_base.specs.Interval.{exact}
use Rattle.fx_base.specs.Units.{natural, of_span}
use Rattle.fx_base.proofs.Order.{eq_refl_f}
use Rattle.photo_table.specs.Exact.{IsRoundedOf, rounded}
use Rattle.photo_table.specs.Kept.{AreIntensities}
use Rattle.symmetry_expand.specs.Measured.{measured_table}
use Rattle.lm63_read.specs.Files.{IesFile}
use Rattle.lm63_read.specs.Spans.{span_of, spans_of}
use Rattle.lm63_read.specs.Tables.{candela, kept, kept_planes, kept_values, measured}

pub map_take : {A B : Type 0} (f : A → B) (n : ℕ) (xs : List A) → take n (map f xs) ≡ map f (take n xs)
map_take f zero xs = refl
map_take f (suc n) [] = refl
map_take f (suc n) (x ∷ xs) = ap (λ ys. f x ∷ ys) (map_take f n xs)

-- the span of a product is its exact intensity, rounded
same_span : (v : ℕ) → of_span (span_of v) ≡ rounded (candela v)
unfolding ratio
same_span v = refl

same_spans : (vs : List ℕ) → map of_span (map span_of vs) ≡ map rounded (map candela vs)
same_spans [] = refl
same_spans (v ∷ vs) = ap (λ e. e ∷ map of_span (map span_of vs)) (same_span v) ∙ ap (λ is. rounded (candela v) ∷ is) (same_spans vs)

exact_at : (vs : List ℕ) (k : ℕ) → (slice_index_or (map candela vs) k (exact (whole 0))).lo ≈ᶠ (slice_index_or (map candela vs) k (exact (whole 0))).hi
exact_at [] k = eq_refl_f (whole 0)
exact_at (v ∷ vs) zero = eq_refl_f (ratio v (10 ^ 24))
exact_at (v ∷ vs) (suc k) = exact_at vs k

pub measured_rounded : (f : IesFile) (spans : List Ends) → spans ≡ spans_of f.values
    → IsRoundedOf (measured_table (kept_planes f.horizontals) f.verticals (kept_values f.horizontals (length f.verticals) spans)) (measured f)
unfolding spans_of
measured_rounded f spans e =
    let n = kept f.horizontals * length f.verticals in
    let vs = take n f.values in
    let t : take n spans ≡ map span_of vs = ap (take n) e ∙ map_take span_of n f.values in
    record { planes = refl; gammas = refl; exact = record { each = λ k. exact_at vs k }; values = ap (map of_span) t ∙ same_spans vs }

-- a product up to 10,000,000 candela
pub intensity : (v : ℕ) → v ≤ 10 ^ 31 → natural (span_of v).hi ≤ 687194767360000000
intensity v h = let d = div_ceil_times (v * 2 ^ 36) (10 ^ 24) (omega arith) in omega (arith, d.1)

pub are_intensities : (vs : List ℕ) → ((i : ℕ) → i < length vs → get_or vs i 0 ≤ 10 ^ 31) → AreIntensities (map span_of vs)
are_intensities vs h = record { not_negative = λ i d l. low vs i d (rw (← length-map vs span_of) l); high = λ i d l. high vs h i d (rw (← length-map vs span_of) l) }
  where
    low : (ws : List ℕ) (i : ℕ) (d : Ends) → i < length ws → pos 0 ≤ℤ (get_or (map span_of ws) i d).lo
    low [] i d l = absurd (omega arith)
    low (w ∷ ws) zero d l = omega (arith, ints)
    low (w ∷ ws) (suc i) d l = low ws i d (omega arith)

    high : (ws : List ℕ) → ((i : ℕ) → i < length ws → get_or ws i 0 ≤ 10 ^ 31) → (i : ℕ) (d : Ends) → i < length ws
        → natural (get_or (map span_of ws) i d).hi ≤ 687194767360000000
    high [] g i d l = absurd (omega arith)
    high (w ∷ ws) g zero d l = intensity w (g 0 (omega arith))
    high (w ∷ ws) g (suc i) d l = high ws (λ j m. g (suc j) (omega arith)) i d (omega arith)
