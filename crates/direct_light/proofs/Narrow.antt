-- A table whose intensities are no wider than a tick is an exact table rounded.
use Rattle.std.proofs.Common.{ℕ, zero, suc, ◌+◌, ◌*◌, ◌≤◌, ◌≡◌, arith, refl, sym, List, [], ◌∷◌, map, slice_index_or}
use Rattle.std.proofs.Math.Nat.{zero-lt-suc}
use Rattle.std.proofs.lemmas.Grind.{div_ceil_times}
use Rattle.fx_base.specs.Fraction.{Fraction, ◌≤ᶠ◌, ◌≈ᶠ◌, ◌+ᶠ◌, whole}
use Rattle.fx_base.specs.Interval.{Interval, InOrder, exact}
use Rattle.fx_base.specs.Ends.{Ends}
use Rattle.fx_base.specs.Units.{natural, ticks, ticks_between, of_span}
use Rattle.fx_base.proofs.Order.{le_trans_f}
use Rattle.fx_base.proofs.Sums.{ticks_back, ticks_join}
use Rattle.photo_table.specs.Exact.{rounded, ticks_below, ticks_above}
use Rattle.direct_light.specs.Laws.{NarrowHasExact}

-- the number in the middle between l ticks and h ticks
abbrev middle : ℕ → ℕ → Fraction
middle l h = record { num = l + h; den = 137438953472; positive = zero-lt-suc 137438953471 }

abbrev middle_of : Ends → Interval
middle_of e = exact (middle (natural e.lo) (natural e.hi))

low_is : (l h : ℕ) → l ≤ h → h ≤ l + 1 → ticks_below (middle l h) ≡ l
low_is l h p q = omega (arith, p, q)

high_is : (l h : ℕ) → l ≤ h → h ≤ l + 1 → ticks_above (middle l h) ≡ h
high_is l h p q = let d = div_ceil_times ((l + h) * 68719476736) 137438953472 (zero-lt-suc 137438953471) in omega (arith, p, q, d.0, d.1)

same_ticks : (a b c d : ℕ) → a ≡ c → b ≡ d → ticks_between a b ≡ ticks_between c d
same_ticks a b c d e f = rw (e, f) refl

middle_rounded : (l h : ℕ) → l ≤ h → h ≤ l + 1 → ticks_between l h ≡ rounded (exact (middle l h))
middle_rounded l h p q = same_ticks l h (ticks_below (middle l h)) (ticks_above (middle l h)) (sym (low_is l h p q)) (sym (high_is l h p q))

narrow_ends : (l h : ℕ) → ticks h ≤ᶠ (ticks l +ᶠ ticks 1) → h ≤ l + 1
narrow_ends l h p = ticks_back h (l + 1) (le_trans_f p (ticks_join l 1))

same_list : (i j : Interval) (is js : List Interval) → i ≡ j → is ≡ js → (i ∷ is) ≡ (j ∷ js)
same_list i j is js e f = rw (e, f) refl

middles_rounded : (es : List Ends) → ((k : ℕ) → InOrder (slice_index_or (map of_span es) k (exact (whole 0))))
    → ((k : ℕ) → (slice_index_or (map of_span es) k (exact (whole 0))).hi ≤ᶠ ((slice_index_or (map of_span es) k (exact (whole 0))).lo +ᶠ ticks 1))
    → map of_span es ≡ map rounded (map middle_of es)
middles_rounded [] order narrow = refl
middles_rounded (e ∷ es) order narrow = same_list (of_span e) (rounded (middle_of e)) (map of_span es) (map rounded (map middle_of es))
    (middle_rounded (natural e.lo) (natural e.hi) (ticks_back (natural e.lo) (natural e.hi) (order 0)) (narrow_ends (natural e.lo) (natural e.hi) (narrow 0)))
    (middles_rounded es (λ k. order (suc k)) (λ k. narrow (suc k)))

same_number : (x : Fraction) → x ≈ᶠ x
same_number x = record { cross = refl }

middles_exact : (es : List Ends) (k : ℕ) → (slice_index_or (map middle_of es) k (exact (whole 0))).lo ≈ᶠ (slice_index_or (map middle_of es) k (exact (whole 0))).hi
middles_exact [] k = same_number (whole 0)
middles_exact (e ∷ es) zero = same_number (middle (natural e.lo) (natural e.hi))
middles_exact (e ∷ es) (suc k) = middles_exact es k

pub narrow_has_exact : NarrowHasExact
narrow_has_exact p spans e kept narrow = (
  record { planes = p.planes; gammas = p.gammas; values = map middle_of spans },
  record {
    planes = refl;
    gammas = refl;
    exact = record { each = middles_exact spans };
    values = rw e (middles_rounded spans (rw e at kept.in_order) (rw e at narrow.each));
  },
)
