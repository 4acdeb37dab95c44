-- What the lists of a table keep, said of the table.
use Rattle.std.proofs.Common.{ℕ, zero, suc, ◌*◌, ◌<◌, List, [], ◌∷◌, length, map, slice_index_or, arith}
use Rattle.fx_base.specs.Ends.{Ends}
use Rattle.fx_base.specs.Fraction.{◌≤ᶠ◌, whole}
use Rattle.fx_base.specs.Interval.{InOrder, exact}
use Rattle.fx_base.specs.Units.{natural, of_span}
use Rattle.fx_base.specs.declared.Micro.{Micro}
use Rattle.fx_base.proofs.Order.{le_refl_f, le_trans_f, zero_le_f}
use Rattle.fx_base.proofs.Sums.{ticks_le, ticks_whole}
use Rattle.fx_base.proofs.Rounding.{natural-mono}
use Rattle.photo_table.specs.Kept.{IsKept, IsIntensity, table_of}
use Rattle.photo_table.specs.Exact.{IsIntensityTable}
use Rattle.photo_table.proofs.Lists.{count_is}

ends_of : (e : Ends) → IsIntensity e → InOrder (of_span e) × ((of_span e).hi ≤ᶠ whole 10000000)
ends_of e h = (
  ticks_le (natural e.lo) (natural e.hi) (natural-mono e.lo e.hi h.not_negative h.in_order),
  le_trans_f (ticks_le (natural e.hi) (10000000 * 68719476736) h.high) (ticks_whole 10000000),
)

at_value : (vs : List Ends) → ((i : ℕ) (d : Ends) → i < length vs → IsIntensity (slice_index_or vs i d)) → (k : ℕ)
    → InOrder (slice_index_or (map of_span vs) k (exact (whole 0))) × ((slice_index_or (map of_span vs) k (exact (whole 0))).hi ≤ᶠ whole 10000000)
at_value [] h k = (le_refl_f (whole 0), zero_le_f (whole 10000000))
at_value (e ∷ vs) h zero = ends_of e (h 0 e (omega arith))
at_value (e ∷ vs) h (suc k) = at_value vs (λ i d p. h (suc i) d (omega arith)) k

pub kept_is : (ps gs : List Micro) (vs : List Ends) → IsKept ps gs vs → IsIntensityTable (table_of ps gs vs)
kept_is ps gs vs h = record {
  is_table = h.is_table;
  planes_below = λ i p. h.planes_below i (rw (count_is ps) at p);
  in_order = λ k. (at_value vs h.intensities k).0;
  bright = λ k. (at_value vs h.intensities k).1;
}
