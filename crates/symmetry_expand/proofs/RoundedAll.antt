-- What is unfolded of a rounded table is rounded.
use Rattle.std.proofs.Common.{ℕ, zero, suc, ◌+◌, ◌<◌, ◌≡◌, List, [], ◌∷◌, length, slice_index_or, arith, sym, refl, inl, inr, subst}
use Rattle.std.proofs.Math.ListN.{get_or-eq_default}
use Rattle.std.proofs.lemmas.Bool.{cases_lt}
use Rattle.fx_base.specs.Fraction.{◌≈ᶠ◌, whole}
use Rattle.fx_base.specs.Interval.{Interval, exact}
use Rattle.fx_base.proofs.Order.{eq_refl_f}
use Rattle.photo_table.specs.Exact.{IsExact, IsRoundedOf, rounded}
use Rattle.photo_table.specs.Table.{Table}
use Rattle.symmetry_expand.specs.declared.symmetry.Symmetry.TheVariants.{None, Axis, Plane0, Plane90, Both}
use Rattle.symmetry_expand.specs.AllRound.{all_round, round_trip, row_of, AllRoundIsRounded}
use Rattle.symmetry_expand.specs.Steps.{last_place, source, start_of}
use Rattle.symmetry_expand.proofs.Joined.{AllAt, joined_all, row_all}
use Rattle.symmetry_expand.proofs.Turned.{turn_rows, rows_map}
use Rattle.symmetry_expand.proofs.Rounds.{turn_steps}

same_default : (xs : List Interval) (k : ℕ) (d e : Interval) → k < length xs → slice_index_or xs k d ≡ slice_index_or xs k e
same_default [] k d e p = absurd (omega arith)
same_default (x ∷ xs) zero d e p = refl
same_default (x ∷ xs) (suc k) d e p = same_default xs k d e (omega arith)

abbrev IsPoint : Interval → Type 0
IsPoint i = i.lo ≈ᶠ i.hi

points_all : (t : Table) → IsExact t → AllAt IsPoint t.values
points_all t h i d p = let P : Interval → Type 0 = IsPoint in subst P (same_default t.values i (exact (whole 0)) d p) (h.each i)

all_points : (xs : List Interval) → AllAt IsPoint xs → (k : ℕ) → IsPoint (slice_index_or xs k (exact (whole 0)))
all_points xs h k = elim (cases_lt k (length xs)) [
  | inl l ↦ h k (exact (whole 0)) l
  | inr g ↦ let P : Interval → Type 0 = IsPoint in subst P (sym (get_or-eq_default xs (exact (whole 0)) g)) (eq_refl_f (whole 0))
]

rows_exact : (t : Table) (times base : ℕ) → IsExact t → IsExact (round_trip times base t)
unfolding round_trip
rows_exact t times base h = record {
  each = all_points (turn_rows t.planes base (length t.gammas) t.values (turn_steps t.planes times))
      (joined_all IsPoint (λ i. row_of (length t.gammas) (source (last_place t.planes) (start_of t.planes base + i)) t.values) (turn_steps t.planes times)
      (λ i p. row_all IsPoint (length t.gammas) (source (last_place t.planes) (start_of t.planes base + i)) t.values (points_all t h)));
}

trip_rounded : (times base : ℕ) (p t : Table) → IsRoundedOf p t → IsRoundedOf (round_trip times base p) (round_trip times base t)
unfolding round_trip
trip_rounded times base p t h = record {
  planes = rw h.planes refl;
  gammas = h.gammas;
  exact = rows_exact t times base h.exact;
  values = rw (h.planes, h.gammas, h.values) (sym (rows_map rounded t.planes base (length t.gammas) t.values (turn_steps t.planes times)));
}

pub all_round_is_rounded : AllRoundIsRounded
unfolding all_round
all_round_is_rounded None p t h = h
all_round_is_rounded Axis p t h = record { planes = refl; gammas = h.gammas; exact = record { each = h.exact.each }; values = h.values }
all_round_is_rounded Plane0 p t h = trip_rounded 1 0 p t h
all_round_is_rounded Plane90 p t h = trip_rounded 1 360000000 p t h
all_round_is_rounded Both p t h = trip_rounded 2 0 p t h
