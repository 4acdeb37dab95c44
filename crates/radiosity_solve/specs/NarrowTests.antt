-- The sum of the one row of a system: a weight whose upper end is a half.
use Rattle.std.specs.Prelude.{◌≡◌, [], ◌∷◌, pos, refl, slice_index_or}
use Rattle.std.proofs.Common.{sym, subst}
use Rattle.std.proofs.Math.Arith.{lt-one}
use Rattle.interval_system.specs.System.{System, upper_total}
use Rattle.radiosity_solve.specs.declared.narrow.NarrowRow.{NarrowRow}
use Rattle.radiosity_solve.specs.Narrow.{HaveSums}

abbrev sample : System
sample = record {
  rows = (record { lo = 17179869184; hi = 34359738368 } ∷ []) ∷ [];
  direct = record { lo = pos 0; hi = pos 68719476736 } ∷ [];
}

a_half : (row : NarrowRow) → row.sum ≡ 34359738368 → HaveSums sample (row ∷ [])
a_half row is = record {
  size = refl;
  sum = λ k d l. subst (λ k. (slice_index_or (row ∷ []) k d).sum ≡ upper_total (slice_index_or sample.rows k [])) (sym (lt-one l)) is;
}
