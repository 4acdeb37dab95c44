-- The table of all planes that a measured one stands for.
use Rattle.std.specs.Prelude.{ℕ, zero, suc, ◌+◌, ◌-◌, ◌*◌, List, [], ◌∷◌, ◌++◌, take, drop, length}
use Rattle.photo_table.specs.Exact.{IsRoundedOf}
use Rattle.photo_table.specs.Table.{Table}
use Rattle.symmetry_expand.specs.Steps.{last_place, zigzag, source, start_of}
use Rattle.symmetry_expand.specs.declared.symmetry.Symmetry.{Symmetry}
use Rattle.symmetry_expand.specs.declared.symmetry.Symmetry.TheVariants.{None, Axis, Plane0, Plane90, Both}

-- f 0, then f 1, and so on, `count` lists in all
unfoldable pub joined : {A : Type 0} → (ℕ → List A) → ℕ → List A
joined f zero = []
joined f (suc count) = joined f count ++ f count

-- the values of plane k, of which there are g
abbrev pub row_of : {A : Type 0} → ℕ → ℕ → List A → List A
row_of g k values = take g (drop (k * g) values)

-- one turn of the way to and fro, which goes there and back so many times in it, from `base` on, whose angle becomes 0
unfoldable pub round_trip : ℕ → ℕ → Table → Table
round_trip times base m =
    let n = last_place m.planes in
    let start = start_of m.planes base in
    record {
      planes = joined (λ i. (zigzag m.planes (start + i) - base) ∷ []) (times * (2 * n));
      gammas = m.gammas;
      values = joined (λ i. row_of (length m.gammas) (source n (start + i)) m.values) (times * (2 * n));
    }

-- with no symmetry every plane was measured; with the same all round the one plane is called 0
unfoldable pub all_round : Symmetry → Table → Table
all_round None m = m
all_round Axis m = record { planes = 0 ∷ []; gammas = m.gammas; values = m.values }
all_round Plane0 m = round_trip 1 0 m
all_round Plane90 m = round_trip 1 360000000 m
all_round Both m = round_trip 2 0 m

-- what is unfolded of a rounded table is the rounded table of what is unfolded of the exact one
abbrev pub AllRoundIsRounded : Type 0
AllRoundIsRounded = (s : Symmetry) (p t : Table) → IsRoundedOf p t → IsRoundedOf (all_round s p) (all_round s t)
