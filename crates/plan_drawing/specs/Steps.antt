-- The steps of illuminance by which cells are coloured, the same for all rooms, so that two pages can be compared.
use Rattle.std.specs.Prelude.{ℕ, ◌*◌, List, [], ◌∷◌, count_by, nat_le, nat_lt, if◌then◌else◌, codes, decimal, ◌++◌}

-- the illuminances in lux at which the steps after step 0 begin
abbrev pub limits : List ℕ
limits =
    5 ∷ 10 ∷ 20 ∷ 30 ∷ 50 ∷ 75 ∷ 100 ∷ 150 ∷ 200 ∷ 300 ∷ 500 ∷ 750 ∷ 1000 ∷ 1500 ∷ 2000 ∷ 3000 ∷ 5000 ∷ []

-- the step of an illuminance in hundredths of a lux: how many of these limits it reaches
unfoldable pub step : ℕ → ℕ
step cents = count_by (λ limit. nat_le (limit * 100) cents) limits

-- the classes of a step's colour and of letters on it, white on the dark steps 0 to 7 and black on the others
abbrev pub step_class : ℕ → List ℕ
step_class s = codes "s" ++ decimal s

abbrev pub ink_class : ℕ → List ℕ
ink_class s = if nat_lt s 8 then codes "w" else codes "k"
