-- Which planes a measured table is unfolded to, and whose values they have, computed on small tables. The values were listed by
-- hand from the mirrors: plane c has the values of the measured plane that c, 360 - c, 180 - c or 180 + c is.
use Rattle.std.specs.Prelude.{ℕ, ◌≡◌, List, [], ◌∷◌, refl, negsuc}
use Rattle.fx_base.specs.Fraction.{whole}
use Rattle.fx_base.specs.Interval.{Interval, exact}
use Rattle.fx_base.specs.Search.{least}
use Rattle.photo_table.specs.Table.{Table}
use Rattle.symmetry_expand.specs.declared.symmetry.Symmetry.TheVariants.{None, Axis, Plane0, Plane90, Both}
use Rattle.symmetry_expand.specs.AllRound.{all_round, round_trip, joined}
use Rattle.symmetry_expand.specs.Measured.{lifted, micro}
use Rattle.symmetry_expand.specs.Steps.{zigzag, source, start_of}

unfoldable pub unfolded : Unit {0}
unfolding all_round round_trip joined zigzag source start_of least
unfolded = tt

-- plane k has the value k + 1 at its one gamma: two are asked of a table, and one shows all here
abbrev numbered : List ℕ → List Interval → Table
numbered planes values = record { planes = planes; gammas = 0 ∷ []; values = values }

abbrev candela : ℕ → Interval
candela n = exact (whole n)

-- measured from -90 to 90: 270 is the first plane, and so on a turn later
across_0 : all_round Plane90 (numbered (270000000 ∷ 340000000 ∷ 400000000 ∷ 450000000 ∷ []) (candela 1 ∷ candela 2 ∷ candela 3 ∷ candela 4 ∷ []))
    ≡ numbered (40000000 ∷ 90000000 ∷ 140000000 ∷ 200000000 ∷ 270000000 ∷ 340000000 ∷ []) (candela 3 ∷ candela 4 ∷ candela 3 ∷ candela 2 ∷ candela 1 ∷ candela 2 ∷ [])
unfolding unfolded
across_0 = refl

-- measured from 90 to 270
across_180 : all_round Plane90 (numbered (90000000 ∷ 100000000 ∷ 200000000 ∷ 270000000 ∷ []) (candela 1 ∷ candela 2 ∷ candela 3 ∷ candela 4 ∷ []))
    ≡ numbered (80000000 ∷ 90000000 ∷ 100000000 ∷ 200000000 ∷ 270000000 ∷ 340000000 ∷ []) (candela 2 ∷ candela 1 ∷ candela 2 ∷ candela 3 ∷ candela 4 ∷ candela 3 ∷ [])
unfolding unfolded
across_180 = refl

both_ways : all_round Both (numbered (0 ∷ 30000000 ∷ 90000000 ∷ []) (candela 1 ∷ candela 2 ∷ candela 3 ∷ []))
    ≡ numbered (0 ∷ 30000000 ∷ 90000000 ∷ 150000000 ∷ 180000000 ∷ 210000000 ∷ 270000000 ∷ 330000000 ∷ [])
    (candela 1 ∷ candela 2 ∷ candela 3 ∷ candela 2 ∷ candela 1 ∷ candela 2 ∷ candela 3 ∷ candela 2 ∷ [])
unfolding unfolded
both_ways = refl

from_0_to_180 : all_round Plane0 (numbered (0 ∷ 50000000 ∷ 180000000 ∷ []) (candela 1 ∷ candela 2 ∷ candela 3 ∷ []))
    ≡ numbered (0 ∷ 50000000 ∷ 180000000 ∷ 310000000 ∷ []) (candela 1 ∷ candela 2 ∷ candela 3 ∷ candela 2 ∷ [])
unfolding unfolded
from_0_to_180 = refl

all_the_same : all_round Axis (numbered (70000000 ∷ []) (candela 1 ∷ [])) ≡ numbered (0 ∷ []) (candela 1 ∷ [])
unfolding unfolded
all_the_same = refl

none_left_out : all_round None (numbered (0 ∷ 50000000 ∷ []) (candela 1 ∷ candela 2 ∷ [])) ≡ numbered (0 ∷ 50000000 ∷ []) (candela 1 ∷ candela 2 ∷ [])
unfolding unfolded
none_left_out = refl

-- planes less 360 degrees are brought into the turn of the first one
brought_round : lifted (record { 0 = negsuc 89999999 } ∷ record { 0 = negsuc 19999999 } ∷ micro 40000000 ∷ micro 90000000 ∷ [])
    ≡ 270000000 ∷ 340000000 ∷ 400000000 ∷ 450000000 ∷ []
brought_round = refl
