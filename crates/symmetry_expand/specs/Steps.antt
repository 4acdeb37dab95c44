-- The way round the vertical of a lamp whose measured planes are mirrored at the first and at the last of them: to and fro between
-- the two. Angles are millionths of a degree.
use Rattle.std.specs.Prelude.{ℕ, ◌+◌, ◌-◌, ◌*◌, ◌/◌, ◌%◌, ◌≤◌, ◌≡◌, List, length, slice_index_or, nat_le, if◌then◌else◌}
use Rattle.fx_base.specs.Search.{least}

-- the number of the last plane, and so how many steps there are from the first to it
abbrev pub last_place : List ℕ → ℕ
last_place planes = length planes - 1

abbrev pub first_of : List ℕ → ℕ
first_of planes = slice_index_or planes 0 0

abbrev pub last_of : List ℕ → ℕ
last_of planes = slice_index_or planes (last_place planes) 0

-- how far it is to the last plane and back
abbrev pub there_and_back : List ℕ → ℕ
there_and_back planes = 2 * (last_of planes - first_of planes)

-- step i of the way: its angle, and of n + 1 planes the number of the one that it mirrors
unfoldable pub zigzag : List ℕ → ℕ → ℕ
zigzag planes i =
    let n = last_place planes in
    let r = i % (2 * n) in
    there_and_back planes * (i / (2 * n)) + (if nat_le r n then slice_index_or planes r 0 else 2 * last_of planes - slice_index_or planes (2 * n - r) 0)

unfoldable pub source : ℕ → ℕ → ℕ
source n i = let r = i % (2 * n) in if nat_le r n then r else 2 * n - r

-- the first step that isn't before an angle
unfoldable pub start_of : List ℕ → ℕ → ℕ
start_of planes base = least (λ i. nat_le base (zigzag planes i)) (2 * last_place planes) 0

-- the way goes there and back so many times in a turn, and one turn of it can begin at `base`
pub record GoesRound (planes : List ℕ) (times base : ℕ) : Type 0 where
  pub two : 2 ≤ length planes
  pub some : 1 ≤ times
  pub few : times ≤ 2
  pub turn : times * there_and_back planes ≡ 360000000
  pub before : first_of planes ≤ base
  pub reached : base + first_of planes ≤ 2 * last_of planes
