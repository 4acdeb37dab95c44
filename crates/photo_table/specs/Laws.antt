-- What holds of the hull.
use Rattle.std.specs.Prelude.{ℕ, ◌+◌, ◌*◌, ◌≡◌, length}
use Rattle.fx_base.specs.Fraction.{Fraction, ◌≤ᶠ◌, ◌≈ᶠ◌, ◌+ᶠ◌, ◌-ᶠ◌, whole, lesser}
use Rattle.fx_base.specs.Interval.{Interval, InOrder, Meets, LiesIn, Contains, exact, outward, turned}
use Rattle.fx_base.specs.Units.{ticks}
use Rattle.photo_table.specs.Table.{Table, IsTable, plane, value, bilinear}
use Rattle.photo_table.specs.Hull.{hull}

-- it contains the intensity in every direction of the two brackets
abbrev pub HullContains : Type 0
HullContains = (t : Table) → IsTable t → (c g : Interval) (x y : Fraction) → Contains c x → Contains g y → LiesIn (bilinear t x y) (hull t c g)

-- over one direction alone it is that intensity and no more
abbrev pub HullAtPoint : Type 0
HullAtPoint = (t : Table) → IsTable t → (x y : Fraction) → LiesIn (hull t (exact x) (exact y)) (bilinear t x y)

-- as many planes on as make whole turns comes the same plane, these turns later
abbrev pub PlanesGoRound : Type 0
PlanesGoRound = (t : Table) → IsTable t → (i turns : ℕ) → plane t (i + length t.planes * turns) ≡ plane t i + 360000000 * turns

-- both ends are the same numbers
pub record AreSame (a b : Interval) : Type 0 where
  pub lower : a.lo ≈ᶠ b.lo
  pub upper : a.hi ≈ᶠ b.hi

-- whole turns later there is the same intensity
abbrev pub IntensityGoesRound : Type 0
IntensityGoesRound = (t : Table) → IsTable t → (turns : ℕ) (x z y : Fraction) → z ≈ᶠ (x +ᶠ whole (360 * turns)) → AreSame (bilinear t z y) (bilinear t x y)

-- wider brackets have a wider hull, where the narrower bracket of C lies in the wider one up to whole turns of either
abbrev pub HullGrows : Type 0
HullGrows = (t : Table) → IsTable t → (m n : ℕ) (c g d h : Interval) → InOrder c → InOrder g →
    LiesIn (turned m c) (turned n d) → LiesIn g h → LiesIn (hull t c g) (hull t d h)

-- the table p stands for the exact table t: it has the same planes and gammas, and each of its intensities is the exact one
-- rounded down and up by at most a tick
pub record StandsFor (p t : Table) : Type 0 where
  pub planes : p.planes ≡ t.planes
  pub gammas : p.gammas ≡ t.gammas
  pub all_values : length p.values ≡ length t.values
  pub exact : (i j : ℕ) → (value t i j).lo ≈ᶠ (value t i j).hi
  pub low : (i j : ℕ) → (value p i j).lo ≤ᶠ (value t i j).lo
  pub low_near : (i j : ℕ) → (value t i j).lo ≤ᶠ ((value p i j).lo +ᶠ ticks 1)
  pub high : (i j : ℕ) → (value t i j).hi ≤ᶠ (value p i j).hi
  pub high_near : (i j : ℕ) → (value p i j).hi ≤ᶠ ((value t i j).hi +ᶠ ticks 1)

-- brackets of C that have a direction in common, the one after m turns and the other after n
abbrev pub MeetTurned : ℕ → ℕ → Interval → Interval → Type 0
MeetTurned m n c d = Meets (turned m c) (turned n d)

-- brackets that meet have hulls that meet, of a table and of the exact table that it stands for
abbrev pub HullsMeet : Type 0
HullsMeet = (p t : Table) → IsTable p → StandsFor p t → (m n : ℕ) (c g d h : Interval) →
    InOrder c → InOrder g → InOrder d → InOrder h → MeetTurned m n c d → Meets g h → Meets (hull p c g) (hull t d h)

-- a bracket of C moved outward by w, a turn later so that nothing is cut off at 0
abbrev pub loose_c : Fraction → Interval → Interval
loose_c w c = record { lo = (c.lo +ᶠ whole 360) -ᶠ w; hi = (c.hi +ᶠ whole 360) +ᶠ w }

-- a bracket of gamma moved outward by w, within 0 to 180
abbrev pub loose_gamma : Fraction → Interval → Interval
loose_gamma w g = record { lo = g.lo -ᶠ w; hi = lesser (g.hi +ᶠ w) (whole 180) }

-- the hull over brackets at most w wide lies within a tick of the exact table's hull over brackets that they meet, moved outward by w
abbrev pub HullsNear : Type 0
HullsNear = (p t : Table) → IsTable p → StandsFor p t → (w : Fraction) (m n : ℕ) (c g d h : Interval) →
    InOrder c → InOrder g → w ≤ᶠ whole 360 → c.hi ≤ᶠ (c.lo +ᶠ w) → g.hi ≤ᶠ (g.lo +ᶠ w) → g.hi ≤ᶠ whole 180 →
    MeetTurned m n c d → Meets g h → LiesIn (hull p c g) (outward (ticks 1) (hull t (loose_c w d) (loose_gamma w h)))
