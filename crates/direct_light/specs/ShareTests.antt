-- The light of one point of a lamp and its loose form, computed. The values are worked out by hand.
use Rattle.std.specs.Prelude.{ℕ, ◌≡◌, true, false, [], ◌∷◌, refl}
use Rattle.fx_base.specs.Fraction.{ratio, whole, half_power, ◌≈ᶠ◌, ◌+ᶠ◌, ◌-ᶠ◌, ◌*ᶠ◌, ◌/ᶠ◌}
use Rattle.fx_base.specs.Interval.{exact}
use Rattle.fx_base.specs.Root.{halved, root}
use Rattle.fx_base.specs.Search.{root_digits, whole_root}
use Rattle.room_layout.specs.Place.{Place, in_front, squared_distance}
use Rattle.room_layout.specs.declared.geometry.Face.TheVariants.{Up, Down}
use Rattle.room_layout.specs.declared.room.Lamp.{Lamp}
use Rattle.room_layout.specs.declared.room.Shine.TheVariants.{Even}
use Rattle.photo_table.specs.Table.{Table}
use Rattle.direct_light.specs.Shares.{falloff, share_of, loosened, no_table, table_at, share, loose_intensity, loose_share}

-- fractions, roots, places and shares
unfoldable of_shares : Unit {0}
unfolding ratio whole half_power ◌+ᶠ◌ ◌-ᶠ◌ ◌*ᶠ◌ ◌/ᶠ◌ halved root root_digits whole_root in_front squared_distance falloff share_of loosened
of_shares = tt

abbrev lamp_of : ℕ → Lamp
lamp_of candela = record { at = record { x = 1500; y = 1500; z = 3000 }; shine = Even candela; turn = 0; maintenance = 1000; size_x = 0; size_y = 0; split_x = 1; split_y = 1; aim = Down }

abbrev floor : Place
floor = record { x = 3000; y = 3000; z = 0 }

abbrev overhead : Place
overhead = record { x = 3000; y = 3000; z = 6000 }

-- ---- the light of one point

-- 5,000 cd at three quarters, 3 m away and straight above: 3750 / 9
kept_light : falloff 750 1 6000 36000000 (whole 5000) (whole 6000) ≈ᶠ ratio 1250 3
unfolding of_shares
kept_light = record { cross = refl }

-- one of two parts has half of it
half_light : falloff 1000 2 6000 36000000 (whole 5000) (whole 6000) ≈ᶠ ratio 2500 9
unfolding of_shares
half_light = record { cross = refl }

-- at half of the cosine, half of it: 3,000 half mm above the plane and 6,000 away
slanted_light : falloff 1000 1 3000 36000000 (whole 5000) (whole 6000) ≈ᶠ ratio 2500 9
unfolding of_shares
slanted_light = record { cross = refl }

-- 36,000,000 is a square: the upper end, which has the root's lower end, is exact, and the lower end has 6,001 in place of 6,000
share_above : (share 0 [] (lamp_of 5000) overhead floor Up true).hi ≈ᶠ ratio 5000 9
unfolding of_shares
share_above = record { cross = refl }

share_below : (share 0 [] (lamp_of 5000) overhead floor Up true).lo ≈ᶠ (ratio 5000 9 *ᶠ ratio 6000 6001)
unfolding of_shares
share_below = record { cross = refl }

-- a lamp kept to a half, of two parts, has a quarter of it
abbrev quarter_lamp : Lamp
quarter_lamp = record (lamp_of 5000) { maintenance = 500; split_y = 2 }

share_kept : (share 0 [] quarter_lamp overhead floor Up true).hi ≈ᶠ ratio 1250 9
unfolding of_shares
share_kept = record { cross = refl }

-- a plane that faces down has none of a lamp above it
share_behind : share 0 [] (lamp_of 5000) overhead floor Down true ≡ exact (whole 0)
unfolding share_of in_front
share_behind = refl

-- nor has a lamp in the plane itself
share_in_plane : share 0 [] (lamp_of 5000) (record { x = 0; y = 0; z = 0 }) floor Up true ≡ exact (whole 0)
unfolding share_of in_front
share_in_plane = refl

share_hidden : share 0 [] (lamp_of 5000) overhead floor Up false ≡ exact (whole 0)
unfolding share_of
share_hidden = refl

-- ---- the table of a lamp's file, by its number

abbrev one_plane : Table
one_plane = record { planes = 0 ∷ []; gammas = 0 ∷ 180000000 ∷ []; values = exact (whole 7) ∷ exact (whole 7) ∷ [] }

second_table : table_at (no_table ∷ one_plane ∷ []) 1 ≡ one_plane
second_table = refl

-- ---- its loose form

loose_candela : (loose_intensity 0 [] (lamp_of 1) overhead floor).hi ≈ᶠ ratio 1073741825 1073741824
unfolding of_shares
loose_candela = record { cross = refl }

loosened_up : (loosened (exact (whole 16777216))).hi ≈ᶠ (whole 16777217 +ᶠ ratio 1 1048576)
unfolding of_shares
loosened_up = record { cross = refl }

loosened_down : (loosened (exact (whole 16777216))).lo ≈ᶠ (whole 16777215 -ᶠ ratio 1 1048576)
unfolding of_shares
loosened_down = record { cross = refl }

-- nothing is kept at nothing below, and may be 2^-20 lux above
nothing_below : (loosened (exact (whole 0))).lo.num ≡ 0
unfolding of_shares
nothing_below = refl

nothing_above : (loosened (exact (whole 0))).hi ≈ᶠ ratio 1 1048576
unfolding of_shares
nothing_above = record { cross = refl }

-- a share that is hidden is loose too
loose_hidden : (loose_share 0 [] (lamp_of 5000) overhead floor Up false).hi ≈ᶠ ratio 1 1048576
unfolding of_shares
loose_hidden = record { cross = refl }
