-- A lamp's rectangle for each aim, computed.
use Rattle.std.specs.Prelude.{◌≡◌, refl}
use Rattle.room_layout.specs.Across.{across}
use Rattle.room_layout.specs.declared.geometry.Face.TheVariants.{Up, Down, East, West, North, South}

-- 600 along the first axis across the aim and 300 along the second, nothing along the aim

aimed_down : across Down 600 300 0 ≡ record { x = 600; y = 300; z = 0 }
unfolding across
aimed_down = refl

aimed_up : across Up 600 300 0 ≡ record { x = 600; y = 300; z = 0 }
unfolding across
aimed_up = refl

aimed_along_x : across East 600 300 0 ≡ record { x = 0; y = 600; z = 300 }
unfolding across
aimed_along_x = refl

aimed_against_x : across West 600 300 0 ≡ record { x = 0; y = 600; z = 300 }
unfolding across
aimed_against_x = refl

aimed_along_y : across North 600 300 0 ≡ record { x = 600; y = 0; z = 300 }
unfolding across
aimed_along_y = refl

aimed_against_y : across South 600 300 0 ≡ record { x = 600; y = 0; z = 300 }
unfolding across
aimed_against_y = refl
