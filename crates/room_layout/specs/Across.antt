-- The rectangle from which a lamp shines: it lies across the lamp's aim, along the other two axes.
use Rattle.std.specs.Prelude.{ℕ}
use Rattle.room_layout.specs.declared.geometry.Size.{Size}
use Rattle.room_layout.specs.declared.geometry.Face.{Face}
use Rattle.room_layout.specs.declared.geometry.Face.TheVariants.{Up, Down, East, West, North, South}
use Rattle.room_layout.specs.declared.room.Lamp.{Lamp}

-- along x, y and z: the first two numbers along the two axes across the aim, in the order x, y, z, and the last along the aim
unfoldable pub across : Face → ℕ → ℕ → ℕ → Size
across Up first second along = record { x = first; y = second; z = along }
across Down first second along = record { x = first; y = second; z = along }
across East first second along = record { x = along; y = first; z = second }
across West first second along = record { x = along; y = first; z = second }
across North first second along = record { x = first; y = along; z = second }
across South first second along = record { x = first; y = along; z = second }

-- how far the lamp's rectangle reaches along each axis, in millimetres: not at all along its aim
abbrev pub extent_of : Lamp → Size
extent_of l = across l.aim l.size_x l.size_y 0

-- into how many parts it is cut along each axis
abbrev pub parts_of : Lamp → Size
parts_of l = across l.aim l.split_x l.split_y 1
