-- The table of a room's lamps, by their numbers.
use Rattle.std.specs.Prelude.{ℕ, ◌==◌, if◌then◌else◌, List, [], ◌∷◌, ◌++◌, length, codes, decimal, slice_index_or}
use Rattle.decimal_text.specs.Decimals.{thousandths}
use Rattle.plan_drawing.specs.Metres.{metres}
use Rattle.plan_drawing.specs.Pieces.{first, joined}
use Rattle.room_layout.specs.declared.geometry.Face.{Face}
use Rattle.room_layout.specs.declared.geometry.Face.TheVariants.{Down, Up, East, West, North, South}
use Rattle.room_layout.specs.declared.geometry.Size.{Size}
use Rattle.room_layout.specs.declared.room.FileUse.{FileUse}
use Rattle.room_layout.specs.declared.room.Lamp.{Lamp}
use Rattle.room_layout.specs.declared.room.Room.{Room}
use Rattle.room_layout.specs.declared.room.Shine.{Shine}
use Rattle.room_layout.specs.declared.room.Shine.TheVariants.{Even, File}
use Rattle.report_page.specs.Escaped.{escaped}
use Rattle.report_page.specs.Fixed.{fixed, table_end}

abbrev pub no_file : FileUse
no_file = record { name = []; set = 0 }

abbrev pub file_at : Room → ℕ → FileUse
file_at room k = slice_index_or room.files k no_file

-- what stands for a lamp past the last one
abbrev pub no_lamp : Lamp
no_lamp = record {
  at = record { x = 0; y = 0; z = 0 };
  shine = Even 0;
  turn = 0;
  maintenance = 0;
  size_x = 0;
  size_y = 0;
  split_x = 1;
  split_y = 1;
  aim = Down;
}

abbrev pub lamp_at : Room → ℕ → Lamp
lamp_at room k = slice_index_or room.lamps k no_lamp

-- ---- the cells of a lamp

-- a place, along x, y and z
abbrev pub place_cells : Size → List ℕ
place_cells at = joined (codes "<td>" ∷ metres at.x ∷ codes "</td><td>" ∷ metres at.y ∷ codes "</td><td>" ∷ metres at.z ∷ codes "</td>" ∷ [])

-- an intensity in candela, or a file and which of its lamp sets
unfoldable pub shine_text : Room → Shine → List ℕ
shine_text room (Even candela) = decimal candela ++ codes " cd in all directions"
shine_text room (File k) = escaped (file_at room k).name ++ (codes ", set " ++ decimal (file_at room k).set)

-- the way in which gamma 0 leads
abbrev pub aim_text : Face → List ℕ
aim_text Down = codes "-z, down"
aim_text Up = codes "+z, up"
aim_text East = codes "+x"
aim_text West = codes "-x"
aim_text North = codes "+y"
aim_text South = codes "-y"

-- a rectangle in metres, and into how many parts it is cut
abbrev pub size_text : ℕ → ℕ → List ℕ
size_text a b = joined (metres a ∷ codes " by " ∷ metres b ∷ [])

abbrev pub parts_text : ℕ → ℕ → List ℕ
parts_text a b = joined (decimal a ∷ codes " by " ∷ decimal b ∷ [])

-- how a lamp is put up: aim, turn in degrees, size, parts, and maintenance as a share of a new lamp's light
abbrev pub fitting_cells : Lamp → List ℕ
fitting_cells lamp = joined
    (codes "<td>" ∷ aim_text lamp.aim ∷ codes "</td><td>" ∷ decimal lamp.turn ∷ codes "&#176;</td><td>" ∷ size_text lamp.size_x lamp.size_y ∷ codes "</td><td>"
    ∷ parts_text lamp.split_x lamp.split_y ∷ codes "</td><td>" ∷ thousandths lamp.maintenance ∷ codes "</td>" ∷ [])

-- ---- the table

-- the row of a lamp begins with its number and its place
unfoldable pub lamp_begin : ℕ → Size → List ℕ
lamp_begin k at = joined (codes "<tr><td>" ∷ decimal k ∷ codes "</td>" ∷ place_cells at ∷ codes "<td class='name'>" ∷ [])

-- and ends with how it is put up
unfoldable pub lamp_end : Lamp → List ℕ
lamp_end lamp = joined (codes "</td>" ∷ fitting_cells lamp ∷ codes "</tr>\n" ∷ [])

-- between the two it says how the lamp shines
unfoldable pub row_of_lamp : Room → ℕ → Lamp → List ℕ
row_of_lamp room k lamp = lamp_begin k lamp.at ++ shine_text room lamp.shine ++ lamp_end lamp

abbrev pub lamp_row : Room → ℕ → List ℕ
lamp_row room k = row_of_lamp room k (lamp_at room k)

-- a row for each lamp
unfoldable pub lamp_table : Room → List ℕ
lamp_table room =
    fixed (codes "<h2>Lamps</h2>\n<div class='scroll'><table>\n<thead><tr><th>Lamp</th><th>x, m</th><th>y, m</th><th>z, m</th><th>Shines by</th><th>Aim</th><th>Turn</th><th>Size, m</th><th>Parts</th><th>Maintenance</th></tr></thead>\n<tbody>\n")
    ++ first (length room.lamps) (lamp_row room) ++ table_end

-- nothing where there is none
abbrev pub lamps_told : Room → List ℕ
lamps_told room = if length room.lamps == 0 then [] else lamp_table room
