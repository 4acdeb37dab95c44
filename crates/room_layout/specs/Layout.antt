-- The room that a layout text describes, or the first fault in the order of checking. One rule for each key.
use Rattle.std.specs.Prelude.{ℕ, ◌+◌, ◌*◌, ◌==◌, Bool, not, ◌&&◌, nat_le, nat_lt, if◌then◌else◌, List, [], ◌∷◌, ◌++◌, length, position, Option, Some, None, option_map, slice_index, Result, Ok, Err, codes}
use Rattle.std.specs.Str.{is_utf8, bytes_eq}
use Rattle.toml.specs.Data.{Data, Members, get_member, as_str}
use Rattle.toml.specs.Parse.{parse_document}
use Rattle.room_layout.specs.Checks.{◌>>=◌, demand, spot, required, optional, where_given, kind, number, numbers, name_text, table_with, elements, has_only}
use Rattle.room_layout.specs.declared.fault.Key.TheVariants as key
use Rattle.room_layout.specs.declared.fault.Spot.{Spot}
use Rattle.room_layout.specs.declared.fault.RoomFault.{RoomFault}
use Rattle.room_layout.specs.declared.fault.RoomFault.TheVariants as fault
use Rattle.room_layout.specs.declared.geometry.Size.{Size}
use Rattle.room_layout.specs.declared.geometry.Face.{Face}
use Rattle.room_layout.specs.declared.geometry.Face.TheVariants.{Up, Down, East, West, North, South}
use Rattle.room_layout.specs.declared.room.Reflects.{Reflects}
use Rattle.room_layout.specs.declared.room.Block.{Block}
use Rattle.room_layout.specs.declared.room.Lamp.{Lamp}
use Rattle.room_layout.specs.declared.room.Shine.{Shine}
use Rattle.room_layout.specs.declared.room.Shine.TheVariants.{Even, File}
use Rattle.room_layout.specs.declared.room.FileUse.{FileUse}
use Rattle.room_layout.specs.declared.room.TaskGrid.{TaskGrid}
use Rattle.room_layout.specs.declared.room.Limits.{Limits}
use Rattle.room_layout.specs.declared.room.Room.{Room}
use Rattle.room_layout.specs.declared.version.Version.{Version}
use Rattle.room_layout.specs.declared.version.Version.TheVariants.{One, Two}
use Rattle.room_layout.specs.Across.{extent_of}
use Rattle.room_layout.specs.declared.parts.Shell.{Shell}
use Rattle.room_layout.specs.declared.parts.Source.{Source as HeldSource}
use Rattle.room_layout.specs.declared.parts.Fitting.{Fitting}
use Rattle.room_layout.specs.declared.parts.Lit.{Lit}

-- ---- versions

-- the longest edge of a room in millimetres, and so the greatest coordinate
abbrev pub longest_edge : Version → ℕ
longest_edge One = 50000
longest_edge Two = 100000

-- ---- sizes

abbrev pub size_from : List ℕ → Size
size_from ns = record { x = slice_index ns 0; y = slice_index ns 1; z = slice_index ns 2 }

-- the first passes the second on no axis
abbrev pub fits_in : Size → Size → Bool
fits_in a b = nat_le a.x b.x && nat_le a.y b.y && nat_le a.z b.z

-- the first is above the second on every axis
abbrev pub is_above : Size → Size → Bool
is_above a b = nat_lt b.x a.x && nat_lt b.y a.y && nat_lt b.z a.z

-- ---- the room's own table

abbrev pub reflects_from : List ℕ → Reflects
reflects_from ns = record { floor = slice_index ns 0; ceiling = slice_index ns 1; x0 = slice_index ns 2; x1 = slice_index ns 3; y0 = slice_index ns 4; y1 = slice_index ns 5 }

abbrev pub room_keys : List (List ℕ)
room_keys = codes "size" ∷ codes "reflect" ∷ codes "patch" ∷ []

unfoldable pub shell_of : Version → Members → Result Shell RoomFault
shell_of version document = do
  room ← required (spot key.Room 0) (table_with room_keys) (get_member (codes "room") document)
  size ← required (spot key.RoomSize 0) (numbers 3 500 (longest_edge version)) (get_member (codes "size") room)
  reflect ← optional (0 ∷ 0 ∷ 0 ∷ 0 ∷ 0 ∷ 0 ∷ []) (spot key.RoomReflect 0) (numbers 6 0 950) (get_member (codes "reflect") room)
  patch ← optional 600 (spot key.RoomPatch 0) (number 50 50000) (get_member (codes "patch") room)
  Ok (record { version = version; size = size_from size; reflect = reflects_from reflect; patch = patch })

-- ---- boxes

abbrev pub box_keys : List (List ℕ)
box_keys = codes "lo" ∷ codes "hi" ∷ codes "reflect" ∷ []

abbrev pub block_from : List ℕ → List ℕ → ℕ → Block
block_from lo hi reflect = record { lo = size_from lo; hi = size_from hi; reflect = reflect }

-- box i of such a room
unfoldable pub block_of : Shell → ℕ → Data → Result Block RoomFault
block_of room i d = do
  box ← table_with box_keys (spot key.Box i) d
  lo ← required (spot key.BoxLo i) (numbers 3 0 (longest_edge room.version)) (get_member (codes "lo") box)
  hi ← required (spot key.BoxHi i) (numbers 3 0 (longest_edge room.version)) (get_member (codes "hi") box)
  reflect ← optional 0 (spot key.BoxReflect i) (number 0 950) (get_member (codes "reflect") box)
  let block = block_from lo hi reflect
  above ← demand (is_above block.hi block.lo) (fault.Range (spot key.BoxHi i))
  inside ← demand (fits_in block.hi room.size) (fault.Outside (spot key.Box i))
  Ok block

-- the boxes from box i on
abbrev pub blocks_from : Shell → ℕ → List Data → Result (List Block) RoomFault
blocks_from room i [] = Ok []
blocks_from room i (d ∷ ds) = block_of room i d >>= λ b. blocks_from room (i + 1) ds >>= λ bs. Ok (b ∷ bs)

unfoldable pub blocks_of : Shell → Members → Result (List Block) RoomFault
blocks_of room document = optional [] (spot key.Box 0) (elements 64) (get_member (codes "box") document) >>= blocks_from room 0

-- ---- lamps

abbrev pub is_same_use : FileUse → FileUse → Bool
is_same_use a b = bytes_eq a.name b.name && (a.set == b.set)

-- the index of a use whose place in the list is known, and the list with it
abbrev pub placed_at : FileUse → List FileUse → Option ℕ → ℕ × List FileUse
placed_at f files (Some k) = (k, files)
placed_at f files None = (length files, files ++ f ∷ [])

abbrev pub placed : FileUse → List FileUse → ℕ × List FileUse
placed f files = placed_at f files (position (is_same_use f) files)

-- how lamp i shines, and the files after it
unfoldable pub shine_of : ℕ → List FileUse → ℕ → Option ℕ → Option (List ℕ) → Result (Shine × List FileUse) RoomFault
shine_of i files set None None = Err (fault.Missing (spot key.LampCandela i))
shine_of i files set (Some candela) (Some name) = Err (fault.Kind (spot key.LampFile i))
shine_of i files set (Some candela) None = Ok (Even candela, files)
shine_of i files set None (Some name) = let (index, more) = placed (record { name = name; set = set }) files in Ok (File index, more)

-- half of the size on either side of the place is within the edge
abbrev pub has_margin : ℕ → ℕ → ℕ → Bool
has_margin at size edge = nat_le size (2 * at) && nat_le (2 * at + size) (2 * edge)

-- half of the extent on either side of the place is within the room along every axis
abbrev pub has_margins : Size → Size → Size → Bool
has_margins at extent room = has_margin at.x extent.x room.x && has_margin at.y extent.y room.y && has_margin at.z extent.z room.z

-- the lamp's place is within the room, and its rectangle too
abbrev pub is_lamp_inside : Lamp → Size → Bool
is_lamp_inside l room = fits_in l.at room && has_margins l.at (extent_of l) room

abbrev pub lamp_from : List ℕ → Shine → Fitting → Lamp
lamp_from at shine f = record {
  at = size_from at;
  shine = shine;
  turn = f.turn;
  maintenance = f.maintenance;
  size_x = f.size_x;
  size_y = f.size_y;
  split_x = f.split_x;
  split_y = f.split_y;
  aim = f.aim;
}

-- lamp i, where it is within the room and brings no seventeenth file
unfoldable pub checked_lamp : Shell → ℕ → Lamp → List FileUse → Result (Lamp × List FileUse) RoomFault
checked_lamp room i lamp files = do
  inside ← demand (is_lamp_inside lamp room.size) (fault.Outside (spot key.Lamp i))
  few ← demand (nat_le (length files) 16) (fault.TooMany (spot key.LampFile i))
  Ok (lamp, files)

-- version 1 knows no aim
abbrev pub lamp_keys : Version → List (List ℕ)
lamp_keys One = codes "at" ∷ codes "candela" ∷ codes "file" ∷ codes "set" ∷ codes "turn" ∷ codes "maintenance" ∷ codes "size" ∷ codes "split" ∷ []
lamp_keys Two = codes "at" ∷ codes "candela" ∷ codes "file" ∷ codes "set" ∷ codes "turn" ∷ codes "maintenance" ∷ codes "size" ∷ codes "split" ∷ codes "aim" ∷ []

-- the face whose normal is the aim of that name
abbrev pub aim_named : List ℕ → Option Face
aim_named name =
    if bytes_eq name (codes "-z") then Some Down
    else if bytes_eq name (codes "+z") then Some Up
    else if bytes_eq name (codes "-x") then Some West
    else if bytes_eq name (codes "+x") then Some East
    else if bytes_eq name (codes "-y") then Some South
    else if bytes_eq name (codes "+y") then Some North
    else None

abbrev pub known_aim : Spot → Option Face → Result Face RoomFault
known_aim s None = Err (fault.Range s)
known_aim s (Some aim) = Ok aim

-- a text that names an aim
abbrev pub aim_text : Spot → Data → Result Face RoomFault
aim_text s d = kind s (as_str d) >>= λ name. known_aim s (aim_named name)

-- what the keys of lamp i say of its light: its candela, its file, and which set of the file
pub record Source : Type 0 where
  pub candela : Option ℕ
  pub file : Option (List ℕ)
  pub set : ℕ

-- the same, as the program holds it
abbrev pub held_source : HeldSource → Source
held_source s = record { candela = s.candela; file = option_map (λ name. name.now) s.file; set = s.set }

unfoldable pub source_of : ℕ → Members → Result Source RoomFault
source_of i lamp = do
  candela ← where_given (spot key.LampCandela i) (number 0 10000000) (get_member (codes "candela") lamp)
  file ← where_given (spot key.LampFile i) name_text (get_member (codes "file") lamp)
  set ← optional 1 (spot key.LampSet i) (number 1 20) (get_member (codes "set") lamp)
  Ok (record { candela = candela; file = file; set = set })

abbrev pub fitting_from : ℕ → ℕ → List ℕ → List ℕ → Face → Fitting
fitting_from turn maintenance size split aim = record {
  turn = turn;
  maintenance = maintenance;
  size_x = slice_index size 0;
  size_y = slice_index size 1;
  split_x = slice_index split 0;
  split_y = slice_index split 1;
  aim = aim;
}

-- how lamp i is put up
unfoldable pub fitting_of : ℕ → Members → Result Fitting RoomFault
fitting_of i lamp = do
  turn ← optional 0 (spot key.LampTurn i) (number 0 359) (get_member (codes "turn") lamp)
  maintenance ← optional 1000 (spot key.LampMaintenance i) (number 0 1000) (get_member (codes "maintenance") lamp)
  size ← optional (0 ∷ 0 ∷ []) (spot key.LampSize i) (numbers 2 0 5000) (get_member (codes "size") lamp)
  split ← optional (1 ∷ 1 ∷ []) (spot key.LampSplit i) (numbers 2 1 8) (get_member (codes "split") lamp)
  aim ← optional Down (spot key.LampAim i) aim_text (get_member (codes "aim") lamp)
  Ok (fitting_from turn maintenance size split aim)

-- lamp i of such a room where these files are used before it, and the files after it
unfoldable pub lamp_of : Shell → ℕ → List FileUse → Data → Result (Lamp × List FileUse) RoomFault
lamp_of room i files d = do
  lamp ← table_with (lamp_keys room.version) (spot key.Lamp i) d
  at ← required (spot key.LampAt i) (numbers 3 0 (longest_edge room.version)) (get_member (codes "at") lamp)
  source ← source_of i lamp
  fitting ← fitting_of i lamp
  lit ← shine_of i files source.set source.candela source.file
  checked_lamp room i (lamp_from at lit.0 fitting) lit.1

-- the lamps from lamp i on
abbrev pub lamps_from : Shell → ℕ → List FileUse → List Data → Result Lit RoomFault
lamps_from room i files [] = Ok (record { lamps = []; files = files })
lamps_from room i files (d ∷ ds) = lamp_of room i files d >>= λ l. lamps_from room (i + 1) l.1 ds >>= λ r. Ok (record { lamps = l.0 ∷ r.lamps; files = r.files })

unfoldable pub lamps_of : Shell → Members → Result Lit RoomFault
lamps_of room document = optional [] (spot key.Lamp 0) (elements 256) (get_member (codes "lamp") document) >>= lamps_from room 0 []

-- ---- the task

abbrev pub task_keys : List (List ℕ)
task_keys = codes "from" ∷ codes "to" ∷ codes "height" ∷ codes "points" ∷ []

abbrev pub task_from : List ℕ → List ℕ → ℕ → List ℕ → TaskGrid
task_from from to height points = record {
  from_x = slice_index from 0;
  from_y = slice_index from 1;
  to_x = slice_index to 0;
  to_y = slice_index to 1;
  height = height;
  nx = slice_index points 0;
  ny = slice_index points 1;
}

-- the task's far corner is above the near one on both axes
abbrev pub is_rising : TaskGrid → Bool
is_rising t = nat_lt t.from_x t.to_x && nat_lt t.from_y t.to_y

-- neither the far corner nor the height passes the room
abbrev pub is_task_inside : TaskGrid → Size → Bool
is_task_inside t room = nat_le t.to_x room.x && nat_le t.to_y room.y && nat_le t.height room.z

unfoldable pub task_of : Shell → Members → Result TaskGrid RoomFault
task_of room document = do
  task ← required (spot key.Task 0) (table_with task_keys) (get_member (codes "task") document)
  from ← required (spot key.TaskFrom 0) (numbers 2 0 (longest_edge room.version)) (get_member (codes "from") task)
  to ← required (spot key.TaskTo 0) (numbers 2 0 (longest_edge room.version)) (get_member (codes "to") task)
  height ← required (spot key.TaskHeight 0) (number 0 (longest_edge room.version)) (get_member (codes "height") task)
  points ← required (spot key.TaskPoints 0) (numbers 2 1 1024) (get_member (codes "points") task)
  let grid = task_from from to height points
  above ← demand (is_rising grid) (fault.Range (spot key.TaskTo 0))
  inside ← demand (is_task_inside grid room.size) (fault.Outside (spot key.Task 0))
  few ← demand (nat_le (grid.nx * grid.ny) 1024) (fault.TooMany (spot key.TaskPoints 0))
  Ok grid

-- ---- limits

abbrev pub limits_keys : List (List ℕ)
limits_keys = codes "average_millilux" ∷ codes "uniformity_permille" ∷ []

-- the limits that a table asks for
unfoldable pub limits_in : Spot → Data → Result Limits RoomFault
limits_in s d = do
  limits ← table_with limits_keys s d
  average ← where_given (spot key.LimitsAverageMillilux 0) (number 0 1000000000) (get_member (codes "average_millilux") limits)
  uniformity ← where_given (spot key.LimitsUniformityPermille 0) (number 0 1000) (get_member (codes "uniformity_permille") limits)
  Ok (record { average = average; uniformity = uniformity })

unfoldable pub limits_of : Members → Result Limits RoomFault
limits_of document = optional (record { average = None; uniformity = None }) (spot key.Limits 0) limits_in (get_member (codes "limits") document)

-- ---- the document

-- anything but the integers 1 and 2 is the fault Version
abbrev pub version_from : Result ℕ RoomFault → Result Version RoomFault
version_from (Ok n) = Ok (if n == 1 then One else Two)
version_from (Err e) = Err fault.Version

unfoldable pub version_of : Members → Result Version RoomFault
version_of document = version_from (required (spot key.Version 0) (number 1 2) (get_member (codes "version") document))

abbrev pub document_keys : List (List ℕ)
document_keys = codes "version" ∷ codes "room" ∷ codes "box" ∷ codes "lamp" ∷ codes "task" ∷ codes "limits" ∷ []

unfoldable pub room_of_document : Members → Result Room RoomFault
room_of_document document = do
  version ← version_of document
  known ← demand (has_only document_keys document) (fault.Unknown (spot key.Version 0))
  shell ← shell_of version document
  blocks ← blocks_of shell document
  lit ← lamps_of shell document
  task ← task_of shell document
  limits ← limits_of document
  Ok (record { size = shell.size; reflect = shell.reflect; patch = shell.patch; blocks = blocks; lamps = lit.lamps; files = lit.files; task = task; limits = limits })

-- ---- the text

abbrev pub parsed : Option Members → Result Members RoomFault
parsed None = Err fault.NotToml
parsed (Some document) = Ok document

-- the document of a text, where it is UTF-8 and TOML
unfoldable pub document_of : List ℕ → Result Members RoomFault
document_of bytes = if is_utf8 bytes then parsed (parse_document bytes) else Err fault.NotToml

-- the room of a text
unfoldable pub room_of : List ℕ → Result Room RoomFault
room_of bytes = document_of bytes >>= room_of_document
