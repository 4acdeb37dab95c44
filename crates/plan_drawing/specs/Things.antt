-- The boxes and the lamps on the plan of the things.
use Rattle.std.specs.Prelude.{ℕ, ◌+◌, ◌-◌, ◌*◌, ◌/◌, ◌==◌, List, [], ◌∷◌, ◌++◌, codes, decimal, length, nat_lt, if◌then◌else◌, slice_index_or}
use Rattle.room_layout.specs.Across.{extent_of}
use Rattle.room_layout.specs.declared.geometry.Size.{Size}
use Rattle.room_layout.specs.declared.geometry.Face.{Face}
use Rattle.room_layout.specs.declared.geometry.Face.TheVariants.{Up, Down, East, West, North, South}
use Rattle.room_layout.specs.declared.room.Block.{Block}
use Rattle.room_layout.specs.declared.room.Lamp.{Lamp}
use Rattle.room_layout.specs.declared.room.Shine.TheVariants.{Even}
use Rattle.room_layout.specs.declared.room.Room.{Room}
use Rattle.plan_drawing.specs.Light.{no_box}
use Rattle.plan_drawing.specs.Metres.{area_text, metres}
use Rattle.plan_drawing.specs.Pieces.{joined}
use Rattle.plan_drawing.specs.Sizes.{box_area, label_size, lamp_radius, task_area, unit}
use Rattle.plan_drawing.specs.declared.metres.Area.{Area}

-- ---- boxes

-- box k, between these heights
unfoldable pub box_drawn : ℕ → Area → ℕ → ℕ → List ℕ
box_drawn k area low high = joined
    (codes "<rect class='box' " ∷ area_text area ∷ codes "><title>box " ∷ decimal k ∷ codes ": from " ∷ metres low ∷ codes " to " ∷ metres high
    ∷ codes " m above the floor</title></rect>\n" ∷ [])

-- the height of its top in its lower left corner, along its longer side: a box that is narrower than long has it turned
abbrev pub label_place : ℕ → Area → List ℕ
label_place size a =
    if nat_lt a.width a.height
    then joined (codes "translate(" ∷ decimal (a.x + size) ∷ codes " " ∷ decimal (a.y + a.height - size / 3) ∷ codes ") rotate(-90)" ∷ [])
    else joined (codes "translate(" ∷ decimal (a.x + size / 3) ∷ codes " " ∷ decimal (a.y + a.height - size / 3) ∷ codes ")" ∷ [])

unfoldable pub box_label : ℕ → Area → ℕ → List ℕ
box_label size area high = joined
    (codes "<text class='boxname' font-size='" ∷ decimal size ∷ codes "' transform='" ∷ label_place size area ∷ codes "'>" ∷ metres high ∷ codes "</text>\n" ∷ [])

abbrev pub drawn_box : Room → ℕ → Block → List ℕ
drawn_box room k b =
    let area = box_area room.size.y b in box_drawn k area b.lo.z b.hi.z ++ box_label (label_size (unit room.size) area) area b.hi.z

unfoldable pub thing : Room → ℕ → List ℕ
thing room k = drawn_box room k (slice_index_or room.blocks k no_box)

-- the outline of the task area
unfoldable pub task_outline : Room → List ℕ
task_outline room = joined (codes "<rect class='task' " ∷ area_text (task_area room) ∷ codes "/>\n" ∷ [])

-- ---- lamps

-- a face as the layout's files write it
abbrev pub face_name : Face → List ℕ
face_name Up = codes "+z"
face_name Down = codes "-z"
face_name East = codes "+x"
face_name West = codes "-x"
face_name North = codes "+y"
face_name South = codes "-y"

abbrev pub place_name : Size → List ℕ
place_name p = joined (metres p.x ∷ codes ", " ∷ metres p.y ∷ codes " m, " ∷ metres p.z ∷ codes " m above the floor" ∷ [])

-- a lamp's number, its place, where it is aimed and by how many degrees it is turned
abbrev pub lamp_title : ℕ → Lamp → List ℕ
lamp_title k l = joined
    (codes "lamp " ∷ decimal k ∷ codes " at " ∷ place_name l.at ∷ codes ", aim " ∷ face_name l.aim ∷ codes ", turn " ∷ decimal l.turn ∷ [])

-- a lamp's place in a room that is so wide along y: what is drawn of the lamp is drawn from there
unfoldable pub lamp_head : ℕ → ℕ → Lamp → List ℕ
lamp_head edge k l = joined
    (codes "<g transform='translate(" ∷ decimal l.at.x ∷ codes " " ∷ decimal (edge - l.at.y) ∷ codes ")'><title>" ∷ lamp_title k l ∷ codes "</title>\n" ∷ [])

-- its rectangle as it is seen from above, so wide and so high: a line where the lamp is aimed along the floor, and nothing where it has no size
unfoldable pub shine_drawn : ℕ → ℕ → List ℕ
shine_drawn width height = joined
    (codes "<path class='shine' d='M-" ∷ decimal (width / 2) ∷ codes "-" ∷ decimal (height / 2) ∷ codes "h" ∷ decimal width ∷ codes "v" ∷ decimal height
    ∷ codes "h-" ∷ decimal width ∷ codes "z'/>\n" ∷ [])

-- a line out of a circle with this radius, turned by so many degrees as a clock goes
unfoldable pub turn_mark : ℕ → ℕ → List ℕ
turn_mark radius angle = joined
    (codes "<path class='aim' transform='rotate(" ∷ decimal angle ∷ codes ")' d='M0 0H" ∷ decimal (2 * radius) ∷ codes "'/>\n" ∷ [])

-- the same as an arrow: the line, and a head with edges that reach back by a third of the radius
unfoldable pub arrow_line : ℕ → ℕ → List ℕ
arrow_line radius angle = joined
    (codes "<path class='aim' transform='rotate(" ∷ decimal angle ∷ codes ")' d='M0 0H" ∷ decimal (2 * radius) ∷ codes "l" ∷ [])

unfoldable pub arrow_head : ℕ → List ℕ
arrow_head a = joined
    (codes "-" ∷ decimal a ∷ codes "-" ∷ decimal a ∷ codes "m" ∷ decimal a ∷ codes " " ∷ decimal a ∷ codes "l-" ∷ decimal a ∷ codes " " ∷ decimal a
    ∷ codes "'/>\n" ∷ [])

abbrev pub arrow : ℕ → ℕ → List ℕ
arrow radius angle = arrow_line radius angle ++ arrow_head (radius / 3)

-- a second circle round the first
unfoldable pub ring : ℕ → List ℕ
ring radius = joined (codes "<circle class='ring' r='" ∷ decimal (5 * radius / 4) ∷ codes "'/>\n" ∷ [])

-- a line to the half-plane C 0, where the lamp is turned: from x towards y for a lamp that hangs, and the other way for one that shines upward
abbrev pub hanging_mark : ℕ → ℕ → List ℕ
hanging_mark radius turn = if turn == 0 then [] else turn_mark radius (360 - turn)

abbrev pub upward_mark : ℕ → ℕ → List ℕ
upward_mark radius turn = ring radius ++ (if turn == 0 then [] else turn_mark radius turn)

-- what tells an aim and a turn from those of a lamp that hangs without a turn
abbrev pub aim_mark : ℕ → ℕ → Face → List ℕ
aim_mark radius turn Down = hanging_mark radius turn
aim_mark radius turn Up = upward_mark radius turn
aim_mark radius turn East = arrow radius 0
aim_mark radius turn South = arrow radius 90
aim_mark radius turn West = arrow radius 180
aim_mark radius turn North = arrow radius 270

unfoldable pub lamp_circle : ℕ → ℕ → List ℕ
lamp_circle radius k = joined
    (codes "<circle class='lamp' r='" ∷ decimal radius ∷ codes "'/><text class='lampname' font-size='" ∷ decimal radius ∷ codes "' y='" ∷ decimal (radius / 3)
    ∷ codes "'>" ∷ decimal k ∷ codes "</text></g>\n" ∷ [])

abbrev pub drawn_lamp : ℕ → ℕ → ℕ → Lamp → List ℕ
drawn_lamp edge radius k l = joined
    (lamp_head edge k l ∷ shine_drawn (extent_of l).x (extent_of l).y ∷ aim_mark radius l.turn l.aim ∷ lamp_circle radius k ∷ [])

-- what stands past the end of a list of lamps
abbrev pub no_lamp : Lamp
no_lamp = record { at = record { x = 0; y = 0; z = 0 }; shine = Even 0; turn = 0; maintenance = 0; size_x = 0; size_y = 0; split_x = 0; split_y = 0; aim = Up }

unfoldable pub lamp : Room → ℕ → List ℕ
lamp room k = drawn_lamp room.size.y (lamp_radius room.size (length room.lamps)) k (slice_index_or room.lamps k no_lamp)
