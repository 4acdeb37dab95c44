-- Layouts, read.
use Rattle.std.specs.Prelude.{ℕ, ◌≡◌, ◌++◌, ◌∷◌, [], List, map, refl, codes, Ok, Err, Some, None, true, false}
use Rattle.std.specs.List.{range_with_len}
use Rattle.toml.proofs.OnLiterals.{toml_on_literals}
use Rattle.std.specs.Str.{is_utf8, chars}
use Rattle.room_layout.specs.Checks.{spot, is_name}
use Rattle.room_layout.specs.declared.fault.Key.TheVariants as key
use Rattle.room_layout.specs.declared.fault.RoomFault.TheVariants as fault
use Rattle.room_layout.specs.declared.room.FileUse.{FileUse}
use Rattle.room_layout.specs.declared.room.Lamp.{Lamp}
use Rattle.room_layout.specs.declared.room.Room.{Room}
use Rattle.room_layout.specs.declared.room.Shine.TheVariants.{Even, File}
use Rattle.room_layout.specs.declared.geometry.Face.TheVariants.{Down, West}
use Rattle.room_layout.specs.declared.parts.Shell.{Shell}
use Rattle.room_layout.specs.declared.version.Version.TheVariants.{One}
use Rattle.room_layout.specs.Across.{across}
use Rattle.room_layout.specs.Layout.{has_margin, placed, aim_named, document_of, shell_of, block_of, blocks_of, source_of, fitting_of, shine_of, checked_lamp, lamp_of, lamps_of, task_of, limits_in, limits_of, version_of, room_of_document, room_of}

no_version : room_of (codes "room = 1") ≡ Err fault.Version
unfolding is_utf8 chars toml_on_literals room_of document_of room_of_document version_of
no_version = refl

-- a line, and the lines after it
abbrev line : List ℕ → List ℕ → List ℕ
line a b = a ++ 10 ∷ b

abbrev hall_text : List ℕ
hall_text =
    line (codes "version = 1")
    (line (codes "[room]")
    (line (codes "size = [6000, 6000, 3000]")
    (line (codes "[[lamp]]")
    (line (codes "at = [3000, 3000, 3000]")
    (line (codes "candela = 5000")
    (line (codes "[task]")
    (line (codes "from = [0, 0]")
    (line (codes "to = [6000, 6000]")
    (line (codes "height = 0")
    (codes "points = [1, 1]"))))))))))

abbrev hall : Room
hall = record {
  size = record { x = 6000; y = 6000; z = 3000 };
  reflect = record { floor = 0; ceiling = 0; x0 = 0; x1 = 0; y0 = 0; y1 = 0 };
  patch = 600;
  blocks = [];
  lamps = record { at = record { x = 3000; y = 3000; z = 3000 }; shine = Even 5000; turn = 0; maintenance = 1000; size_x = 0; size_y = 0; split_x = 1; split_y = 1; aim = Down } ∷ [];
  files = [];
  task = record { from_x = 0; from_y = 0; to_x = 6000; to_y = 6000; height = 0; nx = 1; ny = 1 };
  limits = record { average = None; uniformity = None };
}

hall_read : room_of hall_text ≡ Ok hall
unfolding is_utf8 chars toml_on_literals room_of document_of room_of_document version_of shell_of blocks_of lamps_of lamp_of source_of fitting_of shine_of checked_lamp across task_of limits_of
hall_read = refl

-- the same hall with its tables and their keys in another order
abbrev turned_hall_text : List ℕ
turned_hall_text =
    line (codes "[[lamp]]")
    (line (codes "candela = 5000")
    (line (codes "at = [3000, 3000, 3000]")
    (line (codes "[task]")
    (line (codes "points = [1, 1]")
    (line (codes "height = 0")
    (line (codes "to = [6000, 6000]")
    (line (codes "from = [0, 0]")
    (line (codes "[room]")
    (codes "size = [6000, 6000, 3000]")))))))))

turned_hall_read : room_of (line (codes "version = 1") turned_hall_text) ≡ Ok hall
unfolding is_utf8 chars toml_on_literals room_of document_of room_of_document version_of shell_of blocks_of lamps_of lamp_of source_of fitting_of shine_of checked_lamp across task_of limits_of
turned_hall_read = refl

-- a lamp outside the room is refused before the missing task
lamp_outside_first : room_of (line (codes "version = 1") (line (codes "[room]") (line (codes "size = [500, 500, 500]") (line (codes "[[lamp]]") (line (codes "at = [501, 0, 0]") (codes "candela = 1")))))) ≡ Err (fault.Outside (spot key.Lamp 0))
unfolding is_utf8 chars toml_on_literals room_of document_of room_of_document version_of shell_of blocks_of lamps_of lamp_of source_of fitting_of shine_of checked_lamp across task_of limits_of
lamp_outside_first = refl

limits_empty : room_of (line (codes "limits = {}") hall_text) ≡ Ok hall
unfolding is_utf8 chars toml_on_literals room_of document_of room_of_document version_of shell_of blocks_of lamps_of lamp_of source_of fitting_of shine_of checked_lamp across task_of limits_in limits_of
limits_empty = refl

-- a room with reflecting surfaces, a longest edge of a patch and a box
abbrev furnished_text : List ℕ
furnished_text =
    line (codes "version = 1")
    (line (codes "[room]")
    (line (codes "size = [6000, 5000, 3000]")
    (line (codes "reflect = [201, 702, 503, 504, 505, 506]")
    (line (codes "patch = 650")
    (line (codes "[[box]]")
    (line (codes "lo = [1, 2, 3]")
    (line (codes "hi = [1004, 505, 706]")
    (line (codes "reflect = 307")
    (line (codes "[task]")
    (line (codes "from = [0, 0]")
    (line (codes "to = [6000, 5000]")
    (line (codes "height = 700")
    (codes "points = [9, 7]")))))))))))))

abbrev furnished : Room
furnished = record {
  size = record { x = 6000; y = 5000; z = 3000 };
  reflect = record { floor = 201; ceiling = 702; x0 = 503; x1 = 504; y0 = 505; y1 = 506 };
  patch = 650;
  blocks = record { lo = record { x = 1; y = 2; z = 3 }; hi = record { x = 1004; y = 505; z = 706 }; reflect = 307 } ∷ [];
  lamps = [];
  files = [];
  task = record { from_x = 0; from_y = 0; to_x = 6000; to_y = 5000; height = 700; nx = 9; ny = 7 };
  limits = record { average = None; uniformity = None };
}

furnished_read : room_of furnished_text ≡ Ok furnished
unfolding is_utf8 chars toml_on_literals room_of document_of room_of_document version_of shell_of blocks_of block_of lamps_of lamp_of source_of fitting_of shine_of checked_lamp across task_of limits_of
furnished_read = refl

-- ---- one fault of each kind

-- a key without a value
no_value : room_of (codes "version =") ≡ Err fault.NotToml
unfolding is_utf8 chars toml_on_literals room_of document_of room_of_document version_of shell_of blocks_of lamps_of lamp_of source_of fitting_of shine_of checked_lamp across task_of limits_of
no_value = refl

-- the version alone
no_room : room_of (codes "version = 1") ≡ Err (fault.Missing (spot key.Room 0))
unfolding is_utf8 chars toml_on_literals room_of document_of room_of_document version_of shell_of blocks_of lamps_of lamp_of source_of fitting_of shine_of checked_lamp across task_of limits_of
no_room = refl

-- an unknown key at the top comes before the room
unknown_key : room_of (line (codes "version = 1") (codes "colour = 1")) ≡ Err (fault.Unknown (spot key.Version 0))
unfolding is_utf8 chars toml_on_literals room_of document_of room_of_document version_of shell_of blocks_of lamps_of lamp_of source_of fitting_of shine_of checked_lamp across task_of limits_of
unknown_key = refl

-- a room that is no table
room_of_a_number : room_of (line (codes "version = 1") (codes "room = 1")) ≡ Err (fault.Kind (spot key.Room 0))
unfolding is_utf8 chars toml_on_literals room_of document_of room_of_document version_of shell_of blocks_of lamps_of lamp_of source_of fitting_of shine_of checked_lamp across task_of limits_of
room_of_a_number = refl

-- an edge below 500 mm
short_room : room_of (line (codes "version = 1") (codes "room = { size = [499, 6000, 3000] }")) ≡ Err (fault.Range (spot key.RoomSize 0))
unfolding is_utf8 chars toml_on_literals room_of document_of room_of_document version_of shell_of blocks_of lamps_of lamp_of source_of fitting_of shine_of checked_lamp across task_of limits_of
short_room = refl

-- 33 times 32 points are 1056
many_points : room_of (line (codes "version = 1") (line (codes "room = { size = [500, 500, 500] }") (codes "task = { from = [0, 0], to = [1, 1], height = 0, points = [33, 32] }"))) ≡ Err (fault.TooMany (spot key.TaskPoints 0))
unfolding is_utf8 chars toml_on_literals room_of document_of room_of_document version_of shell_of blocks_of lamps_of lamp_of source_of fitting_of shine_of checked_lamp across task_of limits_of
many_points = refl

-- ---- every key

abbrev served_text : List ℕ
served_text =
    line (codes "version = 1")
    (line (codes "room = { size = [6000, 5000, 3000], reflect = [201, 702, 503, 504, 505, 506], patch = 650 }")
    (line (codes "box = [{ lo = [1, 2, 3], hi = [1004, 505, 706], reflect = 307 }]")
    (line (codes "task = { from = [11, 12], to = [5993, 4994], height = 715, points = [9, 7] }")
    (line (codes "[[lamp]]")
    (line (codes "at = [1001, 1002, 2503]")
    (line (codes "file = 'a.ldt'")
    (line (codes "set = 2")
    (line (codes "turn = 45")
    (line (codes "maintenance = 806")
    (line (codes "size = [607, 608]")
    (line (codes "split = [2, 3]")
    (line (codes "[[lamp]]")
    (line (codes "at = [0, 0, 0]")
    (line (codes "file = 'a.ldt'")
    (line (codes "[[lamp]]")
    (line (codes "at = [6000, 5000, 3000]")
    (line (codes "file = 'a.ldt'")
    (codes "set = 2"))))))))))))))))))

abbrev whole_text : List ℕ
whole_text = line (codes "limits = { average_millilux = 500001, uniformity_permille = 402 }") served_text

abbrev plain_lamp : ℕ → ℕ → ℕ → ℕ → Lamp
plain_lamp x y z index = record { at = record { x = x; y = y; z = z }; shine = File index; turn = 0; maintenance = 1000; size_x = 0; size_y = 0; split_x = 1; split_y = 1; aim = Down }

-- two pairs of file and set, of which the first and the third lamp have the same
abbrev served_room : Room
served_room = record {
  size = record { x = 6000; y = 5000; z = 3000 };
  reflect = record { floor = 201; ceiling = 702; x0 = 503; x1 = 504; y0 = 505; y1 = 506 };
  patch = 650;
  blocks = record { lo = record { x = 1; y = 2; z = 3 }; hi = record { x = 1004; y = 505; z = 706 }; reflect = 307 } ∷ [];
  lamps =
      record { at = record { x = 1001; y = 1002; z = 2503 }; shine = File 0; turn = 45; maintenance = 806; size_x = 607; size_y = 608; split_x = 2; split_y = 3; aim = Down }
      ∷ plain_lamp 0 0 0 1 ∷ plain_lamp 6000 5000 3000 0 ∷ [];
  files = record { name = codes "a.ldt"; set = 2 } ∷ record { name = codes "a.ldt"; set = 1 } ∷ [];
  task = record { from_x = 11; from_y = 12; to_x = 5993; to_y = 4994; height = 715; nx = 9; ny = 7 };
  limits = record { average = None; uniformity = None };
}

served_read : room_of served_text ≡ Ok served_room
unfolding is_utf8 chars toml_on_literals room_of document_of room_of_document version_of shell_of blocks_of block_of lamps_of lamp_of source_of fitting_of shine_of checked_lamp across task_of limits_of
served_read = refl

abbrev whole_room : Room
whole_room = record served_room { limits = record { average = Some 500001; uniformity = Some 402 } }

whole_read : room_of whole_text ≡ Ok whole_room
unfolding is_utf8 chars toml_on_literals room_of document_of room_of_document version_of shell_of blocks_of block_of lamps_of lamp_of source_of fitting_of shine_of checked_lamp across task_of limits_in limits_of
whole_read = refl

-- ---- lamps and boxes at the edge of what is accepted

-- a room of 500 mm on each edge, and one more table or array
abbrev closet_with : List ℕ → List ℕ
closet_with more = line (codes "version = 1") (line (codes "room = { size = [500, 500, 500] }") more)

-- the set's range is asked where there is no file, and before it is seen that nothing shines
set_without_file : room_of (closet_with (codes "lamp = [{ at = [0, 0, 0], set = 21 }]")) ≡ Err (fault.Range (spot key.LampSet 0))
unfolding is_utf8 chars toml_on_literals room_of document_of room_of_document version_of shell_of blocks_of lamps_of lamp_of source_of fitting_of shine_of checked_lamp across task_of limits_of
set_without_file = refl

-- the second box is turned over and passes the room
box_turned_over : room_of (closet_with (codes "box = [{ lo = [0, 0, 0], hi = [500, 500, 500] }, { lo = [0, 0, 9], hi = [501, 1, 9] }]")) ≡ Err (fault.Range (spot key.BoxHi 1))
unfolding is_utf8 chars toml_on_literals room_of document_of room_of_document version_of shell_of blocks_of block_of lamps_of lamp_of source_of fitting_of shine_of checked_lamp across task_of limits_of
box_turned_over = refl

-- neither candela nor file, and both
no_shine : shine_of 3 [] 1 None None ≡ Err (fault.Missing (spot key.LampCandela 3))
unfolding shine_of
no_shine = refl

both_shines : shine_of 3 [] 1 (Some 5) (Some (codes "a")) ≡ Err (fault.Kind (spot key.LampFile 3))
unfolding shine_of
both_shines = refl

-- half of 301 is 150.5, which 150 mm to the wall are too few for
even_size_at_the_wall : has_margin 150 300 300 ≡ true
even_size_at_the_wall = refl

odd_size_at_the_near_wall : has_margin 150 301 400 ≡ false
odd_size_at_the_near_wall = refl

odd_size_at_the_far_wall : has_margin 250 301 400 ≡ false
odd_size_at_the_far_wall = refl

-- sets 1 to n of one file
abbrev sets_to : ℕ → List FileUse
sets_to n = map (λ k. record { name = codes "a"; set = k }) (range_with_len 1 n)

abbrev small_shell : Shell
small_shell = record { version = One; size = record { x = 500; y = 500; z = 500 }; reflect = record { floor = 0; ceiling = 0; x0 = 0; x1 = 0; y0 = 0; y1 = 0 }; patch = 600 }

-- sixteen pairs are accepted, and one of them again adds none
sixteen_pairs : checked_lamp small_shell 15 (plain_lamp 1 2 3 15) (sets_to 16) ≡ Ok (plain_lamp 1 2 3 15, sets_to 16)
unfolding checked_lamp across
sixteen_pairs = refl

a_pair_again : placed (record { name = codes "a"; set = 7 }) (sets_to 16) ≡ (6, sets_to 16)
a_pair_again = refl

seventeen_pairs : checked_lamp small_shell 16 (plain_lamp 1 2 3 16) (sets_to 17) ≡ Err (fault.TooMany (spot key.LampFile 16))
unfolding checked_lamp across
seventeen_pairs = refl

-- ---- names of files

blanks_and_umlauts : is_name (codes "a b" ++ 195 ∷ 164 ∷ []) ≡ true
blanks_and_umlauts = refl

no_name : is_name [] ≡ false
no_name = refl

tab_in_a_name : is_name (codes "a" ++ 9 ∷ []) ≡ false
tab_in_a_name = refl

delete_in_a_name : is_name (codes "a" ++ 127 ∷ []) ≡ false
delete_in_a_name = refl

name_of_255 : is_name (map (λ _. 97) (range_with_len 0 255)) ≡ true
name_of_255 = refl

name_of_256 : is_name (map (λ _. 97) (range_with_len 0 256)) ≡ false
name_of_256 = refl

-- ---- version 2

-- a hall of 100 m with a lamp at its far wall that shines back along x: its rectangle lies along y and z
abbrev long_hall_text : List ℕ → List ℕ
long_hall_text version =
    line version
    (line (codes "[room]")
    (line (codes "size = [100000, 6000, 3000]")
    (line (codes "[[lamp]]")
    (line (codes "at = [100000, 300, 2850]")
    (line (codes "candela = 5000")
    (line (codes "size = [600, 300]")
    (line (codes "aim = '-x'")
    (line (codes "[task]")
    (line (codes "from = [0, 0]")
    (line (codes "to = [100000, 6000]")
    (line (codes "height = 0")
    (codes "points = [1, 1]"))))))))))))

abbrev long_hall : Room
long_hall = record hall {
  size = record { x = 100000; y = 6000; z = 3000 };
  lamps = record { at = record { x = 100000; y = 300; z = 2850 }; shine = Even 5000; turn = 0; maintenance = 1000; size_x = 600; size_y = 300; split_x = 1; split_y = 1; aim = West } ∷ [];
  task = record { from_x = 0; from_y = 0; to_x = 100000; to_y = 6000; height = 0; nx = 1; ny = 1 };
}

long_hall_read : room_of (long_hall_text (codes "version = 2")) ≡ Ok long_hall
unfolding is_utf8 chars toml_on_literals room_of document_of room_of_document version_of shell_of blocks_of lamps_of lamp_of source_of fitting_of shine_of checked_lamp across task_of limits_of
long_hall_read = refl

long_hall_of_version_1 : room_of (long_hall_text (codes "version = 1")) ≡ Err (fault.Range (spot key.RoomSize 0))
unfolding is_utf8 chars toml_on_literals room_of document_of room_of_document version_of shell_of blocks_of lamps_of lamp_of source_of fitting_of shine_of checked_lamp across task_of limits_of
long_hall_of_version_1 = refl

-- version 1 knows no aim
aim_of_version_1 : room_of (line (codes "version = 1") (line (codes "[room]") (line (codes "size = [500, 500, 500]") (line (codes "[[lamp]]") (codes "aim = '-z'"))))) ≡ Err (fault.Unknown (spot key.Lamp 0))
unfolding is_utf8 chars toml_on_literals room_of document_of room_of_document version_of shell_of blocks_of lamps_of lamp_of source_of fitting_of shine_of checked_lamp across task_of limits_of
aim_of_version_1 = refl

aim_in_capitals : aim_named (codes "-X") ≡ None
aim_in_capitals = refl
