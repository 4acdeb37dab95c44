-- Which words are a command. Words are compared byte for byte, and nothing else is an option.
use Rattle.std.specs.Prelude.{ℕ, Bool, map, drop, take, true, false, not, ◌+◌, ◌-◌, ◌*◌, ◌&&◌, ◌||◌, ◌==◌, nat_le, List, [], ◌∷◌, length, codes, slice_index_or, Option, Some, None, unwrap_or, if◌then◌else◌}
use Rattle.std.specs.List.{list_all}
use Rattle.std.specs.Option.{option_map}
use Rattle.std.specs.Char.{to_ascii_lowercase}
use Rattle.std.specs.Str.{bytes_eq}
use Rattle.escape_route.specs.declared.route.Route.{Route}
use Rattle.room_layout.specs.Place.{point_of, place_of_size}
use Rattle.room_layout.specs.declared.geometry.Point.{Point}
use Rattle.lux_core.specs.declared.words.Question.{Question}
use Rattle.lux_core.specs.declared.words.Format.{Format}
use Rattle.lux_core.specs.declared.words.Format.TheVariants.{Lm63, Eulumdat}
use Rattle.lux_core.specs.declared.words.Question.TheVariants as question
use Rattle.lux_core.specs.declared.words.FileQuestion.TheVariants as file
use Rattle.lux_core.specs.declared.words.LightQuestion.{LightQuestion}
use Rattle.lux_core.specs.declared.words.LightQuestion.TheVariants.{Report, Claim}
use Rattle.lux_core.specs.declared.words.PhotometryQuestion.TheVariants as photometry
use Rattle.lux_core.specs.declared.words.RoomQuestion.TheVariants.{Light, Check, Dim, Sight, Escape}
use Rattle.lux_core.specs.declared.words.Spelling.TheVariants.{Lines, Records}

-- ---- the names of files

-- a byte that may stand in the name of a file: no control character
abbrev pub is_plain : ℕ → Bool
is_plain b = nat_le 32 b && not (b == 127)

-- a word that may name a file
abbrev pub names_file : List ℕ → Bool
names_file word = nat_le 1 (length word) && nat_le (length word) 4096 && list_all is_plain word

-- ---- numbers

abbrev pub is_digit : ℕ → Bool
is_digit b = nat_le 48 b && nat_le b 57

-- decimal digits without a sign, and without leading zeros other than the word 0 itself
abbrev pub is_number : List ℕ → Bool
is_number [] = false
is_number (first ∷ more) = list_all is_digit (first ∷ more) && (not (first == 48) || length more == 0)

-- the number that more digits after n say
unfoldable pub number_after : ℕ → List ℕ → ℕ
number_after n [] = n
number_after n (digit ∷ more) = number_after (n * 10 + (digit - 48)) more

-- the number that a word says, where it lies from the least to the most
abbrev pub number_within : (least most : ℕ) → List ℕ → Option ℕ
number_within least most word =
    if is_number word && nat_le least (number_after 0 word) && nat_le (number_after 0 word) most then Some (number_after 0 word) else None

-- a coordinate in mm
abbrev pub coordinate : List ℕ → Option ℕ
coordinate word = number_within 0 100000 word

-- the number of a lamp set
abbrev pub lamp_set : List ℕ → Option ℕ
lamp_set word = number_within 1 20 word

-- a number of lumens
abbrev pub lumens : List ℕ → Option ℕ
lumens word = number_within 0 1000000 word

-- a light in thousandths of a lux, and a ratio
abbrev pub millilux : List ℕ → Option ℕ
millilux word = number_within 0 1000000000 word

abbrev pub times : List ℕ → Option ℕ
times word = number_within 1 1000 word

-- the number of a made room
abbrev pub room_number : List ℕ → Option ℕ
room_number word = number_within 1 40 word

-- ---- the commands

-- the coordinate in the word of this number
abbrev pub coordinate_at : List (List ℕ) → ℕ → Option ℕ
coordinate_at words k = coordinate (slice_index_or words k [])

-- the place of three coordinates
abbrev pub point_at : Option ℕ → Option ℕ → Option ℕ → Option Point
point_at (Some x) (Some y) (Some z) = Some (point_of (place_of_size (record { x = x; y = y; z = z })))
point_at (Some x) (Some y) None = None
point_at (Some x) None z = None
point_at None y z = None

-- the question whether two points see each other
abbrev pub sight_between : Option Point → Option Point → Option Question
sight_between (Some p) (Some q) = Some (question.File (file.Room (Sight p q)))
sight_between (Some p) None = None
sight_between None q = None

-- the route between the places of two pairs of coordinates
abbrev pub route_at : (x0 y0 x1 y1 : Option ℕ) → Option Route
route_at (Some x0) (Some y0) (Some x1) (Some y1) = Some (record { x0 = x0; y0 = y0; x1 = x1; y1 = y1 })
route_at (Some x0) (Some y0) (Some x1) None = None
route_at (Some x0) (Some y0) None y1 = None
route_at (Some x0) None x1 y1 = None
route_at None y0 x1 y1 = None

-- the words are numbers of lamps, 0 to 255, that rise from one to the next; the first of them is at least so much
unfoldable pub are_rising : ℕ → List (List ℕ) → Bool
are_rising least [] = true
are_rising least (word ∷ more) = elim (number_within least 255 word) [ Some k ↦ are_rising (k + 1) more | None ↦ false ]

-- 1 to 16 lamps are marked by the words after the eighth
abbrev pub marks_lamps : List (List ℕ) → Bool
marks_lamps words = nat_le 9 (length words) && nat_le (length words) 24 && are_rising 0 (drop 8 words)

abbrev pub escape_asked : Option Route → (least ratio : Option ℕ) → Option Question
escape_asked (Some route) (Some least) (Some ratio) = Some (question.File (file.Room (Escape route (record { least = least; ratio = ratio }))))
escape_asked (Some route) (Some least) None = None
escape_asked (Some route) None ratio = None
escape_asked None least ratio = None

-- what `escape ROOM X Y X Y MILLILUX RATIO LAMP ..` asks
abbrev pub escape_of : List (List ℕ) → Option Question
escape_of words =
    if marks_lamps words
    then escape_asked (route_at (coordinate_at words 2) (coordinate_at words 3) (coordinate_at words 4) (coordinate_at words 5)) (millilux (slice_index_or words 6 []))
    (times (slice_index_or words 7 []))
    else None

-- a name that ends in `.ies`, in any mixture of capitals: such a file is read as LM-63, every other one as EULUMDAT
abbrev pub names_lm63 : List ℕ → Bool
names_lm63 name = bytes_eq (map to_ascii_lowercase (drop (length name - 4) name)) (codes ".ies")

-- LM-63 knows no lamp sets, so that each of them is the whole file
abbrev pub format_of : (name : List ℕ) → (set : ℕ) → Format
format_of name set = if names_lm63 name then Lm63 else Eulumdat set

-- the lamp set of `read FILE` or `read FILE SET`: the first where none is named
abbrev pub chosen_set : List (List ℕ) → Option ℕ
chosen_set words = if length words == 2 then Some 1 else (if length words == 3 then lamp_set (slice_index_or words 2 []) else None)

abbrev pub summary_asked : List ℕ → Option ℕ → Option Question
summary_asked name (Some set) = Some (question.File (file.Photometry (format_of name set) photometry.Summary))
summary_asked name None = None

abbrev pub summary_of : List (List ℕ) → Option Question
summary_of words = summary_asked (slice_index_or words 1 []) (chosen_set words)

abbrev pub flux_asked : List ℕ → (set lumens : Option ℕ) → Option Question
flux_asked name (Some set) (Some most) = Some (question.File (file.Photometry (format_of name set) (photometry.Flux most)))
flux_asked name (Some set) None = None
flux_asked name None most = None

-- what `flux FILE SET LUMENS` asks
abbrev pub flux_of : List (List ℕ) → Option Question
flux_of words = flux_asked (slice_index_or words 1 []) (lamp_set (slice_index_or words 2 [])) (lumens (slice_index_or words 3 []))

-- the first word is this one
abbrev pub is_command : List ℕ → List (List ℕ) → Bool
is_command name words = bytes_eq (slice_index_or words 0 []) name

-- the second word names a file
abbrev pub names_a_file : List (List ℕ) → Bool
names_a_file words = nat_le 2 (length words) && names_file (slice_index_or words 1 [])

-- what `report ROOM`, `grid ROOM` and `certify ROOM` ask of the room's light
abbrev pub light_asked : List (List ℕ) → Option LightQuestion
light_asked words =
    if is_command (codes "report") words then Some (Report Lines)
    else (if is_command (codes "grid") words then Some (Report Records)
    else (if is_command (codes "certify") words then Some Claim else None))

abbrev pub light_of : List (List ℕ) → Option Question
light_of words = option_map (λ asked. question.File (file.Room (Light asked))) (light_asked words)

-- `check ROOM CLAIM`
abbrev pub check_of : List (List ℕ) → Option Question
check_of words = if is_command (codes "check") words && names_file (slice_index_or words 2 []) then Some (question.File (file.Room Check)) else None

-- `dim ROOM PLAN MILLILUX`
abbrev pub dim_of : List (List ℕ) → Option Question
dim_of words =
    if names_file (slice_index_or words 2 []) then option_map (λ least. question.File (file.Room (Dim least))) (millilux (slice_index_or words 3 [])) else None

-- what `sight ROOM X Y Z X Y Z` asks
abbrev pub sight_of : List (List ℕ) → Option Question
sight_of words =
    sight_between (point_at (coordinate_at words 2) (coordinate_at words 3) (coordinate_at words 4)) (point_at (coordinate_at words 5) (coordinate_at words 6) (coordinate_at words 7))

-- what is asked of the file that the second word names
abbrev pub asked_of : List (List ℕ) → Option Question
asked_of words =
    if is_command (codes "read") words then summary_of words
    else (if is_command (codes "escape") words then escape_of words
    else (if length words == 2 then light_of words
    else (if length words == 3 then check_of words
    else (if length words == 4 && is_command (codes "flux") words then flux_of words
    else (if length words == 4 && is_command (codes "dim") words then dim_of words
    else (if length words == 8 && is_command (codes "sight") words then sight_of words else None))))))

-- `trial N`
abbrev pub is_trial : List (List ℕ) → Bool
is_trial words = length words == 2 && is_command (codes "trial") words

abbrev pub trial_of : List (List ℕ) → Option Question
trial_of words = option_map (λ n. question.Trial n) (room_number (slice_index_or words 1 []))

-- what the words ask
abbrev pub question_of : List (List ℕ) → Option Question
question_of words = if is_trial words then trial_of words else (if names_a_file words then asked_of words else None)

-- the name of the file
abbrev pub file_name : List (List ℕ) → List ℕ
file_name words = slice_index_or words 1 []

-- the name of the second file, that of a claim or of a plan
abbrev pub second_name : List (List ℕ) → List ℕ
second_name words = slice_index_or words 2 []

-- the number of a lamp that a word says, and 0 where it says none
abbrev pub lamp_number : List ℕ → ℕ
lamp_number word = unwrap_or (number_within 0 255 word) 0

-- the numbers of the marked lamps, of which there are 16 at most
abbrev pub marked_lamps : List (List ℕ) → List ℕ
marked_lamps words = map lamp_number (take 16 (drop 8 words))

abbrev pub usage_line : List ℕ
usage_line = codes "usage: lux report ROOM | grid ROOM | read FILE [SET] | sight ROOM X Y Z X Y Z | certify ROOM | check ROOM CLAIM | trial N | flux FILE SET LUMENS | dim ROOM PLAN MILLILUX | escape ROOM X Y X Y MILLILUX RATIO LAMP ..\n"
