-- The lamps of a room that the layout gives, and the files that they use.
use Rattle.std.proofs.Common.{◌≡◌, ℕ, ◌+◌, ◌*◌, ◌<◌, ◌≤◌, Bool, true, false, nat_le, suc, List, [], ◌∷◌, length, All, Option, Some, None, IfSome, Ok, Err, cond, codes, refl, ap, subst, lit<, lit≤, arith, length-append}
use Rattle.std.specs.List.{position}
use Rattle.std.proofs.lemmas.Bool.{and_parts}
use Rattle.std.proofs.lemmas.List.Elements.{All-nil, All-cons, All-push}
use Rattle.std.proofs.lemmas.List.Quantifiers.{position-Some}
use Rattle.toml.specs.Data.{Data, Members, get_member, as_str}
use Rattle.room_layout.specs.declared.fault.Key.TheVariants as key
use Rattle.room_layout.specs.declared.fault.RoomFault.{RoomFault}
use Rattle.room_layout.specs.declared.fault.RoomFault.TheVariants as fault
use Rattle.room_layout.specs.declared.fault.Spot.{Spot}
use Rattle.room_layout.specs.declared.geometry.Size.{Size}
use Rattle.room_layout.specs.declared.room.Lamp.{Lamp}
use Rattle.room_layout.specs.declared.room.Shine.{Shine}
use Rattle.room_layout.specs.declared.room.Shine.TheVariants.{Even, File}
use Rattle.room_layout.specs.declared.room.FileUse.{FileUse}
use Rattle.room_layout.specs.declared.geometry.Face.TheVariants.{Down}
use Rattle.room_layout.specs.declared.parts.Shell.{Shell}
use Rattle.room_layout.specs.declared.parts.Fitting.{Fitting}
use Rattle.room_layout.specs.declared.parts.Lit.{Lit}
use Rattle.room_layout.specs.Checks.{◌>>=◌, demand, spot, required, optional, where_given, kind, number, numbers, is_name, name_text, table_with}
use Rattle.room_layout.specs.Layout.{longest_edge, fits_in, has_margin, has_margins, is_same_use, placed_at, placed, shine_of, is_lamp_inside, lamp_keys, aim_text, lamp_from, Source, source_of, fitting_from, fitting_of, checked_lamp, lamp_of, lamps_from}
use Rattle.room_layout.specs.Across.{extent_of}
use Rattle.room_layout.specs.Accepted.{IsBetween, HasMargin, IsShine, IsLampIn, IsFileUse}
use Rattle.room_layout.proofs.Accepts.{both, le_from, candela_accepted}
use Rattle.room_layout.proofs.Ranges.{bind_ok, ok_same, demand_ok, optional_number_between, optional_numbers_between, no_size_between, no_split_between}

-- ---- names

name_if : (bytes : List ℕ) (f : RoomFault) (b : Bool) (name : List ℕ) → is_name bytes ≡ b → (cond b (Ok bytes) (Err f)) ≡ Ok name → is_name name ≡ true
name_if bytes f true name test e = let same : bytes ≡ name = ok_same _ name e in subst (λ n. is_name n ≡ true) same test
name_if bytes f false name test e = absurd (cc)

name_accepted : (s : Spot) (o : Option Data) (x : Option (List ℕ)) → where_given s name_text o ≡ Ok x → IfSome x (λ name. is_name name ≡ true)
name_accepted s None x e = let same : None ≡ x = ok_same _ x e in subst (λ v. IfSome v (λ name. is_name name ≡ true)) same tt
name_accepted s (Some d) x e =
    let (name, checked, last) = bind_ok (name_text s d) (λ n. Ok (Some n)) x e in
    let (bytes, _, e1) = bind_ok (kind s (as_str d)) _ name checked in
    let same : Some name ≡ x = ok_same _ x last in
    subst (λ v. IfSome v (λ name. is_name name ≡ true)) same (name_if bytes (fault.Range s) (is_name bytes) name refl e1)

-- ---- files

-- the files after a lamp are those before it and perhaps one more
pub record ExtendsFiles (files more : List FileUse) : Type 0 where
  pub longer : length files ≤ length more
  pub each_file : All IsFileUse files → All IsFileUse more

placed_extends : (f : FileUse) (files : List FileUse) (o : Option ℕ) → position (is_same_use f) files ≡ o → IsFileUse f → (let r = placed_at f files o in ExtendsFiles files r.1 × (r.0 < length r.1))
placed_extends f files (Some k) found is_file = (record { longer = omega arith; each_file = λ all. all }, (position-Some (is_same_use f) files k f found).0)
placed_extends f files None found is_file =
    (record { longer = omega (arith, length-append files (f ∷ [])); each_file = λ all. All-push IsFileUse files f all is_file }, omega (arith, length-append files (f ∷ [])))

pub shine_accepted : (i : ℕ) (files : List FileUse) (set : ℕ) (candela : Option ℕ) (file : Option (List ℕ)) (r : Shine × List FileUse) → shine_of i files set candela file ≡ Ok r
    → IsBetween 1 20 set → IfSome candela (λ n. n ≤ 10000000) → IfSome file (λ name. is_name name ≡ true)
    → ExtendsFiles files r.1 × IsShine (length r.1) r.0
unfolding shine_of
shine_accepted i files set None None r e set_in candela_in file_in = absurd (cc)
shine_accepted i files set (Some n) (Some name) r e set_in candela_in file_in = absurd (cc)
shine_accepted i files set (Some n) None r e set_in candela_in file_in =
    let same : (Even n, files) ≡ r = ok_same _ r e in
    subst (λ v. ExtendsFiles files v.1 × IsShine (length v.1) v.0) same (record { longer = omega arith; each_file = λ all. all }, candela_in)
shine_accepted i files set None (Some name) r e set_in candela_in file_in =
    let f : FileUse = record { name = name; set = set } in
    let same : (File (placed f files).0, (placed f files).1) ≡ r = ok_same _ r e in
    let is_placed = placed_extends f files (position (is_same_use f) files) refl (record { name = file_in; set = set_in }) in
    subst (λ v. ExtendsFiles files v.1 × IsShine (length v.1) v.0) same is_placed

-- ---- one lamp

margin_from : (at size edge : ℕ) → has_margin at size edge ≡ true → HasMargin at size edge
margin_from at size edge e = let (below, above) = and_parts (nat_le size (2 * at)) (nat_le (2 * at + size) (2 * edge)) e in (le_from _ _ below, le_from _ _ above)

lamp_inside : (room : Size) (files : ℕ) (l : Lamp) → is_lamp_inside l room ≡ true → IsShine files l.shine → l.turn ≤ 359 → l.maintenance ≤ 1000 → l.size_x ≤ 5000 → l.size_y ≤ 5000 → IsBetween 1 8 l.split_x → IsBetween 1 8 l.split_y → IsLampIn room files l
lamp_inside room files l inside shine turn maintenance sx sy px py =
    let extent = extent_of l in
    let (fits, margins) = and_parts (fits_in l.at room) (has_margins l.at extent room) inside in
    let (mx, my, mz) = both (has_margin l.at.x extent.x room.x) (has_margin l.at.y extent.y room.y) (has_margin l.at.z extent.z room.z) margins in
    let (ix, iy, iz) = both (nat_le l.at.x room.x) (nat_le l.at.y room.y) (nat_le l.at.z room.z) fits in
    record {
      x = (le_from _ _ ix, margin_from _ _ _ mx);
      y = (le_from _ _ iy, margin_from _ _ _ my);
      z = (le_from _ _ iz, margin_from _ _ _ mz);
      shine = shine;
      turn = turn;
      maintenance = maintenance;
      size_x = sx;
      size_y = sy;
      split_x = px;
      split_y = py;
    }

pub checked_accepted : (room : Shell) (i : ℕ) (l : Lamp) (files : List FileUse) (r : Lamp × List FileUse) → checked_lamp room i l files ≡ Ok r → ((l, files) ≡ r) × (is_lamp_inside l room.size ≡ true) × (length files ≤ 16)
unfolding checked_lamp
checked_accepted room i l files r e =
    let (u, inside, e1) = bind_ok (demand (is_lamp_inside l room.size) (fault.Outside (spot key.Lamp i))) _ r e in
    let (v, few, e2) = bind_ok (demand (nat_le (length files) 16) (fault.TooMany (spot key.LampFile i))) _ r e1 in
    (ok_same _ r e2, demand_ok _ _ u inside, le_from _ _ (demand_ok _ _ v few))

pub record IsLampWith (room : Size) (files : List FileUse) (r : Lamp × List FileUse) : Type 0 where
  pub lamp : IsLampIn room (length r.1) r.0
  pub extends : ExtendsFiles files r.1
  pub few : length r.1 ≤ 16

-- the light of a lamp that the layout gives, key by key
pub record HasSource (i : ℕ) (lamp : Members) (s : Source) : Type 0 where
  pub candela : where_given (spot key.LampCandela i) (number 0 10000000) (get_member (codes "candela") lamp) ≡ Ok s.candela
  pub file : where_given (spot key.LampFile i) name_text (get_member (codes "file") lamp) ≡ Ok s.file
  pub set : optional 1 (spot key.LampSet i) (number 1 20) (get_member (codes "set") lamp) ≡ Ok s.set

pub source_parts : (i : ℕ) (lamp : Members) (s : Source) → source_of i lamp ≡ Ok s → HasSource i lamp s
unfolding source_of
source_parts i lamp s e =
    let (candela, candela_is, e1) = bind_ok (where_given (spot key.LampCandela i) (number 0 10000000) (get_member (codes "candela") lamp)) _ s e in
    let (file, file_is, e2) = bind_ok (where_given (spot key.LampFile i) name_text (get_member (codes "file") lamp)) _ s e1 in
    let (set, set_is, e3) = bind_ok (optional 1 (spot key.LampSet i) (number 1 20) (get_member (codes "set") lamp)) _ s e2 in
    let same : record { candela = candela; file = file; set = set } ≡ s = ok_same _ s e3 in
    subst (HasSource i lamp) same (record { candela = candela_is; file = file_is; set = set_is })

pub record IsFitting (f : Fitting) : Type 0 where
  pub turn : f.turn ≤ 359
  pub maintenance : f.maintenance ≤ 1000
  pub size_x : f.size_x ≤ 5000
  pub size_y : f.size_y ≤ 5000
  pub split_x : IsBetween 1 8 f.split_x
  pub split_y : IsBetween 1 8 f.split_y

fitting_accepted : (i : ℕ) (lamp : Members) (f : Fitting) → fitting_of i lamp ≡ Ok f → IsFitting f
unfolding fitting_of
fitting_accepted i lamp f e =
    let (turn, turn_is, e1) = bind_ok (optional 0 (spot key.LampTurn i) (number 0 359) (get_member (codes "turn") lamp)) _ f e in
    let (maintenance, maintenance_is, e2) = bind_ok (optional 1000 (spot key.LampMaintenance i) (number 0 1000) (get_member (codes "maintenance") lamp)) _ f e1 in
    let (size, size_is, e3) = bind_ok (optional (0 ∷ 0 ∷ []) (spot key.LampSize i) (numbers 2 0 5000) (get_member (codes "size") lamp)) _ f e2 in
    let (split, split_is, e4) = bind_ok (optional (1 ∷ 1 ∷ []) (spot key.LampSplit i) (numbers 2 1 8) (get_member (codes "split") lamp)) _ f e3 in
    let (aim, _, e5) = bind_ok (optional Down (spot key.LampAim i) aim_text (get_member (codes "aim") lamp)) _ f e4 in
    let same : fitting_from turn maintenance size split aim ≡ f = ok_same _ f e5 in
    let sizes = optional_numbers_between (0 ∷ 0 ∷ []) 2 0 5000 (spot key.LampSize i) (get_member (codes "size") lamp) size no_size_between size_is in
    let splits = optional_numbers_between (1 ∷ 1 ∷ []) 2 1 8 (spot key.LampSplit i) (get_member (codes "split") lamp) split no_split_between split_is in
    subst IsFitting same (record {
      turn = (optional_number_between 0 0 359 (spot key.LampTurn i) (get_member (codes "turn") lamp) turn (lit≤ tt, lit≤ tt) turn_is).1;
      maintenance = (optional_number_between 1000 0 1000 (spot key.LampMaintenance i) (get_member (codes "maintenance") lamp) maintenance (lit≤ tt, lit≤ tt) maintenance_is).1;
      size_x = (sizes.each_one 0 (lit< tt)).1;
      size_y = (sizes.each_one 1 (lit< tt)).1;
      split_x = splits.each_one 0 (lit< tt);
      split_y = splits.each_one 1 (lit< tt);
    })

-- the parts of a lamp that the layout gives
pub record HasLampParts (room : Shell) (i : ℕ) (files : List FileUse) (d : Data) (r : Lamp × List FileUse) : Type 0 where
  pub lamp : Members
  pub at : List ℕ
  pub source : Source
  pub fitting : Fitting
  pub lit : Shine × List FileUse
  pub lamp_is : table_with (lamp_keys room.version) (spot key.Lamp i) d ≡ Ok lamp
  pub source_is : source_of i lamp ≡ Ok source
  pub fitting_is : fitting_of i lamp ≡ Ok fitting
  pub lit_is : shine_of i files source.set source.candela source.file ≡ Ok lit
  pub end_is : checked_lamp room i (lamp_from at lit.0 fitting) lit.1 ≡ Ok r

pub lamp_parts : (room : Shell) (i : ℕ) (files : List FileUse) (d : Data) (r : Lamp × List FileUse) → lamp_of room i files d ≡ Ok r → HasLampParts room i files d r
unfolding lamp_of
lamp_parts room i files d r e =
    let (lamp, lamp_is, e1) = bind_ok (table_with (lamp_keys room.version) (spot key.Lamp i) d) _ r e in
    let (at, _, e2) = bind_ok (required (spot key.LampAt i) (numbers 3 0 (longest_edge room.version)) (get_member (codes "at") lamp)) _ r e1 in
    let (source, source_is, e3) = bind_ok (source_of i lamp) _ r e2 in
    let (fitting, fitting_is, e4) = bind_ok (fitting_of i lamp) _ r e3 in
    let (lit, lit_is, e5) = bind_ok (shine_of i files source.set source.candela source.file) _ r e4 in
    record {
      lamp = lamp;
      at = at;
      source = source;
      fitting = fitting;
      lit = lit;
      lamp_is = lamp_is;
      source_is = source_is;
      fitting_is = fitting_is;
      lit_is = lit_is;
      end_is = e5;
    }

-- the lamp of those values
abbrev pub lamp_of_parts : {room : Shell} {i : ℕ} {files : List FileUse} {d : Data} {r : Lamp × List FileUse} → HasLampParts room i files d r → Lamp
lamp_of_parts p = lamp_from p.at p.lit.0 p.fitting

parts_accepted : (room : Shell) (i : ℕ) (files : List FileUse) (d : Data) (r : Lamp × List FileUse) → HasLampParts room i files d r → IsLampWith room.size files r
parts_accepted room i files d r p =
    let (same, inside, few) = checked_accepted room i (lamp_of_parts p) p.lit.1 r p.end_is in
    let source = source_parts i p.lamp p.source p.source_is in
    let shine = shine_accepted i files p.source.set p.source.candela p.source.file p.lit p.lit_is
    (optional_number_between 1 1 20 (spot key.LampSet i) (get_member (codes "set") p.lamp) p.source.set (lit≤ tt, lit≤ tt) source.set)
    (candela_accepted i (get_member (codes "candela") p.lamp) p.source.candela source.candela)
    (name_accepted (spot key.LampFile i) (get_member (codes "file") p.lamp) p.source.file source.file) in
    let fitting = fitting_accepted i p.lamp p.fitting p.fitting_is in
    subst (IsLampWith room.size files) same (record {
      lamp = lamp_inside room.size (length p.lit.1) (lamp_of_parts p) inside shine.1 fitting.turn fitting.maintenance fitting.size_x fitting.size_y fitting.split_x fitting.split_y;
      extends = shine.0;
      few = few;
    })

pub lamp_accepted : (room : Shell) (i : ℕ) (files : List FileUse) (d : Data) (r : Lamp × List FileUse) → lamp_of room i files d ≡ Ok r → IsLampWith room.size files r
lamp_accepted room i files d r e = parts_accepted room i files d r (lamp_parts room i files d r e)

-- ---- all lamps

more_shine : (n m : ℕ) → n ≤ m → (s : Shine) → IsShine n s → IsShine m s
more_shine n m h (Even c) is = is
more_shine n m h (File k) is = omega arith

more_files : (room : Size) (n m : ℕ) → n ≤ m → (l : Lamp) → IsLampIn room n l → IsLampIn room m l
more_files room n m h l is = record {
  x = is.x;
  y = is.y;
  z = is.z;
  shine = more_shine n m h l.shine is.shine;
  turn = is.turn;
  maintenance = is.maintenance;
  size_x = is.size_x;
  size_y = is.size_y;
  split_x = is.split_x;
  split_y = is.split_y;
}

pub record AreLampsWith (room : Size) (files : List FileUse) (count : ℕ) (r : Lit) : Type 0 where
  pub as_many : length r.lamps ≡ count
  pub each_lamp : All (IsLampIn room (length r.files)) r.lamps
  pub extends : ExtendsFiles files r.files
  pub few : length r.files ≤ 16

pub lamps_accepted : (room : Shell) (i : ℕ) (files : List FileUse) (ds : List Data) (r : Lit) → length files ≤ 16 → lamps_from room i files ds ≡ Ok r → AreLampsWith room.size files (length ds) r
lamps_accepted room i files [] r few e =
    let same : record { lamps = []; files = files } ≡ r = ok_same _ r e in
    subst (AreLampsWith room.size files 0) same (record { as_many = refl; each_lamp = All-nil _; extends = record { longer = omega arith; each_file = λ all. all }; few = few })
lamps_accepted room i files (d ∷ ds) r few e =
    let (l, lamp_is, e1) = bind_ok (lamp_of room i files d) (λ l. lamps_from room (i + 1) l.1 ds >>= λ r. Ok (record { lamps = l.0 ∷ r.lamps; files = r.files })) r e in
    let (rest, rest_is, e2) = bind_ok (lamps_from room (i + 1) l.1 ds) (λ r. Ok (record { lamps = l.0 ∷ r.lamps; files = r.files })) r e1 in
    let same : record { lamps = l.0 ∷ rest.lamps; files = rest.files } ≡ r = ok_same _ r e2 in
    let first = lamp_accepted room i files d l lamp_is in
    let more = lamps_accepted room (i + 1) l.1 ds rest first.few rest_is in
    subst (AreLampsWith room.size files (suc (length ds))) same (record {
      as_many = ap suc more.as_many;
      each_lamp = All-cons (IsLampIn room.size (length rest.files)) l.0 rest.lamps (more_files room.size _ _ more.extends.longer l.0 first.lamp) more.each_lamp;
      extends = record { longer = omega (arith, first.extends.longer, more.extends.longer); each_file = λ all. more.extends.each_file (first.extends.each_file all) };
      few = more.few;
    })
