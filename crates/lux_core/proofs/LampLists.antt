-- The files of a room's lamps, one after the other.
use Rattle.std.proofs.Common.{ℕ, ◌+◌, ◌<◌, ◌≤◌, ◌≡◌, ◌⊎◌, inl, inr, List, [], ◌∷◌, ◌++◌, length, slice_index_or, refl, sym, ap, subst, ◌∙◌, arith}
use Rattle.std.specs.Prelude.{All, Option, Some, IfSome}
use Rattle.lux_io.specs.Files.{bytes_of}
use Rattle.std.proofs.lemmas.List.{length-append, map-append, get_or_append_left, get_or_default}
use Rattle.std.proofs.lemmas.Bool.{cases_lt}
use Rattle.photo_table.specs.Exact.{IsRoundedOf}
use Rattle.photo_table.specs.Table.{Table}
use Rattle.direct_light.specs.Shares.{no_table}
use Rattle.room_layout.specs.Accepted.{IsAccepted, IsShine}
use Rattle.room_layout.specs.declared.room.FileUse.{FileUse}
use Rattle.scene_system.specs.Causes.{IsCause, IsWithinLimits, total_ticks}
use Rattle.scene_system.specs.Tables.{AreTablesOf}
use Rattle.scene_system.specs.declared.fault.SceneFault.{SceneFault}
use Rattle.scene_system.specs.declared.fault.SceneFault.TheVariants as fault
use Rattle.lux_core.specs.LampFiles.{LampFile, WasRead, WereRead, HasUnreadFile, IsUnreadFile, file_at, no_file, last_read, nothing_read, tables_of}
use Rattle.lux_core.specs.Commands.{format_of}
use Rattle.lux_core.specs.LampTables.{HasRead, Says}
use Rattle.lux_core.specs.declared.reply.Halt.{Halt}
use Rattle.lux_core.specs.declared.reply.Halt.TheVariants as halt
use Rattle.lux_core.specs.Photometry.{IsReadAs, IsTableOfFile}
use Rattle.lux_core.specs.Claims.{IsClaimAnswer, IsOfClaim}
use Rattle.lux_core.specs.Dims.{IsPlanAnswer, IsOfDim}
use Rattle.lux_core.specs.LightAnswers.{IsOfTables, IsServed}
use Rattle.room_layout.specs.declared.room.Room.{Room}
use Rattle.lux_core.specs.Runs.{Run, HasStood, run, longest_file}
use Rattle.lux_core.specs.declared.status.Status.{Status}
use Rattle.lux_core.specs.declared.status.Status.TheVariants as status

abbrev Told : Type 0
Told = Option (List (List ℕ × List ℕ))

-- ---- a list with one more

at_front : {A : Type 0} (xs : List A) (x d : A) (k : ℕ) → k < length xs → slice_index_or (xs ++ x ∷ []) k d ≡ slice_index_or xs k d
at_front xs x d k h = get_or_append_left xs (x ∷ []) d k h

at_end : {A : Type 0} (xs : List A) (x d : A) → slice_index_or (xs ++ x ∷ []) (length xs) d ≡ x
at_end [] x d = refl
at_end (y ∷ ys) x d = at_end ys x d

longer : {A : Type 0} (xs : List A) (x : A) → length (xs ++ x ∷ []) ≡ length xs + 1
longer xs x = length-append xs (x ∷ [])

table_of_one_more : (reads : List LampFile) (read : LampFile) → tables_of (reads ++ read ∷ []) ≡ tables_of reads ++ read.table ∷ []
table_of_one_more reads read = map-append (λ (r : LampFile). r.table) reads (read ∷ [])

last_of_one_more : (before : Option (List ℕ)) (reads : List LampFile) (read : LampFile) → last_read before (reads ++ read ∷ []) ≡ Some read.bytes
last_of_one_more before [] read = refl
last_of_one_more before (first ∷ more) read = last_of_one_more (Some first.bytes) more read

-- below n + 1 is below n or n
below_or_last : (k n : ℕ) → k < n + 1 → (k < n) ⊎ (k ≡ n)
below_or_last k n h = elim (cases_lt k n) [
  | inl l ↦ inl l
  | inr m ↦ inr (omega arith)
]

-- ---- what was read

pub none_read : (told : Told) (files : List FileUse) (taken : ℕ) → HasRead told files taken taken 0 []
none_read told files taken = record {
  reads = [];
  size = refl;
  read = record { each = λ k h. absurd (omega arith) };
  are = record { count = refl; each = λ k h. absurd (omega arith) };
  taken = λ before e. e;
}

one_more_was : (told : Told) (files : List FileUse) (reads : List LampFile) (read : LampFile) → WereRead told files reads → WasRead told (file_at files (length reads)) read
    → WereRead told files (reads ++ read ∷ [])
one_more_was told files reads read were was = record {
  each = λ k h. elim (below_or_last k (length reads) (rw (longer reads read) at h)) [
    | inl l ↦ subst (λ (r : LampFile). WasRead told (file_at files k) r) (sym (at_front reads read nothing_read k l)) (were.each k l)
    | inr e ↦ rw (e) (subst (λ (r : LampFile). WasRead told (file_at files (length reads)) r) (sym (at_end reads read nothing_read)) was)
  ];
}

one_more_table : (tables exact : List Table) (p t : Table) → AreTablesOf tables exact → IsRoundedOf p t → AreTablesOf (tables ++ p ∷ []) (exact ++ t ∷ [])
one_more_table tables exact p t are rounded = record {
  count = longer tables p ∙ (ap (λ n. n + 1) are.count ∙ sym (longer exact t));
  each = λ k h. elim (below_or_last k (length tables) (rw (longer tables p) at h)) [
    | inl l ↦ rw (at_front tables p no_table k l, at_front exact t no_table k (rw (are.count) at l)) (are.each k l)
    | inr e ↦ rw (e, at_end tables p no_table, are.count, at_end exact t no_table) rounded
  ];
}

pub one_more_read : (told : Told) (files : List FileUse) (before now later count : ℕ) (tables : List Table) (p : Table) → HasRead told files before now count tables
    → (read : LampFile) × WasRead told (file_at files count) read × IsRoundedOf p read.table × later ≡ length read.bytes
    → HasRead told files before later (count + 1) (tables ++ p ∷ [])
one_more_read told files before now later count tables p h (read, was, rounded, taken) = record {
  reads = h.reads ++ read ∷ [];
  size = longer h.reads read ∙ ap (λ n. n + 1) h.size;
  read = one_more_was told files h.reads read h.read (rw (h.size) was);
  are = rw (table_of_one_more h.reads read) (one_more_table tables (tables_of h.reads) p read.table h.are rounded);
  taken = λ before e. rw (last_of_one_more before h.reads read) taken;
}

pub one_unread : (r : Run) (told : Told) (files : List FileUse) (before now count : ℕ) (tables : List Table) (given : Status) (text : List ℕ)
    → HasRead told files before now count tables → told ≡ r.files → count < length files → IsUnreadFile r (file_at files count) given text → HasUnreadFile r files given text
one_unread r told files before now count tables given text h e within unread = record {
  before = h.reads;
  within = rw (h.size) within;
  read = rw (← e) h.read;
  unread = rw (h.size) unread;
}

-- what the program read of a file, whose name and bytes it has as these
pub was_read : (told : Told) (file : FileUse) (name slice items : List ℕ) (taken : ℕ) (p : Table) → name ≡ file.name → slice ≡ items
    → IfSome told (λ fs. bytes_of name fs ≡ Some items) → length slice ≤ longest_file → taken ≡ length slice → IsReadAs (format_of file.name file.set) slice p
    → (read : LampFile) × WasRead told file read × IsRoundedOf p read.table × taken ≡ length read.bytes
was_read told file name slice items taken p n e found few count read = (
  record { bytes = items; table = read.table },
  record { content = record { told = subst (λ (x : List ℕ). IfSome told (λ fs. bytes_of x fs ≡ Some items)) n found; few = rw (← e) few }; table = subst (λ (x : List ℕ). IsTableOfFile (format_of file.name file.set) x read.table) e read.of_file },
  read.rounded,
  rw (← e) count,
)

-- a file that the program finds at a place of the list is the one there
pub same_file : (files : List FileUse) (k : ℕ) (file : FileUse) → k < length files → file ≡ slice_index_or files k file → file ≡ file_at files k
same_file files k file within is = is ∙ get_or_default files k file no_file within

pub one_more_found : (told still : Told) (files : List FileUse) (before now later count : ℕ) (tables : List Table) (p : Table) (file : FileUse)
    → HasRead told files before now count tables → still ≡ told → count < length files → file ≡ slice_index_or files count file
    → (read : LampFile) × WasRead still file read × IsRoundedOf p read.table × later ≡ length read.bytes → HasRead told files before later (count + 1) (tables ++ p ∷ [])
one_more_found told still files before now later count tables p file h e within is (read, was, rounded, taken) =
    one_more_read told files before now later count tables p h
    (read, subst (λ (f : FileUse). WasRead told f read) (same_file files count file within is) (rw (e) at was), rounded, taken)

-- what is said of the file after those that were read
by_halt : (r : Run) (told : Told) (files : List FileUse) (before now count : ℕ) (tables : List Table) (h : Halt) → HasRead told files before now count tables
    → told ≡ r.files → count < length files → Says h (IsUnreadFile r (file_at files count)) → Says h (HasUnreadFile r files)
by_halt r told files before now count tables (halt.Said reply) read e within unread = one_unread r told files before now count tables reply.status reply.text.items read e within unread
by_halt r told files before now count tables halt.Memory read e within unread = tt

pub one_halted : (told still : Told) (files : List FileUse) (before now count absences since later faults from after taken : ℕ) (tables : List Table) (h : Halt) (file : FileUse)
    → HasRead told files before now count tables → still ≡ told → since ≡ absences → from ≡ faults → count < length files → file ≡ slice_index_or files count file
    → Says h (IsUnreadFile (run still since later from after taken) file) → Says h (HasUnreadFile (run told absences later faults after taken) files)
one_halted told still files before now count absences since later faults from after taken tables h file read e a f within is unread =
    by_halt (run told absences later faults after taken) told files before now count tables h read refl within
    (subst (λ (x : FileUse). Says h (IsUnreadFile (run told absences later faults after taken) x)) (same_file files count file within is) (rw (e, a, f) at unread))

-- ---- the room's files, all read

pub of_tables : (Said : List Table → Room → Status → List ℕ → Type 0) (r : Run) (told : Told) (taken_before taken_now : ℕ) (photos : List Table) (before : Option (List ℕ)) (room : Room) (given : Status) (text : List ℕ)
    → HasRead told room.files taken_before taken_now (length room.files) photos → told ≡ r.files → taken_now ≡ r.taken → HasStood r → IfSome before (λ bytes. taken_before ≡ length bytes)
    → ((tables : List Table) → AreTablesOf photos tables → Said tables room given text) → IsOfTables Said r before room given text
of_tables Said r told taken_before taken_now photos before room given text h e t still b said = record {
  reads = h.reads;
  lamp_files = record { all = h.size; read = rw (← e) h.read };
  ended = record { taken = rw (← t) (h.taken before b); stood = still };
  said = said (tables_of h.reads) h.are;
}

pub of_claim : (r : Run) (told : Told) (taken_before taken_now : ℕ) (photos : List Table) (room : Room) (name : List ℕ) (given : Status) (text : List ℕ)
    → HasRead told room.files taken_before taken_now (length room.files) photos → told ≡ r.files
    → ((tables : List Table) → AreTablesOf photos tables → IsServed tables room × IsClaimAnswer r tables room name given text) → IsOfClaim r room name given text
of_claim r told taken_before taken_now photos room name given text h e said = record {
  reads = h.reads;
  lamp_files = record { all = h.size; read = rw (← e) h.read };
  served = (said (tables_of h.reads) h.are).0;
  said = (said (tables_of h.reads) h.are).1;
}

pub of_dim : (least : ℕ) (r : Run) (told : Told) (taken_before taken_now : ℕ) (photos : List Table) (room : Room) (name : List ℕ) (given : Status) (text : List ℕ)
    → HasRead told room.files taken_before taken_now (length room.files) photos → told ≡ r.files
    → ((tables : List Table) → AreTablesOf photos tables → IsPlanAnswer least r tables room name given text) → IsOfDim least r room name given text
of_dim least r told taken_before taken_now photos room name given text h e said = record {
  reads = h.reads;
  lamp_files = record { all = h.size; read = rw (← e) h.read };
  said = said (tables_of h.reads) h.are;
}

-- the lamps of an accepted room shine by as many tables as it has files
pub shining_by : (room : Room) (tables : List Table) → IsAccepted room → length tables ≡ length room.files → All (λ l. IsShine (length tables) l.shine) room.lamps
shining_by room tables accepted count = λ k d l. subst (λ (n : ℕ). IsShine n (slice_index_or room.lamps k d).shine) (sym count) (accepted.each_lamp k d l).shine

-- ---- limits and causes by the exact tables, where the total is the same

pub within_by : (photos tables : List Table) (room : Room) → total_ticks photos room ≡ total_ticks tables room → IsWithinLimits photos room → IsWithinLimits tables room
within_by photos tables room e w = record { dim = rw (← e) w.dim; few = w.few; some_open = w.some_open }

pub cause_by : (photos tables : List Table) (room : Room) (f : SceneFault) → total_ticks photos room ≡ total_ticks tables room → IsCause photos room f → IsCause tables room f
cause_by photos tables room fault.TotalIntensity e c = rw (← e) c
cause_by photos tables room (fault.TooManyPatches count) e (dim, many, is) = (rw (← e) dim, many, is)
cause_by photos tables room fault.NoTaskPoint e (dim, few, none) = (rw (← e) dim, few, none)
cause_by photos tables room fault.Memory e c = tt
