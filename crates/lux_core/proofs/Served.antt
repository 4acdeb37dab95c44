-- A file that is on the shelf and accepted isn't refused, and a room that can be lit is served.
use Rattle.std.proofs.Common.{ℕ, zero, suc, ◌<◌, ◌≤◌, ◌≡◌, ◌≢◌, inl, inr, List, [], ◌∷◌, length, slice_index_or, refl, sym, ap, ◌∙◌, subst, arith}
use Rattle.std.specs.Prelude.{Option, Some, None, IfSome, IsSomeAnd, Result, Ok, Err}
use Rattle.std.proofs.Math.ListN.{length-map}
use Rattle.lux_io.specs.Files.{bytes_of, Stood}
use Rattle.lm63_read.specs.Tables.{IsTableOf}
use Rattle.lm63_read.specs.Files.{IesFile}
use Rattle.eulumdat_read.specs.Ldt.{table_of_file}
use Rattle.photo_table.specs.Table.{Table}
use Rattle.room_layout.specs.declared.room.FileUse.{FileUse}
use Rattle.room_layout.specs.declared.room.Room.{Room}
use Rattle.fx_base.specs.Fraction.{Fraction, ◌≤ᶠ◌, ◌<ᶠ◌}
use Rattle.fx_base.proofs.Order.{lt_le_trans_f}
use Rattle.scene_system.specs.Causes.{IsCause, IsWithinLimits}
use Rattle.scene_system.specs.RowSums.{IsMild}
use Rattle.scene_system.specs.declared.fault.SceneFault.{SceneFault}
use Rattle.scene_system.specs.declared.fault.SceneFault.TheVariants as scene_fault
use Rattle.lux_core.specs.Commands.{format_of}
use Rattle.lux_core.specs.LampFiles.{LampFile, WasRead, WereRead, HasUnreadFile, IsUnreadFile, IsRefusedFile, file_at, nothing_read, tables_of}
use Rattle.lux_core.specs.LightAnswers.{HasNoScene, HasHeavyRow, IsNotServed, CanLight}
use Rattle.lux_core.specs.Photometry.{IsFaultOfFile, IsTableOfFile, CanSum}
use Rattle.lux_core.specs.Runs.{Run, IsContent, longest_file}
use Rattle.lux_core.specs.Untaken.{IsAbsent, IsTooLong, IsUntaken}
use Rattle.lux_core.specs.declared.photometry.TableFault.{TableFault}
use Rattle.lux_core.specs.declared.photometry.TableFault.TheVariants as table_fault
use Rattle.lux_core.specs.declared.words.Format.{Format}
use Rattle.lux_core.specs.declared.words.Format.TheVariants.{Lm63, Eulumdat}
use Rattle.lux_core.specs.declared.status.Status.{Status}

some_of : {T : Type 0} (a b : T) → (let o : Option T = Some a in o) ≡ Some b → a ≡ b
some_of a b e = cc

pub ok_same : {T E : Type 0} (r : Result T E) (a b : T) → r ≡ Ok a → r ≡ Ok b → a ≡ b
ok_same r a b f g = cc

pub ok_or_fault : {T E : Type 0} (r : Result T E) (t : T) (e : E) → r ≡ Ok t → r ≡ Err e → ⊥
ok_or_fault r t e f g = cc

told_of : {T : Type 0} (o : Option T) (t : T) (P : T → Type 0) → o ≡ Some t → IfSome o P → P t
told_of None t P e h = absurd (cc)
told_of (Some s) t P e h = subst P (some_of s t e) h

some_and : (o : Option (List ℕ)) (b : List ℕ) (P : List ℕ → Type 0) → o ≡ Some b → IsSomeAnd o P → P b
some_and None b P e h = absurd (h)
some_and (Some s) b P e h = subst P (some_of s b e) h

-- ---- a file that is on the shelf, and not too long

-- its bytes, by a shelf that tells its files
pub record IsThere (r : Run) (name bytes : List ℕ) : Type 0 where
  pub told : List (List ℕ × List ℕ)
  pub files_are : r.files ≡ Some told
  pub found : bytes_of name told ≡ Some bytes
  pub few : length bytes ≤ longest_file

not_absent : (r : Run) (name bytes : List ℕ) (given : Status) (text : List ℕ) → IsThere r name bytes → IsAbsent r name given text → ⊥
not_absent r name bytes given text c a =
    let none : bytes_of name c.told ≡ None = told_of r.files c.told (λ fs. bytes_of name fs ≡ None) c.files_are a.told in
    let found = c.found in absurd (cc)

not_too_long : (r : Run) (name bytes : List ℕ) (given : Status) (text : List ℕ) → IsThere r name bytes → IsTooLong r name given text → ⊥
not_too_long r name bytes given text c a =
    let some = told_of r.files c.told (λ fs. IsSomeAnd (bytes_of name fs) (λ bytes. longest_file < length bytes)) c.files_are a.told in
    let long = some_and (bytes_of name c.told) bytes (λ bytes. longest_file < length bytes) c.found some in
    let few = c.few in absurd (omega arith)

pub taken_there : (r : Run) (name bytes : List ℕ) (given : Status) (text : List ℕ) → IsThere r name bytes → Stood r.faults.before r.faults.now → IsUntaken r name given text → ⊥
taken_there r name bytes given text c s (inl a) = not_absent r name bytes given text c a
taken_there r name bytes given text c s (inr (inl l)) = not_too_long r name bytes given text c l
taken_there r name bytes given text c s (inr (inr f)) = let rose = f.rose in absurd (omega (arith, rose, s.0, s.1))

pub same_content : (r : Run) (name bytes others : List ℕ) → IsThere r name bytes → IsContent r.files name others → others ≡ bytes
same_content r name bytes others c h =
    let read : bytes_of name c.told ≡ Some others = told_of r.files c.told (λ fs. bytes_of name fs ≡ Some others) c.files_are h.told in
    some_of others bytes (sym read ∙ c.found)

-- ---- an accepted photometric file is not refused, and has one table

pub no_fault : (format : Format) (bytes : List ℕ) (f : TableFault) → CanSum format bytes → IsFaultOfFile format bytes f → ⊥
no_fault Lm63 bytes (table_fault.Lm63 f) can refused = ok_or_fault _ can.0 f can.1 refused
no_fault Lm63 bytes (table_fault.Eulumdat f) can refused = absurd refused
no_fault (Eulumdat set) bytes (table_fault.Eulumdat f) can refused = ok_or_fault _ can.0 f can.1 refused
no_fault (Eulumdat set) bytes (table_fault.Lm63 f) can refused = absurd refused

has_sum : (format : Format) (bytes : List ℕ) (t : Table) → IsTableOfFile format bytes t → CanSum format bytes
has_sum Lm63 bytes t (file, is, of) = (file, is)
has_sum (Eulumdat set) bytes t (file, is, of) = (file, is)

one_ies_table : (f : IesFile) (t u : Table) → IsTableOf f t → IsTableOf f u → t ≡ u
one_ies_table f t u a b = let same = some_of a.symmetry b.symmetry (sym a.stands ∙ b.stands) in a.table ∙ sym (rw (same) b.table)

one_table : (format : Format) (bytes : List ℕ) (t u : Table) → IsTableOfFile format bytes t → IsTableOfFile format bytes u → t ≡ u
one_table Lm63 bytes t u (f, is, of) (g, was, from) =
    one_ies_table f t u of (subst (λ (h : IesFile). IsTableOf h u) (ok_same _ g f was is) from)
one_table (Eulumdat set) bytes t u (f, is, of) (g, was, from) =
    of ∙ (ap table_of_file (ok_same _ f g is was) ∙ sym from)

-- ---- the files of a room's lamps

there : (r : Run) (told : List (List ℕ × List ℕ)) (name bytes : List ℕ) → r.files ≡ Some told → IsContent (Some told) name bytes → IsThere r name bytes
there r told name bytes e c = record { told = told; files_are = e; found = c.told; few = c.few }

read_not_refused : (r : Run) (told : List (List ℕ × List ℕ)) (file : FileUse) (read : LampFile) (given : Status) (text : List ℕ) → r.files ≡ Some told
    → WasRead (Some told) file read → IsRefusedFile r file given text → ⊥
read_not_refused r told file read given text e was refused =
    let same = same_content r file.name read.bytes refused.bytes (there r told file.name read.bytes e was.content) refused.content in
    no_fault (format_of file.name file.set) read.bytes refused.refusal.fault
    (has_sum (format_of file.name file.set) read.bytes read.table was.table)
    (subst (λ (b : List ℕ). IsFaultOfFile (format_of file.name file.set) b refused.refusal.fault) same refused.refusal.refused)

read_not_unread : (r : Run) (told : List (List ℕ × List ℕ)) (file : FileUse) (read : LampFile) (given : Status) (text : List ℕ) → r.files ≡ Some told
    → Stood r.faults.before r.faults.now → WasRead (Some told) file read → IsUnreadFile r file given text → ⊥
read_not_unread r told file read given text e s was (inl u) = taken_there r file.name read.bytes given text (there r told file.name read.bytes e was.content) s u
read_not_unread r told file read given text e s was (inr f) = read_not_refused r told file read given text e was f

pub has_no_unread : (r : Run) (told : List (List ℕ × List ℕ)) (room : Room) (reads : List LampFile) (given : Status) (text : List ℕ) → r.files ≡ Some told
    → Stood r.faults.before r.faults.now → length reads ≡ length room.files → WereRead (Some told) room.files reads → HasUnreadFile r room.files given text → ⊥
has_no_unread r told room reads given text e s all read h =
    let k = length h.before in
    read_not_unread r told (file_at room.files k) (slice_index_or reads k nothing_read) given text e s (read.each k (rw all h.within)) h.unread

-- lists of one length whose elements are the same, one by one
same_lists : {A : Type 0} (xs ys : List A) (d : A) → length xs ≡ length ys
    → ((k : ℕ) → k < length xs → slice_index_or xs k d ≡ slice_index_or ys k d) → xs ≡ ys
same_lists [] [] d e h = refl
same_lists [] (y ∷ ys) d e h = absurd (omega (arith, e))
same_lists (x ∷ xs) [] d e h = absurd (omega (arith, e))
same_lists (x ∷ xs) (y ∷ ys) d e h =
    let first : x ≡ y = h 0 (omega arith) in
    let more : xs ≡ ys = same_lists xs ys d (omega (arith, e)) (λ k l. h (suc k) (omega (arith, l))) in
    rw (first, more) refl

table_in : (reads : List LampFile) (k : ℕ) → slice_index_or (tables_of reads) k nothing_read.table ≡ (slice_index_or reads k nothing_read).table
table_in [] k = refl
table_in (read ∷ more) zero = refl
table_in (read ∷ more) (suc k) = table_in more k

one_read : (r : Run) (told : List (List ℕ × List ℕ)) (file : FileUse) (a b : LampFile) → r.files ≡ Some told → WasRead r.files file a → WasRead (Some told) file b
    → a.table ≡ b.table
one_read r told file a b e was can =
    let same = same_content r file.name b.bytes a.bytes (there r told file.name b.bytes e can.content) was.content in
    one_table (format_of file.name file.set) b.bytes a.table b.table
    (subst (λ (x : List ℕ). IsTableOfFile (format_of file.name file.set) x a.table) same was.table) can.table

same_tables : (r : Run) (told : List (List ℕ × List ℕ)) (files : List FileUse) (reads others : List LampFile) → r.files ≡ Some told → length reads ≡ length others
    → WereRead r.files files reads → WereRead (Some told) files others → tables_of reads ≡ tables_of others
same_tables r told files reads others e size were can =
    same_lists (tables_of reads) (tables_of others) nothing_read.table (length-map reads (λ (read : LampFile). read.table) ∙ (size ∙ sym (length-map others (λ (read : LampFile). read.table))))
    (λ k l. let h : k < length reads = rw (length-map reads (λ (read : LampFile). read.table)) at l in
    table_in reads k ∙ (one_read r told (file_at files k) (slice_index_or reads k nothing_read) (slice_index_or others k nothing_read) e (were.each k h) (can.each k (rw (size) at h))
    ∙ sym (table_in others k)))

-- ---- rooms

-- a room within its limits has a scene
has_scene : (tables : List Table) (room : Room) (given : Status) (text : List ℕ) → IsWithinLimits tables room → HasNoScene tables room given text → ⊥
has_scene tables room given text w h = by_fault h.fault h.no_want h.cause
  where
    by_fault : (f : SceneFault) → f ≢ scene_fault.Memory → IsCause tables room f → ⊥
    by_fault scene_fault.TotalIntensity n bright = let dim = w.dim in absurd (omega arith)
    by_fault (scene_fault.TooManyPatches count) n many = let m = many.1 in let few = w.few in absurd (omega arith)
    by_fault scene_fault.NoTaskPoint n none = let z = none.2 in let some = w.some_open in absurd (omega arith)
    by_fault scene_fault.Memory n want = n refl

less_than_itself : (a b : Fraction) → a <ᶠ b → b ≤ᶠ a → ⊥
less_than_itself a b less most = let l = (lt_le_trans_f less most).cross in absurd (omega arith)

-- and a mild room is not refused for a row
has_no_heavy_row : (tables : List Table) (room : Room) (given : Status) (text : List ℕ) → IsMild room → HasHeavyRow tables room given text → ⊥
has_no_heavy_row tables room given text m h = less_than_itself _ _ (h.heavy.heavy m.depth m.deep) (m.row h.row h.heavy.in_room)

is_served : (tables : List Table) (room : Room) (given : Status) (text : List ℕ) → IsWithinLimits tables room → IsMild room → IsNotServed tables room given text → ⊥
is_served tables room given text w m (inl none) = has_scene tables room given text w none
is_served tables room given text w m (inr heavy) = has_no_heavy_row tables room given text m heavy

-- the room is served by the tables that were read
pub served_by : (r : Run) (told : List (List ℕ × List ℕ)) (room : Room) (reads : List LampFile) (given : Status) (text : List ℕ) → r.files ≡ Some told → CanLight (Some told) room
    → length reads ≡ length room.files → WereRead r.files room.files reads → IsNotServed (tables_of reads) room given text → ⊥
served_by r told room reads given text e can all read none =
    let same = same_tables r told room.files reads can.reads e (all ∙ sym can.all) read can.read in
    is_served (tables_of reads) room given text (subst (λ (ts : List Table). IsWithinLimits ts room) (sym same) can.within) can.mild none
