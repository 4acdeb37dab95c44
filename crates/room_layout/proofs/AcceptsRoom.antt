-- A room that the layout gives is accepted.
use Rattle.std.proofs.Common.{◌≡◌, ℕ, ◌+◌, ◌≤◌, Bool, true, false, not, nat_le, cond, suc, List, [], ◌∷◌, length, All, Option, Some, None, Ok, Err, codes, refl, ap, subst, lit≤, sym, arith}
use Rattle.std.proofs.lemmas.List.Elements.{All-nil, All-cons}
use Rattle.toml.specs.Data.{Data, Members, get_member}
use Rattle.room_layout.specs.declared.fault.Key.TheVariants as key
use Rattle.room_layout.specs.declared.fault.RoomFault.{RoomFault}
use Rattle.room_layout.specs.declared.fault.RoomFault.TheVariants as fault
use Rattle.room_layout.specs.declared.fault.Spot.{Spot}
use Rattle.room_layout.specs.declared.geometry.Size.{Size}
use Rattle.room_layout.specs.declared.room.Block.{Block}
use Rattle.room_layout.specs.declared.room.Room.{Room}
use Rattle.room_layout.specs.declared.parts.Shell.{Shell}
use Rattle.room_layout.specs.declared.version.Version.{Version}
use Rattle.room_layout.specs.declared.parts.Lit.{Lit}
use Rattle.room_layout.specs.Checks.{◌>>=◌, demand, spot, optional, array, elements, has_only}
use Rattle.room_layout.specs.Layout.{version_of, document_keys, shell_of, block_of, blocks_from, blocks_of, lamps_from, lamps_of, task_of, limits_of, room_of_document, document_of, room_of}
use Rattle.room_layout.specs.Accepted.{IsBlockIn, IsFileUse, IsAccepted}
use Rattle.room_layout.proofs.Ranges.{bind_ok, ok_same, demand_ok}
use Rattle.room_layout.proofs.Accepts.{le_from, shell_accepted, block_accepted, task_accepted, limits_accepted}
use Rattle.room_layout.proofs.AcceptsLamps.{AreLampsWith, lamps_accepted}

-- ---- how many elements

few_if : (ds : List Data) (most : ℕ) (f : RoomFault) (b : Bool) (es : List Data) → nat_le (length ds) most ≡ b → cond b (Ok ds) (Err f) ≡ Ok es → length es ≤ most
few_if ds most f true es test e = let same : ds ≡ es = ok_same _ es e in subst (λ l. length l ≤ most) same (le_from _ _ test)
few_if ds most f false es test e = absurd (cc)

elements_few : (most : ℕ) (s : Spot) (d : Data) (es : List Data) → elements most s d ≡ Ok es → length es ≤ most
elements_few most s d es e = let (ds, _, e1) = bind_ok (array s d) _ es e in few_if ds most (fault.TooMany s) (nat_le (length ds) most) es refl e1

given_few : (most : ℕ) (s : Spot) (o : Option Data) (es : List Data) → optional [] s (elements most) o ≡ Ok es → length es ≤ most
given_few most s None es e = let same : [] ≡ es = ok_same _ es e in subst (λ l. length l ≤ most) same (omega arith)
given_few most s (Some d) es e = elements_few most s d es e

-- ---- boxes

pub record AreBlocksIn (room : Size) (count : ℕ) (bs : List Block) : Type 0 where
  pub as_many : length bs ≡ count
  pub each_block : All (IsBlockIn room) bs

blocks_accepted : (room : Shell) (i : ℕ) (ds : List Data) (bs : List Block) → blocks_from room i ds ≡ Ok bs → AreBlocksIn room.size (length ds) bs
blocks_accepted room i [] bs e = let same : [] ≡ bs = ok_same _ bs e in subst (AreBlocksIn room.size 0) same (record { as_many = refl; each_block = All-nil (IsBlockIn room.size) })
blocks_accepted room i (d ∷ ds) bs e =
    let (b, first, e1) = bind_ok (block_of room i d) (λ b. blocks_from room (i + 1) ds >>= λ bs. Ok (b ∷ bs)) bs e in
    let (more, rest, e2) = bind_ok (blocks_from room (i + 1) ds) (λ bs. Ok (b ∷ bs)) bs e1 in
    let same : (b ∷ more) ≡ bs = ok_same _ bs e2 in
    let tail = blocks_accepted room (i + 1) ds more rest in
    subst (AreBlocksIn room.size (suc (length ds))) same (record { as_many = ap suc tail.as_many; each_block = All-cons (IsBlockIn room.size) b more (block_accepted room i d b first) tail.each_block })

document_blocks : (room : Shell) (document : Members) (bs : List Block) → blocks_of room document ≡ Ok bs → (length bs ≤ 64) × All (IsBlockIn room.size) bs
unfolding blocks_of
document_blocks room document bs e =
    let (ds, given, e1) = bind_ok (optional [] (spot key.Box 0) (elements 64) (get_member (codes "box") document)) (blocks_from room 0) bs e in
    let blocks = blocks_accepted room 0 ds bs e1 in
    let few = given_few 64 (spot key.Box 0) (get_member (codes "box") document) ds given in
    (subst (λ n. n ≤ 64) (sym blocks.as_many) few, blocks.each_block)

-- the values of the array `lamp`, from which the lamps are read
pub lamps_read : (room : Shell) (document : Members) (r : Lit) → lamps_of room document ≡ Ok r → (ds : List Data) × (optional [] (spot key.Lamp 0) (elements 256) (get_member (codes "lamp") document) ≡ Ok ds) × (lamps_from room 0 [] ds ≡ Ok r)
unfolding lamps_of
lamps_read room document r e = bind_ok (optional [] (spot key.Lamp 0) (elements 256) (get_member (codes "lamp") document)) (lamps_from room 0 []) r e

document_lamps : (room : Shell) (document : Members) (r : Lit) → lamps_of room document ≡ Ok r → (length r.lamps ≤ 256) × AreLampsWith room.size [] (length r.lamps) r
document_lamps room document r e =
    let (ds, given, e1) = lamps_read room document r e in
    let lamps = lamps_accepted room 0 [] ds r (lit≤ tt) e1 in
    let few = given_few 256 (spot key.Lamp 0) (get_member (codes "lamp") document) ds given in
    (subst (λ n. n ≤ 256) (sym lamps.as_many) few, subst (λ n. AreLampsWith room.size [] n r) (sym lamps.as_many) lamps)

-- ---- the room

-- the parts of the room that a document gives
pub record HasParts (document : Members) (r : Room) : Type 0 where
  pub version : Version
  pub shell : Shell
  pub shell_is : shell_of version document ≡ Ok shell
  pub blocks_are : blocks_of shell document ≡ Ok r.blocks
  pub lamps_are : lamps_of shell document ≡ Ok (record { lamps = r.lamps; files = r.files })
  pub task_is : task_of shell document ≡ Ok r.task
  pub limits_are : limits_of document ≡ Ok r.limits
  pub size_is : shell.size ≡ r.size
  pub reflect_is : shell.reflect ≡ r.reflect
  pub patch_is : shell.patch ≡ r.patch

pub room_parts : (document : Members) (r : Room) → room_of_document document ≡ Ok r → HasParts document r
unfolding room_of_document
room_parts document r e =
    let (version, _, e1) = bind_ok (version_of document) _ r e in
    let (v, _, e2) = bind_ok (demand (has_only document_keys document) (fault.Unknown (spot key.Version 0))) _ r e1 in
    let (shell, shell_is, e3) = bind_ok (shell_of version document) _ r e2 in
    let (blocks, blocks_are, e4) = bind_ok (blocks_of shell document) _ r e3 in
    let (lit, lamps_are, e5) = bind_ok (lamps_of shell document) _ r e4 in
    let (task, task_is, e6) = bind_ok (task_of shell document) _ r e5 in
    let (limits, limits_are, e7) = bind_ok (limits_of document) _ r e6 in
    let same : record { size = shell.size; reflect = shell.reflect; patch = shell.patch; blocks = blocks; lamps = lit.lamps; files = lit.files; task = task; limits = limits } ≡ r = ok_same _ r e7 in
    subst (HasParts document) same (record {
      version = version;
      shell = shell;
      shell_is = shell_is;
      blocks_are = blocks_are;
      lamps_are = lamps_are;
      task_is = task_is;
      limits_are = limits_are;
      size_is = refl;
      reflect_is = refl;
      patch_is = refl;
    })

pub room_accepted : (document : Members) (r : Room) → room_of_document document ≡ Ok r → IsAccepted r
room_accepted document r e =
    let parts = room_parts document r e in
    let shell = shell_accepted parts.version document parts.shell parts.shell_is in
    let blocks = document_blocks parts.shell document r.blocks parts.blocks_are in
    let lamps = document_lamps parts.shell document (record { lamps = r.lamps; files = r.files }) parts.lamps_are in
    record {
      size = rw (← parts.size_is) shell.size;
      reflect = rw (← parts.reflect_is) shell.reflect;
      patch = rw (← parts.patch_is) shell.patch;
      block_count = blocks.0;
      each_block = rw (← parts.size_is) blocks.1;
      lamp_count = lamps.0;
      each_lamp = rw (← parts.size_is) lamps.1.each_lamp;
      file_count = lamps.1.few;
      each_file = lamps.1.extends.each_file (All-nil IsFileUse);
      task = rw (← parts.size_is) (task_accepted parts.shell document r.task parts.task_is);
      limits = limits_accepted document r.limits parts.limits_are;
    }

-- ---- texts

pub text_accepted : (bytes : List ℕ) (r : Room) → room_of bytes ≡ Ok r → IsAccepted r
unfolding room_of
text_accepted bytes r e = let (document, _, e1) = bind_ok (document_of bytes) room_of_document r e in room_accepted document r e1
