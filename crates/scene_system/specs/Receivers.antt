-- What is lit: a patch of a room or a task point, where it is and how it faces.
use Rattle.std.specs.Prelude.{ℕ, ◌≡◌, ◌<◌, List, All, length, slice_index_or}
use Rattle.room_layout.specs.Place.{Place, place_of}
use Rattle.room_layout.specs.declared.geometry.Face.{Face}
use Rattle.room_layout.specs.declared.geometry.Face.TheVariants.{Up}
use Rattle.room_layout.specs.declared.geometry.Point.{Point}
use Rattle.sight_index.specs.Vantages.{IsVantage}
use Rattle.sight_index.specs.declared.index.SightIndex.{SightIndex}
use Rattle.patch_mesh.specs.Bounds.{IsPatchIn, IsPointIn, largest_room}
use Rattle.patch_mesh.specs.declared.patch.Patch.{Patch}
use Rattle.patch_mesh.specs.declared.patch.TaskPoint.{TaskPoint}
use Rattle.scene_system.specs.Scene.{no_patch, no_task_point}
use Rattle.scene_system.specs.Sight.{no_vantage}
use Rattle.scene_system.specs.declared.receiver.Lit.{Lit}
use Rattle.scene_system.specs.declared.receiver.Lit.TheVariants as lit
use Rattle.scene_system.specs.declared.receiver.Receiver.{Receiver}

abbrev pub place_lit : Receiver → Place
place_lit r = place_of r.seen.at

-- a point faces up
abbrev pub face_of : Lit → Face
face_of (lit.Patch p) = p.face
face_of lit.Point = Up

abbrev pub face_lit : Receiver → Face
face_lit r = face_of r.lit

-- what is lit at a point is a patch round it, or the point itself
abbrev pub IsLitAt : Point → Lit → Type 0
IsLitAt at (lit.Patch p) = IsPatchIn largest_room p × (p.centre ≡ at)
IsLitAt at lit.Point = IsPointIn largest_room at

pub record IsReceiver (index : SightIndex) (r : Receiver) : Type 0 where
  pub vantage : IsVantage index r.seen
  pub there : IsLitAt r.seen.at r.lit

-- ---- lists of receivers by their numbers

abbrev pub no_receiver : Receiver
no_receiver = record { seen = no_vantage; lit = lit.Point }

abbrev pub receiver_at : List Receiver → ℕ → Receiver
receiver_at receivers k = slice_index_or receivers k no_receiver

abbrev pub places_lit : List Receiver → ℕ → Place
places_lit receivers k = place_lit (receiver_at receivers k)

abbrev pub faces_lit : List Receiver → ℕ → Face
faces_lit receivers k = face_lit (receiver_at receivers k)

-- they are at the first `count` of these places, with these faces
pub record AreReceiversAt (index : SightIndex) (place : ℕ → Place) (face : ℕ → Face) (count : ℕ) (receivers : List Receiver) : Type 0 where
  pub size : length receivers ≡ count
  pub each : All (IsReceiver index) receivers
  pub places : (k : ℕ) → k < count → places_lit receivers k ≡ place k
  pub faces : (k : ℕ) → k < count → faces_lit receivers k ≡ face k

-- ---- the patches and the task points of a list

abbrev pub centres : List Patch → ℕ → Place
centres patches k = place_of (slice_index_or patches k no_patch).centre

abbrev pub facings : List Patch → ℕ → Face
facings patches k = (slice_index_or patches k no_patch).face

abbrev pub task_places : List TaskPoint → ℕ → Place
task_places points k = place_of (slice_index_or points k no_task_point).at
