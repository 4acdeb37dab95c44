-- What lights the places of a room: its patches and its lamps.
use Rattle.std.specs.Prelude.{◌≡◌, ◌≤◌, length}
use Rattle.scene_system.specs.Causes.{greatest_total, total_ticks}
use Rattle.scene_system.specs.Parts.{ArePatchesOf}
use Rattle.scene_system.specs.Positions.{ArePointsOf}
use Rattle.scene_system.specs.Receivers.{AreReceiversAt}
use Rattle.scene_system.specs.Scene.{patch_count, patch_face, patch_place}
use Rattle.scene_system.specs.Sight.{IsIndexed}
use Rattle.scene_system.specs.Tables.{AreKept}
use Rattle.scene_system.specs.declared.sources.Sources.{Sources}

-- the patches and lamps of an accepted room, with the index of its boxes and the kept tables of its files; its intensity is within the limit
pub record AreSources (s : Sources) : Type 0 where
  pub indexed : IsIndexed s.room.now s.index.now
  pub each_patch : ArePatchesOf s.room.now s.patches.now
  pub each_lit : AreReceiversAt s.index.now (patch_place s.room.now) (patch_face s.room.now) (patch_count s.room.now) s.lit.now
  pub each_lamp : ArePointsOf s.room.now s.index.now s.lamps.now
  pub files : length s.photos.now ≡ length s.room.now.files
  pub kept : AreKept s.photos.now
  pub dim : total_ticks s.photos.now s.room.now ≤ greatest_total
