-- The rows and the light at the patches are a system, since the receivers are the patches in order.
use Rattle.interval_system.specs.System.{IsSystem}
use Rattle.scene_system.specs.Scene.{patch_count, patch_face, patch_place}
use Rattle.scene_system.proofs.Lit.{lights_placed, rows_placed}
use Rattle.scene_system.proofs.RowLists.{is_system}
use Rattle.scene_system.proofs.assembly.equations.Goals as goal

pub from_rows-system-requires : goal.from_rows-system-requires
from_rows-system-requires g c =
    let s = c.args.sources.now in
    let room = s.room.now in
    let is : IsSystem (record { rows = c.in_ok-rows.rows.items; direct = c.in_ok-direct.direct.items })
    = is_system s.photos.now room (patch_place room) (patch_face room) s.patches.now c.in_ok-rows.rows.items c.in_ok-direct.direct.items c.requires.each_patch
    (rows_placed s.index.now room (patch_place room) (patch_face room) (patch_count room) s.lit.now c.in_ok-rows.rows.items c.requires.each_lit c.in_ok-rows.ensures)
    (lights_placed s.photos.now s.index.now room (patch_place room) (patch_face room) (patch_count room) s.lit.now c.in_ok-direct.direct.items c.requires.each_lit c.in_ok-direct.ensures) in
    record {
      few = is.few;
      square = is.square;
      lights = is.lights;
      light = λ k d l. record { low = (is.light k d l).low; most = (is.light k d l).most };
    }

pub returns : goal.returns
returns g c =
    let s = c.args.sources.now in
    let room = s.room.now in
    record {
      system = c.size-size.ensures.system;
      rows = rw c.from_rows-system.ensures.rows
          (rows_placed s.index.now room (patch_place room) (patch_face room) (patch_count room) s.lit.now c.in_ok-rows.rows.items c.requires.each_lit c.in_ok-rows.ensures);
      lights = rw c.from_rows-system.ensures.direct
          (lights_placed s.photos.now s.index.now room (patch_place room) (patch_face room) (patch_count room) s.lit.now c.in_ok-direct.direct.items c.requires.each_lit c.in_ok-direct.ensures);
    }
