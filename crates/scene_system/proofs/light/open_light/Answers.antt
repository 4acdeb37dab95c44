use Rattle.std.proofs.Common.{◌≡◌, ◌<◌, length}
use Rattle.std.specs.Prelude.{slice_index_or}
use Rattle.std.proofs.lemmas.List.{get_or_default}
use Rattle.room_layout.specs.Place.{place_of}
use Rattle.direct_light.specs.Shares.{no_table, table_at}
use Rattle.scene_system.proofs.Shares.{file_share, shine_inside}
use Rattle.scene_system.proofs.light.open_light.Goals as goal

pub returns-in-File : goal.returns-in-File
returns-in-File c =
    let photos = c.args.sources.now.photos.now in
    let inside : c.in-File.number < length photos
    = shine_inside photos (length c.args.sources.now.room.now.files) c.args.lamp.now c.in-File.number c.requires.sources.files c.requires.lamp.shine c.in-File.is in
    let e : slice_index_or photos c.in-File.number c.index-sources-file.result ≡ table_at photos c.in-File.number = get_or_default photos c.in-File.number c.index-sources-file.result no_table inside in
    record {
      light = file_share photos c.args.lamp.now (place_of c.args.from) (place_of c.args.at) c.args.face _ c.in-File.number c.direct.result c.in-File.is inside c.requires.sources.kept
          (rw e at c.direct.ensures.meets) (rw e at c.direct.ensures.near) c.direct.ensures.low (rw e at c.direct.ensures.most);
    }
