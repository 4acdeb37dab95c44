-- Either way the share is that of the lamp as it shines, and no more than one of 10^7 cd gives.
use Rattle.std.proofs.Common.{◌≡◌, ◌<◌, ◌*◌, ◌∙◌, length, arith, subst}
use Rattle.std.proofs.lemmas.List.{get_or_default}
use Rattle.fx_base.specs.Units.{natural}
use Rattle.room_layout.specs.Accepted.{IsShine}
use Rattle.room_layout.specs.Place.{place_of}
use Rattle.room_layout.specs.declared.geometry.Face.TheVariants.{Up}
use Rattle.room_layout.specs.declared.room.Shine.TheVariants.{Even, File}
use Rattle.direct_light.specs.Found.{greatest_intensity}
use Rattle.direct_light.specs.Lamps.{part_count}
use Rattle.direct_light.specs.Shares.{no_table, table_at}
use Rattle.direct_light.proofs.Found.{even_most, even_share, file_share}
use Rattle.direct_light.proofs.Rooms.{lamp_of_room}
use Rattle.escape_route.proofs.light.light_of_point.Goals as goal

pub returns-in-Even : goal.returns-in-Even
returns-in-Even c =
    let l = c.args.lamp.now in
    let dim : IsShine (length c.args.room.now.files) (Even c.in-Even.candela) = subst (IsShine (length c.args.room.now.files)) c.in-Even.is c.requires.lamp.shine in
    record {
      light = rw (← c.is_clear-clear.ensures) (even_share c.args.photos.now greatest_intensity l (place_of c.args.from) (place_of c.args.at) Up c.is_clear-clear.result c.in-Even.candela
          c.even_light.result c.in-Even.is c.even_light.ensures.meets c.even_light.ensures.near c.even_light.ensures.low
          (even_most (natural c.even_light.result.hi * part_count l) c.in-Even.candela greatest_intensity (part_count l) (omega (arith, dim)) c.even_light.ensures.most));
    }

pub returns-in-File : goal.returns-in-File
returns-in-File c =
    let photos = c.args.photos.now in
    let shine : IsShine (length c.args.room.now.files) (File c.in-File.number) = subst (IsShine (length c.args.room.now.files)) c.in-File.is c.requires.lamp.shine in
    let count = c.requires.photos in
    let inside : c.in-File.number < length photos = omega (arith, shine, count) in
    let e : c.index-photos-file.result ≡ table_at photos c.in-File.number =
    c.index-photos-file.is ∙ get_or_default photos c.in-File.number c.index-photos-file.result no_table inside in
    record {
      light = rw (← c.is_clear-clear.ensures) (file_share photos greatest_intensity c.args.lamp.now (place_of c.args.from) (place_of c.args.at) Up c.is_clear-clear.result c.in-File.number
          c.index-photos-file.result c.direct.result c.in-File.is inside e c.direct.ensures.meets c.direct.ensures.near c.direct.ensures.low c.direct.ensures.bright);
    }

pub even_light-requires-clause-lamp : goal.even_light-requires-clause-lamp
even_light-requires-clause-lamp c = lamp_of_room c.args.room.now.size (length c.args.room.now.files) c.args.lamp.now c.requires.accepted.size c.requires.lamp

pub direct-requires-clause-lamp : goal.direct-requires-clause-lamp
direct-requires-clause-lamp c = lamp_of_room c.args.room.now.size (length c.args.room.now.files) c.args.lamp.now c.requires.accepted.size c.requires.lamp
