use Rattle.fx_base.specs.Units.{natural}
use Rattle.room_layout.specs.Place.{place_of}
use Rattle.direct_light.proofs.Shown.{lit_meets, lit_near, dark_meets, dark_near, dark_without_way, way_apart}
use Rattle.direct_light.proofs.Seen.{seen_meets, seen_near, most_of_table}
use Rattle.direct_light.proofs.light.direct.Goals as goal

pub returns-in_default-clause-meets : goal.returns-in_default-clause-meets
returns-in_default-clause-meets c = λ t stands n. dark_meets n _ c.whole.result c.args.lamp.now _ _ c.args.face c.args.clear c.in_default.ensures c.whole.ensures.low c.whole.ensures.high

pub returns-in_default-clause-near : goal.returns-in_default-clause-near
returns-in_default-clause-near c = λ t stands n. dark_near n _ c.whole.result c.args.lamp.now _ _ c.args.face c.args.clear c.in_default.ensures c.whole.ensures.low c.whole.ensures.high

pub returns-in_default-clause-dark : goal.returns-in_default-clause-dark
returns-in_default-clause-dark c = λ dark. (c.whole.ensures.low, c.whole.ensures.high)

pub angles_towards-angles-requires-clause-apart : goal.angles_towards-angles-requires-clause-apart
angles_towards-angles-requires-clause-apart c = way_apart _ _ _ _ _ c.in-Some.ensures

pub returns-clause-meets : goal.returns-clause-meets
returns-clause-meets c = λ t stands n. lit_meets n _ _ c.args.lamp.now _ _ c.args.face c.args.clear c.in-Some.way c.part_count.result c.in-Some.ensures c.part_count.ensures.count
    (c.share.ensures.meets n _ (seen_meets c.args.photo.now t c.args.lamp.now (place_of c.args.from) (place_of c.args.at) c.angles_towards-angles.result c.hull-intensity.result
    c.hull-intensity.ensures.kept.is_table stands (way_apart _ _ _ _ _ c.in-Some.ensures) c.angles_towards-angles.ensures c.hull-intensity.ensures.close n))

pub returns-clause-near : goal.returns-clause-near
returns-clause-near c = λ t stands n. lit_near n _ _ c.args.lamp.now _ _ c.args.face c.args.clear c.in-Some.way c.part_count.result c.in-Some.ensures c.part_count.ensures.count
    (c.share.ensures.close n _ (seen_near c.args.photo.now t c.args.lamp.now (place_of c.args.from) (place_of c.args.at) c.angles_towards-angles.result c.hull-intensity.result
    c.hull-intensity.ensures.kept.is_table stands c.angles_towards-angles.ensures c.hull-intensity.ensures.close n))

pub returns-clause-dark : goal.returns-clause-dark
returns-clause-dark c = λ dark. absurd (dark_without_way _ _ c.args.face c.args.clear c.in-Some.way c.in-Some.ensures dark)

pub returns-clause-most : goal.returns-clause-most
returns-clause-most c = λ m greatest.
    let h = most_of_table (natural c.share.result.hi) (natural c.hull-intensity.result.hi) c.part_count.result m (c.hull-intensity.ensures.below_the_greatest m greatest) c.share.ensures.most in
    rw c.part_count.ensures.count at h
