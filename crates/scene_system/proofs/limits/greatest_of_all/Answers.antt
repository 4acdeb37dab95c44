use Rattle.scene_system.proofs.Kept.{one_more_kept}
use Rattle.scene_system.proofs.limits.greatest_of_all.Goals as goal

pub loop-photo-preserved : goal.loop-photo-preserved
loop-photo-preserved c =
    let more = one_more_kept c.args.photos.now c.loop-photo.photo-index c.loop-photo.all.items c.push.new.self.items c.photo-item.result c.greatest_of.result c.loop-photo-test.true
    c.photo-item.is c.greatest_of.ensures.greatest c.greatest_of.ensures.kept c.loop-photo.invariant.so_far c.loop-photo.invariant.most c.loop-photo.invariant.kept
    c.in_ok-push.ensures.items in
    record { so_far = more.so_far; most = more.most; kept = more.kept }
