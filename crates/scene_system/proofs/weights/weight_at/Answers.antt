-- Patch and vantage of one number are those of the patch of that number in the room.
use Rattle.scene_system.specs.Receivers.{face_lit, place_lit}
use Rattle.form_factor.proofs.Coefficients.{blocked_is}
use Rattle.scene_system.proofs.HiddenPairs.{none_kept, seen_kept}
use Rattle.scene_system.proofs.Seen.{open_there, way_there}
use Rattle.scene_system.proofs.weights.weight_at.Goals as goal

pub returns-then-open-eq0 : goal.returns-then-open-eq0
returns-then-open-eq0 c =
    let s = c.args.sources.now in
    none_kept _ _ _ _ _
    (open_there s.room.now s.patches.now c.args.j _ (place_lit c.args.receiver.now) (face_lit c.args.receiver.now) _ c.requires.sources.each_patch c.requires.j c.open_weight-open.ensures)
    c.if-open-eq0.true

pub returns-then-is_clear : goal.returns-then-is_clear
returns-then-is_clear c =
    let s = c.args.sources.now in
    seen_kept _ _ _ _ _
    (open_there s.room.now s.patches.now c.args.j _ (place_lit c.args.receiver.now) (face_lit c.args.receiver.now) _ c.requires.sources.each_patch c.requires.j c.open_weight-open.ensures)
    (way_there s.index.now s.room.now s.patches.now s.lit.now c.args.j _ (place_lit c.args.receiver.now) _ c.requires.sources.each_patch c.requires.j c.requires.sources.each_lit c.if-is_clear.ensures)

pub returns : goal.returns
returns c =
    let s = c.args.sources.now in
    blocked_is _ _ _ _
    (way_there s.index.now s.room.now s.patches.now s.lit.now c.args.j _ (place_lit c.args.receiver.now) _ c.requires.sources.each_patch c.requires.j c.requires.sources.each_lit c.if-is_clear.ensures)
