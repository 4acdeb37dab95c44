use mir.Syntax.{w32}
use mir.Val.{SFits}
use Rattle.std.proofs.Common.{rules, ap, ◌∙◌}
use Rattle.room_layout.specs.Place.{place_of}
use Rattle.direct_light.specs.Directions.{Step, step_from}
use Rattle.direct_light.proofs.Frames.{same_frame, some_step_at}
use Rattle.direct_light.proofs.Seen.{angles_are, narrow_bracket}
use Rattle.direct_light.proofs.Steps.{passed}
use Rattle.direct_light.proofs.angles.angles_towards.Goals as goal

pub gamma-requires-clause-some : goal.gamma-requires-clause-some
gamma-requires-clause-some c =
    let x : SFits w32 c.framed-step.result.x = search rules in
    let y : SFits w32 c.framed-step.result.y = search rules in
    let z : SFits w32 c.framed-step.result.z = search rules in
    let e = same_frame c.args.lamp.now.aim c.step_from.result.x c.step_from.result.y c.step_from.result.z (step_from (place_of c.args.from) (place_of c.args.at))
    c.step_from.ensures.x c.step_from.ensures.y c.step_from.ensures.z in
    some_step_at c.args.lamp.now (place_of c.args.from) (place_of c.args.at) _ _ _ (passed _ _ x (c.framed-step.ensures.x ∙ ap (λ (s : Step). s.x) e)) (passed _ _ y (c.framed-step.ensures.y ∙ ap (λ (s : Step). s.y) e))
    (passed _ _ z (c.framed-step.ensures.z ∙ ap (λ (s : Step). s.z) e)) c.requires.apart

pub returns : goal.returns
returns c =
    let x : SFits w32 c.framed-step.result.x = search rules in
    let y : SFits w32 c.framed-step.result.y = search rules in
    let z : SFits w32 c.framed-step.result.z = search rules in
    let e = same_frame c.args.lamp.now.aim c.step_from.result.x c.step_from.result.y c.step_from.result.z (step_from (place_of c.args.from) (place_of c.args.at))
    c.step_from.ensures.x c.step_from.ensures.y c.step_from.ensures.z in
    angles_are c.args.lamp.now (place_of c.args.from) (place_of c.args.at) _ _ _ _ (passed _ _ x (c.framed-step.ensures.x ∙ ap (λ (s : Step). s.x) e)) (passed _ _ y (c.framed-step.ensures.y ∙ ap (λ (s : Step). s.y) e))
    (passed _ _ z (c.framed-step.ensures.z ∙ ap (λ (s : Step). s.z) e)) c.turn_angle.ensures.meets c.gamma.ensures.meets
    (narrow_bracket c.turn_angle.result c.turn_angle.ensures.natural c.turn_angle.ensures.in_order c.turn_angle.ensures.narrow)
    (narrow_bracket c.gamma.result c.gamma.ensures.natural c.gamma.ensures.in_order c.gamma.ensures.narrow) c.turn_angle.ensures.below c.gamma.ensures.within
