use Rattle.std.proofs.Common.{get_or, refl}
use Rattle.gpu_state.specs.Places.{place}
use Rattle.gpu_state.specs.Commands.{Draw}
use Rattle.gpu_state.specs.Changes.{drawing_with}
use Rattle.gpu_state.proofs.Drawn.{left_out, done_now, points_are, pixel_after}
use Rattle.gpu_state.proofs.Opaque.{does_opaque}
use Rattle.gpu_state.proofs.drawing.draw.Goals as goal

pub returns-then-points-left-clause-done : goal.returns-then-points-left-clause-done
unfolding drawing_with
returns-then-points-left-clause-done c =
    let e = points_are (drawing_with c.args.texture.now c.args.region c.args.settings) c.reach-columns.result.from c.reach-columns.result.to
    c.reach-rows.result.from c.reach-rows.result.to c.reach-columns.ensures.ordered c.reach-columns.ensures.within c.reach-rows.ensures.ordered c.reach-rows.ensures.within
    c.reach-columns.ensures.places c.reach-rows.ensures.places in
    left_out (Draw (drawing_with c.args.texture.now c.args.region c.args.settings)) c.args.left c.args.screen.now (rw e c.if-points-left.true)

pub returns-clause-done : goal.returns-clause-done
unfolding drawing_with
returns-clause-done c =
    let e = points_are (drawing_with c.args.texture.now c.args.region c.args.settings) c.reach-columns.result.from c.reach-columns.result.to
    c.reach-rows.result.from c.reach-rows.result.to c.reach-columns.ensures.ordered c.reach-columns.ensures.within c.reach-rows.ensures.ordered c.reach-rows.ensures.within
    c.reach-columns.ensures.places c.reach-rows.ensures.places in
    done_now (Draw (drawing_with c.args.texture.now c.args.region c.args.settings)) c.args.left _ c.args.screen.now c.draw_on.new.screen (rw e c.if-points-left.false) (rw e refl)
    (λ x y h k. pixel_after (drawing_with c.args.texture.now c.args.region c.args.settings) c.reach-columns.result.from c.reach-columns.result.to c.reach-columns.result.first
    c.reach-rows.result.from c.reach-rows.result.to c.reach-rows.result.first x y (get_or c.args.screen.now (place x y) 0) (get_or c.draw_on.new.screen (place x y) 0)
    (c.reach-columns.ensures.places x h) (c.reach-rows.ensures.places y k) (c.reach-columns.ensures.texture x) (c.reach-rows.ensures.texture y)
    (λ a b d f. rw (← c.blend_mode-mode.ensures.mode) (c.draw_on.ensures.inside x y a b d f)) (c.draw_on.ensures.beside x y h) (c.draw_on.ensures.above x y h))

pub returns-clause-opaque : goal.returns-clause-opaque
returns-clause-opaque c = does_opaque _ _ _ c.args.screen.now c.draw_on.new.screen (returns-clause-done c) c.requires.opaque c.type_inv.screen
