use Rattle.std.proofs.Common.{rules, arith, ◌≡◌, sum}
use Rattle.mid_code.specs.Functions.{function}
use Rattle.mid_code.specs.Choices.{slot_count}
use Rattle.reg_frames.proofs.functions.place_function.Goals as goal

pub overflow_add-size : goal.overflow_add-size
overflow_add-size c =
    let ws = c.args.at.now in
    let f = function c.args.f.now in
    let slots : c.in_ok-p.slots ≡ slot_count ws = search rules in
    let words : c.total.result ≡ sum f.locals = search rules in
    let fits = c.requires.placeable.fits in
    omega (arith, slots, words, fits)
