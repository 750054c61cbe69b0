use Rattle.std.proofs.Common.{◌+◌, ◌*◌, ◌∙◌, get_or, arith}
use Rattle.pix_lanes.proofs.LaneSteps.{bytes_of_pairs, spread_half}
use Rattle.pix_lanes.proofs.eight.alphas.Goals as goal

pub returns-clause-first : goal.returns-clause-first
returns-clause-first c j h =
    let s = spread_half (get_or c.args.rest (2 * j) 0) (get_or c.args.rest (2 * j + 1) 0) _ _ _ _
    (c.requires.bytes.byte (2 * j) (omega arith)) (c.requires.bytes.byte (2 * j + 1) (omega arith))
    (c.words.ensures.each j h) (c.upper_halves-alone.ensures.each j h) (c.raised.ensures.each j h) (c.sums.ensures.each j h) in
    c.halves.ensures.lower j h ∙ s.0

pub returns-clause-second : goal.returns-clause-second
returns-clause-second c j h =
    let s = spread_half (get_or c.args.rest (2 * j) 0) (get_or c.args.rest (2 * j + 1) 0) _ _ _ _
    (c.requires.bytes.byte (2 * j) (omega arith)) (c.requires.bytes.byte (2 * j + 1) (omega arith))
    (c.words.ensures.each j h) (c.upper_halves-alone.ensures.each j h) (c.raised.ensures.each j h) (c.sums.ensures.each j h) in
    c.halves.ensures.upper j h ∙ s.1

pub returns-clause-bytes : goal.returns-clause-bytes
returns-clause-bytes c = bytes_of_pairs c.halves.result c.args.rest (returns-clause-first c) (returns-clause-second c) c.requires.bytes
