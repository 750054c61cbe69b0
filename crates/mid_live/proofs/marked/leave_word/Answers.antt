use Rattle.std.proofs.Common.{rules, arith, ◌≡◌, ◌/◌, ◌^◌, ◌<◌, get_or, bit_and, cond, eqb, ap, ◌∙◌, w64}
use Rattle.std.specs.Int.{bit_not}
use Rattle.mid_live.proofs.Written.{left_off}
use Rattle.mid_live.proofs.marked.leave_word.Goals as goal

pub returns-clause-is : goal.returns-clause-is
returns-clause-is c = λ y h.
    let ws = c.args.words.now.items in
    let w = c.args.e.word in
    let fits : w < 2 ^ 64 = search rules in
    let r : c.word.result ≡ get_or ws c.args.e.at 0 = search rules in
    left_off ws c.write.new.ws.items c.args.e.at w y fits (c.write.ensures.is (y / 64) (omega (arith, h)) ∙ ap (λ z. cond (eqb (y / 64) c.args.e.at) (bit_and z (bit_not w64 w)) (get_or ws (y / 64) 0)) r)
