use Rattle.std.proofs.Common.{rules, arith, ◌≡◌, ◌/◌, get_or, bit_or, cond, eqb, ap, ◌∙◌}
use Rattle.mid_live.proofs.Written.{joined_on}
use Rattle.mid_live.proofs.marked.or_word.Goals as goal

pub returns-clause-is : goal.returns-clause-is
returns-clause-is c = λ y h.
    let ws = c.args.words.now.items in
    let r : c.word-was.result ≡ get_or ws c.args.e.at 0 = search rules in
    joined_on ws c.write.new.ws.items c.args.e.at c.args.e.word y (c.write.ensures.is (y / 64) (omega (arith, h)) ∙ ap (λ z. cond (eqb (y / 64) c.args.e.at) (bit_or z c.args.e.word) (get_or ws (y / 64) 0)) r)
