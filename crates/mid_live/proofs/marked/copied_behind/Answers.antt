use Rattle.std.proofs.Common.{rules, arith, ◌≡◌, ◌<◌, ◌∷◌, [], ◌++◌, length, get_or, refl, sym, subst}
use Rattle.mid_live.specs.declared.words.Held.{Held}
use Rattle.mid_live.proofs.Written.{Copied, copied_more, copied_all}
use Rattle.mid_live.proofs.marked.copied_behind.Goals as goal

pub words-preserved-in-Continue-1 : goal.words-preserved-in-Continue-1
words-preserved-in-Continue-1 c =
    let ws = c.args.words.now in
    let k = c.words.i in
    let e : Held = record { at = k; word = get_or ws k 0 } in
    let inside : k < length ws = (let a = c.words-test.true in omega (arith, a)) in
    let more : c.push.new.self.items ≡ c.words.found.items ++ e ∷ [] = search rules in
    subst (λ es. Copied ws c.next-i.result (c.args.first ∷ es)) (sym more) (copied_more ws c.args.marks.now k c.next-i.result (c.args.first ∷ c.words.found.items) e c.requires.held inside refl refl c.next-i.ensures.from c.next-i.ensures.none c.words.invariant)

pub returns-clause-is : goal.returns-clause-is
returns-clause-is c = copied_all c.args.words.now c.words.i (c.args.first ∷ c.words.found.items) (let a = c.words-test.false in omega (arith, a)) c.words.invariant
