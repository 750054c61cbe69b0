use Rattle.std.proofs.Common.{sym, ◌∙◌}
use Rattle.cpu_core.proofs.Spaces.{ram_taken, card_taken, no_card_taken, ram_stored, card_kept}
use Rattle.cpu_core.proofs.memory.Memory.write.Goals as goal

pub returns-then-put_word-clause-done : goal.returns-then-put_word-clause-done
returns-then-put_word-clause-done c =
    rw (← c.self.view_is) (ram_taken _ c.args.address c.self.invariant (sym c.put_word.ensures.done ∙ c.if-put_word.true))

pub returns-then-put_word-clause-after : goal.returns-then-put_word-clause-after
returns-then-put_word-clause-after c = λ put.
    rw (← c.self.view_is, c.put_word.ensures.after c.if-put_word.true) (ram_stored _ _ _ c.self.invariant (sym c.put_word.ensures.done ∙ c.if-put_word.true))

pub returns-in_default-clause-done : goal.returns-in_default-clause-done
returns-in_default-clause-done c =
    rw (← c.self.view_is, c.in_default.is)
    (no_card_taken c.self.inside.ram.items c.self.inside.program.items c.args.address (rw c.in_default.is at c.self.invariant) (sym c.put_word.ensures.done ∙ c.if-put_word.false))

pub returns-clause-done : goal.returns-clause-done
returns-clause-done c =
    rw (← c.self.view_is, c.in-Some.is)
    (c.put_word-2.ensures.done
    ∙ card_taken c.self.inside.ram.items c.self.inside.program.items c.in-Some.card.items c.args.address (rw c.in-Some.is at c.self.invariant) c.ranges.address.fits
    (sym c.put_word.ensures.done ∙ c.if-put_word.false))

pub returns-clause-after : goal.returns-clause-after
returns-clause-after c = λ put.
    rw (← c.self.view_is, c.in-Some.is, c.put_word-2.ensures.after put, c.put_word.ensures.kept c.if-put_word.false)
    (card_kept c.self.inside.ram.items c.self.inside.program.items c.in-Some.card.items c.args.address _ (rw c.in-Some.is at c.self.invariant) c.ranges.address.fits
    (sym c.put_word-2.ensures.done ∙ put))
