use Rattle.std.proofs.Common.{◌∙◌, sym, ap}
use Rattle.std.specs.List.{slice_get}
use Rattle.cpu_core.proofs.Spaces.{ram_hit, program_hit, card_hit, no_card_hit}
use Rattle.cpu_core.proofs.memory.Memory.read.Goals as goal

pub returns-in-Some : goal.returns-in-Some
returns-in-Some c =
    rw (← c.self.view_is) (ram_hit _ c.args.address _ c.self.invariant (rw (← c.deref.ensures.value) (sym c.word_of.ensures ∙ c.in-Some.is)))

pub returns-in-Some-word_of : goal.returns-in-Some-word_of
returns-in-Some-word_of c =
    rw (← c.self.view_is) (program_hit _ c.args.address _ c.self.invariant c.ranges.address.fits
    (rw (← c.deref-2.ensures.value) (sym c.word_of-2.ensures ∙ c.in-Some-word_of.is)))

pub returns-in-Some-card : goal.returns-in-Some-card
returns-in-Some-card c =
    rw (← c.self.view_is, c.in-Some-card.is)
    (c.word_of-in-Some-card.ensures
    ∙ rw c.deref-in-Some-card.ensures.value (card_hit c.self.inside.ram.items c.self.inside.program.items c.in-Some-card.card.items c.args.address (rw c.in-Some-card.is at c.self.invariant) c.ranges.address.fits
    (rw (← c.deref.ensures.value) (sym c.word_of.ensures ∙ c.in_default.is))
    (rw (← c.deref-2.ensures.value) (sym c.word_of-2.ensures ∙ c.in_default-word_of.is))))

pub returns-in-None : goal.returns-in-None
returns-in-None c =
    rw (← c.self.view_is, c.in-None.is)
    (no_card_hit c.self.inside.ram.items c.self.inside.program.items c.args.address (rw c.in-None.is at c.self.invariant)
    (rw (← c.deref.ensures.value) (sym c.word_of.ensures ∙ c.in_default.is))
    (rw (← c.deref-2.ensures.value) (sym c.word_of-2.ensures ∙ c.in_default-word_of.is)))
