use Rattle.cpu_core.proofs.Cards.{card_shown}
use Rattle.cpu_core.proofs.cpu.Cpu.card.Goals as goal

pub returns : goal.returns
returns c = rw (← c.self.view_is) (card_shown _ _ c.card.ensures.words c.card.ensures.sized)
