use Rattle.v32_console.proofs.Showing.{card_sized}
use Rattle.v32_console.proofs.console.Console.card.Goals as goal

pub returns-clause-size : goal.returns-clause-size
returns-clause-size c = card_sized _ _ c.card.ensures
