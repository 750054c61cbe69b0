use Rattle.v32_console.proofs.Showing.{screen_is}
use Rattle.v32_console.proofs.console.Console.screen.Goals as goal

pub returns-clause-pixels : goal.returns-clause-pixels
returns-clause-pixels c u m stands = screen_is u m _ c.screen.ensures.size (c.screen.ensures.pixels u.textures _ (rw (← c.self.view_is) at stands.board.graphics))
