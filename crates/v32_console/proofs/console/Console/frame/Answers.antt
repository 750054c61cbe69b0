use Rattle.v32_console.specs.Moments.{console_at}
use Rattle.v32_console.proofs.Frames.{frame_reached}
use Rattle.v32_console.proofs.console.Console.frame.Goals as goal

pub returns-clause-edges : goal.returns-clause-edges
returns-clause-edges c u k stands rest = frame_reached u k c.do_frame.result _ (c.do_frame.ensures.frame u (console_at u k) stands rest)
