use Rattle.port_bus.proofs.Ruling.{follows}
use Rattle.port_bus.proofs.laws.controls_follow_the_rule.Goals as goal

pub returns : goal.returns
returns c = record { rule = follows }
