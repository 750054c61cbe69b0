use Rattle.work_laws.proofs.Counted as counted
use Rattle.work_laws.proofs.laws.work_is_counted.Goals as goal

pub returns : goal.returns
returns c = record { output = counted.output; text = counted.text; list = counted.list; copy = counted.copy; label = counted.label; call = counted.call }
