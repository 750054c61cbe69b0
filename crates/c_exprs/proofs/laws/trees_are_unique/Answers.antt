use Rattle.c_exprs.proofs.Exact.{one_tree}
use Rattle.c_exprs.proofs.laws.trees_are_unique.Goals as goal

pub returns : goal.returns
returns c = record { one = λ k ts us vs e x y g h. one_tree g h }
