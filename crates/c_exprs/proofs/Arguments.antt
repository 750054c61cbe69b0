-- The arguments of a call as a list.
use Rattle.std.proofs.Common.{◌≡◌, List, [], ◌∷◌, ◌++◌, refl}
use Rattle.std.proofs.lemmas.List.{length-map}
use Rattle.c_rules.specs.declared.code.Code.TheVariants.{WrongType, BadCall}
use Rattle.std.specs.Prelude.{Err}
use Rattle.c_rules.specs.Kinds.{is_number}
use Rattle.c_tree.specs.Tree.{ExprTs}
use Rattle.c_types.specs.Typed.{TExprT}
use Rattle.c_types.proofs.Lists.{listed_texprs}
use Rattle.c_exprs.specs.Calls.{ensured, port_out_call}
use Rattle.c_exprs.specs.Nodes.{type_of_typed}

-- a word and more behind the port
pub out_more : (args : ExprTs) (x : TExprT) (xs : List TExprT) (last : TExprT) → port_out_call args (x ∷ xs ++ last ∷ []) ≡ ensured WrongType (is_number (type_of_typed x)) (Err BadCall)
out_more args x [] last = refl
out_more args x (y ∷ xs) last = refl

pub ruleset arguments = (listed_texprs, length-map)
