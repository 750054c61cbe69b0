use Rattle.std.proofs.Common.{refl}
use Rattle.c_rules.specs.Nodes.{array_rule, assign_rule, binary_rule, cast_rule, compound_rule, index_rule, size_rule, store_rule, unary_rule}
use Rattle.c_rules.proofs.LowestCode.{lowest}
use Rattle.c_rules.proofs.laws.answers_have_the_lowest_code.Goals as goal

pub returns : goal.returns
unfolding array_rule assign_rule binary_rule cast_rule compound_rule index_rule size_rule store_rule unary_rule
returns c = record {
  unary = λ op ty place. lowest (unary_rule op ty place) refl;
  binary = λ whole op a b. lowest (binary_rule whole op a b) refl;
  index = λ whole a b. lowest (index_rule whole a b) refl;
  store = λ layouts whole from to. lowest (store_rule layouts whole from to) refl;
  assign = λ layouts whole to place from. lowest (assign_rule layouts whole to place from) refl;
  compound = λ whole op to place from. lowest (compound_rule whole op to place from) refl;
  cast = λ from to. lowest (cast_rule from to) refl;
  size = λ layouts whole ty. lowest (size_rule layouts whole ty) refl;
  array = λ layouts whole of count. lowest (array_rule layouts whole of count) refl;
}
