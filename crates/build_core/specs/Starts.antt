-- Where the functions of a unit begin.
use Rattle.std.specs.Prelude.{ℕ, List, [], ◌∷◌, Some, None}
use Rattle.c_tree.specs.Tree.{ItemT, RecordD, EnumD, TypedefD, VarsD, FunctionD}

-- the number of the first token of each function's definition, in order
abbrev pub starts_of : List ItemT → List ℕ
starts_of [] = []
starts_of (RecordD is_union name members s ∷ items) = starts_of items
starts_of (EnumD name values s ∷ items) = starts_of items
starts_of (TypedefD ty name s ∷ items) = starts_of items
starts_of (VarsD vs s ∷ items) = starts_of items
starts_of (FunctionD gives name params None s ∷ items) = starts_of items
starts_of (FunctionD gives name params (Some body) s ∷ items) = s.first ∷ starts_of items
