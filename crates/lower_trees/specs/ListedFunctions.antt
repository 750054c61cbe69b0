-- Lowered functions whose bodies are told as lists of nodes.
use Rattle.std.specs.Prelude.{ℕ, ◌+◌, ◌≤◌, false, not, ◌||◌, List, [], ◌∷◌, ◌++◌, length}
use Rattle.c_types.specs.Types.{VoidY}
use Rattle.c_types.specs.Typed.{TStmtTs}
use Rattle.c_types.specs.Programs.{TFunctionT}
use Rattle.c_types.specs.Nodes.{statements_nodes}
use Rattle.c_types.specs.Kinds.{is_structure, is_void}
use Rattle.mid_code.specs.Code.{FunctionT}
use Rattle.mid_code.specs.Functions.{listed, joined}
use Rattle.lower_trees.specs.Shape.{Shape}
use Rattle.lower_trees.specs.Pieces.{listing}
use Rattle.lower_trees.specs.Parts.{first_param}
use Rattle.lower_trees.specs.Counts.{stmts_temps, stmts_sizes}
use Rattle.lower_trees.specs.Statements.{ToEnd, low_stmts}
use Rattle.lower_trees.specs.Lowered.{first_of, args_from, with_result, low_body}

abbrev pub low_function : Shape → TFunctionT → FunctionT ℕ
low_function h f = record {
  temps = first_of f.params + stmts_temps f.body;
  params = with_result f.gives (args_from first_param f.params);
  locals = f.locals ++ stmts_sizes h f.body;
  gives = not (is_void f.gives || is_structure f.gives);
  body = joined (listed (listing (low_body h f)));
}

-- what fills the globals, given as statements
abbrev pub low_start : Shape → TStmtTs → FunctionT ℕ
low_start h inits = record {
  temps = first_param + stmts_temps inits;
  params = [];
  locals = stmts_sizes h inits;
  gives = false;
  body = joined (listed (listing (low_stmts h VoidY inits first_param 0 0 (ToEnd 0))));
}

-- The temporaries and locals of a body, and its nodes, are few.
pub record IsFew (h : Shape) (first local : ℕ) (body : TStmtTs) : Type 0 where
  pub temps : first + stmts_temps body ≤ 1000000
  pub locals : local + length (stmts_sizes h body) ≤ 1000000
  pub nodes : statements_nodes body ≤ 1000000

abbrev pub IsFewIn : Shape → TFunctionT → Type 0
IsFewIn h f = IsFew h (first_of f.params) (length f.locals) f.body

abbrev pub AreFew : Shape → List TFunctionT → Type 0
AreFew h [] = Unit {0}
AreFew h (f ∷ fs) = IsFewIn h f × AreFew h fs
