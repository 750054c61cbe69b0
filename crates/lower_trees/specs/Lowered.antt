-- Typed programs lowered to mid code.
use Rattle.std.specs.Prelude.{ℕ, ◌+◌, not, ◌||◌, List, [], ◌∷◌, ◌++◌, length, map, if◌then◌else◌}
use Rattle.c_types.specs.Types.{Ty, VoidY}
use Rattle.c_types.specs.View.{tstmts}
use Rattle.c_types.specs.Programs.{TFunctionT, ProgramT}
use Rattle.c_types.specs.Kinds.{is_structure, is_void}
use Rattle.mid_code.specs.declared.node.Op.TheVariants as o
use Rattle.mid_code.specs.Code.{Stop, FunctionT, CodeT}
use Rattle.lower_trees.specs.Shape.{Shape, shape, words}
use Rattle.lower_trees.specs.Pieces.{Piece, NothingP, ◌▸◌, EitherP, DoP, BlockP, coded}
use Rattle.lower_trees.specs.Parts.{to, result_at, param_at, first_param, copied_on, made}
use Rattle.lower_trees.specs.Counts.{stmts_temps, stmts_sizes}
use Rattle.lower_trees.specs.Statements.{ToEnd, low_stmts}

-- the temporaries that receive arguments, one for each parameter
abbrev pub args_from : (first : ℕ) → List Ty → List ℕ
args_from a [] = []
args_from a (ty ∷ tys) = a ∷ args_from (a + 1) tys

-- a place for the result comes before them, where it is a structure
abbrev pub with_result : Ty → List ℕ → List ℕ
with_result ty ps = if is_structure ty then result_at ∷ ps else ps

-- the parameter of that number, whose type this is, takes what came to the temporary
abbrev pub received : Shape → Ty → (number a : ℕ) → Piece
received h ty k a =
    EitherP (is_structure ty) (DoP (o.Local to k) ▸ copied_on (words h ty) a)
    (DoP (o.Local (param_at k) k) ▸ DoP (o.Store (param_at k) a))

abbrev pub all_received : Shape → List Ty → (number a : ℕ) → Piece
all_received h [] k a = NothingP
all_received h (ty ∷ tys) k a = received h ty k a ▸ all_received h tys (k + 1) (a + 1)

-- the first temporary of a body
abbrev pub first_of : List Ty → ℕ
first_of tys = first_param + length tys

-- The body stands in a block, which a `break` outside of loops leaves.
abbrev pub low_body : Shape → TFunctionT → Piece
low_body h f =
    made f.made ▸ all_received h f.params 0 first_param
    ▸ BlockP (low_stmts h f.gives f.body (first_of f.params) (length f.locals) 0 (ToEnd 0))

abbrev pub low_function : Shape → TFunctionT → FunctionT ℕ
low_function h f = record {
  temps = first_of f.params + stmts_temps f.body;
  params = with_result f.gives (args_from first_param f.params);
  locals = f.locals ++ stmts_sizes h f.body;
  gives = not (is_void f.gives || is_structure f.gives);
  body = coded (low_body h f) Stop;
}

-- what fills the globals
abbrev pub low_start : ProgramT → FunctionT ℕ
low_start p = record {
  temps = first_param + stmts_temps (tstmts p.inits);
  params = [];
  locals = stmts_sizes (shape p) (tstmts p.inits);
  gives = not (is_void VoidY);
  body = coded (low_stmts (shape p) VoidY (tstmts p.inits) first_param 0 0 (ToEnd 0)) Stop;
}

abbrev pub lowered : ProgramT → CodeT ℕ
lowered p = record {
  start = low_start p;
  functions = map (low_function (shape p)) p.functions;
  globals = map (λ g. g.1) p.globals;
  literals = p.literals;
  main = p.main;
}
