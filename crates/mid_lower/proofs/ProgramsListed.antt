-- Lowered functions and programs, as lists and by their definitions; they are few enough.
use Rattle.std.proofs.Common.{◌≡◌, ℕ, suc, ◌+◌, ◌*◌, ◌≤◌, List, [], ◌∷◌, ◌++◌, length, map, sum_by, slice_get, Some, refl, sym, ap, ◌∙◌, arith}
use Rattle.std.proofs.lemmas.List.Sums.{sum_by-cons}
use Rattle.c_types.specs.Types.{VoidY}
use Rattle.c_types.specs.Typed.{TStmtT, TStmtTs}
use Rattle.c_types.specs.Programs.{TFunctionT, ProgramT}
use Rattle.c_types.specs.Nodes.{statement_nodes, statements_nodes, function_nodes, program_nodes}
use Rattle.c_types.specs.View.{tstmts}
use Rattle.mid_code.specs.Code.{FunctionT}
use Rattle.lower_trees.specs.Shape.{Shape, shape}
use Rattle.lower_trees.specs.Parts.{first_param}
use Rattle.lower_trees.specs.Statements.{ToEnd, low_stmts}
use Rattle.lower_trees.specs.ListedFunctions.{IsFew, AreFew}
use Rattle.lower_trees.specs.Counts.{stmts_temps, stmts_sizes}
use Rattle.lower_trees.specs.Lowered as c
use Rattle.lower_trees.specs.ListedFunctions as l
use Rattle.mid_lower.proofs.Onto.{whole}
use Rattle.mid_lower.proofs.Counted.{stmts_few, stmts_sizes_few}

pub function_listed : (h : Shape) (f : TFunctionT) → l.low_function h f ≡ c.low_function h f
function_listed h f = λ i. record {
  temps = c.first_of f.params + stmts_temps f.body;
  params = c.with_result f.gives (c.args_from first_param f.params);
  locals = f.locals ++ stmts_sizes h f.body;
  gives = (c.low_function h f).gives;
  body = whole (c.low_body h f) i;
}

pub functions_listed : (h : Shape) (fs : List TFunctionT) → map (l.low_function h) fs ≡ map (c.low_function h) fs
functions_listed h [] = refl
functions_listed h (f ∷ fs) = let e = function_listed h f in let r = functions_listed h fs in λ i. e i ∷ r i

pub start_listed : (p : ProgramT) → l.low_start (shape p) (tstmts p.inits) ≡ c.low_start p
start_listed p =
    let body = whole (low_stmts (shape p) VoidY (tstmts p.inits) first_param 0 0 (ToEnd 0)) in
    λ i. record {
      temps = first_param + stmts_temps (tstmts p.inits);
      params = [];
      locals = stmts_sizes (shape p) (tstmts p.inits);
      gives = (c.low_start p).gives;
      body = body i;
    }

-- ---- few

few_body : (h : Shape) (first local : ℕ) (body : TStmtTs) → first + 2 * statements_nodes body ≤ 1000000 → local + statements_nodes body ≤ 1000000 → IsFew h first local body
few_body h first local body t m =
    let a = stmts_few body in
    let b = stmts_sizes_few h body in
    record { temps = omega (arith, a, t); locals = omega (arith, b, m); nodes = omega (arith, m) }

pub few_functions : (h : Shape) (fs : List TFunctionT) → sum_by function_nodes fs ≤ 200000 → ((k : ℕ) (f : TFunctionT) → slice_get fs k ≡ Some f → length f.locals ≤ 200000) → AreFew h fs
few_functions h [] few locals = tt
few_functions h (f ∷ fs) few locals =
    let e = sum_by-cons function_nodes f fs in
    let n = locals 0 f refl in
    (few_body h (c.first_of f.params) (length f.locals) f.body (omega (arith, e, few)) (omega (arith, e, few, n)), few_functions h fs (omega (arith, e, few)) (λ k. locals (suc k)))

pub inits_nodes : (inits : List TStmtT) → statements_nodes (tstmts inits) ≡ sum_by statement_nodes inits
inits_nodes [] = refl
inits_nodes (a ∷ rest) = ap (λ n. statement_nodes a + n) (inits_nodes rest) ∙ sym (sum_by-cons statement_nodes a rest)

pub few_start : (p : ProgramT) → program_nodes p ≤ 200000 → IsFew (shape p) first_param 0 (tstmts p.inits)
few_start p few = let e = inits_nodes p.inits in few_body (shape p) first_param 0 (tstmts p.inits) (omega (arith, e, few)) (omega (arith, e, few))

pub few_all : (p : ProgramT) → program_nodes p ≤ 200000 → ((k : ℕ) (f : TFunctionT) → slice_get p.functions k ≡ Some f → length f.locals ≤ 200000) → AreFew (shape p) p.functions
few_all p few locals = few_functions (shape p) p.functions (omega (arith, few)) locals

-- ---- the whole program

pub lowered_by : (p : ProgramT) (start : FunctionT ℕ) (functions : List (FunctionT ℕ)) (globals : List ℕ) (literals : List (List ℕ)) (main : ℕ) → start ≡ l.low_start (shape p) (tstmts p.inits) → functions ≡ map (l.low_function (shape p)) p.functions
    → globals ≡ map (λ g. g.1) p.globals → literals ≡ p.literals → main ≡ p.main → record { start = start; functions = functions; globals = globals; literals = literals; main = main } ≡ c.lowered p
lowered_by p start functions globals literals main a b d e f =
    let start_is : start ≡ c.low_start p = a ∙ start_listed p in
    let functions_are : functions ≡ map (c.low_function (shape p)) p.functions = b ∙ functions_listed (shape p) p.functions in
    λ i. record { start = start_is i; functions = functions_are i; globals = d i; literals = e i; main = f i }
