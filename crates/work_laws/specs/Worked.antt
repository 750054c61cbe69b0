-- Small programs, each the tree of the C source above it, and the work that a run of one takes (the page of meanings, section on work).
use Rattle.std.specs.Prelude.{ℕ, ◌≡◌, false, List, [], ◌∷◌, Option, Some, None}
use Rattle.c_tree.specs.declared.operator.BinOp.TheVariants.{Add}
use Rattle.c_types.specs.Types.{Ty, VoidY, IntY, StructY, ArrayY, LayoutT}
use Rattle.c_types.specs.Typed.{TExprT, Typed, TKindT, NumberK, GlobalK, LocalK, BinaryK, AssignK, CallK, OutK, NoX, MoreX, TInitT, OneI, TextI, ListI}
use Rattle.c_types.specs.Typed.{NoI, MoreI, TStmtT, EmptyZ, VarsZ, DoZ, SwitchZ, ReturnZ, BreakZ, TArmTs, CaseB, DefaultB, StmtB, NoB, MoreB}
use Rattle.c_types.specs.Programs.{TFunctionT, ProgramT}
use Rattle.c_types.specs.View.{tstmts}
use Rattle.obj_mem.specs.Runs.{Halted}
use Rattle.c_meaning.specs.Outcomes.{nowhere}
use Rattle.c_meaning.specs.Runs.{c_runs}

-- the run halts and takes so much work, whatever the answers and the card are
pub record Takes (p : ProgramT) (work : ℕ) : Type 0 where
  pub halts : (answers : List ℕ) (card : Option (List ℕ)) → (c_runs p [] 8 answers card).end ≡ Halted
  pub takes : (answers : List ℕ) (card : Option (List ℕ)) → (c_runs p [] 8 answers card).work ≡ work

-- ---- parts of trees, which stand at no tokens

abbrev pub int_of : TKindT → TExprT
int_of kind = Typed kind IntY nowhere

abbrev pub number : ℕ → TExprT
number n = int_of (NumberK n)

-- a variable of main with its initialiser
abbrev pub variable : Ty → TInitT → TStmtT
variable ty init = VarsZ (record { global = false; object = 0; ty = ty; init = init } ∷ [])

-- main with objects of these words, all made with the call
abbrev pub main_of : (locals made : List ℕ) → List TStmtT → TFunctionT
main_of locals made body = record { name = []; params = []; locals = locals; made = made; gives = VoidY; body = tstmts body }

-- a program without globals
abbrev pub program_of : (literals : List (List ℕ)) → (functions : List TFunctionT) → (main : ℕ) → ProgramT
program_of literals functions main = record { layouts = []; globals = []; inits = []; literals = literals; functions = functions; main = main }

-- ---- programs

-- void main() { port_out(GPU_ClearColor, 3); }
-- the call, the statement, and two expressions
abbrev pub one_output : ProgramT
one_output = program_of [] (main_of [] [] (DoZ (Typed (OutK 0x202 (number 3)) VoidY nowhere) ∷ []) ∷ []) 0

-- void main() { int[4] t = "ab"; }
-- the call, the statement, the variable, the initialiser; three cells of the text, and one behind them
abbrev pub a_text : ProgramT
a_text = program_of ((97 ∷ 98 ∷ []) ∷ []) (main_of (4 ∷ []) (0 ∷ []) (variable (ArrayY IntY 4) (TextI 0) ∷ []) ∷ []) 0

-- void main() { int[4] t = {5, 6}; }
-- the call, the statement, the variable, the list; for each item it, its expression and its cell; two cells behind them
abbrev pub a_list : ProgramT
a_list =
    program_of [] (main_of (4 ∷ []) (0 ∷ []) (variable (ArrayY IntY 4) (ListI (MoreI (OneI (number 5)) (MoreI (OneI (number 6)) NoI))) ∷ []) ∷ []) 0

-- struct Q { int a; int b; }; Q x, y; void main() { y = x; }
-- the declaration of x and y, the call, the statement, three expressions; two cells that are read, and two that are stored
abbrev pub pair : LayoutT
pair = record {
  is_union = false;
  members = record { name = 97 ∷ []; offset = 0; ty = IntY } ∷ record { name = 98 ∷ []; offset = 1; ty = IntY } ∷ [];
  size = 2;
}

abbrev pub pair_of : TKindT → TExprT
pair_of kind = Typed kind (StructY 0) nowhere

abbrev pub a_copy : ProgramT
a_copy = record {
  layouts = pair ∷ [];
  globals = (120 ∷ [], 2) ∷ (121 ∷ [], 2) ∷ [];
  inits = VarsZ [] ∷ [];
  literals = [];
  functions = main_of [] [] (DoZ (pair_of (AssignK None (pair_of (GlobalK 1)) (pair_of (GlobalK 0)))) ∷ []) ∷ [];
  main = 0;
}

-- void main() { switch (2) { case 1: break; case 2: break; default: ; } }
-- the call, the statement, its expression, three labels, and one `break`
abbrev pub arms : TArmTs
arms = MoreB (CaseB 1) (MoreB (StmtB BreakZ) (MoreB (CaseB 2) (MoreB (StmtB BreakZ) (MoreB DefaultB (MoreB (StmtB EmptyZ) NoB)))))

abbrev pub a_switch : ProgramT
a_switch = program_of [] (main_of [] [] (SwitchZ (number 2) [] arms ∷ []) ∷ []) 0

-- int f(int x) { return x + 1; } void main() { f(2); }
-- the call of main, the statement, the call and its argument; the `return`, the sum and its two operands
abbrev pub successor : TFunctionT
successor = record {
  name = 102 ∷ [];
  params = IntY ∷ [];
  locals = 1 ∷ [];
  made = 0 ∷ [];
  gives = IntY;
  body = tstmts (ReturnZ (Some (int_of (BinaryK Add (int_of (LocalK 0)) (number 1)))) ∷ []);
}

abbrev pub a_call : ProgramT
a_call = program_of [] (successor ∷ main_of [] [] (DoZ (int_of (CallK 0 (MoreX (number 2) NoX))) ∷ []) ∷ []) 1
