-- What statements and functions do (the C language guide, sections on statements and functions).
use Rattle.std.specs.Prelude.{ℕ, zero, suc, ◌+◌, ◌==◌, List, [], ◌∷◌, slice_get, Option, Some, None, option_map, if◌then◌else◌}
use Rattle.c_types.specs.Types.{Ty}
use Rattle.c_types.specs.Typed.{TExprT, TStmtT, BlockZ, EmptyZ, VarsZ, DoZ, IfZ, WhileZ, DoWhileZ, ForZ, SwitchZ, ReturnZ, BreakZ, ContinueZ, MaybeZ}
use Rattle.c_types.specs.Typed.{NoneZ, SomeZ, TStmtTs, NoZ, MoreZ, TArmT, CaseB, DefaultB, StmtB, TArmTs, NoB, MoreB}
use Rattle.c_types.specs.Programs.{TFunctionT}
use Rattle.obj_mem.specs.declared.cell.Cell.{Cell}
use Rattle.obj_mem.specs.Stores.{local_object, fresh_all, end_all}
use Rattle.obj_mem.specs.Worlds.{World, on_store, spend}
use Rattle.obj_mem.specs.Queries.{word_of, first_cell}
use Rattle.c_meaning.specs.declared.end.End.TheVariants.{Stray, OutOfBound}
use Rattle.c_meaning.specs.Outcomes.{Val, Went, Through, CutOff, Done, Goes, Breaks, Continues, Returns, Ended, Task, Turn, DoTurn, Body, Before}
use Rattle.c_meaning.specs.Outcomes.{nowhere, asked, then_went, then_done}
use Rattle.c_meaning.specs.Kinds.{span_of}
use Rattle.c_types.specs.Kinds.{is_structure}
use Rattle.c_meaning.specs.Setting.{Setting, words, result_of}
use Rattle.c_meaning.specs.Operators.{converted}
use Rattle.c_meaning.specs.Cells.{cells_set, stored, released}
use Rattle.c_meaning.specs.Expressions.{with_value, tested, dropped, evaluated}
use Rattle.c_meaning.specs.Initialisers.{variables_filled}

-- the objects of a block end as it is left
abbrev pub left : List ℕ → Done → Done
left ks (Goes w) = Goes (on_store (end_all ks) w)
left ks (Breaks w) = Breaks (on_store (end_all ks) w)
left ks (Continues w) = Continues (on_store (end_all ks) w)
left ks (Returns c w) = Returns c (on_store (end_all ks) w)
left ks (Ended end w) = Ended end w

-- ---- loops

-- after the body of a turn: `continue` ends the body, `break` the loop
abbrev pub body_done : Done → (World → Done) → Done
body_done (Goes w) go = go w
body_done (Breaks w) go = Goes w
body_done (Continues w) go = go w
body_done (Returns c w) go = Returns c w
body_done (Ended end w) go = Ended end w

-- A `for` without a condition goes on.
abbrev pub test_done : Setting → (bound : ℕ) → Before → Option TExprT → World → (go other : World → Done) → Done
test_done s n prev None w go other = go w
test_done s n prev (Some x) w go other = tested Ended s n x (evaluated s n prev x w) go other

abbrev pub step_done : Setting → (bound : ℕ) → Before → Option TExprT → World → (World → Done) → Done
step_done s n prev None w go = go w
step_done s n prev (Some x) w go = dropped Ended s n x (evaluated s n prev x w) go

-- a turn of a `while` or `for` begins with the condition
abbrev pub turn : Setting → (bound : ℕ) → Before → (test step : Option TExprT) → (body again : World → Done) → World → Done
turn s n prev test step body again w =
    test_done s n prev test w (λ u. body_done (body u) (λ v. step_done s n prev step v again)) (λ u. Goes u)

-- a turn of a `do` ends with it
abbrev pub do_turn : Setting → (bound : ℕ) → Before → (test : TExprT) → (body again : World → Done) → World → Done
do_turn s n prev x body again w =
    body_done (body w) (λ u. tested Ended s n x (evaluated s n prev x u) again (λ v. Goes v))

-- ---- switches

-- the arms of a switch before the label that the word chooses: its own, else `default`, else they are all before it
abbrev pub arms_before_case : ℕ → TArmTs → Option ℕ
arms_before_case x NoB = None
arms_before_case x (MoreB (CaseB label) rest) = if x == label then Some 0 else option_map (λ k. suc k) (arms_before_case x rest)
arms_before_case x (MoreB DefaultB rest) = option_map (λ k. suc k) (arms_before_case x rest)
arms_before_case x (MoreB (StmtB a) rest) = option_map (λ k. suc k) (arms_before_case x rest)

abbrev pub arms_before_default : TArmTs → ℕ
arms_before_default NoB = 0
arms_before_default (MoreB (CaseB label) rest) = suc (arms_before_default rest)
arms_before_default (MoreB DefaultB rest) = 0
arms_before_default (MoreB (StmtB a) rest) = suc (arms_before_default rest)

abbrev pub case_or_default : Option ℕ → ℕ → ℕ
case_or_default None d = d
case_or_default (Some k) d = k

abbrev pub arms_before : ℕ → TArmTs → ℕ
arms_before x arms = case_or_default (arms_before_case x arms) (arms_before_default arms)

-- how many labels there are
abbrev pub labels : TArmTs → ℕ
labels NoB = 0
labels (MoreB (CaseB label) rest) = suc (labels rest)
labels (MoreB DefaultB rest) = suc (labels rest)
labels (MoreB (StmtB a) rest) = labels rest

-- a `break` has come to its switch
abbrev pub switch_done : Done → Done
switch_done (Goes w) = Goes w
switch_done (Breaks w) = Goes w
switch_done (Continues w) = Continues w
switch_done (Returns c w) = Returns c w
switch_done (Ended end w) = Ended end w

abbrev pub switched : Setting → (bound : ℕ) → TExprT → Val → (ℕ → World → Done) → Done
switched s n x v go = with_value Ended s n x v (λ c w. asked Ended (span_of x) w (word_of c) (λ z. go z w))

-- ---- returning

abbrev pub returned_as : Setting → (bound : ℕ) → Ty → (result value : Cell) → World → Done
returned_as s n ty r c w =
    if is_structure ty then then_went Ended (cells_set nowhere 1 n (words s ty) (Some c) r w) (λ v. Returns (Some r) (on_store (released ty c) v))
    else Returns (Some c) w

-- The value is converted to the result of the function. A structure is stored in its place, also where the call is not used.
abbrev pub returned : Setting → (bound : ℕ) → (result : Cell) → TExprT → Val → Done
returned s n r x v =
    with_value Ended s n x v (λ c w.
    asked Ended (span_of x) w (converted (result_of s w.store.function) c) (λ z. returned_as s n (result_of s w.store.function) r z w))

-- ---- statements

abbrev mutual
  pub does : Setting → (bound : ℕ) → Before → (result : Cell) → TStmtT → World → Done
  does s n prev r (BlockZ made body) w = left made (does_all s n prev r body (on_store (fresh_all s.sizes made) (spend 1 w)))
  does s n prev r EmptyZ w = Goes (spend 1 w)
  does s n prev r (VarsZ vars) w = then_went Ended (variables_filled s n prev vars (spend 1 w)) (λ v. Goes v)
  does s n prev r (DoZ x) w = dropped Ended s n x (evaluated s n prev x (spend 1 w)) (λ v. Goes v)
  does s n prev r (IfZ x a b) w = tested Ended s n x (evaluated s n prev x (spend 1 w)) (does s n prev r a) (does_maybe s n prev r b)
  does s n prev r (WhileZ x a) w = turn s n prev (Some x) None (does s n prev r a) (prev (Turn r (Some x) None a)) (spend 1 w)
  does s n prev r (DoWhileZ a x) w = do_turn s n prev x (does s n prev r a) (prev (DoTurn r a x)) (spend 1 w)
  does s n prev r (ForZ made first test step a) w =
      left made (then_done (does_maybe s n prev r first (on_store (fresh_all s.sizes made) (spend 1 w)))
      (turn s n prev test step (does s n prev r a) (prev (Turn r test step a))))
  does s n prev r (SwitchZ x made arms) w =
      switched s n x (evaluated s n prev x (spend 1 w)) (λ z v.
      left made (switch_done (does_arms s n prev r (arms_before z arms) arms (on_store (fresh_all s.sizes made) (spend (labels arms) v)))))
  does s n prev r (ReturnZ None) w = Returns None (spend 1 w)
  does s n prev r (ReturnZ (Some x)) w = returned s n r x (evaluated s n prev x (spend 1 w))
  does s n prev r BreakZ w = Breaks (spend 1 w)
  does s n prev r ContinueZ w = Continues (spend 1 w)

  pub does_maybe : Setting → (bound : ℕ) → Before → (result : Cell) → MaybeZ → World → Done
  does_maybe s n prev r NoneZ w = Goes w
  does_maybe s n prev r (SomeZ a) w = does s n prev r a w

  pub does_all : Setting → (bound : ℕ) → Before → (result : Cell) → TStmtTs → World → Done
  does_all s n prev r NoZ w = Goes w
  does_all s n prev r (MoreZ a rest) w = then_done (does s n prev r a w) (does_all s n prev r rest)

  pub does_arm : Setting → (bound : ℕ) → Before → (result : Cell) → TArmT → World → Done
  does_arm s n prev r (CaseB label) w = Goes w
  does_arm s n prev r DefaultB w = Goes w
  does_arm s n prev r (StmtB a) w = does s n prev r a w

  -- the arms without so many first ones
  pub does_arms : Setting → (bound : ℕ) → Before → (result : Cell) → (before : ℕ) → TArmTs → World → Done
  does_arms s n prev r k NoB w = Goes w
  does_arms s n prev r zero (MoreB a rest) w = then_done (does_arm s n prev r a w) (does_arms s n prev r zero rest)
  does_arms s n prev r (suc k) (MoreB a rest) w = does_arms s n prev r k rest w

-- ---- functions

-- each parameter, from a number on, takes its argument
abbrev pub params_stored : Setting → (bound number : ℕ) → List Ty → List Cell → World → Went
params_stored s n k [] [] w = Through w
params_stored s n k (ty ∷ tys) (c ∷ cs) w =
    asked CutOff nowhere w (first_cell (local_object w.store.locals k)) (λ p.
    then_went CutOff (stored s n 0 ty nowhere p c w) (params_stored s n (k + 1) tys cs))
params_stored s n k _ _ w = CutOff (Stray nowhere) w

-- The objects that are made with the call are made; the parameters take the arguments.
abbrev pub body_of : Setting → (bound : ℕ) → Before → Option TFunctionT → (args : List Cell) → (result : Cell) → World → Done
body_of s n prev None vs r w = Ended (Stray nowhere) w
body_of s n prev (Some g) vs r w =
    then_went Ended (params_stored s n 0 g.params vs (on_store (fresh_all s.sizes (g.made)) w)) (does_all s n prev r g.body)

-- ---- the bound

abbrev pub task_done : Setting → (bound : ℕ) → Before → Task → World → Done
task_done s n prev (Turn r test step a) w = turn s n prev test step (does s n prev r a) (prev (Turn r test step a)) w
task_done s n prev (DoTurn r a x) w = do_turn s n prev x (does s n prev r a) (prev (DoTurn r a x)) w
task_done s n prev (Body f vs r) w = body_of s n prev (slice_get s.functions f) vs r w

-- what is done with one less than a bound; less than 0 is out of bound
abbrev pub below : Setting → (bound : ℕ) → Before
below s zero task w = Ended OutOfBound w
below s (suc n) task w = task_done s n (below s n) task w
