-- The start of a program, which fills the globals: it has no call, no port operation, no loop but those of its initialisers, and no zero
-- divisor. Follows from `Sound`.
use Rattle.std.specs.Prelude.{◌≡◌, Bool, true, false, ◌&&◌, ◌||◌, is_some}
use Rattle.std.specs.List.{list_all}
use Rattle.c_tree.specs.declared.operator.UnOp.TheVariants.{Minus, Plus, Not, Flip}
use Rattle.c_types.specs.Typed.{TExprT, Typed, TKindT, NumberK, UnaryK, BinaryK, TInitT, OneI, TextI, ListI, TInitTs, NoI, MoreI, TStmtT, VarsZ}
use Rattle.c_types.specs.Programs.{ProgramT}
use Rattle.c_exprs.specs.Nodes.{constant, kind_of_typed}
use Rattle.c_stmts.specs.Slots.{is_null_or_text}
use Rattle.c_facts.specs.Sound.{IsSound}

-- built of numbers and operators on them alone
abbrev mutual
  pub is_reckoned : TExprT → Bool
  is_reckoned (Typed kind ty span) = is_reckoned_kind kind

  pub is_reckoned_kind : TKindT → Bool
  is_reckoned_kind (NumberK n) = true
  is_reckoned_kind (UnaryK Minus x) = is_reckoned x
  is_reckoned_kind (UnaryK Plus x) = is_reckoned x
  is_reckoned_kind (UnaryK Not x) = is_reckoned x
  is_reckoned_kind (UnaryK Flip x) = is_reckoned x
  is_reckoned_kind (BinaryK op x y) = is_reckoned x && is_reckoned y
  is_reckoned_kind _ = false

-- A value that is there before the program runs: a constant, whose operators have no zero divisor, NULL, or a text.
abbrev pub is_given : TExprT → Bool
is_given x = (is_some (constant x) && is_reckoned x) || is_null_or_text (kind_of_typed x)

abbrev mutual
  pub fills_with_given : TInitT → Bool
  fills_with_given (OneI x) = is_given x
  fills_with_given (TextI number) = true
  fills_with_given (ListI items) = all_fill_with_given items

  pub all_fill_with_given : TInitTs → Bool
  all_fill_with_given NoI = true
  all_fill_with_given (MoreI i rest) = fills_with_given i && all_fill_with_given rest

-- variables of the unit that are filled so
abbrev pub gives_globals : TStmtT → Bool
gives_globals (VarsZ vars) = list_all (λ v. v.global && fills_with_given v.init) vars
gives_globals _ = false

abbrev pub StartsAreGiven : Type 0
StartsAreGiven = (p : ProgramT) → IsSound p → list_all gives_globals p.inits ≡ true
