-- What the start of a program fills the globals with.
use Rattle.std.proofs.Common.{◌≡◌, ℕ, Bool, true, false, ◌&&◌, ◌||◌, not, List, [], ◌∷◌, Option, Some, None, refl}
use Rattle.std.specs.Prelude.{is_some, option_and_then}
use Rattle.std.specs.List.{list_all}
use Rattle.c_tree.specs.declared.operator.UnOp.TheVariants.{Minus, Plus, Not, Flip, Deref, Address}
use Rattle.c_tree.specs.declared.operator.BinOp.{BinOp}
use Rattle.c_types.specs.Types.{Ty}
use Rattle.c_types.specs.Typed.{TExprT, Typed, TKindT, NumberK, NullK, LiteralK, GlobalK, LocalK, UnaryK, BinaryK, AssignK, StepK, IndexK, MemberK, ArrowK, CastK, CallK, InK, OutK, WaitK, HaltK, CardK, TInitT, OneI, TextI, ListI, TInitTs, NoI, MoreI, TVarT, TStmtT, BlockZ, EmptyZ, VarsZ, DoZ, IfZ, WhileZ, DoWhileZ, ForZ, SwitchZ, ReturnZ, BreakZ, ContinueZ}
use Rattle.c_rules.specs.Kinds.{is_array, converts}
use Rattle.c_types.specs.Kinds.{is_structure}
use Rattle.c_rules.specs.Constants.{constant_unary, constant_binary}
use Rattle.c_exprs.specs.Nodes.{type_of_typed, kind_of_typed, constant, constant_kind}
use Rattle.c_stmts.specs.Slots.{Slots, slots_of, next_slot, later_slots, is_null_or_text, is_fixed}
use Rattle.c_facts.specs.Sound.{Scene, FillsAs, FillEach, AreFilled, FillsGlobals, FillGlobals, scene}
use Rattle.c_facts.specs.Start.{is_reckoned, is_reckoned_kind, is_given, fills_with_given, all_fill_with_given, gives_globals, StartsAreGiven}

both : (a b : Bool) → a ≡ true → b ≡ true → (a && b) ≡ true
both true b e f = f
both false b e f = e

-- ---- constants

some_then : {A : Type 0} (f : ℕ → Option A) (o : Option ℕ) → is_some (option_and_then f o) ≡ true → is_some o ≡ true
some_then f None h = h
some_then f (Some n) h = refl

mutual
  reckoned : (x : TExprT) → is_some (constant x) ≡ true → is_reckoned x ≡ true
  reckoned (Typed kind ty span) h = kind_reckoned kind h

  kind_reckoned : (kind : TKindT) → is_some (constant_kind kind) ≡ true → is_reckoned_kind kind ≡ true
  kind_reckoned (NumberK n) h = refl
  kind_reckoned (UnaryK Minus x) h = reckoned x (some_then (constant_unary Minus) (constant x) h)
  kind_reckoned (UnaryK Plus x) h = reckoned x (some_then (constant_unary Plus) (constant x) h)
  kind_reckoned (UnaryK Not x) h = reckoned x (some_then (constant_unary Not) (constant x) h)
  kind_reckoned (UnaryK Flip x) h = reckoned x (some_then (constant_unary Flip) (constant x) h)
  kind_reckoned (UnaryK Deref x) h = no_unary (constant x) h
    where
      no_unary : (o : Option ℕ) → is_some (option_and_then (constant_unary Deref) o) ≡ true → is_reckoned_kind (UnaryK Deref x) ≡ true
      no_unary None h = h
      no_unary (Some n) h = h
  kind_reckoned (UnaryK Address x) h = no_unary (constant x) h
    where
      no_unary : (o : Option ℕ) → is_some (option_and_then (constant_unary Address) o) ≡ true → is_reckoned_kind (UnaryK Address x) ≡ true
      no_unary None h = h
      no_unary (Some n) h = h
  kind_reckoned (BinaryK op x y) h =
      let first : is_some (constant x) ≡ true = some_then (λ m. option_and_then (constant_binary op m) (constant y)) (constant x) h in
      both (is_reckoned x) (is_reckoned y) (reckoned x first) (reckoned y (second op (constant x) (constant y) h))
    where
      second : (op : BinOp) (o p : Option ℕ) → is_some (option_and_then (λ m. option_and_then (constant_binary op m) p) o) ≡ true → is_some p ≡ true
      second op None p h = absurd cc
      second op (Some m) None h = h
      second op (Some m) (Some n) h = refl
  kind_reckoned NullK h = h
  kind_reckoned (LiteralK number) h = h
  kind_reckoned (GlobalK number) h = h
  kind_reckoned (LocalK number) h = h
  kind_reckoned (AssignK op x y) h = h
  kind_reckoned (StepK op x) h = h
  kind_reckoned (IndexK x y) h = h
  kind_reckoned (MemberK x offset) h = h
  kind_reckoned (ArrowK x offset) h = h
  kind_reckoned (CastK x) h = h
  kind_reckoned (CallK number xs) h = h
  kind_reckoned (InK number) h = h
  kind_reckoned (OutK number x) h = h
  kind_reckoned WaitK h = h
  kind_reckoned HaltK h = h
  kind_reckoned CardK h = h

fixed_given : (x : TExprT) → is_fixed x ≡ true → is_given x ≡ true
fixed_given x h = by (is_some (constant x)) (is_reckoned x) (is_null_or_text (kind_of_typed x)) (reckoned x) h
  where
    by : (c r n : Bool) → (c ≡ true → r ≡ true) → (c || n) ≡ true → ((c && r) || n) ≡ true
    by true true n k h = refl
    by true false n k h = let e = k refl in absurd cc
    by false r n k h = h

-- ---- initialisers

taken_fixed : (a c s f : Bool) → (not a && c && (not true || (not s && f))) ≡ true → f ≡ true
taken_fixed false true false f h = h
taken_fixed false true true f h = absurd cc
taken_fixed false false s f h = absurd cc
taken_fixed true c s f h = absurd cc

mutual
  given : (s : Scene) (i : TInitT) (target : Option Ty) → FillsAs s true i target → fills_with_given i ≡ true
  given s (OneI x) None h = absurd h
  given s (TextI number) None h = absurd h
  given s (ListI items) None h = absurd h
  given s (OneI x) (Some ty) h = fixed_given x (taken_fixed (is_array ty) (converts (type_of_typed x) ty) (is_structure ty) (is_fixed x) h.1)
  given s (TextI number) (Some ty) h = refl
  given s (ListI items) (Some ty) h = all_given s items (slots_of s.layouts ty) h.1

  all_given : (s : Scene) (items : TInitTs) (slots : Slots) → FillEach s true items slots → all_fill_with_given items ≡ true
  all_given s NoI slots h = refl
  all_given s (MoreI i rest) slots h = both (fills_with_given i) (all_fill_with_given rest) (given s i (next_slot slots) h.0) (all_given s rest (later_slots slots) h.1)

variables_given : (s : Scene) (vs : List TVarT) → AreFilled s true vs → list_all (λ v. v.global && fills_with_given v.init) vs ≡ true
variables_given s [] h = refl
variables_given s (v ∷ vs) h = both (v.global && fills_with_given v.init) _ (both v.global (fills_with_given v.init) h.0.kind (given s v.init (Some v.ty) h.0.filled)) (variables_given s vs h.1)

start_given : (s : Scene) (x : TStmtT) → FillsGlobals s x → gives_globals x ≡ true
start_given s (VarsZ vars) h = variables_given s vars h
start_given s (BlockZ made body) h = absurd h
start_given s EmptyZ h = absurd h
start_given s (DoZ x) h = absurd h
start_given s (IfZ x a b) h = absurd h
start_given s (WhileZ x a) h = absurd h
start_given s (DoWhileZ a x) h = absurd h
start_given s (ForZ made first test step a) h = absurd h
start_given s (SwitchZ x made arms) h = absurd h
start_given s (ReturnZ e) h = absurd h
start_given s BreakZ h = absurd h
start_given s ContinueZ h = absurd h

inits_given : (s : Scene) (xs : List TStmtT) → FillGlobals s xs → list_all gives_globals xs ≡ true
inits_given s [] h = refl
inits_given s (x ∷ xs) h = both (gives_globals x) (list_all gives_globals xs) (start_given s x h.0) (inits_given s xs h.1)

pub starts_given : StartsAreGiven
starts_given p sound = inits_given (scene p) p.inits sound.inits
