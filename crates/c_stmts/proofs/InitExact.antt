-- The rules of initialisers and the function agree.
use Rattle.std.proofs.Common.{◌≡◌, Bool, List, Option, Result, Ok, Err, refl}
use Rattle.c_tree.specs.declared.span.Span.{Span}
use Rattle.c_tree.specs.Tree.{ExprT, InitT, InitTs}
use Rattle.c_tree.specs.Tree as tree
use Rattle.c_types.specs.Types.{Ty}
use Rattle.c_types.specs.Typed.{TExprT, TInitT, ListI, TInitTs, MoreI}
use Rattle.c_rules.specs.declared.code.Code.TheVariants.{WrongType}
use Rattle.c_exprs.specs.Env.{Text, Ctx}
use Rattle.c_exprs.specs.declared.error.Fault.{Fault}
use Rattle.c_exprs.specs.Faults.{◌>>=◌, placed, demanded}
use Rattle.c_exprs.specs.Nodes.{span_of}
use Rattle.c_exprs.specs.Typing.{Typer, as_value, typed}
use Rattle.c_exprs.specs.Types.{Values}
use Rattle.c_exprs.proofs.Exact.{ValueOut, value_good, value_bad}
use Rattle.c_stmts.proofs.Values.{value_outcome}
use Rattle.c_stmts.specs.Slots.{Slots, slots_for, next_slot, later_slots, item_count, has_room, filled}
use Rattle.c_stmts.specs.InitTyping.{filled_by, all_filled_by}
use Rattle.c_stmts.specs.InitTypes as good
use Rattle.c_stmts.specs.InitTypes.{Fills, AllFill}
use Rattle.c_stmts.specs.InitBreaks as bad
use Rattle.c_stmts.specs.InitBreaks.{NoFill, NotAllFill}

abbrev pub FillOut : Ctx → List Text → Bool → Option Ty → InitT → Typer TInitT → Type 0
FillOut c ts global target i (Ok x) = Fills c ts global target i x.0 x.1
FillOut c ts global target i (Err f) = NoFill c ts global target i f

abbrev pub AllFillOut : Ctx → List Text → Bool → Slots → InitTs → Typer TInitTs → Type 0
AllFillOut c ts global slots is (Ok x) = AllFill c ts global slots is x.0 x.1
AllFillOut c ts global slots is (Err f) = NotAllFill c ts global slots is f

one_2 : (c : Ctx) (ts : List Text) (global : Bool) (target : Option Ty) (e : ExprT) (x : TExprT × List Text) → Values c ts e x.0 x.1 → (r : Result TInitT Fault) → placed (span_of e) (filled global target x.0) ≡ r → FillOut c ts global target (tree.OneI e) (r >>= λ i. Ok (i, x.1))
one_2 c ts global target e x g0 (Ok i) g1 = good.one g0 g1
one_2 c ts global target e x g0 (Err f) g1 = bad.one g0 g1

one_1 : (c : Ctx) (ts : List Text) (global : Bool) (target : Option Ty) (e : ExprT) → (r : Result (TExprT × List Text) Fault) → ValueOut c ts e r → FillOut c ts global target (tree.OneI e) (r >>= λ x. placed (span_of e) (filled global target x.0) >>= λ i. Ok (i, x.1))
one_1 c ts global target e (Ok x) g0 = one_2 c ts global target e x g0 (placed (span_of e) (filled global target x.0)) refl
one_1 c ts global target e (Err f) g0 = bad.one_part g0

list_2 : (c : Ctx) (ts : List Text) (global : Bool) (target : Option Ty) (items : InitTs) (s : Span) (xs : TInitTs × List Text) → AllFill c ts global (slots_for c.layouts target) items xs.0 xs.1 → (r : Result (Unit {0}) Fault) → demanded s WrongType (has_room (item_count items) (slots_for c.layouts target)) ≡ r → FillOut c ts global target (tree.ListI items s) (r >>= λ _. Ok (ListI xs.0, xs.1))
list_2 c ts global target items s xs g0 (Ok tt) g1 = good.list g0 g1
list_2 c ts global target items s xs g0 (Err f) g1 = bad.list g0 g1

list_1 : (c : Ctx) (ts : List Text) (global : Bool) (target : Option Ty) (items : InitTs) (s : Span) → (r : Result (TInitTs × List Text) Fault) → AllFillOut c ts global (slots_for c.layouts target) items r → FillOut c ts global target (tree.ListI items s) (r >>= λ xs. demanded s WrongType (has_room (item_count items) (slots_for c.layouts target)) >>= λ _. Ok (ListI xs.0, xs.1))
list_1 c ts global target items s (Ok xs) g0 = list_2 c ts global target items s xs g0 (demanded s WrongType (has_room (item_count items) (slots_for c.layouts target))) refl
list_1 c ts global target items s (Err f) g0 = bad.list_part g0

more_items_2 : (c : Ctx) (ts : List Text) (global : Bool) (slots : Slots) (i : InitT) (rest : InitTs) (x : TInitT × List Text) → Fills c ts global (next_slot slots) i x.0 x.1 → (r : Result (TInitTs × List Text) Fault) → AllFillOut c x.1 global (later_slots slots) rest r → AllFillOut c ts global slots (tree.MoreI i rest) (r >>= λ xs. Ok (MoreI x.0 xs.0, xs.1))
more_items_2 c ts global slots i rest x g0 (Ok xs) g1 = good.more_items g0 g1
more_items_2 c ts global slots i rest x g0 (Err f) g1 = bad.item_later g0 g1

more_items_1 : (c : Ctx) (ts : List Text) (global : Bool) (slots : Slots) (i : InitT) (rest : InitTs) → (r : Result (TInitT × List Text) Fault) → FillOut c ts global (next_slot slots) i r → ((us : List Text) → AllFillOut c us global (later_slots slots) rest (all_filled_by c us global (later_slots slots) rest)) → AllFillOut c ts global slots (tree.MoreI i rest) (r >>= λ x. all_filled_by c x.1 global (later_slots slots) rest >>= λ xs. Ok (MoreI x.0 xs.0, xs.1))
more_items_1 c ts global slots i rest (Ok x) g0 h1 = more_items_2 c ts global slots i rest x g0 (all_filled_by c x.1 global (later_slots slots) rest) (h1 x.1)
more_items_1 c ts global slots i rest (Err f) g0 h1 = bad.item_here g0

mutual
  pub fill_outcome : (c : Ctx) (ts : List Text) (global : Bool) (target : Option Ty) (i : InitT) → FillOut c ts global target i (filled_by c ts global target i)
  fill_outcome c ts global target (tree.OneI e) = one_1 c ts global target e (as_value c (span_of e) (typed c ts e)) (value_outcome c ts e)
  fill_outcome c ts global target (tree.ListI items s) = list_1 c ts global target items s (all_filled_by c ts global (slots_for c.layouts target) items) (all_fill_outcome c ts global (slots_for c.layouts target) items)

  pub all_fill_outcome : (c : Ctx) (ts : List Text) (global : Bool) (slots : Slots) (is : InitTs) → AllFillOut c ts global slots is (all_filled_by c ts global slots is)
  all_fill_outcome c ts global slots tree.NoI = good.no_items
  all_fill_outcome c ts global slots (tree.MoreI i rest) = more_items_1 c ts global slots i rest (filled_by c ts global (next_slot slots) i) (fill_outcome c ts global (next_slot slots) i) (λ us. all_fill_outcome c us global (later_slots slots) rest)

mutual
  pub fill_good : {c : Ctx} {ts us : List Text} {global : Bool} {target : Option Ty} {i : InitT} {x : TInitT} → Fills c ts global target i x us → filled_by c ts global target i ≡ Ok (x, us)
  fill_good (good.one g0 g1) = rw (value_good g0, g1) refl
  fill_good (good.list g0 g1) = rw (all_fill_good g0, g1) refl

  pub all_fill_good : {c : Ctx} {ts us : List Text} {global : Bool} {slots : Slots} {is : InitTs} {x : TInitTs} → AllFill c ts global slots is x us → all_filled_by c ts global slots is ≡ Ok (x, us)
  all_fill_good good.no_items = refl
  all_fill_good (good.more_items g0 g1) = rw (fill_good g0, all_fill_good g1) refl

mutual
  pub fill_bad : {c : Ctx} {ts : List Text} {global : Bool} {target : Option Ty} {i : InitT} {f : Fault} → NoFill c ts global target i f → filled_by c ts global target i ≡ Err f
  fill_bad (bad.one_part g0) = rw (value_bad g0) refl
  fill_bad (bad.one g0 g1) = rw (value_good g0, g1) refl
  fill_bad (bad.list_part g0) = rw (all_fill_bad g0) refl
  fill_bad (bad.list g0 g1) = rw (all_fill_good g0, g1) refl

  pub all_fill_bad : {c : Ctx} {ts : List Text} {global : Bool} {slots : Slots} {is : InitTs} {f : Fault} → NotAllFill c ts global slots is f → all_filled_by c ts global slots is ≡ Err f
  all_fill_bad (bad.item_here g0) = rw (fill_bad g0) refl
  all_fill_bad (bad.item_later g0 g1) = rw (fill_good g0, all_fill_bad g1) refl
