-- The rule that an initialiser breaks first.
use Rattle.std.specs.Prelude.{◌≡◌, Bool, List, Option, Err}
use Rattle.c_tree.specs.declared.span.Span.{Span}
use Rattle.c_tree.specs.Tree.{ExprT, InitT, InitTs}
use Rattle.c_tree.specs.Tree as tree
use Rattle.c_types.specs.Types.{Ty}
use Rattle.c_types.specs.Typed.{TExprT, TInitT, TInitTs}
use Rattle.c_rules.specs.declared.code.Code.TheVariants.{WrongType}
use Rattle.c_exprs.specs.Env.{Text, Ctx}
use Rattle.c_exprs.specs.declared.error.Fault.{Fault}
use Rattle.c_exprs.specs.Faults.{placed, demanded}
use Rattle.c_exprs.specs.Nodes.{span_of}
use Rattle.c_exprs.specs.Types.{Values}
use Rattle.c_exprs.specs.Breaks.{NoValue}
use Rattle.c_stmts.specs.Slots.{Slots, slots_for, next_slot, later_slots, item_count, has_room, filled}
use Rattle.c_stmts.specs.InitTypes.{Fills, AllFill}

mutual
  pub data NoFill (c : Ctx) : List Text → Bool → Option Ty → InitT → Fault → Type 0 where
    one_part : {ts : List Text} {global : Bool} {target : Option Ty} {e : ExprT} {f : Fault} → NoValue c ts e f → NoFill c ts global target (tree.OneI e) f
    one : {ts us : List Text} {global : Bool} {target : Option Ty} {e : ExprT} {x : TExprT} {f : Fault} → Values c ts e x us
        → placed (span_of e) (filled global target x) ≡ Err f → NoFill c ts global target (tree.OneI e) f
    list_part : {ts : List Text} {global : Bool} {target : Option Ty} {items : InitTs} {s : Span} {f : Fault}
        → NotAllFill c ts global (slots_for c.layouts target) items f → NoFill c ts global target (tree.ListI items s) f
    list : {ts us : List Text} {global : Bool} {target : Option Ty} {items : InitTs} {s : Span} {xs : TInitTs} {f : Fault}
        → AllFill c ts global (slots_for c.layouts target) items xs us
        → demanded s WrongType (has_room (item_count items) (slots_for c.layouts target)) ≡ Err f →
        NoFill c ts global target (tree.ListI items s) f

  -- the items of a brace list, each for the next place
  pub data NotAllFill (c : Ctx) : List Text → Bool → Slots → InitTs → Fault → Type 0 where
    item_here : {ts : List Text} {global : Bool} {slots : Slots} {i : InitT} {rest : InitTs} {f : Fault} → NoFill c ts global (next_slot slots) i f
        → NotAllFill c ts global slots (tree.MoreI i rest) f
    item_later : {ts us : List Text} {global : Bool} {slots : Slots} {i : InitT} {rest : InitTs} {x : TInitT} {f : Fault}
        → Fills c ts global (next_slot slots) i x us → NotAllFill c us global (later_slots slots) rest f → NotAllFill c ts global slots (tree.MoreI i rest) f
