-- The typing of initialisers by rules.
use Rattle.std.specs.Prelude.{◌≡◌, Bool, List, Option, Ok}
use Rattle.c_tree.specs.declared.span.Span.{Span}
use Rattle.c_tree.specs.Tree.{ExprT, InitT, InitTs}
use Rattle.c_tree.specs.Tree as tree
use Rattle.c_types.specs.Types.{Ty}
use Rattle.c_types.specs.Typed.{TExprT, TInitT, ListI, TInitTs, NoI, MoreI}
use Rattle.c_rules.specs.declared.code.Code.TheVariants.{WrongType}
use Rattle.c_exprs.specs.Env.{Text, Ctx}
use Rattle.c_exprs.specs.Faults.{placed, demanded}
use Rattle.c_exprs.specs.Nodes.{span_of}
use Rattle.c_exprs.specs.Types.{Values}
use Rattle.c_stmts.specs.Slots.{Slots, slots_for, next_slot, later_slots, item_count, has_room, filled}

-- Fills c ts global target i x us: under c, after the texts ts, the initialiser i of a global, or of a variable of a function, fills the
-- target as x does, and the texts after it are us.
mutual
  pub data Fills (c : Ctx) : List Text → Bool → Option Ty → InitT → TInitT → List Text → Type 0 where
    one : {ts us : List Text} {global : Bool} {target : Option Ty} {e : ExprT} {x : TExprT} {i : TInitT} → Values c ts e x us
        → placed (span_of e) (filled global target x) ≡ Ok i → Fills c ts global target (tree.OneI e) i us
    list : {ts us : List Text} {global : Bool} {target : Option Ty} {items : InitTs} {s : Span} {xs : TInitTs}
        → AllFill c ts global (slots_for c.layouts target) items xs us
        → demanded s WrongType (has_room (item_count items) (slots_for c.layouts target)) ≡ Ok tt →
        Fills c ts global target (tree.ListI items s) (ListI xs) us

  -- the items of a brace list, each for the next place
  pub data AllFill (c : Ctx) : List Text → Bool → Slots → InitTs → TInitTs → List Text → Type 0 where
    no_items : {ts : List Text} {global : Bool} {slots : Slots} → AllFill c ts global slots tree.NoI NoI ts
    more_items : {ts us vs : List Text} {global : Bool} {slots : Slots} {i : InitT} {rest : InitTs} {x : TInitT} {xs : TInitTs}
        → Fills c ts global (next_slot slots) i x us → AllFill c us global (later_slots slots) rest xs vs
        → AllFill c ts global slots (tree.MoreI i rest) (MoreI x xs) vs
