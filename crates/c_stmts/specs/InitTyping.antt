-- The typing of initialisers. The target is the type that is filled; an item that has no place has none.
use Rattle.std.specs.Prelude.{Bool, List, Option, Ok}
use Rattle.c_tree.specs.Tree.{ExprT, InitT, InitTs}
use Rattle.c_tree.specs.Tree as tree
use Rattle.c_types.specs.Types.{Ty}
use Rattle.c_types.specs.Typed.{TInitT, ListI, TInitTs, NoI, MoreI}
use Rattle.c_rules.specs.declared.code.Code.TheVariants.{WrongType}
use Rattle.c_exprs.specs.Env.{Text, Ctx}
use Rattle.c_exprs.specs.Faults.{◌>>=◌, placed, demanded}
use Rattle.c_exprs.specs.Nodes.{span_of}
use Rattle.c_exprs.specs.Typing.{Typer, as_value, typed}
use Rattle.c_stmts.specs.Slots.{Slots, slots_for, next_slot, later_slots, item_count, has_room, filled}

abbrev mutual
  pub filled_by : Ctx → List Text → Bool → Option Ty → InitT → Typer TInitT
  filled_by c ts global target (tree.OneI e) = do
    x ← as_value c (span_of e) (typed c ts e)
    i ← placed (span_of e) (filled global target x.0)
    Ok (i, x.1)
  filled_by c ts global target (tree.ListI items s) = do
    xs ← all_filled_by c ts global (slots_for c.layouts target) items
    _ ← demanded s WrongType (has_room (item_count items) (slots_for c.layouts target))
    Ok (ListI xs.0, xs.1)

  -- the items of a brace list, each for the next place
  pub all_filled_by : Ctx → List Text → Bool → Slots → InitTs → Typer TInitTs
  all_filled_by c ts global slots tree.NoI = Ok (NoI, ts)
  all_filled_by c ts global slots (tree.MoreI i rest) = do
    x ← filled_by c ts global (next_slot slots) i
    xs ← all_filled_by c x.1 global (later_slots slots) rest
    Ok (MoreI x.0 xs.0, xs.1)
