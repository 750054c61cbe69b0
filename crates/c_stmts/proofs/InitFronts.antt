-- What comes before the rest of a brace list that is filled from left to right.
use Rattle.std.proofs.Common.{◌≡◌, ℕ, ◌+◌, Bool, List, [], ◌∷◌, ◌++◌, Ok, Err, refl, length, map, add-one, length-append}
use Rattle.c_tree.specs.declared.variable.Init.{Init}
use Rattle.c_tree.specs.Tree.{InitT, InitTs, MoreI}
use Rattle.c_tree.specs.View.{init, inits}
use Rattle.c_types.specs.Typed.{TInitT, TInitTs, NoI}
use Rattle.c_types.specs.Typed as typed
use Rattle.c_types.specs.View.{tinits}
use Rattle.c_types.specs.Lists.{tinits_then}
use Rattle.c_types.proofs.Lists.{tinits_end, tinits_push}
use Rattle.c_exprs.specs.Env.{Text, Ctx}
use Rattle.c_exprs.specs.declared.error.Fault.{Fault}
use Rattle.c_exprs.specs.Faults.{◌>>=◌}
use Rattle.c_exprs.specs.Typing.{Typer}
use Rattle.c_stmts.specs.Slots.{Slots, next_slot, item_count}
use Rattle.c_stmts.specs.inner.Places.{slots_behind}
use Rattle.c_stmts.specs.InitTyping.{filled_by, all_filled_by}
use Rattle.c_stmts.proofs.Places.{behind-more, behind-none}

-- the trees so far, before those that are still to be typed
abbrev pub before : List TInitT → Typer TInitTs → Typer TInitTs
before xs r = r >>= λ y. Ok (tinits_then xs y.0, y.1)

pub before-none : (r : Typer TInitTs) → before [] r ≡ r
before-none (Ok y) = refl
before-none (Err e) = refl

pub before-end : (xs : List TInitT) (ts : List Text) → before xs (Ok (NoI, ts)) ≡ Ok (tinits xs, ts)
before-end xs ts = rw (tinits_end xs) refl

push : (xs : List TInitT) (x : TInitT) (r : Typer TInitTs) → before (xs ++ x ∷ []) r ≡ before xs (r >>= λ ys. Ok (typed.MoreI x ys.0, ys.1))
push xs x (Ok y) = rw (tinits_push xs x y.0) refl
push xs x (Err e) = refl

-- one more is typed
pub before-push : (c : Ctx) (xs : List TInitT) (ts us : List Text) (global : Bool) (slots : Slots) (n : ℕ) (i : InitT) (rest : InitTs) (x : TInitT) → filled_by c ts global (next_slot (slots_behind n slots)) i ≡ Ok (x, us) →
    before (xs ++ x ∷ []) (all_filled_by c us global (slots_behind (n + 1) slots) rest) ≡ before xs (all_filled_by c ts global (slots_behind n slots) (MoreI i rest))
before-push c xs ts us global slots n i rest x good = rw (good, behind-more n slots) (push xs x (all_filled_by c us global (slots_behind (n + 1) slots) rest))

-- one is at fault
pub before-err : (c : Ctx) (xs : List TInitT) (ts : List Text) (global : Bool) (slots : Slots) (i : InitT) (rest : InitTs) (f : Fault) → filled_by c ts global (next_slot slots) i ≡ Err f → before xs (all_filled_by c ts global slots (MoreI i rest)) ≡ Err f
before-err c xs ts global slots i rest f bad = rw bad refl

-- before the first
pub before-start : (c : Ctx) (ts : List Text) (global : Bool) (slots : Slots) (all : InitTs) → before [] (all_filled_by c ts global (slots_behind 0 slots) all) ≡ all_filled_by c ts global slots all
before-start c ts global slots all = rw (behind-none slots) (before-none (all_filled_by c ts global slots all))

pub item_count-length : (is : List Init) → item_count (inits (map init is)) ≡ length is
item_count-length [] = refl
item_count-length (i ∷ is) = rw (item_count-length is) (add-one (length is))

pub length-push : {A : Type 0} (xs : List A) (x : A) → length (xs ++ x ∷ []) ≡ length xs + 1
length-push xs x = length-append xs (x ∷ [])

pub ruleset init_steps = (item_count-length, before-start)
