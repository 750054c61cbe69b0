-- What one node in memory does, by the meaning's clauses.
use Rattle.std.specs.Prelude.{ℕ, zero, suc, Bool, true, false, List, length, Option, Some, None}
use Rattle.mid_code.specs.declared.node.Op.{Op}
use Rattle.mid_code.specs.declared.node.Op.TheVariants as op
use Rattle.obj_mem.specs.declared.cell.Cell.{Cell}
use Rattle.obj_mem.specs.declared.cell.Cell.TheVariants.{Unwritten}
use Rattle.obj_mem.specs.Objects.{ObjectT, end_from}
use Rattle.obj_mem.specs.Queries.{Answer}
use Rattle.obj_mem.specs.Worlds.{on_store}
use Rattle.obj_mem.specs.Runs.{Stray}
use Rattle.obj_mem.specs.Stores.{Sizes}
use Rattle.mid_code.specs.Code.{ConstO, NullO, MoveO, OneO, TwoO, GlobalO, LocalO, LiteralO, CardO, StepO, ApartO, PtrTestO, LoadO, StoreO, FreshO}
use Rattle.mid_code.specs.Code.{EndO, InO, OutO, WaitO, HaltO, CodeT, NodesT, Loop, Stop}
use Rattle.mid_code.specs.Functions.{NodeT, DoN, ChooseN, BlockN, LoopN, LeaveN, AgainN, ReturnN, joined}
use Rattle.mid_code.specs.Meaning.{Did, Ends, Res, Next, Leaves, Repeats, Returns, Over, did, block_done, called, runs, below, node_weight, call_weight}
use Rattle.mid_code.specs.States.{temporaries, acted, cell_of, put_in_maybe, over_worlds, sizes_of, spent, to, word_tested}
use Rattle.mid_evaluate.specs.declared.flow.Flow.{Flow}
use Rattle.mid_evaluate.specs.declared.flow.Flow.TheVariants as flow
use Rattle.mid_evaluate.specs.inner.Answers.{S}
use Rattle.mid_evaluate.specs.View.{CallT, CallerT}

-- ---- operations

-- temporary t takes what is asked of the pointers in p and q
abbrev pub asked_of : (t : ℕ) → (List ObjectT → Cell → Cell → Answer Cell) → (p q : ℕ) → S → Did S
asked_of t answer p q s = to temporaries t (answer s.world.store.objects (s.cells p) (s.cells q)) s

-- what an operation in memory does; a call is none that is done so
abbrev pub performed : Sizes → Op ℕ → S → Did S
performed z (op.Const t word) s = acted temporaries z (ConstO t word) s
performed z (op.Null t) s = acted temporaries z (NullO t) s
performed z (op.Move t a) s = acted temporaries z (MoveO t a) s
performed z (op.One o t a) s = acted temporaries z (OneO o t a) s
performed z (op.Two o t a b) s = acted temporaries z (TwoO o t a b) s
performed z (op.Global t number) s = acted temporaries z (GlobalO t number) s
performed z (op.Local t number) s = acted temporaries z (LocalO t number) s
performed z (op.Literal t number) s = acted temporaries z (LiteralO t number) s
performed z (op.Card t) s = acted temporaries z (CardO t) s
performed z (op.Step t p x) s = acted temporaries z (StepO t p x) s
performed z (op.Apart t p q) s = acted temporaries z (ApartO t p q) s
performed z (op.PtrTest o t p q) s = acted temporaries z (PtrTestO o t p q) s
performed z (op.Load t p) s = acted temporaries z (LoadO t p) s
performed z (op.Store p a) s = acted temporaries z (StoreO p a) s
performed z (op.Fresh local) s = acted temporaries z (FreshO local) s
performed z (op.End local) s = acted temporaries z (EndO local) s
performed z (op.Call t f args) s = Ends Stray s
performed z (op.In t port) s = acted temporaries z (InO t port) s
performed z (op.Out port a) s = acted temporaries z (OutO port a) s
performed z op.Wait s = acted temporaries z WaitO s
performed z op.Halt s = acted temporaries z HaltO s

abbrev pub weight_of : Op ℕ → ℕ
weight_of (op.Const t word) = node_weight
weight_of (op.Null t) = node_weight
weight_of (op.Move t a) = node_weight
weight_of (op.One o t a) = node_weight
weight_of (op.Two o t a b) = node_weight
weight_of (op.Global t number) = node_weight
weight_of (op.Local t number) = node_weight
weight_of (op.Literal t number) = node_weight
weight_of (op.Card t) = node_weight
weight_of (op.Step t p x) = node_weight
weight_of (op.Apart t p q) = node_weight
weight_of (op.PtrTest o t p q) = node_weight
weight_of (op.Load t p) = node_weight
weight_of (op.Store p a) = node_weight
weight_of (op.Fresh local) = 0
weight_of (op.End local) = 0
weight_of (op.Call t f args) = node_weight
weight_of (op.In t port) = node_weight
weight_of (op.Out port a) = node_weight
weight_of op.Wait = node_weight
weight_of op.Halt = node_weight

-- the parts of a call
abbrev pub call_parts : Op ℕ → Option CallT
call_parts (op.Const t word) = None
call_parts (op.Null t) = None
call_parts (op.Move t a) = None
call_parts (op.One o t a) = None
call_parts (op.Two o t a b) = None
call_parts (op.Global t number) = None
call_parts (op.Local t number) = None
call_parts (op.Literal t number) = None
call_parts (op.Card t) = None
call_parts (op.Step t p x) = None
call_parts (op.Apart t p q) = None
call_parts (op.PtrTest o t p q) = None
call_parts (op.Load t p) = None
call_parts (op.Store p a) = None
call_parts (op.Fresh local) = None
call_parts (op.End local) = None
call_parts (op.Call t f args) = Some (record { target = t; function = f; args = args })
call_parts (op.In t port) = None
call_parts (op.Out port a) = None
call_parts op.Wait = None
call_parts op.Halt = None

abbrev pub op_once : CodeT ℕ → (frames : List ℕ) → (bound : ℕ) → Op ℕ → Option CallT → S → Res S
op_once x frames n o None s = did (performed (sizes_of x frames) o (spent (weight_of o) s)) Next
op_once x frames n o (Some c) s = called (over_worlds temporaries x frames) n (below (over_worlds temporaries x frames) n) c.target c.function c.args
    (spent (call_weight c.args) s)

-- ---- nodes

abbrev pub ran : CodeT ℕ → (frames : List ℕ) → (bound : ℕ) → NodesT ℕ → S → Res S
ran x frames n c s = runs (over_worlds temporaries x frames) n c s

abbrev pub given : Option ℕ → S → S
given p s = record s { given = cell_of s.cells p }

-- which way a choice goes
abbrev pub taken : Option ℕ → Option Bool
taken None = None
taken (Some zero) = Some false
taken (Some (suc x)) = Some true

abbrev pub choose_by : Option Bool → S → (go other : S → Res S) → Res S
choose_by None s go other = Over Stray s
choose_by (Some true) s go other = go s
choose_by (Some false) s go other = other s

abbrev pub choice : CodeT ℕ → (frames : List ℕ) → (bound p : ℕ) → (a b : NodesT ℕ) → S → Res S
choice x frames n p a b s = choose_by (taken (word_tested (s.cells p))) (spent node_weight s) (ran x frames n a) (ran x frames n b)

abbrev pub block : CodeT ℕ → (frames : List ℕ) → (bound : ℕ) → NodesT ℕ → S → Res S
block x frames n b s = block_done (ran x frames n b (spent node_weight s))

abbrev pub looped : CodeT ℕ → (frames : List ℕ) → (bound : ℕ) → NodesT ℕ → S → Res S
looped x frames n b s = ran x frames n (Loop b Stop) s

-- how a loop goes on behind a turn, where it does not begin the next
abbrev pub turn_left : Flow → Option Flow
turn_left flow.Next = Some flow.Next
turn_left (flow.Leaves zero) = Some flow.Next
turn_left (flow.Leaves (suc k)) = Some (flow.Leaves k)
turn_left (flow.Repeats zero) = None
turn_left (flow.Repeats (suc k)) = Some (flow.Repeats k)
turn_left flow.Returns = Some flow.Returns

abbrev pub node_once : CodeT ℕ → (frames : List ℕ) → (bound : ℕ) → NodeT ℕ → S → Res S
node_once x frames n (DoN o) s = op_once x frames n o (call_parts o) s
node_once x frames n (ChooseN p a b) s = choice x frames n p (joined a) (joined b) s
node_once x frames n (BlockN b) s = block x frames n (joined b) s
node_once x frames n (LoopN b) s = looped x frames n (joined b) s
node_once x frames n (LeaveN k) s = Leaves k (spent node_weight s)
node_once x frames n (AgainN k) s = Repeats k (spent node_weight s)
node_once x frames n (ReturnN p) s = Returns (given p (spent node_weight s))

-- ---- calls

-- what is kept of a state at a call
abbrev pub caller_of : S → CallerT
caller_of s = record {
  objects = length s.world.store.objects;
  function = s.world.store.function;
  locals = s.world.store.locals;
  used = s.world.store.used;
  cells = s.cells;
  given = s.given;
}

-- the caller's part of the state again
abbrev pub restored : CallerT → S → S
restored c v = record {
  world = on_store (λ u. record u { objects = end_from c.objects u.objects; function = c.function; locals = c.locals; used = c.used }) v.world;
  cells = c.cells;
  given = c.given;
}

-- back in the caller, with the result in its target
abbrev pub back_in : CallerT → Option ℕ → S → S
back_in c t v = put_in_maybe temporaries t v.given (restored c v)

-- what a call comes to, from what its body came to
abbrev pub returned : CallerT → Option ℕ → Res S → Res S
returned c t (Next v) = Next (back_in c t (record v { given = Unwritten }))
returned c t (Leaves k v) = Over Stray v
returned c t (Repeats k v) = Over Stray v
returned c t (Returns v) = Next (back_in c t v)
returned c t (Over end v) = Over end v
