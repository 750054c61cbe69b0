-- Nodes as they stand in memory, with the words of some locals in temporaries, and the plan by which that is done.
use Rattle.std.specs.Prelude.{ℕ, zero, Bool, true, false, ◌&&◌, cond, eqb, ltb, List, [], ◌∷◌, ◌++◌, take, Option, Some, None}
use Rattle.mid_code.specs.declared.node.Op.{Op}
use Rattle.mid_code.specs.declared.node.Op.TheVariants as op
use Rattle.mid_code.specs.Functions.{NodeT, DoN, ChooseN, BlockN, LoopN, LeaveN, AgainN, ReturnN, ListT, NoN, MoreN, listed}
use Rattle.mid_replace.specs.inner.Facts.{Fact, Plain, Word, Place, Any, Note, note, Plan, fact_at, step_fact}

-- ---- tests

abbrev pub is_plain : Fact → Bool
is_plain Plain = true
is_plain (Word n) = true
is_plain (Place k w) = false
is_plain Any = false

abbrev pub are_plain : (ℕ → Fact) → List ℕ → Bool
are_plain i [] = true
are_plain i (a ∷ bs) = is_plain (i a) && are_plain i bs

abbrev pub is_maybe_plain : (ℕ → Fact) → Option ℕ → Bool
is_maybe_plain i None = true
is_maybe_plain i (Some a) = is_plain (i a)

-- a temporary of this base may have that noted: anything where nothing is known of it, else what is plain
abbrev pub is_open : Fact → Bool
is_open Any = true
is_open Plain = false
is_open (Word n) = false
is_open (Place k w) = false

abbrev pub may_note : (base noted : Fact) → Bool
may_note b Plain = true
may_note b (Word n) = true
may_note b (Place k w) = is_open b
may_note b Any = is_open b

abbrev pub is_access : Plan → Fact → Bool
is_access X Plain = true
is_access X (Word n) = true
is_access X (Place k w) = X.held k && ltb w (X.size k)
is_access X Any = false

abbrev pub is_step : Fact → Fact → Bool
is_step Plain n = is_plain n
is_step (Word m) n = is_plain n
is_step (Place k w) n = true
is_step Any n = true

-- ---- operations

-- how many notes are kept
abbrev pub notes_kept : ℕ
notes_kept = 32

abbrev pub noted : ℕ → Fact → List Note → List Note
noted t u ns = take notes_kept (note t u ∷ ns)

-- What becomes of an operation or a call: whether it may stand there, the fact of its target, and what stands for it.
pub record Turn : Type 0 where
  pub fine : Bool
  pub made : Option Note
  pub stands : Option (Op ℕ)

abbrev pub turn : Bool → Option Note → Option (Op ℕ) → Turn
turn fine made stands = record { fine = fine; made = made; stands = stands }

abbrev pub unless_hidden : Fact → Op ℕ → Option (Op ℕ)
unless_hidden Plain o = Some o
unless_hidden (Word n) o = Some o
unless_hidden (Place k w) o = None
unless_hidden Any o = None

abbrev pub or_move : Fact → Op ℕ → (ℕ → ℕ → Op ℕ) → Op ℕ
or_move (Place k w) o go = go k w
or_move Plain o go = o
or_move (Word n) o go = o
or_move Any o go = o

abbrev pub plainly : Bool → ℕ → Op ℕ → Turn
plainly fine t o = turn fine (Some (note t Plain)) (Some o)

abbrev pub turn_of : Plan → (ℕ → Fact) → Op ℕ → Turn
turn_of X i (op.Const t n) = turn true (Some (note t (Word n))) (Some (op.Const t n))
turn_of X i (op.Null t) = plainly true t (op.Null t)
turn_of X i (op.Move t a) = turn true (Some (note t (i a))) (unless_hidden (i a) (op.Move t a))
turn_of X i (op.One o t a) = plainly (is_plain (i a)) t (op.One o t a)
turn_of X i (op.Two o t a b) = plainly (is_plain (i a) && is_plain (i b)) t (op.Two o t a b)
turn_of X i (op.Global t k) = plainly true t (op.Global t k)
turn_of X i (op.Local t k) =
    turn true (Some (note t (cond (X.held k) (Place k 0) Plain))) (cond (X.held k) None (Some (op.Local t k)))
turn_of X i (op.Literal t k) = plainly true t (op.Literal t k)
turn_of X i (op.Card t) = plainly true t (op.Card t)
turn_of X i (op.Step t p n) =
    turn (is_step (i p) (i n)) (Some (note t (step_fact (i p) (i n)))) (unless_hidden (step_fact (i p) (i n)) (op.Step t p n))
turn_of X i (op.Apart t p q) = plainly (is_plain (i p) && is_plain (i q)) t (op.Apart t p q)
turn_of X i (op.PtrTest o t p q) = plainly (is_plain (i p) && is_plain (i q)) t (op.PtrTest o t p q)
turn_of X i (op.Load t p) = plainly (is_access X (i p)) t (or_move (i p) (op.Load t p) (λ k w. op.Move t (X.variable k w)))
turn_of X i (op.Store p a) =
    turn (is_access X (i p) && is_plain (i a)) None (Some (or_move (i p) (op.Store p a) (λ k w. op.Move (X.variable k w) a)))
turn_of X i (op.Fresh k) = turn true None (Some (op.Fresh k))
turn_of X i (op.End k) = turn true None (Some (op.End k))
turn_of X i (op.Call None g args) = turn (are_plain i args) None (Some (op.Call None g args))
turn_of X i (op.Call (Some t) g args) = plainly (are_plain i args) t (op.Call (Some t) g args)
turn_of X i (op.In t port) = plainly true t (op.In t port)
turn_of X i (op.Out port a) = turn (is_plain (i a)) None (Some (op.Out port a))
turn_of X i op.Wait = turn true None (Some op.Wait)
turn_of X i op.Halt = turn true None (Some op.Halt)

-- whether it may stand there, and its target may have that noted
abbrev pub may_be_made : Plan → Option Note → Bool
may_be_made X None = true
may_be_made X (Some m) = may_note (X.base m.temp) m.fact

abbrev pub may_stand : Plan → Turn → Bool
may_stand X u = u.fine && may_be_made X u.made

abbrev pub noted_maybe : Option Note → List Note → List Note
noted_maybe None ns = ns
noted_maybe (Some m) ns = noted m.temp m.fact ns

abbrev pub some_node : Option (Op ℕ) → List (NodeT ℕ)
some_node None = []
some_node (Some o) = DoN o ∷ []

-- ---- loops that ask for one more turn where a temporary is not 0, and do nothing else

abbrev pub turns_once : ListT ℕ → (t : ℕ) → Bool
turns_once (MoreN (DoN (op.Const u zero)) (MoreN (AgainN zero) NoN)) t = eqb u t
turns_once _ t = false

abbrev pub asks_by : ListT ℕ → Option ℕ
asks_by (MoreN (ChooseN t a NoN) NoN) = cond (turns_once a t) (Some t) None
asks_by _ = None

-- ---- lists

abbrev pub prepended : List (NodeT ℕ) → Option (List (NodeT ℕ)) → Option (List (NodeT ℕ))
prepended a None = None
prepended a (Some b) = Some (a ++ b)

abbrev pub if_some : {A B : Type 0} → Option A → (A → Option B) → Option B
if_some None go = None
if_some (Some x) go = go x

abbrev pub when : {A : Type 0} → Bool → Option A → Option A
when true a = a
when false a = None

-- a loop that only asks leaves what is known of other temporaries
abbrev pub loop_by : (ℕ → Fact) → List Note → ListT ℕ → (asks : Option ℕ) → (inside : Option (List (NodeT ℕ)))
    → (go : List Note → Option (List (NodeT ℕ))) → Option (List (NodeT ℕ))
loop_by i ns b None inside go = if_some inside (λ c. prepended (LoopN (listed c) ∷ []) (go []))
loop_by i ns b (Some t) inside go = when (is_plain (i t)) (prepended (LoopN b ∷ []) (go (noted t Plain ns)))

-- Nodes before which these notes hold, with what stands for them; none where one may not stand there. Notes end where nodes come together.
abbrev mutual
  pub replaced : Plan → List Note → ListT ℕ → Option (List (NodeT ℕ))
  replaced X ns NoN = Some []
  replaced X ns (MoreN x rest) = node_replaced X ns x (λ ms. replaced X ms rest)

  pub node_replaced : Plan → List Note → NodeT ℕ → (go : List Note → Option (List (NodeT ℕ))) → Option (List (NodeT ℕ))
  node_replaced X ns (DoN o) go =
      when (may_stand X (turn_of X (fact_at (X.base) ns) o))
      (prepended (some_node (turn_of X (fact_at (X.base) ns) o).stands) (go (noted_maybe (turn_of X (fact_at (X.base) ns) o).made ns)))
  node_replaced X ns (ChooseN p a b) go =
      when (is_plain (fact_at (X.base) ns p))
      (if_some (replaced X [] a) (λ c. if_some (replaced X [] b) (λ d. prepended (ChooseN p (listed c) (listed d) ∷ []) (go []))))
  node_replaced X ns (BlockN b) go = if_some (replaced X [] b) (λ c. prepended (BlockN (listed c) ∷ []) (go []))
  node_replaced X ns (LoopN b) go = loop_by (fact_at (X.base) ns) ns b (asks_by b) (replaced X [] b) go
  node_replaced X ns (LeaveN k) go = prepended (LeaveN k ∷ []) (go [])
  node_replaced X ns (AgainN k) go = prepended (AgainN k ∷ []) (go [])
  node_replaced X ns (ReturnN p) go = when (is_maybe_plain (fact_at (X.base) ns) p) (prepended (ReturnN p ∷ []) (go []))
