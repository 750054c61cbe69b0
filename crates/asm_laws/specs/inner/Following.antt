-- What it is for the machine to follow structured code, over any states.
use Rattle.std.specs.Prelude.{ℕ, zero, suc, ◌≡◌, ◌+◌, ◌≤◌, List, [], ◌∷◌, ◌++◌, Option, Some, None}
use Rattle.kit_base.specs.declared.event.Event.{Event}
use Rattle.v32_isa.specs.State.{State, going_to}
use Rattle.v32_isa.specs.Runs.{Run, run}
use Rattle.v32_isa.specs.Runs as machine
use Rattle.v32_isa.specs.Calls.{Link, Nested}
use Rattle.v32_isa.proofs.Steps.{before, Reaches, Moves}
use Rattle.obj_mem.specs.Runs.{Ending, Halted, Fault, Starved, Stray, Deep, OutOfBound}
use Rattle.mid_code.specs.declared.placed.Where.{Where}
use Rattle.mid_code.specs.Code.{OpT, NodesT, Stop, Do, Call, Choose, Block, Loop, Leave, Again, Return}
use Rattle.mid_code.specs.Meaning.{Did, On, Ends, Res, Next, Leaves, Repeats, Returns, Over, Lang, node_weight, call_weight, turn_done, did, does, below}
use Rattle.asm_laws.specs.Placing.{Shapes, Bounds, end_of, begin_of, owed, due, Jumps, At}

-- how the machine holds a state: inside a function, where such nodes come next, at its end with the result, and where the run has ended
pub record Holder (L : Lang Where) : Type 1 where
  pub K : Type 0
  pub M : K → NodesT Where → L.S → State → Type 0
  pub G : K → L.S → State → Type 0
  pub E : L.S → State → Type 0
  pub answers : L.S → List ℕ
  pub events : L.S → List Event
  pub work : L.S → ℕ
  -- the function of a call, where the bodies of functions begin, and at which addresses functions end
  pub fn : K → ℕ
  pub entry : ℕ → ℕ
  pub exits : (function pc : ℕ) → Type 0
  -- before a loop with such a body, and such nodes behind it, behind so many operations that are done already
  pub ready : K → (body behind : NodesT Where) → ℕ → L.S → State → Type 0

-- what there is at the beginning of some steps: answers, events, work
pub record Begin : Type 0 where
  pub answers : List ℕ
  pub events : List Event
  pub work : ℕ

abbrev pub begin : {L : Lang Where} → Holder L → L.S → Begin
begin X s = record { answers = X.answers s; events = X.events s; work = X.work s }

abbrev pub spare : ℕ → Begin → Begin
spare k b = record b { work = b.work + k }

-- the machine comes to an address and the state t, in at least so many steps and at most the work between and `more`
pub record CameBy {L : Lang Where} (ins outs : List Link) (X : Holder L) (m : State) (b : Begin) (t : L.S) (pc least more : ℕ) (R : State
    → Type 0) : Type 0 where
  pub steps : ℕ
  pub made : List Event
  pub to : State
  pub by : Moves ins outs steps m b.answers made to (X.answers t)
  pub at : to.counter ≡ pc
  pub held : R to
  pub events : X.events t ≡ b.events ++ made
  pub cost : steps + b.work ≤ X.work t + more
  pub many : least ≤ steps

abbrev pub Came : {L : Lang Where} → (X : Holder L) → State → Begin → L.S → (pc least more : ℕ) → (State → Type 0) → Type 0
Came X m b t pc least more R = CameBy [] [] X m b t pc least more R

pub record Stopped {L : Lang Where} (X : Holder L) (m : State) (b : Begin) (t : L.S) (how : machine.End) : Type 0 where
  pub steps : ℕ
  pub made : List Event
  pub to : State
  pub by : (n : ℕ) → run (steps + n) m b.answers ≡ record { events = made; end = how; state = to }
  pub nested : (ls : List Link) → Nested steps ls m b.answers
  pub held : X.E t to
  pub events : X.events t ≡ b.events ++ made
  pub cost : steps + b.work ≤ X.work t

pub record Going {L : Lang Where} (X : Holder L) (m : State) (b : Begin) (t : L.S) (least : ℕ) : Type 0 where
  pub steps : ℕ
  pub made : List Event
  pub to : State
  pub left : List ℕ
  pub by : (n : ℕ) → run (steps + n) m b.answers ≡ before made (run n to left)
  pub nested : (ls : List Link) → Nested steps ls m b.answers
  pub events : X.events t ≡ b.events ++ made
  pub cost : steps + b.work ≤ X.work t
  pub many : least ≤ steps

-- the table of ends
abbrev pub Final : {L : Lang Where} → (X : Holder L) → (n : ℕ) → State → Begin → Ending → L.S → Type 0
Final X n m b Halted t = Stopped X m b t machine.Halted
Final X n m b (Fault k) t = Stopped X m b t (machine.Fault k)
Final X n m b Starved t = Stopped X m b t machine.Starved
Final X n m b Stray t = Going X m b t 0
Final X n m b Deep t = Going X m b t 0
Final X n m b OutOfBound t = Going X m b t n

-- the machine follows nodes, behind which it holds the state so
abbrev pub Sim : {L : Lang Where} → (X : Holder L) → X.K → (R : L.S → State → Type 0) → State → Begin → (e n : ℕ) → List Bounds → Res L.S → Type 0
Sim X κ R m b e n ls (Next t) = Came X m b t e 0 0 (R t)
Sim X κ R m b e n ls (Leaves k t) = Came X m b t (end_of ls k) 0 0 (X.M κ Stop t)
Sim X κ R m b e n ls (Repeats k t) = Came X m b t (begin_of ls k) (due (owed ls k)) 0 (X.M κ Stop t)
Sim X κ R m b e n ls (Returns t) = (q : ℕ) × X.exits (X.fn κ) q × Came X m b t q 0 0 (X.G κ t)
Sim X κ R m b e n ls (Over f t) = Final X n m b f t

abbrev pub DidBy : {L : Lang Where} → (X : Holder L) → State → Begin → ℕ → (L.S → State → Type 0) → Did L.S → Type 0
DidBy X m b p R (On t) = Came X m b t p 0 0 (R t)
DidBy X m b p R (Ends f t) = (n : ℕ) → Final X n m b f t

abbrev pub DidSim : {L : Lang Where} → (X : Holder L) → X.K → State → Begin → ℕ → Did L.S → Type 0
DidSim X κ m b p d = DidBy X m b p (X.M κ Stop) d

-- A call has come to the function's body, with 8 spare for the way back; from where the function ends, be it behind the body or before, it comes back.
pub record Enters {L : Lang Where} (X : Holder L) (H : Shapes) (R : L.S → State → Type 0) (p : ℕ) (t : Option Where)
    (f : ℕ) (u s0 : L.S) (m : State) (b : Begin) : Type 0 where
  pub inner : X.K
  pub link : Link
  pub end : ℕ
  pub exit : X.exits (X.fn inner) end
  pub placed : At H (X.fn inner) [] (X.entry f) (L.body f) end
  pub goes : CameBy [] (link ∷ []) X m (spare 8 b) s0 (X.entry f) 1 0 (X.M inner (L.body f) s0)
  pub back : (s1 : L.S) (m1 : State) → X.G inner s1 m1 → X.exits (X.fn inner) m1.counter
      → CameBy (link ∷ []) [] X m1 (begin X s1) (L.back t u s1) p 0 8 (R (L.back t u s1))

abbrev pub CallSim : {L : Lang Where} → (X : Holder L) → Shapes → (R : L.S → State → Type 0) → ℕ → Option Where → ℕ → L.S → State
    → Begin → Did L.S → Type 0
CallSim X H R p t f u m b (On s0) = Enters X H R p t f u s0 m b
CallSim X H R p t f u m b (Ends g s0) = (n : ℕ) → Final X n m b g s0

-- a choice has gone its way, in a step at least, with 1 spare for the jump behind its first part
abbrev pub TestSim : {L : Lang Where} → (X : Holder L) → (R : State → Type 0) → (other next : ℕ) → State → Begin → L.S → Option ℕ → Type 0
TestSim X R py px m b s None = Unit {0}
TestSim X R py px m b s (Some zero) = Came X m (spare 1 b) s py 1 0 R
TestSim X R py px m b s (Some (suc v)) = Came X m (spare 1 b) s px 1 0 R

-- what is done where a first part goes on
abbrev pub did_then : {S : Type 0} → Did S → (S → Did S) → Did S
did_then (On t) go = go t
did_then (Ends f t) go = Ends f t

-- what the first operations of nodes do, as many of these as are there
abbrev pub front_acts : (L : Lang Where) → NodesT Where → ℕ → L.S → Did L.S
front_acts L Stop k s = On s
front_acts L (Do o c) zero s = On s
front_acts L (Do o c) (suc k) s = did_then (L.act o s) (front_acts L c k)
front_acts L (Call t g args c) k s = On s
front_acts L (Choose w x y c) k s = On s
front_acts L (Block b c) k s = On s
front_acts L (Loop b c) k s = On s
front_acts L (Leave j c) k s = On s
front_acts L (Again j c) k s = On s
front_acts L (Return w c) k s = On s

-- how the machine holds a state behind so many operations in front, where a loop that comes next may be done by a block move
abbrev pub at_front : {L : Lang Where} → (X : Holder L) → X.K → NodesT Where → ℕ → L.S → State → Type 0
at_front X κ Stop k s m = X.M κ Stop s m
at_front X κ (Do o c) zero s m = X.M κ (Do o c) s m
at_front X κ (Do o c) (suc k) s m = at_front X κ c k s m
at_front X κ (Call t g args c) k s m = X.M κ (Call t g args c) s m
at_front X κ (Choose w x y c) k s m = X.M κ (Choose w x y c) s m
at_front X κ (Block b c) k s m = X.M κ (Block b c) s m
at_front X κ (Loop b c) k s m = X.ready κ b c k s m
at_front X κ (Leave j c) k s m = X.M κ (Leave j c) s m
at_front X κ (Again j c) k s m = X.M κ (Again j c) s m
at_front X κ (Return w c) k s m = X.M κ (Return w c) s m

-- what the parts keep
pub record Parts (L : Lang Where) (X : Holder L) (H : Shapes) : Type 0 where
  pub tick_answers : (n : ℕ) (s : L.S) → X.answers (L.tick n s) ≡ X.answers s
  pub tick_events : (n : ℕ) (s : L.S) → X.events (L.tick n s) ≡ X.events s
  pub tick_work : (n : ℕ) (s : L.S) → X.work (L.tick n s) ≡ X.work s + n
  pub ticks : (κ : X.K) (c : NodesT Where) (n : ℕ) (s : L.S) (m : State) → X.M κ c s m → X.M κ c (L.tick n s) m
  pub jump : (κ : X.K) (c : NodesT Where) (s : L.S) (m : State) (pc to : ℕ) → X.M κ c s m → m.counter ≡ pc → Jumps H.words pc to
      → Reaches 1 m (X.answers s) [] (going_to to m) (X.answers s) × X.M κ c s (going_to to m)
  -- nodes at which code goes on from elsewhere, those inside of others, and those of which nothing more is asked than at the end of a list
  pub opens : (κ : X.K) (c : NodesT Where) (s : L.S) (m : State) → H.opens (X.fn κ) c → X.M κ Stop s m → X.M κ c s m
  pub first : (κ : X.K) (p : Where) (x y c : NodesT Where) (s : L.S) (m : State) → X.M κ (Choose p x y c) s m → X.M κ x s m
  pub second : (κ : X.K) (p : Where) (x y c : NodesT Where) (s : L.S) (m : State) → X.M κ (Choose p x y c) s m → X.M κ y s m
  pub block : (κ : X.K) (b c : NodesT Where) (s : L.S) (m : State) → X.M κ (Block b c) s m → X.M κ b s m
  pub loop : (κ : X.K) (b c : NodesT Where) (s : L.S) (m : State) → H.plain b zero → X.M κ (Loop b c) s m → X.M κ Stop s m
  pub leave : (κ : X.K) (k : ℕ) (c : NodesT Where) (s : L.S) (m : State) → X.M κ (Leave k c) s m → X.M κ Stop s m
  pub again : (κ : X.K) (k : ℕ) (c : NodesT Where) (s : L.S) (m : State) → X.M κ (Again k c) s m → X.M κ Stop s m
  pub none : (κ : X.K) (s : L.S) (m : State) → X.M κ Stop s m → X.G κ (L.none s) m
  pub none_answers : (s : L.S) → X.answers (L.none s) ≡ X.answers s
  pub none_events : (s : L.S) → X.events (L.none s) ≡ X.events s
  pub none_work : (s : L.S) → X.work (L.none s) ≡ X.work s
  pub op : (κ : X.K) (pc p more : ℕ) (o : OpT Where) (c : NodesT Where) (s : L.S) (m : State) → H.op (X.fn κ) pc o c more p → m.counter ≡ pc
      → X.M κ (Do o c) s m → DidBy X m (begin X s) p (at_front X κ c more) (did_then (L.act o s) (front_acts L c more))
  pub made : (κ : X.K) (pc : ℕ) (o : OpT Where) (c : NodesT Where) (s : L.S) (m : State) → H.made (X.fn κ) pc o c → m.counter ≡ pc
      → X.M κ (Do o c) s m → (e n : ℕ) (ls : List Bounds) → Sim X κ (X.M κ Stop) m (begin X s) e n ls (did (L.act o s) (does L n (below L n) c))
  pub nothing : (function : ℕ) → H.opens function Stop
  pub plain_first : (b : NodesT Where) (k : ℕ) → H.plain b k → H.plain b zero
  pub ready_first : (κ : X.K) (b c : NodesT Where) (s : L.S) (m : State) → X.M κ (Loop b c) s m → X.ready κ b c zero s m
  pub ready_plain : (κ : X.K) (b c : NodesT Where) (k : ℕ) (s : L.S) (m : State) → H.plain b k → X.ready κ b c k s m → X.M κ (Loop b c) s m
  pub copy : (κ : X.K) (pc p k : ℕ) (b c : NodesT Where) (s : L.S) (m : State) → H.copy (X.fn κ) pc b c k p → m.counter ≡ pc → X.ready κ b c k s m
      → (n : ℕ) (ls : List Bounds)
      → Sim X κ (X.M κ c) m (begin X s) p n ls (turn_done (does L n (below L n) b (L.tick node_weight s)) (below L n (Loop b Stop)))
  pub ask : (κ : X.K) (pc p k : ℕ) (b c : NodesT Where) (s : L.S) (m : State) → H.ask (X.fn κ) pc b c p → m.counter ≡ pc → X.ready κ b c k s m
      → (n : ℕ) (ls : List Bounds)
      → Sim X κ (X.M κ c) m (begin X s) p n ls (turn_done (does L n (below L n) b (L.tick node_weight s)) (below L n (Loop b Stop)))
  pub test : (κ : X.K) (pc py px : ℕ) (w : Where) (x y c : NodesT Where) (s : L.S) (m : State) → H.test (X.fn κ) pc w py px → m.counter ≡ pc
      → X.M κ (Choose w x y c) s m → TestSim X (X.M κ (Choose w x y c) (L.tick node_weight s)) py px m (begin X s) (L.tick node_weight s) (L.test w s)
  pub give : (κ : X.K) (pc : ℕ) (w : Option Where) (c : NodesT Where) (s : L.S) (m : State) → H.giving (X.fn κ) pc w → m.counter ≡ pc
      → X.M κ (Return w c) s m
      → (q : ℕ) × X.exits (X.fn κ) q × Came X m (begin X s) (L.give w (L.tick node_weight s)) q 0 0 (X.G κ (L.give w (L.tick node_weight s)))
  pub call : (κ : X.K) (pc p : ℕ) (t : Option Where) (f : ℕ) (args : List Where) (c : NodesT Where) (s : L.S) (m : State)
      → H.call (X.fn κ) pc t f args p → m.counter ≡ pc → X.M κ (Call t f args c) s m →
      CallSim X H (X.M κ c) p t f (L.tick (call_weight args) s) m (begin X s) (L.enter f args (L.tick (call_weight args) s))
