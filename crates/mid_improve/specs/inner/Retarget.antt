-- Targets that are moved at once: where the node behind an operation or a call moves its target to another temporary, the operation puts into that one, and
-- the move goes the other way. Behind the two nodes all cells are what they were; a move to a temporary that nothing reads is dead then.
use Rattle.std.specs.Prelude.{ℕ, eqb, cond, Option, Some, None, map}
use Rattle.mid_code.specs.Code.{OpT, ConstO, NullO, MoveO, OneO, TwoO, GlobalO, LocalO, LiteralO, CardO, StepO, ApartO, PtrTestO, LoadO, InO, target}
use Rattle.mid_code.specs.Code.{NodesT, Stop, Do, Call, Choose, Block, Loop, Leave, Again, Return, FunctionT, CodeT}

-- where the target of a node goes, by what stands behind it
abbrev pub landing : ℕ → NodesT ℕ → ℕ
landing t (Do (MoveO x a) c) = cond (eqb a t) x t
landing t _ = t

abbrev pub lands : Option ℕ → NodesT ℕ → Option ℕ
lands None c = None
lands (Some t) c = Some (landing t c)

-- the operation with another target
abbrev pub op_into : ℕ → OpT ℕ → OpT ℕ
op_into x (ConstO t n) = ConstO x n
op_into x (NullO t) = NullO x
op_into x (MoveO t a) = MoveO x a
op_into x (OneO o t a) = OneO o x a
op_into x (TwoO o t a b) = TwoO o x a b
op_into x (GlobalO t n) = GlobalO x n
op_into x (LocalO t n) = LocalO x n
op_into x (LiteralO t n) = LiteralO x n
op_into x (CardO t) = CardO x
op_into x (StepO t a b) = StepO x a b
op_into x (ApartO t a b) = ApartO x a b
op_into x (PtrTestO o t a b) = PtrTestO o x a b
op_into x (LoadO t p) = LoadO x p
op_into x (InO t port) = InO x port
op_into x o = o

abbrev pub op_to : Option ℕ → OpT ℕ → OpT ℕ
op_to None o = o
op_to (Some x) o = op_into x o

-- a target and the temporary that has its cell meanwhile; the move behind them goes the other way
abbrev pub Turn : Type 0
Turn = Option (ℕ × ℕ)

abbrev pub turn_of : Option ℕ → Option ℕ → Turn
turn_of (Some t) (Some x) = cond (eqb x t) None (Some (t, x))
turn_of _ _ = None

abbrev pub turned_move : Turn → OpT ℕ → Option (OpT ℕ)
turned_move (Some p) (MoveO x a) = Some (MoveO p.0 p.1)
turned_move h o = None

abbrev pub or_else : {A : Type 0} → Option A → A → A
or_else None x = x
or_else (Some y) x = y

abbrev pub unless_turned : Option (OpT ℕ) → Turn → Turn
unless_turned None h = h
unless_turned (Some o) h = None

abbrev pub op_retargeted : Turn → OpT ℕ → NodesT ℕ → OpT ℕ
op_retargeted h o c = or_else (turned_move h o) (op_to (lands (target o) c) o)

abbrev pub op_turn : Turn → OpT ℕ → NodesT ℕ → Turn
op_turn h o c = unless_turned (turned_move h o) (turn_of (target o) (lands (target o) c))

abbrev pub retargeted : Turn → NodesT ℕ → NodesT ℕ
retargeted h Stop = Stop
retargeted h (Do o c) = Do (op_retargeted h o c) (retargeted (op_turn h o c) c)
retargeted h (Call t f args c) = Call (lands t c) f args (retargeted (turn_of t (lands t c)) c)
retargeted h (Choose p a b c) = Choose p (retargeted None a) (retargeted None b) (retargeted None c)
retargeted h (Block b c) = Block (retargeted None b) (retargeted None c)
retargeted h (Loop b c) = Loop (retargeted None b) (retargeted None c)
retargeted h (Leave k c) = Leave k (retargeted None c)
retargeted h (Again k c) = Again k (retargeted None c)
retargeted h (Return p c) = Return p (retargeted None c)

abbrev pub retargeted_function : FunctionT ℕ → FunctionT ℕ
retargeted_function f = record f { body = retargeted None f.body }

abbrev pub retargeted_code : CodeT ℕ → CodeT ℕ
retargeted_code x = record x { start = retargeted_function x.start; functions = map retargeted_function x.functions }
