-- What mid code is, is a mere proposition: so a type can keep it.
use Rattle.std.proofs.Common.{ℕ, zero, suc, List, [], ◌∷◌, Bool, true, false, length, ◌≤◌}
use Rattle.std.proofs.Props.{props}
use Rattle.v32_isa.specs.declared.instruction.One.{One}
use Rattle.v32_isa.specs.declared.instruction.One.TheVariants.{CIB, NOT, BNOT, ISGN, IABS}
use Rattle.v32_isa.specs.declared.instruction.Two.{Two}
use Rattle.v32_isa.specs.declared.instruction.Two.TheVariants.{IEQ, INE, IGT, IGE, ILT, ILE}
use Rattle.mid_code.specs.Code.{OpT, ConstO, NullO, MoveO, OneO, TwoO, GlobalO, LocalO, LiteralO, CardO, StepO, ApartO, PtrTestO, LoadO, StoreO, FreshO, EndO, InO, OutO, WaitO, HaltO, NodesT, Stop, Do, Call, Choose, Block, Loop, Leave, Again, Return, FunctionT, CodeT, node_uses, node_target, maybe}
use Rattle.mid_code.specs.declared.placed.Where.{Where}
use Rattle.mid_code.specs.declared.placed.Where.TheVariants.{Reg, Slot}
use Rattle.mid_code.specs.Placed.{SpotsT, PlacedT}
use Rattle.mid_code.specs.Invariants.{IsOne, IsTest, IsOp, IsLoop, AreNodes, AllOf, Names, CallsNone, DifferFrom, AreDifferent, IsFunction, IsTemporary, IsMid, IsPlace, SpotWord, AreSpots, HasSlot, AllSpots, IsStartPlace, IsPlaced}

one_mere : (o : One) → IsProp (IsOne o)
one_mere CIB = hlevel props
one_mere NOT = hlevel props
one_mere BNOT = hlevel props
one_mere ISGN = hlevel props
one_mere IABS = hlevel props
one_mere _ = hlevel props

test_mere : (o : Two) → IsProp (IsTest o)
test_mere IEQ = hlevel props
test_mere INE = hlevel props
test_mere IGT = hlevel props
test_mere IGE = hlevel props
test_mere ILT = hlevel props
test_mere ILE = hlevel props
test_mere _ = hlevel props

all_mere : {P : Type 0} (Q : P → Type 0) → ((p : P) → IsProp (Q p)) → (ps : List P) → IsProp (AllOf Q ps)
all_mere Q q [] = hlevel props
all_mere Q q (p ∷ ps) = hlevel (props, q p, all_mere Q q ps)

loop_mere : (ls : List Bool) (k : ℕ) → IsProp (IsLoop ls k)
loop_mere [] k = hlevel props
loop_mere (l ∷ ls) zero = hlevel props
loop_mere (l ∷ ls) (suc k) = loop_mere ls k

op_mere : {P : Type 0} (x : CodeT P) (locals : ℕ) (o : OpT P) → IsProp (IsOp x locals o)
op_mere x locals (ConstO t word) = hlevel props
op_mere x locals (NullO t) = hlevel props
op_mere x locals (MoveO t a) = hlevel props
op_mere x locals (OneO o t a) = one_mere o
op_mere x locals (TwoO o t a b) = hlevel props
op_mere x locals (GlobalO t number) = hlevel props
op_mere x locals (LocalO t number) = hlevel props
op_mere x locals (LiteralO t number) = hlevel props
op_mere x locals (CardO t) = hlevel props
op_mere x locals (StepO t p n) = hlevel props
op_mere x locals (ApartO t p q) = hlevel props
op_mere x locals (PtrTestO o t p q) = test_mere o
op_mere x locals (LoadO t p) = hlevel props
op_mere x locals (StoreO p a) = hlevel props
op_mere x locals (FreshO number) = hlevel props
op_mere x locals (EndO number) = hlevel props
op_mere x locals (InO t port) = hlevel props
op_mere x locals (OutO port a) = hlevel props
op_mere x locals WaitO = hlevel props
op_mere x locals HaltO = hlevel props

nodes_mere : {P : Type 0} (x : CodeT P) (locals : ℕ) (ls : List Bool) (c : NodesT P) → IsProp (AreNodes x locals ls c)
nodes_mere x m ls Stop = hlevel props
nodes_mere x m ls (Do o c) = hlevel (props, op_mere x m o, nodes_mere x m ls c)
nodes_mere x m ls (Call t f args c) = hlevel (props, nodes_mere x m ls c)
nodes_mere x m ls (Choose p a b c) = hlevel (props, nodes_mere x m ls a, nodes_mere x m ls b, nodes_mere x m ls c)
nodes_mere x m ls (Block b c) = hlevel (props, nodes_mere x m (false ∷ ls) b, nodes_mere x m ls c)
nodes_mere x m ls (Loop b c) = hlevel (props, nodes_mere x m (true ∷ ls) b, nodes_mere x m ls c)
nodes_mere x m ls (Leave k c) = hlevel (props, nodes_mere x m ls c)
nodes_mere x m ls (Again k c) = hlevel (props, loop_mere ls k, nodes_mere x m ls c)
nodes_mere x m ls (Return p c) = nodes_mere x m ls c

names_mere : {P : Type 0} (Q : P → Type 0) → ((p : P) → IsProp (Q p)) → (c : NodesT P) → IsProp (Names Q c)
names_mere Q q Stop = hlevel props
names_mere Q q (Do o c) = hlevel (props, all_mere Q q (node_uses (Do o c)), all_mere Q q (maybe (node_target (Do o c))), names_mere Q q c)
names_mere Q q (Call t f args c) = hlevel (props, all_mere Q q args, all_mere Q q (maybe t), names_mere Q q c)
names_mere Q q (Choose p a b c) = hlevel (props, q p, names_mere Q q a, names_mere Q q b, names_mere Q q c)
names_mere Q q (Block b c) = hlevel (props, names_mere Q q b, names_mere Q q c)
names_mere Q q (Loop b c) = hlevel (props, names_mere Q q b, names_mere Q q c)
names_mere Q q (Leave k c) = names_mere Q q c
names_mere Q q (Again k c) = names_mere Q q c
names_mere Q q (Return p c) = hlevel (props, all_mere Q q (maybe p), names_mere Q q c)

differ_mere : {P : Type 0} (p : P) (qs : List P) → IsProp (DifferFrom p qs)
differ_mere p [] = hlevel props
differ_mere p (q ∷ qs) = hlevel (props, differ_mere p qs)

different_mere : {P : Type 0} (ps : List P) → IsProp (AreDifferent ps)
different_mere [] = hlevel props
different_mere (p ∷ ps) = hlevel (props, differ_mere p ps, different_mere ps)

calls_none_mere : {P : Type 0} (c : NodesT P) → IsProp (CallsNone c)
calls_none_mere Stop = hlevel props
calls_none_mere (Do o c) = calls_none_mere c
calls_none_mere (Call t f args c) = hlevel props
calls_none_mere (Choose p a b c) = hlevel (props, calls_none_mere a, calls_none_mere b, calls_none_mere c)
calls_none_mere (Block b c) = hlevel (props, calls_none_mere b, calls_none_mere c)
calls_none_mere (Loop b c) = hlevel (props, calls_none_mere b, calls_none_mere c)
calls_none_mere (Leave k c) = calls_none_mere c
calls_none_mere (Again k c) = calls_none_mere c
calls_none_mere (Return p c) = calls_none_mere c

function_mere : {P : Type 0} (named : FunctionT P → P → Type 0) → ((f : FunctionT P) (p : P) → IsProp (named f p)) → (x : CodeT P) (f : FunctionT P) → IsProp (IsFunction named x f)
function_mere named q x f = hlevel (props, nodes_mere x (length f.locals) [] f.body, names_mere (named f) (q f) f.body, all_mere (named f) (q f) f.params, different_mere f.params, all_mere (λ n. 1 ≤ n) (λ n. hlevel props) f.locals)

pub mid_mere : (x : CodeT ℕ) → IsProp (IsMid x)
mid_mere x = hlevel (props, function_mere IsTemporary (λ f t. hlevel props) x x.start, calls_none_mere x.start.body, all_mere (IsFunction IsTemporary x) (function_mere IsTemporary (λ f t. hlevel props) x) x.functions)

-- ---- placed code

place_mere : (f : FunctionT Where) (p : Where) → IsProp (IsPlace f p)
place_mere f (Reg number) = hlevel props
place_mere f (Slot number) = hlevel props

slot_mere : (s : SpotsT) (p : Where) → IsProp (HasSlot s p)
slot_mere s (Reg number) = hlevel props
slot_mere s (Slot number) = hlevel props

start_place_mere : (p : Where) → IsProp (IsStartPlace p)
start_place_mere (Reg number) = hlevel props
start_place_mere (Slot number) = hlevel props

word_set : IsSet SpotWord
word_set = hlevel props

spots_mere : (size : ℕ) (f : FunctionT Where) (s : SpotsT) → IsProp (AreSpots size f s)
spots_mere size f s = hlevel (props, word_set)

all_spots_mere : (sizes : List ℕ) (fs : List (FunctionT Where)) (ss : List SpotsT) → IsProp (AllSpots sizes fs ss)
all_spots_mere [] [] [] = hlevel props
all_spots_mere (size ∷ sizes) (f ∷ fs) (s ∷ ss) = hlevel (props, spots_mere size f s, names_mere (HasSlot s) (slot_mere s) f.body, all_mere (HasSlot s) (slot_mere s) f.params, all_spots_mere sizes fs ss)
all_spots_mere _ _ _ = hlevel props

pub placed_mere : (x : PlacedT) → IsProp (IsPlaced x)
placed_mere x = hlevel (props, function_mere IsPlace place_mere x.code x.code.start, calls_none_mere x.code.start.body, all_mere (IsFunction IsPlace x.code) (function_mere IsPlace place_mere x.code) x.code.functions, all_spots_mere x.frames x.code.functions x.spots, names_mere IsStartPlace start_place_mere x.code.start.body)
