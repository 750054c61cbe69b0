-- What every code, and every placed code, is.
use Rattle.std.specs.Prelude.{◌≡◌, ◌≢◌, ℕ, zero, suc, ◌+◌, ◌<◌, ◌≤◌, ◌^◌, List, [], ◌∷◌, length, sum, slice_get, Bool, true, false, Option, Some, option_map}
use Rattle.v32_isa.specs.declared.instruction.One.{One}
use Rattle.v32_isa.specs.declared.instruction.One.TheVariants.{CIB, NOT, BNOT, ISGN, IABS}
use Rattle.v32_isa.specs.declared.instruction.Two.{Two}
use Rattle.v32_isa.specs.declared.instruction.Two.TheVariants.{IEQ, INE, IGT, IGE, ILT, ILE}
use Rattle.v32_isa.specs.Ports.{is_readable, is_writable}
use Rattle.mid_code.specs.declared.placed.Where.{Where}
use Rattle.mid_code.specs.declared.placed.Where.TheVariants.{Reg, Slot}
use Rattle.mid_code.specs.Code.{OpT, ConstO, OneO, GlobalO, LocalO, LiteralO, PtrTestO, FreshO, EndO, InO, OutO, NodesT, Stop, Do, Call, Choose}
use Rattle.mid_code.specs.Code.{Block, Loop, Leave, Again, Return, FunctionT, CodeT, node_uses, node_target, maybe}
use Rattle.mid_code.specs.Placed.{SpotsT, PlacedT, start_frame}

-- ---- operations

-- the operators that work on a word alone
abbrev pub IsOne : One → Type 0
IsOne CIB = Unit {0}
IsOne NOT = Unit {0}
IsOne BNOT = Unit {0}
IsOne ISGN = Unit {0}
IsOne IABS = Unit {0}
IsOne _ = ⊥

-- the comparisons
abbrev pub IsTest : Two → Type 0
IsTest IEQ = Unit {0}
IsTest INE = Unit {0}
IsTest IGT = Unit {0}
IsTest IGE = Unit {0}
IsTest ILT = Unit {0}
IsTest ILE = Unit {0}
IsTest _ = ⊥

-- an operation of a function with so many locals
abbrev pub IsOp : {P : Type 0} → CodeT P → (locals : ℕ) → OpT P → Type 0
IsOp x locals (ConstO t word) = word < 2 ^ 32
IsOp x locals (OneO o t a) = IsOne o
IsOp x locals (PtrTestO o t p q) = IsTest o
IsOp x locals (GlobalO t number) = number < length x.globals
IsOp x locals (LocalO t number) = number < locals
IsOp x locals (LiteralO t number) = number < length x.literals
IsOp x locals (FreshO number) = number < locals
IsOp x locals (EndO number) = number < locals
IsOp x locals (InO t port) = is_readable port ≡ true
IsOp x locals (OutO port a) = is_writable port ≡ true
IsOp x locals _ = Unit {0}

-- how many parameters the function of a number has
abbrev pub parameter_count : {P : Type 0} → CodeT P → (function : ℕ) → Option ℕ
parameter_count x f = option_map (λ g. length g.params) (slice_get x.functions f)

-- a call passes as many arguments as the function has parameters
abbrev pub IsCall : {P : Type 0} → CodeT P → (function : ℕ) → List P → Type 0
IsCall x f args = parameter_count x f ≡ Some (length args)

-- ---- nodes

-- the k-th enclosing one is a loop
abbrev pub IsLoop : List Bool → ℕ → Type 0
IsLoop [] k = ⊥
IsLoop (b ∷ bs) zero = b ≡ true
IsLoop (b ∷ bs) (suc k) = IsLoop bs k

-- Nodes inside these, of which each is a loop or a block.
abbrev pub AreNodes : {P : Type 0} → CodeT P → (locals : ℕ) → (loops : List Bool) → NodesT P → Type 0
AreNodes x m ls Stop = Unit {0}
AreNodes x m ls (Do o c) = IsOp x m o × AreNodes x m ls c
AreNodes x m ls (Call t f args c) = IsCall x f args × AreNodes x m ls c
AreNodes x m ls (Choose p a b c) = AreNodes x m ls a × AreNodes x m ls b × AreNodes x m ls c
AreNodes x m ls (Block b c) = AreNodes x m (false ∷ ls) b × AreNodes x m ls c
AreNodes x m ls (Loop b c) = AreNodes x m (true ∷ ls) b × AreNodes x m ls c
AreNodes x m ls (Leave k c) = (k < length ls) × AreNodes x m ls c
AreNodes x m ls (Again k c) = IsLoop ls k × AreNodes x m ls c
AreNodes x m ls (Return p c) = AreNodes x m ls c

-- every place that nodes name
abbrev pub AllOf : {P : Type 0} → (P → Type 0) → List P → Type 0
AllOf Q [] = Unit {0}
AllOf Q (p ∷ ps) = Q p × AllOf Q ps

abbrev pub NodeNames : {P : Type 0} → (P → Type 0) → NodesT P → Type 0
NodeNames Q c = AllOf Q (node_uses c) × AllOf Q (maybe (node_target c))

abbrev pub Names : {P : Type 0} → (P → Type 0) → NodesT P → Type 0
Names Q Stop = Unit {0}
Names Q (Do o c) = NodeNames Q (Do o c) × Names Q c
Names Q (Call t f args c) = NodeNames Q (Call t f args c) × Names Q c
Names Q (Choose p a b c) = NodeNames Q (Choose p a b c) × Names Q a × Names Q b × Names Q c
Names Q (Block b c) = Names Q b × Names Q c
Names Q (Loop b c) = Names Q b × Names Q c
Names Q (Leave k c) = Names Q c
Names Q (Again k c) = Names Q c
Names Q (Return p c) = NodeNames Q (Return p c) × Names Q c

-- no function is called
abbrev pub CallsNone : {P : Type 0} → NodesT P → Type 0
CallsNone Stop = Unit {0}
CallsNone (Do o c) = CallsNone c
CallsNone (Call t f args c) = ⊥
CallsNone (Choose p a b c) = CallsNone a × CallsNone b × CallsNone c
CallsNone (Block b c) = CallsNone b × CallsNone c
CallsNone (Loop b c) = CallsNone b × CallsNone c
CallsNone (Leave k c) = CallsNone c
CallsNone (Again k c) = CallsNone c
CallsNone (Return p c) = CallsNone c

-- ---- functions and code

abbrev pub DifferFrom : {P : Type 0} → P → List P → Type 0
DifferFrom p [] = Unit {0}
DifferFrom p (q ∷ qs) = (p ≢ q) × DifferFrom p qs

abbrev pub AreDifferent : {P : Type 0} → List P → Type 0
AreDifferent [] = Unit {0}
AreDifferent (p ∷ ps) = DifferFrom p ps × AreDifferent ps

pub record IsFunction {P : Type 0} (named : FunctionT P → P → Type 0) (x : CodeT P) (f : FunctionT P) : Type 0 where
  pub nodes : AreNodes x (length f.locals) [] f.body
  pub names : Names (named f) f.body
  pub params_named : AllOf (named f) f.params
  pub params_differ : AreDifferent f.params
  pub count : f.temps + length f.locals ≤ 1000000
  pub sizes : AllOf (λ n. 1 ≤ n) f.locals
  pub words : sum f.locals ≤ 1073741824

-- The start has no parameters, locals, result or calls.
pub record IsStart {P : Type 0} (named : FunctionT P → P → Type 0) (x : CodeT P) (f : FunctionT P) : Type 0 where
  pub function : IsFunction named x f
  pub params : f.params ≡ []
  pub locals : f.locals ≡ []
  pub gives : f.gives ≡ false
  pub calls : CallsNone f.body

-- main is there, and has no parameters
abbrev pub IsMain : {P : Type 0} → CodeT P → Type 0
IsMain x = parameter_count x x.main ≡ Some 0

pub record IsCode {P : Type 0} (named : FunctionT P → P → Type 0) (x : CodeT P) : Type 0 where
  pub start : IsStart named x x.start
  pub functions : AllOf (IsFunction named x) x.functions
  pub globals : sum x.globals ≤ 3145728
  pub main : IsMain x

-- in mid code each temporary has a number below that of the function's temporaries
abbrev pub IsTemporary : FunctionT ℕ → ℕ → Type 0
IsTemporary f t = t < f.temps

abbrev pub IsMid : CodeT ℕ → Type 0
IsMid x = IsCode IsTemporary x

-- ---- placed code

-- no register above 8
abbrev pub IsPlace : FunctionT Where → Where → Type 0
IsPlace f (Reg number) = number < 9
IsPlace f (Slot number) = Unit {0}

-- a word of a frame: that of a slot, a word of a local, a word of the emitter's own
pub data SpotWord : Type 0 where
  OfSlot : (number : ℕ) → SpotWord
  OfLocal : (number i : ℕ) → SpotWord
  OfEmitter : (number : ℕ) → SpotWord

-- a word that stands at an offset of the frame of a function
pub data StandsAt {P : Type 0} (s : SpotsT) (f : FunctionT P) : SpotWord → (offset : ℕ) → Type 0 where
  slot : {number offset : ℕ} → slice_get s.slots number ≡ Some offset → StandsAt s f (OfSlot number) offset
  local : {number i offset size : ℕ} → slice_get s.locals number ≡ Some offset → slice_get f.locals number ≡ Some size → i < size
      → StandsAt s f (OfLocal number i) (offset + i)
  emitter : {number offset : ℕ} → slice_get s.own number ≡ Some offset → StandsAt s f (OfEmitter number) offset

-- how many parameters a function has in registers
abbrev pub in_registers : List Where → ℕ
in_registers [] = 0
in_registers (Reg number ∷ ps) = suc (in_registers ps)
in_registers (Slot number ∷ ps) = in_registers ps

-- The spots of a function with a frame of this size: an offset for each local and for each slot that is named. The emitter's words, where it
-- wants any, are the last ones of the frame, from its end. No two words share an offset.
pub record AreSpots (size : ℕ) (f : FunctionT Where) (s : SpotsT) : Type 0 where
  pub locals : length s.locals ≡ length f.locals
  pub own : length s.own ≤ 16
  pub last : (k offset : ℕ) → slice_get s.own k ≡ Some offset → offset + (k + 1) ≡ size
  pub below : {a : SpotWord} {offset : ℕ} → StandsAt s f a offset → offset < size
  pub apart : {a b : SpotWord} {offset : ℕ} → StandsAt s f a offset → StandsAt s f b offset → a ≡ b

abbrev pub HasSlot : SpotsT → Where → Type 0
HasSlot s (Reg number) = Unit {0}
HasSlot s (Slot number) = number < length s.slots

-- one frame size and one spots per function
abbrev pub AllSpots : List ℕ → List (FunctionT Where) → List SpotsT → Type 0
AllSpots [] [] [] = Unit {0}
AllSpots (size ∷ sizes) (f ∷ fs) (s ∷ ss) = AreSpots size f s × Names (HasSlot s) f.body × AllOf (HasSlot s) f.params × AllSpots sizes fs ss
AllSpots _ _ _ = ⊥

abbrev pub IsStartPlace : Where → Type 0
IsStartPlace (Reg number) = Unit {0}
IsStartPlace (Slot number) = number < start_frame

pub record IsPlaced (x : PlacedT) : Type 0 where
  pub code : IsCode IsPlace x.code
  pub spots : AllSpots x.frames x.code.functions x.spots
  pub start : Names IsStartPlace x.code.start.body
