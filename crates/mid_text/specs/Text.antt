-- The text of mid code, a line for each node, in the form of the page on mid code. Numbers are decimal.
use Rattle.std.specs.Prelude.{ℕ, ◌+◌, Bool, true, false, List, [], ◌∷◌, ◌++◌, Option, Some, None, codes, map}
use Rattle.std.specs.List.{flat_map}
use Rattle.std.specs.Fmt.{decimal}
use Rattle.mid_code.specs.Code.{OpT, ConstO, NullO, MoveO, OneO, TwoO, GlobalO, LocalO, LiteralO, CardO, StepO, ApartO, PtrTestO, LoadO, StoreO}
use Rattle.mid_code.specs.Code.{FreshO, EndO, InO, OutO, WaitO, HaltO, NodesT, Stop, Do, Call, Choose, Block, Loop, Leave, Again, Return, FunctionT}
use Rattle.mid_code.specs.Code.{CodeT}
use Rattle.asm_items.specs.Mnemonics.{one_name, two_name}

-- a comma and a space before each of them
abbrev pub further : List ℕ → List ℕ
further [] = []
further (n ∷ ns) = codes ", " ++ decimal n ++ further ns

-- with a comma and a space between
abbrev pub commas : List ℕ → List ℕ
commas [] = []
commas (n ∷ ns) = decimal n ++ further ns

-- in parentheses
abbrev pub enclosed : List ℕ → List ℕ
enclosed ns = codes "(" ++ commas ns ++ codes ")"

-- what an operation does, and its operands in their order
abbrev pub op_name : OpT ℕ → List ℕ
op_name (ConstO t word) = codes "Const "
op_name (NullO t) = codes "Null "
op_name (MoveO t a) = codes "Move "
op_name (OneO o t a) = codes "One " ++ one_name o ++ codes " "
op_name (TwoO o t a b) = codes "Two " ++ two_name o ++ codes " "
op_name (GlobalO t number) = codes "Global "
op_name (LocalO t number) = codes "Local "
op_name (LiteralO t number) = codes "Literal "
op_name (CardO t) = codes "Card "
op_name (StepO t p n) = codes "Step "
op_name (ApartO t p q) = codes "Apart "
op_name (PtrTestO o t p q) = codes "PtrTest " ++ two_name o ++ codes " "
op_name (LoadO t p) = codes "Load "
op_name (StoreO p a) = codes "Store "
op_name (FreshO local) = codes "Fresh "
op_name (EndO local) = codes "End "
op_name (InO t port) = codes "In "
op_name (OutO port a) = codes "Out "
op_name WaitO = codes "Wait"
op_name HaltO = codes "Halt"

abbrev pub operands : OpT ℕ → List ℕ
operands (ConstO t word) = t ∷ word ∷ []
operands (NullO t) = t ∷ []
operands (MoveO t a) = t ∷ a ∷ []
operands (OneO o t a) = t ∷ a ∷ []
operands (TwoO o t a b) = t ∷ a ∷ b ∷ []
operands (GlobalO t number) = t ∷ number ∷ []
operands (LocalO t number) = t ∷ number ∷ []
operands (LiteralO t number) = t ∷ number ∷ []
operands (CardO t) = t ∷ []
operands (StepO t p n) = t ∷ p ∷ n ∷ []
operands (ApartO t p q) = t ∷ p ∷ q ∷ []
operands (PtrTestO o t p q) = t ∷ p ∷ q ∷ []
operands (LoadO t p) = t ∷ p ∷ []
operands (StoreO p a) = p ∷ a ∷ []
operands (FreshO local) = local ∷ []
operands (EndO local) = local ∷ []
operands (InO t port) = t ∷ port ∷ []
operands (OutO port a) = port ∷ a ∷ []
operands WaitO = []
operands HaltO = []

abbrev pub op_text : OpT ℕ → List ℕ
op_text o = op_name o ++ commas (operands o)

-- the target of a call, where it has one
abbrev pub target_text : Option ℕ → List ℕ
target_text None = codes "-"
target_text (Some t) = decimal t

abbrev pub call_text : Option ℕ → (function : ℕ) → List ℕ → List ℕ
call_text t f args = codes "Call " ++ target_text t ++ codes ", " ++ decimal f ++ codes " " ++ enclosed args

abbrev pub result_text : Option ℕ → List ℕ
result_text None = codes "Return"
result_text (Some p) = codes "Return " ++ decimal p

-- a line, behind what stands before each line of its list
abbrev pub line : (lead text : List ℕ) → List ℕ
line lead text = lead ++ text ++ codes "\n"

-- what stands before the lines of a list inside
abbrev pub inside : List ℕ → List ℕ
inside lead = lead ++ codes "  "

abbrev pub nodes_text : (lead : List ℕ) → NodesT ℕ → List ℕ
nodes_text lead Stop = []
nodes_text lead (Do o c) = line lead (codes "Do " ++ op_text o) ++ nodes_text lead c
nodes_text lead (Call t f args c) = line lead (codes "Do " ++ call_text t f args) ++ nodes_text lead c
nodes_text lead (Choose p a b c) =
    line lead (codes "Choose " ++ decimal p) ++ nodes_text (inside lead) a ++ line lead (codes "else") ++ nodes_text (inside lead) b ++ nodes_text lead c
nodes_text lead (Block b c) = line lead (codes "Block") ++ nodes_text (inside lead) b ++ nodes_text lead c
nodes_text lead (Loop b c) = line lead (codes "Loop") ++ nodes_text (inside lead) b ++ nodes_text lead c
nodes_text lead (Leave k c) = line lead (codes "Leave " ++ decimal k) ++ nodes_text lead c
nodes_text lead (Again k c) = line lead (codes "Again " ++ decimal k) ++ nodes_text lead c
nodes_text lead (Return p c) = line lead (result_text p) ++ nodes_text lead c

-- ---- functions and programs

abbrev pub gives_text : Bool → List ℕ
gives_text true = codes ", gives"
gives_text false = []

abbrev pub counted_text : (temps : ℕ) → (params : List ℕ) → List ℕ
counted_text temps params = codes ", temps " ++ decimal temps ++ codes ", params " ++ enclosed params

-- The line of a function: how many temporaries it has, those that receive its arguments, the words of its locals, whether it gives a result.
abbrev pub head_text : FunctionT ℕ → List ℕ
head_text f = counted_text f.temps f.params ++ (codes ", locals " ++ enclosed f.locals) ++ gives_text f.gives

abbrev pub function_text : (name : List ℕ) → FunctionT ℕ → List ℕ
function_text name f = name ++ head_text f ++ codes "\n" ++ nodes_text (codes "  ") f.body

-- under their numbers, from k on
abbrev pub functions_text : (k : ℕ) → List (FunctionT ℕ) → List ℕ
functions_text k [] = []
functions_text k (f ∷ fs) = function_text (codes "function " ++ decimal k) f ++ functions_text (k + 1) fs

-- the bytes of each literal
abbrev pub literals_text : List (List ℕ) → List ℕ
literals_text [] = []
literals_text (t ∷ ts) = codes "literal " ++ enclosed t ++ codes "\n" ++ literals_text ts

-- the words of the globals, the literals in their order, the number of main
abbrev pub data_text : CodeT ℕ → List ℕ
data_text x = (codes "globals " ++ enclosed x.globals ++ codes "\n") ++ literals_text x.literals ++ (codes "main " ++ decimal x.main ++ codes "\n")

-- The start, the functions, and what they work on.
abbrev pub code_text : CodeT ℕ → List ℕ
code_text x = function_text (codes "start") x.start ++ functions_text 0 x.functions ++ data_text x
