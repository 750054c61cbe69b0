-- Common subexpressions: an operator on words, or a step of a pointer, that a temporary has the result of, for the same operands, becomes a move of that
-- temporary. A step by 0 becomes a move of its pointer, where that is known to be one.
use Rattle.std.specs.Prelude.{ℕ, Bool, true, false, not, eqb, cond, ◌&&◌, ◌||◌, min, take, length, List, [], ◌∷◌, map, Option, Some, None}
use denote.Enum.Bare.{sameb}
use Rattle.v32_isa.specs.contracts.instruction.Two.{the_type}
use Rattle.v32_isa.specs.declared.instruction.Two.{Two}
use Rattle.v32_isa.specs.declared.instruction.Two.TheVariants.{AND, OR, XOR, SHL, IADD, ISUB, IMUL}
use Rattle.mid_code.specs.Code.{OpT, ConstO, MoveO, TwoO, GlobalO, LocalO, StepO, FunctionT, CodeT, target}
use Rattle.mid_code.specs.Code.{NodesT, Stop, Do, Call, Choose, Block, Loop, Leave, Again, Return}
use Rattle.mid_fold.specs.declared.operand.Operand.{Operand}
use Rattle.mid_fold.specs.declared.operand.Operand.TheVariants.{Word, Address, Cell}
use Rattle.mid_fold.specs.declared.made.Maker.{Maker}
use Rattle.mid_fold.specs.declared.made.Maker.TheVariants.{Operator, Step, Local}
use Rattle.mid_fold.specs.declared.made.Made.{Made}

-- ---- what is known at a point

-- temporaries that have a word, the address of a global, or what another temporary has, the latest first
abbrev pub Operands : Type 0
Operands = List (ℕ × Operand)

-- temporaries that have what an operator or a step made, or the address of a local, the latest first
abbrev pub Results : Type 0
Results = List Made

abbrev pub Seen : Type 0
Seen = Operands × Results

abbrev pub nothing_seen : Seen
nothing_seen = ([], [])

abbrev pub operand_in : Operands → ℕ → Operand
operand_in [] q = Cell q
operand_in (e ∷ es) q = cond (eqb e.0 q) e.1 (operand_in es q)

abbrev pub is_same : Operand → Operand → Bool
is_same (Word a) (Word b) = eqb a b
is_same (Address a) (Address b) = eqb a b
is_same (Cell a) (Cell b) = eqb a b
is_same _ _ = false

abbrev pub is_same_operator : Two → Two → Bool
is_same_operator = sameb the_type

abbrev pub is_same_maker : Maker → Maker → Bool
is_same_maker (Operator a) (Operator b) = is_same_operator a b
is_same_maker Step Step = true
is_same_maker _ _ = false

abbrev pub is_made_by : Made → Maker → Operand → Operand → Bool
is_made_by m o x y = is_same_maker m.by o && (is_same m.first x && is_same m.second y)

abbrev pub result_in : Results → Maker → Operand → Operand → Option ℕ
result_in [] o x y = None
result_in (m ∷ ms) o x y = cond (is_made_by m o x y) (Some m.target) (result_in ms o x y)

-- ---- what is still known where t takes another cell

abbrev pub is_cell : Operand → ℕ → Bool
is_cell (Word w) t = false
is_cell (Address n) t = false
is_cell (Cell q) t = eqb q t

abbrev pub operands_behind : Operands → ℕ → Operands
operands_behind [] t = []
operands_behind (e ∷ es) t = cond (eqb e.0 t || is_cell e.1 t) (operands_behind es t) (e ∷ operands_behind es t)

abbrev pub results_behind : Results → ℕ → Results
results_behind [] t = []
results_behind (m ∷ ms) t = cond (eqb m.target t || (is_cell m.first t || is_cell m.second t)) (results_behind ms t) (m ∷ results_behind ms t)

abbrev pub behind : Seen → ℕ → Seen
behind k t = (operands_behind k.0 t, results_behind k.1 t)

abbrev pub behind_maybe : Seen → Option ℕ → Seen
behind_maybe k None = k
behind_maybe k (Some t) = behind k t

-- ---- what an operation adds

-- t takes what an operand is; at most three others are kept
abbrev pub with_operand : Operands → ℕ → Operand → Operands
with_operand es t x = cond (is_cell x t) es ((t, x) ∷ take (min (length es) 3) es)

abbrev pub is_some_cell : Operand → Bool
is_some_cell (Cell q) = true
is_some_cell _ = false

-- what made that which an operand has, where it is known
abbrev pub maker_in : Results → Operand → Option Maker
maker_in [] x = None
maker_in (m ∷ ms) x = cond (is_cell x m.target) (Some m.by) (maker_in ms x)

abbrev pub is_product : Option Maker → Bool
is_product (Some (Operator IMUL)) = true
is_product _ = false

abbrev pub is_step : Option Maker → Bool
is_step (Some Step) = true
is_step _ = false

-- The operators whose result is kept. A sum with a known word is one instruction, as the move would be.
abbrev pub is_operator_worth : Two → Operand → Operand → Bool
is_operator_worth AND x y = true
is_operator_worth OR x y = true
is_operator_worth XOR x y = true
is_operator_worth SHL x y = true
is_operator_worth IMUL x y = true
is_operator_worth IADD x y = is_some_cell x && is_some_cell y
is_operator_worth ISUB x y = is_some_cell x && is_some_cell y
is_operator_worth _ x y = false

-- The steps whose result is kept: to an element of more than one word, and from there to one by a number that is not known. The step to a member goes into
-- the load or store behind it, as that to an element of one word does.
abbrev pub is_step_worth : Results → Operand → Operand → Bool
is_step_worth ms x y = is_some_cell y && (is_product (maker_in ms y) || is_step (maker_in ms x))

abbrev pub is_worth : Results → Maker → Operand → Operand → Bool
is_worth ms (Operator o) x y = is_operator_worth o x y
is_worth ms Step x y = is_step_worth ms x y
is_worth ms Local x y = true

abbrev pub is_kept : Results → Made → Bool
is_kept ms m = is_worth ms m.by m.first m.second && not (is_cell m.first m.target || is_cell m.second m.target)

-- what was made; at most fifteen others are kept
abbrev pub with_result : Results → Made → Results
with_result ms m = cond (is_kept ms m) (m ∷ take (min (length ms) 15) ms) ms

abbrev pub made : Operands → Maker → (t a b : ℕ) → Made
made es o t a b = record { target = t; by = o; first = operand_in es a; second = operand_in es b }

-- The address of a local is made of no operands.
abbrev pub address_of_local : ℕ → Made
address_of_local t = record { target = t; by = Local; first = Word 0; second = Word 0 }

abbrev pub seen_behind : Seen → OpT ℕ → Seen
seen_behind k (ConstO t word) = (with_operand (operands_behind k.0 t) t (Word word), results_behind k.1 t)
seen_behind k (MoveO t a) = (with_operand (operands_behind k.0 t) t (operand_in k.0 a), results_behind k.1 t)
seen_behind k (GlobalO t number) = (with_operand (operands_behind k.0 t) t (Address number), results_behind k.1 t)
seen_behind k (LocalO t number) = (operands_behind k.0 t, with_result (results_behind k.1 t) (address_of_local t))
seen_behind k (TwoO o t a b) = (operands_behind k.0 t, with_result (results_behind k.1 t) (made k.0 (Operator o) t a b))
seen_behind k (StepO t p n) = (operands_behind k.0 t, with_result (results_behind k.1 t) (made k.0 Step t p n))
seen_behind k o = behind_maybe k (target o)

-- ---- code

abbrev pub moved_or : ℕ → OpT ℕ → Option ℕ → OpT ℕ
moved_or t o None = o
moved_or t o (Some q) = MoveO t q

-- the temporary that has the result
abbrev pub result_of : Results → Made → Option ℕ
result_of ms m = cond (is_worth ms m.by m.first m.second) (result_in ms m.by m.first m.second) None

abbrev pub is_zero : Operand → Bool
is_zero (Word w) = eqb w 0
is_zero _ = false

-- a pointer, whose offset is a word
abbrev pub is_address : Option Maker → Bool
is_address (Some Step) = true
is_address (Some Local) = true
is_address _ = false

-- The temporary that has what a step makes. The step by 0 of the address of a global stays, since it goes into the load or store behind it.
abbrev pub step_found : Seen → (t p n : ℕ) → Option ℕ
step_found k t p n = cond (is_zero (operand_in k.0 n) && is_address (maker_in k.1 (operand_in k.0 p))) (Some p) (result_of k.1 (made k.0 Step t p n))

abbrev pub reused_op : Seen → OpT ℕ → OpT ℕ
reused_op k (TwoO o t a b) = moved_or t (TwoO o t a b) (result_of k.1 (made k.0 (Operator o) t a b))
reused_op k (StepO t p n) = moved_or t (StepO t p n) (step_found k t p n)
reused_op k o = o

-- A choice and a block begin with what is known before them, a loop with nothing; behind each of them, and behind a call, nothing is known.
abbrev pub reused : Seen → NodesT ℕ → NodesT ℕ
reused k Stop = Stop
reused k (Do o c) = Do (reused_op k o) (reused (seen_behind k (reused_op k o)) c)
reused k (Call t f args c) = Call t f args (reused nothing_seen c)
reused k (Choose p a b c) = Choose p (reused k a) (reused k b) (reused nothing_seen c)
reused k (Block b c) = Block (reused k b) (reused nothing_seen c)
reused k (Loop b c) = Loop (reused nothing_seen b) (reused nothing_seen c)
reused k (Leave j c) = Leave j (reused nothing_seen c)
reused k (Again j c) = Again j (reused nothing_seen c)
reused k (Return p c) = Return p (reused nothing_seen c)

abbrev pub reused_function : FunctionT ℕ → FunctionT ℕ
reused_function f = record f { body = reused nothing_seen f.body }

abbrev pub reused_code : CodeT ℕ → CodeT ℕ
reused_code x = record x { start = reused_function x.start; functions = map reused_function x.functions }
