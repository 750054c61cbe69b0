-- Constant folding: an operator whose words are known puts the word that it makes of them, and a move of a known word puts that word.
use Rattle.std.specs.Prelude.{ℕ, ◌^◌, eqb, nat_lt, cond, min, take, length, List, [], ◌∷◌, map, Option, Some, None}
use Rattle.mid_code.specs.Code.{OpT, ConstO, MoveO, OneO, TwoO, NodesT, Stop, Do, Call, Choose, Block, Loop, Leave, Again, Return, FunctionT, CodeT, target}
use Rattle.mid_fold.specs.Lasting.{one_known, two_known}

-- ---- what is known at a point

-- temporaries whose word is known, the latest first
abbrev pub Words : Type 0
Words = List (ℕ × ℕ)

abbrev pub word_in : Words → ℕ → Option ℕ
word_in [] q = None
word_in (e ∷ es) q = cond (eqb e.0 q) (Some e.1) (word_in es q)

-- what is still known where t takes another cell
abbrev pub behind : Words → ℕ → Words
behind [] t = []
behind (e ∷ es) t = cond (eqb e.0 t) (behind es t) (e ∷ behind es t)

abbrev pub behind_maybe : Words → Option ℕ → Words
behind_maybe es None = es
behind_maybe es (Some t) = behind es t

-- at most fifteen are kept beside a new one
abbrev pub few : Words → Words
few es = take (min (length es) 15) es

abbrev pub known_behind : Words → OpT ℕ → Words
known_behind es (ConstO t word) = (t, word) ∷ few (behind es t)
known_behind es o = behind_maybe es (target o)

-- ---- code

-- a constant in the place of an operation, where there is a word for it
abbrev pub word_or : ℕ → OpT ℕ → Option ℕ → OpT ℕ
word_or t o None = o
word_or t o (Some word) = cond (nat_lt word (2 ^ 32)) (ConstO t word) o

-- A division by 0 makes no word, and stays.
abbrev pub folded_op : Words → OpT ℕ → OpT ℕ
folded_op es (MoveO t a) = word_or t (MoveO t a) (word_in es a)
folded_op es (OneO o t a) = word_or t (OneO o t a) (one_known o (word_in es a))
folded_op es (TwoO o t a b) = word_or t (TwoO o t a b) (two_known o (word_in es a) (word_in es b))
folded_op es o = o

-- A choice and a block begin with what is known before them, a loop with nothing; behind each of them, and behind a call, nothing is known.
abbrev pub folded : Words → NodesT ℕ → NodesT ℕ
folded es Stop = Stop
folded es (Do o c) = Do (folded_op es o) (folded (known_behind es (folded_op es o)) c)
folded es (Call t f args c) = Call t f args (folded [] c)
folded es (Choose p a b c) = Choose p (folded es a) (folded es b) (folded [] c)
folded es (Block b c) = Block (folded es b) (folded [] c)
folded es (Loop b c) = Loop (folded [] b) (folded [] c)
folded es (Leave k c) = Leave k (folded [] c)
folded es (Again k c) = Again k (folded [] c)
folded es (Return p c) = Return p (folded [] c)

abbrev pub folded_function : FunctionT ℕ → FunctionT ℕ
folded_function f = record f { body = folded [] f.body }

abbrev pub folded_code : CodeT ℕ → CodeT ℕ
folded_code x = record x { start = folded_function x.start; functions = map folded_function x.functions }
