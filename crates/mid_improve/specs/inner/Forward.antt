-- Forward propagation: within a run a copy is used as what it is a copy of, an operator on known words is the word that it makes of them, and a move of a
-- known word puts that word.
use Rattle.std.specs.Prelude.{ℕ, ◌^◌, nat_lt, cond, map, option_map, Option, Some, None}
use Rattle.mid_code.specs.Code.{OpT, ConstO, MoveO, OneO, TwoO, StepO, ApartO, PtrTestO, LoadO, StoreO}
use Rattle.mid_code.specs.Code.{OutO, NodesT, Stop, Do, Call, Choose, Block, Loop, Leave, Again, Return, FunctionT, CodeT}
use Rattle.mid_fold.specs.Lasting.{one_known, two_known}
use Rattle.mid_improve.specs.inner.Facts.{Known, none_known, fact_word, fact_source, behind_maybe, known_behind}

-- the temporary that serves where one is used
abbrev pub or_itself : ℕ → Option ℕ → ℕ
or_itself q None = q
or_itself q (Some a) = a

abbrev pub serves : Known → ℕ → ℕ
serves k q = or_itself q (fact_source (k q))

-- ---- operations

-- a constant in the place of an operation, where there is a word for it
abbrev pub word_or : ℕ → OpT ℕ → Option ℕ → OpT ℕ
word_or t o None = o
word_or t o (Some word) = cond (nat_lt word (2 ^ 32)) (ConstO t word) o

-- A division by 0 makes no word, and stays.
abbrev pub forwarded_op : Known → OpT ℕ → OpT ℕ
forwarded_op k (MoveO t a) = word_or t (MoveO t (serves k a)) (fact_word (k a))
forwarded_op k (OneO o t a) = word_or t (OneO o t (serves k a)) (one_known o (fact_word (k a)))
forwarded_op k (TwoO o t a b) = word_or t (TwoO o t (serves k a) (serves k b)) (two_known o (fact_word (k a)) (fact_word (k b)))
forwarded_op k (StepO t p n) = StepO t (serves k p) (serves k n)
forwarded_op k (ApartO t p q) = ApartO t (serves k p) (serves k q)
forwarded_op k (PtrTestO o t p q) = PtrTestO o t (serves k p) (serves k q)
forwarded_op k (LoadO t p) = LoadO t (serves k p)
forwarded_op k (StoreO p a) = StoreO (serves k p) (serves k a)
forwarded_op k (OutO port a) = OutO port (serves k a)
forwarded_op k o = o

-- ---- nodes: what ends a run uses what is known in it, and behind it nothing is known

abbrev pub forwarded : Known → NodesT ℕ → NodesT ℕ
forwarded k Stop = Stop
forwarded k (Do o c) = Do (forwarded_op k o) (forwarded (known_behind k (forwarded_op k o)) c)
forwarded k (Call t f args c) = Call t f (map (serves k) args) (forwarded (behind_maybe k t) c)
forwarded k (Choose p a b c) = Choose (serves k p) (forwarded none_known a) (forwarded none_known b) (forwarded none_known c)
forwarded k (Block b c) = Block (forwarded none_known b) (forwarded none_known c)
forwarded k (Loop b c) = Loop (forwarded none_known b) (forwarded none_known c)
forwarded k (Leave j c) = Leave j (forwarded none_known c)
forwarded k (Again j c) = Again j (forwarded none_known c)
forwarded k (Return p c) = Return (option_map (serves k) p) (forwarded none_known c)

abbrev pub forwarded_function : FunctionT ℕ → FunctionT ℕ
forwarded_function f = record f { body = forwarded none_known f.body }

abbrev pub forwarded_code : CodeT ℕ → CodeT ℕ
forwarded_code x = record x { start = forwarded_function x.start; functions = map forwarded_function x.functions }
