-- The sweep: from the end of each list of nodes it takes out each operation that only puts something into a temporary that is not live behind it.
use Rattle.std.specs.Prelude.{ℕ, false, cond, ◌||◌, [], map}
use Rattle.mid_code.specs.Code.{target, NodesT, Stop, Do, Call, Choose, Block, Loop, Leave, Again, Return, FunctionT, CodeT}
use Rattle.mid_code.specs.Live.{ends_of, begins_of, live_before, is_used, is_target}
use Rattle.mid_improve.specs.Settled.{only_puts}
use Rattle.mid_improve.specs.inner.Wanted.{Labels, Set, live_set, in_block, in_loop, maybe_wanted}

-- What is live before the nodes that are left, from what is live behind them. At the head of a loop it is what was live there before the sweep.
abbrev pub left : ℕ → Labels → NodesT ℕ → Set → Set
left n ls Stop s = s
left n ls (Do o c) s = λ y.
    cond (maybe_wanted n (only_puts o) (target o) (left n ls c s))
    (live_before (is_used (Do o c) y) (is_target (Do o c) y) (left n ls c s y))
    (left n ls c s y)
left n ls (Call t f args c) s = λ y. live_before (is_used (Call t f args c) y) (is_target (Call t f args c) y) (left n ls c s y)
left n ls (Choose p a b c) s = λ y. live_before (is_used (Choose p a b c) y) false (left n ls a (left n ls c s) y || left n ls b (left n ls c s) y)
left n ls (Block b c) s = left n (in_block (left n ls c s) ls) b (left n ls c s)
left n ls (Loop b c) s = left n (in_loop (live_set (in_block (left n ls c s) ls) b (left n ls c s)) (left n ls c s) ls) b (left n ls c s)
left n ls (Leave k c) s = λ y. ends_of (ls y) k
left n ls (Again k c) s = λ y. begins_of (ls y) k
left n ls (Return p c) s = λ y. is_used (Return p c) y

abbrev pub swept : ℕ → Labels → NodesT ℕ → Set → NodesT ℕ
swept n ls Stop s = Stop
swept n ls (Do o c) s = cond (maybe_wanted n (only_puts o) (target o) (left n ls c s)) (Do o (swept n ls c s)) (swept n ls c s)
swept n ls (Call t f args c) s = Call t f args (swept n ls c s)
swept n ls (Choose p a b c) s = Choose p (swept n ls a (left n ls c s)) (swept n ls b (left n ls c s)) (swept n ls c s)
swept n ls (Block b c) s = Block (swept n (in_block (left n ls c s) ls) b (left n ls c s)) (swept n ls c s)
swept n ls (Loop b c) s =
    Loop (swept n (in_loop (live_set (in_block (left n ls c s) ls) b (left n ls c s)) (left n ls c s) ls) b (left n ls c s)) (swept n ls c s)
swept n ls (Leave k c) s = Leave k (swept n ls c s)
swept n ls (Again k c) s = Again k (swept n ls c s)
swept n ls (Return p c) s = Return p (swept n ls c s)

-- nothing encloses a body, and nothing is live behind it
abbrev pub no_labels : Labels
no_labels y = []

abbrev pub none_live : Set
none_live y = false

abbrev pub swept_function : FunctionT ℕ → FunctionT ℕ
swept_function f = record f { body = swept f.temps no_labels f.body none_live }

abbrev pub swept_code : CodeT ℕ → CodeT ℕ
swept_code x = record x { start = swept_function x.start; functions = map swept_function x.functions }
