-- Settled code: no operator is left whose words are known, no operand is a copy, and no operation only puts something where nothing reads it.
use Rattle.std.specs.Prelude.{ℕ, ◌≡◌, Bool, true, false, not, eqb, cond, ◌&&◌, List, [], ◌∷◌, is_some, Option, Some, None}
use Rattle.std.specs.List.{list_all}
use Rattle.mid_code.specs.Code.{OpT, ConstO, NullO, MoveO, OneO, TwoO, GlobalO, LocalO, LiteralO, CardO, uses, target}
use Rattle.mid_code.specs.Code.{NodesT, Stop, Do, Call, Choose, Block, Loop, Leave, Again, Return, FunctionT, CodeT}
use Rattle.mid_code.specs.Invariants.{AllOf}
use Rattle.mid_code.specs.Live.{Live}
use Rattle.mid_code.specs.Paths.{Frame, Each}
use Rattle.mid_fold.specs.Lasting.{divides}

-- ---- what is known at a point of a run, which is a stretch of operations and calls that stand together in a list

pub data InRun : Type 0 where
  Acts : (o : OpT ℕ) → InRun
  Calls : (t : Option ℕ) → InRun

-- the nodes of the run before a point, the nearest first
abbrev pub Before : Type 0
Before = List InRun

abbrev pub is_made : Option ℕ → ℕ → Bool
is_made None q = false
is_made (Some t) q = eqb t q

abbrev pub makes : InRun → ℕ → Bool
makes (Acts o) q = is_made (target o) q
makes (Calls t) q = is_made t q

abbrev pub word_put : InRun → Option ℕ
word_put (Acts (ConstO t word)) = Some word
word_put _ = None

abbrev pub moved : InRun → Option ℕ
moved (Acts (MoveO t a)) = Some a
moved _ = None

-- the word of a temporary, where its last target puts one
abbrev pub word_of : Before → ℕ → Option ℕ
word_of [] q = None
word_of (x ∷ xs) q = cond (makes x q) (word_put x) (word_of xs q)

abbrev pub unless_is : ℕ → Option ℕ → Option ℕ
unless_is q None = None
unless_is q (Some a) = cond (eqb a q) None (Some a)

abbrev pub unless_made : InRun → Option ℕ → Option ℕ
unless_made x None = None
unless_made x (Some a) = cond (makes x a) None (Some a)

-- the other temporary of which one is a copy: its last target moves that one, which has had no target since
abbrev pub source_of : Before → ℕ → Option ℕ
source_of [] q = None
source_of (x ∷ xs) q = cond (makes x q) (unless_is q (moved x)) (unless_made x (source_of xs q))

-- ---- runs

abbrev pub is_zero : Option ℕ → Bool
is_zero None = false
is_zero (Some word) = eqb word 0

-- an operator whose words are known, but for a division or remainder by 0
abbrev pub can_be_folded : Before → OpT ℕ → Bool
can_be_folded xs (OneO o t a) = is_some (word_of xs a)
can_be_folded xs (TwoO o t a b) = is_some (word_of xs a) && (is_some (word_of xs b) && not (divides o && is_zero (word_of xs b)))
can_be_folded xs _ = false

abbrev pub are_no_copies : Before → List ℕ → Bool
are_no_copies xs qs = list_all (λ q. not (is_some (source_of xs q))) qs

-- A node that is no operation and no call ends a run.
abbrev pub nodes_settled : Before → NodesT ℕ → Bool
nodes_settled xs Stop = true
nodes_settled xs (Do o c) = not (can_be_folded xs o) && (are_no_copies xs (uses o) && nodes_settled (Acts o ∷ xs) c)
nodes_settled xs (Call t f args c) = are_no_copies xs args && nodes_settled (Calls t ∷ xs) c
nodes_settled xs (Choose p a b c) = nodes_settled [] a && (nodes_settled [] b && nodes_settled [] c)
nodes_settled xs (Block b c) = nodes_settled [] b && nodes_settled [] c
nodes_settled xs (Loop b c) = nodes_settled [] b && nodes_settled [] c
nodes_settled xs (Leave k c) = nodes_settled [] c
nodes_settled xs (Again k c) = nodes_settled [] c
nodes_settled xs (Return p c) = nodes_settled [] c

-- ---- targets

-- an operation that does nothing but put something into its target
abbrev pub only_puts : OpT ℕ → Bool
only_puts (ConstO t word) = true
only_puts (NullO t) = true
only_puts (MoveO t a) = true
only_puts (OneO o t a) = true
only_puts (TwoO o t a b) = not (divides o)
only_puts (GlobalO t number) = true
only_puts (LocalO t number) = true
only_puts (LiteralO t number) = true
only_puts (CardO t) = true
only_puts _ = false

-- its target is live behind it
abbrev pub IsWanted : List (Frame ℕ) → NodesT ℕ → Type 0
IsWanted fs (Do o c) = only_puts o ≡ true → (t : ℕ) → target o ≡ Some t → Live t fs c
IsWanted fs _ = Unit {0}

-- ---- programs

pub record IsSettledFunction (f : FunctionT ℕ) : Type 0 where
  pub runs : nodes_settled [] f.body ≡ true
  pub targets : Each IsWanted [] f.body

pub record IsSettled (x : CodeT ℕ) : Type 0 where
  pub start : IsSettledFunction x.start
  pub functions : AllOf IsSettledFunction x.functions
