-- What is known of temporaries at a point of a run, and whether the nodes from there on are settled, by that alone.
use Rattle.std.specs.Prelude.{ℕ, Bool, true, false, not, eqb, cond, ◌&&◌, is_some, Option, Some, None}
use Rattle.std.specs.List.{list_all}
use Rattle.mid_code.specs.Code.{OpT, ConstO, MoveO, OneO, TwoO, uses, target}
use Rattle.mid_code.specs.Code.{NodesT, Stop, Do, Call, Choose, Block, Loop, Leave, Again, Return}
use Rattle.mid_fold.specs.Lasting.{divides}
use Rattle.mid_improve.specs.Settled.{is_zero}

-- it has a word, or the cell of another temporary
pub data Fact : Type 0 where
  IsWord : (word : ℕ) → Fact
  IsCopy : (a : ℕ) → Fact

abbrev pub Known : Type 0
Known = ℕ → Option Fact

abbrev pub none_known : Known
none_known q = None

abbrev pub fact_word : Option Fact → Option ℕ
fact_word None = None
fact_word (Some (IsWord word)) = Some word
fact_word (Some (IsCopy a)) = None

abbrev pub fact_source : Option Fact → Option ℕ
fact_source None = None
fact_source (Some (IsWord word)) = None
fact_source (Some (IsCopy a)) = Some a

-- what is still known where t takes another cell
abbrev pub unless_copy : ℕ → Option Fact → Option Fact
unless_copy t None = None
unless_copy t (Some (IsWord word)) = Some (IsWord word)
unless_copy t (Some (IsCopy a)) = cond (eqb t a) None (Some (IsCopy a))

abbrev pub behind : Known → ℕ → Known
behind k t q = cond (eqb t q) None (unless_copy t (k q))

abbrev pub behind_maybe : Known → Option ℕ → Known
behind_maybe k None = k
behind_maybe k (Some t) = behind k t

-- one fact more
abbrev pub with_fact : ℕ → Fact → Known → Known
with_fact t f k q = cond (eqb t q) (Some f) (k q)

-- behind an operation
abbrev pub known_behind : Known → OpT ℕ → Known
known_behind k (ConstO t word) = with_fact t (IsWord word) (behind k t)
known_behind k (MoveO t a) = cond (eqb a t) (behind k t) (with_fact t (IsCopy a) (behind k t))
known_behind k o = behind_maybe k (target o)

abbrev pub folds : Known → OpT ℕ → Bool
folds k (OneO o t a) = is_some (fact_word (k a))
folds k (TwoO o t a b) = is_some (fact_word (k a)) && (is_some (fact_word (k b)) && not (divides o && is_zero (fact_word (k b))))
folds k _ = false

abbrev pub is_no_copy : Known → ℕ → Bool
is_no_copy k q = not (is_some (fact_source (k q)))

abbrev pub all_settled : Known → NodesT ℕ → Bool
all_settled k Stop = true
all_settled k (Do o c) = not (folds k o) && (list_all (is_no_copy k) (uses o) && all_settled (known_behind k o) c)
all_settled k (Call t f args c) = list_all (is_no_copy k) args && all_settled (behind_maybe k t) c
all_settled k (Choose p a b c) = all_settled none_known a && (all_settled none_known b && all_settled none_known c)
all_settled k (Block b c) = all_settled none_known b && all_settled none_known c
all_settled k (Loop b c) = all_settled none_known b && all_settled none_known c
all_settled k (Leave j c) = all_settled none_known c
all_settled k (Again j c) = all_settled none_known c
all_settled k (Return p c) = all_settled none_known c
