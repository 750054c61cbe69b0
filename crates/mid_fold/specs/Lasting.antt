-- What passes over operations leave of code: its skeleton, and with it each division and remainder but those by a known word other than 0.
use Rattle.std.specs.Prelude.{ℕ, Bool, true, false, not, eqb, cond, ◌&&◌, map, Option, Some, None}
use Rattle.v32_isa.specs.declared.instruction.One.{One}
use Rattle.v32_isa.specs.declared.instruction.Two.{Two}
use Rattle.v32_isa.specs.declared.instruction.Two.TheVariants.{IDIV, IMOD}
use Rattle.v32_isa.specs.Arithmetic.{one_of, two_of}
use Rattle.mid_code.specs.Code.{OpT, ConstO, MoveO, OneO, TwoO, NodesT, Stop, Do, Call, Choose, Block, Loop, Leave, Again, Return, target}
use Rattle.mid_code.specs.Skeleton.{stays, some_before, some_place}

-- ---- what is known at a point: the words of temporaries that the operations before it tell

abbrev pub KnownWords : Type 0
KnownWords = ℕ → Option ℕ

abbrev pub no_words : KnownWords
no_words q = None

-- what operators make of known words; a division by 0 makes none
abbrev pub one_known : One → Option ℕ → Option ℕ
one_known o None = None
one_known o (Some x) = one_of o x

abbrev pub two_known : Two → Option ℕ → Option ℕ → Option ℕ
two_known o None b = None
two_known o (Some x) None = None
two_known o (Some x) (Some y) = two_of o x y

-- the word that an operation puts into its target, where it is known
abbrev pub word_made : KnownWords → OpT ℕ → Option ℕ
word_made ws (ConstO t word) = Some word
word_made ws (MoveO t a) = ws a
word_made ws (OneO o t a) = one_known o (ws a)
word_made ws (TwoO o t a b) = two_known o (ws a) (ws b)
word_made ws _ = None

abbrev pub with_word : Option ℕ → Option ℕ → KnownWords → KnownWords
with_word None word ws = ws
with_word (Some t) word ws = λ q. cond (eqb t q) word (ws q)

abbrev pub words_behind : KnownWords → OpT ℕ → KnownWords
words_behind ws o = with_word (target o) (word_made ws o) ws

-- ---- what stays

abbrev pub divides : Two → Bool
divides IDIV = true
divides IMOD = true
divides _ = false

abbrev pub is_nonzero : Option ℕ → Bool
is_nonzero None = false
is_nonzero (Some word) = not (eqb word 0)

abbrev pub lasts : KnownWords → OpT ℕ → Option (OpT (Unit {0}))
lasts ws (TwoO o t a b) = cond (divides o && not (is_nonzero (ws b))) (Some (TwoO o tt tt tt)) None
lasts ws o = stays o

-- A choice and a block begin with what is known before them, a loop with nothing; behind each of them nothing is known. A call changes its target alone.
abbrev pub lasting : KnownWords → NodesT ℕ → NodesT (Unit {0})
lasting ws Stop = Stop
lasting ws (Do o c) = some_before (lasts ws o) (lasting (words_behind ws o) c)
lasting ws (Call t f args c) = Call (some_place t) f (map (λ a. tt) args) (lasting (with_word t None ws) c)
lasting ws (Choose p a b c) = Choose tt (lasting ws a) (lasting ws b) (lasting no_words c)
lasting ws (Block b c) = Block (lasting ws b) (lasting no_words c)
lasting ws (Loop b c) = Loop (lasting no_words b) (lasting no_words c)
lasting ws (Leave k c) = Leave k (lasting no_words c)
lasting ws (Again k c) = Again k (lasting no_words c)
lasting ws (Return p c) = Return (some_place p) (lasting no_words c)
