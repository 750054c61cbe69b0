-- The rule that a unit breaks first, and how rules stand one after the other.
use Rattle.std.specs.Prelude.{ℕ, ◌+◌, Bool, true, false, List, [], ◌∷◌, ◌++◌, length, sum_by, Option, Some, None, Result, Ok, Err, nat_le, if◌then◌else◌}
use Rattle.c_tree.specs.declared.span.Span.{Span}
use Rattle.c_rules.specs.declared.code.Code.{Code}
use Rattle.c_rules.specs.declared.code.Code.TheVariants.{TooLarge}
use Rattle.c_rules.specs.Rules.{Rule, judged}
use Rattle.c_exprs.specs.declared.error.Fault.{Fault}
use Rattle.c_exprs.specs.Env.{Text}

-- the code of the rule, and the tokens of the node that breaks it
abbrev pub at : Span → Code → Fault
at s k = record { code = k; span = s }

infixl 10 ◌>>=◌
abbrev pub ◌>>=◌ : {A B : Type 0} → Result A Fault → (A → Result B Fault) → Result B Fault
(Ok x) >>= f = f x
(Err e) >>= f = Err e

-- a code at a node
abbrev pub placed : {A : Type 0} → Span → Result A Code → Result A Fault
placed s (Ok x) = Ok x
placed s (Err k) = Err (at s k)

-- what a rule answers at a node
unfoldable pub at_node : {A : Type 0} → Span → Rule A → Result A Fault
at_node s rule = placed s (judged rule)

-- what has to be there at a node
unfoldable pub known : {A : Type 0} → Span → Code → Option A → Result A Fault
known s k None = Err (at s k)
known s k (Some x) = Ok x

-- what has to hold at a node
unfoldable pub demanded : Span → Code → Bool → Result (Unit {0}) Fault
demanded s k true = Ok tt
demanded s k false = Err (at s k)

-- ---- texts, in the order of reading

-- the words of the literals: those of each text, and a 0
abbrev pub text_words : List Text → ℕ
text_words ts = sum_by (λ t. length t + 1) ts

-- the words that all literals may have
abbrev pub text_limit : ℕ
text_limit = 4000000

-- the literal's number, and the texts with it
unfoldable pub with_text : Span → List Text → Text → Result (ℕ × List Text) Fault
with_text s ts t = if nat_le (text_words ts + (length t + 1)) text_limit then Ok (length ts, ts ++ t ∷ []) else Err (at s TooLarge)
