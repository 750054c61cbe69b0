-- A source with the files that it includes, each line by line. Files are numbered by the reads of a call: a file's
-- number is its place among the names so far.
use Rattle.std.specs.Prelude.{◌≡◌, ℕ, zero, suc, List, [], ◌∷◌, ◌++◌, length, Option, Some, None, Result, Ok, Err, nat_lt, if◌then◌else◌, Vec}
use Rattle.std.specs.declared.alloc.Global.{Global}
use Rattle.kit_base.specs.Held.{Held}
use Rattle.kit_base.specs.Outside.{due}
use Rattle.kit_base.specs.declared.outside.FileErr.{FileErr}
use Rattle.kit_base.specs.declared.outside.FileErr.TheVariants as f
use Rattle.kit_base.specs.declared.failure.Failure.{Failure}
use Rattle.kit_base.specs.declared.failure.Failure.TheVariants.{Memory, Cause}
use Rattle.c_lex.specs.declared.token.Token.{Token}
use Rattle.c_lex.specs.Reading.{Reading, found, stuck}
use Rattle.c_lex.specs.Found.{reading_of}
use Rattle.c_prep.specs.declared.error.Fault.{Fault}
use Rattle.c_prep.specs.declared.error.Fault.TheVariants.{BadDirective, TooDeep, OpenCondition, ErrorDirective, TooManyTokens, Redefined}
use Rattle.c_prep.specs.declared.error.FaultAt.{FaultAt}
use Rattle.c_prep.specs.declared.error.PrepFault.{PrepFault}
use Rattle.c_prep.specs.declared.error.PrepFault.TheVariants as e
use Rattle.c_prep.specs.declared.conditions.Condition.{Condition}
use Rattle.c_prep.specs.declared.work.Work.{Work}
use Rattle.c_prep.specs.Faults.{◌>>=◌, fault_at}
use Rattle.c_prep.specs.Conditions.{skips, closed}
use Rattle.c_prep.specs.Lines.{lines_of}
use Rattle.c_prep.specs.Directives.{Directive, Include, Directed, directive_in}
use Rattle.c_prep.specs.Steps.{step_at}

-- The macros and what was put, and the names of the files so far.
pub record Progress : Type 0 where
  pub work : Work
  pub names : List (List ℕ)

-- The first fault, with the names of the files so far.
pub record Stop : Type 0 where
  pub fault : PrepFault
  pub names : List (List ℕ)

abbrev pub code_of : Fault → ℕ
code_of BadDirective = 20
code_of TooDeep = 22
code_of OpenCondition = 23
code_of ErrorDirective = 24
code_of TooManyTokens = 25
code_of Redefined = 26

abbrev pub refusal : FaultAt → PrepFault
refusal x = e.At (code_of x.fault) x.file x.line

abbrev pub stopping : {X : Type 0} → List (List ℕ) → Result X PrepFault → Result X Stop
stopping names (Ok x) = Ok x
stopping names (Err x) = Err (record { fault = x; names = names })

abbrev pub refusing : {X : Type 0} → Result X FaultAt → Result X PrepFault
refusing (Ok x) = Ok x
refusing (Err x) = Err (refusal x)

-- an include in a part that is not skipped, with its `#`
pub record Inclusion : Type 0 where
  pub hash : Token
  pub name : List ℕ

abbrev pub include_of : Token → Directive → Option Inclusion
include_of hash (Include name) = Some (record { hash = hash; name = name })
include_of hash _ = None

abbrev pub include_by : Option Directed → Option Inclusion
include_by None = None
include_by (Some d) = include_of d.hash d.directive

unfoldable pub include_in : List Token → List Condition → Option Inclusion
include_in line cs = if skips cs then None else include_by (directive_in line)

-- what is given in turn to a file's lines, with the conditions that are open there
abbrev pub InFile : Type 0
InFile = Progress × List Condition

abbrev pub Including : Type 0
Including = Inclusion → Progress → Result Progress Stop

abbrev pub line_by : Option Inclusion → Including → List Token → Progress → List Condition → Result InFile Stop
line_by (Some i) include line p cs = include i p >>= λ p'. Ok (p', cs)
line_by None include line p cs = stopping p.names (refusing (step_at line p.work cs)) >>= λ q. Ok (record { work = q.0; names = p.names }, q.1)

unfoldable pub lines_at : Including → List (List Token) → Progress → List Condition → Result InFile Stop
lines_at include [] p cs = Ok (p, cs)
lines_at include (line ∷ lines) p cs = line_by (include_in line cs) include line p cs >>= λ q. lines_at include lines q.0 q.1

-- The bytes of the file that has this number. What is due of a name is never a failure or want of memory: the last case is there for the sake of all answers.
abbrev pub bytes_of : PrepFault → ℕ → Result (List ℕ) FileErr → Result (List ℕ) PrepFault
bytes_of missing file (Ok bytes) = Ok bytes
bytes_of missing file (Err f.Missing) = Err missing
bytes_of missing file (Err f.TooLong) = Err (e.TooLong file)
bytes_of missing file (Err _) = Err (e.Failed file)

-- A file is read as tokens whole, before its directives.
abbrev pub lexed : ℕ → Reading → Result (List Token) PrepFault
lexed file (found tokens) = Ok tokens
lexed file (stuck code line byte) = Err (e.At code file line)

unfoldable pub tokens_of : Held → PrepFault → List ℕ → ℕ → Result (List Token) PrepFault
tokens_of m missing name file = bytes_of missing file (due m name) >>= λ bytes. lexed file (reading_of file bytes)

abbrev pub ended : ℕ → InFile → Result Progress Stop
ended file q = stopping q.0.names (refusing (closed file q.1)) >>= λ x. Ok q.0

abbrev pub with_name : List ℕ → Progress → Progress
with_name name p = record { work = p.work; names = p.names ++ name ∷ [] }

-- a file that is read, where `missing` tells that it is not held
unfoldable pub file_at : Held → Including → PrepFault → List ℕ → Progress → Result Progress Stop
file_at m include missing name p =
    stopping (p.names ++ name ∷ []) (tokens_of m missing name (length p.names))
    >>= (λ tokens. lines_at include (lines_of tokens) (with_name name p) [] >>= ended (length p.names))

abbrev pub missing_at : Token → PrepFault
missing_at hash = e.At 21 hash.file hash.line

abbrev pub too_deep : Inclusion → Progress → Result Progress Stop
too_deep i p = stopping p.names (refusing (Err (fault_at TooDeep i.hash)))

-- room: how many files may still lie inside one another; a call reads at most 10,000
unfoldable pub include_at : Held → ℕ → Including
include_at m zero i p = too_deep i p
include_at m (suc room) i p = if nat_lt (length p.names) 10000 then file_at m (include_at m room) (missing_at i.hash) i.name p else too_deep i p

abbrev pub opening : Progress
opening = record { work = record { macros = []; out = record { tokens = []; replaced = 0 } }; names = [] }

-- the tokens that a source stands for, with the names of the files that were read
pub record Expansion : Type 0 where
  pub tokens : List Token
  pub names : List (List ℕ)

-- sixteen files may lie inside one another below the source
unfoldable pub expansion_of : Held → List ℕ → Result Expansion Stop
expansion_of m name = file_at m (include_at m 16) e.NoSource name opening >>= λ p. Ok (record { tokens = p.work.out.tokens; names = p.names })

-- The answer is the one that is due, with the names of the files, unless the files failed or memory ran out.
abbrev pub Answers : Result (Vec Token Global) (Failure PrepFault) → List (List ℕ) → Result Expansion Stop → Type 0
Answers (Ok v) names due_one = due_one ≡ Ok (record { tokens = v.items; names = names })
Answers (Err Memory) names due_one = Unit {0}
Answers (Err (Cause (e.Failed file))) names due_one = Unit {0}
Answers (Err (Cause x)) names due_one = due_one ≡ Err (record { fault = x; names = names })
