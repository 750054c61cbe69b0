-- What the program's private clauses cite: its own types seen as those of the definitions, and the answers of its parts.
use Rattle.std.specs.Prelude.{◌≡◌, ◌≢◌, ◌<◌, ◌≤◌, ℕ, List, [], ◌∷◌, Option, Some, None, Result, Ok, Err, Vec}
use Rattle.std.specs.List.{AllByRecursion}
use Rattle.std.specs.Borrow.{Bor}
use Rattle.std.specs.declared.alloc.Global.{Global}
use Rattle.kit_base.specs.declared.failure.Failure.{Failure}
use Rattle.kit_base.specs.declared.failure.Failure.TheVariants.{Memory, Cause}
use Rattle.c_lex.specs.declared.token.Token.{Token}
use Rattle.c_prep.specs.declared.directive.Class.{Class}
use Rattle.c_prep.specs.declared.directive.Directive.{Directive as Parsed}
use Rattle.c_prep.specs.declared.directive.Directive.TheVariants as parsed
use Rattle.c_prep.specs.declared.directive.Directed.{Directed as ParsedIn}
use Rattle.c_prep.specs.declared.error.FaultAt.{FaultAt}
use Rattle.c_prep.specs.declared.error.PrepFault.{PrepFault}
use Rattle.c_prep.specs.declared.error.PrepFault.TheVariants as e
use Rattle.c_prep.specs.declared.files.Included.{Included}
use Rattle.c_prep.specs.Kinds.{kinds_of}
use Rattle.c_prep.specs.Lines.{lines_of}
use Rattle.c_prep.specs.Directives.{Directive, Include, Define, Undef, IfDef, IfNotDef, Else, EndIf, Error, Bad, Directed}
use Rattle.c_prep.specs.Files.{Inclusion, Progress, Stop, refusal}
use Rattle.c_prep.specs.Numbers.{IsBelow}

-- an entry of the program's table
abbrev pub listed : Bor (List ℕ) × Class → List ℕ × Class
listed e = (e.0.now, e.1)

-- the directive that the program sees
abbrev pub shown : Parsed → Directive
shown (parsed.Include name) = Include name.now
shown (parsed.Define name body) = Define name.now (kinds_of body.now)
shown (parsed.Undef name) = Undef name.now
shown (parsed.IfDef name) = IfDef name.now
shown (parsed.IfNotDef name) = IfNotDef name.now
shown parsed.Else = Else
shown parsed.EndIf = EndIf
shown parsed.Error = Error
shown parsed.Bad = Bad

abbrev pub shown_in : Option ParsedIn → Option Directed
shown_in None = None
shown_in (Some d) = Some (record { hash = d.hash.now; directive = shown d.directive })

-- The answer of a part that goes on from a state is the one that is due, with the names of the files.
abbrev pub GivesOut : {X S : Type 0} → S → List (List ℕ) → Result X (Failure PrepFault) → Result S Stop → Type 0
GivesOut new names (Ok x) due_one = due_one ≡ Ok new
GivesOut new names (Err Memory) due_one = Unit {0}
GivesOut new names (Err (Cause (e.Failed file))) due_one = Unit {0}
GivesOut new names (Err (Cause x)) due_one = due_one ≡ Err (record { fault = x; names = names })

-- the same of a value alone
abbrev pub GivesAs : {X Y : Type 0} → (X → Y) → Result X (Failure PrepFault) → Result Y PrepFault → Type 0
GivesAs view (Ok x) due_one = due_one ≡ Ok (view x)
GivesAs view (Err Memory) due_one = Unit {0}
GivesAs view (Err (Cause (e.Failed file))) due_one = Unit {0}
GivesAs view (Err (Cause x)) due_one = due_one ≡ Err x

-- what a step's error is told as
abbrev pub refused : {X : Type 0} → Result X (Failure FaultAt) → Result X (Failure PrepFault)
refused (Ok x) = Ok x
refused (Err Memory) = Err Memory
refused (Err (Cause x)) = Err (Cause (refusal x))

-- the include that the program sees
abbrev pub included : Option Included → Option Inclusion
included None = None
included (Some i) = Some (record { hash = i.hash.now; name = i.name.now })

-- a refusal that says that a file is not held
abbrev pub SaysMissing : PrepFault → Type 0
SaysMissing (e.At code file line) = code ≡ 21
SaysMissing e.NoSource = Unit {0}
SaysMissing _ = ⊥

-- a refusal of what a file says, or of memory
abbrev pub IsOfText : Failure PrepFault → Type 0
IsOfText Memory = Unit {0}
IsOfText (Cause (e.At code file line)) = code ≢ 21
IsOfText _ = ⊥

-- a token of a file below n, and its line
pub record IsPlaced (n : ℕ) (t : Token) : Type 0 where
  pub file : t.file < n
  pub line : 1 ≤ t.line

abbrev pub ArePlaced : ℕ → List Token → Type 0
ArePlaced n tokens = AllByRecursion (IsPlaced n) tokens

-- tokens that were read, or a refusal, are of files below n
abbrev pub PlacedIn : ℕ → Result (List Token) (Failure PrepFault) → Type 0
PlacedIn n (Ok tokens) = ArePlaced n tokens
PlacedIn n (Err x) = IsBelow n x

-- tokens that were put, or a refusal, are of files below n
abbrev pub PlacedPut : {X : Type 0} → ℕ → List Token → Result X (Failure PrepFault) → Type 0
PlacedPut n tokens (Ok x) = ArePlaced n tokens
PlacedPut n tokens (Err x) = IsBelow n x

-- a failure, if it is one, is of this file
abbrev pub IsFailedAt : ℕ → Failure PrepFault → Type 0
IsFailedAt file (Cause (e.Failed at)) = at ≡ file
IsFailedAt file _ = Unit {0}

-- the lines of a file from that one on, which is taken from its tokens already
abbrev pub lines_left : Option (Vec Token Global) → List Token → List (List Token)
lines_left None tokens = []
lines_left (Some line) tokens = line.items ∷ lines_of tokens

-- the names of the files so far
abbrev pub so_far : Progress → List (List ℕ)
so_far p = p.names
