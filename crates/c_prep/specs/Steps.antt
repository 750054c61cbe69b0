-- What a line does, other than to include a file.
use Rattle.std.specs.Prelude.{ℕ, List, Bool, true, false, not, ◌&&◌, is_some, Option, Some, None, Result, Ok, Err, if◌then◌else◌}
use Rattle.c_lex.specs.declared.token.Token.{Token}
use Rattle.c_prep.specs.declared.error.Fault.TheVariants.{BadDirective, ErrorDirective}
use Rattle.c_prep.specs.declared.error.FaultAt.{FaultAt}
use Rattle.c_prep.specs.declared.conditions.Condition.{Condition}
use Rattle.c_prep.specs.declared.work.Work.{Work}
use Rattle.c_prep.specs.Faults.{◌>>=◌, fault_at}
use Rattle.c_prep.specs.Macros.{Table, body_of, defined, undefined, replaced_in}
use Rattle.c_prep.specs.Conditions.{skips, begun, turned, ended}
use Rattle.c_prep.specs.Directives.{Directive, Include, Define, Undef, IfDef, IfNotDef, Else, EndIf, Error, Bad, Directed, directive_in}

-- the macros and what was put, with the conditions that are open in the file
abbrev pub Moment : Type 0
Moment = Work × List Condition

abbrev pub is_defined : Table → List ℕ → Bool
is_defined table name = is_some (body_of table name)

-- a directive in a part that is not skipped
abbrev pub obeyed : Token → Directive → Work → List Condition → Result Moment FaultAt
obeyed hash (Include name) w cs = Ok (w, cs)
obeyed hash (Define name body) w cs = defined hash name body w.macros >>= λ t. Ok (record w { macros = t }, cs)
obeyed hash (Undef name) w cs = Ok (record w { macros = undefined name w.macros }, cs)
obeyed hash (IfDef name) w cs = Ok (w, begun hash (is_defined w.macros name) cs)
obeyed hash (IfNotDef name) w cs = Ok (w, begun hash (not (is_defined w.macros name)) cs)
obeyed hash Else w cs = turned hash cs >>= λ cs'. Ok (w, cs')
obeyed hash EndIf w cs = ended hash cs >>= λ cs'. Ok (w, cs')
obeyed hash Error w cs = Err (fault_at ErrorDirective hash)
obeyed hash Bad w cs = Err (fault_at BadDirective hash)

-- whether a directive is followed in a part that is skipped too
abbrev pub is_condition : Directive → Bool
is_condition (IfDef name) = true
is_condition (IfNotDef name) = true
is_condition Else = true
is_condition EndIf = true
is_condition _ = false

abbrev pub directed : Directed → Work → List Condition → Result Moment FaultAt
directed d w cs = if skips cs && not (is_condition d.directive) then Ok (w, cs) else obeyed d.hash d.directive w cs

abbrev pub put : List Token → Work → List Condition → Result Moment FaultAt
put line w cs = if skips cs then Ok (w, cs) else replaced_in w.macros line w.out >>= λ o. Ok (record w { out = o }, cs)

abbrev pub step_by : Option Directed → List Token → Work → List Condition → Result Moment FaultAt
step_by None line w cs = put line w cs
step_by (Some d) line w cs = directed d w cs

-- a line that includes no file
unfoldable pub step_at : List Token → Work → List Condition → Result Moment FaultAt
step_at line w cs = step_by (directive_in line) line w cs
