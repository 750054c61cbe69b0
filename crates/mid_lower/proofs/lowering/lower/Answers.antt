use Rattle.std.proofs.Common.{rules, ◌≡◌, ◌≤◌, ℕ, Some, length, slice_get, map, sym, ap, ◌∙◌, subst}
use Rattle.c_types.specs.View.{layout, function, tstmt}
use Rattle.c_types.specs.Programs.{TFunctionT}
use Rattle.c_types.specs.Nodes.{program_nodes}
use Rattle.c_facts.specs.Sound.{IsSound}
use Rattle.c_facts.specs.Words.{NumbersAreWords}
use Rattle.c_facts.specs.Known.{SizedHaveSizes}
use Rattle.c_facts.specs.Start.{StartsAreGiven}
use Rattle.c_check.specs.View.{program}
use Rattle.mid_code.specs.Functions.{function as function_of}
use Rattle.mid_code.specs.Invariants.{IsMid}
use Rattle.mid_lower.proofs.IsMidCode.{Known, lowered_is_mid}
use Rattle.mid_lower.specs.LoweredFrom.{IsLoweredFrom}
use Rattle.mid_lower.proofs.LoweredParts.{lowered_from}
use Rattle.mid_lower.proofs.Finished.{known_of, start_fits, functions_fit, code_is}
use Rattle.mid_lower.proofs.lowering.lower.Goals as goal

pub lower_start-requires : goal.lower_start-requires
lower_start-requires c =
    let p = program c.args.checked.now in
    let few : program_nodes p ≤ 200000 = search rules in
    record { fits = start_fits p (map layout c.layouts.result.now) (map function c.functions.result.now) c.literals.result.now (map tstmt c.inits.result.now) c.layouts.ensures.layouts c.functions.ensures.functions c.literals.ensures.literals c.inits.ensures.inits few }

pub lower_functions-requires : goal.lower_functions-requires
lower_functions-requires c =
    let p = program c.args.checked.now in
    let few : program_nodes p ≤ 200000 = search rules in
    let locals : (k : ℕ) (f : TFunctionT) → slice_get p.functions k ≡ Some f → length f.locals ≤ 200000 = search rules in
    record { fits = functions_fit p (map layout c.layouts.result.now) (map function c.functions.result.now) (map function c.functions-2.result.now) c.literals.result.now c.layouts.ensures.layouts c.functions.ensures.functions c.literals.ensures.literals c.functions-2.ensures.functions few locals }

pub new-requires : goal.new-requires
new-requires c =
    let p = program c.args.checked.now in
    let few : program_nodes p ≤ 200000 = search rules in
    let locals : (k : ℕ) (f : TFunctionT) → slice_get p.functions k ≡ Some f → length f.locals ≤ 200000 = search rules in
    let sound : IsSound p = search rules in
    let words : NumbersAreWords p = search rules in
    let sized : SizedHaveSizes = search rules in
    let given : StartsAreGiven = search rules in
    let known : Known p = known_of p sound words few locals sized given in
    let made : map function_of c.from_vec.result ≡ map function_of c.in_ok-functions.functions.items = ap (map function_of) c.from_vec.ensures in
    let is = code_is p (map layout c.layouts.result.now) (map function c.functions.result.now) (map function c.functions-2.result.now) c.literals.result.now (map tstmt c.inits.result.now)
    c.layouts.ensures.layouts c.functions.ensures.functions c.literals.ensures.literals c.inits.ensures.inits c.functions-2.ensures.functions
    (function_of c.in_ok-start.start) (map function_of c.from_vec.result) c.from_vec-2.result c.from_vec-3.result c.main.result
    c.in_ok-start.ensures (made ∙ c.in_ok-functions.ensures) (c.from_vec-2.ensures ∙ c.in_ok-globals.ensures ∙ ap (map (λ g. g.1)) c.globals.ensures.globals)
    (c.from_vec-3.ensures ∙ c.in_ok-literals.ensures ∙ c.literals-2.ensures.literals) c.main.ensures.main in
    record { is_mid = subst IsMid (sym is) (lowered_is_mid p known) }

pub returns : goal.returns
returns c =
    let p = program c.args.checked.now in
    let made : map function_of c.from_vec.result ≡ map function_of c.in_ok-functions.functions.items = ap (map function_of) c.from_vec.ensures in
    let is = code_is p (map layout c.layouts.result.now) (map function c.functions.result.now) (map function c.functions-2.result.now) c.literals.result.now (map tstmt c.inits.result.now)
    c.layouts.ensures.layouts c.functions.ensures.functions c.literals.ensures.literals c.inits.ensures.inits c.functions-2.ensures.functions
    (function_of c.in_ok-start.start) (map function_of c.from_vec.result) c.from_vec-2.result c.from_vec-3.result c.main.result
    c.in_ok-start.ensures (made ∙ c.in_ok-functions.ensures) (c.from_vec-2.ensures ∙ c.in_ok-globals.ensures ∙ ap (map (λ g. g.1)) c.globals.ensures.globals)
    (c.from_vec-3.ensures ∙ c.in_ok-literals.ensures ∙ c.literals-2.ensures.literals) c.main.ensures.main in
    let few : program_nodes p ≤ 200000 = search rules in
    let locals : (k : ℕ) (f : TFunctionT) → slice_get p.functions k ≡ Some f → length f.locals ≤ 200000 = search rules in
    let sound : IsSound p = search rules in
    let words : NumbersAreWords p = search rules in
    let sized : SizedHaveSizes = search rules in
    let given : StartsAreGiven = search rules in
    let known : Known p = known_of p sound words few locals sized given in
    let same = c.new.ensures.mid ∙ is in
    record { lowered = same; from = subst (IsLoweredFrom p) (sym same) (lowered_from p known) }
