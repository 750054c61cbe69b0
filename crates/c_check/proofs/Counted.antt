-- How many objects a function's parameters are: at most one for each of their nodes.
use Rattle.std.proofs.Common.{◌≡◌, ℕ, ◌+◌, ◌≤◌, Bool, true, false, List, [], ◌∷◌, ◌++◌, length, Ok, Err, refl, subst, arith, length-append, append_assoc}
use Rattle.std.specs.Prelude.{if◌then◌else◌}
use Rattle.c_tree.specs.declared.span.Span.{Span}
use Rattle.c_tree.specs.Tree.{TypeT, VarT}
use Rattle.c_tree.specs.Count.{vars_nodes}
use Rattle.c_types.specs.Types.{Ty}
use Rattle.c_exprs.specs.Env.{Text, Decl}
use Rattle.c_exprs.specs.Faults.{◌>>=◌}
use Rattle.c_check.specs.inner.Steps.{before}
use Rattle.c_check.specs.Reading.{Un, with_parameter, is_free, with_names, named}
use Rattle.c_check.specs.inner.ItemTyping.{Reads, parameter, parameters}
use Rattle.c_check.specs.ItemTypes as good
use Rattle.c_check.specs.ItemTypes.{TypeAt, Parameter, Parameters}
use Rattle.c_check.proofs.ItemExact.{ParameterOut, parameter_outcome, ParametersOut, parameters_outcome}

abbrev pub objects : Un → ℕ
objects un = length un.sizes

type_makes : {un up : Un} {s : Span} {of : TypeT} {t : Ty} → TypeAt un s of t up → objects up ≡ objects un
type_makes (good.type_at g) = refl

parameter_makes : {un : Un} {v : VarT} {t : Ty} {up : Un} → Parameter un v t up → objects up ≡ objects un + 1
unfolding with_parameter
parameter_makes (good.parameter {up = up} {n = n} g0 g1) = omega (arith, length-append up.sizes (n ∷ []), type_makes g0)

parameters_make : {un up : Un} {vs : List VarT} {ts : List Ty} → Parameters un vs ts up → objects up ≤ objects un + vars_nodes vs
parameters_make good.no_parameters = omega arith
parameters_make (good.more_parameters g gs) = omega (arith, parameter_makes g, parameters_make gs)

pub parameters_count : (un up : Un) (vs : List VarT) (ts : List Ty) → parameters un vs ≡ Ok (ts, up) → objects up ≤ objects un + vars_nodes vs
parameters_count un up vs ts e = parameters_make (subst (ParametersOut un vs) e (parameters_outcome un vs))

pub parameters_left : (un up : Un) (v : VarT) (rest : List VarT) (t : Ty) (most : ℕ) → parameter un v ≡ Ok (t, up) → objects un + vars_nodes (v ∷ rest) ≤ most → objects up + vars_nodes rest ≤ most
parameters_left un up v rest t most e h = omega (arith, h, parameter_makes (subst (ParameterOut un v) e (parameter_outcome un v)))

-- a name that is declared makes no object
pub named_makes : (n : Text) (d : Decl) (un : Un) → objects (named n d un) ≡ objects un
unfolding named
named_makes n d un = by (is_free n un)
  where
    by : (b : Bool) → objects (if b then with_names un (un.names ++ (n, d) ∷ []) else un) ≡ objects un
    by true = refl
    by false = refl

-- ---- parameters one by one

push : (ts : List Ty) (t : Ty) (r : Reads (List Ty)) → before (ts ++ t ∷ []) r ≡ before ts (r >>= λ xs. Ok (t ∷ xs.0, xs.1))
push ts t (Ok y) = rw (append_assoc ts (t ∷ []) y.0) refl
push ts t (Err e) = refl

pub parameter_pushed : (un up : Un) (v : VarT) (rest : List VarT) (ts : List Ty) (t : Ty) → parameter un v ≡ Ok (t, up) → before (ts ++ t ∷ []) (parameters up rest) ≡ before ts (parameters un (v ∷ rest))
parameter_pushed un up v rest ts t good = rw good (push ts t (parameters up rest))
