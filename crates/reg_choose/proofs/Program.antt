-- Choices for each function of a program.
use Rattle.std.proofs.Common.{◌≡◌, ℕ, zero, suc, ◌<◌, ◌≤◌, List, [], ◌∷◌, ◌++◌, length, map, get_or, drop, drop-cons, refl, ap, sym, subst, arith}
use Rattle.mid_code.specs.declared.placed.Where.{Where}
use Rattle.mid_code.specs.declared.placed.Choice.{Choice}
use Rattle.mid_code.specs.declared.function.Function.{Function}
use Rattle.mid_code.specs.Code.{FunctionT, CodeT}
use Rattle.mid_code.specs.Functions.{function}
use Rattle.mid_code.specs.Invariants.{AllOf, IsFunction, IsTemporary, IsMid}
use Rattle.mid_code.specs.Choices.{EachSafe}
use Rattle.mid_code.specs.Safe.{IsSafe, SparesSlots}
use Rattle.reg_choose.specs.Each.{EachSpares, IsNamed, places_in}

pub start_named : (x : CodeT ℕ) → IsMid x → IsNamed x.start
start_named x m = (m.start.function.names, m.start.function.params_named)

all_named : (x : CodeT ℕ) (fs : List (FunctionT ℕ)) → AllOf (IsFunction IsTemporary x) fs → AllOf IsNamed fs
all_named x [] a = tt
all_named x (f ∷ fs) a = ((a.0.names, a.0.params_named), all_named x fs a.1)

pub functions_named : (x : CodeT ℕ) → IsMid x → AllOf IsNamed x.functions
functions_named x m = all_named x x.functions m.functions

pub named_in : (fs : List (Function ℕ)) (i : ℕ) (d : Function ℕ) → i < length fs → AllOf IsNamed (map function fs) → IsNamed (function (get_or fs i d))
named_in [] i d h a = absurd (omega (arith, h))
named_in (f ∷ fs) zero d h a = a.0
named_in (f ∷ fs) (suc i) d h a = named_in fs i d (omega (arith, h)) a.1

-- what is still to come makes the choices whole
abbrev pub Goes : (fs all : List (FunctionT ℕ)) → (done : List (List Where)) → Type 0
Goes fs all done = (ws : List (List Where)) → (EachSafe fs ws → EachSafe all (done ++ ws)) × (EachSpares fs ws → EachSpares all (done ++ ws))

appended : {A : Type 0} (xs : List A) (x : A) (ys : List A) → (xs ++ x ∷ []) ++ ys ≡ xs ++ x ∷ ys
appended [] x ys = refl
appended (z ∷ xs) x ys = ap (λ l. z ∷ l) (appended xs x ys)

pub goes_on : (fs all : List (FunctionT ℕ)) (f : FunctionT ℕ) (done : List (List Where)) (w : List Where) → Goes (f ∷ fs) all done → IsSafe f w → SparesSlots f w → Goes fs all (done ++ w ∷ [])
goes_on fs all f done w g s p ws = ((λ e. subst (EachSafe all) (sym (appended done w ws)) ((g (w ∷ ws)).0 (s, e))), (λ e. subst (EachSpares all) (sym (appended done w ws)) ((g (w ∷ ws)).1 (p, e))))

pub goes_begin : (all : List (FunctionT ℕ)) → Goes all all []
goes_begin all ws = ((λ e. e), (λ e. e))

none_more : {A : Type 0} (xs : List A) → xs ++ [] ≡ xs
none_more [] = refl
none_more (x ∷ xs) = ap (λ l. x ∷ l) (none_more xs)

none_left : (fs : List (Function ℕ)) (i : ℕ) → length fs ≤ i → map function (drop i fs) ≡ []
none_left [] zero h = refl
none_left [] (suc i) h = refl
none_left (f ∷ fs) zero h = absurd (omega (arith, h))
none_left (f ∷ fs) (suc i) h = none_left fs i (omega (arith, h))

pub goes_end : (fs : List (Function ℕ)) (i : ℕ) (all : List (FunctionT ℕ)) (done : List (List Where)) → length fs ≤ i → Goes (map function (drop i fs)) all done → EachSafe all done × EachSpares all done
goes_end fs i all done h g = (let e = none_left fs i h in let k = subst (λ z. Goes z all done) e g in (subst (EachSafe all) (none_more done) ((k []).0 tt), subst (EachSpares all) (none_more done) ((k []).1 tt)))

pub places_more : (cs : List Choice) (c : Choice) → places_in (cs ++ c ∷ []) ≡ places_in cs ++ c.at ∷ []
places_more [] c = refl
places_more (d ∷ cs) c = ap (λ l. d.at ∷ l) (places_more cs c)

pub functions_drop : (fs : List (Function ℕ)) (i : ℕ) (d : Function ℕ) → i < length fs → map function (drop i fs) ≡ function (get_or fs i d) ∷ map function (drop (suc i) fs)
functions_drop fs i d h = ap (map function) (drop-cons fs i d h)
