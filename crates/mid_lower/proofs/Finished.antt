-- What is known of a checked program, all together.
use Rattle.std.proofs.Common.{◌≡◌, ℕ, zero, suc, ◌≤◌, List, [], ◌∷◌, length, map, slice_get, Some, sym, ◌∙◌, subst, subst₂}
use Rattle.c_types.specs.Types.{LayoutT}
use Rattle.c_types.specs.Typed.{TStmtT}
use Rattle.c_types.specs.View.{tstmts}
use Rattle.c_types.specs.Programs.{TFunctionT, ProgramT}
use Rattle.c_types.specs.Nodes.{program_nodes}
use Rattle.c_facts.specs.Sound.{Scene, AllHaveWords, AreFunctions, IsSound, scene}
use Rattle.c_facts.specs.Words.{NumbersAreWords}
use Rattle.c_facts.specs.Known.{SizedHaveSizes}
use Rattle.c_facts.specs.Start.{StartsAreGiven}
use Rattle.mid_code.specs.Invariants.{AllOf}
use Rattle.mid_code.specs.Code.{FunctionT}
use Rattle.lower_trees.specs.Shape.{shape}
use Rattle.lower_trees.specs.Parts.{first_param}
use Rattle.lower_trees.specs.Lowered.{lowered}
use Rattle.lower_trees.specs.ListedFunctions.{low_start, low_function, IsFew, AreFew}
use Rattle.mid_lower.proofs.ProgramsListed.{few_start, few_all, lowered_by}
use Rattle.mid_lower.proofs.IsMidCode.{Known}

all_words : (ns : List ℕ) → AllHaveWords ns → AllOf (λ n. 1 ≤ n) ns
all_words [] all = tt
all_words (n ∷ ns) all = (all.0, all_words ns all.1)

objects_have_words : (s : Scene) (fs : List TFunctionT) → AreFunctions s fs → (k : ℕ) (f : TFunctionT) → slice_get fs k ≡ Some f → AllOf (λ n. 1 ≤ n) f.locals
objects_have_words s [] are k f e = absurd cc
objects_have_words s (g ∷ fs) are zero f e = let same : g ≡ f = cc in all_words f.locals (subst (λ (h : TFunctionT). AllHaveWords h.locals) same are.0.words)
objects_have_words s (g ∷ fs) are (suc k) f e = objects_have_words s fs are.1 k f e

pub known_of : (p : ProgramT) → IsSound p → NumbersAreWords p → program_nodes p ≤ 200000 → ((k : ℕ) (f : TFunctionT) → slice_get p.functions k ≡ Some f → length f.locals ≤ 200000) → SizedHaveSizes → StartsAreGiven → Known p
known_of p sound words nodes locals sized given = record {
  sound = sound;
  words = words;
  nodes = nodes;
  locals = locals;
  objects = objects_have_words (scene p) p.functions sound.functions;
  sized = sized p sound;
  given = given p sound;
}

-- ---- what is read of a program in memory

read_shape : (p : ProgramT) (layouts : List LayoutT) (functions : List TFunctionT) (literals : List (List ℕ)) → layouts ≡ p.layouts → functions ≡ p.functions → literals ≡ p.literals → record { layouts = layouts; functions = functions; literals = literals } ≡ shape p
read_shape p layouts functions literals a b c = λ i. record { layouts = a i; functions = b i; literals = c i }

pub start_fits : (p : ProgramT) (layouts : List LayoutT) (functions : List TFunctionT) (literals : List (List ℕ)) (inits : List TStmtT) → layouts ≡ p.layouts → functions ≡ p.functions → literals ≡ p.literals → inits ≡ p.inits
    → program_nodes p ≤ 200000 → IsFew (record { layouts = layouts; functions = functions; literals = literals }) first_param 0 (tstmts inits)
start_fits p layouts functions literals inits a b c d few = subst₂ (λ h xs. IsFew h first_param 0 (tstmts xs)) (sym (read_shape p layouts functions literals a b c)) (sym d) (few_start p few)

pub functions_fit : (p : ProgramT) (layouts : List LayoutT) (functions fs : List TFunctionT) (literals : List (List ℕ)) → layouts ≡ p.layouts → functions ≡ p.functions → literals ≡ p.literals → fs ≡ p.functions
    → program_nodes p ≤ 200000 → ((k : ℕ) (f : TFunctionT) → slice_get p.functions k ≡ Some f → length f.locals ≤ 200000) → AreFew (record { layouts = layouts; functions = functions; literals = literals }) fs
functions_fit p layouts functions fs literals a b c d few locals = subst₂ (λ h xs. AreFew h xs) (sym (read_shape p layouts functions literals a b c)) (sym d) (few_all p few locals)

pub code_is : (p : ProgramT) (layouts : List LayoutT) (functions fs : List TFunctionT) (literals : List (List ℕ)) (inits : List TStmtT) → layouts ≡ p.layouts → functions ≡ p.functions → literals ≡ p.literals → inits ≡ p.inits → fs ≡ p.functions
    → (start : FunctionT ℕ) (made : List (FunctionT ℕ)) (globals : List ℕ) (texts : List (List ℕ)) (main : ℕ)
    → start ≡ low_start (record { layouts = layouts; functions = functions; literals = literals }) (tstmts inits) → made ≡ map (low_function (record { layouts = layouts; functions = functions; literals = literals })) fs
    → globals ≡ map (λ g. g.1) p.globals → texts ≡ p.literals → main ≡ p.main → record { start = start; functions = made; globals = globals; literals = texts; main = main } ≡ lowered p
code_is p layouts functions fs literals inits a b c d e start made globals texts main es em eg et en =
    let h = read_shape p layouts functions literals a b c in
    let start_is : start ≡ low_start (shape p) (tstmts p.inits) = es ∙ (λ i. low_start (h i) (tstmts (d i))) in
    let made_is : made ≡ map (low_function (shape p)) p.functions = em ∙ (λ i. map (low_function (h i)) (e i)) in
    lowered_by p start made globals texts main start_is made_is eg et en
