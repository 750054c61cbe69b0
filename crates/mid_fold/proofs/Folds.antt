-- What the pass promises.
use Rattle.std.proofs.Common.{◌≡◌, ℕ, List, map, refl, sym, ap, ◌∙◌, subst}
use Rattle.mid_code.specs.Code.{FunctionT, CodeT}
use Rattle.mid_code.specs.Invariants.{IsMid}
use Rattle.mid_fold.specs.inner.Folding.{folded_function, folded_code}
use Rattle.mid_fold.specs.FoldedFrom.{IsFoldedFrom}
use Rattle.mid_fold.proofs.Running.{run_same}
use Rattle.mid_fold.proofs.Staying.{code_weighs, function_stays, each_folded, none_add, adds_none, folded_mid}

folded_from : (x : CodeT ℕ) → IsMid x → IsFoldedFrom x (folded_code x)
folded_from x mid = record {
  is_mid = folded_mid x mid;
  runs = λ frames n answers card. run_same x frames n answers card;
  weighs = code_weighs x;
  start = function_stays x.start;
  functions = each_folded x.functions;
  adds_none = none_add x.functions;
  start_adds_none = adds_none x.start.body;
  globals = refl;
  literals = refl;
  main = refl;
}

-- a program with other functions
abbrev pub with_functions : (x : CodeT ℕ) (start : FunctionT ℕ) (functions : List (FunctionT ℕ)) → CodeT ℕ
with_functions x start functions = record x { start = start; functions = functions }

-- of a program which is known to be the first
pub is_folded : (x o : CodeT ℕ) (start : FunctionT ℕ) (functions : List (FunctionT ℕ)) → IsMid x → o ≡ x → start ≡ folded_function o.start → functions ≡ map folded_function o.functions
    → IsFoldedFrom x (with_functions o start functions)
is_folded x o start functions mid of s fs =
    let same : folded_code x ≡ with_functions o start functions = sym ((λ i. with_functions o (s i) (fs i)) ∙ ap folded_code of) in
    subst (IsFoldedFrom x) same (folded_from x mid)
