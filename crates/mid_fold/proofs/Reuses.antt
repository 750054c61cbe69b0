-- What the pass that uses results again promises.
use Rattle.std.proofs.Common.{◌≡◌, ℕ, List, map, refl, sym, ap, ◌∙◌, subst}
use Rattle.mid_code.specs.Code.{FunctionT, CodeT}
use Rattle.mid_code.specs.Invariants.{IsMid}
use Rattle.mid_fold.specs.inner.Reusing.{reused_function, reused_code}
use Rattle.mid_fold.specs.FoldedFrom.{IsFoldedFrom}
use Rattle.mid_fold.proofs.Folds.{with_functions}
use Rattle.mid_fold.proofs.ReuseRunning.{run_same}
use Rattle.mid_fold.proofs.ReuseStaying.{code_weighs, function_stays, each_folded, none_add, adds_none, reused_mid}

reused_from : (x : CodeT ℕ) → IsMid x → IsFoldedFrom x (reused_code x)
reused_from x mid = record {
  is_mid = reused_mid x mid;
  runs = λ frames n answers card. run_same x frames n answers card;
  weighs = code_weighs x;
  start = function_stays x.start;
  functions = each_folded x.functions;
  adds_none = none_add x.functions;
  start_adds_none = adds_none x.start.body;
  globals = refl;
  literals = refl;
  main = refl;
}

-- of a program which is known to be the first
pub is_reused : (x o : CodeT ℕ) (start : FunctionT ℕ) (functions : List (FunctionT ℕ)) → IsMid x → o ≡ x → start ≡ reused_function o.start → functions ≡ map reused_function o.functions
    → IsFoldedFrom x (with_functions o start functions)
is_reused x o start functions mid of s fs =
    let same : reused_code x ≡ with_functions o start functions = sym ((λ i. with_functions o (s i) (fs i)) ∙ ap reused_code of) in
    subst (IsFoldedFrom x) same (reused_from x mid)
