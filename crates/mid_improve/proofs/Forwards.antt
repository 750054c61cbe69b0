-- What forward propagation promises.
use Rattle.std.proofs.Common.{◌≡◌, ℕ, List, [], ◌∷◌, map, length, refl, sym, ap, ◌∙◌, subst}
use Rattle.mid_code.specs.Code.{FunctionT, CodeT}
use Rattle.mid_code.specs.Invariants.{AllOf, IsFunction, IsTemporary, IsMid}
use Rattle.mid_improve.specs.inner.Forward.{forwarded_function, forwarded_code}
use Rattle.mid_improve.specs.inner.ForwardedFrom.{IsForwardedFunction, EachForwarded, IsForwardedFrom}
use Rattle.mid_improve.proofs.Running.{run_same}
use Rattle.mid_improve.proofs.Settling.{forward_settles}
use Rattle.mid_improve.proofs.Fitting.{fits}
use Rattle.mid_improve.specs.inner.Facts.{none_known}
use Rattle.mid_improve.proofs.ForwardLasts.{forwarded_divisions}
use Rattle.mid_improve.proofs.ForwardMid.{skeleton_same, code_weighs, none_add, adds_none, forwarded_mid}

function_forwarded : (x : CodeT ℕ) (f : FunctionT ℕ) → IsFunction IsTemporary x f → IsForwardedFunction f (forwarded_function f)
function_forwarded x f ok = record { temporaries = refl; params = refl; locals = refl; gives = refl; stays = skeleton_same none_known f.body; divisions = forwarded_divisions f.body; settled = forward_settles fits x (length f.locals) [] f.body ok.nodes }

each_forwarded : (x : CodeT ℕ) (fs : List (FunctionT ℕ)) → AllOf (IsFunction IsTemporary x) fs → EachForwarded fs (map forwarded_function fs)
each_forwarded x [] ok = tt
each_forwarded x (f ∷ fs) ok = (function_forwarded x f ok.0, each_forwarded x fs ok.1)

pub forwarded_from : (x : CodeT ℕ) → IsMid x → IsForwardedFrom x (forwarded_code x)
forwarded_from x mid = record {
  is_mid = forwarded_mid x mid;
  runs = λ frames n answers card. run_same x frames n answers card;
  weighs = code_weighs x;
  start = function_forwarded x x.start mid.start.function;
  functions = each_forwarded x x.functions mid.functions;
  adds_none = none_add x.functions;
  start_adds_none = adds_none x.start.body;
  globals = refl;
  literals = refl;
  main = refl;
}

-- a program with other functions
abbrev pub with_functions : (x : CodeT ℕ) (start : FunctionT ℕ) (functions : List (FunctionT ℕ)) → CodeT ℕ
with_functions x start functions = record x { start = start; functions = functions }

-- of a program which is known to be the first
pub is_forwarded : (x o : CodeT ℕ) (start : FunctionT ℕ) (functions : List (FunctionT ℕ)) → IsMid x → o ≡ x → start ≡ forwarded_function o.start → functions ≡ map forwarded_function o.functions
    → IsForwardedFrom x (with_functions o start functions)
is_forwarded x o start functions mid of s fs =
    let same : forwarded_code x ≡ with_functions o start functions = sym ((λ i. with_functions o (s i) (fs i)) ∙ ap forwarded_code of) in
    subst (IsForwardedFrom x) same (forwarded_from x mid)
