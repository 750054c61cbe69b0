-- Code that a walk has gone through is no worse.
use Rattle.std.proofs.Common.{◌≡◌, List, [], ◌∷◌, ℕ, map, refl, sym, ap, ◌∙◌, subst}
use Rattle.mid_code.specs.Code.{FunctionT, CodeT}
use Rattle.mid_code.specs.Invariants.{IsMid}
use Rattle.mid_improve.specs.ImprovedFrom.{IsImprovedFunction, EachImproved, IsNoWorseFrom}
use Rattle.mid_improve.specs.declared.sinking.Walk.{Walk}
use Rattle.mid_improve.specs.inner.Sinking.{sunk_function, sunk_code, AreSunk, IsSunkCode}
use Rattle.mid_improve.proofs.SinkProgram.{sunk_keeps, sunk_works}
use Rattle.mid_improve.proofs.SinkLasts.{sunk_divisions}
use Rattle.mid_improve.proofs.SinkMid.{sunk_mid, sunk_weighs, sunk_stays, sunk_shape, none_add}

are_sunk : (W : Walk) (fs : List (FunctionT ℕ)) → AreSunk W fs (map (sunk_function W) fs)
are_sunk W [] = tt
are_sunk W (f ∷ fs) = (refl, are_sunk W fs)

is_sunk : (W : Walk) (x : CodeT ℕ) → IsSunkCode W x (sunk_code W x)
is_sunk W x = record { start = refl; functions = are_sunk W x.functions; globals = refl; literals = refl; main = refl }

function_sunk : (W : Walk) (f : FunctionT ℕ) → IsImprovedFunction f (sunk_function W f)
function_sunk W f = record { temporaries = refl; params = refl; locals = refl; gives = refl; stays = sunk_stays W f (sunk_function W f) refl; divisions = sunk_divisions W f.body; together = (sunk_shape W f (sunk_function W f) refl).at_once }

each_sunk : (W : Walk) (fs : List (FunctionT ℕ)) → EachImproved fs (map (sunk_function W) fs)
each_sunk W [] = tt
each_sunk W (f ∷ fs) = (function_sunk W f, each_sunk W fs)

pub sunk_from : (W : Walk) (x : CodeT ℕ) → IsMid x → IsNoWorseFrom x (sunk_code W x)
sunk_from W x mid = let y = sunk_code W x in let s = is_sunk W x in record {
  is_mid = sunk_mid W x y mid s;
  keeps = λ frames. sunk_keeps W x y mid s frames;
  works = λ frames. sunk_works W x y mid s frames;
  weighs = sunk_weighs W x y s;
  start = function_sunk W x.start;
  functions = each_sunk W x.functions;
  adds_none = none_add W x.functions y.functions s.functions;
  start_adds_none = (sunk_shape W x.start y.start s.start).adds_none;
  globals = refl;
  literals = refl;
  main = refl;
}

-- a program with other functions
abbrev pub with_functions : (x : CodeT ℕ) (start : FunctionT ℕ) (functions : List (FunctionT ℕ)) → CodeT ℕ
with_functions x start functions = record x { start = start; functions = functions }

-- of a program which is known to be the first
pub sunk_of : (W : Walk) (x o : CodeT ℕ) (start : FunctionT ℕ) (functions : List (FunctionT ℕ)) → IsMid x → o ≡ x → start ≡ sunk_function W o.start → functions ≡ map (sunk_function W) o.functions
    → IsNoWorseFrom x (with_functions o start functions)
sunk_of W x o start functions mid of s fs =
    let same : sunk_code W x ≡ with_functions o start functions = sym ((λ i. with_functions o (s i) (fs i)) ∙ ap (sunk_code W) of) in
    subst (IsNoWorseFrom x) same (sunk_from W x mid)
