-- No pass adds loops or calls to a function.
use Rattle.std.proofs.Common.{ℕ, List, [], ◌∷◌, arith}
use Rattle.c_types.specs.Programs.{TFunctionT}
use Rattle.c_meaning.specs.Setting.{Setting}
use Rattle.mid_code.specs.declared.placed.Where.{Where}
use Rattle.mid_code.specs.Code.{FunctionT, NodesT}
use Rattle.mid_code.specs.Calls.{AddsNone, NoneAdd}
use Rattle.mid_lower.specs.LoweredFrom.{EachLowered, IsLoweredFunction}
use Rattle.c_compile.specs.Straight.{EachStraight, IsStraight}

adds_none : {P Q R : Type 0} (a : NodesT P) (b : NodesT Q) (c : NodesT R) → AddsNone a b → AddsNone b c → AddsNone a c
adds_none a b c h k = record { loop_count = (let x = h.loop_count in let y = k.loop_count in omega (arith, x, y)); calls = λ f calls. h.calls f (k.calls f calls) }

pub none_add : {P Q R : Type 0} (fs : List (FunctionT P)) (gs : List (FunctionT Q)) (hs : List (FunctionT R)) → NoneAdd fs gs → NoneAdd gs hs → NoneAdd fs hs
none_add [] [] [] a b = tt
none_add [] [] (h ∷ hs) a b = absurd b
none_add [] (g ∷ gs) hs a b = absurd a
none_add (f ∷ fs) [] hs a b = absurd a
none_add (f ∷ fs) (g ∷ gs) [] a b = absurd b
none_add (f ∷ fs) (g ∷ gs) (h ∷ hs) a b = (adds_none f.body g.body h.body a.0 b.0, none_add fs gs hs a.1 b.1)

straight : (s : Setting) (f : TFunctionT) (g : FunctionT ℕ) (k : FunctionT Where) → IsLoweredFunction s f g → AddsNone g.body k.body → IsStraight s f k
straight s f g k a b none = ((let x = (a.straight none).loop_count in let y = b.loop_count in omega (arith, x, y)), λ n calls. (a.straight none).calls n (b.calls n calls))

pub each_straight : (s : Setting) (fs : List TFunctionT) (gs : List (FunctionT ℕ)) (ks : List (FunctionT Where)) → EachLowered s fs gs → NoneAdd gs ks → EachStraight s fs ks
each_straight s [] [] [] a b = tt
each_straight s [] [] (k ∷ ks) a b = absurd b
each_straight s [] (g ∷ gs) ks a b = absurd a
each_straight s (f ∷ fs) [] ks a b = absurd a
each_straight s (f ∷ fs) (g ∷ gs) [] a b = absurd b
each_straight s (f ∷ fs) (g ∷ gs) (k ∷ ks) a b = (straight s f g k a.0 b.0, each_straight s fs gs ks a.1 b.1)
