-- The promises of the passes meet: the frame that is made of a function fits it.
use Rattle.std.proofs.Common.{ℕ, ◌+◌, ◌*◌, suc, ◌≤◌, Bool, true, false, cond, List, [], ◌∷◌, ◌++◌, map, length, length-append, get_or, sum, sym, ap, ◌∙◌, subst, arith}
use Rattle.c_types.specs.Programs.{TFunctionT, ProgramT}
use Rattle.c_meaning.specs.Setting.{Setting, setting}
use Rattle.c_meaning.specs.Frames.{AreLarge, FitsFrame, EachFits, LargeAtOnce, expressions, structure_words}
use Rattle.mid_code.specs.declared.placed.Where.{Where}
use Rattle.mid_code.specs.declared.placed.Where.TheVariants.{Reg, Slot}
use Rattle.mid_code.specs.Code.{FunctionT, CodeT}
use Rattle.mid_code.specs.Placed.{PlacedT}
use Rattle.mid_code.specs.Safe.{IsSafe}
use Rattle.mid_lower.specs.LoweredFrom.{IsLoweredFunction, EachLowered, IsLoweredFrom}
use Rattle.mid_code.specs.Together.{WordsAtOnce}
use Rattle.mid_replace.specs.ReplacedFrom.{IsReplacedFunction, EachReplaced, IsReplacedFrom}
use Rattle.mid_improve.specs.MadeFrom.{AllTwo, IsMadeFunction, EachMade, IsSettledFrom}
use Rattle.reg_frames.specs.PlacedFrom.{IsFrameOf, AreFrames, IsPlacedFrom}
use Rattle.mid_code.specs.Live.{is_among}
use Rattle.mid_code.specs.Choices.{with_slot, slots_from, slot_count, EachSafe, AreSafe}

-- ---- lists

cond_few : (b : Bool) (ns : List ℕ) (n : ℕ) → length (cond b ns (ns ++ n ∷ [])) ≤ suc (length ns)
cond_few true ns n = omega arith
cond_few false ns n = rw (length-append ns (n ∷ [])) (omega arith)

slot_few : (ns : List ℕ) (w : Where) → length (with_slot ns w) ≤ suc (length ns)
slot_few ns (Reg number) = omega arith
slot_few ns (Slot number) = cond_few (is_among ns number) ns number

slots_few_from : (ns : List ℕ) (at : List Where) → length (slots_from ns at) ≤ length ns + length at
slots_few_from ns [] = omega arith
slots_few_from ns (w ∷ ws) = omega (arith, slot_few ns w, slots_few_from (with_slot ns w) ws)

slots_few : (at : List Where) → slot_count at ≤ length at
slots_few at = omega (arith, slots_few_from [] at)

large_two : (f : TFunctionT) (js : List ℕ) → AreLarge f js → AllTwo (map (λ j. get_or f.locals j 0) js)
large_two f [] l = tt
large_two f (j ∷ js) l = (l.0, large_two f js l.1)

-- ---- a function, lowered, with words in temporaries

record IsReady (s : Setting) (f : TFunctionT) (g : FunctionT ℕ) : Type 0 where
  local_words : sum g.locals ≤ sum f.locals + structure_words s f
  together : (sizes : List ℕ) → LargeAtOnce f sizes → WordsAtOnce g sizes
  temporaries : g.temps ≤ 2 * expressions f + length f.params + 32

ready : (s : Setting) (f : TFunctionT) (g r : FunctionT ℕ) → IsLoweredFunction s f g → IsReplacedFunction g r → IsReady s f r
ready s f g r a b = record {
  local_words = subst (λ ls. sum ls ≤ sum f.locals + structure_words s f) (sym b.locals) a.local_words;
  together = λ sizes l. (let w = a.together sizes l in record {
    locals = w.locals;
    different = w.different;
    together = b.at_once w.locals w.together;
    words = w.words ∙ ap (λ ls. map (λ k. get_or ls k 0) w.locals) (sym b.locals);
  });
  temporaries = omega (arith, a.temporaries, b.temporaries);
}

abbrev EachReady : Setting → List TFunctionT → List (FunctionT ℕ) → Type 0
EachReady s [] [] = Unit {0}
EachReady s (f ∷ fs) (g ∷ gs) = IsReady s f g × EachReady s fs gs
EachReady s _ _ = ⊥

all_ready : (s : Setting) (fs : List TFunctionT) (gs rs : List (FunctionT ℕ)) → EachLowered s fs gs → EachReplaced gs rs → EachReady s fs rs
all_ready s [] [] [] a b = tt
all_ready s [] [] (r ∷ rs) a b = absurd b
all_ready s [] (g ∷ gs) rs a b = absurd a
all_ready s (f ∷ fs) [] rs a b = absurd a
all_ready s (f ∷ fs) (g ∷ gs) [] a b = absurd b
all_ready s (f ∷ fs) (g ∷ gs) (r ∷ rs) a b = (ready s f g r a.0 b.0, all_ready s fs gs rs a.1 b.1)

-- ---- the frame

-- a function, settled
fits : (s : Setting) (f : TFunctionT) (g h : FunctionT ℕ) (at : List Where) (size : ℕ)
    → IsReady s f g → IsMadeFunction g h → IsSafe h at → IsFrameOf h at size → FitsFrame s f size
fits s f g h at size a b safe c = record {
  at_most = omega (arith, c.at_most, slots_few at, safe.count, b.frame_words, a.local_words, a.temporaries);
  at_least = λ sizes l. c.at_least sizes (b.together sizes (subst AllTwo (sym l.words) (large_two f l.objects l.large)) (a.together sizes l));
}

all_fit : (s : Setting) (fs : List TFunctionT) (gs hs : List (FunctionT ℕ)) (cs : List (List Where)) (sizes : List ℕ)
    → EachReady s fs gs → EachMade gs hs → EachSafe hs cs → AreFrames hs cs sizes → EachFits s fs sizes
all_fit s [] [] [] [] [] a b c d = tt
all_fit s [] [] [] [] (size ∷ sizes) a b c d = absurd d
all_fit s [] [] [] (at ∷ cs) sizes a b c d = absurd c
all_fit s [] [] (h ∷ hs) cs sizes a b c d = absurd b
all_fit s [] (g ∷ gs) hs cs sizes a b c d = absurd a
all_fit s (f ∷ fs) [] hs cs sizes a b c d = absurd a
all_fit s (f ∷ fs) (g ∷ gs) [] cs sizes a b c d = absurd b
all_fit s (f ∷ fs) (g ∷ gs) (h ∷ hs) [] sizes a b c d = absurd c
all_fit s (f ∷ fs) (g ∷ gs) (h ∷ hs) (at ∷ cs) [] a b c d = absurd d
all_fit s (f ∷ fs) (g ∷ gs) (h ∷ hs) (at ∷ cs) (size ∷ sizes) a b c d = (fits s f g h at size a.0 b.0 c.0 d.0, all_fit s fs gs hs cs sizes a.1 b.1 c.1 d.1)

-- each frame of a placed program fits its function
pub frames_fit : (p : ProgramT) (m r settled : CodeT ℕ) (cs : List (List Where)) (x : PlacedT)
    → IsLoweredFrom p m → IsReplacedFrom m r → IsSettledFrom r settled → AreSafe settled cs → IsPlacedFrom settled cs x → EachFits (setting p []) p.functions x.frames
frames_fit p m r settled [] x l w o a c = absurd a
frames_fit p m r settled (start ∷ cs) x l w o a c =
    all_fit (setting p []) p.functions r.functions settled.functions cs x.frames (all_ready (setting p []) p.functions m.functions r.functions l.functions w.functions) o.made.functions a.1 c.frames
