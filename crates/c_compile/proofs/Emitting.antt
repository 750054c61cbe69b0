-- What was placed can be emitted, and what comes of it is what the program asks for.
use Rattle.std.proofs.Common.{◌≡◌, ℕ, zero, suc, ◌+◌, ◌≤◌, arith, List, [], ◌∷◌, map, length, Some, refl, sym, ap, ◌∙◌, subst}
use Rattle.std.proofs.lemmas.List.{length-map}
use Rattle.std.specs.Prelude.{slice_get, sum_by, Bool, true, ◌&&◌}
use Rattle.std.specs.List.{list_all}
use Rattle.asm_items.specs.declared.item.AsmItem.{AsmItem}
use Rattle.asm_items.specs.Vocabulary.{is_word}
use Rattle.c_types.specs.Programs.{TFunctionT, ProgramT}
use Rattle.c_types.specs.Nodes.{program_nodes}
use Rattle.c_facts.specs.Sound.{Scene, AreFunctions, scene, IsSound, AreApart}
use Rattle.c_meaning.specs.Setting.{Setting, setting}
use Rattle.mid_code.specs.declared.placed.Where.{Where}
use Rattle.mid_code.specs.Code.{FunctionT, CodeT}
use Rattle.mid_code.specs.Invariants.{DifferFrom, AreDifferent}
use Rattle.mid_code.specs.Calls.{NoneAdd}
use Rattle.mid_code.specs.Placed.{PlacedT}
use Rattle.mid_code.specs.Choices.{AreSafe}
use Rattle.mid_lower.specs.LoweredFrom.{EachLowered, IsLoweredFrom}
use Rattle.mid_replace.specs.ReplacedFrom.{EachReplaced, IsReplacedFrom}
use Rattle.mid_improve.specs.MadeFrom.{EachMade, IsSettledFrom}
use Rattle.reg_frames.specs.PlacedFrom.{IsPlacedFrom}
use Rattle.asm_emit.specs.EmittedFrom.{CanBeEmitted, IsEmitted, literal_words}
use Rattle.pass_laws.specs.Meeting.{PassesMeet}
use Rattle.c_compile.specs.Compiling.{names_of, IsCompiled}
use Rattle.reg_choose.specs.Each.{AllSpare}
use Rattle.c_compile.proofs.Straight.{each_straight, none_add}

-- ---- names

both : (a b : Bool) → a ≡ true → b ≡ true → (a && b) ≡ true
both a b h k = rw (h, k) refl

differs_from : (n : List ℕ) (ns : List (List ℕ)) → ((j : ℕ) → slice_get ns j ≡ Some n → ⊥) → DifferFrom n ns
differs_from n [] h = tt
differs_from n (m ∷ ns) h = (λ e. h zero (ap Some (sym e)), differs_from n ns (λ j e. h (suc j) e))

no_successor : (j : ℕ) → zero ≡ suc j → ⊥
no_successor j e = absurd (omega (arith, e))

less_one : (i j : ℕ) → suc i ≡ suc j → i ≡ j
less_one i j e = omega (arith, e)

different : (ns : List (List ℕ)) → AreApart ns → AreDifferent ns
different [] h = tt
different (n ∷ ns) h = (differs_from n ns (λ j e. no_successor j (h zero (suc j) n refl e)), different ns (λ i j m p q. less_one i j (h (suc i) (suc j) m p q)))

names_are_words : (z : Scene) (fs : List TFunctionT) → AreFunctions z fs → list_all is_word (map (λ f. f.name) fs) ≡ true
names_are_words z [] h = refl
names_are_words z (f ∷ fs) h = both (is_word f.name) (list_all is_word (map (λ f. f.name) fs)) h.0.word (names_are_words z fs h.1)

-- ---- functions

as_lowered : (s : Setting) (fs : List TFunctionT) (gs : List (FunctionT ℕ)) → EachLowered s fs gs → length fs ≡ length gs
as_lowered s [] [] h = refl
as_lowered s [] (g ∷ gs) h = absurd h
as_lowered s (f ∷ fs) [] h = absurd h
as_lowered s (f ∷ fs) (g ∷ gs) h = ap suc (as_lowered s fs gs h.1)

as_made : (fs gs : List (FunctionT ℕ)) → EachMade fs gs → length fs ≡ length gs
as_made [] [] h = refl
as_made [] (g ∷ gs) h = absurd h
as_made (f ∷ fs) [] h = absurd h
as_made (f ∷ fs) (g ∷ gs) h = ap suc (as_made fs gs h.1)

as_replaced : (fs gs : List (FunctionT ℕ)) → EachReplaced fs gs → length fs ≡ length gs
as_replaced [] [] h = refl
as_replaced [] (g ∷ gs) h = absurd h
as_replaced (f ∷ fs) [] h = absurd h
as_replaced (f ∷ fs) (g ∷ gs) h = ap suc (as_replaced fs gs h.1)

replaced_adds_none : (fs gs : List (FunctionT ℕ)) → EachReplaced fs gs → NoneAdd fs gs
replaced_adds_none [] [] h = tt
replaced_adds_none [] (g ∷ gs) h = absurd h
replaced_adds_none (f ∷ fs) [] h = absurd h
replaced_adds_none (f ∷ fs) (g ∷ gs) h = (h.0.adds_none, replaced_adds_none fs gs h.1)

made_adds_none : (fs gs : List (FunctionT ℕ)) → EachMade fs gs → NoneAdd fs gs
made_adds_none [] [] h = tt
made_adds_none [] (g ∷ gs) h = absurd h
made_adds_none (f ∷ fs) [] h = absurd h
made_adds_none (f ∷ fs) (g ∷ gs) h = (h.0.adds_none, made_adds_none fs gs h.1)

as_placed : (fs : List (FunctionT ℕ)) (gs : List (FunctionT Where)) → NoneAdd fs gs → length fs ≡ length gs
as_placed [] [] h = refl
as_placed [] (g ∷ gs) h = absurd h
as_placed (f ∷ fs) [] h = absurd h
as_placed (f ∷ fs) (g ∷ gs) h = ap suc (as_placed fs gs h.1)

module _ (p : ProgramT) (m r settled : CodeT ℕ) (cs : List (List Where)) (x : PlacedT) (l : IsLoweredFrom p m) (w : IsReplacedFrom m r) (o : IsSettledFrom r settled) (c : IsPlacedFrom settled cs x) where
  pub can_be_emitted : (names : List (List ℕ)) → names ≡ names_of p → IsSound p → program_nodes p ≤ 200000 → CanBeEmitted x names
  can_be_emitted names e sound few =
      let literals : x.code.literals ≡ p.literals = c.literals ∙ o.made.literals ∙ w.literals ∙ l.literals in
      let words : literal_words x ≤ 4000000 = subst (λ (ts : List (List ℕ)). sum_by (λ t. length t + 1) ts ≤ 4000000) (sym literals) sound.literals in
      record {
        named = ap length e ∙ length-map p.functions (λ f. f.name) ∙ as_lowered (setting p []) p.functions m.functions l.functions ∙ as_replaced m.functions r.functions w.functions ∙ as_made r.functions settled.functions o.made.functions ∙ as_placed settled.functions x.code.functions c.adds_none;
        differ = subst AreDifferent (sym e) (different (names_of p) sound.function_names);
        words = ap (list_all is_word) e ∙ names_are_words (scene p) p.functions sound.functions;
        room = omega (arith, words, few, l.weighs, w.weighs, o.made.weighs, c.weighs);
      }

  pub is_compiled : (items : List AsmItem) → AreSafe settled cs → AllSpare settled cs → IsEmitted x (names_of p) items → PassesMeet → IsCompiled p (record { mid = settled; choices = cs; placed = x; items = items })
  is_compiled items safe spares emitted meet = record {
    promoted = o.promoted;
    settled = o.settled;
    safe = safe;
    spares = spares;
    placed = c;
    emitted = emitted;
    straight = each_straight (setting p []) p.functions m.functions x.code.functions l.functions
        (none_add m.functions r.functions x.code.functions (replaced_adds_none m.functions r.functions w.functions)
        (none_add r.functions settled.functions x.code.functions (made_adds_none r.functions settled.functions o.made.functions) c.adds_none));
    meaning = meet p m r settled cs x (names_of p) items l w o safe c emitted;
  }
