-- The machine before its first step has the whole run before it.
use Rattle.std.proofs.Common.{◌≡◌, ℕ, ◌+◌, ◌≤◌, arith, min, List, [], ◌∷◌, ◌++◌, map, refl, sym, ap, ◌∙◌, append_assoc, inl, inr}
use Rattle.std.specs.Prelude.{Option}
use Rattle.std.proofs.lemmas.Bool.{cases_lt}
use Rattle.std.proofs.Math.Nat.{min-eq_left, min-eq_right}
use Rattle.c_types.specs.Typed.{TStmtTs, NoZ, MoreZ}
use Rattle.c_types.specs.View.{tstmts}
use Rattle.c_types.specs.Programs.{ProgramT}
use Rattle.obj_mem.specs.declared.cell.Cell.TheVariants.{Unwritten}
use Rattle.obj_mem.specs.Objects.{ObjectT, global_object, literal_object, card_object, opening_objects}
use Rattle.obj_mem.specs.Runs.{opening_store}
use Rattle.obj_mem.specs.Stores.{Store}
use Rattle.obj_mem.specs.Worlds.{spend, bare}
use Rattle.c_meaning.specs.declared.end.End.{End}
use Rattle.c_meaning.specs.Outcomes.{Done, Goes, Breaks, Continues, Returns, Ended, nowhere}
use Rattle.c_meaning.specs.Setting.{setting}
use Rattle.c_meaning.specs.Expressions.{call}
use Rattle.c_meaning.specs.Statements.{does_all, below}
use Rattle.c_meaning.specs.Runs.{main_done, main_called, inits_done}
use Rattle.c_evaluate.specs.Evaluation.{left_of, run_of}
use Rattle.c_evaluate.specs.inner.Machine.{FrameT, MainW, Config, Over, D, with_inits, resume, whole, run_left}
use Rattle.c_evaluate.specs.inner.Steps.{rest_of}

-- ---- the words of globals, cut at a limit

pub more_words : (total words more cap : ℕ) → min (min (total + words) cap + more) cap ≡ min (total + (words + more)) cap
more_words total words more cap = elim (cases_lt cap (total + words)) [
  | inl h ↦ ap (λ z. min (z + more) cap) (min-eq_right (omega (arith, h))) ∙ min-eq_right (omega arith) ∙ sym (min-eq_right (omega (arith, h)))
  | inr h ↦ ap (λ z. min (z + more) cap) (min-eq_left h) ∙ ap (λ z. min z cap) (same total words more)
]
  where
    same : (a b c : ℕ) → a + b + c ≡ a + (b + c)
    same a b c = omega arith

pub few_words : (total rest cap : ℕ) → total ≤ cap → rest ≡ 0 → total ≡ min (total + rest) cap
few_words total rest cap le z = sym (min-eq_left (omega (arith, le, z)) ∙ plus_none total rest z)
  where
    plus_none : (a b : ℕ) → b ≡ 0 → a + b ≡ a
    plus_none a b z = omega (arith, z)

-- ---- the objects at the opening

both_maps : {A B C : Type 0} (f : A → B) (g : B → C) (xs : List A) → map g (map f xs) ≡ map (λ x. g (f x)) xs
both_maps f g [] = refl
both_maps f g (x ∷ xs) = ap (λ l. g (f x) ∷ l) (both_maps f g xs)

pub all_opened : (gs : List (List ℕ × ℕ)) (ls : List (List ℕ)) (card : Option (List ℕ)) (o a b c : List ObjectT) → o ≡ [] → a ≡ o ++ map (λ g. global_object g.1) gs → b ≡ a ++ map literal_object ls → c ≡ b ++ card_object card ∷ [] → c ≡ opening_objects (map (λ g. g.1) gs) ls card
all_opened gs ls card o a b c eo ea eb ec =
    ec ∙ ap (λ l. l ++ card_object card ∷ []) (eb ∙ ap (λ l. l ++ map literal_object ls) (ea ∙ ap (λ l. l ++ map (λ g. global_object g.1) gs) eo ∙ sym (both_maps (λ g. g.1) global_object gs)))
    ∙ append_assoc (map global_object (map (λ g. g.1) gs)) (map literal_object ls) (card_object card ∷ [])

-- ---- the run

module _ (p : ProgramT) (frames : List ℕ) (n : ℕ) where
  abbrev frame : List FrameT
  frame = MainW n p.main ∷ []

  main_each : (x : Done) → main_done (with_inits x (λ w. call (setting p frames) n (below (setting p frames) n) p.main [] nowhere (spend 1 w))) ≡ inits_done x (main_called p frames n)
  main_each (Goes w) = refl
  main_each (Breaks w) = refl
  main_each (Continues w) = refl
  main_each (Returns c w) = refl
  main_each (Ended e w) = refl

  list_run : (xs : TStmtTs) (u : Store) → run_left (setting p frames) (rest_of n Unwritten xs frame u) ≡ left_of (resume (setting p frames) frame (D (does_all (setting p frames) n (below (setting p frames) n) Unwritten xs (bare u))))
  unfolding whole
  list_run NoZ u = refl
  list_run (MoreZ a rest) u = refl

  pub first_run : (answers : List ℕ) (card : Option (List ℕ)) (u : Store) (c : Config) → u ≡ opening_store (map (λ g. g.1) p.globals) p.literals answers card → rest_of n Unwritten (tstmts p.inits) frame u ≡ c → run_left (setting p frames) c ≡ run_of p frames n answers card
  first_run answers card u c eu ec =
      ap (run_left (setting p frames)) (sym ec) ∙ list_run (tstmts p.inits) u
      ∙ ap left_of (main_each (does_all (setting p frames) n (below (setting p frames) n) Unwritten (tstmts p.inits) (bare u)))
      ∙ ap (λ v. left_of (inits_done (does_all (setting p frames) n (below (setting p frames) n) Unwritten (tstmts p.inits) (bare v)) (main_called p frames n))) eu

  pub first_over : (answers : List ℕ) (card : Option (List ℕ)) (u : Store) (end : End) → u ≡ opening_store (map (λ g. g.1) p.globals) p.literals answers card → rest_of n Unwritten (tstmts p.inits) frame u ≡ Over end → run_left (setting p frames) (Over end) ≡ run_of p frames n answers card
  first_over answers card u end eu ec = first_run answers card u (Over end) eu ec
