-- The pass over a whole program: code that a walk has gone through keeps the runs, and does no more work.
use Rattle.std.proofs.Common.{◌≡◌, ℕ, zero, suc, ◌+◌, List, [], ◌∷◌, length, sum, get_or, Option, Some, None, refl, sym, ap, subst, arith}
use Rattle.obj_mem.specs.Runs.{opening_world, opening_store}
use Rattle.mid_code.specs.Code.{FunctionT, CodeT}
use Rattle.mid_code.specs.Invariants.{AreNodes, IsMid}
use Rattle.mid_code.specs.States.{temporaries, over_worlds, sizes_of, function_at, no_function}
use Rattle.mid_code.specs.Runs.{mid_runs}
use Rattle.mid_code.specs.Keeps.{KeepsRuns, WorksAtMost}
use Rattle.mid_code.specs.inner.Passing.{Pass, Like}
use Rattle.mid_code.specs.inner.Programs.{Program}
use Rattle.mid_code.proofs.Programs.{program_keeps, program_works}
use Rattle.mid_improve.specs.declared.sinking.Walk.{Walk}
use Rattle.mid_improve.specs.inner.Sinking.{sunk_function, AreSunk, IsSunkCode}
use Rattle.mid_improve.proofs.SweepProgram.{worlds_ended, nodes_at}
use Rattle.mid_improve.proofs.SinkPass.{LessWorlds, sinking}
use Rattle.mid_improve.proofs.SinkKeeps.{keeps}
use Rattle.mid_improve.proofs.SinkLike.{like}

sunk_at : (W : Walk) (fs gs : List (FunctionT ℕ)) → AreSunk W fs gs → (h : ℕ) → get_or gs h no_function ≡ sunk_function W (get_or fs h no_function)
sunk_at W [] [] a h = refl
sunk_at W [] (g ∷ gs) a h = absurd a
sunk_at W (f ∷ fs) [] a h = absurd a
sunk_at W (f ∷ fs) (g ∷ gs) a zero = a.0
sunk_at W (f ∷ fs) (g ∷ gs) a (suc h) = sunk_at W fs gs a.1 h

module _ (W : Walk) (x y : CodeT ℕ) (mid : IsMid x) (S : IsSunkCode W x y) (frames : List ℕ) where
  abbrev PP : Pass (over_worlds temporaries x frames) (over_worlds temporaries y frames)
  PP = sinking W x y frames

  functions : (h : ℕ) → function_at y h ≡ sunk_function W (function_at x h)
  functions = sunk_at W x.functions y.functions S.functions

  sizes : sizes_of y frames ≡ sizes_of x frames
  sizes =
      let fs = functions in
      let gs = S.globals in
      let ls = S.literals in
      λ i. record { frame = λ h. get_or frames h 0; locals = λ h. (fs h i).locals; globals = sum (gs i); first_literal = length (gs i); card = length (gs i) + length (ls i) }

  nodes : (h : ℕ) → (m : ℕ) × AreNodes x m [] (function_at x h).body
  nodes = nodes_at x x.functions mid.functions

  body_like : (h : ℕ) → Like PP (Some h) [] None (function_at x h).body (function_at y h).body None
  body_like h = let n = nodes h in subst (λ f. Like PP (Some h) [] None (function_at x h).body f.body None) (sym (functions h)) (like W x y frames n.0 (Some h) (function_at x h).body n.1)

  start_like : Like PP None [] None x.start.body y.start.body None
  start_like = subst (λ f. Like PP None [] None x.start.body f.body None) (sym S.start) (like W x y frames (length x.start.locals) None x.start.body mid.start.function.nodes)

  opened : (answers : List ℕ) (card : Option (List ℕ)) → LessWorlds 0 (opening_world x.globals x.literals answers card) (opening_world y.globals y.literals answers card)
  opened answers card = record {
    store = (let gs = S.globals in let ls = S.literals in λ i. opening_store (gs i) (ls i) answers card);
    events = refl;
    work = omega arith;
  }

  program : Program temporaries temporaries x y frames frames PP
  program = record {
    keeps = keeps W x y frames sizes (λ h. ap (λ f. f.params) (functions h)) body_like;
    ev = λ s. refl;
    ev' = λ t. refl;
    globals = ap length S.globals;
    literals = ap length S.literals;
    main = S.main;
    begun = None;
    of_start = refl;
    start = start_like;
    opening = λ answers card is. record { worlds = opened answers card; given = refl; cells = λ r n. refl; held = tt };
    goes = λ s t A. A;
    call = (refl, refl, refl, refl);
    ended = λ s t a. worlds_ended (length x.globals) (length x.globals + length x.literals) s.world t.world a;
    out = λ s t a. worlds_ended (length x.globals) (length x.globals + length x.literals) s.world t.world a;
    deep = λ s t a. record { events = a.events; work = a.work };
  }

  pub sunk_keeps : KeepsRuns (mid_runs x frames) (mid_runs y frames)
  sunk_keeps = program_keeps temporaries temporaries x y frames frames PP program

  pub sunk_works : WorksAtMost 1 (mid_runs x frames) (mid_runs y frames)
  sunk_works = program_works temporaries temporaries x y frames frames PP program
