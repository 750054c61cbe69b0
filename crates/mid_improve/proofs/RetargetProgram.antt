-- The pass over a whole program: code whose targets are moved at once keeps the runs, and does no more work.
use Rattle.std.proofs.Common.{◌≡◌, ℕ, zero, suc, ◌+◌, List, [], ◌∷◌, map, length, sum, get_or, Some, None, refl, sym, ap, subst, arith}
use Rattle.mid_code.specs.Code.{FunctionT, CodeT}
use Rattle.mid_code.specs.Invariants.{AreNodes, IsMid}
use Rattle.mid_code.specs.States.{temporaries, over_worlds, sizes_of, function_at, no_function}
use Rattle.mid_code.specs.Runs.{mid_runs}
use Rattle.mid_code.specs.Keeps.{KeepsRuns, WorksAtMost}
use Rattle.mid_code.specs.inner.Passing.{Pass, Like}
use Rattle.mid_code.specs.inner.Programs.{Program}
use Rattle.mid_code.proofs.Programs.{program_keeps, program_works}
use Rattle.mid_improve.specs.inner.Retarget.{retargeted_function, retargeted_code}
use Rattle.mid_improve.proofs.SweepProgram.{worlds_ended, nodes_at}
use Rattle.mid_improve.proofs.RetargetPass.{retargeting}
use Rattle.mid_improve.proofs.RetargetKeeps.{keeps}
use Rattle.mid_improve.proofs.RetargetLike.{like}

retargeted_at : (fs : List (FunctionT ℕ)) (h : ℕ) → get_or (map retargeted_function fs) h no_function ≡ retargeted_function (get_or fs h no_function)
retargeted_at [] h = refl
retargeted_at (f ∷ fs) zero = refl
retargeted_at (f ∷ fs) (suc h) = retargeted_at fs h

module _ (x : CodeT ℕ) (mid : IsMid x) (frames : List ℕ) where
  abbrev y : CodeT ℕ
  y = retargeted_code x

  abbrev PP : Pass (over_worlds temporaries x frames) (over_worlds temporaries y frames)
  PP = retargeting x y frames

  functions : (h : ℕ) → function_at y h ≡ retargeted_function (function_at x h)
  functions = retargeted_at x.functions

  sizes : sizes_of y frames ≡ sizes_of x frames
  sizes =
      let fs = functions in
      λ i. record { frame = λ h. get_or frames h 0; locals = λ h. (fs h i).locals; globals = sum x.globals; first_literal = length x.globals; card = length x.globals + length x.literals }

  nodes : (h : ℕ) → (m : ℕ) × AreNodes x m [] (function_at x h).body
  nodes = nodes_at x x.functions mid.functions

  body_like : (h : ℕ) → Like PP (Some h) [] None (function_at x h).body (function_at y h).body None
  body_like h = let n = nodes h in subst (λ f. Like PP (Some h) [] None (function_at x h).body f.body None) (sym (functions h)) (like x y frames n.0 (Some h) (function_at x h).body n.1)

  start_like : Like PP None [] None x.start.body y.start.body None
  start_like = like x y frames (length x.start.locals) None x.start.body mid.start.function.nodes

  program : Program temporaries temporaries x y frames frames PP
  program = record {
    keeps = keeps x y frames sizes (λ h. ap (λ f. f.params) (functions h)) body_like;
    ev = λ s. refl;
    ev' = λ t. refl;
    globals = refl;
    literals = refl;
    main = refl;
    begun = None;
    of_start = refl;
    start = start_like;
    opening = λ answers card is. record { worlds = record { store = refl; events = refl; work = omega arith }; given = refl; cells = λ r n. refl; held = tt };
    goes = λ s t A. A;
    call = (refl, refl, refl);
    ended = λ s t a. worlds_ended (length x.globals) (length x.globals + length x.literals) s.world t.world a;
    out = λ s t a. worlds_ended (length x.globals) (length x.globals + length x.literals) s.world t.world a;
    deep = λ s t a. record { events = a.events; work = a.work };
  }

  pub retargeted_keeps : KeepsRuns (mid_runs x frames) (mid_runs y frames)
  retargeted_keeps = program_keeps temporaries temporaries x y frames frames PP program

  pub retargeted_works : WorksAtMost 1 (mid_runs x frames) (mid_runs y frames)
  retargeted_works = program_works temporaries temporaries x y frames frames PP program
