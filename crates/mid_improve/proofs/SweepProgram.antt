-- What the sweep leaves keeps the runs, and does no more work.
use Rattle.std.proofs.Common.{◌≡◌, ℕ, zero, suc, ◌+◌, ◌<◌, List, [], ◌∷◌, map, length, sum, get_or, slice_get, Some, None, refl, sym, ap, subst, arith}
use Rattle.obj_mem.specs.declared.cell.Cell.TheVariants.{Num}
use Rattle.obj_mem.specs.Objects.{object_at}
use Rattle.obj_mem.specs.Worlds.{World}
use Rattle.mid_code.specs.Code.{FunctionT, CodeT}
use Rattle.mid_code.specs.Invariants.{AreNodes, AllOf, IsFunction, IsTemporary, IsMid}
use Rattle.mid_code.specs.States.{temporaries, over_worlds, sizes_of, function_at, no_function}
use Rattle.mid_code.specs.Runs.{mid_runs}
use Rattle.mid_code.specs.Keeps.{KeepsRuns, WorksAtMost}
use Rattle.mid_code.specs.inner.Passing.{Pass, Like}
use Rattle.mid_code.specs.inner.Programs.{KeptWorlds, Program}
use Rattle.mid_code.proofs.Programs.{program_keeps, program_works}
use Rattle.mid_improve.specs.inner.Sweep.{no_labels, none_live, swept_function, swept_code}
use Rattle.mid_improve.proofs.SweepPass.{SameWorlds, opened, sweeping}
use Rattle.mid_improve.proofs.SweepKeeps.{keeps}
use Rattle.mid_improve.proofs.SweepLike.{like}

pub worlds_ended : (globals card : ℕ) (v w : World) → SameWorlds v w → KeptWorlds globals card v w
worlds_ended globals card v w a = record {
  so_far = record { events = a.events; work = a.work };
  there = λ o lt h. subst (λ u. o < length u.objects) (sym a.store) h;
  of_globals = λ o lt i n e. subst (λ u. slice_get (object_at u.objects o).cells i ≡ Some (Num n)) (sym a.store) e;
  of_card = λ i n e. subst (λ u. slice_get (object_at u.objects card).cells i ≡ Some (Num n)) (sym a.store) e;
}

pub nodes_at : (x : CodeT ℕ) (fs : List (FunctionT ℕ)) → AllOf (IsFunction IsTemporary x) fs → (h : ℕ) → (m : ℕ) × AreNodes x m [] (get_or fs h no_function).body
nodes_at x [] a h = (0, tt)
nodes_at x (f ∷ fs) a zero = (length f.locals, a.0.nodes)
nodes_at x (f ∷ fs) a (suc h) = nodes_at x fs a.1 h

swept_at : (fs : List (FunctionT ℕ)) (h : ℕ) → get_or (map swept_function fs) h no_function ≡ swept_function (get_or fs h no_function)
swept_at [] h = refl
swept_at (f ∷ fs) zero = refl
swept_at (f ∷ fs) (suc h) = swept_at fs h

module _ (x : CodeT ℕ) (mid : IsMid x) (frames : List ℕ) where
  abbrev y : CodeT ℕ
  y = swept_code x

  abbrev PP : Pass (over_worlds temporaries x frames) (over_worlds temporaries y frames)
  PP = sweeping x y frames

  functions : (h : ℕ) → function_at y h ≡ swept_function (function_at x h)
  functions = swept_at x.functions

  sizes : sizes_of y frames ≡ sizes_of x frames
  sizes =
      let fs = functions in
      λ i. record { frame = λ h. get_or frames h 0; locals = λ h. (fs h i).locals; globals = sum x.globals; first_literal = length x.globals; card = length x.globals + length x.literals }

  body_like : (h : ℕ) → Like PP (Some h) [] (opened x (Some h)) (function_at x h).body (function_at y h).body none_live
  body_like h =
      let n = nodes_at x x.functions mid.functions h in
      subst (λ f. Like PP (Some h) [] (opened x (Some h)) (function_at x h).body f.body none_live) (sym (functions h)) (like x y frames n.0 (function_at x h).temps (Some h) no_labels (function_at x h).body none_live n.1)

  start_like : Like PP None [] (opened x None) x.start.body y.start.body none_live
  start_like = like x y frames (length x.start.locals) x.start.temps None no_labels x.start.body none_live mid.start.function.nodes

  program : Program temporaries temporaries x y frames frames PP
  program = record {
    keeps = keeps x y frames sizes (λ h. ap (λ f. f.params) (functions h)) body_like;
    ev = λ s. refl;
    ev' = λ t. refl;
    globals = refl;
    literals = refl;
    main = refl;
    begun = None;
    of_start = refl;
    start = start_like;
    opening = λ answers card is. record { worlds = record { store = refl; events = refl; work = omega arith }; given = refl; cells = λ r n. refl };
    goes = λ s t A. A;
    call = (refl, refl, tt, λ r h n. n);
    ended = λ s t a. worlds_ended (length x.globals) (length x.globals + length x.literals) s.world t.world a;
    out = λ s t a. worlds_ended (length x.globals) (length x.globals + length x.literals) s.world t.world a;
    deep = λ s t a. record { events = a.events; work = a.work };
  }

  pub swept_keeps : KeepsRuns (mid_runs x frames) (mid_runs y frames)
  swept_keeps = program_keeps temporaries temporaries x y frames frames PP program

  pub swept_works : WorksAtMost 1 (mid_runs x frames) (mid_runs y frames)
  swept_works = program_works temporaries temporaries x y frames frames PP program
