-- The lowered code of a sound program keeps its runs.
use Rattle.std.proofs.Common.{◌≡◌, ℕ, zero, suc, ◌≤◌, true, false, List, [], ◌∷◌, length, sum_by, slice_get, Option, Some, None, refl, subst, arith}
use Rattle.std.proofs.lemmas.List.Sums.{sum_by-cons}
use Rattle.c_types.specs.Types.{VoidY}
use Rattle.c_types.specs.Typed.{TStmtT, BlockZ, EmptyZ, VarsZ, DoZ, IfZ, WhileZ, DoWhileZ, ForZ, SwitchZ, ReturnZ, BreakZ, ContinueZ}
use Rattle.c_types.specs.View.{tstmts}
use Rattle.c_types.specs.Nodes.{statements_nodes, function_nodes, program_nodes}
use Rattle.c_types.specs.Programs.{TFunctionT, ProgramT}
use Rattle.c_rules.specs.Kinds.{holds}
use Rattle.c_check.specs.Reading.{same_types}
use Rattle.c_check.specs.Whole.{is_plain}
use Rattle.c_facts.specs.Sound.{Scene, FillGlobals, IsFunction, AreFunctions, scene, IsSound}
use Rattle.c_meaning.specs.Runs as c
use Rattle.mid_code.specs.Runs as mid
use Rattle.mid_code.specs.Keeps.{WorksAtMost, KeepsRuns}
use Rattle.lower_trees.specs.Shape.{shape}
use Rattle.lower_trees.specs.Counts.{vars_sizes, stmts_sizes}
use Rattle.c_types.specs.Kinds.{is_void}
use Rattle.lower_trees.specs.Lowered.{lowered}
use Rattle.mid_lower.proofs.Trees.{Below, PlainStmts}
use Rattle.mid_lower.proofs.Operands.{both_second}
use Rattle.mid_lower.proofs.SoundInitialisers.{vars_plain}
use Rattle.mid_lower.proofs.FixedGlobals.{vars_quiet, both_quiet}
use Rattle.mid_lower.proofs.SoundPrograms.{objects_below, stmts_plain}
use Rattle.mid_lower.proofs.PlainPrograms.{IsPlain}
use Rattle.mid_lower.proofs.RunsKept as runs

function_at : (z : Scene) (fs : List TFunctionT) → AreFunctions z fs → (k : ℕ) (g : TFunctionT) → slice_get fs k ≡ Some g → IsFunction z g
function_at z [] is k g e = absurd cc
function_at z (f ∷ fs) is zero g e = let same : f ≡ g = cc in subst (IsFunction z) same is.0
function_at z (f ∷ fs) is (suc k) g e = function_at z fs is.1 k g e

nodes_at : (fs : List TFunctionT) (k : ℕ) (g : TFunctionT) → slice_get fs k ≡ Some g → statements_nodes g.body ≤ sum_by function_nodes fs
nodes_at [] k g e = absurd cc
nodes_at (f ∷ fs) zero g e =
    let same : f ≡ g = cc in
    let all = sum_by-cons function_nodes f fs in
    subst (λ q. statements_nodes q.body ≤ sum_by function_nodes (f ∷ fs)) same (omega (arith, all))
nodes_at (f ∷ fs) (suc k) g e = let all = sum_by-cons function_nodes f fs in let l = nodes_at fs k g e in omega (arith, all, l)

main_at : (o : Option TFunctionT) → holds is_plain o ≡ true → (g : TFunctionT) × (o ≡ Some g) × (is_void g.gives ≡ true)
main_at None e = absurd cc
main_at (Some g) e = (g, refl, both_second (same_types g.params []) (is_void g.gives) e)

module _ (p : ProgramT) (sound : IsSound p) (few : program_nodes p ≤ 200000) where
  body_plain : (f : ℕ) (g : TFunctionT) → slice_get p.functions f ≡ Some g → PlainStmts (shape p) (length g.locals) g.gives g.body
  body_plain f g e =
      let is = function_at (scene p) p.functions sound.functions f g e in
      let nodes = nodes_at p.functions f g e in
      stmts_plain p sound.layouts sound.literals g.locals g.gives g.body false false is.body (omega (arith, nodes, few))

  made_below : (f : ℕ) (g : TFunctionT) → slice_get p.functions f ≡ Some g → Below (length g.locals) g.made
  made_below f g e =
      let is = function_at (scene p) p.functions sound.functions f g e in
      objects_below p sound.layouts sound.literals g.locals g.gives 0 g.made is.rising

  inits_plain : (xs : List TStmtT) → FillGlobals (scene p) xs → PlainStmts (shape p) 0 VoidY (tstmts xs)
  inits_plain [] is = tt
  inits_plain (VarsZ vars ∷ xs) is = (vars_plain p sound.layouts sound.literals [] true vars is.0, inits_plain xs is.1)
  inits_plain (BlockZ made body ∷ xs) is = absurd is.0
  inits_plain (EmptyZ ∷ xs) is = absurd is.0
  inits_plain (DoZ x ∷ xs) is = absurd is.0
  inits_plain (IfZ x a b ∷ xs) is = absurd is.0
  inits_plain (WhileZ x a ∷ xs) is = absurd is.0
  inits_plain (DoWhileZ a x ∷ xs) is = absurd is.0
  inits_plain (ForZ made first test step a ∷ xs) is = absurd is.0
  inits_plain (SwitchZ x made arms ∷ xs) is = absurd is.0
  inits_plain (ReturnZ x ∷ xs) is = absurd is.0
  inits_plain (BreakZ ∷ xs) is = absurd is.0
  inits_plain (ContinueZ ∷ xs) is = absurd is.0

  inits_quiet : (xs : List TStmtT) → FillGlobals (scene p) xs → stmts_sizes (shape p) (tstmts xs) ≡ []
  inits_quiet [] is = refl
  inits_quiet (VarsZ vars ∷ xs) is = both_quiet (vars_sizes (shape p) vars) (stmts_sizes (shape p) (tstmts xs)) (vars_quiet (shape p) (scene p) vars is.0) (inits_quiet xs is.1)
  inits_quiet (BlockZ made body ∷ xs) is = absurd is.0
  inits_quiet (EmptyZ ∷ xs) is = absurd is.0
  inits_quiet (DoZ x ∷ xs) is = absurd is.0
  inits_quiet (IfZ x a b ∷ xs) is = absurd is.0
  inits_quiet (WhileZ x a ∷ xs) is = absurd is.0
  inits_quiet (DoWhileZ a x ∷ xs) is = absurd is.0
  inits_quiet (ForZ made first test step a ∷ xs) is = absurd is.0
  inits_quiet (SwitchZ x made arms ∷ xs) is = absurd is.0
  inits_quiet (ReturnZ x ∷ xs) is = absurd is.0
  inits_quiet (BreakZ ∷ xs) is = absurd is.0
  inits_quiet (ContinueZ ∷ xs) is = absurd is.0

  sound_plain : IsPlain p
  sound_plain = record {
    made = made_below;
    tidy = body_plain;
    inits = inits_plain p.inits sound.inits;
    quiet = inits_quiet p.inits sound.inits;
    main = main_at (slice_get p.functions p.main) sound.main;
  }

  -- for every list of frames
  pub keeps : (frames : List ℕ) → KeepsRuns (c.c_runs p frames) (mid.mid_runs (lowered p) frames)
  keeps frames = runs.keeps p frames sound_plain

  pub works : (frames : List ℕ) → WorksAtMost 64 (c.c_runs p frames) (mid.mid_runs (lowered p) frames)
  works frames = runs.works p frames sound_plain
