-- What `lower` promises: mid code of a typed program.
use Rattle.std.specs.Prelude.{ℕ, ◌≡◌, ◌≤◌, ◌+◌, ◌*◌, List, [], ◌∷◌, map, length, sum}
use Rattle.c_types.specs.View.{tstmts}
use Rattle.c_types.specs.Nodes.{program_nodes}
use Rattle.c_types.specs.Programs.{TFunctionT, ProgramT}
use Rattle.c_meaning.specs.Setting.{Setting, setting}
use Rattle.c_meaning.specs.Runs.{c_runs}
use Rattle.c_meaning.specs.Frames.{over_statements, expressions, structure_words, LargeAtOnce}
use Rattle.mid_code.specs.Code.{FunctionT, CodeT}
use Rattle.mid_code.specs.Runs.{mid_runs, weight}
use Rattle.mid_code.specs.Keeps.{KeepsRuns, WorksAtMost}
use Rattle.mid_code.specs.Invariants.{IsMid}
use Rattle.mid_code.specs.Calls.{loops, nesting, CallsTo}
use Rattle.mid_code.specs.Together.{WordsAtOnce}
use Rattle.mid_lower.specs.Levels.{statements_levels}
use Rattle.mid_lower.specs.SourceLoops.{HasNoLoops, TreeCalls}

-- A function without loops has none in mid code, and calls only what its tree calls.
pub record StaysStraight (f : TFunctionT) (g : FunctionT ℕ) : Type 0 where
  pub loop_count : loops g.body ≡ 0
  pub calls : (h : ℕ) → CallsTo h g.body → TreeCalls h f

pub record IsLoweredFunction (s : Setting) (f : TFunctionT) (g : FunctionT ℕ) : Type 0 where
  -- at most the words of its objects, and those of its expressions that are structures or unions
  pub local_words : sum g.locals ≤ sum f.locals + structure_words s f
  -- arrays, structures and unions that live at once are locals that live at once
  pub together : (sizes : List ℕ) → LargeAtOnce f sizes → WordsAtOnce g sizes
  pub temporaries : g.temps ≤ 2 * expressions f + length f.params + 16
  pub straight : HasNoLoops s f → StaysStraight f g
  pub nests : nesting g.body ≤ 16 * (statements_levels f.body + 1)

abbrev pub EachLowered : Setting → List TFunctionT → List (FunctionT ℕ) → Type 0
EachLowered s [] [] = Unit {0}
EachLowered s (f ∷ fs) (g ∷ gs) = IsLoweredFunction s f g × EachLowered s fs gs
EachLowered s _ _ = ⊥

pub record IsLoweredFrom (p : ProgramT) (m : CodeT ℕ) : Type 0 where
  -- the start has no parameters, locals, result or calls
  pub is_mid : IsMid m
  pub keeps : (frames : List ℕ) → KeepsRuns (c_runs p frames) (mid_runs m frames)
  pub works : (frames : List ℕ) → WorksAtMost 64 (c_runs p frames) (mid_runs m frames)
  pub weighs : weight m ≤ 128 * program_nodes p
  pub functions : EachLowered (setting p []) p.functions m.functions
  pub start_temporaries : m.start.temps ≤ 2 * over_statements (λ kind ty. 1) (tstmts p.inits) + 16
  pub start_nests : nesting m.start.body ≤ 16 * (statements_levels (tstmts p.inits) + 1)
  pub globals : m.globals ≡ map (λ g. g.1) p.globals
  pub literals : m.literals ≡ p.literals
  pub main : m.main ≡ p.main
