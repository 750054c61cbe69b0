-- What words do that are made of a program by all passes.
use Rattle.std.specs.Prelude.{◌≡◌, ℕ, ◌≤◌, ◌+◌, ◌*◌, List, [], length, map, sum_by}
use Rattle.c_types.specs.Programs.{ProgramT, TFunctionT}
use Rattle.c_types.specs.Nodes.{program_nodes}
use Rattle.c_meaning.specs.Setting.{Setting, setting}
use Rattle.c_meaning.specs.Runs.{c_runs}
use Rattle.c_meaning.specs.Frames.{EachFits}
use Rattle.assembler.specs.Placed as asm
use Rattle.assembler.specs.Sizes.{total_size}
use Rattle.asm_items.specs.declared.item.AsmItem.{AsmItem}
use Rattle.mid_code.specs.declared.placed.Where.{Where}
use Rattle.mid_code.specs.Code.{FunctionT, CodeT}
use Rattle.mid_code.specs.Calls.{loops, CallsTo, AddsNone}
use Rattle.mid_code.specs.Choices.{AreSafe}
use Rattle.mid_code.specs.Placed.{PlacedT}
use Rattle.mid_code.specs.Agrees.{AgreesWithin}
use Rattle.mid_code.specs.Keeps.{KeepsRuns}
use Rattle.mid_code.specs.Runs.{mid_runs}
use Rattle.mid_lower.specs.LoweredFrom.{IsLoweredFunction, IsLoweredFrom}
use Rattle.mid_lower.specs.SourceLoops.{HasNoLoops, TreeCalls}
use Rattle.mid_replace.specs.ReplacedFrom.{IsReplacedFrom}
use Rattle.mid_improve.specs.MadeFrom.{IsSettledFrom}
use Rattle.reg_frames.specs.PlacedFrom.{IsPlacedFrom}
use Rattle.asm_laws.specs.Tables.{addresses}
use Rattle.asm_emit.specs.EmittedFrom.{IsEmitted}

-- What words of a program do, with frames of these sizes and the globals at these addresses.
pub record DoesAsMeant (p : ProgramT) (frames globals words : List ℕ) : Type 0 where
  -- for every bound, answers of ports and memory card they do what the program means, in at most 64 times its work and 64 instructions where it does
  -- not stray
  pub agrees : AgreesWithin 64 globals (c_runs p frames) words
  -- frames are large enough, and not larger than they may be
  pub fits : EachFits (setting p []) p.functions frames
  -- the words are few
  pub small : length words ≤ 128 * program_nodes p + sum_by (λ text. length text + 1) p.literals + 64

-- Items of a program, by way of settled code and of code whose frames have these sizes, each global at the sum of the sizes before it.
pub record KeepsMeaning (p : ProgramT) (settled : CodeT ℕ) (x : PlacedT) (items : List AsmItem) : Type 0 where
  -- the settled code has the program's runs
  pub keeps : KeepsRuns (c_runs p x.frames) (mid_runs settled x.frames)
  -- the words that the items are placed as do what it means, in at most as many steps as its work, and 64, and so what the program means
  pub follows : (words : List ℕ) (labels : List (List ℕ × ℕ)) → asm.Placed items words labels
      → AgreesWithin 1 (addresses 0 (map (λ g. g.1) p.globals)) (mid_runs settled x.frames) words
  pub does : (words : List ℕ) (labels : List (List ℕ × ℕ)) → asm.Placed items words labels
      → DoesAsMeant p x.frames (addresses 0 (map (λ g. g.1) p.globals)) words
  -- frames fit and words are few also before the items are placed
  pub fits : EachFits (setting p []) p.functions x.frames
  pub small : total_size items ≤ 128 * program_nodes p + sum_by (λ text. length text + 1) p.literals + 64

abbrev pub PassesMeet : Type 0
PassesMeet =
    (p : ProgramT) (m r settled : CodeT ℕ) (cs : List (List Where)) (x : PlacedT) (names : List (List ℕ)) (items : List AsmItem)
    → IsLoweredFrom p m → IsReplacedFrom m r → IsSettledFrom r settled → AreSafe settled cs → IsPlacedFrom settled cs x
    → IsEmitted x names items → KeepsMeaning p settled x items

-- a function in the tree, lowered, settled, and placed
abbrev pub StraightStays : Type 0
StraightStays =
    (s : Setting) (f : TFunctionT) (g h : FunctionT ℕ) (k : FunctionT Where)
    → IsLoweredFunction s f g → AddsNone g.body h.body → AddsNone h.body k.body → HasNoLoops s f
    → (loops k.body ≡ 0) × ((n : ℕ) → CallsTo n k.body → TreeCalls n f)
