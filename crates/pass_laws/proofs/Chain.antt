-- The promises of the passes meet: words that are made of a program by all of them do what it means.
use Rattle.std.proofs.Common.{◌≡◌, ℕ, ◌≤◌, ◌+◌, ◌*◌, List, length, map, sum_by, sym, ap, subst, ◌∙◌, arith}
use Rattle.c_types.specs.Programs.{ProgramT}
use Rattle.c_types.specs.Programs.{TFunctionT}
use Rattle.c_types.specs.Nodes.{program_nodes}
use Rattle.c_meaning.specs.Setting.{Setting}
use Rattle.c_meaning.specs.Runs.{c_runs}
use Rattle.obj_mem.specs.Runs.{Meaning}
use Rattle.assembler.specs.Placed as asm
use Rattle.assembler.specs.Labels.{address_in}
use Rattle.assembler.specs.Sizes.{total_size}
use Rattle.assembler.proofs.Standing.{words_length}
use Rattle.asm_items.specs.declared.item.AsmItem.{AsmItem}
use Rattle.mid_code.specs.declared.placed.Where.{Where}
use Rattle.mid_code.specs.Code.{FunctionT, CodeT}
use Rattle.mid_code.specs.Calls.{loops, CallsTo, AddsNone}
use Rattle.mid_code.specs.Placed.{PlacedT}
use Rattle.mid_code.specs.Runs.{mid_runs, placed_runs}
use Rattle.mid_code.specs.Keeps.{KeepsRuns, WorksAtMost}
use Rattle.mid_code.specs.Agrees.{AgreesWithin}
use Rattle.mid_code.proofs.Keeping.{keeps_through}
use Rattle.mid_code.proofs.Agreeing.{within_through, works_through}
use Rattle.mid_lower.specs.LoweredFrom.{IsLoweredFunction, IsLoweredFrom}
use Rattle.mid_lower.specs.SourceLoops.{HasNoLoops, TreeCalls}
use Rattle.mid_replace.specs.ReplacedFrom.{IsReplacedFrom}
use Rattle.mid_improve.specs.MadeFrom.{IsSettledFrom}
use Rattle.reg_frames.specs.PlacedFrom.{IsPlacedFrom}
use Rattle.asm_emit.specs.EmittedFrom.{IsEmitted, literal_words}
use Rattle.asm_laws.specs.Tables.{addresses}

module _ (p : ProgramT) (m r settled : CodeT ℕ) (cs : List (List Where)) (x : PlacedT) (names : List (List ℕ)) (items : List AsmItem)
    (l : IsLoweredFrom p m) (w : IsReplacedFrom m r) (o : IsSettledFrom r settled) (c : IsPlacedFrom settled cs x) (e : IsEmitted x names items) where
  abbrev source : Meaning
  source = c_runs p x.frames

  replaced_keeps : KeepsRuns source (mid_runs r x.frames)
  replaced_keeps = keeps_through source (mid_runs m x.frames) (mid_runs r x.frames) (l.keeps x.frames) (w.keeps x.frames)

  replaced_works : WorksAtMost 64 source (mid_runs r x.frames)
  replaced_works = works_through 64 source (mid_runs m x.frames) (mid_runs r x.frames) (l.keeps x.frames) (l.works x.frames) (w.works x.frames)

  pub settled_keeps : KeepsRuns source (mid_runs settled x.frames)
  settled_keeps = keeps_through source (mid_runs r x.frames) (mid_runs settled x.frames) replaced_keeps (o.made.keeps x.frames)

  settled_works : WorksAtMost 64 source (mid_runs settled x.frames)
  settled_works = works_through 64 source (mid_runs r x.frames) (mid_runs settled x.frames) replaced_keeps replaced_works (o.made.works x.frames)

  pub keeps : KeepsRuns source (placed_runs x)
  keeps = keeps_through source (mid_runs settled x.frames) (placed_runs x) settled_keeps c.keeps

  pub works : WorksAtMost 64 source (placed_runs x)
  works = works_through 64 source (mid_runs settled x.frames) (placed_runs x) settled_keeps settled_works c.works

  same_globals : x.code.globals ≡ map (λ g. g.1) p.globals
  same_globals = c.globals ∙ o.made.globals ∙ w.globals ∙ l.globals

  pub agrees : (words : List ℕ) (labels : List (List ℕ × ℕ)) → asm.Placed items words labels → AgreesWithin 64 (addresses 0 (map (λ g. g.1) p.globals)) source words
  agrees words labels stands =
      subst (λ globals. AgreesWithin 64 (addresses 0 globals) source words) same_globals
      (within_through 64 (addresses 0 x.code.globals) source (placed_runs x) words keeps works (e.agrees words labels stands))

  -- the words do what settled code means
  pub follows : (words : List ℕ) (labels : List (List ℕ × ℕ)) → asm.Placed items words labels → AgreesWithin 1 (addresses 0 (map (λ g. g.1) p.globals)) (mid_runs settled x.frames) words
  follows words labels stands =
      subst (λ globals. AgreesWithin 1 (addresses 0 globals) (mid_runs settled x.frames) words) same_globals
      (within_through 1 (addresses 0 x.code.globals) (mid_runs settled x.frames) (placed_runs x) words c.keeps c.works (e.agrees words labels stands))

  same_literals : x.code.literals ≡ p.literals
  same_literals = c.literals ∙ o.made.literals ∙ w.literals ∙ l.literals

  placed_small : total_size items ≤ 128 * program_nodes p + literal_words x + 64
  placed_small = omega (arith, e.small, c.weighs, o.made.weighs, w.weighs, l.weighs)

  pub items_small : total_size items ≤ 128 * program_nodes p + sum_by (λ text. length text + 1) p.literals + 64
  items_small = subst (λ (texts : List (List ℕ)). total_size items ≤ 128 * program_nodes p + sum_by (λ text. length text + 1) texts + 64) same_literals placed_small

  pub small : (words : List ℕ) (labels : List (List ℕ × ℕ)) → asm.Placed items words labels → length words ≤ 128 * program_nodes p + sum_by (λ text. length text + 1) p.literals + 64
  small words labels stands =
      let count : length words ≡ total_size items = ap length stands.words_are ∙ words_length (address_in labels) items in
      subst (λ (n : ℕ). n ≤ 128 * program_nodes p + sum_by (λ text. length text + 1) p.literals + 64) (sym count) items_small

-- A function without loops has none in placed code, and calls there only what its tree calls.
pub straight : {P Q : Type 0} (s : Setting) (f : TFunctionT) (g : FunctionT ℕ) (h : FunctionT P) (k : FunctionT Q)
    → IsLoweredFunction s f g → AddsNone g.body h.body → AddsNone h.body k.body → HasNoLoops s f
    → (loops k.body ≡ 0) × ((n : ℕ) → CallsTo n k.body → TreeCalls n f)
straight s f g h k a b c none =
    (omega (arith, c.loop_count, b.loop_count, (a.straight none).loop_count), λ n calls. (a.straight none).calls n (b.calls n (c.calls n calls)))
