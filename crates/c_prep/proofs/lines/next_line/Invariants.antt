use Rattle.std.proofs.Common.{◌≡◌, ◌≤◌, ℕ, List, length}
use Rattle.c_prep.specs.declared.conditions.Condition.{Condition}
use Rattle.c_prep.specs.Conditions.{skips}
use Rattle.c_prep.specs.Lines.{lines_of}
use Rattle.c_prep.specs.Files.{Including, Progress, lines_at}
use Rattle.c_prep.specs.inner.Inner.{ArePlaced}
use Rattle.c_prep.proofs.lines.next_line.Given as goal

abbrev pub invariant-each : goal.invariant-each
invariant-each l = record {
  same : (include : Including) (p : Progress) (cs : List Condition) → skips cs ≡ l.skipped → lines_at include (lines_of l.fn.tokens) p cs ≡ lines_at include (lines_of l.tokens) p cs;
  placed : (n : ℕ) → ArePlaced n l.fn.tokens → ArePlaced n l.tokens;
  less : length l.tokens ≤ length l.fn.tokens;
}

abbrev pub decreases-each : goal.decreases-each
decreases-each l = length l.tokens
