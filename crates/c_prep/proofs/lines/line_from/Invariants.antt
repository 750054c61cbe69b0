use Rattle.std.proofs.Common.{◌≡◌, ◌≤◌, ◌∷◌, ◌++◌, length}
use Rattle.c_prep.specs.Lines.{IsLine}
use Rattle.c_prep.proofs.lines.line_from.Given as goal

abbrev pub invariant-each : goal.invariant-each
invariant-each l = record {
  parts : l.fn.first ∷ l.fn.tokens ≡ l.line.items ++ l.tokens;
  is_line : IsLine l.line.items;
  less : length l.tokens ≤ length l.fn.tokens;
}

abbrev pub decreases-each : goal.decreases-each
decreases-each l = length l.tokens
