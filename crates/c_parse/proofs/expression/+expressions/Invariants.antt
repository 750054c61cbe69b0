use Rattle.std.proofs.Common.{◌≡◌, ◌≤◌, length, map, ◌+◌, ◌-◌, ◌*◌, Ok}
use Rattle.c_tree.specs.View.{expr, exprs, type}
use Rattle.c_tree.specs.Depth.{expr_depth, exprs_depth, type_depth}
use Rattle.c_parse.specs.inner.Reader.{loop}
use Rattle.c_parse.specs.Tok.{toks}
use Rattle.c_parse.specs.inner.View.{context}
use Rattle.c_parse.specs.inner.Reading.{readers, operator_turn, suffix_turn, exprs_turn, type_mark_turn, level_at, postfix_with, exprs_with, type_read}
use Rattle.c_parse.proofs.Loops.{Goes}
use Rattle.c_parse.proofs.expression.+expressions.Given as goal

abbrev pub decreases-expression : goal.decreases-expression
decreases-expression l = 20 * l.room + 16

abbrev pub decreases-assigned : goal.decreases-assigned
decreases-assigned l = 20 * l.room + 1

abbrev pub decreases-level : goal.decreases-level
decreases-level l = 20 * l.room + 5

abbrev pub decreases-unary_expression : goal.decreases-unary_expression
decreases-unary_expression l = 20 * l.room + 4

abbrev pub decreases-cast_expression : goal.decreases-cast_expression
decreases-cast_expression l = 20 * l.room + 1

abbrev pub decreases-size_expression : goal.decreases-size_expression
decreases-size_expression l = 20 * l.room + 1

abbrev pub decreases-postfix : goal.decreases-postfix
decreases-postfix l = 20 * l.room + 3

abbrev pub decreases-suffixed : goal.decreases-suffixed
decreases-suffixed l = 20 * l.room + 2

abbrev pub decreases-indexed : goal.decreases-indexed
decreases-indexed l = 20 * l.room + 1

abbrev pub decreases-primary : goal.decreases-primary
decreases-primary l = 20 * l.room + 2

abbrev pub decreases-named : goal.decreases-named
decreases-named l = 20 * l.room + 1

abbrev pub decreases-parenthesised : goal.decreases-parenthesised
decreases-parenthesised l = 20 * l.room + 1

abbrev pub decreases-arguments : goal.decreases-arguments
decreases-arguments l = 20 * l.room + 17

abbrev pub decreases-type_tree : goal.decreases-type_tree
decreases-type_tree l = 20 * l.room + 2

abbrev pub decreases-run : goal.decreases-run
decreases-run l = 20 * l.room + 1

abbrev pub invariant-level-levels : goal.invariant-level-levels
invariant-level-levels l = record {
  below : l.reached ≤ l.k;
  gives : level_at (context l.scope) l.room l.reached (toks l.tokens) ≡ Ok (expr l.left, toks l.rest);
  depth : l.depth ≡ expr_depth (expr l.left);
  fits : l.depth ≤ l.room;
}

abbrev pub decreases-level-levels : goal.decreases-level-levels
decreases-level-levels l = l.k - l.reached

abbrev pub decreases-operators : goal.decreases-operators
decreases-operators l = 20 * l.room + 2

abbrev pub invariant-operators-operators : goal.invariant-operators-operators
invariant-operators-operators l = record {
  goes : Goes (operator_turn (context l.scope) (readers (context l.scope) (l.room - 1)) l.room l.k (toks l.begun.from.now)) (expr l.left) (toks l.rest)
      (loop (operator_turn (context l.scope) (readers (context l.scope) (l.room - 1)) l.room l.k (toks l.begun.from.now)) (expr l.fn.left) (toks l.begun.rest.now));
  depth : l.depth ≡ expr_depth (expr l.left);
  fits : l.depth ≤ l.room;
}

abbrev pub decreases-operators-operators : goal.decreases-operators-operators
decreases-operators-operators l = length (toks l.rest)

abbrev pub invariant-postfix-suffixes : goal.invariant-postfix-suffixes
invariant-postfix-suffixes l = record {
  goes : Goes (suffix_turn (context l.scope) (readers (context l.scope) (l.room - 1)) l.room (toks l.tokens)) (expr l.left) (toks l.rest) (postfix_with (context l.scope) (readers (context l.scope) (l.room - 1)) l.room (toks l.tokens));
  depth : l.depth ≡ expr_depth (expr l.left);
  fits : l.depth ≤ l.room;
}

abbrev pub decreases-postfix-suffixes : goal.decreases-postfix-suffixes
decreases-postfix-suffixes l = length (toks l.rest)

abbrev pub invariant-arguments-arguments : goal.invariant-arguments-arguments
invariant-arguments-arguments l = record {
  goes : Goes (exprs_turn (readers (context l.scope) l.room)) (map expr l.found.items) (toks l.rest) (exprs_with (readers (context l.scope) l.room) (toks l.tokens));
  depth : l.depth ≡ exprs_depth (exprs (map expr l.found.items));
  fits : l.depth ≤ l.room;
}

abbrev pub decreases-arguments-arguments : goal.decreases-arguments-arguments
decreases-arguments-arguments l = length (toks l.rest)

abbrev pub invariant-type_tree-marks : goal.invariant-type_tree-marks
invariant-type_tree-marks l = record {
  goes : Goes (type_mark_turn (readers (context l.scope) (l.room - 1)) l.room) (type l.ty) (toks l.rest) (type_read (context l.scope) l.room (toks l.tokens));
  depth : l.depth ≡ type_depth (type l.ty);
  fits : l.depth ≤ l.room;
}

abbrev pub decreases-type_tree-marks : goal.decreases-type_tree-marks
decreases-type_tree-marks l = length (toks l.rest)
