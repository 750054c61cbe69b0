use Rattle.std.proofs.Common.{length, map, []}
use Rattle.c_tree.specs.View.{item}
use Rattle.c_parse.specs.Tok.{toks}
use Rattle.c_parse.specs.inner.View.{context}
use Rattle.c_parse.specs.inner.Reader.{loop}
use Rattle.c_parse.specs.inner.ReadingUnits.{item_turn}
use Rattle.c_parse.proofs.Loops.{Goes}
use Rattle.c_parse.proofs.unit.read_unit.Given as goal

abbrev pub invariant-items : goal.invariant-items
invariant-items l = Goes (item_turn l.room) (context l.scope, map item l.found.items) (toks l.rest) (loop (item_turn l.room) (record { total = length (toks l.tokens); types = [] }, []) (toks l.tokens))

abbrev pub decreases-items : goal.decreases-items
decreases-items l = length (toks l.rest)
