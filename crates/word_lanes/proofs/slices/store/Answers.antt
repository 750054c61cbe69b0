use Rattle.std.proofs.Common.{inl, inr, arith}
use Rattle.std.proofs.lemmas.Simd.{get_or-put_chunk_at, get_or-put_chunk_below, get_or-put_chunk_above}
use Rattle.word_lanes.proofs.slices.store.Goals as goal

pub returns-clause-each : goal.returns-clause-each
returns-clause-each c j h = get_or-put_chunk_at c.args.at c.args.words.now c.args.eight j 0 (omega arith) (omega arith)

pub returns-clause-outside : goal.returns-clause-outside
returns-clause-outside c k h = elim h [
  | inl below ↦ get_or-put_chunk_below c.args.at c.args.words.now c.args.eight k 0 below
  | inr above ↦ get_or-put_chunk_above c.args.at c.args.words.now c.args.eight k 0 (omega arith)
]
