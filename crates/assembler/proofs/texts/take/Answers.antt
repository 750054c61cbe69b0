use Rattle.std.proofs.Common.{arith}
use Rattle.assembler.proofs.Parted.{labels_done, labels_on, words_done, words_on}
use Rattle.assembler.proofs.texts.take.Goals as goal

pub each-preserved : goal.each-preserved
each-preserved c = record {
  words = words_on _ _ c.in-Some.item.now c.in-Some.ensures.cases.0 c.each.parts.words.items c.put_parts.new.parts.items c.in_ok-put_parts.ensures _ c.each.invariant.words;
  labels = labels_on _ _ c.in-Some.item.now c.in-Some.ensures.cases.0 c.each.parts.words.items c.put_parts.new.parts.items c.in_ok-put_parts.ensures
      c.each.parts.labels.items c.put_label.new.labels.items _ _ (let n = c.len.ensures in let few = c.each.invariant.few in omega (arith, n, few)) c.in_ok-put_label.ensures c.each.invariant.labels;
  few = let n = c.len-in-Some.ensures in let few = c.if-len-gt-MOST_WORDS.false in omega (arith, n, few);
}

pub returns : goal.returns
returns c = λ fits. record {
  words_are = words_done _ c.each.parts.words.items _ c.in_default.ensures.cases c.each.invariant.words;
  labels_are = labels_done _ _ c.each.parts.labels.items _ c.in_default.ensures.cases c.each.invariant.labels;
  few = c.each.invariant.few;
}
