use Rattle.std.proofs.Common.{[]}
use Rattle.assembler.proofs.Walking.{labels_on, labels_done, room}
use Rattle.assembler.proofs.placement.labels_of.Goals as goal

pub each-preserved : goal.each-preserved
each-preserved c = record {
  fits = room _ _ c.in-Some.item.now c.each.address c.item_size.result [] [] [] c.in-Some.ensures.cases.0 c.item_size.ensures.value c.each.invariant.fits;
  labels = labels_on _ _ c.in-Some.item.now c.each.address c.item_size.result c.each.labels.items c.put_label.new.labels.items _ c.in-Some.ensures.cases.0 c.item_size.ensures.value c.in_ok-put_label.ensures c.each.invariant.labels;
}

pub returns : goal.returns
returns c = labels_done _ c.each.address _ _ c.in_default.ensures.cases c.each.invariant.labels
