use Rattle.std.proofs.Common.{rules, arith, ◌≡◌, ◌+◌, ◌&&◌, ap, ◌∙◌}
use Rattle.mid_code.specs.Functions.{nodes}
use Rattle.mid_code.specs.Spans.{places}
use Rattle.mid_live.specs.Sets.{on}
use Rattle.mid_live.specs.Labels.{labels_of}
use Rattle.reg_choose.specs.inner.Sparse.{follows}
use Rattle.reg_choose.specs.inner.Seen.{seen}
use Rattle.reg_choose.proofs.Walked.{seen_stood}
use Rattle.reg_choose.proofs.Gathered.{body_seen}
use Rattle.reg_choose.proofs.gather.walk_body.Goals as goal

pub returns-clause-is : goal.returns-clause-is
returns-clause-is c = λ y h.
    let b = nodes c.args.ns.now in
    let w = c.in_ok-walk_nodes.ensures in
    let n = c.in_ok-walk_nodes.field-0 in
    let end : c.in_ok-end.end ≡ 1 + places b = search rules in
    let first : n ≡ 1 = (let p = w.place in omega (arith, p, end)) in
    let l = c.requires.sizes in
    let m = w.trails_len in
    let cs = c.walk_nodes.new.sets.crossed in
    let v = on c.in_ok-live.live y in
    let live : c.in_ok-live.live ≡ c.walk_nodes.new.sets.live = search rules in
    body_seen y (labels_of y c.outside.result) b (on c.args.sets.now.live y) v (follows b) n (seen c.args.trails.now c.args.sets.now.crossed y) (seen c.walk_nodes.new.trails cs y) (seen c.begin.new.trails cs y) (c.outside.ensures y) (c.requires.nothing y) first (ap (λ z. on z y) live ∙ w.live y (omega (arith, h, l))) (w.trails y h) (seen_stood c.walk_nodes.new.trails c.begin.new.trails cs y (v && follows b) 1 (c.in_ok-begin.ensures.is y (omega (arith, h, m))))
