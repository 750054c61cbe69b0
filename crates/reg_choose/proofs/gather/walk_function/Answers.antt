use Rattle.std.proofs.Common.{rules, arith, ◌≡◌, false, ap, ◌∙◌}
use Rattle.mid_code.specs.Functions.{nodes, function}
use Rattle.mid_live.specs.Sets.{on}
use Rattle.reg_choose.specs.inner.Trails.{crossing, no_trail, trail_at}
use Rattle.reg_choose.specs.inner.Seen.{seen}
use Rattle.reg_choose.proofs.Gathered.{function_seen}
use Rattle.reg_choose.proofs.gather.walk_function.Goals as goal

pub returns-clause-is : goal.returns-clause-is
returns-clause-is c = λ y h.
    let f = function c.args.f.now in
    let b = nodes c.as_slice-3.result.now in
    let body : b ≡ f.body = search rules in
    let params : c.as_slice-4.result.now ≡ f.params = search rules in
    let cs = c.walk_body.new.sets.crossed in
    let start : seen c.args.trails.now c.in_ok-crossed.crossed y ≡ no_trail = ap (λ z. crossing z (trail_at c.args.trails.now y)) (c.in_ok-crossed.ensures.is y) ∙ ap (crossing false) (c.requires.empty y) in
    let m = c.in_ok-walk_body.ensures.trails_len in
    let l = c.stand_all.ensures.len in
    let stands = c.stand_all.ensures.is y (omega (arith, h, m)) in
    let told : trail_at c.tell_crossing.new.trails y ≡ crossing (on cs y) (trail_at c.stand_all.new.trails y) = c.tell_crossing.ensures.is y (omega (arith, h, m, l)) in
    function_seen f y (on cs y) b c.as_slice-4.result.now (seen c.args.trails.now c.in_ok-crossed.crossed y) (trail_at c.walk_body.new.trails y) (trail_at c.stand_all.new.trails y) (trail_at c.tell_crossing.new.trails y) body params start (c.in_ok-walk_body.ensures.is y h) stands told
