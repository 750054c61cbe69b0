use Rattle.std.proofs.Common.{rules, ◌≡◌, ◌+◌, length, replicate, subst, sym}
use Rattle.reg_choose.specs.inner.Holding.{slots_in, Stands}
use Rattle.reg_choose.proofs.Planned.{slots_few, none_stands}
use Rattle.reg_choose.proofs.safe.no_holders.Goals as goal

pub returns : goal.returns
returns c =
    let ws = c.args.at.now in
    let m = c.saturating_add.result in
    let few = slots_few ws in
    let count = c.requires.slots in
    let long : m ≡ length (slots_in ws) + 11 = search rules in
    let e : c.resize.new.self.items ≡ replicate m 0 = search rules in
    subst (Stands ws c.args.s.now) (sym e) (none_stands ws c.args.s.now m c.requires.chosen c.requires.wide c.requires.nothing long)
