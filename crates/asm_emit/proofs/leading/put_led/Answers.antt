use Rattle.std.proofs.Common.{rules, ◌≡◌, Some, map}
use Rattle.mid_code.specs.Functions.{node, listed}
use Rattle.asm_emit.specs.inner.Listed.{left_behind}
use Rattle.asm_emit.specs.inner.View.{frame, whole}
use Rattle.asm_emit.proofs.Fronts.{led_all}
use Rattle.asm_emit.proofs.leading.put_led.Goals as goal

pub returns-in_ok-put_words-in-Some : goal.returns-in_ok-put_words-in-Some
returns-in_ok-put_words-in-Some c =
    let left : left_behind c.args.o.now c.args.count ≡ Some c.in-Some.n = search rules in
    led_all (whole c.args.w.now) (frame c.args.s.now) c.args.y c.args.asked c.args.o.now (listed (map node c.args.rest.now)) c.args.count c.in-Some.n c.args.out.now.items c.put_here.new.out.items c.put_words.new.out.items c.in_ok-n.ensures.items left c.in_ok-put_words-in-Some.ensures
