use Rattle.std.proofs.Common.{arith, ◌≡◌, ◌<◌, length, ◌*◌, ◌/◌, ◌%◌, ◌^◌, get_or, set, bit_or, ap, ◌∙◌}
use Rattle.std.proofs.lemmas.List.{get_or_default}
use Rattle.mid_live.specs.Sets.{on}
use Rattle.mid_live.proofs.Bits.{put_is}
use Rattle.mid_live.proofs.words.put_bit.Goals as goal

pub returns-then-x-len-clause-is : goal.returns-then-x-len-clause-is
returns-then-x-len-clause-is c = λ y h.
    let ws = c.args.ws.now.items in
    let x = c.args.x in
    let inside : x / 64 < length ws = (let a = c.if-x-len.true in let b = c.len.ensures in omega (arith, a, b)) in
    let r : c.index.result.now ≡ get_or ws (x / 64) 0 = c.index.ensures ∙ get_or_default ws (x / 64) c.index.result.now 0 inside in
    ap (λ z. on (set ws (x / 64) (bit_or z (1 * 2 ^ (x % 64) % 2 ^ 64))) y) r ∙ put_is ws x y inside
