use Rattle.std.proofs.Common.{rules, arith, ◌≡◌, ◌+◌, ◌*◌, ◌%◌, ◌^◌, ◌∷◌, [], ◌++◌, true, false}
use Rattle.mid_live.specs.inner.Words.{bit}
use Rattle.mid_live.proofs.Written.{bits_on, bits_over}
use Rattle.mid_live.proofs.words.push_bits.Goals as goal

pub bits-preserved-in-Continue-1 : goal.bits-preserved-in-Continue-1
bits-preserved-in-Continue-1 c =
    let at = c.args.at in
    let b = c.bits.b in
    let n = c.next_bit-b-in-bits.result in
    let next = c.next_bit-b-in-bits.ensures in
    let few = next.few in
    let below = c.bits-test.true in
    let is : bit c.args.w b ≡ true = search rules in
    let more : c.push.new.self.items ≡ c.bits.found.items ++ (64 * at + b) % 2 ^ 32 ∷ [] = search rules in
    (omega (arith, below, few), λ y. bits_on at c.args.w b n y c.args.found.now.items c.bits.found.items c.push.new.self.items c.requires.few below is more next.from next.none (c.bits.invariant.1 y))

pub bits-preserved : goal.bits-preserved
bits-preserved c =
    let b = c.bits.b in
    let n = c.next_bit-b-in-bits.result in
    let next = c.next_bit-b-in-bits.ensures in
    let few = next.few in
    let below = c.bits-test.true in
    let is : bit c.args.w b ≡ false = search rules in
    (omega (arith, below, few), λ y. bits_over c.args.at c.args.w b n y c.args.found.now.items c.bits.found.items below is next.from next.none (c.bits.invariant.1 y))
