use Rattle.std.proofs.Common.{◌≡◌, inl, inr, ℕ, ◌<◌, ◌≤◌, ◌++◌, arith, sym, ◌∙◌, get_or, length, take, drop, Option, Some, None, List}
use Rattle.std.specs.Prelude.{map}
use Rattle.std.proofs.lemmas.Bool.{cases_lt}
use Rattle.std.proofs.lemmas.List.Sums.{sum_by_more}
use Rattle.std.proofs.lemmas.List.Edits.{map_over_more}
use Rattle.spu_mix.specs.Sides.{left_at, right_at}
use Rattle.spu_mix.specs.Mixing.{left_of, right_of, channel_after, samples_of, channel_position}
use Rattle.spu_mix.specs.Channels.{assigned, first_channel}
use Rattle.spu_mix.specs.declared.channel.Channel.{Channel}
use Rattle.std.proofs.lemmas.Grind.{common_steps, elements}
use Rattle.std.proofs.lemmas.List.{get_or_default, get_or_past}
use Rattle.spu_mix.proofs.mixing.add_channels.Goals as goal

left_small : (samples : List ℕ) (o : Option ℕ) → left_at samples o ≤ 65535
left_small samples None = omega arith
left_small samples (Some q) = omega arith

right_small : (samples : List ℕ) (o : Option ℕ) → right_at samples o ≤ 65535
right_small samples None = omega arith
right_small samples (Some q) = omega arith

untouched : (f : Channel → Channel) (xs ys : List Channel) (i : ℕ) (d : Channel) → i < length xs → ys ≡ map f (take i xs) ++ drop i xs → get_or ys i d ≡ get_or xs i d
untouched f xs ys i d h e = rw e (grind (arith, common_steps, elements))

pub loop-i-preserved : goal.loop-i-preserved
loop-i-preserved c =
    let v = c.loop-i.invariant in
    let a = c.add_channel.ensures in
    let d : Channel = first_channel in
    let xs : List Channel = c.args.channels.now in
    let i : ℕ = c.loop-i.i in
    let within : i < length xs = omega arith in
    let in_now : i < length c.loop-i.channels = omega arith in
    let same : get_or c.loop-i.channels i d ≡ get_or xs i d = untouched (channel_after c.args.sounds.now 735) xs c.loop-i.channels i d within v.channels in
    record {
      left = λ k h. a.left k h ∙ rw (v.left k h, same) (sym (sum_by_more (left_of c.args.sounds.now k) xs i d within));
      right = λ k h. a.right k h ∙ rw (v.right k h, same) (sym (sum_by_more (right_of c.args.sounds.now k) xs i d within));
      small = λ k. elim (cases_lt k 735) [
        | inl h ↦ (
          omega (arith, a.left k h, v.small k, left_small (samples_of (assigned c.args.sounds.now (get_or c.loop-i.channels i d).sound)) (channel_position c.args.sounds.now (get_or c.loop-i.channels i d) k)),
          omega (arith, a.right k h, v.small k, right_small (samples_of (assigned c.args.sounds.now (get_or c.loop-i.channels i d).sound)) (channel_position c.args.sounds.now (get_or c.loop-i.channels i d) k)),
        )
        | inr h ↦
            let nl : length c.add_channel.new.left ≤ k = omega arith in
            let nr : length c.add_channel.new.right ≤ k = omega arith in
            (rw (get_or_past c.add_channel.new.left k 0 nl) (omega arith), rw (get_or_past c.add_channel.new.right k 0 nr) (omega arith))
      ];
      channels = rw a.after (map_over_more (channel_after c.args.sounds.now 735) xs c.loop-i.channels i (get_or c.loop-i.channels i d) within v.channels
          (get_or_default c.loop-i.channels i d (get_or c.loop-i.channels i d) in_now));
    }
