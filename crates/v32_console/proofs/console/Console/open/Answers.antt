use Rattle.std.proofs.Common.{ap, arith, length}
use Rattle.v32_console.proofs.Opening.{facts_are, opened, program_sized, few_words}
use Rattle.v32_console.proofs.console.Console.open.Goals as goal

pub overflow_cast-words : goal.overflow_cast-words
overflow_cast-words c = let few = (few_words c.args.cart c.program.ensures.limits).0 in rw c.program.ensures.program (omega (arith, few))

pub overflow_cast-textures_count : goal.overflow_cast-textures_count
overflow_cast-textures_count c = let few = (few_words c.args.cart c.program.ensures.limits).1 in rw c.textures.ensures.textures (omega (arith, few))

pub overflow_cast-sounds_count : goal.overflow_cast-sounds_count
overflow_cast-sounds_count c = let few = (few_words c.args.cart c.program.ensures.limits).2 in rw c.sounds.ensures.sounds (omega (arith, few))

pub open-requires-3-clause-some_program : goal.open-requires-3-clause-some_program
open-requires-3-clause-some_program c = (program_sized c.args.cart _ c.program.ensures.limits c.into_parts-program.ensures.program).0

pub open-requires-3-clause-program_room : goal.open-requires-3-clause-program_room
open-requires-3-clause-program_room c = (program_sized c.args.cart _ c.program.ensures.limits c.into_parts-program.ensures.program).1

pub returns-clause-stands : goal.returns-clause-stands
returns-clause-stands c =
    opened c.args.cart c.args.pads c.args.card _ _ _ _ _ _ _ _ _ c.into_parts-program.ensures.program c.into_parts-program.ensures.textures c.into_parts-program.ensures.sounds
    (facts_are c.args.cart c.args.pads c.args.card _ _ _ _ (ap length c.program.ensures.program) (ap length c.textures.ensures.textures) (ap length c.sounds.ensures.sounds) c.is_some.ensures)
    c.in_ok-cpu.ensures c.in_ok-gpu.ensures.opened c.in_ok-spu.ensures.stands c.open-devices.ensures.stands
