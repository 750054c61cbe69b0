use Rattle.std.proofs.Common.{map}
use Rattle.c_tree.specs.View.{item}
use Rattle.c_check.proofs.WholeExact.{is_program}
use Rattle.c_check.proofs.checking.checked.Goals as goal

pub program_of-requires : goal.program_of-requires
program_of-requires c =
    let read = rw (c.new-reading.ensures.opening, c.in_ok-globals.ensures.bodies) at c.in_ok-read_items.ensures in
    let main = rw c.in_ok-number.ensures.number at c.in_ok-main.ensures.known in
    record { made = ∣ is_program (map item c.args.items.now) _ _ _ _ read main c.requires.nodes ∣₁ }
