use Rattle.c_check.proofs.access.of_parts.Goals as goal

pub invariant_of-result : goal.invariant_of-result
invariant_of-result c = record { made = rw (c.from_vec.ensures, c.from_vec-2.ensures, c.from_vec-3.ensures, c.from_vec-4.ensures, c.from_vec-5.ensures) c.requires }
