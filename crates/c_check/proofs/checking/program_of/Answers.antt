use Rattle.c_check.proofs.checking.program_of.Goals as goal

pub of_parts-requires : goal.of_parts-requires
of_parts-requires c = rw (c.into_vec.ensures.globals, c.into_vec-2.ensures.texts, c.into_parts-texts.ensures.texts) c.requires.made
