use Rattle.c_parse.specs.Tok.{words}
use Rattle.c_parse.proofs.class.word_class.Goals as goal

pub returns : goal.returns
unfolding words
returns c = c.class_in.ensures
