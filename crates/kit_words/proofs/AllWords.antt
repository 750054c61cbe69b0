-- A test of words, as texts and as they are passed.
use Rattle.std.proofs.Common.{◌≡◌, List}
use Rattle.std.specs.Prelude.{String, string_bytes}
use Rattle.std.specs.List.{list_all}
use Rattle.std.specs.declared.alloc.Global.{Global}
use Rattle.std.proofs.lemmas.List.Folds.{list_all-map}
use Rattle.kit_words.specs.Forms.{is_word}
use Rattle.kit_words.specs.Command.{texts}

pub all_words : (words : List (String Global)) → list_all is_word (texts words) ≡ list_all (λ word. is_word (string_bytes word)) words
all_words words = list_all-map is_word string_bytes words
