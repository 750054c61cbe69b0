-- A memory card: 262,144 words of four bytes, the lowest first, and nothing else.
use Rattle.std.specs.Prelude.{◌≡◌, ◌≢◌, ℕ, List, length, Result, Ok, Err, Vec}
use Rattle.std.specs.declared.alloc.Global.{Global}
use Rattle.asset_pack.specs.Words.{words_of}
use Rattle.run_files.specs.declared.card.CardErr.{CardErr}
use Rattle.run_files.specs.declared.card.CardErr.TheVariants as errors

-- the bytes are those of a card, and the words are theirs
pub record IsCardOf (words bytes : List ℕ) : Type 0 where
  pub size : length bytes ≡ 1048576
  pub count : length words ≡ 262144
  pub words_are : words ≡ words_of bytes

-- the words of a card exactly where the length is a card's, else 110; or memory ran out
abbrev pub ReadsCard : Result (Vec ℕ Global) CardErr → List ℕ → Type 0
ReadsCard (Ok words) bytes = IsCardOf words.items bytes
ReadsCard (Err (errors.At code)) bytes = (code ≡ 110) × (length bytes ≢ 1048576)
ReadsCard (Err errors.Memory) bytes = Unit {0}
