-- The line that tells of a program that is made up from a number. Hold it against the kit's page on commands.
use Rattle.std.specs.Prelude.{ℕ, List, [], ◌∷◌, ◌++◌, codes}
use Rattle.std.specs.Fmt.{decimal}
use Rattle.kit_base.specs.Digits.{word_digits}
use Rattle.gen_source.specs.Source.{joined}

-- `functions N tokens T out 0x`
unfoldable pub summary_front : (functions tokens : ℕ) → List ℕ
summary_front functions tokens = joined (codes "functions " ∷ decimal functions ∷ codes " tokens " ∷ decimal tokens ∷ codes " out 0x" ∷ [])

-- `WWWWWWWW` behind it, with LF
abbrev pub summary_end : ℕ → List ℕ
summary_end color = word_digits color ++ codes "\n"

-- `functions N tokens T out 0xWWWWWWWW`, with LF
abbrev pub summary_text : (functions tokens color : ℕ) → List ℕ
summary_text functions tokens color = summary_front functions tokens ++ summary_end color
