-- The heads of the files that a run writes.
use Rattle.std.specs.Prelude.{ℕ, List, ◌++◌, codes}
use Rattle.asset_pack.specs.Words.{word_text}

-- the signature, 640 pixels by 360
abbrev pub frames_header : List ℕ
frames_header = codes "KITFRAME" ++ word_text 640 ++ word_text 360

-- the signature, 44,100 samples per second, two sides
abbrev pub samples_header : List ℕ
samples_header = codes "KITSOUND" ++ word_text 44100 ++ word_text 2
