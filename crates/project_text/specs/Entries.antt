-- What a line of a project says.
use Rattle.std.specs.Prelude.{ℕ, List}

pub data Entry : Type 0 where
  Nothing : Entry
  Title : List ℕ → Entry
  Source : List ℕ → Entry
  Texture : List ℕ → Entry
  Sound : List ℕ → Entry
