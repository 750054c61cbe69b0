-- The text of a project: each line is of the grammar; one is a title, one a source; the textures and
-- the sounds are those of the lines, in their order, at most 256 and 1,024.
use Rattle.std.specs.Prelude.{◌≡◌, ℕ, ◌≤◌, List, [], ◌∷◌, length}
use Rattle.std.specs.List.{AllZip}
use Rattle.project_text.specs.declared.project.Project.{Project}
use Rattle.project_text.specs.Entries.{Entry, Nothing, Title, Source, Texture, Sound}
use Rattle.project_text.specs.Grammar.{IsLine}
use Rattle.line_text.specs.Lines.{lines_of}

abbrev pub titles : List Entry → List (List ℕ)
titles [] = []
titles (Title t ∷ es) = t ∷ titles es
titles (Nothing ∷ es) = titles es
titles (Source f ∷ es) = titles es
titles (Texture f ∷ es) = titles es
titles (Sound f ∷ es) = titles es

abbrev pub sources : List Entry → List (List ℕ)
sources [] = []
sources (Source f ∷ es) = f ∷ sources es
sources (Nothing ∷ es) = sources es
sources (Title t ∷ es) = sources es
sources (Texture f ∷ es) = sources es
sources (Sound f ∷ es) = sources es

abbrev pub textures : List Entry → List (List ℕ)
textures [] = []
textures (Texture f ∷ es) = f ∷ textures es
textures (Nothing ∷ es) = textures es
textures (Title t ∷ es) = textures es
textures (Source f ∷ es) = textures es
textures (Sound f ∷ es) = textures es

abbrev pub sounds : List Entry → List (List ℕ)
sounds [] = []
sounds (Sound f ∷ es) = f ∷ sounds es
sounds (Nothing ∷ es) = sounds es
sounds (Title t ∷ es) = sounds es
sounds (Source f ∷ es) = sounds es
sounds (Texture f ∷ es) = sounds es

pub record Says (es : List Entry) (p : Project) : Type 0 where
  pub title : titles es ≡ p.title ∷ []
  pub source : sources es ≡ p.source ∷ []
  pub textures_are : textures es ≡ p.textures
  pub sounds_are : sounds es ≡ p.sounds
  pub few_textures : length p.textures ≤ 256
  pub few_sounds : length p.sounds ≤ 1024

abbrev pub IsProject : List ℕ → Project → Type 0
IsProject bytes p = (es : List Entry) × AllZip IsLine (lines_of bytes) es × Says es p
