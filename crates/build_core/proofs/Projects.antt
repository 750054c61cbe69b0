-- What a project's text says of its names.
use Rattle.std.proofs.Common.{ℕ, List, [], ◌∷◌, subst}
use Rattle.std.specs.Prelude.{IsUtf8}
use Rattle.std.specs.List.{AllZip, AllByRecursion}
use Rattle.project_text.specs.declared.project.Project.{Project}
use Rattle.project_text.specs.Entries.{Entry, Nothing, Title, Source, Texture, Sound}
use Rattle.project_text.specs.Grammar.{IsLine, IsText}
use Rattle.project_text.specs.ProjectText.{titles, sources, textures, sounds, IsProject}
use Rattle.build_core.proofs.Printable.{is_text}

-- the names that entries say
record AreNames (es : List Entry) : Type 0 where
  titles_are : AllByRecursion (IsText 63) (titles es)
  sources_are : AllByRecursion (IsText 255) (sources es)
  textures_are : AllByRecursion (IsText 255) (textures es)
  sounds_are : AllByRecursion (IsText 255) (sounds es)

names_in : (lines : List (List ℕ)) (es : List Entry) → AllZip IsLine lines es → AreNames es
names_in [] [] h = record { titles_are = tt; sources_are = tt; textures_are = tt; sounds_are = tt }
names_in [] (e ∷ es) h = absurd h
names_in (l ∷ ls) [] h = absurd h
names_in (l ∷ ls) (Nothing ∷ es) h =
    let r = names_in ls es h.1 in record { titles_are = r.titles_are; sources_are = r.sources_are; textures_are = r.textures_are; sounds_are = r.sounds_are }
names_in (l ∷ ls) (Title t ∷ es) h =
    let r = names_in ls es h.1 in record { titles_are = (h.0.1, r.titles_are); sources_are = r.sources_are; textures_are = r.textures_are; sounds_are = r.sounds_are }
names_in (l ∷ ls) (Source f ∷ es) h =
    let r = names_in ls es h.1 in record { titles_are = r.titles_are; sources_are = (h.0.1, r.sources_are); textures_are = r.textures_are; sounds_are = r.sounds_are }
names_in (l ∷ ls) (Texture f ∷ es) h =
    let r = names_in ls es h.1 in record { titles_are = r.titles_are; sources_are = r.sources_are; textures_are = (h.0.1, r.textures_are); sounds_are = r.sounds_are }
names_in (l ∷ ls) (Sound f ∷ es) h =
    let r = names_in ls es h.1 in record { titles_are = r.titles_are; sources_are = r.sources_are; textures_are = r.textures_are; sounds_are = (h.0.1, r.sounds_are) }

texts : (names : List (List ℕ)) → AllByRecursion (IsText 255) names → AllByRecursion IsUtf8 names
texts [] h = tt
texts (n ∷ ns) h = (is_text 255 n h.0, texts ns h.1)

pub title_is_text : (bytes : List ℕ) (p : Project) → IsProject bytes p → IsText 63 p.title
title_is_text bytes p h = (subst (AllByRecursion (IsText 63)) h.2.title (names_in _ h.0 h.1).titles_are).0

pub source_is_text : (bytes : List ℕ) (p : Project) → IsProject bytes p → IsUtf8 p.source
source_is_text bytes p h = is_text 255 p.source (subst (AllByRecursion (IsText 255)) h.2.source (names_in _ h.0 h.1).sources_are).0

pub textures_are_texts : (bytes : List ℕ) (p : Project) → IsProject bytes p → AllByRecursion IsUtf8 p.textures
textures_are_texts bytes p h = texts p.textures (subst (AllByRecursion (IsText 255)) h.2.textures_are (names_in _ h.0 h.1).textures_are)

pub sounds_are_texts : (bytes : List ℕ) (p : Project) → IsProject bytes p → AllByRecursion IsUtf8 p.sounds
sounds_are_texts bytes p h = texts p.sounds (subst (AllByRecursion (IsText 255)) h.2.sounds_are (names_in _ h.0 h.1).sounds_are)
