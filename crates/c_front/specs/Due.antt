-- What is due of a source, where this is held: the unit that its tokens are, or the refusal.
use Rattle.std.specs.Prelude.{ℕ, ◌≡◌, List, Option, Some, None, Result, Ok, Err}
use Rattle.kit_base.specs.Held.{Held}
use Rattle.c_tree.specs.View.{unit}
use Rattle.c_prep.specs.declared.error.PrepFault.{PrepFault}
use Rattle.c_prep.specs.declared.error.PrepFault.TheVariants as prep
use Rattle.c_prep.specs.Files.{Expansion, Stop, expansion_of}
use Rattle.c_parse.specs.Tok.{toks}
use Rattle.c_parse.specs.Units.{Derives}
use Rattle.c_parse.specs.Places.{FirstBad, FirstDeep}
use Rattle.c_front.specs.declared.error.FrontErr.{FrontErr}
use Rattle.c_front.specs.declared.error.FrontErr.TheVariants as errors
use Rattle.c_front.specs.declared.places.Places.{Places}
use Rattle.c_front.specs.declared.unit.Parsed.{Parsed}
use Rattle.c_front.specs.Names.{name_of}
use Rattle.c_front.specs.Places.{place_at}

-- the first fault of the reading, told with the file's name
abbrev pub told_as : List ℕ → List (List ℕ) → PrepFault → FrontErr
told_as source names (prep.At code file line) = errors.Source code (name_of source names file) line
told_as source names prep.NoSource = errors.Missing source
told_as source names (prep.Failed file) = errors.Failed (name_of source names file)
told_as source names (prep.TooLong file) = errors.Limit (name_of source names file)

-- a code at the place of a token
abbrev pub refusal_at : Places → ℕ → ℕ → FrontErr
refusal_at p code t = errors.Source code (place_at p t).0 (place_at p t).1

-- 32 at a refused word, 30 at any other token
abbrev pub bad_code : Option ℕ → ℕ
bad_code None = 30
bad_code (Some what) = 32

-- Tokens that stand there are no unit that is shallow enough, and this says where.
pub data IsNoUnit (p : Places) (e : FrontErr) : Type 0 where
  bad : (t : ℕ) (what : Option ℕ) → FirstBad (toks p.tokens) t what → e ≡ refusal_at p (bad_code what) t → IsNoUnit p e
  deep : (t : ℕ) → FirstDeep (toks p.tokens) t → e ≡ refusal_at p 31 t → IsNoUnit p e

-- The source stands for these tokens, with the files read, and the grammar derives the unit from them.
pub record IsUnit (m : Held) (source : List ℕ) (p : Parsed) : Type 0 where
  pub named : p.places.source ≡ source
  pub expanded : expansion_of m source ≡ Ok (record { tokens = p.places.tokens; names = p.places.names })
  pub derived : Derives (toks p.places.tokens) (unit p.unit)

-- where the tokens of a source stand
abbrev pub places_of : List ℕ → Expansion → Places
places_of source x = record { source = source; names = x.names; tokens = x.tokens }

-- The source stands for no tokens, or for tokens that are no unit.
pub data IsRefused (m : Held) (source : List ℕ) (e : FrontErr) : Type 0 where
  unread : (s : Stop) → expansion_of m source ≡ Err s → e ≡ told_as source s.names s.fault → IsRefused m source e
  unparsed : (x : Expansion) → expansion_of m source ≡ Ok x → IsNoUnit (places_of source x) e → IsRefused m source e

-- The answer is one that is due, unless a call of the files failed or memory ran out.
abbrev pub Answers : Held → List ℕ → Result Parsed FrontErr → Type 0
Answers m source (Ok p) = IsUnit m source p
Answers m source (Err errors.Memory) = Unit {0}
Answers m source (Err (errors.Failed name)) = Unit {0}
Answers m source (Err e) = IsRefused m source e
