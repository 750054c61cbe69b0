-- A project read line by line, up to the first faulty line: 90 where it is not of the grammar, 92 for
-- a second title or source, 93 for the 257th texture or the 1,025th sound; then 91, on the line after
-- the last, where a title or a source is missing.
use Rattle.std.specs.Prelude.{◌≡◌, ℕ, ◌+◌, ◌<◌, ◌≤◌, List, [], ◌∷◌, ◌++◌, length, nat_lt, if◌then◌else◌, Option, Some, None, Result, Ok, Err}
use Rattle.project_text.specs.declared.error.ProjectErr.{ProjectErr}
use Rattle.project_text.specs.declared.error.ProjectErr.TheVariants as errors
use Rattle.project_text.specs.declared.project.Project.{Project}
use Rattle.project_text.specs.Entries.{Entry, Nothing, Title, Source, Texture, Sound}
use Rattle.project_text.specs.Grammar.{entry_of}
use Rattle.line_text.specs.Lines.{lines_of}

-- what was said so far
pub record State : Type 0 where
  pub title : Option (List ℕ)
  pub source : Option (List ℕ)
  pub textures : List (List ℕ)
  pub sounds : List (List ℕ)

abbrev pub opened : State
opened = record { title = None; source = None; textures = []; sounds = [] }

-- the state after a line, or a code
abbrev pub Step : Type 0
Step = Result State ℕ

abbrev pub with_title : State → Option (List ℕ) → List ℕ → Step
with_title s None t = Ok (record s { title = Some t })
with_title s (Some old) t = Err 92

abbrev pub with_source : State → Option (List ℕ) → List ℕ → Step
with_source s None f = Ok (record s { source = Some f })
with_source s (Some old) f = Err 92

abbrev pub with_texture : State → List ℕ → Step
with_texture s f = if nat_lt (length s.textures) 256 then Ok (record s { textures = s.textures ++ f ∷ [] }) else Err 93

abbrev pub with_sound : State → List ℕ → Step
with_sound s f = if nat_lt (length s.sounds) 1024 then Ok (record s { sounds = s.sounds ++ f ∷ [] }) else Err 93

abbrev pub said : State → Option Entry → Step
said s None = Err 90
said s (Some Nothing) = Ok s
said s (Some (Title t)) = with_title s s.title t
said s (Some (Source f)) = with_source s s.source f
said s (Some (Texture f)) = with_texture s f
said s (Some (Sound f)) = with_sound s f

abbrev pub step : State → List ℕ → Step
step s line = said s (entry_of line)

abbrev pub complete : ℕ → State → Option (List ℕ) → Option (List ℕ) → Result Project ProjectErr
complete number s None source = Err (errors.At 91 number)
complete number s (Some t) None = Err (errors.At 91 number)
complete number s (Some t) (Some f) = Ok (record { title = t; source = f; textures = s.textures; sounds = s.sounds })

abbrev pub after : ℕ → Step → (State → Result Project ProjectErr) → Result Project ProjectErr
after number (Ok s) more = more s
after number (Err code) more = Err (errors.At code number)

unfoldable pub read_from : ℕ → State → List (List ℕ) → Result Project ProjectErr
read_from number s [] = complete number s s.title s.source
read_from number s (line ∷ lines) = after number (step s line) (λ s'. read_from (number + 1) s' lines)

unfoldable pub project_of : List ℕ → Result Project ProjectErr
project_of bytes = read_from 1 opened (lines_of bytes)

abbrev pub Fails : {Y : Type 0} → ProjectErr → Result Y ProjectErr → Type 0
Fails errors.Memory read = Unit {0}
Fails (errors.At code line) read = read ≡ Err (errors.At code line)

-- what was answered is what reading gives, unless memory ran out
abbrev pub Gives : Result Project ProjectErr → Result Project ProjectErr → Type 0
Gives (Ok p) read = read ≡ Ok p
Gives (Err e) read = Fails e read

-- what a line left, or its code
abbrev pub LineFails : ProjectErr → ℕ → Step → Type 0
LineFails errors.Memory number read = Unit {0}
LineFails (errors.At code line) number read = (line ≡ number) × (read ≡ Err code)

abbrev pub Steps : State → ℕ → Result (Unit {0}) ProjectErr → Step → Type 0
Steps new number (Ok x) read = read ≡ Ok new
Steps new number (Err e) read = LineFails e number read

-- a name more, where there are fewer than so many
abbrev pub Adds : List (List ℕ) → List (List ℕ) → ℕ → ℕ → List ℕ → Result (Unit {0}) ProjectErr → Type 0
Adds old new most number text (Ok x) = (length old < most) × (new ≡ old ++ text ∷ [])
Adds old new most number text (Err errors.Memory) = Unit {0}
Adds old new most number text (Err (errors.At code line)) = (most ≤ length old) × (code ≡ 93) × (line ≡ number)
