-- What a command is due, for its words and for the files that are held: the one order of refusals.
use Rattle.std.specs.Prelude.{ℕ, ◌≡◌, List, [], ◌∷◌, ◌++◌, ◌⊎◌, Option, Some, None, Result, Ok, Err, Contains, map}
use Rattle.kit_base.specs.Held.{Held}
use Rattle.kit_base.specs.Effects.{Effect, written_file}
use Rattle.kit_base.specs.Outside.{due}
use Rattle.kit_base.specs.declared.outside.FileErr.{FileErr}
use Rattle.kit_base.specs.declared.failure.Failure.TheVariants as failures
use Rattle.asm_items.specs.Written.{written}
use Rattle.cart_format.specs.Cartridge.{Cartridge}
use Rattle.cart_format.specs.Reading.{cart_of}
use Rattle.build_core.specs.declared.error.BuildErr.{BuildErr}
use Rattle.build_core.specs.declared.error.BuildErr.TheVariants as build_errors
use Rattle.build_core.specs.declared.building.Built.{Built}
use Rattle.build_core.specs.Build.{HasNoParts, IsBuilt, IsUnbuilt}
use Rattle.build_core.specs.Checked.{IsAccepted, IsRejected}
use Rattle.build_core.specs.Reached.{IsReadToBuild, IsReadToCheck}
use Rattle.c_types.specs.Programs.{ProgramT}
use Rattle.c_image.specs.Imaging.{frame_sizes}
use Rattle.cycle_bound.specs.Lines.{IsTold}
use Rattle.project_text.specs.MapText.{map_text}
use Rattle.project_text.specs.declared.map.Map.{Map}
use Rattle.kit_tools.specs.declared.refusal.DueRefusal.{DueRefusal}
use Rattle.kit_tools.specs.declared.refusal.DueRefusal.TheVariants as dues
use Rattle.kit_tools.specs.Refusal.{Refusal}
use Rattle.kit_tools.specs.declared.refusal.RefusalCause.TheVariants as refusals
use Rattle.kit_words.specs.Command.{Command, RunWords, WatchWords, Build, Convert, Trace, Run, Play, Watch, Bounds, Check, Gen, command_of}
use Rattle.kit_tools.specs.Inputs.{unread}
use Rattle.kit_tools.specs.Work.{Work, accepted, as_due}
use Rattle.kit_tools.specs.Converting.{convert_due}
use Rattle.kit_tools.specs.Tracing.{IsReadToTrace, trace_due}
use Rattle.kit_tools.specs.Running.{Game, Settings, end_status, game_end, game_with, names_in, run_due, settings_due, IsReadToRun, IsReadToSet}
use Rattle.kit_tools.specs.Watching.{watch_line, watch_settings_due, IsReadToSetWatch}
use Rattle.kit_tools.specs.declared.verdict.Verdict.{Verdict}
use Rattle.run_core.specs.Ending.{end_text}
use Rattle.run_core.specs.Outputs.{run_outputs}
use Rattle.kit_core.specs.Plain.{color_after, plain_setup}
use Rattle.gen_source.specs.Source.{project_text}
use Rattle.gen_source.specs.Summary.{summary_text}
use Rattle.kit_core.specs.Generating.{functions_due, most_frames}
use Rattle.kit_core.specs.Meaning.{console_of}
use Rattle.kit_core.specs.Watching.{verdict_at, watched_in}

-- The refusal of a build. A fault in a line is one of the project's text, which goes by the name
-- that the words give it.
abbrev pub unbuilt : List ℕ → BuildErr → Refusal
unbuilt project (build_errors.Source code file line) = failures.Cause (refusals.Due (dues.Source code file line))
unbuilt project (build_errors.Missing name) = failures.Cause (refusals.Due (dues.Missing name))
unbuilt project (build_errors.Failed name) = failures.Cause (refusals.Failed name)
unbuilt project (build_errors.Bad code name (Some line)) = failures.Cause (refusals.Due (dues.Bad code project (Some line)))
unbuilt project (build_errors.Bad code name None) = failures.Cause (refusals.Due (dues.Bad code name None))
unbuilt project (build_errors.Limit name) = failures.Cause (refusals.Due (dues.Limit name))
unbuilt project build_errors.Memory = failures.Memory

-- the cartridge and then the map, each created and then appended
abbrev pub outputs_of : List ℕ → List ℕ → Built → List Effect
outputs_of cart map_name built = written_file cart built.cart ++ written_file map_name (map_text built.map)

abbrev pub built_work : (cart map_name : List ℕ) → Built → Work
built_work cart map_name built = record { effects = outputs_of cart map_name built; text = []; status = 0 }

-- what the build of a project's text is due: its outputs, or why there are none
abbrev pub text_build_due : (project text cart map_name : List ℕ) → Held → Result Work DueRefusal → Type 0
text_build_due project text cart map_name held (Ok work) = (b : Built) × IsBuilt held text b × (built_work cart map_name b ≡ work)
text_build_due project text cart map_name held (Err refusal) =
    (e : BuildErr) × IsUnbuilt held text e × (unbuilt project e ≡ failures.Cause (refusals.Due refusal))

abbrev pub read_build_due : (project cart map_name : List ℕ) → Held → Result (List ℕ) FileErr → Result Work DueRefusal → Type 0
read_build_due project cart map_name held (Ok text) d = text_build_due project text cart map_name held d
read_build_due project cart map_name held (Err e) d = Err (unread project e) ≡ as_due d

-- The project's file is read, then built. More than one image of a program can be due, and of tokens that are no unit more than one refusal, so
-- this is a relation.
abbrev pub build_due : (project cart map_name : List ℕ) → Held → Result Work DueRefusal → Type 0
build_due project cart map_name held d = read_build_due project cart map_name held (due held project) d

-- the input of a build is refused: its project's file, the project's text, its source, a texture or a sound
abbrev pub read_build_refused : (project : List ℕ) → Held → Result (List ℕ) FileErr → DueRefusal → Type 0
read_build_refused project held (Ok text) refusal = (e : BuildErr) × HasNoParts held text e × (unbuilt project e ≡ failures.Cause (refusals.Due refusal))
read_build_refused project held (Err e) refusal = unread project e ≡ failures.Cause (refusals.Due refusal)

-- the outputs of what was built, then those of its run
abbrev pub play_effects : (map_name : List ℕ) → RunWords → Built → Game → List Effect
play_effects map_name words built game = outputs_of words.cart map_name built ++ run_outputs (names_in words) game.setup game.count

abbrev pub play_work : (map_name : List ℕ) → RunWords → Built → Game → Work
play_work map_name words built game =
    record { effects = play_effects map_name words built game; text = end_text game.lines (game_end game); status = end_status (game_end game) }

-- what was built of the project's text, the cartridge that its bytes are, and what is run beside it
pub record IsPlay (text map_name : List ℕ) (words : RunWords) (held : Held) (work : Work) : Type 0 where
  pub built : Built
  pub is_built : IsBuilt held text built
  pub cart : Cartridge
  pub cart_is : cart_of built.cart ≡ Ok cart
  pub settings : Settings
  pub settings_are : settings_due words held ≡ Ok settings
  pub work_is : play_work map_name words built (game_with cart settings) ≡ work

-- Nothing is built of the project; or the pads file, the card or the number of frames is refused after a build.
pub data IsUnset (project text : List ℕ) (due_settings : Held → Result Settings Refusal) (held : Held) (refusal : DueRefusal) : Type 0 where
  not_built : (e : BuildErr) → IsUnbuilt held text e → unbuilt project e ≡ failures.Cause (refusals.Due refusal)
      → IsUnset project text due_settings held refusal
  not_set : (b : Built) → IsBuilt held text b → due_settings held ≡ Err (failures.Cause (refusals.Due refusal))
      → IsUnset project text due_settings held refusal

abbrev pub IsUnplayed : (project text : List ℕ) → RunWords → Held → DueRefusal → Type 0
IsUnplayed project text words held refusal = IsUnset project text (settings_due words) held refusal

abbrev pub text_play_due : (project text map_name : List ℕ) → RunWords → Held → Result Work DueRefusal → Type 0
text_play_due project text map_name words held (Ok work) = IsPlay text map_name words held work
text_play_due project text map_name words held (Err refusal) = IsUnplayed project text words held refusal

abbrev pub read_play_due : (project map_name : List ℕ) → RunWords → Held → Result (List ℕ) FileErr → Result Work DueRefusal → Type 0
read_play_due project map_name words held (Ok text) d = text_play_due project text map_name words held d
read_play_due project map_name words held (Err e) d = Err (unread project e) ≡ as_due d

-- The project is built, then what is run beside its cartridge is read.
abbrev pub play_due : (project map_name : List ℕ) → RunWords → Held → Result Work DueRefusal → Type 0
play_due project map_name words held d = read_play_due project map_name words held (due held project) d

-- the input of a play is refused: that of its build, the pads file, the card or the number of frames
abbrev pub play_refused : (project : List ℕ) → RunWords → Held → DueRefusal → Type 0
play_refused project words held refusal =
    read_build_refused project held (due held project) refusal ⊎ (settings_due words held ≡ Err (failures.Cause (refusals.Due refusal)))

-- the outputs of what was built, and the line of a verdict
abbrev pub watch_work : WatchWords → Built → Verdict → Work
watch_work words built verdict = record { effects = outputs_of words.cart words.map_name built; text = watch_line verdict; status = 0 }

-- What was built of the project's text, the cartridge that its bytes are, and what is run beside it. The line is that of the verdict on the project's
-- source, with the frames of its map, under the answers that the run of this cartridge got.
pub record IsWatch (text : List ℕ) (words : WatchWords) (held : Held) (work : Work) : Type 0 where
  pub built : Built
  pub is_built : IsBuilt held text built
  pub cart : Cartridge
  pub cart_is : cart_of built.cart ≡ Ok cart
  pub settings : Settings
  pub settings_are : watch_settings_due words held ≡ Ok settings
  pub work_is : watch_work words built (verdict_at is_built.of.parsed.places
      (watched_in is_built.of.program (frame_sizes built.map) (console_of cart settings) settings.count)) ≡ work

abbrev pub text_watch_due : (text : List ℕ) → WatchWords → Held → Result Work DueRefusal → Type 0
text_watch_due text words held (Ok work) = IsWatch text words held work
text_watch_due text words held (Err refusal) = IsUnset words.project text (watch_settings_due words) held refusal

abbrev pub read_watch_due : WatchWords → Held → Result (List ℕ) FileErr → Result Work DueRefusal → Type 0
read_watch_due words held (Ok text) d = text_watch_due text words held d
read_watch_due words held (Err e) d = Err (unread words.project e) ≡ as_due d

-- The project is built, then what is run beside its cartridge is read.
abbrev pub watch_due : WatchWords → Held → Result Work DueRefusal → Type 0
watch_due words held d = read_watch_due words held (due held words.project) d

-- the input of a watch is refused: that of its build, the pads file, the card or the number of frames
abbrev pub watch_refused : WatchWords → Held → DueRefusal → Type 0
watch_refused words held refusal =
    read_build_refused words.project held (due held words.project) refusal ⊎ (watch_settings_due words held ≡ Err (failures.Cause (refusals.Due refusal)))

-- the names of a map's functions, in its order
abbrev pub function_names : Map → List (List ℕ)
function_names m = map (λ row. row.0) m.frames

-- the outputs of what was built, then its program's assembly text
abbrev pub bounds_effects : (cart map_name text_name : List ℕ) → Built → List Effect
bounds_effects cart map_name text_name built = outputs_of cart map_name built ++ written_file text_name (written built.items)

-- and a line for each function
abbrev pub bounds_work : (cart map_name text_name : List ℕ) → Built → (lines : List ℕ) → Work
bounds_work cart map_name text_name built lines = record { effects = bounds_effects cart map_name text_name built; text = lines; status = 0 }

-- what was built of the project's text, and the lines of its functions, by the items that the assembly text that is written reads as
pub record IsBounds (text cart map_name text_name : List ℕ) (held : Held) (work : Work) : Type 0 where
  pub built : Built
  pub is_built : IsBuilt held text built
  pub lines : List ℕ
  pub told : IsTold built.items (function_names built.map) lines
  pub work_is : bounds_work cart map_name text_name built lines ≡ work

abbrev pub text_bounds_due : (project text cart map_name text_name : List ℕ) → Held → Result Work DueRefusal → Type 0
text_bounds_due project text cart map_name text_name held (Ok work) = IsBounds text cart map_name text_name held work
text_bounds_due project text cart map_name text_name held (Err refusal) =
    (e : BuildErr) × IsUnbuilt held text e × (unbuilt project e ≡ failures.Cause (refusals.Due refusal))

abbrev pub read_bounds_due : (project cart map_name text_name : List ℕ) → Held → Result (List ℕ) FileErr → Result Work DueRefusal → Type 0
read_bounds_due project cart map_name text_name held (Ok text) d = text_bounds_due project text cart map_name text_name held d
read_bounds_due project cart map_name text_name held (Err e) d = Err (unread project e) ≡ as_due d

-- The project is built; its refusals are those of a build.
abbrev pub bounds_due : (project cart map_name text_name : List ℕ) → Held → Result Work DueRefusal → Type 0
bounds_due project cart map_name text_name held d = read_bounds_due project cart map_name text_name held (due held project) d

-- what the check of a project's text is due: `ok` where its source has a program, else why it has none
abbrev pub text_check_due : (project text : List ℕ) → Held → Result Work DueRefusal → Type 0
text_check_due project text held (Ok work) = ((p : ProgramT) × IsAccepted held text p) × (accepted ≡ work)
text_check_due project text held (Err refusal) = (e : BuildErr) × IsRejected held text e × (unbuilt project e ≡ failures.Cause (refusals.Due refusal))

abbrev pub read_check_due : (project : List ℕ) → Held → Result (List ℕ) FileErr → Result Work DueRefusal → Type 0
read_check_due project held (Ok text) d = text_check_due project text held d
read_check_due project held (Err e) d = Err (unread project e) ≡ as_due d

-- The project's file is read, then checked. Of tokens that are no unit more than one refusal can be due, so this is a relation.
abbrev pub check_due : (project : List ℕ) → Held → Result Work DueRefusal → Type 0
check_due project held d = read_check_due project held (due held project) d

-- The outputs of what was built of the source that was made up, and the line that tells of it: the clear colour is that at the end of a run of
-- its cartridge of at most 60 frames.
abbrev pub gen_work : (functions : ℕ) → (cart map_name : List ℕ) → Built → Cartridge → Work
gen_work functions cart map_name built cartridge =
    record {
      effects = outputs_of cart map_name built;
      text = summary_text functions built.tokens (color_after (plain_setup cartridge) most_frames);
      status = 0;
    }

-- what was built, from the files that are held with the project and the source among them, and the cartridge that its bytes are
pub record IsGenerated (functions : ℕ) (cart map_name : List ℕ) (held : Held) (work : Work) : Type 0 where
  pub built : Built
  pub is_built : IsBuilt held project_text built
  pub cartridge : Cartridge
  pub cartridge_is : cart_of built.cart ≡ Ok cartridge
  pub work_is : gen_work functions cart map_name built cartridge ≡ work

abbrev pub functions_gen_due : (functions : ℕ) → (project cart map_name : List ℕ) → Held → Result Work DueRefusal → Type 0
functions_gen_due functions project cart map_name held (Ok work) = IsGenerated functions cart map_name held work
functions_gen_due functions project cart map_name held (Err refusal) = (e : BuildErr) × IsUnbuilt held project_text e
    × (unbuilt project e ≡ failures.Cause (refusals.Due refusal))

abbrev pub number_gen_due : Result ℕ DueRefusal → (project cart map_name : List ℕ) → Held → Result Work DueRefusal → Type 0
number_gen_due (Ok functions) project cart map_name held d = functions_gen_due functions project cart map_name held d
number_gen_due (Err refusal) project cart map_name held d = Err refusal ≡ d

-- The number is told, then the project that is made up is built among the files that are held, then its cartridge is run.
abbrev pub gen_due : (number project cart map_name : List ℕ) → Held → Result Work DueRefusal → Type 0
gen_due number project cart map_name held d = number_gen_due (functions_due number) project cart map_name held d

-- What a command is due among the files that are held, its front done: one work or refusal, but for a build, a play, a watch, `bounds`, a check and `gen`.
abbrev pub work_due : Command → Held → Result Work DueRefusal → Type 0
work_due (Build project cart map_name) held d = build_due project cart map_name held d
work_due (Convert conversion source target) held d = convert_due conversion source target held ≡ as_due d
work_due (Trace cart answers card steps) held d = trace_due cart answers card steps held ≡ as_due d
work_due (Run words) held d = run_due words held ≡ as_due d
work_due (Play project map_name words) held d = play_due project map_name words held d
work_due (Watch words) held d = watch_due words held d
work_due (Bounds project cart map_name text_name) held d = bounds_due project cart map_name text_name held d
work_due (Check project) held d = check_due project held d
work_due (Gen number project cart map_name) held d = gen_due number project cart map_name held d

abbrev pub form_due : Option Command → Held → Result Work DueRefusal → Type 0
form_due None held d = Err dues.Usage ≡ d
form_due (Some command) held d = work_due command held d

-- the work of the command of these words, or its first refusal
abbrev pub command_due : List (List ℕ) → Held → Result Work DueRefusal → Type 0
command_due words held d = form_due (command_of words) held d

-- The words are no command, or its input is refused. The cartridge of a build, a play, a watch or `bounds` is no input of it: whether it is too large is known
-- only of what was built. The input of `gen` is its number.
abbrev pub form_refused : Option Command → Held → DueRefusal → Type 0
form_refused (Some (Build project cart map_name)) held refusal = read_build_refused project held (due held project) refusal
form_refused (Some (Play project map_name words)) held refusal = play_refused project words held refusal
form_refused (Some (Watch words)) held refusal = watch_refused words held refusal
form_refused (Some (Bounds project cart map_name text_name)) held refusal = read_build_refused project held (due held project) refusal
form_refused (Some (Gen number project cart map_name)) held refusal = functions_due number ≡ Err refusal
form_refused c held refusal = form_due c held (Err refusal)

abbrev pub command_refused : List (List ℕ) → Held → DueRefusal → Type 0
command_refused words held refusal = form_refused (command_of words) held refusal

-- The files that a command on a project reads: the project's own, and those that its text asks for.
abbrev pub project_reads : (AreRead : (text name : List ℕ) → Type 0) → (project : List ℕ) → Result (List ℕ) FileErr → (name : List ℕ) → Type 0
project_reads AreRead project (Ok text) name = (name ≡ project) ⊎ AreRead text name
project_reads AreRead project (Err e) name = name ≡ project

-- what is run beside a cartridge is read once it is built
pub data IsReadSet (IsReadBeside : Held → (name : List ℕ) → Type 0) (held : Held) (text name : List ℕ) : Type 0 where
  reads_build : IsReadToBuild held text name → IsReadSet IsReadBeside held text name
  reads_set : (b : Built) → IsBuilt held text b → IsReadBeside held name → IsReadSet IsReadBeside held text name

abbrev pub IsReadToPlay : RunWords → Held → (text name : List ℕ) → Type 0
IsReadToPlay words held text name = IsReadSet (IsReadToSet words) held text name

abbrev pub IsReadToWatch : WatchWords → Held → (text name : List ℕ) → Type 0
IsReadToWatch words held text name = IsReadSet (IsReadToSetWatch words) held text name

abbrev pub build_reads : (project : List ℕ) → Held → (name : List ℕ) → Type 0
build_reads project held name = project_reads (IsReadToBuild held) project (due held project) name

abbrev pub play_reads : (project : List ℕ) → RunWords → Held → (name : List ℕ) → Type 0
play_reads project words held name = project_reads (IsReadToPlay words held) project (due held project) name

abbrev pub watch_reads : WatchWords → Held → (name : List ℕ) → Type 0
watch_reads words held name = project_reads (IsReadToWatch words held) words.project (due held words.project) name

abbrev pub check_reads : (project : List ℕ) → Held → (name : List ℕ) → Type 0
check_reads project held name = project_reads (IsReadToCheck held) project (due held project) name

-- the files that a command reads
abbrev pub command_reads : Option Command → Held → (name : List ℕ) → Type 0
command_reads None held name = ⊥
command_reads (Some (Build project cart map_name)) held name = build_reads project held name
command_reads (Some (Convert conversion source target)) held name = Contains (source ∷ []) name
command_reads (Some (Trace cart answers card steps)) held name = IsReadToTrace cart answers card held name
command_reads (Some (Run words)) held name = IsReadToRun words held name
command_reads (Some (Play project map_name words)) held name = play_reads project words held name
command_reads (Some (Watch words)) held name = watch_reads words held name
command_reads (Some (Bounds project cart map_name text_name)) held name = build_reads project held name
command_reads (Some (Check project)) held name = check_reads project held name
command_reads (Some (Gen number project cart map_name)) held name = IsReadToBuild held project_text name

-- the files that the command of these words reads
abbrev pub reads_due : List (List ℕ) → Held → (name : List ℕ) → Type 0
reads_due words held name = command_reads (command_of words) held name
