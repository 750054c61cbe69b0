-- What each command begins creates each of its outputs once, and nothing else.
use Rattle.std.proofs.Common.{ℕ, ◌≡◌, false, true, List, [], ◌∷◌, ◌++◌, refl, sym, subst, ap}
use Rattle.std.specs.Prelude.{Option, Some, None, Result, Ok, Err}
use Rattle.std.specs.Str.{bytes_eq}
use Rattle.kit_base.specs.Held.{Held}
use Rattle.kit_base.specs.Effects.{Effect, written_file}
use Rattle.kit_base.specs.Outside.{due}
use Rattle.kit_base.specs.declared.outside.FileErr.{FileErr}
use Rattle.asm_items.specs.Written.{written}
use Rattle.build_core.specs.declared.building.Built.{Built}
use Rattle.gen_source.specs.Source.{project_text, source_text}
use Rattle.project_text.specs.MapText.{map_text}
use Rattle.run_core.specs.Outputs.{run_outputs}
use Rattle.output_laws.specs.Begun.{CreatesOnce, creates, is_among}
use Rattle.output_laws.specs.Standing.{AreOther, IsNoCard}
use Rattle.output_laws.proofs.Tracked.{Spares, spares_both}
use Rattle.output_laws.proofs.Begun.{not_among, other_way, spares_unmade, written_once}
use Rattle.output_laws.proofs.Outputs.{IsNewCard, no_list, none_spared, run_once}
use Rattle.kit_words.specs.declared.conversion.Conversion.{Conversion}
use Rattle.kit_words.specs.Command.{Command, RunWords, WatchWords, Build, Convert, Trace, Run, Play, Watch, Bounds, Check, Gen, command_of}
use Rattle.kit_words.specs.Created.{created_names, run_names}
use Rattle.kit_words.specs.Forms.{are_different, differs_from, source_name}
use Rattle.kit_words.proofs.Created.{AreFour, AreThree, bounds_differ, build_differ, created_differ, differs_first, differs_later, gen_differ, watch_differ}
use Rattle.kit_tools.specs.declared.refusal.DueRefusal.{DueRefusal}
use Rattle.kit_tools.specs.Converting.{convert_due, made_due}
use Rattle.kit_tools.specs.Running.{Game, game_due, game_with, names_in, run_due}
use Rattle.kit_tools.specs.Tracing.{trace_due, traced_due}
use Rattle.kit_tools.specs.Work.{Work}
use Rattle.kit_core.specs.Due.{bounds_effects, form_due, number_gen_due, outputs_of, play_effects, read_bounds_due, read_build_due, read_play_due, read_watch_due}
use Rattle.kit_core.specs.Generating.{front_of, functions_due, sources_due, sources_of}
use Rattle.kit_core.specs.Leaving.{Begins, begins_front, begins_work, IsNoOutput}
use Rattle.kit_core.proofs.Ends.{check_still}
use Rattle.kit_core.proofs.Headlines.{bind_ok}
use Rattle.kit_core.proofs.Holdings.{names_apart, no_run_file, play_apart}

-- each is created once, and none but the command's outputs
pub record Fits (command : Option Command) (effects : List Effect) : Type 0 where
  pub once : CreatesOnce [] effects
  pub others : (name : List ℕ) → IsNoOutput command name → creates name effects ≡ false

fits_same : (command : Option Command) (es fs : List Effect) → es ≡ fs → Fits command es → Fits command fs
fits_same command es fs same h = subst (Fits command) same h

no_effects : (command : Option Command) → Fits command []
no_effects command = record { once = tt; others = λ name h. refl }

-- ---- the cartridge and the map

outputs_once : (made : List (List ℕ)) (cart map_name : List ℕ) (b : Built) (es : List Effect) → is_among cart made ≡ false → is_among map_name (cart ∷ made) ≡ false
    → CreatesOnce (map_name ∷ cart ∷ made) es → CreatesOnce made (outputs_of cart map_name b ++ es)
outputs_once made cart map_name b es cart_new map_new rest =
    written_once made cart b.cart (written_file map_name (map_text b.map) ++ es) cart_new (written_once (cart ∷ made) map_name (map_text b.map) es map_new rest)

outputs_spared : (name cart map_name : List ℕ) (b : Built) → AreOther name cart → AreOther name map_name → Spares name (outputs_of cart map_name b)
outputs_spared name cart map_name b c m = (c, (c, (m, (m, tt))))

-- of a command that creates these two
built_fits : (command : Option Command) (cart map_name : List ℕ) (b : Built) → bytes_eq cart map_name ≡ false
    → ((name : List ℕ) → IsNoOutput command name → differs_from name (cart ∷ map_name ∷ []) ≡ true) → Fits command (outputs_of cart map_name b)
built_fits command cart map_name b differ names = record {
  once = outputs_once [] cart map_name b [] refl (not_among map_name cart [] (other_way cart map_name differ) refl) tt;
  others = λ name h.
      let other = names name h in
      spares_unmade name (outputs_of cart map_name b)
      (outputs_spared name cart map_name b (differs_first name cart (map_name ∷ []) other) (differs_first name map_name [] (differs_later name cart (map_name ∷ []) other)));
}

read_build_fits : (project cart map_name : List ℕ) (held : Held) (r : Result (List ℕ) FileErr) (work : Work) → bytes_eq cart map_name ≡ false
    → read_build_due project cart map_name held r (Ok work) → Fits (Some (Build project cart map_name)) work.effects
read_build_fits project cart map_name held (Ok text) work differ d =
    fits_same (Some (Build project cart map_name)) (outputs_of cart map_name d.0) work.effects (ap (λ (w : Work). w.effects) d.2)
    (built_fits (Some (Build project cart map_name)) cart map_name d.0 differ (λ name h. h))
read_build_fits project cart map_name held (Err e) work differ d = absurd cc

read_watch_fits : (watch : WatchWords) (held : Held) (r : Result (List ℕ) FileErr) (work : Work) → bytes_eq watch.cart watch.map_name ≡ false
    → read_watch_due watch held r (Ok work) → Fits (Some (Watch watch)) work.effects
read_watch_fits watch held (Ok text) work differ d =
    fits_same (Some (Watch watch)) (outputs_of watch.cart watch.map_name d.built) work.effects (ap (λ (w : Work). w.effects) d.work_is)
    (built_fits (Some (Watch watch)) watch.cart watch.map_name d.built differ (λ name h. h))
read_watch_fits watch held (Err e) work differ d = absurd cc

-- ---- the cartridge, the map and the assembly text

module _ (project cart map_name text_name : List ℕ) (three : AreThree cart map_name text_name) where
  abbrev bounded : Option Command
  bounded = Some (Bounds project cart map_name text_name)

  bounds_fit : (b : Built) → Fits bounded (bounds_effects cart map_name text_name b)
  bounds_fit b = record {
    once = outputs_once [] cart map_name b (written_file text_name (written b.items)) refl (not_among map_name cart [] (other_way cart map_name three.cart_map) refl)
        (written_once (map_name ∷ cart ∷ []) text_name (written b.items) []
        (not_among text_name map_name (cart ∷ []) (other_way map_name text_name three.map_text) (not_among text_name cart [] (other_way cart text_name three.cart_text) refl)) tt);
    others = λ name h.
        let later = differs_later name cart (map_name ∷ text_name ∷ []) h in
        let last = differs_first name text_name [] (differs_later name map_name (text_name ∷ []) later) in
        spares_unmade name (bounds_effects cart map_name text_name b)
        (spares_both name (outputs_of cart map_name b) (written_file text_name (written b.items))
        (outputs_spared name cart map_name b (differs_first name cart (map_name ∷ text_name ∷ []) h) (differs_first name map_name (text_name ∷ []) later)) (last, (last, tt)));
  }

  read_bounds_fit : (held : Held) (r : Result (List ℕ) FileErr) (work : Work) → read_bounds_due project cart map_name text_name held r (Ok work) → Fits bounded work.effects
  read_bounds_fit held (Ok text) work d =
      fits_same bounded (bounds_effects cart map_name text_name d.built) work.effects (ap (λ (w : Work). w.effects) d.work_is) (bounds_fit d.built)
  read_bounds_fit held (Err e) work d = absurd cc

-- ---- a file made of another

convert_fits : (conversion : Conversion) (source target : List ℕ) (held : Held) (work : Work) → convert_due conversion source target held ≡ Ok work
    → Fits (Some (Convert conversion source target)) work.effects
convert_fits conversion source target held work d =
    let made = bind_ok (made_due conversion source held) _ work d in
    let same : written_file target made.0 ≡ work.effects = cc made.2 in
    fits_same (Some (Convert conversion source target)) (written_file target made.0) work.effects same (record {
      once = written_once [] target made.0 [] refl tt;
      others = λ name h. let other = differs_first name target [] h in spares_unmade name (written_file target made.0) (other, (other, tt));
    })

trace_fits : (cart answers : List ℕ) (card : Option (List ℕ)) (steps : List ℕ) (held : Held) (work : Work) → trace_due cart answers card steps held ≡ Ok work
    → Fits (Some (Trace cart answers card steps)) work.effects
trace_fits cart answers card steps held work d =
    let text = bind_ok (traced_due cart answers card steps held) _ work d in
    let same : [] ≡ work.effects = cc text.2 in
    fits_same (Some (Trace cart answers card steps)) [] work.effects same (no_effects (Some (Trace cart answers card steps)))

-- ---- the files of a run

game_fits : (words : RunWords) (game : Game) → are_different (created_names (Run words)) ≡ true → Fits (Some (Run words)) (run_outputs (names_in words) game.setup game.count)
game_fits words game differ =
    let apart = names_apart words differ in
    record {
      once = run_once (names_in words) game.setup apart game.count [] refl refl (no_list words.card);
      others = λ name h. spares_unmade name (run_outputs (names_in words) game.setup game.count) (none_spared (names_in words) game.setup apart game.count name (no_run_file name words h));
    }

run_fits : (words : RunWords) (held : Held) (work : Work) → are_different (created_names (Run words)) ≡ true → run_due words held ≡ Ok work → Fits (Some (Run words)) work.effects
run_fits words held work differ d =
    let game = bind_ok (game_due words held) _ work d in
    let same : run_outputs (names_in words) game.0.setup game.0.count ≡ work.effects = cc game.2 in
    fits_same (Some (Run words)) (run_outputs (names_in words) game.0.setup game.0.count) work.effects same (game_fits words game.0 differ)

-- ---- a play

-- behind the cartridge and the map
new_card : (cart map_name : List ℕ) (card : Option (List ℕ)) → IsNoCard cart card → IsNoCard map_name card → IsNewCard card (map_name ∷ cart ∷ [])
new_card cart map_name None c m = tt
new_card cart map_name (Some card) c m = not_among card map_name (cart ∷ []) (other_way map_name card m) (not_among card cart [] (other_way cart card c) refl)

new_file : (cart map_name name : List ℕ) → AreOther cart name → AreOther map_name name → is_among name (map_name ∷ cart ∷ []) ≡ false
new_file cart map_name name c m = not_among name map_name (cart ∷ []) (other_way map_name name m) (not_among name cart [] (other_way cart name c) refl)

played_fits : (project map_name : List ℕ) (words : RunWords) (b : Built) (game : Game) → are_different (created_names (Play project map_name words)) ≡ true
    → Fits (Some (Play project map_name words)) (play_effects map_name words b game)
played_fits project map_name words b game differ =
    let apart = play_apart map_name words differ in
    record {
      once = outputs_once [] words.cart map_name b (run_outputs (names_in words) game.setup game.count) refl
          (not_among map_name words.cart [] (other_way words.cart map_name apart.cart_map) refl)
          (run_once (names_in words) game.setup apart.run_files game.count (map_name ∷ words.cart ∷ []) (new_file words.cart map_name words.frames apart.cart_none.frames apart.map_none.frames)
          (new_file words.cart map_name words.samples apart.cart_none.samples apart.map_none.samples) (new_card words.cart map_name words.card apart.cart_none.card apart.map_none.card));
      others = λ name h.
          let later = differs_later name words.cart (map_name ∷ run_names words) h in
          spares_unmade name (play_effects map_name words b game)
          (spares_both name (outputs_of words.cart map_name b) (run_outputs (names_in words) game.setup game.count)
          (outputs_spared name words.cart map_name b (differs_first name words.cart (map_name ∷ run_names words) h) (differs_first name map_name (run_names words) later))
          (none_spared (names_in words) game.setup apart.run_files game.count name (no_run_file name words (differs_later name map_name (run_names words) later))));
    }

read_play_fits : (project map_name : List ℕ) (words : RunWords) (held : Held) (r : Result (List ℕ) FileErr) (work : Work) → are_different (created_names (Play project map_name words)) ≡ true
    → read_play_due project map_name words held r (Ok work) → Fits (Some (Play project map_name words)) work.effects
read_play_fits project map_name words held (Ok text) work differ d =
    fits_same (Some (Play project map_name words)) (play_effects map_name words d.built (game_with d.cart d.settings)) work.effects (ap (λ (w : Work). w.effects) d.work_is)
    (played_fits project map_name words d.built (game_with d.cart d.settings) differ)
read_play_fits project map_name words held (Err e) work differ d = absurd cc

-- ---- `gen`

module _ (number project cart map_name : List ℕ) (four : AreFour project cart map_name) where
  abbrev gen : Option Command
  gen = Some (Gen number project cart map_name)

  sources_once : (n : ℕ) (es : List Effect) → CreatesOnce (source_name ∷ project ∷ []) es → CreatesOnce [] (sources_of project n ++ es)
  sources_once n es rest =
      written_once [] project project_text (written_file source_name (source_text n) ++ es) refl
      (written_once (project ∷ []) source_name (source_text n) es (not_among source_name project [] four.source_project refl) rest)

  module _ (name : List ℕ) (h : IsNoOutput gen name) where
    behind_source : differs_from name (project ∷ cart ∷ map_name ∷ []) ≡ true
    behind_source = differs_later name source_name (project ∷ cart ∷ map_name ∷ []) h

    behind_project : differs_from name (cart ∷ map_name ∷ []) ≡ true
    behind_project = differs_later name project (cart ∷ map_name ∷ []) behind_source

    sources_spared : (n : ℕ) → Spares name (sources_of project n)
    sources_spared n =
        let p = differs_first name project (cart ∷ map_name ∷ []) behind_source in
        let s = differs_first name source_name (project ∷ cart ∷ map_name ∷ []) h in
        (p, (p, (s, (s, tt))))

    built_spared : (b : Built) → Spares name (outputs_of cart map_name b)
    built_spared b =
        outputs_spared name cart map_name b (differs_first name cart (map_name ∷ []) behind_project) (differs_first name map_name [] (differs_later name cart (map_name ∷ []) behind_project))

  sources_fit : (n : ℕ) → Fits gen (sources_of project n)
  sources_fit n = record { once = sources_once n [] tt; others = λ name h. spares_unmade name (sources_of project n) (sources_spared name h n) }

  front_fits : (d : Result ℕ DueRefusal) → Fits gen (sources_due project d)
  front_fits (Ok n) = sources_fit n
  front_fits (Err e) = no_effects gen

  generated_fits : (n : ℕ) (b : Built) → Fits gen (sources_of project n ++ outputs_of cart map_name b)
  generated_fits n b = record {
    once = sources_once n (outputs_of cart map_name b)
        (outputs_once (source_name ∷ project ∷ []) cart map_name b []
        (not_among cart source_name (project ∷ []) (other_way source_name cart four.source_cart) (not_among cart project [] (other_way project cart four.project_cart) refl))
        (not_among map_name cart (source_name ∷ project ∷ []) (other_way cart map_name four.cart_map)
        (not_among map_name source_name (project ∷ []) (other_way source_name map_name four.source_map) (not_among map_name project [] (other_way project map_name four.project_map) refl)))
        tt);
    others = λ name h.
        spares_unmade name (sources_of project n ++ outputs_of cart map_name b)
        (spares_both name (sources_of project n) (outputs_of cart map_name b) (sources_spared name h n) (built_spared name h b));
  }

  gen_fits : (held : Held) (d : Result ℕ DueRefusal) (work : Work) → number_gen_due d project cart map_name held (Ok work) → Fits gen (sources_due project d ++ work.effects)
  gen_fits held (Ok n) work d =
      fits_same gen (sources_of project n ++ outputs_of cart map_name d.built) (sources_of project n ++ work.effects)
      (ap (λ (w : Work). sources_of project n ++ w.effects) d.work_is) (generated_fits n d.built)
  gen_fits held (Err e) work d = absurd cc

-- ---- every command

module _ (words : List (List ℕ)) where
  front_fitting : (o : Option Command) → command_of words ≡ o → Fits o (front_of o)
  front_fitting None is = no_effects None
  front_fitting (Some (Build project cart map_name)) is = no_effects _
  front_fitting (Some (Convert conversion source target)) is = no_effects _
  front_fitting (Some (Trace cart answers card steps)) is = no_effects _
  front_fitting (Some (Run run)) is = no_effects _
  front_fitting (Some (Play project map_name run)) is = no_effects _
  front_fitting (Some (Watch watch)) is = no_effects _
  front_fitting (Some (Bounds project cart map_name text_name)) is = no_effects _
  front_fitting (Some (Check project)) is = no_effects _
  front_fitting (Some (Gen number project cart map_name)) is = front_fits number project cart map_name (gen_differ words number project cart map_name is) (functions_due number)

  work_fitting : (o : Option Command) → command_of words ≡ o → (held : Held) (work : Work) → form_due o held (Ok work) → Fits o (front_of o ++ work.effects)
  work_fitting None is held work d = absurd cc
  work_fitting (Some (Build project cart map_name)) is held work d = read_build_fits project cart map_name held (due held project) work (build_differ words project cart map_name is) d
  work_fitting (Some (Convert conversion source target)) is held work d = convert_fits conversion source target held work d
  work_fitting (Some (Trace cart answers card steps)) is held work d = trace_fits cart answers card steps held work d
  work_fitting (Some (Run run)) is held work d = run_fits run held work (created_differ words (Run run) is) d
  work_fitting (Some (Play project map_name run)) is held work d =
      read_play_fits project map_name run held (due held project) work (created_differ words (Play project map_name run) is) d
  work_fitting (Some (Watch watch)) is held work d = read_watch_fits watch held (due held watch.project) work (watch_differ words watch is) d
  work_fitting (Some (Bounds project cart map_name text_name)) is held work d =
      read_bounds_fit project cart map_name text_name (bounds_differ words project cart map_name text_name is) held (due held project) work d
  work_fitting (Some (Check project)) is held work d =
      fits_same (Some (Check project)) [] work.effects (sym (check_still project held (due held project) work d)) (no_effects (Some (Check project)))
  work_fitting (Some (Gen number project cart map_name)) is held work d =
      gen_fits number project cart map_name (gen_differ words number project cart map_name is) held (functions_due number) work d

  pub begun_fits : (held : Held) (effects : List Effect) → Begins (command_of words) held effects → Fits (command_of words) effects
  begun_fits held effects (begins_front same) = fits_same (command_of words) (front_of (command_of words)) effects (sym same) (front_fitting (command_of words) refl)
  begun_fits held effects (begins_work made made_is work d same) =
      fits_same (command_of words) (front_of (command_of words) ++ work.effects) effects (sym same) (work_fitting (command_of words) refl made work d)
