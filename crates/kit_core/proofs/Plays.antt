-- From the parts of a play to the whole, and what its statuses 0 and 3 say.
use Rattle.std.proofs.Common.{ℕ, ◌≡◌, ◌⊎◌, List, refl, sym, ap, subst, ◌∙◌}
use Rattle.std.specs.Prelude.{Option, Some, None, Result, Ok, Err, IfSome}
use Rattle.kit_base.specs.Held.{Held}
use Rattle.kit_base.specs.Effects.{all_done, written_file}
use Rattle.kit_base.specs.Outside.{due}
use Rattle.kit_base.specs.declared.outside.FileErr.{FileErr}
use Rattle.kit_base.proofs.Cuts.{all_done-append}
use Rattle.kit_base.specs.declared.failure.Failure.TheVariants as failures
use Rattle.build_core.specs.declared.building.Built.{Built}
use Rattle.build_core.specs.Build.{IsBuilt}
use Rattle.project_text.specs.MapText.{map_text}
use Rattle.run_core.specs.Outputs.{run_outputs}
use Rattle.kit_tools.specs.Refusal.{Refusal}
use Rattle.kit_tools.specs.declared.running.Loaded.{Loaded}
use Rattle.kit_tools.specs.declared.running.LoadedSettings.{LoadedSettings}
use Rattle.kit_tools.specs.declared.shown.Shown.{Shown}
use Rattle.play_laws.specs.Played.{PlayedRunsAreTheSources, PlayedRunsComeToAll}
use Rattle.kit_words.specs.Command.{RunWords, Play, command_of}
use Rattle.kit_words.proofs.Created.{created_differ}
use Rattle.kit_core.specs.Due.{form_due, outputs_of, play_due, play_effects, play_work, read_play_due, IsReadToPlay}
use Rattle.kit_tools.specs.Work.{Work}
use Rattle.kit_tools.specs.Running.{Game, game_with, names_in, run_work, settings_due}
use Rattle.kit_core.specs.inner.Playing.{IsGameOf}
use Rattle.kit_tools.specs.Gaming.{game_of, settings_of}
use Rattle.kit_tools.specs.Carrying.{IsCarried, IsCut}
use Rattle.kit_core.specs.Headline.{IsPlayedInto, PlayStands}
use Rattle.kit_core.specs.Outcome.{putting, IsOutcome}
use Rattle.kit_tools.proofs.Cutting.{in_first, in_second, not_begun}
use Rattle.kit_core.specs.Generating.{front_of}
use Rattle.kit_core.proofs.Behind.{plain_ends}
use Rattle.kit_core.proofs.Headlines.{done_at_three}
use Rattle.kit_core.proofs.Holdings.{PlayApart, play_apart, play_files}
use Rattle.kit_core.proofs.Meanings.{run_meant, settings_card}
use Rattle.kit_core.proofs.Projects.{Left, WasRead, left_cut, left_done}

module _ (project text map_name : List ℕ) (words : RunWords) where
  abbrev pub Told : Option Held → LoadedSettings → Type 0
  Told held s = IfSome held (λ m. settings_due words m ≡ Ok (settings_of s))

  module _ (b : Built) (s : LoadedSettings) (g : Loaded) (of : IsGameOf b s g) where
    abbrev pub work : Work
    work = play_work map_name words b (game_of g)

    pub is_due : (h1 h2 : Option Held) → h2 ≡ h1 → IfSome h1 (λ m. IsBuilt m text b) → Told h2 s → IfSome h1 (λ m. read_play_due project map_name words m (Ok text) (Ok work))
    is_due None h2 same built told = tt
    is_due (Some m) h2 same built told = record {
      built = b;
      is_built = built;
      cart = g.cart;
      cart_is = of.cart_is;
      settings = settings_of s;
      settings_are = subst (λ o. Told o s) same told;
      work_is = ap (play_work map_name words b) (sym of.game_is);
    }

    pub play_left : (r : Result Shown Refusal) (h0 h1 h2 h3 h4 : Option Held) → WasRead project (read_play_due project map_name words) (IsReadToPlay words) text h0 → h1 ≡ h0 → IfSome h1 (λ m. IsBuilt m text b) → h2 ≡ h1 → Told h2 s → h3 ≡ h2
        → IsCarried work r h3 h4 → Left project (read_play_due project map_name words) (IsReadToPlay words) h0 h4 r
    play_left (Ok v) h0 h1 h2 h3 h4 read e1 built e2 told e3 carried =
        left_done project (read_play_due project map_name words) (IsReadToPlay words) text work v h0 h1 h3 h4 carried.text carried.status read e1 (is_due h1 h2 e2 built told) (e3 ∙ e2) carried.outputs
    play_left (Err e) h0 h1 h2 h3 h4 read e1 built e2 told e3 carried =
        left_cut project (read_play_due project map_name words) (IsReadToPlay words) text work e h0 h1 h3 h4 read e1 (is_due h1 h2 e2 built told) (e3 ∙ e2) carried

-- ---- the outputs

module _ (map_name : List ℕ) (words : RunWords) (b : Built) (game : Game) where
  abbrev whole : Work
  whole = play_work map_name words b game

  -- memory may run out before the first file is begun
  pub play_not_begun : (r : Result Shown Refusal) (held : Option Held) → r ≡ Err failures.Memory → IsCarried whole r held held
  play_not_begun r held e = subst (λ x. IsCarried whole x held held) (sym e)
      (in_first failures.Memory (outputs_of words.cart map_name b) (run_outputs (names_in words) game.setup game.count) held held
      (in_first failures.Memory (written_file words.cart b.cart) (written_file map_name (map_text b.map)) held held (not_begun words.cart b.cart held)))

  -- what was built may be cut short
  pub play_built_cut : (e : Refusal) (before after : Option Held) → IsCut e (outputs_of words.cart map_name b) before after → IsCarried whole (Err e) before after
  play_built_cut e before after h = in_first e (outputs_of words.cart map_name b) (run_outputs (names_in words) game.setup game.count) before after h

  -- and then the run writes
  pub play_written : (r : Result Shown Refusal) (before middle after : Option Held) → middle ≡ all_done (outputs_of words.cart map_name b) before → IsCarried (run_work (names_in words) game) r middle after → IsCarried whole r before after
  play_written (Ok v) before middle after is h = record {
    outputs = h.outputs ∙ ap (all_done (run_outputs (names_in words) game.setup game.count)) is
        ∙ sym (all_done-append (outputs_of words.cart map_name b) (run_outputs (names_in words) game.setup game.count) before);
    text = h.text;
    status = h.status;
  }
  play_written (Err e) before middle after is h = in_second e (outputs_of words.cart map_name b) (run_outputs (names_in words) game.setup game.count) before middle after is h

-- ---- what the statuses 0 and 3 say

module _ (does : PlayedRunsAreTheSources) (comes : PlayedRunsComeToAll) where
  played_into : (project map_name : List ℕ) (words : RunWords) (m : Held) (status : ℕ) (after : Option Held) (before put : Option (List ℕ)) (w : Work) (r : Result (List ℕ) FileErr)
      → PlayApart map_name words → due m project ≡ r → read_play_due project map_name words m r (Ok w) → after ≡ all_done w.effects (Some m) → put ≡ putting w.text before → status ≡ w.status
      → IsPlayedInto project map_name words m status after before put
  played_into project map_name words m status after before put w (Ok text) apart read d e p s =
      let stands : after ≡ all_done (play_effects map_name words d.built (game_with d.cart d.settings)) (Some m) = e ∙ ap (λ (v : Work). all_done v.effects (Some m)) (sym d.work_is) in
      record {
        text = text;
        built = d.built;
        project_is = read;
        is_built = d.is_built;
        cart = d.cart;
        cart_is = d.cart_is;
        settings = d.settings;
        settings_are = d.settings_are;
        outputs = stands;
        files = play_files map_name words d.built (game_with d.cart d.settings) m apart after stands;
        run = run_meant does comes m text d.built d.is_built d.cart d.cart_is d.settings.script d.settings.card (settings_card 3600 words.pads words.card words.count m d.settings d.settings_are) d.settings.count;
        status_is = s ∙ ap (λ (v : Work). v.status) (sym d.work_is);
        told = p ∙ ap (λ (v : Work). putting v.text before) (sym d.work_is);
      }
  played_into project map_name words m status after before put w (Err f) apart read d e p s = absurd cc

  play_stands : (words : List (List ℕ)) (m : Held) (status : ℕ) (after : Option Held) (before put : Option (List ℕ))
      → IsOutcome words m status after before put → (status ≡ 0) ⊎ (status ≡ 3) → PlayStands words m status after before put
  play_stands words m status after before put outcome z = λ project map_name run named.
      let done = done_at_three _ _ m status after before put (plain_ends (command_of words) m status after before put (ap front_of named) outcome) z in
      let is_due : play_due project map_name run m (Ok done.0) = subst (λ o. form_due o m (Ok done.0)) named done.1 in
      let apart = play_apart map_name run (created_differ words (Play project map_name run) named) in
      played_into project map_name run m status after before put done.0 (due m project) apart refl is_due done.2 done.3 done.4

  pub play_told : (words : List (List ℕ)) (status : ℕ) (told after : Option Held) (before put : Option (List ℕ))
      → IfSome told (λ m. IsOutcome words m status after before put) → IfSome told (λ m. (status ≡ 0) ⊎ (status ≡ 3) → PlayStands words m status after before put)
  play_told words status None after before put outcome = tt
  play_told words status (Some m) after before put outcome = play_stands words m status after before put outcome
