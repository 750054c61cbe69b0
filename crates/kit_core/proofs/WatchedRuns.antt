-- What a watch judges, and what its status 0 says.
use Rattle.std.proofs.Common.{ℕ, ◌≡◌, ◌≤◌, ◌+◌, Bool, true, false, not, List, length, refl, sym, ap, subst, ◌∙◌}
use Rattle.std.specs.Prelude.{◌↔◌, ◌||◌, nat_lt, Option, Some, None, Result, Ok, Err, IfSome, if◌then◌else◌}
use Rattle.std.specs.Str.{bytes_eq}
use Rattle.kit_base.specs.Held.{Held}
use Rattle.kit_base.specs.Effects.{all_done}
use Rattle.kit_base.specs.Outside.{due}
use Rattle.kit_base.specs.declared.outside.FileErr.{FileErr}
use Rattle.obj_mem.specs.Runs.{IsCard}
use Rattle.cart_format.specs.Cartridge.{Cartridge}
use Rattle.cart_format.specs.Reading.{cart_of}
use Rattle.project_text.specs.declared.map.Map.{Map}
use Rattle.c_types.specs.Programs.{ProgramT}
use Rattle.c_meaning.specs.Runs.{Final, final_of}
use Rattle.c_image.specs.Imaging.{frame_sizes}
use Rattle.c_watch.specs.declared.verdict.Watched.{Watched}
use Rattle.c_watch.specs.declared.verdict.Watched.TheVariants.{Met}
use Rattle.c_watch.specs.Watching.{verdict_of, watched_by}
use Rattle.v32_console.specs.declared.frame_end.FrameEnd.{FrameEnd}
use Rattle.v32_console.specs.Setup.{Setup}
use Rattle.v32_console.specs.Moments.{Moment, Phase, Opened, Running, Left, goes_on, console_at}
use Rattle.v32_console.specs.History.{operations_at}
use Rattle.v32_console.specs.Machine.{Operations}
use Rattle.v32_console.specs.Runs.{RunsAreOfInstructions}
use Rattle.run_core.specs.Outputs.{end_of, last_moment}
use Rattle.run_core.proofs.Going.{last_is}
use Rattle.build_core.specs.declared.building.Built.{Built}
use Rattle.build_core.specs.Build.{IsBuilt}
use Rattle.play_laws.specs.Played.{meant_at, played}
use Rattle.play_laws.specs.Keeping.{EndedRunsAreWhole, Follows, KeepsAt, KeptRunsAreTheSources, WatchDecides, has_ended, watched_at}
use Rattle.kit_words.specs.Command.{WatchWords, command_of}
use Rattle.kit_words.proofs.Created.{watch_differ}
use Rattle.kit_tools.specs.Running.{Settings}
use Rattle.kit_tools.specs.Watching.{watch_line, watch_settings_due}
use Rattle.kit_tools.specs.Work.{Work}
use Rattle.kit_core.specs.Due.{form_due, outputs_of, read_watch_due, watch_due, watch_work}
use Rattle.kit_core.specs.Generating.{front_of}
use Rattle.kit_core.specs.Meaning.{console_of}
use Rattle.kit_core.specs.Outcome.{IsOutcome, putting}
use Rattle.kit_core.specs.Watched.{IsJudged, IsWatched, WatchStands}
use Rattle.kit_core.specs.Watching.{done_in, ends_in, verdict_at, watched_in}
use Rattle.kit_core.proofs.Behind.{plain_ends}
use Rattle.kit_core.proofs.Headlines.{cart_there, done_at_zero, map_there}
use Rattle.kit_core.proofs.Meanings.{settings_card}

-- ---- where the run is

ended_by : (phase : Phase) → not (goes_on (end_of phase)) ≡ has_ended phase
ended_by Opened = refl
ended_by (Running done) = refl
ended_by (Left end) = refl

-- a run of at most so many frames is so many instructions and frame edges, with its operations
record IsAt (u : Setup) (count : ℕ) : Type 0 where
  k : ℕ
  k_is : console_at u k ≡ last_moment u count
  operations_are : operations_at u k ≡ done_in u count

is_at : RunsAreOfInstructions → (u : Setup) (count : ℕ) → IsAt u count
is_at runs u count =
    let run = runs u count in
    record { k = run.k; k_is = run.there ∙ last_is u count; operations_are = run.operations_are }

module _ (p : ProgramT) (frames : List ℕ) (u : Setup) (count : ℕ) (at : IsAt u count) where
  ends_so : ends_in u count ≡ has_ended (console_at u at.k).phase
  ends_so = ended_by (last_moment u count).phase ∙ ap (λ (m : Moment). has_ended m.phase) (sym at.k_is)

  -- the verdict is that of the run's operations
  verdict_is : watched_in p frames u count ≡ watched_at p frames u at.k
  unfolding watched_in
  verdict_is =
      let done : done_in u count ≡ operations_at u at.k = sym at.operations_are in
      λ i. watched_by (length (done i).events) (ends_so i) (final_of p frames ((done i).instructions + 1) (done i).answers u.card)

either_way : (b : Bool) (v : Watched) → ((if b then v else Met) ≡ Met → ⊥) → (if b then v else Met) ≡ v
either_way true v h = refl
either_way false v h = absurd (h refl)

-- a verdict that is not `Met` is the end
else_the_end : (events : ℕ) (ended : Bool) (x : Final) → (watched_by events ended x ≡ Met → ⊥) → watched_by events ended x ≡ verdict_of x.end
unfolding watched_by
else_the_end events ended x h = either_way (ended || nat_lt (length x.world.events) events) (verdict_of x.end) h

-- ---- the laws

module _ (runs : RunsAreOfInstructions) (decides : WatchDecides) (follow : KeptRunsAreTheSources) (are_whole : EndedRunsAreWhole) where
  module _ (m : Held) (text : List ℕ) (b : Built) (built : IsBuilt m text b) (cart : Cartridge) (cart_is : cart_of b.cart ≡ Ok cart) (s : Settings) (card : IsCard s.card) where
    judged_with : (map : Map) → map ≡ built.of.image.map
        → IsJudged built.of.program (frame_sizes map) (console_of cart s) s.count (watched_in built.of.program (frame_sizes map) (console_of cart s) s.count)
    judged_with map same =
        subst (λ (map : Map). IsJudged built.of.program (frame_sizes map) (console_of cart s) s.count (watched_in built.of.program (frame_sizes map) (console_of cart s) s.count)) (sym same)
        (let at = is_at runs (console_of cart s) s.count in
        let e = verdict_is built.of.program (frame_sizes built.of.image.map) (console_of cart s) s.count at in
        let kept = decides m text b built cart cart_is s.script s.card card at.k in
        record {
          k = at.k;
          k_is = at.k_is;
          judged = ((λ met. kept.1 (sym e ∙ met)), (λ keeps. e ∙ kept.0 keeps));
          fails = λ other. e ∙ else_the_end _ _ _ (λ met. other (e ∙ met));
          follows = λ met bound le. follow m text b built cart cart_is s.script s.card card at.k (kept.1 (sym e ∙ met)) bound le;
          whole = λ met ended. are_whole m text b built cart cart_is s.script s.card card at.k (kept.1 (sym e ∙ met)) ended;
        })

  watched_into : (words : WatchWords) (m : Held) (after : Option Held) (before put : Option (List ℕ)) (w : Work) (r : Result (List ℕ) FileErr) → bytes_eq words.cart words.map_name ≡ false
      → due m words.project ≡ r → read_watch_due words m r (Ok w) → after ≡ all_done w.effects (Some m) → put ≡ putting w.text before → IsWatched words m after before put
  watched_into words m after before put w (Ok text) differ read d e p =
      let stands : after ≡ all_done (outputs_of words.cart words.map_name d.built) (Some m) = e ∙ ap (λ (v : Work). all_done v.effects (Some m)) (sym d.work_is) in
      record {
        text = text;
        built = d.built;
        project_is = read;
        is_built = d.is_built;
        outputs = stands;
        cart_stands = cart_there m words.cart words.map_name d.built after differ stands;
        map_stands = map_there m words.cart words.map_name d.built after stands;
        cart = d.cart;
        cart_is = d.cart_is;
        settings = d.settings;
        settings_are = d.settings_are;
        verdict = watched_in d.is_built.of.program (frame_sizes d.built.map) (console_of d.cart d.settings) d.settings.count;
        told = p ∙ ap (λ (v : Work). putting v.text before) (sym d.work_is);
        is_judged = judged_with m text d.built d.is_built d.cart d.cart_is d.settings (settings_card 600 words.pads words.card words.count m d.settings d.settings_are) d.built.map d.is_built.map_is;
      }
  watched_into words m after before put w (Err f) differ read d e p = absurd cc

  watch_stands : (words : List (List ℕ)) (m : Held) (status : ℕ) (after : Option Held) (before put : Option (List ℕ))
      → IsOutcome words m status after before put → status ≡ 0 → WatchStands words m after before put
  watch_stands words m status after before put outcome z = λ watch named.
      let done = done_at_zero _ _ m status after before put (plain_ends (command_of words) m status after before put (ap front_of named) outcome) z in
      let is_due : watch_due watch m (Ok done.0) = subst (λ o. form_due o m (Ok done.0)) named done.1 in
      watched_into watch m after before put done.0 (due m watch.project) (watch_differ words watch named) refl is_due done.2 done.3

  pub watch_told : (words : List (List ℕ)) (status : ℕ) (told after : Option Held) (before put : Option (List ℕ))
      → IfSome told (λ m. IsOutcome words m status after before put) → IfSome told (λ m. status ≡ 0 → WatchStands words m after before put)
  watch_told words status None after before put outcome = tt
  watch_told words status (Some m) after before put outcome = watch_stands words m status after before put outcome
