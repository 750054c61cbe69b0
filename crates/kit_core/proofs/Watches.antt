-- From the parts of a watch to the whole.
use Rattle.std.proofs.Common.{ℕ, ◌≡◌, ◌+◌, Bool, List, [], ◌∷◌, inl, inr, length, take, refl, sym, ap, subst, ◌∙◌}
use Rattle.std.proofs.Math.Seq.{take-length}
use Rattle.std.specs.Prelude.{Option, Some, None, Result, Ok, Err, IfOk, IfSome, option_map}
use Rattle.kit_base.specs.Held.{Held, appended, emptied}
use Rattle.kit_base.specs.Effects.{all_done, written_file}
use Rattle.kit_base.specs.declared.name.Memory.{Memory}
use Rattle.kit_base.specs.declared.failure.Failure.TheVariants as failures
use Rattle.cart_format.specs.Cartridge.{Cartridge}
use Rattle.cart_format.specs.Reading.{cart_of}
use Rattle.c_check.specs.View.{program}
use Rattle.c_types.specs.Programs.{ProgramT}
use Rattle.c_meaning.specs.Runs.{final_of}
use Rattle.c_watch.specs.Watching.{watched_by}
use Rattle.v32_console.specs.Setup.{Setup}
use Rattle.c_image.specs.Imaging.{frame_sizes}
use Rattle.project_text.specs.MapText.{map_text}
use Rattle.build_core.specs.declared.building.Built.{Built}
use Rattle.build_core.specs.Build.{IsBuilt}
use Rattle.build_core.specs.BuiltFrom.{IsBuiltFrom}
use Rattle.kit_tools.specs.Refusal.{Refusal}
use Rattle.kit_tools.specs.declared.running.LoadedSettings.{LoadedSettings}
use Rattle.kit_tools.specs.declared.shown.Shown.{Shown}
use Rattle.kit_tools.specs.declared.verdict.Verdict.{Verdict}
use Rattle.kit_tools.specs.Carrying.{IsCarried, IsCut}
use Rattle.kit_tools.specs.Gaming.{settings_of}
use Rattle.kit_tools.specs.Watching.{watch_line, watch_settings_due}
use Rattle.kit_tools.specs.Work.{Work}
use Rattle.kit_tools.proofs.Cutting.{in_first, in_second, not_begun}
use Rattle.kit_words.specs.Command.{WatchWords}
use Rattle.kit_core.specs.declared.following.Watchable.{Watchable}
use Rattle.kit_core.specs.Due.{outputs_of, read_watch_due, watch_work, IsReadToWatch}
use Rattle.kit_core.specs.inner.Following.{shown_by}
use Rattle.kit_core.specs.Meaning.{console_of}
use Rattle.kit_core.specs.Watching.{done_in, ends_in, verdict_at, watched_in}
use Rattle.kit_core.proofs.Projects.{Left, WasRead, left_cut, left_done}

-- ---- the outputs

-- memory may run out before they are begun
outputs_not_begun : (cart map_name : List ℕ) (b : Built) (held : Option Held) → IsCut failures.Memory (outputs_of cart map_name b) held held
outputs_not_begun cart map_name b held = in_first failures.Memory (written_file cart b.cart) (written_file map_name (map_text b.map)) held held (not_begun cart b.cart held)

-- or once a file is written: its last bytes were appended whole
written_then : (name bytes : List ℕ) (before : Option Held) → IsCut failures.Memory (written_file name bytes) before (all_done (written_file name bytes) before)
written_then name bytes before =
    (name, inr (inl (refl, (length bytes, ap (λ (piece : List ℕ). option_map (appended name piece) (option_map (emptied name) before)) (sym (take-length bytes))))))

outputs_then : (cart map_name : List ℕ) (b : Built) (before : Option Held) → IsCut failures.Memory (outputs_of cart map_name b) before (all_done (outputs_of cart map_name b) before)
outputs_then cart map_name b before =
    in_second failures.Memory (written_file cart b.cart) (written_file map_name (map_text b.map)) before (all_done (written_file cart b.cart) before) (all_done (outputs_of cart map_name b) before)
    refl (written_then map_name (map_text b.map) (all_done (written_file cart b.cart) before))

module _ (words : WatchWords) (b : Built) (verdict : Verdict) where
  pub watch_not_begun : (r : Result Shown Refusal) (held : Option Held) → r ≡ Err failures.Memory → IsCarried (watch_work words b verdict) r held held
  watch_not_begun r held e = subst (λ x. IsCarried (watch_work words b verdict) x held held) (sym e) (outputs_not_begun words.cart words.map_name b held)

  pub watch_built_cut : (e : Refusal) (before after : Option Held) → IsCut e (outputs_of words.cart words.map_name b) before after → IsCarried (watch_work words b verdict) (Err e) before after
  watch_built_cut e before after h = h

  judged_by : (r : Result Verdict Memory) (before after : Option Held) → after ≡ all_done (outputs_of words.cart words.map_name b) before → IfOk r (λ v. v ≡ verdict)
      → IsCarried (watch_work words b verdict) (shown_by r) before after
  judged_by (Ok v) before after is e = record { outputs = is; text = ap watch_line e; status = refl }
  judged_by (Err e) before after is h = subst (λ x. IsCut failures.Memory (outputs_of words.cart words.map_name b) before x) (sym is) (outputs_then words.cart words.map_name b before)

  -- what was built is written, and the verdict is told
  pub watch_judged : (r : Result Verdict Memory) (s : Result Shown Refusal) (before after : Option Held) → s ≡ shown_by r → after ≡ all_done (outputs_of words.cart words.map_name b) before
      → IfOk r (λ v. v ≡ verdict) → IsCarried (watch_work words b verdict) s before after
  watch_judged r s before after shows is e = subst (λ x. IsCarried (watch_work words b verdict) x before after) (sym shows) (judged_by r before after is e)

-- ---- the verdict

-- the source is followed under what the run did
pub followed : (p : ProgramT) (frames : List ℕ) (u : Setup) (count events bound : ℕ) (ended : Bool) (sizes answers : List ℕ) (card : Option (List ℕ))
    → events ≡ length (done_in u count).events → ended ≡ ends_in u count → bound ≡ (done_in u count).instructions + 1 → sizes ≡ frames → answers ≡ (done_in u count).answers → card ≡ u.card
    → watched_by events ended (final_of p sizes bound answers card) ≡ watched_in p frames u count
unfolding watched_in
followed p frames u count events bound ended sizes answers card e1 e2 e3 e4 e5 e6 = λ i. watched_by (e1 i) (e2 i) (final_of p (e4 i) (e3 i) (e5 i) (e6 i))

-- ---- the whole

-- what was built of the checked source is built of the project
pub built_so : (text : List ℕ) (w : Watchable) (held : Option Held) → IfSome held (λ m. IsBuiltFrom m text w.checked w.built) → IfSome held (λ m. IsBuilt m text w.built)
built_so text w None h = tt
built_so text w (Some m) h = h.built

module _ (words : WatchWords) (text : List ℕ) (w : Watchable) (s : LoadedSettings) (cart : Cartridge) (cart_is : cart_of w.built.cart ≡ Ok cart) where
  abbrev pub Told : Option Held → Type 0
  Told held = IfSome held (λ m. watch_settings_due words m ≡ Ok (settings_of s))

  abbrev pub work : Work
  work = watch_work words w.built (verdict_at w.checked.places (watched_in (program w.checked.program) (frame_sizes w.built.map) (console_of cart (settings_of s)) s.count))

  is_due : (h1 h2 : Option Held) → h2 ≡ h1 → IfSome h1 (λ m. IsBuiltFrom m text w.checked w.built) → Told h2 → IfSome h1 (λ m. read_watch_due words m (Ok text) (Ok work))
  is_due None h2 same built told = tt
  is_due (Some m) h2 same built told = record {
    built = w.built;
    is_built = built.built;
    cart = cart;
    cart_is = cart_is;
    settings = settings_of s;
    settings_are = subst Told same told;
    work_is = λ i. watch_work words w.built (verdict_at (built.image_is.places_are i) (watched_in (built.image_is.program_is i) (frame_sizes w.built.map) (console_of cart (settings_of s)) s.count));
  }

  pub watch_left : (r : Result Shown Refusal) (h0 h1 h2 h3 h4 : Option Held) → WasRead words.project (read_watch_due words) (IsReadToWatch words) text h0 → h1 ≡ h0
      → IfSome h1 (λ m. IsBuiltFrom m text w.checked w.built) → h2 ≡ h1 → Told h2 → h3 ≡ h2 → IsCarried work r h3 h4 → Left words.project (read_watch_due words) (IsReadToWatch words) h0 h4 r
  watch_left (Ok v) h0 h1 h2 h3 h4 read e1 built e2 told e3 carried =
      left_done words.project (read_watch_due words) (IsReadToWatch words) text work v h0 h1 h3 h4 carried.text carried.status read e1 (is_due h1 h2 e2 built told) (e3 ∙ e2) carried.outputs
  watch_left (Err e) h0 h1 h2 h3 h4 read e1 built e2 told e3 carried =
      left_cut words.project (read_watch_due words) (IsReadToWatch words) text work e h0 h1 h3 h4 read e1 (is_due h1 h2 e2 built told) (e3 ∙ e2) carried
