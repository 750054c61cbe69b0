-- The files of a run, one by one.
use Rattle.std.proofs.Common.{◌≡◌, ℕ, Bool, true, false, cond, List, [], ◌∷◌, ◌++◌, flat_map, refl, sym, ap, subst, ◌∙◌, inl, inr, append_assoc, append-nil}
use Rattle.std.specs.Prelude.{Option, Some, None}
use Rattle.std.specs.FinMap.{get}
use Rattle.kit_base.specs.Held.{Held}
use Rattle.kit_base.specs.Effects.{Effect, Creates, Appends, all_done, written_file}
use Rattle.asset_pack.specs.Words.{words_text}
use Rattle.run_files.specs.Screens.{frames_header, samples_header}
use Rattle.v32_isa.specs.State.{State}
use Rattle.v32_console.specs.Setup.{Setup}
use Rattle.v32_console.specs.Moments.{Moment}
use Rattle.v32_console.specs.Frames.{samples_of, screen_of}
use Rattle.run_core.specs.Outputs.{Names, frame_outputs, card_words, card_outputs, last_moment, run_outputs}
use Rattle.output_laws.specs.Bytes.{frame_ends, frames_bytes, samples_bytes, card_bytes}
use Rattle.output_laws.specs.Standing.{AreOther, IsNoCard, AreApart, IsNone, OutputsStand, FrontsStand, IsFrontOf, OutputsAreTheirBytes, CutOutputsAreFronts}
use Rattle.output_laws.specs.Begun.{is_among, CreatesOnce, creates, bytes_in, AreFronts, RunFrontsAreItsFiles}
use Rattle.output_laws.proofs.Tracked.{seen, seen_is, seen_both, Spares, spares_both, seen_spared, own_added, own_made, other_added, other_made, Adds, adds_both, spares_adds}
use Rattle.output_laws.proofs.Begun.{first_among, later_among, not_among, other_way, written_once, spares_unmade, created_first, created_later, own_bytes, bytes_behind, begun_fronts}

abbrev each_frame : Names → Setup → List Moment → List Effect
each_frame names u ms = flat_map (frame_outputs names u) ms

abbrev screens : Setup → List Moment → List ℕ
screens u ms = flat_map (λ m. words_text (screen_of u m)) ms

abbrev sounds : Setup → List Moment → List ℕ
sounds u ms = flat_map (λ m. words_text (samples_of u m)) ms

-- the card's file, made anew
abbrev card_effects : Bool → List ℕ → State → List Effect
card_effects b name s = cond b (Creates name ∷ Appends name (words_text (card_words s)) ∷ []) []

-- the name of the card's file is not in the list
abbrev pub IsNewCard : Option (List ℕ) → List (List ℕ) → Type 0
IsNewCard None made = Unit {0}
IsNewCard (Some name) made = is_among name made ≡ false

module _ (names : Names) (u : Setup) (apart : AreApart names) where
  abbrev f : List ℕ
  f = names.frames

  abbrev s : List ℕ
  s = names.samples

  -- frame by frame
  frames_seen : (ms : List Moment) (c : List ℕ) → seen f (each_frame names u ms) (Some c) ≡ Some (c ++ screens u ms)
  frames_seen [] c = ap Some (sym (append-nil c))
  frames_seen (m ∷ ms) c =
      let own = words_text (screen_of u m) in
      own_added f own (Appends s (words_text (samples_of u m)) ∷ each_frame names u ms) (Some c)
      ∙ other_added f s (words_text (samples_of u m)) (each_frame names u ms) (Some (c ++ own)) apart.frames_samples ∙ frames_seen ms (c ++ own) ∙ ap Some (append_assoc c own (screens u ms))

  samples_seen : (ms : List Moment) (c : List ℕ) → seen s (each_frame names u ms) (Some c) ≡ Some (c ++ sounds u ms)
  samples_seen [] c = ap Some (sym (append-nil c))
  samples_seen (m ∷ ms) c =
      let own = words_text (samples_of u m) in
      other_added s f (words_text (screen_of u m)) (Appends s own ∷ each_frame names u ms) (Some c) apart.samples_frames
      ∙ own_added s own (each_frame names u ms) (Some c) ∙ samples_seen ms (c ++ own) ∙ ap Some (append_assoc c own (sounds u ms))

  frames_spared : (x : List ℕ) (ms : List Moment) → AreOther x f → AreOther x s → Spares x (each_frame names u ms)
  frames_spared x [] one two = tt
  frames_spared x (m ∷ ms) one two = (one, (two, frames_spared x ms one two))

  frames_add : (x : List ℕ) (ms : List Moment) → Adds x (each_frame names u ms)
  frames_add x [] = tt
  frames_add x (m ∷ ms) = frames_add x ms

  card_spared : (x : List ℕ) (card : Option (List ℕ)) (z : State) → IsNoCard x card → Spares x (card_outputs card z)
  card_spared x None z h = tt
  card_spared x (Some name) z h = go z.has_card
    where
      go : (b : Bool) → Spares x (card_effects b name z)
      go true = (h, (h, tt))
      go false = tt

  module _ (count : ℕ) where
    abbrev ms : List Moment
    ms = frame_ends u count

    abbrev ended : State
    ended = (last_moment u count).state

    abbrev tail : List Effect
    tail = each_frame names u ms ++ card_outputs names.card ended

    -- ---- the frames

    frames_tail : List Effect
    frames_tail = Appends f frames_header ∷ Creates s ∷ Appends s samples_header ∷ tail

    frames_tail_adds : Adds f frames_tail
    unfolding frames_tail
    frames_tail_adds = (apart.frames_samples, adds_both f (each_frame names u ms) _ (frames_add f ms) (spares_adds f _ (card_spared f names.card ended apart.frames_card)))

    frames_whole : seen f frames_tail (Some []) ≡ Some (frames_bytes u count)
    unfolding frames_tail frames_bytes
    frames_whole =
        own_added f frames_header (Creates s ∷ Appends s samples_header ∷ tail) (Some []) ∙ other_made f s (Appends s samples_header ∷ tail) (Some frames_header) apart.frames_samples
        ∙ other_added f s samples_header tail (Some frames_header) apart.frames_samples ∙ seen_both f (each_frame names u ms) (card_outputs names.card ended) (Some frames_header)
        ∙ ap (seen f (card_outputs names.card ended)) (frames_seen ms frames_header)
        ∙ seen_spared f (card_outputs names.card ended) _ (card_spared f names.card ended apart.frames_card)

    -- ---- the samples

    samples_front : List Effect
    samples_front = Creates f ∷ Appends f frames_header ∷ []

    samples_tail : List Effect
    samples_tail = Appends s samples_header ∷ tail

    samples_front_spared : Spares s samples_front
    unfolding samples_front
    samples_front_spared = (apart.samples_frames, (apart.samples_frames, tt))

    samples_tail_adds : Adds s samples_tail
    unfolding samples_tail
    samples_tail_adds = adds_both s (each_frame names u ms) _ (frames_add s ms) (spares_adds s _ (card_spared s names.card ended apart.samples_card))

    samples_whole : seen s samples_tail (Some []) ≡ Some (samples_bytes u count)
    unfolding samples_tail samples_bytes
    samples_whole =
        own_added s samples_header tail (Some []) ∙ seen_both s (each_frame names u ms) (card_outputs names.card ended) (Some samples_header)
        ∙ ap (seen s (card_outputs names.card ended)) (samples_seen ms samples_header)
        ∙ seen_spared s (card_outputs names.card ended) _ (card_spared s names.card ended apart.samples_card)

    -- ---- the card

    heads_and_frames : List Effect
    heads_and_frames = Creates f ∷ Appends f frames_header ∷ Creates s ∷ Appends s samples_header ∷ each_frame names u ms

    heads_and_frames_spared : (x : List ℕ) → AreOther x f → AreOther x s → Spares x heads_and_frames
    unfolding heads_and_frames
    heads_and_frames_spared x one two = (one, (one, (two, (two, frames_spared x ms one two))))

    outputs_are : run_outputs names u count ≡ heads_and_frames ++ card_outputs names.card ended
    unfolding heads_and_frames run_outputs
    outputs_are = refl

    card_is : (name : List ℕ) → names.card ≡ Some name → (b : Bool) → ended.has_card ≡ b → card_outputs names.card ended ≡ card_effects b name ended
    card_is name e b h = ap (λ (c : Option (List ℕ)). card_outputs c ended) e ∙ ap (λ x. card_effects x name ended) h

    card_seen : (name : List ℕ) (v : Option (List ℕ)) → seen name (card_effects true name ended) v ≡ Some (card_bytes u count)
    unfolding card_bytes
    card_seen name v = own_made name (Appends name (words_text (card_words ended)) ∷ []) v ∙ own_added name (words_text (card_words ended)) [] (Some [])

    card_added : (name : List ℕ) → seen name (Appends name (words_text (card_words ended)) ∷ []) (Some []) ≡ Some (card_bytes u count)
    unfolding card_bytes
    card_added name = own_added name (words_text (card_words ended)) [] (Some [])

    pub none_spared : (x : List ℕ) → IsNone names x → Spares x (run_outputs names u count)
    none_spared x h = subst (Spares x) (sym outputs_are) (spares_both x heads_and_frames _ (heads_and_frames_spared x h.frames h.samples) (card_spared x names.card ended h.card))

    -- ---- all is done

    module _ (before after : Held) (is : Some after ≡ all_done (run_outputs names u count) (Some before)) where
      at : (x : List ℕ) → get after x ≡ seen x (run_outputs names u count) (get before x)
      at x = seen_is x (run_outputs names u count) before after is

      frames_at : get after f ≡ Some (frames_bytes u count)
      unfolding run_outputs frames_tail
      frames_at = at f ∙ own_made f frames_tail (get before f) ∙ frames_whole

      samples_at : get after s ≡ Some (samples_bytes u count)
      unfolding run_outputs samples_tail
      samples_at =
          at s ∙ other_made s f (Appends f frames_header ∷ Creates s ∷ samples_tail) (get before s) apart.samples_frames
          ∙ other_added s f frames_header (Creates s ∷ samples_tail) (get before s) apart.samples_frames ∙ own_made s samples_tail (get before s) ∙ samples_whole

      before_card : (name : List ℕ) → names.card ≡ Some name → seen name (run_outputs names u count) (get before name) ≡ seen name (card_outputs names.card ended) (get before name)
      before_card name e =
          ap (λ (es : List Effect). seen name es (get before name)) outputs_are ∙ seen_both name heads_and_frames (card_outputs names.card ended) (get before name)
          ∙ ap (seen name (card_outputs names.card ended)) (seen_spared name heads_and_frames (get before name) (heads_and_frames_spared name (apart.card_frames name e) (apart.card_samples name e)))

      pub whole : OutputsStand names u count before after
      whole = record {
        frames = frames_at;
        samples = samples_at;
        card = λ name e h. at name ∙ before_card name e ∙ ap (λ (es : List Effect). seen name es (get before name)) (card_is name e true h) ∙ card_seen name (get before name);
        no_card = λ name e h. at name ∙ before_card name e ∙ ap (λ (es : List Effect). seen name es (get before name)) (card_is name e false h);
        others = λ x h. at x ∙ seen_spared x (run_outputs names u count) (get before x) (none_spared x h);
      }

    -- ---- the outputs were begun

    -- nothing is created twice, behind files that are none of these
    module _ (made : List (List ℕ)) (frames_new : is_among f made ≡ false) (samples_new : is_among s made ≡ false) (card_new : IsNewCard names.card made) where
      abbrev all : List (List ℕ)
      all = s ∷ f ∷ made

      frames_made : is_among f all ≡ true
      frames_made = later_among f s (f ∷ made) (first_among f made)

      each_once : (later : List Moment) (es : List Effect) → CreatesOnce all es → CreatesOnce all (each_frame names u later ++ es)
      each_once [] es h = h
      each_once (m ∷ later) es h = (frames_made, (first_among s (f ∷ made), each_once later es h))

      card_once : (card : Option (List ℕ)) → IsNoCard f card → IsNoCard s card → IsNewCard card made → CreatesOnce all (card_outputs card ended)
      card_once None one two new = tt
      card_once (Some name) one two new = by ended.has_card
        where
          by : (b : Bool) → CreatesOnce all (card_effects b name ended)
          by true = (not_among name s (f ∷ made) (other_way s name two) (not_among name f made (other_way f name one) new), (first_among name all, tt))
          by false = tt

      pub run_once : CreatesOnce made (run_outputs names u count)
      unfolding run_outputs
      run_once = written_once made f frames_header (written_file s samples_header ++ tail) frames_new
          (written_once (f ∷ made) s samples_header tail (not_among s f made apart.samples_frames samples_new)
          (each_once ms (card_outputs names.card ended) (card_once names.card apart.frames_card apart.samples_card card_new)))

    frames_bytes_are : bytes_in f (run_outputs names u count) ≡ frames_bytes u count
    unfolding run_outputs frames_tail
    frames_bytes_are = own_bytes f (frames_bytes u count) frames_tail frames_tail_adds frames_whole

    samples_bytes_are : bytes_in s (run_outputs names u count) ≡ samples_bytes u count
    unfolding run_outputs samples_tail samples_front
    samples_bytes_are = bytes_behind s samples_front (Creates s ∷ samples_tail) samples_front_spared ∙ own_bytes s (samples_bytes u count) samples_tail samples_tail_adds samples_whole

    frames_created : creates f (run_outputs names u count) ≡ true
    unfolding run_outputs frames_tail
    frames_created = created_first f frames_tail

    samples_created : creates s (run_outputs names u count) ≡ true
    unfolding run_outputs samples_tail samples_front
    samples_created = created_later s samples_front (Creates s ∷ samples_tail) (created_first s samples_tail)

    module _ (before after : Held) (left : AreFronts (run_outputs names u count) before after) where
      card_by : (card : List ℕ) → names.card ≡ Some card → (b : Bool) → ended.has_card ≡ b → IsFrontOf (card_bytes u count) (get before card) (get after card)
      card_by card e true h =
          let es : run_outputs names u count ≡ heads_and_frames ++ card_effects true card ended = outputs_are ∙ ap (λ (l : List Effect). heads_and_frames ++ l) (card_is card e true h) in
          let spared = heads_and_frames_spared card (apart.card_frames card e) (apart.card_samples card e) in
          let added = Appends card (words_text (card_words ended)) ∷ [] in
          let bytes : bytes_in card (run_outputs names u count) ≡ card_bytes u count
          = ap (bytes_in card) es ∙ bytes_behind card heads_and_frames (Creates card ∷ added) spared ∙ own_bytes card (card_bytes u count) added tt (card_added card) in
          let there : creates card (run_outputs names u count) ≡ true = ap (creates card) es ∙ created_later card heads_and_frames (Creates card ∷ added) (created_first card added) in
          subst (λ (whole : List ℕ). IsFrontOf whole (get before card) (get after card)) bytes (left.created card there)
      card_by card e false h =
          let es : run_outputs names u count ≡ heads_and_frames ++ [] = outputs_are ∙ ap (λ (l : List Effect). heads_and_frames ++ l) (card_is card e false h) in
          let spared : Spares card (heads_and_frames ++ []) = spares_both card heads_and_frames [] (heads_and_frames_spared card (apart.card_frames card e) (apart.card_samples card e)) tt in
          inl (left.others card (ap (creates card) es ∙ spares_unmade card (heads_and_frames ++ []) spared))

      pub its_files : FrontsStand names u count before after
      its_files = record {
        frames = subst (λ (bytes : List ℕ). IsFrontOf bytes (get before f) (get after f)) frames_bytes_are (left.created f frames_created);
        samples = subst (λ (bytes : List ℕ). IsFrontOf bytes (get before s) (get after s)) samples_bytes_are (left.created s samples_created);
        card = λ card e. card_by card e ended.has_card refl;
        others = λ x h. left.others x (spares_unmade x (run_outputs names u count) (none_spared x h));
      }

-- in no list there is a card's file
pub no_list : (card : Option (List ℕ)) → IsNewCard card []
no_list None = tt
no_list (Some name) = refl

pub outputs_whole : OutputsAreTheirBytes
outputs_whole names u count before after apart is = whole names u apart count before after is

pub outputs_files : RunFrontsAreItsFiles
outputs_files names u count before after apart left = its_files names u apart count before after left

pub outputs_fronts : CutOutputsAreFronts
outputs_fronts names u count name before after apart cut =
    outputs_files names u count before after apart
    (begun_fronts (run_outputs names u count) before after (run_once names u apart count [] refl refl (no_list names.card)) (inr (name, cut)))
