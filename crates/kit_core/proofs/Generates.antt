-- From the parts of `gen` to the whole, and what its status 0 says.
use Rattle.std.proofs.Common.{ℕ, ◌≡◌, inl, inr, false, List, ◌++◌, refl, sym, ap, subst, ◌∙◌, arith}
use Rattle.std.specs.Prelude.{Option, Some, None, Result, Ok, Err, IfSome, IsSomeAnd}
use Rattle.std.specs.Bool.{one_answer}
use Rattle.std.specs.Str.{bytes_eq}
use Rattle.std.specs.FinMap.{get}
use Rattle.std.proofs.lemmas.Slice.Eq.{bytes_eq-Decides}
use Rattle.kit_base.specs.Held.{Held}
use Rattle.kit_base.specs.Effects.{Effect, all_done, written_file}
use Rattle.kit_base.proofs.Cuts.{all_done-append}
use Rattle.kit_base.specs.declared.failure.Failure.TheVariants as failures
use Rattle.cart_format.specs.Cartridge.{Cartridge}
use Rattle.v32_console.specs.Setup.{Setup}
use Rattle.run_core.specs.Stands.{RunParts, RunStands}
use Rattle.kit_core.specs.Plain.{color_after, plain_pads, plain_setup}
use Rattle.play_laws.specs.Played.{PlayedRunsAreTheSources, PlayedRunsComeToAll}
use Rattle.gen_source.specs.Source.{project_text, source_text}
use Rattle.gen_source.specs.Summary.{summary_end, summary_front}
use Rattle.project_text.specs.MapText.{map_text}
use Rattle.build_core.specs.declared.building.Built.{Built}
use Rattle.build_core.specs.Build.{IsBuilt}
use Rattle.build_core.specs.Reached.{IsReadToBuild}
use Rattle.cart_format.specs.Reading.{cart_of}
use Rattle.kit_tools.specs.declared.refusal.DueRefusal.{DueRefusal}
use Rattle.kit_tools.specs.Refusal.{Refusal}
use Rattle.kit_tools.specs.declared.refusal.RefusalCause.TheVariants as refusals
use Rattle.kit_tools.specs.declared.shown.Shown.{Shown}
use Rattle.kit_tools.specs.Work.{Work}
use Rattle.kit_tools.specs.Carrying.{FailsIn, IsCarried, IsCut, LeavesBy}
use Rattle.kit_tools.proofs.Cutting.{in_first, not_begun}
use Rattle.kit_tools.proofs.Stages.{cut}
use Rattle.kit_words.specs.Command.{Gen}
use Rattle.kit_words.specs.Forms.{source_name}
use Rattle.kit_words.proofs.Created.{AreFour, gen_differ}
use Rattle.kit_core.specs.inner.Checking.{TextBuilt}
use Rattle.kit_core.specs.Due.{form_due, functions_gen_due, gen_work, number_gen_due, outputs_of}
use Rattle.kit_core.specs.inner.Fronts.{Carries, GivesNumber}
use Rattle.kit_core.specs.Generating.{front_of, functions_due, most_frames, sources_due, sources_of}
use Rattle.kit_core.specs.Headline.{GenStands, IsGeneratedInto}
use Rattle.kit_core.specs.Outcome.{putting, ComesInFront, IsOutcome, FrontCutOff, FrontFault}
use Rattle.kit_core.proofs.Behind.{some_made}
use Rattle.kit_core.proofs.Headlines.{done_at_zero}
use Rattle.kit_core.proofs.Meanings.{run_meant}
use Rattle.kit_core.proofs.Projects.{refused}
use Rattle.kit_core.proofs.Writes.{get_written, get_unwritten}

-- ---- the parts

-- memory may run out before the first output is begun
pub outputs_not_begun : (n : ℕ) (cart map_name : List ℕ) (b : Built) (c : Cartridge) (r : Result Shown Refusal) (held : Option Held) → r ≡ Err failures.Memory
    → IsCarried (gen_work n cart map_name b c) r held held
outputs_not_begun n cart map_name b c r held is = subst (λ x. IsCarried (gen_work n cart map_name b c) x held held) (sym is)
    (in_first failures.Memory (written_file cart b.cart) (written_file map_name (map_text b.map)) held held (not_begun cart b.cart held))

-- the outputs are done, and the run
pub outputs_written : (n : ℕ) (cart map_name : List ℕ) (b : Built) (c : Cartridge) (front : List ℕ) (color : ℕ)
    → front ≡ summary_front n b.tokens → color ≡ color_after (plain_setup c) most_frames → front ++ summary_end color ≡ (gen_work n cart map_name b c).text
outputs_written n cart map_name b c front color e k = λ i. e i ++ summary_end (k i)

sixty : 60 ≡ most_frames
unfolding most_frames
sixty = refl

pub all_frames : (u : Setup) (r : RunParts) → RunStands u 60 r → RunStands u most_frames r
all_frames u r h = record { console = h.console; count_is = h.count_is ∙ sixty }

module _ (n : ℕ) (project cart map_name : List ℕ) where
  abbrev pub GenLeft : Option Held → Option Held → Result Shown Refusal → Type 0
  GenLeft before after r = IfSome before (λ m. LeavesBy r (functions_gen_due n project cart map_name m) (IsReadToBuild m project_text) m after)

  pub gen_refused : (e : Refusal) (h0 h1 : Option Held) → IfSome h0 (λ m. TextBuilt project project_text m (Err e)) → IfSome h0 (λ m. FailsIn (IsReadToBuild m project_text) e)
      → h1 ≡ h0 → GenLeft h0 h1 (Err e)
  gen_refused e None h1 built reached same = tt
  gen_refused e (Some m) h1 built reached same = refused (functions_gen_due n project cart map_name m) (IsReadToBuild m project_text) e m h1 built reached same

  pub gen_no_memory : (h0 h1 : Option Held) → h1 ≡ h0 → GenLeft h0 h1 (Err failures.Memory)
  gen_no_memory None h1 same = tt
  gen_no_memory (Some m) h1 same = inl same

  pub gen_left : (b : Built) (c : Cartridge) → cart_of b.cart ≡ Ok c → (r : Result Shown Refusal) (h0 h1 h2 : Option Held) → IfSome h0 (λ m. IsBuilt m project_text b) → h1 ≡ h0
      → IsCarried (gen_work n cart map_name b c) r h1 h2 → GenLeft h0 h2 r
  gen_left b c read r None h1 h2 built same carried = tt
  gen_left b c read (Ok v) (Some m) h1 h2 built same carried = (
    gen_work n cart map_name b c,
    record { built = b; is_built = built; cartridge = c; cartridge_is = read; work_is = refl },
    carried.outputs ∙ ap (all_done (outputs_of cart map_name b)) same,
    carried.text,
    carried.status,
  )
  gen_left b c read (Err e) (Some m) h1 h2 built same carried =
      cut e (gen_work n cart map_name b c) (functions_gen_due n project cart map_name m) (IsReadToBuild m project_text) m h2
      (record { built = b; is_built = built; cartridge = c; cartridge_is = read; work_is = refl })
      (subst (λ h. IsCut e (outputs_of cart map_name b) h h2) same carried)

-- ---- the whole

-- a cut is one inside the front
in_front : (e : Refusal) (front : List Effect) (m : Held) (after : Option Held) → IsCut e front (Some m) after → ComesInFront e front m after
in_front (failures.Cause (refusals.Due r)) front m after h = absurd h
in_front (failures.Cause (refusals.Failed name)) front m after h = h
in_front failures.Memory front m after h = inr h

module _ (number project cart map_name : List ℕ) where
  abbrev pub GenCarries : Option Held → Option Held → Result Shown Refusal → Type 0
  GenCarries before after r = IfSome before (λ m. Carries r (Some (Gen number project cart map_name)) m after)

  -- the number is told, or memory runs out
  number_refused : (e : Refusal) (m : Held) → GivesNumber (Err e) (functions_due number) → Carries (Err e) (Some (Gen number project cart map_name)) m (Some m)
  number_refused (failures.Cause (refusals.Due r)) m h = inl (record {
    made = m;
    made_is = ap (λ d. all_done (sources_due project d) (Some m)) h;
    leaves = (subst (λ d. number_gen_due d project cart map_name m (Err r)) (sym h) refl, refl);
  })
  number_refused (failures.Cause (refusals.Failed name)) m h = absurd h
  number_refused failures.Memory m h = inr (inl refl)

  pub without_number : (e : Refusal) (h0 : Option Held) → GivesNumber (Err e) (functions_due number) → GenCarries h0 h0 (Err e)
  without_number e None h = tt
  without_number e (Some m) h = number_refused e m h

  module _ (n : ℕ) (is : functions_due number ≡ Ok n) where
    pub front_cut : (e : Refusal) (h0 h1 : Option Held) → IsCut e (sources_of project n) h0 h1 → GenCarries h0 h1 (Err e)
    front_cut e None h1 h = tt
    front_cut e (Some m) h1 h = inr (subst (λ d. ComesInFront e (sources_due project d) m h1) (sym is) (in_front e (sources_of project n) m h1 h))

    left_behind : (r : Result Shown Refusal) (m made : Held) (h2 : Option Held) → all_done (sources_of project n) (Some m) ≡ Some made
        → LeavesBy r (functions_gen_due n project cart map_name made) (IsReadToBuild made project_text) made h2 → Carries r (Some (Gen number project cart map_name)) m h2
    left_behind r m made h2 made_is h = inl (record {
      made = made;
      made_is = ap (λ d. all_done (sources_due project d) (Some m)) is ∙ made_is;
      leaves = subst (λ d. LeavesBy r (number_gen_due d project cart map_name made) (IsReadToBuild made project_text) made h2) (sym is) h;
    })

    pub behind_front : (r : Result Shown Refusal) (h0 h1 h2 : Option Held) → h1 ≡ all_done (sources_of project n) h0 → GenLeft n project cart map_name h1 h2 r → GenCarries h0 h2 r
    behind_front r None h1 h2 same h = tt
    behind_front r (Some m) h1 h2 same h =
        let made = some_made (sources_of project n) m in
        left_behind r m made.0 h2 made.1 (subst (λ o. GenLeft n project cart map_name o h2 r) (same ∙ made.1) h)

-- ---- what the status 0 says

differ_back : (a b : List ℕ) → bytes_eq a b ≡ false → bytes_eq b a ≡ false
differ_back a b h =
    let d = bytes_eq-Decides a b in
    let e = bytes_eq-Decides b a in
    one_answer {P = b ≡ a} (bytes_eq b a) (bytes_eq a b) e ((λ t. sym (d.0 t)), (λ p. d.1 (sym p))) ∙ h

module _ (m : Held) (project cart map_name : List ℕ) (n : ℕ) (b : Built) (after : Option Held) (four : AreFour project cart map_name)
    (is : after ≡ all_done (sources_of project n ++ outputs_of cart map_name b) (Some m)) where
  map_there : IsSomeAnd after (λ files. get files map_name ≡ Some (map_text b.map))
  map_there = subst (λ h. IsSomeAnd h (λ files. get files map_name ≡ Some (map_text b.map))) (sym is) (get_written _ map_name (map_text b.map))

  cart_there : IsSomeAnd after (λ files. get files cart ≡ Some b.cart)
  cart_there = subst (λ h. IsSomeAnd h (λ files. get files cart ≡ Some b.cart)) (sym is)
      (get_unwritten _ map_name (map_text b.map) cart four.cart_map ∙ get_written _ cart b.cart)

  source_there : IsSomeAnd after (λ files. get files source_name ≡ Some (source_text n))
  source_there = subst (λ h. IsSomeAnd h (λ files. get files source_name ≡ Some (source_text n))) (sym is)
      (get_unwritten _ map_name (map_text b.map) source_name four.source_map ∙ get_unwritten _ cart b.cart source_name four.source_cart ∙ get_written _ source_name (source_text n))

  project_there : IsSomeAnd after (λ files. get files project ≡ Some project_text)
  project_there = subst (λ h. IsSomeAnd h (λ files. get files project ≡ Some project_text)) (sym is)
      (get_unwritten _ map_name (map_text b.map) project four.project_map ∙ get_unwritten _ cart b.cart project four.project_cart
      ∙ get_unwritten _ source_name (source_text n) project (differ_back source_name project four.source_project) ∙ get_written m project project_text)

module _ (does : PlayedRunsAreTheSources) (comes : PlayedRunsComeToAll) (number project cart map_name : List ℕ) (m : Held) (after : Option Held) (before put : Option (List ℕ))
    (four : AreFour project cart map_name) where
  generated_into : (work : Work) (made : Held) (d : Result ℕ DueRefusal) → functions_due number ≡ d → all_done (sources_due project d) (Some m) ≡ Some made
      → number_gen_due d project cart map_name made (Ok work) → after ≡ all_done work.effects (Some made) → put ≡ putting work.text before
      → IsGeneratedInto number project cart map_name m after before put
  generated_into work made (Ok n) is made_is d e p =
      let stands : after ≡ all_done (sources_of project n ++ outputs_of cart map_name d.built) (Some m)
      = e ∙ ap (λ (w : Work). all_done w.effects (Some made)) (sym d.work_is) ∙ ap (all_done (outputs_of cart map_name d.built)) (sym made_is)
      ∙ sym (all_done-append (sources_of project n) (outputs_of cart map_name d.built) (Some m)) in
      record {
        functions = n;
        functions_are = is;
        made = made;
        made_is = made_is;
        built = d.built;
        is_built = d.is_built;
        cartridge = d.cartridge;
        cartridge_is = d.cartridge_is;
        outputs = stands;
        project_stands = project_there m project cart map_name n d.built after four stands;
        source_stands = source_there m project cart map_name n d.built after four stands;
        cart_stands = cart_there m project cart map_name n d.built after four stands;
        map_stands = map_there m project cart map_name n d.built after four stands;
        run = run_meant does comes made project_text d.built d.is_built d.cartridge d.cartridge_is plain_pads None tt most_frames;
        told = p ∙ ap (λ (w : Work). putting w.text before) (sym d.work_is);
      }
  generated_into work made (Err r) is made_is d e p = absurd cc

module _ (does : PlayedRunsAreTheSources) (comes : PlayedRunsComeToAll) where
  -- a front that was not done has not the status 0
  gen_stands : (words : List (List ℕ)) (m : Held) (status : ℕ) (after : Option Held) (before put : Option (List ℕ))
      → IsOutcome words m status after before put → status ≡ 0 → GenStands words m after before put
  gen_stands words m status after before put (inl h) z = λ number project cart map_name named.
      let ended = done_at_zero _ _ h.made status after before put h.ends z in
      let is_due : number_gen_due (functions_due number) project cart map_name h.made (Ok ended.0) = subst (λ o. form_due o h.made (Ok ended.0)) named ended.1 in
      let made_is : all_done (sources_due project (functions_due number)) (Some m) ≡ Some h.made = ap (λ o. all_done (front_of o) (Some m)) (sym named) ∙ h.made_is in
      generated_into does comes number project cart map_name m after before put (gen_differ words number project cart map_name named) ended.0 h.made (functions_due number) refl made_is is_due ended.2 ended.3
  gen_stands words m status after before put (inr (FrontFault name cut s p)) z = absurd (omega (arith, s, z))
  gen_stands words m status after before put (inr (FrontCutOff e cut (inl s) count line_count p)) z = absurd (omega (arith, s, z))
  gen_stands words m status after before put (inr (FrontCutOff e cut (inr s) count line_count p)) z = absurd (omega (arith, s, z))

  pub gen_told : (words : List (List ℕ)) (status : ℕ) (told after : Option Held) (before put : Option (List ℕ))
      → IfSome told (λ m. IsOutcome words m status after before put) → IfSome told (λ m. status ≡ 0 → GenStands words m after before put)
  gen_told words status None after before put outcome = tt
  gen_told words status (Some m) after before put outcome = gen_stands words m status after before put outcome
