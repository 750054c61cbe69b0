-- From the parts of `bounds` to the whole, and what its status 0 says.
use Rattle.std.proofs.Common.{ℕ, zero, suc, ◌≡◌, ◌≤◌, length, slice_get, List, [], ◌∷◌, ◌++◌, map, refl, sym, ap, subst, ◌∙◌}
use Rattle.std.specs.Prelude.{Option, Some, None, Result, Ok, Err, IfSome, IsSomeAnd}
use Rattle.std.specs.FinMap.{get}
use Rattle.std.specs.List.{AllZip}
use Rattle.kit_base.specs.Held.{Held}
use Rattle.kit_base.specs.Effects.{all_done}
use Rattle.kit_base.specs.Outside.{due}
use Rattle.kit_base.specs.declared.outside.FileErr.{FileErr}
use Rattle.asm_items.specs.Written.{written}
use Rattle.asm_items.specs.declared.item.AsmItem.{AsmItem}
use Rattle.asm_reader.specs.Readable.{AreReadable}
use Rattle.asm_reader.specs.Reading.{read}
use Rattle.assembler.specs.Faults.{fault_of}
use Rattle.assembler.specs.Labels.{address_in}
use Rattle.assembler.specs.Placed.{Placed}
use Rattle.asm_laws.specs.Labelled.{label_of_function}
use Rattle.asm_laws.specs.Numbers.{behind}
use Rattle.asm_laws.specs.Longest.{Forbids}
use Rattle.c_types.specs.Programs.{TFunctionT, ProgramT}
use Rattle.c_meaning.specs.Runs.{c_runs}
use Rattle.c_image.specs.Imaging.{frame_sizes, global_addresses}
use Rattle.c_image.specs.LoopFree.{IsLoopFree}
use Rattle.c_image.specs.Mapping.{frames_at, map_of}
use Rattle.project_text.specs.MapText.{map_text}
use Rattle.project_text.specs.declared.map.Map.{Map}
use Rattle.obj_mem.specs.Runs.{Meaning}
use Rattle.mid_code.specs.Agrees.{AgreesWithin}
use Rattle.cycle_bound.specs.declared.bound.Bound.{Bound}
use Rattle.cycle_bound.specs.declared.bound.Bound.TheVariants.{Unbounded}
use Rattle.cycle_bound.specs.Lines.{IsTold}
use Rattle.cycle_bound.specs.Staying.{StayWithin}
use Rattle.cycle_bound.specs.Told.{IsBoundOf}
use Rattle.build_core.specs.declared.building.Built.{Built}
use Rattle.build_core.specs.Due.{assets}
use Rattle.build_core.specs.Build.{IsBuilt, cartridge_of}
use Rattle.kit_words.specs.Command.{command_of}
use Rattle.kit_words.proofs.Created.{AreThree, bounds_differ}
use Rattle.kit_tools.specs.Work.{Work}
use Rattle.kit_core.specs.Due.{bounds_due, bounds_effects, bounds_work, form_due, function_names, read_bounds_due}
use Rattle.kit_core.specs.Bounded.{BoundsStand, IsBoundedInto, function_addresses}
use Rattle.kit_core.specs.Generating.{front_of}
use Rattle.kit_core.specs.Outcome.{IsOutcome, putting}
use Rattle.kit_core.proofs.Behind.{plain_ends}
use Rattle.kit_core.proofs.Headlines.{ReadBack, done_at_zero, words_agree}
use Rattle.kit_core.proofs.Writes.{get_unwritten, get_written}

-- ---- the whole

-- want of memory says nothing
pub nothing : (held : Option Held) → IfSome held (λ m. Unit {0})
nothing None = tt
nothing (Some m) = tt

pub bounds_of : (project text cart map_name text_name : List ℕ) (b : Built) (lines : List ℕ) (held : Option Held) → IfSome held (λ m. IsBuilt m text b) → IsTold b.items (function_names b.map) lines
    → IfSome held (λ m. read_bounds_due project cart map_name text_name m (Ok text) (Ok (bounds_work cart map_name text_name b lines)))
bounds_of project text cart map_name text_name b lines None h told = tt
bounds_of project text cart map_name text_name b lines (Some m) h told = record { built = b; is_built = h; lines = lines; told = told; work_is = refl }

-- ---- the files

module _ (m : Held) (cart map_name text_name : List ℕ) (b : Built) (after : Option Held) (three : AreThree cart map_name text_name) (is : after ≡ all_done (bounds_effects cart map_name text_name b) (Some m)) where
  text_there : IsSomeAnd after (λ files. get files text_name ≡ Some (written b.items))
  text_there = subst (λ h. IsSomeAnd h (λ files. get files text_name ≡ Some (written b.items))) (sym is) (get_written _ text_name (written b.items))

  map_there : IsSomeAnd after (λ files. get files map_name ≡ Some (map_text b.map))
  map_there = subst (λ h. IsSomeAnd h (λ files. get files map_name ≡ Some (map_text b.map))) (sym is) (get_unwritten _ text_name (written b.items) map_name three.map_text ∙ get_written _ map_name (map_text b.map))

  cart_there : IsSomeAnd after (λ files. get files cart ≡ Some b.cart)
  cart_there = subst (λ h. IsSomeAnd h (λ files. get files cart ≡ Some b.cart)) (sym is)
      (get_unwritten _ text_name (written b.items) cart three.cart_text ∙ get_unwritten _ map_name (map_text b.map) cart three.cart_map ∙ get_written m cart b.cart)

-- ---- the calls

-- the rows of functions have the addresses of their labels
rows_at : (address : List ℕ → ℕ) (fs : List TFunctionT) (sizes : List ℕ) → map (λ name. address (label_of_function name)) (map (λ row. row.0) (frames_at address fs sizes)) ≡ map (λ row. row.1) (frames_at address fs sizes)
rows_at address [] sizes = refl
rows_at address (f ∷ fs) [] = refl
rows_at address (f ∷ fs) (size ∷ sizes) = ap (λ rest. address (label_of_function f.name) ∷ rest) (rows_at address fs sizes)

-- of the map
at_rows : (m : Map) (p : ProgramT) (sizes : List ℕ) (count : ℕ) (address : List ℕ → ℕ) → m ≡ map_of p sizes count address → map (λ name. address (label_of_function name)) (function_names m) ≡ function_addresses m
at_rows m p sizes count address is =
    ap (λ (k : Map). map (λ name. address (label_of_function name)) (function_names k)) is ∙ rows_at address p.functions sizes ∙ sym (ap function_addresses is)

-- the name of a row is that of its function
name_at : (address : List ℕ → ℕ) (fs : List TFunctionT) (sizes : List ℕ) (n : ℕ) (name : List ℕ) (f : TFunctionT) → slice_get (map (λ row. row.0) (frames_at address fs sizes)) n ≡ Some name → slice_get fs n ≡ Some f → name ≡ f.name
name_at address [] sizes n name f e h = absurd cc
name_at address (g ∷ fs) [] n name f e h = absurd cc
name_at address (g ∷ fs) (size ∷ sizes) zero name f e h = let a : g.name ≡ name = cc in let b : g ≡ f = cc in sym a ∙ ap (λ (k : TFunctionT). k.name) b
name_at address (g ∷ fs) (size ∷ sizes) (suc n) name f e h = name_at address fs sizes n name f e h

-- what stands beside an element
beside : {A B : Type 0} (R : A → B → Type 0) (xs : List A) (ys : List B) (n : ℕ) (y : B) → AllZip R xs ys → slice_get ys n ≡ Some y → (x : A) × (slice_get xs n ≡ Some x) × R x y
beside R [] [] n y h e = absurd cc
beside R [] (z ∷ ys) n y h e = absurd h
beside R (x ∷ xs) [] n y h e = absurd h
beside R (x ∷ xs) (z ∷ ys) zero y h e = (x, refl, (let same : z ≡ y = cc in subst (R x) same h.0))
beside R (x ∷ xs) (z ∷ ys) (suc n) y h e = beside R xs ys n y h.1 e

forbidden : (items : List AsmItem) (name : List ℕ) → IsBoundOf items name Unbounded → Forbids items (behind items (label_of_function name))
unfolding IsBoundOf
forbidden items name h = h

abbrev pub StayingLaw : Type 0
StayingLaw =
    (items : List AsmItem) (words : List ℕ) (labels : List (List ℕ × ℕ)) → fault_of items ≡ None → AreReadable items → Placed items words labels → length words ≤ 33554432
    → (times : ℕ) (globals : List ℕ) (meaning : Meaning) → AgreesWithin times globals meaning words → (names : List (List ℕ)) (bounds : List Bound) → AllZip (IsBoundOf items) names bounds
    → StayWithin globals meaning words (map (λ name. address_in labels (label_of_function name)) names) bounds

text_reads : (m : Held) (text : List ℕ) (b : Built) → IsBuilt m text b → read (written b.items) ≡ Ok b.items
text_reads m text b built = (let e = built.items_are in λ i. read (written (e i))) ∙ built.of.image_is.reads ∙ ap Ok (sym built.items_are)

module _ (stay : StayingLaw) (back : ReadBack) where
  stays : (m : Held) (text : List ℕ) (b : Built) (built : IsBuilt m text b) (bounds : List Bound) → AllZip (IsBoundOf b.items) (function_names b.map) bounds
      → StayWithin (global_addresses b.map) (c_runs built.of.program (frame_sizes b.map)) built.of.image.words (function_addresses b.map) bounds
  stays m text b built bounds exact =
      let image = built.of.image_is in
      let map_is = built.map_is in
      let at : map (λ name. address_in image.labels (label_of_function name)) (function_names b.map) ≡ function_addresses b.map =
      at_rows b.map built.of.program (frame_sizes built.of.image.map) _ (address_in image.labels) (map_is ∙ image.map_is) in
      subst (λ addresses. StayWithin (global_addresses b.map) (c_runs built.of.program (frame_sizes b.map)) built.of.image.words addresses bounds) at
      (stay built.of.image.items built.of.image.words image.labels image.faultless image.readable image.words image.few 64 (global_addresses b.map) (c_runs built.of.program (frame_sizes b.map)) (words_agree m text b built)
      (function_names b.map) bounds (subst (λ is. AllZip (IsBoundOf is) (function_names b.map) bounds) built.items_are exact))

  numbered : (m : Held) (text : List ℕ) (b : Built) (built : IsBuilt m text b) (bounds : List Bound) → AllZip (IsBoundOf b.items) (function_names b.map) bounds
      → (depth n : ℕ) (f : TFunctionT) → slice_get built.of.program.functions n ≡ Some f → IsLoopFree built.of.program depth f → slice_get bounds n ≡ Some Unbounded → ⊥
  numbered m text b built bounds exact depth n f at free none =
      let image = built.of.image_is in
      let x = beside (IsBoundOf b.items) (function_names b.map) bounds n Unbounded exact none in
      let named : slice_get (map (λ row. row.0) (frames_at (address_in image.labels) built.of.program.functions (frame_sizes built.of.image.map))) n ≡ Some x.0 =
      ap (λ (k : Map). slice_get (function_names k) n) (sym (built.map_is ∙ image.map_is)) ∙ x.1 in
      let name : x.0 ≡ f.name = name_at (address_in image.labels) built.of.program.functions (frame_sizes built.of.image.map) n x.0 f named at in
      let forbids : Forbids built.of.image.items (behind built.of.image.items (label_of_function f.name)) =
      subst (λ is. Forbids is (behind is (label_of_function f.name))) built.items_are (subst (λ k. Forbids b.items (behind b.items (label_of_function k))) name (forbidden b.items x.0 x.2)) in
      (image.numbered depth n f at free).1.allowed forbids

  bounded_into : (project cart map_name text_name : List ℕ) (m : Held) (after : Option Held) (before put : Option (List ℕ)) (w : Work) (r : Result (List ℕ) FileErr) → AreThree cart map_name text_name
      → due m project ≡ r → read_bounds_due project cart map_name text_name m r (Ok w) → after ≡ all_done w.effects (Some m) → put ≡ putting w.text before → IsBoundedInto project cart map_name text_name m after before put
  bounded_into project cart map_name text_name m after before put w (Ok text) three read d e p =
      let stands : after ≡ all_done (bounds_effects cart map_name text_name d.built) (Some m) = e ∙ ap (λ (v : Work). all_done v.effects (Some m)) (sym d.work_is) in
      record {
        text = text;
        built = d.built;
        project_is = read;
        is_built = d.is_built;
        outputs = stands;
        cart_stands = cart_there m cart map_name text_name d.built after three stands;
        map_stands = map_there m cart map_name text_name d.built after three stands;
        text_stands = text_there m cart map_name text_name d.built after three stands;
        reads = text_reads m text d.built d.is_built;
        bounds = d.told.bounds;
        exact = d.told.exact;
        numbered = numbered m text d.built d.is_built d.told.bounds d.told.exact;
        told = p ∙ ap (λ (v : Work). putting v.text before) (sym d.work_is) ∙ ap (λ lines. putting lines before) d.told.lines_are;
        cartridge = cartridge_of d.is_built.of.parts.title d.is_built.of.image (assets d.is_built.textures d.is_built.sounds);
        cartridge_is = back m text d.built d.is_built;
        stay = stays m text d.built d.is_built d.told.bounds d.told.exact;
      }
  bounded_into project cart map_name text_name m after before put w (Err f) three read d e p = absurd cc

  bounds_stand : (words : List (List ℕ)) (m : Held) (status : ℕ) (after : Option Held) (before put : Option (List ℕ))
      → IsOutcome words m status after before put → status ≡ 0 → BoundsStand words m after before put
  bounds_stand words m status after before put outcome z = λ project cart map_name text_name named.
      let done = done_at_zero _ _ m status after before put (plain_ends (command_of words) m status after before put (ap front_of named) outcome) z in
      let is_due : bounds_due project cart map_name text_name m (Ok done.0) = subst (λ o. form_due o m (Ok done.0)) named done.1 in
      bounded_into project cart map_name text_name m after before put done.0 (due m project) (bounds_differ words project cart map_name text_name named) refl is_due done.2 done.3

  pub bounds_told : (words : List (List ℕ)) (status : ℕ) (told after : Option Held) (before put : Option (List ℕ))
      → IfSome told (λ m. IsOutcome words m status after before put) → IfSome told (λ m. status ≡ 0 → BoundsStand words m after before put)
  bounds_told words status None after before put outcome = tt
  bounds_told words status (Some m) after before put outcome = bounds_stand words m status after before put outcome
