-- A status 0 says that the build stands.
use Rattle.std.proofs.Common.{ℕ, ◌≡◌, ◌⊎◌, inl, inr, false, List, refl, sym, ap, subst, ◌∙◌, arith}
use Rattle.std.specs.Prelude.{Option, Some, None, Result, Ok, Err, IfSome, IsSomeAnd}
use Rattle.std.specs.Str.{bytes_eq}
use Rattle.std.specs.FinMap.{get}
use Rattle.kit_base.specs.Held.{Held}
use Rattle.kit_base.specs.Effects.{all_done}
use Rattle.kit_base.specs.Outside.{due}
use Rattle.kit_base.specs.declared.outside.FileErr.{FileErr}
use Rattle.build_core.specs.declared.building.Built.{Built}
use Rattle.build_core.specs.Build.{IsBuilt, cartridge_of}
use Rattle.build_core.specs.Due.{assets}
use Rattle.c_meaning.specs.Runs.{c_runs}
use Rattle.c_image.specs.Imaging.{frame_sizes, global_addresses}
use Rattle.cart_format.specs.Reading.{cart_of}
use Rattle.mid_code.specs.Agrees.{AgreesWithin}
use Rattle.project_text.specs.declared.map.Map.{Map}
use Rattle.project_text.specs.MapText.{map_text}
use Rattle.kit_tools.specs.declared.refusal.DueRefusal.{DueRefusal}
use Rattle.kit_tools.specs.declared.refusal.DueRefusal.TheVariants as dues
use Rattle.kit_tools.specs.Refusal.{Refusal, due_status}
use Rattle.kit_words.specs.Command.{command_of}
use Rattle.kit_words.proofs.Created.{build_differ}
use Rattle.kit_tools.specs.Inputs.{◌>>=◌}
use Rattle.kit_tools.specs.Work.{Work}
use Rattle.kit_core.specs.Due.{outputs_of, build_due, read_build_due, form_due}
use Rattle.kit_core.specs.Outcome.{putting, EndsAs, Done, Refused, FileFault, OutOfMemory, SinkFault, IsOutcome}
use Rattle.kit_core.specs.Headline.{IsBuiltInto, BuildStands}
use Rattle.kit_core.specs.Generating.{front_of}
use Rattle.kit_core.proofs.Behind.{plain_ends}
use Rattle.kit_core.proofs.Writes.{get_written, get_unwritten}

-- the parts of a work that is due
pub bind_ok : {A B : Type 0} (r : Result A Refusal) (f : A → Result B Refusal) (y : B) → (r >>= f) ≡ Ok y → (x : A) × (r ≡ Ok x) × (f x ≡ Ok y)
bind_ok (Ok x) f y e = (x, refl, e)
bind_ok (Err d) f y e = cc

-- a status 0 or 3 is that of a work done
not_zero : (e : DueRefusal) → due_status e ≡ 0 → ⊥
not_zero dues.Usage h = omega arith
not_zero (dues.Source c f l) h = omega arith
not_zero (dues.Missing n) h = omega arith
not_zero (dues.Bad c n l) h = omega arith
not_zero (dues.Limit n) h = omega arith
not_zero (dues.OutOfRange n) h = omega arith
not_zero dues.LongCartridge h = omega arith

not_three : (e : DueRefusal) → due_status e ≡ 3 → ⊥
not_three dues.Usage h = omega arith
not_three (dues.Source c f l) h = omega arith
not_three (dues.Missing n) h = omega arith
not_three (dues.Bad c n l) h = omega arith
not_three (dues.Limit n) h = omega arith
not_three (dues.OutOfRange n) h = omega arith
not_three dues.LongCartridge h = omega arith

pub done_at_three : (Due : Result Work DueRefusal → Type 0) (Reads : List ℕ → Type 0) (m : Held) (status : ℕ) (after : Option Held) (before put : Option (List ℕ))
    → EndsAs Due Reads m status after before put → (status ≡ 0) ⊎ (status ≡ 3)
    → (work : Work) × Due (Ok work) × (after ≡ all_done work.effects (Some m)) × (put ≡ putting work.text before) × (status ≡ work.status)
done_at_three Due Reads m status after before put (Done h) z = (h.work, h.is_due, h.files, h.text, h.status_is)
done_at_three Due Reads m status after before put (Refused h) (inl z) = absurd (not_zero h.refusal (sym h.status_is ∙ z))
done_at_three Due Reads m status after before put (Refused h) (inr z) = absurd (not_three h.refusal (sym h.status_is ∙ z))
done_at_three Due Reads m status after before put (FileFault h) (inl z) = absurd (omega (arith, h.status_is))
done_at_three Due Reads m status after before put (FileFault h) (inr z) = absurd (omega (arith, h.status_is))
done_at_three Due Reads m status after before put (OutOfMemory s h) (inl z) = absurd (omega arith)
done_at_three Due Reads m status after before put (OutOfMemory s h) (inr z) = absurd (omega arith)
done_at_three Due Reads m status after before put (SinkFault s h) (inl z) = absurd (omega arith)
done_at_three Due Reads m status after before put (SinkFault s h) (inr z) = absurd (omega arith)

pub done_at_zero : (Due : Result Work DueRefusal → Type 0) (Reads : List ℕ → Type 0) (m : Held) (status : ℕ) (after : Option Held) (before put : Option (List ℕ))
    → EndsAs Due Reads m status after before put → status ≡ 0 → (work : Work) × Due (Ok work) × (after ≡ all_done work.effects (Some m)) × (put ≡ putting work.text before)
done_at_zero Due Reads m status after before put (Done h) z = (h.work, h.is_due, h.files, h.text)
done_at_zero Due Reads m status after before put (Refused h) z = absurd (not_zero h.refusal (sym h.status_is ∙ z))
done_at_zero Due Reads m status after before put (FileFault h) z = absurd (omega (arith, h.status_is))
done_at_zero Due Reads m status after before put (OutOfMemory s h) z = absurd (omega arith)
done_at_zero Due Reads m status after before put (SinkFault s h) z = absurd (omega arith)

-- both files stand
pub cart_there : (m : Held) (cart map_name : List ℕ) (b : Built) (after : Option Held) → bytes_eq cart map_name ≡ false
    → after ≡ all_done (outputs_of cart map_name b) (Some m) → IsSomeAnd after (λ files. get files cart ≡ Some b.cart)
cart_there m cart map_name b after differ e =
    subst (λ h. IsSomeAnd h (λ files. get files cart ≡ Some b.cart)) (sym e) (get_unwritten _ map_name (map_text b.map) cart differ ∙ get_written m cart b.cart)

pub map_there : (m : Held) (cart map_name : List ℕ) (b : Built) (after : Option Held)
    → after ≡ all_done (outputs_of cart map_name b) (Some m) → IsSomeAnd after (λ files. get files map_name ≡ Some (map_text b.map))
map_there m cart map_name b after e =
    subst (λ h. IsSomeAnd h (λ files. get files map_name ≡ Some (map_text b.map))) (sym e) (get_written _ map_name (map_text b.map))

abbrev pub ReadBack : Type 0
ReadBack = (m : Held) (project : List ℕ) (b : Built) (built : IsBuilt m project b) → cart_of b.cart ≡ Ok (cartridge_of built.of.parts.title built.of.image (assets built.textures built.sounds))

-- what the words of a build do, told by its own map
pub words_agree : (m : Held) (text : List ℕ) (b : Built) (built : IsBuilt m text b) → AgreesWithin 64 (global_addresses b.map) (c_runs built.of.program (frame_sizes b.map)) built.of.image.words
words_agree m text b built =
    subst (λ (k : Map). AgreesWithin 64 (global_addresses k) (c_runs built.of.program (frame_sizes k)) built.of.image.words) (sym built.map_is) built.of.image_is.does.agrees

module _ (back : ReadBack) where
  built_into : (project cart map_name : List ℕ) (m : Held) (after : Option Held) (work : Work) (r : Result (List ℕ) FileErr) → bytes_eq cart map_name ≡ false
      → due m project ≡ r → read_build_due project cart map_name m r (Ok work) → after ≡ all_done work.effects (Some m) → IsBuiltInto project cart map_name m after
  built_into project cart map_name m after work (Ok text) differ read d e =
      let stands : after ≡ all_done (outputs_of cart map_name d.0) (Some m) = e ∙ ap (λ (w : Work). all_done w.effects (Some m)) (sym d.2) in
      record {
        text = text;
        built = d.0;
        project_is = read;
        is_built = d.1;
        outputs = stands;
        cart_stands = cart_there m cart map_name d.0 after differ stands;
        map_stands = map_there m cart map_name d.0 after stands;
        cartridge = cartridge_of d.1.of.parts.title d.1.of.image (assets d.1.textures d.1.sounds);
        cartridge_is = back m text d.0 d.1;
        does = words_agree m text d.0 d.1;
      }
  built_into project cart map_name m after work (Err f) differ read d e = absurd cc

  headline : (words : List (List ℕ)) (m : Held) (status : ℕ) (after : Option Held) (before put : Option (List ℕ))
      → IsOutcome words m status after before put → status ≡ 0 → BuildStands words m after
  headline words m status after before put outcome z = λ project cart map_name named.
      let done = done_at_zero _ _ m status after before put (plain_ends (command_of words) m status after before put (ap front_of named) outcome) z in
      let is_due : build_due project cart map_name m (Ok done.0) = subst (λ o. form_due o m (Ok done.0)) named done.1 in
      built_into project cart map_name m after done.0 (due m project) (build_differ words project cart map_name named) refl is_due done.2

  pub headline_told : (words : List (List ℕ)) (status : ℕ) (told after : Option Held) (before put : Option (List ℕ))
      → IfSome told (λ m. IsOutcome words m status after before put) → IfSome told (λ m. status ≡ 0 → BuildStands words m after)
  headline_told words status None after before put outcome = tt
  headline_told words status (Some m) after before put outcome = headline words m status after before put outcome
