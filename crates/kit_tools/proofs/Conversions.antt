-- From the parts of a conversion and of a trace to the whole.
use Rattle.std.proofs.Common.{ℕ, ◌≡◌, List, [], ◌∷◌, refl, ap, subst, ◌∙◌}
use Rattle.std.specs.Prelude.{Option, Some, None, Result, Ok, IfSome, Contains}
use Rattle.kit_base.specs.Held.{Held}
use Rattle.kit_base.specs.Effects.{all_done, written_file}
use Rattle.kit_base.specs.Counts.{Counts}
use Rattle.kit_tools.specs.Refusal.{Refusal}
use Rattle.kit_tools.specs.Inputs.{◌>>=◌}
use Rattle.kit_tools.specs.Tracing.{IsReadToTrace, traced_due, trace_due}
use Rattle.kit_words.specs.declared.conversion.Conversion.{Conversion}
use Rattle.kit_tools.specs.Converting.{made_due, convert_due, ConvertsLong}
use Rattle.kit_tools.specs.Work.{Work, Comes, as_due}
use Rattle.kit_tools.specs.declared.shown.Shown.TheVariants as shown
use Rattle.trace_core.specs.declared.run.Trace.{Trace}
use Rattle.trace_core.specs.Putting.{trace_text}
use Rattle.kit_words.specs.declared.conversion.Conversion.TheVariants.{Migrate}
use Rattle.kit_tools.specs.Causes.{HasCausesOr}
use Rattle.kit_tools.specs.Migration.{IsLong}
use Rattle.kit_tools.proofs.Own.{wider_causes}
use Rattle.kit_tools.specs.Carrying.{IsCut, Leaves, shown_status, text_of}
use Rattle.kit_tools.specs.declared.shown.Shown.{Shown}
use Rattle.kit_tools.proofs.Stages.{cut}

-- the bytes to be written were made
module _ (conversion : Conversion) (source target bytes : List ℕ) where
  abbrev pub WasMade : Option Held → Type 0
  WasMade held = IfSome held (λ m. made_due conversion source m ≡ Ok bytes)

  abbrev work : Work
  work = record { effects = written_file target bytes; text = []; status = 0 }

  is_due : (m : Held) → WasMade (Some m) → convert_due conversion source target m ≡ Ok work
  is_due m made = ap (λ d. d >>= λ b. Ok (record { effects = written_file target b; text = []; status = 0 })) made

  pub conversion_cut : (e : Refusal) (h0 h1 h2 : Option Held) → WasMade h0 → h1 ≡ h0 → IsCut e (written_file target bytes) h1 h2
      → IfSome h0 (λ m. Comes e (convert_due conversion source target m) (Contains (source ∷ [])) m h2)
  conversion_cut e None h1 h2 made same is_cut = tt
  conversion_cut e (Some m) h1 h2 made same is_cut =
      cut e work (λ d. convert_due conversion source target m ≡ as_due d) (Contains (source ∷ [])) m h2 (is_due m made) (subst (λ h. IsCut e (written_file target bytes) h h2) same is_cut)

  pub conversion_done : (v : Shown) (h0 h1 h2 : Option Held) → text_of v ≡ [] → shown_status v ≡ 0 → WasMade h0 → h1 ≡ h0 → h2 ≡ all_done (written_file target bytes) h1
      → IfSome h0 (λ m. Leaves (Ok v) (convert_due conversion source target m) (Contains (source ∷ [])) m h2)
  conversion_done v None h1 h2 empty nought made same done = tt
  conversion_done v (Some m) h1 h2 empty nought made same done = (work, is_due m made, done ∙ ap (all_done (written_file target bytes)) same, empty, nought)

-- the causes of each conversion
pub migrated_causes : {T : Type 0} (source : List ℕ) (held : Option Held) (r : Result T Refusal) (before after : Counts)
    → HasCausesOr (IsLong source held) r before after → HasCausesOr (ConvertsLong Migrate source held) r before after
migrated_causes source held r b a h = wider_causes _ _ r b a (λ long. record { is_migration = refl; long = long }) h

pub other_causes : {T : Type 0} (conversion : Conversion) (source : List ℕ) (held : Option Held) (r : Result T Refusal) (before after : Counts)
    → HasCausesOr ⊥ r before after → HasCausesOr (ConvertsLong conversion source held) r before after
other_causes conversion source held r b a h = wider_causes _ _ r b a (λ none. absurd none) h

-- nothing is created by a trace
pub trace_opened : (cart answers : List ℕ) (card : Option (List ℕ)) (steps : List ℕ) (trace : Trace) (h0 h1 : Option Held)
    → IfSome h0 (λ m. traced_due cart answers card steps m ≡ Ok (trace_text trace)) → h1 ≡ h0
    → IfSome h0 (λ m. Leaves (Ok (shown.Run trace)) (trace_due cart answers card steps m) (IsReadToTrace cart answers card m) m h1)
trace_opened cart answers card steps trace None h1 told same = tt
trace_opened cart answers card steps trace (Some m) h1 told same =
    (record { effects = []; text = trace_text trace; status = 0 }, ap (λ d. d >>= λ t. Ok (record { effects = []; text = t; status = 0 })) told, same, refl, refl)
