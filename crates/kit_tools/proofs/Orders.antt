-- At which file in its order a reading stops: what stood before it was read and is of its grammar.
use Rattle.std.proofs.Common.{ℕ, ◌≡◌, List, [], ◌∷◌, subst}
use Rattle.std.specs.Prelude.{Option, Some, None, Ok, IfSome}
use Rattle.kit_base.specs.Held.{Held}
use Rattle.kit_base.specs.declared.failure.Failure.TheVariants as failures
use Rattle.cart_format.specs.Cartridge.{Cartridge}
use Rattle.run_files.specs.Script.{Script}
use Rattle.kit_words.specs.Command.{RunWords}
use Rattle.kit_tools.specs.Refusal.{Refusal}
use Rattle.kit_tools.specs.declared.refusal.RefusalCause.TheVariants as refusals
use Rattle.kit_tools.specs.Causes.{IsOwn}
use Rattle.kit_tools.specs.Inputs.{cart_due, answers_due}
use Rattle.kit_tools.specs.Tracing.{IsReadToTrace, reads_cart, reads_answers, reads_card, card_names}
use Rattle.kit_tools.specs.Running.{IsReadToSetBy, IsReadToRun, pads_due}
use Rattle.kit_tools.specs.Running as runs
use Rattle.kit_tools.specs.Carrying.{FailsAt, FailsIn}
use Rattle.kit_tools.proofs.Stages.{fails_only, fails_wider}

-- a refusal that no call of the files gave names no file
own_so : (O : Type 0) (B : List ℕ → Type 0) (e : Refusal) → IsOwn O e → FailsIn B e
own_so O B (failures.Cause (refusals.Due r)) own = tt
own_so O B (failures.Cause (refusals.Failed n)) own = absurd own
own_so O B failures.Memory own = tt

pub own_stops : (O : Type 0) (AreRead : Held → List ℕ → Type 0) (e : Refusal) (held : Option Held) → IsOwn O e → IfSome held (λ m. FailsIn (AreRead m) e)
own_stops O AreRead e None own = tt
own_stops O AreRead e (Some m) own = own_so O (AreRead m) e own

-- nor does want of memory
pub memory_stops : (AreRead : Held → List ℕ → Type 0) (held : Option Held) → IfSome held (λ m. FailsIn (AreRead m) failures.Memory)
memory_stops AreRead None = tt
memory_stops AreRead (Some m) = tt

-- the order of a trace
module _ (cart answers : List ℕ) (card : Option (List ℕ)) where
  abbrev pub Stops : Refusal → Option Held → Type 0
  Stops e held = IfSome held (λ m. FailsIn (IsReadToTrace cart answers card m) e)

  abbrev pub CartIs : Cartridge → Option Held → Type 0
  CartIs value held = IfSome held (λ m. cart_due cart m ≡ Ok value)

  abbrev pub AnswersAre : List ℕ → Option Held → Type 0
  AnswersAre list held = IfSome held (λ m. answers_due answers m ≡ Ok list)

  pub at_cart : (e : Refusal) (held : Option Held) → FailsAt (cart ∷ []) e → Stops e held
  at_cart e None h = tt
  at_cart e (Some m) h = fails_only cart _ e (λ n is. reads_cart is) h

  pub at_answers : (value : Cartridge) (e : Refusal) (held : Option Held) → CartIs value held → FailsAt (answers ∷ []) e → Stops e held
  at_answers value e None read h = tt
  at_answers value e (Some m) read h = fails_only answers _ e (λ n is. reads_answers value read is) h

  pub at_card : (value : Cartridge) (list : List ℕ) (e : Refusal) (held later : Option Held) → CartIs value held → later ≡ held → AnswersAre list later → FailsAt (card_names card) e → Stops e held
  at_card value list e None later read same answered h = tt
  at_card value list e (Some m) later read same answered h = fails_wider _ _ e (λ n c. reads_card value list read (subst (AnswersAre list) same answered) c) h

-- the order of what is run beside a cartridge
module _ (pads : List ℕ) (card : Option (List ℕ)) where
  abbrev pub SetStops : Refusal → Option Held → Type 0
  SetStops e held = IfSome held (λ m. FailsIn (IsReadToSetBy pads card m) e)

  pub at_pads : (e : Refusal) (held : Option Held) → FailsAt (pads ∷ []) e → SetStops e held
  at_pads e None h = tt
  at_pads e (Some m) h = fails_only pads _ e (λ n is. runs.reads_pads is) h

  pub at_run_card : (script : Script) (e : Refusal) (held : Option Held) → IfSome held (λ m. pads_due pads m ≡ Ok script) → FailsAt (card_names card) e → SetStops e held
  at_run_card script e None read h = tt
  at_run_card script e (Some m) read h = fails_wider _ _ e (λ n c. runs.reads_card script read c) h

-- the order of a run
module _ (words : RunWords) where
  abbrev pub RunStops : Refusal → Option Held → Type 0
  RunStops e held = IfSome held (λ m. FailsIn (IsReadToRun words m) e)

  pub at_run_cart : (e : Refusal) (held : Option Held) → FailsAt (words.cart ∷ []) e → RunStops e held
  at_run_cart e None h = tt
  at_run_cart e (Some m) h = fails_only words.cart _ e (λ n is. runs.reads_cart is) h

  pub at_settings : (value : Cartridge) (e : Refusal) (held later : Option Held) → IfSome held (λ m. cart_due words.cart m ≡ Ok value) → later ≡ held → SetStops words.pads words.card e later → RunStops e held
  at_settings value e None later read same h = tt
  at_settings value e (Some m) later read same h = fails_wider _ _ e (λ n c. runs.reads_beside value read c) (subst (SetStops words.pads words.card e) same h)
