-- A program of placed code among its words, as the emitter promises it.
use Rattle.std.specs.Prelude.{◌≡◌, ℕ, ◌<◌, true, List, [], ◌∷◌, false, length, slice_get, Option, Some, None}
use Rattle.either.specs.declared.Either.TheVariants.{Right}
use Rattle.v32_isa.specs.declared.instruction.Plain.TheVariants.{HLT}
use Rattle.v32_isa.specs.declared.instruction.Go.TheVariants.{CALL}
use Rattle.v32_isa.specs.declared.instruction.Src.TheVariants as src
use Rattle.v32_isa.specs.declared.instruction.Instr.TheVariants as instr
use Rattle.v32_isa.specs.Ports.{is_readable, is_writable}
use Rattle.asm_items.specs.declared.item.AsmItem.TheVariants as item
use Rattle.mid_code.specs.declared.placed.Where.{Where}
use Rattle.mid_code.specs.Code.{FunctionT}
use Rattle.mid_code.specs.States.{function_at}
use Rattle.mid_code.specs.Invariants.{AreNodes, Names, CallsNone}
use Rattle.asm_laws.specs.Placing.{Shapes, Passes, At}
use Rattle.asm_laws.specs.Names.{function_label}
use Rattle.asm_laws.specs.declared.made.Made.{Made}
use Rattle.asm_laws.specs.Operations.{group_items, group_more, made_of, made_items, call_items, giving}
use Rattle.asm_laws.specs.Standing.{Stand}
use Rattle.asm_laws.specs.declared.copying.Copying.{Copying}
use Rattle.asm_laws.specs.Copies.{copy_at, copy_items}
use Rattle.asm_laws.specs.Asks.{ask_of, asked_items}
use Rattle.asm_laws.specs.Live.{live_soon, ahead, Lasts}
use Rattle.asm_laws.specs.Spare.{Sparing}
use Rattle.asm_laws.specs.Tests.{Tests}
use Rattle.asm_laws.specs.Framing.{frame_made, frame_gone}
use Rattle.asm_laws.specs.Holds.{Setting, local_offset, Named, Fits, depth_of}
use Rattle.asm_laws.specs.Calling.{Callable, ExitAt}
use Rattle.asm_laws.specs.Laid.{Laid}

-- the items of each part, with nothing said of places and numbers
abbrev pub items_at : Setting → Shapes
items_at S = record {
  words = S.console.words;
  op = λ f pc o c more p. Stand S.console.words S.address pc (group_items S.whole (S.whole.frames f) o c) p
      × (more ≡ group_more S.whole (S.whole.frames f) o c);
  call = λ f pc t g args p. Stand S.console.words S.address pc (call_items S.whole (S.whole.frames f) t g args) p;
  test = λ f pc w other next. Tests S.console.words S.address (S.whole.frames f) pc w other next;
  giving = λ f pc w. (q : ℕ) × Stand S.console.words S.address pc (giving (S.whole.frames f) w) q
      × (out : ℕ) × Passes S.console.words q out × ExitAt S f out;
  made = λ f pc o c. (more : ℕ) × (made : Made) × (made_of S.whole (S.whole.frames f) o c ≡ Some (more, made))
      × (q : ℕ) × Stand S.console.words S.address pc (made_items (S.whole.frames f) made) q
      × (out : ℕ) × Passes S.console.words q out × ExitAt S f out;
  copy = λ f pc b c k p. (y : Copying) × (copy_at k b ≡ Some y)
      × Stand S.console.words S.address pc (copy_items y (live_soon ahead (S.whole.frames f).lasting c)) p;
  ask = λ f pc b c p. (flag : ℕ) × (ask_of b ≡ Some flag)
      × Stand S.console.words S.address pc (asked_items flag (live_soon ahead (S.whole.frames f).lasting c flag)) p;
  plain = λ b k. (ask_of b ≡ None) × (copy_at k b ≡ None);
  opens = λ f c. Unit {0};
}

-- a function stands among the words
pub record BodyAt (S : Setting) (f : ℕ) : Type 0 where
  pub begins : ℕ
  pub label : S.address (function_label S.whole.names f) ≡ begins
  pub entry : Stand S.console.words S.address begins (frame_made (S.whole.frames f).size) (S.enters f)
  pub body : At (items_at S) f [] (S.enters f) (function_at S.code f).body (S.leaves f)
  pub ends : ℕ
  pub exit : Stand S.console.words S.address (S.leaves f) (frame_gone (S.whole.frames f).size) ends

pub record ProgramAt (S : Setting) (boot : ℕ) : Type 0 where
  pub opening : S.enters boot ≡ 0x20000000
  pub start : At (items_at S) boot [] (S.enters boot) S.code.start.body (S.leaves boot)
  pub last : ℕ
  pub closing : Stand S.console.words S.address (S.leaves boot) (item.Op (instr.Go CALL (src.Imm (Right (function_label S.whole.names S.code.main))))
      ∷ item.Op (instr.Plain HLT) ∷ []) last
  pub functions : (g : ℕ) → Callable S g → BodyAt S g

-- what a program is, in a function of a number
pub record Sound (S : Setting) (f : ℕ) : Type 0 where
  pub local_there : (k : ℕ) → k < length (S.locals f) → local_offset S f k < (S.whole.frames f).size

pub record Program (S : Setting) (boot rest : ℕ) (card : Option (List ℕ)) : Type 1 where
  pub fits : Fits S
  pub laid : Laid S boot card
  pub readable : (port : ℕ) → is_readable port ≡ true → port < 16384
  pub writable : (port : ℕ) → is_writable port ≡ true → port < 16384
  pub start_nodes : AreNodes S.code (length (S.locals boot)) [] S.code.start.body
  pub start_names : Names (Named S boot) S.code.start.body
  pub start_sound : Sound S boot
  pub start_spares : Sparing (S.whole.frames boot).registers S.code.start.body 0
  pub start_lasts : Lasts (S.whole.frames boot).lasting (λ r. false) S.code.start.body 0
  pub start_quiet : CallsNone S.code.start.body
  pub nodes : (g : ℕ) → Callable S g → AreNodes S.code (length (S.locals g)) [] (function_at S.code g).body
  pub names : (g : ℕ) → Callable S g → Names (Named S g) (function_at S.code g).body
  pub sound : (g : ℕ) → Callable S g → Sound S g
  pub spares : (g : ℕ) → Callable S g → Sparing (S.whole.frames g).registers (function_at S.code g).body 0
  pub lasts : (g : ℕ) → Callable S g → Lasts (S.whole.frames g).lasting (λ r. false) (function_at S.code g).body 0
  pub calls : (f : ℕ) → Callable S f → (g : ℕ) (fn : FunctionT Where) → slice_get S.code.functions g ≡ Some fn
      → (depth_of S f ≡ (S.whole.frames f).size) × Callable S g × (S.whole.params g ≡ fn.params)
  pub main : Callable S S.code.main
  pub main_params : S.whole.params S.code.main ≡ []
  pub rest_as : S.called_as rest ≡ S.called_as boot
  pub rest_depth : depth_of S rest ≡ 0
  pub rest_registers : (S.whole.frames rest).registers ≡ (S.whole.frames boot).registers
  pub rest_size : (S.whole.frames rest).size ≡ 0
  pub rest_slots : (k : ℕ) → S.has_slot rest k → ⊥
