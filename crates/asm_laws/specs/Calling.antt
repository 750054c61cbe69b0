-- How the machine holds the states of placed code, and where its parts stand.
use Rattle.std.specs.Prelude.{◌≡◌, ℕ, ◌<◌, ◌⊎◌, Bool, true, false, List, [], length, get_or, Option, Some, None}
use Rattle.v32_isa.specs.State.{register_of, word_at}
use Rattle.v32_isa.specs.State as machine
use Rattle.mid_code.specs.declared.placed.Where.{Where}
use Rattle.mid_code.specs.declared.placed.Where.TheVariants.{Reg, Slot}
use Rattle.mid_code.specs.Code.{OpT, NodesT, Do, Loop, maybe}
use Rattle.mid_code.specs.Meaning.{Lang}
use Rattle.mid_code.specs.States.{State, registers_and_slots, function_at, over_worlds}
use Rattle.mid_code.specs.Invariants.{AllOf, AreDifferent, Names}
use Rattle.obj_mem.specs.declared.cell.Cell.{Cell}
use Rattle.obj_mem.specs.declared.cell.Cell.TheVariants.{Num}
use Rattle.asm_laws.specs.Placing.{Shapes, Passes, At}
use Rattle.asm_laws.specs.inner.Following.{Holder}
use Rattle.asm_laws.specs.Names.{function_label}
use Rattle.asm_laws.specs.declared.made.Made.{Made}
use Rattle.asm_laws.specs.Operations.{group_items, group_more, made_of, made_items, call_items, giving}
use Rattle.asm_laws.specs.Standing.{Stand}
use Rattle.asm_laws.specs.declared.copying.Copying.{Copying}
use Rattle.asm_laws.specs.Copies.{copy_at, copy_items, is_moved, is_left, source, is_count}
use Rattle.asm_laws.specs.Asks.{ask_of, asked_items}
use Rattle.asm_laws.specs.Live.{lasts, live, live_soon, ahead}
use Rattle.asm_laws.specs.Tests.{Tests}
use Rattle.asm_laws.specs.Addresses.{Addr, having, Held}
use Rattle.asm_laws.specs.Spare.{Stays, Sparing}
use Rattle.asm_laws.specs.Framing.{frame_made, frame_gone}
use Rattle.asm_laws.specs.Holds.{Setting, Named, Ctx, Stands, HoldsAt, depth_of}
use Rattle.asm_laws.specs.Acting.{Fitting, FrontFits}

-- a function that can be called
pub record Callable (S : Setting) (f : ℕ) : Type 0 where
  pub called_as : S.called_as f ≡ Some f
  pub depth : depth_of S f ≡ (S.whole.frames f).size
  pub frame : get_or S.frames f 0 ≡ (S.whole.frames f).size
  pub params : S.whole.params f ≡ (function_at S.code f).params
  pub params_named : AllOf (Named S f) (S.whole.params f)
  pub params_differ : AreDifferent (S.whole.params f)

-- the machine holds a state; in registers that hold no places it may have other words
pub record Mach (S : Setting) (κ : Ctx) (s : State Where) (m : machine.State) : Type 0 where
  pub place : ℕ → ℕ
  pub words : Addr
  pub at : HoldsAt S κ s.world.store s.cells place words
  pub registers : ℕ → ℕ
  pub like : (r : ℕ) → r < (S.whole.frames κ.fn).registers → registers r ≡ words.regs r
  pub held : Held S.console (having registers words) m

-- Where a function ends, with the result in register 9. Its places may have other cells by then.
pub record Given (S : Setting) (κ : Ctx) (s : State Where) (m : machine.State) : Type 0 where
  pub place : ℕ → ℕ
  pub cells : Where → Cell
  pub words : Addr
  pub at : HoldsAt S κ s.world.store cells place words
  pub registers : ℕ → ℕ
  pub like : (r : ℕ) → r < (S.whole.frames κ.fn).registers → registers r ≡ words.regs r
  pub held : Held S.console (having registers words) m
  pub given : Stands (length s.world.store.objects) place s.given (register_of m 9)

-- Where the run has ended, memory is as a machine reads it that holds the state.
pub record EndedIn (S : Setting) (s : State Where) (m : machine.State) : Type 0 where
  pub context : Ctx
  pub shown : machine.State
  pub mach : Mach S context s shown
  pub memory : (q : ℕ) → word_at m q ≡ word_at shown q

-- Before a loop that copies or fills words, of which the count is known and 1, the machine's registers of block moves have the words of three places. What
-- these places have themselves is nobody's business, since the loop changes them.
pub record ReadyFor (S : Setting) (κ : Ctx) (y : Copying) (asked : Bool) (s : State Where) (m : machine.State) : Type 0 where
  pub place : ℕ → ℕ
  pub words : Addr
  pub at : HoldsAt S κ s.world.store s.cells place words
  pub registers : ℕ → ℕ
  pub held : Held S.console (having registers words) m
  pub like : (r : ℕ) → r < (S.whole.frames κ.fn).registers → is_moved y r ≡ false → is_left y asked r ≡ false → registers r ≡ words.regs r
  pub target : register_of m 13 ≡ words.regs y.to
  pub read : register_of m 12 ≡ words.regs (source y.from y)
  pub count : register_of m 11 ≡ words.regs y.count
  pub known : (n : ℕ) × (s.cells (Reg y.count) ≡ Num n) × (is_count (Some n) ≡ true)
  pub one : s.cells (Reg y.one) ≡ Num 1

abbrev pub Ready : (S : Setting) → Ctx → (asked : ℕ → Bool) → Option Copying → State Where → machine.State → Type 0
Ready S κ J None s m = Mach S κ s m
Ready S κ J (Some y) s m = ReadyFor S κ y (J y.one) s m

-- A function ends at an address: its body does, or its frame is taken away there, and it goes back. The start was not called and cannot.
abbrev pub ExitAt : Setting → (f pc : ℕ) → Type 0
ExitAt S f pc =
    (pc ≡ S.leaves f)
    ⊎ ((S.called_as f ≡ Some f) × (e : ℕ) × Stand S.console.words S.address pc (frame_gone (S.whole.frames f).size) e)

abbrev pub lang : Setting → Lang Where
lang S = over_worlds registers_and_slots S.code S.frames

abbrev pub holder : (S : Setting) → Holder (lang S)
holder S = record {
  K = Ctx;
  M = λ κ c. Mach S κ;
  G = Given S;
  E = EndedIn S;
  answers = λ s. s.world.store.answers;
  events = λ s. s.world.events;
  work = λ s. s.world.work;
  fn = λ κ. κ.fn;
  entry = S.enters;
  exits = ExitAt S;
  ready = λ κ b c k s m. Ready S κ (live_soon ahead (S.whole.frames κ.fn).lasting c) (copy_at k b) s m;
}

-- ---- where registers are not live

-- The same state but for registers that are not among these.
pub record Same (J : ℕ → Bool) (t s : State Where) : Type 0 where
  pub world : t.world ≡ s.world
  pub given : t.given ≡ s.given
  pub slots : (k : ℕ) → t.cells (Slot k) ≡ s.cells (Slot k)
  pub regs : (r : ℕ) → r < 9 → J r ≡ true → t.cells (Reg r) ≡ s.cells (Reg r)

-- the machine stands so with such a state
pub record Like (J : ℕ → Bool) (R : State Where → machine.State → Type 0) (s : State Where) (m : machine.State) : Type 0 where
  pub other : State Where
  pub same : Same J other s
  pub held : R other m

abbrev pub live_at : Setting → Ctx → NodesT Where → ℕ → Bool
live_at S κ c = live (S.whole.frames κ.fn).lasting c

-- the machine holds a state but for registers that are not live
abbrev pub live_holder : (S : Setting) → Holder (lang S)
live_holder S = record {
  K = Ctx;
  M = λ κ c. Like (live_at S κ c) (Mach S κ);
  G = Given S;
  E = λ s m. (t : State Where) × (t.world ≡ s.world) × EndedIn S t m;
  answers = λ s. s.world.store.answers;
  events = λ s. s.world.events;
  work = λ s. s.world.work;
  fn = λ κ. κ.fn;
  entry = S.enters;
  exits = ExitAt S;
  ready = λ κ b c k. Like (live_at S κ (Loop b c)) (Ready S κ (live_soon ahead (S.whole.frames κ.fn).lasting c) (copy_at k b));
}

-- a call of a function
pub record CallAt (S : Setting) (f pc : ℕ) (t : Option Where) (g : ℕ) (args : List Where) (p : ℕ) : Type 0 where
  pub depth : depth_of S f ≡ (S.whole.frames f).size
  pub callable : Callable S g
  pub target : AllOf (Named S f) (maybe t)
  pub args_named : AllOf (Named S f) args
  pub args_stay : AllOf (Stays (S.whole.frames f).registers) args
  pub count : length args ≡ length (S.whole.params g)
  pub stands : Stand S.console.words S.address pc (call_items S.whole (S.whole.frames f) t g args) p

-- an operator's word is made in register 9, and then the function ends
pub record MadeAt (S : Setting) (f pc : ℕ) (o : OpT Where) (c : NodesT Where) : Type 0 where
  pub more : ℕ
  pub made : Made
  pub is : made_of S.whole (S.whole.frames f) o c ≡ Some (more, made)
  pub fits : Fitting S f o
  pub front : FrontFits S f c more
  pub spares : Sparing (S.whole.frames f).registers (Do o c) 0
  pub then : ℕ
  pub stands : Stand S.console.words S.address pc (made_items (S.whole.frames f) made) then
  pub out : ℕ
  pub passes : Passes S.console.words then out
  pub exit : ExitAt S f out

-- a result is given, and then the function ends
pub record GivingAt (S : Setting) (f pc : ℕ) (w : Option Where) : Type 0 where
  pub named : AllOf (Named S f) (maybe w)
  pub stays : AllOf (Stays (S.whole.frames f).registers) (maybe w)
  pub then : ℕ
  pub stands : Stand S.console.words S.address pc (giving (S.whole.frames f) w) then
  pub out : ℕ
  pub passes : Passes S.console.words then out
  pub exit : ExitAt S f out

abbrev pub shapes : Setting → Shapes
shapes S = record {
  words = S.console.words;
  op = λ f pc o c more p. Fitting S f o × FrontFits S f c more
      × Stand S.console.words S.address pc (group_items S.whole (S.whole.frames f) o c) p
      × (more ≡ group_more S.whole (S.whole.frames f) o c) × Sparing (S.whole.frames f).registers (Do o c) 0
      × Names (Named S f) (Do o c);
  call = CallAt S;
  test = λ f pc w other next. Named S f w × Tests S.console.words S.address (S.whole.frames f) pc w other next
      × Stays (S.whole.frames f).registers w;
  giving = GivingAt S;
  made = MadeAt S;
  copy = λ f pc b c k p. (y : Copying) × (copy_at k b ≡ Some y)
      × Stand S.console.words S.address pc (copy_items y (live_soon ahead (S.whole.frames f).lasting c)) p × Names (Named S f) b
      × Sparing (S.whole.frames f).registers b 0;
  ask = λ f pc b c p. (flag : ℕ) × (ask_of b ≡ Some flag)
      × Stand S.console.words S.address pc (asked_items flag (live_soon ahead (S.whole.frames f).lasting c flag)) p × Names (Named S f) b;
  plain = λ b k. (ask_of b ≡ None) × (copy_at k b ≡ None);
  opens = λ f c. (r : ℕ) → r < 9 → live (S.whole.frames f).lasting c r ≡ true → lasts (S.whole.frames f).lasting r ≡ true;
}

-- a function stands among the words
pub record FunctionAt (S : Setting) (f : ℕ) : Type 0 where
  pub begins : ℕ
  pub label : S.address (function_label S.whole.names f) ≡ begins
  pub entry : Stand S.console.words S.address begins (frame_made (S.whole.frames f).size) (S.enters f)
  pub body : At (shapes S) f [] (S.enters f) (function_at S.code f).body (S.leaves f)
  pub ends : ℕ
  pub exit : Stand S.console.words S.address (S.leaves f) (frame_gone (S.whole.frames f).size) ends
