-- What operations do to objects, beside what they do to words.
use Rattle.std.specs.Prelude.{◌≡◌, ℕ, suc, ◌<◌, true, List, ◌++◌, length}
use Rattle.kit_base.specs.declared.event.Event.{Event}
use Rattle.v32_isa.specs.Ports.{is_readable, is_writable}
use Rattle.v32_isa.specs.Runs as machine
use Rattle.obj_mem.specs.Runs.{Ending, Halted, Fault, Starved, Stray, Deep, OutOfBound}
use Rattle.mid_code.specs.declared.placed.Where.{Where}
use Rattle.mid_code.specs.Code.{NodesT, Do, OpT, ConstO, NullO, MoveO, OneO, TwoO, GlobalO, LocalO, LiteralO, CardO, StepO, ApartO, PtrTestO, LoadO}
use Rattle.mid_code.specs.Code.{StoreO, FreshO, EndO, InO, OutO, WaitO, HaltO}
use Rattle.mid_code.specs.Meaning.{Did, On, Ends}
use Rattle.mid_code.specs.States.{State}
use Rattle.mid_code.specs.Invariants.{IsTest}
use Rattle.asm_laws.specs.Addresses.{Addr, Does, IsPlainOne}
use Rattle.asm_laws.specs.Addresses as words
use Rattle.asm_laws.specs.Holds.{Setting, local_offset, Named, Ctx, HoldsAt}

-- the words hold the state, with the objects somewhere
pub record Holds (S : Setting) (κ : Ctx) (s : State Where) (a : Addr) : Type 0 where
  pub place : ℕ → ℕ
  pub at : HoldsAt S κ s.world.store s.cells place a

abbrev pub SameEnd : Ending → machine.End → Type 0
SameEnd Halted how = how ≡ machine.Halted
SameEnd (Fault k) how = how ≡ machine.Fault k
SameEnd Starved how = how ≡ machine.Starved
SameEnd Stray how = ⊥
SameEnd Deep how = ⊥
SameEnd OutOfBound how = ⊥

pub record WentOn (S : Setting) (κ : Ctx) (s t : State Where) (made : List Event) (left : List ℕ) (b : Addr) : Type 0 where
  pub holds : Holds S κ t b
  pub answers : left ≡ t.world.store.answers
  pub events : t.world.events ≡ s.world.events ++ made
  pub work : t.world.work ≡ s.world.work

pub record EndedThere (S : Setting) (κ : Ctx) (s t : State Where) (f : Ending) (how : machine.End) (a : Addr) : Type 0 where
  pub same : SameEnd f how
  pub holds : Holds S κ t a
  pub events : t.world.events ≡ s.world.events
  pub work : t.world.work ≡ s.world.work

-- where the code strays nothing is asked of the words
abbrev pub DoesAs : Setting → Ctx → State Where → Addr → Did (State Where) → Does → Type 0
DoesAs S κ s a (On t) (words.Goes es ys b) = WentOn S κ s t es ys b
DoesAs S κ s a (On t) (words.Ends how) = ⊥
DoesAs S κ s a (Ends Stray t) d = (t.world.events ≡ s.world.events) × (t.world.work ≡ s.world.work)
DoesAs S κ s a (Ends f t) (words.Goes es ys b) = ⊥
DoesAs S κ s a (Ends f t) (words.Ends how) = EndedThere S κ s t f how a

-- an operation of a function, with places, locals, ports and numbers that are there
abbrev pub Fitting : Setting → ℕ → OpT Where → Type 0
Fitting S f (ConstO t n) = Named S f t
Fitting S f (NullO t) = Named S f t
Fitting S f (MoveO t p) = Named S f t × Named S f p
Fitting S f (OneO o t p) = IsPlainOne o × Named S f t × Named S f p
Fitting S f (TwoO o t p q) = Named S f t × Named S f p × Named S f q
Fitting S f (GlobalO t k) = Named S f t × (k < length S.code.globals)
Fitting S f (LocalO t k) = Named S f t × (k < length (S.locals f)) × (local_offset S f k < (S.whole.frames f).size)
Fitting S f (LiteralO t k) = Named S f t × (k < length S.code.literals)
Fitting S f (CardO t) = Named S f t
Fitting S f (StepO t p n) = Named S f t × Named S f p × Named S f n
Fitting S f (ApartO t p q) = Named S f t × Named S f p × Named S f q
Fitting S f (PtrTestO o t p q) = IsTest o × Named S f t × Named S f p × Named S f q
Fitting S f (LoadO t p) = Named S f t × Named S f p
Fitting S f (StoreO p q) = Named S f p × Named S f q
Fitting S f (FreshO k) = k < length (S.locals f)
Fitting S f (EndO k) = Unit {0}
Fitting S f (InO t port) = Named S f t × (port < 16384) × (is_readable port ≡ true)
Fitting S f (OutO port p) = Named S f p × (port < 16384) × (is_writable port ≡ true)
Fitting S f WaitO = Unit {0}
Fitting S f HaltO = Unit {0}

-- so many operations that come first
abbrev pub FrontFits : Setting → ℕ → NodesT Where → ℕ → Type 0
FrontFits S f (Do o c) (suc k) = Fitting S f o × FrontFits S f c k
FrontFits S f _ k = Unit {0}
