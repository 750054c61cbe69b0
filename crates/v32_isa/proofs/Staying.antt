-- A step leaves the words of the program, and what says where they are.
use Rattle.std.proofs.Common.{ℕ, ◌≡◌, ◌<◌, ◌≤◌, List, [], ◌∷◌, Bool, true, false, cond, Option, Some, None, refl, ap, subst, arith}
use Rattle.std.proofs.lemmas.Bool.{eqb-true}
use Rattle.std.proofs.lemmas.Bool.Decides.{nat_tests}
use Rattle.std.specs.Prelude.{◌==◌}
use Rattle.v32_isa.specs.declared.instruction.Plain.{Plain}
use Rattle.v32_isa.specs.declared.instruction.Plain.TheVariants.{HLT, WAIT, RET, MOVS, SETS}
use Rattle.v32_isa.specs.declared.instruction.Go.{Go}
use Rattle.v32_isa.specs.declared.instruction.Go.TheVariants.{JMP, CALL}
use Rattle.v32_isa.specs.declared.instruction.Branch.{Branch}
use Rattle.v32_isa.specs.declared.instruction.Branch.TheVariants.{JT, JF}
use Rattle.v32_isa.specs.declared.instruction.One.{One}
use Rattle.v32_isa.specs.declared.instruction.One.TheVariants.{PUSH, POP, CMPS, CIB, NOT, BNOT, ISGN, IABS}
use Rattle.v32_isa.specs.declared.instruction.Src.{Src}
use Rattle.v32_isa.specs.declared.instruction.Mov.{Mov}
use Rattle.v32_isa.specs.declared.instruction.Mov.TheVariants.{RegImm, RegReg, RegAt, RegAtReg, RegAtOff, AtReg, AtRegReg, AtOffReg}
use Rattle.v32_isa.specs.declared.instruction.Instr.{Instr}
use Rattle.v32_isa.specs.declared.instruction.Instr.TheVariants as instr
use Rattle.v32_isa.specs.declared.stepped.Stepped.{Stepped}
use Rattle.v32_isa.specs.declared.stepped.Stepped.TheVariants.{Went, Waited, Halted, Starved, Fault, Undecodable}
use Rattle.v32_isa.specs.Decoding.{decoded}
use Rattle.v32_isa.specs.State.{State, is_writable_at, written, stored}
use Rattle.v32_isa.specs.Ports.{is_readable, is_writable}
use Rattle.v32_isa.specs.Machine.{Effect, value_of, reading, storing, taking, act_plain, act_go, act_branch, act_one, act_mov, act, fetched, effect_decoded, effect_fetched, effect_of}
use Rattle.v32_isa.specs.Machine.Effect.{Ends, Asks, Tells}
use Rattle.v32_isa.specs.Calls.{goes_on, next_effect, stepped_on}

-- these are the words of the program of a state
record Text (s : State) (m : ℕ → ℕ) : Type 0 where
  same : (a : ℕ) → 0x20000000 ≤ a → a < 0x30000000 → m a ≡ s.memory a

-- the program stays
pub record Stays (s t : State) : Type 0 where
  pub program_length : t.program_length ≡ s.program_length
  pub card : t.has_card ≡ s.has_card
  pub text : (a : ℕ) → 0x20000000 ≤ a → a < 0x30000000 → t.memory a ≡ s.memory a

abbrev StaysFrom : State → Effect → Type 0
StaysFrom s (Ends how t) = Stays s t
StaysFrom s (Asks register port next t) = Stays s t
StaysFrom s (Tells port word next t) = Stays s t

-- the same, as a record, so that the effect is found from it
record Acting (s : State) (e : Effect) : Type 0 where
  pub holds : StaysFrom s e

stays_itself : (s : State) → Stays s s
stays_itself s = record { program_length = refl; card = refl; text = λ a lo hi. refl }

text_self : (s : State) → Text s s.memory
text_self s = record { same = λ a lo hi. refl }

went : (s : State) (how : Stepped) (c : ℕ) (rs : List ℕ) (m : ℕ → ℕ) → Text s m → Acting s (Ends how (record s { counter = c; registers = rs; memory = m }))
went s how c rs m h = record { holds = record { program_length = refl; card = refl; text = h.same } }

not_here : (s : State) (address a : ℕ) → is_writable_at s address ≡ true → 0x20000000 ≤ a → a < 0x30000000 → (a == address) ≡ true → ⊥
unfolding is_writable_at
not_here s address a w lo hi e = let z = eqb-true a address e in grind (arith, nat_tests)

text_written : (s : State) (address word : ℕ) → is_writable_at s address ≡ true → Text s (written s.memory address word)
unfolding written
text_written s address word w = record { same = λ a lo hi. go a (a == address) refl lo hi }
  where
    go : (a : ℕ) (b : Bool) → (a == address) ≡ b → 0x20000000 ≤ a → a < 0x30000000 → cond b word (s.memory a) ≡ s.memory a
    go a true e lo hi = absurd (not_here s address a w lo hi e)
    go a false e lo hi = refl

choosing : (s : State) (b : Bool) (e f : Effect) → Acting s e → Acting s f → Acting s (cond b e f)
choosing s true e f h k = h
choosing s false e f h k = k

from_reading : (o : Option ℕ) (s : State) (go : ℕ → Effect) → ((word : ℕ) → Acting s (go word)) → Acting s (reading o s go)
from_reading None s go h = record { holds = stays_itself s }
from_reading (Some word) s go h = h word

from_storing : (s : State) (address word : ℕ) (go : State → Effect) → ((m : ℕ → ℕ) → Text s m → Acting s (go (record s { memory = m }))) → Acting s (storing s address word go)
from_storing s address word go h = at (is_writable_at s address) refl
  where
    at : (b : Bool) → is_writable_at s address ≡ b → Acting s (cond b (go (stored s address word)) (Ends (Fault 1) s))
    at true w = h (written s.memory address word) (text_written s address word w)
    at false w = record { holds = stays_itself s }

from_taking : (r : ℕ) (o : Option ℕ) (next : ℕ) (s : State) → Acting s (taking r o next s)
from_taking r None next s = record { holds = stays_itself s }
from_taking r (Some word) next s = went s Went _ _ s.memory (text_self s)

ruleset acting = (from_reading, from_storing, from_taking, choosing, went, text_self)

from_plain : (p : Plain) (next : ℕ) (s : State) → Acting s (act_plain p next s)
from_plain HLT next s = record { holds = stays_itself s }
from_plain WAIT next s = search acting
from_plain RET next s = search acting
from_plain MOVS next s = search acting
from_plain SETS next s = search acting

from_go : (g : Go) (x : Src ℕ) (next : ℕ) (s : State) → Acting s (act_go g x next s)
from_go JMP x next s = search acting
from_go CALL x next s = search acting

from_branch : (b : Branch) (a : ℕ) (x : Src ℕ) (next : ℕ) (s : State) → Acting s (act_branch b a x next s)
from_branch JT a x next s = search acting
from_branch JF a x next s = search acting

from_one : (o : One) (a next : ℕ) (s : State) → Acting s (act_one o a next s)
from_one PUSH a next s = search acting
from_one POP a next s = search acting
from_one CMPS a next s = search acting depth 8
from_one CIB a next s = search acting
from_one NOT a next s = search acting
from_one BNOT a next s = search acting
from_one ISGN a next s = search acting
from_one IABS a next s = search acting

from_mov : (m : Mov ℕ) (next : ℕ) (s : State) → Acting s (act_mov m next s)
from_mov (RegImm a i) next s = search acting
from_mov (RegReg a b) next s = search acting
from_mov (RegAt a i) next s = search acting
from_mov (RegAtReg a b) next s = search acting
from_mov (RegAtOff a b i) next s = search acting
from_mov (AtReg i b) next s = search acting
from_mov (AtRegReg a b) next s = search acting
from_mov (AtOffReg a i b) next s = search acting

from_act : (i : Instr ℕ) (next : ℕ) (s : State) → Acting s (act i next s)
unfolding act
from_act (instr.Plain p) next s = from_plain p next s
from_act (instr.Go g x) next s = from_go g x next s
from_act (instr.Branch b a x) next s = from_branch b a x next s
from_act (instr.Two t a x) next s = search acting
from_act (instr.One o a) next s = from_one o a next s
from_act (instr.Mov m) next s = from_mov m next s
from_act (instr.Lea a b None) next s = search acting
from_act (instr.Lea a b (Some i)) next s = search acting
from_act (instr.In a p) next s = choosing s (is_readable p) (Asks a p next s) (Ends (Fault 2) s) (record { holds = stays_itself s }) (record { holds = stays_itself s })
from_act (instr.Out p x) next s = choosing s (is_writable p) (Tells p (value_of s x) next s) (Ends (Fault 3) s) (record { holds = stays_itself s }) (record { holds = stays_itself s })

from_decoded : (s : State) (second : Option ℕ) (o : Option (Instr ℕ)) → Acting s (effect_decoded s second o)
from_decoded s second None = record { holds = stays_itself s }
from_decoded s second (Some i) = from_act i _ s

from_fetched : (s : State) (words : Option (ℕ × Option ℕ)) → Acting s (effect_fetched s words)
from_fetched s None = record { holds = stays_itself s }
from_fetched s (Some words) = from_decoded s words.1 (decoded words.0 words.1)

abbrev state_of : State → Option (State × List ℕ) → State
state_of s None = s
state_of s (Some m) = m.0

some_same : (u t : State) (xs ys : List ℕ) → ◌≡◌ {A = Option (State × List ℕ)} (Some (u, xs)) (Some (t, ys)) → u ≡ t
some_same u t xs ys e = ap (state_of u) e

on_went : (how : Stepped) (s u t : State) (xs ys : List ℕ) → Stays s u → goes_on how u xs ≡ Some (t, ys) → Stays s t
on_went Went s u t xs ys h e = subst (λ x. Stays s x) (some_same u t xs ys e) h
on_went Waited s u t xs ys h e = subst (λ x. Stays s x) (some_same u t xs ys e) h
on_went Halted s u t xs ys h e = absurd cc
on_went Starved s u t xs ys h e = absurd cc
on_went (Fault number) s u t xs ys h e = absurd cc
on_went (Undecodable address) s u t xs ys h e = absurd cc

-- the answer of a port goes to a register
moved_on : (s u t : State) (c : ℕ) (rs : List ℕ) → Stays s u → record u { counter = c; registers = rs } ≡ t → Stays s t
moved_on s u t c rs h e = subst (λ x. Stays s x) e (record { program_length = h.program_length; card = h.card; text = h.text })

on_next : (e : Effect) (s t : State) (xs ys : List ℕ) → StaysFrom s e → next_effect e xs ≡ Some (t, ys) → Stays s t
on_next (Ends how u) s t xs ys h e = on_went how s u t xs ys h e
on_next (Asks a p next u) s t [] ys h e = absurd cc
on_next (Asks a p next u) s t (x ∷ xs) ys h e = moved_on s u t _ _ h (some_same _ t xs ys e)
on_next (Tells p word next u) s t xs ys h e = moved_on s u t _ _ h (some_same _ t xs ys e)

-- after a step the program is there as it was
pub program_stays : (s t : State) (xs ys : List ℕ) → stepped_on s xs ≡ Some (t, ys) → Stays s t
unfolding effect_of stepped_on
program_stays s t xs ys e = on_next (effect_fetched s (fetched s)) s t xs ys (from_fetched s (fetched s)).holds e
