-- A step after which the machine does not go on changes nothing.
use Rattle.std.proofs.Common.{ℕ, ◌≡◌, Bool, true, false, cond, Option, Some, None, refl}
use Rattle.v32_isa.specs.declared.instruction.Plain.{Plain}
use Rattle.v32_isa.specs.declared.instruction.Plain.TheVariants.{HLT, WAIT, RET, MOVS, SETS}
use Rattle.v32_isa.specs.declared.instruction.Go.{Go}
use Rattle.v32_isa.specs.declared.instruction.Go.TheVariants.{JMP, CALL}
use Rattle.v32_isa.specs.declared.instruction.Branch.{Branch}
use Rattle.v32_isa.specs.declared.instruction.Branch.TheVariants.{JT, JF}
use Rattle.v32_isa.specs.declared.instruction.One.{One}
use Rattle.v32_isa.specs.declared.instruction.One.TheVariants.{PUSH, POP, CMPS, CIB, NOT, BNOT, ISGN, IABS}
use Rattle.v32_isa.specs.declared.instruction.Src.{Src}
use Rattle.v32_isa.specs.declared.instruction.Mov.{Mov}
use Rattle.v32_isa.specs.declared.instruction.Mov.TheVariants.{RegImm, RegReg, RegAt, RegAtReg, RegAtOff, AtReg, AtRegReg, AtOffReg}
use Rattle.v32_isa.specs.declared.instruction.Instr.{Instr}
use Rattle.v32_isa.specs.declared.instruction.Instr.TheVariants as instr
use Rattle.v32_isa.specs.declared.stepped.Stepped.{Stepped}
use Rattle.v32_isa.specs.declared.stepped.Stepped.TheVariants.{Went, Waited, Halted, Starved, Fault, Undecodable}
use Rattle.v32_isa.specs.Decoding.{decoded}
use Rattle.v32_isa.specs.State.{State, is_writable_at, stored}
use Rattle.v32_isa.specs.Ports.{is_readable, is_writable}
use Rattle.v32_isa.specs.Machine.{Effect, value_of, reading, storing, taking, act_plain, act_go, act_branch, act_one, act_mov, act, fetched, effect_decoded, effect_fetched, effect_of}
use Rattle.v32_isa.specs.Machine.Effect.{Ends, Asks, Tells}

-- what an end of a step says of the state before and the state after
abbrev pub EndsFrom : Stepped → State → State → Type 0
EndsFrom Went s t = Unit {0}
EndsFrom Waited s t = Unit {0}
EndsFrom Halted s t = t ≡ s
EndsFrom Starved s t = ⊥
EndsFrom (Fault number) s t = t ≡ s
EndsFrom (Undecodable address) s t = t ≡ s

-- only a port that is asked can starve a step, and nothing changes before a port is asked or told
abbrev pub ActsFrom : State → Effect → Type 0
ActsFrom s (Ends how t) = EndsFrom how s t
ActsFrom s (Asks register port next t) = t ≡ s
ActsFrom s (Tells port word next t) = t ≡ s

-- the same, as a record, so that the effect is found from it
record Acting (s : State) (e : Effect) : Type 0 where
  pub holds : ActsFrom s e

went : (s t : State) → Acting s (Ends Went t)
went s t = record { holds = tt }

choosing : (s : State) (b : Bool) (e f : Effect) → Acting s e → Acting s f → Acting s (cond b e f)
choosing s true e f h k = h
choosing s false e f h k = k

from_reading : (o : Option ℕ) (s : State) (go : ℕ → Effect) → ((word : ℕ) → Acting s (go word)) → Acting s (reading o s go)
from_reading None s go h = record { holds = refl }
from_reading (Some word) s go h = h word

from_storing : (s : State) (address word : ℕ) (go : State → Effect) → ((t : State) → Acting s (go t)) → Acting s (storing s address word go)
from_storing s address word go h = choosing s (is_writable_at s address) _ _ (h (stored s address word)) (record { holds = refl })

from_taking : (r : ℕ) (o : Option ℕ) (next : ℕ) (s : State) → Acting s (taking r o next s)
from_taking r None next s = record { holds = refl }
from_taking r (Some word) next s = record { holds = tt }

ruleset acting = (from_reading, from_storing, from_taking, choosing, went)

from_plain : (p : Plain) (next : ℕ) (s : State) → Acting s (act_plain p next s)
from_plain HLT next s = record { holds = refl }
from_plain WAIT next s = record { holds = tt }
from_plain RET next s = search acting
from_plain MOVS next s = search acting
from_plain SETS next s = search acting

from_go : (g : Go) (x : Src ℕ) (next : ℕ) (s : State) → Acting s (act_go g x next s)
from_go JMP x next s = search acting
from_go CALL x next s = search acting

from_branch : (b : Branch) (a : ℕ) (x : Src ℕ) (next : ℕ) (s : State) → Acting s (act_branch b a x next s)
from_branch JT a x next s = search acting
from_branch JF a x next s = search acting

from_one : (o : One) (a next : ℕ) (s : State) → Acting s (act_one o a next s)
from_one PUSH a next s = search acting
from_one POP a next s = search acting
from_one CMPS a next s = search acting
from_one CIB a next s = search acting
from_one NOT a next s = search acting
from_one BNOT a next s = search acting
from_one ISGN a next s = search acting
from_one IABS a next s = search acting

from_mov : (m : Mov ℕ) (next : ℕ) (s : State) → Acting s (act_mov m next s)
from_mov (RegImm a i) next s = search acting
from_mov (RegReg a b) next s = search acting
from_mov (RegAt a i) next s = search acting
from_mov (RegAtReg a b) next s = search acting
from_mov (RegAtOff a b i) next s = search acting
from_mov (AtReg i b) next s = search acting
from_mov (AtRegReg a b) next s = search acting
from_mov (AtOffReg a i b) next s = search acting

from_act : (i : Instr ℕ) (next : ℕ) (s : State) → Acting s (act i next s)
unfolding act
from_act (instr.Plain p) next s = from_plain p next s
from_act (instr.Go g x) next s = from_go g x next s
from_act (instr.Branch b a x) next s = from_branch b a x next s
from_act (instr.Two t a x) next s = search acting
from_act (instr.One o a) next s = from_one o a next s
from_act (instr.Mov m) next s = from_mov m next s
from_act (instr.Lea a b None) next s = search acting
from_act (instr.Lea a b (Some i)) next s = search acting
from_act (instr.In a p) next s = choosing s (is_readable p) (Asks a p next s) (Ends (Fault 2) s) (record { holds = refl }) (record { holds = refl })
from_act (instr.Out p x) next s = choosing s (is_writable p) (Tells p (value_of s x) next s) (Ends (Fault 3) s) (record { holds = refl }) (record { holds = refl })

from_decoded : (s : State) (second : Option ℕ) (o : Option (Instr ℕ)) → Acting s (effect_decoded s second o)
from_decoded s second None = record { holds = refl }
from_decoded s second (Some i) = from_act i _ s

from_fetched : (s : State) (words : Option (ℕ × Option ℕ)) → Acting s (effect_fetched s words)
from_fetched s None = record { holds = refl }
from_fetched s (Some words) = from_decoded s words.1 (decoded words.0 words.1)

pub from_step : (s : State) → ActsFrom s (effect_of s)
unfolding effect_of
from_step s = (from_fetched s (fetched s)).holds
