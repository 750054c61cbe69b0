-- What an instruction asks and tells: ports of that direction alone.
use Rattle.std.proofs.Common.{ℕ, ◌≡◌, Bool, true, false, cond, Option, Some, None, refl}
use Rattle.v32_isa.specs.declared.instruction.Plain.{Plain}
use Rattle.v32_isa.specs.declared.instruction.Plain.TheVariants.{HLT, WAIT, RET, MOVS, SETS}
use Rattle.v32_isa.specs.declared.instruction.Go.{Go}
use Rattle.v32_isa.specs.declared.instruction.Go.TheVariants.{JMP, CALL}
use Rattle.v32_isa.specs.declared.instruction.Branch.{Branch}
use Rattle.v32_isa.specs.declared.instruction.Branch.TheVariants.{JT, JF}
use Rattle.v32_isa.specs.declared.instruction.One.{One}
use Rattle.v32_isa.specs.declared.instruction.One.TheVariants.{PUSH, POP, CMPS, CIB, NOT, BNOT, ISGN, IABS}
use Rattle.v32_isa.specs.declared.instruction.Src.{Src}
use Rattle.v32_isa.specs.declared.instruction.Mov.{Mov}
use Rattle.v32_isa.specs.declared.instruction.Mov.TheVariants.{RegImm, RegReg, RegAt, RegAtReg, RegAtOff, AtReg, AtRegReg, AtOffReg}
use Rattle.v32_isa.specs.declared.instruction.Instr.{Instr}
use Rattle.v32_isa.specs.declared.instruction.Instr.TheVariants as instr
use Rattle.v32_isa.specs.declared.stepped.Stepped.{Stepped}
use Rattle.v32_isa.specs.declared.stepped.Stepped.TheVariants.{Fault}
use Rattle.v32_isa.specs.Decoding.{decoded}
use Rattle.v32_isa.specs.State.{State, is_writable_at, stored}
use Rattle.v32_isa.specs.Ports.{is_readable, is_writable}
use Rattle.v32_isa.specs.Machine.{Effect, value_of, reading, storing, taking, act_plain, act_go, act_branch, act_one, act_mov, act, fetched, effect_decoded, effect_fetched, effect_of}
use Rattle.v32_isa.specs.Machine.Effect.{Ends, Asks, Tells}

abbrev pub AsksReadable : Effect → Type 0
AsksReadable (Ends how t) = Unit {0}
AsksReadable (Asks register port next t) = is_readable port ≡ true
AsksReadable (Tells port word next t) = is_writable port ≡ true

-- the same, as a record, so that the effect is found from it
record Asking (e : Effect) : Type 0 where
  pub holds : AsksReadable e

ended : (how : Stepped) (t : State) → Asking (Ends how t)
ended how t = record { holds = tt }

choosing : (b : Bool) (e f : Effect) → Asking e → Asking f → Asking (cond b e f)
choosing true e f h k = h
choosing false e f h k = k

where_true : (b : Bool) (e : Effect) (how : Stepped) (t : State) → (b ≡ true → AsksReadable e) → Asking (cond b e (Ends how t))
where_true true e how t h = record { holds = h refl }
where_true false e how t h = record { holds = tt }

from_reading : (o : Option ℕ) (s : State) (go : ℕ → Effect) → ((word : ℕ) → Asking (go word)) → Asking (reading o s go)
from_reading None s go h = record { holds = tt }
from_reading (Some word) s go h = h word

from_storing : (s : State) (address word : ℕ) (go : State → Effect) → ((t : State) → Asking (go t)) → Asking (storing s address word go)
from_storing s address word go h = choosing (is_writable_at s address) _ _ (h (stored s address word)) (record { holds = tt })

from_taking : (r : ℕ) (o : Option ℕ) (next : ℕ) (s : State) → Asking (taking r o next s)
from_taking r None next s = record { holds = tt }
from_taking r (Some word) next s = record { holds = tt }

ruleset asking = (from_reading, from_storing, from_taking, choosing, ended)

from_plain : (p : Plain) (next : ℕ) (s : State) → Asking (act_plain p next s)
from_plain HLT next s = search asking
from_plain WAIT next s = search asking
from_plain RET next s = search asking
from_plain MOVS next s = search asking
from_plain SETS next s = search asking

from_go : (g : Go) (x : Src ℕ) (next : ℕ) (s : State) → Asking (act_go g x next s)
from_go JMP x next s = search asking
from_go CALL x next s = search asking

from_branch : (b : Branch) (a : ℕ) (x : Src ℕ) (next : ℕ) (s : State) → Asking (act_branch b a x next s)
from_branch JT a x next s = search asking
from_branch JF a x next s = search asking

from_one : (o : One) (a next : ℕ) (s : State) → Asking (act_one o a next s)
from_one PUSH a next s = search asking
from_one POP a next s = search asking
from_one CMPS a next s = search asking
from_one CIB a next s = search asking
from_one NOT a next s = search asking
from_one BNOT a next s = search asking
from_one ISGN a next s = search asking
from_one IABS a next s = search asking

from_mov : (m : Mov ℕ) (next : ℕ) (s : State) → Asking (act_mov m next s)
from_mov (RegImm a i) next s = search asking
from_mov (RegReg a b) next s = search asking
from_mov (RegAt a i) next s = search asking
from_mov (RegAtReg a b) next s = search asking
from_mov (RegAtOff a b i) next s = search asking
from_mov (AtReg i b) next s = search asking
from_mov (AtRegReg a b) next s = search asking
from_mov (AtOffReg a i b) next s = search asking

from_act : (i : Instr ℕ) (next : ℕ) (s : State) → Asking (act i next s)
unfolding act
from_act (instr.Plain p) next s = from_plain p next s
from_act (instr.Go g x) next s = from_go g x next s
from_act (instr.Branch b a x) next s = from_branch b a x next s
from_act (instr.Two t a x) next s = search asking
from_act (instr.One o a) next s = from_one o a next s
from_act (instr.Mov m) next s = from_mov m next s
from_act (instr.Lea a b None) next s = search asking
from_act (instr.Lea a b (Some i)) next s = search asking
from_act (instr.In a p) next s = where_true (is_readable p) (Asks a p next s) (Fault 2) s (λ h. h)
from_act (instr.Out p x) next s = where_true (is_writable p) (Tells p (value_of s x) next s) (Fault 3) s (λ h. h)

from_decoded : (s : State) (second : Option ℕ) (o : Option (Instr ℕ)) → Asking (effect_decoded s second o)
from_decoded s second None = record { holds = tt }
from_decoded s second (Some i) = from_act i _ s

from_fetched : (s : State) (words : Option (ℕ × Option ℕ)) → Asking (effect_fetched s words)
from_fetched s None = record { holds = tt }
from_fetched s (Some words) = from_decoded s words.1 (decoded words.0 words.1)

pub asks_readable : (s : State) → AsksReadable (effect_of s)
unfolding effect_of
asks_readable s = (from_fetched s (fetched s)).holds
