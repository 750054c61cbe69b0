-- What a longer run adds to a shorter one.
use Rattle.std.proofs.Common.{ℕ, zero, suc, ◌≤◌, ◌≡◌, List, [], ◌∷◌, refl, sym, ap, arith, append-nil}
use Rattle.kit_base.specs.declared.event.Event.{Event}
use Rattle.kit_base.specs.declared.event.Event.TheVariants as event
use Rattle.v32_isa.specs.declared.stepped.Stepped.{Stepped}
use Rattle.v32_isa.specs.declared.stepped.Stepped.TheVariants as stepped
use Rattle.v32_isa.specs.State.{State}
use Rattle.v32_isa.specs.Machine.{Effect, effect_of}
use Rattle.v32_isa.specs.Machine.Effect.{Ends, Asks, Tells}
use Rattle.v32_isa.specs.Runs.{Run, End, ended, after, run, run_stepped, run_effect, Extends, ExtendsFrom}
use Rattle.v32_isa.specs.Runs.End.{Going, Halted, Fault, Starved, Undecodable}

extends_self : (end : End) (r : Run) → ExtendsFrom end r r
extends_self Going r = ([], sym (append-nil r.events))
extends_self Halted r = refl
extends_self (Fault number) r = refl
extends_self Starved r = refl
extends_self (Undecodable address) r = refl

extends_after : (e : Event) (end : End) (short long : Run) → ExtendsFrom end short long → ExtendsFrom end (after e short) (after e long)
extends_after e Going short long h = (h.0, ap (λ (events : List Event). e ∷ events) h.1)
extends_after e Halted short long h = ap (after e) h
extends_after e (Fault number) short long h = ap (after e) h
extends_after e Starved short long h = ap (after e) h
extends_after e (Undecodable address) short long h = ap (after e) h

stepped_extends : (how : Stepped) (s : State) (short long : Run) → Extends short long → Extends (run_stepped how s short) (run_stepped how s long)
stepped_extends stepped.Went s short long h = h
stepped_extends stepped.Waited s short long h = extends_after event.Wait short.end short long h
stepped_extends stepped.Halted s short long h = refl
stepped_extends stepped.Starved s short long h = refl
stepped_extends (stepped.Fault number) s short long h = refl
stepped_extends (stepped.Undecodable address) s short long h = refl

effect_extends : (e : Effect) (answers : List ℕ) (go further : State → List ℕ → Run) →
    ((s : State) (left : List ℕ) → Extends (go s left) (further s left)) → Extends (run_effect e answers go) (run_effect e answers further)
effect_extends (Ends how s) answers go further h = stepped_extends how s (go s answers) (further s answers) (h s answers)
effect_extends (Asks a p next s) [] go further h = refl
effect_extends (Asks a p next s) (word ∷ answers) go further h = extends_after (event.In p word) _ _ _ (h _ answers)
effect_extends (Tells p word next s) answers go further h = extends_after (event.Out p word) _ _ _ (h _ answers)

pub runs_extend : (m n : ℕ) (s : State) (answers : List ℕ) → m ≤ n → Extends (run m s answers) (run n s answers)
unfolding run
runs_extend zero n s answers le = ((run n s answers).events, refl)
runs_extend (suc m) zero s answers le = absurd (omega arith)
runs_extend (suc m) (suc n) s answers le =
    effect_extends (effect_of s) answers (run m) (run n) (λ t left. runs_extend m n t left (omega arith))

stays_from : (end : End) (short long : Run) → ExtendsFrom end short long → (end ≡ Going → ⊥) → long ≡ short
stays_from Going short long h ended = absurd (ended refl)
stays_from Halted short long h ended = h
stays_from (Fault number) short long h ended = h
stays_from Starved short long h ended = h
stays_from (Undecodable address) short long h ended = h

-- a run that has ended stays so
pub run_stays : (m n : ℕ) (s : State) (answers : List ℕ) → m ≤ n → ((run m s answers).end ≡ Going → ⊥) → run n s answers ≡ run m s answers
run_stays m n s answers le ended = stays_from (run m s answers).end _ _ (runs_extend m n s answers le) ended
