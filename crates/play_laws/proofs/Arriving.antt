-- A console comes to all that is meant under the answers that its devices gave.
use Rattle.std.proofs.Common.{ℕ, zero, suc, ◌≡◌, ◌≢◌, ◌≤◌, ◌+◌, ◌-◌, inl, inr, List, [], ◌++◌, sym, ap, subst, ◌∙◌, arith, append-nil, append_assoc}
use Rattle.std.proofs.lemmas.Bool.{cases_lt}
use Rattle.kit_base.specs.declared.event.Event.{Event}
use Rattle.v32_isa.specs.Runs.{machine_runs, opening}
use Rattle.v32_isa.specs.Runs as machine
use Rattle.obj_mem.specs.Runs.{Ending, Halted, Fault, Starved, Stray, Deep, OutOfBound, Run, Meaning, IsCard}
use Rattle.mid_code.specs.Agrees.{AgreesWithin, EndsAs}
use Rattle.v32_console.specs.Setup.{Setup}
use Rattle.v32_console.specs.Moments.{console_at}
use Rattle.v32_console.specs.Machine.{operations_from}
use Rattle.v32_console.specs.History.{operations_at}
use Rattle.v32_console.proofs.Histories.{moments, operations_go_on}
use Rattle.run_laws.specs.Steps.{Begins, HasMade}
use Rattle.play_laws.specs.Played.{ComesBy, ComesToAll, played}
use Rattle.play_laws.proofs.MoreAnswers.{same_run, begun_run}
use Rattle.play_laws.proofs.Playing.{never_starved}

abbrev answers_at : Setup → ℕ → List ℕ
answers_at u k = (operations_at u k).answers

-- later answers come behind the earlier ones
one_later : (u : Setup) (k : ℕ) → answers_at u (k + 1) ≡ answers_at u k ++ (operations_from u (console_at u k) (console_at u k).phase).answers
one_later u k = ap (λ o. o.answers) (operations_go_on u k)

later : (u : Setup) (k j : ℕ) → (more : List ℕ) × (answers_at u (k + j) ≡ answers_at u k ++ more)
later u k zero = let same : k + 0 ≡ k = omega arith in ([], ap (answers_at u) same ∙ sym (append-nil (answers_at u k)))
later u k (suc j) =
    let before = later u k j in
    let next = (operations_from u (console_at u (k + j)) (console_at u (k + j)).phase).answers in
    let same : k + suc j ≡ (k + j) + 1 = omega arith in
    (before.0 ++ next, ap (answers_at u) same ∙ one_later u (k + j) ∙ ap (λ (l : List ℕ). l ++ next) before.1 ∙ append_assoc (answers_at u k) before.0 next)

up_to : (u : Setup) (k j : ℕ) → k ≤ j → (more : List ℕ) × (answers_at u j ≡ answers_at u k ++ more)
up_to u k j le = let same : k + (j - k) ≡ j = omega (arith, le) in subst (λ (n : ℕ). (more : List ℕ) × (answers_at u n ≡ answers_at u k ++ more)) same (later u k (j - k))

module _ (u : Setup) (k steps : ℕ) where
  -- the words after so many steps with these answers
  abbrev on : List ℕ → machine.Run
  on answers = machine_runs u.program answers u.card steps

  -- where the console is after as many instructions
  abbrev arrival : ℕ
  arrival = (moments u steps).0

  arrives : on (answers_at u arrival) ≡ played u arrival
  arrives = (moments u steps).1

  answered : (on (answers_at u arrival)).end ≢ machine.Starved
  answered e = never_starved (console_at u arrival).phase (sym (ap (λ (r : machine.Run). r.end) arrives) ∙ e)

  before : k ≤ arrival → (on (answers_at u k)).end ≢ machine.Starved → on (answers_at u k) ≡ played u arrival
  before le enough =
      let more = up_to u k arrival le in
      sym (same_run more.0 steps (opening u.program u.card) (answers_at u k) enough) ∙ ap on (sym more.1) ∙ arrives

  behind : arrival ≤ k → on (answers_at u k) ≡ played u arrival
  behind le =
      let more = up_to u arrival k le in
      ap on more.1 ∙ same_run more.0 steps (opening u.program u.card) (answers_at u arrival) answered ∙ arrives

  arrives_so : (on (answers_at u k)).end ≢ machine.Starved → on (answers_at u k) ≡ played u arrival
  arrives_so enough = elim (cases_lt k arrival) [
    | inl lt ↦ before (omega arith) enough
    | inr le ↦ behind le
  ]

  -- of a run that lacks an answer the console makes the operations all the same
  begins_so : Begins (on (answers_at u k)).events (played u arrival).events
  begins_so = elim (cases_lt k arrival) [
    | inl lt ↦
        let more = up_to u k arrival (omega arith) in
        let whole : on (answers_at u k ++ more.0) ≡ played u arrival = ap on (sym more.1) ∙ arrives in
        subst (λ (r : machine.Run). Begins (on (answers_at u k)).events r.events) whole (begun_run more.0 steps (opening u.program u.card) (answers_at u k))
    | inr le ↦ subst (λ (r : machine.Run). Begins (on (answers_at u k)).events r.events) (behind le) ([], sym (append-nil (on (answers_at u k)).events))
  ]

  module _ (run : Run) (same : (on (answers_at u k)).events ≡ run.events) where
    made : (end : machine.End) → end ≢ machine.Starved → (on (answers_at u k)).end ≡ end → (n : ℕ) × HasMade end run (played u n)
    made end other ends = (arrival, subst (HasMade end run) (arrives_so (λ e. other (sym ends ∙ e))) (record { ended = ends; same = same }))

    comes_by : (addresses : List ℕ) (bound : ℕ) (end : Ending) → EndsAs addresses bound steps end run (on (answers_at u k)) → ComesBy end run (played u)
    comes_by addresses bound Halted h = made machine.Halted (λ q. cc) h.0
    comes_by addresses bound (Fault number) h = made (machine.Fault number) (λ q. cc) h.0
    comes_by addresses bound Starved h = (arrival, subst (λ (events : List Event). Begins events (played u arrival).events) same begins_so)
    comes_by addresses bound OutOfBound h = made machine.Going (λ q. cc) h.0
    comes_by addresses bound Stray h = made machine.Going (λ q. cc) h
    comes_by addresses bound Deep h = made machine.Going (λ q. cc) h

pub comes_to_all : (times : ℕ) (addresses : List ℕ) (meaning : Meaning) (u : Setup) → AgreesWithin times addresses meaning u.program → IsCard u.card
    → (k bound : ℕ) → ComesToAll (meaning bound (answers_at u k) u.card) (played u)
comes_to_all times addresses meaning u agrees is k bound =
    let run : Run = meaning bound (answers_at u k) u.card in
    let found = agrees bound (answers_at u k) u.card is in
    comes_by u k found.0 run found.1.events addresses bound run.end found.1.ends
