-- The words of a program do what its placed code means.
use Rattle.std.proofs.Common.{◌≡◌, ◌≢◌, ℕ, zero, suc, ◌+◌, ◌-◌, ◌*◌, ◌<◌, ◌≤◌, inl, inr, Bool, true, false, List, [], ◌∷◌, ◌++◌, length, Option, Some, None, refl, sym, ap, ◌∙◌, subst, arith, append-nil}
use Rattle.std.specs.Prelude.{get_or, slice_get, slice_index, nat_lt}
use Rattle.std.proofs.lemmas.Option.{slice_get_within, get_or_from_slice_get}
use Rattle.std.proofs.lemmas.Bool.Decides.{nat_tests}
use Rattle.kit_base.specs.declared.event.Event.{Event}
use Rattle.v32_isa.specs.declared.instruction.Plain.TheVariants.{HLT}
use Rattle.v32_isa.specs.declared.instruction.Instr.TheVariants as instr
use Rattle.v32_isa.specs.declared.stepped.Stepped.TheVariants as stepped
use Rattle.v32_isa.specs.State.{word_at, register_of, with_register, going_to}
use Rattle.v32_isa.specs.State as machine
use Rattle.v32_isa.specs.Machine.{act}
use Rattle.v32_isa.specs.Machine.Effect.{Ends as EndsIn}
use Rattle.v32_isa.specs.Runs.{run, ended, opening_memory, opening_registers}
use Rattle.v32_isa.specs.Runs as runs
use Rattle.v32_isa.specs.Calls.{Nested}
use Rattle.v32_isa.proofs.Steps.{before, Reaches, reaches_here, reaches_on, run-halted, nested_none, nested_stopped}
use Rattle.obj_mem.specs.declared.cell.Cell.{Cell}
use Rattle.obj_mem.specs.declared.cell.Cell.TheVariants.{Unwritten, Num}
use Rattle.obj_mem.specs.Objects.{ObjectT, object_at, cell_at}
use Rattle.obj_mem.specs.Runs.{Ending, Halted, Fault, Starved, Stray, Deep, OutOfBound, global_cells}
use Rattle.mid_code.specs.declared.placed.Where.{Where}
use Rattle.mid_code.specs.Code.{Stop}
use Rattle.mid_code.specs.Meaning.{Did, On, Ends, Res, Next, Leaves, Repeats, Returns, Over, call_done, did, called}
use Rattle.mid_code.specs.Meaning as meaning
use Rattle.mid_code.specs.States.{State, spent, registers_and_slots, function_at, begun, if_room}
use Rattle.mid_code.specs.Runs.{Final, final, opening, start_done, main_done, main_called, final_of, run_of}
use Rattle.mid_code.specs.Keeps.{global_cell}
use Rattle.mid_code.specs.Agrees.{KeepsWords, Matches}
use Rattle.asm_laws.specs.inner.Following.{Begin, begin, Came, Stopped, Going, Sim, CallSim}
use Rattle.asm_laws.specs.inner.Following as follow
use Rattle.asm_laws.proofs.Control.{still, entered_sim}
use Rattle.asm_laws.specs.Addresses.{having, Held}
use Rattle.asm_laws.proofs.Stepping.{line_effect, readable_word}
use Rattle.asm_laws.specs.Holds.{Setting, sizes, Fits, Ctx, Lives, Stands}
use Rattle.obj_mem.specs.Stores.{has_room}
use Rattle.asm_laws.specs.Calling.{Mach, Given, ExitAt, EndedIn, Like, live_at, lang, live_holder, shapes}
use Rattle.asm_laws.proofs.Likeness.{same_weaker}
use Rattle.asm_laws.proofs.LiveParts.{like_self}
use Rattle.asm_laws.proofs.LiveSims.{call_like}
use Rattle.asm_laws.specs.Linked.{Linked, first_context, first_words}
use Rattle.asm_laws.proofs.First.{cell_wide}
use Rattle.asm_laws.proofs.Words.{readable_in}
use Rattle.asm_laws.proofs.Whole.{parts, follows}

cell_of_slice : (cs : List Cell) (i x : ℕ) → slice_get cs i ≡ Some (Num x) → (i < length cs) × (get_or cs i Unwritten ≡ Num x)
cell_of_slice cs i x e = (slice_get_within cs i (Num x) e, get_or_from_slice_get cs i (Num x) Unwritten e)

globals_read : (os : List ObjectT) (count number i x : ℕ) → global_cell (global_cells count os) number i ≡ Some (Num x) → (number < count) × (i < length (object_at os number).cells) × (cell_at (object_at os number) i ≡ Num x)
globals_read [] zero number i x e = cc
globals_read [] (suc count) number i x e = cc
globals_read (y ∷ os) zero number i x e = cc
globals_read (y ∷ os) (suc count) zero i x e = let r = cell_of_slice y.cells i x e in (omega arith, r.0, r.1)
globals_read (y ∷ os) (suc count) (suc number) i x e = let r = globals_read os count number i x e in (omega (arith, r.0), r.1, r.2)

run_none : (s : machine.State) (xs : List ℕ) → run 0 s xs ≡ ended runs.Going s
unfolding run
run_none s xs = refl

halt_effect : (s : machine.State) (next : ℕ) → act (instr.Plain HLT) next s ≡ EndsIn stepped.Halted s
unfolding act
halt_effect s next = refl

spent_zero : (s : State Where) → spent 0 s ≡ s
spent_zero s = let e : s.world.work + 0 ≡ s.world.work = omega arith in ap (λ w. record s { world = record s.world { work = w } }) e

-- no block is left and no turn begun by a call
abbrev Settled : {S : Type 0} → Res S → Type 0
Settled (Next s) = Unit {0}
Settled (Leaves k s) = ⊥
Settled (Repeats k s) = ⊥
Settled (Returns s) = ⊥
Settled (Over f s) = Unit {0}

settles_done : {S : Type 0} (none back : S → S) (r : Res S) → Settled (call_done none back r)
settles_done none back (Next s) = tt
settles_done none back (Leaves k s) = tt
settles_done none back (Repeats k s) = tt
settles_done none back (Returns s) = tt
settles_done none back (Over f s) = tt

settles : {S : Type 0} (none back : S → S) (d : Did S) (go : S → Res S) → Settled (did d (λ v. call_done none back (go v)))
settles none back (On v) go = settles_done none back (go v)
settles none back (Ends f v) go = tt

module _ (S : Setting) (fits : Fits S) where
  -- the words of objects that live through the whole run
  fixed_word : (t : State Where) (m : machine.State) → EndedIn S t m → (o i x : ℕ) → o < S.fixed_count → i < length (object_at t.world.store.objects o).cells → cell_at (object_at t.world.store.objects o) i ≡ Num x → word_at m (S.fixed o + i) ≡ Some x
  fixed_word t m en o i x lt il e =
      let h = en.mach.at in
      let κ = en.context in
      let os = t.world.store.objects in
      let place = en.mach.place in
      let f = h.kept.fixed o lt in
      let p : place o ≡ S.fixed o = h.ranges.old_place o f.0 ∙ f.1 in
      let l : Lives os o = h.objects.lives o i il in
      let w = cell_wide S fits κ t.world.store place o i h.ranges l il in
      let r : en.mach.words.memory (place o + i) ≡ x = subst (λ c. Stands (length os) place c (en.mach.words.memory (place o + i))) e (h.objects.at o i l il) in
      let q = readable_in S.console (object_at os o).kind (object_at os o).cells (place o + i) i fits.short (h.ranges.cards o l) il (h.ranges.inside o i l w) in
      ap (λ z. word_at m (z + i)) (sym p) ∙ en.memory (place o + i) ∙ readable_word S.console (having en.mach.registers en.mach.words) en.shown (place o + i) en.mach.held q ∙ ap Some r

  keeps : (t : State Where) (f : Ending) (r : runs.Run) (m : machine.State) → r.state ≡ m → EndedIn S t m → KeepsWords S.whole.globals (run_of S.code (final f t.world)) r
  keeps t f r m e en = record {
    of_globals = λ number i x g.
        let d = globals_read t.world.store.objects (length S.code.globals) number i x g in
        let k = fits.globals_at number d.0 in
        ap (λ z. word_at z (get_or S.whole.globals number 0 + i)) e ∙ ap (λ z. word_at m (z + i)) k.1 ∙ fixed_word t m en number i x k.0 d.1 d.2;
    of_card = λ i x g.
        let d = cell_of_slice (object_at t.world.store.objects (length S.code.globals + length S.code.literals)).cells i x g in
        let k = fits.card_at in
        ap (λ z. word_at z (0x30000000 + i)) e ∙ ap (λ z. word_at m (z + i)) (sym k.1) ∙ fixed_word t m en (length S.code.globals + length S.code.literals) i x k.0 d.0 d.1;
  }

  -- where the machine holds what is live
  keeps_live : (t : State Where) (f : Ending) (r : runs.Run) (m : machine.State) → r.state ≡ m → (live_holder S).E t m → KeepsWords S.whole.globals (run_of S.code (final f t.world)) r
  keeps_live t f r m e (u, q, en) = subst (λ w. KeepsWords S.whole.globals (run_of S.code (final f w)) r) q (keeps u f r m e en)

  -- steps before
  record Pre (m0 : machine.State) (answers : List ℕ) (b : Begin) (m1 : machine.State) : Type 0 where
    steps : ℕ
    made : List Event
    by : Reaches steps m0 answers made m1 b.answers
    events : b.events ≡ made
    cost : steps ≤ b.work + 1

  module _ (m0 : machine.State) (answers : List ℕ) (n : ℕ) where
    abbrev Shown : Final → Type 0
    Shown e = (steps : ℕ) × Matches S.whole.globals n steps (run_of S.code e) (run steps m0 answers) × (e.end ≢ Stray → steps ≤ 1 * e.world.work + 64) × Nested steps [] m0 answers

    ran_stopped : (b : Begin) (m1 : machine.State) (t : State Where) (how : runs.End) (p : Pre m0 answers b m1) (s : Stopped (live_holder S) m1 b t how) → run (p.steps + s.steps) m0 answers ≡ record { events = p.made ++ s.made; end = how; state = s.to }
    ran_stopped b m1 t how p s =
        let e : s.steps ≡ s.steps + 0 = omega arith in
        p.by.runs s.steps ∙ ap (λ k. before p.made (run k m1 b.answers)) e ∙ ap (before p.made) (s.by 0)

    ran_going : (b : Begin) (m1 : machine.State) (t : State Where) (k : ℕ) (p : Pre m0 answers b m1) (s : Going (live_holder S) m1 b t k) → run (p.steps + s.steps) m0 answers ≡ record { events = p.made ++ (s.made ++ []); end = runs.Going; state = s.to }
    ran_going b m1 t k p s =
        let e : s.steps ≡ s.steps + 0 = omega arith in
        p.by.runs s.steps ∙ ap (λ j. before p.made (run j m1 b.answers)) e ∙ ap (before p.made) (s.by 0) ∙ ap (λ r. before p.made (before s.made r)) (run_none s.to s.left)

    stopped_events : (b : Begin) (m1 : machine.State) (t : State Where) (how : runs.End) (p : Pre m0 answers b m1) (s : Stopped (live_holder S) m1 b t how) → (run (p.steps + s.steps) m0 answers).events ≡ t.world.events
    stopped_events b m1 t how p s = ap (λ r. r.events) (ran_stopped b m1 t how p s) ∙ ap (λ es. es ++ s.made) (sym p.events) ∙ sym s.events

    going_events : (b : Begin) (m1 : machine.State) (t : State Where) (k : ℕ) (p : Pre m0 answers b m1) (s : Going (live_holder S) m1 b t k) → (run (p.steps + s.steps) m0 answers).events ≡ t.world.events
    going_events b m1 t k p s = ap (λ r. r.events) (ran_going b m1 t k p s) ∙ ap (λ es. p.made ++ es) (append-nil s.made) ∙ ap (λ es. es ++ s.made) (sym p.events) ∙ sym s.events

    shown_final : (b : Begin) (m1 : machine.State) (f : Ending) (t : State Where) → Pre m0 answers b m1 → follow.Final (live_holder S) n m1 b f t → Shown (final f t.world)
    shown_final b m1 Halted t p s =
        let r = ran_stopped b m1 t runs.Halted p s in
        (p.steps + s.steps, record { events = stopped_events b m1 t runs.Halted p s; ends = (ap (λ z. z.end) r, keeps_live t Halted (run (p.steps + s.steps) m0 answers) s.to (ap (λ z. z.state) r) s.held) }, λ q. let c = p.cost in let d = s.cost in omega (arith, c, d), p.by.nests [] s.steps (s.nested []))
    shown_final b m1 (Fault k) t p s =
        let r = ran_stopped b m1 t (runs.Fault k) p s in
        (p.steps + s.steps, record { events = stopped_events b m1 t (runs.Fault k) p s; ends = (ap (λ z. z.end) r, keeps_live t (Fault k) (run (p.steps + s.steps) m0 answers) s.to (ap (λ z. z.state) r) s.held) }, λ q. let c = p.cost in let d = s.cost in omega (arith, c, d), p.by.nests [] s.steps (s.nested []))
    shown_final b m1 Starved t p s =
        let r = ran_stopped b m1 t runs.Starved p s in
        (p.steps + s.steps, record { events = stopped_events b m1 t runs.Starved p s; ends = (ap (λ z. z.end) r, keeps_live t Starved (run (p.steps + s.steps) m0 answers) s.to (ap (λ z. z.state) r) s.held) }, λ q. let c = p.cost in let d = s.cost in omega (arith, c, d), p.by.nests [] s.steps (s.nested []))
    shown_final b m1 Stray t p s = (p.steps + s.steps, record { events = going_events b m1 t 0 p s; ends = ap (λ z. z.end) (ran_going b m1 t 0 p s) }, λ q. let c = p.cost in let d = s.cost in omega (arith, c, d), p.by.nests [] s.steps (s.nested []))
    shown_final b m1 Deep t p s = (p.steps + s.steps, record { events = going_events b m1 t 0 p s; ends = ap (λ z. z.end) (ran_going b m1 t 0 p s) }, λ q. let c = p.cost in let d = s.cost in omega (arith, c, d), p.by.nests [] s.steps (s.nested []))
    shown_final b m1 OutOfBound t p s = (p.steps + s.steps, record { events = going_events b m1 t n p s; ends = (ap (λ z. z.end) (ran_going b m1 t n p s), let l = s.many in omega (arith, l)) }, λ q. let c = p.cost in let d = s.cost in omega (arith, c, d), p.by.nests [] s.steps (s.nested []))

    -- steps before, and more of them
    further : (b : Begin) (m1 : machine.State) (t : State Where) (pc least : ℕ) (R : machine.State → Type 0) → Pre m0 answers b m1 → (f : Came (live_holder S) m1 b t pc least 0 R) → Pre m0 answers (begin (live_holder S) t) f.to
    further b m1 t pc least R p f = record {
      steps = p.steps + f.steps;
      made = p.made ++ f.made;
      by = reaches_on p.steps f.steps m0 m1 f.to answers b.answers t.world.store.answers p.made f.made p.by f.by;
      events = f.events ∙ ap (λ es. es ++ f.made) p.events;
      cost = let c = p.cost in let d = f.cost in omega (arith, c, d);
    }

    strays : (b : Begin) (m1 : machine.State) (t : State Where) (pc least : ℕ) (R : machine.State → Type 0) → Pre m0 answers b m1 → Came (live_holder S) m1 b t pc least 0 R → Shown (final Stray t.world)
    strays b m1 t pc least R p f = shown_final b m1 Stray t p (still (lang S) (live_holder S) [] m1 b t pc least R f)

module _ (S : Setting) (card : Option (List ℕ)) (boot rest : ℕ) (l : Linked S card boot rest) where
  abbrev κ0 : Ctx
  κ0 = first_context S boot card

  -- the context in which main is called
  abbrev κ1 : Ctx
  κ1 = record κ0 { fn = rest }

  no_locals : (f : ℕ) → S.called_as f ≡ None → length (S.locals f) ≡ 0
  no_locals f e = ap length (l.fits.locals_none f e)

  left : (t : State Where) (m : machine.State) → Mach S κ0 t m → Mach S κ1 t m
  left t m h =
      let none0 : length t.world.store.locals ≡ 0 = h.at.stack.locals_are ∙ no_locals boot l.boot_as in
      let none1 = no_locals rest (l.rest_as ∙ l.boot_as) in
      record {
        place = h.place;
        words = h.words;
        at = record {
          temps = record { in_regs = h.at.temps.in_regs; in_slots = λ k has. absurd (l.rest_slots k has) };
          ranges = record {
            inside = h.at.ranges.inside;
            ends = h.at.ranges.ends;
            cards = h.at.ranges.cards;
            apart = h.at.ranges.apart;
            outer = h.at.ranges.outer;
            mine = h.at.ranges.mine;
            local = λ k o lt e. absurd (omega (arith, lt, none0));
            local_wide = λ k o lt e q. absurd (omega (arith, lt, none0));
            first_in = h.at.ranges.first_in;
            old_lives = h.at.ranges.old_lives;
            old_place = h.at.ranges.old_place;
            kept_apart = h.at.ranges.kept_apart;
          };
          objects = h.at.objects;
          kept = record { fixed = h.at.kept.fixed; same = h.at.kept.same; above = h.at.kept.above };
          stack = record {
            called_as = h.at.stack.called_as ∙ sym l.rest_as;
            locals_are = none0 ∙ sym none1;
            base_is = h.at.stack.base_is;
            top_is = let q = h.at.stack.top_is in omega (arith, q, l.boot_depth, l.rest_depth);
            low = let q = h.at.stack.low in omega (arith, q, l.rest_size);
            high = h.at.stack.high;
            used_is = let q = h.at.stack.used_is in omega (arith, q, l.boot_depth, l.rest_depth);
          };
        };
        registers = h.registers;
        like = λ r lt. h.like r (omega (arith, lt, l.rest_registers));
        held = h.held;
      }

  left_given : (t : State Where) (m : machine.State) → (g : Given S κ0 t m) → Mach S κ1 (record t { cells = g.cells }) m
  left_given t m g = left (record t { cells = g.cells }) m (record { place = g.place; words = g.words; at = g.at; registers = g.registers; like = g.like; held = g.held })

  -- what places hold is nothing to main
  module _ (t : State Where) (cells : Where → Cell) where
    ends_same : (r : Res (State Where)) → main_done (call_done (lang S).none ((lang S).back None (record t { cells = cells })) r) ≡ main_done (call_done (lang S).none ((lang S).back None t) r)
    ends_same (Next s) = refl
    ends_same (Leaves k s) = refl
    ends_same (Repeats k s) = refl
    ends_same (Returns s) = refl
    ends_same (Over f s) = refl

    room_same : (b : Bool) (v : State Where) (prev : State Where → Res (State Where)) →
        main_done (did (if_room b (record t { cells = cells }) v) (λ w. call_done (lang S).none ((lang S).back None (record t { cells = cells })) (prev w))) ≡ main_done (did (if_room b t v) (λ w. call_done (lang S).none ((lang S).back None t) (prev w)))
    room_same true v prev = ends_same (prev v)
    room_same false v prev = refl

    main_same : (n : ℕ) → main_called registers_and_slots S.code S.frames n (record t { cells = cells }) ≡ main_called registers_and_slots S.code S.frames n t
    main_same zero = refl
    main_same (suc j) =
        room_same (has_room (sizes S) S.code.main t.world.store) (begun registers_and_slots (sizes S) (function_at S.code S.code.main).params S.code.main [] t)
        (meaning.below (lang S) (suc j) ((lang S).body S.code.main))

  -- the start ends where its body does
  start_ends : (q : ℕ) → ExitAt S boot q → q ≡ S.leaves boot
  start_ends q (inl e) = e
  start_ends q (inr r) = let e : None ≡ Some boot = sym l.boot_as ∙ r.0 in absurd cc

  module _ (m0 : machine.State) (answers : List ℕ) (n : ℕ) where
    abbrev Here : Final → Type 0
    Here e = Shown S l.fits m0 answers n e

    -- main has returned
    halts : (t : State Where) (m1 : machine.State) → Pre S l.fits m0 answers (begin (live_holder S) t) m1 → Like (live_at S κ1 Stop) (Mach S κ1) t m1 → m1.counter ≡ l.after → Here (final Halted t.world)
    halts t m1 p h e =
        let xs = t.world.store.answers in
        let eff = line_effect S.console (having h.held.registers h.held.words) m1 l.after (instr.Plain HLT) l.last h.held.held e l.halt (omega arith, omega arith, omega arith) ∙ halt_effect m1 l.last in
        let r : run (p.steps + 1) m0 answers ≡ record { events = p.made ++ []; end = runs.Halted; state = m1 } = p.by.runs 1 ∙ ap (before p.made) (run-halted 0 m1 m1 xs eff) in (
          p.steps + 1,
          record {
            events = ap (λ z. z.events) r ∙ append-nil p.made ∙ sym p.events;
            ends = (ap (λ z. z.end) r, keeps_live S l.fits t Halted (run (p.steps + 1) m0 answers) m1 (ap (λ z. z.state) r) (h.other, h.same.world, record { context = κ1; shown = m1; mach = h.held; memory = λ q. refl }));
          },
          λ q. let c = p.cost in omega (arith, c),
          p.by.nests [] 1 (nested_stopped 0 [] m1 m1 xs stepped.Halted eff refl),
        )

    main_ends : (b : Begin) (m1 : machine.State) (r : Res (State Where)) → Pre S l.fits m0 answers b m1 → Sim (live_holder S) κ1 (Like (live_at S κ1 Stop) (Mach S κ1)) m1 b l.after n [] r → Settled r → Here (main_done r)
    main_ends b m1 (Next t) p a ok = halts t a.to (further S l.fits m0 answers n b m1 t l.after 0 (Like (live_at S κ1 Stop) (Mach S κ1) t) p a) a.held a.at
    main_ends b m1 (Leaves k t) p a ok = absurd ok
    main_ends b m1 (Repeats k t) p a ok = absurd ok
    main_ends b m1 (Returns t) p a ok = absurd ok
    main_ends b m1 (Over f t) p a ok = shown_final S l.fits m0 answers n b m1 f t p a

  module _ (m0 : machine.State) (answers : List ℕ) where
    main_row : (n : ℕ) (t : State Where) (m1 : machine.State) → Pre S l.fits m0 answers (begin (live_holder S) t) m1 → m1.counter ≡ S.leaves boot → Like (λ r. false) (Mach S κ1) t m1 → Shown S l.fits m0 answers n (main_called registers_and_slots S.code S.frames n t)
    main_row zero t m1 p e h = shown_final S l.fits m0 answers zero (begin (live_holder S) t) m1 OutOfBound t p (record { steps = 0; made = []; to = m1; left = t.world.store.answers; by = (reaches_here m1 t.world.store.answers).runs; nested = λ ls. nested_none ls m1 t.world.store.answers; events = sym (append-nil t.world.events); cost = omega arith; many = omega arith })
    main_row (suc j) t m1 p e h =
        let L = lang S in
        let c = subst (λ u. CallSim (live_holder S) (shapes S) (Like (live_at S κ1 Stop) (Mach S κ1)) l.after None S.code.main u m1 (begin (live_holder S) t) (L.enter S.code.main [] u)) (spent_zero t) (call_like S l.fits l.functions κ1 (S.leaves boot) l.after None S.code.main [] Stop t m1 0 (omega arith) l.calls_main e h) in
        main_ends m0 answers (suc j) (begin (live_holder S) t) m1 (did (L.enter S.code.main [] t) (λ v. call_done L.none (L.back None t) (meaning.below L (suc j) (L.body S.code.main) v))) p
        (entered_sim L (live_holder S) (shapes S) (parts S l.fits l.functions) κ1 (Like (live_at S κ1 Stop) (Mach S κ1)) l.after (suc j) j [] None S.code.main t m1 (begin (live_holder S) t) (L.enter S.code.main [] t) (meaning.below L (suc j)) (omega arith)
        (λ κ pc q ls d u m2 at2 e2 h2. follows S l.fits l.functions j κ pc q ls d u m2 at2 e2 h2) c)
        (settles L.none (L.back None t) (L.enter S.code.main [] t) (meaning.below L (suc j) (L.body S.code.main)))

    start_row : (n : ℕ) (b : Begin) (m1 : machine.State) (r : Res (State Where)) → Pre S l.fits m0 answers b m1 → Sim (live_holder S) κ0 (Like (live_at S κ0 Stop) (Mach S κ0)) m1 b (S.leaves boot) n [] r → Shown S l.fits m0 answers n (start_done r (main_called registers_and_slots S.code S.frames n))
    start_row n b m1 (Next t) p a = main_row n t a.to (further S l.fits m0 answers n b m1 t (S.leaves boot) 0 (Like (live_at S κ0 Stop) (Mach S κ0) t) p a) a.at
        (record { other = a.held.other; same = same_weaker (live_at S κ0 Stop) (λ r. false) a.held.other t (λ r lt e. cc) a.held.same; held = left a.held.other a.to a.held.held })
    start_row n b m1 (Leaves k t) p a = strays S l.fits m0 answers n b m1 t _ 0 (Like (live_at S κ0 Stop) (Mach S κ0) t) p a
    start_row n b m1 (Repeats k t) p a = strays S l.fits m0 answers n b m1 t _ 1 (Like (live_at S κ0 Stop) (Mach S κ0) t) p a
    start_row n b m1 (Returns t) p (q, x, a) =
        subst (λ z. Shown S l.fits m0 answers n z) (main_same t a.held.cells n)
        (main_row n (record t { cells = a.held.cells }) a.to (further S l.fits m0 answers n b m1 t q 0 (Given S κ0 t) p a) (a.at ∙ start_ends q x) (like_self S (λ r. false) (Mach S κ1) (record t { cells = a.held.cells }) a.to (left_given t a.to a.held)))
    start_row n b m1 (Over f t) p a = shown_final S l.fits m0 answers n b m1 f t p a

  -- ---- the opening

  text_there : (j : ℕ) → j < length S.console.words → length S.console.words < 0x10000000 → opening_memory S.console.words card (0x20000000 + j) ≡ slice_index S.console.words j
  unfolding opening_memory
  text_there j lt short =
      let e1 : nat_lt (0x20000000 + j) 0x20000000 ≡ false = grind (arith, nat_tests) in
      let e2 : nat_lt (0x20000000 + j) 0x30000000 ≡ true = grind (arith, nat_tests) in
      let e3 : 0x20000000 + j - 0x20000000 ≡ j = omega arith in
      rw (e1, e2, e3) refl

  zeros : (r : ℕ) → r < 9 → register_of (runs.opening S.console.words card) r ≡ 0
  zeros zero lt = refl
  zeros (suc zero) lt = refl
  zeros (suc (suc zero)) lt = refl
  zeros (suc (suc (suc zero))) lt = refl
  zeros (suc (suc (suc (suc zero)))) lt = refl
  zeros (suc (suc (suc (suc (suc zero))))) lt = refl
  zeros (suc (suc (suc (suc (suc (suc zero)))))) lt = refl
  zeros (suc (suc (suc (suc (suc (suc (suc zero))))))) lt = refl
  zeros (suc (suc (suc (suc (suc (suc (suc (suc zero)))))))) lt = refl
  zeros (suc (suc (suc (suc (suc (suc (suc (suc (suc r))))))))) lt = absurd (omega (arith, lt))

  abbrev m1 : machine.State
  m1 = runs.opening S.console.words card

  held_first : Held S.console (first_words S card) m1
  held_first = record {
    program_length = refl;
    card = sym l.has_card;
    short = l.fits.short;
    text = λ j lt. text_there j lt l.fits.short;
    sixteen = refl;
    regs = zeros;
    top = refl;
    memory = λ q. refl;
  }

  -- the words do what the code means, in at most as many steps as its work and 64
  pub row : (n : ℕ) (answers : List ℕ) → Shown S l.fits (runs.opening S.console.words card) answers n (final_of registers_and_slots S.code S.frames n answers card)
  row n answers =
      let s0 = opening S.code answers card in
      let p : Pre S l.fits (runs.opening S.console.words card) answers (begin (live_holder S) s0) m1 = record { steps = 0; made = []; by = reaches_here m1 answers; events = refl; cost = omega arith } in
      start_row (runs.opening S.console.words card) answers n (begin (live_holder S) s0) m1 (meaning.runs (lang S) n S.code.start.body s0) p
      (follows S l.fits l.functions n κ0 (S.enters boot) (S.leaves boot) [] S.code.start.body s0 m1 l.start (sym l.opening)
      (like_self S (live_at S κ0 S.code.start.body) (Mach S κ0) s0 m1 (record { place = S.fixed; words = first_words S card; at = l.opens answers; registers = λ r. 0; like = λ r lt. refl; held = held_first })))
