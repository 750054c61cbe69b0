-- A loop that copies words is followed by a block move.
use Rattle.std.proofs.Common.{◌≡◌, ◌≢◌, ℕ, zero, suc, ◌+◌, ◌<◌, ◌≤◌, inl, inr, Bool, true, false, List, [], length, refl, sym, ap, ◌∙◌, subst, arith, append-nil}
use Rattle.std.specs.Prelude.{if◌then◌else◌, ◌&&◌, not}
use Rattle.asm_laws.specs.Copies.{is_left}
use Rattle.kit_base.specs.Word.{add, sub, below}
use Rattle.v32_isa.specs.declared.instruction.Plain.TheVariants.{MOVS}
use Rattle.v32_isa.specs.declared.instruction.Two.TheVariants.{ISUB}
use Rattle.v32_isa.specs.declared.stepped.Stepped.TheVariants as stepped
use Rattle.v32_isa.specs.Arithmetic.{two_of}
use Rattle.v32_isa.specs.State.{register_of, with_register, going_to, word_at, written}
use Rattle.v32_isa.specs.State as machine
use Rattle.v32_isa.specs.Machine.{effect_of}
use Rattle.v32_isa.specs.Machine.Effect.{Ends as EndsIn}
use Rattle.v32_isa.specs.Runs.{run}
use Rattle.v32_isa.specs.Runs as runs
use Rattle.v32_isa.proofs.Steps.{Reaches, reaches_here, reaches_on, nested_none, nested_stopped, run-fault}
use Rattle.obj_mem.specs.declared.cell.Cell.{Cell}
use Rattle.obj_mem.specs.declared.cell.Cell.TheVariants.{Unwritten, Num, Ptr, Null}
use Rattle.obj_mem.specs.Runs.{Halted, Fault, Starved, Stray, Deep, OutOfBound}
use Rattle.mid_code.specs.declared.placed.Where.{Where}
use Rattle.mid_code.specs.declared.placed.Where.TheVariants.{Reg}
use Rattle.mid_code.specs.Code.{NodesT, Stop, Do, Choose, Loop, Again, OpT, TwoO, StepO, LoadO, StoreO}
use Rattle.mid_code.specs.Meaning.{Did, On, Ends, Res, Next, Repeats, Over, choose, did, turn_done, then_next, node_weight}
use Rattle.mid_code.specs.Meaning as meaning
use Rattle.mid_code.specs.States.{State, spent, op_weight, word_tested, registers_and_slots, acted}
use Rattle.asm_laws.specs.Operations.{Frame}
use Rattle.asm_laws.specs.Placing.{Bounds}
use Rattle.asm_laws.specs.inner.Following.{begin, Came, Stopped, Going, Sim}
use Rattle.asm_laws.specs.Addresses.{Addr, Does, Console, readable, writable, store, having, loaded, saved, computed, Held, does}
use Rattle.asm_laws.specs.Addresses as words
use Rattle.asm_laws.specs.Holds.{Setting, sizes, Fits, Ctx, Stands, HoldsAt}
use Rattle.asm_laws.specs.Acting.{Holds, DoesAs, Fitting}
use Rattle.asm_laws.specs.Calling.{lang, holder}
use Rattle.asm_laws.proofs.Stepping.{same_or_not, written_same, written_other, same_word, took, kept}
use Rattle.asm_laws.proofs.Hands.{with_reg}
use Rattle.asm_laws.proofs.Control.{after, earlier, here, still, then_sim}
use Rattle.asm_laws.proofs.First.{word_stands}
use Rattle.asm_laws.proofs.Ops.{acts}
use Rattle.asm_laws.proofs.Leads.{Copier, Apart, copying, copy_turn}
use Rattle.asm_laws.proofs.BlockMove.{Copies, copies, faults_reading, faults_writing, counts_on, counts_out}

-- events are as they were, and some work was done
pub record Since (s u : State Where) : Type 0 where
  pub events : u.world.events ≡ s.world.events
  pub work : s.world.work + 8 ≤ u.world.work

module _ (S : Setting) (fits : Fits S) (κ : Ctx) where
  abbrev C : Console
  C = S.console

  abbrev F : Frame
  F = S.whole.frames κ.fn

  -- an operation whose words are put somewhere, as a part of something of which the rest follows
  pub goes_on : (Q : Res (State Where) → Type 0) (s u : State Where) → Since s u → (a b : Addr) (o : OpT Where) → Holds S κ u a → Fitting S κ.fn o → ((xs : List ℕ) → does C S.address S.whole F o xs a ≡ words.Goes [] xs b) → (go : State Where → Res (State Where)) →
      ((t : State Where) → Since s t → Q (Over Stray t)) → ((t : State Where) → Since s t → t.world.store.answers ≡ u.world.store.answers → Holds S κ t b → Q (go t)) → Q (did ((lang S).act o u) go)
  goes_on Q s u since a b o h fit is go strays on =
      let u1 = spent (op_weight o) u in
      cases (acted registers_and_slots (sizes S) o u1) (subst (λ d. DoesAs S κ u1 a (acted registers_and_slots (sizes S) o u1) d) (is u.world.store.answers) (acts S fits κ u1 h.place a h.at o fit))
    where
      cases : (d : Did (State Where)) → DoesAs S κ (spent (op_weight o) u) a d (words.Goes [] u.world.store.answers b) → Q (did d go)
      cases (On t) g = on t (record { events = g.events ∙ append-nil u.world.events ∙ since.events; work = let w = g.work in let v = since.work in omega (arith, w, v) }) (sym g.answers) g.holds
      cases (Ends Stray t) g = strays t (record { events = g.0 ∙ since.events; work = let w = g.1 in let v = since.work in omega (arith, w, v) })
      cases (Ends Halted t) g = absurd g
      cases (Ends (Fault k) t) g = absurd g
      cases (Ends Starved t) g = absurd g
      cases (Ends Deep t) g = absurd g
      cases (Ends OutOfBound t) g = absurd g

  -- an operation that can't be done
  pub fails : (Q : Res (State Where) → Type 0) (s u : State Where) → Since s u → (a : Addr) (k : ℕ) (o : OpT Where) → Holds S κ u a → Fitting S κ.fn o → ((xs : List ℕ) → does C S.address S.whole F o xs a ≡ words.Ends (runs.Fault k)) → (go : State Where → Res (State Where)) →
      ((t : State Where) → Since s t → Q (Over Stray t)) → ((j : ℕ) (t : State Where) → Since s t → runs.Fault k ≡ runs.Fault j → Holds S κ t a → Q (Over (Fault j) t)) → Q (did ((lang S).act o u) go)
  fails Q s u since a k o h fit is go strays faulty =
      let u1 = spent (op_weight o) u in
      cases (acted registers_and_slots (sizes S) o u1) (subst (λ d. DoesAs S κ u1 a (acted registers_and_slots (sizes S) o u1) d) (is u.world.store.answers) (acts S fits κ u1 h.place a h.at o fit))
    where
      cases : (d : Did (State Where)) → DoesAs S κ (spent (op_weight o) u) a d (words.Ends (runs.Fault k)) → Q (did d go)
      cases (On t) g = absurd g
      cases (Ends Stray t) g = strays t (record { events = g.0 ∙ since.events; work = let w = g.1 in let v = since.work in omega (arith, w, v) })
      cases (Ends Halted t) g = let z = g.same in absurd cc
      cases (Ends (Fault j) t) g = faulty j t (record { events = g.events ∙ since.events; work = let w = g.work in let v = since.work in omega (arith, w, v) }) g.same g.holds
      cases (Ends Starved t) g = let z = g.same in absurd cc
      cases (Ends Deep t) g = absurd g.same
      cases (Ends OutOfBound t) g = absurd g.same

  -- the machine faults where the code does; a state that has the words in all registers
  pub stopped : (s t : State Where) (m shown : machine.State) (r0 r1 : ℕ → ℕ) (a : Addr) (k j : ℕ) → Since s t → runs.Fault k ≡ runs.Fault j → Holds S κ t a → ((r : ℕ) → r < (S.whole.frames κ.fn).registers → r1 r ≡ a.regs r) → Held C (having r0 a) m → Held C (having r1 a) shown → effect_of m ≡ EndsIn (stepped.Fault k) m →
      Stopped (holder S) m (begin (holder S) (spent 3 s)) t (runs.Fault j)
  stopped s t m shown r0 r1 a k j since same h like hm hs eff =
      let xs = s.world.store.answers in
      record {
        steps = 1;
        made = [];
        to = m;
        by = λ n. (let e : 1 + n ≡ suc n = omega arith in ap (λ i. run i m xs) e) ∙ run-fault n m m k xs eff ∙ ap (λ q. record { events = []; end = q; state = m }) same;
        nested = λ ls. nested_stopped 0 ls m m xs (stepped.Fault k) eff refl;
        held = record { context = κ; shown = shown; mach = record { place = h.place; words = a; at = h.at; registers = r1; like = like; held = hs }; memory = same_word C (having r0 a) (having r1 a) m shown hm hs (λ q. refl) };
        events = since.events ∙ sym (append-nil s.world.events);
        cost = let w = since.work in omega (arith, w);
      }

  pub strays : (s t : State Where) (m : machine.State) → Since s t → Going (holder S) m (begin (holder S) (spent 3 s)) t 0
  strays s t m since = record { steps = 0; made = []; to = m; left = s.world.store.answers; by = (reaches_here m s.world.store.answers).runs; nested = λ ls. nested_none ls m s.world.store.answers; events = since.events ∙ sym (append-nil s.world.events); cost = let w = since.work in omega (arith, w); many = omega arith }

  module _ (y : Copier) (apart : Apart y) (J : Bool) where
    -- the registers of places, with those that the loop changes as the words have them
    abbrev pub put4 : (ℕ → ℕ) → Addr → ℕ → ℕ
    put4 r0 a = written (written (written (written r0 y.from (a.regs y.from)) y.to (a.regs y.to)) y.count (a.regs y.count)) y.cell (a.regs y.cell)

    abbrev AllOthers : (ℕ → ℕ) → Addr → Type 0
    AllOthers r0 a = (r : ℕ) → r < (S.whole.frames κ.fn).registers → r ≢ y.from → r ≢ y.to → r ≢ y.count → r ≢ y.cell → r0 r ≡ a.regs r

    -- and but for that of the 1, where it is left
    abbrev pub Others : (ℕ → ℕ) → Addr → Type 0
    Others r0 a = (r : ℕ) → r < (S.whole.frames κ.fn).registers → r ≢ y.from → r ≢ y.to → r ≢ y.count → r ≢ y.cell → is_left (copying y) J r ≡ false → r0 r ≡ a.regs r

    one_too : (r0 : ℕ → ℕ) (a : Addr) → Others r0 a → AllOthers (written r0 y.one (a.regs y.one)) a
    one_too r0 a like r lt nf nt nn nc = elim (same_or_not r y.one) [
      | inl z ↦ written_same r0 y.one (a.regs y.one) r z.0 ∙ ap a.regs (sym z.0)
      | inr z ↦ written_other r0 y.one (a.regs y.one) r z.0 ∙ like r lt nf nt nn nc (ap (λ b. b && not J) z.1)
    ]

    four_like : (r0 : ℕ → ℕ) (a : Addr) → AllOthers r0 a → (r : ℕ) → r < (S.whole.frames κ.fn).registers → put4 r0 a r ≡ a.regs r
    four_like r0 a like r lt =
        let f1 = written r0 y.from (a.regs y.from) in
        let f2 = written f1 y.to (a.regs y.to) in
        let f3 = written f2 y.count (a.regs y.count) in
        elim (same_or_not r y.cell) [
          | inl c ↦ written_same f3 y.cell (a.regs y.cell) r c.0 ∙ ap a.regs (sym c.0)
          | inr c ↦ written_other f3 y.cell (a.regs y.cell) r c.0 ∙ elim (same_or_not r y.count) [
            | inl d ↦ written_same f2 y.count (a.regs y.count) r d.0 ∙ ap a.regs (sym d.0)
            | inr d ↦ written_other f2 y.count (a.regs y.count) r d.0 ∙ elim (same_or_not r y.to) [
              | inl e ↦ written_same f1 y.to (a.regs y.to) r e.0 ∙ ap a.regs (sym e.0)
              | inr e ↦ written_other f1 y.to (a.regs y.to) r e.0 ∙ elim (same_or_not r y.from) [
                | inl f ↦ written_same r0 y.from (a.regs y.from) r f.0 ∙ ap a.regs (sym f.0)
                | inr f ↦ written_other r0 y.from (a.regs y.from) r f.0 ∙ like r lt f.0 e.0 d.0 c.0
              ]
            ]
          ]
        ]

    pub record Low : Type 0 where
      pub from : y.from < 9
      pub to : y.to < 9
      pub cell : y.cell < 9
      pub count : y.count < 9
      pub one : y.one < 9

    module _ (lo : Low) where
      -- a state of the machine that has the words in all registers
      shown : (a : Addr) (m : machine.State) → machine.State
      shown a m = took C 0 y.cell (a.regs y.cell) (took C 0 y.count (a.regs y.count) (took C 0 y.to (a.regs y.to) (took C 0 y.from (a.regs y.from) m)))

      shown_held : (r0 : ℕ → ℕ) (a : Addr) (m : machine.State) → Held C (having r0 a) m → Held C (having (put4 r0 a) a) (shown a m)
      unfolding shown
      shown_held r0 a m h =
          let f1 = written r0 y.from (a.regs y.from) in
          let f2 = written f1 y.to (a.regs y.to) in
          let f3 = written f2 y.count (a.regs y.count) in
          let h1 = kept C (having r0 a) m 0 y.from (a.regs y.from) (omega (arith, lo.from)) h in
          let m1 = took C 0 y.from (a.regs y.from) m in
          let h2 = kept C (having f1 a) m1 0 y.to (a.regs y.to) (omega (arith, lo.to)) h1 in
          let m2 = took C 0 y.to (a.regs y.to) m1 in
          let h3 = kept C (having f2 a) m2 0 y.count (a.regs y.count) (omega (arith, lo.count)) h2 in
          let m3 = took C 0 y.count (a.regs y.count) m2 in
          kept C (having f3 a) m3 0 y.cell (a.regs y.cell) (omega (arith, lo.cell)) h3

      stops : (s t : State Where) (m : machine.State) (r0 : ℕ → ℕ) (a b : Addr) (k j : ℕ) → Since s t → runs.Fault k ≡ runs.Fault j → Holds S κ t a → Others r0 a → Held C b m → b ≡ having r0 a → effect_of m ≡ EndsIn (stepped.Fault k) m → Stopped (holder S) m (begin (holder S) (spent 3 s)) t (runs.Fault j)
      stops s t m r0 a b k j since same h like held is eff =
          let hm = subst (λ z. Held C z m) is held in
          let r1 = written r0 y.one (a.regs y.one) in
          let m1 = took C 0 y.one (a.regs y.one) m in
          stopped s t m (shown a m1) r0 (put4 r1 a) a k j since same h (four_like r1 a (one_too r0 a like)) hm (shown_held r1 a m1 (kept C (having r0 a) m 0 y.one (a.regs y.one) (omega (arith, lo.one)) hm)) eff

      -- in a turn the machine stands at the block move with the words that the turn begins with
      pub record Inside (s : State Where) (m : machine.State) (r0 : ℕ → ℕ) (pc next : ℕ) : Type 0 where
        pub place : ℕ → ℕ
        pub words : Addr
        pub at : HoldsAt S κ s.world.store s.cells place words
        pub like : Others r0 words
        pub move : Copies C MOVS (having r0 words) m pc next (words.regs y.count) (words.regs y.from) (words.regs y.to)
        pub one : words.regs y.one ≡ 1

      -- behind the last word, what the registers have and where they are to be put
      pub record Behind (t : State Where) (m : machine.State) (next : ℕ) : Type 0 where
        pub r0 : ℕ → ℕ
        pub words : Addr
        pub holds : Holds S κ t words
        pub like : Others r0 words
        pub held : Held C (having r0 words) m
        pub at : m.counter ≡ next
        pub count : register_of m 11 ≡ words.regs y.count
        pub source : register_of m 12 ≡ add (words.regs y.from) 1
        pub target : register_of m 13 ≡ add (words.regs y.to) 1
        pub reads : readable C (words.regs y.from) ≡ true
        pub writes : writable C (words.regs y.to) ≡ true
        pub word : words.memory (words.regs y.to) ≡ words.regs y.cell

      -- what is done behind it takes at most four steps
      pub record Put (R : State Where → machine.State → Type 0) (t : State Where) (m : machine.State) (p : ℕ) (xs : List ℕ) : Type 0 where
        pub to : machine.State
        pub steps : ℕ
        pub few : steps ≤ 4
        pub by : Reaches steps m xs [] to xs
        pub at : to.counter ≡ p
        pub held : R t to

      module _ (R : State Where → machine.State → Type 0) (pc next p : ℕ) (puts : (t : State Where) (m : machine.State) (xs : List ℕ) → Behind t m next → Put R t m p xs) where
        abbrev L : meaning.Lang Where
        L = lang S

        abbrev again : ℕ → State Where → Res (State Where)
        again n = meaning.below (lang S) n (Loop (copy_turn y) Stop)

        abbrev Follows : ℕ → List Bounds → State Where → machine.State → Res (State Where) → Type 0
        Follows n ls s m r = Sim (holder S) κ R m (begin (holder S) (spent 3 s)) p n ls (turn_done r (again n))

        -- the next turn
        abbrev Turn : ℕ → Type 0
        Turn n = (ls : List Bounds) (s : State Where) (m : machine.State) (r0 : ℕ → ℕ) → Inside s m r0 pc next → Follows n ls s m (meaning.does (lang S) n (meaning.below (lang S) n) (copy_turn y) (spent node_weight s))

        module _ (n : ℕ) (ls : List Bounds) (s : State Where) (m : machine.State) (r0 : ℕ → ℕ) (i : Inside s m r0 pc next) (onward : (t : State Where) → Came (holder S) m (begin (holder S) (spent 3 s)) t pc 1 0 (λ u. Inside t u r0 pc next) → Sim (holder S) κ R m (begin (holder S) (spent 3 s)) p n ls (again n t)) where
          abbrev a : Addr
          a = i.words

          abbrev v : ℕ
          v = i.words.regs y.from

          abbrev w : ℕ
          w = i.words.regs y.to

          abbrev c : ℕ
          c = i.words.regs y.count

          abbrev x : ℕ
          x = i.words.memory (i.words.regs y.from)

          abbrev a1 : Addr
          a1 = with_reg y.cell (i.words.memory (i.words.regs y.from)) i.words

          abbrev a2 : Addr
          a2 = store (i.words.regs y.to) (i.words.memory (i.words.regs y.from)) (with_reg y.cell (i.words.memory (i.words.regs y.from)) i.words)

          abbrev a3 : Addr
          a3 = with_reg y.count (sub (i.words.regs y.count) 1) (store (i.words.regs y.to) (i.words.memory (i.words.regs y.from)) (with_reg y.cell (i.words.memory (i.words.regs y.from)) i.words))

          abbrev a4 : Addr
          a4 = with_reg y.from (add (i.words.regs y.from) 1) (with_reg y.count (sub (i.words.regs y.count) 1) (store (i.words.regs y.to) (i.words.memory (i.words.regs y.from)) (with_reg y.cell (i.words.memory (i.words.regs y.from)) i.words)))

          abbrev a5 : Addr
          a5 = with_reg y.to (add (i.words.regs y.to) 1) (with_reg y.from (add (i.words.regs y.from) 1) (with_reg y.count (sub (i.words.regs y.count) 1) (store (i.words.regs y.to) (i.words.memory (i.words.regs y.from)) (with_reg y.cell (i.words.memory (i.words.regs y.from)) i.words))))

          abbrev Q : Res (State Where) → Type 0
          Q r = Follows n ls s m r

          astray : (t : State Where) → Since s t → Q (Over Stray t)
          astray t since = strays s t m since

          -- a register that is not changed
          one_on : (r : ℕ) → r ≢ y.cell → a2.regs r ≡ a.regs r
          one_on r nc = written_other a.regs y.cell x r nc

          two_on : (r : ℕ) → r ≢ y.cell → r ≢ y.count → a3.regs r ≡ a.regs r
          two_on r nc nn = written_other a2.regs y.count (sub c 1) r nn ∙ one_on r nc

          load_is : readable C v ≡ true → (xs : List ℕ) → does C S.address S.whole F (LoadO (Reg y.cell) (Reg y.from)) xs a ≡ words.Goes [] xs a1
          unfolding does
          load_is r xs = ap (λ b. loaded b F (Reg y.cell) x xs a) r

          load_fails : readable C v ≡ false → (xs : List ℕ) → does C S.address S.whole F (LoadO (Reg y.cell) (Reg y.from)) xs a ≡ words.Ends (runs.Fault 0)
          unfolding does
          load_fails r xs = ap (λ b. loaded b F (Reg y.cell) x xs a) r

          to_is : a1.regs y.to ≡ w
          to_is = one_on y.to apart.four.to_cell

          word_is : a1.regs y.cell ≡ x
          word_is = written_same a.regs y.cell x y.cell refl

          store_is : writable C w ≡ true → (xs : List ℕ) → does C S.address S.whole F (StoreO (Reg y.to) (Reg y.cell)) xs a1 ≡ words.Goes [] xs a2
          unfolding does
          store_is q xs = (λ j. saved (writable C (to_is j)) (to_is j) (word_is j) xs a1) ∙ ap (λ b. saved b w x xs a1) q

          store_fails : writable C w ≡ false → (xs : List ℕ) → does C S.address S.whole F (StoreO (Reg y.to) (Reg y.cell)) xs a1 ≡ words.Ends (runs.Fault 1)
          unfolding does
          store_fails q xs = (λ j. saved (writable C (to_is j)) (to_is j) (word_is j) xs a1) ∙ ap (λ b. saved b w x xs a1) q

          less_is : (xs : List ℕ) → does C S.address S.whole F (TwoO ISUB (Reg y.count) (Reg y.count) (Reg y.one)) xs a2 ≡ words.Goes [] xs a3
          unfolding does
          less_is xs =
              let e = one_on y.count (λ z. apart.four.cell_count (sym z)) in
              let o : a2.regs y.one ≡ 1 = one_on y.one (λ z. apart.four.cell_one (sym z)) ∙ i.one in
              λ j. computed F (Reg y.count) (two_of ISUB (e j) (o j)) xs a2

          from_is : (xs : List ℕ) → does C S.address S.whole F (StepO (Reg y.from) (Reg y.from) (Reg y.one)) xs a3 ≡ words.Goes [] xs a4
          unfolding does
          from_is xs =
              let e = two_on y.from apart.from_cell apart.from_count in
              let o : a3.regs y.one ≡ 1 = two_on y.one (λ z. apart.four.cell_one (sym z)) (λ z. apart.four.count_one (sym z)) ∙ i.one in
              λ j. words.Goes [] xs (with_reg y.from (add (e j) (o j)) a3)

          to_steps : (xs : List ℕ) → does C S.address S.whole F (StepO (Reg y.to) (Reg y.to) (Reg y.one)) xs a4 ≡ words.Goes [] xs a5
          unfolding does
          to_steps xs =
              let e = written_other a3.regs y.from (add v 1) y.to (λ z. apart.from_to (sym z)) ∙ two_on y.to apart.four.to_cell apart.four.to_count in
              let o : a4.regs y.one ≡ 1 = written_other a3.regs y.from (add v 1) y.one (λ z. apart.from_one (sym z)) ∙ two_on y.one (λ z. apart.four.cell_one (sym z)) (λ z. apart.four.count_one (sym z)) ∙ i.one in
              λ j. words.Goes [] xs (with_reg y.to (add (e j) (o j)) a4)

          count_is : a3.regs y.count ≡ sub c 1
          count_is = written_same a2.regs y.count (sub c 1) y.count refl

          abbrev xs0 : List ℕ
          xs0 = s.world.store.answers

          -- a word is copied, and words are left
          goes_round : readable C v ≡ true → writable C w ≡ true → (k : ℕ) (t : State Where) → a3.regs y.count ≡ suc k → Since s t → t.world.store.answers ≡ s.world.store.answers → Holds S κ t a5 → Q (Repeats 0 t)
          goes_round r q k t e since ans h =
              let mv = copies C (having r0 i.words) m pc next c v w i.move s.world.store.answers r q in
              let left : sub c 1 ≡ suc k = sym count_is ∙ e in
              let some = i.move.some in
              let few = i.move.few in
              let low : suc k < 0x80000000 = omega (arith, left, some, few) in
              onward t (record {
                steps = 1;
                made = [];
                to = mv.to;
                by = subst (λ ys. Reaches 1 m s.world.store.answers [] mv.to ys) (sym ans) mv.by;
                at = mv.at ∙ ap (λ b. if b then pc else next) (ap (below 0) left ∙ counts_on (suc k) (omega arith) low);
                held = record {
                  place = h.place;
                  words = a5;
                  at = h.at;
                  like = λ j lt nf nt nn nc left. i.like j lt nf nt nn nc left ∙ sym (written_other a4.regs y.to (add w 1) j nt ∙ written_other a3.regs y.from (add v 1) j nf ∙ two_on j nc nn);
                  move = record {
                    held = mv.held;
                    at = mv.at ∙ ap (λ b. if b then pc else next) (ap (below 0) left ∙ counts_on (suc k) (omega arith) low);
                    line = i.move.line;
                    count = mv.count ∙ sym (written_other a4.regs y.to (add w 1) y.count (λ z. apart.four.to_count (sym z)) ∙ written_other a3.regs y.from (add v 1) y.count (λ z. apart.from_count (sym z)) ∙ count_is);
                    source = mv.source ∙ sym (written_other a4.regs y.to (add w 1) y.from apart.from_to ∙ written_same a3.regs y.from (add v 1) y.from refl);
                    target = mv.target ∙ sym (written_same a4.regs y.to (add w 1) y.to refl);
                    some = let z = written_other a4.regs y.to (add w 1) y.count (λ z. apart.four.to_count (sym z)) ∙ written_other a3.regs y.from (add v 1) y.count (λ z. apart.from_count (sym z)) ∙ e in omega (arith, z);
                    few = let z = written_other a4.regs y.to (add w 1) y.count (λ z. apart.four.to_count (sym z)) ∙ written_other a3.regs y.from (add v 1) y.count (λ z. apart.from_count (sym z)) ∙ e in omega (arith, z, low);
                  };
                  one = written_other a4.regs y.to (add w 1) y.one (λ z. apart.four.to_one (sym z)) ∙ written_other a3.regs y.from (add v 1) y.one (λ z. apart.from_one (sym z)) ∙ two_on y.one (λ z. apart.four.cell_one (sym z)) (λ z. apart.four.count_one (sym z)) ∙ i.one;
                };
                events = since.events ∙ sym (append-nil s.world.events);
                cost = let g = since.work in omega (arith, g);
                many = omega arith;
              })

          -- the last word is copied
          goes_past : readable C v ≡ true → writable C w ≡ true → (t : State Where) → a3.regs y.count ≡ 0 → Since s t → t.world.store.answers ≡ s.world.store.answers → Holds S κ t a3 → Q (Next t)
          goes_past r q t e since ans h =
              let mv = copies C (having r0 i.words) m pc next c v w i.move s.world.store.answers r q in
              let left : sub c 1 ≡ 0 = sym count_is ∙ e in
              let from_on = two_on y.from apart.from_cell apart.from_count in
              let to_on = two_on y.to apart.four.to_cell apart.four.to_count in
              let b = puts t mv.to s.world.store.answers (record {
                r0 = r0;
                words = a3;
                holds = h;
                like = λ j lt nf nt nn nc left. i.like j lt nf nt nn nc left ∙ sym (two_on j nc nn);
                held = mv.held;
                at = mv.at ∙ ap (λ b. if b then pc else next) (ap (below 0) left ∙ counts_out);
                count = mv.count ∙ sym count_is;
                source = mv.source ∙ ap (λ z. add z 1) (sym from_on);
                target = mv.target ∙ ap (λ z. add z 1) (sym to_on);
                reads = ap (readable C) from_on ∙ r;
                writes = ap (writable C) to_on ∙ q;
                word = ap a3.memory to_on ∙ written_same a.memory w x w refl ∙ sym (written_other a2.regs y.count (sub c 1) y.cell apart.four.cell_count ∙ word_is);
              }) in
              record {
                steps = 1 + b.steps;
                made = [];
                to = b.to;
                by = subst (λ ys. Reaches (1 + b.steps) m s.world.store.answers [] b.to ys) (sym ans) (reaches_on 1 b.steps m mv.to b.to s.world.store.answers s.world.store.answers s.world.store.answers [] [] mv.by b.by);
                at = b.at;
                held = b.held;
                events = since.events ∙ sym (append-nil s.world.events);
                cost = let g = since.work in let k = b.few in omega (arith, g, k);
                many = omega arith;
              }

          abbrev steps : NodesT Where
          steps = Do (StepO (Reg y.from) (Reg y.from) (Reg y.one)) (Do (StepO (Reg y.to) (Reg y.to) (Reg y.one)) (Again zero Stop))

          abbrev Doing : NodesT Where → State Where → Res (State Where)
          Doing = meaning.does (lang S) n (meaning.below (lang S) n)

          spends : (t : State Where) → Since s t → Since s (spent node_weight t)
          spends t since = record { events = since.events; work = let g = since.work in omega (arith, g) }

          steps_on : readable C v ≡ true → writable C w ≡ true → (k : ℕ) (t : State Where) → a3.regs y.count ≡ suc k → Since s t → t.world.store.answers ≡ s.world.store.answers → Holds S κ t a3 → Q (then_next (Doing steps t) (Doing Stop))
          steps_on r q k t e since ans h =
              goes_on (λ z. Q (then_next z (Doing Stop))) s t since a3 a4 (StepO (Reg y.from) (Reg y.from) (Reg y.one)) h (lo.from, lo.from, lo.one) from_is (Doing (Do (StepO (Reg y.to) (Reg y.to) (Reg y.one)) (Again zero Stop))) astray
              (λ t1 s1 n1 h1. goes_on (λ z. Q (then_next z (Doing Stop))) s t1 s1 a4 a5 (StepO (Reg y.to) (Reg y.to) (Reg y.one)) h1 (lo.to, lo.to, lo.one) to_steps (Doing (Again zero Stop)) astray
              (λ t2 s2 n2 h2. goes_round r q k (spent node_weight t2) e (spends t2 s2) (n2 ∙ n1 ∙ ans) (record { place = h2.place; at = h2.at })))

          tested : readable C v ≡ true → writable C w ≡ true → (t : State Where) → Since s t → t.world.store.answers ≡ s.world.store.answers → Holds S κ t a3 → Q (Doing (Choose (Reg y.count) steps Stop Stop) t)
          tested r q t since ans h = go (t.cells (Reg y.count)) (word_stands S fits κ t.world.store t.cells h.place a3 (Reg y.count) lo.count h.at)
            where
              hs : Holds S κ (spent node_weight t) a3
              hs = record { place = h.place; at = h.at }

              go : (z : Cell) → Stands (length t.world.store.objects) h.place z (a3.regs y.count) → Q (then_next (choose (word_tested z) (spent node_weight t) (Doing steps) (Doing Stop)) (Doing Stop))
              go Unwritten e = astray (spent node_weight t) (spends t since)
              go (Ptr o j) e = astray (spent node_weight t) (spends t since)
              go Null e = astray (spent node_weight t) (spends t since)
              go (Num zero) e = goes_past r q (spent node_weight t) e (spends t since) ans hs
              go (Num (suc k)) e = steps_on r q k (spent node_weight t) e (spends t since) ans hs

          u0 : State Where
          u0 = spent node_weight s

          since0 : Since s (spent node_weight s)
          since0 = record { events = refl; work = omega arith }

          copied_turn : Q (Doing (copy_turn y) (spent node_weight s))
          copied_turn = reads (readable C v) refl
            where
              h0 : Holds S κ (spent node_weight s) i.words
              h0 = record { place = i.place; at = i.at }

              rest : NodesT Where
              rest = Do (TwoO ISUB (Reg y.count) (Reg y.count) (Reg y.one)) (Choose (Reg y.count) steps Stop Stop)

              writes : readable C v ≡ true → (b : Bool) → writable C w ≡ b → (t1 : State Where) → Since s t1 → t1.world.store.answers ≡ s.world.store.answers → Holds S κ t1 a1 →
                  Q (Doing (Do (StoreO (Reg y.to) (Reg y.cell)) (Do (TwoO ISUB (Reg y.count) (Reg y.count) (Reg y.one)) (Choose (Reg y.count) steps Stop Stop))) t1)
              writes r true q t1 s1 n1 h1 =
                  goes_on Q s t1 s1 a1 a2 (StoreO (Reg y.to) (Reg y.cell)) h1 (lo.to, lo.cell) (store_is q) (Doing (Do (TwoO ISUB (Reg y.count) (Reg y.count) (Reg y.one)) (Choose (Reg y.count) steps Stop Stop))) astray
                  (λ t2 s2 n2 h2. goes_on Q s t2 s2 a2 a3 (TwoO ISUB (Reg y.count) (Reg y.count) (Reg y.one)) h2 (lo.count, lo.count, lo.one) less_is (Doing (Choose (Reg y.count) steps Stop Stop)) astray
                  (λ t3 s3 n3 h3. tested r q t3 s3 (n3 ∙ n2 ∙ n1) h3))
              writes r false q t1 s1 n1 h1 =
                  fails Q s t1 s1 a1 1 (StoreO (Reg y.to) (Reg y.cell)) h1 (lo.to, lo.cell) (store_fails q) (Doing (Do (TwoO ISUB (Reg y.count) (Reg y.count) (Reg y.one)) (Choose (Reg y.count) steps Stop Stop))) astray
                  (λ j t since same h. stops s t m r0 a1 (having r0 i.words) 1 j since same h (λ z lt nf nt nn nc left. i.like z lt nf nt nn nc left ∙ sym (one_on z nc)) i.move.held refl (faults_writing C (having r0 i.words) m pc next c v w i.move r q))

              reads : (b : Bool) → readable C v ≡ b → Q (Doing (copy_turn y) (spent node_weight s))
              reads true r =
                  goes_on Q s (spent node_weight s) since0 i.words a1 (LoadO (Reg y.cell) (Reg y.from)) h0 (lo.cell, lo.from) (load_is r) (Doing (Do (StoreO (Reg y.to) (Reg y.cell)) (Do (TwoO ISUB (Reg y.count) (Reg y.count) (Reg y.one)) (Choose (Reg y.count) steps Stop Stop)))) astray
                  (λ t1 s1 n1 h1. writes r (writable C w) refl t1 s1 n1 h1)
              reads false r =
                  fails Q s (spent node_weight s) since0 i.words 0 (LoadO (Reg y.cell) (Reg y.from)) h0 (lo.cell, lo.from) (load_fails r) (Doing (Do (StoreO (Reg y.to) (Reg y.cell)) (Do (TwoO ISUB (Reg y.count) (Reg y.count) (Reg y.one)) (Choose (Reg y.count) steps Stop Stop)))) astray
                  (λ j t since same h. stops s t m r0 i.words (having r0 i.words) 0 j since same h i.like i.move.held refl (faults_reading C (having r0 i.words) m pc next c v w i.move r))

        -- for every bound the machine copies as many words as there are turns
        pub turns : (n : ℕ) → Turn n
        turns zero ls s m r0 i = copied_turn zero ls s m r0 i (λ t f. still (lang S) (holder S) [] m (begin (holder S) (spent 3 s)) t pc 1 (λ u. Inside t u r0 pc next) f)
        turns (suc k) ls s m r0 i =
            copied_turn (suc k) ls s m r0 i (λ t f.
            let r = turn_done (meaning.does (lang S) k (meaning.below (lang S) k) (copy_turn y) (spent node_weight t)) (again k) in
            after (lang S) (holder S) κ R m (begin (holder S) (spent 3 s)) t pc 1 (suc k) k p ls (λ u. Inside t u r0 pc next) (again (suc k) t) (omega arith) f
            (then_sim (lang S) (holder S) κ R R f.to (begin (holder S) t) p p k ls r (meaning.does (lang S) k (meaning.below (lang S) k) Stop)
            (earlier (lang S) (holder S) κ R f.to (begin (holder S) t) (begin (holder S) (spent 3 t)) p k ls r refl refl (omega arith) (turns k ls t f.to r0 f.held)) (λ u m2 e h. here (lang S) (holder S) (R u) m2 u p e h)))
