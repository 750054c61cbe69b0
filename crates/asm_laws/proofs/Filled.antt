-- A loop that fills words is followed by a block fill.
use Rattle.std.proofs.Common.{◌≤◌, ◌≡◌, ◌≢◌, ℕ, zero, suc, ◌+◌, ◌<◌, inl, inr, Bool, true, false, List, [], length, refl, sym, ap, ◌∙◌, subst, arith, append-nil}
use Rattle.std.specs.Prelude.{if◌then◌else◌}
use Rattle.kit_base.specs.Word.{add, sub, below}
use Rattle.v32_isa.specs.declared.instruction.Plain.TheVariants.{SETS}
use Rattle.v32_isa.specs.declared.instruction.Two.TheVariants.{ISUB}
use Rattle.v32_isa.specs.Arithmetic.{two_of}
use Rattle.v32_isa.specs.State.{register_of, with_register, going_to, word_at, written}
use Rattle.v32_isa.specs.State as machine
use Rattle.v32_isa.specs.Runs.{run}
use Rattle.v32_isa.specs.Runs as runs
use Rattle.v32_isa.proofs.Steps.{Reaches, reaches_on}
use Rattle.obj_mem.specs.declared.cell.Cell.{Cell}
use Rattle.obj_mem.specs.declared.cell.Cell.TheVariants.{Unwritten, Num, Ptr, Null}
use Rattle.obj_mem.specs.Runs.{Stray}
use Rattle.mid_code.specs.declared.placed.Where.{Where}
use Rattle.mid_code.specs.declared.placed.Where.TheVariants.{Reg}
use Rattle.mid_code.specs.Code.{NodesT, Stop, Do, Choose, Loop, Again, TwoO, StepO, StoreO}
use Rattle.mid_code.specs.Meaning.{Did, On, Ends, Res, Next, Repeats, Over, choose, did, turn_done, then_next, node_weight}
use Rattle.mid_code.specs.Meaning as meaning
use Rattle.mid_code.specs.States.{State, spent, word_tested}
use Rattle.std.specs.Prelude.{◌&&◌, not}
use Rattle.asm_laws.specs.Copies.{is_left}
use Rattle.asm_laws.specs.Operations.{Frame}
use Rattle.asm_laws.specs.Placing.{Bounds}
use Rattle.asm_laws.specs.inner.Following.{begin, Came, Sim}
use Rattle.asm_laws.specs.Addresses.{Addr, Does, Console, readable, writable, store, having, loaded, saved, computed, Held, does}
use Rattle.asm_laws.specs.Addresses as words
use Rattle.asm_laws.specs.Holds.{Setting, Fits, Ctx, Stands, HoldsAt}
use Rattle.asm_laws.specs.Acting.{Holds}
use Rattle.asm_laws.specs.Calling.{lang, holder}
use Rattle.asm_laws.proofs.Stepping.{same_or_not, written_same, written_other, took, kept}
use Rattle.asm_laws.proofs.Hands.{with_reg}
use Rattle.asm_laws.proofs.Control.{after, earlier, here, still, then_sim}
use Rattle.asm_laws.proofs.First.{word_stands}
use Rattle.asm_laws.proofs.Leads.{Filler, Four, filling, fill_turn}
use Rattle.asm_laws.proofs.BlockMove.{Copies, fills, faults_filling, counts_on, counts_out}
use Rattle.asm_laws.proofs.Copied.{Since, goes_on, fails, stopped, strays}

module _ (S : Setting) (fits : Fits S) (κ : Ctx) where
  abbrev C : Console
  C = S.console

  abbrev F : Frame
  F = S.whole.frames κ.fn

  module _ (y : Filler) (apart : Four y.to y.cell y.count y.one) (J : Bool) where
    -- the registers of places, with those that the loop changes as the words have them
    abbrev pub put2 : (ℕ → ℕ) → Addr → ℕ → ℕ
    put2 r0 a = written (written r0 y.to (a.regs y.to)) y.count (a.regs y.count)

    abbrev AllOthers : (ℕ → ℕ) → Addr → Type 0
    AllOthers r0 a = (r : ℕ) → r < (S.whole.frames κ.fn).registers → r ≢ y.to → r ≢ y.count → r0 r ≡ a.regs r

    -- and but for that of the 1, where it is left
    abbrev pub Others : (ℕ → ℕ) → Addr → Type 0
    Others r0 a = (r : ℕ) → r < (S.whole.frames κ.fn).registers → r ≢ y.to → r ≢ y.count → is_left (filling y) J r ≡ false → r0 r ≡ a.regs r

    one_too : (r0 : ℕ → ℕ) (a : Addr) → Others r0 a → AllOthers (written r0 y.one (a.regs y.one)) a
    one_too r0 a like r lt nt nn = elim (same_or_not r y.one) [
      | inl z ↦ written_same r0 y.one (a.regs y.one) r z.0 ∙ ap a.regs (sym z.0)
      | inr z ↦ written_other r0 y.one (a.regs y.one) r z.0 ∙ like r lt nt nn (ap (λ b. b && not J) z.1)
    ]

    two_like : (r0 : ℕ → ℕ) (a : Addr) → AllOthers r0 a → (r : ℕ) → r < (S.whole.frames κ.fn).registers → put2 r0 a r ≡ a.regs r
    two_like r0 a like r lt =
        let f1 = written r0 y.to (a.regs y.to) in
        elim (same_or_not r y.count) [
          | inl d ↦ written_same f1 y.count (a.regs y.count) r d.0 ∙ ap a.regs (sym d.0)
          | inr d ↦ written_other f1 y.count (a.regs y.count) r d.0 ∙ elim (same_or_not r y.to) [
            | inl e ↦ written_same r0 y.to (a.regs y.to) r e.0 ∙ ap a.regs (sym e.0)
            | inr e ↦ written_other r0 y.to (a.regs y.to) r e.0 ∙ like r lt e.0 d.0
          ]
        ]

    pub record Low : Type 0 where
      pub to : y.to < 9
      pub cell : y.cell < 9
      pub count : y.count < 9
      pub one : y.one < 9

    module _ (lo : Low) where
      -- a state of the machine that has the words in all registers
      shown : (a : Addr) (m : machine.State) → machine.State
      shown a m = took C 0 y.count (a.regs y.count) (took C 0 y.to (a.regs y.to) m)

      shown_held : (r0 : ℕ → ℕ) (a : Addr) (m : machine.State) → Held C (having r0 a) m → Held C (having (put2 r0 a) a) (shown a m)
      unfolding shown
      shown_held r0 a m h =
          let f1 = written r0 y.to (a.regs y.to) in
          let h1 = kept C (having r0 a) m 0 y.to (a.regs y.to) (omega (arith, lo.to)) h in
          let m1 = took C 0 y.to (a.regs y.to) m in
          kept C (having f1 a) m1 0 y.count (a.regs y.count) (omega (arith, lo.count)) h1

      -- in a turn the machine stands at the block fill with the words that the turn begins with
      pub record Inside (s : State Where) (m : machine.State) (r0 : ℕ → ℕ) (pc next : ℕ) : Type 0 where
        pub place : ℕ → ℕ
        pub words : Addr
        pub at : HoldsAt S κ s.world.store s.cells place words
        pub like : Others r0 words
        pub move : Copies C SETS (having r0 words) m pc next (words.regs y.count) (words.regs y.cell) (words.regs y.to)
        pub one : words.regs y.one ≡ 1

      -- behind the last word, what the registers have and where they are to be put
      pub record Behind (t : State Where) (m : machine.State) (next : ℕ) : Type 0 where
        pub r0 : ℕ → ℕ
        pub words : Addr
        pub holds : Holds S κ t words
        pub like : Others r0 words
        pub held : Held C (having r0 words) m
        pub at : m.counter ≡ next
        pub count : register_of m 11 ≡ words.regs y.count
        pub target : register_of m 13 ≡ add (words.regs y.to) 1
        pub writes : writable C (words.regs y.to) ≡ true

      -- what is done behind it takes at most two steps
      pub record Put (R : State Where → machine.State → Type 0) (t : State Where) (m : machine.State) (p : ℕ) (xs : List ℕ) : Type 0 where
        pub to : machine.State
        pub steps : ℕ
        pub few : steps ≤ 2
        pub by : Reaches steps m xs [] to xs
        pub at : to.counter ≡ p
        pub held : R t to

      module _ (R : State Where → machine.State → Type 0) (pc next p : ℕ) (puts : (t : State Where) (m : machine.State) (xs : List ℕ) → Behind t m next → Put R t m p xs) where
        abbrev again : ℕ → State Where → Res (State Where)
        again n = meaning.below (lang S) n (Loop (fill_turn y) Stop)

        abbrev Follows : ℕ → List Bounds → State Where → machine.State → Res (State Where) → Type 0
        Follows n ls s m r = Sim (holder S) κ R m (begin (holder S) (spent 3 s)) p n ls (turn_done r (again n))

        -- the next turn
        abbrev Turn : ℕ → Type 0
        Turn n = (ls : List Bounds) (s : State Where) (m : machine.State) (r0 : ℕ → ℕ) → Inside s m r0 pc next → Follows n ls s m (meaning.does (lang S) n (meaning.below (lang S) n) (fill_turn y) (spent node_weight s))

        module _ (n : ℕ) (ls : List Bounds) (s : State Where) (m : machine.State) (r0 : ℕ → ℕ) (i : Inside s m r0 pc next) (onward : (t : State Where) → Came (holder S) m (begin (holder S) (spent 3 s)) t pc 1 0 (λ u. Inside t u r0 pc next) → Sim (holder S) κ R m (begin (holder S) (spent 3 s)) p n ls (again n t)) where
          abbrev a : Addr
          a = i.words

          abbrev x : ℕ
          x = i.words.regs y.cell

          abbrev w : ℕ
          w = i.words.regs y.to

          abbrev c : ℕ
          c = i.words.regs y.count

          abbrev a1 : Addr
          a1 = store (i.words.regs y.to) (i.words.regs y.cell) i.words

          abbrev a2 : Addr
          a2 = with_reg y.count (sub (i.words.regs y.count) 1) (store (i.words.regs y.to) (i.words.regs y.cell) i.words)

          abbrev a3 : Addr
          a3 = with_reg y.to (add (i.words.regs y.to) 1) (with_reg y.count (sub (i.words.regs y.count) 1) (store (i.words.regs y.to) (i.words.regs y.cell) i.words))

          abbrev Q : Res (State Where) → Type 0
          Q r = Follows n ls s m r

          astray : (t : State Where) → Since s t → Q (Over Stray t)
          astray t since = strays S fits κ s t m since

          -- a register that is not changed
          one_on : (r : ℕ) → r ≢ y.count → a2.regs r ≡ a.regs r
          one_on r nn = written_other a.regs y.count (sub c 1) r nn

          store_is : writable C w ≡ true → (xs : List ℕ) → does C S.address S.whole F (StoreO (Reg y.to) (Reg y.cell)) xs a ≡ words.Goes [] xs a1
          unfolding does
          store_is q xs = ap (λ b. saved b w x xs a) q

          store_fails : writable C w ≡ false → (xs : List ℕ) → does C S.address S.whole F (StoreO (Reg y.to) (Reg y.cell)) xs a ≡ words.Ends (runs.Fault 1)
          unfolding does
          store_fails q xs = ap (λ b. saved b w x xs a) q

          less_is : (xs : List ℕ) → does C S.address S.whole F (TwoO ISUB (Reg y.count) (Reg y.count) (Reg y.one)) xs a1 ≡ words.Goes [] xs a2
          unfolding does
          less_is xs =
              let o : a1.regs y.one ≡ 1 = i.one in
              λ j. computed F (Reg y.count) (two_of ISUB c (o j)) xs a1

          to_steps : (xs : List ℕ) → does C S.address S.whole F (StepO (Reg y.to) (Reg y.to) (Reg y.one)) xs a2 ≡ words.Goes [] xs a3
          unfolding does
          to_steps xs =
              let e = one_on y.to apart.to_count in
              let o : a2.regs y.one ≡ 1 = one_on y.one (λ z. apart.count_one (sym z)) ∙ i.one in
              λ j. words.Goes [] xs (with_reg y.to (add (e j) (o j)) a2)

          count_is : a2.regs y.count ≡ sub c 1
          count_is = written_same a.regs y.count (sub c 1) y.count refl

          -- a word is written, and words are left
          goes_round : writable C w ≡ true → (k : ℕ) (t : State Where) → a2.regs y.count ≡ suc k → Since s t → t.world.store.answers ≡ s.world.store.answers → Holds S κ t a3 → Q (Repeats 0 t)
          goes_round q k t e since ans h =
              let mv = fills C (having r0 i.words) m pc next c x w i.move s.world.store.answers q in
              let left : sub c 1 ≡ suc k = sym count_is ∙ e in
              let some = i.move.some in
              let few = i.move.few in
              let low : suc k < 0x80000000 = omega (arith, left, some, few) in
              let on = mv.at ∙ ap (λ b. if b then pc else next) (ap (below 0) left ∙ counts_on (suc k) (omega arith) low) in
              let kept_count : a3.regs y.count ≡ a2.regs y.count = written_other a2.regs y.to (add w 1) y.count (λ z. apart.to_count (sym z)) in
              onward t (record {
                steps = 1;
                made = [];
                to = mv.to;
                by = subst (λ ys. Reaches 1 m s.world.store.answers [] mv.to ys) (sym ans) mv.by;
                at = on;
                held = record {
                  place = h.place;
                  words = a3;
                  at = h.at;
                  like = λ j lt nt nn left. i.like j lt nt nn left ∙ sym (written_other a2.regs y.to (add w 1) j nt ∙ one_on j nn);
                  move = record {
                    held = mv.held;
                    at = on;
                    line = i.move.line;
                    count = mv.count ∙ sym (kept_count ∙ count_is);
                    source = mv.source ∙ sym (written_other a2.regs y.to (add w 1) y.cell (λ z. apart.to_cell (sym z)) ∙ one_on y.cell apart.cell_count);
                    target = mv.target ∙ sym (written_same a2.regs y.to (add w 1) y.to refl);
                    some = let z = kept_count ∙ e in omega (arith, z);
                    few = let z = kept_count ∙ e in omega (arith, z, low);
                  };
                  one = written_other a2.regs y.to (add w 1) y.one (λ z. apart.to_one (sym z)) ∙ one_on y.one (λ z. apart.count_one (sym z)) ∙ i.one;
                };
                events = since.events ∙ sym (append-nil s.world.events);
                cost = let g = since.work in omega (arith, g);
                many = omega arith;
              })

          -- the last word is written
          goes_past : writable C w ≡ true → (t : State Where) → a2.regs y.count ≡ 0 → Since s t → t.world.store.answers ≡ s.world.store.answers → Holds S κ t a2 → Q (Next t)
          goes_past q t e since ans h =
              let mv = fills C (having r0 i.words) m pc next c x w i.move s.world.store.answers q in
              let left : sub c 1 ≡ 0 = sym count_is ∙ e in
              let to_on = one_on y.to apart.to_count in
              let b = puts t mv.to s.world.store.answers (record {
                r0 = r0;
                words = a2;
                holds = h;
                like = λ j lt nt nn left. i.like j lt nt nn left ∙ sym (one_on j nn);
                held = mv.held;
                at = mv.at ∙ ap (λ b. if b then pc else next) (ap (below 0) left ∙ counts_out);
                count = mv.count ∙ sym count_is;
                target = mv.target ∙ ap (λ z. add z 1) (sym to_on);
                writes = ap (writable C) to_on ∙ q;
              }) in
              record {
                steps = 1 + b.steps;
                made = [];
                to = b.to;
                by = subst (λ ys. Reaches (1 + b.steps) m s.world.store.answers [] b.to ys) (sym ans) (reaches_on 1 b.steps m mv.to b.to s.world.store.answers s.world.store.answers s.world.store.answers [] [] mv.by b.by);
                at = b.at;
                held = b.held;
                events = since.events ∙ sym (append-nil s.world.events);
                cost = let g = since.work in let k = b.few in omega (arith, g, k);
                many = omega arith;
              }

          abbrev steps : NodesT Where
          steps = Do (StepO (Reg y.to) (Reg y.to) (Reg y.one)) (Again zero Stop)

          abbrev Doing : NodesT Where → State Where → Res (State Where)
          Doing = meaning.does (lang S) n (meaning.below (lang S) n)

          spends : (t : State Where) → Since s t → Since s (spent node_weight t)
          spends t since = record { events = since.events; work = let g = since.work in omega (arith, g) }

          steps_on : writable C w ≡ true → (k : ℕ) (t : State Where) → a2.regs y.count ≡ suc k → Since s t → t.world.store.answers ≡ s.world.store.answers → Holds S κ t a2 → Q (then_next (Doing steps t) (Doing Stop))
          steps_on q k t e since ans h =
              goes_on S fits κ (λ z. Q (then_next z (Doing Stop))) s t since a2 a3 (StepO (Reg y.to) (Reg y.to) (Reg y.one)) h (lo.to, lo.to, lo.one) to_steps (Doing (Again zero Stop)) astray
              (λ t1 s1 n1 h1. goes_round q k (spent node_weight t1) e (spends t1 s1) (n1 ∙ ans) (record { place = h1.place; at = h1.at }))

          tested : writable C w ≡ true → (t : State Where) → Since s t → t.world.store.answers ≡ s.world.store.answers → Holds S κ t a2 → Q (Doing (Choose (Reg y.count) steps Stop Stop) t)
          tested q t since ans h = go (t.cells (Reg y.count)) (word_stands S fits κ t.world.store t.cells h.place a2 (Reg y.count) lo.count h.at)
            where
              hs : Holds S κ (spent node_weight t) a2
              hs = record { place = h.place; at = h.at }

              go : (z : Cell) → Stands (length t.world.store.objects) h.place z (a2.regs y.count) → Q (then_next (choose (word_tested z) (spent node_weight t) (Doing steps) (Doing Stop)) (Doing Stop))
              go Unwritten e = astray (spent node_weight t) (spends t since)
              go (Ptr o j) e = astray (spent node_weight t) (spends t since)
              go Null e = astray (spent node_weight t) (spends t since)
              go (Num zero) e = goes_past q (spent node_weight t) e (spends t since) ans hs
              go (Num (suc k)) e = steps_on q k (spent node_weight t) e (spends t since) ans hs

          since0 : Since s (spent node_weight s)
          since0 = record { events = refl; work = omega arith }

          filled_turn : Q (Doing (fill_turn y) (spent node_weight s))
          filled_turn = writes (writable C w) refl
            where
              h0 : Holds S κ (spent node_weight s) i.words
              h0 = record { place = i.place; at = i.at }

              writes : (b : Bool) → writable C w ≡ b → Q (Doing (fill_turn y) (spent node_weight s))
              writes true q =
                  goes_on S fits κ Q s (spent node_weight s) since0 i.words a1 (StoreO (Reg y.to) (Reg y.cell)) h0 (lo.to, lo.cell) (store_is q) (Doing (Do (TwoO ISUB (Reg y.count) (Reg y.count) (Reg y.one)) (Choose (Reg y.count) steps Stop Stop))) astray
                  (λ t1 s1 n1 h1. goes_on S fits κ Q s t1 s1 a1 a2 (TwoO ISUB (Reg y.count) (Reg y.count) (Reg y.one)) h1 (lo.count, lo.count, lo.one) less_is (Doing (Choose (Reg y.count) steps Stop Stop)) astray
                  (λ t2 s2 n2 h2. tested q t2 s2 (n2 ∙ n1) h2))
              writes false q =
                  fails S fits κ Q s (spent node_weight s) since0 i.words 1 (StoreO (Reg y.to) (Reg y.cell)) h0 (lo.to, lo.cell) (store_fails q) (Doing (Do (TwoO ISUB (Reg y.count) (Reg y.count) (Reg y.one)) (Choose (Reg y.count) steps Stop Stop))) astray
                  (λ j t since same h. stopped S fits κ s t m (shown i.words (took C 0 y.one (i.words.regs y.one) m)) r0 (put2 (written r0 y.one (i.words.regs y.one)) i.words) i.words 1 j since same h (two_like (written r0 y.one (i.words.regs y.one)) i.words (one_too r0 i.words i.like)) i.move.held (shown_held (written r0 y.one (i.words.regs y.one)) i.words (took C 0 y.one (i.words.regs y.one) m) (kept C (having r0 i.words) m 0 y.one (i.words.regs y.one) (omega (arith, lo.one)) i.move.held)) (faults_filling C (having r0 i.words) m pc next c x w i.move q))

        -- for every bound the machine writes as many words as there are turns
        pub turns : (n : ℕ) → Turn n
        turns zero ls s m r0 i = filled_turn zero ls s m r0 i (λ t f. still (lang S) (holder S) [] m (begin (holder S) (spent 3 s)) t pc 1 (λ u. Inside t u r0 pc next) f)
        turns (suc k) ls s m r0 i =
            filled_turn (suc k) ls s m r0 i (λ t f.
            let r = turn_done (meaning.does (lang S) k (meaning.below (lang S) k) (fill_turn y) (spent node_weight t)) (again k) in
            after (lang S) (holder S) κ R m (begin (holder S) (spent 3 s)) t pc 1 (suc k) k p ls (λ u. Inside t u r0 pc next) (again (suc k) t) (omega arith) f
            (then_sim (lang S) (holder S) κ R R f.to (begin (holder S) t) p p k ls r (meaning.does (lang S) k (meaning.below (lang S) k) Stop)
            (earlier (lang S) (holder S) κ R f.to (begin (holder S) t) (begin (holder S) (spent 3 t)) p k ls r refl refl (omega arith) (turns k ls t f.to r0 f.held)) (λ u m2 e h. here (lang S) (holder S) (R u) m2 u p e h)))
