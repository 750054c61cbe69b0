-- The instructions of a loop that copies words do what the loop does.
use Rattle.std.proofs.Common.{sym, ◌≤◌, ◌≡◌, ◌≢◌, ℕ, ◌+◌, ◌++◌, ◌<◌, inl, inr, Bool, true, false, List, [], length, Some, refl, ap, ◌∙◌, subst, arith}
use Rattle.std.specs.Prelude.{not, ◌==◌, ◌&&◌, ◌||◌, nat_lt}
use Rattle.std.proofs.lemmas.Bool.Decides.{nat_tests}
use Rattle.either.specs.declared.Either.TheVariants.{Left}
use Rattle.kit_base.specs.Word.{add}
use Rattle.v32_isa.specs.declared.instruction.Mov.TheVariants.{RegReg, RegAtReg}
use Rattle.v32_isa.specs.declared.instruction.Instr.TheVariants as instr
use Rattle.v32_isa.specs.declared.stepped.Stepped.TheVariants as stepped
use Rattle.v32_isa.specs.State.{register_of, with_register, going_to, word_at, written}
use Rattle.v32_isa.specs.State as machine
use Rattle.v32_isa.specs.Machine.{act}
use Rattle.v32_isa.specs.Machine.Effect.{Ends as EndsIn}
use Rattle.v32_isa.proofs.Steps.{reaches_on}
use Rattle.asm_items.specs.declared.item.AsmItem.TheVariants as item
use Rattle.mid_code.specs.declared.placed.Where.{Where}
use Rattle.mid_code.specs.Code.{Stop, Loop}
use Rattle.mid_code.specs.Meaning.{turn_done, node_weight}
use Rattle.mid_code.specs.Meaning as meaning
use Rattle.mid_code.specs.States.{State, spent}
use Rattle.asm_laws.specs.Copies.{is_left, is_moved, last_item, when, back_items, copy_items, is_count}
use Rattle.asm_laws.specs.Pieces.{register}
use Rattle.asm_laws.specs.Operations.{Frame}
use Rattle.asm_laws.specs.Placing.{Bounds}
use Rattle.asm_laws.specs.Standing.{Stand}
use Rattle.asm_laws.specs.inner.Following.{begin, Sim}
use Rattle.asm_laws.specs.Addresses.{Addr, Console, readable, writable, having}
use Rattle.asm_laws.specs.Holds.{Setting, Fits, Ctx, Stands}
use Rattle.asm_laws.specs.Calling.{Mach, ReadyFor, Like, lang, holder}
use Rattle.asm_laws.proofs.Stepping.{same_or_not, readable_word}
use Rattle.asm_laws.proofs.Control.{earlier}
use Rattle.asm_laws.proofs.Leads.{Copier, Apart, copying, copy_turn}
use Rattle.asm_laws.proofs.Copied.{Others, Low, Inside, Behind, Put, turns}
use Rattle.asm_laws.proofs.PutBack.{asked, asked_same, asked_other, same_register, ask, keeps}
use Rattle.asm_laws.proofs.Split.{split}

both : (p q : Bool) → p && q ≡ true → (p ≡ true) × (q ≡ true)
both true true e = (refl, refl)
both true false e = absurd cc
both false q e = absurd cc

pub count_low : (n : ℕ) → is_count (Some n) ≡ true → (0 < n) × (n < 0x80000000)
count_low n e =
    let h = both (nat_lt 0 n) (nat_lt n 0x80000000) e in
    let h0 = h.0 in
    let h1 = h.1 in
    (grind (arith, nat_tests, h0), grind (arith, nat_tests, h1))

reads_low : (C : Console) (q : ℕ) → length C.words < 0x10000000 → readable C q ≡ true → q < 0x40000000
unfolding readable
reads_low C q short r = grind (arith, nat_tests, r)

pub writes_low : (C : Console) (q : ℕ) → writable C q ≡ true → q < 0x40000000
unfolding writable
writes_low C q r = grind (arith, nat_tests, r)

reads_written : (C : Console) (q : ℕ) → writable C q ≡ true → readable C q ≡ true
unfolding readable writable
reads_written C q r = grind (arith, nat_tests, r)

pub one_back : (v : ℕ) → v < 0x40000000 → add (add v 1) 0xFFFFFFFF ≡ v
one_back v lt = omega arith

pub lea_act : (s : machine.State) (r q i next : ℕ) → act (instr.Lea r q (Some i)) next s ≡ EndsIn stepped.Went (going_to next (with_register r (add (register_of s q) i) s))
unfolding act
lea_act s r q i next = refl

pub move_act : (s : machine.State) (r q next : ℕ) → act (instr.Mov (RegReg r q)) next s ≡ EndsIn stepped.Went (going_to next (with_register r (register_of s q) s))
unfolding act
move_act s r q next = refl

load_act : (s : machine.State) (r q v next : ℕ) → word_at s (register_of s q) ≡ Some v → act (instr.Mov (RegAtReg r q)) next s ≡ EndsIn stepped.Went (going_to next (with_register r v s))
unfolding act
load_act s r q v next e = rw e refl

module _ (S : Setting) (fits : Fits S) (κ : Ctx) where
  abbrev C : Console
  C = S.console

  abbrev F : Frame
  F = S.whole.frames κ.fn

  module _ (y : Copier) (apart : Apart y) (J : ℕ → Bool) (lo : Low S fits κ y apart (J y.one)) where
    and_none : (b : Bool) → b && false ≡ false
    and_none true = refl
    and_none false = refl

    not_left : (r : ℕ) → J r ≡ true → is_left (copying y) (J y.one) r ≡ false
    not_left r e = elim (same_or_not r y.one) [
      | inl z ↦ ap (λ b. (r == y.one) && not b) (ap J (sym z.0) ∙ e) ∙ and_none (r == y.one)
      | inr z ↦ ap (λ b. b && not (J y.one)) z.1
    ]

    -- what the registers have that are asked for
    module _ (f0 : ℕ → ℕ) (a : Addr) where
      abbrev f1 : ℕ → ℕ
      f1 = asked (J y.from) f0 y.from (a.regs y.from)

      abbrev f2 : ℕ → ℕ
      f2 = asked (J y.to || J y.cell) (asked (J y.from) f0 y.from (a.regs y.from)) y.to (a.regs y.to)

      abbrev f3 : ℕ → ℕ
      f3 = asked (J y.count) (asked (J y.to || J y.cell) (asked (J y.from) f0 y.from (a.regs y.from)) y.to (a.regs y.to)) y.count (a.regs y.count)

      abbrev f4 : ℕ → ℕ
      f4 = asked (J y.cell) (asked (J y.count) (asked (J y.to || J y.cell) (asked (J y.from) f0 y.from (a.regs y.from)) y.to (a.regs y.to)) y.count (a.regs y.count)) y.cell (a.regs y.cell)

      first : (b : Bool) → J y.to ≡ true → J y.to || b ≡ true
      first b e = ap (λ c. c || b) e

      asked_like : Others S fits κ y apart (J y.one) f0 a → (r : ℕ) → r < (S.whole.frames κ.fn).registers → J r ≡ true → f4 r ≡ a.regs r
      asked_like like r lt e = elim (same_or_not r y.cell) [
        | inl c ↦ ap f4 c.0 ∙ asked_same (J y.cell) f3 y.cell (a.regs y.cell) (ap J (sym c.0) ∙ e) ∙ ap a.regs (sym c.0)
        | inr c ↦ asked_other (J y.cell) f3 y.cell (a.regs y.cell) r c.0 ∙ elim (same_or_not r y.count) [
          | inl d ↦ ap f3 d.0 ∙ asked_same (J y.count) f2 y.count (a.regs y.count) (ap J (sym d.0) ∙ e) ∙ ap a.regs (sym d.0)
          | inr d ↦ asked_other (J y.count) f2 y.count (a.regs y.count) r d.0 ∙ elim (same_or_not r y.to) [
            | inl t ↦ ap f2 t.0 ∙ asked_same (J y.to || J y.cell) f1 y.to (a.regs y.to) (first (J y.cell) (ap J (sym t.0) ∙ e)) ∙ ap a.regs (sym t.0)
            | inr t ↦ asked_other (J y.to || J y.cell) f1 y.to (a.regs y.to) r t.0 ∙ elim (same_or_not r y.from) [
              | inl f ↦ ap f1 f.0 ∙ asked_same (J y.from) f0 y.from (a.regs y.from) (ap J (sym f.0) ∙ e) ∙ ap a.regs (sym f.0)
              | inr f ↦ asked_other (J y.from) f0 y.from (a.regs y.from) r f.0 ∙ like r lt f.0 t.0 d.0 c.0 (not_left r e)
            ]
          ]
        ]
      ]

    or_second : (b c : Bool) → c ≡ true → b || c ≡ true
    or_second true c e = refl
    or_second false c e = e

    few_of : (a b c d : ℕ) → a ≤ 1 → b ≤ 1 → c ≤ 1 → d ≤ 1 → a + (b + (c + d)) ≤ 4
    few_of a b c d ka kb kc kd = omega (arith, ka, kb, kc, kd)

    -- the registers that are asked for have what the loop leaves in them
    put_back : (next p : ℕ) → Stand S.console.words S.address next (back_items (Some y.from) (copying y) J) p → (t : State Where) (m : machine.State) (xs : List ℕ) → Behind S fits κ y apart (J y.one) lo t m next → Put S fits κ y apart (J y.one) lo (Like J (Mach S κ)) t m p xs
    put_back next p st t m xs b =
        let a = b.words in
        let f0 = b.r0 in
        let short = b.held.short in
        let v = a.regs y.from in
        let w = a.regs y.to in
        let last_from = last_item y.from 12 in
        let last_to = last_item y.to 13 in
        let zero_left = item.Op (instr.Mov (RegReg (register y.count) 11)) in
        let word = item.Op (instr.Mov (RegAtReg (register y.cell) (register y.to))) in
        let p1 = split S.console.words S.address (when (J y.from) last_from) (when (J y.to || J y.cell) last_to ++ (when (J y.count) zero_left ++ when (J y.cell) word)) next p st in
        let p2 = split S.console.words S.address (when (J y.to || J y.cell) last_to) (when (J y.count) zero_left ++ when (J y.cell) word) p1.0 p p1.2 in
        let p3 = split S.console.words S.address (when (J y.count) zero_left) (when (J y.cell) word) p2.0 p p2.2 in
        let lf = lo.from in
        let lt = lo.to in
        let ln = lo.count in
        let lc = lo.cell in
        let s1 = ask S κ (J y.from) (having f0 a) m xs next p1.0 y.from v (instr.Lea (register y.from) 12 (Some (Left 0xFFFFFFFF))) (instr.Lea (register y.from) 12 (Some 0xFFFFFFFF)) lf b.held b.at p1.1 (λ n h. h) (omega arith, omega arith, omega arith)
        (λ j n. (refl, lea_act m (register y.from) 12 0xFFFFFFFF n ∙ ap (λ z. EndsIn stepped.Went (going_to n (with_register (register y.from) z m))) (ap (λ z. add z 0xFFFFFFFF) b.source ∙ one_back v (reads_low S.console v short b.reads)))) in
        let g1 = asked (J y.from) f0 y.from v in
        let s2 = ask S κ (J y.to || J y.cell) (having g1 a) s1.to xs p1.0 p2.0 y.to w (instr.Lea (register y.to) 13 (Some (Left 0xFFFFFFFF))) (instr.Lea (register y.to) 13 (Some 0xFFFFFFFF)) lt s1.held s1.at p2.1 (λ n h. h) (omega arith, omega arith, omega arith)
        (λ j n. (refl, lea_act s1.to (register y.to) 13 0xFFFFFFFF n ∙ ap (λ z. EndsIn stepped.Went (going_to n (with_register (register y.to) z s1.to))) (ap (λ z. add z 0xFFFFFFFF) (s1.aside 13 (omega arith) ∙ b.target) ∙ one_back w (writes_low S.console w b.writes)))) in
        let g2 = asked (J y.to || J y.cell) g1 y.to w in
        let s3 = ask S κ (J y.count) (having g2 a) s2.to xs p2.0 p3.0 y.count (a.regs y.count) (instr.Mov (RegReg (register y.count) 11)) (instr.Mov (RegReg (register y.count) 11)) ln s2.held s2.at p3.1 (λ n h. h) (omega arith, omega arith, omega arith)
        (λ j n. (refl, move_act s2.to (register y.count) 11 n ∙ ap (λ z. EndsIn stepped.Went (going_to n (with_register (register y.count) z s2.to))) (s2.aside 11 (omega arith) ∙ s1.aside 11 (omega arith) ∙ b.count))) in
        let g3 = asked (J y.count) g2 y.count (a.regs y.count) in
        let at_to : J y.cell ≡ true → register_of s3.to (register y.to) ≡ w = λ j. ap (register_of s3.to) (same_register S κ y.to lt) ∙ s3.held.regs y.to lt ∙ asked_other (J y.count) g2 y.count (a.regs y.count) y.to apart.four.to_count ∙ asked_same (J y.to || J y.cell) g1 y.to w (or_second (J y.to) (J y.cell) j) in
        let s4 = ask S κ (J y.cell) (having g3 a) s3.to xs p3.0 p y.cell (a.regs y.cell) (instr.Mov (RegAtReg (register y.cell) (register y.to))) (instr.Mov (RegAtReg (register y.cell) (register y.to))) lc s3.held s3.at p3.2 (λ n h. h) (omega arith, omega arith, omega arith)
        (λ j n. (refl, load_act s3.to (register y.cell) (register y.to) (a.regs y.cell) n (ap (word_at s3.to) (at_to j) ∙ readable_word S.console (having g3 a) s3.to w s3.held (reads_written S.console w b.writes) ∙ ap Some b.word))) in
        record {
          to = s4.to;
          steps = s1.steps + (s2.steps + (s3.steps + s4.steps));
          few = few_of s1.steps s2.steps s3.steps s4.steps s1.few s2.few s3.few s4.few;
          by = reaches_on s1.steps (s2.steps + (s3.steps + s4.steps)) m s1.to s4.to xs xs xs [] [] s1.by (reaches_on s2.steps (s3.steps + s4.steps) s1.to s2.to s4.to xs xs xs [] [] s2.by (reaches_on s3.steps s4.steps s2.to s3.to s4.to xs xs xs [] [] s3.by s4.by));
          at = s4.at;
          held = keeps S κ J t b.holds.place a (asked (J y.cell) g3 y.cell (a.regs y.cell)) s4.to b.holds.at (asked_like f0 a b.like) s4.held;
        }

    unmoved : (r : ℕ) → r ≢ y.to → r ≢ y.from → r ≢ y.count → is_moved (copying y) r ≡ false
    unmoved r nt nf nn =
        let t : (r == y.to) ≡ false = elim (same_or_not r y.to) [ inl z ↦ absurd (nt z.0) | inr z ↦ z.1 ] in
        let f : (r == y.from) ≡ false = elim (same_or_not r y.from) [ inl z ↦ absurd (nf z.0) | inr z ↦ z.1 ] in
        let n : (r == y.count) ≡ false = elim (same_or_not r y.count) [ inl z ↦ absurd (nn z.0) | inr z ↦ z.1 ] in
        λ i. t i || (f i || n i)

    -- the whole of it
    pub copy_all : (pc p : ℕ) → Stand S.console.words S.address pc (copy_items (copying y) J) p → (s : State Where) (m : machine.State) → m.counter ≡ pc → ReadyFor S κ (copying y) (J y.one) s m → (n : ℕ) (ls : List Bounds) →
        Sim (holder S) κ (Like J (Mach S κ)) m (begin (holder S) s) p n ls (turn_done (meaning.does (lang S) n (meaning.below (lang S) n) (copy_turn y) (spent node_weight s)) (meaning.below (lang S) n (Loop (copy_turn y) Stop)))
    copy_all pc p st s m e h n ls =
        let a = h.words in
        let c = h.known.0 in
        let low = count_low c h.known.2 in
        let next = st.0 in
        let counts : a.regs y.count ≡ c = subst (λ z. Stands (length s.world.store.objects) h.place z (a.regs y.count)) h.known.1 (h.at.temps.in_regs y.count lo.count) in
        let ones : a.regs y.one ≡ 1 = subst (λ z. Stands (length s.world.store.objects) h.place z (a.regs y.one)) h.one (h.at.temps.in_regs y.one lo.one) in
        let inside : Inside S fits κ y apart (J y.one) lo s m h.registers pc next = record {
          place = h.place;
          words = h.words;
          at = h.at;
          like = λ r lt nf nt nn nc left. h.like r lt (unmoved r nt nf nn) left;
          move = record {
            held = h.held;
            at = e;
            line = st.1;
            count = h.count;
            source = h.read;
            target = h.target;
            some = let z = low.0 in omega (arith, z, counts);
            few = let z = low.1 in omega (arith, z, counts);
          };
          one = ones;
        } in
        let r = turn_done (meaning.does (lang S) n (meaning.below (lang S) n) (copy_turn y) (spent node_weight s)) (meaning.below (lang S) n (Loop (copy_turn y) Stop)) in
        earlier (lang S) (holder S) κ (Like J (Mach S κ)) m (begin (holder S) s) (begin (holder S) (spent 3 s)) p n ls r refl refl (omega arith) (turns S fits κ y apart (J y.one) lo (Like J (Mach S κ)) pc next p (put_back next p st.2) n ls s m h.registers inside)
