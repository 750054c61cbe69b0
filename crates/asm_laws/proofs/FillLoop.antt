-- The instructions of a loop that fills words.
use Rattle.std.proofs.Common.{sym, ◌≡◌, ◌≢◌, ℕ, ◌+◌, ◌<◌, inl, inr, Bool, true, false, None, List, [], length, Some, refl, ap, ◌∙◌, subst, arith}
use Rattle.std.specs.Prelude.{◌&&◌, not, ◌==◌, ◌||◌}
use Rattle.either.specs.declared.Either.TheVariants.{Left}
use Rattle.kit_base.specs.Word.{add}
use Rattle.v32_isa.specs.declared.instruction.Mov.TheVariants.{RegReg}
use Rattle.v32_isa.specs.declared.instruction.Instr.TheVariants as instr
use Rattle.v32_isa.specs.declared.stepped.Stepped.TheVariants as stepped
use Rattle.v32_isa.specs.State.{register_of, with_register, going_to, word_at, written}
use Rattle.v32_isa.specs.State as machine
use Rattle.v32_isa.specs.Machine.Effect.{Ends as EndsIn}
use Rattle.v32_isa.proofs.Steps.{reaches_on}
use Rattle.asm_items.specs.declared.item.AsmItem.TheVariants as item
use Rattle.mid_code.specs.declared.placed.Where.{Where}
use Rattle.mid_code.specs.Code.{Stop, Loop}
use Rattle.mid_code.specs.Meaning.{turn_done, node_weight}
use Rattle.mid_code.specs.Meaning as meaning
use Rattle.mid_code.specs.States.{State, spent}
use Rattle.asm_laws.specs.Copies.{is_left, is_moved, last_item, when, back_items, copy_items}
use Rattle.asm_laws.specs.Pieces.{register}
use Rattle.asm_laws.specs.Operations.{Frame}
use Rattle.asm_laws.specs.Placing.{Bounds}
use Rattle.asm_laws.specs.Standing.{Stand}
use Rattle.asm_laws.specs.inner.Following.{begin, Sim}
use Rattle.asm_laws.specs.Addresses.{Addr, Console, having}
use Rattle.asm_laws.specs.Holds.{Setting, Fits, Ctx, Stands}
use Rattle.asm_laws.specs.Calling.{Mach, ReadyFor, Like, lang, holder}
use Rattle.asm_laws.proofs.Stepping.{same_or_not}
use Rattle.asm_laws.proofs.Control.{earlier}
use Rattle.asm_laws.proofs.Leads.{Filler, Four, filling, fill_turn}
use Rattle.asm_laws.proofs.CopyLoop.{count_low, writes_low, one_back, lea_act, move_act}
use Rattle.asm_laws.proofs.Filled.{Others, Low, Inside, Behind, Put, turns}
use Rattle.asm_laws.proofs.PutBack.{asked, asked_same, asked_other, ask, keeps}
use Rattle.asm_laws.proofs.Split.{split}

module _ (S : Setting) (fits : Fits S) (κ : Ctx) where
  abbrev C : Console
  C = S.console

  abbrev F : Frame
  F = S.whole.frames κ.fn

  module _ (y : Filler) (apart : Four y.to y.cell y.count y.one) (J : ℕ → Bool) (lo : Low S fits κ y apart (J y.one)) where
    and_none : (b : Bool) → b && false ≡ false
    and_none true = refl
    and_none false = refl

    not_left : (r : ℕ) → J r ≡ true → is_left (filling y) (J y.one) r ≡ false
    not_left r e = elim (same_or_not r y.one) [
      | inl z ↦ ap (λ b. (r == y.one) && not b) (ap J (sym z.0) ∙ e) ∙ and_none (r == y.one)
      | inr z ↦ ap (λ b. b && not (J y.one)) z.1
    ]

    asked_like : (f0 : ℕ → ℕ) (a : Addr) → Others S fits κ y apart (J y.one) f0 a → (r : ℕ) → r < (S.whole.frames κ.fn).registers → J r ≡ true → asked (J y.count) (asked (J y.to) f0 y.to (a.regs y.to)) y.count (a.regs y.count) r ≡ a.regs r
    asked_like f0 a like r lt e =
        let f1 = asked (J y.to) f0 y.to (a.regs y.to) in
        elim (same_or_not r y.count) [
          | inl d ↦ ap (asked (J y.count) f1 y.count (a.regs y.count)) d.0 ∙ asked_same (J y.count) f1 y.count (a.regs y.count) (ap J (sym d.0) ∙ e) ∙ ap a.regs (sym d.0)
          | inr d ↦ asked_other (J y.count) f1 y.count (a.regs y.count) r d.0 ∙ elim (same_or_not r y.to) [
            | inl t ↦ ap f1 t.0 ∙ asked_same (J y.to) f0 y.to (a.regs y.to) (ap J (sym t.0) ∙ e) ∙ ap a.regs (sym t.0)
            | inr t ↦ asked_other (J y.to) f0 y.to (a.regs y.to) r t.0 ∙ like r lt t.0 d.0 (not_left r e)
          ]
        ]

    -- the registers that are asked for have what the loop leaves in them
    put_back : (next p : ℕ) → Stand S.console.words S.address next (back_items None (filling y) J) p → (t : State Where) (m : machine.State) (xs : List ℕ) → Behind S fits κ y apart (J y.one) lo t m next → Put S fits κ y apart (J y.one) lo (Like J (Mach S κ)) t m p xs
    put_back next p st t m xs b =
        let a = b.words in
        let f0 = b.r0 in
        let w = a.regs y.to in
        let last_to = last_item y.to 13 in
        let zero_left = item.Op (instr.Mov (RegReg (register y.count) 11)) in
        let p1 = split S.console.words S.address (when (J y.to) last_to) (when (J y.count) zero_left) next p st in
        let s1 = ask S κ (J y.to) (having f0 a) m xs next p1.0 y.to w (instr.Lea (register y.to) 13 (Some (Left 0xFFFFFFFF))) (instr.Lea (register y.to) 13 (Some 0xFFFFFFFF)) lo.to b.held b.at p1.1 (λ n h. h) (omega arith, omega arith, omega arith)
        (λ j n. (refl, lea_act m (register y.to) 13 0xFFFFFFFF n ∙ ap (λ z. EndsIn stepped.Went (going_to n (with_register (register y.to) z m))) (ap (λ z. add z 0xFFFFFFFF) b.target ∙ one_back w (writes_low S.console w b.writes)))) in
        let g1 = asked (J y.to) f0 y.to w in
        let s2 = ask S κ (J y.count) (having g1 a) s1.to xs p1.0 p y.count (a.regs y.count) (instr.Mov (RegReg (register y.count) 11)) (instr.Mov (RegReg (register y.count) 11)) lo.count s1.held s1.at p1.2 (λ n h. h) (omega arith, omega arith, omega arith)
        (λ j n. (refl, move_act s1.to (register y.count) 11 n ∙ ap (λ z. EndsIn stepped.Went (going_to n (with_register (register y.count) z s1.to))) (s1.aside 11 (omega arith) ∙ b.count))) in
        record {
          to = s2.to;
          steps = s1.steps + s2.steps;
          few = let k1 = s1.few in let k2 = s2.few in omega (arith, k1, k2);
          by = reaches_on s1.steps s2.steps m s1.to s2.to xs xs xs [] [] s1.by s2.by;
          at = s2.at;
          held = keeps S κ J t b.holds.place a (asked (J y.count) g1 y.count (a.regs y.count)) s2.to b.holds.at (asked_like f0 a b.like) s2.held;
        }

    unmoved : (r : ℕ) → r ≢ y.to → r ≢ y.count → is_moved (filling y) r ≡ false
    unmoved r nt nn =
        let t : (r == y.to) ≡ false = elim (same_or_not r y.to) [ inl z ↦ absurd (nt z.0) | inr z ↦ z.1 ] in
        let n : (r == y.count) ≡ false = elim (same_or_not r y.count) [ inl z ↦ absurd (nn z.0) | inr z ↦ z.1 ] in
        λ i. t i || (false || n i)

    -- the whole of it
    pub fill_all : (pc p : ℕ) → Stand S.console.words S.address pc (copy_items (filling y) J) p → (s : State Where) (m : machine.State) → m.counter ≡ pc → ReadyFor S κ (filling y) (J y.one) s m → (n : ℕ) (ls : List Bounds) →
        Sim (holder S) κ (Like J (Mach S κ)) m (begin (holder S) s) p n ls (turn_done (meaning.does (lang S) n (meaning.below (lang S) n) (fill_turn y) (spent node_weight s)) (meaning.below (lang S) n (Loop (fill_turn y) Stop)))
    fill_all pc p st s m e h n ls =
        let a = h.words in
        let c = h.known.0 in
        let low = count_low c h.known.2 in
        let next = st.0 in
        let counts : a.regs y.count ≡ c = subst (λ z. Stands (length s.world.store.objects) h.place z (a.regs y.count)) h.known.1 (h.at.temps.in_regs y.count lo.count) in
        let ones : a.regs y.one ≡ 1 = subst (λ z. Stands (length s.world.store.objects) h.place z (a.regs y.one)) h.one (h.at.temps.in_regs y.one lo.one) in
        let inside : Inside S fits κ y apart (J y.one) lo s m h.registers pc next = record {
          place = h.place;
          words = h.words;
          at = h.at;
          like = λ r lt nt nn left. h.like r lt (unmoved r nt nn) left;
          move = record {
            held = h.held;
            at = e;
            line = st.1;
            count = h.count;
            source = h.read;
            target = h.target;
            some = let z = low.0 in omega (arith, z, counts);
            few = let z = low.1 in omega (arith, z, counts);
          };
          one = ones;
        } in
        let r = turn_done (meaning.does (lang S) n (meaning.below (lang S) n) (fill_turn y) (spent node_weight s)) (meaning.below (lang S) n (Loop (fill_turn y) Stop)) in
        earlier (lang S) (holder S) κ (Like J (Mach S κ)) m (begin (holder S) s) (begin (holder S) (spent 3 s)) p n ls r refl refl (omega arith) (turns S fits κ y apart (J y.one) lo (Like J (Mach S κ)) pc next p (put_back next p st.2) n ls s m h.registers inside)
