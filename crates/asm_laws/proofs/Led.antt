-- The operations before a loop that copies words or fills them: what the machine's registers have behind them.
use Rattle.std.proofs.Common.{◌≡◌, ◌≢◌, ℕ, zero, suc, ◌+◌, ◌<◌, ◌≤◌, ◌⊎◌, inl, inr, Bool, true, false, cond, List, [], ◌∷◌, ◌++◌, Option, Some, None, refl, sym, ap, ◌∙◌, subst, arith, append-nil, append_assoc}
use Rattle.std.specs.Prelude.{◌&&◌, not, ◌==◌, ◌||◌, get_or, Ok}
use Rattle.std.proofs.lemmas.Bool.{eqb-true}
use Rattle.either.specs.declared.Either.TheVariants.{Left}
use Rattle.v32_isa.specs.declared.instruction.Mov.TheVariants.{RegImm, RegReg}
use Rattle.v32_isa.specs.declared.instruction.Instr.{Instr}
use Rattle.v32_isa.specs.declared.instruction.Instr.TheVariants as instr
use Rattle.v32_isa.specs.declared.stepped.Stepped.TheVariants as stepped
use Rattle.v32_isa.specs.Table.{Fits as IsInstr}
use Rattle.v32_isa.specs.State.{register_of, with_register, going_to, written}
use Rattle.v32_isa.specs.State as machine
use Rattle.v32_isa.specs.Machine.{act}
use Rattle.v32_isa.specs.Machine.Effect.{Ends as EndsIn}
use Rattle.v32_isa.specs.Calls.{turn_of}
use Rattle.v32_isa.specs.Calls.Turn.{Other}
use Rattle.v32_isa.proofs.Steps.{Reaches, reaches_here, reaches_on, reaches_went, nested_none}
use Rattle.asm_items.specs.Items.{Imm, instr_with}
use Rattle.asm_items.specs.Words.{imm_word}
use Rattle.asm_items.specs.declared.item.AsmItem.{AsmItem}
use Rattle.asm_items.specs.declared.item.AsmItem.TheVariants as item
use Rattle.obj_mem.specs.Runs.{Halted, Fault, Starved, Stray, Deep, OutOfBound}
use Rattle.mid_code.specs.declared.placed.Where.{Where}
use Rattle.mid_code.specs.declared.placed.Where.TheVariants.{Reg, Slot}
use Rattle.mid_code.specs.Code.{NodesT, Do, Loop, OpT, ConstO, GlobalO, LocalO, MoveO, uses}
use Rattle.mid_code.specs.Invariants.{AllOf, Names}
use Rattle.mid_code.specs.Meaning.{Did, On, Ends}
use Rattle.mid_code.specs.States.{State, spent, op_weight, registers_and_slots, acted}
use Rattle.obj_mem.specs.declared.cell.Cell.TheVariants.{Num, Ptr}
use Rattle.obj_mem.specs.Stores.{local_object}
use Rattle.obj_mem.specs.Queries.{first_cell}
use Rattle.asm_laws.specs.declared.copying.Copying.{Copying}
use Rattle.asm_laws.specs.Copies.{copy_of, put_into, is_from, is_moved, is_left, reads_moved, last_put, is_count, is_one, lead, goes_to, is_put, source_put, move_item, source}
use Rattle.asm_laws.proofs.Leads.{copy_is, puts_before, puts_elim, some_put, put_elim, takes_moved, AllClear, lead_is}
use Rattle.asm_laws.proofs.Leading.{next_sparing}
use Rattle.asm_laws.proofs.Split.{split}
use Rattle.asm_laws.proofs.Spared.{uses_stay, access_stays}
use Rattle.asm_laws.proofs.Accessed.{AccessDone, access_done}
use Rattle.asm_laws.proofs.LiveParts.{StoodBehind, behind_front}
use Rattle.asm_laws.specs.declared.access.Address.{Address}
use Rattle.asm_laws.specs.declared.access.Transfer.{Transfer}
use Rattle.asm_laws.specs.Accesses.{accessed}
use Rattle.asm_laws.proofs.KnownWords.{AreOps, one_is, ops_ahead, Stored, counted, one_is_known, put_stored}
use Rattle.asm_laws.proofs.Control.{came_came, came_final, earlier_did, did_more}
use Rattle.asm_laws.specs.Pieces.{register, is_in}
use Rattle.asm_laws.specs.Live.{live_soon, ahead, asked_behind}
use Rattle.asm_laws.specs.Asks.{is_unread}
use Rattle.asm_laws.specs.Operations.{Frame, Whole, keep, local_word, moves, with_next, with_access, in_one, one_or_more, more_of, put_items, puts_items, led_items, led_more}
use Rattle.asm_laws.specs.Operations as operations
use Rattle.asm_laws.specs.Standing.{Stand}
use Rattle.asm_laws.specs.Spare.{Stays, Sparing}
use Rattle.asm_laws.specs.inner.Following.{Begin, begin, spare, Came, Final, DidBy, did_then, front_acts, at_front}
use Rattle.asm_laws.specs.Addresses.{Addr, Console, word_of, local_address, having, Room, Good, Held, does}
use Rattle.asm_laws.specs.Addresses as words
use Rattle.asm_laws.specs.Holds.{Setting, sizes, Named, Fits, Ctx, HoldsAt}
use Rattle.asm_laws.specs.Acting.{Holds, DoesAs, Fitting, FrontFits}
use Rattle.asm_laws.specs.Calling.{Mach, Like, Ready, ReadyFor, lang, holder, shapes}
use Rattle.asm_laws.proofs.Parts.{done}
use Rattle.asm_laws.proofs.Stepping.{same_or_not, written_same, written_other, line_effect, line_turn, took, kept, reg_same, reg_other, moved, fetch_act}
use Rattle.asm_laws.proofs.BlockMove.{aside}
use Rattle.asm_laws.proofs.Hands.{with_reg}
use Rattle.asm_laws.proofs.OperationsStep.{local_effect}
use Rattle.asm_laws.proofs.First.{good, room}
use Rattle.asm_laws.proofs.Ops.{acts}

-- whether operations that come first put a word there: with one more of them
or_true : (x : Bool) → x || true ≡ true
or_true true = refl
or_true false = refl

or_false : (x : Bool) → x || false ≡ x
or_false true = refl
or_false false = refl

off : (x y : Bool) → x || y ≡ false → (x ≡ false) × (y ≡ false)
off true y e = absurd cc
off false y e = (refl, e)

-- what the registers of a loop are, with those that are moved: different ones of places, but register 8
pub record Roles (y : Copying) : Type 0 where
  pub to : y.to < 9
  pub to_eight : y.to ≢ 8
  pub count : y.count < 9
  pub count_eight : y.count ≢ 8
  pub to_count : y.to ≢ y.count
  pub from : (f : ℕ) → y.from ≡ Some f → (f < 9) × (f ≢ 8) × (f ≢ y.to) × (f ≢ y.count)
  pub cell : y.from ≡ None → (y.cell < 9) × (y.cell ≢ 8) × (is_moved y y.cell ≡ false) × ((y.cell == y.one) ≡ false)
  pub one : y.one < 9
  pub one_to : y.one ≢ y.to
  pub one_count : y.one ≢ y.count
  pub one_from : (f : ℕ) → y.from ≡ Some f → y.one ≢ f

-- where an operation puts a word
data Goes (y : Copying) (q t : ℕ) : Type 0 where
  IsTo : q ≡ y.to → t ≡ 13 → is_moved y q ≡ true → Goes y q t
  IsFrom : (f : ℕ) → y.from ≡ Some f → q ≡ f → t ≡ 12 → is_moved y q ≡ true → Goes y q t
  IsCount : q ≡ y.count → t ≡ 11 → is_moved y q ≡ true → Goes y q t
  IsOther : t ≡ q → q ≢ y.to → ((f : ℕ) → y.from ≡ Some f → q ≢ f) → q ≢ y.count → is_moved y q ≡ false → Goes y q t

goes_is : (y : Copying) → Roles y → (q : ℕ) → Goes y q (goes_to y q)
goes_is y ro q = elim (same_or_not q y.to) [
  | inl e ↦ let h = e.1 in IsTo e.0 (ap (λ b. cond b 13 (cond (is_from y.from q) 12 (cond (q == y.count) 11 q))) h) (ap (λ b. b || (is_from y.from q || (q == y.count))) h)
  | inr n ↦ subst (Goes y q) (sym (ap (λ b. cond b 13 (cond (is_from y.from q) 12 (cond (q == y.count) 11 q))) n.1)) (other n.0 (ap (λ b. b || (is_from y.from q || (q == y.count))) n.1) y.from refl)
]
  where
    last : q ≢ y.to → ((f : ℕ) → y.from ≡ Some f → q ≢ f) → is_moved y q ≡ (q == y.count) → Goes y q (cond (q == y.count) 11 q)
    last nt nf m = elim (same_or_not q y.count) [
      | inl e ↦ subst (λ b. Goes y q (cond b 11 q)) (sym e.1) (IsCount e.0 refl (m ∙ e.1))
      | inr e ↦ subst (λ b. Goes y q (cond b 11 q)) (sym e.1) (IsOther refl nt nf e.0 (m ∙ e.1))
    ]

    none_some : (f : ℕ) → y.from ≡ None → y.from ≡ Some f → ⊥
    none_some f p q = let e : None ≡ Some f = sym p ∙ q in absurd cc

    same_some : (f g : ℕ) → y.from ≡ Some f → y.from ≡ Some g → f ≡ g
    same_some f g p q = let e : Some f ≡ Some g = sym p ∙ q in cc

    other : q ≢ y.to → is_moved y q ≡ (is_from y.from q || (q == y.count)) → (x : Option ℕ) → y.from ≡ x → Goes y q (cond (is_from y.from q) 12 (cond (q == y.count) 11 q))
    other nt m None p = subst (λ b. Goes y q (cond b 12 (cond (q == y.count) 11 q))) (sym (ap (λ z. is_from z q) p)) (last nt (λ f z. absurd (none_some f p z)) (m ∙ ap (λ b. b || (q == y.count)) (ap (λ z. is_from z q) p)))
    other nt m (Some f) p = elim (same_or_not q f) [
      | inl e ↦
          let is : is_from y.from q ≡ true = ap (λ z. is_from z q) p ∙ e.1 in
          subst (λ b. Goes y q (cond b 12 (cond (q == y.count) 11 q))) (sym is) (IsFrom f p e.0 refl (m ∙ ap (λ b. b || (q == y.count)) is))
      | inr e ↦
          let is : is_from y.from q ≡ false = ap (λ z. is_from z q) p ∙ e.1 in
          subst (λ b. Goes y q (cond b 12 (cond (q == y.count) 11 q))) (sym is) (last nt (λ g z w. e.0 (w ∙ same_some g f z p)) (m ∙ ap (λ b. b || (q == y.count)) is))
    ]

module _ (S : Setting) (fits : Fits S) (κ : Ctx) where
  abbrev C : Console
  C = S.console

  abbrev F : Frame
  F = S.whole.frames κ.fn

  abbrev Here : ℕ → List AsmItem → ℕ → Type 0
  Here = Stand S.console.words S.address

  abbrev with : Instr Imm → Instr ℕ
  with i = instr_with (imm_word S.address) i

  -- ---- one instruction at most puts a word into a register

  record Made (a : Addr) (m : machine.State) (p t v : ℕ) : Type 0 where
    steps : ℕ
    to : machine.State
    by : (xs : List ℕ) → Reaches steps m xs [] to xs
    at : to.counter ≡ p
    few : steps ≤ 1
    is : register_of to t ≡ v
    other : (x : ℕ) → x ≢ t → register_of to x ≡ register_of m x
    low : t < 9 → Held S.console (having (written a.regs t v) a) to
    high : 9 ≤ t → Held S.console a to

  put_by : (a : Addr) (m : machine.State) (pc p t v : ℕ) (i : Instr Imm) → t < 14 → Held S.console a m → m.counter ≡ pc → Here pc (item.Op i ∷ []) p → IsInstr (with i) → ((next : ℕ) → turn_of (with i) next m ≡ Other) → ((next : ℕ) → act (with i) next m ≡ EndsIn stepped.Went (took S.console next (register t) v m)) → Made a m p t v
  put_by a m pc p t v i lt h e st fit other does =
      let same : register t ≡ t = omega (arith, lt) in
      let is = does st.0 ∙ ap (λ r. EndsIn stepped.Went (took C st.0 r v m)) same in
      let sixteen = h.sixteen in
      record {
        steps = 1;
        to = took C st.0 t v m;
        by = λ xs. reaches_went m (took C st.0 t v m) xs (line_effect C a m pc (with i) st.0 h e st.1 fit ∙ is) (line_turn C a m pc (with i) st.0 h e st.1 fit ∙ other st.0);
        at = st.2;
        few = omega arith;
        is = reg_same C m t v (omega (arith, lt, sixteen));
        other = λ x ne. reg_other C m t v x ne;
        low = λ small. kept C a m st.0 t v (omega (arith, small)) h;
        high = λ big. moved C a (with_register t v m) st.0 (aside C a m t v big (omega (arith, lt)) h);
      }

  -- nothing has to be done where the word is there
  there : (a : Addr) (m : machine.State) (pc p t v : ℕ) → t < 9 → a.regs t ≡ v → Held S.console a m → m.counter ≡ pc → pc ≡ p → Made a m p t v
  there a m pc p t v lt is h e st =
      record {
        steps = 0;
        to = m;
        by = λ xs. reaches_here m xs;
        at = e ∙ st;
        few = omega arith;
        is = h.regs t lt ∙ is;
        other = λ x ne. refl;
        low = λ small. record {
          program_length = h.program_length;
          card = h.card;
          short = h.short;
          text = h.text;
          sixteen = h.sixteen;
          regs = λ q lq. h.regs q lq ∙ elim (same_or_not q t) [ inl z ↦ ap a.regs z.0 ∙ is ∙ sym (written_same a.regs t v q z.0) | inr z ↦ sym (written_other a.regs t v q z.0) ];
          top = h.top;
          memory = h.memory;
        };
        high = λ big. absurd (omega (arith, big, lt));
      }

  imm_act : (m : machine.State) (r n next : ℕ) → act (instr.Mov (RegImm r n)) next m ≡ EndsIn stepped.Went (took S.console next r n m)
  unfolding act
  imm_act m r n next = refl

  reg_act : (m : machine.State) (r q v next : ℕ) → register_of m q ≡ v → act (instr.Mov (RegReg r q)) next m ≡ EndsIn stepped.Went (took S.console next r v m)
  unfolding act
  reg_act m r q v next e = ap (λ z. EndsIn stepped.Went (took C next r z m)) e

  const_made : (a : Addr) (m : machine.State) (pc p t n : ℕ) → t < 14 → Held S.console a m → m.counter ≡ pc → Here pc (item.Op (instr.Mov (RegImm (register t) (Left n))) ∷ []) p → Made a m p t n
  const_made a m pc p t n lt h e st = put_by a m pc p t n (instr.Mov (RegImm (register t) (Left n))) lt h e st (omega arith, omega arith, omega arith) (λ next. refl) (imm_act m (register t) n)

  local_made : (a : Addr) (m : machine.State) (pc p t k : ℕ) → Room (S.whole.frames κ.fn) a → get_or (S.whole.frames κ.fn).locals k 0 < (S.whole.frames κ.fn).size → t < 14 → Held S.console a m → m.counter ≡ pc → Here pc (item.Op (instr.Lea (register t) 15 (Some (Left (local_word (S.whole.frames κ.fn) k)))) ∷ []) p →
      Made a m p t (local_address (S.whole.frames κ.fn) k a)
  local_made a m pc p t k room inside lt h e st =
      put_by a m pc p t (local_address F k a) (instr.Lea (register t) 15 (Some (Left (local_word F k)))) lt h e st (omega arith, omega arith, omega arith) (λ next. refl) (λ next. local_effect C S.address S.whole F a room m (register t) k next inside h)

  reg_made : (a : Addr) (m : machine.State) (pc p t q : ℕ) → t < 14 → q < 9 → Held S.console a m → m.counter ≡ pc → Here pc (item.Op (instr.Mov (RegReg (register t) (register q))) ∷ []) p → Made a m p t (a.regs q)
  reg_made a m pc p t q lt lq h e st =
      let same : register q ≡ q = omega (arith, lq) in
      put_by a m pc p t (a.regs q) (instr.Mov (RegReg (register t) (register q))) lt h e st (omega arith, omega arith, omega arith) (λ next. refl) (λ next. reg_act m (register t) (register q) (a.regs q) next (ap (register_of m) same ∙ h.regs q lq))

  move_made : (a : Addr) (m : machine.State) (pc p t : ℕ) (x : Where) → Room (S.whole.frames κ.fn) a → Good (S.whole.frames κ.fn) x → t < 14 → Held S.console a m → m.counter ≡ pc → Here pc (moves (S.whole.frames κ.fn) (Reg t) x) p → Made a m p t (word_of (S.whole.frames κ.fn) x a)
  move_made a m pc p t (Slot k) room good lt h e st =
      put_by a m pc p t (word_of F (Slot k) a) (operations.fetch F (Slot k) (register t)) lt h e st (omega arith, omega arith, omega arith) (λ next. refl) (λ next. fetch_act C F S.address a m (Slot k) (register t) next room good h)
  move_made a m pc p t (Reg q) room good lt h e st = go (is_in (Reg t) (register q)) refl st
    where
      go : (b : Bool) → is_in (Reg t) (register q) ≡ b → Here pc (cond b [] (item.Op (keep (S.whole.frames κ.fn) (Reg t) (register q)) ∷ [])) p → Made a m p t (a.regs q)
      go true is k =
          let z = eqb-true (register t) (register q) is in
          let w : t ≡ q = omega (arith, z, good, lt) in
          there a m pc p t (a.regs q) (omega (arith, w, good)) (ap a.regs w) h e k
      go false is k = reg_made a m pc p t q lt good h e k

  -- ---- the words of the places that are moved

  -- a register's word stands in another one of the machine, or in its own
  abbrev Stood : Bool → machine.State → (ℕ → ℕ) → Addr → (into r : ℕ) → Type 0
  Stood true m registers w t r = register_of m t ≡ w.regs r
  Stood false m registers w t r = registers r ≡ w.regs r

  abbrev SourceStood : Option ℕ → Bool → machine.State → (ℕ → ℕ) → Addr → Type 0
  SourceStood None b m registers w = Unit {0}
  SourceStood (Some f) b m registers w = Stood b m registers w 12 f

  -- among such operations: those of the addresses to write to and to read from and of the count that were put already
  pub record Going (y : Copying) (J : Bool) (a b d : Bool) (s : State Where) (m : machine.State) : Type 0 where
    pub place : ℕ → ℕ
    pub words : Addr
    pub at : HoldsAt S κ s.world.store s.cells place words
    pub registers : ℕ → ℕ
    pub held : Held S.console (having registers words) m
    pub like : (r : ℕ) → r < (S.whole.frames κ.fn).registers → is_moved y r ≡ false → is_left y J r ≡ false → registers r ≡ words.regs r
    pub to : Stood a m registers words 13 y.to
    pub from : SourceStood y.from b m registers words
    pub count : Stood d m registers words 11 y.count

  -- one of them, where such an operation puts a word into register q
  stood_on : (x : Bool) (m u : machine.State) (f g : ℕ → ℕ) (w : Addr) (t r q v : ℕ) → (q ≡ r) × (register_of u t ≡ v) ⊎ (q ≢ r) × (register_of u t ≡ register_of m t) × (g r ≡ f r) → Stood x m f w t r → Stood (x || (q == r)) u g (with_reg q v w) t r
  stood_on x m u f g w t r q v (inl h) old =
      let is : (q == r) ≡ true = elim (same_or_not q r) [ inl z ↦ z.1 | inr z ↦ absurd (z.0 h.0) ] in
      subst (λ b. Stood b u g (with_reg q v w) t r) (sym (ap (λ b. x || b) is ∙ or_true x)) (h.1 ∙ sym (written_same w.regs q v r (sym h.0)))
  stood_on x m u f g w t r q v (inr h) old =
      let is : (q == r) ≡ false = elim (same_or_not q r) [ inl z ↦ absurd (h.0 z.0) | inr z ↦ z.1 ] in
      let on = written_other w.regs q v r (λ z. h.0 (sym z)) in
      subst (λ b. Stood b u g (with_reg q v w) t r) (sym (ap (λ b. x || b) is ∙ or_false x)) (go x old on)
    where
      go : (x : Bool) → Stood x m f w t r → (with_reg q v w).regs r ≡ w.regs r → Stood x u g (with_reg q v w) t r
      go true old on = h.1 ∙ old ∙ sym on
      go false old on = h.2 ∙ old ∙ sym on

  source_on : (from : Option ℕ) (x : Bool) (m u : machine.State) (f g : ℕ → ℕ) (w : Addr) (q v : ℕ) → ((r : ℕ) → from ≡ Some r → (q ≡ r) × (register_of u 12 ≡ v) ⊎ (q ≢ r) × (register_of u 12 ≡ register_of m 12) × (g r ≡ f r)) → SourceStood from x m f w → SourceStood from (x || is_from from q) u g (with_reg q v w)
  source_on None x m u f g w q v h old = tt
  source_on (Some r) x m u f g w q v h old = stood_on x m u f g w 12 r q v (h r refl) old

  put_on : (y : Copying) (J : Bool) → Roles y → (a b d : Bool) (s t : State Where) (m : machine.State) (g : Going y J a b d s m) (q v p : ℕ) → q < 9 → (mk : Made (having g.registers g.words) m p (goes_to y q) v) → Holds S κ t (with_reg q v g.words) →
      Going y J (a || (q == y.to)) (b || is_from y.from q) (d || (q == y.count)) t mk.to
  put_on y J ro a b d s t m g q v p lq mk h = go (goes_is y ro q)
    where
      w : Addr
      w = g.words

      -- one that is moved is not among the others
      apart : is_moved y q ≡ true → (r : ℕ) → is_moved y r ≡ false → r ≢ q
      apart is r free e = let z : true ≡ false = sym is ∙ ap (is_moved y) (sym e) ∙ free in absurd cc

      stays : is_moved y q ≡ true → (r : ℕ) → r < (S.whole.frames κ.fn).registers → is_moved y r ≡ false → is_left y J r ≡ false → g.registers r ≡ (with_reg q v g.words).regs r
      stays is r lt free left = g.like r lt free left ∙ sym (written_other g.words.regs q v r (apart is r free))

      go : Goes y q (goes_to y q) → Going y J (a || (q == y.to)) (b || is_from y.from q) (d || (q == y.count)) t mk.to
      go (IsTo e at is) = record {
        place = h.place;
        words = with_reg q v w;
        at = h.at;
        registers = g.registers;
        held = mk.high (omega (arith, at));
        like = stays is;
        to = stood_on a m mk.to g.registers g.registers w 13 y.to q v (inl (e, ap (register_of mk.to) (sym at) ∙ mk.is)) g.to;
        from = source_on y.from b m mk.to g.registers g.registers w q v (λ f z. inr ((λ x. (ro.from f z).2 (sym x ∙ e)), mk.other 12 (λ x. omega (arith, x, at)), refl)) g.from;
        count = stood_on d m mk.to g.registers g.registers w 11 y.count q v (inr ((λ x. ro.to_count (sym e ∙ x)), mk.other 11 (λ x. omega (arith, x, at)), refl)) g.count;
      }
      go (IsFrom f z e at is) = record {
        place = h.place;
        words = with_reg q v w;
        at = h.at;
        registers = g.registers;
        held = mk.high (omega (arith, at));
        like = stays is;
        to = stood_on a m mk.to g.registers g.registers w 13 y.to q v (inr ((λ x. (ro.from f z).2 (sym e ∙ x)), mk.other 13 (λ x. omega (arith, x, at)), refl)) g.to;
        from = source_on y.from b m mk.to g.registers g.registers w q v (λ j k. inl (e ∙ (let n : Some f ≡ Some j = sym z ∙ k in cc), ap (register_of mk.to) (sym at) ∙ mk.is)) g.from;
        count = stood_on d m mk.to g.registers g.registers w 11 y.count q v (inr ((λ x. (ro.from f z).3 (sym e ∙ x)), mk.other 11 (λ x. omega (arith, x, at)), refl)) g.count;
      }
      go (IsCount e at is) = record {
        place = h.place;
        words = with_reg q v w;
        at = h.at;
        registers = g.registers;
        held = mk.high (omega (arith, at));
        like = stays is;
        to = stood_on a m mk.to g.registers g.registers w 13 y.to q v (inr ((λ x. ro.to_count (sym x ∙ e)), mk.other 13 (λ x. omega (arith, x, at)), refl)) g.to;
        from = source_on y.from b m mk.to g.registers g.registers w q v (λ f z. inr ((λ x. (ro.from f z).3 (sym x ∙ e)), mk.other 12 (λ x. omega (arith, x, at)), refl)) g.from;
        count = stood_on d m mk.to g.registers g.registers w 11 y.count q v (inl (e, ap (register_of mk.to) (sym at) ∙ mk.is)) g.count;
      }
      go (IsOther at nt nf nc is) = record {
        place = h.place;
        words = with_reg q v w;
        at = h.at;
        registers = written g.registers q v;
        held = subst (λ z. Held C (having (written g.registers z v) w) mk.to) at (mk.low (omega (arith, at, lq)));
        like = λ r lt free left. elim (same_or_not r q) [
          | inl z ↦ written_same g.registers q v r z.0 ∙ sym (written_same w.regs q v r z.0)
          | inr z ↦ written_other g.registers q v r z.0 ∙ g.like r lt free left ∙ sym (written_other w.regs q v r z.0)
        ];
        to = stood_on a m mk.to g.registers (written g.registers q v) w 13 y.to q v (inr (nt, mk.other 13 (λ x. omega (arith, x, at, lq)), written_other g.registers q v y.to (λ z. nt (sym z)))) g.to;
        from = source_on y.from b m mk.to g.registers (written g.registers q v) w q v (λ f z. inr (nf f z, mk.other 12 (λ x. omega (arith, x, at, lq)), written_other g.registers q v f (λ x. nf f z (sym x)))) g.from;
        count = stood_on d m mk.to g.registers (written g.registers q v) w 11 y.count q v (inr (nc, mk.other 11 (λ x. omega (arith, x, at, lq)), written_other g.registers q v y.count (λ z. nc (sym z)))) g.count;
      }

  -- nothing is put into a register that is left
  left_on : (y : Copying) (J : Bool) → Roles y → (a b d : Bool) (s t : State Where) (m : machine.State) (g : Going y J a b d s m) (q v : ℕ) → q ≡ y.one → is_left y J q ≡ true → Holds S κ t (with_reg q v g.words) →
      Going y J (a || (q == y.to)) (b || is_from y.from q) (d || (q == y.count)) t m
  left_on y J ro a b d s t m g q v is left h = record {
    place = h.place;
    words = with_reg q v g.words;
    at = h.at;
    registers = g.registers;
    held = g.held;
    like = λ r lt free kept. g.like r lt free kept ∙ sym (written_other g.words.regs q v r (λ z. (let i : true ≡ false = sym left ∙ ap (is_left y J) (sym z) ∙ kept in absurd cc)));
    to = stood_on a m m g.registers g.registers g.words 13 y.to q v (inr ((λ z. ro.one_to (sym is ∙ z)), refl, refl)) g.to;
    from = source_on y.from b m m g.registers g.registers g.words q v (λ f z. inr ((λ i. ro.one_from f z (sym is ∙ i)), refl, refl)) g.from;
    count = stood_on d m m g.registers g.registers g.words 11 y.count q v (inr ((λ z. ro.one_count (sym is ∙ z)), refl, refl)) g.count;
  }

  goes_low : (y : Copying) → Roles y → (q : ℕ) → q < 9 → goes_to y q < 14
  goes_low y ro q lt = go (goes_is y ro q)
    where
      go : Goes y q (goes_to y q) → goes_to y q < 14
      go (IsTo e at is) = omega (arith, at)
      go (IsFrom f z e at is) = omega (arith, at)
      go (IsCount e at is) = omega (arith, at)
      go (IsOther at nt nf nc is) = omega (arith, at, lt)

  -- ---- one of these operations

  abbrev known_put : OpT Where → Option ℕ
  known_put (ConstO t n) = Some n
  known_put _ = None

  abbrev StoredOn : OpT Where → ℕ → State Where → State Where → Type 0
  StoredOn o q s t = (r : ℕ) (x : Option ℕ) → Stored S r x s → Stored S r (cond (r == q) (known_put o) x) t

  abbrev Behind : Copying → (J : Bool) → (a b d : Bool) → OpT Where → ℕ → State Where → State Where → machine.State → Type 0
  Behind y J a b d o q s t u = Going y J (a || (q == y.to)) (b || is_from y.from q) (d || (q == y.count)) t u × StoredOn o q s t

  module _ (y : Copying) (J : Bool) (ro : Roles y) (a b d : Bool) (s : State Where) (m : machine.State) (g : Going y J a b d s m) (pc p : ℕ) (e : m.counter ≡ pc) where
    abbrev real : Addr
    real = having g.registers g.words

    roomy : Room (S.whole.frames κ.fn) (having g.registers g.words)
    roomy = let r = room S fits κ s.world.store s.cells g.place g.words g.at in record { top = r.top; low = r.low; high = r.high }

    -- the machine has gone on by a step at most, to where it stands so
    record Gone (q v : ℕ) : Type 0 where
      steps : ℕ
      to : machine.State
      by : (xs : List ℕ) → Reaches steps m xs [] to xs
      at : to.counter ≡ p
      few : steps ≤ 1
      stands : (t : State Where) → Holds S κ t (with_reg q v g.words) → Going y J (a || (q == y.to)) (b || is_from y.from q) (d || (q == y.count)) t to

    gone_by : (q v : ℕ) → q < 9 → Made (having g.registers g.words) m p (goes_to y q) v → Gone q v
    gone_by q v lq mk = record { steps = mk.steps; to = mk.to; by = mk.by; at = mk.at; few = mk.few; stands = λ t h. put_on y J ro a b d s t m g q v p lq mk h }

    gone_none : (q v : ℕ) → q ≡ y.one → is_left y J q ≡ true → pc ≡ p → Gone q v
    gone_none q v is left here = record { steps = 0; to = m; by = λ xs. reaches_here m xs; at = e ∙ here; few = omega arith; stands = λ t h. left_on y J ro a b d s t m g q v is left h }

    is_one_left : (q : ℕ) → is_left y J q ≡ true → q ≡ y.one
    is_one_left q left = go (q == y.one) refl left
      where
        go : (x : Bool) → (q == y.one) ≡ x → x && not J ≡ true → q ≡ y.one
        go true i w = eqb-true q y.one i
        go false i w = absurd cc

    -- by the items of an operation, or by none
    goes_by : (q v : ℕ) (xs : List AsmItem) → q < 9 → Here pc (cond (is_left y J q) [] xs) p → (Here pc xs p → Made (having g.registers g.words) m p (goes_to y q) v) → Gone q v
    goes_by q v xs lq st mk = go (is_left y J q) refl st
      where
        go : (x : Bool) → is_left y J q ≡ x → Here pc (cond x [] xs) p → Gone q v
        go true left h = gone_none q v (is_one_left q left) left h
        go false left h = gone_by q v lq (mk h)

    -- its work pays for a step, and 7 are spare
    led_by : (o : OpT Where) (q v : ℕ) → op_weight o ≡ 8 → Gone q v → does S.console S.address S.whole (S.whole.frames κ.fn) o s.world.store.answers g.words ≡ words.Goes [] s.world.store.answers (with_reg q v g.words) → Fitting S κ.fn o → ((t : State Where) → (lang S).act o s ≡ On t → StoredOn o q s t) →
        DidBy (holder S) m (spare 7 (begin (holder S) s)) p (Behind y J a b d o q s) ((lang S).act o s)
    led_by o q v eight mk is fit keeps =
        let s1 = spent (op_weight o) s in
        cases ((lang S).act o s) refl (subst (λ z. DoesAs S κ s1 g.words (acted registers_and_slots (sizes S) o s1) z) is (acts S fits κ s1 g.place g.words g.at o fit))
      where
        cases : (r : Did (State Where)) → (lang S).act o s ≡ r → DoesAs S κ (spent (op_weight o) s) g.words r (words.Goes [] s.world.store.answers (with_reg q v g.words)) → DidBy (holder S) m (spare 7 (begin (holder S) s)) p (Behind y J a b d o q s) r
        cases (On t) q0 k = record {
          steps = mk.steps;
          made = [];
          to = mk.to;
          by = subst (λ xs. Reaches mk.steps m s.world.store.answers [] mk.to xs) k.answers (mk.by s.world.store.answers);
          at = mk.at;
          held = (mk.stands t k.holds, keeps t q0);
          events = k.events;
          cost = let w = k.work in let few = mk.few in omega (arith, w, few, eight);
          many = omega arith;
        }
        cases (Ends Stray t) q0 k = λ n. record { steps = 0; made = []; to = m; left = s.world.store.answers; by = (reaches_here m s.world.store.answers).runs; nested = λ ls. nested_none ls m s.world.store.answers; events = k.0 ∙ sym (append-nil s.world.events); cost = let w = k.1 in omega (arith, w, eight); many = omega arith }
        cases (Ends Halted t) q0 k = absurd k
        cases (Ends (Fault n) t) q0 k = absurd k
        cases (Ends Starved t) q0 k = absurd k
        cases (Ends Deep t) q0 k = absurd k
        cases (Ends OutOfBound t) q0 k = absurd k

    -- the word of a place from which it may be taken
    same_word : (x : Where) → Stays (S.whole.frames κ.fn).registers x → reads_moved y x ≡ false → word_of (S.whole.frames κ.fn) x (having g.registers g.words) ≡ word_of (S.whole.frames κ.fn) x g.words
    same_word (Reg q) stays free = let f = off (is_moved y q) (q == y.one) free in g.like q stays f.0 (ap (λ b. b && not J) f.1)
    same_word (Slot k) stays free = refl

    one_led : (o : OpT Where) (q : ℕ) → put_into o ≡ Some q → Fitting S κ.fn o → AllOf (Stays (S.whole.frames κ.fn).registers) (uses o) → takes_moved y o ≡ false → Here pc (put_items S.whole (S.whole.frames κ.fn) y J o) p → DidBy (holder S) m (spare 7 (begin (holder S) s)) p (Behind y J a b d o q s) ((lang S).act o s)
    unfolding does
    one_led = put_elim (λ o q. Fitting S κ.fn o → AllOf (Stays (S.whole.frames κ.fn).registers) (uses o) → takes_moved y o ≡ false → Here pc (put_items S.whole (S.whole.frames κ.fn) y J o) p → DidBy (holder S) m (spare 7 (begin (holder S) s)) p (Behind y J a b d o q s) ((lang S).act o s))
        (λ q n fit stays free st. led_by (ConstO (Reg q) n) q n refl (goes_by q n _ fit st (λ i. const_made real m pc p (goes_to y q) n (goes_low y ro q fit) g.held e i)) refl fit (λ t z r x. put_stored S r q x (Some n) (spent 8 s) t (Ok (Num n)) (λ j i. (let w : n ≡ j = cc in ap (λ k. Ok (Num k)) w)) z))
        (λ q k fit stays free st. led_by (GlobalO (Reg q) k) q (get_or S.whole.globals k 0) refl (goes_by q (get_or S.whole.globals k 0) _ fit.0 st (λ i. const_made real m pc p (goes_to y q) (get_or S.whole.globals k 0) (goes_low y ro q fit.0) g.held e i)) refl fit (λ t z r x. put_stored S r q x None (spent 8 s) t (Ok (Ptr k 0)) (λ j i. absurd cc) z))
        (λ q k fit stays free st. led_by (LocalO (Reg q) k) q (local_address F k g.words) refl (goes_by q (local_address F k g.words) _ fit.0 st (λ i. local_made real m pc p (goes_to y q) k roomy fit.2 (goes_low y ro q fit.0) g.held e i)) refl fit (λ t z r x. put_stored S r q x None (spent 8 s) t (first_cell (local_object s.world.store.locals k)) (λ j i. absurd cc) z))
        (λ q x fit stays free st. led_by (MoveO (Reg q) x) q (word_of F x g.words) refl (goes_by q (word_of F x g.words) _ fit.0 st (λ i. subst (λ v. Made real m p (goes_to y q) v) (same_word x stays.0 free) (move_made real m pc p (goes_to y q) x roomy (good S fits κ x fit.1) (goes_low y ro q fit.0) g.held e i))) refl fit (λ t z r w. put_stored S r q w None (spent 8 s) t (Ok (s.cells x)) (λ j i. absurd cc) z))

  -- ---- what is not put is moved behind them

  record Loaded (a : Addr) (m : machine.State) (p t v : ℕ) : Type 0 where
    steps : ℕ
    to : machine.State
    by : (xs : List ℕ) → Reaches steps m xs [] to xs
    at : to.counter ≡ p
    few : steps ≤ 1
    is : register_of to t ≡ v
    other : (x : ℕ) → x ≢ t → register_of to x ≡ register_of m x
    held : Held S.console a to

  load_one : (x : Bool) (f : ℕ → ℕ) (w : Addr) (m : machine.State) (pc p t r : ℕ) → register t ≡ t → 9 ≤ t → t < 14 → r < 9 → Held S.console (having f w) m → m.counter ≡ pc → Here pc (move_item x t r) p → Stood x m f w t r → Loaded (having f w) m p t (w.regs r)
  load_one true f w m pc p t r same lo hi lr h e st old = record { steps = 0; to = m; by = λ xs. reaches_here m xs; at = e ∙ st; few = omega arith; is = old; other = λ x ne. refl; held = h }
  load_one false f w m pc p t r same lo hi lr h e st old =
      let k = reg_made (having f w) m pc p t r hi lr h e (subst (λ z. Here pc (item.Op (instr.Mov (RegReg z (register r))) ∷ []) p) (sym same) st) in
      record { steps = k.steps; to = k.to; by = k.by; at = k.at; few = k.few; is = k.is ∙ old; other = k.other; held = k.high lo }

  -- ---- all of them

  -- the machine comes there with so many steps more than were paid for
  abbrev DidIn : machine.State → Begin → (p more : ℕ) → (State Where → machine.State → Type 0) → Did (State Where) → Type 0
  DidIn m b p more R (On t) = Came (holder S) m b t p 0 more (R t)
  DidIn m b p more R (Ends f t) = (n : ℕ) → Final (holder S) n m b f t

  -- 7 are paid for by the operation before
  led_on : (m : machine.State) (b : Begin) (p q more : ℕ) (P R : State Where → machine.State → Type 0) (r : Did (State Where)) (go : State Where → Did (State Where)) → more ≤ 7 → DidBy (holder S) m (spare 7 b) p P r → ((t : State Where) (u : machine.State) → u.counter ≡ p → P t u → DidIn u (begin (holder S) t) q more R (go t)) → DidIn m b q 0 R (did_then r go)
  led_on m b p q more P R (On t) go le a f = on (go t) (f t a.to a.at a.held)
    where
      on : (r : Did (State Where)) → DidIn a.to (begin (holder S) t) q more R r → DidIn m b q 0 R r
      on (On u) k =
          let c = came_came (lang S) (holder S) m (spare 7 b) t u p q 0 0 0 more (P t) (R u) a k (omega arith) in
          let cost = c.cost in
          record { steps = c.steps; made = c.made; to = c.to; by = c.by; at = c.at; held = c.held; events = c.events; cost = omega (arith, cost, le); many = c.many }
      on (Ends h u) k = λ n. earlier_did (lang S) (holder S) m b (spare 7 b) q (Mach S κ) (Ends h u) refl refl (omega arith) (λ j. came_final (lang S) (holder S) [] m (spare 7 b) t u p 0 j j (P t) h (omega arith) a (k j)) n
  led_on m b p q more P R (Ends h t) go le a f = earlier_did (lang S) (holder S) m b (spare 7 b) q (Mach S κ) (Ends h t) refl refl (omega arith) a

  -- none is before the loop, or some are
  abbrev slack : ℕ → ℕ
  slack zero = 3
  slack (suc k) = 0

  slack_few : (k : ℕ) → slack k ≤ 7
  slack_few zero = omega arith
  slack_few (suc k) = omega arith

  put_seen : (o : OpT Where) (q : ℕ) → put_into o ≡ Some q → (t : ℕ) (x : Bool) (c : NodesT Where) → is_put t x (Do o c) ≡ is_put t (x || (q == t)) c
  unfolding is_put
  put_seen = put_elim (λ o q. (t : ℕ) (x : Bool) (c : NodesT Where) → is_put t x (Do o c) ≡ is_put t (x || (q == t)) c) (λ r n t x c. refl) (λ r k t x c. refl) (λ r k t x c. refl) (λ r p t x c. refl)

  source_seen : (from : Option ℕ) (o : OpT Where) (q : ℕ) → put_into o ≡ Some q → (x : Bool) (c : NodesT Where) → source_put from x (Do o c) ≡ source_put from (x || is_from from q) c
  source_seen None o q e x c = refl
  source_seen (Some f) o q e x c = put_seen o q e f x c

  last_seen : (o : OpT Where) (q : ℕ) → put_into o ≡ Some q → (t : ℕ) (x : Option ℕ) (c : NodesT Where) → last_put t (Do o c) x ≡ last_put t c (cond (t == q) (known_put o) x)
  unfolding last_put
  last_seen = put_elim (λ o q. (t : ℕ) (x : Option ℕ) (c : NodesT Where) → last_put t (Do o c) x ≡ last_put t c (cond (t == q) (known_put o) x)) (λ r n t x c. refl) (λ r k t x c. refl) (λ r k t x c. refl) (λ r p t x c. refl)

  weighs : (o : OpT Where) (q : ℕ) → put_into o ≡ Some q → op_weight o ≡ 8
  weighs = put_elim (λ o q. op_weight o ≡ 8) (λ r n. refl) (λ r k. refl) (λ r k. refl) (λ r p. refl)

  abbrev moves_of : Copying → (a b d : Bool) → NodesT Where → List AsmItem
  moves_of y a b d c = move_item (is_put y.to a c) 13 y.to ++ (move_item (source_put y.from b c) 12 (source y.from y) ++ move_item (is_put y.count d c) 11 y.count)

  abbrev LedBy : NodesT Where → ℕ → Copying → Type 0
  LedBy c k y = (a b d : Bool) (x z : Option ℕ) (s : State Where) (m : machine.State) (pc p : ℕ) → Roles y → FrontFits S κ.fn c (suc k) → Sparing (S.whole.frames κ.fn).registers c zero → AllClear y c k →
      Here pc (puts_items S.whole (S.whole.frames κ.fn) y (asked_behind (S.whole.frames κ.fn).lasting c y.one) c k ++ moves_of y a b d c) p → m.counter ≡ pc → Going y (asked_behind (S.whole.frames κ.fn).lasting c y.one) a b d s m → Stored S y.count x s → Stored S y.one z s → is_count (last_put y.count c x) ≡ true → is_one (last_put y.one c z) ≡ true →
      DidIn m (begin (holder S) s) p (slack k) (at_front (holder S) κ c (suc k)) (front_acts (lang S) c (suc k) s)

  -- the register that is read from, or the word of a fill
  source_of : (l c : NodesT Where) (y : Copying) (J : Bool) (ro : Roles y) (a b d : Bool) (s : State Where) (m : machine.State) (g : Going y J a b d s m) (n : (S.whole.frames κ.fn).registers ≡ 9 ⊎ (S.whole.frames κ.fn).registers ≡ 8) (from : Option ℕ) → y.from ≡ from → SourceStood from b m g.registers g.words →
      (source from y < 9) × Stood (source_put from b (Loop l c)) m g.registers g.words 12 (source from y)
  unfolding is_put
  source_of l c y J ro a b d s m g n None e h =
      let w = ro.cell e in
      (w.0, g.like y.cell (elim n [ inl z ↦ (let lt = w.0 in omega (arith, z, lt)) | inr z ↦ (let lt = w.0 in let ne = w.1 in omega (arith, z, lt, ne)) ]) w.2 (ap (λ b. b && not J) w.3))
  source_of l c y J ro a b d s m g n (Some f) e h = ((ro.from f e).0, h)

  -- the machine stands at the block move
  base_led : (l c : NodesT Where) (y : Copying) (J : Bool) (ro : Roles y) (a b d : Bool) (s : State Where) (m : machine.State) (pc p : ℕ) → ((S.whole.frames κ.fn).registers ≡ 9 ⊎ (S.whole.frames κ.fn).registers ≡ 8) → m.counter ≡ pc → Going y J a b d s m → (n : ℕ) × (s.cells (Reg y.count) ≡ Num n) × (is_count (Some n) ≡ true) → s.cells (Reg y.one) ≡ Num 1 → Here pc (moves_of y a b d (Loop l c)) p →
      Came (holder S) m (begin (holder S) s) s p 0 3 (ReadyFor S κ y J s)
  unfolding is_put
  base_led l c y J ro a b d s m pc p nine e g known one st =
      let xs = s.world.store.answers in
      let real = having g.registers g.words in
      let i = split C.words S.address (move_item a 13 y.to) (move_item (source_put y.from b (Loop l c)) 12 (source y.from y) ++ move_item d 11 y.count) pc p st in
      let j = split C.words S.address (move_item (source_put y.from b (Loop l c)) 12 (source y.from y)) (move_item d 11 y.count) i.0 p i.2 in
      let so = source_of l c y J ro a b d s m g nine y.from refl g.from in
      let l1 = load_one a g.registers g.words m pc i.0 13 y.to refl (omega arith) (omega arith) ro.to g.held e i.1 g.to in
      let l2 = load_one (source_put y.from b (Loop l c)) g.registers g.words l1.to i.0 j.0 12 (source y.from y) refl (omega arith) (omega arith) so.0 l1.held l1.at j.1 (stood_by (source_put y.from b (Loop l c)) m l1.to g.registers g.words 12 (source y.from y) (l1.other 12 (omega arith)) so.1) in
      let l3 = load_one d g.registers g.words l2.to j.0 p 11 y.count refl (omega arith) (omega arith) ro.count l2.held l2.at j.2 (stood_by d m l2.to g.registers g.words 11 y.count (l2.other 11 (omega arith) ∙ l1.other 11 (omega arith)) g.count) in
      let f1 = l1.few in
      let f2 = l2.few in
      let f3 = l3.few in
      record {
        steps = l1.steps + (l2.steps + l3.steps);
        made = [];
        to = l3.to;
        by = reaches_on l1.steps (l2.steps + l3.steps) m l1.to l3.to xs xs xs [] [] (l1.by xs) (reaches_on l2.steps l3.steps l1.to l2.to l3.to xs xs xs [] [] (l2.by xs) (l3.by xs));
        at = l3.at;
        held = record {
          place = g.place;
          words = g.words;
          at = g.at;
          registers = g.registers;
          held = l3.held;
          like = g.like;
          target = l3.other 13 (omega arith) ∙ l2.other 13 (omega arith) ∙ l1.is;
          read = l3.other 12 (omega arith) ∙ l2.is;
          count = l3.is;
          known = known;
          one = one;
        };
        events = sym (append-nil s.world.events);
        cost = omega (arith, f1, f2, f3);
        many = omega arith;
      }
    where
      stood_by : (x : Bool) (m u : machine.State) (f : ℕ → ℕ) (w : Addr) (t r : ℕ) → register_of u t ≡ register_of m t → Stood x m f w t r → Stood x u f w t r
      stood_by true m u f w t r e h = e ∙ h
      stood_by false m u f w t r e h = h

  nine_or_eight : (c : NodesT Where) → Sparing (S.whole.frames κ.fn).registers c zero → (S.whole.frames κ.fn).registers ≡ 9 ⊎ (S.whole.frames κ.fn).registers ≡ 8
  nine_or_eight c (inl e) = inl e
  nine_or_eight c (inr e) = inr e.0

  puts_led : (c : NodesT Where) (k : ℕ) (y : Copying) → puts_before c ≡ Some (k, y) → LedBy c k y
  unfolding is_put last_put
  puts_led = puts_elim LedBy
      (λ l c y q a b d x z s m pc p ro ff sp cl st e g hx hz ec eo.
      let w = base_led l c y (live_soon ahead (S.whole.frames κ.fn).lasting c y.one) ro a b d s m pc p (nine_or_eight (Loop l c) sp) e g (counted S x y.count s hx ec) (one_is_known S z y.one s hz eo) st in
      subst (λ h. Came (holder S) m (begin (holder S) s) s p 0 3 (Ready S κ (live_soon ahead (S.whole.frames κ.fn).lasting c) h s)) (sym q) w)
      (λ o r c k y put q h a b d x z s m pc p ro ff sp cl st e g hx hz ec eo.
      let J = asked_behind (S.whole.frames κ.fn).lasting c y.one in
      let there = items_on y J o r c k a b d put in
      let i = split C.words S.address (put_items S.whole F y J o) (puts_items S.whole F y J c k ++ moves_of y (a || (r == y.to)) (b || is_from y.from r) (d || (r == y.count)) c) pc p (subst (λ l. Here pc l p) there st) in
      led_on m (begin (holder S) s) i.0 p (slack k) (Behind y J a b d o r s) (at_front (holder S) κ c (suc k)) ((lang S).act o s) (front_acts (lang S) c (suc k)) (slack_few k)
      (one_led y J ro a b d s m g pc i.0 e o r put ff.0 (uses_stay S κ.fn (S.whole.frames κ.fn).registers o c sp ff.0) cl.0 i.1)
      (λ t u eu hu. h (a || (r == y.to)) (b || is_from y.from r) (d || (r == y.count)) (cond (y.count == r) (known_put o) x) (cond (y.one == r) (known_put o) z) t u i.0 p ro ff.1 (next_sparing (S.whole.frames κ.fn).registers o c k y q sp) cl.1 i.2 eu hu.0 (hu.1 y.count x hx) (hu.1 y.one z hz)
      (ap is_count (sym (last_seen o r put y.count x c)) ∙ ec) (ap is_one (sym (last_seen o r put y.one z c)) ∙ eo)))
    where
      items_on : (y : Copying) (J : Bool) (o : OpT Where) (r : ℕ) (c : NodesT Where) (k : ℕ) (a b d : Bool) → put_into o ≡ Some r → puts_items S.whole (S.whole.frames κ.fn) y J (Do o c) (suc k) ++ moves_of y a b d (Do o c)
          ≡ put_items S.whole (S.whole.frames κ.fn) y J o ++ (puts_items S.whole (S.whole.frames κ.fn) y J c k ++ moves_of y (a || (r == y.to)) (b || is_from y.from r) (d || (r == y.count)) c)
      items_on y J o r c k a b d put =
          let e1 = put_seen o r put y.to a c in
          let e2 = source_seen y.from o r put b c in
          let e3 = put_seen o r put y.count d c in
          append_assoc (put_items S.whole F y J o) (puts_items S.whole F y J c k) (moves_of y a b d (Do o c))
          ∙ (λ i. put_items S.whole F y J o ++ (puts_items S.whole F y J c k ++ (move_item (e1 i) 13 y.to ++ (move_item (e2 i) 12 (source y.from y) ++ move_item (e3 i) 11 y.count))))

  -- ---- the registers of such a loop

  apart_from : (r t : ℕ) → r ≢ t → (r == t) ≡ false
  apart_from r t ne = elim (same_or_not r t) [ inl z ↦ absurd (ne z.0) | inr z ↦ z.1 ]

  roles_of : (b : NodesT Where) (y : Copying) → copy_of b ≡ Some y → Names (Named S κ.fn) b → Roles y
  roles_of b y e names = elim (copy_is b y e) [
    | inl q ↦
        let v = q.registers in
        let n = subst (λ z. Names (Named S κ.fn) z) q.nodes names in
        let a = q.apart in
        subst Roles q.same (record {
          to = n.1.0.0.0;
          to_eight = a.four.to_eight;
          count = n.1.1.0.1.0;
          count_eight = a.four.count_eight;
          to_count = a.four.to_count;
          from = λ f z. (let w : v.from ≡ f = cc in subst (λ x. (x < 9) × (x ≢ 8) × (x ≢ v.to) × (x ≢ v.count)) w (n.0.0.0, a.from_eight, a.from_to, a.from_count));
          cell = λ z. absurd cc;
          one = n.1.1.0.0.1.0;
          one_to = λ z. a.four.to_one (sym z);
          one_count = λ z. a.four.count_one (sym z);
          one_from = λ f z. (let w : v.from ≡ f = cc in subst (λ x. v.one ≢ x) w (λ i. a.from_one (sym i)));
        })
    | inr q ↦
        let v = q.registers in
        let n = subst (λ z. Names (Named S κ.fn) z) q.nodes names in
        let a = q.apart in
        subst Roles q.same (record {
          to = n.0.0.0;
          to_eight = a.to_eight;
          count = n.1.0.1.0;
          count_eight = a.count_eight;
          to_count = a.to_count;
          from = λ f z. absurd cc;
          cell = λ z. (n.0.0.1.0, a.cell_eight, (let e1 = apart_from v.cell v.to (λ x. a.to_cell (sym x)) in let e2 = apart_from v.cell v.count a.cell_count in λ i. e1 i || (false || e2 i)), apart_from v.cell v.one a.cell_one);
          one = n.1.0.0.1.0;
          one_to = λ z. a.to_one (sym z);
          one_count = λ z. a.count_one (sym z);
          one_from = λ f z. absurd cc;
        })
  ]

  roles_behind : (c : NodesT Where) (k : ℕ) (y : Copying) → puts_before c ≡ Some (k, y) → Names (Named S κ.fn) c → Roles y
  roles_behind = puts_elim (λ c k y. Names (Named S κ.fn) c → Roles y) (λ b c y q n. roles_of b y q n.0) (λ o r c k y put q h n. h n.1)

  by_in : (m : machine.State) (b : Begin) (p k : ℕ) (R : State Where → machine.State → Type 0) (r : Did (State Where)) → 1 ≤ k → DidIn m b p (slack k) R r → DidBy (holder S) m b p R r
  by_in m b p zero R r le h = absurd (omega (arith, le))
  by_in m b p (suc k) R (On t) le h = h
  by_in m b p (suc k) R (Ends f t) le h = h

  abbrev OneDone : (pc p : ℕ) → State Where → machine.State → OpT Where → NodesT Where → Option (ℕ × Option (Instr Imm) × Instr Imm) → Type 0
  OneDone pc p s m o c z = AreOps (more_of z) c → FrontFits S κ.fn c (more_of z) → Here pc (one_or_more S.whole (S.whole.frames κ.fn) o z) p
      → DidBy (holder S) m (begin (holder S) s) p (StoodBehind S κ c (more_of z)) (did_then ((lang S).act o s) (front_acts (lang S) c (more_of z)))

  in_one_is : (W : Whole) (F : Frame) (o : OpT Where) (c : NodesT Where) → in_one W F o c ≡ with_access F (accessed F.lasting F.registers o c) (with_next W F o c)
  unfolding in_one
  in_one_is W F o c = refl

  -- an operation, and those that are done with it
  pub op_sim : (pc p more : ℕ) (o : OpT Where) (c : NodesT Where) (s : State Where) (m : machine.State) → is_unread (Do o c) ≡ false → (shapes S).op κ.fn pc o c more p → m.counter ≡ pc → Mach S κ s m → DidBy (holder S) m (begin (holder S) s) p (StoodBehind S κ c more) (did_then ((lang S).act o s) (front_acts (lang S) c more))
  op_sim pc p more o c s m asked st e h =
      let F = S.whole.frames κ.fn in
      let x = lead (Do o c) in
      let count : more ≡ led_more S.whole F o c x = st.3 ∙ ap (λ b. cond b 0 (led_more S.whole F o c x)) asked in
      subst (λ n. DidBy (holder S) m (begin (holder S) s) p (StoodBehind S κ c n) (did_then ((lang S).act o s) (front_acts (lang S) c n))) (sym count)
      (go x refl (subst (λ n. FrontFits S κ.fn c n) count st.1) (subst (λ b. Here pc (cond b [] (led_items S.whole F o c x)) p) asked st.2))
    where
      low : (r : ℕ) → r < 9 → r ≢ 8 → r < (S.whole.frames κ.fn).registers
      low r lt ne = elim (nine_or_eight (Do o c) st.4) [ inl z ↦ omega (arith, z, lt) | inr z ↦ omega (arith, z, lt, ne) ]

      reads_from : (y : Copying) → Roles y → (from : Option ℕ) → y.from ≡ from → SourceStood from false m h.registers h.words
      reads_from y ro None q = tt
      reads_from y ro (Some f) q = let r = ro.from f q in h.like f (low f r.0 r.1)

      begins : (y : Copying) → Roles y → Going y (asked_behind (S.whole.frames κ.fn).lasting c y.one) false false false s m
      begins y ro = record {
        place = h.place;
        words = h.words;
        at = h.at;
        registers = h.registers;
        held = h.held;
        like = λ r lt free left. h.like r lt;
        to = h.like y.to (low y.to ro.to ro.to_eight);
        from = reads_from y ro y.from refl;
        count = h.like y.count (low y.count ro.count ro.count_eight);
      }

      -- those that are done in one go
      one : (x : Option (ℕ × Address × Transfer)) → accessed (S.whole.frames κ.fn).lasting (S.whole.frames κ.fn).registers o c ≡ x → OneDone pc p s m o c (with_access (S.whole.frames κ.fn) x (with_next S.whole (S.whole.frames κ.fn) o c))
      one None q ops ff items =
          let k = more_of (with_next S.whole F o c) in
          did_more (lang S) (holder S) m (begin (holder S) s) p (Mach S κ) (StoodBehind S κ c k) (did_then ((lang S).act o s) (front_acts (lang S) c k)) (λ t u w. inl (ops_ahead S κ k c t u ops w)) (done S fits κ pc p s m e h o c st.0 st.4 ff items)
      one (Some (k, y, x)) q ops ff items =
          let soon = Like (live_soon ahead (S.whole.frames κ.fn).lasting (behind_front S c k)) (Mach S κ) in
          let d = subst (AccessDone S fits κ pc p s m e h o c) q (access_done S fits κ pc p s m e h o c) in
          did_more (lang S) (holder S) m (begin (holder S) s) p soon (StoodBehind S κ c k) (did_then ((lang S).act o s) (front_acts (lang S) c k)) (λ t u w. inr (ops, w))
          (d st.0 ff (access_stays S κ.fn S.whole F o c k y x q st.4 (st.0, ff)) items)

      go : (x : Option (ℕ × Copying)) → lead (Do o c) ≡ x → FrontFits S κ.fn c (led_more S.whole (S.whole.frames κ.fn) o c x) → Here pc (led_items S.whole (S.whole.frames κ.fn) o c x) p → DidBy (holder S) m (begin (holder S) s) p (StoodBehind S κ c (led_more S.whole (S.whole.frames κ.fn) o c x)) (did_then ((lang S).act o s) (front_acts (lang S) c (led_more S.whole (S.whole.frames κ.fn) o c x)))
      go None q ff items = subst (OneDone pc p s m o c) (sym (in_one_is S.whole F o c)) (one (accessed F.lasting F.registers o c) refl) (one_is S.whole F o c) ff items
      go (Some (k, y)) q ff items =
          let l = lead_is (Do o c) k y q in
          let ro = roles_behind (Do o c) k y l.puts st.5 in
          did_more (lang S) (holder S) m (begin (holder S) s) p (at_front (holder S) κ c k) (StoodBehind S κ c k) (did_then ((lang S).act o s) (front_acts (lang S) c k)) (λ t u w. inl w)
          (by_in m (begin (holder S) s) p k (at_front (holder S) κ c k) (did_then ((lang S).act o s) (front_acts (lang S) c k)) (some_put (Do o c) k y l.puts)
          (puts_led (Do o c) k y l.puts false false false None None s m pc p ro (st.0, ff) st.4 l.clear items e (begins y ro) (λ n i. absurd cc) (λ n i. absurd cc) l.count l.one))
