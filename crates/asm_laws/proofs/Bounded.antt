-- Nested runs of a program stay within the numbers of its items.
use Rattle.std.proofs.Common.{ℕ, zero, suc, ◌≡◌, ◌+◌, ◌<◌, ◌≤◌, inl, inr, Bool, true, false, cond, List, [], ◌∷◌, ◌++◌, length, Option, Some, None, refl, sym, ap, ◌∙◌, subst, arith, append_assoc, length-append}
use Rattle.std.specs.Prelude.{◌-◌, nat_lt, slice_index, bytes_eq}
use Rattle.std.proofs.lemmas.Bool.Decides.{nat_tests}
use Rattle.std.proofs.lemmas.Slice.Eq.{bytes_eq-Decides}
use Rattle.std.proofs.Math.Seq.{get_or-append_seam}
use Rattle.kit_base.specs.Word.{add}
use Rattle.v32_isa.specs.declared.instruction.Plain.TheVariants.{HLT, RET}
use Rattle.v32_isa.specs.declared.instruction.Instr.{Instr}
use Rattle.v32_isa.specs.declared.instruction.Instr.TheVariants as instr
use Rattle.v32_isa.specs.Table.{Fits, spelling}
use Rattle.v32_isa.specs.State.{State, sp, register_of, word_at, is_readable_at}
use Rattle.v32_isa.specs.Machine.{Effect, act, effect_of}
use Rattle.v32_isa.specs.Runs.{opening, opening_memory}
use Rattle.v32_isa.specs.Calls.{Turn, turn_of, turn, next_effect, stepped_on, after_steps, on_after, Link, NestedOn, Nested, IsNested, InCallOn, InCall, CallsTakeAtMost}
use Rattle.v32_isa.specs.Calls.Turn.{Enters, Returns as TurnsBack, Other}
use Rattle.v32_isa.proofs.Steps.{HoldsWords, effect-spelled, turn-spelled, nested_fewer}
use Rattle.v32_isa.proofs.Staying.{program_stays}
use Rattle.asm_items.specs.declared.item.AsmItem.{AsmItem}
use Rattle.asm_items.specs.declared.item.AsmItem.TheVariants.{Label, Op, Integer, Pointer}
use Rattle.asm_items.specs.Items.{Imm, instr_with}
use Rattle.asm_items.specs.Words.{imm_word}
use Rattle.assembler.specs.Faults.{fault_of}
use Rattle.assembler.specs.Labels.{address_in}
use Rattle.assembler.specs.Placed.{Placed}
use Rattle.assembler.specs.Sizes.{total_size}
use Rattle.asm_laws.specs.Placing.{Line}
use Rattle.asm_laws.specs.Standing.{Stand}
use Rattle.asm_laws.specs.Numbers.{kind_of, behind, Number, AllFit}
use Rattle.asm_laws.specs.Numbers.Kind.{Goes, Jumps, Parts, Calls, Returns, Halts}
use Rattle.asm_laws.specs.Numbers.Number.{at_mark, at_goes, at_jump, at_parts, at_call, at_return, at_halt}
use Rattle.asm_laws.proofs.Walked.{placed_stand}
use Rattle.asm_laws.specs.Longest.{IsLongest}
use Rattle.asm_laws.proofs.Deciding.{longest_behind}
use Rattle.asm_laws.proofs.Landing.{Lands, enters_lands, lands_next, goes_lands, return_is, halt_is, jump_lands, parts_lands, call_lands, ret_lands, halt_none}

abbrev the_return : Turn
the_return = TurnsBack

same_word : {x y : ℕ} → Some x ≡ Some y → x ≡ y
same_word e = cc

program_opens : (words : List ℕ) → length words < 0x10000000 → (card : Option (List ℕ)) (j : ℕ) → j < length words → opening_memory words card (0x20000000 + j) ≡ slice_index words j
unfolding opening_memory
program_opens words short card j lt =
    let e1 : nat_lt (0x20000000 + j) 0x20000000 ≡ false = grind (arith, nat_tests) in
    let e2 : nat_lt (0x20000000 + j) 0x30000000 ≡ true = grind (arith, nat_tests) in
    let e3 : 0x20000000 + j - 0x20000000 ≡ j = omega arith in
    rw (e1, e2, e3) refl

-- ---- a program in memory

-- these words are the program of a state
pub record There (words : List ℕ) (s : State) : Type 0 where
  pub program_length : s.program_length ≡ length words
  pub text : (j : ℕ) → j < length words → s.memory (0x20000000 + j) ≡ slice_index words j

module _ (words : List ℕ) (short : length words < 0x10000000) where
  stays_there : (s t : State) (xs ys : List ℕ) → There words s → stepped_on s xs ≡ Some (t, ys) → There words t
  stays_there s t xs ys h e =
      let p = program_stays s t xs ys e in
      record { program_length = p.program_length ∙ h.program_length; text = λ j lt. p.text (0x20000000 + j) (omega arith) (omega (arith, lt, short)) ∙ h.text j lt }

  text_readable : (s : State) (j : ℕ) → There words s → j < length words → is_readable_at s (0x20000000 + j) ≡ true
  unfolding is_readable_at
  text_readable s j h lt = let e = h.program_length in grind (arith, nat_tests)

  text_word : (s : State) (j : ℕ) → There words s → j < length words → word_at s (0x20000000 + j) ≡ Some (slice_index words j)
  unfolding word_at
  text_word s j h lt = rw (text_readable s j h lt) (ap Some (h.text j lt))

  holds : (s : State) (ws front rest : List ℕ) → There words s → words ≡ front ++ (ws ++ rest) → HoldsWords s (0x20000000 + length front) ws
  holds s [] front rest h e = tt
  holds s (w ∷ ws) front rest h e =
      let count : length words ≡ length front + suc (length (ws ++ rest)) = ap length e ∙ length-append front (w ∷ (ws ++ rest)) in
      let here : slice_index words (length front) ≡ w = ap (λ l. slice_index l (length front)) e ∙ get_or-append_seam front w (ws ++ rest) 0 in
      let first : word_at s (0x20000000 + length front) ≡ Some w = text_word s (length front) h (omega (arith, count)) ∙ ap Some here in
      let others = holds s ws (front ++ w ∷ []) rest h (e ∙ sym (append_assoc front (w ∷ []) (ws ++ rest))) in
      let more = length-append front (w ∷ []) in
      let next : add (0x20000000 + length front) 1 ≡ 0x20000000 + length (front ++ w ∷ []) = omega (arith, more, count, short) in
      (first, subst (λ q. HoldsWords s q ws) (sym next) others)

  -- the step at a line, and its kind
  line_step : (s : State) (pc : ℕ) (i : Instr ℕ) (next : ℕ) → There words s → s.counter ≡ pc → Line words pc i next → Fits i → (effect_of s ≡ act i next s) × (turn s ≡ turn_of i next s)
  line_step s pc i next h e l fits =
      let held = subst (λ q. HoldsWords s q (spelling i)) (sym l.place_is ∙ sym e) (holds s (spelling i) l.front l.rest h l.words_are) in
      let count : length words ≡ length l.front + length (spelling i ++ l.rest) = ap length l.words_are ∙ length-append l.front (spelling i ++ l.rest) in
      let more = length-append (spelling i) l.rest in
      let same : add s.counter (length (spelling i)) ≡ next = omega (arith, e, l.place_is, l.next_is, count, more, short) in
      (effect-spelled s i fits held ∙ ap (λ n. act i n s) same, turn-spelled s i fits held ∙ ap (λ n. turn_of i n s) same)

  -- ---- places

  module _ (address : List ℕ → ℕ) (items : List AsmItem) (e : ℕ) where
    abbrev with : Instr Imm → Instr ℕ
    with i = instr_with (imm_word address) i

    -- a place with a number stands at an address
    pub record Place (pc n : ℕ) : Type 0 where
      pub items_left : List AsmItem
      pub stands : Stand words address pc items_left e
      pub fit : AllFit address items_left
      pub number : Number items items_left n

    abbrev Found : List ℕ → List AsmItem → Type 0
    Found l [] = Unit {0}
    Found l p = Stand words address (address l) p e × AllFit address p

    found_behind : (all : List AsmItem) (pc : ℕ) (l : List ℕ) → Stand words address pc all e → AllFit address all → Found l (behind all l)
    found_behind [] pc l h f = tt
    found_behind (Op i ∷ all) pc l h f = found_behind all h.0 l h.2 f.1
    found_behind (Integer w ∷ all) pc l h f = found_behind all h.0 l h.2 f
    found_behind (Pointer name ∷ all) pc l h f = found_behind all h.0 l h.2 f
    found_behind (Label name ∷ all) pc l h f = go (bytes_eq l name) refl (found_behind all h.0 l h.2 f)
      where
        found : (p : List AsmItem) (q : ℕ) → q ≡ address l → Stand words address q p e → AllFit address p → Found l p
        found [] q is st ok = tt
        found (x ∷ p) q is st ok = (subst (λ z. Stand words address z (x ∷ p) e) is st, ok)

        go : (b : Bool) → bytes_eq l name ≡ b → Found l (behind all l) → Found l (cond b all (behind all l))
        go true is more =
            let same : l ≡ name = (bytes_eq-Decides l name).0 is in
            found all h.0 (h.1.1 ∙ sym h.1.0 ∙ ap address (sym same)) h.2 f
        go false is more = more

    NotNil : List AsmItem → Type 0
    NotNil [] = ⊥
    NotNil (x ∷ p) = Unit {0}

    some_left : (p : List AsmItem) (n : ℕ) → Number items p n → NotNil p
    unfolding NotNil
    some_left _ _ (at_mark name rest n h) = tt
    some_left _ _ (at_goes i rest n k h) = tt
    some_left _ _ (at_jump i l rest n k h) = tt
    some_left _ _ (at_parts i l rest m q n k h g a b c) = tt
    some_left _ _ (at_call i l rest m n k h g) = tt
    some_left _ _ (at_return i rest k) = tt
    some_left _ _ (at_halt i rest k) = tt

    no_number : (n : ℕ) → Number items [] n → ⊥
    unfolding NotNil
    no_number n h = some_left [] n h

    -- at least the instruction itself
    some_number : (p : List AsmItem) (n : ℕ) → Number items p n → 1 ≤ n
    some_number _ _ (at_mark name rest n h) = some_number rest n h
    some_number _ _ (at_goes i rest n k h) = omega arith
    some_number _ _ (at_jump i l rest n k h) = omega arith
    some_number _ _ (at_parts i l rest m q n k h g a b c) = omega arith
    some_number _ _ (at_call i l rest m n k h g) = omega arith
    some_number _ _ (at_return i rest k) = omega arith
    some_number _ _ (at_halt i rest k) = omega arith

    -- the instruction that comes next, and the places that it needs
    pub data Ahead (pc : ℕ) : ℕ → Type 0 where
      ahead_goes : (i : Instr Imm) (next n : ℕ) → Line words pc (with i) next → Fits (with i) → kind_of i ≡ Goes → Place next n → Ahead pc (suc n)
      ahead_jump : (i : Instr Imm) (l : List ℕ) (next n : ℕ) → Line words pc (with i) next → Fits (with i) → kind_of i ≡ Jumps l → Place (address l) n → Ahead pc (suc n)
      ahead_parts : (i : Instr Imm) (l : List ℕ) (next m k n : ℕ) → Line words pc (with i) next → Fits (with i) → kind_of i ≡ Parts l → Place next m → Place (address l) k → m ≤ n → k ≤ n → Ahead pc (suc n)
      ahead_call : (i : Instr Imm) (l : List ℕ) (next m n : ℕ) → Line words pc (with i) next → Fits (with i) → kind_of i ≡ Calls l → Place (address l) m → Place next n → Ahead pc (suc (m + n))
      ahead_return : (i : Instr Imm) (next : ℕ) → Line words pc (with i) next → Fits (with i) → kind_of i ≡ Returns → Ahead pc 1
      ahead_halt : (i : Instr Imm) (next : ℕ) → Line words pc (with i) next → Fits (with i) → kind_of i ≡ Halts → Ahead pc 1

    module _ (standing : Stand words address 0x20000000 items e) (fit : AllFit address items) where
      place_behind : (l : List ℕ) (n : ℕ) → Number items (behind items l) n → Place (address l) n
      place_behind l n h = go (behind items l) h (found_behind items 0x20000000 l standing fit)
        where
          go : (p : List AsmItem) → Number items p n → Found l p → Place (address l) n
          go [] h f = absurd (no_number n h)
          go (x ∷ p) h f = record { items_left = x ∷ p; stands = f.0; fit = f.1; number = h }

      ahead : (p : List AsmItem) (n : ℕ) → Number items p n → (pc : ℕ) → Stand words address pc p e → AllFit address p → Ahead pc n
      ahead _ _ (at_mark name rest n h) pc st f = subst (λ q. Ahead q n) st.1.1 (ahead rest n h st.0 st.2 f)
      ahead _ _ (at_goes i rest n k h) pc st f = ahead_goes i st.0 n st.1 f.0 k (record { items_left = rest; stands = st.2; fit = f.1; number = h })
      ahead _ _ (at_jump i l rest n k h) pc st f = ahead_jump i l st.0 n st.1 f.0 k (place_behind l n h)
      ahead _ _ (at_parts i l rest m q n k h g a b c) pc st f = ahead_parts i l st.0 m q n st.1 f.0 k (record { items_left = rest; stands = st.2; fit = f.1; number = h }) (place_behind l q g) a b
      ahead _ _ (at_call i l rest m n k h g) pc st f = ahead_call i l st.0 m n st.1 f.0 k (place_behind l m h) (record { items_left = rest; stands = st.2; fit = f.1; number = g })
      ahead _ _ (at_return i rest k) pc st f = ahead_return i st.0 st.1 f.0 k
      ahead _ _ (at_halt i rest k) pc st f = ahead_halt i st.0 st.1 f.0 k

      -- ---- what is allowed to a call in progress, and to those of which it is part

      abbrev Owed : (d : ℕ) → List Link → ℕ → Type 0
      Owed zero ls m = m ≡ 0
      Owed (suc d) [] m = ⊥
      Owed (suc d) (l ∷ ls) m = (n : ℕ) × (k : ℕ) × Place l.back n × Owed d ls k × (m ≡ n + k)

      abbrev Within : ℕ → Type 0
      Within j = (d n m : ℕ) (ls : List Link) (s : State) (xs : List ℕ) → There words s → Place s.counter n → Owed d ls m → Nested j ls s xs → InCall j d s xs → j < n + m

      on_other : (j : ℕ) → Within j → (d n m : ℕ) (ls : List Link) (s : State) (xs : List ℕ) → There words s → Owed d ls m → turn s ≡ Other → ((t : State) (ys : List ℕ) → stepped_on s xs ≡ Some (t, ys) → (k : ℕ) × Place t.counter k × (suc k ≤ n)) →
          Nested (suc j) ls s xs → InCall (suc j) d s xs → suc j < n + m
      unfolding Nested InCall
      on_other j rec d n m ls s xs th ow k next h g = go (stepped_on s xs) refl (subst (λ T. NestedOn T s ls (stepped_on s xs) (Nested j)) k h) (subst (λ T. InCallOn T d (stepped_on s xs) (InCall j)) k g)
        where
          go : (o : Option (State × List ℕ)) → stepped_on s xs ≡ o → NestedOn Other s ls o (Nested j) → InCallOn Other d o (InCall j) → suc j < n + m
          go None e h g = absurd g
          go (Some q) e h g =
              let p = next q.0 q.1 e in
              let r = rec d p.0 m ls q.0 q.1 (stays_there s q.0 xs q.1 th e) p.1 ow h g in
              omega (arith, r, p.2)

      on_call : (j : ℕ) → Within j → (d a b m : ℕ) (ls : List Link) (s : State) (xs : List ℕ) → There words s → Owed d ls m → (to back : ℕ) → turn s ≡ Enters to back → Place back b → ((t : State) (ys : List ℕ) → stepped_on s xs ≡ Some (t, ys) → Place t.counter a) →
          Nested (suc j) ls s xs → InCall (suc j) d s xs → suc j < suc (a + b) + m
      unfolding Nested InCall
      on_call j rec d a b m ls s xs th ow to back k pl next h g = go (stepped_on s xs) refl (subst (λ T. NestedOn T s ls (stepped_on s xs) (Nested j)) k h) (subst (λ T. InCallOn T d (stepped_on s xs) (InCall j)) k g)
        where
          go : (o : Option (State × List ℕ)) → stepped_on s xs ≡ o → NestedOn (Enters to back) s ls o (Nested j) → InCallOn (Enters to back) d o (InCall j) → suc j < suc (a + b) + m
          go None e h g = absurd g
          go (Some q) e h g =
              let r = rec (suc d) a (b + m) _ q.0 q.1 (stays_there s q.0 xs q.1 th e) (next q.0 q.1 e) (b, m, pl, ow, refl) h g in
              omega (arith, r)

      on_return : (j : ℕ) → Within j → (d m : ℕ) (ls : List Link) (s : State) (xs : List ℕ) → There words s → Owed d ls m → turn s ≡ the_return → ((t : State) (ys : List ℕ) → stepped_on s xs ≡ Some (t, ys) → word_at s (register_of s sp) ≡ Some t.counter) →
          Nested (suc j) ls s xs → InCall (suc j) d s xs → suc j < 1 + m
      unfolding Nested InCall
      on_return j rec d m ls s xs th ow k next h g = go d ls m ow (stepped_on s xs) refl (subst (λ T. NestedOn T s ls (stepped_on s xs) (Nested j)) k h) (subst (λ T. InCallOn T d (stepped_on s xs) (InCall j)) k g)
        where
          go : (d : ℕ) (ls : List Link) (m : ℕ) → Owed d ls m → (o : Option (State × List ℕ)) → stepped_on s xs ≡ o → NestedOn the_return s ls o (Nested j) → InCallOn the_return d o (InCall j) → suc j < 1 + m
          go d ls m ow None e h g = absurd g
          go zero ls m ow (Some q) e h g = absurd g
          go (suc d) [] m ow (Some q) e h g = absurd ow
          go (suc d) (l ∷ ls) m ow (Some q) e h g =
              let same : q.0.counter ≡ l.back = same_word (sym (next q.0 q.1 e) ∙ ap (word_at s) h.0 ∙ h.1) in
              let r = rec d ow.0 ow.1 ls q.0 q.1 (stays_there s q.0 xs q.1 th e) (subst (λ z. Place z ow.0) (sym same) ow.2) ow.3 h.2 g in
              let z = ow.4 in
              omega (arith, r, z)

      on_halt : (j d n m : ℕ) (s : State) (xs : List ℕ) → stepped_on s xs ≡ None → InCall (suc j) d s xs → suc j < n + m
      unfolding InCall
      on_halt j d n m s xs e g = absurd (subst (λ o. InCallOn (turn s) d o (InCall j)) e g)

      landed : (s t : State) (next : ℕ) (xs ys : List ℕ) (a : Effect) → effect_of s ≡ a → Lands next a → stepped_on s xs ≡ Some (t, ys) → t.counter ≡ next
      unfolding stepped_on
      landed s t next xs ys a e l h = lands_next a next t xs ys l (ap (λ x. next_effect x xs) (sym e) ∙ h)

      came_back : (s t : State) (next : ℕ) (xs ys : List ℕ) → effect_of s ≡ act (instr.Plain RET) next s → stepped_on s xs ≡ Some (t, ys) → word_at s (register_of s sp) ≡ Some t.counter
      unfolding stepped_on
      came_back s t next xs ys e h = ret_lands s t next xs ys (ap (λ x. next_effect x xs) (sym e) ∙ h)

      stopped : (s : State) (next : ℕ) (xs : List ℕ) → effect_of s ≡ act (instr.Plain HLT) next s → stepped_on s xs ≡ None
      unfolding stepped_on
      stopped s next xs e = ap (λ x. next_effect x xs) e ∙ halt_none s next xs

      at_next : (next n m : ℕ) (t : State) → Place next n → t.counter ≡ next → n ≤ m → (k : ℕ) × Place t.counter k × (suc k ≤ suc m)
      at_next next n m t p e le = (n, subst (λ z. Place z n) (sym e) p, omega (arith, le))

      one_step : (j : ℕ) → Within j → (d n m : ℕ) (ls : List Link) (s : State) (xs : List ℕ) → There words s → Ahead s.counter n → Owed d ls m → Nested (suc j) ls s xs → InCall (suc j) d s xs → suc j < n + m
      one_step j rec d _ m ls s xs th (ahead_goes i next n l fits k p) ow h g =
          let x = line_step s s.counter (with i) next th refl l fits in
          let y = goes_lands address i next s k in
          on_other j rec d (suc n) m ls s xs th ow (x.1 ∙ y.1) (λ t ys z. at_next next n n t p (landed s t next xs ys (act (with i) next s) x.0 y.0 z) (omega arith)) h g
      one_step j rec d _ m ls s xs th (ahead_jump i l next n li fits k p) ow h g =
          let x = line_step s s.counter (with i) next th refl li fits in
          let y = jump_lands address i l next s k in
          on_other j rec d (suc n) m ls s xs th ow (x.1 ∙ y.1) (λ t ys z. at_next (address l) n n t p (landed s t (address l) xs ys (act (with i) next s) x.0 y.0 z) (omega arith)) h g
      one_step j rec d _ m ls s xs th (ahead_parts i l next a b n li fits k p q le lf) ow h g =
          let x = line_step s s.counter (with i) next th refl li fits in
          let y = parts_lands address i l next s k in
          on_other j rec d (suc n) m ls s xs th ow (x.1 ∙ y.3) (λ t ys z. let c = landed s t y.0 xs ys (act (with i) next s) x.0 y.1 z in elim y.2 [
            | inl u ↦ at_next next a n t p (c ∙ u) le
            | inr u ↦ at_next (address l) b n t q (c ∙ u) lf
          ]) h g
      one_step j rec d _ m ls s xs th (ahead_call i l next a b li fits k p q) ow h g =
          let x = line_step s s.counter (with i) next th refl li fits in
          let y = call_lands address i l next s k in
          on_call j rec d a b m ls s xs th ow (address l) next (x.1 ∙ y.1) q (λ t ys z. subst (λ c. Place c a) (sym (landed s t (address l) xs ys (act (with i) next s) x.0 y.0 z)) p) h g
      one_step j rec d _ m ls s xs th (ahead_return i next li fits k) ow h g =
          let x = line_step s s.counter (with i) next th refl li fits in
          let is = return_is address i k in
          on_return j rec d m ls s xs th ow (x.1 ∙ ap (λ c. turn_of (with c) next s) is) (λ t ys z. came_back s t next xs ys (x.0 ∙ ap (λ c. act (with c) next s) is) z) h g
      one_step j rec d _ m ls s xs th (ahead_halt i next li fits k) ow h g =
          let x = line_step s s.counter (with i) next th refl li fits in
          on_halt j d 1 m s xs (stopped s next xs (x.0 ∙ ap (λ c. act (with c) next s) (halt_is address i k))) g

      -- from a place with a number
      pub stays_within : (j : ℕ) → Within j
      stays_within zero d n m ls s xs th p ow h g = let z = some_number p.items_left n p.number in omega (arith, z)
      stays_within (suc j) d n m ls s xs th p ow h g = one_step j (stays_within j) d n m ls s xs th (ahead p.items_left n p.number s.counter p.stands p.fit) ow h g

      -- ---- the whole run

      abbrev Then : (r : ℕ) → Option (State × List ℕ) → Type 0
      Then r None = Unit {0}
      Then r (Some q) = (ms : List Link) × Nested r ms q.0 q.1 × There words q.0

      -- what is nested after steps of a nested run
      later : (k r n : ℕ) → n ≡ k + r → (ls : List Link) (s : State) (xs : List ℕ) → There words s → Nested n ls s xs → Then r (after_steps k s xs)
      unfolding Nested after_steps
      later zero r n e ls s xs th h = (ls, subst (λ z. Nested z ls s xs) (let w : n ≡ r = omega (arith, e) in w) h, th)
      later (suc k) r zero e ls s xs th h = absurd (omega (arith, e))
      later (suc k) r (suc n) e ls s xs th h = go (λ ms t ys. later k r n (omega (arith, e)) ms t ys) (turn s) ls (stepped_on s xs) refl h
        where
          go : ((ms : List Link) (t : State) (ys : List ℕ) → There words t → Nested n ms t ys → Then r (after_steps k t ys)) → (T : Turn) (ls : List Link) (o : Option (State × List ℕ)) → stepped_on s xs ≡ o → NestedOn T s ls o (Nested n) → Then r (on_after (after_steps k) o)
          go rec T ls None e h = tt
          go rec (Enters to back) ls (Some q) e h = rec _ q.0 q.1 (stays_there s q.0 xs q.1 th e) h
          go rec TurnsBack [] (Some q) e h = absurd h
          go rec TurnsBack (l ∷ ls) (Some q) e h = rec ls q.0 q.1 (stays_there s q.0 xs q.1 th e) h.2
          go rec Other ls (Some q) e h = rec ls q.0 q.1 (stays_there s q.0 xs q.1 th e) h

      opens : (card : Option (List ℕ)) → There words (opening words card)
      opens card = record { program_length = refl; text = λ j lt. text_opens card j lt }
        where
          text_opens : (card : Option (List ℕ)) (j : ℕ) → j < length words → opening_memory words card (0x20000000 + j) ≡ slice_index words j
          text_opens card j lt = program_opens words short card j lt

      called : (j : ℕ) (ls : List Link) (s t : State) (xs ys : List ℕ) (to back : ℕ) → turn s ≡ Enters to back → stepped_on s xs ≡ Some (t, ys) → Nested (1 + j) ls s xs → (ms : List Link) × Nested j ms t ys
      unfolding Nested
      called j ls s t xs ys to back k e h =
          let h1 : Nested (suc j) ls s xs = subst (λ z. Nested z ls s xs) (let w : 1 + j ≡ suc j = omega arith in w) h in
          let h2 : NestedOn (Enters to back) s ls (stepped_on s xs) (Nested j) = subst (λ T. NestedOn T s ls (stepped_on s xs) (Nested j)) k h1 in
          (_, subst (λ o. NestedOn (Enters to back) s ls o (Nested j)) e h2)

      -- Where a run is nested, a call of the function at a label takes at most as many instructions as the number of the place behind it.
      pub bounded : (answers : List ℕ) (card : Option (List ℕ)) (within : ℕ) (l : List ℕ) (N : ℕ) → Number items (behind items l) N → IsNested words answers card within → CallsTakeAtMost words answers card within (address l) N
      unfolding IsNested
      bounded answers card within l N number nested k j back s t xs ys le a e step inside =
          let n = nested_fewer (k + (1 + j)) within [] (opening words card) answers le nested in
          let r : Then (1 + j) (Some (s, xs)) = subst (λ o. Then (1 + j) o) a (later k (1 + j) (k + (1 + j)) refl [] (opening words card) answers (opens card) n) in
          let c = called j r.0 s t xs ys (address l) back e step r.1 in
          let at : t.counter ≡ address l = landed s t (address l) xs ys (effect_of s) refl (enters_lands s (address l) back e) step in
          let z : j < N + 0 = stays_within j 0 N 0 c.0 t ys (stays_there s t xs ys r.2 step) (subst (λ q. Place q N) (sym at) (place_behind l N number)) refl c.1 inside in
          omega (arith, z)

-- of the items of a program
pub calls_bounded : (items : List AsmItem) (words : List ℕ) (labels : List (List ℕ × ℕ)) → fault_of items ≡ None → Placed items words labels → length words < 0x10000000 → AllFit (address_in labels) items →
    (answers : List ℕ) (card : Option (List ℕ)) (within : ℕ) (l : List ℕ) (N : ℕ) → IsLongest items (behind items l) N → IsNested words answers card within → CallsTakeAtMost words answers card within (address_in labels l) N
calls_bounded items words labels ok placed short fit answers card within l N longest = bounded words short (address_in labels) items (0x20000000 + total_size items) (placed_stand words labels items ok placed) fit answers card within l N (longest_behind items l N longest)
