-- What is done in one go with an operation that stands first.
use Rattle.std.proofs.Common.{◌≡◌, ℕ, zero, suc, ◌-◌, ◌++◌, arith, Bool, true, false, cond, List, [], ◌∷◌, Option, Some, None, refl, sym, ap, ◌∙◌, append_assoc}
use Rattle.std.specs.Prelude.{◌==◌}
use Rattle.std.proofs.lemmas.Bool.Decides.{nat_tests}
use Rattle.v32_isa.specs.declared.instruction.Instr.{Instr}
use Rattle.v32_isa.specs.declared.instruction.Instr.TheVariants as instr
use Rattle.asm_items.specs.Items.{Imm}
use Rattle.asm_items.specs.declared.item.AsmItem.{AsmItem}
use Rattle.asm_items.specs.declared.item.AsmItem.TheVariants as item
use Rattle.asm_laws.specs.declared.copying.Copying.{Copying}
use Rattle.asm_laws.specs.Copies.{lead, is_put, source, source_put, move_item, move_items, block_of, back_items, copy_items}
use Rattle.asm_laws.specs.Asks.{is_unread}
use Rattle.mid_code.specs.declared.placed.Where.{Where}
use Rattle.mid_code.specs.declared.node.Op.{Op}
use Rattle.mid_code.specs.declared.node.Op.TheVariants as op
use Rattle.mid_code.specs.Code.{OpT, ConstO, NullO, MoveO, OneO, TwoO, GlobalO, LocalO, LiteralO, CardO, StepO, ApartO, PtrTestO, LoadO, StoreO, FreshO, EndO, InO, OutO, WaitO, HaltO, NodesT, Stop, Do, Call}
use Rattle.mid_code.specs.Functions.{op_before, NodeT, DoN, ChooseN, BlockN, LoopN, LeaveN, AgainN, ReturnN, ListT, NoN, MoreN, before, joined}
use Rattle.asm_laws.specs.declared.made.Made.{Made}
use Rattle.asm_laws.specs.Spare.{operand}
use Rattle.asm_laws.specs.Accesses.{accessed}
use Rattle.asm_laws.specs.Operations.{Frame, Whole, word_put, is_spared, with_known, with_next, with_access, in_one, put_items, puts_items, given_first, made_both, made_known, made_with, first_made, made_of, made_or}
use Rattle.asm_emit.specs.inner.Listed.{led_asked, front_summed, front_one, ahead_items, ahead_more, is_call, op_made, more_ahead, front_items, front_more, labels_due, led_ahead, led_behind, put_here, left_behind, puts_from, put_first, left_after, list_puts}

pub none_due : (k : Option ℕ) → labels_due k 0 ≡ 0
none_due None = refl
none_due (Some k) = refl

pub none_summed : (gs : List ℕ) (F : Frame) (c : NodesT Where) → front_summed gs F None c ≡ None
none_summed gs F (Do p c) = refl
none_summed gs F _ = refl

-- without a known word nothing is made of one
pub none_made : (F : Frame) (c : NodesT Where) → made_with F None c ≡ None
none_made F (Do (TwoO o t a b) c) = go (given_first c)
  where
    go : (p : Option Where) → made_known F p t None (operand o a b) ≡ None
    go None = refl
    go (Some p) = refl
none_made F _ = refl

both : {A : Type 0} (b : Bool) (x : A) → x ≡ cond b x x
both true x = refl
both false x = refl

none_known : (gs : List ℕ) (F : Frame) (put : Option (ℕ × ℕ)) → None ≡ cond (is_spared F put) (with_known gs F put None) None
none_known gs F None = refl
none_known gs F (Some (r, w)) = both (is_spared F (Some (r, w))) None

module _ (W : Whole) (F : Frame) where
  next_summed : (o : OpT Where) (c : NodesT Where) → with_next W F o c ≡ front_summed W.globals F (word_put W o) c
  next_summed o (Do p c) = refl
  next_summed o _ = none_known W.globals F (word_put W o)

  summed : (o : OpT Where) (c : NodesT Where) → in_one W F o c ≡ front_one W F (Do o Stop) c
  unfolding in_one
  summed o c = ap (λ x. with_access F (accessed F.lasting F.registers o c) x) (next_summed o c)

  -- what stands ahead, and how much is done with it
  abbrev pub led_front : Option (ℕ × Option (Instr Imm) × Instr Imm) → NodesT Where → NodesT Where → Option (ℕ × Copying) → List AsmItem
  led_front one first c None = ahead_items one
  led_front one first c (Some (j, y)) = puts_items W F y (led_asked F.lasting c y.one) first j ++ move_items y first

  abbrev pub led_count : Option (ℕ × Option (Instr Imm) × Instr Imm) → NodesT Where → Option (ℕ × Copying) → Option ℕ
  led_count one c None = ahead_more one
  led_count one c (Some (j, y)) = Some j

  record Fronts (first : NodesT Where) (made : Option (ℕ × Made)) (one : Option (ℕ × Option (Instr Imm) × Instr Imm)) (call : Bool) (c : NodesT Where) : Type 0 where
    items : (k : ℕ) → front_items W F first k ≡ cond (k == 0) (made_or F made (cond (is_unread first) [] (led_front one first c (lead first)))) []
    more : (k : ℕ) → front_more W F first k ≡ cond (k == 0) (more_ahead made (cond (is_unread first) (Some 0) (led_count one c (lead first)))) (cond call None (Some (k - 1)))

  led_same : (o : OpT Where) (c : NodesT Where) (x : Option (ℕ × Copying)) → led_ahead W F o c x ≡ led_front (front_one W F (Do o Stop) c) (Do o c) c x
  led_same o c None = ap ahead_items (summed o c)
  led_same o c (Some (j, y)) = refl

  count_same : (o : OpT Where) (c : NodesT Where) (x : Option (ℕ × Copying)) → led_behind W F o c x ≡ led_count (front_one W F (Do o Stop) c) c x
  count_same o c None = ap ahead_more (summed o c)
  count_same o c (Some (j, y)) = refl

  plain_fronts : (o : OpT Where) (c : NodesT Where) → Fronts (Do o c) (first_made (made_both o (given_first c)) (made_with F (word_put W o) c)) (front_one W F (Do o Stop) c) false c
  unfolding made_of
  plain_fronts o c = record {
    items = λ k. ap (λ r. cond (k == 0) (made_or F (first_made (made_both o (given_first c)) (made_with F (word_put W o) c)) (cond (is_unread (Do o c)) [] r)) []) (led_same o c (lead (Do o c)));
    more = λ k. ap (λ r. cond (k == 0) (more_ahead (first_made (made_both o (given_first c)) (made_with F (word_put W o) c)) (cond (is_unread (Do o c)) (Some 0) r)) (Some (k - 1))) (count_same o c (lead (Do o c)));
  }

  call_fronts : {t : Option Where} {f : ℕ} {args : List Where} (c : NodesT Where) → Fronts (Call t f args c) (made_with F None c) (front_summed W.globals F None c) true c
  unfolding lead is_unread
  call_fronts c =
      let m = sym (none_made F c) in
      let r = sym (none_summed W.globals F c) in
      record {
        items = λ k. both (k == 0) [] ∙ (λ i. cond (k == 0) (made_or F (m i) (ahead_items (r i))) []);
        more = λ k. both (k == 0) None ∙ (λ i. cond (k == 0) (more_ahead (m i) (ahead_more (r i))) None);
      }

  fronts : (o : Op Where) (c : NodesT Where) → Fronts (op_before o c) (op_made W F o c) (front_one W F (op_before o Stop) c) (is_call o) c
  fronts (op.Const t word) c = plain_fronts (ConstO t word) c
  fronts (op.Null t) c = plain_fronts (NullO t) c
  fronts (op.Move t a) c = plain_fronts (MoveO t a) c
  fronts (op.One o t a) c = plain_fronts (OneO o t a) c
  fronts (op.Two o t a b) c = plain_fronts (TwoO o t a b) c
  fronts (op.Global t k) c = plain_fronts (GlobalO t k) c
  fronts (op.Local t k) c = plain_fronts (LocalO t k) c
  fronts (op.Literal t k) c = plain_fronts (LiteralO t k) c
  fronts (op.Card t) c = plain_fronts (CardO t) c
  fronts (op.Step t p s) c = plain_fronts (StepO t p s) c
  fronts (op.Apart t p q) c = plain_fronts (ApartO t p q) c
  fronts (op.PtrTest o t p q) c = plain_fronts (PtrTestO o t p q) c
  fronts (op.Load t p) c = plain_fronts (LoadO t p) c
  fronts (op.Store p a) c = plain_fronts (StoreO p a) c
  fronts (op.Fresh k) c = plain_fronts (FreshO k) c
  fronts (op.End k) c = plain_fronts (EndO k) c
  fronts (op.Call t f args) c = call_fronts c
  fronts (op.In t p) c = plain_fronts (InO t p) c
  fronts (op.Out p a) c = plain_fronts (OutO p a) c
  fronts op.Wait c = plain_fronts WaitO c
  fronts op.Halt c = plain_fronts HaltO c

  pub items_of_front : (o : Op Where) (c : NodesT Where) (k : ℕ) → front_items W F (op_before o c) k ≡ cond (k == 0) (made_or F (op_made W F o c) (cond (is_unread (op_before o c)) [] (led_front (front_one W F (op_before o Stop) c) (op_before o c) c (lead (op_before o c))))) []
  items_of_front o c k = (fronts o c).items k

  pub more_of_front : (o : Op Where) (c : NodesT Where) (k : ℕ) → front_more W F (op_before o c) k ≡ cond (k == 0) (more_ahead (op_made W F o c) (cond (is_unread (op_before o c)) (Some 0) (led_count (front_one W F (op_before o Stop) c) c (lead (op_before o c))))) (cond (is_call o) None (Some (k - 1)))
  more_of_front o c k = (fronts o c).more k

  -- where its word is not asked for, none
  pub unread_front : (o : Op Where) (c : NodesT Where) (k : ℕ) → k ≡ 0 → op_made W F o c ≡ None → is_unread (op_before o c) ≡ true → front_items W F (op_before o c) k ≡ []
  unread_front o c k none made unread =
      items_of_front o c k
      ∙ (λ i. cond (none i == 0) (made_or F (made i) (cond (unread i) [] (led_front (front_one W F (op_before o Stop) c) (op_before o c) c (lead (op_before o c))))) [])

-- ---- words that are put into registers, one after another

not_zero : (k : ℕ) → (suc k == 0) ≡ false
not_zero k = grind (arith, nat_tests)

module _ (W : Whole) (F : Frame) (y : Copying) (asked : Bool) where
  plain_puts : (o : OpT Where) (c : NodesT Where) (k : ℕ) → puts_items W F y asked (Do o c) k ≡ cond (k == 0) [] (put_items W F y asked o) ++ puts_from (cond (k == 0) None (Some (k - 1))) (puts_items W F y asked c)
  plain_puts o c zero = refl
  plain_puts o c (suc k) =
      let b = not_zero k in
      let e : k ≡ suc k - 1 = omega arith in
      ap (λ j. put_items W F y asked o ++ puts_items W F y asked c j) e ∙ (λ i. cond (sym b i) [] (put_items W F y asked o) ++ puts_from (cond (sym b i) None (Some (suc k - 1))) (puts_items W F y asked c))

  call_puts : (c : NodesT Where) (k : ℕ) → [] ≡ cond (k == 0) [] ([]) ++ puts_from (cond (k == 0) None None) (puts_items W F y asked c)
  call_puts c k = go (k == 0)
    where
      go : (b : Bool) → [] ≡ cond b [] ([]) ++ puts_from (cond b None None) (puts_items W F y asked c)
      go true = refl
      go false = refl

  pub puts_on : (o : Op Where) (c : NodesT Where) (k : ℕ) → puts_items W F y asked (op_before o c) k ≡ put_here W F y asked o k ++ puts_from (left_behind o k) (puts_items W F y asked c)
  puts_on (op.Const t word) c k = plain_puts (ConstO t word) c k
  puts_on (op.Null t) c k = plain_puts (NullO t) c k
  puts_on (op.Move t a) c k = plain_puts (MoveO t a) c k
  puts_on (op.One o t a) c k = plain_puts (OneO o t a) c k
  puts_on (op.Two o t a b) c k = plain_puts (TwoO o t a b) c k
  puts_on (op.Global t j) c k = plain_puts (GlobalO t j) c k
  puts_on (op.Local t j) c k = plain_puts (LocalO t j) c k
  puts_on (op.Literal t j) c k = plain_puts (LiteralO t j) c k
  puts_on (op.Card t) c k = plain_puts (CardO t) c k
  puts_on (op.Step t p s) c k = plain_puts (StepO t p s) c k
  puts_on (op.Apart t p q) c k = plain_puts (ApartO t p q) c k
  puts_on (op.PtrTest o t p q) c k = plain_puts (PtrTestO o t p q) c k
  puts_on (op.Load t p) c k = plain_puts (LoadO t p) c k
  puts_on (op.Store p a) c k = plain_puts (StoreO p a) c k
  puts_on (op.Fresh j) c k = plain_puts (FreshO j) c k
  puts_on (op.End j) c k = plain_puts (EndO j) c k
  puts_on (op.Call t f args) c k = call_puts c k
  puts_on (op.In t p) c k = plain_puts (InO t p) c k
  puts_on (op.Out p a) c k = plain_puts (OutO p a) c k
  puts_on op.Wait c k = plain_puts WaitO c k
  puts_on op.Halt c k = plain_puts HaltO c k

  node_puts : (x : NodeT Where) (c : NodesT Where) (k : ℕ) → puts_items W F y asked (before x c) k ≡ put_first W F y asked x k ++ puts_from (left_after x k) (puts_items W F y asked c)
  node_puts (DoN o) c k = puts_on o c k
  node_puts (ChooseN p a b) c k = refl
  node_puts (BlockN b) c k = refl
  node_puts (LoopN b) c k = refl
  node_puts (LeaveN j) c k = refl
  node_puts (AgainN j) c k = refl
  node_puts (ReturnN p) c k = refl

  puts_are : (xs : ListT Where) (k : ℕ) → puts_items W F y asked (joined xs) k ≡ list_puts W F y asked xs k
  puts_are NoN k = refl
  puts_are (MoreN x rest) k = let on : (j : ℕ) → puts_items W F y asked (joined rest) j ≡ list_puts W F y asked rest j = puts_are rest in node_puts x (joined rest) k ∙ (λ i. put_first W F y asked x k ++ puts_from (left_after x k) (λ j. on j i))

  pub led_puts : (o : Op Where) (xs : ListT Where) (k : ℕ) → puts_items W F y asked (op_before o (joined xs)) k ≡ put_here W F y asked o k ++ puts_from (left_behind o k) (list_puts W F y asked xs)
  led_puts o xs k = let on : (j : ℕ) → puts_items W F y asked (joined xs) j ≡ list_puts W F y asked xs j = puts_are xs in puts_on o (joined xs) k ∙ (λ i. put_here W F y asked o k ++ puts_from (left_behind o k) (λ j. on j i))

  -- the items of the first one are added, and then those of the others
  pub led_all : (o : Op Where) (xs : ListT Where) (k n : ℕ) (a b d : List AsmItem) → b ≡ a ++ put_here W F y asked o k → left_behind o k ≡ Some n → d ≡ b ++ list_puts W F y asked xs n → d ≡ a ++ puts_items W F y asked (op_before o (joined xs)) k
  led_all o xs k n a b d first left more =
      more
      ∙ ap (λ z. z ++ list_puts W F y asked xs n) first
      ∙ append_assoc a (put_here W F y asked o k) (list_puts W F y asked xs n)
      ∙ ap (λ z. a ++ (put_here W F y asked o k ++ puts_from z (list_puts W F y asked xs))) (sym left)
      ∙ ap (λ z. a ++ z) (sym (led_puts o xs k))

-- a block move and what comes behind it
pub both_parts : (xs : List AsmItem) (y : Copying) (J : ℕ → Bool) → (xs ++ item.Op (instr.Plain (block_of y.from)) ∷ []) ++ back_items y.from y J ≡ xs ++ copy_items y J
both_parts xs y J = append_assoc xs (item.Op (instr.Plain (block_of y.from)) ∷ []) (back_items y.from y J)

-- what puts back four registers
pub four_parts : (xs a b c d : List AsmItem) → (((xs ++ a) ++ b) ++ c) ++ d ≡ xs ++ (a ++ (b ++ (c ++ d)))
four_parts xs a b c d = append_assoc ((xs ++ a) ++ b) c d ∙ append_assoc (xs ++ a) b (c ++ d) ∙ append_assoc xs a (b ++ (c ++ d))

-- what moves three words
pub three_parts : (xs : List AsmItem) (y : Copying) (c : NodesT Where) → ((xs ++ move_item (is_put y.to false c) 13 y.to) ++ move_item (source_put y.from false c) 12 (source y.from y)) ++ move_item (is_put y.count false c) 11 y.count ≡ xs ++ move_items y c
three_parts xs y c =
    let a = move_item (is_put y.to false c) 13 y.to in
    let b = move_item (source_put y.from false c) 12 (source y.from y) in
    let d = move_item (is_put y.count false c) 11 y.count in
    append_assoc (xs ++ a) b d ∙ append_assoc xs a (b ++ d)

-- words that are put, and those that are moved
pub two_parts : (xs a b : List AsmItem) → (xs ++ a) ++ b ≡ xs ++ (a ++ b)
two_parts = append_assoc
