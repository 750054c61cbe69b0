-- The items of nodes in memory are those of the plain nodes.
use Rattle.std.proofs.Common.{◌≡◌, ℕ, zero, suc, ◌+◌, ◌-◌, List, [], ◌∷◌, ◌++◌, refl, sym, ap, ◌∙◌, arith, inl, inr, Bool, true, false, cond, Option, Some, None, append_assoc}
use Rattle.std.specs.Prelude.{◌==◌, ◌&&◌}
use Rattle.std.proofs.lemmas.Bool.Decides.{nat_tests}
use Rattle.kit_base.specs.Word.{add}
use Rattle.v32_isa.specs.declared.instruction.Instr.{Instr}
use Rattle.asm_items.specs.declared.item.AsmItem.{AsmItem}
use Rattle.asm_items.specs.Items.{Imm}
use Rattle.mid_code.specs.declared.placed.Where.{Where}
use Rattle.mid_code.specs.declared.node.Op.{Op}
use Rattle.mid_code.specs.declared.node.Op.TheVariants as op
use Rattle.mid_code.specs.Code.{OpT, ConstO, NullO, MoveO, OneO, TwoO, GlobalO, LocalO, LiteralO, CardO, StepO, ApartO, PtrTestO, LoadO, StoreO, FreshO, EndO, InO, OutO, WaitO, HaltO, NodesT, Stop, Do, Call, Choose, Block, Loop, Leave, Again, Return}
use Rattle.mid_code.specs.Functions.{op_before, NodeT, DoN, ChooseN, BlockN, LoopN, LeaveN, AgainN, ReturnN, ListT, NoN, MoreN, before, joined}
use Rattle.asm_laws.specs.Operations.{Frame, Whole, puts_items, op_items, in_one, one_or_more, more_of, call_items, hand, brings, led_items, led_more, group_items, group_more, giving, made_of, made_or, made_more}
use Rattle.asm_laws.specs.declared.made.Made.{Made}
use Rattle.asm_laws.specs.declared.behind.Behind.{Behind}
use Rattle.asm_laws.specs.declared.behind.Behind.TheVariants.{Other, End, Turn}
use Rattle.asm_laws.specs.inner.Emitted.{labels, enclosing, jump, alone, left_to, ends, is_stop, choice, enclosed, left_by, items_past, code_items, inside, is_end, again, looped, is_round, is_tested, part_items, test_items, jump_when}
use Rattle.asm_laws.specs.declared.copying.Copying.{Copying}
use Rattle.asm_laws.specs.Copies.{ends_here, lead, move_items, copy_at, copy_or}
use Rattle.asm_laws.specs.Asks.{ask_of, ask_or, is_unread}
use Rattle.asm_laws.proofs.Asks.{ask_turn, ask_is}
use Rattle.asm_laws.specs.Live.{live_soon, ahead, asked_behind}
use Rattle.asm_laws.proofs.Leads.{copy_turn, fill_turn, copy_is}
use Rattle.asm_emit.specs.inner.Listed.{left_in, node_labels, list_labels, is_none, do_items, ahead_items, ahead_more, front_items, front_more, onward, node_items, list_past, list_items, is_call, round_in, tested_in, part_labels, own_test, list_test, list_part, led_ahead, led_behind, more_ahead, asked, led_asked, copied_own}

-- an operation before nodes is a node of its own, or a call
op_parts : (Q : NodesT Where → NodesT Where → Type 0) → ((o : OpT Where) (c : NodesT Where) → Q c (Do o c)) → ((t : Option Where) (f : ℕ) (args : List Where) (c : NodesT Where) → Q c (Call t f args c)) → (o : Op Where) (c : NodesT Where) → Q c (op_before o c)
op_parts Q one call (op.Const t word) c = one (ConstO t word) c
op_parts Q one call (op.Null t) c = one (NullO t) c
op_parts Q one call (op.Move t a) c = one (MoveO t a) c
op_parts Q one call (op.One o t a) c = one (OneO o t a) c
op_parts Q one call (op.Two o t a b) c = one (TwoO o t a b) c
op_parts Q one call (op.Global t k) c = one (GlobalO t k) c
op_parts Q one call (op.Local t k) c = one (LocalO t k) c
op_parts Q one call (op.Literal t k) c = one (LiteralO t k) c
op_parts Q one call (op.Card t) c = one (CardO t) c
op_parts Q one call (op.Step t p s) c = one (StepO t p s) c
op_parts Q one call (op.Apart t p q) c = one (ApartO t p q) c
op_parts Q one call (op.PtrTest o t p q) c = one (PtrTestO o t p q) c
op_parts Q one call (op.Load t p) c = one (LoadO t p) c
op_parts Q one call (op.Store p a) c = one (StoreO p a) c
op_parts Q one call (op.Fresh k) c = one (FreshO k) c
op_parts Q one call (op.End k) c = one (EndO k) c
op_parts Q one call (op.Call t f args) c = call t f args c
op_parts Q one call (op.In t p) c = one (InO t p) c
op_parts Q one call (op.Out p a) c = one (OutO p a) c
op_parts Q one call op.Wait c = one WaitO c
op_parts Q one call op.Halt c = one HaltO c

op_labels : (o : Op Where) (c : NodesT Where) → labels (op_before o c) ≡ labels c
op_labels o c = op_parts (λ c n. labels n ≡ labels c) (λ o c. refl) (λ t f args c. refl) o c

node_goes : (x : NodeT Where) (c : NodesT Where) → is_stop (before x c) ≡ false
node_goes (DoN o) c = op_parts (λ c n. is_stop n ≡ false) (λ o c. refl) (λ t f args c. refl) o c
node_goes (ChooseN p a b) c = refl
node_goes (BlockN b) c = refl
node_goes (LoopN b) c = refl
node_goes (LeaveN k) c = refl
node_goes (AgainN k) c = refl
node_goes (ReturnN p) c = refl

stops_alike : (xs : ListT Where) → is_stop (joined xs) ≡ is_none xs
stops_alike NoN = refl
stops_alike (MoreN x rest) = node_goes x (joined rest)

node_on : (x : NodeT Where) (c : NodesT Where) → ends_here (before x c) ≡ false
node_on (DoN o) c = op_parts (λ c n. ends_here n ≡ false) (λ o c. refl) (λ t f args c. refl) o c
node_on (ChooseN p a b) c = refl
node_on (BlockN b) c = refl
node_on (LoopN b) c = refl
node_on (LeaveN k) c = refl
node_on (AgainN k) c = refl
node_on (ReturnN p) c = refl

pub ends_alike : (xs : ListT Where) → ends_here (joined xs) ≡ is_none xs
ends_alike NoN = refl
ends_alike (MoreN x rest) = node_on x (joined rest)

left_none : (ls : List ℕ) (k : ℕ) (x : NodeT Where) (c : NodesT Where) → left_to ls (Leave k (before x c)) ≡ None
left_none ls k (DoN o) c = op_parts (λ c n. left_to ls (Leave k n) ≡ None) (λ o c. refl) (λ t f args c. refl) o c
left_none ls k (ChooseN p a b) c = refl
left_none ls k (BlockN b) c = refl
left_none ls k (LoopN b) c = refl
left_none ls k (LeaveN j) c = refl
left_none ls k (AgainN j) c = refl
left_none ls k (ReturnN p) c = refl

left_alike : (ls : List ℕ) (xs : ListT Where) → left_to ls (joined xs) ≡ left_in ls xs
left_alike ls NoN = refl
left_alike ls (MoreN (DoN o) rest) = op_parts (λ c n. left_to ls n ≡ None) (λ o c. refl) (λ t f args c. refl) o (joined rest)
left_alike ls (MoreN (ChooseN p a b) rest) = refl
left_alike ls (MoreN (BlockN b) rest) = refl
left_alike ls (MoreN (LoopN b) rest) = refl
left_alike ls (MoreN (LeaveN k) NoN) = refl
left_alike ls (MoreN (LeaveN k) (MoreN x rest)) = left_none ls k x (joined rest)
left_alike ls (MoreN (AgainN k) rest) = refl
left_alike ls (MoreN (ReturnN p) rest) = refl

-- ---- loops that are rotated

tested_op : (o : Op Where) (c : NodesT Where) → is_tested (op_before o c) ≡ cond (is_call o) false (is_tested c)
tested_op (op.Const t word) c = refl
tested_op (op.Null t) c = refl
tested_op (op.Move t a) c = refl
tested_op (op.One o t a) c = refl
tested_op (op.Two o t a b) c = refl
tested_op (op.Global t k) c = refl
tested_op (op.Local t k) c = refl
tested_op (op.Literal t k) c = refl
tested_op (op.Card t) c = refl
tested_op (op.Step t p s) c = refl
tested_op (op.Apart t p q) c = refl
tested_op (op.PtrTest o t p q) c = refl
tested_op (op.Load t p) c = refl
tested_op (op.Store p a) c = refl
tested_op (op.Fresh k) c = refl
tested_op (op.End k) c = refl
tested_op (op.Call t f args) c = refl
tested_op (op.In t p) c = refl
tested_op (op.Out p a) c = refl
tested_op op.Wait c = refl
tested_op op.Halt c = refl

none_round : (xs : ListT Where) → round_in xs ≡ cond (is_none xs) false (round_in xs)
none_round NoN = refl
none_round (MoreN x rest) = refl

round_op : (o : Op Where) (c : NodesT Where) → is_round (op_before o c) ≡ is_round c
round_op o c = op_parts (λ c n. is_round n ≡ is_round c) (λ o c. refl) (λ t f args c. refl) o c

round_alike : (xs : ListT Where) → is_round (joined xs) ≡ round_in xs
round_alike NoN = refl
round_alike (MoreN (DoN o) rest) = round_op o (joined rest) ∙ round_alike rest ∙ none_round rest
round_alike (MoreN (ChooseN p a b) rest) = round_alike rest ∙ none_round rest
round_alike (MoreN (BlockN b) rest) = round_alike rest ∙ none_round rest
round_alike (MoreN (LoopN b) rest) = round_alike rest ∙ none_round rest
round_alike (MoreN (LeaveN k) rest) = round_alike rest ∙ none_round rest
round_alike (MoreN (AgainN k) rest) = let st = stops_alike rest in let r = round_alike rest in λ i. cond (st i) (k == 0) (r i)
round_alike (MoreN (ReturnN p) rest) = round_alike rest ∙ none_round rest

tested_alike : (xs : ListT Where) → is_tested (joined xs) ≡ tested_in xs
tested_alike NoN = refl
tested_alike (MoreN (DoN o) rest) = tested_op o (joined rest) ∙ ap (λ b. cond (is_call o) false b) (tested_alike rest)
tested_alike (MoreN (ChooseN p a b) rest) = let sb = stops_alike b in let st = stops_alike rest in let r = round_alike a in λ i. sb i && (st i && r i)
tested_alike (MoreN (BlockN b) rest) = refl
tested_alike (MoreN (LoopN b) rest) = refl
tested_alike (MoreN (LeaveN k) rest) = refl
tested_alike (MoreN (AgainN k) rest) = refl
tested_alike (MoreN (ReturnN p) rest) = refl

no_labels : (xs : ListT Where) → is_none xs ≡ true → list_labels xs ≡ 0
no_labels NoN e = refl
no_labels (MoreN x rest) e = absurd cc

pub tested_labels : (xs : ListT Where) → tested_in xs ≡ true → list_labels xs ≡ 2 + part_labels xs
tested_labels NoN e = absurd cc
tested_labels (MoreN (DoN o) rest) e = let r = tested_labels rest (behind_op (is_call o) (tested_in rest) e) in omega (arith, r)
  where
    behind_op : (b c : Bool) → cond b false c ≡ true → c ≡ true
    behind_op true c e = absurd cc
    behind_op false c e = e
tested_labels (MoreN (ChooseN p a b) rest) e =
    let x = both (is_none b) (is_none rest && round_in a) e in
    let y = both (is_none rest) (round_in a) x.1 in
    let lb = no_labels b x.0 in
    let lr = no_labels rest y.0 in
    omega (arith, lb, lr)
  where
    both : (p q : Bool) → p && q ≡ true → (p ≡ true) × (q ≡ true)
    both true true e = (refl, refl)
    both true false e = absurd cc
    both false q e = absurd cc
tested_labels (MoreN (BlockN b) rest) e = absurd cc
tested_labels (MoreN (LoopN b) rest) e = absurd cc
tested_labels (MoreN (LeaveN k) rest) e = absurd cc
tested_labels (MoreN (AgainN k) rest) e = absurd cc
tested_labels (MoreN (ReturnN p) rest) e = absurd cc

mutual
  node_counts : (x : NodeT Where) (c : NodesT Where) → labels (before x c) ≡ node_labels x + labels c
  node_counts (DoN o) c = let e = op_labels o c in omega (arith, e)
  node_counts (ChooseN p a b) c = let e = list_counts a in let f = list_counts b in omega (arith, e, f)
  node_counts (BlockN b) c = let e = list_counts b in omega (arith, e)
  node_counts (LoopN b) c = let e = list_counts b in omega (arith, e)
  node_counts (LeaveN k) c = omega arith
  node_counts (AgainN k) c = omega arith
  node_counts (ReturnN p) c = omega arith

  pub list_counts : (xs : ListT Where) → labels (joined xs) ≡ list_labels xs
  list_counts NoN = refl
  list_counts (MoreN x rest) = let e = node_counts x (joined rest) in let f = list_counts rest in omega (arith, e, f)

asked_is : (h : List Bool) (c : NodesT Where) → live_soon ahead h c ≡ asked h c
unfolding asked
asked_is h c = refl

led_is : (h : List Bool) (c : NodesT Where) (r : ℕ) → asked_behind h c r ≡ led_asked h c r
unfolding led_asked asked
led_is h (Do o c) r = led_is h c r
led_is h (Loop b c) r = refl
led_is h Stop r = refl
led_is h (Call t f args c) r = refl
led_is h (Choose p a b c) r = refl
led_is h (Block b c) r = refl
led_is h (Leave k c) r = refl
led_is h (Again k c) r = refl
led_is h (Return p c) r = refl

not_zero : (k : ℕ) → (suc k == 0) ≡ false
not_zero k = grind (arith, nat_tests)

module _ (W : Whole) (F : Frame) (out : Option ℕ) where
  abbrev items : (last : Behind) → List ℕ → ℕ → NodesT Where → (done : ℕ) → List AsmItem
  items = items_past W F out

  nothing : (last : Behind) (ls : List ℕ) (n : ℕ) (c : NodesT Where) → items last ls n c 0 ≡ items last ls (n + 0) c 0
  nothing last ls n c = let z : n ≡ n + 0 = omega arith in ap (λ k. items last ls k c 0) z

  -- what comes of nodes whose first is a node with these items and so many labels
  abbrev On : (last : Behind) → NodesT Where → ℕ → List AsmItem → List ℕ → ℕ → ℕ → NodesT Where → List AsmItem
  On last first k own ls n m c = front_items W F first k ++ onward (front_more W F first k) own (items last ls n c) (items last ls (n + m) c 0)

  done_are : (o : OpT Where) (r : Option (ℕ × Option (Instr Imm) × Instr Imm)) (last : Behind) (ls : List ℕ) (n : ℕ) (c : NodesT Where) → one_or_more W F o r ++ items last ls n c (more_of r) ≡ ahead_items r ++ onward (ahead_more r) (op_items W F o) (items last ls n c) (items last ls (n + 0) c 0)
  done_are o None last ls n c = ap (λ xs. op_items W F o ++ xs) (nothing last ls n c)
  done_are o (Some (more, first, i)) last ls n c = refl

  plain_are : (o : OpT Where) (last : Behind) (ls : List ℕ) (n : ℕ) (c : NodesT Where) (k : ℕ) → items last ls n (Do o c) k ≡ On last (Do o c) k (op_items W F o) ls n 0 c
  plain_are o last ls n c zero = made_are (made_of W F o c)
    where
      led_are : (x : Option (ℕ × Copying)) → led_items W F o c x ++ items last ls n c (led_more W F o c x) ≡ led_ahead W F o c x ++ onward (led_behind W F o c x) (op_items W F o) (items last ls n c) (items last ls (n + 0) c 0)
      led_are None = done_are o (in_one W F o c) last ls n c
      led_are (Some (j, y)) = let e = led_is F.lasting c y.one in λ i. (puts_items W F y (e i) (Do o c) j ++ move_items y (Do o c)) ++ items last ls n c j

      unread_are : (b : Bool) → cond b [] (led_items W F o c (lead (Do o c))) ++ items last ls n c (cond b 0 (led_more W F o c (lead (Do o c)))) ≡ cond b [] (led_ahead W F o c (lead (Do o c))) ++ onward (cond b (Some 0) (led_behind W F o c (lead (Do o c)))) (op_items W F o) (items last ls n c) (items last ls (n + 0) c 0)
      unread_are true = refl
      unread_are false = led_are (lead (Do o c))

      made_are : (x : Option (ℕ × Made)) → made_or F x (group_items W F o c) ++ items last ls n c (made_more x (group_more W F o c)) ≡ made_or F x (cond (is_unread (Do o c)) [] (led_ahead W F o c (lead (Do o c)))) ++ onward (more_ahead x (cond (is_unread (Do o c)) (Some 0) (led_behind W F o c (lead (Do o c))))) (op_items W F o) (items last ls n c) (items last ls (n + 0) c 0)
      made_are None = unread_are (is_unread (Do o c))
      made_are (Some (k, y)) = refl
  plain_are o last ls n c (suc k) =
      let e : k ≡ suc k - 1 = omega arith in
      let b = not_zero k in
      ap (items last ls n c) e ∙ (λ i. cond (sym b i) (made_or F (made_of W F o c) (cond (is_unread (Do o c)) [] (led_ahead W F o c (lead (Do o c))))) [] ++ onward (cond (sym b i) (more_ahead (made_of W F o c) (cond (is_unread (Do o c)) (Some 0) (led_behind W F o c (lead (Do o c))))) (Some (suc k - 1))) (op_items W F o) (items last ls n c) (items last ls (n + 0) c 0))

  op_are : (o : Op Where) (last : Behind) (ls : List ℕ) (n : ℕ) (c : NodesT Where) (k : ℕ) → items last ls n (op_before o c) k ≡ On last (op_before o c) k (do_items W F o) ls n 0 c
  op_are (op.Const t word) last ls n c k = plain_are (ConstO t word) last ls n c k
  op_are (op.Null t) last ls n c k = plain_are (NullO t) last ls n c k
  op_are (op.Move t a) last ls n c k = plain_are (MoveO t a) last ls n c k
  op_are (op.One o t a) last ls n c k = plain_are (OneO o t a) last ls n c k
  op_are (op.Two o t a b) last ls n c k = plain_are (TwoO o t a b) last ls n c k
  op_are (op.Global t j) last ls n c k = plain_are (GlobalO t j) last ls n c k
  op_are (op.Local t j) last ls n c k = plain_are (LocalO t j) last ls n c k
  op_are (op.Literal t j) last ls n c k = plain_are (LiteralO t j) last ls n c k
  op_are (op.Card t) last ls n c k = plain_are (CardO t) last ls n c k
  op_are (op.Step t p s) last ls n c k = plain_are (StepO t p s) last ls n c k
  op_are (op.Apart t p q) last ls n c k = plain_are (ApartO t p q) last ls n c k
  op_are (op.PtrTest o t p q) last ls n c k = plain_are (PtrTestO o t p q) last ls n c k
  op_are (op.Load t p) last ls n c k = plain_are (LoadO t p) last ls n c k
  op_are (op.Store p a) last ls n c k = plain_are (StoreO p a) last ls n c k
  op_are (op.Fresh j) last ls n c k = plain_are (FreshO j) last ls n c k
  op_are (op.End j) last ls n c k = plain_are (EndO j) last ls n c k
  op_are (op.Call t f args) last ls n c k = ap (λ xs. call_items W F t f args ++ xs) (nothing last ls n c)
  op_are (op.In t p) last ls n c k = plain_are (InO t p) last ls n c k
  op_are (op.Out p a) last ls n c k = plain_are (OutO p a) last ls n c k
  op_are op.Wait last ls n c k = plain_are WaitO last ls n c k
  op_are op.Halt last ls n c k = plain_are HaltO last ls n c k

  abbrev tests : (to : ℕ) → NodesT Where → (done : ℕ) → List AsmItem
  tests = test_items W F out

  done_test : (o : OpT Where) (r : Option (ℕ × Option (Instr Imm) × Instr Imm)) (to : ℕ) (c : NodesT Where) → one_or_more W F o r ++ tests to c (more_of r) ≡ ahead_items r ++ onward (ahead_more r) (op_items W F o) (tests to c) (tests to c 0)
  done_test o None to c = refl
  done_test o (Some (more, first, i)) to c = refl

  -- what comes of nodes whose first is a node with these items
  abbrev Tests : NodesT Where → ℕ → List AsmItem → ℕ → NodesT Where → List AsmItem
  Tests first k own to c = front_items W F first k ++ onward (front_more W F first k) own (tests to c) (tests to c 0)

  plain_test : (o : OpT Where) (to : ℕ) (c : NodesT Where) (k : ℕ) → tests to (Do o c) k ≡ Tests (Do o c) k (op_items W F o) to c
  plain_test o to c zero = made_test (made_of W F o c)
    where
      led_test : (x : Option (ℕ × Copying)) → led_items W F o c x ++ tests to c (led_more W F o c x) ≡ led_ahead W F o c x ++ onward (led_behind W F o c x) (op_items W F o) (tests to c) (tests to c 0)
      led_test None = done_test o (in_one W F o c) to c
      led_test (Some (j, y)) = let e = led_is F.lasting c y.one in λ i. (puts_items W F y (e i) (Do o c) j ++ move_items y (Do o c)) ++ tests to c j

      unread_test : (b : Bool) → cond b [] (led_items W F o c (lead (Do o c))) ++ tests to c (cond b 0 (led_more W F o c (lead (Do o c)))) ≡ cond b [] (led_ahead W F o c (lead (Do o c))) ++ onward (cond b (Some 0) (led_behind W F o c (lead (Do o c)))) (op_items W F o) (tests to c) (tests to c 0)
      unread_test true = refl
      unread_test false = led_test (lead (Do o c))

      made_test : (x : Option (ℕ × Made)) → made_or F x (group_items W F o c) ++ tests to c (made_more x (group_more W F o c)) ≡ made_or F x (cond (is_unread (Do o c)) [] (led_ahead W F o c (lead (Do o c)))) ++ onward (more_ahead x (cond (is_unread (Do o c)) (Some 0) (led_behind W F o c (lead (Do o c))))) (op_items W F o) (tests to c) (tests to c 0)
      made_test None = unread_test (is_unread (Do o c))
      made_test (Some (k, y)) = refl
  plain_test o to c (suc k) =
      let e : k ≡ suc k - 1 = omega arith in
      let b = not_zero k in
      ap (tests to c) e ∙ (λ i. cond (sym b i) (made_or F (made_of W F o c) (cond (is_unread (Do o c)) [] (led_ahead W F o c (lead (Do o c))))) [] ++ onward (cond (sym b i) (more_ahead (made_of W F o c) (cond (is_unread (Do o c)) (Some 0) (led_behind W F o c (lead (Do o c))))) (Some (suc k - 1))) (op_items W F o) (tests to c) (tests to c 0))

  test_op : (o : Op Where) (to : ℕ) (c : NodesT Where) (k : ℕ) → tests to (op_before o c) k ≡ Tests (op_before o c) k (do_items W F o) to c
  test_op (op.Const t word) to c k = plain_test (ConstO t word) to c k
  test_op (op.Null t) to c k = plain_test (NullO t) to c k
  test_op (op.Move t a) to c k = plain_test (MoveO t a) to c k
  test_op (op.One o t a) to c k = plain_test (OneO o t a) to c k
  test_op (op.Two o t a b) to c k = plain_test (TwoO o t a b) to c k
  test_op (op.Global t i) to c k = plain_test (GlobalO t i) to c k
  test_op (op.Local t i) to c k = plain_test (LocalO t i) to c k
  test_op (op.Literal t i) to c k = plain_test (LiteralO t i) to c k
  test_op (op.Card t) to c k = plain_test (CardO t) to c k
  test_op (op.Step t p s) to c k = plain_test (StepO t p s) to c k
  test_op (op.Apart t p q) to c k = plain_test (ApartO t p q) to c k
  test_op (op.PtrTest o t p q) to c k = plain_test (PtrTestO o t p q) to c k
  test_op (op.Load t p) to c k = plain_test (LoadO t p) to c k
  test_op (op.Store p a) to c k = plain_test (StoreO p a) to c k
  test_op (op.Fresh i) to c k = plain_test (FreshO i) to c k
  test_op (op.End i) to c k = plain_test (EndO i) to c k
  test_op (op.Call t f args) to c k = refl
  test_op (op.In t p) to c k = plain_test (InO t p) to c k
  test_op (op.Out p a) to c k = plain_test (OutO p a) to c k
  test_op op.Wait to c k = plain_test WaitO to c k
  test_op op.Halt to c k = plain_test HaltO to c k

  node_test : (x : NodeT Where) (to : ℕ) (c : NodesT Where) (k : ℕ) → tests to (before x c) k ≡ Tests (before x c) k (own_test W F to x) to c
  node_test (DoN o) to c k = test_op o to c k
  node_test (ChooseN p a b) to c k = sym (append_assoc (brings F p 9) (jump_when (hand p 9) to ∷ []) (tests to c 0))
  node_test (BlockN b) to c k = refl
  node_test (LoopN b) to c k = refl
  node_test (LeaveN j) to c k = refl
  node_test (AgainN j) to c k = refl
  node_test (ReturnN p) to c zero = refl
  node_test (ReturnN p) to c (suc k) = let b = not_zero k in λ i. cond (sym b i) (giving F p) [] ++ tests to c 0

  test_are : (to : ℕ) (xs : ListT Where) (k : ℕ) → tests to (joined xs) k ≡ list_test W F to xs k
  test_are to NoN k = refl
  test_are to (MoreN x rest) k =
      let first = before x (joined rest) in
      let on : (j : ℕ) → tests to (joined rest) j ≡ list_test W F to rest j = test_are to rest in
      node_test x to (joined rest) k ∙ (λ i. front_items W F first k ++ onward (front_more W F first k) (own_test W F to x) (λ j. on j i) (on 0 i))

  part_op : (o : Op Where) (ls : List ℕ) (n : ℕ) (c : NodesT Where) → part_items W F out ls n (op_before o c) ≡ part_items W F out ls n c
  part_op o ls n c = op_parts (λ c m. part_items W F out ls n m ≡ part_items W F out ls n c) (λ o c. refl) (λ t f args c. refl) o c

  mutual
    node_are : (x : NodeT Where) (last : Behind) (ls : List ℕ) (n : ℕ) (c : NodesT Where) (k : ℕ) → items last ls n (before x c) k ≡ On last (before x c) k (copied_own k x (asked F.lasting c) (node_items W F out (ends last c) ls n x)) ls n (node_labels x) c
    node_are (DoN o) last ls n c k = op_are o last ls n c k
    node_are (ChooseN p a b) last ls n c k =
        let la = list_counts a in
        let lb = list_counts b in
        let one = past_are a (ends last c) ls (n + 1) 0 in
        let first = past_are a Other ls (n + 1) 0 in
        let le = left_alike ls a in
        let two = past_are b (ends last c) ls (n + 1 + list_labels a + 1) 0 in
        let st = stops_alike b in
        (λ i. cond (st i) (alone F p n (le i) (items (ends last c) ls (n + 1) (joined a) 0)) (choice F p n (n + 1 + la i) (items Other ls (n + 1) (joined a) 0) (items (ends last c) ls (n + 1 + la i + 1) (joined b) 0)) ++ items last ls (n + (2 + la i + lb i)) c 0)
        ∙ (λ i. cond (is_none b) (alone F p n (left_in ls a) (one i)) (choice F p n (n + 1 + list_labels a) (first i) (two i)) ++ items last ls (n + (2 + list_labels a + list_labels b)) c 0)
    node_are (BlockN b) last ls n c k =
        let lb = list_counts b in
        let one = past_are b (inside (ends last c)) (ls ++ n ∷ []) (n + 2) 0 in
        λ i. enclosed n (one i) ++ items last ls (n + (2 + lb i)) c 0
    node_are (LoopN b) last ls n c k =
        let lb = list_counts b in
        let te = tested_alike b in
        let all = past_are b (inside (ends last c)) (ls ++ n ∷ []) (n + 2) 0 in
        let part = part_are b (ls ++ n ∷ []) (n + 2) in
        let test = test_are (n + 2) b 0 in
        let as_asked = asked_is F.lasting c in
        λ i. ask_or (ask_of (joined b)) (as_asked i) (copy_or (copy_at k (joined b)) (as_asked i) (looped (te i) n (all i) (part i) (test i))) ++ items last ls (n + (2 + lb i)) c 0
    node_are (LeaveN j) last ls n c k = ap (λ xs. jump (add (enclosing ls j) 1) ∷ xs) (nothing last ls n c)
    node_are (AgainN j) last ls n c k = ap (λ xs. again ls j (ends last c) ++ xs) (nothing last ls n c)
    node_are (ReturnN p) last ls n c zero = ap (λ xs. giving F p ++ (left_by F out (is_end (ends last c)) ++ xs)) (nothing last ls n c)
    node_are (ReturnN p) last ls n c (suc k) =
        let b = not_zero k in
        ap (λ xs. left_by F out (is_end (ends last c)) ++ xs) (nothing last ls n c) ∙ (λ i. cond (sym b i) (giving F p) [] ++ (left_by F out (is_end (ends last c)) ++ items last ls (n + 0) c 0))

    past_are : (xs : ListT Where) (last : Behind) (ls : List ℕ) (n k : ℕ) → items last ls n (joined xs) k ≡ list_past W F out last ls n xs k
    past_are NoN last ls n k = refl
    past_are (MoreN x rest) last ls n k =
        let first = before x (joined rest) in
        let on : (j : ℕ) → items last ls n (joined rest) j ≡ list_past W F out last ls n rest j = past_are rest last ls n in
        let anew = past_are rest last ls (n + node_labels x) 0 in
        let st = stops_alike rest in
        node_are x last ls n (joined rest) k ∙ (λ i. front_items W F first k ++ onward (front_more W F first k) (copied_own k x (asked F.lasting (joined rest)) (node_items W F out (cond (st i) last Other) ls n x)) (λ j. on j i) (anew i))

    part_are : (xs : ListT Where) (ls : List ℕ) (n : ℕ) → part_items W F out ls n (joined xs) ≡ list_part W F out ls n xs
    part_are NoN ls n = refl
    part_are (MoreN (DoN o) rest) ls n = part_op o ls n (joined rest) ∙ part_are rest ls n
    part_are (MoreN (ChooseN p a b) rest) ls n = past_are a Turn ls (n + 1) 0
    part_are (MoreN (BlockN b) rest) ls n = refl
    part_are (MoreN (LoopN b) rest) ls n = refl
    part_are (MoreN (LeaveN k) rest) ls n = refl
    part_are (MoreN (AgainN k) rest) ls n = refl
    part_are (MoreN (ReturnN p) rest) ls n = refl

  pub list_are : (xs : ListT Where) (ls : List ℕ) (n : ℕ) → code_items W F out ls n (joined xs) ≡ list_items W F out ls n xs
  list_are xs ls n = past_are xs End ls n 0

-- nodes that only leave a block or loop take no labels
pub left_labels : (ls : List ℕ) (xs : ListT Where) (l : ℕ) → left_in ls xs ≡ Some l → list_labels xs ≡ 0
left_labels ls (MoreN (LeaveN k) NoN) l e = refl
left_labels ls _ l e = absurd cc

-- the turns of loops that copy words have two labels
pub copied_labels : (done : ℕ) (xs : ListT Where) (y : Copying) → copy_at done (joined xs) ≡ Some y → list_labels xs ≡ 2
copied_labels zero xs y e = absurd cc
copied_labels (suc done) xs y e =
    let r = list_counts xs in
    elim (copy_is (joined xs) y e) [
      | inl q ↦ let l : labels (joined xs) ≡ labels (copy_turn q.registers) = ap labels q.nodes in omega (arith, l, r)
      | inr q ↦ let l : labels (joined xs) ≡ labels (fill_turn q.registers) = ap labels q.nodes in omega (arith, l, r)
    ]

pub loop_labels : (done : ℕ) (x : NodeT Where) (b : ListT Where) (y : Copying) → x ≡ LoopN b → copy_at done (joined b) ≡ Some y → node_labels x ≡ 4
loop_labels done x b y e f = ap node_labels e ∙ (let r = copied_labels done b y f in omega (arith, r))

-- so do those of loops that only ask for a turn
pub asked_labels : (x : NodeT Where) (b : ListT Where) (f : ℕ) → x ≡ LoopN b → ask_of (joined b) ≡ Some f → node_labels x ≡ 4
asked_labels x b f e q =
    let r = list_counts b in
    let l : labels (joined b) ≡ labels (ask_turn f) = ap labels (ask_is (joined b) f q).0 in
    ap node_labels e ∙ omega (arith, l, r)
