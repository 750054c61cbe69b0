-- Items do not depend on the frames of functions that are not there.
use Rattle.std.proofs.Common.{◌≡◌, ℕ, zero, suc, ◌+◌, ◌<◌, Bool, true, false, cond, List, [], ◌∷◌, ◌++◌, length, Option, Some, None, refl, ap, ◌∙◌, arith}
use Rattle.kit_base.specs.Word.{add}
use Rattle.v32_isa.specs.declared.instruction.Instr.{Instr}
use Rattle.asm_items.specs.declared.item.AsmItem.{AsmItem}
use Rattle.asm_items.specs.declared.item.AsmItem.TheVariants as item
use Rattle.asm_items.specs.Items.{Imm}
use Rattle.mid_code.specs.declared.placed.Where.{Where}
use Rattle.mid_code.specs.declared.placed.Where.TheVariants.{Reg}
use Rattle.mid_code.specs.Code.{OpT, ConstO, NullO, MoveO, OneO, TwoO, GlobalO, LocalO, LiteralO, CardO, StepO, ApartO, PtrTestO, LoadO, StoreO, FreshO, EndO, InO, OutO, WaitO, HaltO, NodesT, Stop, Do, Call, Choose, Block, Loop, Leave, Again, Return, FunctionT, CodeT}
use Rattle.mid_code.specs.Invariants.{AreNodes, AllOf}
use Rattle.asm_laws.specs.Names.{function_label}
use Rattle.asm_laws.specs.Live.{asked_behind}
use Rattle.asm_laws.specs.Accesses.{accessed}
use Rattle.asm_laws.specs.Operations.{unless_left, Frame, Whole, hand, brings, op_items, word_put, with_more, with_next, with_access, in_one, one_or_more, more_of, call_items, args_items, keeps_some, start_frame, literals_items, word_items, put_items, puts_items, led_items, led_more, group_items, group_more, giving_left, given_first, made_both, made_with, first_made, made_of, made_or, made_more, next_items, next_more}
use Rattle.asm_laws.specs.declared.behind.Behind.{Behind}
use Rattle.asm_laws.specs.declared.behind.Behind.TheVariants.{Other, End, Turn}
use Rattle.asm_laws.specs.inner.Emitted.{labels, enclosing, jump, choice, alone, left_to, ends, is_stop, enclosed, left_by, items_past, code_items, function_items, functions_items, call_item, exit_items, closing_items, program_items, inside, is_end, again, looped, is_tested, part_items, test_items, jump_when}
use Rattle.asm_laws.specs.Framing.{frame_made}
use Rattle.asm_laws.specs.declared.copying.Copying.{Copying}
use Rattle.asm_laws.specs.Copies.{put_into, lead, move_items, copy_at, copy_or}
use Rattle.asm_laws.specs.Asks.{ask_of, ask_or, is_unread}
use Rattle.asm_laws.specs.Live.{live_soon, ahead}
use Rattle.asm_laws.proofs.Known.{function_there}

-- with other frames
abbrev pub framed : Whole → (ℕ → Frame) → Whole
framed W frames = record W { frames = frames }

op_same : (W : Whole) (fr : ℕ → Frame) (F : Frame) (o : OpT Where) → op_items (framed W fr) F o ≡ op_items W F o
unfolding op_items
op_same W fr F (ConstO t n) = refl
op_same W fr F (NullO t) = refl
op_same W fr F (MoveO t a) = refl
op_same W fr F (OneO o t a) = refl
op_same W fr F (TwoO o t a b) = refl
op_same W fr F (GlobalO t k) = refl
op_same W fr F (LocalO t k) = refl
op_same W fr F (LiteralO t k) = refl
op_same W fr F (CardO t) = refl
op_same W fr F (StepO t p n) = refl
op_same W fr F (ApartO t p q) = refl
op_same W fr F (PtrTestO o t p q) = refl
op_same W fr F (LoadO t p) = refl
op_same W fr F (StoreO p a) = refl
op_same W fr F (FreshO k) = refl
op_same W fr F (EndO k) = refl
op_same W fr F (InO t port) = refl
op_same W fr F (OutO port a) = refl
op_same W fr F WaitO = refl
op_same W fr F HaltO = refl

put_same : (W : Whole) (fr : ℕ → Frame) (o : OpT Where) → word_put (framed W fr) o ≡ word_put W o
put_same W fr (ConstO (Reg r) n) = refl
put_same W fr (GlobalO (Reg r) k) = refl
put_same W fr _ = refl

with_next_same : (W : Whole) (fr : ℕ → Frame) (F : Frame) (o : OpT Where) (c : NodesT Where) → with_next (framed W fr) F o c ≡ with_next W F o c
with_next_same W fr F o (Do p c) = ap (λ s. with_more W.globals F s p c) (put_same W fr o)
with_next_same W fr F o _ = refl

in_one_same : (W : Whole) (fr : ℕ → Frame) (F : Frame) (o : OpT Where) (c : NodesT Where) → in_one (framed W fr) F o c ≡ in_one W F o c
unfolding in_one
in_one_same W fr F o c = ap (λ x. with_access F (accessed F.lasting F.registers o c) x) (with_next_same W fr F o c)

one_same : (W : Whole) (fr : ℕ → Frame) (F : Frame) (o : OpT Where) (r : Option (ℕ × Option (Instr Imm) × Instr Imm)) → one_or_more (framed W fr) F o r ≡ one_or_more W F o r
one_same W fr F o None = op_same W fr F o
one_same W fr F o (Some (more, first, i)) = refl

word_items_same : (W : Whole) (fr : ℕ → Frame) (F : Frame) (y : Copying) (o : OpT Where) → word_items (framed W fr) F y o ≡ word_items W F y o
word_items_same W fr F y (ConstO (Reg r) n) = refl
word_items_same W fr F y (GlobalO (Reg r) k) = refl
word_items_same W fr F y (LocalO (Reg r) k) = refl
word_items_same W fr F y (MoveO (Reg r) p) = refl
word_items_same W fr F y _ = refl

put_items_same : (W : Whole) (fr : ℕ → Frame) (F : Frame) (y : Copying) (J : Bool) (o : OpT Where) → put_items (framed W fr) F y J o ≡ put_items W F y J o
put_items_same W fr F y J o = ap (unless_left y J (put_into o)) (word_items_same W fr F y o)

puts_same : (W : Whole) (fr : ℕ → Frame) (F : Frame) (y : Copying) (J : Bool) (c : NodesT Where) (k : ℕ) → puts_items (framed W fr) F y J c k ≡ puts_items W F y J c k
puts_same W fr F y J (Do o c) (suc k) = let p = put_items_same W fr F y J o in let q = puts_same W fr F y J c k in λ i. p i ++ q i
puts_same W fr F y J (Do o c) zero = refl
puts_same W fr F y J Stop k = refl
puts_same W fr F y J (Call t g args c) k = refl
puts_same W fr F y J (Choose p a b c) k = refl
puts_same W fr F y J (Block b c) k = refl
puts_same W fr F y J (Loop b c) k = refl
puts_same W fr F y J (Leave j c) k = refl
puts_same W fr F y J (Again j c) k = refl
puts_same W fr F y J (Return p c) k = refl

group_same : (W : Whole) (fr : ℕ → Frame) (F : Frame) (o : OpT Where) (c : NodesT Where) → group_items (framed W fr) F o c ≡ group_items W F o c
group_same W fr F o c = ap (λ xs. cond (is_unread (Do o c)) [] xs) (go (lead (Do o c)))
  where
    go : (x : Option (ℕ × Copying)) → led_items (framed W fr) F o c x ≡ led_items W F o c x
    go None = ap (one_or_more (framed W fr) F o) (in_one_same W fr F o c) ∙ one_same W fr F o (in_one W F o c)
    go (Some (k, y)) = ap (λ xs. xs ++ move_items y (Do o c)) (puts_same W fr F y (asked_behind F.lasting c y.one) (Do o c) k)

more_same : (W : Whole) (fr : ℕ → Frame) (F : Frame) (o : OpT Where) (c : NodesT Where) → group_more (framed W fr) F o c ≡ group_more W F o c
more_same W fr F o c = ap (λ k. cond (is_unread (Do o c)) 0 k) (go (lead (Do o c)))
  where
    go : (x : Option (ℕ × Copying)) → led_more (framed W fr) F o c x ≡ led_more W F o c x
    go None = ap more_of (in_one_same W fr F o c)
    go (Some (k, y)) = refl

made_same : (W : Whole) (fr : ℕ → Frame) (F : Frame) (o : OpT Where) (c : NodesT Where) → made_of (framed W fr) F o c ≡ made_of W F o c
unfolding made_of
made_same W fr F o c = ap (λ s. first_made (made_both o (given_first c)) (made_with F s c)) (put_same W fr o)

next_same : (W : Whole) (fr : ℕ → Frame) (F : Frame) (o : OpT Where) (c : NodesT Where) → next_items (framed W fr) F o c ≡ next_items W F o c
next_same W fr F o c = let m = made_same W fr F o c in let g = group_same W fr F o c in λ i. made_or F (m i) (g i)

next_more_same : (W : Whole) (fr : ℕ → Frame) (F : Frame) (o : OpT Where) (c : NodesT Where) → next_more (framed W fr) F o c ≡ next_more W F o c
next_more_same W fr F o c = let m = made_same W fr F o c in let g = more_same W fr F o c in λ i. made_more (m i) (g i)

module _ (x : CodeT Where) (W : Whole) (fr : ℕ → Frame) (same : (g : ℕ) → g < length x.functions → fr g ≡ W.frames g) where
  call_same : (F : Frame) (t : Option Where) (g : ℕ) (args : List Where) → g < length x.functions → call_items (framed W fr) F t g args ≡ call_items W F t g args
  call_same F t g args lt = ap (λ G. args_items F G (W.params g) args ++ call_item W g ∷ keeps_some F t) (same g lt)

  test_same : (m : ℕ) (F : Frame) (out : Option ℕ) (to : ℕ) (c : NodesT Where) (done : ℕ) (bs : List Bool) → AreNodes x m bs c → test_items (framed W fr) F out to c done ≡ test_items W F out to c done
  test_same m F out to (Do o c) zero bs ok =
      let g = next_same W fr F o c in
      let k = next_more_same W fr F o c in
      let rest = test_same m F out to c (next_more W F o c) bs ok.1 in
      (λ i. g i ++ test_items (framed W fr) F out to c (k i)) ∙ ap (λ y. next_items W F o c ++ y) rest
  test_same m F out to (Do o c) (suc done) bs ok = test_same m F out to c done bs ok.1
  test_same m F out to (Choose p a b c) done bs ok = ap (λ y. brings F p 9 ++ jump_when (hand p 9) to ∷ y) (test_same m F out to c 0 bs ok.2)
  test_same m F out to Stop done bs ok = refl
  test_same m F out to (Call t g args c) done bs ok = let p = call_same F t g args (function_there x g (length args) ok.0) in let q = test_same m F out to c 0 bs ok.1 in λ i. p i ++ q i
  test_same m F out to (Block b c) done bs ok = test_same m F out to c 0 bs ok.1
  test_same m F out to (Loop b c) done bs ok = test_same m F out to c 0 bs ok.1
  test_same m F out to (Leave k c) done bs ok = test_same m F out to c 0 bs ok.1
  test_same m F out to (Again k c) done bs ok = test_same m F out to c 0 bs ok.1
  test_same m F out to (Return p c) done bs ok = ap (λ y. giving_left F p done ++ y) (test_same m F out to c 0 bs ok)

  mutual
    past_same : (m : ℕ) (F : Frame) (out : Option ℕ) (c : NodesT Where) (done : ℕ) (last : Behind) (bs : List Bool) (ls : List ℕ) (n : ℕ) → AreNodes x m bs c → items_past (framed W fr) F out last ls n c done ≡ items_past W F out last ls n c done
    past_same m F out Stop done last bs ls n ok = refl
    past_same m F out (Do o c) zero last bs ls n ok =
        let g = next_same W fr F o c in
        let k = next_more_same W fr F o c in
        let rest = past_same m F out c (next_more W F o c) last bs ls n ok.1 in
        (λ i. g i ++ items_past (framed W fr) F out last ls n c (k i)) ∙ ap (λ y. next_items W F o c ++ y) rest
    past_same m F out (Do o c) (suc done) last bs ls n ok = past_same m F out c done last bs ls n ok.1
    past_same m F out (Call t g args c) done last bs ls n ok = let p = call_same F t g args (function_there x g (length args) ok.0) in let q = past_same m F out c 0 last bs ls n ok.1 in λ i. p i ++ q i
    past_same m F out (Choose p a b c) done last bs ls n ok =
        let one = past_same m F out a 0 (ends last c) bs ls (n + 1) ok.0 in
        let first = past_same m F out a 0 Other bs ls (n + 1) ok.0 in
        let two = past_same m F out b 0 (ends last c) bs ls (n + 1 + labels a + 1) ok.1 in
        let rest = past_same m F out c 0 last bs ls (n + (2 + labels a + labels b)) ok.2 in
        λ i. cond (is_stop b) (alone F p n (left_to ls a) (one i)) (choice F p n (n + 1 + labels a) (first i) (two i)) ++ rest i
    past_same m F out (Block b c) done last bs ls n ok = let p = past_same m F out b 0 (inside (ends last c)) (false ∷ bs) (ls ++ n ∷ []) (n + 2) ok.0 in let q = past_same m F out c 0 last bs ls (n + (2 + labels b)) ok.1 in λ i. enclosed n (p i) ++ q i
    past_same m F out (Loop b c) done last bs ls n ok =
        let p = past_same m F out b 0 (inside (ends last c)) (true ∷ bs) (ls ++ n ∷ []) (n + 2) ok.0 in
        let part = part_same m F out b (true ∷ bs) (ls ++ n ∷ []) (n + 2) ok.0 in
        let test = test_same m F out (n + 2) b 0 (true ∷ bs) ok.0 in
        let q = past_same m F out c 0 last bs ls (n + (2 + labels b)) ok.1 in
        λ i. ask_or (ask_of b) (live_soon ahead F.lasting c) (copy_or (copy_at done b) (live_soon ahead F.lasting c) (looped (is_tested b) n (p i) (part i) (test i))) ++ q i
    past_same m F out (Leave k c) done last bs ls n ok = ap (λ y. jump (add (enclosing ls k) 1) ∷ y) (past_same m F out c 0 last bs ls n ok.1)
    past_same m F out (Again k c) done last bs ls n ok = ap (λ y. again ls k (ends last c) ++ y) (past_same m F out c 0 last bs ls n ok.1)
    past_same m F out (Return p c) done last bs ls n ok = ap (λ y. giving_left F p done ++ (left_by F out (is_end (ends last c)) ++ y)) (past_same m F out c 0 last bs ls n ok)

    part_same : (m : ℕ) (F : Frame) (out : Option ℕ) (c : NodesT Where) (bs : List Bool) (ls : List ℕ) (n : ℕ) → AreNodes x m bs c → part_items (framed W fr) F out ls n c ≡ part_items W F out ls n c
    part_same m F out (Do o c) bs ls n ok = part_same m F out c bs ls n ok.1
    part_same m F out (Choose p a b c) bs ls n ok = past_same m F out a 0 Turn bs ls (n + 1) ok.0
    part_same m F out Stop bs ls n ok = refl
    part_same m F out (Call t g args c) bs ls n ok = part_same m F out c bs ls n ok.1
    part_same m F out (Block b c) bs ls n ok = refl
    part_same m F out (Loop b c) bs ls n ok = refl
    part_same m F out (Leave k c) bs ls n ok = refl
    part_same m F out (Again k c) bs ls n ok = refl
    part_same m F out (Return p c) bs ls n ok = refl

  pub code_same : (m : ℕ) (F : Frame) (out : Option ℕ) (c : NodesT Where) (bs : List Bool) (ls : List ℕ) (n : ℕ) → AreNodes x m bs c → code_items (framed W fr) F out ls n c ≡ code_items W F out ls n c
  code_same m F out c bs ls n ok = past_same m F out c 0 End bs ls n ok

  abbrev own_of : (f n : ℕ) → Frame → List AsmItem → List AsmItem
  own_of f n F body = item.Label (function_label W.names f) ∷ (frame_made F.size ++ (body ++ exit_items n F))

  function_same : (f n : ℕ) (g : FunctionT Where) → f < length x.functions → AreNodes x (length g.locals) [] g.body → function_items (framed W fr) f n g.body ≡ function_items W f n g.body
  function_same f n g lt ok =
      ap (λ F. own_of f n F (code_items (framed W fr) F None [] (n + 1) g.body)) (same f lt) ∙ ap (own_of f n (W.frames f)) (code_same (length g.locals) (W.frames f) None g.body [] [] (n + 1) ok)

  functions_same : (f n : ℕ) (gs : List (FunctionT Where)) → f + length gs ≡ length x.functions → AllOf (λ g. AreNodes x (length g.locals) [] g.body) gs → functions_items (framed W fr) f n gs ≡ functions_items W f n gs
  functions_same f n [] count ok = refl
  functions_same f n (g ∷ gs) count ok =
      let p = function_same f n g (omega (arith, count)) ok.0 in let q = functions_same (f + 1) (n + 1 + labels g.body) gs (omega (arith, count)) ok.1 in λ i. p i ++ q i

  pub program_same : AreNodes x (length x.start.locals) [] x.start.body → AllOf (λ g. AreNodes x (length g.locals) [] g.body) x.functions → program_items (framed W fr) x ≡ program_items W x
  program_same ok each =
      let p = code_same (length x.start.locals) start_frame (Some 0) x.start.body [] [] 1 ok in
      let q = functions_same 0 (1 + labels x.start.body) x.functions (omega arith) each in
      λ i. (p i ++ closing_items W x.main) ++ (q i ++ literals_items 0 x.literals)
