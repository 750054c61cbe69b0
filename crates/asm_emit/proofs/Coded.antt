-- No datum stands among the items of a function.
use Rattle.std.proofs.Common.{ℕ, zero, suc, ◌+◌, Bool, true, false, List, [], ◌∷◌, ◌++◌, Option, Some, None}
use Rattle.std.specs.Prelude.{◌==◌, cond, ◌&&◌}
use Rattle.std.specs.List.{AllByRecursion}
use Rattle.either.specs.declared.Either.TheVariants.{Left}
use Rattle.v32_isa.specs.declared.instruction.Plain.TheVariants.{RET}
use Rattle.v32_isa.specs.declared.instruction.One.{One}
use Rattle.v32_isa.specs.declared.instruction.Mov.TheVariants.{RegImm, RegAt, RegAtOff, AtReg, AtOffReg}
use Rattle.v32_isa.specs.declared.instruction.Two.{Two}
use Rattle.v32_isa.specs.declared.instruction.Two.TheVariants.{IADD, ISUB}
use Rattle.v32_isa.specs.declared.instruction.Src.TheVariants as src
use Rattle.v32_isa.specs.declared.instruction.Instr.{Instr}
use Rattle.v32_isa.specs.declared.instruction.Instr.TheVariants as instr
use Rattle.asm_items.specs.Items.{Imm}
use Rattle.asm_items.specs.declared.item.AsmItem.{AsmItem}
use Rattle.asm_items.specs.declared.item.AsmItem.TheVariants as item
use Rattle.mid_code.specs.declared.placed.Where.{Where}
use Rattle.mid_code.specs.declared.placed.Where.TheVariants.{Reg, Slot}
use Rattle.mid_code.specs.Code.{OpT, ConstO, NullO, MoveO, OneO, TwoO, GlobalO, LocalO, LiteralO, CardO, StepO, ApartO, PtrTestO, LoadO, StoreO, FreshO, EndO, InO, OutO, WaitO, HaltO, NodesT, Stop, Do, Call, Choose, Block, Loop, Leave, Again, Return}
use Rattle.asm_laws.specs.Moves.{Move, in_order}
use Rattle.asm_laws.specs.Operations.{Frame, Whole, keep, fetches, keeps, keeps_some, hand, brings, takes, aim, lays, moves, changes, is_direct, in_place, apart, is_turned, turned_or_apart, computes, slot_arg, slot_args, moved_items, args_items, call_items, op_items, in_one, one_or_more, giving, word_items, put_items, puts_items, group_items, giving_left, next_items, next_more}
use Rattle.asm_laws.specs.Pieces.{register, is_in, turned}
use Rattle.asm_laws.specs.Framing.{frame_made, frame_gone}
use Rattle.asm_laws.specs.declared.behind.Behind.{Behind}
use Rattle.asm_laws.specs.declared.behind.Behind.TheVariants.{Other, End, Turn}
use Rattle.asm_laws.specs.inner.Emitted.{labels, jump, jump_unless, mark, first_part, second_part, choice, alone, left_to, ends, jump_when, is_stop, enclosed, leaving, left_by, items_past, code_items, call_item, own_items, exit_items, inside, is_end, is_turn, again, rotated, looped, is_tested, part_items, test_items, enclosing}
use Rattle.asm_emit.specs.EmittedFrom.{IsCode}
use Rattle.asm_laws.specs.declared.copying.Copying.{Copying}
use Rattle.asm_laws.specs.Asks.{ask_of, ask_or}
use Rattle.asm_laws.specs.Copies.{put_into, goes_to, move_items, copy_items, copy_at, copy_or}
use Rattle.asm_laws.specs.Live.{live_soon, ahead, asked_behind}
use Rattle.asm_laws.proofs.Putting.{unless_is, moves_are, backs_are}
use Rattle.asm_laws.proofs.InOne.{TakesWord, one_or_more_is, group_is, next_is}

abbrev AreCode : List AsmItem → Type 0
AreCode items = AllByRecursion IsCode items

joined : (xs ys : List AsmItem) → AreCode xs → AreCode ys → AreCode (xs ++ ys)
joined [] ys h g = g
joined (x ∷ xs) ys h g = (h.0, joined xs ys h.1 g)

either : (b : Bool) (xs ys : List AsmItem) → AreCode xs → AreCode ys → AreCode (cond b xs ys)
either true xs ys h g = h
either false xs ys h g = g

-- ---- operations

fetch_code : (F : Frame) (p : Where) (r : ℕ) → IsCode (fetches F p r)
fetch_code F (Reg q) r = tt
fetch_code F (Slot k) r = tt

keep_code : (F : Frame) (t : Where) → IsCode (keeps F t)
keep_code F (Reg q) = tt
keep_code F (Slot k) = tt

some_code : (F : Frame) (t : Option Where) → AreCode (keeps_some F t)
some_code F None = tt
some_code F (Some t) = (keep_code F t, tt)

brought_code : (F : Frame) (p : Where) (r : ℕ) (xs : List AsmItem) → AreCode xs → AreCode (brings F p r ++ xs)
brought_code F (Reg q) r xs h = h
brought_code F (Slot k) r xs h = (tt, h)

takes_code : (F : Frame) (p : Where) (m : ℕ) → AreCode (takes F p m)
takes_code F p m = either (is_in p m) [] (fetches F p m ∷ []) tt (fetch_code F p m, tt)

lays_code : (F : Frame) (t : Where) → AreCode (lays F t)
lays_code F (Reg q) = tt
lays_code F (Slot k) = (tt, tt)

keep_from_code : (F : Frame) (t : Where) (r : ℕ) → IsCode (item.Op (keep F t r))
keep_from_code F (Reg q) r = tt
keep_from_code F (Slot k) r = tt

moves_code : (F : Frame) (t a : Where) → AreCode (moves F t a)
moves_code F t (Reg q) = either (is_in t (register q)) [] (item.Op (keep F t (register q)) ∷ []) tt (keep_from_code F t (register q), tt)
moves_code F t (Slot k) = (tt, lays_code F t)

changes_code : (F : Frame) (o : One) (t a : Where) → AreCode (changes F o t a)
changes_code F o t a = joined (takes F a (aim t)) (item.Op (instr.One o (aim t)) ∷ lays F t) (takes_code F a (aim t)) (tt, lays_code F t)

in_place_code : (F : Frame) (o : Two) (m : ℕ) (a b : Where) → AreCode (in_place F o m a b)
in_place_code F o m a b = joined (takes F a m) (brings F b 10 ++ item.Op (instr.Two o m (src.Reg (hand b 10))) ∷ []) (takes_code F a m) (brought_code F b 10 _ (tt, tt))

apart_code : (F : Frame) (o : Two) (t a b : Where) → AreCode (apart F o t a b)
apart_code F o t a b = (fetch_code F a 9, brought_code F b 10 _ (tt, (keep_code F t, tt)))

turned_code : (F : Frame) (o : Two) (u : Option Two) (t a b : Where) → AreCode (turned_or_apart F o u t a b)
turned_code F o None t a b = apart_code F o t a b
turned_code F o (Some u) t a b = either (is_turned t a b) (in_place F u (aim t) b a) (apart F o t a b) (in_place_code F u (aim t) b a) (apart_code F o t a b)

computes_code : (F : Frame) (o : Two) (t a b : Where) → AreCode (computes F o t a b)
computes_code F o t a b =
    either (is_direct t b) (in_place F o (aim t) a b) (turned_or_apart F o (turned o) t a b) (in_place_code F o (aim t) a b) (turned_code F o (turned o) t a b)

slot_code : (F G : Frame) (p a : Where) → AreCode (slot_arg F G p a)
slot_code F G (Reg q) a = tt
slot_code F G (Slot k) a = brought_code F a 9 _ (tt, tt)

slots_code : (F G : Frame) (ps args : List Where) → AreCode (slot_args F G ps args)
slots_code F G [] args = tt
slots_code F G (p ∷ ps) [] = tt
slots_code F G (p ∷ ps) (a ∷ args) = joined (slot_arg F G p a) (slot_args F G ps args) (slot_code F G p a) (slots_code F G ps args)

moved_code : (F : Frame) (ms : List Move) → AreCode (moved_items F ms)
moved_code F [] = tt
moved_code F ((t, s) ∷ ms) = (fetch_code F s (register t), moved_code F ms)

args_code : (F G : Frame) (ps args : List Where) → AreCode (args_items F G ps args)
args_code F G ps args = joined (slot_args F G ps args) (moved_items F (in_order ps args)) (slots_code F G ps args) (moved_code F (in_order ps args))

gone_code : (size : ℕ) → AreCode (frame_gone size)
gone_code size = either (size == 0) (item.Op (instr.Plain RET) ∷ []) (item.Op (instr.Two IADD 15 (src.Imm (Left size))) ∷ item.Op (instr.Plain RET) ∷ []) (tt, tt) (tt, (tt, tt))

leaving_code : (F : Frame) (out : Option ℕ) → AreCode (leaving F out)
leaving_code F None = gone_code F.size
leaving_code F (Some n) = (tt, tt)

module _ (W : Whole) (F : Frame) where
  op_code : (o : OpT Where) → AreCode (op_items W F o)
  unfolding op_items
  op_code (ConstO t n) = (tt, lays_code F t)
  op_code (NullO t) = (tt, lays_code F t)
  op_code (MoveO t a) = moves_code F t a
  op_code (OneO o t a) = changes_code F o t a
  op_code (TwoO o t a b) = computes_code F o t a b
  op_code (GlobalO t k) = (tt, lays_code F t)
  op_code (LocalO t k) = (tt, lays_code F t)
  op_code (LiteralO t k) = (tt, lays_code F t)
  op_code (CardO t) = (tt, lays_code F t)
  op_code (StepO t p n) = computes_code F IADD t p n
  op_code (ApartO t p q) = computes_code F ISUB t p q
  op_code (PtrTestO o t p q) = computes_code F o t p q
  op_code (LoadO t p) = brought_code F p 9 _ (tt, lays_code F t)
  op_code (StoreO p a) = brought_code F p 9 _ (brought_code F a 10 _ (tt, tt))
  op_code (FreshO k) = tt
  op_code (EndO k) = tt
  op_code (InO t port) = (tt, lays_code F t)
  op_code (OutO port a) = brought_code F a 9 _ (tt, tt)
  op_code WaitO = (tt, tt)
  op_code HaltO = (tt, tt)

  taking_code : (i : Instr Imm) → TakesWord (λ v. Unit {0}) i → AreCode (item.Op i ∷ [])
  taking_code (instr.Lea r q (Some (Left v))) h = (tt, tt)
  taking_code (instr.Two o r (src.Imm (Left v))) h = (tt, tt)
  taking_code (instr.Mov (RegAt r (Left v))) h = (tt, tt)
  taking_code (instr.Mov (RegAtOff r q (Left v))) h = (tt, tt)
  taking_code (instr.Mov (AtReg (Left v) r)) h = (tt, tt)
  taking_code (instr.Mov (AtOffReg q (Left v) r)) h = (tt, tt)
  taking_code (instr.Out port (src.Imm (Left v))) h = (tt, tt)
  taking_code _ h = absurd h

  one_or_more_code : (o : OpT Where) (c : NodesT Where) → AreCode (one_or_more W F o (in_one W F o c))
  one_or_more_code o c = one_or_more_is W F AreCode (λ v. Unit {0}) o c (λ t n e. (tt, tt, λ x y. tt)) (λ t k e. (tt, tt, λ x y. tt)) (λ t k e x y. tt) (op_code o) taking_code (λ p r i lt h. (fetch_code F p r, taking_code i h), λ r q i lr lq h. (tt, taking_code i h))

  word_code : (y : Copying) (o : OpT Where) → AreCode (word_items W F y o)
  word_code y (ConstO (Reg r) n) = (tt, tt)
  word_code y (GlobalO (Reg r) k) = (tt, tt)
  word_code y (LocalO (Reg r) k) = (tt, tt)
  word_code y (MoveO (Reg r) p) = moves_code F (Reg (goes_to y r)) p
  word_code y _ = tt

  put_code : (y : Copying) (j : Bool) (o : OpT Where) → AreCode (put_items W F y j o)
  put_code y j o = unless_is AreCode y j (put_into o) (word_items W F y o) tt (word_code y o)

  puts_code : (y : Copying) (j : Bool) (c : NodesT Where) (k : ℕ) → AreCode (puts_items W F y j c k)
  puts_code y j (Do o c) (suc k) = joined (put_items W F y j o) (puts_items W F y j c k) (put_code y j o) (puts_code y j c k)
  puts_code y j (Do o c) zero = tt
  puts_code y j Stop k = tt
  puts_code y j (Call t g args c) k = tt
  puts_code y j (Choose p a b c) k = tt
  puts_code y j (Block b c) k = tt
  puts_code y j (Loop b c) k = tt
  puts_code y j (Leave i c) k = tt
  puts_code y j (Again i c) k = tt
  puts_code y j (Return p c) k = tt

  group_code : (o : OpT Where) (c : NodesT Where) → AreCode (group_items W F o c)
  group_code o c = group_is W F AreCode o c tt (one_or_more_code o c) (λ k y e. joined (puts_items W F y (asked_behind F.lasting c y.one) (Do o c) k) (move_items y (Do o c)) (puts_code y (asked_behind F.lasting c y.one) (Do o c) k) (moves_are AreCode tt joined (λ t r. (tt, tt)) y (Do o c)))

  next_code : (o : OpT Where) (c : NodesT Where) → AreCode (next_items W F o c)
  next_code o c =
      next_is W F AreCode (λ v. Unit {0}) o c (λ t n e. (tt, tt, λ x y. tt)) (λ t k e. (tt, tt, λ x y. tt)) taking_code (λ p r i lt h. (fetch_code F p r, taking_code i h), λ r q i lr lq h. (tt, taking_code i h))
      (λ u t a b e. (fetch_code F a 9, brought_code F b 10 _ (tt, tt))) (group_code o c)

  copy_code : (y : Copying) (J : ℕ → Bool) → AreCode (copy_items y J)
  copy_code y J = (tt, backs_are AreCode tt joined y (λ r q lt. (tt, tt)) (tt, tt) (tt, tt) y.from J)

  copied_code : (y : Option Copying) (J : ℕ → Bool) (xs : List AsmItem) → AreCode xs → AreCode (copy_or y J xs)
  copied_code None J xs h = h
  copied_code (Some y) J xs h = copy_code y J

  asked_code : (y : Option ℕ) (J : ℕ → Bool) (xs : List AsmItem) → AreCode xs → AreCode (ask_or y J xs)
  asked_code None J xs h = h
  asked_code (Some f) J xs h = either (J f) (item.Op (instr.Mov (RegImm (register f) (Left 0))) ∷ []) [] (tt, tt) tt

  call_code : (t : Option Where) (g : ℕ) (args : List Where) → AreCode (call_items W F t g args)
  call_code t g args =
      joined (args_items F (W.frames g) (W.params g) args) (call_item W g ∷ keeps_some F t) (args_code F (W.frames g) (W.params g) args) (tt, some_code F t)

  giving_code : (p : Option Where) → AreCode (giving F p)
  giving_code None = tt
  giving_code (Some p) = (fetch_code F p 9, tt)

  left_code : (p : Option Where) (done : ℕ) → AreCode (giving_left F p done)
  left_code p zero = giving_code p
  left_code p (suc k) = tt

  -- ---- nodes

  choice_code : (p : Where) (n w : ℕ) (a b : List AsmItem) → AreCode a → AreCode b → AreCode (choice F p n w a b)
  choice_code p n w a b ha hb =
      joined (first_part F p n w a) (second_part w b)
      (brought_code F p 9 (jump_unless (hand p 9) n ∷ (a ++ jump w ∷ mark n ∷ [])) (tt, joined a (jump w ∷ mark n ∷ []) ha (tt, (tt, tt))))
      (joined b (mark w ∷ []) hb (tt, tt))

  alone_code : (p : Where) (n : ℕ) (to : Option ℕ) (a : List AsmItem) → AreCode a → AreCode (alone F p n to a)
  alone_code p n None a ha = brought_code F p 9 (jump_unless (hand p 9) n ∷ (a ++ mark n ∷ [])) (tt, joined a (mark n ∷ []) ha (tt, tt))
  alone_code p n (Some l) a ha = brought_code F p 9 (jump_when (hand p 9) l ∷ mark n ∷ []) (tt, (tt, tt))

  enclosed_code : (n : ℕ) (a : List AsmItem) → AreCode a → AreCode (enclosed n a)
  enclosed_code n a ha = (tt, joined a (mark (n + 1) ∷ []) ha (tt, tt))

  rotated_code : (n : ℕ) (part test : List AsmItem) → AreCode part → AreCode test → AreCode (rotated n part test)
  rotated_code n part test hp ht = (tt, (tt, joined part (mark n ∷ (test ++ mark (n + 1) ∷ [])) hp (tt, joined test (mark (n + 1) ∷ []) ht (tt, tt))))

  module _ (out : Option ℕ) where
    test_code : (to : ℕ) (c : NodesT Where) (done : ℕ) → AreCode (test_items W F out to c done)
    test_code to Stop done = tt
    test_code to (Do o c) zero =
        let more = next_more W F o c in
        joined (next_items W F o c) (test_items W F out to c more) (next_code o c) (test_code to c more)
    test_code to (Do o c) (suc done) = test_code to c done
    test_code to (Call t g args c) done = joined (call_items W F t g args) (test_items W F out to c 0) (call_code t g args) (test_code to c 0)
    test_code to (Choose p a b c) done = brought_code F p 9 (jump_when (hand p 9) to ∷ test_items W F out to c 0) (tt, test_code to c 0)
    test_code to (Block b c) done = test_code to c 0
    test_code to (Loop b c) done = test_code to c 0
    test_code to (Leave k c) done = test_code to c 0
    test_code to (Again k c) done = test_code to c 0
    test_code to (Return p c) done = joined (giving_left F p done) (test_items W F out to c 0) (left_code p done) (test_code to c 0)

    mutual
      pub past_code : (c : NodesT Where) (done : ℕ) (last : Behind) (ls : List ℕ) (n : ℕ) → AreCode (items_past W F out last ls n c done)
      past_code Stop done last ls n = tt
      past_code (Do o c) zero last ls n =
          let more = next_more W F o c in
          joined (next_items W F o c) (items_past W F out last ls n c more) (next_code o c) (past_code c more last ls n)
      past_code (Do o c) (suc done) last ls n = past_code c done last ls n
      past_code (Call t g args c) done last ls n = joined (call_items W F t g args) (items_past W F out last ls n c 0) (call_code t g args) (past_code c 0 last ls n)
      past_code (Choose p a b c) done last ls n =
          let w = n + 1 + labels a in
          let one = items_past W F out (ends last c) ls (n + 1) a 0 in
          let first = items_past W F out Other ls (n + 1) a 0 in
          let two = items_past W F out (ends last c) ls (w + 1) b 0 in
          let rest = items_past W F out last ls (n + (2 + labels a + labels b)) c 0 in
          joined (cond (is_stop b) (alone F p n (left_to ls a) one) (choice F p n w first two)) rest
          (either (is_stop b) (alone F p n (left_to ls a) one) (choice F p n w first two)
          (alone_code p n (left_to ls a) one (past_code a 0 (ends last c) ls (n + 1)))
          (choice_code p n w first two (past_code a 0 Other ls (n + 1)) (past_code b 0 (ends last c) ls (w + 1))))
          (past_code c 0 last ls (n + (2 + labels a + labels b)))
      past_code (Block b c) done last ls n =
          let one = items_past W F out (inside (ends last c)) (ls ++ n ∷ []) (n + 2) b 0 in
          joined (enclosed n one) (items_past W F out last ls (n + (2 + labels b)) c 0) (enclosed_code n one (past_code b 0 (inside (ends last c)) (ls ++ n ∷ []) (n + 2))) (past_code c 0 last ls (n + (2 + labels b)))
      past_code (Loop b c) done last ls n =
          let all = items_past W F out (inside (ends last c)) (ls ++ n ∷ []) (n + 2) b 0 in
          let part = part_items W F out (ls ++ n ∷ []) (n + 2) b in
          let test = test_items W F out (n + 2) b 0 in
          let asked = live_soon ahead F.lasting c in
          let turns = looped (is_tested b) n all part test in
          joined (ask_or (ask_of b) asked (copy_or (copy_at done b) asked turns)) (items_past W F out last ls (n + (2 + labels b)) c 0)
          (asked_code (ask_of b) asked (copy_or (copy_at done b) asked turns) (copied_code (copy_at done b) asked turns (either (is_tested b) (rotated n part test) (enclosed n all) (rotated_code n part test (part_code b (ls ++ n ∷ []) (n + 2)) (test_code (n + 2) b 0)) (enclosed_code n all (past_code b 0 (inside (ends last c)) (ls ++ n ∷ []) (n + 2))))))
          (past_code c 0 last ls (n + (2 + labels b)))
      past_code (Leave k c) done last ls n = (tt, past_code c 0 last ls n)
      past_code (Again k c) done last ls n =
          joined (again ls k (ends last c)) (items_past W F out last ls n c 0) (either ((k == 0) && is_turn (ends last c)) [] (jump (enclosing ls k) ∷ []) tt (tt, tt)) (past_code c 0 last ls n)
      past_code (Return p c) done last ls n =
          let left = left_by F out (is_end (ends last c)) in
          let rest = items_past W F out last ls n c 0 in
          joined (giving_left F p done) (left ++ rest) (left_code p done) (joined left rest (either (is_end (ends last c)) [] (leaving F out) tt (leaving_code F out)) (past_code c 0 last ls n))

      part_code : (c : NodesT Where) (ls : List ℕ) (n : ℕ) → AreCode (part_items W F out ls n c)
      part_code Stop ls n = tt
      part_code (Do o c) ls n = part_code c ls n
      part_code (Call t g args c) ls n = part_code c ls n
      part_code (Choose p a b c) ls n = past_code a 0 Turn ls (n + 1)
      part_code (Block b c) ls n = tt
      part_code (Loop b c) ls n = tt
      part_code (Leave k c) ls n = tt
      part_code (Again k c) ls n = tt
      part_code (Return p c) ls n = tt

-- ---- functions

made_code : (size : ℕ) → AreCode (frame_made size)
made_code size = either (size == 0) [] (item.Op (instr.Two ISUB 15 (src.Imm (Left size))) ∷ []) tt (tt, tt)

pub own_code : (W : Whole) (f n : ℕ) (body : NodesT Where) → AreCode (own_items W f n body)
own_code W f n body =
    let F = W.frames f in
    let items = code_items W F None [] (n + 1) body in
    joined (frame_made F.size) (items ++ exit_items n F) (made_code F.size) (joined items (exit_items n F) (past_code W F None body 0 End [] (n + 1)) (tt, gone_code F.size))
