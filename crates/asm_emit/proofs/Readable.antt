-- The items of placed code can be written as text and read again.
use Rattle.std.proofs.Common.{◌≡◌, ℕ, zero, suc, ◌+◌, ◌%◌, ◌^◌, ◌<◌, Bool, true, false, List, [], ◌∷◌, ◌++◌, map, length, Option, Some, None, subst, arith}
use Rattle.std.specs.Prelude.{◌==◌, ◌&&◌, cond, get_or, All}
use Rattle.std.specs.List.{list_all}
use Rattle.std.proofs.lemmas.List.Elements.{All-nil, All-cons}
use Rattle.kit_base.specs.Word.{add, sub}
use Rattle.either.specs.declared.Either.TheVariants.{Left}
use Rattle.v32_isa.specs.declared.instruction.Plain.TheVariants.{RET}
use Rattle.v32_isa.specs.declared.instruction.One.{One}
use Rattle.v32_isa.specs.declared.instruction.Mov.TheVariants.{RegImm, RegAt, RegAtOff, AtReg, AtOffReg}
use Rattle.v32_isa.specs.declared.instruction.Two.{Two}
use Rattle.v32_isa.specs.declared.instruction.Two.TheVariants.{IADD, ISUB}
use Rattle.v32_isa.specs.declared.instruction.Src.TheVariants as src
use Rattle.v32_isa.specs.declared.instruction.Instr.{Instr}
use Rattle.v32_isa.specs.declared.instruction.Instr.TheVariants as instr
use Rattle.asm_items.specs.Items.{Imm}
use Rattle.asm_items.specs.declared.item.AsmItem.{AsmItem}
use Rattle.asm_items.specs.declared.item.AsmItem.TheVariants as item
use Rattle.asm_items.specs.Operands.{Operand, operands}
use Rattle.asm_items.specs.Vocabulary.{is_word}
use Rattle.asm_reader.specs.Readable.{IsName, IsArgument, IsReadable, AreReadable}
use Rattle.mid_code.specs.declared.placed.Where.{Where}
use Rattle.mid_code.specs.declared.placed.Where.TheVariants.{Reg, Slot}
use Rattle.mid_code.specs.Code.{OpT, ConstO, NullO, MoveO, OneO, TwoO, GlobalO, LocalO, LiteralO, CardO, StepO, ApartO, PtrTestO, LoadO, StoreO, FreshO, EndO, InO, OutO, WaitO, HaltO, NodesT, Stop, Do, Call, Choose, Block, Loop, Leave, Again, Return, FunctionT, CodeT}
use Rattle.mid_code.specs.Invariants.{AllOf, IsOp, AreNodes}
use Rattle.asm_laws.specs.Moves.{Move, in_order}
use Rattle.asm_laws.specs.Operations.{Frame, Whole, keep, fetches, keeps, keeps_some, hand, brings, takes, aim, lays, moves, changes, is_direct, in_place, apart, is_turned, turned_or_apart, computes, slot_arg, slot_args, moved_items, args_items, call_items, op_items, in_one, one_or_more, giving, start_frame, literal_items, literals_items, word_items, put_items, puts_items, group_items, giving_left, next_items, next_more}
use Rattle.asm_laws.specs.Pieces.{register, is_in, turned}
use Rattle.asm_laws.specs.Framing.{frame_made, frame_gone}
use Rattle.asm_laws.specs.declared.behind.Behind.{Behind}
use Rattle.asm_laws.specs.declared.behind.Behind.TheVariants.{Other, End, Turn}
use Rattle.asm_laws.specs.inner.Emitted.{labels, enclosing, jump, jump_unless, mark, first_part, second_part, choice, alone, left_to, ends, jump_when, is_stop, enclosed, leaving, left_by, items_past, code_items, exit_items, function_items, functions_items, closing_items, start_items, program_items, inside, is_end, is_turn, again, rotated, looped, is_tested, part_items, test_items}
use Rattle.asm_laws.specs.declared.copying.Copying.{Copying}
use Rattle.asm_laws.specs.Asks.{ask_of, ask_or}
use Rattle.asm_laws.specs.Copies.{put_into, goes_to, is_put, source, source_put, move_item, move_items, copy_items, copy_at, copy_or}
use Rattle.asm_laws.specs.Live.{live_soon, ahead, asked_behind}
use Rattle.asm_laws.proofs.Putting.{unless_is, backs_are}
use Rattle.asm_laws.proofs.InOne.{TakesWord, one_or_more_is, group_is, next_is}
use Rattle.asm_emit.specs.inner.Words.{AreWords, TextsAreWords}
use Rattle.asm_emit.proofs.ReadableLabels.{jump_named, literal_named, function_named}

-- what the operands are, and what the items are, one by one
abbrev Arguments : List Operand → Type 0
Arguments [] = Unit {0}
Arguments (a ∷ rest) = IsArgument a × Arguments rest

abbrev Fine : AsmItem → Type 0
Fine (item.Label name) = IsName name
Fine (item.Op i) = Arguments (operands i)
Fine (item.Integer w) = w < 2 ^ 32
Fine (item.Pointer name) = IsName name

abbrev AllFine : List AsmItem → Type 0
AllFine [] = Unit {0}
AllFine (x ∷ xs) = Fine x × AllFine xs

arguments_all : (os : List Operand) → Arguments os → All IsArgument os
arguments_all [] h = All-nil IsArgument
arguments_all (a ∷ os) h = All-cons IsArgument a os h.0 (arguments_all os h.1)

fine_reads : (x : AsmItem) → Fine x → IsReadable x
fine_reads (item.Label name) h = h
fine_reads (item.Op i) h = arguments_all (operands i) h
fine_reads (item.Integer w) h = h
fine_reads (item.Pointer name) h = h

all_read : (xs : List AsmItem) → AllFine xs → AreReadable xs
all_read [] h = All-nil IsReadable
all_read (x ∷ xs) h = All-cons IsReadable x xs (fine_reads x h.0) (all_read xs h.1)

join : (xs ys : List AsmItem) → AllFine xs → AllFine ys → AllFine (xs ++ ys)
join [] ys h g = g
join (x ∷ xs) ys h g = (h.0, join xs ys h.1 g)

either : (b : Bool) (xs ys : List AsmItem) → AllFine xs → AllFine ys → AllFine (cond b xs ys)
either true xs ys h g = h
either false xs ys h g = g

-- ---- numbers

in_registers : (q : ℕ) → register q < 16
in_registers q = omega arith

in_ports : (p : ℕ) → p % 16384 < 16384
in_ports p = omega arith

in_words : (a b : ℕ) → sub a b < 2 ^ 32
in_words a b = omega arith

sum_in_words : (a b : ℕ) → add a b < 2 ^ 32
sum_in_words a b = omega arith

hand_fine : (p : Where) (r : ℕ) → r < 16 → hand p r < 16
hand_fine (Reg q) r lt = in_registers q
hand_fine (Slot k) r lt = lt

aim_fine : (t : Where) → aim t < 16
aim_fine (Reg q) = in_registers q
aim_fine (Slot k) = omega arith

-- ---- operations

fetch_fine : (F : Frame) (p : Where) (r : ℕ) → r < 16 → Fine (fetches F p r)
fetch_fine F (Reg q) r lt = (lt, (in_registers q, tt))
fetch_fine F (Slot k) r lt = (lt, ((omega arith, in_words _ F.size), tt))

keep_fine : (F : Frame) (t : Where) (r : ℕ) → r < 16 → Fine (item.Op (keep F t r))
keep_fine F (Reg q) r lt = (in_registers q, (lt, tt))
keep_fine F (Slot k) r lt = ((omega arith, in_words _ F.size), (lt, tt))

some_fine : (F : Frame) (t : Option Where) → AllFine (keeps_some F t)
some_fine F None = tt
some_fine F (Some t) = (keep_fine F t 9 (omega arith), tt)

brings_fine : (F : Frame) (p : Where) (r : ℕ) → r < 16 → AllFine (brings F p r)
brings_fine F (Reg q) r lt = tt
brings_fine F (Slot k) r lt = (fetch_fine F (Slot k) r lt, tt)

takes_fine : (F : Frame) (p : Where) (r : ℕ) → r < 16 → AllFine (takes F p r)
takes_fine F p r lt = either (is_in p r) [] (fetches F p r ∷ []) tt (fetch_fine F p r lt, tt)

lays_fine : (F : Frame) (t : Where) → AllFine (lays F t)
lays_fine F (Reg q) = tt
lays_fine F (Slot k) = (keep_fine F (Slot k) 9 (omega arith), tt)

moves_fine : (F : Frame) (t a : Where) → AllFine (moves F t a)
moves_fine F t (Reg q) = either (is_in t (register q)) [] (item.Op (keep F t (register q)) ∷ []) tt (keep_fine F t (register q) (in_registers q), tt)
moves_fine F t (Slot k) = (fetch_fine F (Slot k) (aim t) (aim_fine t), lays_fine F t)

changes_fine : (F : Frame) (o : One) (t a : Where) → AllFine (changes F o t a)
changes_fine F o t a = join (takes F a (aim t)) (item.Op (instr.One o (aim t)) ∷ lays F t) (takes_fine F a (aim t) (aim_fine t)) ((aim_fine t, tt), lays_fine F t)

in_place_fine : (F : Frame) (o : Two) (t a b : Where) → AllFine (in_place F o (aim t) a b)
in_place_fine F o t a b =
    join (takes F a (aim t)) (brings F b 10 ++ item.Op (instr.Two o (aim t) (src.Reg (hand b 10))) ∷ []) (takes_fine F a (aim t) (aim_fine t))
    (join (brings F b 10) (item.Op (instr.Two o (aim t) (src.Reg (hand b 10))) ∷ []) (brings_fine F b 10 (omega arith)) ((aim_fine t, (hand_fine b 10 (omega arith), tt)), tt))

apart_fine : (F : Frame) (o : Two) (t a b : Where) → AllFine (apart F o t a b)
apart_fine F o t a b = (
  fetch_fine F a 9 (omega arith),
  join (brings F b 10) (item.Op (instr.Two o 9 (src.Reg (hand b 10))) ∷ keeps F t ∷ []) (brings_fine F b 10 (omega arith)) ((omega arith, (hand_fine b 10 (omega arith), tt)), (keep_fine F t 9 (omega arith), tt)),
)

turned_fine : (F : Frame) (o : Two) (u : Option Two) (t a b : Where) → AllFine (turned_or_apart F o u t a b)
turned_fine F o None t a b = apart_fine F o t a b
turned_fine F o (Some u) t a b = either (is_turned t a b) (in_place F u (aim t) b a) (apart F o t a b) (in_place_fine F u t b a) (apart_fine F o t a b)

computes_fine : (F : Frame) (o : Two) (t a b : Where) → AllFine (computes F o t a b)
computes_fine F o t a b = either (is_direct t b) (in_place F o (aim t) a b) (turned_or_apart F o (turned o) t a b) (in_place_fine F o t a b) (turned_fine F o (turned o) t a b)

slot_fine : (F G : Frame) (p a : Where) → AllFine (slot_arg F G p a)
slot_fine F G (Reg q) a = tt
slot_fine F G (Slot k) a = join (brings F a 9) _ (brings_fine F a 9 (omega arith)) (((omega arith, in_words _ 1), (hand_fine a 9 (omega arith), tt)), tt)

slots_fine : (F G : Frame) (ps args : List Where) → AllFine (slot_args F G ps args)
slots_fine F G [] args = tt
slots_fine F G (p ∷ ps) [] = tt
slots_fine F G (p ∷ ps) (a ∷ args) = join (slot_arg F G p a) (slot_args F G ps args) (slot_fine F G p a) (slots_fine F G ps args)

moved_fine : (F : Frame) (ms : List Move) → AllFine (moved_items F ms)
moved_fine F [] = tt
moved_fine F ((t, s) ∷ ms) = (fetch_fine F s (register t) (in_registers t), moved_fine F ms)

args_fine : (F G : Frame) (ps args : List Where) → AllFine (args_items F G ps args)
args_fine F G ps args = join (slot_args F G ps args) (moved_items F (in_order ps args)) (slots_fine F G ps args) (moved_fine F (in_order ps args))

giving_fine : (F : Frame) (p : Option Where) → AllFine (giving F p)
giving_fine F None = tt
giving_fine F (Some p) = (fetch_fine F p 9 (omega arith), tt)

left_fine : (F : Frame) (p : Option Where) (done : ℕ) → AllFine (giving_left F p done)
left_fine F p zero = giving_fine F p
left_fine F p (suc k) = tt

made_fine : (size : ℕ) → size < 2 ^ 32 → AllFine (frame_made size)
made_fine size lt =
    either (size == 0) [] (item.Op (instr.Two ISUB 15 (src.Imm (Left size))) ∷ []) tt
    ((omega arith, (lt, tt)), tt)

gone_fine : (size : ℕ) → size < 2 ^ 32 → AllFine (frame_gone size)
gone_fine size lt =
    either (size == 0) (item.Op (instr.Plain RET) ∷ []) (item.Op (instr.Two IADD 15 (src.Imm (Left size))) ∷ item.Op (instr.Plain RET) ∷ []) (tt, tt)
    ((omega arith, (lt, tt)), (tt, tt))

-- ---- nodes and functions, where names are words, and addresses and sizes of frames are below 2^32

module _ (x : CodeT Where) (W : Whole) (words : list_all is_word W.names ≡ true) (addresses : (k : ℕ) → get_or W.globals k 0 < 2 ^ 32) where
  module _ (m : ℕ) (F : Frame) where
    op_fine : (o : OpT Where) → IsOp x m o → AllFine (op_items W F o)
    unfolding op_items
    op_fine (ConstO t n) ok = ((aim_fine t, (ok, tt)), lays_fine F t)
    op_fine (NullO t) ok = ((aim_fine t, (omega arith, tt)), lays_fine F t)
    op_fine (MoveO t a) ok = moves_fine F t a
    op_fine (OneO o t a) ok = changes_fine F o t a
    op_fine (TwoO o t a b) ok = computes_fine F o t a b
    op_fine (GlobalO t k) ok = ((aim_fine t, (addresses k, tt)), lays_fine F t)
    op_fine (LocalO t k) ok = ((aim_fine t, ((omega arith, in_words _ F.size), tt)), lays_fine F t)
    op_fine (LiteralO t k) ok = ((aim_fine t, (literal_named k, tt)), lays_fine F t)
    op_fine (CardO t) ok = ((aim_fine t, (omega arith, tt)), lays_fine F t)
    op_fine (StepO t p n) ok = computes_fine F IADD t p n
    op_fine (ApartO t p q) ok = computes_fine F ISUB t p q
    op_fine (PtrTestO o t p q) ok = computes_fine F o t p q
    op_fine (LoadO t p) ok = join (brings F p 9) _ (brings_fine F p 9 (omega arith)) ((aim_fine t, (hand_fine p 9 (omega arith), tt)), lays_fine F t)
    op_fine (StoreO p a) ok = join (brings F p 9) _ (brings_fine F p 9 (omega arith)) (join (brings F a 10) _ (brings_fine F a 10 (omega arith)) ((hand_fine p 9 (omega arith), (hand_fine a 10 (omega arith), tt)), tt))
    op_fine (FreshO k) ok = tt
    op_fine (EndO k) ok = tt
    op_fine (InO t port) ok = ((aim_fine t, (in_ports port, tt)), lays_fine F t)
    op_fine (OutO port a) ok = join (brings F a 9) _ (brings_fine F a 9 (omega arith)) ((in_ports port, (hand_fine a 9 (omega arith), tt)), tt)
    op_fine WaitO ok = (tt, tt)
    op_fine HaltO ok = (tt, tt)

    taking_fine : (i : Instr Imm) → TakesWord (λ v. v < 2 ^ 32) i → AllFine (item.Op i ∷ [])
    taking_fine (instr.Lea r q (Some (Left v))) h = ((h.0, ((h.1, h.2), tt)), tt)
    taking_fine (instr.Two o r (src.Imm (Left v))) h = ((h.0, (h.1, tt)), tt)
    taking_fine (instr.Mov (RegAt r (Left v))) h = ((h.0, (h.1, tt)), tt)
    taking_fine (instr.Mov (RegAtOff r q (Left v))) h = ((h.0, ((h.1, h.2), tt)), tt)
    taking_fine (instr.Mov (AtReg (Left v) r)) h = ((h.1, (h.0, tt)), tt)
    taking_fine (instr.Mov (AtOffReg q (Left v) r)) h = (((h.0, h.2), (h.1, tt)), tt)
    taking_fine (instr.Out port (src.Imm (Left v))) h = ((h.0, (h.1, tt)), tt)
    taking_fine _ h = absurd h

    one_or_more_fine : (o : OpT Where) (c : NodesT Where) → IsOp x m o → AllFine (one_or_more W F o (in_one W F o c))
    one_or_more_fine o c ok =
        one_or_more_is W F AllFine (λ v. v < 2 ^ 32) o c (λ t n e. (subst (IsOp x m) e ok, in_words 0 n, λ x y. sum_in_words x y)) (λ t k e. (addresses k, in_words 0 (get_or W.globals k 0), λ x y. sum_in_words x y)) (λ t k e x y. sum_in_words x y) (op_fine o ok) taking_fine
        (λ p r i lt h. (fetch_fine F p r lt, taking_fine i h), λ r q i lr lq h. ((lr, (lq, tt)), taking_fine i h))

    word_fine : (y : Copying) (o : OpT Where) → IsOp x m o → AllFine (word_items W F y o)
    word_fine y (ConstO (Reg r) n) ok = ((in_registers (goes_to y r), (ok, tt)), tt)
    word_fine y (GlobalO (Reg r) k) ok = ((in_registers (goes_to y r), (addresses k, tt)), tt)
    word_fine y (LocalO (Reg r) k) ok = ((in_registers (goes_to y r), ((omega arith, in_words _ F.size), tt)), tt)
    word_fine y (MoveO (Reg r) p) ok = moves_fine F (Reg (goes_to y r)) p
    word_fine y _ ok = tt

    put_fine : (y : Copying) (j : Bool) (o : OpT Where) → IsOp x m o → AllFine (put_items W F y j o)
    put_fine y j o ok = unless_is AllFine y j (put_into o) (word_items W F y o) tt (word_fine y o ok)

    puts_fine : (y : Copying) (j : Bool) (c : NodesT Where) (k : ℕ) (bs : List Bool) → AreNodes x m bs c → AllFine (puts_items W F y j c k)
    puts_fine y j (Do o c) (suc k) bs ok = join (put_items W F y j o) (puts_items W F y j c k) (put_fine y j o ok.0) (puts_fine y j c k bs ok.1)
    puts_fine y j (Do o c) zero bs ok = tt
    puts_fine y j Stop k bs ok = tt
    puts_fine y j (Call t g args c) k bs ok = tt
    puts_fine y j (Choose p a b c) k bs ok = tt
    puts_fine y j (Block b c) k bs ok = tt
    puts_fine y j (Loop b c) k bs ok = tt
    puts_fine y j (Leave i c) k bs ok = tt
    puts_fine y j (Again i c) k bs ok = tt
    puts_fine y j (Return p c) k bs ok = tt

    move_fine : (b : Bool) (t r : ℕ) → t < 16 → AllFine (move_item b t r)
    move_fine true t r lt = tt
    move_fine false t r lt = ((lt, (in_registers r, tt)), tt)

    words_fine : (y : Copying) (c : NodesT Where) → AllFine (move_items y c)
    words_fine y c =
        let a = move_item (is_put y.to false c) 13 y.to in
        let b = move_item (source_put y.from false c) 12 (source y.from y) in
        let d = move_item (is_put y.count false c) 11 y.count in
        join a (b ++ d) (move_fine (is_put y.to false c) 13 y.to (omega arith)) (join b d (move_fine (source_put y.from false c) 12 (source y.from y) (omega arith)) (move_fine (is_put y.count false c) 11 y.count (omega arith)))

    group_fine : (o : OpT Where) (c : NodesT Where) (bs : List Bool) → AreNodes x m bs (Do o c) → AllFine (group_items W F o c)
    group_fine o c bs ok = group_is W F AllFine o c tt (one_or_more_fine o c ok.0) (λ k y e. join (puts_items W F y (asked_behind F.lasting c y.one) (Do o c) k) (move_items y (Do o c)) (puts_fine y (asked_behind F.lasting c y.one) (Do o c) k bs ok) (words_fine y (Do o c)))

    next_fine : (o : OpT Where) (c : NodesT Where) (bs : List Bool) → AreNodes x m bs (Do o c) → AllFine (next_items W F o c)
    next_fine o c bs ok =
        next_is W F AllFine (λ v. v < 2 ^ 32) o c (λ t n e. (subst (IsOp x m) e ok.0, in_words 0 n, λ x y. sum_in_words x y)) (λ t k e. (addresses k, in_words 0 (get_or W.globals k 0), λ x y. sum_in_words x y)) taking_fine
        (λ p r i lt h. (fetch_fine F p r lt, taking_fine i h), λ r q i lr lq h. ((lr, (lq, tt)), taking_fine i h))
        (λ u t a b e. (fetch_fine F a 9 (omega arith), join (brings F b 10) (item.Op (instr.Two u 9 (src.Reg (hand b 10))) ∷ []) (brings_fine F b 10 (omega arith)) ((omega arith, (hand_fine b 10 (omega arith), tt)), tt))) (group_fine o c bs ok)

    copy_fine : (y : Copying) (J : ℕ → Bool) → AllFine (copy_items y J)
    copy_fine y J =
        let to = in_registers y.to in
        let count = in_registers y.count in
        let cell = in_registers y.cell in
        (tt, backs_are AllFine tt join y (λ r q lt. ((in_registers r, ((lt, omega arith), tt)), tt)) ((count, (omega arith, tt)), tt) ((cell, (to, tt)), tt) y.from J)

    copied_fine : (y : Option Copying) (J : ℕ → Bool) (xs : List AsmItem) → AllFine xs → AllFine (copy_or y J xs)
    copied_fine None J xs h = h
    copied_fine (Some y) J xs h = copy_fine y J

    asked_fine : (y : Option ℕ) (J : ℕ → Bool) (xs : List AsmItem) → AllFine xs → AllFine (ask_or y J xs)
    asked_fine None J xs h = h
    asked_fine (Some f) J xs h = either (J f) (item.Op (instr.Mov (RegImm (register f) (Left 0))) ∷ []) [] ((in_registers f, (omega arith, tt)), tt) tt

    call_fine : (t : Option Where) (g : ℕ) (args : List Where) → AllFine (call_items W F t g args)
    call_fine t g args = join (args_items F (W.frames g) (W.params g) args) _ (args_fine F (W.frames g) (W.params g) args) ((function_named W.names g words, tt), some_fine F t)

    alone_fine : (p : Where) (n : ℕ) (to : Option ℕ) (a : List AsmItem) → AllFine a → AllFine (alone F p n to a)
    alone_fine p n None a ha = join (brings F p 9) (jump_unless (hand p 9) n ∷ (a ++ mark n ∷ [])) (brings_fine F p 9 (omega arith)) ((hand_fine p 9 (omega arith), (jump_named n, tt)), join a (mark n ∷ []) ha (jump_named n, tt))
    alone_fine p n (Some l) a ha = join (brings F p 9) (jump_when (hand p 9) l ∷ mark n ∷ []) (brings_fine F p 9 (omega arith)) ((hand_fine p 9 (omega arith), (jump_named l, tt)), (jump_named n, tt))

    chosen_fine : (p : Where) (n w : ℕ) (t : Bool) (to : Option ℕ) (one a b : List AsmItem) → AllFine one → AllFine a → AllFine b → AllFine (cond t (alone F p n to one) (choice F p n w a b))
    chosen_fine p n w t to one a b ho ha hb =
        let test : Fine (jump_unless (hand p 9) n) = (hand_fine p 9 (omega arith), (jump_named n, tt)) in
        either t (alone F p n to one) (choice F p n w a b)
        (alone_fine p n to one ho)
        (join (first_part F p n w a) (second_part w b)
        (join (brings F p 9) (jump_unless (hand p 9) n ∷ (a ++ jump w ∷ mark n ∷ [])) (brings_fine F p 9 (omega arith)) (test, join a (jump w ∷ mark n ∷ []) ha ((jump_named w, tt), (jump_named n, tt))))
        (join b (mark w ∷ []) hb (jump_named w, tt)))

    enclosed_fine : (n : ℕ) (b : List AsmItem) → AllFine b → AllFine (enclosed n b)
    enclosed_fine n b h = (jump_named n, join b (mark (n + 1) ∷ []) h (jump_named (n + 1), tt))

    rotated_fine : (n : ℕ) (part test : List AsmItem) → AllFine part → AllFine test → AllFine (rotated n part test)
    rotated_fine n part test hp ht = ((jump_named n, tt), (jump_named (n + 2), join part (mark n ∷ (test ++ mark (n + 1) ∷ [])) hp (jump_named n, join test (mark (n + 1) ∷ []) ht (jump_named (n + 1), tt))))

    module _ (out : Option ℕ) (leaves : AllFine (leaving F out)) where
      test_fine : (to : ℕ) (c : NodesT Where) (done : ℕ) (bs : List Bool) → AreNodes x m bs c → AllFine (test_items W F out to c done)
      test_fine to Stop done bs ok = tt
      test_fine to (Do o c) zero bs ok = join (next_items W F o c) _ (next_fine o c bs ok) (test_fine to c (next_more W F o c) bs ok.1)
      test_fine to (Do o c) (suc done) bs ok = test_fine to c done bs ok.1
      test_fine to (Call t g args c) done bs ok = join (call_items W F t g args) _ (call_fine t g args) (test_fine to c 0 bs ok.1)
      test_fine to (Choose p a b c) done bs ok = join (brings F p 9) (jump_when (hand p 9) to ∷ test_items W F out to c 0) (brings_fine F p 9 (omega arith)) ((hand_fine p 9 (omega arith), (jump_named to, tt)), test_fine to c 0 bs ok.2)
      test_fine to (Block b c) done bs ok = test_fine to c 0 bs ok.1
      test_fine to (Loop b c) done bs ok = test_fine to c 0 bs ok.1
      test_fine to (Leave k c) done bs ok = test_fine to c 0 bs ok.1
      test_fine to (Again k c) done bs ok = test_fine to c 0 bs ok.1
      test_fine to (Return p c) done bs ok = join (giving_left F p done) (test_items W F out to c 0) (left_fine F p done) (test_fine to c 0 bs ok)

      mutual
        past_fine : (c : NodesT Where) (done : ℕ) (last : Behind) (bs : List Bool) (ls : List ℕ) (n : ℕ) → AreNodes x m bs c → AllFine (items_past W F out last ls n c done)
        past_fine Stop done last bs ls n ok = tt
        past_fine (Do o c) zero last bs ls n ok = join (next_items W F o c) _ (next_fine o c bs ok) (past_fine c (next_more W F o c) last bs ls n ok.1)
        past_fine (Do o c) (suc done) last bs ls n ok = past_fine c done last bs ls n ok.1
        past_fine (Call t g args c) done last bs ls n ok = join (call_items W F t g args) _ (call_fine t g args) (past_fine c 0 last bs ls n ok.1)
        past_fine (Choose p a b c) done last bs ls n ok =
            join (cond (is_stop b) (alone F p n (left_to ls a) (items_past W F out (ends last c) ls (n + 1) a 0)) (choice F p n (n + 1 + labels a) (items_past W F out Other ls (n + 1) a 0) (items_past W F out (ends last c) ls (n + 1 + labels a + 1) b 0))) _
            (chosen_fine p n (n + 1 + labels a) (is_stop b) (left_to ls a) (items_past W F out (ends last c) ls (n + 1) a 0) (items_past W F out Other ls (n + 1) a 0) (items_past W F out (ends last c) ls (n + 1 + labels a + 1) b 0) (past_fine a 0 (ends last c) bs ls (n + 1) ok.0) (past_fine a 0 Other bs ls (n + 1) ok.0) (past_fine b 0 (ends last c) bs ls (n + 1 + labels a + 1) ok.1))
            (past_fine c 0 last bs ls (n + (2 + labels a + labels b)) ok.2)
        past_fine (Block b c) done last bs ls n ok = join (enclosed n (items_past W F out (inside (ends last c)) (ls ++ n ∷ []) (n + 2) b 0)) _ (enclosed_fine n _ (past_fine b 0 (inside (ends last c)) (false ∷ bs) (ls ++ n ∷ []) (n + 2) ok.0)) (past_fine c 0 last bs ls (n + (2 + labels b)) ok.1)
        past_fine (Loop b c) done last bs ls n ok =
            let all = items_past W F out (inside (ends last c)) (ls ++ n ∷ []) (n + 2) b 0 in
            let part = part_items W F out (ls ++ n ∷ []) (n + 2) b in
            let test = test_items W F out (n + 2) b 0 in
            let asked = live_soon ahead F.lasting c in
            let turns = looped (is_tested b) n all part test in
            join (ask_or (ask_of b) asked (copy_or (copy_at done b) asked turns)) _
            (asked_fine (ask_of b) asked (copy_or (copy_at done b) asked turns) (copied_fine (copy_at done b) asked turns (either (is_tested b) (rotated n part test) (enclosed n all) (rotated_fine n part test (part_fine b (true ∷ bs) (ls ++ n ∷ []) (n + 2) ok.0) (test_fine (n + 2) b 0 (true ∷ bs) ok.0)) (enclosed_fine n all (past_fine b 0 (inside (ends last c)) (true ∷ bs) (ls ++ n ∷ []) (n + 2) ok.0)))))
            (past_fine c 0 last bs ls (n + (2 + labels b)) ok.1)
        past_fine (Leave k c) done last bs ls n ok = ((jump_named (add (enclosing ls k) 1), tt), past_fine c 0 last bs ls n ok.1)
        past_fine (Again k c) done last bs ls n ok = join (again ls k (ends last c)) _ (either ((k == 0) && is_turn (ends last c)) [] (jump (enclosing ls k) ∷ []) tt ((jump_named (enclosing ls k), tt), tt)) (past_fine c 0 last bs ls n ok.1)
        past_fine (Return p c) done last bs ls n ok =
            let left = left_by F out (is_end (ends last c)) in
            let rest = items_past W F out last ls n c 0 in
            join (giving_left F p done) (left ++ rest) (left_fine F p done) (join left rest (either (is_end (ends last c)) [] (leaving F out) tt leaves) (past_fine c 0 last bs ls n ok))

        part_fine : (c : NodesT Where) (bs : List Bool) (ls : List ℕ) (n : ℕ) → AreNodes x m bs c → AllFine (part_items W F out ls n c)
        part_fine Stop bs ls n ok = tt
        part_fine (Do o c) bs ls n ok = part_fine c bs ls n ok.1
        part_fine (Call t g args c) bs ls n ok = part_fine c bs ls n ok.1
        part_fine (Choose p a b c) bs ls n ok = past_fine a 0 Turn bs ls (n + 1) ok.0
        part_fine (Block b c) bs ls n ok = tt
        part_fine (Loop b c) bs ls n ok = tt
        part_fine (Leave k c) bs ls n ok = tt
        part_fine (Again k c) bs ls n ok = tt
        part_fine (Return p c) bs ls n ok = tt

      code_fine : (c : NodesT Where) (bs : List Bool) (ls : List ℕ) (n : ℕ) → AreNodes x m bs c → AllFine (code_items W F out ls n c)
      code_fine c bs ls n ok = past_fine c 0 End bs ls n ok

  function_fine : (f n : ℕ) (g : FunctionT Where) → (W.frames f).size < 2 ^ 32 → AreNodes x (length g.locals) [] g.body → AllFine (function_items W f n g.body)
  function_fine f n g small ok =
      let F = W.frames f in
      let items = code_items W F None [] (n + 1) g.body in (
        function_named W.names f words,
        join (frame_made F.size) (items ++ exit_items n F) (made_fine F.size small) (join items (exit_items n F) (code_fine (length g.locals) F None (gone_fine F.size small) g.body [] [] (n + 1) ok) (jump_named n, gone_fine F.size small)),
      )

  functions_fine : (f n : ℕ) (gs : List (FunctionT Where)) → ((k : ℕ) → (W.frames k).size < 2 ^ 32) → AllOf (λ g. AreNodes x (length g.locals) [] g.body) gs → AllFine (functions_items W f n gs)
  functions_fine f n [] small ok = tt
  functions_fine f n (g ∷ gs) small ok = join (function_items W f n g.body) _ (function_fine f n g (small f) ok.0) (functions_fine (f + 1) (n + 1 + labels g.body) gs small ok.1)

  integers_fine : (bytes : List ℕ) → AreWords bytes → AllFine (map item.Integer bytes)
  integers_fine [] h = tt
  integers_fine (b ∷ bytes) h = (h.0, integers_fine bytes h.1)

  literals_fine : (k : ℕ) (texts : List (List ℕ)) → TextsAreWords texts → AllFine (literals_items k texts)
  literals_fine k [] h = tt
  literals_fine k (text ∷ texts) h = join (literal_items k text) _ (literal_named k, join (map item.Integer text) (item.Integer 0 ∷ []) (integers_fine text h.0) (omega arith, tt)) (literals_fine (k + 1) texts h.1)

  -- all items of a program
  pub program_readable : ((k : ℕ) → (W.frames k).size < 2 ^ 32) → AreNodes x (length x.start.locals) [] x.start.body → AllOf (λ g. AreNodes x (length g.locals) [] g.body) x.functions → TextsAreWords x.literals → AreReadable (program_items W x)
  program_readable small start each texts =
      let body = code_items W start_frame (Some 0) [] 1 x.start.body in
      all_read (program_items W x)
      (join (start_items W x.main x.start.body) _
      (join body (closing_items W x.main) (code_fine (length x.start.locals) start_frame (Some 0) ((jump_named 0, tt), tt) x.start.body [] [] 1 start) (jump_named 0, ((function_named W.names x.main words, tt), (tt, tt))))
      (join (functions_items W 0 (1 + labels x.start.body) x.functions) (literals_items 0 x.literals) (functions_fine 0 (1 + labels x.start.body) x.functions small each) (literals_fine 0 x.literals texts)))
