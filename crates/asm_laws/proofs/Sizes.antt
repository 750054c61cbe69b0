-- Items have at most as many words as their code weighs.
use Rattle.std.proofs.Common.{◌≡◌, ℕ, zero, suc, ◌+◌, ◌*◌, ◌≤◌, inl, inr, List, [], ◌∷◌, ◌++◌, length, map, Option, Some, None, refl, ap, arith}
use Rattle.std.specs.Prelude.{◌==◌, cond, Bool, true, false, get_or, sum_by, ◌&&◌, ◌||◌}
use Rattle.std.proofs.lemmas.List.Sums.{sum_by-cons}
use Rattle.either.specs.declared.Either.TheVariants.{Left, Right}
use Rattle.v32_isa.specs.declared.instruction.Plain.TheVariants.{HLT, WAIT, RET, MOVS, SETS}
use Rattle.v32_isa.specs.declared.instruction.One.{One as OneOf}
use Rattle.v32_isa.specs.declared.instruction.Two.{Two as TwoOf}
use Rattle.v32_isa.specs.declared.instruction.Two.TheVariants.{IADD, ISUB}
use Rattle.v32_isa.specs.declared.instruction.Mov.TheVariants.{RegImm, RegReg, RegAt, RegAtReg, RegAtOff, AtReg, AtRegReg, AtOffReg}
use Rattle.v32_isa.specs.declared.instruction.Src.TheVariants as src
use Rattle.v32_isa.specs.declared.instruction.Instr.{Instr}
use Rattle.v32_isa.specs.declared.instruction.Instr.TheVariants as instr
use Rattle.asm_items.specs.Items.{Imm}
use Rattle.asm_items.specs.declared.item.AsmItem.{AsmItem}
use Rattle.asm_items.specs.declared.item.AsmItem.TheVariants as item
use Rattle.assembler.specs.Placed.{item_size}
use Rattle.assembler.specs.Sizes.{total_size}
use Rattle.mid_code.specs.declared.placed.Where.{Where}
use Rattle.mid_code.specs.declared.placed.Where.TheVariants.{Reg, Slot}
use Rattle.mid_code.specs.Code.{OpT, ConstO, NullO, MoveO, OneO, TwoO, GlobalO, LocalO, LiteralO, CardO, StepO, ApartO, PtrTestO, LoadO, StoreO, FreshO, EndO, InO, OutO, WaitO, HaltO, NodesT, Stop, Do, Call, Choose, Block, Loop, Leave, Again, Return, FunctionT, CodeT}
use Rattle.mid_code.specs.Meaning.{call_weight}
use Rattle.mid_code.specs.States.{op_weight}
use Rattle.mid_code.specs.Invariants.{AreNodes, AllOf, in_registers, parameter_count}
use Rattle.mid_code.specs.Runs.{nodes_weight, function_weight, weight}
use Rattle.asm_laws.specs.Names.{literal_label, function_label}
use Rattle.kit_base.specs.Word.{add}
use Rattle.asm_laws.specs.Operations as operations
use Rattle.asm_laws.specs.Moves.{Move, in_order}
use Rattle.asm_laws.specs.Live.{asked_behind}
use Rattle.asm_laws.proofs.Putting.{unless_is}
use Rattle.asm_laws.specs.Operations.{Frame, Whole, arg_word, slot_word, local_word, fetches, keeps, keeps_some, hand, brings, takes, aim, lays, moves, changes, is_direct, in_place, apart, is_turned, turned_or_apart, computes, slot_arg, slot_args, moved_items, args_items, call_items, op_items, in_one, one_or_more, more_of, giving, start_frame, literal_items, literals_items, word_items, put_items, puts_items, group_items, giving_left, next_items, next_more, word_put, led_items, led_more, group_more, made_of, made_or, made_more}
use Rattle.asm_laws.specs.Pieces.{register, is_in, turned}
use Rattle.asm_laws.specs.Framing.{frame_made, frame_gone}
use Rattle.asm_laws.specs.declared.behind.Behind.{Behind}
use Rattle.asm_laws.specs.declared.behind.Behind.TheVariants.{Other, End, Turn}
use Rattle.asm_laws.specs.inner.Emitted.{labels, enclosing, jump, jump_unless, mark, choice, one_way, alone, left_to, ends, jump_when, is_stop, enclosed, leaving, left_by, items_past, code_items, entry_items, exit_items, function_items, functions_items, functions_labels, call_item, closing_items, start_items, program_items, labels_of, inside, is_end, is_turn, again, rotated, looped, is_tested, part_items, test_items}
use Rattle.asm_laws.proofs.Ordering.{in_order_few}
use Rattle.asm_laws.specs.declared.copying.Copying.{Copying}
use Rattle.asm_laws.specs.declared.made.Made.{Made}
use Rattle.asm_laws.specs.Copies.{lead, copy_of, copy_at, put_into, goes_to, is_put, source, source_put, move_item, move_items, block_of, last_item, when, back_items, copy_items, copy_or}
use Rattle.asm_laws.specs.Asks.{ask_of, ask_or, is_unread}
use Rattle.asm_laws.specs.Live.{live_soon, ahead}
use Rattle.asm_laws.proofs.Leads.{copy_turn, fill_turn, copy_is, lead_is, puts_before, puts_elim, some_put, put_elim}
use Rattle.asm_laws.proofs.InOne.{TakesWord, one_or_more_is, made_or_is}
use Rattle.asm_laws.proofs.Walked.{total_append, total_one, total_none, total_more}

abbrev size : List AsmItem → ℕ
size = total_size

fetch_size : (F : Frame) (p : Where) (r : ℕ) → item_size (fetches F p r) ≤ 2
fetch_size F (Reg q) r = omega arith
fetch_size F (Slot k) r = omega arith

keep_size : (F : Frame) (t : Where) → item_size (keeps F t) ≤ 2
keep_size F (Reg q) = omega arith
keep_size F (Slot k) = omega arith

one_item : (x : AsmItem) (n : ℕ) → item_size x ≤ n → size (x ∷ []) ≤ n
one_item x n le = omega (arith, total_one x, le)

two_items : (x y : AsmItem) (n m : ℕ) → item_size x ≤ n → item_size y ≤ m → size (x ∷ y ∷ []) ≤ n + m
two_items x y n m a b = omega (arith, total_more x (y ∷ []), total_one y, a, b)

three_items : (x y z : AsmItem) (n m k : ℕ) → item_size x ≤ n → item_size y ≤ m → item_size z ≤ k → size (x ∷ y ∷ z ∷ []) ≤ n + m + k
three_items x y z n m k a b c = let r = two_items y z m k b c in omega (arith, total_more x (y ∷ z ∷ []), r, a)

some_size : (F : Frame) (t : Option Where) → size (keeps_some F t) ≤ 2
some_size F None = omega (arith, total_none)
some_size F (Some t) = one_item (keeps F t) 2 (keep_size F t)

brings_size : (F : Frame) (p : Where) (r : ℕ) → size (brings F p r) ≤ 2
brings_size F (Reg q) r = omega (arith, total_none)
brings_size F (Slot k) r = one_item (fetches F (Slot k) r) 2 (fetch_size F (Slot k) r)

takes_size : (F : Frame) (p : Where) (m : ℕ) → size (takes F p m) ≤ 2
takes_size F p m = go (is_in p m)
  where
    go : (b : Bool) → size (cond b [] (fetches F p m ∷ [])) ≤ 2
    go true = omega (arith, total_none)
    go false = one_item (fetches F p m) 2 (fetch_size F p m)

lays_size : (F : Frame) (t : Where) → size (lays F t) ≤ 2
lays_size F (Reg q) = omega (arith, total_none)
lays_size F (Slot k) = one_item (keeps F (Slot k)) 2 (keep_size F (Slot k))

-- items that bring a word, and another one
brought_size : (F : Frame) (p : Where) (r n : ℕ) (xs : List AsmItem) → size xs ≤ n → size (brings F p r ++ xs) ≤ 2 + n
brought_size F p r n xs le = omega (arith, total_append (brings F p r) xs, brings_size F p r, le)

slots_size : (F G : Frame) (ps args : List Where) → length args ≡ length ps → size (slot_args F G ps args) + 4 * in_registers ps ≤ 4 * length args
slots_size F G [] args e = omega (arith, total_none)
slots_size F G (p ∷ ps) [] e = absurd (omega arith)
slots_size F G (Reg q ∷ ps) (a ∷ args) e = let r = slots_size F G ps args (omega arith) in omega (arith, r)
slots_size F G (Slot k ∷ ps) (a ∷ args) e =
    let o = item.Op (instr.Mov (AtOffReg 15 (Left (arg_word G k)) (hand a 9))) in
    let x : size (slot_arg F G (Slot k) a) ≤ 2 + 2 = brought_size F a 9 2 (o ∷ []) (one_item o 2 (omega arith)) in
    let r = slots_size F G ps args (omega arith) in
    omega (arith, r, x, total_append (slot_arg F G (Slot k) a) (slot_args F G ps args))

moved_size : (F : Frame) (ms : List Move) → size (moved_items F ms) ≤ 2 * length ms
moved_size F [] = omega (arith, total_none)
moved_size F ((t, s) ∷ ms) = let r = moved_size F ms in omega (arith, r, total_more (fetches F s (register t)) (moved_items F ms), fetch_size F s (register t))

args_size : (F G : Frame) (ps args : List Where) → length args ≡ length ps → size (args_items F G ps args) ≤ 4 * length args
args_size F G ps args e = omega (arith, slots_size F G ps args e, moved_size F (in_order ps args), in_order_few ps args, total_append (slot_args F G ps args) (moved_items F (in_order ps args)))

laid_size : (F : Frame) (t : Where) (x : AsmItem) (n : ℕ) → item_size x ≤ n → size (x ∷ lays F t) ≤ n + 2
laid_size F t x n le = omega (arith, total_more x (lays F t), lays_size F t, le)

moves_size : (F : Frame) (t a : Where) → size (moves F t a) ≤ 4
moves_size F t (Reg q) = go (is_in t (register q))
  where
    item_at_most : (t : Where) → item_size (item.Op (operations.keep F t (register q))) ≤ 2
    item_at_most (Reg r) = omega arith
    item_at_most (Slot k) = omega arith

    go : (b : Bool) → size (cond b [] (item.Op (operations.keep F t (register q)) ∷ [])) ≤ 4
    go true = omega (arith, total_none)
    go false = let r = one_item (item.Op (operations.keep F t (register q))) 2 (item_at_most t) in omega (arith, r)
moves_size F t (Slot k) = laid_size F t (fetches F (Slot k) (aim t)) 2 (fetch_size F (Slot k) (aim t))

changes_size : (F : Frame) (o : OneOf) (t a : Where) → size (changes F o t a) ≤ 5
changes_size F o t a = omega (arith, total_append (takes F a (aim t)) (item.Op (instr.One o (aim t)) ∷ lays F t), takes_size F a (aim t), laid_size F t (item.Op (instr.One o (aim t))) 1 (omega arith))

in_place_size : (F : Frame) (o : TwoOf) (m : ℕ) (p q : Where) → size (in_place F o m p q) ≤ 5
in_place_size F o m p q =
    let x = item.Op (instr.Two o m (src.Reg (hand q 10))) in
    let b = brought_size F q 10 1 (x ∷ []) (one_item x 1 (omega arith)) in
    omega (arith, total_append (takes F p m) (brings F q 10 ++ x ∷ []), takes_size F p m, b)

apart_size : (F : Frame) (o : TwoOf) (t p q : Where) → size (apart F o t p q) ≤ 7
apart_size F o t p q =
    let x = item.Op (instr.Two o 9 (src.Reg (hand q 10))) in
    let b = brought_size F q 10 3 (x ∷ keeps F t ∷ []) (two_items x (keeps F t) 1 2 (omega arith) (keep_size F t)) in
    omega (arith, total_more (fetches F p 9) (brings F q 10 ++ x ∷ keeps F t ∷ []), fetch_size F p 9, b)

either_size : (b : Bool) (xs ys : List AsmItem) → size xs ≤ 5 → size ys ≤ 7 → size (cond b xs ys) ≤ 7
either_size true xs ys h g = omega (arith, h)
either_size false xs ys h g = g

turned_size : (F : Frame) (o : TwoOf) (u : Option TwoOf) (t p q : Where) → size (turned_or_apart F o u t p q) ≤ 7
turned_size F o None t p q = apart_size F o t p q
turned_size F o (Some u) t p q = either_size (is_turned t p q) (in_place F u (aim t) q p) (apart F o t p q) (in_place_size F u (aim t) q p) (apart_size F o t p q)

computes_size : (F : Frame) (o : TwoOf) (t p q : Where) → size (computes F o t p q) ≤ 7
computes_size F o t p q = either_size (is_direct t q) (in_place F o (aim t) p q) (turned_or_apart F o (turned o) t p q) (in_place_size F o (aim t) p q) (turned_size F o (turned o) t p q)

both_size : (F : Frame) (o : TwoOf) (a b : Where) (n : ℕ) → n ≡ 8 → size (fetches F a 9 ∷ (brings F b 10 ++ item.Op (instr.Two o 9 (src.Reg (hand b 10))) ∷ [])) ≤ n
both_size F o a b n e =
    let x = item.Op (instr.Two o 9 (src.Reg (hand b 10))) in
    let s = brought_size F b 10 1 (x ∷ []) (one_item x 1 (omega arith)) in
    omega (arith, e, s, total_more (fetches F a 9) (brings F b 10 ++ x ∷ []), fetch_size F a 9)

pub op_size : (W : Whole) (F : Frame) (o : OpT Where) → size (op_items W F o) ≤ op_weight o
unfolding op_items
op_size W F (ConstO t n) = let r = laid_size F t (item.Op (instr.Mov (RegImm (aim t) (Left n)))) 2 (omega arith) in omega (arith, r)
op_size W F (NullO t) = let r = laid_size F t (item.Op (instr.Mov (RegImm (aim t) (Left 0xFFFFFFFF)))) 2 (omega arith) in omega (arith, r)
op_size W F (MoveO t a) = let r = moves_size F t a in omega (arith, r)
op_size W F (OneO o t a) = let r = changes_size F o t a in omega (arith, r)
op_size W F (TwoO o t a b) = let r = computes_size F o t a b in omega (arith, r)
op_size W F (GlobalO t k) = let r = laid_size F t (item.Op (instr.Mov (RegImm (aim t) (Left (get_or W.globals k 0))))) 2 (omega arith) in omega (arith, r)
op_size W F (LocalO t k) = let r = laid_size F t (item.Op (instr.Lea (aim t) 15 (Some (Left (local_word F k))))) 2 (omega arith) in omega (arith, r)
op_size W F (LiteralO t k) = let r = laid_size F t (item.Op (instr.Mov (RegImm (aim t) (Right (literal_label k))))) 2 (omega arith) in omega (arith, r)
op_size W F (CardO t) = let r = laid_size F t (item.Op (instr.Mov (RegImm (aim t) (Left 0x30000000)))) 2 (omega arith) in omega (arith, r)
op_size W F (StepO t p n) = let r = computes_size F IADD t p n in omega (arith, r)
op_size W F (ApartO t p q) = let r = computes_size F ISUB t p q in omega (arith, r)
op_size W F (PtrTestO o t p q) = let r = computes_size F o t p q in omega (arith, r)
op_size W F (LoadO t p) = let x = item.Op (instr.Mov (RegAtReg (aim t) (hand p 9))) in let r = brought_size F p 9 3 (x ∷ lays F t) (laid_size F t x 1 (omega arith)) in omega (arith, r)
op_size W F (StoreO p a) =
    let x = item.Op (instr.Mov (AtRegReg (hand p 9) (hand a 10))) in
    let r = brought_size F p 9 3 (brings F a 10 ++ x ∷ []) (brought_size F a 10 1 (x ∷ []) (one_item x 1 (omega arith))) in
    omega (arith, r)
op_size W F (FreshO k) = omega (arith, total_none)
op_size W F (EndO k) = omega (arith, total_none)
op_size W F (InO t p) = let r = laid_size F t (item.Op (instr.In (aim t) (operations.port p))) 1 (omega arith) in omega (arith, r)
op_size W F (OutO p a) = let x = item.Op (instr.Out (operations.port p) (src.Reg (hand a 9))) in let r = brought_size F a 9 1 (x ∷ []) (one_item x 1 (omega arith)) in omega (arith, r)
op_size W F WaitO = let r = one_item (item.Op (instr.Plain WAIT)) 1 (omega arith) in omega (arith, r)
op_size W F HaltO = let r = one_item (item.Op (instr.Plain HLT)) 1 (omega arith) in omega (arith, r)

taking_size : (n : ℕ) (i : Instr Imm) → TakesWord (λ v. n ≡ 8) i → (n ≡ 8) × (item_size (item.Op i) ≤ 2)
taking_size n (instr.Lea r q (Some (Left v))) h = (h.2, omega arith)
taking_size n (instr.Two o r (src.Imm (Left v))) h = (h.1, omega arith)
taking_size n (instr.Mov (RegAt r (Left v))) h = (h.1, omega arith)
taking_size n (instr.Mov (RegAtOff r q (Left v))) h = (h.2, omega arith)
taking_size n (instr.Mov (AtReg (Left v) r)) h = (h.1, omega arith)
taking_size n (instr.Mov (AtOffReg q (Left v) r)) h = (h.2, omega arith)
taking_size n (instr.Out port (src.Imm (Left v))) h = (h.1, omega arith)
taking_size n _ h = absurd h

one_size : (W : Whole) (F : Frame) (o : OpT Where) (c : NodesT Where) → size (one_or_more W F o (in_one W F o c)) ≤ op_weight o
one_size W F o c =
    one_or_more_is W F (λ xs. size xs ≤ op_weight o) (λ v. op_weight o ≡ 8) o c (λ t n e. (ap op_weight e, ap op_weight e, λ x y. ap op_weight e)) (λ t k e. (ap op_weight e, ap op_weight e, λ x y. ap op_weight e)) (λ t k e x y. ap op_weight e) (op_size W F o)
    (λ i h. let t = taking_size (op_weight o) i h in let z = one_item (item.Op i) 2 t.1 in omega (arith, z, t.0)) (
      λ p r i lt h. (let t = taking_size (op_weight o) i h in let z = two_items (fetches F p r) (item.Op i) 2 2 (fetch_size F p r) t.1 in omega (arith, z, t.0)),
      λ r q i lr lq h. (let t = taking_size (op_weight o) i h in let z = two_items (item.Op (instr.Two IADD r (src.Reg q))) (item.Op i) 2 2 (omega arith) t.1 in omega (arith, z, t.0)),
    )

whole : (k n w : ℕ) → k + n ≤ w → k ≤ w
whole k n w le = omega (arith, le)

-- the weight of operations that come first, so many of them
abbrev front_weight : NodesT Where → ℕ → ℕ
front_weight (Do o c) (suc k) = op_weight o + front_weight c k
front_weight _ k = 0

-- Words that are put into registers take a few words each, and at most three that are not put a word each.
word_size : (W : Whole) (F : Frame) (y : Copying) (o : OpT Where) (r : ℕ) → put_into o ≡ Some r → (size (word_items W F y o) ≤ 4) × (op_weight o ≡ 8)
word_size W F y = put_elim (λ o r. (size (word_items W F y o) ≤ 4) × (op_weight o ≡ 8))
    (λ r n. (let z = one_item (item.Op (instr.Mov (RegImm (register (goes_to y r)) (Left n)))) 2 (omega arith) in omega (arith, z), refl))
    (λ r k. (let z = one_item (item.Op (instr.Mov (RegImm (register (goes_to y r)) (Left (get_or W.globals k 0))))) 2 (omega arith) in omega (arith, z), refl))
    (λ r k. (let z = one_item (item.Op (instr.Lea (register (goes_to y r)) 15 (Some (Left (local_word F k))))) 2 (omega arith) in omega (arith, z), refl))
    (λ r p. (moves_size F (Reg (goes_to y r)) p, refl))

put_size : (W : Whole) (F : Frame) (y : Copying) (J : Bool) (o : OpT Where) (r : ℕ) → put_into o ≡ Some r → (size (put_items W F y J o) ≤ 4) × (op_weight o ≡ 8)
put_size W F y J o r e = let w = word_size W F y o r e in (unless_is (λ xs. size xs ≤ 4) y J (put_into o) (word_items W F y o) (omega (arith, total_none)) w.0, w.1)

puts_size : (W : Whole) (F : Frame) (z : Copying) (J : Bool) (d : NodesT Where) (k : ℕ) (y : Copying) → puts_before d ≡ Some (k, y) → size (puts_items W F z J d k) + 4 * k ≤ front_weight d (suc k)
puts_size W F z J = puts_elim (λ d k y. size (puts_items W F z J d k) + 4 * k ≤ front_weight d (suc k)) (λ b c y q. omega (arith, total_none))
    (λ o r c k y p q h. let s = put_size W F z J o r p in let t = total_append (put_items W F z J o) (puts_items W F z J c k) in let s0 = s.0 in let s1 = s.1 in omega (arith, s0, s1, t, h))

move_size : (y : Copying) (c : NodesT Where) → size (move_items y c) ≤ 3
move_size y c = go (is_put y.to false c) (source_put y.from false c) (is_put y.count false c)
  where
    one : (b : Bool) (t r : ℕ) → size (move_item b t r) ≤ 1
    one true t r = omega (arith, total_none)
    one false t r = one_item (item.Op (instr.Mov (RegReg t (register r)))) 1 (omega arith)

    go : (a b d : Bool) → size (move_item a 13 y.to ++ (move_item b 12 (source y.from y) ++ move_item d 11 y.count)) ≤ 3
    go a b d =
        let s = total_append (move_item a 13 y.to) (move_item b 12 (source y.from y) ++ move_item d 11 y.count) in
        let t = total_append (move_item b 12 (source y.from y)) (move_item d 11 y.count) in
        omega (arith, s, t, one a 13 y.to, one b 12 (source y.from y), one d 11 y.count)

group_size : (W : Whole) (F : Frame) (o : OpT Where) (c : NodesT Where) → size (group_items W F o c) ≤ op_weight o + front_weight c (group_more W F o c)
group_size W F o c = whole (is_unread (Do o c)) (go (lead (Do o c)) refl)
  where
    whole : (b : Bool) → size (led_items W F o c (lead (Do o c))) ≤ op_weight o + front_weight c (led_more W F o c (lead (Do o c))) →
        size (cond b [] (led_items W F o c (lead (Do o c)))) ≤ op_weight o + front_weight c (cond b 0 (led_more W F o c (lead (Do o c))))
    whole true h = omega (arith, total_none)
    whole false h = h

    go : (x : Option (ℕ × Copying)) → lead (Do o c) ≡ x → size (led_items W F o c x) ≤ op_weight o + front_weight c (led_more W F o c x)
    go None e = let s = one_size W F o c in omega (arith, s)
    go (Some (k, y)) e =
        let h = lead_is (Do o c) k y e in
        let J = asked_behind F.lasting c y.one in
        let s = total_append (puts_items W F y J (Do o c) k) (move_items y (Do o c)) in
        omega (arith, s, puts_size W F y J (Do o c) k y h.puts, move_size y (Do o c), some_put (Do o c) k y h.puts)

-- what is given back right behind is made of fewer words than the operation weighs
made_size_of : (W : Whole) (F : Frame) (o : OpT Where) (c : NodesT Where) → size (made_or F (made_of W F o c) []) ≤ op_weight o
made_size_of W F o c =
    made_or_is W F (λ xs. size xs ≤ op_weight o) (λ v. op_weight o ≡ 8) o c [] (λ t n e. (ap op_weight e, ap op_weight e, λ x y. ap op_weight e)) (λ t k e. (ap op_weight e, ap op_weight e, λ x y. ap op_weight e))
    (λ i h. let t = taking_size (op_weight o) i h in let z = one_item (item.Op i) 2 t.1 in omega (arith, z, t.0)) (
      λ p r i lt h. (let t = taking_size (op_weight o) i h in let z = two_items (fetches F p r) (item.Op i) 2 2 (fetch_size F p r) t.1 in omega (arith, z, t.0)),
      λ r q i lr lq h. (let t = taking_size (op_weight o) i h in let z = two_items (item.Op (instr.Two IADD r (src.Reg q))) (item.Op i) 2 2 (omega arith) t.1 in omega (arith, z, t.0)),
    )
    (λ u t a b e. both_size F u a b (op_weight o) (ap op_weight e)) (omega (arith, total_none))

next_size : (W : Whole) (F : Frame) (o : OpT Where) (c : NodesT Where) → size (next_items W F o c) ≤ op_weight o + front_weight c (next_more W F o c)
unfolding made_of
next_size W F o c = go (made_of W F o c) (made_size_of W F o c)
  where
    go : (x : Option (ℕ × Made)) → size (made_or F x []) ≤ op_weight o → size (made_or F x (group_items W F o c)) ≤ op_weight o + front_weight c (made_more x (group_more W F o c))
    go None h = group_size W F o c
    go (Some (k, y)) h = omega (arith, h)

-- a block move takes fewer words than its loop weighs
more_size : (x : AsmItem) (xs : List AsmItem) (k n : ℕ) → item_size x ≤ k → size xs ≤ n → size (x ∷ xs) ≤ k + n
more_size x xs k n a b = omega (arith, total_more x xs, a, b)

asked_size : (b : Bool) (x : AsmItem) (k : ℕ) → item_size x ≤ k → size (when b x) ≤ k
asked_size true x k le = one_item x k le
asked_size false x k le = omega (arith, total_none)

copy_size : (y : Copying) (J : ℕ → Bool) → size (copy_items y J) ≤ 10
copy_size y J = go y.from
  where
    go : (f : Option ℕ) → size (item.Op (instr.Plain (block_of f)) ∷ back_items f y J) ≤ 10
    go None =
        let c = when (J y.count) (item.Op (instr.Mov (RegReg (register y.count) 11))) in
        let t = when (J y.to) (last_item y.to 13) in
        let s = total_append t c in
        let z = total_more (item.Op (instr.Plain SETS)) (t ++ c) in
        let x1 = asked_size (J y.to) (last_item y.to 13) 2 (omega arith) in
        let x2 = asked_size (J y.count) (item.Op (instr.Mov (RegReg (register y.count) 11))) 1 (omega arith) in
        let x0 : item_size (item.Op (instr.Plain SETS)) ≤ 1 = omega arith in
        omega (arith, x0, x1, x2, s, z)
    go (Some f) =
        let d = when (J y.cell) (item.Op (instr.Mov (RegAtReg (register y.cell) (register y.to)))) in
        let c = when (J y.count) (item.Op (instr.Mov (RegReg (register y.count) 11))) in
        let t = when (J y.to || J y.cell) (last_item y.to 13) in
        let l = when (J f) (last_item f 12) in
        let s3 = total_append c d in
        let s2 = total_append t (c ++ d) in
        let s1 = total_append l (t ++ (c ++ d)) in
        let z = total_more (item.Op (instr.Plain MOVS)) (l ++ (t ++ (c ++ d))) in
        let x1 = asked_size (J f) (last_item f 12) 2 (omega arith) in
        let x2 = asked_size (J y.to || J y.cell) (last_item y.to 13) 2 (omega arith) in
        let x3 = asked_size (J y.count) (item.Op (instr.Mov (RegReg (register y.count) 11))) 1 (omega arith) in
        let x4 = asked_size (J y.cell) (item.Op (instr.Mov (RegAtReg (register y.cell) (register y.to)))) 1 (omega arith) in
        let x0 : item_size (item.Op (instr.Plain MOVS)) ≤ 1 = omega arith in
        omega (arith, x0, x1, x2, x3, x4, s1, s2, s3, z)

copied_size : (done : ℕ) (b : NodesT Where) (J : ℕ → Bool) (xs : List AsmItem) → size xs ≤ nodes_weight b + 8 → size (copy_or (copy_at done b) J xs) ≤ nodes_weight b + 8
copied_size zero b J xs le = le
copied_size (suc done) b J xs le = go (copy_of b) refl
  where
    go : (x : Option Copying) → copy_of b ≡ x → size (copy_or x J xs) ≤ nodes_weight b + 8
    go None e = le
    go (Some y) e =
        let z = copy_size y J in
        elim (copy_is b y e) [
          | inl q ↦ let w : nodes_weight b ≡ nodes_weight (copy_turn q.registers) = ap nodes_weight q.nodes in omega (arith, w, z)
          | inr q ↦ let w : nodes_weight b ≡ nodes_weight (fill_turn q.registers) = ap nodes_weight q.nodes in omega (arith, w, z)
        ]

pub call_size : (W : Whole) (F : Frame) (t : Option Where) (g : ℕ) (args : List Where) → length args ≡ length (W.params g) → size (call_items W F t g args) ≤ call_weight args
call_size W F t g args ok =
    let ps = W.params g in
    let G = W.frames g in
    let r = args_size F G ps args ok in
    let c = total_append (args_items F G ps args) (call_item W g ∷ keeps_some F t) in
    let b = total_more (call_item W g) (keeps_some F t) in
    omega (arith, r, c, b, some_size F t)

giving_size : (F : Frame) (p : Option Where) → size (giving F p) ≤ 2
giving_size F None = omega (arith, total_none)
giving_size F (Some p) = one_item (fetches F p 9) 2 (fetch_size F p 9)

choice_size : (F : Frame) (p : Where) (n m wa wb : ℕ) (a b : List AsmItem) → size a ≤ wa → size b ≤ wb → size (choice F p n m a b) ≤ wa + wb + 8
choice_size F p n m wa wb a b la lb =
    let inner = a ++ jump m ∷ mark n ∷ [] in
    let j = jump_unless (hand p 9) n in
    let first = brings F p 9 ++ j ∷ inner in
    let x = total_append first (b ++ mark m ∷ []) in
    let x1 = total_append (brings F p 9) (j ∷ inner) in
    let x2 = total_more j inner in
    let x3 = total_append a (jump m ∷ mark n ∷ []) in
    let x4 = two_items (jump m) (mark n) 2 0 (omega arith) (omega arith) in
    let x5 = total_append b (mark m ∷ []) in
    let x6 = one_item (mark m) 0 (omega arith) in
    omega (arith, x, x1, x2, x3, x4, x5, x6, la, lb, brings_size F p 9)

one_way_size : (F : Frame) (p : Where) (n w : ℕ) (a : List AsmItem) → size a ≤ w → size (one_way F p n a) ≤ w + 8
one_way_size F p n w a le =
    let inner = a ++ mark n ∷ [] in
    let j = jump_unless (hand p 9) n in
    let x1 = total_append (brings F p 9) (j ∷ inner) in
    let x2 = total_more j inner in
    let x3 = total_append a (mark n ∷ []) in
    let x4 = one_item (mark n) 0 (omega arith) in
    omega (arith, x1, x2, x3, x4, le, brings_size F p 9)

alone_size : (F : Frame) (p : Where) (n w : ℕ) (to : Option ℕ) (a : List AsmItem) → size a ≤ w → size (alone F p n to a) ≤ w + 8
alone_size F p n w None a le = one_way_size F p n w a le
alone_size F p n w (Some l) a le =
    let j = jump_when (hand p 9) l in
    let x1 = total_append (brings F p 9) (j ∷ mark n ∷ []) in
    let x2 = two_items j (mark n) 2 0 (omega arith) (omega arith) in
    omega (arith, x1, x2, brings_size F p 9)

chosen_size : (F : Frame) (p : Where) (n m wa wb : ℕ) (t : Bool) (to : Option ℕ) (one a b : List AsmItem) → size one ≤ wa → size a ≤ wa → size b ≤ wb → size (cond t (alone F p n to one) (choice F p n m a b)) ≤ wa + wb + 8
chosen_size F p n m wa wb true to one a b lo la lb = let r = alone_size F p n wa to one lo in omega (arith, r)
chosen_size F p n m wa wb false to one a b lo la lb = choice_size F p n m wa wb a b la lb

enclosed_size : (n w : ℕ) (a : List AsmItem) → size a ≤ w → size (enclosed n a) ≤ w + 8
enclosed_size n w a le =
    let x1 = total_more (mark n) (a ++ mark (n + 1) ∷ []) in
    let x2 = total_append a (mark (n + 1) ∷ []) in
    let x3 = one_item (mark (n + 1)) 0 (omega arith) in
    omega (arith, x1, x2, x3, le)

gone_size : (n : ℕ) → size (frame_gone n) ≤ 3
gone_size n = go (n == 0)
  where
    go : (b : Bool) → size (cond b (item.Op (instr.Plain RET) ∷ []) (item.Op (instr.Two IADD 15 (src.Imm (Left n))) ∷ item.Op (instr.Plain RET) ∷ [])) ≤ 3
    go true = one_item (item.Op (instr.Plain RET)) 3 (omega arith)
    go false = two_items (item.Op (instr.Two IADD 15 (src.Imm (Left n)))) (item.Op (instr.Plain RET)) 2 1 (omega arith) (omega arith)

leaving_size : (F : Frame) (out : Option ℕ) → size (leaving F out) ≤ 3
leaving_size F None = gone_size F.size
leaving_size F (Some n) = one_item (jump n) 3 (omega arith)

left_size : (F : Frame) (p : Option Where) (done : ℕ) → size (giving_left F p done) ≤ 2
left_size F p zero = giving_size F p
left_size F p (suc k) = omega (arith, total_none)

left_by_size : (F : Frame) (out : Option ℕ) (last : Bool) → size (left_by F out last) ≤ 3
left_by_size F out true = omega (arith, total_none)
left_by_size F out false = leaving_size F out

jump_size : (n : ℕ) → item_size (jump n) ≤ 2
jump_size n = omega arith

again_size : (ls : List ℕ) (k : ℕ) (last : Behind) → size (again ls k last) ≤ 8
again_size ls k last = go ((k == 0) && is_turn last)
  where
    go : (b : Bool) → size (cond b [] (jump (enclosing ls k) ∷ [])) ≤ 8
    go true = omega (arith, total_none)
    go false = one_item (jump (enclosing ls k)) 8 (omega arith)

rotated_size : (n w : ℕ) (part test : List AsmItem) → size part + size test ≤ w → size (rotated n part test) ≤ w + 8
rotated_size n w part test le =
    let last = mark (n + 1) ∷ [] in
    let x1 = total_more (jump n) (mark (n + 2) ∷ (part ++ mark n ∷ (test ++ last))) in
    let x2 = total_more (mark (n + 2)) (part ++ mark n ∷ (test ++ last)) in
    let x3 = total_append part (mark n ∷ (test ++ last)) in
    let x4 = total_more (mark n) (test ++ last) in
    let x5 = total_append test last in
    let x6 = one_item (mark (n + 1)) 0 (omega arith) in
    let j = jump_size n in
    omega (arith, x1, x2, x3, x4, x5, x6, j, le)

ask_size : (y : Option ℕ) (b : NodesT Where) (J : ℕ → Bool) (xs : List AsmItem) → size xs ≤ nodes_weight b + 8 → size (ask_or y J xs) ≤ nodes_weight b + 8
ask_size None b J xs le = le
ask_size (Some f) b J xs le = let z = asked_size (J f) (item.Op (instr.Mov (RegImm (register f) (Left 0)))) 2 (omega arith) in omega (arith, z)

looped_size : (t : Bool) (n w : ℕ) (all part test : List AsmItem) → size all ≤ w → size part + size test ≤ w → size (looped t n all part test) ≤ w + 8
looped_size true n w all part test la le = rotated_size n w part test le
looped_size false n w all part test la le = enclosed_size n w all la

test_size : (F : Frame) (p : Where) (to : ℕ) (xs : List AsmItem) → size (brings F p 9 ++ jump_when (hand p 9) to ∷ xs) ≤ 8 + size xs
test_size F p to xs =
    let x1 = total_append (brings F p 9) (jump_when (hand p 9) to ∷ xs) in
    let x2 = total_more (jump_when (hand p 9) to) xs in
    omega (arith, x1, x2, brings_size F p 9)

-- the parameters of functions are those of the program
abbrev pub Counts : CodeT Where → Whole → Type 0
Counts x W = (g n : ℕ) → parameter_count x g ≡ Some n → n ≡ length (W.params g)

module _ (x : CodeT Where) (W : Whole) (counts : Counts x W) (m : ℕ) (F : Frame) (out : Option ℕ) where
  tests_size : (c : NodesT Where) (done : ℕ) (bs : List Bool) (to : ℕ) → AreNodes x m bs c → size (test_items W F out to c done) + front_weight c done ≤ nodes_weight c
  tests_size Stop done bs to ok = omega (arith, total_none)
  tests_size (Do o c) zero bs to ok =
      let more = next_more W F o c in
      let t = total_append (next_items W F o c) (test_items W F out to c more) in
      omega (arith, t, next_size W F o c, tests_size c more bs to ok.1)
  tests_size (Do o c) (suc done) bs to ok = let r = tests_size c done bs to ok.1 in omega (arith, r)
  tests_size (Call t g args c) done bs to ok =
      let s = total_append (call_items W F t g args) (test_items W F out to c 0) in
      omega (arith, s, call_size W F t g args (counts g (length args) ok.0), tests_size c 0 bs to ok.1)
  tests_size (Choose p a b c) done bs to ok = let r = tests_size c 0 bs to ok.2 in omega (arith, r, test_size F p to (test_items W F out to c 0))
  tests_size (Block b c) done bs to ok = let r = tests_size c 0 bs to ok.1 in omega (arith, r)
  tests_size (Loop b c) done bs to ok = let r = tests_size c 0 bs to ok.1 in omega (arith, r)
  tests_size (Leave k c) done bs to ok = let r = tests_size c 0 bs to ok.1 in omega (arith, r)
  tests_size (Again k c) done bs to ok = let r = tests_size c 0 bs to ok.1 in omega (arith, r)
  tests_size (Return p c) done bs to ok =
      let s = total_append (giving_left F p done) (test_items W F out to c 0) in
      omega (arith, s, left_size F p done, tests_size c 0 bs to ok)

  mutual
    past_size : (c : NodesT Where) (done : ℕ) (last : Behind) (bs : List Bool) (ls : List ℕ) (n : ℕ) → AreNodes x m bs c → size (items_past W F out last ls n c done) + front_weight c done ≤ nodes_weight c
    past_size Stop done last bs ls n ok = omega (arith, total_none)
    past_size (Do o c) zero last bs ls n ok =
        let more = next_more W F o c in
        let t = total_append (next_items W F o c) (items_past W F out last ls n c more) in
        omega (arith, t, next_size W F o c, past_size c more last bs ls n ok.1)
    past_size (Do o c) (suc done) last bs ls n ok = let r = past_size c done last bs ls n ok.1 in omega (arith, r)
    past_size (Call t g args c) done last bs ls n ok = let s = total_append (call_items W F t g args) (items_past W F out last ls n c 0) in omega (arith, s, call_size W F t g args (counts g (length args) ok.0), past_size c 0 last bs ls n ok.1)
    past_size (Choose p a b c) done last bs ls n ok =
        let xs = cond (is_stop b) (alone F p n (left_to ls a) (items_past W F out (ends last c) ls (n + 1) a 0)) (choice F p n (n + 1 + labels a) (items_past W F out Other ls (n + 1) a 0) (items_past W F out (ends last c) ls (n + 1 + labels a + 1) b 0)) in
        let s = total_append xs (items_past W F out last ls (n + (2 + labels a + labels b)) c 0) in
        let h = chosen_size F p n (n + 1 + labels a) (nodes_weight a) (nodes_weight b) (is_stop b) (left_to ls a) _ _ _ (whole _ _ _ (past_size a 0 (ends last c) bs ls (n + 1) ok.0)) (whole _ _ _ (past_size a 0 Other bs ls (n + 1) ok.0)) (whole _ _ _ (past_size b 0 (ends last c) bs ls (n + 1 + labels a + 1) ok.1)) in
        omega (arith, s, h, past_size c 0 last bs ls (n + (2 + labels a + labels b)) ok.2)
    past_size (Block b c) done last bs ls n ok =
        let s = total_append (enclosed n (items_past W F out (inside (ends last c)) (ls ++ n ∷ []) (n + 2) b 0)) (items_past W F out last ls (n + (2 + labels b)) c 0) in
        let h = enclosed_size n (nodes_weight b) _ (whole _ _ _ (past_size b 0 (inside (ends last c)) (false ∷ bs) (ls ++ n ∷ []) (n + 2) ok.0)) in
        omega (arith, s, h, past_size c 0 last bs ls (n + (2 + labels b)) ok.1)
    past_size (Loop b c) done last bs ls n ok =
        let all = items_past W F out (inside (ends last c)) (ls ++ n ∷ []) (n + 2) b 0 in
        let part = part_items W F out (ls ++ n ∷ []) (n + 2) b in
        let test = test_items W F out (n + 2) b 0 in
        let asked = live_soon ahead F.lasting c in
        let turns = looped (is_tested b) n all part test in
        let s = total_append (ask_or (ask_of b) asked (copy_or (copy_at done b) asked turns)) (items_past W F out last ls (n + (2 + labels b)) c 0) in
        let l = looped_size (is_tested b) n (nodes_weight b) all part test (whole _ _ _ (past_size b 0 (inside (ends last c)) (true ∷ bs) (ls ++ n ∷ []) (n + 2) ok.0)) (whole _ _ _ (parts_size b 0 (true ∷ bs) (ls ++ n ∷ []) (n + 2) (n + 2) ok.0)) in
        let h = ask_size (ask_of b) b asked (copy_or (copy_at done b) asked turns) (copied_size done b asked turns l) in
        omega (arith, s, h, past_size c 0 last bs ls (n + (2 + labels b)) ok.1)
    past_size (Leave k c) done last bs ls n ok = let j = jump_size (add (enclosing ls k) 1) in let s = total_more (jump (add (enclosing ls k) 1)) (items_past W F out last ls n c 0) in omega (arith, s, j, past_size c 0 last bs ls n ok.1)
    past_size (Again k c) done last bs ls n ok = let s = total_append (again ls k (ends last c)) (items_past W F out last ls n c 0) in omega (arith, s, again_size ls k (ends last c), past_size c 0 last bs ls n ok.1)
    past_size (Return p c) done last bs ls n ok =
        let left = left_by F out (is_end (ends last c)) in
        let rest = items_past W F out last ls n c 0 in
        let s = total_append (giving_left F p done) (left ++ rest) in
        let t = total_append left rest in
        omega (arith, s, t, left_size F p done, left_by_size F out (is_end (ends last c)), past_size c 0 last bs ls n ok)

    parts_size : (c : NodesT Where) (done : ℕ) (bs : List Bool) (ls : List ℕ) (n to : ℕ) → AreNodes x m bs c → size (part_items W F out ls n c) + size (test_items W F out to c done) + front_weight c done ≤ nodes_weight c
    parts_size (Do o c) zero bs ls n to ok =
        let more = next_more W F o c in
        let t = total_append (next_items W F o c) (test_items W F out to c more) in
        omega (arith, t, next_size W F o c, parts_size c more bs ls n to ok.1)
    parts_size (Do o c) (suc done) bs ls n to ok = let r = parts_size c done bs ls n to ok.1 in omega (arith, r)
    parts_size (Choose p a b c) done bs ls n to ok =
        let r = past_size a 0 Turn bs ls (n + 1) ok.0 in
        let t = tests_size c 0 bs to ok.2 in
        omega (arith, r, t, test_size F p to (test_items W F out to c 0))
    parts_size Stop done bs ls n to ok = omega (arith, total_none)
    parts_size (Call t g args c) done bs ls n to ok =
        let s = total_append (call_items W F t g args) (test_items W F out to c 0) in
        omega (arith, s, call_size W F t g args (counts g (length args) ok.0), parts_size c 0 bs ls n to ok.1)
    parts_size (Block b c) done bs ls n to ok = let r = tests_size c 0 bs to ok.1 in omega (arith, total_none, r)
    parts_size (Loop b c) done bs ls n to ok = let r = tests_size c 0 bs to ok.1 in omega (arith, total_none, r)
    parts_size (Leave k c) done bs ls n to ok = let r = tests_size c 0 bs to ok.1 in omega (arith, total_none, r)
    parts_size (Again k c) done bs ls n to ok = let r = tests_size c 0 bs to ok.1 in omega (arith, total_none, r)
    parts_size (Return p c) done bs ls n to ok =
        let s = total_append (giving_left F p done) (test_items W F out to c 0) in
        omega (arith, total_none, s, left_size F p done, tests_size c 0 bs to ok)

  pub code_size : (c : NodesT Where) (bs : List Bool) (ls : List ℕ) (n : ℕ) → AreNodes x m bs c → size (code_items W F out ls n c) ≤ nodes_weight c
  code_size c bs ls n ok = let s = past_size c 0 End bs ls n ok in omega (arith, s)

-- ---- the whole program

made_size : (n : ℕ) → size (frame_made n) ≤ 4
made_size n = go (n == 0)
  where
    go : (b : Bool) → size (cond b [] (item.Op (instr.Two ISUB 15 (src.Imm (Left n))) ∷ [])) ≤ 4
    go true = omega (arith, total_none)
    go false = one_item (item.Op (instr.Two ISUB 15 (src.Imm (Left n)))) 4 (omega arith)

module _ (x : CodeT Where) (W : Whole) (counts : Counts x W) where
  abbrev Sound : FunctionT Where → Type 0
  Sound f = AreNodes x (length f.locals) [] f.body

  function_size : (f n : ℕ) (g : FunctionT Where) → Sound g → size (function_items W f n g.body) ≤ function_weight g
  function_size f n g ok =
      let F = W.frames f in
      let x0 = total_append (entry_items W f F) (code_items W F None [] (n + 1) g.body ++ exit_items n F) in
      let y = total_append (code_items W F None [] (n + 1) g.body) (exit_items n F) in
      let e1 = total_more (item.Label (function_label W.names f)) (frame_made F.size) in
      let e2 = total_more (mark n) (frame_gone F.size) in
      let made = made_size F.size in
      let gone = gone_size F.size in
      omega (arith, x0, y, e1, e2, made, gone, code_size x W counts (length g.locals) F None g.body [] [] (n + 1) ok)

  functions_size : (f n : ℕ) (gs : List (FunctionT Where)) → AllOf Sound gs → size (functions_items W f n gs) ≤ sum_by function_weight gs
  functions_size f n [] ok = omega (arith, total_none)
  functions_size f n (g ∷ gs) ok =
      let t = total_append (function_items W f n g.body) (functions_items W (f + 1) (n + 1 + labels g.body) gs) in
      omega (arith, t, function_size f n g ok.0, functions_size (f + 1) (n + 1 + labels g.body) gs ok.1, sum_by-cons function_weight g gs)

  start_size : (main : ℕ) (g : FunctionT Where) → Sound g → size (start_items W main g.body) ≤ nodes_weight g.body + 4
  start_size main g ok =
      let y = total_append (code_items W start_frame (Some 0) [] 1 g.body) (closing_items W main) in
      let c = three_items (mark 0) (call_item W main) (item.Op (instr.Plain HLT)) 0 2 1 (omega arith) (omega arith) (omega arith) in
      omega (arith, y, c, code_size x W counts (length g.locals) start_frame (Some 0) g.body [] [] 1 ok)

integers_size : (bytes : List ℕ) → size (map item.Integer bytes) ≡ length bytes
integers_size [] = total_none
integers_size (b ∷ bytes) = let r = integers_size bytes in let m = total_more (item.Integer b) (map item.Integer bytes) in omega (arith, r, m)

abbrev pub text_words : List ℕ → ℕ
text_words text = length text + 1

pub literals_size : (k : ℕ) (texts : List (List ℕ)) → size (literals_items k texts) ≡ sum_by text_words texts
literals_size k [] = total_none
literals_size k (text ∷ texts) =
    let x = total_append (literal_items k text) (literals_items (k + 1) texts) in
    let y = total_more (item.Label (literal_label k)) (map item.Integer text ++ item.Integer 0 ∷ []) in
    let z = total_append (map item.Integer text) (item.Integer 0 ∷ []) in
    omega (arith, x, y, z, integers_size text, total_one (item.Integer 0), literals_size (k + 1) texts, sum_by-cons text_words text texts)

-- at most the weight, the words of the literals and 4 more
pub program_size : (x : CodeT Where) (W : Whole) → Counts x W → AreNodes x (length x.start.locals) [] x.start.body → AllOf (λ f. AreNodes x (length f.locals) [] f.body) x.functions → size (program_items W x) ≤ weight x + sum_by text_words x.literals + 4
program_size x W counts ok each =
    let s = total_append (start_items W x.main x.start.body) (functions_items W 0 (1 + labels x.start.body) x.functions ++ literals_items 0 x.literals) in
    let y = total_append (functions_items W 0 (1 + labels x.start.body) x.functions) (literals_items 0 x.literals) in
    omega (arith, s, y, start_size x W counts x.main x.start ok, functions_size x W counts 0 (1 + labels x.start.body) x.functions each, literals_size 0 x.literals)

-- code takes at most a label for each four of its weight
nodes_few : (c : NodesT Where) → 4 * labels c ≤ nodes_weight c
nodes_few Stop = omega arith
nodes_few (Do o c) = let r = nodes_few c in omega (arith, r)
nodes_few (Call t g args c) = let r = nodes_few c in omega (arith, r)
nodes_few (Choose p a b c) = omega (arith, nodes_few a, nodes_few b, nodes_few c)
nodes_few (Block b c) = omega (arith, nodes_few b, nodes_few c)
nodes_few (Loop b c) = omega (arith, nodes_few b, nodes_few c)
nodes_few (Leave k c) = omega (arith, nodes_few c)
nodes_few (Again k c) = omega (arith, nodes_few c)
nodes_few (Return p c) = omega (arith, nodes_few c)

functions_few : (gs : List (FunctionT Where)) → 4 * functions_labels gs ≤ sum_by function_weight gs
functions_few [] = omega arith
functions_few (g ∷ gs) = omega (arith, nodes_few g.body, functions_few gs, sum_by-cons function_weight g gs)

pub program_few : (x : CodeT Where) → 4 * labels_of x ≤ weight x + 4
program_few x = omega (arith, nodes_few x.start.body, functions_few x.functions)

pub few_texts : (texts : List (List ℕ)) → length texts ≤ sum_by text_words texts
few_texts [] = omega arith
few_texts (text ∷ texts) = omega (arith, few_texts texts, sum_by-cons text_words text texts)

pub few_functions : (gs : List (FunctionT Where)) → length gs ≤ sum_by function_weight gs
few_functions [] = omega arith
few_functions (g ∷ gs) = omega (arith, few_functions gs, sum_by-cons function_weight g gs)
