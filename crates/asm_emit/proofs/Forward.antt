-- In code without a loop each item goes on.
use Rattle.std.proofs.Common.{◌≡◌, ℕ, zero, suc, ◌+◌, ◌-◌, ◌^◌, ◌<◌, inl, inr, Bool, true, false, List, [], ◌∷◌, ◌++◌, length, Option, Some, None, refl, sym, subst, arith, append_assoc, length-append}
use Rattle.std.specs.Prelude.{◌==◌, cond}
use Rattle.kit_base.specs.Word.{add}
use Rattle.either.specs.declared.Either.TheVariants.{Left}
use Rattle.v32_isa.specs.declared.instruction.Plain.TheVariants.{RET}
use Rattle.v32_isa.specs.declared.instruction.One.{One}
use Rattle.v32_isa.specs.declared.instruction.One.TheVariants.{CIB, NOT, BNOT, ISGN, IABS}
use Rattle.v32_isa.specs.declared.instruction.Mov.TheVariants.{RegAt, RegAtOff, AtReg, AtOffReg}
use Rattle.v32_isa.specs.declared.instruction.Two.{Two}
use Rattle.v32_isa.specs.declared.instruction.Two.TheVariants.{IADD, ISUB}
use Rattle.v32_isa.specs.declared.instruction.Src.TheVariants as src
use Rattle.v32_isa.specs.declared.instruction.Instr.{Instr}
use Rattle.v32_isa.specs.declared.instruction.Instr.TheVariants as instr
use Rattle.asm_items.specs.Items.{Imm}
use Rattle.asm_items.specs.declared.item.AsmItem.{AsmItem}
use Rattle.asm_items.specs.declared.item.AsmItem.TheVariants as item
use Rattle.mid_code.specs.declared.placed.Where.{Where}
use Rattle.mid_code.specs.declared.placed.Where.TheVariants.{Reg, Slot}
use Rattle.mid_code.specs.Code.{OpT, ConstO, NullO, MoveO, OneO, TwoO, GlobalO, LocalO, LiteralO, CardO, StepO, ApartO, PtrTestO, LoadO, StoreO, FreshO, EndO, InO, OutO, WaitO, HaltO, NodesT, Stop, Do, Call, Choose, Block, Loop, Leave, Again, Return, CodeT}
use Rattle.mid_code.specs.Invariants.{IsOne, IsOp, IsLoop, AreNodes}
use Rattle.mid_code.specs.Calls.{loops, CallsTo}
use Rattle.asm_laws.specs.Names.{jump_label, function_label}
use Rattle.asm_laws.specs.Labelled.{HasLabel}
use Rattle.asm_laws.specs.Moves.{Move, in_order}
use Rattle.asm_laws.specs.declared.copying.Copying.{Copying}
use Rattle.asm_laws.specs.Copies.{put_into, goes_to, is_put, source, source_put, move_item, move_items}
use Rattle.asm_laws.specs.Live.{asked_behind}
use Rattle.asm_laws.proofs.Putting.{unless_is}
use Rattle.asm_laws.specs.Operations.{Frame, Whole, keep, fetches, keeps, keeps_some, hand, brings, takes, aim, lays, moves, changes, is_direct, in_place, apart, is_turned, turned_or_apart, computes, slot_arg, slot_args, moved_items, args_items, call_items, op_items, in_one, one_or_more, giving, word_items, put_items, puts_items, group_items, giving_left, next_items, next_more}
use Rattle.asm_laws.specs.Pieces.{register, is_in, turned}
use Rattle.asm_laws.specs.Framing.{frame_made, frame_gone}
use Rattle.asm_laws.specs.declared.behind.Behind.{Behind}
use Rattle.asm_laws.specs.declared.behind.Behind.TheVariants.{Other, End}
use Rattle.asm_laws.specs.inner.Emitted.{labels, enclosing, jump, jump_unless, mark, first_part, second_part, choice, one_way, alone, left_to, ends, jump_when, is_stop, enclosed, left_by, items_past, code_items, call_item, own_items, exit_items, inside, is_end}
use Rattle.asm_emit.specs.EmittedFrom.{IsCalled, GoesOn, AllGoOn}
use Rattle.asm_laws.proofs.Enclosing.{innermost, further}
use Rattle.asm_laws.proofs.InOne.{TakesWord, one_or_more_is, group_is, next_is}
use Rattle.asm_laws.proofs.Leaving.{left_is}
use Rattle.asm_laws.proofs.Known.{marked_left, marked_right, function_there}

module _ (names : List (List ℕ)) (body : NodesT Where) where
  -- each of these items goes on to those behind it, or to later ones
  abbrev Ahead : List AsmItem → List AsmItem → Type 0
  Ahead [] later = Unit {0}
  Ahead (x ∷ xs) later = GoesOn names body x (xs ++ later) × Ahead xs later

  ahead_append : (xs ys later : List AsmItem) → Ahead xs (ys ++ later) → Ahead ys later → Ahead (xs ++ ys) later
  ahead_append [] ys later h g = g
  ahead_append (x ∷ xs) ys later h g = (subst (GoesOn names body x) (sym (append_assoc xs ys later)) h.0, ahead_append xs ys later h.1 g)

  ahead_all : (xs ys : List AsmItem) → Ahead xs ys → AllGoOn names body ys → AllGoOn names body (xs ++ ys)
  ahead_all [] ys h g = g
  ahead_all (x ∷ xs) ys h g = (h.0, ahead_all xs ys h.1 g)

  -- ---- operations

  fetch_ahead : (F : Frame) (p : Where) (r : ℕ) (later : List AsmItem) → GoesOn names body (fetches F p r) later
  fetch_ahead F (Reg q) r later = tt
  fetch_ahead F (Slot k) r later = tt

  keep_ahead : (F : Frame) (t : Where) (later : List AsmItem) → GoesOn names body (keeps F t) later
  keep_ahead F (Reg q) later = tt
  keep_ahead F (Slot k) later = tt

  some_ahead : (F : Frame) (t : Option Where) (later : List AsmItem) → Ahead (keeps_some F t) later
  some_ahead F None later = tt
  some_ahead F (Some t) later = (keep_ahead F t later, tt)

  one_ahead : (o : One) (m : ℕ) (later : List AsmItem) → IsOne o → GoesOn names body (item.Op (instr.One o m)) later
  one_ahead CIB m later h = tt
  one_ahead NOT m later h = tt
  one_ahead BNOT m later h = tt
  one_ahead ISGN m later h = tt
  one_ahead IABS m later h = tt
  one_ahead _ m later h = absurd h

  brought_ahead : (F : Frame) (p : Where) (r : ℕ) (xs later : List AsmItem) → Ahead xs later → Ahead (brings F p r ++ xs) later
  brought_ahead F (Reg q) r xs later h = h
  brought_ahead F (Slot k) r xs later h = (tt, h)

  one_of_both : (b : Bool) (xs ys later : List AsmItem) → Ahead xs later → Ahead ys later → Ahead (cond b xs ys) later
  one_of_both true xs ys later h g = h
  one_of_both false xs ys later h g = g

  takes_ahead : (F : Frame) (p : Where) (m : ℕ) (later : List AsmItem) → Ahead (takes F p m) later
  takes_ahead F p m later = one_of_both (is_in p m) [] (fetches F p m ∷ []) later tt (fetch_ahead F p m _, tt)

  lays_ahead : (F : Frame) (t : Where) (later : List AsmItem) → Ahead (lays F t) later
  lays_ahead F (Reg q) later = tt
  lays_ahead F (Slot k) later = (tt, tt)

  keep_from_ahead : (F : Frame) (t : Where) (r : ℕ) (later : List AsmItem) → GoesOn names body (item.Op (keep F t r)) later
  keep_from_ahead F (Reg q) r later = tt
  keep_from_ahead F (Slot k) r later = tt

  moves_ahead : (F : Frame) (t a : Where) (later : List AsmItem) → Ahead (moves F t a) later
  moves_ahead F t (Reg q) later = one_of_both (is_in t (register q)) [] (item.Op (keep F t (register q)) ∷ []) later tt (keep_from_ahead F t (register q) _, tt)
  moves_ahead F t (Slot k) later = (tt, lays_ahead F t later)

  changes_ahead : (F : Frame) (o : One) (t a : Where) (later : List AsmItem) → IsOne o → Ahead (changes F o t a) later
  changes_ahead F o t a later ok = ahead_append (takes F a (aim t)) (item.Op (instr.One o (aim t)) ∷ lays F t) later (takes_ahead F a (aim t) _) (one_ahead o (aim t) _ ok, lays_ahead F t later)

  in_place_ahead : (F : Frame) (o : Two) (m : ℕ) (a b : Where) (later : List AsmItem) → Ahead (in_place F o m a b) later
  in_place_ahead F o m a b later = ahead_append (takes F a m) (brings F b 10 ++ item.Op (instr.Two o m (src.Reg (hand b 10))) ∷ []) later (takes_ahead F a m _) (brought_ahead F b 10 _ later (tt, tt))

  apart_ahead : (F : Frame) (o : Two) (t a b : Where) (later : List AsmItem) → Ahead (apart F o t a b) later
  apart_ahead F o t a b later = (fetch_ahead F a 9 _, brought_ahead F b 10 _ later (tt, (keep_ahead F t _, tt)))

  turned_ahead : (F : Frame) (o : Two) (u : Option Two) (t a b : Where) (later : List AsmItem) → Ahead (turned_or_apart F o u t a b) later
  turned_ahead F o None t a b later = apart_ahead F o t a b later
  turned_ahead F o (Some u) t a b later = one_of_both (is_turned t a b) (in_place F u (aim t) b a) (apart F o t a b) later (in_place_ahead F u (aim t) b a later) (apart_ahead F o t a b later)

  computes_ahead : (F : Frame) (o : Two) (t a b : Where) (later : List AsmItem) → Ahead (computes F o t a b) later
  computes_ahead F o t a b later =
      one_of_both (is_direct t b) (in_place F o (aim t) a b) (turned_or_apart F o (turned o) t a b) later (in_place_ahead F o (aim t) a b later) (turned_ahead F o (turned o) t a b later)

  slot_ahead : (F G : Frame) (p a : Where) (later : List AsmItem) → Ahead (slot_arg F G p a) later
  slot_ahead F G (Reg q) a later = tt
  slot_ahead F G (Slot k) a later = brought_ahead F a 9 _ later (tt, tt)

  slots_ahead : (F G : Frame) (ps args : List Where) (later : List AsmItem) → Ahead (slot_args F G ps args) later
  slots_ahead F G [] args later = tt
  slots_ahead F G (p ∷ ps) [] later = tt
  slots_ahead F G (p ∷ ps) (a ∷ args) later = ahead_append (slot_arg F G p a) (slot_args F G ps args) later (slot_ahead F G p a _) (slots_ahead F G ps args later)

  moved_ahead : (F : Frame) (ms : List Move) (later : List AsmItem) → Ahead (moved_items F ms) later
  moved_ahead F [] later = tt
  moved_ahead F ((t, s) ∷ ms) later = (fetch_ahead F s (register t) _, moved_ahead F ms later)

  args_ahead : (F G : Frame) (ps args : List Where) (later : List AsmItem) → Ahead (args_items F G ps args) later
  args_ahead F G ps args later = ahead_append (slot_args F G ps args) (moved_items F (in_order ps args)) later (slots_ahead F G ps args _) (moved_ahead F (in_order ps args) later)

  module _ (x : CodeT Where) (W : Whole) (named : (g : ℕ) → g < length x.functions → CallsTo g body → IsCalled names body (function_label W.names g)) (m : ℕ) (F : Frame) where
    op_ahead : (o : OpT Where) (later : List AsmItem) → IsOp x m o → Ahead (op_items W F o) later
    unfolding op_items
    op_ahead (ConstO t n) later ok = (tt, lays_ahead F t later)
    op_ahead (NullO t) later ok = (tt, lays_ahead F t later)
    op_ahead (MoveO t a) later ok = moves_ahead F t a later
    op_ahead (OneO o t a) later ok = changes_ahead F o t a later ok
    op_ahead (TwoO o t a b) later ok = computes_ahead F o t a b later
    op_ahead (GlobalO t k) later ok = (tt, lays_ahead F t later)
    op_ahead (LocalO t k) later ok = (tt, lays_ahead F t later)
    op_ahead (LiteralO t k) later ok = (tt, lays_ahead F t later)
    op_ahead (CardO t) later ok = (tt, lays_ahead F t later)
    op_ahead (StepO t p n) later ok = computes_ahead F IADD t p n later
    op_ahead (ApartO t p q) later ok = computes_ahead F ISUB t p q later
    op_ahead (PtrTestO o t p q) later ok = computes_ahead F o t p q later
    op_ahead (LoadO t p) later ok = brought_ahead F p 9 _ later (tt, lays_ahead F t later)
    op_ahead (StoreO p a) later ok = brought_ahead F p 9 _ later (brought_ahead F a 10 _ later (tt, tt))
    op_ahead (FreshO k) later ok = tt
    op_ahead (EndO k) later ok = tt
    op_ahead (InO t port) later ok = (tt, lays_ahead F t later)
    op_ahead (OutO port a) later ok = brought_ahead F a 9 _ later (tt, tt)
    op_ahead WaitO later ok = (tt, tt)
    op_ahead HaltO later ok = (tt, tt)

    taking_ahead : (later : List AsmItem) (i : Instr Imm) → TakesWord (λ v. Unit {0}) i → Ahead (item.Op i ∷ []) later
    taking_ahead later (instr.Lea r q (Some (Left v))) h = (tt, tt)
    taking_ahead later (instr.Two o r (src.Imm (Left v))) h = (tt, tt)
    taking_ahead later (instr.Mov (RegAt r (Left v))) h = (tt, tt)
    taking_ahead later (instr.Mov (RegAtOff r q (Left v))) h = (tt, tt)
    taking_ahead later (instr.Mov (AtReg (Left v) r)) h = (tt, tt)
    taking_ahead later (instr.Mov (AtOffReg q (Left v) r)) h = (tt, tt)
    taking_ahead later (instr.Out port (src.Imm (Left v))) h = (tt, tt)
    taking_ahead later _ h = absurd h

    one_or_more_ahead : (o : OpT Where) (c : NodesT Where) (later : List AsmItem) → IsOp x m o → Ahead (one_or_more W F o (in_one W F o c)) later
    one_or_more_ahead o c later ok =
        one_or_more_is W F (λ xs. Ahead xs later) (λ v. Unit {0}) o c (λ t n e. (tt, tt, λ x y. tt)) (λ t k e. (tt, tt, λ x y. tt)) (λ t k e x y. tt) (op_ahead o later ok) (taking_ahead later) (λ p r i lt h. (fetch_ahead F p r _, taking_ahead later i h), λ r q i lr lq h. (tt, taking_ahead later i h))

    word_go : (y : Copying) (o : OpT Where) (later : List AsmItem) → Ahead (word_items W F y o) later
    word_go y (ConstO (Reg r) n) later = (tt, tt)
    word_go y (GlobalO (Reg r) k) later = (tt, tt)
    word_go y (LocalO (Reg r) k) later = (tt, tt)
    word_go y (MoveO (Reg r) p) later = moves_ahead F (Reg (goes_to y r)) p later
    word_go y _ later = tt

    put_go : (y : Copying) (j : Bool) (o : OpT Where) (later : List AsmItem) → Ahead (put_items W F y j o) later
    put_go y j o later = unless_is (λ xs. Ahead xs later) y j (put_into o) (word_items W F y o) tt (word_go y o later)

    puts_go : (y : Copying) (j : Bool) (c : NodesT Where) (k : ℕ) (later : List AsmItem) → Ahead (puts_items W F y j c k) later
    puts_go y j (Do o c) (suc k) later = ahead_append (put_items W F y j o) (puts_items W F y j c k) later (put_go y j o _) (puts_go y j c k later)
    puts_go y j (Do o c) zero later = tt
    puts_go y j Stop k later = tt
    puts_go y j (Call t g args c) k later = tt
    puts_go y j (Choose p a b c) k later = tt
    puts_go y j (Block b c) k later = tt
    puts_go y j (Loop b c) k later = tt
    puts_go y j (Leave i c) k later = tt
    puts_go y j (Again i c) k later = tt
    puts_go y j (Return p c) k later = tt

    move_go : (b : Bool) (t r : ℕ) (later : List AsmItem) → Ahead (move_item b t r) later
    move_go true t r later = tt
    move_go false t r later = (tt, tt)

    moves_go : (y : Copying) (c : NodesT Where) (later : List AsmItem) → Ahead (move_items y c) later
    moves_go y c later =
        let a = move_item (is_put y.to false c) 13 y.to in
        let b = move_item (source_put y.from false c) 12 (source y.from y) in
        let d = move_item (is_put y.count false c) 11 y.count in
        ahead_append a (b ++ d) later (move_go (is_put y.to false c) 13 y.to _) (ahead_append b d later (move_go (source_put y.from false c) 12 (source y.from y) _) (move_go (is_put y.count false c) 11 y.count later))

    group_ahead : (o : OpT Where) (c : NodesT Where) (later : List AsmItem) → IsOp x m o → Ahead (group_items W F o c) later
    group_ahead o c later ok = group_is W F (λ xs. Ahead xs later) o c tt (one_or_more_ahead o c later ok) (λ k y e. ahead_append (puts_items W F y (asked_behind F.lasting c y.one) (Do o c) k) (move_items y (Do o c)) later (puts_go y (asked_behind F.lasting c y.one) (Do o c) k _) (moves_go y (Do o c) later))

    next_ahead : (o : OpT Where) (c : NodesT Where) (later : List AsmItem) → IsOp x m o → Ahead (next_items W F o c) later
    next_ahead o c later ok =
        next_is W F (λ xs. Ahead xs later) (λ v. Unit {0}) o c (λ t n e. (tt, tt, λ x y. tt)) (λ t k e. (tt, tt, λ x y. tt)) (taking_ahead later) (λ p r i lt h. (fetch_ahead F p r _, taking_ahead later i h), λ r q i lr lq h. (tt, taking_ahead later i h))
        (λ u t a b e. (fetch_ahead F a 9 _, brought_ahead F b 10 _ later (tt, tt))) (group_ahead o c later ok)

    call_ahead : (t : Option Where) (g : ℕ) (args : List Where) (later : List AsmItem) → g < length x.functions → CallsTo g body → Ahead (call_items W F t g args) later
    call_ahead t g args later lt calls =
        ahead_append (args_items F (W.frames g) (W.params g) args) (call_item W g ∷ keeps_some F t) later (args_ahead F (W.frames g) (W.params g) args _) (named g lt calls, some_ahead F t later)

    giving_ahead : (p : Option Where) (later : List AsmItem) → Ahead (giving F p) later
    giving_ahead None later = tt
    giving_ahead (Some p) later = (fetch_ahead F p 9 _, tt)

    given_ahead : (p : Option Where) (done : ℕ) (later : List AsmItem) → Ahead (giving_left F p done) later
    given_ahead p zero later = giving_ahead p later
    given_ahead p (suc k) later = tt

    -- ---- nodes

    -- the ends of enclosing blocks come later
    abbrev Ends : List ℕ → List AsmItem → Type 0
    Ends ls later = (k : ℕ) → k < length ls → HasLabel later (jump_label (add (enclosing ls k) 1))

    abbrev NoLoop : List Bool → Type 0
    NoLoop bs = (k : ℕ) → IsLoop bs k → ⊥

    no_loop : (bs : List Bool) → NoLoop bs → NoLoop (false ∷ bs)
    no_loop bs h zero e = cc
    no_loop bs h (suc k) l = h k l

    ends_later : (ls : List ℕ) (xs later : List AsmItem) → Ends ls later → Ends ls (xs ++ later)
    ends_later ls xs later h k lt = marked_right xs later (jump_label (add (enclosing ls k) 1)) (h k lt)

    ends_inside : (ls : List ℕ) (n : ℕ) (later : List AsmItem) → n < 2 ^ 32 - 1 → Ends ls later → HasLabel later (jump_label (n + 1)) → Ends (ls ++ n ∷ []) later
    ends_inside ls n later few h here zero lt =
        let e = innermost ls n in
        let s : n + 1 ≡ add (enclosing (ls ++ n ∷ []) 0) 1 = omega (arith, e, few) in
        subst (λ w. HasLabel later (jump_label w)) s here
    ends_inside ls n later few h here (suc k) lt =
        let e = further ls n k lt in
        let l = length-append ls (n ∷ []) in
        subst (λ w. HasLabel later (jump_label (add w 1))) (sym e) (h k (omega (arith, l, lt)))

    choice_ahead : (p : Where) (n w : ℕ) (a b later : List AsmItem) → Ahead a ((jump w ∷ mark n ∷ []) ++ (second_part w b ++ later)) → Ahead b ((mark w ∷ []) ++ later) → Ahead (choice F p n w a b) later
    choice_ahead p n w a b later ha hb =
        let inner = a ++ jump w ∷ mark n ∷ [] in
        let second = second_part w b in
        let on : HasLabel (inner ++ (second ++ later)) (jump_label n) = marked_left inner (second ++ later) (jump_label n) (marked_right a (jump w ∷ mark n ∷ []) (jump_label n) (inl refl)) in
        let out : HasLabel ((mark n ∷ []) ++ (second ++ later)) (jump_label w) = marked_right (mark n ∷ []) (second ++ later) (jump_label w) (marked_left second later (jump_label w) (marked_right b (mark w ∷ []) (jump_label w) (inl refl))) in
        ahead_append (first_part F p n w a) second later
        (brought_ahead F p 9 (jump_unless (hand p 9) n ∷ inner) (second ++ later) (on, ahead_append a (jump w ∷ mark n ∷ []) (second ++ later) ha (out, (tt, tt))))
        (ahead_append b (mark w ∷ []) later hb (tt, tt))

    one_way_ahead : (p : Where) (n : ℕ) (a later : List AsmItem) → Ahead a ((mark n ∷ []) ++ later) → Ahead (one_way F p n a) later
    one_way_ahead p n a later ha =
        let inner = a ++ mark n ∷ [] in
        let on : HasLabel (inner ++ later) (jump_label n) = marked_left inner later (jump_label n) (marked_right a (mark n ∷ []) (jump_label n) (inl refl)) in
        brought_ahead F p 9 (jump_unless (hand p 9) n ∷ inner) later (on, ahead_append a (mark n ∷ []) later ha (tt, tt))

    alone_ahead : (p : Where) (n : ℕ) (to : Option ℕ) (a later : List AsmItem) → ((l : ℕ) → to ≡ Some l → HasLabel later (jump_label l)) → Ahead a ((mark n ∷ []) ++ later) → Ahead (alone F p n to a) later
    alone_ahead p n None a later there ha = one_way_ahead p n a later ha
    alone_ahead p n (Some l) a later there ha = brought_ahead F p 9 (jump_when (hand p 9) l ∷ mark n ∷ []) later (marked_right (mark n ∷ []) later (jump_label l) (there l refl), (tt, tt))

    chosen_ahead : (p : Where) (n w : ℕ) (t : Bool) (to : Option ℕ) (one a b later : List AsmItem) → ((l : ℕ) → to ≡ Some l → HasLabel later (jump_label l)) → (t ≡ true → Ahead one ((mark n ∷ []) ++ later)) → Ahead a ((jump w ∷ mark n ∷ []) ++ (second_part w b ++ later)) → Ahead b ((mark w ∷ []) ++ later) → Ahead (cond t (alone F p n to one) (choice F p n w a b)) later
    chosen_ahead p n w true to one a b later there go ha hb = alone_ahead p n to one later there (go refl)
    chosen_ahead p n w false to one a b later there go ha hb = choice_ahead p n w a b later ha hb

    left_ahead : (a : NodesT Where) (bs : List Bool) (ls : List ℕ) (later : List AsmItem) → AreNodes x m bs a → length ls ≡ length bs → Ends ls later → (l : ℕ) → left_to ls a ≡ Some l → HasLabel later (jump_label l)
    left_ahead a bs ls later ok same over l e =
        let r = left_is ls a l e in
        let i = (subst (λ z. AreNodes x m bs z) r.1 ok).0 in
        subst (λ z. HasLabel later (jump_label z)) (sym r.2) (over r.0 (omega (arith, i, same)))

    deeper : (ls : List ℕ) (n : ℕ) (bs : List Bool) (b : Bool) → length ls ≡ length bs → length (ls ++ n ∷ []) ≡ length (b ∷ bs)
    deeper ls n bs b same = let h = length-append ls (n ∷ []) in omega (arith, h, same)

    gone_ahead : (size : ℕ) (later : List AsmItem) → Ahead (frame_gone size) later
    gone_ahead size later = one_of_both (size == 0) (item.Op (instr.Plain RET) ∷ []) (item.Op (instr.Two IADD 15 (src.Imm (Left size))) ∷ item.Op (instr.Plain RET) ∷ []) later (tt, tt) (tt, (tt, tt))

    past_ahead : (c : NodesT Where) (done : ℕ) (last : Behind) (bs : List Bool) (ls : List ℕ) (n : ℕ) (later : List AsmItem) → AreNodes x m bs c → length ls ≡ length bs → NoLoop bs → loops c ≡ 0 → n + labels c < 2 ^ 32 - 1 →
        ((g : ℕ) → CallsTo g c → CallsTo g body) → Ends ls later → Ahead (items_past W F None last ls n c done) later
    past_ahead Stop done last bs ls n later ok same nl none few calls on = tt
    past_ahead (Do o c) zero last bs ls n later ok same nl none few calls on =
        let more = next_more W F o c in
        ahead_append (next_items W F o c) (items_past W F None last ls n c more) later (next_ahead o c _ ok.0) (past_ahead c more last bs ls n later ok.1 same nl none few calls on)
    past_ahead (Do o c) (suc done) last bs ls n later ok same nl none few calls on = past_ahead c done last bs ls n later ok.1 same nl none few calls on
    past_ahead (Call t g args c) done last bs ls n later ok same nl none few calls on =
        ahead_append (call_items W F t g args) (items_past W F None last ls n c 0) later (call_ahead t g args _ (function_there x g (length args) ok.0) (calls g (inl refl)))
        (past_ahead c 0 last bs ls n later ok.1 same nl none few (λ h k. calls h (inr k)) on)
    past_ahead (Choose p a b c) done last bs ls n later ok same nl none few calls on =
        let w = n + 1 + labels a in
        let one = items_past W F None (ends last c) ls (n + 1) a 0 in
        let first = items_past W F None Other ls (n + 1) a 0 in
        let two = items_past W F None (ends last c) ls (w + 1) b 0 in
        let rest = items_past W F None last ls (n + (2 + labels a + labels b)) c 0 in
        let after = rest ++ later in
        let ends1 = ends_later ls rest later on in
        ahead_append (cond (is_stop b) (alone F p n (left_to ls a) one) (choice F p n w first two)) rest later
        (chosen_ahead p n w (is_stop b) (left_to ls a) one first two after (left_ahead a bs ls after ok.0 same ends1)
        (λ is. past_ahead a 0 (ends last c) bs ls (n + 1) ((mark n ∷ []) ++ after) ok.0 same nl (omega (arith, none)) (omega (arith, few)) (λ h k. calls h (inl k)) (ends_later ls (mark n ∷ []) after ends1))
        (past_ahead a 0 Other bs ls (n + 1) ((jump w ∷ mark n ∷ []) ++ (second_part w two ++ after)) ok.0 same nl (omega (arith, none)) (omega (arith, few)) (λ h k. calls h (inl k))
        (ends_later ls (jump w ∷ mark n ∷ []) (second_part w two ++ after) (ends_later ls (second_part w two) after ends1)))
        (past_ahead b 0 (ends last c) bs ls (w + 1) ((mark w ∷ []) ++ after) ok.1 same nl (omega (arith, none)) (omega (arith, few)) (λ h k. calls h (inr (inl k))) (ends_later ls (mark w ∷ []) after ends1)))
        (past_ahead c 0 last bs ls (n + (2 + labels a + labels b)) later ok.2 same nl (omega (arith, none)) (omega (arith, few)) (λ h k. calls h (inr (inr k))) on)
    past_ahead (Block b c) done last bs ls n later ok same nl none few calls on =
        let one = items_past W F None (inside (ends last c)) (ls ++ n ∷ []) (n + 2) b 0 in
        let rest = items_past W F None last ls (n + (2 + labels b)) c 0 in
        let after = rest ++ later in
        let ends1 = ends_later ls (mark (n + 1) ∷ []) after (ends_later ls rest later on) in
        let within = past_ahead b 0 (inside (ends last c)) (false ∷ bs) (ls ++ n ∷ []) (n + 2) ((mark (n + 1) ∷ []) ++ after) ok.0 (deeper ls n bs false same) (no_loop bs nl) (omega (arith, none)) (omega (arith, few)) (λ h k. calls h (inl k))
        (ends_inside ls n ((mark (n + 1) ∷ []) ++ after) (omega (arith, few)) ends1 (inl refl)) in
        ahead_append (enclosed n one) rest later (tt, ahead_append one (mark (n + 1) ∷ []) after within (tt, tt))
        (past_ahead c 0 last bs ls (n + (2 + labels b)) later ok.1 same nl (omega (arith, none)) (omega (arith, few)) (λ h k. calls h (inr k)) on)
    past_ahead (Loop b c) done last bs ls n later ok same nl none few calls on = absurd (omega (arith, none))
    past_ahead (Leave k c) done last bs ls n later ok same nl none few calls on =
        let l = ok.0 in
        (marked_right (items_past W F None last ls n c 0) later (jump_label (add (enclosing ls k) 1)) (on k (omega (arith, l, same))), past_ahead c 0 last bs ls n later ok.1 same nl none few calls on)
    past_ahead (Again k c) done last bs ls n later ok same nl none few calls on = absurd (nl k ok.0)
    past_ahead (Return p c) done last bs ls n later ok same nl none few calls on =
        let rest = items_past W F None last ls n c 0 in
        let left = left_by F None (is_end (ends last c)) in
        ahead_append (giving_left F p done) (left ++ rest) later (given_ahead p done _)
        (ahead_append left rest later (one_of_both (is_end (ends last c)) [] (frame_gone F.size) (rest ++ later) tt (gone_ahead F.size (rest ++ later))) (past_ahead c 0 last bs ls n later ok same nl none few calls on))

    pub code_ahead : (c : NodesT Where) (bs : List Bool) (ls : List ℕ) (n : ℕ) (later : List AsmItem) → AreNodes x m bs c → length ls ≡ length bs → NoLoop bs → loops c ≡ 0 → n + labels c < 2 ^ 32 - 1 →
        ((g : ℕ) → CallsTo g c → CallsTo g body) → Ends ls later → Ahead (code_items W F None ls n c) later
    code_ahead c bs ls n later ok same nl none few calls on = past_ahead c 0 End bs ls n later ok same nl none few calls on

  made_ahead : (size : ℕ) (later : List AsmItem) → Ahead (frame_made size) later
  made_ahead size later = one_of_both (size == 0) [] (item.Op (instr.Two ISUB 15 (src.Imm (Left size))) ∷ []) later tt (tt, tt)

  gone_on : (size : ℕ) → AllGoOn names body (frame_gone size)
  gone_on size = go (size == 0)
    where
      go : (b : Bool) → AllGoOn names body (cond b (item.Op (instr.Plain RET) ∷ []) (item.Op (instr.Two IADD 15 (src.Imm (Left size))) ∷ item.Op (instr.Plain RET) ∷ []))
      go true = (tt, tt)
      go false = (tt, (tt, tt))

  -- the items of a function without a loop
  pub own_go_on : (x : CodeT Where) (W : Whole) → ((g : ℕ) → g < length x.functions → CallsTo g body → IsCalled names body (function_label W.names g)) → (m f n : ℕ) → AreNodes x m [] body → loops body ≡ 0 → n + 1 + labels body < 2 ^ 32 - 1 → AllGoOn names body (own_items W f n body)
  own_go_on x W named m f n ok none few =
      let F = W.frames f in
      let items = code_items W F None [] (n + 1) body in
      let ahead = code_ahead x W named m F body [] [] (n + 1) (exit_items n F) ok refl (λ k h. absurd h) none few (λ g h. h) (λ k lt. absurd (omega (arith, lt))) in
      let rest = ahead_all items (exit_items n F) ahead (tt, gone_on F.size) in
      ahead_all (frame_made F.size) (items ++ exit_items n F) (made_ahead F.size (items ++ exit_items n F)) rest
