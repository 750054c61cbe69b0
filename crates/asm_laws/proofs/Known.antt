-- Each label that emitted items use is one of theirs, so they have no fault.
use Rattle.std.proofs.Common.{◌≡◌, ℕ, zero, suc, ◌+◌, ◌-◌, ◌^◌, ◌<◌, ◌≤◌, ◌⊎◌, inl, inr, Bool, true, false, cond, List, [], ◌∷◌, ◌++◌, length, map, Option, Some, None, refl, sym, ap, ◌∙◌, subst, arith, length-append}
use Rattle.std.specs.Prelude.{◌==◌, is_some, bytes_eq, sum_by, slice_get, ◌&&◌}
use Rattle.std.proofs.lemmas.Option.{slice_get_within}
use Rattle.std.proofs.lemmas.Slice.Eq.{bytes_eq-Decides}
use Rattle.std.proofs.lemmas.Bool.{le-ltb}
use Rattle.std.specs.Option.{option_map_or}
use Rattle.kit_base.specs.Word.{add}
use Rattle.either.specs.declared.Either.TheVariants.{Left}
use Rattle.v32_isa.specs.declared.instruction.Plain.TheVariants.{RET}
use Rattle.v32_isa.specs.declared.instruction.One.{One as OneOf}
use Rattle.v32_isa.specs.declared.instruction.Mov.TheVariants.{RegImm, RegAt, RegAtOff, AtReg, AtOffReg}
use Rattle.v32_isa.specs.declared.instruction.Two.{Two as TwoOf}
use Rattle.v32_isa.specs.declared.instruction.Two.TheVariants.{IADD, ISUB}
use Rattle.v32_isa.specs.declared.instruction.Src.TheVariants as src
use Rattle.v32_isa.specs.declared.instruction.Instr.{Instr}
use Rattle.v32_isa.specs.declared.instruction.Instr.TheVariants as instr
use Rattle.asm_items.specs.Items.{Imm}
use Rattle.asm_items.specs.declared.item.AsmItem.{AsmItem}
use Rattle.asm_items.specs.declared.item.AsmItem.TheVariants as item
use Rattle.assembler.specs.Faults.{twice_from, unknown_from, past_from, fault_of}
use Rattle.assembler.specs.Labels.{has_label, address_of}
use Rattle.assembler.specs.Naming.{named_in}
use Rattle.assembler.specs.Placed.{item_size, labels_from, labels_of as placed_labels}
use Rattle.assembler.specs.Sizes.{total_size}
use Rattle.mid_code.specs.declared.placed.Where.{Where}
use Rattle.mid_code.specs.declared.placed.Where.TheVariants.{Reg, Slot}
use Rattle.mid_code.specs.Code.{OpT, ConstO, NullO, MoveO, OneO, TwoO, GlobalO, LocalO, LiteralO, CardO, StepO, ApartO, PtrTestO, LoadO, StoreO, FreshO, EndO, InO, OutO, WaitO, HaltO, NodesT, Stop, Do, Call, Choose, Block, Loop, Leave, Again, Return, FunctionT, CodeT}
use Rattle.mid_code.specs.Invariants.{IsOp, IsLoop, parameter_count, AreNodes, AllOf}
use Rattle.mid_code.specs.Runs.{weight}
use Rattle.asm_laws.specs.Labelled.{HasLabel}
use Rattle.asm_laws.specs.Names.{jump_label, literal_label, function_label}
use Rattle.asm_laws.specs.Moves.{Move, in_order}
use Rattle.asm_laws.specs.Live.{asked_behind}
use Rattle.asm_laws.specs.Operations.{Frame, Whole, keep, fetches, keeps, keeps_some, hand, brings, takes, aim, lays, moves, changes, is_direct, in_place, apart, is_turned, turned_or_apart, computes, slot_arg, slot_args, moved_items, args_items, call_items, op_items, in_one, one_or_more, giving, start_frame, literal_items, literals_items, word_items, put_items, puts_items, group_items, giving_left, next_items, next_more}
use Rattle.asm_laws.specs.Pieces.{register, is_in, turned}
use Rattle.asm_laws.specs.Framing.{frame_made, frame_gone}
use Rattle.asm_laws.proofs.Leaving.{left_is}
use Rattle.asm_laws.specs.declared.behind.Behind.{Behind}
use Rattle.asm_laws.specs.declared.behind.Behind.TheVariants.{Other, End, Turn}
use Rattle.asm_laws.specs.inner.Emitted.{labels, functions_labels, enclosing, jump, jump_unless, mark, first_part, second_part, choice, one_way, alone, left_to, ends, jump_when, is_stop, enclosed, leaving, left_by, items_past, code_items, entry_items, exit_items, function_items, functions_items, closing_items, start_items, program_items, inside, is_end, is_turn, again, rotated, looped, is_tested, part_items, test_items}
use Rattle.asm_laws.proofs.Programs.{mapped_from}
use Rattle.asm_laws.proofs.Walked.{total_more}
use Rattle.asm_laws.specs.declared.copying.Copying.{Copying}
use Rattle.asm_laws.specs.Copies.{put_into, goes_to, move_items, copy_items, copy_at, copy_or}
use Rattle.asm_laws.specs.Asks.{ask_of, ask_or}
use Rattle.asm_laws.specs.Live.{live_soon, ahead}
use Rattle.asm_laws.proofs.Putting.{unless_is, moves_are, backs_are}
use Rattle.asm_laws.proofs.InOne.{TakesWord, one_or_more_is, group_is, next_is}
use Rattle.asm_laws.proofs.Enclosing.{innermost, further}
use Rattle.asm_laws.proofs.LabelKinds.{Differ}
use Rattle.asm_laws.proofs.Sizes.{text_words, Counts, program_size, program_few, few_texts}
use Rattle.asm_laws.proofs.Twice.{no_label_twice}

-- ---- labels that are there

pub marked_left : (a b : List AsmItem) (m : List ℕ) → HasLabel a m → HasLabel (a ++ b) m
marked_left [] b m h = absurd h
marked_left (item.Label k ∷ a) b m h = elim h [ inl e ↦ inl e | inr r ↦ inr (marked_left a b m r) ]
marked_left (item.Op i ∷ a) b m h = marked_left a b m h
marked_left (item.Integer w ∷ a) b m h = marked_left a b m h
marked_left (item.Pointer k ∷ a) b m h = marked_left a b m h

pub marked_right : (a b : List AsmItem) (m : List ℕ) → HasLabel b m → HasLabel (a ++ b) m
marked_right [] b m h = h
marked_right (item.Label k ∷ a) b m h = inr (marked_right a b m h)
marked_right (item.Op i ∷ a) b m h = marked_right a b m h
marked_right (item.Integer w ∷ a) b m h = marked_right a b m h
marked_right (item.Pointer k ∷ a) b m h = marked_right a b m h

has_marked : (xs : List AsmItem) (a : ℕ) (m : List ℕ) → HasLabel xs m → has_label (labels_from a xs) m ≡ true
unfolding labels_from
has_marked [] a m h = absurd h
has_marked (item.Label k ∷ xs) a m h = go (λ r. has_marked xs (a + item_size (item.Label k)) m r) (bytes_eq m k) refl h
  where
    go : (HasLabel xs m → has_label (labels_from (a + item_size (item.Label k)) xs) m ≡ true) → (b : Bool) → bytes_eq m k ≡ b → (m ≡ k) ⊎ HasLabel xs m → is_some (cond b (Some a) (address_of (labels_from (a + item_size (item.Label k)) xs) m)) ≡ true
    go later true e h = refl
    go later false e (inl q) = absurd (let t : bytes_eq m k ≡ true = (bytes_eq-Decides m k).1 q in let f : true ≡ false = sym t ∙ e in cc)
    go later false e (inr r) = later r
has_marked (item.Op i ∷ xs) a m h = has_marked xs (a + item_size (item.Op i)) m h
has_marked (item.Integer w ∷ xs) a m h = has_marked xs (a + item_size (item.Integer w)) m h
has_marked (item.Pointer k ∷ xs) a m h = has_marked xs (a + item_size (item.Pointer k)) m h

-- ---- labels that are used

abbrev Named : (List ℕ → Type 0) → Option (List ℕ) → Type 0
Named P None = Unit {0}
Named P (Some m) = P m

abbrev Uses : (List ℕ → Type 0) → List AsmItem → Type 0
Uses P [] = Unit {0}
Uses P (x ∷ xs) = Named P (named_in x) × Uses P xs

named_more : (P Q : List ℕ → Type 0) → ((m : List ℕ) → P m → Q m) → (o : Option (List ℕ)) → Named P o → Named Q o
named_more P Q f None h = h
named_more P Q f (Some m) h = f m h

uses_more : (P Q : List ℕ → Type 0) → ((m : List ℕ) → P m → Q m) → (xs : List AsmItem) → Uses P xs → Uses Q xs
uses_more P Q f [] h = h
uses_more P Q f (x ∷ xs) h = (named_more P Q f (named_in x) h.0, uses_more P Q f xs h.1)

uses_append : (P : List ℕ → Type 0) (a b : List AsmItem) → Uses P a → Uses P b → Uses P (a ++ b)
uses_append P [] b h g = g
uses_append P (x ∷ a) b h g = (h.0, uses_append P a b h.1 g)

known : (xs : List AsmItem) (number : ℕ) (labels : List (List ℕ × ℕ)) → Uses (λ m. has_label labels m ≡ true) xs → unknown_from number labels xs ≡ None
unfolding unknown_from
known [] number labels h = refl
known (x ∷ xs) number labels h = ap (λ b. cond b (unknown_from (number + 1) labels xs) (Some number)) (here (named_in x) h.0) ∙ known xs (number + 1) labels h.1
  where
    here : (m : Option (List ℕ)) → Named (λ k. has_label labels k ≡ true) m → option_map_or (has_label labels) m true ≡ true
    here None g = refl
    here (Some k) g = g

-- the k-th enclosing one is there
pub loop_there : (bs : List Bool) (k : ℕ) → IsLoop bs k → k < length bs
loop_there [] k h = absurd h
loop_there (b ∷ bs) zero h = omega arith
loop_there (b ∷ bs) (suc k) h = let r = loop_there bs k h in omega (arith, r)

-- a function that has parameters is there
pub function_there : (x : CodeT Where) (g n : ℕ) → parameter_count x g ≡ Some n → g < length x.functions
function_there x g n e = let f = mapped_from (λ h. length h.params) (slice_get x.functions g) n e in slice_get_within x.functions g f.0 f.1

module _ (x : CodeT Where) (W : Whole) (Q : List ℕ → Type 0) (of_function : (g : ℕ) → g < length x.functions → Q (function_label W.names g)) (of_text : (k : ℕ) → k < length x.literals → Q (literal_label k)) where
  fetch_uses : (F : Frame) (p : Where) (r : ℕ) → Named Q (named_in (fetches F p r))
  fetch_uses F (Reg q) r = tt
  fetch_uses F (Slot k) r = tt

  keep_uses : (F : Frame) (t : Where) → Named Q (named_in (keeps F t))
  keep_uses F (Reg q) = tt
  keep_uses F (Slot k) = tt

  some_uses : (F : Frame) (t : Option Where) → Uses Q (keeps_some F t)
  some_uses F None = tt
  some_uses F (Some t) = (keep_uses F t, tt)

  brought_uses : (F : Frame) (p : Where) (r : ℕ) (xs : List AsmItem) → Uses Q xs → Uses Q (brings F p r ++ xs)
  brought_uses F (Reg q) r xs h = h
  brought_uses F (Slot k) r xs h = (tt, h)

  one_of_both : (b : Bool) (xs ys : List AsmItem) → Uses Q xs → Uses Q ys → Uses Q (cond b xs ys)
  one_of_both true xs ys h g = h
  one_of_both false xs ys h g = g

  takes_uses : (F : Frame) (p : Where) (m : ℕ) → Uses Q (takes F p m)
  takes_uses F p m = one_of_both (is_in p m) [] (fetches F p m ∷ []) tt (fetch_uses F p m, tt)

  lays_uses : (F : Frame) (t : Where) → Uses Q (lays F t)
  lays_uses F (Reg q) = tt
  lays_uses F (Slot k) = (tt, tt)

  keep_from_uses : (F : Frame) (t : Where) (r : ℕ) → Named Q (named_in (item.Op (keep F t r)))
  keep_from_uses F (Reg q) r = tt
  keep_from_uses F (Slot k) r = tt

  moves_uses : (F : Frame) (t a : Where) → Uses Q (moves F t a)
  moves_uses F t (Reg q) = one_of_both (is_in t (register q)) [] (item.Op (keep F t (register q)) ∷ []) tt (keep_from_uses F t (register q), tt)
  moves_uses F t (Slot k) = (fetch_uses F (Slot k) (aim t), lays_uses F t)

  changes_uses : (F : Frame) (o : OneOf) (t a : Where) → Uses Q (changes F o t a)
  changes_uses F o t a = uses_append Q (takes F a (aim t)) (item.Op (instr.One o (aim t)) ∷ lays F t) (takes_uses F a (aim t)) (tt, lays_uses F t)

  in_place_uses : (F : Frame) (o : TwoOf) (m : ℕ) (a b : Where) → Uses Q (in_place F o m a b)
  in_place_uses F o m a b = uses_append Q (takes F a m) _ (takes_uses F a m) (brought_uses F b 10 _ (tt, tt))

  apart_uses : (F : Frame) (o : TwoOf) (t a b : Where) → Uses Q (apart F o t a b)
  apart_uses F o t a b = (fetch_uses F a 9, brought_uses F b 10 _ (tt, (keep_uses F t, tt)))

  turned_uses : (F : Frame) (o : TwoOf) (u : Option TwoOf) (t a b : Where) → Uses Q (turned_or_apart F o u t a b)
  turned_uses F o None t a b = apart_uses F o t a b
  turned_uses F o (Some u) t a b = one_of_both (is_turned t a b) (in_place F u (aim t) b a) (apart F o t a b) (in_place_uses F u (aim t) b a) (apart_uses F o t a b)

  computes_uses : (F : Frame) (o : TwoOf) (t a b : Where) → Uses Q (computes F o t a b)
  computes_uses F o t a b = one_of_both (is_direct t b) (in_place F o (aim t) a b) (turned_or_apart F o (turned o) t a b) (in_place_uses F o (aim t) a b) (turned_uses F o (turned o) t a b)

  slot_uses : (F G : Frame) (p a : Where) → Uses Q (slot_arg F G p a)
  slot_uses F G (Reg q) a = tt
  slot_uses F G (Slot k) a = brought_uses F a 9 _ (tt, tt)

  slots_uses : (F G : Frame) (ps args : List Where) → Uses Q (slot_args F G ps args)
  slots_uses F G [] args = tt
  slots_uses F G (p ∷ ps) [] = tt
  slots_uses F G (p ∷ ps) (a ∷ args) = uses_append Q (slot_arg F G p a) (slot_args F G ps args) (slot_uses F G p a) (slots_uses F G ps args)

  moved_uses : (F : Frame) (ms : List Move) → Uses Q (moved_items F ms)
  moved_uses F [] = tt
  moved_uses F ((t, s) ∷ ms) = (fetch_uses F s (register t), moved_uses F ms)

  args_uses : (F G : Frame) (ps args : List Where) → Uses Q (args_items F G ps args)
  args_uses F G ps args = uses_append Q (slot_args F G ps args) (moved_items F (in_order ps args)) (slots_uses F G ps args) (moved_uses F (in_order ps args))

  op_uses : (m : ℕ) (F : Frame) (o : OpT Where) → IsOp x m o → Uses Q (op_items W F o)
  unfolding op_items
  op_uses m F (ConstO t n) ok = (tt, lays_uses F t)
  op_uses m F (NullO t) ok = (tt, lays_uses F t)
  op_uses m F (MoveO t a) ok = moves_uses F t a
  op_uses m F (OneO o t a) ok = changes_uses F o t a
  op_uses m F (TwoO o t a b) ok = computes_uses F o t a b
  op_uses m F (GlobalO t k) ok = (tt, lays_uses F t)
  op_uses m F (LocalO t k) ok = (tt, lays_uses F t)
  op_uses m F (LiteralO t k) ok = (of_text k ok, lays_uses F t)
  op_uses m F (CardO t) ok = (tt, lays_uses F t)
  op_uses m F (StepO t p n) ok = computes_uses F IADD t p n
  op_uses m F (ApartO t p q) ok = computes_uses F ISUB t p q
  op_uses m F (PtrTestO o t p q) ok = computes_uses F o t p q
  op_uses m F (LoadO t p) ok = brought_uses F p 9 _ (tt, lays_uses F t)
  op_uses m F (StoreO p a) ok = brought_uses F p 9 _ (brought_uses F a 10 _ (tt, tt))
  op_uses m F (FreshO k) ok = tt
  op_uses m F (EndO k) ok = tt
  op_uses m F (InO t p) ok = (tt, lays_uses F t)
  op_uses m F (OutO p a) ok = brought_uses F a 9 _ (tt, tt)
  op_uses m F WaitO ok = (tt, tt)
  op_uses m F HaltO ok = (tt, tt)

  taking_uses : (i : Instr Imm) → TakesWord (λ v. Unit {0}) i → Uses Q (item.Op i ∷ [])
  taking_uses (instr.Lea r q (Some (Left v))) h = (tt, tt)
  taking_uses (instr.Two o r (src.Imm (Left v))) h = (tt, tt)
  taking_uses (instr.Mov (RegAt r (Left v))) h = (tt, tt)
  taking_uses (instr.Mov (RegAtOff r q (Left v))) h = (tt, tt)
  taking_uses (instr.Mov (AtReg (Left v) r)) h = (tt, tt)
  taking_uses (instr.Mov (AtOffReg q (Left v) r)) h = (tt, tt)
  taking_uses (instr.Out port (src.Imm (Left v))) h = (tt, tt)
  taking_uses _ h = absurd h

  one_uses : (m : ℕ) (F : Frame) (o : OpT Where) (c : NodesT Where) → IsOp x m o → Uses Q (one_or_more W F o (in_one W F o c))
  one_uses m F o c ok = one_or_more_is W F (Uses Q) (λ v. Unit {0}) o c (λ t n e. (tt, tt, λ x y. tt)) (λ t k e. (tt, tt, λ x y. tt)) (λ t k e x y. tt) (op_uses m F o ok) taking_uses (λ p r i lt h. (fetch_uses F p r, taking_uses i h), λ r q i lr lq h. (tt, taking_uses i h))

  word_uses : (F : Frame) (y : Copying) (o : OpT Where) → Uses Q (word_items W F y o)
  word_uses F y (ConstO (Reg r) n) = (tt, tt)
  word_uses F y (GlobalO (Reg r) k) = (tt, tt)
  word_uses F y (LocalO (Reg r) k) = (tt, tt)
  word_uses F y (MoveO (Reg r) p) = moves_uses F (Reg (goes_to y r)) p
  word_uses F y _ = tt

  put_uses : (F : Frame) (y : Copying) (J : Bool) (o : OpT Where) → Uses Q (put_items W F y J o)
  put_uses F y J o = unless_is (Uses Q) y J (put_into o) (word_items W F y o) tt (word_uses F y o)

  puts_uses : (F : Frame) (y : Copying) (J : Bool) (c : NodesT Where) (k : ℕ) → Uses Q (puts_items W F y J c k)
  puts_uses F y J (Do o c) (suc k) = uses_append Q (put_items W F y J o) (puts_items W F y J c k) (put_uses F y J o) (puts_uses F y J c k)
  puts_uses F y J (Do o c) zero = tt
  puts_uses F y J Stop k = tt
  puts_uses F y J (Call t g args c) k = tt
  puts_uses F y J (Choose p a b c) k = tt
  puts_uses F y J (Block b c) k = tt
  puts_uses F y J (Loop b c) k = tt
  puts_uses F y J (Leave j c) k = tt
  puts_uses F y J (Again j c) k = tt
  puts_uses F y J (Return p c) k = tt

  group_uses : (m : ℕ) (F : Frame) (o : OpT Where) (c : NodesT Where) → IsOp x m o → Uses Q (group_items W F o c)
  group_uses m F o c ok = group_is W F (Uses Q) o c tt (one_uses m F o c ok)
      (λ k y e. uses_append Q (puts_items W F y (asked_behind F.lasting c y.one) (Do o c) k) (move_items y (Do o c)) (puts_uses F y (asked_behind F.lasting c y.one) (Do o c) k) (moves_are (Uses Q) tt (uses_append Q) (λ t r. (tt, tt)) y (Do o c)))

  next_uses : (m : ℕ) (F : Frame) (o : OpT Where) (c : NodesT Where) → IsOp x m o → Uses Q (next_items W F o c)
  next_uses m F o c ok =
      next_is W F (Uses Q) (λ v. Unit {0}) o c (λ t n e. (tt, tt, λ x y. tt)) (λ t k e. (tt, tt, λ x y. tt)) taking_uses (λ p r i lt h. (fetch_uses F p r, taking_uses i h), λ r q i lr lq h. (tt, taking_uses i h))
      (λ u t a b e. (fetch_uses F a 9, brought_uses F b 10 _ (tt, tt))) (group_uses m F o c ok)

  call_uses : (F : Frame) (t : Option Where) (g : ℕ) (args : List Where) → g < length x.functions → Uses Q (call_items W F t g args)
  call_uses F t g args ok = uses_append Q (args_items F (W.frames g) (W.params g) args) _ (args_uses F (W.frames g) (W.params g) args) (of_function g ok, some_uses F t)

  giving_uses : (F : Frame) (p : Option Where) → Uses Q (giving F p)
  giving_uses F None = tt
  giving_uses F (Some p) = (fetch_uses F p 9, tt)

  left_uses : (F : Frame) (p : Option Where) (done : ℕ) → Uses Q (giving_left F p done)
  left_uses F p zero = giving_uses F p
  left_uses F p (suc k) = tt

  abbrev Jumpable : List ℕ → Type 0
  Jumpable ls = (k : ℕ) → k < length ls → Q (jump_label (enclosing ls k)) × Q (jump_label (add (enclosing ls k) 1))

  enter : (ls : List ℕ) (n : ℕ) → n < 2 ^ 32 - 1 → Q (jump_label n) → Q (jump_label (n + 1)) → Jumpable ls → Jumpable (ls ++ n ∷ [])
  enter ls n few q q1 j zero lt =
      let e = innermost ls n in
      let e1 : add (enclosing (ls ++ n ∷ []) 0) 1 ≡ n + 1 = omega (arith, e, few) in
      (subst (λ m. Q (jump_label m)) (sym e) q, subst (λ m. Q (jump_label m)) (sym e1) q1)
  enter ls n few q q1 j (suc k) lt =
      let e = further ls n k lt in
      let h = length-append ls (n ∷ []) in
      let r = j k (omega (arith, h)) in
      (subst (λ m. Q (jump_label m)) (sym e) r.0, subst (λ m. Q (jump_label (add m 1))) (sym e) r.1)

  deeper : (ls : List ℕ) (n : ℕ) (bs : List Bool) (b : Bool) → length ls ≡ length bs → length (ls ++ n ∷ []) ≡ length (b ∷ bs)
  deeper ls n bs b same = let h = length-append ls (n ∷ []) in omega (arith, h, same)

  -- a mark that stands there is one of those that are known
  abbrev Knows : List AsmItem → Type 0
  Knows xs = (m : List ℕ) → HasLabel xs m → Q m

  module _ (F : Frame) (out : Option ℕ) (at_end : Uses Q (leaving F out)) where
    choice_uses : (p : Where) (n m : ℕ) (a b : List AsmItem) → Knows (choice F p n m a b) → (Knows a → Uses Q a) → (Knows b → Uses Q b) → Uses Q (choice F p n m a b)
    choice_uses p n m a b k ua ub =
        let inner = a ++ jump m ∷ mark n ∷ [] in
        let j = jump_unless (hand p 9) n in
        let left : Knows inner = λ x h. k x (marked_left (first_part F p n m a) (second_part m b) x (marked_right (brings F p 9) (j ∷ inner) x h)) in
        let right : Knows (second_part m b) = λ x h. k x (marked_right (first_part F p n m a) (second_part m b) x h) in
        let qn : Q (jump_label n) = left (jump_label n) (marked_right a (jump m ∷ mark n ∷ []) (jump_label n) (inl refl)) in
        let qm : Q (jump_label m) = right (jump_label m) (marked_right b (mark m ∷ []) (jump_label m) (inl refl)) in
        let one = uses_append Q a (jump m ∷ mark n ∷ []) (ua (λ x h. left x (marked_left a (jump m ∷ mark n ∷ []) x h))) (qm, (tt, tt)) in
        let two = uses_append Q b (mark m ∷ []) (ub (λ x h. right x (marked_left b (mark m ∷ []) x h))) (tt, tt) in
        uses_append Q (first_part F p n m a) (second_part m b) (brought_uses F p 9 (j ∷ inner) (qn, one)) two

    one_way_uses : (p : Where) (n : ℕ) (a : List AsmItem) → Knows (one_way F p n a) → (Knows a → Uses Q a) → Uses Q (one_way F p n a)
    one_way_uses p n a k ua =
        let inner = a ++ mark n ∷ [] in
        let j = jump_unless (hand p 9) n in
        let left : Knows inner = λ x h. k x (marked_right (brings F p 9) (j ∷ inner) x h) in
        let qn : Q (jump_label n) = left (jump_label n) (marked_right a (mark n ∷ []) (jump_label n) (inl refl)) in
        brought_uses F p 9 (j ∷ inner) (qn, uses_append Q a (mark n ∷ []) (ua (λ x h. left x (marked_left a (mark n ∷ []) x h))) (tt, tt))

    alone_uses : (p : Where) (n : ℕ) (to : Option ℕ) (a : List AsmItem) → ((l : ℕ) → to ≡ Some l → Q (jump_label l)) → Knows (alone F p n to a) → (Knows a → Uses Q a) → Uses Q (alone F p n to a)
    alone_uses p n None a there k ua = one_way_uses p n a k ua
    alone_uses p n (Some l) a there k ua = brought_uses F p 9 (jump_when (hand p 9) l ∷ mark n ∷ []) (there l refl, (tt, tt))

    chosen_uses : (p : Where) (n m : ℕ) (t : Bool) (to : Option ℕ) (one a b : List AsmItem) → ((l : ℕ) → to ≡ Some l → Q (jump_label l)) → Knows (cond t (alone F p n to one) (choice F p n m a b)) → (Knows one → Uses Q one) → (Knows a → Uses Q a) → (Knows b → Uses Q b) → Uses Q (cond t (alone F p n to one) (choice F p n m a b))
    chosen_uses p n m true to one a b there k uo ua ub = alone_uses p n to one there k uo
    chosen_uses p n m false to one a b there k uo ua ub = choice_uses p n m a b k ua ub

    left_known : (m : ℕ) (a : NodesT Where) (bs : List Bool) (ls : List ℕ) → length ls ≡ length bs → AreNodes x m bs a → Jumpable ls → (l : ℕ) → left_to ls a ≡ Some l → Q (jump_label l)
    left_known m a bs ls same ok j l e =
        let r = left_is ls a l e in
        let in_range = (subst (λ z. AreNodes x m bs z) r.1 ok).0 in
        subst (λ z. Q (jump_label z)) (sym r.2) (j r.0 (omega (arith, in_range, same))).1

    enclosed_uses : (n : ℕ) (a : List AsmItem) (ls : List ℕ) → n < 2 ^ 32 - 1 → Jumpable ls → Knows (enclosed n a) → (Jumpable (ls ++ n ∷ []) → Knows a → Uses Q a) → Uses Q (enclosed n a)
    enclosed_uses n a ls few j k ua =
        let qn : Q (jump_label n) = k (jump_label n) (inl refl) in
        let q1 : Q (jump_label (n + 1)) = k (jump_label (n + 1)) (inr (marked_right a (mark (n + 1) ∷ []) (jump_label (n + 1)) (inl refl))) in
        (tt, uses_append Q a (mark (n + 1) ∷ []) (ua (enter ls n few qn q1 j) (λ x h. k x (inr (marked_left a (mark (n + 1) ∷ []) x h)))) (tt, tt))

    rotated_uses : (n : ℕ) (part test : List AsmItem) (ls : List ℕ) → n < 2 ^ 32 - 1 → Jumpable ls → Knows (rotated n part test) → (Jumpable (ls ++ n ∷ []) → Knows part → Uses Q part) → (Q (jump_label (n + 2)) → Uses Q test) → Uses Q (rotated n part test)
    rotated_uses n part test ls few j k up ut =
        let last = test ++ mark (n + 1) ∷ [] in
        let qn : Q (jump_label n) = k (jump_label n) (inr (marked_right part (mark n ∷ last) (jump_label n) (inl refl))) in
        let q1 : Q (jump_label (n + 1)) = k (jump_label (n + 1)) (inr (marked_right part (mark n ∷ last) (jump_label (n + 1)) (inr (marked_right test (mark (n + 1) ∷ []) (jump_label (n + 1)) (inl refl))))) in
        let q2 : Q (jump_label (n + 2)) = k (jump_label (n + 2)) (inl refl) in
        (qn, (tt, uses_append Q part (mark n ∷ last) (up (enter ls n few qn q1 j) (λ x h. k x (inr (marked_left part (mark n ∷ last) x h)))) (tt, uses_append Q test (mark (n + 1) ∷ []) (ut q2) (tt, tt))))

    looped_uses : (t : Bool) (n : ℕ) (all part test : List AsmItem) (ls : List ℕ) → n < 2 ^ 32 - 1 → Jumpable ls → Knows (looped t n all part test) → (Jumpable (ls ++ n ∷ []) → Knows all → Uses Q all) → (Jumpable (ls ++ n ∷ []) → Knows part → Uses Q part) → (Q (jump_label (n + 2)) → Uses Q test) → Uses Q (looped t n all part test)
    looped_uses true n all part test ls few j k ua up ut = rotated_uses n part test ls few j k up ut
    looped_uses false n all part test ls few j k ua up ut = enclosed_uses n all ls few j k ua

    back_uses : (y : Copying) (J : ℕ → Bool) → Uses Q (copy_items y J)
    back_uses y J = (tt, backs_are (Uses Q) tt (uses_append Q) y (λ r q lt. (tt, tt)) (tt, tt) (tt, tt) y.from J)

    copied_uses : (y : Option Copying) (J : ℕ → Bool) (xs : List AsmItem) → Knows (copy_or y J xs) → (Knows xs → Uses Q xs) → Uses Q (copy_or y J xs)
    copied_uses None J xs k go = go k
    copied_uses (Some y) J xs k go = back_uses y J

    asked_uses : (y : Option ℕ) (J : ℕ → Bool) (xs : List AsmItem) → Knows (ask_or y J xs) → (Knows xs → Uses Q xs) → Uses Q (ask_or y J xs)
    asked_uses None J xs k go = go k
    asked_uses (Some f) J xs k go = one_of_both (J f) (item.Op (instr.Mov (RegImm (register f) (Left 0))) ∷ []) [] (tt, tt) tt

    again_uses : (ls : List ℕ) (k : ℕ) (last : Behind) → Q (jump_label (enclosing ls k)) → Uses Q (again ls k last)
    again_uses ls k last q = one_of_both ((k == 0) && is_turn last) [] (jump (enclosing ls k) ∷ []) tt (q, tt)

    test_uses : (m : ℕ) (to : ℕ) (c : NodesT Where) (done : ℕ) (bs : List Bool) → AreNodes x m bs c → Q (jump_label to) → Uses Q (test_items W F out to c done)
    test_uses m to (Do o c) zero bs ok q = let more = next_more W F o c in uses_append Q (next_items W F o c) (test_items W F out to c more) (next_uses m F o c ok.0) (test_uses m to c more bs ok.1 q)
    test_uses m to (Do o c) (suc done) bs ok q = test_uses m to c done bs ok.1 q
    test_uses m to (Choose p a b c) done bs ok q = brought_uses F p 9 (jump_when (hand p 9) to ∷ test_items W F out to c 0) (q, test_uses m to c 0 bs ok.2 q)
    test_uses m to Stop done bs ok q = tt
    test_uses m to (Call t g args c) done bs ok q = uses_append Q (call_items W F t g args) (test_items W F out to c 0) (call_uses F t g args (function_there x g (length args) ok.0)) (test_uses m to c 0 bs ok.1 q)
    test_uses m to (Block b c) done bs ok q = test_uses m to c 0 bs ok.1 q
    test_uses m to (Loop b c) done bs ok q = test_uses m to c 0 bs ok.1 q
    test_uses m to (Leave k c) done bs ok q = test_uses m to c 0 bs ok.1 q
    test_uses m to (Again k c) done bs ok q = test_uses m to c 0 bs ok.1 q
    test_uses m to (Return p c) done bs ok q = uses_append Q (giving_left F p done) (test_items W F out to c 0) (left_uses F p done) (test_uses m to c 0 bs ok q)

    mutual
      past_uses : (m : ℕ) (c : NodesT Where) (done : ℕ) (last : Behind) (bs : List Bool) (ls : List ℕ) (n : ℕ) → length ls ≡ length bs → AreNodes x m bs c → n + labels c < 2 ^ 32 - 1 → Jumpable ls → Knows (items_past W F out last ls n c done) → Uses Q (items_past W F out last ls n c done)
      past_uses m Stop done last bs ls n same ok few j k = tt
      past_uses m (Do o c) zero last bs ls n same ok few j k =
          let a = next_items W F o c in
          let b = items_past W F out last ls n c (next_more W F o c) in
          uses_append Q a b (next_uses m F o c ok.0) (past_uses m c (next_more W F o c) last bs ls n same ok.1 few j (λ w h. k w (marked_right a b w h)))
      past_uses m (Do o c) (suc done) last bs ls n same ok few j k = past_uses m c done last bs ls n same ok.1 few j k
      past_uses m (Call t g args c) done last bs ls n same ok few j k =
          let a = call_items W F t g args in
          let b = items_past W F out last ls n c 0 in
          uses_append Q a b (call_uses F t g args (function_there x g (length args) ok.0)) (past_uses m c 0 last bs ls n same ok.1 few j (λ w h. k w (marked_right a b w h)))
      past_uses m (Choose p a b c) done last bs ls n same ok few j k =
          let one = items_past W F out (ends last c) ls (n + 1) a 0 in
          let first = items_past W F out Other ls (n + 1) a 0 in
          let two = items_past W F out (ends last c) ls (n + 1 + labels a + 1) b 0 in
          let xs = cond (is_stop b) (alone F p n (left_to ls a) one) (choice F p n (n + 1 + labels a) first two) in
          let ys = items_past W F out last ls (n + (2 + labels a + labels b)) c 0 in
          uses_append Q xs ys
          (chosen_uses p n (n + 1 + labels a) (is_stop b) (left_to ls a) one first two (left_known m a bs ls same ok.0 j) (λ w h. k w (marked_left xs ys w h)) (λ h. past_uses m a 0 (ends last c) bs ls (n + 1) same ok.0 (omega (arith, few)) j h) (λ h. past_uses m a 0 Other bs ls (n + 1) same ok.0 (omega (arith, few)) j h) (λ h. past_uses m b 0 (ends last c) bs ls (n + 1 + labels a + 1) same ok.1 (omega (arith, few)) j h))
          (past_uses m c 0 last bs ls (n + (2 + labels a + labels b)) same ok.2 (omega (arith, few)) j (λ w h. k w (marked_right xs ys w h)))
      past_uses m (Block b c) done last bs ls n same ok few j k =
          let one = items_past W F out (inside (ends last c)) (ls ++ n ∷ []) (n + 2) b 0 in
          let xs = enclosed n one in
          let ys = items_past W F out last ls (n + (2 + labels b)) c 0 in
          uses_append Q xs ys
          (enclosed_uses n one ls (omega (arith, few)) j (λ w h. k w (marked_left xs ys w h)) (λ i h. past_uses m b 0 (inside (ends last c)) (false ∷ bs) (ls ++ n ∷ []) (n + 2) (deeper ls n bs false same) ok.0 (omega (arith, few)) i h))
          (past_uses m c 0 last bs ls (n + (2 + labels b)) same ok.1 (omega (arith, few)) j (λ w h. k w (marked_right xs ys w h)))
      past_uses m (Loop b c) done last bs ls n same ok few j k =
          let all = items_past W F out (inside (ends last c)) (ls ++ n ∷ []) (n + 2) b 0 in
          let part = part_items W F out (ls ++ n ∷ []) (n + 2) b in
          let test = test_items W F out (n + 2) b 0 in
          let asked = live_soon ahead F.lasting c in
          let turns = looped (is_tested b) n all part test in
          let own = copy_or (copy_at done b) asked turns in
          let xs = ask_or (ask_of b) asked own in
          let ys = items_past W F out last ls (n + (2 + labels b)) c 0 in
          uses_append Q xs ys
          (asked_uses (ask_of b) asked own (λ w h. k w (marked_left xs ys w h)) (λ owned. copied_uses (copy_at done b) asked turns owned (λ known. looped_uses (is_tested b) n all part test ls (omega (arith, few)) j known (λ i h. past_uses m b 0 (inside (ends last c)) (true ∷ bs) (ls ++ n ∷ []) (n + 2) (deeper ls n bs true same) ok.0 (omega (arith, few)) i h)
          (λ i h. part_uses m b (true ∷ bs) (ls ++ n ∷ []) (n + 2) (deeper ls n bs true same) ok.0 (omega (arith, few)) i h) (λ q. test_uses m (n + 2) b 0 (true ∷ bs) ok.0 q))))
          (past_uses m c 0 last bs ls (n + (2 + labels b)) same ok.1 (omega (arith, few)) j (λ w h. k w (marked_right xs ys w h)))
      past_uses m (Leave i c) done last bs ls n same ok few j k = ((j i (let l = ok.0 in omega (arith, l, same))).1, past_uses m c 0 last bs ls n same ok.1 few j k)
      past_uses m (Again i c) done last bs ls n same ok few j k =
          let a = again ls i (ends last c) in
          let b = items_past W F out last ls n c 0 in
          uses_append Q a b (again_uses ls i (ends last c) (j i (let l = loop_there bs i ok.0 in omega (arith, l, same))).0) (past_uses m c 0 last bs ls n same ok.1 few j (λ w h. k w (marked_right a b w h)))
      past_uses m (Return p c) done last bs ls n same ok few j k =
          let g = giving_left F p done in
          let a = left_by F out (is_end (ends last c)) in
          let b = items_past W F out last ls n c 0 in
          uses_append Q g (a ++ b) (left_uses F p done) (uses_append Q a b (one_of_both (is_end (ends last c)) [] (leaving F out) tt at_end) (past_uses m c 0 last bs ls n same ok few j (λ w h. k w (marked_right g (a ++ b) w (marked_right a b w h)))))

      part_uses : (m : ℕ) (c : NodesT Where) (bs : List Bool) (ls : List ℕ) (n : ℕ) → length ls ≡ length bs → AreNodes x m bs c → n + labels c < 2 ^ 32 - 1 → Jumpable ls → Knows (part_items W F out ls n c) → Uses Q (part_items W F out ls n c)
      part_uses m (Do o c) bs ls n same ok few j k = part_uses m c bs ls n same ok.1 few j k
      part_uses m (Choose p a b c) bs ls n same ok few j k = past_uses m a 0 Turn bs ls (n + 1) same ok.0 (omega (arith, few)) j k
      part_uses m Stop bs ls n same ok few j k = tt
      part_uses m (Call t g args c) bs ls n same ok few j k = part_uses m c bs ls n same ok.1 few j k
      part_uses m (Block b c) bs ls n same ok few j k = tt
      part_uses m (Loop b c) bs ls n same ok few j k = tt
      part_uses m (Leave i c) bs ls n same ok few j k = tt
      part_uses m (Again i c) bs ls n same ok few j k = tt
      part_uses m (Return p c) bs ls n same ok few j k = tt

    pub code_uses : (m : ℕ) (c : NodesT Where) (bs : List Bool) (ls : List ℕ) (n : ℕ) → length ls ≡ length bs → AreNodes x m bs c → n + labels c < 2 ^ 32 - 1 → Jumpable ls → Knows (code_items W F out ls n c) → Uses Q (code_items W F out ls n c)
    code_uses m c bs ls n same ok few j k = past_uses m c 0 End bs ls n same ok few j k

  -- ---- the whole program

  made_uses : (n : ℕ) → Uses Q (frame_made n)
  made_uses n = one_of_both (n == 0) [] (item.Op (instr.Two ISUB 15 (src.Imm (Left n))) ∷ []) tt (tt, tt)

  gone_uses : (n : ℕ) → Uses Q (frame_gone n)
  gone_uses n = one_of_both (n == 0) (item.Op (instr.Plain RET) ∷ []) (item.Op (instr.Two IADD 15 (src.Imm (Left n))) ∷ item.Op (instr.Plain RET) ∷ []) (tt, tt) (tt, (tt, tt))

  outermost : Jumpable []
  outermost k lt = absurd (omega arith)

  abbrev Fine : FunctionT Where → Type 0
  Fine g = AreNodes x (length g.locals) [] g.body

  function_uses : (f n : ℕ) (g : FunctionT Where) → Fine g → n + 1 + labels g.body < 2 ^ 32 - 1 → Knows (function_items W f n g.body) → Uses Q (function_items W f n g.body)
  function_uses f n g ok few k =
      let F = W.frames f in
      let b = code_items W F None [] (n + 1) g.body in
      let more : Knows (b ++ exit_items n F) = λ m h. k m (marked_right (entry_items W f F) (b ++ exit_items n F) m h) in
      uses_append Q (entry_items W f F) (b ++ exit_items n F) (tt, made_uses F.size) (uses_append Q b (exit_items n F) (code_uses F None (gone_uses F.size) (length g.locals) g.body [] [] (n + 1) refl ok few outermost (λ m h. more m (marked_left b (exit_items n F) m h))) (tt, gone_uses F.size))

  functions_uses : (f n : ℕ) (gs : List (FunctionT Where)) → AllOf Fine gs → n + functions_labels gs < 2 ^ 32 - 1 → Knows (functions_items W f n gs) → Uses Q (functions_items W f n gs)
  functions_uses f n [] ok few k = tt
  functions_uses f n (g ∷ gs) ok few k =
      let a = function_items W f n g.body in
      let b = functions_items W (f + 1) (n + 1 + labels g.body) gs in
      uses_append Q a b (function_uses f n g ok.0 (omega (arith, few)) (λ w h. k w (marked_left a b w h))) (functions_uses (f + 1) (n + 1 + labels g.body) gs ok.1 (omega (arith, few)) (λ w h. k w (marked_right a b w h)))

  start_uses : (main : ℕ) → main < length x.functions → Fine x.start → 1 + labels x.start.body < 2 ^ 32 - 1 → Knows (start_items W main x.start.body) → Uses Q (start_items W main x.start.body)
  start_uses main lt ok few k =
      let F = start_frame in
      let b = code_items W F (Some 0) [] 1 x.start.body in
      let more : Knows (b ++ closing_items W main) = k in
      let end : Q (jump_label 0) = more (jump_label 0) (marked_right b (closing_items W main) (jump_label 0) (inl refl)) in
      uses_append Q b (closing_items W main) (code_uses F (Some 0) (end, tt) (length x.start.locals) x.start.body [] [] 1 refl ok few outermost (λ m h. more m (marked_left b (closing_items W main) m h))) (tt, (of_function main lt, (tt, tt)))

  integers_uses : (bytes : List ℕ) → Uses Q (map item.Integer bytes)
  integers_uses [] = tt
  integers_uses (b ∷ bytes) = (tt, integers_uses bytes)

  literals_uses : (k : ℕ) (ts : List (List ℕ)) → Uses Q (literals_items k ts)
  literals_uses k [] = tt
  literals_uses k (text ∷ ts) = uses_append Q (literal_items k text) (literals_items (k + 1) ts) (tt, uses_append Q (map item.Integer text) (item.Integer 0 ∷ []) (integers_uses text) (tt, tt)) (literals_uses (k + 1) ts)

-- the label of each function and of each literal is there
same_or_more : (f g : ℕ) → f ≤ g → (g ≡ f) ⊎ (f + 1 ≤ g)
same_or_more f g le = grind arith

function_marked : (W : Whole) (f n k : ℕ) (gs : List (FunctionT Where)) → f ≤ k → k < f + length gs → HasLabel (functions_items W f n gs) (function_label W.names k)
function_marked W f n k [] le lt = absurd (omega arith)
function_marked W f n k (g ∷ gs) le lt =
    elim (same_or_more f k le) [
      | inl e ↦ marked_left (function_items W f n g.body) (functions_items W (f + 1) (n + 1 + labels g.body) gs) (function_label W.names k) (inl (ap (function_label W.names) e))
      | inr more ↦ marked_right (function_items W f n g.body) (functions_items W (f + 1) (n + 1 + labels g.body) gs) (function_label W.names k) (function_marked W (f + 1) (n + 1 + labels g.body) k gs more (omega (arith, lt)))
    ]

literal_marked : (k j : ℕ) (texts : List (List ℕ)) → k ≤ j → j < k + length texts → HasLabel (literals_items k texts) (literal_label j)
literal_marked k j [] le lt = absurd (omega arith)
literal_marked k j (text ∷ texts) le lt =
    elim (same_or_more k j le) [
      | inl e ↦ marked_left (literal_items k text) (literals_items (k + 1) texts) (literal_label j) (inl (ap literal_label e))
      | inr more ↦ marked_right (literal_items k text) (literals_items (k + 1) texts) (literal_label j) (literal_marked (k + 1) j texts more (omega (arith, lt)))
    ]

past_none : (xs : List AsmItem) (number words : ℕ) → words + total_size xs ≤ 33554432 → past_from number words xs ≡ None
unfolding past_from
past_none [] number words le = refl
past_none (x ∷ xs) number words le =
    let m = total_more x xs in
    ap (λ b. cond b (Some number) (past_from (number + 1) (words + item_size x) xs)) (le-ltb 33554432 (words + item_size x) (omega (arith, le, m))) ∙ past_none xs (number + 1) (words + item_size x) (omega (arith, le, m))

-- what is asked of a program that is emitted, beside that its code is placed
pub record Sound (x : CodeT Where) (W : Whole) : Type 0 where
  pub differ : Differ W.names
  pub named : length x.functions ≤ length W.names
  pub main_there : x.main < length x.functions
  pub counts : Counts x W
  pub start : AreNodes x (length x.start.locals) [] x.start.body
  pub each : AllOf (λ f. AreNodes x (length f.locals) [] f.body) x.functions
  pub few : weight x + sum_by text_words x.literals + 64 ≤ 33554432

-- the items of a program have no fault: no label twice, none unknown, not too many words
pub no_fault : (x : CodeT Where) (W : Whole) → Sound x W → fault_of (program_items W x) ≡ None
unfolding fault_of
no_fault x W p =
    let xs = program_items W x in
    let fs = functions_items W 0 (1 + labels x.start.body) x.functions in
    let ts = literals_items 0 x.literals in
    let st = start_items W x.main x.start.body in
    let little = program_few x in
    let texts = few_texts x.literals in
    let of_function : (g : ℕ) → g < length x.functions → HasLabel xs (function_label W.names g) = λ g lt. marked_right st (fs ++ ts) (function_label W.names g) (marked_left fs ts (function_label W.names g) (function_marked W 0 (1 + labels x.start.body) g x.functions (omega arith) (omega (arith, lt)))) in
    let of_text : (k : ℕ) → k < length x.literals → HasLabel xs (literal_label k) = λ k lt. marked_right st (fs ++ ts) (literal_label k) (marked_right fs ts (literal_label k) (literal_marked 0 k x.literals (omega arith) (omega (arith, lt)))) in
    let us = start_uses x W (HasLabel xs) of_function of_text x.main p.main_there p.start (omega (arith, little, p.few)) (λ m h. marked_left st (fs ++ ts) m h) in
    let uf = functions_uses x W (HasLabel xs) of_function of_text 0 (1 + labels x.start.body) x.functions p.each (omega (arith, little, p.few)) (λ m h. marked_right st (fs ++ ts) m (marked_left fs ts m h)) in
    let ut = literals_uses x W (HasLabel xs) of_function of_text 0 x.literals in
    let u = uses_append (HasLabel xs) st (fs ++ ts) us (uses_append (HasLabel xs) fs ts uf ut) in
    let twice : twice_from 1 [] xs ≡ None = no_label_twice W x p.differ p.named (omega (arith, little, p.few)) (omega (arith, texts, p.few)) in
    let unknown : unknown_from 1 (placed_labels xs) xs ≡ None = known xs 1 (placed_labels xs) (uses_more (HasLabel xs) (λ m. has_label (placed_labels xs) m ≡ true) (λ m h. has_marked xs 0x20000000 m h) xs u) in
    let size = program_size x W p.counts p.start p.each in
    let past : past_from 1 0 xs ≡ None = past_none xs 1 0 (omega (arith, size, p.few)) in
    rw (twice, unknown, past) refl
