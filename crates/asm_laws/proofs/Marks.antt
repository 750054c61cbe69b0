-- The labels of emitted items differ.
use Rattle.std.proofs.Common.{◌≡◌, ◌≢◌, ℕ, zero, suc, ◌+◌, ◌^◌, ◌<◌, ◌≤◌, Bool, true, false, cond, List, [], ◌∷◌, ◌++◌, length, map, Option, Some, None, refl, sym, ◌∙◌, subst, arith, append_assoc}
use Rattle.std.specs.Prelude.{◌==◌, ◌&&◌}
use Rattle.either.specs.declared.Either.TheVariants.{Left}
use Rattle.v32_isa.specs.declared.instruction.Mov.TheVariants.{RegImm}
use Rattle.v32_isa.specs.declared.instruction.Plain.TheVariants.{RET}
use Rattle.v32_isa.specs.declared.instruction.One.{One as OneOf}
use Rattle.v32_isa.specs.declared.instruction.Two.{Two as TwoOf}
use Rattle.v32_isa.specs.declared.instruction.Two.TheVariants.{IADD, ISUB}
use Rattle.v32_isa.specs.declared.instruction.Src.TheVariants as src
use Rattle.v32_isa.specs.declared.instruction.Instr.TheVariants as instr
use Rattle.asm_items.specs.declared.item.AsmItem.{AsmItem}
use Rattle.asm_items.specs.declared.item.AsmItem.TheVariants as item
use Rattle.mid_code.specs.declared.placed.Where.{Where}
use Rattle.mid_code.specs.declared.placed.Where.TheVariants.{Reg, Slot}
use Rattle.mid_code.specs.Code.{OpT, ConstO, NullO, MoveO, OneO, TwoO, GlobalO, LocalO, LiteralO, CardO, StepO, ApartO, PtrTestO, LoadO, StoreO, FreshO, EndO, InO, OutO, WaitO, HaltO, NodesT, Stop, Do, Call, Choose, Block, Loop, Leave, Again, Return, FunctionT, CodeT}
use Rattle.asm_laws.specs.Names.{function_label, literal_label}
use Rattle.asm_laws.specs.Moves.{Move, in_order}
use Rattle.asm_laws.specs.Live.{asked_behind}
use Rattle.asm_laws.specs.Operations.{Frame, Whole, keep, fetches, keeps_some, hand, brings, takes, aim, lays, moves, changes, is_direct, in_place, apart, is_turned, turned_or_apart, computes, slot_arg, slot_args, moved_items, args_items, call_items, op_items, in_one, one_or_more, giving, start_frame, literal_items, literals_items, word_items, put_items, puts_items, group_items, giving_left, next_items, next_more}
use Rattle.asm_laws.specs.Pieces.{register, is_in, turned}
use Rattle.asm_laws.specs.Framing.{frame_made, frame_gone}
use Rattle.asm_laws.specs.declared.behind.Behind.{Behind}
use Rattle.asm_laws.specs.declared.behind.Behind.TheVariants.{Other, End, Turn}
use Rattle.asm_laws.specs.inner.Emitted.{labels, functions_labels, enclosing, jump, jump_unless, mark, choice, one_way, alone, left_to, ends, jump_when, is_stop, enclosed, leaving, left_by, items_past, code_items, entry_items, exit_items, function_items, functions_items, closing_items, start_items, program_items, labels_of, inside, is_end, is_turn, again, rotated, looped, is_tested, part_items, test_items}
use Rattle.asm_laws.specs.declared.copying.Copying.{Copying}
use Rattle.asm_laws.specs.Copies.{put_into, goes_to, move_items, copy_items, copy_at, copy_or}
use Rattle.asm_laws.specs.Asks.{ask_of, asked_items, ask_or}
use Rattle.asm_laws.specs.Live.{live_soon, ahead}
use Rattle.asm_laws.proofs.Putting.{unless_is, moves_are, backs_are}
use Rattle.asm_laws.proofs.InOne.{one_or_more_is, group_is, next_is}
use Rattle.asm_laws.proofs.LabelKinds.{Differ, Kind, Jump, Fun, Text, name_of, Valid, kind_same, Range, Box, Within, Aside, jumps, jumps_within, jumps_below, jumps_above}

-- ---- labels of items

abbrev pub Names : (List ℕ → Type 0) → List AsmItem → Type 0
Names P [] = Unit {0}
Names P (item.Label m ∷ xs) = P m × Names P xs
Names P (item.Op i ∷ xs) = Names P xs
Names P (item.Integer w ∷ xs) = Names P xs
Names P (item.Pointer m ∷ xs) = Names P xs

-- no label stands twice
abbrev pub Distinct : List AsmItem → Type 0
Distinct [] = Unit {0}
Distinct (item.Label m ∷ xs) = Names (λ k. m ≢ k) xs × Distinct xs
Distinct (item.Op i ∷ xs) = Distinct xs
Distinct (item.Integer w ∷ xs) = Distinct xs
Distinct (item.Pointer m ∷ xs) = Distinct xs

names_append : (P : List ℕ → Type 0) (a b : List AsmItem) → Names P a → Names P b → Names P (a ++ b)
names_append P [] b h g = g
names_append P (item.Label m ∷ a) b h g = (h.0, names_append P a b h.1 g)
names_append P (item.Op i ∷ a) b h g = names_append P a b h g
names_append P (item.Integer w ∷ a) b h g = names_append P a b h g
names_append P (item.Pointer m ∷ a) b h g = names_append P a b h g

names_more : (P Q : List ℕ → Type 0) → ((m : List ℕ) → P m → Q m) → (a : List AsmItem) → Names P a → Names Q a
names_more P Q f [] h = tt
names_more P Q f (item.Label m ∷ a) h = (f m h.0, names_more P Q f a h.1)
names_more P Q f (item.Op i ∷ a) h = names_more P Q f a h
names_more P Q f (item.Integer w ∷ a) h = names_more P Q f a h
names_more P Q f (item.Pointer m ∷ a) h = names_more P Q f a h

distinct_append : (P Q : List ℕ → Type 0) → ((m k : List ℕ) → P m → Q k → m ≢ k) → (a b : List AsmItem) → Names P a → Distinct a → Names Q b → Distinct b → Distinct (a ++ b)
distinct_append P Q f [] b na da nb db = db
distinct_append P Q f (item.Label m ∷ a) b na da nb db = (names_append (λ k. m ≢ k) a b da.0 (names_more Q (λ k. m ≢ k) (λ k q. f m k na.0 q) b nb), distinct_append P Q f a b na.1 da.1 nb db)
distinct_append P Q f (item.Op i ∷ a) b na da nb db = distinct_append P Q f a b na da nb db
distinct_append P Q f (item.Integer w ∷ a) b na da nb db = distinct_append P Q f a b na da nb db
distinct_append P Q f (item.Pointer m ∷ a) b na da nb db = distinct_append P Q f a b na da nb db

-- no labels
abbrev Bare : List AsmItem → Type 0
Bare xs = Names (λ m. ⊥) xs

bare_distinct : (xs : List AsmItem) → Bare xs → Distinct xs
bare_distinct [] h = tt
bare_distinct (item.Label m ∷ xs) h = absurd h.0
bare_distinct (item.Op i ∷ xs) h = bare_distinct xs h
bare_distinct (item.Integer w ∷ xs) h = bare_distinct xs h
bare_distinct (item.Pointer m ∷ xs) h = bare_distinct xs h

module _ (W : Whole) (differ : Differ W.names) where
  abbrev pub Of : Range → List ℕ → Type 0
  Of r m = (x : Kind) × Valid W.names x × (m ≡ name_of W.names x) × Box r x

  pub record Marks (r : Range) (xs : List AsmItem) : Type 0 where
    pub names : Names (Of r) xs
    pub distinct : Distinct xs

  marks_both : (r s t : Range) (a b : List AsmItem) → Within r t → Within s t → Aside r s → Marks r a → Marks s b → Marks t (a ++ b)
  marks_both r s t a b wr ws off ma mb = record {
    names = names_append (Of t) a b (names_more (Of r) (Of t) (λ m h. (h.0, h.1, h.2, wr h.0 h.3)) a ma.names) (names_more (Of s) (Of t) (λ m h. (h.0, h.1, h.2, ws h.0 h.3)) b mb.names);
    distinct = distinct_append (Of r) (Of s) (λ m k p q e. off p.0 p.3 (subst (Box s) (sym (kind_same W.names p.0 q.0 differ p.1 q.1 (sym p.2 ∙ e ∙ q.2))) q.3)) a b ma.names ma.distinct mb.names mb.distinct;
  }

  marks_bare : (r : Range) (xs : List AsmItem) → Bare xs → Marks r xs
  marks_bare r xs h = record { names = names_more (λ m. ⊥) (Of r) (λ m x. absurd x) xs h; distinct = bare_distinct xs h }

  marks_more : (r s : Range) (xs : List AsmItem) → Within r s → Marks r xs → Marks s xs
  marks_more r s xs w m = record { names = names_more (Of r) (Of s) (λ n h. (h.0, h.1, h.2, w h.0 h.3)) xs m.names; distinct = m.distinct }

  -- items without labels before others
  bare_then : (r : Range) (a b : List AsmItem) → Bare a → Marks r b → Marks r (a ++ b)
  bare_then r a b h m = record { names = names_append (Of r) a b (names_more (λ k. ⊥) (Of r) (λ k x. absurd x) a h) m.names; distinct = distinct_append (λ k. ⊥) (Of r) (λ x k p q. absurd p) a b h (bare_distinct a h) m.names m.distinct }

  then_bare : (r : Range) (a b : List AsmItem) → Marks r a → Bare b → Marks r (a ++ b)
  then_bare r a b m h = record { names = names_append (Of r) a b m.names (names_more (λ k. ⊥) (Of r) (λ k x. absurd x) b h); distinct = distinct_append (Of r) (λ k. ⊥) (λ x k p q. absurd q) a b m.names m.distinct h (bare_distinct b h) }

  mark_one : (n : ℕ) → n < 2 ^ 32 → Marks (jumps n (n + 1)) (mark n ∷ [])
  mark_one n lt = record { names = ((Jump n, lt, refl, (omega arith, omega arith)), tt); distinct = (tt, tt) }

  -- two parts with neighbouring ranges of labels, in either order
  rising : (lo mid hi : ℕ) (a b : List AsmItem) → lo ≤ mid → mid ≤ hi → Marks (jumps lo mid) a → Marks (jumps mid hi) b → Marks (jumps lo hi) (a ++ b)
  rising lo mid hi a b x y ma mb = marks_both (jumps lo mid) (jumps mid hi) (jumps lo hi) a b (jumps_within lo mid lo hi (omega arith) y) (jumps_within mid hi lo hi x (omega arith)) (jumps_below lo mid mid hi (omega arith)) ma mb

  falling : (lo mid hi : ℕ) (a b : List AsmItem) → lo ≤ mid → mid ≤ hi → Marks (jumps mid hi) a → Marks (jumps lo mid) b → Marks (jumps lo hi) (a ++ b)
  falling lo mid hi a b x y ma mb = marks_both (jumps mid hi) (jumps lo mid) (jumps lo hi) a b (jumps_within mid hi lo hi x (omega arith)) (jumps_within lo mid lo hi (omega arith) y) (jumps_above lo mid mid hi (omega arith)) ma mb

  -- ---- operations have none

  some_bare : (F : Frame) (t : Option Where) → Bare (keeps_some F t)
  some_bare F None = tt
  some_bare F (Some t) = tt

  brings_bare : (F : Frame) (p : Where) (r : ℕ) → Bare (brings F p r)
  brings_bare F (Reg q) r = tt
  brings_bare F (Slot k) r = tt

  brought_bare : (F : Frame) (p : Where) (r : ℕ) (xs : List AsmItem) → Bare xs → Bare (brings F p r ++ xs)
  brought_bare F p r xs h = names_append (λ m. ⊥) (brings F p r) xs (brings_bare F p r) h

  one_of_both : (b : Bool) (xs ys : List AsmItem) → Bare xs → Bare ys → Bare (cond b xs ys)
  one_of_both true xs ys h g = h
  one_of_both false xs ys h g = g

  takes_bare : (F : Frame) (p : Where) (m : ℕ) → Bare (takes F p m)
  takes_bare F p m = one_of_both (is_in p m) [] (fetches F p m ∷ []) tt tt

  lays_bare : (F : Frame) (t : Where) → Bare (lays F t)
  lays_bare F (Reg q) = tt
  lays_bare F (Slot k) = tt

  moves_bare : (F : Frame) (t a : Where) → Bare (moves F t a)
  moves_bare F t (Reg q) = one_of_both (is_in t (register q)) [] (item.Op (keep F t (register q)) ∷ []) tt tt
  moves_bare F t (Slot k) = lays_bare F t

  changes_bare : (F : Frame) (o : OneOf) (t a : Where) → Bare (changes F o t a)
  changes_bare F o t a = names_append (λ m. ⊥) (takes F a (aim t)) (item.Op (instr.One o (aim t)) ∷ lays F t) (takes_bare F a (aim t)) (lays_bare F t)

  in_place_bare : (F : Frame) (o : TwoOf) (n : ℕ) (a b : Where) → Bare (in_place F o n a b)
  in_place_bare F o n a b = names_append (λ m. ⊥) (takes F a n) _ (takes_bare F a n) (brought_bare F b 10 _ tt)

  apart_bare : (F : Frame) (o : TwoOf) (t a b : Where) → Bare (apart F o t a b)
  apart_bare F o t a b = brought_bare F b 10 _ tt

  turned_bare : (F : Frame) (o : TwoOf) (u : Option TwoOf) (t a b : Where) → Bare (turned_or_apart F o u t a b)
  turned_bare F o None t a b = apart_bare F o t a b
  turned_bare F o (Some u) t a b = one_of_both (is_turned t a b) (in_place F u (aim t) b a) (apart F o t a b) (in_place_bare F u (aim t) b a) (apart_bare F o t a b)

  computes_bare : (F : Frame) (o : TwoOf) (t a b : Where) → Bare (computes F o t a b)
  computes_bare F o t a b = one_of_both (is_direct t b) (in_place F o (aim t) a b) (turned_or_apart F o (turned o) t a b) (in_place_bare F o (aim t) a b) (turned_bare F o (turned o) t a b)

  slot_bare : (F G : Frame) (p a : Where) → Bare (slot_arg F G p a)
  slot_bare F G (Reg q) a = tt
  slot_bare F G (Slot k) a = brought_bare F a 9 _ tt

  slots_bare : (F G : Frame) (ps args : List Where) → Bare (slot_args F G ps args)
  slots_bare F G [] args = tt
  slots_bare F G (p ∷ ps) [] = tt
  slots_bare F G (p ∷ ps) (a ∷ args) = names_append (λ m. ⊥) (slot_arg F G p a) (slot_args F G ps args) (slot_bare F G p a) (slots_bare F G ps args)

  moved_bare : (F : Frame) (ms : List Move) → Bare (moved_items F ms)
  moved_bare F [] = tt
  moved_bare F ((t, s) ∷ ms) = moved_bare F ms

  args_bare : (F G : Frame) (ps args : List Where) → Bare (args_items F G ps args)
  args_bare F G ps args = names_append (λ m. ⊥) (slot_args F G ps args) (moved_items F (in_order ps args)) (slots_bare F G ps args) (moved_bare F (in_order ps args))

  op_bare : (F : Frame) (o : OpT Where) → Bare (op_items W F o)
  unfolding op_items
  op_bare F (ConstO t n) = lays_bare F t
  op_bare F (NullO t) = lays_bare F t
  op_bare F (MoveO t a) = moves_bare F t a
  op_bare F (OneO o t a) = changes_bare F o t a
  op_bare F (TwoO o t a b) = computes_bare F o t a b
  op_bare F (GlobalO t k) = lays_bare F t
  op_bare F (LocalO t k) = lays_bare F t
  op_bare F (LiteralO t k) = lays_bare F t
  op_bare F (CardO t) = lays_bare F t
  op_bare F (StepO t p n) = computes_bare F IADD t p n
  op_bare F (ApartO t p q) = computes_bare F ISUB t p q
  op_bare F (PtrTestO o t p q) = computes_bare F o t p q
  op_bare F (LoadO t p) = brought_bare F p 9 _ (lays_bare F t)
  op_bare F (StoreO p a) = brought_bare F p 9 _ (brought_bare F a 10 _ tt)
  op_bare F (FreshO k) = tt
  op_bare F (EndO k) = tt
  op_bare F (InO t p) = lays_bare F t
  op_bare F (OutO p a) = brought_bare F a 9 _ tt
  op_bare F WaitO = tt
  op_bare F HaltO = tt

  one_bare : (F : Frame) (o : OpT Where) (c : NodesT Where) → Bare (one_or_more W F o (in_one W F o c))
  one_bare F o c = one_or_more_is W F (λ xs. Bare xs) (λ v. Unit {0}) o c (λ t n e. (tt, tt, λ x y. tt)) (λ t k e. (tt, tt, λ x y. tt)) (λ t k e x y. tt) (op_bare F o) (λ i h. tt) (λ p r i lt h. tt, λ r q i lr lq h. tt)

  word_bare : (F : Frame) (y : Copying) (o : OpT Where) → Bare (word_items W F y o)
  word_bare F y (ConstO (Reg r) n) = tt
  word_bare F y (GlobalO (Reg r) k) = tt
  word_bare F y (LocalO (Reg r) k) = tt
  word_bare F y (MoveO (Reg r) p) = moves_bare F (Reg (goes_to y r)) p
  word_bare F y _ = tt

  put_bare : (F : Frame) (y : Copying) (J : Bool) (o : OpT Where) → Bare (put_items W F y J o)
  put_bare F y J o = unless_is Bare y J (put_into o) (word_items W F y o) tt (word_bare F y o)

  puts_bare : (F : Frame) (y : Copying) (J : Bool) (c : NodesT Where) (k : ℕ) → Bare (puts_items W F y J c k)
  puts_bare F y J (Do o c) (suc k) = names_append (λ m. ⊥) (put_items W F y J o) (puts_items W F y J c k) (put_bare F y J o) (puts_bare F y J c k)
  puts_bare F y J (Do o c) zero = tt
  puts_bare F y J Stop k = tt
  puts_bare F y J (Call t g args c) k = tt
  puts_bare F y J (Choose p a b c) k = tt
  puts_bare F y J (Block b c) k = tt
  puts_bare F y J (Loop b c) k = tt
  puts_bare F y J (Leave j c) k = tt
  puts_bare F y J (Again j c) k = tt
  puts_bare F y J (Return p c) k = tt

  group_bare : (F : Frame) (o : OpT Where) (c : NodesT Where) → Bare (group_items W F o c)
  group_bare F o c = group_is W F (λ xs. Bare xs) o c tt (one_bare F o c) (λ k y e. names_append (λ m. ⊥) (puts_items W F y (asked_behind F.lasting c y.one) (Do o c) k) (move_items y (Do o c)) (puts_bare F y (asked_behind F.lasting c y.one) (Do o c) k) (moves_are (λ xs. Bare xs) tt (names_append (λ m. ⊥)) (λ t r. tt) y (Do o c)))

  next_bare : (F : Frame) (o : OpT Where) (c : NodesT Where) → Bare (next_items W F o c)
  next_bare F o c = next_is W F (λ xs. Bare xs) (λ v. Unit {0}) o c (λ t n e. (tt, tt, λ x y. tt)) (λ t k e. (tt, tt, λ x y. tt)) (λ i h. tt) (λ p r i lt h. tt, λ r q i lr lq h. tt) (λ u t a b e. brought_bare F b 10 _ tt) (group_bare F o c)

  call_bare : (F : Frame) (t : Option Where) (g : ℕ) (args : List Where) → Bare (call_items W F t g args)
  call_bare F t g args = names_append (λ m. ⊥) (args_items F (W.frames g) (W.params g) args) _ (args_bare F (W.frames g) (W.params g) args) (some_bare F t)

  giving_bare : (F : Frame) (p : Option Where) → Bare (giving F p)
  giving_bare F None = tt
  giving_bare F (Some p) = tt

  left_bare : (F : Frame) (p : Option Where) (done : ℕ) → Bare (giving_left F p done)
  left_bare F p zero = giving_bare F p
  left_bare F p (suc k) = tt

  -- ---- nodes

  choice_marks : (F : Frame) (p : Where) (n m e : ℕ) (a b : List AsmItem) → n + 1 ≤ m → m + 1 ≤ e → e ≤ 2 ^ 32 → Marks (jumps (n + 1) m) a → Marks (jumps (m + 1) e) b → Marks (jumps n e) (choice F p n m a b)
  choice_marks F p n m e a b x y few ma mb =
      let one = bare_then (jumps n (n + 1)) (jump m ∷ []) (mark n ∷ []) tt (mark_one n (omega arith)) in
      let first = falling n (n + 1) m a (jump m ∷ mark n ∷ []) (omega arith) x ma one in
      let second = falling m (m + 1) e b (mark m ∷ []) (omega arith) y mb (mark_one m (omega arith)) in
      let inner = a ++ jump m ∷ mark n ∷ [] in
      subst (Marks (jumps n e)) (sym (append_assoc (brings F p 9) (jump_unless (hand p 9) n ∷ inner) (b ++ mark m ∷ [])))
      (bare_then (jumps n e) (brings F p 9) (jump_unless (hand p 9) n ∷ (inner ++ (b ++ mark m ∷ []))) (brings_bare F p 9)
      (bare_then (jumps n e) (jump_unless (hand p 9) n ∷ []) (inner ++ (b ++ mark m ∷ [])) tt (rising n m e inner (b ++ mark m ∷ []) (omega arith) (omega arith) first second)))

  one_way_marks : (F : Frame) (p : Where) (n m : ℕ) (a : List AsmItem) → n + 1 ≤ m → m ≤ 2 ^ 32 → Marks (jumps (n + 1) m) a → Marks (jumps n m) (one_way F p n a)
  one_way_marks F p n m a x few ma =
      bare_then (jumps n m) (brings F p 9) (jump_unless (hand p 9) n ∷ (a ++ mark n ∷ [])) (brings_bare F p 9)
      (bare_then (jumps n m) (jump_unless (hand p 9) n ∷ []) (a ++ mark n ∷ []) tt (falling n (n + 1) m a (mark n ∷ []) (omega arith) x ma (mark_one n (omega (arith, x, few)))))

  alone_marks : (F : Frame) (p : Where) (n m : ℕ) (to : Option ℕ) (a : List AsmItem) → n + 1 ≤ m → m ≤ 2 ^ 32 → Marks (jumps (n + 1) m) a → Marks (jumps n m) (alone F p n to a)
  alone_marks F p n m None a x few ma = one_way_marks F p n m a x few ma
  alone_marks F p n m (Some l) a x few ma =
      bare_then (jumps n m) (brings F p 9) (jump_when (hand p 9) l ∷ mark n ∷ []) (brings_bare F p 9)
      (bare_then (jumps n m) (jump_when (hand p 9) l ∷ []) (mark n ∷ []) tt (marks_more (jumps n (n + 1)) (jumps n m) (mark n ∷ []) (jumps_within n (n + 1) n m (omega arith) (omega (arith, x))) (mark_one n (omega (arith, x, few)))))

  chosen_marks : (F : Frame) (p : Where) (n m e : ℕ) (t : Bool) (to : Option ℕ) (one a b : List AsmItem) → n + 1 ≤ m → m + 1 ≤ e → e ≤ 2 ^ 32 → Marks (jumps (n + 1) m) one → Marks (jumps (n + 1) m) a → Marks (jumps (m + 1) e) b → Marks (jumps n e) (cond t (alone F p n to one) (choice F p n m a b))
  chosen_marks F p n m e true to one a b x y few mo ma mb = marks_more (jumps n m) (jumps n e) (alone F p n to one) (jumps_within n m n e (omega arith) (omega (arith, y))) (alone_marks F p n m to one x (omega (arith, y, few)) mo)
  chosen_marks F p n m e false to one a b x y few mo ma mb = choice_marks F p n m e a b x y few ma mb

  enclosed_marks : (n e : ℕ) (a : List AsmItem) → n + 2 ≤ e → e ≤ 2 ^ 32 → Marks (jumps (n + 2) e) a → Marks (jumps n e) (enclosed n a)
  enclosed_marks n e a x few ma =
      let here : n + 1 + 1 ≡ n + 2 = omega arith in
      let last = subst (λ h. Marks (jumps (n + 1) h) (mark (n + 1) ∷ [])) here (mark_one (n + 1) (omega arith)) in
      rising n (n + 1) e (mark n ∷ []) (a ++ mark (n + 1) ∷ []) (omega arith) (omega arith) (mark_one n (omega arith)) (falling (n + 1) (n + 2) e a (mark (n + 1) ∷ []) (omega arith) x ma last)

  rotated_marks : (n e : ℕ) (part test : List AsmItem) → n + 3 ≤ e → e ≤ 2 ^ 32 → Marks (jumps (n + 3) e) part → Bare test → Marks (jumps n e) (rotated n part test)
  rotated_marks n e part test x few mp bt =
      let here : n + 1 + 1 ≡ n + 2 = omega arith in
      let there : n + 2 + 1 ≡ n + 3 = omega arith in
      let last = subst (λ h. Marks (jumps (n + 1) h) (mark (n + 1) ∷ [])) here (mark_one (n + 1) (omega (arith, x, few))) in
      let first = subst (λ h. Marks (jumps (n + 2) h) (mark (n + 2) ∷ [])) there (mark_one (n + 2) (omega (arith, x, few))) in
      let one = rising (n + 2) (n + 3) e (mark (n + 2) ∷ []) part (omega arith) (omega (arith, x)) first mp in
      let two = rising n (n + 1) (n + 2) (mark n ∷ []) (test ++ mark (n + 1) ∷ []) (omega arith) (omega arith) (mark_one n (omega (arith, x, few))) (bare_then (jumps (n + 1) (n + 2)) test (mark (n + 1) ∷ []) bt last) in
      bare_then (jumps n e) (jump n ∷ []) ((mark (n + 2) ∷ part) ++ (mark n ∷ (test ++ mark (n + 1) ∷ []))) tt (falling n (n + 2) e (mark (n + 2) ∷ part) (mark n ∷ (test ++ mark (n + 1) ∷ [])) (omega arith) (omega (arith, x)) one two)

  looped_marks : (t : Bool) (n e : ℕ) (all part test : List AsmItem) → n + 2 ≤ e → e ≤ 2 ^ 32 → Marks (jumps (n + 2) e) all → (t ≡ true → (n + 3 ≤ e) × Marks (jumps (n + 3) e) part) → Bare test → Marks (jumps n e) (looped t n all part test)
  looped_marks true n e all part test x few ma mp bt = let r = mp refl in rotated_marks n e part test r.0 few r.1 bt
  looped_marks false n e all part test x few ma mp bt = enclosed_marks n e all x few ma

  copy_bare : (y : Copying) (J : ℕ → Bool) → Bare (copy_items y J)
  copy_bare y J = backs_are (λ xs. Bare xs) tt (names_append (λ m. ⊥)) y (λ r q lt. tt) tt tt y.from J

  copied_marks : (y : Option Copying) (J : ℕ → Bool) (r : Range) (xs : List AsmItem) → Marks r xs → Marks r (copy_or y J xs)
  copied_marks None J r xs m = m
  copied_marks (Some y) J r xs m = marks_bare r (copy_items y J) (copy_bare y J)

  asked_marks : (y : Option ℕ) (J : ℕ → Bool) (r : Range) (xs : List AsmItem) → Marks r xs → Marks r (ask_or y J xs)
  asked_marks None J r xs m = m
  asked_marks (Some f) J r xs m = marks_bare r (asked_items f (J f)) (one_of_both (J f) (item.Op (instr.Mov (RegImm (register f) (Left 0))) ∷ []) [] tt tt)

  again_bare : (ls : List ℕ) (k : ℕ) (last : Behind) → Bare (again ls k last)
  again_bare ls k last = one_of_both ((k == 0) && is_turn last) [] (jump (enclosing ls k) ∷ []) tt tt

  gone_bare : (size : ℕ) → Bare (frame_gone size)
  gone_bare size = one_of_both (size == 0) (item.Op (instr.Plain RET) ∷ []) (item.Op (instr.Two IADD 15 (src.Imm (Left size))) ∷ item.Op (instr.Plain RET) ∷ []) tt tt

  leaving_bare : (F : Frame) (out : Option ℕ) → Bare (leaving F out)
  leaving_bare F None = gone_bare F.size
  leaving_bare F (Some n) = tt

  module _ (F : Frame) (out : Option ℕ) where
    test_bare : (to : ℕ) (c : NodesT Where) (done : ℕ) → Bare (test_items W F out to c done)
    test_bare to (Do o c) zero = let more = next_more W F o c in names_append (λ m. ⊥) (next_items W F o c) (test_items W F out to c more) (next_bare F o c) (test_bare to c more)
    test_bare to (Do o c) (suc done) = test_bare to c done
    test_bare to (Choose p a b c) done = names_append (λ m. ⊥) (brings F p 9) (jump_when (hand p 9) to ∷ test_items W F out to c 0) (brings_bare F p 9) (test_bare to c 0)
    test_bare to Stop done = tt
    test_bare to (Call t g args c) done = names_append (λ m. ⊥) (call_items W F t g args) (test_items W F out to c 0) (call_bare F t g args) (test_bare to c 0)
    test_bare to (Block b c) done = test_bare to c 0
    test_bare to (Loop b c) done = test_bare to c 0
    test_bare to (Leave k c) done = test_bare to c 0
    test_bare to (Again k c) done = test_bare to c 0
    test_bare to (Return p c) done = names_append (λ m. ⊥) (giving_left F p done) (test_items W F out to c 0) (left_bare F p done) (test_bare to c 0)

    some_label : (c : NodesT Where) → is_tested c ≡ true → 1 ≤ labels c
    some_label (Do o c) e = some_label c e
    some_label (Choose p a b c) e = omega arith
    some_label Stop e = absurd cc
    some_label (Call t g args c) e = absurd cc
    some_label (Block b c) e = absurd cc
    some_label (Loop b c) e = absurd cc
    some_label (Leave k c) e = absurd cc
    some_label (Again k c) e = absurd cc
    some_label (Return p c) e = absurd cc

    mutual
      past_marks : (c : NodesT Where) (done : ℕ) (last : Behind) (ls : List ℕ) (n e : ℕ) → n + labels c ≡ e → e ≤ 2 ^ 32 → Marks (jumps n e) (items_past W F out last ls n c done)
      past_marks Stop done last ls n e is few = marks_bare (jumps n e) [] tt
      past_marks (Do o c) zero last ls n e is few =
          let more = next_more W F o c in
          bare_then (jumps n e) (next_items W F o c) (items_past W F out last ls n c more) (next_bare F o c) (past_marks c more last ls n e is few)
      past_marks (Do o c) (suc done) last ls n e is few = past_marks c done last ls n e is few
      past_marks (Call t g args c) done last ls n e is few = bare_then (jumps n e) (call_items W F t g args) (items_past W F out last ls n c 0) (call_bare F t g args) (past_marks c 0 last ls n e is few)
      past_marks (Choose p a b c) done last ls n e is few =
          let m = n + 1 + labels a in
          let k = n + (2 + labels a + labels b) in
          rising n k e (cond (is_stop b) (alone F p n (left_to ls a) (items_past W F out (ends last c) ls (n + 1) a 0)) (choice F p n m (items_past W F out Other ls (n + 1) a 0) (items_past W F out (ends last c) ls (m + 1) b 0))) (items_past W F out last ls k c 0) (omega arith) (omega (arith, is))
          (chosen_marks F p n m k (is_stop b) (left_to ls a) (items_past W F out (ends last c) ls (n + 1) a 0) (items_past W F out Other ls (n + 1) a 0) (items_past W F out (ends last c) ls (m + 1) b 0) (omega arith) (omega arith) (omega (arith, is, few))
          (past_marks a 0 (ends last c) ls (n + 1) m (omega arith) (omega (arith, is, few))) (past_marks a 0 Other ls (n + 1) m (omega arith) (omega (arith, is, few))) (past_marks b 0 (ends last c) ls (m + 1) k (omega arith) (omega (arith, is, few))))
          (past_marks c 0 last ls k e (omega (arith, is)) few)
      past_marks (Block b c) done last ls n e is few =
          let k = n + (2 + labels b) in
          rising n k e (enclosed n (items_past W F out (inside (ends last c)) (ls ++ n ∷ []) (n + 2) b 0)) (items_past W F out last ls k c 0) (omega arith) (omega (arith, is))
          (enclosed_marks n k (items_past W F out (inside (ends last c)) (ls ++ n ∷ []) (n + 2) b 0) (omega arith) (omega (arith, is, few)) (past_marks b 0 (inside (ends last c)) (ls ++ n ∷ []) (n + 2) k (omega arith) (omega (arith, is, few))))
          (past_marks c 0 last ls k e (omega (arith, is)) few)
      past_marks (Loop b c) done last ls n e is few =
          let k = n + (2 + labels b) in
          let all = items_past W F out (inside (ends last c)) (ls ++ n ∷ []) (n + 2) b 0 in
          let part = part_items W F out (ls ++ n ∷ []) (n + 2) b in
          let test = test_items W F out (n + 2) b 0 in
          let up : n + 2 + 1 ≡ n + 3 = omega arith in
          let asked = live_soon ahead F.lasting c in
          let turns = looped (is_tested b) n all part test in
          rising n k e (ask_or (ask_of b) asked (copy_or (copy_at done b) asked turns)) (items_past W F out last ls k c 0) (omega arith) (omega (arith, is))
          (asked_marks (ask_of b) asked (jumps n k) (copy_or (copy_at done b) asked turns) (copied_marks (copy_at done b) asked (jumps n k) turns (looped_marks (is_tested b) n k all part test (omega arith) (omega (arith, is, few)) (past_marks b 0 (inside (ends last c)) (ls ++ n ∷ []) (n + 2) k (omega arith) (omega (arith, is, few)))
          (λ t. let r = some_label b t in (omega (arith, r), subst (λ h. Marks (jumps h k) part) up (part_marks b (ls ++ n ∷ []) (n + 2) k (omega arith) (omega (arith, is, few))))) (test_bare (n + 2) b 0))))
          (past_marks c 0 last ls k e (omega (arith, is)) few)
      past_marks (Leave k c) done last ls n e is few = bare_then (jumps n e) (jump _ ∷ []) (items_past W F out last ls n c 0) tt (past_marks c 0 last ls n e is few)
      past_marks (Again k c) done last ls n e is few = bare_then (jumps n e) (again ls k (ends last c)) (items_past W F out last ls n c 0) (again_bare ls k (ends last c)) (past_marks c 0 last ls n e is few)
      past_marks (Return p c) done last ls n e is few =
          let left = left_by F out (is_end (ends last c)) in
          let rest = items_past W F out last ls n c 0 in
          bare_then (jumps n e) (giving_left F p done) (left ++ rest) (left_bare F p done) (bare_then (jumps n e) left rest (one_of_both (is_end (ends last c)) [] (leaving F out) tt (leaving_bare F out)) (past_marks c 0 last ls n e is few))

      part_marks : (c : NodesT Where) (ls : List ℕ) (n e : ℕ) → n + labels c ≡ e → e ≤ 2 ^ 32 → Marks (jumps (n + 1) e) (part_items W F out ls n c)
      part_marks (Do o c) ls n e is few = part_marks c ls n e is few
      part_marks (Choose p a b c) ls n e is few =
          let m = n + 1 + labels a in
          marks_more (jumps (n + 1) m) (jumps (n + 1) e) (items_past W F out Turn ls (n + 1) a 0) (jumps_within (n + 1) m (n + 1) e (omega arith) (omega (arith, is))) (past_marks a 0 Turn ls (n + 1) m (omega arith) (omega (arith, is, few)))
      part_marks Stop ls n e is few = marks_bare (jumps (n + 1) e) [] tt
      part_marks (Call t g args c) ls n e is few = part_marks c ls n e is few
      part_marks (Block b c) ls n e is few = marks_bare (jumps (n + 1) e) [] tt
      part_marks (Loop b c) ls n e is few = marks_bare (jumps (n + 1) e) [] tt
      part_marks (Leave k c) ls n e is few = marks_bare (jumps (n + 1) e) [] tt
      part_marks (Again k c) ls n e is few = marks_bare (jumps (n + 1) e) [] tt
      part_marks (Return p c) ls n e is few = marks_bare (jumps (n + 1) e) [] tt

    pub code_marks : (c : NodesT Where) (ls : List ℕ) (n e : ℕ) → n + labels c ≡ e → e ≤ 2 ^ 32 → Marks (jumps n e) (code_items W F out ls n c)
    code_marks c ls n e is few = past_marks c 0 End ls n e is few

  -- ---- the whole program

  abbrev pub span : (n e f g k j : ℕ) → Range
  span n e f g k j = record { j0 = n; j1 = e; f0 = f; f1 = g; t0 = k; t1 = j }

  closing_marks : (main : ℕ) → Marks (jumps 0 1) (closing_items W main)
  closing_marks main = let one : 0 + 1 ≡ 1 = omega arith in subst (λ h. Marks (jumps 0 h) (closing_items W main)) one (then_bare (jumps 0 (0 + 1)) (mark 0 ∷ []) (item.Op _ ∷ item.Op _ ∷ []) (mark_one 0 (omega arith)) tt)

  start_marks : (main : ℕ) (body : NodesT Where) (e : ℕ) → 1 + labels body ≡ e → e ≤ 2 ^ 32 → Marks (jumps 0 e) (start_items W main body)
  start_marks main body e is few =
      falling 0 1 e (code_items W start_frame (Some 0) [] 1 body) (closing_items W main) (omega arith) (omega (arith, is)) (code_marks start_frame (Some 0) body [] 1 e is few) (closing_marks main)

  entry_marks : (f : ℕ) → f < length W.names → Marks (span 0 0 f (f + 1) 0 0) (entry_items W f (W.frames f))
  entry_marks f lt =
      let label = item.Label (function_label W.names f) in
      then_bare (span 0 0 f (f + 1) 0 0) (label ∷ []) (frame_made (W.frames f).size) (record { names = ((Fun f, lt, refl, (omega arith, omega arith)), tt); distinct = (tt, tt) })
      (one_of_both ((W.frames f).size == 0) [] (item.Op (instr.Two ISUB 15 (src.Imm (Left (W.frames f).size))) ∷ []) tt tt)

  exit_marks : (n : ℕ) (F : Frame) → n < 2 ^ 32 → Marks (jumps n (n + 1)) (exit_items n F)
  exit_marks n F lt =
      then_bare (jumps n (n + 1)) (mark n ∷ []) (frame_gone F.size) (mark_one n lt) (gone_bare F.size)

  function_marks : (f n e : ℕ) (body : NodesT Where) → f < length W.names → n + 1 + labels body ≡ e → e ≤ 2 ^ 32 → Marks (span n e f (f + 1) 0 0) (function_items W f n body)
  function_marks f n e body lt is few =
      marks_both (span 0 0 f (f + 1) 0 0) (jumps n e) (span n e f (f + 1) 0 0) (entry_items W f (W.frames f)) (code_items W (W.frames f) None [] (n + 1) body ++ exit_items n (W.frames f)) left right apart (entry_marks f lt)
      (falling n (n + 1) e (code_items W (W.frames f) None [] (n + 1) body) (exit_items n (W.frames f)) (omega arith) (omega (arith, is)) (code_marks (W.frames f) None body [] (n + 1) e is few) (exit_marks n (W.frames f) (omega (arith, is, few))))
    where
      left : Within (span 0 0 f (f + 1) 0 0) (span n e f (f + 1) 0 0)
      left (Jump k) h = (omega (arith, h), omega (arith, h))
      left (Fun k) h = (omega (arith, h), omega (arith, h))
      left (Text k) h = (omega (arith, h), omega (arith, h))

      right : Within (jumps n e) (span n e f (f + 1) 0 0)
      right (Jump k) h = (omega (arith, h), omega (arith, h))
      right (Fun k) h = (omega (arith, h), omega (arith, h))
      right (Text k) h = (omega (arith, h), omega (arith, h))

      apart : Aside (span 0 0 f (f + 1) 0 0) (jumps n e)
      apart (Jump k) h g = omega (arith, h)
      apart (Fun k) h g = omega (arith, g)
      apart (Text k) h g = omega (arith, g)

  functions_marks : (f j n e : ℕ) (gs : List (FunctionT Where)) → f + length gs ≡ j → j ≤ length W.names → n + functions_labels gs ≡ e → e ≤ 2 ^ 32 → Marks (span n e f j 0 0) (functions_items W f n gs)
  functions_marks f j n e [] count named is few = marks_bare (span n e f j 0 0) [] tt
  functions_marks f j n e (g ∷ gs) count named is few =
      marks_both (span n m f (f + 1) 0 0) (span m e (f + 1) j 0 0) (span n e f j 0 0) (function_items W f n g.body) (functions_items W (f + 1) m gs) left right apart
      (function_marks f n m g.body (omega (arith, count, named)) refl (omega (arith, is, few))) (functions_marks (f + 1) j m e gs (omega (arith, count)) named (omega (arith, is)) few)
    where
      m : ℕ
      m = n + 1 + labels g.body

      left : Within (span n (n + 1 + labels g.body) f (f + 1) 0 0) (span n e f j 0 0)
      left (Jump k) h = (omega (arith, h), omega (arith, h, is))
      left (Fun k) h = (omega (arith, h), omega (arith, h, count))
      left (Text k) h = (omega (arith, h), omega (arith, h))

      right : Within (span (n + 1 + labels g.body) e (f + 1) j 0 0) (span n e f j 0 0)
      right (Jump k) h = (omega (arith, h), omega (arith, h))
      right (Fun k) h = (omega (arith, h), omega (arith, h))
      right (Text k) h = (omega (arith, h), omega (arith, h))

      apart : Aside (span n (n + 1 + labels g.body) f (f + 1) 0 0) (span (n + 1 + labels g.body) e (f + 1) j 0 0)
      apart (Jump k) h i = omega (arith, h, i)
      apart (Fun k) h i = omega (arith, h, i)
      apart (Text k) h i = omega (arith, h, i)

  integers_bare : (bytes : List ℕ) → Bare (map item.Integer bytes)
  integers_bare [] = tt
  integers_bare (b ∷ bytes) = integers_bare bytes

  literal_marks : (k : ℕ) (text : List ℕ) → k < 2 ^ 32 → Marks (span 0 0 0 0 k (k + 1)) (literal_items k text)
  literal_marks k text lt =
      then_bare (span 0 0 0 0 k (k + 1)) (item.Label (literal_label k) ∷ []) (map item.Integer text ++ item.Integer 0 ∷ [])
      (record { names = ((Text k, lt, refl, (omega arith, omega arith)), tt); distinct = (tt, tt) }) (names_append (λ m. ⊥) (map item.Integer text) (item.Integer 0 ∷ []) (integers_bare text) tt)

  literals_marks : (k j : ℕ) (texts : List (List ℕ)) → k + length texts ≡ j → j ≤ 2 ^ 32 → Marks (span 0 0 0 0 k j) (literals_items k texts)
  literals_marks k j [] count few = marks_bare (span 0 0 0 0 k j) [] tt
  literals_marks k j (text ∷ texts) count few =
      marks_both (span 0 0 0 0 k (k + 1)) (span 0 0 0 0 (k + 1) j) (span 0 0 0 0 k j) (literal_items k text) (literals_items (k + 1) texts) left right apart
      (literal_marks k text (omega (arith, count, few))) (literals_marks (k + 1) j texts (omega (arith, count)) few)
    where
      left : Within (span 0 0 0 0 k (k + 1)) (span 0 0 0 0 k j)
      left (Jump i) h = (omega (arith, h), omega (arith, h))
      left (Fun i) h = (omega (arith, h), omega (arith, h))
      left (Text i) h = (omega (arith, h), omega (arith, h, count))

      right : Within (span 0 0 0 0 (k + 1) j) (span 0 0 0 0 k j)
      right (Jump i) h = (omega (arith, h), omega (arith, h))
      right (Fun i) h = (omega (arith, h), omega (arith, h))
      right (Text i) h = (omega (arith, h), omega (arith, h))

      apart : Aside (span 0 0 0 0 k (k + 1)) (span 0 0 0 0 (k + 1) j)
      apart (Jump i) h g = omega (arith, h)
      apart (Fun i) h g = omega (arith, h)
      apart (Text i) h g = omega (arith, h, g)

  pub program_marks : (x : CodeT Where) → length x.functions ≤ length W.names → labels_of x ≤ 2 ^ 32 → length x.literals ≤ 2 ^ 32 → Marks (span 0 (labels_of x) 0 (length x.functions) 0 (length x.literals)) (program_items W x)
  program_marks x named few fewer =
      marks_both (jumps 0 s) (span s e 0 (length x.functions) 0 (length x.literals)) (span 0 e 0 (length x.functions) 0 (length x.literals)) (start_items W x.main x.start.body) (functions_items W 0 s x.functions ++ literals_items 0 x.literals) left right apart
      (start_marks x.main x.start.body s refl (omega (arith, few)))
      (marks_both (span s e 0 (length x.functions) 0 0) (span 0 0 0 0 0 (length x.literals)) (span s e 0 (length x.functions) 0 (length x.literals)) (functions_items W 0 s x.functions) (literals_items 0 x.literals) left2 right2 apart2
      (functions_marks 0 (length x.functions) s e x.functions (omega arith) named refl few) (literals_marks 0 (length x.literals) x.literals (omega arith) fewer))
    where
      s : ℕ
      s = 1 + labels x.start.body

      e : ℕ
      e = labels_of x

      left : Within (jumps 0 (1 + labels x.start.body)) (span 0 (labels_of x) 0 (length x.functions) 0 (length x.literals))
      left (Jump i) h = (omega (arith, h), omega (arith, h))
      left (Fun i) h = (omega (arith, h), omega (arith, h))
      left (Text i) h = (omega (arith, h), omega (arith, h))

      right : Within (span (1 + labels x.start.body) (labels_of x) 0 (length x.functions) 0 (length x.literals)) (span 0 (labels_of x) 0 (length x.functions) 0 (length x.literals))
      right (Jump i) h = (omega (arith, h), omega (arith, h))
      right (Fun i) h = (omega (arith, h), omega (arith, h))
      right (Text i) h = (omega (arith, h), omega (arith, h))

      apart : Aside (jumps 0 (1 + labels x.start.body)) (span (1 + labels x.start.body) (labels_of x) 0 (length x.functions) 0 (length x.literals))
      apart (Jump i) h g = omega (arith, h, g)
      apart (Fun i) h g = omega (arith, h)
      apart (Text i) h g = omega (arith, h)

      left2 : Within (span (1 + labels x.start.body) (labels_of x) 0 (length x.functions) 0 0) (span (1 + labels x.start.body) (labels_of x) 0 (length x.functions) 0 (length x.literals))
      left2 (Jump i) h = (omega (arith, h), omega (arith, h))
      left2 (Fun i) h = (omega (arith, h), omega (arith, h))
      left2 (Text i) h = (omega (arith, h), omega (arith, h))

      right2 : Within (span 0 0 0 0 0 (length x.literals)) (span (1 + labels x.start.body) (labels_of x) 0 (length x.functions) 0 (length x.literals))
      right2 (Jump i) h = (omega (arith, h), omega (arith, h))
      right2 (Fun i) h = (omega (arith, h), omega (arith, h))
      right2 (Text i) h = (omega (arith, h), omega (arith, h))

      apart2 : Aside (span (1 + labels x.start.body) (labels_of x) 0 (length x.functions) 0 0) (span 0 0 0 0 0 (length x.literals))
      apart2 (Jump i) h g = omega (arith, g)
      apart2 (Fun i) h g = omega (arith, g)
      apart2 (Text i) h g = omega (arith, h)
