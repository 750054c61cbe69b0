-- The loops that copy words or fill them, and the operations before them, as they are recognised.
use Rattle.std.proofs.Common.{◌≡◌, ◌≢◌, ℕ, zero, suc, ◌+◌, ◌≤◌, ◌⊎◌, inl, inr, Bool, true, false, cond, Option, Some, None, refl, sym, ap, ◌∙◌, subst, arith}
use Rattle.std.specs.Prelude.{◌==◌, ◌&&◌, ◌||◌, not}
use Rattle.std.proofs.lemmas.Bool.{eqb-true, eqb-false}
use Rattle.v32_isa.specs.declared.instruction.Two.TheVariants.{ISUB}
use Rattle.mid_code.specs.declared.placed.Where.{Where}
use Rattle.mid_code.specs.declared.placed.Where.TheVariants.{Reg}
use Rattle.mid_code.specs.Code.{NodesT, Stop, Do, Choose, Loop, Again, OpT, ConstO, MoveO, TwoO, GlobalO, LocalO, StepO, LoadO, StoreO}
use Rattle.asm_laws.specs.declared.copying.Copying.{Copying}
use Rattle.asm_laws.specs.Copies.{steps_by, steps_to, steps_on, goes_round, four_differ, differ, is_copy, ends_here, turns_here, copy_counted, copy_stored, copy_of, put_into, copy_after, reads_moved, puts_ahead, last_put, is_count, is_one, leads_to, leads, lead}

both : (p q : Bool) → p && q ≡ true → (p ≡ true) × (q ≡ true)
both true true e = (refl, refl)
both true false e = absurd cc
both false q e = absurd cc

off : (p : Bool) → not p ≡ true → p ≡ false
off false e = refl
off true e = absurd cc

-- the registers of a loop that copies words, and of one that fills them
pub record Copier : Type 0 where
  pub from : ℕ
  pub to : ℕ
  pub cell : ℕ
  pub count : ℕ
  pub one : ℕ

pub record Filler : Type 0 where
  pub to : ℕ
  pub cell : ℕ
  pub count : ℕ
  pub one : ℕ

abbrev pub copying : Copier → Copying
copying v = record { from = Some v.from; to = v.to; cell = v.cell; count = v.count; one = v.one }

abbrev pub filling : Filler → Copying
filling v = record { from = None; to = v.to; cell = v.cell; count = v.count; one = v.one }

-- a turn of such a loop
abbrev pub copy_turn : Copier → NodesT Where
copy_turn y = Do (LoadO (Reg y.cell) (Reg y.from)) (Do (StoreO (Reg y.to) (Reg y.cell)) (Do (TwoO ISUB (Reg y.count) (Reg y.count) (Reg y.one))
    (Choose (Reg y.count) (Do (StepO (Reg y.from) (Reg y.from) (Reg y.one)) (Do (StepO (Reg y.to) (Reg y.to) (Reg y.one)) (Again zero Stop))) Stop Stop)))

abbrev pub fill_turn : Filler → NodesT Where
fill_turn y = Do (StoreO (Reg y.to) (Reg y.cell)) (Do (TwoO ISUB (Reg y.count) (Reg y.count) (Reg y.one))
    (Choose (Reg y.count) (Do (StepO (Reg y.to) (Reg y.to) (Reg y.one)) (Again zero Stop)) Stop Stop))

-- its registers differ, and none is register 8
pub record Four (to cell count one : ℕ) : Type 0 where
  pub to_cell : to ≢ cell
  pub to_count : to ≢ count
  pub to_one : to ≢ one
  pub to_eight : to ≢ 8
  pub cell_count : cell ≢ count
  pub cell_one : cell ≢ one
  pub cell_eight : cell ≢ 8
  pub count_one : count ≢ one
  pub count_eight : count ≢ 8
  pub one_eight : one ≢ 8

pub record Apart (y : Copier) : Type 0 where
  pub from_to : y.from ≢ y.to
  pub from_cell : y.from ≢ y.cell
  pub from_count : y.from ≢ y.count
  pub from_one : y.from ≢ y.one
  pub from_eight : y.from ≢ 8
  pub four : Four y.to y.cell y.count y.one

unlike : (a b : ℕ) → not (a == b) ≡ true → a ≢ b
unlike a b e = eqb-false a b (off (a == b) e)

four_apart : (y : Copying) → four_differ y ≡ true → Four y.to y.cell y.count y.one
four_apart y e =
    let i = both _ _ e in
    let t0 = both _ _ i.0 in
    let t1 = both _ _ t0.1 in
    let t2 = both _ _ t1.1 in
    let j = both _ _ i.1 in
    let c0 = both _ _ j.0 in
    let c1 = both _ _ c0.1 in
    let k = both _ _ j.1 in
    let n0 = both _ _ k.0 in
    record {
      to_cell = unlike y.to y.cell t0.0;
      to_count = unlike y.to y.count t1.0;
      to_one = unlike y.to y.one t2.0;
      to_eight = unlike y.to 8 t2.1;
      cell_count = unlike y.cell y.count c0.0;
      cell_one = unlike y.cell y.one c1.0;
      cell_eight = unlike y.cell 8 c1.1;
      count_one = unlike y.count y.one n0.0;
      count_eight = unlike y.count 8 n0.1;
      one_eight = unlike y.one 8 k.1;
    }

apart : (v : Copier) → differ (copying v) ≡ true → Apart v
apart v e =
    let h = both _ _ e in
    let f0 = both _ _ h.0 in
    let f1 = both _ _ f0.1 in
    let f2 = both _ _ f1.1 in
    let f3 = both _ _ f2.1 in
    record {
      from_to = unlike v.from v.to f0.0;
      from_cell = unlike v.from v.cell f1.0;
      from_count = unlike v.from v.count f2.0;
      from_one = unlike v.from v.one f3.0;
      from_eight = unlike v.from 8 f3.1;
      four = four_apart (copying v) h.1;
    }

step_is : (address one t p n : ℕ) → steps_by address one t p n ≡ true → (t ≡ address) × (p ≡ address) × (n ≡ one)
step_is address one t p n e =
    let h = both (t == address) _ e in
    let i = both (p == address) (n == one) h.1 in
    (eqb-true t address h.0, eqb-true p address i.0, eqb-true n one i.1)

ends_is : (c : NodesT Where) → ends_here c ≡ true → c ≡ Stop
ends_is Stop e = refl
ends_is _ e = absurd cc

turns_is : (c : NodesT Where) → turns_here c ≡ true → c ≡ Again zero Stop
turns_is (Again k c) e =
    let h = both (k == 0) (ends_here c) e in
    let q = eqb-true k 0 h.0 in
    let r = ends_is c h.1 in
    λ i. Again (q i) (r i)
turns_is _ e = absurd cc

to_is : (y : Copying) (c : NodesT Where) → steps_to y c ≡ true → c ≡ Do (StepO (Reg y.to) (Reg y.to) (Reg y.one)) (Again zero Stop)
to_is y (Do (StepO (Reg t) (Reg p) (Reg n)) c) e =
    let g = both (steps_by y.to y.one t p n) (turns_here c) e in
    let h = step_is y.to y.one t p n g.0 in
    let r = turns_is c g.1 in
    λ i. Do (StepO (Reg (h.0 i)) (Reg (h.1 i)) (Reg (h.2 i))) (r i)
to_is y _ e = absurd cc

-- what is done in a turn that is not the last one
abbrev steps_of : Option ℕ → Copying → NodesT Where
steps_of None y = Do (StepO (Reg y.to) (Reg y.to) (Reg y.one)) (Again zero Stop)
steps_of (Some f) y = Do (StepO (Reg f) (Reg f) (Reg y.one)) (Do (StepO (Reg y.to) (Reg y.to) (Reg y.one)) (Again zero Stop))

on_is : (f : Option ℕ) (y : Copying) (c : NodesT Where) → steps_on f y c ≡ true → c ≡ steps_of f y
on_is None y c e = to_is y c e
on_is (Some f) y (Do (StepO (Reg t) (Reg p) (Reg n)) c) e =
    let h = both (steps_by f y.one t p n) (steps_to y c) e in
    let s = step_is f y.one t p n h.0 in
    let r = to_is y c h.1 in
    λ i. Do (StepO (Reg (s.0 i)) (Reg (s.1 i)) (Reg (s.2 i))) (r i)
on_is (Some f) y _ e = absurd cc

round_is : (y : Copying) (c : NodesT Where) → goes_round y c ≡ true → c ≡ Choose (Reg y.count) (steps_of y.from y) Stop Stop
round_is y (Choose (Reg w) a b c) e =
    let g = both ((w == y.count) && steps_on y.from y a) (ends_here b && ends_here c) e in
    let h = both (w == y.count) (steps_on y.from y a) g.0 in
    let k = both (ends_here b) (ends_here c) g.1 in
    let q = eqb-true w y.count h.0 in
    let r = on_is y.from y a h.1 in
    let u = ends_is b k.0 in
    let v = ends_is c k.1 in
    λ i. Choose (Reg (q i)) (r i) (u i) (v i)
round_is y _ e = absurd cc

when_some : (b : Bool) (x y : Copying) → cond b (Some x) None ≡ Some y → (b ≡ true) × (x ≡ y)
when_some true x y e = (refl, cc)
when_some false x y e = absurd cc

if_some : (b : Bool) (x : Option Copying) (y : Copying) → cond b x None ≡ Some y → (b ≡ true) × (x ≡ Some y)
if_some true x y e = (refl, e)
if_some false x y e = absurd cc

-- the count goes down, and where words are left the addresses go on
abbrev counted_down : Copying → NodesT Where
counted_down y = Do (TwoO ISUB (Reg y.count) (Reg y.count) (Reg y.one)) (Choose (Reg y.count) (steps_of y.from y) Stop Stop)

record Counted (from : Option ℕ) (to cell : ℕ) (c : NodesT Where) (y : Copying) : Type 0 where
  count : ℕ
  one : ℕ
  same : record { from = from; to = to; cell = cell; count = count; one = one } ≡ y
  nodes : c ≡ counted_down (record { from = from; to = to; cell = cell; count = count; one = one })
  differ : differ (record { from = from; to = to; cell = cell; count = count; one = one }) ≡ true

counted_is : (from : Option ℕ) (to cell : ℕ) (c : NodesT Where) (y : Copying) → copy_counted from to cell c ≡ Some y → Counted from to cell c y
counted_is from to cell (Do (TwoO ISUB (Reg t) (Reg x) (Reg n)) c) y e =
    let z : Copying = record { from = from; to = to; cell = cell; count = t; one = n } in
    let h = when_some (is_copy z x c) z y e in
    let i = both (x == t) (goes_round z c && differ z) h.0 in
    let j = both (goes_round z c) (differ z) i.1 in
    let q = eqb-true x t i.0 in
    let r = round_is z c j.0 in
    record { count = t; one = n; same = h.1; nodes = λ k. Do (TwoO ISUB (Reg t) (Reg (q k)) (Reg n)) (r k); differ = j.1 }
counted_is from to cell _ y e = absurd cc

-- a turn of a loop that copies words, or of one that fills them
pub record CopyTurn (b : NodesT Where) (y : Copying) : Type 0 where
  pub registers : Copier
  pub same : copying registers ≡ y
  pub nodes : b ≡ copy_turn registers
  pub apart : Apart registers

pub record FillTurn (b : NodesT Where) (y : Copying) : Type 0 where
  pub registers : Filler
  pub same : filling registers ≡ y
  pub nodes : b ≡ fill_turn registers
  pub apart : Four registers.to registers.cell registers.count registers.one

filled_is : (to cell : ℕ) (c : NodesT Where) (y : Copying) → copy_counted None to cell c ≡ Some y → FillTurn (Do (StoreO (Reg to) (Reg cell)) c) y
filled_is to cell c y e =
    let h = counted_is None to cell c y e in
    let v : Filler = record { to = to; cell = cell; count = h.count; one = h.one } in
    record { registers = v; same = h.same; nodes = ap (λ d. Do (StoreO (Reg to) (Reg cell)) d) h.nodes; apart = four_apart (filling v) h.differ }

copied_is : (from to cell : ℕ) (c : NodesT Where) (y : Copying) → copy_counted (Some from) to cell c ≡ Some y → CopyTurn (Do (LoadO (Reg cell) (Reg from)) (Do (StoreO (Reg to) (Reg cell)) c)) y
copied_is from to cell c y e =
    let h = counted_is (Some from) to cell c y e in
    let v : Copier = record { from = from; to = to; cell = cell; count = h.count; one = h.one } in
    record { registers = v; same = h.same; nodes = ap (λ d. Do (LoadO (Reg cell) (Reg from)) (Do (StoreO (Reg to) (Reg cell)) d)) h.nodes; apart = apart v h.differ }

stored_is : (from cell : ℕ) (c : NodesT Where) (y : Copying) → copy_stored from cell c ≡ Some y → CopyTurn (Do (LoadO (Reg cell) (Reg from)) c) y
stored_is from cell (Do (StoreO (Reg to) (Reg a)) c) y e =
    let h = if_some (a == cell) (copy_counted (Some from) to cell c) y e in
    let q = eqb-true a cell h.0 in
    let r = copied_is from to cell c y h.1 in
    record { registers = r.registers; same = r.same; nodes = ap (λ n. Do (LoadO (Reg cell) (Reg from)) (Do (StoreO (Reg to) (Reg n)) c)) q ∙ r.nodes; apart = r.apart }
stored_is from cell _ y e = absurd cc

pub copy_is : (b : NodesT Where) (y : Copying) → copy_of b ≡ Some y → CopyTurn b y ⊎ FillTurn b y
unfolding copy_of
copy_is (Do (LoadO (Reg cell) (Reg from)) c) y e = inl (stored_is from cell c y e)
copy_is (Do (StoreO (Reg to) (Reg cell)) c) y e = inr (filled_is to cell c y e)
copy_is _ y e = absurd cc

-- ---- the operations before it

-- how many operations that put a word into a register come before such a loop, and its registers
abbrev pub one_more : Option (ℕ × Copying) → Option (ℕ × Copying)
one_more None = None
one_more (Some (k, y)) = Some (suc k, y)

abbrev pub no_more : Option Copying → Option (ℕ × Copying)
no_more None = None
no_more (Some y) = Some (0, y)

unfoldable pub puts_before : NodesT Where → Option (ℕ × Copying)
puts_before (Do (ConstO (Reg r) n) c) = one_more (puts_before c)
puts_before (Do (GlobalO (Reg r) k) c) = one_more (puts_before c)
puts_before (Do (LocalO (Reg r) k) c) = one_more (puts_before c)
puts_before (Do (MoveO (Reg r) p) c) = one_more (puts_before c)
puts_before (Loop b c) = no_more (copy_of b)
puts_before _ = None

first_of : Option (ℕ × Copying) → ℕ
first_of None = 0
first_of (Some (k, y)) = k

second_of : Copying → Option (ℕ × Copying) → Copying
second_of z None = z
second_of z (Some (k, y)) = y

abbrev one_pair : ℕ → Copying → Option (ℕ × Copying)
one_pair k y = Some (k, y)

pair_is : (j : ℕ) (z : Copying) (k : ℕ) (y : Copying) → one_pair j z ≡ one_pair k y → (j ≡ k) × (z ≡ y)
unfolding first_of second_of
pair_is j z k y e = (ap first_of e, ap (second_of z) e)

more_is : (x : Option (ℕ × Copying)) (k : ℕ) (y : Copying) → one_more x ≡ Some (k, y) → (j : ℕ) × (k ≡ suc j) × (x ≡ Some (j, y))
more_is None k y e = absurd cc
more_is (Some (j, z)) k y e = let p = pair_is (suc j) z k y e in (j, sym p.0, λ i. Some (j, p.1 i))

some_k : (j k : ℕ) → Some j ≡ Some k → j ≡ k
some_k j k e = cc

none_is : (x : Option Copying) (k : ℕ) (y : Copying) → no_more x ≡ Some (k, y) → (k ≡ 0) × (x ≡ Some y)
none_is None k y e = absurd cc
none_is (Some z) k y e = let p = pair_is 0 z k y e in (sym p.0, ap Some p.1)

-- what holds of the loop, and of each operation before it where it holds behind that
pub puts_elim : (P : NodesT Where → ℕ → Copying → Type 0) → ((b c : NodesT Where) (y : Copying) → copy_of b ≡ Some y → P (Loop b c) 0 y) →
    ((o : OpT Where) (r : ℕ) (c : NodesT Where) (k : ℕ) (y : Copying) → put_into o ≡ Some r → puts_before c ≡ Some (k, y) → P c k y → P (Do o c) (suc k) y) →
    (c : NodesT Where) (k : ℕ) (y : Copying) → puts_before c ≡ Some (k, y) → P c k y
unfolding puts_before
puts_elim P base step (Do (ConstO (Reg r) n) c) k y e =
    let i = more_is (puts_before c) k y e in
    subst (λ h. P (Do (ConstO (Reg r) n) c) h y) (sym i.1) (step (ConstO (Reg r) n) r c i.0 y refl i.2 (puts_elim P base step c i.0 y i.2))
puts_elim P base step (Do (GlobalO (Reg r) n) c) k y e =
    let i = more_is (puts_before c) k y e in
    subst (λ h. P (Do (GlobalO (Reg r) n) c) h y) (sym i.1) (step (GlobalO (Reg r) n) r c i.0 y refl i.2 (puts_elim P base step c i.0 y i.2))
puts_elim P base step (Do (LocalO (Reg r) n) c) k y e =
    let i = more_is (puts_before c) k y e in
    subst (λ h. P (Do (LocalO (Reg r) n) c) h y) (sym i.1) (step (LocalO (Reg r) n) r c i.0 y refl i.2 (puts_elim P base step c i.0 y i.2))
puts_elim P base step (Do (MoveO (Reg r) p) c) k y e =
    let i = more_is (puts_before c) k y e in
    subst (λ h. P (Do (MoveO (Reg r) p) c) h y) (sym i.1) (step (MoveO (Reg r) p) r c i.0 y refl i.2 (puts_elim P base step c i.0 y i.2))
puts_elim P base step (Loop b c) k y e =
    let i = none_is (copy_of b) k y e in
    subst (λ h. P (Loop b c) h y) (sym i.0) (base b c y i.1)
puts_elim P base step _ k y e = absurd cc

-- an operation that comes first is counted
abbrev pub Positive : NodesT Where → ℕ → Type 0
Positive (Do o c) k = 1 ≤ k
Positive _ k = Unit {0}

pub some_put : (c : NodesT Where) (k : ℕ) (y : Copying) → puts_before c ≡ Some (k, y) → Positive c k
some_put = puts_elim (λ c k y. Positive c k) (λ b c y q. tt) (λ o r c k y p q h. omega arith)

-- what holds of operations that put a word into a register
pub put_elim : (P : OpT Where → ℕ → Type 0) → ((r n : ℕ) → P (ConstO (Reg r) n) r) → ((r k : ℕ) → P (GlobalO (Reg r) k) r) → ((r k : ℕ) → P (LocalO (Reg r) k) r) → ((r : ℕ) (p : Where) → P (MoveO (Reg r) p) r) →
    (o : OpT Where) (r : ℕ) → put_into o ≡ Some r → P o r
put_elim P const global local move (ConstO (Reg q) n) r e = subst (P (ConstO (Reg q) n)) (some_k q r e) (const q n)
put_elim P const global local move (GlobalO (Reg q) k) r e = subst (P (GlobalO (Reg q) k)) (some_k q r e) (global q k)
put_elim P const global local move (LocalO (Reg q) k) r e = subst (P (LocalO (Reg q) k)) (some_k q r e) (local q k)
put_elim P const global local move (MoveO (Reg q) p) r e = subst (P (MoveO (Reg q) p)) (some_k q r e) (move q p)
put_elim P const global local move _ r e = absurd cc

-- an operation that takes a word from a register that is moved later
abbrev pub takes_moved : Copying → OpT Where → Bool
takes_moved y (MoveO t p) = reads_moved y p
takes_moved y o = false

abbrev pub AllClear : Copying → NodesT Where → ℕ → Type 0
AllClear y (Do o c) (suc k) = (takes_moved y o ≡ false) × AllClear y c k
AllClear y _ k = Unit {0}

-- a group of such operations, and its registers
pub record Leads (c : NodesT Where) (k : ℕ) (y : Copying) : Type 0 where
  pub puts : puts_before c ≡ Some (k, y)
  pub clear : AllClear y c k
  pub count : is_count (last_put y.count c None) ≡ true
  pub one : is_one (last_put y.one c None) ≡ true

-- so many, counted on from so many before
record Counts (j k : ℕ) (c : NodesT Where) (y : Copying) : Type 0 where
  more : ℕ
  total : k ≡ j + more
  puts : puts_before c ≡ Some (more, y)
  clear : AllClear y c more

counts_one : (j k : ℕ) (c : NodesT Where) (o : OpT Where) (y : Copying) → puts_before (Do o c) ≡ one_more (puts_before c) → takes_moved y o ≡ false → Counts (j + 1) k c y → Counts j k (Do o c) y
counts_one j k c o y e clear h = record { more = suc h.more; total = let t = h.total in omega (arith, t); puts = e ∙ ap one_more h.puts; clear = (clear, h.clear) }

-- where a limit is not met, or that and another one
goes_on : (b : Bool) (x : Option ℕ) (k : ℕ) → cond b None x ≡ Some k → (b ≡ false) × (x ≡ Some k)
goes_on true x k e = absurd cc
goes_on false x k e = (refl, e)

neither : (a b : Bool) → a || b ≡ false → b ≡ false
neither true b e = absurd cc
neither false b e = e

counts : (j k : ℕ) (c : NodesT Where) (y : Copying) → copy_after c ≡ Some y → puts_ahead y j c ≡ Some k → Counts j k c y
unfolding copy_after puts_ahead puts_before
counts j k (Do (ConstO (Reg r) n) c) y p e = let g = goes_on (j == 8) _ k e in counts_one j k c (ConstO (Reg r) n) y refl refl (counts (j + 1) k c y p g.1)
counts j k (Do (GlobalO (Reg r) n) c) y p e = let g = goes_on (j == 8) _ k e in counts_one j k c (GlobalO (Reg r) n) y refl refl (counts (j + 1) k c y p g.1)
counts j k (Do (LocalO (Reg r) n) c) y p e = let g = goes_on (j == 8) _ k e in counts_one j k c (LocalO (Reg r) n) y refl refl (counts (j + 1) k c y p g.1)
counts j k (Do (MoveO (Reg r) q) c) y p e = let g = goes_on ((j == 8) || reads_moved y q) _ k e in counts_one j k c (MoveO (Reg r) q) y refl (neither (j == 8) (reads_moved y q) g.0) (counts (j + 1) k c y p g.1)
counts j k (Loop b c) y p e = let q = some_k j k e in record { more = 0; total = omega (arith, q); puts = ap no_more p; clear = tt }
counts j k _ y p e = absurd cc

lead_behind : (c : NodesT Where) (k : ℕ) (y : Copying) → leads c (copy_after c) ≡ Some (k, y) → Leads c k y
lead_behind c k y e = go (copy_after c) refl e
  where
    some : (z : Copying) (j : ℕ) (b : Bool) → copy_after c ≡ Some z → puts_ahead z 0 c ≡ Some j → is_count (last_put z.count c None) && is_one (last_put z.one c None) ≡ b → cond b (one_pair j z) None ≡ Some (k, y) → Leads c k y
    some z j true p q t w =
        let d = pair_is j z k y w in
        let h = counts 0 j c z p q in
        let total = h.total in
        let d0 = d.0 in
        let more : h.more ≡ k = omega (arith, total, d0) in
        let both_known = both _ _ t in
        record {
          puts = h.puts ∙ (λ i. Some (more i, d.1 i));
          clear = subst (λ n. AllClear y c n) more (subst (λ x. AllClear x c h.more) d.1 h.clear);
          count = ap (λ x. is_count (last_put x.count c None)) (sym d.1) ∙ both_known.0;
          one = ap (λ x. is_one (last_put x.one c None)) (sym d.1) ∙ both_known.1;
        }
    some z j false p q t w = absurd cc

    ahead : (z : Copying) → copy_after c ≡ Some z → (x : Option ℕ) → puts_ahead z 0 c ≡ x → leads_to z c x ≡ Some (k, y) → Leads c k y
    ahead z p None q w = absurd cc
    ahead z p (Some j) q w = some z j _ p q refl w

    go : (z : Option Copying) → copy_after c ≡ z → leads c z ≡ Some (k, y) → Leads c k y
    go None p q = absurd cc
    go (Some z) p q = ahead z p (puts_ahead z 0 c) refl q

pub lead_is : (c : NodesT Where) (k : ℕ) (y : Copying) → lead c ≡ Some (k, y) → Leads c k y
unfolding lead copy_after
lead_is (Do (ConstO (Reg r) n) c) k y e = lead_behind (Do (ConstO (Reg r) n) c) k y e
lead_is (Do (GlobalO (Reg r) n) c) k y e = lead_behind (Do (GlobalO (Reg r) n) c) k y e
lead_is (Do (LocalO (Reg r) n) c) k y e = lead_behind (Do (LocalO (Reg r) n) c) k y e
lead_is (Do (MoveO (Reg r) p) c) k y e = lead_behind (Do (MoveO (Reg r) p) c) k y e
lead_is _ k y e = absurd cc
