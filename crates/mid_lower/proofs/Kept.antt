-- Parts of lowered code keep code what mid code has to be: what it names is there.
use Rattle.std.proofs.Common.{ℕ, zero, suc, ◌<◌, ◌≤◌, ◌^◌, ◌==◌, Bool, true, false, List, [], ◌∷◌, length, Option, Some, None, refl, arith, if◌then◌else◌}
use Rattle.std.proofs.Math.Nat.{mod-lt}
use Rattle.c_tree.specs.declared.operator.BinOp.{BinOp}
use Rattle.c_tree.specs.declared.operator.BinOp.TheVariants as bin
use Rattle.c_types.specs.Types.{Ty, VoidY, IntY, BoolY, EnumY, StructY, UnionY, PointerY, ArrayY}
use Rattle.c_types.specs.Kinds.{decayed, pointed, is_pointer, is_structure}
use Rattle.v32_isa.specs.declared.instruction.One.{One}
use Rattle.v32_isa.specs.declared.instruction.One.TheVariants.{CIB, ISGN, BNOT}
use Rattle.v32_isa.specs.declared.instruction.Two.{Two}
use Rattle.v32_isa.specs.declared.instruction.Two.TheVariants.{IEQ, INE, IGT, IGE, ILT, ILE, AND, OR, XOR, SHL, IADD, ISUB, IMUL, IDIV, IMOD}
use Rattle.mid_code.specs.Code.{OpT, ConstO, NullO, MoveO, OneO, TwoO, LocalO, StepO, ApartO, PtrTestO, LoadO, StoreO, FreshO, NodesT, Stop, Do, Call, Choose, Block, Loop, Leave, Again, Return, CodeT, uses, target, maybe}
use Rattle.mid_code.specs.Invariants.{IsOne, IsTest, IsOp, IsCall, IsLoop, AreNodes, AllOf, Names}
use Rattle.lower_trees.specs.Shape.{Shape, words}
use Rattle.lower_trees.specs.Pieces.{Nodes, coded, LoopP}
use Rattle.lower_trees.specs.Parts.{count, one, cell, from, to, other, ask_turn, asked, word_copied, pair_copied, copied_between, copied_on, local_filled, copy_turn, zero_turn, copied, zeroed, moved_by, structure_read, as_flag, converted, stored, with_word, stepped, with_pointer, operated_on, operated, one_more, one_less, tested_as, negated_as, made}

-- a function of a program: its locals and its temporaries, which are sixteen at least
pub record Site : Type 0 where
  pub code : CodeT ℕ
  pub locals : ℕ
  pub temps : ℕ
  pub wide : 16 ≤ temps

-- what nodes of it have to be, inside these blocks and loops
pub record Good (s : Site) (ls : List Bool) (c : NodesT ℕ) : Type 0 where
  pub nodes : AreNodes s.code s.locals ls c
  pub names : Names (λ t. t < s.temps) c

pub record Keeps (s : Site) (ls : List Bool) (f : Nodes → Nodes) : Type 0 where
  pub keep : (c : Nodes) → Good s ls c → Good s ls (f c)

pub good_stop : (s : Site) (ls : List Bool) → Good s ls Stop
good_stop s ls = record { nodes = tt; names = tt }

pub both : {s : Site} {ls : List Bool} {f g : Nodes → Nodes} → Keeps s ls f → Keeps s ls g → Keeps s ls (λ c. f (g c))
both {s} {ls} {f} {g} p q = record { keep = λ c z. p.keep (g c) (q.keep c z) }

pub alone : {s : Site} {ls : List Bool} {f : Nodes → Nodes} → Keeps s ls f → Good s ls (f Stop)
alone {s} {ls} p = p.keep Stop (good_stop s ls)

pub none : {s : Site} {ls : List Bool} → Keeps s ls (λ c. c)
none = record { keep = λ c z. z }

pub either_kept : {s : Site} {ls : List Bool} {f g : Nodes → Nodes} (b : Bool) → Keeps s ls f → Keeps s ls g → Keeps s ls (λ c. if b then f c else g c)
either_kept true p q = p
either_kept false p q = q

-- ---- nodes

pub op_kept : {s : Site} {ls : List Bool} (o : OpT ℕ) → IsOp s.code s.locals o → AllOf (λ t. t < s.temps) (uses o) → AllOf (λ t. t < s.temps) (maybe (target o)) → Keeps s ls (Do o)
op_kept o a b d = record { keep = λ c z. record { nodes = (a, z.nodes); names = ((b, d), z.names) } }

pub call_kept : {s : Site} {ls : List Bool} (t : Option ℕ) (f : ℕ) (args : List ℕ) → IsCall s.code f args → AllOf (λ t. t < s.temps) args → AllOf (λ t. t < s.temps) (maybe t) → Keeps s ls (Call t f args)
call_kept t f args a b d = record { keep = λ c z. record { nodes = (a, z.nodes); names = ((b, d), z.names) } }

pub choose_kept : {s : Site} {ls : List Bool} {a b : Nodes} (t : ℕ) → t < s.temps → Good s ls a → Good s ls b → Keeps s ls (Choose t a b)
choose_kept t lt p q = record { keep = λ c z. record { nodes = (p.nodes, q.nodes, z.nodes); names = (((lt, tt), tt), p.names, q.names, z.names) } }

pub block_kept : {s : Site} {ls : List Bool} {b : Nodes} → Good s (false ∷ ls) b → Keeps s ls (Block b)
block_kept p = record { keep = λ c z. record { nodes = (p.nodes, z.nodes); names = (p.names, z.names) } }

pub loop_kept : {s : Site} {ls : List Bool} {b : Nodes} → Good s (true ∷ ls) b → Keeps s ls (Loop b)
loop_kept p = record { keep = λ c z. record { nodes = (p.nodes, z.nodes); names = (p.names, z.names) } }

pub leave_kept : {s : Site} {ls : List Bool} (k : ℕ) → k < length ls → Keeps s ls (Leave k)
leave_kept k lt = record { keep = λ c z. record { nodes = (lt, z.nodes); names = z.names } }

pub again_kept : {s : Site} {ls : List Bool} (k : ℕ) → IsLoop ls k → Keeps s ls (Again k)
again_kept k is = record { keep = λ c z. record { nodes = (is, z.nodes); names = z.names } }

pub return_kept : {s : Site} {ls : List Bool} (p : Option ℕ) → AllOf (λ t. t < s.temps) (maybe p) → Keeps s ls (Return p)
return_kept p a = record { keep = λ c z. record { nodes = z.nodes; names = ((a, tt), z.names) } }

-- ---- operations

pub fixed : (s : Site) (k : ℕ) → k < 16 → k < s.temps
fixed s k lt = omega (arith, s.wide)

pub k_const : {s : Site} {ls : List Bool} (t w : ℕ) → t < s.temps → w < 2 ^ 32 → Keeps s ls (Do (ConstO t w))
k_const t w lt small = op_kept (ConstO t w) small tt (lt, tt)

pub k_null : {s : Site} {ls : List Bool} (t : ℕ) → t < s.temps → Keeps s ls (Do (NullO t))
k_null t lt = op_kept (NullO t) tt tt (lt, tt)

pub k_move : {s : Site} {ls : List Bool} (t a : ℕ) → t < s.temps → a < s.temps → Keeps s ls (Do (MoveO t a))
k_move t a lt la = op_kept (MoveO t a) tt (la, tt) (lt, tt)

pub k_one : {s : Site} {ls : List Bool} (o : One) (t a : ℕ) → IsOne o → t < s.temps → a < s.temps → Keeps s ls (Do (OneO o t a))
k_one o t a is lt la = op_kept (OneO o t a) is (la, tt) (lt, tt)

pub k_two : {s : Site} {ls : List Bool} (o : Two) (t a b : ℕ) → t < s.temps → a < s.temps → b < s.temps → Keeps s ls (Do (TwoO o t a b))
k_two o t a b lt la lb = op_kept (TwoO o t a b) tt (la, (lb, tt)) (lt, tt)

pub k_test : {s : Site} {ls : List Bool} (o : Two) (t a b : ℕ) → IsTest o → t < s.temps → a < s.temps → b < s.temps → Keeps s ls (Do (PtrTestO o t a b))
k_test o t a b is lt la lb = op_kept (PtrTestO o t a b) is (la, (lb, tt)) (lt, tt)

pub k_local : {s : Site} {ls : List Bool} (t k : ℕ) → t < s.temps → k < s.locals → Keeps s ls (Do (LocalO t k))
k_local t k lt lk = op_kept (LocalO t k) lk tt (lt, tt)

pub k_fresh : {s : Site} {ls : List Bool} (k : ℕ) → k < s.locals → Keeps s ls (Do (FreshO k))
k_fresh k lk = op_kept (FreshO k) lk tt tt

pub k_step : {s : Site} {ls : List Bool} (t p n : ℕ) → t < s.temps → p < s.temps → n < s.temps → Keeps s ls (Do (StepO t p n))
k_step t p n lt lp ln = op_kept (StepO t p n) tt (lp, (ln, tt)) (lt, tt)

pub k_load : {s : Site} {ls : List Bool} (t p : ℕ) → t < s.temps → p < s.temps → Keeps s ls (Do (LoadO t p))
k_load t p lt lp = op_kept (LoadO t p) tt (lp, tt) (lt, tt)

pub k_store : {s : Site} {ls : List Bool} (p a : ℕ) → p < s.temps → a < s.temps → Keeps s ls (Do (StoreO p a))
k_store p a lp la = op_kept (StoreO p a) tt (lp, (la, tt)) tt

-- ---- loops over cells

copy_turn_good : (s : Site) (ls : List Bool) → Good s (true ∷ ls) (coded copy_turn Stop)
copy_turn_good s ls =
    let f = λ (k : ℕ) (lt : k < 16). fixed s k lt in
    alone (both (k_load cell from (f 2 (omega arith)) (f 3 (omega arith))) (both (k_store to cell (f 4 (omega arith)) (f 2 (omega arith)))
    (both (k_two ISUB count count one (f 0 (omega arith)) (f 0 (omega arith)) (f 1 (omega arith)))
    (choose_kept count (f 0 (omega arith))
    (alone (both (k_step from from one (f 3 (omega arith)) (f 3 (omega arith)) (f 1 (omega arith))) (both (k_step to to one (f 4 (omega arith)) (f 4 (omega arith)) (f 1 (omega arith))) (again_kept {s = s} {ls = true ∷ ls} 0 refl))))
    (good_stop s (true ∷ ls))))))

zero_turn_good : (s : Site) (ls : List Bool) → Good s (true ∷ ls) (coded zero_turn Stop)
zero_turn_good s ls =
    let f = λ (k : ℕ) (lt : k < 16). fixed s k lt in
    alone (both (k_store to cell (f 4 (omega arith)) (f 2 (omega arith)))
    (both (k_two ISUB count count one (f 0 (omega arith)) (f 0 (omega arith)) (f 1 (omega arith)))
    (choose_kept count (f 0 (omega arith))
    (alone (both (k_step to to one (f 4 (omega arith)) (f 4 (omega arith)) (f 1 (omega arith))) (again_kept {s = s} {ls = true ∷ ls} 0 refl)))
    (good_stop s (true ∷ ls)))))

pub copied_kept : {ls : List Bool} (s : Site) (size : ℕ) → size < 2 ^ 32 → Keeps s ls (coded (copied size))
copied_kept s zero small = none
copied_kept {ls} s (suc left) small =
    both (k_const count (suc left) (fixed s 0 (omega arith)) small) (both (k_const one 1 (fixed s 1 (omega arith)) (omega arith)) (loop_kept (copy_turn_good s ls)))

ask_turn_good : (s : Site) (ls : List Bool) → Good s (true ∷ ls) (coded ask_turn Stop)
ask_turn_good s ls =
    let f = λ (k : ℕ) (lt : k < 16). fixed s k lt in
    alone (choose_kept count (f 0 (omega arith)) (alone (both (k_const count 0 (f 0 (omega arith)) (omega arith)) (again_kept {s = s} {ls = true ∷ ls} 0 refl))) (good_stop s (true ∷ ls)))

asking_kept : {ls : List Bool} (s : Site) → Keeps s ls (coded (LoopP ask_turn))
asking_kept {ls} s = loop_kept (ask_turn_good s ls)

asked_kept : {ls : List Bool} (s : Site) → Keeps s ls (coded asked)
asked_kept s = both (k_const count 1 (fixed s 0 (omega arith)) (omega arith)) (asking_kept s)

second_kept : {ls : List Bool} (s : Site) (q : ℕ) → q < s.temps → Keeps s ls (λ c. Do (LoadO cell from) (Do (ConstO one 1) (Do (StepO to q one) (Do (StoreO to cell) c))))
second_kept s q lq =
    let f = λ (k : ℕ) (lt : k < 16). fixed s k lt in
    both (k_load cell from (f 2 (omega arith)) (f 3 (omega arith))) (both (k_const one 1 (f 1 (omega arith)) (omega arith))
    (both (k_step to q one (f 4 (omega arith)) lq (f 1 (omega arith))) (k_store to cell (f 4 (omega arith)) (f 2 (omega arith)))))

word_kept : {ls : List Bool} (s : Site) (p q : ℕ) → p < s.temps → q < s.temps → Keeps s ls (coded (word_copied p q))
word_kept s p q lp lq = both (k_load cell p (fixed s 2 (omega arith)) lp) (k_store q cell lq (fixed s 2 (omega arith)))

pair_kept : {ls : List Bool} (s : Site) (p q : ℕ) → p < s.temps → q < s.temps → Keeps s ls (coded (pair_copied p q))
pair_kept s p q lp lq =
    let f = λ (k : ℕ) (lt : k < 16). fixed s k lt in
    both (word_kept s p q lp lq) (both (asked_kept s) (both (k_const one 1 (f 1 (omega arith)) (omega arith))
    (both (k_step from p one (f 3 (omega arith)) lp (f 1 (omega arith))) (second_kept s q lq))))

pub between_kept : {ls : List Bool} (s : Site) (size p q : ℕ) → size < 2 ^ 32 → p < s.temps → q < s.temps → Keeps s ls (coded (copied_between size p q))
between_kept s zero p q small lp lq = none
between_kept s (suc zero) p q small lp lq = word_kept s p q lp lq
between_kept s (suc (suc zero)) p q small lp lq = pair_kept s p q lp lq
between_kept s (suc (suc (suc left))) p q small lp lq =
    both (k_move from p (fixed s 3 (omega arith)) lp) (both (k_move to q (fixed s 4 (omega arith)) lq) (copied_kept s (suc (suc (suc left))) small))

pub copied_on_kept : {ls : List Bool} (s : Site) (size p : ℕ) → size < 2 ^ 32 → p < s.temps → Keeps s ls (coded (copied_on size p))
copied_on_kept s zero p small lp = none
copied_on_kept s (suc zero) p small lp = word_kept s p to lp (fixed s 4 (omega arith))
copied_on_kept s (suc (suc zero)) p small lp = pair_kept s p to lp (fixed s 4 (omega arith))
copied_on_kept s (suc (suc (suc left))) p small lp = both (k_move from p (fixed s 3 (omega arith)) lp) (copied_kept s (suc (suc (suc left))) small)

pub zeroed_kept : {ls : List Bool} (s : Site) (size : ℕ) → size < 2 ^ 32 → Keeps s ls (coded (zeroed size))
zeroed_kept s zero small = none
zeroed_kept {ls} s (suc left) small =
    both (k_const count (suc left) (fixed s 0 (omega arith)) small) (both (k_const one 1 (fixed s 1 (omega arith)) (omega arith))
    (both (k_const cell 0 (fixed s 2 (omega arith)) (omega arith)) (loop_kept (zero_turn_good s ls))))

-- ---- places and values

pub words_small : (h : Shape) (ty : Ty) → words h ty < 2 ^ 32
words_small h ty = mod-lt _ (omega arith)

pub moved_by_kept : {s : Site} {ls : List Bool} (t p offset : ℕ) → t < s.temps → p < s.temps → offset < 2 ^ 32 → Keeps s ls (coded (moved_by t p offset))
moved_by_kept t p offset lt lp small = both (k_const t offset lt small) (k_step t p t lt lp lt)

local_kept : {ls : List Bool} (s : Site) (size k t : ℕ) → size < 2 ^ 32 → k < s.locals → t < s.temps → Keeps s ls (coded (local_filled size k t))
local_kept s zero k t small lk lt = k_local t k lt lk
local_kept s (suc zero) k t small lk lt = both (k_load cell t (fixed s 2 (omega arith)) lt) (both (k_local t k lt lk) (k_store t cell lt (fixed s 2 (omega arith))))
local_kept s (suc (suc zero)) k t small lk lt =
    let f = λ (k : ℕ) (lt : k < 16). fixed s k lt in
    both (k_load cell t (f 2 (omega arith)) lt) (both (k_const count 1 (f 0 (omega arith)) (omega arith)) (both (k_step from t count (f 3 (omega arith)) lt (f 0 (omega arith)))
    (both (k_local t k lt lk) (both (k_store t cell lt (f 2 (omega arith))) (both (asking_kept s) (second_kept s t lt))))))
local_kept s (suc (suc (suc left))) k t small lk lt =
    both (k_move from t (fixed s 3 (omega arith)) lt) (both (k_local to k (fixed s 4 (omega arith)) lk) (both (copied_kept s (suc (suc (suc left))) small) (k_local t k lt lk)))

pub structure_read_kept : {ls : List Bool} (s : Site) (size k t : ℕ) → size < 2 ^ 32 → k < s.locals → t < s.temps → Keeps s ls (coded (structure_read size k t))
structure_read_kept s size k t small lk lt =
    both (k_fresh k lk) (local_kept s size k t small lk lt)

pub as_flag_kept : {s : Site} {ls : List Bool} (known : Bool) (t : ℕ) → t < s.temps → Keeps s ls (coded (as_flag known t))
as_flag_kept true t lt = none
as_flag_kept false t lt = k_one CIB t t tt lt lt

pub converted_kept : {s : Site} {ls : List Bool} (ty : Ty) (known : Bool) (t : ℕ) → t < s.temps → Keeps s ls (coded (converted ty known t))
converted_kept BoolY known t lt = as_flag_kept known t lt
converted_kept VoidY known t lt = none
converted_kept IntY known t lt = none
converted_kept (EnumY k) known t lt = none
converted_kept (StructY k) known t lt = none
converted_kept (UnionY k) known t lt = none
converted_kept (PointerY of) known t lt = none
converted_kept (ArrayY of len) known t lt = none

pub stored_kept : {ls : List Bool} (s : Site) (h : Shape) (ty : Ty) (p a : ℕ) → p < s.temps → a < s.temps → Keeps s ls (coded (stored h ty p a))
stored_kept s h ty p a lp la =
    either_kept (is_structure ty) (between_kept s (words h ty) a p (words_small h ty) la lp) (k_store p a lp la)

-- ---- operators

with_word_kept : {s : Site} {ls : List Bool} (op : BinOp) (t a b : ℕ) → t < s.temps → a < s.temps → b < s.temps → Keeps s ls (coded (with_word op t a b))
with_word_kept bin.Mul t a b lt la lb = k_two IMUL t a b lt la lb
with_word_kept bin.Div t a b lt la lb = k_two IDIV t a b lt la lb
with_word_kept bin.Mod t a b lt la lb = k_two IMOD t a b lt la lb
with_word_kept bin.Add t a b lt la lb = k_two IADD t a b lt la lb
with_word_kept bin.Sub t a b lt la lb = k_two ISUB t a b lt la lb
with_word_kept bin.Shl t a b lt la lb = k_two SHL t a b lt la lb
with_word_kept bin.Shr t a b lt la lb = both (k_one ISGN b b tt lb lb) (k_two SHL t a b lt la lb)
with_word_kept bin.Less t a b lt la lb = k_two ILT t a b lt la lb
with_word_kept bin.LessEq t a b lt la lb = k_two ILE t a b lt la lb
with_word_kept bin.More t a b lt la lb = k_two IGT t a b lt la lb
with_word_kept bin.MoreEq t a b lt la lb = k_two IGE t a b lt la lb
with_word_kept bin.Equal t a b lt la lb = k_two IEQ t a b lt la lb
with_word_kept bin.NotEqual t a b lt la lb = k_two INE t a b lt la lb
with_word_kept bin.BitAnd t a b lt la lb = k_two AND t a b lt la lb
with_word_kept bin.BitXor t a b lt la lb = k_two XOR t a b lt la lb
with_word_kept bin.BitOr t a b lt la lb = k_two OR t a b lt la lb
with_word_kept bin.AndAlso t a b lt la lb = none
with_word_kept bin.OrElse t a b lt la lb = none

pub stepped_kept : {s : Site} {ls : List Bool} (size t a b u : ℕ) → size < 2 ^ 32 → t < s.temps → a < s.temps → b < s.temps → u < s.temps → Keeps s ls (coded (stepped size t a b u))
stepped_kept size t a b u small lt la lb lu =
    either_kept (size == 1) (k_step t a b lt la lb) (both (k_const u size lu small) (both (k_two IMUL b b u lb lb lu) (k_step t a b lt la lb)))

with_pointer_kept : {s : Site} {ls : List Bool} (op : BinOp) (size : ℕ) (pointers : Bool) (t a b u : ℕ) → size < 2 ^ 32 → t < s.temps → a < s.temps → b < s.temps → u < s.temps → Keeps s ls (coded (with_pointer op size pointers t a b u))
with_pointer_kept bin.Mul size ps t a b u small lt la lb lu = none
with_pointer_kept bin.Div size ps t a b u small lt la lb lu = none
with_pointer_kept bin.Mod size ps t a b u small lt la lb lu = none
with_pointer_kept bin.Add size ps t a b u small lt la lb lu = stepped_kept size t a b u small lt la lb lu
with_pointer_kept bin.Sub size true t a b u small lt la lb lu =
    both (op_kept (ApartO t a b) tt (la, (lb, tt)) (lt, tt)) (both (k_const u size lu small) (k_two IDIV t t u lt lt lu))
with_pointer_kept bin.Sub size false t a b u small lt la lb lu = both (k_one ISGN b b tt lb lb) (stepped_kept size t a b u small lt la lb lu)
with_pointer_kept bin.Shl size ps t a b u small lt la lb lu = none
with_pointer_kept bin.Shr size ps t a b u small lt la lb lu = none
with_pointer_kept bin.Less size ps t a b u small lt la lb lu = k_test ILT t a b tt lt la lb
with_pointer_kept bin.LessEq size ps t a b u small lt la lb lu = k_test ILE t a b tt lt la lb
with_pointer_kept bin.More size ps t a b u small lt la lb lu = k_test IGT t a b tt lt la lb
with_pointer_kept bin.MoreEq size ps t a b u small lt la lb lu = k_test IGE t a b tt lt la lb
with_pointer_kept bin.Equal size ps t a b u small lt la lb lu = k_test IEQ t a b tt lt la lb
with_pointer_kept bin.NotEqual size ps t a b u small lt la lb lu = k_test INE t a b tt lt la lb
with_pointer_kept bin.BitAnd size ps t a b u small lt la lb lu = none
with_pointer_kept bin.BitXor size ps t a b u small lt la lb lu = none
with_pointer_kept bin.BitOr size ps t a b u small lt la lb lu = none
with_pointer_kept bin.AndAlso size ps t a b u small lt la lb lu = none
with_pointer_kept bin.OrElse size ps t a b u small lt la lb lu = none

operated_on_kept : {s : Site} {ls : List Bool} (h : Shape) (op : BinOp) (ty : Option Ty) (ps : Bool) (t a b u : ℕ) → t < s.temps → a < s.temps → b < s.temps → u < s.temps → Keeps s ls (coded (operated_on h op ty ps t a b u))
operated_on_kept h op None ps t a b u lt la lb lu = with_word_kept op t a b lt la lb
operated_on_kept h op (Some ty) ps t a b u lt la lb lu = with_pointer_kept op (words h ty) ps t a b u (words_small h ty) lt la lb lu

pub operated_kept : {s : Site} {ls : List Bool} (h : Shape) (op : BinOp) (ta tb : Ty) (t a b u : ℕ) → t < s.temps → a < s.temps → b < s.temps → u < s.temps → Keeps s ls (coded (operated h op ta tb t a b u))
operated_kept h op ta tb t a b u lt la lb lu = operated_on_kept h op (pointed (decayed ta)) (is_pointer (decayed tb)) t a b u lt la lb lu

pub one_more_kept : {s : Site} {ls : List Bool} (h : Shape) (ty : Option Ty) (t a u : ℕ) → t < s.temps → a < s.temps → u < s.temps → Keeps s ls (coded (one_more h ty t a u))
one_more_kept h None t a u lt la lu = both (k_const u 1 lu (omega arith)) (k_two IADD t a u lt la lu)
one_more_kept h (Some ty) t a u lt la lu = both (k_const u (words h ty) lu (words_small h ty)) (k_step t a u lt la lu)

pub one_less_kept : {s : Site} {ls : List Bool} (h : Shape) (ty : Option Ty) (t a u : ℕ) → t < s.temps → a < s.temps → u < s.temps → Keeps s ls (coded (one_less h ty t a u))
one_less_kept h None t a u lt la lu = both (k_const u 1 lu (omega arith)) (k_two ISUB t a u lt la lu)
one_less_kept h (Some ty) t a u lt la lu = both (k_const u (words h ty) lu (words_small h ty)) (both (k_one ISGN u u tt lu lu) (k_step t a u lt la lu))

-- ---- conditions and locals

pub tested_as_kept : {ls : List Bool} (s : Site) (ty : Ty) (t : ℕ) → t < s.temps → Keeps s ls (coded (tested_as ty t))
tested_as_kept s VoidY t lt = none
tested_as_kept s IntY t lt = none
tested_as_kept s BoolY t lt = none
tested_as_kept s (EnumY k) t lt = none
tested_as_kept s (StructY k) t lt = none
tested_as_kept s (UnionY k) t lt = none
tested_as_kept s (PointerY of) t lt = both (k_null other (fixed s 5 (omega arith))) (k_test INE t t other tt lt lt (fixed s 5 (omega arith)))
tested_as_kept s (ArrayY of len) t lt = none

pub negated_as_kept : {ls : List Bool} (s : Site) (ty : Ty) (t : ℕ) → t < s.temps → Keeps s ls (coded (negated_as ty t))
negated_as_kept s VoidY t lt = k_one BNOT t t tt lt lt
negated_as_kept s IntY t lt = k_one BNOT t t tt lt lt
negated_as_kept s BoolY t lt = k_one BNOT t t tt lt lt
negated_as_kept s (EnumY k) t lt = k_one BNOT t t tt lt lt
negated_as_kept s (StructY k) t lt = k_one BNOT t t tt lt lt
negated_as_kept s (UnionY k) t lt = k_one BNOT t t tt lt lt
negated_as_kept s (PointerY of) t lt = both (k_null other (fixed s 5 (omega arith))) (k_test IEQ t t other tt lt lt (fixed s 5 (omega arith)))
negated_as_kept s (ArrayY of len) t lt = k_one BNOT t t tt lt lt

pub made_kept : {ls : List Bool} (s : Site) (ks : List ℕ) → AllOf (λ k. k < s.locals) ks → Keeps s ls (coded (made ks))
made_kept s [] all = none
made_kept s (k ∷ ks) all = both (k_fresh k all.0) (made_kept s ks all.1)
