-- Flags that are taken away node by node.
use Rattle.std.proofs.Common.{◌≡◌, ◌<◌, ℕ, zero, suc, Bool, true, false, ◌&&◌, ◌||◌, not, cond, eqb, List, [], ◌∷◌, ◌++◌, map, length, get_or, slice_get, take, refl, sym, ap, ◌∙◌, arith}
use Rattle.std.proofs.lemmas.Bool.{eqb-true}
use Rattle.mid_code.specs.declared.node.Op.{Op}
use Rattle.mid_code.specs.declared.node.Op.TheVariants as op
use Rattle.mid_code.specs.declared.node.Node.{Node}
use Rattle.mid_code.specs.Code.{OpT, ConstO, NullO, MoveO, OneO, TwoO, GlobalO, LocalO, LiteralO, CardO, StepO, ApartO, PtrTestO, LoadO, StoreO, FreshO, EndO, InO, OutO, WaitO, HaltO, NodesT, Stop, Do, Call, Choose, Block, Loop, Leave, Again, Return, FunctionT}
use Rattle.mid_code.specs.Functions.{NodeT, DoN, ChooseN, BlockN, LoopN, LeaveN, AgainN, ReturnN, op_before, before, joined, node, nodes}
use Rattle.mid_code.specs.Invariants.{Names, IsTemporary}
use Rattle.mid_scalars.specs.declared.roles.Role.{Role}
use Rattle.mid_scalars.specs.inner.Table.{all_nodes, is_one, is_plain, flags_from, flags}
use Rattle.mid_scalars.specs.inner.Purposes.{fits, takes_by, role_of}
use Rattle.mid_scalars.specs.inner.Flags.{flag_at}
use Rattle.mid_scalars.proofs.Planned.{flag_of}
use Rattle.mid_scalars.proofs.Purposes.{all_takes}

pub and_unit : (a : Bool) → a ≡ (a && true)
and_unit true = refl
and_unit false = refl

pub and_units : (a b : Bool) → (a && b) ≡ (a && (b && true))
and_units true true = refl
and_units true false = refl
and_units false b = refl

pub and_two : (a b c : Bool) → ((a && b) && c) ≡ (a && (b && c))
and_two true b c = refl
and_two false b c = refl

and_three : (a b c d : Bool) → ((a && b) && (c && d)) ≡ (a && (b && (c && d)))
and_three true b c d = refl
and_three false b c d = refl

pub unflagged : (local k : ℕ) (r : Role) (b : Bool) → fits local r ≡ false → cond (eqb local k) false b ≡ (b && (not (eqb local k) || fits k r))
unflagged local k r b h = go (eqb local k) refl b
  where
    go : (e : Bool) → eqb local k ≡ e → (a : Bool) → cond e false a ≡ (a && (not e || fits k r))
    go true e true = sym (ap (λ j. fits j r) (sym (eqb-true local k e)) ∙ h)
    go true e false = refl
    go false e true = refl
    go false e false = refl

pub still_flagged : (local k : ℕ) (r : Role) (b : Bool) → fits local r ≡ true → b ≡ (b && (not (eqb local k) || fits k r))
still_flagged local k r b h = go (eqb local k) refl b
  where
    go : (e : Bool) → eqb local k ≡ e → (a : Bool) → a ≡ (a && (not e || fits k r))
    go true e true = sym (ap (λ j. fits j r) (sym (eqb-true local k e)) ∙ h)
    go true e false = refl
    go false e true = refl
    go false e false = refl

-- ---- one node and the nodes behind it

op_all : (st : ℕ → Role) (k : ℕ) (o : Op ℕ) (c : NodesT ℕ) → all_nodes (takes_by st k) (op_before o c) ≡ (all_nodes (takes_by st k) (op_before o Stop) && all_nodes (takes_by st k) c)
op_all st k (op.Const t word) c = refl
op_all st k (op.Null t) c = refl
op_all st k (op.Move t a) c = refl
op_all st k (op.One o t a) c = refl
op_all st k (op.Two o t a b) c = refl
op_all st k (op.Global t number) c = refl
op_all st k (op.Local t number) c = sym (and_two (takes_by st k (Do (LocalO t number) Stop)) true (all_nodes (takes_by st k) c))
op_all st k (op.Literal t number) c = refl
op_all st k (op.Card t) c = refl
op_all st k (op.Step t p n) c = refl
op_all st k (op.Apart t p q) c = refl
op_all st k (op.PtrTest o t p q) c = refl
op_all st k (op.Load t p) c = refl
op_all st k (op.Store p a) c = refl
op_all st k (op.Fresh local) c = refl
op_all st k (op.End local) c = refl
op_all st k (op.Call t f args) c = refl
op_all st k (op.In t port) c = refl
op_all st k (op.Out port a) c = refl
op_all st k op.Wait c = refl
op_all st k op.Halt c = refl

node_all : (st : ℕ → Role) (k : ℕ) (x : NodeT ℕ) (c : NodesT ℕ) → all_nodes (takes_by st k) (before x c) ≡ (all_nodes (takes_by st k) (before x Stop) && all_nodes (takes_by st k) c)
node_all st k (DoN o) c = op_all st k o c
node_all st k (ChooseN p a b) c = reach (all_nodes (takes_by st k) (joined a)) (all_nodes (takes_by st k) (joined b)) (all_nodes (takes_by st k) c)
  where
    reach : (a b d : Bool) → (a && (b && d)) ≡ ((a && (b && true)) && d)
    reach true true d = refl
    reach true false d = refl
    reach false b d = refl
node_all st k (BlockN b) c = reach (all_nodes (takes_by st k) (joined b)) (all_nodes (takes_by st k) c)
  where
    reach : (b d : Bool) → (b && d) ≡ ((b && true) && d)
    reach true d = refl
    reach false d = refl
node_all st k (LoopN b) c = reach (all_nodes (takes_by st k) (joined b)) (all_nodes (takes_by st k) c)
  where
    reach : (b d : Bool) → (b && d) ≡ ((b && true) && d)
    reach true d = refl
    reach false d = refl
node_all st k (LeaveN m) c = refl
node_all st k (AgainN m) c = refl
node_all st k (ReturnN p) c = refl

pub flag_turn : (st : ℕ → Role) (k : ℕ) (n : Node ℕ) (ns : List (Node ℕ)) (b b' : Bool) → b' ≡ (b && all_nodes (takes_by st k) (before (node n) Stop)) → (b' && all_nodes (takes_by st k) (nodes ns)) ≡ (b && all_nodes (takes_by st k) (nodes (n ∷ ns)))
flag_turn st k n ns b b' e = ap (λ d. d && all_nodes (takes_by st k) (nodes ns)) e ∙ and_two b (all_nodes (takes_by st k) (before (node n) Stop)) (all_nodes (takes_by st k) (nodes ns)) ∙ ap (λ d. b && d) (sym (node_all st k (node n) (nodes ns)))

-- ---- roles of named temporaries are enough

op_same : (f : FunctionT ℕ) (st : ℕ → Role) (k : ℕ) (same : (y : ℕ) → y < f.temps → st y ≡ role_of f y) (o : OpT ℕ) (c : NodesT ℕ) → Names (IsTemporary f) (Do o c) → takes_by st k (Do o c) ≡ takes_by (role_of f) k (Do o c)
op_same f st k same (LocalO t i) c h = ap (λ r. not (eqb i k) || fits k r) (same t h.0.1.0)
op_same f st k same (ConstO t word) c h = refl
op_same f st k same (NullO t) c h = refl
op_same f st k same (MoveO t a) c h = refl
op_same f st k same (OneO o t a) c h = refl
op_same f st k same (TwoO o t a b) c h = refl
op_same f st k same (GlobalO t number) c h = refl
op_same f st k same (LiteralO t number) c h = refl
op_same f st k same (CardO t) c h = refl
op_same f st k same (StepO t p n) c h = refl
op_same f st k same (ApartO t p q) c h = refl
op_same f st k same (PtrTestO o t p q) c h = refl
op_same f st k same (LoadO t p) c h = refl
op_same f st k same (StoreO p a) c h = refl
op_same f st k same (FreshO number) c h = refl
op_same f st k same (EndO number) c h = refl
op_same f st k same (InO t port) c h = refl
op_same f st k same (OutO port a) c h = refl
op_same f st k same WaitO c h = refl
op_same f st k same HaltO c h = refl

all_same : (f : FunctionT ℕ) (st : ℕ → Role) (k : ℕ) (same : (y : ℕ) → y < f.temps → st y ≡ role_of f y) (c : NodesT ℕ) → Names (IsTemporary f) c → all_nodes (takes_by st k) c ≡ all_nodes (takes_by (role_of f) k) c
all_same f st k same Stop n = refl
all_same f st k same (Do o c) n = let h = op_same f st k same o c n in let g = all_same f st k same c n.1 in λ i. h i && g i
all_same f st k same (Call t g args c) n = all_same f st k same c n.1
all_same f st k same (Choose p a b c) n = let h = all_same f st k same a n.1 in let g = all_same f st k same b n.2 in let e = all_same f st k same c n.3 in λ i. h i && (g i && e i)
all_same f st k same (Block b c) n = let h = all_same f st k same b n.0 in let g = all_same f st k same c n.1 in λ i. h i && g i
all_same f st k same (Loop b c) n = let h = all_same f st k same b n.0 in let g = all_same f st k same c n.1 in λ i. h i && g i
all_same f st k same (Leave m c) n = all_same f st k same c n
all_same f st k same (Again m c) n = all_same f st k same c n
all_same f st k same (Return p c) n = all_same f st k same c n.1

-- ---- the flags of a function

same_list : (xs ys : List Bool) → length xs ≡ length ys → ((k : ℕ) → k < length xs → get_or xs k false ≡ get_or ys k false) → xs ≡ ys
same_list [] [] e h = refl
same_list [] (y ∷ ys) e h = absurd (omega (arith, e))
same_list (x ∷ xs) [] e h = absurd (omega (arith, e))
same_list (x ∷ xs) (y ∷ ys) e h = let a = h 0 (omega arith) in let b = same_list xs ys (omega (arith, e)) (λ k lt. h (suc k) (omega (arith, lt))) in λ i. a i ∷ b i

flags_length : (f : FunctionT ℕ) (n : ℕ) (sizes : List ℕ) → length (flags_from f n sizes) ≡ length sizes
flags_length f n [] = refl
flags_length f n (s ∷ sizes) = ap suc (flags_length f (suc n) sizes)

ones_length : (sizes : List ℕ) → length (map (λ n. eqb n 1) sizes) ≡ length sizes
ones_length [] = refl
ones_length (s ∷ sizes) = ap suc (ones_length sizes)

one_at : (sizes : List ℕ) (k : ℕ) → get_or (map (λ n. eqb n 1) sizes) k false ≡ is_one (slice_get sizes k)
one_at [] k = refl
one_at (s ∷ sizes) zero = refl
one_at (s ∷ sizes) (suc k) = one_at sizes k

pub flags_are : (f : FunctionT ℕ) (st : ℕ → Role) (ones bs : List Bool) → Names (IsTemporary f) f.body → ((y : ℕ) → y < f.temps → st y ≡ role_of f y) → ones ≡ map (λ n. eqb n 1) f.locals → length bs ≡ length ones
    → ((k : ℕ) → k < length ones → flag_at bs k ≡ (flag_at ones k && all_nodes (takes_by st k) f.body)) → bs ≡ flags f
flags_are f st ones bs n same o len h =
    let a = ap length o in let b = ones_length f.locals in let c = flags_length f 0 f.locals in
    same_list bs (flags f) (omega (arith, a, b, c, len)) (λ k lt.
    h k (omega (arith, len, lt))
    ∙ ap (λ os. flag_at os k && all_nodes (takes_by st k) f.body) o
    ∙ ap (λ d. d && all_nodes (takes_by st k) f.body) (one_at f.locals k)
    ∙ ap (λ d. is_one (slice_get f.locals k) && d) (all_same f st k same f.body n ∙ sym (all_takes f k f.body))
    ∙ sym (flag_of f 0 f.locals k (omega (arith, len, lt, a, b)) ∙ ap (is_plain f) (omega arith)))

take_front : (xs ys : List Bool) → take (length xs) (xs ++ ys) ≡ xs
take_front [] ys = refl
take_front (x ∷ xs) ys = ap (λ zs. x ∷ zs) (take_front xs ys)

pub taken_back : (xs ys zs : List Bool) (n : ℕ) → n ≡ length zs → length xs ≡ length zs → take n (xs ++ ys) ≡ xs
taken_back xs ys zs n e f = ap (λ m. take m (xs ++ ys)) (e ∙ sym f) ∙ take_front xs ys
