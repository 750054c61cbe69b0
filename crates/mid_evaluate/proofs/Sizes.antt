-- That a run ends: what is left falls, by the bound and then by the nodes.
use Rattle.std.proofs.Common.{◌≡◌, ℕ, zero, suc, ◌+◌, ◌*◌, ◌<◌, ◌≤◌, arith, List, [], ◌∷◌, map, drop, drop-cons, length, get_or, refl, sym, ap, ◌∙◌, subst}
use Rattle.mid_code.specs.declared.node.Node.{Node}
use Rattle.mid_code.specs.declared.node.Op.{Op}
use Rattle.mid_code.specs.declared.node.Op.TheVariants as op
use Rattle.mid_code.specs.Code.{NodesT, Stop, Do, Call, Choose, Block, Loop, Leave, Again, Return, FunctionT, CodeT}
use Rattle.mid_code.specs.Functions.{NodeT, DoN, ChooseN, BlockN, LoopN, LeaveN, AgainN, ReturnN, op_before, before, joined, listed, node, nodes}
use Rattle.mid_code.specs.States.{no_function, function_at}

-- how many nodes there are
abbrev pub count : NodesT ℕ → ℕ
count Stop = 0
count (Do o c) = 1 + count c
count (Call t f args c) = 1 + count c
count (Choose p a b c) = 1 + count a + count b + count c
count (Block b c) = 1 + count b + count c
count (Loop b c) = 1 + count b + count c
count (Leave k c) = 1 + count c
count (Again k c) = 1 + count c
count (Return p c) = 1 + count c

abbrev pub count_one : NodeT ℕ → ℕ
count_one (DoN o) = 1
count_one (ChooseN p a b) = 1 + count (joined a) + count (joined b)
count_one (BlockN b) = 1 + count (joined b)
count_one (LoopN b) = 1 + count (joined b)
count_one (LeaveN k) = 1
count_one (AgainN k) = 1
count_one (ReturnN p) = 1

abbrev pub total : List (FunctionT ℕ) → ℕ
total [] = 0
total (f ∷ fs) = count f.body + total fs

-- more than any body takes
abbrev pub most : CodeT ℕ → ℕ
most x = 4 * total x.functions + 2

op_counts : (o : Op ℕ) (c : NodesT ℕ) → count (op_before o c) ≡ 1 + count c
op_counts (op.Const t word) c = refl
op_counts (op.Null t) c = refl
op_counts (op.Move t a) c = refl
op_counts (op.One o t a) c = refl
op_counts (op.Two o t a b) c = refl
op_counts (op.Global t number) c = refl
op_counts (op.Local t number) c = refl
op_counts (op.Literal t number) c = refl
op_counts (op.Card t) c = refl
op_counts (op.Step t p x) c = refl
op_counts (op.Apart t p q) c = refl
op_counts (op.PtrTest o t p q) c = refl
op_counts (op.Load t p) c = refl
op_counts (op.Store p a) c = refl
op_counts (op.Fresh local) c = refl
op_counts (op.End local) c = refl
op_counts (op.Call t f args) c = refl
op_counts (op.In t port) c = refl
op_counts (op.Out port a) c = refl
op_counts op.Wait c = refl
op_counts op.Halt c = refl

counted : (y : NodeT ℕ) (c : NodesT ℕ) → count (before y c) ≡ count_one y + count c
counted (DoN o) c = op_counts o c
counted (ChooseN p a b) c = refl
counted (BlockN b) c = refl
counted (LoopN b) c = refl
counted (LeaveN k) c = refl
counted (AgainN k) c = refl
counted (ReturnN p) c = refl

-- one of the nodes has no more of them
one_in : (ys : List (NodeT ℕ)) (i : ℕ) (y : NodeT ℕ) (rest : List (NodeT ℕ)) → drop i ys ≡ y ∷ rest → count_one y ≤ count (joined (listed ys))
one_in ys zero y rest e = subst (λ l. count_one y ≤ count (joined (listed l))) (sym e) (omega (arith, counted y (joined (listed rest))))
one_in [] (suc i) y rest e = absurd cc
one_in (z ∷ zs) (suc i) y rest e = omega (arith, one_in zs i y rest e, counted z (joined (listed zs)))

-- a node of those in memory, and those behind it
pub split : (xs : List (Node ℕ)) (i : ℕ) (x : Node ℕ) → i < length xs → x ≡ get_or xs i x → map node (drop i xs) ≡ node x ∷ map node (drop (i + 1) xs)
split xs i x b e =
    let next : suc i ≡ i + 1 = omega arith in
    ap (map node) (drop-cons xs i x b) ∙ ap (λ z. node z ∷ map node (drop (suc i) xs)) (sym e) ∙ ap (λ k. node x ∷ map node (drop k xs)) next

dropped : (xs : List (Node ℕ)) (i : ℕ) → map node (drop i xs) ≡ drop i (map node xs)
dropped xs zero = refl
dropped [] (suc i) = refl
dropped (x ∷ xs) (suc i) = dropped xs i

pub node_falls : (k : ℕ) (xs : List (Node ℕ)) (i : ℕ) (x : Node ℕ) → i < length xs → x ≡ get_or xs i x → k + 4 * count_one (node x) < k + (4 * count (nodes xs) + 1)
node_falls k xs i x b e =
    let few : count_one (node x) ≤ count (joined (listed (map node xs))) = one_in (map node xs) i (node x) (map node (drop (i + 1) xs)) (sym (dropped xs i) ∙ split xs i x b e) in
    omega (arith, few)

body_in : (fs : List (FunctionT ℕ)) (f : ℕ) → count (get_or fs f no_function).body ≤ total fs
body_in [] f = omega arith
body_in (g ∷ fs) zero = upto (count g.body) (total fs)
  where
    upto : (a b : ℕ) → a ≤ a + b
    upto a b = omega arith
body_in (g ∷ fs) (suc f) = behind _ (count g.body) _ (body_in fs f)
  where
    behind : (a b c : ℕ) → a ≤ c → a ≤ b + c
    behind a b c h = omega (arith, h)

pub called_falls : (x : CodeT ℕ) (n m f : ℕ) (body : NodesT ℕ) → body ≡ (function_at x f).body → m < n → m * most x + (4 * count body + 1) < n * most x
called_falls x zero m f body e h = absurd (omega (arith, h))
called_falls x (suc n) m f body e h = omega (arith, small, upto)
  where
    small : 4 * count body + 1 < most x
    small = omega (arith, body_in x.functions f, ap count e)

    upto : m * most x ≤ n * most x
    upto = grind (arith, h)
