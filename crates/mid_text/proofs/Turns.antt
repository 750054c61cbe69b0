-- The text of nodes is that of the first, and then that of the others.
use Rattle.std.proofs.Common.{◌≡◌, ℕ, List, [], ◌∷◌, ◌++◌, codes, map, length, drop, get_or, ◌+◌, ◌<◌, suc, refl, sym, ap, ◌∙◌, append_assoc, add-one, drop-cons}
use Rattle.std.specs.Fmt.{decimal}
use Rattle.mid_code.specs.declared.node.Op.{Op}
use Rattle.mid_code.specs.declared.node.Op.TheVariants as op
use Rattle.mid_code.specs.declared.node.Node.{Node}
use Rattle.mid_code.specs.declared.function.Function.{Function}
use Rattle.mid_code.specs.Code.{OpT, ConstO, NullO, MoveO, OneO, TwoO, GlobalO, LocalO, LiteralO, CardO, StepO, ApartO, PtrTestO, LoadO, StoreO, FreshO, EndO, InO, OutO, WaitO, HaltO, NodesT, Stop, Do}
use Rattle.mid_code.specs.Functions.{NodeT, DoN, ChooseN, BlockN, LoopN, LeaveN, AgainN, ReturnN, op_before, before, joined, node, nodes, function}
use Rattle.mid_text.specs.Text.{line, inside, op_text, call_text, result_text, nodes_text, function_text, functions_text}

nil : (xs : List ℕ) → xs ++ [] ≡ xs
nil [] = refl
nil (x ∷ xs) = ap (λ l. x ∷ l) (nil xs)

unit : (a c : List ℕ) → a ++ c ≡ (a ++ []) ++ c
unit a c = ap (λ l. l ++ c) (sym (nil a))

do_turn : (lead : List ℕ) (o : OpT ℕ) (c : NodesT ℕ) → nodes_text lead (Do o c) ≡ nodes_text lead (Do o Stop) ++ nodes_text lead c
do_turn lead o c = unit (line lead (codes "Do " ++ op_text o)) (nodes_text lead c)

op_turn : (lead : List ℕ) (o : Op ℕ) (c : NodesT ℕ) → nodes_text lead (op_before o c) ≡ nodes_text lead (op_before o Stop) ++ nodes_text lead c
op_turn lead (op.Const t word) c = do_turn lead (ConstO t word) c
op_turn lead (op.Null t) c = do_turn lead (NullO t) c
op_turn lead (op.Move t a) c = do_turn lead (MoveO t a) c
op_turn lead (op.One o t a) c = do_turn lead (OneO o t a) c
op_turn lead (op.Two o t a b) c = do_turn lead (TwoO o t a b) c
op_turn lead (op.Global t number) c = do_turn lead (GlobalO t number) c
op_turn lead (op.Local t number) c = do_turn lead (LocalO t number) c
op_turn lead (op.Literal t number) c = do_turn lead (LiteralO t number) c
op_turn lead (op.Card t) c = do_turn lead (CardO t) c
op_turn lead (op.Step t p n) c = do_turn lead (StepO t p n) c
op_turn lead (op.Apart t p q) c = do_turn lead (ApartO t p q) c
op_turn lead (op.PtrTest o t p q) c = do_turn lead (PtrTestO o t p q) c
op_turn lead (op.Load t p) c = do_turn lead (LoadO t p) c
op_turn lead (op.Store p a) c = do_turn lead (StoreO p a) c
op_turn lead (op.Fresh local) c = do_turn lead (FreshO local) c
op_turn lead (op.End local) c = do_turn lead (EndO local) c
op_turn lead (op.Call t f args) c = unit (line lead (codes "Do " ++ call_text t f args)) (nodes_text lead c)
op_turn lead (op.In t port) c = do_turn lead (InO t port) c
op_turn lead (op.Out port a) c = do_turn lead (OutO port a) c
op_turn lead op.Wait c = do_turn lead WaitO c
op_turn lead op.Halt c = do_turn lead HaltO c

node_turn : (lead : List ℕ) (x : NodeT ℕ) (c : NodesT ℕ) → nodes_text lead (before x c) ≡ nodes_text lead (before x Stop) ++ nodes_text lead c
node_turn lead (DoN o) c = op_turn lead o c
node_turn lead (ChooseN p a b) c =
    unit (line lead (codes "Choose " ++ decimal p) ++ nodes_text (inside lead) (joined a) ++ line lead (codes "else") ++ nodes_text (inside lead) (joined b)) (nodes_text lead c)
node_turn lead (BlockN b) c = unit (line lead (codes "Block") ++ nodes_text (inside lead) (joined b)) (nodes_text lead c)
node_turn lead (LoopN b) c = unit (line lead (codes "Loop") ++ nodes_text (inside lead) (joined b)) (nodes_text lead c)
node_turn lead (LeaveN k) c = unit (line lead (codes "Leave " ++ decimal k)) (nodes_text lead c)
node_turn lead (AgainN k) c = unit (line lead (codes "Again " ++ decimal k)) (nodes_text lead c)
node_turn lead (ReturnN p) c = unit (line lead (result_text p)) (nodes_text lead c)

pub text_turn : (lead : List ℕ) (n : Node ℕ) (ns : List (Node ℕ)) → nodes_text lead (nodes (n ∷ ns)) ≡ nodes_text lead (before (node n) Stop) ++ nodes_text lead (nodes ns)
text_turn lead n ns = node_turn lead (node n) (nodes ns)

pub functions_turn : (fs : List (Function ℕ)) (k : ℕ) (f : Function ℕ) (o o1 whole : List ℕ) → f ≡ get_or fs k f → k < length fs → o1 ≡ o ++ function_text (codes "function " ++ decimal k) (function f)
    → o ++ functions_text k (map function (drop k fs)) ≡ whole → o1 ++ functions_text (k + 1) (map function (drop (k + 1) fs)) ≡ whole
functions_turn fs k f o o1 whole is lt e done =
    let name : List ℕ = codes "function " ++ decimal k in
    let rest : List ℕ = functions_text (k + 1) (map function (drop (k + 1) fs)) in
    let head : functions_text k (map function (drop k fs)) ≡ function_text name (function f) ++ rest =
    ap (λ l. functions_text k (map function l)) (drop-cons fs k f lt)
    ∙ ap (λ g. function_text name (function g) ++ functions_text (k + 1) (map function (drop (suc k) fs))) (sym is)
    ∙ ap (λ j. function_text name (function f) ++ functions_text (k + 1) (map function (drop j fs))) (sym (add-one k)) in
    ap (λ l. l ++ rest) e ∙ append_assoc o (function_text name (function f)) rest ∙ ap (λ l. o ++ l) (sym head) ∙ done
