-- Small facts for walks with live sets.
use Rattle.std.proofs.Common.{◌≡◌, ◌≢◌, ℕ, zero, suc, ◌-◌, ◌<◌, ◌||◌, Bool, true, false, List, ◌∷◌, refl, ap, sym, ◌∙◌, arith, map, drop, drop-cons, get_or, length}
use Rattle.mid_code.specs.declared.node.Op.{Op}
use Rattle.mid_code.specs.declared.node.Op.TheVariants as op
use Rattle.mid_code.specs.declared.node.Node.{Node}
use Rattle.mid_code.specs.Code.{NodesT, Stop}
use Rattle.mid_code.specs.Functions.{NodeT, DoN, ChooseN, BlockN, LoopN, LeaveN, AgainN, ReturnN, before, listed, op_before, node}
use Rattle.mid_code.specs.Live.{Label, ends_of, begins_of, is_live, is_used, is_target, live_before}

pub ends_below : (l : Label) (ls : List Label) (k : ℕ) → k ≢ 0 → ends_of (l ∷ ls) k ≡ ends_of ls (k - 1)
ends_below l ls zero h = absurd (h refl)
ends_below l ls (suc k) h = ap (ends_of ls) (omega arith)

pub begins_below : (l : Label) (ls : List Label) (k : ℕ) → k ≢ 0 → begins_of (l ∷ ls) k ≡ begins_of ls (k - 1)
begins_below l ls zero h = absurd (h refl)
begins_below l ls (suc k) h = ap (begins_of ls) (omega arith)

pub or_swap : (a b c : Bool) → (b || (a || c)) ≡ ((a || b) || c)
or_swap true true c = refl
or_swap true false c = refl
or_swap false b c = refl

pub or_swapped : (a c : Bool) → (a || c) ≡ ((a || false) || c)
or_swapped true c = refl
or_swapped false c = refl

pub or_all : (a b c : Bool) → (a || (b || c)) ≡ ((a || (b || false)) || c)
or_all true b c = refl
or_all false true c = refl
or_all false false c = refl

pub or_none : (a : Bool) → (a || false) ≡ a
or_none true = refl
or_none false = refl

-- what an operation does with liveness, whatever follows it
pub op_live_on : (o : Op ℕ) (y : ℕ) (ls : List Label) (c : NodesT ℕ) (j : Bool) → is_live y ls (op_before o c) j ≡ live_before (is_used (op_before o Stop) y) (is_target (op_before o Stop) y) (is_live y ls c j)
op_live_on (op.Const t w) y ls c j = refl
op_live_on (op.Null t) y ls c j = refl
op_live_on (op.Move t a) y ls c j = refl
op_live_on (op.One o t a) y ls c j = refl
op_live_on (op.Two o t a b) y ls c j = refl
op_live_on (op.Global t k) y ls c j = refl
op_live_on (op.Local t k) y ls c j = refl
op_live_on (op.Literal t k) y ls c j = refl
op_live_on (op.Card t) y ls c j = refl
op_live_on (op.Step t p n) y ls c j = refl
op_live_on (op.Apart t p q) y ls c j = refl
op_live_on (op.PtrTest o t p q) y ls c j = refl
op_live_on (op.Load t p) y ls c j = refl
op_live_on (op.Store p a) y ls c j = refl
op_live_on (op.Fresh k) y ls c j = refl
op_live_on (op.End k) y ls c j = refl
op_live_on (op.Call t f args) y ls c j = refl
op_live_on (op.In t k) y ls c j = refl
op_live_on (op.Out k a) y ls c j = refl
op_live_on op.Wait y ls c j = refl
op_live_on op.Halt y ls c j = refl

pub op_live : (o : Op ℕ) (y : ℕ) (ls : List Label) (j : Bool) → is_live y ls (op_before o Stop) j ≡ live_before (is_used (op_before o Stop) y) (is_target (op_before o Stop) y) j
op_live o y ls j = op_live_on o y ls Stop j

-- a node by itself, and then what follows it
pub live_node : (x : NodeT ℕ) (y : ℕ) (ls : List Label) (c : NodesT ℕ) (j : Bool) → is_live y ls (before x c) j ≡ is_live y ls (before x Stop) (is_live y ls c j)
live_node (DoN o) y ls c j = op_live_on o y ls c j ∙ sym (op_live o y ls (is_live y ls c j))
live_node (ChooseN p a b) y ls c j = refl
live_node (BlockN b) y ls c j = refl
live_node (LoopN b) y ls c j = refl
live_node (LeaveN k) y ls c j = refl
live_node (AgainN k) y ls c j = refl
live_node (ReturnN p) y ls c j = refl

pub nodes_drop : (ns : List (Node ℕ)) (i : ℕ) (x : Node ℕ) → 0 < i → (i - 1 < length ns) → x ≡ get_or ns (i - 1) x → listed (map node (drop (i - 1) ns)) ≡ listed (node x ∷ map node (drop i ns))
nodes_drop ns zero x h l at = absurd (omega (arith, h))
nodes_drop ns (suc i) x h l at =
    let e : suc i - 1 ≡ i = omega arith in
    let b : i < length ns = omega (arith, l) in
    let g : get_or ns i x ≡ x = ap (λ k. get_or ns k x) (sym e) ∙ sym at in
    ap (λ k. listed (map node (drop k ns))) e ∙ ap (λ l. listed (map node l)) (drop-cons ns i x b) ∙ ap (λ z. listed (node z ∷ map node (drop (suc i) ns))) g
