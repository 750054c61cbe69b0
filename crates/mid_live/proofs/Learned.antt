-- Loops that are told of, one after another.
use Rattle.std.proofs.Common.{◌≡◌, ℕ, zero, suc, ◌+◌, ◌-◌, ◌<◌, ◌≤◌, max, List, [], ◌∷◌, ◌++◌, length, take, get_or, set, map, drop, refl, ap, sym, subst, ◌∙◌, arith}
use Rattle.std.proofs.lemmas.List.{get_or-set_same, get_or-set_other, get_or-take, length-set, length-take, take-take, take-append-le}
use Rattle.mid_code.specs.declared.node.Op.{Op}
use Rattle.mid_code.specs.declared.node.Op.TheVariants as op
use Rattle.mid_code.specs.declared.node.Node.{Node}
use Rattle.mid_code.specs.Code.{NodesT, Stop, Do, Call, Choose, Block, Loop, Leave, Again, Return}
use Rattle.mid_code.specs.Functions.{NodeT, ListT, DoN, ChooseN, BlockN, LoopN, LeaveN, AgainN, ReturnN, NoN, MoreN, before, joined, listed, node, op_before}
use Rattle.mid_live.specs.declared.heads.Head.{Head}
use Rattle.mid_live.specs.Heads.{node_loops, list_loops, IsHead, NodeTold, ListTold}
use Rattle.mid_live.specs.inner.Loops.{Inside}

-- ---- more heads behind those that are there

same_at : (t u : List Head) (k : ℕ) (d : Head) → take (length t) u ≡ t → k < length t → get_or u k d ≡ get_or t k d
same_at t u k d e h = sym (get_or-take (length t) u k d h) ∙ ap (λ z. get_or z k d) e

pub grown : (t u : List Head) → take (length t) u ≡ t → length t ≤ length u
grown t u e = omega (arith, ap length e, length-take (length t) u)

pub longer : (a b c : List Head) → take (length a) b ≡ a → take (length b) c ≡ b → take (length a) c ≡ a
longer a b c e f = sym (take-take (length a) (length b) c (grown a b e)) ∙ ap (take (length a)) f ∙ e

module _ (w : ℕ) (t u : List Head) (more : take (length t) u ≡ t) where
  mutual
    pub node_more : (k : ℕ) (x : NodeT ℕ) → NodeTold w t k x → NodeTold w u k x
    node_more k (DoN o) g = tt
    node_more k (ChooseN p a b) g = (list_more k b g.0, list_more (list_loops b + k) a g.1)
    node_more k (BlockN b) g = list_more k b g
    node_more k (LoopN b) g = ((let a = g.0 in let l = grown t u more in omega (arith, a, l)), λ d. subst (λ h. IsHead w h b) (sym (same_at t u k d more g.0)) (g.1 d), list_more (suc k) b g.2)
    node_more k (LeaveN n) g = tt
    node_more k (AgainN n) g = tt
    node_more k (ReturnN p) g = tt

    pub list_more : (k : ℕ) (l : ListT ℕ) → ListTold w t k l → ListTold w u k l
    list_more k NoN g = tt
    list_more k (MoreN x rest) g = (list_more k rest g.0, node_more (list_loops rest + k) x g.1)

-- ---- another head in the place of one

module _ (w : ℕ) (t : List Head) (i : ℕ) (h : Head) where
  mutual
    pub node_set : (k : ℕ) (x : NodeT ℕ) → i < k → NodeTold w t k x → NodeTold w (set t i h) k x
    node_set k (DoN o) l g = tt
    node_set k (ChooseN p a b) l g = (list_set k b l g.0, list_set (list_loops b + k) a (omega (arith, l)) g.1)
    node_set k (BlockN b) l g = list_set k b l g
    node_set k (LoopN b) l g = ((let a = g.0 in let s = length-set t i h in omega (arith, a, s)), λ d. subst (λ z. IsHead w z b) (sym (get_or-set_other t i k h d (λ e. (omega (arith, e, l))))) (g.1 d), list_set (suc k) b (omega (arith, l)) g.2)
    node_set k (LeaveN n) l g = tt
    node_set k (AgainN n) l g = tt
    node_set k (ReturnN p) l g = tt

    pub list_set : (k : ℕ) (l : ListT ℕ) → i < k → ListTold w t k l → ListTold w (set t i h) k l
    list_set k NoN l g = tt
    list_set k (MoreN x rest) l g = (list_set k rest l g.0, node_set (list_loops rest + k) x (omega (arith, l)) g.1)

-- a loop, whose head is put in its place when those inside it are told of
pub loop_told : (w k : ℕ) (t : List Head) (h : Head) (b : ListT ℕ) → k < length t → IsHead w h b → ListTold w t (suc k) b → NodeTold w (set t k h) k (LoopN b)
loop_told w k t h b inside is g = ((let s = length-set t k h in omega (arith, inside, s)), λ d. subst (λ z. IsHead w z b) (sym (get_or-set_same t k h d inside)) is, list_set w t k h (suc k) b (omega arith) g)

pub set_front : (t : List Head) (n k : ℕ) (h : Head) → n ≤ k → take n (set t k h) ≡ take n t
set_front [] zero k h l = refl
set_front [] (suc n) k h l = refl
set_front (x ∷ t) zero k h l = refl
set_front (x ∷ t) (suc n) zero h l = absurd (omega (arith, l))
set_front (x ∷ t) (suc n) (suc k) h l = ap (λ z. x ∷ z) (set_front t n k h (omega (arith, l)))

pub pushed_front : (t u : List Head) (h : Head) → u ≡ t ++ h ∷ [] → take (length t) u ≡ t
pushed_front t u h e = ap (take (length t)) e ∙ take-append-le (length t) t (h ∷ []) (omega arith) ∙ all t
  where
    all : (t : List Head) → take (length t) t ≡ t
    all [] = refl
    all (x ∷ t) = ap (λ z. x ∷ z) (all t)

-- ---- how far out a node reaches

pub wide : (c : NodesT ℕ) (m n : ℕ) → m ≤ n → Inside m c → Inside n c
wide Stop m n l i = tt
wide (Do o c) m n l i = wide c m n l i
wide (Call t f args c) m n l i = wide c m n l i
wide (Choose p a b c) m n l i = (wide a m n l i.0, wide b m n l i.1, wide c m n l i.2)
wide (Block b c) m n l i = (wide b (suc m) (suc n) (omega (arith, l)) i.0, wide c m n l i.1)
wide (Loop b c) m n l i = (wide b (suc m) (suc n) (omega (arith, l)) i.0, wide c m n l i.1)
wide (Leave k c) m n l i = ((let a = i.0 in omega (arith, a, l)), wide c m n l i.1)
wide (Again k c) m n l i = ((let a = i.0 in omega (arith, a, l)), wide c m n l i.1)
wide (Return p c) m n l i = wide c m n l i

op_inside : (o : Op ℕ) (c : NodesT ℕ) (n : ℕ) → Inside n c → Inside n (op_before o c)
op_inside (op.Const t w) c n i = i
op_inside (op.Null t) c n i = i
op_inside (op.Move t a) c n i = i
op_inside (op.One o t a) c n i = i
op_inside (op.Two o t a b) c n i = i
op_inside (op.Global t k) c n i = i
op_inside (op.Local t k) c n i = i
op_inside (op.Literal t k) c n i = i
op_inside (op.Card t) c n i = i
op_inside (op.Step t p x) c n i = i
op_inside (op.Apart t p q) c n i = i
op_inside (op.PtrTest o t p q) c n i = i
op_inside (op.Load t p) c n i = i
op_inside (op.Store p a) c n i = i
op_inside (op.Fresh k) c n i = i
op_inside (op.End k) c n i = i
op_inside (op.Call t f args) c n i = i
op_inside (op.In t k) c n i = i
op_inside (op.Out k a) c n i = i
op_inside op.Wait c n i = i
op_inside op.Halt c n i = i

pub op_stop : (o : Op ℕ) → Inside 0 (op_before o Stop)
op_stop o = op_inside o Stop 0 tt

-- a node, and then what follows it
pub node_inside : (x : NodeT ℕ) (c : NodesT ℕ) (m n r : ℕ) → m ≤ r → n ≤ r → Inside m (before x Stop) → Inside n c → Inside r (before x c)
node_inside (DoN o) c m n r l k i j = op_inside o c r (wide c n r k j)
node_inside (ChooseN p a b) c m n r l k i j = (wide (joined a) m r l i.0, wide (joined b) m r l i.1, wide c n r k j)
node_inside (BlockN b) c m n r l k i j = (wide (joined b) (suc m) (suc r) (omega (arith, l)) i.0, wide c n r k j)
node_inside (LoopN b) c m n r l k i j = (wide (joined b) (suc m) (suc r) (omega (arith, l)) i.0, wide c n r k j)
node_inside (LeaveN q) c m n r l k i j = ((let a = i.0 in omega (arith, a, l)), wide c n r k j)
node_inside (AgainN q) c m n r l k i j = ((let a = i.0 in omega (arith, a, l)), wide c n r k j)
node_inside (ReturnN p) c m n r l k i j = wide c n r k j

pub choose_inside : (p : ℕ) (a b : NodesT ℕ) (m n : ℕ) → Inside m a → Inside n b → Inside (max m n) (Choose p a b Stop)
choose_inside p a b m n i j = (wide a m (max m n) (omega arith) i, wide b n (max m n) (omega arith) j, tt)

pub body_inside : (b : NodesT ℕ) (n : ℕ) → Inside n b → Inside (suc (n - 1)) b
body_inside b n i = wide b n (suc (n - 1)) (omega arith) i

-- ---- as code reads them

pub list_at : (w k : ℕ) (t : List Head) (ns : List (Node ℕ)) (i : ℕ) (x : Node ℕ) → ListTold w t k (listed (map node ns)) → 0 < i → i - 1 < length ns → x ≡ get_or ns (i - 1) x → NodeTold w t (list_loops (listed (map node (drop i ns))) + k) (node x)
list_at w k t ns zero x g h l e = absurd (omega (arith, h))
list_at w k t [] (suc i) x g h l e = absurd (omega (arith, l))
list_at w k t (n ∷ ns) (suc zero) x g h l e = (let z : 1 - 1 ≡ 0 = omega arith in subst (λ q. NodeTold w t (list_loops (listed (map node ns)) + k) (node q)) (sym (e ∙ ap (λ j. get_or (n ∷ ns) j x) z)) g.1)
list_at w k t (n ∷ ns) (suc (suc i)) x g h l e =
    let z : suc (suc i) - 1 ≡ suc i = omega arith in
    let y : suc i - 1 ≡ i = omega arith in
    list_at w k t ns (suc i) x g.0 (omega arith) (omega (arith, l)) (e ∙ ap (λ j. get_or (n ∷ ns) j x) z ∙ ap (λ j. get_or ns j x) (sym y))

pub told_turn : (w v k n i : ℕ) (t : List Head) (ns : List (Node ℕ)) (x : Node ℕ) → ListTold w t k (listed (map node ns)) → v ≡ w → n ≡ list_loops (listed (map node (drop i ns))) + k → 0 < i → i - 1 < length ns → x ≡ get_or ns (i - 1) x → NodeTold v t n (node x)
told_turn w v k n i t ns x g e f h l is = subst (λ z. NodeTold z t n (node x)) (sym e) (subst (λ z. NodeTold w t z (node x)) (sym f) (list_at w k t ns i x g h l is))

pub loops_turn : (ns : List (Node ℕ)) (i k m n : ℕ) (x : Node ℕ) → listed (map node (drop (i - 1) ns)) ≡ listed (node x ∷ map node (drop i ns)) → m ≡ list_loops (listed (map node (drop i ns))) + k → n ≡ node_loops (node x) + m → n ≡ list_loops (listed (map node (drop (i - 1) ns))) + k
loops_turn ns i k m n x e f g = (let a = ap list_loops e in omega (arith, a, f, g))

pub no_loops : (ns : List (Node ℕ)) → list_loops (listed (map node (drop (length ns) ns))) ≡ 0
no_loops [] = refl
no_loops (n ∷ ns) = no_loops ns

pub told_each : (v k n i : ℕ) (t : List Head) (ns : List (Node ℕ)) (x : Node ℕ) → ((w : ℕ) → w ≡ v → ListTold w t k (listed (map node ns))) → n ≡ list_loops (listed (map node (drop (suc i) ns))) + k → i < length ns → x ≡ get_or ns i x → NodeTold v t n (node x)
told_each v k n i t ns x told f h is = told_turn v v k n (suc i) t ns x (told v refl) refl f (omega arith) (omega (arith, h)) (let j : i ≡ suc i - 1 = omega arith in is ∙ ap (λ z. get_or ns z x) j)
