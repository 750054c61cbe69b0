-- What a walk adds to trails, node by node.
use Rattle.std.proofs.Common.{◌≡◌, ℕ, zero, suc, ◌+◌, ◌<◌, ◌≤◌, Bool, true, false, ◌||◌, ◌&&◌, not, eqb, cond, List, [], ◌∷◌, length, drop, Option, refl, ap, sym, ◌∙◌, arith}
use Rattle.mid_code.specs.declared.node.Op.{Op}
use Rattle.mid_code.specs.declared.node.Op.TheVariants as op
use Rattle.mid_code.specs.declared.node.Node.{Node}
use Rattle.mid_code.specs.Code.{NodesT, Stop, Call, Choose, Block, Loop, Leave, Again, Return, maybe}
use Rattle.mid_code.specs.Functions.{NodeT, ListT, DoN, ChooseN, BlockN, LoopN, LeaveN, AgainN, ReturnN, before, joined, op_before, node, nodes}
use Rattle.mid_code.specs.Live.{Label, label, is_live, is_among, is_used, is_target}
use Rattle.mid_code.specs.Spans.{places}
use Rattle.reg_choose.specs.declared.trail.Trail.{Trail}
use Rattle.mid_live.specs.Sets.{on}
use Rattle.reg_choose.specs.inner.Trails.{stood, crossing, called, trail_at}
use Rattle.reg_choose.specs.inner.Sparse.{follows, ceases, sparse}
use Rattle.reg_choose.specs.inner.Seen.{seen, calls}
use Rattle.reg_choose.proofs.Ranges.{either, crossing_stood}
use Rattle.reg_choose.proofs.Trailed.{op_places}

pub ceases_more : (j l : Bool) → (j && not l) ≡ ceases l j true
ceases_more true true = refl
ceases_more true false = refl
ceases_more false l = refl

pub ceases_none : (j l : Bool) → ceases l j false ≡ false
ceases_none true true = refl
ceases_none true false = refl
ceases_none false l = refl

or_late : (a b : Bool) → (b || (a || false)) ≡ (a || b)
or_late true true = refl
or_late true false = refl
or_late false true = refl
or_late false false = refl

pub use_more : (a b : Bool) (p : ℕ) (r : Trail) → stood b p (stood (a || false) p r) ≡ stood (a || b) p r
use_more a b p r = either b (a || false) p r ∙ ap (λ z. stood z p r) (or_late a b)

or_two : (a b : Bool) → ((a || false) || (b || false)) ≡ (a || (b || false))
or_two true b = refl
or_two false b = refl

pub use_two : (a b : Bool) (p : ℕ) (r : Trail) → stood (a || false) p (stood (b || false) p r) ≡ stood (a || (b || false)) p r
use_two a b p r = either (a || false) (b || false) p r ∙ ap (λ z. stood z p r) (or_two a b)

-- ---- an operation

before_crossing : (k c : Bool) (r : Trail) → crossing (k || c) r ≡ crossing k (crossing c r)
before_crossing true c r = refl
before_crossing false c r = refl

never : (b : Bool) (r : Trail) → crossing (false && b) r ≡ crossing false r
never b r = refl

abbrev struck : NodesT ℕ → ℕ → Bool → Bool
struck c y j = cond (is_target c y) false j

swapped : (t j : Bool) → cond t false j ≡ (j && not t)
swapped true true = refl
swapped true false = refl
swapped false true = refl
swapped false false = refl

op_called : (o : Op ℕ) (y : ℕ) (j : Bool) (r : Trail) → crossing (calls (op_before o Stop) && struck (op_before o Stop) y j) r ≡ called (op_before o Stop) y j r
op_called (op.Const t w) y j r = refl
op_called (op.Null t) y j r = refl
op_called (op.Move t a) y j r = refl
op_called (op.One k t a) y j r = refl
op_called (op.Two k t a b) y j r = refl
op_called (op.Global t k) y j r = refl
op_called (op.Local t k) y j r = refl
op_called (op.Literal t k) y j r = refl
op_called (op.Card t) y j r = refl
op_called (op.Step t p i) y j r = refl
op_called (op.Apart t p q) y j r = refl
op_called (op.PtrTest k t p q) y j r = refl
op_called (op.Load t p) y j r = refl
op_called (op.Store p a) y j r = refl
op_called (op.Fresh k) y j r = refl
op_called (op.End k) y j r = refl
op_called (op.Call t f args) y j r = ap (λ z. crossing z r) (swapped (is_target (Call t f args Stop) y) j)
op_called (op.In t k) y j r = refl
op_called (op.Out k a) y j r = refl
op_called op.Wait y j r = refl
op_called op.Halt y j r = refl

op_sparse : (o : Op ℕ) (y : ℕ) (ls : List Label) (c : NodesT ℕ) (j w : Bool) (n : ℕ) (r : Trail) → sparse y ls (op_before o c) j w n r ≡ stood (is_target (op_before o Stop) y) n (stood (is_used (op_before o Stop) y) n (called (op_before o Stop) y (is_live y ls c j) (sparse y ls c j w (suc n) r)))
op_sparse (op.Const t v) y ls c j w n r = refl
op_sparse (op.Null t) y ls c j w n r = refl
op_sparse (op.Move t a) y ls c j w n r = refl
op_sparse (op.One k t a) y ls c j w n r = refl
op_sparse (op.Two k t a b) y ls c j w n r = refl
op_sparse (op.Global t k) y ls c j w n r = refl
op_sparse (op.Local t k) y ls c j w n r = refl
op_sparse (op.Literal t k) y ls c j w n r = refl
op_sparse (op.Card t) y ls c j w n r = refl
op_sparse (op.Step t p i) y ls c j w n r = refl
op_sparse (op.Apart t p q) y ls c j w n r = refl
op_sparse (op.PtrTest k t p q) y ls c j w n r = refl
op_sparse (op.Load t p) y ls c j w n r = refl
op_sparse (op.Store p a) y ls c j w n r = refl
op_sparse (op.Fresh k) y ls c j w n r = refl
op_sparse (op.End k) y ls c j w n r = refl
op_sparse (op.Call t f args) y ls c j w n r = refl
op_sparse (op.In t k) y ls c j w n r = refl
op_sparse (op.Out k a) y ls c j w n r = refl
op_sparse op.Wait y ls c j w n r = refl
op_sparse op.Halt y ls c j w n r = refl

-- t is the trail as it was, u as it is; c what crossed, d what crosses
pub op_seen : (o : Op ℕ) (y : ℕ) (ls : List Label) (j k w c d : Bool) (n : ℕ) (t u v : Trail) → k ≡ struck (op_before o Stop) y j → d ≡ ((calls (op_before o Stop) && k) || c) → u ≡ stood (is_used (op_before o Stop) y) n t → v ≡ stood (is_target (op_before o Stop) y) n u → crossing d v ≡ sparse y ls (op_before o Stop) j w n (crossing c t)
op_seen o y ls j k w c d n t u v e f g h =
    let a = is_target (op_before o Stop) y in
    let b = is_used (op_before o Stop) y in
    ap (crossing d) (h ∙ ap (stood a n) g)
    ∙ crossing_stood d a n (stood b n t)
    ∙ ap (stood a n) (crossing_stood d b n t ∙ ap (stood b n) (ap (λ z. crossing z t) (f ∙ ap (λ z. (calls (op_before o Stop) && z) || c) e) ∙ before_crossing (calls (op_before o Stop) && struck (op_before o Stop) y j) c t ∙ op_called o y j (crossing c t)))
    ∙ sym (op_sparse o y ls Stop j w n (crossing c t))

-- ---- a node, and then what follows it

op_follows : (o : Op ℕ) (c : NodesT ℕ) → follows (op_before o c) ≡ true
op_follows (op.Const t v) c = refl
op_follows (op.Null t) c = refl
op_follows (op.Move t a) c = refl
op_follows (op.One k t a) c = refl
op_follows (op.Two k t a b) c = refl
op_follows (op.Global t k) c = refl
op_follows (op.Local t k) c = refl
op_follows (op.Literal t k) c = refl
op_follows (op.Card t) c = refl
op_follows (op.Step t p i) c = refl
op_follows (op.Apart t p q) c = refl
op_follows (op.PtrTest k t p q) c = refl
op_follows (op.Load t p) c = refl
op_follows (op.Store p a) c = refl
op_follows (op.Fresh k) c = refl
op_follows (op.End k) c = refl
op_follows (op.Call t f args) c = refl
op_follows (op.In t k) c = refl
op_follows (op.Out k a) c = refl
op_follows op.Wait c = refl
op_follows op.Halt c = refl

pub node_follows : (x : NodeT ℕ) (c : NodesT ℕ) → follows (before x c) ≡ true
node_follows (DoN o) c = op_follows o c
node_follows (ChooseN p a b) c = refl
node_follows (BlockN b) c = refl
node_follows (LoopN b) c = refl
node_follows (LeaveN k) c = refl
node_follows (AgainN k) c = refl
node_follows (ReturnN p) c = refl

pub more_is : (ns : List (Node ℕ)) (i : ℕ) (w : Bool) → (w ≡ true → i < length ns) → (w ≡ false → length ns ≤ i) → w ≡ follows (nodes (drop i ns))
more_is [] i true f g = absurd (let q = f refl in omega (arith, q))
more_is [] zero false f g = refl
more_is [] (suc i) false f g = refl
more_is (n ∷ ns) zero true f g = sym (node_follows (node n) (nodes ns))
more_is (n ∷ ns) zero false f g = absurd (let q = g refl in omega (arith, q))
more_is (n ∷ ns) (suc i) w f g = more_is ns i w (λ e. (let q = f e in omega (arith, q))) (λ e. (let q = g e in omega (arith, q)))

sparse_node : (x : NodeT ℕ) (y : ℕ) (ls : List Label) (c : NodesT ℕ) (j w : Bool) (n m : ℕ) (r : Trail) → n + places (before x Stop) ≡ m → sparse y ls (before x c) j w n r ≡ sparse y ls (before x Stop) (is_live y ls c j) (follows c || w) n (sparse y ls c j w m r)
sparse_node (DoN o) y ls c j w n m r e =
    let q = op_places o Stop in
    let i : suc n ≡ m = omega (arith, e, q) in
    op_sparse o y ls c j w n r ∙ ap (λ z. stood (is_target (op_before o Stop) y) n (stood (is_used (op_before o Stop) y) n (called (op_before o Stop) y (is_live y ls c j) (sparse y ls c j w z r)))) i ∙ sym (op_sparse o y ls Stop (is_live y ls c j) (follows c || w) n (sparse y ls c j w m r))
sparse_node (ChooseN p a b) y ls c j w n m r e = (let i : suc (places (joined a) + (places (joined b) + n)) ≡ m = omega (arith, e) in ap (λ z. sparse y ls (before (ChooseN p a b) Stop) (is_live y ls c j) (follows c || w) n (sparse y ls c j w z r)) i)
sparse_node (BlockN b) y ls c j w n m r e = (let i : suc (places (joined b) + n) ≡ m = omega (arith, e) in ap (λ z. sparse y ls (before (BlockN b) Stop) (is_live y ls c j) (follows c || w) n (sparse y ls c j w z r)) i)
sparse_node (LoopN b) y ls c j w n m r e = (let i : suc (places (joined b) + n) ≡ m = omega (arith, e) in ap (λ z. sparse y ls (before (LoopN b) Stop) (is_live y ls c j) (follows c || w) n (sparse y ls c j w z r)) i)
sparse_node (LeaveN k) y ls c j w n m r e = (let i : suc n ≡ m = omega (arith, e) in ap (λ z. sparse y ls (before (LeaveN k) Stop) (is_live y ls c j) (follows c || w) n (sparse y ls c j w z r)) i)
sparse_node (AgainN k) y ls c j w n m r e = (let i : suc n ≡ m = omega (arith, e) in ap (λ z. sparse y ls (before (AgainN k) Stop) (is_live y ls c j) (follows c || w) n (sparse y ls c j w z r)) i)
sparse_node (ReturnN p) y ls c j w n m r e = (let i : suc n ≡ m = omega (arith, e) in ap (λ z. sparse y ls (before (ReturnN p) Stop) (is_live y ls c j) (follows c || w) n (sparse y ls c j w z r)) i)

or_stop : (w : Bool) → (w || false) ≡ w
or_stop true = refl
or_stop false = refl

pub seen_step : (x : NodeT ℕ) (y : ℕ) (ls : List Label) (c d : NodesT ℕ) (j s w : Bool) (n m : ℕ) (r t u : Trail) → d ≡ before x c → n + places (before x Stop) ≡ m → s ≡ is_live y ls c j → w ≡ follows c → t ≡ sparse y ls c j false m r → u ≡ sparse y ls (before x Stop) s w n t → u ≡ sparse y ls d j false n r
seen_step x y ls c d j s w n m r t u e f g v h i =
    i ∙ ap (λ z. sparse y ls (before x Stop) z w n t) g ∙ ap (λ z. sparse y ls (before x Stop) (is_live y ls c j) z n t) (v ∙ sym (or_stop (follows c))) ∙ ap (sparse y ls (before x Stop) (is_live y ls c j) (follows c || false) n) h ∙ sym (sparse_node x y ls c j false n m r f) ∙ ap (λ z. sparse y ls z j false n r) (sym e)

-- ---- each kind of node, from the end

-- a place added to a trail is added to what is seen
pub seen_stood : (rs qs : List Trail) (cs : List ℕ) (y : ℕ) (b : Bool) (p : ℕ) → trail_at qs y ≡ stood b p (trail_at rs y) → seen qs cs y ≡ stood b p (seen rs cs y)
seen_stood rs qs cs y b p e = ap (crossing (on cs y)) e ∙ crossing_stood (on cs y) b p (trail_at rs y)

pub choose_seen : (x : NodeT ℕ) (y : ℕ) (ls : List Label) (p : ℕ) (a b : ListT ℕ) (j v w : Bool) (n inside between place : ℕ) (r s t u q : Trail) → x ≡ ChooseN p a b → v ≡ is_live y ls (before x Stop) j → n + 1 ≡ inside → inside + places (joined a) ≡ between → between + places (joined b) ≡ place → s ≡ sparse y ls (joined b) j false between r → t ≡ sparse y ls (joined a) j false inside s → u ≡ stood (ceases v j w) place t → q ≡ stood (eqb p y || false) n u → q ≡ sparse y ls (before x Stop) j w n r
choose_seen x y ls p a b j v w n inside between place r s t u q e f g h i k l m o =
    let v' : v ≡ is_live y ls (Choose p (joined a) (joined b) Stop) j = f ∙ ap (λ z. is_live y ls (before z Stop) j) e in
    let i0 : inside ≡ suc n = omega (arith, g) in
    let i1 : between ≡ suc (places (joined a) + n) = omega (arith, g, h) in
    let i2 : place ≡ suc (places (joined a) + (places (joined b) + n)) = omega (arith, g, h, i) in
    let rb = sparse y ls (joined b) j false (suc (places (joined a) + n)) r in
    let eb : s ≡ rb = k ∙ ap (λ z. sparse y ls (joined b) j false z r) i1 in
    let ra = sparse y ls (joined a) j false (suc n) rb in
    let ea : t ≡ ra = l ∙ ap (λ z. sparse y ls (joined a) j false z s) i0 ∙ ap (sparse y ls (joined a) j false (suc n)) eb in
    o ∙ ap (stood (eqb p y || false) n) (m ∙ ap (λ z. stood (ceases z j w) place t) v' ∙ ap (λ z. stood (ceases (is_live y ls (Choose p (joined a) (joined b) Stop) j) j w) z t) i2 ∙ ap (stood (ceases (is_live y ls (Choose p (joined a) (joined b) Stop) j) j w) (suc (places (joined a) + (places (joined b) + n)))) ea) ∙ ap (λ z. sparse y ls (before z Stop) j w n r) (sym e)

pub block_seen : (x : NodeT ℕ) (y : ℕ) (ls : List Label) (b : ListT ℕ) (j v w : Bool) (n inside place : ℕ) (r s u : Trail) → x ≡ BlockN b → v ≡ is_live y ls (before x Stop) j → n + 1 ≡ inside → inside + places (joined b) ≡ place → s ≡ sparse y (label false j ∷ ls) (joined b) j false inside r → u ≡ stood (ceases v j w) place s → u ≡ sparse y ls (before x Stop) j w n r
block_seen x y ls b j v w n inside place r s u e f g h i k =
    let v' : v ≡ is_live y ls (Block (joined b) Stop) j = f ∙ ap (λ z. is_live y ls (before z Stop) j) e in
    let i0 : inside ≡ suc n = omega (arith, g) in
    let i1 : place ≡ suc (places (joined b) + n) = omega (arith, g, h) in
    let eb = i ∙ ap (λ z. sparse y (label false j ∷ ls) (joined b) j false z r) i0 in
    k ∙ ap (λ z. stood (ceases z j w) place s) v' ∙ ap (λ z. stood (ceases (is_live y ls (Block (joined b) Stop) j) j w) z s) i1 ∙ ap (stood (ceases (is_live y ls (Block (joined b) Stop) j) j w) (suc (places (joined b) + n))) eb ∙ ap (λ z. sparse y ls (before z Stop) j w n r) (sym e)

pub loop_seen : (x : NodeT ℕ) (y : ℕ) (ls : List Label) (b : ListT ℕ) (j v w : Bool) (n inside place : ℕ) (r s u : Trail) → x ≡ LoopN b → v ≡ is_live y ls (before x Stop) j → n + 1 ≡ inside → inside + places (joined b) ≡ place → s ≡ sparse y (label v j ∷ ls) (joined b) j false inside r → u ≡ stood (ceases v j w) place s → u ≡ sparse y ls (before x Stop) j w n r
loop_seen x y ls b j v w n inside place r s u e f g h i k =
    let v' : v ≡ is_live y ls (Loop (joined b) Stop) j = f ∙ ap (λ z. is_live y ls (before z Stop) j) e in
    let i0 : inside ≡ suc n = omega (arith, g) in
    let i1 : place ≡ suc (places (joined b) + n) = omega (arith, g, h) in
    let l = is_live y ls (Loop (joined b) Stop) j in
    let eb = i ∙ ap (λ z. sparse y (label z j ∷ ls) (joined b) j false inside r) v' ∙ ap (λ z. sparse y (label l j ∷ ls) (joined b) j false z r) i0 in
    k ∙ ap (λ z. stood (ceases z j w) place s) v' ∙ ap (λ z. stood (ceases l j w) z s) i1 ∙ ap (stood (ceases l j w) (suc (places (joined b) + n))) eb ∙ ap (λ z. sparse y ls (before z Stop) j w n r) (sym e)

pub leave_seen : (x : NodeT ℕ) (y : ℕ) (ls : List Label) (k : ℕ) (j v w : Bool) (n place : ℕ) (r u : Trail) → x ≡ LeaveN k → v ≡ is_live y ls (before x Stop) j → n + 1 ≡ place → u ≡ stood (ceases v j w) place r → u ≡ sparse y ls (before x Stop) j w n r
leave_seen x y ls k j v w n place r u e f g h =
    let v' : v ≡ is_live y ls (Leave k Stop) j = f ∙ ap (λ z. is_live y ls (before z Stop) j) e in
    let i0 : place ≡ suc n = omega (arith, g) in
    h ∙ ap (λ z. stood (ceases z j w) place r) v' ∙ ap (λ z. stood (ceases (is_live y ls (Leave k Stop) j) j w) z r) i0 ∙ ap (λ z. sparse y ls (before z Stop) j w n r) (sym e)

pub again_seen : (x : NodeT ℕ) (y : ℕ) (ls : List Label) (k : ℕ) (j v w : Bool) (n place : ℕ) (r u q : Trail) → x ≡ AgainN k → v ≡ is_live y ls (before x Stop) j → n + 1 ≡ place → u ≡ stood (ceases v j w) place r → q ≡ stood (v && not j) n u → q ≡ sparse y ls (before x Stop) j w n r
again_seen x y ls k j v w n place r u q e f g h i =
    let v' : v ≡ is_live y ls (Again k Stop) j = f ∙ ap (λ z. is_live y ls (before z Stop) j) e in
    let i0 : place ≡ suc n = omega (arith, g) in
    i ∙ ap (λ z. stood (z && not j) n u) v' ∙ ap (stood (is_live y ls (Again k Stop) j && not j) n) (h ∙ ap (λ z. stood (ceases z j w) place r) v' ∙ ap (λ z. stood (ceases (is_live y ls (Again k Stop) j) j w) z r) i0) ∙ ap (λ z. sparse y ls (before z Stop) j w n r) (sym e)

pub return_seen : (x : NodeT ℕ) (y : ℕ) (ls : List Label) (p : Option ℕ) (j v w : Bool) (n place : ℕ) (r u q : Trail) → x ≡ ReturnN p → v ≡ is_live y ls (before x Stop) j → n + 1 ≡ place → u ≡ stood (ceases v j w) place r → q ≡ stood (is_among (maybe p) y) n u → q ≡ sparse y ls (before x Stop) j w n r
return_seen x y ls p j v w n place r u q e f g h i =
    let v' : v ≡ is_live y ls (Return p Stop) j = f ∙ ap (λ z. is_live y ls (before z Stop) j) e in
    let i0 : place ≡ suc n = omega (arith, g) in
    i ∙ ap (stood (is_among (maybe p) y) n) (h ∙ ap (λ z. stood (ceases z j w) place r) v' ∙ ap (λ z. stood (ceases (is_live y ls (Return p Stop) j) j w) z r) i0) ∙ ap (λ z. sparse y ls (before z Stop) j w n r) (sym e)
