-- What nodes name, and what of a loop that names nothing of a temporary.
use Rattle.std.proofs.Common.{◌≡◌, ℕ, suc, ◌+◌, ◌*◌, ◌<◌, List, [], ◌∷◌, Bool, true, false, ◌||◌, ◌&&◌, not, eqb, length, refl, ap, sym, subst, ◌∙◌, arith}
use Rattle.std.proofs.lemmas.Bool.{eq-eqb, false≢true}
use Rattle.mid_code.specs.declared.node.Op.{Op}
use Rattle.mid_code.specs.declared.node.Op.TheVariants as op
use Rattle.mid_code.specs.Code.{NodesT, Stop, Do, Call, Choose, Block, Loop, Leave, Again, Return}
use Rattle.mid_code.specs.Functions.{NodeT, ListT, DoN, ChooseN, BlockN, LoopN, LeaveN, AgainN, ReturnN, before, joined, op_before}
use Rattle.mid_code.specs.Live.{Label, label, is_live, is_used, is_target, live_before}
use Rattle.mid_live.specs.Sets.{on}
use Rattle.mid_live.specs.declared.heads.Head.{Head}
use Rattle.mid_live.specs.declared.heads.Known.{Known}
use Rattle.mid_live.specs.Heads.{named, list_loops, IsKnown, NodeTold, ListTold}
use Rattle.mid_live.specs.inner.Loops.{Inside}
use Rattle.mid_live.proofs.Raised.{heads}

or_none : (a : Bool) → (a || false) ≡ a
or_none true = refl
or_none false = refl

-- ---- a node, and what follows it

op_named : (o : Op ℕ) (c : NodesT ℕ) (y : ℕ) → named (op_before o c) y ≡ ((is_used (op_before o Stop) y || is_target (op_before o Stop) y) || named c y)
op_named (op.Const t w) c y = refl
op_named (op.Null t) c y = refl
op_named (op.Move t a) c y = refl
op_named (op.One o t a) c y = refl
op_named (op.Two o t a b) c y = refl
op_named (op.Global t k) c y = refl
op_named (op.Local t k) c y = refl
op_named (op.Literal t k) c y = refl
op_named (op.Card t) c y = refl
op_named (op.Step t p n) c y = refl
op_named (op.Apart t p q) c y = refl
op_named (op.PtrTest o t p q) c y = refl
op_named (op.Load t p) c y = refl
op_named (op.Store p a) c y = refl
op_named (op.Fresh k) c y = refl
op_named (op.End k) c y = refl
op_named (op.Call t f args) c y = refl
op_named (op.In t k) c y = refl
op_named (op.Out k a) c y = refl
op_named op.Wait c y = refl
op_named op.Halt c y = refl

used_target : (u t j : Bool) → (u || (t || j)) ≡ (((u || t) || false) || j)
used_target true t j = refl
used_target false true j = refl
used_target false false j = refl

pub op_turn : (o : Op ℕ) (y : ℕ) (a b c : Bool) → a ≡ (is_used (op_before o Stop) y || b) → b ≡ (is_target (op_before o Stop) y || c) → a ≡ (named (op_before o Stop) y || c)
op_turn o y a b c e f = e ∙ ap (λ z. is_used (op_before o Stop) y || z) f ∙ used_target (is_used (op_before o Stop) y) (is_target (op_before o Stop) y) c ∙ ap (λ z. z || c) (sym (op_named o Stop y))

four_or : (u a b c : Bool) → (u || (a || (b || c))) ≡ ((u || (a || (b || false))) || c)
four_or true a b c = refl
four_or false true b c = refl
four_or false false true c = refl
four_or false false false c = refl

two_or : (b c : Bool) → (b || c) ≡ ((b || false) || c)
two_or true c = refl
two_or false c = refl

pub node_named : (x : NodeT ℕ) (c : NodesT ℕ) (y : ℕ) → named (before x c) y ≡ (named (before x Stop) y || named c y)
node_named (DoN o) c y = op_named o c y ∙ ap (λ z. z || named c y) (sym (op_named o Stop y ∙ or_none (is_used (op_before o Stop) y || is_target (op_before o Stop) y)))
node_named (ChooseN p a b) c y = four_or (is_used (Choose p (joined a) (joined b) c) y) (named (joined a) y) (named (joined b) y) (named c y)
node_named (BlockN b) c y = two_or (named (joined b) y) (named c y)
node_named (LoopN b) c y = two_or (named (joined b) y) (named c y)
node_named (LeaveN k) c y = refl
node_named (AgainN k) c y = refl
node_named (ReturnN p) c y = two_or (is_used (Return p c) y) (named c y)

or_swing : (x d old : Bool) → (x || (d || old)) ≡ ((x || d) || old)
or_swing true d old = refl
or_swing false d old = refl

-- a node more in a list
pub named_turn : (x : NodeT ℕ) (d all : NodesT ℕ) (y : ℕ) (new mid old : Bool) → all ≡ before x d → new ≡ (named (before x Stop) y || mid) → mid ≡ (named d y || old) → new ≡ (named all y || old)
named_turn x d all y new mid old e f g = f ∙ ap (λ z. named (before x Stop) y || z) g ∙ or_swing (named (before x Stop) y) (named d y) old ∙ ap (λ z. z || old) (sym (ap (λ z. named z y) e ∙ node_named x d y))

choose_or : (u a b old : Bool) → (u || (a || (b || old))) ≡ (((u || false) || (a || (b || false))) || old)
choose_or true a b old = refl
choose_or false true b old = refl
choose_or false false true old = refl
choose_or false false false old = refl

pub choose_named : (x : NodeT ℕ) (p : ℕ) (a b : ListT ℕ) (y : ℕ) (new mid first old : Bool) → x ≡ ChooseN p a b → new ≡ (eqb p y || mid) → mid ≡ (named (joined a) y || first) → first ≡ (named (joined b) y || old) → new ≡ (named (before x Stop) y || old)
choose_named x p a b y new mid first old e f g h = f ∙ ap (λ z. eqb p y || z) (g ∙ ap (λ z. named (joined a) y || z) h) ∙ choose_or (eqb p y) (named (joined a) y) (named (joined b) y) old ∙ ap (λ z. named (before z Stop) y || old) (sym e)

-- ---- what is named nowhere

none_three : (u t n : Bool) → ((u || t) || n) ≡ false → (u ≡ false) × (t ≡ false) × (n ≡ false)
none_three true t n h = absurd (false≢true (sym h))
none_three false true n h = absurd (false≢true (sym h))
none_three false false n h = (refl, refl, h)

none_two : (u n : Bool) → (u || n) ≡ false → (u ≡ false) × (n ≡ false)
none_two true n h = absurd (false≢true (sym h))
none_two false n h = (refl, h)

none_four : (u a b c : Bool) → (u || (a || (b || c))) ≡ false → (u ≡ false) × (a ≡ false) × (b ≡ false) × (c ≡ false)
none_four true a b c h = absurd (false≢true (sym h))
none_four false true b c h = absurd (false≢true (sym h))
none_four false false true c h = absurd (false≢true (sym h))
none_four false false false c h = (refl, refl, refl, h)

passed : (u t v s a b : Bool) → u ≡ false → t ≡ false → v ≡ false → s ≡ false → a ≡ b → live_before u t a ≡ live_before v s b
passed u t v s a b e f g h r = λ i. live_before ((e ∙ sym g) i) ((f ∙ sym h) i) (r i)

unnamed : (x z : ℕ) (ls : List Label) (c : NodesT ℕ) (j : Bool) → named c x ≡ false → named c z ≡ false → is_live x ls c j ≡ is_live z ls c j
unnamed x z ls Stop j h k = refl
unnamed x z ls (Do o c) j h k =
    let a = none_three (is_used (Do o c) x) (is_target (Do o c) x) (named c x) h in
    let b = none_three (is_used (Do o c) z) (is_target (Do o c) z) (named c z) k in
    passed _ _ _ _ _ _ a.0 a.1 b.0 b.1 (unnamed x z ls c j a.2 b.2)
unnamed x z ls (Call t f args c) j h k =
    let a = none_three (is_used (Call t f args c) x) (is_target (Call t f args c) x) (named c x) h in
    let b = none_three (is_used (Call t f args c) z) (is_target (Call t f args c) z) (named c z) k in
    passed _ _ _ _ _ _ a.0 a.1 b.0 b.1 (unnamed x z ls c j a.2 b.2)
unnamed x z ls (Choose p l m c) j h k =
    let a = none_four (is_used (Choose p l m c) x) (named l x) (named m x) (named c x) h in
    let b = none_four (is_used (Choose p l m c) z) (named l z) (named m z) (named c z) k in
    let r = unnamed x z ls c j a.3 b.3 in
    let one = unnamed x z ls l (is_live x ls c j) a.1 b.1 ∙ ap (is_live z ls l) r in
    let two = unnamed x z ls m (is_live x ls c j) a.2 b.2 ∙ ap (is_live z ls m) r in
    passed _ false _ false _ _ a.0 refl b.0 refl (ap (λ q. q || is_live x ls m (is_live x ls c j)) one ∙ ap (λ q. is_live z ls l (is_live z ls c j) || q) two)
unnamed x z ls (Block l c) j h k =
    let a = none_two (named l x) (named c x) h in
    let b = none_two (named l z) (named c z) k in
    unnamed x z (label false (is_live x ls c j) ∷ ls) l (is_live x ls c j) a.0 b.0 ∙ ap (λ q. is_live z (label false q ∷ ls) l q) (unnamed x z ls c j a.1 b.1)
unnamed x z ls (Loop l c) j h k =
    let a = none_two (named l x) (named c x) h in
    let b = none_two (named l z) (named c z) k in
    unnamed x z (label false (is_live x ls c j) ∷ ls) l (is_live x ls c j) a.0 b.0 ∙ ap (λ q. is_live z (label false q ∷ ls) l q) (unnamed x z ls c j a.1 b.1)
unnamed x z ls (Leave m c) j h k = refl
unnamed x z ls (Again m c) j h k = refl
unnamed x z ls (Return p c) j h k =
    let a = none_two (is_used (Return p c) x) (named c x) h in
    let b = none_two (is_used (Return p c) z) (named c z) k in
    a.0 ∙ sym b.0

-- ---- what is told of a loop

twice : (a : Bool) → a ≡ not (not a)
twice true = refl
twice false = refl

swap : (a b : Bool) → (a || b) ≡ (b || a)
swap true true = refl
swap true false = refl
swap false true = refl
swap false false = refl

-- n: it is named; g: it is gone; p: it passes
head_turn : (n k p g j u : Bool) → g ≡ (n && not k) → (n ≡ true → k ≡ p) → (n ≡ false → p ≡ true) → (u || (j && p)) ≡ ((j && not g) || u)
head_turn true k p g j u e f h = ap (λ z. u || (j && z)) (sym (f refl) ∙ twice k ∙ ap not (sym e)) ∙ swap u (j && not g)
head_turn false k p g j u e f h = ap (λ z. u || (j && z)) (h refl ∙ ap not (sym e)) ∙ swap u (j && not g)

-- as it was found: what it needs, with nothing behind; what passes, with what it names behind, and z
pub found_head : (w z : ℕ) (h : Known) (b : ListT ℕ) (passing : List ℕ) → h.inside ≡ list_loops b → ((y : ℕ) → y < 64 * w → on h.names y ≡ named (joined b) y) → Inside 1 (joined b) → on h.names z ≡ false → on passing z ≡ true → z < 64 * w → ((y : ℕ) → y < 64 * w → on h.needs y ≡ is_live y [] (Loop (joined b) Stop) false) → ((y : ℕ) → y < 64 * w → on passing y ≡ is_live y [] (Loop (joined b) Stop) (eqb z y || on h.names y)) → ((y : ℕ) → y < 64 * w → on h.gone y ≡ (on h.names y && not (on passing y))) → IsKnown w h b
found_head w z h b passing count names few taken passes l needs is gone = record {
  inside = count;
  names = names;
  told = λ y ls j m.
      let own : (eqb z z || on h.names z) ≡ true = ap (λ r. r || on h.names z) (eq-eqb z z refl) in
      let through : is_live z [] (Loop (joined b) Stop) true ≡ true = ap (is_live z [] (Loop (joined b) Stop)) (sym own) ∙ sym (is z l) ∙ passes in
      heads (joined b) few y ls j
      ∙ head_turn (on h.names y) (on passing y) (is_live y [] (Loop (joined b) Stop) true) (on h.gone y) j (is_live y [] (Loop (joined b) Stop) false) (gone y m) (λ n. is y m ∙ ap (is_live y [] (Loop (joined b) Stop)) (ap (λ r. eqb z y || r) n ∙ last (eqb z y))) (λ n. unnamed y z [] (Loop (joined b) Stop) true (plain (named (joined b) y) (sym (names y m) ∙ n)) (plain (named (joined b) z) (sym (names z l) ∙ taken)) ∙ through)
      ∙ ap (λ r. (j && not (on h.gone y)) || r) (sym (needs y m));
}
  where
    last : (a : Bool) → (a || true) ≡ true
    last true = refl
    last false = refl

    plain : (a : Bool) → a ≡ false → (a || false) ≡ false
    plain a e = ap (λ r. r || false) e

-- ---- the set became what is live at the head

pub passed_live : (w : ℕ) (h : Known) (b : ListT ℕ) (old mid new : List ℕ) → IsKnown w h b → length old ≡ w → length mid ≡ length old → ((y : ℕ) → y < 64 * length old → on mid y ≡ (on old y && not (on h.gone y))) → ((y : ℕ) → y < 64 * length mid → on new y ≡ (on mid y || on h.needs y)) → (y : ℕ) (ls : List Label) → y < 64 * length old → on new y ≡ is_live y ls (Loop (joined b) Stop) (on old y)
passed_live w h b old mid new is l m gone needs y ls i = needs y (omega (arith, i, m)) ∙ ap (λ z. z || on h.needs y) (gone y i) ∙ sym (is.told y ls (on old y) (omega (arith, i, l)))

pub named_loop : (w : ℕ) (h : Known) (b : ListT ℕ) (old new : List ℕ) → IsKnown w h b → length old ≡ w → ((y : ℕ) → y < 64 * length old → on new y ≡ (on old y || on h.names y)) → (y : ℕ) → y < 64 * length old → on new y ≡ (named (joined b) y || on old y)
named_loop w h b old new is l all y i = all y i ∙ ap (λ z. on old y || z) (is.names y (omega (arith, i, l))) ∙ swap (on old y) (named (joined b) y)

-- ---- what is told of the loops inside

module _ (w v k n : ℕ) (t : List Head) (x : NodeT ℕ) (told : NodeTold w t k x) (same : v ≡ w) where
  moved : (i : ℕ) (l : ListT ℕ) → n ≡ i → ListTold w t i l → ListTold v t n l
  moved i l e g = subst (λ z. ListTold z t n l) (sym same) (subst (λ z. ListTold w t z l) (sym e) g)

  pub told_second : (p : ℕ) (a b : ListT ℕ) → x ≡ ChooseN p a b → n ≡ k → ListTold v t n b
  told_second p a b e f = moved k b f (subst (NodeTold w t k) e told).0

  pub told_first : (p : ℕ) (a b : ListT ℕ) → x ≡ ChooseN p a b → n ≡ list_loops b + k → ListTold v t n a
  told_first p a b e f = moved (list_loops b + k) a f (subst (NodeTold w t k) e told).1

  pub told_block : (b : ListT ℕ) → x ≡ BlockN b → n ≡ k → ListTold v t n b
  told_block b e f = moved k b f (subst (NodeTold w t k) e told)

  pub told_loop : (b : ListT ℕ) → x ≡ LoopN b → n ≡ suc k → ListTold v t n b
  told_loop b e f = moved (suc k) b f (subst (NodeTold w t k) e told).2

pub told_whole : (w v k n : ℕ) (t : List Head) (x : NodeT ℕ) (b : ListT ℕ) → NodeTold w t k x → v ≡ w → n ≡ k → x ≡ LoopN b → NodeTold v t n (LoopN b)
told_whole w v k n t x b told same e f = subst (λ z. NodeTold z t n (LoopN b)) (sym same) (subst (λ z. NodeTold w t z (LoopN b)) (sym e) (subst (NodeTold w t k) f told))

-- of each part of a node
pub ruleset told_inside = (told_second, told_first, told_block, told_loop, told_whole)
