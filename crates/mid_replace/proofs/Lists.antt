-- Nodes and those that stand for them are alike.
use Rattle.std.proofs.Common.{◌≡◌, ℕ, zero, suc, ◌<◌, Bool, true, false, ◌&&◌, cond, eqb, ltb, List, [], ◌∷◌, ◌++◌, take, length, Option, Some, None, refl, sym, ap, ◌∙◌, subst, arith}
use Rattle.std.proofs.lemmas.Bool.{eqb-true, eq-eqb}
use Rattle.mid_code.specs.declared.node.Op.{Op}
use Rattle.mid_code.specs.declared.node.Op.TheVariants as op
use Rattle.mid_code.specs.Code.{OpT, ConstO, NullO, MoveO, OneO, TwoO, GlobalO, LocalO, LiteralO, CardO, StepO, ApartO, PtrTestO, LoadO, StoreO, FreshO, EndO, InO, OutO, WaitO, HaltO}
use Rattle.mid_code.specs.Code.{NodesT, Stop, Do, Choose, Block, Loop, Leave, Again, Return, CodeT, maybe}
use Rattle.mid_code.specs.Functions.{NodeT, DoN, ChooseN, BlockN, LoopN, LeaveN, AgainN, ReturnN, ListT, NoN, MoreN, listed, joined, before, op_before}
use Rattle.mid_code.specs.States.{temporaries, over_worlds, sizes_of}
use Rattle.mid_code.specs.Invariants.{IsOp, AreNodes, IsLoop, Names, NodeNames}
use Rattle.mid_code.specs.inner.Passing.{doing, Pass, Points, end_at, begin_at, Like}
use Rattle.mid_scalars.specs.inner.Named.{count_of}
use Rattle.mid_replace.specs.inner.Facts.{Fact, Plain, Word, Place, Any, Note, note, Plan, fact_at, Weaker, IsPlain, step_fact, with_target, facts_behind, Follows, if_plain, by_place, replaced_op, IsAccess, IsStep, IsFine}
use Rattle.mid_replace.specs.inner.Replaced.{is_plain, are_plain, is_maybe_plain, is_open, may_note, is_access, is_step, notes_kept, noted, Turn, unless_hidden, or_move, turn_of, may_be_made, may_stand, noted_maybe, some_node, turns_once, asks_by, prepended, if_some, when, loop_by, replaced}
use Rattle.mid_replace.specs.inner.Held.{AllPlain, replacing}
use Rattle.mid_replace.proofs.Spare.{weaker_same}

-- ---- tests

true_false : true ≡ false → ⊥
true_false e = cc

and_left : (a b : Bool) → (a && b) ≡ true → a ≡ true
and_left true b e = refl
and_left false b e = absurd (true_false (sym e))

and_right : (a b : Bool) → (a && b) ≡ true → b ≡ true
and_right true b e = e
and_right false b e = absurd (true_false (sym e))

plain_true : (u : Fact) → is_plain u ≡ true → IsPlain u
plain_true Plain e = tt
plain_true (Word n) e = tt
plain_true (Place k w) e = absurd (true_false (sym e))
plain_true Any e = absurd (true_false (sym e))

all_plain : (i : ℕ → Fact) (qs : List ℕ) → are_plain i qs ≡ true → AllPlain i qs
all_plain i [] e = tt
all_plain i (q ∷ qs) e = (plain_true (i q) (and_left (is_plain (i q)) (are_plain i qs) e), all_plain i qs (and_right (is_plain (i q)) (are_plain i qs) e))

maybe_plain : (i : ℕ → Fact) (p : Option ℕ) → is_maybe_plain i p ≡ true → AllPlain i (maybe p)
maybe_plain i None e = tt
maybe_plain i (Some p) e = (plain_true (i p) e, tt)

access_true : (P : Plan) (u : Fact) → is_access P u ≡ true → IsAccess P u
access_true P Plain e = tt
access_true P (Word n) e = tt
access_true P (Place k w) e = (and_left (P.held k) (ltb w (P.size k)) e, grind (arith, and_right (P.held k) (ltb w (P.size k)) e))
access_true P Any e = absurd (true_false (sym e))

step_true : (u v : Fact) → is_step u v ≡ true → IsStep u v
step_true Plain v e = plain_true v e
step_true (Word m) v e = plain_true v e
step_true (Place k w) v e = tt
step_true Any v e = tt

open_true : (b u : Fact) → is_open b ≡ true → Weaker u b
open_true Any u e = tt
open_true Plain u e = absurd (true_false (sym e))
open_true (Word n) u e = absurd (true_false (sym e))
open_true (Place k w) u e = absurd (true_false (sym e))

-- what a base tells is that a temporary is plain, or nothing
note_true : (b u : Fact) → Weaker Plain b → may_note b u ≡ true → Weaker u b
note_true b Plain h e = h
note_true Any (Word n) h e = tt
note_true Plain (Word n) h e = tt
note_true (Word m) (Word n) h e = absurd h
note_true (Place k w) (Word n) h e = absurd h
note_true b (Place k w) h e = open_true b (Place k w) e
note_true b Any h e = open_true b Any e

-- ---- notes

abbrev pub AllOpen : (ℕ → Fact) → List Note → Type 0
AllOpen b [] = Unit {0}
AllOpen b (x ∷ xs) = Weaker x.fact (b x.temp) × AllOpen b xs

pub below : (b : ℕ → Fact) (ns : List Note) → AllOpen b ns → Follows (fact_at b ns) b
below b [] h q = weaker_same (b q)
below b (x ∷ xs) h q = go (below b xs h.1 q) (eqb q x.temp) refl
  where
    go : Weaker (fact_at b xs q) (b q) → (c : Bool) → eqb q x.temp ≡ c → Weaker (cond c x.fact (fact_at b xs q)) (b q)
    go r true e = subst (λ w. Weaker x.fact (b w)) (sym (eqb-true q x.temp e)) h.0
    go r false e = r

open_take : (b : ℕ → Fact) (n : ℕ) (ns : List Note) → AllOpen b ns → AllOpen b (take n ns)
open_take b zero ns h = tt
open_take b (suc n) [] h = tt
open_take b (suc n) (x ∷ xs) h = (h.0, open_take b n xs h.1)

taken : (b : ℕ → Fact) (n : ℕ) (ns : List Note) → AllOpen b ns → Follows (fact_at b ns) (fact_at b (take n ns))
taken b zero ns h q = below b ns h q
taken b (suc n) [] h q = weaker_same (b q)
taken b (suc n) (x ∷ xs) h q = go (taken b n xs h.1 q) (eqb q x.temp)
  where
    go : Weaker (fact_at b xs q) (fact_at b (take n xs) q) → (c : Bool) → Weaker (cond c x.fact (fact_at b xs q)) (cond c x.fact (fact_at b (take n xs) q))
    go r true = weaker_same x.fact
    go r false = r

weaker_through : (a b c : Fact) → Weaker a b → Weaker b c → Weaker a c
weaker_through a b Any h g = tt
weaker_through Plain Plain Plain h g = tt
weaker_through (Word n) Plain Plain h g = tt
weaker_through (Place k w) Plain Plain h g = absurd h
weaker_through Any Plain Plain h g = absurd h
weaker_through Plain (Word m) Plain h g = absurd h
weaker_through (Word n) (Word m) Plain h g = tt
weaker_through (Place k w) (Word m) Plain h g = absurd h
weaker_through Any (Word m) Plain h g = absurd h
weaker_through a (Place k w) Plain h g = absurd g
weaker_through a Any Plain h g = absurd g
weaker_through a Plain (Word r) h g = absurd g
weaker_through Plain (Word m) (Word r) h g = absurd h
weaker_through (Word n) (Word m) (Word r) h g = h ∙ g
weaker_through (Place k w) (Word m) (Word r) h g = absurd h
weaker_through Any (Word m) (Word r) h g = absurd h
weaker_through a (Place k w) (Word r) h g = absurd g
weaker_through a Any (Word r) h g = absurd g
weaker_through a Plain (Place j v) h g = absurd g
weaker_through a (Word m) (Place j v) h g = absurd g
weaker_through Plain (Place k w) (Place j v) h g = absurd h
weaker_through (Word n) (Place k w) (Place j v) h g = absurd h
weaker_through (Place l u) (Place k w) (Place j v) h g = (h.0 ∙ g.0, h.1 ∙ g.1)
weaker_through Any (Place k w) (Place j v) h g = absurd h
weaker_through a Any (Place j v) h g = absurd g

-- ---- what stands for an operation

-- an operation that is no call, as plain code
abbrev by_note : Option Note → (ℕ → Fact) → ℕ → Fact
by_note None i q = i q
by_note (Some m) i q = cond (eqb q m.temp) m.fact (i q)

record Stands (P : Plan) (x : CodeT ℕ) (m : ℕ) (i : ℕ → Fact) (o : Op ℕ) : Type 0 where
  plain : OpT ℕ
  is : (c : NodesT ℕ) → op_before o c ≡ Do plain c
  done : (out : List (NodeT ℕ)) → joined (listed (some_node (turn_of P i o).stands ++ out)) ≡ doing (replaced_op P i plain) (joined (listed out))
  facts : facts_behind P i plain ≡ by_note (turn_of P i o).made i
  fine : (turn_of P i o).fine ≡ true → IsOp x m plain → IsFine P (length x.globals) (length x.literals) m i plain

module _ (P : Plan) (x : CodeT ℕ) (m : ℕ) (i : ℕ → Fact) where
  hidden : (u : Fact) (o : Op ℕ) (p : OpT ℕ) (out : List (NodeT ℕ)) → ((c : NodesT ℕ) → op_before o c ≡ Do p c) → joined (listed (some_node (unless_hidden u o) ++ out)) ≡ doing (if_plain u p) (joined (listed out))
  hidden Plain o p out e = e (joined (listed out))
  hidden (Word n) o p out e = e (joined (listed out))
  hidden (Place k w) o p out e = refl
  hidden Any o p out e = refl

  locals : (b : Bool) (t k : ℕ) (out : List (NodeT ℕ)) → joined (listed (some_node (cond b None (Some (op.Local t k))) ++ out)) ≡ doing (cond b [] (LocalO t k ∷ [])) (joined (listed out))
  locals true t k out = refl
  locals false t k out = refl

  loads : (u : Fact) (t p : ℕ) (out : List (NodeT ℕ)) → joined (listed (DoN (or_move u (op.Load t p) (λ k w. op.Move t (P.variable k w))) ∷ out)) ≡ doing (by_place u (LoadO t p ∷ []) (λ k w. MoveO t (P.variable k w) ∷ [])) (joined (listed out))
  loads Plain t p out = refl
  loads (Word n) t p out = refl
  loads (Place k w) t p out = refl
  loads Any t p out = refl

  stores : (u : Fact) (p a : ℕ) (out : List (NodeT ℕ)) → joined (listed (DoN (or_move u (op.Store p a) (λ k w. op.Move (P.variable k w) a)) ∷ out)) ≡ doing (by_place u (StoreO p a ∷ []) (λ k w. MoveO (P.variable k w) a ∷ [])) (joined (listed out))
  stores Plain p a out = refl
  stores (Word n) p a out = refl
  stores (Place k w) p a out = refl
  stores Any p a out = refl

  two_plain : (a b : ℕ) → (is_plain (i a) && is_plain (i b)) ≡ true → IsPlain (i a) × IsPlain (i b)
  two_plain a b e = (plain_true (i a) (and_left (is_plain (i a)) (is_plain (i b)) e), plain_true (i b) (and_right (is_plain (i a)) (is_plain (i b)) e))

module _ (X : Option ℕ → Plan) (x y : CodeT ℕ) (frames : List ℕ) (f : Option ℕ) (plain_base : (q : ℕ) → Weaker Plain ((X f).base q)) where
  abbrev P : Plan
  P = X f

  abbrev base : ℕ → Fact
  base = P.base

  abbrev m : ℕ
  m = count_of (sizes_of x frames) f

  abbrev PP : Pass (over_worlds temporaries x frames) (over_worlds temporaries y frames)
  PP = replacing X x y frames

  abbrev L : List (Points (ℕ → Fact)) → (ℕ → Fact) → NodesT ℕ → NodesT ℕ → Type 0
  L ls i c d = Like PP f ls i c d base

  abbrev Named : ℕ → Type 0
  Named q = q < P.temps

  -- at the end of a list, and where a block begins, nothing is noted
  abbrev node_start : NodeT ℕ → List Note → ℕ → Fact
  node_start (DoN o) ns = fact_at base ns
  node_start (ChooseN p a b) ns = fact_at base ns
  node_start (BlockN b) ns = base
  node_start (LoopN b) ns = fact_at base ns
  node_start (LeaveN k) ns = fact_at base ns
  node_start (AgainN k) ns = fact_at base ns
  node_start (ReturnN p) ns = fact_at base ns

  abbrev start : ListT ℕ → List Note → ℕ → Fact
  start NoN ns = base
  start (MoreN n rest) ns = node_start n ns

  node_none : (n : NodeT ℕ) → node_start n [] ≡ base
  node_none (DoN o) = refl
  node_none (ChooseN p a b) = refl
  node_none (BlockN b) = refl
  node_none (LoopN b) = refl
  node_none (LeaveN k) = refl
  node_none (AgainN k) = refl
  node_none (ReturnN p) = refl

  start_none : (l : ListT ℕ) → start l [] ≡ base
  start_none NoN = refl
  start_none (MoreN n rest) = node_none n

  follows_node : (n : NodeT ℕ) (ns : List Note) (i : ℕ → Fact) → AllOpen base ns → Follows i (fact_at base ns) → Follows i (node_start n ns)
  follows_node (DoN o) ns i h g q = g q
  follows_node (ChooseN p a b) ns i h g q = g q
  follows_node (BlockN b) ns i h g q = weaker_through (i q) (fact_at base ns q) (base q) (g q) (below base ns h q)
  follows_node (LoopN b) ns i h g q = g q
  follows_node (LeaveN k) ns i h g q = g q
  follows_node (AgainN k) ns i h g q = g q
  follows_node (ReturnN p) ns i h g q = g q

  follows_start : (l : ListT ℕ) (ns : List Note) (i : ℕ → Fact) → AllOpen base ns → Follows i (fact_at base ns) → Follows i (start l ns)
  follows_start NoN ns i h g q = weaker_through (i q) (fact_at base ns q) (base q) (g q) (below base ns h q)
  follows_start (MoreN n rest) ns i h g q = follows_node n ns i h g q

  abbrev AllBase : List (Points (ℕ → Fact)) → Type 0
  AllBase [] = Unit {0}
  AllBase (l ∷ ls) = (l.begins ≡ base) × (l.ends ≡ base) × AllBase ls

  ends_base : (ls : List (Points (ℕ → Fact))) (k : ℕ) → AllBase ls → k < length ls → end_at ls k base
  ends_base [] k h lt = absurd (omega (arith, lt))
  ends_base (l ∷ ls) zero h lt = sym h.1
  ends_base (l ∷ ls) (suc k) h lt = ends_base ls k h.2 (omega (arith, lt))

  begins_base : (ls : List (Points (ℕ → Fact))) (k : ℕ) → AllBase ls → k < length ls → begin_at ls k base
  begins_base [] k h lt = absurd (omega (arith, lt))
  begins_base (l ∷ ls) zero h lt = sym h.0
  begins_base (l ∷ ls) (suc k) h lt = begins_base ls k h.2 (omega (arith, lt))

  loop_in : (bs : List Bool) (k : ℕ) → IsLoop bs k → k < length bs
  loop_in [] k h = absurd h
  loop_in (b ∷ bs) zero h = omega arith
  loop_in (b ∷ bs) (suc k) h = let r = loop_in bs k h in omega (arith, r)

  -- ---- notes behind an operation

  noted_open : (made : Option Note) (ns : List Note) → AllOpen base ns → may_be_made P made ≡ true → AllOpen base (noted_maybe made ns)
  noted_open None ns h e = h
  noted_open (Some u) ns h e = open_take base notes_kept (u ∷ ns) (note_true (base u.temp) u.fact (plain_base u.temp) e, h)

  noted_follows : (made : Option Note) (ns : List Note) → AllOpen base ns → may_be_made P made ≡ true → Follows (by_note made (fact_at base ns)) (fact_at base (noted_maybe made ns))
  noted_follows None ns h e q = weaker_same (fact_at base ns q)
  noted_follows (Some u) ns h e q = taken base notes_kept (u ∷ ns) (note_true (base u.temp) u.fact (plain_base u.temp) e, h) q

  by_plain : (ls : List (Points (ℕ → Fact))) (ns : List Note) (o : Op ℕ) (s : Stands P x m (fact_at base ns) o) (rest : ListT ℕ) (out : List (NodeT ℕ)) → AllOpen base ns → may_stand P (turn_of P (fact_at base ns) o) ≡ true
      → IsOp x m s.plain → NodeNames Named (Do s.plain (joined rest))
      → L ls (start rest (noted_maybe (turn_of P (fact_at base ns) o).made ns)) (joined rest) (joined (listed out))
      → L ls (fact_at base ns) (op_before o (joined rest)) (joined (listed (some_node (turn_of P (fact_at base ns) o).stands ++ out)))
  by_plain ls ns o s rest out h e is names k =
      let i : ℕ → Fact = fact_at base ns in
      let u : Turn = turn_of P i o in
      let made = and_right u.fine (may_be_made P u.made) e in
      let next = noted_maybe u.made ns in
      let fits = noted_open u.made ns h made in
      let g : Follows (facts_behind P i s.plain) (start rest next) = subst (λ w. Follows w (start rest next)) (sym s.facts) (follows_start rest next (by_note u.made i) fits (noted_follows u.made ns h made)) in
      subst (λ c. L ls i c (joined (listed (some_node u.stands ++ out)))) (sym (s.is (joined rest))) (subst (λ d. L ls i (Do s.plain (joined rest)) d) (sym (s.done out))
      (replaced_op P i s.plain, joined (listed out), start rest next, refl, (refl, s.fine (and_left u.fine (may_be_made P u.made) e) is, names.0, names.1, g), k))

  -- ---- lists that are made

  when_some : {A : Type 0} (b : Bool) (a : Option A) (r : A) → when b a ≡ Some r → (b ≡ true) × (a ≡ Some r)
  when_some true a r e = (refl, e)
  when_some false a r e = absurd (cc)

  prepended_some : (a : List (NodeT ℕ)) (b : Option (List (NodeT ℕ))) (r : List (NodeT ℕ)) → prepended a b ≡ Some r → (s : List (NodeT ℕ)) × (b ≡ Some s) × (r ≡ a ++ s)
  prepended_some a None r e = absurd (cc)
  prepended_some a (Some s) r e = (s, refl, same (a ++ s) r e)
    where
      same : (p q : List (NodeT ℕ)) → Some p ≡ Some q → q ≡ p
      same p q f = cc

  if_some_some : {A B : Type 0} (a : Option A) (go : A → Option B) (r : B) → if_some a go ≡ Some r → (s : A) × (a ≡ Some s) × (go s ≡ Some r)
  if_some_some None go r e = absurd (cc)
  if_some_some (Some s) go r e = (s, refl, e)

  -- ---- a loop that only asks

  record Asks (b : ListT ℕ) (t : ℕ) : Type 0 where
    flag : ℕ
    is : joined b ≡ Choose t (Do (ConstO flag 0) (Again 0 Stop)) Stop Stop
    same : flag ≡ t

  once : (a : ListT ℕ) (t : ℕ) → turns_once a t ≡ true → (u : ℕ) × (joined a ≡ Do (ConstO u 0) (Again 0 Stop)) × (u ≡ t)
  once (MoreN (DoN (op.Const u zero)) (MoreN (AgainN zero) NoN)) t e = (u, refl, eqb-true u t e)
  once _ t e = absurd (true_false (sym e))

  asks : (b : ListT ℕ) (t : ℕ) → asks_by b ≡ Some t → Asks b t
  asks (MoreN (ChooseN p a NoN) NoN) t e = go (turns_once a p) refl e
    where
      same : (q : ℕ) → Some p ≡ Some q → p ≡ q
      same q h = cc

      none : (q : ℕ) → None ≡ Some q → ⊥
      none q h = cc

      go : (c : Bool) → turns_once a p ≡ c → cond c (Some p) None ≡ Some t → Asks (MoreN (ChooseN p a NoN) NoN) t
      go true h g = let o = once a p h in let s = same t g in record { flag = o.0; is = ap (λ c. Choose p c Stop Stop) o.1 ∙ ap (λ q. Choose q (Do (ConstO o.0 0) (Again 0 Stop)) Stop Stop) s; same = o.2 ∙ s }
      go false h g = absurd (none t g)
  asks _ t e = absurd (cc)

  -- what is known where a turn begins: that the temporary is plain
  abbrev turning : ℕ → List Note → ℕ → Fact
  turning t ns = fact_at base (noted t Plain ns)

  turning_open : (t : ℕ) (ns : List Note) → AllOpen base ns → AllOpen base (noted t Plain ns)
  turning_open t ns h = open_take base notes_kept (note t Plain ∷ ns) (plain_base t, h)

  turning_plain : (t : ℕ) (ns : List Note) → turning t ns t ≡ Plain
  turning_plain t ns = ap (λ c. cond c Plain (fact_at base (take 31 ns) t)) (eq-eqb t t refl)

  turning_follows : (t : ℕ) (ns : List Note) → AllOpen base ns → IsPlain (fact_at base ns t) → Follows (fact_at base ns) (turning t ns)
  turning_follows t ns h p q = weaker_through (fact_at base ns q) (fact_at base (note t Plain ∷ ns) q) (turning t ns q) (go (eqb q t) refl) (taken base notes_kept (note t Plain ∷ ns) (plain_base t, h) q)
    where
      plain : (u : Fact) → IsPlain u → Weaker u Plain
      plain Plain g = tt
      plain (Word n) g = tt
      plain (Place k w) g = absurd g
      plain Any g = absurd g

      go : (c : Bool) → eqb q t ≡ c → Weaker (fact_at base ns q) (cond c Plain (fact_at base ns q))
      go true e = plain (fact_at base ns q) (subst (λ w. IsPlain (fact_at base ns w)) (sym (eqb-true q t e)) p)
      go false e = weaker_same (fact_at base ns q)

  -- the word 0 comes to the temporary
  zero_follows : (t u : ℕ) (ns : List Note) → u ≡ t → Follows (with_target (Some u) (Word 0) (turning t ns)) (turning t ns)
  zero_follows t u ns e q = go (eqb q u) refl
    where
      go : (c : Bool) → eqb q u ≡ c → Weaker (cond c (Word 0) (turning t ns q)) (turning t ns q)
      go true h = subst (λ v. Weaker (Word 0) v) (sym (ap (turning t ns) (eqb-true q u h ∙ e) ∙ turning_plain t ns)) tt
      go false h = weaker_same (turning t ns q)

  asking : (ls : List (Points (ℕ → Fact))) (t u : ℕ) (ns : List Note) (k : ℕ → Fact) → u ≡ t → t < P.temps → u < P.temps → Follows (turning t ns) k
      → Like PP f (record { begins = turning t ns; ends = k } ∷ ls) (turning t ns) (Choose t (Do (ConstO u 0) (Again 0 Stop)) Stop Stop) (Choose t (Do (ConstO u 0) (Again 0 Stop)) Stop Stop) k
  asking ls t u ns k e lt lu g =
      let h : ℕ → Fact = turning t ns in
      let h1 : ℕ → Fact = with_target (Some u) (Word 0) h in (
        t,
        Do (ConstO u 0) (Again 0 Stop),
        Stop,
        Stop,
        k,
        refl,
        (refl, subst IsPlain (sym (turning_plain t ns)) tt, lt),
        h,
        k,
        (λ q. weaker_same (h q)),
        g,
        (ConstO u 0 ∷ [], Again 0 Stop, h1, refl, (refl, tt, tt, (lu, tt), λ q. weaker_same (h1 q)), (Stop, h, refl, refl, zero_follows t u ns e)),
        (refl, refl),
        (refl, refl),
      )

  -- ---- lists

  op_like : (ls : List (Points (ℕ → Fact))) (bs : List Bool) (ns : List Note) (o : Op ℕ) (rest : ListT ℕ) (out : List (NodeT ℕ)) → AllOpen base ns → may_stand P (turn_of P (fact_at base ns) o) ≡ true
      → AreNodes x m bs (op_before o (joined rest)) → Names Named (op_before o (joined rest))
      → (AreNodes x m bs (joined rest) → Names Named (joined rest) → L ls (start rest (noted_maybe (turn_of P (fact_at base ns) o).made ns)) (joined rest) (joined (listed out)))
      → L ls (fact_at base ns) (op_before o (joined rest)) (joined (listed (some_node (turn_of P (fact_at base ns) o).stands ++ out)))
  op_like ls bs ns (op.Const t n) rest out h e a b k = by_plain ls ns (op.Const t n) (record { plain = ConstO t n; is = λ c. refl; done = λ c. refl; facts = refl; fine = λ p q. tt }) rest out h e a.0 b.0 (k a.1 b.1)
  op_like ls bs ns (op.Null t) rest out h e a b k = by_plain ls ns (op.Null t) (record { plain = NullO t; is = λ c. refl; done = λ c. refl; facts = refl; fine = λ p q. tt }) rest out h e a.0 b.0 (k a.1 b.1)
  op_like ls bs ns (op.Move t v) rest out h e a b k = by_plain ls ns (op.Move t v) (record { plain = MoveO t v; is = λ c. refl; done = λ c. hidden P x m (fact_at base ns) (fact_at base ns v) (op.Move t v) (MoveO t v) c (λ d. refl); facts = refl; fine = λ p q. tt }) rest out h e a.0 b.0 (k a.1 b.1)
  op_like ls bs ns (op.One o t v) rest out h e a b k = by_plain ls ns (op.One o t v) (record { plain = OneO o t v; is = λ c. refl; done = λ c. refl; facts = refl; fine = λ p q. plain_true (fact_at base ns v) p }) rest out h e a.0 b.0 (k a.1 b.1)
  op_like ls bs ns (op.Two o t v w) rest out h e a b k = by_plain ls ns (op.Two o t v w) (record { plain = TwoO o t v w; is = λ c. refl; done = λ c. refl; facts = refl; fine = λ p q. two_plain P x m (fact_at base ns) v w p }) rest out h e a.0 b.0 (k a.1 b.1)
  op_like ls bs ns (op.Global t n) rest out h e a b k = by_plain ls ns (op.Global t n) (record { plain = GlobalO t n; is = λ c. refl; done = λ c. refl; facts = refl; fine = λ p q. q }) rest out h e a.0 b.0 (k a.1 b.1)
  op_like ls bs ns (op.Local t n) rest out h e a b k = by_plain ls ns (op.Local t n) (record { plain = LocalO t n; is = λ c. refl; done = λ c. locals P x m (fact_at base ns) (P.held n) t n c; facts = refl; fine = λ p q. q }) rest out h e a.0 b.0 (k a.1 b.1)
  op_like ls bs ns (op.Literal t n) rest out h e a b k = by_plain ls ns (op.Literal t n) (record { plain = LiteralO t n; is = λ c. refl; done = λ c. refl; facts = refl; fine = λ p q. q }) rest out h e a.0 b.0 (k a.1 b.1)
  op_like ls bs ns (op.Card t) rest out h e a b k = by_plain ls ns (op.Card t) (record { plain = CardO t; is = λ c. refl; done = λ c. refl; facts = refl; fine = λ p q. tt }) rest out h e a.0 b.0 (k a.1 b.1)
  op_like ls bs ns (op.Step t v w) rest out h e a b k = by_plain ls ns (op.Step t v w) (record { plain = StepO t v w; is = λ c. refl; done = λ c. hidden P x m (fact_at base ns) (step_fact (fact_at base ns v) (fact_at base ns w)) (op.Step t v w) (StepO t v w) c (λ d. refl); facts = refl; fine = λ p q. step_true (fact_at base ns v) (fact_at base ns w) p }) rest out h e a.0 b.0 (k a.1 b.1)
  op_like ls bs ns (op.Apart t v w) rest out h e a b k = by_plain ls ns (op.Apart t v w) (record { plain = ApartO t v w; is = λ c. refl; done = λ c. refl; facts = refl; fine = λ p q. two_plain P x m (fact_at base ns) v w p }) rest out h e a.0 b.0 (k a.1 b.1)
  op_like ls bs ns (op.PtrTest o t v w) rest out h e a b k = by_plain ls ns (op.PtrTest o t v w) (record { plain = PtrTestO o t v w; is = λ c. refl; done = λ c. refl; facts = refl; fine = λ p q. two_plain P x m (fact_at base ns) v w p }) rest out h e a.0 b.0 (k a.1 b.1)
  op_like ls bs ns (op.Load t v) rest out h e a b k = by_plain ls ns (op.Load t v) (record { plain = LoadO t v; is = λ c. refl; done = λ c. loads P x m (fact_at base ns) (fact_at base ns v) t v c; facts = refl; fine = λ p q. access_true P (fact_at base ns v) p }) rest out h e a.0 b.0 (k a.1 b.1)
  op_like ls bs ns (op.Store v w) rest out h e a b k = by_plain ls ns (op.Store v w) (record { plain = StoreO v w; is = λ c. refl; done = λ c. stores P x m (fact_at base ns) (fact_at base ns v) v w c; facts = refl; fine = λ p q. (access_true P (fact_at base ns v) (and_left (is_access P (fact_at base ns v)) (is_plain (fact_at base ns w)) p), plain_true (fact_at base ns w) (and_right (is_access P (fact_at base ns v)) (is_plain (fact_at base ns w)) p)) }) rest out h e a.0 b.0 (k a.1 b.1)
  op_like ls bs ns (op.Fresh n) rest out h e a b k = by_plain ls ns (op.Fresh n) (record { plain = FreshO n; is = λ c. refl; done = λ c. refl; facts = refl; fine = λ p q. q }) rest out h e a.0 b.0 (k a.1 b.1)
  op_like ls bs ns (op.End n) rest out h e a b k = by_plain ls ns (op.End n) (record { plain = EndO n; is = λ c. refl; done = λ c. refl; facts = refl; fine = λ p q. q }) rest out h e a.0 b.0 (k a.1 b.1)
  op_like ls bs ns (op.In t port) rest out h e a b k = by_plain ls ns (op.In t port) (record { plain = InO t port; is = λ c. refl; done = λ c. refl; facts = refl; fine = λ p q. tt }) rest out h e a.0 b.0 (k a.1 b.1)
  op_like ls bs ns (op.Out port v) rest out h e a b k = by_plain ls ns (op.Out port v) (record { plain = OutO port v; is = λ c. refl; done = λ c. refl; facts = refl; fine = λ p q. plain_true (fact_at base ns v) p }) rest out h e a.0 b.0 (k a.1 b.1)
  op_like ls bs ns op.Wait rest out h e a b k = by_plain ls ns op.Wait (record { plain = WaitO; is = λ c. refl; done = λ c. refl; facts = refl; fine = λ p q. tt }) rest out h e a.0 b.0 (k a.1 b.1)
  op_like ls bs ns op.Halt rest out h e a b k = by_plain ls ns op.Halt (record { plain = HaltO; is = λ c. refl; done = λ c. refl; facts = refl; fine = λ p q. tt }) rest out h e a.0 b.0 (k a.1 b.1)
  op_like ls bs ns (op.Call None g args) rest out h e a b k =
      (None, args, joined (listed out), start rest ns, refl, refl, (refl, refl, all_plain (fact_at base ns) args (and_left (are_plain (fact_at base ns) args) true e), b.0.0, tt, follows_start rest ns (fact_at base ns) h (λ q. weaker_same (fact_at base ns q))), k a.1 b.1)
  op_like ls bs ns (op.Call (Some t) g args) rest out h e a b k =
      let made : may_be_made P (Some (note t Plain)) ≡ true = and_right (are_plain (fact_at base ns) args) (may_be_made P (Some (note t Plain))) e in
      (Some t, args, joined (listed out), start rest (noted t Plain ns), refl, refl, (refl, refl, all_plain (fact_at base ns) args (and_left (are_plain (fact_at base ns) args) (may_be_made P (Some (note t Plain))) e), b.0.0, b.0.1, follows_start rest (noted t Plain ns) (with_target (Some t) Plain (fact_at base ns)) (noted_open (Some (note t Plain)) ns h made) (noted_follows (Some (note t Plain)) ns h made)), k a.1 b.1)

  is_op : (ns : List Note) (o : Op ℕ) (rest : ListT ℕ) (out : List (NodeT ℕ)) → replaced P ns (MoreN (DoN o) rest) ≡ Some out
      → (may_stand P (turn_of P (fact_at base ns) o) ≡ true) × (s : List (NodeT ℕ)) × (replaced P (noted_maybe (turn_of P (fact_at base ns) o).made ns) rest ≡ Some s) × (out ≡ some_node (turn_of P (fact_at base ns) o).stands ++ s)
  is_op ns o rest out e =
      let a = when_some (may_stand P (turn_of P (fact_at base ns) o)) (prepended (some_node (turn_of P (fact_at base ns) o).stands) (replaced P (noted_maybe (turn_of P (fact_at base ns) o).made ns) rest)) out e in
      let b = prepended_some (some_node (turn_of P (fact_at base ns) o).stands) (replaced P (noted_maybe (turn_of P (fact_at base ns) o).made ns) rest) out a.1 in
      (a.0, b.0, b.1, b.2)

  may_open : (ns : List Note) (u : Turn) → AllOpen base ns → may_stand P u ≡ true → AllOpen base (noted_maybe u.made ns)
  may_open ns u h e = noted_open u.made ns h (and_right u.fine (may_be_made P u.made) e)

  abbrev Alike : List Bool → ListT ℕ → Type 0
  Alike bs l = (ls : List (Points (ℕ → Fact))) → AllBase ls → length ls ≡ length bs → (ns : List Note) (i : ℕ → Fact) (out : List (NodeT ℕ)) → AllOpen base ns → i ≡ start l ns → AreNodes x m bs (joined l) → Names Named (joined l) → replaced P ns l ≡ Some out → L ls i (joined l) (joined (listed out))

  -- behind a node at which nodes come together
  abbrev Behind : List Bool → List (Points (ℕ → Fact)) → ListT ℕ → Type 0
  Behind bs ls rest = (ms : List Note) → AllOpen base ms → AreNodes x m bs (joined rest) → Names Named (joined rest) → (s : List (NodeT ℕ)) → replaced P ms rest ≡ Some s → L ls (start rest ms) (joined rest) (joined (listed s))

  behind : (bs : List Bool) (ls : List (Points (ℕ → Fact))) (rest : ListT ℕ) → Behind bs ls rest → AreNodes x m bs (joined rest) → Names Named (joined rest) → (s : List (NodeT ℕ)) → replaced P [] rest ≡ Some s → L ls base (joined rest) (joined (listed s))
  behind bs ls rest go a b s e = subst (λ i. L ls i (joined rest) (joined (listed s))) (start_none rest) (go [] tt a b s e)

  abbrev within : List (Points (ℕ → Fact)) → List (Points (ℕ → Fact))
  within ls = record { begins = base; ends = base } ∷ ls

  loop_like : (u rest : ListT ℕ) (bs : List Bool) (ls : List (Points (ℕ → Fact))) (ns : List Note) (out : List (NodeT ℕ)) → AllOpen base ns → AreNodes x m bs (Loop (joined u) (joined rest)) → Names Named (Loop (joined u) (joined rest)) → (o : Option ℕ) → asks_by u ≡ o
      → loop_by (fact_at base ns) ns u o (replaced P [] u) (λ ms. replaced P ms rest) ≡ Some out
      → ((c : List (NodeT ℕ)) → replaced P [] u ≡ Some c → L (within ls) base (joined u) (joined (listed c))) → Behind bs ls rest → L ls (fact_at base ns) (Loop (joined u) (joined rest)) (joined (listed out))
  loop_like u rest bs ls ns out h a b None o e inner go =
      let c = if_some_some (replaced P [] u) (λ c. prepended (LoopN (listed c) ∷ []) (replaced P [] rest)) out e in
      let g = prepended_some (LoopN (listed c.0) ∷ []) (replaced P [] rest) out c.2 in
      subst (λ w. L ls (fact_at base ns) (Loop (joined u) (joined rest)) (joined (listed w))) (sym g.2)
      (joined (listed c.0), joined (listed g.0), base, base, refl, below base ns h, inner c.0 c.1, behind bs ls rest go a.1 b.1 g.0 g.1)
  loop_like u rest bs ls ns out h a b (Some t) o e inner go =
      let w = when_some (is_plain (fact_at base ns t)) (prepended (LoopN u ∷ []) (replaced P (noted t Plain ns) rest)) out e in
      let g = prepended_some (LoopN u ∷ []) (replaced P (noted t Plain ns) rest) out w.1 in
      let q = asks u t o in
      let names : Names Named (Choose t (Do (ConstO q.flag 0) (Again 0 Stop)) Stop Stop) = subst (Names Named) q.is b.0 in
      let k : ℕ → Fact = start rest (noted t Plain ns) in
      let more = turning_open t ns h in
      let turn = asking ls t q.flag ns k q.same names.0.0.0 names.1.0.1.0 (follows_start rest (noted t Plain ns) (turning t ns) more (λ r. weaker_same (turning t ns r))) in
      subst (λ w. L ls (fact_at base ns) (Loop (joined u) (joined rest)) (joined (listed w))) (sym g.2)
      (joined u, joined (listed g.0), turning t ns, k, refl, turning_follows t ns h (plain_true (fact_at base ns t) w.0), subst (λ c. Like PP f (record { begins = turning t ns; ends = k } ∷ ls) (turning t ns) c c k) (sym q.is) turn, go (noted t Plain ns) more a.1 b.1 g.0 g.1)

  mutual
    list_like : (l : ListT ℕ) (bs : List Bool) → Alike bs l
    list_like NoN bs ls al len ns i out h at a b e = (ap (λ o. joined (listed o)) (none out e), at)
      where
        none : (o : List (NodeT ℕ)) → Some [] ≡ Some o → o ≡ []
        none o g = cc
    list_like (MoreN n rest) bs ls al len ns i out h at a b e =
        subst (λ j. L ls j (before n (joined rest)) (joined (listed out))) (sym at)
        (node_like n rest bs ls al len ns out h a b e (λ ms g c d s k. list_like rest bs ls al len ms (start rest ms) s g refl c d k))

    node_like : (n : NodeT ℕ) (rest : ListT ℕ) (bs : List Bool) (ls : List (Points (ℕ → Fact))) → AllBase ls → length ls ≡ length bs → (ns : List Note) (out : List (NodeT ℕ)) → AllOpen base ns → AreNodes x m bs (before n (joined rest)) → Names Named (before n (joined rest)) → replaced P ns (MoreN n rest) ≡ Some out
        → Behind bs ls rest → L ls (node_start n ns) (before n (joined rest)) (joined (listed out))
    node_like (DoN o) rest bs ls al len ns out h a b e go =
        let r = is_op ns o rest out e in
        subst (λ w. L ls (fact_at base ns) (op_before o (joined rest)) (joined (listed w))) (sym r.3) (op_like ls bs ns o rest r.1 h r.0 a b (λ c d. go (noted_maybe (turn_of P (fact_at base ns) o).made ns) (may_open ns (turn_of P (fact_at base ns) o) h r.0) c d r.1 r.2))
    node_like (ChooseN p u v) rest bs ls al len ns out h a b e go =
        let w = when_some (is_plain (fact_at base ns p)) (if_some (replaced P [] u) (λ c. if_some (replaced P [] v) (λ d. prepended (ChooseN p (listed c) (listed d) ∷ []) (replaced P [] rest)))) out e in
        let c = if_some_some (replaced P [] u) (λ c. if_some (replaced P [] v) (λ d. prepended (ChooseN p (listed c) (listed d) ∷ []) (replaced P [] rest))) out w.1 in
        let d = if_some_some (replaced P [] v) (λ d. prepended (ChooseN p (listed c.0) (listed d) ∷ []) (replaced P [] rest)) out c.2 in
        let g = prepended_some (ChooseN p (listed c.0) (listed d.0) ∷ []) (replaced P [] rest) out d.2 in
        subst (λ w. L ls (fact_at base ns) (Choose p (joined u) (joined v) (joined rest)) (joined (listed w))) (sym g.2) (
          p,
          joined (listed c.0),
          joined (listed d.0),
          joined (listed g.0),
          base,
          refl,
          (refl, plain_true (fact_at base ns p) w.0, b.0.0.0),
          base,
          base,
          below base ns h,
          below base ns h,
          list_like u bs ls al len [] base c.0 tt (sym (start_none u)) a.0 b.1 c.1,
          list_like v bs ls al len [] base d.0 tt (sym (start_none v)) a.1 b.2 d.1,
          behind bs ls rest go a.2 b.3 g.0 g.1,
        )
    node_like (BlockN u) rest bs ls al len ns out h a b e go =
        let c = if_some_some (replaced P [] u) (λ c. prepended (BlockN (listed c) ∷ []) (replaced P [] rest)) out e in
        let g = prepended_some (BlockN (listed c.0) ∷ []) (replaced P [] rest) out c.2 in
        subst (λ w. L ls base (Block (joined u) (joined rest)) (joined (listed w))) (sym g.2)
        (joined (listed c.0), joined (listed g.0), base, base, refl, list_like u (false ∷ bs) (within ls) (refl, refl, al) (ap suc len) [] base c.0 tt (sym (start_none u)) a.0 b.0 c.1, behind bs ls rest go a.1 b.1 g.0 g.1)
    node_like (LoopN u) rest bs ls al len ns out h a b e go =
        loop_like u rest bs ls ns out h a b (asks_by u) refl e (λ c k. list_like u (true ∷ bs) (within ls) (refl, refl, al) (ap suc len) [] base c tt (sym (start_none u)) a.0 b.0 k) go
    node_like (LeaveN k) rest bs ls al len ns out h a b e go =
        let g = prepended_some (LeaveN k ∷ []) (replaced P [] rest) out e in
        subst (λ w. L ls (fact_at base ns) (Leave k (joined rest)) (joined (listed w))) (sym g.2) (joined (listed g.0), base, refl, ends_base ls k al (subst (λ n. k < n) (sym len) a.0), below base ns h)
    node_like (AgainN k) rest bs ls al len ns out h a b e go =
        let g = prepended_some (AgainN k ∷ []) (replaced P [] rest) out e in
        subst (λ w. L ls (fact_at base ns) (Again k (joined rest)) (joined (listed w))) (sym g.2) (joined (listed g.0), base, refl, begins_base ls k al (subst (λ n. k < n) (sym len) (loop_in bs k a.0)), below base ns h)
    node_like (ReturnN p) rest bs ls al len ns out h a b e go =
        let w = when_some (is_maybe_plain (fact_at base ns) p) (prepended (ReturnN p ∷ []) (replaced P [] rest)) out e in
        let g = prepended_some (ReturnN p ∷ []) (replaced P [] rest) out w.1 in
        subst (λ w. L ls (fact_at base ns) (Return p (joined rest)) (joined (listed w))) (sym g.2) (p, joined (listed g.0), refl, (refl, maybe_plain (fact_at base ns) p w.0, b.0.0, below base ns h))

  -- a body by a choice
  pub body_like : (l : ListT ℕ) (out : List (NodeT ℕ)) → AreNodes x m [] (joined l) → Names Named (joined l) → replaced P [] l ≡ Some out → Like PP f [] base (joined l) (joined (listed out)) base
  body_like l out a b e = list_like l [] [] tt refl [] base out tt (sym (start_none l)) a b e
