-- What is known by the nodes before a point is what is known node by node; nodes in memory are settled where those that they stand for are.
use Rattle.std.proofs.Common.{◌≡◌, ℕ, Bool, true, false, not, cond, eqb, ◌&&◌, List, [], ◌∷◌, map, is_some, Option, Some, None, refl, ap, sym, ◌∙◌}
use Rattle.std.proofs.lemmas.Bool.{eqb-true}
use Rattle.std.specs.List.{list_all}
use Rattle.mid_code.specs.declared.node.Op.{Op}
use Rattle.mid_code.specs.declared.node.Op.TheVariants as op
use Rattle.mid_code.specs.declared.node.Node.{Node}
use Rattle.mid_code.specs.Code.{OpT, ConstO, NullO, MoveO, OneO, TwoO, GlobalO, LocalO, LiteralO, CardO, StepO, ApartO, PtrTestO, LoadO, StoreO, FreshO, EndO, InO, OutO, WaitO, HaltO, NodesT, Stop, Do, Call, Choose, Block, Loop, Leave, Again, Return, uses}
use Rattle.mid_code.specs.Functions.{op_before, NodeT, DoN, ChooseN, BlockN, LoopN, LeaveN, AgainN, ReturnN, ListT, NoN, MoreN, listed, node, nodes, before, joined}
use Rattle.mid_fold.specs.Lasting.{divides}
use Rattle.mid_improve.specs.Settled.{InRun, Acts, Calls, Before, makes, word_put, moved, word_of, unless_is, unless_made, source_of, is_zero, can_be_folded, are_no_copies, nodes_settled}
use Rattle.mid_improve.specs.inner.Facts.{Fact, IsWord, IsCopy, Known, none_known, fact_word, fact_source, unless_copy, behind, behind_maybe, with_fact, known_behind, folds, is_no_copy, all_settled}
use Rattle.mid_improve.specs.inner.Listed.{op_known, op_settled, node_known, node_settled, list_settled}

-- ---- what is known

-- by the nodes before a point, and node by node
pub record Tells (xs : Before) (k : Known) : Type 0 where
  pub words : (q : ℕ) → word_of xs q ≡ fact_word (k q)
  pub sources : (q : ℕ) → source_of xs q ≡ fact_source (k q)

pub none_tells : Tells [] none_known
none_tells = record { words = λ q. refl; sources = λ q. refl }

-- behind a node that makes this temporary, of which nothing is known then
word_behind : (t : ℕ) (f : Option Fact) → fact_word (unless_copy t f) ≡ fact_word f
word_behind t None = refl
word_behind t (Some (IsWord word)) = refl
word_behind t (Some (IsCopy a)) = go (eqb t a)
  where
    go : (b : Bool) → fact_word (cond b None (Some (IsCopy a))) ≡ None
    go true = refl
    go false = refl

source_behind : (x : InRun) (t : ℕ) (f : Option Fact) → ((q : ℕ) → makes x q ≡ eqb t q) → unless_made x (fact_source f) ≡ fact_source (unless_copy t f)
source_behind x t None m = refl
source_behind x t (Some (IsWord word)) m = refl
source_behind x t (Some (IsCopy a)) m = ap (λ b. cond b None (Some a)) (m a) ∙ go (eqb t a)
  where
    go : (b : Bool) → cond b None (Some a) ≡ fact_source (cond b None (Some (IsCopy a)))
    go true = refl
    go false = refl

unless_made_none : (x : InRun) (o : Option ℕ) → ((q : ℕ) → makes x q ≡ false) → unless_made x o ≡ o
unless_made_none x None m = refl
unless_made_none x (Some a) m = ap (λ b. cond b None (Some a)) (m a)

-- a node without a target
still : (x : InRun) (xs : Before) (k : Known) → ((q : ℕ) → makes x q ≡ false) → Tells xs k → Tells (x ∷ xs) k
still x xs k m h = record {
  words = λ q. ap (λ b. cond b (word_put x) (word_of xs q)) (m q) ∙ h.words q;
  sources = λ q. ap (λ b. cond b (unless_is q (moved x)) (unless_made x (source_of xs q))) (m q) ∙ unless_made_none x (source_of xs q) m ∙ h.sources q;
}

-- a node that makes a temporary, of which this is known then
made : (x : InRun) (t : ℕ) (xs : Before) (k : Known) (f : Option Fact) → ((q : ℕ) → makes x q ≡ eqb t q) → word_put x ≡ fact_word f → unless_is t (moved x) ≡ fact_source f
    → Tells xs k → Tells (x ∷ xs) (λ q. cond (eqb t q) f (unless_copy t (k q)))
made x t xs k f m w s h = record { words = words; sources = sources }
  where
    words : (q : ℕ) → word_of (x ∷ xs) q ≡ fact_word (cond (eqb t q) f (unless_copy t (k q)))
    words q = ap (λ b. cond b (word_put x) (word_of xs q)) (m q) ∙ go (eqb t q)
      where
        go : (b : Bool) → cond b (word_put x) (word_of xs q) ≡ fact_word (cond b f (unless_copy t (k q)))
        go true = w
        go false = h.words q ∙ sym (word_behind t (k q))

    sources : (q : ℕ) → source_of (x ∷ xs) q ≡ fact_source (cond (eqb t q) f (unless_copy t (k q)))
    sources q = ap (λ b. cond b (unless_is q (moved x)) (unless_made x (source_of xs q))) (m q) ∙ go (eqb t q) refl
      where
        go : (b : Bool) → eqb t q ≡ b → cond b (unless_is q (moved x)) (unless_made x (source_of xs q)) ≡ fact_source (cond b f (unless_copy t (k q)))
        go true e = ap (λ z. unless_is z (moved x)) (sym (eqb-true t q e)) ∙ s
        go false e = ap (unless_made x) (h.sources q) ∙ source_behind x t (k q) m

-- a fact more, behind a target
fact_behind : (t : ℕ) (f : Fact) (k : Known) → (λ q. cond (eqb t q) (Some f) (unless_copy t (k q))) ≡ with_fact t f (behind k t)
fact_behind t f k = λ i q. go (eqb t q) (unless_copy t (k q)) i
  where
    go : (b : Bool) (o : Option Fact) → cond b (Some f) o ≡ cond b (Some f) (cond b None o)
    go true o = refl
    go false o = refl

tells_to : (xs : Before) (j k : Known) → j ≡ k → Tells xs j → Tells xs k
tells_to xs j k e h = record { words = λ q. h.words q ∙ ap (λ m. fact_word (m q)) e; sources = λ q. h.sources q ∙ ap (λ m. fact_source (m q)) e }

plain : (x : InRun) (t : ℕ) (xs : Before) (k : Known) → ((q : ℕ) → makes x q ≡ eqb t q) → word_put x ≡ None → moved x ≡ None → Tells xs k → Tells (x ∷ xs) (behind k t)
plain x t xs k m w s h = made x t xs k None m w (ap (unless_is t) s) h

move_tells : (t a : ℕ) (xs : Before) (k : Known) → Tells xs k → Tells (Acts (MoveO t a) ∷ xs) (cond (eqb a t) (behind k t) (with_fact t (IsCopy a) (behind k t)))
move_tells t a xs k h = go (eqb a t) refl
  where
    go : (b : Bool) → eqb a t ≡ b → Tells (Acts (MoveO t a) ∷ xs) (cond b (behind k t) (with_fact t (IsCopy a) (behind k t)))
    go true e = made (Acts (MoveO t a)) t xs k None (λ q. refl) refl (ap (λ b. cond b None (Some a)) e) h
    go false e = tells_to (Acts (MoveO t a) ∷ xs) (λ q. cond (eqb t q) (Some (IsCopy a)) (unless_copy t (k q))) (with_fact t (IsCopy a) (behind k t)) (fact_behind t (IsCopy a) k) (made (Acts (MoveO t a)) t xs k (Some (IsCopy a)) (λ q. refl) refl (ap (λ b. cond b None (Some a)) e) h)

op_tells : (o : OpT ℕ) (xs : Before) (k : Known) → Tells xs k → Tells (Acts o ∷ xs) (known_behind k o)
op_tells (ConstO t w) xs k h = tells_to (Acts (ConstO t w) ∷ xs) (λ q. cond (eqb t q) (Some (IsWord w)) (unless_copy t (k q))) (with_fact t (IsWord w) (behind k t)) (fact_behind t (IsWord w) k) (made (Acts (ConstO t w)) t xs k (Some (IsWord w)) (λ q. refl) refl refl h)
op_tells (NullO t) xs k h = plain (Acts (NullO t)) t xs k (λ q. refl) refl refl h
op_tells (MoveO t a) xs k h = move_tells t a xs k h
op_tells (OneO o t a) xs k h = plain (Acts (OneO o t a)) t xs k (λ q. refl) refl refl h
op_tells (TwoO o t a b) xs k h = plain (Acts (TwoO o t a b)) t xs k (λ q. refl) refl refl h
op_tells (GlobalO t n) xs k h = plain (Acts (GlobalO t n)) t xs k (λ q. refl) refl refl h
op_tells (LocalO t n) xs k h = plain (Acts (LocalO t n)) t xs k (λ q. refl) refl refl h
op_tells (LiteralO t n) xs k h = plain (Acts (LiteralO t n)) t xs k (λ q. refl) refl refl h
op_tells (CardO t) xs k h = plain (Acts (CardO t)) t xs k (λ q. refl) refl refl h
op_tells (StepO t p n) xs k h = plain (Acts (StepO t p n)) t xs k (λ q. refl) refl refl h
op_tells (ApartO t p r) xs k h = plain (Acts (ApartO t p r)) t xs k (λ q. refl) refl refl h
op_tells (PtrTestO o t p r) xs k h = plain (Acts (PtrTestO o t p r)) t xs k (λ q. refl) refl refl h
op_tells (LoadO t p) xs k h = plain (Acts (LoadO t p)) t xs k (λ q. refl) refl refl h
op_tells (StoreO p a) xs k h = still (Acts (StoreO p a)) xs k (λ q. refl) h
op_tells (FreshO n) xs k h = still (Acts (FreshO n)) xs k (λ q. refl) h
op_tells (EndO n) xs k h = still (Acts (EndO n)) xs k (λ q. refl) h
op_tells (InO t port) xs k h = plain (Acts (InO t port)) t xs k (λ q. refl) refl refl h
op_tells (OutO port a) xs k h = still (Acts (OutO port a)) xs k (λ q. refl) h
op_tells WaitO xs k h = still (Acts WaitO) xs k (λ q. refl) h
op_tells HaltO xs k h = still (Acts HaltO) xs k (λ q. refl) h

call_tells : (t : Option ℕ) (xs : Before) (k : Known) → Tells xs k → Tells (Calls t ∷ xs) (behind_maybe k t)
call_tells None xs k h = still (Calls None) xs k (λ q. refl) h
call_tells (Some t) xs k h = plain (Calls (Some t)) t xs k (λ q. refl) refl refl h

-- ---- settled by that alone

copies_by : (xs : Before) (k : Known) (qs : List ℕ) → Tells xs k → are_no_copies xs qs ≡ list_all (is_no_copy k) qs
copies_by xs k qs h = ap (λ f. list_all f qs) (λ i q. not (is_some (h.sources q i)))

folds_by : (xs : Before) (k : Known) (o : OpT ℕ) → Tells xs k → can_be_folded xs o ≡ folds k o
folds_by xs k (OneO o t a) h = ap is_some (h.words a)
folds_by xs k (TwoO o t a b) h = let x = h.words a in let y = h.words b in λ i. is_some (x i) && (is_some (y i) && not (divides o && is_zero (y i)))
folds_by xs k (ConstO t w) h = refl
folds_by xs k (NullO t) h = refl
folds_by xs k (MoveO t a) h = refl
folds_by xs k (GlobalO t n) h = refl
folds_by xs k (LocalO t n) h = refl
folds_by xs k (LiteralO t n) h = refl
folds_by xs k (CardO t) h = refl
folds_by xs k (StepO t p n) h = refl
folds_by xs k (ApartO t p q) h = refl
folds_by xs k (PtrTestO o t p q) h = refl
folds_by xs k (LoadO t p) h = refl
folds_by xs k (StoreO p a) h = refl
folds_by xs k (FreshO n) h = refl
folds_by xs k (EndO n) h = refl
folds_by xs k (InO t port) h = refl
folds_by xs k (OutO port a) h = refl
folds_by xs k WaitO h = refl
folds_by xs k HaltO h = refl

pub settled_by : (xs : Before) (k : Known) (c : NodesT ℕ) → Tells xs k → nodes_settled xs c ≡ all_settled k c
settled_by xs k Stop h = refl
settled_by xs k (Do o c) h =
    let f = folds_by xs k o h in
    let u = copies_by xs k (uses o) h in
    let r = settled_by (Acts o ∷ xs) (known_behind k o) c (op_tells o xs k h) in
    λ i. not (f i) && (u i && r i)
settled_by xs k (Call t g args c) h =
    let u = copies_by xs k args h in
    let r = settled_by (Calls t ∷ xs) (behind_maybe k t) c (call_tells t xs k h) in
    λ i. u i && r i
settled_by xs k (Choose p a b c) h =
    let d = settled_by [] none_known a none_tells in
    let e = settled_by [] none_known b none_tells in
    let r = settled_by [] none_known c none_tells in
    λ i. d i && (e i && r i)
settled_by xs k (Block b c) h = let e = settled_by [] none_known b none_tells in let r = settled_by [] none_known c none_tells in λ i. e i && r i
settled_by xs k (Loop b c) h = let e = settled_by [] none_known b none_tells in let r = settled_by [] none_known c none_tells in λ i. e i && r i
settled_by xs k (Leave j c) h = settled_by [] none_known c none_tells
settled_by xs k (Again j c) h = settled_by [] none_known c none_tells
settled_by xs k (Return p c) h = settled_by [] none_known c none_tells

-- ---- nodes in memory

three : (a b c : Bool) → ((a && b) && c) ≡ (a && (b && c))
three true b c = refl
three false b c = refl

op_is : (k : Known) (o : Op ℕ) (c : NodesT ℕ) → (op_settled k o && all_settled (op_known k o) c) ≡ all_settled k (op_before o c)
op_is k (op.Const t w) c = refl
op_is k (op.Null t) c = refl
op_is k (op.Move t a) c = refl
op_is k (op.One o t a) c = three (not (is_some (fact_word (k a)))) (list_all (is_no_copy k) (a ∷ [])) _
op_is k (op.Two o t a b) c = three (not (folds k (TwoO o t a b))) (list_all (is_no_copy k) (a ∷ b ∷ [])) _
op_is k (op.Global t n) c = refl
op_is k (op.Local t n) c = refl
op_is k (op.Literal t n) c = refl
op_is k (op.Card t) c = refl
op_is k (op.Step t p n) c = refl
op_is k (op.Apart t p q) c = refl
op_is k (op.PtrTest o t p q) c = refl
op_is k (op.Load t p) c = refl
op_is k (op.Store p a) c = refl
op_is k (op.Fresh n) c = refl
op_is k (op.End n) c = refl
op_is k (op.Call t f args) c = refl
op_is k (op.In t port) c = refl
op_is k (op.Out port a) c = refl
op_is k op.Wait c = refl
op_is k op.Halt c = refl

mutual
  node_is : (k : Known) (x : NodeT ℕ) (c : NodesT ℕ) → (node_settled k x && all_settled (node_known k x) c) ≡ all_settled k (before x c)
  node_is k (DoN o) c = op_is k o c
  node_is k (ChooseN p a b) c = three (list_settled none_known a) (list_settled none_known b) (all_settled none_known c) ∙ (λ i. list_is none_known a i && (list_is none_known b i && all_settled none_known c))
  node_is k (BlockN b) c = ap (λ r. r && all_settled none_known c) (list_is none_known b)
  node_is k (LoopN b) c = ap (λ r. r && all_settled none_known c) (list_is none_known b)
  node_is k (LeaveN j) c = refl
  node_is k (AgainN j) c = refl
  node_is k (ReturnN p) c = refl

  list_is : (k : Known) (xs : ListT ℕ) → list_settled k xs ≡ all_settled k (joined xs)
  list_is k NoN = refl
  list_is k (MoreN x rest) = ap (λ r. node_settled k x && r) (list_is (node_known k x) rest) ∙ node_is k x (joined rest)

pub settled_joined : (ns : List (Node ℕ)) → list_settled none_known (listed (map node ns)) ≡ nodes_settled [] (nodes ns)
settled_joined ns = list_is none_known (listed (map node ns)) ∙ sym (settled_by [] none_known (nodes ns) none_tells)
