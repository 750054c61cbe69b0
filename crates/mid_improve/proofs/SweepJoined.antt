-- What code in memory has is what the sweep leaves.
use Rattle.std.proofs.Common.{◌≡◌, ℕ, ◌<◌, lt-ltb, Bool, true, false, cond, eqb, ◌||◌, List, [], ◌∷◌, map, Option, Some, None, refl, ap, sym, ◌∙◌}
use Rattle.mid_code.specs.declared.node.Op.{Op}
use Rattle.mid_code.specs.declared.node.Op.TheVariants as op
use Rattle.mid_code.specs.declared.node.Node.{Node}
use Rattle.mid_code.specs.Code.{OpT, ConstO, NullO, MoveO, OneO, TwoO, GlobalO, LocalO, LiteralO, CardO, StepO, ApartO, PtrTestO, LoadO, StoreO, FreshO, EndO, InO, OutO, WaitO, HaltO, target, NodesT, Stop, Do, Call, Choose, Block, Loop, Leave, Again, Return, FunctionT}
use Rattle.mid_code.specs.Functions.{op_before, NodeT, DoN, ChooseN, BlockN, LoopN, LeaveN, AgainN, ReturnN, ListT, NoN, MoreN, listed, node, before, joined, nodes}
use Rattle.mid_code.specs.Live.{label, ends_of, begins_of, live_before, is_used, is_target, is_live}
use Rattle.mid_improve.specs.Settled.{only_puts}
use Rattle.mid_improve.specs.inner.Wanted.{Labels, Set, live_set, in_block, in_loop, op_wanted}
use Rattle.mid_improve.specs.inner.Sweep.{left, swept, no_labels, none_live, swept_function}
use Rattle.mid_improve.specs.inner.SweepListed.{node_left, list_left, maybe_before, node_swept, list_swept}
use Rattle.mid_improve.proofs.Wanting.{Agree, AgreeIn, maybe_same, node_same}

-- a node's word and whether one of two ways has it
choose_is : (u j : Bool) → (u || j) ≡ live_before (u || false) false j
choose_is true j = refl
choose_is false j = refl

-- an operation that stays or not, in memory and as plain data
stands : (b : Bool) (o : Op ℕ) (p : OpT ℕ) (xs : List (NodeT ℕ)) (d : NodesT ℕ) → ((a : NodesT ℕ) → op_before o a ≡ Do p a) → joined (listed xs) ≡ d
    → joined (listed (maybe_before (cond b (Some (DoN o)) None) xs)) ≡ cond b (Do p d) d
stands true o p xs d is e = is (joined (listed xs)) ∙ ap (Do p) e
stands false o p xs d is e = e

module _ (n : ℕ) where
  op_left_is : (ls : Labels) (o : Op ℕ) (c : NodesT ℕ) (s : Set) → node_left n ls (DoN o) (left n ls c s) ≡ left n ls (op_before o c) s
  op_left_is ls (op.Const t w) c s = refl
  op_left_is ls (op.Null t) c s = refl
  op_left_is ls (op.Move t a) c s = refl
  op_left_is ls (op.One o t a) c s = refl
  op_left_is ls (op.Two o t a b) c s = refl
  op_left_is ls (op.Global t k) c s = refl
  op_left_is ls (op.Local t k) c s = refl
  op_left_is ls (op.Literal t k) c s = refl
  op_left_is ls (op.Card t) c s = refl
  op_left_is ls (op.Step t p q) c s = refl
  op_left_is ls (op.Apart t p q) c s = refl
  op_left_is ls (op.PtrTest o t p q) c s = refl
  op_left_is ls (op.Load t p) c s = refl
  op_left_is ls (op.Store p a) c s = refl
  op_left_is ls (op.Fresh k) c s = refl
  op_left_is ls (op.End k) c s = refl
  op_left_is ls (op.Call t f args) c s = refl
  op_left_is ls (op.In t k) c s = refl
  op_left_is ls (op.Out k a) c s = refl
  op_left_is ls op.Wait c s = refl
  op_left_is ls op.Halt c s = refl

  op_swept_is : (ls : Labels) (o : Op ℕ) (c : NodesT ℕ) (s : Set) (xs : List (NodeT ℕ)) → joined (listed xs) ≡ swept n ls c s → joined (listed (maybe_before (node_swept n ls (DoN o) (left n ls c s)) xs)) ≡ swept n ls (op_before o c) s
  op_swept_is ls (op.Const t w) c s xs e = stands (op_wanted n (op.Const t w) (left n ls c s)) (op.Const t w) (ConstO t w) xs (swept n ls c s) (λ d. refl) e
  op_swept_is ls (op.Null t) c s xs e = stands (op_wanted n (op.Null t) (left n ls c s)) (op.Null t) (NullO t) xs (swept n ls c s) (λ d. refl) e
  op_swept_is ls (op.Move t a) c s xs e = stands (op_wanted n (op.Move t a) (left n ls c s)) (op.Move t a) (MoveO t a) xs (swept n ls c s) (λ d. refl) e
  op_swept_is ls (op.One o t a) c s xs e = stands (op_wanted n (op.One o t a) (left n ls c s)) (op.One o t a) (OneO o t a) xs (swept n ls c s) (λ d. refl) e
  op_swept_is ls (op.Two o t a b) c s xs e = stands (op_wanted n (op.Two o t a b) (left n ls c s)) (op.Two o t a b) (TwoO o t a b) xs (swept n ls c s) (λ d. refl) e
  op_swept_is ls (op.Global t k) c s xs e = stands (op_wanted n (op.Global t k) (left n ls c s)) (op.Global t k) (GlobalO t k) xs (swept n ls c s) (λ d. refl) e
  op_swept_is ls (op.Local t k) c s xs e = stands (op_wanted n (op.Local t k) (left n ls c s)) (op.Local t k) (LocalO t k) xs (swept n ls c s) (λ d. refl) e
  op_swept_is ls (op.Literal t k) c s xs e = stands (op_wanted n (op.Literal t k) (left n ls c s)) (op.Literal t k) (LiteralO t k) xs (swept n ls c s) (λ d. refl) e
  op_swept_is ls (op.Card t) c s xs e = stands (op_wanted n (op.Card t) (left n ls c s)) (op.Card t) (CardO t) xs (swept n ls c s) (λ d. refl) e
  op_swept_is ls (op.Step t p q) c s xs e = stands (op_wanted n (op.Step t p q) (left n ls c s)) (op.Step t p q) (StepO t p q) xs (swept n ls c s) (λ d. refl) e
  op_swept_is ls (op.Apart t p q) c s xs e = stands (op_wanted n (op.Apart t p q) (left n ls c s)) (op.Apart t p q) (ApartO t p q) xs (swept n ls c s) (λ d. refl) e
  op_swept_is ls (op.PtrTest o t p q) c s xs e = stands (op_wanted n (op.PtrTest o t p q) (left n ls c s)) (op.PtrTest o t p q) (PtrTestO o t p q) xs (swept n ls c s) (λ d. refl) e
  op_swept_is ls (op.Load t p) c s xs e = stands (op_wanted n (op.Load t p) (left n ls c s)) (op.Load t p) (LoadO t p) xs (swept n ls c s) (λ d. refl) e
  op_swept_is ls (op.Store p a) c s xs e = stands (op_wanted n (op.Store p a) (left n ls c s)) (op.Store p a) (StoreO p a) xs (swept n ls c s) (λ d. refl) e
  op_swept_is ls (op.Fresh k) c s xs e = stands (op_wanted n (op.Fresh k) (left n ls c s)) (op.Fresh k) (FreshO k) xs (swept n ls c s) (λ d. refl) e
  op_swept_is ls (op.End k) c s xs e = stands (op_wanted n (op.End k) (left n ls c s)) (op.End k) (EndO k) xs (swept n ls c s) (λ d. refl) e
  op_swept_is ls (op.Call t f args) c s xs e = ap (Call t f args) e
  op_swept_is ls (op.In t k) c s xs e = stands (op_wanted n (op.In t k) (left n ls c s)) (op.In t k) (InO t k) xs (swept n ls c s) (λ d. refl) e
  op_swept_is ls (op.Out k a) c s xs e = stands (op_wanted n (op.Out k a) (left n ls c s)) (op.Out k a) (OutO k a) xs (swept n ls c s) (λ d. refl) e
  op_swept_is ls op.Wait c s xs e = stands (op_wanted n op.Wait (left n ls c s)) op.Wait WaitO xs (swept n ls c s) (λ d. refl) e
  op_swept_is ls op.Halt c s xs e = stands (op_wanted n op.Halt (left n ls c s)) op.Halt HaltO xs (swept n ls c s) (λ d. refl) e

  mutual
    node_left_is : (ls : Labels) (x : NodeT ℕ) (c : NodesT ℕ) (s : Set) → node_left n ls x (left n ls c s) ≡ left n ls (before x c) s
    node_left_is ls (DoN o) c s = op_left_is ls o c s
    node_left_is ls (ChooseN p a b) c s =
        let k = left n ls c s in
        (λ i y. eqb p y || (list_left_is ls a k i y || list_left_is ls b k i y)) ∙ (λ i y. choose_is (eqb p y) (left n ls (joined a) k y || left n ls (joined b) k y) i)
    node_left_is ls (BlockN b) c s = list_left_is (in_block (left n ls c s) ls) b (left n ls c s)
    node_left_is ls (LoopN b) c s = list_left_is (in_loop (live_set (in_block (left n ls c s) ls) (joined b) (left n ls c s)) (left n ls c s) ls) b (left n ls c s)
    node_left_is ls (LeaveN k) c s = refl
    node_left_is ls (AgainN k) c s = refl
    node_left_is ls (ReturnN p) c s = refl

    list_left_is : (ls : Labels) (xs : ListT ℕ) (s : Set) → list_left n ls xs s ≡ left n ls (joined xs) s
    list_left_is ls NoN s = refl
    list_left_is ls (MoreN x rest) s = ap (node_left n ls x) (list_left_is ls rest s) ∙ node_left_is ls x (joined rest) s

  mutual
    node_swept_is : (ls : Labels) (x : NodeT ℕ) (c : NodesT ℕ) (s : Set) (xs : List (NodeT ℕ)) → joined (listed xs) ≡ swept n ls c s → joined (listed (maybe_before (node_swept n ls x (left n ls c s)) xs)) ≡ swept n ls (before x c) s
    node_swept_is ls (DoN o) c s xs e = op_swept_is ls o c s xs e
    node_swept_is ls (ChooseN p a b) c s xs e = let k = left n ls c s in λ i. Choose p (list_swept_is ls a k i) (list_swept_is ls b k i) (e i)
    node_swept_is ls (BlockN b) c s xs e = let k = left n ls c s in λ i. Block (list_swept_is (in_block k ls) b k i) (e i)
    node_swept_is ls (LoopN b) c s xs e = let k = left n ls c s in λ i. Loop (list_swept_is (in_loop (live_set (in_block k ls) (joined b) k) k ls) b k i) (e i)
    node_swept_is ls (LeaveN j) c s xs e = ap (Leave j) e
    node_swept_is ls (AgainN j) c s xs e = ap (Again j) e
    node_swept_is ls (ReturnN p) c s xs e = ap (Return p) e

    pub list_swept_is : (ls : Labels) (xs : ListT ℕ) (s : Set) → joined (listed (list_swept n ls xs s)) ≡ swept n ls (joined xs) s
    list_swept_is ls NoN s = refl
    list_swept_is ls (MoreN x rest) s = ap (λ k. joined (listed (maybe_before (node_swept n ls x k) (list_swept n ls rest s)))) (list_left_is ls rest s) ∙ node_swept_is ls x (joined rest) s (list_swept n ls rest s) (list_swept_is ls rest s)

  -- ---- only the temporaries below the number count

  left_same : (ls ks : Labels) (c : NodesT ℕ) (s u : Set) → AgreeIn n ls ks → Agree n s u → Agree n (left n ls c s) (left n ks c u)
  left_same ls ks Stop s u l a = a
  left_same ls ks (Do o c) s u l a = let k = left_same ls ks c s u l a in λ y h i. cond (maybe_same n (only_puts o) (target o) (left n ls c s) (left n ks c u) k i) (live_before (is_used (Do o c) y) (is_target (Do o c) y) (k y h i)) (k y h i)
  left_same ls ks (Call t f args c) s u l a = let k = left_same ls ks c s u l a in λ y h i. live_before (is_used (Call t f args c) y) (is_target (Call t f args c) y) (k y h i)
  left_same ls ks (Choose p d e c) s u l a =
      let k = left_same ls ks c s u l a in
      let f = left_same ls ks d (left n ls c s) (left n ks c u) l k in
      let g = left_same ls ks e (left n ls c s) (left n ks c u) l k in
      λ y h i. live_before (is_used (Choose p d e c) y) false (f y h i || g y h i)
  left_same ls ks (Block b c) s u l a =
      let k = left_same ls ks c s u l a in
      left_same (in_block (left n ls c s) ls) (in_block (left n ks c u) ks) b (left n ls c s) (left n ks c u) (λ y h j. label false (k y h j) ∷ l y h j) k
  left_same ls ks (Loop b c) s u l a =
      let k = left_same ls ks c s u l a in
      left_same (in_loop (live_set (in_block (left n ls c s) ls) b (left n ls c s)) (left n ls c s) ls) (in_loop (live_set (in_block (left n ks c u) ks) b (left n ks c u)) (left n ks c u) ks) b (left n ls c s) (left n ks c u)
      (λ y h j. label (is_live y (label false (k y h j) ∷ l y h j) b (k y h j)) (k y h j) ∷ l y h j) k
  left_same ls ks (Leave j c) s u l a = λ y h i. ends_of (l y h i) j
  left_same ls ks (Again j c) s u l a = λ y h i. begins_of (l y h i) j
  left_same ls ks (Return p c) s u l a = λ y h. refl

  pub list_left_same : (ls ks : Labels) (xs : ListT ℕ) (s u : Set) → AgreeIn n ls ks → Agree n s u → Agree n (list_left n ls xs s) (list_left n ks xs u)
  list_left_same ls ks xs s u l a = λ y h. ap (λ f. f y) (list_left_is ls xs s) ∙ left_same ls ks (joined xs) s u l a y h ∙ sym (ap (λ f. f y) (list_left_is ks xs u))

  node_left_same : (ls : Labels) (x : NodeT ℕ) (s u : Set) → Agree n s u → Agree n (node_left n ls x s) (node_left n ls x u)
  node_left_same ls x s u a = λ y h. ap (λ f. f y) (node_left_is ls x Stop s) ∙ left_same ls ls (before x Stop) s u (λ z g. refl) a y h ∙ sym (ap (λ f. f y) (node_left_is ls x Stop u))

  mutual
    node_swept_same : (ls ks : Labels) (x : NodeT ℕ) (s u : Set) → AgreeIn n ls ks → Agree n s u → node_swept n ls x s ≡ node_swept n ks x u
    node_swept_same ls ks (DoN o) s u l a = ap (λ b. cond b (Some (DoN o)) None) (node_same n ls (DoN o) s u a)
    node_swept_same ls ks (ChooseN p c d) s u l a = λ i. Some (ChooseN p (listed (list_swept_same ls ks c s u l a i)) (listed (list_swept_same ls ks d s u l a i)))
    node_swept_same ls ks (BlockN b) s u l a = λ i. Some (BlockN (listed (list_swept_same (in_block s ls) (in_block u ks) b s u (λ y h j. label false (a y h j) ∷ l y h j) a i)))
    node_swept_same ls ks (LoopN b) s u l a =
        λ i. Some (LoopN (listed (list_swept_same (in_loop (live_set (in_block s ls) (joined b) s) s ls) (in_loop (live_set (in_block u ks) (joined b) u) u ks) b s u (λ y h j. label (is_live y (label false (a y h j) ∷ l y h j) (joined b) (a y h j)) (a y h j) ∷ l y h j) a i)))
    node_swept_same ls ks (LeaveN j) s u l a = refl
    node_swept_same ls ks (AgainN j) s u l a = refl
    node_swept_same ls ks (ReturnN p) s u l a = refl

    pub list_swept_same : (ls ks : Labels) (xs : ListT ℕ) (s u : Set) → AgreeIn n ls ks → Agree n s u → list_swept n ls xs s ≡ list_swept n ks xs u
    list_swept_same ls ks NoN s u l a = refl
    list_swept_same ls ks (MoreN x rest) s u l a =
        λ i. maybe_before (node_swept_same ls ks x (list_left n ls rest s) (list_left n ks rest u) l (list_left_same ls ks rest s u l a) i) (list_swept_same ls ks rest s u l a i)

  -- ---- blocks and loops

  abbrev pub Below : Set → Set → Type 0
  Below v w = (y : ℕ) → y < n → v y ≡ w y

  pub stays : (ls : Labels) (x r q z : NodeT ℕ) (s : Set) → x ≡ z → r ≡ q → Some q ≡ node_swept n ls z s → Some r ≡ node_swept n ls x s
  stays ls x r q z s e f g = ap Some f ∙ g ∙ sym (ap (λ k. node_swept n ls k s) e)

  pub choice_swept : (ls : Labels) (x r : NodeT ℕ) (p : ℕ) (a b : ListT ℕ) (s u : Set) (first second : List (Node ℕ)) → x ≡ ChooseN p a b → r ≡ ChooseN p (listed (map node first)) (listed (map node second)) → u ≡ s
      → map node first ≡ list_swept n ls a u → map node second ≡ list_swept n ls b s → Some r ≡ node_swept n ls x s
  choice_swept ls x r p a b s u first second e f us g h =
      ap Some f ∙ (λ i. Some (ChooseN p (listed (g i)) (listed (h i)))) ∙ ap (λ z. Some (ChooseN p (listed (list_swept n ls a z)) (listed (list_swept n ls b s)))) us ∙ sym (ap (λ z. node_swept n ls z s) e)

  pub loop_left : (ls ks : Labels) (x : NodeT ℕ) (b : ListT ℕ) (s u v : Set) → x ≡ LoopN b → AgreeIn n ks (in_loop (live_set (in_block s ls) (joined b) s) s ls) → u ≡ s → Below v (list_left n ks b u) → Below v (node_left n ls x s)
  loop_left ls ks x b s u v e k us a =
      λ y h. a y h ∙ ap (λ z. list_left n ks b z y) us ∙ list_left_same ks (in_loop (live_set (in_block s ls) (joined b) s) s ls) b s s k (λ z g. refl) y (lt-ltb y n h) ∙ sym (ap (λ z. node_left n ls z s y) e)

  pub loop_swept : (ls ks : Labels) (x r : NodeT ℕ) (b : ListT ℕ) (s u : Set) (inside : List (Node ℕ)) → x ≡ LoopN b → AgreeIn n ks (in_loop (live_set (in_block s ls) (joined b) s) s ls) → u ≡ s → r ≡ LoopN (listed (map node inside))
      → map node inside ≡ list_swept n ks b u → Some r ≡ node_swept n ls x s
  loop_swept ls ks x r b s u inside e k us f m =
      ap Some f ∙ (λ i. Some (LoopN (listed (m i)))) ∙ ap (λ z. Some (LoopN (listed (list_swept n ks b z)))) us
      ∙ (λ i. Some (LoopN (listed (list_swept_same ks (in_loop (live_set (in_block s ls) (joined b) s) s ls) b s s k (λ z g. refl) i)))) ∙ sym (ap (λ z. node_swept n ls z s) e)

  -- ---- what a walk leaves

  pub left_step : (ls : Labels) (x : NodeT ℕ) (rest : ListT ℕ) (s u : Set) (v : Set) → Agree n u (list_left n ls rest s) → Agree n v (node_left n ls x u) → Agree n v (list_left n ls (MoreN x rest) s)
  left_step ls x rest s u v a b = λ y h. b y h ∙ node_left_same ls x u (list_left n ls rest s) a y h

  -- a node in front of those that stay
  pub stays_step : (ls : Labels) (x : NodeT ℕ) (rest : ListT ℕ) (s u : Set) (front : Option (NodeT ℕ)) (found more : List (NodeT ℕ)) → Agree n u (list_left n ls rest s) → front ≡ node_swept n ls x u → more ≡ maybe_before front found
      → found ≡ list_swept n ls rest s → more ≡ list_swept n ls (MoreN x rest) s
  stays_step ls x rest s u front found more a e m f =
      m ∙ (λ i. maybe_before ((e ∙ node_swept_same ls ls x u (list_left n ls rest s) (λ y h. refl) a) i) (f i))

  -- ---- an operation

  pub not_wanted_left : (ls : Labels) (x : NodeT ℕ) (o : Op ℕ) (s : Set) → x ≡ DoN o → op_wanted n o s ≡ false → (y : ℕ) → s y ≡ node_left n ls x s y
  not_wanted_left ls x o s e w y = sym (ap (λ z. node_left n ls z s y) e ∙ ap (λ b. cond b (is_live y (ls y) (op_before o Stop) (s y)) (s y)) w)

  pub wanted_left : (ls : Labels) (x : NodeT ℕ) (o : Op ℕ) (s : Set) → x ≡ DoN o → op_wanted n o s ≡ true → (y : ℕ) (j : Bool) → j ≡ is_live y (ls y) (op_before o Stop) (s y) → j ≡ node_left n ls x s y
  wanted_left ls x o s e w y j h = h ∙ sym (ap (λ z. node_left n ls z s y) e ∙ ap (λ b. cond b (is_live y (ls y) (op_before o Stop) (s y)) (s y)) w)

-- the nodes of a body
pub swept_joined : (n : ℕ) (ns ms : List (Node ℕ)) (ls : Labels) (s : Set) → ((y : ℕ) → ls y ≡ []) → ((y : ℕ) → s y ≡ false) → map node ms ≡ list_swept n ls (listed (map node ns)) s → nodes ms ≡ swept n no_labels (nodes ns) none_live
swept_joined n ns ms ls s l a e = ap (λ xs. joined (listed xs)) e ∙ (λ i. joined (listed (list_swept n (λ y. l y i) (listed (map node ns)) (λ y. a y i)))) ∙ list_swept_is n no_labels (listed (map node ns)) none_live

pub function_is : (f : FunctionT ℕ) (body : NodesT ℕ) → body ≡ swept f.temps no_labels f.body none_live → record f { body = body } ≡ swept_function f
function_is f body b = λ i. record f { body = b i }
