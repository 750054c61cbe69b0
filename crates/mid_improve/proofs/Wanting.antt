-- Targets are wanted as it is computed exactly where they are live behind their operations, by paths.
use Rattle.std.proofs.Common.{◌≡◌, ◌↔◌, ℕ, ◌<◌, Bool, true, false, not, nat_lt, is_some, lt-ltb, ◌&&◌, ◌||◌, List, [], ◌∷◌, Option, Some, None, refl, ap, sym, ◌∙◌, subst}
use Rattle.std.proofs.lemmas.Bool.{and_from, false≢true}
use Rattle.mid_code.specs.declared.node.Op.{Op}
use Rattle.mid_code.specs.declared.node.Op.TheVariants as op
use Rattle.mid_code.specs.Code.{target, maybe, NodesT, Stop, Do, Call, Choose, Block, Loop, Leave, Again, Return}
use Rattle.mid_code.specs.Functions.{op_before, NodeT, DoN, ChooseN, BlockN, LoopN, LeaveN, AgainN, ReturnN, ListT, NoN, MoreN, before, joined}
use Rattle.mid_code.specs.Invariants.{AllOf, Names}
use Rattle.mid_code.specs.Paths.{Frame, Branched, Blocked, Looped, Each}
use Rattle.mid_code.specs.Live.{label, is_live, labels, live_behind, is_live_at}
use Rattle.mid_code.proofs.Liveness.{computed_path, path_computed}
use Rattle.mid_improve.specs.Settled.{only_puts, IsWanted}
use Rattle.mid_improve.specs.inner.Wanted.{Labels, Set, live_set, in_block, in_loop, is_wanted, maybe_wanted, all_wanted, op_wanted, node_wanted, list_wanted}
use Rattle.mid_improve.proofs.Tabled.{both}

-- ---- code in memory

three : (a b c : Bool) → ((a && b) && c) ≡ (a && (b && c))
three true b c = refl
three false b c = refl

module _ (n : ℕ) where
  op_is : (ls : Labels) (o : Op ℕ) (c : NodesT ℕ) (s : Set) → (op_wanted n o (live_set ls c s) && all_wanted n ls c s) ≡ all_wanted n ls (op_before o c) s
  op_is ls (op.Const t w) c s = refl
  op_is ls (op.Null t) c s = refl
  op_is ls (op.Move t a) c s = refl
  op_is ls (op.One o t a) c s = refl
  op_is ls (op.Two o t a b) c s = refl
  op_is ls (op.Global t k) c s = refl
  op_is ls (op.Local t k) c s = refl
  op_is ls (op.Literal t k) c s = refl
  op_is ls (op.Card t) c s = refl
  op_is ls (op.Step t p q) c s = refl
  op_is ls (op.Apart t p q) c s = refl
  op_is ls (op.PtrTest o t p q) c s = refl
  op_is ls (op.Load t p) c s = refl
  op_is ls (op.Store p a) c s = refl
  op_is ls (op.Fresh k) c s = refl
  op_is ls (op.End k) c s = refl
  op_is ls (op.Call t f args) c s = refl
  op_is ls (op.In t k) c s = refl
  op_is ls (op.Out k a) c s = refl
  op_is ls op.Wait c s = refl
  op_is ls op.Halt c s = refl

  mutual
    node_is : (ls : Labels) (x : NodeT ℕ) (c : NodesT ℕ) (s : Set) → (node_wanted n ls x (live_set ls c s) && all_wanted n ls c s) ≡ all_wanted n ls (before x c) s
    node_is ls (DoN o) c s = op_is ls o c s
    node_is ls (ChooseN p a b) c s =
        three (list_wanted n ls a (live_set ls c s)) (list_wanted n ls b (live_set ls c s)) (all_wanted n ls c s)
        ∙ (λ i. list_is ls a (live_set ls c s) i && (list_is ls b (live_set ls c s) i && all_wanted n ls c s))
    node_is ls (BlockN b) c s = ap (λ r. r && all_wanted n ls c s) (list_is (in_block (live_set ls c s) ls) b (live_set ls c s))
    node_is ls (LoopN b) c s = ap (λ r. r && all_wanted n ls c s) (list_is (in_loop (live_set ls (Loop (joined b) c) s) (live_set ls c s) ls) b (live_set ls c s))
    node_is ls (LeaveN k) c s = refl
    node_is ls (AgainN k) c s = refl
    node_is ls (ReturnN p) c s = refl

    pub list_is : (ls : Labels) (xs : ListT ℕ) (s : Set) → list_wanted n ls xs s ≡ all_wanted n ls (joined xs) s
    list_is ls NoN s = refl
    list_is ls (MoreN x rest) s = ap (λ r. node_wanted n ls x (live_set ls (joined rest) s) && r) (list_is ls rest s) ∙ node_is ls x (joined rest) s

  -- ---- only the temporaries below the number count

  abbrev pub Agree : Set → Set → Type 0
  Agree s u = (y : ℕ) → nat_lt y n ≡ true → s y ≡ u y

  abbrev pub AgreeIn : Labels → Labels → Type 0
  AgreeIn ls ks = (y : ℕ) → nat_lt y n ≡ true → ls y ≡ ks y

  wanted_same : (only : Bool) (t : ℕ) (s u : Set) → Agree s u → is_wanted n only t s ≡ is_wanted n only t u
  wanted_same false t s u a = refl
  wanted_same true t s u a = go (nat_lt t n) refl
    where
      go : (b : Bool) → nat_lt t n ≡ b → (not b || s t) ≡ (not b || u t)
      go true e = a t e
      go false e = refl

  pub maybe_same : (only : Bool) (t : Option ℕ) (s u : Set) → Agree s u → maybe_wanted n only t s ≡ maybe_wanted n only t u
  maybe_same only None s u a = refl
  maybe_same only (Some t) s u a = wanted_same only t s u a

  pub live_same : (ls ks : Labels) (c : NodesT ℕ) (s u : Set) → AgreeIn ls ks → Agree s u → Agree (live_set ls c s) (live_set ks c u)
  live_same ls ks c s u l a y h = λ i. is_live y (l y h i) c (a y h i)

  pub all_same : (ls ks : Labels) (c : NodesT ℕ) (s u : Set) → AgreeIn ls ks → Agree s u → all_wanted n ls c s ≡ all_wanted n ks c u
  all_same ls ks Stop s u l a = refl
  all_same ls ks (Do o c) s u l a = λ i. maybe_same (only_puts o) (target o) (live_set ls c s) (live_set ks c u) (live_same ls ks c s u l a) i && all_same ls ks c s u l a i
  all_same ls ks (Call t f args c) s u l a = all_same ls ks c s u l a
  all_same ls ks (Choose p d e c) s u l a =
      let k = live_same ls ks c s u l a in
      λ i. all_same ls ks d (live_set ls c s) (live_set ks c u) l k i && (all_same ls ks e (live_set ls c s) (live_set ks c u) l k i && all_same ls ks c s u l a i)
  all_same ls ks (Block b c) s u l a =
      let k = live_same ls ks c s u l a in
      λ i. all_same (in_block (live_set ls c s) ls) (in_block (live_set ks c u) ks) b (live_set ls c s) (live_set ks c u) (λ y h j. label false (k y h j) ∷ l y h j) k i && all_same ls ks c s u l a i
  all_same ls ks (Loop b c) s u l a =
      let k = live_same ls ks c s u l a in
      let d = live_same ls ks (Loop b c) s u l a in
      λ i. all_same (in_loop (live_set ls (Loop b c) s) (live_set ls c s) ls) (in_loop (live_set ks (Loop b c) u) (live_set ks c u) ks) b (live_set ls c s) (live_set ks c u) (λ y h j. label (d y h j) (k y h j) ∷ l y h j) k i && all_same ls ks c s u l a i
  all_same ls ks (Leave k c) s u l a = all_same ls ks c s u l a
  all_same ls ks (Again k c) s u l a = all_same ls ks c s u l a
  all_same ls ks (Return p c) s u l a = all_same ls ks c s u l a

  and_true : (b : Bool) → (b && true) ≡ b
  and_true true = refl
  and_true false = refl

  node_plain : (ls : Labels) (x : NodeT ℕ) (s : Set) → node_wanted n ls x s ≡ all_wanted n ls (before x Stop) s
  node_plain ls x s = sym (and_true (node_wanted n ls x s)) ∙ node_is ls x Stop s

  pub node_same : (ls : Labels) (x : NodeT ℕ) (s u : Set) → Agree s u → node_wanted n ls x s ≡ node_wanted n ls x u
  node_same ls x s u a = node_plain ls x s ∙ all_same ls ls (before x Stop) s u (λ y h. refl) a ∙ sym (node_plain ls x u)

  list_same : (ls ks : Labels) (xs : ListT ℕ) (s u : Set) → AgreeIn ls ks → Agree s u → list_wanted n ls xs s ≡ list_wanted n ks xs u
  list_same ls ks xs s u l a = list_is ls xs s ∙ all_same ls ks (joined xs) s u l a ∙ sym (list_is ks xs u)

  -- ---- what a walk finds

  pub list_step : (ls : Labels) (x : NodeT ℕ) (rest : ListT ℕ) (s u : Set) (here fine : Bool) → ((y : ℕ) → nat_lt y n ≡ true → u y ≡ live_set ls (joined rest) s y) → here ≡ node_wanted n ls x u → fine ≡ list_wanted n ls rest s → (here && fine) ≡ list_wanted n ls (MoreN x rest) s
  list_step ls x rest s u here fine a h f = λ i. (h ∙ node_same ls x u (live_set ls (joined rest) s) a) i && f i

  pub choose_wanted : (ls : Labels) (x : NodeT ℕ) (p : ℕ) (a b : ListT ℕ) (s u : Set) (first second : Bool) → x ≡ ChooseN p a b → u ≡ s → first ≡ list_wanted n ls a u → second ≡ list_wanted n ls b s → (first && second) ≡ node_wanted n ls x s
  choose_wanted ls x p a b s u first second e us f g = (λ i. (f ∙ ap (list_wanted n ls a) us) i && g i) ∙ sym (ap (λ z. node_wanted n ls z s) e)

  pub block_wanted : (ls ks : Labels) (x : NodeT ℕ) (b : ListT ℕ) (s : Set) (fine : Bool) → x ≡ BlockN b → ((y : ℕ) → ks y ≡ label false (s y) ∷ ls y) → fine ≡ list_wanted n ks b s → fine ≡ node_wanted n ls x s
  block_wanted ls ks x b s fine e k f = f ∙ list_same ks (in_block s ls) b s s (λ y h. k y) (λ y h. refl) ∙ sym (ap (λ z. node_wanted n ls z s) e)

  pub loop_wanted : (ls ks : Labels) (x : NodeT ℕ) (b : ListT ℕ) (s u : Set) (fine : Bool) → x ≡ LoopN b → ((y : ℕ) → nat_lt y n ≡ true → ks y ≡ label (live_set ls (Loop (joined b) Stop) s y) (s y) ∷ ls y) → u ≡ s → fine ≡ list_wanted n ks b u → fine ≡ node_wanted n ls x s
  loop_wanted ls ks x b s u fine e k us f = f ∙ ap (list_wanted n ks b) us ∙ list_same ks (in_loop (live_set ls (Loop (joined b) Stop) s) s ls) b s s k (λ y h. refl) ∙ sym (ap (λ z. node_wanted n ls z s) e)

-- ---- by paths

abbrev pub labels_at : List (Frame ℕ) → Labels
labels_at fs y = labels y fs

abbrev pub behind_at : List (Frame ℕ) → Set
behind_at fs y = live_behind y fs

none_some : (q : ℕ) → None ≡ Some q → ⊥
none_some q e = false≢true (ap is_some e)

abbrev some_or : ℕ → Option ℕ → ℕ
some_or d None = d
some_or d (Some q) = q

or_right : (x y : Bool) → y ≡ true → (x || y) ≡ true
or_right true y e = refl
or_right false y e = e

or_second : (x y : Bool) → x ≡ true → (not x || y) ≡ true → y ≡ true
or_second true y e h = h
or_second false y e h = absurd (false≢true e)

module _ (n : ℕ) where
  wanted_live : (only : Bool) (t : Option ℕ) (s : Set) → AllOf (λ q. q < n) (maybe t) → maybe_wanted n only t s ≡ true → only ≡ true → (q : ℕ) → t ≡ Some q → s q ≡ true
  wanted_live only None s m w o q e = absurd (none_some q e)
  wanted_live false (Some t) s m w o q e = absurd (false≢true o)
  wanted_live true (Some t) s m w o q e = subst (λ z. s z ≡ true) (ap (some_or 0) e) (or_second (nat_lt t n) (s t) (lt-ltb t n m.0) w)

  live_wanted : (only : Bool) (t : Option ℕ) (s : Set) → (only ≡ true → (q : ℕ) → t ≡ Some q → s q ≡ true) → maybe_wanted n only t s ≡ true
  live_wanted only None s h = refl
  live_wanted false (Some t) s h = refl
  live_wanted true (Some t) s h = or_right (not (nat_lt t n)) (s t) (h refl t refl)

  pub each_live : (fs : List (Frame ℕ)) (c : NodesT ℕ) → Names (λ q. q < n) c → all_wanted n (labels_at fs) c (behind_at fs) ≡ true → Each IsWanted fs c
  each_live fs Stop m w = tt
  each_live fs (Do o c) m w =
      let s : Set = λ y. is_live_at y fs c in
      let b = both (maybe_wanted n (only_puts o) (target o) s) (all_wanted n (labels_at fs) c (behind_at fs)) w in
      ((λ o1 q e. computed_path q fs c (wanted_live (only_puts o) (target o) s m.0.1 b.0 o1 q e)), each_live fs c m.1 b.1)
  each_live fs (Call t f args c) m w = (tt, each_live fs c m.1 w)
  each_live fs (Choose p a b c) m w =
      let d = both (all_wanted n (labels_at (Branched c ∷ fs)) a (behind_at (Branched c ∷ fs))) (all_wanted n (labels_at (Branched c ∷ fs)) b (behind_at (Branched c ∷ fs)) && all_wanted n (labels_at fs) c (behind_at fs)) w in
      let e = both (all_wanted n (labels_at (Branched c ∷ fs)) b (behind_at (Branched c ∷ fs))) (all_wanted n (labels_at fs) c (behind_at fs)) d.1 in
      (tt, each_live (Branched c ∷ fs) a m.1 d.0, each_live (Branched c ∷ fs) b m.2 e.0, each_live fs c m.3 e.1)
  each_live fs (Block b c) m w =
      let d = both (all_wanted n (labels_at (Blocked c ∷ fs)) b (behind_at (Blocked c ∷ fs))) (all_wanted n (labels_at fs) c (behind_at fs)) w in
      (tt, each_live (Blocked c ∷ fs) b m.0 d.0, each_live fs c m.1 d.1)
  each_live fs (Loop b c) m w =
      let d = both (all_wanted n (labels_at (Looped b c ∷ fs)) b (behind_at (Looped b c ∷ fs))) (all_wanted n (labels_at fs) c (behind_at fs)) w in
      (tt, each_live (Looped b c ∷ fs) b m.0 d.0, each_live fs c m.1 d.1)
  each_live fs (Leave k c) m w = (tt, each_live fs c m w)
  each_live fs (Again k c) m w = (tt, each_live fs c m w)
  each_live fs (Return p c) m w = (tt, each_live fs c m.1 w)

  pub live_each : (fs : List (Frame ℕ)) (c : NodesT ℕ) → Each IsWanted fs c → all_wanted n (labels_at fs) c (behind_at fs) ≡ true
  live_each fs Stop h = refl
  live_each fs (Do o c) h =
      let s : Set = λ y. is_live_at y fs c in
      and_from (maybe_wanted n (only_puts o) (target o) s) (all_wanted n (labels_at fs) c (behind_at fs)) (live_wanted (only_puts o) (target o) s (λ o1 q e. path_computed q fs c (h.0 o1 q e))) (live_each fs c h.1)
  live_each fs (Call t f args c) h = live_each fs c h.1
  live_each fs (Choose p a b c) h =
      and_from (all_wanted n (labels_at (Branched c ∷ fs)) a (behind_at (Branched c ∷ fs))) (all_wanted n (labels_at (Branched c ∷ fs)) b (behind_at (Branched c ∷ fs)) && all_wanted n (labels_at fs) c (behind_at fs)) (live_each (Branched c ∷ fs) a h.1)
      (and_from (all_wanted n (labels_at (Branched c ∷ fs)) b (behind_at (Branched c ∷ fs))) (all_wanted n (labels_at fs) c (behind_at fs)) (live_each (Branched c ∷ fs) b h.2) (live_each fs c h.3))
  live_each fs (Block b c) h = and_from (all_wanted n (labels_at (Blocked c ∷ fs)) b (behind_at (Blocked c ∷ fs))) (all_wanted n (labels_at fs) c (behind_at fs)) (live_each (Blocked c ∷ fs) b h.1) (live_each fs c h.2)
  live_each fs (Loop b c) h = and_from (all_wanted n (labels_at (Looped b c ∷ fs)) b (behind_at (Looped b c ∷ fs))) (all_wanted n (labels_at fs) c (behind_at fs)) (live_each (Looped b c ∷ fs) b h.1) (live_each fs c h.2)
  live_each fs (Leave k c) h = live_each fs c h.1
  live_each fs (Again k c) h = live_each fs c h.1
  live_each fs (Return p c) h = live_each fs c h.1

-- a body, with nothing around it
pub wanted_exact : (n : ℕ) (x : ListT ℕ) (body : NodesT ℕ) (b : Bool) (ls : Labels) (s : Set) → body ≡ joined x → Names (λ q. q < n) body → ((y : ℕ) → ls y ≡ []) → ((y : ℕ) → s y ≡ false) → b ≡ list_wanted n ls x s → (b ≡ true) ↔ Each IsWanted [] body
wanted_exact n x body b ls s e m l a w =
    let is : b ≡ all_wanted n (labels_at []) body (behind_at []) = w ∙ list_is n ls x s ∙ all_same n ls (labels_at []) (joined x) s (behind_at []) (λ y h. l y) (λ y h. a y) ∙ ap (λ c. all_wanted n (labels_at []) c (behind_at [])) (sym e) in
    ((λ t. each_live n [] body m (sym is ∙ t)), (λ h. is ∙ live_each n [] body h))
