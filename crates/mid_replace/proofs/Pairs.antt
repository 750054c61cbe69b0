-- Code before and after the words of some locals are held in temporaries, as one tree: nodes that stay, and operations that go or become another.
use Rattle.std.proofs.Common.{◌≡◌, ℕ, zero, suc, ◌<◌, ◌≤◌, ◌⊎◌, inl, inr, max, Bool, true, false, List, [], ◌∷◌, map, Option, refl, sym, subst, arith}
use Rattle.mid_code.specs.Code.{OpT, ConstO, NullO, MoveO, OneO, TwoO, GlobalO, LocalO, LiteralO, CardO, StepO, ApartO, PtrTestO, LoadO, StoreO, FreshO, EndO, InO, OutO, WaitO, HaltO, NodesT, Stop, Do, Call, Choose, Block, Loop, Leave, Again, Return, CodeT, maybe, node_uses, node_target}
use Rattle.mid_code.specs.Invariants.{IsOp, IsCall, AreNodes, AllOf, NodeNames, Names}
use Rattle.mid_code.specs.Calls.{loops, nesting, CallsTo, AddsNone}
use Rattle.mid_code.specs.States.{op_weight}
use Rattle.mid_code.specs.Runs.{nodes_weight}
use Rattle.mid_code.specs.Paths.{Frame, Branched, Blocked, Looped, Point, at, behind, leaving, repeating, SomePoint}
use Rattle.mid_code.specs.Open.{open_behind, Comes, LiveAtOnce}
use Rattle.mid_code.proofs.Opened.{some_long}

-- an operation that may go
pub data Gone : Type 0 where
  move : (t a : ℕ) → Gone
  local : (t k : ℕ) → Gone
  step : (t p n : ℕ) → Gone

abbrev pub gone_op : Gone → OpT ℕ
gone_op (move t a) = MoveO t a
gone_op (local t k) = LocalO t k
gone_op (step t p n) = StepO t p n

-- a load or a store at a word that is held, where it is in a temporary below this number
pub data Moved (T : ℕ) : Type 0 where
  loaded : (t p v : ℕ) → v < T → Moved T
  stored : (p a v : ℕ) → v < T → Moved T

abbrev pub access_op : {T : ℕ} → Moved T → OpT ℕ
access_op (loaded t p v l) = LoadO t p
access_op (stored p a v l) = StoreO p a

abbrev pub move_op : {T : ℕ} → Moved T → OpT ℕ
move_op (loaded t p v l) = MoveO t v
move_op (stored p a v l) = MoveO v a

pub data Pair (T : ℕ) : Type 0 where
  stopP : Pair T
  goneP : (o : Gone) (c : Pair T) → Pair T
  movedP : (o : Moved T) (c : Pair T) → Pair T
  doP : (o : OpT ℕ) (c : Pair T) → Pair T
  callP : (t : Option ℕ) (f : ℕ) (args : List ℕ) (c : Pair T) → Pair T
  chooseP : (p : ℕ) (a b c : Pair T) → Pair T
  blockP : (b c : Pair T) → Pair T
  loopP : (b c : Pair T) → Pair T
  leaveP : (k : ℕ) (c : Pair T) → Pair T
  againP : (k : ℕ) (c : Pair T) → Pair T
  returnP : (p : Option ℕ) (c : Pair T) → Pair T

module _ {T : ℕ} where
  abbrev pub old : Pair T → NodesT ℕ
  old stopP = Stop
  old (goneP o c) = Do (gone_op o) (old c)
  old (movedP o c) = Do (access_op o) (old c)
  old (doP o c) = Do o (old c)
  old (callP t f args c) = Call t f args (old c)
  old (chooseP p a b c) = Choose p (old a) (old b) (old c)
  old (blockP b c) = Block (old b) (old c)
  old (loopP b c) = Loop (old b) (old c)
  old (leaveP k c) = Leave k (old c)
  old (againP k c) = Again k (old c)
  old (returnP p c) = Return p (old c)

  abbrev pub new : Pair T → NodesT ℕ
  new stopP = Stop
  new (goneP o c) = new c
  new (movedP o c) = Do (move_op o) (new c)
  new (doP o c) = Do o (new c)
  new (callP t f args c) = Call t f args (new c)
  new (chooseP p a b c) = Choose p (new a) (new b) (new c)
  new (blockP b c) = Block (new b) (new c)
  new (loopP b c) = Loop (new b) (new c)
  new (leaveP k c) = Leave k (new c)
  new (againP k c) = Again k (new c)
  new (returnP p c) = Return p (new c)

  -- ---- loops, calls, nesting, weight

  loops_same : (w : Pair T) → loops (new w) ≡ loops (old w)
  loops_same stopP = refl
  loops_same (goneP o c) = loops_same c
  loops_same (movedP o c) = loops_same c
  loops_same (doP o c) = loops_same c
  loops_same (callP t f args c) = loops_same c
  loops_same (chooseP p a b c) = let e = loops_same a in let f = loops_same b in let g = loops_same c in omega (arith, e, f, g)
  loops_same (blockP b c) = let e = loops_same b in let f = loops_same c in omega (arith, e, f)
  loops_same (loopP b c) = let e = loops_same b in let f = loops_same c in omega (arith, e, f)
  loops_same (leaveP k c) = loops_same c
  loops_same (againP k c) = loops_same c
  loops_same (returnP p c) = loops_same c

  calls_before : (g : ℕ) (w : Pair T) → CallsTo g (new w) → CallsTo g (old w)
  calls_before g stopP r = r
  calls_before g (goneP o c) r = calls_before g c r
  calls_before g (movedP o c) r = calls_before g c r
  calls_before g (doP o c) r = calls_before g c r
  calls_before g (callP t f args c) r = elim r [ inl e ↦ inl e | inr q ↦ inr (calls_before g c q) ]
  calls_before g (chooseP p a b c) r = elim r [ inl q ↦ inl (calls_before g a q) | inr u ↦ elim u [ inl q ↦ inr (inl (calls_before g b q)) | inr q ↦ inr (inr (calls_before g c q)) ] ]
  calls_before g (blockP b c) r = elim r [ inl q ↦ inl (calls_before g b q) | inr q ↦ inr (calls_before g c q) ]
  calls_before g (loopP b c) r = elim r [ inl q ↦ inl (calls_before g b q) | inr q ↦ inr (calls_before g c q) ]
  calls_before g (leaveP k c) r = calls_before g c r
  calls_before g (againP k c) r = calls_before g c r
  calls_before g (returnP p c) r = calls_before g c r

  pub adds_none : (w : Pair T) → AddsNone (old w) (new w)
  adds_none w = record { loop_count = let e = loops_same w in omega (arith, e); calls = λ g. calls_before g w }

  pub nests : (w : Pair T) → nesting (new w) ≡ nesting (old w)
  nests stopP = refl
  nests (goneP o c) = nests c
  nests (movedP o c) = nests c
  nests (doP o c) = nests c
  nests (callP t f args c) = nests c
  nests (chooseP p a b c) = let e = nests a in let f = nests b in let g = nests c in λ i. max (suc (max (e i) (f i))) (g i)
  nests (blockP b c) = let e = nests b in let f = nests c in λ i. max (suc (e i)) (f i)
  nests (loopP b c) = let e = nests b in let f = nests c in λ i. max (suc (e i)) (f i)
  nests (leaveP k c) = nests c
  nests (againP k c) = nests c
  nests (returnP p c) = nests c

  move_weight : (o : Moved T) → op_weight (move_op o) ≤ op_weight (access_op o)
  move_weight (loaded t p v l) = omega arith
  move_weight (stored p a v l) = omega arith

  pub lighter : (w : Pair T) → nodes_weight (new w) ≤ nodes_weight (old w)
  lighter stopP = omega arith
  lighter (goneP o c) = let a = lighter c in omega (arith, a)
  lighter (movedP o c) = let a = move_weight o in let b = lighter c in omega (arith, a, b)
  lighter (doP o c) = let a = lighter c in omega (arith, a)
  lighter (callP t f args c) = let a = lighter c in omega (arith, a)
  lighter (chooseP p a b c) = let e = lighter a in let f = lighter b in let g = lighter c in omega (arith, e, f, g)
  lighter (blockP b c) = let e = lighter b in let f = lighter c in omega (arith, e, f)
  lighter (loopP b c) = let e = lighter b in let f = lighter c in omega (arith, e, f)
  lighter (leaveP k c) = let a = lighter c in omega (arith, a)
  lighter (againP k c) = let a = lighter c in omega (arith, a)
  lighter (returnP p c) = let a = lighter c in omega (arith, a)

  -- ---- it is mid code

  module _ (x y : CodeT ℕ) (m : ℕ) (ops : (o : OpT ℕ) → IsOp x m o → IsOp y m o) (calls : (g : ℕ) (args : List ℕ) → IsCall x g args → IsCall y g args) where
    move_is : (o : Moved T) → IsOp y m (move_op o)
    move_is (loaded t p v l) = tt
    move_is (stored p a v l) = tt

    pub nodes_ok : (ls : List Bool) (w : Pair T) → AreNodes x m ls (old w) → AreNodes y m ls (new w)
    nodes_ok ls stopP n = tt
    nodes_ok ls (goneP o c) n = nodes_ok ls c n.1
    nodes_ok ls (movedP o c) n = (move_is o, nodes_ok ls c n.1)
    nodes_ok ls (doP o c) n = (ops o n.0, nodes_ok ls c n.1)
    nodes_ok ls (callP t g args c) n = (calls g args n.0, nodes_ok ls c n.1)
    nodes_ok ls (chooseP p a b c) n = (nodes_ok ls a n.0, nodes_ok ls b n.1, nodes_ok ls c n.2)
    nodes_ok ls (blockP b c) n = (nodes_ok (false ∷ ls) b n.0, nodes_ok ls c n.1)
    nodes_ok ls (loopP b c) n = (nodes_ok (true ∷ ls) b n.0, nodes_ok ls c n.1)
    nodes_ok ls (leaveP k c) n = (n.0, nodes_ok ls c n.1)
    nodes_ok ls (againP k c) n = (n.0, nodes_ok ls c n.1)
    nodes_ok ls (returnP p c) n = nodes_ok ls c n

  pub all_more : (S : ℕ) → S ≤ T → (ts : List ℕ) → AllOf (λ t. t < S) ts → AllOf (λ t. t < T) ts
  all_more S more [] n = tt
  all_more S more (t ∷ ts) n = (let a = n.0 in omega (arith, a, more), all_more S more ts n.1)

  module _ (S : ℕ) (more : S ≤ T) where
    node_more : (d : NodesT ℕ) → NodeNames (λ t. t < S) d → NodeNames (λ t. t < T) d
    node_more d n = (all_more S more (node_uses d) n.0, all_more S more (maybe (node_target d)) n.1)

    node_moved : (o : Moved T) (c d : NodesT ℕ) → NodeNames (λ t. t < S) (Do (access_op o) c) → NodeNames (λ t. t < T) (Do (move_op o) d)
    node_moved (loaded t p v l) c d n = ((l, tt), all_more S more (t ∷ []) n.1)
    node_moved (stored p a v l) c d n = (all_more S more (a ∷ []) n.0.1, (l, tt))

    pub names_ok : (w : Pair T) → Names (λ t. t < S) (old w) → Names (λ t. t < T) (new w)
    names_ok stopP n = tt
    names_ok (goneP o c) n = names_ok c n.1
    names_ok (movedP o c) n = (node_moved o (old c) (new c) n.0, names_ok c n.1)
    names_ok (doP o c) n = (node_more (Do o (old c)) n.0, names_ok c n.1)
    names_ok (callP t g args c) n = (node_more (Call t g args (old c)) n.0, names_ok c n.1)
    names_ok (chooseP p a b c) n = (node_more (Choose p (old a) (old b) (old c)) n.0, names_ok a n.1, names_ok b n.2, names_ok c n.3)
    names_ok (blockP b c) n = (names_ok b n.0, names_ok c n.1)
    names_ok (loopP b c) n = (names_ok b n.0, names_ok c n.1)
    names_ok (leaveP k c) n = names_ok c n
    names_ok (againP k c) n = names_ok c n
    names_ok (returnP p c) n = (node_more (Return p (old c)) n.0, names_ok c n.1)

-- ---- locals that lived at once do so still

abbrev Goes : List ℕ → List ℕ → Point ℕ → Type 0
Goes ks made p = (m : ℕ) × Comes ks m made p

-- an operation that makes or ends no local
gone_open : (o : Gone) (made : List ℕ) (c : NodesT ℕ) → open_behind made (Do (gone_op o) c) ≡ made
gone_open (move t a) made c = refl
gone_open (local t k) made c = refl
gone_open (step t p n) made c = refl

same_open : (o : OpT ℕ) (made : List ℕ) (c d : NodesT ℕ) → open_behind made (Do o c) ≡ open_behind made (Do o d)
same_open (FreshO k) made c d = refl
same_open (EndO k) made c d = refl
same_open (ConstO t n) made c d = refl
same_open (NullO t) made c d = refl
same_open (MoveO t a) made c d = refl
same_open (OneO o t a) made c d = refl
same_open (TwoO o t a b) made c d = refl
same_open (GlobalO t k) made c d = refl
same_open (LocalO t k) made c d = refl
same_open (LiteralO t k) made c d = refl
same_open (CardO t) made c d = refl
same_open (StepO t p n) made c d = refl
same_open (ApartO t p q) made c d = refl
same_open (PtrTestO o t p q) made c d = refl
same_open (LoadO t p) made c d = refl
same_open (StoreO p a) made c d = refl
same_open (InO t port) made c d = refl
same_open (OutO port a) made c d = refl
same_open WaitO made c d = refl
same_open HaltO made c d = refl

only : {Q : Type 0} → Q ⊎ ⊥ → Q
only s = elim s [ inl r ↦ r | inr r ↦ absurd r ]

module _ (T : ℕ) where
  pub data FrameP : Type 0 where
    branched : (c : Pair T) → FrameP
    blocked : (c : Pair T) → FrameP
    looped : (b c : Pair T) → FrameP

  abbrev old_frame : FrameP → Frame ℕ
  old_frame (branched c) = Branched (old c)
  old_frame (blocked c) = Blocked (old c)
  old_frame (looped b c) = Looped (old b) (old c)

  abbrev new_frame : FrameP → Frame ℕ
  new_frame (branched c) = Branched (new c)
  new_frame (blocked c) = Blocked (new c)
  new_frame (looped b c) = Looped (new b) (new c)

  pub record PointP : Type 0 where
    pub frames : List FrameP
    pub code : Pair T

  abbrev atP : List FrameP → Pair T → PointP
  atP fs c = record { frames = fs; code = c }

  abbrev old_point : PointP → Point ℕ
  old_point p = at (map old_frame p.frames) (old p.code)

  abbrev new_point : PointP → Point ℕ
  new_point p = at (map new_frame p.frames) (new p.code)

  -- the points of both that come next, where the list has ended or is left
  abbrev behindP : List FrameP → List PointP
  behindP [] = []
  behindP (branched c ∷ fs) = atP fs c ∷ []
  behindP (blocked c ∷ fs) = atP fs c ∷ []
  behindP (looped b c ∷ fs) = atP fs c ∷ []

  abbrev leavingP : List FrameP → ℕ → List PointP
  leavingP [] k = []
  leavingP (branched c ∷ fs) k = leavingP fs k
  leavingP (blocked c ∷ fs) zero = atP fs c ∷ []
  leavingP (blocked c ∷ fs) (suc k) = leavingP fs k
  leavingP (looped b c ∷ fs) zero = atP fs c ∷ []
  leavingP (looped b c ∷ fs) (suc k) = leavingP fs k

  abbrev repeatingP : List FrameP → ℕ → List PointP
  repeatingP [] k = []
  repeatingP (branched c ∷ fs) k = repeatingP fs k
  repeatingP (blocked c ∷ fs) zero = []
  repeatingP (blocked c ∷ fs) (suc k) = repeatingP fs k
  repeatingP (looped b c ∷ fs) zero = atP (looped b c ∷ fs) b ∷ []
  repeatingP (looped b c ∷ fs) (suc k) = repeatingP fs k

  abbrev Are : List PointP → List (Point ℕ) → List (Point ℕ) → Type 0
  Are ps qs rs = (qs ≡ map old_point ps) × (rs ≡ map new_point ps)

  behind_are : (fs : List FrameP) → Are (behindP fs) (behind (map old_frame fs)) (behind (map new_frame fs))
  behind_are [] = (refl, refl)
  behind_are (branched c ∷ fs) = (refl, refl)
  behind_are (blocked c ∷ fs) = (refl, refl)
  behind_are (looped b c ∷ fs) = (refl, refl)

  leaving_are : (fs : List FrameP) (k : ℕ) → Are (leavingP fs k) (leaving (map old_frame fs) k) (leaving (map new_frame fs) k)
  leaving_are [] k = (refl, refl)
  leaving_are (branched c ∷ fs) k = leaving_are fs k
  leaving_are (blocked c ∷ fs) zero = (refl, refl)
  leaving_are (blocked c ∷ fs) (suc k) = leaving_are fs k
  leaving_are (looped b c ∷ fs) zero = (refl, refl)
  leaving_are (looped b c ∷ fs) (suc k) = leaving_are fs k

  repeating_are : (fs : List FrameP) (k : ℕ) → Are (repeatingP fs k) (repeating (map old_frame fs) k) (repeating (map new_frame fs) k)
  repeating_are [] k = (refl, refl)
  repeating_are (branched c ∷ fs) k = repeating_are fs k
  repeating_are (blocked c ∷ fs) zero = (refl, refl)
  repeating_are (blocked c ∷ fs) (suc k) = repeating_are fs k
  repeating_are (looped b c ∷ fs) zero = (refl, refl)
  repeating_are (looped b c ∷ fs) (suc k) = repeating_are fs k

  some_to : (Q R : Point ℕ → Type 0) → ((r : PointP) → Q (old_point r) → R (new_point r)) → (ps : List PointP) → SomePoint Q (map old_point ps) → SomePoint R (map new_point ps)
  some_to Q R f [] s = s
  some_to Q R f (p ∷ ps) s = elim s [ inl r ↦ inl (f p r) | inr r ↦ inr (some_to Q R f ps r) ]

  module _ (ks : List ℕ) where
    step_by : (n : ℕ) (made : List ℕ) (ps : List PointP) (qs rs : List (Point ℕ)) → Are ps qs rs → ((r : PointP) → Comes ks n made (old_point r) → Goes ks made (new_point r))
        → SomePoint (λ r. Comes ks n made r) qs → (m : ℕ) × SomePoint (λ r. Comes ks m made r) rs
    step_by n made ps qs rs e f w =
        let v = subst (SomePoint (λ r. Comes ks n made r)) e.0 w in
        let r = some_long (λ m r. Comes ks m made r) (map new_point ps) (some_to (λ r. Comes ks n made r) (λ r. Goes ks made r) f ps v) in
        (r.0, subst (SomePoint (λ r'. Comes ks r.0 made r')) (sym e.1) r.1)

    access_open : (o : Moved T) (made : List ℕ) (c : NodesT ℕ) → open_behind made (Do (access_op o) c) ≡ made
    access_open (loaded t p v l) made c = refl
    access_open (stored p a v l) made c = refl

    move_open : (o : Moved T) (made : List ℕ) (c : NodesT ℕ) → made ≡ open_behind made (Do (move_op o) c)
    move_open (loaded t p v l) made c = refl
    move_open (stored p a v l) made c = refl

    walk : (n : ℕ) (fs : List FrameP) (w : Pair T) (made : List ℕ) → Comes ks n made (old_point (atP fs w)) → Goes ks made (new_point (atP fs w))
    walk zero fs w made r = (0, r)
    walk (suc n) fs (goneP o c) made r =
        walk n fs c made (subst (λ made'. Comes ks n made' (old_point (atP fs c))) (gone_open o made (old c)) (only r))
    walk (suc n) fs (movedP o c) made r =
        let s = walk n fs c made (subst (λ made'. Comes ks n made' (old_point (atP fs c))) (access_open o made (old c)) (only r)) in
        (suc s.0, inl (subst (λ made'. Comes ks s.0 made' (new_point (atP fs c))) (move_open o made (new c)) s.1))
    walk (suc n) fs (doP o c) made r =
        let s = walk n fs c (open_behind made (Do o (old c))) (only r) in
        (suc s.0, inl (subst (λ made'. Comes ks s.0 made' (new_point (atP fs c))) (same_open o made (old c) (new c)) s.1))
    walk (suc n) fs (callP t g args c) made r = let s = walk n fs c made (only r) in (suc s.0, inl s.1)
    walk (suc n) fs stopP made r = let s = step_by n made (behindP fs) _ _ (behind_are fs) (λ p. walk n p.frames p.code made) r in (suc s.0, s.1)
    walk (suc n) fs (chooseP p a b c) made r =
        let s = step_by n made (atP (branched c ∷ fs) a ∷ atP (branched c ∷ fs) b ∷ []) _ _ (refl, refl) (λ p. walk n p.frames p.code made) r in (suc s.0, s.1)
    walk (suc n) fs (blockP b c) made r = let s = step_by n made (atP (blocked c ∷ fs) b ∷ []) _ _ (refl, refl) (λ p. walk n p.frames p.code made) r in (suc s.0, s.1)
    walk (suc n) fs (loopP b c) made r = let s = step_by n made (atP (looped b c ∷ fs) b ∷ []) _ _ (refl, refl) (λ p. walk n p.frames p.code made) r in (suc s.0, s.1)
    walk (suc n) fs (leaveP k c) made r = let s = step_by n made (leavingP fs k) _ _ (leaving_are fs k) (λ p. walk n p.frames p.code made) r in (suc s.0, s.1)
    walk (suc n) fs (againP k c) made r = let s = step_by n made (repeatingP fs k) _ _ (repeating_are fs k) (λ p. walk n p.frames p.code made) r in (suc s.0, s.1)
    walk (suc n) fs (returnP p c) made r = absurd r

    pub at_once : (w : Pair T) → LiveAtOnce (old w) ks → LiveAtOnce (new w) ks
    at_once w l = walk l.0 [] w [] l.1
