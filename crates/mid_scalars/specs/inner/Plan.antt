-- A plan of promotion, and the code by it.
use Rattle.std.specs.Prelude.{◌≡◌, ℕ, suc, ◌<◌, Bool, true, false, cond, List, [], ◌∷◌, Option}
use Rattle.mid_code.specs.Code.{OpT, MoveO, GlobalO, LocalO, LiteralO, LoadO, StoreO, FreshO, EndO, NodesT, Stop, Do, Call, Choose, Block, Loop}
use Rattle.mid_code.specs.Code.{Leave, Again, Return, maybe, uses, target}
use Rattle.mid_code.specs.inner.Passing.{doing}

-- What a temporary is: its own, the address of a promoted local, or the cell of one.
pub data Kind : Type 0 where
  Own : Kind
  Address : (local : ℕ) → Kind
  Variable : (local : ℕ) → Kind

-- For the code of a function, none for the start: which locals are promoted, the temporaries for them, the kinds of temporaries, and the new
-- numbers of the other locals.
pub record Plan : Type 0 where
  pub promoted : Option ℕ → ℕ → Bool
  pub variable : Option ℕ → ℕ → ℕ
  pub kind : Option ℕ → ℕ → Kind
  pub moved : Option ℕ → ℕ → ℕ

abbrev pub by_kind : {A : Type 0} → Kind → A → (ℕ → A) → A
by_kind Own a go = a
by_kind (Address k) a go = go k
by_kind (Variable k) a go = a

-- the operations for one
abbrev pub promoted_op : Plan → Option ℕ → OpT ℕ → List (OpT ℕ)
promoted_op X f (LocalO t k) = cond (X.promoted f k) [] (LocalO t (X.moved f k) ∷ [])
promoted_op X f (LoadO t p) = by_kind (X.kind f p) (LoadO t p ∷ []) (λ k. MoveO t (X.variable f k) ∷ [])
promoted_op X f (StoreO p a) = by_kind (X.kind f p) (StoreO p a ∷ []) (λ k. MoveO (X.variable f k) a ∷ [])
promoted_op X f (FreshO k) = cond (X.promoted f k) [] (FreshO (X.moved f k) ∷ [])
promoted_op X f (EndO k) = cond (X.promoted f k) [] (EndO (X.moved f k) ∷ [])
promoted_op X f o = o ∷ []

abbrev pub promoted_nodes : Plan → Option ℕ → NodesT ℕ → NodesT ℕ
promoted_nodes X f Stop = Stop
promoted_nodes X f (Do o c) = doing (promoted_op X f o) (promoted_nodes X f c)
promoted_nodes X f (Call t g args c) = Call t g args (promoted_nodes X f c)
promoted_nodes X f (Choose p a b c) = Choose p (promoted_nodes X f a) (promoted_nodes X f b) (promoted_nodes X f c)
promoted_nodes X f (Block b c) = Block (promoted_nodes X f b) (promoted_nodes X f c)
promoted_nodes X f (Loop b c) = Loop (promoted_nodes X f b) (promoted_nodes X f c)
promoted_nodes X f (Leave k c) = Leave k (promoted_nodes X f c)
promoted_nodes X f (Again k c) = Again k (promoted_nodes X f c)
promoted_nodes X f (Return p c) = Return p (promoted_nodes X f c)

-- ---- what makes a plan good

abbrev pub AllOwn : Plan → Option ℕ → List ℕ → Type 0
AllOwn X f [] = Unit {0}
AllOwn X f (a ∷ bs) = (X.kind f a ≡ Own) × AllOwn X f bs

-- an own temporary, or the address of a promoted local
abbrev pub IsAddress : Plan → Option ℕ → Kind → Type 0
IsAddress X f Own = Unit {0}
IsAddress X f (Address k) = X.promoted f k ≡ true
IsAddress X f (Variable k) = ⊥

abbrev pub Takes : Plan → Option ℕ → (t k : ℕ) → Bool → Type 0
Takes X f t k true = X.kind f t ≡ Address k
Takes X f t k false = X.kind f t ≡ Own

-- the temporaries of an operation are of the right kinds, in a program of so many globals and literals and a function of so many locals
abbrev pub GoodOp : Plan → (globals literals : ℕ) → Option ℕ → (locals : ℕ) → OpT ℕ → Type 0
GoodOp X G B f m (LocalO t k) = (k < m) × Takes X f t k (X.promoted f k)
GoodOp X G B f m (GlobalO t k) = (X.kind f t ≡ Own) × (k < G)
GoodOp X G B f m (LiteralO t k) = (X.kind f t ≡ Own) × (k < B)
GoodOp X G B f m (LoadO t p) = (X.kind f t ≡ Own) × IsAddress X f (X.kind f p)
GoodOp X G B f m (StoreO p a) = (X.kind f a ≡ Own) × IsAddress X f (X.kind f p)
GoodOp X G B f m (FreshO k) = k < m
GoodOp X G B f m (EndO k) = k < m
GoodOp X G B f m o = AllOwn X f (maybe (target o)) × AllOwn X f (uses o)

-- inside so many blocks and loops
abbrev pub GoodNodes : Plan → (globals literals : ℕ) → Option ℕ → (locals depth : ℕ) → NodesT ℕ → Type 0
GoodNodes X G B f m n Stop = Unit {0}
GoodNodes X G B f m n (Do o c) = GoodOp X G B f m o × GoodNodes X G B f m n c
GoodNodes X G B f m n (Call t g args c) = AllOwn X f (maybe t) × AllOwn X f args × GoodNodes X G B f m n c
GoodNodes X G B f m n (Choose p a b c) = (X.kind f p ≡ Own) × GoodNodes X G B f m n a × GoodNodes X G B f m n b × GoodNodes X G B f m n c
GoodNodes X G B f m n (Block b c) = GoodNodes X G B f m (suc n) b × GoodNodes X G B f m n c
GoodNodes X G B f m n (Loop b c) = GoodNodes X G B f m (suc n) b × GoodNodes X G B f m n c
GoodNodes X G B f m n (Leave k c) = (k < n) × GoodNodes X G B f m n c
GoodNodes X G B f m n (Again k c) = (k < n) × GoodNodes X G B f m n c
GoodNodes X G B f m n (Return p c) = AllOwn X f (maybe p) × GoodNodes X G B f m n c
