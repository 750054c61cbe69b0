-- What is known of temporaries in a stretch of operations, and the operations for one where the words of some locals are held in temporaries.
use Rattle.std.specs.Prelude.{◌≡◌, ℕ, ◌<◌, Bool, true, cond, eqb, List, [], ◌∷◌, Option, Some, None}
use Rattle.kit_base.specs.Word.{add}
use Rattle.mid_code.specs.Code.{OpT, ConstO, NullO, MoveO, OneO, TwoO, GlobalO, LocalO, LiteralO, CardO, StepO, ApartO, PtrTestO, LoadO, StoreO, FreshO}
use Rattle.mid_code.specs.Code.{EndO, InO, OutO, WaitO, HaltO, target}
-- A cell that is no pointer to a local that is held, such a cell that is this word, the address of a word of a local that is held, or anything; and what is
-- noted of a temporary.
pub use Rattle.mid_replace.specs.declared.fact.Fact.{Fact}
pub use Rattle.mid_replace.specs.declared.fact.Fact.TheVariants.{Plain, Word, Place, Any}
pub use Rattle.mid_replace.specs.declared.notes.Note.{Note}

abbrev pub note : ℕ → Fact → Note
note t u = record { temp = t; fact = u }

-- For the code of a function: how many temporaries it names, which locals are held, the temporaries for their words, how many words they have, and what is
-- known of a temporary of which nothing is noted.
pub record Plan : Type 0 where
  pub temps : ℕ
  pub held : ℕ → Bool
  pub variable : (local offset : ℕ) → ℕ
  pub size : ℕ → ℕ
  pub base : ℕ → Fact

-- by the last note
abbrev pub fact_at : (ℕ → Fact) → List Note → ℕ → Fact
fact_at base [] q = base q
fact_at base (x ∷ xs) q = cond (eqb q x.temp) x.fact (fact_at base xs q)

-- the second is known where the first is
abbrev pub Weaker : Fact → Fact → Type 0
Weaker u Any = Unit {0}
Weaker Plain Plain = Unit {0}
Weaker (Word n) Plain = Unit {0}
Weaker (Place k w) Plain = ⊥
Weaker Any Plain = ⊥
Weaker (Word n) (Word m) = n ≡ m
Weaker Plain (Word m) = ⊥
Weaker (Place k w) (Word m) = ⊥
Weaker Any (Word m) = ⊥
Weaker (Place k w) (Place j v) = (k ≡ j) × (w ≡ v)
Weaker Plain (Place j v) = ⊥
Weaker (Word n) (Place j v) = ⊥
Weaker Any (Place j v) = ⊥

-- no pointer to a local that is held
abbrev pub IsPlain : Fact → Type 0
IsPlain Plain = Unit {0}
IsPlain (Word n) = Unit {0}
IsPlain (Place k w) = ⊥
IsPlain Any = ⊥

-- ---- operations

-- what a step makes
abbrev pub stepped_by : (local offset : ℕ) → Fact → Fact
stepped_by k w (Word n) = Place k (add w n)
stepped_by k w _ = Any

abbrev pub step_fact : Fact → Fact → Fact
step_fact Plain n = Plain
step_fact (Word m) n = Plain
step_fact (Place k w) n = stepped_by k w n
step_fact Any n = Any

-- the fact of the target behind an operation
abbrev pub made_fact : Plan → (ℕ → Fact) → OpT ℕ → Fact
made_fact X i (ConstO t n) = Word n
made_fact X i (MoveO t a) = i a
made_fact X i (LocalO t k) = cond (X.held k) (Place k 0) Plain
made_fact X i (StepO t p n) = step_fact (i p) (i n)
made_fact X i _ = Plain

-- of each temporary behind an operation with that target
abbrev pub with_target : Option ℕ → Fact → (ℕ → Fact) → ℕ → Fact
with_target None u i q = i q
with_target (Some t) u i q = cond (eqb q t) u (i q)

abbrev pub facts_behind : Plan → (ℕ → Fact) → OpT ℕ → ℕ → Fact
facts_behind X i o = with_target (target o) (made_fact X i o) i

-- what is known at a second point is known at a first
abbrev pub Follows : (i k : ℕ → Fact) → Type 0
Follows i k = (q : ℕ) → Weaker (i q) (k q)

-- an operation, unless what it makes is an address of a local that is held, or anything
abbrev pub if_plain : Fact → OpT ℕ → List (OpT ℕ)
if_plain Plain o = o ∷ []
if_plain (Word n) o = o ∷ []
if_plain (Place k w) o = []
if_plain Any o = []

abbrev pub by_place : {A : Type 0} → Fact → A → (ℕ → ℕ → A) → A
by_place (Place k w) a go = go k w
by_place Plain a go = a
by_place (Word n) a go = a
by_place Any a go = a

-- the operations for one
abbrev pub replaced_op : Plan → (ℕ → Fact) → OpT ℕ → List (OpT ℕ)
replaced_op X i (MoveO t a) = if_plain (i a) (MoveO t a)
replaced_op X i (LocalO t k) = cond (X.held k) [] (LocalO t k ∷ [])
replaced_op X i (StepO t p n) = if_plain (step_fact (i p) (i n)) (StepO t p n)
replaced_op X i (LoadO t p) = by_place (i p) (LoadO t p ∷ []) (λ k w. MoveO t (X.variable k w) ∷ [])
replaced_op X i (StoreO p a) = by_place (i p) (StoreO p a ∷ []) (λ k w. MoveO (X.variable k w) a ∷ [])
replaced_op X i o = o ∷ []

-- an access at such an address, or at a word of a local that is held
abbrev pub IsAccess : Plan → Fact → Type 0
IsAccess X Plain = Unit {0}
IsAccess X (Word n) = Unit {0}
IsAccess X (Place k w) = (X.held k ≡ true) × (w < X.size k)
IsAccess X Any = ⊥

-- a step of a plain pointer is by a plain word
abbrev pub IsStep : Fact → Fact → Type 0
IsStep Plain n = IsPlain n
IsStep (Word m) n = IsPlain n
IsStep (Place k w) n = Unit {0}
IsStep Any n = Unit {0}

-- the operands of an operation are plain, in a program of so many globals and literals and a function of so many locals
abbrev pub IsFine : Plan → (globals literals : ℕ) → (locals : ℕ) → (ℕ → Fact) → OpT ℕ → Type 0
IsFine X G B m i (ConstO t n) = Unit {0}
IsFine X G B m i (NullO t) = Unit {0}
IsFine X G B m i (MoveO t a) = Unit {0}
IsFine X G B m i (OneO o t a) = IsPlain (i a)
IsFine X G B m i (TwoO o t a b) = IsPlain (i a) × IsPlain (i b)
IsFine X G B m i (GlobalO t k) = k < G
IsFine X G B m i (LocalO t k) = k < m
IsFine X G B m i (LiteralO t k) = k < B
IsFine X G B m i (CardO t) = Unit {0}
IsFine X G B m i (StepO t p n) = IsStep (i p) (i n)
IsFine X G B m i (ApartO t p q) = IsPlain (i p) × IsPlain (i q)
IsFine X G B m i (PtrTestO o t p q) = IsPlain (i p) × IsPlain (i q)
IsFine X G B m i (LoadO t p) = IsAccess X (i p)
IsFine X G B m i (StoreO p a) = IsAccess X (i p) × IsPlain (i a)
IsFine X G B m i (FreshO k) = k < m
IsFine X G B m i (EndO k) = k < m
IsFine X G B m i (InO t port) = Unit {0}
IsFine X G B m i (OutO port a) = IsPlain (i a)
IsFine X G B m i WaitO = Unit {0}
IsFine X G B m i HaltO = Unit {0}
