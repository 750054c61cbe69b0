-- Forward propagation leaves no operator whose words are known, and no operand that is a copy.
use Rattle.std.proofs.Common.{◌≡◌, ℕ, ◌<◌, ◌^◌, Bool, true, false, not, cond, eqb, nat_lt, ltb-true, lt-ltb, ◌&&◌, List, [], ◌∷◌, map, is_some, Option, Some, None, refl, sym, ap, subst, ◌∙◌}
use Rattle.std.proofs.lemmas.Bool.{and_from, false≢true}
use Rattle.std.specs.List.{list_all}
use Rattle.std.specs.Prelude.{◌==◌, if◌then◌else◌}
use Rattle.kit_base.specs.Word.{quotient, remainder}
use Rattle.v32_isa.specs.declared.instruction.One.{One}
use Rattle.v32_isa.specs.declared.instruction.One.TheVariants.{PUSH, POP, CMPS, CIB, NOT, BNOT, ISGN, IABS}
use Rattle.v32_isa.specs.declared.instruction.Two.{Two}
use Rattle.v32_isa.specs.declared.instruction.Two.TheVariants.{IEQ, INE, IGT, IGE, ILT, ILE, AND, OR, XOR, SHL, IADD, ISUB, IMUL, IDIV, IMOD, IMIN, IMAX}
use Rattle.v32_isa.specs.Arithmetic.{one_of, two_of}
use Rattle.mid_code.specs.Code.{OpT, ConstO, NullO, MoveO, OneO, TwoO, GlobalO, LocalO, LiteralO, CardO, StepO, ApartO, PtrTestO, LoadO, StoreO, FreshO, EndO, InO, OutO, WaitO, HaltO}
use Rattle.mid_code.specs.Code.{NodesT, Stop, Do, Call, Choose, Block, Loop, Leave, Again, Return, CodeT, uses}
use Rattle.mid_code.specs.Invariants.{IsOne, IsOp, AreNodes}
use Rattle.mid_fold.specs.Lasting.{divides}
use Rattle.mid_improve.specs.Settled.{is_zero, nodes_settled}
use Rattle.mid_improve.specs.inner.Facts.{Fact, IsWord, IsCopy, Known, none_known, fact_word, fact_source, unless_copy, behind, behind_maybe, with_fact, known_behind, folds, is_no_copy, all_settled}
use Rattle.mid_fold.specs.Lasting.{one_known, two_known}
use Rattle.mid_improve.specs.inner.Forward.{or_itself, serves, word_or, forwarded_op, forwarded}
use Rattle.mid_improve.proofs.Holding.{turned}
use Rattle.mid_improve.proofs.Acting.{stays}
use Rattle.mid_improve.proofs.Joined.{settled_by, none_tells}

-- ---- words are below 2 ^ 32, and nothing is known of what a copy is a copy of

abbrev pub IsClean : Known → Option Fact → Type 0
IsClean k None = Unit {0}
IsClean k (Some (IsWord word)) = word < 2 ^ 32
IsClean k (Some (IsCopy a)) = k a ≡ None

abbrev pub Clean : Known → Type 0
Clean k = (q : ℕ) → IsClean k (k q)

none_clean : Clean none_known
none_clean q = tt

clean_behind : (k : Known) (t : ℕ) → Clean k → Clean (behind k t)
clean_behind k t c q = go (eqb t q) (k q) (c q)
  where
    copy : (a : ℕ) → k a ≡ None → (x : Bool) → eqb t a ≡ x → IsClean (behind k t) (cond x None (Some (IsCopy a)))
    copy a h true m = tt
    copy a h false m = λ i. cond (m i) None (unless_copy t (h i))

    go : (x : Bool) (f : Option Fact) → IsClean k f → IsClean (behind k t) (cond x None (unless_copy t f))
    go true f h = tt
    go false None h = tt
    go false (Some (IsWord word)) h = h
    go false (Some (IsCopy a)) h = copy a h (eqb t a) refl

clean_maybe : (k : Known) (t : Option ℕ) → Clean k → Clean (behind_maybe k t)
clean_maybe k None c = c
clean_maybe k (Some t) c = clean_behind k t c

clean_with : (k : Known) (t : ℕ) (f : Fact) → IsClean (with_fact t f (behind k t)) (Some f) → Clean k → Clean (with_fact t f (behind k t))
clean_with k t f n c q = go (eqb t q) (k q) (c q)
  where
    copy : (a : ℕ) → k a ≡ None → (x : Bool) → eqb t a ≡ x → IsClean (with_fact t f (behind k t)) (cond x None (Some (IsCopy a)))
    copy a h true m = tt
    copy a h false m = λ i. cond (m i) (Some f) (cond (m i) None (unless_copy t (h i)))

    go : (x : Bool) (p : Option Fact) → IsClean k p → IsClean (with_fact t f (behind k t)) (cond x (Some f) (cond x None (unless_copy t p)))
    go true p h = n
    go false None h = tt
    go false (Some (IsWord word)) h = h
    go false (Some (IsCopy a)) h = copy a h (eqb t a) refl

-- ---- what serves

module _ (k : Known) (c : Clean k) (q : ℕ) where
  pub serves_no_copy : fact_source (k (serves k q)) ≡ None
  serves_no_copy = go (k q) refl (c q)
    where
      go : (f : Option Fact) → k q ≡ f → IsClean k f → fact_source (k (or_itself q (fact_source f))) ≡ None
      go None e h = ap fact_source e
      go (Some (IsWord word)) e h = ap fact_source e
      go (Some (IsCopy a)) e h = ap fact_source h

  pub serves_word : fact_word (k (serves k q)) ≡ fact_word (k q)
  serves_word = go (k q) refl (c q)
    where
      go : (f : Option Fact) → k q ≡ f → IsClean k f → fact_word (k (or_itself q (fact_source f))) ≡ fact_word f
      go None e h = ap fact_word e
      go (Some (IsWord word)) e h = ap fact_word e
      go (Some (IsCopy a)) e h = ap fact_word h

  pub serves_settled : is_no_copy k (serves k q) ≡ true
  serves_settled = ap (λ o. not (is_some o)) serves_no_copy

  pub word_fits : (w : ℕ) → fact_word (k q) ≡ Some w → w < 2 ^ 32
  word_fits w e = go (k q) (c q) e
    where
      go : (f : Option Fact) → IsClean k f → fact_word f ≡ Some w → w < 2 ^ 32
      go None h g = absurd cc
      go (Some (IsWord word)) h g = let same : word ≡ w = cc in subst (λ z. z < 2 ^ 32) same h
      go (Some (IsCopy a)) h g = absurd cc

nothing : (f : Option Fact) → fact_word f ≡ None → fact_source f ≡ None → f ≡ None
nothing None e g = refl
nothing (Some (IsWord word)) e g = absurd cc
nothing (Some (IsCopy a)) e g = absurd cc

all_served : (k : Known) → Clean k → (qs : List ℕ) → list_all (is_no_copy k) (map (serves k) qs) ≡ true
all_served k c [] = refl
all_served k c (q ∷ qs) = and_from (is_no_copy k (serves k q)) (list_all (is_no_copy k) (map (serves k) qs)) (serves_settled k c q) (all_served k c qs)

-- ---- operators on known words make words, but for a division by 0

one_makes : (o : One) (x : ℕ) → IsOne o → one_of o x ≡ None → ⊥
one_makes CIB x h e = cc
one_makes NOT x h e = cc
one_makes BNOT x h e = cc
one_makes ISGN x h e = cc
one_makes IABS x h e = cc
one_makes PUSH x h e = h
one_makes POP x h e = h
one_makes CMPS x h e = h

by_zero : (b : Bool) (w : ℕ) → (if b then None else Some w) ≡ None → b ≡ true
by_zero true w e = refl
by_zero false w e = absurd cc

two_makes : (o : Two) (x y : ℕ) → two_of o x y ≡ None → (divides o && is_zero (Some y)) ≡ true
two_makes IDIV x y e = by_zero (y == 0) (quotient x y) e
two_makes IMOD x y e = by_zero (y == 0) (remainder x y) e
two_makes IEQ x y e = absurd cc
two_makes INE x y e = absurd cc
two_makes IGT x y e = absurd cc
two_makes IGE x y e = absurd cc
two_makes ILT x y e = absurd cc
two_makes ILE x y e = absurd cc
two_makes AND x y e = absurd cc
two_makes OR x y e = absurd cc
two_makes XOR x y e = absurd cc
two_makes SHL x y e = absurd cc
two_makes IADD x y e = absurd cc
two_makes ISUB x y e = absurd cc
two_makes IMUL x y e = absurd cc
two_makes IMIN x y e = absurd cc
two_makes IMAX x y e = absurd cc

-- what operators make of words is below 2 ^ 32
pub record Fits : Type 0 where
  pub one : (o : One) (x w : ℕ) → x < 2 ^ 32 → one_of o x ≡ Some w → w < 2 ^ 32
  pub two : (o : Two) (x y w : ℕ) → x < 2 ^ 32 → y < 2 ^ 32 → two_of o x y ≡ Some w → w < 2 ^ 32

-- a word that fits is put
put_word : (P : OpT ℕ → Type 0) (t : ℕ) (o : OpT ℕ) (w : ℕ) → w < 2 ^ 32 → P (ConstO t w) → P (word_or t o (Some w))
put_word P t o w l h = subst (λ b. P (cond b (ConstO t w) o)) (sym (lt-ltb w (2 ^ 32) l)) h

module _ (F : Fits) (k : Known) (c : Clean k) where
  -- ---- operations

  abbrev Settles : OpT ℕ → Type 0
  Settles o = (not (folds k o) && list_all (is_no_copy k) (uses o)) ≡ true

  alone : (q : ℕ) → list_all (is_no_copy k) (serves k q ∷ []) ≡ true
  alone q = all_served k c (q ∷ [])

  pair : (p q : ℕ) → list_all (is_no_copy k) (serves k p ∷ serves k q ∷ []) ≡ true
  pair p q = all_served k c (p ∷ q ∷ [])

  move_settles : (t a : ℕ) → Settles (forwarded_op k (MoveO t a))
  move_settles t a = stays Settles t (MoveO t (serves k a)) (fact_word (k a)) (alone a) (λ w l. refl)

  one_settles : (o : One) (t a : ℕ) → IsOne o → Settles (forwarded_op k (OneO o t a))
  one_settles o t a is = go (fact_word (k a)) refl
    where
      made : (x : ℕ) → fact_word (k a) ≡ Some x → (r : Option ℕ) → one_of o x ≡ r → Settles (word_or t (OneO o t (serves k a)) r)
      made x e None f = absurd (one_makes o x is f)
      made x e (Some w) f = put_word Settles t (OneO o t (serves k a)) w (F.one o x w (word_fits k c a x e) f) refl

      go : (r : Option ℕ) → fact_word (k a) ≡ r → Settles (word_or t (OneO o t (serves k a)) (one_known o r))
      go None e = and_from (not (is_some (fact_word (k (serves k a))))) (list_all (is_no_copy k) (serves k a ∷ [])) (ap (λ r. not (is_some r)) (serves_word k c a ∙ e)) (alone a)
      go (Some x) e = made x e (one_of o x) refl

  two_settles : (o : Two) (t a b : ℕ) → Settles (forwarded_op k (TwoO o t a b))
  two_settles o t a b = go (fact_word (k a)) (fact_word (k b)) refl refl
    where
      stay : (p q : Option ℕ) → fact_word (k a) ≡ p → fact_word (k b) ≡ q → (is_some p && (is_some q && not (divides o && is_zero q))) ≡ false → Settles (TwoO o t (serves k a) (serves k b))
      stay p q e f n = and_from (not (folds k (TwoO o t (serves k a) (serves k b)))) (list_all (is_no_copy k) (serves k a ∷ serves k b ∷ []))
          ((λ i. not (is_some ((serves_word k c a ∙ e) i) && (is_some ((serves_word k c b ∙ f) i) && not (divides o && is_zero ((serves_word k c b ∙ f) i))))) ∙ ap not n) (pair a b)

      made : (x y : ℕ) → fact_word (k a) ≡ Some x → fact_word (k b) ≡ Some y → (r : Option ℕ) → two_of o x y ≡ r → Settles (word_or t (TwoO o t (serves k a) (serves k b)) r)
      made x y e f None g = stay (Some x) (Some y) e f (ap not (two_makes o x y g))
      made x y e f (Some w) g = put_word Settles t (TwoO o t (serves k a) (serves k b)) w (F.two o x y w (word_fits k c a x e) (word_fits k c b y f) g) refl

      go : (p q : Option ℕ) → fact_word (k a) ≡ p → fact_word (k b) ≡ q → Settles (word_or t (TwoO o t (serves k a) (serves k b)) (two_known o p q))
      go None q e f = stay None q e f refl
      go (Some x) None e f = stay (Some x) None e f refl
      go (Some x) (Some y) e f = made x y e f (two_of o x y) refl

  op_settles : (x : CodeT ℕ) (m : ℕ) (o : OpT ℕ) → IsOp x m o → Settles (forwarded_op k o)
  op_settles x m (ConstO t n) h = refl
  op_settles x m (NullO t) h = refl
  op_settles x m (MoveO t a) h = move_settles t a
  op_settles x m (OneO o t a) h = one_settles o t a h
  op_settles x m (TwoO o t a b) h = two_settles o t a b
  op_settles x m (GlobalO t n) h = refl
  op_settles x m (LocalO t n) h = refl
  op_settles x m (LiteralO t n) h = refl
  op_settles x m (CardO t) h = refl
  op_settles x m (StepO t p n) h = pair p n
  op_settles x m (ApartO t p q) h = pair p q
  op_settles x m (PtrTestO o t p q) h = pair p q
  op_settles x m (LoadO t p) h = alone p
  op_settles x m (StoreO p a) h = pair p a
  op_settles x m (FreshO n) h = refl
  op_settles x m (EndO n) h = refl
  op_settles x m (InO t port) h = refl
  op_settles x m (OutO port a) h = alone a
  op_settles x m WaitO h = refl
  op_settles x m HaltO h = refl

  -- ---- what is known behind

  abbrev Leaves_clean : OpT ℕ → Type 0
  Leaves_clean o = Clean (known_behind k o)

  const_clean : (t w : ℕ) → w < 2 ^ 32 → Leaves_clean (ConstO t w)
  const_clean t w l = clean_with k t (IsWord w) l c

  word_clean : (t w : ℕ) → nat_lt w (2 ^ 32) ≡ true → Leaves_clean (ConstO t w)
  word_clean t w l = const_clean t w (ltb-true w (2 ^ 32) l)

  copy_clean : (t b : ℕ) → k b ≡ None → Leaves_clean (MoveO t b)
  copy_clean t b n = go (eqb b t) refl
    where
      go : (x : Bool) → eqb b t ≡ x → Clean (cond x (behind k t) (with_fact t (IsCopy b) (behind k t)))
      go true e = clean_behind k t c
      go false e = clean_with k t (IsCopy b) (λ i. cond (turned b t e i) (Some (IsCopy b)) (cond (turned b t e i) None (unless_copy t (n i)))) c

  move_clean : (t a : ℕ) → Leaves_clean (forwarded_op k (MoveO t a))
  move_clean t a = go (fact_word (k a)) refl
    where
      go : (r : Option ℕ) → fact_word (k a) ≡ r → Leaves_clean (word_or t (MoveO t (serves k a)) r)
      go None e = copy_clean t (serves k a) (nothing (k (serves k a)) (serves_word k c a ∙ e) (serves_no_copy k c a))
      go (Some w) e = let l = word_fits k c a w e in put_word Leaves_clean t (MoveO t (serves k a)) w l (const_clean t w l)

  op_clean : (x : CodeT ℕ) (m : ℕ) (o : OpT ℕ) → IsOp x m o → Leaves_clean (forwarded_op k o)
  op_clean x m (ConstO t n) h = const_clean t n h
  op_clean x m (NullO t) h = clean_behind k t c
  op_clean x m (MoveO t a) h = move_clean t a
  op_clean x m (OneO o t a) h = stays Leaves_clean t (OneO o t (serves k a)) (one_known o (fact_word (k a))) (clean_behind k t c) (word_clean t)
  op_clean x m (TwoO o t a b) h = stays Leaves_clean t (TwoO o t (serves k a) (serves k b)) (two_known o (fact_word (k a)) (fact_word (k b))) (clean_behind k t c) (word_clean t)
  op_clean x m (GlobalO t n) h = clean_behind k t c
  op_clean x m (LocalO t n) h = clean_behind k t c
  op_clean x m (LiteralO t n) h = clean_behind k t c
  op_clean x m (CardO t) h = clean_behind k t c
  op_clean x m (StepO t p n) h = clean_behind k t c
  op_clean x m (ApartO t p q) h = clean_behind k t c
  op_clean x m (PtrTestO o t p q) h = clean_behind k t c
  op_clean x m (LoadO t p) h = clean_behind k t c
  op_clean x m (StoreO p a) h = c
  op_clean x m (FreshO n) h = c
  op_clean x m (EndO n) h = c
  op_clean x m (InO t port) h = clean_behind k t c
  op_clean x m (OutO port a) h = c
  op_clean x m WaitO h = c
  op_clean x m HaltO h = c

three : (a b c : Bool) → (a && b) ≡ true → c ≡ true → (a && (b && c)) ≡ true
three true true c e h = h
three true false c e h = absurd (false≢true e)
three false b c e h = absurd (false≢true e)

module _ (F : Fits) (x : CodeT ℕ) (m : ℕ) where
  all_settle : (bs : List Bool) (k : Known) (c : NodesT ℕ) → AreNodes x m bs c → Clean k → all_settled k (forwarded k c) ≡ true
  all_settle bs k Stop n h = refl
  all_settle bs k (Do o c) n h =
      three (not (folds k (forwarded_op k o))) (list_all (is_no_copy k) (uses (forwarded_op k o))) (all_settled (known_behind k (forwarded_op k o)) (forwarded (known_behind k (forwarded_op k o)) c)) (op_settles F k h x m o n.0)
      (all_settle bs (known_behind k (forwarded_op k o)) c n.1 (op_clean F k h x m o n.0))
  all_settle bs k (Call t f args c) n h = and_from (list_all (is_no_copy k) (map (serves k) args)) (all_settled (behind_maybe k t) (forwarded (behind_maybe k t) c)) (all_served k h args) (all_settle bs (behind_maybe k t) c n.1 (clean_maybe k t h))
  all_settle bs k (Choose p a b c) n h =
      and_from (all_settled none_known (forwarded none_known a)) (all_settled none_known (forwarded none_known b) && all_settled none_known (forwarded none_known c)) (all_settle bs none_known a n.0 none_clean)
      (and_from (all_settled none_known (forwarded none_known b)) (all_settled none_known (forwarded none_known c)) (all_settle bs none_known b n.1 none_clean) (all_settle bs none_known c n.2 none_clean))
  all_settle bs k (Block b c) n h = and_from (all_settled none_known (forwarded none_known b)) (all_settled none_known (forwarded none_known c)) (all_settle (false ∷ bs) none_known b n.0 none_clean) (all_settle bs none_known c n.1 none_clean)
  all_settle bs k (Loop b c) n h = and_from (all_settled none_known (forwarded none_known b)) (all_settled none_known (forwarded none_known c)) (all_settle (true ∷ bs) none_known b n.0 none_clean) (all_settle bs none_known c n.1 none_clean)
  all_settle bs k (Leave j c) n h = all_settle bs none_known c n.1 none_clean
  all_settle bs k (Again j c) n h = all_settle bs none_known c n.1 none_clean
  all_settle bs k (Return p c) n h = all_settle bs none_known c n none_clean

  -- The runs of the code are settled.
  pub forward_settles : (bs : List Bool) (c : NodesT ℕ) → AreNodes x m bs c → nodes_settled [] (forwarded none_known c) ≡ true
  forward_settles bs c n = settled_by [] none_known (forwarded none_known c) none_tells ∙ all_settle bs none_known c n none_clean
