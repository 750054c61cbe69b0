-- What lasts of code goes by the words of what it uses alone; of folded code the same lasts.
use Rattle.std.proofs.Common.{◌≡◌, ℕ, zero, suc, ◌^◌, Bool, true, false, not, cond, eqb, nat_lt, ◌&&◌, min, take, length, [], ◌∷◌, map, Option, Some, None, refl, sym, ap, ◌∙◌}
use Rattle.std.proofs.lemmas.Bool.{eqb-true, eq-eqb}
use Rattle.v32_isa.specs.declared.instruction.One.{One}
use Rattle.v32_isa.specs.declared.instruction.Two.{Two}
use Rattle.v32_isa.specs.declared.instruction.Two.TheVariants.{IEQ, INE, IGT, IGE, ILT, ILE, AND, OR, XOR, SHL, IADD, ISUB, IMUL, IDIV, IMOD, IMIN, IMAX}
use Rattle.v32_isa.specs.Arithmetic.{one_of, two_of}
use Rattle.mid_code.specs.Code.{OpT, ConstO, NullO, MoveO, OneO, TwoO, GlobalO, LocalO, LiteralO, CardO, StepO, ApartO, PtrTestO, LoadO, StoreO, FreshO, EndO, InO, OutO, WaitO, HaltO, NodesT, Stop, Do, Call, Choose, Block, Loop, Leave, Again, Return, uses, target}
use Rattle.mid_code.specs.Invariants.{AllOf}
use Rattle.mid_code.specs.Skeleton.{some_before, some_place}
use Rattle.mid_fold.specs.Lasting.{KnownWords, no_words, one_known, two_known, word_made, with_word, words_behind, divides, is_nonzero, lasts, lasting}
use Rattle.mid_fold.specs.inner.Folding.{Words, word_in, behind, few, known_behind, word_or, folded_op, folded}

-- ---- an operation by the words of what it uses

pub made_alike : (ws vs : KnownWords) (o : OpT ℕ) → AllOf (λ q. vs q ≡ ws q) (uses o) → word_made vs o ≡ word_made ws o
made_alike ws vs (ConstO t n) h = refl
made_alike ws vs (NullO t) h = refl
made_alike ws vs (MoveO t a) h = h.0
made_alike ws vs (OneO o t a) h = ap (one_known o) h.0
made_alike ws vs (TwoO o t a b) h = λ i. two_known o (h.0 i) (h.1.0 i)
made_alike ws vs (GlobalO t n) h = refl
made_alike ws vs (LocalO t n) h = refl
made_alike ws vs (LiteralO t n) h = refl
made_alike ws vs (CardO t) h = refl
made_alike ws vs (StepO t p n) h = refl
made_alike ws vs (ApartO t p q) h = refl
made_alike ws vs (PtrTestO o t p q) h = refl
made_alike ws vs (LoadO t p) h = refl
made_alike ws vs (StoreO p a) h = refl
made_alike ws vs (FreshO n) h = refl
made_alike ws vs (EndO n) h = refl
made_alike ws vs (InO t port) h = refl
made_alike ws vs (OutO port a) h = refl
made_alike ws vs WaitO h = refl
made_alike ws vs HaltO h = refl

abbrev pub operator_if : Two → Bool → Option (OpT (Unit {0}))
operator_if o b = cond b (Some (TwoO o tt tt tt)) None

abbrev pub division : Two → Option ℕ → Option (OpT (Unit {0}))
division o word = operator_if o (divides o && not (is_nonzero word))

pub lasts_alike : (ws vs : KnownWords) (o : OpT ℕ) → AllOf (λ q. vs q ≡ ws q) (uses o) → lasts vs o ≡ lasts ws o
lasts_alike ws vs (ConstO t n) h = refl
lasts_alike ws vs (NullO t) h = refl
lasts_alike ws vs (MoveO t a) h = refl
lasts_alike ws vs (OneO o t a) h = refl
lasts_alike ws vs (TwoO o t a b) h = ap (division o) h.1.0
lasts_alike ws vs (GlobalO t n) h = refl
lasts_alike ws vs (LocalO t n) h = refl
lasts_alike ws vs (LiteralO t n) h = refl
lasts_alike ws vs (CardO t) h = refl
lasts_alike ws vs (StepO t p n) h = refl
lasts_alike ws vs (ApartO t p q) h = refl
lasts_alike ws vs (PtrTestO o t p q) h = refl
lasts_alike ws vs (LoadO t p) h = refl
lasts_alike ws vs (StoreO p a) h = refl
lasts_alike ws vs (FreshO n) h = refl
lasts_alike ws vs (EndO n) h = refl
lasts_alike ws vs (InO t port) h = refl
lasts_alike ws vs (OutO port a) h = refl
lasts_alike ws vs WaitO h = refl
lasts_alike ws vs HaltO h = refl

-- ---- an operator that has a word is no division that lasts

quotient_word : (o : Two) (y w : ℕ) (r : Option ℕ) → (b : Bool) → eqb y 0 ≡ b → cond b None r ≡ Some w → operator_if o (not (is_nonzero (Some y))) ≡ None
quotient_word o y w r true e f = absurd cc
quotient_word o y w r false e f = ap (λ z. operator_if o (not (not z))) e

pub worked_out : (o : Two) (x y w : ℕ) → two_of o x y ≡ Some w → division o (Some y) ≡ None
worked_out IEQ x y w e = refl
worked_out INE x y w e = refl
worked_out IGT x y w e = refl
worked_out IGE x y w e = refl
worked_out ILT x y w e = refl
worked_out ILE x y w e = refl
worked_out AND x y w e = refl
worked_out OR x y w e = refl
worked_out XOR x y w e = refl
worked_out SHL x y w e = refl
worked_out IADD x y w e = refl
worked_out ISUB x y w e = refl
worked_out IMUL x y w e = refl
worked_out IDIV x y w e = quotient_word IDIV y w _ (eqb y 0) refl e
worked_out IMOD x y w e = quotient_word IMOD y w _ (eqb y 0) refl e
worked_out IMIN x y w e = refl
worked_out IMAX x y w e = refl

-- ---- the words that folding knows are known

abbrev Within : Words → KnownWords → Type 0
Within es ws = (q w : ℕ) → word_in es q ≡ Some w → ws q ≡ Some w

none_within : (ws : KnownWords) → Within [] ws
none_within ws q w e = absurd cc

pub other_way : (t q : ℕ) → eqb t q ≡ false → eqb q t ≡ false
other_way t q e = go (eqb q t) refl
  where
    go : (b : Bool) → eqb q t ≡ b → eqb q t ≡ false
    go true f = let same : t ≡ q = sym (eqb-true q t f) in let is : eqb t q ≡ true = eq-eqb t q same in absurd cc
    go false f = f

abbrev Still : Words → ℕ → ℕ → ℕ → Type 0
Still es t q w = (eqb t q ≡ false) × (word_in es q ≡ Some w)

still_kept : (k : ℕ × ℕ) (es rest : Words) (t q w : ℕ) → (word_in rest q ≡ Some w → Still es t q w) → eqb k.0 t ≡ false → (b : Bool) → eqb k.0 q ≡ b → cond b (Some k.1) (word_in rest q) ≡ Some w → Still (k ∷ es) t q w
still_kept k es rest t q w r m true n f = let same : k.0 ≡ q = eqb-true k.0 q n in (other_way q t (ap (λ z. eqb z t) (sym same) ∙ m), ap (λ z. cond z (Some k.1) (word_in es q)) n ∙ f)
still_kept k es rest t q w r m false n f = ((r f).0, ap (λ z. cond z (Some k.1) (word_in es q)) n ∙ (r f).1)

still_more : (k : ℕ × ℕ) (es rest : Words) (t q w : ℕ) → (word_in rest q ≡ Some w → Still es t q w) → (b : Bool) → eqb k.0 t ≡ b → word_in (cond b rest (k ∷ rest)) q ≡ Some w → Still (k ∷ es) t q w
still_more k es rest t q w r true m f = let same : k.0 ≡ t = eqb-true k.0 t m in ((r f).0, ap (λ z. cond (eqb z q) (Some k.1) (word_in es q)) same ∙ ap (λ z. cond z (Some k.1) (word_in es q)) (r f).0 ∙ (r f).1)
still_more k es rest t q w r false m f = still_kept k es rest t q w r m (eqb k.0 q) refl f

word_behind : (es : Words) (t q w : ℕ) → word_in (behind es t) q ≡ Some w → Still es t q w
word_behind [] t q w e = absurd cc
word_behind (k ∷ es) t q w e = still_more k es (behind es t) t q w (λ f. word_behind es t q w f) (eqb k.0 t) refl e

word_first : (n : ℕ) (es : Words) (q w : ℕ) → word_in (take n es) q ≡ Some w → word_in es q ≡ Some w
word_first zero es q w e = absurd cc
word_first (suc n) [] q w e = absurd cc
word_first (suc n) (k ∷ es) q w e = go (λ f. word_first n es q w f) (eqb k.0 q) e
  where
    go : (word_in (take n es) q ≡ Some w → word_in es q ≡ Some w) → (b : Bool) → cond b (Some k.1) (word_in (take n es) q) ≡ Some w → cond b (Some k.1) (word_in es q) ≡ Some w
    go r true f = f
    go r false f = r f

module _ (es : Words) (ws : KnownWords) (k : Within es ws) where
  target_within : (t : ℕ) (made : Option ℕ) → Within (behind es t) (with_word (Some t) made ws)
  target_within t made q w e = let h = word_behind es t q w e in ap (λ b. cond b made (ws q)) h.0 ∙ k q w h.1

  word_within : (t n : ℕ) → Within ((t, n) ∷ few (behind es t)) (with_word (Some t) (Some n) ws)
  word_within t n q w e = go (eqb t q) refl e
    where
      go : (b : Bool) → eqb t q ≡ b → cond b (Some n) (word_in (few (behind es t)) q) ≡ Some w → cond b (Some n) (ws q) ≡ Some w
      go true m f = f
      go false m f = k q w (word_behind es t q w (word_first (min (length (behind es t)) 15) (behind es t) q w f)).1

  within_behind : (o : OpT ℕ) → Within (known_behind es o) (words_behind ws o)
  within_behind (ConstO t n) = word_within t n
  within_behind (NullO t) = target_within t None
  within_behind (MoveO t a) = target_within t (ws a)
  within_behind (OneO o t a) = target_within t (one_known o (ws a))
  within_behind (TwoO o t a b) = target_within t (two_known o (ws a) (ws b))
  within_behind (GlobalO t n) = target_within t None
  within_behind (LocalO t n) = target_within t None
  within_behind (LiteralO t n) = target_within t None
  within_behind (CardO t) = target_within t None
  within_behind (StepO t p n) = target_within t None
  within_behind (ApartO t p q) = target_within t None
  within_behind (PtrTestO o t p q) = target_within t None
  within_behind (LoadO t p) = target_within t None
  within_behind (StoreO p a) = k
  within_behind (FreshO n) = k
  within_behind (EndO n) = k
  within_behind (InO t port) = target_within t None
  within_behind (OutO port a) = k
  within_behind WaitO = k
  within_behind HaltO = k

-- ---- an operation, or a constant with its word for the same target

-- a word for the operation's target, with which it is no division that lasts
pub record IsWorkedOut (ws : KnownWords) (o : OpT ℕ) (t word : ℕ) : Type 0 where
  pub target : target o ≡ Some t
  pub made : word_made ws o ≡ Some word
  pub leaves : lasts ws o ≡ None

pub record SameWords (ws : KnownWords) (o p : OpT ℕ) : Type 0 where
  pub target : target p ≡ target o
  pub made : word_made ws p ≡ word_made ws o
  pub lasts : lasts ws p ≡ lasts ws o

pub or_constant : (ws : KnownWords) (o p : OpT ℕ) (t : ℕ) (b : Bool) (word : ℕ) → SameWords ws o p → IsWorkedOut ws o t word → SameWords ws o (cond b (ConstO t word) p)
or_constant ws o p t true word s h = record { target = sym h.target; made = sym h.made; lasts = sym h.leaves }
or_constant ws o p t false word s h = s

pub itself : (ws : KnownWords) (o : OpT ℕ) → SameWords ws o o
itself ws o = record { target = refl; made = refl; lasts = refl }

-- what an operator makes of two words, where both are known
pub two_worked_out : (ws : KnownWords) (o : Two) (t a b x y w : ℕ) → ws a ≡ Some x → ws b ≡ Some y → two_of o x y ≡ Some w → IsWorkedOut ws (TwoO o t a b) t w
two_worked_out ws o t a b x y w e f g = record { target = refl; made = (λ i. two_known o (e i) (f i)) ∙ g; leaves = ap (division o) f ∙ worked_out o x y w g }

pub one_worked_out : (ws : KnownWords) (o : One) (t a x w : ℕ) → ws a ≡ Some x → one_of o x ≡ Some w → IsWorkedOut ws (OneO o t a) t w
one_worked_out ws o t a x w e g = record { target = refl; made = ap (one_known o) e ∙ g; leaves = refl }

pub move_worked_out : (ws : KnownWords) (t a w : ℕ) → ws a ≡ Some w → IsWorkedOut ws (MoveO t a) t w
move_worked_out ws t a w e = record { target = refl; made = e; leaves = refl }

module _ (es : Words) (ws : KnownWords) (k : Within es ws) where
  move_folded : (t a : ℕ) (r : Option ℕ) → word_in es a ≡ r → SameWords ws (MoveO t a) (word_or t (MoveO t a) r)
  move_folded t a None e = itself ws (MoveO t a)
  move_folded t a (Some w) e = or_constant ws (MoveO t a) (MoveO t a) t (nat_lt w (2 ^ 32)) w (itself ws (MoveO t a)) (move_worked_out ws t a w (k a w e))

  one_folded : (o : One) (t a : ℕ) (r : Option ℕ) → word_in es a ≡ r → SameWords ws (OneO o t a) (word_or t (OneO o t a) (one_known o r))
  one_folded o t a None e = itself ws (OneO o t a)
  one_folded o t a (Some x) e = go (one_of o x) refl
    where
      go : (r : Option ℕ) → one_of o x ≡ r → SameWords ws (OneO o t a) (word_or t (OneO o t a) r)
      go None f = itself ws (OneO o t a)
      go (Some w) f = or_constant ws (OneO o t a) (OneO o t a) t (nat_lt w (2 ^ 32)) w (itself ws (OneO o t a)) (one_worked_out ws o t a x w (k a x e) f)

  two_folded : (o : Two) (t a b : ℕ) (p q : Option ℕ) → word_in es a ≡ p → word_in es b ≡ q → SameWords ws (TwoO o t a b) (word_or t (TwoO o t a b) (two_known o p q))
  two_folded o t a b None q e f = itself ws (TwoO o t a b)
  two_folded o t a b (Some x) None e f = itself ws (TwoO o t a b)
  two_folded o t a b (Some x) (Some y) e f = go (two_of o x y) refl
    where
      go : (r : Option ℕ) → two_of o x y ≡ r → SameWords ws (TwoO o t a b) (word_or t (TwoO o t a b) r)
      go None g = itself ws (TwoO o t a b)
      go (Some w) g = or_constant ws (TwoO o t a b) (TwoO o t a b) t (nat_lt w (2 ^ 32)) w (itself ws (TwoO o t a b)) (two_worked_out ws o t a b x y w (k a x e) (k b y f) g)

  op_folded : (o : OpT ℕ) → SameWords ws o (folded_op es o)
  op_folded (MoveO t a) = move_folded t a (word_in es a) refl
  op_folded (OneO o t a) = one_folded o t a (word_in es a) refl
  op_folded (TwoO o t a b) = two_folded o t a b (word_in es a) (word_in es b) refl refl
  op_folded (ConstO t n) = itself ws (ConstO t n)
  op_folded (NullO t) = itself ws (NullO t)
  op_folded (GlobalO t n) = itself ws (GlobalO t n)
  op_folded (LocalO t n) = itself ws (LocalO t n)
  op_folded (LiteralO t n) = itself ws (LiteralO t n)
  op_folded (CardO t) = itself ws (CardO t)
  op_folded (StepO t p n) = itself ws (StepO t p n)
  op_folded (ApartO t p q) = itself ws (ApartO t p q)
  op_folded (PtrTestO o t p q) = itself ws (PtrTestO o t p q)
  op_folded (LoadO t p) = itself ws (LoadO t p)
  op_folded (StoreO p a) = itself ws (StoreO p a)
  op_folded (FreshO n) = itself ws (FreshO n)
  op_folded (EndO n) = itself ws (EndO n)
  op_folded (InO t port) = itself ws (InO t port)
  op_folded (OutO port a) = itself ws (OutO port a)
  op_folded WaitO = itself ws WaitO
  op_folded HaltO = itself ws HaltO

-- ---- nodes

-- operations of which the same lasts, before code of which the same lasts
pub op_lasts : (ws : KnownWords) (o p : OpT ℕ) (c d : NodesT ℕ) → SameWords ws o p → lasting (words_behind ws p) d ≡ lasting (words_behind ws p) c → lasting ws (Do p d) ≡ lasting ws (Do o c)
op_lasts ws o p c d s h = (λ i. some_before (s.lasts i) (h i)) ∙ (λ i. some_before (lasts ws o) (lasting (with_word (s.target i) (s.made i) ws) c))

pub folded_lasts : (es : Words) (ws : KnownWords) (c : NodesT ℕ) → Within es ws → lasting ws (folded es c) ≡ lasting ws c
folded_lasts es ws Stop k = refl
folded_lasts es ws (Do o c) k =
    let p = folded_op es o in
    op_lasts ws o p c (folded (known_behind es p) c) (op_folded es ws k o) (folded_lasts (known_behind es p) (words_behind ws p) c (within_behind es ws k p))
folded_lasts es ws (Call t f args c) k = ap (Call (some_place t) f (map (λ a. tt) args)) (folded_lasts [] (with_word t None ws) c (none_within (with_word t None ws)))
folded_lasts es ws (Choose p a b c) k = λ i. Choose tt (folded_lasts es ws a k i) (folded_lasts es ws b k i) (folded_lasts [] no_words c (none_within no_words) i)
folded_lasts es ws (Block b c) k = λ i. Block (folded_lasts es ws b k i) (folded_lasts [] no_words c (none_within no_words) i)
folded_lasts es ws (Loop b c) k = λ i. Loop (folded_lasts [] no_words b (none_within no_words) i) (folded_lasts [] no_words c (none_within no_words) i)
folded_lasts es ws (Leave j c) k = ap (Leave j) (folded_lasts [] no_words c (none_within no_words))
folded_lasts es ws (Again j c) k = ap (Again j) (folded_lasts [] no_words c (none_within no_words))
folded_lasts es ws (Return p c) k = ap (Return (some_place p)) (folded_lasts [] no_words c (none_within no_words))

pub same_divisions : (c : NodesT ℕ) → lasting no_words (folded [] c) ≡ lasting no_words c
same_divisions c = folded_lasts [] no_words c (none_within no_words)
