-- Forward propagation leaves divisions, but those by a known word other than 0.
use Rattle.std.proofs.Common.{◌≡◌, ℕ, ◌^◌, Bool, true, false, cond, eqb, nat_lt, Option, Some, None, refl, sym, ap, ◌∙◌}
use Rattle.v32_isa.specs.declared.instruction.One.{One}
use Rattle.v32_isa.specs.declared.instruction.Two.{Two}
use Rattle.v32_isa.specs.Arithmetic.{one_of, two_of}
use Rattle.mid_code.specs.Code.{OpT, ConstO, NullO, MoveO, OneO, TwoO, GlobalO, LocalO, LiteralO, CardO, StepO, ApartO, PtrTestO, LoadO, StoreO, FreshO, EndO, InO, OutO, WaitO, HaltO, NodesT, Stop, Do, Call, Choose, Block, Loop, Leave, Again, Return}
use Rattle.mid_code.specs.Skeleton.{some_place}
use Rattle.mid_fold.specs.Lasting.{KnownWords, no_words, one_known, two_known, with_word, words_behind, lasting}
use Rattle.mid_fold.proofs.Lasts.{division, SameWords, or_constant, itself, move_worked_out, one_worked_out, two_worked_out, op_lasts}
use Rattle.mid_improve.specs.inner.Facts.{Fact, IsWord, IsCopy, Known, none_known, fact_word, fact_source, unless_copy, behind, behind_maybe, with_fact, known_behind}
use Rattle.mid_improve.specs.inner.Forward.{or_itself, serves, word_or, forwarded_op, forwarded}
use Rattle.mid_improve.proofs.ForwardMid.{places_same, place_same}

-- ---- what is known in a run is so of known words: a word, or the same as another temporary

abbrev IsSo : KnownWords → ℕ → Option Fact → Type 0
IsSo ws q None = Unit {0}
IsSo ws q (Some (IsWord word)) = ws q ≡ Some word
IsSo ws q (Some (IsCopy a)) = ws q ≡ ws a

abbrev AreSo : Known → KnownWords → Type 0
AreSo k ws = (q : ℕ) → IsSo ws q (k q)

none_so : (ws : KnownWords) → AreSo none_known ws
none_so ws q = tt

serves_as : (ws : KnownWords) (q : ℕ) (f : Option Fact) → IsSo ws q f → (k : Known) → k q ≡ f → ws (serves k q) ≡ ws q
serves_as ws q None h k e = ap (λ g. ws (or_itself q (fact_source g))) e
serves_as ws q (Some (IsWord word)) h k e = ap (λ g. ws (or_itself q (fact_source g))) e
serves_as ws q (Some (IsCopy a)) h k e = ap (λ g. ws (or_itself q (fact_source g))) e ∙ sym h

word_so : (ws : KnownWords) (q word : ℕ) (f : Option Fact) → IsSo ws q f → fact_word f ≡ Some word → ws q ≡ Some word
word_so ws q word None h e = absurd cc
word_so ws q word (Some (IsWord w)) h e = h ∙ e
word_so ws q word (Some (IsCopy a)) h e = absurd cc

either_same : (r : Option ℕ) (b : Bool) → cond b r r ≡ r
either_same r true = refl
either_same r false = refl

-- ---- operations

module _ (k : Known) (ws : KnownWords) (h : AreSo k ws) where
  alike : (q : ℕ) → ws (serves k q) ≡ ws q
  alike q = serves_as ws q (k q) (h q) k refl

  is : (q word : ℕ) → fact_word (k q) ≡ Some word → ws q ≡ Some word
  is q word e = word_so ws q word (k q) (h q) e

  move_serves : (t a : ℕ) → SameWords ws (MoveO t a) (MoveO t (serves k a))
  move_serves t a = record { target = refl; made = alike a; lasts = refl }

  one_serves : (o : One) (t a : ℕ) → SameWords ws (OneO o t a) (OneO o t (serves k a))
  one_serves o t a = record { target = refl; made = ap (one_known o) (alike a); lasts = refl }

  two_serves : (o : Two) (t a b : ℕ) → SameWords ws (TwoO o t a b) (TwoO o t (serves k a) (serves k b))
  two_serves o t a b = record { target = refl; made = λ i. two_known o (alike a i) (alike b i); lasts = ap (division o) (alike b) }

  move_forwarded : (t a : ℕ) (r : Option ℕ) → fact_word (k a) ≡ r → SameWords ws (MoveO t a) (word_or t (MoveO t (serves k a)) r)
  move_forwarded t a None e = move_serves t a
  move_forwarded t a (Some w) e = or_constant ws (MoveO t a) (MoveO t (serves k a)) t (nat_lt w (2 ^ 32)) w (move_serves t a) (move_worked_out ws t a w (is a w e))

  one_forwarded : (o : One) (t a : ℕ) (r : Option ℕ) → fact_word (k a) ≡ r → SameWords ws (OneO o t a) (word_or t (OneO o t (serves k a)) (one_known o r))
  one_forwarded o t a None e = one_serves o t a
  one_forwarded o t a (Some x) e = go (one_of o x) refl
    where
      go : (r : Option ℕ) → one_of o x ≡ r → SameWords ws (OneO o t a) (word_or t (OneO o t (serves k a)) r)
      go None f = one_serves o t a
      go (Some w) f = or_constant ws (OneO o t a) (OneO o t (serves k a)) t (nat_lt w (2 ^ 32)) w (one_serves o t a) (one_worked_out ws o t a x w (is a x e) f)

  two_forwarded : (o : Two) (t a b : ℕ) (p q : Option ℕ) → fact_word (k a) ≡ p → fact_word (k b) ≡ q → SameWords ws (TwoO o t a b) (word_or t (TwoO o t (serves k a) (serves k b)) (two_known o p q))
  two_forwarded o t a b None q e f = two_serves o t a b
  two_forwarded o t a b (Some x) None e f = two_serves o t a b
  two_forwarded o t a b (Some x) (Some y) e f = go (two_of o x y) refl
    where
      go : (r : Option ℕ) → two_of o x y ≡ r → SameWords ws (TwoO o t a b) (word_or t (TwoO o t (serves k a) (serves k b)) r)
      go None g = two_serves o t a b
      go (Some w) g = or_constant ws (TwoO o t a b) (TwoO o t (serves k a) (serves k b)) t (nat_lt w (2 ^ 32)) w (two_serves o t a b) (two_worked_out ws o t a b x y w (is a x e) (is b y f) g)

  op_forwarded : (o : OpT ℕ) → SameWords ws o (forwarded_op k o)
  op_forwarded (MoveO t a) = move_forwarded t a (fact_word (k a)) refl
  op_forwarded (OneO o t a) = one_forwarded o t a (fact_word (k a)) refl
  op_forwarded (TwoO o t a b) = two_forwarded o t a b (fact_word (k a)) (fact_word (k b)) refl refl
  op_forwarded (ConstO t n) = itself ws (ConstO t n)
  op_forwarded (NullO t) = itself ws (NullO t)
  op_forwarded (GlobalO t n) = itself ws (GlobalO t n)
  op_forwarded (LocalO t n) = itself ws (LocalO t n)
  op_forwarded (LiteralO t n) = itself ws (LiteralO t n)
  op_forwarded (CardO t) = itself ws (CardO t)
  op_forwarded (StepO t p n) = record { target = refl; made = refl; lasts = refl }
  op_forwarded (ApartO t p q) = record { target = refl; made = refl; lasts = refl }
  op_forwarded (PtrTestO o t p q) = record { target = refl; made = refl; lasts = refl }
  op_forwarded (LoadO t p) = record { target = refl; made = refl; lasts = refl }
  op_forwarded (StoreO p a) = record { target = refl; made = refl; lasts = refl }
  op_forwarded (FreshO n) = itself ws (FreshO n)
  op_forwarded (EndO n) = itself ws (EndO n)
  op_forwarded (InO t port) = itself ws (InO t port)
  op_forwarded (OutO port a) = record { target = refl; made = refl; lasts = refl }
  op_forwarded WaitO = itself ws WaitO
  op_forwarded HaltO = itself ws HaltO

  -- ---- behind an operation

  -- t takes another word, or none that is known; of another temporary it is so still, but where it is a copy of t
  still_so : (t q : ℕ) (made : Option ℕ) → eqb t q ≡ false → (f : Option Fact) → IsSo ws q f → IsSo (with_word (Some t) made ws) q (unless_copy t f)
  still_so t q made n None g = tt
  still_so t q made n (Some (IsWord word)) g = ap (λ b. cond b made (ws q)) n ∙ g
  still_so t q made n (Some (IsCopy a)) g = go (eqb t a) refl
    where
      go : (b : Bool) → eqb t a ≡ b → IsSo (with_word (Some t) made ws) q (cond b None (Some (IsCopy a)))
      go true e = tt
      go false e = ap (λ b. cond b made (ws q)) n ∙ g ∙ sym (ap (λ b. cond b made (ws a)) e)

  target_so : (t : ℕ) (made : Option ℕ) → AreSo (behind k t) (with_word (Some t) made ws)
  target_so t made q = go (eqb t q) refl
    where
      go : (b : Bool) → eqb t q ≡ b → IsSo (with_word (Some t) made ws) q (cond b None (unless_copy t (k q)))
      go true e = tt
      go false e = still_so t q made e (k q) (h q)

  fact_so : (t : ℕ) (f : Fact) (made : Option ℕ) → ((q : ℕ) → eqb t q ≡ true → IsSo (with_word (Some t) made ws) q (Some f)) → AreSo (with_fact t f (behind k t)) (with_word (Some t) made ws)
  fact_so t f made one q = go (eqb t q) refl (target_so t made q)
    where
      go : (b : Bool) → eqb t q ≡ b → IsSo (with_word (Some t) made ws) q (cond (eqb t q) None (unless_copy t (k q))) → IsSo (with_word (Some t) made ws) q (cond b (Some f) (behind k t q))
      go true e g = one q e
      go false e g = g

  move_so : (t a : ℕ) (b : Bool) → eqb a t ≡ b → AreSo (cond b (behind k t) (with_fact t (IsCopy a) (behind k t))) (with_word (Some t) (ws a) ws)
  move_so t a true e = target_so t (ws a)
  move_so t a false e = fact_so t (IsCopy a) (ws a) (λ q m. ap (λ b. cond b (ws a) (ws q)) m ∙ sym (either_same (ws a) (eqb t a)))

  so_behind : (o : OpT ℕ) → AreSo (known_behind k o) (words_behind ws o)
  so_behind (ConstO t n) = fact_so t (IsWord n) (Some n) (λ q m. ap (λ b. cond b (Some n) (ws q)) m)
  so_behind (NullO t) = target_so t None
  so_behind (MoveO t a) = move_so t a (eqb a t) refl
  so_behind (OneO o t a) = target_so t (one_known o (ws a))
  so_behind (TwoO o t a b) = target_so t (two_known o (ws a) (ws b))
  so_behind (GlobalO t n) = target_so t None
  so_behind (LocalO t n) = target_so t None
  so_behind (LiteralO t n) = target_so t None
  so_behind (CardO t) = target_so t None
  so_behind (StepO t p n) = target_so t None
  so_behind (ApartO t p q) = target_so t None
  so_behind (PtrTestO o t p q) = target_so t None
  so_behind (LoadO t p) = target_so t None
  so_behind (StoreO p a) = h
  so_behind (FreshO n) = h
  so_behind (EndO n) = h
  so_behind (InO t port) = target_so t None
  so_behind (OutO port a) = h
  so_behind WaitO = h
  so_behind HaltO = h

  so_behind_call : (t : Option ℕ) → AreSo (behind_maybe k t) (with_word t None ws)
  so_behind_call None = h
  so_behind_call (Some t) = target_so t None

-- ---- nodes

forwarded_lasts : (k : Known) (ws : KnownWords) (c : NodesT ℕ) → AreSo k ws → lasting ws (forwarded k c) ≡ lasting ws c
forwarded_lasts k ws Stop h = refl
forwarded_lasts k ws (Do o c) h =
    let p = forwarded_op k o in
    op_lasts ws o p c (forwarded (known_behind k p) c) (op_forwarded k ws h o) (forwarded_lasts (known_behind k p) (words_behind ws p) c (so_behind k ws h p))
forwarded_lasts k ws (Call t f args c) h = λ i. Call (some_place t) f (places_same k args i) (forwarded_lasts (behind_maybe k t) (with_word t None ws) c (so_behind_call k ws h t) i)
forwarded_lasts k ws (Choose p a b c) h = λ i. Choose tt (forwarded_lasts none_known ws a (none_so ws) i) (forwarded_lasts none_known ws b (none_so ws) i) (forwarded_lasts none_known no_words c (none_so no_words) i)
forwarded_lasts k ws (Block b c) h = λ i. Block (forwarded_lasts none_known ws b (none_so ws) i) (forwarded_lasts none_known no_words c (none_so no_words) i)
forwarded_lasts k ws (Loop b c) h = λ i. Loop (forwarded_lasts none_known no_words b (none_so no_words) i) (forwarded_lasts none_known no_words c (none_so no_words) i)
forwarded_lasts k ws (Leave j c) h = ap (Leave j) (forwarded_lasts none_known no_words c (none_so no_words))
forwarded_lasts k ws (Again j c) h = ap (Again j) (forwarded_lasts none_known no_words c (none_so no_words))
forwarded_lasts k ws (Return p c) h = λ i. Return (place_same k p i) (forwarded_lasts none_known no_words c (none_so no_words) i)

pub forwarded_divisions : (c : NodesT ℕ) → lasting no_words (forwarded none_known c) ≡ lasting no_words c
forwarded_divisions c = forwarded_lasts none_known no_words c (none_so no_words)
