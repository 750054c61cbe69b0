-- An operation of the code that comes of it does what the operation does, where what is known holds, and what is known behind it holds then.
use Rattle.std.proofs.Common.{◌≡◌, ℕ, ◌+◌, ◌^◌, Bool, true, false, cond, eqb, nat_lt, List, [], ◌∷◌, Option, Some, None, refl, sym, ap, ◌∙◌}
use Rattle.std.specs.Prelude.{Ok, Err}
use Rattle.v32_isa.specs.declared.instruction.One.{One}
use Rattle.v32_isa.specs.declared.instruction.Two.{Two}
use Rattle.v32_isa.specs.Arithmetic.{one_of, two_of}
use Rattle.obj_mem.specs.declared.cell.Cell.{Cell}
use Rattle.obj_mem.specs.declared.cell.Cell.TheVariants.{Num, Ptr, Null}
use Rattle.obj_mem.specs.Objects.{ObjectT}
use Rattle.obj_mem.specs.declared.refusal.Refusal.TheVariants.{Strays, Faults}
use Rattle.obj_mem.specs.Queries.{Answer, word_of, word_or_fault, read, write}
use Rattle.obj_mem.specs.Stores.{Sizes}
use Rattle.mid_code.specs.Code.{OpT, ConstO, NullO, MoveO, OneO, TwoO, GlobalO, LocalO, LiteralO, CardO, StepO, ApartO, PtrTestO, LoadO, StoreO, FreshO, EndO, InO, OutO, WaitO, HaltO}
use Rattle.mid_code.specs.Meaning.{Did, On, Ends}
use Rattle.mid_code.specs.States.{State, temporaries, put, put_in, to, to_objects, input, output, acted, op_weight, one_word, two_words, word_or_stray, stepped, distance, pointers_tested}
use Rattle.mid_improve.specs.inner.Facts.{IsWord, IsCopy, Known, fact_word, behind, with_fact, known_behind}
use Rattle.mid_fold.specs.Lasting.{one_known, two_known}
use Rattle.mid_improve.specs.inner.Forward.{serves, word_or, forwarded_op}
use Rattle.mid_improve.proofs.Holding.{Cells, Knows, knows_same, serves_same, word_is, still_known, one_more_known, put_off, put_on}

-- ---- the same is done

abbrev Does : Sizes → OpT ℕ → State ℕ → Did (State ℕ)
Does z o s = acted temporaries z o s

module _ (z : Sizes) (k : Known) (s : State ℕ) (h : Knows k s.cells) where
  same_at : (q : ℕ) → s.cells (serves k q) ≡ s.cells q
  same_at q = serves_same k s.cells q h

  -- where a constant may stand, it does the same as the operation o; so does the operation with what serves
  either : (o p : OpT ℕ) (t w : ℕ) → Does z (ConstO t w) s ≡ Does z o s → Does z p s ≡ Does z o s → Does z (word_or t p (Some w)) s ≡ Does z o s
  either o p t w one other = go (nat_lt w (2 ^ 32))
    where
      go : (b : Bool) → Does z (cond b (ConstO t w) p) s ≡ Does z o s
      go true = one
      go false = other

  move_same : (t a : ℕ) (r : Option ℕ) → fact_word (k a) ≡ r → Does z (word_or t (MoveO t (serves k a)) r) s ≡ Does z (MoveO t a) s
  move_same t a None e = ap (λ c. to temporaries t (Ok c) s) (same_at a)
  move_same t a (Some w) e =
      either (MoveO t a) (MoveO t (serves k a)) t w (ap (λ c. to temporaries t (Ok c) s) (sym (word_is k s.cells a w h e))) (ap (λ c. to temporaries t (Ok c) s) (same_at a))

  module _ (o : One) (t a : ℕ) where
    one_serves : Does z (OneO o t (serves k a)) s ≡ Does z (OneO o t a) s
    one_serves = ap (λ c. to temporaries t (one_word o c) s) (same_at a)

    one_same : (r : Option ℕ) → fact_word (k a) ≡ r → Does z (word_or t (OneO o t (serves k a)) (one_known o r)) s ≡ Does z (OneO o t a) s
    one_same None e = one_serves
    one_same (Some x) e = go (one_of o x) refl
      where
        go : (r : Option ℕ) → one_of o x ≡ r → Does z (word_or t (OneO o t (serves k a)) r) s ≡ Does z (OneO o t a) s
        go None f = one_serves
        go (Some w) f = either (OneO o t a) (OneO o t (serves k a)) t w (sym (ap (λ c. to temporaries t (one_word o c) s) (word_is k s.cells a x h e) ∙ ap (λ r. to temporaries t (word_or_stray r) s) f)) one_serves

  module _ (o : Two) (t a b : ℕ) where
    two_serves : Does z (TwoO o t (serves k a) (serves k b)) s ≡ Does z (TwoO o t a b) s
    two_serves = λ i. to temporaries t (two_words o (same_at a i) (same_at b i)) s

    two_same : (p q : Option ℕ) → fact_word (k a) ≡ p → fact_word (k b) ≡ q → Does z (word_or t (TwoO o t (serves k a) (serves k b)) (two_known o p q)) s ≡ Does z (TwoO o t a b) s
    two_same None q e f = two_serves
    two_same (Some x) None e f = two_serves
    two_same (Some x) (Some y) e f = go (two_of o x y) refl
      where
        go : (r : Option ℕ) → two_of o x y ≡ r → Does z (word_or t (TwoO o t (serves k a) (serves k b)) r) s ≡ Does z (TwoO o t a b) s
        go None g = two_serves
        go (Some w) g = either (TwoO o t a b) (TwoO o t (serves k a) (serves k b)) t w (sym (ap (λ c. to temporaries t (two_words o c (s.cells b)) s) (word_is k s.cells a x h e) ∙ ap (λ c. to temporaries t (two_words o (Num x) c) s) (word_is k s.cells b y h f) ∙ ap (λ r. to temporaries t (word_or_fault r) s) g)) two_serves

  pub op_same : (o : OpT ℕ) → acted temporaries z (forwarded_op k o) s ≡ acted temporaries z o s
  op_same (ConstO t n) = refl
  op_same (NullO t) = refl
  op_same (MoveO t a) = move_same t a (fact_word (k a)) refl
  op_same (OneO o t a) = one_same o t a (fact_word (k a)) refl
  op_same (TwoO o t a b) = two_same o t a b (fact_word (k a)) (fact_word (k b)) refl refl
  op_same (GlobalO t n) = refl
  op_same (LocalO t n) = refl
  op_same (LiteralO t n) = refl
  op_same (CardO t) = refl
  op_same (StepO t p n) = λ i. to temporaries t (stepped (same_at p i) (same_at n i)) s
  op_same (ApartO t p q) = λ i. to temporaries t (distance s.world.store.objects (same_at p i) (same_at q i)) s
  op_same (PtrTestO o t p q) = λ i. to temporaries t (pointers_tested o s.world.store.objects (same_at p i) (same_at q i)) s
  op_same (LoadO t p) = λ i. to temporaries t (read s.world.store.objects (same_at p i)) s
  op_same (StoreO p a) = λ i. to_objects (write s.world.store.objects (same_at p i) (same_at a i)) s
  op_same (FreshO n) = refl
  op_same (EndO n) = refl
  op_same (InO t port) = refl
  op_same (OutO port a) = λ i. output port (word_of (same_at a i)) s
  op_same WaitO = refl
  op_same HaltO = refl

-- ---- an operation with what serves, or a constant for the same target

-- what holds of the one and of the other holds of what stands there
pub stays : (P : OpT ℕ → Type 0) (t : ℕ) (o : OpT ℕ) (r : Option ℕ) → P o → ((w : ℕ) → nat_lt w (2 ^ 32) ≡ true → P (ConstO t w)) → P (word_or t o r)
stays P t o None h g = h
stays P t o (Some w) h g = go (nat_lt w (2 ^ 32)) refl
  where
    go : (b : Bool) → nat_lt w (2 ^ 32) ≡ b → P (cond b (ConstO t w) o)
    go true e = g w e
    go false e = h

pub weight_same : (k : Known) (o : OpT ℕ) → op_weight (forwarded_op k o) ≡ op_weight o
weight_same k (ConstO t n) = refl
weight_same k (NullO t) = refl
weight_same k (MoveO t a) = stays (λ p. op_weight p ≡ op_weight (MoveO t a)) t (MoveO t (serves k a)) (fact_word (k a)) refl (λ w f. refl)
weight_same k (OneO o t a) = stays (λ p. op_weight p ≡ op_weight (OneO o t a)) t (OneO o t (serves k a)) (one_known o (fact_word (k a))) refl (λ w f. refl)
weight_same k (TwoO o t a b) = stays (λ p. op_weight p ≡ op_weight (TwoO o t a b)) t (TwoO o t (serves k a) (serves k b)) (two_known o (fact_word (k a)) (fact_word (k b))) refl (λ w f. refl)
weight_same k (GlobalO t n) = refl
weight_same k (LocalO t n) = refl
weight_same k (LiteralO t n) = refl
weight_same k (CardO t) = refl
weight_same k (StepO t p n) = refl
weight_same k (ApartO t p q) = refl
weight_same k (PtrTestO o t p q) = refl
weight_same k (LoadO t p) = refl
weight_same k (StoreO p a) = refl
weight_same k (FreshO n) = refl
weight_same k (EndO n) = refl
weight_same k (InO t port) = refl
weight_same k (OutO port a) = refl
weight_same k WaitO = refl
weight_same k HaltO = refl

-- ---- what is known behind

abbrev cells_of : Did (State ℕ) → Cells
cells_of (On s) = s.cells
cells_of (Ends end s) = s.cells

module _ (k : Known) (s u : State ℕ) (h : Knows k s.cells) where
  -- a target takes a cell
  taken : (t : ℕ) (c : Cell) → put_in temporaries t c s ≡ u → Knows (behind k t) u.cells
  taken t c e = still_known k t s.cells u.cells (λ r n. sym (ap (λ (v : State ℕ). v.cells r) e) ∙ put_off s.cells t c r n) h

  to_known : (t : ℕ) (a : Answer Cell) → to temporaries t a s ≡ On u → Knows (behind k t) u.cells
  to_known t (Ok c) e = let same : put_in temporaries t c s ≡ u = cc in taken t c same
  to_known t (Err Strays) e = absurd cc
  to_known t (Err (Faults n)) e = absurd cc

  -- the cells stay
  kept : s.cells ≡ u.cells → Knows k u.cells
  kept e = knows_same k s.cells u.cells e h

  objects_known : (a : Answer (List ObjectT)) → to_objects a s ≡ On u → Knows k u.cells
  objects_known (Ok os) e = kept (ap (λ d. cells_of d) e)
  objects_known (Err Strays) e = absurd cc
  objects_known (Err (Faults n)) e = absurd cc

  output_known : (port : ℕ) (a : Answer ℕ) → output port a s ≡ On u → Knows k u.cells
  output_known port (Ok x) e = kept (ap (λ d. cells_of d) e)
  output_known port (Err Strays) e = absurd cc
  output_known port (Err (Faults n)) e = absurd cc

  input_known : (t port : ℕ) (xs : List ℕ) → input temporaries t port xs s ≡ On u → Knows (behind k t) u.cells
  input_known t port [] e = absurd cc
  input_known t port (x ∷ rest) e = still_known k t s.cells u.cells (λ r n. sym (ap (λ d. cells_of d r) e) ∙ put_off s.cells t (Num x) r n) h

  const_known : (t n : ℕ) → to temporaries t (Ok (Num n)) s ≡ On u → Knows (with_fact t (IsWord n) (behind k t)) u.cells
  const_known t n e = one_more_known (behind k t) t (IsWord n) u.cells (sym (ap (λ d. cells_of d t) e) ∙ put_on s.cells t (Num n)) (to_known t (Ok (Num n)) e)

  move_known : (t a : ℕ) → to temporaries t (Ok (s.cells a)) s ≡ On u → Knows (cond (eqb a t) (behind k t) (with_fact t (IsCopy a) (behind k t))) u.cells
  move_known t a e = go (eqb a t) refl
    where
      rest : Knows (behind k t) u.cells
      rest = to_known t (Ok (s.cells a)) e

      same : (r : ℕ) → put temporaries s.cells t (s.cells a) r ≡ u.cells r
      same r = ap (λ d. cells_of d r) e

      go : (b : Bool) → eqb a t ≡ b → Knows (cond b (behind k t) (with_fact t (IsCopy a) (behind k t))) u.cells
      go true f = rest
      go false f = one_more_known (behind k t) t (IsCopy a) u.cells (sym (same t) ∙ put_on s.cells t (s.cells a) ∙ sym (ap (λ x. cond x (s.cells a) (s.cells a)) f) ∙ same a) rest

pub known_after : (z : Sizes) (k : Known) (o : OpT ℕ) (s u : State ℕ) → Knows k s.cells → acted temporaries z o s ≡ On u → Knows (known_behind k o) u.cells
known_after z k (ConstO t n) s u h e = const_known k s u h t n e
known_after z k (NullO t) s u h e = to_known k s u h t (Ok Null) e
known_after z k (MoveO t a) s u h e = move_known k s u h t a e
known_after z k (OneO o t a) s u h e = to_known k s u h t _ e
known_after z k (TwoO o t a b) s u h e = to_known k s u h t _ e
known_after z k (GlobalO t n) s u h e = to_known k s u h t (Ok (Ptr n 0)) e
known_after z k (LocalO t n) s u h e = to_known k s u h t _ e
known_after z k (LiteralO t n) s u h e = to_known k s u h t (Ok (Ptr (z.first_literal + n) 0)) e
known_after z k (CardO t) s u h e = to_known k s u h t (Ok (Ptr z.card 0)) e
known_after z k (StepO t p n) s u h e = to_known k s u h t _ e
known_after z k (ApartO t p q) s u h e = to_known k s u h t _ e
known_after z k (PtrTestO o t p q) s u h e = to_known k s u h t _ e
known_after z k (LoadO t p) s u h e = to_known k s u h t _ e
known_after z k (StoreO p a) s u h e = objects_known k s u h _ e
known_after z k (FreshO n) s u h e = kept k s u h (ap (λ d. cells_of d) e)
known_after z k (EndO n) s u h e = kept k s u h (ap (λ d. cells_of d) e)
known_after z k (InO t port) s u h e = input_known k s u h t port s.world.store.answers e
known_after z k (OutO port a) s u h e = output_known k s u h port _ e
known_after z k WaitO s u h e = kept k s u h (ap (λ d. cells_of d) e)
known_after z k HaltO s u h e = absurd cc
