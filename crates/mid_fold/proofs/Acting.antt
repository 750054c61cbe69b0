-- A folded operation does what the operation does, where the words are known.
use Rattle.std.proofs.Common.{◌≡◌, ℕ, ◌+◌, ◌^◌, Bool, true, false, cond, nat_lt, List, [], ◌∷◌, Option, Some, None, refl, sym, ap, subst, ◌∙◌}
use Rattle.std.specs.Prelude.{Ok, Err}
use Rattle.v32_isa.specs.declared.instruction.One.{One}
use Rattle.v32_isa.specs.declared.instruction.Two.{Two}
use Rattle.v32_isa.specs.Arithmetic.{one_of, two_of}
use Rattle.obj_mem.specs.declared.cell.Cell.{Cell}
use Rattle.obj_mem.specs.declared.cell.Cell.TheVariants.{Num, Ptr, Null}
use Rattle.obj_mem.specs.Objects.{ObjectT}
use Rattle.obj_mem.specs.declared.refusal.Refusal.TheVariants.{Strays, Faults}
use Rattle.obj_mem.specs.Queries.{Answer, word_or_fault}
use Rattle.obj_mem.specs.Stores.{Sizes}
use Rattle.mid_code.specs.Code.{OpT, ConstO, NullO, MoveO, OneO, TwoO, GlobalO, LocalO, LiteralO, CardO, StepO, ApartO, PtrTestO, LoadO, StoreO, FreshO, EndO, InO, OutO, WaitO, HaltO}
use Rattle.mid_code.specs.Meaning.{Did, On, Ends}
use Rattle.mid_code.specs.States.{State, temporaries, put_in, to, to_objects, input, output, acted, op_weight, one_word, two_words, word_or_stray}
use Rattle.mid_fold.specs.Lasting.{one_known, two_known}
use Rattle.mid_fold.specs.inner.Folding.{Words, word_in, behind, known_behind, word_or, folded_op}
use Rattle.mid_fold.proofs.Knowing.{Knows, word_is, still_known, few_known, put_off, put_on}

-- ---- the same is done

abbrev Does : Sizes → OpT ℕ → State ℕ → Did (State ℕ)
Does z o s = acted temporaries z o s

module _ (z : Sizes) (s : State ℕ) where
  -- where a constant may stand, it does the same
  either : (o : OpT ℕ) (t w : ℕ) → Does z (ConstO t w) s ≡ Does z o s → Does z (word_or t o (Some w)) s ≡ Does z o s
  either o t w same = go (nat_lt w (2 ^ 32))
    where
      go : (b : Bool) → Does z (cond b (ConstO t w) o) s ≡ Does z o s
      go true = same
      go false = refl

  move_same : (es : Words) (t a : ℕ) → Knows es s.cells → (r : Option ℕ) → word_in es a ≡ r → Does z (word_or t (MoveO t a) r) s ≡ Does z (MoveO t a) s
  move_same es t a k None e = refl
  move_same es t a k (Some w) e = either (MoveO t a) t w (ap (λ c. to temporaries t (Ok c) s) (sym (word_is es s.cells a w k e)))

  one_same : (es : Words) (o : One) (t a : ℕ) → Knows es s.cells → (r : Option ℕ) → word_in es a ≡ r → Does z (word_or t (OneO o t a) (one_known o r)) s ≡ Does z (OneO o t a) s
  one_same es o t a k None e = refl
  one_same es o t a k (Some x) e = go (one_of o x) refl
    where
      go : (r : Option ℕ) → one_of o x ≡ r → Does z (word_or t (OneO o t a) r) s ≡ Does z (OneO o t a) s
      go None f = refl
      go (Some w) f = either (OneO o t a) t w (sym (ap (λ c. to temporaries t (one_word o c) s) (word_is es s.cells a x k e) ∙ ap (λ r. to temporaries t (word_or_stray r) s) f))

  two_same : (es : Words) (o : Two) (t a b : ℕ) → Knows es s.cells → (p q : Option ℕ) → word_in es a ≡ p → word_in es b ≡ q → Does z (word_or t (TwoO o t a b) (two_known o p q)) s ≡ Does z (TwoO o t a b) s
  two_same es o t a b k None q e f = refl
  two_same es o t a b k (Some x) None e f = refl
  two_same es o t a b k (Some x) (Some y) e f = go (two_of o x y) refl
    where
      go : (r : Option ℕ) → two_of o x y ≡ r → Does z (word_or t (TwoO o t a b) r) s ≡ Does z (TwoO o t a b) s
      go None g = refl
      go (Some w) g = either (TwoO o t a b) t w (sym (ap (λ c. to temporaries t (two_words o c (s.cells b)) s) (word_is es s.cells a x k e) ∙ ap (λ c. to temporaries t (two_words o (Num x) c) s) (word_is es s.cells b y k f) ∙ ap (λ r. to temporaries t (word_or_fault r) s) g))

pub op_same : (z : Sizes) (es : Words) (o : OpT ℕ) (s : State ℕ) → Knows es s.cells → acted temporaries z (folded_op es o) s ≡ acted temporaries z o s
op_same z es (ConstO t n) s k = refl
op_same z es (NullO t) s k = refl
op_same z es (MoveO t a) s k = move_same z s es t a k (word_in es a) refl
op_same z es (OneO o t a) s k = one_same z s es o t a k (word_in es a) refl
op_same z es (TwoO o t a b) s k = two_same z s es o t a b k (word_in es a) (word_in es b) refl refl
op_same z es (GlobalO t n) s k = refl
op_same z es (LocalO t n) s k = refl
op_same z es (LiteralO t n) s k = refl
op_same z es (CardO t) s k = refl
op_same z es (StepO t p n) s k = refl
op_same z es (ApartO t p q) s k = refl
op_same z es (PtrTestO o t p q) s k = refl
op_same z es (LoadO t p) s k = refl
op_same z es (StoreO p a) s k = refl
op_same z es (FreshO n) s k = refl
op_same z es (EndO n) s k = refl
op_same z es (InO t port) s k = refl
op_same z es (OutO port a) s k = refl
op_same z es WaitO s k = refl
op_same z es HaltO s k = refl

-- ---- an operation stays, or it is a constant for the same target

-- what holds of the operation and of the constant holds of what stands for it
pub stays : (P : OpT ℕ → Type 0) (t : ℕ) (o : OpT ℕ) (r : Option ℕ) → P o → ((w : ℕ) → nat_lt w (2 ^ 32) ≡ true → P (ConstO t w)) → P (word_or t o r)
stays P t o None h g = h
stays P t o (Some w) h g = go (nat_lt w (2 ^ 32)) refl
  where
    go : (b : Bool) → nat_lt w (2 ^ 32) ≡ b → P (cond b (ConstO t w) o)
    go true e = g w e
    go false e = h

pub weight_same : (es : Words) (o : OpT ℕ) → op_weight (folded_op es o) ≡ op_weight o
weight_same es (ConstO t n) = refl
weight_same es (NullO t) = refl
weight_same es (MoveO t a) = stays (λ p. op_weight p ≡ op_weight (MoveO t a)) t (MoveO t a) (word_in es a) refl (λ w f. refl)
weight_same es (OneO o t a) = stays (λ p. op_weight p ≡ op_weight (OneO o t a)) t (OneO o t a) (one_known o (word_in es a)) refl (λ w f. refl)
weight_same es (TwoO o t a b) = stays (λ p. op_weight p ≡ op_weight (TwoO o t a b)) t (TwoO o t a b) (two_known o (word_in es a) (word_in es b)) refl (λ w f. refl)
weight_same es (GlobalO t n) = refl
weight_same es (LocalO t n) = refl
weight_same es (LiteralO t n) = refl
weight_same es (CardO t) = refl
weight_same es (StepO t p n) = refl
weight_same es (ApartO t p q) = refl
weight_same es (PtrTestO o t p q) = refl
weight_same es (LoadO t p) = refl
weight_same es (StoreO p a) = refl
weight_same es (FreshO n) = refl
weight_same es (EndO n) = refl
weight_same es (InO t port) = refl
weight_same es (OutO port a) = refl
weight_same es WaitO = refl
weight_same es HaltO = refl

-- ---- what is known behind

abbrev cells_of : Did (State ℕ) → ℕ → Cell
cells_of (On s) = s.cells
cells_of (Ends end s) = s.cells

module _ (es : Words) (s u : State ℕ) (k : Knows es s.cells) where
  -- a target takes a cell
  taken : (t : ℕ) (c : Cell) → put_in temporaries t c s ≡ u → Knows (behind es t) u.cells
  taken t c e = still_known es t s.cells u.cells (λ r n. sym (ap (λ (v : State ℕ). v.cells r) e) ∙ put_off s.cells t c r n) k

  to_known : (t : ℕ) (a : Answer Cell) → to temporaries t a s ≡ On u → Knows (behind es t) u.cells
  to_known t (Ok c) e = let same : put_in temporaries t c s ≡ u = cc in taken t c same
  to_known t (Err Strays) e = absurd cc
  to_known t (Err (Faults n)) e = absurd cc

  -- the cells stay
  kept : s.cells ≡ u.cells → Knows es u.cells
  kept e = subst (Knows es) e k

  objects_known : (a : Answer (List ObjectT)) → to_objects a s ≡ On u → Knows es u.cells
  objects_known (Ok os) e = kept (ap (λ d. cells_of d) e)
  objects_known (Err Strays) e = absurd cc
  objects_known (Err (Faults n)) e = absurd cc

  output_known : (port : ℕ) (a : Answer ℕ) → output port a s ≡ On u → Knows es u.cells
  output_known port (Ok x) e = kept (ap (λ d. cells_of d) e)
  output_known port (Err Strays) e = absurd cc
  output_known port (Err (Faults n)) e = absurd cc

  input_known : (t port : ℕ) (xs : List ℕ) → input temporaries t port xs s ≡ On u → Knows (behind es t) u.cells
  input_known t port [] e = absurd cc
  input_known t port (x ∷ rest) e = still_known es t s.cells u.cells (λ r n. sym (ap (λ d. cells_of d r) e) ∙ put_off s.cells t (Num x) r n) k

pub known_after : (z : Sizes) (es : Words) (o : OpT ℕ) (s u : State ℕ) → Knows es s.cells → acted temporaries z o s ≡ On u → Knows (known_behind es o) u.cells
known_after z es (ConstO t n) s u k e =
    (sym (ap (λ d. cells_of d t) e) ∙ put_on s.cells t (Num n), few_known (behind es t) u.cells (to_known es s u k t (Ok (Num n)) e))
known_after z es (NullO t) s u k e = to_known es s u k t (Ok Null) e
known_after z es (MoveO t a) s u k e = to_known es s u k t (Ok (s.cells a)) e
known_after z es (OneO o t a) s u k e = to_known es s u k t _ e
known_after z es (TwoO o t a b) s u k e = to_known es s u k t _ e
known_after z es (GlobalO t n) s u k e = to_known es s u k t (Ok (Ptr n 0)) e
known_after z es (LocalO t n) s u k e = to_known es s u k t _ e
known_after z es (LiteralO t n) s u k e = to_known es s u k t (Ok (Ptr (z.first_literal + n) 0)) e
known_after z es (CardO t) s u k e = to_known es s u k t (Ok (Ptr z.card 0)) e
known_after z es (StepO t p n) s u k e = to_known es s u k t _ e
known_after z es (ApartO t p q) s u k e = to_known es s u k t _ e
known_after z es (PtrTestO o t p q) s u k e = to_known es s u k t _ e
known_after z es (LoadO t p) s u k e = to_known es s u k t _ e
known_after z es (StoreO p a) s u k e = objects_known es s u k _ e
known_after z es (FreshO n) s u k e = kept es s u k (ap (λ d. cells_of d) e)
known_after z es (EndO n) s u k e = kept es s u k (ap (λ d. cells_of d) e)
known_after z es (InO t port) s u k e = input_known es s u k t port s.world.store.answers e
known_after z es (OutO port a) s u k e = output_known es s u k port _ e
known_after z es WaitO s u k e = kept es s u k (ap (λ d. cells_of d) e)
known_after z es HaltO s u k e = absurd cc
