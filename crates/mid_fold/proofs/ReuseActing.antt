-- An operation that reuses a result does what the operation does, where what is known is so.
use Rattle.std.proofs.Common.{◌≡◌, ℕ, ◌+◌, ◌%◌, ◌^◌, true, false, eqb, List, [], ◌∷◌, Option, Some, None, refl, sym, ap, subst, ◌∙◌, arith}
use Rattle.std.specs.Prelude.{Ok, Err}
use Rattle.std.proofs.Math.Nat.{mod-lt, mod-eq_of_lt}
use Rattle.v32_isa.specs.declared.instruction.Two.{Two}
use Rattle.obj_mem.specs.declared.cell.Cell.{Cell}
use Rattle.obj_mem.specs.declared.cell.Cell.TheVariants.{Unwritten, Num, Ptr, Null}
use Rattle.obj_mem.specs.Objects.{ObjectT}
use Rattle.obj_mem.specs.declared.refusal.Refusal.TheVariants.{Strays, Faults}
use Rattle.obj_mem.specs.Queries.{Answer, step, first_cell}
use Rattle.obj_mem.specs.Stores.{Sizes, local_object}
use Rattle.mid_code.specs.Code.{OpT, ConstO, NullO, MoveO, OneO, TwoO, GlobalO, LocalO, LiteralO, CardO, StepO, ApartO, PtrTestO, LoadO, StoreO, FreshO, EndO, InO, OutO, WaitO, HaltO}
use Rattle.mid_code.specs.Meaning.{Did, On, Ends}
use Rattle.mid_code.specs.States.{State, temporaries, put_in, to, to_objects, input, output, acted, op_weight, two_words, stepped}
use Rattle.mid_fold.specs.inner.Reusing.{Seen, operand_in, result_of, made, step_found, is_address, behind, seen_behind, moved_or, reused_op}
use Rattle.mid_fold.specs.declared.operand.Operand.TheVariants as operand
use Rattle.mid_fold.specs.declared.made.Maker.{Maker}
use Rattle.mid_fold.specs.declared.made.Maker.TheVariants.{Operator, Step, Local}
use Rattle.mid_fold.proofs.Knowing.{put_off, put_on}
use Rattle.mid_fold.proofs.ReuseKnowing.{Holds, found_is, step_is, operand_is, still_holds, operand_holds, result_holds, local_holds as of_local}

-- ---- an operation stays, or it is a move to the same target

pub each_reused : (P : OpT ℕ → OpT ℕ → Type 0) (k : Seen) → ((o : OpT ℕ) → P o o) → ((o : Two) (t a b q : ℕ) → result_of k.1 (made k.0 (Operator o) t a b) ≡ Some q → P (TwoO o t a b) (MoveO t q))
    → ((t p n q : ℕ) → step_found k t p n ≡ Some q → P (StepO t p n) (MoveO t q)) → (o : OpT ℕ) → P o (reused_op k o)
each_reused P k same moves steps (TwoO o t a b) = go (result_of k.1 (made k.0 (Operator o) t a b)) refl
  where
    go : (r : Option ℕ) → result_of k.1 (made k.0 (Operator o) t a b) ≡ r → P (TwoO o t a b) (moved_or t (TwoO o t a b) r)
    go None e = same (TwoO o t a b)
    go (Some q) e = moves o t a b q e
each_reused P k same moves steps (ConstO t n) = same (ConstO t n)
each_reused P k same moves steps (NullO t) = same (NullO t)
each_reused P k same moves steps (MoveO t a) = same (MoveO t a)
each_reused P k same moves steps (OneO o t a) = same (OneO o t a)
each_reused P k same moves steps (GlobalO t n) = same (GlobalO t n)
each_reused P k same moves steps (LocalO t n) = same (LocalO t n)
each_reused P k same moves steps (LiteralO t n) = same (LiteralO t n)
each_reused P k same moves steps (CardO t) = same (CardO t)
each_reused P k same moves steps (StepO t p n) = go (step_found k t p n) refl
  where
    go : (r : Option ℕ) → step_found k t p n ≡ r → P (StepO t p n) (moved_or t (StepO t p n) r)
    go None e = same (StepO t p n)
    go (Some q) e = steps t p n q e
each_reused P k same moves steps (ApartO t p q) = same (ApartO t p q)
each_reused P k same moves steps (PtrTestO o t p q) = same (PtrTestO o t p q)
each_reused P k same moves steps (LoadO t p) = same (LoadO t p)
each_reused P k same moves steps (StoreO p a) = same (StoreO p a)
each_reused P k same moves steps (FreshO n) = same (FreshO n)
each_reused P k same moves steps (EndO n) = same (EndO n)
each_reused P k same moves steps (InO t port) = same (InO t port)
each_reused P k same moves steps (OutO port a) = same (OutO port a)
each_reused P k same moves steps WaitO = same WaitO
each_reused P k same moves steps HaltO = same HaltO

-- ---- the same is done

abbrev pub address : ℕ → Cell
address n = Ptr n 0

-- A cell is made of two. The step by 0 of the address of a local is that address.
abbrev pub MakesCell : Maker → Cell → Cell → Cell → Type 0
MakesCell (Operator o) c d e = two_words o c d ≡ Ok e
MakesCell Step c d e = stepped c d ≡ Ok e
MakesCell Local c d e = stepped e (Num 0) ≡ Ok e

-- an offset that is a word, and 0 added to it
no_further : (n : ℕ) → (n % 2 ^ 32 + 0) % 2 ^ 32 ≡ n % 2 ^ 32
no_further n = let e : n % 2 ^ 32 + 0 ≡ n % 2 ^ 32 = omega arith in ap (λ i. i % 2 ^ 32) e ∙ mod-eq_of_lt (mod-lt n (omega arith))

step_stays : (c : Cell) (n : ℕ) (e : Cell) → step c n ≡ Ok e → step e 0 ≡ Ok e
step_stays (Ptr o i) n e f = let same : Ptr o ((i + n) % 2 ^ 32) ≡ e = cc in subst (λ d. step d 0 ≡ Ok d) same (ap (λ j. Ok (Ptr o j)) (no_further (i + n)))
step_stays Unwritten n e f = absurd cc
step_stays (Num x) n e f = absurd cc
step_stays Null n e f = absurd cc

stepped_stays : (c d e : Cell) → stepped c d ≡ Ok e → stepped e (Num 0) ≡ Ok e
stepped_stays c (Num n) e f = step_stays c n e f
stepped_stays c Unwritten e f = absurd cc
stepped_stays c (Ptr o i) e f = absurd cc
stepped_stays c Null e f = absurd cc

cell_stays : (o : Maker) (c d e : Cell) → is_address (Some o) ≡ true → MakesCell o c d e → stepped e (Num 0) ≡ Ok e
cell_stays (Operator o) c d e f h = absurd cc
cell_stays Step c d e f h = stepped_stays c d e h
cell_stays Local c d e f h = h

-- what is known is so of the cells
abbrev pub HoldsOf : Seen → (ℕ → Cell) → Type 0
HoldsOf = Holds Num address MakesCell

pub same_done : (z : Sizes) (k : Seen) (o : OpT ℕ) (s : State ℕ) → HoldsOf k s.cells → acted temporaries z (reused_op k o) s ≡ acted temporaries z o s
same_done z k o s h =
    each_reused (λ o p. acted temporaries z p s ≡ acted temporaries z o s) k (λ o. refl) (λ o t a b q e. ap (λ r. to temporaries t r s) (sym (found_is Num address MakesCell k s.cells (Operator o) t a b q h e)))
    (λ t p n q e. ap (λ r. to temporaries t r s) (sym (step_is Num address MakesCell cell_stays k s.cells t p n q h e))) o

pub same_weight : (k : Seen) (o : OpT ℕ) → op_weight (reused_op k o) ≡ op_weight o
same_weight k o = each_reused (λ o p. op_weight p ≡ op_weight o) k (λ o. refl) (λ o t a b q e. refl) (λ t p n q e. refl) o

-- ---- what is known behind

abbrev cells_of : Did (State ℕ) → ℕ → Cell
cells_of (On s) = s.cells
cells_of (Ends end s) = s.cells

module _ (k : Seen) (s u : State ℕ) (h : HoldsOf k s.cells) where
  -- a target takes a cell
  module _ (t : ℕ) (c : Cell) (e : put_in temporaries t c s ≡ u) where
    off : (r : ℕ) → eqb r t ≡ false → u.cells r ≡ s.cells r
    off r n = sym (ap (λ (v : State ℕ). v.cells r) e) ∙ put_off s.cells t c r n

    on : u.cells t ≡ c
    on = sym (ap (λ (v : State ℕ). v.cells t) e) ∙ put_on s.cells t c

  to_holds : (t : ℕ) (a : Answer Cell) → to temporaries t a s ≡ On u → HoldsOf (behind k t) u.cells
  to_holds t (Ok c) e = let same : put_in temporaries t c s ≡ u = cc in still_holds Num address MakesCell t s.cells u.cells (off t c same) k h
  to_holds t (Err Strays) e = absurd cc
  to_holds t (Err (Faults n)) e = absurd cc

  word_holds : (t w : ℕ) → to temporaries t (Ok (Num w)) s ≡ On u → HoldsOf (seen_behind k (ConstO t w)) u.cells
  word_holds t w e = let same : put_in temporaries t (Num w) s ≡ u = cc in operand_holds Num address MakesCell t s.cells u.cells (off t (Num w) same) k (operand.Word w) h (on t (Num w) same)

  move_holds : (t a : ℕ) → to temporaries t (Ok (s.cells a)) s ≡ On u → HoldsOf (seen_behind k (MoveO t a)) u.cells
  move_holds t a e =
      let same : put_in temporaries t (s.cells a) s ≡ u = cc in
      operand_holds Num address MakesCell t s.cells u.cells (off t (s.cells a) same) k (operand_in k.0 a) h (on t (s.cells a) same ∙ operand_is Num address MakesCell k.0 s.cells a h.0)

  two_holds : (o : Two) (t a b : ℕ) (r : Answer Cell) → two_words o (s.cells a) (s.cells b) ≡ r → to temporaries t r s ≡ On u → HoldsOf (seen_behind k (TwoO o t a b)) u.cells
  two_holds o t a b (Ok c) f e =
      let same : put_in temporaries t c s ≡ u = cc in
      result_holds Num address MakesCell t s.cells u.cells (off t c same) k (Operator o) a b h (f ∙ ap Ok (sym (on t c same)))
  two_holds o t a b (Err Strays) f e = absurd cc
  two_holds o t a b (Err (Faults n)) f e = absurd cc

  step_holds : (t p n : ℕ) (r : Answer Cell) → stepped (s.cells p) (s.cells n) ≡ r → to temporaries t r s ≡ On u → HoldsOf (seen_behind k (StepO t p n)) u.cells
  step_holds t p n (Ok c) f e =
      let same : put_in temporaries t c s ≡ u = cc in
      result_holds Num address MakesCell t s.cells u.cells (off t c same) k Step p n h (f ∙ ap Ok (sym (on t c same)))
  step_holds t p n (Err Strays) f e = absurd cc
  step_holds t p n (Err (Faults m)) f e = absurd cc

  local_holds : (t n : ℕ) (l : Option ℕ) → to temporaries t (first_cell l) s ≡ On u → HoldsOf (seen_behind k (LocalO t n)) u.cells
  local_holds t n (Some o) e =
      let same : put_in temporaries t (Ptr o 0) s ≡ u = cc in
      of_local Num address MakesCell t s.cells u.cells (off t (Ptr o 0) same) k h
      (ap (λ c. stepped c (Num 0)) (on t (Ptr o 0) same) ∙ ap Ok (sym (on t (Ptr o 0) same)))
  local_holds t n None e = absurd cc

  address_holds : (t n : ℕ) → to temporaries t (Ok (Ptr n 0)) s ≡ On u → HoldsOf (seen_behind k (GlobalO t n)) u.cells
  address_holds t n e = let same : put_in temporaries t (Ptr n 0) s ≡ u = cc in operand_holds Num address MakesCell t s.cells u.cells (off t (Ptr n 0) same) k (operand.Address n) h (on t (Ptr n 0) same)

  -- the cells stay
  kept : s.cells ≡ u.cells → HoldsOf k u.cells
  kept e = subst (HoldsOf k) e h

  objects_holds : (a : Answer (List ObjectT)) → to_objects a s ≡ On u → HoldsOf k u.cells
  objects_holds (Ok os) e = kept (ap (λ d. cells_of d) e)
  objects_holds (Err Strays) e = absurd cc
  objects_holds (Err (Faults n)) e = absurd cc

  output_holds : (port : ℕ) (a : Answer ℕ) → output port a s ≡ On u → HoldsOf k u.cells
  output_holds port (Ok x) e = kept (ap (λ d. cells_of d) e)
  output_holds port (Err Strays) e = absurd cc
  output_holds port (Err (Faults n)) e = absurd cc

  input_holds : (t port : ℕ) (xs : List ℕ) → input temporaries t port xs s ≡ On u → HoldsOf (behind k t) u.cells
  input_holds t port [] e = absurd cc
  input_holds t port (x ∷ rest) e = still_holds Num address MakesCell t s.cells u.cells (λ r n. sym (ap (λ d. cells_of d r) e) ∙ put_off s.cells t (Num x) r n) k h

pub holds_after : (z : Sizes) (k : Seen) (o : OpT ℕ) (s u : State ℕ) → HoldsOf k s.cells → acted temporaries z o s ≡ On u → HoldsOf (seen_behind k o) u.cells
holds_after z k (ConstO t n) s u h e = word_holds k s u h t n e
holds_after z k (NullO t) s u h e = to_holds k s u h t (Ok Null) e
holds_after z k (MoveO t a) s u h e = move_holds k s u h t a e
holds_after z k (OneO o t a) s u h e = to_holds k s u h t _ e
holds_after z k (TwoO o t a b) s u h e = two_holds k s u h o t a b (two_words o (s.cells a) (s.cells b)) refl e
holds_after z k (GlobalO t n) s u h e = address_holds k s u h t n e
holds_after z k (LocalO t n) s u h e = local_holds k s u h t n (local_object s.world.store.locals n) e
holds_after z k (LiteralO t n) s u h e = to_holds k s u h t (Ok (Ptr (z.first_literal + n) 0)) e
holds_after z k (CardO t) s u h e = to_holds k s u h t (Ok (Ptr z.card 0)) e
holds_after z k (StepO t p n) s u h e = step_holds k s u h t p n (stepped (s.cells p) (s.cells n)) refl e
holds_after z k (ApartO t p q) s u h e = to_holds k s u h t _ e
holds_after z k (PtrTestO o t p q) s u h e = to_holds k s u h t _ e
holds_after z k (LoadO t p) s u h e = to_holds k s u h t _ e
holds_after z k (StoreO p a) s u h e = objects_holds k s u h _ e
holds_after z k (FreshO n) s u h e = kept k s u h (ap (λ d. cells_of d) e)
holds_after z k (EndO n) s u h e = kept k s u h (ap (λ d. cells_of d) e)
holds_after z k (InO t port) s u h e = input_holds k s u h t port s.world.store.answers e
holds_after z k (OutO port a) s u h e = output_holds k s u h port _ e
holds_after z k WaitO s u h e = kept k s u h (ap (λ d. cells_of d) e)
holds_after z k HaltO s u h e = absurd cc
