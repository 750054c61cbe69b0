-- Of code whose results are used again the same lasts.
use Rattle.std.proofs.Common.{◌≡◌, ℕ, Bool, true, false, not, cond, eqb, ◌&&◌, map, Option, Some, None, refl, sym, ap, ◌∙◌}
use Rattle.std.proofs.lemmas.Bool.{eq-eqb}
use Rattle.v32_isa.specs.declared.instruction.Two.{Two}
use Rattle.v32_isa.specs.declared.instruction.Two.TheVariants.{IEQ, INE, IGT, IGE, ILT, ILE, AND, OR, XOR, SHL, IADD, ISUB, IMUL, IDIV, IMOD, IMIN, IMAX}
use Rattle.mid_code.specs.Code.{OpT, ConstO, NullO, MoveO, OneO, TwoO, GlobalO, LocalO, LiteralO, CardO, StepO, ApartO, PtrTestO, LoadO, StoreO, FreshO, EndO, InO, OutO, WaitO, HaltO, NodesT, Stop, Do, Call, Choose, Block, Loop, Leave, Again, Return}
use Rattle.mid_code.specs.Skeleton.{some_place}
use Rattle.mid_fold.specs.Lasting.{KnownWords, no_words, one_known, two_known, with_word, words_behind, divides, is_nonzero, lasting}
use Rattle.mid_fold.specs.declared.operand.Operand.{Operand}
use Rattle.mid_fold.specs.declared.operand.Operand.TheVariants as operand
use Rattle.mid_fold.specs.declared.made.Maker.{Maker}
use Rattle.mid_fold.specs.declared.made.Maker.TheVariants.{Operator, Step, Local}
use Rattle.mid_fold.specs.inner.Reusing.{Seen, nothing_seen, operand_in, result_in, result_of, made, is_address, behind, is_operator_worth, seen_behind, reused_op, reused}
use Rattle.mid_fold.proofs.Lasts.{SameWords, itself, other_way, operator_if, op_lasts}
use Rattle.mid_fold.proofs.ReuseKnowing.{Holds, nothing_holds, found_is, step_is, operand_is, still_holds, operand_holds, result_holds, local_holds}
use Rattle.mid_fold.proofs.ReuseActing.{each_reused}

abbrev no_word : ℕ → Option ℕ
no_word n = None

-- a word is made of two, where they are known; an address is none
abbrev MakesWord : Maker → Option ℕ → Option ℕ → Option ℕ → Type 0
MakesWord (Operator o) x y w = two_known o x y ≡ w
MakesWord Step x y w = None ≡ w
MakesWord Local x y w = None ≡ w

word_stays : (o : Maker) (x y w : Option ℕ) → is_address (Some o) ≡ true → MakesWord o x y w → None ≡ w
word_stays (Operator o) x y w e h = absurd cc
word_stays Step x y w e h = h
word_stays Local x y w e h = h

abbrev HoldsWords : Seen → KnownWords → Type 0
HoldsWords = Holds Some no_word MakesWord

nothing : (ws : KnownWords) → HoldsWords nothing_seen ws
nothing ws = nothing_holds Some no_word MakesWord ws

-- ---- no division is worth it

no_division : (o : Two) (x y : Operand) → is_operator_worth o x y ≡ true → divides o ≡ false
no_division IEQ x y e = refl
no_division INE x y e = refl
no_division IGT x y e = refl
no_division IGE x y e = refl
no_division ILT x y e = refl
no_division ILE x y e = refl
no_division AND x y e = refl
no_division OR x y e = refl
no_division XOR x y e = refl
no_division SHL x y e = refl
no_division IADD x y e = refl
no_division ISUB x y e = refl
no_division IMUL x y e = refl
no_division IDIV x y e = absurd cc
no_division IMOD x y e = absurd cc
no_division IMIN x y e = refl
no_division IMAX x y e = refl

found_worth : (k : Seen) (o : Two) (t a b q : ℕ) → result_of k.1 (made k.0 (Operator o) t a b) ≡ Some q → divides o ≡ false
found_worth k o t a b q e = go (is_operator_worth o (operand_in k.0 a) (operand_in k.0 b)) refl e
  where
    go : (w : Bool) → is_operator_worth o (operand_in k.0 a) (operand_in k.0 b) ≡ w → cond w (result_in k.1 (Operator o) (operand_in k.0 a) (operand_in k.0 b)) None ≡ Some q → divides o ≡ false
    go true f g = no_division o (operand_in k.0 a) (operand_in k.0 b) f
    go false f g = absurd cc

-- ---- operations

same_words : (k : Seen) (ws : KnownWords) (o : OpT ℕ) → HoldsWords k ws → SameWords ws o (reused_op k o)
same_words k ws o h =
    each_reused (SameWords ws) k (itself ws)
    (λ o t a b q e. record {
      target = refl;
      made = sym (found_is Some no_word MakesWord k ws (Operator o) t a b q h e);
      lasts = sym (ap (λ d. operator_if o (d && not (is_nonzero (ws b)))) (found_worth k o t a b q e));
    })
    (λ t p n q e. record { target = refl; made = sym (step_is Some no_word MakesWord word_stays k ws t p n q h e); lasts = refl }) o

module _ (k : Seen) (ws : KnownWords) (h : HoldsWords k ws) where
  off : (t : ℕ) (made : Option ℕ) (r : ℕ) → eqb r t ≡ false → with_word (Some t) made ws r ≡ ws r
  off t made r e = ap (λ b. cond b made (ws r)) (other_way r t e)

  on : (t : ℕ) (made : Option ℕ) → with_word (Some t) made ws t ≡ made
  on t made = ap (λ b. cond b made (ws t)) (eq-eqb t t refl)

  target_holds : (t : ℕ) (made : Option ℕ) → HoldsWords (behind k t) (with_word (Some t) made ws)
  target_holds t made = still_holds Some no_word MakesWord t ws (with_word (Some t) made ws) (off t made) k h

  holds_behind : (o : OpT ℕ) → HoldsWords (seen_behind k o) (words_behind ws o)
  holds_behind (ConstO t n) = operand_holds Some no_word MakesWord t ws (with_word (Some t) (Some n) ws) (off t (Some n)) k (operand.Word n) h (on t (Some n))
  holds_behind (NullO t) = target_holds t None
  holds_behind (MoveO t a) = operand_holds Some no_word MakesWord t ws (with_word (Some t) (ws a) ws) (off t (ws a)) k (operand_in k.0 a) h (on t (ws a) ∙ operand_is Some no_word MakesWord k.0 ws a h.0)
  holds_behind (OneO o t a) = target_holds t (one_known o (ws a))
  holds_behind (TwoO o t a b) =
      let word = two_known o (ws a) (ws b) in
      result_holds Some no_word MakesWord t ws (with_word (Some t) word ws) (off t word) k (Operator o) a b h (sym (on t word))
  holds_behind (GlobalO t n) = operand_holds Some no_word MakesWord t ws (with_word (Some t) None ws) (off t None) k (operand.Address n) h (on t None)
  holds_behind (LocalO t n) = local_holds Some no_word MakesWord t ws (with_word (Some t) None ws) (off t None) k h (sym (on t None))
  holds_behind (LiteralO t n) = target_holds t None
  holds_behind (CardO t) = target_holds t None
  holds_behind (StepO t p n) = result_holds Some no_word MakesWord t ws (with_word (Some t) None ws) (off t None) k Step p n h (sym (on t None))
  holds_behind (ApartO t p q) = target_holds t None
  holds_behind (PtrTestO o t p q) = target_holds t None
  holds_behind (LoadO t p) = target_holds t None
  holds_behind (StoreO p a) = h
  holds_behind (FreshO n) = h
  holds_behind (EndO n) = h
  holds_behind (InO t port) = target_holds t None
  holds_behind (OutO port a) = h
  holds_behind WaitO = h
  holds_behind HaltO = h

-- ---- nodes

reused_lasts : (k : Seen) (ws : KnownWords) (c : NodesT ℕ) → HoldsWords k ws → lasting ws (reused k c) ≡ lasting ws c
reused_lasts k ws Stop h = refl
reused_lasts k ws (Do o c) h =
    let p = reused_op k o in
    op_lasts ws o p c (reused (seen_behind k p) c) (same_words k ws o h) (reused_lasts (seen_behind k p) (words_behind ws p) c (holds_behind k ws h p))
reused_lasts k ws (Call t f args c) h = ap (Call (some_place t) f (map (λ a. tt) args)) (reused_lasts nothing_seen (with_word t None ws) c (nothing (with_word t None ws)))
reused_lasts k ws (Choose p a b c) h = λ i. Choose tt (reused_lasts k ws a h i) (reused_lasts k ws b h i) (reused_lasts nothing_seen no_words c (nothing no_words) i)
reused_lasts k ws (Block b c) h = λ i. Block (reused_lasts k ws b h i) (reused_lasts nothing_seen no_words c (nothing no_words) i)
reused_lasts k ws (Loop b c) h = λ i. Loop (reused_lasts nothing_seen no_words b (nothing no_words) i) (reused_lasts nothing_seen no_words c (nothing no_words) i)
reused_lasts k ws (Leave j c) h = ap (Leave j) (reused_lasts nothing_seen no_words c (nothing no_words))
reused_lasts k ws (Again j c) h = ap (Again j) (reused_lasts nothing_seen no_words c (nothing no_words))
reused_lasts k ws (Return p c) h = ap (Return (some_place p)) (reused_lasts nothing_seen no_words c (nothing no_words))

pub same_divisions : (c : NodesT ℕ) → lasting no_words (reused nothing_seen c) ≡ lasting no_words c
same_divisions c = reused_lasts nothing_seen no_words c (nothing no_words)
