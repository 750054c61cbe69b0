-- Of code that a walk has gone through the same lasts: what is held back is no division, and what its target takes is known behind it wherever it stands.
use Rattle.std.proofs.Common.{◌≡◌, ℕ, Bool, true, false, not, cond, eqb, ◌&&◌, ◌||◌, List, [], ◌∷◌, map, Option, Some, None, refl, sym, ap, ◌∙◌}
use Rattle.std.specs.List.{list_all}
use Rattle.std.proofs.lemmas.Bool.{true≢false, false≢true, eqb-true, eq-eqb}
use Rattle.mid_code.specs.Code.{OpT, ConstO, GlobalO, StepO, NodesT, Stop, Do, Call, Choose, Block, Loop, Leave, Again, Return, uses, target, maybe}
use Rattle.mid_code.specs.Invariants.{AllOf}
use Rattle.mid_code.specs.Skeleton.{some_before, some_place}
use Rattle.mid_code.specs.inner.Passing.{doing}
use Rattle.mid_fold.specs.Lasting.{KnownWords, no_words, word_made, with_word, words_behind, lasts, lasting}
use Rattle.mid_fold.proofs.Lasts.{made_alike, lasts_alike}
use Rattle.mid_improve.specs.declared.sinking.Walk.{Walk}
use Rattle.mid_improve.specs.inner.Sinking.{is_free, Held, held_ops, hides, fixes, is_apart, stops, goes_on, ops_alone, held_alone, ops_at, held_behind, sunk}
use Rattle.mid_improve.proofs.SinkPass.{neither, Waits, waits}
use Rattle.mid_improve.proofs.Tabled.{both}

-- ---- two temporaries that differ

is_off : (b : Bool) → not b ≡ true → b ≡ false
is_off true e = absurd (false≢true e)
is_off false e = refl

other_way : (q t : ℕ) → eqb q t ≡ false → eqb t q ≡ false
other_way q t e = go (eqb t q) refl
  where
    go : (b : Bool) → eqb t q ≡ b → eqb t q ≡ false
    go true f = absurd (true≢false (sym (eq-eqb q t (sym (eqb-true t q f))) ∙ e))
    go false f = f

-- two temporaries take words in either order
cond_swap : (x y : Bool) (w m v : Option ℕ) → (x ≡ true → y ≡ true → ⊥) → cond x w (cond y m v) ≡ cond y m (cond x w v)
cond_swap true true w m v n = absurd (n refl refl)
cond_swap true false w m v n = refl
cond_swap false y w m v n = refl

module _ (t : ℕ) (w : Option ℕ) (vs : KnownWords) where
  abbrev Other : ℕ → Bool
  Other q = not (eqb q t)

  swapped : (u m : Option ℕ) → list_all Other (maybe u) ≡ true → with_word (Some t) w (with_word u m vs) ≡ with_word u m (with_word (Some t) w vs)
  swapped None m e = refl
  swapped (Some x) m e = λ i q. cond_swap (eqb t q) (eqb x q) w m (vs q) (differ q) i
    where
      differ : (q : ℕ) → eqb t q ≡ true → eqb x q ≡ true → ⊥
      differ q f g = true≢false (sym (eq-eqb x t (eqb-true x q g ∙ sym (eqb-true t q f))) ∙ is_off (eqb x t) (both (Other x) true e).0)

  others_same : (qs : List ℕ) → list_all Other qs ≡ true → AllOf (λ q. with_word (Some t) w vs q ≡ vs q) qs
  others_same [] e = tt
  others_same (q ∷ qs) e = let b = both (Other q) (list_all Other qs) e in (ap (λ x. cond x w (vs q)) (other_way q t (is_off (eqb q t) b.0)), others_same qs b.1)

  -- an operation that neither uses the temporary nor puts anything into it
  abbrev Exchanged : OpT ℕ → Type 0
  Exchanged o = (lasts (with_word (Some t) w vs) o ≡ lasts vs o) × (with_word (Some t) w (words_behind vs o) ≡ words_behind (with_word (Some t) w vs) o)

  exchanged : (o : OpT ℕ) → (list_all Other (uses o) && list_all Other (maybe (target o))) ≡ true → Exchanged o
  exchanged o e =
      let b = both (list_all Other (uses o)) (list_all Other (maybe (target o))) e in
      let s = others_same (uses o) b.0 in
      (lasts_alike vs (with_word (Some t) w vs) o s, swapped (target o) (word_made vs o) b.1 ∙ ap (λ m. with_word (target o) m (with_word (Some t) w vs)) (sym (made_alike vs (with_word (Some t) w vs) o s)))

-- ---- what is held back

-- what is known where it is done
abbrev held_words : Held → KnownWords → KnownWords
held_words None vs = vs
held_words (Some p) vs = words_behind vs p

abbrev HoldsFree : Held → Type 0
HoldsFree None = Unit {0}
HoldsFree (Some p) = Waits p

waits_leaves : (vs : KnownWords) (p : OpT ℕ) → Waits p → lasts vs p ≡ None
waits_leaves vs (ConstO t word) e = refl
waits_leaves vs (GlobalO t number) e = refl
waits_leaves vs (StepO t p n) e = refl
waits_leaves vs _ e = absurd e

-- what need not keep its cell is not the target
open_shown : (t p n : ℕ) (u : Option ℕ) → list_all (λ q. not (fixes (Some (StepO t p n)) q)) (maybe u) ≡ true → list_all (λ q. not (eqb q t)) (maybe u) ≡ true
open_shown t p n None e = refl
open_shown t p n (Some q) e =
    let all = is_off (fixes (Some (StepO t p n)) q) (both (not (fixes (Some (StepO t p n)) q)) true e).0 in
    ap (λ x. not x && true) (neither (eqb q t) (eqb q p || eqb q n) all).0

apart_exchanged : (vs : KnownWords) (p o : OpT ℕ) → Waits p → is_apart (Some p) o ≡ true → (lasts (words_behind vs p) o ≡ lasts vs o) × (words_behind (words_behind vs o) p ≡ words_behind (words_behind vs p) o)
apart_exchanged vs (ConstO t word) o f e = exchanged t (Some word) vs o e
apart_exchanged vs (GlobalO t number) o f e = exchanged t None vs o e
apart_exchanged vs (StepO t p n) o f e =
    let b = both (list_all (λ q. not (eqb q t)) (uses o)) (list_all (λ q. not (fixes (Some (StepO t p n)) q)) (maybe (target o))) e in
    let shown = open_shown t p n (target o) b.1 in
    exchanged t None vs o (λ i. b.0 i && shown i)
apart_exchanged vs _ o f e = absurd f

held_lasts : (h : Held) (vs : KnownWords) (c : NodesT ℕ) → HoldsFree h → lasting vs (doing (held_ops h) c) ≡ lasting (held_words h vs) c
held_lasts None vs c f = refl
held_lasts (Some p) vs c f = ap (λ o. some_before o (lasting (words_behind vs p) c)) (waits_leaves vs p f)

-- ---- an operation, before code of which this lasts

module _ (W : Walk) (o : OpT ℕ) (c : NodesT ℕ) where
  abbrev Rest : Held → Type 0
  Rest k = HoldsFree k → (us : KnownWords) → lasting us (sunk W k c) ≡ lasting (held_words k us) c

  free_lasts : (h : Held) (vs : KnownWords) (b : Bool) → is_free W h o ≡ b → Rest (cond b (Some o) None) → lasting vs (doing (cond b [] (o ∷ [])) (sunk W (cond b (Some o) None) c)) ≡ some_before (lasts vs o) (lasting (words_behind vs o) c)
  free_lasts h vs true e r = let k = waits W h o e in r k vs ∙ sym (ap (λ p. some_before p (lasting (words_behind vs o) c)) (waits_leaves vs o k))
  free_lasts h vs false e r = ap (some_before (lasts vs o)) (r tt (words_behind vs o))

  alone_lasts : (h : Held) (vs : KnownWords) → Rest (held_alone W h o) → lasting vs (doing (ops_alone W h o) (sunk W (held_alone W h o) c)) ≡ some_before (lasts vs o) (lasting (words_behind vs o) c)
  alone_lasts h vs r = free_lasts h vs (is_free W h o) refl r

  beside_lasts : (vs : KnownWords) (p : OpT ℕ) (b : Bool) → Waits p → goes_on W (Some p) o ≡ b → Rest (cond b (Some p) (held_alone W (Some p) o))
      → lasting vs (doing (cond b (o ∷ []) (p ∷ ops_alone W (Some p) o)) (sunk W (cond b (Some p) (held_alone W (Some p) o)) c)) ≡ some_before (lasts (words_behind vs p) o) (lasting (words_behind (words_behind vs p) o) c)
  beside_lasts vs p true f e r = let x = apart_exchanged vs p o f (both (is_apart (Some p) o) (not (stops W (Some p) o)) e).0 in λ i. some_before (sym x.0 i) ((r f (words_behind vs o) ∙ ap (λ us. lasting us c) x.1) i)
  beside_lasts vs p false f e r =
      ap (λ q. some_before q (lasting (words_behind vs p) (doing (ops_alone W (Some p) o) (sunk W (held_alone W (Some p) o) c)))) (waits_leaves vs p f) ∙ alone_lasts (Some p) (words_behind vs p) r

  op_lasts : (vs : KnownWords) (h : Held) → HoldsFree h → Rest (held_behind W h o) → lasting vs (doing (ops_at W h o) (sunk W (held_behind W h o) c)) ≡ lasting (held_words h vs) (Do o c)
  op_lasts vs None f r = alone_lasts None vs r
  op_lasts vs (Some p) f r = beside_lasts vs p (goes_on W (Some p) o) f refl r

-- ---- nodes

sunk_lasts : (W : Walk) (h : Held) (c : NodesT ℕ) → HoldsFree h → (vs : KnownWords) → lasting vs (sunk W h c) ≡ lasting (held_words h vs) c
sunk_lasts W h Stop f vs = held_lasts h vs Stop f
sunk_lasts W h (Do o c) f vs = op_lasts W o c vs h f (λ g us. sunk_lasts W (held_behind W h o) c g us)
sunk_lasts W h (Call t k args c) f vs = held_lasts h vs (Call t k args (sunk W None c)) f ∙ ap (Call (some_place t) k (map (λ a. tt) args)) (sunk_lasts W None c tt (with_word t None (held_words h vs)))
sunk_lasts W h (Choose p a b c) f vs = held_lasts h vs (Choose p (sunk W None a) (sunk W None b) (sunk W None c)) f ∙ (λ i. Choose tt (sunk_lasts W None a tt (held_words h vs) i) (sunk_lasts W None b tt (held_words h vs) i) (sunk_lasts W None c tt no_words i))
sunk_lasts W h (Block b c) f vs = held_lasts h vs (Block (sunk W None b) (sunk W None c)) f ∙ (λ i. Block (sunk_lasts W None b tt (held_words h vs) i) (sunk_lasts W None c tt no_words i))
sunk_lasts W h (Loop b c) f vs = held_lasts h vs (Loop (sunk W None b) (sunk W None c)) f ∙ (λ i. Loop (sunk_lasts W None b tt no_words i) (sunk_lasts W None c tt no_words i))
sunk_lasts W h (Leave k c) f vs = held_lasts h vs (Leave k (sunk W None c)) f ∙ ap (Leave k) (sunk_lasts W None c tt no_words)
sunk_lasts W h (Again k c) f vs = held_lasts h vs (Again k (sunk W None c)) f ∙ ap (Again k) (sunk_lasts W None c tt no_words)
sunk_lasts W h (Return p c) f vs = held_lasts h vs (Return p (sunk W None c)) f ∙ ap (Return (some_place p)) (sunk_lasts W None c tt no_words)

pub sunk_divisions : (W : Walk) (c : NodesT ℕ) → lasting no_words (sunk W None c) ≡ lasting no_words c
sunk_divisions W c = sunk_lasts W None c tt no_words
