-- Of code whose targets are moved at once the same lasts: between the two nodes the two temporaries alone have other words, and the node behind is a move.
use Rattle.std.proofs.Common.{◌≡◌, ℕ, Bool, true, false, cond, eqb, map, Option, Some, None, refl, sym, ap, ◌∙◌, subst}
use Rattle.std.proofs.lemmas.Bool.{eqb-true, eq-eqb}
use Rattle.mid_code.specs.Code.{OpT, ConstO, NullO, MoveO, OneO, TwoO, GlobalO, LocalO, LiteralO, CardO, StepO, ApartO, PtrTestO, LoadO, StoreO, FreshO, EndO, InO, OutO, WaitO, HaltO, target, NodesT, Stop, Do, Call, Choose, Block, Loop, Leave, Again, Return}
use Rattle.mid_code.specs.Skeleton.{some_before, some_place}
use Rattle.mid_fold.specs.Lasting.{KnownWords, no_words, word_made, with_word, words_behind, lasts, lasting}
use Rattle.mid_improve.specs.inner.Retarget.{landing, lands, op_to, Turn, turn_of, op_retargeted, op_turn, retargeted}
use Rattle.mid_improve.proofs.RetargetLike.{Begins, Ready, ready, op_behind, none_else}

pub place_same : (t : Option ℕ) (c : NodesT ℕ) → some_place (lands t c) ≡ some_place t
place_same None c = refl
place_same (Some t) c = refl

-- ---- words that are known before and after it

-- the second temporary has the word of the first, and all but the two have theirs
record Turned (p : ℕ × ℕ) (ws vs : KnownWords) : Type 0 where
  moved : vs p.1 ≡ ws p.0
  others : (q : ℕ) → eqb p.0 q ≡ false → eqb p.1 q ≡ false → vs q ≡ ws q

abbrev Alike : Turn → KnownWords → KnownWords → Type 0
Alike None ws vs = vs ≡ ws
Alike (Some p) ws vs = Turned p ws vs

-- a word of a target, and of where it lands
landed_at : (ws : KnownWords) (m : Option ℕ) (t x : ℕ) (b : Bool) → eqb x t ≡ b → Alike (cond b None (Some (t, x))) (with_word (Some t) m ws) (with_word (Some x) m ws)
landed_at ws m t x true e = ap (λ y. with_word (Some y) m ws) (eqb-true x t e)
landed_at ws m t x false e = record {
  moved = ap (λ b. cond b m (ws x)) (eq-eqb x x refl) ∙ sym (ap (λ b. cond b m (ws t)) (eq-eqb t t refl));
  others = λ q f g. ap (λ b. cond b m (ws q)) g ∙ sym (ap (λ b. cond b m (ws q)) f);
}

landed_alike : (ws : KnownWords) (m t : Option ℕ) (c : NodesT ℕ) → Alike (turn_of t (lands t c)) (with_word t m ws) (with_word (lands t c) m ws)
landed_alike ws m None c = refl
landed_alike ws m (Some t) c = landed_at ws m t (landing t c) (eqb (landing t c) t) refl

-- behind the move all have theirs
moved_back : (p : ℕ × ℕ) (ws vs : KnownWords) → Turned p ws vs → with_word (Some p.0) (vs p.1) vs ≡ with_word (Some p.1) (ws p.0) ws
moved_back p ws vs a = λ i q. go q (eqb p.0 q) (eqb p.1 q) refl refl i
  where
    go : (q : ℕ) (b d : Bool) → eqb p.0 q ≡ b → eqb p.1 q ≡ d → cond b (vs p.1) (vs q) ≡ cond d (ws p.0) (ws q)
    go q true true e f = a.moved
    go q true false e f = a.moved ∙ ap ws (eqb-true p.0 q e)
    go q false true e f = sym (ap vs (eqb-true p.1 q f)) ∙ a.moved
    go q false false e f = a.others q e f

-- ---- operations

-- an operation that puts the same into another target
abbrev SameInto : KnownWords → OpT ℕ → NodesT ℕ → Type 0
SameInto ws o c = (lasts ws (op_to (lands (target o) c) o) ≡ lasts ws o) × (words_behind ws (op_to (lands (target o) c) o) ≡ with_word (lands (target o) c) (word_made ws o) ws)

same_into : (ws : KnownWords) (o : OpT ℕ) (c : NodesT ℕ) → SameInto ws o c
same_into ws (ConstO t n) c = (refl, refl)
same_into ws (NullO t) c = (refl, refl)
same_into ws (MoveO t a) c = (refl, refl)
same_into ws (OneO o t a) c = (refl, refl)
same_into ws (TwoO o t a b) c = (refl, refl)
same_into ws (GlobalO t n) c = (refl, refl)
same_into ws (LocalO t n) c = (refl, refl)
same_into ws (LiteralO t n) c = (refl, refl)
same_into ws (CardO t) c = (refl, refl)
same_into ws (StepO t p n) c = (refl, refl)
same_into ws (ApartO t p q) c = (refl, refl)
same_into ws (PtrTestO o t p q) c = (refl, refl)
same_into ws (LoadO t p) c = (refl, refl)
same_into ws (StoreO p a) c = (refl, refl)
same_into ws (FreshO n) c = (refl, refl)
same_into ws (EndO n) c = (refl, refl)
same_into ws (InO t port) c = (refl, refl)
same_into ws (OutO port a) c = (refl, refl)
same_into ws WaitO c = (refl, refl)
same_into ws HaltO c = (refl, refl)

-- what holds of the code behind a point
abbrev SameRest : Turn → NodesT ℕ → Type 0
SameRest h c = (vs ws : KnownWords) → Alike h ws vs → lasting vs (retargeted h c) ≡ lasting ws c

op_lasts : (h : Turn) (o : OpT ℕ) (c : NodesT ℕ) → Ready h (Do o c) → SameRest (op_turn h o c) c → SameRest h (Do o c)
op_lasts None o c n r vs ws a =
    let k = op_turn None o c in
    let s = same_into ws o c in
    ap (λ us. lasting us (Do (op_retargeted None o c) (retargeted k c))) a
    ∙ (λ i. some_before (s.0 i) (lasting (s.1 i) (retargeted k c)))
    ∙ ap (some_before (lasts ws o)) (r (with_word (lands (target o) c) (word_made ws o) ws) (words_behind ws o) (landed_alike ws (word_made ws o) (target o) c))
op_lasts (Some v) (MoveO x a) c n r vs ws k =
    r (with_word (Some v.0) (vs v.1) vs) (with_word (Some x) (ws a) ws) (moved_back v ws vs k ∙ (λ i. with_word (Some (sym n.0 i)) (ws (sym n.1 i)) ws))
op_lasts (Some v) _ c n r vs ws k = absurd n

-- ---- nodes

-- no turn is open where something else stands than an operation
closed : (h : Turn) (c : NodesT ℕ) (vs ws : KnownWords) → Ready h c → ((p : ℕ × ℕ) → Begins p c → ⊥) → Alike h ws vs → vs ≡ ws
closed h c vs ws n f a = subst (λ k. Alike k ws vs) (none_else h c n f) a

retargeted_lasts : (h : Turn) (c : NodesT ℕ) → Ready h c → SameRest h c
retargeted_lasts h Stop n vs ws a = refl
retargeted_lasts h (Do o c) n vs ws a = op_lasts h o c n (retargeted_lasts (op_turn h o c) c (op_behind h o c)) vs ws a
retargeted_lasts h (Call t f args c) n vs ws a =
    let e = closed h (Call t f args c) vs ws n (λ p b. b) a in
    let k = turn_of t (lands t c) in
    let r = ap (λ us. lasting (with_word (lands t c) None us) (retargeted k c)) e ∙ retargeted_lasts k c (ready t c) (with_word (lands t c) None ws) (with_word t None ws) (landed_alike ws None t c) in
    λ i. Call (place_same t c i) f (map (λ y. tt) args) (r i)
retargeted_lasts h (Choose p a b c) n vs ws k =
    let e = closed h (Choose p a b c) vs ws n (λ q d. d) k in
    λ i. Choose tt (retargeted_lasts None a tt vs ws e i) (retargeted_lasts None b tt vs ws e i) (retargeted_lasts None c tt no_words no_words refl i)
retargeted_lasts h (Block b c) n vs ws k =
    let e = closed h (Block b c) vs ws n (λ q d. d) k in
    λ i. Block (retargeted_lasts None b tt vs ws e i) (retargeted_lasts None c tt no_words no_words refl i)
retargeted_lasts h (Loop b c) n vs ws k = λ i. Loop (retargeted_lasts None b tt no_words no_words refl i) (retargeted_lasts None c tt no_words no_words refl i)
retargeted_lasts h (Leave j c) n vs ws k = ap (Leave j) (retargeted_lasts None c tt no_words no_words refl)
retargeted_lasts h (Again j c) n vs ws k = ap (Again j) (retargeted_lasts None c tt no_words no_words refl)
retargeted_lasts h (Return p c) n vs ws k = ap (Return (some_place p)) (retargeted_lasts None c tt no_words no_words refl)

pub retargeted_divisions : (c : NodesT ℕ) → lasting no_words (retargeted None c) ≡ lasting no_words c
retargeted_divisions c = retargeted_lasts None c tt no_words no_words refl
