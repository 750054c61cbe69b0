-- Where more is live behind code, more is live before it; and a second turn of a loop tells nothing more of its head.
use Rattle.std.proofs.Common.{◌≡◌, ℕ, zero, suc, Bool, true, false, ◌||◌, List, ◌∷◌, refl, ap, sym, ◌∙◌}
use Rattle.std.proofs.lemmas.Bool.{false≢true}
use Rattle.mid_code.specs.Code.{NodesT, Stop, Do, Call, Choose, Block, Loop, Leave, Again, Return}
use Rattle.mid_code.specs.Live.{Label, label, ends_of, begins_of, live_before, is_used, is_target, is_live}

pub left_of : (a b : Bool) → a ≡ true → (a || b) ≡ true
left_of true b e = refl
left_of false b e = absurd (false≢true e)

pub right_of : (a b : Bool) → b ≡ true → (a || b) ≡ true
right_of true b e = refl
right_of false b e = e

pub or_more : (a b c d : Bool) → (a ≡ true → c ≡ true) → (b ≡ true → d ≡ true) → (a || b) ≡ true → (c || d) ≡ true
or_more true b c d f g e = left_of c d (f refl)
or_more false b c d f g e = right_of c d (g e)

pub before_more : (u t i j : Bool) → (i ≡ true → j ≡ true) → live_before u t i ≡ true → live_before u t j ≡ true
before_more true t i j f e = refl
before_more false true i j f e = e
before_more false false i j f e = f e

-- ---- where more is live behind code, more is before it

pub record Grows (ls ms : List Label) : Type 0 where
  pub ends : (k : ℕ) → ends_of ls k ≡ true → ends_of ms k ≡ true
  pub begins : (k : ℕ) → begins_of ls k ≡ true → begins_of ms k ≡ true

pub grows_same : (ls : List Label) → Grows ls ls
grows_same ls = record { ends = λ k e. e; begins = λ k e. e }

pub grows_in : (ls ms : List Label) (b c i j : Bool) → Grows ls ms → (b ≡ true → c ≡ true) → (i ≡ true → j ≡ true) → Grows (label b i ∷ ls) (label c j ∷ ms)
grows_in ls ms b c i j g f h = record { ends = ends; begins = begins }
  where
    ends : (k : ℕ) → ends_of (label b i ∷ ls) k ≡ true → ends_of (label c j ∷ ms) k ≡ true
    ends zero e = h e
    ends (suc k) e = g.ends k e

    begins : (k : ℕ) → begins_of (label b i ∷ ls) k ≡ true → begins_of (label c j ∷ ms) k ≡ true
    begins zero e = f e
    begins (suc k) e = g.begins k e

pub live_more : (x : ℕ) (ls ms : List Label) (c : NodesT ℕ) (i j : Bool) → Grows ls ms → (i ≡ true → j ≡ true) → is_live x ls c i ≡ true → is_live x ms c j ≡ true
live_more x ls ms Stop i j g f e = f e
live_more x ls ms (Do o c) i j g f e = before_more (is_used (Do o c) x) (is_target (Do o c) x) (is_live x ls c i) (is_live x ms c j) (live_more x ls ms c i j g f) e
live_more x ls ms (Call t h args c) i j g f e = before_more (is_used (Call t h args c) x) (is_target (Call t h args c) x) (is_live x ls c i) (is_live x ms c j) (live_more x ls ms c i j g f) e
live_more x ls ms (Choose p a b c) i j g f e =
    let k = is_live x ls c i in
    let l = is_live x ms c j in
    let m = live_more x ls ms c i j g f in
    before_more (is_used (Choose p a b c) x) false (is_live x ls a k || is_live x ls b k) (is_live x ms a l || is_live x ms b l) (or_more (is_live x ls a k) (is_live x ls b k) (is_live x ms a l) (is_live x ms b l) (live_more x ls ms a k l g m) (live_more x ls ms b k l g m)) e
live_more x ls ms (Block b c) i j g f e =
    let k = is_live x ls c i in
    let l = is_live x ms c j in
    let m = live_more x ls ms c i j g f in
    live_more x (label false k ∷ ls) (label false l ∷ ms) b k l (grows_in ls ms false false k l g (λ h. h) m) m e
live_more x ls ms (Loop b c) i j g f e =
    let k = is_live x ls c i in
    let l = is_live x ms c j in
    let m = live_more x ls ms c i j g f in
    live_more x (label false k ∷ ls) (label false l ∷ ms) b k l (grows_in ls ms false false k l g (λ h. h) m) m e
live_more x ls ms (Leave k c) i j g f e = g.ends k e
live_more x ls ms (Again k c) i j g f e = g.begins k e
live_more x ls ms (Return p c) i j g f e = e

-- the head of a loop, as it is found in one turn: a second turn finds the same
pub turn_same : (x : ℕ) (ls : List Label) (b : NodesT ℕ) (k : Bool) → is_live x (label (is_live x (label false k ∷ ls) b k) k ∷ ls) b k ≡ is_live x (label false k ∷ ls) b k
turn_same x ls b k = go (is_live x (label false k ∷ ls) b k) refl
  where
    go : (h : Bool) → is_live x (label false k ∷ ls) b k ≡ h → is_live x (label h k ∷ ls) b k ≡ h
    go true e = live_more x (label false k ∷ ls) (label true k ∷ ls) b k k (grows_in ls ls false true k k (grows_same ls) (λ h. refl) (λ h. h)) (λ h. h) e
    go false e = e

-- so a walk through the body that knows what is live at the head comes to it again
pub head_again : (x : ℕ) (ls ms : List Label) (b : NodesT ℕ) (k h v : Bool) → h ≡ is_live x (label false k ∷ ls) b k → ms ≡ label h k ∷ ls → v ≡ is_live x ms b k → v ≡ h
head_again x ls ms b k h v head labels turn = turn ∙ ap (λ z. is_live x z b k) (labels ∙ ap (λ z. label z k ∷ ls) head) ∙ turn_same x ls b k ∙ sym head
