-- With more at the labels and behind, no less is live before.
use Rattle.std.proofs.Common.{◌≡◌, ℕ, zero, suc, ◌<◌, List, [], ◌∷◌, Bool, true, false, ◌||◌, ◌&&◌, refl, sym, ◌∙◌, arith}
use Rattle.mid_code.specs.Code.{NodesT, Stop, Do, Call, Choose, Block, Loop, Leave, Again, Return}
use Rattle.mid_code.specs.Live.{Label, label, is_live, is_used, is_target, live_before, ends_of, begins_of}
use Rattle.mid_live.specs.inner.Loops.{Inside}

abbrev Up : Bool → Bool → Type 0
Up a b = a ≡ true → b ≡ true

-- the first n labels of the one say no more than those of the other
abbrev Below : ℕ → List Label → List Label → Type 0
Below zero ls ms = Unit {0}
Below (suc n) [] ms = ⊥
Below (suc n) (l ∷ ls) [] = ⊥
Below (suc n) (l ∷ ls) (m ∷ ms) = Up l.begins m.begins × Up l.ends m.ends × Below n ls ms

before_up : (u t a b : Bool) → Up a b → Up (live_before u t a) (live_before u t b)
before_up true t a b h e = refl
before_up false true a b h e = e
before_up false false a b h e = h e

or_up : (a b c d : Bool) → Up a c → Up b d → Up (a || b) (c || d)
or_up a b true d f g e = refl
or_up true b false d f g e = absurd (cc (f refl))
or_up false b false d f g e = g e

ends_up : (n : ℕ) (ls ms : List Label) (k : ℕ) → k < n → Below n ls ms → Up (ends_of ls k) (ends_of ms k)
ends_up zero ls ms k h below = absurd (omega (arith, h))
ends_up (suc n) [] ms k h below = absurd below
ends_up (suc n) (l ∷ ls) [] k h below = absurd below
ends_up (suc n) (l ∷ ls) (m ∷ ms) zero h below = below.1
ends_up (suc n) (l ∷ ls) (m ∷ ms) (suc k) h below = ends_up n ls ms k (omega (arith, h)) below.2

begins_up : (n : ℕ) (ls ms : List Label) (k : ℕ) → k < n → Below n ls ms → Up (begins_of ls k) (begins_of ms k)
begins_up zero ls ms k h below = absurd (omega (arith, h))
begins_up (suc n) [] ms k h below = absurd below
begins_up (suc n) (l ∷ ls) [] k h below = absurd below
begins_up (suc n) (l ∷ ls) (m ∷ ms) zero h below = below.0
begins_up (suc n) (l ∷ ls) (m ∷ ms) (suc k) h below = begins_up n ls ms k (omega (arith, h)) below.2

never : (a : Bool) → Up false a
never a e = absurd cc

raised : (x n : ℕ) (ls ms : List Label) (c : NodesT ℕ) (j k : Bool) → Inside n c → Below n ls ms → Up j k → Up (is_live x ls c j) (is_live x ms c k)
raised x n ls ms Stop j k i below h = h
raised x n ls ms (Do o c) j k i below h = before_up (is_used (Do o c) x) (is_target (Do o c) x) _ _ (raised x n ls ms c j k i below h)
raised x n ls ms (Call t f args c) j k i below h = before_up (is_used (Call t f args c) x) (is_target (Call t f args c) x) _ _ (raised x n ls ms c j k i below h)
raised x n ls ms (Choose p a b c) j k i below h =
    let behind = raised x n ls ms c j k i.2 below h in
    before_up (is_used (Choose p a b c) x) false _ _ (or_up _ _ _ _ (raised x n ls ms a _ _ i.0 below behind) (raised x n ls ms b _ _ i.1 below behind))
raised x n ls ms (Block b c) j k i below h =
    let behind = raised x n ls ms c j k i.1 below h in
    raised x (suc n) (label false (is_live x ls c j) ∷ ls) (label false (is_live x ms c k) ∷ ms) b _ _ i.0 (never false, behind, below) behind
raised x n ls ms (Loop b c) j k i below h =
    let behind = raised x n ls ms c j k i.1 below h in
    raised x (suc n) (label false (is_live x ls c j) ∷ ls) (label false (is_live x ms c k) ∷ ms) b _ _ i.0 (never false, behind, below) behind
raised x n ls ms (Leave m c) j k i below h = ends_up n ls ms m i.0 below
raised x n ls ms (Again m c) j k i below h = begins_up n ls ms m i.0 below
raised x n ls ms (Return p c) j k i below h = λ e. e

same : (a b : Bool) → Up a b → Up b a → a ≡ b
same true b f g = sym (f refl)
same false true f g = g refl
same false false f g = refl

or_false : (a : Bool) → (a || false) ≡ a
or_false true = refl
or_false false = refl

right : (a b : Bool) → Up b (a || b)
right true b e = refl
right false b e = e

both : (a b : Bool) → Up a b → Up (a || b) b
both true b h e = h refl
both false b h e = e

-- What is live at the head of a loop that leaves nothing around it: what is live there with nothing behind, and what is live behind it and passes. Both are found with nothing around.
pub heads : (b : NodesT ℕ) → Inside 1 b → (x : ℕ) (ls : List Label) (j : Bool) → is_live x ls (Loop b Stop) j ≡ (is_live x [] (Loop b Stop) false || (j && is_live x [] (Loop b Stop) true))
heads b i x ls true =
    let up : (ls ms : List Label) (j k : Bool) → Up j k → Up (is_live x ls (Loop b Stop) j) (is_live x ms (Loop b Stop) k) = λ ls ms j k h. raised x 0 ls ms (Loop b Stop) j k (i, tt) tt h in
    same _ _ (λ e. right _ _ (up ls [] true true (λ h. h) e)) (λ e. up [] ls true true (λ h. h) (both _ _ (up [] [] false true (never true)) e))
heads b i x ls false =
    let up : (ls ms : List Label) (j k : Bool) → Up j k → Up (is_live x ls (Loop b Stop) j) (is_live x ms (Loop b Stop) k) = λ ls ms j k h. raised x 0 ls ms (Loop b Stop) j k (i, tt) tt h in
    same _ _ (up ls [] false false (λ h. h)) (up [] ls false false (λ h. h)) ∙ sym (or_false _)
