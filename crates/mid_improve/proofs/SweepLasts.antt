-- Of code that the sweep leaves the same lasts: what is known of temporaries that are live is known still, and what is taken out is no division.
use Rattle.std.proofs.Common.{◌≡◌, ℕ, Bool, true, false, not, ◌&&◌, ◌||◌, cond, eqb, map, Option, Some, None, refl, sym, ap, ◌∙◌}
use Rattle.std.proofs.lemmas.Bool.{true≢false, false≢true, eqb-true}
use Rattle.mid_code.specs.Code.{OpT, ConstO, NullO, MoveO, OneO, TwoO, GlobalO, LocalO, LiteralO, CardO, NodesT, Stop, Do, Call, Choose, Block, Loop, Leave, Again, Return, target, maybe, uses}
use Rattle.mid_code.specs.Invariants.{AllOf}
use Rattle.mid_code.specs.Live.{live_before, is_among, is_used, is_target}
use Rattle.mid_code.specs.Skeleton.{some_before, some_place}
use Rattle.mid_code.proofs.Liveness.{before_used, before_through}
use Rattle.mid_fold.specs.Lasting.{KnownWords, no_words, word_made, with_word, words_behind, divides, is_nonzero, lasts, lasting}
use Rattle.mid_fold.proofs.Lasts.{made_alike, lasts_alike}
use Rattle.mid_improve.specs.Settled.{only_puts}
use Rattle.mid_improve.specs.inner.Wanted.{Labels, Set, live_set, in_block, in_loop, maybe_wanted}
use Rattle.mid_improve.specs.inner.Sweep.{left, swept, no_labels, none_live}
use Rattle.mid_live.proofs.Turned.{left_of, right_of}
use Rattle.mid_improve.proofs.SweepLive.{unwanted}
use Rattle.mid_improve.proofs.SweepLike.{all_among}

-- ---- what is known of what is live

abbrev Alike : Set → KnownWords → KnownWords → Type 0
Alike s ws vs = (y : ℕ) → s y ≡ true → vs y ≡ ws y

-- behind a target, where both take the same word
target_alike : (ws vs : KnownWords) (t m k : Option ℕ) (y : ℕ) → m ≡ k → (is_among (maybe t) y ≡ false → vs y ≡ ws y) → with_word t m vs y ≡ with_word t k ws y
target_alike ws vs None m k y e h = h refl
target_alike ws vs (Some t) m k y e h = go (eqb t y) refl
  where
    go : (b : Bool) → eqb t y ≡ b → cond b m (vs y) ≡ cond b k (ws y)
    go true f = e
    go false f = h (ap (λ b. b || false) f)

-- behind a node of which this is live before it
behind_alike : (s u : Set) (ws vs : KnownWords) (t m k : Option ℕ) → m ≡ k → Alike (λ y. live_before (u y) (is_among (maybe t) y) (s y)) ws vs → Alike s (with_word t k ws) (with_word t m vs)
behind_alike s u ws vs t m k e a y l = target_alike ws vs t m k y e (λ f. a y (before_through (u y) (is_among (maybe t) y) (s y) f l))

-- behind a target that is not live
dead_alike : (s : Set) (ws vs : KnownWords) (t m : Option ℕ) → ((q : ℕ) → t ≡ Some q → s q ≡ false) → Alike s ws vs → Alike s (with_word t m ws) vs
dead_alike s ws vs None m d a y l = a y l
dead_alike s ws vs (Some t) m d a y l = go (eqb t y) refl
  where
    go : (b : Bool) → eqb t y ≡ b → vs y ≡ cond b m (ws y)
    go true f = absurd (true≢false (sym l ∙ ap s (sym (eqb-true t y f)) ∙ d t refl))
    go false f = a y l

-- ---- operations

is_off : (b : Bool) → not b ≡ true → b ≡ false
is_off true e = absurd (false≢true e)
is_off false e = refl

puts_leaves : (ws : KnownWords) (o : OpT ℕ) → only_puts o ≡ true → lasts ws o ≡ None
puts_leaves ws (ConstO t word) e = refl
puts_leaves ws (NullO t) e = refl
puts_leaves ws (MoveO t a) e = refl
puts_leaves ws (OneO o t a) e = refl
puts_leaves ws (TwoO o t a b) e = ap (λ d. cond (d && not (is_nonzero (ws b))) (Some (TwoO o tt tt tt)) None) (is_off (divides o) e)
puts_leaves ws (GlobalO t number) e = refl
puts_leaves ws (LocalO t number) e = refl
puts_leaves ws (LiteralO t number) e = refl
puts_leaves ws (CardO t) e = refl
puts_leaves ws _ e = absurd (false≢true e)

uses_alike : (s t : Set) (ws vs : KnownWords) (o : OpT ℕ) → Alike (λ y. live_before (is_among (uses o) y) (t y) (s y)) ws vs → AllOf (λ q. vs q ≡ ws q) (uses o)
uses_alike s t ws vs o a = all_among (uses o) (λ q. vs q ≡ ws q) (λ q e. a q (before_used (is_among (uses o) q) (t q) (s q) e))

-- ---- nodes

module _ (n : ℕ) where
  -- what holds of nodes
  abbrev SameRest : Labels → NodesT ℕ → Set → Type 0
  SameRest ls c s = (vs ws : KnownWords) → Alike (left n ls c s) ws vs → lasting vs (swept n ls c s) ≡ lasting ws c

  module _ (ls : Labels) (o : OpT ℕ) (c : NodesT ℕ) (s : Set) (vs ws : KnownWords) (r : SameRest ls c s) where
    abbrev k : Set
    k = left n ls c s

    abbrev before : Set
    before y = live_before (is_used (Do o c) y) (is_target (Do o c) y) (k y)

    stays_alike : Alike before ws vs → lasting vs (Do o (swept n ls c s)) ≡ lasting ws (Do o c)
    stays_alike a =
        let u = uses_alike k (is_target (Do o c)) ws vs o a in
        let e = lasts_alike ws vs o u in
        let h = r (words_behind vs o) (words_behind ws o) (behind_alike k (is_used (Do o c)) ws vs (target o) (word_made vs o) (word_made ws o) (made_alike ws vs o u) a) in
        λ i. some_before (e i) (h i)

    goes_alike : only_puts o ≡ true → ((q : ℕ) → target o ≡ Some q → k q ≡ false) → Alike k ws vs → lasting vs (swept n ls c s) ≡ lasting ws (Do o c)
    goes_alike p d a =
        r vs (words_behind ws o) (dead_alike k ws vs (target o) (word_made ws o) d a) ∙ sym (ap (λ q. some_before q (lasting (words_behind ws o) c)) (puts_leaves ws o p))

    op_alike : (b : Bool) → maybe_wanted n (only_puts o) (target o) k ≡ b → Alike (λ y. cond b (before y) (k y)) ws vs → lasting vs (cond b (Do o (swept n ls c s)) (swept n ls c s)) ≡ lasting ws (Do o c)
    op_alike true w a = stays_alike a
    op_alike false w a = let u = unwanted n (only_puts o) (target o) k w in goes_alike u.0 u.1 a

  swept_lasts : (ls : Labels) (c : NodesT ℕ) (s : Set) → SameRest ls c s
  swept_lasts ls Stop s vs ws a = refl
  swept_lasts ls (Do o c) s vs ws a = op_alike ls o c s vs ws (swept_lasts ls c s) (maybe_wanted n (only_puts o) (target o) (left n ls c s)) refl a
  swept_lasts ls (Call t f args c) s vs ws a =
      ap (Call (some_place t) f (map (λ y. tt) args)) (swept_lasts ls c s (with_word t None vs) (with_word t None ws) (behind_alike (left n ls c s) (is_used (Call t f args c)) ws vs t None None refl a))
  swept_lasts ls (Choose p d e c) s vs ws a =
      let k = left n ls c s in
      let u = is_used (Choose p d e c) in
      let first = swept_lasts ls d k vs ws (λ y l. a y (before_through (u y) false (left n ls d k y || left n ls e k y) refl (left_of (left n ls d k y) (left n ls e k y) l))) in
      let second = swept_lasts ls e k vs ws (λ y l. a y (before_through (u y) false (left n ls d k y || left n ls e k y) refl (right_of (left n ls d k y) (left n ls e k y) l))) in
      λ i. Choose tt (first i) (second i) (swept_lasts ls c s no_words no_words (λ y l. refl) i)
  swept_lasts ls (Block b c) s vs ws a = let k = left n ls c s in λ i. Block (swept_lasts (in_block k ls) b k vs ws a i) (swept_lasts ls c s no_words no_words (λ y l. refl) i)
  swept_lasts ls (Loop b c) s vs ws a =
      let k = left n ls c s in
      λ i. Loop (swept_lasts (in_loop (live_set (in_block k ls) b k) k ls) b k no_words no_words (λ y l. refl) i) (swept_lasts ls c s no_words no_words (λ y l. refl) i)
  swept_lasts ls (Leave j c) s vs ws a = ap (Leave j) (swept_lasts ls c s no_words no_words (λ y l. refl))
  swept_lasts ls (Again j c) s vs ws a = ap (Again j) (swept_lasts ls c s no_words no_words (λ y l. refl))
  swept_lasts ls (Return p c) s vs ws a = ap (Return (some_place p)) (swept_lasts ls c s no_words no_words (λ y l. refl))

-- The same holds with any labels, and whatever is live behind.
pub all_swept_divisions : (n : ℕ) (ls : Labels) (c : NodesT ℕ) (s : Set) → lasting no_words (swept n ls c s) ≡ lasting no_words c
all_swept_divisions n ls c s = swept_lasts n ls c s no_words no_words (λ y l. refl)

pub swept_divisions : (n : ℕ) (c : NodesT ℕ) → lasting no_words (swept n no_labels c none_live) ≡ lasting no_words c
swept_divisions n c = all_swept_divisions n no_labels c none_live
