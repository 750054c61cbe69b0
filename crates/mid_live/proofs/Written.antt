-- Words that are held, and their bits.
use Rattle.std.proofs.Common.{◌≡◌, ◌≢◌, ℕ, zero, suc, ◌+◌, ◌*◌, ◌/◌, ◌%◌, ◌^◌, ◌<◌, ◌≤◌, ◌⊎◌, inl, inr, Bool, true, false, ◌||◌, ◌&&◌, not, eqb, ltb, cond, List, [], ◌∷◌, ◌++◌, length, get_or, set, replicate, Option, Some, None, IfSome, bit_and, bit_or, refl, ap, sym, subst, ◌∙◌, arith, w64}
use Rattle.std.specs.Int.{bit_not}
use Rattle.std.proofs.lemmas.Bool.{eq-eqb, ne_eqb, eqb-true, ltb-true, ltb-false, false≢true}
use Rattle.std.proofs.lemmas.List.{ext_get_or, get_or_past, length-set}
use Rattle.mid_live.specs.declared.words.Held.{Held}
use Rattle.mid_code.specs.Live.{is_among}
use Rattle.mid_live.specs.Sets.{on, room}
use Rattle.mid_live.specs.inner.Words.{bit, some, held_in, IsHeld, FreshIn, spread}
use Rattle.mid_live.proofs.Bits.{eq_or, lt_or, small, within, zeros, get_set, no_bit, bit_on, or_bit, less_bit, none_left}

-- ---- held words

there : (ws : List ℕ) (i : ℕ) → get_or ws i 0 ≢ 0 → i < length ws
there ws i n = elim (lt_or i (length ws)) [ inl l ↦ l | inr g ↦ absurd (n (get_or_past ws i 0 g)) ]

or_right : (a b : Bool) → b ≡ true → (a || b) ≡ true
or_right true b e = refl
or_right false b e = e

or_left : (a b : Bool) → a ≡ true → (a || b) ≡ true
or_left true b e = refl
or_left false b e = absurd (false≢true e)

-- a word changed and a bit of it held
pub put_held : (ws new hs ks : List ℕ) (k : ℕ) → IsHeld ws hs → length new ≡ length ws → length ks ≡ length hs → ((j : ℕ) → j < length ws → j ≢ k → get_or new j 0 ≡ get_or ws j 0) → ((y : ℕ) → y < room hs → on ks y ≡ (eqb k y || on hs y)) → IsHeld new ks
put_held ws new hs ks k g l m others is = record {
  few = (let a = g.few in omega (arith, a, l));
  wide = (let a = g.wide in omega (arith, a, l, m));
  held = λ i n. (
      let inside : i < length ws = (let a = there new i n in omega (arith, a, l)) in
      let a = g.wide in
      let known = is i (omega (arith, inside, a)) in
      elim (eq_or i k) [
        | inl e ↦ known ∙ or_left (eqb k i) (on hs i) (eq-eqb k i (sym e))
        | inr d ↦ known ∙ or_right (eqb k i) (on hs i) (g.held i (λ z. n (others i inside d ∙ z)))
      ]);
}

-- a word changed that was not 0, so that its bit is held already
pub kept_held : (ws new hs : List ℕ) (k : ℕ) → IsHeld ws hs → length new ≡ length ws → get_or ws k 0 ≢ 0 → ((j : ℕ) → j < length ws → j ≢ k → get_or new j 0 ≡ get_or ws j 0) → IsHeld new hs
kept_held ws new hs k g l n others = put_held ws new hs hs k g l refl others (λ y h. already y (eqb k y) refl)
  where
    already : (y : ℕ) (b : Bool) → eqb k y ≡ b → on hs y ≡ (b || on hs y)
    already y true e = ap (on hs) (sym (eqb-true k y e)) ∙ g.held k n
    already y false e = refl

-- a word that became less, but not 0
pub less_held : (ws new hs : List ℕ) (k : ℕ) → IsHeld ws hs → length new ≡ length ws → get_or new k 0 ≤ get_or ws k 0 → get_or new k 0 ≢ 0 → ((j : ℕ) → j ≢ k → get_or new j 0 ≡ get_or ws j 0) → IsHeld new hs
less_held ws new hs k g l less n others = kept_held ws new hs k g l (λ z. n (omega (arith, less, z))) (λ j h. others j)

-- a word that became 0, and its bit not held
pub strike_held : (ws new hs ks : List ℕ) (k : ℕ) → IsHeld ws hs → length new ≡ length ws → length ks ≡ length hs → get_or new k 0 ≡ 0 → ((j : ℕ) → j ≢ k → get_or new j 0 ≡ get_or ws j 0) → ((y : ℕ) → y < room hs → on ks y ≡ cond (eqb k y) false (on hs y)) → IsHeld new ks
strike_held ws new hs ks k g l m none others is = record {
  few = (let a = g.few in omega (arith, a, l));
  wide = (let a = g.wide in omega (arith, a, l, m));
  held = λ i n. (
      let inside : i < length ws = (let a = there new i n in omega (arith, a, l)) in
      let a = g.wide in
      elim (eq_or i k) [
        | inl e ↦ absurd (n (ap (λ z. get_or new z 0) e ∙ none))
        | inr d ↦ is i (omega (arith, inside, a)) ∙ ap (λ b. cond b false (on hs i)) (ne_eqb k i (λ e. d (sym e))) ∙ g.held i (λ z. n (others i d ∙ z))
      ]);
}

pub zero_held : (ws new hs ks : List ℕ) → IsHeld ws hs → length new ≡ length ws → length ks ≡ length hs → ((j : ℕ) → get_or new j 0 ≡ 0) → IsHeld new ks
zero_held ws new hs ks g l m none = record {
  few = (let a = g.few in omega (arith, a, l));
  wide = (let a = g.wide in omega (arith, a, l, m));
  held = λ i n. absurd (n (none i));
}

pub zero_on : (ws : List ℕ) (y : ℕ) → get_or ws (y / 64) 0 ≡ 0 → on ws y ≡ false
zero_on ws y e = sym (bit_on ws (y / 64) y refl) ∙ ap (λ z. bit z (y % 64)) e ∙ no_bit (y % 64)

zero_by : (ws hs : List ℕ) (j : ℕ) → IsHeld ws hs → on hs j ≡ false → get_or ws j 0 ≡ 0
zero_by ws hs j g e = elim (eq_or (get_or ws j 0) 0) [ inl z ↦ z | inr n ↦ absurd (false≢true (sym e ∙ g.held j n)) ]

-- No bit of words is on from one of a word that has none behind it to the next word that is held.
pub none_between : (ws hs : List ℕ) (i n j : ℕ) → IsHeld ws hs → get_or ws (i / 64) 0 / 2 ^ (i % 64) ≡ 0 → ((k : ℕ) → i / 64 + 1 ≤ k → k < n → on hs k ≡ false) → i ≤ j → j < 64 * n → on ws j ≡ false
none_between ws hs i n j g z none from below = elim (lt_or j (64 * (i / 64 + 1))) [
  | inl l ↦ none_left ws i j z from l
  | inr m ↦ zero_on ws j (zero_by ws hs (j / 64) g (none (j / 64) (omega (arith, m)) (within n j below)))
]

-- ---- words written down

spread_long : (ws : List ℕ) (es : List Held) → length (spread ws es) ≡ length ws
spread_long ws [] = refl
spread_long ws (e ∷ es) = spread_long (set ws e.at e.word) es ∙ length-set ws e.at e.word

spread_more : (ws : List ℕ) (es : List Held) (e : Held) → spread ws (es ++ e ∷ []) ≡ set (spread ws es) e.at e.word
spread_more ws [] e = refl
spread_more ws (d ∷ es) e = spread_more (set ws d.at d.word) es e

fresh_more : (ws : List ℕ) (es : List Held) (e : Held) → FreshIn ws es → e.at < length ws → get_or (spread ws es) e.at 0 ≡ 0 → FreshIn ws (es ++ e ∷ [])
fresh_more ws [] e f l z = (l, z, tt)
fresh_more ws (d ∷ es) e f l z = (f.0, f.1, fresh_more (set ws d.at d.word) es e f.2 (let a = length-set ws d.at d.word in omega (arith, l, a)) z)

-- what is written down of the first words
pub record Copied (ws : List ℕ) (n : ℕ) (es : List Held) : Type 0 where
  pub fresh : FreshIn (replicate (length ws) 0) es
  pub done : (j : ℕ) → j < n → get_or (spread (replicate (length ws) 0) es) j 0 ≡ get_or ws j 0
  pub left : (j : ℕ) → n ≤ j → get_or (spread (replicate (length ws) 0) es) j 0 ≡ 0

long : (n : ℕ) → length {A = ℕ} (replicate n 0) ≡ n
long zero = refl
long (suc n) = ap suc (long n)

pub copied_none : (ws hs : List ℕ) (i : ℕ) → IsHeld ws hs → ((j : ℕ) → 0 ≤ j → j < i → on hs j ≡ false) → Copied ws i []
copied_none ws hs i g none = record {
  fresh = tt;
  done = λ j h. zeros (length ws) j ∙ sym (zero_by ws hs j g (none j (omega arith) h));
  left = λ j h. zeros (length ws) j;
}

pub copied_same : (ws hs : List ℕ) (i n : ℕ) (es : List Held) → IsHeld ws hs → get_or ws i 0 ≡ 0 → i + 1 ≤ n → ((j : ℕ) → i + 1 ≤ j → j < n → on hs j ≡ false) → Copied ws i es → Copied ws n es
copied_same ws hs i n es g z up none c = record {
  fresh = c.fresh;
  done = λ j h. elim (lt_or j i) [
    | inl l ↦ c.done j l
    | inr k ↦ c.left j k ∙ sym (elim (eq_or j i) [ inl e ↦ ap (λ z. get_or ws z 0) e ∙ z | inr d ↦ zero_by ws hs j g (none j (omega (arith, k, d)) h) ])
  ];
  left = λ j h. c.left j (omega (arith, h, up));
}

pub copied_more : (ws hs : List ℕ) (i n : ℕ) (es : List Held) (e : Held) → IsHeld ws hs → i < length ws → e.at ≡ i → e.word ≡ get_or ws i 0 → i + 1 ≤ n → ((j : ℕ) → i + 1 ≤ j → j < n → on hs j ≡ false) → Copied ws i es → Copied ws n (es ++ e ∷ [])
copied_more ws hs i n es e g inside at is up none c =
    let base = replicate {A = ℕ} (length ws) 0 in
    let old = spread base es in
    let size : e.at < length old = (let a = spread_long base es in let b = long (length ws) in omega (arith, at, inside, a, b)) in
    let now : (j : ℕ) → get_or (spread base (es ++ e ∷ [])) j 0 ≡ cond (eqb j i) (get_or ws i 0) (get_or old j 0) = λ j. ap (λ z. get_or z j 0) (spread_more base es e) ∙ get_set old e.at j e.word size ∙ ap (λ z. cond (eqb j z) e.word (get_or old j 0)) at ∙ ap (λ z. cond (eqb j i) z (get_or old j 0)) is in
    record {
      fresh = fresh_more base es e c.fresh (let b = long (length ws) in omega (arith, at, inside, b)) (ap (λ z. get_or old z 0) at ∙ c.left i (omega arith));
      done = λ j h. now j ∙ elim (eq_or j i) [
        | inl q ↦ ap (λ b. cond b (get_or ws i 0) (get_or old j 0)) (eq-eqb j i q) ∙ ap (λ z. get_or ws z 0) (sym q)
        | inr d ↦ ap (λ b. cond b (get_or ws i 0) (get_or old j 0)) (ne_eqb j i d) ∙ elim (lt_or j i) [ inl l ↦ c.done j l | inr k ↦ c.left j k ∙ sym (zero_by ws hs j g (none j (omega (arith, k, d)) h)) ]
      ];
      left = λ j h. now j ∙ ap (λ b. cond b (get_or ws i 0) (get_or old j 0)) (ne_eqb j i (λ q. (omega (arith, q, h, up)))) ∙ c.left j (omega (arith, h, up));
    }

pub copied_all : (ws : List ℕ) (n : ℕ) (es : List Held) → length ws ≤ n → Copied ws n es → spread (replicate (length ws) 0) es ≡ ws
copied_all ws n es h c =
    let size : length (spread (replicate (length ws) 0) es) ≡ length ws = spread_long (replicate (length ws) 0) es ∙ long (length ws) in
    ext_get_or 0 (spread (replicate (length ws) 0) es) ws size (λ i l. c.done i (omega (arith, l, size, h)))

-- nothing is written down, and so no word before is other than 0
pub copied_before : (ws : List ℕ) (n : ℕ) → Copied ws n [] → (j : ℕ) → j < n → get_or ws j 0 ≡ 0
copied_before ws n c j h = sym (c.done j h) ∙ zeros (length ws) j

pub copied_nothing : (ws : List ℕ) (n : ℕ) → length ws ≤ n → ((j : ℕ) → j < n → get_or ws j 0 ≡ 0) → replicate (length ws) 0 ≡ ws
copied_nothing ws n h none = ext_get_or 0 (replicate (length ws) 0) ws (long (length ws)) (λ i l. zeros (length ws) i ∙ sym (none i (let a = long (length ws) in omega (arith, l, h, a))))

pub copied_first : (ws hs : List ℕ) (e : Held) → IsHeld ws hs → e.at < length ws → e.word ≡ get_or ws e.at 0 → ((j : ℕ) → j < e.at → get_or ws j 0 ≡ 0) → Copied ws (e.at + 1) (e ∷ [])
copied_first ws hs e g inside is none =
    copied_more ws hs e.at (e.at + 1) [] e g inside refl is (omega arith) (λ j h l. absurd (omega (arith, h, l))) (record { fresh = tt; done = λ j h. zeros (length ws) j ∙ sym (none j h); left = λ j h. zeros (length ws) j })

-- ---- words made 0

pub record Zeroed (old ws hs : List ℕ) (n : ℕ) : Type 0 where
  pub size : length ws ≡ length old
  pub done : (j : ℕ) → j < n → get_or ws j 0 ≡ 0
  pub left : (j : ℕ) → on hs j ≡ false → get_or ws j 0 ≡ 0

pub zeroed_none : (ws hs : List ℕ) (i : ℕ) → IsHeld ws hs → ((j : ℕ) → 0 ≤ j → j < i → on hs j ≡ false) → Zeroed ws ws hs i
zeroed_none ws hs i g none = record { size = refl; done = λ j h. zero_by ws hs j g (none j (omega arith) h); left = λ j e. zero_by ws hs j g e }

pub zeroed_more : (old ws hs : List ℕ) (i n : ℕ) → i < length ws → i + 1 ≤ n → ((j : ℕ) → i + 1 ≤ j → j < n → on hs j ≡ false) → Zeroed old ws hs i → Zeroed old (set ws i 0) hs n
zeroed_more old ws hs i n inside up none c =
    let other : (j : ℕ) → (get_or ws j 0 ≡ 0) ⊎ (j ≡ i) → get_or (set ws i 0) j 0 ≡ 0 = λ j h. get_set ws i j 0 inside ∙ elim (eq_or j i) [
      | inl q ↦ ap (λ b. cond b 0 (get_or ws j 0)) (eq-eqb j i q)
      | inr d ↦ ap (λ b. cond b 0 (get_or ws j 0)) (ne_eqb j i d) ∙ elim h [ inl z ↦ z | inr q ↦ absurd (d q) ]
    ] in
    record {
      size = length-set ws i 0 ∙ c.size;
      done = λ j h. elim (lt_or j i) [ inl l ↦ other j (inl (c.done j l)) | inr k ↦ elim (eq_or j i) [ inl q ↦ other j (inr q) | inr d ↦ other j (inl (c.left j (none j (omega (arith, k, d)) h))) ] ];
      left = λ j e. other j (inl (c.left j e));
    }

pub zeroed_all : (old ws hs : List ℕ) (n j : ℕ) → length ws ≤ n → Zeroed old ws hs n → get_or ws j 0 ≡ 0
zeroed_all old ws hs n j h c = elim (lt_or j n) [ inl l ↦ c.done j l | inr k ↦ get_or_past ws j 0 (omega (arith, h, k)) ]

pub zero_list : (ws : List ℕ) (n : ℕ) → length ws ≡ n → ((j : ℕ) → get_or ws j 0 ≡ 0) → ws ≡ replicate n 0
zero_list ws n l none = ext_get_or 0 ws (replicate n 0) (l ∙ sym (long n)) (λ i h. none i ∙ sym (zeros n i))

pub set_past : (ws : List ℕ) (i w : ℕ) → length ws ≤ i → ws ≡ set ws i w
set_past [] i w h = refl
set_past (x ∷ ws) zero w h = absurd (omega (arith, h))
set_past (x ∷ ws) (suc i) w h = ap (λ z. x ∷ z) (set_past ws i w (omega (arith, h)))

-- ---- words put in

pub written_in : (ws new : List ℕ) (i w j : ℕ) → i < length ws → new ≡ set ws i w → get_or new j 0 ≡ cond (eqb j i) w (get_or ws j 0)
written_in ws new i w j h e = ap (λ z. get_or z j 0) e ∙ get_set ws i j w h

pub written_past : (ws : List ℕ) (i w j : ℕ) → length ws ≤ i → j < length ws → get_or ws j 0 ≡ cond (eqb j i) w (get_or ws j 0)
written_past ws i w j h l = sym (ap (λ b. cond b w (get_or ws j 0)) (ne_eqb j i (λ e. (omega (arith, e, h, l)))))

pub written_other : (ws new : List ℕ) (i w j : ℕ) → get_or new j 0 ≡ cond (eqb j i) w (get_or ws j 0) → j ≢ i → get_or new j 0 ≡ get_or ws j 0
written_other ws new i w j e d = e ∙ ap (λ b. cond b w (get_or ws j 0)) (ne_eqb j i d)

pub joined_on : (ws new : List ℕ) (i w y : ℕ) → get_or new (y / 64) 0 ≡ cond (eqb (y / 64) i) (bit_or (get_or ws i 0) w) (get_or ws (y / 64) 0) → on new y ≡ (on ws y || (eqb i (y / 64) && bit w (y % 64)))
joined_on ws new i w y e = elim (eq_or i (y / 64)) [
  | inl q ↦ sym (bit_on new (y / 64) y refl) ∙ ap (λ z. bit z (y % 64)) (e ∙ ap (λ b. cond b (bit_or (get_or ws i 0) w) (get_or ws (y / 64) 0)) (eq-eqb (y / 64) i (sym q))) ∙ or_bit (get_or ws i 0) w (y % 64) ∙ ap (λ z. z || bit w (y % 64)) (bit_on ws i y q) ∙ ap (λ b. on ws y || (b && bit w (y % 64))) (sym (eq-eqb i (y / 64) q))
  | inr d ↦ sym (bit_on new (y / 64) y refl) ∙ ap (λ z. bit z (y % 64)) (e ∙ ap (λ b. cond b (bit_or (get_or ws i 0) w) (get_or ws (y / 64) 0)) (ne_eqb (y / 64) i (λ q. d (sym q)))) ∙ bit_on ws (y / 64) y refl ∙ sym (or_none (on ws y)) ∙ ap (λ b. on ws y || (b && bit w (y % 64))) (sym (ne_eqb i (y / 64) d))
]
  where
    or_none : (a : Bool) → (a || false) ≡ a
    or_none true = refl
    or_none false = refl

pub or_both : (a b c : Bool) → ((a || b) || c) ≡ (a || (b || c))
or_both true b c = refl
or_both false b c = refl

pub left_off : (ws new : List ℕ) (i w y : ℕ) → w < 2 ^ 64 → get_or new (y / 64) 0 ≡ cond (eqb (y / 64) i) (bit_and (get_or ws i 0) (bit_not w64 w)) (get_or ws (y / 64) 0) → on new y ≡ (on ws y && not (eqb i (y / 64) && bit w (y % 64)))
left_off ws new i w y fits e = elim (eq_or i (y / 64)) [
  | inl q ↦ sym (bit_on new (y / 64) y refl) ∙ ap (λ z. bit z (y % 64)) (e ∙ ap (λ b. cond b (bit_and (get_or ws i 0) (bit_not w64 w)) (get_or ws (y / 64) 0)) (eq-eqb (y / 64) i (sym q))) ∙ less_bit (get_or ws i 0) w (y % 64) fits (small y) ∙ ap (λ z. z && not (bit w (y % 64))) (bit_on ws i y q) ∙ ap (λ b. on ws y && not (b && bit w (y % 64))) (sym (eq-eqb i (y / 64) q))
  | inr d ↦ sym (bit_on new (y / 64) y refl) ∙ ap (λ z. bit z (y % 64)) (e ∙ ap (λ b. cond b (bit_and (get_or ws i 0) (bit_not w64 w)) (get_or ws (y / 64) 0)) (ne_eqb (y / 64) i (λ q. d (sym q)))) ∙ bit_on ws (y / 64) y refl ∙ sym (and_true (on ws y)) ∙ ap (λ b. on ws y && not (b && bit w (y % 64))) (sym (ne_eqb i (y / 64) d))
]
  where
    and_true : (a : Bool) → (a && true) ≡ a
    and_true true = refl
    and_true false = refl

pub neither : (a b c : Bool) → ((a && not b) && not c) ≡ (a && not (b || c))
neither true true c = refl
neither true false c = refl
neither false b c = refl

pub fresh_on : (ws : List ℕ) (es : List Held) (y : ℕ) → FreshIn ws es → on (spread ws es) y ≡ (on ws y || some es y)
fresh_on ws [] y f = sym (or_none (on ws y))
  where
    or_none : (a : Bool) → (a || false) ≡ a
    or_none true = refl
    or_none false = refl
fresh_on ws (e ∷ es) y f =
    let one : on (set ws e.at e.word) y ≡ (on ws y || (eqb e.at (y / 64) && bit e.word (y % 64))) = joined_on ws (set ws e.at e.word) e.at e.word y (get_set ws e.at (y / 64) e.word f.0 ∙ ap (λ z. cond (eqb (y / 64) e.at) z (get_or ws (y / 64) 0)) (sym (zero_or (get_or ws e.at 0) e.word f.1))) in
    fresh_on (set ws e.at e.word) es y f.2 ∙ ap (λ z. z || some es y) one ∙ or_both (on ws y) (eqb e.at (y / 64) && bit e.word (y % 64)) (some es y)
  where
    zero_or : (a b : ℕ) → a ≡ 0 → bit_or a b ≡ b
    zero_or a b e = ap (λ z. bit_or z b) e

pub kept_on : (n : ℕ) (es : List Held) (y : ℕ) → FreshIn (replicate n 0) es → on (spread (replicate n 0) es) y ≡ some es y
kept_on n es y f = fresh_on (replicate n 0) es y f ∙ ap (λ z. z || some es y) (zero_on (replicate n 0) y (zeros n (y / 64)))

pub fresh_few : (n : ℕ) (ws : List ℕ) (es : List Held) → length ws ≤ n → FreshIn ws es → (i : ℕ) (d : Held) → i < length es → (get_or es i d).at < n
fresh_few n ws [] h f i d l = absurd (omega (arith, l))
fresh_few n ws (e ∷ es) h f zero d l = (let a = f.0 in omega (arith, a, h))
fresh_few n ws (e ∷ es) h f (suc i) d l = fresh_few n (set ws e.at e.word) es (let a = length-set ws e.at e.word in omega (arith, a, h)) f.2 i d (omega (arith, l))

pub kept_few : (n : ℕ) (es : List Held) → n ≤ 0x4000000 → FreshIn (replicate n 0) es → (i : ℕ) (d : Held) → i < length es → (get_or es i d).at < 0x4000000
kept_few n es h f = fresh_few 0x4000000 (replicate n 0) es (let a = long n in omega (arith, a, h)) f

pub kept_first : (n : ℕ) (first : Option Held) (es : List Held) → n ≤ 0x4000000 → FreshIn (replicate n 0) (held_in first es) → IfSome first (λ e. e.at < 0x4000000)
kept_first n None es h f = tt
kept_first n (Some e) es h f = kept_few n (e ∷ es) h f 0 e (omega arith)

pub kept_others : (n : ℕ) (first : Option Held) (es : List Held) → n ≤ 0x4000000 → FreshIn (replicate n 0) (held_in first es) → (i : ℕ) (d : Held) → i < length es → (get_or es i d).at < 0x4000000
kept_others n None es h f i d l = kept_few n es h f i d l
kept_others n (Some e) es h f i d l = kept_few n (e ∷ es) h f (suc i) d (omega (arith, l))

-- ---- numbers of bits

pub among_more : (xs : List ℕ) (x y : ℕ) → is_among (xs ++ x ∷ []) y ≡ (is_among xs y || eqb x y)
among_more [] x y = or_none (eqb x y)
  where
    or_none : (a : Bool) → (a || false) ≡ a
    or_none true = refl
    or_none false = refl
among_more (z ∷ xs) x y = ap (λ b. eqb z y || b) (among_more xs x y) ∙ sym (or_both (eqb z y) (is_among xs y) (eqb x y))

module _ (at w b y : ℕ) (inside : b < 64) where
  parted : (at ≡ y / 64) → (y % 64 ≡ b) → 64 * at + b ≡ y
  parted e f = omega (arith, e, f)

  pub bit_turn : (v : Bool) → bit w b ≡ v → (eqb at (y / 64) && (bit w (y % 64) && ltb (y % 64) (b + 1))) ≡ ((eqb at (y / 64) && (bit w (y % 64) && ltb (y % 64) b)) || (v && eqb (64 * at + b) y))
  bit_turn v is = elim (eq_or at (y / 64)) [
    | inl q ↦ elim (eq_or (y % 64) b) [
      | inl r ↦
          ap (λ z. z && (bit w (y % 64) && ltb (y % 64) (b + 1))) (eq-eqb at (y / 64) q) ∙ ap (λ z. bit w (y % 64) && z) (low (y % 64) (b + 1) (omega (arith, r))) ∙ and_true (bit w (y % 64)) ∙ ap (bit w) r ∙ is
          ∙ sym (ap (λ z. (eqb at (y / 64) && (bit w (y % 64) && z)) || (v && eqb (64 * at + b) y)) (high (y % 64) b (omega (arith, r))) ∙ ap (λ z. z || (v && eqb (64 * at + b) y)) (ap (λ z. eqb at (y / 64) && z) (and_false (bit w (y % 64))) ∙ and_false (eqb at (y / 64))) ∙ ap (λ z. v && z) (eq-eqb (64 * at + b) y (parted q r)) ∙ and_true v)
      | inr d ↦ same (λ e. d (omega (arith, e, q))) (sides (lt_or (y % 64) b) d)
    ]
    | inr n ↦ ap (λ z. z && (bit w (y % 64) && ltb (y % 64) (b + 1))) (ne_eqb at (y / 64) n) ∙ sym (ap (λ z. (z && (bit w (y % 64) && ltb (y % 64) b)) || (v && eqb (64 * at + b) y)) (ne_eqb at (y / 64) n) ∙ ap (λ z. v && z) (ne_eqb (64 * at + b) y (λ e. n (omega (arith, e, inside)))) ∙ and_false v)
  ]
    where
      and_true : (a : Bool) → (a && true) ≡ a
      and_true true = refl
      and_true false = refl

      and_false : (a : Bool) → (a && false) ≡ false
      and_false true = refl
      and_false false = refl

      low : (a b : ℕ) → a < b → ltb a b ≡ true
      low a b h = go (ltb a b) refl
        where
          go : (t : Bool) → ltb a b ≡ t → ltb a b ≡ true
          go true e = e
          go false e = absurd (let g = ltb-false a b e in omega (arith, g, h))

      high : (a b : ℕ) → b ≤ a → ltb a b ≡ false
      high a b h = go (ltb a b) refl
        where
          go : (t : Bool) → ltb a b ≡ t → ltb a b ≡ false
          go false e = e
          go true e = absurd (let g = ltb-true a b e in omega (arith, g, h))

      sides : (y % 64 < b) ⊎ (b ≤ y % 64) → y % 64 ≢ b → ltb (y % 64) (b + 1) ≡ ltb (y % 64) b
      sides (inl l) d = low (y % 64) (b + 1) (omega (arith, l)) ∙ sym (low (y % 64) b l)
      sides (inr g) d = high (y % 64) (b + 1) (omega (arith, g, d)) ∙ sym (high (y % 64) b g)

      or_none : (a : Bool) → (a || false) ≡ a
      or_none true = refl
      or_none false = refl

      same : (64 * at + b ≢ y) → ltb (y % 64) (b + 1) ≡ ltb (y % 64) b → (eqb at (y / 64) && (bit w (y % 64) && ltb (y % 64) (b + 1))) ≡ ((eqb at (y / 64) && (bit w (y % 64) && ltb (y % 64) b)) || (v && eqb (64 * at + b) y))
      same n e = ap (λ z. eqb at (y / 64) && (bit w (y % 64) && z)) e ∙ sym (or_none (eqb at (y / 64) && (bit w (y % 64) && ltb (y % 64) b))) ∙ ap (λ z. (eqb at (y / 64) && (bit w (y % 64) && ltb (y % 64) b)) || z) (sym (ap (λ z. v && z) (ne_eqb (64 * at + b) y n) ∙ and_false v))

-- a bit more, from what is told so far
pub bits_found : (at w b y : ℕ) (old xs new : List ℕ) → at < 0x4000000 → b < 64 → bit w b ≡ true → new ≡ xs ++ (64 * at + b) % 2 ^ 32 ∷ [] → is_among xs y ≡ (is_among old y || (eqb at (y / 64) && (bit w (y % 64) && ltb (y % 64) b))) → is_among new y ≡ (is_among old y || (eqb at (y / 64) && (bit w (y % 64) && ltb (y % 64) (b + 1))))
bits_found at w b y old xs new f h is more e =
    let number : (64 * at + b) % 2 ^ 32 ≡ 64 * at + b = omega (arith, f, h) in
    ap (λ z. is_among z y) (more ∙ ap (λ z. xs ++ z ∷ []) number) ∙ among_more xs (64 * at + b) y ∙ ap (λ z. z || eqb (64 * at + b) y) e
    ∙ or_both (is_among old y) (eqb at (y / 64) && (bit w (y % 64) && ltb (y % 64) b)) (eqb (64 * at + b) y)
    ∙ ap (λ z. is_among old y || z) (sym (bit_turn at w b y h true is))

pub bits_passed : (at w b y : ℕ) (old xs : List ℕ) → b < 64 → bit w b ≡ false → is_among xs y ≡ (is_among old y || (eqb at (y / 64) && (bit w (y % 64) && ltb (y % 64) b))) → is_among xs y ≡ (is_among old y || (eqb at (y / 64) && (bit w (y % 64) && ltb (y % 64) (b + 1))))
bits_passed at w b y old xs h is e =
    e ∙ ap (λ z. is_among old y || z) (sym (or_none (eqb at (y / 64) && (bit w (y % 64) && ltb (y % 64) b))) ∙ sym (bit_turn at w b y h false is))
  where
    or_none : (a : Bool) → (a || false) ≡ a
    or_none true = refl
    or_none false = refl

pub bits_none : (at w y : ℕ) (old : List ℕ) → is_among old y ≡ (is_among old y || (eqb at (y / 64) && (bit w (y % 64) && ltb (y % 64) 0)))
bits_none at w y old = sym (ap (λ z. is_among old y || (eqb at (y / 64) && (bit w (y % 64) && z))) (never (y % 64)) ∙ all (is_among old y) (eqb at (y / 64)) (bit w (y % 64)))
  where
    never : (a : ℕ) → ltb a 0 ≡ false
    never a = go (ltb a 0) refl
      where
        go : (t : Bool) → ltb a 0 ≡ t → ltb a 0 ≡ false
        go false e = e
        go true e = absurd (let g = ltb-true a 0 e in omega (arith, g))

    all : (a b c : Bool) → (a || (b && (c && false))) ≡ a
    all true b c = refl
    all false true true = refl
    all false true false = refl
    all false false c = refl

-- bits that a word has not, up to one that is looked at next
pub bits_skipped : (at w b n y : ℕ) (m : Bool) → b ≤ n → ((j : ℕ) → b ≤ j → j < n → on (w ∷ []) j ≡ false) → (m || (eqb at (y / 64) && (bit w (y % 64) && ltb (y % 64) b))) ≡ (m || (eqb at (y / 64) && (bit w (y % 64) && ltb (y % 64) n)))
bits_skipped at w b n y m up none = ap (λ z. m || (eqb at (y / 64) && z)) (go (lt_or (y % 64) b) (lt_or (y % 64) n))
  where
    low : (a b : ℕ) → a < b → ltb a b ≡ true
    low a b h = grind (arith, h)

    high : (a b : ℕ) → b ≤ a → ltb a b ≡ false
    high a b h = grind (arith, h)

    go : (y % 64 < b) ⊎ (b ≤ y % 64) → (y % 64 < n) ⊎ (n ≤ y % 64) → (bit w (y % 64) && ltb (y % 64) b) ≡ (bit w (y % 64) && ltb (y % 64) n)
    go (inl l) r = ap (λ z. bit w (y % 64) && z) (low (y % 64) b l ∙ sym (low (y % 64) n (omega (arith, l, up))))
    go (inr g) (inr k) = ap (λ z. bit w (y % 64) && z) (high (y % 64) b g ∙ sym (high (y % 64) n k))
    go (inr g) (inl l) =
        let h = small y in
        let here : bit w (y % 64) ≡ on (w ∷ []) (y % 64) = ap (bit w) (omega (arith, h)) ∙ bit_on (w ∷ []) 0 (y % 64) (omega (arith, h)) in
        let off : bit w (y % 64) ≡ false = here ∙ none (y % 64) g l in
        ap (λ z. z && ltb (y % 64) b) off ∙ sym (ap (λ z. z && ltb (y % 64) n) off)

pub bits_begun : (at w n y : ℕ) (old : List ℕ) → ((j : ℕ) → 0 ≤ j → j < n → on (w ∷ []) j ≡ false) → is_among old y ≡ (is_among old y || (eqb at (y / 64) && (bit w (y % 64) && ltb (y % 64) n)))
bits_begun at w n y old none = bits_none at w y old ∙ bits_skipped at w 0 n y (is_among old y) (omega arith) none

pub bits_on : (at w b n y : ℕ) (old xs new : List ℕ) → at < 0x4000000 → b < 64 → bit w b ≡ true → new ≡ xs ++ (64 * at + b) % 2 ^ 32 ∷ [] → b + 1 ≤ n → ((j : ℕ) → b + 1 ≤ j → j < n → on (w ∷ []) j ≡ false) → is_among xs y ≡ (is_among old y || (eqb at (y / 64) && (bit w (y % 64) && ltb (y % 64) b))) → is_among new y ≡ (is_among old y || (eqb at (y / 64) && (bit w (y % 64) && ltb (y % 64) n)))
bits_on at w b n y old xs new f h is more up none e = bits_found at w b y old xs new f h is more e ∙ bits_skipped at w (b + 1) n y (is_among old y) up none

pub bits_over : (at w b n y : ℕ) (old xs : List ℕ) → b < 64 → bit w b ≡ false → b + 1 ≤ n → ((j : ℕ) → b + 1 ≤ j → j < n → on (w ∷ []) j ≡ false) → is_among xs y ≡ (is_among old y || (eqb at (y / 64) && (bit w (y % 64) && ltb (y % 64) b))) → is_among xs y ≡ (is_among old y || (eqb at (y / 64) && (bit w (y % 64) && ltb (y % 64) n)))
bits_over at w b n y old xs h is up none e = bits_passed at w b y old xs h is e ∙ bits_skipped at w (b + 1) n y (is_among old y) up none

pub bits_all : (at w y b : ℕ) (old xs : List ℕ) → 64 ≤ b → is_among xs y ≡ (is_among old y || (eqb at (y / 64) && (bit w (y % 64) && ltb (y % 64) b))) → is_among xs y ≡ (is_among old y || (eqb at (y / 64) && bit w (y % 64)))
bits_all at w y b old xs h e = e ∙ ap (λ z. is_among old y || (eqb at (y / 64) && z)) (ap (λ z. bit w (y % 64) && z) (always (y % 64) (small y)) ∙ and_true (bit w (y % 64)))
  where
    always : (a : ℕ) → a < 64 → ltb a b ≡ true
    always a l = go (ltb a b) refl
      where
        go : (t : Bool) → ltb a b ≡ t → ltb a b ≡ true
        go true e = e
        go false e = absurd (let g = ltb-false a b e in omega (arith, g, h, l))

    and_true : (a : Bool) → (a && true) ≡ a
    and_true true = refl
    and_true false = refl

-- ---- one word less the bits of others

left_bit : (ws : List ℕ) (at w y : ℕ) → get_or ws at 0 < 2 ^ 64 → (eqb at (y / 64) && bit (bit_and w (bit_not w64 (get_or ws at 0))) (y % 64)) ≡ ((eqb at (y / 64) && bit w (y % 64)) && not (on ws y))
left_bit ws at w y fits = elim (eq_or at (y / 64)) [
  | inl q ↦ ap (λ z. z && bit (bit_and w (bit_not w64 (get_or ws at 0))) (y % 64)) (eq-eqb at (y / 64) q) ∙ less_bit w (get_or ws at 0) (y % 64) fits (small y) ∙ ap (λ z. bit w (y % 64) && not z) (bit_on ws at y q) ∙ ap (λ z. (z && bit w (y % 64)) && not (on ws y)) (sym (eq-eqb at (y / 64) q))
  | inr n ↦ ap (λ z. z && bit (bit_and w (bit_not w64 (get_or ws at 0))) (y % 64)) (ne_eqb at (y / 64) n) ∙ ap (λ z. (z && bit w (y % 64)) && not (on ws y)) (sym (ne_eqb at (y / 64) n))
]

pub less_turn : (m p r n : Bool) → ((m || (p && n)) || (r && n)) ≡ (m || ((p || r) && n))
less_turn true p r n = refl
less_turn false true r true = refl
less_turn false true true false = refl
less_turn false true false false = refl
less_turn false false r n = refl

module _ (ws : List ℕ) (at w y r : ℕ) (m : Bool) (fits : r < 2 ^ 64) (is : r ≡ get_or ws at 0) where
  left_on : (eqb at (y / 64) && bit (bit_and w (bit_not w64 r)) (y % 64)) ≡ ((eqb at (y / 64) && bit w (y % 64)) && not (on ws y))
  left_on = ap (λ z. eqb at (y / 64) && bit (bit_and w (bit_not w64 z)) (y % 64)) is ∙ left_bit ws at w y (subst (λ z. z < 2 ^ 64) is fits)

  pub push_none : bit_and w (bit_not w64 r) ≡ 0 → m ≡ (m || ((eqb at (y / 64) && bit w (y % 64)) && not (on ws y)))
  push_none e = sym (ap (λ z. m || z) (sym left_on ∙ ap (λ z. eqb at (y / 64) && bit z (y % 64)) e ∙ ap (λ z. eqb at (y / 64) && z) (no_bit (y % 64))) ∙ nothing m (eqb at (y / 64)))
    where
      nothing : (a b : Bool) → (a || (b && false)) ≡ a
      nothing true b = refl
      nothing false true = refl
      nothing false false = refl

  pub push_some : (new : Bool) → new ≡ (m || (eqb at (y / 64) && bit (bit_and w (bit_not w64 r)) (y % 64))) → new ≡ (m || ((eqb at (y / 64) && bit w (y % 64)) && not (on ws y)))
  push_some new e = e ∙ ap (λ z. m || z) left_on

-- ---- a set of none

pub none_held : (count : ℕ) → count ≤ 0xffffffff → IsHeld (replicate (count / 64 + 1) 0) (replicate (count / 4096 + 1) 0)
none_held count h = record {
  few = (let a = long (count / 64 + 1) in omega (arith, a, h));
  wide = (let a = long (count / 64 + 1) in let b = long (count / 4096 + 1) in omega (arith, a, b));
  held = λ i n. absurd (n (zeros (count / 64 + 1) i));
}

pub restored : (n m : ℕ) (ws new : List ℕ) (es : List Held) → length ws ≡ length (spread (replicate m 0) es) → length ws ≡ n → new ≡ spread (replicate n 0) es → new ≡ spread (replicate m 0) es
restored n m ws new es e l is = (let same : n ≡ m = sym l ∙ e ∙ spread_long (replicate m 0) es ∙ long m in is ∙ ap (λ z. spread (replicate z 0) es) same)

pub ruleset copied = (copied_none, copied_same, copied_more, copied_all)

pub ruleset placed_bits = (bits_begun, bits_on, bits_over, bits_all)
