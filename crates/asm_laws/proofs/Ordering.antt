-- Moves in order, one after another, do what they do all at once.
use Rattle.std.proofs.Common.{◌≡◌, ◌≢◌, ℕ, suc, ◌*◌, ◌<◌, ◌≤◌, ◌⊎◌, inl, inr, Bool, true, false, List, [], ◌∷◌, ◌++◌, length, refl, sym, ap, ◌∙◌, arith, length-append}
use Rattle.std.specs.Prelude.{cond, ◌==◌, ◌||◌}
use Rattle.std.proofs.lemmas.Bool.{eqb-true, eqb-false, eq-eqb}
use Rattle.mid_code.specs.declared.placed.Where.{Where}
use Rattle.mid_code.specs.declared.placed.Where.TheVariants.{Reg, Slot}
use Rattle.mid_code.specs.Invariants.{in_registers, DifferFrom, AreDifferent}
use Rattle.asm_laws.specs.Operations.{Frame}
use Rattle.asm_laws.specs.Moves.{Move, is_register, wanted, is_taken, next_of, source_of, turn, away, left, ordered, in_order}
use Rattle.asm_laws.specs.Addresses.{Addr, word_of}
use Rattle.asm_laws.specs.inner.Links.{arrived, moved, at_once}
use Rattle.asm_laws.proofs.Stepping.{same_or_not, written_same, written_other}
use Rattle.asm_laws.proofs.Hands.{with_reg}

-- ---- what all moves of a list have

abbrev pub Every : (Move → Type 0) → List Move → Type 0
Every P [] = Unit {0}
Every P (m ∷ ms) = P m × Every P ms

every_map : (P Q : Move → Type 0) → ((m : Move) → P m → Q m) → (ms : List Move) → Every P ms → Every Q ms
every_map P Q f [] h = tt
every_map P Q f (m ∷ ms) h = (f m h.0, every_map P Q f ms h.1)

every_append : (P : Move → Type 0) (x y : List Move) → Every P x → Every P y → Every P (x ++ y)
every_append P [] y h g = g
every_append P (m ∷ x) y h g = (h.0, every_append P x y h.1 g)

off : (a b : ℕ) → a ≢ b → (a == b) ≡ false
off a b ne = elim (same_or_not a b) [ inl x ↦ absurd (ne x.0) | inr x ↦ x.1 ]

left_every : (P : Move → Type 0) (r : ℕ) → ((t : ℕ) (s : Where) → P (t, s) → P (t, away r s)) → (ms : List Move) → Every P ms → Every P (left r ms)
left_every P r f [] h = tt
left_every P r f ((t, s) ∷ ms) h = go (r == t) (left_every P r f ms h.1)
  where
    go : (b : Bool) → Every P (left r ms) → Every P (cond b (left r ms) ((t, away r s) ∷ left r ms))
    go true more = more
    go false more = (f t s h.0, more)

-- the registers written are temporaries', and no two the same
abbrev pub AreApart : List Move → Type 0
AreApart [] = Unit {0}
AreApart ((t, s) ∷ ms) = (t < 9) × Every (λ m. m.0 ≢ t) ms × AreApart ms

left_apart : (r : ℕ) (ms : List Move) → AreApart ms → AreApart (left r ms)
left_apart r [] h = tt
left_apart r ((t, s) ∷ ms) h = go (r == t) (left_apart r ms h.2)
  where
    go : (b : Bool) → AreApart (left r ms) → AreApart (cond b (left r ms) ((t, away r s) ∷ left r ms))
    go true more = more
    go false more = (h.0, left_every (λ m. m.0 ≢ t) r (λ u x e. e) ms h.1, more)

apart_low : (ms : List Move) → AreApart ms → Every (λ m. m.0 < 9) ms
apart_low [] h = tt
apart_low ((t, s) ∷ ms) h = (h.0, apart_low ms h.2)

-- ---- the register that is written next

next_has : (P : ℕ → Type 0) (all ms : List Move) (other : ℕ) → Every (λ m. P m.0) ms → P other → P (next_of all ms other)
next_has P all [] other h p = p
next_has P all ((t, s) ∷ ms) other h p = go (is_taken t all) (next_has P all ms other h.1 p)
  where
    go : (b : Bool) → P (next_of all ms other) → P (cond b (next_of all ms other) t)
    go true more = more
    go false more = h.0

abbrev is_target : ℕ → List Move → Bool
is_target r [] = false
is_target r ((t, s) ∷ ms) = (r == t) || is_target r ms

targets_there : (ms : List Move) → Every (λ m. is_target m.0 ms ≡ true) ms
targets_there [] = tt
targets_there ((t, s) ∷ ms) = (ap (λ b. b || is_target t ms) (eq-eqb t t refl), every_map (λ m. is_target m.0 ms ≡ true) (λ m. is_target m.0 ((t, s) ∷ ms) ≡ true) (λ m e. either (m.0 == t) (is_target m.0 ms) e) ms (targets_there ms))
  where
    either : (a b : Bool) → b ≡ true → (a || b) ≡ true
    either true b e = refl
    either false b e = e

next_target : (t : ℕ) (s : Where) (ms : List Move) → is_target (next_of ((t, s) ∷ ms) ((t, s) ∷ ms) t) ((t, s) ∷ ms) ≡ true
next_target t s ms = let h = targets_there ((t, s) ∷ ms) in next_has (λ r. is_target r ((t, s) ∷ ms) ≡ true) ((t, s) ∷ ms) ((t, s) ∷ ms) t h h.0

left_few : (r : ℕ) (ms : List Move) → length (left r ms) ≤ length ms
left_few r [] = omega arith
left_few r ((t, s) ∷ ms) = go (r == t) (left_few r ms)
  where
    go : (b : Bool) → length (left r ms) ≤ length ms → length (cond b (left r ms) ((t, away r s) ∷ left r ms)) ≤ length ((t, s) ∷ ms)
    go true more = omega (arith, more)
    go false more = omega (arith, more)

left_fewer : (r : ℕ) (ms : List Move) → is_target r ms ≡ true → length (left r ms) < length ms
left_fewer r [] e = absurd cc
left_fewer r ((t, s) ∷ ms) e = go (r == t) e (left_few r ms) (left_fewer r ms)
  where
    go : (b : Bool) → (b || is_target r ms) ≡ true → length (left r ms) ≤ length ms → (is_target r ms ≡ true → length (left r ms) < length ms) → length (cond b (left r ms) ((t, away r s) ∷ left r ms)) < length ((t, s) ∷ ms)
    go true e few more = omega (arith, few)
    go false e few more = let m = more e in omega (arith, m)

-- ---- words that are taken

untaken : (r : ℕ) (ms : List Move) → is_taken r ms ≡ false → Every (λ m. is_register m.1 r ≡ false) ms
untaken r [] e = tt
untaken r ((t, s) ∷ ms) e = go (is_register s r) refl e (untaken r ms)
  where
    go : (b : Bool) → is_register s r ≡ b → (b || is_taken r ms) ≡ false → (is_taken r ms ≡ false → Every (λ m. is_register m.1 r ≡ false) ms) → (is_register s r ≡ false) × Every (λ m. is_register m.1 r ≡ false) ms
    go true i e more = absurd cc
    go false i e more = (i, more e)

-- moves but the first one that takes a register's word
abbrev without : ℕ → List Move → List Move
without r [] = []
without r ((t, s) ∷ ms) = cond (is_register s r) ms ((t, s) ∷ without r ms)

one_less : (r : ℕ) (ms : List Move) → is_taken r ms ≡ true → length ms ≡ suc (length (without r ms))
one_less r [] e = absurd cc
one_less r ((t, s) ∷ ms) e = go (is_register s r) e (one_less r ms)
  where
    go : (b : Bool) → (b || is_taken r ms) ≡ true → (is_taken r ms ≡ true → length ms ≡ suc (length (without r ms))) → length ((t, s) ∷ ms) ≡ suc (length (cond b ms ((t, s) ∷ without r ms)))
    go true e more = refl
    go false e more = ap suc (more e)

register_is : (s : Where) (r : ℕ) → is_register s r ≡ true → s ≡ Reg r
register_is (Reg q) r e = ap Reg (eqb-true q r e)
register_is (Slot k) r e = absurd cc

still_taken : (r q : ℕ) (ms : List Move) → q ≢ r → is_taken q ms ≡ true → is_taken q (without r ms) ≡ true
still_taken r q [] ne e = e
still_taken r q ((t, s) ∷ ms) ne e = go (is_register s r) refl (is_register s q) refl e (still_taken r q ms ne)
  where
    go : (b : Bool) → is_register s r ≡ b → (c : Bool) → is_register s q ≡ c → (c || is_taken q ms) ≡ true → (is_taken q ms ≡ true → is_taken q (without r ms) ≡ true) → is_taken q (cond b ms ((t, s) ∷ without r ms)) ≡ true
    go true i true j e more = absurd (ne (eqb-true q r (sym (ap (λ x. is_register x r) (register_is s q j)) ∙ i)))
    go true i false j e more = e
    go false i true j e more = ap (λ c. c || is_taken q (without r ms)) j
    go false i false j e more = ap (λ c. c || is_taken q (without r ms)) j ∙ more e

-- different registers whose words are taken are at most as many as the moves
abbrev Taken : List Move → List ℕ → Type 0
Taken ms [] = Unit {0}
Taken ms (r ∷ rs) = (is_taken r ms ≡ true) × Taken ms rs

taken_without : (r : ℕ) (ms : List Move) (rs : List ℕ) → DifferFrom r rs → Taken ms rs → Taken (without r ms) rs
taken_without r ms [] d h = tt
taken_without r ms (q ∷ rs) d h = (still_taken r q ms (λ e. d.0 (sym e)) h.0, taken_without r ms rs d.1 h.1)

few_taken : (rs : List ℕ) (ms : List Move) → AreDifferent rs → Taken ms rs → length rs ≤ length ms
few_taken [] ms d h = omega arith
few_taken (r ∷ rs) ms d h = let e = one_less r ms h.0 in let m = few_taken rs (without r ms) d.1 (taken_without r ms rs d.0 h.1) in omega (arith, e, m)

abbrev targets : List Move → List ℕ
targets [] = []
targets ((t, s) ∷ ms) = t ∷ targets ms

targets_count : (ms : List Move) → length (targets ms) ≡ length ms
targets_count [] = refl
targets_count ((t, s) ∷ ms) = ap suc (targets_count ms)

targets_from : (t : ℕ) (ms : List Move) → Every (λ m. m.0 ≢ t) ms → DifferFrom t (targets ms)
targets_from t [] h = tt
targets_from t ((u, s) ∷ ms) h = (λ e. h.0 (sym e), targets_from t ms h.1)

targets_differ : (ms : List Move) → AreApart ms → AreDifferent (targets ms)
targets_differ [] h = tt
targets_differ ((t, s) ∷ ms) h = (targets_from t ms h.1, targets_differ ms h.2)

targets_taken : (all ms : List Move) (other : ℕ) → is_taken (next_of all ms other) all ≡ true → Taken all (targets ms)
targets_taken all [] other e = tt
targets_taken all ((t, s) ∷ ms) other e = go (is_taken t all) refl e (targets_taken all ms other)
  where
    go : (b : Bool) → is_taken t all ≡ b → is_taken (cond b (next_of all ms other) t) all ≡ true → (is_taken (next_of all ms other) all ≡ true → Taken all (targets ms)) → (is_taken t all ≡ true) × Taken all (targets ms)
    go true i e more = (i, more e)
    go false i e more = absurd cc

-- Where the word of each register that is written is still to be taken, none is taken of register 10.
ten_free : (ms : List Move) (other : ℕ) → AreApart ms → is_taken (next_of ms ms other) ms ≡ true → is_taken 10 ms ≡ false
ten_free ms other h e = go (is_taken 10 ms) refl
  where
    go : (b : Bool) → is_taken 10 ms ≡ b → b ≡ false
    go true i =
        let n = few_taken (10 ∷ targets ms) ms (targets_from 10 ms (every_map (λ m. m.0 < 9) (λ m. m.0 ≢ 10) (λ m lt x. omega (arith, lt, x)) ms (apart_low ms h)), targets_differ ms h) (i, targets_taken ms ms other e) in
        let c = targets_count ms in
        absurd (omega (arith, n, c))
    go false i = refl

-- ---- a turn

source_has : (P : Where → Type 0) (r : ℕ) (ms : List Move) → Every (λ m. P m.1) ms → P (Reg r) → P (source_of r ms)
source_has P r [] h p = p
source_has P r ((t, s) ∷ ms) h p = go (r == t) (source_has P r ms h.1 p)
  where
    go : (b : Bool) → P (source_of r ms) → P (cond b s (source_of r ms))
    go true more = h.0
    go false more = more

module _ (F : Frame) where
  word_else : (a : Addr) (s : Where) (r v : ℕ) → is_register s r ≡ false → word_of F s (with_reg r v a) ≡ word_of F s a
  word_else a (Reg q) r v e = written_other a.regs r v q (eqb-false q r e)
  word_else a (Slot k) r v e = refl

  -- a register has the word that it takes, and each other word that is taken is where it is looked for
  record Turned (r : ℕ) (ms : List Move) (a b : Addr) : Type 0 where
    here : b.regs r ≡ word_of F (source_of r ms) a
    others : (q : ℕ) → q < 9 → q ≢ r → b.regs q ≡ a.regs q
    sources : Every (λ m. word_of F (away r m.1) b ≡ word_of F m.1 a) ms

  free_turn : (r : ℕ) (ms : List Move) (a : Addr) → is_taken r ms ≡ false → Turned r ms a (with_reg r (word_of F (source_of r ms) a) a)
  free_turn r ms a e = record {
    here = written_same a.regs r (word_of F (source_of r ms) a) r refl;
    others = λ q lt ne. written_other a.regs r (word_of F (source_of r ms) a) q ne;
    sources = every_map (λ m. is_register m.1 r ≡ false) (λ m. word_of F (away r m.1) (with_reg r (word_of F (source_of r ms) a) a) ≡ word_of F m.1 a)
        (λ m i. ap (λ c. word_of F (cond c (Reg 10) m.1) (with_reg r (word_of F (source_of r ms) a) a)) i ∙ word_else a m.1 r (word_of F (source_of r ms) a) i) ms (untaken r ms e);
  }

  full_turn : (r : ℕ) (ms : List Move) (a : Addr) → r < 9 → is_taken 10 ms ≡ false → Turned r ms a (with_reg r (word_of F (source_of r ms) (with_reg 10 (a.regs r) a)) (with_reg 10 (a.regs r) a))
  full_turn r ms a lt e = record {
    here = written_same b.regs r v r refl ∙ word_else a (source_of r ms) 10 (a.regs r) (source_has (λ s. is_register s 10 ≡ false) r ms none (off r 10 (λ x. omega (arith, lt, x))));
    others = λ q low ne. written_other b.regs r v q ne ∙ written_other a.regs 10 (a.regs r) q (λ x. omega (arith, low, x));
    sources = every_map (λ m. is_register m.1 10 ≡ false) (λ m. word_of F (away r m.1) c ≡ word_of F m.1 a) (λ m i. source m.1 i) ms none;
  }
    where
      b : Addr
      b = with_reg 10 (a.regs r) a

      v : ℕ
      v = word_of F (source_of r ms) b

      c : Addr
      c = with_reg r v b

      none : Every (λ m. is_register m.1 10 ≡ false) ms
      none = untaken 10 ms e

      source : (s : Where) → is_register s 10 ≡ false → word_of F (away r s) c ≡ word_of F s a
      source s i = go (is_register s r) refl
        where
          go : (x : Bool) → is_register s r ≡ x → word_of F (cond x (Reg 10) s) c ≡ word_of F s a
          go true j = written_other b.regs r v 10 (λ x. omega (arith, lt, x)) ∙ written_same a.regs 10 (a.regs r) 10 refl ∙ sym (ap (λ x. word_of F x a) (register_is s r j))
          go false j = word_else b s r v j ∙ word_else a s 10 (a.regs r) i

  turned : (t : ℕ) (ms : List Move) (a : Addr) → t < 9 → AreApart ms → Turned (next_of ms ms t) ms a (moved F (turn (next_of ms ms t) ms) a)
  turned t ms a lt h = go (is_taken r ms) refl
    where
      r : ℕ
      r = next_of ms ms t

      go : (b : Bool) → is_taken r ms ≡ b → Turned r ms a (moved F (cond b ((10, Reg r) ∷ []) [] ++ (r, source_of r ms) ∷ []) a)
      go true e = full_turn r ms a (next_has (λ q. q < 9) ms ms t (apart_low ms h) lt) (ten_free ms t h e)
      go false e = free_turn r ms a e

  -- ---- all turns

  after_turn : (r : ℕ) (ms : List Move) (a b : Addr) (q : ℕ) → b.regs q ≡ a.regs q → Every (λ m. word_of F (away r m.1) b ≡ word_of F m.1 a) ms → q ≢ r → at_once F (left r ms) b q ≡ at_once F ms a q
  after_turn r [] a b q same h ne = same
  after_turn r ((t, s) ∷ ms) a b q same h ne = go (same_or_not r t) (after_turn r ms a b q same h.1 ne)
    where
      go : ((r ≡ t) × ((r == t) ≡ true)) ⊎ ((r ≢ t) × ((r == t) ≡ false)) → at_once F (left r ms) b q ≡ at_once F ms a q → at_once F (cond (r == t) (left r ms) ((t, away r s) ∷ left r ms)) b q ≡ cond (q == t) (word_of F s a) (at_once F ms a q)
      go (inl x) more = ap (λ c. at_once F (cond c (left r ms) ((t, away r s) ∷ left r ms)) b q) x.1 ∙ more ∙ sym (ap (λ c. cond c (word_of F s a) (at_once F ms a q)) (off q t (λ e. ne (e ∙ sym x.0))))
      go (inr x) more = ap (λ c. at_once F (cond c (left r ms) ((t, away r s) ∷ left r ms)) b q) x.1 ∙ (λ i. cond (q == t) (h.0 i) (more i))

  none_left : (r : ℕ) (ms : List Move) (b : Addr) → at_once F (left r ms) b r ≡ b.regs r
  none_left r [] b = refl
  none_left r ((t, s) ∷ ms) b = go (r == t) refl (none_left r ms b)
    where
      go : (c : Bool) → (r == t) ≡ c → at_once F (left r ms) b r ≡ b.regs r → at_once F (cond c (left r ms) ((t, away r s) ∷ left r ms)) b r ≡ b.regs r
      go true e more = more
      go false e more = ap (λ c. cond c (word_of F (away r s) b) (at_once F (left r ms) b r)) e ∙ more

  source_is : (r : ℕ) (ms : List Move) (a : Addr) → is_target r ms ≡ true → at_once F ms a r ≡ word_of F (source_of r ms) a
  source_is r [] a e = refl
  source_is r ((t, s) ∷ ms) a e = go (r == t) e (source_is r ms a)
    where
      go : (c : Bool) → (c || is_target r ms) ≡ true → (is_target r ms ≡ true → at_once F ms a r ≡ word_of F (source_of r ms) a) → cond c (word_of F s a) (at_once F ms a r) ≡ word_of F (cond c s (source_of r ms)) a
      go true e more = refl
      go false e more = more e

  moved_append : (x y : List Move) (a : Addr) → moved F (x ++ y) a ≡ moved F y (moved F x a)
  moved_append [] y a = refl
  moved_append ((t, s) ∷ x) y a = moved_append x y (with_reg t (word_of F s a) a)

  pub moved_same : (ms : List Move) (a : Addr) → ((moved F ms a).memory ≡ a.memory) × ((moved F ms a).base ≡ a.base) × ((moved F ms a).top ≡ a.top)
  moved_same [] a = (refl, refl, refl)
  moved_same ((t, s) ∷ ms) a = moved_same ms (with_reg t (word_of F s a) a)

  ordered_is : (turns ms : List Move) (a : Addr) → AreApart ms → length ms ≤ length turns → (q : ℕ) → q < 9 → (moved F (ordered turns ms) a).regs q ≡ at_once F ms a q
  ordered_is [] [] a h le q lt = refl
  ordered_is [] (m ∷ ms) a h le q lt = absurd (omega (arith, le))
  ordered_is (one ∷ turns) [] a h le q lt = refl
  ordered_is (one ∷ turns) ((t, s) ∷ rest) a h le q lt =
      let ms = (t, s) ∷ rest in
      let r = next_of ms ms t in
      let b = moved F (turn r ms) a in
      let there = next_target t s rest in
      let T = turned t ms a h.0 h in
      let n = left_fewer r ms there in
      ap (λ x. x.regs q) (moved_append (turn r ms) (ordered turns (left r ms)) a) ∙ ordered_is turns (left r ms) b (left_apart r ms h) (omega (arith, le, n)) q lt ∙ once r ms a b there T (same_or_not q r)
    where
      once : (r : ℕ) (ms : List Move) (a b : Addr) → is_target r ms ≡ true → Turned r ms a b → ((q ≡ r) × ((q == r) ≡ true)) ⊎ ((q ≢ r) × ((q == r) ≡ false)) → at_once F (left r ms) b q ≡ at_once F ms a q
      once r ms a b there T (inl x) = ap (at_once F (left r ms) b) x.0 ∙ none_left r ms b ∙ T.here ∙ sym (source_is r ms a there) ∙ ap (at_once F ms a) (sym x.0)
      once r ms a b there T (inr x) = after_turn r ms a b q (T.others q lt x.0) T.sources x.0

  -- ---- arguments

  not_wanted : (ps args : List Where) (a : Addr) (r : ℕ) → DifferFrom (Reg r) ps → at_once F (wanted ps args) a r ≡ a.regs r
  not_wanted [] args a r d = refl
  not_wanted (p ∷ ps) [] a r d = refl
  not_wanted (Slot k ∷ ps) (x ∷ args) a r d = not_wanted ps args a r d.1
  not_wanted (Reg t ∷ ps) (x ∷ args) a r d = go (is_register x t) (not_wanted ps args a r d.1)
    where
      go : (b : Bool) → at_once F (wanted ps args) a r ≡ a.regs r → at_once F (cond b (wanted ps args) ((t, x) ∷ wanted ps args)) a r ≡ a.regs r
      go true more = more
      go false more = ap (λ c. cond c (word_of F x a) (at_once F (wanted ps args) a r)) (off r t (λ e. d.0 (ap Reg e))) ∙ more

  abbrev pub AllOf : (Where → Type 0) → List Where → Type 0
  AllOf P [] = Unit {0}
  AllOf P (p ∷ ps) = P p × AllOf P ps

  -- where the words of the arguments are the same
  wanted_is : (ps args : List Where) (a b : Addr) → AreDifferent ps → AllOf (λ x. word_of F x b ≡ word_of F x a) args → (q : ℕ) → b.regs q ≡ a.regs q → at_once F (wanted ps args) b q ≡ arrived F ps args a q
  wanted_is [] args a b d h q same = same
  wanted_is (p ∷ ps) [] a b d h q same = same
  wanted_is (Slot k ∷ ps) (x ∷ args) a b d h q same = wanted_is ps args a b d.1 h.1 q same
  wanted_is (Reg t ∷ ps) (x ∷ args) a b d h q same = go (is_register x t) refl (wanted_is ps args a b d.1 h.1 q same)
    where
      there : is_register x t ≡ true → ((q ≡ t) × ((q == t) ≡ true)) ⊎ ((q ≢ t) × ((q == t) ≡ false)) → at_once F (wanted ps args) b q ≡ arrived F ps args a q → at_once F (wanted ps args) b q ≡ cond (q == t) (word_of F x a) (arrived F ps args a q)
      there i (inl e) more =
          ap (at_once F (wanted ps args) b) e.0 ∙ not_wanted ps args b t d.0 ∙ sym (ap (λ y. word_of F y b) (register_is x t i)) ∙ h.0 ∙ sym (ap (λ c. cond c (word_of F x a) (arrived F ps args a q)) e.1)
      there i (inr e) more = more ∙ sym (ap (λ c. cond c (word_of F x a) (arrived F ps args a q)) e.1)

      go : (c : Bool) → is_register x t ≡ c → at_once F (wanted ps args) b q ≡ arrived F ps args a q → at_once F (cond c (wanted ps args) ((t, x) ∷ wanted ps args)) b q ≡ cond (q == t) (word_of F x a) (arrived F ps args a q)
      go true i more = there i (same_or_not q t) more
      go false i more = λ j. cond (q == t) (h.0 j) (more j)

  abbrev pub Low : Where → Type 0
  Low (Reg r) = r < 9
  Low (Slot k) = Unit {0}

  wanted_from : (ps args : List Where) (t : ℕ) → DifferFrom (Reg t) ps → Every (λ m. m.0 ≢ t) (wanted ps args)
  wanted_from [] args t d = tt
  wanted_from (p ∷ ps) [] t d = tt
  wanted_from (Slot k ∷ ps) (x ∷ args) t d = wanted_from ps args t d.1
  wanted_from (Reg r ∷ ps) (x ∷ args) t d = go (is_register x r) (wanted_from ps args t d.1)
    where
      go : (b : Bool) → Every (λ m. m.0 ≢ t) (wanted ps args) → Every (λ m. m.0 ≢ t) (cond b (wanted ps args) ((r, x) ∷ wanted ps args))
      go true more = more
      go false more = (λ e. d.0 (ap Reg (sym e)), more)

  wanted_apart : (ps args : List Where) → AllOf Low ps → AreDifferent ps → AreApart (wanted ps args)
  wanted_apart [] args low d = tt
  wanted_apart (p ∷ ps) [] low d = tt
  wanted_apart (Slot k ∷ ps) (x ∷ args) low d = wanted_apart ps args low.1 d.1
  wanted_apart (Reg r ∷ ps) (x ∷ args) low d = go (is_register x r) (wanted_apart ps args low.1 d.1)
    where
      go : (b : Bool) → AreApart (wanted ps args) → AreApart (cond b (wanted ps args) ((r, x) ∷ wanted ps args))
      go true more = more
      go false more = (low.0, wanted_from ps args r d.0, more)

  -- arguments in order stand in their registers
  pub in_order_is : (ps args : List Where) (a b : Addr) → AllOf Low ps → AreDifferent ps → AllOf (λ x. word_of F x b ≡ word_of F x a) args → (q : ℕ) → q < 9 → b.regs q ≡ a.regs q → (moved F (in_order ps args) b).regs q ≡ arrived F ps args a q
  in_order_is ps args a b low d h q lt same = ordered_is (wanted ps args) (wanted ps args) b (wanted_apart ps args low d) (omega arith) q lt ∙ wanted_is ps args a b d h q same

-- ---- their places, and how many there are

wanted_sources : (P : Where → Type 0) (F : Frame) (ps args : List Where) → AllOf F P args → Every (λ m. P m.1) (wanted ps args)
wanted_sources P F [] args h = tt
wanted_sources P F (p ∷ ps) [] h = tt
wanted_sources P F (Slot k ∷ ps) (x ∷ args) h = wanted_sources P F ps args h.1
wanted_sources P F (Reg r ∷ ps) (x ∷ args) h = go (is_register x r) (wanted_sources P F ps args h.1)
  where
    go : (b : Bool) → Every (λ m. P m.1) (wanted ps args) → Every (λ m. P m.1) (cond b (wanted ps args) ((r, x) ∷ wanted ps args))
    go true more = more
    go false more = (h.0, more)

-- all moves go to registers below 11, from places that such a predicate holds of
module _ (P : Where → Type 0) (registers : (r : ℕ) → r < 11 → P (Reg r)) where
  abbrev pub Fine : Move → Type 0
  Fine m = (m.0 < 11) × P m.1

  turn_fine : (r : ℕ) (ms : List Move) → r < 11 → Every (λ m. P m.1) ms → Every Fine (turn r ms)
  turn_fine r ms lt h = go (is_taken r ms)
    where
      last : Every Fine ((r, source_of r ms) ∷ [])
      last = ((lt, source_has P r ms h (registers r lt)), tt)

      go : (b : Bool) → Every Fine (cond b ((10, Reg r) ∷ []) [] ++ (r, source_of r ms) ∷ [])
      go true = ((omega arith, registers r lt), last)
      go false = last

  away_fine : (r : ℕ) (s : Where) → P s → P (away r s)
  away_fine r s h = go (is_register s r)
    where
      go : (b : Bool) → P (cond b (Reg 10) s)
      go true = registers 10 (omega arith)
      go false = h

  ordered_fine : (turns ms : List Move) → Every (λ m. m.0 < 11) ms → Every (λ m. P m.1) ms → Every Fine (ordered turns ms)
  ordered_fine [] ms low h = tt
  ordered_fine (one ∷ turns) [] low h = tt
  ordered_fine (one ∷ turns) ((t, s) ∷ rest) low h =
      let ms = (t, s) ∷ rest in
      let r = next_of ms ms t in
      every_append Fine (turn r ms) (ordered turns (left r ms)) (turn_fine r ms (next_has (λ q. q < 11) ms ms t low low.0) h)
      (ordered_fine turns (left r ms) (left_every (λ m. m.0 < 11) r (λ u x lt. lt) ms low) (left_every (λ m. P m.1) r (λ u x p. away_fine r x p) ms h))

  pub in_order_fine : (F : Frame) (ps args : List Where) → AllOf F (Low F) ps → AreDifferent ps → AllOf F P args → Every Fine (in_order ps args)
  in_order_fine F ps args low d h = ordered_fine (wanted ps args) (wanted ps args) (every_map (λ m. m.0 < 9) (λ m. m.0 < 11) (λ m lt. omega (arith, lt)) (wanted ps args) (apart_low (wanted ps args) (wanted_apart F ps args low d))) (wanted_sources P F ps args h)

turn_few : (r : ℕ) (ms : List Move) → length (turn r ms) ≤ 2
turn_few r ms = go (is_taken r ms)
  where
    both : Bool → List Move
    both b = cond b ((10, Reg r) ∷ []) [] ++ (r, source_of r ms) ∷ []

    go : (b : Bool) → length (both b) ≤ 2
    go true = omega arith
    go false = omega arith

ordered_few : (turns ms : List Move) → length (ordered turns ms) ≤ 2 * length turns
ordered_few [] ms = omega arith
ordered_few (one ∷ turns) [] = omega arith
ordered_few (one ∷ turns) ((t, s) ∷ rest) =
    let ms = (t, s) ∷ rest in
    let r = next_of ms ms t in
    omega (arith, length-append (turn r ms) (ordered turns (left r ms)), turn_few r ms, ordered_few turns (left r ms))

wanted_few : (ps args : List Where) → length (wanted ps args) ≤ in_registers ps
wanted_few [] args = omega arith
wanted_few (p ∷ ps) [] = omega arith
wanted_few (Slot k ∷ ps) (x ∷ args) = wanted_few ps args
wanted_few (Reg r ∷ ps) (x ∷ args) = go (is_register x r) (wanted_few ps args)
  where
    go : (b : Bool) → length (wanted ps args) ≤ in_registers ps → length (cond b (wanted ps args) ((r, x) ∷ wanted ps args)) ≤ in_registers (Reg r ∷ ps)
    go true more = omega (arith, more)
    go false more = omega (arith, more)

-- at most two for each register
pub in_order_few : (ps args : List Where) → length (in_order ps args) ≤ 2 * in_registers ps
in_order_few ps args = let a = ordered_few (wanted ps args) (wanted ps args) in let b = wanted_few ps args in omega (arith, a, b)
