-- What is known of temporaries and of results, of values of temporaries of any kind: of their cells in a run, and of the words that are known of them.
use Rattle.std.proofs.Common.{◌≡◌, ℕ, zero, suc, Bool, true, false, not, cond, eqb, ◌&&◌, ◌||◌, min, take, length, [], ◌∷◌, Some, None, refl, sym, ap, subst, ◌∙◌}
use Rattle.std.proofs.lemmas.Bool.{eqb-true}
use denote.Enum.Bare.{same_true}
use Rattle.v32_isa.specs.contracts.instruction.Two.{the_type}
use Rattle.v32_isa.specs.declared.instruction.Two.{Two}
use Rattle.mid_fold.specs.declared.operand.Operand.{Operand}
use Rattle.mid_fold.specs.declared.operand.Operand.TheVariants.{Word, Address, Cell}
use Rattle.mid_fold.specs.declared.made.Maker.{Maker}
use Rattle.mid_fold.specs.declared.made.Maker.TheVariants.{Operator, Step, Local}
use Rattle.mid_fold.specs.declared.made.Made.{Made}
use Rattle.mid_fold.specs.inner.Reusing.{Operands, Results, Seen, nothing_seen, operand_in, is_same, is_same_operator, is_same_maker, is_made_by, result_in, result_of, is_cell, operands_behind, results_behind, behind, with_operand, is_worth, is_kept, with_result, made, maker_in, is_zero, is_address, step_found, address_of_local}

-- ---- what equal tests say

same_operator : (a b : Two) → is_same_operator a b ≡ true → a ≡ b
same_operator a b e = same_true the_type tt a b e

same_maker : (a b : Maker) → is_same_maker a b ≡ true → a ≡ b
same_maker (Operator a) (Operator b) e = ap Operator (same_operator a b e)
same_maker Step Step e = refl
same_maker (Operator a) Step e = absurd cc
same_maker Step (Operator b) e = absurd cc
same_maker Local b e = absurd cc
same_maker (Operator a) Local e = absurd cc
same_maker Step Local e = absurd cc

same_operand : (x y : Operand) → is_same x y ≡ true → x ≡ y
same_operand (Word a) (Word b) e = ap Word (eqb-true a b e)
same_operand (Address a) (Address b) e = ap Address (eqb-true a b e)
same_operand (Cell a) (Cell b) e = ap Cell (eqb-true a b e)
same_operand (Word a) (Address b) e = absurd cc
same_operand (Word a) (Cell b) e = absurd cc
same_operand (Address a) (Word b) e = absurd cc
same_operand (Address a) (Cell b) e = absurd cc
same_operand (Cell a) (Word b) e = absurd cc
same_operand (Cell a) (Address b) e = absurd cc

both : (a b : Bool) → (a && b) ≡ true → (a ≡ true) × (b ≡ true)
both true b e = (refl, e)
both false b e = absurd cc

neither : (a b : Bool) → (a || b) ≡ false → (a ≡ false) × (b ≡ false)
neither false b e = (refl, e)
neither true b e = absurd cc

is_not : (a : Bool) → not a ≡ true → a ≡ false
is_not false e = refl
is_not true e = absurd cc

-- ---- values

module _ {V : Type 0} (word address : ℕ → V) (Makes : Maker → V → V → V → Type 0) where
  abbrev pub value : (ℕ → V) → Operand → V
  value vs (Word w) = word w
  value vs (Address n) = address n
  value vs (Cell q) = vs q

  abbrev pub Tells : Operands → (ℕ → V) → Type 0
  Tells [] vs = Unit {0}
  Tells (e ∷ es) vs = (vs e.0 ≡ value vs e.1) × Tells es vs

  abbrev pub IsMade : Made → (ℕ → V) → Type 0
  IsMade m vs = Makes m.by (value vs m.first) (value vs m.second) (vs m.target)

  abbrev pub AreMade : Results → (ℕ → V) → Type 0
  AreMade [] vs = Unit {0}
  AreMade (m ∷ ms) vs = IsMade m vs × AreMade ms vs

  abbrev pub Holds : Seen → (ℕ → V) → Type 0
  Holds k vs = Tells k.0 vs × AreMade k.1 vs

  pub nothing_holds : (vs : ℕ → V) → Holds nothing_seen vs
  nothing_holds vs = (tt, tt)

  made_of : {o p : Maker} {a b c d e f : V} → o ≡ p → a ≡ b → c ≡ d → e ≡ f → Makes o a c e → Makes p b d f
  made_of {o = o} {p = p} {a = a} {b = b} {c = c} {d = d} {e = e} by first second target h =
      subst (λ z. Makes p b d z) target (subst (λ z. Makes p b z e) second (subst (λ z. Makes p z c e) first (subst (λ z. Makes z a c e) by h)))

  -- ---- what is found

  pub operand_is : (es : Operands) (vs : ℕ → V) (q : ℕ) → Tells es vs → vs q ≡ value vs (operand_in es q)
  operand_is [] vs q h = refl
  operand_is (e ∷ es) vs q h = go (operand_is es vs q h.1) (eqb e.0 q) refl
    where
      go : vs q ≡ value vs (operand_in es q) → (b : Bool) → eqb e.0 q ≡ b → vs q ≡ value vs (cond b e.1 (operand_in es q))
      go r true f = sym (ap vs (eqb-true e.0 q f)) ∙ h.0
      go r false f = r

  made_so : (m : Made) (vs : ℕ → V) (o : Maker) (x y : Operand) → IsMade m vs → is_made_by m o x y ≡ true → Makes o (value vs x) (value vs y) (vs m.target)
  made_so m vs o x y h e =
      let parts = both (is_same_maker m.by o) (is_same m.first x && is_same m.second y) e in
      let operands = both (is_same m.first x) (is_same m.second y) parts.1 in
      let by = same_maker m.by o parts.0 in
      let first = same_operand m.first x operands.0 in
      let second = same_operand m.second y operands.1 in
      made_of by (ap (value vs) first) (ap (value vs) second) refl h

  result_is : (ms : Results) (vs : ℕ → V) (o : Maker) (x y : Operand) (q : ℕ) → AreMade ms vs → result_in ms o x y ≡ Some q → Makes o (value vs x) (value vs y) (vs q)
  result_is [] vs o x y q h e = absurd cc
  result_is (m ∷ ms) vs o x y q h e = go (λ f. result_is ms vs o x y q h.1 f) (is_made_by m o x y) refl e
    where
      go : (result_in ms o x y ≡ Some q → Makes o (value vs x) (value vs y) (vs q)) → (b : Bool) → is_made_by m o x y ≡ b → cond b (Some m.target) (result_in ms o x y) ≡ Some q
          → Makes o (value vs x) (value vs y) (vs q)
      go r true f g = let same : m.target ≡ q = cc in made_of refl refl refl (ap vs same) (made_so m vs o x y h.0 f)
      go r false f g = r g

  -- what stands in the temporary that is found
  pub found_is : (k : Seen) (vs : ℕ → V) (o : Maker) (t a b q : ℕ) → Holds k vs → result_of k.1 (made k.0 o t a b) ≡ Some q → Makes o (vs a) (vs b) (vs q)
  found_is k vs o t a b q h e = go (is_worth k.1 o (operand_in k.0 a) (operand_in k.0 b)) e
    where
      go : (w : Bool) → cond w (result_in k.1 o (operand_in k.0 a) (operand_in k.0 b)) None ≡ Some q → Makes o (vs a) (vs b) (vs q)
      go true f = made_of refl (sym (operand_is k.0 vs a h.0)) (sym (operand_is k.0 vs b h.0)) refl (result_is k.1 vs o (operand_in k.0 a) (operand_in k.0 b) q h.1 f)
      go false f = absurd cc

  -- what a pointer is made by, and that the step of it by 0 is it
  abbrev pub Stays : Type 0
  Stays = (o : Maker) (a b v : V) → is_address (Some o) ≡ true → Makes o a b v → Makes Step v (word 0) v

  address_stays : Stays → (ms : Results) (vs : ℕ → V) (x : Operand) → AreMade ms vs → is_address (maker_in ms x) ≡ true
      → Makes Step (value vs x) (word 0) (value vs x)
  address_stays st [] vs x h e = absurd cc
  address_stays st (m ∷ ms) vs x h e = go (λ f. address_stays st ms vs x h.1 f) (is_cell x m.target) refl e
    where
      at_target : (y : Operand) → is_cell y m.target ≡ true → vs m.target ≡ value vs y
      at_target (Word w) f = absurd cc
      at_target (Address n) f = absurd cc
      at_target (Cell q) f = sym (ap vs (eqb-true q m.target f))

      go : (is_address (maker_in ms x) ≡ true → Makes Step (value vs x) (word 0) (value vs x)) → (b : Bool) → is_cell x m.target ≡ b
          → is_address (cond b (Some m.by) (maker_in ms x)) ≡ true → Makes Step (value vs x) (word 0) (value vs x)
      go r true f g = subst (λ v. Makes Step v (word 0) v) (at_target x f) (st m.by (value vs m.first) (value vs m.second) (vs m.target) g h.0)
      go r false f g = r g

  zero_is : (vs : ℕ → V) (x : Operand) → is_zero x ≡ true → word 0 ≡ value vs x
  zero_is vs (Word w) e = ap word (sym (eqb-true w 0 e))
  zero_is vs (Address n) e = absurd cc
  zero_is vs (Cell q) e = absurd cc

  -- what stands in the temporary that has what a step makes
  pub step_is : Stays → (k : Seen) (vs : ℕ → V) (t p n q : ℕ) → Holds k vs → step_found k t p n ≡ Some q → Makes Step (vs p) (vs n) (vs q)
  step_is st k vs t p n q h e = go (is_zero y && is_address (maker_in k.1 x)) refl e
    where
      x : Operand
      x = operand_in k.0 p

      y : Operand
      y = operand_in k.0 n

      go : (b : Bool) → (is_zero y && is_address (maker_in k.1 x)) ≡ b
          → cond b (Some p) (result_of k.1 (made k.0 Step t p n)) ≡ Some q → Makes Step (vs p) (vs n) (vs q)
      go true f g =
          let same : p ≡ q = cc in
          let parts = both (is_zero y) (is_address (maker_in k.1 x)) f in
          let first = sym (operand_is k.0 vs p h.0) in
          let second = zero_is vs y parts.0 ∙ sym (operand_is k.0 vs n h.0) in
          made_of refl first second (first ∙ ap vs same) (address_stays st k.1 vs x h.1 parts.1)
      go false f g = found_is k vs Step t p n q h g

  -- ---- where t takes another value

  module _ (t : ℕ) (vs us : ℕ → V) (off : (r : ℕ) → eqb r t ≡ false → us r ≡ vs r) where
    value_stays : (x : Operand) → is_cell x t ≡ false → value us x ≡ value vs x
    value_stays (Word w) e = refl
    value_stays (Address n) e = refl
    value_stays (Cell q) e = off q e

    pub still_told : (es : Operands) → Tells es vs → Tells (operands_behind es t) us
    still_told [] h = tt
    still_told (e ∷ es) h = go (still_told es h.1) (eqb e.0 t || is_cell e.1 t) refl
      where
        go : Tells (operands_behind es t) us → (b : Bool) → (eqb e.0 t || is_cell e.1 t) ≡ b → Tells (cond b (operands_behind es t) (e ∷ operands_behind es t)) us
        go r true f = r
        go r false f = let parts = neither (eqb e.0 t) (is_cell e.1 t) f in (off e.0 parts.0 ∙ h.0 ∙ sym (value_stays e.1 parts.1), r)

    pub still_made : (ms : Results) → AreMade ms vs → AreMade (results_behind ms t) us
    still_made [] h = tt
    still_made (m ∷ ms) h = go (still_made ms h.1) (eqb m.target t || (is_cell m.first t || is_cell m.second t)) refl
      where
        go : AreMade (results_behind ms t) us → (b : Bool) → (eqb m.target t || (is_cell m.first t || is_cell m.second t)) ≡ b → AreMade (cond b (results_behind ms t) (m ∷ results_behind ms t)) us
        go r true f = r
        go r false f =
            let parts = neither (eqb m.target t) (is_cell m.first t || is_cell m.second t) f in
            let operands = neither (is_cell m.first t) (is_cell m.second t) parts.1 in
            (made_of refl (sym (value_stays m.first operands.0)) (sym (value_stays m.second operands.1)) (sym (off m.target parts.0)) h.0, r)

    pub still_holds : (k : Seen) → Holds k vs → Holds (behind k t) us
    still_holds k h = (still_told k.0 h.0, still_made k.1 h.1)

    first_told : (n : ℕ) (es : Operands) → Tells es us → Tells (take n es) us
    first_told zero es h = tt
    first_told (suc n) [] h = tt
    first_told (suc n) (e ∷ es) h = (h.0, first_told n es h.1)

    first_made : (n : ℕ) (ms : Results) → AreMade ms us → AreMade (take n ms) us
    first_made zero ms h = tt
    first_made (suc n) [] h = tt
    first_made (suc n) (m ∷ ms) h = (h.0, first_made n ms h.1)

    -- t takes what an operand was
    pub operand_holds : (k : Seen) (x : Operand) → Holds k vs → us t ≡ value vs x → Holds (with_operand (operands_behind k.0 t) t x, results_behind k.1 t) us
    operand_holds k x h e = (go (is_cell x t) refl, still_made k.1 h.1)
      where
        es : Operands
        es = operands_behind k.0 t

        go : (b : Bool) → is_cell x t ≡ b → Tells (cond b es ((t, x) ∷ take (min (length es) 3) es)) us
        go true f = still_told k.0 h.0
        go false f = (e ∙ sym (value_stays x f), first_told (min (length es) 3) es (still_told k.0 h.0))

    -- t takes what an operator makes
    pub result_holds : (k : Seen) (o : Maker) (a b : ℕ) → Holds k vs → Makes o (vs a) (vs b) (us t)
        → Holds (operands_behind k.0 t, with_result (results_behind k.1 t) (made k.0 o t a b)) us
    result_holds k o a b h e = (still_told k.0 h.0, go (is_kept ms (made k.0 o t a b)) refl)
      where
        ms : Results
        ms = results_behind k.1 t

        x : Operand
        x = operand_in k.0 a

        y : Operand
        y = operand_in k.0 b

        go : (w : Bool) → is_kept ms (made k.0 o t a b) ≡ w → AreMade (cond w (made k.0 o t a b ∷ take (min (length ms) 15) ms) ms) us
        go true f =
            let parts = both (is_worth ms o x y) (not (is_cell x t || is_cell y t)) f in
            let off_t = neither (is_cell x t) (is_cell y t) (is_not (is_cell x t || is_cell y t) parts.1) in
            let first : value us x ≡ vs a = value_stays x off_t.0 ∙ sym (operand_is k.0 vs a h.0) in
            let second : value us y ≡ vs b = value_stays y off_t.1 ∙ sym (operand_is k.0 vs b h.0) in
            (made_of refl (sym first) (sym second) refl e, first_made (min (length ms) 15) ms (still_made k.1 h.1))
        go false f = still_made k.1 h.1

    -- t takes the address of a local
    pub local_holds : (k : Seen) → Holds k vs → Makes Local (word 0) (word 0) (us t)
        → Holds (operands_behind k.0 t, with_result (results_behind k.1 t) (address_of_local t)) us
    local_holds k h e = (still_told k.0 h.0, (e, first_made (min (length (results_behind k.1 t)) 15) (results_behind k.1 t) (still_made k.1 h.1)))
