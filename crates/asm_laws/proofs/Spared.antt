-- What bodies that spare register 8 read.
use Rattle.std.proofs.Common.{◌≡◌, ℕ, zero, suc, ◌⊎◌, ◌==◌, inl, inr, Bool, true, false, cond, List, [], ◌∷◌, Option, Some, None, refl, sym, ap, ◌∙◌, subst, arith}
use Rattle.std.specs.Prelude.{◌&&◌, not, nat_lt}
use Rattle.std.proofs.lemmas.Bool.{eqb-false}
use Rattle.std.proofs.lemmas.Bool.Decides.{nat_tests}
use Rattle.asm_items.specs.Items.{Imm}
use Rattle.v32_isa.specs.declared.instruction.Instr.{Instr}
use Rattle.v32_isa.specs.declared.instruction.Two.TheVariants.{IADD}
use Rattle.mid_code.specs.declared.placed.Where.{Where}
use Rattle.mid_code.specs.declared.placed.Where.TheVariants.{Reg, Slot}
use Rattle.mid_code.specs.Code.{OpT, ConstO, NullO, MoveO, OneO, TwoO, GlobalO, LocalO, LiteralO, CardO, StepO, ApartO, PtrTestO, LoadO, StoreO, FreshO, EndO, InO, OutO, WaitO, HaltO, NodesT, Stop, Do, Call, Choose, Block, Loop, Leave, Again, Return, uses}
use Rattle.mid_code.specs.Invariants.{AllOf}
use Rattle.asm_laws.specs.declared.used.Used.{Used}
use Rattle.asm_laws.specs.Pieces.{register, is_in, turned, loads_there}
use Rattle.asm_laws.specs.Spare.{used_by, puts, count, group, are_others, spares, held_registers, Stays, Sparing}
use Rattle.asm_laws.specs.Operations.{Frame, Whole, word_put, summed, first_place, unturned, copied, copied_address, with_copy, with_sum, with_word, is_spared, with_known, with_next, with_access, in_one, more_of}
use Rattle.asm_laws.specs.declared.access.Address.{Address}
use Rattle.asm_laws.specs.declared.access.Transfer.{Transfer}
use Rattle.asm_laws.specs.declared.access.Transfer.TheVariants.{Load, Store}
use Rattle.asm_laws.specs.Accesses.{accessed}
use Rattle.asm_laws.specs.Holds.{Setting, Named}
use Rattle.asm_laws.specs.Acting.{Fitting, FrontFits}
use Rattle.asm_laws.proofs.Lists.{below_or_not}
use Rattle.asm_laws.proofs.AccessForms.{Transfers, accessed_case}

pub both : (x y : Bool) → x && y ≡ true → (x ≡ true) × (y ≡ true)
both true true e = (refl, refl)
both true false e = absurd cc
both false y e = absurd cc

off : (x : Bool) → not x ≡ true → x ≡ false
off true e = absurd cc
off false e = refl

-- two demands on a body
pub halves : (n : ℕ) (x y : Bool) → (n ≡ 9) ⊎ ((n ≡ 8) × (x && y ≡ true)) → ((n ≡ 9) ⊎ ((n ≡ 8) × (x ≡ true))) × ((n ≡ 9) ⊎ ((n ≡ 8) × (y ≡ true)))
halves n x y (inl e) = (inl e, inl e)
halves n x y (inr e) = let d = both x y e.1 in (inr (e.0, d.0), inr (e.0, d.1))

-- a body keeps the demands for the registers that it is given
pub held_is : (body : NodesT Where) → Sparing (held_registers body) body zero
unfolding held_registers
held_is body = go (spares body zero) refl
  where
    go : (b : Bool) → spares body zero ≡ b → Sparing (cond b 8 9) body zero
    go true e = inr (refl, e)
    go false e = inl refl

-- so many operations that come first, with words that stay
abbrev pub FrontStays : ℕ → NodesT Where → ℕ → Type 0
FrontStays n (Do o c) (suc k) = AllOf (Stays n) (uses o) × FrontStays n c k
FrontStays n _ k = Unit {0}

-- so many that put no known word into register 8
abbrev NoPuts : NodesT Where → ℕ → Type 0
NoPuts (Do o c) (suc k) = (puts o ≡ false) × NoPuts c k
NoPuts _ k = Unit {0}

module _ (S : Setting) (f : ℕ) where
  pub named_uses : (o : OpT Where) → Fitting S f o → AllOf (Named S f) (uses o)
  named_uses (ConstO t n) g = tt
  named_uses (NullO t) g = tt
  named_uses (MoveO t p) g = (g.1, tt)
  named_uses (OneO o t p) g = (g.2, tt)
  named_uses (TwoO o t p q) g = (g.1, (g.2, tt))
  named_uses (GlobalO t k) g = tt
  named_uses (LocalO t k) g = tt
  named_uses (LiteralO t k) g = tt
  named_uses (CardO t) g = tt
  named_uses (StepO t p n) g = (g.1, (g.2, tt))
  named_uses (ApartO t p q) g = (g.1, (g.2, tt))
  named_uses (PtrTestO o t p q) g = (g.2, (g.3, tt))
  named_uses (LoadO t p) g = (g.1, tt)
  named_uses (StoreO p q) g = (g.0, (g.1, tt))
  named_uses (FreshO k) g = tt
  named_uses (EndO k) g = tt
  named_uses (InO t port) g = tt
  named_uses (OutO port p) g = (g.0, tt)
  named_uses WaitO g = tt
  named_uses HaltO g = tt

  nine_stays : (n : ℕ) (p : Where) → n ≡ 9 → Named S f p → Stays n p
  nine_stays n (Reg r) e h = omega (arith, e, h)
  nine_stays n (Slot k) e h = tt

  pub other_stays : (n : ℕ) (p : Where) → n ≡ 8 → Named S f p → is_in p 8 ≡ false → Stays n p
  other_stays n (Reg r) e h i = elim (below_or_not r 8) [
    | inl lt ↦ omega (arith, lt, e)
    | inr le ↦ let same : register r ≡ 8 = omega (arith, le, h) in absurd (eqb-false (register r) 8 i same)
  ]
  other_stays n (Slot k) e h i = tt

  pub all_stay : (n : ℕ) (ps : List Where) → (n ≡ 9) ⊎ ((n ≡ 8) × (are_others ps ≡ true)) → AllOf (Named S f) ps → AllOf (Stays n) ps
  all_stay n [] is h = tt
  all_stay n (p ∷ ps) (inl e) h = (nine_stays n p e h.0, all_stay n ps (inl e) h.1)
  all_stay n (p ∷ ps) (inr e) h =
      let d = both (not (is_in p 8)) (are_others ps) e.1 in
      (other_stays n p e.0 h.0 (off (is_in p 8) d.0), all_stay n ps (inr (e.0, d.1)) h.1)

  pub one_stays : (n : ℕ) (p : Where) → (n ≡ 9) ⊎ ((n ≡ 8) × (not (is_in p 8) ≡ true)) → Named S f p → Stays n p
  one_stays n p (inl e) h = nine_stays n p e h
  one_stays n p (inr e) h = other_stays n p e.0 h (off (is_in p 8) e.1)

  -- the words that operations read
  pub uses_stay : (n : ℕ) (o : OpT Where) (c : NodesT Where) → Sparing n (Do o c) zero → Fitting S f o → AllOf (Stays n) (uses o)
  uses_stay n o c (inl e) fit = all_stay n (uses o) (inl e) (named_uses o fit)
  uses_stay n o c (inr e) fit = all_stay n (uses o) (inr (e.0, (both (are_others (uses o)) (spares c (group o c)) e.1).0)) (named_uses o fit)

  -- operations that are done one after another, or in one go, but for a known word in register 8
  nine_front : (n : ℕ) (c : NodesT Where) (k : ℕ) → n ≡ 9 → FrontFits S f c k → FrontStays n c k
  nine_front n (Do o c) zero e h = tt
  nine_front n (Do o c) (suc k) e h = (all_stay n (uses o) (inl e) (named_uses o h.0), nine_front n c k e h.1)
  nine_front n Stop k e h = tt
  nine_front n (Call t g args c) k e h = tt
  nine_front n (Choose w x y c) k e h = tt
  nine_front n (Block b c) k e h = tt
  nine_front n (Loop b c) k e h = tt
  nine_front n (Leave j c) k e h = tt
  nine_front n (Again j c) k e h = tt
  nine_front n (Return w c) k e h = tt

  behind : (o : OpT Where) (c : NodesT Where) → puts o ≡ false → spares (Do o c) zero ≡ true → (are_others (uses o) ≡ true) × (spares c zero ≡ true)
  behind o c none sp =
      let d = both (are_others (uses o)) (spares c (group o c)) sp in
      (d.0, ap (λ b. spares c (cond b (count (used_by c)) zero)) (sym none) ∙ d.1)

  eight_front : (n : ℕ) (c : NodesT Where) (k : ℕ) → n ≡ 8 → spares c zero ≡ true → NoPuts c k → FrontFits S f c k → FrontStays n c k
  eight_front n (Do o c) zero e sp none h = tt
  eight_front n (Do o c) (suc k) e sp none h =
      let d = behind o c none.0 sp in
      (all_stay n (uses o) (inr (e, d.0)) (named_uses o h.0), eight_front n c k e d.1 none.1 h.1)
  eight_front n Stop k e sp none h = tt
  eight_front n (Call t g args c) k e sp none h = tt
  eight_front n (Choose w x y c) k e sp none h = tt
  eight_front n (Block b c) k e sp none h = tt
  eight_front n (Loop b c) k e sp none h = tt
  eight_front n (Leave j c) k e sp none h = tt
  eight_front n (Again j c) k e sp none h = tt
  eight_front n (Return w c) k e sp none h = tt

  past : (c : NodesT Where) (k : ℕ) → spares c zero ≡ true → NoPuts c k → spares c k ≡ true
  past (Do o c) zero sp none = sp
  past (Do o c) (suc k) sp none = past c k (behind o c none.0 sp).1 none.1
  past Stop k sp none = sp
  past (Call t g args c) k sp none = sp
  past (Choose w x y c) k sp none = sp
  past (Block b c) k sp none = sp
  past (Loop b c) k sp none = sp
  past (Leave j c) k sp none = sp
  past (Again j c) k sp none = sp
  past (Return w c) k sp none = sp

none_put : (c : NodesT Where) → NoPuts c zero
none_put Stop = tt
none_put (Do o c) = tt
none_put (Call t g args c) = tt
none_put (Choose w x y c) = tt
none_put (Block b c) = tt
none_put (Loop b c) = tt
none_put (Leave j c) = tt
none_put (Again j c) = tt
none_put (Return w c) = tt

-- what is done in one go with a word in another register puts none there
no_load : (r : ℕ) (p : OpT Where) (c : NodesT Where) → puts p ≡ false → loads_there r c ≡ true → NoPuts (Do p c) 2
no_load r p (Do (LoadO (Reg t) (Reg q)) c) none there = (none, (refl, none_put c))
no_load r p _ none there = absurd cc

module _ (F : Frame) where
  two_or_one : (r : ℕ) (p : OpT Where) (c : NodesT Where) (first : Option (Instr Imm)) (i j : Instr Imm) → puts p ≡ false → NoPuts (Do p c) (more_of (Some (cond (loads_there r c) (2, first, i) (1, first, j))))
  two_or_one r p c first i j none = go (loads_there r c) refl
    where
      go : (b : Bool) → loads_there r c ≡ b → NoPuts (Do p c) (more_of (Some (cond b (2, first, i) (1, first, j))))
      go true there = no_load r p c none there
      go false there = (none, none_put c)

  copy_puts : (r w : ℕ) (p : OpT Where) (c : NodesT Where) → puts p ≡ false → NoPuts (Do p c) (more_of (with_copy F r w p c))
  copy_puts r w (TwoO o t a b) c none = go (unturned (turned o) (first_place r t a b))
    where
      go : (x : Option Where) → NoPuts (Do (TwoO o t a b) c) (more_of (copied F r w o x))
      go None = tt
      go (Some q) = (refl, none_put c)
  copy_puts r w (StepO t a b) c none = go (unturned (Some IADD) (first_place r t a b))
    where
      go : (x : Option Where) → NoPuts (Do (StepO t a b) c) (more_of (copied_address F r w x c))
      go None = tt
      go (Some q) = two_or_one r (StepO t a b) c _ _ _ refl
  copy_puts r w p c none = tt

  sum_puts : (r w : ℕ) (p : OpT Where) (c : NodesT Where) (s : Option (ℕ × ℕ)) → puts p ≡ false → NoPuts (Do p c) (more_of (with_sum r s (with_copy F r w p c) c))
  sum_puts r w p c None none = copy_puts r w p c none
  sum_puts r w p c (Some (q, v)) none = two_or_one r p c None _ _ none

  word_puts : (put : Option (ℕ × ℕ)) (p : OpT Where) (c : NodesT Where) → NoPuts (Do p c) (more_of (with_word F put p c))
  word_puts None p c = tt
  word_puts (Some (r, w)) (TwoO o t a b) c = sum_puts r w (TwoO o t a b) c (summed r w (TwoO o t a b)) refl
  word_puts (Some (r, w)) (StepO t a b) c = sum_puts r w (StepO t a b) c (summed r w (StepO t a b)) refl
  word_puts (Some (r, w)) p c = tt

  -- a known word is put into register 8, or is none
  no_registers : (x : Bool) → F.registers ≡ 9 → (F.registers == 8) && x ≡ false
  no_registers x e = ap (λ n. (n == 8) && x) e

  some_registers : (x : Bool) → F.registers ≡ 8 → (F.registers == 8) && x ≡ x
  some_registers x e = ap (λ n. (n == 8) && x) e

  pub never_spared : (put : Option (ℕ × ℕ)) → F.registers ≡ 9 → is_spared F put ≡ false
  never_spared None e = refl
  never_spared (Some (r, w)) e = no_registers (r == 8) e

  pub spared_puts : (W : Whole) (o : OpT Where) → F.registers ≡ 8 → is_spared F (word_put W o) ≡ puts o
  spared_puts W (ConstO (Reg r) n) e = some_registers (register r == 8) e
  spared_puts W (GlobalO (Reg r) k) e = some_registers (register r == 8) e
  spared_puts W (ConstO (Slot j) n) e = refl
  spared_puts W (GlobalO (Slot j) k) e = refl
  spared_puts W (NullO t) e = refl
  spared_puts W (MoveO t p) e = refl
  spared_puts W (OneO o t p) e = refl
  spared_puts W (TwoO o t p q) e = refl
  spared_puts W (LocalO t k) e = refl
  spared_puts W (LiteralO t k) e = refl
  spared_puts W (CardO t) e = refl
  spared_puts W (StepO t p n) e = refl
  spared_puts W (ApartO t p q) e = refl
  spared_puts W (PtrTestO o t p q) e = refl
  spared_puts W (LoadO t p) e = refl
  spared_puts W (StoreO p q) e = refl
  spared_puts W (FreshO k) e = refl
  spared_puts W (EndO k) e = refl
  spared_puts W (InO t port) e = refl
  spared_puts W (OutO port p) e = refl
  spared_puts W WaitO e = refl
  spared_puts W HaltO e = refl

module _ (S : Setting) (f : ℕ) (W : Whole) (F : Frame) where
  -- an operation whose word is not known to be in register 8, and those that are done with it
  pub old_stays : (o u : OpT Where) (c : NodesT Where) → Sparing F.registers (Do o (Do u c)) zero → is_spared F (word_put W o) ≡ false → FrontFits S f (Do o (Do u c)) (suc (more_of (with_word F (word_put W o) u c))) →
      FrontStays F.registers (Do o (Do u c)) (suc (more_of (with_word F (word_put W o) u c)))
  old_stays o u c (inl e) none h = nine_front S f F.registers (Do o (Do u c)) (suc (more_of (with_word F (word_put W o) u c))) e h
  old_stays o u c (inr e) none h = eight_front S f F.registers (Do o (Do u c)) (suc (more_of (with_word F (word_put W o) u c))) e.0 e.1 (sym (spared_puts F W o e.0) ∙ none, word_puts F (word_put W o) u c) h

  known_more : (put : Option (ℕ × ℕ)) (x : Option (ℕ × Used)) → is_spared F put ≡ true → more_of (with_known W.globals F put x) ≡ count x
  known_more None x e = absurd cc
  known_more (Some (r, w)) None e = refl
  known_more (Some (r, w)) (Some (k, u)) e = refl

  -- what comes behind an operation, and those that are done with it where no access is
  next_on : (o : OpT Where) (c : NodesT Where) → Sparing F.registers (Do o c) zero → Sparing F.registers c (more_of (with_next W F o c))
  next_on o c (inl e) = inl e
  next_on o (Do u c) (inr e) = inr (e.0, go (is_spared F (word_put W o)) refl)
    where
      here : spares (Do u c) (group o (Do u c)) ≡ true
      here = (both (are_others (uses o)) (spares (Do u c) (group o (Do u c))) e.1).1

      go : (b : Bool) → is_spared F (word_put W o) ≡ b → spares (Do u c) (more_of (cond b (with_known W.globals F (word_put W o) (used_by (Do u c))) (with_word F (word_put W o) u c))) ≡ true
      go true is =
          let put : puts o ≡ true = sym (spared_puts F W o e.0) ∙ is in
          ap (spares (Do u c)) (known_more (word_put W o) (used_by (Do u c)) is ∙ ap (λ b. cond b (count (used_by (Do u c))) zero) (sym put)) ∙ here
      go false is =
          let put : puts o ≡ false = sym (spared_puts F W o e.0) ∙ is in
          past S f (Do u c) (more_of (with_word F (word_put W o) u c)) (behind S f o (Do u c) put e.1).1 (word_puts F (word_put W o) u c)
  next_on o Stop (inr e) = inr (e.0, refl)
  next_on o (Call t g args c) (inr e) = inr (e.0, (both (are_others (uses o)) _ e.1).1)
  next_on o (Choose w x y c) (inr e) = inr (e.0, (both (are_others (uses o)) _ e.1).1)
  next_on o (Block b c) (inr e) = inr (e.0, (both (are_others (uses o)) _ e.1).1)
  next_on o (Loop b c) (inr e) = inr (e.0, (both (are_others (uses o)) _ e.1).1)
  next_on o (Leave j c) (inr e) = inr (e.0, (both (are_others (uses o)) _ e.1).1)
  next_on o (Again j c) (inr e) = inr (e.0, (both (are_others (uses o)) _ e.1).1)
  next_on o (Return w c) (inr e) = inr (e.0, (both (are_others (uses o)) _ e.1).1)

  -- an access at an address that nothing else asks for
  abbrev AccessPuts : OpT Where → NodesT Where → Option (ℕ × Address × Transfer) → Type 0
  AccessPuts o c None = Unit {0}
  AccessPuts o c (Some (k, y, x)) = NoPuts (Do o c) (suc k)

  access_puts : F.registers ≡ 8 → (o : OpT Where) (c : NodesT Where) → AccessPuts o c (accessed F.lasting F.registers o c)
  access_puts e = accessed_case F.lasting F.registers AccessPuts (λ o c. tt)
      (λ t l last d x i told. (refl, (last_puts t last x i, none_put d)))
      (λ r n u p last d x lt apart i told. (low r lt, (refl, (last_puts u last x i, none_put d))))
      (λ t l r n u last d x lt apart i told. (refl, (low r lt, (refl, (last_puts u last x i, none_put d)))))
    where
      last_puts : (u : ℕ) (last : OpT Where) (x : Transfer) → Transfers u last x → puts last ≡ false
      last_puts u last (Load v) i = ap puts i
      last_puts u last (Store a) i = ap puts i

      low : (r : ℕ) → nat_lt r F.registers ≡ true → is_in (Reg r) 8 ≡ false
      low r lt = grind (arith, nat_tests, lt, e)

  -- the words that its operations read
  pub access_stays : (o : OpT Where) (c : NodesT Where) (k : ℕ) (y : Address) (x : Transfer) → accessed F.lasting F.registers o c ≡ Some (k, y, x) → Sparing F.registers (Do o c) zero → FrontFits S f (Do o c) (suc k) → FrontStays F.registers (Do o c) (suc k)
  access_stays o c k y x q (inl e) fit = nine_front S f F.registers (Do o c) (suc k) e fit
  access_stays o c k y x q (inr e) fit = eight_front S f F.registers (Do o c) (suc k) e.0 e.1 (subst (AccessPuts o c) q (access_puts e.0 o c)) fit

  access_on : (o : OpT Where) (c : NodesT Where) (x : Option (ℕ × Address × Transfer)) → accessed F.lasting F.registers o c ≡ x → Sparing F.registers (Do o c) zero → Sparing F.registers c (more_of (with_access F x (with_next W F o c)))
  access_on o c None q sp = next_on o c sp
  access_on o c (Some (k, y, x)) q (inl e) = inl e
  access_on o c (Some (k, y, x)) q (inr e) = let none = subst (AccessPuts o c) q (access_puts e.0 o c) in inr (e.0, past S f c k (behind S f o c none.0 e.1).1 none.1)

  -- what comes behind an operation, and those that are done with it
  pub spares_on : (o : OpT Where) (c : NodesT Where) → Sparing F.registers (Do o c) zero → Sparing F.registers c (more_of (in_one W F o c))
  unfolding in_one
  spares_on o c sp = access_on o c (accessed F.lasting F.registers o c) refl sp

  -- a known word is put into register 8
  pub spared_is : (o : OpT Where) (c : NodesT Where) → Sparing F.registers (Do o c) zero → is_spared F (word_put W o) ≡ true → (F.registers ≡ 8) × (puts o ≡ true)
  spared_is o c (inl e) is = let none = never_spared F (word_put W o) e in absurd cc
  spared_is o c (inr e) is = (e.0, sym (spared_puts F W o e.0) ∙ is)
