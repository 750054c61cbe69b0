-- What is done to a table is done to what it knows, and no slot gets later than it.
use Rattle.std.proofs.Common.{◌≡◌, ℕ, ◌+◌, ◌<◌, ◌≤◌, arith, Bool, true, false, ◌&&◌, cond, eqb, nat_le, List, [], Option, Some, None, refl, sym, ap, ◌∙◌, leb-true, le-leb, eqb-true, eq-eqb}
use Rattle.std.proofs.lemmas.Bool.{and_from, false≢true}
use Rattle.mid_improve.specs.declared.slots.Held.{Held}
use Rattle.mid_improve.specs.declared.slots.Held.TheVariants.{Nothing, Word, Copy}
use Rattle.mid_improve.specs.declared.slots.Slot.{Slot}
use Rattle.mid_improve.specs.declared.table.Table.{Table}
use Rattle.mid_improve.specs.inner.Facts.{Fact, IsWord, IsCopy, none_known, unless_copy, behind, with_fact, fact_word}
use Rattle.mid_improve.specs.inner.Slots.{slot_at, with_slot, fact_in, facts_in, changed, holding, held_past, is_past}
use Rattle.mid_improve.specs.inner.Tables.{facts}
use Rattle.mid_improve.proofs.Slotted.{none_there}

pub both : (x y : Bool) → (x && y) ≡ true → (x ≡ true) × (y ≡ true)
both true y e = (refl, e)
both false y e = absurd (false≢true e)

-- no slot is later
abbrev pub Past : (ℕ → Slot) → ℕ → Type 0
Past at n = (q : ℕ) → is_past at n q ≡ true

-- a Boolean test of which either answer leads there
by_test : {P : Type 0} (b : Bool) → (b ≡ true → P) → (b ≡ false → P) → P
by_test true t f = t refl
by_test false t f = f refl

not_equal : (a b : ℕ) → a < b → eqb a b ≡ false
not_equal a b lt = by_test (eqb a b) (λ e. absurd (let f : a ≡ b = eqb-true a b e in omega (arith, lt, f))) (λ e. e)

nothing_there : (b : Bool) → cond {A = Option Fact} b None None ≡ None
nothing_there true = refl
nothing_there false = refl

copy_no_word : (b : Bool) (a : ℕ) → None ≡ fact_word (cond b (Some (IsCopy a)) None)
copy_no_word true a = refl
copy_no_word false a = refl

-- a copy has no word
pub no_word : (at : ℕ → Slot) (a stamp : ℕ) → None ≡ fact_word (fact_in at (Copy a stamp))
no_word at a stamp = copy_no_word (eqb stamp (at a).changes) a

-- slots whose counts are the same have the same facts
facts_same : (at bt : ℕ → Slot) → ((r : ℕ) → (bt r).changes ≡ (at r).changes) → (h : Held) → fact_in bt h ≡ fact_in at h
facts_same at bt e Nothing = refl
facts_same at bt e (Word word) = refl
facts_same at bt e (Copy a stamp) = ap (λ c. cond (eqb stamp c) (Some (IsCopy a)) None) (e a)

past_alike : (at bt : ℕ → Slot) → ((r : ℕ) → (bt r).changes ≡ (at r).changes) → (h : Held) → held_past bt h ≡ held_past at h
past_alike at bt e Nothing = refl
past_alike at bt e (Word word) = refl
past_alike at bt e (Copy a stamp) = ap (nat_le stamp) (e a)

module _ (at : ℕ → Slot) (n : ℕ) where
  -- ---- a cell is taken

  module _ (t : ℕ) where
    abbrev taken : Slot
    taken = changed ((at t).changes + 1) (at t)

    abbrev at_changed : ℕ → Slot
    at_changed = with_slot at t taken

    -- a later count than that of any slot
    stale : (a stamp : ℕ) → nat_le stamp (at a).changes ≡ true → eqb t a ≡ true → eqb stamp (cond true taken (at a)).changes ≡ false
    stale a stamp p e =
        let le : stamp ≤ (at a).changes = leb-true stamp (at a).changes p in
        let is : (at t).changes ≡ (at a).changes = ap (λ z. (at z).changes) (eqb-true t a e) in
        not_equal stamp ((at t).changes + 1) (omega (arith, le, is))

    unless_gone : (k : Bool) (a : ℕ) → eqb t a ≡ true → None ≡ unless_copy t (cond k (Some (IsCopy a)) None)
    unless_gone true a e = sym (ap (λ b. cond b None (Some (IsCopy a))) e)
    unless_gone false a e = refl

    unless_there : (k : Bool) (a : ℕ) → eqb t a ≡ false → cond k (Some (IsCopy a)) None ≡ unless_copy t (cond k (Some (IsCopy a)) None)
    unless_there true a e = sym (ap (λ b. cond b None (Some (IsCopy a))) e)
    unless_there false a e = refl

    copy_behind : (a stamp : ℕ) → nat_le stamp (at a).changes ≡ true → (b : Bool) → eqb t a ≡ b
        → cond (eqb stamp (cond b taken (at a)).changes) (Some (IsCopy a)) None ≡ unless_copy t (cond (eqb stamp (at a).changes) (Some (IsCopy a)) None)
    copy_behind a stamp p true e = ap (λ c. cond c (Some (IsCopy a)) None) (stale a stamp p e) ∙ unless_gone (eqb stamp (at a).changes) a e
    copy_behind a stamp p false e = unless_there (eqb stamp (at a).changes) a e

    held_behind : (h : Held) → held_past at h ≡ true → fact_in at_changed h ≡ unless_copy t (fact_in at h)
    held_behind Nothing p = refl
    held_behind (Word word) p = refl
    held_behind (Copy a stamp) p = copy_behind a stamp p (eqb t a) refl

    in_stretch : (b : Bool) (f g : Option Fact) → f ≡ unless_copy t g → cond b f None ≡ unless_copy t (cond b g None)
    in_stretch true f g e = e
    in_stretch false f g e = refl

    pub changed_at : Past at n → facts_in at_changed n ≡ behind (facts_in at n) t
    changed_at p = λ i r. here r i
      where
        here : (r : ℕ) → facts_in at_changed n r ≡ behind (facts_in at n) t r
        here r = go (eqb t r) refl
          where
            go : (b : Bool) → eqb t r ≡ b → cond (eqb (cond b taken (at r)).stretch n) (fact_in at_changed (cond b taken (at r)).held) None ≡ cond b None (unless_copy t (facts_in at n r))
            go true e = nothing_there (eqb (at t).stretch n)
            go false e = in_stretch (eqb (at r).stretch n) (fact_in at_changed (at r).held) (fact_in at (at r).held) (held_behind (at r).held (both (nat_le (at r).stretch n) (held_past at (at r).held) (p r)).1)

    more_changes : (m q : ℕ) → nat_le m (at q).changes ≡ true → nat_le m (at_changed q).changes ≡ true
    more_changes m q p = go (eqb t q) refl
      where
        go : (b : Bool) → eqb t q ≡ b → nat_le m (cond b taken (at q)).changes ≡ true
        go true e =
            let le : m ≤ (at q).changes = leb-true m (at q).changes p in
            let is : (at t).changes ≡ (at q).changes = ap (λ z. (at z).changes) (eqb-true t q e) in
            le-leb m ((at t).changes + 1) (omega (arith, le, is))
        go false e = p

    still_past : (h : Held) → held_past at h ≡ true → held_past at_changed h ≡ true
    still_past Nothing p = refl
    still_past (Word word) p = refl
    still_past (Copy a stamp) p = more_changes stamp a p

    pub changed_past : Past at n → Past at_changed n
    changed_past p r = go (eqb t r) refl
      where
        go : (b : Bool) → eqb t r ≡ b → (nat_le (cond b taken (at r)).stretch n && held_past at_changed (cond b taken (at r)).held) ≡ true
        go true e = and_from (nat_le (at t).stretch n) true (both (nat_le (at t).stretch n) (held_past at (at t).held) (p t)).0 refl
        go false e =
            let b = both (nat_le (at r).stretch n) (held_past at (at r).held) (p r) in
            and_from (nat_le (at r).stretch n) (held_past at_changed (at r).held) b.0 (still_past (at r).held b.1)

  -- ---- something is known

  module _ (t : ℕ) (h : Held) where
    abbrev made : Slot
    made = holding h n (at t)

    abbrev at_held : ℕ → Slot
    at_held = with_slot at t made

    held_changes : (r : ℕ) → (at_held r).changes ≡ (at r).changes
    held_changes r = by_test (eqb t r) (λ e. ap (λ b. (cond b made (at r)).changes) e ∙ ap (λ z. (at z).changes) (eqb-true t r e)) (λ e. ap (λ b. (cond b made (at r)).changes) e)

    pub held_at : (f : Fact) → fact_in at h ≡ Some f → facts_in at_held n ≡ with_fact t f (facts_in at n)
    held_at f is = λ i r. here r i
      where
        here : (r : ℕ) → facts_in at_held n r ≡ with_fact t f (facts_in at n) r
        here r = go (eqb t r) refl
          where
            go : (b : Bool) → eqb t r ≡ b → cond (eqb (cond b made (at r)).stretch n) (fact_in at_held (cond b made (at r)).held) None ≡ cond b (Some f) (facts_in at n r)
            go true e = (λ i. cond (eq-eqb n n refl i) (facts_same at at_held held_changes h i) None) ∙ is
            go false e = ap (λ g. cond (eqb (at r).stretch n) g None) (facts_same at at_held held_changes (at r).held)

    pub held_still : held_past at h ≡ true → Past at n → Past at_held n
    held_still k p r = go (eqb t r) refl
      where
        go : (b : Bool) → eqb t r ≡ b → (nat_le (cond b made (at r)).stretch n && held_past at_held (cond b made (at r)).held) ≡ true
        go true e = and_from (nat_le n n) (held_past at_held h) (le-leb n n (omega arith)) (past_alike at at_held held_changes h ∙ k)
        go false e = ap (λ c. nat_le (at r).stretch n && c) (past_alike at at_held held_changes (at r).held) ∙ p r

  -- the copy that is made now
  pub copy_now : (a : ℕ) → fact_in at (Copy a (at a).changes) ≡ Some (IsCopy a)
  copy_now a = ap (λ b. cond b (Some (IsCopy a)) None) (eq-eqb (at a).changes (at a).changes refl)

  pub copy_past : (a : ℕ) → held_past at (Copy a (at a).changes) ≡ true
  copy_past a = le-leb (at a).changes (at a).changes (omega arith)

  -- ---- a later stretch

  pub later_at : Past at n → facts_in at (n + 1) ≡ none_known
  later_at p = λ i r. here r i
    where
      here : (r : ℕ) → facts_in at (n + 1) r ≡ None
      here r =
          let le : (at r).stretch ≤ n = leb-true (at r).stretch n (both (nat_le (at r).stretch n) (held_past at (at r).held) (p r)).0 in
          ap (λ c. cond c (fact_in at (at r).held) None) (not_equal (at r).stretch (n + 1) (omega (arith, le)))

  pub later_past : Past at n → Past at (n + 1)
  later_past p r =
      let b = both (nat_le (at r).stretch n) (held_past at (at r).held) (p r) in
      let le : (at r).stretch ≤ n = leb-true (at r).stretch n b.0 in
      and_from (nat_le (at r).stretch (n + 1)) (held_past at (at r).held) (le-leb (at r).stretch (n + 1) (omega (arith, le))) b.1

-- ---- tables

pub none_past : (ss : List Slot) (n : ℕ) → ss ≡ [] → (q : ℕ) → is_past (slot_at ss) n q ≡ true
none_past ss n e q = ap (λ at. is_past at n q) (none_there ss e) ∙ and_from (nat_le 0 n) true (le-leb 0 n (omega arith)) refl

pub none_facts : (t : Table) → t.slots.items ≡ [] → facts t ≡ none_known
unfolding facts
none_facts t e = ap (λ at. facts_in at t.stretch) (none_there t.slots.items e) ∙ (λ i q. nothing_there (eqb 0 t.stretch) i)

pub past_same : (t : Table) (ss : List Slot) → slot_at ss ≡ slot_at t.slots.items → (q : ℕ) → is_past (slot_at ss) t.stretch q ≡ true
past_same t ss e q = ap (λ at. is_past at t.stretch q) e ∙ t.past q

module _ (t : Table) (ss : List Slot) where
  pub past_changed : (p : ℕ) → slot_at ss ≡ with_slot (slot_at t.slots.items) p (changed ((slot_at t.slots.items p).changes + 1) (slot_at t.slots.items p)) → (q : ℕ) → is_past (slot_at ss) t.stretch q ≡ true
  past_changed p e q = ap (λ at. is_past at t.stretch q) e ∙ changed_past (slot_at t.slots.items) t.stretch p t.past q

  pub past_word : (p word : ℕ) → slot_at ss ≡ with_slot (slot_at t.slots.items) p (holding (Word word) t.stretch (slot_at t.slots.items p)) → (q : ℕ) → is_past (slot_at ss) t.stretch q ≡ true
  past_word p word e q = ap (λ at. is_past at t.stretch q) e ∙ held_still (slot_at t.slots.items) t.stretch p (Word word) refl t.past q

  pub past_copy : (p a stamp : ℕ) → stamp ≡ (slot_at t.slots.items a).changes → slot_at ss ≡ with_slot (slot_at t.slots.items) p (holding (Copy a stamp) t.stretch (slot_at t.slots.items p)) → (q : ℕ) → is_past (slot_at ss) t.stretch q ≡ true
  past_copy p a stamp c e q = ap (λ at. is_past at t.stretch q) e ∙ held_still (slot_at t.slots.items) t.stretch p (Copy a stamp) (ap (λ m. held_past (slot_at t.slots.items) (Copy a m)) c ∙ copy_past (slot_at t.slots.items) t.stretch a) t.past q

pub past_later : (t : Table) (n : ℕ) → n ≡ t.stretch + 1 → (q : ℕ) → is_past (slot_at t.slots.items) n q ≡ true
past_later t n e q = ap (λ m. is_past (slot_at t.slots.items) m q) e ∙ later_past (slot_at t.slots.items) t.stretch t.past q

module _ (t u : Table) where
  pub facts_changed : (p : ℕ) → u.stretch ≡ t.stretch → slot_at u.slots.items ≡ with_slot (slot_at t.slots.items) p (changed ((slot_at t.slots.items p).changes + 1) (slot_at t.slots.items p)) → facts u ≡ behind (facts t) p
  unfolding facts
  facts_changed p n e = (λ i. facts_in (e i) (n i)) ∙ changed_at (slot_at t.slots.items) t.stretch p t.past

  pub facts_word : (p word : ℕ) → u.stretch ≡ t.stretch → slot_at u.slots.items ≡ with_slot (slot_at t.slots.items) p (holding (Word word) t.stretch (slot_at t.slots.items p)) → facts u ≡ with_fact p (IsWord word) (facts t)
  unfolding facts
  facts_word p word n e = (λ i. facts_in (e i) (n i)) ∙ held_at (slot_at t.slots.items) t.stretch p (Word word) (IsWord word) refl

  pub facts_copy : (p a stamp : ℕ) → stamp ≡ (slot_at t.slots.items a).changes → u.stretch ≡ t.stretch → slot_at u.slots.items ≡ with_slot (slot_at t.slots.items) p (holding (Copy a stamp) t.stretch (slot_at t.slots.items p)) → facts u ≡ with_fact p (IsCopy a) (facts t)
  unfolding facts
  facts_copy p a stamp c n e = (λ i. facts_in (e i) (n i)) ∙ held_at (slot_at t.slots.items) t.stretch p (Copy a stamp) (IsCopy a) (ap (λ m. fact_in (slot_at t.slots.items) (Copy a m)) c ∙ copy_now (slot_at t.slots.items) t.stretch a)

  pub facts_later : u.stretch ≡ t.stretch + 1 → u.slots.items ≡ t.slots.items → facts u ≡ none_known
  unfolding facts
  facts_later n e = (λ i. facts_in (slot_at (e i)) (n i)) ∙ later_at (slot_at t.slots.items) t.stretch t.past
