-- Operators whose word is given back right behind them.
use Rattle.std.proofs.Common.{◌≡◌, ℕ, zero, suc, ◌⊎◌, inl, inr, Bool, true, false, cond, Option, Some, None, refl, sym, ap, subst}
use Rattle.std.specs.Prelude.{◌&&◌}
use Rattle.v32_isa.specs.declared.instruction.Two.{Two as TwoOf}
use Rattle.mid_code.specs.declared.placed.Where.{Where}
use Rattle.mid_code.specs.Placed.{is_same_place}
use Rattle.mid_code.specs.Code.{NodesT, Do, Return, OpT, TwoO}
use Rattle.asm_laws.specs.declared.made.Made.{Made}
use Rattle.asm_laws.specs.declared.made.Made.TheVariants.{Both, Known}
use Rattle.asm_laws.specs.Spare.{operand}
use Rattle.asm_laws.specs.declared.copying.Copying.{Copying}
use Rattle.asm_laws.specs.Copies.{lead}
use Rattle.asm_laws.specs.Asks.{is_unread}
use Rattle.asm_laws.specs.Operations.{Frame, Whole, word_put, is_spared, in_one, more_of, led_more, group_more, given_first, made_both, made_known, made_with, first_made, made_of}
use Rattle.asm_laws.specs.inner.Emitted.{is_tested}
use Rattle.asm_laws.proofs.Leads.{puts_elim, lead_is}
use Rattle.asm_laws.proofs.KnownWords.{AreOps, one_is}

-- ---- an operator's two words, or one and a known one

pub record IsBoth (o : OpT Where) (c : NodesT Where) (k : ℕ) (y : Made) : Type 0 where
  pub operator : TwoOf
  pub target : Where
  pub first : Where
  pub second : Where
  pub place : Where
  pub behind : NodesT Where
  pub op : o ≡ TwoO operator target first second
  pub nodes : c ≡ Return (Some place) behind
  pub same : is_same_place place target ≡ true
  pub count : k ≡ 1
  pub is : y ≡ Both operator first second

pub record IsKnown (W : Whole) (F : Frame) (o : OpT Where) (c : NodesT Where) (k : ℕ) (y : Made) : Type 0 where
  pub register : ℕ
  pub word : ℕ
  pub operator : TwoOf
  pub target : Where
  pub first : Where
  pub second : Where
  pub place : Where
  pub behind : NodesT Where
  pub with : TwoOf
  pub other : Where
  pub put : word_put W o ≡ Some (register, word)
  pub spared : is_spared F (Some (register, word)) ≡ true
  pub nodes : c ≡ Do (TwoO operator target first second) (Return (Some place) behind)
  pub works : operand operator first second ≡ Some (with, other)
  pub same : is_same_place place target ≡ true
  pub count : k ≡ 2
  pub is : y ≡ Known with other word

both : (p q : Bool) → p && q ≡ true → (p ≡ true) × (q ≡ true)
both true true e = (refl, refl)
both true false e = absurd cc
both false q e = absurd cc

abbrev Is : Option (ℕ × Made) → ℕ → Made → Type 0
Is x k y = x ≡ Some (k, y)

abbrev first_of : Option (ℕ × Made) → ℕ
first_of None = 0
first_of (Some (k, y)) = k

abbrev second_of : Made → Option (ℕ × Made) → Made
second_of z None = z
second_of z (Some (k, y)) = y

is_both : (o : OpT Where) (c : NodesT Where) (k : ℕ) (y : Made) → made_both o (given_first c) ≡ Some (k, y) → IsBoth o c k y
is_both (TwoO u t a b) (Return (Some p) c) k y e = go (is_same_place p t) refl e
  where
    go : (same : Bool) → is_same_place p t ≡ same → Is (cond same (Some (1, Both u a b)) None) k y → IsBoth (TwoO u t a b) (Return (Some p) c) k y
    go true same e =
        record { operator = u; target = t; first = a; second = b; place = p; behind = c; op = refl; nodes = refl; same = same; count = sym (ap first_of e); is = sym (ap (second_of y) e) }
    go false same e = absurd cc
is_both _ _ k y e = absurd cc

-- what is known of the parts
record Parts (F : Frame) (p t : Where) (s : Option (ℕ × ℕ)) (x : Option (TwoOf × Where)) (k : ℕ) (y : Made) : Type 0 where
  register : ℕ
  word : ℕ
  with : TwoOf
  other : Where
  put : s ≡ Some (register, word)
  spared : is_spared F (Some (register, word)) ≡ true
  works : x ≡ Some (with, other)
  same : is_same_place p t ≡ true
  count : k ≡ 2
  is : y ≡ Known with other word

known_parts : (F : Frame) (p t : Where) (s : Option (ℕ × ℕ)) (x : Option (TwoOf × Where)) (k : ℕ) (y : Made) → made_known F (Some p) t s x ≡ Some (k, y) → Parts F p t s x k y
known_parts F p t (Some (r, w)) (Some (u, q)) k y e = go (is_spared F (Some (r, w)) && is_same_place p t) refl e
  where
    go : (b : Bool) → is_spared F (Some (r, w)) && is_same_place p t ≡ b → Is (cond b (Some (2, Known u q w)) None) k y → Parts F p t (Some (r, w)) (Some (u, q)) k y
    go true so e =
        let d = both (is_spared F (Some (r, w))) (is_same_place p t) so in
        record { register = r; word = w; with = u; other = q; put = refl; spared = d.0; works = refl; same = d.1; count = sym (ap first_of e); is = sym (ap (second_of y) e) }
    go false so e = absurd cc
known_parts F p t _ _ k y e = absurd cc

module _ (W : Whole) (F : Frame) where
  is_known : (o : OpT Where) (c : NodesT Where) (k : ℕ) (y : Made) → made_with F (word_put W o) c ≡ Some (k, y) → IsKnown W F o c k y
  is_known o (Do (TwoO u t a b) (Return (Some p) c)) k y e =
      let r = known_parts F p t (word_put W o) (operand u a b) k y e in
      record { register = r.register; word = r.word; operator = u; target = t; first = a; second = b; place = p; behind = c; with = r.with; other = r.other; put = r.put; spared = r.spared; nodes = refl; works = r.works; same = r.same; count = r.count; is = r.is }
  is_known o _ k y e = absurd cc

  either : (x z : Option (ℕ × Made)) (k : ℕ) (y : Made) → first_made x z ≡ Some (k, y) → (x ≡ Some (k, y)) ⊎ (z ≡ Some (k, y))
  either None z k y e = inr e
  either (Some x) z k y e = inl e

  pub made_is : (o : OpT Where) (c : NodesT Where) (k : ℕ) (y : Made) → made_of W F o c ≡ Some (k, y) → IsBoth o c k y ⊎ IsKnown W F o c k y
  unfolding made_of
  made_is o c k y e = elim (either (made_both o (given_first c)) (made_with F (word_put W o) c) k y e) [
    | inl x ↦ inl (is_both o c k y x)
    | inr x ↦ inr (is_known o c k y x)
  ]

-- ---- how many nodes are done

-- a result is the last of these, and the others are operations
abbrev pub Gives : ℕ → NodesT Where → Type 0
Gives zero c = ⊥
Gives (suc k) (Do o c) = Gives k c
Gives (suc k) (Return w c) = Unit {0}
Gives (suc k) _ = ⊥

pub made_gives : (W : Whole) (F : Frame) (o : OpT Where) (c : NodesT Where) (k : ℕ) (y : Made) → made_of W F o c ≡ Some (k, y) → Gives k c
made_gives W F o c k y e = elim (made_is W F o c k y e) [
  | inl x ↦ subst (λ d. Gives k d) (sym x.nodes) (subst (λ j. Gives j (Return (Some x.place) x.behind)) (sym x.count) tt)
  | inr x ↦ subst (λ d. Gives k d) (sym x.nodes) (subst (λ j. Gives j (Do (TwoO x.operator x.target x.first x.second) (Return (Some x.place) x.behind))) (sym x.count) tt)
]

-- no such nodes are a test
pub not_tested : (c : NodesT Where) (k : ℕ) → Gives k c → is_tested c ≡ true → ⊥
not_tested (Do o c) (suc k) g e = not_tested c k g e
not_tested (Return w c) (suc k) g e = cc
not_tested _ zero g e = g
not_tested _ (suc k) g e = g

-- none of these is a result
abbrev pub NoResult : ℕ → NodesT Where → Type 0
NoResult zero c = Unit {0}
NoResult (suc k) (Do o c) = NoResult k c
NoResult (suc k) (Return w c) = ⊥
NoResult (suc k) _ = Unit {0}

ops_none : (k : ℕ) (c : NodesT Where) → AreOps k c → NoResult k c
ops_none zero c h = tt
ops_none (suc k) (Do o c) h = ops_none k c h.1
ops_none (suc k) _ h = absurd h

pub group_none : (W : Whole) (F : Frame) (o : OpT Where) (c : NodesT Where) → NoResult (group_more W F o c) c
group_none W F o c = whole (is_unread (Do o c)) (go (lead (Do o c)) refl)
  where
    whole : (b : Bool) → NoResult (led_more W F o c (lead (Do o c))) c → NoResult (cond b 0 (led_more W F o c (lead (Do o c)))) c
    whole true h = tt
    whole false h = h

    go : (x : Option (ℕ × Copying)) → lead (Do o c) ≡ x → NoResult (led_more W F o c x) c
    go None e = ops_none (more_of (in_one W F o c)) c (one_is W F o c)
    go (Some (k, y)) e = let l = lead_is (Do o c) k y e in puts_elim (λ d j y. NoResult (suc j) d) (λ b d y q. tt) (λ o r d j y p q h. h) (Do o c) k y l.puts
