-- Registers that last from one stretch of nodes to the next: those that are live where a stretch begins are among the first ones, so many.
use Rattle.std.proofs.Common.{List, ◌≡◌, ℕ, zero, suc, ◌<◌, ◌⊎◌, inl, inr, Bool, true, false, cond, Option, Some, None, refl, sym, ap, ◌∙◌, subst, arith}
use Rattle.std.specs.Prelude.{◌==◌, ◌&&◌, ◌||◌, not, is_some}
use Rattle.mid_code.specs.declared.placed.Where.{Where}
use Rattle.mid_code.specs.Code.{maybe, NodesT, Stop, Do, Call, Choose, Block, Loop, Leave, Again, Return, OpT}
use Rattle.asm_laws.specs.declared.copying.Copying.{Copying}
use Rattle.asm_laws.specs.Copies.{copy_of, copy_at, lead}
use Rattle.asm_laws.specs.Operations.{Frame, Whole, led_more, group_more}
use Rattle.asm_laws.specs.Asks.{ask_of, is_flag, is_unread}
use Rattle.asm_laws.proofs.Asks.{none_at, live_other, unread_leads}
use Rattle.asm_laws.specs.Live.{live_at_loop, is_place, is_among, is_read, is_put, copy_reads, live, live_at_copy, leads_by, copied_reads, lasts, exposed, copies, addresses, exposed_registers, all_last, lasting_registers, Lasts}
use Rattle.asm_laws.proofs.KnownWords.{AreOps, one_is}
use Rattle.asm_laws.proofs.LiveParts.{or_first, or_second}

either : (p q : Bool) → p || q ≡ true → (p ≡ true) ⊎ (q ≡ true)
either true q e = inl refl
either false q e = inr e

both : (p q : Bool) → p && q ≡ true → (p ≡ true) × (q ≡ true)
both true q e = (refl, e)
both false q e = absurd cc

off : (p : Bool) → not p ≡ true → p ≡ false
off false e = refl
off true e = absurd cc

-- ---- what is live is exposed, or among the first ones

abbrev Told : (h : List Bool) → NodesT Where → (k r : ℕ) → Type 0
Told h c k r = (lasts h r ≡ true) ⊎ (exposed true c k r ≡ true)

further : (h : List Bool) (c : NodesT Where) (k r : ℕ) (b : Bool) → Told h c k r → (lasts h r ≡ true) ⊎ (b || exposed true c k r ≡ true)
further h c k r b (inl e) = inl e
further h c k r b (inr e) = inr (or_second b (exposed true c k r) e)

live_told : (h : List Bool) (c : NodesT Where) (k r : ℕ) → live h c r ≡ true → Told h c k r
live_told h Stop k r e = inl e
live_told h (Do o c) zero r e = elim (either (is_read o r) (not (is_put o r) && live h c r) e) [
  | inl p ↦ inr (or_first (is_read o r) _ p)
  | inr p ↦
      let q = both (not (is_put o r)) (live h c r) p in
      subst (λ b. (lasts h r ≡ true) ⊎ (is_read o r || exposed b c (leads_by (lead (Do o c))) r ≡ true)) (sym q.0) (further h c (leads_by (lead (Do o c))) r (is_read o r) (live_told h c (leads_by (lead (Do o c))) r q.1))
]
live_told h (Do o c) (suc k) r e = elim (either (is_read o r) (not (is_put o r) && live h c r) e) [
  | inl p ↦ inr (or_first (is_read o r) _ p)
  | inr p ↦
      let q = both (not (is_put o r)) (live h c r) p in
      subst (λ b. (lasts h r ≡ true) ⊎ (is_read o r || exposed b c k r ≡ true)) (sym q.0) (further h c k r (is_read o r) (live_told h c k r q.1))
]
live_told h (Call t f args c) k r e = inr (or_first (is_among args r) _ e)
live_told h (Choose p a b c) k r e = elim (either (is_place p r) (live h a r || live h b r) e) [
  | inl q ↦ inr (or_first (is_place p r) _ q)
  | inr q ↦ elim (either (live h a r) (live h b r) q) [
    | inl i ↦ elim (live_told h a zero r i) [ inl j ↦ inl j | inr j ↦ inr (or_second (is_place p r) _ (or_first (exposed true a zero r) _ j)) ]
    | inr i ↦ elim (live_told h b zero r i) [ inl j ↦ inl j | inr j ↦ inr (or_second (is_place p r) _ (or_second (exposed true a zero r) _ (or_first (exposed true b zero r) _ j))) ]
  ]
]
live_told h (Block b c) k r e = elim (live_told h b zero r e) [ inl j ↦ inl j | inr j ↦ inr (or_first (exposed true b zero r) _ j) ]
live_told h (Loop b c) k r e = whole (ask_of b) e (live_told h c zero r)
  where
    go : (y : Option Copying) (x : Bool) → live_at_copy y r (live h c r) ≡ true → (live h c r ≡ true → Told h c zero r) →
        (lasts h r ≡ true) ⊎ (cond x (copied_reads y r || exposed true c 0 r) (copied_reads y r || (exposed true b 0 r || exposed true c 0 r)) ≡ true)
    go None x q f = absurd cc
    go (Some y) x q f = elim (either (copy_reads y r) (not (r == y.cell) && live h c r) q) [
      | inl p ↦ inr (first x p)
      | inr p ↦ elim (f (both (not (r == y.cell)) (live h c r) p).1) [ inl j ↦ inl j | inr j ↦ inr (second x j) ]
    ]
      where
        first : (x : Bool) → copy_reads y r ≡ true → cond x (copy_reads y r || exposed true c 0 r) (copy_reads y r || (exposed true b 0 r || exposed true c 0 r)) ≡ true
        first true p = or_first (copy_reads y r) _ p
        first false p = or_first (copy_reads y r) _ p

        second : (x : Bool) → exposed true c 0 r ≡ true → cond x (copy_reads y r || exposed true c 0 r) (copy_reads y r || (exposed true b 0 r || exposed true c 0 r)) ≡ true
        second true p = or_second (copy_reads y r) _ p
        second false p = or_second (copy_reads y r) _ (or_second (exposed true b 0 r) _ p)

    whole : (a : Option ℕ) → live_at_loop a r (live h c r) (lasts h r || live_at_copy (copy_of b) r (live h c r)) ≡ true → (live h c r ≡ true → Told h c zero r) →
        (lasts h r ≡ true) ⊎ (cond (is_some a) (exposed (not (is_flag a r)) c 0 r) (cond (is_some (copy_at k b)) (copied_reads (copy_of b) r || exposed true c 0 r) (copied_reads (copy_of b) r || (exposed true b 0 r || exposed true c 0 r))) ≡ true)
    whole None q f = elim (either (lasts h r) (live_at_copy (copy_of b) r (live h c r)) q) [
      | inl j ↦ inl j
      | inr j ↦ go (copy_of b) (is_some (copy_at k b)) j f
    ]
    whole (Some a) q f =
        let j = both (not (r == a)) (live h c r) q in
        subst (λ z. (lasts h r ≡ true) ⊎ (exposed z c 0 r ≡ true)) (sym j.0) (f j.1)
live_told h (Leave k c) j r e = inl e
live_told h (Again k c) j r e = inl e
live_told h (Return p c) k r e = inr (or_first (is_among (maybe p) r) (exposed true c 0 r) e)

-- ---- nodes whose exposed registers are among the first ones

-- where a stretch begins
pub opened : (h : List Bool) (c : NodesT Where) → Lasts h (λ i. true) c zero → (r : ℕ) → r < 9 → live h c r ≡ true → lasts h r ≡ true
opened h c l r lt e = elim (live_told h c zero r e) [ inl q ↦ q | inr q ↦ l r lt q ]

-- where a loop begins that is not done by a block move
pub turned : (h : List Bool) (b : NodesT Where) → ask_of b ≡ None → ((r : ℕ) → r < 9 → copied_reads (copy_of b) r ≡ true → lasts h r ≡ true) → (r : ℕ) → r < 9 → live h (Loop b Stop) r ≡ true → lasts h r ≡ true
turned h b none l r lt e = elim (either (lasts h r) (live_at_copy (copy_of b) r (lasts h r)) (sym (live_other h b Stop r none) ∙ e)) [ inl q ↦ q | inr q ↦ go (copy_of b) (l r lt) q ]
  where
    go : (y : Option Copying) → (copied_reads y r ≡ true → lasts h r ≡ true) → live_at_copy y r (lasts h r) ≡ true → lasts h r ≡ true
    go None f q = absurd cc
    go (Some y) f q = elim (either (copy_reads y r) (not (r == y.cell) && lasts h r) q) [ inl p ↦ f p | inr p ↦ (both (not (r == y.cell)) (lasts h r) p).1 ]

-- what is done with an operation in one go is no loop that is led to
ops_exposed : (o : Bool) (k : ℕ) (c : NodesT Where) (r : ℕ) → AreOps k c → exposed o c k r ≡ exposed o c zero r
ops_exposed o zero c r h = refl
ops_exposed o (suc k) (Do p c) r h =
    (λ i. (o && is_read p r) || ops_exposed (o && not (is_put p r)) k c r h.1 i) ∙ ap (λ n. (o && is_read p r) || exposed (o && not (is_put p r)) c (leads_by n) r) (sym h.0)
ops_exposed o (suc k) Stop r h = absurd h
ops_exposed o (suc k) (Call t f args c) r h = absurd h
ops_exposed o (suc k) (Choose p a b c) r h = absurd h
ops_exposed o (suc k) (Block b c) r h = absurd h
ops_exposed o (suc k) (Loop b c) r h = absurd h
ops_exposed o (suc k) (Leave j c) r h = absurd h
ops_exposed o (suc k) (Again j c) r h = absurd h
ops_exposed o (suc k) (Return p c) r h = absurd h

-- what comes behind an operation and those that are done with it
pub group_lasts : (h : List Bool) (W : Whole) (F : Frame) (o : ℕ → Bool) (p : OpT Where) (c : NodesT Where) → Lasts h o (Do p c) zero → Lasts h (λ r. o r && not (is_put p r)) c (group_more W F p c)
group_lasts h W F o p c l r lt e = l r lt (or_second (o r && is_read p r) _ (whole (is_unread (Do p c)) refl e))
  where
    go : (x : Option (ℕ × Copying)) → lead (Do p c) ≡ x → exposed (o r && not (is_put p r)) c (led_more W F p c x) r ≡ true → exposed (o r && not (is_put p r)) c (leads_by (lead (Do p c))) r ≡ true
    go None q i = ap (λ n. exposed (o r && not (is_put p r)) c (leads_by n) r) q ∙ sym (ops_exposed (o r && not (is_put p r)) _ c r (one_is W F p c)) ∙ i
    go (Some (k, y)) q i = ap (λ n. exposed (o r && not (is_put p r)) c (leads_by n) r) q ∙ i

    whole : (b : Bool) → is_unread (Do p c) ≡ b → exposed (o r && not (is_put p r)) c (cond b 0 (led_more W F p c (lead (Do p c)))) r ≡ true → exposed (o r && not (is_put p r)) c (leads_by (lead (Do p c))) r ≡ true
    whole true q i = ap (λ x. exposed (o r && not (is_put p r)) c (leads_by x) r) (unread_leads p c q) ∙ i
    whole false q i = go (lead (Do p c)) refl i

-- what comes behind a loop, and what is inside of one that is not done by a block move
module _ (h : List Bool) (o : ℕ → Bool) (b c : NodesT Where) (k : ℕ) (l : Lasts h o (Loop b c) k) where
  abbrev Own : Option ℕ → Bool → ℕ → Type 0
  Own a x r = cond (is_some a) (exposed (o r && not (is_flag a r)) c 0 r) (cond x ((o r && copied_reads (copy_of b) r) || exposed (o r) c 0 r) (copied_reads (copy_of b) r || (exposed true b 0 r || exposed true c 0 r))) ≡ true

  own : (a : Option ℕ) (x : Bool) → ask_of b ≡ a → is_some (copy_at k b) ≡ x → (r : ℕ) → r < 9 → Own a x r → lasts h r ≡ true
  own a x q i r lt e = l r lt (subst (λ z. Own z (is_some (copy_at k b)) r) (sym q) (subst (λ z. Own a z r) (sym i) e))

  pub ask_lasts : (f : ℕ) → ask_of b ≡ Some f → Lasts h (λ r. o r && not (r == f)) c zero
  ask_lasts f q r lt e = own (Some f) (is_some (copy_at k b)) q refl r lt e

  pub copied_lasts : (y : Copying) → copy_at k b ≡ Some y → Lasts h o c zero
  copied_lasts y q r lt e = own None true (none_at k b y q) (ap is_some q) r lt (or_second (o r && copied_reads (copy_of b) r) (exposed (o r) c 0 r) e)

  plain_lasts : (ask_of b ≡ None) × (copy_at k b ≡ None) → (r : ℕ) → r < 9 → copied_reads (copy_of b) r || (exposed true b 0 r || exposed true c 0 r) ≡ true → lasts h r ≡ true
  plain_lasts q r lt e = own None false q.0 (ap is_some q.1) r lt e

  pub turns_last : (ask_of b ≡ None) × (copy_at k b ≡ None) → (r : ℕ) → r < 9 → copied_reads (copy_of b) r ≡ true → lasts h r ≡ true
  turns_last q r lt e = plain_lasts q r lt (or_first (copied_reads (copy_of b) r) _ e)

  pub body_last : (ask_of b ≡ None) × (copy_at k b ≡ None) → Lasts h (λ i. true) b zero
  body_last q r lt e = plain_lasts q r lt (or_second (copied_reads (copy_of b) r) _ (or_first (exposed true b 0 r) (exposed true c 0 r) e))

  pub rest_last : (ask_of b ≡ None) × (copy_at k b ≡ None) → Lasts h (λ i. true) c zero
  rest_last q r lt e = plain_lasts q r lt (or_second (copied_reads (copy_of b) r) _ (or_second (exposed true b 0 r) (exposed true c 0 r) e))

-- ---- bodies

exposed_lasts : (body : NodesT Where) (r : ℕ) → r < 9 → exposed false body zero r ≡ true → lasts (exposed_registers body) r ≡ true
exposed_lasts body zero lt e = e
exposed_lasts body (suc zero) lt e = e
exposed_lasts body (suc (suc zero)) lt e = e
exposed_lasts body (suc (suc (suc zero))) lt e = e
exposed_lasts body (suc (suc (suc (suc zero)))) lt e = e
exposed_lasts body (suc (suc (suc (suc (suc zero))))) lt e = e
exposed_lasts body (suc (suc (suc (suc (suc (suc zero)))))) lt e = e
exposed_lasts body (suc (suc (suc (suc (suc (suc (suc zero))))))) lt e = e
exposed_lasts body (suc (suc (suc (suc (suc (suc (suc (suc zero)))))))) lt e = e
exposed_lasts body (suc (suc (suc (suc (suc (suc (suc (suc (suc r))))))))) lt e = absurd (omega (arith, lt))

pub every_lasts : (r : ℕ) → r < 9 → lasts all_last r ≡ true
every_lasts zero lt = refl
every_lasts (suc zero) lt = refl
every_lasts (suc (suc zero)) lt = refl
every_lasts (suc (suc (suc zero))) lt = refl
every_lasts (suc (suc (suc (suc zero)))) lt = refl
every_lasts (suc (suc (suc (suc (suc zero))))) lt = refl
every_lasts (suc (suc (suc (suc (suc (suc zero)))))) lt = refl
every_lasts (suc (suc (suc (suc (suc (suc (suc zero))))))) lt = refl
every_lasts (suc (suc (suc (suc (suc (suc (suc (suc zero)))))))) lt = refl
every_lasts (suc (suc (suc (suc (suc (suc (suc (suc (suc r))))))))) lt = absurd (omega (arith, lt))

pub body_lasts : (body : NodesT Where) → Lasts (lasting_registers body) (λ r. false) body zero
unfolding lasting_registers
body_lasts body r lt e = go (copies body || addresses body)
  where
    go : (b : Bool) → lasts (cond b (exposed_registers body) all_last) r ≡ true
    go true = exposed_lasts body r lt e
    go false = every_lasts r lt
