-- Loops that only ask for one more turn, as they are recognised.
use Rattle.std.proofs.Common.{◌≡◌, ℕ, zero, suc, ◌<◌, List, Bool, true, false, cond, Option, Some, None, refl, sym, ap, ◌∙◌, subst, arith}
use Rattle.std.specs.Prelude.{◌==◌, ◌&&◌, ◌||◌, not, nat_lt}
use Rattle.std.proofs.lemmas.Bool.{eqb-true}
use Rattle.std.proofs.lemmas.Bool.Decides.{nat_tests}
use Rattle.mid_code.specs.declared.placed.Where.{Where}
use Rattle.mid_code.specs.declared.placed.Where.TheVariants.{Reg, Slot}
use Rattle.mid_code.specs.Code.{target, maybe, NodesT, Stop, Do, Call, Choose, Block, Loop, Leave, Again, Return, OpT, ConstO, NullO, MoveO, OneO, TwoO, GlobalO, LocalO, LiteralO, CardO, StepO, ApartO, PtrTestO, LoadO, StoreO, FreshO, EndO, InO, OutO, WaitO, HaltO}
use Rattle.asm_laws.specs.declared.copying.Copying.{Copying}
use Rattle.asm_laws.specs.Copies.{ends_here, turns_here, copy_of, copy_after, copy_at, lead, leads}
use Rattle.asm_laws.specs.Asks.{clears, is_ask, ask_of, is_flag, asks_soon, is_unread}
use Rattle.asm_laws.specs.Spare.{used_by, puts, count, group}
use Rattle.asm_laws.specs.Live.{is_among, lasts, live, live_at_loop, live_at_copy}

both : (p q : Bool) → p && q ≡ true → (p ≡ true) × (q ≡ true)
both true q e = (refl, e)
both false q e = absurd cc

-- a turn of such a loop
abbrev pub ask_turn : ℕ → NodesT Where
ask_turn f = Choose (Reg f) (Do (ConstO (Reg f) 0) (Again zero Stop)) Stop Stop

ends_is : (c : NodesT Where) → ends_here c ≡ true → c ≡ Stop
ends_is Stop e = refl
ends_is (Do o c) e = absurd cc
ends_is (Call t g args c) e = absurd cc
ends_is (Choose p a b c) e = absurd cc
ends_is (Block b c) e = absurd cc
ends_is (Loop b c) e = absurd cc
ends_is (Leave k c) e = absurd cc
ends_is (Again k c) e = absurd cc
ends_is (Return p c) e = absurd cc

turns_is : (c : NodesT Where) → turns_here c ≡ true → c ≡ Again zero Stop
turns_is (Again zero c) e = ap (Again zero) (ends_is c e)
turns_is (Again (suc k) c) e = absurd (omega (arith, eqb-true (suc k) 0 (both (suc k == 0) (ends_here c) e).0))
turns_is Stop e = absurd cc
turns_is (Do o c) e = absurd cc
turns_is (Call t g args c) e = absurd cc
turns_is (Choose p a b c) e = absurd cc
turns_is (Block b c) e = absurd cc
turns_is (Loop b c) e = absurd cc
turns_is (Leave k c) e = absurd cc
turns_is (Return p c) e = absurd cc

clears_is : (f : ℕ) (c : NodesT Where) → clears f c ≡ true → c ≡ Do (ConstO (Reg f) 0) (Again zero Stop)
clears_is f (Do (ConstO (Reg t) n) c) e =
    let q = both (t == f) ((n == 0) && turns_here c) e in
    let r = both (n == 0) (turns_here c) q.1 in
    (λ i. Do (ConstO (Reg (eqb-true t f q.0 i)) (eqb-true n 0 r.0 i)) (turns_is c r.1 i))
clears_is f (Do (ConstO (Slot k) n) c) e = absurd cc
clears_is f (Do _ c) e = absurd cc
clears_is f Stop e = absurd cc
clears_is f (Call t g args c) e = absurd cc
clears_is f (Choose p a b c) e = absurd cc
clears_is f (Block b c) e = absurd cc
clears_is f (Loop b c) e = absurd cc
clears_is f (Leave k c) e = absurd cc
clears_is f (Again k c) e = absurd cc
clears_is f (Return p c) e = absurd cc

below_nine : (f : ℕ) → nat_lt f 9 ≡ true → f < 9
below_nine f e = grind (arith, nat_tests)

-- such a loop is recognised by its turn alone
pub ask_is : (b : NodesT Where) (f : ℕ) → ask_of b ≡ Some f → (b ≡ ask_turn f) × (f < 9)
unfolding ask_of
ask_is (Choose (Reg g) a b c) f e = go (is_ask g a b c) refl e
  where
    go : (x : Bool) → is_ask g a b c ≡ x → cond x (Some g) None ≡ Some f → (Choose (Reg g) a b c ≡ ask_turn f) × (f < 9)
    go true i q =
        let h = both (nat_lt g 9) (clears g a && (ends_here b && ends_here c)) i in
        let j = both (clears g a) (ends_here b && ends_here c) h.1 in
        let k = both (ends_here b) (ends_here c) j.1 in
        let w : g ≡ f = cc in
        subst (λ z. (Choose (Reg g) a b c ≡ ask_turn z) × (z < 9)) w ((λ i. Choose (Reg g) (clears_is g a j.0 i) (ends_is b k.0 i) (ends_is c k.1 i)), below_nine g h.0)
    go false i q = absurd cc
ask_is (Choose (Slot k) a b c) f e = absurd cc
ask_is Stop f e = absurd cc
ask_is (Do o c) f e = absurd cc
ask_is (Call t g args c) f e = absurd cc
ask_is (Block b c) f e = absurd cc
ask_is (Loop b c) f e = absurd cc
ask_is (Leave k c) f e = absurd cc
ask_is (Again k c) f e = absurd cc
ask_is (Return p c) f e = absurd cc

-- it neither copies words nor fills them
pub copies_none : (b : NodesT Where) (f : ℕ) → ask_of b ≡ Some f → copy_of b ≡ None
unfolding copy_of
copies_none b f e = ap copy_of (ask_is b f e).0

pub no_ask : (b : NodesT Where) (y : Copying) → copy_of b ≡ Some y → ask_of b ≡ None
no_ask b y e = go (ask_of b) refl
  where
    go : (x : Option ℕ) → ask_of b ≡ x → ask_of b ≡ None
    go None q = q
    go (Some f) q = (let n = copies_none b f q in absurd cc)

pub at_none : (k : ℕ) (b : NodesT Where) (f : ℕ) → ask_of b ≡ Some f → copy_at k b ≡ None
at_none zero b f e = refl
at_none (suc k) b f e = copies_none b f e

pub none_at : (k : ℕ) (b : NodesT Where) (y : Copying) → copy_at k b ≡ Some y → ask_of b ≡ None
none_at zero b y e = absurd cc
none_at (suc k) b y e = no_ask b y e

-- ---- what is live before it

pub live_ask : (h : List Bool) (b c : NodesT Where) (f r : ℕ) → ask_of b ≡ Some f → live h (Loop b c) r ≡ not (r == f) && live h c r
live_ask h b c f r e = ap (λ x. live_at_loop x r (live h c r) (lasts h r || live_at_copy (copy_of b) r (live h c r))) e

pub live_other : (h : List Bool) (b c : NodesT Where) (r : ℕ) → ask_of b ≡ None → live h (Loop b c) r ≡ lasts h r || live_at_copy (copy_of b) r (live h c r)
live_other h b c r e = ap (λ x. live_at_loop x r (live h c r) (lasts h r || live_at_copy (copy_of b) r (live h c r))) e

-- ---- an operation before it whose word is not asked for

pub record Unread (o : OpT Where) (c : NodesT Where) : Type 0 where
  pub register : ℕ
  pub word : ℕ
  pub op : o ≡ ConstO (Reg register) word
  pub asks : asks_soon register c ≡ true

pub unread_is : (o : OpT Where) (c : NodesT Where) → is_unread (Do o c) ≡ true → Unread o c
unfolding is_unread
unread_is (ConstO (Reg r) n) c e = record { register = r; word = n; op = refl; asks = e }
unread_is (ConstO (Slot k) n) c e = absurd cc
unread_is (NullO t) c e = absurd cc
unread_is (MoveO t p) c e = absurd cc
unread_is (OneO o t p) c e = absurd cc
unread_is (TwoO o t p q) c e = absurd cc
unread_is (GlobalO t k) c e = absurd cc
unread_is (LocalO t k) c e = absurd cc
unread_is (LiteralO t k) c e = absurd cc
unread_is (CardO t) c e = absurd cc
unread_is (StepO t p n) c e = absurd cc
unread_is (ApartO t p q) c e = absurd cc
unread_is (PtrTestO o t p q) c e = absurd cc
unread_is (LoadO t p) c e = absurd cc
unread_is (StoreO p q) c e = absurd cc
unread_is (FreshO k) c e = absurd cc
unread_is (EndO k) c e = absurd cc
unread_is (InO t port) c e = absurd cc
unread_is (OutO port p) c e = absurd cc
unread_is WaitO c e = absurd cc
unread_is HaltO c e = absurd cc

-- the nodes before such a loop, one after another
soon_elim : (r : ℕ) (P : NodesT Where → Type 0) → ((b c : NodesT Where) (f : ℕ) → ask_of b ≡ Some f → (r == f) ≡ true → P (Loop b c)) → ((q n : ℕ) (c : NodesT Where) → P c → P (Do (ConstO (Reg q) n) c)) →
    (c : NodesT Where) → asks_soon r c ≡ true → P c
unfolding asks_soon
soon_elim r P loop op (Do (ConstO (Reg q) n) c) e = op q n c (soon_elim r P loop op c e)
soon_elim r P loop op (Loop b c) e = go (ask_of b) refl e
  where
    go : (x : Option ℕ) → ask_of b ≡ x → is_flag x r ≡ true → P (Loop b c)
    go None q i = absurd cc
    go (Some f) q i = loop b c f q i
soon_elim r P loop op (Do (ConstO (Slot k) n) c) e = absurd cc
soon_elim r P loop op (Do _ c) e = absurd cc
soon_elim r P loop op Stop e = absurd cc
soon_elim r P loop op (Call t g args c) e = absurd cc
soon_elim r P loop op (Choose p a b c) e = absurd cc
soon_elim r P loop op (Block b c) e = absurd cc
soon_elim r P loop op (Leave k c) e = absurd cc
soon_elim r P loop op (Again k c) e = absurd cc
soon_elim r P loop op (Return p c) e = absurd cc

-- no loop that is done by a block move comes behind it
soon_after : (r : ℕ) (c : NodesT Where) → asks_soon r c ≡ true → copy_after c ≡ None
unfolding copy_after
soon_after r c e = soon_elim r (λ d. copy_after d ≡ None) (λ b d f q i. copies_none b f q) (λ q n d h. h) c e

pub unread_leads : (o : OpT Where) (c : NodesT Where) → is_unread (Do o c) ≡ true → lead (Do o c) ≡ None
unfolding lead
unread_leads o c e =
    let u = unread_is o c e in
    subst (λ p. lead (Do p c) ≡ None) (sym u.op) (ap (leads (Do (ConstO (Reg u.register) u.word) c)) (soon_after u.register c u.asks))

-- nor is it done with one
soon_used : (r : ℕ) (c : NodesT Where) → asks_soon r c ≡ true → used_by c ≡ None
soon_used r c e = soon_elim r (λ d. used_by d ≡ None) (λ b d f q i. refl) (λ q n d h. refl) c e

pub unread_group : (o : OpT Where) (c : NodesT Where) → is_unread (Do o c) ≡ true → group o c ≡ zero
unread_group o c e = go (puts o)
  where
    go : (b : Bool) → cond b (count (used_by c)) 0 ≡ zero
    go true = let u = unread_is o c e in ap count (soon_used u.register c u.asks)
    go false = refl

-- its register is not live behind it
and_none : (b : Bool) → b && false ≡ false
and_none true = refl
and_none false = refl

soon_dead : (h : List Bool) (r : ℕ) (c : NodesT Where) → asks_soon r c ≡ true → live h c r ≡ false
soon_dead h r c e = soon_elim r (λ d. live h d r ≡ false) (λ b d f q i. live_ask h b d f r q ∙ (λ j. not (i j) && live h d r))
    (λ q n d k. (λ j. not (is_among (maybe (target (ConstO (Reg q) n))) r) && k j) ∙ and_none (not (is_among (maybe (target (ConstO (Reg q) n))) r))) c e

pub unread_dead : (h : List Bool) (o : OpT Where) (c : NodesT Where) (u : Unread o c) → live h c u.register ≡ false
unread_dead h o c u = soon_dead h u.register c u.asks
