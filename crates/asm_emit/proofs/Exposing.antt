-- Whether a register is live before an operation in memory, and whether it is exposed.
use Rattle.std.proofs.Common.{◌≡◌, ℕ, zero, suc, ◌-◌, ◌<◌, Bool, true, false, cond, List, Option, Some, None, refl, sym, ap, ◌∙◌, arith}
use Rattle.std.specs.Prelude.{◌==◌, ◌&&◌, ◌||◌, not, get_or}
use Rattle.std.proofs.lemmas.Bool.Decides.{nat_tests}
use Rattle.mid_code.specs.declared.placed.Where.{Where}
use Rattle.mid_code.specs.declared.node.Op.{Op}
use Rattle.mid_code.specs.declared.node.Op.TheVariants as op
use Rattle.mid_code.specs.Code.{NodesT, Stop, Do, OpT, ConstO, NullO, MoveO, OneO, TwoO, GlobalO, LocalO, LiteralO, CardO, StepO, ApartO, PtrTestO, LoadO, StoreO, FreshO, EndO, InO, OutO, WaitO, HaltO, maybe}
use Rattle.mid_code.specs.Functions.{op_before, NodeT, DoN, ChooseN, BlockN, LoopN, LeaveN, AgainN, ReturnN, before, joined}
use Rattle.mid_code.specs.Operands.{op_uses, op_target}
use Rattle.asm_laws.specs.declared.copying.Copying.{Copying}
use Rattle.asm_laws.specs.Copies.{lead, copy_of}
use Rattle.asm_laws.specs.Asks.{ask_of}
use Rattle.asm_laws.specs.Live.{is_read, is_put, is_among, copy_reads, live_at_copy, live_at_loop, live_soon, leads_by, exposed, lasts}
use Rattle.asm_emit.specs.inner.Listed.{is_call, led_asked}
use Rattle.asm_emit.specs.inner.Lasting.{told, told_by_copy, told_by_loop, told_by_op, inward}

-- ---- live registers

-- what is known where a node tells, or those behind it do
abbrev pub told_or : Option Bool → (other : Bool) → Bool
told_or None other = other
told_or (Some b) other = b

abbrev Tells : Bool → Bool → Bool → Bool → Bool
Tells call read put behind = told_or (cond read (Some true) (cond (call || put) (Some false) None)) behind

plain_told : (read put behind : Bool) → read || (not put && behind) ≡ Tells false read put behind
plain_told true put behind = refl
plain_told false true behind = refl
plain_told false false behind = refl

call_told : (read put behind : Bool) → read ≡ Tells true read put behind
call_told true put behind = refl
call_told false put behind = refl

one : (n : ℕ) (h : List Bool) (o : OpT Where) (c : NodesT Where) (r : ℕ) → live_soon (suc n) h (Do o c) r ≡ Tells false (is_read o r) (is_put o r) (live_soon n h c r)
one n h o c r = plain_told (is_read o r) (is_put o r) (live_soon n h c r)

op_told : (n : ℕ) (h : List Bool) (o : Op Where) (c : NodesT Where) (r : ℕ) → live_soon (suc n) h (op_before o c) r ≡ told_or (told_by_op o r) (live_soon n h c r)
op_told n h (op.Const t word) c r = one n h (ConstO t word) c r
op_told n h (op.Null t) c r = one n h (NullO t) c r
op_told n h (op.Move t a) c r = one n h (MoveO t a) c r
op_told n h (op.One o t a) c r = one n h (OneO o t a) c r
op_told n h (op.Two o t a b) c r = one n h (TwoO o t a b) c r
op_told n h (op.Global t j) c r = one n h (GlobalO t j) c r
op_told n h (op.Local t j) c r = one n h (LocalO t j) c r
op_told n h (op.Literal t j) c r = one n h (LiteralO t j) c r
op_told n h (op.Card t) c r = one n h (CardO t) c r
op_told n h (op.Step t p s) c r = one n h (StepO t p s) c r
op_told n h (op.Apart t p q) c r = one n h (ApartO t p q) c r
op_told n h (op.PtrTest o t p q) c r = one n h (PtrTestO o t p q) c r
op_told n h (op.Load t p) c r = one n h (LoadO t p) c r
op_told n h (op.Store p a) c r = one n h (StoreO p a) c r
op_told n h (op.Fresh j) c r = one n h (FreshO j) c r
op_told n h (op.End j) c r = one n h (EndO j) c r
op_told n h (op.Call t f args) c r = call_told (is_among args r) (is_among (maybe t) r) (live_soon n h c r)
op_told n h (op.In t p) c r = one n h (InO t p) c r
op_told n h (op.Out p a) c r = one n h (OutO p a) c r
op_told n h op.Wait c r = one n h WaitO c r
op_told n h op.Halt c r = one n h HaltO c r

by_one : (n : ℕ) (h : List Bool) (x : NodeT Where) (c : NodesT Where) (r : ℕ) → live_soon (suc n) h (before x c) r ≡ told_or (told h x r) (live_soon n h (inward x c) r)
by_one n h (DoN o) c r = op_told n h o c r
by_one n h (ChooseN p a b) c r = refl
by_one n h (BlockN b) c r = refl
by_one n h (LoopN b) c r = whole (ask_of (joined b))
  where
    asked : (put behind : Bool) → not put && behind ≡ told_or (cond put (Some false) None) behind
    asked true behind = refl
    asked false behind = refl

    copied : (reads put behind : Bool) → reads || (not put && behind) ≡ told_or (cond reads (Some true) (cond put (Some false) None)) behind
    copied true put behind = refl
    copied false true behind = refl
    copied false false behind = refl

    first : (lt : Bool) (y : Option Copying) → lt || live_at_copy y r (live_soon n h c r) ≡ told_or (cond lt (Some true) (told_by_copy y r)) (live_soon n h c r)
    first true y = refl
    first false None = refl
    first false (Some y) = copied (copy_reads y r) (r == y.cell) (live_soon n h c r)

    whole : (a : Option ℕ) → live_at_loop a r (live_soon n h c r) (lasts h r || live_at_copy (copy_of (joined b)) r (live_soon n h c r)) ≡
        told_or (told_by_loop a r (cond (lasts h r) (Some true) (told_by_copy (copy_of (joined b)) r))) (live_soon n h c r)
    whole None = first (lasts h r) (copy_of (joined b))
    whole (Some f) = asked (r == f) (live_soon n h c r)
by_one n h (LeaveN k) c r = refl
by_one n h (AgainN k) c r = refl
by_one n h (ReturnN p) c r = refl

soon_by : (n : ℕ) (h : List Bool) (x : NodeT Where) (c : NodesT Where) (r : ℕ) → 0 < n → live_soon n h (before x c) r ≡ told_or (told h x r) (live_soon (n - 1) h (inward x c) r)
soon_by zero h x c r lt = absurd (omega (arith, lt))
soon_by (suc n) h x c r lt = let e : n ≡ suc n - 1 = omega arith in by_one n h x c r ∙ ap (λ m. told_or (told h x r) (live_soon m h (inward x c) r)) e

pub soon_on : (n : ℕ) (h : List Bool) (x : NodeT Where) (c : NodesT Where) (r : ℕ) → 0 < n → told h x r ≡ None → live_soon (n - 1) h (inward x c) r ≡ live_soon n h (before x c) r
soon_on n h x c r lt e = sym (soon_by n h x c r lt ∙ ap (λ t. told_or t (live_soon (n - 1) h (inward x c) r)) e)

pub soon_told : (n : ℕ) (h : List Bool) (x : NodeT Where) (c : NodesT Where) (r : ℕ) (b : Bool) → 0 < n → told h x r ≡ Some b → live_soon n h (before x c) r ≡ b
soon_told n h x c r b lt e = soon_by n h x c r lt ∙ ap (λ t. told_or t (live_soon (n - 1) h (inward x c) r)) e

pub soon_over : (n : ℕ) (h : List Bool) (r : ℕ) → 0 < n → live_soon n h Stop r ≡ get_or h r true
soon_over zero h r lt = absurd (omega (arith, lt))
soon_over (suc n) h r lt = refl

-- what is asked for behind a loop, where an operation comes before it
pub led_op : (h : List Bool) (o : Op Where) (c : NodesT Where) (r : ℕ) → led_asked h (op_before o c) r ≡ cond (is_call o) true (led_asked h c r)
unfolding led_asked
led_op h (op.Const t word) c r = refl
led_op h (op.Null t) c r = refl
led_op h (op.Move t a) c r = refl
led_op h (op.One o t a) c r = refl
led_op h (op.Two o t a b) c r = refl
led_op h (op.Global t j) c r = refl
led_op h (op.Local t j) c r = refl
led_op h (op.Literal t j) c r = refl
led_op h (op.Card t) c r = refl
led_op h (op.Step t p s) c r = refl
led_op h (op.Apart t p q) c r = refl
led_op h (op.PtrTest o t p q) c r = refl
led_op h (op.Load t p) c r = refl
led_op h (op.Store p a) c r = refl
led_op h (op.Fresh j) c r = refl
led_op h (op.End j) c r = refl
led_op h (op.Call t f args) c r = refl
led_op h (op.In t p) c r = refl
led_op h (op.Out p a) c r = refl
led_op h op.Wait c r = refl
led_op h op.Halt c r = refl

-- ---- registers that last

abbrev Stays : Bool → OpT Where → NodesT Where → ℕ → ℕ → Bool
Stays u o c k r = (u && is_read o r) || exposed (u && not (is_put o r)) c (cond (k == 0) (leads_by (lead (Do o c))) (k - 1)) r

one_exposed : (u : Bool) (o : OpT Where) (c : NodesT Where) (k r : ℕ) → exposed u (Do o c) k r ≡ Stays u o c k r
one_exposed u o c zero r = refl
one_exposed u o c (suc k) r =
    let on : suc k - 1 ≡ k = omega arith in
    let some : (suc k == 0) ≡ false = grind (arith, nat_tests) in
    ap (λ j. (u && is_read o r) || exposed (u && not (is_put o r)) c j r) (sym on)
    ∙ ap (λ b. (u && is_read o r) || exposed (u && not (is_put o r)) c (cond b (leads_by (lead (Do o c))) (suc k - 1)) r) (sym some)

-- what is exposed where an operation or a call stands first
pub op_exposed : (u : Bool) (o : Op Where) (c : NodesT Where) (k r : ℕ) →
    exposed u (op_before o c) k r ≡ (u && is_among (op_uses o) r) || cond (is_call o) (exposed false c 0 r) (exposed (u && not (is_among (maybe (op_target o)) r)) c (cond (k == 0) (leads_by (lead (op_before o c))) (k - 1)) r)
op_exposed u (op.Const t word) c k r = one_exposed u (ConstO t word) c k r
op_exposed u (op.Null t) c k r = one_exposed u (NullO t) c k r
op_exposed u (op.Move t a) c k r = one_exposed u (MoveO t a) c k r
op_exposed u (op.One o t a) c k r = one_exposed u (OneO o t a) c k r
op_exposed u (op.Two o t a b) c k r = one_exposed u (TwoO o t a b) c k r
op_exposed u (op.Global t j) c k r = one_exposed u (GlobalO t j) c k r
op_exposed u (op.Local t j) c k r = one_exposed u (LocalO t j) c k r
op_exposed u (op.Literal t j) c k r = one_exposed u (LiteralO t j) c k r
op_exposed u (op.Card t) c k r = one_exposed u (CardO t) c k r
op_exposed u (op.Step t p s) c k r = one_exposed u (StepO t p s) c k r
op_exposed u (op.Apart t p q) c k r = one_exposed u (ApartO t p q) c k r
op_exposed u (op.PtrTest o t p q) c k r = one_exposed u (PtrTestO o t p q) c k r
op_exposed u (op.Load t p) c k r = one_exposed u (LoadO t p) c k r
op_exposed u (op.Store p a) c k r = one_exposed u (StoreO p a) c k r
op_exposed u (op.Fresh j) c k r = one_exposed u (FreshO j) c k r
op_exposed u (op.End j) c k r = one_exposed u (EndO j) c k r
op_exposed u (op.Call t f args) c k r = refl
op_exposed u (op.In t p) c k r = one_exposed u (InO t p) c k r
op_exposed u (op.Out p a) c k r = one_exposed u (OutO p a) c k r
op_exposed u op.Wait c k r = one_exposed u WaitO c k r
op_exposed u op.Halt c k r = one_exposed u HaltO c k r
