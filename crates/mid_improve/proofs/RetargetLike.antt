-- Nodes whose targets are moved at once are like the nodes.
use Rattle.std.proofs.Common.{◌≡◌, ℕ, zero, suc, ◌<◌, Bool, true, false, cond, eqb, List, [], ◌∷◌, length, Option, Some, None, refl, sym, subst, arith}
use Rattle.std.proofs.lemmas.Bool.{eqb-true, eq-eqb}
use Rattle.mid_code.specs.Code.{OpT, ConstO, NullO, MoveO, OneO, TwoO, GlobalO, LocalO, LiteralO, CardO, StepO, ApartO, PtrTestO, LoadO, StoreO, FreshO, EndO, InO, OutO, WaitO, HaltO, target, NodesT, Stop, Do, Call, Choose, Block, Loop, Leave, Again, Return, CodeT}
use Rattle.mid_code.specs.Invariants.{IsLoop, AreNodes}
use Rattle.mid_code.specs.States.{temporaries, over_worlds}
use Rattle.mid_code.specs.inner.Passing.{Pass, Points, end_at, begin_at, Like}
use Rattle.mid_improve.specs.inner.Retarget.{landing, lands as landed, Turn, turn_of, op_retargeted, op_turn, retargeted}
use Rattle.mid_improve.proofs.RetargetPass.{LandsAt, here, there, Lands, Turns, lands, turns, retargeting}

-- ---- points

abbrev points : List Bool → List (Points Turn)
points [] = []
points (b ∷ bs) = record { begins = None; ends = None } ∷ points bs

end_in : (bs : List Bool) (k : ℕ) → k < length bs → end_at (points bs) k None
end_in [] k h = absurd (omega (arith, h))
end_in (b ∷ bs) zero h = refl
end_in (b ∷ bs) (suc k) h = end_in bs k (omega (arith, h))

begin_in : (bs : List Bool) (k : ℕ) → IsLoop bs k → begin_at (points bs) k None
begin_in [] k h = absurd h
begin_in (b ∷ bs) zero h = refl
begin_in (b ∷ bs) (suc k) h = begin_in bs k h

-- ---- what stands behind an operation whose target lands elsewhere

-- the move of the target
abbrev pub IsMove : ℕ × ℕ → OpT ℕ → Type 0
IsMove p (MoveO x a) = (x ≡ p.1) × (a ≡ p.0)
IsMove p o = ⊥

abbrev pub Begins : ℕ × ℕ → NodesT ℕ → Type 0
Begins p (Do o c) = IsMove p o
Begins p c = ⊥

abbrev pub Ready : Turn → NodesT ℕ → Type 0
Ready None c = Unit {0}
Ready (Some p) c = Begins p c

at_itself : (t : ℕ) (c : NodesT ℕ) → Ready (turn_of (Some t) (Some t)) c
at_itself t c = subst (λ b. Ready (cond b None (Some (t, t))) c) (sym (eq-eqb t t refl)) tt

move_ready : (t x a : ℕ) (c : NodesT ℕ) (b : Bool) → eqb a t ≡ b → Ready (turn_of (Some t) (Some (cond b x t))) (Do (MoveO x a) c)
move_ready t x a c false e = at_itself t (Do (MoveO x a) c)
move_ready t x a c true e = go (eqb x t)
  where
    go : (d : Bool) → Ready (cond d None (Some (t, x))) (Do (MoveO x a) c)
    go true = tt
    go false = (refl, eqb-true a t e)

op_ready : (t : ℕ) (o : OpT ℕ) (c : NodesT ℕ) → Ready (turn_of (Some t) (Some (landing t (Do o c)))) (Do o c)
op_ready t (MoveO x a) c = move_ready t x a c (eqb a t) refl
op_ready t (ConstO q n) c = at_itself t (Do (ConstO q n) c)
op_ready t (NullO q) c = at_itself t (Do (NullO q) c)
op_ready t (OneO o q a) c = at_itself t (Do (OneO o q a) c)
op_ready t (TwoO o q a b) c = at_itself t (Do (TwoO o q a b) c)
op_ready t (GlobalO q n) c = at_itself t (Do (GlobalO q n) c)
op_ready t (LocalO q n) c = at_itself t (Do (LocalO q n) c)
op_ready t (LiteralO q n) c = at_itself t (Do (LiteralO q n) c)
op_ready t (CardO q) c = at_itself t (Do (CardO q) c)
op_ready t (StepO q a b) c = at_itself t (Do (StepO q a b) c)
op_ready t (ApartO q a b) c = at_itself t (Do (ApartO q a b) c)
op_ready t (PtrTestO o q a b) c = at_itself t (Do (PtrTestO o q a b) c)
op_ready t (LoadO q p) c = at_itself t (Do (LoadO q p) c)
op_ready t (StoreO p a) c = at_itself t (Do (StoreO p a) c)
op_ready t (FreshO n) c = at_itself t (Do (FreshO n) c)
op_ready t (EndO n) c = at_itself t (Do (EndO n) c)
op_ready t (InO q port) c = at_itself t (Do (InO q port) c)
op_ready t (OutO port a) c = at_itself t (Do (OutO port a) c)
op_ready t WaitO c = at_itself t (Do WaitO c)
op_ready t HaltO c = at_itself t (Do HaltO c)

pub ready : (t : Option ℕ) (c : NodesT ℕ) → Ready (turn_of t (landed t c)) c
ready None c = tt
ready (Some t) Stop = at_itself t Stop
ready (Some t) (Do o c) = op_ready t o c
ready (Some t) (Call q f args c) = at_itself t (Call q f args c)
ready (Some t) (Choose p a b c) = at_itself t (Choose p a b c)
ready (Some t) (Block b c) = at_itself t (Block b c)
ready (Some t) (Loop b c) = at_itself t (Loop b c)
ready (Some t) (Leave k c) = at_itself t (Leave k c)
ready (Some t) (Again k c) = at_itself t (Again k c)
ready (Some t) (Return p c) = at_itself t (Return p c)

-- where the target lands
lands_at : (t u : ℕ) → LandsAt t u (turn_of (Some t) (Some u))
lands_at t u = go (eqb u t) refl
  where
    go : (b : Bool) → eqb u t ≡ b → LandsAt t u (cond b None (Some (t, u)))
    go true e = here (eqb-true u t e) refl
    go false e = there e refl

lands_so : (t : Option ℕ) (c : NodesT ℕ) → Lands t (landed t c) (turn_of t (landed t c))
lands_so None c = refl
lands_so (Some t) c = lands_at t (landing t c)

-- an operation, where what is before it is so
op_like : (h : Turn) (o : OpT ℕ) (c : NodesT ℕ) → Ready h (Do o c) → Turns h o (op_retargeted h o c ∷ []) (op_turn h o c)
op_like None o c r = lands refl (landed (target o) c) refl (lands_so (target o) c)
op_like (Some v) (MoveO x a) c r = turns v.0 v.1 refl (λ i. MoveO (r.0 i) (r.1 i)) refl refl
op_like (Some v) (ConstO q n) c r = absurd r
op_like (Some v) (NullO q) c r = absurd r
op_like (Some v) (OneO o q a) c r = absurd r
op_like (Some v) (TwoO o q a b) c r = absurd r
op_like (Some v) (GlobalO q n) c r = absurd r
op_like (Some v) (LocalO q n) c r = absurd r
op_like (Some v) (LiteralO q n) c r = absurd r
op_like (Some v) (CardO q) c r = absurd r
op_like (Some v) (StepO q a b) c r = absurd r
op_like (Some v) (ApartO q a b) c r = absurd r
op_like (Some v) (PtrTestO o q a b) c r = absurd r
op_like (Some v) (LoadO q p) c r = absurd r
op_like (Some v) (StoreO p a) c r = absurd r
op_like (Some v) (FreshO n) c r = absurd r
op_like (Some v) (EndO n) c r = absurd r
op_like (Some v) (InO q port) c r = absurd r
op_like (Some v) (OutO port a) c r = absurd r
op_like (Some v) WaitO c r = absurd r
op_like (Some v) HaltO c r = absurd r

pub op_behind : (h : Turn) (o : OpT ℕ) (c : NodesT ℕ) → Ready (op_turn h o c) c
op_behind None o c = ready (target o) c
op_behind (Some v) (MoveO x a) c = tt
op_behind (Some v) (ConstO q n) c = ready (target (ConstO q n)) c
op_behind (Some v) (NullO q) c = ready (target (NullO q)) c
op_behind (Some v) (OneO o q a) c = ready (target (OneO o q a)) c
op_behind (Some v) (TwoO o q a b) c = ready (target (TwoO o q a b)) c
op_behind (Some v) (GlobalO q n) c = ready (target (GlobalO q n)) c
op_behind (Some v) (LocalO q n) c = ready (target (LocalO q n)) c
op_behind (Some v) (LiteralO q n) c = ready (target (LiteralO q n)) c
op_behind (Some v) (CardO q) c = ready (target (CardO q)) c
op_behind (Some v) (StepO q a b) c = ready (target (StepO q a b)) c
op_behind (Some v) (ApartO q a b) c = ready (target (ApartO q a b)) c
op_behind (Some v) (PtrTestO o q a b) c = ready (target (PtrTestO o q a b)) c
op_behind (Some v) (LoadO q p) c = ready (target (LoadO q p)) c
op_behind (Some v) (StoreO p a) c = ready (target (StoreO p a)) c
op_behind (Some v) (FreshO n) c = ready (target (FreshO n)) c
op_behind (Some v) (EndO n) c = ready (target (EndO n)) c
op_behind (Some v) (InO q port) c = ready (target (InO q port)) c
op_behind (Some v) (OutO port a) c = ready (target (OutO port a)) c
op_behind (Some v) WaitO c = ready (target WaitO) c
op_behind (Some v) HaltO c = ready (target HaltO) c

-- a turn is over where something else stands than an operation
pub none_else : (h : Turn) (c : NodesT ℕ) → Ready h c → ((p : ℕ × ℕ) → Begins p c → ⊥) → h ≡ None
none_else None c r n = refl
none_else (Some p) c r n = absurd (n p r)

module _ (x y : CodeT ℕ) (frames : List ℕ) where
  abbrev PP : Pass (over_worlds temporaries x frames) (over_worlds temporaries y frames)
  PP = retargeting x y frames

  module _ (m : ℕ) (f : Option ℕ) where
    like_from : (bs : List Bool) (c : NodesT ℕ) (h : Turn) → Ready h c → AreNodes x m bs c → Like PP f (points bs) h c (retargeted h c) None
    like_from bs Stop h r n = (refl, none_else h Stop r (λ p e. e))
    like_from bs (Do o c) h r n = (op_retargeted h o c ∷ [], retargeted (op_turn h o c) c, op_turn h o c, refl, op_like h o c r, like_from bs c (op_turn h o c) (op_behind h o c) n.1)
    like_from bs (Call t g args c) h r n =
        (landed t c, args, retargeted (turn_of t (landed t c)) c, turn_of t (landed t c), refl, refl, (refl, none_else h (Call t g args c) r (λ p e. e), lands_so t c), like_from bs c (turn_of t (landed t c)) (ready t c) n.1)
    like_from bs (Choose p a b c) h r n =
        let e = none_else h (Choose p a b c) r (λ p e. e) in
        (p, retargeted None a, retargeted None b, retargeted None c, None, refl, (refl, e), None, None, e, e, like_from bs a None tt n.0, like_from bs b None tt n.1, like_from bs c None tt n.2)
    like_from bs (Block b c) h r n =
        subst (λ i. Like PP f (points bs) i (Block b c) (retargeted i (Block b c)) None) (sym (none_else h (Block b c) r (λ p e. e)))
        (retargeted None b, retargeted None c, None, None, refl, like_from (false ∷ bs) b None tt n.0, like_from bs c None tt n.1)
    like_from bs (Loop b c) h r n =
        subst (λ i. Like PP f (points bs) i (Loop b c) (retargeted i (Loop b c)) None) (sym (none_else h (Loop b c) r (λ p e. e)))
        (retargeted None b, retargeted None c, None, None, refl, refl, like_from (true ∷ bs) b None tt n.0, like_from bs c None tt n.1)
    like_from bs (Leave k c) h r n =
        subst (λ i. Like PP f (points bs) i (Leave k c) (retargeted i (Leave k c)) None) (sym (none_else h (Leave k c) r (λ p e. e))) (retargeted None c, None, refl, end_in bs k n.0, refl)
    like_from bs (Again k c) h r n =
        subst (λ i. Like PP f (points bs) i (Again k c) (retargeted i (Again k c)) None) (sym (none_else h (Again k c) r (λ p e. e))) (retargeted None c, None, refl, begin_in bs k n.0, refl)
    like_from bs (Return p c) h r n = (p, retargeted None c, refl, (refl, none_else h (Return p c) r (λ p e. e)))

    pub like : (c : NodesT ℕ) → AreNodes x m [] c → Like PP f [] None c (retargeted None c) None
    like c n = like_from [] c None tt n
