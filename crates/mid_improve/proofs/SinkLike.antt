-- Nodes that a walk has gone through are like the nodes.
use Rattle.std.proofs.Common.{◌≡◌, ℕ, zero, suc, ◌<◌, Bool, true, false, cond, List, [], ◌∷◌, ◌++◌, length, Option, None, refl, ap, ◌∙◌, subst, arith}
use Rattle.mid_code.specs.Code.{OpT, NodesT, Stop, Do, Call, Choose, Block, Loop, Leave, Again, Return, CodeT}
use Rattle.mid_code.specs.Invariants.{IsLoop, AreNodes}
use Rattle.mid_code.specs.States.{temporaries, over_worlds}
use Rattle.mid_code.specs.inner.Passing.{doing, Pass, Points, end_at, begin_at, Like}
use Rattle.mid_improve.specs.declared.sinking.Walk.{Walk}
use Rattle.mid_improve.specs.inner.Sinking.{Held, held_ops, ops_at, held_behind, sunk}
use Rattle.mid_improve.proofs.SinkPass.{sinking}

-- nothing is held where a block or loop begins anew, and where it ends
abbrev points : List Bool → List (Points Held)
points [] = []
points (b ∷ bs) = record { begins = None; ends = None } ∷ points bs

end_in : (bs : List Bool) (k : ℕ) → k < length bs → end_at (points bs) k None
end_in [] k h = absurd (omega (arith, h))
end_in (b ∷ bs) zero h = refl
end_in (b ∷ bs) (suc k) h = end_in bs k (omega (arith, h))

begin_in : (bs : List Bool) (k : ℕ) → IsLoop bs k → begin_at (points bs) k None
begin_in [] k h = absurd h
begin_in (b ∷ bs) zero h = refl
begin_in (b ∷ bs) (suc k) h = begin_in bs k h

-- whether nodes begin with something else than an operation: what is held is done before
abbrev is_end : NodesT ℕ → Bool
is_end (Do o c) = false
is_end Stop = true
is_end (Call t f args c) = true
is_end (Choose p a b c) = true
is_end (Block b c) = true
is_end (Loop b c) = true
is_end (Leave k c) = true
is_end (Again k c) = true
is_end (Return p c) = true

abbrev still_if : Bool → Held → Held
still_if true h = None
still_if false h = h

abbrev still : NodesT ℕ → Held → Held
still c h = still_if (is_end c) h

none_still : (b : Bool) → still_if b None ≡ None
none_still true = refl
none_still false = refl

still_none : (c : NodesT ℕ) → still c None ≡ None
still_none c = none_still (is_end c)

still_cond : (b : Bool) (h : Held) → still_if b h ≡ cond b None h
still_cond true h = refl
still_cond false h = refl

doing_both : (ps qs : List (OpT ℕ)) (c : NodesT ℕ) → doing ps (doing qs c) ≡ doing (ps ++ qs) c
doing_both [] qs c = refl
doing_both (p ∷ ps) qs c = ap (Do p) (doing_both ps qs c)

apart : (W : Walk) (c : NodesT ℕ) (h : Held) → sunk W h c ≡ doing (cond (is_end c) (held_ops h) []) (sunk W (still c h) c)
apart W Stop h = refl
apart W (Do o c) h = refl
apart W (Call t f args c) h = refl
apart W (Choose p a b c) h = refl
apart W (Block b c) h = refl
apart W (Loop b c) h = refl
apart W (Leave k c) h = refl
apart W (Again k c) h = refl
apart W (Return p c) h = refl

module _ (W : Walk) (x y : CodeT ℕ) (frames : List ℕ) where
  abbrev PP : Pass (over_worlds temporaries x frames) (over_worlds temporaries y frames)
  PP = sinking W x y frames

  module _ (m : ℕ) (f : Option ℕ) where
    -- from a beginning where nothing is held
    begun : (bs : List Bool) (c : NodesT ℕ) → Like PP f (points bs) (still c None) c (sunk W (still c None) c) None → Like PP f (points bs) None c (sunk W None c) None
    begun bs c l = subst (λ i. Like PP f (points bs) i c (sunk W i c) None) (still_none c) l

    like_from : (bs : List Bool) (c : NodesT ℕ) (h : Held) → AreNodes x m bs c → Like PP f (points bs) (still c h) c (sunk W (still c h) c) None
    like_from bs Stop h n = (refl, refl)
    like_from bs (Do o c) h n =
        let k = held_behind W h o in
        let l = is_end c in
        (ops_at W h o ++ cond l (held_ops k) [], sunk W (still c k) c, still c k, ap (doing (ops_at W h o)) (apart W c k) ∙ doing_both (ops_at W h o) (cond l (held_ops k) []) (sunk W (still c k) c), (l, refl, still_cond l k), like_from bs c k n.1)
    like_from bs (Call t g args c) h n = (t, args, sunk W None c, None, refl, refl, (refl, refl, refl, refl), begun bs c (like_from bs c None n.1))
    like_from bs (Choose p a b c) h n =
        (p, sunk W None a, sunk W None b, sunk W None c, None, refl, (refl, refl), None, None, refl, refl, begun bs a (like_from bs a None n.0), begun bs b (like_from bs b None n.1), begun bs c (like_from bs c None n.2))
    like_from bs (Block b c) h n = (sunk W None b, sunk W None c, None, None, refl, begun (false ∷ bs) b (like_from (false ∷ bs) b None n.0), begun bs c (like_from bs c None n.1))
    like_from bs (Loop b c) h n = (sunk W None b, sunk W None c, None, None, refl, refl, begun (true ∷ bs) b (like_from (true ∷ bs) b None n.0), begun bs c (like_from bs c None n.1))
    like_from bs (Leave k c) h n = (sunk W None c, None, refl, end_in bs k n.0, refl)
    like_from bs (Again k c) h n = (sunk W None c, None, refl, begin_in bs k n.0, refl)
    like_from bs (Return p c) h n = (p, sunk W None c, refl, (refl, refl))

    pub like : (c : NodesT ℕ) → AreNodes x m [] c → Like PP f [] None c (sunk W None c) None
    like c n = begun [] c (like_from [] c None n)
