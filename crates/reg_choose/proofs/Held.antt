-- What stands anywhere is named below the count of temporaries.
use Rattle.std.proofs.Common.{ℕ, suc, ◌+◌, ◌<◌, inl, inr, List, [], ◌∷◌}
use Rattle.mid_code.specs.Code.{NodesT, Stop, Do, Call, Choose, Block, Loop, Leave, Again, Return, FunctionT, node_uses, node_target, maybe}
use Rattle.mid_code.specs.Invariants.{AllOf, Names}
use Rattle.mid_code.specs.Paths.{Frame, Branched, Blocked, Looped}
use Rattle.mid_code.specs.Spans.{places, Stands, StandsAt, HeldAt}
use Rattle.mid_code.proofs.Liveness.{path_computed}
use Rattle.reg_choose.proofs.Exact.{Under, among_under, FramesUnder, none_under, at_under, block_under, branch_under, loop_under}

module _ (n x : ℕ) where
  -- at a node that names what is below n
  here : (fs : List (Frame ℕ)) (c : NodesT ℕ) → FramesUnder n fs → Names (Under n) c → AllOf (Under n) (node_uses c) → AllOf (Under n) (maybe (node_target c)) → Stands x fs c → x < n
  here fs c g m u t s = elim s [ inl e ↦ among_under n (node_uses c) x u e | inr k ↦ elim k [ inl e ↦ among_under n (maybe (node_target c)) x t e | inr l ↦ at_under n fs c x g m (path_computed x fs c l) ] ]

  pub stands_under : (fs : List (Frame ℕ)) (c : NodesT ℕ) (k p : ℕ) → FramesUnder n fs → Names (Under n) c → StandsAt x fs c k p → x < n
  stands_under fs Stop k p g m s = absurd s
  stands_under fs (Do o c) k p g m s = elim s [ inl a ↦ here fs (Do o c) g m m.0.0 m.0.1 a.1 | inr r ↦ stands_under fs c (suc k) p g m.1 r ]
  stands_under fs (Call t f args c) k p g m s = elim s [ inl a ↦ here fs (Call t f args c) g m m.0.0 m.0.1 a.1 | inr r ↦ stands_under fs c (suc k) p g m.1 r ]
  stands_under fs (Choose q a b c) k p g m s = elim s [
    | inl h ↦ here fs (Choose q a b c) g m m.0.0 m.0.1 h.1
    | inr r ↦ elim r [
      | inl h ↦ stands_under (Branched c ∷ fs) a (suc k) p (branch_under n fs c g m.3) m.1 h
      | inr u ↦ elim u [
        | inl h ↦ stands_under (Branched c ∷ fs) b (suc (places a + k)) p (branch_under n fs c g m.3) m.2 h
        | inr h ↦ stands_under fs c (suc (places a + (places b + k))) p g m.3 h
      ]
    ]
  ]
  stands_under fs (Block b c) k p g m s = elim s [
    | inl h ↦ here fs (Block b c) g m tt tt h.1
    | inr r ↦ elim r [
      | inl h ↦ stands_under (Blocked c ∷ fs) b (suc k) p (block_under n fs c g m.1) m.0 h
      | inr h ↦ stands_under fs c (suc (places b + k)) p g m.1 h
    ]
  ]
  stands_under fs (Loop b c) k p g m s = elim s [
    | inl h ↦ here fs (Loop b c) g m tt tt h.1
    | inr r ↦ elim r [
      | inl h ↦ stands_under (Looped b c ∷ fs) b (suc k) p (loop_under n fs b c g m.0 m.1) m.0 h
      | inr h ↦ stands_under fs c (suc (places b + k)) p g m.1 h
    ]
  ]
  stands_under fs (Leave q c) k p g m s = elim s [ inl a ↦ here fs (Leave q c) g m tt tt a.1 | inr r ↦ stands_under fs c (suc k) p g m r ]
  stands_under fs (Again q c) k p g m s = elim s [ inl a ↦ here fs (Again q c) g m tt tt a.1 | inr r ↦ stands_under fs c (suc k) p g m r ]
  stands_under fs (Return q c) k p g m s = elim s [ inl a ↦ here fs (Return q c) g m m.0.0 m.0.1 a.1 | inr r ↦ stands_under fs c (suc k) p g m.1 r ]

pub held_under : (f : FunctionT ℕ) (x p : ℕ) → Names (Under f.temps) f.body → AllOf (Under f.temps) f.params → HeldAt f x p → x < f.temps
held_under f x p m a h = elim h [ inl e ↦ among_under f.temps f.params x a e.1 | inr s ↦ stands_under f.temps x [] f.body 1 p (none_under f.temps) m s ]
