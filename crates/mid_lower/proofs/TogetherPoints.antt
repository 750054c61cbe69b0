-- As a path reaches a point of a statement, so a path reaches a point of its code, and makes the same locals on the way.
use Rattle.std.proofs.Common.{◌≡◌, ℕ, ◌+◌, inl, inr, List, [], ◌∷◌, ◌++◌, length, sym, subst}
use Rattle.c_types.specs.Types.{Ty}
use Rattle.c_types.specs.Typed.{TStmtT, BlockZ, EmptyZ, VarsZ, DoZ, IfZ, WhileZ, DoWhileZ, ForZ, SwitchZ, ReturnZ, BreakZ, ContinueZ, MaybeZ, NoneZ, SomeZ, TStmtTs, NoZ, MoreZ, CaseB, DefaultB, StmtB, TArmTs, NoB, MoreB}
use Rattle.c_meaning.specs.Frames.{Onward, Reaches, ReachesOther, ReachesAll, ReachesArms, ReachesFrom}
use Rattle.mid_code.specs.Code.{Stop, Again}
use Rattle.mid_code.specs.Paths.{Branched, Blocked, Point, at}
use Rattle.lower_trees.specs.Shape.{Shape}
use Rattle.lower_trees.specs.Pieces.{Nodes, coded, Piece}
use Rattle.lower_trees.specs.Expressions.{second, beyond}
use Rattle.lower_trees.specs.Statements.{Jump, ToEnd, ToTurn, further, low_stmt, low_other, low_stmts, low_arms, low_group}
use Rattle.lower_trees.specs.Counts.{maybe_temps, maybe_sizes, stmt_temps, stmt_sizes, other_temps, other_sizes}
use Rattle.mid_lower.proofs.TogetherPaths.{Frames, here, doing, first_way, second_way, into_block, into_loop, way_ends, Reaching, none_made, led, all_made}
use Rattle.mid_lower.proofs.TogetherExpressions.{low_value_passes, low_test_passes}
use Rattle.mid_lower.proofs.TogetherWays.{into_turn, for_frames, switch_leads, stmt_way, other_way}

none : (ks : List ℕ) (p : Point ℕ) → ks ≡ [] → Reaching ks p
none ks p e = subst (λ xs. Reaching xs p) (sym e) (none_made p)

same : (ks js : List ℕ) (p : Point ℕ) → ks ≡ js → Reaching js p → Reaching ks p
same ks js p e h = subst (λ xs. Reaching xs p) (sym e) h

mutual
  stmt_reaches : (h : Shape) (ty : Ty) (a : TStmtT) (ks : List ℕ) (n m b : ℕ) (j : Jump) (c : Nodes) (fs : Frames) → Reaches a ks → Reaching ks (at fs (coded (low_stmt h ty a n m b j) c))
  stmt_reaches h ty (BlockZ made body) ks n m b j c fs r = same ks (made ++ r.0) _ r.1 (all_made made r.0 fs _ (stmts_reaches h ty body r.0 n m b j c fs r.2))
  stmt_reaches h ty EmptyZ ks n m b j c fs r = none ks _ r
  stmt_reaches h ty (VarsZ vars) ks n m b j c fs r = none ks _ r
  stmt_reaches h ty (DoZ x) ks n m b j c fs r = none ks _ r
  stmt_reaches h ty (IfZ x a rest) ks n m b j c fs r = elim r [
    | inl e ↦ none ks _ e
    | inr s ↦ elim s [
      | inl u ↦ led ks _ _ (low_test_passes h x n (n + 1) m _ fs _ (first_way (here _))) (stmt_reaches h ty a ks (second x n) (beyond h x m) b j Stop (Branched c ∷ fs) u)
      | inr u ↦ led ks _ _ (low_test_passes h x n (n + 1) m _ fs _ (second_way (here _))) (other_reaches h ty rest ks (second x n + stmt_temps a) (beyond h x m + length (stmt_sizes h a)) b j Stop (Branched c ∷ fs) u)
    ]
  ]
  stmt_reaches h ty (WhileZ x a) ks n m b j c fs r = elim r [
    | inl e ↦ none ks _ e
    | inr s ↦ led ks _ _ (into_loop (low_test_passes h x n (n + 1) m _ _ _ (first_way (here _)))) (stmt_reaches h ty a ks (second x n) (beyond h x m) 0 (ToTurn 0) (Again 0 Stop) _ s)
  ]
  stmt_reaches h ty (DoWhileZ a x) ks n m b j c fs r = elim r [
    | inl e ↦ none ks _ e
    | inr s ↦ led ks _ _ (into_loop (into_block (here _))) (stmt_reaches h ty a ks n m 1 (ToEnd 0) Stop _ s)
  ]
  stmt_reaches h ty (ForZ made first test step a) ks n m b j c fs r =
      let body : (u v : ℕ) → Piece = λ u v. low_stmt h ty a u v 1 (ToEnd 0) in
      same ks (made ++ r.0) _ r.1 (all_made made r.0 fs _ (elim r.2 [
        | inl e ↦ none r.0 _ e
        | inr s ↦ elim s [
          | inl u ↦ other_reaches h ty first r.0 n m b j _ fs u
          | inr u ↦ led r.0 _ _ (other_way h ty Onward first n m b j _ fs _ u.0 (into_turn h test step a body (n + other_temps first) (m + length (other_sizes h first)) c fs _ (here _)))
              (stmt_reaches h ty a r.0 (n + other_temps first + maybe_temps test) (m + length (other_sizes h first) + length (maybe_sizes h test)) 1 (ToEnd 0) Stop
              (for_frames h test step a body (n + other_temps first) (m + length (other_sizes h first)) c fs) u.1)
        ]
      ]))
  stmt_reaches h ty (SwitchZ x made arms) ks n m b j c fs r =
      led ks _ _ (low_value_passes h x n (n + 1) m _ fs _ (into_block (switch_leads made arms n m _ fs _ (here _))))
      (same ks (made ++ r.0) _ r.1 (all_made made r.0 fs _ (elim r.2 [
        | inl e ↦ none r.0 _ e
        | inr s ↦ led r.0 _ _ (into_block (here _)) (from_reaches h ty n arms r.0 (second x n) (beyond h x m) 0 (further j) (Blocked c ∷ fs) s)
      ])))
  stmt_reaches h ty (ReturnZ e) ks n m b j c fs r = none ks _ r
  stmt_reaches h ty BreakZ ks n m b j c fs r = none ks _ r
  stmt_reaches h ty ContinueZ ks n m b j c fs r = none ks _ r

  other_reaches : (h : Shape) (ty : Ty) (a : MaybeZ) (ks : List ℕ) (n m b : ℕ) (j : Jump) (c : Nodes) (fs : Frames) → ReachesOther a ks → Reaching ks (at fs (coded (low_other h ty a n m b j) c))
  other_reaches h ty NoneZ ks n m b j c fs r = none ks _ r
  other_reaches h ty (SomeZ a) ks n m b j c fs r = stmt_reaches h ty a ks n m b j c fs r

  pub stmts_reaches : (h : Shape) (ty : Ty) (all : TStmtTs) (ks : List ℕ) (n m b : ℕ) (j : Jump) (c : Nodes) (fs : Frames) → ReachesAll all ks → Reaching ks (at fs (coded (low_stmts h ty all n m b j) c))
  stmts_reaches h ty NoZ ks n m b j c fs r = none ks _ r
  stmts_reaches h ty (MoreZ a rest) ks n m b j c fs r = elim r [
    | inl s ↦ stmt_reaches h ty a ks n m b j _ fs s
    | inr s ↦ led ks _ _ (stmt_way h ty Onward a n m b j _ fs _ s.0 (here _)) (stmts_reaches h ty rest ks (n + stmt_temps a) (m + length (stmt_sizes h a)) b j c fs s.1)
  ]

  -- from inside a group on
  arms_reach : (h : Shape) (ty : Ty) (t : ℕ) (arms : TArmTs) (ks : List ℕ) (n m b : ℕ) (j : Jump) (fs : Frames) → ReachesArms arms ks → Reaching ks (at (Branched (coded (low_arms h ty t arms n m b j) Stop) ∷ fs) (coded (low_group h ty arms n m b j) Stop))
  arms_reach h ty t NoB ks n m b j fs r = none ks _ r
  arms_reach h ty t (MoreB (CaseB label) rest) ks n m b j fs r = elim r [
    | inl e ↦ none ks _ e
    | inr s ↦ led ks _ _ (way_ends (second_way (here _))) (arms_reach h ty t rest ks n m b j fs s.1)
  ]
  arms_reach h ty t (MoreB DefaultB rest) ks n m b j fs r = elim r [
    | inl e ↦ none ks _ e
    | inr s ↦ led ks _ _ (way_ends (second_way (here _))) (arms_reach h ty t rest ks n m b j fs s.1)
  ]
  arms_reach h ty t (MoreB (StmtB a) rest) ks n m b j fs r = elim r [
    | inl s ↦ stmt_reaches h ty a ks n m b j _ _ s
    | inr s ↦ led ks _ _ (stmt_way h ty Onward a n m b j _ _ _ s.0 (here _)) (arms_reach h ty t rest ks (n + stmt_temps a) (m + length (stmt_sizes h a)) b j fs s.1)
  ]

  -- from one of the labels on
  from_reaches : (h : Shape) (ty : Ty) (t : ℕ) (arms : TArmTs) (ks : List ℕ) (n m b : ℕ) (j : Jump) (fs : Frames) → ReachesFrom arms ks → Reaching ks (at fs (coded (low_arms h ty t arms n m b j) Stop))
  from_reaches h ty t NoB ks n m b j fs r = absurd r
  from_reaches h ty t (MoreB (CaseB label) rest) ks n m b j fs r = elim r [
    | inl s ↦ led ks _ _ (second_way (here _)) (arms_reach h ty t rest ks n m b j fs s.1)
    | inr s ↦ led ks _ _ (first_way (doing tt (way_ends (here _)))) (from_reaches h ty t rest ks n m b j fs s)
  ]
  from_reaches h ty t (MoreB DefaultB rest) ks n m b j fs r = elim r [
    | inl s ↦ led ks _ _ (second_way (here _)) (arms_reach h ty t rest ks n m b j fs s.1)
    | inr s ↦ led ks _ _ (first_way (doing tt (way_ends (here _)))) (from_reaches h ty t rest ks n m b j fs s)
  ]
  from_reaches h ty t (MoreB (StmtB a) rest) ks n m b j fs r = elim r [
    | inl s ↦ absurd s.0
    | inr s ↦ from_reaches h ty t rest ks (n + stmt_temps a) (m + length (stmt_sizes h a)) b j fs s
  ]
