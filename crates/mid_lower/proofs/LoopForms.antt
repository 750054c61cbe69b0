-- Loops: mid code follows them, where it follows the turns with one less of the bound.
use Rattle.std.proofs.Common.{◌++◌, ◌≡◌, ℕ, ◌+◌, ◌<◌, ◌≤◌, Bool, true, false, length, Option, Some, None, Ok, Err, refl, sym, ◌∙◌, subst, arith}
use Rattle.c_tree.specs.declared.span.Span.{Span}
use Rattle.c_types.specs.Types.{Ty}
use Rattle.c_types.specs.Typed.{TExprT, TStmtT, WhileZ, DoWhileZ}
use Rattle.obj_mem.specs.declared.cell.Cell.{Cell}
use Rattle.obj_mem.specs.declared.refusal.Refusal.TheVariants.{Strays, Faults}
use Rattle.obj_mem.specs.Queries.{Answer}
use Rattle.obj_mem.specs.Worlds.{World}
use Rattle.c_types.specs.Kinds.{is_structure, decayed}
use Rattle.c_meaning.specs.Kinds.{type_of, span_of}
use Rattle.c_meaning.specs.Outcomes.{Val, Value, Place, NoValue, Stops, then_value, either_way, Done, Goes, Continues, Ended, Turn, DoTurn, asked}
use Rattle.c_meaning.specs.Operators.{is_true}
use Rattle.c_meaning.specs.Expressions.{value_of, evaluated, tested, dropped, dropped_value}
use Rattle.c_meaning.specs.Statements.{does, turn, do_turn, step_done, body_done}
use Rattle.mid_code.specs.Code.{NodesT, Stop, Choose, Block, Loop, Again}
use Rattle.mid_code.specs.Meaning.{Res, Next, then_next}
use Rattle.lower_trees.specs.Shape.{Shape, shape_in}
use Rattle.lower_trees.specs.Parts as part
use Rattle.lower_trees.specs.Counts.{maybe_temps, stmt_temps, stmt_sizes, value_sizes, maybe_sizes}
use Rattle.lower_trees.specs.Pieces.{coded}
use Rattle.lower_trees.specs.Expressions.{low_value, low_test, second, beyond}
use Rattle.lower_trees.specs.Statements.{Jump, ToEnd, ToTurn, low_stmt}
use Rattle.lower_trees.specs.Statements as low
use Rattle.mid_lower.proofs.Grows.{Mid}
use Rattle.mid_lower.proofs.Trees.{PlainStep, PlainDropped, PlainValue, PlainMaybe, PlainStmt}
use Rattle.mid_lower.proofs.Fits.{Site}
use Rattle.mid_lower.proofs.Giving.{Giving, giving}
use Rattle.mid_lower.proofs.Room.{Room, room_at, room_first, room_second}
use Rattle.mid_lower.proofs.Following.{M_grows, base_of, Fit, Side, mk, Goal, Now, Way, paid, paid_now, less_now, spare, above_free, M}
use Rattle.mid_lower.proofs.Values.{Follow, drops}
use Rattle.mid_lower.proofs.Choices.{tests, chooses}
use Rattle.mid_lower.proofs.Calling.{BodiesFollow}
use Rattle.mid_lower.proofs.EveryExpression.{expr_sim, value_sim}
use Rattle.mid_lower.proofs.StructureUses.{value_dropped}
use Rattle.mid_lower.proofs.Outcomes.{AtPlace, HasPlace, SimD, way_d, stmt, turning, more_for, keep_more, more_now, inner, loop_end, inner_is, through, turns, blocks, way_loop, loops}
use Rattle.mid_lower.proofs.Locals.{HomeOf}

-- what is known of the bound that is one less
pub record Earlier (S : Site) : Type 0 where
  pub called : BodiesFollow S
  pub while_turn : (r : Cell) (ty : Ty) (own : ℕ) (e : TExprT) (a : TStmtT) (n m b : ℕ) (j : Jump) (w : World) (x : Side) → Fit w x → AtPlace ty r x.temps → HomeOf S.s S.code S.frames ty w.store.function own → length w.store.locals ≡ own → PlainValue (shape_in S.s) e → PlainStmt (shape_in S.s) own ty a → part.result_at < n → Room S (base_of w x) m (value_sizes (shape_in S.s) e ++ stmt_sizes (shape_in S.s) a)
      → SimD (giving ty r) (turning n w x) b j (λ t. Next t) (S.prev (Turn r (Some e) None a) w) (S.prev' (coded (low_stmt (shape_in S.s) ty (WhileZ e a) n m 0 (ToEnd 0)) Stop) (mk w x))
  pub do_turn : (r : Cell) (ty : Ty) (own : ℕ) (e : TExprT) (a : TStmtT) (n m b : ℕ) (j : Jump) (w : World) (x : Side) → Fit w x → AtPlace ty r x.temps → HomeOf S.s S.code S.frames ty w.store.function own → length w.store.locals ≡ own → PlainValue (shape_in S.s) e → PlainStmt (shape_in S.s) own ty a → part.result_at < n → Room S (base_of w x) m (stmt_sizes (shape_in S.s) a ++ value_sizes (shape_in S.s) e)
      → SimD (giving ty r) (turning n w x) b j (λ t. Next t) (S.prev (DoTurn r a e) w) (S.prev' (coded (low_stmt (shape_in S.s) ty (DoWhileZ a e) n m 0 (ToEnd 0)) Stop) (mk w x))
  pub for_turn : (r : Cell) (ty : Ty) (own : ℕ) (test step : Option TExprT) (a : TStmtT) (n m b : ℕ) (j : Jump) (w : World) (x : Side) → Fit w x → AtPlace ty r x.temps → HomeOf S.s S.code S.frames ty w.store.function own → length w.store.locals ≡ own → PlainMaybe (shape_in S.s) test → PlainStep (shape_in S.s) step → PlainStmt (shape_in S.s) own ty a → part.result_at < n → Room S (base_of w x) m (maybe_sizes (shape_in S.s) test ++ (stmt_sizes (shape_in S.s) a ++ maybe_sizes (shape_in S.s) step))
      → SimD (giving ty r) (turning n w x) b j (λ t. Next t) (S.prev (Turn r test step a) w) (S.prev' (coded (low.turns (shape_in S.s) test step a (λ p q. low_stmt (shape_in S.s) ty a p q 1 (ToEnd 0)) n m) Stop) (mk w x))

module _ (S : Site) (before : Earlier S) (r : Cell) (ty : Ty) (own : ℕ) where
  abbrev R : NodesT ℕ → Mid → Res Mid
  R = M S

  abbrev h : Shape
  h = shape_in S.s

  abbrev v : Giving
  v = giving ty r

  abbrev k_next : Mid → Res Mid
  k_next t = Next t

  abbrev pub Home : World → Type 0
  Home w = HomeOf S.s S.code S.frames ty w.store.function own

  pub sim : (e : TExprT) → PlainValue h e → Follow S e
  sim e sc = expr_sim S before.called e sc.0

  pub home_after : (γ : Goal) (s0 : ℕ) (w : World) (x : Side) → HomeOf S.s S.code S.frames ty γ.base.function own → Now γ s0 w x → Home w
  home_after γ s0 w x home hn = subst (λ fn. HomeOf S.s S.code S.frames ty fn own) (sym hn.stays.same_function) home

  -- a statement
  abbrev pub FollowStmt : TStmtT → Type 0
  FollowStmt a = (n m b : ℕ) (j : Jump) (c : NodesT ℕ) (w : World) (x : Side) → part.result_at < n → Fit w x → AtPlace ty r x.temps → Home w → length w.store.locals ≡ own → Room S (base_of w x) m (stmt_sizes h a) → SimD v (stmt n w x) b j (R c) (does S.s S.bound S.prev r a w) (R (coded (low_stmt h ty a n m b j) c) (mk w x))

  -- ---- what a turn comes to

  either_end : (t : Bool) (u : World) (again : World → Done) → either_way t u again (λ z. Goes z) ≡ loop_end (either_way t u (λ z. Continues z) (λ z. Goes z)) again
  either_end true u again = refl
  either_end false u again = refl

  asked_end : (span : Span) (u : World) (q : Answer Bool) (again : World → Done) → asked Ended span u q (λ t. either_way t u again (λ z. Goes z)) ≡ loop_end (asked Ended span u q (λ t. either_way t u (λ z. Continues z) (λ z. Goes z))) again
  asked_end span u (Ok t) again = either_end t u again
  asked_end span u (Err Strays) again = refl
  asked_end span u (Err (Faults k)) again = refl

  value_end : (e : TExprT) (z : Val) (again : World → Done) → then_value Ended (span_of e) z (λ d u. asked Ended (span_of e) u (is_true u.store.objects (decayed (type_of e)) d) (λ t. either_way t u again (λ y. Goes y))) ≡ loop_end (then_value Ended (span_of e) z (λ d u. asked Ended (span_of e) u (is_true u.store.objects (decayed (type_of e)) d) (λ t. either_way t u (λ y. Continues y) (λ y. Goes y)))) again
  value_end e (Value d u) again = asked_end (span_of e) u (is_true u.store.objects (decayed (type_of e)) d) again
  value_end e (Place p u) again = refl
  value_end e (NoValue u) again = refl
  value_end e (Stops f u) again = refl

  tested_end : (e : TExprT) (z : Val) (again : World → Done) → tested Ended S.s S.bound e z again (λ y. Goes y) ≡ loop_end (tested Ended S.s S.bound e z (λ y. Continues y) (λ y. Goes y)) again
  tested_end e z again = value_end e (value_of S.s S.bound e z) again

  -- ---- `while` and `do`

  module _ (e : TExprT) (a : TStmtT) (sc : PlainValue h e) (fa : FollowStmt a) (γ : Goal) (skips : 2 ≤ γ.skip) (n m b : ℕ) (j : Jump) (c : NodesT ℕ) (w : World) (x : Side) (sn : part.result_at < n) (le : γ.first ≤ n) (place : HasPlace ty r γ) (home : HomeOf S.s S.code S.frames ty γ.base.function own) (eo : γ.base.own ≡ own) (h0 : Now γ 24 w x) (again : World → Done) where
    -- a turn of a `while`, of which the first costs the statement's node
    pub while_sim : Room S γ.base m (value_sizes h e ++ stmt_sizes h a) → ((wa : World) (xa : Side) → Now γ 24 wa xa → SimD v γ b j k_next (again wa) (S.prev' (coded (low_stmt h ty (WhileZ e a) n m 0 (ToEnd 0)) Stop) (mk wa xa)))
        → SimD v γ b j (R c) (turn S.s S.bound S.prev (Some e) None (does S.s S.bound S.prev r a) again w) (R (coded (low_stmt h ty (WhileZ e a) n m b j) c) (mk w x))
    while_sim room f =
        let na : ℕ = second e n in
        let ma : ℕ = beyond h e m in
        let ca : NodesT ℕ = coded (low_stmt h ty a na ma 0 (ToTurn 0)) (Again 0 Stop) in
        let lb : NodesT ℕ = Loop (coded (low_test h e n (n + 1) m) (Choose n ca Stop Stop)) Stop in
        let σ : Way γ = way_loop S v γ b j lb c in
        let go : World → Done = λ u. body_done (does S.s S.bound S.prev r a u) again in
        tests S γ σ 16 n (n + 1) m w (paid x) (Choose n ca Stop Stop) (paid_now γ 16 w x h0) (above_free γ n le) (omega (arith, le)) (omega (arith, sn)) (omega arith) e sc.1 (room_first S γ.base m (value_sizes h e) (stmt_sizes h a) room) go (λ u. Goes u) (sim e sc)
        (λ i wa xa flag ha at below. chooses S σ.T wa xa n i ca Stop Stop go (λ u. Goes u) at
        (subst (λ d. σ.T d (then_next (R ca (mk wa (paid xa))) (R Stop))) (sym (inner_is (does S.s S.bound S.prev r a wa) again (λ u. Continues u) again (λ u. refl)))
        (loops S v γ b j lb c (inner (does S.s S.bound S.prev r a wa) (λ u. Continues u)) (then_next (R ca (mk wa (paid xa))) (R Stop))
        (through S v (more_for γ) 0 (ToTurn 0) Stop (inner (does S.s S.bound S.prev r a wa) (λ u. Continues u)) (R ca (mk wa (paid xa)))
        (turns S v γ skips na wa (paid xa) (spare γ 20 0 wa (paid xa) (omega arith) (paid_now γ 20 wa xa ha)) (omega (arith, le)) (does S.s S.bound S.prev r a wa) (R ca (mk wa (paid xa)))
        (fa na ma 0 (ToTurn 0) (Again 0 Stop) wa (paid xa) (omega (arith, sn)) ha.stays.fit (place xa.temps ha.below) (home_after γ 28 wa xa home ha) (ha.stays.same_own ∙ eo) (room_at S γ.base ma (stmt_sizes h a) wa xa (room_second S γ.base m (value_sizes h e) (stmt_sizes h a) room) ha.stays)))) again f))
        (paid xa, refl, less_now γ 20 wa (paid xa) (paid_now γ 20 wa xa ha)))

    pub do_sim : Room S γ.base m (stmt_sizes h a ++ value_sizes h e) → ((wa : World) (xa : Side) → Now γ 24 wa xa → SimD v γ b j k_next (again wa) (S.prev' (coded (low_stmt h ty (DoWhileZ a e) n m 0 (ToEnd 0)) Stop) (mk wa xa)))
        → SimD v γ b j (R c) (do_turn S.s S.bound S.prev e (does S.s S.bound S.prev r a) again w) (R (coded (low_stmt h ty (DoWhileZ a e) n m b j) c) (mk w x))
    do_sim room f =
        let ne : ℕ = n + stmt_temps a in
        let me : ℕ = m + length (stmt_sizes h a) in
        let ca : NodesT ℕ = coded (low_stmt h ty a n m 1 (ToEnd 0)) Stop in
        let ce : NodesT ℕ = Choose ne (Again 0 Stop) Stop Stop in
        let lb : NodesT ℕ = Block ca (coded (low_test h e ne (ne + 1) me) ce) in
        let go : World → Done = λ u. tested Ended S.s S.bound e (evaluated S.s S.bound S.prev e u) again (λ z. Goes z) in
        let go' : World → Done = λ u. tested Ended S.s S.bound e (evaluated S.s S.bound S.prev e u) (λ z. Continues z) (λ z. Goes z) in
        let h1 = paid_now γ 8 w (paid x) (paid_now γ 16 w x h0) in
        let σ : Way (more_for γ) = way_d v (more_for γ) 0 (ToTurn 0) k_next in
        subst (λ d. SimD v γ b j (R c) d (R (coded (low_stmt h ty (DoWhileZ a e) n m b j) c) (mk w x))) (sym (inner_is (does S.s S.bound S.prev r a w) go go' again (λ u. tested_end e (evaluated S.s S.bound S.prev e u) again)))
        (loops S v γ b j (Loop lb Stop) c (inner (does S.s S.bound S.prev r a w) go') (R lb (mk w (paid x)))
        (blocks S v γ skips n w (paid (paid x)) (spare γ 8 0 w (paid (paid x)) (omega arith) h1) le (coded (low_test h e ne (ne + 1) me) ce) (does S.s S.bound S.prev r a w) (R ca (mk w (paid (paid x))))
        (fa n m 1 (ToEnd 0) Stop w (paid (paid x)) sn h1.stays.fit (place x.temps h0.below) (home_after γ 24 w x home h0) (h0.stays.same_own ∙ eo) (room_at S γ.base m (stmt_sizes h a) w x (room_first S γ.base m (stmt_sizes h a) (value_sizes h e) room) h0.stays)) go'
        (λ wa xa ha. tests S (more_for γ) σ 16 ne (ne + 1) me wa xa ce (more_now γ 16 wa xa ha) (above_free (more_for γ) ne (omega (arith, le))) (omega (arith, le)) (omega (arith, sn)) (omega arith) e sc.1 (room_second S γ.base m (stmt_sizes h a) (value_sizes h e) room) (λ z. Continues z) (λ z. Goes z) (sim e sc)
        (λ i wb xb flag hb at below. chooses S σ.T wb xb ne i (Again 0 Stop) Stop Stop (λ z. Continues z) (λ z. Goes z) at
        (paid (paid xb), refl, less_now (more_for γ) 12 wb (paid (paid xb)) (paid_now (more_for γ) 12 wb (paid xb) (paid_now (more_for γ) 20 wb xb hb)))
        (paid xb, refl, less_now (more_for γ) 20 wb (paid xb) (paid_now (more_for γ) 20 wb xb hb))))) again f)

  -- ---- `for`

  abbrev step_end : Option TExprT → World → Done
  step_end None u = Continues u
  step_end (Some e) u = dropped Ended S.s S.bound e (evaluated S.s S.bound S.prev e u) (λ z. Continues z)

  dropped_end : (e : TExprT) (z : Val) (again : World → Done) → dropped_value Ended e z again ≡ loop_end (dropped_value Ended e z (λ y. Continues y)) again
  dropped_end e (Value d u) again = refl
  dropped_end e (Place p u) again = refl
  dropped_end e (NoValue u) again = refl
  dropped_end e (Stops f u) again = refl

  step_is : (step : Option TExprT) (u : World) (again : World → Done) → step_done S.s S.bound S.prev step u again ≡ loop_end (step_end step u) again
  step_is None u again = refl
  step_is (Some e) u again = dropped_end e (value_of S.s S.bound e (evaluated S.s S.bound S.prev e u)) again

  -- an expression that is dropped
  pub dropped_sim : (e : TExprT) → PlainDropped h e → (γ : Goal) (σ : Way γ) (s0 n m : ℕ) (w : World) (x : Side) (c : NodesT ℕ) → Now γ s0 w x → γ.first ≤ n → 8 ≤ n → Room S γ.base m (value_sizes h e) → (go : World → σ.R) → ((wa : World) (xa : Side) → Now γ (s0 + 20) wa xa → σ.T (go wa) (R c (mk wa xa))) → σ.T (dropped σ.stop S.s S.bound e (evaluated S.s S.bound S.prev e w) go) (R (coded (low_value h e n (n + 1) m) c) (mk w x))
  dropped_sim e sc γ σ s0 n m w x c h0 le sn room go f = by (is_structure (type_of e)) refl
    where
      by : (b : Bool) → is_structure (type_of e) ≡ b → σ.T (dropped σ.stop S.s S.bound e (evaluated S.s S.bound S.prev e w) go) (R (coded (low_value h e n (n + 1) m) c) (mk w x))
      by true structure =
          value_dropped γ σ s0 n (n + 1) (m + length (value_sizes h e)) w x (R c) h0 (above_free γ n le) (omega (arith, le)) (M_grows S c) e structure (value_of S.s S.bound e (evaluated S.s S.bound S.prev e w)) (R (coded (low_value h e n (n + 1) m) c) (mk w x))
          (value_sim S before.called e (sc.1 structure) structure n (n + 1) m c w x (omega (arith, sn)) (omega arith) h0.stays.fit (room_at S γ.base m (value_sizes h e) w x room h0.stays)) go f
      by false scalar = drops S γ σ s0 n (n + 1) m w x c h0 (above_free γ n le) (omega (arith, le)) (omega (arith, sn)) (omega arith) e scalar room go (expr_sim S before.called e (sc.0 scalar)) (λ wa xa ha. f wa xa (spare γ (s0 + 28) (s0 + 20) wa xa (omega arith) ha))

  steps_sim : (γ : Goal) (step : Option TExprT) → PlainStep h step → (n m : ℕ) (w : World) (x : Side) → γ.first ≤ n → 8 ≤ n → Room S γ.base m (maybe_sizes h step) → Now γ 40 w x → SimD v (more_for γ) 0 (ToTurn 0) k_next (step_end step w) (R (coded (low.low_dropped h step n m) (Again 0 Stop)) (mk w x))
  steps_sim γ None sc n m w x le sn room h0 = (paid x, refl, keep_more γ 32 w (paid x) (omega arith) (paid_now γ 32 w x h0))
  steps_sim γ (Some e) sc n m w x le sn room h0 =
      let σ : Way (more_for γ) = way_d v (more_for γ) 0 (ToTurn 0) k_next in
      dropped_sim e sc (more_for γ) σ 16 n m w x (Again 0 Stop) (more_now γ 16 w x h0) le sn room (λ z. Continues z) (λ wa xa ha. (paid xa, refl, less_now (more_for γ) 28 wa (paid xa) (paid_now (more_for γ) 28 wa xa ha)))

  rest_sim : (γ : Goal) → 2 ≤ γ.skip → (step : Option TExprT) (a : TStmtT) → PlainStep h step → FollowStmt a → (n m k l : ℕ) (w : World) (x : Side) → γ.first ≤ n → part.result_at < n → γ.first ≤ k → 8 ≤ k → Room S γ.base m (stmt_sizes h a) → Room S γ.base l (maybe_sizes h step) → HasPlace ty r γ → HomeOf S.s S.code S.frames ty γ.base.function own → γ.base.own ≡ own → Now γ 8 w x
      → SimD v (more_for γ) 0 (ToTurn 0) k_next (inner (does S.s S.bound S.prev r a w) (step_end step)) (R (Block (coded (low_stmt h ty a n m 1 (ToEnd 0)) Stop) (coded (low.low_dropped h step k l) (Again 0 Stop))) (mk w x))
  rest_sim γ skips step a sc fa n m k l w x le sn lk sk rm rl place home eo h0 =
      blocks S v γ skips n w (paid x) (paid_now γ 0 w x h0) le (coded (low.low_dropped h step k l) (Again 0 Stop)) (does S.s S.bound S.prev r a w) (R (coded (low_stmt h ty a n m 1 (ToEnd 0)) Stop) (mk w (paid x)))
      (fa n m 1 (ToEnd 0) Stop w (paid x) sn h0.stays.fit (place x.temps h0.below) (home_after γ 8 w x home h0) (h0.stays.same_own ∙ eo) (room_at S γ.base m (stmt_sizes h a) w x rm h0.stays)) (step_end step) (λ wa xa ha. steps_sim γ step sc k l wa xa lk sk rl ha)

  pub for_sim : (test step : Option TExprT) (a : TStmtT) → PlainMaybe h test → PlainStep h step → FollowStmt a → (γ : Goal) → 2 ≤ γ.skip → (n m b : ℕ) (j : Jump) (c : NodesT ℕ) (w : World) (x : Side) → part.result_at < n → γ.first ≤ n → HasPlace ty r γ → HomeOf S.s S.code S.frames ty γ.base.function own → γ.base.own ≡ own → Now γ 24 w x → Room S γ.base m (maybe_sizes h test ++ (stmt_sizes h a ++ maybe_sizes h step)) → (again : World → Done)
      → ((wa : World) (xa : Side) → Now γ 24 wa xa → SimD v γ b j k_next (again wa) (S.prev' (coded (low.turns h test step a (λ p q. low_stmt h ty a p q 1 (ToEnd 0)) n m) Stop) (mk wa xa)))
      → SimD v γ b j (R c) (turn S.s S.bound S.prev test step (does S.s S.bound S.prev r a) again w) (R (coded (low.turns h test step a (λ p q. low_stmt h ty a p q 1 (ToEnd 0)) n m) c) (mk w x))
  for_sim None step a sct scs fa γ skips n m b j c w x sn le place home eo h0 room again f =
      let na : ℕ = n + 0 in
      let ma : ℕ = m + 0 in
      let k : ℕ = na + stmt_temps a in
      let l : ℕ = ma + length (stmt_sizes h a) in
      let behind : Room S γ.base ma (stmt_sizes h a ++ maybe_sizes h step) = room_second S γ.base m (maybe_sizes h None) (stmt_sizes h a ++ maybe_sizes h step) room in
      let rm : Room S γ.base ma (stmt_sizes h a) = room_first S γ.base ma (stmt_sizes h a) (maybe_sizes h step) behind in
      let rl : Room S γ.base l (maybe_sizes h step) = room_second S γ.base ma (stmt_sizes h a) (maybe_sizes h step) behind in
      let cr : NodesT ℕ = Block (coded (low_stmt h ty a na ma 1 (ToEnd 0)) Stop) (coded (low.low_dropped h step k l) (Again 0 Stop)) in
      subst (λ d. SimD v γ b j (R c) d (R (coded (low.turns h None step a (λ p q. low_stmt h ty a p q 1 (ToEnd 0)) n m) c) (mk w x))) (sym (inner_is (does S.s S.bound S.prev r a w) (λ z. step_done S.s S.bound S.prev step z again) (step_end step) again (λ u. step_is step u again)))
      (loops S v γ b j (Loop cr Stop) c (inner (does S.s S.bound S.prev r a w) (step_end step)) (R cr (mk w (paid x)))
      (rest_sim γ skips step a scs fa na ma k l w (paid x) (omega (arith, le)) (omega (arith, sn)) (omega (arith, le)) (omega (arith, sn)) rm rl place home eo (spare γ 16 8 w (paid x) (omega arith) (paid_now γ 16 w x h0))) again f)
  for_sim (Some e) step a sct scs fa γ skips n m b j c w x sn le place home eo h0 room again f =
      let na : ℕ = n + maybe_temps (Some e) in
      let ma : ℕ = beyond h e m in
      let k : ℕ = na + stmt_temps a in
      let l : ℕ = ma + length (stmt_sizes h a) in
      let behind : Room S γ.base ma (stmt_sizes h a ++ maybe_sizes h step) = room_second S γ.base m (maybe_sizes h (Some e)) (stmt_sizes h a ++ maybe_sizes h step) room in
      let rm : Room S γ.base ma (stmt_sizes h a) = room_first S γ.base ma (stmt_sizes h a) (maybe_sizes h step) behind in
      let rl : Room S γ.base l (maybe_sizes h step) = room_second S γ.base ma (stmt_sizes h a) (maybe_sizes h step) behind in
      let cr : NodesT ℕ = Block (coded (low_stmt h ty a na ma 1 (ToEnd 0)) Stop) (coded (low.low_dropped h step k l) (Again 0 Stop)) in
      let lb : NodesT ℕ = Loop (coded (low_test h e n (n + 1) m) (Choose n cr Stop Stop)) Stop in
      let σ : Way γ = way_loop S v γ b j lb c in
      let go : World → Done = λ u. body_done (does S.s S.bound S.prev r a u) (λ z. step_done S.s S.bound S.prev step z again) in
      tests S γ σ 16 n (n + 1) m w (paid x) (Choose n cr Stop Stop) (paid_now γ 16 w x h0) (above_free γ n le) (omega (arith, le)) (omega (arith, sn)) (omega arith) e sct.1 (room_first S γ.base m (value_sizes h e) (stmt_sizes h a ++ maybe_sizes h step) room) go (λ u. Goes u) (sim e sct)
      (λ i wa xa flag ha at below. chooses S σ.T wa xa n i cr Stop Stop go (λ u. Goes u) at
      (subst (λ d. σ.T d (then_next (R cr (mk wa (paid xa))) (R Stop))) (sym (inner_is (does S.s S.bound S.prev r a wa) (λ z. step_done S.s S.bound S.prev step z again) (step_end step) again (λ u. step_is step u again)))
      (loops S v γ b j lb c (inner (does S.s S.bound S.prev r a wa) (step_end step)) (then_next (R cr (mk wa (paid xa))) (R Stop))
      (through S v (more_for γ) 0 (ToTurn 0) Stop (inner (does S.s S.bound S.prev r a wa) (step_end step)) (R cr (mk wa (paid xa)))
      (rest_sim γ skips step a scs fa na ma k l wa (paid xa) (omega (arith, le)) (omega (arith, sn)) (omega (arith, le)) (omega (arith, sn)) rm rl place home eo (spare γ 20 8 wa (paid xa) (omega arith) (paid_now γ 20 wa xa ha)))) again f))
      (paid xa, refl, less_now γ 20 wa (paid xa) (paid_now γ 20 wa xa ha)))
