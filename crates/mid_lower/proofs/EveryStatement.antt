-- Every form of a statement: mid code follows it.
use Rattle.std.proofs.Common.{◌++◌, ◌≡◌, ℕ, ◌+◌, ◌^◌, ◌<◌, ◌≤◌, Bool, true, false, List, [], ◌∷◌, length, Option, Some, None, refl, sym, ap, ◌∙◌, subst, arith, if◌then◌else◌}
use Rattle.c_types.specs.Types.{Ty}
use Rattle.c_types.specs.Sizes.{words_of}
use Rattle.c_types.specs.Typed.{TExprT, TStmtT, BlockZ, EmptyZ, VarsZ, DoZ, IfZ, WhileZ, DoWhileZ, ForZ, SwitchZ, ReturnZ, BreakZ, ContinueZ, MaybeZ, NoneZ, SomeZ, TStmtTs, NoZ, MoreZ, TArmTs, CaseB, DefaultB, StmtB, NoB, MoreB}
use Rattle.obj_mem.specs.declared.cell.Cell.{Cell}
use Rattle.obj_mem.specs.declared.cell.Cell.TheVariants.{Unwritten, Ptr}
use Rattle.obj_mem.specs.Stores.{fresh_all}
use Rattle.obj_mem.specs.Worlds.{World, on_store, spend}
use Rattle.c_meaning.specs.Kinds.{type_of, span_of}
use Rattle.c_types.specs.Kinds.{is_structure, is_void}
use Rattle.c_meaning.specs.Outcomes.{Done, Goes, Returns, Ended, Turn, DoTurn, nowhere, asked, then_went, then_done}
use Rattle.c_meaning.specs.Setting.{result_of}
use Rattle.c_meaning.specs.Operators.{converted}
use Rattle.c_meaning.specs.Cells.{cells_set, end_temporary, released}
use Rattle.c_meaning.specs.Expressions.{value_of, evaluated}
use Rattle.c_meaning.specs.Statements.{does, does_all, does_maybe, turn, returned, returned_as}
use Rattle.mid_code.specs.Code.{NodesT, Stop, Choose, Return}
use Rattle.mid_code.specs.Meaning.{Res, Next}
use Rattle.lower_trees.specs.Shape.{Shape, shape_in, words}
use Rattle.lower_trees.specs.Flags.{is_flag}
use Rattle.lower_trees.specs.Parts as part
use Rattle.lower_trees.specs.Counts.{stmt_temps, stmt_sizes, other_temps, other_sizes, value_sizes, maybe_sizes, stmts_sizes}
use Rattle.lower_trees.specs.Pieces.{coded}
use Rattle.lower_trees.specs.Expressions.{second, beyond, low_value}
use Rattle.lower_trees.specs.Statements.{Jump, ToEnd, ToTurn, low_stmt, low_stmts, low_other}
use Rattle.lower_trees.specs.Statements as low
use Rattle.mid_lower.proofs.Grows.{Mid}
use Rattle.mid_lower.proofs.Lives.{later_same}
use Rattle.mid_lower.proofs.Trees.{PlainValue, PlainStructure, PlainReturned, PlainStmt, PlainStmts, PlainOther, PlainArms, Below}
use Rattle.mid_lower.proofs.Fits.{Site}
use Rattle.mid_lower.proofs.Giving.{Giving, GivesNone, GivesWord, GivesAt, Given, giving}
use Rattle.mid_lower.proofs.Room.{Room, room_at, room_first, room_second}
use Rattle.mid_lower.proofs.Following.{base_of, Fit, Side, mk, Goal, Now, Way, paid, paid_now, less_now, kept_wider, above_free, eqb_less, M, M_grows}
use Rattle.mid_lower.proofs.Words.{in_words}
use Rattle.mid_lower.proofs.CellLoops.{copies_between}
use Rattle.mid_lower.proofs.StructureValues.{anew, back_to}
use Rattle.mid_lower.proofs.Taken.{Taken, taken_here, taken_on, taken_left}
use Rattle.mid_lower.proofs.StructureUses.{value_then, kept_structure, same_code}
use Rattle.mid_lower.proofs.EveryExpression.{value_sim}
use Rattle.mid_lower.proofs.Storing.{converts}
use Rattle.mid_lower.proofs.Values.{uses}
use Rattle.mid_lower.proofs.Choices.{tests, chooses}
use Rattle.mid_lower.proofs.Filling.{vars_sim}
use Rattle.mid_lower.proofs.Outcomes.{AtPlace, has_place, SimD, way_d, plain, stmt, wide, stmt_plain, seqs, turn_wide, here, begin_stmt, through}
use Rattle.mid_lower.proofs.Locals.{HomeOf, ends, mades}
use Rattle.mid_lower.proofs.LoopForms.{dropped_sim, Earlier, FollowStmt, sim, home_after, while_sim, do_sim, for_sim}
use Rattle.mid_lower.proofs.SwitchForms.{AllFollow, switch_sim}

abbrev no_place : Option ℕ
no_place = None

abbrev none_given : Cell
none_given = Unwritten

module _ (S : Site) (before : Earlier S) (r : Cell) (ty : Ty) (own : ℕ) where
  abbrev R : NodesT ℕ → Mid → Res Mid
  R = M S

  abbrev h : Shape
  h = shape_in S.s

  abbrev v : Giving
  v = giving ty r

  abbrev k_next : Mid → Res Mid
  k_next t = Next t

  abbrev tick : World → World
  tick w = spend 1 w

  abbrev H : World → Type 0
  H w = HomeOf S.s S.code S.frames ty w.store.function own

  after : (γ : Goal) (s0 : ℕ) (w : World) (x : Side) → HomeOf S.s S.code S.frames ty γ.base.function own → Now γ s0 w x → H w
  after = home_after S before r ty own

  home_in : (γ : Goal) → HomeOf S.s S.code S.frames ty γ.base.function own → γ.base.own ≡ own → HomeOf S.s S.code S.frames ty γ.base.function γ.base.own
  home_in γ home e = subst (λ o. HomeOf S.s S.code S.frames ty γ.base.function o) (sym e) home

  below_in : (γ : Goal) (ks : List ℕ) → γ.base.own ≡ own → Below own ks → Below γ.base.own ks
  below_in γ ks e b = subst (λ o. Below o ks) (sym e) b

  returns_scalar : (γ : Goal) (b : ℕ) (j : Jump) (k : Mid → Res Mid) (e : TExprT) → PlainValue h e → is_structure ty ≡ false → is_void ty ≡ false → (n m : ℕ) (c : NodesT ℕ) (w : World) (x : Side) → part.result_at < n → γ.first ≤ n → HomeOf S.s S.code S.frames ty γ.base.function own → Room S γ.base m (value_sizes h e) → Now γ 24 w x → SimD v γ b j k (returned S.s S.bound r e (evaluated S.s S.bound S.prev e w)) (R (coded (low_value h e n (n + 1) m) (coded (part.converted ty (is_flag e) n) (coded (low.returned h ty n) c))) (mk w x))
  returns_scalar γ b j k e sc scalar some n m c w x sn le home room h0 =
      let σ : Way γ = way_d v γ b j k in
      let c1 : NodesT ℕ = coded (low.returned h ty n) c in
      let gives_word : v ≡ GivesWord = ap (λ q. if q then GivesAt r else if is_void ty then GivesNone else GivesWord) scalar ∙ ap (λ q. if q then GivesNone else GivesWord) some in
      uses S γ σ 24 n (n + 1) m w x (coded (part.converted ty (is_flag e) n) c1) h0 (above_free γ n le) (omega (arith, le)) (omega (arith, sn)) (omega arith) e sc.1 room
      (λ d u. asked Ended (span_of e) u (converted (result_of S.s u.store.function) d) (λ z. returned_as S.s S.bound (result_of S.s u.store.function) r z u)) (sim S before r ty own e sc)
      (λ d wa xa flag ha at below.
      subst (λ t. SimD v γ b j k (asked Ended (span_of e) wa (converted t d) (λ z. returned_as S.s S.bound t r z wa)) (R (coded (part.converted ty (is_flag e) n) c1) (mk wa xa))) (sym (ap (λ fn. result_of S.s fn) ha.stays.same_function ∙ home.result))
      (converts S γ σ (span_of e) wa 44 xa ty (is_flag e) n d c1 ha (above_free γ n le) at flag (λ z. returned_as S.s S.bound ty r z wa)
      (λ z xb hb eb rest.
      subst (λ q. SimD v γ b j k (if q then then_went Ended (cells_set nowhere 1 S.bound (words h ty) (Some z) r wa) (λ y. Returns (Some r) (on_store (released ty z) y)) else Returns (Some z) wa) (R (if q then coded (part.copied_between (words h ty) n part.result_at) (Return no_place c) else Return (Some n) c) (mk wa xb))) (sym scalar)
      (record (paid xb) { given = xb.temps n }, refl, record { under = hb.stays.fit.under; later = hb.stays.later; cost = omega (arith, hb.cost) }, subst (λ g. Given g z (record (paid xb) { given = xb.temps n })) (sym gives_word) eb))))

  -- the structure in n is stored in the place of the result, and ends
  structure_returned : (γ : Goal) (b : ℕ) (j : Jump) (k : Mid → Res Mid) (n hi o i : ℕ) (c : NodesT ℕ) (wa : World) (xa : Side) → part.result_at < n → is_structure ty ≡ true → Taken γ 44 hi o wa xa → xa.temps n ≡ Ptr o i → xa.temps part.result_at ≡ r → SimD v γ b j k (returned_as S.s S.bound ty r (Ptr o i) wa) (R (coded (low.returned h ty n) c) (mk wa xa))
  structure_returned γ b j k n hi o i c wa xa sn structure hx at there =
      let size : ℕ = words h ty in
      let few : size < 2 ^ 32 = in_words (words_of h.layouts ty) in
      let γ1 : Goal = anew γ wa xa in
      let T : Done → Res Mid → Type 0 = SimD v γ b j k in
      let σ1 : Way γ1 = record { R = Done; stop = Ended; T = T; stops = λ f u q a. kept_wider γ γ1 (omega arith) f u q a } in
      let after : World → Done = λ u. Returns (Some r) (on_store (end_temporary (Ptr o i)) u) in
      let c2 : NodesT ℕ = Return no_place c in
      let gives_place : v ≡ GivesAt r = ap (λ q. if q then GivesAt r else if is_void ty then GivesNone else GivesWord) structure in
      subst (λ q. T (if q then then_went Ended (cells_set nowhere 1 S.bound size (Some (Ptr o i)) r wa) (λ u. Returns (Some r) (on_store (λ t. if q then end_temporary (Ptr o i) t else t) u)) else Returns (Some (Ptr o i)) wa) (R (if q then coded (part.copied_between size n part.result_at) c2 else Return (Some n) c) (mk wa xa))) (sym structure)
      (copies_between S γ1 nowhere 1 (omega arith) σ1 12 size (omega (arith, few)) n part.result_at (Ptr o i) r wa xa c2 (taken_here γ 44 hi (o ∷ []) wa xa hx) (omega (arith, sn)) (omega arith) at there after (λ u y2 hu others.
      let hl = taken_left γ 28 hi o i u y2 (taken_on γ 44 28 hi (o ∷ []) wa xa u y2 hx hu) in
      (record (paid (back_to γ.base.floor y2)) { given = none_given }, refl, record { under = hl.stays.fit.under; later = hl.stays.later; cost = omega (arith, hl.cost) }, subst (λ g. Given g r (record (paid (back_to γ.base.floor y2)) { given = none_given })) (sym gives_place) refl)))

  returns_structure : (γ : Goal) (b : ℕ) (j : Jump) (k : Mid → Res Mid) (e : TExprT) → PlainStructure h e → is_structure (type_of e) ≡ true → is_structure ty ≡ true → (n m : ℕ) (c : NodesT ℕ) (w : World) (x : Side) → part.result_at < n → γ.first ≤ n → AtPlace ty r x.temps → HomeOf S.s S.code S.frames ty γ.base.function own → Room S γ.base m (value_sizes h e) → Now γ 24 w x → SimD v γ b j k (returned S.s S.bound r e (evaluated S.s S.bound S.prev e w)) (R (coded (low_value h e n (n + 1) m) (coded (part.converted ty (is_flag e) n) (coded (low.returned h ty n) c))) (mk w x))
  returns_structure γ b j k e sc given structure n m c w x sn le place home room h0 =
      let σ : Way γ = way_d v γ b j k in
      let c1 : NodesT ℕ = coded (low.returned h ty n) c in
      let cc : NodesT ℕ = coded (part.converted ty (is_flag e) n) c1 in
      let hi : ℕ = m + length (value_sizes h e) in
      value_then γ σ 24 n (n + 1) hi w x (R cc) h0 (above_free γ n le) (omega (arith, le)) (M_grows S cc) (span_of e) (value_of S.s S.bound e (evaluated S.s S.bound S.prev e w)) (R (coded (low_value h e n (n + 1) m) cc) (mk w x))
      (value_sim S before.called e sc given n (n + 1) m cc w x (omega (arith, sn)) (omega arith) h0.stays.fit (room_at S γ.base m (value_sizes h e) w x room h0.stays))
      (λ d u. asked Ended (span_of e) u (converted (result_of S.s u.store.function) d) (λ z. returned_as S.s S.bound (result_of S.s u.store.function) r z u))
      (λ o i wa xa hx at below.
      subst (λ t. SimD v γ b j k (asked Ended (span_of e) wa (converted t (Ptr o i)) (λ z. returned_as S.s S.bound t r z wa)) (R cc (mk wa xa))) (sym (ap (λ fn. result_of S.s fn) hx.same_function ∙ home.result))
      (subst (λ q. SimD v γ b j k (asked Ended (span_of e) wa q (λ z. returned_as S.s S.bound ty r z wa)) (R cc (mk wa xa))) (sym (kept_structure S ty (Ptr o i) structure))
      (subst (λ q. SimD v γ b j k (returned_as S.s S.bound ty r (Ptr o i) wa) (R q (mk wa xa))) (sym (same_code S ty (is_flag e) n c1 structure))
      (structure_returned γ b j k n hi o i c wa xa sn structure hx at (below part.result_at (omega arith) (omega (arith, sn)) (eqb_less part.result_at n sn) ∙ place structure)))))

  returns_sim : (γ : Goal) (b : ℕ) (j : Jump) (k : Mid → Res Mid) (e : TExprT) → PlainReturned h ty e → (n m : ℕ) (c : NodesT ℕ) (w : World) (x : Side) → part.result_at < n → γ.first ≤ n → AtPlace ty r x.temps → HomeOf S.s S.code S.frames ty γ.base.function own → Room S γ.base m (value_sizes h e) → Now γ 24 w x → SimD v γ b j k (returned S.s S.bound r e (evaluated S.s S.bound S.prev e w)) (R (coded (low_value h e n (n + 1) m) (coded (part.converted ty (is_flag e) n) (coded (low.returned h ty n) c))) (mk w x))
  returns_sim γ b j k e sc n m c w x sn le place home room h0 = by (is_structure ty) refl
    where
      by : (q : Bool) → is_structure ty ≡ q → SimD v γ b j k (returned S.s S.bound r e (evaluated S.s S.bound S.prev e w)) (R (coded (low_value h e n (n + 1) m) (coded (part.converted ty (is_flag e) n) (coded (low.returned h ty n) c))) (mk w x))
      by true structure = returns_structure γ b j k e (sc.1 structure).0 (sc.1 structure).1 structure n m c w x sn le place home room h0
      by false scalar = returns_scalar γ b j k e (sc.0 scalar).0 scalar (sc.0 scalar).1 n m c w x sn le home room h0

  mutual
    pub stmt_sim : (a : TStmtT) → PlainStmt h own ty a → FollowStmt S before r ty own a
    stmt_sim (BlockZ ks body) sc n m b j c w x sn u place home eo room =
        let γ = stmt n w x in
        ends v γ b j (R c) ks (does_all S.s S.bound S.prev r body (on_store (fresh_all S.s.sizes ks) (tick w))) (R (coded (low_stmt h ty (BlockZ ks body) n m b j) c) (mk w x))
        (mades S ty γ 24 (SimD v γ b j (R c)) ks (tick w) x (coded (low_stmts h ty body n m b j) c) (home_in γ home eo) (below_in γ ks eo sc.0) (begin_stmt n w x u) (does_all S.s S.bound S.prev r body)
        (λ wa xa ha same_temps. wide γ (omega arith) 24 n wa xa ha (omega arith) v b j (R c) (does_all S.s S.bound S.prev r body wa) (R (coded (low_stmts h ty body n m b j) c) (mk wa xa)) (all_sim body sc.1 n m b j c wa xa sn ha.stays.fit (has_place ty r n w x sn place xa.temps ha.below) (after γ 24 wa xa home ha) (ha.stays.same_own ∙ eo) (room_at S γ.base m (stmts_sizes h body) wa xa room ha.stays))))
    stmt_sim EmptyZ sc n m b j c w x sn u place home eo room = (x, refl, less_now (stmt n w x) 24 (tick w) x (begin_stmt n w x u))
    stmt_sim (VarsZ vars) sc n m b j c w x sn u place home eo room =
        let γ = stmt n w x in
        vars_sim S before.called γ (omega arith) vars sc (way_d v γ b j (R c)) 24 n m c (tick w) x (omega arith) (omega (arith, sn)) room (begin_stmt n w x u) (λ z. Goes z) (λ wa xa ha. (xa, refl, less_now γ 24 wa xa ha))
    stmt_sim (DoZ e) sc n m b j c w x sn u place home eo room =
        let γ = stmt n w x in
        dropped_sim S before r ty own e sc γ (way_d v γ b j (R c)) 24 n m (tick w) x c (begin_stmt n w x u) (omega arith) (omega (arith, sn)) room (λ z. Goes z) (λ wa xa ha. (xa, refl, less_now γ 44 wa xa ha))
    stmt_sim (IfZ e a rest) sc n m b j c w x sn u place home eo room =
        let γ = stmt n w x in
        let σ : Way γ = way_d v γ b j (R c) in
        let na : ℕ = second e n in
        let ma : ℕ = beyond h e m in
        let ca : NodesT ℕ = coded (low_stmt h ty a na ma b j) Stop in
        let nb : ℕ = na + stmt_temps a in
        let mb : ℕ = ma + length (stmt_sizes h a) in
        let cb : NodesT ℕ = coded (low_other h ty rest nb mb b j) Stop in
        tests S γ σ 24 n (n + 1) m (tick w) x (Choose n ca cb c) (begin_stmt n w x u) (above_free γ n (omega arith)) (omega arith) (omega (arith, sn)) (omega arith) e sc.0.1 (room_first S γ.base m (value_sizes h e) (stmt_sizes h a ++ other_sizes h rest) room) (does S.s S.bound S.prev r a) (does_maybe S.s S.bound S.prev r rest) (sim S before r ty own e sc.0)
        (λ i wa xa flag ha at below. chooses S (SimD v γ b j (R c)) wa xa n i ca cb c (does S.s S.bound S.prev r a) (does_maybe S.s S.bound S.prev r rest) at
        (through S v γ b j c (does S.s S.bound S.prev r a wa) (R ca (mk wa (paid xa))) (wide γ (omega arith) 28 na wa (paid xa) (paid_now γ 28 wa xa ha) (omega arith) v b j k_next (does S.s S.bound S.prev r a wa) (R ca (mk wa (paid xa)))
        (stmt_plain v na b j k_next wa (paid xa) (does S.s S.bound S.prev r a wa) (R ca (mk wa (paid xa))) (stmt_sim a sc.1 na ma b j Stop wa (paid xa) (omega (arith, sn)) ha.stays.fit (has_place ty r n w x sn place xa.temps ha.below) (after γ 36 wa xa home ha) (ha.stays.same_own ∙ eo) (room_at S γ.base ma (stmt_sizes h a) wa xa (room_first S γ.base ma (stmt_sizes h a) (other_sizes h rest) (room_second S γ.base m (value_sizes h e) (stmt_sizes h a ++ other_sizes h rest) room)) ha.stays)))))
        (through S v γ b j c (does_maybe S.s S.bound S.prev r rest wa) (R cb (mk wa (paid xa))) (wide γ (omega arith) 28 nb wa (paid xa) (paid_now γ 28 wa xa ha) (omega arith) v b j k_next (does_maybe S.s S.bound S.prev r rest wa) (R cb (mk wa (paid xa)))
        (other_sim rest sc.2 nb mb b j Stop wa (paid xa) (omega (arith, sn)) ha.stays.fit (has_place ty r n w x sn place xa.temps ha.below) (after γ 36 wa xa home ha) (ha.stays.same_own ∙ eo) (room_at S γ.base mb (other_sizes h rest) wa xa (room_second S γ.base ma (stmt_sizes h a) (other_sizes h rest) (room_second S γ.base m (value_sizes h e) (stmt_sizes h a ++ other_sizes h rest) room)) ha.stays)))))
    stmt_sim (WhileZ e a) sc n m b j c w x sn u place home eo room =
        let γ = stmt n w x in
        while_sim S before r ty own e a sc.0 (stmt_sim a sc.1) γ (omega arith) n m b j c (tick w) x sn (omega arith) (has_place ty r n w x sn place) home eo (begin_stmt n w x u) (S.prev (Turn r (Some e) None a)) room
        (λ wa xa ha. turn_wide v γ (omega arith) n b j k_next wa xa ha (omega arith) (S.prev (Turn r (Some e) None a) wa) (S.prev' (coded (low_stmt h ty (WhileZ e a) n m 0 (ToEnd 0)) Stop) (mk wa xa)) (before.while_turn r ty own e a n m b j wa xa ha.stays.fit (has_place ty r n w x sn place xa.temps ha.below) (after γ 24 wa xa home ha) (ha.stays.same_own ∙ eo) sc.0 sc.1 sn (room_at S γ.base m (value_sizes h e ++ stmt_sizes h a) wa xa room ha.stays)))
    stmt_sim (DoWhileZ a e) sc n m b j c w x sn u place home eo room =
        let γ = stmt n w x in
        do_sim S before r ty own e a sc.1 (stmt_sim a sc.0) γ (omega arith) n m b j c (tick w) x sn (omega arith) (has_place ty r n w x sn place) home eo (begin_stmt n w x u) (S.prev (DoTurn r a e)) room
        (λ wa xa ha. turn_wide v γ (omega arith) n b j k_next wa xa ha (omega arith) (S.prev (DoTurn r a e) wa) (S.prev' (coded (low_stmt h ty (DoWhileZ a e) n m 0 (ToEnd 0)) Stop) (mk wa xa)) (before.do_turn r ty own e a n m b j wa xa ha.stays.fit (has_place ty r n w x sn place xa.temps ha.below) (after γ 24 wa xa home ha) (ha.stays.same_own ∙ eo) sc.1 sc.0 sn (room_at S γ.base m (stmt_sizes h a ++ value_sizes h e) wa xa room ha.stays)))
    stmt_sim (ForZ ks first test step a) sc n m b j c w x sn u place home eo room =
        let γ = stmt n w x in
        let n1 : ℕ = n + other_temps first in
        let m1 : ℕ = m + length (other_sizes h first) in
        let cl : NodesT ℕ = coded (low.turns h test step a (λ k l. low_stmt h ty a k l 1 (ToEnd 0)) n1 m1) c in
        let again : World → Done = S.prev (Turn r test step a) in
        let go : World → Done = turn S.s S.bound S.prev test step (does S.s S.bound S.prev r a) again in
        ends v γ b j (R c) ks (then_done (does_maybe S.s S.bound S.prev r first (on_store (fresh_all S.s.sizes ks) (tick w))) go) (R (coded (low_stmt h ty (ForZ ks first test step a) n m b j) c) (mk w x))
        (mades S ty γ 24 (SimD v γ b j (R c)) ks (tick w) x (coded (low_other h ty first n m b j) cl) (home_in γ home eo) (below_in γ ks eo sc.0) (begin_stmt n w x u) (λ w1. then_done (does_maybe S.s S.bound S.prev r first w1) go)
        (λ wa xa ha same_temps. seqs γ (omega arith) 24 n wa xa ha (omega arith) v b j (R c) (R cl) (does_maybe S.s S.bound S.prev r first wa) (R (coded (low_other h ty first n m b j) cl) (mk wa xa)) (other_sim first sc.1 n m b j cl wa xa sn ha.stays.fit (has_place ty r n w x sn place xa.temps ha.below) (after γ 24 wa xa home ha) (ha.stays.same_own ∙ eo) (room_at S γ.base m (other_sizes h first) wa xa (room_first S γ.base m (other_sizes h first) (maybe_sizes h test ++ (stmt_sizes h a ++ maybe_sizes h step)) room) ha.stays)) go
        (λ wb xb hb. for_sim S before r ty own test step a sc.2 sc.3 (stmt_sim a sc.4) γ (omega arith) n1 m1 b j c wb xb (omega (arith, sn)) (omega arith) (has_place ty r n w x sn place) home eo hb (room_second S γ.base m (other_sizes h first) (maybe_sizes h test ++ (stmt_sizes h a ++ maybe_sizes h step)) room) again
        (λ wc xc hc. turn_wide v γ (omega arith) n1 b j k_next wc xc hc (omega arith) (again wc) (S.prev' (coded (low.turns h test step a (λ k l. low_stmt h ty a k l 1 (ToEnd 0)) n1 m1) Stop) (mk wc xc)) (before.for_turn r ty own test step a n1 m1 b j wc xc hc.stays.fit (has_place ty r n w x sn place xc.temps hc.below) (after γ 24 wc xc home hc) (hc.stays.same_own ∙ eo) sc.2 sc.3 sc.4 (omega (arith, sn)) (room_at S γ.base m1 (maybe_sizes h test ++ (stmt_sizes h a ++ maybe_sizes h step)) wc xc (room_second S γ.base m (other_sizes h first) (maybe_sizes h test ++ (stmt_sizes h a ++ maybe_sizes h step)) room) hc.stays))))))
    stmt_sim (SwitchZ e ks arms) sc n m b j c w x sn u place home eo room = switch_sim S before r ty own e ks arms sc.0 sc.1 sc.3 (arms_follow arms sc.2) n m b j c w x sn u place home eo room
    stmt_sim (ReturnZ None) sc n m b j c w x sn u place home eo room = (record (paid x) { given = none_given }, refl, record { under = u.under; later = later_same w.store.objects; cost = omega arith })
    stmt_sim (ReturnZ (Some e)) sc n m b j c w x sn u place home eo room = returns_sim (stmt n w x) b j (R c) e sc n m c (tick w) x sn (omega arith) place home room (begin_stmt n w x u)
    stmt_sim BreakZ sc n m b j c w x sn u place home eo room = (paid x, refl, less_now (stmt n w x) 16 (tick w) (paid x) (paid_now (stmt n w x) 16 (tick w) x (begin_stmt n w x u)))
    stmt_sim ContinueZ sc n m b (ToEnd k) c w x sn u place home eo room = (paid x, refl, less_now (stmt n w x) 16 (tick w) (paid x) (paid_now (stmt n w x) 16 (tick w) x (begin_stmt n w x u)))
    stmt_sim ContinueZ sc n m b (ToTurn k) c w x sn u place home eo room = (paid x, refl, less_now (stmt n w x) 16 (tick w) (paid x) (paid_now (stmt n w x) 16 (tick w) x (begin_stmt n w x u)))

    arms_follow : (arms : TArmTs) → PlainArms h own ty arms → AllFollow S before r ty own arms
    arms_follow NoB sc = tt
    arms_follow (MoreB (CaseB label) rest) sc = arms_follow rest sc
    arms_follow (MoreB DefaultB rest) sc = arms_follow rest sc
    arms_follow (MoreB (StmtB a) rest) sc = (stmt_sim a sc.0, arms_follow rest sc.1)

    other_sim : (a : MaybeZ) → PlainOther h own ty a → (n m b : ℕ) (j : Jump) (c : NodesT ℕ) (w : World) (x : Side) → part.result_at < n → Fit w x → AtPlace ty r x.temps → H w → length w.store.locals ≡ own → Room S (base_of w x) m (other_sizes h a) → SimD v (plain n w x) b j (R c) (does_maybe S.s S.bound S.prev r a w) (R (coded (low_other h ty a n m b j) c) (mk w x))
    other_sim NoneZ sc n m b j c w x sn u place home eo room = (x, refl, here n w x u)
    other_sim (SomeZ a) sc n m b j c w x sn u place home eo room = stmt_plain v n b j (R c) w x (does S.s S.bound S.prev r a w) (R (coded (low_stmt h ty a n m b j) c) (mk w x)) (stmt_sim a sc n m b j c w x sn u place home eo room)

    pub all_sim : (ss : TStmtTs) → PlainStmts h own ty ss → (n m b : ℕ) (j : Jump) (c : NodesT ℕ) (w : World) (x : Side) → part.result_at < n → Fit w x → AtPlace ty r x.temps → H w → length w.store.locals ≡ own → Room S (base_of w x) m (stmts_sizes h ss) → SimD v (plain n w x) b j (R c) (does_all S.s S.bound S.prev r ss w) (R (coded (low_stmts h ty ss n m b j) c) (mk w x))
    all_sim NoZ sc n m b j c w x sn u place home eo room = (x, refl, here n w x u)
    all_sim (MoreZ a rest) sc n m b j c w x sn u place home eo room =
        let γ = plain n w x in
        let n1 : ℕ = n + stmt_temps a in
        let m1 : ℕ = m + length (stmt_sizes h a) in
        let cr : NodesT ℕ = coded (low_stmts h ty rest n1 m1 b j) c in
        seqs γ (omega arith) 0 n w x (here n w x u) (omega arith) v b j (R c) (R cr) (does S.s S.bound S.prev r a w) (R (coded (low_stmt h ty a n m b j) cr) (mk w x)) (stmt_plain v n b j (R cr) w x (does S.s S.bound S.prev r a w) (R (coded (low_stmt h ty a n m b j) cr) (mk w x)) (stmt_sim a sc.0 n m b j cr w x sn u place home eo (room_first S γ.base m (stmt_sizes h a) (stmts_sizes h rest) room))) (does_all S.s S.bound S.prev r rest)
        (λ wa xa ha. wide γ (omega arith) 0 n1 wa xa ha (omega arith) v b j (R c) (does_all S.s S.bound S.prev r rest wa) (R cr (mk wa xa)) (all_sim rest sc.1 n1 m1 b j c wa xa (omega (arith, sn)) ha.stays.fit (has_place ty r n w x sn place xa.temps ha.below) (after γ 0 wa xa home ha) (ha.stays.same_own ∙ eo) (room_at S γ.base m1 (stmts_sizes h rest) wa xa (room_second S γ.base m (stmt_sizes h a) (stmts_sizes h rest) room) ha.stays)))
