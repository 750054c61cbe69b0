-- Switches: mid code follows them.
use Rattle.std.proofs.Common.{◌≡◌, ℕ, zero, suc, ◌+◌, ◌*◌, ◌^◌, ◌<◌, ◌≤◌, Bool, true, false, ◌==◌, eqb, List, length, Some, None, Ok, refl, sym, ap, ◌∙◌, subst, arith, if◌then◌else◌}
use Rattle.kit_base.specs.Word.{bool_word}
use Rattle.c_types.specs.Types.{Ty}
use Rattle.c_types.specs.Typed.{TExprT, SwitchZ, TArmTs, CaseB, DefaultB, StmtB, NoB, MoreB}
use Rattle.v32_isa.specs.declared.instruction.Two.TheVariants.{IEQ, ISUB}
use Rattle.obj_mem.specs.declared.cell.Cell.{Cell}
use Rattle.obj_mem.specs.declared.cell.Cell.TheVariants.{Unwritten, Num, Ptr, Null}
use Rattle.obj_mem.specs.Stores.{fresh_all}
use Rattle.obj_mem.specs.Worlds.{World, on_store, spend}
use Rattle.obj_mem.specs.Queries.{word_of}
use Rattle.c_meaning.specs.Kinds.{span_of}
use Rattle.c_meaning.specs.Outcomes.{Done, Goes, Breaks, Continues, Returns, Ended, asked, then_done}
use Rattle.c_meaning.specs.Statements.{does, does_arms, arms_before, labels, left, switch_done}
use Rattle.mid_code.specs.Code.{ConstO, TwoO, NodesT, Stop, Do, Choose, Block, Leave}
use Rattle.mid_code.specs.Meaning.{Res, Next, then_next, block_done, choose}
use Rattle.mid_code.specs.States.{temporaries, to, spent, word_tested}
use Rattle.lower_trees.specs.Shape.{Shape, shape_in}
use Rattle.lower_trees.specs.Parts as part
use Rattle.lower_trees.specs.Counts.{stmt_temps, stmt_sizes, value_sizes, arms_sizes}
use Rattle.lower_trees.specs.Pieces.{coded}
use Rattle.lower_trees.specs.Expressions.{second, beyond}
use Rattle.lower_trees.specs.Statements.{Jump, ToEnd, ToTurn, further, low_stmt, low_arms, low_group, low_match, labels_before_default}
use Rattle.mid_lower.proofs.Grows.{Mid, Grows, more, then_grows, block_grows}
use Rattle.mid_lower.proofs.Trees.{PlainValue, Below}
use Rattle.mid_lower.proofs.Fits.{Site}
use Rattle.mid_lower.proofs.Giving.{Giving, giving}
use Rattle.mid_lower.proofs.Room.{Room, room_at, room_first, room_second}
use Rattle.mid_lower.proofs.Following.{Side, mk, Goal, Now, Way, Free, scratch, paid, paid_now, less_now, spare, now_work, kept_through, low_free, above_free, eqb_less, eqb_more, M, M_grows, sets}
use Rattle.mid_lower.proofs.Instructions.{two_eq}
use Rattle.mid_lower.proofs.Values.{uses}
use Rattle.mid_lower.proofs.Outcomes.{HasPlace, has_place, SimD, way_d, plain, stmt, wide, stmt_plain, stmt_now, begin_stmt}
use Rattle.mid_lower.proofs.Locals.{HomeOf, ends, mades}
use Rattle.mid_lower.proofs.LoopForms.{Earlier, FollowStmt, sim, home_after}
use Rattle.mid_lower.proofs.Chosen.{Passes, chosen, chosen_passes, chosen_fits}
use Rattle.mid_lower.proofs.CellLoops.{sub_one}

module _ (S : Site) where
  abbrev R : NodesT ℕ → Mid → Res Mid
  R = M S

  abbrev R_grows : (c : NodesT ℕ) (t : Mid) → Grows t (R c t)
  R_grows = M_grows S

  -- ---- the label that is equal

  -- the block of the tests ends, and t has a number
  abbrev Matched : (γ : Goal) → (s t p : ℕ) → World → Side → Res Mid → Type 0
  Matched γ s t p w x q = (y : Side) × (block_done q ≡ Next (mk w y)) × Now γ s w y × (y.temps t ≡ Num p) × ((j : ℕ) → scratch ≤ j → eqb j t ≡ false → y.temps j ≡ x.temps j)

  match_sim : (γ : Goal) (s t z i d : ℕ) (arms : TArmTs) (w : World) (x : Side) → Free γ t → scratch ≤ t → Now γ (s + 16 + 24 * labels arms) w x → x.temps t ≡ Num z → Matched γ s t (chosen z i d arms) w x (R (coded (low_match t i d arms) Stop) (mk w x))
  match_sim γ s t z i d NoB w x free st h e =
      sets S (λ p q. Matched γ s t p w x q) γ (s + 8) w x t (Num d) (ConstO t d) Stop (spare γ (s + 16 + 24 * 0) (s + 8 + 8) w x (omega arith) h) free refl d (λ y hy at rest. (y, refl, spare γ (s + 8) s w y (omega arith) hy, at, λ j a ne. rest j ne))
  match_sim γ s t z i d (MoreB DefaultB rest) w x free st h e = match_sim γ s t z (suc i) d rest w x free st (spare γ (s + 16 + 24 * suc (labels rest)) (s + 16 + 24 * labels rest) w x (omega arith) h) e
  match_sim γ s t z i d (MoreB (StmtB a) rest) w x free st h e = match_sim γ s t z i d rest w x free st h e
  match_sim γ s t z i d (MoreB (CaseB label) rest) w x free st h e =
      let T : ℕ → Res Mid → Type 0 = λ p q. Matched γ s t p w x q in
      let p : ℕ = chosen z i d (MoreB (CaseB label) rest) in
      let s1 : ℕ = s + 16 + 24 * labels rest in
      let choice : NodesT ℕ = Choose part.other (Do (ConstO t i) (Leave 0 Stop)) Stop (coded (low_match t (suc i) d rest) Stop) in
      sets S T γ (s1 + 16) w x part.other (Num label) (ConstO part.other label) (Do (TwoO IEQ part.other t part.other) choice) (spare γ (s + 16 + 24 * suc (labels rest)) (s1 + 16 + 8) w x (omega arith) h) (low_free γ part.other (omega arith)) refl p (λ y hy at keep.
      sets S T γ (s1 + 8) w y part.other (Num (bool_word (z == label))) (TwoO IEQ part.other t part.other) choice (spare γ (s1 + 16) (s1 + 8 + 8) w y (omega arith) hy) (low_free γ part.other (omega arith))
      (ap (λ q. to temporaries part.other q (spent 8 (mk w y))) (two_eq IEQ (Num z) (Num label) (y.temps t) (y.temps part.other) (keep t (eqb_more t part.other (omega (arith, st))) ∙ e) at)) p (λ u hu at2 keep2.
      by (z == label) u hu at2 (keep2 t (eqb_more t part.other (omega (arith, st))) ∙ keep t (eqb_more t part.other (omega (arith, st))) ∙ e) (λ j a. keep2 j (eqb_more j part.other (omega (arith, a))) ∙ keep j (eqb_more j part.other (omega (arith, a))))
      (λ v hv ev. match_sim γ s t z (suc i) d rest w v free st hv ev)))
    where
      by : (b : Bool) (u : Side) → Now γ (s + 16 + 24 * labels rest + 8) w u → u.temps part.other ≡ Num (bool_word b) → u.temps t ≡ Num z → ((j : ℕ) → scratch ≤ j → u.temps j ≡ x.temps j) → ((v : Side) → Now γ (s + 16 + 24 * labels rest) w v → v.temps t ≡ Num z → Matched γ s t (chosen z (suc i) d rest) w v (R (coded (low_match t (suc i) d rest) Stop) (mk w v)))
          → Matched γ s t (if b then i else chosen z (suc i) d rest) w x (R (Choose part.other (Do (ConstO t i) (Leave 0 Stop)) Stop (coded (low_match t (suc i) d rest) Stop)) (mk w u))
      by true u hu ez et keep go =
          subst (Matched γ s t i w x) (sym (ap (λ v. then_next (choose (word_tested v) (mk w (paid u)) (R (Do (ConstO t i) (Leave 0 Stop))) (R Stop)) (R (coded (low_match t (suc i) d rest) Stop))) ez))
          (sets S (λ p q. Matched γ s t p w x (then_next q (R (coded (low_match t (suc i) d rest) Stop)))) γ (s + 8) w (paid u) t (Num i) (ConstO t i) (Leave 0 Stop) (spare γ (s + 16 + 24 * labels rest) (s + 8 + 8) w (paid u) (omega arith) (paid_now γ (s + 16 + 24 * labels rest) w u hu)) free refl i
          (λ y hy at rest2. (paid y, refl, paid_now γ s w y hy, at, λ j a ne. rest2 j ne ∙ keep j a)))
      by false u hu ez et keep go =
          let m = go (paid u) (paid_now γ (s + 16 + 24 * labels rest) w u hu) et in
          subst (Matched γ s t (chosen z (suc i) d rest) w x) (sym (ap (λ v. then_next (choose (word_tested v) (mk w (paid u)) (R (Do (ConstO t i) (Leave 0 Stop))) (R Stop)) (R (coded (low_match t (suc i) d rest) Stop))) ez))
          (m.0, m.1, m.2, m.3, λ j a ne. m.4 j a ne ∙ keep j a)

  -- ---- the arms

  module _ (before : Earlier S) (r : Cell) (ty : Ty) (own : ℕ) where
    abbrev h : Shape
    h = shape_in S.s

    abbrev v : Giving
    v = giving ty r

    abbrev k_next : Mid → Res Mid
    k_next t = Next t

    -- the statements of the arms follow
    abbrev pub AllFollow : TArmTs → Type 0
    AllFollow NoB = Unit {0}
    AllFollow (MoreB (CaseB label) rest) = AllFollow rest
    AllFollow (MoreB DefaultB rest) = AllFollow rest
    AllFollow (MoreB (StmtB a) rest) = FollowStmt S before r ty own a × AllFollow rest

    abbrev IsLeaving : Done → Type 0
    IsLeaving (Goes w) = ⊥
    IsLeaving _ = Unit {0}

    -- what leaves a group passes by what stands behind it
    stopping : (γ : Goal) (b : ℕ) (j : Jump) (ka : Mid → Res Mid) (c : NodesT ℕ) (d : Done) (q : Res Mid) → SimD v γ b j ka d q → IsLeaving d → SimD v γ b j k_next d (then_next q (R c))
    stopping γ b j ka c (Goes w) q a l = absurd l
    stopping γ b j ka c (Breaks w) q a l = (a.0, ap (λ p. then_next p (R c)) a.1, a.2)
    stopping γ b (ToEnd k) ka c (Continues w) q a l = (a.0, ap (λ p. then_next p (R c)) a.1, a.2)
    stopping γ b (ToTurn k) ka c (Continues w) q a l = (a.0, ap (λ p. then_next p (R c)) a.1, a.2)
    stopping γ b j ka c (Returns None w) q a l = (a.0, ap (λ p. then_next p (R c)) a.1, a.2)
    stopping γ b j ka c (Returns (Some z) w) q a l = (a.0, ap (λ p. then_next p (R c)) a.1, a.2, a.3)
    stopping γ b j ka c (Ended f w) q a l = kept_through γ f w q (λ p. then_next p (R c)) (λ g t. refl) (λ p. then_grows p (R c) (R_grows c)) a

    -- a statement of a group, and what stands behind it in the group and behind the group
    group_seqs : (γ : Goal) → 2 ≤ γ.skip → (s n b : ℕ) (j : Jump) (ka : Mid → Res Mid) (c : NodesT ℕ) (w : World) (x : Side) → Now γ s w x → γ.first ≤ n → (d : Done) (q : Res Mid) → SimD v (plain n w x) b j ka d q → (go : World → Done)
        → ((wa : World) (xa : Side) → Now γ s wa xa → ((i : ℕ) → 8 ≤ i → i < n → xa.temps i ≡ x.temps i) → SimD v γ b j k_next (go wa) (then_next (ka (mk wa xa)) (R c))) → SimD v γ b j k_next (then_done d go) (then_next q (R c))
    group_seqs γ skips s n b j ka c w x hn le (Goes wa) q a go f = subst (λ p. SimD v γ b j k_next (go wa) (then_next p (R c))) (sym a.1) (f wa a.0 (stmt_now γ skips s n w x hn le wa a.0 a.2) (λ i g l. a.2.below i (omega (arith, g)) l (eqb_more i 0 (omega (arith, g)))))
    group_seqs γ skips s n b j ka c w x hn le (Breaks wa) q a go f = stopping γ b j ka c (Breaks wa) q (wide γ skips s n w x hn le v b j ka (Breaks wa) q a) tt
    group_seqs γ skips s n b j ka c w x hn le (Continues wa) q a go f = stopping γ b j ka c (Continues wa) q (wide γ skips s n w x hn le v b j ka (Continues wa) q a) tt
    group_seqs γ skips s n b j ka c w x hn le (Returns None wa) q a go f = stopping γ b j ka c (Returns None wa) q (wide γ skips s n w x hn le v b j ka (Returns None wa) q a) tt
    group_seqs γ skips s n b j ka c w x hn le (Returns (Some z) wa) q a go f = stopping γ b j ka c (Returns (Some z) wa) q (wide γ skips s n w x hn le v b j ka (Returns (Some z) wa) q a) tt
    group_seqs γ skips s n b j ka c w x hn le (Ended g wa) q a go f = stopping γ b j ka c (Ended g wa) q (wide γ skips s n w x hn le v b j ka (Ended g wa) q a) tt

    -- a choice by a number that is known
    choose_zero : (t : ℕ) (a b c : NodesT ℕ) (w : World) (x : Side) → x.temps t ≡ Num 0 → R (Choose t a b c) (mk w x) ≡ then_next (R b (mk w (paid x))) (R c)
    choose_zero t a b c w x e = ap (λ z. then_next (choose (word_tested z) (mk w (paid x)) (R a) (R b)) (R c)) e

    choose_more : (t p : ℕ) (a b c : NodesT ℕ) (w : World) (x : Side) → x.temps t ≡ Num (suc p) → R (Choose t a b c) (mk w x) ≡ then_next (R a (mk w (paid x))) (R c)
    choose_more t p a b c w x e = ap (λ z. then_next (choose (word_tested z) (mk w (paid x)) (R a) (R b)) (R c)) e

    -- from the label that is chosen on, each arm goes on into the next
    falls_sim : (arms : TArmTs) → AllFollow arms → (γ : Goal) → 2 ≤ γ.skip → (t n m b : ℕ) (j : Jump) (w : World) (x : Side) → 8 ≤ t → t < n → γ.first ≤ n → HasPlace ty r γ → HomeOf S.s S.code S.frames ty γ.base.function own → γ.base.own ≡ own → Room S γ.base m (arms_sizes h arms) → Now γ (16 * labels arms) w x → x.temps t ≡ Num 0
        → SimD v γ b j k_next (does_arms S.s S.bound S.prev r zero arms w) (then_next (R (coded (low_group h ty arms n m b j) Stop) (mk w x)) (R (coded (low_arms h ty t arms n m b j) Stop)))
    falls_sim NoB fs γ skips t n m b j w x lt tf le place home eo room hn e = (x, refl, less_now γ (16 * 0) w x hn)
    falls_sim (MoreB (StmtB a) rest) fs γ skips t n m b j w x lt tf le place home eo room hn e =
        let n1 : ℕ = n + stmt_temps a in
        let m1 : ℕ = m + length (stmt_sizes h a) in
        let group : NodesT ℕ = coded (low_group h ty rest n1 m1 b j) Stop in
        let last : NodesT ℕ = coded (low_arms h ty t rest n1 m1 b j) Stop in
        group_seqs γ skips (16 * labels rest) n b j (R group) last w x hn le (does S.s S.bound S.prev r a w) (R (coded (low_stmt h ty a n m b j) group) (mk w x))
        (stmt_plain v n b j (R group) w x (does S.s S.bound S.prev r a w) (R (coded (low_stmt h ty a n m b j) group) (mk w x)) (fs.0 n m b j group w x (omega (arith, lt, tf)) hn.stays.fit (place x.temps hn.below) (home_after S before r ty own γ (16 * labels rest) w x home hn) (hn.stays.same_own ∙ eo) (room_at S γ.base m (stmt_sizes h a) w x (room_first S γ.base m (stmt_sizes h a) (arms_sizes h rest) room) hn.stays)))
        (does_arms S.s S.bound S.prev r zero rest)
        (λ wa xa ha keep. falls_sim rest fs.1 γ skips t n1 m1 b j wa xa lt (omega (arith, tf)) (omega (arith, le)) place home eo (room_second S γ.base m (stmt_sizes h a) (arms_sizes h rest) room) ha (keep t lt tf ∙ e))
    falls_sim (MoreB (CaseB label) rest) fs γ skips t n m b j w x lt tf le place home eo room hn e =
        subst (SimD v γ b j k_next (does_arms S.s S.bound S.prev r zero rest w)) (sym (choose_zero t (Do (TwoO ISUB t t part.one) Stop) (coded (low_group h ty rest n m b j) Stop) (coded (low_arms h ty t rest n m b j) Stop) w x e))
        (falls_sim rest fs γ skips t n m b j w (paid x) lt tf le place home eo room (paid_now γ (16 * labels rest) w x (spare γ (16 * suc (labels rest)) (16 * labels rest + 8) w x (omega arith) hn)) e)
    falls_sim (MoreB DefaultB rest) fs γ skips t n m b j w x lt tf le place home eo room hn e =
        subst (SimD v γ b j k_next (does_arms S.s S.bound S.prev r zero rest w)) (sym (choose_zero t (Do (TwoO ISUB t t part.one) Stop) (coded (low_group h ty rest n m b j) Stop) (coded (low_arms h ty t rest n m b j) Stop) w x e))
        (falls_sim rest fs γ skips t n m b j w (paid x) lt tf le place home eo room (paid_now γ (16 * labels rest) w x (spare γ (16 * suc (labels rest)) (16 * labels rest + 8) w x (omega arith) hn)) e)

    -- a label is passed over
    passed : (γ : Goal) (s t p : ℕ) (d : Done) (b : ℕ) (j : Jump) (w : World) (x : Side) (group last : NodesT ℕ) → p < 2 ^ 32 → 8 ≤ t → ((i : ℕ) → scratch + γ.skip ≤ i → i < γ.first → eqb i γ.at ≡ false → eqb i t ≡ false) → Now γ (s + 16) w x → x.temps t ≡ Num (suc p) → x.temps part.one ≡ Num 1 → ((y : Side) → Now γ s w y → y.temps t ≡ Num p → y.temps part.one ≡ Num 1 → SimD v γ b j k_next d (R last (mk w y)))
        → SimD v γ b j k_next d (R (Choose t (Do (TwoO ISUB t t part.one) Stop) group last) (mk w x))
    passed γ s t p d b j w x group last fits lt free hn e e1 f =
        subst (SimD v γ b j k_next d) (sym (choose_more t p (Do (TwoO ISUB t t part.one) Stop) group last w x e))
        (sets S (λ z q. SimD v γ b j k_next z (then_next q (R last))) γ s w (paid x) t (Num p) (TwoO ISUB t t part.one) Stop (paid_now γ (s + 8) w x (spare γ (s + 16) (s + 8 + 8) w x (omega arith) hn)) free
        (ap (λ q. to temporaries t q (spent 8 (mk w (paid x)))) (two_eq ISUB (Num (suc p)) (Num 1) (x.temps t) (x.temps part.one) e e1 ∙ ap (λ k. Ok (Num k)) (sub_one p fits))) d
        (λ y hy at rest. f y hy at (rest part.one (eqb_less part.one t (omega (arith, lt))) ∙ e1)))

    -- the labels before the one that is chosen are passed over
    passes_sim : (arms : TArmTs) → AllFollow arms → (p k : ℕ) → Passes arms p k → p ≤ 2 ^ 32 → (γ : Goal) → 2 ≤ γ.skip → (t n m b : ℕ) (j : Jump) (w : World) (x : Side) → 8 ≤ t → t < n → γ.first ≤ t → HasPlace ty r γ → HomeOf S.s S.code S.frames ty γ.base.function own → γ.base.own ≡ own → Room S γ.base m (arms_sizes h arms) → Now γ (16 * labels arms) w x → x.temps t ≡ Num p → x.temps part.one ≡ Num 1
        → SimD v γ b j k_next (does_arms S.s S.bound S.prev r k arms w) (R (coded (low_arms h ty t arms n m b j) Stop) (mk w x))
    passes_sim NoB fs p zero ps fits γ skips t n m b j w x lt tn le place home eo room hn e e1 = (x, refl, less_now γ (16 * 0) w x hn)
    passes_sim NoB fs p (suc k) ps fits γ skips t n m b j w x lt tn le place home eo room hn e e1 = (x, refl, less_now γ (16 * 0) w x hn)
    passes_sim (MoreB (StmtB a) rest) fs p (suc k) ps fits γ skips t n m b j w x lt tn le place home eo room hn e e1 = passes_sim rest fs.1 p k ps fits γ skips t (n + stmt_temps a) (m + length (stmt_sizes h a)) b j w x lt (omega (arith, tn)) le place home eo (room_second S γ.base m (stmt_sizes h a) (arms_sizes h rest) room) hn e e1
    passes_sim (MoreB (StmtB a) rest) fs p zero ps fits γ skips t n m b j w x lt tn le place home eo room hn e e1 = absurd ps
    passes_sim (MoreB (CaseB label) rest) fs zero zero ps fits γ skips t n m b j w x lt tn le place home eo room hn e e1 =
        subst (SimD v γ b j k_next (does_arms S.s S.bound S.prev r zero rest w)) (sym (choose_zero t (Do (TwoO ISUB t t part.one) Stop) (coded (low_group h ty rest n m b j) Stop) (coded (low_arms h ty t rest n m b j) Stop) w x e))
        (falls_sim rest fs γ skips t n m b j w (paid x) lt tn (omega (arith, le, tn)) place home eo room (paid_now γ (16 * labels rest) w x (spare γ (16 * suc (labels rest)) (16 * labels rest + 8) w x (omega arith) hn)) e)
    passes_sim (MoreB (CaseB label) rest) fs (suc p) (suc k) ps fits γ skips t n m b j w x lt tn le place home eo room hn e e1 =
        passed γ (16 * labels rest) t p (does_arms S.s S.bound S.prev r k rest w) b j w x (coded (low_group h ty rest n m b j) Stop) (coded (low_arms h ty t rest n m b j) Stop) (omega (arith, fits)) lt (above_free γ t le) (spare γ (16 * suc (labels rest)) (16 * labels rest + 16) w x (omega arith) hn) e e1
        (λ y hy ey ey1. passes_sim rest fs p k ps (omega (arith, fits)) γ skips t n m b j w y lt tn le place home eo room hy ey ey1)
    passes_sim (MoreB (CaseB label) rest) fs zero (suc k) ps fits γ skips t n m b j w x lt tn le place home eo room hn e e1 = absurd ps
    passes_sim (MoreB (CaseB label) rest) fs (suc p) zero ps fits γ skips t n m b j w x lt tn le place home eo room hn e e1 = absurd ps
    passes_sim (MoreB DefaultB rest) fs zero zero ps fits γ skips t n m b j w x lt tn le place home eo room hn e e1 =
        subst (SimD v γ b j k_next (does_arms S.s S.bound S.prev r zero rest w)) (sym (choose_zero t (Do (TwoO ISUB t t part.one) Stop) (coded (low_group h ty rest n m b j) Stop) (coded (low_arms h ty t rest n m b j) Stop) w x e))
        (falls_sim rest fs γ skips t n m b j w (paid x) lt tn (omega (arith, le, tn)) place home eo room (paid_now γ (16 * labels rest) w x (spare γ (16 * suc (labels rest)) (16 * labels rest + 8) w x (omega arith) hn)) e)
    passes_sim (MoreB DefaultB rest) fs (suc p) (suc k) ps fits γ skips t n m b j w x lt tn le place home eo room hn e e1 =
        passed γ (16 * labels rest) t p (does_arms S.s S.bound S.prev r k rest w) b j w x (coded (low_group h ty rest n m b j) Stop) (coded (low_arms h ty t rest n m b j) Stop) (omega (arith, fits)) lt (above_free γ t le) (spare γ (16 * suc (labels rest)) (16 * labels rest + 16) w x (omega arith) hn) e e1
        (λ y hy ey ey1. passes_sim rest fs p k ps (omega (arith, fits)) γ skips t n m b j w y lt tn le place home eo room hy ey ey1)
    passes_sim (MoreB DefaultB rest) fs zero (suc k) ps fits γ skips t n m b j w x lt tn le place home eo room hn e e1 = absurd ps
    passes_sim (MoreB DefaultB rest) fs (suc p) zero ps fits γ skips t n m b j w x lt tn le place home eo room hn e e1 = absurd ps

    -- the block of the arms, which a `break` leaves
    done_sim : (γ : Goal) (b : ℕ) (j : Jump) (c : NodesT ℕ) (d : Done) (q : Res Mid) → SimD v γ 0 (further j) k_next d q → SimD v γ b j (R c) (switch_done d) (then_next (block_done q) (R c))
    done_sim γ b j c (Goes w) q a = (a.0, ap (λ p. then_next (block_done p) (R c)) a.1, a.2)
    done_sim γ b j c (Breaks w) q a = (a.0, ap (λ p. then_next (block_done p) (R c)) a.1, a.2)
    done_sim γ b (ToEnd k) c (Continues w) q a = (a.0, ap (λ p. then_next (block_done p) (R c)) a.1, a.2)
    done_sim γ b (ToTurn k) c (Continues w) q a = (a.0, ap (λ p. then_next (block_done p) (R c)) a.1, a.2)
    done_sim γ b j c (Returns None w) q a = (a.0, ap (λ p. then_next (block_done p) (R c)) a.1, a.2)
    done_sim γ b j c (Returns (Some z) w) q a = (a.0, ap (λ p. then_next (block_done p) (R c)) a.1, a.2, a.3)
    done_sim γ b j c (Ended f w) q a = kept_through γ f w q (λ p. then_next (block_done p) (R c)) (λ g t. refl) (λ p. more _ _ _ (block_grows p) (then_grows (block_done p) (R c) (R_grows c))) a

    pub switch_sim : (e : TExprT) (ks : List ℕ) (arms : TArmTs) → PlainValue h e → Below own ks → 2 * labels arms ≤ 2 ^ 32 → AllFollow arms → FollowStmt S before r ty own (SwitchZ e ks arms)
    switch_sim e ks arms sc bl fits fs n m b j c w x sn u at8 home eo room =
        let γ = stmt n w x in
        let σ : Way γ = way_d v γ b j (R c) in
        uses S γ σ 24 n (n + 1) m (spend 1 w) x (Block (coded (low_match n 0 (labels_before_default arms) arms) Stop) (Do (ConstO part.one 1) (coded (part.made ks) (Block (coded (low_arms h ty n arms (second e n) (beyond h e m) 0 (further j)) Stop) c)))) (begin_stmt n w x u) (above_free γ n (omega arith)) (omega arith) (omega (arith, sn)) (omega arith) e sc.1 (room_first S γ.base m (value_sizes h e) (arms_sizes h arms) room)
        (λ d y. asked Ended (span_of e) y (word_of d) (λ z. went z y)) (sim S before r ty own e sc) (λ d wa xa flag ha at keep. by d wa xa ha at)
      where
        go : ℕ → World → Done
        go z y = switch_done (does_arms S.s S.bound S.prev r (arms_before z arms) arms y)

        went : ℕ → World → Done
        went z y = left ks (go z (on_store (fresh_all S.s.sizes ks) (spend (labels arms) y)))

        c2 : NodesT ℕ
        c2 = Block (coded (low_arms h ty n arms (second e n) (beyond h e m) 0 (further j)) Stop) c

        c1 : NodesT ℕ
        c1 = Do (ConstO part.one 1) (coded (part.made ks) c2)

        c0 : NodesT ℕ
        c0 = Block (coded (low_match n 0 (labels_before_default arms) arms) Stop) c1

        arms_run : (z : ℕ) (wb : World) (y : Side) → Now (stmt n w x) (24 + 16 * labels arms) wb y → y.temps n ≡ Num (chosen z 0 (labels_before_default arms) arms) → SimD v (stmt n w x) b j (R c) (go z (on_store (fresh_all S.s.sizes ks) wb)) (R c1 (mk wb y))
        arms_run z wb y hy at =
            let γ = stmt n w x in
            sets S (SimD v γ b j (R c)) γ (16 + 16 * labels arms) wb y part.one (Num 1) (ConstO part.one 1) (coded (part.made ks) c2) (spare γ (24 + 16 * labels arms) (16 + 16 * labels arms + 8) wb y (omega arith) hy) (low_free γ part.one (omega arith)) refl (go z (on_store (fresh_all S.s.sizes ks) wb)) (λ y1 hy1 at1 rest1.
            mades S ty γ (16 + 16 * labels arms) (SimD v γ b j (R c)) ks wb y1 c2 (subst (λ o. HomeOf S.s S.code S.frames ty γ.base.function o) (sym eo) home) (subst (λ o. Below o ks) (sym eo) bl) hy1 (go z) (λ wc y2 hy2 same_temps.
            done_sim γ b j c (does_arms S.s S.bound S.prev r (arms_before z arms) arms wc) (R (coded (low_arms h ty n arms (second e n) (beyond h e m) 0 (further j)) Stop) (mk wc (paid y2)))
            (passes_sim arms fs (chosen z 0 (labels_before_default arms) arms) (arms_before z arms) (chosen_passes z arms) (chosen_fits z arms fits) γ (omega arith) n (second e n) (beyond h e m) 0 (further j) wc (paid y2) (omega (arith, sn)) (omega arith) (omega arith) (has_place ty r n w x sn at8) home eo (room_second S γ.base m (value_sizes h e) (arms_sizes h arms) room)
            (paid_now γ (16 * labels arms) wc y2 (spare γ (16 + 16 * labels arms) (16 * labels arms + 8) wc y2 (omega arith) hy2)) (ap (λ f. f n) same_temps ∙ rest1 n (eqb_more n part.one (omega (arith, sn))) ∙ at) (ap (λ f. f part.one) same_temps ∙ at1))))

        by : (d : Cell) (wa : World) (xa : Side) → Now (stmt n w x) (24 + 28) wa xa → xa.temps n ≡ d → SimD v (stmt n w x) b j (R c) (asked Ended (span_of e) wa (word_of d) (λ z. went z wa)) (R c0 (mk wa xa))
        by Unwritten wa xa ha at = R_grows c0 (mk wa xa)
        by (Ptr o i) wa xa ha at = R_grows c0 (mk wa xa)
        by Null wa xa ha at = R_grows c0 (mk wa xa)
        by (Num z) wa xa ha at =
            let γ = stmt n w x in
            let wb : World = spend (labels arms) wa in
            let hb : Now γ (44 + 64 * labels arms) wb (paid xa) = now_work γ (24 + 28) (44 + 64 * labels arms) wa wb xa (xa.work + 8) refl (omega (arith, ha.cost)) ha in
            let ms = match_sim γ (24 + 16 * labels arms) n z 0 (labels_before_default arms) arms wb (paid xa) (above_free γ n (omega arith)) (omega (arith, sn)) (spare γ (44 + 64 * labels arms) (24 + 16 * labels arms + 16 + 24 * labels arms) wb (paid xa) (omega arith) hb) at in
            ends v γ b j (R c) ks (go z (on_store (fresh_all S.s.sizes ks) wb)) (R c0 (mk wb xa))
            (subst (λ q. SimD v γ b j (R c) (go z (on_store (fresh_all S.s.sizes ks) wb)) (then_next q (R c1))) (sym ms.1) (arms_run z wb ms.0 ms.2 ms.3))
