-- As a path leaves a statement, so a path leaves its code, and ends no local.
use Rattle.std.proofs.Common.{ℕ, suc, ◌+◌, inl, inr, ◌⊎◌, List, ◌∷◌, length, Option, Some, None}
use Rattle.c_types.specs.Types.{Ty}
use Rattle.c_types.specs.Typed.{TExprT, TStmtT, BlockZ, EmptyZ, VarsZ, DoZ, IfZ, WhileZ, DoWhileZ, ForZ, SwitchZ, ReturnZ, BreakZ, ContinueZ, MaybeZ, NoneZ, SomeZ, TStmtTs, NoZ, MoreZ, CaseB, DefaultB, StmtB, TArmTs, NoB, MoreB}
use Rattle.c_meaning.specs.Frames.{Way, Onward, ByBreak, ByContinue, IsOnward, IsBreak, IsContinue, HasTest, Leaves, LeavesOther, LeavesAll, LeavesArms, LeavesFrom}
use Rattle.mid_code.specs.Code.{ConstO, Stop, Do, Choose, Leave, Again}
use Rattle.mid_code.specs.Paths.{Branched, Blocked, Looped, Point, at, leaving, repeating}
use Rattle.lower_trees.specs.Shape.{Shape}
use Rattle.lower_trees.specs.Pieces.{Nodes, coded, Piece}
use Rattle.lower_trees.specs.Parts.{one, made}
use Rattle.lower_trees.specs.Expressions.{second, beyond, low_test}
use Rattle.lower_trees.specs.Statements.{Jump, ToEnd, ToTurn, further, jump, low_chosen, low_dropped, turns, labels_before_default, low_match, low_stmt, low_other, low_stmts, low_arms, low_group, turn_of}
use Rattle.lower_trees.specs.Counts.{maybe_temps, maybe_sizes, stmt_temps, stmt_sizes, other_temps, other_sizes}
use Rattle.mid_lower.proofs.TogetherPaths.{Frames, Leads, OneLeads, doing, first_way, second_way, into_block, into_loop, way_ends, block_ends, loop_ends, leave_leads, again_leads, made_leads}
use Rattle.mid_lower.proofs.TogetherExpressions.{low_value_passes, low_test_passes}
use Rattle.mid_lower.proofs.TogetherInitialisers.{vars_leads}

-- where `continue` goes to
abbrev pub jumped : Jump → Frames → List (Point ℕ)
jumped (ToEnd k) fs = leaving fs k
jumped (ToTurn k) fs = repeating fs k

-- the point that a way goes to, from code that c follows, leads to q
abbrev pub Going : Way → (b : ℕ) → Jump → Frames → Nodes → Point ℕ → Type 0
Going Onward b j fs c q = Leads (at fs c) q
Going ByBreak b j fs c q = OneLeads (leaving fs b) q
Going ByContinue b j fs c q = OneLeads (jumped j fs) q

straight_on : (w : Way) (b : ℕ) (j : Jump) (fs : Frames) (c : Nodes) (q : Point ℕ) → IsOnward w → Going w b j fs c q → Leads (at fs c) q
straight_on Onward b j fs c q o g = g
straight_on ByBreak b j fs c q o g = absurd o
straight_on ByContinue b j fs c q o g = absurd o

-- what follows does not matter to `break` and `continue`
jumps_off : (w : Way) (b : ℕ) (j : Jump) (fs : Frames) (c d : Nodes) (q : Point ℕ) → IsBreak w ⊎ IsContinue w → Going w b j fs c q → Going w b j fs d q
jumps_off Onward b j fs c d q o g = elim o [ inl x ↦ absurd x | inr x ↦ absurd x ]
jumps_off ByBreak b j fs c d q o g = g
jumps_off ByContinue b j fs c d q o g = g

jumped_branched : (j : Jump) (fs : Frames) (c : Nodes) (q : Point ℕ) → OneLeads (jumped j fs) q → OneLeads (jumped j (Branched c ∷ fs)) q
jumped_branched (ToEnd k) fs c q l = l
jumped_branched (ToTurn k) fs c q l = l

jumped_blocked : (j : Jump) (fs : Frames) (c : Nodes) (q : Point ℕ) → OneLeads (jumped j fs) q → OneLeads (jumped (further j) (Blocked c ∷ fs)) q
jumped_blocked (ToEnd k) fs c q l = l
jumped_blocked (ToTurn k) fs c q l = l

-- inside a way of a choice
branched : (w : Way) (b : ℕ) (j : Jump) (fs : Frames) (c : Nodes) (q : Point ℕ) → Going w b j fs c q → Going w b j (Branched c ∷ fs) Stop q
branched Onward b j fs c q g = way_ends g
branched ByBreak b j fs c q g = g
branched ByContinue b j fs c q g = jumped_branched j fs c q g

-- inside a group of arms, before what is left of the group
grouped : (w : Way) (b : ℕ) (j : Jump) (fs : Frames) (c d e : Nodes) (q : Point ℕ) → IsBreak w ⊎ IsContinue w → Going w b j fs d q → Going w b j (Branched c ∷ fs) e q
grouped w b j fs c d e q o g = jumps_off w b j (Branched c ∷ fs) Stop e q o (branched w b j fs c q (jumps_off w b j fs d c q o g))

-- ---- loops

loop_passes : (h : Shape) (x : TExprT) (t n m : ℕ) (turn b c : Nodes) (fs : Frames) (q : Point ℕ) → Leads (at fs c) q → Leads (at (Looped b c ∷ fs) (coded (low_test h x t n m) (Choose t turn Stop Stop))) q
loop_passes h x t n m turn b c fs q l = low_test_passes h x t n m _ (Looped b c ∷ fs) q (second_way (way_ends (loop_ends l)))

-- what encloses what runs where the condition of a `for` holds
pub chosen_frames : Option TExprT → Frames → Frames
chosen_frames None fs = fs
chosen_frames (Some x) fs = Branched Stop ∷ fs

chosen_leads : (h : Shape) (test : Option TExprT) (n m : ℕ) (turn : Piece) (fs : Frames) (q : Point ℕ) → Leads (at (chosen_frames test fs) (coded turn Stop)) q → Leads (at fs (coded (low_chosen h test n m turn) Stop)) q
unfolding chosen_frames
chosen_leads h None n m turn fs q l = l
chosen_leads h (Some x) n m turn fs q l = low_test_passes h x n (n + 1) m _ fs q (first_way l)

-- what comes behind the body of a `for`, and a turn of it
abbrev behind_body : Shape → (test step : Option TExprT) → TStmtT → (n m : ℕ) → Piece
behind_body h test step a n m = low_dropped h step (n + maybe_temps test + stmt_temps a) (m + length (maybe_sizes h test) + length (stmt_sizes h a))

abbrev one_turn : Shape → (test step : Option TExprT) → TStmtT → (body : (n m : ℕ) → Piece) → (n m : ℕ) → Piece
one_turn h test step a body n m = turn_of (body (n + maybe_temps test) (m + length (maybe_sizes h test))) (behind_body h test step a n m)

abbrev for_turn : Shape → (test step : Option TExprT) → TStmtT → (body : (n m : ℕ) → Piece) → (n m : ℕ) → Nodes
for_turn h test step a body n m = coded (low_chosen h test n m (one_turn h test step a body n m)) Stop

-- what encloses the body
abbrev pub for_frames : Shape → (test step : Option TExprT) → TStmtT → (body : (n m : ℕ) → Piece) → (n m : ℕ) → Nodes → Frames → Frames
for_frames h test step a body n m c fs = Blocked (coded (behind_body h test step a n m) (Again 0 Stop)) ∷ chosen_frames test (Looped (for_turn h test step a body n m) c ∷ fs)

pub into_turn : (h : Shape) (test step : Option TExprT) (a : TStmtT) (body : (n m : ℕ) → Piece) (n m : ℕ) (c : Nodes) (fs : Frames) (q : Point ℕ)
    → Leads (at (for_frames h test step a body n m c fs) (coded (body (n + maybe_temps test) (m + length (maybe_sizes h test))) Stop)) q → Leads (at fs (coded (turns h test step a body n m) c)) q
into_turn h test step a body n m c fs q l = into_loop (chosen_leads h test n m (one_turn h test step a body n m) _ q (into_block l))

breaks_turn : (h : Shape) (test step : Option TExprT) (a : TStmtT) (body : (n m : ℕ) → Piece) (n m : ℕ) (c : Nodes) (fs : Frames) (q : Point ℕ) → Leads (at fs c) q → OneLeads (leaving (for_frames h test step a body n m c fs) 1) q
unfolding chosen_frames
breaks_turn h None step a body n m c fs q l = inl l
breaks_turn h (Some x) step a body n m c fs q l = inl l

-- ---- switches

match_leads : (t i d : ℕ) (arms : TArmTs) (fs : Frames) (q : Point ℕ) → Leads (at fs Stop) q → Leads (at fs (coded (low_match t i d arms) Stop)) q
match_leads t i d NoB fs q l = doing tt l
match_leads t i d (MoreB (CaseB label) rest) fs q l = doing tt (doing tt (second_way (way_ends (match_leads t (suc i) d rest fs q l))))
match_leads t i d (MoreB DefaultB rest) fs q l = match_leads t (suc i) d rest fs q l
match_leads t i d (MoreB (StmtB a) rest) fs q l = match_leads t i d rest fs q l

-- every label is passed over
arms_passed : (h : Shape) (ty : Ty) (t : ℕ) (arms : TArmTs) (n m b : ℕ) (j : Jump) (fs : Frames) (q : Point ℕ) → Leads (at fs Stop) q → Leads (at fs (coded (low_arms h ty t arms n m b j) Stop)) q
arms_passed h ty t NoB n m b j fs q l = l
arms_passed h ty t (MoreB (CaseB label) rest) n m b j fs q l = first_way (doing tt (way_ends (arms_passed h ty t rest n m b j fs q l)))
arms_passed h ty t (MoreB DefaultB rest) n m b j fs q l = first_way (doing tt (way_ends (arms_passed h ty t rest n m b j fs q l)))
arms_passed h ty t (MoreB (StmtB a) rest) n m b j fs q l = arms_passed h ty t rest (n + stmt_temps a) (m + length (stmt_sizes h a)) b j fs q l

-- the value of a switch is found among the labels, and the arms begin
pub switch_leads : (ks : List ℕ) (arms : TArmTs) (n m : ℕ) (c : Nodes) (fs : Frames) (q : Point ℕ) → Leads (at fs (coded (made ks) c)) q
    → Leads (at (Blocked (Do (ConstO one 1) (coded (made ks) c)) ∷ fs) (coded (low_match n 0 (labels_before_default arms) arms) Stop)) q
switch_leads ks arms n m c fs q l = match_leads n 0 (labels_before_default arms) arms (Blocked (Do (ConstO one 1) (coded (made ks) c)) ∷ fs) q (block_ends (doing tt l))

-- ---- all forms

-- no path leaves a label but straight on
no_label : (w : Way) → IsBreak w ⊎ IsContinue w → IsOnward w → ⊥
no_label Onward o e = elim o [ inl x ↦ x | inr x ↦ x ]
no_label ByBreak o e = e
no_label ByContinue o e = e

-- behind the condition at the end of a turn
turn_ends : (h : Shape) (a : TStmtT) (x : TExprT) (n m : ℕ) (b c : Nodes) (fs : Frames) (q : Point ℕ) → Leads (at fs c) q
    → Leads (at (Looped b c ∷ fs) (coded (low_test h x (n + stmt_temps a) (n + stmt_temps a + 1) (m + length (stmt_sizes h a))) (Choose (n + stmt_temps a) (Again 0 Stop) Stop Stop))) q
turn_ends h a x n m b c fs q l = loop_passes h x (n + stmt_temps a) (n + stmt_temps a + 1) (m + length (stmt_sizes h a)) (Again 0 Stop) b c fs q l

jump_leads : (j : Jump) (c : Nodes) (fs : Frames) (q : Point ℕ) → OneLeads (jumped j fs) q → Leads (at fs (coded (jump j) c)) q
jump_leads (ToEnd k) c fs q l = leave_leads l
jump_leads (ToTurn k) c fs q l = again_leads l

broken : (w : Way) (b : ℕ) (j : Jump) (c : Nodes) (fs : Frames) (q : Point ℕ) → IsBreak w → Going w b j fs c q → Leads (at fs (Leave b c)) q
broken Onward b j c fs q o g = absurd o
broken ByBreak b j c fs q o g = leave_leads g
broken ByContinue b j c fs q o g = absurd o

continued : (w : Way) (b : ℕ) (j : Jump) (c : Nodes) (fs : Frames) (q : Point ℕ) → IsContinue w → Going w b j fs c q → Leads (at fs (coded (jump j) c)) q
continued Onward b j c fs q o g = absurd o
continued ByBreak b j c fs q o g = absurd o
continued ByContinue b j c fs q o g = jump_leads j c fs q g

-- inside the arms of a switch, of which `break` leaves the block
in_arms : (w : Way) (b : ℕ) (j : Jump) (fs : Frames) (c : Nodes) (q : Point ℕ) → IsContinue w → Going w b j fs c q → OneLeads (jumped (further j) (Blocked c ∷ fs)) q
in_arms Onward b j fs c q o g = absurd o
in_arms ByBreak b j fs c q o g = absurd o
in_arms ByContinue b j fs c q o g = jumped_blocked j fs c q g

-- a condition does not hold
not_chosen : (h : Shape) (test : Option TExprT) (n m : ℕ) (turn : Piece) (b c : Nodes) (fs : Frames) (q : Point ℕ) → HasTest test → Leads (at fs c) q → Leads (at (Looped b c ∷ fs) (coded (low_chosen h test n m turn) Stop)) q
not_chosen h None n m turn b c fs q has l = absurd has
not_chosen h (Some x) n m turn b c fs q has l = loop_passes h x n (n + 1) m (coded turn Stop) b c fs q l

mutual
  pub stmt_way : (h : Shape) (ty : Ty) (w : Way) (a : TStmtT) (n m b : ℕ) (j : Jump) (c : Nodes) (fs : Frames) (q : Point ℕ) → Leaves w a → Going w b j fs c q → Leads (at fs (coded (low_stmt h ty a n m b j) c)) q
  stmt_way h ty w (BlockZ ks body) n m b j c fs q l g = made_leads ks _ fs q (stmts_way h ty w body n m b j c fs q l g)
  stmt_way h ty w EmptyZ n m b j c fs q l g = straight_on w b j fs c q l g
  stmt_way h ty w (VarsZ vars) n m b j c fs q l g = vars_leads h vars n m c fs q (straight_on w b j fs c q l g)
  stmt_way h ty w (DoZ x) n m b j c fs q l g = low_value_passes h x n (n + 1) m c fs q (straight_on w b j fs c q l g)
  stmt_way h ty w (IfZ x a rest) n m b j c fs q l g = low_test_passes h x n (n + 1) m _ fs q (elim l [
    | inl r ↦ first_way (stmt_way h ty w a (second x n) (beyond h x m) b j Stop (Branched c ∷ fs) q r (branched w b j fs c q g))
    | inr r ↦ second_way (other_way h ty w rest (second x n + stmt_temps a) (beyond h x m + length (stmt_sizes h a)) b j Stop (Branched c ∷ fs) q r (branched w b j fs c q g))
  ])
  stmt_way h ty w (WhileZ x a) n m b j c fs q l g = into_loop (loop_passes h x n (n + 1) m _ _ c fs q (straight_on w b j fs c q l g))
  stmt_way h ty w (DoWhileZ a x) n m b j c fs q l g =
      let behind = straight_on w b j fs c q l.0 g in
      into_loop (into_block (elim l.1 [
        | inl r ↦ stmt_way h ty Onward a n m 1 (ToEnd 0) Stop _ q r (block_ends (turn_ends h a x n m _ c fs q behind))
        | inr r ↦ elim r [
          | inl s ↦ stmt_way h ty ByBreak a n m 1 (ToEnd 0) Stop _ q s (inl behind)
          | inr s ↦ stmt_way h ty ByContinue a n m 1 (ToEnd 0) Stop _ q s (inl (turn_ends h a x n m _ c fs q behind))
        ]
      ]))
  stmt_way h ty w (ForZ ks first test step a) n m b j c fs q l g =
      let behind = straight_on w b j fs c q l.0 g in
      let body : (u v : ℕ) → Piece = λ u v. low_stmt h ty a u v 1 (ToEnd 0) in
      made_leads ks _ fs q (other_way h ty Onward first n m b j _ fs q l.1 (elim l.2 [
        | inl r ↦ into_loop (not_chosen h test (n + other_temps first) (m + length (other_sizes h first)) (one_turn h test step a body (n + other_temps first) (m + length (other_sizes h first))) _ c fs q r behind)
        | inr r ↦ into_turn h test step a body (n + other_temps first) (m + length (other_sizes h first)) c fs q
            (stmt_way h ty ByBreak a (n + other_temps first + maybe_temps test) (m + length (other_sizes h first) + length (maybe_sizes h test)) 1 (ToEnd 0) Stop
            (for_frames h test step a body (n + other_temps first) (m + length (other_sizes h first)) c fs) q r
            (breaks_turn h test step a body (n + other_temps first) (m + length (other_sizes h first)) c fs q behind))
      ]))
  stmt_way h ty w (SwitchZ x ks arms) n m b j c fs q l g =
      low_value_passes h x n (n + 1) m _ fs q (into_block (switch_leads ks arms n m _ fs q (made_leads ks _ fs q (into_block (elim l [
        | inl r ↦ (let behind = straight_on w b j fs c q r.0 g in elim r.1 [
          | inl s ↦ arms_passed h ty n arms (second x n) (beyond h x m) 0 (further j) (Blocked c ∷ fs) q (block_ends behind)
          | inr s ↦ elim s [
            | inl u ↦ from_way h ty Onward n arms (second x n) (beyond h x m) 0 (further j) (Blocked c ∷ fs) q u (block_ends behind)
            | inr u ↦ from_way h ty ByBreak n arms (second x n) (beyond h x m) 0 (further j) (Blocked c ∷ fs) q u (inl behind)
          ]
        ])
        | inr r ↦ from_way h ty ByContinue n arms (second x n) (beyond h x m) 0 (further j) (Blocked c ∷ fs) q r.1 (in_arms w b j fs c q r.0 g)
      ])))))
  stmt_way h ty w (ReturnZ e) n m b j c fs q l g = absurd l
  stmt_way h ty w BreakZ n m b j c fs q l g = broken w b j c fs q l g
  stmt_way h ty w ContinueZ n m b j c fs q l g = continued w b j c fs q l g

  pub other_way : (h : Shape) (ty : Ty) (w : Way) (a : MaybeZ) (n m b : ℕ) (j : Jump) (c : Nodes) (fs : Frames) (q : Point ℕ) → LeavesOther w a → Going w b j fs c q → Leads (at fs (coded (low_other h ty a n m b j) c)) q
  other_way h ty w NoneZ n m b j c fs q l g = straight_on w b j fs c q l g
  other_way h ty w (SomeZ a) n m b j c fs q l g = stmt_way h ty w a n m b j c fs q l g

  stmts_way : (h : Shape) (ty : Ty) (w : Way) (all : TStmtTs) (n m b : ℕ) (j : Jump) (c : Nodes) (fs : Frames) (q : Point ℕ) → LeavesAll w all → Going w b j fs c q → Leads (at fs (coded (low_stmts h ty all n m b j) c)) q
  stmts_way h ty w NoZ n m b j c fs q l g = straight_on w b j fs c q l g
  stmts_way h ty w (MoreZ a rest) n m b j c fs q l g = elim l [
    | inl r ↦ stmt_way h ty Onward a n m b j _ fs q r.0 (stmts_way h ty w rest (n + stmt_temps a) (m + length (stmt_sizes h a)) b j c fs q r.1 g)
    | inr r ↦ stmt_way h ty w a n m b j _ fs q r.1 (jumps_off w b j fs c _ q r.0 g)
  ]

  -- from inside a group on
  arms_way : (h : Shape) (ty : Ty) (w : Way) (t : ℕ) (arms : TArmTs) (n m b : ℕ) (j : Jump) (fs : Frames) (q : Point ℕ) → LeavesArms w arms → Going w b j fs Stop q
      → Leads (at (Branched (coded (low_arms h ty t arms n m b j) Stop) ∷ fs) (coded (low_group h ty arms n m b j) Stop)) q
  arms_way h ty w t NoB n m b j fs q l g = way_ends (straight_on w b j fs Stop q l g)
  arms_way h ty w t (MoreB (CaseB label) rest) n m b j fs q l g = elim l [
    | inl r ↦ way_ends (second_way (arms_way h ty w t rest n m b j fs q r.1 g))
    | inr r ↦ absurd (no_label w r.0 r.1)
  ]
  arms_way h ty w t (MoreB DefaultB rest) n m b j fs q l g = elim l [
    | inl r ↦ way_ends (second_way (arms_way h ty w t rest n m b j fs q r.1 g))
    | inr r ↦ absurd (no_label w r.0 r.1)
  ]
  arms_way h ty w t (MoreB (StmtB a) rest) n m b j fs q l g = elim l [
    | inl r ↦ stmt_way h ty Onward a n m b j _ _ q r.0 (arms_way h ty w t rest (n + stmt_temps a) (m + length (stmt_sizes h a)) b j fs q r.1 g)
    | inr r ↦ stmt_way h ty w a n m b j _ _ q r.1 (grouped w b j fs _ Stop _ q r.0 g)
  ]

  -- from one of the labels on
  from_way : (h : Shape) (ty : Ty) (w : Way) (t : ℕ) (arms : TArmTs) (n m b : ℕ) (j : Jump) (fs : Frames) (q : Point ℕ) → LeavesFrom w arms → Going w b j fs Stop q → Leads (at fs (coded (low_arms h ty t arms n m b j) Stop)) q
  from_way h ty w t NoB n m b j fs q l g = absurd l
  from_way h ty w t (MoreB (CaseB label) rest) n m b j fs q l g = elim l [
    | inl r ↦ second_way (arms_way h ty w t rest n m b j fs q r.1 g)
    | inr r ↦ first_way (doing tt (way_ends (from_way h ty w t rest n m b j fs q r g)))
  ]
  from_way h ty w t (MoreB DefaultB rest) n m b j fs q l g = elim l [
    | inl r ↦ second_way (arms_way h ty w t rest n m b j fs q r.1 g)
    | inr r ↦ first_way (doing tt (way_ends (from_way h ty w t rest n m b j fs q r g)))
  ]
  from_way h ty w t (MoreB (StmtB a) rest) n m b j fs q l g = elim l [
    | inl r ↦ absurd r.0
    | inr r ↦ from_way h ty w t rest (n + stmt_temps a) (m + length (stmt_sizes h a)) b j fs q r g
  ]
