-- Statements: the parts of following them.
use Rattle.std.proofs.Common.{◌≡◌, ℕ, ◌+◌, ◌*◌, ◌<◌, ◌≤◌, true, false, eqb, List, Some, None, refl, sym, ap, ◌∙◌, subst, arith}
use Rattle.c_types.specs.Types.{Ty}
use Rattle.obj_mem.specs.Objects.{ObjectT}
use Rattle.obj_mem.specs.declared.cell.Cell.{Cell}
use Rattle.obj_mem.specs.Worlds.{World, spend}
use Rattle.c_meaning.specs.Outcomes.{Done, Goes, Breaks, Continues, Returns, Ended, then_done}
use Rattle.c_meaning.specs.Statements.{body_done}
use Rattle.c_types.specs.Kinds.{is_structure}
use Rattle.mid_code.specs.Code.{NodesT, Stop, Again}
use Rattle.mid_code.specs.Meaning.{Res, Next, Leaves, Repeats, Over, then_next, block_done, turn_done, did}
use Rattle.mid_code.specs.Meaning as res
use Rattle.mid_code.specs.inner.Passing.{Prefix}
use Rattle.lower_trees.specs.Parts.{result_at}
use Rattle.lower_trees.specs.Statements.{Jump, ToEnd, ToTurn}
use Rattle.mid_lower.proofs.Grows.{Mid, Grows, more, then_grows, block_grows, turn_grows}
use Rattle.mid_lower.proofs.Lives.{Later, later_then}
use Rattle.mid_lower.proofs.Fits.{Site}
use Rattle.mid_lower.proofs.Giving.{Giving, Given}
use Rattle.mid_lower.proofs.Following.{Fit, events_of, Side, mk, Goal, base_of, Stays, restay, stays_then, stays_here, Now, Out, Kept, Way, scratch, paid, paid_now, less_now, kept_wider, kept_through, eqb_more, M, M_grows}

abbrev pub jumped : Jump → Mid → Res Mid
jumped (ToEnd k) t = Leaves k t
jumped (ToTurn k) t = Repeats k t

-- Mid code does what the tree does: it goes on by k, leaves the b-th part, or jumps by j. What a function returns is what it gives.
abbrev pub SimD : Giving → Goal → ℕ → Jump → (Mid → Res Mid) → Done → Res Mid → Type 0
SimD v γ b j k (Goes w) m = (x : Side) × (m ≡ k (mk w x)) × Now γ 0 w x
SimD v γ b j k (Breaks w) m = (x : Side) × (m ≡ Leaves b (mk w x)) × Now γ 0 w x
SimD v γ b j k (Continues w) m = (x : Side) × (m ≡ jumped j (mk w x)) × Now γ 0 w x
SimD v γ b j k (Returns None w) m = (x : Side) × (m ≡ res.Returns (mk w x)) × Out γ w x
SimD v γ b j k (Returns (Some c) w) m = (x : Side) × (m ≡ res.Returns (mk w x)) × Out γ w x × Given v c x
SimD v γ b j k (Ended f w) m = Kept γ f w m

abbrev pub way_d : Giving → (γ : Goal) → ℕ → Jump → (Mid → Res Mid) → Way γ
way_d v γ b j k = record { R = Done; stop = Ended; T = SimD v γ b j k; stops = λ f w m h. h }

-- among statements the temporaries of initialisers are passed over too
abbrev pub with_spare : (less from ends n : ℕ) → World → Side → Goal
with_spare less from ends n w x = record { at = 0; first = n; skip = 2; temps = x.temps; less = less; from = from; ends = ends; base = base_of w x }

abbrev pub plain : ℕ → World → Side → Goal
plain n w x = with_spare (64 * w.work) x.work 0 n w x

-- a statement leaves of its work what a turn of a loop costs
abbrev pub stmt : ℕ → World → Side → Goal
stmt n w x = with_spare (64 * w.work + 40) x.work 40 n w x

-- a further turn of a loop takes over what is left of the turn before
abbrev pub turning : ℕ → World → Side → Goal
turning n w x = with_spare (64 * w.work) (x.work + 24) 0 n w x

abbrev pub more_for : Goal → Goal
more_for γ = record γ { less = γ.less + 24; ends = γ.ends + 24 }

-- ---- the place of a structure that is returned

-- It stands in its temporary, where a result of this type is a structure.
abbrev pub AtPlace : Ty → (place : Cell) → (ℕ → Cell) → Type 0
AtPlace ty r temps = is_structure ty ≡ true → temps result_at ≡ r

-- so it does on every way to a goal
abbrev pub HasPlace : Ty → (place : Cell) → Goal → Type 0
HasPlace ty r γ = (temps : ℕ → Cell) → ((j : ℕ) → scratch + γ.skip ≤ j → j < γ.first → eqb j γ.at ≡ false → temps j ≡ γ.temps j) → AtPlace ty r temps

-- no statement sets that temporary
pub has_place : (ty : Ty) (r : Cell) (n : ℕ) (w : World) (x : Side) → result_at < n → AtPlace ty r x.temps → HasPlace ty r (plain n w x)
has_place ty r n w x lt at temps keep structure = keep result_at (omega arith) lt refl ∙ at structure

-- ---- after a part

-- the same for any goal at the same point
module _ (v : Giving) (γ γ' : Goal) (keeps : (i : ℕ) → scratch + γ.skip ≤ i → i < γ.first → eqb i γ.at ≡ false → (scratch + γ'.skip ≤ i) × (i < γ'.first) × (eqb i γ'.at ≡ false) × (γ'.temps i ≡ γ.temps i)) (cost : γ.less + γ'.from ≤ γ'.less + γ.from) (at_ends : γ.less + γ'.from + γ'.ends ≤ γ'.less + γ.from + γ.ends) (stays : (w : World) (x : Side) → Stays γ'.base w x → Stays γ.base w x) (later : (os : List ObjectT) → Later γ'.base.objects os → Later γ.base.objects os) where
  looser_now : (w : World) (x : Side) → Now γ' 0 w x → Now γ 0 w x
  looser_now w x h = record {
    stays = stays w x h.stays;
    below = λ i a b c. let k = keeps i a b c in h.below i k.0 k.1 k.2 ∙ k.3;
    cost = omega (arith, h.cost, cost);
  }

  looser_out : (w : World) (x : Side) → Out γ' w x → Out γ w x
  looser_out w x h = record { under = h.under; later = later w.store.objects h.later; cost = omega (arith, h.cost, cost) }

  pub looser : (b : ℕ) (j : Jump) (k : Mid → Res Mid) (d : Done) (q : Res Mid) → SimD v γ' b j k d q → SimD v γ b j k d q
  looser b j k (Goes w) q a = (a.0, a.1, looser_now w a.0 a.2)
  looser b j k (Breaks w) q a = (a.0, a.1, looser_now w a.0 a.2)
  looser b j k (Continues w) q a = (a.0, a.1, looser_now w a.0 a.2)
  looser b j k (Returns None w) q a = (a.0, a.1, looser_out w a.0 a.2)
  looser b j k (Returns (Some c) w) q a = (a.0, a.1, looser_out w a.0 a.2, a.3)
  looser b j k (Ended f w) q a = kept_wider γ γ' at_ends f w q a

-- behind statements whose own temporaries begin at m
module _ (γ : Goal) (skips : 2 ≤ γ.skip) (s m : ℕ) (w : World) (x : Side) (h : Now γ s w x) (le : γ.first ≤ m) where
  part_keeps : (i : ℕ) → scratch + γ.skip ≤ i → i < γ.first → eqb i γ.at ≡ false → (scratch + 2 ≤ i) × (i < m) × (eqb i 0 ≡ false) × (x.temps i ≡ γ.temps i)
  part_keeps i a b c = (omega (arith, a, skips), omega (arith, b, le), eqb_more i 0 (omega (arith, a)), h.below i a b c)

  pub after_stmt : (wa : World) (xa : Side) → Now (stmt m w x) 0 wa xa → Now γ (s + 40) wa xa
  after_stmt wa xa a = record {
    stays = stays_then γ.base w x wa xa h.stays a.stays;
    below = λ i c d e. let k = part_keeps i c d e in a.below i k.0 k.1 k.2 ∙ k.3;
    cost = omega (arith, h.cost, a.cost);
  }

  pub stmt_now : (wa : World) (xa : Side) → Now (plain m w x) 0 wa xa → Now γ s wa xa
  stmt_now wa xa a = record {
    stays = stays_then γ.base w x wa xa h.stays a.stays;
    below = λ i c d e. let k = part_keeps i c d e in a.below i k.0 k.1 k.2 ∙ k.3;
    cost = omega (arith, h.cost, a.cost);
  }

  -- the part's goal is met, so the whole's is
  pub wide : (v : Giving) (b : ℕ) (j : Jump) (k : Mid → Res Mid) (d : Done) (q : Res Mid) → SimD v (plain m w x) b j k d q → SimD v γ b j k d q
  wide v b j k d q a = looser v γ (plain m w x) part_keeps (omega (arith, h.cost)) (omega (arith, h.cost)) (λ wa xa. stays_then γ.base w x wa xa h.stays) (λ os. later_then γ.base.objects w.store.objects os h.stays.later) b j k d q a

  pub fin_stmt : (wa : World) (xa : Side) → Out (stmt m w x) wa xa → Out (more_for γ) wa xa
  fin_stmt wa xa a = record { under = a.under; later = later_then γ.base.objects w.store.objects wa.store.objects h.stays.later a.later; cost = omega (arith, h.cost, a.cost) }

  pub seqs : (v : Giving) (b : ℕ) (j : Jump) (k ka : Mid → Res Mid) (d : Done) (q : Res Mid) → SimD v (plain m w x) b j ka d q → (go : World → Done) → ((wa : World) (xa : Side) → Now γ s wa xa → SimD v γ b j k (go wa) (ka (mk wa xa))) → SimD v γ b j k (then_done d go) q
  seqs v b j k ka (Goes wa) q a go f = subst (λ r. SimD v γ b j k (go wa) r) (sym a.1) (f wa a.0 (stmt_now wa a.0 a.2))
  seqs v b j k ka (Breaks wa) q a go f = wide v b j ka (Breaks wa) q a
  seqs v b j k ka (Continues wa) q a go f = wide v b j ka (Continues wa) q a
  seqs v b j k ka (Returns None wa) q a go f = wide v b j ka (Returns None wa) q a
  seqs v b j k ka (Returns (Some c) wa) q a go f = wide v b j ka (Returns (Some c) wa) q a
  seqs v b j k ka (Ended g wa) q a go f = wide v b j ka (Ended g wa) q a

-- a further turn
pub turn_wide : (v : Giving) (γ : Goal) → 2 ≤ γ.skip → (m b : ℕ) (j : Jump) (k : Mid → Res Mid) (w : World) (x : Side) → Now γ 24 w x → γ.first ≤ m → (d : Done) (q : Res Mid) → SimD v (turning m w x) b j k d q → SimD v γ b j k d q
turn_wide v γ skips m b j k w x h le d q a =
    looser v γ (turning m w x) (λ i c e g. (omega (arith, c, skips), omega (arith, e, le), eqb_more i 0 (omega (arith, c)), h.below i c e g)) (omega (arith, h.cost)) (omega (arith, h.cost)) (λ wa xa. stays_then γ.base w x wa xa h.stays) (λ os. later_then γ.base.objects w.store.objects os h.stays.later) b j k d q a

-- a statement among others
pub stmt_plain : (v : Giving) (m b : ℕ) (j : Jump) (k : Mid → Res Mid) (w : World) (x : Side) (d : Done) (q : Res Mid) → SimD v (stmt m w x) b j k d q → SimD v (plain m w x) b j k d q
stmt_plain v m b j k w x d q a = looser v (plain m w x) (stmt m w x) (λ i c e g. (c, e, g, refl)) (omega arith) (omega arith) (λ wa xa p. p) (λ os p. p) b j k d q a

pub keep_more : (γ : Goal) (s : ℕ) (w : World) (x : Side) → 24 ≤ s → Now γ s w x → Now (more_for γ) 0 w x
keep_more γ s w x le h = record { stays = h.stays; below = h.below; cost = omega (arith, h.cost, le) }

give_more : (γ : Goal) (w : World) (x : Side) → Now (more_for γ) 0 w x → Now γ 24 w x
give_more γ w x h = record { stays = h.stays; below = h.below; cost = omega (arith, h.cost) }

more_fin : (γ : Goal) (w : World) (x : Side) → Out (more_for γ) w x → Out γ w x
more_fin γ w x h = record { under = h.under; later = h.later; cost = omega (arith, h.cost) }

pub more_now : (γ : Goal) (s0 : ℕ) (w : World) (x : Side) → Now γ (s0 + 24) w x → Now (more_for γ) s0 w x
more_now γ s0 w x h = record { stays = h.stays; below = h.below; cost = omega (arith, h.cost) }

pub begin_stmt : (m : ℕ) (w : World) (x : Side) → Fit w x → Now (stmt m w x) 24 (spend 1 w) x
begin_stmt m w x u = record { stays = restay (base_of w x) w x (spend 1 w) x refl refl refl refl (stays_here w x u); below = λ j sc lt ne. refl; cost = omega arith }

pub here : (m : ℕ) (w : World) (x : Side) → Fit w x → Now (plain m w x) 0 w x
here m w x u = record { stays = stays_here w x u; below = λ j sc lt ne. refl; cost = omega arith }

pub turn_now : (m : ℕ) (w : World) (x : Side) → Fit w x → Now (turning m w x) 24 w x
turn_now m w x u = record { stays = stays_here w x u; below = λ j sc lt ne. refl; cost = omega arith }

-- ---- turns of loops

-- the body of a turn, where a continue goes to what follows
abbrev pub inner : Done → (World → Done) → Done
inner (Goes w) go = go w
inner (Breaks w) go = Breaks w
inner (Continues w) go = go w
inner (Returns c w) go = Returns c w
inner (Ended f w) go = Ended f w

-- a loop's turn that goes on has come to its next turn
abbrev pub loop_end : Done → (World → Done) → Done
loop_end (Goes w) again = Goes w
loop_end (Breaks w) again = Goes w
loop_end (Continues w) again = again w
loop_end (Returns c w) again = Returns c w
loop_end (Ended f w) again = Ended f w

pub inner_is : (d : Done) (go go' again : World → Done) → ((w : World) → go w ≡ loop_end (go' w) again) → body_done d go ≡ loop_end (inner d go') again
inner_is (Goes w) go go' again e = e w
inner_is (Breaks w) go go' again e = refl
inner_is (Continues w) go go' again e = e w
inner_is (Returns c w) go go' again e = refl
inner_is (Ended f w) go go' again e = refl

module _ (S : Site) (v : Giving) where
  abbrev R : NodesT ℕ → Mid → Res Mid
  R = M S

  abbrev R_grows : (c : NodesT ℕ) (t : Mid) → Grows t (R c t)
  R_grows = M_grows S

  abbrev k_next : Mid → Res Mid
  k_next t = Next t

  pub through : (γ : Goal) (b : ℕ) (j : Jump) (c : NodesT ℕ) (d : Done) (q : Res Mid) → SimD v γ b j k_next d q → SimD v γ b j (R c) d (then_next q (R c))
  through γ b j c (Goes w) q a = (a.0, ap (λ r. then_next r (R c)) a.1, a.2)
  through γ b j c (Breaks w) q a = (a.0, ap (λ r. then_next r (R c)) a.1, a.2)
  through γ b (ToEnd k) c (Continues w) q a = (a.0, ap (λ r. then_next r (R c)) a.1, a.2)
  through γ b (ToTurn k) c (Continues w) q a = (a.0, ap (λ r. then_next r (R c)) a.1, a.2)
  through γ b j c (Returns None w) q a = (a.0, ap (λ r. then_next r (R c)) a.1, a.2)
  through γ b j c (Returns (Some z) w) q a = (a.0, ap (λ r. then_next r (R c)) a.1, a.2, a.3)
  through γ b j c (Ended f w) q a = kept_through γ f w q (λ r. then_next r (R c)) (λ g t. refl) (λ r. then_grows r (R c) (R_grows c)) a

  module _ (γ : Goal) (skips : 2 ≤ γ.skip) (m : ℕ) (w : World) (x : Side) (h : Now γ 0 w x) (le : γ.first ≤ m) where
    -- a turn's body, after which comes the next turn
    pub turns : (d : Done) (q : Res Mid) → SimD v (stmt m w x) 0 (ToTurn 0) (R (Again 0 Stop)) d q → SimD v (more_for γ) 0 (ToTurn 0) k_next (inner d (λ u. Continues u)) q
    turns (Goes wa) q a = (paid a.0, a.1, keep_more γ 32 wa (paid a.0) (omega arith) (paid_now γ 32 wa a.0 (after_stmt γ skips 0 m w x h le wa a.0 a.2)))
    turns (Breaks wa) q a = (a.0, a.1, keep_more γ 40 wa a.0 (omega arith) (after_stmt γ skips 0 m w x h le wa a.0 a.2))
    turns (Continues wa) q a = (a.0, a.1, keep_more γ 40 wa a.0 (omega arith) (after_stmt γ skips 0 m w x h le wa a.0 a.2))
    turns (Returns None wa) q a = (a.0, a.1, fin_stmt γ skips 0 m w x h le wa a.0 a.2)
    turns (Returns (Some c) wa) q a = (a.0, a.1, fin_stmt γ skips 0 m w x h le wa a.0 a.2, a.3)
    turns (Ended f wa) q a = kept_wider (more_for γ) (stmt m w x) (omega (arith, h.cost)) f wa q a

    -- a turn's body in a block, of which a continue goes to the end
    pub blocks : (c : NodesT ℕ) (d : Done) (q : Res Mid) → SimD v (stmt m w x) 1 (ToEnd 0) k_next d q → (go : World → Done) → ((wa : World) (xa : Side) → Now γ 40 wa xa → SimD v (more_for γ) 0 (ToTurn 0) k_next (go wa) (R c (mk wa xa))) → SimD v (more_for γ) 0 (ToTurn 0) k_next (inner d go) (then_next (block_done q) (R c))
    blocks c (Goes wa) q a go f = subst (λ r. SimD v (more_for γ) 0 (ToTurn 0) k_next (go wa) (then_next (block_done r) (R c))) (sym a.1) (f wa a.0 (after_stmt γ skips 0 m w x h le wa a.0 a.2))
    blocks c (Continues wa) q a go f = subst (λ r. SimD v (more_for γ) 0 (ToTurn 0) k_next (go wa) (then_next (block_done r) (R c))) (sym a.1) (f wa a.0 (after_stmt γ skips 0 m w x h le wa a.0 a.2))
    blocks c (Breaks wa) q a go f = (a.0, ap (λ r. then_next (block_done r) (R c)) a.1, keep_more γ 40 wa a.0 (omega arith) (after_stmt γ skips 0 m w x h le wa a.0 a.2))
    blocks c (Returns None wa) q a go f = (a.0, ap (λ r. then_next (block_done r) (R c)) a.1, fin_stmt γ skips 0 m w x h le wa a.0 a.2)
    blocks c (Returns (Some z) wa) q a go f = (a.0, ap (λ r. then_next (block_done r) (R c)) a.1, fin_stmt γ skips 0 m w x h le wa a.0 a.2, a.3)
    blocks c (Ended g wa) q a go f = kept_through (more_for γ) g wa q (λ r. then_next (block_done r) (R c)) (λ i t. refl) (λ r. more _ _ _ (block_grows r) (then_grows (block_done r) (R c) (R_grows c))) (kept_wider (more_for γ) (stmt m w x) (omega (arith, h.cost)) g wa q a)

  pub loop_through : (lb c : NodesT ℕ) (r : Res Mid) → Prefix (events_of r) (events_of (then_next (turn_done r (S.prev' lb)) (R c)))
  loop_through lb c r = more _ _ _ (turn_grows r (S.prev' lb) (S.grows lb)) (then_grows (turn_done r (S.prev' lb)) (R c) (R_grows c))

  -- what comes to an outcome within a loop
  abbrev pub way_loop : (γ : Goal) → ℕ → Jump → (lb c : NodesT ℕ) → Way γ
  way_loop γ b j lb c = record { R = Done; stop = Ended; T = λ d q. SimD v γ b j (R c) d (then_next (turn_done q (S.prev' lb)) (R c)); stops = λ f w q a. kept_through γ f w q (λ r. then_next (turn_done r (S.prev' lb)) (R c)) (λ h t. refl) (loop_through lb c) a }

  -- a loop, where the further turns have one less of the bound
  pub loops : (γ : Goal) (b : ℕ) (j : Jump) (lb c : NodesT ℕ) (d : Done) (q : Res Mid) → SimD v (more_for γ) 0 (ToTurn 0) k_next d q → (again : World → Done) → ((wa : World) (xa : Side) → Now γ 24 wa xa → SimD v γ b j k_next (again wa) (S.prev' lb (mk wa xa))) → SimD v γ b j (R c) (loop_end d again) (then_next (turn_done q (S.prev' lb)) (R c))
  loops γ b j lb c (Goes w) q a again f = (a.0, ap (λ r. then_next (turn_done r (S.prev' lb)) (R c)) a.1, less_now γ 24 w a.0 (give_more γ w a.0 a.2))
  loops γ b j lb c (Breaks w) q a again f = (a.0, ap (λ r. then_next (turn_done r (S.prev' lb)) (R c)) a.1, less_now γ 24 w a.0 (give_more γ w a.0 a.2))
  loops γ b j lb c (Continues w) q a again f = subst (λ r. SimD v γ b j (R c) (again w) (then_next (turn_done r (S.prev' lb)) (R c))) (sym a.1) (through γ b j c (again w) (S.prev' lb (mk w a.0)) (f w a.0 (give_more γ w a.0 a.2)))
  loops γ b j lb c (Returns None w) q a again f = (a.0, ap (λ r. then_next (turn_done r (S.prev' lb)) (R c)) a.1, more_fin γ w a.0 a.2)
  loops γ b j lb c (Returns (Some z) w) q a again f = (a.0, ap (λ r. then_next (turn_done r (S.prev' lb)) (R c)) a.1, more_fin γ w a.0 a.2, a.3)
  loops γ b j lb c (Ended g w) q a again f = kept_through γ g w q (λ r. then_next (turn_done r (S.prev' lb)) (R c)) (λ h t. refl) (loop_through lb c) (kept_wider γ (more_for γ) (omega arith) g w q a)
