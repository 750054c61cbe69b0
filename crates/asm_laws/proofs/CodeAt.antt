-- Items of structured code that stand among the words are code that stands there.
use Rattle.v32_isa.specs.declared.instruction.Branch.TheVariants.{JT}
use Rattle.std.proofs.lemmas.Bool.Decides.{nat_tests}
use Rattle.std.specs.Prelude.{◌&&◌, ◌==◌}
use Rattle.std.proofs.Common.{◌≡◌, ℕ, zero, suc, ◌+◌, ◌-◌, ◌^◌, ◌<◌, ◌⊎◌, inl, inr, Bool, true, false, cond, List, [], ◌∷◌, ◌++◌, length, Option, Some, None, refl, sym, ap, ◌∙◌, subst, arith, length-append}
use Rattle.kit_base.specs.Word.{add}
use Rattle.v32_isa.specs.declared.instruction.Go.TheVariants.{JMP}
use Rattle.v32_isa.specs.declared.instruction.Src.TheVariants as src
use Rattle.v32_isa.specs.declared.instruction.Instr.TheVariants as instr
use Rattle.asm_items.specs.declared.item.AsmItem.{AsmItem}
use Rattle.mid_code.specs.declared.placed.Where.{Where}
use Rattle.mid_code.specs.Code.{OpT, NodesT, Stop, Do, Call, Choose, Block, Loop, Leave, Again, Return, CodeT}
use Rattle.mid_code.specs.Invariants.{AreNodes}
use Rattle.asm_laws.specs.Names.{jump_label}
use Rattle.asm_laws.specs.declared.made.Made.{Made}
use Rattle.asm_laws.specs.Operations.{Frame, hand, brings, giving, call_items, group_items, group_more, made_of, made_items, made_or, made_more}
use Rattle.asm_laws.specs.declared.behind.Behind.{Behind}
use Rattle.asm_laws.specs.declared.behind.Behind.TheVariants.{Other, End, Turn}
use Rattle.asm_laws.specs.inner.Emitted.{labels, enclosing, jump, jump_unless, mark, jump_when, choice, first_part, second_part, left_to, alone, ends, is_stop, enclosed, leaving, left_by, items_past, code_items, inside, is_end, is_turn, again, looped, is_tested, is_round, part_items, test_items}
use Rattle.asm_laws.specs.Placing.{Line, Bounds, end_of, begin_of, owed, paid, Jumps, Passes, Begins, Past, At}
use Rattle.asm_laws.specs.Standing.{Stand}
use Rattle.asm_laws.specs.declared.copying.Copying.{Copying}
use Rattle.asm_laws.specs.Copies.{copy_at, copy_or}
use Rattle.asm_laws.specs.Asks.{ask_of, ask_or}
use Rattle.asm_laws.specs.Live.{live_soon, ahead}
use Rattle.asm_laws.specs.Holds.{Setting}
use Rattle.asm_laws.specs.Calling.{ExitAt}
use Rattle.asm_laws.specs.Program.{items_at}
use Rattle.asm_laws.proofs.Split.{split}
use Rattle.asm_laws.proofs.Control.{end_paid, begin_paid}
use Rattle.asm_laws.proofs.Enclosing.{innermost, further}
use Rattle.asm_laws.proofs.Known.{loop_there}
use Rattle.asm_laws.proofs.Leaving.{left_is}
use Rattle.asm_laws.proofs.Results.{Gives, made_gives, not_tested, NoResult, group_none}

abbrev Few : ℕ → Type 0
Few n = n < 2 ^ 32 - 1

stops : (c : NodesT Where) → is_stop c ≡ true → c ≡ Stop
stops Stop e = refl
stops (Do o c) e = absurd cc
stops (Call t g args c) e = absurd cc
stops (Choose p a b c) e = absurd cc
stops (Block b c) e = absurd cc
stops (Loop b c) e = absurd cc
stops (Leave k c) e = absurd cc
stops (Again k c) e = absurd cc
stops (Return p c) e = absurd cc

not_zero : (k : ℕ) → (suc k == 0) ≡ false
not_zero k = grind (arith, nat_tests)

-- what leaves a function stands where it ends, and what leaves the start goes there
abbrev pub Leaves : Setting → ℕ → Option ℕ → Type 0
Leaves S f out = (p q : ℕ) → Stand S.console.words S.address p (leaving (S.whole.frames f) out) q → (z : ℕ) × Passes S.console.words p z × ExitAt S f z

pub function_leaves : (S : Setting) (f : ℕ) → S.called_as f ≡ Some f → Leaves S f None
function_leaves S f called p q h = (p, inr refl, inr (called, q, h))

pub start_leaves : (S : Setting) (f n : ℕ) → S.address (jump_label n) ≡ S.leaves f → Leaves S f (Some n)
start_leaves S f n at p q h = (S.leaves f, inl (h.0, subst (λ z. Line S.console.words p (instr.Go JMP (src.Imm z)) h.0) at h.1), inl refl)

module _ (S : Setting) (f : ℕ) (out : Option ℕ) (leave : Leaves S f out) where
  abbrev label : ℕ → ℕ
  label n = S.address (jump_label n)

  abbrev F : Frame
  F = S.whole.frames f

  abbrev items : List ℕ → ℕ → NodesT Where → List AsmItem
  items = code_items S.whole (S.whole.frames f) out

  abbrev past : (last : Behind) → List ℕ → ℕ → NodesT Where → (done : ℕ) → List AsmItem
  past = items_past S.whole (S.whole.frames f) out

  abbrev CodeAt : List Bounds → ℕ → NodesT Where → ℕ → Type 0
  CodeAt = At (items_at S) f

  abbrev Here : ℕ → List AsmItem → ℕ → Type 0
  Here = Stand S.console.words S.address

  abbrev parts : (a b : List AsmItem) (pc e : ℕ) → Here pc (a ++ b) e → (q : ℕ) × Here pc a q × Here q b e
  parts = split S.console.words S.address

  -- the labels of the enclosing blocks and loops are where these begin and end
  pub record Enclose (ls : List ℕ) (es : List Bounds) : Type 0 where
    pub few : (k : ℕ) → k < length ls → Few (enclosing ls k)
    pub ends : (k : ℕ) → k < length ls → end_of es k ≡ label (enclosing ls k + 1)
    pub begins : (k : ℕ) → k < length ls → begin_of es k ≡ label (enclosing ls k)

  enter : (ls : List ℕ) (es : List Bounds) (n : ℕ) → Few n → Enclose ls es → Enclose (ls ++ n ∷ []) (record { begins = label n; ends = label (n + 1); owes = true } ∷ es)
  enter ls es n few en = record {
    few = few_of;
    ends = ends_of;
    begins = begins_of;
  }
    where
      below : (k : ℕ) → suc k < length (ls ++ n ∷ []) → k < length ls
      below k lt = let h = length-append ls (n ∷ []) in omega (arith, h)

      few_of : (k : ℕ) → k < length (ls ++ n ∷ []) → Few (enclosing (ls ++ n ∷ []) k)
      few_of zero lt = omega (arith, innermost ls n)
      few_of (suc k) lt = omega (arith, further ls n k lt, en.few k (below k lt))

      ends_of : (k : ℕ) → k < length (ls ++ n ∷ []) → end_of (record { begins = label n; ends = label (n + 1); owes = true } ∷ es) k ≡ label (enclosing (ls ++ n ∷ []) k + 1)
      ends_of zero lt = ap (λ m. label (m + 1)) (sym (innermost ls n))
      ends_of (suc k) lt = en.ends k (below k lt) ∙ ap (λ m. label (m + 1)) (sym (further ls n k lt))

      begins_of : (k : ℕ) → k < length (ls ++ n ∷ []) → begin_of (record { begins = label n; ends = label (n + 1); owes = true } ∷ es) k ≡ label (enclosing (ls ++ n ∷ []) k)
      begins_of zero lt = ap label (sym (innermost ls n))
      begins_of (suc k) lt = en.begins k (below k lt) ∙ ap label (sym (further ls n k lt))

  paid_for : (ls : List ℕ) (es : List Bounds) → Enclose ls es → Enclose ls (paid es)
  paid_for ls es en = record { few = en.few; ends = λ k lt. end_paid es k ∙ en.ends k lt; begins = λ k lt. begin_paid es k ∙ en.begins k lt }

  jumps_to : (pc next a b : ℕ) → Line S.console.words pc (instr.Go JMP (src.Imm a)) next → a ≡ b → Jumps S.console.words pc b
  jumps_to pc next a b h e = (next, subst (λ t. Line S.console.words pc (instr.Go JMP (src.Imm t)) next) e h)

  from : (es : List Bounds) (pc q e : ℕ) (c : NodesT Where) → pc ≡ q → CodeAt es pc c e → CodeAt es q c e
  from es pc q e c same h = subst (λ n. CodeAt es n c e) same h

  upto : (es : List Bounds) (pc e q : ℕ) (c : NodesT Where) → e ≡ q → CodeAt es pc c e → CodeAt es pc c q
  upto es pc e q c same h = subst (λ n. CodeAt es pc c n) same h

  -- what is known of the ends of nodes
  abbrev Over : List Bounds → Behind → ℕ → Type 0
  Over es Other e = Unit {0}
  Over es End e = e ≡ S.leaves f
  Over es Turn e = (owed es 0 ≡ false) × (e ≡ begin_of es 0)

  moved : (es : List Bounds) (last : Behind) (p q : ℕ) → p ≡ q → Over es last q → Over es last p
  moved es last p q same over = subst (λ z. Over es last z) (sym same) over

  shut : (es : List Bounds) (c : NodesT Where) (last : Behind) (ls : List ℕ) (n q e : ℕ) → Over es last e → Here q (past last ls n c zero) e → Over es (ends last c) q
  shut es Stop last ls n q e over h = moved es last q e h over
  shut es (Do o c) last ls n q e over h = tt
  shut es (Call t g args c) last ls n q e over h = tt
  shut es (Choose p a b c) last ls n q e over h = tt
  shut es (Block b c) last ls n q e over h = tt
  shut es (Loop b c) last ls n q e over h = tt
  shut es (Leave k c) last ls n q e over h = tt
  shut es (Again k c) last ls n q e over h = tt
  shut es (Return p c) last ls n q e over h = tt

  -- in a part of a choice, and inside of a block or loop
  still_paid : (es : List Bounds) → owed es 0 ≡ false → owed (paid es) 0 ≡ false
  still_paid [] e = e
  still_paid (l ∷ es) e = refl

  in_part : (es : List Bounds) (last : Behind) (e : ℕ) → Over es last e → Over (paid es) last e
  in_part es Other e over = tt
  in_part es End e over = over
  in_part es Turn e over = (still_paid es over.0, over.1 ∙ sym (begin_paid es 0))

  in_body : (es around : List Bounds) (last : Behind) (e : ℕ) → Over es last e → Over around (inside last) e
  in_body es around Other e over = tt
  in_body es around End e over = over
  in_body es around Turn e over = tt

  -- a choice, with nothing in its second part or something
  chosen : (w : Where) (a b c : NodesT Where) (es : List Bounds) (n m pc e : ℕ) (last : Behind) (to : Option ℕ) (one first two rest : List AsmItem) (t : Bool) → is_stop b ≡ t → ((q : ℕ) → Here q rest e → Over (paid es) last q) →
      ((l : ℕ) → to ≡ Some l → (k : ℕ) × (a ≡ Leave k Stop) × (end_of (paid es) k ≡ label l)) →
      ((p q : ℕ) → Over (paid es) last q → Here p one q → CodeAt (paid es) p a q) → ((p q : ℕ) → Here p first q → CodeAt (paid es) p a q) → ((p q : ℕ) → Over (paid es) last q → Here p two q → CodeAt (paid es) p b q) → ((q : ℕ) → Here q rest e → CodeAt es q c e) →
      (q : ℕ) × Here pc (cond t (alone F w n to one) (choice F w n m first two)) q × Here q rest e → CodeAt es pc (Choose w a b c) e
  chosen w a b c es n m pc e last None one first two rest true is over left one_at first_at two_at behind h0 =
      let t = parts (brings F w 9) (jump_unless (hand w 9) n ∷ (one ++ mark n ∷ [])) pc h0.0 h0.1 in
      let u = t.2 in
      let h2 = parts one (mark n ∷ []) u.0 h0.0 u.2 in
      let l = h2.2 in
      let q_n : h0.0 ≡ label n = sym l.2 ∙ l.1.1 ∙ sym l.1.0 in (
        u.0,
        h2.0,
        label n,
        label n,
        (t.0, t.1, inl u.1),
        one_at u.0 h2.0 (moved (paid es) last h2.0 h0.0 (sym l.1.1 ∙ l.2) (over h0.0 h0.2)) h2.1,
        inr (sym l.1.0),
        subst (λ y. CodeAt (paid es) (label n) y (label n)) (sym (stops b is)) refl,
        from es h0.0 (label n) e c q_n (behind h0.0 h0.2),
        tt,
      )
  chosen w a b c es n m pc e last (Some to) one first two rest true is over left one_at first_at two_at behind h0 =
      let t = parts (brings F w 9) (jump_when (hand w 9) to ∷ mark n ∷ []) pc h0.0 h0.1 in
      let u = t.2 in
      let l = u.2 in
      let at_n : label n ≡ u.0 = l.1.0 in
      let q_n : h0.0 ≡ u.0 = sym l.2 ∙ l.1.1 in
      let r = left to refl in (
        label to,
        u.0,
        u.0,
        u.0,
        (t.0, t.1, inr u.1),
        subst (λ z. CodeAt (paid es) (label to) z u.0) (sym r.1) (inr (sym r.2), (u.0, refl)),
        inr refl,
        subst (λ y. CodeAt (paid es) u.0 y u.0) (sym (stops b is)) refl,
        from es h0.0 u.0 e c q_n (behind h0.0 h0.2),
        tt,
      )
  chosen w a b c es n m pc e last to one first two rest false is over left one_at first_at two_at behind h0 =
      let h1 = parts (first_part F w n m first) (second_part m two) pc h0.0 h0.1 in
      let t = parts (brings F w 9) (jump_unless (hand w 9) n ∷ (first ++ jump m ∷ mark n ∷ [])) pc h1.0 h1.1 in
      let u = t.2 in
      let h2 = parts first (jump m ∷ mark n ∷ []) u.0 h1.0 u.2 in
      let h3 = parts two (mark m ∷ []) h1.0 h0.0 h1.2 in
      let j = h2.2 in
      let at_n : label n ≡ h1.0 = j.2.1.0 ∙ sym j.2.1.1 ∙ j.2.2 in
      let at_m : h3.0 ≡ label m = sym h3.2.1.0 in
      let q_m : h0.0 ≡ label m = sym h3.2.2 ∙ h3.2.1.1 ∙ at_m in (
        u.0,
        h2.0,
        label n,
        label m,
        (t.0, t.1, inl u.1),
        first_at u.0 h2.0 h2.1,
        inl (j.0, j.1),
        from (paid es) h1.0 (label n) (label m) b (sym at_n) (upto (paid es) h1.0 h3.0 (label m) b at_m (two_at h1.0 h3.0 (moved (paid es) last h3.0 h0.0 (sym h3.2.1.1 ∙ h3.2.2) (over h0.0 h0.2)) h3.1)),
        from es h0.0 (label m) e c q_m (behind h0.0 h0.2),
        tt,
      )

  -- a block or loop stands between its labels
  enclosed_at : (b : NodesT Where) (a : List AsmItem) (es : List Bounds) (n pc q : ℕ) (last : Behind) → Over (record { begins = label n; ends = label (n + 1); owes = true } ∷ es) last q → ((p e : ℕ) → Over (record { begins = label n; ends = label (n + 1); owes = true } ∷ es) last e → Here p a e → CodeAt (record { begins = label n; ends = label (n + 1); owes = true } ∷ es) p b e) → Here pc (enclosed n a) q →
      (p : ℕ) × CodeAt (record { begins = pc; ends = p; owes = true } ∷ es) pc b p × (q ≡ p)
  enclosed_at b a es n pc q last over go h =
      let s = parts a (mark (n + 1) ∷ []) h.0 q h.2 in
      let at_n : h.0 ≡ label n = h.1.1 ∙ sym h.1.0 in
      let pc_n : label n ≡ pc = h.1.0 in
      let at_e : s.0 ≡ label (n + 1) = sym s.2.1.0 in
      let q_e : q ≡ label (n + 1) = sym s.2.2 ∙ s.2.1.1 ∙ at_e in
      let around = record { begins = label n; ends = label (n + 1); owes = true } ∷ es in
      let inner = from around h.0 pc (label (n + 1)) b (at_n ∙ pc_n) (upto around h.0 s.0 (label (n + 1)) b at_e (go h.0 s.0 (moved around last s.0 q (sym s.2.1.1 ∙ s.2.2) over) s.1)) in
      (label (n + 1), subst (λ m. CodeAt (record { begins = m; ends = label (n + 1); owes = true } ∷ es) pc b (label (n + 1))) pc_n inner, q_e)

  deeper : (ls : List ℕ) (n : ℕ) (bs : List Bool) (b : Bool) → length ls ≡ length bs → length (ls ++ n ∷ []) ≡ length (b ∷ bs)
  deeper ls n bs b same = let h = length-append ls (n ∷ []) in omega (arith, h, same)

  module _ (x : CodeT Where) (m : ℕ) where
    given : (es : List Bounds) (last : Behind) (p q : ℕ) → Over es last q → Here p (left_by F out (is_end last)) q → (z : ℕ) × Passes S.console.words p z × ExitAt S f z
    given es End p q over h = (S.leaves f, inr (h ∙ over), inl refl)
    given es Other p q over h = leave p q h
    given es Turn p q over h = leave p q h

    -- the next turn begins
    begun : (ls : List ℕ) (es : List Bounds) (k : ℕ) (last : Behind) (p q : ℕ) → Enclose ls es → k < length ls → Over es last q → Here p (again ls k last) q → Begins S.console.words (owed es k) p (begin_of es k)
    begun ls es zero Turn p q en lt over h = inr (over.0, h ∙ over.1)
    begun ls es zero Other p q en lt over h = inl (jumps_to p h.0 _ (begin_of es zero) h.1 (sym (en.begins zero lt)))
    begun ls es zero End p q en lt over h = inl (jumps_to p h.0 _ (begin_of es zero) h.1 (sym (en.begins zero lt)))
    begun ls es (suc k) last p q en lt over h =
        let g = subst (λ b. Here p (cond (b && is_turn last) [] (jump (enclosing ls (suc k)) ∷ [])) q) (not_zero k) h in
        inl (jumps_to p g.0 _ (begin_of es (suc k)) g.1 (sym (en.begins (suc k) lt)))

    -- nodes that end with the next turn have no end of their own
    anywhere : (es : List Bounds) (c : NodesT Where) (done pc e q : ℕ) → is_round c ≡ true → Past (items_at S) f es pc c done e → Past (items_at S) f es pc c done q
    anywhere es Stop done pc e q is at = absurd cc
    anywhere es (Do o c) zero pc e q is (inl h) = inl h
    anywhere es (Do o c) zero pc e q is (inr at) = inr (at.0, at.1, at.2, anywhere es c at.0 at.1 e q is at.3)
    anywhere es (Do o c) (suc k) pc e q is at = anywhere es c k pc e q is at
    anywhere es (Call t g args c) done pc e q is at = (at.0, at.1, anywhere es c zero at.0 e q is at.2)
    anywhere es (Choose w a b c) done pc e q is at = (at.0, at.1, at.2, at.3, at.4, at.5, at.6, at.7, anywhere es c zero at.3 e q is at.8, at.9)
    anywhere es (Block b c) done pc e q is at = (at.0, at.1, anywhere es c zero at.0 e q is at.2, at.3)
    anywhere es (Loop b c) done pc e q is at = (at.0, at.1, anywhere es c zero at.0 e q is at.2)
    anywhere es (Leave k c) done pc e q is at = (at.0, (at.1.0, anywhere es c zero at.1.0 e q is at.1.1))
    anywhere es (Again k c) done pc e q is at = (at.0, last c (λ t. anywhere es c zero at.1.0 e q t at.1.1) is)
      where
        last : (c : NodesT Where) → (is_round c ≡ true → CodeAt es at.1.0 c q) → cond (is_stop c) (k == 0) (is_round c) ≡ true → (p : ℕ) × CodeAt es p c q
        last Stop r t = (q, refl)
        last (Do o c) r t = (at.1.0, r t)
        last (Call g f args c) r t = (at.1.0, r t)
        last (Choose w a b c) r t = (at.1.0, r t)
        last (Block b c) r t = (at.1.0, r t)
        last (Loop b c) r t = (at.1.0, r t)
        last (Leave j c) r t = (at.1.0, r t)
        last (Again j c) r t = (at.1.0, r t)
        last (Return p c) r t = (at.1.0, r t)
    anywhere es (Return w c) done pc e q is at = (at.0, (at.1.0, anywhere es c zero at.1.0 e q is at.1.1))

    left_at : (a : NodesT Where) (bs : List Bool) (ls : List ℕ) (es : List Bounds) → AreNodes x m bs a → length ls ≡ length bs → Enclose ls es → (l : ℕ) → left_to ls a ≡ Some l → (k : ℕ) × (a ≡ Leave k Stop) × (end_of es k ≡ label l)
    left_at a bs ls es ok same en l e =
        let r = left_is ls a l e in
        let i = (subst (λ z. AreNodes x m bs z) r.1 ok).0 in
        let lt : r.0 < length ls = omega (arith, i, same) in
        let w : add (enclosing ls r.0) 1 ≡ enclosing ls r.0 + 1 = omega (arith, en.few r.0 lt) in
        (r.0, r.1, en.ends r.0 lt ∙ ap label (sym w ∙ sym r.2))

    both : (p q : Bool) → p && q ≡ true → (p ≡ true) × (q ≡ true)
    both true true e = (refl, refl)
    both true false e = absurd cc
    both false q e = absurd cc

    tests : (b c a : NodesT Where) → is_stop b && (is_stop c && is_round a) ≡ true → (is_stop b ≡ true) × (is_stop c ≡ true) × (is_round a ≡ true)
    tests b c a e =
        let r = both (is_stop b) (is_stop c && is_round a) e in
        let s = both (is_stop c) (is_round a) r.1 in
        (r.0, s.0, s.1)

    -- what is done in a turn stands from a label to the loop's beginning
    record Turns (ls : List ℕ) (es : List Bounds) (n : ℕ) (c : NodesT Where) : Type 0 where
      end : ℕ
      owes : owed (paid es) 0 ≡ false
      begins : end ≡ begin_of (paid es) 0
      here : Here (label n) (part_items S.whole F out ls n c) end

    behind : (ls : List ℕ) (es : List Bounds) (n : ℕ) (o : OpT Where) (c : NodesT Where) → Turns ls es n (Do o c) → Turns ls es n c
    behind ls es n o c t = record { end = t.end; owes = t.owes; begins = t.begins; here = t.here }

    looped_at : (b : NodesT Where) (all part test : List AsmItem) (es : List Bounds) (n pc q : ℕ) (last : Behind) (t : Bool) → is_tested b ≡ t → Over (record { begins = label n; ends = label (n + 1); owes = true } ∷ es) last q →
        ((p e : ℕ) → Over (record { begins = label n; ends = label (n + 1); owes = true } ∷ es) last e → Here p all e → CodeAt (record { begins = label n; ends = label (n + 1); owes = true } ∷ es) p b e) →
        ((p e : ℕ) → is_tested b ≡ true → Here (label (n + 2)) part (label n) → Here p test e → CodeAt (record { begins = label n; ends = label (n + 1); owes = true } ∷ es) p b e) → Here pc (looped t n all part test) q →
        (r : ℕ) × (p : ℕ) × Passes S.console.words pc r × CodeAt (record { begins = r; ends = p; owes = true } ∷ es) r b p × (q ≡ p)
    looped_at b all part test es n pc q last false is over go turns h = let r = enclosed_at b all es n pc q last over go h in (pc, r.0, inr refl, r.1, r.2)
    looped_at b all part test es n pc q last true is over go turns h =
        let k = h.2 in
        let s = parts part (mark n ∷ (test ++ mark (n + 1) ∷ [])) k.0 q k.2 in
        let u = parts test (mark (n + 1) ∷ []) s.2.0 q s.2.2 in
        let at_two : k.0 ≡ label (n + 2) = k.1.1 ∙ sym k.1.0 in
        let at_n : s.0 ≡ label n = sym s.2.1.0 in
        let on_n : s.2.0 ≡ label n = s.2.1.1 ∙ at_n in
        let at_e : u.0 ≡ label (n + 1) = sym u.2.1.0 in
        let q_e : q ≡ label (n + 1) = sym u.2.2 ∙ u.2.1.1 ∙ at_e in
        let one = subst (λ z. Here (label (n + 2)) part z) at_n (subst (λ z. Here z part s.0) at_two s.1) in
        let two = subst (λ z. Here (label n) test z) at_e (subst (λ z. Here z test u.0) on_n u.1) in
        (label n, label (n + 1), inl (h.0, h.1), turns (label n) (label (n + 1)) is one two, q_e)

    -- a loop that is done by a block move, or in turns
    abbrev Copied : (b c : NodesT Where) (es : List Bounds) (done pc p : ℕ) → Type 0
    Copied b c es done pc p =
        (items_at S).copy f pc b c done p ⊎ ((items_at S).plain b done × (r : ℕ) × Passes S.console.words pc r × CodeAt (record { begins = r; ends = p; owes = true } ∷ es) r b p × Unit {0} × Unit {0} × Unit {0})

    copied_at : (b c : NodesT Where) (xs : List AsmItem) (es : List Bounds) (done pc q : ℕ) (y : Option Copying) → ask_of b ≡ None → copy_at done b ≡ y → Here pc (copy_or y (live_soon ahead F.lasting c) xs) q →
        (Here pc xs q → (r : ℕ) × (p : ℕ) × Passes S.console.words pc r × CodeAt (record { begins = r; ends = p; owes = true } ∷ es) r b p × (q ≡ p)) →
        (p : ℕ) × ((items_at S).copy f pc b c done p ⊎ ((items_at S).plain b done × (r : ℕ) × Passes S.console.words pc r × CodeAt (record { begins = r; ends = p; owes = true } ∷ es) r b p × Unit {0} × Unit {0} × Unit {0})) × (q ≡ p)
    copied_at b c xs es done pc q None none e h go = let r = go h in (r.1, inr ((none, e), r.0, r.2, r.3, tt, tt, tt), r.4)
    copied_at b c xs es done pc q (Some y) none e h go = (q, inl (y, e, h), refl)

    -- one that only asks for a turn
    asked_at : (b c : NodesT Where) (xs : List AsmItem) (D : ℕ → Type 0) (pc q : ℕ) (y : Option ℕ) → ask_of b ≡ y → Here pc (ask_or y (live_soon ahead F.lasting c) xs) q → (ask_of b ≡ None → Here pc xs q → (p : ℕ) × D p × (q ≡ p)) →
        (p : ℕ) × ((items_at S).ask f pc b c p ⊎ D p) × (q ≡ p)
    asked_at b c xs D pc q None e h go = let r = go e h in (r.0, inr r.1, r.2)
    asked_at b c xs D pc q (Some y) e h go = (q, inl (y, e, h), refl)

    -- behind an operator's word that is given back
    ends_at : (c : NodesT Where) (k : ℕ) → Gives k c → (last : Behind) (es : List Bounds) (ls : List ℕ) (n q e : ℕ) → Over es last e → Here q (past last ls n c k) e → (z : ℕ) × Passes S.console.words q z × ExitAt S f z
    ends_at (Do o c) (suc k) g last es ls n q e over h = ends_at c k g last es ls n q e over h
    ends_at (Return w c) (suc k) g last es ls n q e over h =
        let s = parts (left_by F out (is_end (ends last c))) (past last ls n c zero) q e h in
        given es (ends last c) q s.0 (shut es c last ls n s.0 e over s.2) s.1
    ends_at _ zero g last es ls n q e over h = absurd g
    ends_at _ (suc k) g last es ls n q e over h = absurd g

    -- an operation that comes next, with all that is done with it
    next_at : (o : OpT Where) (c : NodesT Where) (last : Behind) (es : List Bounds) (ls : List ℕ) (n pc e : ℕ) (x : Option (ℕ × Made)) → made_of S.whole F o c ≡ x → Over es last e →
        ((q : ℕ) → Here q (past last ls n c (group_more S.whole F o c)) e → Past (items_at S) f es q c (group_more S.whole F o c) e) →
        Here pc (made_or F x (group_items S.whole F o c) ++ past last ls n c (made_more x (group_more S.whole F o c))) e → Past (items_at S) f es pc (Do o c) zero e
    next_at o c last es ls n pc e None is over go h =
        let s = parts (group_items S.whole F o c) (past last ls n c (group_more S.whole F o c)) pc e h in
        inr (group_more S.whole F o c, s.0, (s.1, refl), go s.0 s.2)
    next_at o c last es ls n pc e (Some (k, y)) is over go h =
        let s = parts (made_items F y) (past last ls n c k) pc e h in
        let l = ends_at c k (made_gives S.whole F o c k y is) last es ls n s.0 e over s.2 in
        inl (k, y, is, s.0, s.1, l.0, l.1, l.2)

    -- and before a test
    next_test : (o : OpT Where) (c : NodesT Where) (es : List Bounds) (to pc e : ℕ) (x : Option (ℕ × Made)) → made_of S.whole F o c ≡ x → is_tested c ≡ true →
        ((q : ℕ) → Here q (test_items S.whole F out to c (group_more S.whole F o c)) e → Past (items_at S) f es q c (group_more S.whole F o c) e) →
        Here pc (made_or F x (group_items S.whole F o c) ++ test_items S.whole F out to c (made_more x (group_more S.whole F o c))) e → Past (items_at S) f es pc (Do o c) zero e
    next_test o c es to pc e None is tested go h =
        let s = parts (group_items S.whole F o c) (test_items S.whole F out to c (group_more S.whole F o c)) pc e h in
        inr (group_more S.whole F o c, s.0, (s.1, refl), go s.0 s.2)
    next_test o c es to pc e (Some (k, y)) is tested go h = absurd (not_tested c k (made_gives S.whole F o c k y is) tested)

    mutual
      pub code_at : (c : NodesT Where) (done : ℕ) (last : Behind) (bs : List Bool) (ls : List ℕ) (es : List Bounds) (n pc e : ℕ) → AreNodes x m bs c → length ls ≡ length bs → Few (n + labels c) → Enclose ls es → Over es last e → NoResult done c → Here pc (past last ls n c done) e → Past (items_at S) f es pc c done e
      code_at Stop done last bs ls es n pc e ok same few en over none h = h
      code_at (Do o c) zero last bs ls es n pc e ok same few en over none h =
          next_at o c last es ls n pc e (made_of S.whole F o c) refl over (λ q k. code_at c (group_more S.whole F o c) last bs ls es n q e ok.1 same few en over (group_none S.whole F o c) k) h
      code_at (Do o c) (suc j) last bs ls es n pc e ok same few en over none h = code_at c j last bs ls es n pc e ok.1 same few en over none h
      code_at (Call t g args c) done last bs ls es n pc e ok same few en over none h =
          let s = parts (call_items S.whole F t g args) (past last ls n c zero) pc e h in
          (s.0, s.1, code_at c zero last bs ls es n s.0 e ok.1 same few en over tt s.2)
      code_at (Choose w a b c) done last bs ls es n pc e ok same few en over none h =
          let here = ends last c in
          let pe = paid_for ls es en in
          let one = past here ls (n + 1) a zero in
          let first = past Other ls (n + 1) a zero in
          let two = past here ls (n + 1 + labels a + 1) b zero in
          let rest = past last ls (n + (2 + labels a + labels b)) c zero in
          chosen w a b c es n (n + 1 + labels a) pc e here (left_to ls a) one first two rest (is_stop b) refl (λ q k. in_part es (ends last c) q (shut es c last ls (n + (2 + labels a + labels b)) q e over k)) (left_at a bs ls (paid es) ok.0 same pe)
          (λ p q o k. code_at a zero here bs ls (paid es) (n + 1) p q ok.0 same (omega (arith, few)) pe o tt k) (λ p q k. code_at a zero Other bs ls (paid es) (n + 1) p q ok.0 same (omega (arith, few)) pe tt tt k) (λ p q o k. code_at b zero here bs ls (paid es) (n + 1 + labels a + 1) p q ok.1 same (omega (arith, few)) pe o tt k) (λ q k. code_at c zero last bs ls es (n + (2 + labels a + labels b)) q e ok.2 same (omega (arith, few)) en over tt k)
          (parts (cond (is_stop b) (alone F w n (left_to ls a) one) (choice F w n (n + 1 + labels a) first two)) rest pc e h)
      code_at (Block b c) done last bs ls es n pc e ok same few en over none h =
          let one = past (inside (ends last c)) (ls ++ n ∷ []) (n + 2) b zero in
          let s = parts (enclosed n one) (past last ls (n + (2 + labels b)) c zero) pc e h in
          let around = record { begins = label n; ends = label (n + 1); owes = true } ∷ es in
          let r = enclosed_at b one es n pc s.0 (inside (ends last c)) (in_body es around (ends last c) s.0 (shut es c last ls (n + (2 + labels b)) s.0 e over s.2))
          (λ p q o k. code_at b zero (inside (ends last c)) (false ∷ bs) (ls ++ n ∷ []) around (n + 2) p q ok.0 (deeper ls n bs false same) (omega (arith, few)) (enter ls es n (omega (arith, few)) en) o tt k) s.1 in
          (r.0, r.1, from es s.0 r.0 e c r.2 (code_at c zero last bs ls es (n + (2 + labels b)) s.0 e ok.1 same (omega (arith, few)) en over tt s.2), tt)
      code_at (Loop b c) done last bs ls es n pc e ok same few en over none h =
          let around = record { begins = label n; ends = label (n + 1); owes = true } ∷ es in
          let inner = ls ++ n ∷ [] in
          let all = past (inside (ends last c)) inner (n + 2) b zero in
          let part = part_items S.whole F out inner (n + 2) b in
          let test = test_items S.whole F out (n + 2) b zero in
          let turns = looped (is_tested b) n all part test in
          let s = parts (ask_or (ask_of b) (live_soon ahead F.lasting c) (copy_or (copy_at done b) (live_soon ahead F.lasting c) turns)) (past last ls (n + (2 + labels b)) c zero) pc e h in
          let closed = enter ls es n (omega (arith, few)) en in
          let r = asked_at b c (copy_or (copy_at done b) (live_soon ahead F.lasting c) turns) (Copied b c es done pc) pc s.0 (ask_of b) refl s.1 (λ none w. copied_at b c turns es done pc s.0 (copy_at done b) none refl w (λ k. looped_at b all part test es n pc s.0 (inside (ends last c)) (is_tested b) refl (in_body es around (ends last c) s.0 (shut es c last ls (n + (2 + labels b)) s.0 e over s.2))
          (λ p q o k. code_at b zero (inside (ends last c)) (true ∷ bs) inner around (n + 2) p q ok.0 (deeper ls n bs true same) (omega (arith, few)) closed o tt k)
          (λ p q t g k. test_at b zero inner around (true ∷ bs) (n + 2) p q t ok.0 (deeper ls n bs true same) (omega (arith, few)) closed (record { end = label n; owes = refl; begins = refl; here = g }) k) k)) in
          (r.0, r.1, from es s.0 r.0 e c r.2 (code_at c zero last bs ls es (n + (2 + labels b)) s.0 e ok.1 same (omega (arith, few)) en over tt s.2))
      code_at (Leave k c) done last bs ls es n pc e ok same few en over none h =
          let l = ok.0 in
          let lt : k < length ls = omega (arith, l, same) in
          let w : add (enclosing ls k) 1 ≡ enclosing ls k + 1 = omega (arith, en.few k lt) in
          (inl (jumps_to pc h.0 _ (end_of es k) h.1 (ap label w ∙ sym (en.ends k lt))), (h.0, code_at c zero last bs ls es n h.0 e ok.1 same few en over tt h.2))
      code_at (Again k c) done last bs ls es n pc e ok same few en over none h =
          let l = loop_there bs k ok.0 in
          let s = parts (again ls k (ends last c)) (past last ls n c zero) pc e h in
          (begun ls es k (ends last c) pc s.0 en (omega (arith, l, same)) (shut es c last ls n s.0 e over s.2) s.1, (s.0, code_at c zero last bs ls es n s.0 e ok.1 same few en over tt s.2))
      code_at (Return w c) zero last bs ls es n pc e ok same few en over none h =
          let t = parts (giving F w) (left_by F out (is_end (ends last c)) ++ past last ls n c zero) pc e h in
          let s = parts (left_by F out (is_end (ends last c))) (past last ls n c zero) t.0 e t.2 in
          let g = given es (ends last c) t.0 s.0 (shut es c last ls n s.0 e over s.2) s.1 in
          ((t.0, t.1, g.0, g.1, g.2), (s.0, code_at c zero last bs ls es n s.0 e ok same few en over tt s.2))
      code_at (Return w c) (suc k) last bs ls es n pc e ok same few en over none h = absurd none

      -- The operations and the test of a loop that is only that, where what is done in a turn stands from the test's label to the loop's beginning.
      test_at : (c : NodesT Where) (done : ℕ) (ls : List ℕ) (es : List Bounds) (bs : List Bool) (n pc e : ℕ) → is_tested c ≡ true → AreNodes x m bs c → length ls ≡ length bs → Few (n + labels c) → Enclose ls es →
          Turns ls es n c → Here pc (test_items S.whole F out n c done) e → Past (items_at S) f es pc c done e
      test_at (Do o c) zero ls es bs n pc e is ok same few en t h =
          next_test o c es n pc e (made_of S.whole F o c) refl is (λ q k. test_at c (group_more S.whole F o c) ls es bs n q e is ok.1 same few en (behind ls es n o c t) k) h
      test_at (Do o c) (suc k) ls es bs n pc e is ok same few en t h = test_at c k ls es bs n pc e is ok.1 same few en (behind ls es n o c t) h
      test_at (Choose w a b c) done ls es bs n pc e is ok same few en t h =
          let i = tests b c a is in
          let s = parts (brings F w 9) (jump_when (hand w 9) n ∷ test_items S.whole F out n c zero) pc e h in
          let z : s.2.0 ≡ e = subst (λ y. Here s.2.0 (test_items S.whole F out n y zero) e) (stops c i.1) s.2.2 in
          let first = code_at a zero Turn bs ls (paid es) (n + 1) (label n) t.end ok.0 same (omega (arith, few)) (paid_for ls es en) (t.owes, t.begins) tt t.here in (
            label n,
            e,
            e,
            e,
            (s.0, s.1, inr (subst (λ q. Line S.console.words s.0 (instr.Branch JT (hand w 9) (src.Imm (label n))) q) z s.2.1)),
            anywhere (paid es) a zero (label n) t.end e i.2 first,
            inr refl,
            subst (λ y. CodeAt (paid es) e y e) (sym (stops b i.0)) refl,
            subst (λ y. CodeAt es e y e) (sym (stops c i.1)) refl,
            tt,
          )
      test_at Stop done ls es bs n pc e is ok same few en t h = absurd cc
      test_at (Call r g args c) done ls es bs n pc e is ok same few en t h = absurd cc
      test_at (Block b c) done ls es bs n pc e is ok same few en t h = absurd cc
      test_at (Loop b c) done ls es bs n pc e is ok same few en t h = absurd cc
      test_at (Leave k c) done ls es bs n pc e is ok same few en t h = absurd cc
      test_at (Again k c) done ls es bs n pc e is ok same few en t h = absurd cc
      test_at (Return w c) done ls es bs n pc e is ok same few en t h = absurd cc

    -- the body of a function stands where its items do
    pub body_at : (c : NodesT Where) (n pc e : ℕ) → AreNodes x m [] c → Few (n + labels c) → e ≡ S.leaves f → Here pc (items [] n c) e → CodeAt [] pc c e
    body_at c n pc e ok few over h = code_at c zero End [] [] [] n pc e ok refl few (record { few = λ k lt. absurd (omega arith); ends = λ k lt. absurd (omega arith); begins = λ k lt. absurd (omega arith) }) over tt h
