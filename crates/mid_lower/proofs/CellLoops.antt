-- Loops over cells, one turn per cell, and copies of one and two words by straight code: in mid code as in the meaning.
use Rattle.std.proofs.Common.{◌≡◌, ℕ, zero, suc, ◌+◌, ◌*◌, ◌-◌, ◌%◌, ◌^◌, ◌<◌, ◌≤◌, List, Some, None, Ok, Err, false, eqb, refl, sym, ap, ◌∙◌, subst, arith}
use Rattle.std.proofs.Math.Nat.{add-mod_right}
use Rattle.std.proofs.lemmas.Nat.{mod-mul-add}
use Rattle.kit_base.specs.Word.{sub}
use Rattle.c_tree.specs.declared.span.Span.{Span}
use Rattle.v32_isa.specs.declared.instruction.Two.TheVariants.{ISUB}
use Rattle.obj_mem.specs.Objects.{ObjectT}
use Rattle.obj_mem.specs.declared.cell.Cell.{Cell}
use Rattle.obj_mem.specs.declared.cell.Cell.TheVariants.{Unwritten, Num, Ptr, Null}
use Rattle.obj_mem.specs.Stores.{with_objects}
use Rattle.obj_mem.specs.Worlds.{World, on_store, spend}
use Rattle.obj_mem.specs.declared.refusal.Refusal.TheVariants.{Strays, Faults}
use Rattle.obj_mem.specs.Queries.{Answer, then_ask, read, write, further}
use Rattle.c_meaning.specs.declared.end.End.{End}
use Rattle.c_meaning.specs.declared.end.End.TheVariants.{Stray, OutOfBound}
use Rattle.c_meaning.specs.Outcomes.{Went, Through, CutOff, asked, then_went}
use Rattle.c_meaning.specs.Cells.{next_turn, cells_set}
use Rattle.mid_code.specs.Code.{CodeT, ConstO, MoveO, TwoO, StepO, LoadO, StoreO, NodesT, Stop, Do, Choose, Loop, Again}
use Rattle.mid_code.specs.Meaning.{Res, Next, Leaves, Repeats, Returns, Over, then_next, turn_done, choose, does}
use Rattle.mid_code.specs.Meaning.{below as mid_below}
use Rattle.mid_code.specs.States.{temporaries, to, spent, word_tested, over_worlds}
use Rattle.mid_code.specs.inner.Passing.{Prefix}
use Rattle.lower_trees.specs.Pieces.{coded}
use Rattle.lower_trees.specs.Parts as part
use Rattle.mid_lower.proofs.Grows.{Mid, Grows, all_of, more, then_grows, turn_grows, node_grows}
use Rattle.mid_lower.proofs.Under.{read_both}
use Rattle.mid_lower.proofs.Fits.{Site}
use Rattle.mid_lower.proofs.Following.{Side, mk, set, Goal, Now, Way, Kept, Rest, events_of, paid, paid_now, set_now, putting, put_other, fin_now, stopped, spare, now_work, kept_through, low_free, eqb_more, L, M, M_grows, op, sets}
use Rattle.mid_lower.proofs.Instructions.{asked_then, two_eq, step_eq, from_eq}
use Rattle.mid_lower.proofs.Storing.{stores}

-- one less than a count
pub sub_one : (left : ℕ) → left < 2 ^ 32 → sub (suc left) 1 ≡ left
sub_one left lt = ap (λ n. n % 2 ^ 32) sums ∙ add-mod_right left (2 ^ 32) ∙ sym (ap (λ n. n % 2 ^ 32) less) ∙ mod-mul-add 0 (2 ^ 32) left lt
  where
    sums : suc left + (2 ^ 32 - 1) ≡ left + 2 ^ 32
    sums = omega arith

    less : 0 * 2 ^ 32 + left ≡ left
    less = omega arith

-- port operations only come with each bound
pub below_grows : (code : CodeT ℕ) (frames : List ℕ) (n : ℕ) (c : NodesT ℕ) (t : Mid) → Grows t (mid_below (over_worlds temporaries code frames) n c t)
below_grows code frames zero c t = all_of _
below_grows code frames (suc n) c t = node_grows code frames n (mid_below (over_worlds temporaries code frames) n) (below_grows code frames n) c t

-- the same program at another bound
abbrev pub site_at : Site → ℕ → Site
site_at S n = record { s = S.s; code = S.code; frames = S.frames; fits = S.fits; bound = n; prev = S.prev; prev' = mid_below (L S) n; grows = below_grows S.code S.frames n; is_below = refl }

-- temporaries but those of the loops
abbrev pub Others : Side → Side → Type 0
Others x y = (j : ℕ) → 5 ≤ j → y.temps j ≡ x.temps j

-- a loop that is done: it gives back what was paid before it
abbrev pub SimL : Goal → ℕ → Side → Went → Res Mid → Type 0
SimL γ s x (Through w) q = (y : Side) × (q ≡ Next (mk w y)) × Now γ (s + 16) w y × Others x y
SimL γ s x (CutOff f w) q = Kept γ f w q

pub next_same : (r : Res Mid) → then_next r (λ t. Next t) ≡ r
next_same (Next t) = refl
next_same (Leaves k t) = refl
next_same (Repeats k t) = refl
next_same (Returns t) = refl
next_same (Over f t) = refl

module _ (S : Site) (γ : Goal) (span : Span) (cost : ℕ) (some : 1 ≤ cost) where
  -- the source has counted a cell
  counted : (s0 : ℕ) (w : World) (x : Side) → Now γ s0 w x → Now γ (s0 + 64) (spend cost w) x
  counted s0 w x h = now_work γ s0 (s0 + 64) w (spend cost w) x x.work refl (omega (arith, h.cost, some)) h

  -- what follows a turn of the loop
  module _ (n : ℕ) (turn : NodesT ℕ) (s0 : ℕ) (x0 : Side) where
    abbrev K : Res Mid → Res Mid
    K q = then_next (turn_done q (mid_below (L S) n (Loop turn Stop))) (M (site_at S n) Stop)

    K_grows : (q : Res Mid) → Prefix (events_of q) (events_of (K q))
    K_grows q = more _ _ _ (turn_grows q (mid_below (L S) n (Loop turn Stop)) (below_grows S.code S.frames n (Loop turn Stop))) (then_grows (turn_done q (mid_below (L S) n (Loop turn Stop))) (M (site_at S n) Stop) (M_grows (site_at S n) Stop))

    abbrev way_turn : Way γ
    way_turn = record { R = Went; stop = CutOff; T = λ r q. SimL γ s0 x0 r (K q); stops = λ f w m k. kept_through γ f w m K (λ g t. refl) K_grows k }

    -- it begins again with what is left
    again : (left : ℕ) (w : World) (y : Side) (go : ℕ → World → Went) → Now γ s0 w y → Others x0 y → ((m : ℕ) → n ≡ suc m → SimL γ s0 y (go m w) (M (site_at S m) (Loop turn Stop) (mk w y))) → SimL γ s0 x0 (next_turn (suc left) n w go) (K (Repeats 0 (mk w y)))
    again left w y go h keep f = by n refl
      where
        further_on : (m : ℕ) (v : Went) (q : Res Mid) → SimL γ s0 y v q → SimL γ s0 x0 v (then_next q (λ t. Next t))
        further_on m (Through u) q k = (k.0, ap (λ r. then_next r (λ t. Next t)) k.1, k.2, λ j le. k.3 j le ∙ keep j le)
        further_on m (CutOff e u) q k = subst (Kept γ e u) (sym (next_same q)) k

        by : (i : ℕ) → n ≡ i → SimL γ s0 x0 (next_turn (suc left) i w go) (then_next (mid_below (L S) i (Loop turn Stop) (mk w y)) (λ t. Next t))
        by zero e = stopped γ OutOfBound w y _ (fin_now γ s0 w y h) refl
        by (suc m) e = further_on m (go m w) (M (site_at S m) (Loop turn Stop) (mk w y)) (f m e)

  -- ---- copies

  abbrev copy_steps : NodesT ℕ
  copy_steps = Do (StepO part.from part.from part.one) (Do (StepO part.to part.to part.one) (Again 0 Stop))

  -- behind the store of a turn
  copy_tail : (n left s0 : ℕ) (x0 : Side) → left < 2 ^ 32 → (o i p j : ℕ) (w : World) (y : Side) → Now γ (s0 + 40) w y → Others x0 y → y.temps part.count ≡ Num (suc left) → y.temps part.one ≡ Num 1 → y.temps part.from ≡ Ptr o i → y.temps part.to ≡ Ptr p j
      → ((m l : ℕ) → n ≡ suc m → left ≡ suc l → (z : Side) → Now γ s0 w z → z.temps part.count ≡ Num (suc l) → z.temps part.one ≡ Num 1 → z.temps part.from ≡ further (Ptr o i) 1 → z.temps part.to ≡ further (Ptr p j) 1 → SimL γ s0 z (cells_set span cost m left (Some (further (Ptr o i) 1)) (further (Ptr p j) 1) w) (M (site_at S m) (Loop (coded part.copy_turn Stop) Stop) (mk w z)))
      → SimL γ s0 x0 (next_turn left n w (λ m v. cells_set span cost m left (Some (further (Ptr o i) 1)) (further (Ptr p j) 1) v)) (K n (coded part.copy_turn Stop) s0 x0 (M (site_at S n) (Do (TwoO ISUB part.count part.count part.one) (Choose part.count copy_steps Stop Stop)) (mk w y)))
  copy_tail n left s0 x0 lt o i p j w y h keep ec e1 ef et f =
      let r : Went = next_turn left n w (λ m v. cells_set span cost m left (Some (further (Ptr o i) 1)) (further (Ptr p j) 1) v) in
      sets (site_at S n) (way_turn n (coded part.copy_turn Stop) s0 x0).T γ (s0 + 32) w y part.count (Num left) (TwoO ISUB part.count part.count part.one) (Choose part.count copy_steps Stop Stop) (spare γ (s0 + 40) (s0 + 32 + 8) w y (omega arith) h) (low_free γ part.count (omega arith))
      (ap (λ q. to temporaries part.count q (spent 8 (mk w y))) (two_eq ISUB (Num (suc left)) (Num 1) (y.temps part.count) (y.temps part.one) ec e1 ∙ ap (λ k. Ok (Num k)) (sub_one left lt))) r
      (λ z hz at rest. chosen left refl z hz at (λ k le. rest k (eqb_more k part.count (omega (arith, le))) ∙ keep k le) (rest part.one refl ∙ e1) (rest part.from refl ∙ ef) (rest part.to refl ∙ et))
    where
      chosen : (l : ℕ) → left ≡ l → (z : Side) → Now γ (s0 + 32) w z → z.temps part.count ≡ Num l → Others x0 z → z.temps part.one ≡ Num 1 → z.temps part.from ≡ Ptr o i → z.temps part.to ≡ Ptr p j
          → SimL γ s0 x0 (next_turn l n w (λ m v. cells_set span cost m left (Some (further (Ptr o i) 1)) (further (Ptr p j) 1) v)) (K n (coded part.copy_turn Stop) s0 x0 (M (site_at S n) (Choose part.count copy_steps Stop Stop) (mk w z)))
      chosen zero el z hz at kz e1z efz etz = (paid z, ap (λ v. K n (coded part.copy_turn Stop) s0 x0 (then_next (choose (word_tested v) (mk w (paid z)) (M (site_at S n) copy_steps) (M (site_at S n) Stop)) (M (site_at S n) Stop))) at, spare γ (s0 + 24) (s0 + 16) w (paid z) (omega arith) (paid_now γ (s0 + 24) w z (spare γ (s0 + 32) (s0 + 24 + 8) w z (omega arith) hz)), kz)
      chosen (suc l) el z hz at kz e1z efz etz =
          let r : Went = next_turn (suc l) n w (λ m v. cells_set span cost m left (Some (further (Ptr o i) 1)) (further (Ptr p j) 1) v) in
          let T : Went → Res Mid → Type 0 = λ v q. SimL γ s0 x0 v (K n (coded part.copy_turn Stop) s0 x0 (then_next q (M (site_at S n) Stop))) in
          let hp = paid_now γ (s0 + 24) w z (spare γ (s0 + 32) (s0 + 24 + 8) w z (omega arith) hz) in
          subst (λ q. SimL γ s0 x0 r (K n (coded part.copy_turn Stop) s0 x0 q)) (sym (ap (λ v. then_next (choose (word_tested v) (mk w (paid z)) (M (site_at S n) copy_steps) (M (site_at S n) Stop)) (M (site_at S n) Stop)) at))
          (sets (site_at S n) T γ (s0 + 16) w (paid z) part.from (further (Ptr o i) 1) (StepO part.from part.from part.one) (Do (StepO part.to part.to part.one) (Again 0 Stop)) (spare γ (s0 + 24) (s0 + 16 + 8) w (paid z) (omega arith) hp) (low_free γ part.from (omega arith)) (ap (λ q. to temporaries part.from q (spent 8 (mk w (paid z)))) (step_eq (Ptr o i) (Num 1) (z.temps part.from) (z.temps part.one) efz e1z)) r (λ a ha ata resta.
          sets (site_at S n) T γ (s0 + 8) w a part.to (further (Ptr p j) 1) (StepO part.to part.to part.one) (Again 0 Stop) (spare γ (s0 + 16) (s0 + 8 + 8) w a (omega arith) ha) (low_free γ part.to (omega arith)) (ap (λ q. to temporaries part.to q (spent 8 (mk w a))) (step_eq (Ptr p j) (Num 1) (a.temps part.to) (a.temps part.one) (resta part.to refl ∙ etz) (resta part.one refl ∙ e1z))) r (λ b hb atb restb.
          again n (coded part.copy_turn Stop) s0 x0 l w (paid b) (λ m v. cells_set span cost m left (Some (further (Ptr o i) 1)) (further (Ptr p j) 1) v) (paid_now γ s0 w b hb) (λ k le. restb k (eqb_more k part.to (omega (arith, le))) ∙ resta k (eqb_more k part.from (omega (arith, le))) ∙ kz k le)
          (λ m em. f m l em el (paid b) (paid_now γ s0 w b hb) (restb part.count refl ∙ resta part.count refl ∙ at) (restb part.one refl ∙ resta part.one refl ∙ e1z) (restb part.from refl ∙ ata) atb))))

  abbrev Copies : (n left : ℕ) → Type 0
  Copies n left =
      (s0 : ℕ) → left < 2 ^ 32 → (p q : Cell) (w : World) (x : Side) → Now γ s0 w x → x.temps part.count ≡ Num (suc left) → x.temps part.one ≡ Num 1 → x.temps part.from ≡ p → x.temps part.to ≡ q
      → SimL γ s0 x (cells_set span cost n (suc left) (Some p) q w) (M (site_at S n) (Loop (coded part.copy_turn Stop) Stop) (mk w x))

  copy_step : (n left : ℕ) → ((m l : ℕ) → n ≡ suc m → left ≡ suc l → Copies m l) → Copies n left
  copy_step n left rec s0 lt (Ptr o i) q w x h ec e1 ef et =
      let w1 : World = spend cost w in
      subst (λ r. SimL γ s0 x r (M (site_at S n) (Loop (coded part.copy_turn Stop) Stop) (mk w x))) (sym (asked_then CutOff span w1 (read w.store.objects (Ptr o i)) (λ c. write w.store.objects q c) (next q)))
      (op (site_at S n) γ (way_turn n (coded part.copy_turn Stop) s0 x) (s0 + 48) span w1 (paid x) part.cell (read w.store.objects (Ptr o i)) (read x.objs (x.temps part.from)) (LoadO part.cell part.from) (Do (StoreO part.to part.cell) tail) (paid_now γ (s0 + 48 + 8) w1 x (spare γ (s0 + 64) (s0 + 48 + 8 + 8) w1 x (omega arith) (counted s0 w x h))) (low_free γ part.cell (omega arith))
      (from_eq (read w.store.objects (Ptr o i)) (read x.objs (Ptr o i)) (read x.objs (x.temps part.from)) (ap (λ u. read x.objs u) ef) (read_both w.store.objects x.objs (Ptr o i) h.stays.fit.under)) refl (λ c. asked CutOff span w1 (write w.store.objects q c) (next q))
      (λ c y hy at rest. written q c y hy at (λ k le. rest k (eqb_more k part.cell (omega (arith, le)))) (rest part.count refl ∙ ec) (rest part.one refl ∙ e1) (rest part.from refl ∙ ef) (rest part.to refl ∙ et)))
    where
      tail : NodesT ℕ
      tail = Do (TwoO ISUB part.count part.count part.one) (Choose part.count copy_steps Stop Stop)

      next : Cell → List ObjectT → Went
      next q os = next_turn left n (on_store (with_objects os) (spend cost w)) (λ m v. cells_set span cost m left (Some (further (Ptr o i) 1)) (further q 1) v)

      written : (q c : Cell) (y : Side) → Now γ (s0 + 48) (spend cost w) y → y.temps part.cell ≡ c → Others x y → y.temps part.count ≡ Num (suc left) → y.temps part.one ≡ Num 1 → y.temps part.from ≡ Ptr o i → y.temps part.to ≡ q
          → SimL γ s0 x (asked CutOff span (spend cost w) (write w.store.objects q c) (next q)) (K n (coded part.copy_turn Stop) s0 x (M (site_at S n) (Do (StoreO part.to part.cell) tail) (mk (spend cost w) y)))
      written (Ptr p j) c y hy at keep ec2 e12 ef2 et2 =
          stores (site_at S n) γ (way_turn n (coded part.copy_turn Stop) s0 x) span (spend cost w) (s0 + 40) y part.to part.cell (Ptr p j) c tail (spare γ (s0 + 48) (s0 + 40 + 8) (spend cost w) y (omega arith) hy) et2 at (λ u. next_turn left n u (λ m v. cells_set span cost m left (Some (further (Ptr o i) 1)) (further (Ptr p j) 1) v))
          (λ os z hz alike. copy_tail n left s0 x lt o i p j (on_store (with_objects os) (spend cost w)) z hz (λ k le. alike k ∙ keep k le) (alike part.count ∙ ec2) (alike part.one ∙ e12) (alike part.from ∙ ef2) (alike part.to ∙ et2)
          (λ m l em el u hu euc eu1 euf eut. subst (λ k. SimL γ s0 u (cells_set span cost m k (Some (further (Ptr o i) 1)) (further (Ptr p j) 1) (on_store (with_objects os) (spend cost w))) (M (site_at S m) (Loop (coded part.copy_turn Stop) Stop) (mk (on_store (with_objects os) (spend cost w)) u))) (sym el)
          (rec m l em el s0 (omega (arith, lt, el)) (further (Ptr o i) 1) (further (Ptr p j) 1) (on_store (with_objects os) (spend cost w)) u hu euc eu1 euf eut)))
      written Unwritten c y hy at keep ec2 e12 ef2 et2 = (way_turn n (coded part.copy_turn Stop) s0 x).stops (Stray span) (spend cost w) (M (site_at S n) (Do (StoreO part.to part.cell) tail) (mk (spend cost w) y)) (M_grows (site_at S n) (Do (StoreO part.to part.cell) tail) (mk (spend cost w) y))
      written (Num k) c y hy at keep ec2 e12 ef2 et2 = (way_turn n (coded part.copy_turn Stop) s0 x).stops (Stray span) (spend cost w) (M (site_at S n) (Do (StoreO part.to part.cell) tail) (mk (spend cost w) y)) (M_grows (site_at S n) (Do (StoreO part.to part.cell) tail) (mk (spend cost w) y))
      written Null c y hy at keep ec2 e12 ef2 et2 = (way_turn n (coded part.copy_turn Stop) s0 x).stops (Stray span) (spend cost w) (M (site_at S n) (Do (StoreO part.to part.cell) tail) (mk (spend cost w) y)) (M_grows (site_at S n) (Do (StoreO part.to part.cell) tail) (mk (spend cost w) y))
  copy_step n left rec s0 lt Unwritten q w x h ec e1 ef et = M_grows (site_at S n) (Loop (coded part.copy_turn Stop) Stop) (mk w x)
  copy_step n left rec s0 lt (Num k) q w x h ec e1 ef et = M_grows (site_at S n) (Loop (coded part.copy_turn Stop) Stop) (mk w x)
  copy_step n left rec s0 lt Null q w x h ec e1 ef et = M_grows (site_at S n) (Loop (coded part.copy_turn Stop) Stop) (mk w x)

  copy_loop : (left n : ℕ) → Copies n left
  copy_loop zero n = copy_step n zero (λ m l em el. absurd (omega (arith, el)))
  copy_loop (suc left) n = copy_step n (suc left) (λ m l em el. subst (Copies m) (omega (arith, el)) (copy_loop left m))

  -- ---- zeros

  abbrev zero_steps : NodesT ℕ
  zero_steps = Do (StepO part.to part.to part.one) (Again 0 Stop)

  abbrev Zeroes : (n left : ℕ) → Type 0
  Zeroes n left =
      (s0 : ℕ) → left < 2 ^ 32 → (q : Cell) (w : World) (x : Side) → Now γ s0 w x → x.temps part.count ≡ Num (suc left) → x.temps part.one ≡ Num 1 → x.temps part.cell ≡ Num 0 → x.temps part.to ≡ q
      → SimL γ s0 x (cells_set span cost n (suc left) None q w) (M (site_at S n) (Loop (coded part.zero_turn Stop) Stop) (mk w x))

  zero_step : (n left : ℕ) → ((m l : ℕ) → n ≡ suc m → left ≡ suc l → Zeroes m l) → Zeroes n left
  zero_step n left rec s0 lt (Ptr p j) w x h ec e1 ez et =
      stores (site_at S n) γ (way_turn n (coded part.zero_turn Stop) s0 x) span w1 (s0 + 48) (paid x) part.to part.cell (Ptr p j) (Num 0) tail (paid_now γ (s0 + 48 + 8) w1 x (spare γ (s0 + 64) (s0 + 48 + 8 + 8) w1 x (omega arith) (counted s0 w x h))) et ez next
      (λ os z hz alike. sets (site_at S n) (way_turn n (coded part.zero_turn Stop) s0 x).T γ (s0 + 40) (on_store (with_objects os) w1) z part.count (Num left) (TwoO ISUB part.count part.count part.one) (Choose part.count zero_steps Stop Stop) (spare γ (s0 + 48) (s0 + 40 + 8) (on_store (with_objects os) w1) z (omega arith) hz) (low_free γ part.count (omega arith))
      (ap (λ q. to temporaries part.count q (spent 8 (mk (on_store (with_objects os) w1) z))) (two_eq ISUB (Num (suc left)) (Num 1) (z.temps part.count) (z.temps part.one) (alike part.count ∙ ec) (alike part.one ∙ e1) ∙ ap (λ k. Ok (Num k)) (sub_one left lt))) (next (on_store (with_objects os) w1))
      (λ y hy at rest. chosen os left refl y hy at (λ k le. rest k (eqb_more k part.count (omega (arith, le))) ∙ alike k) (rest part.one refl ∙ alike part.one ∙ e1) (rest part.cell refl ∙ alike part.cell ∙ ez) (rest part.to refl ∙ alike part.to ∙ et)))
    where
      w1 : World
      w1 = spend cost w

      tail : NodesT ℕ
      tail = Do (TwoO ISUB part.count part.count part.one) (Choose part.count zero_steps Stop Stop)

      next : World → Went
      next u = next_turn left n u (λ m v. cells_set span cost m left None (further (Ptr p j) 1) v)

      chosen : (os : List ObjectT) (l : ℕ) → left ≡ l → (z : Side) → Now γ (s0 + 40) (on_store (with_objects os) w1) z → z.temps part.count ≡ Num l → Others x z → z.temps part.one ≡ Num 1 → z.temps part.cell ≡ Num 0 → z.temps part.to ≡ Ptr p j
          → SimL γ s0 x (next_turn l n (on_store (with_objects os) w1) (λ m v. cells_set span cost m left None (further (Ptr p j) 1) v)) (K n (coded part.zero_turn Stop) s0 x (M (site_at S n) (Choose part.count zero_steps Stop Stop) (mk (on_store (with_objects os) w1) z)))
      chosen os zero el z hz at kz e1z ezz etz =
          let v : World = on_store (with_objects os) w1 in
          (paid z, ap (λ c. K n (coded part.zero_turn Stop) s0 x (then_next (choose (word_tested c) (mk v (paid z)) (M (site_at S n) zero_steps) (M (site_at S n) Stop)) (M (site_at S n) Stop))) at, spare γ (s0 + 32) (s0 + 16) v (paid z) (omega arith) (paid_now γ (s0 + 32) v z (spare γ (s0 + 40) (s0 + 32 + 8) v z (omega arith) hz)), kz)
      chosen os (suc l) el z hz at kz e1z ezz etz =
          let v : World = on_store (with_objects os) w1 in
          let r : Went = next_turn (suc l) n v (λ m u. cells_set span cost m left None (further (Ptr p j) 1) u) in
          let T : Went → Res Mid → Type 0 = λ g q. SimL γ s0 x g (K n (coded part.zero_turn Stop) s0 x (then_next q (M (site_at S n) Stop))) in
          let hp = paid_now γ (s0 + 32) v z (spare γ (s0 + 40) (s0 + 32 + 8) v z (omega arith) hz) in
          subst (λ q. SimL γ s0 x r (K n (coded part.zero_turn Stop) s0 x q)) (sym (ap (λ c. then_next (choose (word_tested c) (mk v (paid z)) (M (site_at S n) zero_steps) (M (site_at S n) Stop)) (M (site_at S n) Stop)) at))
          (sets (site_at S n) T γ (s0 + 24) v (paid z) part.to (further (Ptr p j) 1) (StepO part.to part.to part.one) (Again 0 Stop) (spare γ (s0 + 32) (s0 + 24 + 8) v (paid z) (omega arith) hp) (low_free γ part.to (omega arith)) (ap (λ q. to temporaries part.to q (spent 8 (mk v (paid z)))) (step_eq (Ptr p j) (Num 1) (z.temps part.to) (z.temps part.one) etz e1z)) r (λ b hb atb restb.
          let hb2 = paid_now γ s0 v b (spare γ (s0 + 24) (s0 + 8) v b (omega arith) hb) in
          again n (coded part.zero_turn Stop) s0 x l v (paid b) (λ m u. cells_set span cost m left None (further (Ptr p j) 1) u) hb2 (λ k le. restb k (eqb_more k part.to (omega (arith, le))) ∙ kz k le)
          (λ m em. subst (λ k. SimL γ s0 (paid b) (cells_set span cost m k None (further (Ptr p j) 1) v) (M (site_at S m) (Loop (coded part.zero_turn Stop) Stop) (mk v (paid b)))) (sym el)
          (rec m l em el s0 (omega (arith, lt, el)) (further (Ptr p j) 1) v (paid b) hb2 (restb part.count refl ∙ at) (restb part.one refl ∙ e1z) (restb part.cell refl ∙ ezz) atb))))
  zero_step n left rec s0 lt Unwritten w x h ec e1 ez et = M_grows (site_at S n) (Loop (coded part.zero_turn Stop) Stop) (mk w x)
  zero_step n left rec s0 lt (Num k) w x h ec e1 ez et = M_grows (site_at S n) (Loop (coded part.zero_turn Stop) Stop) (mk w x)
  zero_step n left rec s0 lt Null w x h ec e1 ez et = M_grows (site_at S n) (Loop (coded part.zero_turn Stop) Stop) (mk w x)

  zero_loop : (left n : ℕ) → Zeroes n left
  zero_loop zero n = zero_step n zero (λ m l em el. absurd (omega (arith, el)))
  zero_loop (suc left) n = zero_step n (suc left) (λ m l em el. subst (Zeroes m) (omega (arith, el)) (zero_loop left m))

  -- ---- loops among other code

  -- a loop, and then what stands behind it
  after_loop : (σ : Way γ) (s0 : ℕ) (x : Side) (c : NodesT ℕ) (go : World → σ.R) → ((v : World) (y : Side) → Now γ (s0 + 16) v y → Others x y → σ.T (go v) (M S c (mk v y))) → (r : Went) (q : Res Mid) → SimL γ s0 x r q → σ.T (then_went σ.stop r go) (then_next q (M S c))
  after_loop σ s0 x c go f (Through v) q k = subst (λ p. σ.T (go v) (then_next p (M S c))) (sym k.1) (f v k.0 k.2 k.3)
  after_loop σ s0 x c go f (CutOff g v) q k = σ.stops g v (then_next q (M S c)) (kept_through γ g v q (λ p. then_next p (M S c)) (λ h t. refl) (λ p. then_grows p (M S c) (M_grows S c)) k)

  looped : (turn c : NodesT ℕ) (t : Mid) → then_next (M (site_at S S.bound) (Loop turn Stop) t) (M S c) ≡ M S (Loop turn c) t
  looped turn c t =
      ap (λ p. then_next (does (L S) S.bound p (Loop turn Stop) t) (M S c)) (sym S.is_below)
      ∙ ap (λ p. then_next p (M S c)) (next_same (turn_done (M S turn (spent 8 t)) (S.prev' (Loop turn Stop))))

  -- so many cells are copied
  pub copies : (σ : Way γ) (s0 size : ℕ) → size ≤ 2 ^ 32 → (p q : Cell) (w : World) (x : Side) (c : NodesT ℕ) → Now γ (s0 + 16) w x → x.temps part.from ≡ p → x.temps part.to ≡ q → (go : World → σ.R) → ((v : World) (y : Side) → Now γ (s0 + 16) v y → Others x y → σ.T (go v) (M S c (mk v y)))
      → σ.T (then_went σ.stop (cells_set span cost S.bound size (Some p) q w) go) (M S (coded (part.copied size) c) (mk w x))
  copies σ s0 zero le p q w x c h ef et go f = f w x h (λ j g. refl)
  copies σ s0 (suc left) le p q w x c h ef et go f =
      let r : σ.R = then_went σ.stop (cells_set span cost S.bound (suc left) (Some p) q w) go in
      sets S σ.T γ (s0 + 8) w x part.count (Num (suc left)) (ConstO part.count (suc left)) (Do (ConstO part.one 1) (Loop (coded part.copy_turn Stop) c)) (spare γ (s0 + 16) (s0 + 8 + 8) w x (omega arith) h) (low_free γ part.count (omega arith)) refl r (λ y hy at rest.
      sets S σ.T γ s0 w y part.one (Num 1) (ConstO part.one 1) (Loop (coded part.copy_turn Stop) c) hy (low_free γ part.one (omega arith)) refl r (λ z hz at2 rest2.
      subst (σ.T r) (looped (coded part.copy_turn Stop) c (mk w z))
      (after_loop σ s0 z c go (λ v u hu others. f v u hu (λ j g. others j g ∙ rest2 j (eqb_more j part.one (omega (arith, g))) ∙ rest j (eqb_more j part.count (omega (arith, g))))) (cells_set span cost S.bound (suc left) (Some p) q w) (M (site_at S S.bound) (Loop (coded part.copy_turn Stop) Stop) (mk w z))
      (copy_loop left S.bound s0 (omega (arith, le)) p q w z hz (rest2 part.count refl ∙ at) at2 (rest2 part.from refl ∙ rest part.from refl ∙ ef) (rest2 part.to refl ∙ rest part.to refl ∙ et)))))

  -- so many cells are set to 0
  pub zeroes : (σ : Way γ) (s0 size : ℕ) → size ≤ 2 ^ 32 → (q : Cell) (w : World) (x : Side) (c : NodesT ℕ) → Now γ (s0 + 24) w x → x.temps part.to ≡ q → (go : World → σ.R) → ((v : World) (y : Side) → Now γ (s0 + 16) v y → Others x y → σ.T (go v) (M S c (mk v y)))
      → σ.T (then_went σ.stop (cells_set span cost S.bound size None q w) go) (M S (coded (part.zeroed size) c) (mk w x))
  zeroes σ s0 zero le q w x c h et go f = f w x (spare γ (s0 + 24) (s0 + 16) w x (omega arith) h) (λ j g. refl)
  zeroes σ s0 (suc left) le q w x c h et go f =
      let r : σ.R = then_went σ.stop (cells_set span cost S.bound (suc left) None q w) go in
      sets S σ.T γ (s0 + 16) w x part.count (Num (suc left)) (ConstO part.count (suc left)) (Do (ConstO part.one 1) (Do (ConstO part.cell 0) (Loop (coded part.zero_turn Stop) c))) (spare γ (s0 + 24) (s0 + 16 + 8) w x (omega arith) h) (low_free γ part.count (omega arith)) refl r (λ y hy at rest.
      sets S σ.T γ (s0 + 8) w y part.one (Num 1) (ConstO part.one 1) (Do (ConstO part.cell 0) (Loop (coded part.zero_turn Stop) c)) (spare γ (s0 + 16) (s0 + 8 + 8) w y (omega arith) hy) (low_free γ part.one (omega arith)) refl r (λ z hz at2 rest2.
      sets S σ.T γ s0 w z part.cell (Num 0) (ConstO part.cell 0) (Loop (coded part.zero_turn Stop) c) hz (low_free γ part.cell (omega arith)) refl r (λ u hu at3 rest3.
      subst (σ.T r) (looped (coded part.zero_turn Stop) c (mk w u))
      (after_loop σ s0 u c go (λ v e he others. f v e he (λ j g. others j g ∙ rest3 j (eqb_more j part.cell (omega (arith, g))) ∙ rest2 j (eqb_more j part.one (omega (arith, g))) ∙ rest j (eqb_more j part.count (omega (arith, g))))) (cells_set span cost S.bound (suc left) None q w) (M (site_at S S.bound) (Loop (coded part.zero_turn Stop) Stop) (mk w u))
      (zero_loop left S.bound s0 (omega (arith, le)) q w u hu (rest3 part.count refl ∙ rest2 part.count refl ∙ at) (rest3 part.one refl ∙ at2) at3 (rest3 part.to refl ∙ rest2 part.to refl ∙ rest part.to refl ∙ et))))))

  -- ---- one and two words, by straight code

  -- a loop or store that something follows
  went_of : {A R : Type 0} (stop : End → World → R) (w : World) (q : Answer A) (f : A → Went) (go : World → R) → then_went stop (asked CutOff span w q f) go ≡ asked stop span w q (λ a. then_went stop (f a) go)
  went_of stop w (Ok a) f go = refl
  went_of stop w (Err Strays) f go = refl
  went_of stop w (Err (Faults k)) f go = refl

  went_then : {A B R : Type 0} (stop : End → World → R) (w : World) (q : Answer A) (r : A → Answer B) (f : B → Went) (go : World → R) → then_went stop (asked CutOff span w (then_ask q r) f) go ≡ asked stop span w q (λ a. asked stop span w (r a) (λ b. then_went stop (f b) go))
  went_then stop w (Ok a) r f go = went_of stop w (r a) f go
  went_then stop w (Err Strays) r f go = refl
  went_then stop w (Err (Faults k)) r f go = refl

  -- the further turns behind a word
  abbrev pub Turns : (left n : ℕ) (p q : Cell) → World → Went
  Turns left n p q u = next_turn left n u (λ m v. cells_set span cost m left (Some (further p 1)) (further q 1) v)

  -- the next word is read; what follows writes it
  pub cell_first : (σ : Way γ) (s0 n left a : ℕ) (p q : Cell) (w : World) (x : Side) (c : NodesT ℕ) → Now γ s0 w x → x.temps a ≡ p → (go : World → σ.R)
      → ((v : Cell) (y : Side) → Now γ (s0 + 56) (spend cost w) y → y.temps part.cell ≡ v → Rest part.cell x y → σ.T (asked σ.stop span (spend cost w) (write w.store.objects q v) (λ os. then_went σ.stop (Turns left n p q (on_store (with_objects os) (spend cost w))) go)) (M S c (mk (spend cost w) y)))
      → σ.T (then_went σ.stop (cells_set span cost n (suc left) (Some p) q w) go) (M S (Do (LoadO part.cell a) c) (mk w x))
  cell_first σ s0 n left a p q w x c h ea go f =
      let w1 : World = spend cost w in
      subst (λ r. σ.T r (M S (Do (LoadO part.cell a) c) (mk w x))) (sym (went_then σ.stop w1 (read w.store.objects p) (λ v. write w.store.objects q v) (λ os. Turns left n p q (on_store (with_objects os) w1)) go))
      (op S γ σ (s0 + 56) span w1 x part.cell (read w.store.objects p) (read x.objs (x.temps a)) (LoadO part.cell a) c (spare γ (s0 + 64) (s0 + 56 + 8) w1 x (omega arith) (counted s0 w x h)) (low_free γ part.cell (omega arith))
      (from_eq (read w.store.objects p) (read x.objs p) (read x.objs (x.temps a)) (ap (λ u. read x.objs u) ea) (read_both w.store.objects x.objs p h.stays.fit.under)) refl
      (λ v. asked σ.stop span w1 (write w.store.objects q v) (λ os. then_went σ.stop (Turns left n p q (on_store (with_objects os) w1)) go)) (λ v y hy at rest. f v y hy at rest))

  -- one word is copied
  pub word_copies : (σ : Way γ) (s0 n a b : ℕ) (p q : Cell) (w : World) (x : Side) (c : NodesT ℕ) → Now γ s0 w x → 3 ≤ b → x.temps a ≡ p → x.temps b ≡ q → (go : World → σ.R) → ((v : World) (y : Side) → Now γ (s0 + 48) v y → Rest part.cell x y → σ.T (go v) (M S c (mk v y)))
      → σ.T (then_went σ.stop (cells_set span cost n (suc zero) (Some p) q w) go) (M S (coded (part.word_copied a b) c) (mk w x))
  word_copies σ s0 n a b p q w x c h le ea eb go f =
      cell_first σ s0 n zero a p q w x (Do (StoreO b part.cell) c) h ea go (λ v y hy at rest.
      stores S γ σ span (spend cost w) (s0 + 48) y b part.cell q v c (spare γ (s0 + 56) (s0 + 48 + 8) (spend cost w) y (omega arith) hy) (rest b (eqb_more b part.cell (omega (arith, le))) ∙ eb) at go
      (λ os z hz alike. f (on_store (with_objects os) (spend cost w)) z hz (λ j ne. alike j ∙ rest j ne)))

  -- the word behind the first, whose place `from` has; b has the place of the first
  pub word_behind : (σ : Way γ) (s0 n o i b d j : ℕ) (w : World) (x : Side) (c : NodesT ℕ) → Now γ s0 w x → 3 ≤ b → x.temps part.from ≡ Ptr o i → x.temps b ≡ Ptr d j → (go : World → σ.R)
      → ((v : World) (y : Side) → Now γ (s0 + 32) v y → ((k : ℕ) → eqb k part.cell ≡ false → eqb k part.to ≡ false → eqb k part.one ≡ false → y.temps k ≡ x.temps k) → σ.T (go v) (M S c (mk v y)))
      → σ.T (then_went σ.stop (cells_set span cost n (suc zero) (Some (Ptr o i)) (further (Ptr d j) 1) w) go) (M S (Do (LoadO part.cell part.from) (Do (ConstO part.one 1) (Do (StepO part.to b part.one) (Do (StoreO part.to part.cell) c)))) (mk w x))
  word_behind σ s0 n o i b d j w x c h le ef eb go f =
      let q : Cell = further (Ptr d j) 1 in
      let w1 : World = spend cost w in
      let last : NodesT ℕ = Do (StoreO part.to part.cell) c in
      cell_first σ s0 n zero part.from (Ptr o i) q w x (Do (ConstO part.one 1) (Do (StepO part.to b part.one) last)) h ef go (λ v y hy at rest.
      let r : σ.R = asked σ.stop span w1 (write w.store.objects q v) (λ os. go (on_store (with_objects os) w1)) in
      sets S σ.T γ (s0 + 48) w1 y part.one (Num 1) (ConstO part.one 1) (Do (StepO part.to b part.one) last) (spare γ (s0 + 56) (s0 + 48 + 8) w1 y (omega arith) hy) (low_free γ part.one (omega arith)) refl r (λ e he at1 rest1.
      sets S σ.T γ (s0 + 40) w1 e part.to q (StepO part.to b part.one) last (spare γ (s0 + 48) (s0 + 40 + 8) w1 e (omega arith) he) (low_free γ part.to (omega arith))
      (ap (λ u. to temporaries part.to u (spent 8 (mk w1 e))) (step_eq (Ptr d j) (Num 1) (e.temps b) (e.temps part.one) (rest1 b (eqb_more b part.one (omega (arith, le))) ∙ rest b (eqb_more b part.cell (omega (arith, le))) ∙ eb) at1)) r (λ z hz at2 rest2.
      stores S γ σ span w1 (s0 + 32) z part.to part.cell q v c (spare γ (s0 + 40) (s0 + 32 + 8) w1 z (omega arith) hz) at2 (rest2 part.cell refl ∙ rest1 part.cell refl ∙ at) go
      (λ os u hu alike. f (on_store (with_objects os) w1) u hu (λ k nc nt no. alike k ∙ rest2 k nt ∙ rest1 k no ∙ rest k nc)))))

  -- ---- the turn that is asked for between two words

  abbrev asking_steps : NodesT ℕ
  asking_steps = Do (ConstO part.count 0) (Again 0 Stop)

  abbrev asking : NodesT ℕ
  asking = Choose part.count asking_steps Stop Stop

  -- the state in which the further turn begins
  abbrev asked_side : Side → Side
  asked_side y = record y { temps = putting y.temps part.count (Num 0); work = y.work + 8 + 8 + 8 + 8 }

  asked_is : (w : World) (y : Side) (c : NodesT ℕ) → y.temps part.count ≡ Num 1 → M S (Loop asking c) (mk w y) ≡ then_next (mid_below (L S) S.bound (Loop asking Stop) (mk w (asked_side y))) (M S c)
  asked_is w y c at =
      ap (λ d. then_next (turn_done (then_next (choose (word_tested d) (mk w (paid (paid y))) (M S asking_steps) (M S Stop)) (M S Stop)) (S.prev' (Loop asking Stop))) (M S c)) at
      ∙ ap (λ p. then_next (p (Loop asking Stop) (mk w (asked_side y))) (M S c)) S.is_below

  -- where a cell is left
  pub turn_goes : (σ : Way γ) (s0 : ℕ) (w : World) (x : Side) (c : NodesT ℕ) → Now γ (s0 + 48) w x → x.temps part.count ≡ Num 1 → (turn : ℕ → World → Went) (go : World → σ.R) → ((m : ℕ) (y : Side) → Now γ s0 w y → Rest part.count x y → σ.T (then_went σ.stop (turn m w) go) (M S c (mk w y)))
      → σ.T (then_went σ.stop (next_turn (suc zero) S.bound w turn) go) (M S (Loop asking c) (mk w x))
  turn_goes σ s0 w x c h at turn go f =
      subst (σ.T (then_went σ.stop (next_turn (suc zero) S.bound w turn) go)) (sym (asked_is w x c at))
      (by (set_now γ (s0 + 24) w (paid (paid x)) part.count (Num 0) (low_free γ part.count (omega arith)) (twice (s0 + 24 + 8) w x (spare γ (s0 + 48) (s0 + 24 + 8 + 16) w x (omega arith) h))) S.bound)
    where
      twice : (s : ℕ) (w : World) (y : Side) → Now γ (s + 16) w y → Now γ s w (paid (paid y))
      twice s w y hy = paid_now γ s w (paid y) (paid_now γ (s + 8) w y (spare γ (s + 16) (s + 8 + 8) w y (omega arith) hy))

      z : Side
      z = set part.count (Num 0) (paid (paid x))

      by : Now γ (s0 + 24) w z → (i : ℕ) → σ.T (then_went σ.stop (next_turn (suc zero) i w turn) go) (then_next (mid_below (L S) i (Loop asking Stop) (mk w (asked_side x))) (M S c))
      by hz zero = σ.stops OutOfBound w _ (stopped γ OutOfBound w (asked_side x) _ (fin_now γ (s0 + 16) w (asked_side x) (paid_now γ (s0 + 16) w z (spare γ (s0 + 24) (s0 + 16 + 8) w z (omega arith) hz))) refl)
      by hz (suc m) =
          f m (paid (paid (paid z))) (paid_now γ s0 w (paid (paid z)) (twice (s0 + 8) w z (spare γ (s0 + 24) (s0 + 8 + 16) w z (omega arith) hz))) (λ j ne. put_other x.temps part.count j (Num 0) ne)

  pub turn_asked : (σ : Way γ) (s0 : ℕ) (w : World) (x : Side) (c : NodesT ℕ) → Now γ (s0 + 56) w x → (turn : ℕ → World → Went) (go : World → σ.R) → ((m : ℕ) (y : Side) → Now γ s0 w y → Rest part.count x y → σ.T (then_went σ.stop (turn m w) go) (M S c (mk w y)))
      → σ.T (then_went σ.stop (next_turn (suc zero) S.bound w turn) go) (M S (coded part.asked c) (mk w x))
  turn_asked σ s0 w x c h turn go f =
      sets S σ.T γ (s0 + 48) w x part.count (Num 1) (ConstO part.count 1) (Loop asking c) (spare γ (s0 + 56) (s0 + 48 + 8) w x (omega arith) h) (low_free γ part.count (omega arith)) refl (then_went σ.stop (next_turn (suc zero) S.bound w turn) go) (λ y hy at rest.
      turn_goes σ s0 w y c hy at turn go (λ m z hz rest2. f m z hz (λ j ne. rest2 j ne ∙ rest j ne)))

  -- two words are copied
  pub pair_copies : (σ : Way γ) (s0 a b : ℕ) (p q : Cell) (w : World) (x : Side) (c : NodesT ℕ) → Now γ (s0 + 24) w x → 3 ≤ a → 3 ≤ b → x.temps a ≡ p → x.temps b ≡ q → eqb b part.from ≡ false → (go : World → σ.R) → ((v : World) (y : Side) → Now γ (s0 + 32) v y → Others x y → σ.T (go v) (M S c (mk v y)))
      → σ.T (then_went σ.stop (cells_set span cost S.bound (suc (suc zero)) (Some p) q w) go) (M S (coded (part.pair_copied a b) c) (mk w x))
  pair_copies σ s0 a b (Ptr o i) q w x c h la lb ea eb nb go f =
      cell_first σ (s0 + 24) S.bound (suc zero) a (Ptr o i) q w x (Do (StoreO b part.cell) (coded part.asked behind)) h ea go (λ v y hy at rest. first q v y (spare γ (s0 + 24 + 56) (s0 + 80) w1 y (omega arith) hy) at rest eb)
    where
      w1 : World
      w1 = spend cost w

      second : NodesT ℕ
      second = Do (LoadO part.cell part.from) (Do (ConstO part.one 1) (Do (StepO part.to b part.one) (Do (StoreO part.to part.cell) c)))

      behind : NodesT ℕ
      behind = Do (ConstO part.one 1) (Do (StepO part.from a part.one) second)

      first : (q v : Cell) (y : Side) → Now γ (s0 + 80) w1 y → y.temps part.cell ≡ v → Rest part.cell x y → x.temps b ≡ q → σ.T (asked σ.stop span w1 (write w.store.objects q v) (λ os. then_went σ.stop (Turns (suc zero) S.bound (Ptr o i) q (on_store (with_objects os) w1)) go)) (M S (Do (StoreO b part.cell) (coded part.asked behind)) (mk w1 y))
      first (Ptr d j) v y hy at rest eb =
          stores S γ σ span w1 (s0 + 72) y b part.cell (Ptr d j) v (coded part.asked behind) (spare γ (s0 + 80) (s0 + 72 + 8) w1 y (omega arith) hy) (rest b (eqb_more b part.cell (omega (arith, lb))) ∙ eb) at (λ u. then_went σ.stop (Turns (suc zero) S.bound (Ptr o i) (Ptr d j) u) go)
          (λ os z hz alike.
          let w2 : World = on_store (with_objects os) w1 in
          let turn : ℕ → World → Went = λ m v. cells_set span cost m (suc zero) (Some (further (Ptr o i) 1)) (further (Ptr d j) 1) v in
          turn_asked σ (s0 + 16) w2 z behind (spare γ (s0 + 72) (s0 + 16 + 56) w2 z (omega arith) hz) turn go
          (λ m t ht rest2.
          let r : σ.R = then_went σ.stop (turn m w2) go in
          sets S σ.T γ (s0 + 8) w2 t part.one (Num 1) (ConstO part.one 1) (Do (StepO part.from a part.one) second) (spare γ (s0 + 16) (s0 + 8 + 8) w2 t (omega arith) ht) (low_free γ part.one (omega arith)) refl r (λ e he at3 rest3.
          sets S σ.T γ s0 w2 e part.from (further (Ptr o i) 1) (StepO part.from a part.one) second (spare γ (s0 + 8) (s0 + 8) w2 e (omega arith) he) (low_free γ part.from (omega arith))
          (ap (λ u. to temporaries part.from u (spent 8 (mk w2 e))) (step_eq (Ptr o i) (Num 1) (e.temps a) (e.temps part.one) (rest3 a (eqb_more a part.one (omega (arith, la))) ∙ rest2 a (eqb_more a part.count (omega (arith, la))) ∙ alike a ∙ rest a (eqb_more a part.cell (omega (arith, la))) ∙ ea) at3)) r (λ g hg at4 rest4.
          word_behind σ s0 m o _ b d j w2 g c hg lb at4 (rest4 b nb ∙ rest3 b (eqb_more b part.one (omega (arith, lb))) ∙ rest2 b (eqb_more b part.count (omega (arith, lb))) ∙ alike b ∙ rest b (eqb_more b part.cell (omega (arith, lb))) ∙ eb) go
          (λ v u hu others. f v u hu (λ k le. others k (eqb_more k part.cell (omega (arith, le))) (eqb_more k part.to (omega (arith, le))) (eqb_more k part.one (omega (arith, le))) ∙ rest4 k (eqb_more k part.from (omega (arith, le))) ∙ rest3 k (eqb_more k part.one (omega (arith, le))) ∙ rest2 k (eqb_more k part.count (omega (arith, le))) ∙ alike k ∙ rest k (eqb_more k part.cell (omega (arith, le)))))))))
      first Unwritten v y hy at rest eb = σ.stops (Stray span) w1 _ (M_grows S (Do (StoreO b part.cell) (coded part.asked behind)) (mk w1 y))
      first (Num k) v y hy at rest eb = σ.stops (Stray span) w1 _ (M_grows S (Do (StoreO b part.cell) (coded part.asked behind)) (mk w1 y))
      first Null v y hy at rest eb = σ.stops (Stray span) w1 _ (M_grows S (Do (StoreO b part.cell) (coded part.asked behind)) (mk w1 y))
  pair_copies σ s0 a b Unwritten q w x c h la lb ea eb nb go f = σ.stops (Stray span) (spend cost w) _ (M_grows S (coded (part.pair_copied a b) c) (mk w x))
  pair_copies σ s0 a b (Num k) q w x c h la lb ea eb nb go f = σ.stops (Stray span) (spend cost w) _ (M_grows S (coded (part.pair_copied a b) c) (mk w x))
  pair_copies σ s0 a b Null q w x c h la lb ea eb nb go f = σ.stops (Stray span) (spend cost w) _ (M_grows S (coded (part.pair_copied a b) c) (mk w x))

  -- ---- copies of any size, between places and to the place in `to`

  pub copies_between : (σ : Way γ) (s0 size : ℕ) → size ≤ 2 ^ 32 → (a b : ℕ) (p q : Cell) (w : World) (x : Side) (c : NodesT ℕ) → Now γ (s0 + 32) w x → 5 ≤ a → 5 ≤ b → x.temps a ≡ p → x.temps b ≡ q → (go : World → σ.R) → ((v : World) (y : Side) → Now γ (s0 + 16) v y → Others x y → σ.T (go v) (M S c (mk v y)))
      → σ.T (then_went σ.stop (cells_set span cost S.bound size (Some p) q w) go) (M S (coded (part.copied_between size a b) c) (mk w x))
  copies_between σ s0 zero le a b p q w x c h la lb ea eb go f = f w x (spare γ (s0 + 32) (s0 + 16) w x (omega arith) h) (λ j g. refl)
  copies_between σ s0 (suc zero) le a b p q w x c h la lb ea eb go f =
      word_copies σ (s0 + 32) S.bound a b p q w x c h (omega (arith, lb)) ea eb go (λ v y hy rest. f v y (spare γ (s0 + 32 + 48) (s0 + 16) v y (omega arith) hy) (λ j g. rest j (eqb_more j part.cell (omega (arith, g)))))
  copies_between σ s0 (suc (suc zero)) le a b p q w x c h la lb ea eb go f =
      pair_copies σ (s0 + 8) a b p q w x c (spare γ (s0 + 32) (s0 + 8 + 24) w x (omega arith) h) (omega (arith, la)) (omega (arith, lb)) ea eb (eqb_more b part.from (omega (arith, lb))) go (λ v y hy others. f v y (spare γ (s0 + 8 + 32) (s0 + 16) v y (omega arith) hy) others)
  copies_between σ s0 (suc (suc (suc left))) le a b p q w x c h la lb ea eb go f =
      let size : ℕ = suc (suc (suc left)) in
      let r : σ.R = then_went σ.stop (cells_set span cost S.bound size (Some p) q w) go in
      sets S σ.T γ (s0 + 24) w x part.from p (MoveO part.from a) (Do (MoveO part.to b) (coded (part.copied size) c)) (spare γ (s0 + 32) (s0 + 24 + 8) w x (omega arith) h) (low_free γ part.from (omega arith)) (ap (λ z. to temporaries part.from (Ok z) (spent 8 (mk w x))) ea) r (λ y hy ey rest.
      sets S σ.T γ (s0 + 16) w y part.to q (MoveO part.to b) (coded (part.copied size) c) (spare γ (s0 + 24) (s0 + 16 + 8) w y (omega arith) hy) (low_free γ part.to (omega arith)) (ap (λ z. to temporaries part.to (Ok z) (spent 8 (mk w y))) (rest b (eqb_more b part.from (omega (arith, lb))) ∙ eb)) r (λ z hz ez rest2.
      copies σ s0 size le p q w z c hz (rest2 part.from refl ∙ ey) ez go (λ v u hu others. f v u hu (λ j g. others j g ∙ rest2 j (eqb_more j part.to (omega (arith, g))) ∙ rest j (eqb_more j part.from (omega (arith, g)))))))

  pub copies_on : (σ : Way γ) (s0 size : ℕ) → size ≤ 2 ^ 32 → (a : ℕ) (p q : Cell) (w : World) (x : Side) (c : NodesT ℕ) → Now γ (s0 + 24) w x → 5 ≤ a → x.temps a ≡ p → x.temps part.to ≡ q → (go : World → σ.R) → ((v : World) (y : Side) → Now γ (s0 + 16) v y → Others x y → σ.T (go v) (M S c (mk v y)))
      → σ.T (then_went σ.stop (cells_set span cost S.bound size (Some p) q w) go) (M S (coded (part.copied_on size a) c) (mk w x))
  copies_on σ s0 zero le a p q w x c h la ea et go f = f w x (spare γ (s0 + 24) (s0 + 16) w x (omega arith) h) (λ j g. refl)
  copies_on σ s0 (suc zero) le a p q w x c h la ea et go f =
      word_copies σ (s0 + 24) S.bound a part.to p q w x c h (omega arith) ea et go (λ v y hy rest. f v y (spare γ (s0 + 24 + 48) (s0 + 16) v y (omega arith) hy) (λ j g. rest j (eqb_more j part.cell (omega (arith, g)))))
  copies_on σ s0 (suc (suc zero)) le a p q w x c h la ea et go f =
      pair_copies σ s0 a part.to p q w x c h (omega (arith, la)) (omega arith) ea et refl go (λ v y hy others. f v y (spare γ (s0 + 32) (s0 + 16) v y (omega arith) hy) others)
  copies_on σ s0 (suc (suc (suc left))) le a p q w x c h la ea et go f =
      let size : ℕ = suc (suc (suc left)) in
      let r : σ.R = then_went σ.stop (cells_set span cost S.bound size (Some p) q w) go in
      sets S σ.T γ (s0 + 16) w x part.from p (MoveO part.from a) (coded (part.copied size) c) (spare γ (s0 + 24) (s0 + 16 + 8) w x (omega arith) h) (low_free γ part.from (omega arith)) (ap (λ z. to temporaries part.from (Ok z) (spent 8 (mk w x))) ea) r (λ y hy ey rest.
      copies σ s0 size le p q w y c hy ey (rest part.to refl ∙ et) go (λ v u hu others. f v u hu (λ j g. others j g ∙ rest j (eqb_more j part.from (omega (arith, g))))))
