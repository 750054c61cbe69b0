-- A program that stands among the words is linked.
use Rattle.std.proofs.Common.{◌≡◌, ℕ, zero, suc, inl, inr, Bool, true, false, List, [], ◌∷◌, ◌++◌, length, Option, Some, None, refl, sym, ap, ◌∙◌, subst}
use Rattle.std.specs.Prelude.{is_some, slice_get, option_map, ◌==◌, ◌&&◌, not}
use Rattle.v32_isa.specs.declared.instruction.One.{One}
use Rattle.v32_isa.specs.declared.instruction.One.TheVariants.{CIB, NOT, BNOT, ISGN, IABS}
use Rattle.obj_mem.specs.Runs.{IsCard}
use Rattle.mid_code.specs.declared.placed.Where.{Where}
use Rattle.mid_code.specs.Code.{OpT, ConstO, NullO, MoveO, OneO, TwoO, GlobalO, LocalO, LiteralO, CardO, StepO, ApartO, PtrTestO, LoadO, StoreO, FreshO, EndO, InO, OutO, WaitO, HaltO, FunctionT, NodesT, Stop, Do, Call, Choose, Block, Loop, Leave, Again, Return, maybe}
use Rattle.mid_code.specs.Invariants.{IsOne, IsOp, AreNodes, NodeNames, Names, CallsNone}
use Rattle.mid_code.specs.Runs.{placed_runs}
use Rattle.mid_code.specs.Agrees.{AgreesWithin}
use Rattle.either.specs.declared.Either.TheVariants.{Right}
use Rattle.v32_isa.specs.declared.instruction.Go.TheVariants.{CALL}
use Rattle.v32_isa.specs.declared.instruction.Src.TheVariants as src
use Rattle.v32_isa.specs.declared.instruction.Instr.TheVariants as instr
use Rattle.asm_items.specs.declared.item.AsmItem.TheVariants as item
use Rattle.asm_laws.specs.Names.{function_label}
use Rattle.asm_laws.specs.Placing.{Bounds, paid, Past}
use Rattle.asm_laws.specs.Operations.{args_items, group_more}
use Rattle.asm_laws.specs.Pieces.{is_in}
use Rattle.asm_laws.specs.Spare.{are_others, spares, Sparing}
use Rattle.asm_laws.specs.Addresses.{IsPlainOne}
use Rattle.asm_laws.specs.Standing.{Stand}
use Rattle.asm_laws.specs.Holds.{Setting, Named, depth_of}
use Rattle.asm_laws.specs.Acting.{Fitting, FrontFits}
use Rattle.asm_laws.specs.Calling.{Callable, MadeAt, shapes}
use Rattle.asm_laws.specs.Linked.{Linked, Plan, setting}
use Rattle.asm_laws.specs.Live.{is_place, is_among, is_read, is_put, exposed, Lasts}
use Rattle.asm_laws.proofs.LiveParts.{or_first, or_second}
use Rattle.asm_laws.proofs.Lasting.{opened, turned, group_lasts, ask_lasts, copied_lasts, turns_last, body_last, rest_last}
use Rattle.asm_laws.specs.Program.{items_at, ProgramAt, Sound, Program}
use Rattle.asm_laws.proofs.Opening.{opens}
use Rattle.asm_laws.proofs.Spared.{halves, all_stay, one_stays}
use Rattle.asm_laws.proofs.Leading.{spares_behind}
use Rattle.asm_laws.proofs.Agrees.{agrees}

plain_one : (o : One) → IsOne o → IsPlainOne o
plain_one CIB h = tt
plain_one NOT h = tt
plain_one BNOT h = tt
plain_one ISGN h = tt
plain_one IABS h = tt
plain_one _ h = absurd h

pub mapped_from : {A B : Type 0} (f : A → B) (o : Option A) (b : B) → option_map f o ≡ Some b → (v : A) × (o ≡ Some v) × (f v ≡ b)
mapped_from f None b e = cc
mapped_from f (Some v) b e = (v, refl, cc)

module _ (S : Setting) (boot rest : ℕ) (card : Option (List ℕ)) (ok : IsCard card) (P : Program S boot rest card) where
  fitting : (f : ℕ) → Sound S f → (o : OpT Where) (c : NodesT Where) → IsOp S.code (length (S.locals f)) o → NodeNames (Named S f) (Do o c) → Fitting S f o
  fitting f so (ConstO t n) c i m = m.1.0
  fitting f so (NullO t) c i m = m.1.0
  fitting f so (MoveO t p) c i m = (m.1.0, m.0.0)
  fitting f so (OneO o t p) c i m = (plain_one o i, m.1.0, m.0.0)
  fitting f so (TwoO o t p q) c i m = (m.1.0, m.0.0, m.0.1.0)
  fitting f so (GlobalO t k) c i m = (m.1.0, i)
  fitting f so (LocalO t k) c i m = (m.1.0, i, so.local_there k i)
  fitting f so (LiteralO t k) c i m = (m.1.0, i)
  fitting f so (CardO t) c i m = m.1.0
  fitting f so (StepO t p n) c i m = (m.1.0, m.0.0, m.0.1.0)
  fitting f so (ApartO t p q) c i m = (m.1.0, m.0.0, m.0.1.0)
  fitting f so (PtrTestO o t p q) c i m = (i, m.1.0, m.0.0, m.0.1.0)
  fitting f so (LoadO t p) c i m = (m.1.0, m.0.0)
  fitting f so (StoreO p q) c i m = (m.0.0, m.0.1.0)
  fitting f so (FreshO k) c i m = i
  fitting f so (EndO k) c i m = tt
  fitting f so (InO t port) c i m = (m.1.0, P.readable port i, i)
  fitting f so (OutO port p) c i m = (m.0.0, P.writable port i, i)
  fitting f so WaitO c i m = tt
  fitting f so HaltO c i m = tt

  abbrev Calls : ℕ → Type 0
  Calls f = (g : ℕ) (fn : FunctionT Where) → slice_get S.code.functions g ≡ Some fn → (depth_of S f ≡ (S.whole.frames f).size) × Callable S g × (S.whole.params g ≡ fn.params)

  front_fits : (f : ℕ) → Sound S f → (bs : List Bool) (c : NodesT Where) (k : ℕ) → AreNodes S.code (length (S.locals f)) bs c → Names (Named S f) c → FrontFits S f c k
  front_fits f so bs (Do o c) zero n m = tt
  front_fits f so bs (Do o c) (suc k) n m = (fitting f so o c n.0 m.0, front_fits f so bs c k n.1 m.1)
  front_fits f so bs Stop k n m = tt
  front_fits f so bs (Call t g args c) k n m = tt
  front_fits f so bs (Choose w x y c) k n m = tt
  front_fits f so bs (Block b c) k n m = tt
  front_fits f so bs (Loop b c) k n m = tt
  front_fits f so bs (Leave j c) k n m = tt
  front_fits f so bs (Again j c) k n m = tt
  front_fits f so bs (Return w c) k n m = tt

  abbrev Number : ℕ → ℕ
  Number f = (S.whole.frames f).registers

  -- an operation, and what comes behind those that are done with it
  onward : (f : ℕ) (o : OpT Where) (c : NodesT Where) (more : ℕ) → more ≡ group_more S.whole (S.whole.frames f) o c → Sparing (Number f) (Do o c) zero → Sparing (Number f) c more
  onward f o c more e sp = subst (λ k. Sparing (Number f) c k) (sym e) (spares_behind S f S.whole (S.whole.frames f) o c sp)

  -- an operator whose word is given back
  made_there : (f : ℕ) → Sound S f → (bs : List Bool) (o : OpT Where) (c : NodesT Where) (pc : ℕ) → AreNodes S.code (length (S.locals f)) bs (Do o c) → Names (Named S f) (Do o c) → Sparing (Number f) (Do o c) zero → (items_at S).made f pc o c → MadeAt S f pc o c
  made_there f so bs o c pc n m sp h = record { more = h.0; made = h.1; is = h.2; fits = fitting f so o c n.0 m.0; front = front_fits f so bs c h.0 n.1 m.1; spares = sp; then = h.3; stands = h.4; out = h.5; passes = h.6; exit = h.7 }

  more_lasts : (f : ℕ) (u : ℕ → Bool) (o : OpT Where) (c : NodesT Where) (more : ℕ) → more ≡ group_more S.whole (S.whole.frames f) o c → Lasts (S.whole.frames f).lasting u (Do o c) zero → Lasts (S.whole.frames f).lasting (λ r. u r && not (is_put o r)) c more
  more_lasts f u o c more e la = subst (λ k. Lasts (S.whole.frames f).lasting (λ r. u r && not (is_put o r)) c k) (sym e) (group_lasts (S.whole.frames f).lasting S.whole (S.whole.frames f) u o c la)

  at_of : (f : ℕ) → Sound S f → Calls f → (u : ℕ → Bool) (ls : List Bounds) (bs : List Bool) (c : NodesT Where) (done pc e : ℕ) → AreNodes S.code (length (S.locals f)) bs c → Names (Named S f) c → Sparing (Number f) c done → Lasts (S.whole.frames f).lasting u c done → Past (items_at S) f ls pc c done e → Past (shapes S) f ls pc c done e
  at_of f so cs u ls bs Stop done pc e n m sp la at = at
  at_of f so cs u ls bs (Do o c) zero pc e n m sp la (inl h) = inl (made_there f so bs o c pc n m sp h)
  at_of f so cs u ls bs (Do o c) zero pc e n m sp la (inr at) = inr (
    at.0,
    at.1,
    (fitting f so o c n.0 m.0, front_fits f so bs c at.0 n.1 m.1, at.2.0, at.2.1, sp, m),
    at_of f so cs (λ r. u r && not (is_put o r)) ls bs c at.0 at.1 e n.1 m.1 (onward f o c at.0 at.2.1 sp) (more_lasts f u o c at.0 at.2.1 la) at.3,
  )
  at_of f so cs u ls bs (Do o c) (suc k) pc e n m sp la at = at_of f so cs (λ r. u r && not (is_put o r)) ls bs c k pc e n.1 m.1 sp (λ r lt i. la r lt (or_second (u r && is_read o r) _ i)) at
  at_of f so cs u ls bs (Call t g args c) done pc e n m sp la at =
      let i = mapped_from (λ h. length h.params) (slice_get S.code.functions g) (length args) n.0 in
      let s = cs g i.0 i.1 in
      let d = halves (Number f) (are_others args) (spares c zero) sp in (
        at.0,
        record { depth = s.0; callable = s.1; target = m.0.1; args_named = m.0.0; args_stay = all_stay S f (Number f) args d.0 m.0.0; count = sym i.2 ∙ ap length (sym s.2); stands = at.1 },
        at_of f so cs (λ r. false) ls bs c zero at.0 e n.1 m.1 d.1 (λ r lt j. la r lt (or_second (u r && is_among args r) _ j)) at.2,
      )
  at_of f so cs u ls bs (Choose w x y c) done pc e n m sp la at =
      let d = halves (Number f) (not (is_in w 8)) (spares x zero && (spares y zero && spares c zero)) sp in
      let h = halves (Number f) (spares x zero) (spares y zero && spares c zero) d.1 in
      let i = halves (Number f) (spares y zero) (spares c zero) h.1 in
      let lx : Lasts (S.whole.frames f).lasting u x zero = λ r lt j. la r lt (or_second (u r && is_place w r) _ (or_first (exposed (u r) x 0 r) _ j)) in
      let ly : Lasts (S.whole.frames f).lasting u y zero = λ r lt j. la r lt (or_second (u r && is_place w r) _ (or_second (exposed (u r) x 0 r) _ (or_first (exposed (u r) y 0 r) (exposed true c 0 r) j))) in
      let lc : Lasts (S.whole.frames f).lasting (λ r. true) c zero = λ r lt j. la r lt (or_second (u r && is_place w r) _ (or_second (exposed (u r) x 0 r) _ (or_second (exposed (u r) y 0 r) (exposed true c 0 r) j))) in (
        at.0,
        at.1,
        at.2,
        at.3,
        (m.0.0.0, at.4, one_stays S f (Number f) w d.0 m.0.0.0),
        at_of f so cs u (paid ls) bs x zero at.0 at.1 n.0 m.1 h.0 lx at.5,
        at.6,
        at_of f so cs u (paid ls) bs y zero at.2 at.3 n.1 m.2 i.0 ly at.7,
        at_of f so cs (λ r. true) ls bs c zero at.3 e n.2 m.3 i.1 lc at.8,
        opened (S.whole.frames f).lasting c lc,
      )
  at_of f so cs u ls bs (Block b c) done pc e n m sp la at =
      let d = halves (Number f) (spares b zero) (spares c zero) sp in
      let lb : Lasts (S.whole.frames f).lasting u b zero = λ r lt j. la r lt (or_first (exposed (u r) b 0 r) (exposed true c 0 r) j) in
      let lc : Lasts (S.whole.frames f).lasting (λ r. true) c zero = λ r lt j. la r lt (or_second (exposed (u r) b 0 r) (exposed true c 0 r) j) in
      (at.0, at_of f so cs u (record { begins = pc; ends = at.0; owes = true } ∷ ls) (false ∷ bs) b zero pc at.0 n.0 m.0 d.0 lb at.1, at_of f so cs (λ r. true) ls bs c zero at.0 e n.1 m.1 d.1 lc at.2, opened (S.whole.frames f).lasting c lc)
  at_of f so cs u ls bs (Loop b c) done pc e n m sp la (p, inl h, rest) =
      let d = halves (Number f) (spares b zero) (spares c zero) sp in
      (p, inl (h.0, h.1, h.2, m.0), at_of f so cs (λ r. u r && not (r == h.0)) ls bs c zero p e n.1 m.1 d.1 (ask_lasts (S.whole.frames f).lasting u b c done la h.0 h.1) rest)
  at_of f so cs u ls bs (Loop b c) done pc e n m sp la (p, inr (inl h), rest) =
      let d = halves (Number f) (spares b zero) (spares c zero) sp in
      (p, inr (inl (h.0, h.1, h.2, m.0, d.0)), at_of f so cs u ls bs c zero p e n.1 m.1 d.1 (copied_lasts (S.whole.frames f).lasting u b c done la h.0 h.1) rest)
  at_of f so cs u ls bs (Loop b c) done pc e n m sp la (p, inr (inr (plain, r, passes, body, begins, turns, behind)), rest) =
      let d = halves (Number f) (spares b zero) (spares c zero) sp in
      let lb = body_last (S.whole.frames f).lasting u b c done la plain in
      let lc = rest_last (S.whole.frames f).lasting u b c done la plain in
      let lt = turns_last (S.whole.frames f).lasting u b c done la plain in (
        p,
        inr (inr (plain, r, passes, at_of f so cs (λ i. true) (record { begins = r; ends = p; owes = true } ∷ ls) (true ∷ bs) b zero r p n.0 m.0 d.0 lb body, opened (S.whole.frames f).lasting b lb, turned (S.whole.frames f).lasting b plain.0 lt, opened (S.whole.frames f).lasting c lc)),
        at_of f so cs (λ i. true) ls bs c zero p e n.1 m.1 d.1 lc rest,
      )
  at_of f so cs u ls bs (Leave k c) done pc e n m sp la at = (at.0, (at.1.0, at_of f so cs (λ r. true) ls bs c zero at.1.0 e n.1 m sp la at.1.1))
  at_of f so cs u ls bs (Again k c) done pc e n m sp la at = (at.0, (at.1.0, at_of f so cs (λ r. true) ls bs c zero at.1.0 e n.1 m sp la at.1.1))
  at_of f so cs u ls bs (Return w c) done pc e n m sp la at =
      let d = halves (Number f) (are_others (maybe w)) (spares c zero) sp in (
        record { named = m.0.0; stays = all_stay S f (Number f) (maybe w) d.0 m.0.0; then = at.0.0; stands = at.0.1; out = at.0.2; passes = at.0.3; exit = at.0.4 },
        (at.1.0, at_of f so cs (λ r. true) ls bs c zero at.1.0 e n m.1 d.1 (λ r lt i. la r lt (or_second (u r && is_among (maybe w) r) _ i)) at.1.1),
      )

  -- the start calls none
  at_quiet : (f : ℕ) → Sound S f → (u : ℕ → Bool) (ls : List Bounds) (bs : List Bool) (c : NodesT Where) (done pc e : ℕ) → AreNodes S.code (length (S.locals f)) bs c → Names (Named S f) c → CallsNone c → Sparing (Number f) c done → Lasts (S.whole.frames f).lasting u c done → Past (items_at S) f ls pc c done e → Past (shapes S) f ls pc c done e
  at_quiet f so u ls bs Stop done pc e n m q sp la at = at
  at_quiet f so u ls bs (Do o c) zero pc e n m q sp la (inl h) = inl (made_there f so bs o c pc n m sp h)
  at_quiet f so u ls bs (Do o c) zero pc e n m q sp la (inr at) = inr (
    at.0,
    at.1,
    (fitting f so o c n.0 m.0, front_fits f so bs c at.0 n.1 m.1, at.2.0, at.2.1, sp, m),
    at_quiet f so (λ r. u r && not (is_put o r)) ls bs c at.0 at.1 e n.1 m.1 q (onward f o c at.0 at.2.1 sp) (more_lasts f u o c at.0 at.2.1 la) at.3,
  )
  at_quiet f so u ls bs (Do o c) (suc k) pc e n m q sp la at = at_quiet f so (λ r. u r && not (is_put o r)) ls bs c k pc e n.1 m.1 q sp (λ r lt i. la r lt (or_second (u r && is_read o r) _ i)) at
  at_quiet f so u ls bs (Call t g args c) done pc e n m q sp la at = absurd q
  at_quiet f so u ls bs (Choose w x y c) done pc e n m q sp la at =
      let d = halves (Number f) (not (is_in w 8)) (spares x zero && (spares y zero && spares c zero)) sp in
      let h = halves (Number f) (spares x zero) (spares y zero && spares c zero) d.1 in
      let i = halves (Number f) (spares y zero) (spares c zero) h.1 in
      let lx : Lasts (S.whole.frames f).lasting u x zero = λ r lt j. la r lt (or_second (u r && is_place w r) _ (or_first (exposed (u r) x 0 r) _ j)) in
      let ly : Lasts (S.whole.frames f).lasting u y zero = λ r lt j. la r lt (or_second (u r && is_place w r) _ (or_second (exposed (u r) x 0 r) _ (or_first (exposed (u r) y 0 r) (exposed true c 0 r) j))) in
      let lc : Lasts (S.whole.frames f).lasting (λ r. true) c zero = λ r lt j. la r lt (or_second (u r && is_place w r) _ (or_second (exposed (u r) x 0 r) _ (or_second (exposed (u r) y 0 r) (exposed true c 0 r) j))) in (
        at.0,
        at.1,
        at.2,
        at.3,
        (m.0.0.0, at.4, one_stays S f (Number f) w d.0 m.0.0.0),
        at_quiet f so u (paid ls) bs x zero at.0 at.1 n.0 m.1 q.0 h.0 lx at.5,
        at.6,
        at_quiet f so u (paid ls) bs y zero at.2 at.3 n.1 m.2 q.1 i.0 ly at.7,
        at_quiet f so (λ r. true) ls bs c zero at.3 e n.2 m.3 q.2 i.1 lc at.8,
        opened (S.whole.frames f).lasting c lc,
      )
  at_quiet f so u ls bs (Block b c) done pc e n m q sp la at =
      let d = halves (Number f) (spares b zero) (spares c zero) sp in
      let lb : Lasts (S.whole.frames f).lasting u b zero = λ r lt j. la r lt (or_first (exposed (u r) b 0 r) (exposed true c 0 r) j) in
      let lc : Lasts (S.whole.frames f).lasting (λ r. true) c zero = λ r lt j. la r lt (or_second (exposed (u r) b 0 r) (exposed true c 0 r) j) in
      (at.0, at_quiet f so u (record { begins = pc; ends = at.0; owes = true } ∷ ls) (false ∷ bs) b zero pc at.0 n.0 m.0 q.0 d.0 lb at.1, at_quiet f so (λ r. true) ls bs c zero at.0 e n.1 m.1 q.1 d.1 lc at.2, opened (S.whole.frames f).lasting c lc)
  at_quiet f so u ls bs (Loop b c) done pc e n m q sp la (p, inl h, rest) =
      let d = halves (Number f) (spares b zero) (spares c zero) sp in
      (p, inl (h.0, h.1, h.2, m.0), at_quiet f so (λ r. u r && not (r == h.0)) ls bs c zero p e n.1 m.1 q.1 d.1 (ask_lasts (S.whole.frames f).lasting u b c done la h.0 h.1) rest)
  at_quiet f so u ls bs (Loop b c) done pc e n m q sp la (p, inr (inl h), rest) =
      let d = halves (Number f) (spares b zero) (spares c zero) sp in
      (p, inr (inl (h.0, h.1, h.2, m.0, d.0)), at_quiet f so u ls bs c zero p e n.1 m.1 q.1 d.1 (copied_lasts (S.whole.frames f).lasting u b c done la h.0 h.1) rest)
  at_quiet f so u ls bs (Loop b c) done pc e n m q sp la (p, inr (inr (plain, r, passes, body, begins, turns, behind)), rest) =
      let d = halves (Number f) (spares b zero) (spares c zero) sp in
      let lb = body_last (S.whole.frames f).lasting u b c done la plain in
      let lc = rest_last (S.whole.frames f).lasting u b c done la plain in
      let lt = turns_last (S.whole.frames f).lasting u b c done la plain in (
        p,
        inr (inr (plain, r, passes, at_quiet f so (λ i. true) (record { begins = r; ends = p; owes = true } ∷ ls) (true ∷ bs) b zero r p n.0 m.0 q.0 d.0 lb body, opened (S.whole.frames f).lasting b lb, turned (S.whole.frames f).lasting b plain.0 lt, opened (S.whole.frames f).lasting c lc)),
        at_quiet f so (λ i. true) ls bs c zero p e n.1 m.1 q.1 d.1 lc rest,
      )
  at_quiet f so u ls bs (Leave k c) done pc e n m q sp la at = (at.0, (at.1.0, at_quiet f so (λ r. true) ls bs c zero at.1.0 e n.1 m q sp la at.1.1))
  at_quiet f so u ls bs (Again k c) done pc e n m q sp la at = (at.0, (at.1.0, at_quiet f so (λ r. true) ls bs c zero at.1.0 e n.1 m q sp la at.1.1))
  at_quiet f so u ls bs (Return w c) done pc e n m q sp la at =
      let d = halves (Number f) (are_others (maybe w)) (spares c zero) sp in (
        record { named = m.0.0; stays = all_stay S f (Number f) (maybe w) d.0 m.0.0; then = at.0.0; stands = at.0.1; out = at.0.2; passes = at.0.3; exit = at.0.4 },
        (at.1.0, at_quiet f so (λ r. true) ls bs c zero at.1.0 e n m.1 q d.1 (λ r lt i. la r lt (or_second (u r && is_among (maybe w) r) _ i)) at.1.1),
      )

  pub linked : ProgramAt S boot → Linked S card boot rest
  linked at = record {
    fits = P.fits;
    functions = λ g c. let b = at.functions g c in record { begins = b.begins; label = b.label; entry = b.entry; body = at_of g (P.sound g c) (P.calls g c) (λ r. false) [] [] _ zero (S.enters g) (S.leaves g) (P.nodes g c) (P.names g c) (P.spares g c) (P.lasts g c) b.body; ends = b.ends; exit = b.exit };
    has_card = P.laid.has_card;
    opening = at.opening;
    start = at_quiet boot P.start_sound (λ r. false) [] [] S.code.start.body zero (S.enters boot) (S.leaves boot) P.start_nodes P.start_names P.start_quiet P.start_spares P.start_lasts at.start;
    rest_as = P.rest_as;
    boot_as = P.laid.called_as;
    boot_depth = P.laid.depth;
    rest_depth = P.rest_depth;
    rest_registers = P.rest_registers;
    rest_size = P.rest_size;
    rest_slots = P.rest_slots;
    after = at.closing.0;
    calls_main = record {
      depth = P.rest_depth ∙ sym P.rest_size;
      callable = P.main;
      target = tt;
      args_named = tt;
      args_stay = tt;
      count = ap length (sym P.main_params);
      stands = subst (λ ps. Stand S.console.words S.address (S.leaves boot) (args_items (S.whole.frames rest) (S.whole.frames S.code.main) ps [] ++ item.Op (instr.Go CALL (src.Imm (Right (function_label S.whole.names S.code.main)))) ∷ []) at.closing.0) (sym P.main_params) (at.closing.0, at.closing.1, refl);
    };
    last = at.closing.2.0;
    halt = at.closing.2.1;
    opens = opens S boot card ok P.laid;
  }

-- the words of a program agree with its placed code, within its work
pub program_agrees : (A : Plan) (words : List ℕ) (boot rest : ℕ) → ((card : Option (List ℕ)) → IsCard card → Program (setting A words (is_some card)) boot rest card × ProgramAt (setting A words (is_some card)) boot) → AgreesWithin 1 A.whole.globals (placed_runs A.placed) words
program_agrees A words boot rest p = agrees A words boot rest (λ card ok. let q = p card ok in linked (setting A words (is_some card)) boot rest card ok q.0 q.1)
