-- An operator whose word is given back right behind it is followed.
use Rattle.std.proofs.Common.{◌≡◌, ℕ, ◌+◌, ◌<◌, inl, inr, Bool, true, false, cond, List, [], length, Option, Some, None, refl, sym, ap, ◌∙◌, subst, arith, append-nil}
use Rattle.std.specs.Prelude.{◌==◌, ◌&&◌, option_map, get_or}
use Rattle.std.proofs.lemmas.Bool.{eqb-true}
use Rattle.v32_isa.specs.declared.instruction.Two.{Two as TwoOf}
use Rattle.v32_isa.specs.State.{register_of}
use Rattle.v32_isa.specs.State as machine
use Rattle.v32_isa.specs.Arithmetic.{two_of}
use Rattle.v32_isa.specs.Runs as runs
use Rattle.v32_isa.proofs.Steps.{reaches_here, reaches_on, nested_none}
use Rattle.obj_mem.specs.declared.cell.Cell.{Cell}
use Rattle.obj_mem.specs.declared.cell.Cell.TheVariants.{Unwritten, Num, Ptr, Null}
use Rattle.obj_mem.specs.Queries.{word_or_fault}
use Rattle.obj_mem.specs.Runs.{Halted, Fault, Starved, Stray, Deep, OutOfBound}
use Rattle.mid_code.specs.declared.placed.Where.{Where}
use Rattle.mid_code.specs.declared.placed.Where.TheVariants.{Reg, Slot}
use Rattle.mid_code.specs.Placed.{is_same_place}
use Rattle.mid_code.specs.Code.{OpT, ConstO, TwoO, GlobalO, NodesT, Do, Return, uses}
use Rattle.mid_code.specs.Invariants.{AllOf}
use Rattle.mid_code.specs.Meaning.{Did, On, Ends, Res, Returns, did, below, node_weight, does as meant}
use Rattle.mid_code.specs.States.{State, spent, op_weight, registers_and_slots, put, to, two_words, acted}
use Rattle.asm_laws.specs.declared.made.Made.TheVariants.{Both, Known}
use Rattle.asm_laws.specs.Pieces.{register, is_in, turned}
use Rattle.asm_laws.specs.Spare.{operand, Stays}
use Rattle.asm_laws.specs.Operations.{Frame, word_put, is_spared, made_items}
use Rattle.asm_laws.specs.Placing.{Bounds, Passes}
use Rattle.asm_laws.specs.Standing.{Stand}
use Rattle.asm_laws.specs.inner.Following.{begin, Sim}
use Rattle.asm_laws.specs.Addresses.{Addr, Console, word_of, having, Room, Goes, does}
use Rattle.asm_laws.specs.Holds.{Setting, sizes, Named, Fits, Ctx, Stands}
use Rattle.asm_laws.specs.Acting.{Holds, DoesAs, Fitting, FrontFits}
use Rattle.asm_laws.specs.Calling.{Mach, ExitAt, MadeAt, lang, holder}
use Rattle.asm_laws.proofs.Stepping.{written_same, written_other}
use Rattle.asm_laws.proofs.Hands.{with_reg}
use Rattle.asm_laws.proofs.OperationsStep.{TurnsTo, turns, InNine, MakesNine, both_at}
use Rattle.asm_laws.proofs.UsedStep.{known_at}
use Rattle.asm_laws.proofs.Alongside.{word_alike}
use Rattle.asm_laws.proofs.Spared.{other_stays, uses_stay, spared_is}
use Rattle.asm_laws.proofs.First.{good, room, word_stands}
use Rattle.asm_laws.proofs.Ops.{acts}
use Rattle.asm_laws.proofs.Control.{earlier}
use Rattle.asm_laws.proofs.Parts.{gone, stopped}
use Rattle.asm_laws.proofs.Results.{made_is}

abbrev first_of : Option (ℕ × ℕ) → ℕ
first_of None = 0
first_of (Some (r, w)) = r

abbrev word_of_it : Option (ℕ × ℕ) → ℕ
word_of_it None = 0
word_of_it (Some (r, w)) = w

-- the operator and the place
abbrev Operand : Option (TwoOf × Where) → TwoOf → Where → Type 0
Operand x j z = x ≡ Some (j, z)

abbrev operator_of : TwoOf → Option (TwoOf × Where) → TwoOf
operator_of o None = o
operator_of o (Some (j, z)) = j

abbrev place_of : Where → Option (TwoOf × Where) → Where
place_of p None = p
place_of p (Some (j, z)) = z

second_on : (p q : Bool) → p && q ≡ true → q ≡ true
second_on true q e = e
second_on false q e = absurd cc

module _ (S : Setting) (fits : Fits S) where
  abbrev C : Console
  C = S.console

  abbrev Of : Ctx → Frame
  Of κ = S.whole.frames κ.fn

  abbrev Number : Ctx → ℕ
  Number κ = (S.whole.frames κ.fn).registers

  -- the result of a state
  abbrev gives : Where → State Where → Res (State Where)
  gives p t = Returns ((lang S).give (Some p) (spent node_weight t))

  roomy : (κ : Ctx) (s : State Where) (m : machine.State) (h : Mach S κ s m) → Room (Of κ) (having h.registers h.words)
  roomy κ s m h = let r = room S fits κ s.world.store s.cells h.place h.words h.at in record { top = r.top; low = r.low; high = r.high }

  module _ (κ : Ctx) (s : State Where) (m : machine.State) (h : Mach S κ s m) (u : TwoOf) (t p : Where) (same : is_same_place p t ≡ true) (q out : ℕ) (passes : Passes S.console.words q out) (exit : ExitAt S κ.fn out)
      (e n : ℕ) (ls : List Bounds) where
    abbrev b : Addr
    b = having h.registers h.words

    abbrev xs : List ℕ
    xs = s.world.store.answers

    abbrev Follows : Res (State Where) → Type 0
    Follows r = Sim (holder S) κ (Mach S κ) m (begin (holder S) s) e n ls r

    word_given : (v : ℕ) → InNine C 3 m xs q b v → Follows (gives p (record (spent node_weight s) { cells = put registers_and_slots s.cells t (Num v) }))
    word_given v i =
        let on = gone C b i.to xs q out i.held i.at passes in
        let nine : register_of on.there 9 ≡ v = on.nine ∙ i.nine in
        let cell : put registers_and_slots s.cells t (Num v) p ≡ Num v = ap (λ x. cond x (Num v) (s.cells p)) same in (
          out,
          exit,
          record {
            steps = i.steps + on.steps;
            made = [];
            to = on.there;
            by = reaches_on i.steps on.steps m i.to on.there xs xs xs [] [] i.by on.by;
            at = on.at;
            held = record {
              place = h.place;
              cells = s.cells;
              words = h.words;
              at = h.at;
              registers = h.registers;
              like = h.like;
              held = on.held;
              given = subst (λ c. Stands (length s.world.store.objects) h.place c (register_of on.there 9)) (sym cell) nine;
            };
            events = sym (append-nil s.world.events);
            cost = let f = i.few in let g = on.few in omega (arith, f, g);
            many = omega arith;
          },
        )

    -- a division by 0
    two_given : (z : Option ℕ) → MakesNine C 3 m xs q b z → Follows (did (to registers_and_slots t (word_or_fault z) (spent node_weight s)) (gives p))
    two_given (Some v) i = word_given v i
    two_given None f =
        stopped S fits κ s (spent node_weight s) m h.words h.registers node_weight (Fault 6) (runs.Fault 6) (runs.Fault 6) h.like refl (record { place = h.place; at = h.at }) refl refl
        (record { steps = f.steps; to = f.to; by = f.by; nested = f.nested; shown = f.shown; held = f.held; memory = f.memory; few = let l = f.few in omega (arith, l) })

    strays : Follows (did (to registers_and_slots t (two_words u Unwritten Unwritten) (spent node_weight s)) (gives p))
    strays = record { steps = 0; made = []; to = m; left = s.world.store.answers; by = (reaches_here m s.world.store.answers).runs; nested = λ ns. nested_none ns m s.world.store.answers; events = sym (append-nil s.world.events); cost = omega arith; many = omega arith }

    -- of cells that are these words, where they are words
    cells_given : (c d : Cell) (x y : ℕ) → Stands (length s.world.store.objects) h.place c x → Stands (length s.world.store.objects) h.place d y → MakesNine C 3 m xs q b (two_of u x y) →
        Follows (did (to registers_and_slots t (two_words u c d) (spent node_weight s)) (gives p))
    cells_given Unwritten d x y rx ry f = strays
    cells_given (Ptr o i) d x y rx ry f = strays
    cells_given Null d x y rx ry f = strays
    cells_given (Num v) Unwritten x y rx ry f = strays
    cells_given (Num v) (Ptr o i) x y rx ry f = strays
    cells_given (Num v) Null x y rx ry f = strays
    cells_given (Num v) (Num w) x y rx ry f =
        let z : two_of u x y ≡ two_of u v w = λ i. two_of u (rx i) (ry i) in
        two_given (two_of u v w) (subst (λ o. MakesNine C 3 m xs q b o) z f)

    operator_given : (x y : Where) → Named S κ.fn x → Named S κ.fn y → MakesNine C 3 m xs q b (two_of u (word_of (Of κ) x h.words) (word_of (Of κ) y h.words)) → Follows (did ((lang S).act (TwoO u t x y) s) (gives p))
    operator_given x y nx ny f =
        cells_given (s.cells x) (s.cells y) (word_of (Of κ) x h.words) (word_of (Of κ) y h.words) (word_stands S fits κ s.world.store s.cells h.place h.words x nx h.at)
        (word_stands S fits κ s.world.store s.cells h.place h.words y ny h.at) f

  -- ---- of the words of two places

  both_given : (κ : Ctx) (pc q out : ℕ) (u : TwoOf) (t x y p : Where) (s : State Where) (m : machine.State) → m.counter ≡ pc → Mach S κ s m → Fitting S κ.fn (TwoO u t x y) → AllOf (Stays (Number κ)) (uses (TwoO u t x y)) → is_same_place p t ≡ true →
      Stand C.words S.address pc (made_items (Of κ) (Both u x y)) q → Passes C.words q out → ExitAt S κ.fn out → (e n : ℕ) (ls : List Bounds) → Sim (holder S) κ (Mach S κ) m (begin (holder S) s) e n ls (did ((lang S).act (TwoO u t x y) s) (gives p))
  both_given κ pc q out u t x y p s m ec h fit stays same st passes exit e n ls =
      let F = Of κ in
      let b = having h.registers h.words in
      let xs = s.world.store.answers in
      let f = both_at C S.address S.whole F b (roomy κ s m h) m xs pc q u x y (good S fits κ x fit.1) (good S fits κ y fit.2) h.held ec st in
      let ex = word_alike C S.address S.whole F (Number κ) h.words h.registers h.like x stays.0 in
      let ey = word_alike C S.address S.whole F (Number κ) h.words h.registers h.like y stays.1.0 in
      operator_given κ s m h u t p same q out passes exit e n ls x y fit.1 fit.2 (subst (λ z. MakesNine C 3 m xs q b z) (λ i. two_of u (ex i) (ey i)) f)

  -- ---- of the word of a place and a known one in register 8

  -- an operation whose words come first, where the machine has not gone on yet
  first_does : (κ : Ctx) (s : State Where) (m : machine.State) (a c : Addr) (w e n : ℕ) (ls : List Bounds) (d : Did (State Where)) (go : State Where → Res (State Where)) → DoesAs S κ (spent w s) a d (Goes [] s.world.store.answers c) →
      ((v : State Where) → Holds S κ v c → Sim (holder S) κ (Mach S κ) m (begin (holder S) v) e n ls (go v)) → Sim (holder S) κ (Mach S κ) m (begin (holder S) s) e n ls (did d go)
  first_does κ s m a c w e n ls (On v) go g f = earlier (lang S) (holder S) κ (Mach S κ) m (begin (holder S) s) (begin (holder S) v) e n ls (go v) (sym g.answers) (g.events ∙ append-nil s.world.events) (let k = g.work in omega (arith, k)) (f v g.holds)
  first_does κ s m a c w e n ls (Ends Stray v) go g f = record { steps = 0; made = []; to = m; left = s.world.store.answers; by = (reaches_here m s.world.store.answers).runs; nested = λ ns. nested_none ns m s.world.store.answers; events = g.0 ∙ sym (append-nil s.world.events); cost = omega (arith, g.1); many = omega arith }
  first_does κ s m a c w e n ls (Ends Halted v) go g f = absurd g
  first_does κ s m a c w e n ls (Ends (Fault k) v) go g f = absurd g
  first_does κ s m a c w e n ls (Ends Starved v) go g f = absurd g
  first_does κ s m a c w e n ls (Ends Deep v) go g f = absurd g
  first_does κ s m a c w e n ls (Ends OutOfBound v) go g f = absurd g

  abbrev Puts : Ctx → OpT Where → ℕ → Addr → Type 0
  Puts κ o w a = (ys : List ℕ) → does C S.address S.whole (Of κ) o ys a ≡ Goes [] ys (with_reg 8 w a)

  puts_there : (κ : Ctx) (o : OpT Where) (r w : ℕ) (a : Addr) → word_put S.whole o ≡ Some (r, w) → r ≡ 8 → Fitting S κ.fn o → Puts κ o w a
  unfolding does
  puts_there κ (ConstO (Reg k) v) r w a is eight fit ys =
      let q : register k ≡ r = ap first_of is in
      let same : v ≡ w = ap word_of_it is in
      let there : k ≡ 8 = omega (arith, fit, q, eight) in
      λ i. Goes [] ys (with_reg (there i) (same i) a)
  puts_there κ (GlobalO (Reg k) j) r w a is eight fit ys =
      let q : register k ≡ r = ap first_of is in
      let same : get_or S.whole.globals j 0 ≡ w = ap word_of_it is in
      let low = fit.0 in
      let there : k ≡ 8 = omega (arith, low, q, eight) in
      λ i. Goes [] ys (with_reg (there i) (same i) a)
  puts_there κ _ r w a is eight fit ys = absurd cc

  module _ (κ : Ctx) (s : State Where) (m : machine.State) (h : Mach S κ s m) (eight : (Of κ).registers ≡ 8) (w : ℕ) where
    abbrev a : Addr
    a = h.words

    abbrev real : Addr
    real = having h.registers h.words

    spared_like : (r : ℕ) → r < Number κ → h.registers r ≡ (with_reg 8 w a).regs r
    spared_like r lt = h.like r lt ∙ sym (written_other a.regs 8 w r (λ z. omega (arith, lt, eight, z)))

    -- a place that is register 8, and another one
    there : (x : Where) → Named S κ.fn x → is_in x 8 ≡ true → word_of (Of κ) x (with_reg 8 w a) ≡ w
    there (Reg r) named is = let z = eqb-true (register r) 8 is in written_same a.regs 8 w r (omega (arith, named, z))
    there (Slot k) named is = absurd cc

    elsewhere : (x : Where) → Named S κ.fn x → is_in x 8 ≡ false → word_of (Of κ) x (with_reg 8 w a) ≡ word_of (Of κ) x real
    elsewhere x named is = sym (word_alike C S.address S.whole (Of κ) (Number κ) (with_reg 8 w a) h.registers spared_like x (other_stays S κ.fn (Number κ) x eight named is))

    -- the operator that works on the other one makes the same
    abbrev Works : TwoOf → Where → Where → TwoOf → Where → Type 0
    Works u x y j z = Named S κ.fn z × (two_of j (word_of (Of κ) z real) w ≡ two_of u (word_of (Of κ) x (with_reg 8 w a)) (word_of (Of κ) y (with_reg 8 w a)))

    works : (u : TwoOf) (x y : Where) (j : TwoOf) (z : Where) → Named S κ.fn x → Named S κ.fn y → operand u x y ≡ Some (j, z) → Works u x y j z
    works u x y j z nx ny e = go (is_in x 8) refl (is_in y 8) refl (turned u) (turns u) e
      where
        go : (f : Bool) → is_in x 8 ≡ f → (g : Bool) → is_in y 8 ≡ g → (k : Option TwoOf) → TurnsTo u k → Operand (cond f (cond g None (option_map (λ v. (v, y)) k)) (cond g (Some (u, x)) None)) j z → Works u x y j z
        go true ex true ey k same e = absurd cc
        go false ex false ey k same e = absurd cc
        go false ex true ey k same e =
            let ej : j ≡ u = sym (ap (operator_of u) e) in
            let ez : z ≡ x = sym (ap (place_of x) e) in
            (subst (Named S κ.fn) (sym ez) nx, (λ i. two_of (ej i) (word_of (Of κ) (ez i) real) w) ∙ (λ i. two_of u (sym (elsewhere x nx ex) i) (sym (there y ny ey) i)))
        go true ex false ey None same e = absurd cc
        go true ex false ey (Some v) same e =
            let ej : j ≡ v = sym (ap (operator_of v) e) in
            let ez : z ≡ y = sym (ap (place_of y) e) in
            (subst (Named S κ.fn) (sym ez) ny, (λ i. two_of (ej i) (word_of (Of κ) (ez i) real) w) ∙ same w (word_of (Of κ) y real) ∙ (λ i. two_of u (sym (there x nx ex) i) (sym (elsewhere y ny ey) i)))

    -- once the word is put
    abbrev held_so : (v : State Where) → Holds S κ v (with_reg 8 w a) → Mach S κ v m
    held_so v g = record { place = g.place; words = with_reg 8 w a; at = g.at; registers = h.registers; like = spared_like; held = h.held }

  known_given : (κ : Ctx) (pc q out : ℕ) (o : OpT Where) (r w : ℕ) (u : TwoOf) (t x y p : Where) (j : TwoOf) (z : Where) (s : State Where) (m : machine.State) → m.counter ≡ pc → Mach S κ s m → Fitting S κ.fn o → Fitting S κ.fn (TwoO u t x y) →
      (Of κ).registers ≡ 8 → word_put S.whole o ≡ Some (r, w) → r ≡ 8 → operand u x y ≡ Some (j, z) → is_same_place p t ≡ true → Stand C.words S.address pc (made_items (Of κ) (Known j z w)) q → Passes C.words q out → ExitAt S κ.fn out →
      (e n : ℕ) (ls : List Bounds) → Sim (holder S) κ (Mach S κ) m (begin (holder S) s) e n ls (did ((lang S).act o s) (λ v. did ((lang S).act (TwoO u t x y) v) (gives p)))
  known_given κ pc q out o r w u t x y p j z s m ec h fit fits2 eight put there works_is same st passes exit e n ls =
      let F = Of κ in
      let s1 = spent (op_weight o) s in
      let puts = puts_there κ o r w h.words put there fit in
      let k = works κ s m h eight w u x y j z fits2.1 fits2.2 works_is in
      first_does κ s m h.words (with_reg 8 w h.words) (op_weight o) e n ls (acted registers_and_slots (sizes S) o s1) (λ v. did ((lang S).act (TwoO u t x y) v) (gives p))
      (subst (λ d. DoesAs S κ s1 h.words (acted registers_and_slots (sizes S) o s1) d) (puts s.world.store.answers) (acts S fits κ s1 h.place h.words h.at o fit))
      (λ v g. operator_given κ v m (held_so κ s m h eight w v g) u t p same q out passes exit e n ls x y fits2.1 fits2.2
      (subst (λ d. MakesNine C 3 m v.world.store.answers q (having h.registers h.words) d) k.1
      (known_at C S.address F (having h.registers h.words) (roomy κ s m h) j z w m v.world.store.answers pc q (good S fits κ z k.0) h.held ec st)))

  -- ---- both

  pub made_sim : (κ : Ctx) (pc : ℕ) (o : OpT Where) (c : NodesT Where) (s : State Where) (m : machine.State) → MadeAt S κ.fn pc o c → m.counter ≡ pc → Mach S κ s m → (e n : ℕ) (ls : List Bounds) →
      Sim (holder S) κ (Mach S κ) m (begin (holder S) s) e n ls (did ((lang S).act o s) (meant (lang S) n (below (lang S) n) c))
  made_sim κ pc o c s m at ec h e n ls = elim (made_is S.whole (Of κ) o c at.more at.made at.is) [
    | inl x ↦
        let op = TwoO x.operator x.target x.first x.second in
        let fit : Fitting S κ.fn op = subst (Fitting S κ.fn) x.op at.fits in
        let stays = subst (λ z. AllOf (Stays (Number κ)) (uses z)) x.op (uses_stay S κ.fn (Number κ) o c at.spares at.fits) in
        let st = subst (λ y. Stand C.words S.address pc (made_items (Of κ) y) at.then) x.is at.stands in
        let r = both_given κ pc at.then at.out x.operator x.target x.first x.second x.place s m ec h fit stays x.same st at.passes at.exit e n ls in
        subst (λ z. Sim (holder S) κ (Mach S κ) m (begin (holder S) s) e n ls (did ((lang S).act z s) (meant (lang S) n (below (lang S) n) c))) (sym x.op)
        (subst (λ d. Sim (holder S) κ (Mach S κ) m (begin (holder S) s) e n ls (did ((lang S).act op s) (meant (lang S) n (below (lang S) n) d))) (sym x.nodes) r)
    | inr x ↦
        let op = TwoO x.operator x.target x.first x.second in
        let nodes = Do op (Return (Some x.place) x.behind) in
        let front : FrontFits S κ.fn nodes 2 = subst (λ k. FrontFits S κ.fn nodes k) x.count (subst (λ d. FrontFits S κ.fn d at.more) x.nodes at.front) in
        let spared = spared_is S κ.fn S.whole (Of κ) o c at.spares (ap (is_spared (Of κ)) x.put ∙ x.spared) in
        let there = eqb-true x.register 8 (second_on ((Of κ).registers == 8) (x.register == 8) x.spared) in
        let st = subst (λ y. Stand C.words S.address pc (made_items (Of κ) y) at.then) x.is at.stands in
        let r = known_given κ pc at.then at.out o x.register x.word x.operator x.target x.first x.second x.place x.with x.other s m ec h at.fits front.0 spared.0 x.put there x.works x.same st at.passes at.exit e n ls in
        subst (λ d. Sim (holder S) κ (Mach S κ) m (begin (holder S) s) e n ls (did ((lang S).act o s) (meant (lang S) n (below (lang S) n) d))) (sym x.nodes) r
  ]
