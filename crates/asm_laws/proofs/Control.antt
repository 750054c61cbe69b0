-- Structured code that stands among the words is followed by the machine, whatever the states are.
use Rattle.std.proofs.Common.{◌≡◌, ℕ, zero, suc, ◌+◌, ◌≤◌, inl, inr, Bool, true, false, List, [], ◌∷◌, ◌++◌, Option, Some, None, refl, sym, ap, ◌∙◌, subst, arith, append_assoc, append-nil}
use Rattle.v32_isa.specs.State.{State, going_to}
use Rattle.v32_isa.specs.Runs.{Run, run}
use Rattle.v32_isa.specs.Runs as machine
use Rattle.v32_isa.specs.Calls.{Link, Nested}
use Rattle.v32_isa.proofs.Steps.{before, Reaches, reaches_here, reaches_in, moves_on, reaches_on, nested_none}
use Rattle.obj_mem.specs.Runs.{Ending, Halted, Fault, Starved, Stray, Deep, OutOfBound}
use Rattle.mid_code.specs.declared.placed.Where.{Where}
use Rattle.mid_code.specs.Code.{NodesT, Stop, Do, Call, Choose, Block, Loop, Leave, Again, Return}
use Rattle.mid_code.specs.Meaning.{Did, On, Ends, Res, Next, Leaves, Repeats, Returns, Over, Lang, node_weight, call_weight, then_next, did, block_done, turn_done, choose, call_done, called, does, below, runs}
use Rattle.asm_laws.specs.Placing.{Shapes, Bounds, end_of, begin_of, owed, due, paid, Jumps, Passes, Begins, Past, At}
use Rattle.asm_laws.specs.inner.Following.{Holder, Begin, begin, spare, CameBy, Came, Stopped, Going, Final, Sim, DidBy, Enters, CallSim, TestSim, did_then, front_acts, at_front, Parts}

pub end_paid : (ls : List Bounds) (k : ℕ) → end_of (paid ls) k ≡ end_of ls k
end_paid [] k = refl
end_paid (l ∷ ls) zero = refl
end_paid (l ∷ ls) (suc k) = end_paid ls k

pub begin_paid : (ls : List Bounds) (k : ℕ) → begin_of (paid ls) k ≡ begin_of ls k
begin_paid [] k = refl
begin_paid (l ∷ ls) zero = refl
begin_paid (l ∷ ls) (suc k) = begin_paid ls k

one_due : (owes : Bool) (x : ℕ) → due owes ≤ 1 + x
one_due true x = omega arith
one_due false x = omega arith

none_due : (owes : Bool) → owes ≡ false → due owes ≤ 0
none_due true e = absurd cc
none_due false e = omega arith

module _ (L : Lang Where) (X : Holder L) where
  came_by : (is js ks : List Link) (m : State) (b : Begin) (t u : L.S) (pc q i j k x : ℕ) (R Q : State → Type 0) → (f : CameBy is js X m b t pc i 0 R) → (g : CameBy js ks X f.to (begin X t) u q j x Q) → k ≤ i + j → CameBy is ks X m b u q k x Q
  came_by is js ks m b t u pc q i j k x R Q f g le = record {
    steps = f.steps + g.steps;
    made = f.made ++ g.made;
    to = g.to;
    by = moves_on is js ks f.steps g.steps m f.to g.to b.answers (X.answers t) (X.answers u) f.made g.made f.by g.by;
    at = g.at;
    held = g.held;
    events = g.events ∙ ap (λ es. es ++ g.made) f.events ∙ append_assoc b.events f.made g.made;
    cost = omega (arith, f.cost, g.cost);
    many = omega (arith, f.many, g.many, le);
  }

  pub came_came : (m : State) (b : Begin) (t u : L.S) (pc q i j k x : ℕ) (R Q : State → Type 0) → (f : Came X m b t pc i 0 R) → (g : Came X f.to (begin X t) u q j x Q) → k ≤ i + j → Came X m b u q k x Q
  came_came m b t u pc q i j k x R Q f g le = came_by [] [] [] m b t u pc q i j k x R Q f g le

  -- what is done inside a call
  came_in : (l : Link) (m : State) (b : Begin) (t : L.S) (pc i x : ℕ) (R : State → Type 0) → Came X m b t pc i x R → CameBy (l ∷ []) (l ∷ []) X m b t pc i x R
  came_in l m b t pc i x R f = record { steps = f.steps; made = f.made; to = f.to; by = reaches_in l f.steps m f.to b.answers (X.answers t) f.made f.by; at = f.at; held = f.held; events = f.events; cost = f.cost; many = f.many }

  came_stopped : (js : List Link) (m : State) (b : Begin) (t u : L.S) (pc i : ℕ) (R : State → Type 0) (how : machine.End) → (f : CameBy [] js X m b t pc i 0 R) → Stopped X f.to (begin X t) u how → Stopped X m b u how
  came_stopped js m b t u pc i R how f g = record {
    steps = f.steps + g.steps;
    made = f.made ++ g.made;
    to = g.to;
    by = λ k. (let e : f.steps + g.steps + k ≡ f.steps + (g.steps + k) = omega arith in ap (λ j. run j m b.answers) e) ∙ f.by.runs (g.steps + k) ∙ ap (before f.made) (g.by k);
    nested = λ ls. f.by.nests ls g.steps (g.nested (js ++ ls));
    held = g.held;
    events = g.events ∙ ap (λ es. es ++ g.made) f.events ∙ append_assoc b.events f.made g.made;
    cost = omega (arith, f.cost, g.cost);
  }

  came_going : (js : List Link) (m : State) (b : Begin) (t u : L.S) (pc i j k : ℕ) (R : State → Type 0) → (f : CameBy [] js X m b t pc i 0 R) → Going X f.to (begin X t) u j → k ≤ i + j → Going X m b u k
  came_going js m b t u pc i j k R f g le = record {
    steps = f.steps + g.steps;
    made = f.made ++ g.made;
    to = g.to;
    left = g.left;
    by = λ n. (let e : f.steps + g.steps + n ≡ f.steps + (g.steps + n) = omega arith in ap (λ j. run j m b.answers) e) ∙ f.by.runs (g.steps + n) ∙ ap (before f.made) (g.by n) ∙ ap (λ events. record (run n g.to g.left) { events = events }) (sym (append_assoc f.made g.made (run n g.to g.left).events));
    nested = λ ls. f.by.nests ls g.steps (g.nested (js ++ ls));
    events = g.events ∙ ap (λ es. es ++ g.made) f.events ∙ append_assoc b.events f.made g.made;
    cost = omega (arith, f.cost, g.cost);
    many = omega (arith, f.many, g.many, le);
  }

  pub came_final : (js : List Link) (m : State) (b : Begin) (t u : L.S) (pc i n k : ℕ) (R : State → Type 0) (g : Ending) → n ≤ i + k → (f : CameBy [] js X m b t pc i 0 R) → Final X k f.to (begin X t) g u → Final X n m b g u
  came_final js m b t u pc i n k R Halted le f a = came_stopped js m b t u pc i R machine.Halted f a
  came_final js m b t u pc i n k R (Fault x) le f a = came_stopped js m b t u pc i R (machine.Fault x) f a
  came_final js m b t u pc i n k R Starved le f a = came_stopped js m b t u pc i R machine.Starved f a
  came_final js m b t u pc i n k R Stray le f a = came_going js m b t u pc i 0 0 R f a (omega arith)
  came_final js m b t u pc i n k R Deep le f a = came_going js m b t u pc i 0 0 R f a (omega arith)
  came_final js m b t u pc i n k R OutOfBound le f a = came_going js m b t u pc i k n R f a le

  pub still : (js : List Link) (m : State) (b : Begin) (t : L.S) (pc i : ℕ) (R : State → Type 0) → CameBy [] js X m b t pc i 0 R → Going X m b t 0
  still js m b t pc i R f = record {
    steps = f.steps;
    made = f.made;
    to = f.to;
    left = X.answers t;
    by = f.by.runs;
    nested = λ ls. subst (λ n. Nested n ls m b.answers) (let e : f.steps + 0 ≡ f.steps = omega arith in e) (f.by.nests ls 0 (nested_none (js ++ ls) f.to (X.answers t)));
    events = f.events;
    cost = omega (arith, f.cost);
    many = omega arith;
  }

  -- what follows, where i steps pay for the difference of the bounds
  pub after : (κ : X.K) (Q : L.S → State → Type 0) (m : State) (b : Begin) (t : L.S) (pc i n k e : ℕ) (ls : List Bounds) (R : State → Type 0) (r : Res L.S) → n ≤ i + k → (f : Came X m b t pc i 0 R) → Sim X κ Q f.to (begin X t) e k ls r → Sim X κ Q m b e n ls r
  after κ Q m b t pc i n k e ls R (Next u) le f g = came_came m b t u pc e i 0 0 0 R (Q u) f g (omega arith)
  after κ Q m b t pc i n k e ls R (Leaves j u) le f g = came_came m b t u pc (end_of ls j) i 0 0 0 R (X.M κ Stop u) f g (omega arith)
  after κ Q m b t pc i n k e ls R (Repeats j u) le f g = came_came m b t u pc (begin_of ls j) i (due (owed ls j)) (due (owed ls j)) 0 R (X.M κ Stop u) f g (omega arith)
  after κ Q m b t pc i n k e ls R (Returns u) le f (q, x, g) = (q, x, came_came m b t u pc q i 0 0 0 R (X.G κ u) f g (omega arith))
  after κ Q m b t pc i n k e ls R (Over h u) le f g = came_final [] m b t u pc i n k R h le f g

  -- the same from an earlier beginning
  earlier_came : (m : State) (b d : Begin) (t : L.S) (pc i x : ℕ) (R : State → Type 0) → d.answers ≡ b.answers → d.events ≡ b.events → b.work ≤ d.work → Came X m d t pc i x R → Came X m b t pc i x R
  earlier_came m b d t pc i x R ea ee le f = record { steps = f.steps; made = f.made; to = f.to; by = subst (λ xs. Reaches f.steps m xs f.made f.to (X.answers t)) ea f.by; at = f.at; held = f.held; events = f.events ∙ ap (λ es. es ++ f.made) ee; cost = omega (arith, f.cost, le); many = f.many }

  earlier_stopped : (m : State) (b d : Begin) (t : L.S) (how : machine.End) → d.answers ≡ b.answers → d.events ≡ b.events → b.work ≤ d.work → Stopped X m d t how → Stopped X m b t how
  earlier_stopped m b d t how ea ee le f = record { steps = f.steps; made = f.made; to = f.to; by = subst (λ xs. (n : ℕ) → run (f.steps + n) m xs ≡ record { events = f.made; end = how; state = f.to }) ea f.by; nested = λ ls. subst (λ xs. Nested f.steps ls m xs) ea (f.nested ls); held = f.held; events = f.events ∙ ap (λ es. es ++ f.made) ee; cost = omega (arith, f.cost, le) }

  earlier_going : (m : State) (b d : Begin) (t : L.S) (n : ℕ) → d.answers ≡ b.answers → d.events ≡ b.events → b.work ≤ d.work → Going X m d t n → Going X m b t n
  earlier_going m b d t n ea ee le f = record { steps = f.steps; made = f.made; to = f.to; left = f.left; by = subst (λ xs. (n : ℕ) → run (f.steps + n) m xs ≡ before f.made (run n f.to f.left)) ea f.by; nested = λ ls. subst (λ xs. Nested f.steps ls m xs) ea (f.nested ls); events = f.events ∙ ap (λ es. es ++ f.made) ee; cost = omega (arith, f.cost, le); many = f.many }

  earlier_final : (m : State) (b d : Begin) (t : L.S) (n : ℕ) (g : Ending) → d.answers ≡ b.answers → d.events ≡ b.events → b.work ≤ d.work → Final X n m d g t → Final X n m b g t
  earlier_final m b d t n Halted ea ee le f = earlier_stopped m b d t machine.Halted ea ee le f
  earlier_final m b d t n (Fault k) ea ee le f = earlier_stopped m b d t (machine.Fault k) ea ee le f
  earlier_final m b d t n Starved ea ee le f = earlier_stopped m b d t machine.Starved ea ee le f
  earlier_final m b d t n Stray ea ee le f = earlier_going m b d t 0 ea ee le f
  earlier_final m b d t n Deep ea ee le f = earlier_going m b d t 0 ea ee le f
  earlier_final m b d t n OutOfBound ea ee le f = earlier_going m b d t n ea ee le f

  pub earlier_did : (m : State) (b d : Begin) (p : ℕ) (R : L.S → State → Type 0) (r : Did L.S) → d.answers ≡ b.answers → d.events ≡ b.events → b.work ≤ d.work → DidBy X m d p R r → DidBy X m b p R r
  earlier_did m b d p R (On t) ea ee le f = earlier_came m b d t p 0 0 (R t) ea ee le f
  earlier_did m b d p R (Ends g t) ea ee le f = λ n. earlier_final m b d t n g ea ee le (f n)

  pub earlier : (κ : X.K) (Q : L.S → State → Type 0) (m : State) (b d : Begin) (e n : ℕ) (ls : List Bounds) (r : Res L.S) → d.answers ≡ b.answers → d.events ≡ b.events → b.work ≤ d.work → Sim X κ Q m d e n ls r → Sim X κ Q m b e n ls r
  earlier κ Q m b d e n ls (Next t) ea ee le f = earlier_came m b d t e 0 0 (Q t) ea ee le f
  earlier κ Q m b d e n ls (Leaves k t) ea ee le f = earlier_came m b d t (end_of ls k) 0 0 (X.M κ Stop t) ea ee le f
  earlier κ Q m b d e n ls (Repeats k t) ea ee le f = earlier_came m b d t (begin_of ls k) (due (owed ls k)) 0 (X.M κ Stop t) ea ee le f
  earlier κ Q m b d e n ls (Returns t) ea ee le (q, x, f) = (q, x, earlier_came m b d t q 0 0 (X.G κ t) ea ee le f)
  earlier κ Q m b d e n ls (Over g t) ea ee le f = earlier_final m b d t n g ea ee le f

  -- the same behind a step, which no turn owes any more
  stepped : (κ : X.K) (Q : L.S → State → Type 0) (m : State) (b : Begin) (t : L.S) (pc n e : ℕ) (ls : List Bounds) (R : State → Type 0) (r : Res L.S) → (f : Came X m b t pc 1 0 R) → Sim X κ Q f.to (begin X t) e n (paid ls) r → Sim X κ Q m b e n ls r
  stepped κ Q m b t pc n e ls R (Next u) f g = came_came m b t u pc e 1 0 0 0 R (Q u) f g (omega arith)
  stepped κ Q m b t pc n e ls R (Leaves j u) f g = subst (λ q. Came X m b u q 0 0 (X.M κ Stop u)) (end_paid ls j) (came_came m b t u pc (end_of (paid ls) j) 1 0 0 0 R (X.M κ Stop u) f g (omega arith))
  stepped κ Q m b t pc n e ls R (Repeats j u) f g =
      subst (λ q. Came X m b u q (due (owed ls j)) 0 (X.M κ Stop u)) (begin_paid ls j) (came_came m b t u pc (begin_of (paid ls) j) 1 (due (owed (paid ls) j)) (due (owed ls j)) 0 R (X.M κ Stop u) f g (one_due (owed ls j) (due (owed (paid ls) j))))
  stepped κ Q m b t pc n e ls R (Returns u) f (q, x, g) = (q, x, came_came m b t u pc q 1 0 0 0 R (X.G κ u) f g (omega arith))
  stepped κ Q m b t pc n e ls R (Over h u) f g = came_final [] m b t u pc 1 n n R h (omega arith) f g

  pub here : (R : State → Type 0) (m : State) (s : L.S) (pc : ℕ) → m.counter ≡ pc → R m → Came X m (begin X s) s pc 0 0 R
  here R m s pc e h = record { steps = 0; made = []; to = m; by = reaches_here m (X.answers s); at = e; held = h; events = sym (append-nil (X.events s)); cost = omega arith; many = omega arith }

  pub then_sim : (κ : X.K) (P Q : L.S → State → Type 0) (m : State) (b : Begin) (p e n : ℕ) (ls : List Bounds) (r : Res L.S) (go : L.S → Res L.S) → Sim X κ P m b p n ls r → ((t : L.S) (m1 : State) → m1.counter ≡ p → P t m1 → Sim X κ Q m1 (begin X t) e n ls (go t)) → Sim X κ Q m b e n ls (then_next r go)
  then_sim κ P Q m b p e n ls (Next t) go a f = after κ Q m b t p 0 n n e ls (P t) (go t) (omega arith) a (f t a.to a.at a.held)
  then_sim κ P Q m b p e n ls (Leaves k t) go a f = a
  then_sim κ P Q m b p e n ls (Repeats k t) go a f = a
  then_sim κ P Q m b p e n ls (Returns t) go a f = a
  then_sim κ P Q m b p e n ls (Over g t) go a f = a

  -- the rest of what is done already, and what comes behind it
  done_sim : (κ : X.K) (Q : L.S → State → Type 0) (m : State) (b : Begin) (p e n : ℕ) (ls : List Bounds) (R : L.S → State → Type 0) (d : Did L.S) (more : L.S → Did L.S) (go : L.S → Res L.S) → DidBy X m b p R (did_then d more) → ((t : L.S) → DidBy X m b p R (more t) → Sim X κ Q m b e n ls (go t)) → Sim X κ Q m b e n ls (did d go)
  done_sim κ Q m b p e n ls R (On t) more go a f = f t a
  done_sim κ Q m b p e n ls R (Ends g t) more go a f = a n

  -- what is done, and then more
  pub did_on : (m : State) (b : Begin) (p q : ℕ) (P R : L.S → State → Type 0) (d : Did L.S) (go : L.S → Did L.S) → DidBy X m b p P d → ((t : L.S) (m1 : State) → m1.counter ≡ p → P t m1 → DidBy X m1 (begin X t) q R (go t)) → DidBy X m b q R (did_then d go)
  did_on m b p q P R (On t) go a f = more (go t) (f t a.to a.at a.held)
    where
      more : (r : Did L.S) → DidBy X a.to (begin X t) q R r → DidBy X m b q R r
      more (On u) g = came_came m b t u p q 0 0 0 0 (P t) (R u) a g (omega arith)
      more (Ends h u) g = λ n. came_final [] m b t u p 0 n n (P t) h (omega arith) a (g n)
  did_on m b p q P R (Ends h t) go a f = a

  -- the machine holds more of the same states
  pub did_more : (m : State) (b : Begin) (p : ℕ) (P R : L.S → State → Type 0) (d : Did L.S) → ((t : L.S) (m1 : State) → P t m1 → R t m1) → DidBy X m b p P d → DidBy X m b p R d
  did_more m b p P R (On t) f a = record { steps = a.steps; made = a.made; to = a.to; by = a.by; at = a.at; held = f t a.to a.held; events = a.events; cost = a.cost; many = a.many }
  did_more m b p P R (Ends h t) f a = a

  block_sim : (κ : X.K) (m : State) (b : Begin) (e n pc : ℕ) (ls : List Bounds) (r : Res L.S) → Sim X κ (X.M κ Stop) m b e n (record { begins = pc; ends = e; owes = true } ∷ ls) r → Sim X κ (X.M κ Stop) m b e n ls (block_done r)
  block_sim κ m b e n pc ls (Next t) a = a
  block_sim κ m b e n pc ls (Leaves zero t) a = a
  block_sim κ m b e n pc ls (Leaves (suc k) t) a = a
  block_sim κ m b e n pc ls (Repeats zero t) a = still [] m b t pc 1 (X.M κ Stop t) a
  block_sim κ m b e n pc ls (Repeats (suc k) t) a = a
  block_sim κ m b e n pc ls (Returns t) a = a
  block_sim κ m b e n pc ls (Over g t) a = a

  turn_sim : (κ : X.K) (m : State) (b : Begin) (e n k pc : ℕ) (ls : List Bounds) (r : Res L.S) (again : L.S → Res L.S) → n ≤ suc k → Sim X κ (X.M κ Stop) m b e n (record { begins = pc; ends = e; owes = true } ∷ ls) r →
      ((t : L.S) (m1 : State) → m1.counter ≡ pc → X.M κ Stop t m1 → Sim X κ (X.M κ Stop) m1 (begin X t) e k ls (again t)) → Sim X κ (X.M κ Stop) m b e n ls (turn_done r again)
  turn_sim κ m b e n k pc ls (Next t) again le a f = a
  turn_sim κ m b e n k pc ls (Leaves zero t) again le a f = a
  turn_sim κ m b e n k pc ls (Leaves (suc j) t) again le a f = a
  turn_sim κ m b e n k pc ls (Repeats zero t) again le a f = after κ (X.M κ Stop) m b t pc 1 n k e ls (X.M κ Stop t) (again t) (omega (arith, le)) a (f t a.to a.at a.held)
  turn_sim κ m b e n k pc ls (Repeats (suc j) t) again le a f = a
  turn_sim κ m b e n k pc ls (Returns t) again le a f = a
  turn_sim κ m b e n k pc ls (Over g t) again le a f = a

  module _ (H : Shapes) (parts : Parts L X H) where
    -- the first part of a choice ends with a jump past the second
    jump_end : (κ : X.K) (m : State) (b : Begin) (p e n : ℕ) (ls : List Bounds) (r : Res L.S) → Jumps H.words p e → Sim X κ (X.M κ Stop) m (spare 1 b) p n ls r → Sim X κ (X.M κ Stop) m b e n ls r
    jump_end κ m b p e n ls (Next t) j a =
        let g = parts.jump κ Stop t a.to p e a.held a.at j in
        record {
          steps = a.steps + 1;
          made = a.made ++ [];
          to = going_to e a.to;
          by = reaches_on a.steps 1 m a.to (going_to e a.to) b.answers (X.answers t) (X.answers t) a.made [] a.by g.0;
          at = refl;
          held = g.1;
          events = a.events ∙ ap (λ es. b.events ++ es) (sym (append-nil a.made));
          cost = omega (arith, a.cost);
          many = omega arith;
        }
    jump_end κ m b p e n ls (Leaves k t) j a = earlier κ (X.M κ Stop) m b (spare 1 b) e n ls (Leaves k t) refl refl (omega arith) a
    jump_end κ m b p e n ls (Repeats k t) j a = earlier κ (X.M κ Stop) m b (spare 1 b) e n ls (Repeats k t) refl refl (omega arith) a
    jump_end κ m b p e n ls (Returns t) j a = earlier κ (X.M κ Stop) m b (spare 1 b) e n ls (Returns t) refl refl (omega arith) a
    jump_end κ m b p e n ls (Over g t) j a = earlier κ (X.M κ Stop) m b (spare 1 b) e n ls (Over g t) refl refl (omega arith) a

    -- or stands right before it
    pass_end : (κ : X.K) (m : State) (b : Begin) (p e n : ℕ) (ls : List Bounds) (r : Res L.S) → Passes H.words p e → Sim X κ (X.M κ Stop) m (spare 1 b) p n ls r → Sim X κ (X.M κ Stop) m b e n ls r
    pass_end κ m b p e n ls r (inl j) a = jump_end κ m b p e n ls r j a
    pass_end κ m b p e n ls r (inr q) a = earlier κ (X.M κ Stop) m b (spare 1 b) e n ls r refl refl (omega arith) (subst (λ z. Sim X κ (X.M κ Stop) m (spare 1 b) z n ls r) q a)

    -- a jump that is a node
    jump_node : (κ : X.K) (pc to : ℕ) (s : L.S) (m : State) → Jumps H.words pc to → m.counter ≡ pc → X.M κ Stop s m → Came X m (begin X s) (L.tick node_weight s) to 1 0 (X.M κ Stop (L.tick node_weight s))
    jump_node κ pc to s m j e h =
        let g = parts.jump κ Stop s m pc to h e j in
        record {
          steps = 1;
          made = [];
          to = going_to to m;
          by = subst (λ xs. Reaches 1 m (X.answers s) [] (going_to to m) xs) (sym (parts.tick_answers node_weight s)) g.0;
          at = refl;
          held = parts.ticks κ Stop node_weight s (going_to to m) g.1;
          events = parts.tick_events node_weight s ∙ sym (append-nil (X.events s));
          cost = omega (arith, parts.tick_work node_weight s);
          many = omega arith;
        }

    -- a jump that may be none
    pass_node : (κ : X.K) (pc to : ℕ) (s : L.S) (m : State) → Passes H.words pc to → m.counter ≡ pc → X.M κ Stop s m → Came X m (begin X s) (L.tick node_weight s) to 0 0 (X.M κ Stop (L.tick node_weight s))
    pass_node κ pc to s m (inl j) e h = let f = jump_node κ pc to s m j e h in record { steps = f.steps; made = f.made; to = f.to; by = f.by; at = f.at; held = f.held; events = f.events; cost = f.cost; many = omega arith }
    pass_node κ pc to s m (inr q) e h = record {
      steps = 0;
      made = [];
      to = m;
      by = subst (λ xs. Reaches 0 m (X.answers s) [] m xs) (sym (parts.tick_answers node_weight s)) (reaches_here m (X.answers s));
      at = e ∙ q;
      held = parts.ticks κ Stop node_weight s m h;
      events = parts.tick_events node_weight s ∙ sym (append-nil (X.events s));
      cost = omega (arith, parts.tick_work node_weight s);
      many = omega arith;
    }

    -- a jump to the next turn, or none where no step is owed
    begin_node : (κ : X.K) (pc to : ℕ) (owes : Bool) (s : L.S) (m : State) → Begins H.words owes pc to → m.counter ≡ pc → X.M κ Stop s m → Came X m (begin X s) (L.tick node_weight s) to (due owes) 0 (X.M κ Stop (L.tick node_weight s))
    begin_node κ pc to owes s m (inl j) e h = let f = jump_node κ pc to s m j e h in record { steps = f.steps; made = f.made; to = f.to; by = f.by; at = f.at; held = f.held; events = f.events; cost = f.cost; many = omega (arith, f.many, one_due owes 0) }
    begin_node κ pc to owes s m (inr q) e h = let f = pass_node κ pc to s m (inr q.1) e h in record { steps = f.steps; made = f.made; to = f.to; by = f.by; at = f.at; held = f.held; events = f.events; cost = f.cost; many = omega (arith, none_due owes q.0) }

    choose_sim : (κ : X.K) (R : State → Type 0) (m : State) (b : Begin) (px py pe pz n : ℕ) (ls : List Bounds) (s : L.S) (o : Option ℕ) (go other : L.S → Res L.S) → Going X m b s 0 → Passes H.words pe pz → TestSim X R py px m b s o →
        ((m1 : State) → m1.counter ≡ px → R m1 → Sim X κ (X.M κ Stop) m1 (begin X s) pe n (paid ls) (go s)) → ((m1 : State) → m1.counter ≡ py → R m1 → Sim X κ (X.M κ Stop) m1 (begin X s) pz n (paid ls) (other s)) → Sim X κ (X.M κ Stop) m b pz n ls (choose o s go other)
    choose_sim κ R m b px py pe pz n ls s None go other st j t gx gy = st
    choose_sim κ R m b px py pe pz n ls s (Some zero) go other st j t gx gy =
        earlier κ (X.M κ Stop) m b (spare 1 b) pz n ls (other s) refl refl (omega arith) (stepped κ (X.M κ Stop) m (spare 1 b) s py n pz ls R (other s) t (gy t.to t.at t.held))
    choose_sim κ R m b px py pe pz n ls s (Some (suc v)) go other st j t gx gy =
        pass_end κ m b pe pz n ls (go s) j (stepped κ (X.M κ Stop) m (spare 1 b) s px n pe ls R (go s) t (gx t.to t.at t.held))

    -- what is assumed of the meaning at one less
    abbrev pub Before : ℕ → (NodesT Where → L.S → Res L.S) → Type 0
    Before k prev = (κ : X.K) (pc e : ℕ) (ls : List Bounds) (c : NodesT Where) (s : L.S) (m : State) → At H (X.fn κ) ls pc c e → m.counter ≡ pc → X.M κ c s m → Sim X κ (X.M κ Stop) m (begin X s) e k ls (prev c s)

    going_here : (κ : X.K) (m : State) (s : L.S) (k : ℕ) → Going X m (begin X s) (L.tick k s) 0
    going_here κ m s k = record { steps = 0; made = []; to = m; left = X.answers s; by = (reaches_here m (X.answers s)).runs; nested = λ ls. nested_none ls m (X.answers s); events = parts.tick_events k s ∙ sym (append-nil (X.events s)); cost = omega (arith, parts.tick_work k s); many = omega arith }

    -- a body that has ended, and the way back
    call_end : (κ : X.K) (P : L.S → State → Type 0) (p n k : ℕ) (ls : List Bounds) (t : Option Where) (f : ℕ) (u s0 : L.S) (m : State) (b : Begin) (r : Res L.S) → (en : Enters X H P p t f u s0 m b) → n ≤ suc k →
        ((m1 : State) → m1.counter ≡ X.entry f → X.M en.inner (L.body f) s0 m1 → Sim X en.inner (X.M en.inner Stop) m1 (begin X s0) en.end k [] r) → Sim X κ P m b p n ls (call_done L.none (L.back t u) r)
    unfolding came_by came_in
    call_end κ P p n k ls t f u s0 m b r en le go = finish r (go en.goes.to en.goes.at en.goes.held)
      where
        -- from the call on
        from : (s1 : L.S) (q i : ℕ) (R : State → Type 0) → (a : Came X en.goes.to (begin X s0) s1 q i 0 R) → CameBy [] (en.link ∷ []) X m (spare 8 b) s1 q 0 0 R
        from s1 q i R a = came_by [] (en.link ∷ []) (en.link ∷ []) m (spare 8 b) s0 s1 (X.entry f) q 1 i 0 0 (X.M en.inner (L.body f) s0) R en.goes (came_in en.link en.goes.to (begin X s0) s1 q i 0 R a) (omega arith)

        home : (s1 : L.S) (q : ℕ) → X.exits (X.fn en.inner) q → (a : Came X en.goes.to (begin X s0) s1 q 0 0 (X.G en.inner s1)) → Came X m b (L.back t u s1) p 0 0 (P (L.back t u s1))
        home s1 q x a =
            let g = en.back s1 a.to a.held (subst (X.exits (X.fn en.inner)) (sym a.at) x) in
            let c = came_by [] (en.link ∷ []) [] m (spare 8 b) s1 (L.back t u s1) q p 0 0 0 8 (X.G en.inner s1) (P (L.back t u s1)) (from s1 q 0 (X.G en.inner s1) a) g (omega arith) in
            record { steps = c.steps; made = c.made; to = c.to; by = c.by; at = c.at; held = c.held; events = c.events; cost = omega (arith, c.cost); many = omega arith }

        unset : (s1 : L.S) → Came X en.goes.to (begin X s0) s1 en.end 0 0 (X.M en.inner Stop s1) → Came X en.goes.to (begin X s0) (L.none s1) en.end 0 0 (X.G en.inner (L.none s1))
        unset s1 a = record { steps = a.steps; made = a.made; to = a.to; by = subst (λ xs. Reaches a.steps en.goes.to (X.answers s0) a.made a.to xs) (sym (parts.none_answers s1)) a.by; at = a.at; held = parts.none en.inner s1 a.to a.held; events = parts.none_events s1 ∙ a.events; cost = omega (arith, a.cost, parts.none_work s1); many = omega arith }

        strays : (s1 : L.S) (q i : ℕ) → Came X en.goes.to (begin X s0) s1 q i 0 (X.M en.inner Stop s1) → Going X m b s1 0
        strays s1 q i a = earlier_going m b (spare 8 b) s1 0 refl refl (omega arith) (still (en.link ∷ []) m (spare 8 b) s1 q 0 (X.M en.inner Stop s1) (from s1 q i (X.M en.inner Stop s1) a))

        finish : (r : Res L.S) → Sim X en.inner (X.M en.inner Stop) en.goes.to (begin X s0) en.end k [] r → Sim X κ P m b p n ls (call_done L.none (L.back t u) r)
        finish (Next s1) a = home (L.none s1) en.end en.exit (unset s1 a)
        finish (Leaves j s1) a = strays s1 (end_of [] j) 0 a
        finish (Repeats j s1) a = strays s1 (begin_of [] j) 1 a
        finish (Returns s1) (q, x, a) = home s1 q x a
        finish (Over g s1) a = earlier_final m b (spare 8 b) s1 n g refl refl (omega arith) (came_final (en.link ∷ []) m (spare 8 b) s0 s1 (X.entry f) 1 n k (X.M en.inner (L.body f) s0) g (omega (arith, le)) en.goes a)

    pub entered_sim : (κ : X.K) (P : L.S → State → Type 0) (p n k : ℕ) (ls : List Bounds) (t : Option Where) (f : ℕ) (u : L.S) (m : State) (b : Begin) (d : Did L.S) (prev : NodesT Where → L.S → Res L.S) → n ≤ suc k → Before k prev → CallSim X H P p t f u m b d →
        Sim X κ P m b p n ls (did d (λ v. call_done L.none (L.back t u) (prev (L.body f) v)))
    entered_sim κ P p n k ls t f u m b (On s0) prev le bef en = call_end κ P p n k ls t f u s0 m b (prev (L.body f) s0) en le (λ m1 e1 h1. bef en.inner (X.entry f) en.end [] (L.body f) s0 m1 en.placed e1 h1)
    entered_sim κ P p n k ls t f u m b (Ends g s0) prev le bef a = a n

    called_sim : (κ : X.K) (P : L.S → State → Type 0) (p n k w : ℕ) (ls : List Bounds) (t : Option Where) (f : ℕ) (args : List Where) (s : L.S) (m : State) (prev : NodesT Where → L.S → Res L.S) → n ≤ suc k → Before k prev →
        CallSim X H P p t f (L.tick w s) m (begin X s) (L.enter f args (L.tick w s)) → Sim X κ P m (begin X s) p n ls (called L n prev t f args (L.tick w s))
    called_sim κ P p zero k w ls t f args s m prev le bef a = going_here κ m s w
    called_sim κ P p (suc n) k w ls t f args s m prev le bef a = entered_sim κ P p (suc n) k ls t f (L.tick w s) m (begin X s) (L.enter f args (L.tick w s)) prev le bef a

    -- the same from the state before it was counted
    ticked : (κ : X.K) (Q : L.S → State → Type 0) (w : ℕ) (s : L.S) (m : State) (e n : ℕ) (ls : List Bounds) (r : Res L.S) → Sim X κ Q m (begin X (L.tick w s)) e n ls r → Sim X κ Q m (begin X s) e n ls r
    ticked κ Q w s m e n ls r a = earlier κ Q m (begin X s) (begin X (L.tick w s)) e n ls r (parts.tick_answers w s) (parts.tick_events w s) (omega (arith, parts.tick_work w s)) a

    -- nodes of which nothing has been done
    fresh : (κ : X.K) (c : NodesT Where) (s : L.S) (m : State) (pc : ℕ) → m.counter ≡ pc → X.M κ c s m → DidBy X m (begin X s) pc (at_front X κ c zero) (front_acts L c zero s)
    unfolding here
    fresh κ Stop s m pc eq h = here (X.M κ Stop s) m s pc eq h
    fresh κ (Do o c) s m pc eq h = here (X.M κ (Do o c) s) m s pc eq h
    fresh κ (Call t f args c) s m pc eq h = here (X.M κ (Call t f args c) s) m s pc eq h
    fresh κ (Choose p x y c) s m pc eq h = here (X.M κ (Choose p x y c) s) m s pc eq h
    fresh κ (Block b c) s m pc eq h = here (X.M κ (Block b c) s) m s pc eq h
    fresh κ (Loop b c) s m pc eq h = here (X.ready κ b c zero s) m s pc eq (parts.ready_first κ b c s m h)
    fresh κ (Leave j c) s m pc eq h = here (X.M κ (Leave j c) s) m s pc eq h
    fresh κ (Again j c) s m pc eq h = here (X.M κ (Again j c) s) m s pc eq h
    fresh κ (Return w c) s m pc eq h = here (X.M κ (Return w c) s) m s pc eq h

    -- nodes at which code goes on from elsewhere
    anew : (κ : X.K) (c : NodesT Where) (s : L.S) (m : State) (pc : ℕ) → m.counter ≡ pc → H.opens (X.fn κ) c → X.M κ Stop s m → DidBy X m (begin X s) pc (at_front X κ c zero) (front_acts L c zero s)
    anew κ c s m pc eq o h = fresh κ c s m pc eq (parts.opens κ c s m o h)

    -- The first operations of nodes are done, as many as are counted, and the machine stands behind them.
    nodes : (n k : ℕ) → n ≤ suc k → Before k (below L n) → (κ : X.K) (pc e : ℕ) (ls : List Bounds) (c : NodesT Where) (done : ℕ) (b : Begin) (s : L.S) (m : State) → Past H (X.fn κ) ls pc c done e → DidBy X m b pc (at_front X κ c done) (front_acts L c done s) → Sim X κ (X.M κ Stop) m b e n ls (does L n (below L n) c s)
    nodes n k le bef κ pc e ls Stop j b s m at d = subst (λ q. Came X m b s q 0 0 (X.M κ Stop s)) at d
    nodes n k le bef κ pc e ls (Do o c) zero b s m (inl h) d =
        after κ (X.M κ Stop) m b s pc 0 n n e ls (X.M κ (Do o c) s) (did (L.act o s) (does L n (below L n) c)) (omega arith) d (parts.made κ pc o c s d.to h d.at d.held e n ls)
    nodes n k le bef κ pc e ls (Do o c) zero b s m (inr at) d =
        after κ (X.M κ Stop) m b s pc 0 n n e ls (X.M κ (Do o c) s) (did (L.act o s) (does L n (below L n) c)) (omega arith) d
        (done_sim κ (X.M κ Stop) d.to (begin X s) at.1 e n ls (at_front X κ c at.0) (L.act o s) (front_acts L c at.0) (does L n (below L n) c) (parts.op κ pc at.1 at.0 o c s d.to at.2 d.at d.held) (λ t a. nodes n k le bef κ at.1 e ls c at.0 (begin X s) t d.to at.3 a))
    nodes n k le bef κ pc e ls (Do o c) (suc j) b s m at d =
        done_sim κ (X.M κ Stop) m b pc e n ls (at_front X κ c j) (L.act o s) (front_acts L c j) (does L n (below L n) c) d (λ t a. nodes n k le bef κ pc e ls c j b t m at a)
    nodes n k le bef κ pc e ls (Call t f args c) j b0 s m0 at d =
        let m = d.to in
        after κ (X.M κ Stop) m0 b0 s pc 0 n n e ls (X.M κ (Call t f args c) s) (does L n (below L n) (Call t f args c) s) (omega arith) d
        (then_sim κ (X.M κ c) (X.M κ Stop) m (begin X s) at.0 e n ls (called L n (below L n) t f args (L.tick (call_weight args) s)) (does L n (below L n) c)
        (called_sim κ (X.M κ c) at.0 n k (call_weight args) ls t f args s m (below L n) le bef (parts.call κ pc at.0 t f args c s m at.1 d.at d.held)) (λ t1 m1 e1 h1. nodes n k le bef κ at.0 e ls c zero (begin X t1) t1 m1 at.2 (fresh κ c t1 m1 at.0 e1 h1)))
    nodes n k le bef κ pc e ls (Choose p x y c) j b0 s m0 at d =
        let m = d.to in
        let u = L.tick node_weight s in
        after κ (X.M κ Stop) m0 b0 s pc 0 n n e ls (X.M κ (Choose p x y c) s) (does L n (below L n) (Choose p x y c) s) (omega arith) d
        (then_sim κ (X.M κ Stop) (X.M κ Stop) m (begin X s) at.3 e n ls (choose (L.test p s) u (does L n (below L n) x) (does L n (below L n) y)) (does L n (below L n) c)
        (choose_sim κ (X.M κ (Choose p x y c) u) m (begin X s) at.0 at.2 at.1 at.3 n ls u (L.test p s) (does L n (below L n) x) (does L n (below L n) y) (going_here κ m s node_weight) at.6 (parts.test κ pc at.2 at.0 p x y c s m at.4 d.at d.held)
        (λ m1 e1 h1. nodes n k le bef κ at.0 at.1 (paid ls) x zero (begin X u) u m1 at.5 (fresh κ x u m1 at.0 e1 (parts.first κ p x y c u m1 h1)))
        (λ m1 e1 h1. nodes n k le bef κ at.2 at.3 (paid ls) y zero (begin X u) u m1 at.7 (fresh κ y u m1 at.2 e1 (parts.second κ p x y c u m1 h1))))
        (λ t m1 e1 h1. nodes n k le bef κ at.3 e ls c zero (begin X t) t m1 at.8 (anew κ c t m1 at.3 e1 at.9 h1)))
    nodes n k le bef κ pc e ls (Block b c) j b0 s m0 at d =
        let m = d.to in
        let u = L.tick node_weight s in
        let around = record { begins = pc; ends = at.0; owes = true } ∷ ls in
        after κ (X.M κ Stop) m0 b0 s pc 0 n n e ls (X.M κ (Block b c) s) (does L n (below L n) (Block b c) s) (omega arith) d
        (then_sim κ (X.M κ Stop) (X.M κ Stop) m (begin X s) at.0 e n ls (block_done (does L n (below L n) b u)) (does L n (below L n) c)
        (block_sim κ m (begin X s) at.0 n pc ls (does L n (below L n) b u) (ticked κ (X.M κ Stop) node_weight s m at.0 n around (does L n (below L n) b u)
        (nodes n k le bef κ pc at.0 around b zero (begin X u) u m at.1 (fresh κ b u m pc d.at (parts.block κ b c u m (parts.ticks κ (Block b c) node_weight s m d.held))))))
        (λ t m1 e1 h1. nodes n k le bef κ at.0 e ls c zero (begin X t) t m1 at.2 (anew κ c t m1 at.0 e1 at.3 h1)))
    nodes n k le bef κ pc e ls (Loop b c) j b0 s m0 (p, inl h, rest) d =
        after κ (X.M κ Stop) m0 b0 s pc 0 n n e ls (X.ready κ b c j s) (does L n (below L n) (Loop b c) s) (omega arith) d
        (then_sim κ (X.M κ c) (X.M κ Stop) d.to (begin X s) p e n ls (turn_done (does L n (below L n) b (L.tick node_weight s)) (below L n (Loop b Stop))) (does L n (below L n) c) (parts.ask κ pc p j b c s d.to h d.at d.held n ls)
        (λ t m1 e1 h1. nodes n k le bef κ p e ls c zero (begin X t) t m1 rest (fresh κ c t m1 p e1 h1)))
    nodes n k le bef κ pc e ls (Loop b c) j b0 s m0 (p, inr (inl h), rest) d =
        after κ (X.M κ Stop) m0 b0 s pc 0 n n e ls (X.ready κ b c j s) (does L n (below L n) (Loop b c) s) (omega arith) d
        (then_sim κ (X.M κ c) (X.M κ Stop) d.to (begin X s) p e n ls (turn_done (does L n (below L n) b (L.tick node_weight s)) (below L n (Loop b Stop))) (does L n (below L n) c) (parts.copy κ pc p j b c s d.to h d.at d.held n ls)
        (λ t m1 e1 h1. nodes n k le bef κ p e ls c zero (begin X t) t m1 rest (fresh κ c t m1 p e1 h1)))
    nodes n k le bef κ pc e ls (Loop b c) j b0 s m0 (p, inr (inr (plain, q, passes, body, begins, turns, behind)), rest) d =
        let m = d.to in
        let u = L.tick node_weight s in
        let around = record { begins = q; ends = p; owes = true } ∷ ls in
        let g = pass_node κ pc q s m passes d.at (parts.loop κ b c s m (parts.plain_first b j plain) (parts.ready_plain κ b c j s m plain d.held)) in
        after κ (X.M κ Stop) m0 b0 s pc 0 n n e ls (X.ready κ b c j s) (does L n (below L n) (Loop b c) s) (omega arith) d
        (then_sim κ (X.M κ Stop) (X.M κ Stop) m (begin X s) p e n ls (turn_done (does L n (below L n) b u) (below L n (Loop b Stop))) (does L n (below L n) c)
        (turn_sim κ m (begin X s) p n k q ls (does L n (below L n) b u) (below L n (Loop b Stop)) le
        (after κ (X.M κ Stop) m (begin X s) u q 0 n n p around (X.M κ Stop u) (does L n (below L n) b u) (omega arith) g (nodes n k le bef κ q p around b zero (begin X u) u g.to body (anew κ b u g.to q g.at begins g.held)))
        (λ t m1 e1 h1. bef κ q p ls (Loop b Stop) t m1 (p, inr (inr (parts.plain_first b j plain, q, inr refl, body, begins, turns, parts.nothing (X.fn κ))), refl) e1 (parts.opens κ (Loop b Stop) t m1 turns h1)))
        (λ t m1 e1 h1. nodes n k le bef κ p e ls c zero (begin X t) t m1 rest (anew κ c t m1 p e1 behind h1)))
    nodes n k le bef κ pc e ls (Leave i c) j b s m at d =
        let f = pass_node κ pc (end_of ls i) s d.to at.0 d.at (parts.leave κ i c s d.to d.held) in
        came_came m b s (L.tick node_weight s) pc (end_of ls i) 0 0 0 0 (X.M κ (Leave i c) s) (X.M κ Stop (L.tick node_weight s)) d f (omega arith)
    nodes n k le bef κ pc e ls (Again i c) j b s m at d =
        let f = begin_node κ pc (begin_of ls i) (owed ls i) s d.to at.0 d.at (parts.again κ i c s d.to d.held) in
        came_came m b s (L.tick node_weight s) pc (begin_of ls i) 0 (due (owed ls i)) (due (owed ls i)) 0 (X.M κ (Again i c) s) (X.M κ Stop (L.tick node_weight s)) d f (omega arith)
    nodes n k le bef κ pc e ls (Return w c) j b s m at d =
        after κ (X.M κ Stop) m b s pc 0 n n e ls (X.M κ (Return w c) s) (does L n (below L n) (Return w c) s) (omega arith) d (parts.give κ pc w c s d.to at.0 d.at d.held)

    -- for every bound the machine follows the code
    pub follows : (n : ℕ) (κ : X.K) (pc e : ℕ) (ls : List Bounds) (c : NodesT Where) (s : L.S) (m : State) → At H (X.fn κ) ls pc c e → m.counter ≡ pc → X.M κ c s m → Sim X κ (X.M κ Stop) m (begin X s) e n ls (runs L n c s)
    follows zero κ pc e ls c s m at eq h =
        nodes zero 0 (omega arith) (λ κ1 pc1 e1 ls1 d t m1 a1 q1 h1. record { steps = 0; made = []; to = m1; left = X.answers t; by = (reaches_here m1 (X.answers t)).runs; nested = λ ns. nested_none ns m1 (X.answers t); events = sym (append-nil (X.events t)); cost = omega arith; many = omega arith }) κ pc e ls c zero (begin X s) s m at (fresh κ c s m pc eq h)
    follows (suc n) κ pc e ls c s m at eq h =
        nodes (suc n) n (omega arith) (λ κ1 pc1 e1 ls1 d t m1 a1 q1 h1. follows n κ1 pc1 e1 ls1 d t m1 a1 q1 h1) κ pc e ls c zero (begin X s) s m at (fresh κ c s m pc eq h)
