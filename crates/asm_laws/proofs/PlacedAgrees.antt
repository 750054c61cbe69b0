-- The words of placed code agree with it.
use Rattle.std.proofs.Common.{◌≡◌, ℕ, ◌+◌, ◌<◌, inl, inr, Bool, true, false, List, [], ◌∷◌, length, Option, Some, refl, sym, ap, ◌∙◌, subst, arith}
use Rattle.std.specs.Prelude.{get_or, slice_get, is_some, cond, eqb}
use Rattle.std.proofs.lemmas.Option.{slice_get_within, get_or_from_slice_get}
use Rattle.std.proofs.lemmas.Bool.{eq-eqb, eqb-true}
use Rattle.obj_mem.specs.Runs.{IsCard}
use Rattle.mid_code.specs.declared.placed.Where.{Where}
use Rattle.mid_code.specs.declared.placed.Where.TheVariants.{Reg, Slot}
use Rattle.mid_code.specs.Placed.{PlacedT}
use Rattle.mid_code.specs.Code.{NodesT, Stop, Do, Call, Choose, Block, Loop, Leave, Again, Return, FunctionT, node_uses, node_target, maybe}
use Rattle.mid_code.specs.States.{no_function, function_at}
use Rattle.mid_code.specs.Invariants.{AllOf, AreNodes, NodeNames, Names, HasSlot, IsFunction, IsPlace, IsStartPlace}
use Rattle.mid_code.specs.Runs.{placed_runs}
use Rattle.mid_code.specs.Agrees.{AgreesWithin}
use Rattle.asm_laws.specs.Names.{literal_label}
use Rattle.asm_laws.specs.Operations.{start_frame}
use Rattle.asm_laws.specs.Holds.{Setting, Named, Fits}
use Rattle.asm_laws.specs.Calling.{Callable}
use Rattle.asm_laws.specs.Laid.{Laid}
use Rattle.asm_laws.specs.Linked.{setting}
use Rattle.asm_laws.specs.Program.{Program}
use Rattle.asm_laws.specs.Tables.{Number, OfFunction, OfStart, OfRest, number_of, spots_at, frame_for, slot_for, called_for, locals_for, addresses, count_of, plan_of}
use Rattle.asm_laws.specs.PlacedAt.{PlacedAt}
use Rattle.asm_laws.specs.Spare.{Sparing}
use Rattle.asm_laws.specs.Live.{lasts, Lasts}
use Rattle.asm_laws.proofs.Spared.{held_is}
use Rattle.asm_laws.proofs.Lasting.{body_lasts, every_lasts}
use Rattle.asm_laws.proofs.Spotted.{function_is, spots_of, conventions}
use Rattle.asm_laws.proofs.Words.{below_not}
use Rattle.asm_laws.proofs.Tables.{number_function, function_number, fixed_global, fixed_literal, fixed_card, fits}
use Rattle.asm_laws.proofs.Literals.{Texts, stand_texts}
use Rattle.asm_laws.proofs.Ports.{readable_small, writable_small}
use Rattle.asm_laws.proofs.Programs.{mapped_from, program_agrees}

all_both : (P Q R : Where → Type 0) → ((w : Where) → P w → Q w → R w) → (ws : List Where) → AllOf P ws → AllOf Q ws → AllOf R ws
all_both P Q R go [] p q = tt
all_both P Q R go (w ∷ ws) p q = (go w p.0 q.0, all_both P Q R go ws p.1 q.1)

node_both : (P Q R : Where → Type 0) → ((w : Where) → P w → Q w → R w) → (c : NodesT Where) → NodeNames P c → NodeNames Q c → NodeNames R c
node_both P Q R go c p q = (all_both P Q R go (node_uses c) p.0 q.0, all_both P Q R go (maybe (node_target c)) p.1 q.1)

names_both : (P Q R : Where → Type 0) → ((w : Where) → P w → Q w → R w) → (c : NodesT Where) → Names P c → Names Q c → Names R c
names_both P Q R go Stop p q = tt
names_both P Q R go (Do o c) p q = (node_both P Q R go (Do o c) p.0 q.0, names_both P Q R go c p.1 q.1)
names_both P Q R go (Call t f args c) p q = (node_both P Q R go (Call t f args c) p.0 q.0, names_both P Q R go c p.1 q.1)
names_both P Q R go (Choose w a b c) p q = (node_both P Q R go (Choose w a b c) p.0 q.0, names_both P Q R go a p.1 q.1, names_both P Q R go b p.2 q.2, names_both P Q R go c p.3 q.3)
names_both P Q R go (Block b c) p q = (names_both P Q R go b p.0 q.0, names_both P Q R go c p.1 q.1)
names_both P Q R go (Loop b c) p q = (names_both P Q R go b p.0 q.0, names_both P Q R go c p.1 q.1)
names_both P Q R go (Leave k c) p q = names_both P Q R go c p q
names_both P Q R go (Again k c) p q = names_both P Q R go c p q
names_both P Q R go (Return w c) p q = (node_both P Q R go (Return w c) p.0 q.0, names_both P Q R go c p.1 q.1)

pub start_number : (n : ℕ) → number_of n n ≡ OfStart
start_number n = elim (below_not n n) [ inl b ↦ absurd (omega (arith, b.0)) | inr b ↦ ap (λ t. cond t OfFunction (cond (eqb n n) OfStart OfRest)) b ∙ ap (λ t. cond t OfStart OfRest) (eq-eqb n n refl) ]

differs : (n : ℕ) → eqb (n + 1) n ≡ false
differs n = go (eqb (n + 1) n) refl
  where
    go : (t : Bool) → eqb (n + 1) n ≡ t → eqb (n + 1) n ≡ false
    go true e = let q = eqb-true (n + 1) n e in absurd (omega (arith, q))
    go false e = e

rest_number : (n : ℕ) → number_of n (n + 1) ≡ OfRest
rest_number n = elim (below_not (n + 1) n) [ inl b ↦ absurd (omega (arith, b.0)) | inr b ↦ ap (λ t. cond t OfFunction (cond (eqb (n + 1) n) OfStart OfRest)) b ∙ ap (λ t. cond t OfStart OfRest) (differs n) ]

module _ (x : PlacedT) (names : List (List ℕ)) (address : List ℕ → ℕ) (enters leaves : ℕ → ℕ) (first : ℕ) (words : List ℕ) (p : PlacedAt x names address enters leaves first words) (card : Option (List ℕ)) (ok : IsCard card) where
  abbrev S : Setting
  S = setting (plan_of x names address enters leaves first) words (is_some card)

  abbrev F : ℕ
  F = count_of x

  texts : Texts words address x.code.literals 0 first (0x20000000 + length words)
  texts = stand_texts words address start_frame x.code.literals 0 first (0x20000000 + length words) p.literals

  laid : Laid S (count_of x) card
  laid = record {
    count = refl;
    globals = λ k lt. fixed_global x p.placed names address enters leaves first words (is_some card) k lt;
    few_globals = p.placed.code.globals;
    first_literal = first;
    literals = λ k lt. fixed_literal x p.placed names address enters leaves first words (is_some card) k lt;
    from = p.from;
    upto = let e = texts.ends in omega (arith, e);
    short = p.short;
    literal_words = λ k i j lt il e. texts.there k i j lt il e;
    card_at = fixed_card x p.placed names address enters leaves first words (is_some card) (length x.code.globals + length x.code.literals) (omega arith);
    has_card = refl;
    called_as = ap (λ n. called_for n (count_of x)) (start_number (count_of x));
    locals = ap (λ n. locals_for x n (count_of x)) (start_number (count_of x));
    depth = ap (λ n. (frame_for x n (count_of x)).depth) (start_number (count_of x));
    size = let e = ap (λ n. (frame_for x n (count_of x)).size) (start_number (count_of x)) in omega (arith, e);
  }

  all_fits : Fits S
  all_fits = fits x p.placed names address enters leaves first words (is_some card) p.placed.code.globals (let e = texts.ends in omega (arith, e)) p.short (λ k lt. ap (λ z. address (literal_label z)) (let z : k ≡ 0 + k = omega arith in z) ∙ texts.labels k lt)

  number_lt : (g : ℕ) → Callable S g → g < F
  number_lt g c = go (number_of F g) refl c.called_as
    where
      go : (n : Number) → number_of (count_of x) g ≡ n → called_for n g ≡ Some g → g < count_of x
      go OfFunction e q = function_number (count_of x) g e
      go OfStart e q = cc
      go OfRest e q = cc

  fn : (g : ℕ) → g < F → IsFunction IsPlace x.code (function_at x.code g)
  fn g lt = function_is IsPlace x.code x.code.functions g p.placed.code.functions lt

  abbrev N : (g : ℕ) → g < F → number_of F g ≡ OfFunction
  N g lt = number_function F g lt

  named : (g : ℕ) → g < F → (w : Where) → IsPlace (function_at x.code g) w → HasSlot (spots_at x g) w → Named S g w
  named g lt (Reg r) a b = a
  named g lt (Slot k) a b = subst (λ n. slot_for x n g k) (sym (N g lt)) b

  callable : (g : ℕ) → g < F → Callable S g
  callable g lt =
      let sp = spots_of x.frames x.code.functions x.spots g (record { slots = []; locals = []; own = [] }) p.placed.spots lt in
      let sz : (frame_for x (number_of F g) g).size ≡ get_or x.frames g 0 = ap (λ n. (frame_for x n g).size) (N g lt) in
      record {
        called_as = ap (λ n. called_for n g) (N g lt);
        depth = ap (λ n. (frame_for x n g).depth) (N g lt) ∙ sym sz;
        frame = sym sz;
        params = refl;
        params_named = all_both (IsPlace (function_at x.code g)) (HasSlot (spots_at x g)) (Named S g) (named g lt) (function_at x.code g).params (fn g lt).params_named sp.2;
        params_differ = (fn g lt).params_differ;
      }

  program : Program S (count_of x) (count_of x + 1) card
  program = record {
    fits = all_fits;
    laid = laid;
    readable = readable_small;
    writable = writable_small;
    start_nodes = subst (λ n. AreNodes x.code n [] x.code.start.body) (ap length p.placed.code.start.locals ∙ sym (ap (λ n. length (locals_for x n (count_of x))) (start_number (count_of x)))) p.placed.code.start.function.nodes;
    start_names = names_both (IsPlace x.code.start) IsStartPlace (Named S (count_of x)) start_named x.code.start.body p.placed.code.start.function.names p.placed.start;
    start_sound = record { local_there = λ k lt. let e = ap (λ n. length (locals_for x n (count_of x))) (start_number (count_of x)) in absurd (omega (arith, lt, e)) };
    start_spares = inl (ap (λ n. (frame_for x n (count_of x)).registers) (start_number (count_of x)));
    start_lasts = λ r lt e. ap (λ n. lasts (frame_for x n (count_of x)).lasting r) (start_number (count_of x)) ∙ every_lasts r lt;
    start_quiet = p.placed.code.start.calls;
    nodes = λ g c. let lt = number_lt g c in subst (λ ls. AreNodes x.code (length ls) [] (function_at x.code g).body) (sym (ap (λ n. locals_for x n g) (N g lt))) (fn g lt).nodes;
    names = λ g c.
        let lt = number_lt g c in
        let sp = spots_of x.frames x.code.functions x.spots g (record { slots = []; locals = []; own = [] }) p.placed.spots lt in
        names_both (IsPlace (function_at x.code g)) (HasSlot (spots_at x g)) (Named S g) (named g lt) (function_at x.code g).body (fn g lt).names sp.1;
    sound = λ g c. let lt = number_lt g c in record { local_there = λ k kl. there g lt k kl };
    spares = λ g c. let lt = number_lt g c in subst (λ n. Sparing n (function_at x.code g).body 0) (sym (ap (λ n. (frame_for x n g).registers) (N g lt))) (held_is (function_at x.code g).body);
    lasts = λ g c. let lt = number_lt g c in subst (λ n. Lasts n (λ r. false) (function_at x.code g).body 0) (sym (ap (λ n. (frame_for x n g).lasting) (N g lt))) (body_lasts (function_at x.code g).body);
    calls = λ f c g h e.
        let lf = number_lt f c in
        let lg = slice_get_within x.code.functions g h e in
        (c.depth, callable g lg, ap (λ z. z.params) (get_or_from_slice_get x.code.functions g h no_function e));
    main = callable x.code.main main_lt;
    main_params = no_length (function_at x.code x.code.main).params (ap (λ z. length z.params) (get_or_from_slice_get x.code.functions x.code.main main_is.0 no_function main_is.1) ∙ main_is.2);
    rest_as = ap (λ n. called_for n (count_of x + 1)) (rest_number (count_of x)) ∙ sym (ap (λ n. called_for n (count_of x)) (start_number (count_of x)));
    rest_depth = ap (λ n. (frame_for x n (count_of x + 1)).depth) (rest_number (count_of x));
    rest_registers = ap (λ n. (frame_for x n (count_of x + 1)).registers) (rest_number (count_of x)) ∙ sym (ap (λ n. (frame_for x n (count_of x)).registers) (start_number (count_of x)));
    rest_size = ap (λ n. (frame_for x n (count_of x + 1)).size) (rest_number (count_of x));
    rest_slots = λ k has. subst (λ n. slot_for x n (count_of x + 1) k) (rest_number (count_of x)) has;
  }
    where
      main_is : (g : FunctionT Where) × (slice_get x.code.functions x.code.main ≡ Some g) × (length g.params ≡ 0)
      main_is = mapped_from (λ g. length g.params) (slice_get x.code.functions x.code.main) 0 p.placed.code.main

      main_lt : x.code.main < count_of x
      main_lt = slice_get_within x.code.functions x.code.main main_is.0 main_is.1

      no_length : (ps : List Where) → length ps ≡ 0 → ps ≡ []
      no_length [] e = refl
      no_length (q ∷ ps) e = absurd (omega (arith, e))

      start_named : (w : Where) → IsPlace x.code.start w → IsStartPlace w → Named S (count_of x) w
      start_named (Reg r) a b = a
      start_named (Slot k) a b = subst (λ n. slot_for x n (count_of x) k) (sym (start_number (count_of x))) b

      there : (g : ℕ) → g < count_of x → (k : ℕ) → k < length (locals_for x (number_of (count_of x) g) g) → get_or (frame_for x (number_of (count_of x) g) g).locals k 0 < (frame_for x (number_of (count_of x) g) g).size
      there g lt k kl =
          let b = all_fits.local_in g k kl in
          let w = subst (λ n. k < length (locals_for x n g) → 0 < get_or (locals_for x n g) k 0) (sym (number_function (count_of x) g lt)) (λ l. (conventions x p.placed).locals_some g k lt l) kl in
          omega (arith, b, w)

-- the words of placed code do what it means, in at most as many steps as its work and 64
pub placed_agrees : (x : PlacedT) (names : List (List ℕ)) (address : List ℕ → ℕ) (enters leaves : ℕ → ℕ) (first : ℕ) (words : List ℕ) → PlacedAt x names address enters leaves first words → AgreesWithin 1 (addresses 0 x.code.globals) (placed_runs x) words
placed_agrees x names address enters leaves first words p = program_agrees (plan_of x names address enters leaves first) words (count_of x) (count_of x + 1) (λ card ok. (program x names address enters leaves first words p card ok, p.program (is_some card)))
