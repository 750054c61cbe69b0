-- The words that the items of placed code are placed as are words among which it stands.
use Rattle.std.proofs.Common.{◌≡◌, ℕ, zero, suc, ◌+◌, ◌-◌, ◌^◌, ◌<◌, ◌≤◌, inl, inr, List, [], ◌∷◌, ◌++◌, length, Some, None, refl, sym, ap, ◌∙◌, subst, arith}
use Rattle.std.specs.Prelude.{Bool, false, get_or, slice_get, cond, ltb}
use Rattle.std.proofs.lemmas.Option.{get_or_from_slice_get}
use Rattle.std.proofs.lemmas.Bool.{lt-ltb}
use Rattle.v32_isa.specs.declared.instruction.Plain.TheVariants.{HLT}
use Rattle.v32_isa.specs.declared.instruction.Instr.TheVariants as instr
use Rattle.asm_items.specs.declared.item.AsmItem.{AsmItem}
use Rattle.asm_items.specs.declared.item.AsmItem.TheVariants as item
use Rattle.assembler.specs.Labels.{address_in}
use Rattle.assembler.specs.Placed as asm
use Rattle.assembler.specs.Sizes.{total_size}
use Rattle.assembler.proofs.Standing.{words_length}
use Rattle.mid_code.specs.declared.placed.Where.{Where}
use Rattle.mid_code.specs.Placed.{PlacedT}
use Rattle.mid_code.specs.Code.{FunctionT, CodeT}
use Rattle.mid_code.specs.States.{no_function, function_at}
use Rattle.mid_code.specs.Invariants.{AllOf, AreNodes, DifferFrom, AreDifferent, IsFunction, IsPlace, IsPlaced}
use Rattle.mid_code.specs.Runs.{placed_runs}
use Rattle.mid_code.specs.Agrees.{AgreesWithin}
use Rattle.asm_laws.specs.Operations.{Frame, Whole, start_frame, literals_items}
use Rattle.asm_laws.specs.inner.Emitted.{labels, labels_of, code_items, functions_items, call_item, closing_items, start_items, program_items}
use Rattle.asm_laws.specs.Standing.{Stand}
use Rattle.asm_laws.specs.Holds.{Setting}
use Rattle.asm_laws.specs.Linked.{setting}
use Rattle.asm_laws.specs.Program.{BodyAt, ProgramAt}
use Rattle.asm_laws.specs.Tables.{Number, OfFunction, OfStart, OfRest, number_of, frame_for, called_for, addresses, whole_of, count_of, plan_of}
use Rattle.asm_laws.specs.PlacedAt.{PlacedAt}
use Rattle.asm_emit.specs.EmittedFrom.{CanBeEmitted}
use Rattle.asm_laws.proofs.Words.{below_not}
use Rattle.asm_laws.proofs.Spotted.{function_is}
use Rattle.asm_laws.proofs.Tables.{number_function, function_number}
use Rattle.asm_laws.proofs.PlacedAgrees.{start_number, placed_agrees}
use Rattle.asm_laws.proofs.Programs.{mapped_from}
use Rattle.asm_laws.proofs.LabelKinds.{Differ}
use Rattle.asm_laws.proofs.Walked.{placed_stand}
use Rattle.asm_laws.proofs.Sizes.{Counts, program_size, program_few}
use Rattle.asm_laws.proofs.Known.{Sound, function_there, no_fault}
use Rattle.asm_laws.proofs.Split.{split}
use Rattle.asm_laws.proofs.CodeAt.{function_leaves, start_leaves, body_at}
use Rattle.asm_laws.proofs.Same.{framed, program_same}
use Rattle.asm_laws.proofs.Found.{FoundAt, enters_of, leaves_of, functions_found}

-- ---- names

differ_from : (name : List ℕ) (names : List (List ℕ)) (g : ℕ) → DifferFrom name names → g < length names → name ≡ get_or names g [] → ⊥
differ_from name [] g h lt e = absurd (omega (arith, lt))
differ_from name (m ∷ names) zero h lt e = h.0 e
differ_from name (m ∷ names) (suc g) h lt e = differ_from name names g h.1 (omega (arith, lt)) e

pub differ_of : (names : List (List ℕ)) → AreDifferent names → Differ names
differ_of [] h f g lf lg e = absurd (omega (arith, lf))
differ_of (m ∷ names) h zero zero lf lg e = refl
differ_of (m ∷ names) h zero (suc g) lf lg e = absurd (differ_from m names g h.0 (omega (arith, lg)) e)
differ_of (m ∷ names) h (suc f) zero lf lg e = absurd (differ_from m names f h.0 (omega (arith, lf)) (sym e))
differ_of (m ∷ names) h (suc f) (suc g) lf lg e = ap suc (differ_of names h.1 f g (omega (arith, lf)) (omega (arith, lg)) e)

all_nodes : (x : CodeT Where) (gs : List (FunctionT Where)) → AllOf (IsFunction IsPlace x) gs → AllOf (λ g. AreNodes x (length g.locals) [] g.body) gs
all_nodes x [] h = tt
all_nodes x (g ∷ gs) h = (h.0.nodes, all_nodes x gs h.1)

-- items stand upwards
never_down : (words : List ℕ) (address : List ℕ → ℕ) (xs : List AsmItem) (pc e : ℕ) → Stand words address pc xs e → pc ≤ e
never_down words address [] pc e h = omega (arith, h)
never_down words address (item.Label m ∷ xs) pc e h = let r = never_down words address xs h.0 e h.2 in omega (arith, r, h.1.1)
never_down words address (item.Op i ∷ xs) pc e h = let r = never_down words address xs h.0 e h.2 in omega (arith, r, h.1.next_is)
never_down words address (item.Integer w ∷ xs) pc e h = let r = never_down words address xs h.0 e h.2 in omega (arith, r, h.1.next_is)
never_down words address (item.Pointer m ∷ xs) pc e h = let r = never_down words address xs h.0 e h.2 in omega (arith, r, h.1.next_is)

module _ (x : PlacedT) (names : List (List ℕ)) (placed : IsPlaced x) (can : CanBeEmitted x names) where
  abbrev W : Whole
  W = whole_of x names

  counts : Counts x.code (whole_of x names)
  counts g n e =
      let f = mapped_from (λ h. length h.params) (slice_get x.code.functions g) n e in
      sym f.2 ∙ ap (λ h. length h.params) (sym (get_or_from_slice_get x.code.functions g f.0 no_function f.1))

  pub sound : Sound x.code (whole_of x names)
  sound = record {
    differ = differ_of names can.differ;
    named = let e = can.named in omega (arith, e);
    main_there = function_there x.code x.code.main 0 placed.code.main;
    counts = counts;
    start = placed.code.start.function.nodes;
    each = all_nodes x.code x.code.functions placed.code.functions;
    few = can.room;
  }

  pub few_labels : labels_of x.code < 2 ^ 32 - 1
  few_labels = let p = program_few x.code in let r = can.room in omega (arith, p, r)

  -- with the frames of the start and of what is left of it
  abbrev frames : ℕ → Frame
  frames f = frame_for x (number_of (count_of x) f) f

  abbrev V : Whole
  V = framed (whole_of x names) (λ f. frame_for x (number_of (count_of x) f) f)

  same_frames : (g : ℕ) → g < length x.code.functions → frame_for x (number_of (count_of x) g) g ≡ (whole_of x names).frames g
  same_frames g lt = ap (λ n. frame_for x n g) (number_function (count_of x) g lt)

  same_items : program_items V x.code ≡ program_items W x.code
  same_items = program_same x.code (whole_of x names) (λ f. frame_for x (number_of (count_of x) f) f) same_frames placed.code.start.function.nodes (all_nodes x.code x.code.functions placed.code.functions)

  called_lt : (g : ℕ) → called_for (number_of (count_of x) g) g ≡ Some g → g < count_of x
  called_lt g e = go (number_of (count_of x) g) refl e
    where
      go : (n : Number) → number_of (count_of x) g ≡ n → called_for n g ≡ Some g → g < count_of x
      go OfFunction e q = function_number (count_of x) g e
      go OfStart e q = cc
      go OfRest e q = cc

  module _ (words : List ℕ) (address : List ℕ → ℕ) (e : ℕ) (h : Stand words address 0x20000000 (program_items V x.code) e) where
    abbrev rest : List AsmItem
    rest = functions_items V 0 (1 + labels x.code.start.body) x.code.functions ++ literals_items 0 x.code.literals

    abbrev a : (q : ℕ) × Stand words address 0x20000000 (start_items V x.code.main x.code.start.body) q × Stand words address q rest e
    a = split words address (start_items V x.code.main x.code.start.body) rest 0x20000000 e h

    abbrev c : (q : ℕ) × Stand words address 0x20000000 (code_items V start_frame (Some 0) [] 1 x.code.start.body) q × Stand words address q (closing_items V x.code.main) a.0
    c = split words address (code_items V start_frame (Some 0) [] 1 x.code.start.body) (closing_items V x.code.main) 0x20000000 a.0 a.1

    abbrev d : (q : ℕ) × Stand words address a.0 (functions_items V 0 (1 + labels x.code.start.body) x.code.functions) q × Stand words address q (literals_items 0 x.code.literals) e
    d = split words address (functions_items V 0 (1 + labels x.code.start.body) x.code.functions) (literals_items 0 x.code.literals) a.0 e a.2

    pub enters : ℕ → ℕ
    enters g = cond (ltb g (count_of x)) (enters_of words address V 0 (1 + labels x.code.start.body) x.code.functions a.0 d.0 d.1 g) 0x20000000

    pub leaves : ℕ → ℕ
    leaves g = cond (ltb g (count_of x)) (leaves_of words address V 0 (1 + labels x.code.start.body) x.code.functions a.0 d.0 d.1 g) c.0

    pub first : ℕ
    first = d.0

    abbrev S : Bool → Setting
    S has_card = setting (plan_of x names address enters leaves first) words has_card

    not_below : ltb (count_of x) (count_of x) ≡ false
    not_below = elim (below_not (count_of x) (count_of x)) [ inl q ↦ absurd (let z = q.0 in omega (arith, z)) | inr q ↦ q ]

    enters_boot : enters (count_of x) ≡ 0x20000000
    unfolding enters
    enters_boot = ap (λ t. cond t (enters_of words address V 0 (1 + labels x.code.start.body) x.code.functions a.0 d.0 d.1 (count_of x)) 0x20000000) not_below

    leaves_boot : leaves (count_of x) ≡ c.0
    unfolding leaves
    leaves_boot = ap (λ t. cond t (leaves_of words address V 0 (1 + labels x.code.start.body) x.code.functions a.0 d.0 d.1 (count_of x)) c.0) not_below

    enters_at : (g : ℕ) → g < count_of x → enters g ≡ enters_of words address V 0 (1 + labels x.code.start.body) x.code.functions a.0 d.0 d.1 g
    unfolding enters
    enters_at g lt = ap (λ t. cond t (enters_of words address V 0 (1 + labels x.code.start.body) x.code.functions a.0 d.0 d.1 g) 0x20000000) (lt-ltb g (count_of x) lt)

    leaves_at : (g : ℕ) → g < count_of x → leaves g ≡ leaves_of words address V 0 (1 + labels x.code.start.body) x.code.functions a.0 d.0 d.1 g
    unfolding leaves
    leaves_at g lt = ap (λ t. cond t (leaves_of words address V 0 (1 + labels x.code.start.body) x.code.functions a.0 d.0 d.1 g) c.0) (lt-ltb g (count_of x) lt)

    found : (g : ℕ) → g < count_of x → FoundAt words address V g (function_at x.code g).body (enters g) (leaves g)
    found g lt =
        let n = 1 + labels x.code.start.body in
        let few = few_labels in
        let f = functions_found words address V 0 n x.code.functions a.0 d.0 (omega (arith, few)) d.1 g lt in
        let z : 0 + g ≡ g = omega arith in
        let en = sym (enters_at g lt) in
        let le = sym (leaves_at g lt) in
        subst (λ l. FoundAt words address V g (function_at x.code g).body (enters g) l) le (subst (λ k. FoundAt words address V g (function_at x.code g).body k (leaves_of words address V 0 n x.code.functions a.0 d.0 d.1 g)) en
        (subst (λ i. FoundAt words address V i (function_at x.code g).body (enters_of words address V 0 n x.code.functions a.0 d.0 d.1 g) (leaves_of words address V 0 n x.code.functions a.0 d.0 d.1 g)) z f))

    body : (has_card : Bool) (g : ℕ) → g < count_of x → (S has_card).called_as g ≡ Some g → BodyAt (S has_card) g
    body has_card g lt called =
        let f = found g lt in
        let few = f.few in
        record {
          begins = f.begins;
          label = f.label;
          entry = f.entry;
          body = body_at (S has_card) g None (function_leaves (S has_card) g called) x.code (length (function_at x.code g).locals) (function_at x.code g).body (f.first + 1) (enters g) (leaves g) (function_is IsPlace x.code x.code.functions g placed.code.functions lt).nodes few refl f.inner;
          ends = f.ends;
          exit = f.exit;
        }

    pub program_at : (has_card : Bool) → ProgramAt (S has_card) (count_of x)
    program_at has_card =
        let body = x.code.start.body in
        let few = few_labels in
        let here0 = subst (λ F. Stand words address 0x20000000 (code_items V F (Some 0) [] 1 body) c.0) (sym (ap (λ n. frame_for x n (count_of x)) (start_number (count_of x)))) c.1 in
        let here1 = subst (λ q. Stand words address q (code_items V (frames (count_of x)) (Some 0) [] 1 body) c.0) (sym enters_boot) here0 in
        let here = subst (λ q. Stand words address (enters (count_of x)) (code_items V (frames (count_of x)) (Some 0) [] 1 body) q) (sym leaves_boot) here1 in
        record {
          opening = enters_boot;
          start = body_at (S has_card) (count_of x) (Some 0) (start_leaves (S has_card) (count_of x) 0 (c.2.1.0 ∙ sym leaves_boot)) x.code (length x.code.start.locals) body 1 (enters (count_of x)) (leaves (count_of x)) placed.code.start.function.nodes (omega (arith, few)) refl here;
          last = a.0;
          closing = subst (λ q. Stand words address q (call_item V x.code.main ∷ item.Op (instr.Plain HLT) ∷ []) a.0) (c.2.1.1 ∙ sym leaves_boot) c.2.2;
          functions = λ g call. body_of g (called_lt g call.called_as) call.called_as;
        }
      where
        body_of : (g : ℕ) → g < count_of x → (S has_card).called_as g ≡ Some g → BodyAt (S has_card) g
        body_of g lt called = body has_card g lt called

    pub placed_at : e ≡ 0x20000000 + length words → length words < 0x10000000 → PlacedAt x names address enters leaves first words
    unfolding first
    placed_at ends short = record {
      placed = placed;
      program = program_at;
      from = let u = never_down words address (start_items V x.code.main x.code.start.body) 0x20000000 a.0 a.1 in let v = never_down words address (functions_items V 0 (1 + labels x.code.start.body) x.code.functions) a.0 d.0 d.1 in omega (arith, u, v);
      literals = subst (λ q. Stand words address d.0 (literals_items 0 x.code.literals) q) ends d.2;
      short = short;
    }

  -- the words that the items are placed as agree with the code
  pub words_agree : (words : List ℕ) (labels : List (List ℕ × ℕ)) → asm.Placed (program_items W x.code) words labels → AgreesWithin 1 (addresses 0 x.code.globals) (placed_runs x) words
  words_agree words labels at =
      let items = program_items W x.code in
      let stand = placed_stand words labels items (no_fault x.code W sound) at in
      let size = ap length at.words_are ∙ words_length (address_in labels) items in
      let end = 0x20000000 + total_size items in
      let here = subst (λ xs. Stand words (address_in labels) 0x20000000 xs end) (sym same_items) stand in
      let less = program_size x.code W counts placed.code.start.function.nodes (all_nodes x.code x.code.functions placed.code.functions) in
      let room = can.room in
      placed_agrees x names (address_in labels) (enters words (address_in labels) end here) (leaves words (address_in labels) end here) (first words (address_in labels) end here) words
      (placed_at words (address_in labels) end here (omega (arith, size)) (omega (arith, size, less, room)))
