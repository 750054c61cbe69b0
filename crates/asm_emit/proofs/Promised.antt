-- What is promised of the items of placed code.
use Rattle.std.proofs.Common.{◌≡◌, ℕ, zero, suc, ◌+◌, ◌-◌, ◌^◌, ◌<◌, List, [], ◌∷◌, ◌++◌, length, map, Some, None, refl, sym, ap, ◌∙◌, subst, arith, append_assoc}
use Rattle.std.specs.Prelude.{◌==◌, cond, Bool, true, false, get_or, slice_get, sum}
use Rattle.std.proofs.lemmas.List.Sums.{sum_by-cons}
use Rattle.std.proofs.lemmas.Option.{get_or_from_slice_get, slice_get-get_or}
use Rattle.v32_isa.specs.declared.instruction.Plain.TheVariants.{RET}
use Rattle.v32_isa.specs.declared.instruction.Two.TheVariants.{IADD}
use Rattle.v32_isa.specs.declared.instruction.Src.TheVariants as src
use Rattle.v32_isa.specs.declared.instruction.Instr.TheVariants as instr
use Rattle.either.specs.declared.Either.TheVariants as either
use Rattle.asm_items.specs.declared.item.AsmItem.{AsmItem}
use Rattle.asm_items.specs.declared.item.AsmItem.TheVariants as item
use Rattle.assembler.specs.Faults.{fault_of}
use Rattle.assembler.specs.Placed as asm
use Rattle.assembler.specs.Sizes.{total_size}
use Rattle.mid_code.specs.declared.placed.Where.{Where}
use Rattle.mid_code.specs.Placed.{PlacedT}
use Rattle.mid_code.specs.Code.{NodesT, FunctionT, CodeT}
use Rattle.mid_code.specs.Invariants.{AllOf, AreNodes, IsPlaced}
use Rattle.mid_code.specs.Calls.{CallsTo}
use Rattle.asm_laws.specs.Names.{function_label}
use Rattle.asm_laws.specs.Labelled.{label_of_function}
use Rattle.asm_laws.specs.Operations.{Whole, literal_items, literals_items}
use Rattle.asm_laws.specs.Framing.{frame_made, frame_gone}
use Rattle.asm_laws.specs.inner.Emitted.{labels, functions_labels, mark, code_items, exit_items, own_items, function_items, functions_items, start_items, program_items}
use Rattle.asm_laws.specs.Tables.{addresses, whole_of}
use Rattle.asm_reader.specs.Readable.{AreReadable}
use Rattle.asm_emit.specs.inner.Words.{AreWords, TextsAreWords}
use Rattle.asm_emit.specs.EmittedFrom.{CanBeEmitted, HasInstruction, AreData, IsCalled, AreItemsOf, AreFunctions, IsEmitted}
use Rattle.asm_laws.proofs.Sizes.{program_size}
use Rattle.asm_laws.proofs.Known.{no_fault}
use Rattle.asm_emit.proofs.Coded.{own_code}
use Rattle.asm_emit.proofs.Forward.{own_go_on}
use Rattle.asm_emit.proofs.Readable.{program_readable}
use Rattle.asm_emit.proofs.Agreeing.{sound, few_labels, words_agree}

-- ---- literals are data

data_append : (xs ys : List AsmItem) → AreData xs → AreData ys → AreData (xs ++ ys)
data_append [] ys h g = g
data_append (item.Label l ∷ xs) ys h g = data_append xs ys h g
data_append (item.Op i ∷ xs) ys h g = absurd h
data_append (item.Integer w ∷ xs) ys h g = data_append xs ys h g
data_append (item.Pointer l ∷ xs) ys h g = data_append xs ys h g

integers_data : (bytes : List ℕ) → AreData (map item.Integer bytes)
integers_data [] = tt
integers_data (b ∷ bytes) = integers_data bytes

literals_data : (k : ℕ) (texts : List (List ℕ)) → AreData (literals_items k texts)
literals_data k [] = tt
literals_data k (text ∷ texts) =
    data_append (literal_items k text) (literals_items (k + 1) texts) (data_append (map item.Integer text) (item.Integer 0 ∷ []) (integers_data text) tt) (literals_data (k + 1) texts)

-- ---- functions

some_later : (xs ys : List AsmItem) → HasInstruction ys → HasInstruction (xs ++ ys)
some_later [] ys h = h
some_later (item.Label l ∷ xs) ys h = some_later xs ys h
some_later (item.Op i ∷ xs) ys h = tt
some_later (item.Integer w ∷ xs) ys h = some_later xs ys h
some_later (item.Pointer l ∷ xs) ys h = some_later xs ys h

-- what takes a frame away ends with the return
gone_ends : (size : ℕ) → (before : List AsmItem) × (frame_gone size ≡ before ++ item.Op (instr.Plain RET) ∷ [])
gone_ends size = go (size == 0)
  where
    go : (b : Bool) → (before : List AsmItem) × (cond b (item.Op (instr.Plain RET) ∷ []) (item.Op (instr.Two IADD 15 (src.Imm (either.Left size))) ∷ item.Op (instr.Plain RET) ∷ []) ≡ before ++ item.Op (instr.Plain RET) ∷ [])
    go true = ([], refl)
    go false = (item.Op (instr.Two IADD 15 (src.Imm (either.Left size))) ∷ [], refl)

module _ (x : CodeT Where) (W : Whole) (count : length W.names ≡ length x.functions) where
  called : (body : NodesT Where) (g : ℕ) → g < length x.functions → CallsTo g body → IsCalled W.names body (function_label W.names g)
  called body g lt calls = (g, get_or W.names g [], slice_get-get_or W.names g [] (omega (arith, lt, count)), refl, calls)

  are_items : (f n : ℕ) (g : FunctionT Where) → AreNodes x (length g.locals) [] g.body → n + 1 + labels g.body < 2 ^ 32 - 1 → AreItemsOf W.names g (own_items W f n g.body)
  are_items f n g ok few =
      let F = W.frames f in
      let items = code_items W F None [] (n + 1) g.body in
      let gone = gone_ends F.size in
      let away = mark n ∷ gone.0 in
      record {
        some = some_later (frame_made F.size) (items ++ exit_items n F) (some_later items (exit_items n F) (subst HasInstruction (sym gone.1) (some_later gone.0 (item.Op (instr.Plain RET) ∷ []) tt)));
        code = own_code W f n g.body;
        ends = (
          frame_made F.size ++ (items ++ away),
          ap (λ z. frame_made F.size ++ (items ++ mark n ∷ z)) gone.1 ∙ ap (λ z. frame_made F.size ++ z) (sym (append_assoc items away (item.Op (instr.Plain RET) ∷ []))) ∙ sym (append_assoc (frame_made F.size) (items ++ away) (item.Op (instr.Plain RET) ∷ [])),
        );
        straight = λ none. own_go_on W.names g.body x W (called g.body) (length g.locals) f n ok none few;
      }

  -- the names that are left are those from a number on
  abbrev Left : ℕ → List (List ℕ) → Type 0
  Left f left = (k : ℕ) (name : List ℕ) → slice_get left k ≡ Some name → slice_get W.names (f + k) ≡ Some name

  later : (f : ℕ) (name : List ℕ) (left : List (List ℕ)) → Left f (name ∷ left) → Left (f + 1) left
  later f name left h k m e = let z : f + suc k ≡ f + 1 + k = omega arith in subst (λ i. slice_get W.names i ≡ Some m) z (h (suc k) m e)

  here : (f : ℕ) (name : List ℕ) (left : List (List ℕ)) → Left f (name ∷ left) → get_or W.names f [] ≡ name
  here f name left h = let z : f + 0 ≡ f = omega arith in get_or_from_slice_get W.names f name [] (subst (λ i. slice_get W.names i ≡ Some name) z (h 0 name refl))

  are_functions : (f n : ℕ) (left : List (List ℕ)) (gs : List (FunctionT Where)) (texts : List (List ℕ)) → length left ≡ length gs → Left f left → AllOf (λ g. AreNodes x (length g.locals) [] g.body) gs → n + functions_labels gs < 2 ^ 32 - 1 →
      AreFunctions W.names left gs (functions_items W f n gs ++ literals_items 0 texts)
  are_functions f n [] [] texts same h ok few = literals_data 0 texts
  are_functions f n [] (g ∷ gs) texts same h ok few = absurd (omega (arith, same))
  are_functions f n (name ∷ left) [] texts same h ok few = absurd (omega (arith, same))
  are_functions f n (name ∷ left) (g ∷ gs) texts same h ok few =
      let m = n + 1 + labels g.body in
      let own = own_items W f n g.body in
      let rest = functions_items W (f + 1) m gs ++ literals_items 0 texts in
      let label : function_label W.names f ≡ label_of_function name = ap label_of_function (here f name left h) in (
        own,
        rest,
        append_assoc (function_items W f n g.body) (functions_items W (f + 1) m gs) (literals_items 0 texts) ∙ ap (λ l. item.Label l ∷ own ++ rest) label,
        are_items f n g ok.0 (omega (arith, few)),
        are_functions (f + 1) m left gs texts (omega (arith, same)) (later f name left h) ok.1 (omega (arith, few)),
      )

-- ---- numbers are words

size_small : (ns : List ℕ) (k : ℕ) → AreWords ns → get_or ns k 0 < 2 ^ 32
size_small [] k h = omega arith
size_small (n ∷ ns) zero h = h.0
size_small (n ∷ ns) (suc k) h = size_small ns k h.1

address_small : (p : ℕ) (ns : List ℕ) (k : ℕ) → p + sum ns < 2 ^ 32 → get_or (addresses p ns) k 0 < 2 ^ 32
address_small p [] k lt = omega arith
address_small p (n ∷ ns) zero lt = let s = sum_by-cons (λ x. x) n ns in omega (arith, lt, s)
address_small p (n ∷ ns) (suc k) lt = let s = sum_by-cons (λ x. x) n ns in address_small (p + n) ns k (omega (arith, lt, s))

-- ---- the whole program

pub is_emitted : (x : PlacedT) (names : List (List ℕ)) (items : List AsmItem) → IsPlaced x → CanBeEmitted x names → AreWords x.frames → TextsAreWords x.code.literals → items ≡ program_items (whole_of x names) x.code → IsEmitted x names items
is_emitted x names items placed can small texts e =
    let W = whole_of x names in
    let s = sound x names placed can in
    let less = program_size x.code W s.counts s.start s.each in
    let few = few_labels x names placed can in
    record {
      faultless = ap fault_of e ∙ no_fault x.code W s;
      readable = subst AreReadable (sym e) (program_readable x.code W can.words (λ k. address_small 0 x.code.globals k (let g = placed.code.globals in omega (arith, g))) (λ k. size_small x.frames k small) s.start s.each texts);
      agrees = λ words labels at. words_agree x names placed can words labels (subst (λ xs. asm.Placed xs words labels) e at);
      functions = (
        start_items W x.code.main x.code.start.body,
        functions_items W 0 (1 + labels x.code.start.body) x.code.functions ++ literals_items 0 x.code.literals,
        e,
        are_functions x.code W can.named 0 (1 + labels x.code.start.body) names x.code.functions x.code.literals can.named (λ k name q. let z : k ≡ 0 + k = omega arith in subst (λ i. slice_get names i ≡ Some name) z q) s.each (omega (arith, few)),
      );
      small = let t = ap total_size e in omega (arith, t, less);
    }
