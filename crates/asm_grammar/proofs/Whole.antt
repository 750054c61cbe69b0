-- Lines and texts, both ways.
use Rattle.std.proofs.Common.{◌≡◌, ℕ, ◌+◌, List, [], ◌∷◌, ◌++◌, length, refl, sym, ap, ◌∙◌, arith}
use Rattle.std.specs.Prelude.{◌↔◌, Result, Ok, Err}
use Rattle.std.specs.List.{AllZip, flat_map}
use Rattle.asm_items.specs.declared.item.AsmItem.{AsmItem}
use Rattle.asm_reader.specs.declared.error.AsmFault.{AsmFault}
use Rattle.asm_reader.specs.declared.fault.LineFault.{LineFault}
use Rattle.asm_reader.specs.Faults.{code_of}
use Rattle.asm_reader.specs.Lines.{line_items}
use Rattle.asm_reader.specs.Parted.{parted}
use Rattle.asm_reader.specs.Reading.{is_newline, Text, at_line, fault_at, read_from, read}
use Rattle.asm_reader.specs.Tokens.{tokens_of}
use Rattle.asm_reader.proofs.PartLaws.{lines_both_ways}
use Rattle.asm_grammar.specs.Refused.{HasFault, IsRefused}
use Rattle.asm_grammar.specs.Texts.{SpellsItems, IsText}
use Rattle.asm_grammar.proofs.Strays.{line_read as tokens_read, line_spelled}
use Rattle.asm_grammar.proofs.Lines.{line_is, line_read}
use Rattle.asm_grammar.proofs.Refused.{class_is, class_refused}

to_items : (line : List ℕ) (items : List AsmItem) → line_items (tokens_of line) ≡ Ok items → SpellsItems line items
to_items line items e = record { tokens = tokens_of line; spelled = line_spelled line; are = line_is (tokens_of line) items e }

of_items : (line : List ℕ) (items : List AsmItem) → SpellsItems line items → line_items (tokens_of line) ≡ Ok items
of_items line items s = ap line_items (tokens_read s.spelled) ∙ line_read s.tokens items s.are

pub lines_both : (line : List ℕ) (items : List AsmItem) → (line_items (tokens_of line) ≡ Ok items) ↔ SpellsItems line items
lines_both line items = (to_items line items, of_items line items)

record Parts (lines : List (List ℕ)) (items : List AsmItem) : Type 0 where
  parts : List (List AsmItem)
  each : AllZip SpellsItems lines parts
  whole : items ≡ flat_map (λ part. part) parts

text_is : {x y : List AsmItem} → (let r : Text = Ok x in r ≡ Ok y) → x ≡ y
text_is e = cc

step : (number : ℕ) (line : List ℕ) (lines : List (List ℕ)) (items : List AsmItem) (r : Result (List AsmItem) LineFault) (rest : Text) → line_items (tokens_of line) ≡ r
    → ((more : List AsmItem) → rest ≡ Ok more → Parts lines more) → at_line number r rest ≡ Ok items → Parts (line ∷ lines) items
step number line lines items (Ok xs) (Ok more) e others h =
    let p = others more refl in
    record { parts = xs ∷ p.parts; each = (to_items line xs e, p.each); whole = sym (text_is h) ∙ ap (λ (l : List AsmItem). xs ++ l) p.whole }
step number line lines items (Ok xs) (Err f) e others h = absurd cc
step number line lines items (Err f) rest e others h = absurd cc

to_parts : (number : ℕ) (lines : List (List ℕ)) (items : List AsmItem) → read_from number lines ≡ Ok items → Parts lines items
unfolding read_from
to_parts number [] items e = record { parts = []; each = tt; whole = sym (text_is e) }
to_parts number (line ∷ lines) items e =
    step number line lines items (line_items (tokens_of line)) (read_from (number + 1) lines) refl (λ more h. to_parts (number + 1) lines more h) e

of_parts : (number : ℕ) (lines : List (List ℕ)) (parts : List (List AsmItem)) → AllZip SpellsItems lines parts → read_from number lines ≡ Ok (flat_map (λ part. part) parts)
unfolding read_from
of_parts number [] [] h = refl
of_parts number [] (p ∷ ps) h = absurd h
of_parts number (line ∷ lines) [] h = absurd h
of_parts number (line ∷ lines) (p ∷ ps) h = rw (of_items line p h.0, of_parts (number + 1) lines ps h.1) refl

to_text : (bytes : List ℕ) (items : List AsmItem) → read bytes ≡ Ok items → IsText bytes items
unfolding read
to_text bytes items e =
    let p = to_parts 1 (parted is_newline bytes) items e in
    record { lines = parted is_newline bytes; parted = (lines_both_ways bytes (parted is_newline bytes)).0 refl; parts = p.parts; each = p.each; whole = p.whole }

of_text : (bytes : List ℕ) (items : List AsmItem) → IsText bytes items → read bytes ≡ Ok items
unfolding read
of_text bytes items x = ap (read_from 1) ((lines_both_ways bytes x.lines).1 x.parted) ∙ of_parts 1 x.lines x.parts x.each ∙ ap Ok (sym x.whole)

pub texts_both : (bytes : List ℕ) (items : List AsmItem) → (read bytes ≡ Ok items) ↔ IsText bytes items
texts_both bytes items = (to_text bytes items, of_text bytes items)

-- ---- refusals

to_fault : (line : List ℕ) (fault : LineFault) → line_items (tokens_of line) ≡ Err fault → HasFault line fault
to_fault line fault e = record { tokens = tokens_of line; spelled = line_spelled line; are = class_is (tokens_of line) fault e }

of_fault : (line : List ℕ) (fault : LineFault) → HasFault line fault → line_items (tokens_of line) ≡ Err fault
of_fault line fault h = ap line_items (tokens_read h.spelled) ∙ class_refused h.tokens fault h.are

pub faults_both : (line : List ℕ) (fault : LineFault) → (line_items (tokens_of line) ≡ Err fault) ↔ HasFault line fault
faults_both line fault = (to_fault line fault, of_fault line fault)

-- the first of these lines has that number
record Faulty (number : ℕ) (lines : List (List ℕ)) (refusal : AsmFault) : Type 0 where
  before : List (List ℕ)
  line : List ℕ
  after : List (List ℕ)
  whole : lines ≡ before ++ line ∷ after
  parts : List (List AsmItem)
  right : AllZip SpellsItems before parts
  counted : refusal.at ≡ length before + number
  fault : LineFault
  faulty : HasFault line fault
  class : refusal.code ≡ code_of fault

error_is : {x y : AsmFault} → (let r : Text = Err x in r ≡ Err y) → x ≡ y
error_is e = cc

refused_step : (number : ℕ) (line : List ℕ) (lines : List (List ℕ)) (refusal : AsmFault) (r : Result (List AsmItem) LineFault) (rest : Text) → line_items (tokens_of line) ≡ r
    → (rest ≡ Err refusal → Faulty (number + 1) lines refusal) → at_line number r rest ≡ Err refusal → Faulty number (line ∷ lines) refusal
refused_step number line lines refusal (Err f) rest e others h =
    let same = error_is h in
    record {
      before = [];
      line = line;
      after = lines;
      whole = refl;
      parts = [];
      right = tt;
      counted = let s : number ≡ refusal.at = ap (λ (p : AsmFault). p.at) same in omega (arith, s);
      fault = f;
      faulty = to_fault line f e;
      class = sym (ap (λ (p : AsmFault). p.code) same);
    }
refused_step number line lines refusal (Ok xs) (Ok more) e others h = absurd cc
refused_step number line lines refusal (Ok xs) (Err f) e others h =
    let o = others h in
    record {
      before = line ∷ o.before;
      line = o.line;
      after = o.after;
      whole = ap (λ (ls : List (List ℕ)). line ∷ ls) o.whole;
      parts = xs ∷ o.parts;
      right = (to_items line xs e, o.right);
      counted = let s = o.counted in omega (arith, s);
      fault = o.fault;
      faulty = o.faulty;
      class = o.class;
    }

to_faulty : (number : ℕ) (lines : List (List ℕ)) (refusal : AsmFault) → read_from number lines ≡ Err refusal → Faulty number lines refusal
unfolding read_from
to_faulty number [] refusal e = absurd cc
to_faulty number (line ∷ lines) refusal e =
    refused_step number line lines refusal (line_items (tokens_of line)) (read_from (number + 1) lines) refl (λ h. to_faulty (number + 1) lines refusal h) e

of_faulty : (number : ℕ) (before : List (List ℕ)) (line : List ℕ) (after : List (List ℕ)) (parts : List (List AsmItem)) (fault : LineFault) → AllZip SpellsItems before parts → HasFault line fault
    → read_from number (before ++ line ∷ after) ≡ Err (fault_at fault (length before + number))
unfolding read_from
of_faulty number [] line after parts fault right h =
    let one : read_from number (line ∷ after) ≡ Err (fault_at fault number) = rw (of_fault line fault h) refl in
    let n : number ≡ 0 + number = omega arith in
    one ∙ ap (λ (k : ℕ). let whole : Text = Err (fault_at fault k) in whole) n
of_faulty number (b ∷ bs) line after [] fault right h = absurd right
of_faulty number (b ∷ bs) line after (p ∷ ps) fault right h =
    let r = of_faulty (number + 1) bs line after ps fault right.1 h in
    let n : length bs + (number + 1) ≡ length (b ∷ bs) + number = omega arith in
    let one : read_from number (b ∷ (bs ++ line ∷ after)) ≡ Err (fault_at fault (length bs + (number + 1))) = rw (of_items b p right.0, r) refl in
    one ∙ ap (λ (k : ℕ). let whole : Text = Err (fault_at fault k) in whole) n

to_refused : (bytes : List ℕ) (refusal : AsmFault) → read bytes ≡ Err refusal → IsRefused bytes refusal
unfolding read
to_refused bytes refusal e =
    let f = to_faulty 1 (parted is_newline bytes) refusal e in
    record {
      before = f.before;
      line = f.line;
      after = f.after;
      parted = (lines_both_ways bytes (f.before ++ f.line ∷ f.after)).0 f.whole;
      parts = f.parts;
      right = f.right;
      number = f.counted;
      fault = f.fault;
      faulty = f.faulty;
      class = f.class;
    }

of_refused : (bytes : List ℕ) (refusal : AsmFault) → IsRefused bytes refusal → read bytes ≡ Err refusal
unfolding read
of_refused bytes refusal x =
    ap (read_from 1) ((lines_both_ways bytes (x.before ++ x.line ∷ x.after)).1 x.parted)
    ∙ of_faulty 1 x.before x.line x.after x.parts x.fault x.right x.faulty ∙ λ i. Err (record { code = sym x.class i; at = sym x.number i })

pub refusals_both : (bytes : List ℕ) (refusal : AsmFault) → (read bytes ≡ Err refusal) ↔ IsRefused bytes refusal
refusals_both bytes refusal = (to_refused bytes refusal, of_refused bytes refusal)
