-- The labels of functions stand in their order, each before an instruction, and the map's rows rise with them.
use Rattle.std.proofs.Common.{◌≡◌, ℕ, ◌+◌, ◌≤◌, List, [], ◌∷◌, ◌++◌, map, refl, sym, ap, subst, ◌∙◌, append_assoc, arith}
use Rattle.std.specs.Prelude.{None}
use Rattle.std.specs.List.{AllByRecursion}
use Rattle.v32_isa.specs.declared.instruction.Instr.{Instr}
use Rattle.asm_items.specs.declared.item.AsmItem.{AsmItem}
use Rattle.asm_items.specs.declared.item.AsmItem.TheVariants.{Label, Op, Integer, Pointer}
use Rattle.asm_items.specs.Items.{Imm}
use Rattle.assembler.specs.Faults.{fault_of}
use Rattle.assembler.specs.Labels.{address_in}
use Rattle.assembler.specs.Placed.{item_size, Placed}
use Rattle.assembler.specs.Sizes.{total_size}
use Rattle.c_types.specs.Programs.{TFunctionT, ProgramT}
use Rattle.c_front.specs.declared.places.Places.{Places}
use Rattle.mid_code.specs.declared.placed.Where.{Where}
use Rattle.mid_code.specs.Code.{FunctionT}
use Rattle.asm_laws.specs.Labelled.{label_of_function}
use Rattle.asm_laws.proofs.Walked.{total_append, total_more, total_none}
use Rattle.asm_emit.specs.EmittedFrom.{HasInstruction, IsCode, AreFunctions}
use Rattle.project_text.specs.declared.map.Map.{Map}
use Rattle.c_image.specs.Imaging.{ImageT, IsImageOf, frame_sizes}
use Rattle.c_image.specs.Mapping.{frames_at}
use Rattle.c_image.specs.Ordered.{AreLabels, LabelsInOrder, IsOfInstruction, RowsRise}
use Rattle.c_image.proofs.Rising.{op_has_words, stands_at}

-- the labels in front of the first instruction, and what is behind it
record Begun (own : List AsmItem) : Type 0 where
  marks : List AsmItem
  i : Instr Imm
  rest : List AsmItem
  whole : own ≡ marks ++ Op i ∷ rest
  labels : AreLabels marks

begun : (own : List AsmItem) → AllByRecursion IsCode own → HasInstruction own → Begun own
begun [] code some = absurd some
begun (Label l ∷ own) code some =
    let b = begun own code.1 some in
    record { marks = Label l ∷ b.marks; i = b.i; rest = b.rest; whole = ap (λ items. Label l ∷ items) b.whole; labels = b.labels }
begun (Op i ∷ own) code some = record { marks = []; i = i; rest = own; whole = refl; labels = tt }
begun (Integer w ∷ own) code some = absurd code.0
begun (Pointer l ∷ own) code some = absurd code.0

module _ (names : List (List ℕ)) where
  pub in_order : (left : List (List ℕ)) (gs : List (FunctionT Where)) (front items : List AsmItem) → AreFunctions names left gs items → LabelsInOrder left (front ++ items)
  in_order [] gs front items h = tt
  in_order (name ∷ left) [] front items h = absurd h
  in_order (name ∷ left) (g ∷ gs) front items h =
      let label = Label (label_of_function name) in
      let b = begun h.0 h.3.code h.3.some in
      let own : items ≡ label ∷ (b.marks ++ Op b.i ∷ (b.rest ++ h.1)) = h.2 ∙ ap (λ own. label ∷ (own ++ h.1)) b.whole ∙ ap (λ is. label ∷ is) (append_assoc b.marks (Op b.i ∷ b.rest) h.1) in
      (front, b.marks, b.rest ++ h.1, b.i, ap (λ is. front ++ is) own, b.labels, in_order left gs b.rest h.1 h.4)

-- ---- the rows of a map

label_more : (l : List ℕ) (items : List AsmItem) → total_size (Label l ∷ items) ≡ total_size items
label_more l items =
    let none : item_size (Label l) ≡ 0 = refl in
    let more = total_more (Label l) items in
    omega (arith, none, more)

labels_size : (marks : List AsmItem) → AreLabels marks → total_size marks ≡ 0
labels_size [] h = total_none
labels_size (Label l ∷ marks) h = label_more l marks ∙ labels_size marks h
labels_size (Op i ∷ marks) h = absurd h
labels_size (Integer w ∷ marks) h = absurd h
labels_size (Pointer l ∷ marks) h = absurd h

module _ (items : List AsmItem) (words : List ℕ) (labels : List (List ℕ × ℕ)) (faultless : fault_of items ≡ None) (placed : Placed items words labels) where
  pub rows_rise : (fs : List TFunctionT) (sizes : List ℕ) (before rest : List AsmItem) (least : ℕ) → items ≡ before ++ rest → LabelsInOrder (map (λ f. f.name) fs) rest → least ≤ 0x20000000 + total_size before
      → RowsRise items least (frames_at (address_in labels) fs sizes)
  rows_rise [] sizes before rest least e h from = tt
  rows_rise (f ∷ fs) [] before rest least e h from = tt
  rows_rise (f ∷ fs) (size ∷ sizes) before rest least e h from =
      let name = label_of_function f.name in
      let front = before ++ h.0 in
      let marked = Label name ∷ h.1 in
      let whole : items ≡ front ++ (marked ++ Op h.3 ∷ h.2) = e ∙ ap (λ is. before ++ is) h.4 ∙ sym (append_assoc before h.0 (marked ++ Op h.3 ∷ h.2)) in
      let there : items ≡ (front ++ marked) ++ Op h.3 ∷ h.2 = whole ∙ sym (append_assoc front marked (Op h.3 ∷ h.2)) in
      let next : items ≡ ((front ++ marked) ++ Op h.3 ∷ []) ++ h.2 = there ∙ sym (append_assoc (front ++ marked) (Op h.3 ∷ []) h.2) in
      let at : address_in labels name ≡ 0x20000000 + total_size front = stands_at items words labels faultless placed front (h.1 ++ Op h.3 ∷ h.2) name whole in
      let sum = total_append before h.0 in
      let none : total_size marked ≡ 0 = label_more name h.1 ∙ labels_size h.1 h.5 in
      let upto = total_append front marked in
      let past = total_append (front ++ marked) (Op h.3 ∷ []) in
      let one = total_more (Op h.3) [] in
      let some = op_has_words (Op h.3) tt in (
        omega (arith, from, at, sum),
        (front ++ marked, h.2, h.3, there, omega (arith, at, upto, none)),
        rows_rise fs sizes ((front ++ marked) ++ Op h.3 ∷ []) h.2 (address_in labels name + 1) next h.6 (omega (arith, at, upto, none, past, one, some)),
      )

pub image_rows : (p : ProgramT) (places : Places) (starts : List ℕ) (i : ImageT) → IsImageOf p places starts i → RowsRise i.items 0x20000000 i.map.frames
image_rows p places starts i of =
    let least : 0x20000000 ≤ 0x20000000 + total_size [] = omega arith in
    subst (λ (m : Map). RowsRise i.items 0x20000000 m.frames) (sym of.map_is) (rows_rise i.items i.words of.labels of.faultless of.words p.functions (frame_sizes i.map) [] i.items 0x20000000 refl of.ordered least)
