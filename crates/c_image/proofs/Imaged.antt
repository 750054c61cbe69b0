-- The image of a program from what was compiled of it and the words of that.
use Rattle.std.proofs.Common.{◌≡◌, ℕ, ◌+◌, ◌≤◌, true, List, [], ◌∷◌, ◌++◌, length, map, refl, sym, ap, subst, subst₂, ◌∙◌, arith, leb, slice_get}
use Rattle.std.specs.Prelude.{Ok}
use Rattle.std.specs.List.{list_all}
use Rattle.std.specs.Str.{is_utf8}
use Rattle.std.proofs.lemmas.Bool.{and_from, le-leb}
use Rattle.std.proofs.lemmas.List.{length-map}
use Rattle.asm_items.specs.declared.item.AsmItem.{AsmItem}
use Rattle.asm_items.specs.Written.{written}
use Rattle.asm_reader.specs.Reading.{read}
use Rattle.assembler.specs.Labels.{address_in}
use Rattle.assembler.specs.Placed.{Placed}
use Rattle.c_check.specs.Whole.{is_plain}
use Rattle.c_facts.specs.Sound.{IsSound}
use Rattle.c_rules.specs.Kinds.{holds}
use Rattle.c_front.specs.Places.{Place, place_at}
use Rattle.c_front.specs.declared.places.Places.{Places}
use Rattle.c_types.specs.Programs.{TFunctionT, ProgramT}
use Rattle.c_meaning.specs.Setting.{setting}
use Rattle.c_meaning.specs.Runs.{c_runs}
use Rattle.cart_format.specs.declared.row.LineTable.{LineTable}
use Rattle.cart_format.specs.Table.{is_table, are_rows}
use Rattle.mid_code.specs.declared.placed.Where.{Where}
use Rattle.mid_code.specs.Agrees.{AgreesWithin}
use Rattle.mid_code.specs.Code.{FunctionT}
use Rattle.mid_code.specs.Keeps.{KeepsRuns}
use Rattle.mid_code.specs.Runs.{mid_runs}
use Rattle.project_text.specs.declared.map.Map.{Map}
use Rattle.reg_frames.specs.PlacedFrom.{FramesFit}
use Rattle.asm_laws.specs.Tables.{addresses}
use Rattle.asm_emit.specs.EmittedFrom.{AreFunctions}
use Rattle.pass_laws.specs.Meeting.{DoesAsMeant}
use Rattle.c_compile.specs.Compiling.{CompiledT, IsCompiled, names_of}
use Rattle.c_image.specs.Mapping.{map_of}
use Rattle.c_image.specs.Ordered.{LabelsInOrder}
use Rattle.c_image.specs.Lines.{files_behind, rows_of, table_of}
use Rattle.c_image.specs.Imaging.{AreStarts, IsImageOf, frame_sizes, global_addresses}
use Rattle.c_image.specs.MidImages.{IsMidOf}
use Rattle.c_image.proofs.LoopFree.{numbered}
use Rattle.c_image.proofs.Files.{few_files, all_texts, texts_at, lines_at, told_behind}
use Rattle.c_image.proofs.Mapped.{sizes_are, addresses_are}
use Rattle.c_image.proofs.Named.{names_are}
use Rattle.c_image.proofs.Ordered.{in_order}
use Rattle.c_image.proofs.Rising.{rise, some_words}

few_rows : (address : List ℕ → ℕ) (files : List (List ℕ)) (fs : List TFunctionT) (os : List Place) → length (rows_of address files fs os) ≤ length os
few_rows address files [] os = omega arith
few_rows address files (f ∷ fs) [] = omega arith
few_rows address files (f ∷ fs) (o ∷ os) = let r = few_rows address files fs os in omega (arith, r)

table_from : (words : ℕ) (t : LineTable) → length t.files ≤ 40000 → length t.rows ≤ 40000 → list_all is_utf8 t.files ≡ true → are_rows (length t.files) 0x20000000 (0x20000000 + words) t.rows ≡ true → is_table words t ≡ true
unfolding is_table
table_from words t files rows texts rise =
    and_from (leb (length t.files) 40000) _ (le-leb (length t.files) 40000 files) (and_from (leb (length t.rows) 40000) _ (le-leb (length t.rows) 40000 rows) (and_from (list_all is_utf8 t.files) _ texts rise))

module _ (p : ProgramT) (places : Places) (starts : List ℕ) (c : CompiledT) (words : List ℕ) (labels : List (List ℕ × ℕ))
    (compiled : IsCompiled p c) (begin : AreStarts p places starts) (sound : IsSound p) (placed : Placed c.items words labels) where
  abbrev os : List Place
  os = map (place_at places) starts

  same_count : length os ≡ length starts
  same_count = length-map starts (place_at places)

  few : length os ≤ 33333
  few = subst (λ n. n ≤ 33333) (sym same_count) begin.few

  table_holds : is_table (length words) (table_of (address_in labels) p.functions os) ≡ true
  table_holds =
      let f = compiled.emitted.functions in
      let files = few_files os [] in
      let rows = few_rows (address_in labels) (files_behind [] os) p.functions os in
      table_from (length words) (table_of (address_in labels) p.functions os)
      (omega (arith, files, few))
      (omega (arith, rows, few))
      (all_texts os [] refl (texts_at places begin.source begin.texts begin.lines starts))
      (rise c.items words labels compiled.emitted.faultless placed (names_of p) (files_behind [] os) p.functions c.placed.code.functions os f.0 f.1 0x20000000 f.2 f.3 (omega arith) (names_are p p.functions sound.functions)
      (told_behind os [] (lines_at places begin.source begin.texts begin.lines starts)))

  has_main : (fs : List TFunctionT) (gs : List (FunctionT Where)) → fs ≡ p.functions → holds is_plain (slice_get fs p.main) ≡ true → (start rest : List AsmItem) → c.items ≡ start ++ rest
      → AreFunctions (names_of p) (map (λ f. f.name) fs) gs rest → 1 ≤ length words
  has_main [] gs e h start rest whole are = absurd cc
  has_main (f ∷ fs) gs e h start rest whole are = some_words c.items words labels compiled.emitted.faultless placed (names_of p) [] f fs gs start rest whole are

  some : 1 ≤ length words
  some = let f = compiled.emitted.functions in has_main p.functions c.placed.code.functions refl sound.main f.0 f.1 f.2 f.3

  module _ (m : Map) (map_is : m ≡ map_of p c.placed.frames (length words) (address_in labels)) where
    frames_are : frame_sizes m ≡ c.placed.frames
    frames_are = ap frame_sizes map_is ∙ sizes_are (address_in labels) (setting p []) p.functions c.placed.frames (compiled.meaning.does words labels placed).fits

    globals_are : global_addresses m ≡ addresses 0 (map (λ g. g.1) p.globals)
    globals_are = ap global_addresses map_is ∙ addresses_are p.globals 0 (let total = sound.globals in omega (arith, total))

    pub is_image : (table : LineTable) → read (written c.items) ≡ Ok c.items → table ≡ table_of (address_in labels) p.functions os → length words ≤ 33554432
        → IsImageOf p places starts (record { words = words; map = m; items = c.items; table = table })
    is_image table reads table_is short = record {
      reads = reads;
      faultless = compiled.emitted.faultless;
      readable = compiled.emitted.readable;
      labels = labels;
      words = placed;
      ordered = let f = compiled.emitted.functions in subst (λ (is : List AsmItem). LabelsInOrder (names_of p) is) (sym f.2) (in_order (names_of p) (names_of p) c.placed.code.functions f.0 f.1 f.3);
      numbered = let f = compiled.emitted.functions in numbered p c.items compiled.emitted.faultless (names_of p) f.0 f.1 c.placed.code.functions f.2 refl f.3 compiled.straight;
      map_is = map_is ∙ ap (λ sizes. map_of p sizes (length words) (address_in labels)) (sym frames_are);
      table_is = table_is;
      does = subst₂ (λ at sizes. DoesAsMeant p sizes at words) (sym globals_are) (sym frames_are) (compiled.meaning.does words labels placed);
      some = some;
      few = short;
      is_table = subst (λ t. is_table (length words) t ≡ true) (sym table_is) table_holds;
    }

    pub is_mid : (table : LineTable) → IsMidOf p (record { words = words; map = m; items = c.items; table = table }) c.mid c.choices
    is_mid table = record {
      keeps = subst (λ sizes. KeepsRuns (c_runs p sizes) (mid_runs c.mid sizes)) (sym frames_are) compiled.meaning.keeps;
      promoted = compiled.promoted;
      settled = compiled.settled;
      follows = subst₂ (λ at sizes. AgreesWithin 1 at (mid_runs c.mid sizes) words) (sym globals_are) (sym frames_are) (compiled.meaning.follows words labels placed);
      safe = compiled.safe;
      spares = compiled.spares;
      frames = subst (λ sizes. FramesFit c.mid c.choices sizes) (sym frames_are) compiled.placed.frames;
    }
