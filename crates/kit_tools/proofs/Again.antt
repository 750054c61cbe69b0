-- The text of a words file is assembled to that file again.
use Rattle.std.proofs.Common.{ℕ, ◌≡◌, ◌<◌, ◌≤◌, ◌^◌, length, List, [], ◌∷◌, All, refl, sym, ap, subst, ◌∙◌}
use Rattle.std.specs.Prelude.{Result, Ok, Err, None}
use Rattle.std.specs.List.{AllByRecursion}
use Rattle.std.proofs.lemmas.List.Elements.{All-nil, All-cons}
use Rattle.kit_base.specs.Held.{Held}
use Rattle.asset_pack.specs.declared.kind.Kind.TheVariants as kinds
use Rattle.asset_pack.specs.declared.error.AssetFault.{AssetFault}
use Rattle.asset_pack.specs.Reading.{words_in}
use Rattle.asset_pack.specs.Texts.{words_file_text}
use Rattle.asset_pack.specs.Words.{IsBytes, AreWords}
use Rattle.asset_pack.proofs.Found.{program_found}
use Rattle.asm_items.specs.declared.item.AsmItem.{AsmItem}
use Rattle.asm_items.specs.Disassembled.{disassembled}
use Rattle.asm_items.specs.Words.{words_of_items}
use Rattle.asm_items.specs.Written.{written}
use Rattle.asm_reader.specs.Reading.{read}
use Rattle.assembler.specs.Faults.{fault_of}
use Rattle.assembler.specs.Labels.{address_in}
use Rattle.assembler.specs.Placed.{labels_of, Placed}
use Rattle.assembler.proofs.ReadingAgain.{reads_again, assembles_again}
use Rattle.kit_tools.specs.Refusal.{Refusal}
use Rattle.kit_tools.specs.Inputs.{◌>>=◌, or_refused, bytes_due}
use Rattle.kit_tools.specs.Converting.{no_words, text_words_due, assembled_due, disassembled_due}

each_word : (ws : List ℕ) → AreWords ws → All (λ w. w < 2 ^ 32) ws
each_word [] h = All-nil (λ w. w < 2 ^ 32)
each_word (w ∷ ws) h = All-cons (λ w. w < 2 ^ 32) w ws h.0 (each_word ws h.1)

-- the words of a file whose text is due
listed : (words : List ℕ) (r : Result (List ℕ) AssetFault) (listing : List ℕ) → (or_refused (no_words words) r >>= λ ws. Ok (written (disassembled ws))) ≡ Ok listing
    → (ws : List ℕ) × (r ≡ Ok ws) × (listing ≡ written (disassembled ws))
listed words (Ok ws) listing h = (ws, refl, cc)
listed words (Err e) listing h = absurd cc

-- the words file of what a text reads as
abbrev made_of : List ℕ → List ℕ → Result (List ℕ) Refusal
made_of text bytes = do
  words ← text_words_due text bytes
  Ok (words_file_text words)

made : (text ws : List ℕ) → All (λ w. w < 2 ^ 32) ws → length ws ≤ 33554432 → made_of text (written (disassembled ws)) ≡ Ok (words_file_text ws)
made text ws small few =
    let a = assembles_again ws (disassembled ws) small few (reads_again ws small) in
    rw (reads_again ws small, a.0) (ap (λ us. Ok (words_file_text us)) (sym a.1.words_are))

pub assembled_again : (words text : List ℕ) (before after : Held) (bytes listing : List ℕ) → IsBytes bytes → bytes_due words before ≡ Ok bytes → disassembled_due words before ≡ Ok listing
    → bytes_due text after ≡ Ok listing → assembled_due text after ≡ Ok bytes
assembled_again words text before after bytes listing fits read made_so found =
    let from : (or_refused (no_words words) (words_in kinds.Words bytes) >>= λ ws. Ok (written (disassembled ws))) ≡ Ok listing =
    sym (ap (λ r. r >>= λ b. or_refused (no_words words) (words_in kinds.Words b) >>= λ ws. Ok (written (disassembled ws))) read) ∙ made_so in
    let l = listed words (words_in kinds.Words bytes) listing from in
    let p = program_found bytes l.0 fits l.1 in
    let first : assembled_due text after ≡ made_of text listing = ap (λ r. r >>= made_of text) found in
    first ∙ ap (made_of text) l.2 ∙ made text l.0 (each_word l.0 p.0.1) p.0.0 ∙ ap Ok (sym p.1)
