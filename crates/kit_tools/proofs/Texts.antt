-- The words of an assembly text are those that are due of it.
use Rattle.std.proofs.Common.{ℕ, ◌≡◌, List, inl, inr, refl, sym, ap}
use Rattle.std.specs.Prelude.{Ok, Err}
use Rattle.asm_reader.specs.declared.error.AsmFault.{AsmFault}
use Rattle.assembler.specs.Texts.{AreWordsOf, IsTextRefusal}
use Rattle.kit_tools.specs.Converting.{no_assembly, text_words_due}

pub text_words : (name text words : List ℕ) → AreWordsOf text words → text_words_due name text ≡ Ok words
text_words name text words are = rw (are.reads, are.faultless) (ap Ok (sym are.words_are))

pub text_refused : (name text : List ℕ) (fault : AsmFault) → IsTextRefusal text fault → text_words_due name text ≡ Err (no_assembly name fault)
text_refused name text fault (inl e) = rw e refl
text_refused name text fault (inr h) = rw (h.1, h.2) refl
