-- The written form of the items of what was packed reads as them.
use Rattle.std.proofs.Common.{ℕ, List, sym, ap, ◌∙◌}
use Rattle.std.specs.Prelude.{Ok}
use Rattle.asm_items.specs.Written.{written}
use Rattle.asm_reader.specs.Reading.{read}
use Rattle.c_types.specs.Programs.{ProgramT}
use Rattle.c_front.specs.declared.places.Places.{Places}
use Rattle.c_image.specs.Imaging.{ImageT, IsImageOf}
use Rattle.build_core.specs.declared.building.Built.{Built}
use Rattle.build_core.specs.Due.{Assets}
use Rattle.build_core.specs.Build.{IsAsmText}
use Rattle.build_core.specs.inner.Packing.{IsPackedFrom}

module _ (p : ProgramT) (places : Places) (starts : List ℕ) (i : ImageT) (of : IsImageOf p places starts i) (title : List ℕ) (a : Assets) (tokens : ℕ) where
  pub text_reads : (b : Built) → IsPackedFrom title i a tokens b → IsAsmText b
  text_reads b h = (let e = h.items_are in λ i. read (written (e i))) ∙ of.reads ∙ ap Ok (sym h.items_are)
