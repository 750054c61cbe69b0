-- Texts between quotes are read as those of C are, so their grammar is the same.
use Rattle.std.proofs.Common.{◌≡◌, ℕ, List, refl, ap, ◌∙◌}
use Rattle.std.specs.Prelude.{◌↔◌, Some}
use Rattle.quoted_text.specs.declared.quoted.Within.TheVariants.{Plain}
use Rattle.quoted_text.specs.Quoted.{quoted_at}
use Rattle.c_lex.proofs.Contents.{content_read, read_inside}
use Rattle.asm_grammar.specs.Spelled.{IsQuotedBy}

pub quoted_is : (bytes content after : List ℕ) → quoted_at 34 Plain bytes ≡ Some (content, after) → IsQuotedBy bytes content after
quoted_is bytes content after e = let r = read_inside 34 bytes content after e in record { inner = r.text; whole = r.whole; spelled = r.spelled }

pub quoted_read : (bytes content after : List ℕ) → IsQuotedBy bytes content after → quoted_at 34 Plain bytes ≡ Some (content, after)
quoted_read bytes content after q = ap (quoted_at 34 Plain) q.whole ∙ content_read q.spelled after refl

pub quoted_both_ways : (bytes content after : List ℕ) → (quoted_at 34 Plain bytes ≡ Some (content, after)) ↔ IsQuotedBy bytes content after
quoted_both_ways bytes content after = (quoted_is bytes content after, quoted_read bytes content after)
