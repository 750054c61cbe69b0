-- A loop over the lines of a text.
use Rattle.std.proofs.Common.{◌≡◌, ℕ, ◌+◌, List, [], ◌∷◌, ◌++◌, refl, sym, ap, ◌∙◌, append_assoc, append-nil}
use Rattle.std.specs.Prelude.{Result, Ok, Err}
use Rattle.asm_items.specs.declared.item.AsmItem.{AsmItem}
use Rattle.asm_reader.specs.declared.fault.LineFault.{LineFault}
use Rattle.asm_reader.specs.Faults.{onto}
use Rattle.asm_reader.specs.Lines.{line_items}
use Rattle.asm_reader.specs.Tokens.{tokens_of}
use Rattle.asm_reader.specs.Reading.{Text, before_items, at_line, read_from, read, fault_at, is_newline}
use Rattle.asm_reader.specs.Parted.{parted}

pub none_before : (r : Text) → before_items [] r ≡ r
none_before (Ok xs) = refl
none_before (Err f) = refl

behind : (done xs : List AsmItem) (r : Text) → before_items done (before_items xs r) ≡ before_items (done ++ xs) r
behind done xs (Ok more) = ap Ok (sym (append_assoc done xs more))
behind done xs (Err f) = refl

put : (done new : List AsmItem) (number : ℕ) (due : Result (List AsmItem) LineFault) (rest : Text) → onto done due ≡ Ok new → before_items done (at_line number due rest) ≡ before_items new rest
put done new number (Ok xs) rest is = let e : done ++ xs ≡ new = cc in behind done xs rest ∙ ap (λ (ys : List AsmItem). before_items ys rest) e
put done new number (Err f) rest is = absurd cc

pub start : (done : List AsmItem) (bytes : List ℕ) → done ≡ [] → before_items done (read_from 1 (parted is_newline bytes)) ≡ read bytes
unfolding read
start done bytes none = ap (λ (xs : List AsmItem). before_items xs (read_from 1 (parted is_newline bytes))) none ∙ none_before (read bytes)

module _ (done : List AsmItem) (number : ℕ) (lines : List (List ℕ)) (line : List ℕ) (others : List (List ℕ)) (total : Text) (whole : lines ≡ line ∷ others) (so_far : before_items done (read_from number lines) ≡ total) where
  of_line : before_items done (at_line number (line_items (tokens_of line)) (read_from (number + 1) others)) ≡ total
  unfolding read_from
  of_line = ap (λ (ls : List (List ℕ)). before_items done (read_from number ls)) (sym whole) ∙ so_far

  pub turn : (new : List AsmItem) → onto done (line_items (tokens_of line)) ≡ Ok new → before_items new (read_from (number + 1) others) ≡ total
  turn new is = sym (put done new number (line_items (tokens_of line)) (read_from (number + 1) others) is) ∙ of_line

  pub refused : (f : LineFault) → line_items (tokens_of line) ≡ Err f → total ≡ Err (fault_at f number)
  refused f is = sym of_line ∙ ap (λ (r : Result (List AsmItem) LineFault). before_items done (at_line number r (read_from (number + 1) others))) is

pub ended : (done : List AsmItem) (number : ℕ) (total : Text) → before_items done (read_from number []) ≡ total → total ≡ Ok done
unfolding read_from
ended done number total so_far = sym so_far ∙ ap Ok (append-nil done)
