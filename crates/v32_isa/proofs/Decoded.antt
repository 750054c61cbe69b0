-- Decoding is the inverse of the table.
use Rattle.std.proofs.Common.{zero, suc, ◌++◌, option_to_list, ◌<◌, ◌^◌, ◌≡◌, ℕ, ◌==◌, Bool, true, false, cond, Option, Some, None, sym, ◌∙◌, ap, subst, arith, List, [], ◌∷◌}
use Rattle.v32_isa.specs.Fields.{word_of, AreFields}
use Rattle.v32_isa.specs.Table.{Fits, Begins, spelling, words_of, flag_of, Row, row, row_of}
use Rattle.v32_isa.specs.Decoding.{reads, read_of, decoded}
use Rattle.v32_isa.specs.declared.instruction.Instr.{Instr}
use Rattle.std.proofs.Common.{IfSome, IfNone, ◌/◌, ◌%◌}
use Rattle.std.specs.Prelude.{option_and_then}
use Rattle.v32_isa.proofs.Opcodes.{table_fits}
use Rattle.v32_isa.proofs.ReadBack.{reads_again, reads_found}
use Rattle.v32_isa.proofs.Spellings.{RowFields, row_fields, one_fields}

begins_row : (i : Instr ℕ) (r : Row) (rest : List ℕ) → RowFields r → row_of i ≡ r → Begins i (words_of r ++ rest)
begins_row i r rest h e =
    ((omega (arith, ap (λ (s : Row). s.one) e, h.one), omega (arith, ap (λ (s : Row). s.two) e, h.two), omega (arith, ap (λ (s : Row). s.port) e, h.port)), (rest, ap (λ (s : Row). words_of s ++ rest) (sym e)))

none_some : {X P : Type 0} (x : X) → None ≡ Some x → P
none_some x e = cc

-- what is read of a word's fields has these words
read_found : (i : Instr ℕ) (o f a b m p : ℕ) (second : Option ℕ) → AreFields o f a b m p →
    read_of o f a b m p second ≡ Some i → Begins i (word_of o f a b m p ∷ option_to_list second)
unfolding read_of
read_found i o zero a b m p second h e = begins_row i (row o a b m p None) (option_to_list second) h (reads_found _ i e)
read_found i o (suc zero) a b m p None h e = none_some i e
read_found i o (suc zero) a b m p (Some j) h e = begins_row i (row o a b m p (Some j)) [] h (reads_found _ i e)
read_found i o (suc (suc f)) a b m p second h e = absurd (omega arith)

read_row : (o a b m p : ℕ) (s second : Option ℕ) (rest : List ℕ) (i : Instr ℕ) → reads (row o a b m p s) ≡ Some i →
    option_to_list second ≡ option_to_list s ++ rest → read_of o (flag_of s) a b m p second ≡ Some i
unfolding read_of
read_row o a b m p None second rest i e h = e
read_row o a b m p (Some j) None rest i e h = absurd cc
read_row o a b m p (Some j) (Some k) rest i e h = let q : k ≡ j = cc in rw q e

-- the fields of the words that an instruction's words begin are read as that instruction
read_only : (i : Instr ℕ) (o f a b m p : ℕ) (second : Option ℕ) → AreFields o f a b m p →
    Begins i (word_of o f a b m p ∷ option_to_list second) → read_of o f a b m p second ≡ Some i
read_only i o f a b m p second h e =
    let rest : List ℕ = e.1.0 in
    let w : word_of o f a b m p ≡ word_of (row_of i).opcode (flag_of (row_of i).immediate) (row_of i).one (row_of i).two (row_of i).mode (row_of i).port = cc (e.1.1) in
    let u : option_to_list second ≡ option_to_list (row_of i).immediate ++ rest = cc (e.1.1) in
    let g = one_fields _ _ _ _ _ _ _ _ _ _ _ _ h (row_fields i e.0) w in
    rw (g.0, g.1, g.2, g.3, g.4, g.5) (read_row _ _ _ _ _ (row_of i).immediate second rest i (reads_again i) u)

-- the opcode of what is read is in the table
row_opcode : (i : Instr ℕ) (o a b m p : ℕ) (s : Option ℕ) → reads (row o a b m p s) ≡ Some i → o < 64
row_opcode i o a b m p s e =
    let h : (row_of i).opcode ≡ o = ap (λ (r : Row). r.opcode) (reads_found _ i e) in omega (arith, (table_fits i).0)

choice_opcode : (flagless : Bool) (i : Instr ℕ) (o a b m p : ℕ) (second : Option ℕ) →
    cond flagless (reads (row o a b m p None)) (option_and_then (λ w. reads (row o a b m p (Some w))) second) ≡ Some i → o < 64
choice_opcode true i o a b m p second e = row_opcode i o a b m p None e
choice_opcode false i o a b m p None e = none_some i e
choice_opcode false i o a b m p (Some w) e = row_opcode i o a b m p (Some w) e

read_opcode : (i : Instr ℕ) (o f a b m p : ℕ) (second : Option ℕ) → read_of o f a b m p second ≡ Some i → o < 64
unfolding read_of
read_opcode i o f a b m p second e = choice_opcode (f == 0) i o a b m p second e

-- the parts of a number whose top part is an opcode
parts_of : (w : ℕ) → word_of (w / 2 ^ 26) (w / 2 ^ 25 % 2) (w / 2 ^ 21 % 16) (w / 2 ^ 17 % 16) (w / 2 ^ 14 % 8) (w % 2 ^ 14) ≡ w
parts_of w = omega arith

parts_fit : (w : ℕ) → w / 2 ^ 26 < 64 → AreFields (w / 2 ^ 26) (w / 2 ^ 25 % 2) (w / 2 ^ 21 % 16) (w / 2 ^ 17 % 16) (w / 2 ^ 14 % 8) (w % 2 ^ 14)
parts_fit w h = record { opcode = h; flag = omega arith; one = omega arith; two = omega arith; mode = omega arith; port = omega arith }

pub decoded-begins : (first : ℕ) (second : Option ℕ) (i : Instr ℕ) → decoded first second ≡ Some i → Begins i (first ∷ option_to_list second)
unfolding decoded
decoded-begins first second i e =
    let P : ℕ → Type 0 = λ w. Begins i (w ∷ option_to_list second) in
    subst P (parts_of first) (read_found i _ _ _ _ _ _ second (parts_fit first (read_opcode i _ _ _ _ _ _ second e)) e)

begun_opcode : (first : ℕ) (rest words : List ℕ) (i : Instr ℕ) → Fits i → first ∷ rest ≡ spelling i ++ words → first / 2 ^ 26 < 64
begun_opcode first rest words i h e =
    let w : first ≡ word_of (row_of i).opcode (flag_of (row_of i).immediate) (row_of i).one (row_of i).two (row_of i).mode (row_of i).port = cc in
    omega (arith, row_fields i h)

pub begins-decoded : (first : ℕ) (second : Option ℕ) (i : Instr ℕ) → Begins i (first ∷ option_to_list second) → decoded first second ≡ Some i
unfolding decoded
begins-decoded first second i b =
    let P : ℕ → Type 0 = λ w. Begins i (w ∷ option_to_list second) in
    read_only i _ _ _ _ _ _ second (parts_fit first (begun_opcode first _ b.1.0 i b.0 b.1.1)) (subst P (sym (parts_of first)) b)

pub found_begins : (first : ℕ) (second : Option ℕ) (r : Option (Instr ℕ)) → r ≡ decoded first second → IfSome r (λ i. Begins i (first ∷ option_to_list second))
found_begins first second None e = tt
found_begins first second (Some i) e = decoded-begins first second i (sym e)

pub none_begins : (first : ℕ) (second : Option ℕ) (r : Option (Instr ℕ)) → r ≡ decoded first second → IfNone r ((i : Instr ℕ) → ¬ Begins i (first ∷ option_to_list second))
none_begins first second None e = λ i b. none_some i (e ∙ begins-decoded first second i b)
none_begins first second (Some i) e = tt
