-- The words of instructions: none begin those of another.
use Rattle.std.proofs.Common.{◌++◌, option_to_list, ◌<◌, ◌≡◌, ℕ, Option, Some, None, refl, sym, ◌∙◌, ap, arith, List}
use Rattle.v32_isa.specs.Fields.{word_of, AreFields}
use Rattle.v32_isa.specs.Table.{Fits, spelling, words_of, flag_of, Row, row_of}
use Rattle.v32_isa.specs.Decoding.{reads}
use Rattle.v32_isa.specs.declared.instruction.Instr.{Instr}
use Rattle.v32_isa.proofs.Opcodes.{table_fits}
use Rattle.v32_isa.proofs.ReadBack.{reads_again, row_same}

-- a word has one set of fields
pub one_fields : (o f a b m p o' f' a' b' m' p' : ℕ) → AreFields o f a b m p → AreFields o' f' a' b' m' p' →
    word_of o f a b m p ≡ word_of o' f' a' b' m' p' → (o ≡ o') × (f ≡ f') × (a ≡ a') × (b ≡ b') × (m ≡ m') × (p ≡ p')
one_fields o f a b m p o' f' a' b' m' p' h h' e = (omega arith, omega arith, omega arith, omega arith, omega arith, omega arith)

abbrev pub RowFields : Row → Type 0
RowFields r = AreFields r.opcode (flag_of r.immediate) r.one r.two r.mode r.port

flag_fits : (s : Option ℕ) → flag_of s < 2
flag_fits None = omega arith
flag_fits (Some i) = omega arith

pub row_fields : (i : Instr ℕ) → Fits i → RowFields (row_of i)
row_fields i h = record { opcode = (table_fits i).0; flag = flag_fits (row_of i).immediate; one = h.0; two = h.1; mode = (table_fits i).1; port = h.2 }

-- a flag and the words after it give the immediate
one_immediate : (s t : Option ℕ) (x y : List ℕ) → flag_of s ≡ flag_of t → option_to_list s ++ x ≡ option_to_list t ++ y → (s ≡ t) × (x ≡ y)
one_immediate None None x y e h = (refl, h)
one_immediate None (Some j) x y e h = absurd (omega arith)
one_immediate (Some i) None x y e h = absurd (omega arith)
one_immediate (Some i) (Some j) x y e h = (cc, cc)

-- the words of a row, and what may follow, give the row
pub one_row : (r s : Row) (x y : List ℕ) → RowFields r → RowFields s → words_of r ++ x ≡ words_of s ++ y → (r ≡ s) × (x ≡ y)
one_row r s x y h k e =
    let w : word_of r.opcode (flag_of r.immediate) r.one r.two r.mode r.port ≡ word_of s.opcode (flag_of s.immediate) s.one s.two s.mode s.port = cc in
    let u : option_to_list r.immediate ++ x ≡ option_to_list s.immediate ++ y = cc in
    let f = one_fields _ _ _ _ _ _ _ _ _ _ _ _ h k w in
    let t = one_immediate r.immediate s.immediate x y f.1 u in
    (row_same _ _ _ _ _ _ _ _ _ _ _ _ f.0 f.2 f.3 f.4 f.5 t.0, t.1)

-- no instruction's words begin another's
pub one_spelling : (i j : Instr ℕ) (x y : List ℕ) → Fits i → Fits j → spelling i ++ x ≡ spelling j ++ y → (i ≡ j) × (x ≡ y)
one_spelling i j x y h k e =
    let t = one_row (row_of i) (row_of j) x y (row_fields i h) (row_fields j k) e in
    let q : Some i ≡ Some j = sym (reads_again i) ∙ ap reads t.0 ∙ reads_again j in
    (cc, t.1)
