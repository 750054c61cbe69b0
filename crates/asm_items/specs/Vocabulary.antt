-- The words of assembly text (the assembly guide, sections on labels, on the instructions, on the registers and on data).
use Rattle.std.specs.Prelude.{ℕ, List, [], ◌∷◌, ◌++◌, ◌==◌, ◌||◌, ◌&&◌, Bool, true, false, Option, Some, None, map, codes, if◌then◌else◌}
use Rattle.std.specs.Char.{is_ascii_alphabetic, is_ascii_digit, to_ascii_lowercase}
use Rattle.std.specs.List.{list_all}
use Rattle.std.specs.Str.{bytes_eq}
use Rattle.std.specs.Borrow.{Bor}
use Rattle.v32_isa.specs.declared.instruction.Plain.TheVariants.{HLT, WAIT, RET, MOVS, SETS}
use Rattle.v32_isa.specs.declared.instruction.Go.TheVariants.{JMP, CALL}
use Rattle.v32_isa.specs.declared.instruction.Branch.TheVariants.{JT, JF}
use Rattle.v32_isa.specs.declared.instruction.Two.TheVariants.{IEQ, INE, IGT, IGE, ILT, ILE, AND, OR, XOR, SHL, IADD, ISUB, IMUL, IDIV, IMOD, IMIN, IMAX}
use Rattle.v32_isa.specs.declared.instruction.One.TheVariants.{PUSH, POP, CMPS, CIB, NOT, BNOT, ISGN, IABS}
use Rattle.v32_isa.specs.Ports.{PortEntry, port_named}
use Rattle.asm_items.specs.declared.vocabulary.Operation.{Operation}
use Rattle.asm_items.specs.declared.vocabulary.Operation.TheVariants as o
use Rattle.asm_items.specs.declared.vocabulary.DataWord.TheVariants as d
use Rattle.asm_items.specs.declared.vocabulary.WordKind.{WordKind}
use Rattle.asm_items.specs.declared.vocabulary.WordKind.TheVariants as w
use Rattle.asm_items.specs.Mnemonics.{operation_name}

-- a word is a letter or `_`, then letters, digits and `_`
abbrev pub is_letter : ℕ → Bool
is_letter b = is_ascii_alphabetic b || (b == 95)

abbrev pub is_word_byte : ℕ → Bool
is_word_byte b = is_letter b || is_ascii_digit b

abbrev pub is_word : List ℕ → Bool
is_word [] = false
is_word (b ∷ bs) = is_letter b && list_all is_word_byte bs

abbrev pub operations : List Operation
operations =
    o.Two IEQ ∷
    o.Two INE ∷
    o.Two IGT ∷
    o.Two IGE ∷
    o.Two ILT ∷
    o.Two ILE ∷
    o.Two AND ∷
    o.Two OR ∷
    o.Two XOR ∷
    o.Two SHL ∷
    o.Two IADD ∷
    o.Two ISUB ∷
    o.Two IMUL ∷
    o.Two IDIV ∷
    o.Two IMOD ∷
    o.Two IMIN ∷
    o.Two IMAX ∷
    o.Mov ∷
    o.Lea ∷
    o.In ∷
    o.Out ∷
    o.Plain HLT ∷
    o.Plain WAIT ∷
    o.Plain RET ∷
    o.Plain MOVS ∷
    o.Plain SETS ∷
    o.Go JMP ∷
    o.Go CALL ∷
    o.Branch JT ∷
    o.Branch JF ∷
    o.One PUSH ∷
    o.One POP ∷
    o.One CMPS ∷
    o.One CIB ∷
    o.One NOT ∷
    o.One BNOT ∷
    o.One ISGN ∷
    o.One IABS ∷
    []

-- the data words, and the mnemonics of float instructions, which stand for none
abbrev pub others : List (List ℕ × WordKind)
others =
    (codes "integer", w.Data d.Integers) ∷
    (codes "string", w.Data d.Text) ∷
    (codes "pointer", w.Data d.Pointers) ∷
    (codes "FEQ", w.Float) ∷
    (codes "FNE", w.Float) ∷
    (codes "FGT", w.Float) ∷
    (codes "FGE", w.Float) ∷
    (codes "FLT", w.Float) ∷
    (codes "FLE", w.Float) ∷
    (codes "CIF", w.Float) ∷
    (codes "CFI", w.Float) ∷
    (codes "CFB", w.Float) ∷
    (codes "FADD", w.Float) ∷
    (codes "FSUB", w.Float) ∷
    (codes "FMUL", w.Float) ∷
    (codes "FDIV", w.Float) ∷
    (codes "FMOD", w.Float) ∷
    (codes "FSGN", w.Float) ∷
    (codes "FMIN", w.Float) ∷
    (codes "FMAX", w.Float) ∷
    (codes "FABS", w.Float) ∷
    (codes "FLR", w.Float) ∷
    (codes "CEIL", w.Float) ∷
    (codes "ROUND", w.Float) ∷
    (codes "SIN", w.Float) ∷
    (codes "ACOS", w.Float) ∷
    (codes "ATAN2", w.Float) ∷
    (codes "LOG", w.Float) ∷
    (codes "POW", w.Float) ∷
    []

-- an operation under its mnemonic
abbrev pub entry : Operation → List ℕ × WordKind
entry k = (operation_name k, w.Operation k)

unfoldable pub vocabulary : List (List ℕ × WordKind)
vocabulary = map entry operations ++ others

-- registers 11 to 15 have a second name
unfoldable pub registers : List (List ℕ × ℕ)
registers =
    (codes "R0", 0) ∷
    (codes "R1", 1) ∷
    (codes "R2", 2) ∷
    (codes "R3", 3) ∷
    (codes "R4", 4) ∷
    (codes "R5", 5) ∷
    (codes "R6", 6) ∷
    (codes "R7", 7) ∷
    (codes "R8", 8) ∷
    (codes "R9", 9) ∷
    (codes "R10", 10) ∷
    (codes "R11", 11) ∷
    (codes "R12", 12) ∷
    (codes "R13", 13) ∷
    (codes "R14", 14) ∷
    (codes "R15", 15) ∷
    (codes "CR", 11) ∷
    (codes "SR", 12) ∷
    (codes "DR", 13) ∷
    (codes "BP", 14) ∷
    (codes "SP", 15) ∷
    []

-- a name in either case
unfoldable pub is_spelled : List ℕ → List ℕ → Bool
is_spelled word name = bytes_eq (map to_ascii_lowercase word) (map to_ascii_lowercase name)

-- what the word stands for in a table of names
abbrev pub named : {T : Type 0} → List ℕ → List (List ℕ × T) → Option T
named word [] = None
named word (e ∷ es) = if is_spelled word e.0 then Some e.1 else named word es

-- a port's name is exact in case; what is none of these is a label
abbrev pub port_or_label : Option PortEntry → WordKind
port_or_label (Some port) = w.Port port.number
port_or_label None = w.Label

abbrev pub register_or_other : Option ℕ → WordKind → WordKind
register_or_other (Some r) other = w.Register r
register_or_other None other = other

abbrev pub known_or_other : Option WordKind → WordKind → WordKind
known_or_other (Some kind) other = kind
known_or_other None other = other

unfoldable pub word_kind : List ℕ → WordKind
word_kind word = known_or_other (named word vocabulary) (register_or_other (named word registers) (port_or_label (port_named word)))

abbrev pub is_label : WordKind → Bool
is_label w.Label = true
is_label _ = false

unfoldable pub is_label_word : List ℕ → Bool
is_label_word bytes = is_word bytes && is_label (word_kind bytes)

-- an entry of the program's tables
abbrev pub listed : {T : Type 0} → Bor (List ℕ) × T → List ℕ × T
listed e = (e.0.now, e.1)
