-- Paths among items, and the longest.
use Rattle.std.specs.Prelude.{ℕ, suc, ◌≡◌, ◌+◌, ◌≤◌, List, [], ◌∷◌}
use Rattle.v32_isa.specs.declared.instruction.Instr.{Instr}
use Rattle.asm_items.specs.declared.item.AsmItem.{AsmItem}
use Rattle.asm_items.specs.declared.item.AsmItem.TheVariants.{Label, Op, Integer, Pointer}
use Rattle.asm_items.specs.Items.{Imm}
use Rattle.asm_laws.specs.Numbers.{kind_of, behind}
use Rattle.asm_laws.specs.Numbers.Kind.{Goes, Jumps, Parts, Calls, Returns, Halts, Other}

-- one item on a path, or to the function that it calls
pub data Needs (items : List AsmItem) : List AsmItem → List AsmItem → Type 0 where
  mark : (name : List ℕ) (rest : List AsmItem) → Needs items (Label name ∷ rest) rest
  goes : (i : Instr Imm) (rest : List AsmItem) → kind_of i ≡ Goes → Needs items (Op i ∷ rest) rest
  jumps : (i : Instr Imm) (l : List ℕ) (rest : List AsmItem) → kind_of i ≡ Jumps l → Needs items (Op i ∷ rest) (behind items l)
  passes : (i : Instr Imm) (l : List ℕ) (rest : List AsmItem) → kind_of i ≡ Parts l → Needs items (Op i ∷ rest) rest
  parts : (i : Instr Imm) (l : List ℕ) (rest : List AsmItem) → kind_of i ≡ Parts l → Needs items (Op i ∷ rest) (behind items l)
  enters : (i : Instr Imm) (l : List ℕ) (rest : List AsmItem) → kind_of i ≡ Calls l → Needs items (Op i ∷ rest) (behind items l)
  follows : (i : Instr Imm) (l : List ℕ) (rest : List AsmItem) → kind_of i ≡ Calls l → Needs items (Op i ∷ rest) rest

-- in some items, one at least
pub data Comes (items : List AsmItem) : List AsmItem → List AsmItem → Type 0 where
  once : (p q : List AsmItem) → Needs items p q → Comes items p q
  more : (p q r : List AsmItem) → Comes items p q → Needs items q r → Comes items p r

-- a place where no path may come
abbrev pub IsBad : List AsmItem → Type 0
IsBad [] = Unit {0}
IsBad (Label name ∷ p) = ⊥
IsBad (Op i ∷ p) = kind_of i ≡ Other
IsBad (Integer w ∷ p) = Unit {0}
IsBad (Pointer name ∷ p) = Unit {0}

pub data Forbids (items : List AsmItem) (p : List AsmItem) : Type 0 where
  bad : IsBad p → Forbids items p
  comes_bad : (q : List AsmItem) → Comes items p q → IsBad q → Forbids items p
  again : Comes items p p → Forbids items p
  comes_again : (q : List AsmItem) → Comes items p q → Comes items q q → Forbids items p

-- a path, and how many instructions it does
pub data Takes (items : List AsmItem) : List AsmItem → ℕ → Type 0 where
  of_mark : (name : List ℕ) (rest : List AsmItem) (n : ℕ) → Takes items rest n → Takes items (Label name ∷ rest) n
  of_goes : (i : Instr Imm) (rest : List AsmItem) (n : ℕ) → kind_of i ≡ Goes → Takes items rest n → Takes items (Op i ∷ rest) (suc n)
  of_jump : (i : Instr Imm) (l : List ℕ) (rest : List AsmItem) (n : ℕ) → kind_of i ≡ Jumps l → Takes items (behind items l) n
      → Takes items (Op i ∷ rest) (suc n)
  of_pass : (i : Instr Imm) (l : List ℕ) (rest : List AsmItem) (n : ℕ) → kind_of i ≡ Parts l → Takes items rest n → Takes items (Op i ∷ rest) (suc n)
  of_part : (i : Instr Imm) (l : List ℕ) (rest : List AsmItem) (n : ℕ) → kind_of i ≡ Parts l → Takes items (behind items l) n
      → Takes items (Op i ∷ rest) (suc n)
  of_call : (i : Instr Imm) (l : List ℕ) (rest : List AsmItem) (m n : ℕ) → kind_of i ≡ Calls l → Takes items (behind items l) m → Takes items rest n
      → Takes items (Op i ∷ rest) (suc (m + n))
  of_return : (i : Instr Imm) (rest : List AsmItem) → kind_of i ≡ Returns → Takes items (Op i ∷ rest) 1
  of_halt : (i : Instr Imm) (rest : List AsmItem) → kind_of i ≡ Halts → Takes items (Op i ∷ rest) 1

pub record IsLongest (items : List AsmItem) (p : List AsmItem) (n : ℕ) : Type 0 where
  pub allowed : Forbids items p → ⊥
  pub taken : Takes items p n
  pub most : (m : ℕ) → Takes items p m → m ≤ n
