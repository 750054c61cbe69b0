-- Rows of the table, read back as instructions.
use Rattle.std.proofs.Common.{◌&&◌, ◌≡◌, ℕ, ◌==◌, Bool, true, false, cond, Option, Some, None, refl, ◌∙◌, ap, arith, List, [], ◌∷◌, find, eqb-true}
use Rattle.std.proofs.lemmas.Option.{option_and_then_some}
use Rattle.v32_isa.specs.Table.{Row, row, row_of}
use Rattle.v32_isa.specs.Decoding.{reads, operation_of, instr_of, mov_at, operations, operation_opcode}
use Rattle.v32_isa.specs.declared.instruction.Src.TheVariants as src
use Rattle.v32_isa.specs.declared.instruction.Mov.TheVariants.{RegImm, RegReg, RegAt, RegAtReg, RegAtOff, AtReg, AtRegReg, AtOffReg}
use Rattle.v32_isa.specs.declared.instruction.Instr.{Instr}
use Rattle.v32_isa.specs.declared.instruction.Instr.TheVariants as instr
use Rattle.v32_isa.specs.declared.decoding.Operation.{Operation}
use Rattle.v32_isa.specs.declared.decoding.Operation.TheVariants as operation
use Rattle.v32_isa.proofs.Opcodes.{operation-plain, operation-go, operation-branch, operation-two, operation-one}

-- an instruction's parts are read as the instruction
pub reads_again : (i : Instr ℕ) → reads (row_of i) ≡ Some i
unfolding reads
reads_again (instr.Plain p) = rw (operation-plain p) refl
reads_again (instr.Go g (src.Imm i)) = rw (operation-go g) refl
reads_again (instr.Go g (src.Reg a)) = rw (operation-go g) refl
reads_again (instr.Branch b a (src.Imm i)) = rw (operation-branch b) refl
reads_again (instr.Branch b a (src.Reg c)) = rw (operation-branch b) refl
reads_again (instr.Two t a (src.Imm i)) = rw (operation-two t) refl
reads_again (instr.Two t a (src.Reg b)) = rw (operation-two t) refl
reads_again (instr.One o a) = rw (operation-one o) refl
reads_again (instr.Mov (RegImm a i)) = refl
reads_again (instr.Mov (RegReg a b)) = refl
reads_again (instr.Mov (RegAt a i)) = refl
reads_again (instr.Mov (RegAtReg a b)) = refl
reads_again (instr.Mov (RegAtOff a b i)) = refl
reads_again (instr.Mov (AtReg i b)) = refl
reads_again (instr.Mov (AtRegReg a b)) = refl
reads_again (instr.Mov (AtOffReg a i b)) = refl
reads_again (instr.Lea a b None) = refl
reads_again (instr.Lea a b (Some i)) = refl
reads_again (instr.In a p) = refl
reads_again (instr.Out p (src.Imm i)) = refl
reads_again (instr.Out p (src.Reg a)) = refl

pub find_passes : {X : Type 0} (p : X → Bool) (xs : List X) (x : X) → find p xs ≡ Some x → p x ≡ true
find_passes p [] x e = cc
find_passes p (y ∷ ys) x e = grind (arith, find_passes p ys x)

-- what an opcode is read as has that opcode
pub operation_found : (o : ℕ) (k : Operation) → operation_of o ≡ Some k → operation_opcode k ≡ o
operation_found o k e = eqb-true _ _ (find_passes (λ k. operation_opcode k == o) operations k e)

-- the two ways of a test that gave a value
by_choice : {X P : Type 0} (b : Bool) (x y z : X) → cond b x y ≡ z → (b ≡ true → x ≡ z → P) → (y ≡ z → P) → P
by_choice true x y z e f g = f refl e
by_choice false x y z e f g = g e

mov_found : (a b m j : ℕ) (i : Instr ℕ) → mov_at a b m (Some j) ≡ Some i → row_of i ≡ row 0x13 a b m 0 (Some j)
mov_found a b m j i e = grind arith

only_if : {X : Type 0} (b : Bool) (x i : X) → cond b (Some x) None ≡ Some i → (b ≡ true) × (x ≡ i)
only_if true x i e = (refl, cc)
only_if false x i e = absurd cc

two_zero : (m p : ℕ) → (m == 0 && p == 0) ≡ true → (m ≡ 0) × (p ≡ 0)
two_zero m p e = grind arith

three_zero : (b m p : ℕ) → (b == 0 && m == 0 && p == 0) ≡ true → (b ≡ 0) × (m ≡ 0) × (p ≡ 0)
three_zero b m p e = grind arith

-- what parts are read as has those parts
pub parts_found : (k : Operation) (a b m p : ℕ) (s : Option ℕ) (i : Instr ℕ) → instr_of k a b m p s ≡ Some i → row_of i ≡ row (operation_opcode k) a b m p s
parts_found (operation.Plain q) a b m p None i e = grind arith
parts_found (operation.Plain q) a b m p (Some j) i e = cc
parts_found (operation.Go g) a b m p None i e = grind arith
parts_found (operation.Go g) a b m p (Some j) i e = grind arith
parts_found (operation.Branch g) a b m p None i e = grind arith
parts_found (operation.Branch g) a b m p (Some j) i e = grind arith
parts_found (operation.Two g) a b m p None i e =
    let t = only_if _ _ _ e in let z = two_zero m p t.0 in rw (← t.1, z.0, z.1) refl
parts_found (operation.Two g) a b m p (Some j) i e =
    let t = only_if _ _ _ e in let z = three_zero b m p t.0 in rw (← t.1, z.0, z.1, z.2) refl
parts_found (operation.One g) a b m p None i e =
    let t = only_if _ _ _ e in let z = three_zero b m p t.0 in rw (← t.1, z.0, z.1, z.2) refl
parts_found (operation.One g) a b m p (Some j) i e = cc
parts_found operation.Mov a b m p None i e = grind arith
parts_found operation.Mov a b m p (Some j) i e =
    by_choice _ _ _ _ e (λ t q. let h : p ≡ 0 = eqb-true _ _ t in rw h (mov_found a b m j i q)) (λ q. cc)
parts_found operation.Lea a b m p None i e = grind arith
parts_found operation.Lea a b m p (Some j) i e = grind arith
parts_found operation.In a b m p None i e = grind arith
parts_found operation.In a b m p (Some j) i e = cc
parts_found operation.Out a b m p None i e = grind arith
parts_found operation.Out a b m p (Some j) i e = grind arith

pub row_same : (o a b m p o' a' b' m' p' : ℕ) (s s' : Option ℕ) → o ≡ o' → a ≡ a' → b ≡ b' → m ≡ m' → p ≡ p' → s ≡ s' → row o a b m p s ≡ row o' a' b' m' p' s'
row_same o a b m p o' a' b' m' p' s s' e1 e2 e3 e4 e5 e6 = cc

-- what is read of a row has that row
pub reads_found : (r : Row) (i : Instr ℕ) → reads r ≡ Some i → row_of i ≡ r
unfolding reads
reads_found r i e =
    option_and_then_some (λ k. instr_of k r.one r.two r.mode r.port r.immediate) (operation_of r.opcode) i e (λ k q t.
    let h : operation_opcode k ≡ r.opcode = operation_found r.opcode k q in
    let u : row_of i ≡ row (operation_opcode k) r.one r.two r.mode r.port r.immediate = parts_found k r.one r.two r.mode r.port r.immediate i t in
    row_same _ _ _ _ _ _ _ _ _ _ _ _ (ap (λ (s : Row). s.opcode) u ∙ h) (ap (λ (s : Row). s.one) u) (ap (λ (s : Row). s.two) u) (ap (λ (s : Row). s.mode) u) (ap (λ (s : Row). s.port) u) (ap (λ (s : Row). s.immediate) u))
