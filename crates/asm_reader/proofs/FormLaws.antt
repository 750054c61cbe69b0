-- The forms that are found are those that are written, both ways.
use Rattle.std.proofs.Common.{◌≡◌, ℕ, Bool, true, false, cond, List, [], ◌∷◌, refl, sym, ap, subst, ◌∙◌, ◌&&◌}
use Rattle.std.specs.Prelude.{◌↔◌, Option, Some, None, Result, Ok, Err}
use Rattle.v32_isa.specs.declared.instruction.Src.{Src}
use Rattle.v32_isa.specs.declared.instruction.Src.TheVariants as src
use Rattle.v32_isa.specs.declared.instruction.Mov.TheVariants.{RegImm, RegReg, RegAt, RegAtReg, RegAtOff, AtReg, AtRegReg, AtOffReg}
use Rattle.v32_isa.specs.declared.instruction.Instr.{Instr}
use Rattle.v32_isa.specs.declared.instruction.Instr.TheVariants as instr
use Rattle.asm_items.specs.Items.{Imm}
use Rattle.asm_items.specs.Operands.{Register, Immediate, AtRegister, AtImmediate, AtOffset, AtPort, src_operand, operands}
use Rattle.asm_items.specs.declared.vocabulary.Operation.{Operation}
use Rattle.asm_items.specs.declared.vocabulary.Operation.TheVariants as o
use Rattle.asm_reader.specs.declared.fault.LineFault.{LineFault}
use Rattle.asm_reader.specs.declared.fault.LineFault.TheVariants.{NoSuchForm}
use Rattle.asm_reader.specs.declared.value.Value.TheVariants.{Number, Label}
use Rattle.asm_reader.specs.declared.value.Written.{Written}
use Rattle.asm_reader.specs.declared.value.Written.TheVariants as w
use Rattle.asm_reader.specs.Faults.{◌>>=◌}
use Rattle.asm_reader.specs.Forms.{in_range, immediate, port_of, port, register, source, move_to, move_from, moved, load_address, is_port, is_source, output, with_none, with_one, with_two, formed}
use Rattle.asm_reader.specs.Grammar.{Writes, WritesAll, operation_of, IsForm}

pub record Bound {A B : Type 0} (r : Result A LineFault) (f : A → Result B LineFault) (y : B) : Type 0 where
  pub value : A
  pub first : r ≡ Ok value
  pub rest : f value ≡ Ok y

pub bind_ok : {A B : Type 0} (r : Result A LineFault) (f : A → Result B LineFault) (y : B) → (r >>= f) ≡ Ok y → Bound r f y
bind_ok (Ok x) f y h = record { value = x; first = refl; rest = h }
bind_ok (Err e) f y h = absurd cc

pub ok_is : {A : Type 0} {x y : A} → (let r : Result A LineFault = Ok x in r ≡ Ok y) → x ≡ y
ok_is h = cc

register_is : (x : Written) (a : ℕ) → register x ≡ Ok a → Writes x (Register a)
unfolding register
register_is (w.Register b) a h = cc
register_is (w.Port p) a h = absurd cc
register_is (w.Value v) a h = absurd cc
register_is (w.AtRegister b) a h = absurd cc
register_is (w.AtValue v) a h = absurd cc
register_is (w.AtOffset b v) a h = absurd cc

register_from : (x : Written) (a : ℕ) → Writes x (Register a) → register x ≡ Ok a
unfolding register
register_from (w.Register b) a h = ap Ok h
register_from (w.Port p) a h = absurd h
register_from (w.Value v) a h = absurd h
register_from (w.AtRegister b) a h = absurd h
register_from (w.AtValue v) a h = absurd h
register_from (w.AtOffset b v) a h = absurd h

source_is : (x : Written) (s : Src Imm) → source x ≡ Ok s → Writes x (src_operand s)
unfolding source
source_is (w.Register b) s h = let P : Src Imm → Type 0 = λ z. Writes (w.Register b) (src_operand z) in subst P (ok_is h) refl
source_is (w.Value v) s h =
    let b = bind_ok (immediate v) (λ (i : Imm). Ok (src.Imm i)) s h in
    let P : Src Imm → Type 0 = λ z. Writes (w.Value v) (src_operand z) in
    subst P (ok_is b.rest) b.first
source_is (w.Port p) s h = absurd cc
source_is (w.AtRegister b) s h = absurd cc
source_is (w.AtValue v) s h = absurd cc
source_is (w.AtOffset b v) s h = absurd cc

source_from : (x : Written) (s : Src Imm) → Writes x (src_operand s) → source x ≡ Ok s
unfolding source
source_from (w.Register b) (src.Reg c) h = ap (λ (n : ℕ). Ok (src.Reg n)) h
source_from (w.Register b) (src.Imm i) h = absurd h
source_from (w.Value v) (src.Imm i) h = rw h refl
source_from (w.Value (Number negative magnitude)) (src.Reg c) h = absurd h
source_from (w.Value (Label name)) (src.Reg c) h = absurd h
source_from (w.Port p) (src.Reg c) h = absurd h
source_from (w.Port p) (src.Imm i) h = absurd h
source_from (w.AtRegister b) (src.Reg c) h = absurd h
source_from (w.AtRegister b) (src.Imm i) h = absurd h
source_from (w.AtValue v) (src.Reg c) h = absurd h
source_from (w.AtValue v) (src.Imm i) h = absurd h
source_from (w.AtOffset b v) (src.Reg c) h = absurd h
source_from (w.AtOffset b v) (src.Imm i) h = absurd h

within_is : (found : Option ℕ) (p : ℕ) → in_range found ≡ Ok p → found ≡ Some p
within_is None p h = absurd cc
within_is (Some q) p h = ap Some (ok_is h)

port_is : (x : Written) (p : ℕ) → port x ≡ Ok p → Writes x (AtPort p)
unfolding port
port_is (w.Port q) p h = ok_is h
port_is (w.Value (Number negative magnitude)) p h = within_is (port_of negative magnitude) p h
port_is (w.Value (Label name)) p h = absurd cc
port_is (w.Register a) p h = absurd cc
port_is (w.AtRegister b) p h = absurd cc
port_is (w.AtValue v) p h = absurd cc
port_is (w.AtOffset b v) p h = absurd cc

port_from : (x : Written) (p : ℕ) → Writes x (AtPort p) → port x ≡ Ok p
unfolding port
port_from (w.Port q) p h = ap Ok h
port_from (w.Value (Number negative magnitude)) p h = ap in_range h
port_from (w.Value (Label name)) p h = absurd h
port_from (w.Register a) p h = absurd h
port_from (w.AtRegister b) p h = absurd h
port_from (w.AtValue v) p h = absurd h
port_from (w.AtOffset b v) p h = absurd h

-- two operands of an instruction
abbrev Two : Operation → Written → Written → Instr Imm → Type 0
Two operation x y i = IsForm operation (x ∷ y ∷ []) i

two_at : (operation : Operation) (x y : Written) (j i : Instr Imm) → (let r : Result (Instr Imm) LineFault = Ok j in r ≡ Ok i) → Two operation x y j → Two operation x y i
two_at operation x y j i h form = let P : Instr Imm → Type 0 = λ z. Two operation x y z in subst P (ok_is h) form

move_to_is : (a : ℕ) (y : Written) (i : Instr Imm) → move_to a y ≡ Ok i → Two o.Mov (w.Register a) y i
unfolding move_to
move_to_is a (w.Value v) i h =
    let b = bind_ok (immediate v) (λ (n : Imm). Ok (instr.Mov (RegImm a n))) i h in
    two_at o.Mov (w.Register a) (w.Value v) _ i b.rest (record { named = refl; written = (refl, (b.first, tt)) })
move_to_is a (w.Register b) i h = two_at o.Mov (w.Register a) (w.Register b) _ i h (record { named = refl; written = (refl, (refl, tt)) })
move_to_is a (w.AtValue v) i h =
    let b = bind_ok (immediate v) (λ (n : Imm). Ok (instr.Mov (RegAt a n))) i h in
    two_at o.Mov (w.Register a) (w.AtValue v) _ i b.rest (record { named = refl; written = (refl, (b.first, tt)) })
move_to_is a (w.AtRegister b) i h = two_at o.Mov (w.Register a) (w.AtRegister b) _ i h (record { named = refl; written = (refl, (refl, tt)) })
move_to_is a (w.AtOffset c v) i h =
    let b = bind_ok (immediate v) (λ (n : Imm). Ok (instr.Mov (RegAtOff a c n))) i h in
    two_at o.Mov (w.Register a) (w.AtOffset c v) _ i b.rest (record { named = refl; written = (refl, ((refl, b.first), tt)) })
move_to_is a (w.Port p) i h = absurd cc

move_from_is : (c : ℕ) (x y : Written) (i : Instr Imm) → Writes y (Register c) → move_from c x ≡ Ok i → Two o.Mov x y i
unfolding move_from
move_from_is c (w.AtValue v) y i second h =
    let b = bind_ok (immediate v) (λ (n : Imm). Ok (instr.Mov (AtReg n c))) i h in
    two_at o.Mov (w.AtValue v) y _ i b.rest (record { named = refl; written = (b.first, (second, tt)) })
move_from_is c (w.AtRegister a) y i second h = two_at o.Mov (w.AtRegister a) y _ i h (record { named = refl; written = (refl, (second, tt)) })
move_from_is c (w.AtOffset a v) y i second h =
    let b = bind_ok (immediate v) (λ (n : Imm). Ok (instr.Mov (AtOffReg a n c))) i h in
    two_at o.Mov (w.AtOffset a v) y _ i b.rest (record { named = refl; written = ((refl, b.first), (second, tt)) })
move_from_is c (w.Value v) y i second h = absurd cc
move_from_is c (w.Register a) y i second h = absurd cc
move_from_is c (w.Port p) y i second h = absurd cc

store_is : (x y : Written) (i : Instr Imm) → (register y >>= λ c. move_from c x) ≡ Ok i → Two o.Mov x y i
store_is x y i h =
    let b = bind_ok (register y) (λ (c : ℕ). move_from c x) i h in
    move_from_is b.value x y i (register_is y b.value b.first) b.rest

moved_is : (x y : Written) (i : Instr Imm) → moved x y ≡ Ok i → Two o.Mov x y i
unfolding moved
moved_is (w.Register a) y i h = move_to_is a y i h
moved_is (w.Value v) y i h = store_is (w.Value v) y i h
moved_is (w.Port p) y i h = store_is (w.Port p) y i h
moved_is (w.AtValue v) y i h = store_is (w.AtValue v) y i h
moved_is (w.AtRegister a) y i h = store_is (w.AtRegister a) y i h
moved_is (w.AtOffset a v) y i h = store_is (w.AtOffset a v) y i h

load_is : (a : ℕ) (x y : Written) (i : Instr Imm) → Writes x (Register a) → load_address a y ≡ Ok i → Two o.Lea x y i
unfolding load_address
load_is a x (w.AtRegister b) i first h = two_at o.Lea x (w.AtRegister b) _ i h (record { named = refl; written = (first, (refl, tt)) })
load_is a x (w.AtOffset c v) i first h =
    let b = bind_ok (immediate v) (λ (n : Imm). Ok (instr.Lea a c (Some n))) i h in
    two_at o.Lea x (w.AtOffset c v) _ i b.rest (record { named = refl; written = (first, ((refl, b.first), tt)) })
load_is a x (w.Register b) i first h = absurd cc
load_is a x (w.Port p) i first h = absurd cc
load_is a x (w.Value v) i first h = absurd cc
load_is a x (w.AtValue v) i first h = absurd cc

output_at : (x y : Written) (i : Instr Imm) → (port x >>= λ p. source y >>= λ s. Ok (instr.Out p s)) ≡ Ok i → Two o.Out x y i
output_at x y i h =
    let a = bind_ok (port x) (λ (p : ℕ). source y >>= λ (s : Src Imm). Ok (instr.Out p s)) i h in
    let b = bind_ok (source y) (λ (s : Src Imm). Ok (instr.Out a.value s)) i a.rest in
    two_at o.Out x y _ i b.rest (record { named = refl; written = (port_is x a.value a.first, (source_is y b.value b.first, tt)) })

output_is : (x y : Written) (i : Instr Imm) (fit : Bool) → (let bad : Result (Instr Imm) LineFault = Err NoSuchForm in cond fit (port x >>= λ p. source y >>= λ s. Ok (instr.Out p s)) bad) ≡ Ok i → Two o.Out x y i
output_is x y i true h = output_at x y i h
output_is x y i false h = absurd cc

with_two_is : (operation : Operation) (x y : Written) (i : Instr Imm) → with_two operation x y ≡ Ok i → Two operation x y i
unfolding with_two output
with_two_is (o.Branch g) x y i h =
    let a = bind_ok (register x) (λ (n : ℕ). source y >>= λ (s : Src Imm). Ok (instr.Branch g n s)) i h in
    let b = bind_ok (source y) (λ (s : Src Imm). Ok (instr.Branch g a.value s)) i a.rest in
    two_at (o.Branch g) x y _ i b.rest (record { named = refl; written = (register_is x a.value a.first, (source_is y b.value b.first, tt)) })
with_two_is (o.Two two) x y i h =
    let a = bind_ok (register x) (λ (n : ℕ). source y >>= λ (s : Src Imm). Ok (instr.Two two n s)) i h in
    let b = bind_ok (source y) (λ (s : Src Imm). Ok (instr.Two two a.value s)) i a.rest in
    two_at (o.Two two) x y _ i b.rest (record { named = refl; written = (register_is x a.value a.first, (source_is y b.value b.first, tt)) })
with_two_is o.Mov x y i h = moved_is x y i h
with_two_is o.Lea x y i h =
    let a = bind_ok (register x) (λ (n : ℕ). load_address n y) i h in
    load_is a.value x y i (register_is x a.value a.first) a.rest
with_two_is o.In x y i h =
    let a = bind_ok (register x) (λ (n : ℕ). port y >>= λ (p : ℕ). Ok (instr.In n p)) i h in
    let b = bind_ok (port y) (λ (p : ℕ). Ok (instr.In a.value p)) i a.rest in
    two_at o.In x y _ i b.rest (record { named = refl; written = (register_is x a.value a.first, (port_is y b.value b.first, tt)) })
with_two_is o.Out x y i h = output_is x y i (is_port x && is_source y) h
with_two_is (o.Plain p) x y i h = absurd cc
with_two_is (o.Go g) x y i h = absurd cc
with_two_is (o.One one) x y i h = absurd cc

one_at : (operation : Operation) (x : Written) (j i : Instr Imm) → (let r : Result (Instr Imm) LineFault = Ok j in r ≡ Ok i) → IsForm operation (x ∷ []) j → IsForm operation (x ∷ []) i
one_at operation x j i h form = let P : Instr Imm → Type 0 = λ z. IsForm operation (x ∷ []) z in subst P (ok_is h) form

with_one_is : (operation : Operation) (x : Written) (i : Instr Imm) → with_one operation x ≡ Ok i → IsForm operation (x ∷ []) i
unfolding with_one
with_one_is (o.Go g) x i h =
    let b = bind_ok (source x) (λ (s : Src Imm). Ok (instr.Go g s)) i h in
    one_at (o.Go g) x _ i b.rest (record { named = refl; written = (source_is x b.value b.first, tt) })
with_one_is (o.One one) x i h =
    let b = bind_ok (register x) (λ (a : ℕ). Ok (instr.One one a)) i h in
    one_at (o.One one) x _ i b.rest (record { named = refl; written = (register_is x b.value b.first, tt) })
with_one_is (o.Plain p) x i h = absurd cc
with_one_is (o.Branch g) x i h = absurd cc
with_one_is (o.Two two) x i h = absurd cc
with_one_is o.Mov x i h = absurd cc
with_one_is o.Lea x i h = absurd cc
with_one_is o.In x i h = absurd cc
with_one_is o.Out x i h = absurd cc

with_none_is : (operation : Operation) (i : Instr Imm) → with_none operation ≡ Ok i → IsForm operation [] i
unfolding with_none
with_none_is (o.Plain p) i h = let P : Instr Imm → Type 0 = λ z. IsForm (o.Plain p) [] z in subst P (ok_is h) (record { named = refl; written = tt })
with_none_is (o.Go g) i h = absurd cc
with_none_is (o.One one) i h = absurd cc
with_none_is (o.Branch g) i h = absurd cc
with_none_is (o.Two two) i h = absurd cc
with_none_is o.Mov i h = absurd cc
with_none_is o.Lea i h = absurd cc
with_none_is o.In i h = absurd cc
with_none_is o.Out i h = absurd cc

pub found_forms_are_written : (operation : Operation) (xs : List Written) (i : Instr Imm) → formed operation xs ≡ Ok i → IsForm operation xs i
unfolding formed
found_forms_are_written operation [] i h = with_none_is operation i h
found_forms_are_written operation (x ∷ []) i h = with_one_is operation x i h
found_forms_are_written operation (x ∷ y ∷ []) i h = with_two_is operation x y i h
found_forms_are_written operation (x ∷ y ∷ z ∷ more) i h = absurd cc

reg_move : (x y : Written) (a : ℕ) (i : Instr Imm) → Writes x (Register a) → move_to a y ≡ Ok i → moved x y ≡ Ok i
unfolding moved
reg_move (w.Register b) y a i h e = ap (λ (n : ℕ). move_to n y) h ∙ e
reg_move (w.Port p) y a i h e = absurd h
reg_move (w.Value v) y a i h e = absurd h
reg_move (w.AtRegister r) y a i h e = absurd h
reg_move (w.AtValue v) y a i h e = absurd h
reg_move (w.AtOffset r v) y a i h e = absurd h

to_imm : (a : ℕ) (y : Written) (i : Imm) → Writes y (Immediate i) → move_to a y ≡ Ok (instr.Mov (RegImm a i))
unfolding move_to
to_imm a (w.Register r) i h = absurd h
to_imm a (w.Port p) i h = absurd h
to_imm a (w.Value v) i h = rw h refl
to_imm a (w.AtRegister r) i h = absurd h
to_imm a (w.AtValue v) i h = absurd h
to_imm a (w.AtOffset r v) i h = absurd h

to_reg : (a : ℕ) (y : Written) (b : ℕ) → Writes y (Register b) → move_to a y ≡ Ok (instr.Mov (RegReg a b))
unfolding move_to
to_reg a (w.Register c) b h = ap (λ (n : ℕ). Ok (instr.Mov (RegReg a n))) h
to_reg a (w.Port p) b h = absurd h
to_reg a (w.Value v) b h = absurd h
to_reg a (w.AtRegister r) b h = absurd h
to_reg a (w.AtValue v) b h = absurd h
to_reg a (w.AtOffset r v) b h = absurd h

to_at_imm : (a : ℕ) (y : Written) (i : Imm) → Writes y (AtImmediate i) → move_to a y ≡ Ok (instr.Mov (RegAt a i))
unfolding move_to
to_at_imm a (w.Register r) i h = absurd h
to_at_imm a (w.Port p) i h = absurd h
to_at_imm a (w.Value v) i h = absurd h
to_at_imm a (w.AtRegister r) i h = absurd h
to_at_imm a (w.AtValue v) i h = rw h refl
to_at_imm a (w.AtOffset r v) i h = absurd h

to_at_reg : (a : ℕ) (y : Written) (b : ℕ) → Writes y (AtRegister b) → move_to a y ≡ Ok (instr.Mov (RegAtReg a b))
unfolding move_to
to_at_reg a (w.Register r) b h = absurd h
to_at_reg a (w.Port p) b h = absurd h
to_at_reg a (w.Value v) b h = absurd h
to_at_reg a (w.AtRegister c) b h = ap (λ (n : ℕ). Ok (instr.Mov (RegAtReg a n))) h
to_at_reg a (w.AtValue v) b h = absurd h
to_at_reg a (w.AtOffset r v) b h = absurd h

to_at_off : (a : ℕ) (y : Written) (b : ℕ) (i : Imm) → Writes y (AtOffset b i) → move_to a y ≡ Ok (instr.Mov (RegAtOff a b i))
unfolding move_to
to_at_off a (w.Register r) b i h = absurd h
to_at_off a (w.Port p) b i h = absurd h
to_at_off a (w.Value v) b i h = absurd h
to_at_off a (w.AtRegister r) b i h = absurd h
to_at_off a (w.AtValue v) b i h = absurd h
to_at_off a (w.AtOffset c v) b i h = rw h.1 (ap (λ (n : ℕ). Ok (instr.Mov (RegAtOff a n i))) h.0)

at_imm : (x y : Written) (b : ℕ) (i : Imm) → Writes x (AtImmediate i) → Writes y (Register b) → moved x y ≡ Ok (instr.Mov (AtReg i b))
unfolding moved move_from
at_imm (w.Register r) y b i h e = absurd h
at_imm (w.Port p) y b i h e = absurd h
at_imm (w.Value v) y b i h e = absurd h
at_imm (w.AtRegister r) y b i h e = absurd h
at_imm (w.AtValue v) y b i h e = rw (register_from y b e, h) refl
at_imm (w.AtOffset r v) y b i h e = absurd h

at_reg : (x y : Written) (b : ℕ) (a : ℕ) → Writes x (AtRegister a) → Writes y (Register b) → moved x y ≡ Ok (instr.Mov (AtRegReg a b))
unfolding moved move_from
at_reg (w.Register r) y b a h e = absurd h
at_reg (w.Port p) y b a h e = absurd h
at_reg (w.Value v) y b a h e = absurd h
at_reg (w.AtRegister c) y b a h e = rw (register_from y b e) (ap (λ (n : ℕ). Ok (instr.Mov (AtRegReg n b))) h)
at_reg (w.AtValue v) y b a h e = absurd h
at_reg (w.AtOffset r v) y b a h e = absurd h

at_off : (x y : Written) (b : ℕ) (a : ℕ) (i : Imm) → Writes x (AtOffset a i) → Writes y (Register b) → moved x y ≡ Ok (instr.Mov (AtOffReg a i b))
unfolding moved move_from
at_off (w.Register r) y b a i h e = absurd h
at_off (w.Port p) y b a i h e = absurd h
at_off (w.Value v) y b a i h e = absurd h
at_off (w.AtRegister r) y b a i h e = absurd h
at_off (w.AtValue v) y b a i h e = absurd h
at_off (w.AtOffset c v) y b a i h e = rw (register_from y b e, h.1) (ap (λ (n : ℕ). Ok (instr.Mov (AtOffReg n i b))) h.0)

load_reg : (a : ℕ) (y : Written) (b : ℕ) → Writes y (AtRegister b) → load_address a y ≡ Ok (instr.Lea a b None)
unfolding load_address
load_reg a (w.Register r) b h = absurd h
load_reg a (w.Port p) b h = absurd h
load_reg a (w.Value v) b h = absurd h
load_reg a (w.AtRegister c) b h = ap (λ (n : ℕ). Ok (instr.Lea a n None)) h
load_reg a (w.AtValue v) b h = absurd h
load_reg a (w.AtOffset r v) b h = absurd h

load_off : (a : ℕ) (y : Written) (b : ℕ) (i : Imm) → Writes y (AtOffset b i) → load_address a y ≡ Ok (instr.Lea a b (Some i))
unfolding load_address
load_off a (w.Register r) b i h = absurd h
load_off a (w.Port p) b i h = absurd h
load_off a (w.Value v) b i h = absurd h
load_off a (w.AtRegister r) b i h = absurd h
load_off a (w.AtValue v) b i h = absurd h
load_off a (w.AtOffset c v) b i h = rw h.1 (ap (λ (n : ℕ). Ok (instr.Lea a n (Some i))) h.0)

port_kind : (x : Written) (p : ℕ) → Writes x (AtPort p) → is_port x ≡ true
port_kind (w.Port q) p h = refl
port_kind (w.Value (Number negative magnitude)) p h = refl
port_kind (w.Value (Label name)) p h = absurd h
port_kind (w.Register a) p h = absurd h
port_kind (w.AtRegister b) p h = absurd h
port_kind (w.AtValue v) p h = absurd h
port_kind (w.AtOffset b v) p h = absurd h

source_kind : (x : Written) (s : Src Imm) → Writes x (src_operand s) → is_source x ≡ true
source_kind (w.Register b) s h = refl
source_kind (w.Value v) s h = refl
source_kind (w.Port p) (src.Reg c) h = absurd h
source_kind (w.Port p) (src.Imm i) h = absurd h
source_kind (w.AtRegister b) (src.Reg c) h = absurd h
source_kind (w.AtRegister b) (src.Imm i) h = absurd h
source_kind (w.AtValue v) (src.Reg c) h = absurd h
source_kind (w.AtValue v) (src.Imm i) h = absurd h
source_kind (w.AtOffset b v) (src.Reg c) h = absurd h
source_kind (w.AtOffset b v) (src.Imm i) h = absurd h

pub found_at : (i : Instr Imm) (xs : List Written) → WritesAll xs (operands i) → formed (operation_of i) xs ≡ Ok i
unfolding formed with_none with_one with_two output
found_at (instr.Plain p) [] h = refl
found_at (instr.Plain p) (x ∷ xs) h = absurd h
found_at (instr.Go g s) [] h = absurd h
found_at (instr.Go g s) (x ∷ []) h = rw (source_from x s h.0) refl
found_at (instr.Go g s) (x ∷ y ∷ more) h = absurd h.1
found_at (instr.One one a) [] h = absurd h
found_at (instr.One one a) (x ∷ []) h = rw (register_from x a h.0) refl
found_at (instr.One one a) (x ∷ y ∷ more) h = absurd h.1
found_at (instr.Branch b a s) [] h = absurd h
found_at (instr.Branch b a s) (x ∷ []) h = absurd h.1
found_at (instr.Branch b a s) (x ∷ y ∷ []) h = rw (register_from x a h.0, source_from y s h.1.0) refl
found_at (instr.Branch b a s) (x ∷ y ∷ z ∷ more) h = absurd h.1.1
found_at (instr.Two two a s) [] h = absurd h
found_at (instr.Two two a s) (x ∷ []) h = absurd h.1
found_at (instr.Two two a s) (x ∷ y ∷ []) h = rw (register_from x a h.0, source_from y s h.1.0) refl
found_at (instr.Two two a s) (x ∷ y ∷ z ∷ more) h = absurd h.1.1
found_at (instr.Mov (RegImm a i)) [] h = absurd h
found_at (instr.Mov (RegImm a i)) (x ∷ []) h = absurd h.1
found_at (instr.Mov (RegImm a i)) (x ∷ y ∷ []) h = reg_move x y a _ h.0 (to_imm a y i h.1.0)
found_at (instr.Mov (RegImm a i)) (x ∷ y ∷ z ∷ more) h = absurd h.1.1
found_at (instr.Mov (RegReg a b)) [] h = absurd h
found_at (instr.Mov (RegReg a b)) (x ∷ []) h = absurd h.1
found_at (instr.Mov (RegReg a b)) (x ∷ y ∷ []) h = reg_move x y a _ h.0 (to_reg a y b h.1.0)
found_at (instr.Mov (RegReg a b)) (x ∷ y ∷ z ∷ more) h = absurd h.1.1
found_at (instr.Mov (RegAt a i)) [] h = absurd h
found_at (instr.Mov (RegAt a i)) (x ∷ []) h = absurd h.1
found_at (instr.Mov (RegAt a i)) (x ∷ y ∷ []) h = reg_move x y a _ h.0 (to_at_imm a y i h.1.0)
found_at (instr.Mov (RegAt a i)) (x ∷ y ∷ z ∷ more) h = absurd h.1.1
found_at (instr.Mov (RegAtReg a b)) [] h = absurd h
found_at (instr.Mov (RegAtReg a b)) (x ∷ []) h = absurd h.1
found_at (instr.Mov (RegAtReg a b)) (x ∷ y ∷ []) h = reg_move x y a _ h.0 (to_at_reg a y b h.1.0)
found_at (instr.Mov (RegAtReg a b)) (x ∷ y ∷ z ∷ more) h = absurd h.1.1
found_at (instr.Mov (RegAtOff a b i)) [] h = absurd h
found_at (instr.Mov (RegAtOff a b i)) (x ∷ []) h = absurd h.1
found_at (instr.Mov (RegAtOff a b i)) (x ∷ y ∷ []) h = reg_move x y a _ h.0 (to_at_off a y b i h.1.0)
found_at (instr.Mov (RegAtOff a b i)) (x ∷ y ∷ z ∷ more) h = absurd h.1.1
found_at (instr.Mov (AtReg i b)) [] h = absurd h
found_at (instr.Mov (AtReg i b)) (x ∷ []) h = absurd h.1
found_at (instr.Mov (AtReg i b)) (x ∷ y ∷ []) h = at_imm x y b i h.0 h.1.0
found_at (instr.Mov (AtReg i b)) (x ∷ y ∷ z ∷ more) h = absurd h.1.1
found_at (instr.Mov (AtRegReg a b)) [] h = absurd h
found_at (instr.Mov (AtRegReg a b)) (x ∷ []) h = absurd h.1
found_at (instr.Mov (AtRegReg a b)) (x ∷ y ∷ []) h = at_reg x y b a h.0 h.1.0
found_at (instr.Mov (AtRegReg a b)) (x ∷ y ∷ z ∷ more) h = absurd h.1.1
found_at (instr.Mov (AtOffReg a i b)) [] h = absurd h
found_at (instr.Mov (AtOffReg a i b)) (x ∷ []) h = absurd h.1
found_at (instr.Mov (AtOffReg a i b)) (x ∷ y ∷ []) h = at_off x y b a i h.0 h.1.0
found_at (instr.Mov (AtOffReg a i b)) (x ∷ y ∷ z ∷ more) h = absurd h.1.1
found_at (instr.Lea a b None) [] h = absurd h
found_at (instr.Lea a b None) (x ∷ []) h = absurd h.1
found_at (instr.Lea a b None) (x ∷ y ∷ []) h = rw (register_from x a h.0) (load_reg a y b h.1.0)
found_at (instr.Lea a b None) (x ∷ y ∷ z ∷ more) h = absurd h.1.1
found_at (instr.Lea a b (Some i)) [] h = absurd h
found_at (instr.Lea a b (Some i)) (x ∷ []) h = absurd h.1
found_at (instr.Lea a b (Some i)) (x ∷ y ∷ []) h = rw (register_from x a h.0) (load_off a y b i h.1.0)
found_at (instr.Lea a b (Some i)) (x ∷ y ∷ z ∷ more) h = absurd h.1.1
found_at (instr.In a p) [] h = absurd h
found_at (instr.In a p) (x ∷ []) h = absurd h.1
found_at (instr.In a p) (x ∷ y ∷ []) h = rw (register_from x a h.0, port_from y p h.1.0) refl
found_at (instr.In a p) (x ∷ y ∷ z ∷ more) h = absurd h.1.1
found_at (instr.Out p s) [] h = absurd h
found_at (instr.Out p s) (x ∷ []) h = absurd h.1
found_at (instr.Out p s) (x ∷ y ∷ []) h = rw (port_kind x p h.0, source_kind y s h.1.0, port_from x p h.0, source_from y s h.1.0) refl
found_at (instr.Out p s) (x ∷ y ∷ z ∷ more) h = absurd h.1.1

pub written_forms_are_found : (operation : Operation) (xs : List Written) (i : Instr Imm) → IsForm operation xs i → formed operation xs ≡ Ok i
written_forms_are_found operation xs i form = let P : Operation → Type 0 = λ z. formed z xs ≡ Ok i in subst P (sym form.named) (found_at i xs form.written)

pub forms_both_ways : (operation : Operation) (xs : List Written) (i : Instr Imm) → (formed operation xs ≡ Ok i) ↔ IsForm operation xs i
forms_both_ways operation xs i = (found_forms_are_written operation xs i, written_forms_are_found operation xs i)
