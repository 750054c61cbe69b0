-- Which class of fault an operation with its operands has.
use Rattle.std.proofs.Common.{◌≡◌, ℕ, Bool, true, false, cond, List, [], ◌∷◌, map, refl, sym, ◌∙◌}
use Rattle.std.specs.Prelude.{◌↔◌, Option, Some, None, Result, Ok, Err}
use Rattle.std.specs.List.{list_all}
use Rattle.either.specs.declared.Either.TheVariants.{Left, Right}
use Rattle.v32_isa.specs.declared.instruction.Src.{Src}
use Rattle.v32_isa.specs.declared.instruction.Src.TheVariants as src
use Rattle.v32_isa.specs.declared.instruction.Mov.TheVariants.{RegImm, RegReg, RegAt, RegAtReg, RegAtOff, AtReg, AtRegReg, AtOffReg}
use Rattle.v32_isa.specs.declared.instruction.Instr.{Instr}
use Rattle.v32_isa.specs.declared.instruction.Instr.TheVariants as instr
use Rattle.asm_items.specs.Items.{Imm}
use Rattle.asm_items.specs.declared.vocabulary.Operation.{Operation}
use Rattle.asm_items.specs.declared.vocabulary.Operation.TheVariants as o
use Rattle.asm_reader.specs.declared.fault.LineFault.{LineFault}
use Rattle.asm_reader.specs.declared.fault.LineFault.TheVariants.{BadLine, FloatInstruction, NumberTooLarge, NoSuchForm}
use Rattle.asm_reader.specs.declared.value.Value.{Value}
use Rattle.asm_reader.specs.declared.value.Value.TheVariants.{Number, Label}
use Rattle.asm_reader.specs.declared.value.Written.{Written}
use Rattle.asm_reader.specs.declared.value.Written.TheVariants as w
use Rattle.asm_reader.specs.Faults.{◌>>=◌}
use Rattle.asm_reader.specs.Forms.{word_of, in_range, as_word, immediate, port_of, port, register, source, move_to, move_from, moved, load_address, output, with_none, with_one, with_two, formed, fits_some, judged, instruction}
use Rattle.asm_reader.proofs.FormLaws.{forms_both_ways}
use Rattle.asm_grammar.specs.Classes.{zeroed_value, zeroed, HasForm, IsOutOfRange, IsNoForm}

abbrev Found : Type 0
Found = Result (Instr Imm) LineFault

-- what is found with other numbers
abbrev Alike : Found → Found → Type 0
Alike (Ok i) other = (j : Instr Imm) × (other ≡ Ok j)
Alike (Err NumberTooLarge) other = (j : Instr Imm) × (other ≡ Ok j)
Alike (Err NoSuchForm) other = other ≡ Err NoSuchForm
Alike (Err BadLine) other = ⊥
Alike (Err FloatInstruction) other = ⊥

abbrev ending : (Imm → Instr Imm) → Imm → Found
ending f i = Ok (f i)

word_alike : (f : Imm → Instr Imm) (k : Option ℕ) (i : Instr Imm) → Alike (as_word k >>= ending f) (Ok i)
word_alike f None i = (i, refl)
word_alike f (Some n) i = (i, refl)

imm_alike : (f : Imm → Instr Imm) (v : Value) → Alike (immediate v >>= ending f) (immediate (zeroed_value v) >>= ending f)
unfolding immediate word_of
imm_alike f (Number s m) = word_alike f (word_of s m) (f (Left 0))
imm_alike f (Label name) = (f (Right name), refl)

source_word : (f : Src Imm → Instr Imm) (k : Option ℕ) (i : Instr Imm) → Alike ((as_word k >>= λ (x : Imm). Ok (src.Imm x)) >>= λ (s : Src Imm). Ok (f s)) (Ok i)
source_word f None i = (i, refl)
source_word f (Some n) i = (i, refl)

source_alike : (f : Src Imm → Instr Imm) (y : Written) → Alike (source y >>= λ (s : Src Imm). Ok (f s)) (source (zeroed y) >>= λ (s : Src Imm). Ok (f s))
unfolding source immediate word_of
source_alike f (w.Register b) = (f (src.Reg b), refl)
source_alike f (w.Value (Number s m)) = source_word f (word_of s m) (f (src.Imm (Left 0)))
source_alike f (w.Value (Label name)) = (f (src.Imm (Right name)), refl)
source_alike f (w.Port p) = refl
source_alike f (w.AtRegister b) = refl
source_alike f (w.AtValue v) = refl
source_alike f (w.AtOffset b v) = refl

by_register : (f g : ℕ → Found) (x : Written) → ((a : ℕ) → Alike (f a) (g a)) → Alike (register x >>= f) (register (zeroed x) >>= g)
unfolding register
by_register f g (w.Register a) h = h a
by_register f g (w.Port p) h = refl
by_register f g (w.Value v) h = refl
by_register f g (w.AtRegister b) h = refl
by_register f g (w.AtValue v) h = refl
by_register f g (w.AtOffset b v) h = refl

ranged : (f : ℕ → Instr Imm) (k : Option ℕ) (i : Instr Imm) → Alike (in_range k >>= λ (p : ℕ). Ok (f p)) (Ok i)
ranged f None i = (i, refl)
ranged f (Some n) i = (i, refl)

port_alike : (f : ℕ → Instr Imm) (y : Written) → Alike (port y >>= λ (p : ℕ). Ok (f p)) (port (zeroed y) >>= λ (p : ℕ). Ok (f p))
unfolding port port_of
port_alike f (w.Port p) = (f p, refl)
port_alike f (w.Value (Number s m)) = ranged f (port_of s m) (f 0)
port_alike f (w.Value (Label name)) = refl
port_alike f (w.Register b) = refl
port_alike f (w.AtRegister b) = refl
port_alike f (w.AtValue v) = refl
port_alike f (w.AtOffset b v) = refl

to_alike : (a : ℕ) (y : Written) → Alike (move_to a y) (move_to a (zeroed y))
unfolding move_to
to_alike a (w.Value v) = imm_alike (λ i. instr.Mov (RegImm a i)) v
to_alike a (w.Register b) = (instr.Mov (RegReg a b), refl)
to_alike a (w.AtValue v) = imm_alike (λ i. instr.Mov (RegAt a i)) v
to_alike a (w.AtRegister b) = (instr.Mov (RegAtReg a b), refl)
to_alike a (w.AtOffset b v) = imm_alike (λ i. instr.Mov (RegAtOff a b i)) v
to_alike a (w.Port p) = refl

from_alike : (b : ℕ) (x : Written) → Alike (move_from b x) (move_from b (zeroed x))
unfolding move_from
from_alike b (w.AtValue v) = imm_alike (λ i. instr.Mov (AtReg i b)) v
from_alike b (w.AtRegister a) = (instr.Mov (AtRegReg a b), refl)
from_alike b (w.AtOffset a v) = imm_alike (λ i. instr.Mov (AtOffReg a i b)) v
from_alike b (w.Value v) = refl
from_alike b (w.Register a) = refl
from_alike b (w.Port p) = refl

moved_alike : (x y : Written) → Alike (moved x y) (moved (zeroed x) (zeroed y))
unfolding moved
moved_alike (w.Register a) y = to_alike a y
moved_alike (w.Port p) y = by_register _ _ y (λ b. from_alike b (w.Port p))
moved_alike (w.Value v) y = by_register _ _ y (λ b. from_alike b (w.Value v))
moved_alike (w.AtRegister a) y = by_register _ _ y (λ b. from_alike b (w.AtRegister a))
moved_alike (w.AtValue v) y = by_register _ _ y (λ b. from_alike b (w.AtValue v))
moved_alike (w.AtOffset a v) y = by_register _ _ y (λ b. from_alike b (w.AtOffset a v))

address_alike : (a : ℕ) (y : Written) → Alike (load_address a y) (load_address a (zeroed y))
unfolding load_address
address_alike a (w.AtRegister b) = (instr.Lea a b None, refl)
address_alike a (w.AtOffset b v) = imm_alike (λ i. instr.Lea a b (Some i)) v
address_alike a (w.Register b) = refl
address_alike a (w.Port p) = refl
address_alike a (w.Value v) = refl
address_alike a (w.AtValue v) = refl

-- OUT to a port, or to a number that may be one
abbrev sent : ℕ → Src Imm → Found
sent p s = Ok (instr.Out p s)

out_register : (k : Option ℕ) (b : ℕ) → Alike (in_range k >>= λ (p : ℕ). sent p (src.Reg b)) (sent 0 (src.Reg b))
out_register None b = (instr.Out 0 (src.Reg b), refl)
out_register (Some n) b = (instr.Out 0 (src.Reg b), refl)

out_word : (k m : Option ℕ) → Alike (in_range k >>= λ (p : ℕ). (as_word m >>= λ (x : Imm). Ok (src.Imm x)) >>= sent p) (sent 0 (src.Imm (Left 0)))
out_word None m = (instr.Out 0 (src.Imm (Left 0)), refl)
out_word (Some n) None = (instr.Out 0 (src.Imm (Left 0)), refl)
out_word (Some n) (Some v) = (instr.Out 0 (src.Imm (Left 0)), refl)

out_name : (k : Option ℕ) (name : List ℕ) → Alike (in_range k >>= λ (p : ℕ). sent p (src.Imm (Right name))) (sent 0 (src.Imm (Right name)))
out_name None name = (instr.Out 0 (src.Imm (Right name)), refl)
out_name (Some n) name = (instr.Out 0 (src.Imm (Right name)), refl)

output_alike : (x y : Written) → Alike (output x y) (output (zeroed x) (zeroed y))
unfolding output port source immediate word_of port_of
output_alike (w.Port p) (w.Register b) = (instr.Out p (src.Reg b), refl)
output_alike (w.Port p) (w.Value (Number s m)) = source_word (λ s'. instr.Out p s') (word_of s m) (instr.Out p (src.Imm (Left 0)))
output_alike (w.Port p) (w.Value (Label name)) = (instr.Out p (src.Imm (Right name)), refl)
output_alike (w.Port p) (w.Port q) = refl
output_alike (w.Port p) (w.AtRegister b) = refl
output_alike (w.Port p) (w.AtValue v) = refl
output_alike (w.Port p) (w.AtOffset b v) = refl
output_alike (w.Value (Number s m)) (w.Register b) = out_register (port_of s m) b
output_alike (w.Value (Number s m)) (w.Value (Number s' m')) = out_word (port_of s m) (word_of s' m')
output_alike (w.Value (Number s m)) (w.Value (Label name)) = out_name (port_of s m) name
output_alike (w.Value (Number s m)) (w.Port q) = refl
output_alike (w.Value (Number s m)) (w.AtRegister b) = refl
output_alike (w.Value (Number s m)) (w.AtValue v) = refl
output_alike (w.Value (Number s m)) (w.AtOffset b v) = refl
output_alike (w.Value (Label name)) y = refl
output_alike (w.Register a) y = refl
output_alike (w.AtRegister a) y = refl
output_alike (w.AtValue v) y = refl
output_alike (w.AtOffset a v) y = refl

none_alike : (k : Operation) → Alike (with_none k) (with_none k)
unfolding with_none
none_alike (o.Plain p) = (instr.Plain p, refl)
none_alike (o.Go g) = refl
none_alike (o.Branch b) = refl
none_alike (o.Two two) = refl
none_alike (o.One one) = refl
none_alike o.Mov = refl
none_alike o.Lea = refl
none_alike o.In = refl
none_alike o.Out = refl

one_alike : (k : Operation) (x : Written) → Alike (with_one k x) (with_one k (zeroed x))
unfolding with_one
one_alike (o.Go g) x = source_alike (λ s. instr.Go g s) x
one_alike (o.One one) x = by_register _ _ x (λ a. (instr.One one a, refl))
one_alike (o.Plain p) x = refl
one_alike (o.Branch b) x = refl
one_alike (o.Two two) x = refl
one_alike o.Mov x = refl
one_alike o.Lea x = refl
one_alike o.In x = refl
one_alike o.Out x = refl

two_alike : (k : Operation) (x y : Written) → Alike (with_two k x y) (with_two k (zeroed x) (zeroed y))
unfolding with_two
two_alike (o.Branch b) x y = by_register _ _ x (λ a. source_alike (λ s. instr.Branch b a s) y)
two_alike (o.Two two) x y = by_register _ _ x (λ a. source_alike (λ s. instr.Two two a s) y)
two_alike o.Mov x y = moved_alike x y
two_alike o.Lea x y = by_register _ _ x (λ a. address_alike a y)
two_alike o.In x y = by_register _ _ x (λ a. port_alike (λ p. instr.In a p) y)
two_alike o.Out x y = output_alike x y
two_alike (o.Plain p) x y = refl
two_alike (o.Go g) x y = refl
two_alike (o.One one) x y = refl

formed_alike : (k : Operation) (xs : List Written) → Alike (formed k xs) (formed k (map zeroed xs))
unfolding formed
formed_alike k [] = none_alike k
formed_alike k (x ∷ []) = one_alike k x
formed_alike k (x ∷ y ∷ []) = two_alike k x y
formed_alike k (x ∷ y ∷ z ∷ more) = refl

-- ---- the classes

has_form : (k : Operation) (xs : List Written) (i : Instr Imm) → formed k xs ≡ Ok i → HasForm k xs
has_form k xs i e = record { instruction = i; is_form = (forms_both_ways k xs i).0 e }

formed_so : (k : Operation) (xs : List Written) (h : HasForm k xs) → formed k xs ≡ Ok h.instruction
formed_so k xs h = (forms_both_ways k xs h.instruction).1 h.is_form

module _ (k : Operation) (xs : List Written) where
  out_of_range : (r : Found) → formed k xs ≡ r → Alike r (formed k (map zeroed xs)) → judged xs r ≡ Err NumberTooLarge → IsOutOfRange k xs
  out_of_range (Ok i) e a h = absurd cc
  out_of_range (Err NumberTooLarge) e a h = record {
    none = λ form. let c = sym e ∙ formed_so k xs form in absurd cc;
    otherwise = has_form k (map zeroed xs) a.0 a.1;
  }
  out_of_range (Err NoSuchForm) e a h = absurd (go (list_all fits_some xs) h)
    where
      go : (b : Bool) → (let r : Found = cond b (Err NoSuchForm) (Err BadLine) in r ≡ Err NumberTooLarge) → ⊥
      go true e = absurd cc
      go false e = absurd cc
  out_of_range (Err BadLine) e a h = absurd a
  out_of_range (Err FloatInstruction) e a h = absurd a

  is_out : (r : Found) → formed k xs ≡ r → Alike r (formed k (map zeroed xs)) → IsOutOfRange k xs → judged xs r ≡ Err NumberTooLarge
  is_out (Ok i) e a h = absurd (h.none (has_form k xs i e))
  is_out (Err NumberTooLarge) e a h = refl
  is_out (Err NoSuchForm) e a h = let c = sym a ∙ formed_so k (map zeroed xs) h.otherwise in absurd cc
  is_out (Err BadLine) e a h = absurd a
  is_out (Err FloatInstruction) e a h = absurd a

  no_form : (r : Found) → formed k xs ≡ r → Alike r (formed k (map zeroed xs)) → judged xs r ≡ Err NoSuchForm → IsNoForm k xs
  no_form (Ok i) e a h = absurd cc
  no_form (Err NumberTooLarge) e a h = absurd cc
  no_form (Err NoSuchForm) e a h = record { fit = go (list_all fits_some xs) h; none = λ form. let c = sym a ∙ formed_so k (map zeroed xs) form in absurd cc }
    where
      go : (b : Bool) → (let r : Found = cond b (Err NoSuchForm) (Err BadLine) in r ≡ Err NoSuchForm) → b ≡ true
      go true e = refl
      go false e = absurd cc
  no_form (Err BadLine) e a h = absurd a
  no_form (Err FloatInstruction) e a h = absurd a

  is_no_form : (r : Found) → formed k xs ≡ r → Alike r (formed k (map zeroed xs)) → IsNoForm k xs → judged xs r ≡ Err NoSuchForm
  is_no_form (Ok i) e a h = absurd (h.none (has_form k (map zeroed xs) a.0 a.1))
  is_no_form (Err NumberTooLarge) e a h = absurd (h.none (has_form k (map zeroed xs) a.0 a.1))
  is_no_form (Err NoSuchForm) e a h = rw h.fit refl
  is_no_form (Err BadLine) e a h = absurd a
  is_no_form (Err FloatInstruction) e a h = absurd a

  pub ranges_both : (instruction k xs ≡ Err NumberTooLarge) ↔ IsOutOfRange k xs
  unfolding instruction
  ranges_both = (out_of_range (formed k xs) refl (formed_alike k xs), is_out (formed k xs) refl (formed_alike k xs))

  pub forms_both : (instruction k xs ≡ Err NoSuchForm) ↔ IsNoForm k xs
  unfolding instruction
  forms_both = (no_form (formed k xs) refl (formed_alike k xs), is_no_form (formed k xs) refl (formed_alike k xs))

  not_judged_float : (r : Found) → Alike r (formed k (map zeroed xs)) → judged xs r ≡ Err FloatInstruction → ⊥
  not_judged_float (Ok i) a h = absurd cc
  not_judged_float (Err NumberTooLarge) a h = absurd cc
  not_judged_float (Err NoSuchForm) a h = go (list_all fits_some xs) h
    where
      go : (b : Bool) → (let r : Found = cond b (Err NoSuchForm) (Err BadLine) in r ≡ Err FloatInstruction) → ⊥
      go true e = absurd cc
      go false e = absurd cc
  not_judged_float (Err BadLine) a h = a
  not_judged_float (Err FloatInstruction) a h = a

  pub no_float : instruction k xs ≡ Err FloatInstruction → ⊥
  unfolding instruction
  no_float e = not_judged_float (formed k xs) (formed_alike k xs) e
