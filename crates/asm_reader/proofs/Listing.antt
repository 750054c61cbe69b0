-- A loop over the operands of a line.
use Rattle.std.proofs.Common.{◌≡◌, List, [], ◌∷◌, ◌++◌, refl, sym, ap, ◌∙◌, append_assoc, append-nil}
use Rattle.std.specs.Prelude.{Result, Ok, Err}
use Rattle.kit_base.specs.declared.failure.Failure.{Failure}
use Rattle.kit_base.specs.declared.failure.Failure.TheVariants as e
use Rattle.kit_base.specs.Gives.{Fails}
use Rattle.asm_reader.specs.declared.fault.LineFault.{LineFault}
use Rattle.asm_reader.specs.declared.token.Token.{Token}
use Rattle.asm_reader.specs.declared.value.Written.{Written}
use Rattle.asm_reader.specs.Faults.{◌>>=◌, onto}
use Rattle.asm_reader.specs.Operands.{operand, operands_in}

abbrev Due : Type 0
Due = Result (List Written) LineFault

pub none_before : (r : Due) → onto [] r ≡ r
none_before (Ok xs) = refl
none_before (Err fault) = refl

behind : (done : List Written) (x : Written) (r : Due) → onto done (r >>= λ (xs : List Written). Ok (x ∷ xs)) ≡ onto (done ++ x ∷ []) r
behind done x (Ok xs) = ap Ok (sym (append_assoc done (x ∷ []) xs))
behind done x (Err fault) = refl

module _ (done : List Written) (parts : List (List Token)) (part : List Token) (others : List (List Token)) (total : Due) (whole : parts ≡ part ∷ others) (so_far : onto done (operands_in parts) ≡ total) where
  pub turn : (new : List Written) (x : Written) → operand part ≡ Ok x → new ≡ done ++ x ∷ [] → onto new (operands_in others) ≡ total
  unfolding operands_in
  turn new x is pushed =
      let one : operands_in parts ≡ (operands_in others >>= λ (xs : List Written). Ok (x ∷ xs)) = rw (whole, is) refl in
      ap (λ (xs : List Written). onto xs (operands_in others)) pushed ∙ sym (behind done x (operands_in others)) ∙ ap (onto done) (sym one) ∙ so_far

  fault : (f : LineFault) → operand part ≡ Err f → total ≡ Err f
  unfolding operands_in
  fault f is = let one : operands_in parts ≡ Err f = rw (whole, is) refl in sym so_far ∙ ap (onto done) one

  pub fails : (x : Failure LineFault) → Fails x (operand part) → Fails x total
  fails e.Memory is = tt
  fails (e.Cause f) is = fault f is

pub ended : (done : List Written) (total : Due) → onto done (operands_in []) ≡ total → total ≡ Ok done
unfolding operands_in
ended done total so_far = sym so_far ∙ ap Ok (append-nil done)
