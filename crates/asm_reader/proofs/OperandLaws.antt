-- The operands that are read are those that the tokens spell, both ways.
use Rattle.std.proofs.Common.{◌≡◌, ℕ, Bool, true, false, not, List, [], ◌∷◌, refl, sym, ap, subst, ◌∙◌, inl, inr}
use Rattle.std.specs.Prelude.{◌↔◌, Option, Result, Ok}
use Rattle.asm_reader.specs.declared.fault.LineFault.{LineFault}
use Rattle.asm_reader.specs.declared.token.Token.{Token}
use Rattle.asm_reader.specs.declared.token.Token.TheVariants as t
use Rattle.asm_reader.specs.declared.value.Value.TheVariants.{Number, Label}
use Rattle.asm_reader.specs.declared.value.Written.{Written}
use Rattle.asm_reader.specs.declared.value.Written.TheVariants as w
use Rattle.asm_reader.specs.Operands.{plain, inside_one, inside_two, inside_three, joined_to, added_to, taken_from, signed_to, closed_by, opened_by, bracketed, operand}
use Rattle.asm_reader.specs.Grammar.{IsOperand}
use Rattle.asm_reader.proofs.FormLaws.{ok_is}

not_not : (b : Bool) → not (not b) ≡ b
not_not true = refl
not_not false = refl

is_at : (ts : List Token) (x y : Written) → (let r : Result Written LineFault = Ok x in r ≡ Ok y) → IsOperand ts x → IsOperand ts y
is_at ts x y h is = let P : Written → Type 0 = λ z. IsOperand ts z in subst P (ok_is h) is

plain_is : (x : Token) (y : Written) → plain x ≡ Ok y → IsOperand (x ∷ []) y
unfolding plain
plain_is t.Float y h = absurd cc
plain_is (t.Operation x1) y h = absurd cc
plain_is (t.Data x1) y h = absurd cc
plain_is (t.Register r) y h = is_at (t.Register r ∷ []) _ y h refl
plain_is (t.Port p) y h = is_at (t.Port p ∷ []) _ y h refl
plain_is (t.Label n) y h = is_at (t.Label n ∷ []) _ y h refl
plain_is (t.Number s m) y h = is_at (t.Number s m ∷ []) _ y h refl
plain_is (t.Text x1) y h = absurd cc
plain_is t.Colon y h = absurd cc
plain_is t.Comma y h = absurd cc
plain_is t.Open y h = absurd cc
plain_is t.Close y h = absurd cc
plain_is t.Plus y h = absurd cc
plain_is t.Minus y h = absurd cc
plain_is t.Stray y h = absurd cc

abbrev one_inside : Token → List Token
one_inside x = t.Open ∷ x ∷ t.Close ∷ []

one_is : (x : Token) (y : Written) → inside_one x ≡ Ok y → IsOperand (one_inside x) y
unfolding inside_one
one_is t.Float y h = absurd cc
one_is (t.Operation x1) y h = absurd cc
one_is (t.Data x1) y h = absurd cc
one_is (t.Register r) y h = is_at (one_inside (t.Register r)) _ y h refl
one_is (t.Port p) y h = absurd cc
one_is (t.Label n) y h = is_at (one_inside (t.Label n)) _ y h refl
one_is (t.Number s m) y h = is_at (one_inside (t.Number s m)) _ y h refl
one_is (t.Text x1) y h = absurd cc
one_is t.Colon y h = absurd cc
one_is t.Comma y h = absurd cc
one_is t.Open y h = absurd cc
one_is t.Close y h = absurd cc
one_is t.Plus y h = absurd cc
one_is t.Minus y h = absurd cc
one_is t.Stray y h = absurd cc

abbrev two_inside : Token → Token → List Token
two_inside x z = t.Open ∷ x ∷ z ∷ t.Close ∷ []

joined_number : (b : ℕ) (s : Bool) (m : Option ℕ) (y : Written) → joined_to b (t.Number s m) ≡ Ok y → IsOperand (two_inside (t.Register b) (t.Number s m)) y
joined_number b true m y h = is_at (two_inside (t.Register b) (t.Number true m)) _ y h (inr (inr (refl, refl)))
joined_number b false m y h = absurd cc

joined_is : (b : ℕ) (z : Token) (y : Written) → joined_to b z ≡ Ok y → IsOperand (two_inside (t.Register b) z) y
joined_is b t.Float y h = absurd cc
joined_is b (t.Operation x1) y h = absurd cc
joined_is b (t.Data x1) y h = absurd cc
joined_is b (t.Register r) y h = absurd cc
joined_is b (t.Port p) y h = absurd cc
joined_is b (t.Label n) y h = absurd cc
joined_is b (t.Number s m) y h = joined_number b s m y h
joined_is b (t.Text x1) y h = absurd cc
joined_is b t.Colon y h = absurd cc
joined_is b t.Comma y h = absurd cc
joined_is b t.Open y h = absurd cc
joined_is b t.Close y h = absurd cc
joined_is b t.Plus y h = absurd cc
joined_is b t.Minus y h = absurd cc
joined_is b t.Stray y h = absurd cc

two_is : (x z : Token) (y : Written) → inside_two x z ≡ Ok y → IsOperand (two_inside x z) y
unfolding inside_two
two_is t.Float z y h = absurd cc
two_is (t.Operation x1) z y h = absurd cc
two_is (t.Data x1) z y h = absurd cc
two_is (t.Register r) z y h = joined_is r z y h
two_is (t.Port p) z y h = absurd cc
two_is (t.Label n) z y h = absurd cc
two_is (t.Number s m) z y h = absurd cc
two_is (t.Text x1) z y h = absurd cc
two_is t.Colon z y h = absurd cc
two_is t.Comma z y h = absurd cc
two_is t.Open z y h = absurd cc
two_is t.Close z y h = absurd cc
two_is t.Plus z y h = absurd cc
two_is t.Minus z y h = absurd cc
two_is t.Stray z y h = absurd cc

abbrev three_inside : Token → Token → Token → List Token
three_inside x sign z = t.Open ∷ x ∷ sign ∷ z ∷ t.Close ∷ []

added_is : (b : ℕ) (z : Token) (y : Written) → added_to b z ≡ Ok y → IsOperand (three_inside (t.Register b) t.Plus z) y
added_is b t.Float y h = absurd cc
added_is b (t.Operation x1) y h = absurd cc
added_is b (t.Data x1) y h = absurd cc
added_is b (t.Register r) y h = absurd cc
added_is b (t.Port p) y h = absurd cc
added_is b (t.Label n) y h = is_at (three_inside (t.Register b) t.Plus (t.Label n)) _ y h (inl refl)
added_is b (t.Number s m) y h = is_at (three_inside (t.Register b) t.Plus (t.Number s m)) _ y h (inl refl)
added_is b (t.Text x1) y h = absurd cc
added_is b t.Colon y h = absurd cc
added_is b t.Comma y h = absurd cc
added_is b t.Open y h = absurd cc
added_is b t.Close y h = absurd cc
added_is b t.Plus y h = absurd cc
added_is b t.Minus y h = absurd cc
added_is b t.Stray y h = absurd cc

taken_is : (b : ℕ) (z : Token) (y : Written) → taken_from b z ≡ Ok y → IsOperand (three_inside (t.Register b) t.Minus z) y
taken_is b t.Float y h = absurd cc
taken_is b (t.Operation x1) y h = absurd cc
taken_is b (t.Data x1) y h = absurd cc
taken_is b (t.Register r) y h = absurd cc
taken_is b (t.Port p) y h = absurd cc
taken_is b (t.Label n) y h = absurd cc
taken_is b (t.Number s m) y h = is_at (three_inside (t.Register b) t.Minus (t.Number s m)) _ y h (inr (inl (ap (λ (n : Bool). three_inside (t.Register b) t.Minus (t.Number n m)) (sym (not_not s)))))
taken_is b (t.Text x1) y h = absurd cc
taken_is b t.Colon y h = absurd cc
taken_is b t.Comma y h = absurd cc
taken_is b t.Open y h = absurd cc
taken_is b t.Close y h = absurd cc
taken_is b t.Plus y h = absurd cc
taken_is b t.Minus y h = absurd cc
taken_is b t.Stray y h = absurd cc

signed_is : (b : ℕ) (sign z : Token) (y : Written) → signed_to b sign z ≡ Ok y → IsOperand (three_inside (t.Register b) sign z) y
signed_is b t.Float z y h = absurd cc
signed_is b (t.Operation x1) z y h = absurd cc
signed_is b (t.Data x1) z y h = absurd cc
signed_is b (t.Register r) z y h = absurd cc
signed_is b (t.Port p) z y h = absurd cc
signed_is b (t.Label n) z y h = absurd cc
signed_is b (t.Number s m) z y h = absurd cc
signed_is b (t.Text x1) z y h = absurd cc
signed_is b t.Colon z y h = absurd cc
signed_is b t.Comma z y h = absurd cc
signed_is b t.Open z y h = absurd cc
signed_is b t.Close z y h = absurd cc
signed_is b t.Plus z y h = added_is b z y h
signed_is b t.Minus z y h = taken_is b z y h
signed_is b t.Stray z y h = absurd cc

three_is : (x sign z : Token) (y : Written) → inside_three x sign z ≡ Ok y → IsOperand (three_inside x sign z) y
unfolding inside_three
three_is t.Float sign z y h = absurd cc
three_is (t.Operation x1) sign z y h = absurd cc
three_is (t.Data x1) sign z y h = absurd cc
three_is (t.Register r) sign z y h = signed_is r sign z y h
three_is (t.Port p) sign z y h = absurd cc
three_is (t.Label n) sign z y h = absurd cc
three_is (t.Number s m) sign z y h = absurd cc
three_is (t.Text x1) sign z y h = absurd cc
three_is t.Colon sign z y h = absurd cc
three_is t.Comma sign z y h = absurd cc
three_is t.Open sign z y h = absurd cc
three_is t.Close sign z y h = absurd cc
three_is t.Plus sign z y h = absurd cc
three_is t.Minus sign z y h = absurd cc
three_is t.Stray sign z y h = absurd cc

abbrev Inside : Type 0
Inside = Result Written LineFault

pub record Closed (x : Token) (inside : Inside) (y : Written) : Type 0 where
  pub closes : x ≡ t.Close
  pub within : inside ≡ Ok y

closed_is : (x : Token) (inside : Inside) (y : Written) → closed_by x inside ≡ Ok y → Closed x inside y
closed_is t.Float inside y h = absurd cc
closed_is (t.Operation x1) inside y h = absurd cc
closed_is (t.Data x1) inside y h = absurd cc
closed_is (t.Register r) inside y h = absurd cc
closed_is (t.Port p) inside y h = absurd cc
closed_is (t.Label n) inside y h = absurd cc
closed_is (t.Number s m) inside y h = absurd cc
closed_is (t.Text x1) inside y h = absurd cc
closed_is t.Colon inside y h = absurd cc
closed_is t.Comma inside y h = absurd cc
closed_is t.Open inside y h = absurd cc
closed_is t.Close inside y h = record { closes = refl; within = h }
closed_is t.Plus inside y h = absurd cc
closed_is t.Minus inside y h = absurd cc
closed_is t.Stray inside y h = absurd cc

bracketed_is : (us : List Token) (y : Written) → bracketed us ≡ Ok y → IsOperand (t.Open ∷ us) y
unfolding bracketed
bracketed_is [] y h = absurd cc
bracketed_is (a ∷ []) y h = absurd cc
bracketed_is (a ∷ b ∷ []) y h =
    let c = closed_is b (inside_one a) y h in
    let P : Token → Type 0 = λ z. IsOperand (t.Open ∷ a ∷ z ∷ []) y in
    subst P (sym c.closes) (one_is a y c.within)
bracketed_is (a ∷ b ∷ d ∷ []) y h =
    let c = closed_is d (inside_two a b) y h in
    let P : Token → Type 0 = λ z. IsOperand (t.Open ∷ a ∷ b ∷ z ∷ []) y in
    subst P (sym c.closes) (two_is a b y c.within)
bracketed_is (a ∷ b ∷ d ∷ e ∷ []) y h =
    let c = closed_is e (inside_three a b d) y h in
    let P : Token → Type 0 = λ z. IsOperand (t.Open ∷ a ∷ b ∷ d ∷ z ∷ []) y in
    subst P (sym c.closes) (three_is a b d y c.within)
bracketed_is (a ∷ b ∷ d ∷ e ∷ f ∷ more) y h = absurd cc

opened_is : (x : Token) (us : List Token) (y : Written) → opened_by x (bracketed us) ≡ Ok y → IsOperand (x ∷ us) y
opened_is t.Float us y h = absurd cc
opened_is (t.Operation x1) us y h = absurd cc
opened_is (t.Data x1) us y h = absurd cc
opened_is (t.Register r) us y h = absurd cc
opened_is (t.Port p) us y h = absurd cc
opened_is (t.Label n) us y h = absurd cc
opened_is (t.Number s m) us y h = absurd cc
opened_is (t.Text x1) us y h = absurd cc
opened_is t.Colon us y h = absurd cc
opened_is t.Comma us y h = absurd cc
opened_is t.Open us y h = bracketed_is us y h
opened_is t.Close us y h = absurd cc
opened_is t.Plus us y h = absurd cc
opened_is t.Minus us y h = absurd cc
opened_is t.Stray us y h = absurd cc

pub read_operands_are_spelled : (ts : List Token) (y : Written) → operand ts ≡ Ok y → IsOperand ts y
unfolding operand
read_operands_are_spelled [] y h = absurd cc
read_operands_are_spelled (x ∷ []) y h = plain_is x y h
read_operands_are_spelled (x ∷ z ∷ more) y h = opened_is x (z ∷ more) y h

pub spelled_operands_are_read : (ts : List Token) (y : Written) → IsOperand ts y → operand ts ≡ Ok y
unfolding operand plain bracketed inside_one inside_two inside_three
spelled_operands_are_read ts (w.Register a) h = ap operand h
spelled_operands_are_read ts (w.Port p) h = ap operand h
spelled_operands_are_read ts (w.Value (Number s m)) h = ap operand h
spelled_operands_are_read ts (w.Value (Label n)) h = ap operand h
spelled_operands_are_read ts (w.AtRegister b) h = ap operand h
spelled_operands_are_read ts (w.AtValue (Number s m)) h = ap operand h
spelled_operands_are_read ts (w.AtValue (Label n)) h = ap operand h
spelled_operands_are_read ts (w.AtOffset b (Number s m)) (inl h) = ap operand h
spelled_operands_are_read ts (w.AtOffset b (Number s m)) (inr (inl h)) = ap operand h ∙ ap (λ (n : Bool). Ok (w.AtOffset b (Number n m))) (not_not s)
spelled_operands_are_read ts (w.AtOffset b (Number s m)) (inr (inr h)) = ap operand h.1 ∙ ap (λ (n : Bool). Ok (w.AtOffset b (Number n m))) (sym h.0)
spelled_operands_are_read ts (w.AtOffset b (Label n)) (inl h) = ap operand h
spelled_operands_are_read ts (w.AtOffset b (Label n)) (inr h) = absurd h

pub operands_both_ways : (ts : List Token) (y : Written) → (operand ts ≡ Ok y) ↔ IsOperand ts y
operands_both_ways ts y = (read_operands_are_spelled ts y, spelled_operands_are_read ts y)
