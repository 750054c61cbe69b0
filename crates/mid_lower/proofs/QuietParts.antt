-- Parts of initialisers, statements and functions that have no loop and no call of their own.
use Rattle.std.proofs.Common.{◌≡◌, ℕ, zero, suc, ◌+◌, ◌-◌, ◌*◌, ◌%◌, ◌^◌, ◌⊎◌, inl, inr, arith, refl, ap, ◌∙◌, Bool, true, false}
use Rattle.c_types.specs.Types.{Ty, VoidY, IntY, BoolY, EnumY, StructY, UnionY, PointerY, ArrayY}
use Rattle.c_types.specs.Typed.{TArmTs, CaseB, DefaultB, StmtB, NoB, MoreB}
use Rattle.c_types.specs.Kinds.{is_structure}
use Rattle.mid_code.specs.Code.{Stop, TwoO, Do, Choose}
use Rattle.v32_isa.specs.declared.instruction.Two.TheVariants.{ISUB}
use Rattle.lower_trees.specs.Shape.{Shape, words, literal_words}
use Rattle.lower_trees.specs.Pieces.{Nodes, coded}
use Rattle.lower_trees.specs.Parts.{copied_on, zeroed, item, one, result_at}
use Rattle.lower_trees.specs.Initialisers.{part_at, cell_filled, part_filled, part_zeroed, low_text, low_rest, object_to}
use Rattle.lower_trees.specs.Statements.{Jump, ToEnd, ToTurn, jump, low_match, returned}
use Rattle.lower_trees.specs.Lowered.{received}
use Rattle.mid_lower.proofs.Tallies.{Counting, tally, Spared, either_tally, copied_tally, between_tally, copied_on_tally, zeroed_tally}

module _ (k : Counting) where
  -- ---- initialisers

  at_tally : (p offset : ℕ) (c : Nodes) → tally k (coded (part_at p offset) c) ≡ tally k c
  at_tally p zero c = refl
  at_tally p (suc offset) c = refl

  cell_tally : (p offset : ℕ) (c : Nodes) → tally k (coded (cell_filled p offset) c) ≡ tally k c
  cell_tally p zero c = refl
  cell_tally p (suc offset) c = refl

  pub filled_tally : (h : Shape) (ty : Ty) (p offset : ℕ) (c : Nodes) → Spared k (is_structure ty) → tally k (coded (part_filled h ty p offset) c) ≡ tally k c
  filled_tally h ty p offset c (inl e) = either_tally k (is_structure ty) _ _ (tally k c) (at_tally p offset (coded (copied_on (words h ty) item) c) ∙ copied_on_tally k (words h ty) item c e) (cell_tally p offset c)
  filled_tally h ty p offset c (inr s) = rw s (cell_tally p offset c)

  cleared_tally : (p offset size : ℕ) (c : Nodes) → k.loop ≡ 0 → tally k (coded (part_zeroed p offset size) c) ≡ tally k c
  cleared_tally p offset zero c e = refl
  cleared_tally p offset (suc left) c e = at_tally p offset (coded (zeroed (suc left)) c) ∙ zeroed_tally k (suc left) c e

  pub text_tally : (h : Shape) (number size p offset : ℕ) (c : Nodes) → k.loop ≡ 0 → tally k (coded (low_text h number size p offset) c) ≡ tally k c
  text_tally h number size p offset c e =
      at_tally p offset _ ∙ (copied_tally k (literal_words h number) _ e ∙ cleared_tally p ((offset + literal_words h number) % 2 ^ 32) (size - literal_words h number) c e)

  -- the elements of an array that no item fills have no words
  abbrev pub NoRest : Shape → Ty → ℕ → Type 0
  NoRest h (ArrayY of len) j = (k.loop ≡ 0) ⊎ (words h of * (len - j) ≡ 0)
  NoRest h _ j = Unit {0}

  none_cleared : (p offset size : ℕ) (c : Nodes) → size ≡ 0 → tally k (coded (part_zeroed p offset (size % 2 ^ 32)) c) ≡ tally k c
  none_cleared p offset size c e = ap (λ n. tally k (coded (part_zeroed p offset (n % 2 ^ 32)) c)) e

  pub rest_tally : (h : Shape) (ty : Ty) (j p offset : ℕ) (c : Nodes) → NoRest h ty j → tally k (coded (low_rest h ty j p offset) c) ≡ tally k c
  rest_tally h (ArrayY of len) j p offset c (inl e) = cleared_tally p offset (words h of * (len - j) % 2 ^ 32) c e
  rest_tally h (ArrayY of len) j p offset c (inr e) = none_cleared p offset (words h of * (len - j)) c e
  rest_tally h VoidY j p offset c e = refl
  rest_tally h IntY j p offset c e = refl
  rest_tally h BoolY j p offset c e = refl
  rest_tally h (EnumY n) j p offset c e = refl
  rest_tally h (StructY n) j p offset c e = refl
  rest_tally h (UnionY n) j p offset c e = refl
  rest_tally h (PointerY of) j p offset c e = refl

  pub object_tally : (global : Bool) (number t : ℕ) (c : Nodes) → tally k (coded (object_to global number t) c) ≡ tally k c
  object_tally true number t c = refl
  object_tally false number t c = refl

  -- ---- statements and functions

  pub jump_tally : (j : Jump) (c : Nodes) → tally k (coded (jump j) c) ≡ tally k c
  jump_tally (ToEnd i) c = refl
  jump_tally (ToTurn i) c = refl

  pub match_tally : (t i d : ℕ) (arms : TArmTs) → tally k (coded (low_match t i d arms) Stop) ≡ zero
  match_tally t i d NoB = refl
  match_tally t i d (MoreB (CaseB label) rest) = omega (arith, match_tally t (suc i) d rest)
  match_tally t i d (MoreB DefaultB rest) = match_tally t (suc i) d rest
  match_tally t i d (MoreB (StmtB a) rest) = match_tally t i d rest

  pub label_tally : (t : ℕ) (a c : Nodes) → tally k a ≡ zero → tally k c ≡ zero → tally k (Choose t (Do (TwoO ISUB t t one) Stop) a c) ≡ zero
  label_tally t a c e f = omega (arith, e, f)

  pub returned_tally : (h : Shape) (ty : Ty) (t : ℕ) (c : Nodes) → Spared k (is_structure ty) → tally k (coded (returned h ty t) c) ≡ tally k c
  returned_tally h ty t c (inl e) = either_tally k (is_structure ty) _ _ (tally k c) (between_tally k (words h ty) t result_at _ e) refl
  returned_tally h ty t c (inr s) = rw s refl

  pub received_tally : (h : Shape) (ty : Ty) (number a : ℕ) (c : Nodes) → Spared k (is_structure ty) → tally k (coded (received h ty number a) c) ≡ tally k c
  received_tally h ty number a c (inl e) = either_tally k (is_structure ty) _ _ (tally k c) (copied_on_tally k (words h ty) a c e) refl
  received_tally h ty number a c (inr s) = rw s refl
