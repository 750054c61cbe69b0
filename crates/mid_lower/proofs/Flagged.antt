-- What is told to be a flag is one: its value stays as it is converted to bool.
use Rattle.std.proofs.Common.{◌≡◌, ◌≤◌, ℕ, zero, suc, Bool, true, false, not, ◌==◌, List, Option, Some, None, Ok, Err, refl, subst, arith}
use Rattle.std.proofs.lemmas.Bool.{false≢true, leb-true}
use Rattle.kit_base.specs.Word.{bool_word, below}
use Rattle.c_tree.specs.declared.span.Span.{Span}
use Rattle.c_tree.specs.declared.operator.UnOp.{UnOp}
use Rattle.c_tree.specs.declared.operator.UnOp.TheVariants as un
use Rattle.c_tree.specs.declared.operator.BinOp.{BinOp}
use Rattle.c_tree.specs.declared.operator.BinOp.TheVariants as bin
use Rattle.c_types.specs.Types.{Ty, VoidY, IntY, BoolY, EnumY, StructY, UnionY, PointerY, ArrayY}
use Rattle.c_types.specs.Typed.{TExprT, Typed, TKindT, NumberK, NullK, LiteralK, GlobalK, LocalK, UnaryK, BinaryK, AssignK, StepK, IndexK, MemberK, ArrowK, CastK, CallK, InK, OutK, WaitK, HaltK, CardK}
use Rattle.c_exprs.specs.Nodes.{is_place}
use Rattle.obj_mem.specs.Objects.{ObjectT}
use Rattle.obj_mem.specs.declared.cell.Cell.{Cell}
use Rattle.obj_mem.specs.declared.cell.Cell.TheVariants.{Num}
use Rattle.obj_mem.specs.declared.refusal.Refusal.TheVariants.{Strays, Faults}
use Rattle.obj_mem.specs.Worlds.{World, spend}
use Rattle.obj_mem.specs.Queries.{Answer, then_ask, word_of, equal_pointers, offsets}
use Rattle.c_meaning.specs.Kinds.{type_of, span_of}
use Rattle.c_types.specs.Kinds.{decayed, pointed, is_pointer}
use Rattle.c_meaning.specs.Outcomes.{Val, Value, Place, NoValue, Stops, Went, Through, CutOff, Before, asked, then_value, then_place, then_went, either_way}
use Rattle.c_meaning.specs.Setting.{Setting, words}
use Rattle.c_meaning.specs.Operators.{converted, is_true, cell_binary, pointer_operated, operated_on, operated, read_as}
use Rattle.c_meaning.specs.Cells.{stored}
use Rattle.c_meaning.specs.Expressions as src
use Rattle.c_meaning.specs.Expressions.{evaluated, value_of}
use Rattle.lower_trees.specs.Flags.{is_bool, is_not, is_comparison, is_flag, is_flag_kind}

-- a cell that stays as it is converted
abbrev pub IsFlag : Cell → Type 0
IsFlag c = converted BoolY c ≡ Ok c

abbrev pub Flagged : Val → Type 0
Flagged (Value c w) = IsFlag c
Flagged (Place p w) = Unit {0}
Flagged (NoValue w) = Unit {0}
Flagged (Stops f w) = Unit {0}

abbrev pub FlagAnswer : Answer Cell → Type 0
FlagAnswer (Ok c) = IsFlag c
FlagAnswer (Err r) = Unit {0}

pub bool_flag : (b : Bool) → IsFlag (Num (bool_word b))
bool_flag true = refl
bool_flag false = refl

-- ---- what is asked

pub then_flag : {A : Type 0} (q : Answer A) (go : A → Answer Cell) → ((a : A) → FlagAnswer (go a)) → FlagAnswer (then_ask q go)
then_flag (Ok a) go f = f a
then_flag (Err r) go f = tt

words_flag : (o : BinOp) → is_comparison o ≡ true → (c d : Cell) → FlagAnswer (cell_binary o c d)
words_flag bin.Less e c d = then_flag (word_of c) _ (λ x. then_flag (word_of d) _ (λ y. bool_flag (below x y)))
words_flag bin.LessEq e c d = then_flag (word_of c) _ (λ x. then_flag (word_of d) _ (λ y. bool_flag (not (below y x))))
words_flag bin.More e c d = then_flag (word_of c) _ (λ x. then_flag (word_of d) _ (λ y. bool_flag (below y x)))
words_flag bin.MoreEq e c d = then_flag (word_of c) _ (λ x. then_flag (word_of d) _ (λ y. bool_flag (not (below x y))))
words_flag bin.Equal e c d = then_flag (word_of c) _ (λ x. then_flag (word_of d) _ (λ y. bool_flag (x == y)))
words_flag bin.NotEqual e c d = then_flag (word_of c) _ (λ x. then_flag (word_of d) _ (λ y. bool_flag (not (x == y))))
words_flag bin.AndAlso e c d = then_flag (word_of c) _ (λ x. then_flag (word_of d) _ (λ y. tt))
words_flag bin.OrElse e c d = then_flag (word_of c) _ (λ x. then_flag (word_of d) _ (λ y. tt))
words_flag bin.Mul e c d = absurd (false≢true e)
words_flag bin.Div e c d = absurd (false≢true e)
words_flag bin.Mod e c d = absurd (false≢true e)
words_flag bin.Add e c d = absurd (false≢true e)
words_flag bin.Sub e c d = absurd (false≢true e)
words_flag bin.Shl e c d = absurd (false≢true e)
words_flag bin.Shr e c d = absurd (false≢true e)
words_flag bin.BitAnd e c d = absurd (false≢true e)
words_flag bin.BitXor e c d = absurd (false≢true e)
words_flag bin.BitOr e c d = absurd (false≢true e)

pointers_flag : (o : BinOp) → is_comparison o ≡ true → (size : ℕ) (two : Bool) (os : List ObjectT) (c d : Cell) → FlagAnswer (pointer_operated o size two os c d)
pointers_flag bin.Less e size two os c d = then_flag (offsets os c d) _ (λ at. bool_flag (below at.0 at.1))
pointers_flag bin.LessEq e size two os c d = then_flag (offsets os c d) _ (λ at. bool_flag (not (below at.1 at.0)))
pointers_flag bin.More e size two os c d = then_flag (offsets os c d) _ (λ at. bool_flag (below at.1 at.0))
pointers_flag bin.MoreEq e size two os c d = then_flag (offsets os c d) _ (λ at. bool_flag (not (below at.0 at.1)))
pointers_flag bin.Equal e size two os c d = then_flag (equal_pointers os c d) _ (λ b. bool_flag b)
pointers_flag bin.NotEqual e size two os c d = then_flag (equal_pointers os c d) _ (λ b. bool_flag (not b))
pointers_flag bin.AndAlso e size two os c d = tt
pointers_flag bin.OrElse e size two os c d = tt
pointers_flag bin.Mul e size two os c d = tt
pointers_flag bin.Div e size two os c d = tt
pointers_flag bin.Mod e size two os c d = tt
pointers_flag bin.Shl e size two os c d = tt
pointers_flag bin.Shr e size two os c d = tt
pointers_flag bin.BitAnd e size two os c d = tt
pointers_flag bin.BitXor e size two os c d = tt
pointers_flag bin.BitOr e size two os c d = tt
pointers_flag bin.Add e size two os c d = absurd (false≢true e)
pointers_flag bin.Sub e size two os c d = absurd (false≢true e)

on_flag : (s : Setting) (o : BinOp) → is_comparison o ≡ true → (ty : Option Ty) (two : Bool) (os : List ObjectT) (c d : Cell) → FlagAnswer (operated_on s o ty two os c d)
on_flag s o e None two os c d = words_flag o e c d
on_flag s o e (Some ty) two os c d = pointers_flag o e (words s ty) two os c d

converts_flag : (ty : Ty) → is_bool ty ≡ true → (c : Cell) → FlagAnswer (converted ty c)
converts_flag BoolY e c = then_flag (word_of c) _ (λ x. bool_flag (not (x == 0)))
converts_flag VoidY e c = absurd (false≢true e)
converts_flag IntY e c = absurd (false≢true e)
converts_flag (EnumY k) e c = absurd (false≢true e)
converts_flag (StructY k) e c = absurd (false≢true e)
converts_flag (UnionY k) e c = absurd (false≢true e)
converts_flag (PointerY ty) e c = absurd (false≢true e)
converts_flag (ArrayY ty n) e c = absurd (false≢true e)

-- ---- what expressions come to

value_flag : (span : Span) (v : Val) (go : Cell → World → Val) → ((c : Cell) (w : World) → Flagged (go c w)) → Flagged (then_value Stops span v go)
value_flag span (Value c w) go f = f c w
value_flag span (Place p w) go f = tt
value_flag span (NoValue w) go f = tt
value_flag span (Stops e w) go f = tt

place_flag : (span : Span) (v : Val) (go : Cell → World → Val) → ((c : Cell) (w : World) → Flagged (go c w)) → Flagged (then_place span v go)
place_flag span (Value c w) go f = tt
place_flag span (Place p w) go f = f p w
place_flag span (NoValue w) go f = tt
place_flag span (Stops e w) go f = tt

asked_flag : {A : Type 0} (span : Span) (w : World) (q : Answer A) (go : A → Val) → ((a : A) → Flagged (go a)) → Flagged (asked Stops span w q go)
asked_flag span w (Ok a) go f = f a
asked_flag span w (Err Strays) go f = tt
asked_flag span w (Err (Faults k)) go f = tt

answer_flag : (span : Span) (w : World) (q : Answer Cell) (go : Cell → Val) → FlagAnswer q → ((c : Cell) → IsFlag c → Flagged (go c)) → Flagged (asked Stops span w q go)
answer_flag span w (Ok c) go h f = f c h
answer_flag span w (Err Strays) go h f = tt
answer_flag span w (Err (Faults k)) go h f = tt

went_flag : (v : Went) (c : Cell) → IsFlag c → Flagged (then_went Stops v (λ u. Value c u))
went_flag (Through w) c h = h
went_flag (CutOff f w) c h = tt

either_flag : (b : Bool) (w : World) (go other : World → Val) → ((u : World) → Flagged (go u)) → ((u : World) → Flagged (other u)) → Flagged (either_way b w go other)
either_flag true w go other f g = f w
either_flag false w go other f g = g w

number_flag : (n : ℕ) → is_flag_kind (NumberK n) IntY ≡ true → IsFlag (Num n)
number_flag zero e = refl
number_flag (suc zero) e = refl
number_flag (suc (suc n)) e = let le : suc (suc n) ≤ 1 = leb-true (suc (suc n)) 1 e in absurd (omega arith)

module _ (s : Setting) (bd : ℕ) (prev : Before) where
  tested_flag : (x : TExprT) (v : Val) (go other : World → Val) → ((u : World) → Flagged (go u)) → ((u : World) → Flagged (other u)) → Flagged (src.tested Stops s bd x v go other)
  tested_flag x v go other f g = value_flag (span_of x) (value_of s bd x v) _ (λ c w. asked_flag (span_of x) w (is_true w.store.objects (decayed (type_of x)) c) _ (λ b. either_flag b w go other f g))

  truth_flag : (x : TExprT) (v : Val) → Flagged (src.truth_of s bd x v)
  truth_flag x v = tested_flag x v _ _ (λ u. refl) (λ u. refl)

  assigned_flag : (x : TExprT) → is_bool (type_of x) ≡ true → (span : Span) (p c : Cell) (w : World) → Flagged (src.assigned s bd x span p c w)
  assigned_flag x e span p c w = answer_flag span w (converted (type_of x) c) _ (converts_flag (type_of x) e c) (λ z h. went_flag (stored s bd 0 (type_of x) (span_of x) p z w) z h)

  both_flag : (o : BinOp) → is_comparison o ≡ true → (x y : TExprT) (span : Span) (v : Val) (second : World → Val) → Flagged (src.both_operated s bd o x y span v second)
  both_flag o e x y span v second =
      value_flag (span_of x) (value_of s bd x v) _ (λ c w. value_flag (span_of y) (value_of s bd y (second w)) _ (λ d u.
      answer_flag span u (operated s o (type_of x) (type_of y) u.store.objects c d) _ (on_flag s o e (pointed (decayed (type_of x))) (is_pointer (decayed (type_of y))) u.store.objects c d) (λ z h. h)))

  binary_flag : (o : BinOp) → is_comparison o ≡ true → (x y : TExprT) (span : Span) (v : Val) (second : World → Val) → Flagged (src.binary s bd o x y span v second)
  binary_flag bin.AndAlso e x y span v second = tested_flag x v _ _ (λ u. truth_flag y (second u)) (λ u. refl)
  binary_flag bin.OrElse e x y span v second = tested_flag x v _ _ (λ u. refl) (λ u. truth_flag y (second u))
  binary_flag bin.Less e x y span v second = both_flag bin.Less e x y span v second
  binary_flag bin.LessEq e x y span v second = both_flag bin.LessEq e x y span v second
  binary_flag bin.More e x y span v second = both_flag bin.More e x y span v second
  binary_flag bin.MoreEq e x y span v second = both_flag bin.MoreEq e x y span v second
  binary_flag bin.Equal e x y span v second = both_flag bin.Equal e x y span v second
  binary_flag bin.NotEqual e x y span v second = both_flag bin.NotEqual e x y span v second
  binary_flag bin.Mul e x y span v second = absurd (false≢true e)
  binary_flag bin.Div e x y span v second = absurd (false≢true e)
  binary_flag bin.Mod e x y span v second = absurd (false≢true e)
  binary_flag bin.Add e x y span v second = absurd (false≢true e)
  binary_flag bin.Sub e x y span v second = absurd (false≢true e)
  binary_flag bin.Shl e x y span v second = absurd (false≢true e)
  binary_flag bin.Shr e x y span v second = absurd (false≢true e)
  binary_flag bin.BitAnd e x y span v second = absurd (false≢true e)
  binary_flag bin.BitXor e x y span v second = absurd (false≢true e)
  binary_flag bin.BitOr e x y span v second = absurd (false≢true e)

  assign_flag : (o : Option BinOp) (x y : TExprT) → is_bool (type_of x) ≡ true → (span : Span) (v : Val) (second : World → Val) → Flagged (src.assign s bd o x y span v second)
  assign_flag None x y e span v second = place_flag span v _ (λ p w. value_flag (span_of y) (value_of s bd y (second w)) _ (λ c u. assigned_flag x e span p c u))
  assign_flag (Some o) x y e span v second =
      place_flag span v _ (λ p w. value_flag (span_of y) (value_of s bd y (second w)) _ (λ c u. asked_flag (span_of x) u (read_as (type_of x) u.store.objects p) _ (λ old. asked_flag span u (operated s o (type_of x) (type_of y) u.store.objects old c) _ (λ z. assigned_flag x e span p z u))))

  unary_flag : (o : UnOp) (x : TExprT) → is_not o ≡ true → (span : Span) (v : Val) → Flagged (src.unary s bd o x span v)
  unary_flag un.Not x e span v = tested_flag x v _ _ (λ u. refl) (λ u. refl)
  unary_flag un.Deref x e span v = absurd (false≢true e)
  unary_flag un.Address x e span v = absurd (false≢true e)
  unary_flag un.Minus x e span v = absurd (false≢true e)
  unary_flag un.Plus x e span v = absurd (false≢true e)
  unary_flag un.Flip x e span v = absurd (false≢true e)

  kind_flag : (kind : TKindT) (ty : Ty) (span : Span) (w : World) → is_flag_kind kind ty ≡ true → Flagged (src.evaluated_kind s bd prev kind ty span w)
  kind_flag (NumberK n) ty span w e = number_flag n e
  kind_flag (UnaryK o x) ty span w e = unary_flag o x e span (evaluated s bd prev x w)
  kind_flag (BinaryK o x y) ty span w e = binary_flag o e x y span (evaluated s bd prev x w) (evaluated s bd prev y)
  kind_flag (AssignK o x y) ty span w e = assign_flag o x y e span (evaluated s bd prev x w) (evaluated s bd prev y)
  kind_flag (CastK x) ty span w e = value_flag (span_of x) (value_of s bd x (evaluated s bd prev x w)) _ (λ c u. answer_flag span u (converted ty c) _ (converts_flag ty e c) (λ z h. h))
  kind_flag NullK ty span w e = absurd (false≢true e)
  kind_flag (LiteralK k) ty span w e = absurd (false≢true e)
  kind_flag (GlobalK k) ty span w e = absurd (false≢true e)
  kind_flag (LocalK k) ty span w e = absurd (false≢true e)
  kind_flag (StepK o x) ty span w e = absurd (false≢true e)
  kind_flag (IndexK x y) ty span w e = absurd (false≢true e)
  kind_flag (MemberK x k) ty span w e = absurd (false≢true e)
  kind_flag (ArrowK x k) ty span w e = absurd (false≢true e)
  kind_flag (CallK f xs) ty span w e = absurd (false≢true e)
  kind_flag (InK p) ty span w e = absurd (false≢true e)
  kind_flag (OutK p x) ty span w e = absurd (false≢true e)
  kind_flag WaitK ty span w e = absurd (false≢true e)
  kind_flag HaltK ty span w e = absurd (false≢true e)
  kind_flag CardK ty span w e = absurd (false≢true e)

  -- the value of a flag
  pub is_flagged : (x : TExprT) (w : World) → is_flag x ≡ true → Flagged (evaluated s bd prev x w)
  is_flagged (Typed kind ty span) w e = kind_flag kind ty span (spend 1 w) e

flag_of : (r : Val) (c : Cell) (w : World) → r ≡ Value c w → Flagged r → IsFlag c
flag_of r c w e f = subst Flagged e f

pub flag_value : (s : Setting) (bd : ℕ) (prev : Before) (x : TExprT) (w : World) (c : Cell) (u : World) → evaluated s bd prev x w ≡ Value c u → is_flag x ≡ true → IsFlag c
flag_value s bd prev x w c u e f = flag_of (evaluated s bd prev x w) c u e (is_flagged s bd prev x w f)

-- no place is told to be a flag
pub no_flag : (x : TExprT) → is_place x ≡ true → is_flag x ≡ false
no_flag (Typed (LiteralK k) ty span) e = refl
no_flag (Typed (GlobalK k) ty span) e = refl
no_flag (Typed (LocalK k) ty span) e = refl
no_flag (Typed (UnaryK un.Deref x) ty span) e = refl
no_flag (Typed (UnaryK un.Not x) ty span) e = absurd (false≢true e)
no_flag (Typed (UnaryK un.Address x) ty span) e = refl
no_flag (Typed (UnaryK un.Minus x) ty span) e = refl
no_flag (Typed (UnaryK un.Plus x) ty span) e = refl
no_flag (Typed (UnaryK un.Flip x) ty span) e = refl
no_flag (Typed (IndexK x y) ty span) e = refl
no_flag (Typed (MemberK x k) ty span) e = refl
no_flag (Typed (ArrowK x k) ty span) e = refl
no_flag (Typed (NumberK n) ty span) e = absurd (false≢true e)
no_flag (Typed NullK ty span) e = refl
no_flag (Typed (BinaryK o x y) ty span) e = absurd (false≢true e)
no_flag (Typed (AssignK o x y) ty span) e = absurd (false≢true e)
no_flag (Typed (StepK o x) ty span) e = refl
no_flag (Typed (CastK x) ty span) e = absurd (false≢true e)
no_flag (Typed (CallK f xs) ty span) e = refl
no_flag (Typed (InK p) ty span) e = refl
no_flag (Typed (OutK p x) ty span) e = refl
no_flag (Typed WaitK ty span) e = refl
no_flag (Typed HaltK ty span) e = refl
no_flag (Typed CardK ty span) e = refl
