-- What comes at once of an operator with two operands.
use Rattle.std.proofs.Common.{rules, ◌≡◌, ℕ, List, suc, ◌-◌, true, sym, ap, subst, ◌∙◌}
use Rattle.std.specs.Prelude.{Option, Some}
use Rattle.c_tree.specs.declared.span.Span.{Span}
use Rattle.c_tree.specs.declared.operator.BinOp.{BinOp}
use Rattle.c_types.specs.Types.{Ty}
use Rattle.c_types.specs.Typed.{TExprT, Typed, BinaryK, IndexK}
use Rattle.c_types.specs.declared.typed.TExpr.{TExpr, the_lemmas}
use Rattle.c_types.specs.View.{ctype, texpr}
use Rattle.obj_mem.specs.declared.cell.Cell.{Cell}
use Rattle.obj_mem.specs.Stores.{Store}
use Rattle.c_meaning.specs.Kinds.{type_of}
use Rattle.c_meaning.specs.Setting.{Setting}
use Rattle.c_evaluate.specs.declared.frame.Outcome.{Outcome}
use Rattle.c_evaluate.specs.inner.Swift.{with_some, is_strict, strict_at_once, binary_at_once, index_at_once, comes, when, is_word, binary_worth, worth}

pub type_is : (x : TExpr) → type_of (texpr x) ≡ ctype x.ty
type_is x = search (rules, the_lemmas)

module _ (s : Setting) (x y : TExprT) (ty : Ty) (span : Span) (u : Store) (v : Outcome) (o r : Option Outcome) where
  index_below : (m : ℕ) → comes s m x u ≡ Some v → o ≡ comes s m y u → r ≡ with_some o (λ w. index_at_once s ty (type_of x) (type_of y) v w u) → r ≡ comes s (suc m) (Typed (IndexK x y) ty span) u
  unfolding comes
  index_below m f g h = h ∙ ap (λ q. with_some q (λ w. index_at_once s ty (type_of x) (type_of y) v w u)) g ∙ sym (ap (λ q. with_some q (λ v. with_some (comes s m y u) (λ w. index_at_once s ty (type_of x) (type_of y) v w u))) f)

  pub index_comes : (n : ℕ) → n ≡ suc (n - 1) → comes s (n - 1) x u ≡ Some v → o ≡ comes s (n - 1) y u → r ≡ with_some o (λ w. index_at_once s ty (type_of x) (type_of y) v w u) → r ≡ comes s n (Typed (IndexK x y) ty span) u
  index_comes n e f g h = subst (λ k. r ≡ comes s k (Typed (IndexK x y) ty span) u) (sym e) (index_below (n - 1) f g h)

  binary_below : (op : BinOp) (m : ℕ) → is_strict op ≡ true → comes s m x u ≡ Some v → o ≡ comes s m y u → r ≡ with_some o (λ w. binary_at_once s op (type_of x) (type_of y) v w u) → r ≡ comes s (suc m) (Typed (BinaryK op x y) ty span) u
  unfolding comes
  binary_below op m e f g h = h ∙ ap (λ q. with_some q (λ w. binary_at_once s op (type_of x) (type_of y) v w u)) g ∙ sym (ap (λ b. strict_at_once b (with_some (comes s m x u) (λ v. with_some (comes s m y u) (λ w. binary_at_once s op (type_of x) (type_of y) v w u)))) e
      ∙ ap (λ q. with_some q (λ v. with_some (comes s m y u) (λ w. binary_at_once s op (type_of x) (type_of y) v w u))) f)

  pub binary_comes : (op : BinOp) (n : ℕ) → n ≡ suc (n - 1) → is_strict op ≡ true → comes s (n - 1) x u ≡ Some v → o ≡ comes s (n - 1) y u → r ≡ with_some o (λ w. binary_at_once s op (type_of x) (type_of y) v w u) → r ≡ comes s n (Typed (BinaryK op x y) ty span) u
  binary_comes op n e i f g h = subst (λ k. r ≡ comes s k (Typed (BinaryK op x y) ty span) u) (sym e) (binary_below op (n - 1) i f g h)

module _ (vs : List Cell) (x y : TExprT) (ty : Ty) (span : Span) (a : ℕ) (o r : Option ℕ) where
  worth_below : (op : BinOp) (m : ℕ) → is_strict op ≡ true → is_word (type_of x) ≡ true → worth m vs x ≡ Some a → o ≡ worth m vs y → r ≡ with_some o (λ b. binary_worth op a b) → r ≡ worth (suc m) vs (Typed (BinaryK op x y) ty span)
  unfolding worth
  worth_below op m e w f g h = h ∙ ap (λ q. with_some q (λ b. binary_worth op a b)) g ∙ sym (ap (λ b. when b (when (is_word (type_of x)) (with_some (worth m vs x) (λ a. with_some (worth m vs y) (λ b. binary_worth op a b))))) e
      ∙ ap (λ b. when b (with_some (worth m vs x) (λ a. with_some (worth m vs y) (λ b. binary_worth op a b)))) w
      ∙ ap (λ q. with_some q (λ a. with_some (worth m vs y) (λ b. binary_worth op a b))) f)

  pub binary_worths : (op : BinOp) (n : ℕ) → n ≡ suc (n - 1) → is_strict op ≡ true → is_word (type_of x) ≡ true → worth (n - 1) vs x ≡ Some a → o ≡ worth (n - 1) vs y → r ≡ with_some o (λ b. binary_worth op a b) → r ≡ worth n vs (Typed (BinaryK op x y) ty span)
  binary_worths op n e i w f g h = subst (λ k. r ≡ worth k vs (Typed (BinaryK op x y) ty span)) (sym e) (worth_below op (n - 1) i w f g h)
