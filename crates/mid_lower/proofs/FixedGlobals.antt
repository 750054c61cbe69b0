-- What fills globals is fixed, so it takes no unnamed local.
use Rattle.std.proofs.Common.{◌≡◌, ℕ, Bool, true, false, not, ◌&&◌, List, [], ◌∷◌, Option, Some, None, refl, ap, ◌∙◌, ◌++◌, if◌then◌else◌}
use Rattle.std.specs.Prelude.{is_some, option_and_then}
use Rattle.c_tree.specs.declared.span.Span.{Span}
use Rattle.c_tree.specs.declared.operator.BinOp.{BinOp}
use Rattle.c_tree.specs.declared.operator.UnOp.{UnOp}
use Rattle.c_tree.specs.declared.operator.UnOp.TheVariants as un
use Rattle.c_types.specs.Types.{Ty}
use Rattle.c_types.specs.Typed.{TExprT, Typed, TKindT, NumberK, NullK, LiteralK, GlobalK, LocalK, UnaryK, BinaryK, AssignK, StepK, IndexK, MemberK, ArrowK, CastK, CallK, InK, OutK, WaitK, HaltK, CardK, TInitT, OneI, TextI, ListI, TInitTs, NoI, MoreI, TVarT}
use Rattle.c_rules.specs.Kinds.{is_array, converts}
use Rattle.c_rules.specs.Constants.{constant_unary, constant_binary}
use Rattle.c_exprs.specs.Nodes.{type_of_typed, constant, constant_kind, is_place, is_place_kind}
use Rattle.c_stmts.specs.Slots.{Slots, slots_of, next_slot, later_slots, is_null_or_text, is_fixed}
use Rattle.c_facts.specs.Sound.{Scene, takes_value, FillsAs, FillEach, AreFilled}
use Rattle.c_meaning.specs.Kinds.{type_of}
use Rattle.c_types.specs.Kinds.{is_structure}
use Rattle.lower_trees.specs.Shape.{Shape, words}
use Rattle.lower_trees.specs.Counts.{one_size, read_sizes, sizes, sizes_of, value_sizes, init_sizes, inits_sizes, vars_sizes}
use Rattle.mid_lower.proofs.Trees.{IsScalar}
use Rattle.mid_lower.proofs.Operands.{both_first, both_second, Either, First, Second, either, from_scalar}
use Rattle.mid_lower.proofs.SoundExpressions.{scalar_of}

some_there : {A : Type 0} (o : Option A) → is_some o ≡ true → (x : A) × (o ≡ Some x)
some_there None e = absurd cc
some_there (Some x) e = (x, refl)

then_some : {A B : Type 0} (f : A → Option B) (o : Option A) (y : B) → option_and_then f o ≡ Some y → is_some o ≡ true
then_some f None y e = cc
then_some f (Some x) y e = refl

second : (op : BinOp) (o q : Option ℕ) (y : ℕ) → option_and_then (λ a. option_and_then (constant_binary op a) q) o ≡ Some y → is_some q ≡ true
second op None q y e = absurd cc
second op (Some a) q y e = then_some (constant_binary op a) q y e

not_true : (a : Bool) → not a ≡ true → a ≡ false
not_true true e = cc
not_true false e = refl

one_scalar : (ty : Ty) (x : TExprT) → takes_value true ty x ≡ true → IsScalar x
one_scalar ty x e =
    let c = both_second (not (is_array ty)) (converts (type_of_typed x) ty) (both_first (not (is_array ty) && converts (type_of_typed x) ty) (not (is_structure ty) && is_fixed x) e) in
    let f = both_second (not (is_array ty) && converts (type_of_typed x) ty) (not (is_structure ty) && is_fixed x) e in
    scalar_of x (from_scalar (type_of_typed x) ty c (not_true (is_structure ty) (both_first (not (is_structure ty)) (is_fixed x) f)))

pub both_quiet : (xs ys : List ℕ) → xs ≡ [] → ys ≡ [] → xs ++ ys ≡ []
both_quiet [] ys e f = f
both_quiet (x ∷ xs) ys e f = cc

no_unary : (op : UnOp) (o : Option ℕ) → is_some (option_and_then (constant_unary op) o) ≡ true → ((n : ℕ) → constant_unary op n ≡ None) → ⊥
no_unary op None e f = absurd cc
no_unary op (Some n) e f = let g = f n in absurd cc

read_quiet : (h : Shape) (x : TExprT) → (sizes h x ≡ []) × (is_place x ≡ false) → value_sizes h x ≡ []
read_quiet h x e = ap (λ b. sizes h x ++ read_sizes h b (type_of x)) e.1 ∙ both_quiet (sizes h x) [] e.0 refl

fixed_taken : (ty : Ty) (x : TExprT) → takes_value true ty x ≡ true → is_fixed x ≡ true
fixed_taken ty x e = both_second (not (is_structure ty)) (is_fixed x) (both_second (not (is_array ty) && converts (type_of_typed x) ty) (not (is_structure ty) && is_fixed x) e)

null_quiet : (h : Shape) (k : TKindT) (ty : Ty) (span : Span) → is_null_or_text k ≡ true → is_structure ty ≡ false → value_sizes h (Typed k ty span) ≡ []
null_quiet h NullK ty span e scalar = refl
null_quiet h (LiteralK number) ty span e scalar = ap (λ b. if b then words h ty ∷ [] else []) scalar
null_quiet h (NumberK n) ty span e scalar = absurd cc
null_quiet h (GlobalK number) ty span e scalar = absurd cc
null_quiet h (LocalK number) ty span e scalar = absurd cc
null_quiet h (UnaryK op x) ty span e scalar = absurd cc
null_quiet h (BinaryK op x y) ty span e scalar = absurd cc
null_quiet h (AssignK op x y) ty span e scalar = absurd cc
null_quiet h (StepK op x) ty span e scalar = absurd cc
null_quiet h (IndexK x y) ty span e scalar = absurd cc
null_quiet h (MemberK x offset) ty span e scalar = absurd cc
null_quiet h (ArrowK x offset) ty span e scalar = absurd cc
null_quiet h (CastK x) ty span e scalar = absurd cc
null_quiet h (CallK f xs) ty span e scalar = absurd cc
null_quiet h (InK port) ty span e scalar = absurd cc
null_quiet h (OutK port x) ty span e scalar = absurd cc
null_quiet h WaitK ty span e scalar = absurd cc
null_quiet h HaltK ty span e scalar = absurd cc
null_quiet h CardK ty span e scalar = absurd cc

module _ (h : Shape) where
  mutual
    constant_quiet : (x : TExprT) → is_some (constant x) ≡ true → (sizes h x ≡ []) × (is_place x ≡ false)
    constant_quiet (Typed kind ty span) e = constant_kind_quiet kind e

    constant_kind_quiet : (k : TKindT) → is_some (constant_kind k) ≡ true → (sizes_of h k ≡ []) × (is_place_kind k ≡ false)
    constant_kind_quiet (NumberK n) e = (refl, refl)
    constant_kind_quiet (UnaryK un.Deref x) e = absurd (no_unary un.Deref (constant x) e (λ n. refl))
    constant_kind_quiet (UnaryK un.Address x) e = absurd (no_unary un.Address (constant x) e (λ n. refl))
    constant_kind_quiet (UnaryK un.Not x) e = let m = some_there (option_and_then (constant_unary un.Not) (constant x)) e in (read_quiet h x (constant_quiet x (then_some (constant_unary un.Not) (constant x) m.0 m.1)), refl)
    constant_kind_quiet (UnaryK un.Minus x) e = let m = some_there (option_and_then (constant_unary un.Minus) (constant x)) e in (read_quiet h x (constant_quiet x (then_some (constant_unary un.Minus) (constant x) m.0 m.1)), refl)
    constant_kind_quiet (UnaryK un.Plus x) e = let m = some_there (option_and_then (constant_unary un.Plus) (constant x)) e in (read_quiet h x (constant_quiet x (then_some (constant_unary un.Plus) (constant x) m.0 m.1)), refl)
    constant_kind_quiet (UnaryK un.Flip x) e = let m = some_there (option_and_then (constant_unary un.Flip) (constant x)) e in (read_quiet h x (constant_quiet x (then_some (constant_unary un.Flip) (constant x) m.0 m.1)), refl)
    constant_kind_quiet (BinaryK op x y) e =
        let m = some_there (option_and_then (λ a. option_and_then (constant_binary op a) (constant y)) (constant x)) e in
        let ex = then_some (λ a. option_and_then (constant_binary op a) (constant y)) (constant x) m.0 m.1 in
        (both_quiet (value_sizes h x) (value_sizes h y) (read_quiet h x (constant_quiet x ex)) (read_quiet h y (constant_quiet y (second op (constant x) (constant y) m.0 m.1))), refl)
    constant_kind_quiet NullK e = absurd cc
    constant_kind_quiet (LiteralK number) e = absurd cc
    constant_kind_quiet (GlobalK number) e = absurd cc
    constant_kind_quiet (LocalK number) e = absurd cc
    constant_kind_quiet (AssignK op x y) e = absurd cc
    constant_kind_quiet (StepK op x) e = absurd cc
    constant_kind_quiet (IndexK x y) e = absurd cc
    constant_kind_quiet (MemberK x offset) e = absurd cc
    constant_kind_quiet (ArrowK x offset) e = absurd cc
    constant_kind_quiet (CastK x) e = absurd cc
    constant_kind_quiet (CallK f xs) e = absurd cc
    constant_kind_quiet (InK port) e = absurd cc
    constant_kind_quiet (OutK port x) e = absurd cc
    constant_kind_quiet WaitK e = absurd cc
    constant_kind_quiet HaltK e = absurd cc
    constant_kind_quiet CardK e = absurd cc

  one_quiet : (ty : Ty) → is_structure ty ≡ false → one_size h ty ≡ []
  one_quiet ty e = ap (λ b. if b then words h ty ∷ [] else []) e

  fixed_quiet : (x : TExprT) → is_fixed x ≡ true → IsScalar x → value_sizes h x ≡ []
  fixed_quiet (Typed kind ty span) e scalar = by (either (is_some (constant_kind kind)) (is_null_or_text kind) e)
    where
      by : Either (is_some (constant_kind kind)) (is_null_or_text kind) → value_sizes h (Typed kind ty span) ≡ []
      by (First e) = read_quiet h (Typed kind ty span) (constant_kind_quiet kind e)
      by (Second e) = null_quiet h kind ty span e scalar

  mutual
    fill_quiet : (z : Scene) (i : TInitT) (o : Option Ty) → FillsAs z true i o → init_sizes h i ≡ []
    fill_quiet z (OneI x) None is = absurd is
    fill_quiet z (OneI x) (Some ty) is = fixed_quiet x (fixed_taken ty x is.1) (one_scalar ty x is.1)
    fill_quiet z (TextI number) o is = refl
    fill_quiet z (ListI items) None is = absurd is
    fill_quiet z (ListI items) (Some ty) is = fills_quiet z items (slots_of z.layouts ty) is.1

    fills_quiet : (z : Scene) (items : TInitTs) (s : Slots) → FillEach z true items s → inits_sizes h items ≡ []
    fills_quiet z NoI s is = refl
    fills_quiet z (MoreI i rest) s is = both_quiet (init_sizes h i) (inits_sizes h rest) (fill_quiet z i (next_slot s) is.0) (fills_quiet z rest (later_slots s) is.1)

  pub vars_quiet : (z : Scene) (vs : List TVarT) → AreFilled z true vs → vars_sizes h vs ≡ []
  vars_quiet z [] is = refl
  vars_quiet z (v ∷ vs) is = both_quiet (init_sizes h v.init) (vars_sizes h vs) (fill_quiet z v.init (Some v.ty) (is.0).filled) (vars_quiet z vs is.1)
