-- Typed expressions are plain.
use Rattle.std.proofs.Common.{◌≡◌, ℕ, true, false, List, [], ◌∷◌, length, slice_get, Option, Some, None, refl, sym, ◌∙◌, ap, subst, option_map}
use Rattle.std.specs.Option.{option_map_or}
use Rattle.std.proofs.lemmas.Bool.{false≢true}
use Rattle.c_tree.specs.declared.operator.UnOp.TheVariants as un
use Rattle.c_types.specs.Types.{Ty, VoidY, IntY, PointerY}
use Rattle.c_types.specs.Typed.{TExprT, Typed, TKindT, NumberK, NullK, LiteralK, GlobalK, LocalK, UnaryK, BinaryK, AssignK, StepK, IndexK, MemberK, ArrowK, CastK, CallK, InK, OutK, WaitK, HaltK, CardK, TExprTs, NoX, MoreX}
use Rattle.c_types.specs.Programs.{TFunctionT}
use Rattle.c_rules.specs.Kinds.{converts}
use Rattle.c_rules.specs.Nodes.{step_operator}
use Rattle.c_exprs.specs.Nodes.{type_of_typed, is_place, is_place_kind}
use Rattle.c_exprs.specs.Calls.{all_convert}
use Rattle.c_types.specs.Lists.{listed}
use Rattle.c_facts.specs.Sound.{text_type, Scene, Calls, IsTyped, IsKind, AreValues}
use Rattle.c_meaning.specs.Kinds.{type_of}
use Rattle.c_types.specs.Kinds.{is_structure}
use Rattle.lower_trees.specs.Shape.{Shape, params_of, result_of}
use Rattle.mid_lower.proofs.Trees.{IsScalar, Plain, PlainKind, PlainAll, PlainAs, PlainStructure, StructureKind}
use Rattle.mid_lower.proofs.Operands.{both_first, both_second, number_scalar, behind_scalar, from_scalar, unary_operand, binary_operands, index_operands, compound_operands, assigned_operands, cast_operand}
use Rattle.mid_lower.proofs.ResultTypes.{has_structure, from_structure, address_place, assigned_place, never_unary, never_binary, never_compound, never_cast}

pub scalar_of : (x : TExprT) → is_structure (type_of_typed x) ≡ false → IsScalar x
scalar_of (Typed kind ty span) e = e

pub of_scalar : (x : TExprT) → IsScalar x → is_structure (type_of_typed x) ≡ false
of_scalar (Typed kind ty span) e = e

pub structure_of : (x : TExprT) → is_structure (type_of_typed x) ≡ true → is_structure (type_of x) ≡ true
structure_of (Typed kind ty span) e = e

pub of_structure_type : (x : TExprT) → is_structure (type_of x) ≡ true → is_structure (type_of_typed x) ≡ true
of_structure_type (Typed kind ty span) e = e

never : (ty u : Ty) → ty ≡ u → is_structure u ≡ false → is_structure ty ≡ true → ⊥
never ty u e f s = false≢true (sym f ∙ sym (ap is_structure e) ∙ s)

never_text : (o : Option (List ℕ)) (ty : Ty) → option_map text_type o ≡ Some ty → is_structure ty ≡ true → ⊥
never_text None ty e s = absurd cc
never_text (Some t) ty e s = let same : text_type t ≡ ty = cc in never ty (text_type t) (sym same) refl s

-- what the lowering reads of a program
abbrev pub shape_of : Scene → Shape
shape_of z = record { layouts = z.layouts; functions = z.functions; literals = z.literals }

module _ (z : Scene) where
  abbrev h : Shape
  h = shape_of z

  -- arguments become the parameters, and what is given is of this type
  record Passes (f : ℕ) (xs : TExprTs) (ty : Ty) : Type 0 where
    pub convert : all_convert (listed xs) (params_of h f) ≡ true
    pub count : length (listed xs) ≡ length (params_of h f)
    pub gives : result_of h f ≡ ty

  passes : (f : ℕ) (xs : TExprTs) (ty : Ty) (o : Option TFunctionT) → slice_get z.functions f ≡ o → Calls o xs ty → Passes f xs ty
  passes f xs ty None e is = absurd is
  passes f xs ty (Some g) e is = record {
    convert = subst (λ o. all_convert (listed xs) (option_map_or (λ k. k.params) o []) ≡ true) (sym e) is.convert;
    count = subst (λ o. length (listed xs) ≡ length (option_map_or (λ k. k.params) o [])) (sym e) is.count;
    gives = ap (λ o. option_map_or (λ k. k.gives) o VoidY) e ∙ is.gives;
  }

  -- what is asked where an expression has no structure as its value: it stands at a place, or is no structure
  abbrev pub IsPlaceOr : TExprT → Type 0
  IsPlaceOr x = is_place x ≡ false → is_structure (type_of_typed x) ≡ false

  at_place : (x : TExprT) → is_place x ≡ true → IsPlaceOr x
  at_place x e f = absurd (false≢true (sym f ∙ e))

  mutual
    pub plain : (x : TExprT) → IsTyped z x → IsPlaceOr x → Plain h x
    plain (Typed kind ty span) is s = plain_kind kind ty is.1 s

    plain_kind : (k : TKindT) (ty : Ty) → IsKind z k ty → (is_place_kind k ≡ false → is_structure ty ≡ false) → PlainKind h k ty
    plain_kind (NumberK n) ty is s = tt
    plain_kind NullK ty is s = tt
    plain_kind (LiteralK number) ty is s = tt
    plain_kind (GlobalK number) ty is s = tt
    plain_kind (LocalK number) ty is s = tt
    plain_kind (UnaryK un.Address x) ty is s = plain x is.0 (at_place x (address_place (type_of_typed x) (is_place x) ty is.2))
    plain_kind (UnaryK un.Minus x) ty is s = let e = unary_operand un.Minus (type_of_typed x) (is_place x) ty refl is.2 in (plain x is.0 (λ f. e), scalar_of x e)
    plain_kind (UnaryK un.Plus x) ty is s = let e = unary_operand un.Plus (type_of_typed x) (is_place x) ty refl is.2 in (plain x is.0 (λ f. e), scalar_of x e)
    plain_kind (UnaryK un.Not x) ty is s = let e = unary_operand un.Not (type_of_typed x) (is_place x) ty refl is.2 in (plain x is.0 (λ f. e), scalar_of x e)
    plain_kind (UnaryK un.Flip x) ty is s = let e = unary_operand un.Flip (type_of_typed x) (is_place x) ty refl is.2 in (plain x is.0 (λ f. e), scalar_of x e)
    plain_kind (UnaryK un.Deref x) ty is s = let e = unary_operand un.Deref (type_of_typed x) (is_place x) ty refl is.2 in (plain x is.0 (λ f. e), scalar_of x e)
    plain_kind (BinaryK op x y) ty is s =
        let m = binary_operands z.whole op (type_of_typed x) (type_of_typed y) ty is.4 in
        (plain x is.0 (λ f. m.first), scalar_of x m.first, plain y is.2 (λ f. m.second), scalar_of y m.second)
    plain_kind (AssignK None x y) ty is s =
        let m = assigned_operands z.layouts z.whole (type_of_typed x) (is_place x) (type_of_typed y) ty is.3 in
        let ex : is_structure (type_of_typed x) ≡ false = subst (λ q. is_structure q ≡ false) (sym m.same) (s refl) in
        let ey = from_scalar (type_of_typed y) (type_of_typed x) m.becomes ex in
        (plain x is.0 (λ f. ex), scalar_of x ex, plain y is.1 (λ f. ey), scalar_of y ey)
    plain_kind (AssignK (Some op) x y) ty is s =
        let m = compound_operands z.whole op (type_of_typed x) (is_place x) (type_of_typed y) ty is.3 in
        (plain x is.0 (λ f. m.first), scalar_of x m.first, plain y is.1 (λ f. m.second), scalar_of y m.second)
    plain_kind (StepK op x) ty is s =
        let m = compound_operands z.whole (step_operator op) (type_of_typed x) (is_place x) IntY ty is.1 in
        (plain x is.0 (λ f. m.first), scalar_of x m.first)
    plain_kind (IndexK x y) ty is s =
        let m = index_operands z.whole (type_of_typed x) (type_of_typed y) ty is.4 in
        (plain x is.0 (λ f. m.first), scalar_of x m.first, plain y is.2 (λ f. m.second), scalar_of y m.second)
    plain_kind (MemberK (Typed k tk sk) offset) ty is s = (
      λ e. plain (Typed k tk sk) is.0 (at_place (Typed k tk sk) e),
      λ e. (structure (Typed k tk sk) is.0 (has_structure z.layouts tk offset ty is.1), s e),
    )
    plain_kind (ArrowK x offset) ty is s = let e = behind_scalar z.layouts (type_of_typed x) offset ty is.2 in (plain x is.0 (λ f. e), scalar_of x e)
    plain_kind (CastK x) ty is s = let e = cast_operand (type_of_typed x) ty ty is.2 in (plain x is.0 (λ f. e), scalar_of x e)
    plain_kind (CallK f xs) ty is s = let m = passes f xs ty (slice_get z.functions f) refl is.1 in (args_plain xs (params_of h f) is.0 m.convert m.count, ap is_structure m.gives ∙ s refl)
    plain_kind (InK port) ty is s = tt
    plain_kind (OutK port x) ty is s = let e = number_scalar (type_of_typed x) is.3 in (plain x is.1 (λ f. e), scalar_of x e)
    plain_kind WaitK ty is s = tt
    plain_kind HaltK ty is s = tt
    plain_kind CardK ty is s = tt

    -- what has a structure as its value
    pub structure : (x : TExprT) → IsTyped z x → is_structure (type_of_typed x) ≡ true → PlainStructure h x
    structure (Typed kind ty span) is s = structure_kind kind ty is.1 s

    structure_kind : (k : TKindT) (ty : Ty) → IsKind z k ty → is_structure ty ≡ true → StructureKind h k ty
    structure_kind (NumberK n) ty is s = absurd (never ty IntY is refl s)
    structure_kind NullK ty is s = absurd (never ty (PointerY VoidY) is refl s)
    structure_kind (LiteralK number) ty is s = absurd (never_text (slice_get z.literals number) ty is s)
    structure_kind (GlobalK number) ty is s = tt
    structure_kind (LocalK number) ty is s = tt
    structure_kind (UnaryK un.Address x) ty is s = absurd (never_unary un.Address (type_of_typed x) (is_place x) ty refl is.2 s)
    structure_kind (UnaryK un.Minus x) ty is s = absurd (never_unary un.Minus (type_of_typed x) (is_place x) ty refl is.2 s)
    structure_kind (UnaryK un.Plus x) ty is s = absurd (never_unary un.Plus (type_of_typed x) (is_place x) ty refl is.2 s)
    structure_kind (UnaryK un.Not x) ty is s = absurd (never_unary un.Not (type_of_typed x) (is_place x) ty refl is.2 s)
    structure_kind (UnaryK un.Flip x) ty is s = absurd (never_unary un.Flip (type_of_typed x) (is_place x) ty refl is.2 s)
    structure_kind (UnaryK un.Deref x) ty is s = let e = unary_operand un.Deref (type_of_typed x) (is_place x) ty refl is.2 in (plain x is.0 (λ f. e), scalar_of x e)
    structure_kind (BinaryK op x y) ty is s = absurd (never_binary z.whole op (type_of_typed x) (type_of_typed y) ty is.4 s)
    structure_kind (AssignK None x y) ty is s =
        let m = assigned_operands z.layouts z.whole (type_of_typed x) (is_place x) (type_of_typed y) ty is.3 in
        let ex : is_structure (type_of_typed x) ≡ true = subst (λ q. is_structure q ≡ true) (sym m.same) s in
        let ey = from_structure (type_of_typed y) (type_of_typed x) m.becomes ex in
        (plain x is.0 (at_place x (assigned_place z.layouts z.whole (type_of_typed x) (is_place x) (type_of_typed y) ty is.3)), structure_of x ex, structure y is.1 ey, structure_of y ey)
    structure_kind (AssignK (Some op) x y) ty is s = absurd (never_compound z.whole op (type_of_typed x) (is_place x) (type_of_typed y) ty is.3 s)
    structure_kind (StepK op x) ty is s = absurd (never_compound z.whole (step_operator op) (type_of_typed x) (is_place x) IntY ty is.1 s)
    structure_kind (IndexK x y) ty is s =
        let m = index_operands z.whole (type_of_typed x) (type_of_typed y) ty is.4 in
        (plain x is.0 (λ f. m.first), scalar_of x m.first, plain y is.2 (λ f. m.second), scalar_of y m.second)
    structure_kind (MemberK (Typed k tk sk) offset) ty is s =
        (λ e. plain (Typed k tk sk) is.0 (at_place (Typed k tk sk) e), λ e. structure (Typed k tk sk) is.0 (has_structure z.layouts tk offset ty is.1), s)
    structure_kind (ArrowK x offset) ty is s = let e = behind_scalar z.layouts (type_of_typed x) offset ty is.2 in (plain x is.0 (λ f. e), scalar_of x e)
    structure_kind (CastK x) ty is s = absurd (never_cast (type_of_typed x) ty ty is.2 s)
    structure_kind (CallK f xs) ty is s = let m = passes f xs ty (slice_get z.functions f) refl is.1 in (args_plain xs (params_of h f) is.0 m.convert m.count, ap is_structure m.gives ∙ s)
    structure_kind (InK port) ty is s = absurd (never ty IntY is.1 refl s)
    structure_kind (OutK port x) ty is s = absurd (never ty VoidY is.4 refl s)
    structure_kind WaitK ty is s = absurd (never ty VoidY is refl s)
    structure_kind HaltK ty is s = absurd (never ty VoidY is refl s)
    structure_kind CardK ty is s = absurd (never ty (PointerY IntY) is refl s)

    -- arguments become parameters
    args_plain : (xs : TExprTs) (tys : List Ty) → AreValues z xs → all_convert (listed xs) tys ≡ true → length (listed xs) ≡ length tys → PlainAll h tys xs
    args_plain NoX tys values convert count = tt
    args_plain (MoreX x xs) [] values convert count = cc
    args_plain (MoreX x xs) (ty ∷ tys) values convert count =
        let one : converts (type_of_typed x) ty ≡ true = both_first (converts (type_of_typed x) ty) (all_convert (listed xs) tys) convert in
        let more : all_convert (listed xs) tys ≡ true = both_second (converts (type_of_typed x) ty) (all_convert (listed xs) tys) convert in
        let rest : length (listed xs) ≡ length tys = cc in
        let scalar : is_structure ty ≡ false → is_structure (type_of_typed x) ≡ false = from_scalar (type_of_typed x) ty one in
        let given : is_structure ty ≡ true → is_structure (type_of_typed x) ≡ true = from_structure (type_of_typed x) ty one in
        ((λ e. (plain x values.0 (λ f. scalar e), scalar_of x (scalar e)), λ e. (structure x values.0 (given e), structure_of x (given e))), args_plain xs tys values.2 more rest)

  -- a value becomes one of this type
  pub plain_as : (x : TExprT) (ty : Ty) → IsTyped z x → converts (type_of_typed x) ty ≡ true → PlainAs h ty x
  plain_as x ty is one =
      let scalar : is_structure ty ≡ false → is_structure (type_of_typed x) ≡ false = from_scalar (type_of_typed x) ty one in
      let given : is_structure ty ≡ true → is_structure (type_of_typed x) ≡ true = from_structure (type_of_typed x) ty one in
      (λ e. (plain x is (λ f. scalar e), scalar_of x (scalar e)), λ e. (structure x is (given e), structure_of x (given e)))
