-- Compound assignments are assignments of what the operator gives.
use Rattle.std.proofs.Common.{◌≡◌, ℕ, Bool, true, false, ◌&&◌, ◌||◌, not, List, [], ◌∷◌, Option, Some, None, Ok, Err, option_map, option_and_then, if◌then◌else◌, refl}
use Rattle.c_tree.specs.declared.operator.BinOp.{BinOp}
use Rattle.c_tree.specs.declared.operator.BinOp.TheVariants.{Mul, Div, Mod, Add, Sub, Shl, Shr, Less, LessEq, More, MoreEq, Equal, NotEqual, BitAnd, BitXor, BitOr, AndAlso, OrElse}
use Rattle.c_tree.specs.declared.operator.StepOp.{StepOp}
use Rattle.c_tree.specs.declared.operator.StepOp.TheVariants.{PreUp, PreDown, PostUp, PostDown}
use Rattle.c_types.specs.Types.{Ty, VoidY, IntY, BoolY, EnumY, StructY, UnionY, PointerY, ArrayY, LayoutT}
use Rattle.c_rules.specs.declared.code.Code.TheVariants.{NotAPlace, InfiniteType, TooLarge, WrongType}
use Rattle.c_rules.specs.Kinds.{is_array, is_number, converts, target, same_type}
use Rattle.c_types.specs.Kinds.{is_pointer, is_structure}
use Rattle.c_rules.specs.Sizes.{is_whole, fits, value_limit}
use Rattle.c_rules.specs.Rules.{demand, judged_by, judged}
use Rattle.c_rules.specs.Lowest.{joined}
use Rattle.c_rules.specs.Nodes.{given, moved, apart, sum_gives, difference_gives, binary_gives, binary_rule, assign_rule, kept_as, compound_rule, step_rule, count_is_known, are_numbers}

-- ---- no operator gives a structure

abbrev Plain : Option Ty → Type 0
Plain o = (u : Ty) → o ≡ Some u → is_structure u ≡ false

plain_some : (x : Ty) → is_structure x ≡ false → Plain (Some x)
plain_some x h u e = let same : x ≡ u = cc in rw (← same) h

plain_given : (test : Bool) (x : Ty) → is_structure x ≡ false → Plain (given test x)
plain_given true x h = plain_some x h
plain_given false x h = λ u e. cc

plain_pointer : (o : Option Ty) → Plain (option_map PointerY o)
plain_pointer None = λ u e. cc
plain_pointer (Some x) = plain_some (PointerY x) refl

plain_if : (test : Bool) (o p : Option Ty) → Plain o → Plain p → Plain (if test then o else p)
plain_if true o p ho hp = ho
plain_if false o p ho hp = hp

plain_moved : (a b : Ty) → Plain (moved a b)
plain_moved a b = plain_if (is_number b) (option_map PointerY (target a)) None (plain_pointer (target a)) (λ u e. cc)

plain_pair : (o p : Option Ty) → Plain (option_and_then (λ t. option_and_then (λ u. given (same_type t u) IntY) p) o)
plain_pair None p = λ u e. cc
plain_pair (Some t) None = λ u e. cc
plain_pair (Some t) (Some u) = plain_given (same_type t u) IntY refl

plain_sum : (a b : Ty) → Plain (sum_gives a b)
unfolding sum_gives
plain_sum a b = plain_if (are_numbers a b) (Some IntY) (moved a b) (plain_some IntY refl) (plain_moved a b)

plain_difference : (a b : Ty) → Plain (difference_gives a b)
unfolding difference_gives
plain_difference a b =
    plain_if (are_numbers a b) (Some IntY) (if is_number b then moved a b else apart a b) (plain_some IntY refl)
    (plain_if (is_number b) (moved a b) (apart a b) (plain_moved a b) (plain_pair (target a) (target b)))

plain : (op : BinOp) (a b : Ty) → Plain (binary_gives op a b)
plain Mul a b = plain_given _ IntY refl
plain Div a b = plain_given _ IntY refl
plain Mod a b = plain_given _ IntY refl
plain Add a b = plain_sum a b
plain Sub a b = plain_difference a b
plain Shl a b = plain_given _ IntY refl
plain Shr a b = plain_given _ IntY refl
plain Less a b = plain_given _ BoolY refl
plain LessEq a b = plain_given _ BoolY refl
plain More a b = plain_given _ BoolY refl
plain MoreEq a b = plain_given _ BoolY refl
plain Equal a b = plain_given _ BoolY refl
plain NotEqual a b = plain_given _ BoolY refl
plain BitAnd a b = plain_given _ IntY refl
plain BitXor a b = plain_given _ IntY refl
plain BitOr a b = plain_given _ IntY refl
plain AndAlso a b = plain_given _ BoolY refl
plain OrElse a b = plain_given _ BoolY refl

-- ---- what a number or pointer is kept in is whole and small

no_structure : (a b c : Bool) → b ≡ false → (((a && false) || false) || (b && c)) ≡ true → ⊥
no_structure true true c e h = cc
no_structure true false c e h = cc
no_structure false true c e h = cc
no_structure false false c e h = cc

kept : (layouts : List LayoutT) (whole : List Bool) (u to : Ty) → is_structure u ≡ false → (not (is_array to) && converts u to) ≡ true → (is_whole whole to ≡ true) × (fits layouts value_limit to ≡ true)
unfolding fits
kept layouts whole u VoidY s h = absurd (no_structure (is_number u) (is_structure u) (same_type u VoidY) s h)
kept layouts whole u IntY s h = (refl, refl)
kept layouts whole u BoolY s h = (refl, refl)
kept layouts whole u (EnumY k) s h = (refl, refl)
kept layouts whole u (StructY k) s h = absurd (no_structure (is_number u) (is_structure u) (same_type u (StructY k)) s h)
kept layouts whole u (UnionY k) s h = absurd (no_structure (is_number u) (is_structure u) (same_type u (UnionY k)) s h)
kept layouts whole u (PointerY t) s h = (refl, refl)
kept layouts whole u (ArrayY t n) s h = absurd cc

-- ---- the lowest code of both nodes

meet : (g place known w f : Bool) (value to : Ty) → (g ≡ true → (w ≡ true) × (f ≡ true)) → judged_by (given g to) (demand NotAPlace place ∷ demand InfiniteType known ∷ []) ≡ joined (judged_by (Some value) (demand InfiniteType known ∷ [])) (judged_by (given g to) (demand NotAPlace place ∷ demand InfiniteType w ∷ demand TooLarge f ∷ []))
meet false place true w f value to h = refl
meet false place false w f value to h = refl
meet true false true w f value to h = refl
meet true false false w f value to h = refl
meet true true true w f value to h = let b : (w ≡ true) × (f ≡ true) = h refl in rw (b.0, b.1) refl
meet true true false w f value to h = let b : (w ≡ true) × (f ≡ true) = h refl in rw (b.0, b.1) refl

pub assignment : (layouts : List LayoutT) (whole : List Bool) (op : BinOp) (to : Ty) (place : Bool) (from value : Ty) → binary_gives op to from ≡ Some value → judged (compound_rule whole op to place from) ≡ joined (judged (binary_rule whole op to from)) (judged (assign_rule layouts whole to place value))
unfolding compound_rule binary_rule assign_rule
assignment layouts whole op to place from value e =
    rw e (meet (not (is_array to) && converts value to) place (count_is_known whole op to) (is_whole whole to) (fits layouts value_limit to) value to (kept layouts whole value to (plain op to from value e)))

pub refused : (whole : List Bool) (op : BinOp) (to : Ty) (place : Bool) (from : Ty) → binary_gives op to from ≡ None → judged (compound_rule whole op to place from) ≡ Err WrongType
unfolding compound_rule
refused whole op to place from e = rw e refl

-- ---- steps

kept_array : (of : Ty) (n : ℕ) (o : Option Ty) → kept_as (ArrayY of n) o ≡ None
kept_array of n None = refl
kept_array of n (Some u) = refl

unkept : (whole : List Bool) (op : BinOp) (to : Ty) (place : Bool) → kept_as to (binary_gives op to IntY) ≡ None → (ty : Ty) → judged (compound_rule whole op to place IntY) ≡ Ok ty → ⊥
unfolding compound_rule
unkept whole op to place e ty h = let none : judged_by {A = Ty} None (demand NotAPlace place ∷ demand InfiniteType (count_is_known whole op to) ∷ []) ≡ Ok ty = rw e at h in cc

-- nothing is kept in what is no number and no pointer
nowhere : (op : StepOp) (to : Ty) → kept_as to (binary_gives Add to IntY) ≡ None → kept_as to (binary_gives Sub to IntY) ≡ None → (whole : List Bool) (place : Bool) (ty : Ty) → judged (step_rule whole op to place) ≡ Ok ty → ⊥
nowhere PreUp to up down whole place ty h = unkept whole Add to place up ty h
nowhere PreDown to up down whole place ty h = unkept whole Sub to place down ty h
nowhere PostUp to up down whole place ty h = unkept whole Add to place up ty h
nowhere PostDown to up down whole place ty h = unkept whole Sub to place down ty h

pub stepped : (whole : List Bool) (op : StepOp) (to : Ty) (place : Bool) (ty : Ty) → judged (step_rule whole op to place) ≡ Ok ty → (is_number to || is_pointer to) ≡ true
unfolding sum_gives difference_gives
stepped whole op VoidY place ty h = absurd (nowhere op VoidY refl refl whole place ty h)
stepped whole op IntY place ty h = refl
stepped whole op BoolY place ty h = refl
stepped whole op (EnumY k) place ty h = refl
stepped whole op (StructY k) place ty h = absurd (nowhere op (StructY k) refl refl whole place ty h)
stepped whole op (UnionY k) place ty h = absurd (nowhere op (UnionY k) refl refl whole place ty h)
stepped whole op (PointerY t) place ty h = refl
stepped whole op (ArrayY t n) place ty h =
    absurd (nowhere op (ArrayY t n) (kept_array t n (binary_gives Add (ArrayY t n) IntY)) (kept_array t n (binary_gives Sub (ArrayY t n) IntY)) whole place ty h)
