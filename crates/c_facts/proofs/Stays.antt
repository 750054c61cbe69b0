-- What is known of a type while a unit is read holds in the whole program.
use Rattle.std.proofs.Common.{◌≡◌, ℕ, ◌+◌, ◌≤◌, Bool, true, false, ◌&&◌, ◌||◌, not, List, [], ◌∷◌, Ok, refl, sym, ap, ◌∙◌, subst, inl, inr, arith}
use Rattle.std.proofs.lemmas.Bool.{leb-true}
use Rattle.std.specs.Prelude.{nat_le}
use Rattle.c_types.specs.Types.{Ty, VoidY, IntY, BoolY, EnumY, StructY, UnionY, PointerY, ArrayY, LayoutT}
use Rattle.c_types.specs.Sizes.{words_of}
use Rattle.c_rules.specs.declared.code.Code.{Code}
use Rattle.c_rules.specs.declared.code.Code.TheVariants.{InfiniteType, TooLarge}
use Rattle.c_types.specs.Kinds.{is_void}
use Rattle.c_rules.specs.Kinds.{is_array}
use Rattle.c_rules.specs.Sizes.{is_whole, fits, type_limit, value_limit}
use Rattle.c_rules.specs.Rules.{demand, judged_by, judged}
use Rattle.c_rules.specs.Nodes.{given, size_rule}
use Rattle.c_stmts.specs.State.{object_rule}
use Rattle.c_check.specs.Reading.{parameter_rule, result_rule}
use Rattle.c_facts.specs.Sound.{IsKnown}
use Rattle.c_facts.proofs.Within.{Grows}
use Rattle.c_facts.proofs.Growth.{whole_later, words_later}

pub grows_itself : (layouts : List LayoutT) (whole : List Bool) → Grows layouts whole layouts whole
grows_itself layouts whole = record { kept = λ k l e. inr e; fixed = λ k h. (h, refl); few = omega arith; kinds = λ k u e. e }

pub grows_through : {layouts middle later : List LayoutT} {whole half all : List Bool} → Grows layouts whole middle half → Grows middle half later all → Grows layouts whole later all
grows_through g h = record {
  kept = λ k l e. elim (g.kept k l e) [ inl n ↦ inl n | inr f ↦ h.kept k l f ];
  fixed = λ k w. let a = g.fixed k w in let b = h.fixed k a.0 in (b.0, a.1 ∙ b.1);
  few = omega (arith, g.few, h.few);
  kinds = λ k u e. h.kinds k u (g.kinds k u e);
}

-- ---- types

pub known_stays : {layouts later : List LayoutT} {whole all : List Bool} → Grows layouts whole later all → (ty : Ty) → IsKnown layouts whole ty → IsKnown later all ty
known_stays g VoidY h = tt
known_stays g IntY h = tt
known_stays g BoolY h = tt
known_stays g (EnumY number) h = tt
known_stays g (StructY number) h = g.kinds number false h
known_stays g (UnionY number) h = g.kinds number true h
known_stays g (PointerY to) h = known_stays g to h
known_stays g (ArrayY of count) h = (known_stays g of h.0, whole_later g of h.1, h.2, subst (λ n. n ≤ type_limit) (words_later g (ArrayY of count) h.1) h.3)

-- ---- rules

pub two_demands : {A : Type 0} (b t u : Bool) (x n : A) (c d : Code) → judged_by (given b x) (demand c t ∷ demand d u ∷ []) ≡ Ok n → (b ≡ true) × (t ≡ true) × (u ≡ true) × (x ≡ n)
two_demands true true true x n c d e = (refl, refl, refl, cc)
two_demands true true false x n c d e = absurd cc
two_demands true false u x n c d e = absurd cc
two_demands false t u x n c d e = absurd cc

two_meet : {A : Type 0} (b t u : Bool) (x : A) (c d : Code) → b ≡ true → t ≡ true → u ≡ true → judged_by (given b x) (demand c t ∷ demand d u ∷ []) ≡ Ok x
two_meet true true true x c d p q r = refl
two_meet true true false x c d p q r = absurd cc
two_meet true false u x c d p q r = absurd cc
two_meet false t u x c d p q r = absurd cc

-- what a rule on the words of a type tells
pub record HasWords (layouts : List LayoutT) (whole : List Bool) (ty : Ty) (n : ℕ) : Type 0 where
  pub sized : is_whole whole ty ≡ true
  pub words : words_of layouts ty ≡ n

pub size_facts : (layouts : List LayoutT) (whole : List Bool) (ty : Ty) (n : ℕ) → judged (size_rule layouts whole ty) ≡ Ok n → HasWords layouts whole ty n × (n ≤ type_limit)
unfolding size_rule fits
size_facts layouts whole ty n e =
    let h = two_demands (not (is_void ty)) (is_whole whole ty) (nat_le (words_of layouts ty) type_limit) (words_of layouts ty) n InfiniteType TooLarge e in
    (record { sized = h.1; words = h.3 }, subst (λ m. m ≤ type_limit) h.3 (leb-true (words_of layouts ty) type_limit h.2))

pub object_facts : (layouts : List LayoutT) (whole : List Bool) (limit used : ℕ) (ty : Ty) (n : ℕ) → judged (object_rule layouts whole limit used ty) ≡ Ok n → HasWords layouts whole ty n × (used + n ≤ limit)
unfolding object_rule
object_facts layouts whole limit used ty n e =
    let h = two_demands (not (is_void ty)) (is_whole whole ty) (nat_le (used + words_of layouts ty) limit) (words_of layouts ty) n InfiniteType TooLarge e in
    (record { sized = h.1; words = h.3 }, subst (λ m. used + m ≤ limit) h.3 (leb-true (used + words_of layouts ty) limit h.2))

pub parameter_facts : (layouts : List LayoutT) (whole : List Bool) (ty : Ty) (n : ℕ) → judged (parameter_rule layouts whole ty) ≡ Ok n → HasWords layouts whole ty n
unfolding parameter_rule
parameter_facts layouts whole ty n e =
    let h = two_demands (not (is_void ty) && not (is_array ty)) (is_whole whole ty) (fits layouts value_limit ty) (words_of layouts ty) n InfiniteType TooLarge e in
    record { sized = h.1; words = h.3 }

pub parameter_stays : {layouts later : List LayoutT} {whole all : List Bool} → Grows layouts whole later all → (ty : Ty) (n : ℕ) → judged (parameter_rule layouts whole ty) ≡ Ok n → judged (parameter_rule later all ty) ≡ Ok n
unfolding parameter_rule fits
parameter_stays {layouts = layouts} {later = later} {whole = whole} {all = all} g ty n e =
    let h = two_demands (not (is_void ty) && not (is_array ty)) (is_whole whole ty) (nat_le (words_of layouts ty) value_limit) (words_of layouts ty) n InfiniteType TooLarge e in
    let same = words_later g ty h.1 in
    two_meet (not (is_void ty) && not (is_array ty)) (is_whole all ty) (nat_le (words_of later ty) value_limit) (words_of later ty) InfiniteType TooLarge h.0 (whole_later g ty h.1) (subst (λ m. nat_le m value_limit ≡ true) same h.2)
    ∙ ap Ok (sym same ∙ h.3)

-- a result: none, or whole
words_of_result : {layouts later : List LayoutT} {whole all : List Bool} → Grows layouts whole later all → (ty : Ty) → (is_void ty || is_whole whole ty) ≡ true → (words_of layouts ty ≡ words_of later ty) × ((is_void ty || is_whole all ty) ≡ true)
words_of_result g VoidY h = (refl, refl)
words_of_result g IntY h = (refl, refl)
words_of_result g BoolY h = (refl, refl)
words_of_result g (EnumY number) h = (refl, refl)
words_of_result g (StructY number) h = (words_later g (StructY number) h, whole_later g (StructY number) h)
words_of_result g (UnionY number) h = (words_later g (UnionY number) h, whole_later g (UnionY number) h)
words_of_result g (PointerY to) h = (refl, refl)
words_of_result g (ArrayY of count) h = (words_later g (ArrayY of count) h, whole_later g (ArrayY of count) h)

pub result_stays : {layouts later : List LayoutT} {whole all : List Bool} → Grows layouts whole later all → (ty : Ty) → judged (result_rule layouts whole ty) ≡ Ok tt → judged (result_rule later all ty) ≡ Ok tt
unfolding fits
result_stays {layouts = layouts} {later = later} {whole = whole} {all = all} g ty e =
    let h = two_demands (not (is_array ty)) (is_void ty || is_whole whole ty) (nat_le (words_of layouts ty) value_limit) tt tt InfiniteType TooLarge e in
    let k = words_of_result g ty h.1 in
    two_meet (not (is_array ty)) (is_void ty || is_whole all ty) (nat_le (words_of later ty) value_limit) tt InfiniteType TooLarge h.0 k.1 (subst (λ m. nat_le m value_limit ≡ true) k.0 h.2)
