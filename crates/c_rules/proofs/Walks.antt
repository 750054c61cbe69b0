-- Steps of the walks down a type.
use Rattle.std.proofs.Common.{◌≡◌, ◌≢◌, ◌^◌, ◌≤◌, ◌<◌, ◌⊎◌, inl, inr, ℕ, zero, suc, ◌*◌, ◌==◌, min, Bool, true, false, ◌&&◌, Some, List, arith, refl, ap, sym, ◌∙◌}
use Rattle.c_types.specs.declared.ctype.Derivation.{Derivation}
use Rattle.c_types.specs.declared.ctype.Derivation.TheVariants as d
use Rattle.c_types.specs.Derivations.{derive, repeated}
use Rattle.std.proofs.lemmas.Bool.{eq-eqb, eqb-true}
use Rattle.std.proofs.lemmas.Bool.Decides.{leb_tells}
use Rattle.std.proofs.Math.Dec.{leb}
use Rattle.std.proofs.Math.Nat.{min-eq_left, min-eq_right, mul-le-mul_right, mul_assoc, mul_comm}
use Rattle.c_types.specs.Types.{Ty, VoidY, IntY, BoolY, EnumY, StructY, UnionY, PointerY, ArrayY, LayoutT}
use Rattle.c_types.specs.Sizes.{words_of}
use Rattle.c_rules.specs.declared.elements.Element.{Element}
use Rattle.c_rules.specs.Elements.{element_of, element_words, elements_in, is_element_whole}
use Rattle.c_rules.specs.Sizes.{is_whole}
use Rattle.c_rules.specs.Kinds.{same_type, element, element_count}

and_true : (p q : Bool) → q ≡ true → p ≡ (p && q)
and_true true q e = cc
and_true false q e = refl

and_false : (p q : Bool) → q ≡ false → false ≡ (p && q)
and_false true q e = cc
and_false false q e = refl

not_equal : (m n : ℕ) → m ≢ n → (m == n) ≡ false
not_equal m n d = at (m == n) refl
  where
    at : (b : Bool) → (m == n) ≡ b → (m == n) ≡ false
    at true e = absurd (d (eqb-true m n e))
    at false e = e

some_is : {A : Type 0} (x y : A) → Some x ≡ Some y → x ≡ y
some_is x y e = cc

-- arrays of one length are the same where their elements are
pub arrays_alike : (of b other : Ty) (m n : ℕ) → Some other ≡ element b → Some n ≡ element_count b → m ≡ n → same_type of other ≡ same_type (ArrayY of m) b
arrays_alike of (ArrayY x k) other m n p q e = ap (same_type of) (some_is other x p) ∙ and_true (same_type of x) (m == k) (eq-eqb m k (e ∙ some_is n k q))
arrays_alike of b other m n p q e = cc

-- arrays of other lengths are not
pub arrays_apart : (of b : Ty) (m n : ℕ) → Some n ≡ element_count b → m ≢ n → false ≡ same_type (ArrayY of m) b
arrays_apart of (ArrayY x k) m n q d = and_false (same_type of x) (m == k) (not_equal m k (λ e. d (rw (some_is n k q) e)))
arrays_apart of b m n q d = cc

-- types made in the same way are the same where those that they are made of are
same_derived : (derivation : Derivation) (a b : Ty) → same_type (derive derivation a) (derive derivation b) ≡ same_type a b
same_derived d.Pointer a b = refl
same_derived (d.Array len) a b = sym (and_true (same_type a b) (len == len) (eq-eqb len len refl))

same_repeated : (times : ℕ) (derivation : Derivation) (a b : Ty) → same_type (repeated times derivation a) (repeated times derivation b) ≡ same_type a b
same_repeated zero derivation a b = refl
same_repeated (suc times) derivation a b = same_derived derivation (repeated times derivation a) (repeated times derivation b) ∙ same_repeated times derivation a b

-- the same, where the derivations and their counts were compared
pub same_further : (a b one other : Ty) (derivation derivation' : Derivation) (times times' : ℕ) → a ≡ repeated times derivation one → b ≡ repeated times' derivation' other
    → derivation ≡ derivation' → times ≡ times' → same_type one other ≡ same_type a b
same_further a b one other derivation derivation' times times' p q e n =
    sym (same_repeated times derivation one other) ∙ ap (λ (x : Ty). same_type x (repeated times derivation other)) (sym p)
    ∙ ap (same_type a) (ap (λ (k : ℕ). repeated k derivation other) n ∙ ap (λ (d : Derivation). repeated times' d other) e ∙ sym q)

-- a factor that is cut at a limit
capped : (w k c : ℕ) → min (w * min k c) c ≡ min (w * k) c
capped zero k c = omega arith
capped (suc w) k c = at (leb_tells c k)
  where
    large : (x : ℕ) → c ≤ x → min (suc w * x) c ≡ c
    large x h = let g : 1 * x ≤ suc w * x = mul-le-mul_right x (omega arith) in omega (arith, g, h)

    at : ((leb c k ≡ true) × (c ≤ k)) ⊎ ((leb c k ≡ false) × (k < c)) → min (suc w * min k c) c ≡ min (suc w * k) c
    at (inl h) = ap (λ (x : ℕ). min (suc w * x) c) (min-eq_right h.1) ∙ large c (omega arith) ∙ sym (large k h.1)
    at (inr h) = ap (λ (x : ℕ). min (suc w * x) c) (min-eq_left {m = c} (omega (arith, h.1)))

-- one array further down: its length is one more factor
pub stepped : (t of : Ty) (len times m goal : ℕ) → t ≡ ArrayY of len → m ≡ min (len * times) (2 ^ 32)
    → min (elements_in t * times) (2 ^ 32) ≡ goal → min (elements_in of * m) (2 ^ 32) ≡ goal
stepped t of len times m goal is p q =
    ap (λ (x : ℕ). min (elements_in of * x) (2 ^ 32)) p ∙ capped (elements_in of) (len * times) (2 ^ 32)
    ∙ ap (λ (x : ℕ). min x (2 ^ 32)) (sym (mul_assoc (elements_in of) len times)) ∙ ap (λ (s : Ty). min (elements_in s * times) (2 ^ 32)) (sym is) ∙ q

-- one array further up: its length is one more factor
pub one_array_more : (n len k r : ℕ) → k ≡ min n (2 ^ 32) → r ≡ min (len * k) (2 ^ 32) → r ≡ min (n * len) (2 ^ 32)
one_array_more n len k r is told = told ∙ ap (λ (x : ℕ). min (len * x) (2 ^ 32)) is ∙ capped len n (2 ^ 32) ∙ ap (λ (x : ℕ). min x (2 ^ 32)) (mul_comm len n)

-- ---- sizes by elements

words_of_elements : (ls : List LayoutT) (ty : Ty) → element_words ls (element_of ty) * elements_in ty ≡ words_of ls ty
words_of_elements ls VoidY = refl
words_of_elements ls IntY = refl
words_of_elements ls BoolY = refl
words_of_elements ls (EnumY number) = refl
words_of_elements ls (StructY number) = omega arith
words_of_elements ls (UnionY number) = omega arith
words_of_elements ls (PointerY to) = refl
words_of_elements ls (ArrayY of len) = sym (mul_assoc (element_words ls (element_of of)) (elements_in of) len) ∙ ap (λ (x : ℕ). x * len) (words_of_elements ls of)

pub words_by_count : (ls : List LayoutT) (ty : Ty) (e : Element) (k r : ℕ) → e ≡ element_of ty → k ≡ min (elements_in ty) (2 ^ 32) → r ≡ min (element_words ls e * k) (2 ^ 32) → r ≡ min (words_of ls ty) (2 ^ 32)
words_by_count ls ty e k r is n told =
    told ∙ ap (λ (x : Element). min (element_words ls x * k) (2 ^ 32)) is ∙ ap (λ (x : ℕ). min (element_words ls (element_of ty) * x) (2 ^ 32)) n
    ∙ capped (element_words ls (element_of ty)) (elements_in ty) (2 ^ 32) ∙ ap (λ (x : ℕ). min x (2 ^ 32)) (words_of_elements ls ty)

whole_element : (whole : List Bool) (ty : Ty) → is_element_whole whole (element_of ty) ≡ is_whole whole ty
whole_element whole VoidY = refl
whole_element whole IntY = refl
whole_element whole BoolY = refl
whole_element whole (EnumY number) = refl
whole_element whole (StructY number) = refl
whole_element whole (UnionY number) = refl
whole_element whole (PointerY to) = refl
whole_element whole (ArrayY of len) = whole_element whole of

pub whole_by_element : (whole : List Bool) (ty : Ty) (e : Element) (r : Bool) → e ≡ element_of ty → r ≡ is_element_whole whole e → r ≡ is_whole whole ty
whole_by_element whole ty e r is told = told ∙ ap (is_element_whole whole) is ∙ whole_element whole ty
