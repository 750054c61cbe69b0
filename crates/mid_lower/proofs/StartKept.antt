-- The start of a program: what fills the globals makes no locals and calls nothing.
use Rattle.std.proofs.Common.{◌≡◌, ◌⊎◌, inl, inr, ℕ, zero, suc, ◌+◌, ◌-◌, ◌*◌, ◌%◌, ◌^◌, ◌==◌, Bool, true, false, ◌&&◌, ◌||◌, List, [], ◌∷◌, ◌++◌, length, slice_get, Option, Some, None, option_map, is_some, refl, ap, ◌∙◌, if◌then◌else◌}
use Rattle.std.specs.List.{list_all}
use Rattle.c_tree.specs.declared.span.Span.{Span}
use Rattle.c_tree.specs.declared.operator.UnOp.{UnOp}
use Rattle.c_tree.specs.declared.operator.UnOp.TheVariants as un
use Rattle.c_tree.specs.declared.operator.BinOp.{BinOp}
use Rattle.c_tree.specs.declared.operator.BinOp.TheVariants as bin
use Rattle.c_types.specs.Types.{Ty, VoidY, IntY, BoolY, EnumY, StructY, UnionY, PointerY, ArrayY}
use Rattle.c_types.specs.Typed.{TExprT, Typed, TKindT, NumberK, NullK, LiteralK, GlobalK, LocalK, UnaryK, BinaryK, AssignK, StepK, IndexK, MemberK, ArrowK, CastK, CallK, InK, OutK, WaitK, HaltK, CardK, TInitT, OneI, TextI, ListI, TInitTs, NoI, MoreI, TVarT}
use Rattle.c_exprs.specs.Nodes.{is_place, constant}
use Rattle.c_meaning.specs.Kinds.{type_of}
use Rattle.c_types.specs.Kinds.{is_structure, decayed, pointed, is_pointer}
use Rattle.c_types.specs.Parts.{part_type}
use Rattle.c_stmts.specs.Slots.{Slots, next_slot, later_slots, slots_of, is_null_or_text}
use Rattle.c_facts.specs.Sound.{Scene, IsTyped, IsKind, FillsAs, FillEach, AreFilled, text_type}
use Rattle.c_facts.specs.Start.{is_reckoned, is_reckoned_kind, is_given, fills_with_given, all_fill_with_given}
use Rattle.mid_code.specs.Code.{Stop}
use Rattle.mid_code.specs.Invariants.{CallsNone}
use Rattle.lower_trees.specs.Shape.{Shape, words, literal_words}
use Rattle.lower_trees.specs.Flags.{is_flag, tests_flag}
use Rattle.lower_trees.specs.Pieces.{Nodes, coded}
use Rattle.lower_trees.specs.Parts.{item, copied, copied_on, zeroed, as_flag, converted, with_word, stepped, with_pointer, operated_on, operated, tested_as, negated_as}
use Rattle.lower_trees.specs.Expressions.{value_of, value, test, unary, binary, second, beyond, size_at, low, low_value}
use Rattle.lower_trees.specs.Initialisers.{part_at, cell_filled, part_filled, part_zeroed, low_text, low_rest, low_init, low_inits, address_of, object_to, low_vars}
use Rattle.lower_trees.specs.Counts.{read_sizes, unary_sizes, sizes, value_sizes, init_temps, init_sizes, inits_sizes, vars_sizes, behind_address}

-- ---- a part that calls nothing

pub record Quiet (f : Nodes → Nodes) : Type 0 where
  pub quiet : (c : Nodes) → CallsNone c → CallsNone (f c)

hushed : {f g : Nodes → Nodes} → Quiet f → Quiet g → Quiet (λ c. f (g c))
hushed {f} {g} p q = record { quiet = λ c z. p.quiet (g c) (q.quiet c z) }

silent : {f : Nodes → Nodes} → Quiet f → CallsNone (f Stop)
silent p = p.quiet Stop tt

hush_either : {f g : Nodes → Nodes} (b : Bool) → Quiet f → Quiet g → Quiet (λ c. if b then f c else g c)
hush_either true p q = p
hush_either false p q = q

copied_quiet : (size : ℕ) → Quiet (coded (copied size))
copied_quiet zero = record { quiet = λ c z. z }
copied_quiet (suc left) = record { quiet = λ c z. ((tt, tt, tt), z) }

copied_on_quiet : (size p : ℕ) → Quiet (coded (copied_on size p))
copied_on_quiet zero p = record { quiet = λ c z. z }
copied_on_quiet (suc zero) p = record { quiet = λ c z. z }
copied_on_quiet (suc (suc zero)) p = record { quiet = λ c z. ((tt, tt, tt), z) }
copied_on_quiet (suc (suc (suc left))) p = record { quiet = λ c z. ((tt, tt, tt), z) }

zeroed_quiet : (size : ℕ) → Quiet (coded (zeroed size))
zeroed_quiet zero = record { quiet = λ c z. z }
zeroed_quiet (suc left) = record { quiet = λ c z. ((tt, tt, tt), z) }

as_flag_quiet : (known : Bool) (t : ℕ) → Quiet (coded (as_flag known t))
as_flag_quiet true t = record { quiet = λ c z. z }
as_flag_quiet false t = record { quiet = λ c z. z }

converted_quiet : (ty : Ty) (known : Bool) (t : ℕ) → Quiet (coded (converted ty known t))
converted_quiet BoolY known t = as_flag_quiet known t
converted_quiet VoidY known t = record { quiet = λ c z. z }
converted_quiet IntY known t = record { quiet = λ c z. z }
converted_quiet (EnumY k) known t = record { quiet = λ c z. z }
converted_quiet (StructY k) known t = record { quiet = λ c z. z }
converted_quiet (UnionY k) known t = record { quiet = λ c z. z }
converted_quiet (PointerY to) known t = record { quiet = λ c z. z }
converted_quiet (ArrayY of len) known t = record { quiet = λ c z. z }

tested_quiet : (ty : Ty) (t : ℕ) → Quiet (coded (tested_as ty t))
tested_quiet VoidY t = record { quiet = λ c z. z }
tested_quiet IntY t = record { quiet = λ c z. z }
tested_quiet BoolY t = record { quiet = λ c z. z }
tested_quiet (EnumY k) t = record { quiet = λ c z. z }
tested_quiet (StructY k) t = record { quiet = λ c z. z }
tested_quiet (UnionY k) t = record { quiet = λ c z. z }
tested_quiet (PointerY to) t = record { quiet = λ c z. z }
tested_quiet (ArrayY of len) t = record { quiet = λ c z. z }

negated_quiet : (ty : Ty) (t : ℕ) → Quiet (coded (negated_as ty t))
negated_quiet VoidY t = record { quiet = λ c z. z }
negated_quiet IntY t = record { quiet = λ c z. z }
negated_quiet BoolY t = record { quiet = λ c z. z }
negated_quiet (EnumY k) t = record { quiet = λ c z. z }
negated_quiet (StructY k) t = record { quiet = λ c z. z }
negated_quiet (UnionY k) t = record { quiet = λ c z. z }
negated_quiet (PointerY to) t = record { quiet = λ c z. z }
negated_quiet (ArrayY of len) t = record { quiet = λ c z. z }

word_quiet : (op : BinOp) (t a b : ℕ) → Quiet (coded (with_word op t a b))
word_quiet bin.Mul t a b = record { quiet = λ c z. z }
word_quiet bin.Div t a b = record { quiet = λ c z. z }
word_quiet bin.Mod t a b = record { quiet = λ c z. z }
word_quiet bin.Add t a b = record { quiet = λ c z. z }
word_quiet bin.Sub t a b = record { quiet = λ c z. z }
word_quiet bin.Shl t a b = record { quiet = λ c z. z }
word_quiet bin.Shr t a b = record { quiet = λ c z. z }
word_quiet bin.Less t a b = record { quiet = λ c z. z }
word_quiet bin.LessEq t a b = record { quiet = λ c z. z }
word_quiet bin.More t a b = record { quiet = λ c z. z }
word_quiet bin.MoreEq t a b = record { quiet = λ c z. z }
word_quiet bin.Equal t a b = record { quiet = λ c z. z }
word_quiet bin.NotEqual t a b = record { quiet = λ c z. z }
word_quiet bin.BitAnd t a b = record { quiet = λ c z. z }
word_quiet bin.BitXor t a b = record { quiet = λ c z. z }
word_quiet bin.BitOr t a b = record { quiet = λ c z. z }
word_quiet bin.AndAlso t a b = record { quiet = λ c z. z }
word_quiet bin.OrElse t a b = record { quiet = λ c z. z }

stepped_quiet : (size t a b u : ℕ) → Quiet (coded (stepped size t a b u))
stepped_quiet size t a b u = hush_either (size == 1) (record { quiet = λ c z. z }) (record { quiet = λ c z. z })

pointer_quiet : (op : BinOp) (size : ℕ) (ps : Bool) (t a b u : ℕ) → Quiet (coded (with_pointer op size ps t a b u))
pointer_quiet bin.Mul size ps t a b u = record { quiet = λ c z. z }
pointer_quiet bin.Div size ps t a b u = record { quiet = λ c z. z }
pointer_quiet bin.Mod size ps t a b u = record { quiet = λ c z. z }
pointer_quiet bin.Add size ps t a b u = stepped_quiet size t a b u
pointer_quiet bin.Sub size true t a b u = record { quiet = λ c z. z }
pointer_quiet bin.Sub size false t a b u = let p = stepped_quiet size t a b u in record { quiet = λ c z. p.quiet c z }
pointer_quiet bin.Shl size ps t a b u = record { quiet = λ c z. z }
pointer_quiet bin.Shr size ps t a b u = record { quiet = λ c z. z }
pointer_quiet bin.Less size ps t a b u = record { quiet = λ c z. z }
pointer_quiet bin.LessEq size ps t a b u = record { quiet = λ c z. z }
pointer_quiet bin.More size ps t a b u = record { quiet = λ c z. z }
pointer_quiet bin.MoreEq size ps t a b u = record { quiet = λ c z. z }
pointer_quiet bin.Equal size ps t a b u = record { quiet = λ c z. z }
pointer_quiet bin.NotEqual size ps t a b u = record { quiet = λ c z. z }
pointer_quiet bin.BitAnd size ps t a b u = record { quiet = λ c z. z }
pointer_quiet bin.BitXor size ps t a b u = record { quiet = λ c z. z }
pointer_quiet bin.BitOr size ps t a b u = record { quiet = λ c z. z }
pointer_quiet bin.AndAlso size ps t a b u = record { quiet = λ c z. z }
pointer_quiet bin.OrElse size ps t a b u = record { quiet = λ c z. z }

on_quiet : (h : Shape) (op : BinOp) (ty : Option Ty) (ps : Bool) (t a b u : ℕ) → Quiet (coded (operated_on h op ty ps t a b u))
on_quiet h op None ps t a b u = word_quiet op t a b
on_quiet h op (Some ty) ps t a b u = pointer_quiet op (words h ty) ps t a b u

-- ---- what is reckoned is no place, has no structures, and calls nothing

pub record Bare (h : Shape) (x : TExprT) : Type 0 where
  pub place : is_place x ≡ false
  pub none : sizes h x ≡ []
  pub low : (t n m : ℕ) → Quiet (coded (low h x t n m))

pub and_first : (a b : Bool) → (a && b) ≡ true → a ≡ true
and_first true b e = refl
and_first false b e = cc

pub and_second : (a b : Bool) → (a && b) ≡ true → b ≡ true
and_second true b e = e
and_second false b e = cc

no_read : (h : Shape) (x : TExprT) → Bare h x → value_sizes h x ≡ []
no_read h x b = go (is_place x) b.place
  where
    go : (p : Bool) → p ≡ false → sizes h x ++ read_sizes h p (type_of x) ≡ []
    go true e = cc
    go false e = ap (λ ws. ws ++ []) b.none

bare_value : (h : Shape) (x : TExprT) → Bare h x → (t n m : ℕ) → Quiet (coded (value h x (low h x) t n m))
bare_value h x b t n m = go (is_place x) b.place
  where
    go : (p : Bool) → p ≡ false → Quiet (λ c. coded (value_of h p (type_of x) (m + length (sizes h x)) (low h x) t n m) c)
    go true e = cc
    go false e = b.low t n m

bare_test : (h : Shape) (x : TExprT) → Bare h x → (t n m : ℕ) → Quiet (coded (test h x (low h x) t n m))
bare_test h x b t n m = hushed (bare_value h x b t n m) (tested_quiet (decayed (type_of x)) t)

unary_low : (h : Shape) (op : UnOp) (x : TExprT) → Bare h x → is_reckoned_kind (UnaryK op x) ≡ true → (t n m : ℕ) → Quiet (coded (unary h op x (low h x) t n m))
unary_low h un.Minus x b e t n m = hushed (bare_value h x b t n m) (record { quiet = λ c z. z })
unary_low h un.Plus x b e t n m = bare_value h x b t n m
unary_low h un.Not x b e t n m = hushed (bare_value h x b t n m) (negated_quiet (decayed (type_of x)) t)
unary_low h un.Flip x b e t n m = hushed (bare_value h x b t n m) (record { quiet = λ c z. z })
unary_low h un.Deref x b e t n m = cc
unary_low h un.Address x b e t n m = cc

both_quiet : (h : Shape) (op : BinOp) (x y : TExprT) → Bare h x → Bare h y → (t n m : ℕ)
    → Quiet (λ c. coded (value h x (low h x) n (n + 1) m) (coded (value h y (low h y) (second x n) (second x n + 1) (beyond h x m)) (coded (operated h op (type_of x) (type_of y) t n (second x n) (size_at x y n)) c)))
both_quiet h op x y b d t n m =
    hushed (bare_value h x b n (n + 1) m) (hushed (bare_value h y d (second x n) (second x n + 1) (beyond h x m)) (on_quiet h op (pointed (decayed (type_of x))) (is_pointer (decayed (type_of y))) t n (second x n) (size_at x y n)))

last_silent : (h : Shape) (x y : TExprT) → Bare h y → (t n m : ℕ) → CallsNone (coded (test h y (low h y) t (second x n) (beyond h x m)) (coded (as_flag (tests_flag y) t) Stop))
last_silent h x y d t n m = silent (hushed (bare_test h y d t (second x n) (beyond h x m)) (as_flag_quiet (tests_flag y) t))

binary_low : (h : Shape) (op : BinOp) (x y : TExprT) → Bare h x → Bare h y → (t n m : ℕ) → Quiet (coded (binary h op x y (low h x) (low h y) t n m))
binary_low h bin.AndAlso x y b d t n m = hushed (bare_test h x b t n m) (record { quiet = λ c z. (last_silent h x y d t n m, tt, z) })
binary_low h bin.OrElse x y b d t n m = hushed (bare_test h x b t n m) (record { quiet = λ c z. (tt, last_silent h x y d t n m, z) })
binary_low h bin.Mul x y b d t n m = both_quiet h bin.Mul x y b d t n m
binary_low h bin.Div x y b d t n m = both_quiet h bin.Div x y b d t n m
binary_low h bin.Mod x y b d t n m = both_quiet h bin.Mod x y b d t n m
binary_low h bin.Add x y b d t n m = both_quiet h bin.Add x y b d t n m
binary_low h bin.Sub x y b d t n m = both_quiet h bin.Sub x y b d t n m
binary_low h bin.Shl x y b d t n m = both_quiet h bin.Shl x y b d t n m
binary_low h bin.Shr x y b d t n m = both_quiet h bin.Shr x y b d t n m
binary_low h bin.Less x y b d t n m = both_quiet h bin.Less x y b d t n m
binary_low h bin.LessEq x y b d t n m = both_quiet h bin.LessEq x y b d t n m
binary_low h bin.More x y b d t n m = both_quiet h bin.More x y b d t n m
binary_low h bin.MoreEq x y b d t n m = both_quiet h bin.MoreEq x y b d t n m
binary_low h bin.Equal x y b d t n m = both_quiet h bin.Equal x y b d t n m
binary_low h bin.NotEqual x y b d t n m = both_quiet h bin.NotEqual x y b d t n m
binary_low h bin.BitAnd x y b d t n m = both_quiet h bin.BitAnd x y b d t n m
binary_low h bin.BitXor x y b d t n m = both_quiet h bin.BitXor x y b d t n m
binary_low h bin.BitOr x y b d t n m = both_quiet h bin.BitOr x y b d t n m

unary_place : (op : UnOp) (x : TExprT) → is_reckoned_kind (UnaryK op x) ≡ true → (ty : Ty) (span : Span) → is_place (Typed (UnaryK op x) ty span) ≡ false
unary_place un.Minus x e ty span = refl
unary_place un.Plus x e ty span = refl
unary_place un.Not x e ty span = refl
unary_place un.Flip x e ty span = refl
unary_place un.Deref x e ty span = cc
unary_place un.Address x e ty span = cc

unary_inner : (op : UnOp) (x : TExprT) → is_reckoned_kind (UnaryK op x) ≡ true → is_reckoned x ≡ true
unary_inner un.Minus x e = e
unary_inner un.Plus x e = e
unary_inner un.Not x e = e
unary_inner un.Flip x e = e
unary_inner un.Deref x e = cc
unary_inner un.Address x e = cc

unary_none : (h : Shape) (op : UnOp) (x : TExprT) → Bare h x → is_reckoned_kind (UnaryK op x) ≡ true → unary_sizes h op x (sizes h x) ≡ []
unary_none h un.Minus x b e = no_read h x b
unary_none h un.Plus x b e = no_read h x b
unary_none h un.Not x b e = no_read h x b
unary_none h un.Flip x b e = no_read h x b
unary_none h un.Deref x b e = cc
unary_none h un.Address x b e = cc

reckoned : (h : Shape) (x : TExprT) → is_reckoned x ≡ true → Bare h x
reckoned h (Typed (NumberK k) ty span) e = record { place = refl; none = refl; low = λ t n m. record { quiet = λ c z. z } }
reckoned h (Typed (UnaryK op x) ty span) e =
    let b = reckoned h x (unary_inner op x e) in record { place = unary_place op x e ty span; none = unary_none h op x b e; low = λ t n m. unary_low h op x b e t n m }
reckoned h (Typed (BinaryK op x y) ty span) e =
    let b = reckoned h x (and_first (is_reckoned x) (is_reckoned y) e) in
    let d = reckoned h y (and_second (is_reckoned x) (is_reckoned y) e) in
    record { place = refl; none = ap (λ ws. ws ++ value_sizes h y) (no_read h x b) ∙ no_read h y d; low = λ t n m. binary_low h op x y b d t n m }
reckoned h (Typed NullK ty span) e = cc
reckoned h (Typed (LiteralK k) ty span) e = cc
reckoned h (Typed (GlobalK k) ty span) e = cc
reckoned h (Typed (LocalK k) ty span) e = cc
reckoned h (Typed (AssignK op x y) ty span) e = cc
reckoned h (Typed (StepK op x) ty span) e = cc
reckoned h (Typed (IndexK x y) ty span) e = cc
reckoned h (Typed (MemberK x k) ty span) e = cc
reckoned h (Typed (ArrowK x k) ty span) e = cc
reckoned h (Typed (CastK x) ty span) e = cc
reckoned h (Typed (CallK f xs) ty span) e = cc
reckoned h (Typed (InK k) ty span) e = cc
reckoned h (Typed (OutK k x) ty span) e = cc
reckoned h (Typed WaitK ty span) e = cc
reckoned h (Typed HaltK ty span) e = cc
reckoned h (Typed CardK ty span) e = cc

-- ---- what is given

pub record Given (h : Shape) (x : TExprT) : Type 0 where
  pub none : value_sizes h x ≡ []
  pub low : (t n m : ℕ) → Quiet (coded (low_value h x t n m))

either_true : (a b c : Bool) → ((a && b) || c) ≡ true → (b ≡ true) ⊎ (c ≡ true)
either_true true true c e = inl refl
either_true true false c e = inr e
either_true false b c e = inr e

-- a text is an array
literal_array : (o : Option (List ℕ)) (ty : Ty) → option_map text_type o ≡ Some ty → (of : Ty) × (len : ℕ) × (ty ≡ ArrayY of len)
literal_array None ty e = cc
literal_array (Some t) ty e = (IntY, length t + 1, cc)

fixed_given : (z : Scene) (h : Shape) (k : TKindT) (ty : Ty) (span : Span) → IsKind z k ty → is_null_or_text k ≡ true → Given h (Typed k ty span)
fixed_given z h NullK ty span is e = record { none = refl; low = λ t n m. record { quiet = λ c z. z } }
fixed_given z h (LiteralK number) ty span is e = go ty (literal_array (slice_get z.literals number) ty is)
  where
    go : (ty : Ty) → ((of : Ty) × (len : ℕ) × (ty ≡ ArrayY of len)) → Given h (Typed (LiteralK number) ty span)
    go (ArrayY of len) a = record { none = refl; low = λ t n m. record { quiet = λ c z. z } }
    go VoidY a = absurd (let e = a.2 in cc)
    go IntY a = absurd (let e = a.2 in cc)
    go BoolY a = absurd (let e = a.2 in cc)
    go (EnumY k) a = absurd (let e = a.2 in cc)
    go (StructY k) a = absurd (let e = a.2 in cc)
    go (UnionY k) a = absurd (let e = a.2 in cc)
    go (PointerY to) a = absurd (let e = a.2 in cc)
fixed_given z h (NumberK k) ty span is e = cc
fixed_given z h (GlobalK k) ty span is e = cc
fixed_given z h (LocalK k) ty span is e = cc
fixed_given z h (UnaryK op x) ty span is e = cc
fixed_given z h (BinaryK op x y) ty span is e = cc
fixed_given z h (AssignK op x y) ty span is e = cc
fixed_given z h (StepK op x) ty span is e = cc
fixed_given z h (IndexK x y) ty span is e = cc
fixed_given z h (MemberK x k) ty span is e = cc
fixed_given z h (ArrowK x k) ty span is e = cc
fixed_given z h (CastK x) ty span is e = cc
fixed_given z h (CallK f xs) ty span is e = cc
fixed_given z h (InK k) ty span is e = cc
fixed_given z h (OutK k x) ty span is e = cc
fixed_given z h WaitK ty span is e = cc
fixed_given z h HaltK ty span is e = cc
fixed_given z h CardK ty span is e = cc

given : (z : Scene) (h : Shape) (x : TExprT) → IsTyped z x → is_given x ≡ true → Given h x
given z h (Typed k ty span) is e = elim (either_true (is_some (constant (Typed k ty span))) (is_reckoned (Typed k ty span)) (is_null_or_text k) e) [
  | inl r ↦ let b = reckoned h (Typed k ty span) r in record { none = no_read h (Typed k ty span) b; low = λ t n m. bare_value h (Typed k ty span) b t n m }
  | inr f ↦ fixed_given z h k ty span is.1 f
]

-- ---- initialisers

part_at_quiet : (p offset : ℕ) → Quiet (coded (part_at p offset))
part_at_quiet p zero = record { quiet = λ c z. z }
part_at_quiet p (suc offset) = record { quiet = λ c z. z }

cell_quiet : (p offset : ℕ) → Quiet (coded (cell_filled p offset))
cell_quiet p zero = record { quiet = λ c z. z }
cell_quiet p (suc offset) = record { quiet = λ c z. z }

part_quiet : (h : Shape) (ty : Ty) (p offset : ℕ) → Quiet (coded (part_filled h ty p offset))
part_quiet h ty p offset =
    let q = hushed (part_at_quiet p offset) (copied_on_quiet (words h ty) item) in
    hush_either (is_structure ty) (record { quiet = λ c z. q.quiet c z }) (cell_quiet p offset)

zero_quiet : (p offset size : ℕ) → Quiet (coded (part_zeroed p offset size))
zero_quiet p offset zero = record { quiet = λ c z. z }
zero_quiet p offset (suc left) = hushed (part_at_quiet p offset) (zeroed_quiet (suc left))

text_quiet : (h : Shape) (number size p offset : ℕ) → Quiet (coded (low_text h number size p offset))
text_quiet h number size p offset =
    let q = hushed (part_at_quiet p offset) (hushed (copied_quiet (literal_words h number)) (zero_quiet p ((offset + literal_words h number) % 2 ^ 32) (size - literal_words h number))) in
    record { quiet = λ c z. q.quiet c z }

rest_quiet : (h : Shape) (ty : Ty) (k p offset : ℕ) → Quiet (coded (low_rest h ty k p offset))
rest_quiet h (ArrayY of len) k p offset = zero_quiet p offset (words h of * (len - k) % 2 ^ 32)
rest_quiet h VoidY k p offset = record { quiet = λ c z. z }
rest_quiet h IntY k p offset = record { quiet = λ c z. z }
rest_quiet h BoolY k p offset = record { quiet = λ c z. z }
rest_quiet h (EnumY e) k p offset = record { quiet = λ c z. z }
rest_quiet h (StructY e) k p offset = record { quiet = λ c z. z }
rest_quiet h (UnionY e) k p offset = record { quiet = λ c z. z }
rest_quiet h (PointerY to) k p offset = record { quiet = λ c z. z }

mutual
  init_quiet : (z : Scene) (h : Shape) (g : Bool) (i : TInitT) (o : Option Ty) → FillsAs z g i o → fills_with_given i ≡ true → (ty : Ty) (p offset n m : ℕ) → Quiet (coded (low_init h i ty p offset n m))
  init_quiet z h g (OneI x) None is e ty p offset n m = absurd is
  init_quiet z h g (OneI x) (Some to_type) is e ty p offset n m =
      let q = given z h x (is.0).typed e in hushed (q.low item n m) (hushed (converted_quiet ty (is_flag x) item) (part_quiet h ty p offset))
  init_quiet z h g (TextI number) o is e ty p offset n m = text_quiet h number (words h ty) p offset
  init_quiet z h g (ListI items) None is e ty p offset n m = absurd is
  init_quiet z h g (ListI items) (Some to_type) is e ty p offset n m = inits_quiet z h g items (slots_of z.layouts to_type) is.1 e ty 0 p offset n m

  inits_quiet : (z : Scene) (h : Shape) (g : Bool) (items : TInitTs) (o : Slots) → FillEach z g items o → all_fill_with_given items ≡ true → (ty : Ty) (k p offset n m : ℕ) → Quiet (coded (low_inits h items ty k p offset n m))
  inits_quiet z h g NoI o is e ty k p offset n m = rest_quiet h ty k p offset
  inits_quiet z h g (MoreI i rest) o is e ty k p offset n m =
      hushed (init_quiet z h g i (next_slot o) is.0 (and_first (fills_with_given i) (all_fill_with_given rest) e) (part_type h.layouts ty k) p offset n m)
      (inits_quiet z h g rest (later_slots o) is.1 (and_second (fills_with_given i) (all_fill_with_given rest) e) ty (k + 1) p ((offset + words h (part_type h.layouts ty k)) % 2 ^ 32) (n + init_temps i) (m + length (init_sizes h i)))

mutual
  init_none : (z : Scene) (h : Shape) (g : Bool) (i : TInitT) (o : Option Ty) → FillsAs z g i o → fills_with_given i ≡ true → init_sizes h i ≡ []
  init_none z h g (OneI x) None is e = absurd is
  init_none z h g (OneI x) (Some ty) is e = let q = given z h x (is.0).typed e in q.none
  init_none z h g (TextI number) o is e = refl
  init_none z h g (ListI items) None is e = absurd is
  init_none z h g (ListI items) (Some ty) is e = inits_none z h g items (slots_of z.layouts ty) is.1 e

  inits_none : (z : Scene) (h : Shape) (g : Bool) (items : TInitTs) (o : Slots) → FillEach z g items o → all_fill_with_given items ≡ true → inits_sizes h items ≡ []
  inits_none z h g NoI o is e = refl
  inits_none z h g (MoreI i rest) o is e =
      ap (λ ws. ws ++ inits_sizes h rest) (init_none z h g i (next_slot o) is.0 (and_first (fills_with_given i) (all_fill_with_given rest) e))
      ∙ inits_none z h g rest (later_slots o) is.1 (and_second (fills_with_given i) (all_fill_with_given rest) e)

-- ---- variables

object_quiet : (g : Bool) (number t : ℕ) → Quiet (coded (object_to g number t))
object_quiet true number t = record { quiet = λ c z. z }
object_quiet false number t = record { quiet = λ c z. z }

pub vars_quiet : (z : Scene) (h : Shape) (g : Bool) (vs : List TVarT) → AreFilled z g vs → list_all (λ v. v.global && fills_with_given v.init) vs ≡ true → (n m : ℕ) → Quiet (coded (low_vars h vs n m))
vars_quiet z h g [] is e n m = record { quiet = λ c z. z }
vars_quiet z h g (v ∷ vs) is e n m =
    let first = and_first (v.global && fills_with_given v.init) (list_all (λ v. v.global && fills_with_given v.init) vs) e in
    let rest = and_second (v.global && fills_with_given v.init) (list_all (λ v. v.global && fills_with_given v.init) vs) e in
    hushed (object_quiet v.global v.object (address_of v.init n))
    (hushed (init_quiet z h g v.init (Some v.ty) (is.0).filled (and_second v.global (fills_with_given v.init) first) v.ty (address_of v.init n) 0 (behind_address v.init n) m)
    (vars_quiet z h g vs is.1 rest (behind_address v.init n + init_temps v.init) (m + length (init_sizes h v.init))))

pub vars_none : (z : Scene) (h : Shape) (g : Bool) (vs : List TVarT) → AreFilled z g vs → list_all (λ v. v.global && fills_with_given v.init) vs ≡ true → vars_sizes h vs ≡ []
vars_none z h g [] is e = refl
vars_none z h g (v ∷ vs) is e =
    let first = and_first (v.global && fills_with_given v.init) (list_all (λ v. v.global && fills_with_given v.init) vs) e in
    let rest = and_second (v.global && fills_with_given v.init) (list_all (λ v. v.global && fills_with_given v.init) vs) e in
    ap (λ ws. ws ++ vars_sizes h vs) (init_none z h g v.init (Some v.ty) (is.0).filled (and_second v.global (fills_with_given v.init) first)) ∙ vars_none z h g vs is.1 rest
