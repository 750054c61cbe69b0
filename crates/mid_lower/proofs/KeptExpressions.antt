-- Lowered expressions of a program keep code what mid code has to be.
use Rattle.std.proofs.Common.{◌≡◌, ℕ, zero, suc, ◌+◌, ◌<◌, ◌≤◌, ◌^◌, Bool, true, false, List, [], ◌∷◌, ◌++◌, length, length-append, slice_get, Option, Some, None, option_map, refl, sym, ap, ◌∙◌, arith, if◌then◌else◌}
use Rattle.std.specs.Option.{option_map_or}
use Rattle.c_tree.specs.declared.operator.UnOp.{UnOp}
use Rattle.c_tree.specs.declared.operator.UnOp.TheVariants as un
use Rattle.c_tree.specs.declared.operator.BinOp.{BinOp}
use Rattle.c_tree.specs.declared.operator.BinOp.TheVariants as bin
use Rattle.c_tree.specs.declared.operator.StepOp.{StepOp}
use Rattle.c_tree.specs.declared.operator.StepOp.TheVariants.{PreUp, PreDown, PostUp, PostDown}
use Rattle.c_types.specs.Types.{Ty, VoidY, IntY, BoolY, EnumY, StructY, UnionY, PointerY, ArrayY}
use Rattle.c_types.specs.Typed.{TExprT, Typed, TKindT, NumberK, NullK, LiteralK, GlobalK, LocalK, UnaryK, BinaryK, AssignK, StepK, IndexK, MemberK, ArrowK, CastK, CallK, InK, OutK, WaitK, HaltK, CardK, TExprTs, NoX, MoreX}
use Rattle.c_types.specs.Programs.{TFunctionT}
use Rattle.c_exprs.specs.Nodes.{is_place}
use Rattle.c_types.specs.Lists.{listed}
use Rattle.c_meaning.specs.Kinds.{type_of}
use Rattle.c_types.specs.Kinds.{is_structure, decayed, pointed}
use Rattle.c_facts.specs.Sound.{Scene, IsTyped, IsKind, AreValues, Calls, text_type}
use Rattle.c_facts.specs.Words.{InWords, KindInWords, AllInWords}
use Rattle.v32_isa.specs.declared.instruction.One.TheVariants.{ISGN, NOT}
use Rattle.mid_code.specs.Code.{LiteralO, GlobalO, InO, OutO, WaitO, HaltO, CardO, Stop}
use Rattle.mid_code.specs.Invariants.{AllOf, parameter_count}
use Rattle.lower_trees.specs.Shape.{Shape, words, literal_words, params_of, result_of}
use Rattle.lower_trees.specs.Flags.{is_flag, tests_flag}
use Rattle.lower_trees.specs.Pieces.{coded}
use Rattle.lower_trees.specs.Parts.{as_flag, stepped, operated, result_at, first_param}
use Rattle.lower_trees.specs.Expressions.{Low, value_of, value, test, unary, binary, assign, step_made, stepped_to, step_taken, member_of, called, spots, converted_to, later_types, second, beyond, size_at, behind_place, low, low_kind, low_args, low_value, low_test, counts_up}
use Rattle.lower_trees.specs.Lowered.{args_from, with_result}
use Rattle.lower_trees.specs.Counts.{with_place, unary_temps, size_temps, temps, temps_of, temps_all, value_temps, one_size, read_sizes, with_read, unary_sizes, sizes, sizes_of, sizes_all, value_sizes}
use Rattle.mid_lower.proofs.Kept.{Site, Good, Keeps, both, alone, none, either_kept, op_kept, call_kept, choose_kept, k_const, k_null, k_one, k_local, k_fresh, k_load, k_step, k_store, words_small, moved_by_kept, structure_read_kept, as_flag_kept, converted_kept, stored_kept, stepped_kept, operated_kept, one_more_kept, one_less_kept, tested_as_kept, negated_as_kept}

-- the code of a program, and what its trees name
pub record Linked (s : Site) (z : Scene) (h : Shape) : Type 0 where
  pub functions : h.functions ≡ z.functions
  pub globals : length s.code.globals ≡ length z.globals
  pub literals : length s.code.literals ≡ length z.literals
  pub locals : length z.locals ≤ s.locals
  pub texts : (number : ℕ) → literal_words h number < 2 ^ 32
  pub calls : (f : ℕ) → parameter_count s.code f ≡ option_map (λ g. length (with_result g.gives (args_from first_param g.params))) (slice_get z.functions f)

-- a tree that has so many temporaries of its own, and makes so many locals
pub record Part (s : Site) (of : Low) (own made : ℕ) : Type 0 where
  pub at : (ls : List Bool) (t n m : ℕ) → t < s.temps → n + own ≤ s.temps → m + made ≤ s.locals → Keeps s ls (coded (of t n m))

pub there : {A B : Type 0} (g : A → B) (xs : List A) (k : ℕ) (y : B) → option_map g (slice_get xs k) ≡ Some y → k < length xs
there g [] k y e = cc
there g (x ∷ xs) zero y e = omega arith
there g (x ∷ xs) (suc k) y e = let lt = there g xs k y e in omega arith

pub same_option : (o : Option ℕ) → option_map (λ k. k) o ≡ o
same_option None = refl
same_option (Some k) = refl

-- ---- values

value_of_kept : {of : Low} {own : ℕ} (s : Site) (h : Shape) (place : Bool) (ty : Ty) (ws : List ℕ) → Part s of own (length ws) → (ls : List Bool) (t n m : ℕ)
    → t < s.temps → n + with_place place ty own ≤ s.temps → m + length (ws ++ read_sizes h place ty) ≤ s.locals → Keeps s ls (coded (value_of h place ty (m + length ws) of t n m))
value_of_kept s h false ty ws p ls t n m lt ln lm = p.at ls t n m lt ln (omega (arith, length-append ws []))
value_of_kept s h true VoidY ws p ls t n m lt ln lm = p.at ls t n m lt ln (omega (arith, length-append ws []))
value_of_kept s h true IntY ws p ls t n m lt ln lm = both (p.at ls n (n + 1) m (omega arith) (omega arith) (omega (arith, length-append ws []))) (k_load t n lt (omega arith))
value_of_kept s h true BoolY ws p ls t n m lt ln lm = both (p.at ls n (n + 1) m (omega arith) (omega arith) (omega (arith, length-append ws []))) (k_load t n lt (omega arith))
value_of_kept s h true (EnumY e) ws p ls t n m lt ln lm = both (p.at ls n (n + 1) m (omega arith) (omega arith) (omega (arith, length-append ws []))) (k_load t n lt (omega arith))
value_of_kept s h true (PointerY e) ws p ls t n m lt ln lm = both (p.at ls n (n + 1) m (omega arith) (omega arith) (omega (arith, length-append ws []))) (k_load t n lt (omega arith))
value_of_kept s h true (ArrayY of len) ws p ls t n m lt ln lm = p.at ls t n m lt ln (omega (arith, length-append ws []))
value_of_kept s h true (StructY e) ws p ls t n m lt ln lm =
    let more = length-append ws (words h (StructY e) ∷ []) in
    both (p.at ls t n m lt ln (omega (arith, more))) (structure_read_kept s (words h (StructY e)) (m + length ws) t (words_small h (StructY e)) (omega (arith, more)) lt)
value_of_kept s h true (UnionY e) ws p ls t n m lt ln lm =
    let more = length-append ws (words h (UnionY e) ∷ []) in
    both (p.at ls t n m lt ln (omega (arith, more))) (structure_read_kept s (words h (UnionY e)) (m + length ws) t (words_small h (UnionY e)) (omega (arith, more)) lt)

pub value_kept : {of : Low} (s : Site) (h : Shape) (x : TExprT) → Part s of (temps x) (length (sizes h x)) → Part s (value h x of) (value_temps x) (length (value_sizes h x))
value_kept s h x p = record { at = λ ls t n m lt ln lm. value_of_kept s h (is_place x) (type_of x) (sizes h x) p ls t n m lt ln lm }

pub test_kept : {of : Low} (s : Site) (h : Shape) (x : TExprT) → Part s of (temps x) (length (sizes h x)) → Part s (test h x of) (value_temps x) (length (value_sizes h x))
test_kept s h x p = let v = value_kept s h x p in record { at = λ ls t n m lt ln lm. both (v.at ls t n m lt ln lm) (tested_as_kept s (decayed (type_of x)) t lt) }

-- ---- operators

unary_kept : {of : Low} (s : Site) (h : Shape) (op : UnOp) (x : TExprT) → Part s of (temps x) (length (sizes h x)) → Part s (unary h op x of) (unary_temps op x (temps x)) (length (unary_sizes h op x (sizes h x)))
unary_kept s h un.Deref x p = value_kept s h x p
unary_kept s h un.Address x p = record { at = λ ls t n m lt ln lm. p.at ls t n m lt ln lm }
unary_kept s h un.Plus x p = value_kept s h x p
unary_kept s h un.Not x p = let v = value_kept s h x p in record { at = λ ls t n m lt ln lm. both (v.at ls t n m lt ln lm) (negated_as_kept s (decayed (type_of x)) t lt) }
unary_kept s h un.Minus x p = let v = value_kept s h x p in record { at = λ ls t n m lt ln lm. both (v.at ls t n m lt ln lm) (k_one ISGN t t tt lt lt) }
unary_kept s h un.Flip x p = let v = value_kept s h x p in record { at = λ ls t n m lt ln lm. both (v.at ls t n m lt ln lm) (k_one NOT t t tt lt lt) }

abbrev two_sizes : Shape → TExprT → TExprT → List ℕ
two_sizes h x y = with_read h x (sizes h x) ++ with_read h y (sizes h y)

last_good : {of : Low} (s : Site) (h : Shape) (x y : TExprT) → Part s of (temps y) (length (sizes h y)) → (ls : List Bool) (t n m : ℕ) → t < s.temps → n + (value_temps x + value_temps y + 3) ≤ s.temps
    → m + length (two_sizes h x y) ≤ s.locals → Good s ls (coded (test h y of t (second x n) (beyond h x m)) (coded (as_flag (tests_flag y) t) Stop))
last_good s h x y q ls t n m lt ln lm =
    let v = test_kept s h y q in
    let more = length-append (value_sizes h x) (value_sizes h y) in
    alone (both (v.at ls t (second x n) (beyond h x m) lt (omega arith) (omega (arith, more))) (as_flag_kept (tests_flag y) t lt))

both_kept : {f g : Low} (s : Site) (h : Shape) (op : BinOp) (x y : TExprT) → Part s f (temps x) (length (sizes h x)) → Part s g (temps y) (length (sizes h y)) → (ls : List Bool) (t n m : ℕ)
    → t < s.temps → n + (value_temps x + value_temps y + 3) ≤ s.temps → m + length (two_sizes h x y) ≤ s.locals
    → Keeps s ls (λ c. coded (value h x f n (n + 1) m) (coded (value h y g (second x n) (second x n + 1) (beyond h x m)) (coded (operated h op (type_of x) (type_of y) t n (second x n) (size_at x y n)) c)))
both_kept s h op x y p q ls t n m lt ln lm =
    let v = value_kept s h x p in
    let w = value_kept s h y q in
    let more = length-append (value_sizes h x) (value_sizes h y) in
    both (v.at ls n (n + 1) m (omega arith) (omega arith) (omega (arith, more)))
    (both (w.at ls (second x n) (second x n + 1) (beyond h x m) (omega arith) (omega arith) (omega (arith, more)))
    (operated_kept h op (type_of x) (type_of y) t n (second x n) (size_at x y n) lt (omega arith) (omega arith) (omega arith)))

binary_at : {f g : Low} (s : Site) (h : Shape) (op : BinOp) (x y : TExprT) → Part s f (temps x) (length (sizes h x)) → Part s g (temps y) (length (sizes h y)) → (ls : List Bool) (t n m : ℕ)
    → t < s.temps → n + (value_temps x + value_temps y + 3) ≤ s.temps → m + length (two_sizes h x y) ≤ s.locals → Keeps s ls (coded (binary h op x y f g t n m))
binary_at s h bin.AndAlso x y p q ls t n m lt ln lm =
    let v = test_kept s h x p in
    let more = length-append (value_sizes h x) (value_sizes h y) in
    both (v.at ls t n m lt (omega arith) (omega (arith, more))) (choose_kept t lt (last_good s h x y q ls t n m lt ln lm) (alone (k_const t 0 lt (omega arith))))
binary_at s h bin.OrElse x y p q ls t n m lt ln lm =
    let v = test_kept s h x p in
    let more = length-append (value_sizes h x) (value_sizes h y) in
    both (v.at ls t n m lt (omega arith) (omega (arith, more))) (choose_kept t lt (alone (k_const t 1 lt (omega arith))) (last_good s h x y q ls t n m lt ln lm))
binary_at s h bin.Mul x y p q ls t n m lt ln lm = both_kept s h bin.Mul x y p q ls t n m lt ln lm
binary_at s h bin.Div x y p q ls t n m lt ln lm = both_kept s h bin.Div x y p q ls t n m lt ln lm
binary_at s h bin.Mod x y p q ls t n m lt ln lm = both_kept s h bin.Mod x y p q ls t n m lt ln lm
binary_at s h bin.Add x y p q ls t n m lt ln lm = both_kept s h bin.Add x y p q ls t n m lt ln lm
binary_at s h bin.Sub x y p q ls t n m lt ln lm = both_kept s h bin.Sub x y p q ls t n m lt ln lm
binary_at s h bin.Shl x y p q ls t n m lt ln lm = both_kept s h bin.Shl x y p q ls t n m lt ln lm
binary_at s h bin.Shr x y p q ls t n m lt ln lm = both_kept s h bin.Shr x y p q ls t n m lt ln lm
binary_at s h bin.Less x y p q ls t n m lt ln lm = both_kept s h bin.Less x y p q ls t n m lt ln lm
binary_at s h bin.LessEq x y p q ls t n m lt ln lm = both_kept s h bin.LessEq x y p q ls t n m lt ln lm
binary_at s h bin.More x y p q ls t n m lt ln lm = both_kept s h bin.More x y p q ls t n m lt ln lm
binary_at s h bin.MoreEq x y p q ls t n m lt ln lm = both_kept s h bin.MoreEq x y p q ls t n m lt ln lm
binary_at s h bin.Equal x y p q ls t n m lt ln lm = both_kept s h bin.Equal x y p q ls t n m lt ln lm
binary_at s h bin.NotEqual x y p q ls t n m lt ln lm = both_kept s h bin.NotEqual x y p q ls t n m lt ln lm
binary_at s h bin.BitAnd x y p q ls t n m lt ln lm = both_kept s h bin.BitAnd x y p q ls t n m lt ln lm
binary_at s h bin.BitXor x y p q ls t n m lt ln lm = both_kept s h bin.BitXor x y p q ls t n m lt ln lm
binary_at s h bin.BitOr x y p q ls t n m lt ln lm = both_kept s h bin.BitOr x y p q ls t n m lt ln lm

-- ---- assignments and steps

assign_at : {f g : Low} (s : Site) (h : Shape) (op : Option BinOp) (x y : TExprT) → Part s f (temps x) (length (sizes h x)) → Part s g (temps y) (length (sizes h y)) → (ls : List Bool) (t n m : ℕ)
    → t < s.temps → n + (temps x + value_temps y + 3) ≤ s.temps → m + length (sizes h x ++ value_sizes h y) ≤ s.locals → Keeps s ls (coded (assign h op x y f g t n m))
assign_at s h None x y p q ls t n m lt ln lm =
    let w = value_kept s h y q in
    let more = length-append (sizes h x) (value_sizes h y) in
    both (p.at ls n (n + 1) m (omega arith) (omega arith) (omega (arith, more)))
    (both (w.at ls t (behind_place x n + 2) (m + length (sizes h x)) lt (omega arith) (omega (arith, more)))
    (both (converted_kept (type_of x) (is_flag y) t lt) (stored_kept s h (type_of x) n t (omega arith) lt)))
assign_at s h (Some op) x y p q ls t n m lt ln lm =
    let w = value_kept s h y q in
    let more = length-append (sizes h x) (value_sizes h y) in
    both (p.at ls n (n + 1) m (omega arith) (omega arith) (omega (arith, more)))
    (both (w.at ls (behind_place x n) (behind_place x n + 2) (m + length (sizes h x)) (omega arith) (omega arith) (omega (arith, more)))
    (both (k_load t n lt (omega arith))
    (both (operated_kept h op (type_of x) (type_of y) t t (behind_place x n) (behind_place x n + 1) lt lt (omega arith) (omega arith))
    (both (converted_kept (type_of x) false t lt) (k_store n t (omega arith) lt)))))

made_step : {s : Site} {ls : List Bool} (h : Shape) (op : StepOp) (ty : Ty) (new old by : ℕ) → new < s.temps → old < s.temps → by < s.temps → Keeps s ls (coded (step_made h (counts_up op) ty new old by))
made_step h PreUp ty new old by ln lo lb = one_more_kept h (pointed (decayed ty)) new old by ln lo lb
made_step h PostUp ty new old by ln lo lb = one_more_kept h (pointed (decayed ty)) new old by ln lo lb
made_step h PreDown ty new old by ln lo lb = one_less_kept h (pointed (decayed ty)) new old by ln lo lb
made_step h PostDown ty new old by ln lo lb = one_less_kept h (pointed (decayed ty)) new old by ln lo lb

step_to : {s : Site} {ls : List Bool} (h : Shape) (op : StepOp) (x : TExprT) (new old n : ℕ) → new < s.temps → old < s.temps → n + 1 < s.temps → Keeps s ls (coded (stepped_to h (counts_up op) (type_of x) new old n))
step_to h op x new old n ln lo lb = both (k_load old n lo (omega (arith, lb))) (both (made_step h op (type_of x) new old (n + 1) ln lo lb) (both (converted_kept (type_of x) false new ln) (k_store n new (omega (arith, lb)) ln)))

step_at : {f : Low} (s : Site) (h : Shape) (op : StepOp) (x : TExprT) → Part s f (temps x) (length (sizes h x)) → (ls : List Bool) (t n m : ℕ)
    → t < s.temps → n + (temps x + 2) ≤ s.temps → m + length (sizes h x) ≤ s.locals → Keeps s ls (coded (step_taken h op x f t n m))
step_at s h PreUp x p ls t n m lt ln lm = both (p.at ls n (n + 2) m (omega arith) (omega arith) lm) (step_to h PreUp x t t n lt lt (omega arith))
step_at s h PreDown x p ls t n m lt ln lm = both (p.at ls n (n + 2) m (omega arith) (omega arith) lm) (step_to h PreDown x t t n lt lt (omega arith))
step_at s h PostUp x p ls t n m lt ln lm = both (p.at ls n (n + 2) m (omega arith) (omega arith) lm) (step_to h PostUp x (n + 1) t n (omega arith) lt (omega arith))
step_at s h PostDown x p ls t n m lt ln lm = both (p.at ls n (n + 2) m (omega arith) (omega arith) lm) (step_to h PostDown x (n + 1) t n (omega arith) lt (omega arith))

-- ---- elements, members and calls

-- the size of an element comes to a temporary that is there unless it is a scalar
element_kept : {s : Site} {ls : List Bool} (h : Shape) (ty : Ty) (t a b u : ℕ) → t < s.temps → a < s.temps → b < s.temps → u + size_temps ty ≤ s.temps → Keeps s ls (coded (stepped (words h ty) t a b u))
element_kept h IntY t a b u lt la lb lu = k_step t a b lt la lb
element_kept h BoolY t a b u lt la lb lu = k_step t a b lt la lb
element_kept h (EnumY e) t a b u lt la lb lu = k_step t a b lt la lb
element_kept h (PointerY to) t a b u lt la lb lu = k_step t a b lt la lb
element_kept h VoidY t a b u lt la lb lu = stepped_kept (words h VoidY) t a b u (words_small h VoidY) lt la lb (omega (arith, lu))
element_kept h (StructY e) t a b u lt la lb lu = stepped_kept (words h (StructY e)) t a b u (words_small h (StructY e)) lt la lb (omega (arith, lu))
element_kept h (UnionY e) t a b u lt la lb lu = stepped_kept (words h (UnionY e)) t a b u (words_small h (UnionY e)) lt la lb (omega (arith, lu))
element_kept h (ArrayY of len) t a b u lt la lb lu = stepped_kept (words h (ArrayY of len)) t a b u (words_small h (ArrayY of len)) lt la lb (omega (arith, lu))

member_of_kept : {s : Site} {ls : List Bool} (place : Bool) (ty : Ty) (t : ℕ) → t < s.temps → Keeps s ls (coded (member_of place ty t))
member_of_kept true ty t lt = none
member_of_kept false ty t lt = either_kept (is_structure ty) none (k_load t t lt lt)

converted_to_kept : {s : Site} {ls : List Bool} (tys : List Ty) (known : Bool) (t : ℕ) → t < s.temps → Keeps s ls (coded (converted_to tys known t))
converted_to_kept [] known t lt = none
converted_to_kept (ty ∷ tys) known t lt = converted_kept ty known t lt

abbrev passed : Ty → (t : ℕ) → List ℕ → List ℕ
passed ty t args = if is_structure ty then t ∷ args else args

called_kept : {s : Site} {ls : List Bool} (h : Shape) (ty : Ty) (f k t : ℕ) (args : List ℕ) → parameter_count s.code f ≡ Some (length (passed ty t args)) → k + length (one_size h ty) ≤ s.locals → t < s.temps → AllOf (λ a. a < s.temps) args → Keeps s ls (coded (called ty f k t args))
called_kept h (StructY e) f k t args is lk lt all = both (k_fresh k (omega arith)) (both (k_local t k lt (omega arith)) (call_kept None f (t ∷ args) is (lt, all) tt))
called_kept h (UnionY e) f k t args is lk lt all = both (k_fresh k (omega arith)) (both (k_local t k lt (omega arith)) (call_kept None f (t ∷ args) is (lt, all) tt))
called_kept h VoidY f k t args is lk lt all = call_kept None f args is all tt
called_kept h IntY f k t args is lk lt all = call_kept (Some t) f args is all (lt, tt)
called_kept h BoolY f k t args is lk lt all = call_kept (Some t) f args is all (lt, tt)
called_kept h (EnumY e) f k t args is lk lt all = call_kept (Some t) f args is all (lt, tt)
called_kept h (PointerY e) f k t args is lk lt all = call_kept (Some t) f args is all (lt, tt)
called_kept h (ArrayY of len) f k t args is lk lt all = call_kept (Some t) f args is all (lt, tt)

spots_length : (xs : TExprTs) (n : ℕ) → length (spots xs n) ≡ length (listed xs)
spots_length NoX n = refl
spots_length (MoreX x xs) n = ap suc (spots_length xs (second x n))

pub args_length : (a : ℕ) (tys : List Ty) → length (args_from a tys) ≡ length tys
args_length a [] = refl
args_length a (ty ∷ tys) = ap suc (args_length (a + 1) tys)

spots_all : (s : Site) (xs : TExprTs) (n : ℕ) → n + temps_all xs ≤ s.temps → AllOf (λ a. a < s.temps) (spots xs n)
spots_all s NoX n ln = tt
spots_all s (MoreX x xs) n ln = (omega arith, spots_all s xs (second x n) (omega arith))

-- as many are passed as the function has parameters
led_length : (ty : Ty) (t r : ℕ) (args ps : List ℕ) → length args ≡ length ps → length (passed ty t args) ≡ length (if is_structure ty then r ∷ ps else ps)
led_length ty t r args ps e = go (is_structure ty)
  where
    go : (b : Bool) → length (if b then t ∷ args else args) ≡ length (if b then r ∷ ps else ps)
    go true = ap suc e
    go false = e

passes : (s : Site) (z : Scene) (h : Shape) → Linked s z h → (f t n : ℕ) (xs : TExprTs) (ty : Ty) → Calls (slice_get z.functions f) xs ty → parameter_count s.code f ≡ Some (length (passed (result_of h f) t (spots xs n)))
passes s z h link f t n xs ty typed = go (slice_get z.functions f) refl typed
  where
    gives : (g : TFunctionT) → slice_get z.functions f ≡ Some g → result_of h f ≡ g.gives
    gives g e = ap (λ fs. option_map_or (λ g. g.gives) (slice_get fs f) VoidY) link.functions ∙ ap (λ o. option_map_or (λ g. g.gives) o VoidY) e

    go : (o : Option TFunctionT) → slice_get z.functions f ≡ o → Calls o xs ty → parameter_count s.code f ≡ Some (length (passed (result_of h f) t (spots xs n)))
    go None e is = absurd is
    go (Some g) e is =
        link.calls f ∙ ap (option_map (λ g. length (with_result g.gives (args_from first_param g.params)))) e
        ∙ ap Some (sym (led_length g.gives t result_at (spots xs n) (args_from first_param g.params) (spots_length xs n ∙ is.count ∙ sym (args_length first_param g.params))))
        ∙ ap (λ ty. Some (length (passed ty t (spots xs n)))) (sym (gives g e))

-- ---- all forms

mutual
  pub low_kept : (s : Site) (z : Scene) (h : Shape) → Linked s z h → (x : TExprT) → IsTyped z x → InWords x → Part s (low h x) (temps x) (length (sizes h x))
  low_kept s z h link (Typed kind ty span) typed words = record { at = λ ls t n m lt ln lm. kind_kept s z h link kind ty typed.1 words.0 ls t n m lt ln lm }

  kind_kept : (s : Site) (z : Scene) (h : Shape) → Linked s z h → (k : TKindT) (ty : Ty) → IsKind z k ty → KindInWords k → (ls : List Bool) (t n m : ℕ)
      → t < s.temps → n + temps_of k ty ≤ s.temps → m + length (sizes_of h k) ≤ s.locals → Keeps s ls (coded (low_kind h k ty t n m))
  kind_kept s z h link (NumberK x) ty is w ls t n m lt ln lm = k_const t x lt w
  kind_kept s z h link NullK ty is w ls t n m lt ln lm = k_null t lt
  kind_kept s z h link (LiteralK number) ty is w ls t n m lt ln lm =
      let below = there text_type z.literals number ty is in op_kept (LiteralO t number) (omega (arith, below, link.literals)) tt (lt, tt)
  kind_kept s z h link (GlobalK number) ty is w ls t n m lt ln lm =
      let below = there (λ g. g.1) z.globals number _ is.0 in op_kept (GlobalO t number) (omega (arith, below, link.globals)) tt (lt, tt)
  kind_kept s z h link (LocalK number) ty is w ls t n m lt ln lm =
      let below = there (λ k. k) z.locals number _ (same_option (slice_get z.locals number) ∙ is.0) in k_local t number lt (omega (arith, below, link.locals))
  kind_kept s z h link (UnaryK op x) ty is w ls t n m lt ln lm = let p = unary_kept s h op x (low_kept s z h link x is.0 w) in p.at ls t n m lt ln lm
  kind_kept s z h link (BinaryK op x y) ty is w ls t n m lt ln lm = binary_at s h op x y (low_kept s z h link x is.0 w.0) (low_kept s z h link y is.2 w.1) ls t n m lt ln lm
  kind_kept s z h link (AssignK None x y) ty is w ls t n m lt ln lm = assign_at s h None x y (low_kept s z h link x is.0 w.0) (low_kept s z h link y is.1 w.1) ls t n m lt ln lm
  kind_kept s z h link (AssignK (Some op) x y) ty is w ls t n m lt ln lm = assign_at s h (Some op) x y (low_kept s z h link x is.0 w.0) (low_kept s z h link y is.1 w.1) ls t n m lt ln lm
  kind_kept s z h link (StepK op x) ty is w ls t n m lt ln lm = step_at s h op x (low_kept s z h link x is.0 w) ls t n m lt ln lm
  kind_kept s z h link (IndexK x y) ty is w ls t n m lt ln lm =
      let v = value_kept s h x (low_kept s z h link x is.0 w.0) in
      let u = value_kept s h y (low_kept s z h link y is.2 w.1) in
      let more = length-append (value_sizes h x) (value_sizes h y) in
      both (v.at ls n (n + 1) m (omega arith) (omega arith) (omega (arith, more)))
      (both (u.at ls (second x n) (second x n + 1) (beyond h x m) (omega arith) (omega arith) (omega (arith, more)))
      (element_kept h ty t n (second x n) (size_at x y n) lt (omega arith) (omega arith) (omega arith)))
  kind_kept s z h link (MemberK x offset) ty is w ls t n m lt ln lm =
      let p = low_kept s z h link x is.0 w.0 in
      both (p.at ls n (n + 1) m (omega arith) (omega arith) lm) (both (moved_by_kept t n offset lt (omega arith) w.1) (member_of_kept (is_place x) ty t lt))
  kind_kept s z h link (ArrowK x offset) ty is w ls t n m lt ln lm =
      let v = value_kept s h x (low_kept s z h link x is.0 w.0) in
      both (v.at ls n (n + 1) m (omega arith) (omega arith) lm) (moved_by_kept t n offset lt (omega arith) w.1)
  kind_kept s z h link (CastK x) ty is w ls t n m lt ln lm =
      let v = value_kept s h x (low_kept s z h link x is.0 w) in both (v.at ls t n m lt ln lm) (converted_kept ty (is_flag x) t lt)
  kind_kept s z h link (CallK f xs) ty is w ls t n m lt ln lm =
      let more = length-append (sizes_all h xs) (one_size h (result_of h f)) in
      both (args_kept s z h link (params_of h f) xs is.0 w.1 ls n m ln (omega (arith, more)))
      (called_kept h (result_of h f) f (m + length (sizes_all h xs)) t (spots xs n) (passes s z h link f t n xs ty is.1) (omega (arith, more)) lt (spots_all s xs n ln))
  kind_kept s z h link (InK port) ty is w ls t n m lt ln lm = op_kept (InO t port) is.0 tt (lt, tt)
  kind_kept s z h link (OutK port x) ty is w ls t n m lt ln lm =
      let v = value_kept s h x (low_kept s z h link x is.1 w.1) in both (v.at ls t n m lt ln lm) (op_kept (OutO port t) is.0 (lt, tt) tt)
  kind_kept s z h link WaitK ty is w ls t n m lt ln lm = op_kept WaitO tt tt tt
  kind_kept s z h link HaltK ty is w ls t n m lt ln lm = op_kept HaltO tt tt tt
  kind_kept s z h link CardK ty is w ls t n m lt ln lm = op_kept (CardO t) tt tt (lt, tt)

  args_kept : (s : Site) (z : Scene) (h : Shape) → Linked s z h → (tys : List Ty) (xs : TExprTs) → AreValues z xs → AllInWords xs → (ls : List Bool) (n m : ℕ)
      → n + temps_all xs ≤ s.temps → m + length (sizes_all h xs) ≤ s.locals → Keeps s ls (coded (low_args h tys xs n m))
  args_kept s z h link tys NoX is w ls n m ln lm = none
  args_kept s z h link tys (MoreX x xs) is w ls n m ln lm =
      let v = value_kept s h x (low_kept s z h link x is.0 w.0) in
      let more = length-append (value_sizes h x) (sizes_all h xs) in
      both (v.at ls n (n + 1) m (omega arith) (omega arith) (omega (arith, more)))
      (both (converted_to_kept tys (is_flag x) n (omega arith)) (args_kept s z h link (later_types tys) xs is.2 w.1 ls (second x n) (beyond h x m) (omega arith) (omega (arith, more))))

pub low_value_kept : (s : Site) (z : Scene) (h : Shape) → Linked s z h → (x : TExprT) → IsTyped z x → InWords x → Part s (low_value h x) (value_temps x) (length (value_sizes h x))
low_value_kept s z h link x typed words = value_kept s h x (low_kept s z h link x typed words)

pub low_test_kept : (s : Site) (z : Scene) (h : Shape) → Linked s z h → (x : TExprT) → IsTyped z x → InWords x → Part s (low_test h x) (value_temps x) (length (value_sizes h x))
low_test_kept s z h link x typed words = test_kept s h x (low_kept s z h link x typed words)
