-- The code of a function nests at most 16 deep a level of its tree.
use Rattle.std.proofs.Common.{◌≡◌, ℕ, zero, suc, ◌+◌, ◌*◌, ◌≤◌, max, arith, refl, Bool, true, false, List, [], ◌∷◌, Option, Some, None, if◌then◌else◌, ◌==◌}
use Rattle.c_tree.specs.declared.operator.UnOp.{UnOp}
use Rattle.c_tree.specs.declared.operator.UnOp.TheVariants as un
use Rattle.c_tree.specs.declared.operator.BinOp.{BinOp}
use Rattle.c_tree.specs.declared.operator.BinOp.TheVariants as bin
use Rattle.c_tree.specs.declared.operator.StepOp.{StepOp}
use Rattle.c_tree.specs.declared.operator.StepOp.TheVariants.{PreUp, PreDown, PostUp, PostDown}
use Rattle.c_types.specs.Types.{Ty, VoidY, IntY, BoolY, EnumY, StructY, UnionY, PointerY, ArrayY}
use Rattle.c_types.specs.Typed.{TExprT, Typed, NumberK, NullK, LiteralK, GlobalK, LocalK, UnaryK, BinaryK, AssignK, StepK, IndexK, MemberK, ArrowK, CastK, CallK, InK, OutK, WaitK, HaltK, CardK, TExprTs, NoX, MoreX}
use Rattle.c_exprs.specs.Nodes.{is_place}
use Rattle.c_meaning.specs.Kinds.{type_of}
use Rattle.c_types.specs.Kinds.{is_structure, decayed, pointed, is_pointer}
use Rattle.mid_code.specs.Code.{Stop, Do, LoadO, LocalO}
use Rattle.mid_code.specs.Calls.{nesting}
use Rattle.lower_trees.specs.Shape.{Shape, words, params_of, result_of}
use Rattle.lower_trees.specs.Flags.{is_flag, tests_flag}
use Rattle.lower_trees.specs.Pieces.{Nodes, coded}
use Rattle.lower_trees.specs.Parts.{ask_turn, copy_turn, zero_turn, copied, copied_between, copied_on, local_filled, zeroed, as_flag, converted, stored, with_word, stepped, with_pointer, operated_on, operated, one_more, one_less, tested_as, negated_as}
use Rattle.lower_trees.specs.Expressions.{Low, read, value_of, value, test, unary, second, beyond, size_at, binary, behind_place, assign, step_made, stepped_to, step_taken, index, member_of, called, spots, converted_to, later_types, low, low_args, low_value, low_test, counts_up}
use Rattle.mid_lower.specs.Levels.{expression_levels, all_levels}

pub max_within : (a b k : ℕ) → a ≤ k → b ≤ k → max a b ≤ k
max_within a b k p q = omega (arith, p, q)

pub left_within : (a b k : ℕ) → max a b ≤ k → a ≤ k
left_within a b k p = omega (arith, p)

pub right_within : (a b k : ℕ) → max a b ≤ k → b ≤ k
right_within a b k p = omega (arith, p)

-- ---- parts that add operations alone, and loops over cells

pub copy_turn_nests : nesting (coded copy_turn Stop) ≤ 1
copy_turn_nests = omega arith

pub zero_turn_nests : nesting (coded zero_turn Stop) ≤ 1
zero_turn_nests = omega arith

pub copied_nests : (size : ℕ) (c : Nodes) (k : ℕ) → 2 ≤ k → nesting c ≤ k → nesting (coded (copied size) c) ≤ k
copied_nests zero c k e h = h
copied_nests (suc left) c k e h = max_within (suc (nesting (coded copy_turn Stop))) (nesting c) k (omega (arith, copy_turn_nests, e)) h

pub ask_turn_nests : nesting (coded ask_turn Stop) ≤ 1
ask_turn_nests = omega arith

pub between_nests : (size p q : ℕ) (c : Nodes) (k : ℕ) → 2 ≤ k → nesting c ≤ k → nesting (coded (copied_between size p q) c) ≤ k
between_nests zero p q c k e h = h
between_nests (suc zero) p q c k e h = h
between_nests (suc (suc zero)) p q c k e h = max_within (suc (nesting (coded ask_turn Stop))) (nesting c) k (omega (arith, ask_turn_nests, e)) h
between_nests (suc (suc (suc left))) p q c k e h = copied_nests (suc (suc (suc left))) c k e h

pub copied_on_nests : (size p : ℕ) (c : Nodes) (k : ℕ) → 2 ≤ k → nesting c ≤ k → nesting (coded (copied_on size p) c) ≤ k
copied_on_nests zero p c k e h = h
copied_on_nests (suc zero) p c k e h = h
copied_on_nests (suc (suc zero)) p c k e h = max_within (suc (nesting (coded ask_turn Stop))) (nesting c) k (omega (arith, ask_turn_nests, e)) h
copied_on_nests (suc (suc (suc left))) p c k e h = copied_nests (suc (suc (suc left))) c k e h

local_nests : (size local t : ℕ) (c : Nodes) (k : ℕ) → 2 ≤ k → nesting c ≤ k → nesting (coded (local_filled size local t) c) ≤ k
local_nests zero local t c k e h = h
local_nests (suc zero) local t c k e h = h
local_nests (suc (suc zero)) local t c k e h = max_within (suc (nesting (coded ask_turn Stop))) (nesting c) k (omega (arith, ask_turn_nests, e)) h
local_nests (suc (suc (suc left))) local t c k e h = copied_nests (suc (suc (suc left))) (Do (LocalO t local) c) k e h

pub zeroed_nests : (size : ℕ) (c : Nodes) (k : ℕ) → 2 ≤ k → nesting c ≤ k → nesting (coded (zeroed size) c) ≤ k
zeroed_nests zero c k e h = h
zeroed_nests (suc left) c k e h = max_within (suc (nesting (coded zero_turn Stop))) (nesting c) k (omega (arith, zero_turn_nests, e)) h

flag_nests : (known : Bool) (t : ℕ) (c : Nodes) → nesting (coded (as_flag known t) c) ≡ nesting c
flag_nests true t c = refl
flag_nests false t c = refl

pub converted_nests : (ty : Ty) (known : Bool) (t : ℕ) (c : Nodes) → nesting (coded (converted ty known t) c) ≡ nesting c
converted_nests BoolY known t c = flag_nests known t c
converted_nests VoidY known t c = refl
converted_nests IntY known t c = refl
converted_nests (EnumY n) known t c = refl
converted_nests (StructY n) known t c = refl
converted_nests (UnionY n) known t c = refl
converted_nests (PointerY of) known t c = refl
converted_nests (ArrayY of n) known t c = refl

word_nests : (op : BinOp) (t a b : ℕ) (c : Nodes) → nesting (coded (with_word op t a b) c) ≡ nesting c
word_nests bin.Mul t a b c = refl
word_nests bin.Div t a b c = refl
word_nests bin.Mod t a b c = refl
word_nests bin.Add t a b c = refl
word_nests bin.Sub t a b c = refl
word_nests bin.Shl t a b c = refl
word_nests bin.Shr t a b c = refl
word_nests bin.Less t a b c = refl
word_nests bin.LessEq t a b c = refl
word_nests bin.More t a b c = refl
word_nests bin.MoreEq t a b c = refl
word_nests bin.Equal t a b c = refl
word_nests bin.NotEqual t a b c = refl
word_nests bin.BitAnd t a b c = refl
word_nests bin.BitXor t a b c = refl
word_nests bin.BitOr t a b c = refl
word_nests bin.AndAlso t a b c = refl
word_nests bin.OrElse t a b c = refl

pub either_nests : (b : Bool) (x y : Nodes) (k : ℕ) → nesting x ≤ k → nesting y ≤ k → nesting (if b then x else y) ≤ k
either_nests true x y k p q = p
either_nests false x y k p q = q

stepped_nests : (size t a b u : ℕ) (c : Nodes) (k : ℕ) → nesting c ≤ k → nesting (coded (stepped size t a b u) c) ≤ k
stepped_nests size t a b u c k h = either_nests (size == 1) _ _ k h h

pointer_nests : (op : BinOp) (size : ℕ) (pointers : Bool) (t a b u : ℕ) (c : Nodes) (k : ℕ) → nesting c ≤ k → nesting (coded (with_pointer op size pointers t a b u) c) ≤ k
pointer_nests bin.Add size pointers t a b u c k h = stepped_nests size t a b u c k h
pointer_nests bin.Sub size true t a b u c k h = h
pointer_nests bin.Sub size false t a b u c k h = stepped_nests size t a b u c k h
pointer_nests bin.Equal size pointers t a b u c k h = h
pointer_nests bin.NotEqual size pointers t a b u c k h = h
pointer_nests bin.Less size pointers t a b u c k h = h
pointer_nests bin.LessEq size pointers t a b u c k h = h
pointer_nests bin.More size pointers t a b u c k h = h
pointer_nests bin.MoreEq size pointers t a b u c k h = h
pointer_nests bin.Mul size pointers t a b u c k h = h
pointer_nests bin.Div size pointers t a b u c k h = h
pointer_nests bin.Mod size pointers t a b u c k h = h
pointer_nests bin.Shl size pointers t a b u c k h = h
pointer_nests bin.Shr size pointers t a b u c k h = h
pointer_nests bin.BitAnd size pointers t a b u c k h = h
pointer_nests bin.BitXor size pointers t a b u c k h = h
pointer_nests bin.BitOr size pointers t a b u c k h = h
pointer_nests bin.AndAlso size pointers t a b u c k h = h
pointer_nests bin.OrElse size pointers t a b u c k h = h

on_nests : (h : Shape) (op : BinOp) (to : Option Ty) (pointers : Bool) (t a b u : ℕ) (c : Nodes) (k : ℕ) → nesting c ≤ k → nesting (coded (operated_on h op to pointers t a b u) c) ≤ k
on_nests h op None pointers t a b u c k l = rw (word_nests op t a b c) l
on_nests h op (Some ty) pointers t a b u c k l = pointer_nests op (words h ty) pointers t a b u c k l

operated_nests : (h : Shape) (op : BinOp) (ta tb : Ty) (t a b u : ℕ) (c : Nodes) (k : ℕ) → nesting c ≤ k → nesting (coded (operated h op ta tb t a b u) c) ≤ k
operated_nests h op ta tb t a b u c k l = on_nests h op (pointed (decayed ta)) (is_pointer (decayed tb)) t a b u c k l

more_nests : (h : Shape) (to : Option Ty) (t a u : ℕ) (c : Nodes) → nesting (coded (one_more h to t a u) c) ≡ nesting c
more_nests h None t a u c = refl
more_nests h (Some ty) t a u c = refl

less_nests : (h : Shape) (to : Option Ty) (t a u : ℕ) (c : Nodes) → nesting (coded (one_less h to t a u) c) ≡ nesting c
less_nests h None t a u c = refl
less_nests h (Some ty) t a u c = refl

tested_nests : (ty : Ty) (t : ℕ) (c : Nodes) → nesting (coded (tested_as ty t) c) ≡ nesting c
tested_nests VoidY t c = refl
tested_nests IntY t c = refl
tested_nests BoolY t c = refl
tested_nests (EnumY n) t c = refl
tested_nests (StructY n) t c = refl
tested_nests (UnionY n) t c = refl
tested_nests (PointerY of) t c = refl
tested_nests (ArrayY of n) t c = refl

negated_nests : (ty : Ty) (t : ℕ) (c : Nodes) → nesting (coded (negated_as ty t) c) ≡ nesting c
negated_nests VoidY t c = refl
negated_nests IntY t c = refl
negated_nests BoolY t c = refl
negated_nests (EnumY n) t c = refl
negated_nests (StructY n) t c = refl
negated_nests (UnionY n) t c = refl
negated_nests (PointerY of) t c = refl
negated_nests (ArrayY of n) t c = refl

stored_nests : (h : Shape) (ty : Ty) (p a : ℕ) (c : Nodes) (k : ℕ) → 2 ≤ k → nesting c ≤ k → nesting (coded (stored h ty p a) c) ≤ k
stored_nests h ty p a c k e l = either_nests (is_structure ty) _ _ k (between_nests (words h ty) a p c k e l) l

-- ---- values

-- code of a part that nests at most so deep, but for what follows it
abbrev pub Nests : Low → ℕ → Type 0
Nests part d = (t n m : ℕ) (c : Nodes) (k : ℕ) → d ≤ k → nesting c ≤ k → nesting (coded (part t n m) c) ≤ k

read_nests : (h : Shape) (ty : Ty) (local : ℕ) (part : Low) (d : ℕ) → 2 ≤ d → Nests part d → Nests (read h ty local part) d
read_nests h (ArrayY of len) local part d e p t n m c k le l = p t n m c k le l
read_nests h VoidY local part d e p t n m c k le l = p t n m c k le l
read_nests h IntY local part d e p t n m c k le l = p n (n + 1) m (Do (LoadO t n) c) k le l
read_nests h BoolY local part d e p t n m c k le l = p n (n + 1) m (Do (LoadO t n) c) k le l
read_nests h (EnumY number) local part d e p t n m c k le l = p n (n + 1) m (Do (LoadO t n) c) k le l
read_nests h (PointerY of) local part d e p t n m c k le l = p n (n + 1) m (Do (LoadO t n) c) k le l
read_nests h (StructY number) local part d e p t n m c k le l = p t n m _ k le (local_nests (words h (StructY number)) local t c k (omega (arith, e, le)) l)
read_nests h (UnionY number) local part d e p t n m c k le l = p t n m _ k le (local_nests (words h (UnionY number)) local t c k (omega (arith, e, le)) l)

value_of_nests : (h : Shape) (place : Bool) (ty : Ty) (local : ℕ) (part : Low) (d : ℕ) → 2 ≤ d → Nests part d → Nests (value_of h place ty local part) d
value_of_nests h true ty local part d e p t n m c k le l = read_nests h ty local part d e p t n m c k le l
value_of_nests h false ty local part d e p t n m c k le l = p t n m c k le l

pub value_nests : (h : Shape) (x : TExprT) (part : Low) (d : ℕ) → 2 ≤ d → Nests part d → Nests (value h x part) d
value_nests h x part d e p t n m c k le l = value_of_nests h (is_place x) (type_of x) _ part d e p t n m c k le l

pub test_nests : (h : Shape) (x : TExprT) (part : Low) (d : ℕ) → 2 ≤ d → Nests part d → Nests (test h x part) d
test_nests h x part d e p t n m c k le l = value_nests h x part d e p t n m _ k le (rw (tested_nests (decayed (type_of x)) t c) l)

pub weaker : (part : Low) (d e : ℕ) → d ≤ e → Nests part d → Nests part e
weaker part d e lt p t n m c k le l = p t n m c k (omega (arith, lt, le)) l

-- ---- forms of expressions

unary_nests : (h : Shape) (op : UnOp) (x : TExprT) (part : Low) (d : ℕ) → 2 ≤ d → Nests part d → Nests (unary h op x part) d
unary_nests h un.Deref x part d e p t n m c k le l = value_nests h x part d e p t n m c k le l
unary_nests h un.Address x part d e p t n m c k le l = p t n m c k le l
unary_nests h un.Not x part d e p t n m c k le l = value_nests h x part d e p t n m _ k le (rw (negated_nests (decayed (type_of x)) t c) l)
unary_nests h un.Minus x part d e p t n m c k le l = value_nests h x part d e p t n m _ k le l
unary_nests h un.Plus x part d e p t n m c k le l = value_nests h x part d e p t n m c k le l
unary_nests h un.Flip x part d e p t n m c k le l = value_nests h x part d e p t n m _ k le l

plain_nests : (h : Shape) (op : BinOp) (x y : TExprT) (first last : Low) (d : ℕ) → 2 ≤ d → Nests first d → Nests last d → (t n m : ℕ) (c : Nodes) (k : ℕ) → d + 1 ≤ k → nesting c ≤ k
    → nesting (coded (value h x first n (n + 1) m) (coded (value h y last (second x n) (second x n + 1) (beyond h x m)) (coded (operated h op (type_of x) (type_of y) t n (second x n) (size_at x y n)) c))) ≤ k
plain_nests h op x y first last d e p q t n m c k le l =
    value_nests h x first d e p n (n + 1) m _ k (omega (arith, le)) (value_nests h y last d e q (second x n) (second x n + 1) (beyond h x m) _ k (omega (arith, le)) (operated_nests h op (type_of x) (type_of y) t n (second x n) (size_at x y n) c k l))

-- the second operand of `&&` and `||`
inner_nests : (h : Shape) (y : TExprT) (last : Low) (d : ℕ) → 2 ≤ d → Nests last d → (t n m : ℕ) → nesting (coded (test h y last t n m) (coded (as_flag (tests_flag y) t) Stop)) ≤ d
inner_nests h y last d e q t n m = test_nests h y last d e q t n m _ d (omega arith) (rw (flag_nests (tests_flag y) t Stop) (omega arith))

binary_nests : (h : Shape) (op : BinOp) (x y : TExprT) (first last : Low) (d : ℕ) → 2 ≤ d → Nests first d → Nests last d → Nests (binary h op x y first last) (d + 1)
binary_nests h bin.AndAlso x y first last d e p q t n m c k le l =
    test_nests h x first d e p t n m _ k (omega (arith, le)) (omega (arith, inner_nests h y last d e q t (second x n) (beyond h x m), le, l))
binary_nests h bin.OrElse x y first last d e p q t n m c k le l =
    test_nests h x first d e p t n m _ k (omega (arith, le)) (omega (arith, inner_nests h y last d e q t (second x n) (beyond h x m), le, l))
binary_nests h bin.Mul x y first last d e p q t n m c k le l = plain_nests h bin.Mul x y first last d e p q t n m c k le l
binary_nests h bin.Div x y first last d e p q t n m c k le l = plain_nests h bin.Div x y first last d e p q t n m c k le l
binary_nests h bin.Mod x y first last d e p q t n m c k le l = plain_nests h bin.Mod x y first last d e p q t n m c k le l
binary_nests h bin.Add x y first last d e p q t n m c k le l = plain_nests h bin.Add x y first last d e p q t n m c k le l
binary_nests h bin.Sub x y first last d e p q t n m c k le l = plain_nests h bin.Sub x y first last d e p q t n m c k le l
binary_nests h bin.Shl x y first last d e p q t n m c k le l = plain_nests h bin.Shl x y first last d e p q t n m c k le l
binary_nests h bin.Shr x y first last d e p q t n m c k le l = plain_nests h bin.Shr x y first last d e p q t n m c k le l
binary_nests h bin.Less x y first last d e p q t n m c k le l = plain_nests h bin.Less x y first last d e p q t n m c k le l
binary_nests h bin.LessEq x y first last d e p q t n m c k le l = plain_nests h bin.LessEq x y first last d e p q t n m c k le l
binary_nests h bin.More x y first last d e p q t n m c k le l = plain_nests h bin.More x y first last d e p q t n m c k le l
binary_nests h bin.MoreEq x y first last d e p q t n m c k le l = plain_nests h bin.MoreEq x y first last d e p q t n m c k le l
binary_nests h bin.Equal x y first last d e p q t n m c k le l = plain_nests h bin.Equal x y first last d e p q t n m c k le l
binary_nests h bin.NotEqual x y first last d e p q t n m c k le l = plain_nests h bin.NotEqual x y first last d e p q t n m c k le l
binary_nests h bin.BitAnd x y first last d e p q t n m c k le l = plain_nests h bin.BitAnd x y first last d e p q t n m c k le l
binary_nests h bin.BitXor x y first last d e p q t n m c k le l = plain_nests h bin.BitXor x y first last d e p q t n m c k le l
binary_nests h bin.BitOr x y first last d e p q t n m c k le l = plain_nests h bin.BitOr x y first last d e p q t n m c k le l

assign_nests : (h : Shape) (op : Option BinOp) (x y : TExprT) (first last : Low) (d : ℕ) → 2 ≤ d → Nests first d → Nests last d → Nests (assign h op x y first last) d
assign_nests h None x y first last d e p q t n m c k le l =
    p n (n + 1) m _ k le (value_nests h y last d e q t (behind_place x n + 2) _ _ k le
    (rw (converted_nests (type_of x) (is_flag y) t (coded (stored h (type_of x) n t) c)) (stored_nests h (type_of x) n t c k (omega (arith, e, le)) l)))
assign_nests h (Some op) x y first last d e p q t n m c k le l =
    p n (n + 1) m _ k le (value_nests h y last d e q (behind_place x n) (behind_place x n + 2) _ _ k le
    (operated_nests h op (type_of x) (type_of y) t t (behind_place x n) (behind_place x n + 1) _ k
    (rw (converted_nests (type_of x) false t _) l)))

made_nests : (h : Shape) (op : StepOp) (ty : Ty) (new old by : ℕ) (c : Nodes) → nesting (coded (step_made h (counts_up op) ty new old by) c) ≡ nesting c
made_nests h PreUp ty new old by c = more_nests h (pointed (decayed ty)) new old by c
made_nests h PostUp ty new old by c = more_nests h (pointed (decayed ty)) new old by c
made_nests h PreDown ty new old by c = less_nests h (pointed (decayed ty)) new old by c
made_nests h PostDown ty new old by c = less_nests h (pointed (decayed ty)) new old by c

to_nests : (h : Shape) (op : StepOp) (x : TExprT) (new old place : ℕ) (c : Nodes) (k : ℕ) → nesting c ≤ k → nesting (coded (stepped_to h (counts_up op) (type_of x) new old place) c) ≤ k
to_nests h op x new old place c k l = rw (made_nests h op (type_of x) new old (place + 1) _, converted_nests (type_of x) false new _) l

step_nests : (h : Shape) (op : StepOp) (x : TExprT) (part : Low) (d : ℕ) → Nests part d → Nests (step_taken h op x part) d
step_nests h PreUp x part d p t n m c k le l = p n (n + 2) m _ k le (to_nests h PreUp x t t n c k l)
step_nests h PreDown x part d p t n m c k le l = p n (n + 2) m _ k le (to_nests h PreDown x t t n c k l)
step_nests h PostUp x part d p t n m c k le l = p n (n + 2) m _ k le (to_nests h PostUp x (n + 1) t n c k l)
step_nests h PostDown x part d p t n m c k le l = p n (n + 2) m _ k le (to_nests h PostDown x (n + 1) t n c k l)

index_nests : (h : Shape) (ty : Ty) (x y : TExprT) (first last : Low) (d : ℕ) → 2 ≤ d → Nests first d → Nests last d → Nests (index h ty x y first last) d
index_nests h ty x y first last d e p q t n m c k le l =
    value_nests h x first d e p n (n + 1) m _ k le (value_nests h y last d e q (second x n) (second x n + 1) (beyond h x m) _ k le (stepped_nests (words h ty) t n (second x n) (size_at x y n) c k l))

member_nests : (place : Bool) (ty : Ty) (t : ℕ) (c : Nodes) (k : ℕ) → nesting c ≤ k → nesting (coded (member_of place ty t) c) ≤ k
member_nests true ty t c k l = l
member_nests false ty t c k l = either_nests (is_structure ty) _ _ k l l

called_nests : (ty : Ty) (f local t : ℕ) (args : List ℕ) (c : Nodes) (k : ℕ) → nesting c ≤ k → nesting (coded (called ty f local t args) c) ≤ k
called_nests ty f local t args c k l = either_nests (is_structure ty) _ _ k l l

given_nests : (tys : List Ty) (known : Bool) (t : ℕ) (c : Nodes) → nesting (coded (converted_to tys known t) c) ≡ nesting c
given_nests [] known t c = refl
given_nests (ty ∷ tys) known t c = converted_nests ty known t c

pub some_levels : (x : TExprT) → 2 ≤ 2 * expression_levels x
some_levels (Typed kind ty span) = omega arith

mutual
  pub low_nests : (h : Shape) (x : TExprT) → Nests (low h x) (2 * expression_levels x)
  low_nests h (Typed (NumberK x) ty span) t n m c k le l = l
  low_nests h (Typed NullK ty span) t n m c k le l = l
  low_nests h (Typed (LiteralK number) ty span) t n m c k le l = l
  low_nests h (Typed (GlobalK number) ty span) t n m c k le l = l
  low_nests h (Typed (LocalK number) ty span) t n m c k le l = l
  low_nests h (Typed (UnaryK op x) ty span) t n m c k le l = unary_nests h op x (low h x) (2 * expression_levels x) (some_levels x) (low_nests h x) t n m c k (omega (arith, le)) l
  low_nests h (Typed (BinaryK op x y) ty span) t n m c k le l =
      binary_nests h op x y (low h x) (low h y) (2 * max (expression_levels x) (expression_levels y)) (omega (arith, some_levels x))
      (weaker (low h x) (2 * expression_levels x) (2 * max (expression_levels x) (expression_levels y)) (omega arith) (low_nests h x))
      (weaker (low h y) (2 * expression_levels y) (2 * max (expression_levels x) (expression_levels y)) (omega arith) (low_nests h y)) t n m c k (omega (arith, le)) l
  low_nests h (Typed (AssignK op x y) ty span) t n m c k le l =
      assign_nests h op x y (low h x) (low h y) (2 * max (expression_levels x) (expression_levels y)) (omega (arith, some_levels x))
      (weaker (low h x) (2 * expression_levels x) (2 * max (expression_levels x) (expression_levels y)) (omega arith) (low_nests h x))
      (weaker (low h y) (2 * expression_levels y) (2 * max (expression_levels x) (expression_levels y)) (omega arith) (low_nests h y)) t n m c k (omega (arith, le)) l
  low_nests h (Typed (StepK op x) ty span) t n m c k le l = step_nests h op x (low h x) (2 * expression_levels x) (low_nests h x) t n m c k (omega (arith, le)) l
  low_nests h (Typed (IndexK x y) ty span) t n m c k le l =
      index_nests h ty x y (low h x) (low h y) (2 * max (expression_levels x) (expression_levels y)) (omega (arith, some_levels x))
      (weaker (low h x) (2 * expression_levels x) (2 * max (expression_levels x) (expression_levels y)) (omega arith) (low_nests h x))
      (weaker (low h y) (2 * expression_levels y) (2 * max (expression_levels x) (expression_levels y)) (omega arith) (low_nests h y)) t n m c k (omega (arith, le)) l
  low_nests h (Typed (MemberK x offset) ty span) t n m c k le l = low_nests h x n (n + 1) m _ k (omega (arith, le)) (member_nests (is_place x) ty t c k l)
  low_nests h (Typed (ArrowK x offset) ty span) t n m c k le l = value_nests h x (low h x) (2 * expression_levels x) (some_levels x) (low_nests h x) n (n + 1) m _ k (omega (arith, le)) l
  low_nests h (Typed (CastK x) ty span) t n m c k le l = value_nests h x (low h x) (2 * expression_levels x) (some_levels x) (low_nests h x) t n m _ k (omega (arith, le)) (rw (converted_nests ty (is_flag x) t c) l)
  low_nests h (Typed (CallK f xs) ty span) t n m c k le l = args_nests h (params_of h f) xs n m _ k (omega (arith, le)) (called_nests (result_of h f) f _ t (spots xs n) c k l)
  low_nests h (Typed (InK port) ty span) t n m c k le l = l
  low_nests h (Typed (OutK port x) ty span) t n m c k le l = value_nests h x (low h x) (2 * expression_levels x) (some_levels x) (low_nests h x) t n m _ k (omega (arith, le)) l
  low_nests h (Typed WaitK ty span) t n m c k le l = l
  low_nests h (Typed HaltK ty span) t n m c k le l = l
  low_nests h (Typed CardK ty span) t n m c k le l = l

  args_nests : (h : Shape) (tys : List Ty) (xs : TExprTs) (n m : ℕ) (c : Nodes) (k : ℕ) → 2 * all_levels xs ≤ k → nesting c ≤ k → nesting (coded (low_args h tys xs n m) c) ≤ k
  args_nests h tys NoX n m c k le l = l
  args_nests h tys (MoreX x xs) n m c k le l =
      value_nests h x (low h x) (2 * expression_levels x) (some_levels x) (low_nests h x) n (n + 1) m _ k (omega (arith, le))
      (rw (given_nests tys (is_flag x) n (coded (low_args h (later_types tys) xs (second x n) (beyond h x m)) c)) (args_nests h (later_types tys) xs (second x n) (beyond h x m) c k (omega (arith, le)) l))

pub low_value_nests : (h : Shape) (x : TExprT) → Nests (low_value h x) (2 * expression_levels x)
low_value_nests h x t n m c k le l = value_nests h x (low h x) (2 * expression_levels x) (some_levels x) (low_nests h x) t n m c k le l

pub low_test_nests : (h : Shape) (x : TExprT) → Nests (low_test h x) (2 * expression_levels x)
low_test_nests h x t n m c k le l = test_nests h x (low h x) (2 * expression_levels x) (some_levels x) (low_nests h x) t n m c k le l
