-- The code of an expression leads to what follows it, and ends no local.
use Rattle.std.proofs.Common.{ℕ, zero, suc, ◌+◌, ◌==◌, Bool, true, false, List, [], ◌∷◌, length, Option, Some, None, if◌then◌else◌}
use Rattle.c_tree.specs.declared.operator.UnOp.{UnOp}
use Rattle.c_tree.specs.declared.operator.UnOp.TheVariants as un
use Rattle.c_tree.specs.declared.operator.BinOp.{BinOp}
use Rattle.c_tree.specs.declared.operator.BinOp.TheVariants as bin
use Rattle.c_tree.specs.declared.operator.StepOp.{StepOp}
use Rattle.c_tree.specs.declared.operator.StepOp.TheVariants.{PreUp, PreDown, PostUp, PostDown}
use Rattle.c_types.specs.Types.{Ty, VoidY, BoolY, StructY, UnionY, PointerY, ArrayY}
use Rattle.c_types.specs.Typed.{TExprT, Typed, NumberK, NullK, LiteralK, GlobalK, LocalK, UnaryK, BinaryK, AssignK, StepK, IndexK, MemberK, ArrowK, CastK, CallK, InK, OutK, WaitK, HaltK, CardK, TExprTs, NoX, MoreX}
use Rattle.c_exprs.specs.Nodes.{is_place}
use Rattle.c_meaning.specs.Kinds.{type_of}
use Rattle.c_types.specs.Kinds.{is_structure, decayed, pointed, is_pointer}
use Rattle.mid_code.specs.Paths.{Point, at}
use Rattle.lower_trees.specs.Shape.{Shape, words, params_of, result_of}
use Rattle.lower_trees.specs.Flags.{is_flag}
use Rattle.lower_trees.specs.Pieces.{Nodes, coded, LoopP}
use Rattle.lower_trees.specs.Parts.{ask_turn, asked, copied, copied_between, copied_on, local_filled, zeroed, structure_read, as_flag, converted, stored, with_word, stepped, with_pointer, operated_on, operated, one_more, one_less, tested_as, negated_as}
use Rattle.lower_trees.specs.Expressions.{Low, read, value_of, value, test, unary, second, beyond, size_at, binary, behind_place, assign, step_made, stepped_to, step_taken, index, member_of, called, spots, converted_to, later_types, low, low_args, low_value, low_test, counts_up}
use Rattle.lower_trees.specs.Counts.{sizes, sizes_all}
use Rattle.mid_lower.proofs.TogetherPaths.{Frames, Leads, doing, calling, first_way, second_way, into_loop, way_ends, loop_ends}

-- ---- parts

pub copied_leads : (size : ℕ) (c : Nodes) (fs : Frames) (q : Point ℕ) → Leads (at fs c) q → Leads (at fs (coded (copied size) c)) q
copied_leads zero c fs q l = l
copied_leads (suc left) c fs q l = doing tt (doing tt (into_loop (doing tt (doing tt (doing tt (second_way (way_ends (loop_ends l))))))))

-- a further turn is asked for
asking_leads : (c : Nodes) (fs : Frames) (q : Point ℕ) → Leads (at fs c) q → Leads (at fs (coded (LoopP ask_turn) c)) q
asking_leads c fs q l = into_loop (second_way (way_ends (loop_ends l)))

asked_leads : (c : Nodes) (fs : Frames) (q : Point ℕ) → Leads (at fs c) q → Leads (at fs (coded asked c)) q
asked_leads c fs q l = doing tt (asking_leads c fs q l)

pub between_leads : (size p q : ℕ) (c : Nodes) (fs : Frames) (g : Point ℕ) → Leads (at fs c) g → Leads (at fs (coded (copied_between size p q) c)) g
between_leads zero p q c fs g l = l
between_leads (suc zero) p q c fs g l = doing tt (doing tt l)
between_leads (suc (suc zero)) p q c fs g l = doing tt (doing tt (asked_leads _ fs g (doing tt (doing tt (doing tt (doing tt (doing tt (doing tt l))))))))
between_leads (suc (suc (suc left))) p q c fs g l = doing tt (doing tt (copied_leads (suc (suc (suc left))) c fs g l))

pub copied_on_leads : (size p : ℕ) (c : Nodes) (fs : Frames) (g : Point ℕ) → Leads (at fs c) g → Leads (at fs (coded (copied_on size p) c)) g
copied_on_leads zero p c fs g l = l
copied_on_leads (suc zero) p c fs g l = doing tt (doing tt l)
copied_on_leads (suc (suc zero)) p c fs g l = doing tt (doing tt (asked_leads _ fs g (doing tt (doing tt (doing tt (doing tt (doing tt (doing tt l))))))))
copied_on_leads (suc (suc (suc left))) p c fs g l = doing tt (copied_leads (suc (suc (suc left))) c fs g l)

local_leads : (size local t : ℕ) (c : Nodes) (fs : Frames) (g : Point ℕ) → Leads (at fs c) g → Leads (at fs (coded (local_filled size local t) c)) g
local_leads zero local t c fs g l = doing tt l
local_leads (suc zero) local t c fs g l = doing tt (doing tt (doing tt l))
local_leads (suc (suc zero)) local t c fs g l = doing tt (doing tt (doing tt (doing tt (doing tt (asking_leads _ fs g (doing tt (doing tt (doing tt (doing tt l)))))))))
local_leads (suc (suc (suc left))) local t c fs g l = doing tt (doing tt (copied_leads (suc (suc (suc left))) _ fs g (doing tt l)))

pub zeroed_leads : (size : ℕ) (c : Nodes) (fs : Frames) (q : Point ℕ) → Leads (at fs c) q → Leads (at fs (coded (zeroed size) c)) q
zeroed_leads zero c fs q l = l
zeroed_leads (suc left) c fs q l = doing tt (doing tt (doing tt (into_loop (doing tt (doing tt (second_way (way_ends (loop_ends l))))))))

pub either_leads : (b : Bool) (x y : Nodes) (fs : Frames) (q : Point ℕ) → Leads (at fs x) q → Leads (at fs y) q → Leads (at fs (if b then x else y)) q
either_leads true x y fs q k l = k
either_leads false x y fs q k l = l

flag_leads : (known : Bool) (t : ℕ) (c : Nodes) (fs : Frames) (q : Point ℕ) → Leads (at fs c) q → Leads (at fs (coded (as_flag known t) c)) q
flag_leads true t c fs q l = l
flag_leads false t c fs q l = doing tt l

pub converted_leads : (ty : Ty) (known : Bool) (t : ℕ) (c : Nodes) (fs : Frames) (q : Point ℕ) → Leads (at fs c) q → Leads (at fs (coded (converted ty known t) c)) q
converted_leads BoolY known t c fs q l = flag_leads known t c fs q l
converted_leads ty known t c fs q l = l

word_leads : (op : BinOp) (t a b : ℕ) (c : Nodes) (fs : Frames) (q : Point ℕ) → Leads (at fs c) q → Leads (at fs (coded (with_word op t a b) c)) q
word_leads bin.Shr t a b c fs q l = doing tt (doing tt l)
word_leads bin.AndAlso t a b c fs q l = l
word_leads bin.OrElse t a b c fs q l = l
word_leads op t a b c fs q l = doing tt l

stepped_leads : (size t a b u : ℕ) (c : Nodes) (fs : Frames) (q : Point ℕ) → Leads (at fs c) q → Leads (at fs (coded (stepped size t a b u) c)) q
stepped_leads size t a b u c fs q l = either_leads (size == 1) _ _ fs q (doing tt l) (doing tt (doing tt (doing tt l)))

pointer_leads : (op : BinOp) (size : ℕ) (pointers : Bool) (t a b u : ℕ) (c : Nodes) (fs : Frames) (q : Point ℕ) → Leads (at fs c) q → Leads (at fs (coded (with_pointer op size pointers t a b u) c)) q
pointer_leads bin.Add size pointers t a b u c fs q l = stepped_leads size t a b u c fs q l
pointer_leads bin.Sub size true t a b u c fs q l = doing tt (doing tt (doing tt l))
pointer_leads bin.Sub size false t a b u c fs q l = doing tt (stepped_leads size t a b u c fs q l)
pointer_leads bin.Equal size pointers t a b u c fs q l = doing tt l
pointer_leads bin.NotEqual size pointers t a b u c fs q l = doing tt l
pointer_leads bin.Less size pointers t a b u c fs q l = doing tt l
pointer_leads bin.LessEq size pointers t a b u c fs q l = doing tt l
pointer_leads bin.More size pointers t a b u c fs q l = doing tt l
pointer_leads bin.MoreEq size pointers t a b u c fs q l = doing tt l
pointer_leads op size pointers t a b u c fs q l = l

on_leads : (h : Shape) (op : BinOp) (to_type : Option Ty) (pointers : Bool) (t a b u : ℕ) (c : Nodes) (fs : Frames) (q : Point ℕ) → Leads (at fs c) q → Leads (at fs (coded (operated_on h op to_type pointers t a b u) c)) q
on_leads h op None pointers t a b u c fs q l = word_leads op t a b c fs q l
on_leads h op (Some ty) pointers t a b u c fs q l = pointer_leads op (words h ty) pointers t a b u c fs q l

operated_leads : (h : Shape) (op : BinOp) (ta tb : Ty) (t a b u : ℕ) (c : Nodes) (fs : Frames) (q : Point ℕ) → Leads (at fs c) q → Leads (at fs (coded (operated h op ta tb t a b u) c)) q
operated_leads h op ta tb t a b u c fs q l = on_leads h op (pointed (decayed ta)) (is_pointer (decayed tb)) t a b u c fs q l

more_leads : (h : Shape) (to_type : Option Ty) (t a u : ℕ) (c : Nodes) (fs : Frames) (q : Point ℕ) → Leads (at fs c) q → Leads (at fs (coded (one_more h to_type t a u) c)) q
more_leads h None t a u c fs q l = doing tt (doing tt l)
more_leads h (Some ty) t a u c fs q l = doing tt (doing tt l)

less_leads : (h : Shape) (to_type : Option Ty) (t a u : ℕ) (c : Nodes) (fs : Frames) (q : Point ℕ) → Leads (at fs c) q → Leads (at fs (coded (one_less h to_type t a u) c)) q
less_leads h None t a u c fs q l = doing tt (doing tt l)
less_leads h (Some ty) t a u c fs q l = doing tt (doing tt (doing tt l))

tested_leads : (ty : Ty) (t : ℕ) (c : Nodes) (fs : Frames) (q : Point ℕ) → Leads (at fs c) q → Leads (at fs (coded (tested_as ty t) c)) q
tested_leads (PointerY of) t c fs q l = doing tt (doing tt l)
tested_leads ty t c fs q l = l

negated_leads : (ty : Ty) (t : ℕ) (c : Nodes) (fs : Frames) (q : Point ℕ) → Leads (at fs c) q → Leads (at fs (coded (negated_as ty t) c)) q
negated_leads (PointerY of) t c fs q l = doing tt (doing tt l)
negated_leads ty t c fs q l = doing tt l

stored_leads : (h : Shape) (ty : Ty) (p a : ℕ) (c : Nodes) (fs : Frames) (q : Point ℕ) → Leads (at fs c) q → Leads (at fs (coded (stored h ty p a) c)) q
stored_leads h ty p a c fs q l = either_leads (is_structure ty) _ _ fs q (between_leads (words h ty) a p c fs q l) (doing tt l)

-- ---- values

-- code of a part leads to what follows it
abbrev pub Passes : Low → Type 0
Passes part = (t n m : ℕ) (c : Nodes) (fs : Frames) (q : Point ℕ) → Leads (at fs c) q → Leads (at fs (coded (part t n m) c)) q

structure_passes : (h : Shape) (ty : Ty) (local t : ℕ) (c : Nodes) (fs : Frames) (q : Point ℕ) → Leads (at fs c) q → Leads (at fs (coded (structure_read (words h ty) local t) c)) q
structure_passes h ty local t c fs q l = doing tt (local_leads (words h ty) local t c fs q l)

read_passes : (h : Shape) (ty : Ty) (local : ℕ) (part : Low) → Passes part → Passes (read h ty local part)
read_passes h (ArrayY of len) local part p t n m c fs q l = p t n m c fs q l
read_passes h VoidY local part p t n m c fs q l = p t n m c fs q l
read_passes h (StructY number) local part p t n m c fs q l = p t n m _ fs q (structure_passes h (StructY number) local t c fs q l)
read_passes h (UnionY number) local part p t n m c fs q l = p t n m _ fs q (structure_passes h (UnionY number) local t c fs q l)
read_passes h ty local part p t n m c fs q l = p n (n + 1) m _ fs q (doing tt l)

value_of_passes : (h : Shape) (place : Bool) (ty : Ty) (local : ℕ) (part : Low) → Passes part → Passes (value_of h place ty local part)
value_of_passes h true ty local part p t n m c fs q l = read_passes h ty local part p t n m c fs q l
value_of_passes h false ty local part p t n m c fs q l = p t n m c fs q l

value_passes : (h : Shape) (x : TExprT) (part : Low) → Passes part → Passes (value h x part)
value_passes h x part p t n m c fs q l = value_of_passes h (is_place x) (type_of x) (m + length (sizes h x)) part p t n m c fs q l

test_passes : (h : Shape) (x : TExprT) (part : Low) → Passes part → Passes (test h x part)
test_passes h x part p t n m c fs q l = value_passes h x part p t n m _ fs q (tested_leads (decayed (type_of x)) t c fs q l)

-- ---- forms of expressions

unary_passes : (h : Shape) (op : UnOp) (x : TExprT) (part : Low) → Passes part → Passes (unary h op x part)
unary_passes h un.Deref x part p t n m c fs q l = value_passes h x part p t n m c fs q l
unary_passes h un.Address x part p t n m c fs q l = p t n m c fs q l
unary_passes h un.Not x part p t n m c fs q l = value_passes h x part p t n m _ fs q (negated_leads (decayed (type_of x)) t c fs q l)
unary_passes h un.Minus x part p t n m c fs q l = value_passes h x part p t n m _ fs q (doing tt l)
unary_passes h un.Plus x part p t n m c fs q l = value_passes h x part p t n m c fs q l
unary_passes h un.Flip x part p t n m c fs q l = value_passes h x part p t n m _ fs q (doing tt l)

-- the second operand of `&&` and `||` is passed over
binary_passes : (h : Shape) (op : BinOp) (x y : TExprT) (first last : Low) → Passes first → Passes last → Passes (binary h op x y first last)
binary_passes h bin.AndAlso x y first last p r t n m c fs q l = test_passes h x first p t n m _ fs q (second_way (doing tt (way_ends l)))
binary_passes h bin.OrElse x y first last p r t n m c fs q l = test_passes h x first p t n m _ fs q (first_way (doing tt (way_ends l)))
binary_passes h op x y first last p r t n m c fs q l =
    value_passes h x first p n (n + 1) m _ fs q (value_passes h y last r (second x n) (second x n + 1) (beyond h x m) _ fs q (operated_leads h op (type_of x) (type_of y) t n (second x n) (size_at x y n) c fs q l))

assign_passes : (h : Shape) (op : Option BinOp) (x y : TExprT) (first last : Low) → Passes first → Passes last → Passes (assign h op x y first last)
assign_passes h None x y first last p r t n m c fs q l =
    p n (n + 1) m _ fs q (value_passes h y last r t (behind_place x n + 2) _ _ fs q
    (converted_leads (type_of x) (is_flag y) t _ fs q (stored_leads h (type_of x) n t c fs q l)))
assign_passes h (Some op) x y first last p r t n m c fs q l =
    p n (n + 1) m _ fs q (value_passes h y last r (behind_place x n) (behind_place x n + 2) _ _ fs q
    (doing tt (operated_leads h op (type_of x) (type_of y) t t (behind_place x n) (behind_place x n + 1) _ fs q
    (converted_leads (type_of x) false t _ fs q (doing tt l)))))

one_step_leads : (h : Shape) (op : StepOp) (ty : Ty) (new old by : ℕ) (c : Nodes) (fs : Frames) (q : Point ℕ) → Leads (at fs c) q → Leads (at fs (coded (step_made h (counts_up op) ty new old by) c)) q
one_step_leads h PreUp ty new old by c fs q l = more_leads h (pointed (decayed ty)) new old by c fs q l
one_step_leads h PostUp ty new old by c fs q l = more_leads h (pointed (decayed ty)) new old by c fs q l
one_step_leads h PreDown ty new old by c fs q l = less_leads h (pointed (decayed ty)) new old by c fs q l
one_step_leads h PostDown ty new old by c fs q l = less_leads h (pointed (decayed ty)) new old by c fs q l

to_leads : (h : Shape) (op : StepOp) (x : TExprT) (new old place : ℕ) (c : Nodes) (fs : Frames) (q : Point ℕ) → Leads (at fs c) q → Leads (at fs (coded (stepped_to h (counts_up op) (type_of x) new old place) c)) q
to_leads h op x new old place c fs q l = doing tt (one_step_leads h op (type_of x) new old (place + 1) _ fs q (converted_leads (type_of x) false new _ fs q (doing tt l)))

step_passes : (h : Shape) (op : StepOp) (x : TExprT) (part : Low) → Passes part → Passes (step_taken h op x part)
step_passes h PreUp x part p t n m c fs q l = p n (n + 2) m _ fs q (to_leads h PreUp x t t n c fs q l)
step_passes h PreDown x part p t n m c fs q l = p n (n + 2) m _ fs q (to_leads h PreDown x t t n c fs q l)
step_passes h PostUp x part p t n m c fs q l = p n (n + 2) m _ fs q (to_leads h PostUp x (n + 1) t n c fs q l)
step_passes h PostDown x part p t n m c fs q l = p n (n + 2) m _ fs q (to_leads h PostDown x (n + 1) t n c fs q l)

index_passes : (h : Shape) (ty : Ty) (x y : TExprT) (first last : Low) → Passes first → Passes last → Passes (index h ty x y first last)
index_passes h ty x y first last p r t n m c fs q l =
    value_passes h x first p n (n + 1) m _ fs q (value_passes h y last r (second x n) (second x n + 1) (beyond h x m) _ fs q (stepped_leads (words h ty) t n (second x n) (size_at x y n) c fs q l))

member_leads : (place : Bool) (ty : Ty) (t : ℕ) (c : Nodes) (fs : Frames) (q : Point ℕ) → Leads (at fs c) q → Leads (at fs (coded (member_of place ty t) c)) q
member_leads true ty t c fs q l = l
member_leads false ty t c fs q l = either_leads (is_structure ty) _ _ fs q l (doing tt l)

called_leads : (ty : Ty) (f local t : ℕ) (args : List ℕ) (c : Nodes) (fs : Frames) (q : Point ℕ) → Leads (at fs c) q → Leads (at fs (coded (called ty f local t args) c)) q
called_leads ty f local t args c fs q l = either_leads (is_structure ty) _ _ fs q (doing tt (doing tt (calling l))) (calling l)

given_leads : (tys : List Ty) (known : Bool) (t : ℕ) (c : Nodes) (fs : Frames) (q : Point ℕ) → Leads (at fs c) q → Leads (at fs (coded (converted_to tys known t) c)) q
given_leads [] known t c fs q l = l
given_leads (ty ∷ tys) known t c fs q l = converted_leads ty known t c fs q l

mutual
  low_passes : (h : Shape) (x : TExprT) → Passes (low h x)
  low_passes h (Typed (NumberK x) ty span) t n m c fs q l = doing tt l
  low_passes h (Typed NullK ty span) t n m c fs q l = doing tt l
  low_passes h (Typed (LiteralK number) ty span) t n m c fs q l = doing tt l
  low_passes h (Typed (GlobalK number) ty span) t n m c fs q l = doing tt l
  low_passes h (Typed (LocalK number) ty span) t n m c fs q l = doing tt l
  low_passes h (Typed (UnaryK op x) ty span) t n m c fs q l = unary_passes h op x (low h x) (low_passes h x) t n m c fs q l
  low_passes h (Typed (BinaryK op x y) ty span) t n m c fs q l = binary_passes h op x y (low h x) (low h y) (low_passes h x) (low_passes h y) t n m c fs q l
  low_passes h (Typed (AssignK op x y) ty span) t n m c fs q l = assign_passes h op x y (low h x) (low h y) (low_passes h x) (low_passes h y) t n m c fs q l
  low_passes h (Typed (StepK op x) ty span) t n m c fs q l = step_passes h op x (low h x) (low_passes h x) t n m c fs q l
  low_passes h (Typed (IndexK x y) ty span) t n m c fs q l = index_passes h ty x y (low h x) (low h y) (low_passes h x) (low_passes h y) t n m c fs q l
  low_passes h (Typed (MemberK x offset) ty span) t n m c fs q l = low_passes h x n (n + 1) m _ fs q (doing tt (doing tt (member_leads (is_place x) ty t c fs q l)))
  low_passes h (Typed (ArrowK x offset) ty span) t n m c fs q l = value_passes h x (low h x) (low_passes h x) n (n + 1) m _ fs q (doing tt (doing tt l))
  low_passes h (Typed (CastK x) ty span) t n m c fs q l = value_passes h x (low h x) (low_passes h x) t n m _ fs q (converted_leads ty (is_flag x) t c fs q l)
  low_passes h (Typed (CallK f xs) ty span) t n m c fs q l = args_leads h (params_of h f) xs n m _ fs q (called_leads (result_of h f) f (m + length (sizes_all h xs)) t (spots xs n) c fs q l)
  low_passes h (Typed (InK port) ty span) t n m c fs q l = doing tt l
  low_passes h (Typed (OutK port x) ty span) t n m c fs q l = value_passes h x (low h x) (low_passes h x) t n m _ fs q (doing tt l)
  low_passes h (Typed WaitK ty span) t n m c fs q l = doing tt l
  low_passes h (Typed HaltK ty span) t n m c fs q l = doing tt l
  low_passes h (Typed CardK ty span) t n m c fs q l = doing tt l

  args_leads : (h : Shape) (tys : List Ty) (xs : TExprTs) (n m : ℕ) (c : Nodes) (fs : Frames) (q : Point ℕ) → Leads (at fs c) q → Leads (at fs (coded (low_args h tys xs n m) c)) q
  args_leads h tys NoX n m c fs q l = l
  args_leads h tys (MoreX x xs) n m c fs q l =
      value_passes h x (low h x) (low_passes h x) n (n + 1) m _ fs q (given_leads tys (is_flag x) n _ fs q (args_leads h (later_types tys) xs (second x n) (beyond h x m) c fs q l))

pub low_value_passes : (h : Shape) (x : TExprT) → Passes (low_value h x)
low_value_passes h x t n m c fs q l = value_passes h x (low h x) (low_passes h x) t n m c fs q l

pub low_test_passes : (h : Shape) (x : TExprT) → Passes (low_test h x)
low_test_passes h x t n m c fs q l = test_passes h x (low h x) (low_passes h x) t n m c fs q l
