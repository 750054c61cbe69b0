-- What the lists of lowered code weigh.
use Rattle.std.proofs.Common.{suc, zero, ◌≡◌, ℕ, ◌+◌, ◌≤◌, ◌==◌, Bool, true, false, List, [], ◌∷◌, ◌++◌, Option, Some, None, refl, arith, if◌then◌else◌}
use Rattle.c_tree.specs.declared.operator.BinOp.{BinOp}
use Rattle.c_tree.specs.declared.operator.BinOp.TheVariants as bin
use Rattle.c_types.specs.Types.{Ty, VoidY, IntY, BoolY, EnumY, StructY, UnionY, PointerY, ArrayY}
use Rattle.c_types.specs.Kinds.{decayed, pointed, is_pointer}
use Rattle.mid_code.specs.Code.{NodesT, Stop}
use Rattle.mid_code.specs.Runs.{nodes_weight}
use Rattle.mid_code.specs.declared.node.Op.{Op}
use Rattle.mid_code.specs.declared.node.Op.TheVariants as o
use Rattle.mid_code.specs.Functions.{NodeT, DoN, ChooseN, BlockN, LoopN, LeaveN, AgainN, ReturnN, listed, joined, before, op_before}
use Rattle.v32_isa.specs.declared.instruction.One.TheVariants.{ISGN}
use Rattle.v32_isa.specs.declared.instruction.Two.TheVariants.{IMUL}
use Rattle.lower_trees.specs.Pieces.{Listing, listing}
use Rattle.lower_trees.specs.Parts.{copied, copied_between, copied_on, zeroed, moved_by, structure_read, as_flag, converted, stored, with_word, stepped, stepped_back, distant, with_pointer, operated_on, operated, one_more, one_less, tested_as, negated_as, made}
use Rattle.lower_trees.specs.Shape.{Shape, words}

abbrev pub weigh : Listing → ℕ
weigh xs = nodes_weight (joined (listed xs))

-- a node weighs the same in front of anything
op_weighs : (x : Op ℕ) (c : NodesT ℕ) → nodes_weight (op_before x c) ≡ nodes_weight (op_before x Stop) + nodes_weight c
op_weighs (o.Const t word) c = omega arith
op_weighs (o.Null t) c = omega arith
op_weighs (o.Move t a) c = omega arith
op_weighs (o.One i t a) c = omega arith
op_weighs (o.Two i t a b) c = omega arith
op_weighs (o.Global t number) c = omega arith
op_weighs (o.Local t number) c = omega arith
op_weighs (o.Literal t number) c = omega arith
op_weighs (o.Card t) c = omega arith
op_weighs (o.Step t p x) c = omega arith
op_weighs (o.Apart t p q) c = omega arith
op_weighs (o.PtrTest i t p q) c = omega arith
op_weighs (o.Load t p) c = omega arith
op_weighs (o.Store p a) c = omega arith
op_weighs (o.Fresh local) c = omega arith
op_weighs (o.End local) c = omega arith
op_weighs (o.Call t f args) c = omega arith
op_weighs (o.In t port) c = omega arith
op_weighs (o.Out port a) c = omega arith
op_weighs o.Wait c = omega arith
op_weighs o.Halt c = omega arith

node_weighs : (x : NodeT ℕ) (c : NodesT ℕ) → nodes_weight (before x c) ≡ nodes_weight (before x Stop) + nodes_weight c
node_weighs (DoN x) c = op_weighs x c
node_weighs (ChooseN p a b) c = omega arith
node_weighs (BlockN b) c = omega arith
node_weighs (LoopN b) c = omega arith
node_weighs (LeaveN k) c = omega arith
node_weighs (AgainN k) c = omega arith
node_weighs (ReturnN p) c = omega arith

pub both : (xs ys : Listing) → weigh (xs ++ ys) ≡ weigh xs + weigh ys
both [] ys = omega arith
both (x ∷ xs) ys =
    let e = node_weighs x (joined (listed (xs ++ ys))) in
    let f = node_weighs x (joined (listed xs)) in
    let g = both xs ys in
    omega (arith, e, f, g)

pub three : (xs ys zs : Listing) → weigh (xs ++ ys ++ zs) ≡ weigh xs + weigh ys + weigh zs
three xs ys zs = let e = both (xs ++ ys) zs in let f = both xs ys in omega (arith, e, f)

pub four : (xs ys zs ws : Listing) → weigh (xs ++ ys ++ zs ++ ws) ≡ weigh xs + weigh ys + weigh zs + weigh ws
four xs ys zs ws = let e = both (xs ++ ys ++ zs) ws in let f = three xs ys zs in omega (arith, e, f)

-- ---- parts

pub copied_weighs : (size : ℕ) → weigh (listing (copied size)) ≤ 80
copied_weighs zero = omega arith
copied_weighs (suc left) = omega arith

pub between_weighs : (size p q : ℕ) → weigh (listing (copied_between size p q)) ≤ 104
between_weighs zero p q = omega arith
between_weighs (suc zero) p q = omega arith
between_weighs (suc (suc zero)) p q = omega arith
between_weighs (suc (suc (suc left))) p q = omega arith

pub copied_on_weighs : (size p : ℕ) → weigh (listing (copied_on size p)) ≤ 104
copied_on_weighs zero p = omega arith
copied_on_weighs (suc zero) p = omega arith
copied_on_weighs (suc (suc zero)) p = omega arith
copied_on_weighs (suc (suc (suc left))) p = omega arith

pub moved_weighs : (t p offset : ℕ) → weigh (listing (moved_by t p offset)) ≤ 16
moved_weighs t p offset = omega arith

pub read_weighs : (size k t : ℕ) → weigh (listing (structure_read size k t)) ≤ 104
read_weighs zero k t = omega arith
read_weighs (suc zero) k t = omega arith
read_weighs (suc (suc zero)) k t = omega arith
read_weighs (suc (suc (suc left))) k t = omega arith

pub flag_weighs : (known : Bool) (t : ℕ) → weigh (listing (as_flag known t)) ≤ 8
flag_weighs true t = omega arith
flag_weighs false t = omega arith

pub converted_weighs : (ty : Ty) (known : Bool) (t : ℕ) → weigh (listing (converted ty known t)) ≤ 8
converted_weighs VoidY known t = omega arith
converted_weighs IntY known t = omega arith
converted_weighs BoolY known t = flag_weighs known t
converted_weighs (EnumY k) known t = omega arith
converted_weighs (StructY k) known t = omega arith
converted_weighs (UnionY k) known t = omega arith
converted_weighs (PointerY to) known t = omega arith
converted_weighs (ArrayY of len) known t = omega arith

pub stored_weighs : (h : Shape) (ty : Ty) (p a : ℕ) → weigh (listing (stored h ty p a)) ≤ 104
stored_weighs h VoidY p a = omega arith
stored_weighs h IntY p a = omega arith
stored_weighs h BoolY p a = omega arith
stored_weighs h (EnumY k) p a = omega arith
stored_weighs h (StructY k) p a = between_weighs (words h (StructY k)) a p
stored_weighs h (UnionY k) p a = between_weighs (words h (UnionY k)) a p
stored_weighs h (PointerY to) p a = omega arith
stored_weighs h (ArrayY of len) p a = omega arith

pub word_weighs : (op : BinOp) (t a b : ℕ) → weigh (listing (with_word op t a b)) ≤ 32
word_weighs bin.Mul t a b = omega arith
word_weighs bin.Div t a b = omega arith
word_weighs bin.Mod t a b = omega arith
word_weighs bin.Add t a b = omega arith
word_weighs bin.Sub t a b = omega arith
word_weighs bin.Shl t a b = omega arith
word_weighs bin.Shr t a b = omega arith
word_weighs bin.Less t a b = omega arith
word_weighs bin.LessEq t a b = omega arith
word_weighs bin.More t a b = omega arith
word_weighs bin.MoreEq t a b = omega arith
word_weighs bin.Equal t a b = omega arith
word_weighs bin.NotEqual t a b = omega arith
word_weighs bin.BitAnd t a b = omega arith
word_weighs bin.BitXor t a b = omega arith
word_weighs bin.BitOr t a b = omega arith
word_weighs bin.AndAlso t a b = omega arith
word_weighs bin.OrElse t a b = omega arith

pub stepped_weighs : (size t a b u : ℕ) → weigh (listing (stepped size t a b u)) ≤ 24
stepped_weighs size t a b u = by (size == 1)
  where
    by : (one : Bool) → weigh (if one then DoN (o.Step t a b) ∷ [] else DoN (o.Const u size) ∷ DoN (o.Two IMUL b b u) ∷ DoN (o.Step t a b) ∷ []) ≤ 24
    by true = omega arith
    by false = omega arith

back_weighs : (size t a b u : ℕ) → weigh (listing (stepped_back size t a b u)) ≤ 32
back_weighs size t a b u = let e = both (DoN (o.One ISGN b b) ∷ []) (listing (stepped size t a b u)) in let f = stepped_weighs size t a b u in omega (arith, e, f)

distant_weighs : (size t a b u : ℕ) → weigh (listing (distant size t a b u)) ≤ 32
distant_weighs size t a b u = omega arith

pointer_weighs : (op : BinOp) (size : ℕ) (pointers : Bool) (t a b u : ℕ) → weigh (listing (with_pointer op size pointers t a b u)) ≤ 32
pointer_weighs bin.Mul size pointers t a b u = omega arith
pointer_weighs bin.Div size pointers t a b u = omega arith
pointer_weighs bin.Mod size pointers t a b u = omega arith
pointer_weighs bin.Add size pointers t a b u = let e = stepped_weighs size t a b u in omega (arith, e)
pointer_weighs bin.Sub size true t a b u = distant_weighs size t a b u
pointer_weighs bin.Sub size false t a b u = back_weighs size t a b u
pointer_weighs bin.Shl size pointers t a b u = omega arith
pointer_weighs bin.Shr size pointers t a b u = omega arith
pointer_weighs bin.Less size pointers t a b u = omega arith
pointer_weighs bin.LessEq size pointers t a b u = omega arith
pointer_weighs bin.More size pointers t a b u = omega arith
pointer_weighs bin.MoreEq size pointers t a b u = omega arith
pointer_weighs bin.Equal size pointers t a b u = omega arith
pointer_weighs bin.NotEqual size pointers t a b u = omega arith
pointer_weighs bin.BitAnd size pointers t a b u = omega arith
pointer_weighs bin.BitXor size pointers t a b u = omega arith
pointer_weighs bin.BitOr size pointers t a b u = omega arith
pointer_weighs bin.AndAlso size pointers t a b u = omega arith
pointer_weighs bin.OrElse size pointers t a b u = omega arith

pub operated_weighs : (h : Shape) (op : BinOp) (ta tb : Ty) (t a b u : ℕ) → weigh (listing (operated h op ta tb t a b u)) ≤ 32
operated_weighs h op ta tb t a b u = by (pointed (decayed ta)) (is_pointer (decayed tb))
  where
    by : (q : Option Ty) (pointers : Bool) → weigh (listing (operated_on h op q pointers t a b u)) ≤ 32
    by None pointers = word_weighs op t a b
    by (Some to) pointers = pointer_weighs op (words h to) pointers t a b u

pub more_weighs : (h : Shape) (q : Option Ty) (t a u : ℕ) → weigh (listing (one_more h q t a u)) ≤ 24
more_weighs h None t a u = omega arith
more_weighs h (Some to) t a u = omega arith

pub less_weighs : (h : Shape) (q : Option Ty) (t a u : ℕ) → weigh (listing (one_less h q t a u)) ≤ 24
less_weighs h None t a u = omega arith
less_weighs h (Some to) t a u = omega arith

pub tested_weighs : (ty : Ty) (t : ℕ) → weigh (listing (tested_as ty t)) ≤ 16
tested_weighs VoidY t = omega arith
tested_weighs IntY t = omega arith
tested_weighs BoolY t = omega arith
tested_weighs (EnumY k) t = omega arith
tested_weighs (StructY k) t = omega arith
tested_weighs (UnionY k) t = omega arith
tested_weighs (PointerY to) t = omega arith
tested_weighs (ArrayY of len) t = omega arith

pub negated_weighs : (ty : Ty) (t : ℕ) → weigh (listing (negated_as ty t)) ≤ 16
negated_weighs VoidY t = omega arith
negated_weighs IntY t = omega arith
negated_weighs BoolY t = omega arith
negated_weighs (EnumY k) t = omega arith
negated_weighs (StructY k) t = omega arith
negated_weighs (UnionY k) t = omega arith
negated_weighs (PointerY to) t = omega arith
negated_weighs (ArrayY of len) t = omega arith

pub made_weighs : (ks : List ℕ) → weigh (listing (made ks)) ≡ 0
made_weighs [] = refl
made_weighs (k ∷ ks) = let e = made_weighs ks in omega (arith, e)

pub zeroed_weighs : (size : ℕ) → weigh (listing (zeroed size)) ≤ 72
zeroed_weighs zero = omega arith
zeroed_weighs (suc left) = omega arith
