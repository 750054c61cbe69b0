-- What lowered expressions weigh: at most 128 a node, and 16 less.
use Rattle.std.proofs.Common.{ℕ, ◌+◌, ◌*◌, ◌≤◌, Bool, true, false, List, [], ◌∷◌, ◌++◌, length, Option, Some, None, arith}
use Rattle.c_tree.specs.declared.operator.UnOp.TheVariants as un
use Rattle.c_tree.specs.declared.operator.BinOp.{BinOp}
use Rattle.c_types.specs.Types.{Ty, VoidY, IntY, BoolY, EnumY, StructY, UnionY, PointerY, ArrayY}
use Rattle.c_types.specs.Typed.{TExprT, Typed, TKindT, NumberK, NullK, LiteralK, GlobalK, LocalK, UnaryK, BinaryK, AssignK, StepK, IndexK, MemberK, ArrowK, CastK, CallK, InK, OutK, WaitK, HaltK, CardK, TExprTs, NoX, MoreX}
use Rattle.c_types.specs.Nodes.{typed_nodes, kind_nodes, all_typed_nodes}
use Rattle.c_exprs.specs.Nodes.{is_place_kind}
use Rattle.c_meaning.specs.Kinds.{type_of}
use Rattle.c_types.specs.Kinds.{decayed, pointed}
use Rattle.v32_isa.specs.declared.instruction.One.TheVariants.{ISGN, NOT}
use Rattle.mid_code.specs.declared.node.Op.TheVariants as o
use Rattle.mid_code.specs.Functions.{DoN}
use Rattle.lower_trees.specs.Shape.{Shape, words, params_of, result_of}
use Rattle.lower_trees.specs.Flags.{is_flag, tests_flag}
use Rattle.lower_trees.specs.Counts.{sizes, sizes_all}
use Rattle.lower_trees.specs.Pieces.{Piece, Listing, listing}
use Rattle.lower_trees.specs.Parts.{moved_by, structure_read, as_flag, converted, stored, stepped, operated, tested_as, negated_as}
use Rattle.lower_trees.specs.Expressions.{Low, read, second, beyond, size_at, behind_place, spots, later_types, value_of, second_test, lazy_of, lazy_choice, binary_by, gives_old, counts_up, step_made, stepped_to, step_by, member_of, called, converted_to, low, low_kind, low_args, low_value, low_test}
use Rattle.mid_lower.proofs.Weights.{weigh, both, three, four, read_weighs, flag_weighs, converted_weighs, stored_weighs, stepped_weighs, operated_weighs, more_weighs, less_weighs, tested_weighs, negated_weighs}

-- reading a place weighs so much at most
abbrev pub extra : Bool → ℕ
extra true = 104
extra false = 0

structure_place : (size k : ℕ) (t : ℕ) (part : Listing) (N : ℕ) → weigh part + 104 + 16 ≤ N → weigh (part ++ listing (structure_read size k t)) + 16 ≤ N
structure_place size k t part N h = let e = both part (listing (structure_read size k t)) in let f = read_weighs size k t in omega (arith, h, e, f)

scalar_place : (t n : ℕ) (part : Listing) (N : ℕ) → weigh part + 104 + 16 ≤ N → weigh (part ++ (DoN (o.Load t n) ∷ [])) + 16 ≤ N
scalar_place t n part N h = let e = both part (DoN (o.Load t n) ∷ []) in omega (arith, h, e)

place_read : (h : Shape) (ty : Ty) (k : ℕ) (part : Low) (N : ℕ) → ((t n m : ℕ) → weigh (listing (part t n m)) + 104 + 16 ≤ N) → (t n m : ℕ) → weigh (listing (read h ty k part t n m)) + 16 ≤ N
place_read h VoidY k part N w t n m = let e = w t n m in omega (arith, e)
place_read h IntY k part N w t n m = scalar_place t n (listing (part n (n + 1) m)) N (w n (n + 1) m)
place_read h BoolY k part N w t n m = scalar_place t n (listing (part n (n + 1) m)) N (w n (n + 1) m)
place_read h (EnumY e) k part N w t n m = scalar_place t n (listing (part n (n + 1) m)) N (w n (n + 1) m)
place_read h (PointerY to) k part N w t n m = scalar_place t n (listing (part n (n + 1) m)) N (w n (n + 1) m)
place_read h (StructY s) k part N w t n m = structure_place (words h (StructY s)) k t (listing (part t n m)) N (w t n m)
place_read h (UnionY s) k part N w t n m = structure_place (words h (UnionY s)) k t (listing (part t n m)) N (w t n m)
place_read h (ArrayY of len) k part N w t n m = let e = w t n m in omega (arith, e)

value_read : (h : Shape) (place : Bool) (ty : Ty) (k : ℕ) (part : Low) (N : ℕ) → ((t n m : ℕ) → weigh (listing (part t n m)) + extra place + 16 ≤ N) → (t n m : ℕ) → weigh (listing (value_of h place ty k part t n m)) + 16 ≤ N
value_read h true ty k part N w t n m = place_read h ty k part N w t n m
value_read h false ty k part N w t n m = let e = w t n m in omega (arith, e)

made_weighs : (h : Shape) (up : Bool) (ty : Ty) (new old by : ℕ) → weigh (listing (step_made h up ty new old by)) ≤ 24
made_weighs h true ty new old by = more_weighs h (pointed (decayed ty)) new old by
made_weighs h false ty new old by = less_weighs h (pointed (decayed ty)) new old by

to_weighs : (h : Shape) (up : Bool) (ty : Ty) (new old p : ℕ) → weigh (listing (stepped_to h up ty new old p)) ≤ 48
to_weighs h up ty new old p =
    let e = four (DoN (o.Load old p) ∷ []) (listing (step_made h up ty new old (p + 1))) (listing (converted ty false new)) (DoN (o.Store p new) ∷ []) in
    let f = made_weighs h up ty new old (p + 1) in
    let g = converted_weighs ty false new in
    omega (arith, e, f, g)

steps_weigh : (h : Shape) (old up : Bool) (ty : Ty) (t n : ℕ) → weigh (listing (step_by h old up ty t n)) ≤ 48
steps_weigh h true up ty t n = to_weighs h up ty (n + 1) t n
steps_weigh h false up ty t n = to_weighs h up ty t t n

member_weighs : (place : Bool) (ty : Ty) (t : ℕ) → weigh (listing (member_of place ty t)) + extra place ≤ 104
member_weighs true ty t = omega arith
member_weighs false VoidY t = omega arith
member_weighs false IntY t = omega arith
member_weighs false BoolY t = omega arith
member_weighs false (EnumY e) t = omega arith
member_weighs false (StructY s) t = omega arith
member_weighs false (UnionY s) t = omega arith
member_weighs false (PointerY to) t = omega arith
member_weighs false (ArrayY of len) t = omega arith

to_weigh : (tys : List Ty) (known : Bool) (t : ℕ) → weigh (listing (converted_to tys known t)) ≤ 8
to_weigh [] known t = omega arith
to_weigh (ty ∷ tys) known t = converted_weighs ty known t

choice_weighs : (and : Bool) (t : ℕ) (last : Piece) → weigh (listing (lazy_choice and t last)) ≤ weigh (listing last) + 16
choice_weighs true t last = omega arith
choice_weighs false t last = omega arith

call_weighs : (ty : Ty) (f k t : ℕ) (args : List ℕ) → weigh (listing (called ty f k t args)) ≤ 20 + 4 * length args
call_weighs VoidY f k t args = omega arith
call_weighs IntY f k t args = omega arith
call_weighs BoolY f k t args = omega arith
call_weighs (EnumY e) f k t args = omega arith
call_weighs (StructY s) f k t args = omega arith
call_weighs (UnionY s) f k t args = omega arith
call_weighs (PointerY to) f k t args = omega arith
call_weighs (ArrayY of len) f k t args = omega arith

binary_weighs : (h : Shape) (lazy : Option Bool) (op : BinOp) (x y : TExprT) → ((t n m : ℕ) → weigh (listing (low_value h x t n m)) + 16 ≤ 128 * typed_nodes x) → ((t n m : ℕ) → weigh (listing (low_value h y t n m)) + 16 ≤ 128 * typed_nodes y) → (t n m : ℕ)
    → weigh (listing (binary_by lazy h op x y (low h x) (low h y) t n m)) + 16 ≤ 128 * (typed_nodes x + typed_nodes y + 1)
binary_weighs h None op x y fx fy t n m =
    let e = three (listing (low_value h x n (n + 1) m)) (listing (low_value h y (second x n) (second x n + 1) (beyond h x m))) (listing (operated h op (type_of x) (type_of y) t n (second x n) (size_at x y n))) in
    let f = fx n (n + 1) m in
    let g = fy (second x n) (second x n + 1) (beyond h x m) in
    let p = operated_weighs h op (type_of x) (type_of y) t n (second x n) (size_at x y n) in
    omega (arith, e, f, g, p)
binary_weighs h (Some and) op x y fx fy t n m =
    let last = second_test h x y (low h y) t n m in
    let e = both (listing (low_test h x t n m)) (listing (lazy_choice and t last)) in
    let c = choice_weighs and t last in
    let d = both (listing (low_test h y t (second x n) (beyond h x m))) (listing (as_flag (tests_flag y) t)) in
    let f = both (listing (low_value h x t n m)) (listing (tested_as (decayed (type_of x)) t)) in
    let g = both (listing (low_value h y t (second x n) (beyond h x m))) (listing (tested_as (decayed (type_of y)) t)) in
    let u = fx t n m in
    let v = fy t (second x n) (beyond h x m) in
    let q = tested_weighs (decayed (type_of x)) t in
    let r = tested_weighs (decayed (type_of y)) t in
    let p = flag_weighs (tests_flag y) t in
    omega (arith, e, c, d, f, g, u, v, q, r, p)

mutual
  pub place_weighs : (h : Shape) (x : TExprT) (t n m : ℕ) → weigh (listing (low h x t n m)) + 16 ≤ 128 * typed_nodes x
  place_weighs h (Typed kind ty span) t n m = let e = kind_weighs h kind ty t n m in omega (arith, e)

  pub value_weighs : (h : Shape) (x : TExprT) (t n m : ℕ) → weigh (listing (low_value h x t n m)) + 16 ≤ 128 * typed_nodes x
  value_weighs h (Typed kind ty span) t n m =
      value_read h (is_place_kind kind) ty (m + length (sizes h (Typed kind ty span))) (low h (Typed kind ty span)) (128 * typed_nodes (Typed kind ty span)) (λ t n m. kind_weighs h kind ty t n m) t n m

  kind_weighs : (h : Shape) (k : TKindT) (ty : Ty) (t n m : ℕ) → weigh (listing (low_kind h k ty t n m)) + extra (is_place_kind k) + 16 ≤ 128 * (kind_nodes k + 1)
  kind_weighs h (NumberK x) ty t n m = omega arith
  kind_weighs h NullK ty t n m = omega arith
  kind_weighs h (LiteralK number) ty t n m = omega arith
  kind_weighs h (GlobalK number) ty t n m = omega arith
  kind_weighs h (LocalK number) ty t n m = omega arith
  kind_weighs h (UnaryK un.Deref x) ty t n m = let f = value_weighs h x t n m in omega (arith, f)
  kind_weighs h (UnaryK un.Address x) ty t n m = let f = place_weighs h x t n m in omega (arith, f)
  kind_weighs h (UnaryK un.Not x) ty t n m =
      let e = both (listing (low_value h x t n m)) (listing (negated_as (decayed (type_of x)) t)) in
      let f = value_weighs h x t n m in
      let g = negated_weighs (decayed (type_of x)) t in
      omega (arith, e, f, g)
  kind_weighs h (UnaryK un.Minus x) ty t n m = let e = both (listing (low_value h x t n m)) (DoN (o.One ISGN t t) ∷ []) in let f = value_weighs h x t n m in omega (arith, e, f)
  kind_weighs h (UnaryK un.Plus x) ty t n m = let f = value_weighs h x t n m in omega (arith, f)
  kind_weighs h (UnaryK un.Flip x) ty t n m = let e = both (listing (low_value h x t n m)) (DoN (o.One NOT t t) ∷ []) in let f = value_weighs h x t n m in omega (arith, e, f)
  kind_weighs h (BinaryK op x y) ty t n m = let e = binary_weighs h (lazy_of op) op x y (λ t n m. value_weighs h x t n m) (λ t n m. value_weighs h y t n m) t n m in omega (arith, e)
  kind_weighs h (AssignK None x y) ty t n m =
      let a = listing (low h x n (n + 1) m) in
      let b = listing (low_value h y t (behind_place x n + 2) (m + length (sizes h x))) in
      let e = four a b (listing (converted (type_of x) (is_flag y) t)) (listing (stored h (type_of x) n t)) in
      let f = place_weighs h x n (n + 1) m in
      let g = value_weighs h y t (behind_place x n + 2) (m + length (sizes h x)) in
      let p = converted_weighs (type_of x) (is_flag y) t in
      let q = stored_weighs h (type_of x) n t in
      omega (arith, e, f, g, p, q)
  kind_weighs h (AssignK (Some op) x y) ty t n m =
      let u = behind_place x n in
      let a = listing (low h x n (n + 1) m) in
      let b = listing (low_value h y u (u + 2) (m + length (sizes h x))) in
      let c = (DoN (o.Load t n) ∷ []) in
      let d = listing (operated h op (type_of x) (type_of y) t t u (u + 1)) in
      let e = four a b c d in
      let r = three (a ++ b ++ c ++ d) (listing (converted (type_of x) false t)) (DoN (o.Store n t) ∷ []) in
      let f = place_weighs h x n (n + 1) m in
      let g = value_weighs h y u (u + 2) (m + length (sizes h x)) in
      let p = converted_weighs (type_of x) false t in
      let q = operated_weighs h op (type_of x) (type_of y) t t u (u + 1) in
      omega (arith, e, r, f, g, p, q)
  kind_weighs h (StepK op x) ty t n m =
      let e = both (listing (low h x n (n + 2) m)) (listing (step_by h (gives_old op) (counts_up op) (type_of x) t n)) in
      let f = place_weighs h x n (n + 2) m in
      let g = steps_weigh h (gives_old op) (counts_up op) (type_of x) t n in
      omega (arith, e, f, g)
  kind_weighs h (IndexK x y) ty t n m =
      let e = three (listing (low_value h x n (n + 1) m)) (listing (low_value h y (second x n) (second x n + 1) (beyond h x m))) (listing (stepped (words h ty) t n (second x n) (size_at x y n))) in
      let f = value_weighs h x n (n + 1) m in
      let g = value_weighs h y (second x n) (second x n + 1) (beyond h x m) in
      let p = stepped_weighs (words h ty) t n (second x n) (size_at x y n) in
      omega (arith, e, f, g, p)
  kind_weighs h (MemberK (Typed kind of span) offset) ty t n m =
      let e = three (listing (low h (Typed kind of span) n (n + 1) m)) (listing (moved_by t n offset)) (listing (member_of (is_place_kind kind) ty t)) in
      let f = place_weighs h (Typed kind of span) n (n + 1) m in
      let p = member_weighs (is_place_kind kind) ty t in
      omega (arith, e, f, p)
  kind_weighs h (ArrowK x offset) ty t n m = let e = both (listing (low_value h x n (n + 1) m)) (listing (moved_by t n offset)) in let f = value_weighs h x n (n + 1) m in omega (arith, e, f)
  kind_weighs h (CastK x) ty t n m =
      let e = both (listing (low_value h x t n m)) (listing (converted ty (is_flag x) t)) in
      let f = value_weighs h x t n m in
      let p = converted_weighs ty (is_flag x) t in
      omega (arith, e, f, p)
  kind_weighs h (CallK f xs) ty t n m =
      let e = both (listing (low_args h (params_of h f) xs n m)) (listing (called (result_of h f) f (m + length (sizes_all h xs)) t (spots xs n))) in
      let a = args_weigh h (params_of h f) xs n m in
      let p = call_weighs (result_of h f) f (m + length (sizes_all h xs)) t (spots xs n) in
      omega (arith, e, a, p)
  kind_weighs h (InK port) ty t n m = omega arith
  kind_weighs h (OutK port x) ty t n m = let e = both (listing (low_value h x t n m)) (DoN (o.Out port t) ∷ []) in let f = value_weighs h x t n m in omega (arith, e, f)
  kind_weighs h WaitK ty t n m = omega arith
  kind_weighs h HaltK ty t n m = omega arith
  kind_weighs h CardK ty t n m = omega arith

  -- with the four that each argument weighs in the call
  args_weigh : (h : Shape) (tys : List Ty) (xs : TExprTs) (n m : ℕ) → weigh (listing (low_args h tys xs n m)) + 4 * length (spots xs n) ≤ 128 * all_typed_nodes xs
  args_weigh h tys NoX n m = omega arith
  args_weigh h tys (MoreX x xs) n m =
      let e = three (listing (low_value h x n (n + 1) m)) (listing (converted_to tys (is_flag x) n)) (listing (low_args h (later_types tys) xs (second x n) (beyond h x m))) in
      let f = value_weighs h x n (n + 1) m in
      let g = to_weigh tys (is_flag x) n in
      let r = args_weigh h (later_types tys) xs (second x n) (beyond h x m) in
      omega (arith, e, f, g, r)

pub test_weighs : (h : Shape) (x : TExprT) (t n m : ℕ) → weigh (listing (low_test h x t n m)) ≤ 128 * typed_nodes x
test_weighs h x t n m =
    let e = both (listing (low_value h x t n m)) (listing (tested_as (decayed (type_of x)) t)) in
    let f = value_weighs h x t n m in
    let g = tested_weighs (decayed (type_of x)) t in
    omega (arith, e, f, g)
