-- What is typed while a unit is read is sound in the whole program.
use Rattle.std.proofs.Common.{◌≡◌, ℕ, ◌+◌, ◌≤◌, Bool, true, false, ◌||◌, not, List, length, Option, Some, None, Result, Ok, Err, refl, ap, subst, arith}
use Rattle.std.specs.Prelude.{slice_get, option_map, if◌then◌else◌}
use Rattle.c_tree.specs.declared.span.Span.{Span}
use Rattle.c_tree.specs.declared.operator.UnOp.{UnOp}
use Rattle.c_tree.specs.declared.operator.StepOp.{StepOp}
use Rattle.c_tree.specs.declared.operator.BinOp.{BinOp}
use Rattle.c_tree.specs.Tree.{ExprT, ExprTs, TypeT}
use Rattle.c_types.specs.Types.{Ty, IntY, ArrayY, MemberT}
use Rattle.c_types.specs.Typed.{TExprT, Typed, LiteralK, UnaryK, BinaryK, AssignK, StepK, IndexK, MemberK, ArrowK, CastK, TExprTs, MoreX}
use Rattle.c_types.specs.Sizes.{words_of}
use Rattle.c_rules.specs.declared.code.Code.{Code}
use Rattle.c_rules.specs.declared.code.Code.TheVariants.{NotAPlace}
use Rattle.c_rules.specs.Kinds.{is_array}
use Rattle.c_types.specs.Kinds.{decayed, pointed}
use Rattle.c_rules.specs.Sizes.{type_limit}
use Rattle.c_rules.specs.Rules.{judged}
use Rattle.c_rules.specs.Nodes.{needs_place, unary_rule, binary_rule, assign_rule, compound_rule, step_rule, index_rule, cast_rule, array_rule}
use Rattle.c_exprs.specs.Env.{Text, find, find_in, LocalD, Decl, TypeD, ConstantD, GlobalD, FunctionD, Ctx}
use Rattle.c_exprs.specs.Intrinsics.{intrinsic}
use Rattle.c_exprs.specs.declared.intrinsics.Intrinsic.{Intrinsic}
use Rattle.c_exprs.specs.Faults.{at_node, with_text}
use Rattle.c_exprs.specs.Nodes.{type_of_typed, span_of, is_place, value_rule, intrinsic_tree, local_or_declared, name_tree, declared_type, named_type, layout_of, layout_behind, member_in, member_at, member_tree, arrow_at, arrow_tree}
use Rattle.c_exprs.specs.Calls.{call_node}
use Rattle.c_exprs.specs.Types as good
use Rattle.c_exprs.specs.Types.{Types, Values, Used, AllValues, Names}
use Rattle.c_facts.specs.Sound.{Scene, IsKnown, IsTyped, IsKind, IsUsed, AreValues, IsTypedValue, text_type}
use Rattle.c_facts.proofs.Within.{Begins, Within}
use Rattle.c_facts.proofs.Growth.{placed_answer, node_answer, value_later, binary_later, index_later, assign_later, compound_later, step_later, array_later, member_later, behind_later, member_known, behind_known}
use Rattle.c_facts.proofs.Known.{unary_answer, binary_answer, index_answer, assign_answer, compound_answer, step_answer, cast_answer, cast_gives}
use Rattle.c_facts.proofs.Beginnings.{text_behind, text_fits, value_begins, all_begins}
use Rattle.c_facts.proofs.Lookups.{name_meant, object_found, member_there}
use Rattle.c_facts.proofs.Calls.{node_called}
use Rattle.c_facts.proofs.Fronts.{begins_through, last_of_beginning}

abbrev one_tree : TExprT → Result TExprT Code
one_tree x = Ok x

tree_is : (s : Scene) (x y : TExprT) → IsTyped s x → one_tree x ≡ Ok y → IsTyped s y
tree_is s x y good h = let e : x ≡ y = cc in subst (λ (z : TExprT). IsTyped s z) e good

-- the type of a tree is known
tree_known : (s : Scene) (x : TExprT) → IsTyped s x → IsKnown s.layouts s.whole (type_of_typed x)
tree_known s (Typed kind ty span) h = h.0

-- ---- names

no_intrinsic : (s : Scene) (o : Option Intrinsic) (y : TExprT) → intrinsic_tree o ≡ Ok y → IsTyped s y
no_intrinsic s None y h = cc
no_intrinsic s (Some i) y h = cc

-- an object of the call hides a name of the unit
meaning_sound : (s : Scene) (c : Ctx) (n : Text) (p : Span) (y : TExprT) (l : Option LocalD) (d : Option Decl) → Within c s → find_in n c.scopes ≡ l → find n c.names ≡ d → local_or_declared n p l d ≡ Ok y → IsTyped s y
meaning_sound s c n p y (Some l) d w e f h = tree_is s _ y (object_found s n c.scopes l w.scopes e) h
meaning_sound s c n p y None None w e f h = no_intrinsic s (intrinsic n) y h
meaning_sound s c n p y None (Some (TypeD ty)) w e f h = cc
meaning_sound s c n p y None (Some (ConstantD k)) w e f h = tree_is s _ y (tt, refl) h
meaning_sound s c n p y None (Some (GlobalD number ty)) w e f h = tree_is s _ y (name_meant s n c.names (GlobalD number ty) w.names f) h
meaning_sound s c n p y None (Some (FunctionD params gives)) w e f h = cc

name_sound : (s : Scene) (c : Ctx) (n : Text) (p : Span) (y : TExprT) → Within c s → name_tree c n p ≡ Ok y → IsTyped s y
unfolding name_tree
name_sound s c n p y w h = meaning_sound s c n p y (find_in n c.scopes) (find n c.names) w refl refl h

abbrev one_type : Ty → Result Ty Code
one_type ty = Ok ty

type_is : (s : Scene) (ty u : Ty) → IsKnown s.layouts s.whole ty → one_type ty ≡ Ok u → IsKnown s.layouts s.whole u
type_is s ty u known h = let e : ty ≡ u = cc in subst (λ (t : Ty). IsKnown s.layouts s.whole t) e known

meaning_known : (s : Scene) (c : Ctx) (n : Text) (ty : Ty) (d : Option Decl) → Within c s → find n c.names ≡ d → declared_type d ≡ Ok ty → IsKnown s.layouts s.whole ty
meaning_known s c n ty None w e h = cc
meaning_known s c n ty (Some (TypeD t)) w e h = type_is s t ty (name_meant s n c.names (TypeD t) w.names e) h
meaning_known s c n ty (Some (ConstantD k)) w e h = cc
meaning_known s c n ty (Some (GlobalD number t)) w e h = cc
meaning_known s c n ty (Some (FunctionD params gives)) w e h = cc

named_known : (s : Scene) (c : Ctx) (n : Text) (ty : Ty) → Within c s → named_type c n ≡ Ok ty → IsKnown s.layouts s.whole ty
unfolding named_type
named_known s c n ty w h = meaning_known s c n ty (find n c.names) w refl h

-- the type that a type tree names
pub type_sound : (s : Scene) {c : Ctx} {ts us : List Text} {p : Span} {of : TypeT} {ty : Ty} → Within c s → Names c ts p of ty us → IsKnown s.layouts s.whole ty
type_sound s w good.int = tt
type_sound s w good.bool = tt
type_sound s w good.void = tt
type_sound s {c = c} w (good.named {s = p} {n = n} {t = t} g0) = named_known s c n t w (placed_answer p (named_type c n) t g0)
type_sound s w (good.pointer g0) = type_sound s w g0
type_sound s {c = c} w (good.array {k = k} {t = t} {u = u} g0 g1 g2 g3) = array_later w.grows t k u (type_sound s w g2) (node_answer _ (array_rule c.layouts c.whole t k) u g3)

-- ---- members

-- a member that is found is one of the whole program, with a type that is known
member_is : (s : Scene) (p : Span) (x y : TExprT) (m : MemberT) (test : Bool) → IsKnown s.layouts s.whole m.ty → (test ≡ true → IsKind s (MemberK x m.offset) m.ty) → (if test then one_tree (Typed (MemberK x m.offset) m.ty p) else Err NotAPlace) ≡ Ok y → IsTyped s y
member_is s p x y m true known is h = tree_is s _ y (known, is refl) h
member_is s p x y m false known is h = cc

member_found : (s : Scene) (c : Ctx) (p : Span) (x y : TExprT) (n : Text) (r : Result MemberT Code) → Within c s → IsTyped s x → member_in n (layout_of c.layouts (type_of_typed x)) ≡ r → member_at p x r ≡ Ok y → IsTyped s y
member_found s c p x y n (Err k) w typed e h = cc
member_found s c p x y n (Ok m) w typed e h =
    let there : member_in n (layout_of s.layouts (type_of_typed x)) ≡ Ok m = member_later w.grows n (type_of_typed x) m e in
    member_is s p x y m (is_place x || not (is_array m.ty)) (member_known s w.members n (type_of_typed x) m there) (λ place. (typed, member_there n (layout_of s.layouts (type_of_typed x)) m there, place)) h

member_sound : (s : Scene) (c : Ctx) (p : Span) (x y : TExprT) (n : Text) → Within c s → IsTyped s x → member_tree c p x n ≡ Ok y → IsTyped s y
unfolding member_tree
member_sound s c p x y n w typed h = member_found s c p x y n (member_in n (layout_of c.layouts (type_of_typed x))) w typed refl h

arrow_found : (s : Scene) (c : Ctx) (p : Span) (x y : TExprT) (n : Text) (r : Result MemberT Code) → Within c s → IsTypedValue s x → member_in n (layout_behind c.layouts (pointed (decayed (type_of_typed x)))) ≡ r → arrow_at p x r ≡ Ok y → IsTyped s y
arrow_found s c p x y n (Err k) w good e h = cc
arrow_found s c p x y n (Ok m) w good e h =
    let there : member_in n (layout_behind s.layouts (pointed (decayed (type_of_typed x)))) ≡ Ok m = behind_later w.grows n (pointed (decayed (type_of_typed x))) m e in
    tree_is s (Typed (ArrowK x m.offset) m.ty p) y (behind_known s w.members n (pointed (decayed (type_of_typed x))) m there, (good.typed, good.value, member_there n (layout_behind s.layouts (pointed (decayed (type_of_typed x)))) m there)) h

arrow_sound : (s : Scene) (c : Ctx) (p : Span) (x y : TExprT) (n : Text) → Within c s → IsTypedValue s x → arrow_tree c p x n ≡ Ok y → IsTyped s y
unfolding arrow_tree
arrow_sound s c p x y n w good h = arrow_found s c p x y n (member_in n (layout_behind c.layouts (pointed (decayed (type_of_typed x))))) w good refl h

-- ---- texts

-- a literal has its words, and those are no more than a type may have
text_size : (s : Scene) (t : Text) → length t + 1 ≤ 4000000 → words_of s.layouts (ArrayY IntY (length t + 1)) ≤ type_limit
text_size s t h = omega arith

text_sound : (s : Scene) (p : Span) (ts us : List Text) (t : Text) (k : ℕ) → with_text p ts t ≡ Ok (k, us) → Begins us s.literals → IsTyped s (Typed (LiteralK k) (ArrayY IntY (length t + 1)) p)
text_sound s p ts us t k h b =
    let behind = text_behind p ts us t k h in
    let there : slice_get s.literals k ≡ Some t = subst (λ (j : ℕ). slice_get s.literals j ≡ Some t) behind.0 (last_of_beginning ts us s.literals t b behind.1) in
    ((tt, refl, omega arith, text_size s t (text_fits p ts us t k h)), ap (option_map text_type) there)

-- ---- expressions

-- a tree that is kept as it is, or whose value is asked for
record IsTypedUsed (s : Scene) (kept : Bool) (x : TExprT) : Type 0 where
  typed : IsTyped s x
  used : IsUsed s kept (type_of_typed x)

-- ---- nodes

-- The parts are sound, and the rule of the node answers what it answers in the whole program.
unary_sound : (s : Scene) (p : Span) (op : UnOp) (x : TExprT) (u : Ty) → IsTypedUsed s (needs_place op) x → at_node p (unary_rule op (type_of_typed x) (is_place x)) ≡ Ok u → IsTyped s (Typed (UnaryK op x) u p)
unary_sound s p op x u a g =
    let rule = node_answer p (unary_rule op (type_of_typed x) (is_place x)) u g in
    (unary_answer s.layouts s.whole op (type_of_typed x) (is_place x) u (tree_known s x a.typed) rule, (a.typed, a.used, rule))

binary_sound : (s : Scene) (c : Ctx) (p : Span) (op : BinOp) (x y : TExprT) (u : Ty) → Within c s → IsTypedValue s x → IsTypedValue s y → at_node p (binary_rule c.whole op (type_of_typed x) (type_of_typed y)) ≡ Ok u → IsTyped s (Typed (BinaryK op x y) u p)
binary_sound s c p op x y u w a b g =
    let rule = binary_later w.grows op (type_of_typed x) (type_of_typed y) u (node_answer p (binary_rule c.whole op (type_of_typed x) (type_of_typed y)) u g) in
    (binary_answer s.layouts s.whole op (type_of_typed x) (type_of_typed y) u (tree_known s x a.typed) rule, (a.typed, a.value, b.typed, b.value, rule))

assign_sound : (s : Scene) (c : Ctx) (p : Span) (x y : TExprT) (u : Ty) → Within c s → IsTyped s x → IsTypedValue s y → at_node p (assign_rule c.layouts c.whole (type_of_typed x) (is_place x) (type_of_typed y)) ≡ Ok u → IsTyped s (Typed (AssignK None x y) u p)
assign_sound s c p x y u w a b g =
    let rule = assign_later w.grows (type_of_typed x) (is_place x) (type_of_typed y) u (node_answer p (assign_rule c.layouts c.whole (type_of_typed x) (is_place x) (type_of_typed y)) u g) in
    (assign_answer s.layouts s.whole (type_of_typed x) (is_place x) (type_of_typed y) u (tree_known s x a) rule, (a, b.typed, b.value, rule))

compound_sound : (s : Scene) (c : Ctx) (p : Span) (op : BinOp) (x y : TExprT) (u : Ty) → Within c s → IsTyped s x → IsTypedValue s y → at_node p (compound_rule c.whole op (type_of_typed x) (is_place x) (type_of_typed y)) ≡ Ok u → IsTyped s (Typed (AssignK (Some op) x y) u p)
compound_sound s c p op x y u w a b g =
    let rule = compound_later w.grows op (type_of_typed x) (is_place x) (type_of_typed y) u (node_answer p (compound_rule c.whole op (type_of_typed x) (is_place x) (type_of_typed y)) u g) in
    (compound_answer s.layouts s.whole op (type_of_typed x) (is_place x) (type_of_typed y) u (tree_known s x a) rule, (a, b.typed, b.value, rule))

step_sound : (s : Scene) (c : Ctx) (p : Span) (op : StepOp) (x : TExprT) (u : Ty) → Within c s → IsTyped s x → at_node p (step_rule c.whole op (type_of_typed x) (is_place x)) ≡ Ok u → IsTyped s (Typed (StepK op x) u p)
step_sound s c p op x u w a g =
    let rule = step_later w.grows op (type_of_typed x) (is_place x) u (node_answer p (step_rule c.whole op (type_of_typed x) (is_place x)) u g) in
    (step_answer s.layouts s.whole op (type_of_typed x) (is_place x) u (tree_known s x a) rule, (a, rule))

index_sound : (s : Scene) (c : Ctx) (p : Span) (x y : TExprT) (u : Ty) → Within c s → IsTypedValue s x → IsTypedValue s y → at_node p (index_rule c.whole (type_of_typed x) (type_of_typed y)) ≡ Ok u → IsTyped s (Typed (IndexK x y) u p)
index_sound s c p x y u w a b g =
    let rule = index_later w.grows (type_of_typed x) (type_of_typed y) u (node_answer p (index_rule c.whole (type_of_typed x) (type_of_typed y)) u g) in
    (index_answer s.layouts s.whole (type_of_typed x) (type_of_typed y) u (tree_known s x a.typed) rule, (a.typed, a.value, b.typed, b.value, rule))

cast_sound : (s : Scene) (p : Span) (to : Ty) (x : TExprT) (u : Ty) → IsKnown s.layouts s.whole to → IsTypedValue s x → at_node p (cast_rule (type_of_typed x) to) ≡ Ok u → IsTyped s (Typed (CastK x) u p)
cast_sound s p to x u known a g =
    let rule = node_answer p (cast_rule (type_of_typed x) to) u g in
    (cast_answer s.layouts s.whole (type_of_typed x) to u known rule, (a.typed, a.value, subst (λ (t : Ty). judged (cast_rule (type_of_typed x) t) ≡ Ok u) (cast_gives (type_of_typed x) to u rule) rule))

used_value : (s : Scene) (x : TExprT) → IsTypedValue s x → IsTypedUsed s false x
used_value s x a = record { typed = a.typed; used = a.value }

more_values : (s : Scene) (x : TExprT) (xs : TExprTs) → IsTypedValue s x → AreValues s xs → AreValues s (MoreX x xs)
more_values s x xs a rest = (a.typed, a.value, rest)

-- every expression that is typed, with its parts
mutual
  pub typed_sound : (s : Scene) {c : Ctx} {ts us : List Text} {e : ExprT} {x : TExprT} → Within c s → Types c ts e x us → Begins us s.literals → IsTyped s x
  typed_sound s {c = c} w (good.name {n = n} {s = p} {x = x} g0) b = name_sound s c n p x w (placed_answer p (name_tree c n p) x g0)
  typed_sound s w good.number b = (tt, refl)
  typed_sound s w (good.text {ts = ts} {us = us} {t = t} {s = p} {k = k} g0) b = text_sound s p ts us t k g0 b
  typed_sound s w good.null b = (tt, refl)
  typed_sound s w (good.paren g0) b = typed_sound s w g0 b
  typed_sound s w (good.unary {op = op} {s = p} {x = x} {u = u} g0 g1) b = unary_sound s p op x u (used_sound s w g0 b) g1
  typed_sound s {c = c} w (good.binary {us = us} {vs = vs} {op = op} {s = p} {x = x} {y = y} {u = u} g0 g1 g2) b = binary_sound s c p op x y u w (value_sound s w g0 (begins_through us vs s.literals (value_begins g1) b)) (value_sound s w g1 b) g2
  typed_sound s {c = c} w (good.assign {us = us} {vs = vs} {s = p} {x = x} {y = y} {u = u} g0 g1 g2) b = assign_sound s c p x y u w (typed_sound s w g0 (begins_through us vs s.literals (value_begins g1) b)) (value_sound s w g1 b) g2
  typed_sound s {c = c} w (good.compound {us = us} {vs = vs} {op = op} {s = p} {x = x} {y = y} {u = u} g0 g1 g2) b = compound_sound s c p op x y u w (typed_sound s w g0 (begins_through us vs s.literals (value_begins g1) b)) (value_sound s w g1 b) g2
  typed_sound s {c = c} w (good.step {op = op} {s = p} {x = x} {u = u} g0 g1) b = step_sound s c p op x u w (typed_sound s w g0 b) g1
  typed_sound s {c = c} w (good.index {us = us} {vs = vs} {s = p} {x = x} {y = y} {u = u} g0 g1 g2) b = index_sound s c p x y u w (value_sound s w g0 (begins_through us vs s.literals (value_begins g1) b)) (value_sound s w g1 b) g2
  typed_sound s {c = c} w (good.member {n = n} {s = p} {x = x} {y = y} g0 g1) b = member_sound s c p x y n w (typed_sound s w g0 b) (placed_answer p (member_tree c p x n) y g1)
  typed_sound s {c = c} w (good.arrow {n = n} {s = p} {x = x} {y = y} g0 g1) b = arrow_sound s c p x y n w (value_sound s w g0 b) (placed_answer p (arrow_tree c p x n) y g1)
  typed_sound s {c = c} w (good.call {n = n} {args = args} {s = p} {xs = xs} {u = u} g0 g1) b = node_called s c n args xs u w (all_sound s w g0 b) (placed_answer p (call_node c n args xs) u g1)
  typed_sound s w (good.cast {s = p} {t = t} {x = x} {u = u} g0 g1 g2) b = cast_sound s p t x u (type_sound s w g0) (value_sound s w g1 b) g2
  typed_sound s w (good.size_of g0 g1) b = (tt, refl)

  pub value_sound : (s : Scene) {c : Ctx} {ts us : List Text} {e : ExprT} {x : TExprT} → Within c s → Values c ts e x us → Begins us s.literals → IsTypedValue s x
  value_sound s {c = c} w (good.value {e = e} {x = x} g0 g1) b = record { typed = typed_sound s w g0 b; value = value_later w.grows (type_of_typed x) (node_answer (span_of e) (value_rule c.layouts c.whole (type_of_typed x)) tt g1) }

  used_sound : (s : Scene) {c : Ctx} {ts us : List Text} {kept : Bool} {e : ExprT} {x : TExprT} → Within c s → Used c ts kept e x us → Begins us s.literals → IsTypedUsed s kept x
  used_sound s w (good.as_place g0) b = record { typed = typed_sound s w g0 b; used = tt }
  used_sound s w (good.by_value {x = x} g0) b = used_value s x (value_sound s w g0 b)

  all_sound : (s : Scene) {c : Ctx} {ts us : List Text} {named : Bool} {es : ExprTs} {xs : TExprTs} → Within c s → AllValues c ts named es xs us → Begins us s.literals → AreValues s xs
  all_sound s w good.none b = tt
  all_sound s w (good.port g0) b = all_sound s w g0 b
  all_sound s w (good.more {us = us} {vs = vs} {x = x} {xs = xs} g0 g1) b = more_values s x xs (value_sound s w g0 (begins_through us vs s.literals (all_begins g1) b)) (all_sound s w g1 b)
