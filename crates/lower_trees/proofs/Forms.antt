-- What is added operand by operand for an expression is what is told of its form.
use Rattle.std.proofs.Common.{◌≡◌, ℕ, ◌+◌, arith, Bool, false, List, [], ◌∷◌, ◌++◌, length, map, Option, Some, None, refl, sym, ap, ◌∙◌, subst, append_assoc}
use Rattle.std.specs.Prelude.{Result, OnOk, Ok, Err}
use Rattle.c_tree.specs.declared.operator.BinOp.{BinOp}
use Rattle.c_types.specs.Types.{Ty}
use Rattle.c_types.specs.Typed.{TExprT, TKindT, BinaryK, AssignK, IndexK, MemberK}
use Rattle.c_types.specs.View.{ctype}
use Rattle.c_exprs.specs.Nodes.{is_place}
use Rattle.c_meaning.specs.Kinds.{type_of}
use Rattle.mid_code.specs.declared.node.Op.TheVariants as o
use Rattle.mid_code.specs.Functions.{DoN, node}
use Rattle.lower_trees.specs.declared.operands.First.{First}
use Rattle.lower_trees.specs.declared.output.Output.{Output}
use Rattle.lower_trees.specs.Shape.{Shape, words}
use Rattle.lower_trees.specs.Flags.{is_flag, tests_flag}
use Rattle.lower_trees.specs.Counts.{temps, value_temps, temps_of, size_temps, sizes, value_sizes, sizes_of}
use Rattle.lower_trees.specs.Pieces.{listing, ◌▸◌, DoP}
use Rattle.lower_trees.specs.Parts.{moved_by, as_flag, converted, stored, stepped, operated}
use Rattle.lower_trees.specs.Expressions.{second, beyond, behind_place, member_of, low, low_kind, low_value, low_test, lazy_of, lazy_choice, binary_by}
use Rattle.lower_trees.specs.inner.Adding.{AddsNodes, Takes}
use Rattle.lower_trees.specs.inner.Operands.{assigned_at, assigned}
use Rattle.lower_trees.proofs.Adding.{then_more}

-- what holds of what was done, where it was done
pub on_ok : {A B : Type 0} {P Q : Type 0} (r : Result A B) → (P → Q) → OnOk r P → OnOk r Q
on_ok (Ok a) f p = f p
on_ok (Err b) f p = p

three : {A : Type 0} (l a b c : List A) → l ++ a ++ b ++ c ≡ l ++ (a ++ b ++ c)
three l a b c = ap (λ z. z ++ c) (append_assoc l a b) ∙ append_assoc l (a ++ b) c

four : {A : Type 0} (l a b c d : List A) → l ++ (a ++ b ++ c ++ d) ≡ l ++ a ++ b ++ c ++ d
four l a b c d = sym (append_assoc l (a ++ b ++ c) d) ∙ ap (λ z. z ++ d) (sym (three l a b c))

five : {A : Type 0} (l a b c d e : List A) → l ++ a ++ b ++ c ++ d ++ e ≡ l ++ (a ++ b ++ c ++ d ++ e)
five l a b c d e = ap (λ z. z ++ d ++ e) (three l a b c) ∙ ap (λ z. z ++ e) (append_assoc l (a ++ b ++ c) d) ∙ append_assoc l (a ++ b ++ c ++ d) e

pub member_adds : (h : Shape) (k : TKindT) (x : TExprT) (offset : ℕ) (ty : Ty) (t r : ℕ) (old mid new : Output) → k ≡ MemberK x offset → r ≡ old.next → Takes old mid 1
    → AddsNodes mid new (λ n m. listing (low h x r n m ▸ (moved_by t r offset ▸ member_of (is_place x) ty t))) (temps x) (sizes h x)
    → AddsNodes old new (λ n m. listing (low_kind h k ty t n m)) (temps_of k ty) (sizes_of h k)
member_adds h k x offset ty t r old mid new e er taken p =
    let n = old.next in
    let before = taken.next in
    let own = p.next in
    let all : AddsNodes old new (λ n m. listing (low_kind h (MemberK x offset) ty t n m)) (temps_of (MemberK x offset) ty) (sizes_of h (MemberK x offset)) = record {
      nodes = p.nodes ∙ (λ i. map node (taken.nodes i).items ++ (listing (low h x (er i) (taken.next i) (length (taken.locals i).items)) ++ (listing (moved_by t (er i) offset) ++ listing (member_of (is_place x) ty t))))
          ∙ ap (λ z. map node old.nodes.items ++ z) (sym (append_assoc (listing (low h x n (n + 1) (length old.locals.items))) (listing (moved_by t n offset)) (listing (member_of (is_place x) ty t))));
      locals = p.locals ∙ ap (λ v. v.items ++ sizes h x) taken.locals;
      next = omega (arith, before, own);
    } in
    subst (λ z. AddsNodes old new (λ n m. listing (low_kind h z ty t n m)) (temps_of z ty) (sizes_of h z)) (sym e) all

pub index_adds : (h : Shape) (k : TKindT) (x y : TExprT) (ty : Ty) (t w : ℕ) (old mid new : Output) → k ≡ IndexK x y → w ≡ old.next
    → AddsNodes old mid (λ n m. listing (low_value h x n (n + 1) m)) (value_temps x + 1) (value_sizes h x)
    → AddsNodes mid new (λ n m. listing (low_value h y n (n + 1) m ▸ stepped (words h ty) t w n (second y n))) (value_temps y + 1 + size_temps ty) (value_sizes h y)
    → AddsNodes old new (λ n m. listing (low_kind h k ty t n m)) (temps_of k ty) (sizes_of h k)
index_adds h k x y ty t w old mid new e ew p q =
    let n = old.next in
    let m = length old.locals.items in
    let u : n + (value_temps x + 1) ≡ second x n = omega arith in
    let count : value_temps x + 1 + (value_temps y + 1 + size_temps ty) ≡ temps_of (IndexK x y) ty = omega arith in
    subst (λ z. AddsNodes old new (λ n m. listing (low_kind h z ty t n m)) (temps_of z ty) (sizes_of h z)) (sym e) (then_more p q count refl
    ((λ i. listing (low_value h x n (n + 1) m) ++ (listing (low_value h y (u i) (u i + 1) (beyond h x m)) ++ listing (stepped (words h ty) t (ew i) (u i) (second y (u i)))))
    ∙ sym (append_assoc (listing (low_value h x n (n + 1) m)) (listing (low_value h y (second x n) (second x n + 1) (beyond h x m))) (listing (stepped (words h ty) t n (second x n) (second y (second x n)))))))

pub binary_adds : (h : Shape) (k : TKindT) (op : BinOp) (x y : TExprT) (of ty : Ty) (t w : ℕ) (old mid new : Output) → k ≡ BinaryK op x y → lazy_of op ≡ None → of ≡ type_of x → w ≡ old.next
    → AddsNodes old mid (λ n m. listing (low_value h x n (n + 1) m)) (value_temps x + 1) (value_sizes h x)
    → AddsNodes mid new (λ n m. listing (low_value h y n (n + 1) m ▸ operated h op of (type_of y) t w n (second y n))) (value_temps y + 1 + 1) (value_sizes h y)
    → AddsNodes old new (λ n m. listing (low_kind h k ty t n m)) (temps_of k ty) (sizes_of h k)
binary_adds h k op x y of ty t w old mid new e none ex ew p q =
    let n = old.next in
    let m = length old.locals.items in
    let u : n + (value_temps x + 1) ≡ second x n = omega arith in
    let count : value_temps x + 1 + (value_temps y + 1 + 1) ≡ temps_of (BinaryK op x y) ty = omega arith in
    let all : AddsNodes old new (λ n m. listing (binary_by None h op x y (low h x) (low h y) t n m)) (temps_of (BinaryK op x y) ty) (sizes_of h (BinaryK op x y)) = then_more p q count refl
    ((λ i. listing (low_value h x n (n + 1) m) ++ (listing (low_value h y (u i) (u i + 1) (beyond h x m)) ++ listing (operated h op (ex i) (type_of y) t (ew i) (u i) (second y (u i)))))
    ∙ sym (append_assoc (listing (low_value h x n (n + 1) m)) (listing (low_value h y (second x n) (second x n + 1) (beyond h x m))) (listing (operated h op (type_of x) (type_of y) t n (second x n) (second y (second x n)))))) in
    subst (λ z. AddsNodes old new (λ n m. listing (low_kind h z ty t n m)) (temps_of z ty) (sizes_of h z)) (sym e)
    (subst (λ z. AddsNodes old new (λ n m. listing (binary_by z h op x y (low h x) (low h y) t n m)) (temps_of (BinaryK op x y) ty) (sizes_of h (BinaryK op x y))) (sym none) all)

pub lazy_adds : (h : Shape) (k : TKindT) (op : BinOp) (and : Bool) (x y : TExprT) (ty : Ty) (t : ℕ) (old mid new : Output) → k ≡ BinaryK op x y → lazy_of op ≡ Some and
    → AddsNodes old mid (λ n m. listing (low_test h x t n m)) (value_temps x) (value_sizes h x)
    → AddsNodes mid new (λ n m. listing (lazy_choice and t (low_test h y t (n + 1) m ▸ as_flag (tests_flag y) t))) (value_temps y + 3) (value_sizes h y)
    → AddsNodes old new (λ n m. listing (low_kind h k ty t n m)) (temps_of k ty) (sizes_of h k)
lazy_adds h k op and x y ty t old mid new e some p q =
    let n = old.next in
    let m = length old.locals.items in
    let u : n + value_temps x + 1 ≡ second x n = omega arith in
    let count : value_temps x + (value_temps y + 3) ≡ temps_of (BinaryK op x y) ty = omega arith in
    let all : AddsNodes old new (λ n m. listing (binary_by (Some and) h op x y (low h x) (low h y) t n m)) (temps_of (BinaryK op x y) ty) (sizes_of h (BinaryK op x y)) = then_more p q count refl
    (λ i. listing (low_test h x t n m) ++ listing (lazy_choice and t (low_test h y t (u i) (beyond h x m) ▸ as_flag (tests_flag y) t))) in
    subst (λ z. AddsNodes old new (λ n m. listing (low_kind h z ty t n m)) (temps_of z ty) (sizes_of h z)) (sym e)
    (subst (λ z. AddsNodes old new (λ n m. listing (binary_by z h op x y (low h x) (low h y) t n m)) (temps_of (BinaryK op x y) ty) (sizes_of h (BinaryK op x y))) (sym some) all)

assign_adds : (h : Shape) (k : TKindT) (x y : TExprT) (of ty : Ty) (t w : ℕ) (old mid new : Output) → k ≡ AssignK None x y → of ≡ type_of x → w ≡ old.next
    → AddsNodes old mid (λ n m. listing (low h x n (n + 1) m)) (temps x + 1) (sizes h x)
    → AddsNodes mid new (λ n m. listing (low_value h y t (n + 2) m ▸ converted of (is_flag y) t ▸ stored h of w t)) (value_temps y + 2 + 0) (value_sizes h y)
    → AddsNodes old new (λ n m. listing (low_kind h k ty t n m)) (temps_of k ty) (sizes_of h k)
assign_adds h k x y of ty t w old mid new e ex ew p q =
    let n = old.next in
    let m = length old.locals.items in
    let u : n + (temps x + 1) ≡ behind_place x n = omega arith in
    let count : temps x + 1 + (value_temps y + 2 + 0) ≡ temps_of (AssignK None x y) ty = omega arith in
    subst (λ z. AddsNodes old new (λ n m. listing (low_kind h z ty t n m)) (temps_of z ty) (sizes_of h z)) (sym e) (then_more p q count refl
    ((λ i. listing (low h x n (n + 1) m) ++ (listing (low_value h y t (u i + 2) (m + length (sizes h x))) ++ listing (converted (ex i) (is_flag y) t) ++ listing (stored h (ex i) (ew i) t)))
    ∙ sym (three (listing (low h x n (n + 1) m)) (listing (low_value h y t (behind_place x n + 2) (m + length (sizes h x)))) (listing (converted (type_of x) (is_flag y) t)) (listing (stored h (type_of x) n t)))))

compound_adds : (h : Shape) (k : TKindT) (op : BinOp) (x y : TExprT) (of ty : Ty) (t w : ℕ) (old mid new : Output) → k ≡ AssignK (Some op) x y → of ≡ type_of x → w ≡ old.next
    → AddsNodes old mid (λ n m. listing (low h x n (n + 1) m)) (temps x + 1) (sizes h x)
    → AddsNodes mid new (λ n m. listing (low_value h y n (n + 2) m ▸ DoP (o.Load t w) ▸ operated h op of (type_of y) t t n (n + 1) ▸ converted of false t ▸ DoP (o.Store w t))) (value_temps y + 2 + 0) (value_sizes h y)
    → AddsNodes old new (λ n m. listing (low_kind h k ty t n m)) (temps_of k ty) (sizes_of h k)
compound_adds h k op x y of ty t w old mid new e ex ew p q =
    let n = old.next in
    let m = length old.locals.items in
    let u : n + (temps x + 1) ≡ behind_place x n = omega arith in
    let count : temps x + 1 + (value_temps y + 2 + 0) ≡ temps_of (AssignK (Some op) x y) ty = omega arith in
    let from = behind_place x n in
    subst (λ z. AddsNodes old new (λ n m. listing (low_kind h z ty t n m)) (temps_of z ty) (sizes_of h z)) (sym e) (then_more p q count refl
    ((λ i. listing (low h x n (n + 1) m) ++ (listing (low_value h y (u i) (u i + 2) (m + length (sizes h x))) ++ (DoN (o.Load t (ew i)) ∷ []) ++ listing (operated h op (ex i) (type_of y) t t (u i) (u i + 1)) ++ listing (converted (ex i) false t) ++ (DoN (o.Store (ew i) t) ∷ [])))
    ∙ sym (five (listing (low h x n (n + 1) m)) (listing (low_value h y from (from + 2) (m + length (sizes h x)))) (DoN (o.Load t n) ∷ []) (listing (operated h op (type_of x) (type_of y) t t from (from + 1))) (listing (converted (type_of x) false t)) (DoN (o.Store n t) ∷ []))))

pub assignment_adds : (h : Shape) (k : TKindT) (op : Option BinOp) (x y : TExprT) (f : First) (ty : Ty) (t : ℕ) (old mid new : Output) → k ≡ AssignK op x y → ctype f.ty.now ≡ type_of x → f.temporary ≡ old.next
    → AddsNodes old mid (λ n m. listing (low h x n (n + 1) m)) (temps x + 1) (sizes h x)
    → AddsNodes mid new (λ n m. listing (low_value h y (assigned_at op t n) (n + 2) m ▸ assigned h op f y t n)) (value_temps y + 2 + 0) (value_sizes h y)
    → AddsNodes old new (λ n m. listing (low_kind h k ty t n m)) (temps_of k ty) (sizes_of h k)
assignment_adds h k None x y f ty t old mid new e ex ew p q = assign_adds h k x y (ctype f.ty.now) ty t f.temporary old mid new e ex ew p (grouped q)
  where
    grouped : AddsNodes mid new (λ n m. listing (low_value h y t (n + 2) m ▸ (converted (ctype f.ty.now) (is_flag y) t ▸ stored h (ctype f.ty.now) f.temporary t))) (value_temps y + 2 + 0) (value_sizes h y)
        → AddsNodes mid new (λ n m. listing (low_value h y t (n + 2) m ▸ converted (ctype f.ty.now) (is_flag y) t ▸ stored h (ctype f.ty.now) f.temporary t)) (value_temps y + 2 + 0) (value_sizes h y)
    grouped q = record { nodes = q.nodes ∙ ap (λ z. map node mid.nodes.items ++ z) (sym (append_assoc (listing (low_value h y t (mid.next + 2) (length mid.locals.items))) (listing (converted (ctype f.ty.now) (is_flag y) t)) (listing (stored h (ctype f.ty.now) f.temporary t)))); locals = q.locals; next = q.next }
assignment_adds h k (Some op) x y f ty t old mid new e ex ew p q = compound_adds h k op x y (ctype f.ty.now) ty t f.temporary old mid new e ex ew p (grouped q)
  where
    grouped : AddsNodes mid new (λ n m. listing (low_value h y n (n + 2) m ▸ (DoP (o.Load t f.temporary) ▸ operated h op (ctype f.ty.now) (type_of y) t t n (n + 1) ▸ converted (ctype f.ty.now) false t ▸ DoP (o.Store f.temporary t)))) (value_temps y + 2 + 0) (value_sizes h y)
        → AddsNodes mid new (λ n m. listing (low_value h y n (n + 2) m ▸ DoP (o.Load t f.temporary) ▸ operated h op (ctype f.ty.now) (type_of y) t t n (n + 1) ▸ converted (ctype f.ty.now) false t ▸ DoP (o.Store f.temporary t))) (value_temps y + 2 + 0) (value_sizes h y)
    grouped q =
        let n = mid.next in
        record { nodes = q.nodes ∙ ap (λ z. map node mid.nodes.items ++ z) (four (listing (low_value h y n (n + 2) (length mid.locals.items))) (DoN (o.Load t f.temporary) ∷ []) (listing (operated h op (ctype f.ty.now) (type_of y) t t n (n + 1))) (listing (converted (ctype f.ty.now) false t)) (DoN (o.Store f.temporary t) ∷ [])); locals = q.locals; next = q.next }
