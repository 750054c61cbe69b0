-- Forms of expressions add no call and no loop to those of their parts.
use Rattle.std.proofs.Common.{◌≡◌, ℕ, zero, ◌+◌, ◌⊎◌, inl, inr, arith, refl, ◌∙◌, Bool, true, false, ◌&&◌, List, [], ◌∷◌, Option, Some, None}
use Rattle.c_tree.specs.declared.operator.UnOp.{UnOp}
use Rattle.c_tree.specs.declared.operator.UnOp.TheVariants as un
use Rattle.c_tree.specs.declared.operator.BinOp.{BinOp}
use Rattle.c_tree.specs.declared.operator.BinOp.TheVariants as bin
use Rattle.c_tree.specs.declared.operator.StepOp.{StepOp}
use Rattle.c_tree.specs.declared.operator.StepOp.TheVariants.{PreUp, PreDown, PostUp, PostDown}
use Rattle.c_types.specs.Types.{Ty, VoidY, IntY, BoolY, EnumY, StructY, UnionY, PointerY, ArrayY}
use Rattle.c_types.specs.Typed.{TExprT}
use Rattle.c_rules.specs.Nodes.{needs_place}
use Rattle.c_exprs.specs.Nodes.{is_place}
use Rattle.c_meaning.specs.Kinds.{type_of}
use Rattle.c_types.specs.Kinds.{is_structure, decayed, pointed}
use Rattle.mid_code.specs.Code.{ConstO, LoadO, Stop, Do, Choose, Block}
use Rattle.lower_trees.specs.Shape.{Shape, words}
use Rattle.lower_trees.specs.Flags.{is_flag, tests_flag}
use Rattle.lower_trees.specs.Pieces.{Nodes, coded}
use Rattle.lower_trees.specs.Parts.{as_flag, stored, operated}
use Rattle.lower_trees.specs.Expressions.{Low, read, value_of, value, test, unary, second, beyond, size_at, binary, behind_place, assign, step_made, stepped_to, step_taken, index, member_of, called, converted_to, counts_up}
use Rattle.mid_lower.specs.SourceLoops.{reads}
use Rattle.mid_lower.proofs.Tallies.{Counting, tally, one_is, Spared, either_tally, local_tally, flag_tally, converted_tally, stepped_tally, operated_tally, more_tally, less_tally, tested_tally, negated_tally, stored_tally}

module _ (k : Counting) where
  -- a part that adds none
  abbrev pub Quiet : Low → Type 0
  Quiet part = (t n m : ℕ) (c : Nodes) → tally k (coded (part t n m) c) ≡ tally k c

  -- loops do not count, or no structure is read from a place
  abbrev pub Unread : TExprT → Type 0
  Unread x = (k.loop ≡ 0) ⊎ (reads x ≡ 0)

  pub scalar_unread : (x : TExprT) → is_structure (type_of x) ≡ false → Unread x
  scalar_unread x s = inr (rw s refl)

  -- ---- values

  read_quiet : (h : Shape) (ty : Ty) (local : ℕ) (part : Low) → Spared k (is_structure ty) → Quiet part → Quiet (read h ty local part)
  read_quiet h (ArrayY of len) local part s p t n m c = p t n m c
  read_quiet h VoidY local part s p t n m c = p t n m c
  read_quiet h IntY local part s p t n m c = p n (n + 1) m (Do (LoadO t n) c)
  read_quiet h BoolY local part s p t n m c = p n (n + 1) m (Do (LoadO t n) c)
  read_quiet h (EnumY number) local part s p t n m c = p n (n + 1) m (Do (LoadO t n) c)
  read_quiet h (PointerY of) local part s p t n m c = p n (n + 1) m (Do (LoadO t n) c)
  read_quiet h (StructY number) local part (inl e) p t n m c = p t n m _ ∙ local_tally k (words h (StructY number)) local t c e
  read_quiet h (StructY number) local part (inr s) p t n m c = cc
  read_quiet h (UnionY number) local part (inl e) p t n m c = p t n m _ ∙ local_tally k (words h (UnionY number)) local t c e
  read_quiet h (UnionY number) local part (inr s) p t n m c = cc

  and_true : (a : Bool) → Spared k (a && true) → Spared k a
  and_true a (inl e) = inl e
  and_true true (inr e) = inr e
  and_true false (inr e) = inr refl

  value_of_quiet : (h : Shape) (place : Bool) (ty : Ty) (local : ℕ) (part : Low) → Spared k (is_structure ty && place) → Quiet part → Quiet (value_of h place ty local part)
  value_of_quiet h true ty local part s p t n m c = read_quiet h ty local part (and_true (is_structure ty) s) p t n m c
  value_of_quiet h false ty local part s p t n m c = p t n m c

  pub value_quiet : (h : Shape) (x : TExprT) (part : Low) → Unread x → Quiet part → Quiet (value h x part)
  value_quiet h x part (inl e) p t n m c = value_of_quiet h (is_place x) (type_of x) _ part (inl e) p t n m c
  value_quiet h x part (inr u) p t n m c = value_of_quiet h (is_place x) (type_of x) _ part (inr (one_is (is_structure (type_of x) && is_place x) u)) p t n m c

  pub test_quiet : (h : Shape) (x : TExprT) (part : Low) → Unread x → Quiet part → Quiet (test h x part)
  test_quiet h x part u p t n m c = value_quiet h x part u p t n m _ ∙ tested_tally k (decayed (type_of x)) t c

  -- ---- operators

  pub unary_quiet : (h : Shape) (op : UnOp) (x : TExprT) (part : Low) → (needs_place op ≡ false → Unread x) → Quiet part → Quiet (unary h op x part)
  unary_quiet h un.Deref x part u p t n m c = value_quiet h x part (u refl) p t n m c
  unary_quiet h un.Address x part u p t n m c = p t n m c
  unary_quiet h un.Not x part u p t n m c = value_quiet h x part (u refl) p t n m _ ∙ negated_tally k (decayed (type_of x)) t c
  unary_quiet h un.Minus x part u p t n m c = value_quiet h x part (u refl) p t n m _
  unary_quiet h un.Plus x part u p t n m c = value_quiet h x part (u refl) p t n m c
  unary_quiet h un.Flip x part u p t n m c = value_quiet h x part (u refl) p t n m _

  plain_quiet : (h : Shape) (op : BinOp) (x y : TExprT) (first last : Low) → Unread x → Unread y → Quiet first → Quiet last → (t n m : ℕ) (c : Nodes)
      → tally k (coded (value h x first n (n + 1) m) (coded (value h y last (second x n) (second x n + 1) (beyond h x m)) (coded (operated h op (type_of x) (type_of y) t n (second x n) (size_at x y n)) c))) ≡ tally k c
  plain_quiet h op x y first last u v p q t n m c =
      value_quiet h x first u p n (n + 1) m _ ∙ (value_quiet h y last v q (second x n) (second x n + 1) (beyond h x m) _ ∙ operated_tally k h op (type_of x) (type_of y) t n (second x n) (size_at x y n) c)

  inner_quiet : (h : Shape) (y : TExprT) (last : Low) → Unread y → Quiet last → (t n m : ℕ) → tally k (coded (test h y last t n m) (coded (as_flag (tests_flag y) t) Stop)) ≡ zero
  inner_quiet h y last v q t n m = test_quiet h y last v q t n m _ ∙ flag_tally k (tests_flag y) t Stop

  pub choose_quiet : (t : ℕ) (a b c : Nodes) → tally k a ≡ zero → tally k b ≡ zero → tally k (Choose t a b c) ≡ tally k c
  choose_quiet t a b c e f = omega (arith, e, f)

  pub block_quiet : (b c : Nodes) → tally k b ≡ zero → tally k (Block b c) ≡ tally k c
  block_quiet b c e = omega (arith, e)

  pub binary_quiet : (h : Shape) (op : BinOp) (x y : TExprT) (first last : Low) → Unread x → Unread y → Quiet first → Quiet last → Quiet (binary h op x y first last)
  binary_quiet h bin.AndAlso x y first last u v p q t n m c =
      test_quiet h x first u p t n m _ ∙ choose_quiet t (coded (test h y last t (second x n) (beyond h x m)) (coded (as_flag (tests_flag y) t) Stop)) (Do (ConstO t 0) Stop) c (inner_quiet h y last v q t (second x n) (beyond h x m)) refl
  binary_quiet h bin.OrElse x y first last u v p q t n m c =
      test_quiet h x first u p t n m _ ∙ choose_quiet t (Do (ConstO t 1) Stop) (coded (test h y last t (second x n) (beyond h x m)) (coded (as_flag (tests_flag y) t) Stop)) c refl (inner_quiet h y last v q t (second x n) (beyond h x m))
  binary_quiet h bin.Mul x y first last u v p q t n m c = plain_quiet h bin.Mul x y first last u v p q t n m c
  binary_quiet h bin.Div x y first last u v p q t n m c = plain_quiet h bin.Div x y first last u v p q t n m c
  binary_quiet h bin.Mod x y first last u v p q t n m c = plain_quiet h bin.Mod x y first last u v p q t n m c
  binary_quiet h bin.Add x y first last u v p q t n m c = plain_quiet h bin.Add x y first last u v p q t n m c
  binary_quiet h bin.Sub x y first last u v p q t n m c = plain_quiet h bin.Sub x y first last u v p q t n m c
  binary_quiet h bin.Shl x y first last u v p q t n m c = plain_quiet h bin.Shl x y first last u v p q t n m c
  binary_quiet h bin.Shr x y first last u v p q t n m c = plain_quiet h bin.Shr x y first last u v p q t n m c
  binary_quiet h bin.Less x y first last u v p q t n m c = plain_quiet h bin.Less x y first last u v p q t n m c
  binary_quiet h bin.LessEq x y first last u v p q t n m c = plain_quiet h bin.LessEq x y first last u v p q t n m c
  binary_quiet h bin.More x y first last u v p q t n m c = plain_quiet h bin.More x y first last u v p q t n m c
  binary_quiet h bin.MoreEq x y first last u v p q t n m c = plain_quiet h bin.MoreEq x y first last u v p q t n m c
  binary_quiet h bin.Equal x y first last u v p q t n m c = plain_quiet h bin.Equal x y first last u v p q t n m c
  binary_quiet h bin.NotEqual x y first last u v p q t n m c = plain_quiet h bin.NotEqual x y first last u v p q t n m c
  binary_quiet h bin.BitAnd x y first last u v p q t n m c = plain_quiet h bin.BitAnd x y first last u v p q t n m c
  binary_quiet h bin.BitXor x y first last u v p q t n m c = plain_quiet h bin.BitXor x y first last u v p q t n m c
  binary_quiet h bin.BitOr x y first last u v p q t n m c = plain_quiet h bin.BitOr x y first last u v p q t n m c

  pub assign_quiet : (h : Shape) (op : Option BinOp) (x y : TExprT) (first last : Low) → Spared k (is_structure (type_of x)) → Unread y → Quiet first → Quiet last → Quiet (assign h op x y first last)
  assign_quiet h None x y first last s v p q t n m c =
      p n (n + 1) m _ ∙ (value_quiet h y last v q t (behind_place x n + 2) _ _ ∙ (converted_tally k (type_of x) (is_flag y) t (coded (stored h (type_of x) n t) c) ∙ stored_tally k h (type_of x) n t c s))
  assign_quiet h (Some op) x y first last s v p q t n m c =
      p n (n + 1) m _ ∙ (value_quiet h y last v q (behind_place x n) (behind_place x n + 2) _ _ ∙ (operated_tally k h op (type_of x) (type_of y) t t (behind_place x n) (behind_place x n + 1) _ ∙ converted_tally k (type_of x) false t _))

  step_made_tally : (h : Shape) (op : StepOp) (ty : Ty) (new old by : ℕ) (c : Nodes) → tally k (coded (step_made h (counts_up op) ty new old by) c) ≡ tally k c
  step_made_tally h PreUp ty new old by c = more_tally k h (pointed (decayed ty)) new old by c
  step_made_tally h PostUp ty new old by c = more_tally k h (pointed (decayed ty)) new old by c
  step_made_tally h PreDown ty new old by c = less_tally k h (pointed (decayed ty)) new old by c
  step_made_tally h PostDown ty new old by c = less_tally k h (pointed (decayed ty)) new old by c

  stepped_to_tally : (h : Shape) (op : StepOp) (x : TExprT) (new old place : ℕ) (c : Nodes) → tally k (coded (stepped_to h (counts_up op) (type_of x) new old place) c) ≡ tally k c
  stepped_to_tally h op x new old place c = step_made_tally h op (type_of x) new old (place + 1) _ ∙ converted_tally k (type_of x) false new _

  pub step_quiet : (h : Shape) (op : StepOp) (x : TExprT) (part : Low) → Quiet part → Quiet (step_taken h op x part)
  step_quiet h PreUp x part p t n m c = p n (n + 2) m _ ∙ stepped_to_tally h PreUp x t t n c
  step_quiet h PreDown x part p t n m c = p n (n + 2) m _ ∙ stepped_to_tally h PreDown x t t n c
  step_quiet h PostUp x part p t n m c = p n (n + 2) m _ ∙ stepped_to_tally h PostUp x (n + 1) t n c
  step_quiet h PostDown x part p t n m c = p n (n + 2) m _ ∙ stepped_to_tally h PostDown x (n + 1) t n c

  -- ---- elements, members and calls

  pub index_quiet : (h : Shape) (ty : Ty) (x y : TExprT) (first last : Low) → Unread x → Unread y → Quiet first → Quiet last → Quiet (index h ty x y first last)
  index_quiet h ty x y first last u v p q t n m c =
      value_quiet h x first u p n (n + 1) m _ ∙ (value_quiet h y last v q (second x n) (second x n + 1) (beyond h x m) _ ∙ stepped_tally k (words h ty) t n (second x n) (size_at x y n) c)

  pub member_tally : (place : Bool) (ty : Ty) (t : ℕ) (c : Nodes) → tally k (coded (member_of place ty t) c) ≡ tally k c
  member_tally true ty t c = refl
  member_tally false ty t c = either_tally k (is_structure ty) _ _ (tally k c) refl refl

  pub called_tally : (ty : Ty) (f local t : ℕ) (args : List ℕ) (c : Nodes) → k.call f ≡ 0 → tally k (coded (called ty f local t args) c) ≡ tally k c
  called_tally ty f local t args c e = either_tally k (is_structure ty) _ _ (tally k c) (omega (arith, e)) (omega (arith, e))

  pub given_tally : (tys : List Ty) (known : Bool) (t : ℕ) (c : Nodes) → tally k (coded (converted_to tys known t) c) ≡ tally k c
  given_tally [] known t c = refl
  given_tally (ty ∷ tys) known t c = converted_tally k ty known t c
