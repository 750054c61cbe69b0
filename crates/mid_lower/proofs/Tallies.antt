-- The loops and the calls of code are counted; most parts of lowered code have none.
use Rattle.std.proofs.Common.{◌≡◌, ℕ, zero, suc, ◌+◌, ◌≤◌, ◌⊎◌, inl, inr, arith, refl, Bool, true, false, List, [], ◌∷◌, Option, Some, None, if◌then◌else◌, ◌==◌}
use Rattle.std.proofs.lemmas.Bool.Decides.{nat_tests}
use Rattle.c_tree.specs.declared.operator.BinOp.{BinOp}
use Rattle.c_tree.specs.declared.operator.BinOp.TheVariants as bin
use Rattle.c_types.specs.Types.{Ty, VoidY, IntY, BoolY, EnumY, StructY, UnionY, PointerY, ArrayY}
use Rattle.c_types.specs.Kinds.{is_structure, decayed, pointed, is_pointer}
use Rattle.mid_code.specs.Code.{LocalO, Stop, Do, Call, Choose, Block, Loop, Leave, Again, Return}
use Rattle.mid_code.specs.Calls.{loops, CallsTo}
use Rattle.lower_trees.specs.Shape.{Shape, words}
use Rattle.lower_trees.specs.Pieces.{Nodes, coded}
use Rattle.lower_trees.specs.Parts.{copied, copied_between, copied_on, local_filled, zeroed, as_flag, converted, stored, with_word, stepped, with_pointer, operated_on, operated, one_more, one_less, tested_as, negated_as, made}

-- how much a call of each function counts, and how much a loop
pub record Counting : Type 0 where
  pub call : ℕ → ℕ
  pub loop : ℕ

abbrev pub tally : Counting → Nodes → ℕ
tally k Stop = 0
tally k (Do o c) = tally k c
tally k (Call t f args c) = k.call f + tally k c
tally k (Choose p a b c) = tally k a + (tally k b + tally k c)
tally k (Block b c) = tally k b + tally k c
tally k (Loop b c) = k.loop + (tally k b + tally k c)
tally k (Leave j c) = tally k c
tally k (Again j c) = tally k c
tally k (Return p c) = tally k c

-- ---- loops alone, and the calls of one function alone

abbrev pub of_loops : Counting
of_loops = record { call = λ f. 0; loop = 1 }

abbrev pub of_calls : ℕ → Counting
of_calls f = record { call = λ g. if g == f then 1 else 0; loop = 0 }

pub loops_counted : (c : Nodes) → loops c ≡ tally of_loops c
loops_counted Stop = refl
loops_counted (Do o c) = loops_counted c
loops_counted (Call t f args c) = omega (arith, loops_counted c)
loops_counted (Choose p a b c) = omega (arith, loops_counted a, loops_counted b, loops_counted c)
loops_counted (Block b c) = omega (arith, loops_counted b, loops_counted c)
loops_counted (Loop b c) = omega (arith, loops_counted b, loops_counted c)
loops_counted (Leave j c) = loops_counted c
loops_counted (Again j c) = loops_counted c
loops_counted (Return p c) = loops_counted c

same_counts : (f g : ℕ) → g ≡ f → (of_calls f).call g ≡ 1
same_counts f g e = grind (arith, nat_tests, e)

pub calls_counted : (f : ℕ) (c : Nodes) → CallsTo f c → 1 ≤ tally (of_calls f) c
calls_counted f Stop h = absurd h
calls_counted f (Do o c) h = calls_counted f c h
calls_counted f (Call t g args c) (inl e) = omega (arith, same_counts f g e)
calls_counted f (Call t g args c) (inr h) = omega (arith, calls_counted f c h)
calls_counted f (Choose p a b c) (inl h) = omega (arith, calls_counted f a h)
calls_counted f (Choose p a b c) (inr (inl h)) = omega (arith, calls_counted f b h)
calls_counted f (Choose p a b c) (inr (inr h)) = omega (arith, calls_counted f c h)
calls_counted f (Block b c) (inl h) = omega (arith, calls_counted f b h)
calls_counted f (Block b c) (inr h) = omega (arith, calls_counted f c h)
calls_counted f (Loop b c) (inl h) = omega (arith, calls_counted f b h)
calls_counted f (Loop b c) (inr h) = omega (arith, calls_counted f c h)
calls_counted f (Leave j c) h = calls_counted f c h
calls_counted f (Again j c) h = calls_counted f c h
calls_counted f (Return p c) h = calls_counted f c h

-- ---- parts that have none

pub one_is : (b : Bool) → (if b then 1 else 0) ≡ zero → b ≡ false
one_is true e = absurd (omega (arith, e))
one_is false e = refl

module _ (k : Counting) where
  -- loops do not count, or there is none because this does not hold
  abbrev pub Spared : Bool → Type 0
  Spared b = (k.loop ≡ 0) ⊎ (b ≡ false)

  pub either_tally : (b : Bool) (x y : Nodes) (n : ℕ) → tally k x ≡ n → tally k y ≡ n → tally k (if b then x else y) ≡ n
  either_tally true x y n p q = p
  either_tally false x y n p q = q

  pub copied_tally : (size : ℕ) (c : Nodes) → k.loop ≡ 0 → tally k (coded (copied size) c) ≡ tally k c
  copied_tally zero c e = refl
  copied_tally (suc left) c e = omega (arith, e)

  pub between_tally : (size p q : ℕ) (c : Nodes) → k.loop ≡ 0 → tally k (coded (copied_between size p q) c) ≡ tally k c
  between_tally zero p q c e = refl
  between_tally (suc zero) p q c e = refl
  between_tally (suc (suc zero)) p q c e = omega (arith, e)
  between_tally (suc (suc (suc left))) p q c e = copied_tally (suc (suc (suc left))) c e

  pub copied_on_tally : (size p : ℕ) (c : Nodes) → k.loop ≡ 0 → tally k (coded (copied_on size p) c) ≡ tally k c
  copied_on_tally zero p c e = refl
  copied_on_tally (suc zero) p c e = refl
  copied_on_tally (suc (suc zero)) p c e = omega (arith, e)
  copied_on_tally (suc (suc (suc left))) p c e = copied_tally (suc (suc (suc left))) c e

  pub local_tally : (size local t : ℕ) (c : Nodes) → k.loop ≡ 0 → tally k (coded (local_filled size local t) c) ≡ tally k c
  local_tally zero local t c e = refl
  local_tally (suc zero) local t c e = refl
  local_tally (suc (suc zero)) local t c e = omega (arith, e)
  local_tally (suc (suc (suc left))) local t c e = copied_tally (suc (suc (suc left))) (Do (LocalO t local) c) e

  pub zeroed_tally : (size : ℕ) (c : Nodes) → k.loop ≡ 0 → tally k (coded (zeroed size) c) ≡ tally k c
  zeroed_tally zero c e = refl
  zeroed_tally (suc left) c e = omega (arith, e)

  pub flag_tally : (known : Bool) (t : ℕ) (c : Nodes) → tally k (coded (as_flag known t) c) ≡ tally k c
  flag_tally true t c = refl
  flag_tally false t c = refl

  pub converted_tally : (ty : Ty) (known : Bool) (t : ℕ) (c : Nodes) → tally k (coded (converted ty known t) c) ≡ tally k c
  converted_tally BoolY known t c = flag_tally known t c
  converted_tally VoidY known t c = refl
  converted_tally IntY known t c = refl
  converted_tally (EnumY n) known t c = refl
  converted_tally (StructY n) known t c = refl
  converted_tally (UnionY n) known t c = refl
  converted_tally (PointerY of) known t c = refl
  converted_tally (ArrayY of n) known t c = refl

  word_tally : (op : BinOp) (t a b : ℕ) (c : Nodes) → tally k (coded (with_word op t a b) c) ≡ tally k c
  word_tally bin.Mul t a b c = refl
  word_tally bin.Div t a b c = refl
  word_tally bin.Mod t a b c = refl
  word_tally bin.Add t a b c = refl
  word_tally bin.Sub t a b c = refl
  word_tally bin.Shl t a b c = refl
  word_tally bin.Shr t a b c = refl
  word_tally bin.Less t a b c = refl
  word_tally bin.LessEq t a b c = refl
  word_tally bin.More t a b c = refl
  word_tally bin.MoreEq t a b c = refl
  word_tally bin.Equal t a b c = refl
  word_tally bin.NotEqual t a b c = refl
  word_tally bin.BitAnd t a b c = refl
  word_tally bin.BitXor t a b c = refl
  word_tally bin.BitOr t a b c = refl
  word_tally bin.AndAlso t a b c = refl
  word_tally bin.OrElse t a b c = refl

  pub stepped_tally : (size t a b u : ℕ) (c : Nodes) → tally k (coded (stepped size t a b u) c) ≡ tally k c
  stepped_tally size t a b u c = either_tally (size == 1) _ _ (tally k c) refl refl

  pointer_tally : (op : BinOp) (size : ℕ) (pointers : Bool) (t a b u : ℕ) (c : Nodes) → tally k (coded (with_pointer op size pointers t a b u) c) ≡ tally k c
  pointer_tally bin.Add size pointers t a b u c = stepped_tally size t a b u c
  pointer_tally bin.Sub size true t a b u c = refl
  pointer_tally bin.Sub size false t a b u c = stepped_tally size t a b u c
  pointer_tally bin.Equal size pointers t a b u c = refl
  pointer_tally bin.NotEqual size pointers t a b u c = refl
  pointer_tally bin.Less size pointers t a b u c = refl
  pointer_tally bin.LessEq size pointers t a b u c = refl
  pointer_tally bin.More size pointers t a b u c = refl
  pointer_tally bin.MoreEq size pointers t a b u c = refl
  pointer_tally bin.Mul size pointers t a b u c = refl
  pointer_tally bin.Div size pointers t a b u c = refl
  pointer_tally bin.Mod size pointers t a b u c = refl
  pointer_tally bin.Shl size pointers t a b u c = refl
  pointer_tally bin.Shr size pointers t a b u c = refl
  pointer_tally bin.BitAnd size pointers t a b u c = refl
  pointer_tally bin.BitXor size pointers t a b u c = refl
  pointer_tally bin.BitOr size pointers t a b u c = refl
  pointer_tally bin.AndAlso size pointers t a b u c = refl
  pointer_tally bin.OrElse size pointers t a b u c = refl

  on_tally : (h : Shape) (op : BinOp) (to : Option Ty) (pointers : Bool) (t a b u : ℕ) (c : Nodes) → tally k (coded (operated_on h op to pointers t a b u) c) ≡ tally k c
  on_tally h op None pointers t a b u c = word_tally op t a b c
  on_tally h op (Some ty) pointers t a b u c = pointer_tally op (words h ty) pointers t a b u c

  pub operated_tally : (h : Shape) (op : BinOp) (ta tb : Ty) (t a b u : ℕ) (c : Nodes) → tally k (coded (operated h op ta tb t a b u) c) ≡ tally k c
  operated_tally h op ta tb t a b u c = on_tally h op (pointed (decayed ta)) (is_pointer (decayed tb)) t a b u c

  pub more_tally : (h : Shape) (to : Option Ty) (t a u : ℕ) (c : Nodes) → tally k (coded (one_more h to t a u) c) ≡ tally k c
  more_tally h None t a u c = refl
  more_tally h (Some ty) t a u c = refl

  pub less_tally : (h : Shape) (to : Option Ty) (t a u : ℕ) (c : Nodes) → tally k (coded (one_less h to t a u) c) ≡ tally k c
  less_tally h None t a u c = refl
  less_tally h (Some ty) t a u c = refl

  pub tested_tally : (ty : Ty) (t : ℕ) (c : Nodes) → tally k (coded (tested_as ty t) c) ≡ tally k c
  tested_tally VoidY t c = refl
  tested_tally IntY t c = refl
  tested_tally BoolY t c = refl
  tested_tally (EnumY n) t c = refl
  tested_tally (StructY n) t c = refl
  tested_tally (UnionY n) t c = refl
  tested_tally (PointerY of) t c = refl
  tested_tally (ArrayY of n) t c = refl

  pub negated_tally : (ty : Ty) (t : ℕ) (c : Nodes) → tally k (coded (negated_as ty t) c) ≡ tally k c
  negated_tally VoidY t c = refl
  negated_tally IntY t c = refl
  negated_tally BoolY t c = refl
  negated_tally (EnumY n) t c = refl
  negated_tally (StructY n) t c = refl
  negated_tally (UnionY n) t c = refl
  negated_tally (PointerY of) t c = refl
  negated_tally (ArrayY of n) t c = refl

  pub stored_tally : (h : Shape) (ty : Ty) (p a : ℕ) (c : Nodes) → Spared (is_structure ty) → tally k (coded (stored h ty p a) c) ≡ tally k c
  stored_tally h ty p a c (inl e) = either_tally (is_structure ty) _ _ (tally k c) (between_tally (words h ty) a p c e) refl
  stored_tally h ty p a c (inr s) = rw s refl

  pub made_tally : (objects : List ℕ) (c : Nodes) → tally k (coded (made objects) c) ≡ tally k c
  made_tally [] c = refl
  made_tally (j ∷ js) c = made_tally js c
