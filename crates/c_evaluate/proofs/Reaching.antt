-- Several steps at once are steps one after another.
use Rattle.std.proofs.Common.{◌≡◌, ℕ, zero, suc, ◌+◌, ltb, Bool, true, false, if◌then◌else◌, List, [], ◌∷◌, ◌++◌, length, slice_get, replicate, refl, sym, ap, subst, ◌∙◌}
use Rattle.std.specs.Option.{option_map_or}
use Rattle.std.specs.Prelude.{not, Option, Some, None, Result, Ok, Err}
use Rattle.c_tree.specs.declared.span.Span.{Span}
use Rattle.c_tree.specs.declared.operator.UnOp.{UnOp}
use Rattle.c_tree.specs.declared.operator.UnOp.TheVariants as un
use Rattle.c_tree.specs.declared.operator.StepOp.{StepOp}
use Rattle.c_tree.specs.declared.operator.BinOp.{BinOp}
use Rattle.c_tree.specs.declared.operator.BinOp.TheVariants as bin
use Rattle.c_types.specs.Types.{Ty, VoidY, IntY, BoolY, EnumY, StructY, UnionY, PointerY, ArrayY}
use Rattle.c_types.specs.Typed.{TExprT, Typed, NumberK, NullK, LiteralK, GlobalK, LocalK, UnaryK, BinaryK, AssignK, StepK, IndexK, MemberK, ArrowK, CastK, CallK, InK, OutK, WaitK, HaltK, CardK, TExprTs, NoX, MoreX, TStmtTs, NoZ, MoreZ, TStmtT, BlockZ, EmptyZ, VarsZ, DoZ, IfZ, WhileZ, DoWhileZ, ForZ, SwitchZ, ReturnZ, BreakZ, ContinueZ}
use Rattle.c_types.specs.Programs.{TFunctionT}
use Rattle.obj_mem.specs.declared.cell.Cell.{Cell}
use Rattle.obj_mem.specs.declared.cell.Cell.TheVariants.{Unwritten, Num, Ptr, Null}
use Rattle.obj_mem.specs.Stores.{Store, local_object, has_room, fresh_all, entered, next_object, with_temporary}
use Rattle.obj_mem.specs.Objects.{ObjectT, cell_read}
use Rattle.obj_mem.specs.Queries.{Answer, then_ask, answer_if, accessed, truth, first_cell, step as pointer_step}
use Rattle.c_meaning.specs.Kinds.{type_of, span_of}
use Rattle.c_types.specs.Kinds.{decayed}
use Rattle.c_meaning.specs.Operators.{is_of, word_unary, word_binary, is_true, converted, cell_unary, stepped, operated}
use Rattle.c_meaning.specs.declared.end.End.{End}
use Rattle.c_meaning.specs.Outcomes.{nowhere}
use Rattle.c_meaning.specs.Setting.{Setting, words, words as type_words, result_of}
use Rattle.c_meaning.specs.Cells.{released}
use Rattle.c_meaning.specs.Expressions.{params_of, all_released}
use Rattle.c_evaluate.specs.declared.frame.Outcome.{Outcome}
use Rattle.c_evaluate.specs.declared.frame.Outcome.TheVariants.{Value, Place, Nothing}
use Rattle.c_evaluate.specs.declared.frame.How.{How}
use Rattle.c_evaluate.specs.declared.frame.How.TheVariants.{On, Break, Continue, Return}
use Rattle.c_evaluate.specs.inner.Storing.{With, at_span, then_ok, cells_in, params_in, returned_in, taken, tested_in, placed_in, operated_in, stepped_in, second_assigned_in}
use Rattle.c_evaluate.specs.inner.Machine.{FocusT, EvalF, FillF, DoF, OutcomeF, MadeF, ExitF, FullF, FrameT, FirstW, SecondW, ArgumentW, BackW, ValueW, StepW, BodyW, BeginW, RestW, ArmsW, EndW, SwitchW, OneW, ItemsW, VarsW, FilledW, MainW, Config, Going, caller_of, back_in}
use Rattle.c_evaluate.specs.inner.Steps.{on, outcome, value, left, args_of, argument_in, argument_step, value_here, place_here, either_of, eval, first_step, second_step, unary_first, member_first, binary_second, combined, second_of, second_of_node, binary_of, exec, value_step, again, after_body, body_step, take_outcome, take_exit, step, rest_of, in_room, body_of, enter, call_of, call, return_of}
use Rattle.c_evaluate.specs.inner.Turning.{Works}
use Rattle.c_evaluate.specs.inner.Swift.{unary_worth, binary_worth, when, is_word, word_held, word_at, worth, are_words, returned_by, quick_of, quick, passed, word_or, call_on, asks_on, assigns_on, steps_on, does_on, exec_on, took, args_on, argument_on, with_some, answered, seen, value_at_once, place_at_once, unary_at_once, is_strict, strict_at_once, binary_at_once, index_at_once, member_at_once, arrow_at_once, cast_at_once, comes, depth_at_once, at_once, local_at_once, handed, second_on, binary_on, first_on, first_of_on, operand_on, eval_on, take_outcome_on, again_on, body_on, take_exit_on, step_on}
use Rattle.c_evaluate.proofs.Passing.{laid, counted, others, held, no_structure, all_params, all_made, param_held, passed_back, words_released}

-- so many steps lead from one configuration to the other
pub data Reaches (s : Setting) : Config → Config → Type 0 where
  here : (c : Config) → Reaches s c c
  further : (f : FocusT) (k : List FrameT) (u : Store) (d : Config) → Works f → Reaches s (step s f k u) d → Reaches s (Going f k u) d

-- ---- what was there

outcome_in : Option Outcome → Outcome
outcome_in None = Nothing
outcome_in (Some v) = v

outcome_same : (w v : Outcome) → Some w ≡ Some v → w ≡ v
unfolding outcome_in
outcome_same w v e = ap outcome_in e

some_of : {A B P : Type 0} (o : Option A) (go : A → Option B) (z : B) → with_some o go ≡ Some z → ((x : A) → o ≡ Some x → go x ≡ Some z → P) → P
some_of None go z e h = absurd cc
some_of (Some x) go z e h = h x refl e

strict_of : {P : Type 0} (b : Bool) (o : Option Outcome) (v : Outcome) → strict_at_once b o ≡ Some v → (b ≡ true → o ≡ Some v → P) → P
strict_of true o v e h = h refl e
strict_of false o v e h = absurd cc

answered_ok : {A : Type 0} (r : Answer A) (x : A) → answered r ≡ Some x → r ≡ Ok x
answered_ok (Ok y) x e = cc
answered_ok (Err why) x e = absurd cc

scalar_seen : (span : Span) (r : Answer Cell) (c : Cell) (u : Store) → answered r ≡ Some c → then_ok {B = Cell × Store} (at_span span r) (λ z. Ok (z, u)) ≡ Ok (c, u)
scalar_seen span (Ok z) c u e = cc
scalar_seen span (Err why) c u e = absurd cc

-- what is seen is what is taken, and the store stays
seen_taken : (s : Setting) (n : ℕ) (x : TExprT) (v : Outcome) (u : Store) (c : Cell) → seen (type_of x) v u ≡ Some c → taken s n x v u ≡ Ok (c, u)
unfolding seen
seen_taken s n (Typed kind ty span) (Value z) u c e = cc
seen_taken s n (Typed kind VoidY span) (Place p) u c e = absurd cc
seen_taken s n (Typed kind IntY span) (Place p) u c e = scalar_seen span _ c u e
seen_taken s n (Typed kind BoolY span) (Place p) u c e = scalar_seen span _ c u e
seen_taken s n (Typed kind (EnumY number) span) (Place p) u c e = scalar_seen span _ c u e
seen_taken s n (Typed kind (StructY number) span) (Place p) u c e = absurd cc
seen_taken s n (Typed kind (UnionY number) span) (Place p) u c e = absurd cc
seen_taken s n (Typed kind (PointerY to) span) (Place p) u c e = scalar_seen span _ c u e
seen_taken s n (Typed kind (ArrayY of len) span) (Place p) u c e = cc
seen_taken s n (Typed kind ty span) Nothing u c e = absurd cc

module _ (s : Setting) where
  -- ---- what comes at once is reached

  outcome_handed : (w v : Outcome) → Some w ≡ Some v → (f : FrameT) (k : List FrameT) (u : Store) (to : Config) → Reaches s (take_outcome s f v k u) to → Reaches s (Going (OutcomeF w) (f ∷ k) u) to
  unfolding step
  outcome_handed w v e f k u to r = further _ _ _ _ tt (subst (λ x. Reaches s (take_outcome s f x k u) to) (sym (outcome_same w v e)) r)

  value_given : (span : Span) (c : Answer Cell) (v : Outcome) → value_at_once c ≡ Some v → (f : FrameT) (k : List FrameT) (u : Store) (to : Config) → Reaches s (take_outcome s f v k u) to → Reaches s (value_here (at_span span c) (f ∷ k) u) to
  value_given span (Ok z) v e f k u to r = outcome_handed (Value z) v e f k u to r
  value_given span (Err why) v e f k u to r = absurd cc

  place_given : (span : Span) (c : Answer Cell) (v : Outcome) → place_at_once c ≡ Some v → (f : FrameT) (k : List FrameT) (u : Store) (to : Config) → Reaches s (take_outcome s f v k u) to → Reaches s (place_here (at_span span c) (f ∷ k) u) to
  place_given span (Ok z) v e f k u to r = outcome_handed (Place z) v e f k u to r
  place_given span (Err why) v e f k u to r = absurd cc

  on_seen : (t : With Cell) (c : Cell) (u : Store) → t ≡ Ok (c, u) → (go : Cell × Store → Config) (to : Config) → Reaches s (go (c, u)) to → Reaches s (on t go) to
  on_seen t c u e go to r = subst (λ x. Reaches s (on x go) to) (sym e) r

  not_seen : (n : ℕ) (x : TExprT) (w : Outcome) (u : Store) (c : Cell) (b : Bool) → taken s n x w u ≡ Ok (c, u) → is_true u.objects (decayed (type_of x)) c ≡ Ok b → (k : List FrameT) (to : Config) → Reaches s (outcome (Value (truth (not b))) k u) to →
      Reaches s (on (tested_in s n x w u) (λ t. outcome (Value (truth (not t.0))) k t.1)) to
  not_seen n x w u c b e g k to r = subst (λ y. Reaches s (on {A = Bool × Store} (then_ok y (λ t. then_ok (at_span (span_of x) (is_true t.1.objects (decayed (type_of x)) t.0)) (λ b. Ok (b, t.1)))) (λ t. outcome (Value (truth (not t.0))) k t.1)) to) (sym e)
      (subst (λ y. Reaches s (on {A = Bool × Store} (then_ok (at_span (span_of x) y) (λ b. Ok (b, u))) (λ t. outcome (Value (truth (not t.0))) k t.1)) to) (sym g) r)

  unary_given : (n : ℕ) (op : UnOp) (x : TExprT) (span : Span) (w v : Outcome) (u : Store) → unary_at_once op (type_of x) w u ≡ Some v → (f : FrameT) (k : List FrameT) (to : Config) → Reaches s (take_outcome s f v k u) to → Reaches s (unary_first s n op x span w (f ∷ k) u) to
  unfolding unary_at_once
  unary_given n un.Deref x span w v u e f k to r = some_of _ _ v e (λ c g h. on_seen _ c u (seen_taken s n x w u c g) (λ t. outcome (Place t.0) (f ∷ k) t.1) to (outcome_handed (Place c) v h f k u to r))
  unary_given n un.Address x span (Value c) v u e f k to r = absurd cc
  unary_given n un.Address x span (Place p) v u e f k to r = outcome_handed (Value p) v e f k u to r
  unary_given n un.Address x span Nothing v u e f k to r = absurd cc
  unary_given n un.Not x span w v u e f k to r = some_of _ _ v e (λ c g h. some_of _ _ v h (λ b a z. not_seen n x w u c b (seen_taken s n x w u c g) (answered_ok _ b a) (f ∷ k) to (outcome_handed (Value (truth (not b))) v z f k u to r)))
  unary_given n un.Minus x span w v u e f k to r = some_of _ _ v e (λ c g h. on_seen _ c u (seen_taken s n x w u c g) (λ t. value_here (at_span span (cell_unary un.Minus t.0)) (f ∷ k) t.1) to (value_given span _ v h f k u to r))
  unary_given n un.Plus x span w v u e f k to r = some_of _ _ v e (λ c g h. on_seen _ c u (seen_taken s n x w u c g) (λ t. value_here (at_span span (cell_unary un.Plus t.0)) (f ∷ k) t.1) to (value_given span _ v h f k u to r))
  unary_given n un.Flip x span w v u e f k to r = some_of _ _ v e (λ c g h. on_seen _ c u (seen_taken s n x w u c g) (λ t. value_here (at_span span (cell_unary un.Flip t.0)) (f ∷ k) t.1) to (value_given span _ v h f k u to r))

  strict_first : (n : ℕ) (op : BinOp) (e x y : TExprT) (v : Outcome) (k : List FrameT) (u : Store) → is_strict op ≡ true → binary_of s n op e x y v k u ≡ on (taken s n x v u) (λ t. second_of_node n e y t.0 k t.1)
  strict_first n bin.AndAlso e x y v k u is = absurd cc
  strict_first n bin.OrElse e x y v k u is = absurd cc
  strict_first n bin.Mul e x y v k u is = refl
  strict_first n bin.Div e x y v k u is = refl
  strict_first n bin.Mod e x y v k u is = refl
  strict_first n bin.Add e x y v k u is = refl
  strict_first n bin.Sub e x y v k u is = refl
  strict_first n bin.Shl e x y v k u is = refl
  strict_first n bin.Shr e x y v k u is = refl
  strict_first n bin.Less e x y v k u is = refl
  strict_first n bin.LessEq e x y v k u is = refl
  strict_first n bin.More e x y v k u is = refl
  strict_first n bin.MoreEq e x y v k u is = refl
  strict_first n bin.Equal e x y v k u is = refl
  strict_first n bin.NotEqual e x y v k u is = refl
  strict_first n bin.BitAnd e x y v k u is = refl
  strict_first n bin.BitXor e x y v k u is = refl
  strict_first n bin.BitOr e x y v k u is = refl

  strict_second : (n : ℕ) (op : BinOp) (x y : TExprT) (span : Span) (c : Cell) (v : Outcome) (k : List FrameT) (u : Store) → is_strict op ≡ true → binary_second s n op x y span c v k u ≡ combined s n op x y span c v k u
  strict_second n bin.AndAlso x y span c v k u is = absurd cc
  strict_second n bin.OrElse x y span c v k u is = absurd cc
  strict_second n bin.Mul x y span c v k u is = refl
  strict_second n bin.Div x y span c v k u is = refl
  strict_second n bin.Mod x y span c v k u is = refl
  strict_second n bin.Add x y span c v k u is = refl
  strict_second n bin.Sub x y span c v k u is = refl
  strict_second n bin.Shl x y span c v k u is = refl
  strict_second n bin.Shr x y span c v k u is = refl
  strict_second n bin.Less x y span c v k u is = refl
  strict_second n bin.LessEq x y span c v k u is = refl
  strict_second n bin.More x y span c v k u is = refl
  strict_second n bin.MoreEq x y span c v k u is = refl
  strict_second n bin.Equal x y span c v k u is = refl
  strict_second n bin.NotEqual x y span c v k u is = refl
  strict_second n bin.BitAnd x y span c v k u is = refl
  strict_second n bin.BitXor x y span c v k u is = refl
  strict_second n bin.BitOr x y span c v k u is = refl

  combined_given : (n : ℕ) (op : BinOp) (x y : TExprT) (span : Span) (c d : Cell) (w v : Outcome) (u : Store) → seen (type_of y) w u ≡ Some d → value_at_once (operated s op (type_of x) (type_of y) u.objects c d) ≡ Some v → (f : FrameT) (k : List FrameT) (to : Config) → Reaches s (take_outcome s f v k u) to → Reaches s (combined s n op x y span c w (f ∷ k) u) to
  combined_given n op x y span c d w v u g h f k to r = on_seen _ d u (seen_taken s n y w u d g) (λ t. value_here (operated_in s op x y span c t.0 t.1) (f ∷ k) t.1) to (value_given span _ v h f k u to r)

  member_given : (ty : Ty) (x : TExprT) (span : Span) (offset : ℕ) (w v : Outcome) (u : Store) → member_at_once offset w ≡ Some v → (f : FrameT) (k : List FrameT) (to : Config) → Reaches s (take_outcome s f v k u) to → Reaches s (member_first ty x span offset w (f ∷ k) u) to
  unfolding member_at_once
  member_given ty x span offset (Value c) v u e f k to r = absurd cc
  member_given ty x span offset (Place p) v u e f k to r = place_given span _ v e f k u to r
  member_given ty x span offset Nothing v u e f k to r = absurd cc

  local_given : (o : Option ℕ) (span : Span) (v : Outcome) → local_at_once o ≡ Some v → (f : FrameT) (k : List FrameT) (u : Store) (to : Config) → Reaches s (take_outcome s f v k u) to → Reaches s (place_here (at_span span (first_cell o)) (f ∷ k) u) to
  local_given None span v e f k u to r = absurd cc
  local_given (Some object) span v e f k u to r = outcome_handed (Place (Ptr object 0)) v e f k u to r

  comes_reaches : (d : ℕ) (x : TExprT) (u : Store) (v : Outcome) → comes s d x u ≡ Some v → (n : ℕ) (f : FrameT) (k : List FrameT) (to : Config) → Reaches s (take_outcome s f v k u) to → Reaches s (Going (EvalF n x) (f ∷ k) u) to
  unfolding step eval comes take_outcome first_step second_step binary_at_once index_at_once arrow_at_once cast_at_once
  comes_reaches d (Typed (NumberK x) ty span) u v e n f k to r = further _ _ _ _ tt (outcome_handed _ v e f k u to r)
  comes_reaches d (Typed NullK ty span) u v e n f k to r = further _ _ _ _ tt (outcome_handed _ v e f k u to r)
  comes_reaches d (Typed (LiteralK number) ty span) u v e n f k to r = further _ _ _ _ tt (outcome_handed _ v e f k u to r)
  comes_reaches d (Typed (GlobalK number) ty span) u v e n f k to r = further _ _ _ _ tt (outcome_handed _ v e f k u to r)
  comes_reaches d (Typed (LocalK number) ty span) u v e n f k to r = further _ _ _ _ tt (local_given (local_object u.locals number) span v e f k u to r)
  comes_reaches (suc d) (Typed (UnaryK op a) ty span) u v e n f k to r =
      some_of _ _ v e (λ w g h. further _ _ _ _ tt (comes_reaches d a u w g n (FirstW n (Typed (UnaryK op a) ty span)) (f ∷ k) to (unary_given n op a span w v u h f k to r)))
  comes_reaches (suc d) (Typed (BinaryK op a b) ty span) u v e n f k to r =
      strict_of (is_strict op) _ v e (λ strict e'. some_of _ _ v e' (λ w g h. some_of _ _ v h (λ z g' h'. some_of _ _ v h' (λ c p q. some_of _ _ v q (λ c' p' q'.
      further _ _ _ _ tt (comes_reaches d a u w g n (FirstW n (Typed (BinaryK op a b) ty span)) (f ∷ k) to
      (subst (λ y. Reaches s y to) (sym (strict_first n op (Typed (BinaryK op a b) ty span) a b w (f ∷ k) u strict))
      (on_seen _ c u (seen_taken s n a w u c p) (λ t. second_of_node n (Typed (BinaryK op a b) ty span) b t.0 (f ∷ k) t.1) to
      (comes_reaches d b u z g' n (SecondW n (Typed (BinaryK op a b) ty span) c) (f ∷ k) to
      (subst (λ y. Reaches s y to) (sym (strict_second n op a b span c z (f ∷ k) u strict)) (combined_given n op a b span c c' z v u p' q' f k to r)))))))))))
  comes_reaches (suc d) (Typed (IndexK a b) ty span) u v e n f k to r =
      some_of _ _ v e (λ w g h. some_of _ _ v h (λ z g' h'. some_of _ _ v h' (λ c p q. some_of _ _ v q (λ c' p' q'.
      further _ _ _ _ tt (comes_reaches d a u w g n (FirstW n (Typed (IndexK a b) ty span)) (f ∷ k) to
      (on_seen _ c u (seen_taken s n a w u c p) (λ t. second_of_node n (Typed (IndexK a b) ty span) b t.0 (f ∷ k) t.1) to
      (comes_reaches d b u z g' n (SecondW n (Typed (IndexK a b) ty span) c) (f ∷ k) to
      (on_seen _ c' u (seen_taken s n b z u c' p') (λ t. place_here (at_span span (stepped (words s ty) c t.0)) (f ∷ k) t.1) to (place_given span _ v q' f k u to r)))))))))
  comes_reaches (suc d) (Typed (MemberK a offset) ty span) u v e n f k to r =
      some_of _ _ v e (λ w g h. further _ _ _ _ tt (comes_reaches d a u w g n (FirstW n (Typed (MemberK a offset) ty span)) (f ∷ k) to (member_given ty a span offset w v u h f k to r)))
  comes_reaches (suc d) (Typed (ArrowK a offset) ty span) u v e n f k to r =
      some_of _ _ v e (λ w g h. some_of _ _ v h (λ c p q. further _ _ _ _ tt (comes_reaches d a u w g n (FirstW n (Typed (ArrowK a offset) ty span)) (f ∷ k) to
      (on_seen _ c u (seen_taken s n a w u c p) (λ t. place_here (at_span span (pointer_step t.0 offset)) (f ∷ k) t.1) to (place_given span _ v q f k u to r)))))
  comes_reaches (suc d) (Typed (CastK a) ty span) u v e n f k to r =
      some_of _ _ v e (λ w g h. some_of _ _ v h (λ c p q. further _ _ _ _ tt (comes_reaches d a u w g n (FirstW n (Typed (CastK a) ty span)) (f ∷ k) to
      (on_seen _ c u (seen_taken s n a w u c p) (λ t. value_here (at_span span (converted ty t.0)) (f ∷ k) t.1) to (value_given span _ v q f k u to r)))))
  comes_reaches zero (Typed (UnaryK op a) ty span) u v e n f k to r = absurd cc
  comes_reaches zero (Typed (BinaryK op a b) ty span) u v e n f k to r = absurd cc
  comes_reaches zero (Typed (IndexK a b) ty span) u v e n f k to r = absurd cc
  comes_reaches zero (Typed (MemberK a offset) ty span) u v e n f k to r = absurd cc
  comes_reaches zero (Typed (ArrowK a offset) ty span) u v e n f k to r = absurd cc
  comes_reaches zero (Typed (CastK a) ty span) u v e n f k to r = absurd cc
  comes_reaches d (Typed (AssignK op a b) ty span) u v e n f k to r = absurd cc
  comes_reaches d (Typed (StepK op a) ty span) u v e n f k to r = absurd cc
  comes_reaches d (Typed (CallK g xs) ty span) u v e n f k to r = absurd cc
  comes_reaches d (Typed (InK port) ty span) u v e n f k to r = absurd cc
  comes_reaches d (Typed (OutK port a) ty span) u v e n f k to r = absurd cc
  comes_reaches d (Typed WaitK ty span) u v e n f k to r = absurd cc
  comes_reaches d (Typed HaltK ty span) u v e n f k to r = absurd cc
  comes_reaches d (Typed CardK ty span) u v e n f k to r = absurd cc

  at_once_reaches : (x : TExprT) (u : Store) (v : Outcome) → at_once s x u ≡ Some v → (n : ℕ) (f : FrameT) (k : List FrameT) (to : Config) → Reaches s (take_outcome s f v k u) to → Reaches s (Going (EvalF n x) (f ∷ k) u) to
  unfolding at_once
  at_once_reaches x u v e n f k to r = comes_reaches depth_at_once x u v e n f k to r

  -- what an operand comes to at once is handed to its frame
  handed_reaches : (n : ℕ) (x : TExprT) (f : FrameT) (k : List FrameT) (u : Store) (go : Outcome → Config) → ((v : Outcome) → Reaches s (take_outcome s f v k u) (go v)) →
      Reaches s (Going (EvalF n x) (f ∷ k) u) (handed (at_once s x u) (Going (EvalF n x) (f ∷ k) u) go)
  handed_reaches n x f k u go h = by (at_once s x u) refl
    where
      by : (o : Option Outcome) → at_once s x u ≡ o → Reaches s (Going (EvalF n x) (f ∷ k) u) (handed o (Going (EvalF n x) (f ∷ k) u) go)
      by None e = here _
      by (Some v) e = at_once_reaches x u v e n f k (go v) (h v)

  second_reaches : (n : ℕ) (e y : TExprT) (c : Cell) (k : List FrameT) (u : Store) → Reaches s (Going (EvalF n y) (SecondW n e c ∷ k) u) (second_on s n e y c k u)
  unfolding take_outcome
  second_reaches n e y c k u = handed_reaches n y (SecondW n e c) k u (λ v. second_of s n e c v k u) (λ v. here _)

  on_reaches : {A : Type 0} (r : Result A End) (go to : A → Config) → ((x : A) → Reaches s (go x) (to x)) → Reaches s (on r go) (on r to)
  on_reaches (Ok x) go to h = h x
  on_reaches (Err end) go to h = here _

  either_reaches : (b : Bool) (x x' y y' : Config) → Reaches s x x' → Reaches s y y' → Reaches s (either_of b x y) (either_of b x' y')
  either_reaches true x x' y y' h i = h
  either_reaches false x x' y y' h i = i

  plain_reaches : (n : ℕ) (e x y : TExprT) (v : Outcome) (k : List FrameT) (u : Store) → Reaches s (on (taken s n x v u) (λ t. second_of_node n e y t.0 k t.1)) (on (taken s n x v u) (λ t. second_on s n e y t.0 k t.1))
  plain_reaches n e x y v k u = on_reaches (taken s n x v u) (λ t. second_of_node n e y t.0 k t.1) (λ t. second_on s n e y t.0 k t.1) (λ t. second_reaches n e y t.0 k t.1)

  binary_reaches : (n : ℕ) (op : BinOp) (e x y : TExprT) (v : Outcome) (k : List FrameT) (u : Store) → Reaches s (binary_of s n op e x y v k u) (binary_on s n op e x y v k u)
  binary_reaches n bin.AndAlso e x y v k u =
      on_reaches (tested_in s n x v u) (λ t. either_of t.0 (second_of_node n e y Unwritten k t.1) (outcome (Value (truth false)) k t.1)) (λ t. either_of t.0 (second_on s n e y Unwritten k t.1) (outcome (Value (truth false)) k t.1)) (λ t. either_reaches t.0 _ _ _ _ (second_reaches n e y Unwritten k t.1) (here _))
  binary_reaches n bin.OrElse e x y v k u =
      on_reaches (tested_in s n x v u) (λ t. either_of t.0 (outcome (Value (truth true)) k t.1) (second_of_node n e y Unwritten k t.1)) (λ t. either_of t.0 (outcome (Value (truth true)) k t.1) (second_on s n e y Unwritten k t.1)) (λ t. either_reaches t.0 _ _ _ _ (here _) (second_reaches n e y Unwritten k t.1))
  binary_reaches n bin.Mul e x y v k u = plain_reaches n e x y v k u
  binary_reaches n bin.Div e x y v k u = plain_reaches n e x y v k u
  binary_reaches n bin.Mod e x y v k u = plain_reaches n e x y v k u
  binary_reaches n bin.Add e x y v k u = plain_reaches n e x y v k u
  binary_reaches n bin.Sub e x y v k u = plain_reaches n e x y v k u
  binary_reaches n bin.Shl e x y v k u = plain_reaches n e x y v k u
  binary_reaches n bin.Shr e x y v k u = plain_reaches n e x y v k u
  binary_reaches n bin.Less e x y v k u = plain_reaches n e x y v k u
  binary_reaches n bin.LessEq e x y v k u = plain_reaches n e x y v k u
  binary_reaches n bin.More e x y v k u = plain_reaches n e x y v k u
  binary_reaches n bin.MoreEq e x y v k u = plain_reaches n e x y v k u
  binary_reaches n bin.Equal e x y v k u = plain_reaches n e x y v k u
  binary_reaches n bin.NotEqual e x y v k u = plain_reaches n e x y v k u
  binary_reaches n bin.BitAnd e x y v k u = plain_reaches n e x y v k u
  binary_reaches n bin.BitXor e x y v k u = plain_reaches n e x y v k u
  binary_reaches n bin.BitOr e x y v k u = plain_reaches n e x y v k u

  first_reaches : (n : ℕ) (e : TExprT) (v : Outcome) (k : List FrameT) (u : Store) → Reaches s (take_outcome s (FirstW n e) v k u) (first_of_on s n e v k u)
  unfolding take_outcome first_step first_on
  first_reaches n (Typed (BinaryK op x y) ty span) v k u = binary_reaches n op (Typed (BinaryK op x y) ty span) x y v k u
  first_reaches n (Typed (AssignK op x y) ty span) v k u = on_reaches (placed_in span v) (λ p. Going (EvalF n y) (SecondW n (Typed (AssignK op x y) ty span) p ∷ k) u) (λ p. second_on s n (Typed (AssignK op x y) ty span) y p k u) (λ p. second_reaches n (Typed (AssignK op x y) ty span) y p k u)
  first_reaches n (Typed (IndexK x y) ty span) v k u = plain_reaches n (Typed (IndexK x y) ty span) x y v k u
  first_reaches n (Typed (NumberK x) ty span) v k u = here _
  first_reaches n (Typed NullK ty span) v k u = here _
  first_reaches n (Typed (LiteralK number) ty span) v k u = here _
  first_reaches n (Typed (GlobalK number) ty span) v k u = here _
  first_reaches n (Typed (LocalK number) ty span) v k u = here _
  first_reaches n (Typed (UnaryK op a) ty span) v k u = here _
  first_reaches n (Typed (StepK op a) ty span) v k u = here _
  first_reaches n (Typed (MemberK a offset) ty span) v k u = here _
  first_reaches n (Typed (ArrowK a offset) ty span) v k u = here _
  first_reaches n (Typed (CastK a) ty span) v k u = here _
  first_reaches n (Typed (CallK g xs) ty span) v k u = here _
  first_reaches n (Typed (InK port) ty span) v k u = here _
  first_reaches n (Typed (OutK port a) ty span) v k u = here _
  first_reaches n (Typed WaitK ty span) v k u = here _
  first_reaches n (Typed HaltK ty span) v k u = here _
  first_reaches n (Typed CardK ty span) v k u = here _

  operand_reaches : (n : ℕ) (e x : TExprT) (k : List FrameT) (u : Store) → Reaches s (Going (EvalF n x) (FirstW n e ∷ k) u) (operand_on s n e x k u)
  operand_reaches n e x k u = handed_reaches n x (FirstW n e) k u (λ v. first_of_on s n e v k u) (λ v. first_reaches n e v k u)

  -- ---- a call of a function of words is answered as by its steps

  word_of_held : (o : Option Cell) (a : ℕ) → word_held o ≡ Some a → o ≡ Some (Num a)
  word_of_held None a e = absurd cc
  word_of_held (Some Unwritten) a e = absurd cc
  word_of_held (Some (Num x)) a e = cc
  word_of_held (Some (Ptr o i)) a e = absurd cc
  word_of_held (Some Null) a e = absurd cc

  when_of : {A P : Type 0} (b : Bool) (o : Option A) (x : A) → when b o ≡ Some x → (b ≡ true → o ≡ Some x → P) → P
  when_of true o x e h = h refl e
  when_of false o x e h = absurd cc

  -- a place that holds a word, seen at a type of words
  word_seen : (ty : Ty) (o a : ℕ) (t : Store) → is_word ty ≡ true → cell_read t.objects o 0 ≡ Ok (Num a) → seen ty (Place (Ptr o 0)) t ≡ Some (Num a)
  unfolding seen
  word_seen VoidY o a t w e = absurd cc
  word_seen IntY o a t w e = ap (λ r. answered (then_ask (accessed 0 0 r) (λ c. answer_if (is_of IntY c) c))) e
  word_seen BoolY o a t w e = ap (λ r. answered (then_ask (accessed 0 0 r) (λ c. answer_if (is_of BoolY c) c))) e
  word_seen (EnumY number) o a t w e = ap (λ r. answered (then_ask (accessed 0 0 r) (λ c. answer_if (is_of (EnumY number) c) c))) e
  word_seen (StructY number) o a t w e = absurd cc
  word_seen (UnionY number) o a t w e = absurd cc
  word_seen (PointerY to) o a t w e = absurd cc
  word_seen (ArrayY of len) o a t w e = absurd cc

  outcome_word : (a b : ℕ) → Some a ≡ Some b → a ≡ b
  outcome_word a b e = cc

  word_made : (r : Answer ℕ) (z : ℕ) → answered r ≡ Some z → value_at_once (then_ask r (λ z. Ok (Num z))) ≡ Some (Value (Num z))
  word_made (Ok y) z e = cc
  word_made (Err why) z e = absurd cc

  unary_word : (op : UnOp) (a : ℕ) (x : TExprT) (w : Outcome) (z : ℕ) (t : Store) → seen (type_of x) w t ≡ Some (Num a) → answered (word_unary op a) ≡ Some z → unary_at_once op (type_of x) w t ≡ Some (Value (Num z))
  unfolding unary_at_once
  unary_word un.Deref a x w z t g e = absurd cc
  unary_word un.Address a x w z t g e = absurd cc
  unary_word un.Not a x w z t g e = absurd cc
  unary_word un.Minus a x w z t g e = ap (λ o. with_some o (λ c. value_at_once (cell_unary un.Minus c))) g ∙ word_made (word_unary un.Minus a) z e
  unary_word un.Plus a x w z t g e = ap (λ o. with_some o (λ c. value_at_once (cell_unary un.Plus c))) g ∙ word_made (word_unary un.Plus a) z e
  unary_word un.Flip a x w z t g e = ap (λ o. with_some o (λ c. value_at_once (cell_unary un.Flip c))) g ∙ word_made (word_unary un.Flip a) z e

  binary_word : (op : BinOp) (ta tb : Ty) (os : List ObjectT) (a b z : ℕ) → is_word ta ≡ true → answered (word_binary op a b) ≡ Some z → value_at_once (operated s op ta tb os (Num a) (Num b)) ≡ Some (Value (Num z))
  binary_word op VoidY tb os a b z w e = absurd cc
  binary_word op IntY tb os a b z w e = word_made (word_binary op a b) z e
  binary_word op BoolY tb os a b z w e = word_made (word_binary op a b) z e
  binary_word op (EnumY number) tb os a b z w e = word_made (word_binary op a b) z e
  binary_word op (StructY number) tb os a b z w e = absurd cc
  binary_word op (UnionY number) tb os a b z w e = absurd cc
  binary_word op (PointerY to) tb os a b z w e = absurd cc
  binary_word op (ArrayY of len) tb os a b z w e = absurd cc

  word_converted : (ty : Ty) (a : ℕ) → converted ty (Num a) ≡ Ok (Num (word_at ty a))
  word_converted VoidY a = refl
  word_converted IntY a = refl
  word_converted BoolY a = refl
  word_converted (EnumY number) a = refl
  word_converted (StructY number) a = refl
  word_converted (UnionY number) a = refl
  word_converted (PointerY to) a = refl
  word_converted (ArrayY of len) a = refl

  unfoldable Holds : List Cell → Store → Type 0
  Holds vs t = (j a : ℕ) → slice_get vs j ≡ Some (Num a) → (o : ℕ) × ((local_object t.locals j ≡ Some o) × (cell_read t.objects o 0 ≡ Ok (Num a)))

  worth_reaches : (d : ℕ) (vs : List Cell) (x : TExprT) (a : ℕ) (t : Store) → Holds vs t → worth d vs x ≡ Some a → (n : ℕ) (f : FrameT) (k : List FrameT) (to : Config) → ((v : Outcome) → seen (type_of x) v t ≡ Some (Num a) → Reaches s (take_outcome s f v k t) to) → Reaches s (Going (EvalF n x) (f ∷ k) t) to
  unfolding step eval worth unary_worth binary_worth take_outcome first_step second_step seen Holds
  worth_reaches d vs (Typed (NumberK x) ty span) a t h e n f k to r = further _ _ _ _ tt (further _ _ _ _ tt (r (Value (Num x)) (ap (λ y. Some (Num y)) (outcome_word x a e))))
  worth_reaches d vs (Typed (LocalK number) ty span) a t h e n f k to r = when_of (is_word ty) _ a e (λ w e1.
      let p = h number a (word_of_held (slice_get vs number) a e1) in
      further _ _ _ _ tt (subst (λ o. Reaches s (place_here (at_span span (first_cell o)) (f ∷ k) t) to) (sym p.1.0) (further _ _ _ _ tt (r (Place (Ptr p.0 0)) (word_seen ty p.0 a t w p.1.1)))))
  worth_reaches (suc d) vs (Typed (UnaryK op x) ty span) a t h e n f k to r = some_of _ _ a e (λ b g e1.
      further _ _ _ _ tt (worth_reaches d vs x b t h g n (FirstW n (Typed (UnaryK op x) ty span)) (f ∷ k) to (λ w p.
      unary_given n op x span w (Value (Num a)) t (unary_word op b x w a t p e1) f k to (r (Value (Num a)) refl))))
  worth_reaches (suc d) vs (Typed (BinaryK op x y) ty span) a t h e n f k to r = when_of (is_strict op) _ a e (λ strict e1. when_of (is_word (type_of x)) _ a e1 (λ word e2. some_of _ _ a e2 (λ b g e3. some_of _ _ a e3 (λ c g' e4.
      further _ _ _ _ tt (worth_reaches d vs x b t h g n (FirstW n (Typed (BinaryK op x y) ty span)) (f ∷ k) to (λ w p.
      subst (λ q. Reaches s q to) (sym (strict_first n op (Typed (BinaryK op x y) ty span) x y w (f ∷ k) t strict))
      (on_seen _ (Num b) t (seen_taken s n x w t (Num b) p) (λ u. second_of_node n (Typed (BinaryK op x y) ty span) y u.0 (f ∷ k) u.1) to
      (worth_reaches d vs y c t h g' n (SecondW n (Typed (BinaryK op x y) ty span) (Num b)) (f ∷ k) to (λ z q.
      subst (λ q. Reaches s q to) (sym (strict_second n op x y span (Num b) z (f ∷ k) t strict))
      (combined_given n op x y span (Num b) (Num c) z (Value (Num a)) t q (binary_word op (type_of x) (type_of y) t.objects b c a word e4) f k to (r (Value (Num a)) refl)))))))))))
  worth_reaches (suc d) vs (Typed (CastK x) ty span) a t h e n f k to r = some_of _ _ a e (λ b g e1.
      further _ _ _ _ tt (worth_reaches d vs x b t h g n (FirstW n (Typed (CastK x) ty span)) (f ∷ k) to (λ w p.
      on_seen _ (Num b) t (seen_taken s n x w t (Num b) p) (λ u. value_here (at_span span (converted ty u.0)) (f ∷ k) u.1) to
      (value_given span _ (Value (Num a)) (ap value_at_once (word_converted ty b) ∙ ap (λ z. Some (Value (Num z))) (outcome_word _ a e1)) f k t to (r (Value (Num a)) refl)))))
  worth_reaches zero vs (Typed (UnaryK op x) ty span) a t h e n f k to r = absurd cc
  worth_reaches zero vs (Typed (BinaryK op x y) ty span) a t h e n f k to r = absurd cc
  worth_reaches zero vs (Typed (CastK x) ty span) a t h e n f k to r = absurd cc
  worth_reaches d vs (Typed NullK ty span) a t h e n f k to r = absurd cc
  worth_reaches d vs (Typed (LiteralK number) ty span) a t h e n f k to r = absurd cc
  worth_reaches d vs (Typed (GlobalK number) ty span) a t h e n f k to r = absurd cc
  worth_reaches d vs (Typed (AssignK op x y) ty span) a t h e n f k to r = absurd cc
  worth_reaches d vs (Typed (StepK op x) ty span) a t h e n f k to r = absurd cc
  worth_reaches d vs (Typed (IndexK x y) ty span) a t h e n f k to r = absurd cc
  worth_reaches d vs (Typed (MemberK x offset) ty span) a t h e n f k to r = absurd cc
  worth_reaches d vs (Typed (ArrowK x offset) ty span) a t h e n f k to r = absurd cc
  worth_reaches d vs (Typed (CallK g xs) ty span) a t h e n f k to r = absurd cc
  worth_reaches d vs (Typed (InK port) ty span) a t h e n f k to r = absurd cc
  worth_reaches d vs (Typed (OutK port x) ty span) a t h e n f k to r = absurd cc
  worth_reaches d vs (Typed WaitK ty span) a t h e n f k to r = absurd cc
  worth_reaches d vs (Typed HaltK ty span) a t h e n f k to r = absurd cc
  worth_reaches d vs (Typed CardK ty span) a t h e n f k to r = absurd cc

  returned_is : {P : Type 0} (body : TStmtTs) (x : TExprT) → returned_by body ≡ Some x → ((rest : TStmtTs) → body ≡ MoreZ (ReturnZ (Some x)) rest → P) → P
  returned_is NoZ x e h = absurd cc
  returned_is (MoreZ (ReturnZ (Some y)) rest) x e h = h rest (ap (λ o. MoreZ (ReturnZ o) rest) e)
  returned_is (MoreZ (ReturnZ None) rest) x e h = absurd cc
  returned_is (MoreZ (BlockZ made body) rest) x e h = absurd cc
  returned_is (MoreZ EmptyZ rest) x e h = absurd cc
  returned_is (MoreZ (VarsZ vars) rest) x e h = absurd cc
  returned_is (MoreZ (DoZ y) rest) x e h = absurd cc
  returned_is (MoreZ (IfZ y a b) rest) x e h = absurd cc
  returned_is (MoreZ (WhileZ y a) rest) x e h = absurd cc
  returned_is (MoreZ (DoWhileZ a y) rest) x e h = absurd cc
  returned_is (MoreZ (ForZ made first test next a) rest) x e h = absurd cc
  returned_is (MoreZ (SwitchZ y made arms) rest) x e h = absurd cc
  returned_is (MoreZ BreakZ rest) x e h = absurd cc
  returned_is (MoreZ ContinueZ rest) x e h = absurd cc

  -- from the body of the function on, whose parameters hold the arguments
  module _ (m f : ℕ) (g : TFunctionT) (vs : List Cell) (span : Span) (k : List FrameT) (u : Store) (is : slice_get s.functions f ≡ Some g) (gives : is_word g.gives ≡ true) (words : are_words 0 g.params g.made (s.sizes.locals f) vs ≡ true) where
    unfoldable inside : Store
    inside = held u.answers (Some f) (u.used + (s.sizes.frame f + 2)) (u.objects ++ laid vs) (counted (length u.objects) vs ++ replicate (length (others vs (s.sizes.locals f))) None)

    unfoldable waits : TStmtTs → List FrameT
    waits rest = RestW m Unwritten rest ∷ (BackW f vs Unwritten span (caller_of u) ∷ k)

    back_behind : (rest : TStmtTs) (a z : ℕ) → Some (word_at g.gives a) ≡ Some z → Reaches s (left (Return (Some (Num (word_at g.gives a)))) (waits rest) inside) (outcome (Value (Num z)) k (passed vs u))
    unfolding step take_exit waits inside
    back_behind rest a z e =
        let st : all_released (params_of (slice_get s.functions f)) vs (back_in (caller_of u) inside) ≡ passed vs u = ap (λ o. all_released (params_of o) vs (back_in (caller_of u) inside)) is ∙ words_released 0 g.params g.made (s.sizes.locals f) vs (back_in (caller_of u) inside) words ∙ passed_back vs u in
        further _ _ _ _ tt (further _ _ _ _ tt (subst (λ q. Reaches s (outcome (Value (Num (word_at g.gives a))) k (all_released (params_of (slice_get s.functions f)) vs (back_in (caller_of u) inside))) q) (λ i. outcome (Value (Num (outcome_word (word_at g.gives a) z e i))) k (st i)) (here _)))

    returned_word : (rest : TStmtTs) (x : TExprT) (a z : ℕ) → Some (word_at g.gives a) ≡ Some z → Reaches s (on (at_span (span_of x) (converted (result_of s (Some f)) (Num a))) (λ c. return_of (returned_in s m (result_of s (Some f)) Unwritten c inside) (waits rest))) (outcome (Value (Num z)) k (passed vs u))
    returned_word rest x a z e =
        let to : Config = outcome (Value (Num z)) k (passed vs u) in
        let r : result_of s (Some f) ≡ g.gives = ap (λ o. option_map_or (λ g. g.gives) o VoidY) is in
        subst (λ ty. Reaches s (on (at_span (span_of x) (converted ty (Num a))) (λ c. return_of (returned_in s m ty Unwritten c inside) (waits rest))) to) (sym r)
        (subst (λ q. Reaches s (on (at_span (span_of x) q) (λ c. return_of (returned_in s m g.gives Unwritten c inside) (waits rest))) to) (sym (word_converted g.gives a))
        (subst (λ b. Reaches s (return_of (if b then then_ok (cells_in nowhere m (type_words s g.gives) (Some (Num (word_at g.gives a))) Unwritten inside) (λ v. Ok (Unwritten, released g.gives (Num (word_at g.gives a)) v)) else Ok (Num (word_at g.gives a), inside)) (waits rest)) to) (sym (no_structure g.gives gives))
        (back_behind rest a z e)))

    holds : Holds vs inside
    unfolding Holds inside
    holds j b e = param_held vs j (Num b) u.objects (replicate (length (others vs (s.sizes.locals f))) None) e

    at_result : (x : TExprT) (rest : TStmtTs) (a z : ℕ) → Some (word_at g.gives a) ≡ Some z → Reaches s (on (at_span (span_of x) (converted (result_of s inside.function) (Num a))) (λ c. return_of (returned_in s m (result_of s inside.function) Unwritten c inside) (waits rest))) (outcome (Value (Num z)) k (passed vs u))
    unfolding inside
    at_result x rest a z e = returned_word rest x a z e

    body_reaches : (rest : TStmtTs) (x : TExprT) (a z : ℕ) → worth 6 vs x ≡ Some a → Some (word_at g.gives a) ≡ Some z → Reaches s (Going (DoF m Unwritten (ReturnZ (Some x))) (waits rest) inside) (outcome (Value (Num z)) k (passed vs u))
    unfolding step exec take_outcome value_step
    body_reaches rest x a z w e =
        let to : Config = outcome (Value (Num z)) k (passed vs u) in
        further _ _ _ _ tt (worth_reaches 6 vs x a inside holds w m (ValueW m Unwritten (ReturnZ (Some x))) (waits rest) to (λ v p.
        on_seen _ (Num a) inside (seen_taken s m x v inside (Num a) p) (λ t. on (at_span (span_of x) (converted (result_of s t.1.function) t.0)) (λ c. return_of (returned_in s m (result_of s t.1.function) Unwritten c t.1) (waits rest))) to (at_result x rest a z e)))

    entered_is : params_in s m 0 g.params vs (fresh_all s.sizes g.made (entered s.sizes f u)) ≡ Ok inside
    unfolding inside
    entered_is =
        ap (params_in s m 0 g.params vs) (all_made u.answers (Some f) (u.used + (s.sizes.frame f + 2)) s.sizes f 0 g.params g.made (s.sizes.locals f) vs [] u.objects [] refl refl refl words refl)
        ∙ all_params u.answers (Some f) (u.used + (s.sizes.frame f + 2)) s m 0 g.params g.made (s.sizes.locals f) vs u.objects [] (replicate (length (others vs (s.sizes.locals f))) None) words refl

    entered_reaches : (x : TExprT) (a z : ℕ) → returned_by g.body ≡ Some x → worth 6 vs x ≡ Some a → Some (word_at g.gives a) ≡ Some z → Reaches s (body_of s m f g vs Unwritten span k u) (outcome (Value (Num z)) k (passed vs u))
    unfolding waits
    entered_reaches x a z at w e =
        let to : Config = outcome (Value (Num z)) k (passed vs u) in
        returned_is g.body x at (λ rest b.
        subst (λ q. Reaches s (on q (λ t. rest_of m Unwritten g.body (BackW f vs Unwritten span (caller_of u) ∷ k) t)) to) (sym entered_is)
        (subst (λ q. Reaches s (rest_of m Unwritten q (BackW f vs Unwritten span (caller_of u) ∷ k) inside) to) (sym b)
        (body_reaches rest x a z w e)))

  quick_reaches : (n f : ℕ) (vs : List Cell) (span : Span) (k : List FrameT) (u : Store) (z : ℕ) → quick s n f vs u ≡ Some z → Reaches s (call s n f vs span k u) (outcome (Value (Num z)) k (passed vs u))
  unfolding quick quick_of
  quick_reaches zero f vs span k u z e = absurd cc
  quick_reaches (suc m) f vs span k u z e = when_of (ltb 0 (suc m)) _ z e (λ some e1. when_of (has_room s.sizes f u) _ z e1 (λ room e2. some_of (slice_get s.functions f) _ z e2 (λ g is e3.
      some_of (returned_by g.body) _ z e3 (λ x at e4. when_of (is_word g.gives) _ z e4 (λ gives e5. when_of (are_words 0 g.params g.made (s.sizes.locals f) vs) _ z e5 (λ words e6. some_of (worth 6 vs x) _ z e6 (λ a w e7.
      let to : Config = outcome (Value (Num z)) k (passed vs u) in
      subst (λ o. Reaches s (call_of s (suc m) f o vs span k u) to) (sym is)
      (subst (λ b. Reaches s (enter s (suc m) f g vs (if b then next_object u else Unwritten) span k (if b then with_temporary (type_words s g.gives) u else u)) to) (sym (no_structure g.gives gives))
      (subst (λ b. Reaches s (in_room b span (body_of s m f g vs Unwritten span k u)) to) (sym room)
      (entered_reaches m f g vs span k u is gives words x a z at w e7))))))))))

  call_reaches : (n f : ℕ) (vs : List Cell) (span : Span) (k : List FrameT) (u : Store) → Reaches s (call s n f vs span k u) (call_on s n f vs span k u)
  call_reaches n f vs span k u = by (quick s n f vs u) refl
    where
      by : (o : Option ℕ) → quick s n f vs u ≡ o → Reaches s (call s n f vs span k u) (word_or o (call s n f vs span k u) (λ z. outcome (Value (Num z)) k (passed vs u)))
      by None e = here _
      by (Some z) e = quick_reaches n f vs span k u z e

  -- arguments that come at once are taken one after another
  took_reaches : (n g : ℕ) (span : Span) (x : TExprT) (xs : TExprTs) (v : Outcome) (vs : List Cell) (k : List FrameT) (u : Store) → ((vs : List Cell) (u : Store) → Reaches s (args_of s n g span vs xs k u) (args_on s n g span vs xs k u)) →
      (t : With Cell) → Reaches s (on t (λ t. on (argument_in (slice_get (params_of (slice_get s.functions g)) (length vs)) x t.0) (λ z. args_of s n g span (vs ++ z ∷ []) xs k t.1)))
      (on {A = List Cell × Store} (then_ok t (λ t. then_ok (argument_in (slice_get (params_of (slice_get s.functions g)) (length vs)) x t.0) (λ z. Ok (vs ++ z ∷ [], t.1)))) (λ t. args_on s n g span t.0 xs k t.1))
  took_reaches n g span x xs v vs k u h (Err end) = here _
  took_reaches n g span x xs v vs k u h (Ok t) = by (argument_in (slice_get (params_of (slice_get s.functions g)) (length vs)) x t.0)
    where
      by : (r : Result Cell End) → Reaches s (on r (λ z. args_of s n g span (vs ++ z ∷ []) xs k t.1)) (on {A = List Cell × Store} (then_ok r (λ z. Ok (vs ++ z ∷ [], t.1))) (λ t. args_on s n g span t.0 xs k t.1))
      by (Ok z) = h _ _
      by (Err end) = here _

  args_reaches : (n g : ℕ) (span : Span) (xs : TExprTs) (k : List FrameT) (vs : List Cell) (u : Store) → Reaches s (args_of s n g span vs xs k u) (args_on s n g span vs xs k u)
  unfolding take_outcome
  args_reaches n g span NoX k vs u = call_reaches n g vs span k u
  args_reaches n g span (MoreX x xs) k vs u =
      handed_reaches n x (ArgumentW n g span vs (MoreX x xs)) k u (λ v. on (took s n g x v vs u) (λ t. args_on s n g span t.0 xs k t.1)) (λ v. took_reaches n g span x xs v vs k u (args_reaches n g span xs k) (taken s n x v u))

  argument_reaches : (n g : ℕ) (span : Span) (vs : List Cell) (xs : TExprTs) (v : Outcome) (k : List FrameT) (u : Store) → Reaches s (argument_step s n g span vs xs v k u) (argument_on s n g span vs xs v k u)
  argument_reaches n g span vs NoX v k u = here _
  argument_reaches n g span vs (MoreX x xs) v k u = took_reaches n g span x xs v vs k u (args_reaches n g span xs k) (taken s n x v u)

  eval_reaches : (n : ℕ) (e : TExprT) (k : List FrameT) (u : Store) → Reaches s (step s (EvalF n e) k u) (step_on s (EvalF n e) k u)
  unfolding step step_on eval eval_on
  eval_reaches n (Typed (UnaryK op a) ty span) k u = operand_reaches n (Typed (UnaryK op a) ty span) a k u
  eval_reaches n (Typed (BinaryK op a b) ty span) k u = operand_reaches n (Typed (BinaryK op a b) ty span) a k u
  eval_reaches n (Typed (AssignK op a b) ty span) k u = operand_reaches n (Typed (AssignK op a b) ty span) a k u
  eval_reaches n (Typed (StepK op a) ty span) k u = operand_reaches n (Typed (StepK op a) ty span) a k u
  eval_reaches n (Typed (IndexK a b) ty span) k u = operand_reaches n (Typed (IndexK a b) ty span) a k u
  eval_reaches n (Typed (MemberK a offset) ty span) k u = operand_reaches n (Typed (MemberK a offset) ty span) a k u
  eval_reaches n (Typed (ArrowK a offset) ty span) k u = operand_reaches n (Typed (ArrowK a offset) ty span) a k u
  eval_reaches n (Typed (CastK a) ty span) k u = operand_reaches n (Typed (CastK a) ty span) a k u
  eval_reaches n (Typed (OutK port a) ty span) k u = operand_reaches n (Typed (OutK port a) ty span) a k u
  eval_reaches n (Typed (NumberK x) ty span) k u = here _
  eval_reaches n (Typed NullK ty span) k u = here _
  eval_reaches n (Typed (LiteralK number) ty span) k u = here _
  eval_reaches n (Typed (GlobalK number) ty span) k u = here _
  eval_reaches n (Typed (LocalK number) ty span) k u = here _
  eval_reaches n (Typed (CallK g xs) ty span) k u = args_reaches n g span xs k [] u
  eval_reaches n (Typed (InK port) ty span) k u = here _
  eval_reaches n (Typed WaitK ty span) k u = here _
  eval_reaches n (Typed HaltK ty span) k u = here _
  eval_reaches n (Typed CardK ty span) k u = here _

  asks_reaches : (n : ℕ) (r : Cell) (a : TStmtT) (x : TExprT) (k : List FrameT) (u : Store) → Reaches s (Going (EvalF n x) (ValueW n r a ∷ k) u) (asks_on s n r a x k u)
  unfolding take_outcome
  asks_reaches n r a x k u = handed_reaches n x (ValueW n r a) k u (λ v. value_step s n r a v k u) (λ v. here _)

  -- the value is dropped behind the statement
  dropped_reaches : (n : ℕ) (r : Cell) (e : TExprT) (k : List FrameT) (t : With Cell) →
      Reaches s (value t (ValueW n r (DoZ e) ∷ k)) (on t (λ z. left On k (released (type_of e) z.0 z.1)))
  unfolding step take_outcome value_step
  dropped_reaches n r e k (Ok z) = further _ _ _ _ tt (here _)
  dropped_reaches n r e k (Err end) = here _

  assigns_reaches : (n : ℕ) (r : Cell) (op : Option BinOp) (x y : TExprT) (ty : Ty) (span : Span) (k : List FrameT) (u : Store) →
      Reaches s (Going (EvalF n (Typed (AssignK op x y) ty span)) (ValueW n r (DoZ (Typed (AssignK op x y) ty span)) ∷ k) u) (assigns_on s n r (DoZ (Typed (AssignK op x y) ty span)) (Typed (AssignK op x y) ty span) op x y k u)
  unfolding step eval take_outcome first_step second_step
  assigns_reaches n r op x y ty span k u = by (at_once s x u) refl (at_once s y u) refl
    where
      valued : (p : Cell) (t : With Cell) → Reaches s (on t (λ t. value (second_assigned_in s n op x y span p t.0 t.1) (ValueW n r (DoZ (Typed (AssignK op x y) ty span)) ∷ k))) (on t (λ t. on (second_assigned_in s n op x y span p t.0 t.1) (λ z. left On k (released ty z.0 z.1))))
      valued p t = on_reaches t (λ t. value (second_assigned_in s n op x y span p t.0 t.1) (ValueW n r (DoZ (Typed (AssignK op x y) ty span)) ∷ k)) (λ t. on (second_assigned_in s n op x y span p t.0 t.1) (λ z. left On k (released ty z.0 z.1))) (λ t. dropped_reaches n r (Typed (AssignK op x y) ty span) k (second_assigned_in s n op x y span p t.0 t.1))

      placed : (w : Outcome) → at_once s y u ≡ Some w → (q : Result Cell End) → Reaches s (on q (λ p. Going (EvalF n y) (SecondW n (Typed (AssignK op x y) ty span) p ∷ (ValueW n r (DoZ (Typed (AssignK op x y) ty span)) ∷ k)) u)) (on q (λ p. on (taken s n y w u) (λ t. on (second_assigned_in s n op x y span p t.0 t.1) (λ z. left On k (released ty z.0 z.1)))))
      placed w g q = on_reaches q (λ p. Going (EvalF n y) (SecondW n (Typed (AssignK op x y) ty span) p ∷ (ValueW n r (DoZ (Typed (AssignK op x y) ty span)) ∷ k)) u) (λ p. on (taken s n y w u) (λ t. on (second_assigned_in s n op x y span p t.0 t.1) (λ z. left On k (released ty z.0 z.1)))) (λ p. at_once_reaches y u w g n (SecondW n (Typed (AssignK op x y) ty span) p) (ValueW n r (DoZ (Typed (AssignK op x y) ty span)) ∷ k) _ (valued p (taken s n y w u)))

      by : (o : Option Outcome) → at_once s x u ≡ o → (q : Option Outcome) → at_once s y u ≡ q → Reaches s (Going (EvalF n (Typed (AssignK op x y) ty span)) (ValueW n r (DoZ (Typed (AssignK op x y) ty span)) ∷ k) u) (handed o (Going (EvalF n (Typed (AssignK op x y) ty span)) (ValueW n r (DoZ (Typed (AssignK op x y) ty span)) ∷ k) u) (λ v. handed q (on (placed_in span v) (λ p. Going (EvalF n y) (SecondW n (Typed (AssignK op x y) ty span) p ∷ (ValueW n r (DoZ (Typed (AssignK op x y) ty span)) ∷ k)) u)) (λ w. on (placed_in span v) (λ p. on (taken s n y w u) (λ t. on (second_assigned_in s n op x y span p t.0 t.1) (λ z. left On k (released ty z.0 z.1)))))))
      by None f q g = here _
      by (Some v) f None g = further _ _ _ _ tt (at_once_reaches x u v f n (FirstW n (Typed (AssignK op x y) ty span)) (ValueW n r (DoZ (Typed (AssignK op x y) ty span)) ∷ k) _ (here _))
      by (Some v) f (Some w) g = further _ _ _ _ tt (at_once_reaches x u v f n (FirstW n (Typed (AssignK op x y) ty span)) (ValueW n r (DoZ (Typed (AssignK op x y) ty span)) ∷ k) _ (placed w g (placed_in span v)))

  steps_reaches : (n : ℕ) (r : Cell) (op : StepOp) (x : TExprT) (ty : Ty) (span : Span) (k : List FrameT) (u : Store) →
      Reaches s (Going (EvalF n (Typed (StepK op x) ty span)) (ValueW n r (DoZ (Typed (StepK op x) ty span)) ∷ k) u) (steps_on s n r (DoZ (Typed (StepK op x) ty span)) (Typed (StepK op x) ty span) op x k u)
  unfolding step eval take_outcome first_step
  steps_reaches n r op x ty span k u = by (at_once s x u) refl
    where
      placed : (q : Result Cell End) → Reaches s (on q (λ p. value (stepped_in s n op x span p u) (ValueW n r (DoZ (Typed (StepK op x) ty span)) ∷ k))) (on q (λ p. on (stepped_in s n op x span p u) (λ z. left On k (released ty z.0 z.1))))
      placed q = on_reaches q (λ p. value (stepped_in s n op x span p u) (ValueW n r (DoZ (Typed (StepK op x) ty span)) ∷ k)) (λ p. on (stepped_in s n op x span p u) (λ z. left On k (released ty z.0 z.1))) (λ p. dropped_reaches n r (Typed (StepK op x) ty span) k (stepped_in s n op x span p u))

      by : (o : Option Outcome) → at_once s x u ≡ o → Reaches s (Going (EvalF n (Typed (StepK op x) ty span)) (ValueW n r (DoZ (Typed (StepK op x) ty span)) ∷ k) u) (handed o (Going (EvalF n (Typed (StepK op x) ty span)) (ValueW n r (DoZ (Typed (StepK op x) ty span)) ∷ k) u) (λ v. on (placed_in span v) (λ p. on (stepped_in s n op x span p u) (λ z. left On k (released ty z.0 z.1)))))
      by None f = here _
      by (Some v) f = further _ _ _ _ tt (at_once_reaches x u v f n (FirstW n (Typed (StepK op x) ty span)) (ValueW n r (DoZ (Typed (StepK op x) ty span)) ∷ k) _ (placed (placed_in span v)))

  does_reaches : (n : ℕ) (r : Cell) (e : TExprT) (k : List FrameT) (u : Store) → Reaches s (Going (EvalF n e) (ValueW n r (DoZ e) ∷ k) u) (does_on s n r (DoZ e) e k u)
  unfolding does_on
  does_reaches n r (Typed (AssignK op x y) ty span) k u = assigns_reaches n r op x y ty span k u
  does_reaches n r (Typed (StepK op x) ty span) k u = steps_reaches n r op x ty span k u
  does_reaches n r (Typed (NumberK x) ty span) k u = here _
  does_reaches n r (Typed NullK ty span) k u = here _
  does_reaches n r (Typed (LiteralK number) ty span) k u = here _
  does_reaches n r (Typed (GlobalK number) ty span) k u = here _
  does_reaches n r (Typed (LocalK number) ty span) k u = here _
  does_reaches n r (Typed (UnaryK op a) ty span) k u = here _
  does_reaches n r (Typed (BinaryK op a b) ty span) k u = here _
  does_reaches n r (Typed (IndexK a b) ty span) k u = here _
  does_reaches n r (Typed (MemberK a offset) ty span) k u = here _
  does_reaches n r (Typed (ArrowK a offset) ty span) k u = here _
  does_reaches n r (Typed (CastK a) ty span) k u = here _
  does_reaches n r (Typed (CallK g xs) ty span) k u = here _
  does_reaches n r (Typed (InK port) ty span) k u = here _
  does_reaches n r (Typed (OutK port a) ty span) k u = here _
  does_reaches n r (Typed WaitK ty span) k u = here _
  does_reaches n r (Typed HaltK ty span) k u = here _
  does_reaches n r (Typed CardK ty span) k u = here _

  exec_reaches : (n : ℕ) (r : Cell) (a : TStmtT) (k : List FrameT) (u : Store) → Reaches s (step s (DoF n r a) k u) (step_on s (DoF n r a) k u)
  unfolding step step_on exec exec_on
  exec_reaches n r (BlockZ made body) k u = here _
  exec_reaches n r EmptyZ k u = here _
  exec_reaches n r (VarsZ vars) k u = here _
  exec_reaches n r (DoZ e) k u = does_reaches n r e k u
  exec_reaches n r (IfZ x a b) k u = asks_reaches n r (IfZ x a b) x k u
  exec_reaches n r (WhileZ x a) k u = asks_reaches n r (WhileZ x a) x k u
  exec_reaches n r (DoWhileZ a x) k u = here _
  exec_reaches n r (ForZ made first test next a) k u = here _
  exec_reaches n r (SwitchZ x made arms) k u = asks_reaches n r (SwitchZ x made arms) x k u
  exec_reaches n r (ReturnZ None) k u = here _
  exec_reaches n r (ReturnZ (Some x)) k u = asks_reaches n r (ReturnZ (Some x)) x k u
  exec_reaches n r BreakZ k u = here _
  exec_reaches n r ContinueZ k u = here _

  outcome_reaches : (v : Outcome) (f : FrameT) (k : List FrameT) (u : Store) → Reaches s (step s (OutcomeF v) (f ∷ k) u) (step_on s (OutcomeF v) (f ∷ k) u)
  unfolding step step_on take_outcome_on take_outcome
  outcome_reaches v (FirstW n e) k u = first_reaches n e v k u
  outcome_reaches v (SecondW n e c) k u = here _
  outcome_reaches v (ArgumentW n f span vs xs) k u = argument_reaches n f span vs xs v k u
  outcome_reaches v (BackW f vs r span c) k u = here _
  outcome_reaches v (ValueW n r a) k u = here _
  outcome_reaches v (StepW n r a) k u = here _
  outcome_reaches v (BodyW n r a) k u = here _
  outcome_reaches v (BeginW n r a) k u = here _
  outcome_reaches v (RestW n r rest) k u = here _
  outcome_reaches v (ArmsW n r rest) k u = here _
  outcome_reaches v (EndW made) k u = here _
  outcome_reaches v SwitchW k u = here _
  outcome_reaches v (OneW n ty x p) k u = here _
  outcome_reaches v (ItemsW n rest ty j p) k u = here _
  outcome_reaches v (VarsW n vars) k u = here _
  outcome_reaches v FilledW k u = here _
  outcome_reaches v (MainW n main) k u = here _

  again_reaches : (n : ℕ) (r : Cell) (x : TExprT) (a : TStmtT) (k : List FrameT) (u : Store) → Reaches s (again n r (WhileZ x a) (Some x) a k u) (again_on s n r (WhileZ x a) x k u)
  again_reaches zero r x a k u = here _
  again_reaches (suc m) r x a k u = asks_reaches m r (WhileZ x a) x k u

  while_reaches : (n : ℕ) (r : Cell) (x : TExprT) (a : TStmtT) (h : How) (k : List FrameT) (u : Store) → Reaches s (after_body h k u (again n r (WhileZ x a) (Some x) a k u)) (after_body h k u (again_on s n r (WhileZ x a) x k u))
  while_reaches n r x a On k u = again_reaches n r x a k u
  while_reaches n r x a Break k u = here _
  while_reaches n r x a Continue k u = again_reaches n r x a k u
  while_reaches n r x a (Return z) k u = here _

  loop_reaches : (n : ℕ) (r : Cell) (a : TStmtT) (h : How) (k : List FrameT) (u : Store) → Reaches s (body_step n r a h k u) (body_on s n r a h k u)
  unfolding body_step body_on
  loop_reaches n r (BlockZ made body) h k u = here _
  loop_reaches n r EmptyZ h k u = here _
  loop_reaches n r (VarsZ vars) h k u = here _
  loop_reaches n r (DoZ e) h k u = here _
  loop_reaches n r (IfZ x a b) h k u = here _
  loop_reaches n r (WhileZ x a) h k u = while_reaches n r x a h k u
  loop_reaches n r (DoWhileZ a x) h k u = here _
  loop_reaches n r (ForZ made first test next a) h k u = here _
  loop_reaches n r (SwitchZ x made arms) h k u = here _
  loop_reaches n r (ReturnZ x) h k u = here _
  loop_reaches n r BreakZ h k u = here _
  loop_reaches n r ContinueZ h k u = here _

  exit_reaches : (h : How) (f : FrameT) (k : List FrameT) (u : Store) → Reaches s (step s (ExitF h) (f ∷ k) u) (step_on s (ExitF h) (f ∷ k) u)
  unfolding step step_on take_exit_on take_exit
  exit_reaches h (FirstW n e) k u = here _
  exit_reaches h (SecondW n e c) k u = here _
  exit_reaches h (ArgumentW n f span vs xs) k u = here _
  exit_reaches h (BackW f vs r span c) k u = here _
  exit_reaches h (ValueW n r a) k u = here _
  exit_reaches h (StepW n r a) k u = here _
  exit_reaches h (BodyW n r a) k u = loop_reaches n r a h k u
  exit_reaches h (BeginW n r a) k u = here _
  exit_reaches h (RestW n r rest) k u = here _
  exit_reaches h (ArmsW n r rest) k u = here _
  exit_reaches h (EndW made) k u = here _
  exit_reaches h SwitchW k u = here _
  exit_reaches h (OneW n ty x p) k u = here _
  exit_reaches h (ItemsW n rest ty j p) k u = here _
  exit_reaches h (VarsW n vars) k u = here _
  exit_reaches h FilledW k u = here _
  exit_reaches h (MainW n main) k u = here _

  -- what follows a step at once is reached from it
  pub step_reaches : (f : FocusT) (k : List FrameT) (u : Store) → Reaches s (step s f k u) (step_on s f k u)
  unfolding step_on
  step_reaches (EvalF n e) k u = eval_reaches n e k u
  step_reaches (FillF n i ty p) k u = here _
  step_reaches (DoF n r a) k u = exec_reaches n r a k u
  step_reaches (OutcomeF v) [] u = here _
  step_reaches (OutcomeF v) (f ∷ k) u = outcome_reaches v f k u
  step_reaches (MadeF e v) k u = here _
  step_reaches (ExitF h) [] u = here _
  step_reaches (ExitF h) (f ∷ k) u = exit_reaches h f k u
  step_reaches FullF k u = here _
