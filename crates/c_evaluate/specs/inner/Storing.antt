-- What the parts of a step do to a store: the definitions of the meaning without port operations and work.
use Rattle.std.specs.Prelude.{ℕ, zero, suc, ◌+◌, ◌-◌, ◌*◌, Bool, true, false, List, [], ◌∷◌, Option, Some, None, option_map, Result, Ok, Err, if◌then◌else◌}
use Rattle.c_tree.specs.declared.span.Span.{Span}
use Rattle.c_tree.specs.declared.operator.StepOp.{StepOp}
use Rattle.c_tree.specs.declared.operator.BinOp.{BinOp}
use Rattle.c_types.specs.Types.{Ty, VoidY, IntY, BoolY, EnumY, StructY, UnionY, PointerY, ArrayY}
use Rattle.c_types.specs.Typed.{TExprT}
use Rattle.obj_mem.specs.declared.cell.Cell.{Cell}
use Rattle.obj_mem.specs.declared.cell.Cell.TheVariants.{Num}
use Rattle.obj_mem.specs.declared.refusal.Refusal.TheVariants.{Strays, Faults}
use Rattle.obj_mem.specs.Stores.{Store, local_object, with_objects, with_temporary, next_object}
use Rattle.obj_mem.specs.Queries.{Answer, write, further, first_cell}
use Rattle.c_meaning.specs.declared.end.End.{End}
use Rattle.c_meaning.specs.declared.end.End.TheVariants.{Fault, Stray, OutOfBound}
use Rattle.c_meaning.specs.Outcomes.{nowhere}
use Rattle.c_meaning.specs.Kinds.{type_of, span_of}
use Rattle.c_types.specs.Kinds.{is_structure, decayed}
use Rattle.c_meaning.specs.Setting.{Setting, words, literal_at, literal_words}
use Rattle.c_meaning.specs.Operators.{read_as, converted, is_true, operated}
use Rattle.c_meaning.specs.Cells.{cell_set, end_temporary, released}
use Rattle.c_meaning.specs.Expressions.{step_operator, gives_old}
use Rattle.c_evaluate.specs.declared.frame.Outcome.{Outcome}
use Rattle.c_evaluate.specs.declared.frame.Outcome.TheVariants.{Value, Place, Nothing}

-- A store, or how the run ends there; and a value with it.
abbrev pub Kept : Type 0
Kept = Result Store End

abbrev pub With : Type 0 → Type 0
With A = Result (A × Store) End

-- an answer, with the tokens where a program strays
abbrev pub at_span : {A : Type 0} → Span → Answer A → Result A End
at_span span (Ok x) = Ok x
at_span span (Err Strays) = Err (Stray span)
at_span span (Err (Faults k)) = Err (Fault k)

abbrev pub then_ok : {A B : Type 0} → Result A End → (A → Result B End) → Result B End
then_ok (Ok x) go = go x
then_ok (Err end) go = Err end

-- ---- loops over cells

abbrev pub next_in : (left bound : ℕ) → Store → (ℕ → Kept) → Kept
next_in zero n u go = Ok u
next_in (suc left) zero u go = Err OutOfBound
next_in (suc left) (suc n) u go = go n

abbrev pub cells_in : Span → (bound count : ℕ) → (from : Option Cell) → (to : Cell) → Store → Kept
cells_in span n zero from to u = Ok u
cells_in span n (suc left) from to u =
    then_ok (at_span span (cell_set from to u.objects)) (λ os.
    next_in left n (with_objects os u) (λ m. cells_in span m left (option_map (λ p. further p 1) from) (further to 1) (with_objects os u)))

-- ---- reading and storing

abbrev pub structure_in : Span → (bound size : ℕ) → Cell → Store → With Cell
structure_in span n size p u = then_ok (cells_in span n size (Some p) (next_object u) (with_temporary size u)) (λ v. Ok (next_object u, v))

abbrev pub scalar_in : Ty → Span → Cell → Store → With Cell
scalar_in ty span p u = then_ok (at_span span (read_as ty u.objects p)) (λ c. Ok (c, u))

abbrev pub fetched_in : Setting → (bound : ℕ) → Ty → Span → Cell → Store → With Cell
fetched_in s n VoidY span p u = Err (Stray span)
fetched_in s n IntY span p u = scalar_in IntY span p u
fetched_in s n BoolY span p u = scalar_in BoolY span p u
fetched_in s n (EnumY number) span p u = scalar_in (EnumY number) span p u
fetched_in s n (StructY number) span p u = structure_in span n (words s (StructY number)) p u
fetched_in s n (UnionY number) span p u = structure_in span n (words s (UnionY number)) p u
fetched_in s n (PointerY to) span p u = scalar_in (PointerY to) span p u
fetched_in s n (ArrayY of len) span p u = Ok (p, u)

abbrev pub stored_in : Setting → (bound : ℕ) → Ty → Span → (place value : Cell) → Store → Kept
stored_in s n ty span p c u =
    if is_structure ty then cells_in span n (words s ty) (Some c) p u
    else then_ok (at_span span (write u.objects p c)) (λ os. Ok (with_objects os u))

-- ---- what came of an expression, used

-- its value
abbrev pub taken : Setting → (bound : ℕ) → TExprT → Outcome → Store → With Cell
taken s n x (Value c) u = Ok (c, u)
taken s n x (Place p) u = fetched_in s n (type_of x) (span_of x) p u
taken s n x Nothing u = Err (Stray (span_of x))

-- as a condition
abbrev pub tested_in : Setting → (bound : ℕ) → TExprT → Outcome → Store → With Bool
tested_in s n x v u = then_ok (taken s n x v u) (λ t. then_ok (at_span (span_of x) (is_true t.1.objects (decayed (type_of x)) t.0)) (λ b. Ok (b, t.1)))

-- not at all
abbrev pub dropped_in : Setting → (bound : ℕ) → TExprT → Outcome → Store → Kept
dropped_in s n x (Value c) u = Ok (released (type_of x) c u)
dropped_in s n x (Place p) u = then_ok (fetched_in s n (type_of x) (span_of x) p u) (λ t. Ok (released (type_of x) t.0 t.1))
dropped_in s n x Nothing u = Ok u

-- as a place
abbrev pub placed_in : Span → Outcome → Result Cell End
placed_in span (Value c) = Err (Stray span)
placed_in span (Place p) = Ok p
placed_in span Nothing = Err (Stray span)

-- ---- operators, assignments, members

abbrev pub operated_in : Setting → BinOp → (x y : TExprT) → Span → (c d : Cell) → Store → Result Cell End
operated_in s op x y span c d u = at_span span (operated s op (type_of x) (type_of y) u.objects c d)

abbrev pub assigned_in : Setting → (bound : ℕ) → TExprT → Span → (place value : Cell) → Store → With Cell
assigned_in s n x span p c u =
    then_ok (at_span span (converted (type_of x) c)) (λ z.
    then_ok (stored_in s n (type_of x) (span_of x) p z u) (λ v. Ok (z, v)))

-- the old cell is read, and comes through the operator to the new one
abbrev pub changed_in : Setting → BinOp → TExprT → Ty → Span → (place value : Cell) → Store → Result (Cell × Cell) End
changed_in s op x ty span p c u =
    then_ok (at_span (span_of x) (read_as (type_of x) u.objects p)) (λ old.
    then_ok (at_span span (operated s op (type_of x) ty u.objects old c)) (λ z. Ok (old, z)))

abbrev pub either : Bool → Cell → Cell → Cell
either true c d = c
either false c d = d

abbrev pub stepped_in : Setting → (bound : ℕ) → StepOp → TExprT → Span → (place : Cell) → Store → With Cell
stepped_in s n op x span p u =
    then_ok (changed_in s (step_operator op) x IntY span p (Num 1) u) (λ z.
    then_ok (assigned_in s n x span p z.1 u) (λ v. Ok (either (gives_old op) z.0 v.0, v.1)))

abbrev pub second_assigned_in : Setting → (bound : ℕ) → Option BinOp → (x y : TExprT) → Span → (place value : Cell) → Store → With Cell
second_assigned_in s n None x y span p c u = assigned_in s n x span p c u
second_assigned_in s n (Some op) x y span p c u = then_ok (changed_in s op x (type_of y) span p c u) (λ z. assigned_in s n x span p z.1 u)

abbrev pub member_in : Ty → Span → (member : Cell) → Store → With Cell
member_in ty span p u =
    if is_structure ty then Ok (p, u)
    else then_ok (at_span span (read_as ty u.objects p)) (λ c. Ok (c, end_temporary p u))

-- ---- initialisers

abbrev pub one_in : Setting → (bound : ℕ) → Ty → (place value : Cell) → Store → Kept
one_in s n ty p c u =
    then_ok (at_span nowhere (converted ty c)) (λ z.
    then_ok (stored_in s n ty nowhere p z u) (λ v. Ok (released ty z v)))

abbrev pub text_in : Setting → (bound number size : ℕ) → (place : Cell) → Store → Kept
text_in s n number size p u =
    then_ok (cells_in nowhere n (literal_words s number) (Some (literal_at s number)) p u) (λ v.
    cells_in nowhere n (size - literal_words s number) None (further p (literal_words s number)) v)

abbrev pub rest_in : Setting → (bound : ℕ) → Ty → (k : ℕ) → (place : Cell) → Store → Kept
rest_in s n (ArrayY of len) k p u = cells_in nowhere n (words s of * (len - k)) None p u
rest_in s n _ k p u = Ok u

-- ---- calls

abbrev pub params_in : Setting → (bound number : ℕ) → List Ty → List Cell → Store → Kept
params_in s n k [] [] u = Ok u
params_in s n k (ty ∷ tys) (c ∷ cs) u =
    then_ok (at_span nowhere (first_cell (local_object u.locals k))) (λ p.
    then_ok (stored_in s n ty nowhere p c u) (λ v. params_in s n (k + 1) tys cs v))
params_in s n k _ _ u = Err (Stray nowhere)

-- what is returned: a structure by its place
abbrev pub returned_in : Setting → (bound : ℕ) → Ty → (result value : Cell) → Store → With Cell
returned_in s n ty r c u =
    if is_structure ty then then_ok (cells_in nowhere n (words s ty) (Some c) r u) (λ v. Ok (r, released ty c v))
    else Ok (c, u)
