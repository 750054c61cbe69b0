-- The typing of an `if` and of a `for`, from its parts.
use Rattle.std.proofs.Common.{◌≡◌, Bool, true, Option, Ok, refl}
use Rattle.c_tree.specs.declared.span.Span.{Span}
use Rattle.c_tree.specs.Tree.{ExprT, StmtT, IfS, ForS, MaybeS}
use Rattle.c_types.specs.Typed.{TExprT, TStmtT, IfZ, ForZ, MaybeZ}
use Rattle.c_rules.specs.declared.code.Code.TheVariants.{WrongType}
use Rattle.c_exprs.specs.Faults.{demanded}
use Rattle.c_stmts.specs.State.{Fn, St, opened, left, made, is_condition_of, is_test}
use Rattle.c_stmts.specs.StatementTyping.{value_in, maybe_value, statement, maybe_statement}

pub if_so : (f : Fn) (sp sq sr su : St) (breaks continues : Bool) (e : ExprT) (a : StmtT) (o : MaybeS) (s : Span) (x : TExprT) (y : TStmtT) (z : MaybeZ) (r : TStmtT) → value_in f sp e ≡ Ok (x, sq) → statement f sq breaks continues a ≡ Ok (y, sr)
    → maybe_statement f sr breaks continues o ≡ Ok (z, su) → demanded s WrongType (is_condition_of x) ≡ Ok tt → r ≡ IfZ x y z → statement f sp breaks continues (IfS e a o s) ≡ Ok (r, su)
if_so f sp sq sr su breaks continues e a o s x y z r e1 e2 e3 e4 e5 = rw (e1, e2, e3, e4, e5) refl

pub for_so : (f : Fn) (sp sq sr su sv sw : St) (breaks continues : Bool) (first : MaybeS) (test step : Option ExprT) (a : StmtT) (s : Span) (x : MaybeZ) (y z : Option TExprT) (w r : TStmtT) → maybe_statement f (opened sp) breaks continues first ≡ Ok (x, sq)
    → maybe_value f sq test ≡ Ok (y, sr) → maybe_value f sr step ≡ Ok (z, su) → statement f su true true a ≡ Ok (w, sv) → demanded s WrongType (is_test y) ≡ Ok tt → r ≡ ForZ (made sv) x y z w → sw ≡ left sv
    → statement f sp breaks continues (ForS first test step a s) ≡ Ok (r, sw)
for_so f sp sq sr su sv sw breaks continues first test step a s x y z w r e1 e2 e3 e4 e5 e6 e7 = rw (e1, e2, e3, e4, e5, e6, e7) refl
