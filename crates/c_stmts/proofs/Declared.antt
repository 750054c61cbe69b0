-- A variable that is declared, from its parts.
use Rattle.std.proofs.Common.{◌≡◌, ℕ, Option, Ok, refl, length, List, false}
use Rattle.c_tree.specs.Tree.{VarT}
use Rattle.c_types.specs.Types.{Ty}
use Rattle.c_types.specs.Typed.{TInitT, TVarT}
use Rattle.c_exprs.specs.Faults.{placed}
use Rattle.c_stmts.specs.State.{Fn, St, is_new, entered, locals_limit, object_size, sized, filled_var}
use Rattle.c_stmts.specs.StatementTyping.{type_in, maybe_filled, declared}

pub declared_so : (f : Fn) (sp sq sr : St) (v : VarT) (t : Ty) (i : Option TInitT) (n : ℕ) (x : List TVarT) → type_in f sp v.span v.ty ≡ Ok (t, sq) → maybe_filled f (entered v.name t sq) t v.init ≡ Ok (i, sr)
    → placed v.span (object_size f.layouts f.whole locals_limit sp.used (is_new v.name sp) t) ≡ Ok n → x ≡ filled_var false (length sp.sizes) t i → declared f sp v ≡ Ok (x, sized n sr)
unfolding declared
declared_so f sp sq sr v t i n x e1 e2 e3 e4 = rw (e1, e2, e3, e4) refl
