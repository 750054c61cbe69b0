-- What is read leaves fewer tokens.
use Rattle.std.proofs.Common.{◌≡◌, ℕ, ◌<◌, Bool, true, false, List, length, Option, Some, Ok, ap, arith}
use Rattle.c_tree.specs.Tree.{ExprT, TypeT, InitT, VarT, StmtT, ArmT, ItemT}
use Rattle.c_parse.specs.Tok.{Tok}
use Rattle.c_parse.specs.Scope.{Context, span}
use Rattle.c_parse.specs.inner.Reader.{Got, behind, name, at_assign}
use Rattle.c_parse.specs.inner.ReadingDeclarations.{init_at, bare_var, field, var_by, var, member_at, param_at, value}
use Rattle.c_parse.specs.inner.ReadingStatements.{stmt_read, arm_read}
use Rattle.c_parse.specs.inner.ReadingUnits.{item_read}
use Rattle.c_parse.proofs.FrontsRead as f
use Rattle.c_parse.proofs.FrontsRead.{bind_ok, ok_at}
use Rattle.c_parse.proofs.SoundDeclarations.{init_derived, member_derived, param_derived, value_derived}
use Rattle.c_parse.proofs.SoundStatements.{stmt_derived, arm_derived}
use Rattle.c_parse.proofs.SoundUnits.{item_sound}
use Rattle.c_parse.proofs.DeclReads.{init_shorter, member_shorter, param_shorter, value_shorter}
use Rattle.c_parse.proofs.StmtReads.{stmt_shorter, arm_shorter}
use Rattle.c_parse.proofs.UnitReads.{item_shorter}
use Rattle.c_parse.proofs.Turns.{behind_up}

pub init_less : (c : Context) (n : ℕ) (ts : List Tok) (x : Got InitT) → init_at c n ts ≡ Ok x → length x.1 < length ts
init_less c n ts x e = init_shorter (init_derived c n ts x e).derived

pub name_less : (c : Context) (ts : List Tok) (x : Got (List ℕ)) → name c ts ≡ Ok x → length x.1 < length ts
name_less c ts x e = omega (arith, ap length (f.name-is c ts x e).0)

pub field_less : (c : Context) (y : TypeT) (ts : List Tok) (x : Got VarT) → field c y ts ≡ Ok x → length x.1 < length ts
field_less c y ts x e =
    let a = bind_ok (name c ts) _ x e in
    ok_at (λ (z : Got VarT). length z.1 < length ts) (bare_var c y a.0.0 ts a.0.1, a.0.1) x a.2 (name_less c ts a.0 a.1)

pub var_less : (c : Context) (n : ℕ) (y : TypeT) (ts : List Tok) (x : Got VarT) → var c n y ts ≡ Ok x → length x.1 < length ts
var_less c n y ts x e =
    let a = bind_ok (name c ts) _ x e in
    step a.0 (name_less c ts a.0 a.1) (at_assign a.0.1) a.2
  where
    step : (w : Got (List ℕ)) → length w.1 < length ts → (b : Bool) → var_by c n y ts w b ≡ Ok x → length x.1 < length ts
    step w less false e' = ok_at (λ (z : Got VarT). length z.1 < length ts) (bare_var c y w.0 ts w.1, w.1) x e' less
    step w less true e' =
        let v = bind_ok (init_at c n (behind w.1)) _ x e' in
        ok_at (λ (z : Got VarT). length z.1 < length ts) (record { ty = y; name = w.0; init = Some v.0.0; span = span c ts v.0.1 }, v.0.1) x v.2
        (omega (arith, less, init_less c n (behind w.1) v.0 v.1, behind_up w.1))

pub member_less : (c : Context) (n : ℕ) (ts : List Tok) (x : Got (List VarT)) → member_at c n ts ≡ Ok x → length x.1 < length ts
member_less c n ts x e = member_shorter (member_derived c n ts x e).derived

pub param_less : (c : Context) (n : ℕ) (ts : List Tok) (x : Got VarT) → param_at c n ts ≡ Ok x → length x.1 < length ts
param_less c n ts x e = param_shorter (param_derived c n ts x e).derived

pub value_less : (c : Context) (n : ℕ) (ts : List Tok) (x : Got (List ℕ × Option ExprT)) → value c n ts ≡ Ok x → length x.1 < length ts
value_less c n ts x e = value_shorter (value_derived c n ts x e).derived

pub stmt_less : (c : Context) (n : ℕ) (ts : List Tok) (x : Got StmtT) → stmt_read c n ts ≡ Ok x → length x.1 < length ts
stmt_less c n ts x e = stmt_shorter (stmt_derived c n ts x e).derived

pub arm_less : (c : Context) (n : ℕ) (ts : List Tok) (x : Got ArmT) → arm_read c n ts ≡ Ok x → length x.1 < length ts
arm_less c n ts x e = arm_shorter (arm_derived c n ts x e).derived

pub item_less : (c : Context) (n : ℕ) (ts : List Tok) (x : Got ItemT) → 0 < n → item_read c n ts ≡ Ok x → length x.1 < length ts
item_less c n ts x pos e = item_shorter (item_sound c n ts x pos e).derived
