-- What the program's names and scopes stand for.
use Rattle.std.specs.Prelude.{ℕ, List, map}
use Rattle.c_types.specs.declared.ctype.CType.{CType}
use Rattle.c_types.specs.declared.typed.TKind.{TKind, fold-TKind}
use Rattle.c_types.specs.Types.{Ty}
use Rattle.c_types.specs.Typed.{TExprT, TKindT}
use Rattle.c_types.specs.View.{ctype, layout, kind_layer, texpr_layer}
use Rattle.c_exprs.specs.Env.{Text, LocalD, Decl as DeclT, TypeD, ConstantD, GlobalD, FunctionD, Ctx}
use Rattle.c_exprs.specs.declared.names.Local.{Local}
use Rattle.c_exprs.specs.declared.names.Decl.{Decl}
use Rattle.c_exprs.specs.declared.names.Decl.TheVariants.{Alias, Constant, Object, Function}
use Rattle.c_exprs.specs.declared.names.Scope.{Scope}
use Rattle.c_exprs.specs.declared.names.Globals.{Globals}

abbrev pub local : Local → LocalD
local l = record { number = l.number; ty = ctype l.ty }

abbrev pub decl : Decl → DeclT
decl (Alias counted) = TypeD (ctype counted.ty)
decl (Constant n) = ConstantD n
decl (Object number ty) = GlobalD number (ctype ty)
decl (Function params gives) = FunctionD (map ctype params) (ctype gives)

abbrev pub scope : Scope → List (Text × LocalD)
scope s = map (λ e. (e.0, local e.1)) s.names.entries

abbrev pub names : Globals → List (Text × DeclT)
names g = map (λ e. (e.0, decl e.1)) g.names.entries

abbrev pub bodies : Globals → List (Text × ℕ)
bodies g = map (λ e. (e.0, e.1)) g.bodies.entries

abbrev pub ctx : Globals → List Scope → Ctx
ctx g ss = record { layouts = map layout g.layouts.items; whole = g.whole.items; names = names g; bodies = bodies g; scopes = map scope ss }

-- what a call is, and the type of what it gives
abbrev pub tkind : TKind → TKindT
tkind = fold-TKind TKindT TExprT kind_layer texpr_layer

abbrev pub called : TKind × CType → TKindT × Ty
called r = (tkind r.0, ctype r.1)
