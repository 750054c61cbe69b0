-- What the proofs on items use of expressions, initialisers and bodies, with all that it is about told.
use Rattle.std.proofs.Common.{◌≡◌, Bool, true, false, List, Option, Some}
use Rattle.c_tree.specs.declared.span.Span.{Span}
use Rattle.c_tree.specs.Tree.{ExprT, TypeT, InitT, StmtTs}
use Rattle.c_types.specs.Types.{Ty}
use Rattle.c_types.specs.Typed.{TExprT, TInitT, TStmtTs}
use Rattle.c_rules.specs.Sizes.{is_whole}
use Rattle.c_exprs.specs.Env.{Text, Ctx}
use Rattle.c_exprs.specs.Types.{Values, Names}
use Rattle.c_stmts.specs.State.{Fn, St}
use Rattle.c_stmts.specs.InitTypes.{Fills}
use Rattle.c_stmts.specs.StatementTypes.{Statements}
use Rattle.c_facts.specs.Sound.{Scene, IsKnown, IsSized, IsTypedValue, FillsAs, AreStatements}
use Rattle.c_facts.proofs.Within.{Begins, Grows, AreMeant, AreBodies, InScopes, Within, MembersWhole, MembersKnown}
use Rattle.c_facts.proofs.Beginnings.{value_begins, name_begins}
use Rattle.c_facts.proofs.Expressions.{value_sound, type_sound}
use Rattle.c_facts.proofs.Initialisers.{fills_texts, init_sound}
use Rattle.c_facts.proofs.ObjectTypes.{StatementsTold}
use Rattle.c_facts.proofs.Spending.{Spends, statements_spend}
use Rattle.c_facts.proofs.Statements.{body_sound}

-- ---- expressions

pub value_is : (s : Scene) (c : Ctx) (ts us : List Text) (e : ExprT) (x : TExprT) → Within c s → Values c ts e x us → Begins us s.literals → IsTypedValue s x
value_is s c ts us e x w g b = value_sound s w g b

pub name_is : (s : Scene) (c : Ctx) (ts us : List Text) (p : Span) (of : TypeT) (ty : Ty) → Within c s → Names c ts p of ty us → Begins us s.literals → IsKnown s.layouts s.whole ty
name_is s c ts us p of ty w g b = type_sound s w g

pub value_texts : (c : Ctx) (ts us : List Text) (e : ExprT) (x : TExprT) → Values c ts e x us → Begins ts us
value_texts c ts us e x g = value_begins g

pub name_texts : (c : Ctx) (ts us : List Text) (p : Span) (of : TypeT) (ty : Ty) → Names c ts p of ty us → Begins ts us
name_texts c ts us p of ty g = name_begins g

-- ---- initialisers and bodies

pub fills_are : (s : Scene) (c : Ctx) (ts us : List Text) (global : Bool) (ty : Ty) (i : InitT) (x : TInitT) → Within c s → MembersWhole c.layouts c.whole → is_whole c.whole ty ≡ true → IsSized s.layouts s.whole ty → Fills c ts global (Some ty) i x us → Begins us s.literals → FillsAs s global x (Some ty)
fills_are s c ts us global ty i x w m whole sized g b = init_sound s w m g b sized.known whole

pub filled_texts : (c : Ctx) (ts us : List Text) (global : Bool) (target : Option Ty) (i : InitT) (x : TInitT) → Fills c ts global target i x us → Begins ts us
filled_texts c ts us global target i x g = fills_texts g

pub body_is : (s : Scene) (f : Fn) (sp sq : St) (body : StmtTs) (x : TStmtTs) → Grows f.layouts f.whole s.layouts s.whole → AreMeant s f.names → AreBodies s f.names f.bodies → MembersKnown s → MembersWhole f.layouts f.whole → InScopes s sp.scopes
    → (g : Statements f sp false false body x sq) → StatementsTold s.local_types g → Begins sq.sizes s.locals → Begins sq.texts s.literals → AreStatements s x f.gives false false
body_is s f sp sq body x grows names bodies members whole scopes g told sizes texts = body_sound s (record { grows = grows; names = names; bodies = bodies; members = members; whole = whole }) g told scopes sizes texts

pub spends_are : (f : Fn) (sp sq : St) (breaks continues : Bool) (body : StmtTs) (x : TStmtTs) → Statements f sp breaks continues body x sq → Spends sp sq
spends_are f sp sq breaks continues body x g = statements_spend g
