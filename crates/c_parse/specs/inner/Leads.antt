-- What tokens begin, as far as their first one or two tell.
use Rattle.std.specs.Prelude.{Bool, true, false, List, [], ◌∷◌, Option, Some, None, ◌||◌, if◌then◌else◌}
use Rattle.c_lex.specs.declared.token.Punct.{Punct}
use Rattle.c_lex.specs.declared.token.Punct.TheVariants as m
use Rattle.c_tree.specs.declared.operator.UnOp.{UnOp}
use Rattle.c_tree.specs.declared.operator.StepOp.TheVariants as s
use Rattle.c_parse.specs.declared.class.Key.{Key}
use Rattle.c_parse.specs.declared.class.Key.TheVariants as key
use Rattle.c_parse.specs.declared.lead.Start.{Start}
use Rattle.c_parse.specs.declared.lead.Start.TheVariants as start
use Rattle.c_parse.specs.declared.lead.Lead.{Lead}
use Rattle.c_parse.specs.declared.lead.Lead.TheVariants as lead
use Rattle.c_parse.specs.declared.lead.Suffix.{Suffix}
use Rattle.c_parse.specs.declared.lead.Suffix.TheVariants as suffix
use Rattle.c_parse.specs.declared.lead.TypeLead.{TypeLead}
use Rattle.c_parse.specs.declared.lead.TypeLead.TheVariants as type_
use Rattle.c_parse.specs.declared.lead.TypeMark.{TypeMark}
use Rattle.c_parse.specs.declared.lead.TypeMark.TheVariants as type_mark
use Rattle.c_parse.specs.declared.lead.StmtLead.{StmtLead}
use Rattle.c_parse.specs.declared.lead.StmtLead.TheVariants as stmt
use Rattle.c_parse.specs.declared.lead.ArmLead.{ArmLead}
use Rattle.c_parse.specs.declared.lead.ArmLead.TheVariants as arm
use Rattle.c_parse.specs.declared.lead.ItemLead.{ItemLead}
use Rattle.c_parse.specs.declared.lead.ItemLead.TheVariants as item
use Rattle.c_parse.specs.Tok.{Tok, keyword, word, number, character, text, mark}
use Rattle.c_parse.specs.Scope.{Context, is_type}
use Rattle.c_parse.specs.Marks.{prefix_mark}
use Rattle.c_parse.specs.inner.Reader.{at_star}

abbrev pub key_type : Key → TypeLead
key_type key.Int = type_.Int
key_type key.Bool = type_.Bool
key_type key.Void = type_.Void
key_type _ = type_.Other

abbrev pub type_of : Context → Tok → TypeLead
type_of c (keyword k) = key_type k
type_of c (word n) = if is_type c n then type_.Named else type_.Other
type_of c _ = type_.Other

abbrev pub type_at : Context → List Tok → TypeLead
type_at c [] = type_.Other
type_at c (o ∷ ts) = type_of c o

abbrev pub is_some_type : TypeLead → Bool
is_some_type type_.Other = false
is_some_type _ = true

abbrev pub begins_type : Context → List Tok → Bool
begins_type c ts = is_some_type (type_at c ts)

abbrev pub type_mark_of : Tok → TypeMark
type_mark_of (mark m.Star) = type_mark.Star
type_mark_of (mark m.OpenBracket) = type_mark.Bracket
type_mark_of _ = type_mark.Nothing

abbrev pub type_mark_at : List Tok → TypeMark
type_mark_at [] = type_mark.Nothing
type_mark_at (o ∷ ts) = type_mark_of o

abbrev pub operator_start : Option UnOp → Start
operator_start (Some op) = start.Operator op
operator_start None = start.Other

abbrev pub mark_start : Context → Punct → List Tok → Start
mark_start c m.PlusPlus ts = start.Step s.PreUp
mark_start c m.MinusMinus ts = start.Step s.PreDown
mark_start c m.OpenParen ts = if begins_type c ts then start.Cast else start.Other
mark_start c p ts = operator_start (prefix_mark p)

abbrev pub key_start : Key → Start
key_start key.SizeOf = start.Size
key_start _ = start.Other

abbrev pub start_of : Context → Tok → List Tok → Start
start_of c (mark p) ts = mark_start c p ts
start_of c (keyword k) ts = key_start k
start_of c _ ts = start.Other

abbrev pub start_at : Context → List Tok → Start
start_at c [] = start.Other
start_at c (o ∷ ts) = start_of c o ts

abbrev pub key_lead : Key → Lead
key_lead key.True = lead.Value 1
key_lead key.False = lead.Value 0
key_lead key.Null = lead.Null
key_lead _ = lead.Other

abbrev pub lead_of : Context → Tok → Lead
lead_of c (word n) = if is_type c n then lead.Other else lead.Name
lead_of c (number n) = lead.Value n
lead_of c (character n) = lead.Value n
lead_of c (text t) = lead.Text
lead_of c (keyword k) = key_lead k
lead_of c (mark m.OpenParen) = lead.Paren
lead_of c _ = lead.Other

abbrev pub lead_at : Context → List Tok → Lead
lead_at c [] = lead.Other
lead_at c (o ∷ ts) = lead_of c o

abbrev pub is_some_start : Start → Bool
is_some_start start.Other = false
is_some_start _ = true

abbrev pub is_some_lead : Lead → Bool
is_some_lead lead.Other = false
is_some_lead _ = true

abbrev pub begins_expr : Context → List Tok → Bool
begins_expr c ts = is_some_start (start_at c ts) || is_some_lead (lead_at c ts)

abbrev pub suffix_of : Tok → Suffix
suffix_of (mark m.OpenBracket) = suffix.Index
suffix_of (mark m.Dot) = suffix.Member
suffix_of (mark m.Arrow) = suffix.Arrow
suffix_of (mark m.PlusPlus) = suffix.Step s.PostUp
suffix_of (mark m.MinusMinus) = suffix.Step s.PostDown
suffix_of _ = suffix.Nothing

abbrev pub suffix_at : List Tok → Suffix
suffix_at [] = suffix.Nothing
suffix_at (o ∷ ts) = suffix_of o

abbrev pub key_stmt : Key → StmtLead
key_stmt key.Int = stmt.Vars
key_stmt key.Bool = stmt.Vars
key_stmt key.Void = stmt.Vars
key_stmt key.If = stmt.If
key_stmt key.While = stmt.While
key_stmt key.Do = stmt.Do
key_stmt key.For = stmt.For
key_stmt key.Switch = stmt.Switch
key_stmt key.Return = stmt.Return
key_stmt key.Break = stmt.Break
key_stmt key.Continue = stmt.Continue
key_stmt _ = stmt.Expr

abbrev pub stmt_of : Context → Tok → StmtLead
stmt_of c (keyword k) = key_stmt k
stmt_of c (word n) = if is_type c n then stmt.Vars else stmt.Expr
stmt_of c (mark m.OpenBrace) = stmt.Block
stmt_of c (mark m.Semicolon) = stmt.Empty
stmt_of c _ = stmt.Expr

abbrev pub stmt_at : Context → List Tok → StmtLead
stmt_at c [] = stmt.Expr
stmt_at c (o ∷ ts) = stmt_of c o

abbrev pub is_some_stmt : StmtLead → Bool
is_some_stmt stmt.Expr = false
is_some_stmt _ = true

abbrev pub begins_stmt : Context → List Tok → Bool
begins_stmt c ts = is_some_stmt (stmt_at c ts) || begins_expr c ts

abbrev pub key_arm : Key → ArmLead
key_arm key.Case = arm.Case
key_arm key.Default = arm.Default
key_arm _ = arm.Stmt

abbrev pub arm_of : Tok → ArmLead
arm_of (keyword k) = key_arm k
arm_of _ = arm.Stmt

abbrev pub arm_at : List Tok → ArmLead
arm_at [] = arm.Stmt
arm_at (o ∷ ts) = arm_of o

abbrev pub is_some_arm : ArmLead → Bool
is_some_arm arm.Stmt = false
is_some_arm _ = true

abbrev pub key_item : Key → List Tok → ItemLead
key_item key.Struct ts = item.Record false
key_item key.Union ts = item.Record true
key_item key.Enum ts = item.Enum
key_item key.Typedef ts = item.Typedef
key_item key.Void ts = if at_star ts then item.Other else item.Void
key_item _ ts = item.Other

abbrev pub item_of : Tok → List Tok → ItemLead
item_of (keyword k) ts = key_item k ts
item_of _ ts = item.Other

abbrev pub item_at : List Tok → ItemLead
item_at [] = item.Other
item_at (o ∷ ts) = item_of o ts
