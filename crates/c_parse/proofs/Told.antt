-- What the tests of the next tokens tell of them.
use Rattle.std.proofs.Common.{◌≡◌, ℕ, Bool, true, false, cond, List, [], ◌∷◌, Some, refl}
use Rattle.c_tree.specs.declared.operator.UnOp.{UnOp}
use Rattle.c_tree.specs.declared.operator.StepOp.{StepOp}
use Rattle.c_lex.specs.declared.token.Punct.TheVariants as m
use Rattle.c_parse.specs.declared.class.Key.TheVariants as key
use Rattle.c_parse.specs.declared.lead.Start.{Start}
use Rattle.c_parse.specs.declared.lead.Start.TheVariants as start
use Rattle.c_parse.specs.declared.lead.Lead.{Lead}
use Rattle.c_parse.specs.declared.lead.Lead.TheVariants as lead
use Rattle.c_parse.specs.declared.lead.Suffix.{Suffix}
use Rattle.c_parse.specs.declared.lead.Suffix.TheVariants as suffix
use Rattle.c_parse.specs.declared.lead.TypeLead.{TypeLead}
use Rattle.c_parse.specs.declared.lead.TypeLead.TheVariants as type_
use Rattle.c_parse.specs.declared.lead.TypeMark.{TypeMark}
use Rattle.c_parse.specs.declared.lead.TypeMark.TheVariants as type_mark
use Rattle.c_parse.specs.declared.lead.StmtLead.{StmtLead}
use Rattle.c_parse.specs.declared.lead.StmtLead.TheVariants as stmt
use Rattle.c_parse.specs.declared.lead.ArmLead.{ArmLead}
use Rattle.c_parse.specs.declared.lead.ArmLead.TheVariants as arm
use Rattle.c_parse.specs.declared.lead.ItemLead.{ItemLead}
use Rattle.c_parse.specs.declared.lead.ItemLead.TheVariants as item
use Rattle.c_parse.specs.Tok.{Tok, keyword, refused, word, number, character, text, mark}
use Rattle.c_parse.specs.Scope.{Context, is_type}
use Rattle.c_parse.specs.Marks.{prefix, step_before, step_behind, value}
use Rattle.c_parse.specs.Units.{record_word}
use Rattle.c_parse.specs.inner.Reader.{at_star}
use Rattle.c_parse.specs.inner.Leads.{type_at, begins_type, type_mark_at, start_at, lead_at, suffix_at, stmt_at, arm_at, item_at}

pub data StartIs (c : Context) : List Tok → Start → Type 0 where
  operator : {o : Tok} {ts : List Tok} {op : UnOp} → prefix o ≡ Some op → StartIs c (o ∷ ts) (start.Operator op)
  step : {o : Tok} {ts : List Tok} {op : StepOp} → step_before o ≡ Some op → StartIs c (o ∷ ts) (start.Step op)
  cast : {ts : List Tok} → begins_type c ts ≡ true → StartIs c (mark m.OpenParen ∷ ts) start.Cast
  size : {ts : List Tok} → StartIs c (keyword key.SizeOf ∷ ts) start.Size
  other : {ts : List Tok} → StartIs c ts start.Other

cast_or_not : (c : Context) (ts : List Tok) (b : Bool) → begins_type c ts ≡ b → StartIs c (mark m.OpenParen ∷ ts) (cond b start.Cast start.Other)
cast_or_not c ts true e = cast e
cast_or_not c ts false e = other

pub start_is : (c : Context) (ts : List Tok) → StartIs c ts (start_at c ts)
start_is c [] = other
start_is c (refused n ∷ ts) = other
start_is c (word n ∷ ts) = other
start_is c (number n ∷ ts) = other
start_is c (character n ∷ ts) = other
start_is c (text t ∷ ts) = other
start_is c (keyword key.Int ∷ ts) = other
start_is c (keyword key.Bool ∷ ts) = other
start_is c (keyword key.Void ∷ ts) = other
start_is c (keyword key.Struct ∷ ts) = other
start_is c (keyword key.Union ∷ ts) = other
start_is c (keyword key.Enum ∷ ts) = other
start_is c (keyword key.Typedef ∷ ts) = other
start_is c (keyword key.If ∷ ts) = other
start_is c (keyword key.Else ∷ ts) = other
start_is c (keyword key.While ∷ ts) = other
start_is c (keyword key.Do ∷ ts) = other
start_is c (keyword key.For ∷ ts) = other
start_is c (keyword key.Switch ∷ ts) = other
start_is c (keyword key.Case ∷ ts) = other
start_is c (keyword key.Default ∷ ts) = other
start_is c (keyword key.Return ∷ ts) = other
start_is c (keyword key.Break ∷ ts) = other
start_is c (keyword key.Continue ∷ ts) = other
start_is c (keyword key.SizeOf ∷ ts) = size
start_is c (keyword key.True ∷ ts) = other
start_is c (keyword key.False ∷ ts) = other
start_is c (keyword key.Null ∷ ts) = other
start_is c (mark m.OpenBrace ∷ ts) = other
start_is c (mark m.CloseBrace ∷ ts) = other
start_is c (mark m.OpenParen ∷ ts) = cast_or_not c ts (begins_type c ts) refl
start_is c (mark m.CloseParen ∷ ts) = other
start_is c (mark m.OpenBracket ∷ ts) = other
start_is c (mark m.CloseBracket ∷ ts) = other
start_is c (mark m.Semicolon ∷ ts) = other
start_is c (mark m.Comma ∷ ts) = other
start_is c (mark m.Dot ∷ ts) = other
start_is c (mark m.Arrow ∷ ts) = other
start_is c (mark m.Question ∷ ts) = other
start_is c (mark m.Colon ∷ ts) = other
start_is c (mark m.Hash ∷ ts) = other
start_is c (mark m.Assign ∷ ts) = other
start_is c (mark m.PlusAssign ∷ ts) = other
start_is c (mark m.MinusAssign ∷ ts) = other
start_is c (mark m.StarAssign ∷ ts) = other
start_is c (mark m.SlashAssign ∷ ts) = other
start_is c (mark m.PercentAssign ∷ ts) = other
start_is c (mark m.ShlAssign ∷ ts) = other
start_is c (mark m.ShrAssign ∷ ts) = other
start_is c (mark m.AndAssign ∷ ts) = other
start_is c (mark m.OrAssign ∷ ts) = other
start_is c (mark m.XorAssign ∷ ts) = other
start_is c (mark m.OrOr ∷ ts) = other
start_is c (mark m.AndAnd ∷ ts) = other
start_is c (mark m.Or ∷ ts) = other
start_is c (mark m.Xor ∷ ts) = other
start_is c (mark m.And ∷ ts) = operator refl
start_is c (mark m.EqualEqual ∷ ts) = other
start_is c (mark m.NotEqual ∷ ts) = other
start_is c (mark m.Less ∷ ts) = other
start_is c (mark m.LessEqual ∷ ts) = other
start_is c (mark m.Greater ∷ ts) = other
start_is c (mark m.GreaterEqual ∷ ts) = other
start_is c (mark m.Shl ∷ ts) = other
start_is c (mark m.Shr ∷ ts) = other
start_is c (mark m.Plus ∷ ts) = operator refl
start_is c (mark m.Minus ∷ ts) = operator refl
start_is c (mark m.Star ∷ ts) = operator refl
start_is c (mark m.Slash ∷ ts) = other
start_is c (mark m.Percent ∷ ts) = other
start_is c (mark m.Bang ∷ ts) = operator refl
start_is c (mark m.Tilde ∷ ts) = operator refl
start_is c (mark m.PlusPlus ∷ ts) = step refl
start_is c (mark m.MinusMinus ∷ ts) = step refl

pub data LeadIs (c : Context) : List Tok → Lead → Type 0 where
  name : {n : List ℕ} {ts : List Tok} → is_type c n ≡ false → LeadIs c (word n ∷ ts) lead.Name
  valued : {o : Tok} {n : ℕ} {ts : List Tok} → value o ≡ Some n → LeadIs c (o ∷ ts) (lead.Value n)
  quoted : {t : List ℕ} {ts : List Tok} → LeadIs c (text t ∷ ts) lead.Text
  null : {ts : List Tok} → LeadIs c (keyword key.Null ∷ ts) lead.Null
  paren : {ts : List Tok} → LeadIs c (mark m.OpenParen ∷ ts) lead.Paren
  no_lead : {ts : List Tok} → LeadIs c ts lead.Other

name_or_not : (c : Context) (n : List ℕ) (ts : List Tok) (b : Bool) → is_type c n ≡ b → LeadIs c (word n ∷ ts) (cond b lead.Other lead.Name)
name_or_not c n ts true e = no_lead
name_or_not c n ts false e = name e

pub lead_is : (c : Context) (ts : List Tok) → LeadIs c ts (lead_at c ts)
lead_is c [] = no_lead
lead_is c (refused n ∷ ts) = no_lead
lead_is c (word n ∷ ts) = name_or_not c n ts (is_type c n) refl
lead_is c (number n ∷ ts) = valued refl
lead_is c (character n ∷ ts) = valued refl
lead_is c (text t ∷ ts) = quoted
lead_is c (keyword key.Int ∷ ts) = no_lead
lead_is c (keyword key.Bool ∷ ts) = no_lead
lead_is c (keyword key.Void ∷ ts) = no_lead
lead_is c (keyword key.Struct ∷ ts) = no_lead
lead_is c (keyword key.Union ∷ ts) = no_lead
lead_is c (keyword key.Enum ∷ ts) = no_lead
lead_is c (keyword key.Typedef ∷ ts) = no_lead
lead_is c (keyword key.If ∷ ts) = no_lead
lead_is c (keyword key.Else ∷ ts) = no_lead
lead_is c (keyword key.While ∷ ts) = no_lead
lead_is c (keyword key.Do ∷ ts) = no_lead
lead_is c (keyword key.For ∷ ts) = no_lead
lead_is c (keyword key.Switch ∷ ts) = no_lead
lead_is c (keyword key.Case ∷ ts) = no_lead
lead_is c (keyword key.Default ∷ ts) = no_lead
lead_is c (keyword key.Return ∷ ts) = no_lead
lead_is c (keyword key.Break ∷ ts) = no_lead
lead_is c (keyword key.Continue ∷ ts) = no_lead
lead_is c (keyword key.SizeOf ∷ ts) = no_lead
lead_is c (keyword key.True ∷ ts) = valued refl
lead_is c (keyword key.False ∷ ts) = valued refl
lead_is c (keyword key.Null ∷ ts) = null
lead_is c (mark m.OpenBrace ∷ ts) = no_lead
lead_is c (mark m.CloseBrace ∷ ts) = no_lead
lead_is c (mark m.OpenParen ∷ ts) = paren
lead_is c (mark m.CloseParen ∷ ts) = no_lead
lead_is c (mark m.OpenBracket ∷ ts) = no_lead
lead_is c (mark m.CloseBracket ∷ ts) = no_lead
lead_is c (mark m.Semicolon ∷ ts) = no_lead
lead_is c (mark m.Comma ∷ ts) = no_lead
lead_is c (mark m.Dot ∷ ts) = no_lead
lead_is c (mark m.Arrow ∷ ts) = no_lead
lead_is c (mark m.Question ∷ ts) = no_lead
lead_is c (mark m.Colon ∷ ts) = no_lead
lead_is c (mark m.Hash ∷ ts) = no_lead
lead_is c (mark m.Assign ∷ ts) = no_lead
lead_is c (mark m.PlusAssign ∷ ts) = no_lead
lead_is c (mark m.MinusAssign ∷ ts) = no_lead
lead_is c (mark m.StarAssign ∷ ts) = no_lead
lead_is c (mark m.SlashAssign ∷ ts) = no_lead
lead_is c (mark m.PercentAssign ∷ ts) = no_lead
lead_is c (mark m.ShlAssign ∷ ts) = no_lead
lead_is c (mark m.ShrAssign ∷ ts) = no_lead
lead_is c (mark m.AndAssign ∷ ts) = no_lead
lead_is c (mark m.OrAssign ∷ ts) = no_lead
lead_is c (mark m.XorAssign ∷ ts) = no_lead
lead_is c (mark m.OrOr ∷ ts) = no_lead
lead_is c (mark m.AndAnd ∷ ts) = no_lead
lead_is c (mark m.Or ∷ ts) = no_lead
lead_is c (mark m.Xor ∷ ts) = no_lead
lead_is c (mark m.And ∷ ts) = no_lead
lead_is c (mark m.EqualEqual ∷ ts) = no_lead
lead_is c (mark m.NotEqual ∷ ts) = no_lead
lead_is c (mark m.Less ∷ ts) = no_lead
lead_is c (mark m.LessEqual ∷ ts) = no_lead
lead_is c (mark m.Greater ∷ ts) = no_lead
lead_is c (mark m.GreaterEqual ∷ ts) = no_lead
lead_is c (mark m.Shl ∷ ts) = no_lead
lead_is c (mark m.Shr ∷ ts) = no_lead
lead_is c (mark m.Plus ∷ ts) = no_lead
lead_is c (mark m.Minus ∷ ts) = no_lead
lead_is c (mark m.Star ∷ ts) = no_lead
lead_is c (mark m.Slash ∷ ts) = no_lead
lead_is c (mark m.Percent ∷ ts) = no_lead
lead_is c (mark m.Bang ∷ ts) = no_lead
lead_is c (mark m.Tilde ∷ ts) = no_lead
lead_is c (mark m.PlusPlus ∷ ts) = no_lead
lead_is c (mark m.MinusMinus ∷ ts) = no_lead

pub data SuffixIs : List Tok → Suffix → Type 0 where
  index : {ts : List Tok} → SuffixIs (mark m.OpenBracket ∷ ts) suffix.Index
  member : {ts : List Tok} → SuffixIs (mark m.Dot ∷ ts) suffix.Member
  arrow : {ts : List Tok} → SuffixIs (mark m.Arrow ∷ ts) suffix.Arrow
  stepped : {o : Tok} {op : StepOp} {ts : List Tok} → step_behind o ≡ Some op → SuffixIs (o ∷ ts) (suffix.Step op)
  no_suffix : {ts : List Tok} → SuffixIs ts suffix.Nothing

pub suffix_is : (ts : List Tok) → SuffixIs ts (suffix_at ts)
suffix_is [] = no_suffix
suffix_is (keyword k ∷ ts) = no_suffix
suffix_is (refused n ∷ ts) = no_suffix
suffix_is (word n ∷ ts) = no_suffix
suffix_is (number n ∷ ts) = no_suffix
suffix_is (character n ∷ ts) = no_suffix
suffix_is (text t ∷ ts) = no_suffix
suffix_is (mark m.OpenBrace ∷ ts) = no_suffix
suffix_is (mark m.CloseBrace ∷ ts) = no_suffix
suffix_is (mark m.OpenParen ∷ ts) = no_suffix
suffix_is (mark m.CloseParen ∷ ts) = no_suffix
suffix_is (mark m.OpenBracket ∷ ts) = index
suffix_is (mark m.CloseBracket ∷ ts) = no_suffix
suffix_is (mark m.Semicolon ∷ ts) = no_suffix
suffix_is (mark m.Comma ∷ ts) = no_suffix
suffix_is (mark m.Dot ∷ ts) = member
suffix_is (mark m.Arrow ∷ ts) = arrow
suffix_is (mark m.Question ∷ ts) = no_suffix
suffix_is (mark m.Colon ∷ ts) = no_suffix
suffix_is (mark m.Hash ∷ ts) = no_suffix
suffix_is (mark m.Assign ∷ ts) = no_suffix
suffix_is (mark m.PlusAssign ∷ ts) = no_suffix
suffix_is (mark m.MinusAssign ∷ ts) = no_suffix
suffix_is (mark m.StarAssign ∷ ts) = no_suffix
suffix_is (mark m.SlashAssign ∷ ts) = no_suffix
suffix_is (mark m.PercentAssign ∷ ts) = no_suffix
suffix_is (mark m.ShlAssign ∷ ts) = no_suffix
suffix_is (mark m.ShrAssign ∷ ts) = no_suffix
suffix_is (mark m.AndAssign ∷ ts) = no_suffix
suffix_is (mark m.OrAssign ∷ ts) = no_suffix
suffix_is (mark m.XorAssign ∷ ts) = no_suffix
suffix_is (mark m.OrOr ∷ ts) = no_suffix
suffix_is (mark m.AndAnd ∷ ts) = no_suffix
suffix_is (mark m.Or ∷ ts) = no_suffix
suffix_is (mark m.Xor ∷ ts) = no_suffix
suffix_is (mark m.And ∷ ts) = no_suffix
suffix_is (mark m.EqualEqual ∷ ts) = no_suffix
suffix_is (mark m.NotEqual ∷ ts) = no_suffix
suffix_is (mark m.Less ∷ ts) = no_suffix
suffix_is (mark m.LessEqual ∷ ts) = no_suffix
suffix_is (mark m.Greater ∷ ts) = no_suffix
suffix_is (mark m.GreaterEqual ∷ ts) = no_suffix
suffix_is (mark m.Shl ∷ ts) = no_suffix
suffix_is (mark m.Shr ∷ ts) = no_suffix
suffix_is (mark m.Plus ∷ ts) = no_suffix
suffix_is (mark m.Minus ∷ ts) = no_suffix
suffix_is (mark m.Star ∷ ts) = no_suffix
suffix_is (mark m.Slash ∷ ts) = no_suffix
suffix_is (mark m.Percent ∷ ts) = no_suffix
suffix_is (mark m.Bang ∷ ts) = no_suffix
suffix_is (mark m.Tilde ∷ ts) = no_suffix
suffix_is (mark m.PlusPlus ∷ ts) = stepped refl
suffix_is (mark m.MinusMinus ∷ ts) = stepped refl

pub data TypeIs (c : Context) : List Tok → TypeLead → Type 0 where
  int : {ts : List Tok} → TypeIs c (keyword key.Int ∷ ts) type_.Int
  bool : {ts : List Tok} → TypeIs c (keyword key.Bool ∷ ts) type_.Bool
  named : {n : List ℕ} {ts : List Tok} → is_type c n ≡ true → TypeIs c (word n ∷ ts) type_.Named
  void : {ts : List Tok} → TypeIs c (keyword key.Void ∷ ts) type_.Void
  no_type : {ts : List Tok} → TypeIs c ts type_.Other

named_or_not : (c : Context) (n : List ℕ) (ts : List Tok) (b : Bool) → is_type c n ≡ b → TypeIs c (word n ∷ ts) (cond b type_.Named type_.Other)
named_or_not c n ts true e = named e
named_or_not c n ts false e = no_type

pub type_is : (c : Context) (ts : List Tok) → TypeIs c ts (type_at c ts)
type_is c [] = no_type
type_is c (word n ∷ ts) = named_or_not c n ts (is_type c n) refl
type_is c (refused n ∷ ts) = no_type
type_is c (number n ∷ ts) = no_type
type_is c (character n ∷ ts) = no_type
type_is c (text t ∷ ts) = no_type
type_is c (mark p ∷ ts) = no_type
type_is c (keyword key.Int ∷ ts) = int
type_is c (keyword key.Bool ∷ ts) = bool
type_is c (keyword key.Void ∷ ts) = void
type_is c (keyword key.Struct ∷ ts) = no_type
type_is c (keyword key.Union ∷ ts) = no_type
type_is c (keyword key.Enum ∷ ts) = no_type
type_is c (keyword key.Typedef ∷ ts) = no_type
type_is c (keyword key.If ∷ ts) = no_type
type_is c (keyword key.Else ∷ ts) = no_type
type_is c (keyword key.While ∷ ts) = no_type
type_is c (keyword key.Do ∷ ts) = no_type
type_is c (keyword key.For ∷ ts) = no_type
type_is c (keyword key.Switch ∷ ts) = no_type
type_is c (keyword key.Case ∷ ts) = no_type
type_is c (keyword key.Default ∷ ts) = no_type
type_is c (keyword key.Return ∷ ts) = no_type
type_is c (keyword key.Break ∷ ts) = no_type
type_is c (keyword key.Continue ∷ ts) = no_type
type_is c (keyword key.SizeOf ∷ ts) = no_type
type_is c (keyword key.True ∷ ts) = no_type
type_is c (keyword key.False ∷ ts) = no_type
type_is c (keyword key.Null ∷ ts) = no_type

pub data TypeMarkIs : List Tok → TypeMark → Type 0 where
  pointer : {ts : List Tok} → TypeMarkIs (mark m.Star ∷ ts) type_mark.Star
  bracket : {ts : List Tok} → TypeMarkIs (mark m.OpenBracket ∷ ts) type_mark.Bracket
  no_mark : {ts : List Tok} → TypeMarkIs ts type_mark.Nothing

pub type_mark_is : (ts : List Tok) → TypeMarkIs ts (type_mark_at ts)
type_mark_is [] = no_mark
type_mark_is (keyword k ∷ ts) = no_mark
type_mark_is (refused n ∷ ts) = no_mark
type_mark_is (word n ∷ ts) = no_mark
type_mark_is (number n ∷ ts) = no_mark
type_mark_is (character n ∷ ts) = no_mark
type_mark_is (text t ∷ ts) = no_mark
type_mark_is (mark m.OpenBrace ∷ ts) = no_mark
type_mark_is (mark m.CloseBrace ∷ ts) = no_mark
type_mark_is (mark m.OpenParen ∷ ts) = no_mark
type_mark_is (mark m.CloseParen ∷ ts) = no_mark
type_mark_is (mark m.OpenBracket ∷ ts) = bracket
type_mark_is (mark m.CloseBracket ∷ ts) = no_mark
type_mark_is (mark m.Semicolon ∷ ts) = no_mark
type_mark_is (mark m.Comma ∷ ts) = no_mark
type_mark_is (mark m.Dot ∷ ts) = no_mark
type_mark_is (mark m.Arrow ∷ ts) = no_mark
type_mark_is (mark m.Question ∷ ts) = no_mark
type_mark_is (mark m.Colon ∷ ts) = no_mark
type_mark_is (mark m.Hash ∷ ts) = no_mark
type_mark_is (mark m.Assign ∷ ts) = no_mark
type_mark_is (mark m.PlusAssign ∷ ts) = no_mark
type_mark_is (mark m.MinusAssign ∷ ts) = no_mark
type_mark_is (mark m.StarAssign ∷ ts) = no_mark
type_mark_is (mark m.SlashAssign ∷ ts) = no_mark
type_mark_is (mark m.PercentAssign ∷ ts) = no_mark
type_mark_is (mark m.ShlAssign ∷ ts) = no_mark
type_mark_is (mark m.ShrAssign ∷ ts) = no_mark
type_mark_is (mark m.AndAssign ∷ ts) = no_mark
type_mark_is (mark m.OrAssign ∷ ts) = no_mark
type_mark_is (mark m.XorAssign ∷ ts) = no_mark
type_mark_is (mark m.OrOr ∷ ts) = no_mark
type_mark_is (mark m.AndAnd ∷ ts) = no_mark
type_mark_is (mark m.Or ∷ ts) = no_mark
type_mark_is (mark m.Xor ∷ ts) = no_mark
type_mark_is (mark m.And ∷ ts) = no_mark
type_mark_is (mark m.EqualEqual ∷ ts) = no_mark
type_mark_is (mark m.NotEqual ∷ ts) = no_mark
type_mark_is (mark m.Less ∷ ts) = no_mark
type_mark_is (mark m.LessEqual ∷ ts) = no_mark
type_mark_is (mark m.Greater ∷ ts) = no_mark
type_mark_is (mark m.GreaterEqual ∷ ts) = no_mark
type_mark_is (mark m.Shl ∷ ts) = no_mark
type_mark_is (mark m.Shr ∷ ts) = no_mark
type_mark_is (mark m.Plus ∷ ts) = no_mark
type_mark_is (mark m.Minus ∷ ts) = no_mark
type_mark_is (mark m.Star ∷ ts) = pointer
type_mark_is (mark m.Slash ∷ ts) = no_mark
type_mark_is (mark m.Percent ∷ ts) = no_mark
type_mark_is (mark m.Bang ∷ ts) = no_mark
type_mark_is (mark m.Tilde ∷ ts) = no_mark
type_mark_is (mark m.PlusPlus ∷ ts) = no_mark
type_mark_is (mark m.MinusMinus ∷ ts) = no_mark

pub data StmtIs (c : Context) : List Tok → StmtLead → Type 0 where
  block : {ts : List Tok} → StmtIs c (mark m.OpenBrace ∷ ts) stmt.Block
  empty : {ts : List Tok} → StmtIs c (mark m.Semicolon ∷ ts) stmt.Empty
  vars : {ts : List Tok} → begins_type c ts ≡ true → StmtIs c ts stmt.Vars
  if_ : {ts : List Tok} → StmtIs c (keyword key.If ∷ ts) stmt.If
  while_ : {ts : List Tok} → StmtIs c (keyword key.While ∷ ts) stmt.While
  do_ : {ts : List Tok} → StmtIs c (keyword key.Do ∷ ts) stmt.Do
  for_ : {ts : List Tok} → StmtIs c (keyword key.For ∷ ts) stmt.For
  switch_ : {ts : List Tok} → StmtIs c (keyword key.Switch ∷ ts) stmt.Switch
  return_ : {ts : List Tok} → StmtIs c (keyword key.Return ∷ ts) stmt.Return
  break_ : {ts : List Tok} → StmtIs c (keyword key.Break ∷ ts) stmt.Break
  continue_ : {ts : List Tok} → StmtIs c (keyword key.Continue ∷ ts) stmt.Continue
  expr : {ts : List Tok} → StmtIs c ts stmt.Expr

vars_or_not : (c : Context) (n : List ℕ) (ts : List Tok) (b : Bool) → is_type c n ≡ b → StmtIs c (word n ∷ ts) (cond b stmt.Vars stmt.Expr)
vars_or_not c n ts true e = vars (rw e refl)
vars_or_not c n ts false e = expr

pub stmt_is : (c : Context) (ts : List Tok) → StmtIs c ts (stmt_at c ts)
stmt_is c [] = expr
stmt_is c (word n ∷ ts) = vars_or_not c n ts (is_type c n) refl
stmt_is c (refused n ∷ ts) = expr
stmt_is c (number n ∷ ts) = expr
stmt_is c (character n ∷ ts) = expr
stmt_is c (text t ∷ ts) = expr
stmt_is c (keyword key.Int ∷ ts) = vars refl
stmt_is c (keyword key.Bool ∷ ts) = vars refl
stmt_is c (keyword key.Void ∷ ts) = vars refl
stmt_is c (keyword key.Struct ∷ ts) = expr
stmt_is c (keyword key.Union ∷ ts) = expr
stmt_is c (keyword key.Enum ∷ ts) = expr
stmt_is c (keyword key.Typedef ∷ ts) = expr
stmt_is c (keyword key.If ∷ ts) = if_
stmt_is c (keyword key.Else ∷ ts) = expr
stmt_is c (keyword key.While ∷ ts) = while_
stmt_is c (keyword key.Do ∷ ts) = do_
stmt_is c (keyword key.For ∷ ts) = for_
stmt_is c (keyword key.Switch ∷ ts) = switch_
stmt_is c (keyword key.Case ∷ ts) = expr
stmt_is c (keyword key.Default ∷ ts) = expr
stmt_is c (keyword key.Return ∷ ts) = return_
stmt_is c (keyword key.Break ∷ ts) = break_
stmt_is c (keyword key.Continue ∷ ts) = continue_
stmt_is c (keyword key.SizeOf ∷ ts) = expr
stmt_is c (keyword key.True ∷ ts) = expr
stmt_is c (keyword key.False ∷ ts) = expr
stmt_is c (keyword key.Null ∷ ts) = expr
stmt_is c (mark m.OpenBrace ∷ ts) = block
stmt_is c (mark m.CloseBrace ∷ ts) = expr
stmt_is c (mark m.OpenParen ∷ ts) = expr
stmt_is c (mark m.CloseParen ∷ ts) = expr
stmt_is c (mark m.OpenBracket ∷ ts) = expr
stmt_is c (mark m.CloseBracket ∷ ts) = expr
stmt_is c (mark m.Semicolon ∷ ts) = empty
stmt_is c (mark m.Comma ∷ ts) = expr
stmt_is c (mark m.Dot ∷ ts) = expr
stmt_is c (mark m.Arrow ∷ ts) = expr
stmt_is c (mark m.Question ∷ ts) = expr
stmt_is c (mark m.Colon ∷ ts) = expr
stmt_is c (mark m.Hash ∷ ts) = expr
stmt_is c (mark m.Assign ∷ ts) = expr
stmt_is c (mark m.PlusAssign ∷ ts) = expr
stmt_is c (mark m.MinusAssign ∷ ts) = expr
stmt_is c (mark m.StarAssign ∷ ts) = expr
stmt_is c (mark m.SlashAssign ∷ ts) = expr
stmt_is c (mark m.PercentAssign ∷ ts) = expr
stmt_is c (mark m.ShlAssign ∷ ts) = expr
stmt_is c (mark m.ShrAssign ∷ ts) = expr
stmt_is c (mark m.AndAssign ∷ ts) = expr
stmt_is c (mark m.OrAssign ∷ ts) = expr
stmt_is c (mark m.XorAssign ∷ ts) = expr
stmt_is c (mark m.OrOr ∷ ts) = expr
stmt_is c (mark m.AndAnd ∷ ts) = expr
stmt_is c (mark m.Or ∷ ts) = expr
stmt_is c (mark m.Xor ∷ ts) = expr
stmt_is c (mark m.And ∷ ts) = expr
stmt_is c (mark m.EqualEqual ∷ ts) = expr
stmt_is c (mark m.NotEqual ∷ ts) = expr
stmt_is c (mark m.Less ∷ ts) = expr
stmt_is c (mark m.LessEqual ∷ ts) = expr
stmt_is c (mark m.Greater ∷ ts) = expr
stmt_is c (mark m.GreaterEqual ∷ ts) = expr
stmt_is c (mark m.Shl ∷ ts) = expr
stmt_is c (mark m.Shr ∷ ts) = expr
stmt_is c (mark m.Plus ∷ ts) = expr
stmt_is c (mark m.Minus ∷ ts) = expr
stmt_is c (mark m.Star ∷ ts) = expr
stmt_is c (mark m.Slash ∷ ts) = expr
stmt_is c (mark m.Percent ∷ ts) = expr
stmt_is c (mark m.Bang ∷ ts) = expr
stmt_is c (mark m.Tilde ∷ ts) = expr
stmt_is c (mark m.PlusPlus ∷ ts) = expr
stmt_is c (mark m.MinusMinus ∷ ts) = expr

pub data ArmIs : List Tok → ArmLead → Type 0 where
  case : {ts : List Tok} → ArmIs (keyword key.Case ∷ ts) arm.Case
  default : {ts : List Tok} → ArmIs (keyword key.Default ∷ ts) arm.Default
  arm_stmt : {ts : List Tok} → ArmIs ts arm.Stmt

pub arm_is : (ts : List Tok) → ArmIs ts (arm_at ts)
arm_is [] = arm_stmt
arm_is (refused n ∷ ts) = arm_stmt
arm_is (word n ∷ ts) = arm_stmt
arm_is (number n ∷ ts) = arm_stmt
arm_is (character n ∷ ts) = arm_stmt
arm_is (text t ∷ ts) = arm_stmt
arm_is (mark p ∷ ts) = arm_stmt
arm_is (keyword key.Int ∷ ts) = arm_stmt
arm_is (keyword key.Bool ∷ ts) = arm_stmt
arm_is (keyword key.Void ∷ ts) = arm_stmt
arm_is (keyword key.Struct ∷ ts) = arm_stmt
arm_is (keyword key.Union ∷ ts) = arm_stmt
arm_is (keyword key.Enum ∷ ts) = arm_stmt
arm_is (keyword key.Typedef ∷ ts) = arm_stmt
arm_is (keyword key.If ∷ ts) = arm_stmt
arm_is (keyword key.Else ∷ ts) = arm_stmt
arm_is (keyword key.While ∷ ts) = arm_stmt
arm_is (keyword key.Do ∷ ts) = arm_stmt
arm_is (keyword key.For ∷ ts) = arm_stmt
arm_is (keyword key.Switch ∷ ts) = arm_stmt
arm_is (keyword key.Case ∷ ts) = case
arm_is (keyword key.Default ∷ ts) = default
arm_is (keyword key.Return ∷ ts) = arm_stmt
arm_is (keyword key.Break ∷ ts) = arm_stmt
arm_is (keyword key.Continue ∷ ts) = arm_stmt
arm_is (keyword key.SizeOf ∷ ts) = arm_stmt
arm_is (keyword key.True ∷ ts) = arm_stmt
arm_is (keyword key.False ∷ ts) = arm_stmt
arm_is (keyword key.Null ∷ ts) = arm_stmt

pub data ItemIs : List Tok → ItemLead → Type 0 where
  record_ : {o : Tok} {u : Bool} {ts : List Tok} → record_word o ≡ Some u → ItemIs (o ∷ ts) (item.Record u)
  enum : {ts : List Tok} → ItemIs (keyword key.Enum ∷ ts) item.Enum
  typedef : {ts : List Tok} → ItemIs (keyword key.Typedef ∷ ts) item.Typedef
  void_function : {ts : List Tok} → ItemIs (keyword key.Void ∷ ts) item.Void
  typed : {ts : List Tok} → ItemIs ts item.Other

function_or_not : (ts : List Tok) (b : Bool) → ItemIs (keyword key.Void ∷ ts) (cond b item.Other item.Void)
function_or_not ts true = typed
function_or_not ts false = void_function

pub item_is : (ts : List Tok) → ItemIs ts (item_at ts)
item_is [] = typed
item_is (refused n ∷ ts) = typed
item_is (word n ∷ ts) = typed
item_is (number n ∷ ts) = typed
item_is (character n ∷ ts) = typed
item_is (text t ∷ ts) = typed
item_is (mark p ∷ ts) = typed
item_is (keyword key.Int ∷ ts) = typed
item_is (keyword key.Bool ∷ ts) = typed
item_is (keyword key.Void ∷ ts) = function_or_not ts (at_star ts)
item_is (keyword key.Struct ∷ ts) = record_ refl
item_is (keyword key.Union ∷ ts) = record_ refl
item_is (keyword key.Enum ∷ ts) = enum
item_is (keyword key.Typedef ∷ ts) = typedef
item_is (keyword key.If ∷ ts) = typed
item_is (keyword key.Else ∷ ts) = typed
item_is (keyword key.While ∷ ts) = typed
item_is (keyword key.Do ∷ ts) = typed
item_is (keyword key.For ∷ ts) = typed
item_is (keyword key.Switch ∷ ts) = typed
item_is (keyword key.Case ∷ ts) = typed
item_is (keyword key.Default ∷ ts) = typed
item_is (keyword key.Return ∷ ts) = typed
item_is (keyword key.Break ∷ ts) = typed
item_is (keyword key.Continue ∷ ts) = typed
item_is (keyword key.SizeOf ∷ ts) = typed
item_is (keyword key.True ∷ ts) = typed
item_is (keyword key.False ∷ ts) = typed
item_is (keyword key.Null ∷ ts) = typed
