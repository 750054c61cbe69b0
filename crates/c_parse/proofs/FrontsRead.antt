-- What a reader that looks at single tokens says of them.
use Rattle.std.proofs.Common.{◌≡◌, ℕ, ◌<◌, Bool, true, false, cond, ltb, eqb, List, [], ◌∷◌, Option, Some, None, Result, Ok, Err, refl, ap, subst, ◌∙◌}
use Rattle.std.proofs.lemmas.Bool.{eqb-true, ltb-true}
use Rattle.c_lex.specs.declared.token.Punct.{Punct}
use Rattle.c_lex.specs.declared.token.Punct.TheVariants as m
use Rattle.c_tree.specs.declared.operator.UnOp.{UnOp}
use Rattle.c_tree.specs.declared.operator.StepOp.{StepOp}
use Rattle.c_tree.specs.declared.operator.BinOp.{BinOp}
use Rattle.c_parse.specs.declared.class.Key.{Key}
use Rattle.c_parse.specs.declared.class.Key.TheVariants as key
use Rattle.c_parse.specs.declared.fault.Fault.{Fault}
use Rattle.c_parse.specs.declared.lead.Start.{Start}
use Rattle.c_parse.specs.declared.lead.Start.TheVariants as start
use Rattle.c_parse.specs.declared.lead.Lead.{Lead}
use Rattle.c_parse.specs.declared.lead.Lead.TheVariants as lead
use Rattle.c_parse.specs.declared.lead.Suffix.{Suffix}
use Rattle.c_parse.specs.declared.lead.Suffix.TheVariants as suffix
use Rattle.c_parse.specs.declared.lead.TypeLead.TheVariants as type_
use Rattle.c_parse.specs.declared.lead.TypeMark.TheVariants as type_mark
use Rattle.c_parse.specs.Tok.{Tok, keyword, word, number, character, text, mark}
use Rattle.c_parse.specs.Scope.{Context, is_type}
use Rattle.c_parse.specs.Marks.{prefix, prefix_mark, step_before, step_behind, binary, assigner, value, value_of_key}
use Rattle.c_parse.specs.Grammar.{NoBracket}
use Rattle.c_parse.specs.inner.Reader.{◌>>=◌, Got, deep, above, behind, bytes_at, is_behind, must, at_name, name, at_new, new, at_open_paren, at_close_paren, at_open_bracket, at_close_bracket, at_open_brace, at_close_brace, at_semicolon, at_comma, at_colon, at_assign, at_star, at_else_word, at_while_word, at_void_word, open_paren, close_paren, close_bracket, open_brace, close_brace, semicolon, colon, while_word}
use Rattle.c_parse.specs.inner.Leads.{type_at, begins_type, type_mark_at, operator_start, mark_start, start_at, key_lead, lead_at, suffix_at}
use Rattle.c_parse.specs.inner.Reading.{of_level, operator_at, assigner_at}

pub bind_ok : {A B : Type 0} (r : Result A Fault) (f : A → Result B Fault) (y : B) → (r >>= f) ≡ Ok y → (x : A) × (r ≡ Ok x) × (f x ≡ Ok y)
bind_ok (Ok x) f y e = (x, refl, e)
bind_ok (Err d) f y e = absurd cc

abbrev pub done : {A : Type 0} → A → Result A Fault
done x = Ok x

abbrev value_in : {A : Type 0} → A → Result A Fault → A
value_in x (Ok y) = y
value_in x (Err d) = x

pub ok_is : {A : Type 0} (x y : A) → done x ≡ done y → x ≡ y
ok_is {A} x y e = ap (λ (r : Result A Fault). value_in x r) e

-- what holds of the value that is known holds of the one that was read
pub ok_at : {A : Type 0} (P : A → Type 0) (x y : A) → done x ≡ done y → P x → P y
ok_at {A} P x y e h = subst (λ (z : A). P z) (ok_is x y e) h

above_by : {A : Type 0} (b : Bool) (ts : List Tok) (r : Result A Fault) (x : A) → cond b r (deep ts) ≡ Ok x → (b ≡ true) × (r ≡ Ok x)
above_by true ts r x e = (refl, e)
above_by false ts r x e = absurd cc

pub above_ok : {A : Type 0} (d room : ℕ) (ts : List Tok) (r : Result A Fault) (x : A) → above d room ts r ≡ Ok x → (d < room) × (r ≡ Ok x)
above_ok d room ts r x e = let a = above_by (ltb d room) ts r x e in (ltb-true _ _ a.0, a.1)

pub must_is : (b : Bool) (ts rest : List Tok) → must (is_behind ts b) ts ≡ Ok rest → (b ≡ true) × (behind ts ≡ rest)
must_is true ts rest e = (refl, ok_is _ _ e)
must_is false ts rest e = absurd cc

pub choice_ok : {A : Type 0} (b : Bool) (x y : A) (d : Fault) → cond b (Ok x) (Err d) ≡ Ok y → (b ≡ true) × (x ≡ y)
choice_ok true x y d e = (refl, ok_is _ _ e)
choice_ok false x y d e = absurd cc

pub at_open_paren-is : (ts : List Tok) → at_open_paren ts ≡ true → ts ≡ mark m.OpenParen ∷ behind ts
at_open_paren-is [] e = absurd cc
at_open_paren-is (mark m.OpenParen ∷ ts) e = refl
at_open_paren-is (_ ∷ ts) e = absurd cc

pub at_close_paren-is : (ts : List Tok) → at_close_paren ts ≡ true → ts ≡ mark m.CloseParen ∷ behind ts
at_close_paren-is [] e = absurd cc
at_close_paren-is (mark m.CloseParen ∷ ts) e = refl
at_close_paren-is (_ ∷ ts) e = absurd cc

pub at_open_bracket-is : (ts : List Tok) → at_open_bracket ts ≡ true → ts ≡ mark m.OpenBracket ∷ behind ts
at_open_bracket-is [] e = absurd cc
at_open_bracket-is (mark m.OpenBracket ∷ ts) e = refl
at_open_bracket-is (_ ∷ ts) e = absurd cc

pub at_close_bracket-is : (ts : List Tok) → at_close_bracket ts ≡ true → ts ≡ mark m.CloseBracket ∷ behind ts
at_close_bracket-is [] e = absurd cc
at_close_bracket-is (mark m.CloseBracket ∷ ts) e = refl
at_close_bracket-is (_ ∷ ts) e = absurd cc

pub at_open_brace-is : (ts : List Tok) → at_open_brace ts ≡ true → ts ≡ mark m.OpenBrace ∷ behind ts
at_open_brace-is [] e = absurd cc
at_open_brace-is (mark m.OpenBrace ∷ ts) e = refl
at_open_brace-is (_ ∷ ts) e = absurd cc

pub at_close_brace-is : (ts : List Tok) → at_close_brace ts ≡ true → ts ≡ mark m.CloseBrace ∷ behind ts
at_close_brace-is [] e = absurd cc
at_close_brace-is (mark m.CloseBrace ∷ ts) e = refl
at_close_brace-is (_ ∷ ts) e = absurd cc

pub at_semicolon-is : (ts : List Tok) → at_semicolon ts ≡ true → ts ≡ mark m.Semicolon ∷ behind ts
at_semicolon-is [] e = absurd cc
at_semicolon-is (mark m.Semicolon ∷ ts) e = refl
at_semicolon-is (_ ∷ ts) e = absurd cc

pub at_comma-is : (ts : List Tok) → at_comma ts ≡ true → ts ≡ mark m.Comma ∷ behind ts
at_comma-is [] e = absurd cc
at_comma-is (mark m.Comma ∷ ts) e = refl
at_comma-is (_ ∷ ts) e = absurd cc

pub at_colon-is : (ts : List Tok) → at_colon ts ≡ true → ts ≡ mark m.Colon ∷ behind ts
at_colon-is [] e = absurd cc
at_colon-is (mark m.Colon ∷ ts) e = refl
at_colon-is (_ ∷ ts) e = absurd cc

pub at_assign-is : (ts : List Tok) → at_assign ts ≡ true → ts ≡ mark m.Assign ∷ behind ts
at_assign-is [] e = absurd cc
at_assign-is (mark m.Assign ∷ ts) e = refl
at_assign-is (_ ∷ ts) e = absurd cc

pub at_star-is : (ts : List Tok) → at_star ts ≡ true → ts ≡ mark m.Star ∷ behind ts
at_star-is [] e = absurd cc
at_star-is (mark m.Star ∷ ts) e = refl
at_star-is (_ ∷ ts) e = absurd cc

pub at_else_word-is : (ts : List Tok) → at_else_word ts ≡ true → ts ≡ keyword key.Else ∷ behind ts
at_else_word-is [] e = absurd cc
at_else_word-is (keyword key.Else ∷ ts) e = refl
at_else_word-is (_ ∷ ts) e = absurd cc

pub at_while_word-is : (ts : List Tok) → at_while_word ts ≡ true → ts ≡ keyword key.While ∷ behind ts
at_while_word-is [] e = absurd cc
at_while_word-is (keyword key.While ∷ ts) e = refl
at_while_word-is (_ ∷ ts) e = absurd cc

pub at_void_word-is : (ts : List Tok) → at_void_word ts ≡ true → ts ≡ keyword key.Void ∷ behind ts
at_void_word-is [] e = absurd cc
at_void_word-is (keyword key.Void ∷ ts) e = refl
at_void_word-is (_ ∷ ts) e = absurd cc

pub open_paren-is : (ts rest : List Tok) → open_paren ts ≡ Ok rest → ts ≡ mark m.OpenParen ∷ rest
open_paren-is ts rest e = let a = must_is (at_open_paren ts) ts rest e in at_open_paren-is ts a.0 ∙ ap (λ (z : List Tok). mark m.OpenParen ∷ z) a.1

pub close_paren-is : (ts rest : List Tok) → close_paren ts ≡ Ok rest → ts ≡ mark m.CloseParen ∷ rest
close_paren-is ts rest e = let a = must_is (at_close_paren ts) ts rest e in at_close_paren-is ts a.0 ∙ ap (λ (z : List Tok). mark m.CloseParen ∷ z) a.1

pub close_bracket-is : (ts rest : List Tok) → close_bracket ts ≡ Ok rest → ts ≡ mark m.CloseBracket ∷ rest
close_bracket-is ts rest e = let a = must_is (at_close_bracket ts) ts rest e in at_close_bracket-is ts a.0 ∙ ap (λ (z : List Tok). mark m.CloseBracket ∷ z) a.1

pub open_brace-is : (ts rest : List Tok) → open_brace ts ≡ Ok rest → ts ≡ mark m.OpenBrace ∷ rest
open_brace-is ts rest e = let a = must_is (at_open_brace ts) ts rest e in at_open_brace-is ts a.0 ∙ ap (λ (z : List Tok). mark m.OpenBrace ∷ z) a.1

pub close_brace-is : (ts rest : List Tok) → close_brace ts ≡ Ok rest → ts ≡ mark m.CloseBrace ∷ rest
close_brace-is ts rest e = let a = must_is (at_close_brace ts) ts rest e in at_close_brace-is ts a.0 ∙ ap (λ (z : List Tok). mark m.CloseBrace ∷ z) a.1

pub semicolon-is : (ts rest : List Tok) → semicolon ts ≡ Ok rest → ts ≡ mark m.Semicolon ∷ rest
semicolon-is ts rest e = let a = must_is (at_semicolon ts) ts rest e in at_semicolon-is ts a.0 ∙ ap (λ (z : List Tok). mark m.Semicolon ∷ z) a.1

pub colon-is : (ts rest : List Tok) → colon ts ≡ Ok rest → ts ≡ mark m.Colon ∷ rest
colon-is ts rest e = let a = must_is (at_colon ts) ts rest e in at_colon-is ts a.0 ∙ ap (λ (z : List Tok). mark m.Colon ∷ z) a.1

pub while_word-is : (ts rest : List Tok) → while_word ts ≡ Ok rest → ts ≡ keyword key.While ∷ rest
while_word-is ts rest e = let a = must_is (at_while_word ts) ts rest e in at_while_word-is ts a.0 ∙ ap (λ (z : List Tok). keyword key.While ∷ z) a.1

no_bracket : (ts : List Tok) → at_open_bracket ts ≡ false → NoBracket ts
no_bracket [] e = tt
no_bracket (mark m.OpenBracket ∷ ts) e = absurd cc
no_bracket (_ ∷ ts) e = tt

pub no_bracket_next : (ts : List Tok) → at_open_bracket ts ≡ false → NoBracket ts
no_bracket_next ts e = no_bracket ts e

not_both : (b : Bool) → cond b false true ≡ true → b ≡ false
not_both true e = absurd cc
not_both false e = refl

pub at_name-is : (c : Context) (ts : List Tok) → at_name c ts ≡ true → (ts ≡ word (bytes_at ts) ∷ behind ts) × (is_type c (bytes_at ts) ≡ false)
at_name-is c [] e = absurd cc
at_name-is c (word n ∷ ts) e = (refl, not_both (is_type c n) e)
at_name-is c (_ ∷ ts) e = absurd cc

pub at_new-is : (ts : List Tok) → at_new ts ≡ true → ts ≡ word (bytes_at ts) ∷ behind ts
at_new-is [] e = absurd cc
at_new-is (word n ∷ ts) e = refl
at_new-is (_ ∷ ts) e = absurd cc

abbrev faulty : {A : Type 0} → Fault → Result A Fault
faulty d = Err d

pub name-is : (c : Context) (ts : List Tok) (x : Got (List ℕ)) → name c ts ≡ Ok x → (ts ≡ word x.0 ∷ x.1) × (is_type c x.0 ≡ false)
name-is c ts x e =
    let a = choice_ok (at_name c ts) (bytes_at ts, behind ts) x _ e in
    let i = at_name-is c ts a.0 in
    (subst (λ (z : Got (List ℕ)). ts ≡ word z.0 ∷ z.1) a.1 i.0, subst (λ (z : Got (List ℕ)). is_type c z.0 ≡ false) a.1 i.1)

pub new-is : (ts : List Tok) (x : Got (List ℕ)) → new ts ≡ Ok x → ts ≡ word x.0 ∷ x.1
new-is ts x e =
    let a = choice_ok (at_new ts) (bytes_at ts, behind ts) x _ e in
    subst (λ (z : Got (List ℕ)). ts ≡ word z.0 ∷ z.1) a.1 (at_new-is ts a.0)

-- ---- leads

cast_or_not : (b : Bool) (op : UnOp) → cond b start.Cast start.Other ≡ start.Operator op → ⊥
cast_or_not true op e = cc
cast_or_not false op e = cc

cast_or_step : (b : Bool) (op : StepOp) → cond b start.Cast start.Other ≡ start.Step op → ⊥
cast_or_step true op e = cc
cast_or_step false op e = cc

cast_or_size : (b : Bool) → cond b start.Cast start.Other ≡ start.Size → ⊥
cast_or_size true e = cc
cast_or_size false e = cc

abbrev op_in : UnOp → Start → UnOp
op_in d (start.Operator op) = op
op_in d _ = d

abbrev step_in : StepOp → Start → StepOp
step_in d (start.Step op) = op
step_in d _ = d

prefix_operator : (o : Option UnOp) (op : UnOp) → operator_start o ≡ start.Operator op → o ≡ Some op
prefix_operator (Some p) op e = ap (λ (s : Start). Some (op_in p s)) e
prefix_operator None op e = absurd cc

prefix_no_step : (o : Option UnOp) (op : StepOp) → operator_start o ≡ start.Step op → ⊥
prefix_no_step (Some p) op e = cc
prefix_no_step None op e = cc

prefix_no_cast : (o : Option UnOp) → operator_start o ≡ start.Cast → ⊥
prefix_no_cast (Some p) e = cc
prefix_no_cast None e = cc

prefix_no_size : (o : Option UnOp) → operator_start o ≡ start.Size → ⊥
prefix_no_size (Some p) e = cc
prefix_no_size None e = cc

operator_mark : (c : Context) (p : Punct) (ts : List Tok) (op : UnOp) → mark_start c p ts ≡ start.Operator op → prefix (mark p) ≡ Some op
operator_mark c m.PlusPlus ts op e = absurd cc
operator_mark c m.MinusMinus ts op e = absurd cc
operator_mark c m.OpenParen ts op e = absurd (cast_or_not (begins_type c ts) op e)
operator_mark c p ts op e = prefix_operator (prefix_mark p) op e

pub operator-is : (c : Context) (ts : List Tok) (op : UnOp) → start_at c ts ≡ start.Operator op → (o : Tok) × (ts ≡ o ∷ behind ts) × (prefix o ≡ Some op)
operator-is c [] op e = absurd cc
operator-is c (mark p ∷ ts) op e = (mark p, refl, operator_mark c p ts op e)
operator-is c (keyword key.SizeOf ∷ ts) op e = absurd cc
operator-is c (_ ∷ ts) op e = absurd cc

step_mark : (c : Context) (p : Punct) (ts : List Tok) (op : StepOp) → mark_start c p ts ≡ start.Step op → step_before (mark p) ≡ Some op
step_mark c m.PlusPlus ts op e = ap (λ (s : Start). Some (step_in op s)) e
step_mark c m.MinusMinus ts op e = ap (λ (s : Start). Some (step_in op s)) e
step_mark c m.OpenParen ts op e = absurd (cast_or_step (begins_type c ts) op e)
step_mark c p ts op e = absurd (prefix_no_step (prefix_mark p) op e)

pub step-is : (c : Context) (ts : List Tok) (op : StepOp) → start_at c ts ≡ start.Step op → (o : Tok) × (ts ≡ o ∷ behind ts) × (step_before o ≡ Some op)
step-is c [] op e = absurd cc
step-is c (mark p ∷ ts) op e = (mark p, refl, step_mark c p ts op e)
step-is c (keyword key.SizeOf ∷ ts) op e = absurd cc
step-is c (_ ∷ ts) op e = absurd cc

cast_mark : (c : Context) (p : Punct) (ts : List Tok) → mark_start c p ts ≡ start.Cast → p ≡ m.OpenParen
cast_mark c m.PlusPlus ts e = absurd cc
cast_mark c m.MinusMinus ts e = absurd cc
cast_mark c m.OpenParen ts e = refl
cast_mark c p ts e = absurd (prefix_no_cast (prefix_mark p) e)

pub cast-is : (c : Context) (ts : List Tok) → start_at c ts ≡ start.Cast → ts ≡ mark m.OpenParen ∷ behind ts
cast-is c [] e = absurd cc
cast-is c (mark p ∷ ts) e = ap (λ (q : Punct). mark q ∷ ts) (cast_mark c p ts e)
cast-is c (keyword key.SizeOf ∷ ts) e = absurd cc
cast-is c (_ ∷ ts) e = absurd cc

size_mark : (c : Context) (p : Punct) (ts : List Tok) → mark_start c p ts ≡ start.Size → ⊥
size_mark c m.PlusPlus ts e = cc
size_mark c m.MinusMinus ts e = cc
size_mark c m.OpenParen ts e = cast_or_size (begins_type c ts) e
size_mark c p ts e = prefix_no_size (prefix_mark p) e

pub size-is : (c : Context) (ts : List Tok) → start_at c ts ≡ start.Size → ts ≡ keyword key.SizeOf ∷ behind ts
size-is c [] e = absurd cc
size-is c (mark p ∷ ts) e = absurd (size_mark c p ts e)
size-is c (keyword key.SizeOf ∷ ts) e = refl
size-is c (_ ∷ ts) e = absurd cc

other_or_name : (b : Bool) → cond b lead.Other lead.Name ≡ lead.Name → b ≡ false
other_or_name true e = absurd cc
other_or_name false e = refl

pub lead_name-is : (c : Context) (ts : List Tok) → lead_at c ts ≡ lead.Name → (ts ≡ word (bytes_at ts) ∷ behind ts) × (is_type c (bytes_at ts) ≡ false)
lead_name-is c [] e = absurd cc
lead_name-is c (word n ∷ ts) e = (refl, other_or_name (is_type c n) e)
lead_name-is c (keyword key.True ∷ ts) e = absurd cc
lead_name-is c (mark m.OpenParen ∷ ts) e = absurd cc
lead_name-is c (_ ∷ ts) e = absurd cc

abbrev number_in : ℕ → Lead → ℕ
number_in d (lead.Value n) = n
number_in d _ = d

value_or_name : (b : Bool) (n : ℕ) → cond b lead.Other lead.Name ≡ lead.Value n → ⊥
value_or_name true n e = cc
value_or_name false n e = cc

key_value : (k : Key) (n : ℕ) → key_lead k ≡ lead.Value n → value_of_key k ≡ Some n
key_value key.True n e = ap (λ (l : Lead). Some (number_in 0 l)) e
key_value key.False n e = ap (λ (l : Lead). Some (number_in 0 l)) e
key_value key.Null n e = absurd cc
key_value _ n e = absurd cc

pub value-is : (c : Context) (ts : List Tok) (n : ℕ) → lead_at c ts ≡ lead.Value n → (o : Tok) × (ts ≡ o ∷ behind ts) × (value o ≡ Some n)
value-is c [] n e = absurd cc
value-is c (word w ∷ ts) n e = absurd (value_or_name (is_type c w) n e)
value-is c (number k ∷ ts) n e = (number k, refl, ap (λ (l : Lead). Some (number_in 0 l)) e)
value-is c (character k ∷ ts) n e = (character k, refl, ap (λ (l : Lead). Some (number_in 0 l)) e)
value-is c (keyword k ∷ ts) n e = (keyword k, refl, key_value k n e)
value-is c (mark m.OpenParen ∷ ts) n e = absurd cc
value-is c (_ ∷ ts) n e = absurd cc

text_or_name : (b : Bool) → cond b lead.Other lead.Name ≡ lead.Text → ⊥
text_or_name true e = cc
text_or_name false e = cc

pub text-is : (c : Context) (ts : List Tok) → lead_at c ts ≡ lead.Text → ts ≡ text (bytes_at ts) ∷ behind ts
text-is c [] e = absurd cc
text-is c (word w ∷ ts) e = absurd (text_or_name (is_type c w) e)
text-is c (text t ∷ ts) e = refl
text-is c (keyword key.True ∷ ts) e = absurd cc
text-is c (mark m.OpenParen ∷ ts) e = absurd cc
text-is c (_ ∷ ts) e = absurd cc

null_or_name : (b : Bool) → cond b lead.Other lead.Name ≡ lead.Null → ⊥
null_or_name true e = cc
null_or_name false e = cc

pub null-is : (c : Context) (ts : List Tok) → lead_at c ts ≡ lead.Null → ts ≡ keyword key.Null ∷ behind ts
null-is c [] e = absurd cc
null-is c (word w ∷ ts) e = absurd (null_or_name (is_type c w) e)
null-is c (keyword key.Null ∷ ts) e = refl
null-is c (mark m.OpenParen ∷ ts) e = absurd cc
null-is c (_ ∷ ts) e = absurd cc

paren_or_name : (b : Bool) → cond b lead.Other lead.Name ≡ lead.Paren → ⊥
paren_or_name true e = cc
paren_or_name false e = cc

pub paren-is : (c : Context) (ts : List Tok) → lead_at c ts ≡ lead.Paren → ts ≡ mark m.OpenParen ∷ behind ts
paren-is c [] e = absurd cc
paren-is c (word w ∷ ts) e = absurd (paren_or_name (is_type c w) e)
paren-is c (mark m.OpenParen ∷ ts) e = refl
paren-is c (keyword key.True ∷ ts) e = absurd cc
paren-is c (_ ∷ ts) e = absurd cc

pub index-is : (ts : List Tok) → suffix_at ts ≡ suffix.Index → ts ≡ mark m.OpenBracket ∷ behind ts
index-is [] e = absurd cc
index-is (mark m.OpenBracket ∷ ts) e = refl
index-is (_ ∷ ts) e = absurd cc

pub member-is : (ts : List Tok) → suffix_at ts ≡ suffix.Member → ts ≡ mark m.Dot ∷ behind ts
member-is [] e = absurd cc
member-is (mark m.Dot ∷ ts) e = refl
member-is (_ ∷ ts) e = absurd cc

pub arrow-is : (ts : List Tok) → suffix_at ts ≡ suffix.Arrow → ts ≡ mark m.Arrow ∷ behind ts
arrow-is [] e = absurd cc
arrow-is (mark m.Arrow ∷ ts) e = refl
arrow-is (_ ∷ ts) e = absurd cc

abbrev suffix_in : StepOp → Suffix → StepOp
suffix_in d (suffix.Step op) = op
suffix_in d _ = d

pub stepped-is : (ts : List Tok) (op : StepOp) → suffix_at ts ≡ suffix.Step op → (o : Tok) × (ts ≡ o ∷ behind ts) × (step_behind o ≡ Some op)
stepped-is [] op e = absurd cc
stepped-is (mark m.PlusPlus ∷ ts) op e = (mark m.PlusPlus, refl, ap (λ (s : Suffix). Some (suffix_in op s)) e)
stepped-is (mark m.MinusMinus ∷ ts) op e = (mark m.MinusMinus, refl, ap (λ (s : Suffix). Some (suffix_in op s)) e)
stepped-is (_ ∷ ts) op e = absurd cc

named_or_other : (b : Bool) → cond b type_.Named type_.Other ≡ type_.Named → b ≡ true
named_or_other true e = refl
named_or_other false e = absurd cc

int_or_other : (b : Bool) → cond b type_.Named type_.Other ≡ type_.Int → ⊥
int_or_other true e = cc
int_or_other false e = cc

bool_or_other : (b : Bool) → cond b type_.Named type_.Other ≡ type_.Bool → ⊥
bool_or_other true e = cc
bool_or_other false e = cc

void_or_other : (b : Bool) → cond b type_.Named type_.Other ≡ type_.Void → ⊥
void_or_other true e = cc
void_or_other false e = cc

pub int-is : (c : Context) (ts : List Tok) → type_at c ts ≡ type_.Int → ts ≡ keyword key.Int ∷ behind ts
int-is c [] e = absurd cc
int-is c (word n ∷ ts) e = absurd (int_or_other (is_type c n) e)
int-is c (keyword key.Int ∷ ts) e = refl
int-is c (_ ∷ ts) e = absurd cc

pub bool-is : (c : Context) (ts : List Tok) → type_at c ts ≡ type_.Bool → ts ≡ keyword key.Bool ∷ behind ts
bool-is c [] e = absurd cc
bool-is c (word n ∷ ts) e = absurd (bool_or_other (is_type c n) e)
bool-is c (keyword key.Bool ∷ ts) e = refl
bool-is c (_ ∷ ts) e = absurd cc

pub void-is : (c : Context) (ts : List Tok) → type_at c ts ≡ type_.Void → ts ≡ keyword key.Void ∷ behind ts
void-is c [] e = absurd cc
void-is c (word n ∷ ts) e = absurd (void_or_other (is_type c n) e)
void-is c (keyword key.Void ∷ ts) e = refl
void-is c (_ ∷ ts) e = absurd cc

pub named-is : (c : Context) (ts : List Tok) → type_at c ts ≡ type_.Named → (ts ≡ word (bytes_at ts) ∷ behind ts) × (is_type c (bytes_at ts) ≡ true)
named-is c [] e = absurd cc
named-is c (word n ∷ ts) e = (refl, named_or_other (is_type c n) e)
named-is c (keyword key.Int ∷ ts) e = absurd cc
named-is c (_ ∷ ts) e = absurd cc

pub star-is : (ts : List Tok) → type_mark_at ts ≡ type_mark.Star → ts ≡ mark m.Star ∷ behind ts
star-is [] e = absurd cc
star-is (mark m.Star ∷ ts) e = refl
star-is (_ ∷ ts) e = absurd cc

pub bracket-is : (ts : List Tok) → type_mark_at ts ≡ type_mark.Bracket → ts ≡ mark m.OpenBracket ∷ behind ts
bracket-is [] e = absurd cc
bracket-is (mark m.OpenBracket ∷ ts) e = refl
bracket-is (_ ∷ ts) e = absurd cc

level_by : (b : Bool) (p op : BinOp) → cond b (Some p) None ≡ Some op → (b ≡ true) × (p ≡ op)
level_by true p op e = (refl, cc)
level_by false p op e = absurd cc

of_level-is : (k : ℕ) (f : Option (ℕ × BinOp)) (op : BinOp) → of_level k f ≡ Some op → f ≡ Some (k, op)
of_level-is k None op e = absurd cc
of_level-is k (Some p) op e = let a = level_by (eqb p.0 k) p.1 op e in let i : p.0 ≡ k = eqb-true _ _ a.0 in rw (← i, ← a.1) refl

pub level_operator-is : (k : ℕ) (ts : List Tok) (op : BinOp) → operator_at k ts ≡ Some op → (o : Tok) × (ts ≡ o ∷ behind ts) × (binary o ≡ Some (k, op))
level_operator-is k [] op e = absurd cc
level_operator-is k (o ∷ ts) op e = (o, refl, of_level-is k (binary o) op e)

pub assigner-is : (ts : List Tok) (op : Option BinOp) → assigner_at ts ≡ Some op → (o : Tok) × (ts ≡ o ∷ behind ts) × (assigner o ≡ Some op)
assigner-is [] op e = absurd cc
assigner-is (o ∷ ts) op e = (o, refl, e)
