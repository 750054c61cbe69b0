-- What the grammar derives of variables, members, parameters and the values of an enumeration is read, or is too deep.
use Rattle.std.proofs.Common.{◌≡◌, ℕ, zero, suc, ◌+◌, ◌<◌, ◌≤◌, true, false, List, [], ◌∷◌, ◌++◌, length, Option, Some, None, Ok, refl, subst, arith}
use Rattle.std.specs.Prelude.{max, ◌||◌}
use Rattle.std.proofs.lemmas.List.{append-nil}
use Rattle.c_lex.specs.declared.token.Punct.TheVariants as m
use Rattle.c_tree.specs.Tree.{ExprT, TypeT, InitT, OneI, ListI, VarT}
use Rattle.c_tree.specs.View.{inits}
use Rattle.c_tree.specs.Depth.{type_depth, init_depth, inits_depth, var_depth, vars_depth, maybe_expr_depth, values_depth}
use Rattle.c_parse.specs.declared.lead.TypeMark.TheVariants as type_mark
use Rattle.c_parse.specs.Tok.{Tok, word, mark}
use Rattle.c_parse.specs.Scope.{Context, is_type, span}
use Rattle.c_parse.specs.inner.Reader.{◌>>=◌, Got, Reader, Turn, name, at_comma, at_more, at_assign, at_open_brace, at_close_brace, at_close_paren, end_list, semicolon}
use Rattle.c_parse.specs.inner.Leads.{begins_expr, begins_type, type_mark_at}
use Rattle.c_parse.specs.inner.Reading.{type_read}
use Rattle.c_parse.specs.inner.ReadingLists.{pushed, comma_turn, more_turn, separated, listed}
use Rattle.c_parse.specs.inner.ReadingDeclarations.{init_by, init_at, field, var, vars_at, member_at, members_turn, members_at, param_at, at_void, params_at, value}
use Rattle.c_parse.specs.Grammar.{Base, Ty, Expr, Level}
use Rattle.c_parse.specs.Grammar as g
use Rattle.c_parse.specs.Lists.{Separated, ListEnd}
use Rattle.c_parse.specs.Lists as l
use Rattle.c_parse.specs.Declarations as d
use Rattle.c_parse.specs.Declarations.{Init, Inits, Field, Var, Vars, Member, Members, Param, Params, Value}
use Rattle.c_parse.proofs.Outcomes.{Reads, read, reads_is, bind_reads, none_reads}
use Rattle.c_parse.proofs.Fronts.{Ends, Ends_less, end_ends, expr_begins, ty_type}
use Rattle.c_parse.proofs.Sizes.{expr_shorter, level_shorter, ty_shorter}
use Rattle.c_parse.proofs.ListReads.{Parts, Turned, stop, next, Several, several, several_reads}
use Rattle.c_parse.proofs.ExprReads.{ty_reads, expr_reads, level_reads}

-- what ends an expression is no assignment
pub ends_assign : (ts : List Tok) → Ends 11 ts → at_assign ts ≡ false
ends_assign [] h = refl
ends_assign (mark m.Assign ∷ ts) h = let e = h.assigner (omega arith) in absurd cc
ends_assign (_ ∷ ts) h = refl

init-is : (c : Context) (n : ℕ) (ts : List Tok) → init_at c (suc n) ts ≡ init_by c n (λ us. init_at c n us) ts (at_open_brace ts)
unfolding init_at
init-is c n ts = refl

init_deep : (i : InitT) → 0 < init_depth i
init_deep (OneI e) = omega arith
init_deep (ListI is sp) = omega arith

init_none : {i : InitT} {rest : List Tok} (c : Context) (ts : List Tok) → (at_open_brace ts || begins_expr c ts) ≡ true → Reads (init_depth i) zero (i, rest) (init_at c zero ts)
unfolding init_at
init_none {i = i} c ts b = none_reads (at_open_brace ts || begins_expr c ts) ts b (init_deep i)

-- an expression begins with no brace
expr_no_brace : (c : Context) (ts : List Tok) → begins_expr c ts ≡ true → at_open_brace ts ≡ false
expr_no_brace c [] b = refl
expr_no_brace c (mark m.OpenBrace ∷ ts) b = absurd cc
expr_no_brace c (_ ∷ ts) b = refl

pub expr_no_end : (c : Context) (ts : List Tok) → begins_expr c ts ≡ true → at_close_brace ts ≡ false
expr_no_end c [] b = refl
expr_no_end c (mark m.CloseBrace ∷ ts) b = absurd cc
expr_no_end c (_ ∷ ts) b = refl

init_begins : {c : Context} {ts rest : List Tok} {i : InitT} → Init c ts i rest → (at_open_brace ts || begins_expr c ts) ≡ true
init_begins {c = c} {ts = ts} (d.one e) = rw (expr_no_brace c ts (expr_begins e), expr_begins e) refl
init_begins (d.list is end) = refl

init_no_end : {c : Context} {ts rest : List Tok} {i : InitT} → Init c ts i rest → at_close_brace ts ≡ false
init_no_end {c = c} {ts = ts} (d.one e) = expr_no_end c ts (expr_begins e)
init_no_end (d.list is end) = refl

inits_no_end : {c : Context} {ts rest : List Tok} {is : List InitT} → Inits c ts is rest → at_close_brace ts ≡ false
inits_no_end (d.last_init i) = init_no_end i
inits_no_end (d.more_inits i r) = init_no_end i

pub list_end_more : {ts rest : List Tok} → ListEnd ts rest → at_more ts ≡ false
list_end_more l.brace = refl
list_end_more l.comma = refl

pub list_end_ends : {ts rest : List Tok} → ListEnd ts rest → Ends 11 ts
list_end_ends (l.brace {rest = rest}) = end_ends 11 m.CloseBrace rest tt
list_end_ends (l.comma {rest = rest}) = end_ends 11 m.Comma (mark m.CloseBrace ∷ rest) tt

pub list_end_reads : {ts rest : List Tok} → ListEnd ts rest → end_list ts ≡ Ok rest
list_end_reads l.brace = refl
list_end_reads l.comma = refl

pub list_end_shorter : {ts rest : List Tok} → ListEnd ts rest → length rest < length ts
list_end_shorter l.brace = omega arith
list_end_shorter l.comma = omega arith

mutual
  pub init_shorter : {c : Context} {ts rest : List Tok} {i : InitT} → Init c ts i rest → length rest < length ts
  init_shorter (d.one e) = expr_shorter e
  init_shorter (d.list is end) = omega (arith, inits_shorter is, list_end_shorter end)

  inits_shorter : {c : Context} {ts rest : List Tok} {is : List InitT} → Inits c ts is rest → length rest < length ts
  inits_shorter (d.last_init i) = init_shorter i
  inits_shorter (d.more_inits i r) = omega (arith, init_shorter i, inits_shorter r)

abbrev init_parts : Parts InitT InitT
init_parts = record { part = λ i. i ∷ []; depth = init_depth; deepest = λ is. inits_depth (inits is); none = refl; some = λ i is. refl }

abbrev inits_turn : Context → ℕ → Turn (List InitT)
inits_turn c n = more_turn (λ us. init_at c n us)

more_stops : {A : Type 0} (reader : Reader A) (ts : List Tok) → at_more ts ≡ false → (xs : List A) → more_turn reader xs ts ≡ Ok None
more_stops reader ts e xs = rw e refl

-- a comma with which a list goes on
more_turned : {A : Type 0} (p : Parts A A) (reader : Reader A) (n : ℕ) (ts : List Tok) → at_close_brace ts ≡ false → (ys : List A) → more_turn reader ys (mark m.Comma ∷ ts) ≡ (reader ts >>= pushed ys)
more_turned p reader n ts e ys = rw e refl

inits_turned : (c : Context) (n : ℕ) {ts rest : List Tok} {is : List InitT} → at_close_brace ts ≡ false → Several init_parts n (inits_turn c n) (λ us. init_at c n us) ts is rest → Turned init_parts n (inits_turn c n) (mark m.Comma ∷ ts) is rest
inits_turned c n {ts = ts} e (several h less s) = next (λ ys. more_turned init_parts (λ us. init_at c n us) n ts e ys) h (omega arith) s

list_reads : (c : Context) (n : ℕ) {ts mid rest : List Tok} {is : List InitT} → Several init_parts n (inits_turn c n) (λ us. init_at c n us) ts is mid → ListEnd mid rest
    → Reads {A = Got InitT} (inits_depth (inits is) + 1) (suc n) (ListI (inits is) (span c (mark m.OpenBrace ∷ ts) rest), rest) (init_by c n (λ us. init_at c n us) (mark m.OpenBrace ∷ ts) true)
list_reads c n {ts = ts} {mid = mid} {rest = rest} {is = is} s end = bind_reads _ (several_reads init_parts n (inits_turn c n) s) (λ deep. omega arith) (λ fits. rw (list_end_reads end) (read (omega arith)))

mutual
  pub init_reads : {c : Context} {ts rest : List Tok} {i : InitT} → Init c ts i rest → Ends 11 rest → (r : ℕ) → Reads (init_depth i) r (i, rest) (init_at c r ts)
  init_reads {c = c} {ts = ts} i ends zero = init_none c ts (init_begins i)
  init_reads {c = c} {ts = ts} (d.one e) ends (suc n) = reads_is _ _ (init-is c n ts)
      (rw (expr_no_brace c ts (expr_begins e)) (bind_reads _ (expr_reads e ends n) (λ deep. omega arith) (λ fits. read (omega arith))))
  init_reads {c = c} (d.list {ts = ts} is end) ends (suc n) = reads_is _ _ (init-is c n (mark m.OpenBrace ∷ ts)) (list_reads c n (inits_several is (list_end_more end) (list_end_ends end) n) end)

  inits_several : {c : Context} {ts rest : List Tok} {is : List InitT} → Inits c ts is rest → at_more rest ≡ false → Ends 11 rest → (n : ℕ) → Several init_parts n (inits_turn c n) (λ us. init_at c n us) ts is rest
  inits_several {c = c} (d.last_init {rest = rest} i) e ends n = several (init_reads i ends n) (init_shorter i) (stop (λ xs. more_stops (λ us. init_at c n us) rest e xs))
  inits_several {c = c} (d.more_inits {mid = mid} i r) e ends n = several (init_reads i (end_ends 11 m.Comma mid tt) n) (init_shorter i) (inits_turned c n (inits_no_end r) (inits_several r e ends n))

-- lists whose elements are read by a reader that is given, each behind a comma
module _ {A : Type 0} (depth : A → ℕ) (deepest : List A → ℕ) (none : deepest [] ≡ 0) (some : (x : A) (xs : List A) → deepest (x ∷ xs) ≡ max (depth x) (deepest xs)) where
  abbrev ones : Parts A A
  ones = record { part = λ x. x ∷ []; depth = depth; deepest = deepest; none = none; some = some }

  module _ (P : List Tok → A → List Tok → Type 0) (reader : Reader A) (n : ℕ) (reads : (ts rest : List Tok) (x : A) → P ts x rest → Ends 11 rest → Reads (depth x) n (x, rest) (reader ts))
      (shorter : (ts rest : List Tok) (x : A) → P ts x rest → length rest < length ts) where
    comma_stops : (ts : List Tok) → at_comma ts ≡ false → (xs : List A) → comma_turn reader xs ts ≡ Ok None
    comma_stops ts e xs = rw e refl

    comma_turned : {ts rest : List Tok} {xs : List A} → Several ones n (comma_turn reader) reader ts xs rest → Turned ones n (comma_turn reader) (mark m.Comma ∷ ts) xs rest
    comma_turned (several h less s) = next (λ ys. refl) h (omega arith) s

    parted : {ts rest : List Tok} {xs : List A} → Separated P ts xs rest → Ends 11 rest → at_comma rest ≡ false → Several ones n (comma_turn reader) reader ts xs rest
    parted (l.last {ts = ts} {rest = rest} {x = x} h) ends e = several (reads ts rest x h ends) (shorter ts rest x h) (stop (λ xs. comma_stops rest e xs))
    parted (l.more {ts = ts} {mid = mid} {x = x} h s) ends e = several (reads ts (mark m.Comma ∷ mid) x h (end_ends 11 m.Comma mid tt)) (shorter ts (mark m.Comma ∷ mid) x h) (comma_turned (parted s ends e))

    pub separated_reads : {ts rest : List Tok} {xs : List A} → Separated P ts xs rest → Ends 11 rest → at_comma rest ≡ false → Reads (deepest xs) n (xs, rest) (separated reader ts)
    separated_reads s ends e = several_reads ones n (comma_turn reader) (parted s ends e)

    more_on : (ts : List Tok) → at_close_brace ts ≡ false → {rest : List Tok} {xs : List A} → Several ones n (more_turn reader) reader ts xs rest → Turned ones n (more_turn reader) (mark m.Comma ∷ ts) xs rest
    more_on ts e (several h less s) = next (λ ys. more_turned ones reader n ts e ys) h (omega arith) s

    module _ (begins : (ts rest : List Tok) (x : A) → P ts x rest → at_close_brace ts ≡ false) where
      front : {ts rest : List Tok} {xs : List A} → Separated P ts xs rest → at_close_brace ts ≡ false
      front (l.last {ts = ts} {rest = rest} {x = x} h) = begins ts rest x h
      front (l.more {ts = ts} {mid = mid} {x = x} h s) = begins ts (mark m.Comma ∷ mid) x h

      listed_in : {ts rest : List Tok} {xs : List A} → Separated P ts xs rest → Ends 11 rest → at_more rest ≡ false → Several ones n (more_turn reader) reader ts xs rest
      listed_in (l.last {ts = ts} {rest = rest} {x = x} h) ends e = several (reads ts rest x h ends) (shorter ts rest x h) (stop (λ xs. more_stops reader rest e xs))
      listed_in (l.more {ts = ts} {mid = mid} {x = x} h s) ends e = several (reads ts (mark m.Comma ∷ mid) x h (end_ends 11 m.Comma mid tt)) (shorter ts (mark m.Comma ∷ mid) x h) (more_on mid (front s) (listed_in s ends e))

      pub listed_reads : {ts rest : List Tok} {xs : List A} → Separated P ts xs rest → Ends 11 rest → at_more rest ≡ false → Reads (deepest xs) n (xs, rest) (listed reader ts)
      listed_reads s ends e = several_reads ones n (more_turn reader) (listed_in s ends e)

  module _ (P : List Tok → A → List Tok → Type 0) (shorter : (ts rest : List Tok) (x : A) → P ts x rest → length rest < length ts) where
    pub separated_shorter : {ts rest : List Tok} {xs : List A} → Separated P ts xs rest → length rest < length ts
    separated_shorter (l.last {ts = ts} {rest = rest} {x = x} h) = shorter ts rest x h
    separated_shorter (l.more {ts = ts} {mid = mid} {x = x} h s) = omega (arith, shorter ts (mark m.Comma ∷ mid) x h, separated_shorter s)

-- a name that is no type's
pub name_reads : (c : Context) (n : List ℕ) (ts : List Tok) → is_type c n ≡ false → name c (word n ∷ ts) ≡ Ok (n, ts)
name_reads c n ts h = rw h refl

field_reads : {c : Context} {y : TypeT} {ts rest : List Tok} {v : VarT} (r : ℕ) → type_depth y < r → Field c y ts v rest → Reads (var_depth v) r (v, rest) (field c y ts)
field_reads r lt (d.field h) = rw h (read (omega arith))

pub field_shorter : {c : Context} {y : TypeT} {ts rest : List Tok} {v : VarT} → Field c y ts v rest → length rest < length ts
field_shorter (d.field h) = omega arith

var_shorter : {c : Context} {y : TypeT} {ts rest : List Tok} {v : VarT} → Var c y ts v rest → length rest < length ts
var_shorter (d.plain_var f) = field_shorter f
var_shorter (d.set_var h i) = omega (arith, init_shorter i)

plain_reads : {c : Context} {y : TypeT} {ts rest : List Tok} {v : VarT} (n : ℕ) → type_depth y ≤ n → Field c y ts v rest → at_assign rest ≡ false → Reads (var_depth v) (suc n) (v, rest) (var c n y ts)
plain_reads n le (d.field h) e = rw (h, e) (read (omega arith))

var_reads : {c : Context} {y : TypeT} {ts rest : List Tok} {v : VarT} (n : ℕ) → type_depth y ≤ n → Var c y ts v rest → Ends 11 rest → Reads (var_depth v) (suc n) (v, rest) (var c n y ts)
var_reads {rest = rest} n le (d.plain_var f) ends = plain_reads n le f (ends_assign rest ends)
var_reads n le (d.set_var h i) ends = rw h (bind_reads _ (init_reads i ends n) (λ deep. omega arith) (λ fits. read (omega arith)))

field_front : {c : Context} {y : TypeT} {ts rest : List Tok} {v : VarT} → Field c y ts v rest → type_mark_at ts ≡ type_mark.Nothing
field_front (d.field h) = refl

var_front : {c : Context} {y : TypeT} {ts rest : List Tok} {v : VarT} → Var c y ts v rest → type_mark_at ts ≡ type_mark.Nothing
var_front (d.plain_var f) = field_front f
var_front (d.set_var h i) = refl

vars_front : {c : Context} {y : TypeT} {ts rest : List Tok} {vs : List VarT} → Separated (Var c y) ts vs rest → type_mark_at ts ≡ type_mark.Nothing
vars_front (l.last h) = var_front h
vars_front (l.more h s) = var_front h

fields_front : {c : Context} {y : TypeT} {ts rest : List Tok} {vs : List VarT} → Separated (Field c y) ts vs rest → type_mark_at ts ≡ type_mark.Nothing
fields_front (l.last h) = field_front h
fields_front (l.more h s) = field_front h

field_deep : {c : Context} {y : TypeT} {ts rest : List Tok} {v : VarT} → Field c y ts v rest → type_depth y < var_depth v
field_deep (d.field h) = omega arith

var_deep : {c : Context} {y : TypeT} {ts rest : List Tok} {v : VarT} → Var c y ts v rest → type_depth y < var_depth v
var_deep (d.plain_var f) = field_deep f
var_deep (d.set_var h i) = omega arith

pub vars_deep : {c : Context} {y : TypeT} {ts rest : List Tok} {vs : List VarT} → Separated (Var c y) ts vs rest → type_depth y < vars_depth vs
vars_deep (l.last h) = omega (arith, var_deep h)
vars_deep (l.more h s) = omega (arith, var_deep h)

fields_deep : {c : Context} {y : TypeT} {ts rest : List Tok} {vs : List VarT} → Separated (Field c y) ts vs rest → type_depth y < vars_depth vs
fields_deep (l.last h) = omega (arith, field_deep h)
fields_deep (l.more h s) = omega (arith, field_deep h)

vars_is : (c : Context) (n : ℕ) (ts : List Tok) → vars_at c (suc n) ts ≡ (type_read c n ts >>= λ y. separated (var c n y.0) y.1)
unfolding vars_at
vars_is c n ts = refl

vars_none : {vs : List VarT} {rest : List Tok} (c : Context) (ts : List Tok) → begins_type c ts ≡ true → 0 < vars_depth vs → Reads (vars_depth vs) zero (vs, rest) (vars_at c zero ts)
unfolding vars_at
vars_none c ts b pos = none_reads (begins_type c ts) ts b pos

pub vars_type : {c : Context} {ts rest : List Tok} {vs : List VarT} → Vars c ts vs rest → begins_type c ts ≡ true
vars_type (d.vars y s) = ty_type y

pub vars_shorter : {c : Context} {ts rest : List Tok} {vs : List VarT} → Vars c ts vs rest → length rest < length ts
vars_shorter {c = c} (d.vars {y = y} h s) = omega (arith, ty_shorter h, separated_shorter var_depth vars_depth refl (λ x xs. refl) (Var c y) (λ ts rest x v. var_shorter v) s)

pub vars_reads : {c : Context} {ts rest : List Tok} {vs : List VarT} → Vars c ts vs rest → Ends 11 rest → at_comma rest ≡ false → (r : ℕ) → Reads (vars_depth vs) r (vs, rest) (vars_at c r ts)
vars_reads {c = c} (d.vars {ts = ts} {y = y} h s) ends e zero = vars_none c ts (ty_type h) (omega (arith, vars_deep s))
vars_reads {c = c} (d.vars {ts = ts} {y = y} h s) ends e (suc n) = reads_is _ _ (vars_is c n ts)
    (bind_reads _ (ty_reads h (vars_front s) n) (λ deep. omega (arith, vars_deep s))
    (λ fits. separated_reads var_depth vars_depth refl (λ x xs. refl) (Var c y) (var c n y) (suc n) (λ us rest x v ends'. var_reads n fits v ends') (λ us rest x v. var_shorter v) s ends e))

member_is : (c : Context) (n : ℕ) (ts : List Tok) → member_at c (suc n) ts ≡ (type_read c n ts >>= λ y. separated (field c y.0) y.1 >>= λ vs. semicolon vs.1 >>= λ rest. Ok (vs.0, rest))
unfolding member_at
member_is c n ts = refl

member_none : {vs : List VarT} {rest : List Tok} (c : Context) (ts : List Tok) → begins_type c ts ≡ true → 0 < vars_depth vs → Reads (vars_depth vs) zero (vs, rest) (member_at c zero ts)
unfolding member_at
member_none c ts b pos = none_reads (begins_type c ts) ts b pos

member_type : {c : Context} {ts rest : List Tok} {vs : List VarT} → Member c ts vs rest → begins_type c ts ≡ true
member_type (d.member y s) = ty_type y

pub member_shorter : {c : Context} {ts rest : List Tok} {vs : List VarT} → Member c ts vs rest → length rest < length ts
member_shorter {c = c} (d.member {y = y} h s) = omega (arith, ty_shorter h, separated_shorter var_depth vars_depth refl (λ x xs. refl) (Field c y) (λ ts rest x v. field_shorter v) s)

member_reads : {c : Context} {ts rest : List Tok} {vs : List VarT} → Member c ts vs rest → (r : ℕ) → Reads (vars_depth vs) r (vs, rest) (member_at c r ts)
member_reads {c = c} (d.member {ts = ts} {y = y} h s) zero = member_none c ts (ty_type h) (omega (arith, fields_deep s))
member_reads {c = c} (d.member {ts = ts} {rest = rest} {y = y} h s) (suc n) = reads_is _ _ (member_is c n ts)
    (bind_reads _ (ty_reads h (fields_front s) n) (λ deep. omega (arith, fields_deep s))
    (λ fits. bind_reads _ (separated_reads var_depth vars_depth refl (λ x xs. refl) (Field c y) (field c y) (suc n) (λ us rest x v ends'. field_reads (suc n) (omega arith) v) (λ us rest x v. field_shorter v) s (end_ends 11 m.Semicolon rest tt) refl)
    (λ deep. deep) (λ le. read le)))

vars_depth-append : (xs ys : List VarT) → vars_depth (xs ++ ys) ≡ max (vars_depth xs) (vars_depth ys)
vars_depth-append [] ys = omega arith
vars_depth-append (x ∷ xs) ys = omega (arith, vars_depth-append xs ys)

abbrev member_parts : Parts VarT (List VarT)
member_parts = record { part = λ vs. vs; depth = vars_depth; deepest = vars_depth; none = refl; some = vars_depth-append }

type_no_end : (c : Context) (ts : List Tok) → begins_type c ts ≡ true → at_close_brace ts ≡ false
type_no_end c [] b = refl
type_no_end c (mark m.CloseBrace ∷ ts) b = absurd cc
type_no_end c (_ ∷ ts) b = refl

members_type : {c : Context} {ts rest : List Tok} {vs : List VarT} → Members c ts vs rest → begins_type c ts ≡ true
members_type (d.last_member h) = member_type h
members_type (d.more_members h r) = member_type h

members_stop : (c : Context) (n : ℕ) (ts : List Tok) → at_close_brace ts ≡ true → (xs : List VarT) → members_turn c n xs ts ≡ Ok None
members_stop c n ts e xs = rw e refl

members_on : (c : Context) (n : ℕ) (ts : List Tok) → at_close_brace ts ≡ false → {rest : List Tok} {vs : List VarT} → Several member_parts n (members_turn c n) (member_at c n) ts vs rest → Turned member_parts n (members_turn c n) ts vs rest
members_on c n ts e (several h less s) = next (λ ys. goes ys) h less s
  where
    goes : (ys : List VarT) → members_turn c n ys ts ≡ (member_at c n ts >>= λ us. Ok (Some (ys ++ us.0, us.1)))
    goes ys = rw e refl

last_several : (c : Context) (n : ℕ) (ts rest : List Tok) (vs : List VarT) → Several member_parts n (members_turn c n) (member_at c n) ts (vs ++ []) rest → Several member_parts n (members_turn c n) (member_at c n) ts vs rest
last_several c n ts rest vs h = subst (λ (xs : List VarT). Several member_parts n (members_turn c n) (member_at c n) ts xs rest) (append-nil vs) h

members_several : {c : Context} {ts rest : List Tok} {vs : List VarT} → Members c ts vs rest → at_close_brace rest ≡ true → (n : ℕ) → Several member_parts n (members_turn c n) (member_at c n) ts vs rest
members_several {c = c} (d.last_member {ts = ts} {rest = rest} {vs = vs} h) e n = last_several c n ts rest vs (several (member_reads h n) (member_shorter h) (stop (λ xs. members_stop c n rest e xs)))
members_several {c = c} (d.more_members {mid = mid} h r) e n = several (member_reads h n) (member_shorter h) (members_on c n mid (type_no_end c mid (members_type r)) (members_several r e n))

pub members_read : {c : Context} {ts rest : List Tok} {vs : List VarT} → Members c ts vs rest → at_close_brace rest ≡ true → (n : ℕ) → Reads (vars_depth vs) n (vs, rest) (members_at c n ts)
members_read {c = c} h e n = several_reads member_parts n (members_turn c n) (members_several h e n)

param_is : (c : Context) (n : ℕ) (ts : List Tok) → param_at c (suc n) ts ≡ (type_read c n ts >>= λ y. field c y.0 y.1)
unfolding param_at
param_is c n ts = refl

param_none : {v : VarT} {rest : List Tok} (c : Context) (ts : List Tok) → begins_type c ts ≡ true → 0 < var_depth v → Reads (var_depth v) zero (v, rest) (param_at c zero ts)
unfolding param_at
param_none c ts b pos = none_reads (begins_type c ts) ts b pos

param_reads : {c : Context} {ts rest : List Tok} {v : VarT} → Param c ts v rest → (r : ℕ) → Reads (var_depth v) r (v, rest) (param_at c r ts)
param_reads {c = c} (d.param {ts = ts} h f) zero = param_none c ts (ty_type h) (omega (arith, field_deep f))
param_reads {c = c} (d.param {ts = ts} h f) (suc n) = reads_is _ _ (param_is c n ts)
    (bind_reads _ (ty_reads h (field_front f) n) (λ deep. omega (arith, field_deep f)) (λ fits. field_reads (suc n) (omega arith) f))

pub param_shorter : {c : Context} {ts rest : List Tok} {v : VarT} → Param c ts v rest → length rest < length ts
param_shorter (d.param h f) = omega (arith, ty_shorter h, field_shorter f)

pub members_shorter : {c : Context} {ts rest : List Tok} {vs : List VarT} → Members c ts vs rest → length rest < length ts
members_shorter (d.last_member h) = member_shorter h
members_shorter (d.more_members h r) = omega (arith, member_shorter h, members_shorter r)

pub params_up : {c : Context} {ts rest : List Tok} {vs : List VarT} → Params c ts vs rest → length rest ≤ length ts
params_up d.no_params = omega arith
params_up d.void_params = omega arith
params_up {c = c} (d.some_params s) = omega (arith, separated_shorter var_depth vars_depth refl (λ x xs. refl) (Param c) (λ ts rest x v. param_shorter v) s)

base_no_close : {c : Context} {ts rest : List Tok} {y : TypeT} → Base c ts y rest → at_close_paren ts ≡ false
base_no_close g.int = refl
base_no_close g.bool = refl
base_no_close (g.named h) = refl
base_no_close g.void = refl

base_no_void : {c : Context} {ts rest : List Tok} {y : TypeT} → Base c ts y rest → at_void ts ≡ false
base_no_void g.int = refl
base_no_void g.bool = refl
base_no_void (g.named h) = refl
base_no_void g.void = refl

param_no_close : {c : Context} {ts rest : List Tok} {v : VarT} → Param c ts v rest → at_close_paren ts ≡ false
param_no_close (d.param (g.type b k) f) = base_no_close b

param_no_void : {c : Context} {ts rest : List Tok} {v : VarT} → Param c ts v rest → at_void ts ≡ false
param_no_void (d.param (g.type b k) f) = base_no_void b

params_no_close : {c : Context} {ts rest : List Tok} {vs : List VarT} → Separated (Param c) ts vs rest → at_close_paren ts ≡ false
params_no_close (l.last h) = param_no_close h
params_no_close (l.more h s) = param_no_close h

params_no_void : {c : Context} {ts rest : List Tok} {vs : List VarT} → Separated (Param c) ts vs rest → at_void ts ≡ false
params_no_void (l.last h) = param_no_void h
params_no_void (l.more h s) = param_no_void h

pub params_read : {c : Context} {ts rest : List Tok} {vs : List VarT} → Params c ts vs (mark m.CloseParen ∷ rest) → (n : ℕ) → Reads {A = Got (List VarT)} (vars_depth vs) n (vs, mark m.CloseParen ∷ rest) (params_at c n ts)
params_read d.no_params n = read (omega arith)
params_read d.void_params n = read (omega arith)
params_read {c = c} {rest = rest} (d.some_params s) n = rw (params_no_close s, params_no_void s)
    (separated_reads var_depth vars_depth refl (λ x xs. refl) (Param c) (param_at c n) n (λ us rest x p ends'. param_reads p n) (λ us rest x p. param_shorter p) s (end_ends 11 m.CloseParen rest tt) refl)

abbrev value_depth : List ℕ × Option ExprT → ℕ
value_depth v = maybe_expr_depth v.1

value_reads : {c : Context} {ts rest : List Tok} {v : List ℕ × Option ExprT} → Value c ts v rest → Ends 11 rest → (n : ℕ) → Reads (value_depth v) n (v, rest) (value c n ts)
value_reads (d.plain_value {rest = rest} h) ends n = rw (h, ends_assign rest ends) (read (omega arith))
value_reads (d.set_value {rest = rest} h k) ends n = rw h (bind_reads _ (level_reads k (Ends_less 10 11 rest (omega arith) ends) n) (λ deep. deep) (λ fits. read fits))

pub value_shorter : {c : Context} {ts rest : List Tok} {v : List ℕ × Option ExprT} → Value c ts v rest → length rest < length ts
value_shorter (d.plain_value h) = omega arith
value_shorter (d.set_value h k) = omega (arith, level_shorter k)

value_no_end : {c : Context} {ts rest : List Tok} {v : List ℕ × Option ExprT} → Value c ts v rest → at_close_brace ts ≡ false
value_no_end (d.plain_value h) = refl
value_no_end (d.set_value h k) = refl

pub values_read : {c : Context} {ts rest : List Tok} {vs : List (List ℕ × Option ExprT)} → Separated (Value c) ts vs rest → Ends 11 rest → at_more rest ≡ false → (n : ℕ) → Reads (values_depth vs) n (vs, rest) (listed (value c n) ts)
values_read {c = c} s ends e n = listed_reads value_depth values_depth refl (λ x xs. refl) (Value c) (value c n) n (λ us rest x v ends'. value_reads v ends' n) (λ us rest x v. value_shorter v) (λ us rest x v. value_no_end v) s ends e

pub values_shorter : {c : Context} {ts rest : List Tok} {vs : List (List ℕ × Option ExprT)} → Separated (Value c) ts vs rest → length rest < length ts
values_shorter {c = c} s = separated_shorter value_depth values_depth refl (λ x xs. refl) (Value c) (λ ts rest x v. value_shorter v) s
