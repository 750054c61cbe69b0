-- What the grammar derives of a unit is read, where there is room for it, and is otherwise too deep.
use Rattle.std.proofs.Common.{◌≡◌, ℕ, suc, ◌+◌, ◌<◌, ◌≤◌, Bool, true, false, ltb, List, [], ◌∷◌, ◌++◌, length, Some, None, Result, Ok, Err, refl, sym, ap, subst, ◌∙◌, append_assoc, arith, ◌⊎◌, inl, inr}
use Rattle.std.specs.Prelude.{max, ◌||◌}
use Rattle.std.proofs.lemmas.Bool.{cases_lt, lt-ltb, le-ltb}
use Rattle.std.proofs.lemmas.List.{append-nil}
use Rattle.c_lex.specs.declared.token.Punct.TheVariants as m
use Rattle.c_tree.specs.Tree.{TypeT, VarT, StmtT, ItemT, VarsD, FunctionD}
use Rattle.c_tree.specs.View.{stmts}
use Rattle.c_tree.specs.Depth.{type_depth, vars_depth, item_depth, unit_depth}
use Rattle.c_parse.specs.declared.class.Key.TheVariants as key
use Rattle.c_parse.specs.declared.fault.Fault.{Fault}
use Rattle.c_parse.specs.declared.fault.Fault.TheVariants.{Syntax, TooDeep}
use Rattle.c_parse.specs.declared.lead.ItemLead.TheVariants as item
use Rattle.c_parse.specs.Tok.{Tok, keyword, word, mark}
use Rattle.c_parse.specs.Scope.{Context, is_type, span}
use Rattle.c_parse.specs.inner.Reader.{◌>>=◌, Got, repeat, goes_on, at_comma, at_assign, at_semicolon, at_open_paren}
use Rattle.c_parse.specs.inner.Leads.{item_at}
use Rattle.c_parse.specs.inner.ReadingUnits.{function_at, vars_by, typed_at, item_read, Unit_so_far, item_turn, unit_at}
use Rattle.c_parse.specs.Grammar.{Base, Ty}
use Rattle.c_parse.specs.Grammar as g
use Rattle.c_parse.specs.Lists.{Separated, ListEnd}
use Rattle.c_parse.specs.Lists as l
use Rattle.c_parse.specs.Declarations.{Field, Var, Vars, Members, Params, Value}
use Rattle.c_parse.specs.Declarations as d
use Rattle.c_parse.specs.Statements.{Stmts}
use Rattle.c_parse.specs.Units.{record_word, Gives, Item, behind_item, Items, Unit_, Derives}
use Rattle.c_parse.specs.Units as u
use Rattle.c_parse.proofs.Outcomes.{Reads, read, over, bind_reads, repeat_ends, repeat_goes, bind_twice, fits_is, over_is, no_syntax}
use Rattle.c_parse.proofs.Fronts.{end_ends}
use Rattle.c_parse.proofs.Sizes.{ty_shorter}
use Rattle.c_parse.proofs.ExprReads.{ty_reads}
use Rattle.c_parse.proofs.DeclReads.{list_end_more, list_end_ends, list_end_reads, list_end_shorter, vars_deep, vars_reads, vars_shorter, members_read, members_shorter, params_read, params_up, values_read, values_shorter}
use Rattle.c_parse.proofs.StmtReads.{stmts_up, body_reads}

record_item : (o : Tok) (k : Bool) (ts : List Tok) → record_word o ≡ Some k → item_at (o ∷ ts) ≡ item.Record k
record_item (keyword key.Struct) k ts e = cc
record_item (keyword key.Union) k ts e = cc
record_item _ k ts e = absurd cc

base_item : {c : Context} {ts rest : List Tok} {y : TypeT} → Base c ts y rest → item_at ts ≡ item.Other
base_item g.int = refl
base_item g.bool = refl
base_item (g.named h) = refl
base_item g.void = refl

ty_item : {c : Context} {ts rest : List Tok} {y : TypeT} → Ty c ts y rest → item_at ts ≡ item.Other
ty_item (g.type b k) = base_item b

-- the name that variables begin with, and what stands behind it
record Named (c : Context) (ts : List Tok) : Type 0 where
  name : List ℕ
  after : List Tok
  is : ts ≡ word name ∷ after
  free : is_type c name ≡ false
  paren : at_open_paren after ≡ false
  goes : (at_semicolon after || (at_assign after || at_comma after)) ≡ true

field_named : {c : Context} {y : TypeT} {ts rest : List Tok} {v : VarT} → Field c y ts v rest → at_open_paren rest ≡ false → (at_semicolon rest || (at_assign rest || at_comma rest)) ≡ true → Named c ts
field_named (d.field {rest = rest} {n = n} h) p e = record { name = n; after = rest; is = refl; free = h; paren = p; goes = e }

var_named : {c : Context} {y : TypeT} {ts rest : List Tok} {v : VarT} → Var c y ts v rest → at_open_paren rest ≡ false → (at_semicolon rest || (at_assign rest || at_comma rest)) ≡ true → Named c ts
var_named (d.plain_var f) p e = field_named f p e
var_named (d.set_var {ts = ts} {n = n} h i) p e = record { name = n; after = mark m.Assign ∷ ts; is = refl; free = h; paren = refl; goes = refl }

vars_named : {c : Context} {y : TypeT} {ts rest : List Tok} {vs : List VarT} → Separated (Var c y) ts vs (mark m.Semicolon ∷ rest) → Named c ts
vars_named (l.last h) = var_named h refl refl
vars_named (l.more h s) = var_named h refl refl

-- variables are read anew from their type on, where there is room for one
vars_item : (c : Context) (n : ℕ) (ts mid rest : List Tok) (y : TypeT) (vs : List VarT) → Ty c ts y mid → Separated (Var c y) mid vs (mark m.Semicolon ∷ rest) → (h : Named c mid)
    → Reads {A = Got ItemT} (vars_depth vs + 1) (suc n) (VarsD vs (span c ts rest), rest) (typed_at c n ts)
vars_item c n ts mid rest y vs k s h = bind_reads _ (ty_reads k (rw h.is refl) n) (λ deep. omega (arith, vars_deep s)) (λ fits. rw (h.is, h.free, h.paren) (cases fits (cases_lt (type_depth y) n)))
  where
    cases : type_depth y ≤ n → (type_depth y < n) ⊎ (n ≤ type_depth y) → Reads {A = Got ItemT} (vars_depth vs + 1) (suc n) (VarsD vs (span c ts rest), rest) (vars_by c n ts h.after (ltb (type_depth y) n))
    cases fits (inl lt) = rw (lt-ltb _ _ lt) (bind_reads _ (vars_reads (d.vars k s) (end_ends 11 m.Semicolon rest tt) refl n) (λ deep. omega arith) (λ le. read (omega arith)))
    cases fits (inr le) = rw (le-ltb _ _ le, h.goes) (over (omega (arith, vars_deep s)))

-- a function from behind its name
declared_reads : (c : Context) (n : ℕ) (at mid rest : List Tok) (y : TypeT) (w : List ℕ) (vs : List VarT) → type_depth y ≤ n → Params c mid vs (mark m.CloseParen ∷ mark m.Semicolon ∷ rest)
    → Reads {A = Got ItemT} (item_depth (FunctionD y w vs None (span c at rest))) (suc n) (FunctionD y w vs None (span c at rest), rest) (function_at c n at y w (mark m.OpenParen ∷ mid))
declared_reads c n at mid rest y w vs le p = bind_reads _ (params_read p n) (λ deep. omega arith) (λ fits. read (omega arith))

defined_reads : (c : Context) (n : ℕ) (at mid on rest : List Tok) (y : TypeT) (w : List ℕ) (vs : List VarT) (ss : List StmtT) → type_depth y ≤ n → Params c mid vs (mark m.CloseParen ∷ mark m.OpenBrace ∷ on) → Stmts c on ss (mark m.CloseBrace ∷ rest)
    → Reads {A = Got ItemT} (item_depth (FunctionD y w vs (Some (stmts ss)) (span c at rest))) (suc n) (FunctionD y w vs (Some (stmts ss)) (span c at rest), rest) (function_at c n at y w (mark m.OpenParen ∷ mid))
defined_reads c n at mid on rest y w vs ss le p b = bind_reads _ (params_read p n) (λ deep. omega arith)
    (λ fits. bind_reads _ (body_reads b refl n) (λ deep. omega arith) (λ lb. read (omega arith)))

-- a function's result, its name and what stands behind it
head_reads : {c : Context} {ts mid : List Tok} {y : TypeT} {w : List ℕ} {D : ℕ} {x : Got ItemT} (n : ℕ) → 0 < n → Gives c ts y (word w ∷ mark m.OpenParen ∷ mid) → is_type c w ≡ false → (n < type_depth y → suc n < D)
    → (type_depth y ≤ n → Reads D (suc n) x (function_at c n ts y w (mark m.OpenParen ∷ mid))) → Reads D (suc n) x (item_read c n ts)
head_reads n pos u.gives_void h deep go = rw h (go (omega arith))
head_reads n pos (u.gives_type k) h deep go = rw (ty_item k) (bind_reads _ (ty_reads k refl n) deep (λ fits. rw h (go fits)))

pub item_reads : {c : Context} {ts rest : List Tok} {x : ItemT} → Item c ts x rest → (n : ℕ) → 0 < n → Reads (item_depth x) (suc n) (x, rest) (item_read c n ts)
item_reads {c = c} (u.record_ {ts = ts} {rest = rest} {o = o} {u = k} {n = w} {vs = vs} e h) n pos = rw (record_item o k (word w ∷ mark m.OpenBrace ∷ ts) e)
    (bind_reads _ (members_read h refl n) (λ deep. omega arith) (λ fits. read (omega arith)))
item_reads {c = c} (u.forward {rest = rest} {o = o} {u = k} {n = w} e) n pos = rw (record_item o k (word w ∷ mark m.Semicolon ∷ rest) e) (read (omega arith))
item_reads {c = c} (u.enum s end) n pos = bind_reads _ (values_read s (list_end_ends end) (list_end_more end) n) (λ deep. omega arith) (λ fits. rw (list_end_reads end) (read (omega arith)))
item_reads {c = c} (u.typedef k) n pos = bind_reads _ (ty_reads k refl n) (λ deep. omega arith) (λ fits. read (omega arith))
item_reads {c = c} (u.vars {rest = rest} (d.vars {ts = ts} {mid = mid} {y = y} {vs = vs} k s)) n pos = rw (ty_item k) (vars_item c n ts mid rest y vs k s (vars_named s))
item_reads {c = c} (u.declared {ts = ts} {mid = mid} {rest = rest} {y = y} {n = w} {vs = vs} k h p) n pos = head_reads n pos k h (λ deep. omega arith) (λ le. declared_reads c n ts mid rest y w vs le p)
item_reads {c = c} (u.defined {ts = ts} {mid = mid} {on = on} {rest = rest} {y = y} {n = w} {vs = vs} {ss = ss} k h p b) n pos = head_reads n pos k h (λ deep. omega arith) (λ le. defined_reads c n ts mid on rest y w vs ss le p b)

pub gives_shorter : {c : Context} {ts rest : List Tok} {y : TypeT} → Gives c ts y rest → length rest < length ts
gives_shorter u.gives_void = omega arith
gives_shorter (u.gives_type k) = ty_shorter k

pub item_shorter : {c : Context} {ts rest : List Tok} {x : ItemT} → Item c ts x rest → length rest < length ts
item_shorter (u.record_ e h) = omega (arith, members_shorter h)
item_shorter (u.forward e) = omega arith
item_shorter (u.enum s end) = omega (arith, values_shorter s, list_end_shorter end)
item_shorter (u.typedef k) = omega (arith, ty_shorter k)
item_shorter (u.vars h) = omega (arith, vars_shorter h)
item_shorter (u.declared k h p) = omega (arith, gives_shorter k, params_up p)
item_shorter (u.defined k h p b) = omega (arith, gives_shorter k, params_up p, stmts_up b)

abbrev after_items : Context → List ItemT → Context
after_items c [] = c
after_items c (x ∷ xs) = after_items (behind_item x c) xs

item_turned : (n : ℕ) (a : Unit_so_far) (ts : List Tok) → 0 < length ts → item_turn n a ts ≡ (item_read a.0 n ts >>= λ x. Ok (Some ((behind_item x.0 a.0, a.1 ++ x.0 ∷ []), x.1)))
item_turned n a [] lt = absurd (omega arith)
item_turned n a (o ∷ ts) lt = refl

deeper_reads : {A : Type 0} {R : ℕ} {y : A} (d D : ℕ) (res : Result A Fault) → d ≤ R → Reads D R y res → Reads (max d D) R y res
deeper_reads d D res le (read fits) = read (omega arith)
deeper_reads d D res le (over lt) = over (omega arith)

regroup : {D R : ℕ} (c : Context) (xs ys zs : List ItemT) (res : Result (Got Unit_so_far) Fault) → Reads D R ((c, (xs ++ ys) ++ zs), []) res → Reads D R ((c, xs ++ (ys ++ zs)), []) res
regroup {D = D} {R = R} c xs ys zs res h = subst (λ (q : List ItemT). Reads {A = Got Unit_so_far} D R ((c, q), []) res) (append_assoc xs ys zs) h

nothing_more : {D R : ℕ} (c : Context) (xs : List ItemT) (res : Result (Got Unit_so_far) Fault) → Reads {A = Got Unit_so_far} D R ((c, xs), []) res → Reads {A = Got Unit_so_far} D R ((c, xs ++ []), []) res
nothing_more {D = D} {R = R} c xs res h = subst (λ (q : List ItemT). Reads {A = Got Unit_so_far} D R ((c, q), []) res) (sym (append-nil xs)) h

items_read : {c : Context} {ts : List Tok} {ds : List ItemT} → Items c ts ds → (n : ℕ) → 0 < n → (xs : List ItemT) (k : ℕ) → length ts < k
    → Reads {A = Got Unit_so_far} (unit_depth ds) (suc n) ((after_items c ds, xs ++ ds), []) (repeat (item_turn n) k (c, xs) ts)
items_read (u.end {c = c}) n pos xs k lt = nothing_more c xs (repeat (item_turn n) k (c, xs) []) (repeat_ends (item_turn n) (c, xs) [] k lt refl (omega arith))
items_read (u.more {c = c} {ts = ts} {rest = rest} {d = x} {ds = ds} h r) n pos xs k lt =
    repeat_goes (item_turn n) (c, xs) ts k lt (item_read c n ts >>= λ x. Ok (Some ((behind_item x.0 c, xs ++ x.0 ∷ []), x.1))) (item_turned n (c, xs) ts (omega (arith, item_shorter h))) (λ j is.
    bind_twice _ (goes_on (repeat (item_turn n) j) (c, xs) ts) (item_reads h n pos) (λ deep. omega arith)
    (λ fits. deeper_reads (item_depth x) (unit_depth ds) _ fits (regroup (after_items (behind_item x c) ds) xs (x ∷ []) ds (repeat (item_turn n) j (behind_item x c, xs ++ x ∷ []) rest)
    (items_read r n pos (xs ++ x ∷ []) j (omega (arith, item_shorter h))))))

-- what the grammar derives, of any depth, is read where there is room for it, and is otherwise too deep
pub unit_reads : (ts : List Tok) (ds : List ItemT) → Unit_ ts ds → (n : ℕ) → 0 < n → Reads (unit_depth ds) (suc n) ds (unit_at n ts)
unfolding unit_at
unit_reads ts ds h n pos = bind_reads _ (items_read h n pos [] (suc (length ts)) (omega arith)) (λ deep. deep) (λ fits. read fits)

-- what is derived is read
pub unit_read : (ts : List Tok) (ds : List ItemT) → Derives ts ds → unit_at 199 ts ≡ Ok ds
unit_read ts ds h = fits_is (unit_depth ds) 200 ds (unit_at 199 ts) (unit_reads ts ds h.0 199 (omega arith)) h.1

-- what is derived with more trees on a path is too deep
pub unit_deep : (ts : List Tok) (ds : List ItemT) → Unit_ ts ds → 200 < unit_depth ds → (n : ℕ) × (unit_at 199 ts ≡ Err (TooDeep n))
unit_deep ts ds h lt = over_is (unit_depth ds) 200 ds (unit_at 199 ts) (unit_reads ts ds h 199 (omega arith)) lt

-- and never faulty
pub never_faulty : (ts : List Tok) (ds : List ItemT) (n : ℕ) → Unit_ ts ds → unit_at 199 ts ≡ Err (Syntax n) → ⊥
never_faulty ts ds n h e = no_syntax (unit_depth ds) 200 n ds (unit_at 199 ts) (unit_reads ts ds h 199 (omega arith)) e

-- what is derived with few enough trees on a path has no fault at all
ok_no_fault : (x : List ItemT) (f : Fault) (res : Result (List ItemT) Fault) → res ≡ Ok x → res ≡ Err f → ⊥
ok_no_fault x f (Ok y) a b = cc
ok_no_fault x f (Err g) a b = cc

pub derived_no_fault : (ts : List Tok) (ds : List ItemT) (f : Fault) → Derives ts ds → unit_at 199 ts ≡ Err f → ⊥
derived_no_fault ts ds f h e = ok_no_fault ds f (unit_at 199 ts) (unit_read ts ds h) e

-- the grammar is unambiguous
abbrev found : Result (List ItemT) Fault → List ItemT → List ItemT
found (Ok x) y = x
found (Err e) y = y

pub one_unit : (ts : List Tok) (a b : List ItemT) → Unit_ ts a → Unit_ ts b → a ≡ b
one_unit ts a b p q =
    let n = unit_depth a + unit_depth b + 1 in
    let at_a = fits_is (unit_depth a) (suc n) a (unit_at n ts) (unit_reads ts a p n (omega arith)) (omega arith) in
    let at_b = fits_is (unit_depth b) (suc n) b (unit_at n ts) (unit_reads ts b q n (omega arith)) (omega arith) in
    ap (λ (r : Result (List ItemT) Fault). found r a) (sym at_a ∙ at_b)
