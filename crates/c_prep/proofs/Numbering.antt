-- Tokens and faults are of files that have names, and tokens have lines.
use Rattle.std.proofs.Common.{◌≡◌, ℕ, zero, suc, ◌<◌, ◌≤◌, ◌+◌, List, [], ◌∷◌, ◌++◌, length, true, false, cond, ltb, ◌&&◌, not, refl, ap, ◌∙◌, subst, arith}
use Rattle.std.specs.Prelude.{Option, Some, None, Result, Ok, Err, IfErr, IsUtf8}
use Rattle.std.specs.List.{All, list_all}
use Rattle.std.specs.Str.{is_utf8}
use Rattle.std.proofs.lemmas.List.{length-append, nil_from_length}
use Rattle.std.proofs.lemmas.List.Folds.{list_all-append}
use Rattle.std.proofs.lemmas.Str.{is_utf8-from_IsUtf8}
use Rattle.kit_base.specs.declared.failure.Failure.{Failure}
use Rattle.kit_base.specs.declared.failure.Failure.TheVariants.{Memory, Cause}
use Rattle.c_prep.specs.declared.error.PrepFault.{PrepFault}
use Rattle.c_prep.specs.declared.error.PrepFault.TheVariants as e
use Rattle.c_lex.specs.declared.token.Kind.{Kind}
use Rattle.c_lex.specs.declared.token.Token.{Token}
use Rattle.c_prep.specs.declared.error.Fault.TheVariants.{TooManyTokens, Redefined, BadDirective}
use Rattle.c_prep.specs.declared.error.FaultAt.{FaultAt}
use Rattle.c_prep.specs.declared.conditions.Condition.{Condition}
use Rattle.c_prep.specs.declared.work.Work.{Work}
use Rattle.c_prep.specs.Faults.{◌>>=◌, fault_at, Gives}
use Rattle.c_lex.specs.Reading.{found}
use Rattle.c_lex.specs.Found.{reading_of}
use Rattle.c_lex.proofs.Files.{all_placed}
use Rattle.c_prep.specs.Kinds.{kinds_of, same_kinds}
use Rattle.c_prep.specs.Macros.{Table, Put, Macro, body_of, defined_by, emitted, counted, macro_of, by_macro, each, stands, replaced_at, replaced_in}
use Rattle.c_prep.specs.Conditions.{skips, turned, ended, closed}
use Rattle.c_prep.specs.Lines.{begins_directive}
use Rattle.c_prep.specs.Directives.{Directive, Include, Define, Undef, IfDef, IfNotDef, Else, EndIf, Error, Bad, Directed, directive_in, directive_of}
use Rattle.c_prep.specs.Steps.{Moment, obeyed, is_condition, directed, put, step_by, step_at}
use Rattle.c_prep.specs.inner.Inner.{IsPlaced, ArePlaced, PlacedPut, refused}
use Rattle.c_prep.specs.Numbers.{AreBelow, HaveLines, IsBelow}

pub placed_append : (n : ℕ) (xs ys : List Token) → ArePlaced n xs → ArePlaced n ys → ArePlaced n (xs ++ ys)
placed_append n [] ys a b = b
placed_append n (x ∷ xs) ys a b = (a.0, placed_append n xs ys a.1 b)

pub placed_more : (n n' : ℕ) (xs : List Token) → n ≤ n' → ArePlaced n xs → ArePlaced n' xs
placed_more n n' [] le a = tt
placed_more n n' (x ∷ xs) le a = (record { file = let h = a.0.file in omega (arith, h); line = a.0.line }, placed_more n n' xs le a.1)

pub of_file : (n file : ℕ) (xs : List Token) → All (λ t. t.file ≡ file) xs → All (λ t. 1 ≤ t.line) xs → file < n → ArePlaced n xs
of_file n file [] all lines lt = tt
of_file n file (x ∷ xs) all lines lt = (
  record { file = let h : x.file ≡ file = all 0 x (omega arith) in omega arith; line = lines 0 x (omega arith) },
  of_file n file xs (λ k d below. all (suc k) d (omega arith)) (λ k d below. lines (suc k) d (omega arith)) lt,
)

pub placed_below : (n : ℕ) (xs : List Token) → ArePlaced n xs → AreBelow n xs
placed_below n [] a = tt
placed_below n (x ∷ xs) a = (a.0.file, placed_below n xs a.1)

pub placed_lines : (n : ℕ) (xs : List Token) → ArePlaced n xs → HaveLines xs
placed_lines n [] a = tt
placed_lines n (x ∷ xs) a = (a.0.line, placed_lines n xs a.1)

-- a step's state is good, or its fault is of a file below n
abbrev Good : (S : Type 0) → (S → Type 0) → ℕ → Result S FaultAt → Type 0
Good S P n (Ok s) = P s
Good S P n (Err f) = f.file < n

abbrev Puts : ℕ → Put → Type 0
Puts n o = ArePlaced n o.tokens

abbrev Works : ℕ → Moment → Type 0
Works n q = ArePlaced n q.0.out.tokens

bind_good : (S T : Type 0) (P : S → Type 0) (Q : T → Type 0) (n : ℕ) (r : Result S FaultAt) (f : S → Result T FaultAt) → Good S P n r → ((s : S) → P s → Good T Q n (f s)) → Good T Q n (r >>= f)
bind_good S T P Q n (Ok s) f good h = h s good
bind_good S T P Q n (Err x) f good h = good

module _ (n : ℕ) (at : Token) (here : IsPlaced n at) where
  emitted_good : (kind : Kind) (o : Put) → Puts n o → Good Put (Puts n) n (emitted at kind o)
  emitted_good kind o good = elim (ltb (length o.tokens) 200000) as (λ b. Good Put (Puts n) n (cond b (Ok (record o { tokens = o.tokens ++ (record at { kind = kind }) ∷ [] })) (Err (fault_at TooManyTokens at)))) [
    | true ↦ placed_append n o.tokens ((record at { kind = kind }) ∷ []) good (record { file = here.file; line = here.line }, tt)
    | false ↦ here.file
  ]

  counted_good : (o : Put) → Puts n o → Good Put (Puts n) n (counted at o)
  counted_good o good = elim (ltb o.replaced 1000000) as (λ b. Good Put (Puts n) n (cond b (Ok (record o { replaced = o.replaced + 1 })) (Err (fault_at TooManyTokens at)))) [
    | true ↦ good
    | false ↦ here.file
  ]

  each_good : (f : Kind → Put → Result Put FaultAt) → ((kind : Kind) (o : Put) → Puts n o → Good Put (Puts n) n (f kind o)) → (kinds : List Kind) (o : Put) → Puts n o → Good Put (Puts n) n (each f kinds o)
  unfolding each
  each_good f h [] o good = good
  each_good f h (kind ∷ kinds) o good = bind_good Put Put (Puts n) (Puts n) n (f kind o) (each f kinds) (h kind o good) (λ o' good'. each_good f h kinds o' good')

  by_macro_good : (m : Option Macro) (more : Macro → Put → Result Put FaultAt) (kind : Kind) (o : Put) → Puts n o → ((m : Macro) (o : Put) → Puts n o → Good Put (Puts n) n (more m o)) → Good Put (Puts n) n (by_macro m more at kind o)
  by_macro_good None more kind o good h = emitted_good kind o good
  by_macro_good (Some m) more kind o good h = bind_good Put Put (Puts n) (Puts n) n (counted at o) (more m) (counted_good o good) (λ o' good'. h m o' good')

  stands_good : (room : ℕ) (table : Table) (inside : List (List ℕ)) (kind : Kind) (o : Put) → Puts n o → Good Put (Puts n) n (stands room table at inside kind o)
  unfolding stands
  stands_good zero table inside kind o good = by_macro_good (macro_of table inside kind) (λ m o'. Err (fault_at TooManyTokens at)) kind o good (λ m o' good'. here.file)
  stands_good (suc room) table inside kind o good = by_macro_good (macro_of table inside kind) (λ m. each (stands room table at (inside ++ m.name ∷ [])) m.body) kind o good
      (λ m o' good'. each_good (stands room table at (inside ++ m.name ∷ [])) (λ kind' o'' good''. stands_good room table (inside ++ m.name ∷ []) kind' o'' good'') m.body o' good')

replaced_good : (n : ℕ) (table : Table) (ts : List Token) (o : Put) → ArePlaced n ts → Puts n o → Good Put (Puts n) n (replaced_in table ts o)
unfolding replaced_in
replaced_good n table [] o line good = good
replaced_good n table (t ∷ ts) o line good = bind_good Put Put (Puts n) (Puts n) n (replaced_at table t o) (replaced_in table ts) (stands_good n t line.0 1000000 table [] t.kind o good) (λ o' good'. replaced_good n table ts o' line.1 good')

abbrev Hashed : ℕ → Option Directed → Type 0
Hashed n None = Unit {0}
Hashed n (Some d) = d.hash.file < n

module _ (n : ℕ) (w : Work) (good : ArePlaced n w.out.tokens) where
  defined_good : (hash : Token) (old : Option (List Kind)) (name : List ℕ) (body : List Kind) → hash.file < n → Good Table (λ t. Unit {0}) n (defined_by old hash name body w.macros)
  defined_good hash None name body here = tt
  defined_good hash (Some old) name body here = elim (same_kinds old body) as (λ b. Good Table (λ t. Unit {0}) n (cond b (Ok w.macros) (Err (fault_at Redefined hash)))) [ true ↦ tt | false ↦ here ]

  turned_good : (hash : Token) (cs : List Condition) → hash.file < n → Good (List Condition) (λ t. Unit {0}) n (turned hash cs)
  turned_good hash [] here = here
  turned_good hash (c ∷ cs) here = elim c.turned as (λ b. Good (List Condition) (λ t. Unit {0}) n (cond b (Err (fault_at BadDirective hash)) (Ok ((record c { taken = not c.taken; turned = true }) ∷ cs)))) [ true ↦ here | false ↦ tt ]

  ended_good : (hash : Token) (cs : List Condition) → hash.file < n → Good (List Condition) (λ t. Unit {0}) n (ended hash cs)
  ended_good hash [] here = here
  ended_good hash (c ∷ cs) here = tt

  obeyed_good : (hash : Token) (d : Directive) (cs : List Condition) → hash.file < n → Good Moment (Works n) n (obeyed hash d w cs)
  obeyed_good hash (Include name) cs here = good
  obeyed_good hash (Define name body) cs here = bind_good Table Moment (λ t. Unit {0}) (Works n) n (defined_by (body_of w.macros name) hash name body w.macros) (λ t. Ok (record w { macros = t }, cs)) (defined_good hash (body_of w.macros name) name body here) (λ t h. good)
  obeyed_good hash (Undef name) cs here = good
  obeyed_good hash (IfDef name) cs here = good
  obeyed_good hash (IfNotDef name) cs here = good
  obeyed_good hash Else cs here = bind_good (List Condition) Moment (λ t. Unit {0}) (Works n) n (turned hash cs) (λ cs'. Ok (w, cs')) (turned_good hash cs here) (λ cs' h. good)
  obeyed_good hash EndIf cs here = bind_good (List Condition) Moment (λ t. Unit {0}) (Works n) n (ended hash cs) (λ cs'. Ok (w, cs')) (ended_good hash cs here) (λ cs' h. good)
  obeyed_good hash Error cs here = here
  obeyed_good hash Bad cs here = here

  directed_good : (d : Directed) (cs : List Condition) → d.hash.file < n → Good Moment (Works n) n (directed d w cs)
  directed_good d cs here = elim (skips cs && not (is_condition d.directive)) as (λ b. Good Moment (Works n) n (cond b (Ok (w, cs)) (obeyed d.hash d.directive w cs))) [ true ↦ good | false ↦ obeyed_good d.hash d.directive cs here ]

  put_good : (line : List Token) (cs : List Condition) → ArePlaced n line → Good Moment (Works n) n (put line w cs)
  put_good line cs below = elim (skips cs) as (λ b. Good Moment (Works n) n (cond b (Ok (w, cs)) (replaced_in w.macros line w.out >>= λ o. Ok (record w { out = o }, cs)))) [
    | true ↦ good
    | false ↦ bind_good Put Moment (Puts n) (Works n) n (replaced_in w.macros line w.out) (λ o. Ok (record w { out = o }, cs)) (replaced_good n w.macros line w.out below good) (λ o h. h)
  ]

  step_by_good : (d : Option Directed) (line : List Token) (cs : List Condition) → ArePlaced n line → Hashed n d → Good Moment (Works n) n (step_by d line w cs)
  step_by_good None line cs below here = put_good line cs below
  step_by_good (Some d) line cs below here = directed_good d cs here

hashed_line : (n : ℕ) (line : List Token) → ArePlaced n line → Hashed n (directive_in line)
unfolding directive_in
hashed_line n [] below = tt
hashed_line n (t ∷ ts) below = elim (begins_directive t) as (λ b. Hashed n (cond b (Some (record { hash = t; directive = directive_of (kinds_of ts) })) None)) [ true ↦ below.0.file | false ↦ tt ]

step_good : (n : ℕ) (line : List Token) (w : Work) (cs : List Condition) → ArePlaced n line → ArePlaced n w.out.tokens → Good Moment (Works n) n (step_at line w cs)
unfolding step_at
step_good n line w cs below good = step_by_good n w good (directive_in line) line cs below (hashed_line n line below)

pub step_numbers : (n : ℕ) (line : List Token) (w : Work) (cs : List Condition) (new : Moment) (r : Result (Unit {0}) (Failure FaultAt)) → Gives new r (step_at line w cs) → ArePlaced n line → ArePlaced n w.out.tokens → PlacedPut n new.0.out.tokens (refused r)
step_numbers n line w cs new (Ok x) h below good = subst (Good Moment (Works n) n) h (step_good n line w cs below good)
step_numbers n line w cs new (Err (Cause f)) h below good = subst (Good Moment (Works n) n) h (step_good n line w cs below good)
step_numbers n line w cs new (Err Memory) h below good = tt

closed_good : (n file : ℕ) (cs : List Condition) → file < n → Good (Unit {0}) (λ x. Unit {0}) n (closed file cs)
closed_good n file [] lt = tt
closed_good n file (c ∷ cs) lt = lt

pub close_numbers : (n file : ℕ) (cs : List Condition) (r : Result (Unit {0}) (Failure FaultAt)) → Gives tt r (closed file cs) → file < n → IfErr (refused r) (IsBelow n)
close_numbers n file cs (Ok x) h lt = tt
close_numbers n file cs (Err (Cause f)) h lt = subst (Good (Unit {0}) (λ x. Unit {0}) n) h (closed_good n file cs lt)
close_numbers n file cs (Err Memory) h lt = tt

pub lexed_numbers : (n file : ℕ) (bytes : List ℕ) (tokens : List Token) → reading_of file bytes ≡ found tokens → file < n → ArePlaced n tokens
lexed_numbers n file bytes tokens is lt = let all = all_placed file bytes tokens is in of_file n file tokens all.files all.lines lt

pub is_below_more : (n n' : ℕ) (x : Failure PrepFault) → n ≤ n' → IsBelow n x → IsBelow n' x
is_below_more n n' (Cause (e.At code file line)) le h = omega (arith, h)
is_below_more n n' (Cause e.NoSource) le h = tt
is_below_more n n' (Cause (e.Failed file)) le h = omega (arith, h)
is_below_more n n' (Cause (e.TooLong file)) le h = omega (arith, h)
is_below_more n n' Memory le h = tt

pub one_longer : (names old : List (List ℕ)) (name : List ℕ) → names ≡ old ++ name ∷ [] → length names ≡ length old + 1
one_longer names old name is = ap length is ∙ omega (arith, length-append old (name ∷ []))

pub first_below : (n : ℕ) (line : List Token) (t : Token) (ts : List Token) → line ≡ t ∷ ts → ArePlaced n line → t.file < n
first_below n line t ts is h = let all : ArePlaced n (t ∷ ts) = subst (ArePlaced n) is h in all.0.file

-- names of files that are read are texts

pub name_added : (names old : List (List ℕ)) (name : List ℕ) → names ≡ old ++ name ∷ [] → IsUtf8 name → list_all is_utf8 old ≡ true → list_all is_utf8 names ≡ true
name_added names old name is text had = ap (list_all is_utf8) is ∙ list_all-append is_utf8 old (name ∷ []) ∙ rw (had, is_utf8-from_IsUtf8 name text) refl

pub no_names : (names : List (List ℕ)) → length names ≡ 0 → list_all is_utf8 names ≡ true
no_names names none = ap (list_all is_utf8) (nil_from_length names none)
