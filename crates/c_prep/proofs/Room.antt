-- Room for names inside one another is never short.
use Rattle.std.proofs.Common.{◌≡◌, ℕ, zero, suc, ◌+◌, ◌≤◌, List, [], ◌∷◌, ◌++◌, length, true, false, cond, ltb, refl, sym, ap, ◌∙◌, arith}
use Rattle.std.specs.Prelude.{Option, Some, None, Result, Ok, Err}
use Rattle.std.proofs.lemmas.Bool.{ltb-true}
use Rattle.c_lex.specs.declared.token.Kind.{Kind}
use Rattle.c_lex.specs.declared.token.Token.{Token}
use Rattle.c_prep.specs.declared.error.Fault.TheVariants.{TooManyTokens}
use Rattle.c_prep.specs.declared.error.FaultAt.{FaultAt}
use Rattle.c_prep.specs.Faults.{◌>>=◌, fault_at}
use Rattle.c_prep.specs.Macros.{Table, Put, Macro, macro_of, emitted, counted, by_macro, each, stands}

-- at least so many names are replaced
abbrev AtLeast : ℕ → Result Put FaultAt → Type 0
AtLeast n (Ok o) = n ≤ o.replaced
AtLeast n (Err x) = Unit {0}

bind_least : (n : ℕ) (r : Result Put FaultAt) (f : Put → Result Put FaultAt) → AtLeast n r → ((o : Put) → n ≤ o.replaced → AtLeast n (f o)) → AtLeast n (r >>= f)
bind_least n (Ok o) f le h = h o le
bind_least n (Err x) f le h = tt

bind_same : (n : ℕ) (r : Result Put FaultAt) (f g : Put → Result Put FaultAt) → AtLeast n r → ((o : Put) → n ≤ o.replaced → f o ≡ g o) → r >>= f ≡ r >>= g
bind_same n (Ok o) f g le h = h o le
bind_same n (Err x) f g le h = refl

module _ (table : Table) (t : Token) where
  counted_least : (n : ℕ) (o : Put) → n ≤ o.replaced → AtLeast n (counted t o)
  counted_least n o le = elim (ltb o.replaced 1000000) as (λ b. AtLeast n (cond b (Ok (record o { replaced = o.replaced + 1 })) (Err (fault_at TooManyTokens t)))) [ true ↦ omega arith | false ↦ tt ]

  counted_more : (o : Put) → AtLeast (o.replaced + 1) (counted t o)
  counted_more o = elim (ltb o.replaced 1000000) as (λ b. AtLeast (o.replaced + 1) (cond b (Ok (record o { replaced = o.replaced + 1 })) (Err (fault_at TooManyTokens t)))) [ true ↦ omega arith | false ↦ tt ]

  emitted_least : (n : ℕ) (kind : Kind) (o : Put) → n ≤ o.replaced → AtLeast n (emitted t kind o)
  emitted_least n kind o le = elim (ltb (length o.tokens) 200000) as (λ b. AtLeast n (cond b (Ok (record o { tokens = o.tokens ++ (record t { kind = kind }) ∷ [] })) (Err (fault_at TooManyTokens t)))) [ true ↦ le | false ↦ tt ]

  each_least : (n : ℕ) (f : Kind → Put → Result Put FaultAt) → ((kind : Kind) (o : Put) → n ≤ o.replaced → AtLeast n (f kind o)) → (kinds : List Kind) (o : Put) → n ≤ o.replaced → AtLeast n (each f kinds o)
  unfolding each
  each_least n f h [] o le = le
  each_least n f h (kind ∷ kinds) o le = bind_least n (f kind o) (each f kinds) (h kind o le) (λ o' le'. each_least n f h kinds o' le')

  by_macro_least : (n : ℕ) (m : Option Macro) (more : Macro → Put → Result Put FaultAt) (kind : Kind) (o : Put) → n ≤ o.replaced → ((m : Macro) (o : Put) → n ≤ o.replaced → AtLeast n (more m o)) → AtLeast n (by_macro m more t kind o)
  by_macro_least n None more kind o le h = emitted_least n kind o le
  by_macro_least n (Some m) more kind o le h = bind_least n (counted t o) (more m) (counted_least n o le) (λ o' le'. h m o' le')

  stands_least : (room n : ℕ) (inside : List (List ℕ)) (kind : Kind) (o : Put) → n ≤ o.replaced → AtLeast n (stands room table t inside kind o)
  unfolding stands
  stands_least zero n inside kind o le = by_macro_least n (macro_of table inside kind) (λ m o'. Err (fault_at TooManyTokens t)) kind o le (λ m o' le'. tt)
  stands_least (suc room) n inside kind o le = by_macro_least n (macro_of table inside kind) (λ m. each (stands room table t (inside ++ m.name ∷ [])) m.body) kind o le
      (λ m o' le'. each_least n (stands room table t (inside ++ m.name ∷ [])) (λ k o'' le''. stands_least room n (inside ++ m.name ∷ []) k o'' le'') m.body o' le')

  each_same : (n : ℕ) (f g : Kind → Put → Result Put FaultAt) → ((kind : Kind) (o : Put) → n ≤ o.replaced → AtLeast n (f kind o)) → ((kind : Kind) (o : Put) → n ≤ o.replaced → f kind o ≡ g kind o)
      → (kinds : List Kind) (o : Put) → n ≤ o.replaced → each f kinds o ≡ each g kinds o
  unfolding each
  each_same n f g least h [] o le = refl
  each_same n f g least h (kind ∷ kinds) o le =
      bind_same n (f kind o) (each f kinds) (each g kinds) (least kind o le) (λ o' le'. each_same n f g least h kinds o' le') ∙ ap (λ (r : Result Put FaultAt). r >>= each g kinds) (h kind o le)

  by_macro_same : (m : Option Macro) (more less : Macro → Put → Result Put FaultAt) (kind : Kind) (o : Put) → ((m : Macro) (o' : Put) → o.replaced + 1 ≤ o'.replaced → more m o' ≡ less m o') → by_macro m more t kind o ≡ by_macro m less t kind o
  by_macro_same None more less kind o h = refl
  by_macro_same (Some m) more less kind o h = bind_same (o.replaced + 1) (counted t o) (more m) (less m) (counted_more o) (λ o' le. h m o' le)

  full : (o : Put) → 1000000 ≤ o.replaced → counted t o ≡ Err (fault_at TooManyTokens t)
  full o le = elim (ltb o.replaced 1000000) as (λ b. ltb o.replaced 1000000 ≡ b → cond b (Ok (record o { replaced = o.replaced + 1 })) (Err (fault_at TooManyTokens t)) ≡ Err (fault_at TooManyTokens t)) [
    | true ↦ λ e. let lt = ltb-true o.replaced 1000000 e in absurd (omega arith)
    | false ↦ λ e. refl
  ] refl

  full_same : (m : Option Macro) (more less : Macro → Put → Result Put FaultAt) (kind : Kind) (o : Put) → 1000000 ≤ o.replaced → by_macro m more t kind o ≡ by_macro m less t kind o
  full_same None more less kind o le = refl
  full_same (Some m) more less kind o le = ap (λ (r : Result Put FaultAt). r >>= more m) (full o le) ∙ sym (ap (λ (r : Result Put FaultAt). r >>= less m) (full o le))

  pub room_suffices : (room more : ℕ) (inside : List (List ℕ)) (kind : Kind) (o : Put) → 1000000 ≤ room + o.replaced → room ≤ more → stands more table t inside kind o ≡ stands room table t inside kind o
  unfolding stands
  room_suffices zero zero inside kind o enough le = refl
  room_suffices zero (suc more) inside kind o enough le = full_same (macro_of table inside kind) (λ m. each (stands more table t (inside ++ m.name ∷ [])) m.body) (λ m o'. Err (fault_at TooManyTokens t)) kind o (omega arith)
  room_suffices (suc room) zero inside kind o enough le = absurd (omega arith)
  room_suffices (suc room) (suc more) inside kind o enough le =
      by_macro_same (macro_of table inside kind) (λ m. each (stands more table t (inside ++ m.name ∷ [])) m.body) (λ m. each (stands room table t (inside ++ m.name ∷ [])) m.body) kind o
      (λ m o' above. each_same (o.replaced + 1) (stands more table t (inside ++ m.name ∷ [])) (stands room table t (inside ++ m.name ∷ []))
      (λ k o'' le''. stands_least more (o.replaced + 1) (inside ++ m.name ∷ []) k o'' le'')
      (λ k o'' le''. room_suffices room more (inside ++ m.name ∷ []) k o'' (omega arith) (omega arith)) m.body o' above)
