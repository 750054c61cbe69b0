-- The last expansion that was begun is put first.
use Rattle.std.proofs.Common.{◌≡◌, ℕ, zero, suc, ◌<◌, ◌≤◌, ◌+◌, ◌-◌, List, [], ◌∷◌, ◌++◌, length, map, Bor, Bool, true, false, cond, ltb, ◌||◌, refl, sym, ap, ◌∙◌, append_assoc, arith}
use Rattle.std.specs.Prelude.{Option, Result, Ok, Err, Some, None, bytes_eq}
use Rattle.std.specs.List.{list_any}
use Rattle.std.proofs.lemmas.Bool.{ltb-true}
use Rattle.std.proofs.lemmas.List.{map_push, length-append, nil_from_length}
use Rattle.indexmap.specs.IndexSet.{insert_key}
use Rattle.kit_base.specs.declared.failure.Failure.{Failure}
use Rattle.kit_base.specs.declared.failure.Failure.TheVariants.{Memory, Cause}
use Rattle.kit_base.specs.Gives.{Fails}
use Rattle.c_lex.specs.declared.token.Kind.{Kind}
use Rattle.c_lex.specs.declared.token.Token.{Token}
use Rattle.c_prep.specs.declared.error.FaultAt.{FaultAt}
use Rattle.c_prep.specs.declared.error.Fault.TheVariants.{TooManyTokens}
use Rattle.c_prep.specs.declared.replace.Frame.{Frame}
use Rattle.c_prep.specs.Faults.{◌>>=◌, Gives, fault_at}
use Rattle.c_prep.specs.Kinds.{word_in}
use Rattle.c_prep.specs.Macros.{Table, Put, Macro, macro_at, body_of, visible, each, stands, macro_of, counted, emitted, replaced_at, replaced_in}
use Rattle.c_prep.specs.inner.Frames.{names, macro_in, at_place, unwound, unwound_after, Goes}

abbrev Step : Type 0
Step = Put → Result Put FaultAt

pub bind_assoc : (r : Result Put FaultAt) (f g : Step) → (r >>= f) >>= g ≡ r >>= (λ o. f o >>= g)
bind_assoc (Ok o) f g = refl
bind_assoc (Err e) f g = refl

pub bind_ok : (r : Result Put FaultAt) → r >>= (λ o. Ok o) ≡ r
bind_ok (Ok o) = refl
bind_ok (Err e) = refl

bind_same : (r : Result Put FaultAt) (f g : Step) → ((o : Put) → f o ≡ g o) → r >>= f ≡ r >>= g
bind_same (Ok o) f g h = h o
bind_same (Err e) f g h = refl

pub any_key : (ks : List (Bor (List ℕ))) (name : List ℕ) → list_any (λ k. bytes_eq name k.now) ks ≡ list_any (bytes_eq name) (map (λ k. k.now) ks)
any_key [] name = refl
any_key (k ∷ ks) name = ap (λ b. bytes_eq name k.now || b) (any_key ks name)

abbrev same_name : Bor (List ℕ) → Bor (List ℕ) → Bool
same_name x y = bytes_eq x.now y.now

pub entered : (ks new : List (Bor (List ℕ))) (k : Bor (List ℕ)) → list_any (bytes_eq k.now) (map (λ k. k.now) ks) ≡ false → new ≡ insert_key same_name ks k → map (λ k. k.now) new ≡ map (λ k. k.now) ks ++ k.now ∷ []
entered ks new k absent made =
    let none : list_any (same_name k) ks ≡ false = any_key ks k.now ∙ absent in
    ap (map (λ k. k.now)) (made ∙ ap (λ b. cond b ks (ks ++ k ∷ [])) none) ∙ map_push (λ k. k.now) ks k

abbrev name_of : Option Macro → List ℕ
name_of None = []
name_of (Some m) = m.name

new_by : (inside : List (List ℕ)) (name : List ℕ) (body : List Kind) (m : Macro) (b : Bool) → list_any (bytes_eq name) inside ≡ b → cond b None (Some (record { name = name; body = body })) ≡ Some m → list_any (bytes_eq m.name) inside ≡ false
new_by inside name body m true h e = absurd cc
new_by inside name body m false h e = ap (λ n. list_any (bytes_eq n) inside) (sym (ap name_of e)) ∙ h

new_visible : (inside : List (List ℕ)) (name : List ℕ) (m : Macro) (body : Option (List Kind)) → visible body inside name ≡ Some m → list_any (bytes_eq m.name) inside ≡ false
new_visible inside name m None e = absurd cc
new_visible inside name m (Some body) e = new_by inside name body m (list_any (bytes_eq name) inside) refl e

new_at : (table : Table) (inside : List (List ℕ)) (m : Macro) (word : Option (List ℕ)) → macro_at word table inside ≡ Some m → list_any (bytes_eq m.name) inside ≡ false
new_at table inside m None e = absurd cc
new_at table inside m (Some name) e = new_visible inside name m (body_of table name) e

-- the macro that a token names has a name that is not there yet
pub new_name : (table : Table) (inside : List (List ℕ)) (kind : Kind) (m : Macro) → macro_of table inside kind ≡ Some m → list_any (bytes_eq m.name) inside ≡ false
unfolding macro_of
new_name table inside kind m e = new_at table inside m (word_in kind) e

length-names : (fs : List Frame) → length (names fs) ≡ length fs
length-names [] = refl
length-names (f ∷ fs) = ap suc (length-names fs)

module _ (table : Table) (at : Token) where
  -- what the frame on top has left, and then the frames below
  pub on_top : (inside : List (List ℕ)) (fs : List Frame) (f : Frame) (o : Put)
      → unwound table at inside (fs ++ f ∷ []) o ≡ each (at_place table at (inside ++ names (fs ++ f ∷ []))) f.rest.now o >>= unwound table at inside fs
  unfolding unwound
  on_top inside [] f o = sym (bind_ok (each (at_place table at (inside ++ f.name.now ∷ [])) f.rest.now o))
  on_top inside (g ∷ fs) f o =
      let inner = inside ++ g.name.now ∷ [] in
      let same : inner ++ names (fs ++ f ∷ []) ≡ inside ++ names (g ∷ fs ++ f ∷ []) = append_assoc inside (g.name.now ∷ []) (names (fs ++ f ∷ [])) in
      let top : Result Put FaultAt = each (at_place table at (inner ++ names (fs ++ f ∷ []))) f.rest.now o in
      ap (λ (r : Result Put FaultAt). r >>= each (at_place table at inner) g.rest.now) (on_top inner fs f o)
      ∙ bind_assoc top (unwound table at inner fs) (each (at_place table at inner) g.rest.now)
      ∙ ap (λ (n : List (List ℕ)). each (at_place table at n) f.rest.now o >>= unwound table at inside (g ∷ fs)) same

  counted_below : (o o' : Put) → counted at o ≡ Ok o' → o.replaced < 1000000
  counted_below o o' e = below (ltb o.replaced 1000000) refl e
    where
      below : (b : Bool) → ltb o.replaced 1000000 ≡ b → cond b (Ok (record o { replaced = o.replaced + 1 })) (Err (fault_at TooManyTokens at)) ≡ Ok o' → o.replaced < 1000000
      below true h e = ltb-true _ _ h
      below false h e = absurd cc

  pub begins_macro : (fs : List Frame) (f : Frame) (kind : Kind) (o o' : Put) → macro_of table (names fs) kind ≡ Some (macro_in f) → counted at o ≡ Ok o' → length fs ≤ o.replaced
      → unwound_after table at fs (at_place table at (names fs) kind o) ≡ unwound table at [] (fs ++ f ∷ []) o'
  unfolding stands
  begins_macro fs f kind o o' seen count fits =
      let inside = names fs in
      let below = counted_below o o' count in
      let same : names (fs ++ f ∷ []) ≡ inside ++ f.name.now ∷ [] = map_push (λ f. f.name.now) fs f in
      let room : 1000000 - length inside ≡ suc (1000000 - length (inside ++ f.name.now ∷ [])) = omega (arith, length-names fs, length-append inside (f.name.now ∷ [])) in
      let one : at_place table at inside kind o ≡ each (at_place table at (inside ++ f.name.now ∷ [])) f.rest.now o' = rw (room, seen, count) refl in
      ap (unwound_after table at fs) one ∙ ap (λ (n : List (List ℕ)). each (at_place table at n) f.rest.now o' >>= unwound table at [] fs) (sym same) ∙ sym (on_top [] fs f o')

  count_fails : (n : ℕ) (inside : List (List ℕ)) (kind : Kind) (m : Macro) (o : Put) (f : FaultAt) → macro_of table inside kind ≡ Some m → counted at o ≡ Err f → stands n table at inside kind o ≡ Err f
  unfolding stands
  count_fails zero inside kind m o f seen e = rw (seen, e) refl
  count_fails (suc n) inside kind m o f seen e = rw (seen, e) refl

  emits : (n : ℕ) (inside : List (List ℕ)) (kind : Kind) (o : Put) → macro_of table inside kind ≡ None → stands n table at inside kind o ≡ emitted at kind o
  unfolding stands
  emits zero inside kind o seen = rw seen refl
  emits (suc n) inside kind o seen = rw seen refl

  pub count_refused : (fs : List Frame) (kind : Kind) (m : Macro) (o : Put) (x : Failure FaultAt) → macro_of table (names fs) kind ≡ Some m → Fails x (counted at o)
      → Fails x (unwound_after table at fs (at_place table at (names fs) kind o))
  count_refused fs kind m o (Cause f) seen h = ap (unwound_after table at fs) (count_fails (1000000 - length (names fs)) (names fs) kind m o f seen h)
  count_refused fs kind m o Memory seen h = tt

  pub put_plain : (fs : List Frame) (kind : Kind) (o new : Put) (r : Result (Unit {0}) (Failure FaultAt)) → macro_of table (names fs) kind ≡ None → Gives new r (emitted at kind o)
      → Goes r (unwound_after table at fs (at_place table at (names fs) kind o)) (unwound table at [] fs new)
  put_plain fs kind o new (Ok x) seen h = ap (unwound_after table at fs) (emits (1000000 - length (names fs)) (names fs) kind o seen ∙ h)
  put_plain fs kind o new (Err (Cause f)) seen h = ap (unwound_after table at fs) (emits (1000000 - length (names fs)) (names fs) kind o seen ∙ h)
  put_plain fs kind o new (Err Memory) seen h = tt

  pub no_frames : (r : Result Put FaultAt) → r ≡ unwound_after table at [] r
  unfolding unwound
  no_frames r = sym (bind_ok r)

  pub next_of_top : (fs : List Frame) (f g : Frame) (next : Kind) (o : Put) → f.rest.now ≡ next ∷ g.rest.now → g.name ≡ f.name
      → unwound table at [] (fs ++ f ∷ []) o ≡ unwound_after table at (fs ++ g ∷ []) (at_place table at (names (fs ++ g ∷ [])) next o)
  unfolding each
  next_of_top fs f g next o whole named =
      let same : names (fs ++ f ∷ []) ≡ names (fs ++ g ∷ []) = map_push (λ f. f.name.now) fs f ∙ ap (λ n. names fs ++ n.now ∷ []) (sym named) ∙ sym (map_push (λ f. f.name.now) fs g) in
      let n = names (fs ++ g ∷ []) in
      let first : Result Put FaultAt = at_place table at n next o in
      on_top [] fs f o
      ∙ ap (λ (m : List (List ℕ)). each (at_place table at m) f.rest.now o >>= unwound table at [] fs) same
      ∙ ap (λ (ks : List Kind). each (at_place table at n) ks o >>= unwound table at [] fs) whole
      ∙ bind_assoc first (each (at_place table at n) g.rest.now) (unwound table at [] fs)
      ∙ bind_same first (λ o'. each (at_place table at n) g.rest.now o' >>= unwound table at [] fs) (unwound table at [] (fs ++ g ∷ [])) (λ o'. sym (on_top [] fs g o'))

  pub top_done : (fs : List Frame) (f : Frame) (o : Put) → length f.rest.now ≡ 0 → unwound table at [] (fs ++ f ∷ []) o ≡ unwound table at [] fs o
  unfolding each
  top_done fs f o empty = on_top [] fs f o ∙ ap (λ (ks : List Kind). each (at_place table at (names (fs ++ f ∷ []))) ks o >>= unwound table at [] fs) (nil_from_length f.rest.now empty)

  pub unwound_none : (fs : List Frame) (o : Put) → length fs ≡ 0 → unwound table at [] fs o ≡ Ok o
  unfolding unwound
  unwound_none fs o empty = ap (λ (gs : List Frame). unwound table at [] gs o) (nil_from_length fs empty)

pub refused : (before before' : Result Put FaultAt) (x : Failure FaultAt) → before' ≡ before → Fails x before → Fails x before'
refused before before' (Cause f) same h = same ∙ h
refused before before' Memory same h = tt

module _ (table : Table) (rest : List Token) (o : Put) (total : Result Put FaultAt) (so_far : replaced_in table rest o ≡ total) where
  first_of_rest : (t : Token) (after : List Token) → rest ≡ t ∷ after → replaced_in table rest o ≡ replaced_at table t o >>= replaced_in table after
  unfolding replaced_in
  first_of_rest t after whole = ap (λ (ts : List Token). replaced_in table ts o) whole

  pub all_next : (t : Token) (after : List Token) (o' : Put) → rest ≡ t ∷ after → replaced_at table t o ≡ Ok o' → replaced_in table after o' ≡ total
  all_next t after o' whole one = sym (ap (λ (r : Result Put FaultAt). r >>= replaced_in table after) one) ∙ sym (first_of_rest t after whole) ∙ so_far

  pub all_refused : (t : Token) (after : List Token) (x : Failure FaultAt) → rest ≡ t ∷ after → Fails x (replaced_at table t o) → Fails x total
  all_refused t after (Cause k) whole one = sym so_far ∙ first_of_rest t after whole ∙ ap (λ (r : Result Put FaultAt). r >>= replaced_in table after) one
  all_refused t after Memory whole one = tt

  pub all_done : length rest ≡ 0 → total ≡ Ok o
  unfolding replaced_in
  all_done empty = sym so_far ∙ ap (λ (ts : List Token). replaced_in table ts o) (nil_from_length rest empty)
