-- Maps of names, and the words of texts.
use Rattle.std.specs.Option.{option_copied}
use Rattle.std.specs.Str.{bytes_eq}
use Rattle.std.specs.Map.{lookup, values_of}
use Rattle.std.proofs.lemmas.List.{map_push}
use Rattle.std.proofs.lemmas.List.Sums.{sum_by-cons}
use Rattle.std.proofs.Common.{◌≡◌, ℕ, ◌+◌, ◌≤◌, true, false, cond, List, [], ◌∷◌, ◌++◌, length, map, Option, Some, None, option_map, Bor, refl, sym, ap, ◌∙◌, arith}
use Rattle.indexmap.specs.IndexMap.{insert_entry}
use Rattle.c_exprs.specs.Env.{Text, find, find_in, or_else, LocalD}
use Rattle.c_exprs.specs.Faults.{text_words}
use Rattle.c_exprs.specs.declared.names.Local.{Local}
use Rattle.c_exprs.specs.declared.names.Scope.{Scope}
use Rattle.c_exprs.specs.View.{local, scope}

abbrev pub entry : {X Y : Type 0} → (X → Y) → Text × X → Text × Y
entry f e = (e.0, f e.1)

-- a map's look-up by a name is the scope's
pub find_entries : {X Y : Type 0} (n : Text) (f : X → Y) (es : List (Text × X)) → find n (map (entry f) es) ≡ option_map f (lookup (bytes_eq n) es)
find_entries n f [] = refl
find_entries n f (e ∷ es) = elim (bytes_eq n e.0) as (λ b. cond b (Some (f e.1)) (find n (map (entry f) es)) ≡ option_map f (cond b (Some e.1) (lookup (bytes_eq n) es))) [ true ↦ refl | false ↦ find_entries n f es ]

-- what a map's look-up lends, seen by f, is what the scope has
pub lent : {X Y : Type 0} (n : Text) (f : X → Y) (es : List (Text × X)) (r : Option (Bor X)) → option_copied r ≡ lookup (bytes_eq n) es → option_map (λ x. f x.now) r ≡ find n (map (entry f) es)
lent {X = X} n f es r e = seen r ∙ ap (option_map f) e ∙ sym (find_entries n f es)
  where
    seen : (r : Option (Bor X)) → option_map (λ x. f x.now) r ≡ option_map f (option_copied r)
    seen None = refl
    seen (Some x) = refl

pub copied : {X : Type 0} (n : Text) (es : List (Text × X)) (r : Option (Bor X)) → option_copied r ≡ lookup (bytes_eq n) es → option_copied r ≡ find n (map (entry (λ (x : X). x)) es)
copied {X = X} n es r e = e ∙ same (lookup (bytes_eq n) es) ∙ sym (find_entries n (λ (x : X). x) es)
  where
    same : (o : Option X) → o ≡ option_map (λ (x : X). x) o
    same None = refl
    same (Some x) = refl

-- a new name goes last
pub inserted : {X Y : Type 0} (key : Text) (x : X) (f : X → Y) (es : List (Text × X)) → find key (map (entry f) es) ≡ None → map (entry f) (insert_entry bytes_eq es key x) ≡ map (entry f) es ++ entry f (key, x) ∷ []
inserted key x f [] absent = refl
inserted {Y = Y} key x f (e ∷ es) absent = elim (bytes_eq key e.0) as (λ b. cond b (Some (f e.1)) (find key (map (entry f) es)) ≡ None → map (entry f) (cond b ((e.0, x) ∷ es) (e ∷ insert_entry bytes_eq es key x)) ≡ entry f e ∷ map (entry f) es ++ entry f (key, x) ∷ []) [
  | true ↦ λ h. absurd cc
  | false ↦ λ h. ap (λ (xs : List (Text × Y)). entry f e ∷ xs) (inserted key x f es h)
] absent

pub numbers-values : (es : List (Text × Local)) → map (λ (l : Local). l.number) (values_of es) ≡ map (λ (e : Text × LocalD). e.1.number) (map (entry local) es)
numbers-values [] = refl
numbers-values (e ∷ es) = ap (λ (ns : List ℕ). e.1.number ∷ ns) (numbers-values es)

or_else_assoc : {A : Type 0} (a b c : Option A) → or_else (or_else a b) c ≡ or_else a (or_else b c)
or_else_assoc None b c = refl
or_else_assoc (Some x) b c = refl

or_none : {A : Type 0} (a : Option A) → a ≡ or_else a None
or_none None = refl
or_none (Some x) = refl

-- the last scope is asked first
last_first : {A : Type 0} (n : Text) (ss : List (List (Text × A))) (s : List (Text × A)) → find_in n (ss ++ s ∷ []) ≡ or_else (find n s) (find_in n ss)
last_first n [] s = or_none (find n s)
last_first {A = A} n (t ∷ ts) s = ap (λ (r : Option A). or_else r (find n t)) (last_first n ts s) ∙ or_else_assoc (find n s) (find_in n ts) (find n t)

module _ (n : Text) (rest around : List Scope) (s : Scope) (is : rest ≡ around ++ s ∷ []) where
  parted : find_in n (map scope rest) ≡ or_else (find n (scope s)) (find_in n (map scope around))
  parted = ap (λ (ss : List Scope). find_in n (map scope ss)) is ∙ ap (find_in n) (map_push scope around s) ∙ last_first n (map scope around) (scope s)

  -- what the last scope has is what all have
  pub has_it : (found : LocalD) → find n (scope s) ≡ Some found → find_in n (map scope rest) ≡ Some found
  has_it found h = parted ∙ ap (λ (r : Option LocalD). or_else r (find_in n (map scope around))) h

  pub lacks_it : find n (scope s) ≡ None → find_in n (map scope around) ≡ find_in n (map scope rest)
  lacks_it h = sym (parted ∙ ap (λ (r : Option LocalD). or_else r (find_in n (map scope around))) h)

-- there are no more texts than words
pub length_words : (ts : List Text) → length ts ≤ text_words ts
length_words [] = omega arith
length_words (t ∷ ts) = let h = length_words ts in omega (arith, sum_by-cons (λ (u : Text). length u + 1) t ts)
