-- What a call of a function of words does to the store: its parameters take the arguments, and end.
use Rattle.std.proofs.Common.{◌≡◌, ℕ, zero, suc, ◌+◌, arith, Bool, true, false, ◌&&◌, eqb, List, [], ◌∷◌, ◌++◌, length, set, get_or, slice_get, replicate, Option, Some, None, Result, Ok, refl, if◌then◌else◌, sym, ap, subst, ◌∙◌, append-nil}
use Rattle.std.proofs.lemmas.List.{set_at, get_or_at, length_push}
use Rattle.std.specs.Option.{option_flatten}
use Rattle.c_types.specs.Types.{Ty, VoidY, IntY, BoolY, EnumY, StructY, UnionY, PointerY, ArrayY}
use Rattle.obj_mem.specs.declared.cell.Cell.{Cell}
use Rattle.obj_mem.specs.declared.cell.Cell.TheVariants.{Unwritten}
use Rattle.obj_mem.specs.declared.cell.ObjectKind.TheVariants.{Local}
use Rattle.obj_mem.specs.declared.access.Access.{Access}
use Rattle.obj_mem.specs.Objects.{ObjectT, object, object_at, ended, made, unwritten, end_object, end_from, cell_at, read_refused, write_refused, unless_refused, with_cell, cell_read}
use Rattle.obj_mem.specs.Stores.{Store, Sizes, with_objects, words_here, local_object, end_local, fresh, fresh_all}
use Rattle.obj_mem.specs.Queries.{write, accessed, first_cell}
use Rattle.c_meaning.specs.Outcomes.{nowhere}
use Rattle.c_meaning.specs.Setting.{Setting, words}
use Rattle.c_types.specs.Kinds.{is_structure}
use Rattle.c_meaning.specs.Cells.{end_temporary}
use Rattle.c_meaning.specs.Expressions.{all_released}
use Rattle.c_evaluate.specs.inner.Storing.{Kept, at_span, then_ok, cells_in, params_in}
use Rattle.c_evaluate.specs.inner.Swift.{is_word, are_words, passed}

-- the objects of the parameters, unwritten and with their arguments; and where they have ended
abbrev pub blanks : List Cell → List ObjectT
blanks [] = []
blanks (c ∷ cs) = object Local (Unwritten ∷ []) ∷ blanks cs

abbrev pub laid : List Cell → List ObjectT
laid [] = []
laid (c ∷ cs) = object Local (c ∷ []) ∷ laid cs

abbrev pub over : List Cell → List ObjectT
over [] = []
over (c ∷ cs) = ended ∷ over cs

-- their numbers
abbrev pub counted : (first : ℕ) → List Cell → List (Option ℕ)
counted n [] = []
counted n (c ∷ cs) = Some n ∷ counted (n + 1) cs

-- the sizes of other locals
abbrev pub others : List Cell → List ℕ → List ℕ
others [] ws = ws
others (c ∷ cs) [] = []
others (c ∷ cs) (w ∷ ws) = others cs ws

module _ {A : Type 0} where
  joined : (xs : List A) (y : A) (ys : List A) → xs ++ y ∷ ys ≡ (xs ++ y ∷ []) ++ ys
  joined [] y ys = refl
  joined (x ∷ xs) y ys = ap (λ l. x ∷ l) (joined xs y ys)

  there : (xs : List A) (y : A) (ys : List A) (k : ℕ) → length xs ≡ k → slice_get (xs ++ y ∷ ys) k ≡ Some y
  there xs y ys k e = subst (λ j. slice_get (xs ++ y ∷ ys) j ≡ Some y) e (at_length xs)
    where
      at_length : (xs : List A) → slice_get (xs ++ y ∷ ys) (length xs) ≡ Some y
      at_length [] = refl
      at_length (x ∷ xs) = at_length xs

both : {P : Type 0} (a b : Bool) → (a && b) ≡ true → (a ≡ true → b ≡ true → P) → P
both true true e h = h refl refl
both true false e h = absurd cc
both false b e h = absurd cc

same : (k j : ℕ) → eqb k j ≡ true → k ≡ j
same k j e = grind (arith, e)

pub no_structure : (ty : Ty) → is_word ty ≡ true → is_structure ty ≡ false
no_structure VoidY e = absurd cc
no_structure IntY e = refl
no_structure BoolY e = refl
no_structure (EnumY number) e = refl
no_structure (StructY number) e = absurd cc
no_structure (UnionY number) e = absurd cc
no_structure (PointerY to) e = absurd cc
no_structure (ArrayY of len) e = absurd cc

abbrev stored_by : Bool → Setting → (m : ℕ) → Ty → (p c : Cell) → Store → Kept
stored_by b s m ty p c u = if b then cells_in nowhere m (words s ty) (Some c) p u else then_ok (at_span nowhere (write u.objects p c)) (λ os. Ok (with_objects os u))

module _ (answers : List ℕ) (function : Option ℕ) (used : ℕ) where
  abbrev pub held : List ObjectT → List (Option ℕ) → Store
  held os ls = record { objects = os; answers = answers; function = function; locals = ls; used = used }

  -- the parameters take the arguments
  one_param : (s : Setting) (m k : ℕ) (ty : Ty) (tys : List Ty) (c : Cell) (cs : List Cell) (os R : List ObjectT) (front Q : List (Option ℕ)) → is_word ty ≡ true → length front ≡ k →
      params_in s m k (ty ∷ tys) (c ∷ cs) (held (os ++ object Local (Unwritten ∷ []) ∷ R) (front ++ Some (length os) ∷ Q)) ≡ params_in s m (k + 1) tys cs (held ((os ++ object Local (c ∷ []) ∷ []) ++ R) (front ++ Some (length os) ∷ Q))
  one_param s m k ty tys c cs os R front Q e l =
      let L : List (Option ℕ) = front ++ Some (length os) ∷ Q in
      let O : List ObjectT = os ++ object Local (Unwritten ∷ []) ∷ R in
      let a : slice_get L k ≡ Some (Some (length os)) = there front (Some (length os)) Q k l in
      let b : is_structure ty ≡ false = no_structure ty e in
      let g : object_at O (length os) ≡ object Local (Unwritten ∷ []) = get_or_at os (object Local (Unwritten ∷ [])) R ended (length os) refl in
      let w : set O (length os) (object Local (c ∷ [])) ≡ (os ++ object Local (c ∷ []) ∷ []) ++ R = set_at os (object Local (Unwritten ∷ [])) R (object Local (c ∷ [])) (length os) refl ∙ joined os (object Local (c ∷ [])) R in
      (λ i. then_ok (at_span nowhere (first_cell (option_flatten (a i)))) (λ p. then_ok (stored_by (b i) s m ty p c (held O L)) (λ v. params_in s m (k + 1) tys cs v)))
      ∙ (λ i. then_ok (then_ok (at_span nowhere (accessed 1 0 (unless_refused (write_refused (g i) 0) (set O (length os) (with_cell (g i) 0 c))))) (λ os. Ok (with_objects os (held O L)))) (λ v. params_in s m (k + 1) tys cs v))
      ∙ ap (λ os. params_in s m (k + 1) tys cs (held os L)) w

  pub all_params : (s : Setting) (m : ℕ) (k : ℕ) (tys : List Ty) (js ws : List ℕ) (vs : List Cell) (os : List ObjectT) (front T : List (Option ℕ)) → are_words k tys js ws vs ≡ true → length front ≡ k →
      params_in s m k tys vs (held (os ++ blanks vs) (front ++ (counted (length os) vs ++ T))) ≡ Ok (held (os ++ laid vs) (front ++ (counted (length os) vs ++ T)))
  all_params s m k [] [] ws [] os front T e l = refl
  all_params s m k [] [] ws (c ∷ cs) os front T e l = absurd cc
  all_params s m k [] (j ∷ js) ws vs os front T e l = absurd cc
  all_params s m k (ty ∷ tys) [] ws vs os front T e l = absurd cc
  all_params s m k (ty ∷ tys) (j ∷ js) [] vs os front T e l = absurd cc
  all_params s m k (ty ∷ tys) (j ∷ js) (w ∷ ws) [] os front T e l = absurd cc
  all_params s m k (ty ∷ tys) (j ∷ js) (w ∷ ws) (c ∷ cs) os front T e l = both (is_word ty) (eqb k j && (eqb w 1 && are_words (k + 1) tys js ws cs)) e (λ word e1. both (eqb k j) (eqb w 1 && are_words (k + 1) tys js ws cs) e1 (λ e2 e3. both (eqb w 1) (are_words (k + 1) tys js ws cs) e3 (λ e4 more.
      let x : ObjectT = object Local (c ∷ []) in
      let n : length (os ++ x ∷ []) ≡ length os + 1 = length_push os x in
      let f : length (front ++ Some (length os) ∷ []) ≡ k + 1 = length_push front (Some (length os)) ∙ ap (λ j. j + 1) l in
      let q : front ++ Some (length os) ∷ (counted (length os + 1) cs ++ T) ≡ (front ++ Some (length os) ∷ []) ++ (counted (length (os ++ x ∷ [])) cs ++ T) = joined front (Some (length os)) (counted (length os + 1) cs ++ T) ∙ ap (λ j. (front ++ Some (length os) ∷ []) ++ (counted j cs ++ T)) (sym n) in
      one_param s m k ty tys c cs os (blanks cs) front (counted (length os + 1) cs ++ T) word l
      ∙ ap (λ ls. params_in s m (k + 1) tys cs (held ((os ++ x ∷ []) ++ blanks cs) ls)) q
      ∙ all_params s m (k + 1) tys js ws cs (os ++ x ∷ []) (front ++ Some (length os) ∷ []) T more f
      ∙ (λ i. Ok (held (sym (joined os x (laid cs)) i) (sym q i))))))

  -- the parameters are made
  one_made : (z : Sizes) (f : ℕ) (j : ℕ) (os : List ObjectT) (front Q : List (Option ℕ)) → function ≡ Some f → get_or (z.locals f) j 0 ≡ 1 → length front ≡ j →
      fresh z j (held os (front ++ None ∷ Q)) ≡ held (os ++ object Local (Unwritten ∷ []) ∷ []) ((front ++ Some (length os) ∷ []) ++ Q)
  one_made z f j os front Q is size l =
      let L : List (Option ℕ) = front ++ None ∷ Q in
      let a : slice_get L j ≡ Some None = there front None Q j l in
      let h : words_here z function j ≡ 1 = ap (λ g. words_here z g j) is ∙ size in
      let d : set L j (Some (length os)) ≡ (front ++ Some (length os) ∷ []) ++ Q = set_at front None Q (Some (length os)) j l ∙ joined front (Some (length os)) Q in
      λ i. held (made (end_local (option_flatten (a i)) os) Local (unwritten (h i))) (d i)

  pub all_made : (z : Sizes) (f : ℕ) (k : ℕ) (tys : List Ty) (js ws : List ℕ) (vs : List Cell) (before : List ℕ) (os : List ObjectT) (front : List (Option ℕ)) → function ≡ Some f → z.locals f ≡ before ++ ws → length before ≡ k → are_words k tys js ws vs ≡ true → length front ≡ k →
      fresh_all z js (held os (front ++ replicate (length ws) None)) ≡ held (os ++ blanks vs) (front ++ (counted (length os) vs ++ replicate (length (others vs ws)) None))
  all_made z f k [] [] ws [] before os front is at b e l = λ i. held (sym (append-nil os) i) (front ++ replicate (length ws) None)
  all_made z f k [] [] ws (c ∷ cs) before os front is at b e l = absurd cc
  all_made z f k [] (j ∷ js) ws vs before os front is at b e l = absurd cc
  all_made z f k (ty ∷ tys) [] ws vs before os front is at b e l = absurd cc
  all_made z f k (ty ∷ tys) (j ∷ js) [] vs before os front is at b e l = absurd cc
  all_made z f k (ty ∷ tys) (j ∷ js) (w ∷ ws) [] before os front is at b e l = absurd cc
  all_made z f k (ty ∷ tys) (j ∷ js) (w ∷ ws) (c ∷ cs) before os front is at b e l = both (is_word ty) (eqb k j && (eqb w 1 && are_words (k + 1) tys js ws cs)) e (λ word e1. both (eqb k j) (eqb w 1 && are_words (k + 1) tys js ws cs) e1 (λ e2 e3. both (eqb w 1) (are_words (k + 1) tys js ws cs) e3 (λ e4 more.
      let x : ObjectT = object Local (Unwritten ∷ []) in
      let j_is : k ≡ j = same k j e2 in
      let size : get_or (z.locals f) j 0 ≡ 1 = ap (λ ls. get_or ls j 0) at ∙ get_or_at before w ws 0 j (b ∙ j_is) ∙ same w 1 e4 in
      let n : length (os ++ x ∷ []) ≡ length os + 1 = length_push os x in
      let g : length (front ++ Some (length os) ∷ []) ≡ k + 1 = length_push front (Some (length os)) ∙ ap (λ j. j + 1) l in
      let h : length (before ++ w ∷ []) ≡ k + 1 = length_push before w ∙ ap (λ j. j + 1) b in
      let T : List (Option ℕ) = replicate (length (others cs ws)) None in
      ap (fresh_all z js) (one_made z f j os front (replicate (length ws) None) is size (l ∙ j_is))
      ∙ all_made z f (k + 1) tys js ws cs (before ++ w ∷ []) (os ++ x ∷ []) (front ++ Some (length os) ∷ []) is (at ∙ joined before w ws) h more g
      ∙ (λ i. held (sym (joined os x (blanks cs)) i) ((front ++ Some (length os) ∷ []) ++ (counted (n i) cs ++ T)))
      ∙ (λ i. held (os ++ blanks (c ∷ cs)) (sym (joined front (Some (length os)) (counted (length os + 1) cs ++ T)) i)))))

-- what a parameter holds
pub param_held : (vs : List Cell) (j : ℕ) (c : Cell) (os : List ObjectT) (T : List (Option ℕ)) → slice_get vs j ≡ Some c → (o : ℕ) × ((local_object (counted (length os) vs ++ T) j ≡ Some o) × (cell_read (os ++ laid vs) o 0 ≡ Ok c))
param_held [] j c os T e = absurd cc
param_held (v ∷ vs) zero c os T e = (length os, (refl, (λ i. unless_refused (read_refused (get_or_at os (object Local (v ∷ [])) (laid vs) ended (length os) refl i) 0) (cell_at (get_or_at os (object Local (v ∷ [])) (laid vs) ended (length os) refl i) 0)) ∙ held_is v c e))
  where
    held_is : (v c : Cell) → Some v ≡ Some c → ◌≡◌ {A = Result Cell Access} (Ok v) (Ok c)
    held_is v c e = cc
param_held (v ∷ vs) (suc j) c os T e =
    let x : ObjectT = object Local (v ∷ []) in
    let r = param_held vs j c (os ++ x ∷ []) T e in
    (r.0, (ap (λ n. local_object (counted n vs ++ T) j) (sym (length_push os x)) ∙ r.1.0, ap (λ l. cell_read l r.0 0) (joined os x (laid vs)) ∙ r.1.1))

-- behind the call they have ended
ends : (os : List ObjectT) (vs : List Cell) → end_from (length os) (os ++ laid vs) ≡ os ++ over vs
ends [] [] = refl
ends [] (v ∷ vs) = ap (λ l. ended ∷ l) (ends [] vs)
ends (x ∷ os) vs = ap (λ l. x ∷ l) (ends os vs)

passed_is : (vs : List Cell) (u : Store) → passed vs u ≡ with_objects (u.objects ++ over vs) u
passed_is [] u = λ i. with_objects (sym (append-nil u.objects) i) u
passed_is (c ∷ cs) u = passed_is cs (with_objects (end_object (made u.objects Local []) (length u.objects)) u)
    ∙ (λ i. with_objects (set_at u.objects (object Local []) [] ended (length u.objects) refl i ++ over cs) u)
    ∙ (λ i. with_objects (sym (joined u.objects ended (over cs)) i) u)

pub passed_back : (vs : List Cell) (u : Store) → with_objects (end_from (length u.objects) (u.objects ++ laid vs)) u ≡ passed vs u
passed_back vs u = (λ i. with_objects (ends u.objects vs i) u) ∙ sym (passed_is vs u)

-- and nothing of them is released
pub words_released : (k : ℕ) (tys : List Ty) (js ws : List ℕ) (vs : List Cell) (u : Store) → are_words k tys js ws vs ≡ true → all_released tys vs u ≡ u
words_released k [] js ws vs u e = refl
words_released k (ty ∷ tys) [] ws vs u e = absurd cc
words_released k (ty ∷ tys) (j ∷ js) [] vs u e = absurd cc
words_released k (ty ∷ tys) (j ∷ js) (w ∷ ws) [] u e = absurd cc
words_released k (ty ∷ tys) (j ∷ js) (w ∷ ws) (c ∷ cs) u e = both (is_word ty) (eqb k j && (eqb w 1 && are_words (k + 1) tys js ws cs)) e (λ word e1. both (eqb k j) (eqb w 1 && are_words (k + 1) tys js ws cs) e1 (λ e2 e3. both (eqb w 1) (are_words (k + 1) tys js ws cs) e3 (λ e4 more.
    ap (all_released tys cs) (ap (λ b. if b then end_temporary c u else u) (no_structure ty word)) ∙ words_released (k + 1) tys js ws cs u more)))
