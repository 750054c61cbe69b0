-- Files that are read one after another.
use Rattle.std.proofs.Common.{ℕ, zero, suc, inl, inr, ◌≡◌, ◌+◌, ◌<◌, List, [], ◌∷◌, ◌++◌, length, length-append, take, get_or, refl, sym, ap, subst, ◌∙◌, arith}
use Rattle.std.specs.Prelude.{Option, Some, None, Result, Ok, Err, IfSome, Contains, Vec}
use Rattle.std.specs.declared.alloc.Global.{Global}
use Rattle.kit_base.specs.Held.{Held}
use Rattle.asset_pack.specs.declared.error.AssetFault.{AssetFault}
use Rattle.build_core.specs.declared.error.BuildErr.{BuildErr}
use Rattle.build_core.specs.declared.error.BuildErr.TheVariants as errors
use Rattle.build_core.specs.Due.{◌>>=◌, all_of, asset_of}
use Rattle.build_core.specs.Causes.{IsOfAsset, IsOfAssets}
use Rattle.build_core.specs.Gathered.{GivesBy, Gives}
use Rattle.build_core.specs.Reached.{FailsAt, IsOneRead}

-- a refusal that is handed on is the one due for what begins with the refused part
pub handed_on : {X Y X' Y' : Type 0} (view : X → Y) (view' : X' → Y') (e : BuildErr) (d : Result Y BuildErr) (d' : Result Y' BuildErr) → (d ≡ Err e → d' ≡ Err e) → GivesBy view (Err e) d → GivesBy view' (Err e) d'
handed_on view view' (errors.Source c f l) d d' on h = on h
handed_on view view' (errors.Missing n) d d' on h = on h
handed_on view view' (errors.Failed n) d d' on h = tt
handed_on view view' (errors.Bad c n l) d d' on h = on h
handed_on view view' (errors.Limit n) d d' on h = on h
handed_on view view' errors.Memory d d' on h = tt

contains_at : (names : List (List ℕ)) (i : ℕ) (d : List ℕ) → i < length names → Contains names (get_or names i d)
contains_at [] i d h = absurd (omega arith)
contains_at (n ∷ ns) zero d h = (0, omega arith, refl)
contains_at (n ∷ ns) (suc i) d h = let r = contains_at ns i d (omega arith) in (suc r.0, omega (arith, r.1), r.2)

module _ {X : Type 0} (one : List ℕ → Result X BuildErr) where
  -- the first and the others
  pub both_gave : (first : Result X BuildErr) (others : Result (List X) BuildErr) (xs : List X) → (first >>= λ x. others >>= λ ys. Ok (x ∷ ys)) ≡ Ok xs
      → (x : X) × (ys : List X) × (first ≡ Ok x) × (others ≡ Ok ys) × (x ∷ ys ≡ xs)
  both_gave (Err e) others xs h = absurd cc
  both_gave (Ok x) (Err e) xs h = absurd cc
  both_gave (Ok x) (Ok ys) xs h = (x, ys, refl, refl, cc)

  pub all_of-cons : (name : List ℕ) (names : List (List ℕ)) → all_of one (name ∷ names) ≡ (one name >>= λ x. all_of one names >>= λ ys. Ok (x ∷ ys))
  unfolding all_of
  all_of-cons name names = refl

  pub all_of-nil : all_of one [] ≡ Ok []
  unfolding all_of
  all_of-nil = refl

  same_list : (xs ys : List X) (r : Result (List X) BuildErr) → r ≡ Ok xs → r ≡ Ok ys → xs ≡ ys
  same_list xs ys r e f = let k = sym e ∙ f in cc

  none_gave : (xs : List X) → all_of one [] ≡ Ok xs → [] ≡ xs
  none_gave xs h = same_list [] xs (all_of one []) all_of-nil h

  pub joined_ok : (first : Result X BuildErr) (others : Result (List X) BuildErr) (x : X) (ys : List X) → first ≡ Ok x → others ≡ Ok ys → (first >>= λ z. others >>= λ zs. Ok (z ∷ zs)) ≡ Ok (x ∷ ys)
  joined_ok first others x ys e f = rw (e, f) refl

  joined_err : (first : Result X BuildErr) (others : Result (List X) BuildErr) (x : X) (d : BuildErr) → first ≡ Ok x → others ≡ Err d → (first >>= λ z. others >>= λ zs. Ok (z ∷ zs)) ≡ Err d
  joined_err first others x d e f = rw (e, f) refl

  first_err : (first : Result X BuildErr) (others : Result (List X) BuildErr) (d : BuildErr) → first ≡ Err d → (first >>= λ z. others >>= λ zs. Ok (z ∷ zs)) ≡ Err d
  first_err first others d e = rw e refl

  -- one more behind those that were read
  pub all_more : (names : List (List ℕ)) (i : ℕ) (d : List ℕ) (xs : List X) (x : X) → i < length names → all_of one (take i names) ≡ Ok xs → one (get_or names i d) ≡ Ok x
      → all_of one (take (suc i) names) ≡ Ok (xs ++ x ∷ [])
  all_more [] i d xs x lt h g = absurd (omega arith)
  all_more (n ∷ ns) zero d xs x lt h g =
      let none : [] ≡ xs = none_gave xs h in
      subst (λ l. all_of one (n ∷ []) ≡ Ok (l ++ x ∷ [])) none (all_of-cons n [] ∙ joined_ok (one n) (all_of one []) x [] g all_of-nil)
  all_more (n ∷ ns) (suc i) d xs x lt h g =
      let first = both_gave (one n) (all_of one (take i ns)) xs (sym (all_of-cons n (take i ns)) ∙ h) in
      let rest = all_more ns i d first.1 x (omega arith) first.3 g in
      subst (λ l. all_of one (n ∷ take (suc i) ns) ≡ Ok (l ++ x ∷ [])) first.4 (all_of-cons n (take (suc i) ns) ∙ joined_ok (one n) (all_of one (take (suc i) ns)) first.0 (first.1 ++ x ∷ []) first.2 rest)

  -- the first that is refused
  pub all_refused : (names : List (List ℕ)) (i : ℕ) (d : List ℕ) (xs : List X) (e : BuildErr) → i < length names → all_of one (take i names) ≡ Ok xs → one (get_or names i d) ≡ Err e
      → all_of one names ≡ Err e
  all_refused [] i d xs e lt h g = absurd (omega arith)
  all_refused (n ∷ ns) zero d xs e lt h g = all_of-cons n ns ∙ first_err (one n) (all_of one ns) e g
  all_refused (n ∷ ns) (suc i) d xs e lt h g =
      let first = both_gave (one n) (all_of one (take i ns)) xs (sym (all_of-cons n (take i ns)) ∙ h) in
      let rest = all_refused ns i d first.1 e (omega arith) first.3 g in
      all_of-cons n ns ∙ joined_err (one n) (all_of one ns) first.0 e first.2 rest

  -- where those before it were given, a file is read
  pub read_first : (n : List ℕ) (ns : List (List ℕ)) → IsOneRead one (n ∷ ns) n
  unfolding IsOneRead
  read_first n ns = inl refl

  pub read_behind : (n : List ℕ) (ns : List (List ℕ)) (x : X) (name : List ℕ) → one n ≡ Ok x → IsOneRead one ns name → IsOneRead one (n ∷ ns) name
  unfolding IsOneRead
  read_behind n ns x name h k = inr (x, h, k)

  pub read_next : (names : List (List ℕ)) (i : ℕ) (d : List ℕ) (xs : List X) → i < length names → all_of one (take i names) ≡ Ok xs → IsOneRead one names (get_or names i d)
  read_next [] i d xs lt h = absurd (omega arith)
  read_next (n ∷ ns) zero d xs lt h = read_first n ns
  read_next (n ∷ ns) (suc i) d xs lt h =
      let first = both_gave (one n) (all_of one (take i ns)) xs (sym (all_of-cons n (take i ns)) ∙ h) in
      read_behind n ns first.0 (get_or ns i d) first.2 (read_next ns i d first.1 (omega arith) first.3)

-- a refusal of one file is one of those of all
module _ (names : List (List ℕ)) (file : List ℕ) (at : Contains names file) where
  pub of_them : (e : BuildErr) → IsOfAsset file e → IsOfAssets names e
  of_them (errors.Source c f l) h = absurd h
  of_them (errors.Bad c n None) h = (h.0, h.1, subst (Contains names) (sym h.2) at)
  of_them (errors.Bad c n (Some l)) h = absurd h
  of_them (errors.Missing n) h = subst (Contains names) (sym h) at
  of_them (errors.Failed n) h = subst (Contains names) (sym h) at
  of_them (errors.Limit n) h = subst (Contains names) (sym h) at
  of_them errors.Memory h = tt

pub of_assets : (names : List (List ℕ)) (i : ℕ) (file : List ℕ) (e : BuildErr) → i < length names → file ≡ get_or names i file → IsOfAsset file e → IsOfAssets names e
of_assets names i file e lt is h = of_them names file (subst (Contains names) (sym is) (contains_at names i file lt)) e h

-- the same of what is held, where that is told
module _ {X : Type 0} (value : List ℕ → Result X AssetFault) (names : List (List ℕ)) (i : ℕ) (file : List ℕ) (xs : List X) (lt : i < length names) (is : file ≡ get_or names i file) where
  abbrev pub WereRead : Option Held → Type 0
  WereRead held = IfSome held (λ m. all_of (asset_of value m) (take i names) ≡ Ok xs)

  it : (m : Held) (r : Result X BuildErr) → asset_of value m file ≡ r → asset_of value m (get_or names i file) ≡ r
  it m r h = ap (asset_of value m) (sym is) ∙ h

  pub told_more : (x : X) (h0 h1 : Option Held) → WereRead h0 → h1 ≡ h0 → IfSome h1 (λ m. Gives (Ok x) (asset_of value m file))
      → IfSome h0 (λ m. all_of (asset_of value m) (take (i + 1) names) ≡ Ok (xs ++ x ∷ []))
  told_more x None h1 read e given = tt
  told_more x (Some m) h1 read e given =
      let one : asset_of value m file ≡ Ok x = subst (λ h. IfSome h (λ m'. Gives (Ok x) (asset_of value m' file))) e given in
      let next : i + 1 ≡ suc i = omega arith in
      ap (λ k. all_of (asset_of value m) (take k names)) next ∙ all_more (asset_of value m) names i file xs x lt read (it m (Ok x) one)

  pub told_refused : (e : BuildErr) (h0 h1 : Option Held) → WereRead h0 → h1 ≡ h0 → IfSome h1 (λ m. Gives (Err e) (asset_of value m file))
      → IfSome h0 (λ m. GivesBy {X = Vec X Global} (λ v. v.items) (Err e) (all_of (asset_of value m) names))
  told_refused e None h1 read same given = tt
  told_refused e (Some m) h1 read same given =
      handed_on (λ (x : X). x) (λ (v : Vec X Global). v.items) e (asset_of value m file) _ (λ h. all_refused (asset_of value m) names i file xs e lt read (it m (Err e) h))
      (subst (λ h. IfSome h (λ m'. Gives (Err e) (asset_of value m' file))) same given)

  fails_there : (T : Type 0) (At : List ℕ → Type 0) (e : BuildErr) → At file → IsOfAsset file e → FailsAt {T = T} At (Err e)
  fails_there T At (errors.Source c f l) here h = tt
  fails_there T At (errors.Missing n) here h = tt
  fails_there T At (errors.Failed n) here h = subst At (sym h) here
  fails_there T At (errors.Bad c n l) here h = tt
  fails_there T At (errors.Limit n) here h = tt
  fails_there T At errors.Memory here h = tt

  pub reached_there : (e : BuildErr) (held : Option Held) → WereRead held → IsOfAsset file e → IfSome held (λ m. FailsAt {T = Vec X Global} (IsOneRead (asset_of value m) names) (Err e))
  reached_there e None read h = tt
  reached_there e (Some m) read h =
      fails_there (Vec X Global) (IsOneRead (asset_of value m) names) e (subst (IsOneRead (asset_of value m) names) (sym is) (read_next (asset_of value m) names i file xs lt read)) h

-- before the first
pub told_none : {X : Type 0} (value : List ℕ → Result X AssetFault) (held : Option Held) (xs : List X) → xs ≡ [] → IfSome held (λ m. all_of (asset_of value m) [] ≡ Ok xs)
told_none value None xs e = tt
told_none value (Some m) xs e = rw e (all_of-nil (asset_of value m))

pub count_more : {X : Type 0} (ys xs : List X) (x : X) (i : ℕ) → ys ≡ xs ++ x ∷ [] → length xs ≡ i → length ys ≡ i + 1
count_more ys xs x i e h = ap length e ∙ length-append xs (x ∷ []) ∙ ap (λ k. k + 1) h
