-- What effects do to one file.
use Rattle.std.proofs.Common.{◌≡◌, ℕ, zero, suc, Bool, true, false, cond, List, [], ◌∷◌, ◌++◌, length, take, refl, sym, ap, ◌∙◌, inl, inr, append_assoc, append-nil}
use Rattle.std.specs.Prelude.{Option, Some, unwrap_or}
use Rattle.std.specs.Cmp.{eq_by_cmp_equiv}
use Rattle.std.specs.Str.{bytes_eq}
use Rattle.std.specs.FinMap.{get, insert, get-insert}
use Rattle.std.proofs.lemmas.Cmp.{nat_list_cmp_total}
use Rattle.std.proofs.lemmas.Map.Text.{is_eq-slice_cmp}
use Rattle.std.proofs.lemmas.Slice.Eq.{bytes_eq-Decides}
use Rattle.kit_base.specs.Held.{Held, emptied, appended, bytes_of}
use Rattle.kit_base.specs.Effects.{Effect, Creates, Appends, all_done, CutShort}
use Rattle.output_laws.specs.Standing.{AreOther, IsFrontOf}

pub same_name : (x : List ℕ) → bytes_eq x x ≡ true
same_name x = (bytes_eq-Decides x x).1 refl

pub named : (x n : List ℕ) → bytes_eq x n ≡ true → x ≡ n
named x n e = (bytes_eq-Decides x n).0 e

get_same : (m : Held) (name bytes : List ℕ) → get (insert m name bytes) name ≡ Some bytes
get_same m name bytes =
    get-insert nat_list_cmp_total m name bytes name ∙ ap (λ b. cond b (Some bytes) (get m name)) ((eq_by_cmp_equiv nat_list_cmp_total).refl name)

get_other : (m : Held) (name bytes other : List ℕ) → bytes_eq other name ≡ false → get (insert m name bytes) other ≡ get m other
get_other m name bytes other different =
    get-insert nat_list_cmp_total m name bytes other ∙ ap (λ b. cond b (Some bytes) (get m other)) (is_eq-slice_cmp other name ∙ different)

get_by : (m : Held) (x n bytes : List ℕ) (b : Bool) → bytes_eq x n ≡ b → get (insert m n bytes) x ≡ cond b (Some bytes) (get m x)
get_by m x n bytes true e = ap (get (insert m n bytes)) (named x n e) ∙ get_same m n bytes
get_by m x n bytes false e = get_other m n bytes x e

-- ---- what a file holds after effects, by what it held

abbrev pub seen : List ℕ → List Effect → Option (List ℕ) → Option (List ℕ)
seen x [] v = v
seen x (Creates n ∷ es) v = seen x es (cond (bytes_eq x n) (Some []) v)
seen x (Appends n piece ∷ es) v = seen x es (cond (bytes_eq x n) (Some (unwrap_or v [] ++ piece)) v)

created : (m : Held) (x n : List ℕ) → get (emptied n m) x ≡ cond (bytes_eq x n) (Some []) (get m x)
created m x n = get_by m x n [] (bytes_eq x n) refl

-- (the bytes before are those of the file that is named, which is x where they are told)
added : (m : Held) (x n piece : List ℕ) (b : Bool) → bytes_eq x n ≡ b → get (appended n piece m) x ≡ cond b (Some (unwrap_or (get m x) [] ++ piece)) (get m x)
added m x n piece true e =
    get_by m x n (bytes_of m n ++ piece) true e ∙ ap (λ (k : List ℕ). Some (unwrap_or (get m k) [] ++ piece)) (sym (named x n e))
added m x n piece false e = get_by m x n (bytes_of m n ++ piece) false e

some_held : {a b : Held} → (let o : Option Held = Some a in o ≡ Some b) → a ≡ b
some_held e = cc

pub seen_is : (x : List ℕ) (es : List Effect) (m after : Held) → Some after ≡ all_done es (Some m) → get after x ≡ seen x es (get m x)
seen_is x [] m after e = ap (λ (h : Held). get h x) (some_held e)
seen_is x (Creates n ∷ es) m after e = seen_is x es (emptied n m) after e ∙ ap (seen x es) (created m x n)
seen_is x (Appends n piece ∷ es) m after e = seen_is x es (appended n piece m) after e ∙ ap (seen x es) (added m x n piece (bytes_eq x n) refl)

pub seen_both : (x : List ℕ) (es fs : List Effect) (v : Option (List ℕ)) → seen x (es ++ fs) v ≡ seen x fs (seen x es v)
seen_both x [] fs v = refl
seen_both x (Creates n ∷ es) fs v = seen_both x es fs _
seen_both x (Appends n piece ∷ es) fs v = seen_both x es fs _

-- an effect on the file itself, and one on another file
pub own_added : (x piece : List ℕ) (es : List Effect) (v : Option (List ℕ)) → seen x (Appends x piece ∷ es) v ≡ seen x es (Some (unwrap_or v [] ++ piece))
own_added x piece es v = ap (λ b. seen x es (cond b (Some (unwrap_or v [] ++ piece)) v)) (same_name x)

pub own_made : (x : List ℕ) (es : List Effect) (v : Option (List ℕ)) → seen x (Creates x ∷ es) v ≡ seen x es (Some [])
own_made x es v = ap (λ b. seen x es (cond b (Some []) v)) (same_name x)

pub other_added : (x n piece : List ℕ) (es : List Effect) (v : Option (List ℕ)) → AreOther x n → seen x (Appends n piece ∷ es) v ≡ seen x es v
other_added x n piece es v h = ap (λ b. seen x es (cond b (Some (unwrap_or v [] ++ piece)) v)) h

pub other_made : (x n : List ℕ) (es : List Effect) (v : Option (List ℕ)) → AreOther x n → seen x (Creates n ∷ es) v ≡ seen x es v
other_made x n es v h = ap (λ b. seen x es (cond b (Some []) v)) h

-- ---- effects on other files

abbrev pub Spares : List ℕ → List Effect → Type 0
Spares x [] = Unit {0}
Spares x (Creates n ∷ es) = AreOther x n × Spares x es
Spares x (Appends n piece ∷ es) = AreOther x n × Spares x es

pub spares_both : (x : List ℕ) (es fs : List Effect) → Spares x es → Spares x fs → Spares x (es ++ fs)
spares_both x [] fs h k = k
spares_both x (Creates n ∷ es) fs h k = (h.0, spares_both x es fs h.1 k)
spares_both x (Appends n piece ∷ es) fs h k = (h.0, spares_both x es fs h.1 k)

pub seen_spared : (x : List ℕ) (es : List Effect) (v : Option (List ℕ)) → Spares x es → seen x es v ≡ v
seen_spared x [] v h = refl
seen_spared x (Creates n ∷ es) v h = ap (λ b. seen x es (cond b (Some []) v)) h.0 ∙ seen_spared x es v h.1
seen_spared x (Appends n piece ∷ es) v h = ap (λ b. seen x es (cond b (Some (unwrap_or v [] ++ piece)) v)) h.0 ∙ seen_spared x es v h.1

-- ---- effects that were cut short

cut_spared : (x name : List ℕ) (es : List Effect) (m after : Held) → Spares x es → CutShort name es (Some m) (Some after) → get after x ≡ get m x
cut_spared x name [] m after h c = absurd c
cut_spared x name (Creates n ∷ es) m after h (inl p) = elim p.1 [ inl e ↦ ap (λ (k : Held). get k x) (some_held e) | inr e ↦ ap (λ (k : Held). get k x) (some_held e) ∙ get_other m n [] x h.0 ]
cut_spared x name (Creates n ∷ es) m after h (inr c) = cut_spared x name es (emptied n m) after h.1 c ∙ get_other m n [] x h.0
cut_spared x name (Appends n piece ∷ es) m after h (inl p) = let q = p.1 in ap (λ (k : Held). get k x) (some_held q.1) ∙ get_other m n (bytes_of m n ++ take q.0 piece) x h.0
cut_spared x name (Appends n piece ∷ es) m after h (inr c) = cut_spared x name es (appended n piece m) after h.1 c ∙ get_other m n (bytes_of m n ++ piece) x h.0

pub others_spared : (x name : List ℕ) (es : List Effect) (m after : Held) → Spares x es → CutShort name es (Some m) (Some after) → get after x ≡ get m x
others_spared x name es m after h c = cut_spared x name es m after h c

-- the file is only added to
abbrev pub Adds : List ℕ → List Effect → Type 0
Adds x [] = Unit {0}
Adds x (Creates n ∷ es) = AreOther x n × Adds x es
Adds x (Appends n piece ∷ es) = Adds x es

pub adds_both : (x : List ℕ) (es fs : List Effect) → Adds x es → Adds x fs → Adds x (es ++ fs)
adds_both x [] fs h k = k
adds_both x (Creates n ∷ es) fs h k = (h.0, adds_both x es fs h.1 k)
adds_both x (Appends n piece ∷ es) fs h k = adds_both x es fs h k

pub spares_adds : (x : List ℕ) (es : List Effect) → Spares x es → Adds x es
spares_adds x [] h = tt
spares_adds x (Creates n ∷ es) h = (h.0, spares_adds x es h.1)
spares_adds x (Appends n piece ∷ es) h = spares_adds x es h.1

pub some_list : {a b : List ℕ} → (let o : Option (List ℕ) = Some a in o ≡ Some b) → a ≡ b
some_list e = cc

-- what was there stays at the front
record Grown (c whole : List ℕ) : Type 0 where
  more : List ℕ
  is : whole ≡ c ++ more

grown : (x : List ℕ) (es : List Effect) (c whole : List ℕ) → Adds x es → seen x es (Some c) ≡ Some whole → Grown c whole
grown x [] c whole h e = record { more = []; is = sym (some_list e) ∙ sym (append-nil c) }
grown x (Creates n ∷ es) c whole h e = grown x es c whole h.1 (ap (λ b. seen x es (cond b (Some []) (Some c))) (sym h.0) ∙ e)
grown x (Appends n piece ∷ es) c whole h e = go (bytes_eq x n) e (λ d. grown x es d whole h)
  where
    go : (b : Bool) → seen x es (cond b (Some (c ++ piece)) (Some c)) ≡ Some whole → ((d : List ℕ) → seen x es (Some d) ≡ Some whole → Grown d whole) → Grown c whole
    go true k next = let g = next (c ++ piece) k in record { more = piece ++ g.more; is = g.is ∙ append_assoc c piece g.more }
    go false k next = next c k

take_front : (a b : List ℕ) → take (length a) (a ++ b) ≡ a
take_front [] b = refl
take_front (y ∷ ys) b = ap (λ (l : List ℕ). y ∷ l) (take_front ys b)

front_is : (a whole : List ℕ) → Grown a whole → a ≡ take (length a) whole
front_is a whole g = sym (take_front a g.more) ∙ ap (take (length a)) (sym g.is)

cut_whole : (n : ℕ) (bs : List ℕ) → (rest : List ℕ) × (bs ≡ take n bs ++ rest)
cut_whole zero bs = (bs, refl)
cut_whole (suc n) [] = ([], refl)
cut_whole (suc n) (b ∷ bs) = let r = cut_whole n bs in (r.0, ap (λ (l : List ℕ). b ∷ l) r.1)

part_grown : (c piece whole : List ℕ) (k : ℕ) → Grown (c ++ piece) whole → Grown (c ++ take k piece) whole
part_grown c piece whole k g =
    let r = cut_whole k piece in
    record {
      more = r.0 ++ g.more;
      is = g.is ∙ ap (λ (p : List ℕ). (c ++ p) ++ g.more) r.1 ∙ append_assoc c (take k piece ++ r.0) g.more ∙ ap (λ (l : List ℕ). c ++ l) (append_assoc (take k piece) r.0 g.more)
          ∙ sym (append_assoc c (take k piece) (r.0 ++ g.more));
    }

abbrev Front : List ℕ → Option (List ℕ) → Type 0
Front whole v = (k : ℕ) × (v ≡ Some (take k whole))

front_of : (a whole : List ℕ) (v : Option (List ℕ)) → v ≡ Some a → Grown a whole → Front whole v
front_of a whole v e g = (length a, e ∙ ap Some (front_is a whole g))

module _ (x name whole : List ℕ) where
  abbrev Cut : List Effect → Held → Held → Type 0
  Cut es m after = CutShort name es (Some m) (Some after)

  -- while the file is added to, it holds a front of what it is to hold
  adding : (es : List Effect) (m after : Held) (c : List ℕ) → Adds x es → get m x ≡ Some c → seen x es (Some c) ≡ Some whole → Cut es m after → Front whole (get after x)
  adding [] m after c h holds e cut = absurd cut
  adding (Creates n ∷ es) m after c h holds e (inl p) =
      let still = front_of c whole (get m x) holds (grown x (Creates n ∷ es) c whole h e) in
      let same : get after x ≡ get m x = elim p.1 [ inl k ↦ ap (λ (o : Held). get o x) (some_held k) | inr k ↦ ap (λ (o : Held). get o x) (some_held k) ∙ get_other m n [] x h.0 ] in
      (still.0, same ∙ still.1)
  adding (Creates n ∷ es) m after c h holds e (inr cut) =
      adding es (emptied n m) after c h.1 (get_other m n [] x h.0 ∙ holds) (ap (λ b. seen x es (cond b (Some []) (Some c))) (sym h.0) ∙ e) cut
  adding (Appends n piece ∷ es) m after c h holds e (inl p) = in_part (bytes_eq x n) refl (grown_by (bytes_eq x n) e)
    where
      in_part : (b : Bool) → bytes_eq x n ≡ b → Grown (cond b (c ++ piece) c) whole → Front whole (get after x)
      in_part true k g =
          let q = p.1 in
          front_of (c ++ take q.0 piece) whole (get after x)
          (ap (λ (o : Held). get o x) (some_held q.1) ∙ added m x n (take q.0 piece) true k ∙ ap (λ (v : Option (List ℕ)). Some (unwrap_or v [] ++ take q.0 piece)) holds)
          (part_grown c piece whole q.0 g)
      in_part false k g =
          let q = p.1 in
          front_of c whole (get after x) (ap (λ (o : Held). get o x) (some_held q.1) ∙ added m x n (take q.0 piece) false k ∙ holds) g

      grown_by : (b : Bool) → seen x es (cond b (Some (c ++ piece)) (Some c)) ≡ Some whole → Grown (cond b (c ++ piece) c) whole
      grown_by true k = grown x es (c ++ piece) whole h k
      grown_by false k = grown x es c whole h k
  adding (Appends n piece ∷ es) m after c h holds e (inr cut) = by (bytes_eq x n) refl e (λ d k l. adding es (appended n piece m) after d h k l cut)
    where
      by : (b : Bool) → bytes_eq x n ≡ b → seen x es (cond b (Some (c ++ piece)) (Some c)) ≡ Some whole
          → ((d : List ℕ) → get (appended n piece m) x ≡ Some d → seen x es (Some d) ≡ Some whole → Front whole (get after x)) → Front whole (get after x)
      by true k l next = next (c ++ piece) (added m x n piece true k ∙ ap (λ (v : Option (List ℕ)). Some (unwrap_or v [] ++ piece)) holds) l
      by false k l next = next c (added m x n piece false k ∙ holds) l

  -- a file that is made anew behind effects on others, and then added to
  pub making : (pre post : List Effect) (m after : Held) → Spares x pre → Adds x post → seen x post (Some []) ≡ Some whole → Cut (pre ++ Creates x ∷ post) m after
      → IsFrontOf whole (get m x) (get after x)
  making [] post m after h k e (inl p) = elim p.1 [ inl same ↦ inl (ap (λ (o : Held). get o x) (some_held same)) | inr new ↦ inr (0, ap (λ (o : Held). get o x) (some_held new) ∙ get_same m x []) ]
  making [] post m after h k e (inr cut) = inr (adding post (emptied x m) after [] k (get_same m x []) e cut)
  making (Creates n ∷ pre) post m after h k e (inl p) = inl (elim p.1 [ inl same ↦ ap (λ (o : Held). get o x) (some_held same) | inr new ↦ ap (λ (o : Held). get o x) (some_held new) ∙ get_other m n [] x h.0 ])
  making (Creates n ∷ pre) post m after h k e (inr cut) = as_before (get_other m n [] x h.0) (making pre post (emptied n m) after h.1 k e cut)
    where
      as_before : get (emptied n m) x ≡ get m x → IsFrontOf whole (get (emptied n m) x) (get after x) → IsFrontOf whole (get m x) (get after x)
      as_before s (inl q) = inl (q ∙ s)
      as_before s (inr q) = inr q
  making (Appends n piece ∷ pre) post m after h k e (inl p) = let q = p.1 in inl (ap (λ (o : Held). get o x) (some_held q.1) ∙ get_other m n (bytes_of m n ++ take q.0 piece) x h.0)
  making (Appends n piece ∷ pre) post m after h k e (inr cut) = as_before (get_other m n (bytes_of m n ++ piece) x h.0) (making pre post (appended n piece m) after h.1 k e cut)
    where
      as_before : get (appended n piece m) x ≡ get m x → IsFrontOf whole (get (appended n piece m) x) (get after x) → IsFrontOf whole (get m x) (get after x)
      as_before s (inl q) = inl (q ∙ s)
      as_before s (inr q) = inr q
