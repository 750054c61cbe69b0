-- Effects that were begun leave fronts.
use Rattle.std.proofs.Common.{◌≡◌, ℕ, Bool, true, false, ◌||◌, cond, List, [], ◌∷◌, ◌++◌, length, refl, sym, ap, subst, ◌∙◌, inl, inr, append_assoc, append-nil, true≢false}
use Rattle.std.proofs.Math.Seq.{take-length}
use Rattle.std.specs.Prelude.{Option, Some}
use Rattle.std.specs.Str.{bytes_eq}
use Rattle.std.specs.FinMap.{get}
use Rattle.kit_base.specs.Held.{Held}
use Rattle.kit_base.specs.Effects.{Effect, Creates, Appends, CutShort, written_file}
use Rattle.output_laws.specs.Standing.{AreOther, IsFrontOf}
use Rattle.output_laws.specs.Begun.{is_among, CreatesOnce, creates, bytes_in, AreBegun, AreFronts}
use Rattle.output_laws.proofs.Tracked.{seen, seen_is, seen_both, Spares, seen_spared, own_made, Adds, others_spared, making, named, same_name, some_list}

-- ---- names

either_true : (b c : Bool) → c ≡ true → b || c ≡ true
either_true true c h = refl
either_true false c h = h

neither : (b c : Bool) → b || c ≡ false → (b ≡ false) × (c ≡ false)
neither true c h = absurd (true≢false h)
neither false c h = (refl, h)

pub other_way : (a b : List ℕ) → AreOther a b → AreOther b a
other_way a b different = by (bytes_eq b a) refl
  where
    by : (v : Bool) → bytes_eq b a ≡ v → bytes_eq b a ≡ false
    by true e = absurd (true≢false (sym (same_name b) ∙ ap (λ (k : List ℕ). bytes_eq k b) (named b a e) ∙ different))
    by false e = e

-- of two names one is in a list, and the other is not
apart : (x n : List ℕ) (names : List (List ℕ)) → is_among x names ≡ true → is_among n names ≡ false → AreOther x n
apart x n names there not_there = by (bytes_eq x n) refl
  where
    by : (b : Bool) → bytes_eq x n ≡ b → bytes_eq x n ≡ false
    by true e = absurd (true≢false (sym there ∙ ap (λ (y : List ℕ). is_among y names) (named x n e) ∙ not_there))
    by false e = e

apart_back : (x n : List ℕ) (names : List (List ℕ)) → is_among x names ≡ false → is_among n names ≡ true → AreOther x n
apart_back x n names not_there there = by (bytes_eq x n) refl
  where
    by : (b : Bool) → bytes_eq x n ≡ b → bytes_eq x n ≡ false
    by true e = absurd (true≢false (sym there ∙ ap (λ (y : List ℕ). is_among y names) (sym (named x n e)) ∙ not_there))
    by false e = e

pub first_among : (name : List ℕ) (names : List (List ℕ)) → is_among name (name ∷ names) ≡ true
first_among name names = ap (λ b. b || is_among name names) (same_name name)

pub later_among : (name other : List ℕ) (names : List (List ℕ)) → is_among name names ≡ true → is_among name (other ∷ names) ≡ true
later_among name other names there = either_true (bytes_eq name other) (is_among name names) there

pub not_among : (name other : List ℕ) (names : List (List ℕ)) → AreOther name other → is_among name names ≡ false → is_among name (other ∷ names) ≡ false
not_among name other names h k = λ i. h i || k i

-- a file is written, and then the others
pub written_once : (made : List (List ℕ)) (name bytes : List ℕ) (es : List Effect) → is_among name made ≡ false → CreatesOnce (name ∷ made) es
    → CreatesOnce made (written_file name bytes ++ es)
written_once made name bytes es new rest = (new, (first_among name made, rest))

-- ---- where in the list a file is created

-- one that was made before is only added to
made_adds : (x : List ℕ) (made : List (List ℕ)) (es : List Effect) → is_among x made ≡ true → CreatesOnce made es → Adds x es
made_adds x made [] there once = tt
made_adds x made (Creates n ∷ es) there once = (apart x n made there once.0, made_adds x (n ∷ made) es (later_among x n made there) once.1)
made_adds x made (Appends n piece ∷ es) there once = made_adds x made es there once.1

-- one that is not made at all is spared
unmade_spares : (x : List ℕ) (made : List (List ℕ)) (es : List Effect) → is_among x made ≡ false → creates x es ≡ false → CreatesOnce made es → Spares x es
unmade_spares x made [] new none once = tt
unmade_spares x made (Creates n ∷ es) new none once =
    let both = neither (bytes_eq x n) (creates x es) none in
    (both.0, unmade_spares x (n ∷ made) es (not_among x n made both.0 new) both.1 once.1)
unmade_spares x made (Appends n piece ∷ es) new none once = (apart_back x n made new once.0, unmade_spares x made es new none once.1)

-- and one that is spared is not made
pub spares_unmade : (x : List ℕ) (es : List Effect) → Spares x es → creates x es ≡ false
spares_unmade x [] h = refl
spares_unmade x (Creates n ∷ es) h = λ i. h.0 i || spares_unmade x es h.1 i
spares_unmade x (Appends n piece ∷ es) h = spares_unmade x es h.1

pub created_first : (x : List ℕ) (es : List Effect) → creates x (Creates x ∷ es) ≡ true
created_first x es = ap (λ b. b || creates x es) (same_name x)

pub created_later : (x : List ℕ) (es fs : List Effect) → creates x fs ≡ true → creates x (es ++ fs) ≡ true
created_later x [] fs h = h
created_later x (Creates n ∷ es) fs h = either_true (bytes_eq x n) (creates x (es ++ fs)) (created_later x es fs h)
created_later x (Appends n piece ∷ es) fs h = created_later x es fs h

-- it is created behind effects on others, and then added to
record Parted (x : List ℕ) (es : List Effect) : Type 0 where
  pre : List Effect
  post : List Effect
  is : es ≡ pre ++ Creates x ∷ post
  spares : Spares x pre
  adds : Adds x post
  bytes : bytes_in x es ≡ bytes_in x post

behind_creation : (x n : List ℕ) (es : List Effect) → AreOther x n → Parted x es → Parted x (Creates n ∷ es)
behind_creation x n es h p = record {
  pre = Creates n ∷ p.pre;
  post = p.post;
  is = ap (λ (l : List Effect). Creates n ∷ l) p.is;
  spares = (h, p.spares);
  adds = p.adds;
  bytes = p.bytes;
}

other_bytes : (x n piece : List ℕ) (es : List Effect) → AreOther x n → bytes_in x (Appends n piece ∷ es) ≡ bytes_in x es
other_bytes x n piece es h = ap (λ b. cond b (piece ++ bytes_in x es) (bytes_in x es)) h

behind_append : (x n piece : List ℕ) (es : List Effect) → AreOther x n → Parted x es → Parted x (Appends n piece ∷ es)
behind_append x n piece es h p = record {
  pre = Appends n piece ∷ p.pre;
  post = p.post;
  is = ap (λ (l : List Effect). Appends n piece ∷ l) p.is;
  spares = (h, p.spares);
  adds = p.adds;
  bytes = other_bytes x n piece es h ∙ p.bytes;
}

parted : (x : List ℕ) (made : List (List ℕ)) (es : List Effect) → is_among x made ≡ false → creates x es ≡ true → CreatesOnce made es → Parted x es
parted x made [] new there once = absurd (true≢false (sym there))
parted x made (Creates n ∷ es) new there once = by (bytes_eq x n) refl there (λ k l. parted x (n ∷ made) es k l once.1)
  where
    by : (b : Bool) → bytes_eq x n ≡ b → b || creates x es ≡ true → (is_among x (n ∷ made) ≡ false → creates x es ≡ true → Parted x es) → Parted x (Creates n ∷ es)
    by true e there next = record {
      pre = [];
      post = es;
      is = ap (λ (k : List ℕ). Creates k ∷ es) (sym (named x n e));
      spares = tt;
      adds = made_adds x (n ∷ made) es (ap (λ b. b || is_among x made) e) once.1;
      bytes = refl;
    }
    by false e there next = behind_creation x n es e (next (not_among x n made e new) there)
parted x made (Appends n piece ∷ es) new there once = behind_append x n piece es (apart_back x n made new once.0) (parted x made es new there once.1)

-- ---- the bytes of a file that is added to

seen_added : (x : List ℕ) (es : List Effect) (c : List ℕ) → Adds x es → seen x es (Some c) ≡ Some (c ++ bytes_in x es)
seen_added x [] c h = ap Some (sym (append-nil c))
seen_added x (Creates n ∷ es) c h = ap (λ b. seen x es (cond b (Some []) (Some c))) h.0 ∙ seen_added x es c h.1
seen_added x (Appends n piece ∷ es) c h = by (bytes_eq x n) (λ d. seen_added x es d h)
  where
    by : (b : Bool) → ((d : List ℕ) → seen x es (Some d) ≡ Some (d ++ bytes_in x es))
        → seen x es (cond b (Some (c ++ piece)) (Some c)) ≡ Some (c ++ cond b (piece ++ bytes_in x es) (bytes_in x es))
    by true next = next (c ++ piece) ∙ ap Some (append_assoc c piece (bytes_in x es))
    by false next = next c

pub own_bytes : (x whole : List ℕ) (es : List Effect) → Adds x es → seen x es (Some []) ≡ Some whole → bytes_in x es ≡ whole
own_bytes x whole es h e = some_list (sym (seen_added x es [] h) ∙ e)

pub bytes_behind : (x : List ℕ) (es fs : List Effect) → Spares x es → bytes_in x (es ++ fs) ≡ bytes_in x fs
bytes_behind x [] fs h = refl
bytes_behind x (Creates n ∷ es) fs h = bytes_behind x es fs h.1
bytes_behind x (Appends n piece ∷ es) fs h = other_bytes x n piece (es ++ fs) h.0 ∙ bytes_behind x es fs h.1

-- ---- the law

whole_front : (whole : List ℕ) (before after : Option (List ℕ)) → after ≡ Some whole → IsFrontOf whole before after
whole_front whole before after is = inr (length whole, is ∙ ap Some (sym (take-length whole)))

module _ (es : List Effect) (before after : Held) (once : CreatesOnce [] es) where
  module _ (x : List ℕ) (p : Parted x es) where
    whole_seen : seen x p.post (Some []) ≡ Some (bytes_in x es)
    whole_seen = seen_added x p.post [] p.adds ∙ ap Some (sym p.bytes)

    all_seen : (v : Option (List ℕ)) → seen x es v ≡ Some (bytes_in x es)
    all_seen v = ap (λ (l : List Effect). seen x l v) p.is ∙ seen_both x p.pre (Creates x ∷ p.post) v ∙ own_made x p.post (seen x p.pre v) ∙ whole_seen

    front : AreBegun es before after → IsFrontOf (bytes_in x es) (get before x) (get after x)
    front (inl is) = whole_front (bytes_in x es) (get before x) (get after x) (seen_is x es before after is ∙ all_seen (get before x))
    front (inr cut) =
        making x cut.0 (bytes_in x es) p.pre p.post before after p.spares p.adds whole_seen (subst (λ (l : List Effect). CutShort cut.0 l (Some before) (Some after)) p.is cut.1)

  other : (x : List ℕ) → Spares x es → AreBegun es before after → get after x ≡ get before x
  other x h (inl is) = seen_is x es before after is ∙ seen_spared x es (get before x) h
  other x h (inr cut) = others_spared x cut.0 es before after h cut.1

  pub begun_fronts : AreBegun es before after → AreFronts es before after
  begun_fronts begun = record {
    created = λ x there. front x (parted x [] es refl there once) begun;
    others = λ x none. other x (unmade_spares x [] es refl none once) begun;
  }
