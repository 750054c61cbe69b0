-- What the machine holds at the opening.
use Rattle.std.proofs.Common.{◌≡◌, ℕ, zero, suc, ◌+◌, ◌-◌, ◌<◌, ◌≤◌, ◌⊎◌, inl, inr, true, false, List, [], ◌∷◌, ◌++◌, length, Option, Some, None, refl, sym, ap, ◌∙◌, subst, arith, length-append}
use Rattle.std.specs.Prelude.{get_or, slice_index, map, sum, nat_lt, is_some}
use Rattle.std.proofs.lemmas.List.{get_or-map, length-map, length-replicate, get_or-replicate, get_or_append_left, get_or-append_right}
use Rattle.std.proofs.lemmas.List.Sums.{sum_by-cons}
use Rattle.std.proofs.lemmas.Bool.Decides.{nat_tests}
use Rattle.v32_isa.specs.Runs.{opening_memory, card_word}
use Rattle.obj_mem.specs.declared.cell.Cell.TheVariants.{Unwritten, Num}
use Rattle.obj_mem.specs.Objects.{ObjectT, ended, object_at, cell_at, extent, card_words, global_object, literal_object, card_object, opening_objects}
use Rattle.obj_mem.specs.Runs.{IsCard, opening_store}
use Rattle.asm_laws.specs.Holds.{Setting, sizes, Lives, wide, Stands, InRegion, CardAs, HoldsAt}
use Rattle.asm_laws.specs.Linked.{first_context, first_words}
use Rattle.asm_laws.specs.Laid.{spread, literal_sizes, Laid}
use Rattle.asm_laws.proofs.Lists.{below_or_not, lives_below}

pub spread_low : (ns : List ℕ) (p k : ℕ) → p ≤ spread ns p k
spread_low [] p k = omega arith
spread_low (n ∷ ns) p zero = omega arith
spread_low (n ∷ ns) p (suc k) = let r = spread_low ns (p + n) k in omega (arith, r)

pub spread_in : (ns : List ℕ) (p k : ℕ) → k < length ns → spread ns p k + get_or ns k 0 ≤ p + sum ns
spread_in [] p k lt = absurd (omega (arith, lt))
spread_in (n ∷ ns) p zero lt = let e = sum_by-cons (λ x. x) n ns in omega (arith, e)
spread_in (n ∷ ns) p (suc k) lt = let r = spread_in ns (p + n) k (omega (arith, lt)) in let e = sum_by-cons (λ x. x) n ns in omega (arith, r, e)

spread_apart : (ns : List ℕ) (p k j i h : ℕ) → k < length ns → j < length ns → i < get_or ns k 0 → h < get_or ns j 0 → spread ns p k + i ≡ spread ns p j + h → k ≡ j
spread_apart [] p k j i h a b c d e = absurd (omega (arith, a))
spread_apart (n ∷ ns) p zero zero i h a b c d e = refl
spread_apart (n ∷ ns) p zero (suc j) i h a b c d e = let r = spread_low ns (p + n) j in absurd (omega (arith, r, c, e))
spread_apart (n ∷ ns) p (suc k) zero i h a b c d e = let r = spread_low ns (p + n) k in absurd (omega (arith, r, d, e))
spread_apart (n ∷ ns) p (suc k) (suc j) i h a b c d e = ap suc (spread_apart ns (p + n) k j i h (omega (arith, a)) (omega (arith, b)) c d e)

-- ---- memory at the opening

low_zero : (words : List ℕ) (card : Option (List ℕ)) (q : ℕ) → q < 0x20000000 → opening_memory words card q ≡ 0
unfolding opening_memory
low_zero words card q lt = let e : nat_lt q 0x20000000 ≡ true = grind (arith, nat_tests) in rw e refl

text_word : (words : List ℕ) (card : Option (List ℕ)) (q : ℕ) → 0x20000000 ≤ q → q < 0x30000000 → opening_memory words card q ≡ slice_index words (q - 0x20000000)
unfolding opening_memory
text_word words card q lo hi = let e1 : nat_lt q 0x20000000 ≡ false = grind (arith, nat_tests) in let e2 : nat_lt q 0x30000000 ≡ true = grind (arith, nat_tests) in rw (e1, e2) refl

card_at : (words : List ℕ) (card : Option (List ℕ)) (i : ℕ) → opening_memory words card (0x30000000 + i) ≡ card_word card i
unfolding opening_memory
card_at words card i =
    let e1 : nat_lt (0x30000000 + i) 0x20000000 ≡ false = grind (arith, nat_tests) in
    let e2 : nat_lt (0x30000000 + i) 0x30000000 ≡ false = grind (arith, nat_tests) in
    let e3 : 0x30000000 + i - 0x30000000 ≡ i = omega arith in
    rw (e1, e2, e3) refl

-- ---- which object has a number

pub data Which (gs : List ℕ) (ts : List (List ℕ)) (card : Option (List ℕ)) (o : ℕ) : Type 0 where
  global : o < length gs → object_at (opening_objects gs ts card) o ≡ global_object (get_or gs o 0) → Which gs ts card o
  literal : (k : ℕ) → k < length ts → o ≡ length gs + k → object_at (opening_objects gs ts card) o ≡ literal_object (get_or ts k []) → Which gs ts card o
  the_card : o ≡ length gs + length ts → object_at (opening_objects gs ts card) o ≡ card_object card → Which gs ts card o
  none : object_at (opening_objects gs ts card) o ≡ ended → Which gs ts card o

which : (gs : List ℕ) (ts : List (List ℕ)) (card : Option (List ℕ)) (o : ℕ) → Which gs ts card o
which gs ts card o = elim (below_or_not o (length gs)) [
  | inl b ↦ global b (get_or_append_left (map global_object gs) (map literal_object ts ++ card_object card ∷ []) ended o (omega (arith, b, length-map gs global_object)) ∙ get_or-map global_object gs o 0 ended b)
  | inr b ↦ second (o - length gs) (omega (arith, b)) (below_or_not (o - length gs) (length ts))
]
  where
    right : (k : ℕ) → o ≡ length gs + k → object_at (opening_objects gs ts card) o ≡ get_or (map literal_object ts ++ card_object card ∷ []) k ended
    right k e =
        let r = get_or-append_right (map global_object gs) (map literal_object ts ++ card_object card ∷ []) (length gs) o ended (length-map gs global_object) (omega (arith, e)) in
        let d : o - length gs ≡ k = omega (arith, e) in
        r ∙ ap (λ z. get_or (map literal_object ts ++ card_object card ∷ []) z ended) d

    third : (k j : ℕ) → o ≡ length gs + k → k ≡ length ts + j → Which gs ts card o
    third k zero e q = the_card (omega (arith, e, q)) (right k e ∙ get_or-append_right (map literal_object ts) (card_object card ∷ []) (length ts) k ended (length-map ts literal_object) (omega (arith, q)) ∙ ap (λ z. get_or (card_object card ∷ []) z ended) (let d : k - length ts ≡ 0 = omega (arith, q) in d))
    third k (suc j) e q = none (right k e ∙ get_or-append_right (map literal_object ts) (card_object card ∷ []) (length ts) k ended (length-map ts literal_object) (omega (arith, q)) ∙ ap (λ z. get_or (card_object card ∷ []) z ended) (let d : k - length ts ≡ suc j = omega (arith, q) in d))

    second : (k : ℕ) → o ≡ length gs + k → (k < length ts) ⊎ (length ts ≤ k) → Which gs ts card o
    second k e (inl b) = literal k b e (right k e ∙ get_or_append_left (map literal_object ts) (card_object card ∷ []) ended k (omega (arith, b, length-map ts literal_object)) ∙ get_or-map literal_object ts k [] ended b)
    second k e (inr b) = third k (k - length ts) e (omega (arith, b))

wide_literal : (t : List ℕ) → extent (literal_object t) ≡ length t + 1
wide_literal t = length-map (t ++ 0 ∷ []) Num ∙ length-append t (0 ∷ [])

literal_size : (ts : List (List ℕ)) (k : ℕ) → k < length ts → get_or (literal_sizes ts) k 0 ≡ length (get_or ts k []) + 1
literal_size ts k lt = get_or-map (λ t. length t + 1) ts k [] 0 lt

wide_card : (card : Option (List ℕ)) → extent (card_object card) ≡ card_words
wide_card None = refl
wide_card (Some ws) = refl

module _ (S : Setting) (boot : ℕ) (card : Option (List ℕ)) (ok : IsCard card) (laid : Laid S boot card) where
  abbrev gs : List ℕ
  gs = S.code.globals

  abbrev ts : List (List ℕ)
  ts = S.code.literals

  abbrev os : List ObjectT
  os = opening_objects S.code.globals S.code.literals card

  abbrev W : ℕ → Type 0
  W o = Which S.code.globals S.code.literals card o

  count : length os ≡ length gs + length ts + 1
  count = let a = length-append (map global_object gs) (map literal_object ts ++ card_object card ∷ []) in let b = length-append (map literal_object ts) (card_object card ∷ []) in let c = length-map gs global_object in let d = length-map ts literal_object in omega (arith, a, b, c, d)

  not_none : (o : ℕ) → object_at os o ≡ ended → Lives os o → ⊥
  not_none o e l = let q : false ≡ true = sym (ap (λ x. x.lives) e) ∙ l in cc

  -- where the words of an object are
  global_in : (o i : ℕ) → o < length gs → object_at os o ≡ global_object (get_or gs o 0) → i < wide os o → S.fixed o + i < sum gs
  global_in o i b e lt = let w : wide os o ≡ get_or gs o 0 = ap extent e ∙ length-replicate (get_or gs o 0) (Num 0) in let r = spread_in gs 0 o b in let f = laid.globals o b in omega (arith, w, r, f, lt)

  literal_wide : (o k : ℕ) → object_at os o ≡ literal_object (get_or ts k []) → wide os o ≡ length (get_or ts k []) + 1
  literal_wide o k e = ap extent e ∙ wide_literal (get_or ts k [])

  literal_at : (o k : ℕ) → k < length ts → o ≡ length gs + k → S.fixed o ≡ spread (literal_sizes ts) laid.first_literal k
  literal_at o k b q = ap S.fixed q ∙ laid.literals k b

  literal_ends : (o k : ℕ) → k < length ts → o ≡ length gs + k → object_at os o ≡ literal_object (get_or ts k []) → (0x20000000 ≤ S.fixed o) × (S.fixed o + wide os o ≤ 0x20000000 + length S.console.words)
  literal_ends o k b q e =
      let w = literal_wide o k e in
      let z = literal_size ts k b in
      let n = length-map ts (λ t. length t + 1) in
      let r = spread_in (literal_sizes ts) laid.first_literal k (omega (arith, b, n)) in
      let lo = spread_low (literal_sizes ts) laid.first_literal k in
      let f = literal_at o k b q in
      let u = laid.upto in
      let v = laid.from in
      (omega (arith, f, lo, v), omega (arith, f, w, z, r, u))

  card_fixed : (o : ℕ) → o ≡ length gs + length ts → S.fixed o ≡ 0x30000000
  card_fixed o q = ap S.fixed q ∙ laid.card_at

  region : (o i : ℕ) → i < wide os o → W o → Lives os o → InRegion S.console (object_at os o).kind (S.fixed o + i)
  region o i lt (global b e) l = let g = global_in o i b e lt in let u = laid.few_globals in subst (λ x. InRegion S.console x.kind (S.fixed o + i)) (sym e) (omega (arith, g, u))
  region o i lt (literal k b q e) l = let r = literal_ends o k b q e in subst (λ x. InRegion S.console x.kind (S.fixed o + i)) (sym e) (omega (arith, r.0), omega (arith, r.1, lt))
  region o i lt (the_card q e) l = let w : wide os o ≡ card_words = ap extent e ∙ wide_card card in let f = card_fixed o q in subst (λ x. InRegion S.console x.kind (S.fixed o + i)) (sym e) (card_region card i (omega (arith, lt, w)) f)
    where
      card_region : (c : Option (List ℕ)) (i : ℕ) → i < card_words → S.fixed o ≡ 0x30000000 → InRegion S.console (card_object c).kind (S.fixed o + i)
      card_region None i lt f = (omega (arith, f), omega (arith, f, lt))
      card_region (Some ws) i lt f = (omega (arith, f), omega (arith, f, lt))
  region o i lt (none e) l = absurd (not_none o e l)

  ends : (o : ℕ) → W o → Lives os o → S.fixed o + wide os o ≤ 0x40000000
  ends o (global b e) l = let w : wide os o ≡ get_or gs o 0 = ap extent e ∙ length-replicate (get_or gs o 0) (Num 0) in let r = spread_in gs 0 o b in let f = laid.globals o b in let u = laid.few_globals in omega (arith, w, r, f, u)
  ends o (literal k b q e) l = let r = literal_ends o k b q e in let u = laid.short in omega (arith, r.1, u)
  ends o (the_card q e) l = let w : wide os o ≡ card_words = ap extent e ∙ wide_card card in let f = card_fixed o q in omega (arith, w, f)
  ends o (none e) l = absurd (not_none o e l)

  cards : (o : ℕ) → W o → Lives os o → CardAs S.console (object_at os o).kind (object_at os o).cells
  cards o (global b e) l = subst (λ x. CardAs S.console x.kind x.cells) (sym e) tt
  cards o (literal k b q e) l = subst (λ x. CardAs S.console x.kind x.cells) (sym e) tt
  cards o (the_card q e) l = subst (λ x. CardAs S.console x.kind x.cells) (sym e) (go card ok laid.has_card)
    where
      go : (c : Option (List ℕ)) → IsCard c → S.console.has_card ≡ is_some c → CardAs S.console (card_object c).kind (card_object c).cells
      go None n h = h
      go (Some []) n h = absurd (omega (arith, n))
      go (Some (w ∷ ws)) n h = (h, ap suc (length-map ws Num) ∙ n)
  cards o (none e) l = absurd (not_none o e l)

  outer : (o i : ℕ) → i < wide os o → W o → Lives os o → (S.fixed o + i < (sizes S).globals) ⊎ (0x400000 ≤ S.fixed o + i)
  outer o i lt (global b e) l = inl (global_in o i b e lt)
  outer o i lt (literal k b q e) l = let r = literal_ends o k b q e in inr (omega (arith, r.0))
  outer o i lt (the_card q e) l = let f = card_fixed o q in inr (omega (arith, f))
  outer o i lt (none e) l = absurd (not_none o e l)

  apart : (o p i j : ℕ) → W o → W p → Lives os o → Lives os p → i < wide os o → j < wide os p → S.fixed o + i ≡ S.fixed p + j → o ≡ p
  apart o p i j (none e) w l m lt lt' q = absurd (not_none o e l)
  apart o p i j v (none e) l m lt lt' q = absurd (not_none p e m)
  apart o p i j (global b e) (global c f) l m lt lt' q =
      let w : wide os o ≡ get_or gs o 0 = ap extent e ∙ length-replicate (get_or gs o 0) (Num 0) in
      let x : wide os p ≡ get_or gs p 0 = ap extent f ∙ length-replicate (get_or gs p 0) (Num 0) in
      let g = laid.globals o b in
      let h = laid.globals p c in
      spread_apart gs 0 o p i j b c (omega (arith, lt, w)) (omega (arith, lt', x)) (omega (arith, q, g, h))
  apart o p i j (global b e) (literal k c r f) l m lt lt' q = let g = global_in o i b e lt in let h = literal_ends p k c r f in let u = laid.few_globals in absurd (omega (arith, g, h.0, u, q))
  apart o p i j (global b e) (the_card r f) l m lt lt' q = let g = global_in o i b e lt in let h = card_fixed p r in let u = laid.few_globals in absurd (omega (arith, g, h, u, q))
  apart o p i j (literal k c r f) (global b e) l m lt lt' q = let g = global_in p j b e lt' in let h = literal_ends o k c r f in let u = laid.few_globals in absurd (omega (arith, g, h.0, u, q))
  apart o p i j (literal k b r e) (literal k2 c r2 f) l m lt lt' q =
      let n = length-map ts (λ t. length t + 1) in
      let w = literal_wide o k e in
      let x = literal_wide p k2 f in
      let s1 = literal_size ts k b in
      let s2 = literal_size ts k2 c in
      let g = literal_at o k b r in
      let h = literal_at p k2 c r2 in
      let d = spread_apart (literal_sizes ts) laid.first_literal k k2 i j (omega (arith, b, n)) (omega (arith, c, n)) (omega (arith, lt, w, s1)) (omega (arith, lt', x, s2)) (omega (arith, q, g, h)) in
      omega (arith, d, r, r2)
  apart o p i j (literal k b r e) (the_card r2 f) l m lt lt' q = let g = literal_ends o k b r e in let h = card_fixed p r2 in let u = laid.short in absurd (omega (arith, g.1, h, u, q, lt))
  apart o p i j (the_card r f) (global b e) l m lt lt' q = let g = global_in p j b e lt' in let h = card_fixed o r in let u = laid.few_globals in absurd (omega (arith, g, h, u, q))
  apart o p i j (the_card r f) (literal k b r2 e) l m lt lt' q = let g = literal_ends p k b r2 e in let h = card_fixed o r in let u = laid.short in absurd (omega (arith, g.1, h, u, q, lt'))
  apart o p i j (the_card r e) (the_card r2 f) l m lt lt' q = omega (arith, r, r2)

  abbrev memory : ℕ → ℕ
  memory = opening_memory S.console.words card

  cell : (o i : ℕ) → W o → i < length (object_at os o).cells → Stands (length os) S.fixed (cell_at (object_at os o) i) (memory (S.fixed o + i))
  cell o i (global b e) lt =
      let n = length-replicate (get_or gs o 0) (Num 0) in
      let il : i < get_or gs o 0 = let q = ap (λ x. length x.cells) e in omega (arith, lt, q, n) in
      let c : cell_at (object_at os o) i ≡ Num 0 = ap (λ x. cell_at x i) e ∙ get_or-replicate (get_or gs o 0) i (Num 0) Unwritten il in
      let r = spread_in gs 0 o b in
      let f = laid.globals o b in
      let u = laid.few_globals in
      subst (λ z. Stands (length os) S.fixed z (memory (S.fixed o + i))) (sym c) (low_zero S.console.words card (S.fixed o + i) (omega (arith, il, r, f, u)))
  cell o i (literal k b q e) lt =
      let t = get_or ts k [] in
      let n = length-map (t ++ 0 ∷ []) Num in
      let m = length-append t (0 ∷ []) in
      let il : i < length (t ++ 0 ∷ []) = let z = ap (λ x. length x.cells) e in omega (arith, lt, z, n) in
      let c : cell_at (object_at os o) i ≡ Num (get_or (t ++ 0 ∷ []) i 0) = ap (λ x. cell_at x i) e ∙ get_or-map Num (t ++ 0 ∷ []) i 0 Unwritten il in
      let r = literal_ends o k b q e in
      let w = literal_wide o k e in
      let u = laid.short in
      let f = literal_at o k b q in
      let a = S.fixed o + i in
      let v : memory a ≡ get_or (t ++ 0 ∷ []) i 0 = text_word S.console.words card a (omega (arith, r.0)) (omega (arith, r.1, w, m, il, u)) ∙ laid.literal_words k i (a - 0x20000000) b (omega (arith, il, m)) (omega (arith, f, r.0)) in
      subst (λ z. Stands (length os) S.fixed z (memory (S.fixed o + i))) (sym c) v
  cell o i (the_card q e) lt = subst (λ x. Stands (length os) S.fixed (cell_at x i) (memory (S.fixed o + i))) (sym e) (go card (subst (λ x. i < length x.cells) e lt) (ap (λ z. memory (z + i)) (card_fixed o q) ∙ card_at S.console.words card i))
    where
      go : (c : Option (List ℕ)) → i < length (card_object c).cells → opening_memory S.console.words card (S.fixed o + i) ≡ card_word c i → Stands (length (opening_objects S.code.globals S.code.literals card)) S.fixed (cell_at (card_object c) i) (opening_memory S.console.words card (S.fixed o + i))
      go None lt m = absurd (omega (arith, lt))
      go (Some ws) lt m = let n = length-map ws Num in subst (λ z. Stands (length (opening_objects S.code.globals S.code.literals card)) S.fixed z (opening_memory S.console.words card (S.fixed o + i))) (sym (get_or-map Num ws i 0 Unwritten (omega (arith, lt, n)))) m
  cell o i (none e) lt = let z = ap (λ x. length x.cells) e in absurd (omega (arith, lt, z))

  living : (o i : ℕ) → W o → i < length (object_at os o).cells → Lives os o
  living o i (global b e) lt = ap (λ x. x.lives) e
  living o i (literal k b q e) lt = ap (λ x. x.lives) e
  living o i (the_card q e) lt = ap (λ x. x.lives) e ∙ go card
    where
      go : (c : Option (List ℕ)) → (card_object c).lives ≡ true
      go None = refl
      go (Some ws) = refl
  living o i (none e) lt = let z = ap (λ x. length x.cells) e in absurd (omega (arith, lt, z))

  abbrev here : (o : ℕ) → W o
  here o = which S.code.globals S.code.literals card o

  -- the machine holds the opening store
  pub opens : (answers : List ℕ) → HoldsAt S (first_context S boot card) (opening_store S.code.globals S.code.literals answers card) (λ q. Unwritten) S.fixed (first_words S card)
  opens answers = record {
    temps = record { in_regs = λ r lt. tt; in_slots = λ k has. tt };
    ranges = record {
      inside = λ o i l lt. region o i lt (here o) l;
      ends = λ o l. ends o (here o) l;
      cards = λ o l. cards o (here o) l;
      apart = λ o p i j l m lt lt' e. apart o p i j (here o) (here p) l m lt lt' e;
      outer = λ o i b l lt. outer o i lt (here o) l;
      mine = λ o b l. let z = lives_below os o l in absurd (omega (arith, b, z));
      local = λ k o lt e. absurd (omega (arith, lt));
      local_wide = λ k o lt e l. absurd (omega (arith, lt));
      first_in = omega arith;
      old_lives = λ o b l. (l, refl);
      old_place = λ o b. refl;
      kept_apart = λ o i l lt. refl;
    };
    objects = record { at = λ o i l lt. cell o i (here o) lt; lives = λ o i lt. living o i (here o) lt };
    kept = record {
      fixed = λ o lt. let c = laid.count in (omega (arith, lt, c, count), refl);
      same = λ a e. cc;
      above = λ a e. cc;
    };
    stack = record {
      called_as = sym laid.called_as;
      locals_are = sym (ap length laid.locals);
      base_is = refl;
      top_is = let d = laid.depth in omega (arith, d);
      low = let u = laid.few_globals in let z = laid.size in omega (arith, u, z);
      high = omega arith;
      used_is = let d = laid.depth in omega (arith, d);
    };
  }
