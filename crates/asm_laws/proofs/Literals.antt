-- Literals among the words.
use Rattle.std.proofs.Common.{◌≡◌, ℕ, zero, suc, ◌+◌, ◌<◌, List, [], ◌∷◌, ◌++◌, length, ap, ◌∙◌, arith}
use Rattle.std.specs.Prelude.{get_or, slice_index, map, sum, false}
use Rattle.std.proofs.Math.Seq.{get_or-append_seam}
use Rattle.std.proofs.lemmas.List.Sums.{sum_by-cons}
use Rattle.asm_items.specs.declared.item.AsmItem.TheVariants as item
use Rattle.asm_laws.specs.Placing.{WordsAt}
use Rattle.asm_laws.specs.Names.{literal_label}
use Rattle.asm_laws.specs.Operations.{literals_items}
use Rattle.asm_laws.specs.Standing.{Stand}
use Rattle.asm_laws.proofs.LinksStep.{part}
use Rattle.asm_laws.specs.Operations.{Frame}
use Rattle.asm_laws.specs.Laid.{spread, literal_sizes}

word_there : (words : List ℕ) (pc w next j : ℕ) → WordsAt words pc (w ∷ []) next → 0x20000000 + j ≡ pc → slice_index words j ≡ w
word_there words pc w next j at e =
    let d : j ≡ length at.front = (let p = at.place_is in omega (arith, e, p)) in
    ap (slice_index words) d ∙ ap (λ l. slice_index l (length at.front)) at.words_are ∙ get_or-append_seam at.front w at.rest 0

module _ (words : List ℕ) (address : List ℕ → ℕ) where
  pub stand_text : (text : List ℕ) (pc e : ℕ) → Stand words address pc (map item.Integer text ++ item.Integer 0 ∷ []) e → (e ≡ pc + (length text + 1)) × ((i j : ℕ) → i < length text + 1 → 0x20000000 + j ≡ pc + i → slice_index words j ≡ get_or (text ++ 0 ∷ []) i 0)
  stand_text [] pc e h = (let n = h.1.next_is in omega (arith, n, h.2), λ i j lt q. first i j (omega (arith, lt)) q)
    where
      first : (i j : ℕ) → i < 1 → 0x20000000 + j ≡ pc + i → slice_index words j ≡ get_or (0 ∷ []) i 0
      first zero j lt q = word_there words pc 0 h.0 j h.1 (omega (arith, q))
      first (suc i) j lt q = absurd (omega (arith, lt))
  stand_text (w ∷ text) pc e h =
      let n = h.1.next_is in
      let r = stand_text text h.0 e h.2 in
      (let r0 = r.0 in omega (arith, n, r0), λ i j lt q. go n r.1 i j lt q)
    where
      go : h.0 ≡ pc + 1 → ((i j : ℕ) → i < length text + 1 → 0x20000000 + j ≡ h.0 + i → slice_index words j ≡ get_or (text ++ 0 ∷ []) i 0) → (i j : ℕ) → i < length (w ∷ text) + 1 → 0x20000000 + j ≡ pc + i → slice_index words j ≡ get_or (w ∷ (text ++ 0 ∷ [])) i 0
      go n r zero j lt q = word_there words pc w h.0 j h.1 (omega (arith, q))
      go n r (suc i) j lt q = r i j (omega (arith, lt)) (omega (arith, q, n))

  pub record Texts (texts : List (List ℕ)) (k pc e : ℕ) : Type 0 where
    pub ends : e ≡ pc + sum (literal_sizes texts)
    pub labels : (n : ℕ) → n < length texts → address (literal_label (k + n)) ≡ spread (literal_sizes texts) pc n
    pub there : (n i j : ℕ) → n < length texts → i < length (get_or texts n []) + 1 → 0x20000000 + j ≡ spread (literal_sizes texts) pc n + i → slice_index words j ≡ get_or (get_or texts n [] ++ 0 ∷ []) i 0

  pub stand_texts : (F : Frame) (texts : List (List ℕ)) (k pc e : ℕ) → Stand words address pc (literals_items k texts) e → Texts texts k pc e
  stand_texts F [] k pc e h = record { ends = omega (arith, h); labels = λ n lt. absurd (omega (arith, lt)); there = λ n i j lt il q. absurd (omega (arith, lt)) }
  stand_texts F (text ∷ texts) k pc e h =
      let d = part (record { words = words; has_card = false }) address F F (item.Label (literal_label k) ∷ (map item.Integer text ++ item.Integer 0 ∷ [])) (literals_items (k + 1) texts) pc e h in
      let label = d.1.1 in
      let t = stand_text text d.1.0 d.0 d.1.2 in
      let r = stand_texts F texts (k + 1) d.0 e d.2 in
      let s = sum_by-cons (λ x. x) (length text + 1) (literal_sizes texts) in
      let next : d.0 ≡ pc + (length text + 1) = (let a = t.0 in let b = label.1 in omega (arith, a, b)) in
      record { ends = let a = r.ends in omega (arith, a, next, s); labels = λ n lt. names n lt label.0 next r.labels; there = λ n i j lt il q. words_of n i j lt il q label.1 next t.1 r.there }
    where
      names : (n : ℕ) → n < length (text ∷ texts) → address (literal_label k) ≡ pc → {d : ℕ} → d ≡ pc + (length text + 1) → ((n : ℕ) → n < length texts → address (literal_label (k + 1 + n)) ≡ spread (literal_sizes texts) d n) → address (literal_label (k + n)) ≡ spread (literal_sizes (text ∷ texts)) pc n
      names zero lt l next r = ap (λ q. address (literal_label q)) (let z : k + 0 ≡ k = omega arith in z) ∙ l
      names (suc n) lt l next r = ap (λ q. address (literal_label q)) (let z : k + suc n ≡ k + 1 + n = omega arith in z) ∙ r n (omega (arith, lt)) ∙ ap (λ q. spread (literal_sizes texts) q n) next

      words_of : (n i j : ℕ) → n < length (text ∷ texts) → i < length (get_or (text ∷ texts) n []) + 1 → 0x20000000 + j ≡ spread (literal_sizes (text ∷ texts)) pc n + i → {b d : ℕ} → b ≡ pc → d ≡ pc + (length text + 1) →
          ((i j : ℕ) → i < length text + 1 → 0x20000000 + j ≡ b + i → slice_index words j ≡ get_or (text ++ 0 ∷ []) i 0) → ((n i j : ℕ) → n < length texts → i < length (get_or texts n []) + 1 → 0x20000000 + j ≡ spread (literal_sizes texts) d n + i → slice_index words j ≡ get_or (get_or texts n [] ++ 0 ∷ []) i 0) →
          slice_index words j ≡ get_or (get_or (text ∷ texts) n [] ++ 0 ∷ []) i 0
      words_of zero i j lt il q b next t r = t i j il (omega (arith, q, b))
      words_of (suc n) i j lt il q b next t r = r n i j (omega (arith, lt)) il (let z = ap (λ d. spread (literal_sizes texts) d n) next in omega (arith, q, z))
