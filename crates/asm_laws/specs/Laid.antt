-- Where globals, literals and the card stand at the opening.
use Rattle.std.specs.Prelude.{◌≡◌, ℕ, zero, suc, ◌+◌, ◌<◌, ◌≤◌, List, [], ◌∷◌, ◌++◌, map, length, sum, get_or, Option, None, slice_index, is_some}
use Rattle.asm_laws.specs.Holds.{Setting, depth_of}

-- the first address of each of these pieces, which stand one after another
abbrev pub spread : List ℕ → ℕ → ℕ → ℕ
spread [] p k = p
spread (n ∷ ns) p zero = p
spread (n ∷ ns) p (suc k) = spread ns (p + n) k

abbrev pub literal_sizes : List (List ℕ) → List ℕ
literal_sizes texts = map (λ text. length text + 1) texts

pub record Laid (S : Setting) (boot : ℕ) (card : Option (List ℕ)) : Type 0 where
  pub count : S.fixed_count ≡ length S.code.globals + length S.code.literals + 1
  pub globals : (k : ℕ) → k < length S.code.globals → S.fixed k ≡ spread S.code.globals 0 k
  pub few_globals : sum S.code.globals ≤ 3145728
  pub first_literal : ℕ
  pub literals : (k : ℕ) → k < length S.code.literals → S.fixed (length S.code.globals + k) ≡ spread (literal_sizes S.code.literals) first_literal k
  pub from : 0x20000000 ≤ first_literal
  pub upto : first_literal + sum (literal_sizes S.code.literals) ≤ 0x20000000 + length S.console.words
  pub short : length S.console.words < 0x10000000
  pub literal_words : (k i j : ℕ) → k < length S.code.literals → i < length (get_or S.code.literals k []) + 1
      → 0x20000000 + j ≡ spread (literal_sizes S.code.literals) first_literal k + i →
      slice_index S.console.words j ≡ get_or (get_or S.code.literals k [] ++ 0 ∷ []) i 0
  pub card_at : S.fixed (length S.code.globals + length S.code.literals) ≡ 0x30000000
  pub has_card : S.console.has_card ≡ is_some card
  pub called_as : S.called_as boot ≡ None
  pub locals : S.locals boot ≡ []
  pub depth : depth_of S boot ≡ 0
  pub size : (S.whole.frames boot).size ≤ 1000000
