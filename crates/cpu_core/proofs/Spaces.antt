-- The words that the processor keeps are the memory of the state that they stand for.
use Rattle.std.proofs.Common.{ℕ, ◌+◌, ◌-◌, ◌<◌, ◌≤◌, ◌^◌, ◌==◌, ◌≡◌, ◌≢◌, Bool, true, false, cond, ◌&&◌, ◌||◌, List, length, Option, Some, None, refl, sym, ◌∙◌, ap, arith, eqb-true}
use Rattle.std.specs.Prelude.{nat_lt, nat_le, slice_index, slice_set, All}
use Rattle.std.specs.List.{slice_get}
use Rattle.std.proofs.Math.Path.{fun_ext}
use Rattle.std.proofs.lemmas.Option.{slice_get-get_or, slice_get_past}
use Rattle.std.proofs.lemmas.List.{get_or-set_same, get_or-set_other, get_or_past}
use Rattle.std.proofs.lemmas.List.Elements.{All-get_or}
use Rattle.std.proofs.lemmas.Bool.Decides.{nat_tests}
use Rattle.kit_base.specs.Word.{sub}
use Rattle.v32_isa.specs.State.{word_at, is_readable_at, is_writable_at, written, stored}
use Rattle.v32_isa.specs.Runs.{opening_memory}
use Rattle.cpu_core.specs.Space.{Space, IsSized, memory_of, memory_state}

by_test : {P : Type 0} (b : Bool) → (b ≡ true → P) → (b ≡ false → P) → P
by_test true f g = f refl
by_test false f g = g refl

lt_yes : (a b : ℕ) → a < b → nat_lt a b ≡ true
lt_yes a b h = grind (arith, nat_tests)

pub lt_no : (a b : ℕ) → b ≤ a → nat_lt a b ≡ false
lt_no a b h = grind (arith, nat_tests)

le_yes : (a b : ℕ) → a ≤ b → nat_le a b ≡ true
le_yes a b h = grind (arith, nat_tests)

le_no : (a b : ℕ) → b < a → nat_le a b ≡ false
le_no a b h = grind (arith, nat_tests)

lt_true : (a b : ℕ) → nat_lt a b ≡ true → a < b
lt_true a b h = grind (arith, nat_tests)

lt_false : (a b : ℕ) → nat_lt a b ≡ false → b ≤ a
lt_false a b h = grind (arith, nat_tests)

-- a word of a list, where the list reaches
word_in : (xs : List ℕ) (i : ℕ) → slice_get xs i ≡ cond (nat_lt i (length xs)) (Some (slice_index xs i)) None
word_in xs i = by_test (nat_lt i (length xs))
    (λ t. let h : i < length xs = lt_true _ _ t in rw t (slice_get-get_or xs i 0 h))
    (λ t. let h : length xs ≤ i = lt_false _ _ t in rw t (slice_get_past xs i h))

in_ram : (x card : Bool) (v : Option ℕ) → cond x v None ≡ cond (x || (false || (card && false))) v None
in_ram true card v = refl
in_ram false true v = refl
in_ram false false v = refl

in_program : (x card : Bool) (v : Option ℕ) → cond x v None ≡ cond (x || (card && false)) v None
in_program true card v = refl
in_program false true v = refl
in_program false false v = refl

pub ram_word : (s : Space) (a : ℕ) → IsSized s → a < 0x20000000 → slice_get s.ram a ≡ word_at (memory_state s) a
unfolding word_at is_readable_at memory_of
ram_word s a sized h =
    word_in s.ram a ∙ rw (sized.ram, lt_yes a 0x20000000 h, le_no 0x20000000 a h, le_no 0x30000000 a (omega arith))
    (in_ram (nat_lt a 0x400000) _ (Some (slice_index s.ram a)))

same_length_test : (a n : ℕ) → 0x20000000 ≤ a → nat_lt (a - 0x20000000) n ≡ nat_lt a (0x20000000 + n)
same_length_test a n h = by_test (nat_lt (a - 0x20000000) n)
    (λ t. let k : a - 0x20000000 < n = lt_true _ _ t in t ∙ sym (lt_yes a (0x20000000 + n) (omega arith)))
    (λ t. let k : n ≤ a - 0x20000000 = lt_false _ _ t in t ∙ sym (lt_no a (0x20000000 + n) (omega arith)))

pub program_word : (s : Space) (a : ℕ) → 0x20000000 ≤ a → a < 0x30000000 →
    slice_get s.program (a - 0x20000000) ≡ word_at (memory_state s) a
unfolding word_at is_readable_at memory_of
program_word s a g h =
    word_in s.program (a - 0x20000000)
    ∙ rw (same_length_test a (length s.program) g, lt_no a 0x20000000 g, lt_yes a 0x30000000 h, lt_no a 0x400000 (omega arith), le_yes 0x20000000 a g, le_no 0x30000000 a h)
    (in_program (nat_lt a (0x20000000 + length s.program)) _ (Some (slice_index s.program (a - 0x20000000))))

same_card_test : (a : ℕ) → 0x30000000 ≤ a → nat_lt (a - 0x30000000) 0x40000 ≡ nat_lt a 0x30040000
same_card_test a h = by_test (nat_lt (a - 0x30000000) 0x40000)
    (λ t. let k : a - 0x30000000 < 0x40000 = lt_true _ _ t in t ∙ sym (lt_yes a 0x30040000 (omega arith)))
    (λ t. let k : 0x40000 ≤ a - 0x30000000 = lt_false _ _ t in t ∙ sym (lt_no a 0x30040000 (omega arith)))

abbrev pub space : List ℕ → List ℕ → Option (List ℕ) → Space
space ram program card = record { ram = ram; program = program; card = card }

pub card_word_at : (ram program card : List ℕ) (a : ℕ) → IsSized (space ram program (Some card)) → 0x30000000 ≤ a →
    slice_get card (a - 0x30000000) ≡ word_at (memory_state (space ram program (Some card))) a
unfolding word_at is_readable_at memory_of
card_word_at ram program card a sized h =
    let room : length card ≡ 0x40000 = sized.card card refl in
    let bound : length program ≤ 0x2000000 = sized.program in
    word_in card (a - 0x30000000)
    ∙ rw (
      room,
      same_card_test a h,
      lt_no a 0x20000000 (omega arith),
      lt_no a 0x30000000 h,
      lt_no a 0x400000 (omega arith),
      le_yes 0x20000000 a (omega arith),
      lt_no a (0x20000000 + length program) (omega arith),
      le_yes 0x30000000 a h,
    ) refl

pub no_card_word : (ram program : List ℕ) (a : ℕ) → IsSized (space ram program None) → 0x30000000 ≤ a →
    None ≡ word_at (memory_state (space ram program None)) a
unfolding word_at is_readable_at memory_of
no_card_word ram program a sized h =
    let bound : length program ≤ 0x2000000 = sized.program in
    rw (lt_no a 0x400000 (omega arith), le_yes 0x20000000 a (omega arith), lt_no a (0x20000000 + length program) (omega arith)) refl

-- where a list has a word and where it has none
within : (xs : List ℕ) (i w : ℕ) → slice_get xs i ≡ Some w → i < length xs
within xs i w h = by_test (nat_lt i (length xs)) (λ t. lt_true _ _ t) (λ t. absurd (no_word (sym h ∙ slice_get_past xs i (lt_false _ _ t))))
  where
    no_word : {w : ℕ} → Some w ≡ None → ⊥
    no_word h = cc

past : (xs : List ℕ) (i : ℕ) → slice_get xs i ≡ None → length xs ≤ i
past xs i h = by_test (nat_lt i (length xs)) (λ t. absurd (no_word (sym (slice_get-get_or xs i 0 (lt_true _ _ t)) ∙ h))) (λ t. lt_false _ _ t)
  where
    no_word : {w : ℕ} → Some w ≡ None → ⊥
    no_word h = cc

-- a word found in RAM, or else in the program
pub ram_hit : (s : Space) (a w : ℕ) → IsSized s → slice_get s.ram a ≡ Some w → Some w ≡ word_at (memory_state s) a
ram_hit s a w sized h =
    let k : a < length s.ram = within _ _ _ h in
    sym h ∙ ram_word s a sized (omega (arith, sized.ram))

pub program_hit : (s : Space) (a w : ℕ) → IsSized s → a < 2 ^ 32 → slice_get s.program (sub a 0x20000000) ≡ Some w → Some w ≡ word_at (memory_state s) a
program_hit s a w sized word h =
    let k : sub a 0x20000000 < length s.program = within _ _ _ h in
    let bound : length s.program ≤ 0x2000000 = sized.program in
    let same : sub a 0x20000000 ≡ a - 0x20000000 = omega arith in
    sym h ∙ ap (slice_get s.program) same ∙ program_word s a (omega arith) (omega arith)

-- where neither has one, below the card there is none
missed : (s : Space) (a : ℕ) → IsSized s → a < 0x30000000 → slice_get s.ram a ≡ None → slice_get s.program (sub a 0x20000000) ≡ None → None ≡ word_at (memory_state s) a
missed s a sized low ram program = by_test (nat_lt a 0x20000000)
    (λ t. sym ram ∙ ram_word s a sized (lt_true _ _ t))
    (λ t. let high : 0x20000000 ≤ a = lt_false _ _ t in
    let same : sub a 0x20000000 ≡ a - 0x20000000 = omega arith in
    sym program ∙ ap (slice_get s.program) same ∙ program_word s a high low)

-- and from there on the card has it, where there is one
pub card_hit : (ram program card : List ℕ) (a : ℕ) → IsSized (space ram program (Some card)) → a < 2 ^ 32 → slice_get ram a ≡ None → slice_get program (sub a 0x20000000) ≡ None
    → slice_get card (sub a 0x30000000) ≡ word_at (memory_state (space ram program (Some card))) a
card_hit ram program card a sized word r p =
    let room : length card ≡ 0x40000 = sized.card card refl in
    by_test (nat_lt a 0x30000000)
    (λ t. let low : a < 0x30000000 = lt_true _ _ t in
    let far : length card ≤ sub a 0x30000000 = omega arith in
    slice_get_past card (sub a 0x30000000) far ∙ missed (space ram program (Some card)) a sized low r p)
    (λ t. let high : 0x30000000 ≤ a = lt_false _ _ t in
    let same : sub a 0x30000000 ≡ a - 0x30000000 = omega arith in
    ap (slice_get card) same ∙ card_word_at ram program card a sized high)

pub no_card_hit : (ram program : List ℕ) (a : ℕ) → IsSized (space ram program None) → slice_get ram a ≡ None → slice_get program (sub a 0x20000000) ≡ None
    → None ≡ word_at (memory_state (space ram program None)) a
no_card_hit ram program a sized r p = by_test (nat_lt a 0x30000000)
    (λ t. missed (space ram program None) a sized (lt_true _ _ t) r p)
    (λ t. no_card_word ram program a sized (lt_false _ _ t))

-- RAM is where a word below the card can be written
writable_in : (x card : Bool) → x ≡ (x || (card && false))
writable_in true card = refl
writable_in false true = refl
writable_in false false = refl

pub ram_writable : (s : Space) (a : ℕ) → IsSized s → a < 0x30000000 → nat_lt a (length s.ram) ≡ is_writable_at (memory_state s) a
unfolding is_writable_at
ram_writable s a sized h = rw (sized.ram, le_no 0x30000000 a h) (writable_in (nat_lt a 0x400000) _)

pub card_writable : (ram program card : List ℕ) (a : ℕ) → IsSized (space ram program (Some card)) → 0x30000000 ≤ a →
    nat_lt (a - 0x30000000) (length card) ≡ is_writable_at (memory_state (space ram program (Some card))) a
unfolding is_writable_at
card_writable ram program card a sized h =
    let room : length card ≡ 0x40000 = sized.card card refl in
    rw (room, same_card_test a h, lt_no a 0x400000 (omega arith), le_yes 0x30000000 a h) refl

pub no_card_writable : (ram program : List ℕ) (a : ℕ) → 0x30000000 ≤ a → false ≡ is_writable_at (memory_state (space ram program None)) a
unfolding is_writable_at
no_card_writable ram program a h = rw (lt_no a 0x400000 (omega arith)) refl

-- a word is written in RAM, or else in the card
pub ram_taken : (s : Space) (a : ℕ) → IsSized s → nat_lt a (length s.ram) ≡ true → true ≡ is_writable_at (memory_state s) a
ram_taken s a sized t =
    let k : a < length s.ram = lt_true _ _ t in
    sym t ∙ ram_writable s a sized (omega (arith, sized.ram))

pub card_taken : (ram program card : List ℕ) (a : ℕ) → IsSized (space ram program (Some card)) → a < 2 ^ 32 → nat_lt a (length ram) ≡ false
    → nat_lt (sub a 0x30000000) (length card) ≡ is_writable_at (memory_state (space ram program (Some card))) a
card_taken ram program card a sized word out =
    let room : length card ≡ 0x40000 = sized.card card refl in
    by_test (nat_lt a 0x30000000)
    (λ t. let low : a < 0x30000000 = lt_true _ _ t in
    let far : length card ≤ sub a 0x30000000 = omega arith in
    lt_no (sub a 0x30000000) (length card) far ∙ sym out ∙ ram_writable (space ram program (Some card)) a sized low)
    (λ t. let high : 0x30000000 ≤ a = lt_false _ _ t in
    let same : sub a 0x30000000 ≡ a - 0x30000000 = omega arith in
    ap (λ k. nat_lt k (length card)) same ∙ card_writable ram program card a sized high)

pub no_card_taken : (ram program : List ℕ) (a : ℕ) → IsSized (space ram program None) → nat_lt a (length ram) ≡ false
    → false ≡ is_writable_at (memory_state (space ram program None)) a
no_card_taken ram program a sized out = by_test (nat_lt a 0x30000000)
    (λ t. sym out ∙ ram_writable (space ram program None) a sized (lt_true _ _ t))
    (λ t. no_card_writable ram program a (lt_false _ _ t))

differ : (a b : ℕ) → (a == b) ≡ false → a ≡ b → ⊥
differ a b h e = grind (arith, nat_tests)

-- the words are as written after one was put into RAM
ram_place : (s : Space) (a w place : ℕ) → IsSized s → a < length s.ram →
    memory_of (record s { ram = slice_set s.ram a w }) place ≡ written (memory_of s) a w place
unfolding memory_of written
ram_place s a w place sized h = by_test (place == a)
    (λ t. let same : place ≡ a = eqb-true _ _ t in
    let low : a < 0x20000000 = omega (arith, sized.ram) in
    rw (t, same, lt_yes a 0x20000000 low) (get_or-set_same s.ram a w 0 h))
    (λ t. by_test (nat_lt place 0x20000000)
    (λ u. rw (t, u) (get_or-set_other s.ram a place w 0 (differ place a t)))
    (λ u. rw (t, u) refl))

pub ram_stored : (s : Space) (a w : ℕ) → IsSized s → nat_lt a (length s.ram) ≡ true →
    memory_state (record s { ram = slice_set s.ram a w }) ≡ stored (memory_state s) a w
ram_stored s a w sized t =
    let h : a < length s.ram = lt_true _ _ t in
    ap (λ m. record (memory_state s) { memory = m }) (fun_ext (λ place. ram_place s a w place sized h))

-- and after one was put into the card
card_place : (ram program card : List ℕ) (a w place : ℕ) → 0x30000000 ≤ a → a - 0x30000000 < length card →
    memory_of (space ram program (Some (slice_set card (a - 0x30000000) w))) place ≡ written (memory_of (space ram program (Some card))) a w place
unfolding memory_of written
card_place ram program card a w place g h = by_test (place == a)
    (λ t. let same : place ≡ a = eqb-true _ _ t in
    rw (t, same, lt_no a 0x20000000 (omega arith), lt_no a 0x30000000 g) (get_or-set_same card (a - 0x30000000) w 0 h))
    (λ t. by_test (nat_lt place 0x20000000)
    (λ u. rw (t, u) refl)
    (λ u. by_test (nat_lt place 0x30000000)
    (λ v. rw (t, u, v) refl)
    (λ v. let other : place - 0x30000000 ≢ a - 0x30000000 = (λ e. differ place a t (let k : 0x30000000 ≤ place = lt_false _ _ v in omega arith)) in
    rw (t, u, v) (get_or-set_other card (a - 0x30000000) (place - 0x30000000) w 0 other))))

pub card_stored : (ram program card : List ℕ) (a w : ℕ) → 0x30000000 ≤ a → nat_lt (a - 0x30000000) (length card) ≡ true →
    memory_state (space ram program (Some (slice_set card (a - 0x30000000) w))) ≡ stored (memory_state (space ram program (Some card))) a w
card_stored ram program card a w g t =
    let h : a - 0x30000000 < length card = lt_true _ _ t in
    ap (λ m. record (memory_state (space ram program (Some card))) { memory = m }) (fun_ext (λ place. card_place ram program card a w place g h))

-- RAM of zeros is that of the opening
zero_word : (xs : List ℕ) (i : ℕ) → All (λ w. w ≡ 0) xs → slice_index xs i ≡ 0
zero_word xs i h = by_test (nat_lt i (length xs))
    (λ t. All-get_or (λ w. w ≡ 0) xs i 0 (lt_true _ _ t) h)
    (λ t. get_or_past xs i 0 (lt_false _ _ t))

pub opening_words : (ram program : List ℕ) (card : Option (List ℕ)) → All (λ w. w ≡ 0) ram →
    memory_of (space ram program card) ≡ opening_memory program card
unfolding memory_of opening_memory
opening_words ram program card zeros = fun_ext (λ place. by_test (nat_lt place 0x20000000)
    (λ t. rw t (zero_word ram place zeros))
    (λ t. rw t refl))

pub card_kept : (ram program card : List ℕ) (a w : ℕ) → IsSized (space ram program (Some card)) → a < 2 ^ 32 → nat_lt (sub a 0x30000000) (length card) ≡ true →
    memory_state (space ram program (Some (slice_set card (sub a 0x30000000) w))) ≡ stored (memory_state (space ram program (Some card))) a w
card_kept ram program card a w sized word t =
    let room : length card ≡ 0x40000 = sized.card card refl in
    let k : sub a 0x30000000 < length card = lt_true _ _ t in
    let high : 0x30000000 ≤ a = omega arith in
    let same : sub a 0x30000000 ≡ a - 0x30000000 = omega arith in
    ap (λ p. memory_state (space ram program (Some (slice_set card p w)))) same ∙ card_stored ram program card a w high (sym (ap (λ p. nat_lt p (length card)) same) ∙ t)
