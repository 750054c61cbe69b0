-- What `clap` makes of words that are no flags, at a command whose arguments are all plain positionals.
use Rattle.std.proofs.Common.{◌≡◌, ◌∙◌, ◌==◌, ◌&&◌, ℕ, Bool, true, false, not, List, [], ◌∷◌, Option, Some, None, refl, sym, ap, cond, true≢false}
use Rattle.std.specs.Prelude.{if◌then◌else◌, find, option_and_then}
use Rattle.std.specs.List.{fold, list_all}
use Rattle.std.specs.Option.{option_map_or}
use Rattle.std.specs.Str.{bytes_eq}
use Rattle.clap.specs.Lexer.{long_of, long_of_rest, short_of, short_of_rest, strip_byte}
use Rattle.clap.specs.Walk.{Held, Names, Rule, Text, Walk, idle, trailing, value, Step, long_or_other, short_or_plain, subcommand_or_other, after_step, arg_by_index, finished, is_multiple, next_position, nothing_held, positional_held, rows_after, settled, to_positional, walk, walk_from, walked, word_met}
use Rattle.clap.specs.Kinds.{Kinds, or_else}
use Rattle.clap.specs.Faults.{bundle_fault, flag_word_fault, other_fault, check_fault, defaults_fault, level_fault, settle_fault, step_fault, turn_fault, walk_fault}
use Rattle.clap.specs.Simple.{Shape}
use Rattle.clap.proofs.WalkLemmas.{both}
use Rattle.kit_words.specs.Forms.{is_word}

abbrev pub Pair : Type 0
Pair = Held × Step

not_true : (b : Bool) → not b ≡ true → b ≡ false
not_true true e = absurd (true≢false (sym e))
not_true false e = refl

stripped : (word : Text) → is_word word ≡ true → strip_byte 45 word ≡ None
stripped [] e = absurd (true≢false (sym e))
stripped (x ∷ xs) e = ap (λ b. cond b (Some xs) None) (not_true (x == 45) e)

not_dashes : (word : Text) → is_word word ≡ true → bytes_eq word (45 ∷ 45 ∷ []) ≡ false
not_dashes [] e = refl
not_dashes (x ∷ xs) e = ap (λ b. b && bytes_eq xs (45 ∷ [])) (not_true (x == 45) e)

not_long : (word : Text) → is_word word ≡ true → long_of word ≡ None
not_long word e = ap (λ o. option_and_then long_of_rest (option_and_then (strip_byte 45) o)) (stripped word e)

not_short : (word : Text) → is_word word ≡ true → short_of word ≡ None
not_short word e = ap (option_and_then short_of_rest) (stripped word e)

-- a word that is no flag is a value
pub plain_met : (c : List Rule) (position : ℕ) (word : Text) (h : Held) → is_word word ≡ true → ◌≡◌ {A = Pair} (subcommand_or_other c None idle position word h) (h, value)
plain_met c position word h e =
    ap (λ b. if b then (h, trailing position) else long_or_other c idle word (long_of word) h) (not_dashes word e)
    ∙ ap (λ o. long_or_other c idle word o h) (not_long word e)
    ∙ ap (λ o. short_or_plain c idle word o h) (not_short word e)

pub plain_fault : (s : Shape) (word : Text) (h : Held) → is_word word ≡ true → other_fault s None word h ≡ []
plain_fault s word h e =
    ap (λ b. if b then [] else flag_word_fault s.rules s.args_override_self (long_of word) word h) (not_dashes word e)
    ∙ ap (λ o. flag_word_fault s.rules s.args_override_self o word h) (not_long word e)
    ∙ ap (λ o. option_map_or (λ flags. bundle_fault s.rules s.args_override_self flags h) o []) (not_short word e)

-- an argument with one value
abbrev pub is_flat : Rule → Bool
is_flat a = not (is_multiple a) && not a.trailing_var_arg

-- what is held, and the next position, after a word at this position
abbrev pub held_after : List Rule → Held → ℕ → Text → Held
held_after c h position word = option_map_or (λ a. positional_held c a word h) (arg_by_index c position) h

abbrev pub position_after : List Rule → ℕ → ℕ
position_after c position = option_map_or (λ a. next_position a position) (arg_by_index c position) position

unfoldable pub plain_walk : List Rule → Held → ℕ → List Text → Held
plain_walk c h position [] = h
plain_walk c h position (word ∷ rest) = plain_walk c (held_after c h position word) (position_after c position) rest

unfoldable pub plain_faults : Shape → Held → ℕ → List Text → Kinds
plain_faults s h position [] = []
plain_faults s h position (word ∷ rest) =
    or_else (step_fault s position h value) (plain_faults s (held_after s.rules h position word) (position_after s.rules position) rest)

abbrev standing : Held → ℕ → Walk
standing h position = record { held = h; waiting = idle; position = position; is_trailing = false; stopped = None }

found_flat : (p : Rule → Bool) (c : List Rule) → list_all is_flat c ≡ true → option_map_or is_flat (find p c) true ≡ true
found_flat p [] e = refl
found_flat p (a ∷ c) e = go (p a) (both _ _ e).0 (found_flat p c (both (is_flat a) _ e).1)
  where
    go : (b : Bool) → is_flat a ≡ true → option_map_or is_flat (find p c) true ≡ true → option_map_or is_flat (cond b (Some a) (find p c)) true ≡ true
    go true here later = here
    go false here later = later

to_flat : (c : List Rule) (o : Option Rule) (word : Text) (h : Held) (position : ℕ) → option_map_or is_flat o true ≡ true
    → ◌≡◌ {A = Walk} (to_positional c o word (standing h position) h)
    (standing (option_map_or (λ a. positional_held c a word h) o h) (option_map_or (λ a. next_position a position) o position))
to_flat c None word h position e = refl
to_flat c (Some a) word h position e =
    let parts = both (not (is_multiple a)) _ e in
    let single : is_multiple a ≡ false = not_true _ parts.0 in
    let ends : a.trailing_var_arg ≡ false = not_true _ parts.1 in
    (λ i. record {
      held = positional_held c a word h;
      waiting = cond (single i) Rattle.clap.specs.Walk.positional idle;
      position = next_position a position;
      is_trailing = ends i;
      stopped = None;
    })

one_word : (c : List Rule) (h : Held) (position : ℕ) (word : Text) → list_all is_flat c ≡ true → is_word word ≡ true
    → ◌≡◌ {A = Walk} (walked c [] (standing h position) word) (standing (held_after c h position word) (position_after c position))
unfolding walked
one_word c h position word flat e =
    ap (λ (p : Pair). after_step c word (standing h position) p.0 p.1) (plain_met c position word h e)
    ∙ to_flat c (arg_by_index c position) word h position (found_flat _ c flat)

one_fault : (s : Shape) (h : Held) (position : ℕ) (word : Text) → is_word word ≡ true
    → turn_fault s [] (standing h position) word ≡ step_fault s position h value
one_fault s h position word e =
    ap (λ ks. or_else ks (step_fault s position (word_met s.rules [] false idle position word h).0 (word_met s.rules [] false idle position word h).1)) (plain_fault s word h e)
    ∙ ap (λ (p : Pair). step_fault s position p.0 p.1) (plain_met s.rules position word h e)

pub walk_is : (c : List Rule) (h : Held) (position : ℕ) (words : List Text) → list_all is_flat c ≡ true → list_all is_word words ≡ true
    → (fold (walked c []) (standing h position) words).held ≡ plain_walk c h position words
unfolding plain_walk
walk_is c h position [] flat e = refl
walk_is c h position (word ∷ rest) flat e =
    let parts = both (is_word word) _ e in
    ap (λ (w : Walk). (fold (walked c []) w rest).held) (one_word c h position word flat parts.0)
    ∙ walk_is c (held_after c h position word) (position_after c position) rest flat parts.1

pub faults_are : (s : Shape) (h : Held) (position : ℕ) (words : List Text) → list_all is_flat s.rules ≡ true → list_all is_word words ≡ true
    → walk_fault s [] (standing h position) words ≡ plain_faults s h position words
unfolding plain_faults walk_fault
faults_are s h position [] flat e = refl
faults_are s h position (word ∷ rest) flat e =
    let parts = both (is_word word) _ e in
    ap (λ ks. or_else ks (walk_fault s [] (walked s.rules [] (standing h position) word) rest)) (one_fault s h position word parts.0)
    ∙ ap (λ (w : Walk). or_else (step_fault s position h value) (walk_fault s [] w rest)) (one_word s.rules h position word flat parts.0)
    ∙ ap (or_else (step_fault s position h value)) (faults_are s (held_after s.rules h position word) (position_after s.rules position) rest flat parts.1)

-- the faults of a form at its words, and what is found for them
abbrev pub form_faults : Shape → List Text → Kinds
form_faults s words =
    let end = plain_walk s.rules nothing_held 1 words in
    or_else (plain_faults s nothing_held 1 words)
    (or_else (settle_fault s.rules s.args_override_self end)
    (or_else (defaults_fault (settled s.rules end).rows s.rules) (check_fault s (finished s.rules end) false)))

pub form_faults_are : (s : Shape) (words : List Text) → list_all is_flat s.rules ≡ true → list_all is_word words ≡ true
    → level_fault s [] nothing_held words false [] ≡ form_faults s words
form_faults_are s words flat e =
    ap (λ (end : Held). or_else (walk_fault s [] (walk_from nothing_held) words)
    (or_else (settle_fault s.rules s.args_override_self end)
    (or_else (defaults_fault (settled s.rules end).rows s.rules) (check_fault s (finished s.rules end) false)))) (walk_is s.rules nothing_held 1 words flat e)
    ∙ ap (λ ks. or_else ks (or_else (settle_fault s.rules s.args_override_self (plain_walk s.rules nothing_held 1 words))
    (or_else (defaults_fault (settled s.rules (plain_walk s.rules nothing_held 1 words)).rows s.rules) (check_fault s (finished s.rules (plain_walk s.rules nothing_held 1 words)) false))))
    (faults_are s nothing_held 1 words flat e)

pub form_rows_are : (s : Shape) (words : List Text) → list_all is_flat s.rules ≡ true → list_all is_word words ≡ true
    → rows_after s.rules [] words ≡ finished s.rules (plain_walk s.rules nothing_held 1 words)
form_rows_are s words flat e = ap (finished s.rules) (walk_is s.rules nothing_held 1 words flat e)
