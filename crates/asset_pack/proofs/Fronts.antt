-- What stands at the front of bytes that pass the tests, and the texts again.
use Rattle.std.proofs.Common.{◌≡◌, ℕ, ◌+◌, ◌*◌, ◌≤◌, List, [], ◌∷◌, ◌++◌, length, take, drop, refl, sym, ap, subst, ◌∙◌, append_assoc, arith}
use Rattle.std.specs.Prelude.{Option, Some, None, Result, Ok}
use Rattle.std.proofs.lemmas.Bool.{leb-true, le-leb, and_parts, and_from}
use Rattle.std.proofs.lemmas.List.{take_at, drop_at, take-append-drop, drop-drop, length-append, length-take, length-drop}
use Rattle.std.proofs.lemmas.Nat.{from_le_bytes-to_le_bytes_4}
use Rattle.asset_pack.specs.declared.kind.Kind.{Kind}
use Rattle.asset_pack.specs.declared.kind.Kind.TheVariants as kinds
use Rattle.asset_pack.specs.declared.error.AssetFault.{AssetFault}
use Rattle.asset_pack.specs.Words.{IsBytes, word_text, words_text, word_at, words_of, AreWords}
use Rattle.asset_pack.specs.Texts.{Image, HasSides, IsTexture, HasSamples, IsSound, IsProgram, words_file_text, texture_text, sound_text}
use Rattle.asset_pack.specs.Tests.{signature, head, in_range, count, size, front_fault}
use Rattle.asset_pack.specs.Reading.{unless, body, words_at, texture_of, texture_at}
use Rattle.asset_pack.proofs.Bytes.{IsBytes-take, IsBytes-drop, word_back}
use Rattle.asset_pack.proofs.Chunks.{words_again, words_back, length-words, words_fit, length-words_text}
use Rattle.asset_pack.proofs.Accepted.{Accepted, accepted, accepts, head_long, head_within}

abbrev done : {A : Type 0} → A → Result A AssetFault
done x = Ok x

pub unless_ok : {A : Type 0} (o : Option AssetFault) (x y : A) → unless o x ≡ Ok y → (o ≡ None) × (x ≡ y)
unless_ok None x y e = (refl, cc)
unless_ok (Some f) x y e = absurd cc

body_len : (kind : Kind) (bytes : List ℕ) → front_fault kind bytes ≡ None → length (take (4 * count kind bytes) (drop (head kind) bytes)) ≡ 4 * count kind bytes
body_len kind bytes e =
    let w = head_within kind bytes e in
    omega (arith, w.0, w.1, length-take (4 * count kind bytes) (drop (head kind) bytes), length-drop (head kind) bytes)

pub length-body : (kind : Kind) (bytes : List ℕ) → front_fault kind bytes ≡ None → length (body kind bytes) ≡ count kind bytes
unfolding body
length-body kind bytes e = length-words (count kind bytes) (take (4 * count kind bytes) (drop (head kind) bytes)) (body_len kind bytes e)

body_fits : (kind : Kind) (bytes : List ℕ) → IsBytes bytes → AreWords (body kind bytes)
unfolding body
body_fits kind bytes fits = words_fit (take (4 * count kind bytes) (drop (head kind) bytes)) (IsBytes-take _ _ (IsBytes-drop _ _ fits))

body_text : (kind : Kind) (bytes : List ℕ) → IsBytes bytes → front_fault kind bytes ≡ None → words_text (body kind bytes) ≡ take (4 * count kind bytes) (drop (head kind) bytes)
unfolding body
body_text kind bytes fits e = words_back (count kind bytes) _ (body_len kind bytes e) (IsBytes-take _ _ (IsBytes-drop _ _ fits))

parts : (h n : ℕ) (bytes : List ℕ) → bytes ≡ take 8 bytes ++ (take h (drop 8 bytes) ++ (take n (drop (8 + h) bytes) ++ drop (8 + h + n) bytes))
parts h n bytes =
    let third : take n (drop (8 + h) bytes) ++ drop (8 + h + n) bytes ≡ drop (8 + h) bytes = ap (λ (x : List ℕ). take n (drop (8 + h) bytes) ++ x) (sym (drop-drop n (8 + h) bytes)) ∙ take-append-drop n (drop (8 + h) bytes) in
    let second : take h (drop 8 bytes) ++ drop (8 + h) bytes ≡ drop 8 bytes = ap (λ (x : List ℕ). take h (drop 8 bytes) ++ x) (sym (drop-drop h 8 bytes)) ∙ take-append-drop h (drop 8 bytes) in
    sym (ap (λ (x : List ℕ). take 8 bytes ++ (take h (drop 8 bytes) ++ x)) third ∙ ap (λ (x : List ℕ). take 8 bytes ++ x) second ∙ take-append-drop 8 bytes)

joined : (bytes signed sizes words rest a b c : List ℕ) → bytes ≡ a ++ (b ++ (c ++ rest)) → a ≡ signed → sizes ≡ b → words ≡ c → bytes ≡ (signed ++ sizes ++ words) ++ rest
joined bytes signed sizes words rest a b c e p q r =
    let regrouped : (signed ++ sizes ++ words) ++ rest ≡ signed ++ (sizes ++ (words ++ rest)) = append_assoc (signed ++ sizes) words rest ∙ append_assoc signed sizes (words ++ rest) in
    e ∙ ap (λ (x : List ℕ). x ++ (b ++ (c ++ rest))) p ∙ ap (λ (x : List ℕ). signed ++ (x ++ (c ++ rest))) (sym q) ∙ ap (λ (x : List ℕ). signed ++ (sizes ++ (x ++ rest))) (sym r) ∙ sym regrouped

-- ---- what is read is spelled so

one_size : (kind : Kind) (bytes : List ℕ) → head kind ≡ 12 → count kind bytes ≡ word_at 8 bytes → IsBytes bytes → front_fault kind bytes ≡ None
    → bytes ≡ (signature kind ++ word_text (length (body kind bytes)) ++ words_text (body kind bytes)) ++ drop (size kind bytes) bytes
one_size kind bytes h n fits e =
    let w = head_within kind bytes e in
    let long = w.0 in
    let len : word_at 8 bytes ≡ length (body kind bytes) = sym (length-body kind bytes e ∙ n) in
    let sized : word_text (length (body kind bytes)) ≡ take 4 (drop 8 bytes) = ap word_text (sym len) ∙ word_back 8 bytes fits (omega arith) in
    let words : words_text (body kind bytes) ≡ take (4 * count kind bytes) (drop 12 bytes) = body_text kind bytes fits e ∙ ap (λ (k : ℕ). take (4 * count kind bytes) (drop k bytes)) h in
    let rest : drop (12 + 4 * count kind bytes) bytes ≡ drop (size kind bytes) bytes = ap (λ (k : ℕ). drop (k + 4 * count kind bytes) bytes) (sym h) in
    joined bytes (signature kind) (word_text (length (body kind bytes))) (words_text (body kind bytes)) (drop (size kind bytes) bytes) (take 8 bytes) (take 4 (drop 8 bytes)) (take (4 * count kind bytes) (drop 12 bytes))
    (parts 4 (4 * count kind bytes) bytes ∙ ap (λ (x : List ℕ). take 8 bytes ++ (take 4 (drop 8 bytes) ++ (take (4 * count kind bytes) (drop 12 bytes) ++ x))) rest) (accepted kind bytes e).signed sized words

pub program_takes : (bytes : List ℕ) (x : List ℕ × List ℕ) → IsBytes bytes → words_at kinds.Words bytes ≡ Ok x → IsProgram x.0 × (bytes ≡ words_file_text x.0 ++ x.1)
unfolding words_at count words_file_text
program_takes bytes x fits e =
    let u = unless_ok (front_fault kinds.Words bytes) (body kinds.Words bytes, drop (size kinds.Words bytes) bytes) x e in
    let few = (head_within kinds.Words bytes u.0).2 in
    let len = length-body kinds.Words bytes u.0 in
    subst (λ (y : List ℕ × List ℕ). IsProgram y.0 × (bytes ≡ words_file_text y.0 ++ y.1)) u.1
    ((omega arith, body_fits kinds.Words bytes fits), one_size kinds.Words bytes refl refl fits u.0)

pub sound_sized : (bytes : List ℕ) → front_fault kinds.Sound bytes ≡ None → HasSamples (body kinds.Sound bytes)
unfolding in_range count
sound_sized bytes e =
    let few = (head_within kinds.Sound bytes e).2 in
    let len = length-body kinds.Sound bytes e in
    let some : 1 ≤ word_at 8 bytes = leb-true _ _ (and_parts _ _ (accepted kinds.Sound bytes e).ranged).0 in
    (omega arith, omega arith)

pub sound_takes : (bytes : List ℕ) (x : List ℕ × List ℕ) → IsBytes bytes → words_at kinds.Sound bytes ≡ Ok x → IsSound x.0 × (bytes ≡ sound_text x.0 ++ x.1)
unfolding words_at count sound_text
sound_takes bytes x fits e =
    let u = unless_ok (front_fault kinds.Sound bytes) (body kinds.Sound bytes, drop (size kinds.Sound bytes) bytes) x e in
    subst (λ (y : List ℕ × List ℕ). IsSound y.0 × (bytes ≡ sound_text y.0 ++ y.1)) u.1
    ((sound_sized bytes u.0, body_fits kinds.Sound bytes fits), one_size kinds.Sound bytes refl refl fits u.0)

pub texture_sized : (bytes : List ℕ) → front_fault kinds.Texture bytes ≡ None → HasSides (texture_of bytes)
unfolding in_range count
texture_sized bytes e =
    let sides = and_parts _ _ (accepted kinds.Texture bytes e).ranged in
    let w = and_parts _ _ sides.0 in
    let h = and_parts _ _ sides.1 in
    record { wide = (leb-true _ _ w.0, leb-true _ _ w.1); high = (leb-true _ _ h.0, leb-true _ _ h.1); full = length-body kinds.Texture bytes e }

pub texture_takes : (bytes : List ℕ) (x : Image × List ℕ) → IsBytes bytes → texture_at bytes ≡ Ok x → IsTexture x.0 × (bytes ≡ texture_text x.0 ++ x.1)
unfolding texture_at texture_text
texture_takes bytes x fits e =
    let u = unless_ok (front_fault kinds.Texture bytes) (texture_of bytes, drop (size kinds.Texture bytes) bytes) x e in
    let long = (head_within kinds.Texture bytes u.0).0 in
    let w = word_at 8 bytes in
    let h = word_at 12 bytes in
    let two : take 8 (drop 8 bytes) ≡ take 4 (drop 8 bytes) ++ take 4 (drop 12 bytes) = two_words (drop 8 bytes) ∙ ap (λ (y : List ℕ). take 4 (drop 8 bytes) ++ take 4 y) (drop-drop 4 8 bytes) in
    let sizes : word_text w ++ word_text h ≡ take 8 (drop 8 bytes) = ap (λ (y : List ℕ). y ++ word_text h) (word_back 8 bytes fits (omega arith)) ∙ ap (λ (y : List ℕ). take 4 (drop 8 bytes) ++ y) (word_back 12 bytes fits (omega arith)) ∙ sym two in
    let spelled : bytes ≡ (signature kinds.Texture ++ (word_text w ++ word_text h) ++ words_text (body kinds.Texture bytes)) ++ drop (size kinds.Texture bytes) bytes =
    joined bytes (signature kinds.Texture) (word_text w ++ word_text h) (words_text (body kinds.Texture bytes)) (drop (size kinds.Texture bytes) bytes) (take 8 bytes) (take 8 (drop 8 bytes)) (take (4 * count kinds.Texture bytes) (drop 16 bytes))
    (parts 8 (4 * count kinds.Texture bytes) bytes) (accepted kinds.Texture bytes u.0).signed sizes (body_text kinds.Texture bytes fits u.0) in
    subst (λ (y : Image × List ℕ). IsTexture y.0 × (bytes ≡ texture_text y.0 ++ y.1)) u.1
    ((texture_sized bytes u.0, body_fits kinds.Texture bytes fits), spelled)
  where
    two_words : (bytes : List ℕ) → take 8 bytes ≡ take 4 bytes ++ take 4 (drop 4 bytes)
    two_words [] = refl
    two_words (a ∷ []) = refl
    two_words (a ∷ b ∷ []) = refl
    two_words (a ∷ b ∷ c ∷ []) = refl
    two_words (a ∷ b ∷ c ∷ d ∷ rest) = refl

-- ---- what is spelled so is read

body_again : (kind : Kind) (text ws rest : List ℕ) → Accepted kind text → count kind text ≡ length ws → drop (head kind) text ≡ words_text ws ++ rest → AreWords ws
    → (front_fault kind text ≡ None) × (body kind text ≡ ws) × (drop (size kind text) text ≡ rest)
unfolding body
body_again kind text ws rest ok n back fits =
    let len = length-words_text ws in
    let four : length (words_text ws) ≡ 4 * count kind text = omega arith in
    let front : take (4 * count kind text) (drop (head kind) text) ≡ words_text ws = ap (take (4 * count kind text)) back ∙ take_at (words_text ws) rest (4 * count kind text) four in
    (accepts kind text ok, ap words_of front ∙ words_again ws fits, sym (drop-drop (4 * count kind text) (head kind) text) ∙ ap (drop (4 * count kind text)) back ∙ drop_at (words_text ws) rest (4 * count kind text) four)

pub program_again : (ws rest : List ℕ) → IsProgram ws → words_at kinds.Words (words_file_text ws ++ rest) ≡ Ok (ws, rest)
unfolding words_at words_file_text count in_range
program_again ws rest is =
    let few = is.0 in
    let text = words_file_text ws ++ rest in
    let n : word_at 8 text ≡ length ws = from_le_bytes-to_le_bytes_4 (length ws) (omega arith) in
    let len = length-words_text ws in
    let more = length-append (words_text ws) rest in
    let long : length text ≡ 12 + length (words_text ws ++ rest) = omega arith in
    let ok : Accepted kinds.Words text = record { signed = refl; ranged = le-leb _ _ (omega arith); long = omega arith } in
    let b = body_again kinds.Words text ws rest ok n refl is.1 in
    rw (b.0, b.1, b.2) refl

pub sound_again : (ws rest : List ℕ) → IsSound ws → words_at kinds.Sound (sound_text ws ++ rest) ≡ Ok (ws, rest)
unfolding words_at sound_text count in_range
sound_again ws rest is =
    let few = is.0 in
    let text = sound_text ws ++ rest in
    let n : word_at 8 text ≡ length ws = from_le_bytes-to_le_bytes_4 (length ws) (omega arith) in
    let len = length-words_text ws in
    let more = length-append (words_text ws) rest in
    let long : length text ≡ 12 + length (words_text ws ++ rest) = omega arith in
    let ok : Accepted kinds.Sound text = record { signed = refl; ranged = and_from _ _ (le-leb 1 (word_at 8 text) (omega arith)) (le-leb (word_at 8 text) 33554432 (omega arith)); long = omega arith } in
    let b = body_again kinds.Sound text ws rest ok n refl is.1 in
    rw (b.0, b.1, b.2) refl

pub texture_again : (t : Image) (rest : List ℕ) → IsTexture t → texture_at (texture_text t ++ rest) ≡ Ok (t, rest)
unfolding texture_at texture_text count in_range
texture_again t rest is =
    let wide = is.0.wide in
    let high = is.0.high in
    let full = is.0.full in
    let text = texture_text t ++ rest in
    let w : word_at 8 text ≡ t.width = from_le_bytes-to_le_bytes_4 t.width (omega arith) in
    let h : word_at 12 text ≡ t.height = from_le_bytes-to_le_bytes_4 t.height (omega arith) in
    let n : word_at 8 text * word_at 12 text ≡ length t.pixels = ap (λ (x : ℕ). x * word_at 12 text) w ∙ ap (λ (x : ℕ). t.width * x) h ∙ sym full in
    let len = length-words_text t.pixels in
    let more = length-append (words_text t.pixels) rest in
    let long : length text ≡ 16 + length (words_text t.pixels ++ rest) = omega arith in
    let sides = and_from _ _ (and_from _ _ (le-leb 1 (word_at 8 text) (omega arith)) (le-leb (word_at 8 text) 1024 (omega arith))) (and_from _ _ (le-leb 1 (word_at 12 text) (omega arith)) (le-leb (word_at 12 text) 1024 (omega arith))) in
    let ok : Accepted kinds.Texture text = record { signed = refl; ranged = sides; long = omega arith } in
    let b = body_again kinds.Texture text t.pixels rest ok n refl is.1 in
    let same : texture_of text ≡ t = ap (λ (x : ℕ). record { width = x; height = word_at 12 text; pixels = body kinds.Texture text }) w ∙ ap (λ (x : ℕ). record { width = t.width; height = x; pixels = body kinds.Texture text }) h ∙ ap (λ (x : List ℕ). record { width = t.width; height = t.height; pixels = x }) b.1 in
    rw (b.0, same, b.2) refl

pub ruleset textures = (head_long, texture_sized)
