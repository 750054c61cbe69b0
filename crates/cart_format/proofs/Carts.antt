-- Cartridges: what is read is spelled so, and what is spelled so is read.
use Rattle.std.proofs.Common.{◌≡◌, ℕ, zero, suc, ◌+◌, ◌^◌, ◌<◌, ◌≤◌, true, cond, eqb, leb, List, [], ◌++◌, length, drop, refl, sym, ap, subst, ◌∙◌, append_assoc, append-nil, arith, inl, inr}
use Rattle.std.specs.Prelude.{Option, Some, None, Result, Ok, Err}
use Rattle.std.specs.List.{flat_map}
use Rattle.std.proofs.lemmas.Bool.{leb-true, le-leb, eqb-true, eq-eqb, and_parts, and_from, or_cases}
use Rattle.std.proofs.lemmas.List.{nil_from_length, length-drop}
use Rattle.asset_pack.specs.declared.kind.Kind.TheVariants as kinds
use Rattle.asset_pack.specs.Words.{IsBytes, word_at}
use Rattle.asset_pack.specs.Texts.{Image, IsTexture, IsSound, IsProgram, words_file_text, texture_text, sound_text}
use Rattle.asset_pack.specs.Reading.{words_at, texture_at}
use Rattle.asset_pack.proofs.Bytes.{IsBytes-drop}
use Rattle.asset_pack.proofs.Fronts.{program_takes, program_again, texture_takes, texture_again, sound_takes, sound_again}
use Rattle.cart_format.specs.declared.row.LineTable.{LineTable}
use Rattle.cart_format.specs.declared.error.CartFault.{CartFault}
use Rattle.cart_format.specs.declared.error.CartFault.TheVariants.{At, BadSection}
use Rattle.cart_format.specs.Cartridge.{Cartridge, revision, tail_text, sections_text, total, cart_text, header_text, is_title, is_tail, is_cart, IsCartridge}
use Rattle.cart_format.specs.Tests.{is_revision, title_at, header_fault}
use Rattle.cart_format.specs.Reading.{◌>>=◌, section, counted, program_at, many, texture_section, sound_section, table_at, tail_at, parts_of, titled, sections_of, unless, cart_of}
use Rattle.cart_format.proofs.Steps.{bind_ok, ended_ok, ok_is, section_ok, rest_fits, joined, many_takes, many_again}
use Rattle.cart_format.proofs.Sizes.{sections_size}
use Rattle.cart_format.proofs.Tables.{tail_takes, tail_again}
use Rattle.cart_format.proofs.Headers.{headed, heads, ranges, header_takes, header_again}

-- ---- sections

part_takes : (words : ℕ) (bytes : List ℕ) (x : List ℕ × List ℕ) → IsBytes bytes → program_at words bytes ≡ Ok x → IsProgram x.0 × (length x.0 ≡ words) × (bytes ≡ words_file_text x.0 ++ x.1)
unfolding program_at
part_takes words bytes x fits e =
    let a = bind_ok (section 0 (words_at kinds.Words bytes)) (counted words) x e in
    let g = ended_ok (eqb (length a.0.0) words) (BadSection 0) a.0 x a.2 in
    let t = program_takes bytes a.0 fits (section_ok 0 (words_at kinds.Words bytes) a.0 a.1) in
    subst (λ (y : List ℕ × List ℕ). IsProgram y.0 × (length y.0 ≡ words) × (bytes ≡ words_file_text y.0 ++ y.1)) g.1 (t.0, eqb-true _ _ g.0, t.1)

part_again : (ws rest : List ℕ) → IsProgram ws → program_at (length ws) (words_file_text ws ++ rest) ≡ Ok (ws, rest)
unfolding program_at
part_again ws rest is = rw (program_again ws rest is, eq-eqb (length ws) (length ws) refl) refl

texture_part : (index : ℕ) (bytes : List ℕ) (x : Image × List ℕ) → IsBytes bytes → texture_section index bytes ≡ Ok x → IsTexture x.0 × (bytes ≡ texture_text x.0 ++ x.1)
texture_part index bytes x fits e = texture_takes bytes x fits (section_ok index (texture_at bytes) x e)

texture_back : (index : ℕ) (t : Image) (rest : List ℕ) → IsTexture t → texture_section index (texture_text t ++ rest) ≡ Ok (t, rest)
texture_back index t rest is = ap (section index) (texture_again t rest is)

sound_part : (index : ℕ) (bytes : List ℕ) (x : List ℕ × List ℕ) → IsBytes bytes → sound_section index bytes ≡ Ok x → IsSound x.0 × (bytes ≡ sound_text x.0 ++ x.1)
sound_part index bytes x fits e = sound_takes bytes x fits (section_ok index (words_at kinds.Sound bytes) x e)

sound_back : (index : ℕ) (s : List ℕ) (rest : List ℕ) → IsSound s → sound_section index (sound_text s ++ rest) ≡ Ok (s, rest)
sound_back index s rest is = ap (section index) (sound_again s rest is)

-- ---- limits

pub record Limits (c : Cartridge) : Type 0 where
  pub title : is_title c.title ≡ true
  pub some : 1 ≤ length c.program
  pub words : length c.program ≤ 33554432
  pub textures : length c.textures ≤ 256
  pub sounds : length c.sounds ≤ 1024
  pub table : is_tail (length c.program) c.table ≡ true
  pub size : total c ≤ 268435456

pub limits : (c : Cartridge) → is_cart c ≡ true → Limits c
unfolding is_cart
limits c h =
    let a = and_parts _ _ h in
    let b = and_parts _ _ a.1 in
    let d = and_parts _ _ b.1 in
    let f = and_parts _ _ d.1 in
    let g = and_parts _ _ f.1 in
    let k = and_parts _ _ g.1 in
    record { title = a.0; some = leb-true _ _ b.0; words = leb-true _ _ d.0; textures = leb-true _ _ f.0; sounds = leb-true _ _ g.0; table = k.0; size = leb-true _ _ k.1 }

keeps : (c : Cartridge) → Limits c → is_cart c ≡ true
unfolding is_cart
keeps c l =
    and_from (is_title c.title) _ l.title (and_from (leb 1 (length c.program)) _ (le-leb _ _ l.some) (and_from (leb (length c.program) 33554432) _ (le-leb _ _ l.words)
    (and_from (leb (length c.textures) 256) _ (le-leb _ _ l.textures) (and_from (leb (length c.sounds) 1024) _ (le-leb _ _ l.sounds) (and_from (is_tail (length c.program) c.table) _ l.table (le-leb _ _ l.size))))))

revision_is : (n index words : ℕ) (bytes : List ℕ) (x : Option LineTable × List ℕ) → is_revision n ≡ true → tail_at n index words bytes ≡ Ok x → n ≡ revision x.0
unfolding tail_at
revision_is zero index words bytes x h e = absurd cc
revision_is (suc zero) index words bytes x h e = ap (λ (y : Option LineTable × List ℕ). revision y.0) (ok_is {A = Option LineTable × List ℕ} (None, bytes) x e)
revision_is (suc (suc zero)) index words bytes x h e =
    let a = bind_ok (table_at index words bytes) (λ y. Ok (Some y.0, y.1)) x e in
    ap (λ (y : Option LineTable × List ℕ). revision y.0) (ok_is {A = Option LineTable × List ℕ} (Some a.0.0, a.0.1) x a.2)
revision_is (suc (suc (suc n))) index words bytes x h e = elim (or_cases (eqb (suc (suc (suc n))) 1) (eqb (suc (suc (suc n))) 2) h) [
  | inl one ↦ let same = eqb-true (suc (suc (suc n))) 1 one in absurd (omega arith)
  | inr two ↦ let same = eqb-true (suc (suc (suc n))) 2 two in absurd (omega arith)
]

-- ---- the whole

headers : {r t w n m r' t' w' n' m' : ℕ} (title rest : List ℕ) → r ≡ r' → t ≡ t' → w ≡ w' → n ≡ n' → m ≡ m'
    → header_text r t w n m title ++ rest ≡ header_text r' t' w' n' m' title ++ rest
headers title rest p0 p1 p2 p3 p4 = cc

pub sections_take : (bytes : List ℕ) (c : Cartridge) → IsBytes bytes → header_fault bytes ≡ None → sections_of bytes ≡ Ok c → IsCartridge c × (bytes ≡ cart_text c)
unfolding sections_of parts_of cart_text sections_text
sections_take bytes c fits none e =
    let head = headed bytes none in
    let r = ranges bytes head.ranged in
    let words = word_at 16 bytes in
    let n = word_at 20 bytes in
    let m = word_at 24 bytes in
    let last : List ℕ → List Image → List (List ℕ) → Option LineTable × List ℕ → Result (List ℕ × List Image × List (List ℕ) × Option LineTable) CartFault =
    λ p ts ss t. cond (eqb (length t.1) 0) (Ok (p, ts, ss, t.0)) (Err (At 82)) in
    let z = bind_ok (parts_of (word_at 8 bytes) words n m (drop 128 bytes)) (λ x. Ok (titled (title_at bytes) x)) c e in
    let a = bind_ok (program_at words (drop 128 bytes)) (λ p. many texture_section 1 1 n p.1 >>= λ ts. many sound_section 1 (1 + n) m ts.1 >>= λ ss. tail_at (word_at 8 bytes) (1 + n + m) words ss.1 >>= λ t. last p.0 ts.0 ss.0 t) z.0 z.1 in
    let b = bind_ok (many texture_section 1 1 n a.0.1) (λ ts. many sound_section 1 (1 + n) m ts.1 >>= λ ss. tail_at (word_at 8 bytes) (1 + n + m) words ss.1 >>= λ t. last a.0.0 ts.0 ss.0 t) z.0 a.2 in
    let d = bind_ok (many sound_section 1 (1 + n) m b.0.1) (λ ss. tail_at (word_at 8 bytes) (1 + n + m) words ss.1 >>= λ t. last a.0.0 b.0.0 ss.0 t) z.0 b.2 in
    let f = bind_ok (tail_at (word_at 8 bytes) (1 + n + m) words d.0.1) (λ t. last a.0.0 b.0.0 d.0.0 t) z.0 d.2 in
    let made : Cartridge = record { title = title_at bytes; program = a.0.0; textures = b.0.0; sounds = d.0.0; table = f.0.0 } in
    let found : List ℕ × List Image × List (List ℕ) × Option LineTable = (a.0.0, b.0.0, d.0.0, f.0.0) in
    let g = ended_ok (eqb (length f.0.1) 0) (At 82) found z.0 f.2 in
    let f0 = IsBytes-drop 128 bytes fits in
    let t0 = part_takes words (drop 128 bytes) a.0 f0 a.1 in
    let f1 = rest_fits (drop 128 bytes) (words_file_text a.0.0) a.0.1 f0 t0.2 in
    let t1 = many_takes texture_section texture_text IsTexture texture_part 1 1 n a.0.1 b.0 f1 b.1 in
    let f2 = rest_fits a.0.1 (flat_map texture_text b.0.0) b.0.1 f1 t1.2 in
    let t2 = many_takes sound_section sound_text IsSound sound_part 1 (1 + n) m b.0.1 d.0 f2 d.1 in
    let f3 = rest_fits b.0.1 (flat_map sound_text d.0.0) d.0.1 f2 t2.2 in
    let t3 = tail_takes (word_at 8 bytes) (1 + n + m) words d.0.1 f.0 f3 f.1 in
    let one = joined (drop 128 bytes) (words_file_text a.0.0) a.0.1 b.0.1 t0.2 (flat_map texture_text b.0.0) t1.2 in
    let two = joined (drop 128 bytes) (words_file_text a.0.0 ++ flat_map texture_text b.0.0) b.0.1 d.0.1 one (flat_map sound_text d.0.0) t2.2 in
    let three = joined (drop 128 bytes) (words_file_text a.0.0 ++ flat_map texture_text b.0.0 ++ flat_map sound_text d.0.0) d.0.1 f.0.1 two (tail_text f.0.0) t3.2 in
    let nothing : f.0.1 ≡ [] = nil_from_length f.0.1 (eqb-true _ _ g.0) in
    let body : drop 128 bytes ≡ sections_text made = three ∙ ap (λ (x : List ℕ). sections_text made ++ x) nothing ∙ append-nil (sections_text made) in
    let h = header_takes bytes fits head in
    let spelled : bytes ≡ header_text (word_at 8 bytes) (word_at 12 bytes) words n m (title_at bytes) ++ sections_text made = h.1 ∙ ap (λ (x : List ℕ). header_text (word_at 8 bytes) (word_at 12 bytes) words n m (title_at bytes) ++ x) body in
    let long = head.long in
    let whole : length bytes ≡ total made = omega (arith, ap length body, length-drop 128 bytes) in
    let table_fits : is_tail (length a.0.0) f.0.0 ≡ true = ap (λ (k : ℕ). is_tail k f.0.0) t0.1 ∙ t3.0 in
    let some = r.some in
    let few = r.words in
    let few_textures = r.textures in
    let few_sounds = r.sounds in
    let small = head.size in
    let counted = t0.1 in
    let textures_counted = t1.1 in
    let sounds_counted = t2.1 in
    let kept : is_cart made ≡ true = keeps made (record { title = h.0; some = omega arith; words = omega arith; textures = omega arith; sounds = omega arith; table = table_fits; size = omega arith }) in
    let is : IsCartridge made = record { limits = kept; program = t0.0.1; textures = t1.0; sounds = t2.0; table = t3.1 } in
    let r-is : word_at 8 bytes ≡ revision f.0.0 = revision_is (word_at 8 bytes) (1 + n + m) words d.0.1 f.0 head.revised f.1 in
    let total-is : word_at 12 bytes ≡ total made = head.total ∙ whole in
    let text : bytes ≡ cart_text made = spelled ∙ headers (title_at bytes) (sections_text made) r-is total-is (sym counted) (sym textures_counted) (sym sounds_counted) in
    subst (λ (y : Cartridge). IsCartridge y × (bytes ≡ cart_text y)) (ap (titled (title_at bytes)) g.1 ∙ ok_is (titled (title_at bytes) z.0) c z.2) (is, text)

revised : (o : Option LineTable) → is_revision (revision o) ≡ true
revised None = refl
revised (Some t) = refl

one_or_two : (o : Option LineTable) → revision o ≤ 2
one_or_two None = omega arith
one_or_two (Some t) = omega arith

assembled : (text : List ℕ) (c : Cartridge) (a b d : List ℕ) → program_at (word_at 16 text) (drop 128 text) ≡ Ok (c.program, a) → many texture_section 1 1 (word_at 20 text) a ≡ Ok (c.textures, b)
    → many sound_section 1 (1 + word_at 20 text) (word_at 24 text) b ≡ Ok (c.sounds, d) → tail_at (word_at 8 text) (1 + word_at 20 text + word_at 24 text) (word_at 16 text) d ≡ Ok (c.table, []) → title_at text ≡ c.title → sections_of text ≡ Ok c
unfolding sections_of parts_of
assembled text c a b d p q r s t = rw (p, q, r, s, t) refl

pub cart_again : (c : Cartridge) → IsCartridge c → cart_of (cart_text c) ≡ Ok c
unfolding cart_of cart_text sections_of sections_text
cart_again c is =
    let l = limits c is.limits in
    let some = l.some in
    let few = l.words in
    let few_textures = l.textures in
    let few_sounds = l.sounds in
    let small = l.size in
    let r = one_or_two c.table in
    let text = cart_text c in
    let h = header_again (revision c.table) (total c) (length c.program) (length c.textures) (length c.sounds) c.title (sections_text c)
    (omega arith) (omega arith) l.title (revised c.table) refl small some few few_textures few_sounds in
    let sounds_behind : List ℕ = flat_map sound_text c.sounds ++ (tail_text c.table ++ []) in
    let textures_behind : List ℕ = flat_map texture_text c.textures ++ sounds_behind in
    let regrouped : drop 128 text ≡ words_file_text c.program ++ textures_behind =
    h.6 ∙ sym (append-nil (sections_text c)) ∙ append_assoc (words_file_text c.program ++ flat_map texture_text c.textures ++ flat_map sound_text c.sounds) (tail_text c.table) []
    ∙ append_assoc (words_file_text c.program ++ flat_map texture_text c.textures) (flat_map sound_text c.sounds) (tail_text c.table ++ [])
    ∙ append_assoc (words_file_text c.program) (flat_map texture_text c.textures) sounds_behind in
    let tail_small : length (tail_text c.table) < 2 ^ 32 = omega (arith, sections_size c) in
    let p : program_at (word_at 16 text) (drop 128 text) ≡ Ok (c.program, textures_behind) = ap (λ (n : ℕ). program_at n (drop 128 text)) h.2 ∙ ap (program_at (length c.program)) regrouped ∙ part_again c.program textures_behind (few, is.program) in
    let ts : many texture_section 1 1 (word_at 20 text) textures_behind ≡ Ok (c.textures, sounds_behind) = ap (λ (n : ℕ). many texture_section 1 1 n textures_behind) h.3 ∙ many_again texture_section texture_text IsTexture texture_back 1 1 c.textures sounds_behind is.textures in
    let ss : many sound_section 1 (1 + word_at 20 text) (word_at 24 text) sounds_behind ≡ Ok (c.sounds, tail_text c.table ++ []) = ap (λ (n : ℕ). many sound_section 1 (1 + word_at 20 text) n sounds_behind) h.4 ∙ many_again sound_section sound_text IsSound sound_back 1 (1 + word_at 20 text) c.sounds (tail_text c.table ++ []) is.sounds in
    let t : tail_at (word_at 8 text) (1 + word_at 20 text + word_at 24 text) (word_at 16 text) (tail_text c.table ++ []) ≡ Ok (c.table, []) =
    ap (λ (n : ℕ). tail_at n (1 + word_at 20 text + word_at 24 text) (word_at 16 text) (tail_text c.table ++ [])) h.1
    ∙ ap (λ (n : ℕ). tail_at (revision c.table) (1 + word_at 20 text + word_at 24 text) n (tail_text c.table ++ [])) h.2
    ∙ tail_again (1 + word_at 20 text + word_at 24 text) (length c.program) c.table [] l.table is.table tail_small in
    let sections : sections_of text ≡ Ok c = assembled text c textures_behind sounds_behind (tail_text c.table ++ []) p ts ss t h.5 in
    ap (λ o. unless o (sections_of text)) (heads text h.0) ∙ sections

pub cart_takes : (bytes : List ℕ) (c : Cartridge) → IsBytes bytes → cart_of bytes ≡ Ok c → IsCartridge c × (bytes ≡ cart_text c)
unfolding cart_of
cart_takes bytes c fits e = elim (header_fault bytes) as (λ o. header_fault bytes ≡ o → unless o (sections_of bytes) ≡ Ok c → IsCartridge c × (bytes ≡ cart_text c)) [
  | None ↦ λ none h. sections_take bytes c fits none h
  | Some x ↦ λ some h. absurd cc
] refl e

pub cart_only : (bytes : List ℕ) (c : Cartridge) → IsCartridge c → bytes ≡ cart_text c → cart_of bytes ≡ Ok c
cart_only bytes c is e = ap cart_of e ∙ cart_again c is
