-- A project that is read is what the lines say, and what the lines say is read.
use Rattle.std.proofs.Common.{◌≡◌, ℕ, zero, suc, ◌+◌, ◌<◌, ◌≤◌, Bool, true, false, cond, ltb, ◌⊎◌, inl, inr, List, [], ◌∷◌, ◌++◌, length, refl, sym, ap, subst, ◌∙◌, append_assoc, append-nil, arith}
use Rattle.std.specs.Prelude.{Option, Some, None, Result, Ok, Err, IfOk}
use Rattle.std.specs.List.{AllZip}
use Rattle.std.proofs.lemmas.Bool.{ltb-true, lt-ltb}
use Rattle.std.proofs.lemmas.List.{length-append}
use Rattle.project_text.specs.declared.error.ProjectErr.{ProjectErr}
use Rattle.project_text.specs.declared.error.ProjectErr.TheVariants as errors
use Rattle.project_text.specs.declared.project.Project.{Project}
use Rattle.project_text.specs.Entries.{Entry, Nothing, Title, Source, Texture, Sound}
use Rattle.project_text.specs.Grammar.{IsLine, entry_of}
use Rattle.line_text.specs.Lines.{lines_of}
use Rattle.project_text.specs.ProjectText.{titles, sources, textures, sounds, Says, IsProject}
use Rattle.project_text.specs.Reading.{State, opened, Step, said, step, complete, after, read_from, project_of, Gives}
use Rattle.project_text.proofs.Entries.{entry_is, line_is}

abbrev pub known : Option (List ℕ) → List (List ℕ)
known None = []
known (Some x) = x ∷ []

abbrev st : Option (List ℕ) → Option (List ℕ) → List (List ℕ) → List (List ℕ) → State
st t f ts ss = record { title = t; source = f; textures = ts; sounds = ss }

-- what was said before the entries, with what they say, is the project
pub record Kept (t f : Option (List ℕ)) (ts ss : List (List ℕ)) (es : List Entry) (p : Project) : Type 0 where
  pub title : known t ++ titles es ≡ p.title ∷ []
  pub source : known f ++ sources es ≡ p.source ∷ []
  pub textures_are : ts ++ textures es ≡ p.textures
  pub sounds_are : ss ++ sounds es ≡ p.sounds
  pub few_textures : length p.textures ≤ 256
  pub few_sounds : length p.sounds ≤ 1024

abbrev Found : Option (List ℕ) → Option (List ℕ) → List (List ℕ) → List (List ℕ) → List (List ℕ) → Project → Type 0
Found t f ts ss lines p = (es : List Entry) × AllZip IsLine lines es × Kept t f ts ss es p

abbrev fine : Project → Result Project ProjectErr
fine p = Ok p

ok_is : (p q : Project) → fine p ≡ fine q → p ≡ q
ok_is p q e = cc

-- ---- what is read

ended : (number : ℕ) (t f : Option (List ℕ)) (ts ss : List (List ℕ)) (p : Project) → length ts ≤ 256 → length ss ≤ 1024 → complete number (st t f ts ss) t f ≡ Ok p → Kept t f ts ss [] p
ended number None f ts ss p few less e = absurd cc
ended number (Some t) None ts ss p few less e = absurd cc
ended number (Some t) (Some f) ts ss p few less e =
    let made : Project = record { title = t; source = f; textures = ts; sounds = ss } in
    subst (λ (q : Project). Kept (Some t) (Some f) ts ss [] q) (ok_is made p e)
    (record { title = refl; source = refl; textures_are = append-nil ts; sounds_are = append-nil ss; few_textures = few; few_sounds = less })

abbrev Rest : List (List ℕ) → Project → ℕ → Type 0
Rest lines p number = (t f : Option (List ℕ)) (ts ss : List (List ℕ)) → length ts ≤ 256 → length ss ≤ 1024 → read_from number (st t f ts ss) lines ≡ Ok p → Found t f ts ss lines p

counted : (b : Bool) (code number : ℕ) (s : State) (more : State → Result Project ProjectErr) (p : Project) → after number (cond b (Ok s) (Err code)) more ≡ Ok p → (b ≡ true) × (more s ≡ Ok p)
counted true code number s more p e = (refl, e)
counted false code number s more p e = absurd cc

by_entry : (line : List ℕ) (lines : List (List ℕ)) (p : Project) (number : ℕ) (e : Entry) (t f : Option (List ℕ)) (ts ss : List (List ℕ)) → IsLine line e → length ts ≤ 256 → length ss ≤ 1024
    → after number (said (st t f ts ss) (Some e)) (λ s'. read_from (number + 1) s' lines) ≡ Ok p → Rest lines p (number + 1) → Found t f ts ss (line ∷ lines) p
by_entry line lines p number Nothing t f ts ss is few less h rest =
    let r = rest t f ts ss few less h in (Nothing ∷ r.0, (is, r.1), record { title = r.2.title; source = r.2.source; textures_are = r.2.textures_are; sounds_are = r.2.sounds_are; few_textures = r.2.few_textures; few_sounds = r.2.few_sounds })
by_entry line lines p number (Title x) None f ts ss is few less h rest =
    let r = rest (Some x) f ts ss few less h in (Title x ∷ r.0, (is, r.1), record { title = r.2.title; source = r.2.source; textures_are = r.2.textures_are; sounds_are = r.2.sounds_are; few_textures = r.2.few_textures; few_sounds = r.2.few_sounds })
by_entry line lines p number (Title x) (Some old) f ts ss is few less h rest = absurd cc
by_entry line lines p number (Source x) t None ts ss is few less h rest =
    let r = rest t (Some x) ts ss few less h in (Source x ∷ r.0, (is, r.1), record { title = r.2.title; source = r.2.source; textures_are = r.2.textures_are; sounds_are = r.2.sounds_are; few_textures = r.2.few_textures; few_sounds = r.2.few_sounds })
by_entry line lines p number (Source x) t (Some old) ts ss is few less h rest = absurd cc
by_entry line lines p number (Texture x) t f ts ss is few less h rest =
    let c = counted (ltb (length ts) 256) 93 number (st t f (ts ++ x ∷ []) ss) (λ s'. read_from (number + 1) s' lines) p h in
    let room : length ts < 256 = ltb-true _ _ c.0 in
    let r = rest t f (ts ++ x ∷ []) ss (omega (arith, length-append ts (x ∷ []))) less c.1 in
    (Texture x ∷ r.0, (is, r.1), record { title = r.2.title; source = r.2.source; textures_are = sym (append_assoc ts (x ∷ []) (textures r.0)) ∙ r.2.textures_are; sounds_are = r.2.sounds_are; few_textures = r.2.few_textures; few_sounds = r.2.few_sounds })
by_entry line lines p number (Sound x) t f ts ss is few less h rest =
    let c = counted (ltb (length ss) 1024) 93 number (st t f ts (ss ++ x ∷ [])) (λ s'. read_from (number + 1) s' lines) p h in
    let room : length ss < 1024 = ltb-true _ _ c.0 in
    let r = rest t f ts (ss ++ x ∷ []) few (omega (arith, length-append ss (x ∷ []))) c.1 in
    (Sound x ∷ r.0, (is, r.1), record { title = r.2.title; source = r.2.source; textures_are = r.2.textures_are; sounds_are = sym (append_assoc ss (x ∷ []) (sounds r.0)) ∙ r.2.sounds_are; few_textures = r.2.few_textures; few_sounds = r.2.few_sounds })

found_from : (lines : List (List ℕ)) (p : Project) (number : ℕ) → Rest lines p number
unfolding read_from
found_from [] p number t f ts ss few less e = ([], tt, ended number t f ts ss p few less e)
found_from (line ∷ lines) p number t f ts ss few less e = elim (entry_of line) as (λ o. entry_of line ≡ o → after number (said (st t f ts ss) o) (λ s'. read_from (number + 1) s' lines) ≡ Ok p → Found t f ts ss (line ∷ lines) p) [
  | None ↦ λ is h. absurd cc
  | Some x ↦ λ is h. by_entry line lines p number x t f ts ss (entry_is line x is) few less h (found_from lines p (number + 1))
] refl e

-- ---- what the lines say

abbrev Back : List (List ℕ) → List Entry → Project → ℕ → Type 0
Back lines es p number = (t f : Option (List ℕ)) (ts ss : List (List ℕ)) → Kept t f ts ss es p → read_from number (st t f ts ss) lines ≡ Ok p

ends : (number : ℕ) (t f : Option (List ℕ)) (ts ss : List (List ℕ)) (p : Project) → Kept t f ts ss [] p → complete number (st t f ts ss) t f ≡ Ok p
ends number None f ts ss p k = let none = k.title in absurd cc
ends number (Some t) None ts ss p k = let none = k.source in absurd cc
ends number (Some t) (Some f) ts ss p k =
    let a : t ≡ p.title = let x = k.title in cc in
    let b : f ≡ p.source = let x = k.source in cc in
    let c : ts ≡ p.textures = sym (append-nil ts) ∙ k.textures_are in
    let d : ss ≡ p.sounds = sym (append-nil ss) ∙ k.sounds_are in
    ap (λ (x : List ℕ). fine (record { title = x; source = f; textures = ts; sounds = ss })) a ∙ ap (λ (x : List ℕ). fine (record { title = p.title; source = x; textures = ts; sounds = ss })) b
    ∙ ap (λ (x : List (List ℕ)). fine (record { title = p.title; source = p.source; textures = x; sounds = ss })) c ∙ ap (λ (x : List (List ℕ)). fine (record { title = p.title; source = p.source; textures = p.textures; sounds = x })) d

room_left : (xs ys all : List (List ℕ)) (x : List ℕ) (most : ℕ) → xs ++ (x ∷ ys) ≡ all → length all ≤ most → length xs < most
room_left xs ys all x most e le = omega (arith, ap length e, length-append xs (x ∷ ys))

said_back : (lines : List (List ℕ)) (es : List Entry) (p : Project) (number : ℕ) (e : Entry) (t f : Option (List ℕ)) (ts ss : List (List ℕ)) → Kept t f ts ss (e ∷ es) p → Back lines es p (number + 1)
    → after number (said (st t f ts ss) (Some e)) (λ s'. read_from (number + 1) s' lines) ≡ Ok p
said_back lines es p number Nothing t f ts ss k rest = rest t f ts ss (record { title = k.title; source = k.source; textures_are = k.textures_are; sounds_are = k.sounds_are; few_textures = k.few_textures; few_sounds = k.few_sounds })
said_back lines es p number (Title x) None f ts ss k rest = rest (Some x) f ts ss (record { title = k.title; source = k.source; textures_are = k.textures_are; sounds_are = k.sounds_are; few_textures = k.few_textures; few_sounds = k.few_sounds })
said_back lines es p number (Title x) (Some old) f ts ss k rest = let two = ap length k.title in absurd (omega arith)
said_back lines es p number (Source x) t None ts ss k rest = rest t (Some x) ts ss (record { title = k.title; source = k.source; textures_are = k.textures_are; sounds_are = k.sounds_are; few_textures = k.few_textures; few_sounds = k.few_sounds })
said_back lines es p number (Source x) t (Some old) ts ss k rest = let two = ap length k.source in absurd (omega arith)
said_back lines es p number (Texture x) t f ts ss k rest =
    let room = room_left ts (textures es) p.textures x 256 k.textures_are k.few_textures in
    rw (lt-ltb (length ts) 256 room) (rest t f (ts ++ x ∷ []) ss (record { title = k.title; source = k.source; textures_are = append_assoc ts (x ∷ []) (textures es) ∙ k.textures_are; sounds_are = k.sounds_are; few_textures = k.few_textures; few_sounds = k.few_sounds }))
said_back lines es p number (Sound x) t f ts ss k rest =
    let room = room_left ss (sounds es) p.sounds x 1024 k.sounds_are k.few_sounds in
    rw (lt-ltb (length ss) 1024 room) (rest t f ts (ss ++ x ∷ []) (record { title = k.title; source = k.source; textures_are = k.textures_are; sounds_are = append_assoc ss (x ∷ []) (sounds es) ∙ k.sounds_are; few_textures = k.few_textures; few_sounds = k.few_sounds }))

back_from : (lines : List (List ℕ)) (es : List Entry) (p : Project) (number : ℕ) → AllZip IsLine lines es → Back lines es p number
unfolding read_from
back_from [] [] p number all t f ts ss k = ends number t f ts ss p k
back_from [] (e ∷ es) p number all t f ts ss k = absurd all
back_from (line ∷ lines) [] p number all t f ts ss k = absurd all
back_from (line ∷ lines) (e ∷ es) p number all t f ts ss k =
    ap (λ o. after number (said (st t f ts ss) o) (λ s'. read_from (number + 1) s' lines)) (line_is line e all.0) ∙ said_back lines es p number e t f ts ss k (back_from lines es p (number + 1) all.1)

-- ---- the whole

pub found : (bytes : List ℕ) (p : Project) → project_of bytes ≡ Ok p → IsProject bytes p
unfolding project_of
found bytes p e =
    let r = found_from (lines_of bytes) p 1 None None [] [] (omega arith) (omega arith) e in
    let k = r.2 in
    (r.0, r.1, record { title = k.title; source = k.source; textures_are = k.textures_are; sounds_are = k.sounds_are; few_textures = k.few_textures; few_sounds = k.few_sounds })

pub is_found : (bytes : List ℕ) (r : Result Project ProjectErr) → Gives r (project_of bytes) → IfOk r (λ p. IsProject bytes p)
is_found bytes (Ok p) given = found bytes p given
is_found bytes (Err e) given = tt

pub only : (bytes : List ℕ) (p : Project) → IsProject bytes p → project_of bytes ≡ Ok p
unfolding project_of
only bytes p is =
    let k = is.2 in
    back_from (lines_of bytes) is.0 p 1 is.1 None None [] [] (record { title = k.title; source = k.source; textures_are = k.textures_are; sounds_are = k.sounds_are; few_textures = k.few_textures; few_sounds = k.few_sounds })
