-- The headers: their names and their texts (the page of the C dialect, section on headers).
use Rattle.std.specs.Prelude.{ℕ, ◌==◌, ◌-◌, Bool, true, not, ◌&&◌, if◌then◌else◌, List, [], ◌∷◌, ◌++◌, map, Option, find, codes, nat_eq}
use Rattle.std.specs.List.{starts_with, ends_with, list_any}
use Rattle.std.specs.Option.{option_map}
use Rattle.std.specs.Str.{bytes_eq}
use Rattle.c_front.specs.declared.headers.video.TheConstants.{VIDEO}
use Rattle.c_front.specs.declared.headers.audio.TheConstants.{AUDIO}
use Rattle.c_front.specs.declared.headers.input.TheConstants.{INPUT}
use Rattle.c_front.specs.declared.headers.time.TheConstants.{TIME}
use Rattle.c_front.specs.declared.headers.math.TheConstants.{MATH}
use Rattle.c_front.specs.declared.headers.memcard.TheConstants.{MEMCARD}
use Rattle.c_front.specs.declared.headers.string.TheConstants.{STRING}
use Rattle.c_front.specs.declared.headers.misc.TheConstants.{MISC}

-- the names of the headers
unfoldable pub header_names : List (List ℕ)
header_names =
    codes "video.h" ∷ codes "audio.h" ∷ codes "input.h" ∷ codes "time.h" ∷
    codes "math.h" ∷ codes "memcard.h" ∷ codes "string.h" ∷ codes "misc.h" ∷ []

-- whether no two names are equal
unfoldable pub differ : List (List ℕ) → Bool
differ [] = true
differ (name ∷ names) = not (list_any (bytes_eq name) names) && differ names

-- a header: its name and its text
abbrev Header : Type 0
Header = List ℕ × List ℕ

unfoldable pub headers : List Header
headers =
    (codes "video.h", VIDEO.now) ∷
    (codes "audio.h", AUDIO.now) ∷
    (codes "input.h", INPUT.now) ∷
    (codes "time.h", TIME.now) ∷
    (codes "math.h", MATH.now) ∷
    (codes "memcard.h", MEMCARD.now) ∷
    (codes "string.h", STRING.now) ∷
    (codes "misc.h", MISC.now) ∷
    []

-- the text of the header of a name
unfoldable pub text_of : List ℕ → Option (List ℕ)
text_of name = option_map (λ h. h.1) (find (λ h. bytes_eq name h.0) headers)

-- the name that guards a header against a second inclusion: `VIDEO_H` for `video.h`
abbrev pub guard_of : List ℕ → List ℕ
guard_of name = map (λ b. if b == 0x2E then 0x5F else b - 0x20) name

-- whether the text is a condition on its guard, with the guard's definition first
unfoldable pub guarded : Header → Bool
guarded h =
    starts_with nat_eq h.1 (codes "#ifndef " ++ guard_of h.0 ++ 0x0A ∷ codes "#define " ++ guard_of h.0 ++ 0x0A ∷ [])
    && ends_with nat_eq h.1 (0x0A ∷ codes "#endif" ++ 0x0A ∷ [])
