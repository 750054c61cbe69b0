-- What the files hold with the headers laid over them.
use Rattle.std.proofs.Common.{ℕ, ◌≡◌, ◌≤◌, Bool, true, false, cond, List, [], ◌∷◌, length, refl, sym, ap, ◌∙◌}
use Rattle.std.specs.Prelude.{Option, Some, None, Result, Ok, Err, Vec, IfSome, find, option_map, nat_le, if◌then◌else◌}
use Rattle.std.specs.List.{list_all}
use Rattle.std.specs.Str.{bytes_eq}
use Rattle.std.specs.declared.alloc.Global.{Global}
use Rattle.std.proofs.lemmas.Bool.{leb-true, and_parts}
use Rattle.std.proofs.lemmas.Cmp.{nat_list_cmp_total}
use Rattle.std.proofs.lemmas.Map.Text.{is_eq-slice_cmp}
use Rattle.std.specs.FinMap.{get, get-insert}
use Rattle.kit_base.specs.Held.{Held}
use Rattle.kit_base.specs.Outside.{Answers, due, due_of}
use Rattle.kit_base.specs.declared.outside.FileErr.{FileErr}
use Rattle.kit_base.specs.declared.outside.FileErr.TheVariants as errors
use Rattle.c_front.specs.Headers.{headers, text_of}
use Rattle.c_front.specs.Over.{laid, over}

abbrev Entry : Type 0
Entry = List ℕ × List ℕ

abbrev or_else : Option (List ℕ) → Option (List ℕ) → Option (List ℕ)
or_else None y = y
or_else (Some x) y = Some x

abbrev found : List ℕ → List Entry → Option (List ℕ)
found name hs = option_map (λ h. h.1) (find (λ h. bytes_eq name h.0) hs)

get_laid : (hs : List Entry) (m : Held) (name : List ℕ) → get (laid hs m) name ≡ or_else (found name hs) (get m name)
get_laid [] m name = refl
get_laid (h ∷ hs) m name =
    get-insert nat_list_cmp_total (laid hs m) h.0 h.1 name
    ∙ ap (λ b. cond b (Some h.1) (get (laid hs m) name)) (is_eq-slice_cmp name h.0)
    ∙ elim (bytes_eq name h.0) as (λ b. cond b (Some h.1) (get (laid hs m) name) ≡ or_else (option_map (λ k. k.1) (cond b (Some h) (find (λ k. bytes_eq name k.0) hs))) (get m name))
    [ true ↦ refl | false ↦ get_laid hs m name ]

get_over : (m : Held) (name : List ℕ) → get (over m) name ≡ or_else (text_of name) (get m name)
unfolding over text_of
get_over m name = get_laid headers m name

pub over_header : (m : Held) (name text : List ℕ) → text_of name ≡ Some text → get (over m) name ≡ Some text
over_header m name text is = get_over m name ∙ ap (λ o. or_else o (get m name)) is

pub over_other : (m : Held) (name : List ℕ) → text_of name ≡ None → get (over m) name ≡ get m name
over_other m name is = get_over m name ∙ ap (λ o. or_else o (get m name)) is

abbrev is_short : List ℕ → Bool
is_short text = nat_le (length text) 268435456

all_short : list_all (λ h. is_short h.1) headers ≡ true
unfolding headers
all_short = refl

found_short : (hs : List Entry) (name text : List ℕ) → list_all (λ h. is_short h.1) hs ≡ true → found name hs ≡ Some text → is_short text ≡ true
found_short [] name text all is = cc
found_short (h ∷ hs) name text all is =
    let parts : (is_short h.1 ≡ true) × (list_all (λ k. is_short k.1) hs ≡ true) = and_parts _ _ all in
    (elim (bytes_eq name h.0) as (λ b. option_map (λ k. k.1) (cond b (Some h) (find (λ k. bytes_eq name k.0) hs)) ≡ Some text → is_short text ≡ true)
    [ true ↦ (λ e. let same : h.1 ≡ text = cc in ap is_short (sym same) ∙ parts.0) | false ↦ (λ e. found_short hs name text parts.1 e) ]) is

text_short : (name text : List ℕ) → text_of name ≡ Some text → is_short text ≡ true
unfolding text_of
text_short name text is = found_short headers name text all_short is

pub text_fits : (name text : List ℕ) → text_of name ≡ Some text → length text ≤ 268435456
text_fits name text is = leb-true (length text) 268435456 (text_short name text is)

pub due_header : (m : Held) (name text : List ℕ) → text_of name ≡ Some text → due (over m) name ≡ Ok text
due_header m name text is = ap due_of (over_header m name text is) ∙ ap (λ b. if b then Ok text else Err errors.TooLong) (text_short name text is)

pub due_other : (m : Held) (name : List ℕ) → text_of name ≡ None → due (over m) name ≡ due m name
due_other m name is = ap due_of (over_other m name is)

abbrev Read : Type 0
Read = Result (Vec ℕ Global) FileErr

-- a header's text is due wherever it is told what is held
pub header_told : (o : Option Held) (name : List ℕ) (v : Vec ℕ Global) → text_of name ≡ Some v.items → IfSome (option_map over o) (λ m. Answers (Ok v) (due m name))
header_told None name v is = tt
header_told (Some m) name v is = due_header m name v.items is

-- what the files answer for another name is what is due there
pub other_told : (o : Option Held) (name : List ℕ) (r : Read) → text_of name ≡ None → IfSome o (λ m. Answers r (due m name)) → IfSome (option_map over o) (λ m. Answers r (due m name))
other_told None name r is told = tt
other_told (Some m) name r is told = rw (due_other m name is) told
