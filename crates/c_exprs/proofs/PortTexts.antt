-- The names of ports are texts.
use Rattle.std.proofs.Common.{◌≡◌, ℕ, Bool, true, false, cond, Option, Some, None, List, [], ◌∷◌, refl, sym, ap, ◌∙◌, arith}
use Rattle.std.specs.Prelude.{find, nat_lt, IsUtf8, codes}
use Rattle.std.specs.List.{list_all}
use Rattle.std.specs.Str.{bytes_eq, IsAscii}
use Rattle.std.proofs.lemmas.Slice.Eq.{bytes_eq-Decides}
use Rattle.std.proofs.lemmas.Str.{IsUtf8-from_ascii}
use Rattle.std.proofs.lemmas.Str.Ascii.{IsAscii-nil, IsAscii-cons}
use Rattle.v32_isa.specs.Ports.{PortEntry, port_table, port_spelled, port_named, first_spelling}

abbrev is_small : ℕ → Bool
is_small b = nat_lt b 128

ascii : (bs : List ℕ) → list_all is_small bs ≡ true → IsAscii bs
ascii [] h = IsAscii-nil
ascii (b ∷ bs) h = IsAscii-cons b bs (grind arith) (ascii bs (grind arith))

abbrev has_text : PortEntry → Bool
has_text e = list_all is_small e.name

all_have_texts : list_all has_text port_table ≡ true
unfolding port_table
all_have_texts = refl

same_text : (name spelled : List ℕ) → bytes_eq spelled name ≡ true → list_all is_small spelled ≡ true → list_all is_small name ≡ true
same_text name spelled same small = ap (list_all is_small) (sym ((bytes_eq-Decides spelled name).0 same)) ∙ small

found_text : (name : List ℕ) (es : List PortEntry) (e : PortEntry) → list_all has_text es ≡ true → find (λ x. bytes_eq x.name name) es ≡ Some e → list_all is_small name ≡ true
found_text name [] e all is = absurd cc
found_text name (x ∷ xs) e all is = grind (arith, found_text name xs e, same_text name x.name)

spelled_text : (name : List ℕ) (e : PortEntry) → port_spelled name ≡ Some e → list_all is_small name ≡ true
unfolding port_spelled
spelled_text name e is = found_text name port_table e all_have_texts is

second_text : (name spelled : List ℕ) → bytes_eq name spelled ≡ true → list_all is_small spelled ≡ true → list_all is_small name ≡ true
second_text name spelled same small = ap (list_all is_small) ((bytes_eq-Decides name spelled).0 same) ∙ small

abbrev x_axis : List ℕ
x_axis = codes "GPU_RegionHotSpotX"

abbrev y_axis : List ℕ
y_axis = codes "GPU_RegionHotSpotY"

named_at : (x y : Bool) (name one other : List ℕ) → bytes_eq name x_axis ≡ x → bytes_eq name y_axis ≡ y → list_all is_small (cond x one (cond y other name)) ≡ true → list_all is_small name ≡ true
named_at true y name one other is_x is_y small = second_text name x_axis is_x refl
named_at false true name one other is_x is_y small = second_text name y_axis is_y refl
named_at false false name one other is_x is_y small = small

named_text : (name : List ℕ) (e : PortEntry) → port_named name ≡ Some e → list_all is_small name ≡ true
unfolding port_named
named_text name e is = named_at (bytes_eq name x_axis) (bytes_eq name y_axis) name _ _ refl refl (spelled_text (first_spelling name) e is)

none_at : (name : List ℕ) (o : Option PortEntry) → (IsUtf8 name → ⊥) → port_named name ≡ o → None ≡ o
none_at name None none is = refl
none_at name (Some e) none is = absurd (none (IsUtf8-from_ascii name (ascii name (named_text name e is))))

-- what is no text names no port
pub no_text : (name : List ℕ) → (IsUtf8 name → ⊥) → None ≡ port_named name
no_text name none = none_at name (port_named name) none refl
