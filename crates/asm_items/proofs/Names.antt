-- Names in tables.
use Rattle.std.proofs.Common.{◌≡◌, ℕ, ◌<◌, Bool, true, false, cond, Option, Some, None, List, [], ◌∷◌, ◌++◌, map, refl, sym, ap, ◌∙◌, arith}
use Rattle.std.specs.Prelude.{◌↔◌, IsTrue, find, nat_lt, IsUtf8, codes}
use Rattle.std.specs.Char.{to_ascii_lowercase}
use Rattle.std.specs.List.{list_all}
use Rattle.std.specs.Option.{option_map}
use Rattle.std.specs.Str.{bytes_eq, IsAscii}
use Rattle.std.proofs.lemmas.Bool.Decides.{same_from_decides}
use Rattle.std.proofs.lemmas.Slice.Eq.{bytes_eq-Decides}
use Rattle.std.proofs.lemmas.Str.{IsUtf8-from_ascii}
use Rattle.std.proofs.lemmas.Str.Ascii.{IsAscii-nil, IsAscii-cons}
use Rattle.v32_isa.specs.Ports.{PortEntry, port_table, port_spelled, port_named, first_spelling}
use Rattle.asm_items.specs.Vocabulary.{is_spelled, named, registers}

pub same_test : (r : Bool) (word name : List ℕ) → (IsTrue r ↔ (map to_ascii_lowercase word ≡ map to_ascii_lowercase name)) → r ≡ is_spelled word name
unfolding is_spelled
same_test r word name test = same_from_decides r (is_spelled word name) test (bytes_eq-Decides (map to_ascii_lowercase word) (map to_ascii_lowercase name))

abbrev is_register : List ℕ × ℕ → Bool
is_register e = nat_lt e.1 16

registers_in_range : list_all is_register registers ≡ true
unfolding registers
registers_in_range = refl

register_found : (word : List ℕ) (es : List (List ℕ × ℕ)) (n : ℕ) → list_all is_register es ≡ true → named word es ≡ Some n → n < 16
register_found word [] n all is = absurd cc
register_found word (e ∷ es) n all is = grind (arith, register_found word es n)

pub register_in_range : (word : List ℕ) (n : ℕ) → named word registers ≡ Some n → n < 16
register_in_range word n is = register_found word registers n registers_in_range is

abbrev is_small : ℕ → Bool
is_small b = nat_lt b 128

ascii : (bs : List ℕ) → list_all is_small bs ≡ true → IsAscii bs
ascii [] h = IsAscii-nil
ascii (b ∷ bs) h = IsAscii-cons b bs (grind arith) (ascii bs (grind arith))

abbrev has_text : PortEntry → Bool
has_text e = list_all is_small e.name

all_have_texts : list_all has_text port_table ≡ true
unfolding port_table
all_have_texts = refl

same_text : (name spelled : List ℕ) → bytes_eq spelled name ≡ true → list_all is_small spelled ≡ true → list_all is_small name ≡ true
same_text name spelled same small = ap (list_all is_small) (sym ((bytes_eq-Decides spelled name).0 same)) ∙ small

found_text : (name : List ℕ) (es : List PortEntry) (e : PortEntry) → list_all has_text es ≡ true → find (λ x. bytes_eq x.name name) es ≡ Some e → list_all is_small name ≡ true
found_text name [] e all is = absurd cc
found_text name (x ∷ xs) e all is = grind (arith, found_text name xs e, same_text name x.name)

spelled_text : (name : List ℕ) (e : PortEntry) → port_spelled name ≡ Some e → list_all is_small name ≡ true
unfolding port_spelled
spelled_text name e is = found_text name port_table e all_have_texts is

second_text : (name spelled : List ℕ) → bytes_eq name spelled ≡ true → list_all is_small spelled ≡ true → list_all is_small name ≡ true
second_text name spelled same small = ap (list_all is_small) ((bytes_eq-Decides name spelled).0 same) ∙ small

abbrev x_axis : List ℕ
x_axis = codes "GPU_RegionHotSpotX"

abbrev y_axis : List ℕ
y_axis = codes "GPU_RegionHotSpotY"

named_at : (x y : Bool) (name one other : List ℕ) → bytes_eq name x_axis ≡ x → bytes_eq name y_axis ≡ y → list_all is_small (cond x one (cond y other name)) ≡ true → list_all is_small name ≡ true
named_at true y name one other is_x is_y small = second_text name x_axis is_x refl
named_at false true name one other is_x is_y small = second_text name y_axis is_y refl
named_at false false name one other is_x is_y small = small

named_text : (name : List ℕ) (e : PortEntry) → port_named name ≡ Some e → list_all is_small name ≡ true
unfolding port_named
named_text name e is = named_at (bytes_eq name x_axis) (bytes_eq name y_axis) name _ _ refl refl (spelled_text (first_spelling name) e is)

-- what is no text names no port
pub ports_are_texts : (name : List ℕ) (o : Option PortEntry) → (IsUtf8 name → ⊥) → port_named name ≡ o → None ≡ option_map (λ (e : PortEntry). e.number) o
ports_are_texts name None none is = refl
ports_are_texts name (Some e) none is = absurd (none (IsUtf8-from_ascii name (ascii name (named_text name e is))))

-- a table in two parts: what the first says, else what the second says
pub said_first : {T : Type 0} (word : List ℕ) (es fs : List (List ℕ × T)) (x : T) → Some x ≡ named word es → Some x ≡ named word (es ++ fs)
said_first word [] fs x is = absurd cc
said_first word (e ∷ es) fs x is = grind (arith, said_first word es fs x)

pub said_second : {T : Type 0} (word : List ℕ) (es fs : List (List ℕ × T)) → None ≡ named word es → named word fs ≡ named word (es ++ fs)
said_second word [] fs is = refl
said_second word (e ∷ es) fs is = grind (arith, said_second word es fs)
