-- Labels: names with their addresses.
use Rattle.std.specs.Prelude.{ℕ, List, [], ◌∷◌, ◌++◌, Bool, nat_lt, Option, is_some, unwrap_or, if◌then◌else◌, bytes_eq, ◌^◌}
use Rattle.std.specs.List.{list_all}
use Rattle.std.specs.Map.{lookup}

-- the address of the first label of that name
abbrev pub address_of : List (List ℕ × ℕ) → List ℕ → Option ℕ
address_of labels name = lookup (bytes_eq name) labels

abbrev pub has_label : List (List ℕ × ℕ) → List ℕ → Bool
has_label labels name = is_some (address_of labels name)

-- the word that stands for a name; 0 for a name that is no label
abbrev pub address_in : List (List ℕ × ℕ) → List ℕ → ℕ
address_in labels name = unwrap_or (address_of labels name) 0

-- with one label more, unless there is one of that name
abbrev pub with_label : List (List ℕ × ℕ) → List ℕ → ℕ → List (List ℕ × ℕ)
with_label labels name address = if has_label labels name then labels else labels ++ (name, address) ∷ []

-- each address is a word
abbrev pub are_words : List (List ℕ × ℕ) → Bool
are_words labels = list_all (λ e. nat_lt e.1 (2 ^ 32)) labels
