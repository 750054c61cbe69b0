-- The headers laid over the files: a header's name gives its text, whatever file has that name.
use Rattle.std.specs.Prelude.{ℕ, ◌≡◌, List, [], ◌∷◌, Option}
use Rattle.std.specs.Coded.{Coded, Coded-set, coded_ℕ, coded_list, coded_option}
use Rattle.std.specs.FinMap.{insert, code}
use Rattle.kit_base.specs.Held.{Held}
use Rattle.c_front.specs.Headers.{headers}

-- these entries laid over the files, the first of each name uppermost
abbrev pub laid : List (List ℕ × List ℕ) → Held → Held
laid [] m = m
laid (h ∷ hs) m = insert (laid hs m) h.0 h.1

unfoldable pub over : Held → Held
over m = laid headers m

-- what is held can be told apart, so an equation of it is a fact with one proof
abbrev held_code : Coded (Option Held)
held_code = coded_option (code (coded_list coded_ℕ) (coded_list coded_ℕ))

pub held_set : (a b : Option Held) (p q : a ≡ b) → p ≡ q
held_set a b p q = Coded-set held_code a b p q
