-- Reading what repeats outside expressions, each part by a reader that is given.
use Rattle.std.specs.Prelude.{Bool, true, false, List, [], ◌∷◌, ◌++◌, Option, Some, None, Result, Ok}
use Rattle.c_parse.specs.declared.fault.Fault.{Fault}
use Rattle.c_parse.specs.Tok.{Tok}
use Rattle.c_parse.specs.inner.Reader.{◌>>=◌, Got, Reader, Turn, loop, behind, at_comma, at_more, at_close_brace}

-- one more, behind the comma where there is one
abbrev pub pushed : {A : Type 0} → List A → Got A → Result (Option (Got (List A))) Fault
pushed xs x = Ok (Some (xs ++ x.0 ∷ [], x.1))

abbrev pub comma_by : {A : Type 0} → Reader A → List A → List Tok → Bool → Result (Option (Got (List A))) Fault
comma_by read xs ts false = Ok None
comma_by read xs ts true = read (behind ts) >>= pushed xs

abbrev pub comma_turn : {A : Type 0} → Reader A → Turn (List A)
comma_turn read xs ts = comma_by read xs ts (at_comma ts)

-- one or more, parted by commas
abbrev pub separated : {A : Type 0} → Reader A → Reader (List A)
separated read ts = do
  x ← read ts
  loop (comma_turn read) (x.0 ∷ []) x.1

abbrev pub more_turn : {A : Type 0} → Reader A → Turn (List A)
more_turn read xs ts = comma_by read xs ts (at_more ts)

-- the same, where a comma may stand before the brace that closes the list
abbrev pub listed : {A : Type 0} → Reader A → Reader (List A)
listed read ts = do
  x ← read ts
  loop (more_turn read) (x.0 ∷ []) x.1

abbrev pub brace_by : {A : Type 0} → Reader A → List A → List Tok → Bool → Result (Option (Got (List A))) Fault
brace_by read xs ts true = Ok None
brace_by read xs ts false = read ts >>= pushed xs

abbrev pub brace_turn : {A : Type 0} → Reader A → Turn (List A)
brace_turn read xs ts = brace_by read xs ts (at_close_brace ts)

-- any number, up to the closing brace
abbrev pub braced : {A : Type 0} → Reader A → Reader (List A)
braced read ts = loop (brace_turn read) [] ts
