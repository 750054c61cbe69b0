-- How lists of parts are read one by one, as the functions of this crate say it. Only private clauses cite this.
use Rattle.std.specs.Prelude.{ℕ, ◌+◌, ◌^◌, ◌-◌, Bool, length, min, map, List, [], ◌∷◌, ◌++◌, Ok}
use Rattle.c_tree.specs.declared.span.Span.{Span}
use Rattle.c_tree.specs.Tree.{VarT}
use Rattle.c_types.specs.Types.{MemberT, LayoutT}
use Rattle.c_types.specs.Sizes.{no_layout, capped}
use Rattle.c_exprs.specs.Env.{Text}
use Rattle.c_exprs.specs.Faults.{◌>>=◌, placed}
use Rattle.c_check.specs.Reading.{Un, record_entered, members_declared, with_layout}
use Rattle.c_check.specs.inner.ItemTyping.{Reads, member}

-- what is read stands behind these
abbrev pub before : {A : Type 0} → List A → Reads (List A) → Reads (List A)
before xs r = r >>= λ y. Ok (xs ++ y.0, y.1)

-- a layout that is read, as it stands in memory
abbrev pub counted : Reads LayoutT → Reads LayoutT
counted r = r >>= λ x. Ok (capped x.0, x.1)

-- the members one by one, with the words so far as they stand in memory
abbrev pub counted_members : Un → LayoutT → List VarT → Reads LayoutT
counted_members un seen [] = Ok (seen, un)
counted_members un seen (v ∷ vs) = counted (member un seen v) >>= λ x. counted_members x.1 x.0 vs

abbrev pub held_member : MemberT → MemberT
held_member m = record m { offset = min m.offset (2 ^ 32 - 1) }

-- A layout that was made so: more than 2^32 - 1 words are 2^32 - 1, those in front of a member too.
abbrev pub held : LayoutT → LayoutT
held l = record l { members = map held_member l.members; size = min l.size (2 ^ 32 - 1) }

-- a structure or union whose members are read so
unfoldable pub counted_record : Un → Bool → Text → List VarT → Span → Reads (Unit {0})
counted_record un is_union name vs s = do
  l ← counted_members (record_entered is_union name un) (no_layout is_union) vs
  n ← placed s (members_declared is_union name l.1 l.0)
  Ok (tt, with_layout n l.0 l.1)

-- how many structures and unions, enumerations, globals and functions are read
abbrev pub spent : Un → ℕ
spent un = length un.layouts + un.enums + length un.globals + length un.functions
