-- No unit begins with the tokens up to and including the one that a fault names, and none of at most 200 trees on a path where they are too deep.
use Rattle.std.proofs.Common.{◌≡◌, suc, List, ◌∷◌, ◌++◌, length, Err}
use Rattle.c_tree.specs.Tree.{ItemT}
use Rattle.c_parse.specs.declared.fault.Fault.TheVariants.{Syntax, TooDeep}
use Rattle.c_parse.specs.Tok.{Tok}
use Rattle.c_parse.specs.Units.{Unit_, Derives}
use Rattle.c_parse.specs.inner.ReadingUnits.{unit_at}
use Rattle.c_parse.proofs.LocalUnits.{shifted, KnownOf, syntax_stays, too_deep_stays}
use Rattle.c_parse.proofs.Shrinking.{known}
use Rattle.c_parse.proofs.TypeAgain.{type_again}
use Rattle.c_parse.proofs.UnitReads.{never_faulty, derived_no_fault}

known_of : (pre : List Tok) (o : Tok) (more more' : List Tok) → KnownOf pre o more more'
known_of pre o more more' =
    known more more' (length (pre ++ (o ∷ more))) (length (pre ++ (o ∷ more'))) (shifted pre o more more')
    (λ types room ts x. type_again (record { total = length (pre ++ (o ∷ more)); types = types }) room ts x)

-- of any depth
pub no_unit_begins : (pre : List Tok) (o : Tok) (more : List Tok) → unit_at 199 (pre ++ (o ∷ more)) ≡ Err (Syntax (suc (length more)))
    → (more' : List Tok) (ds : List ItemT) → Unit_ (pre ++ (o ∷ more')) ds → ⊥
no_unit_begins pre o more fault more' ds d =
    let s = syntax_stays pre o more more' (known_of pre o more more') 197 fault in never_faulty (pre ++ (o ∷ more')) ds s.0 d s.1

pub no_shallow_unit_begins : (pre : List Tok) (o : Tok) (more : List Tok) → unit_at 199 (pre ++ (o ∷ more)) ≡ Err (TooDeep (suc (length more)))
    → (more' : List Tok) (ds : List ItemT) → Derives (pre ++ (o ∷ more')) ds → ⊥
no_shallow_unit_begins pre o more fault more' ds d =
    let s = too_deep_stays pre o more more' (known_of pre o more more') 197 fault in derived_no_fault (pre ++ (o ∷ more')) ds (TooDeep s.0) d s.1
