-- Look-ups in the table of macros.
use Rattle.std.proofs.Common.{◌≡◌, ℕ, true, false, cond, List, [], ◌∷◌, ◌++◌, refl, sym, ap, ◌∙◌}
use Rattle.std.specs.Prelude.{Some, is_some, bytes_eq}
use Rattle.indexmap.specs.IndexMap.{insert_entry}
use Rattle.c_lex.specs.declared.token.Kind.{Kind}
use Rattle.c_prep.specs.Macros.{Table, body_of}

-- a new name goes last
inserted : (name : List ℕ) (body : List Kind) (table : Table) → is_some (body_of table name) ≡ false → insert_entry bytes_eq table name body ≡ table ++ (name, body) ∷ []
inserted name body [] absent = refl
inserted name body (e ∷ es) absent = elim (bytes_eq name e.0) as (λ b. is_some (cond b (Some e.1) (body_of es name)) ≡ false → cond b ((e.0, body) ∷ es) (e ∷ insert_entry bytes_eq es name body) ≡ e ∷ es ++ (name, body) ∷ []) [
  | true ↦ λ h. absurd cc
  | false ↦ λ h. ap (λ (xs : Table). e ∷ xs) (inserted name body es h)
] absent

pub added : (key name : List ℕ) (body kinds : List Kind) (es new table : Table) → es ≡ table → key ≡ name → body ≡ kinds → is_some (body_of table name) ≡ false → new ≡ insert_entry bytes_eq es key body → table ++ (name, kinds) ∷ [] ≡ new
added key name body kinds es new table are is copied absent made =
    sym (made ∙ (λ i. insert_entry bytes_eq (are i) (is i) (copied i)) ∙ inserted name kinds table absent)
