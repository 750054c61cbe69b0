-- One more argument of a form.
use Rattle.std.proofs.Common.{◌≡◌, ◌∙◌, ◌<◌, ◌+◌, ℕ, List, [], ◌∷◌, ◌++◌, map, length, take, get_or, ap, sym}
use Rattle.std.proofs.lemmas.List.{map-append, take_more}
use Rattle.std.specs.Borrow.{Bor}
use Rattle.clap.specs.Walk.{Rule, Text}
use Rattle.clap.specs.Simple.{with_rule}
use Rattle.kit_words.specs.inner.CommandLine.{form_alone, texts_of, required}

rules_more : (ids : List (Bor Text)) (i : ℕ) (d : Bor Text) → i < length ids
    → map required (texts_of (take i ids)) ++ required (get_or ids i d).now ∷ [] ≡ map required (texts_of (take (i + 1) ids))
rules_more ids i d lt =
    sym (map-append required (texts_of (take i ids)) ((get_or ids i d).now ∷ []))
    ∙ ap (map required) (sym (map-append (λ (x : Bor Text). x.now) (take i ids) (get_or ids i d ∷ [])))
    ∙ ap (λ xs. map required (texts_of xs)) (sym (take_more ids i d lt))

pub form_more : (name : Text) (ids : List (Bor Text)) (i : ℕ) (d : Bor Text) → i < length ids
    → with_rule (form_alone name (texts_of (take i ids))) (required (get_or ids i d).now) ≡ form_alone name (texts_of (take (i + 1) ids))
form_more name ids i d lt = ap (λ (rules : List Rule). record (form_alone name []) { top = record (form_alone name []).top { rules = rules } }) (rules_more ids i d lt)
