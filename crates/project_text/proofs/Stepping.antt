-- A loop over the lines of a project.
use Rattle.std.proofs.Common.{◌≡◌, ℕ, ◌+◌, List, [], ◌∷◌, refl, sym, ap, ◌∙◌}
use Rattle.std.specs.Prelude.{Result, Ok, Err}
use Rattle.project_text.specs.declared.error.ProjectErr.{ProjectErr}
use Rattle.project_text.specs.declared.error.ProjectErr.TheVariants as errors
use Rattle.project_text.specs.declared.project.Project.{Project}
use Rattle.project_text.specs.Reading.{State, Steps, Fails, Gives, step, complete, read_from}

module _ (number : ℕ) (s : State) (lines : List (List ℕ)) (total : Result Project ProjectErr) where
  pub next : (s' : State) (line : List ℕ) (more : List (List ℕ)) → lines ≡ line ∷ more → step s line ≡ Ok s' → read_from number s lines ≡ total → read_from (number + 1) s' more ≡ total
  unfolding read_from
  next s' line more whole one so_far = let e : read_from number s lines ≡ read_from (number + 1) s' more = rw (whole, one) refl in sym e ∙ so_far

  fault : (code : ℕ) (line : List ℕ) (more : List (List ℕ)) → lines ≡ line ∷ more → step s line ≡ Err code → read_from number s lines ≡ total → total ≡ Err (errors.At code number)
  unfolding read_from
  fault code line more whole one so_far = let e : read_from number s lines ≡ Err (errors.At code number) = rw (whole, one) refl in sym so_far ∙ e

  pub done : lines ≡ [] → read_from number s lines ≡ total → total ≡ complete number s s.title s.source
  unfolding read_from
  done empty so_far = let e : read_from number s lines ≡ complete number s s.title s.source = rw empty refl in sym so_far ∙ e

  pub refused : (new : State) (e : ProjectErr) (line : List ℕ) (more : List (List ℕ)) → lines ≡ line ∷ more → Steps new number (Err e) (step s line) → read_from number s lines ≡ total → Fails e total
  refused new errors.Memory line more whole one so_far = tt
  refused new (errors.At code at) line more whole one so_far = fault code line more whole one.1 so_far ∙ ap (λ (n : ℕ). Err (errors.At code n)) (sym one.0)
