-- A loop over the lines of a text.
use Rattle.std.proofs.Common.{◌≡◌, ℕ, ◌+◌, List, [], ◌∷◌, ◌++◌, length, refl, sym, ap, ◌∙◌, arith, append_assoc}
use Rattle.std.specs.Prelude.{Ok, Err}
use Rattle.std.proofs.lemmas.List.{length-append}
use Rattle.line_text.specs.declared.reader.LineErr.{LineErr}
use Rattle.line_text.specs.declared.reader.LineErr.TheVariants as l
use Rattle.line_text.specs.Reading.{Step, Steps, Reads, Reading, placed, after, read_from, Refuses, Leaves}

module _ {S : Type 0} (step : S → List ℕ → Step S) (number : ℕ) (s : S) (lines : List (List ℕ)) (total : Reading S) where
  pub next : (s' : S) (line : List ℕ) (more : List (List ℕ)) → lines ≡ line ∷ more → step s line ≡ Ok s' → read_from step number s lines ≡ total → read_from step (number + 1) s' more ≡ total
  unfolding read_from
  next s' line more whole one so_far = let e : read_from step number s lines ≡ read_from step (number + 1) s' more = rw (whole, one) refl in sym e ∙ so_far

  pub fault : (code : ℕ) (line : List ℕ) (more : List (List ℕ)) → lines ≡ line ∷ more → step s line ≡ Err code → read_from step number s lines ≡ total → total ≡ Err (code, number)
  unfolding read_from
  fault code line more whole one so_far = let e : read_from step number s lines ≡ Err (code, number) = rw (whole, one) refl in sym so_far ∙ e

  pub done : lines ≡ [] → read_from step number s lines ≡ total → total ≡ Ok s
  unfolding read_from
  done empty so_far = let e : read_from step number s lines ≡ Ok s = rw empty refl in sym so_far ∙ e

  pub refused : (new new' : S) (x : LineErr) (line : List ℕ) (more : List (List ℕ)) → lines ≡ line ∷ more → Steps new (Err x) (step s line) → read_from step number s lines ≡ total → Reads new' (Err (placed x number)) total
  refused new new' l.Memory line more whole one so_far = tt
  refused new new' (l.Code code) line more whole one so_far = fault code line more whole one so_far

-- ---- the lines that were taken

ok_is : {S : Type 0} {x y : S} → (let r : Reading S = Ok x in r ≡ Ok y) → x ≡ y
ok_is h = cc

-- so far the lines are these, and made that of the value; the number is that of the next one
pub record Taken {S : Type 0} (step : S → List ℕ → Step S) (old : S) (lines : List (List ℕ)) (number : ℕ) (new : S) (left : List (List ℕ)) : Type 0 where
  pub before : List (List ℕ)
  pub whole : lines ≡ before ++ left
  pub taken : read_from step 1 old before ≡ Ok new
  pub counted : number ≡ length before + 1

module _ {S : Type 0} (step : S → List ℕ → Step S) where
  one_more : (number : ℕ) (s : S) (lines : List (List ℕ)) (s' s'' : S) (line : List ℕ) → read_from step number s lines ≡ Ok s' → step s' line ≡ Ok s'' → read_from step number s (lines ++ line ∷ []) ≡ Ok s''
  unfolding read_from
  one_more number s [] s' s'' line e one = let same : s ≡ s' = ok_is e in let at : step s line ≡ Ok s'' = ap (λ (x : S). step x line) same ∙ one in rw at refl
  one_more number s (first ∷ lines) s' s'' line e one = go (step s first) e (λ x h. one_more (number + 1) x lines s' s'' line h one)
    where
      go : (r : Step S) → after number r (λ (x : S). read_from step (number + 1) x lines) ≡ Ok s'
          → ((x : S) → read_from step (number + 1) x lines ≡ Ok s' → read_from step (number + 1) x (lines ++ line ∷ []) ≡ Ok s'')
          → after number r (λ (x : S). read_from step (number + 1) x (lines ++ line ∷ [])) ≡ Ok s''
      go (Ok x) h more = more x h
      go (Err code) h more = absurd cc

  module _ (old : S) (lines : List (List ℕ)) where
    pub taken_none : Taken step old lines 1 old lines
    unfolding read_from
    taken_none = record { before = []; whole = refl; taken = refl; counted = refl }

    pub taken_more : (number : ℕ) (s s' : S) (left : List (List ℕ)) (line : List ℕ) (more : List (List ℕ)) → left ≡ line ∷ more → step s line ≡ Ok s' → Taken step old lines number s left → Taken step old lines (number + 1) s' more
    taken_more number s s' left line more whole one t =
        let counted = t.counted in
        let longer = length-append t.before (line ∷ []) in
        record {
          before = t.before ++ line ∷ [];
          whole = t.whole ∙ ap (λ (ls : List (List ℕ)). t.before ++ ls) whole ∙ sym (append_assoc t.before (line ∷ []) more);
          taken = one_more 1 old t.before s s' line t.taken one;
          counted = omega (arith, counted, longer);
        }

    refuses : (number at : ℕ) (s s' : S) (x : LineErr) (line : List ℕ) → number ≡ at → s' ≡ s → Steps s' (Err x) (step s line) → Refuses step s' line at (placed x number)
    refuses number at s s' l.Memory line e same steps = tt
    refuses number at s s' (l.Code code) line e same steps = (ap (λ (y : S). step y line) same ∙ steps, e)

    pub taken_all : (number : ℕ) (s s' : S) (left : List (List ℕ)) (x : LineErr) (line : List ℕ) (more : List (List ℕ)) → left ≡ line ∷ more → Steps s' (Err x) (step s line) → s' ≡ s → Taken step old lines number s left → Leaves step old lines s' (placed x number)
    taken_all number s s' left x line more whole steps same t = record {
      before = t.before;
      line = line;
      after = more;
      whole = t.whole ∙ ap (λ (ls : List (List ℕ)). t.before ++ ls) whole;
      taken = t.taken ∙ ap (λ (y : S). let r : Reading S = Ok y in r) (sym same);
      refused = refuses number (length t.before + 1) s s' x line t.counted same steps;
    }
