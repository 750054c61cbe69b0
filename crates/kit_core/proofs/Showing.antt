-- What was put by one put, and by two.
use Rattle.std.proofs.Common.{ℕ, ◌≡◌, inl, inr, List, [], ◌++◌, take, refl, sym, ap, ◌∙◌, append_assoc, append-nil}
use Rattle.std.proofs.Math.Seq.{take-length}
use Rattle.std.specs.Prelude.{Option, Some, None, length}
use Rattle.kit_base.specs.declared.failure.Failure.TheVariants as failures
use Rattle.kit_tools.specs.Refusal.{line_of}
use Rattle.kit_core.specs.Outcome.{putting}
use Rattle.kit_core.specs.inner.Putting.{Puts, Shows}

pub putting_nothing : (w : Option (List ℕ)) → w ≡ putting [] w
putting_nothing None = refl
putting_nothing (Some bytes) = ap Some (sym (append-nil bytes))

putting_both : (a b : List ℕ) (w : Option (List ℕ)) → putting b (putting a w) ≡ putting (a ++ b) w
putting_both a b None = refl
putting_both a b (Some bytes) = ap Some (append_assoc bytes a b)

-- one put of the whole text
pub shown_once : (full : ℕ) (whole : List ℕ) (status : ℕ) (before put : Option (List ℕ)) → Puts full whole status before put → Shows full whole status before put
shown_once full whole status before put (inl h) = inl h
shown_once full whole status before put (inr (s, (n, p))) = inr (s, (n, 0, p ∙ ap (λ xs. putting xs before) (sym (append-nil (take n whole)))))

-- a put of the whole text in which the sink wanted memory, and one of the line of 8
pub shown_twice : (full : ℕ) (whole : List ℕ) (status n : ℕ) (before middle put : Option (List ℕ))
    → middle ≡ putting (take n whole) before → Puts 8 (line_of failures.Memory) status middle put → Shows full whole status before put
shown_twice full whole status n before middle put m (inl (s, p)) =
    inr (
      inl s,
      (
        n,
        length (line_of failures.Memory),
        p ∙ ap (putting (line_of failures.Memory)) m ∙ putting_both (take n whole) (line_of failures.Memory) before
            ∙ ap (λ xs. putting (take n whole ++ xs) before) (sym (take-length (line_of failures.Memory))),
      ),
    )
shown_twice full whole status n before middle put m (inr (s, (k, p))) =
    inr (s, (n, k, p ∙ ap (putting (take k (line_of failures.Memory))) m ∙ putting_both (take n whole) (take k (line_of failures.Memory)) before))

-- the line of 8 in the place of another one
pub shown_instead : (full : ℕ) (whole : List ℕ) (status : ℕ) (before put : Option (List ℕ)) → Puts 8 (line_of failures.Memory) status before put → Shows full whole status before put
shown_instead full whole status before put h = shown_twice full whole status 0 before before put (putting_nothing before) h
