-- A refusal inside a longer list of effects.
use Rattle.std.proofs.Common.{ℕ, ◌≡◌, List, ◌++◌, refl, sym, subst, inl}
use Rattle.std.specs.Prelude.{Option, Result, IfErr}
use Rattle.std.proofs.lemmas.Result.{IfErr-weaker}
use Rattle.kit_base.specs.Held.{Held}
use Rattle.kit_base.specs.Effects.{Effect, all_done, written_file}
use Rattle.kit_base.proofs.Cuts.{cut_first, cut_second}
use Rattle.kit_base.specs.declared.failure.Failure.TheVariants as failures
use Rattle.kit_tools.specs.Refusal.{Refusal}
use Rattle.kit_tools.specs.declared.refusal.RefusalCause.TheVariants as refusals
use Rattle.kit_tools.specs.Carrying.{IsCut}

pub in_first : (e : Refusal) (es fs : List Effect) (before after : Option Held) → IsCut e es before after → IsCut e (es ++ fs) before after
in_first (failures.Cause (refusals.Due r)) es fs before after h = absurd h
in_first (failures.Cause (refusals.Failed name)) es fs before after h = cut_first name es fs before after h
in_first failures.Memory es fs before after h = (h.0, cut_first h.0 es fs before after h.1)

pub in_second : (e : Refusal) (es fs : List Effect) (before middle after : Option Held) → middle ≡ all_done es before → IsCut e fs middle after → IsCut e (es ++ fs) before after
in_second (failures.Cause (refusals.Due r)) es fs before middle after m h = absurd h
in_second (failures.Cause (refusals.Failed name)) es fs before middle after m h = cut_second name es fs before after (rw (← m) h)
in_second failures.Memory es fs before middle after m h = (h.0, cut_second h.0 es fs before after (rw (← m) h.1))

-- memory may run out before a file is begun
pub not_begun : (name bytes : List ℕ) (held : Option Held) → IsCut failures.Memory (written_file name bytes) held held
not_begun name bytes held = (name, inl (refl, inl refl))

-- the same of a result
pub not_begun_if : {T : Type 0} (r : Result T Refusal) (name bytes : List ℕ) (fs : List Effect) (held : Option Held)
    → IfErr r (λ e. e ≡ failures.Memory) → IfErr r (λ e. IsCut e (written_file name bytes ++ fs) held held)
not_begun_if r name bytes fs held h =
    IfErr-weaker r _ _ (λ e is. subst (λ x. IsCut x (written_file name bytes ++ fs) held held) (sym is) (in_first failures.Memory (written_file name bytes) fs held held (not_begun name bytes held))) h

pub in_first_if : {T : Type 0} (r : Result T Refusal) (es fs : List Effect) (before after : Option Held)
    → IfErr r (λ e. IsCut e es before after) → IfErr r (λ e. IsCut e (es ++ fs) before after)
in_first_if r es fs before after h = IfErr-weaker r _ _ (λ e. in_first e es fs before after) h

pub in_second_if : {T : Type 0} (r : Result T Refusal) (es fs : List Effect) (before middle after : Option Held)
    → middle ≡ all_done es before → IfErr r (λ e. IsCut e fs middle after) → IfErr r (λ e. IsCut e (es ++ fs) before after)
in_second_if r es fs before middle after m h = IfErr-weaker r _ _ (λ e. in_second e es fs before middle after m) h
