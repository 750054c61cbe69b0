use Rattle.std.proofs.Common.{inl, inr}
use Rattle.asm_laws.proofs.Deciding.{number_or_forbids, number_is_longest}
use Rattle.asm_laws.proofs.laws.places_have_numbers_or_are_forbidden.Goals as goal

pub returns : goal.returns
returns c = λ items front p e. elim (number_or_forbids items p (front, e)) [ inl k ↦ inl (k.0, number_is_longest items p k.0 k.1) | inr f ↦ inr f ]
