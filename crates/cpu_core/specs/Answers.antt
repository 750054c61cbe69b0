-- A bus that answers from a list, whatever the port.
use Rattle.std.specs.Prelude.{ℕ, List, [], ◌∷◌, Option, Some, None, ◌≡◌}
use Rattle.kit_base.specs.declared.event.Event.{Event}
use Rattle.kit_base.specs.declared.event.Event.TheVariants as event

-- the answers left, and the event that was made last, where it was not taken out
pub record Answers : Type 0 where
  pub left : List ℕ
  pub made : Option Event

abbrev pub AnswersFrom : List ℕ → Answers → ℕ → Option ℕ → Answers → Type 0
AnswersFrom [] b port answer c = (answer ≡ None) × (c ≡ b)
AnswersFrom (word ∷ words) b port answer c = (answer ≡ Some word) × (c ≡ record { left = words; made = Some (event.In port word) })

-- a port that is asked gives the first answer left; with none left there is no answer, and nothing changes
abbrev pub Answering : Answers → ℕ → Option ℕ → Answers → Type 0
Answering b port answer c = AnswersFrom b.left b port answer c

-- a port that is told a word makes that event
abbrev pub Telling : Answers → ℕ → ℕ → Answers → Type 0
Telling b port word c = c ≡ record { left = b.left; made = Some (event.Out port word) }
