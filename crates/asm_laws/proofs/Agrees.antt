-- The words of a program agree with its placed code, within its work.
use Rattle.std.proofs.Common.{ℕ, List, Option}
use Rattle.std.specs.Prelude.{is_some}
use Rattle.v32_isa.specs.Calls.{IsNested}
use Rattle.obj_mem.specs.Runs.{IsCard}
use Rattle.mid_code.specs.Runs.{placed_runs}
use Rattle.mid_code.specs.Agrees.{AgreesWithin}
use Rattle.asm_laws.specs.Linked.{Linked, Plan, setting}
use Rattle.asm_laws.proofs.Agreeing.{row}

pub agrees : (A : Plan) (words : List ℕ) (boot rest : ℕ) → ((card : Option (List ℕ)) → IsCard card → Linked (setting A words (is_some card)) card boot rest) → AgreesWithin 1 A.whole.globals (placed_runs A.placed) words
unfolding IsNested
agrees A words boot rest linked = λ n answers card ok. row (setting A words (is_some card)) card boot rest (linked card ok) n answers
