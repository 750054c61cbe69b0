-- Items put behind others, one part after another.
use Rattle.std.proofs.Common.{◌≡◌, List, ◌++◌, sym, ap, ◌∙◌, append_assoc}
use Rattle.std.specs.Prelude.{Result, Ok, Err}
use Rattle.kit_base.specs.declared.failure.Failure.{Failure}
use Rattle.kit_base.specs.declared.failure.Failure.TheVariants as e
use Rattle.kit_base.specs.Gives.{Fails}
use Rattle.asm_items.specs.declared.item.AsmItem.{AsmItem}
use Rattle.asm_reader.specs.declared.fault.LineFault.{LineFault}
use Rattle.asm_reader.specs.Faults.{onto, Puts}
use Rattle.asm_reader.specs.Lines.{both}

abbrev Due : Type 0
Due = Result (List AsmItem) LineFault

-- the second part behind the first
pub second : (before middle after : List AsmItem) (one two : Due) (r : Result (Unit {0}) (Failure LineFault)) → onto before one ≡ Ok middle → Puts middle after r two → Puts before after r (both one two)
second before middle after (Err f) two r is puts = absurd cc
second before middle after (Ok xs) (Ok ys) (Ok u) is puts =
    let first : before ++ xs ≡ middle = cc in
    let all : middle ++ ys ≡ after = cc in
    ap Ok (sym (append_assoc before xs ys) ∙ ap (λ (zs : List AsmItem). zs ++ ys) first ∙ all)
second before middle after (Ok xs) (Err f) (Ok u) is puts = absurd cc
second before middle after (Ok xs) two (Err e.Memory) is puts = tt
second before middle after (Ok xs) (Ok ys) (Err (e.Cause f)) is puts = absurd cc
second before middle after (Ok xs) (Err g) (Err (e.Cause f)) is puts = cc

pub first_fails : (one two : Due) (x : Failure LineFault) → Fails x one → Fails x (both one two)
first_fails one two e.Memory is = tt
first_fails (Ok xs) two (e.Cause f) is = absurd cc
first_fails (Err g) two (e.Cause f) is = cc
