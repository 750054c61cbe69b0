use Rattle.std.proofs.Common.{◌≡◌, ◌∙◌, sym, ap, ℕ, rules}
use Rattle.std.specs.Prelude.{nat_le, min}
use Rattle.c_stmts.proofs.Places.{length-first_of}
use Rattle.c_stmts.proofs.slots.has_first.Goals as goal

pub returns : goal.returns
returns c = let least : c.min.result ≡ min c.member_count.result 1 = search rules in
    ap (λ (n : ℕ). nat_le c.args.count n) (least ∙ ap (λ (n : ℕ). min n 1) c.member_count.ensures ∙ sym (length-first_of _))
