-- What is so at the end of each round of `improve`, and what a round does.
use Rattle.std.specs.Prelude.{ℕ, ◌≡◌, ◌<◌, true, [], ◌⊎◌}
use Rattle.mid_code.specs.Code.{FunctionT, CodeT}
use Rattle.mid_code.specs.Invariants.{AllOf}
use Rattle.mid_code.specs.Runs.{weight}
use Rattle.mid_improve.specs.Settled.{nodes_settled, IsSettled}
use Rattle.mid_improve.specs.ImprovedFrom.{IsNoWorseFrom}

abbrev pub HasSettledRuns : FunctionT ℕ → Type 0
HasSettledRuns f = nodes_settled [] f.body ≡ true

pub record IsForwarded (before after : CodeT ℕ) : Type 0 where
  pub no_worse : IsNoWorseFrom before after
  pub start : HasSettledRuns after.start
  pub functions : AllOf HasSettledRuns after.functions

-- code whose runs are settled was settled, or weighs less behind the round
pub record IsRoundFrom (before after : CodeT ℕ) : Type 0 where
  pub forwarded : IsForwarded before after
  pub weighs : HasSettledRuns before.start → AllOf HasSettledRuns before.functions → (weight after < weight before) ⊎ IsSettled before
