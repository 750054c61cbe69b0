-- A program after promotion, by a plan.
use Rattle.std.specs.Prelude.{◌≡◌, ℕ, List, length, Some, None}
use Rattle.mid_code.specs.Code.{CodeT}
use Rattle.mid_code.specs.States.{sizes_of, function_at}
use Rattle.mid_scalars.specs.inner.Plan.{Plan, promoted_nodes, GoodNodes}
use Rattle.mid_scalars.specs.inner.Named.{count_of, Fits}

pub record IsPromotion (X : Plan) (x y : CodeT ℕ) (frames : List ℕ) : Type 0 where
  pub fits : Fits X x y frames
  pub bodies : (g : ℕ) → (function_at y g).body ≡ promoted_nodes X (Some g) (function_at x g).body
  pub start : y.start.body ≡ promoted_nodes X None x.start.body
  pub good : (g : ℕ) → GoodNodes X (length x.globals) (length x.literals) (Some g) (count_of (sizes_of x frames) (Some g)) 0 (function_at x g).body
  pub start_good : GoodNodes X (length x.globals) (length x.literals) None 0 0 x.start.body
