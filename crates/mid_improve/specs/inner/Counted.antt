-- How many locals each function has.
use Rattle.std.specs.Prelude.{ℕ, List, map, length}
use Rattle.mid_code.specs.Code.{CodeT}

abbrev pub counts : CodeT ℕ → List ℕ
counts x = map (λ f. length f.locals) x.functions
