use Rattle.std.proofs.Common.{rules, arith, ◌≡◌, ◌++◌, ◌<◌, codes, map, length}
use Rattle.std.specs.String.{string_bytes}
use Rattle.std.specs.Fmt.{decimal}
use Rattle.mid_code.specs.Functions.{function}
use Rattle.mid_text.specs.Text.{function_text, functions_text}
use Rattle.mid_text.proofs.Turns.{functions_turn}
use Rattle.mid_text.proofs.program.put_functions.Goals as goal

pub functions-preserved : goal.functions-preserved
functions-preserved c =
    let below : c.functions.k < length c.args.fs.now = omega arith in
    let put : string_bytes c.put_function.new.out ≡ string_bytes c.functions.out ++ function_text (codes "function " ++ decimal c.functions.k) (function c.index-fs-k.result) = search rules in
    functions_turn c.args.fs.now c.functions.k c.index-fs-k.result (string_bytes c.functions.out) (string_bytes c.put_function.new.out) (string_bytes c.args.out.now ++ functions_text 0 (map function c.args.fs.now)) c.index-fs-k.is below put c.functions.invariant
