-- The functions that every unit has, which are the console's own.
use Rattle.std.specs.Prelude.{Option, Some, None, codes, if◌then◌else◌}
use Rattle.std.specs.Str.{bytes_eq}
use Rattle.c_exprs.specs.Env.{Text}
use Rattle.c_exprs.specs.declared.intrinsics.Intrinsic.{Intrinsic}
use Rattle.c_exprs.specs.declared.intrinsics.Intrinsic.TheVariants.{PortIn, PortOut, WaitFrame, Halt, CardMemory}

unfoldable pub intrinsic : Text → Option Intrinsic
intrinsic n =
    if bytes_eq n (codes "port_in") then Some PortIn
    else (if bytes_eq n (codes "port_out") then Some PortOut
    else (if bytes_eq n (codes "wait_frame") then Some WaitFrame
    else (if bytes_eq n (codes "halt") then Some Halt
    else (if bytes_eq n (codes "card_memory") then Some CardMemory else None))))
