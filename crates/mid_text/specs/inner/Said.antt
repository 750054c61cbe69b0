-- What the first node of a list says behind its `Do `.
use Rattle.std.specs.Prelude.{ℕ, List, []}
use Rattle.mid_code.specs.Code.{NodesT, Stop, Do, Call, Choose, Block, Loop, Leave, Again, Return}
use Rattle.mid_text.specs.Text.{op_text, call_text}

abbrev pub said : NodesT ℕ → List ℕ
said Stop = []
said (Do o c) = op_text o
said (Call t f args c) = call_text t f args
said (Choose p a b c) = []
said (Block b c) = []
said (Loop b c) = []
said (Leave k c) = []
said (Again k c) = []
said (Return p c) = []
