-- The rules of calls.
use Rattle.std.specs.Prelude.{ℕ, ◌==◌, Bool, true, false, ◌&&◌, List, [], ◌∷◌, length, Option, Some, None, Result, Ok, Err, if◌then◌else◌}
use Rattle.v32_isa.specs.Ports.{PortEntry, port_named}
use Rattle.c_tree.specs.Tree.{ExprT, NameE, NumberE, TextE, NullE, ParenE, UnaryE, BinaryE, AssignE, StepE, IndexE, MemberE, ArrowE, CallE, CastE}
use Rattle.c_tree.specs.Tree.{SizeOfE, ExprTs, NoE, MoreE}
use Rattle.c_types.specs.Types.{Ty, VoidY, IntY, PointerY}
use Rattle.c_types.specs.Typed.{TExprT, TKindT, CallK, InK, OutK, WaitK, HaltK, CardK, TExprTs}
use Rattle.c_types.specs.Lists.{listed}
use Rattle.c_rules.specs.declared.code.Code.{Code}
use Rattle.c_rules.specs.declared.code.Code.TheVariants.{UnknownName, Twice, WrongType, BadCall, BadPort}
use Rattle.c_rules.specs.Kinds.{is_number, converts}
use Rattle.c_exprs.specs.Env.{Text, find, find_in, LocalD, Decl, TypeD, ConstantD, GlobalD, FunctionD, Ctx}
use Rattle.c_exprs.specs.declared.intrinsics.Intrinsic.{Intrinsic}
use Rattle.c_exprs.specs.declared.intrinsics.Intrinsic.TheVariants.{PortIn, PortOut, WaitFrame, Halt, CardMemory}
use Rattle.c_exprs.specs.Intrinsics.{intrinsic}
use Rattle.c_exprs.specs.Nodes.{type_of_typed}

-- ---- what is called

-- A function, with its number where it has a body; or one that every unit has.
pub data Callee : Type 0 where
  FunctionC : (params : List Ty) (gives : Ty) (number : Option ℕ) → Callee
  IntrinsicC : Intrinsic → Callee

abbrev pub intrinsic_callee : Option Intrinsic → Result Callee Code
intrinsic_callee None = Err UnknownName
intrinsic_callee (Some i) = Ok (IntrinsicC i)

abbrev pub declared_callee : Text → List (Text × ℕ) → Option Decl → Result Callee Code
declared_callee f bodies None = intrinsic_callee (intrinsic f)
declared_callee f bodies (Some (TypeD ty)) = Err Twice
declared_callee f bodies (Some (ConstantD k)) = Err WrongType
declared_callee f bodies (Some (GlobalD number ty)) = Err WrongType
declared_callee f bodies (Some (FunctionD params gives)) = Ok (FunctionC params gives (find f bodies))

-- an object of the call hides a function
abbrev pub local_or_callee : Text → List (Text × ℕ) → Option LocalD → Option Decl → Result Callee Code
local_or_callee f bodies (Some l) d = Err WrongType
local_or_callee f bodies None d = declared_callee f bodies d

unfoldable pub callee : Ctx → Text → Result Callee Code
callee c f = local_or_callee f c.bodies (find_in f c.scopes) (find f c.names)

abbrev pub takes_port : Result Callee Code → Bool
takes_port (Ok (IntrinsicC PortIn)) = true
takes_port (Ok (IntrinsicC PortOut)) = true
takes_port _ = false

-- whether the first argument of a call is a port's name, which has no type
unfoldable pub names_port : Ctx → Text → Bool
names_port c f = takes_port (callee c f)

-- ---- arguments

abbrev pub ensured : {A : Type 0} → Code → Bool → Result A Code → Result A Code
ensured k test r = if test then r else Err k

-- each argument is one that its parameter takes, as far as there are both
abbrev pub all_convert : List TExprT → List Ty → Bool
all_convert (x ∷ xs) (ty ∷ tys) = converts (type_of_typed x) ty && all_convert xs tys
all_convert _ _ = true

abbrev pub with_body : Ty → TExprTs → Option ℕ → Result (TKindT × Ty) Code
with_body gives xs None = Err BadCall
with_body gives xs (Some number) = Ok (CallK number xs, gives)

-- The arguments that have a parameter become its type; there are as many as parameters; the function has a body somewhere.
unfoldable pub function_call : List Ty → Ty → Option ℕ → TExprTs → Result (TKindT × Ty) Code
function_call params gives number xs =
    ensured WrongType (all_convert (listed xs) params) (ensured BadCall (length (listed xs) == length params) (with_body gives xs number))

-- ---- ports

abbrev pub lone_name : ExprT → Option Text
lone_name (NameE n s) = Some n
lone_name (NumberE n s) = None
lone_name (TextE t s) = None
lone_name (NullE s) = None
lone_name (ParenE a s) = None
lone_name (UnaryE op a s) = None
lone_name (BinaryE op a b s) = None
lone_name (AssignE op a b s) = None
lone_name (StepE op a s) = None
lone_name (IndexE a b s) = None
lone_name (MemberE a n s) = None
lone_name (ArrowE a n s) = None
lone_name (CallE f args s) = None
lone_name (CastE to a s) = None
lone_name (SizeOfE of s) = None

abbrev pub port_by : Option Text → Option PortEntry
port_by None = None
port_by (Some n) = port_named n

-- the port that the first argument names
abbrev pub first_port : ExprTs → Result (Option PortEntry) Code
first_port NoE = Err BadCall
first_port (MoreE e rest) = Ok (port_by (lone_name e))

-- the number of a port that can be read
abbrev pub read_port : Result (Option PortEntry) Code → Result (TKindT × Ty) Code
read_port (Err k) = Err k
read_port (Ok None) = Err BadPort
read_port (Ok (Some p)) = ensured BadPort p.readable (Ok (InK p.number, IntY))

abbrev pub written_port : TExprT → Result (Option PortEntry) Code → Result (TKindT × Ty) Code
written_port x (Err k) = Err k
written_port x (Ok None) = Err BadPort
written_port x (Ok (Some p)) = ensured BadPort p.writable (Ok (OutK p.number x, VoidY))

-- ---- the functions that every unit has; the arguments behind a port's name are typed

abbrev pub port_in_call : ExprTs → List TExprT → Result (TKindT × Ty) Code
port_in_call args [] = read_port (first_port args)
port_in_call args (x ∷ xs) = Err BadCall

abbrev pub port_out_call : ExprTs → List TExprT → Result (TKindT × Ty) Code
port_out_call args [] = Err BadCall
port_out_call args (x ∷ []) = ensured WrongType (is_number (type_of_typed x)) (written_port x (first_port args))
port_out_call args (x ∷ y ∷ xs) = ensured WrongType (is_number (type_of_typed x)) (Err BadCall)

abbrev pub plain_call : TKindT → Ty → List TExprT → Result (TKindT × Ty) Code
plain_call kind ty [] = Ok (kind, ty)
plain_call kind ty (x ∷ xs) = Err BadCall

unfoldable pub intrinsic_call : Intrinsic → ExprTs → List TExprT → Result (TKindT × Ty) Code
intrinsic_call PortIn args xs = port_in_call args xs
intrinsic_call PortOut args xs = port_out_call args xs
intrinsic_call WaitFrame args xs = plain_call WaitK VoidY xs
intrinsic_call Halt args xs = plain_call HaltK VoidY xs
intrinsic_call CardMemory args xs = plain_call CardK (PointerY IntY) xs

-- ---- the node

abbrev pub call_of : Result Callee Code → ExprTs → TExprTs → Result (TKindT × Ty) Code
call_of (Err k) args xs = Err k
call_of (Ok (FunctionC params gives number)) args xs = function_call params gives number xs
call_of (Ok (IntrinsicC i)) args xs = intrinsic_call i args (listed xs)

-- what the call is, and the type of what it gives
unfoldable pub call_node : Ctx → Text → ExprTs → TExprTs → Result (TKindT × Ty) Code
call_node c f args xs = call_of (callee c f) args xs
