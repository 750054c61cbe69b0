-- A call is that of a function of the whole program, or of one that every unit has.
use Rattle.std.proofs.Common.{◌≡◌, ℕ, ◌==◌, Bool, true, false, ◌&&◌, ◌||◌, not, cond, List, [], ◌∷◌, length, Option, Some, None, Result, Ok, Err, refl, sym, subst, ap, ◌∙◌, arith}
use Rattle.std.proofs.lemmas.Bool.Decides.{nat_tests}
use Rattle.std.specs.Prelude.{slice_get}
use Rattle.std.specs.List.{list_all}
use Rattle.std.specs.List.{find as find_port}
use Rattle.std.specs.Str.{bytes_eq}
use Rattle.std.proofs.lemmas.Bool.{and_parts}
use Rattle.v32_isa.specs.Ports.{PortEntry, port_table, first_spelling, port_spelled, port_named, port_numbered, is_readable, is_writable}
use Rattle.c_tree.specs.Tree.{ExprTs, NoE, MoreE}
use Rattle.c_types.specs.Types.{Ty, VoidY, IntY, PointerY}
use Rattle.c_types.specs.Typed.{TExprT, TKindT, CallK, InK, OutK, WaitK, HaltK, CardK, TExprTs, NoX, MoreX}
use Rattle.c_rules.specs.declared.code.Code.{Code}
use Rattle.c_rules.specs.declared.code.Code.TheVariants.{WrongType, BadCall, BadPort}
use Rattle.c_rules.specs.Kinds.{is_number}
use Rattle.c_exprs.specs.Env.{Text, find, find_in, LocalD, Decl, TypeD, ConstantD, GlobalD, FunctionD, Ctx}
use Rattle.c_exprs.specs.declared.intrinsics.Intrinsic.{Intrinsic}
use Rattle.c_exprs.specs.declared.intrinsics.Intrinsic.TheVariants.{PortIn, PortOut, WaitFrame, Halt, CardMemory}
use Rattle.c_exprs.specs.Intrinsics.{intrinsic}
use Rattle.c_exprs.specs.Nodes.{type_of_typed}
use Rattle.c_exprs.specs.Calls.{callee, local_or_callee, intrinsic_callee, ensured, all_convert, with_body, function_call, lone_name, port_by, first_port, read_port, written_port, plain_call, intrinsic_call, call_of, call_node}
use Rattle.c_types.specs.Lists.{listed}
use Rattle.c_types.specs.Programs.{TFunctionT}
use Rattle.c_facts.specs.Sound.{Scene, IsKnown, IsTyped, IsKind, IsValue, AreValues, IsCall}
use Rattle.c_facts.specs.Sound.{Calls as CallsAs}
use Rattle.c_facts.proofs.Within.{Within, IsMeant}
use Rattle.c_facts.proofs.Lookups.{name_meant}

-- what a call is, with its type
abbrev pub Node : Type 0
Node = TKindT × Ty

abbrev answer : TKindT → Ty → Result Node Code
answer kind ty = Ok (kind, ty)

abbrev pub IsNode : Scene → Node → Type 0
IsNode s u = IsKnown s.layouts s.whole u.1 × IsKind s u.0 u.1

node_is : (s : Scene) (kind : TKindT) (ty : Ty) (u : Node) → IsKnown s.layouts s.whole ty → IsKind s kind ty → answer kind ty ≡ Ok u → IsNode s u
node_is s kind ty u known is h =
    let v : Node = (kind, ty) in
    let e : v ≡ u = cc in
    let good : IsNode s v = (known, is) in
    subst (λ (w : Node). IsNode s w) e good

ensured_answer : (k : Code) (test : Bool) (r : Result Node Code) (u : Node) → ensured k test r ≡ Ok u → (test ≡ true) × (r ≡ Ok u)
ensured_answer k true r u h = (refl, h)
ensured_answer k false r u h = cc

-- ---- functions with a body

-- the function of a number, with the types that are declared
abbrev Body : Scene → List Ty → Ty → ℕ → Type 0
Body s params gives k = (f : TFunctionT) × (slice_get s.functions k ≡ Some f) × (f.params ≡ params) × (f.gives ≡ gives)

body_called : (s : Scene) (params : List Ty) (gives : Ty) (k : ℕ) (xs : TExprTs) → Body s params gives k → AreValues s xs → all_convert (listed xs) params ≡ true → length (listed xs) ≡ length params → IsKind s (CallK k xs) gives
body_called s params gives k xs (f, at, takes, result) values convert count =
    let call : IsCall f xs gives = record { convert = subst (λ (ps : List Ty). all_convert (listed xs) ps ≡ true) (sym takes) convert; count = count ∙ ap length (sym takes); gives = result } in
    (values, subst (λ (o : Option TFunctionT). CallsAs o xs gives) (sym at) call)

numbered_call : (s : Scene) (params : List Ty) (gives : Ty) (xs : TExprTs) (u : Node) (o : Option ℕ) → ((k : ℕ) → o ≡ Some k → Body s params gives k) → IsKnown s.layouts s.whole gives → AreValues s xs
    → all_convert (listed xs) params ≡ true → length (listed xs) ≡ length params → with_body gives xs o ≡ Ok u → IsNode s u
numbered_call s params gives xs u None body known values convert count h = cc
numbered_call s params gives xs u (Some k) body known values convert count h = node_is s (CallK k xs) gives u known (body_called s params gives k xs (body k refl) values convert count) h

as_many : (m n : ℕ) → (m == n) ≡ true → m ≡ n
as_many m n h = grind (arith, nat_tests)

function_called : (s : Scene) (params : List Ty) (gives : Ty) (xs : TExprTs) (u : Node) (o : Option ℕ) → ((k : ℕ) → o ≡ Some k → Body s params gives k) → IsKnown s.layouts s.whole gives → AreValues s xs
    → function_call params gives o xs ≡ Ok u → IsNode s u
unfolding function_call
function_called s params gives xs u o body known values h =
    let first = ensured_answer WrongType (all_convert (listed xs) params) (ensured BadCall (length (listed xs) == length params) (with_body gives xs o)) u h in
    let second = ensured_answer BadCall (length (listed xs) == length params) (with_body gives xs o) u first.1 in
    numbered_call s params gives xs u o body known values first.0 (as_many _ _ second.0) second.1

-- ---- ports

-- what the table says of a port by its name it says of it by its number
abbrev is_listed : PortEntry → Bool
is_listed p = (not p.readable || is_readable p.number) && (not p.writable || is_writable p.number)

all_listed : list_all is_listed port_table ≡ true
unfolding port_table port_numbered is_readable is_writable
all_listed = refl

listed_first : (q p : PortEntry) (b : Bool) (rest : Option PortEntry) → is_listed q ≡ true → (rest ≡ Some p → is_listed p ≡ true) → cond b (Some q) rest ≡ Some p → is_listed p ≡ true
listed_first q p true rest here later e = let same : q ≡ p = cc in subst (λ (r : PortEntry). is_listed r ≡ true) same here
listed_first q p false rest here later e = later e

found_listed : (test : PortEntry → Bool) (ps : List PortEntry) (p : PortEntry) → list_all is_listed ps ≡ true → find_port test ps ≡ Some p → is_listed p ≡ true
found_listed test [] p all h = cc
found_listed test (q ∷ qs) p all h =
    let parts : (is_listed q ≡ true) × (list_all is_listed qs ≡ true) = and_parts (is_listed q) (list_all is_listed qs) all in
    listed_first q p (test q) (find_port test qs) parts.0 (found_listed test qs p parts.1) h

named_listed : (n : Text) (p : PortEntry) → port_named n ≡ Some p → is_listed p ≡ true
unfolding port_named port_spelled
named_listed n p h = found_listed (λ e. bytes_eq e.name (first_spelling n)) port_table p all_listed h

implied : (a b : Bool) → (not a || b) ≡ true → a ≡ true → b ≡ true
implied true b h e = h
implied false b h e = cc

reads_there : (n : Text) (p : PortEntry) → port_named n ≡ Some p → p.readable ≡ true → is_readable p.number ≡ true
reads_there n p h e = implied p.readable (is_readable p.number) (and_parts _ _ (named_listed n p h)).0 e

writes_there : (n : Text) (p : PortEntry) → port_named n ≡ Some p → p.writable ≡ true → is_writable p.number ≡ true
writes_there n p h e = implied p.writable (is_writable p.number) (and_parts _ _ (named_listed n p h)).1 e

port_text : (o : Option Text) (p : PortEntry) → port_by o ≡ Some p → (n : Text) × (port_named n ≡ Some p)
port_text None p h = cc
port_text (Some n) p h = (n, h)

abbrev one_port : Option PortEntry → Result (Option PortEntry) Code
one_port o = Ok o

port_is : (o q : Option PortEntry) → one_port o ≡ Ok q → o ≡ q
port_is o q h = cc

-- the port that the first argument names
first_named : (args : ExprTs) (p : PortEntry) → first_port args ≡ Ok (Some p) → (n : Text) × (port_named n ≡ Some p)
first_named NoE p h = cc
first_named (MoreE e rest) p h = port_text (lone_name e) p (port_is _ _ h)

-- the functions of the console, by what they take
port_read : (s : Scene) (args : ExprTs) (u : Node) (r : Result (Option PortEntry) Code) → first_port args ≡ r → read_port r ≡ Ok u → IsNode s u
port_read s args u (Err k) e h = cc
port_read s args u (Ok None) e h = cc
port_read s args u (Ok (Some p)) e h =
    let named : (n : Text) × (port_named n ≡ Some p) = first_named args p e in
    let now = ensured_answer BadPort p.readable (answer (InK p.number) IntY) u h in
    node_is s (InK p.number) IntY u tt (reads_there named.0 p named.1 now.0, refl) now.1

port_written : (s : Scene) (args : ExprTs) (x : TExprT) (u : Node) (r : Result (Option PortEntry) Code) → IsTyped s x → IsValue s (type_of_typed x) → is_number (type_of_typed x) ≡ true → first_port args ≡ r → written_port x r ≡ Ok u → IsNode s u
port_written s args x u (Err k) typed value number e h = cc
port_written s args x u (Ok None) typed value number e h = cc
port_written s args x u (Ok (Some p)) typed value number e h =
    let named : (n : Text) × (port_named n ≡ Some p) = first_named args p e in
    let now = ensured_answer BadPort p.writable (answer (OutK p.number x) VoidY) u h in
    node_is s (OutK p.number x) VoidY u tt (writes_there named.0 p named.1 now.0, typed, value, number, refl) now.1

read_called : (s : Scene) (args : ExprTs) (xs : TExprTs) (u : Node) → intrinsic_call PortIn args (listed xs) ≡ Ok u → IsNode s u
unfolding intrinsic_call
read_called s args NoX u h = port_read s args u (first_port args) refl h
read_called s args (MoreX x xs) u h = cc

write_called : (s : Scene) (args : ExprTs) (xs : TExprTs) (u : Node) → AreValues s xs → intrinsic_call PortOut args (listed xs) ≡ Ok u → IsNode s u
unfolding intrinsic_call
write_called s args NoX u values h = cc
write_called s args (MoreX x NoX) u values h =
    let now = ensured_answer WrongType (is_number (type_of_typed x)) (written_port x (first_port args)) u h in
    port_written s args x u (first_port args) values.0 values.1 now.0 refl now.1
write_called s args (MoreX x (MoreX y xs)) u values h =
    let now = ensured_answer WrongType (is_number (type_of_typed x)) (Err BadCall) u h in
    let never : Err BadCall ≡ Ok u = now.1 in cc

plainly_called : (s : Scene) (kind : TKindT) (ty : Ty) (xs : TExprTs) (u : Node) → IsKnown s.layouts s.whole ty → IsKind s kind ty → plain_call kind ty (listed xs) ≡ Ok u → IsNode s u
plainly_called s kind ty NoX u known is h = node_is s kind ty u known is h
plainly_called s kind ty (MoreX x xs) u known is h = cc

intrinsic_called : (s : Scene) (i : Intrinsic) (args : ExprTs) (xs : TExprTs) (u : Node) → AreValues s xs → intrinsic_call i args (listed xs) ≡ Ok u → IsNode s u
unfolding intrinsic_call
intrinsic_called s PortIn args xs u values h = read_called s args xs u h
intrinsic_called s PortOut args xs u values h = write_called s args xs u values h
intrinsic_called s WaitFrame args xs u values h = plainly_called s WaitK VoidY xs u tt refl h
intrinsic_called s Halt args xs u values h = plainly_called s HaltK VoidY xs u tt refl h
intrinsic_called s CardMemory args xs u values h = plainly_called s CardK (PointerY IntY) xs u tt refl h

maybe_intrinsic : (s : Scene) (o : Option Intrinsic) (args : ExprTs) (xs : TExprTs) (u : Node) → AreValues s xs → call_of (intrinsic_callee o) args xs ≡ Ok u → IsNode s u
maybe_intrinsic s None args xs u values h = cc
maybe_intrinsic s (Some i) args xs u values h = intrinsic_called s i args xs u values h

-- ---- the node

-- what the name is declared as decides what is called
declared_called : (s : Scene) (c : Ctx) (n : Text) (args : ExprTs) (xs : TExprTs) (u : Node) (l : Option LocalD) (d : Option Decl) → Within c s → AreValues s xs → find n c.names ≡ d → call_of (local_or_callee n c.bodies l d) args xs ≡ Ok u → IsNode s u
declared_called s c n args xs u (Some l) d w values e h = cc
declared_called s c n args xs u None None w values e h = maybe_intrinsic s (intrinsic n) args xs u values h
declared_called s c n args xs u None (Some (TypeD ty)) w values e h = cc
declared_called s c n args xs u None (Some (ConstantD k)) w values e h = cc
declared_called s c n args xs u None (Some (GlobalD number ty)) w values e h = cc
declared_called s c n args xs u None (Some (FunctionD params gives)) w values e h =
    let meant : IsMeant s (FunctionD params gives) = name_meant s n c.names (FunctionD params gives) w.names e in
    function_called s params gives xs u (find n c.bodies) (λ k at. w.bodies n params gives k e at) meant.1 values h

-- a call of the unit is one of the whole program, with a type that is known
pub node_called : (s : Scene) (c : Ctx) (n : Text) (args : ExprTs) (xs : TExprTs) (u : Node) → Within c s → AreValues s xs → call_node c n args xs ≡ Ok u → IsNode s u
unfolding call_node callee
node_called s c n args xs u w values h = declared_called s c n args xs u (find_in n c.scopes) (find n c.names) w values refl h
