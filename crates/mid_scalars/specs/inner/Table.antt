-- The plain locals of a function, as they are found, and its plan.
use Rattle.std.specs.Prelude.{ℕ, zero, suc, ◌+◌, ◌-◌, Bool, true, false, ◌&&◌, ◌||◌, not, cond, eqb, ltb, List, [], ◌∷◌, get_or, slice_get, Option, Some, None}
use Rattle.mid_code.specs.Code.{LocalO, LoadO, StoreO, NodesT, Stop, Do, Call, Choose, Block, Loop, Leave, Again, Return, FunctionT, CodeT}
use Rattle.mid_code.specs.Live.{is_among, is_used, is_target}
use Rattle.mid_code.specs.States.{function_at}
use Rattle.mid_scalars.specs.inner.Plan.{Kind, Own, Address, Variable, Plan, promoted_nodes}

-- ---- plain locals

-- every node of the code is so
abbrev pub all_nodes : (NodesT ℕ → Bool) → NodesT ℕ → Bool
all_nodes t Stop = true
all_nodes t (Do o c) = t (Do o c) && all_nodes t c
all_nodes t (Call q f args c) = t (Call q f args c) && all_nodes t c
all_nodes t (Choose p a b c) = t (Choose p a b c) && (all_nodes t a && (all_nodes t b && all_nodes t c))
all_nodes t (Block b c) = t (Block b c) && (all_nodes t b && all_nodes t c)
all_nodes t (Loop b c) = t (Loop b c) && (all_nodes t b && all_nodes t c)
all_nodes t (Leave k c) = t (Leave k c) && all_nodes t c
all_nodes t (Again k c) = t (Again k c) && all_nodes t c
all_nodes t (Return p c) = t (Return p c) && all_nodes t c

abbrev pub is_address_of : (k t : ℕ) → NodesT ℕ → Bool
is_address_of k t (Do (LocalO u j) c) = eqb u t && eqb j k
is_address_of k t _ = false

abbrev pub is_access : (t : ℕ) → NodesT ℕ → Bool
is_access t (Do (LoadO u p) c) = eqb p t
is_access t (Do (StoreO p a) c) = eqb p t && not (is_among (a ∷ []) t)
is_access t _ = false

abbrev pub uses_as_address : (k t : ℕ) → NodesT ℕ → Bool
uses_as_address k t c = (not (is_target c t) || is_address_of k t c) && (not (is_used c t) || is_access t c)

-- a temporary that takes the address of a local is no parameter, takes nothing else and is used only as an address
abbrev pub is_clean : FunctionT ℕ → (k t : ℕ) → Bool
is_clean f k t = not (is_among f.params t) && all_nodes (uses_as_address k t) f.body

abbrev pub takes_well : FunctionT ℕ → (k : ℕ) → NodesT ℕ → Bool
takes_well f k (Do (LocalO t j) c) = not (eqb j k) || is_clean f k t
takes_well f k _ = true

abbrev pub is_one : Option ℕ → Bool
is_one None = false
is_one (Some size) = eqb size 1

abbrev pub is_plain : FunctionT ℕ → ℕ → Bool
is_plain f k = is_one (slice_get f.locals k) && all_nodes (takes_well f k) f.body

-- of each local, whether it is plain
abbrev pub flags_from : FunctionT ℕ → ℕ → List ℕ → List Bool
flags_from f k [] = []
flags_from f k (size ∷ sizes) = is_plain f k ∷ flags_from f (suc k) sizes

abbrev pub flags : FunctionT ℕ → List Bool
flags f = flags_from f 0 f.locals

-- ---- numbers

-- how many are set, and how many of those before one are, and are not
abbrev pub trues : List Bool → ℕ
trues [] = 0
trues (true ∷ bs) = suc (trues bs)
trues (false ∷ bs) = trues bs

abbrev pub trues_before : List Bool → ℕ → ℕ
trues_before [] k = 0
trues_before (true ∷ bs) zero = 0
trues_before (true ∷ bs) (suc k) = suc (trues_before bs k)
trues_before (false ∷ bs) zero = 0
trues_before (false ∷ bs) (suc k) = trues_before bs k

abbrev pub falses_before : List Bool → ℕ → ℕ
falses_before [] k = k
falses_before (true ∷ bs) zero = 0
falses_before (true ∷ bs) (suc k) = falses_before bs k
falses_before (false ∷ bs) zero = 0
falses_before (false ∷ bs) (suc k) = suc (falses_before bs k)

-- which one is set after so many others
abbrev pub nth_true : List Bool → ℕ → ℕ
nth_true [] n = 0
nth_true (true ∷ bs) zero = 0
nth_true (true ∷ bs) (suc n) = suc (nth_true bs n)
nth_true (false ∷ bs) n = suc (nth_true bs n)

-- the locals that stay
abbrev pub kept : List Bool → List ℕ → List ℕ
kept bs [] = []
kept [] (size ∷ sizes) = size ∷ kept [] sizes
kept (true ∷ bs) (size ∷ sizes) = kept bs sizes
kept (false ∷ bs) (size ∷ sizes) = size ∷ kept bs sizes

-- ---- kinds

abbrev pub first_some : Option ℕ → Option ℕ → Option ℕ
first_some None b = b
first_some (Some k) b = Some k

-- the local whose address a temporary takes first
abbrev pub address_in : ℕ → NodesT ℕ → Option ℕ
address_in t Stop = None
address_in t (Do (LocalO u k) c) = cond (eqb u t) (Some k) (address_in t c)
address_in t (Do o c) = address_in t c
address_in t (Call q f args c) = address_in t c
address_in t (Choose p a b c) = first_some (address_in t a) (first_some (address_in t b) (address_in t c))
address_in t (Block b c) = first_some (address_in t b) (address_in t c)
address_in t (Loop b c) = first_some (address_in t b) (address_in t c)
address_in t (Leave k c) = address_in t c
address_in t (Again k c) = address_in t c
address_in t (Return p c) = address_in t c

abbrev pub address_kind : List Bool → Option ℕ → Kind
address_kind bs None = Own
address_kind bs (Some k) = cond (get_or bs k false) (Address k) Own

abbrev pub kind_in : FunctionT ℕ → ℕ → Kind
kind_in f t = cond (ltb t f.temps) (address_kind (flags f) (address_in t f.body)) (Variable (nth_true (flags f) (t - f.temps)))

-- ---- the plan of a program, and the program by it

abbrev pub is_promoted : CodeT ℕ → Option ℕ → ℕ → Bool
is_promoted x None k = false
is_promoted x (Some g) k = get_or (flags (function_at x g)) k false

abbrev pub variable_of : CodeT ℕ → Option ℕ → ℕ → ℕ
variable_of x None k = k
variable_of x (Some g) k = (function_at x g).temps + trues_before (flags (function_at x g)) k

abbrev pub kind_of : CodeT ℕ → Option ℕ → ℕ → Kind
kind_of x None t = Own
kind_of x (Some g) t = kind_in (function_at x g) t

abbrev pub moved_to : CodeT ℕ → Option ℕ → ℕ → ℕ
moved_to x None k = k
moved_to x (Some g) k = falses_before (flags (function_at x g)) k

abbrev pub plan_of : CodeT ℕ → Plan
plan_of x = record { promoted = is_promoted x; variable = variable_of x; kind = kind_of x; moved = moved_to x }

abbrev pub promoted_function : Plan → Option ℕ → FunctionT ℕ → FunctionT ℕ
promoted_function X h f = record {
  temps = f.temps + trues (flags f);
  params = f.params;
  locals = kept (flags f) f.locals;
  gives = f.gives;
  body = promoted_nodes X h f.body;
}

abbrev pub promoted_functions : Plan → ℕ → List (FunctionT ℕ) → List (FunctionT ℕ)
promoted_functions X n [] = []
promoted_functions X n (f ∷ fs) = promoted_function X (Some n) f ∷ promoted_functions X (suc n) fs

abbrev pub promoted : CodeT ℕ → CodeT ℕ
promoted x = record { start = x.start; functions = promoted_functions (plan_of x) 0 x.functions; globals = x.globals; literals = x.literals; main = x.main }
