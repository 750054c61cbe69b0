-- Loads and stores at addresses that nothing else asks for: the operations that work out such an address are done together with the access.
use Rattle.std.specs.Prelude.{ℕ, ◌==◌, ◌&&◌, ◌||◌, not, nat_lt, cond, Bool, true, false, List, Option, Some, None}
use Rattle.mid_code.specs.declared.placed.Where.{Where}
use Rattle.mid_code.specs.declared.placed.Where.TheVariants.{Reg, Slot}
use Rattle.mid_code.specs.Code.{NodesT, Do, OpT, ConstO, LocalO, StepO, LoadO, StoreO}
use Rattle.asm_laws.specs.declared.access.Base.{Base}
use Rattle.asm_laws.specs.declared.access.Base.TheVariants.{Local, Place}
use Rattle.asm_laws.specs.declared.access.Address.{Address}
use Rattle.asm_laws.specs.declared.access.Transfer.{Transfer}
use Rattle.asm_laws.specs.declared.access.Transfer.TheVariants.{Load, Store}
use Rattle.asm_laws.specs.Live.{is_place, live_soon, ahead}

-- ---- registers into which no word is put then

-- whether a register is not asked for where nodes come next
unfoldable pub is_free : (lasting : List Bool) → NodesT Where → (register : ℕ) → Bool
is_free h c r = not (live_soon ahead h c r)

-- It takes the word that is loaded, or is not asked for behind the access; a word that is stored is not taken from it.
abbrev pub is_left : (lasting : List Bool) → Transfer → NodesT Where → (register : ℕ) → Bool
is_left h (Load v) c r = (r == v) || is_free h c r
is_left h (Store a) c r = not (is_place a r) && is_free h c r

abbrev pub left_or_none : (lasting : List Bool) → Transfer → NodesT Where → Option ℕ → Bool
left_or_none h x c None = true
left_or_none h x c (Some r) = is_left h x c r

abbrev pub are_left : (lasting : List Bool) → Transfer → NodesT Where → Address → Bool
are_left h x c y = is_left h x c y.into && (left_or_none h x c y.number && left_or_none h x c y.local)

-- ---- the access

abbrev pub load_there : (into : ℕ) → (target address : Where) → Option Transfer
load_there u (Reg v) (Reg q) = cond (q == u) (Some (Load v)) None
load_there u _ _ = None

abbrev pub store_there : (into : ℕ) → (address word : Where) → Option Transfer
store_there u (Reg q) a = cond (q == u) (Some (Store a)) None
store_there u (Slot k) a = None

-- two words would have to be brought out of slots
abbrev pub takes_two : Base → Transfer → Bool
takes_two (Place (Slot k)) (Store (Slot j)) = true
takes_two _ _ = false

abbrev pub reached_by : (lasting : List Bool) → (more : ℕ) → Address → (behind : NodesT Where) → Option Transfer → Option (ℕ × Address × Transfer)
reached_by h k y c None = None
reached_by h k y c (Some x) = cond (not (takes_two y.base x) && are_left h x c y) (Some (k, y, x)) None

-- an access there comes first, behind so many operations less one
abbrev pub reached : (lasting : List Bool) → (more : ℕ) → Address → NodesT Where → Option (ℕ × Address × Transfer)
reached h k y (Do (LoadO t q) c) = reached_by h k y c (load_there y.into t q)
reached h k y (Do (StoreO q a) c) = reached_by h k y c (store_there y.into q a)
reached h k y _ = None

-- ---- the operations before it

-- a number was put into register r: the sum of it and an address comes first, and then an access there
abbrev pub place_sum : (lasting : List Bool) → (r n : ℕ) → (target address number : Where) → NodesT Where → Option (ℕ × Address × Transfer)
place_sum h r n (Reg u) p (Reg s) c = cond ((s == r) && not (is_place p r))
    (reached h 2 (record { base = Place p; offset = n; into = u; number = Some r; local = None }) c) None
place_sum h r n _ _ _ c = None

abbrev pub place_behind : (lasting : List Bool) → (r n : ℕ) → NodesT Where → Option (ℕ × Address × Transfer)
place_behind h r n (Do (StepO u p s) c) = place_sum h r n u p s c
place_behind h r n _ = None

-- the same where the address of local k was put into register t before
abbrev pub local_sum : (lasting : List Bool) → (t k r n : ℕ) → (target address number : Where) → NodesT Where → Option (ℕ × Address × Transfer)
local_sum h t k r n (Reg u) (Reg q) (Reg s) c = cond ((s == r) && ((q == t) && not (t == r)))
    (reached h 3 (record { base = Local k; offset = n; into = u; number = Some r; local = Some t }) c) None
local_sum h t k r n _ _ _ c = None

abbrev pub local_step : (lasting : List Bool) → (t k r n : ℕ) → NodesT Where → Option (ℕ × Address × Transfer)
local_step h t k r n (Do (StepO u q s) c) = local_sum h t k r n u q s c
local_step h t k r n _ = None

-- The register of the number holds a place between operations; so many do, from the first one on.
abbrev pub local_number : (lasting : List Bool) → (registers t k : ℕ) → (number : Where) → (n : ℕ) → NodesT Where → Option (ℕ × Address × Transfer)
local_number h m t k (Reg r) n c = cond (nat_lt r m) (local_step h t k r n c) None
local_number h m t k (Slot j) n c = None

abbrev pub local_behind : (lasting : List Bool) → (registers t k : ℕ) → NodesT Where → Option (ℕ × Address × Transfer)
local_behind h m t k (Do (ConstO r n) c) = local_number h m t k r n c
local_behind h m t k _ = None

abbrev pub first_access : Option (ℕ × Address × Transfer) → Option (ℕ × Address × Transfer) → Option (ℕ × Address × Transfer)
first_access None y = y
first_access (Some x) y = Some x

abbrev pub at_local : (lasting : List Bool) → (registers : ℕ) → (target : Where) → (k : ℕ) → NodesT Where → Option (ℕ × Address × Transfer)
at_local h m (Reg t) k c =
    first_access (reached h 1 (record { base = Local k; offset = 0; into = t; number = None; local = None }) c) (local_behind h m t k c)
at_local h m (Slot j) k c = None

abbrev pub at_place : (lasting : List Bool) → (registers : ℕ) → (number : Where) → (n : ℕ) → NodesT Where → Option (ℕ × Address × Transfer)
at_place h m (Reg r) n c = cond (nat_lt r m) (place_behind h r n c) None
at_place h m (Slot j) n c = None

-- An access at an address that an operation and those behind it work out, and nothing else asks for; how many operations behind the first one are done then.
unfoldable pub accessed : (lasting : List Bool) → (registers : ℕ) → OpT Where → NodesT Where → Option (ℕ × Address × Transfer)
accessed h m (LocalO t k) c = at_local h m t k c
accessed h m (ConstO t n) c = at_place h m t n c
accessed h m _ c = None
