-- What a temporary is used for, as it is found in one walk over the code.
use Rattle.std.specs.Prelude.{ℕ, Bool, true, false, ◌||◌, not, cond, eqb, List, [], ◌∷◌, ◌++◌, get_or}
use Rattle.mid_code.specs.Code.{OpT, LocalO, LoadO, StoreO}
use Rattle.mid_code.specs.Code.{NodesT, Stop, Do, Call, Choose, Block, Loop, Leave, Again, Return, FunctionT}
use Rattle.mid_code.specs.Code.{maybe, uses, target}
use Rattle.mid_scalars.specs.declared.roles.Role.{Role}
use Rattle.mid_scalars.specs.declared.roles.Role.TheVariants.{Open, AddressOf, Spoilt}
use Rattle.mid_scalars.specs.inner.Plan.{Kind, Own, Address}

-- it takes the address of a local
abbrev pub met : Role → ℕ → Role
met Open k = AddressOf k
met (AddressOf j) k = cond (eqb j k) (AddressOf j) Spoilt
met Spoilt k = Spoilt

-- these are used for something else
abbrev pub spoilt : List ℕ → ℕ → Role → Role
spoilt [] y r = r
spoilt (x ∷ xs) y r = spoilt xs y (cond (eqb x y) Spoilt r)

-- the temporaries of an operation but those that it uses as addresses or makes addresses
abbrev pub others : OpT ℕ → List ℕ
others (LocalO t k) = []
others (LoadO t p) = t ∷ []
others (StoreO p a) = a ∷ []
others o = maybe (target o) ++ uses o

abbrev pub role_after : ℕ → OpT ℕ → Role → Role
role_after y (LocalO t k) r = cond (eqb t y) (met r k) r
role_after y o r = spoilt (others o) y r

-- behind nodes
abbrev pub role_in : ℕ → NodesT ℕ → Role → Role
role_in y Stop r = r
role_in y (Do o c) r = role_in y c (role_after y o r)
role_in y (Call t f args c) r = role_in y c (spoilt (maybe t) y (spoilt args y r))
role_in y (Choose p a b c) r = role_in y c (role_in y b (role_in y a (spoilt (p ∷ []) y r)))
role_in y (Block b c) r = role_in y c (role_in y b r)
role_in y (Loop b c) r = role_in y c (role_in y b r)
role_in y (Leave k c) r = role_in y c r
role_in y (Again k c) r = role_in y c r
role_in y (Return p c) r = role_in y c (spoilt (maybe p) y r)

-- in a function; a parameter is used for something else
abbrev pub role_of : FunctionT ℕ → ℕ → Role
role_of f y = role_in y f.body (spoilt f.params y Open)

-- whether it can be the address of that local
abbrev pub fits : ℕ → Role → Bool
fits k Open = true
fits k (AddressOf j) = eqb j k
fits k Spoilt = false

-- whether the first node puts the address of a local into a temporary that is nothing else
abbrev pub takes_by : (ℕ → Role) → ℕ → NodesT ℕ → Bool
takes_by st k (Do (LocalO t j) c) = not (eqb j k) || fits k (st t)
takes_by st k _ = true

-- the kind of a temporary, by its role and the locals that are plain
abbrev pub kind_by : List Bool → Role → Kind
kind_by bs Open = Own
kind_by bs (AddressOf k) = cond (get_or bs k false) (Address k) Own
kind_by bs Spoilt = Own

abbrev pub role_at : List Role → ℕ → Role
role_at rs y = get_or rs y Open
