-- Addresses and words that are known stand where they are used: an operation that makes one goes behind those operations that neither touch the
-- temporary into which it puts it, nor put anything into those that it is made of.
use Rattle.std.specs.Prelude.{ℕ, ◌≡◌, Bool, true, false, not, eqb, cond, ◌&&◌, ◌||◌, List, [], ◌∷◌, Option, Some, None, map}
use Rattle.std.specs.List.{list_all}
use Rattle.v32_isa.specs.declared.instruction.Two.TheVariants.{IMUL}
use Rattle.mid_code.specs.Code.{OpT, ConstO, TwoO, GlobalO, StepO, NodesT, Stop, Do, Call, Choose, Block, Loop, Leave, Again, Return, FunctionT, CodeT, uses, target, maybe}
use Rattle.mid_code.specs.inner.Passing.{doing}
use Rattle.mid_improve.specs.declared.sinking.Walk.{Walk}
use Rattle.mid_improve.specs.declared.sinking.Walk.TheVariants as walk

-- the one that is held back at a point, where one is
abbrev pub Held : Type 0
Held = Option (OpT ℕ)

-- Which operations a walk holds back, by the one that was held up to there: addresses of globals, and then those that are made of them, but into none of
-- their own operands; or what does the same whatever the state is; or addresses of globals alone.
abbrev pub is_free : Walk → Held → OpT ℕ → Bool
is_free walk.Addresses None (GlobalO t number) = true
is_free walk.Addresses (Some (GlobalO g number)) (StepO t p n) = eqb p g && (not (eqb p t) && not (eqb n t))
is_free walk.Words h (ConstO t word) = true
is_free walk.Words h (GlobalO t number) = true
is_free walk.Globals h (GlobalO t number) = true
is_free _ _ _ = false

abbrev pub held_ops : Held → List (OpT ℕ)
held_ops None = []
held_ops (Some p) = p ∷ []

-- the temporary that has not taken its cell yet
abbrev pub is_target : Option ℕ → ℕ → Bool
is_target None q = false
is_target (Some t) q = eqb q t

abbrev pub hides : Held → ℕ → Bool
hides None q = false
hides (Some p) q = is_target (target p) q

-- the temporaries that keep their cells as long as it is held: that one, and those that an address is made of
abbrev pub fixes : Held → ℕ → Bool
fixes None q = false
fixes (Some (StepO t p n)) q = eqb q t || (eqb q p || eqb q n)
fixes (Some p) q = is_target (target p) q

-- an operation neither uses the temporary that has not taken its cell, nor puts anything into one that keeps its cell
abbrev pub is_apart : Held → OpT ℕ → Bool
is_apart h o = list_all (λ q. not (hides h q)) (uses o) && list_all (λ q. not (fixes h q)) (maybe (target o))

-- Before a product a walk over addresses holds the address of a global no more: the product may be the index of an element, worked out for its address alone,
-- and would live longer.
abbrev pub stops : Walk → Held → OpT ℕ → Bool
stops walk.Addresses (Some (GlobalO g number)) (TwoO IMUL t a b) = true
stops _ _ _ = false

abbrev pub goes_on : Walk → Held → OpT ℕ → Bool
goes_on w h o = is_apart h o && not (stops w h o)

-- what is done at an operation before which none is held any more, and what is held back behind it
abbrev pub ops_alone : Walk → Held → OpT ℕ → List (OpT ℕ)
ops_alone w h o = cond (is_free w h o) [] (o ∷ [])

abbrev pub held_alone : Walk → Held → OpT ℕ → Held
held_alone w h o = cond (is_free w h o) (Some o) None

-- Where one is held, that one stays so as long as operations are apart from it, and do not stop it; before one at which it does not go on it is done.
abbrev pub ops_at : Walk → Held → OpT ℕ → List (OpT ℕ)
ops_at w None o = ops_alone w None o
ops_at w (Some p) o = cond (goes_on w (Some p) o) (o ∷ []) (p ∷ ops_alone w (Some p) o)

abbrev pub held_behind : Walk → Held → OpT ℕ → Held
held_behind w None o = held_alone w None o
held_behind w (Some p) o = cond (goes_on w (Some p) o) (Some p) (held_alone w (Some p) o)

-- Nothing is held at a node that is no operation, and at the end.
abbrev pub sunk : Walk → Held → NodesT ℕ → NodesT ℕ
sunk w h Stop = doing (held_ops h) Stop
sunk w h (Do o c) = doing (ops_at w h o) (sunk w (held_behind w h o) c)
sunk w h (Call t f args c) = doing (held_ops h) (Call t f args (sunk w None c))
sunk w h (Choose p a b c) = doing (held_ops h) (Choose p (sunk w None a) (sunk w None b) (sunk w None c))
sunk w h (Block b c) = doing (held_ops h) (Block (sunk w None b) (sunk w None c))
sunk w h (Loop b c) = doing (held_ops h) (Loop (sunk w None b) (sunk w None c))
sunk w h (Leave k c) = doing (held_ops h) (Leave k (sunk w None c))
sunk w h (Again k c) = doing (held_ops h) (Again k (sunk w None c))
sunk w h (Return p c) = doing (held_ops h) (Return p (sunk w None c))

abbrev pub sunk_function : Walk → FunctionT ℕ → FunctionT ℕ
sunk_function w f = record f { body = sunk w None f.body }

-- a program whose functions have been walked through
abbrev pub AreSunk : Walk → List (FunctionT ℕ) → List (FunctionT ℕ) → Type 0
AreSunk w [] [] = Unit {0}
AreSunk w (f ∷ fs) (g ∷ gs) = (g ≡ sunk_function w f) × AreSunk w fs gs
AreSunk _ _ _ = ⊥

pub record IsSunkCode (w : Walk) (x y : CodeT ℕ) : Type 0 where
  pub start : y.start ≡ sunk_function w x.start
  pub functions : AreSunk w x.functions y.functions
  pub globals : y.globals ≡ x.globals
  pub literals : y.literals ≡ x.literals
  pub main : y.main ≡ x.main

abbrev pub sunk_code : Walk → CodeT ℕ → CodeT ℕ
sunk_code w x = record x { start = sunk_function w x.start; functions = map (sunk_function w) x.functions }
