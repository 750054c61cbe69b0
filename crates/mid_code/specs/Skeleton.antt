-- What no pass over operations changes of code.
use Rattle.std.specs.Prelude.{◌≡◌, ℕ, List, map, Option, Some, None}
use Rattle.mid_code.specs.Code.{OpT, LoadO, StoreO, FreshO, EndO, InO, OutO, WaitO, HaltO, NodesT, Stop, Do, Call, Choose, Block, Loop, Leave, Again, Return}
use Rattle.mid_code.specs.Calls.{nesting, AddsNone}
use Rattle.mid_code.specs.Open.{LiveAtOnce}

-- loads, stores, locals that are made or ended, and what ports do stay
abbrev pub stays : {P : Type 0} → OpT P → Option (OpT (Unit {0}))
stays (StoreO p a) = Some (StoreO tt tt)
stays (LoadO t p) = Some (LoadO tt tt)
stays (FreshO k) = Some (FreshO k)
stays (EndO k) = Some (EndO k)
stays (InO t port) = Some (InO tt port)
stays (OutO port a) = Some (OutO port tt)
stays WaitO = Some WaitO
stays HaltO = Some HaltO
stays _ = None

abbrev pub some_before : Option (OpT (Unit {0})) → NodesT (Unit {0}) → NodesT (Unit {0})
some_before None c = c
some_before (Some o) c = Do o c

abbrev pub some_place : {P : Type 0} → Option P → Option (Unit {0})
some_place None = None
some_place (Some p) = Some tt

abbrev pub skeleton : {P : Type 0} → NodesT P → NodesT (Unit {0})
skeleton Stop = Stop
skeleton (Do o c) = some_before (stays o) (skeleton c)
skeleton (Call t f args c) = Call (some_place t) f (map (λ a. tt) args) (skeleton c)
skeleton (Choose p a b c) = Choose tt (skeleton a) (skeleton b) (skeleton c)
skeleton (Block b c) = Block (skeleton b) (skeleton c)
skeleton (Loop b c) = Loop (skeleton b) (skeleton c)
skeleton (Leave k c) = Leave k (skeleton c)
skeleton (Again k c) = Again k (skeleton c)
skeleton (Return p c) = Return (some_place p) (skeleton c)

-- What follows from one skeleton: no loop or call more, equal nesting, and the same locals live at once.
pub record SameShape {P Q : Type 0} (b : NodesT P) (a : NodesT Q) : Type 0 where
  pub adds_none : AddsNone b a
  pub nests : nesting a ≡ nesting b
  pub at_once : (ks : List ℕ) → LiveAtOnce b ks → LiveAtOnce a ks
  pub back : (ks : List ℕ) → LiveAtOnce a ks → LiveAtOnce b ks
