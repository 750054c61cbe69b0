-- Code over registers and slots, and the layout of frames.
use Rattle.std.specs.Prelude.{ℕ, zero, suc, ◌+◌, cond, eqb, List, [], ◌∷◌, map, sum, Option, Some, None}
use Rattle.mid_code.specs.declared.placed.Where.{Where}
use Rattle.mid_code.specs.declared.placed.Where.TheVariants.{Reg, Slot}
use Rattle.mid_code.specs.Code.{OpT, ConstO, NullO, MoveO, OneO, TwoO, GlobalO, LocalO, LiteralO, CardO, StepO, ApartO, PtrTestO, LoadO, StoreO}
use Rattle.mid_code.specs.Code.{FreshO, EndO, InO, OutO, WaitO, HaltO, NodesT, Stop, Do, Call, Choose, Block, Loop, Leave, Again, Return, FunctionT}
use Rattle.mid_code.specs.Code.{CodeT}
use Rattle.mid_code.specs.Placed.{SpotsT, PlacedT}
use Rattle.mid_code.specs.Safe.{place_of}
use Rattle.mid_code.specs.Choices.{slots_named, slot_count}

-- ---- code over other places

abbrev pub placed_maybe : {P Q : Type 0} → (P → Q) → Option P → Option Q
placed_maybe w None = None
placed_maybe w (Some p) = Some (w p)

abbrev pub placed_op : {P Q : Type 0} → (P → Q) → OpT P → OpT Q
placed_op w (ConstO t word) = ConstO (w t) word
placed_op w (NullO t) = NullO (w t)
placed_op w (MoveO t a) = MoveO (w t) (w a)
placed_op w (OneO o t a) = OneO o (w t) (w a)
placed_op w (TwoO o t a b) = TwoO o (w t) (w a) (w b)
placed_op w (GlobalO t number) = GlobalO (w t) number
placed_op w (LocalO t number) = LocalO (w t) number
placed_op w (LiteralO t number) = LiteralO (w t) number
placed_op w (CardO t) = CardO (w t)
placed_op w (StepO t p n) = StepO (w t) (w p) (w n)
placed_op w (ApartO t p q) = ApartO (w t) (w p) (w q)
placed_op w (PtrTestO o t p q) = PtrTestO o (w t) (w p) (w q)
placed_op w (LoadO t p) = LoadO (w t) (w p)
placed_op w (StoreO p a) = StoreO (w p) (w a)
placed_op w (FreshO local) = FreshO local
placed_op w (EndO local) = EndO local
placed_op w (InO t port) = InO (w t) port
placed_op w (OutO port a) = OutO port (w a)
placed_op w WaitO = WaitO
placed_op w HaltO = HaltO

abbrev pub placed_nodes : {P Q : Type 0} → (P → Q) → NodesT P → NodesT Q
placed_nodes w Stop = Stop
placed_nodes w (Do o c) = Do (placed_op w o) (placed_nodes w c)
placed_nodes w (Call t f args c) = Call (placed_maybe w t) f (map w args) (placed_nodes w c)
placed_nodes w (Choose p a b c) = Choose (w p) (placed_nodes w a) (placed_nodes w b) (placed_nodes w c)
placed_nodes w (Block b c) = Block (placed_nodes w b) (placed_nodes w c)
placed_nodes w (Loop b c) = Loop (placed_nodes w b) (placed_nodes w c)
placed_nodes w (Leave k c) = Leave k (placed_nodes w c)
placed_nodes w (Again k c) = Again k (placed_nodes w c)
placed_nodes w (Return p c) = Return (placed_maybe w p) (placed_nodes w c)

abbrev pub placed_function : {P Q : Type 0} → (P → Q) → FunctionT P → FunctionT Q
placed_function w f = record { temps = f.temps; params = map w f.params; locals = f.locals; gives = f.gives; body = placed_nodes w f.body }

-- ---- slots

-- where a number stands among these; behind all of them, where it is none
abbrev pub index_in : List ℕ → ℕ → ℕ
index_in [] n = 0
index_in (m ∷ ms) n = cond (eqb m n) 0 (suc (index_in ms n))

-- slots are numbered anew, without gaps
abbrev pub renumbered : List ℕ → Where → Where
renumbered ns (Reg number) = Reg number
renumbered ns (Slot number) = Slot (index_in ns number)

-- the place of a temporary, by a choice
abbrev pub placing : List Where → ℕ → Where
placing ws x = renumbered (slots_named ws) (place_of ws x)

-- ---- frames

-- Slots, then locals, each behind the one before.
abbrev pub frame_size : List Where → FunctionT ℕ → ℕ
frame_size ws f = slot_count ws + sum f.locals

-- so many numbers from one on
abbrev pub rising : (from count : ℕ) → List ℕ
rising n zero = []
rising n (suc k) = n ∷ rising (suc n) k

-- where words of these sizes begin, one behind the other
abbrev pub begins_from : ℕ → List ℕ → List ℕ
begins_from n [] = []
begins_from n (size ∷ sizes) = n ∷ begins_from (n + size) sizes

abbrev pub spots_of : List Where → FunctionT ℕ → SpotsT
spots_of ws f = record { slots = rising 0 (slot_count ws); locals = begins_from (slot_count ws) f.locals; own = [] }

-- ---- programs

-- one choice for each function
abbrev pub choice_at : List (List Where) → ℕ → List Where
choice_at [] k = []
choice_at (ws ∷ wss) zero = ws
choice_at (ws ∷ wss) (suc k) = choice_at wss k

abbrev pub placed_functions : List (List Where) → List (FunctionT ℕ) → List (FunctionT Where)
placed_functions wss [] = []
placed_functions [] (f ∷ fs) = placed_function (placing []) f ∷ placed_functions [] fs
placed_functions (ws ∷ wss) (f ∷ fs) = placed_function (placing ws) f ∷ placed_functions wss fs

abbrev pub frame_sizes : List (List Where) → List (FunctionT ℕ) → List ℕ
frame_sizes wss [] = []
frame_sizes [] (f ∷ fs) = frame_size [] f ∷ frame_sizes [] fs
frame_sizes (ws ∷ wss) (f ∷ fs) = frame_size ws f ∷ frame_sizes wss fs

abbrev pub all_spots : List (List Where) → List (FunctionT ℕ) → List SpotsT
all_spots wss [] = []
all_spots [] (f ∷ fs) = spots_of [] f ∷ all_spots [] fs
all_spots (ws ∷ wss) (f ∷ fs) = spots_of ws f ∷ all_spots wss fs

abbrev pub placed_code : (start : List Where) → List (List Where) → CodeT ℕ → CodeT Where
placed_code start wss x = record {
  start = placed_function (placing start) x.start;
  functions = placed_functions wss x.functions;
  globals = x.globals;
  literals = x.literals;
  main = x.main;
}

abbrev pub placed : (start : List Where) → List (List Where) → CodeT ℕ → PlacedT
placed start wss x = record { code = placed_code start wss x; frames = frame_sizes wss x.functions; spots = all_spots wss x.functions }
