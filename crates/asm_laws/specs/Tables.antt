-- The setting of placed code with its frames and spots.
use Rattle.std.specs.Prelude.{ℕ, ◌+◌, ◌-◌, ◌<◌, cond, ltb, eqb, List, [], ◌∷◌, length, get_or, Option, Some, None}
use Rattle.mid_code.specs.Placed.{SpotsT, PlacedT}
use Rattle.mid_code.specs.States.{function_at}
use Rattle.asm_laws.specs.Spare.{held_registers}
use Rattle.asm_laws.specs.Live.{all_last, lasting_registers}
use Rattle.asm_laws.specs.Operations.{Frame, Whole, start_frame}
use Rattle.asm_laws.specs.Laid.{spread, literal_sizes}
use Rattle.asm_laws.specs.Linked.{Plan}

-- Functions have their numbers, the start has the next one; and one more is that of the start when it calls main.
pub data Number : Type 0 where
  OfFunction : Number
  OfStart : Number
  OfRest : Number

abbrev pub number_of : ℕ → ℕ → Number
number_of count f = cond (ltb f count) OfFunction (cond (eqb f count) OfStart OfRest)

abbrev pub spots_at : PlacedT → ℕ → SpotsT
spots_at x f = get_or x.spots f (record { slots = []; locals = []; own = [] })

abbrev pub frame_for : PlacedT → Number → ℕ → Frame
frame_for x OfFunction f = record {
  slots = (spots_at x f).slots;
  locals = (spots_at x f).locals;
  size = get_or x.frames f 0;
  depth = get_or x.frames f 0;
  registers = held_registers (function_at x.code f).body;
  lasting = lasting_registers (function_at x.code f).body;
}
frame_for x OfStart f = start_frame
frame_for x OfRest f = record { slots = []; locals = []; size = 0; depth = 0; registers = 9; lasting = all_last }

abbrev pub slot_for : PlacedT → Number → (f k : ℕ) → Type 0
slot_for x OfFunction f k = k < length (spots_at x f).slots
slot_for x OfStart f k = k < 1000000
slot_for x OfRest f k = ⊥

abbrev pub called_for : Number → ℕ → Option ℕ
called_for OfFunction f = Some f
called_for OfStart f = None
called_for OfRest f = None

abbrev pub locals_for : PlacedT → Number → ℕ → List ℕ
locals_for x OfFunction f = (function_at x.code f).locals
locals_for x OfStart f = []
locals_for x OfRest f = []

abbrev pub addresses : ℕ → List ℕ → List ℕ
addresses p [] = []
addresses p (n ∷ ns) = p ∷ addresses (p + n) ns

abbrev pub fixed_for : PlacedT → (first_literal : ℕ) → ℕ → ℕ
fixed_for x first o =
    cond (ltb o (length x.code.globals)) (spread x.code.globals 0 o)
    (cond (ltb o (length x.code.globals + length x.code.literals)) (spread (literal_sizes x.code.literals) first (o - length x.code.globals)) 0x30000000)

abbrev pub count_of : PlacedT → ℕ
count_of x = length x.code.functions

-- what the emitter goes by of a program whose functions have these names
abbrev pub whole_of : PlacedT → (names : List (List ℕ)) → Whole
whole_of x names = record {
  frames = λ f. frame_for x OfFunction f;
  params = λ f. (function_at x.code f).params;
  names = names;
  globals = addresses 0 x.code.globals;
}

abbrev pub plan_of : PlacedT → (names : List (List ℕ)) → (address : List ℕ → ℕ) → (enters leaves : ℕ → ℕ) → (first_literal : ℕ) → Plan
plan_of x names address enters leaves first = record {
  placed = x;
  whole = record (whole_of x names) { frames = λ f. frame_for x (number_of (count_of x) f) f };
  address = address;
  has_slot = λ f k. slot_for x (number_of (count_of x) f) f k;
  called_as = λ f. called_for (number_of (count_of x) f) f;
  locals = λ f. locals_for x (number_of (count_of x) f) f;
  enters = enters;
  leaves = leaves;
  fixed = fixed_for x first;
  fixed_count = length x.code.globals + length x.code.literals + 1;
}
