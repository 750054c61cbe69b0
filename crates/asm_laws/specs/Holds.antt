-- How registers and memory hold the state of placed code: its objects, cells and frames.
use Rattle.std.specs.Prelude.{◌≡◌, ◌≢◌, ℕ, ◌+◌, ◌-◌, ◌<◌, ◌≤◌, ◌⊎◌, Bool, true, false, List, [], ◌∷◌, length, get_or, Option, Some, None}
use Rattle.kit_base.specs.Word.{add}
use Rattle.obj_mem.specs.declared.cell.Cell.{Cell}
use Rattle.obj_mem.specs.declared.cell.Cell.TheVariants.{Unwritten, Num, Ptr, Null}
use Rattle.obj_mem.specs.declared.cell.ObjectKind.{ObjectKind}
use Rattle.obj_mem.specs.declared.cell.ObjectKind.TheVariants as kind
use Rattle.obj_mem.specs.Objects.{ObjectT, object_at, cell_at, extent, card_words}
use Rattle.obj_mem.specs.Stores.{Store, Sizes, local_object}
use Rattle.mid_code.specs.declared.placed.Where.{Where}
use Rattle.mid_code.specs.declared.placed.Where.TheVariants.{Reg, Slot}
use Rattle.mid_code.specs.Code.{CodeT}
use Rattle.mid_code.specs.States.{function_at, sizes_of}
use Rattle.asm_laws.specs.Operations.{Frame, Whole}
use Rattle.asm_laws.specs.Names.{literal_label}
use Rattle.asm_laws.specs.Addresses.{Addr, Console}

-- Where a program stands: the console, the code with its printed frames, the frames and addresses that the emitter goes by, the address of
-- each label; and for each number of a function, and of the start, which slots are named in it, the number that the store knows it by, and
-- the words of its locals.
pub record Setting : Type 1 where
  pub console : Console
  pub code : CodeT Where
  pub frames : List ℕ
  pub whole : Whole
  pub address : List ℕ → ℕ
  pub has_slot : (function number : ℕ) → Type 0
  pub called_as : ℕ → Option ℕ
  pub locals : ℕ → List ℕ
  -- the addresses where its body begins and ends
  pub enters : ℕ → ℕ
  pub leaves : ℕ → ℕ
  -- the addresses of objects that live through the whole run, which are so many
  pub fixed : ℕ → ℕ
  pub fixed_count : ℕ

abbrev pub sizes : Setting → Sizes
sizes S = sizes_of S.code S.frames

abbrev pub frame_of : Setting → ℕ → Frame
frame_of S f = S.whole.frames f

-- how many words of its frame are on the stack
abbrev pub depth_of : Setting → ℕ → ℕ
depth_of S f = (S.whole.frames f).depth

abbrev pub slot_offset : Setting → (f k : ℕ) → ℕ
slot_offset S f k = get_or (S.whole.frames f).slots k k

abbrev pub local_offset : Setting → (f k : ℕ) → ℕ
local_offset S f k = get_or (S.whole.frames f).locals k 0

abbrev pub local_words : Setting → (f k : ℕ) → ℕ
local_words S f k = get_or (S.locals f) k 0

-- a place that is there in a function
abbrev pub Named : Setting → ℕ → Where → Type 0
Named S f (Reg r) = r < 9
Named S f (Slot k) = S.has_slot f k

-- slots and locals stand inside the frame, slots apart from one another and from locals, locals apart from those that may live with them
pub record Fits (S : Setting) : Type 0 where
  pub slot_in : (f k : ℕ) → S.has_slot f k → slot_offset S f k < (S.whole.frames f).size
  pub slot_apart : (f j k : ℕ) → S.has_slot f j → S.has_slot f k → slot_offset S f j ≡ slot_offset S f k → j ≡ k
  pub slot_local : (f k j i : ℕ) → S.has_slot f k → j < length (S.locals f) → i < local_words S f j → slot_offset S f k ≢ local_offset S f j + i
  pub local_in : (f j : ℕ) → j < length (S.locals f) → local_offset S f j + local_words S f j ≤ (S.whole.frames f).size
  pub local_apart : (f j k i h : ℕ) → j < length (S.locals f) → k < length (S.locals f) → i < local_words S f j → h < local_words S f k
      → local_offset S f j + i ≡ local_offset S f k + h → j ≡ k
  pub depth_in : (f : ℕ) → depth_of S f ≤ (S.whole.frames f).size
  -- a function, or the start, which has no locals
  pub depth_is : (f j : ℕ) → j < length (S.locals f) → depth_of S f ≡ (S.whole.frames f).size
  pub locals_are : (f g : ℕ) → S.called_as f ≡ Some g → S.locals f ≡ (function_at S.code g).locals
  pub locals_none : (f : ℕ) → S.called_as f ≡ None → S.locals f ≡ []
  -- the addresses in the code
  pub globals_at : (k : ℕ) → k < length S.code.globals → (k < S.fixed_count) × (get_or S.whole.globals k 0 ≡ S.fixed k)
  pub literals_at : (k : ℕ) → k < length S.code.literals → (length S.code.globals + k < S.fixed_count)
      × (S.address (literal_label k) ≡ S.fixed (length S.code.globals + k))
  pub card_at : (length S.code.globals + length S.code.literals < S.fixed_count) × (S.fixed (length S.code.globals + length S.code.literals) ≡ 0x30000000)
  pub fixed_small : (o : ℕ) → o < S.fixed_count → S.fixed o < 0x40000000
  -- the program ends below the card
  pub short : length S.console.words < 0x10000000

-- What a call keeps of its callers: its number, the end of its frame, how many objects were there and what they were and where, and words that
-- stay.
pub record Ctx : Type 0 where
  pub fn : ℕ
  pub base : ℕ
  pub first : ℕ
  pub keep : ℕ → Bool
  pub old : ℕ → ℕ
  pub seen : List ObjectT
  pub spot : ℕ → ℕ

-- where a slot of the call stands
abbrev pub slot_place : Setting → Ctx → ℕ → ℕ
slot_place S κ k = κ.base - ((S.whole.frames κ.fn).size - slot_offset S κ.fn k)

abbrev pub Lives : List ObjectT → ℕ → Type 0
Lives os o = (object_at os o).lives ≡ true

-- the number of words of an object
abbrev pub wide : List ObjectT → ℕ → ℕ
wide os o = extent (object_at os o)

-- a word stands for a cell, where n objects have been made
abbrev pub Stands : ℕ → (ℕ → ℕ) → Cell → ℕ → Type 0
Stands n place Unwritten v = Unit {0}
Stands n place (Num x) v = v ≡ x
Stands n place (Ptr o i) v = (o < n) × (v ≡ add (place o) i) × (i < 0x100000000)
Stands n place Null v = v ≡ 0xFFFFFFFF

-- an address at which an object of a kind may have a word
abbrev pub InRegion : Console → ObjectKind → ℕ → Type 0
InRegion C kind.Global a = a < 0x400000
InRegion C kind.Local a = a < 0x400000
InRegion C kind.Literal a = (0x20000000 ≤ a) × (a < 0x20000000 + length C.words)
InRegion C kind.Card a = (0x30000000 ≤ a) × (a < 0x30040000)

-- a card has all its words where one is connected, else none
abbrev pub CardAs : Console → ObjectKind → List Cell → Type 0
CardAs C kind.Card [] = C.has_card ≡ false
CardAs C kind.Card (c ∷ cs) = (C.has_card ≡ true) × (length (c ∷ cs) ≡ card_words)
CardAs C _ cs = Unit {0}

-- the cells of places
pub record Temps (S : Setting) (κ : Ctx) (n : ℕ) (place : ℕ → ℕ) (cells : Where → Cell) (regs memory : ℕ → ℕ) : Type 0 where
  pub in_regs : (r : ℕ) → r < 9 → Stands n place (cells (Reg r)) (regs r)
  pub in_slots : (k : ℕ) → S.has_slot κ.fn k → Stands n place (cells (Slot k)) (memory (slot_place S κ k))

-- the words of objects that live
pub record Ranges (S : Setting) (κ : Ctx) (os : List ObjectT) (place : ℕ → ℕ) (locals : List (Option ℕ)) : Type 0 where
  pub inside : (o i : ℕ) → Lives os o → i < wide os o → InRegion S.console (object_at os o).kind (place o + i)
  pub ends : (o : ℕ) → Lives os o → place o + wide os o ≤ 0x40000000
  pub cards : (o : ℕ) → Lives os o → CardAs S.console (object_at os o).kind (object_at os o).cells
  pub apart : (o p i j : ℕ) → Lives os o → Lives os p → i < wide os o → j < wide os p → place o + i ≡ place p + j → o ≡ p
  pub outer : (o i : ℕ) → o < κ.first → Lives os o → i < wide os o → (place o + i < (sizes S).globals) ⊎ (κ.base ≤ place o + i)
  pub mine : (o : ℕ) → κ.first ≤ o → Lives os o → (k : ℕ) × (k < length locals) × (local_object locals k ≡ Some o)
  pub local : (k o : ℕ) → k < length locals → local_object locals k ≡ Some o
      → (κ.first ≤ o) × (o < length os) × (place o + ((S.whole.frames κ.fn).size - local_offset S κ.fn k) ≡ κ.base)
  pub local_wide : (k o : ℕ) → k < length locals → local_object locals k ≡ Some o → Lives os o → wide os o ≡ local_words S κ.fn k
  pub first_in : κ.first ≤ length os
  pub old_lives : (o : ℕ) → o < κ.first → Lives os o → Lives κ.seen o × (wide os o ≡ wide κ.seen o)
  pub old_place : (o : ℕ) → o < κ.first → place o ≡ κ.spot o
  pub kept_apart : (o i : ℕ) → Lives os o → i < wide os o → κ.keep (place o + i) ≡ false

-- the cells of objects that live
pub record Cells (os : List ObjectT) (place memory : ℕ → ℕ) : Type 0 where
  pub at : (o i : ℕ) → Lives os o → i < length (object_at os o).cells → Stands (length os) place (cell_at (object_at os o) i) (memory (place o + i))
  -- an object that lives no more has none
  pub lives : (o i : ℕ) → i < length (object_at os o).cells → Lives os o

-- the objects that live through the whole run, and the words that stay
pub record Kept (S : Setting) (κ : Ctx) (memory : ℕ → ℕ) : Type 0 where
  pub fixed : (o : ℕ) → o < S.fixed_count → (o < κ.first) × (κ.spot o ≡ S.fixed o)
  pub same : (a : ℕ) → κ.keep a ≡ true → memory a ≡ κ.old a
  pub above : (a : ℕ) → κ.keep a ≡ true → κ.base ≤ a

-- the frame
pub record Stack (S : Setting) (κ : Ctx) (function : Option ℕ) (locals used base top : ℕ) : Type 0 where
  pub called_as : function ≡ S.called_as κ.fn
  pub locals_are : locals ≡ length (S.locals κ.fn)
  pub base_is : base ≡ κ.base
  pub top_is : top + depth_of S κ.fn ≡ κ.base
  pub low : (sizes S).globals + (S.whole.frames κ.fn).size ≤ κ.base
  pub high : κ.base ≤ 0x400000
  -- no more words are in use than the printed frames, and two for each call, have
  pub used_is : 0x400000 + depth_of S κ.fn ≤ κ.base + used

pub record HoldsAt (S : Setting) (κ : Ctx) (s : Store) (cells : Where → Cell) (place : ℕ → ℕ) (a : Addr) : Type 0 where
  pub temps : Temps S κ (length s.objects) place cells a.regs a.memory
  pub ranges : Ranges S κ s.objects place s.locals
  pub objects : Cells s.objects place a.memory
  pub kept : Kept S κ a.memory
  pub stack : Stack S κ s.function (length s.locals) s.used a.base a.top
