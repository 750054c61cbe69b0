-- What is made of a program.
use Rattle.std.specs.Prelude.{ℕ, List, [], map}
use Rattle.asm_items.specs.declared.item.AsmItem.{AsmItem}
use Rattle.c_types.specs.Programs.{ProgramT}
use Rattle.c_meaning.specs.Setting.{setting}
use Rattle.mid_code.specs.declared.placed.Where.{Where}
use Rattle.mid_code.specs.Code.{CodeT}
use Rattle.mid_code.specs.Plain.{IsPromoted}
use Rattle.mid_code.specs.Placed.{PlacedT}
use Rattle.mid_code.specs.Choices.{AreSafe}
use Rattle.mid_code.specs.Whole.{mid, placed}
use Rattle.mid_improve.specs.Settled.{IsSettled}
use Rattle.reg_choose.specs.Each.{AllSpare}
use Rattle.reg_frames.specs.Placeable.{places_of}
use Rattle.reg_frames.specs.PlacedFrom.{IsPlacedFrom}
use Rattle.asm_emit.specs.EmittedFrom.{IsEmitted}
use Rattle.pass_laws.specs.Meeting.{KeepsMeaning}
use Rattle.c_compile.specs.Straight.{EachStraight}
use Rattle.c_compile.specs.declared.compiling.Compiled.{Compiled}

-- Settled mid code without plain locals, where its temporaries stand, the code over these places, and its items.
pub record CompiledT : Type 0 where
  pub mid : CodeT ℕ
  pub choices : List (List Where)
  pub placed : PlacedT
  pub items : List AsmItem

abbrev pub compiled : Compiled → CompiledT
compiled c = record { mid = mid c.mid; choices = places_of c.choices.items; placed = placed c.placed; items = c.items.items }

abbrev pub names_of : ProgramT → List (List ℕ)
names_of p = map (λ f. f.name) p.functions

pub record IsCompiled (p : ProgramT) (c : CompiledT) : Type 0 where
  -- no local of one word whose address is never taken, no operator whose words are known, no copy as an operand, and nothing that only puts what nothing reads
  pub promoted : IsPromoted c.mid
  pub settled : IsSettled c.mid
  pub safe : AreSafe c.mid c.choices
  -- no choice has a slot where it needs none
  pub spares : AllSpare c.mid c.choices
  pub placed : IsPlacedFrom c.mid c.choices c.placed
  pub emitted : IsEmitted c.placed (names_of p) c.items
  -- functions without loops stay so
  pub straight : EachStraight (setting p []) p.functions c.placed.code.functions
  -- the words that the items are placed as do what the program means
  pub meaning : KeepsMeaning p c.mid c.placed c.items
