-- The ports, their names and directions (the system specification, section on the control ports of each device).
use Rattle.std.specs.Prelude.{ℕ, ◌==◌, Bool, true, false, List, [], ◌∷◌, Option, if◌then◌else◌, find, codes}
use Rattle.std.specs.Option.{option_map_or}
use Rattle.std.specs.Str.{bytes_eq}
use Rattle.std.specs.Borrow.{Bor}
use Rattle.v32_isa.specs.declared.port_table.PortRow.{PortRow}
use Rattle.v32_isa.specs.declared.port_table.Direction.{Direction}
use Rattle.v32_isa.specs.declared.port_table.Direction.TheVariants.{Input, Output, Both}

-- a port: the bytes of its name, its number, whether IN may name it, and whether OUT may
pub record PortEntry : Type 0 where
  pub name : List ℕ
  pub number : ℕ
  pub readable : Bool
  pub writable : Bool

-- a port that answers, one that takes a word, one that does both
abbrev pub input : List ℕ → ℕ → PortEntry
input name number = record { name = name; number = number; readable = true; writable = false }

abbrev pub output : List ℕ → ℕ → PortEntry
output name number = record { name = name; number = number; readable = false; writable = true }

abbrev pub both : List ℕ → ℕ → PortEntry
both name number = record { name = name; number = number; readable = true; writable = true }

-- the ports of the timer, the random numbers, graphics, sound, gamepads, the cartridge and the memory card
unfoldable pub port_table : List PortEntry
port_table =
    input (codes "TIM_CurrentDate") 0x000 ∷
    input (codes "TIM_CurrentTime") 0x001 ∷
    input (codes "TIM_FrameCounter") 0x002 ∷
    input (codes "TIM_CycleCounter") 0x003 ∷
    both (codes "RNG_CurrentValue") 0x100 ∷
    output (codes "GPU_Command") 0x200 ∷
    input (codes "GPU_RemainingPixels") 0x201 ∷
    both (codes "GPU_ClearColor") 0x202 ∷
    both (codes "GPU_MultiplyColor") 0x203 ∷
    both (codes "GPU_ActiveBlending") 0x204 ∷
    both (codes "GPU_SelectedTexture") 0x205 ∷
    both (codes "GPU_SelectedRegion") 0x206 ∷
    both (codes "GPU_DrawingPointX") 0x207 ∷
    both (codes "GPU_DrawingPointY") 0x208 ∷
    both (codes "GPU_RegionMinX") 0x20C ∷
    both (codes "GPU_RegionMinY") 0x20D ∷
    both (codes "GPU_RegionMaxX") 0x20E ∷
    both (codes "GPU_RegionMaxY") 0x20F ∷
    both (codes "GPU_RegionHotspotX") 0x210 ∷
    both (codes "GPU_RegionHotspotY") 0x211 ∷
    output (codes "SPU_Command") 0x300 ∷
    both (codes "SPU_SelectedSound") 0x302 ∷
    both (codes "SPU_SelectedChannel") 0x303 ∷
    input (codes "SPU_SoundLength") 0x304 ∷
    both (codes "SPU_SoundPlayWithLoop") 0x305 ∷
    both (codes "SPU_SoundLoopStart") 0x306 ∷
    both (codes "SPU_SoundLoopEnd") 0x307 ∷
    input (codes "SPU_ChannelState") 0x308 ∷
    both (codes "SPU_ChannelAssignedSound") 0x309 ∷
    both (codes "SPU_ChannelLoopEnabled") 0x30C ∷
    both (codes "SPU_ChannelPosition") 0x30D ∷
    both (codes "INP_SelectedGamepad") 0x400 ∷
    input (codes "INP_GamepadConnected") 0x401 ∷
    input (codes "INP_GamepadLeft") 0x402 ∷
    input (codes "INP_GamepadRight") 0x403 ∷
    input (codes "INP_GamepadUp") 0x404 ∷
    input (codes "INP_GamepadDown") 0x405 ∷
    input (codes "INP_GamepadButtonStart") 0x406 ∷
    input (codes "INP_GamepadButtonA") 0x407 ∷
    input (codes "INP_GamepadButtonB") 0x408 ∷
    input (codes "INP_GamepadButtonX") 0x409 ∷
    input (codes "INP_GamepadButtonY") 0x40A ∷
    input (codes "INP_GamepadButtonL") 0x40B ∷
    input (codes "INP_GamepadButtonR") 0x40C ∷
    input (codes "CAR_Connected") 0x500 ∷
    input (codes "CAR_ProgramROMSize") 0x501 ∷
    input (codes "CAR_NumberOfTextures") 0x502 ∷
    input (codes "CAR_NumberOfSounds") 0x503 ∷
    input (codes "MEM_Connected") 0x600 ∷
    []

-- two names have a second spelling
abbrev pub first_spelling : List ℕ → List ℕ
first_spelling name =
    if bytes_eq name (codes "GPU_RegionHotSpotX") then codes "GPU_RegionHotspotX"
    else (if bytes_eq name (codes "GPU_RegionHotSpotY") then codes "GPU_RegionHotspotY"
    else name)

-- the port of a name in its first spelling
unfoldable pub port_spelled : List ℕ → Option PortEntry
port_spelled name = find (λ e. bytes_eq e.name name) port_table

-- the port of a name, in either spelling; none where the table has no such name
unfoldable pub port_named : List ℕ → Option PortEntry
port_named name = port_spelled (first_spelling name)

-- the port of a number; none where the table has no such number
unfoldable pub port_numbered : ℕ → Option PortEntry
port_numbered number = find (λ e. e.number == number) port_table

-- whether the table lists the port as one that answers, and as one that takes a word
unfoldable pub is_readable : ℕ → Bool
is_readable number = option_map_or (λ e. e.readable) (port_numbered number) false

unfoldable pub is_writable : ℕ → Bool
is_writable number = option_map_or (λ e. e.writable) (port_numbered number) false

-- what a row of the program's table says
abbrev pub entry_of : PortRow → PortEntry
entry_of r = record { name = r.name.now; number = r.number; readable = r.readable; writable = r.writable }

-- and what an entry of that table says
abbrev pub directed : Direction → List ℕ → ℕ → PortEntry
directed Input name number = input name number
directed Output name number = output name number
directed Both name number = both name number

abbrev pub listed : Bor (List ℕ) × ℕ × Direction → PortEntry
listed e = directed e.2 e.0.now e.1
