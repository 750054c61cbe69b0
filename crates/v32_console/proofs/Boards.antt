-- The devices stand for a past with one happening more.
use Rattle.std.proofs.Common.{ℕ, ◌≡◌, Bool, true, false, List, ◌∷◌, refl, arith}
use Rattle.std.specs.Prelude.{◌||◌}
use Rattle.v32_isa.specs.Ports.{is_readable, is_writable}
use Rattle.port_history.specs.Past.{Happening, Began, Asked, Told, Mixed, is_graphics_port, is_sound_port}
use Rattle.gpu_state.specs.Stand.{GraphicsStand, Graphics}
use Rattle.gpu_state.specs.Answers.{graphics_answer}
use Rattle.gpu_state.proofs.Elsewhere.{stands_asked, stands_told, stands_mixed}
use Rattle.spu_mix.specs.Stands.{SoundStands, SoundUnit}
use Rattle.spu_mix.specs.Answers.{sound_answer}
use Rattle.spu_mix.proofs.Others.{stands_for_all, stands_for_ours}
use Rattle.port_bus.specs.Stand.{DevicesStand}
use Rattle.port_bus.specs.State as small
use Rattle.port_bus.specs.inner.Ports.{Answers, TakesWords}
use Rattle.port_bus.specs.Answers.{small_answer}
use Rattle.port_bus.proofs.Others.{asked_elsewhere, told_elsewhere, mixed_elsewhere}
use Rattle.v32_console.specs.declared.board.Board.{Board}
use Rattle.v32_console.specs.Setup.{Setup, facts_of}
use Rattle.v32_console.specs.Devices.{answer_at}
use Rattle.v32_console.specs.Stands.{BoardStands}

-- what happens elsewhere is nothing to sound
module _ (sounds : List (List ℕ)) (past : List Happening) (unit : SoundUnit) (h : SoundStands sounds past unit) where
  sound_began : SoundStands sounds (Began ∷ past) unit
  sound_began = stands_for_all sounds (Began ∷ past) unit (stands_for_ours sounds past unit h)

  sound_other : (p : ℕ) → SoundStands sounds (Asked p ∷ past) unit
  sound_other p = stands_for_all sounds (Asked p ∷ past) unit (stands_for_ours sounds past unit h)

  sound_elsewhere : (p w : ℕ) → is_sound_port p ≡ false → SoundStands sounds (Told p w ∷ past) unit
  sound_elsewhere p w no_sound = stands_for_all sounds (Told p w ∷ past) unit (rw no_sound (stands_for_ours sounds past unit h))

either_first : (a b : Bool) → a ≡ true → a || b ≡ true
either_first true b e = refl
either_first false b e = absurd cc

either_second : (a b : Bool) → b ≡ true → a || b ≡ true
either_second true b e = refl
either_second false b e = e

-- a port of graphics is none of sound
pub no_sound : (p : ℕ) → is_graphics_port p ≡ true → is_sound_port p ≡ false
no_sound p g = grind arith

module _ (u : Setup) (past : List Happening) (b : Board) where
  pub board_began : (g : Graphics) (d : small.State) → BoardStands u past b → GraphicsStand u.textures (Began ∷ past) g → DevicesStand u.pads (facts_of u) (Began ∷ past) d
      → (cycles : ℕ) → BoardStands u (Began ∷ past) (record b { gpu = g; devices = d; cycles = cycles })
  board_began g d h k l cycles = record { graphics = k; sound = sound_began u.sounds past b.spu h.sound; small = l }

  pub board_mixed : (d : SoundUnit) → BoardStands u past b → SoundStands u.sounds (Mixed ∷ past) d → BoardStands u (Mixed ∷ past) (record b { spu = d })
  board_mixed d h k = record { graphics = stands_mixed u.textures past b.gpu h.graphics; sound = k; small = mixed_elsewhere u.pads (facts_of u) past b.devices h.small }

  module _ (p : ℕ) where
    pub graphics_asked : is_graphics_port p ≡ true → BoardStands u past b → BoardStands u (Asked p ∷ past) b
    graphics_asked g h = record {
      graphics = stands_asked u.textures past b.gpu p h.graphics;
      sound = sound_other u.sounds past b.spu h.sound p;
      small = asked_elsewhere u.pads (facts_of u) past b.devices p (either_first (is_graphics_port p) (is_sound_port p) g) h.small;
    }

    pub sound_asked : is_sound_port p ≡ true → BoardStands u past b → BoardStands u (Asked p ∷ past) b
    sound_asked s h = record {
      graphics = stands_asked u.textures past b.gpu p h.graphics;
      sound = sound_other u.sounds past b.spu h.sound p;
      small = asked_elsewhere u.pads (facts_of u) past b.devices p (either_second (is_graphics_port p) (is_sound_port p) s) h.small;
    }

    pub small_asked : (d : small.State) → BoardStands u past b → DevicesStand u.pads (facts_of u) (Asked p ∷ past) d → BoardStands u (Asked p ∷ past) (record b { devices = d })
    small_asked d h k = record { graphics = stands_asked u.textures past b.gpu p h.graphics; sound = sound_other u.sounds past b.spu h.sound p; small = k }

    pub graphics_told : (w : ℕ) (d : Graphics) → is_graphics_port p ≡ true → is_sound_port p ≡ false → BoardStands u past b
        → GraphicsStand u.textures (Told p w ∷ past) d → BoardStands u (Told p w ∷ past) (record b { gpu = d })
    graphics_told w d g s h k = record {
      graphics = k;
      sound = sound_elsewhere u.sounds past b.spu h.sound p w s;
      small = told_elsewhere u.pads (facts_of u) past b.devices p w (either_first (is_graphics_port p) (is_sound_port p) g) h.small;
    }

    pub sound_told : (w : ℕ) (d : SoundUnit) → is_graphics_port p ≡ false → is_sound_port p ≡ true → BoardStands u past b
        → SoundStands u.sounds (Told p w ∷ past) d → BoardStands u (Told p w ∷ past) (record b { spu = d })
    sound_told w d g s h k = record {
      graphics = stands_told u.textures past b.gpu p w g h.graphics;
      sound = k;
      small = told_elsewhere u.pads (facts_of u) past b.devices p w (either_second (is_graphics_port p) (is_sound_port p) s) h.small;
    }

    pub small_told : (w : ℕ) (d : small.State) → is_graphics_port p ≡ false → is_sound_port p ≡ false → BoardStands u past b
        → DevicesStand u.pads (facts_of u) (Told p w ∷ past) d → BoardStands u (Told p w ∷ past) (record b { devices = d })
    small_told w d g s h k = record { graphics = stands_told u.textures past b.gpu p w g h.graphics; sound = sound_elsewhere u.sounds past b.spu h.sound p w s; small = k }

    pub graphics_answered : (cycles : ℕ) → is_graphics_port p ≡ true → graphics_answer u.textures past p ≡ answer_at u past cycles p
    unfolding answer_at
    graphics_answered cycles g = rw g refl

    pub sound_answered : (cycles : ℕ) → is_graphics_port p ≡ false → is_sound_port p ≡ true → sound_answer u.sounds past p ≡ answer_at u past cycles p
    unfolding answer_at
    sound_answered cycles g s = rw (g, s) refl

    pub small_answered : (cycles : ℕ) → is_graphics_port p ≡ false → is_sound_port p ≡ false → small_answer u.pads (facts_of u) past cycles p ≡ answer_at u past cycles p
    unfolding answer_at
    small_answered cycles g s = rw (g, s) refl

-- a readable port that is neither of graphics nor of sound
pub small_readable : (p : ℕ) → is_readable p ≡ true → is_graphics_port p ≡ false → is_sound_port p ≡ false → Answers p
small_readable p r g s = record { listed = r; small = rw (g, s) refl }

pub small_writable : (p : ℕ) → is_writable p ≡ true → is_graphics_port p ≡ false → is_sound_port p ≡ false → TakesWords p
small_writable p r g s = record { listed = r; small = rw (g, s) refl }
