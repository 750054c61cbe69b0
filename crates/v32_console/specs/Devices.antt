-- What a port answers in a console, by what happened so far (the system specification, sections on the ports).
use Rattle.std.specs.Prelude.{ℕ, List, if◌then◌else◌}
use Rattle.port_history.specs.Past.{Happening, is_graphics_port, is_sound_port}
use Rattle.gpu_state.specs.Answers.{graphics_answer}
use Rattle.spu_mix.specs.Answers.{sound_answer}
use Rattle.port_bus.specs.Answers.{small_answer}
use Rattle.v32_console.specs.Setup.{Setup, facts_of}

-- a port that is asked after this past, so many instructions after the frame's beginning
unfoldable pub answer_at : Setup → List Happening → ℕ → ℕ → ℕ
answer_at u past cycles port =
    if is_graphics_port port then graphics_answer u.textures past port
    else (if is_sound_port port then sound_answer u.sounds past port
    else small_answer u.pads (facts_of u) past cycles port)
