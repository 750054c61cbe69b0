-- What the readable ports of graphics answer (the system specification, section on the graphics chip's ports).
use Rattle.std.specs.Prelude.{ℕ, ◌==◌, List, length, if◌then◌else◌}
use Rattle.asset_pack.specs.Texts.{Image}
use Rattle.port_history.specs.Past.{Happening}
use Rattle.gpu_state.specs.Settings.{clear_color, multiply_color, active_blending, selected_texture, selected_region, drawing_point_x, drawing_point_y}
use Rattle.gpu_state.specs.Regions.{region_now}
use Rattle.gpu_state.specs.Commands.{remaining}

unfoldable pub graphics_answer : List Image → List Happening → ℕ → ℕ
graphics_answer textures past port =
    if port == 0x201 then remaining textures past
    else (if port == 0x202 then clear_color past
    else (if port == 0x203 then multiply_color past
    else (if port == 0x204 then active_blending past
    else (if port == 0x205 then selected_texture (length textures) past
    else (if port == 0x206 then selected_region past
    else (if port == 0x207 then drawing_point_x past
    else (if port == 0x208 then drawing_point_y past
    else (if port == 0x20C then (region_now (length textures) past).min_x
    else (if port == 0x20D then (region_now (length textures) past).min_y
    else (if port == 0x20E then (region_now (length textures) past).max_x
    else (if port == 0x20F then (region_now (length textures) past).max_y
    else (if port == 0x210 then (region_now (length textures) past).hotspot_x
    else (if port == 0x211 then (region_now (length textures) past).hotspot_y
    else 0)))))))))))))
