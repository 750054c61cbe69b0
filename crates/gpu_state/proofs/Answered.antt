-- What a port answers is what the definition says of the history.
use Rattle.std.proofs.Common.{◌≡◌, inl, inr, ℕ, ◌*◌, arith, refl, List, length, ◌∙◌}
use Rattle.std.specs.Prelude.{slice_get, unwrap_or}
use Rattle.std.proofs.lemmas.Bool.{cases_lt}
use Rattle.std.proofs.lemmas.Option.{slice_get_past}
use Rattle.asset_pack.specs.Texts.{Image}
use Rattle.port_history.specs.Past.{Happening}
use Rattle.gpu_state.specs.Settings.{selected_texture, selected_region}
use Rattle.gpu_state.specs.Regions.{region_at, region_now, is_side, is_hotspot}
use Rattle.gpu_state.specs.Answers.{graphics_answer}
use Rattle.gpu_state.specs.Stand.{Graphics, GraphicsStand}
use Rattle.gpu_state.specs.Changes.{place_of_selected, zero_region, answer_with}
use Rattle.gpu_state.specs.declared.region.Region.{Region}
use Rattle.gpu_state.proofs.Standing.{region_same, selected_stands, no_region_word}

-- the region that is taken where none is selected
none_selected : (t r : ℕ) (past : List Happening) → zero_region ≡ region_at 0 t r past
unfolding zero_region region_at
none_selected t r past = rw (
  no_region_word 0x20C is_side t r past,
  no_region_word 0x20D is_side t r past,
  no_region_word 0x20E is_side t r past,
  no_region_word 0x20F is_side t r past,
  no_region_word 0x210 is_hotspot t r past,
  no_region_word 0x211 is_hotspot t r past,
) refl

none_of : (n : ℕ) (past : List Happening) → n ≡ 0 → zero_region ≡ region_now n past
unfolding region_now
none_of n past e = rw e (none_selected (selected_texture 0 past) (selected_region past) past)

some_of : (n : ℕ) (past : List Happening) (b : Region) → b ≡ region_at n (selected_texture n past) (selected_region past) past → b ≡ region_now n past
unfolding region_now
some_of n past b e = e

pub region_selected : (textures : List Image) (past : List Happening) (g : Graphics) → GraphicsStand textures past g →
    unwrap_or (slice_get g.regions (place_of_selected g.settings)) zero_region ≡ region_now (length textures) past
region_selected textures past g h = elim (cases_lt 0 (length textures)) [
  | inl some ↦
      let (b, e, stands) = selected_stands textures past g h some in
      rw e (some_of (length textures) past b (region_same (length textures) _ _ past b stands))
  | inr none ↦
      let full : length g.regions ≡ length textures * 4096 = h.regions_full in
      let e = slice_get_past g.regions (place_of_selected g.settings) (omega arith) in
      rw e (none_of (length textures) past (omega arith))
]

pub answer_same : (textures : List Image) (past : List Happening) (g : Graphics) (region : Region) (port : ℕ) → GraphicsStand textures past g →
    region ≡ unwrap_or (slice_get g.regions (place_of_selected g.settings)) zero_region →
    answer_with g.left g.settings region port ≡ graphics_answer textures past port
unfolding answer_with graphics_answer
answer_same textures past g region port h e =
    let s = h.settings_are in
    rw (
      e ∙ region_selected textures past g h,
      h.left_is,
      s.clear_color_is,
      s.multiply_color_is,
      s.blending_is,
      s.texture_is,
      s.region_is,
      s.point_x_is,
      s.point_y_is,
    ) refl
