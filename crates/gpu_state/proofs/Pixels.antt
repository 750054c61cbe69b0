-- What a drawing leaves of a pixel.
use Rattle.std.proofs.Common.{◌≡◌, ℕ, ◌<◌, ◌≤◌, ◌+◌, ◌*◌, arith, get_or}
use Rattle.std.proofs.Common.{inl, inr}
use Rattle.std.proofs.lemmas.Bool.{cases_lt}
use Rattle.pix_lanes.specs.Pixels.{drawn, nearest_quotient, part_over, red, green, blue, alpha}
use Rattle.pix_lanes.specs.declared.blend.Blend.{Blend}
use Rattle.pix_lanes.specs.declared.blend.Blend.TheVariants.{Alpha, Add, Subtract}
use Rattle.asset_pack.specs.Texts.{Image}
use Rattle.gpu_state.specs.Colours.{texel}

nothing_met : (mode : Blend) (m a s : ℕ) → s < 256 → a ≡ 0 → part_over mode (nearest_quotient (0 * m)) a s ≡ s
nothing_met Alpha m a s h e = rw e (omega arith)
nothing_met Add m a s h e = rw e (omega arith)
nothing_met Subtract m a s h e = rw e (omega arith)

-- a point of no colour leaves an opaque pixel as it is
pub drawn_nothing : (mode : Blend) (m d : ℕ) → 4278190080 ≤ d → d < 4294967296 → drawn mode m 0 d ≡ d
unfolding drawn
drawn_nothing mode m d h k =
    let r = nothing_met mode (red m) (nearest_quotient (0 * alpha m)) (red d) (omega arith) (omega arith) in
    let g = nothing_met mode (green m) (nearest_quotient (0 * alpha m)) (green d) (omega arith) (omega arith) in
    let b = nothing_met mode (blue m) (nearest_quotient (0 * alpha m)) (blue d) (omega arith) (omega arith) in
    rw (r, g, b) (omega arith)

pub drawn_opaque : (mode : Blend) (m s d : ℕ) → 4278190080 ≤ drawn mode m s d
unfolding drawn
drawn_opaque mode m s d = omega arith

pub texel_inside : (p : Image) (u v : ℕ) → u < p.width → v < p.height → texel p u v ≡ get_or p.pixels (v * p.width + u) 0
unfolding texel
texel_inside p u v h k = grind arith

pub texel_right : (p : Image) (u v : ℕ) → p.width ≤ u → texel p u v ≡ 0
unfolding texel
texel_right p u v h = grind arith

pub texel_below : (p : Image) (u v : ℕ) → p.height ≤ v → texel p u v ≡ 0
unfolding texel
texel_below p u v h = grind arith

-- One pixel of a drawing that left out the points outside the texture: u and v are its point, and `now` is the pixel
-- drawn where the point is inside, and as before elsewhere.
pub drawn_point : (mode : Blend) (m : ℕ) (p : Image) (u v before now : ℕ) → 4278190080 ≤ before → before < 4294967296 →
    (u < p.width → v < p.height → now ≡ drawn mode m (get_or p.pixels (v * p.width + u) 0) before) →
    (p.width ≤ u → now ≡ before) → (p.height ≤ v → now ≡ before) → now ≡ drawn mode m (texel p u v) before
drawn_point mode m p u v before now full fits inside right below =
    elim (cases_lt u p.width) [
      | inr beyond ↦ rw (texel_right p u v beyond, drawn_nothing mode m before full fits) (right beyond)
      | inl within ↦ elim (cases_lt v p.height) [
        | inr under ↦ rw (texel_below p u v under, drawn_nothing mode m before full fits) (below under)
        | inl over ↦ rw (texel_inside p u v within over) (inside within over)
      ]
    ]
