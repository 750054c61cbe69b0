-- One pixel (the system specification, section on colours and blending). A colour is a word: red in its lowest byte, then
-- green, blue and alpha.
use Rattle.std.specs.Prelude.{ℕ, ◌+◌, ◌-◌, ◌*◌, ◌/◌, ◌%◌, min}
use Rattle.pix_lanes.specs.declared.blend.Blend.{Blend}
use Rattle.pix_lanes.specs.declared.blend.Blend.TheVariants.{Alpha, Add, Subtract}

-- n / 255 rounded to nearest; 255 is odd, so there is no tie
abbrev pub nearest_quotient : ℕ → ℕ
nearest_quotient n = (2 * n + 255) / 510

-- the four parts of a colour
abbrev pub red : ℕ → ℕ
red word = word % 256

abbrev pub green : ℕ → ℕ
green word = word / 256 % 256

abbrev pub blue : ℕ → ℕ
blue word = word / 65536 % 256

abbrev pub alpha : ℕ → ℕ
alpha word = word / 16777216

-- the colour of these parts with alpha 255
abbrev pub opaque : ℕ → ℕ → ℕ → ℕ
opaque r g b = r + g * 256 + b * 65536 + 4278190080

-- a part of the texture's colour times that of the multiply colour
abbrev pub product : ℕ → ℕ → ℕ
product texture multiply = nearest_quotient (texture * multiply)

-- a part of the drawn colour, with that colour's alpha, over the part of the screen's
abbrev pub part_over : Blend → ℕ → ℕ → ℕ → ℕ
part_over Alpha colour a screen = nearest_quotient (colour * a + screen * (255 - a))
part_over Add colour a screen = min 255 (screen + nearest_quotient (colour * a))
part_over Subtract colour a screen = screen - nearest_quotient (colour * a)

-- the colour of a screen pixel after a texture's colour was drawn on it
unfoldable pub drawn : Blend → ℕ → ℕ → ℕ → ℕ
drawn mode multiply texture screen = opaque
    (part_over mode (product (red texture) (red multiply)) a (red screen))
    (part_over mode (product (green texture) (green multiply)) a (green screen))
    (part_over mode (product (blue texture) (blue multiply)) a (blue screen))
  where
    a : ℕ
    a = product (alpha texture) (alpha multiply)
