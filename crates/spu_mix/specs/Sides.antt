-- The two sides of a sample (the system specification, sound chip, on samples and mixing). A signed number of 16 bits is
-- raised by 32,768, so that sums need no sign.
use Rattle.std.specs.Prelude.{ℕ, ◌+◌, ◌-◌, ◌*◌, ◌/◌, ◌%◌, min, List, slice_index, Option, Some, None}

-- the left side is the low 16 bits of a word, the right side the high 16
abbrev pub raised_left : ℕ → ℕ
raised_left word = (word % 65536 + 32768) % 65536

abbrev pub raised_right : ℕ → ℕ
raised_right word = (word / 65536 + 32768) % 65536

-- what a channel adds at a position of its sound, or silence
abbrev pub left_at : List ℕ → Option ℕ → ℕ
left_at samples None = 32768
left_at samples (Some position) = raised_left (slice_index samples position)

abbrev pub right_at : List ℕ → Option ℕ → ℕ
right_at samples None = 32768
right_at samples (Some position) = raised_right (slice_index samples position)

-- The raised sum of sixteen raised numbers, clamped to -32,768 to 32,767, as 16 bits. Sixteen raises are 524,288, so
-- -32,768 stands at 491,520.
abbrev pub clamped : ℕ → ℕ
clamped sum = (min 65535 (sum - 491520) + 32768) % 65536

abbrev pub mixed_word : ℕ → ℕ → ℕ
mixed_word left right = clamped left + 65536 * clamped right
