-- Where the points of a region come to stand on the screen, 640 by 360 (the system specification, section on drawing regions).
use Rattle.std.specs.Prelude.{ℕ, zero, suc, ◌+◌, ◌-◌, ◌*◌, ◌%◌, nat_le, ◌&&◌, Bool, if◌then◌else◌}

-- the signed reading of a word, raised by 2 ^ 31, so that sums and comparisons need no sign
abbrev pub raised : ℕ → ℕ
raised word = (word + 2147483648) % 4294967296

-- Along one side, the texture's place u comes to the screen's place x where x is point + u - hotspot, that is where
-- x + raised hotspot is raised point + u. Whether the u of x is least to most, ends included:
abbrev pub is_reached : ℕ → ℕ → ℕ → ℕ → ℕ → Bool
is_reached point hotspot least most x =
    nat_le (raised point + least) (x + raised hotspot) && nat_le (x + raised hotspot) (raised point + most)

-- the u of x
abbrev pub texture_place : ℕ → ℕ → ℕ → ℕ
texture_place point hotspot x = (x + raised hotspot) - raised point

-- how many numbers below n pass a test
unfoldable pub count_below : ℕ → (ℕ → Bool) → ℕ
count_below zero p = 0
count_below (suc n) p = (if p n then 1 else 0) + count_below n p

-- the place of a pixel in the list of the screen's, by rows
abbrev pub place : ℕ → ℕ → ℕ
place x y = y * 640 + x
