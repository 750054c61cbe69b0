-- Random numbers (the system specification, section on the random number generator).
use Rattle.std.specs.Prelude.{ℕ, ◌+◌, ◌*◌, ◌^◌, ◌%◌, ◌==◌, ◌&&◌, nat_le, Bool, List, [], ◌∷◌, if◌then◌else◌}
use Rattle.port_history.specs.Past.{Happening, Began, Asked, Told, Mixed, last_accepted}

-- a word that the port accepts as a seed
abbrev pub is_seed : ℕ → Bool
is_seed word = nat_le 1 word && nat_le word 2147483646

-- the last accepted seed, 1 at first
abbrev pub seed : List Happening → ℕ
seed past = last_accepted 0x100 is_seed 1 past

-- the reads since
abbrev pub reads : List Happening → ℕ
reads [] = 0
reads (Began ∷ past) = reads past
reads (Asked port ∷ past) = if port == 0x100 then 1 + reads past else reads past
reads (Told port word ∷ past) = if port == 0x100 && is_seed word then 0 else reads past
reads (Mixed ∷ past) = reads past

-- the value after so many reads since that seed
unfoldable pub random_after : ℕ → ℕ → ℕ
random_after s j = (s * 48271 ^ j) % 2147483647

-- the value that is kept once a port was asked: only a read of the random value moves it on
abbrev pub asked_random : ℕ → ℕ → ℕ
asked_random port random = if port == 0x100 then (48271 * random) % 2147483647 else random
