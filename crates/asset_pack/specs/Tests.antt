-- The tests of a words file, a texture or a sound, in their order: 71 for under eight bytes, 70 for
-- another signature, 71 for a header cut off, 72 for a size out of range, 71 for words cut off, 73
-- for bytes after them.
use Rattle.std.specs.Prelude.{ℕ, ◌+◌, ◌*◌, List, length, take, codes, bytes_eq, Bool, ◌&&◌, not, nat_lt, nat_le, if◌then◌else◌, Option, Some, None}
use Rattle.asset_pack.specs.declared.kind.Kind.{Kind}
use Rattle.asset_pack.specs.declared.kind.Kind.TheVariants as kinds
use Rattle.asset_pack.specs.declared.error.AssetFault.{AssetFault}
use Rattle.asset_pack.specs.Words.{word_at}

abbrev pub signature : Kind → List ℕ
signature kinds.Words = codes "V32-VBIN"
signature kinds.Texture = codes "V32-VTEX"
signature kinds.Sound = codes "V32-VSND"

-- the bytes of the signature and the sizes
abbrev pub head : Kind → ℕ
head kinds.Words = 12
head kinds.Texture = 16
head kinds.Sound = 12

abbrev pub is_side : ℕ → Bool
is_side n = nat_le 1 n && nat_le n 1024

-- whether the sizes are in range
unfoldable pub in_range : Kind → List ℕ → Bool
in_range kinds.Words bytes = nat_le (word_at 8 bytes) 33554432
in_range kinds.Texture bytes = is_side (word_at 8 bytes) && is_side (word_at 12 bytes)
in_range kinds.Sound bytes = nat_le 1 (word_at 8 bytes) && nat_le (word_at 8 bytes) 33554432

-- how many words follow
unfoldable pub count : Kind → List ℕ → ℕ
count kinds.Words bytes = word_at 8 bytes
count kinds.Texture bytes = word_at 8 bytes * word_at 12 bytes
count kinds.Sound bytes = word_at 8 bytes

-- the bytes of the whole file
abbrev pub size : Kind → List ℕ → ℕ
size kind bytes = head kind + 4 * count kind bytes

-- the first test that fails of those that let bytes follow
unfoldable pub front_fault : Kind → List ℕ → Option AssetFault
front_fault kind bytes =
    if nat_lt (length bytes) 8 then Some (record { code = 71 })
    else (if not (bytes_eq (take 8 bytes) (signature kind)) then Some (record { code = 70 })
    else (if nat_lt (length bytes) (head kind) then Some (record { code = 71 })
    else (if not (in_range kind bytes) then Some (record { code = 72 })
    else (if nat_lt (length bytes) (size kind bytes) then Some (record { code = 71 })
    else None))))

-- the same, then that no byte follows
abbrev pub or_trailing : Option AssetFault → Bool → Option AssetFault
or_trailing (Some e) longer = Some e
or_trailing None longer = if longer then Some (record { code = 73 }) else None

unfoldable pub file_fault : Kind → List ℕ → Option AssetFault
file_fault kind bytes = or_trailing (front_fault kind bytes) (nat_lt (size kind bytes) (length bytes))
