-- The tests of a cartridge's header, in their order: 85 for over 268,435,456 bytes, 81 for under 128,
-- 80 for another signature, 86 for another revision, 82 for a field out of range, 81 and 84 for a
-- file that is shorter or longer than its total.
use Rattle.std.specs.Prelude.{ℕ, List, [], ◌∷◌, length, take, drop, codes, bytes_eq, Bool, ◌&&◌, ◌||◌, ◌==◌, not, nat_lt, nat_le, if◌then◌else◌}
use Rattle.std.specs.Prelude.{Option, Some, None}
use Rattle.std.specs.List.{list_all}
use Rattle.asset_pack.specs.Words.{word_at}
use Rattle.cart_format.specs.declared.error.CartFault.{CartFault}
use Rattle.cart_format.specs.declared.error.CartFault.TheVariants.{At}
use Rattle.cart_format.specs.Cartridge.{is_title}

abbrev pub is_zero : ℕ → Bool
is_zero b = b == 0

-- what stands before the first zero
unfoldable pub until_zero : List ℕ → List ℕ
until_zero [] = []
until_zero (b ∷ bs) = if b == 0 then [] else b ∷ until_zero bs

-- the title in its 64 bytes
abbrev pub title_at : List ℕ → List ℕ
title_at bytes = until_zero (take 64 (drop 28 bytes))

-- a title, then zeros to the end
unfoldable pub is_title_field : List ℕ → Bool
is_title_field field = is_title (until_zero field) && list_all is_zero (drop (length (until_zero field)) field)

unfoldable pub is_in_range : List ℕ → Bool
is_in_range bytes =
    nat_le 1 (word_at 16 bytes) && (nat_le (word_at 16 bytes) 33554432 && (nat_le (word_at 20 bytes) 256 && (nat_le (word_at 24 bytes) 1024
    && (is_title_field (take 64 (drop 28 bytes)) && list_all is_zero (take 36 (drop 92 bytes))))))

abbrev pub is_revision : ℕ → Bool
is_revision n = n == 1 || n == 2

-- the first test of the header that fails
unfoldable pub header_fault : List ℕ → Option CartFault
header_fault bytes =
    if nat_lt 268435456 (length bytes) then Some (At 85)
    else (if nat_lt (length bytes) 128 then Some (At 81)
    else (if not (bytes_eq (take 8 bytes) (codes "KIT-CART")) then Some (At 80)
    else (if not (is_revision (word_at 8 bytes)) then Some (At 86)
    else (if not (is_in_range bytes) then Some (At 82)
    else (if nat_lt (length bytes) (word_at 12 bytes) then Some (At 81)
    else (if nat_lt (word_at 12 bytes) (length bytes) then Some (At 84)
    else None))))))
