-- How far out of loops nodes reach, and what comes of a look at a loop.
use Rattle.std.specs.Prelude.{◌≡◌, ℕ, suc, ◌+◌, ◌*◌, ◌<◌, ◌||◌, List, length, Option, Some, None}
use Rattle.mid_code.specs.Code.{NodesT, Stop, Do, Call, Choose, Block, Loop, Leave, Again, Return}
use Rattle.mid_code.specs.Functions.{ListT, joined}
use Rattle.mid_code.specs.Live.{Label, is_live}
use Rattle.mid_live.specs.Sets.{on}
use Rattle.mid_live.specs.Heads.{named, list_loops}

-- what is left or begun anew is inside, or one of the n around it
abbrev pub Inside : ℕ → NodesT ℕ → Type 0
Inside n Stop = Unit {0}
Inside n (Do o c) = Inside n c
Inside n (Call t f args c) = Inside n c
Inside n (Choose p a b c) = Inside n a × Inside n b × Inside n c
Inside n (Block b c) = Inside (suc n) b × Inside n c
Inside n (Loop b c) = Inside (suc n) b × Inside n c
Inside n (Leave k c) = (k < n) × Inside n c
Inside n (Again k c) = (k < n) × Inside n c
Inside n (Return p c) = Inside n c

-- What came of a look at a loop with the body `b`: the set became what is live at its head, whatever is around it, and the answer is the number
-- behind its loops; or nothing came.
abbrev pub Passed : ℕ → ListT ℕ → (old new : List ℕ) → Option ℕ → Type 0
Passed k b old new (Some n) =
    (n ≡ suc (list_loops b) + k)
    × ((y : ℕ) (ls : List Label) → y < 64 * length old → on new y ≡ is_live y ls (Loop (joined b) Stop) (on old y))
Passed k b old new None = new ≡ old

-- The same, where what the loop names is put in.
abbrev pub NamesPut : ℕ → ListT ℕ → (old new : List ℕ) → Option ℕ → Type 0
NamesPut k b old new (Some n) = (n ≡ suc (list_loops b) + k) × ((y : ℕ) → y < 64 * length old → on new y ≡ (named (joined b) y || on old y))
NamesPut k b old new None = new ≡ old
