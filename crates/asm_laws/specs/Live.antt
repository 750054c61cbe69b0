-- Which registers are live where nodes come next, as a stretch of nodes tells of itself.
use Rattle.std.specs.Prelude.{ℕ, zero, suc, ◌≡◌, ◌<◌, ◌==◌, ◌&&◌, ◌||◌, not, cond, get_or, is_some, Bool, true, false, List, [], ◌∷◌, Option, Some, None}
use Rattle.mid_code.specs.declared.placed.Where.{Where}
use Rattle.mid_code.specs.declared.placed.Where.TheVariants.{Reg, Slot}
use Rattle.mid_code.specs.Code.{NodesT, Stop, Do, Call, Choose, Block, Loop, Leave, Again, Return, OpT, LocalO, StepO, uses, target, maybe}
use Rattle.asm_laws.specs.declared.copying.Copying.{Copying}
use Rattle.asm_laws.specs.Copies.{copy_of, lead, copy_at, is_from}
use Rattle.asm_laws.specs.Asks.{ask_of, is_flag}

abbrev pub is_place : Where → (register : ℕ) → Bool
is_place (Reg q) r = q == r
is_place (Slot k) r = false

abbrev pub is_among : List Where → (register : ℕ) → Bool
is_among [] r = false
is_among (p ∷ ps) r = is_place p r || is_among ps r

abbrev pub is_read : OpT Where → (register : ℕ) → Bool
is_read o r = is_among (uses o) r

abbrev pub is_put : OpT Where → (register : ℕ) → Bool
is_put o r = is_among (maybe (target o)) r

-- what a loop that copies words or fills them reads; and what it puts somewhere before it reads it there
abbrev pub reads_cell : (from : Option ℕ) → Bool
reads_cell None = true
reads_cell (Some f) = false

abbrev pub copy_reads : Copying → (register : ℕ) → Bool
copy_reads y r = (r == y.to) || (is_from y.from r || ((r == y.count) || ((r == y.one) || (reads_cell y.from && (r == y.cell)))))

-- ---- live registers

-- of a loop, where it is known what is live behind it
abbrev pub live_at_copy : Option Copying → (register : ℕ) → (behind : Bool) → Bool
live_at_copy None r j = false
live_at_copy (Some y) r j = copy_reads y r || (not (r == y.cell) && j)

-- of a loop that only asks for a turn: it puts a word into its register, reads none, and else the nodes behind it tell
abbrev pub live_at_loop : Option ℕ → (register : ℕ) → (behind other : Bool) → Bool
live_at_loop None r j other = other
live_at_loop (Some f) r j other = not (r == f) && j

-- Whether a register lasts from one stretch of nodes to the next, which is told for the first ones.
abbrev pub lasts : (lasting : List Bool) → (register : ℕ) → Bool
lasts hs r = get_or hs r true

-- A register is live where its word is read before another one is put there. At the ends of lists, where nodes are left and where turns begin, those are
-- that last.
abbrev pub live : (lasting : List Bool) → NodesT Where → (register : ℕ) → Bool
live h Stop r = lasts h r
live h (Do o c) r = is_read o r || (not (is_put o r) && live h c r)
live h (Call t f args c) r = is_among args r
live h (Choose p a b c) r = is_place p r || (live h a r || live h b r)
live h (Block b c) r = live h b r
live h (Loop b c) r = live_at_loop (ask_of b) r (live h c r) (lasts h r || live_at_copy (copy_of b) r (live h c r))
live h (Leave k c) r = lasts h r
live h (Again k c) r = lasts h r
live h (Return p c) r = is_among (maybe p) r

-- the same as so many nodes tell; what they do not tell of is taken to be
abbrev pub live_soon : (nodes : ℕ) → (lasting : List Bool) → NodesT Where → (register : ℕ) → Bool
live_soon zero h c r = true
live_soon (suc n) h Stop r = lasts h r
live_soon (suc n) h (Do o c) r = is_read o r || (not (is_put o r) && live_soon n h c r)
live_soon (suc n) h (Call t f args c) r = is_among args r
live_soon (suc n) h (Choose p a b c) r = true
live_soon (suc n) h (Block b c) r = live_soon n h b r
live_soon (suc n) h (Loop b c) r =
    live_at_loop (ask_of b) r (live_soon n h c r) (lasts h r || live_at_copy (copy_of b) r (live_soon n h c r))
live_soon (suc n) h (Leave k c) r = lasts h r
live_soon (suc n) h (Again k c) r = lasts h r
live_soon (suc n) h (Return p c) r = is_among (maybe p) r

-- how many nodes the emitter asks behind a block move
abbrev pub ahead : ℕ
ahead = 64

-- what is asked for behind a loop that comes behind operations
abbrev pub asked_behind : (lasting : List Bool) → NodesT Where → (register : ℕ) → Bool
asked_behind h (Do o c) = asked_behind h c
asked_behind h (Loop b c) = live_soon ahead h c
asked_behind h _ = λ r. true

-- ---- registers that last

-- how many operations behind one are done with it since a loop that is done by a block move comes behind them
abbrev pub leads_by : Option (ℕ × Copying) → ℕ
leads_by None = 0
leads_by (Some (k, y)) = k

abbrev pub copied_reads : Option Copying → (register : ℕ) → Bool
copied_reads None r = false
copied_reads (Some y) r = copy_reads y r

-- Whether a register is upward exposed in nodes: read in some stretch before another word is put there. Stretches begin behind choices, blocks and loops, and
-- in loops, but not behind one that is done by a block move or only asks for a turn. In this one nothing was put there yet where it is unset. So many
-- operations in front are done.
abbrev pub exposed : (unset : Bool) → NodesT Where → (done : ℕ) → (register : ℕ) → Bool
exposed o Stop k r = false
exposed o (Do p c) zero r = (o && is_read p r) || exposed (o && not (is_put p r)) c (leads_by (lead (Do p c))) r
exposed o (Do p c) (suc k) r = (o && is_read p r) || exposed (o && not (is_put p r)) c k r
exposed o (Call t f args c) k r = (o && is_among args r) || exposed false c 0 r
exposed o (Choose p a b c) k r = (o && is_place p r) || (exposed o a 0 r || (exposed o b 0 r || exposed true c 0 r))
exposed o (Block b c) k r = exposed o b 0 r || exposed true c 0 r
exposed o (Loop b c) k r = cond (is_some (ask_of b)) (exposed (o && not (is_flag (ask_of b) r)) c 0 r)
    (cond (is_some (copy_at k b))
    ((o && copied_reads (copy_of b) r) || exposed o c 0 r)
    (copied_reads (copy_of b) r || (exposed true b 0 r || exposed true c 0 r)))
exposed o (Leave j c) k r = exposed true c 0 r
exposed o (Again j c) k r = exposed true c 0 r
exposed o (Return p c) k r = (o && is_among (maybe p) r) || exposed true c 0 r

-- whether there is a loop that copies words or fills them, or only asks for a turn
abbrev pub copies : NodesT Where → Bool
copies Stop = false
copies (Do o c) = copies c
copies (Call t f args c) = copies c
copies (Choose p a b c) = copies a || (copies b || copies c)
copies (Block b c) = copies b || copies c
copies (Loop b c) = is_some (ask_of b) || (is_some (copy_of b) || (copies b || copies c))
copies (Leave k c) = copies c
copies (Again k c) = copies c
copies (Return p c) = copies c

-- whether there is an operation that takes the address of a local, or adds to an address
abbrev pub takes_address : OpT Where → Bool
takes_address (LocalO t k) = true
takes_address (StepO t p n) = true
takes_address o = false

abbrev pub addresses : NodesT Where → Bool
addresses Stop = false
addresses (Do o c) = takes_address o || addresses c
addresses (Call t f args c) = addresses c
addresses (Choose p a b c) = addresses a || (addresses b || addresses c)
addresses (Block b c) = addresses b || addresses c
addresses (Loop b c) = addresses b || addresses c
addresses (Leave k c) = addresses c
addresses (Again k c) = addresses c
addresses (Return p c) = addresses c

abbrev pub exposed_registers : NodesT Where → List Bool
exposed_registers body = exposed false body 0 0 ∷ exposed false body 0 1 ∷ exposed false body 0 2 ∷ exposed false body 0 3 ∷ exposed false body 0 4
    ∷ exposed false body 0 5 ∷ exposed false body 0 6 ∷ exposed false body 0 7 ∷ exposed false body 0 8 ∷ []

abbrev pub all_last : List Bool
all_last = true ∷ true ∷ true ∷ true ∷ true ∷ true ∷ true ∷ true ∷ true ∷ []

-- The registers of places that last from one stretch of a body to the next. Where there is no such loop and no address is worked out nobody asks.
unfoldable pub lasting_registers : NodesT Where → List Bool
lasting_registers body = cond (copies body || addresses body) (exposed_registers body) all_last

-- nodes of which the exposed registers are among these; whether nothing was put into one yet is told by register
abbrev pub Lasts : (lasting : List Bool) → (unset : ℕ → Bool) → NodesT Where → (done : ℕ) → Type 0
Lasts h o c k = (r : ℕ) → r < 9 → exposed (o r) c k r ≡ true → lasts h r ≡ true
