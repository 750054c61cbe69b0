-- The places of a brace list that are left behind so many items. Only private clauses cite this.
use Rattle.std.specs.Prelude.{ℕ, ◌-◌, drop}
use Rattle.c_stmts.specs.Slots.{Slots, NoSlots, Elements, Members}

abbrev pub slots_behind : ℕ → Slots → Slots
slots_behind n NoSlots = NoSlots
slots_behind n (Elements of left) = Elements of (left - n)
slots_behind n (Members types) = Members (drop n types)
