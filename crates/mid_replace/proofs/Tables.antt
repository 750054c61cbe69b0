-- The temporaries of a table.
use Rattle.std.proofs.Common.{◌≡◌, ℕ, ◌≤◌, Bool, true, false, ◌&&◌, ltb, refl, arith}
use Rattle.mid_replace.specs.declared.table.Table.{Table}
use Rattle.mid_replace.specs.inner.Tables.{plan_in, HasRoom}

false_true : false ≡ true → ⊥
false_true e = cc

pub both_0 : (a b : Bool) → (a && b) ≡ true → a ≡ true
both_0 true b e = refl
both_0 false b e = absurd (false_true e)

pub both_1 : (a b : Bool) → (a && b) ≡ true → b ≡ true
both_1 true b e = e
both_1 false b e = absurd (false_true e)

pub has_room : (t : Table) (k w : ℕ) → HasRoom t → ((plan_in t).held k && ltb w ((plan_in t).size k)) ≡ true → (plan_in t).variable k w ≤ 1000000
has_room t k w room e =
    let a = room k (both_0 ((plan_in t).held k) (ltb w ((plan_in t).size k)) e) in
    let b = both_1 ((plan_in t).held k) (ltb w ((plan_in t).size k)) e in
    grind (arith, a, b)
