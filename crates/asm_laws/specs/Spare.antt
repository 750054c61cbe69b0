-- Register 8 holds nothing between operations in a body that only reads it where a known word was just put there: what is done with that word then.
use Rattle.std.specs.Prelude.{ℕ, zero, suc, ◌≡◌, ◌<◌, ◌⊎◌, ◌==◌, ◌&&◌, not, cond, Bool, true, false, List, [], ◌∷◌, Option, Some, None, option_map}
use Rattle.v32_isa.specs.declared.instruction.Two.{Two as TwoOf}
use Rattle.v32_isa.specs.declared.instruction.Two.TheVariants.{IADD, ISUB}
use Rattle.mid_code.specs.declared.placed.Where.{Where}
use Rattle.mid_code.specs.declared.placed.Where.TheVariants.{Reg, Slot}
use Rattle.mid_code.specs.Code.{NodesT, Stop, Do, Call, Choose, Block, Loop, Leave, Again, Return}
use Rattle.mid_code.specs.Code.{OpT, ConstO, TwoO, GlobalO, StepO, LoadO, StoreO, OutO, uses, maybe}
use Rattle.asm_laws.specs.Pieces.{register, is_in, turned, other_word, loads_there}
use Rattle.asm_laws.specs.declared.used.Used.{Used}
use Rattle.asm_laws.specs.declared.used.Used.TheVariants.{Computed, Loaded, Indexed, Offset, Element, Stored, Sent}

-- ---- up to four operations behind one that puts a known word into register 8

-- of two places just one of which is register 8, the other
abbrev pub beside : Where → Where → Option Where
beside p q = cond (is_in p 8) (cond (is_in q 8) None (Some q)) (cond (is_in q 8) (Some p) None)

-- and the operator that works on the other's word and the known one
abbrev pub operand : TwoOf → Where → Where → Option (TwoOf × Where)
operand o p q = cond (is_in p 8) (cond (is_in q 8) None (option_map (λ u. (u, q)) (turned o))) (cond (is_in q 8) (Some (o, p)) None)

abbrev pub computed : Where → Option (TwoOf × Where) → Option (ℕ × Used)
computed (Reg t) (Some (o, p)) = cond (register t == 8) None (Some (1, Computed o (register t) p))
computed _ _ = None

-- a load or a store at the address in register 8, which is a sum with the word of a place where there is one, with so many operations behind the first one
abbrev pub loaded : ℕ → Option Where → Where → Where → Option (ℕ × Used)
loaded k p (Reg t) q = cond (is_in q 8 && not (register t == 8)) (Some (k, Loaded (register t) p)) None
loaded k p (Slot t) q = None

abbrev pub in_slots : Option Where → Where → Bool
in_slots (Some (Slot j)) (Slot k) = true
in_slots _ _ = false

abbrev pub stored : ℕ → Option Where → Where → Where → Option (ℕ × Used)
stored k p q a = cond (is_in q 8 && not (is_in a 8)) (cond (in_slots p a) None (Some (k, Stored p a))) None

abbrev pub at_address : ℕ → Option Where → NodesT Where → Option (ℕ × Used)
at_address k p (Do (LoadO t q) c) = loaded k p t q
at_address k p (Do (StoreO q a) c) = stored k p q a
at_address k p _ = None

abbrev pub at_sum : Option Where → NodesT Where → Option (ℕ × Used)
at_sum None c = None
at_sum (Some p) c = at_address 2 (Some p) c

-- A sum with the word of a register other than 8, in register t, and a load from there into it.
abbrev pub index : ℕ → Option ℕ → Option (ℕ × Used)
index t None = None
index t (Some q) = cond (q == 8) None (Some (3, Indexed t q))

abbrev pub index_behind : ℕ → NodesT Where → Option (ℕ × Used)
index_behind t (Do (StepO u p q) c) = cond (loads_there t c) (index t (other_word t u p q)) None
index_behind t _ = None

-- the same behind a sum of a register's own word and the known one, which stands there too
abbrev pub indexed : Where → Option Where → NodesT Where → Option (ℕ × Used)
indexed (Reg t) (Some (Reg q)) c = cond (register q == register t) (index_behind (register t) c) None
indexed _ _ c = None

-- A load into register t, at the sum of the word that stands there and one that is put into register 8 right before; and what is done in all.
abbrev pub offset_load : ℕ → Used → NodesT Where → Option (ℕ × Used)
offset_load t u (Do (LoadO (Reg d) q) c) = cond ((register d == t) && is_in q 8) (Some (4, u)) None
offset_load t u _ = None

abbrev pub offset_sum : ℕ → Used → Where → Option Where → NodesT Where → Option (ℕ × Used)
offset_sum t u s (Some (Reg q)) c = cond ((register q == t) && is_in s 8) (offset_load t u c) None
offset_sum t u s _ c = None

abbrev pub offset_step : ℕ → Used → NodesT Where → Option (ℕ × Used)
offset_step t u (Do (StepO s p q) c) = offset_sum t u s (beside p q) c
offset_step t u _ = None

-- a number
abbrev pub offset_behind : ℕ → Where → NodesT Where → Option (ℕ × Used)
offset_behind t z (Do (ConstO s n) c) = cond (is_in s 8) (offset_step t (Offset t z n) c) None
offset_behind t z _ = None

-- the same behind a sum of the word of a place and the known one, in that register
abbrev pub offset : Where → Option Where → NodesT Where → Option (ℕ × Used)
offset (Reg t) (Some z) c = offset_behind (register t) z c
offset _ _ c = None

-- the address of a global, behind what an operator makes there of the word of a place and the known one
abbrev pub element_behind : TwoOf → ℕ → Where → NodesT Where → Option (ℕ × Used)
element_behind o t z (Do (GlobalO s k) c) = cond (is_in s 8) (offset_step t (Element o t z k) c) None
element_behind o t z _ = None

abbrev pub adds : TwoOf → Bool
adds IADD = true
adds ISUB = true
adds _ = false

abbrev pub element : Where → Option (TwoOf × Where) → NodesT Where → Option (ℕ × Used)
element (Reg t) (Some (o, z)) c = cond (adds o && not (register t == 8)) (element_behind o (register t) z c) None
element _ _ c = None

abbrev pub or_else : Option (ℕ × Used) → Option (ℕ × Used) → Option (ℕ × Used)
or_else None y = y
or_else (Some x) y = Some x

-- what is done with the known word, and by how many operations
abbrev pub used_by : NodesT Where → Option (ℕ × Used)
used_by (Do (TwoO o t p q) c) = or_else (element t (operand o p q) c) (computed t (operand o p q))
used_by (Do (StepO t p q) c) = cond (is_in t 8) (at_sum (beside p q) c)
    (or_else (indexed t (beside p q) c) (or_else (offset t (beside p q) c) (computed t (operand IADD p q))))
used_by (Do (OutO port p) c) = cond (is_in p 8) (Some (1, Sent port)) None
used_by c = at_address 1 None c

-- ---- bodies

-- whether an operation puts a known word there
abbrev pub puts : OpT Where → Bool
puts (ConstO t n) = is_in t 8
puts (GlobalO t k) = is_in t 8
puts _ = false

abbrev pub count : Option (ℕ × Used) → ℕ
count None = 0
count (Some (k, u)) = k

-- how many operations behind one are done with it since it puts a known word there
abbrev pub group : OpT Where → NodesT Where → ℕ
group o c = cond (puts o) (count (used_by c)) 0

-- none of some places is register 8
abbrev pub are_others : List Where → Bool
are_others [] = true
are_others (p ∷ ps) = not (is_in p 8) && are_others ps

-- whether nodes read register 8 in such groups alone, where so many operations in front are done already
abbrev pub spares : NodesT Where → (done : ℕ) → Bool
spares Stop k = true
spares (Do o c) zero = are_others (uses o) && spares c (group o c)
spares (Do o c) (suc k) = spares c k
spares (Call t f args c) k = are_others args && spares c 0
spares (Choose p a b c) k = not (is_in p 8) && (spares a 0 && (spares b 0 && spares c 0))
spares (Block b c) k = spares b 0 && spares c 0
spares (Loop b c) k = spares b 0 && spares c 0
spares (Leave j c) k = spares c 0
spares (Again j c) k = spares c 0
spares (Return p c) k = are_others (maybe p) && spares c 0

-- how many registers, from the first one on, hold places between operations
unfoldable pub held_registers : NodesT Where → ℕ
held_registers body = cond (spares body 0) 8 9

-- a place whose word stays there between operations, where so many registers hold places
abbrev pub Stays : ℕ → Where → Type 0
Stays n (Reg r) = r < n
Stays n (Slot k) = Unit {0}

-- nodes of a body where so many registers do, and so many operations in front are done already
abbrev pub Sparing : ℕ → NodesT Where → (done : ℕ) → Type 0
Sparing n c k = (n ≡ 9) ⊎ ((n ≡ 8) × (spares c k ≡ true))
