-- The operations before a loop that copies words or fills them, the first one apart.
use Rattle.std.proofs.Common.{◌≡◌, ℕ, Bool, true, false, cond, Option, Some, None, refl}
use Rattle.mid_code.specs.declared.placed.Where.{Where}
use Rattle.mid_code.specs.declared.placed.Where.TheVariants.{Reg}
use Rattle.mid_code.specs.Code.{NodesT, Do, ConstO, GlobalO, LocalO, MoveO}
use Rattle.asm_laws.specs.declared.copying.Copying.{Copying}
use Rattle.asm_laws.specs.Copies.{copy_after, reads_moved, puts_ahead, last_put, leads_to, leads}
use Rattle.asm_emit.specs.inner.Listed.{leads_with, leads_behind}

pub const_leads : (r n : ℕ) (c : NodesT Where) → leads_behind r (Some n) None c (copy_after c) ≡ leads (Do (ConstO (Reg r) n) c) (copy_after c)
unfolding puts_ahead last_put
const_leads r n c = go (copy_after c)
  where
    on : (y : Copying) (x : Option ℕ) → leads_with r (Some n) y c x ≡ leads_to y (Do (ConstO (Reg r) n) c) x
    on y None = refl
    on y (Some k) = refl

    go : (x : Option Copying) → leads_behind r (Some n) None c x ≡ leads (Do (ConstO (Reg r) n) c) x
    go None = refl
    go (Some y) = on y (puts_ahead y 1 c)

pub global_leads : (r k : ℕ) (c : NodesT Where) → leads_behind r None None c (copy_after c) ≡ leads (Do (GlobalO (Reg r) k) c) (copy_after c)
unfolding puts_ahead last_put
global_leads r j c = go (copy_after c)
  where
    on : (y : Copying) (x : Option ℕ) → leads_with r None y c x ≡ leads_to y (Do (GlobalO (Reg r) j) c) x
    on y None = refl
    on y (Some k) = refl

    go : (x : Option Copying) → leads_behind r None None c x ≡ leads (Do (GlobalO (Reg r) j) c) x
    go None = refl
    go (Some y) = on y (puts_ahead y 1 c)

pub local_leads : (r k : ℕ) (c : NodesT Where) → leads_behind r None None c (copy_after c) ≡ leads (Do (LocalO (Reg r) k) c) (copy_after c)
unfolding puts_ahead last_put
local_leads r j c = go (copy_after c)
  where
    on : (y : Copying) (x : Option ℕ) → leads_with r None y c x ≡ leads_to y (Do (LocalO (Reg r) j) c) x
    on y None = refl
    on y (Some k) = refl

    go : (x : Option Copying) → leads_behind r None None c x ≡ leads (Do (LocalO (Reg r) j) c) x
    go None = refl
    go (Some y) = on y (puts_ahead y 1 c)

pub move_leads : (r : ℕ) (p : Where) (c : NodesT Where) → leads_behind r None (Some p) c (copy_after c) ≡ leads (Do (MoveO (Reg r) p) c) (copy_after c)
unfolding puts_ahead last_put
move_leads r p c = go (copy_after c)
  where
    on : (y : Copying) (x : Option ℕ) → leads_with r None y c x ≡ leads_to y (Do (MoveO (Reg r) p) c) x
    on y None = refl
    on y (Some k) = refl

    free : (y : Copying) (b : Bool) → cond b None (leads_with r None y c (puts_ahead y 1 c)) ≡ leads_to y (Do (MoveO (Reg r) p) c) (cond b None (puts_ahead y 1 c))
    free y true = refl
    free y false = on y (puts_ahead y 1 c)

    go : (x : Option Copying) → leads_behind r None (Some p) c x ≡ leads (Do (MoveO (Reg r) p) c) x
    go None = refl
    go (Some y) = free y (reads_moved y p)
