-- A loop that copies words, or fills them, is followed by its instructions.
use Rattle.std.proofs.Common.{Bool, ◌≡◌, ℕ, zero, suc, inl, inr, List, sym, subst}
use Rattle.v32_isa.specs.State as machine
use Rattle.mid_code.specs.declared.placed.Where.{Where}
use Rattle.mid_code.specs.Code.{NodesT, Stop, Loop}
use Rattle.mid_code.specs.Invariants.{Names}
use Rattle.mid_code.specs.Meaning.{turn_done, node_weight}
use Rattle.mid_code.specs.Meaning as meaning
use Rattle.mid_code.specs.States.{State, spent}
use Rattle.asm_laws.specs.Copies.{copy_at, copy_items}
use Rattle.asm_laws.specs.Placing.{Bounds}
use Rattle.asm_laws.specs.Standing.{Stand}
use Rattle.asm_laws.specs.inner.Following.{begin, Sim}
use Rattle.asm_laws.specs.Holds.{Setting, Named, Fits, Ctx}
use Rattle.asm_laws.specs.Live.{live_soon, ahead}
use Rattle.asm_laws.specs.Calling.{Mach, Ready, ReadyFor, Like, lang, holder, shapes}
use Rattle.asm_laws.proofs.Leads.{copy_is}
use Rattle.asm_laws.proofs.Copied as copied
use Rattle.asm_laws.proofs.CopyLoop.{copy_all}
use Rattle.asm_laws.proofs.Filled as filled
use Rattle.asm_laws.proofs.FillLoop.{fill_all}

module _ (S : Setting) (fits : Fits S) where
  -- the registers that are asked for behind a loop
  abbrev pub soon : Ctx → NodesT Where → ℕ → Bool
  soon κ c = live_soon ahead (S.whole.frames κ.fn).lasting c

  -- what a loop with such a turn does
  abbrev Follows : Ctx → (J : ℕ → Bool) → (p : ℕ) → State Where → machine.State → (n : ℕ) → List Bounds → NodesT Where → Type 0
  Follows κ J p s m n ls b = Sim (holder S) κ (Like J (Mach S κ)) m (begin (holder S) s) p n ls (turn_done (meaning.does (lang S) n (meaning.below (lang S) n) b (spent node_weight s)) (meaning.below (lang S) n (Loop b Stop)))

  pub copy_sim : (κ : Ctx) (pc p k : ℕ) (b c : NodesT Where) (s : State Where) (m : machine.State) → (shapes S).copy κ.fn pc b c k p → m.counter ≡ pc → Ready S κ (live_soon ahead (S.whole.frames κ.fn).lasting c) (copy_at k b) s m → (n : ℕ) (ls : List Bounds) →
      Sim (holder S) κ (Like (live_soon ahead (S.whole.frames κ.fn).lasting c) (Mach S κ)) m (begin (holder S) s) p n ls (turn_done (meaning.does (lang S) n (meaning.below (lang S) n) b (spent node_weight s)) (meaning.below (lang S) n (Loop b Stop)))
  copy_sim κ pc p zero b c s m at e h n ls = let z = at.1 in absurd cc
  copy_sim κ pc p (suc k) b c s m at e h n ls =
      let y = at.0 in
      let J = live_soon ahead (S.whole.frames κ.fn).lasting c in
      let ready : ReadyFor S κ y (live_soon ahead (S.whole.frames κ.fn).lasting c y.one) s m = subst (λ z. Ready S κ (live_soon ahead (S.whole.frames κ.fn).lasting c) z s m) at.1 h in
      elim (copy_is b y at.1) [
        | inl q ↦
            let v = q.registers in
            let names = subst (λ z. Names (Named S κ.fn) z) q.nodes at.3 in
            let lo : copied.Low S fits κ v q.apart (J v.one) = record { from = names.0.0.0; to = names.1.0.0.0; cell = names.0.1.0; count = names.1.1.0.1.0; one = names.1.1.0.0.1.0 } in
            subst (Follows κ J p s m n ls) (sym q.nodes)
            (copy_all S fits κ v q.apart J lo pc p (subst (λ z. Stand S.console.words S.address pc (copy_items z J) p) (sym q.same) at.2) s m e (subst (λ z. ReadyFor S κ z (live_soon ahead (S.whole.frames κ.fn).lasting c z.one) s m) (sym q.same) ready) n ls)
        | inr q ↦
            let v = q.registers in
            let names = subst (λ z. Names (Named S κ.fn) z) q.nodes at.3 in
            let lo : filled.Low S fits κ v q.apart (J v.one) = record { to = names.0.0.0; cell = names.0.0.1.0; count = names.1.0.1.0; one = names.1.0.0.1.0 } in
            subst (Follows κ J p s m n ls) (sym q.nodes)
            (fill_all S fits κ v q.apart J lo pc p (subst (λ z. Stand S.console.words S.address pc (copy_items z J) p) (sym q.same) at.2) s m e (subst (λ z. ReadyFor S κ z (live_soon ahead (S.whole.frames κ.fn).lasting c z.one) s m) (sym q.same) ready) n ls)
      ]
