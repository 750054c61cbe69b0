-- What comes before loops that copy words: register 8, and what is known there.
use Rattle.std.proofs.Common.{◌≡◌, ℕ, zero, suc, inl, inr, Bool, true, false, cond, Option, Some, None, refl, sym, ap, ◌∙◌}
use Rattle.mid_code.specs.declared.placed.Where.{Where}
use Rattle.mid_code.specs.Code.{NodesT, Do, OpT, uses}
use Rattle.asm_laws.specs.declared.copying.Copying.{Copying}
use Rattle.asm_laws.specs.Copies.{lead}
use Rattle.asm_laws.specs.Spare.{used_by, puts, count, group, are_others, spares, Sparing}
use Rattle.asm_laws.specs.Asks.{is_unread}
use Rattle.asm_laws.proofs.Asks.{unread_group}
use Rattle.asm_laws.specs.Operations.{Frame, Whole, led_more, group_more}
use Rattle.asm_laws.specs.Holds.{Setting}
use Rattle.asm_laws.proofs.Leads.{puts_before, puts_elim, put_elim, lead_is}
use Rattle.asm_laws.proofs.Spared.{both, spares_on}

-- what comes there does nothing with a word in register 8
unused : (c : NodesT Where) (k : ℕ) (y : Copying) → puts_before c ≡ Some (k, y) → used_by c ≡ None
unused c k y e = puts_elim (λ c k y. used_by c ≡ None) (λ b c y q. refl) (λ o r c k y p q h. put_elim (λ o r. used_by (Do o c) ≡ None) (λ r n. refl) (λ r n. refl) (λ r n. refl) (λ r n. refl) o r p) c k y e

none_grouped : (o : OpT Where) (c : NodesT Where) (k : ℕ) (y : Copying) → puts_before c ≡ Some (k, y) → group o c ≡ zero
none_grouped o c k y e = go (puts o)
  where
    go : (b : Bool) → cond b (count (used_by c)) 0 ≡ zero
    go true = ap count (unused c k y e)
    go false = refl

pub next_sparing : (n : ℕ) (o : OpT Where) (c : NodesT Where) (k : ℕ) (y : Copying) → puts_before c ≡ Some (k, y) → Sparing n (Do o c) zero → Sparing n c zero
next_sparing n o c k y e (inl h) = inl h
next_sparing n o c k y e (inr h) = inr (h.0, ap (λ j. spares c j) (sym (none_grouped o c k y e)) ∙ (both (are_others (uses o)) (spares c (group o c)) h.1).1)

spares_all : (c : NodesT Where) (k : ℕ) (y : Copying) → puts_before c ≡ Some (k, y) → spares c zero ≡ true → spares c (suc k) ≡ true
spares_all c k y e = puts_elim (λ c k y. spares c zero ≡ true → spares c (suc k) ≡ true) (λ b c y q sp. sp)
    (λ o r c k y p q h sp. h (ap (λ j. spares c j) (sym (none_grouped o c k y q)) ∙ (both (are_others (uses o)) (spares c (group o c)) sp).1)) c k y e

module _ (S : Setting) (f : ℕ) (W : Whole) (F : Frame) where
  pub spares_behind : (o : OpT Where) (c : NodesT Where) → Sparing F.registers (Do o c) zero → Sparing F.registers c (group_more W F o c)
  spares_behind o c sp = whole (is_unread (Do o c)) refl sp
    where
      go : (x : Option (ℕ × Copying)) → lead (Do o c) ≡ x → Sparing F.registers (Do o c) zero → Sparing F.registers c (led_more W F o c x)
      go None e sp = spares_on S f W F o c sp
      go (Some (k, y)) e (inl n) = inl n
      go (Some (k, y)) e (inr n) = let h = lead_is (Do o c) k y e in inr (n.0, spares_all (Do o c) k y h.puts n.1)

      whole : (b : Bool) → is_unread (Do o c) ≡ b → Sparing F.registers (Do o c) zero → Sparing F.registers c (cond b 0 (led_more W F o c (lead (Do o c))))
      whole true q (inl n) = inl n
      whole true q (inr n) = inr (n.0, ap (λ j. spares c j) (sym (unread_group o c q)) ∙ (both (are_others (uses o)) (spares c (group o c)) n.1).1)
      whole false q h = go (lead (Do o c)) refl h
