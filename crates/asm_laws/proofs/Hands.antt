-- Words that are brought into registers, and laid at places.
use Rattle.std.proofs.Common.{◌≡◌, ◌≢◌, ℕ, ◌+◌, ◌<◌, ◌≤◌, inl, inr, Bool, true, false, cond, List, [], ◌∷◌, refl, sym, ap, ◌∙◌, subst, arith}
use Rattle.std.proofs.lemmas.Bool.{eqb-true, eqb-false}
use Rattle.v32_isa.specs.declared.stepped.Stepped.TheVariants as stepped
use Rattle.v32_isa.specs.State.{State, register_of, written}
use Rattle.v32_isa.specs.Machine.{effect_of}
use Rattle.v32_isa.specs.Machine.Effect.{Ends as EndsIn}
use Rattle.v32_isa.specs.Calls.{turn}
use Rattle.v32_isa.specs.Calls.Turn.{Other}
use Rattle.v32_isa.proofs.Steps.{Reaches, reaches_here, reaches_on, reaches_went}
use Rattle.asm_items.specs.declared.item.AsmItem.{AsmItem}
use Rattle.asm_items.specs.declared.item.AsmItem.TheVariants as item
use Rattle.mid_code.specs.declared.placed.Where.{Where}
use Rattle.mid_code.specs.declared.placed.Where.TheVariants.{Reg, Slot}
use Rattle.asm_laws.specs.Operations.{Frame, keep, fetches, hand, brings, takes, aim, lays}
use Rattle.asm_laws.specs.Pieces.{register, is_in}
use Rattle.asm_laws.specs.Standing.{Stand}
use Rattle.asm_laws.specs.Addresses.{Addr, Console, word_of, put, Room, Good, Held, Arrives}
use Rattle.asm_laws.proofs.Stepping.{same_or_not, written_same, written_other, reg_same, reg_other, took, scratch, kept, reg_number, fetches_so, keeps_so}

-- the same words but for one register
pub record Like (m : ℕ) (b a : Addr) : Type 0 where
  pub regs : (r : ℕ) → r < 9 → r ≢ m → b.regs r ≡ a.regs r
  pub memory : (q : ℕ) → b.memory q ≡ a.memory q
  pub base : b.base ≡ a.base
  pub top : b.top ≡ a.top

pub like_self : (m : ℕ) (a : Addr) → Like m a a
like_self m a = record { regs = λ r lt ne. refl; memory = λ q. refl; base = refl; top = refl }

abbrev pub with_reg : ℕ → ℕ → Addr → Addr
with_reg m v a = record a { regs = written a.regs m v }

pub like_with : (m v : ℕ) (a : Addr) → Like m (with_reg m v a) a
like_with m v a = record { regs = λ r lt ne. written_other a.regs m v r ne; memory = λ q. refl; base = refl; top = refl }

pub hand_fits : (p : Where) (r : ℕ) → r < 16 → hand p r < 16
hand_fits (Reg q) r lt = omega arith
hand_fits (Slot k) r lt = lt

pub aim_fits : (t : Where) → aim t < 16
aim_fits (Reg q) = omega arith
aim_fits (Slot k) = omega arith

pub aim_low : (F : Frame) (t : Where) → Good F t → aim t < 10
aim_low F (Reg q) good = omega (arith, good)
aim_low F (Slot k) good = omega arith

pub hand_other : (F : Frame) (p : Where) (r m : ℕ) → Good F p → 9 ≤ m → r ≢ m → hand p r ≢ m
hand_other F (Reg q) r m good le ne e = omega (arith, good, le, e)
hand_other F (Slot k) r m good le ne e = ne e

module _ (C : Console) where
  pub held_alike : (a b : Addr) (s : State) → ((r : ℕ) → r < 9 → a.regs r ≡ b.regs r) → ((q : ℕ) → a.memory q ≡ b.memory q) → a.base ≡ b.base → a.top ≡ b.top → Held C a s → Held C b s
  held_alike a b s regs memory base top h = record {
    program_length = h.program_length;
    card = h.card;
    short = h.short;
    text = h.text;
    sixteen = h.sixteen;
    regs = λ r lt. h.regs r lt ∙ regs r lt;
    top = h.top ∙ top;
    memory = λ q. h.memory q ∙ memory q;
  }

  module _ (F : Frame) (address : List ℕ → ℕ) where
    abbrev Here : ℕ → List AsmItem → ℕ → Type 0
    Here = Stand C.words address

    -- the word of a place is at hand
    pub record Brought (b : Addr) (s : State) (xs : List ℕ) (p : Where) (r pc : ℕ) : Type 0 where
      pub steps : ℕ
      pub to : State
      pub by : Reaches steps s xs [] to xs
      pub at : to.counter ≡ pc
      pub held : Held C b to
      pub is : register_of to (hand p r) ≡ word_of F p b
      pub others : (m : ℕ) → m ≢ r → register_of to m ≡ register_of s m
      pub few : steps ≤ 1

    pub brings_at : (b : Addr) (s : State) (xs : List ℕ) (pc next : ℕ) (p : Where) (r : ℕ) → Room F b → Good F p → 9 ≤ r → r ≤ 10 → Held C b s → s.counter ≡ pc → Here pc (brings F p r) next → Brought b s xs p r next
    brings_at b s xs pc next (Reg q) r room good lo hi h e k = record {
      steps = 0;
      to = s;
      by = reaches_here s xs;
      at = e ∙ k;
      held = h;
      is = ap (λ n. register_of s n) (reg_number C F address q good) ∙ h.regs q good;
      others = λ m ne. refl;
      few = omega arith;
    }
    brings_at b s xs pc next (Slot j) r room good lo hi h e k =
        let v = word_of F (Slot j) b in
        record {
          steps = 1;
          to = took C k.0 r v s;
          by = fetches_so C F address b s xs pc (Slot j) r k.0 room good (omega (arith, hi)) h e k.1;
          at = k.2;
          held = scratch C b s k.0 r v lo hi h;
          is = reg_same C s r v (let n = h.sixteen in omega (arith, n, hi));
          others = λ m ne. reg_other C s r v m ne;
          few = omega arith;
        }

    -- a register has taken the word of a place
    pub record Taken (b : Addr) (s : State) (xs : List ℕ) (p : Where) (m pc : ℕ) : Type 0 where
      pub steps : ℕ
      pub to : State
      pub by : Reaches steps s xs [] to xs
      pub at : to.counter ≡ pc
      pub held : Held C (with_reg m (word_of F p b) b) to
      pub is : register_of to m ≡ word_of F p b
      pub few : steps ≤ 1

    stands_there : (b : Addr) (s : State) (p : Where) (m : ℕ) → Good F p → Held C b s → is_in p m ≡ true → Held C (with_reg m (word_of F p b) b) s × (register_of s m ≡ word_of F p b)
    stands_there b s (Reg q) m good h e =
        let n : m ≡ q = sym (eqb-true (register q) m e) ∙ reg_number C F address q good in (
          held_alike b (with_reg m (b.regs q) b) s (λ r lt. elim (same_or_not r m) [
            | inl x ↦ ap b.regs (x.0 ∙ n) ∙ sym (written_same b.regs m (b.regs q) r x.0)
            | inr x ↦ sym (written_other b.regs m (b.regs q) r x.0)
          ]) (λ r. refl) refl refl h,
          ap (λ r. register_of s r) n ∙ h.regs q good,
        )
    stands_there b s (Slot k) m good h e = absurd cc

    pub takes_at : (b : Addr) (s : State) (xs : List ℕ) (pc next : ℕ) (p : Where) (m : ℕ) → Room F b → Good F p → m < 11 → Held C b s → s.counter ≡ pc → Here pc (takes F p m) next → Taken b s xs p m next
    takes_at b s xs pc next p m room good lt h e k = go (is_in p m) refl k
      where
        go : (t : Bool) → is_in p m ≡ t → Here pc (cond t [] (fetches F p m ∷ [])) next → Taken b s xs p m next
        go true q k = let r = stands_there b s p m good h q in record { steps = 0; to = s; by = reaches_here s xs; at = e ∙ k; held = r.0; is = r.1; few = omega arith }
        go false q k =
            let v = word_of F p b in
            record {
              steps = 1;
              to = took C k.0 m v s;
              by = fetches_so C F address b s xs pc p m k.0 room good (omega (arith, lt)) h e k.1;
              at = k.2;
              held = kept C b s k.0 m v lt h;
              is = reg_same C s m v (let n = h.sixteen in omega (arith, n, lt));
              few = omega arith;
            }

    -- the word of another place stays where a register takes a word
    pub word_other : (b : Addr) (p : Where) (m v : ℕ) → Good F p → is_in p m ≡ false → word_of F p (with_reg m v b) ≡ word_of F p b
    word_other b (Reg q) m v good e = let n = reg_number C F address q good in written_other b.regs m v q (λ x. eqb-false (register q) m e (n ∙ x))
    word_other b (Slot k) m v good e = refl

    -- what register 9 or another holds is kept at a place
    pub kept_at : (a : Addr) (s : State) (xs : List ℕ) (pc p r v : ℕ) (t : Where) → r < 16 → Room F a → Good F t → Held C a s → s.counter ≡ pc → register_of s r ≡ v → Here pc (item.Op (keep F t r) ∷ []) p → Arrives C 1 s xs p [] xs (put F t v a)
    kept_at a s xs pc p r v t lt room good h e is k = subst (λ q. Arrives C 1 s xs q [] xs (put F t v a)) k.2 (keeps_so C F address a s xs pc t r v k.0 lt room good h e is k.1)

    -- A word that was made in the register of its place is laid there.
    pub lays_from : (a b : Addr) (u : State) (xs : List ℕ) (next p v : ℕ) (t : Where) → Room F a → Good F t → Like (aim t) b a → Held C (with_reg (aim t) v b) u → register_of u (aim t) ≡ v → u.counter ≡ next → Here next (lays F t) p → Arrives C 1 u xs p [] xs (put F t v a)
    lays_from a b u xs next p v (Reg q) room good like h is e k =
        let n = reg_number C F address q good in
        record {
          steps = 0;
          to = u;
          by = reaches_here u xs;
          at = e ∙ k;
          held = held_alike (with_reg (register q) v b) (with_reg q v a) u (λ r lt. elim (same_or_not r q) [
            | inl x ↦ written_same b.regs (register q) v r (x.0 ∙ sym n) ∙ sym (written_same a.regs q v r x.0)
            | inr x ↦ written_other b.regs (register q) v r (λ z. x.0 (z ∙ n)) ∙ like.regs r lt (λ z. x.0 (z ∙ n)) ∙ sym (written_other a.regs q v r x.0)
          ]) like.memory like.base like.top h;
          few = omega arith;
        }
    lays_from a b u xs next p v (Slot j) room good like h is e k =
        kept_at a u xs next p 9 v (Slot j) (omega arith) room good
        (held_alike (with_reg 9 v b) a u (λ r lt. let ne : r ≢ 9 = λ z. omega (arith, lt, z) in written_other b.regs 9 v r ne ∙ like.regs r lt ne) like.memory like.base like.top h) e is k

    pub lays_at : (a b : Addr) (s : State) (xs : List ℕ) (next p v : ℕ) (t : Where) → Room F a → Good F t → Like (aim t) b a → Held C b s → effect_of s ≡ EndsIn stepped.Went (took C next (aim t) v s) → turn s ≡ Other → Here next (lays F t) p → Arrives C 2 s xs p [] xs (put F t v a)
    lays_at a b s xs next p v t room good like h e o k =
        let m = aim_low F t good in
        let u = took C next (aim t) v s in
        let r = lays_from a b u xs next p v t room good like (kept C b s next (aim t) v (omega (arith, m)) h) (reg_same C s (aim t) v (let n = h.sixteen in omega (arith, n, m))) refl k in
        record { steps = 1 + r.steps; to = r.to; by = reaches_on 1 r.steps s u r.to xs xs xs [] [] (reaches_went s u xs e o) r.by; at = r.at; held = r.held; few = let f = r.few in omega (arith, f) }
