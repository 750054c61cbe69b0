-- Slots that are named, and the keys of a set.
use Rattle.std.proofs.Common.{◌≡◌, ℕ, suc, Bool, true, false, ◌||◌, cond, eqb, List, [], ◌∷◌, ◌++◌, nat_eq, refl, sym, ap, ◌∙◌, arith}
use Rattle.std.specs.List.{list_any, position_or_len}
use Rattle.std.proofs.lemmas.List.Recursion.{is_position_or_len}
use Rattle.indexmap.specs.IndexSet.{insert_key}
use Rattle.mid_code.specs.declared.placed.Where.TheVariants.{Slot}
use Rattle.mid_code.specs.Live.{is_among}
use Rattle.mid_code.specs.Choices.{with_slot}
use Rattle.reg_frames.specs.inner.Placing.{index_in}

eqb_swap : (a b : ℕ) → eqb a b ≡ nat_eq b a
eqb_swap a b = grind arith

among_any : (ns : List ℕ) (n : ℕ) → is_among ns n ≡ list_any (nat_eq n) ns
among_any [] n = refl
among_any (m ∷ ns) n = ap (λ b. b || is_among ns n) (eqb_swap m n) ∙ ap (λ b. nat_eq n m || b) (among_any ns n)

pub key_added : (ns : List ℕ) (n : ℕ) → insert_key nat_eq ns n ≡ with_slot ns (Slot n)
key_added ns n = ap (λ b. cond b ns (ns ++ n ∷ [])) (sym (among_any ns n))

pub key_index : (ns : List ℕ) (n : ℕ) → position_or_len (nat_eq n) ns ≡ index_in ns n
key_index ns n = sym (is_position_or_len (λ ms. index_in ms n) (nat_eq n) refl (λ m ms. ap (λ b. cond b 0 (suc (index_in ms n))) (eqb_swap m n) ∙ ap (cond (nat_eq n m) 0) (omega arith)) ns)

index_end : (ns : List ℕ) (n : ℕ) → index_in (ns ++ n ∷ []) n ≡ index_in ns n
index_end [] n = ap (λ b. cond b 0 1) (eqb_same n)
  where
    eqb_same : (m : ℕ) → eqb m m ≡ true
    eqb_same m = grind arith
index_end (m ∷ ns) n = ap (λ k. cond (eqb m n) 0 (suc k)) (index_end ns n)

-- a slot that is named now has the number of its first mention
pub index_kept : (ns : List ℕ) (n : ℕ) → index_in (with_slot ns (Slot n)) n ≡ index_in ns n
index_kept ns n = go (is_among ns n)
  where
    go : (b : Bool) → index_in (cond b ns (ns ++ n ∷ [])) n ≡ index_in ns n
    go true = refl
    go false = index_end ns n

pub index_now : (ns ms : List ℕ) (n i : ℕ) → ms ≡ insert_key nat_eq ns n → i ≡ position_or_len (nat_eq n) ns → i ≡ index_in ms n
index_now ns ms n i e f = f ∙ key_index ns n ∙ sym (index_kept ns n) ∙ sym (ap (λ ks. index_in ks n) (e ∙ key_added ns n))
