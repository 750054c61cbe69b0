-- What operations do to words, where the words of registers that hold no places differ.
use Rattle.std.proofs.Common.{◌≡◌, ℕ, ◌<◌, Bool, true, false, List, [], ◌∷◌, Option, Some, None, refl, sym, ap, subst}
use Rattle.std.specs.Prelude.{cond, ◌==◌}
use Rattle.v32_isa.specs.State.{written}
use Rattle.v32_isa.specs.Arithmetic.{one_of, two_of}
use Rattle.kit_base.specs.Word.{add, sub}
use Rattle.kit_base.specs.declared.event.Event.TheVariants as event
use Rattle.mid_code.specs.declared.placed.Where.{Where}
use Rattle.mid_code.specs.declared.placed.Where.TheVariants.{Reg, Slot}
use Rattle.mid_code.specs.Code.{OpT, ConstO, NullO, MoveO, OneO, TwoO, GlobalO, LocalO, LiteralO, CardO, StepO, ApartO, PtrTestO, LoadO, StoreO, FreshO, EndO, InO, OutO, WaitO, HaltO, uses}
use Rattle.mid_code.specs.Invariants.{AllOf}
use Rattle.asm_laws.specs.Operations.{Frame, Whole}
use Rattle.asm_laws.specs.Spare.{Stays}
use Rattle.asm_laws.specs.Addresses.{Addr, Console, readable, writable, word_of, put, having, Does, Goes, Ends, computed, loaded, saved, asked, does}

-- the same words but for registers that hold no places
pub record Alike (n : ℕ) (b a : Addr) : Type 0 where
  pub same : b ≡ having b.regs a
  pub regs : (r : ℕ) → r < n → b.regs r ≡ a.regs r

abbrev pub Alongside : ℕ → Does → Does → Type 0
Alongside n (Goes es xs a) (Goes fs ys b) = (fs ≡ es) × (ys ≡ xs) × Alike n b a
Alongside n (Goes es xs a) (Ends how) = ⊥
Alongside n (Ends how) (Goes fs ys b) = ⊥
Alongside n (Ends how) (Ends end) = end ≡ how

module _ (C : Console) (address : List ℕ → ℕ) (W : Whole) (F : Frame) (n : ℕ) (a : Addr) (registers : ℕ → ℕ) (like : (r : ℕ) → r < n → registers r ≡ a.regs r) where
  abbrev b : Addr
  b = having registers a

  pub word_alike : (p : Where) → Stays n p → word_of F p (having registers a) ≡ word_of F p a
  word_alike (Reg r) lt = like r lt
  word_alike (Slot k) h = refl

  pub written_alike : (k v r : ℕ) → r < n → written registers k v r ≡ written a.regs k v r
  unfolding written
  written_alike k v r lt = ap (λ z. cond (r == k) v z) (like r lt)

  here_alike : Alike n (having registers a) a
  here_alike = record { same = refl; regs = like }

  put_here : (t : Where) (x : ℕ) → Alike n (put F t x (having registers a)) (put F t x a)
  put_here (Reg r) x = record { same = refl; regs = λ q lt. written_alike r x q lt }
  put_here (Slot k) x = record { same = refl; regs = like }

  put_alike : (t : Where) (x y : ℕ) → y ≡ x → Alike n (put F t y (having registers a)) (put F t x a)
  put_alike t x y e = subst (λ z. Alike n (put F t z (having registers a)) (put F t x a)) (sym e) (put_here t x)

  pub computed_alike : (t : Where) (x y : Option ℕ) (xs : List ℕ) → y ≡ x → Alongside n (computed F t x xs a) (computed F t y xs (having registers a))
  computed_alike t x y xs e = subst (λ z. Alongside n (computed F t x xs a) (computed F t z xs (having registers a))) (sym e) (go x)
    where
      go : (x : Option ℕ) → Alongside n (computed F t x xs a) (computed F t x xs (having registers a))
      go None = refl
      go (Some v) = (refl, refl, put_here t v)

  pub loaded_alike : (t : Where) (u v : ℕ) (xs : List ℕ) → v ≡ u → Alongside n (loaded (readable C u) F t (a.memory u) xs a) (loaded (readable C v) F t (a.memory v) xs (having registers a))
  loaded_alike t u v xs e = subst (λ z. Alongside n (loaded (readable C u) F t (a.memory u) xs a) (loaded (readable C z) F t (a.memory z) xs (having registers a))) (sym e) (go (readable C u))
    where
      go : (ok : Bool) → Alongside n (loaded ok F t (a.memory u) xs a) (loaded ok F t (a.memory u) xs (having registers a))
      go true = (refl, refl, put_here t (a.memory u))
      go false = refl

  pub saved_alike : (u v x y : ℕ) (xs : List ℕ) → v ≡ u → y ≡ x → Alongside n (saved (writable C u) u x xs a) (saved (writable C v) v y xs (having registers a))
  saved_alike u v x y xs e f =
      subst (λ z. Alongside n (saved (writable C u) u x xs a) (saved (writable C z) z y xs (having registers a))) (sym e)
      (subst (λ z. Alongside n (saved (writable C u) u x xs a) (saved (writable C u) u z xs (having registers a))) (sym f) (go (writable C u)))
    where
      go : (ok : Bool) → Alongside n (saved ok u x xs a) (saved ok u x xs (having registers a))
      go true = (refl, refl, record { same = refl; regs = like })
      go false = refl

  asked_alike : (t : Where) (port : ℕ) (xs : List ℕ) → Alongside n (asked F t port xs a) (asked F t port xs (having registers a))
  asked_alike t port [] = refl
  asked_alike t port (x ∷ xs) = (refl, refl, put_here t x)

  -- an operation that reads words that stay
  pub does_alongside : (o : OpT Where) (xs : List ℕ) → AllOf (Stays n) (uses o) → Alongside n (does C address W F o xs a) (does C address W F o xs (having registers a))
  unfolding does
  does_alongside (ConstO t x) xs h = (refl, refl, put_here t x)
  does_alongside (NullO t) xs h = (refl, refl, put_here t _)
  does_alongside (MoveO t p) xs h = (refl, refl, put_alike t _ _ (word_alike p h.0))
  does_alongside (OneO o t p) xs h = computed_alike t _ _ xs (ap (one_of o) (word_alike p h.0))
  does_alongside (TwoO o t p q) xs h = computed_alike t _ _ xs (λ i. two_of o (word_alike p h.0 i) (word_alike q h.1.0 i))
  does_alongside (GlobalO t k) xs h = (refl, refl, put_here t _)
  does_alongside (LocalO t k) xs h = (refl, refl, put_here t _)
  does_alongside (LiteralO t k) xs h = (refl, refl, put_here t _)
  does_alongside (CardO t) xs h = (refl, refl, put_here t _)
  does_alongside (StepO t p q) xs h = (refl, refl, put_alike t _ _ (λ i. add (word_alike p h.0 i) (word_alike q h.1.0 i)))
  does_alongside (ApartO t p q) xs h = (refl, refl, put_alike t _ _ (λ i. sub (word_alike p h.0 i) (word_alike q h.1.0 i)))
  does_alongside (PtrTestO o t p q) xs h = computed_alike t _ _ xs (λ i. two_of o (word_alike p h.0 i) (word_alike q h.1.0 i))
  does_alongside (LoadO t p) xs h = loaded_alike t _ _ xs (word_alike p h.0)
  does_alongside (StoreO p q) xs h = saved_alike _ _ _ _ xs (word_alike p h.0) (word_alike q h.1.0)
  does_alongside (FreshO k) xs h = (refl, refl, here_alike)
  does_alongside (EndO k) xs h = (refl, refl, here_alike)
  does_alongside (InO t port) xs h = asked_alike t port xs
  does_alongside (OutO port p) xs h = (ap (λ v. event.Out port v ∷ []) (word_alike p h.0), refl, here_alike)
  does_alongside WaitO xs h = (refl, refl, here_alike)
  does_alongside HaltO xs h = refl
