-- The operations that an access at an address that nothing else asks for is done together with.
use Rattle.std.proofs.Common.{◌≡◌, ℕ, Bool, true, false, cond, List, Option, Some, None, refl, sym, ap, subst}
use Rattle.std.specs.Prelude.{◌==◌, ◌&&◌, not, nat_lt}
use Rattle.std.proofs.lemmas.Bool.{eqb-true}
use Rattle.mid_code.specs.declared.placed.Where.{Where}
use Rattle.mid_code.specs.declared.placed.Where.TheVariants.{Reg, Slot}
use Rattle.mid_code.specs.Code.{NodesT, Do, OpT, ConstO, LocalO, StepO, LoadO, StoreO}
use Rattle.asm_laws.specs.declared.access.Base.{Base}
use Rattle.asm_laws.specs.declared.access.Base.TheVariants.{Local, Place}
use Rattle.asm_laws.specs.declared.access.Address.{Address}
use Rattle.asm_laws.specs.declared.access.Transfer.{Transfer}
use Rattle.asm_laws.specs.declared.access.Transfer.TheVariants.{Load, Store}
use Rattle.asm_laws.specs.Live.{is_place}
use Rattle.asm_laws.specs.Accesses.{are_left, load_there, store_there, takes_two, reached_by, reached, place_sum, place_behind, local_sum, local_step, local_number, local_behind, first_access, accessed}

-- an operation that loads from the address in a register, or stores there
abbrev pub Transfers : ℕ → OpT Where → Transfer → Type 0
Transfers u o (Load v) = o ≡ LoadO (Reg v) (Reg u)
Transfers u o (Store a) = o ≡ StoreO (Reg u) a

-- the addresses of the three forms
abbrev pub local_one : (t k : ℕ) → Address
local_one t k = record { base = Local k; offset = 0; into = t; number = None; local = None }

abbrev pub place_two : (r n u : ℕ) → Where → Address
place_two r n u p = record { base = Place p; offset = n; into = u; number = Some r; local = None }

abbrev pub local_three : (t k r n u : ℕ) → Address
local_three t k r n u = record { base = Local k; offset = n; into = u; number = Some r; local = Some t }

both : (p q : Bool) → p && q ≡ true → (p ≡ true) × (q ≡ true)
both true q e = (refl, e)
both false q e = absurd cc

off : (p : Bool) → not p ≡ true → p ≡ false
off false e = refl
off true e = absurd cc

module _ (h : List Bool) where
  -- what is told of an access that comes first, and of none
  abbrev pub Told : (base : Base) → (y : Address) → Transfer → NodesT Where → Type 0
  Told b y x d = (takes_two b x ≡ false) × (are_left h x d y ≡ true)

  module _ (k : ℕ) (y : Address) (P : NodesT Where → Option (ℕ × Address × Transfer) → Type 0) (none : (c : NodesT Where) → P c None)
      (some : (last : OpT Where) (d : NodesT Where) (x : Transfer) → Transfers y.into last x → Told y.base y x d → P (Do last d) (Some (k, y, x))) where
    by_case : (last : OpT Where) (d : NodesT Where) (x : Transfer) → Transfers y.into last x → P (Do last d) (reached_by h k y d (Some x))
    by_case last d x t = go (not (takes_two y.base x) && are_left h x d y) refl
      where
        go : (b : Bool) → not (takes_two y.base x) && are_left h x d y ≡ b → P (Do last d) (cond b (Some (k, y, x)) None)
        go false e = none (Do last d)
        go true e = let w = both (not (takes_two y.base x)) (are_left h x d y) e in some last d x t (off (takes_two y.base x) w.0, w.1)

    load_case : (t q : Where) (d : NodesT Where) → P (Do (LoadO t q) d) (reached_by h k y d (load_there y.into t q))
    load_case (Reg v) (Reg q) d = go (q == y.into) refl
      where
        go : (b : Bool) → (q == y.into) ≡ b → P (Do (LoadO (Reg v) (Reg q)) d) (reached_by h k y d (cond b (Some (Load v)) None))
        go false e = none _
        go true e = by_case (LoadO (Reg v) (Reg q)) d (Load v) (ap (λ z. LoadO (Reg v) (Reg z)) (eqb-true q y.into e))
    load_case (Slot j) q d = none _
    load_case (Reg v) (Slot j) d = none _

    store_case : (q a : Where) (d : NodesT Where) → P (Do (StoreO q a) d) (reached_by h k y d (store_there y.into q a))
    store_case (Reg q) a d = go (q == y.into) refl
      where
        go : (b : Bool) → (q == y.into) ≡ b → P (Do (StoreO (Reg q) a) d) (reached_by h k y d (cond b (Some (Store a)) None))
        go false e = none _
        go true e = by_case (StoreO (Reg q) a) d (Store a) (ap (λ z. StoreO (Reg z) a) (eqb-true q y.into e))
    store_case (Slot j) a d = none _

    pub reached_case : (c : NodesT Where) → P c (reached h k y c)
    reached_case (Do (LoadO t q) d) = load_case t q d
    reached_case (Do (StoreO q a) d) = store_case q a d
    reached_case c = none c

  module _ (m : ℕ) (P : OpT Where → NodesT Where → Option (ℕ × Address × Transfer) → Type 0) (none : (o : OpT Where) (c : NodesT Where) → P o c None)
      (one : (t l : ℕ) (last : OpT Where) (d : NodesT Where) (x : Transfer) → Transfers t last x → Told (Local l) (local_one t l) x d → P (LocalO (Reg t) l) (Do last d) (Some (1, local_one t l, x)))
      (two : (r n u : ℕ) (p : Where) (last : OpT Where) (d : NodesT Where) (x : Transfer) → nat_lt r m ≡ true → is_place p r ≡ false → Transfers u last x → Told (Place p) (place_two r n u p) x d →
      P (ConstO (Reg r) n) (Do (StepO (Reg u) p (Reg r)) (Do last d)) (Some (2, place_two r n u p, x)))
      (three : (t l r n u : ℕ) (last : OpT Where) (d : NodesT Where) (x : Transfer) → nat_lt r m ≡ true → (t == r) ≡ false → Transfers u last x → Told (Local l) (local_three t l r n u) x d →
      P (LocalO (Reg t) l) (Do (ConstO (Reg r) n) (Do (StepO (Reg u) (Reg t) (Reg r)) (Do last d))) (Some (3, local_three t l r n u, x))) where
    sum_case : (r n : ℕ) (u p s : Where) (c : NodesT Where) → nat_lt r m ≡ true → P (ConstO (Reg r) n) (Do (StepO u p s) c) (place_sum h r n u p s c)
    sum_case r n (Reg u) p (Reg s) c lt = go ((s == r) && not (is_place p r)) refl
      where
        go : (b : Bool) → (s == r) && not (is_place p r) ≡ b → P (ConstO (Reg r) n) (Do (StepO (Reg u) p (Reg s)) c) (cond b (reached h 2 (place_two r n u p) c) None)
        go false e = none _ _
        go true e =
            let w = both (s == r) (not (is_place p r)) e in
            subst (λ z. P (ConstO (Reg r) n) (Do (StepO (Reg u) p (Reg z)) c) (reached h 2 (place_two r n u p) c)) (sym (eqb-true s r w.0))
            (reached_case 2 (place_two r n u p) (λ c x. P (ConstO (Reg r) n) (Do (StepO (Reg u) p (Reg r)) c) x) (λ c. none _ _)
            (λ last d x t told. two r n u p last d x lt (off (is_place p r) w.1) t told) c)
    sum_case r n (Slot j) p s c lt = none _ _
    sum_case r n (Reg u) p (Slot j) c lt = none _ _

    place_case : (r n : ℕ) (c : NodesT Where) → nat_lt r m ≡ true → P (ConstO (Reg r) n) c (place_behind h r n c)
    place_case r n (Do (StepO u p s) c) lt = sum_case r n u p s c lt
    place_case r n c lt = none _ _

    step_case : (t l r n : ℕ) (u q s : Where) (c : NodesT Where) → nat_lt r m ≡ true → P (LocalO (Reg t) l) (Do (ConstO (Reg r) n) (Do (StepO u q s) c)) (local_sum h t l r n u q s c)
    step_case t l r n (Reg u) (Reg q) (Reg s) c lt = go ((s == r) && ((q == t) && not (t == r))) refl
      where
        go : (b : Bool) → (s == r) && ((q == t) && not (t == r)) ≡ b → P (LocalO (Reg t) l) (Do (ConstO (Reg r) n) (Do (StepO (Reg u) (Reg q) (Reg s)) c)) (cond b (reached h 3 (local_three t l r n u) c) None)
        go false e = none _ _
        go true e =
            let w = both (s == r) ((q == t) && not (t == r)) e in
            let v = both (q == t) (not (t == r)) w.1 in
            subst (λ z. P (LocalO (Reg t) l) (Do (ConstO (Reg r) n) (Do (StepO (Reg u) (Reg q) (Reg z)) c)) (reached h 3 (local_three t l r n u) c)) (sym (eqb-true s r w.0))
            (subst (λ z. P (LocalO (Reg t) l) (Do (ConstO (Reg r) n) (Do (StepO (Reg u) (Reg z) (Reg r)) c)) (reached h 3 (local_three t l r n u) c)) (sym (eqb-true q t v.0))
            (reached_case 3 (local_three t l r n u) (λ c x. P (LocalO (Reg t) l) (Do (ConstO (Reg r) n) (Do (StepO (Reg u) (Reg t) (Reg r)) c)) x) (λ c. none _ _)
            (λ last d x i told. three t l r n u last d x lt (off (t == r) v.1) i told) c))
    step_case t l r n (Slot j) q s c lt = none _ _
    step_case t l r n (Reg u) (Slot j) s c lt = none _ _
    step_case t l r n (Reg u) (Reg q) (Slot j) c lt = none _ _

    behind_case : (t l r n : ℕ) (c : NodesT Where) → nat_lt r m ≡ true → P (LocalO (Reg t) l) (Do (ConstO (Reg r) n) c) (local_step h t l r n c)
    behind_case t l r n (Do (StepO u q s) c) lt = step_case t l r n u q s c lt
    behind_case t l r n c lt = none _ _

    number_case : (t l : ℕ) (r : Where) (n : ℕ) (c : NodesT Where) → P (LocalO (Reg t) l) (Do (ConstO r n) c) (local_number h m t l r n c)
    number_case t l (Reg r) n c = go (nat_lt r m) refl
      where
        go : (b : Bool) → nat_lt r m ≡ b → P (LocalO (Reg t) l) (Do (ConstO (Reg r) n) c) (cond b (local_step h t l r n c) None)
        go false e = none _ _
        go true e = behind_case t l r n c e
    number_case t l (Slot j) n c = none _ _

    local_case : (t l : ℕ) (c : NodesT Where) → P (LocalO (Reg t) l) c (local_behind h m t l c)
    local_case t l (Do (ConstO r n) c) = number_case t l r n c
    local_case t l c = none _ _

    pub accessed_case : (o : OpT Where) (c : NodesT Where) → P o c (accessed h m o c)
    unfolding accessed
    accessed_case (LocalO (Reg t) l) c =
        reached_case 1 (local_one t l) (λ c x. P (LocalO (Reg t) l) c (local_behind h m t l c) → P (LocalO (Reg t) l) c (first_access x (local_behind h m t l c))) (λ c other. other)
        (λ last d x i told other. one t l last d x i told) c (local_case t l c)
    accessed_case (LocalO (Slot j) l) c = none _ _
    accessed_case (ConstO (Reg r) n) c = go (nat_lt r m) refl
      where
        go : (b : Bool) → nat_lt r m ≡ b → P (ConstO (Reg r) n) c (cond b (place_behind h r n c) None)
        go false e = none _ _
        go true e = place_case r n c e
    accessed_case (ConstO (Slot j) n) c = none _ _
    accessed_case o c = none o c
