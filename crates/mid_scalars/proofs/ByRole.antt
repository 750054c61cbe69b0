-- The kind of a temporary by its role.
use Rattle.std.proofs.Common.{◌≡◌, ℕ, suc, ◌<◌, Bool, true, false, ◌&&◌, ◌||◌, not, cond, eqb, get_or, Option, Some, None, refl, sym, ap, ◌∙◌, arith}
use Rattle.std.proofs.lemmas.Bool.{eqb-true, eq-eqb}
use Rattle.mid_code.specs.Code.{ConstO, NullO, MoveO, OneO, TwoO, GlobalO, LocalO, LiteralO, CardO, StepO, ApartO, PtrTestO, LoadO, StoreO, FreshO, EndO, InO, OutO, WaitO, HaltO, NodesT, Stop, Do, Call, Choose, Block, Loop, Leave, Again, Return, FunctionT}
use Rattle.mid_code.specs.Live.{is_among}
use Rattle.mid_scalars.specs.declared.roles.Role.{Role}
use Rattle.mid_scalars.specs.declared.roles.Role.TheVariants.{Open, AddressOf, Spoilt}
use Rattle.mid_scalars.specs.inner.Plan.{Own, Address}
use Rattle.mid_scalars.specs.inner.Table.{all_nodes, uses_as_address, is_clean, flags, first_some, address_in, address_kind, kind_in}
use Rattle.mid_scalars.specs.inner.Purposes.{role_of, fits, kind_by}
use Rattle.mid_scalars.proofs.Tables.{only_address, found_clean}
use Rattle.mid_scalars.proofs.Planned.{flag_plain, well_taken, clean_every, below_kind}
use Rattle.mid_scalars.proofs.Purposes.{clean_is}

true_false : true ≡ false → ⊥
true_false e = cc

some_none : (k : ℕ) → Some k ≡ None → ⊥
some_none k e = cc

off_next : (k : ℕ) → eqb k (suc k) ≡ true → ⊥
off_next k e = let h : k ≡ suc k = eqb-true k (suc k) e in absurd (omega (arith, h))

none_left : (a b : Option ℕ) → first_some a b ≡ None → a ≡ None
none_left None b e = refl
none_left (Some k) b e = e

none_right : (a b : Option ℕ) → first_some a b ≡ None → b ≡ None
none_right None b e = e
none_right (Some k) b e = absurd (some_none k e)

-- what takes no address is used the same way for each local
same_uses : (j k y : ℕ) (c : NodesT ℕ) → address_in y c ≡ None → all_nodes (uses_as_address j y) c ≡ all_nodes (uses_as_address k y) c
same_uses j k y Stop e = refl
same_uses j k y (Do (LocalO t i) c) e = go (same_uses j k y c) (eqb t y) refl e
  where
    go : (address_in y c ≡ None → all_nodes (uses_as_address j y) c ≡ all_nodes (uses_as_address k y) c) → (b : Bool) → eqb t y ≡ b → cond (eqb t y) (Some i) (address_in y c) ≡ None
        → (((not (eqb t y || false) || (eqb t y && eqb i j)) && true) && all_nodes (uses_as_address j y) c) ≡ (((not (eqb t y || false) || (eqb t y && eqb i k)) && true) && all_nodes (uses_as_address k y) c)
    go r true f g = absurd (some_none i (sym (ap (λ b. cond b (Some i) (address_in y c)) f) ∙ g))
    go r false f g =
        let h = r (sym (ap (λ b. cond b (Some i) (address_in y c)) f) ∙ g) in
        ap (λ b. ((not (b || false) || (b && eqb i j)) && true) && all_nodes (uses_as_address j y) c) f ∙ h ∙ sym (ap (λ b. ((not (b || false) || (b && eqb i k)) && true) && all_nodes (uses_as_address k y) c) f)
same_uses j k y (Do (ConstO q word) c) e = ap (λ z. uses_as_address j y (Do (ConstO q word) c) && z) (same_uses j k y c e)
same_uses j k y (Do (NullO q) c) e = ap (λ z. uses_as_address j y (Do (NullO q) c) && z) (same_uses j k y c e)
same_uses j k y (Do (MoveO q a) c) e = ap (λ z. uses_as_address j y (Do (MoveO q a) c) && z) (same_uses j k y c e)
same_uses j k y (Do (OneO o q a) c) e = ap (λ z. uses_as_address j y (Do (OneO o q a) c) && z) (same_uses j k y c e)
same_uses j k y (Do (TwoO o q a b) c) e = ap (λ z. uses_as_address j y (Do (TwoO o q a b) c) && z) (same_uses j k y c e)
same_uses j k y (Do (GlobalO q number) c) e = ap (λ z. uses_as_address j y (Do (GlobalO q number) c) && z) (same_uses j k y c e)
same_uses j k y (Do (LiteralO q number) c) e = ap (λ z. uses_as_address j y (Do (LiteralO q number) c) && z) (same_uses j k y c e)
same_uses j k y (Do (CardO q) c) e = ap (λ z. uses_as_address j y (Do (CardO q) c) && z) (same_uses j k y c e)
same_uses j k y (Do (StepO q p n) c) e = ap (λ z. uses_as_address j y (Do (StepO q p n) c) && z) (same_uses j k y c e)
same_uses j k y (Do (ApartO q p s) c) e = ap (λ z. uses_as_address j y (Do (ApartO q p s) c) && z) (same_uses j k y c e)
same_uses j k y (Do (PtrTestO o q p s) c) e = ap (λ z. uses_as_address j y (Do (PtrTestO o q p s) c) && z) (same_uses j k y c e)
same_uses j k y (Do (LoadO q p) c) e = ap (λ z. uses_as_address j y (Do (LoadO q p) c) && z) (same_uses j k y c e)
same_uses j k y (Do (StoreO p a) c) e = ap (λ z. uses_as_address j y (Do (StoreO p a) c) && z) (same_uses j k y c e)
same_uses j k y (Do (FreshO number) c) e = ap (λ z. uses_as_address j y (Do (FreshO number) c) && z) (same_uses j k y c e)
same_uses j k y (Do (EndO number) c) e = ap (λ z. uses_as_address j y (Do (EndO number) c) && z) (same_uses j k y c e)
same_uses j k y (Do (InO q port) c) e = ap (λ z. uses_as_address j y (Do (InO q port) c) && z) (same_uses j k y c e)
same_uses j k y (Do (OutO port a) c) e = ap (λ z. uses_as_address j y (Do (OutO port a) c) && z) (same_uses j k y c e)
same_uses j k y (Do WaitO c) e = ap (λ z. uses_as_address j y (Do WaitO c) && z) (same_uses j k y c e)
same_uses j k y (Do HaltO c) e = ap (λ z. uses_as_address j y (Do HaltO c) && z) (same_uses j k y c e)
same_uses j k y (Call q f args c) e = ap (λ z. uses_as_address j y (Call q f args c) && z) (same_uses j k y c e)
same_uses j k y (Choose p a b c) e =
    let r = none_right (address_in y a) (first_some (address_in y b) (address_in y c)) e in
    let h = same_uses j k y a (none_left (address_in y a) (first_some (address_in y b) (address_in y c)) e) in
    let g = same_uses j k y b (none_left (address_in y b) (address_in y c) r) in
    let i = same_uses j k y c (none_right (address_in y b) (address_in y c) r) in
    λ t. uses_as_address j y (Choose p a b c) && (h t && (g t && i t))
same_uses j k y (Block b c) e = let h = same_uses j k y b (none_left (address_in y b) (address_in y c) e) in let i = same_uses j k y c (none_right (address_in y b) (address_in y c) e) in λ t. h t && i t
same_uses j k y (Loop b c) e = let h = same_uses j k y b (none_left (address_in y b) (address_in y c) e) in let i = same_uses j k y c (none_right (address_in y b) (address_in y c) e) in λ t. h t && i t
same_uses j k y (Leave m c) e = same_uses j k y c e
same_uses j k y (Again m c) e = same_uses j k y c e
same_uses j k y (Return p c) e = ap (λ z. uses_as_address j y (Return p c) && z) (same_uses j k y c e)

-- ---- kinds

module _ (f : FunctionT ℕ) (t : ℕ) where
  clean : (k : ℕ) (r : Role) → role_of f t ≡ r → fits k r ≡ true → is_clean f k t ≡ true
  clean k r e h = clean_is f k t ∙ ap (fits k) e ∙ h

  address_one : (k j : ℕ) (r : Role) → role_of f t ≡ r → fits k r ≡ true → address_in t f.body ≡ Some j → j ≡ k
  address_one k j r e h i = only_address k t f.body (clean_every f k t (clean k r e h)) j i

  flag_fits : (j : ℕ) → get_or (flags f) j false ≡ true → address_in t f.body ≡ Some j → fits j (role_of f t) ≡ true
  flag_fits j e i = sym (clean_is f j t) ∙ found_clean f j t f.body (well_taken f j (flag_plain f j e)) i

  open_kind : role_of f t ≡ Open → (a : Option ℕ) → address_in t f.body ≡ a → address_kind (flags f) a ≡ Own
  open_kind e None i = refl
  open_kind e (Some j) i = absurd (let h : j ≡ suc j = address_one (suc j) j Open e refl i in omega (arith, h))

  spoilt_kind : role_of f t ≡ Spoilt → (a : Option ℕ) → address_in t f.body ≡ a → address_kind (flags f) a ≡ Own
  spoilt_kind e None i = refl
  spoilt_kind e (Some j) i = go (get_or (flags f) j false) refl
    where
      go : (b : Bool) → get_or (flags f) j false ≡ b → cond (get_or (flags f) j false) (Address j) Own ≡ Own
      go true h = absurd (true_false (sym (flag_fits j h i) ∙ ap (fits j) e))
      go false h = ap (λ b. cond b (Address j) Own) h

  address_of_kind : (k : ℕ) → role_of f t ≡ AddressOf k → (a : Option ℕ) → address_in t f.body ≡ a → address_kind (flags f) a ≡ cond (get_or (flags f) k false) (Address k) Own
  address_of_kind k e None i =
      let c = clean k (AddressOf k) e (eq-eqb k k refl) in
      let same = same_uses (suc k) k t f.body i in
      let other : is_clean f (suc k) t ≡ true = ap (λ b. not (is_among f.params t) && b) same ∙ c in
      absurd (off_next k (sym (ap (fits (suc k)) e) ∙ sym (clean_is f (suc k) t) ∙ other))
  address_of_kind k e (Some j) i = ap (λ n. cond (get_or (flags f) n false) (Address n) Own) (address_one k j (AddressOf k) e (eq-eqb k k refl) i)

  by_role : (r : Role) → role_of f t ≡ r → address_kind (flags f) (address_in t f.body) ≡ kind_by (flags f) r
  by_role Open e = open_kind e (address_in t f.body) refl
  by_role (AddressOf k) e = address_of_kind k e (address_in t f.body) refl
  by_role Spoilt e = spoilt_kind e (address_in t f.body) refl

  pub kind_is : t < f.temps → kind_in f t ≡ kind_by (flags f) (role_of f t)
  kind_is lt = below_kind f t lt ∙ by_role (role_of f t) refl
