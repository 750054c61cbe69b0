-- The role of a temporary tells whether it is clean.
use Rattle.std.proofs.Common.{◌≡◌, ℕ, Bool, true, false, ◌&&◌, ◌||◌, not, cond, eqb, List, [], ◌∷◌, ◌++◌, Option, Some, None, refl, sym, ap, ◌∙◌}
use Rattle.std.proofs.lemmas.Bool.{eqb-true, eq-eqb}
use Rattle.mid_code.specs.Code.{OpT, ConstO, NullO, MoveO, OneO, TwoO, GlobalO, LocalO, LiteralO, CardO, StepO, ApartO, PtrTestO, LoadO, StoreO, FreshO, EndO, InO, OutO, WaitO, HaltO, NodesT, Stop, Do, Call, Choose, Block, Loop, Leave, Again, Return, FunctionT, maybe}
use Rattle.mid_code.specs.Live.{is_among}
use Rattle.mid_scalars.specs.declared.roles.Role.{Role}
use Rattle.mid_scalars.specs.declared.roles.Role.TheVariants.{Open, AddressOf, Spoilt}
use Rattle.mid_scalars.specs.inner.Table.{all_nodes, uses_as_address, is_clean, takes_well}
use Rattle.mid_scalars.specs.inner.Purposes.{met, spoilt, others, role_after, role_in, role_of, fits, takes_by}

true_false : true ≡ false → ⊥
true_false e = cc

none_some : (k : ℕ) → None ≡ Some k → ⊥
none_some k e = cc

-- ---- what is used for something else

spoil_fits : (k : ℕ) (b : Bool) (r : Role) → fits k (cond b Spoilt r) ≡ (not b && fits k r)
spoil_fits k true r = refl
spoil_fits k false r = refl

swap : (a b c : Bool) → (not b && (not a && c)) ≡ (not (a || b) && c)
swap true true c = refl
swap true false c = refl
swap false true c = refl
swap false false c = refl

spoilt_fits : (k : ℕ) (xs : List ℕ) (y : ℕ) (r : Role) → fits k (spoilt xs y r) ≡ (not (is_among xs y) && fits k r)
spoilt_fits k [] y r = refl
spoilt_fits k (x ∷ xs) y r = spoilt_fits k xs y (cond (eqb x y) Spoilt r) ∙ ap (λ b. not (is_among xs y) && b) (spoil_fits k (eqb x y) r) ∙ swap (eqb x y) (is_among xs y) (fits k r)

or_assoc : (a b c : Bool) → ((a || b) || c) ≡ (a || (b || c))
or_assoc true b c = refl
or_assoc false b c = refl

among_both : (xs ys : List ℕ) (y : ℕ) → is_among (xs ++ ys) y ≡ (is_among xs y || is_among ys y)
among_both [] ys y = refl
among_both (x ∷ xs) ys y = ap (λ b. eqb x y || b) (among_both xs ys y) ∙ sym (or_assoc (eqb x y) (is_among xs y) (is_among ys y))

-- targets and uses that are no addresses
plainly : (p q : Bool) → ((not p || false) && (not q || false)) ≡ not (p || q)
plainly true q = refl
plainly false true = refl
plainly false false = refl

used_plainly : (ts us : List ℕ) (y : ℕ) → ((not (is_among ts y) || false) && (not (is_among us y) || false)) ≡ not (is_among (ts ++ us) y)
used_plainly ts us y = plainly (is_among ts y) (is_among us y) ∙ ap not (sym (among_both ts us y))

loaded : (a b : Bool) → ((not (a || false) || false) && (not (b || false) || b)) ≡ not (a || false)
loaded true b = refl
loaded false true = refl
loaded false false = refl

stored : (p a : Bool) → (true && (not (p || (a || false)) || (p && not (a || false)))) ≡ not (a || false)
stored true true = refl
stored true false = refl
stored false true = refl
stored false false = refl

-- ---- one operation

met_fits : (k j : ℕ) (r : Role) → fits k (met r j) ≡ (eqb j k && fits k r)
met_fits k j Open = and_true (eqb j k)
  where
    and_true : (b : Bool) → b ≡ (b && true)
    and_true true = refl
    and_true false = refl
met_fits k j (AddressOf i) = go (eqb i j) refl
  where
    same : (b : Bool) → b ≡ (b && b)
    same true = refl
    same false = refl

    other : (b c : Bool) → eqb j k ≡ b → eqb i k ≡ c → eqb i j ≡ false → false ≡ (b && c)
    other true true e f g = absurd (true_false (sym (eq-eqb i j (eqb-true i k f ∙ sym (eqb-true j k e))) ∙ g))
    other true false e f g = refl
    other false c e f g = refl

    go : (b : Bool) → eqb i j ≡ b → fits k (cond (eqb i j) (AddressOf i) Spoilt) ≡ (eqb j k && eqb i k)
    go true e = ap (λ b. fits k (cond b (AddressOf i) Spoilt)) e ∙ ap (λ n. eqb n k) (eqb-true i j e) ∙ same (eqb j k) ∙ ap (λ n. eqb j k && eqb n k) (sym (eqb-true i j e))
    go false e = ap (λ b. fits k (cond b (AddressOf i) Spoilt)) e ∙ other (eqb j k) (eqb i k) refl refl e
met_fits k j Spoilt = and_false (eqb j k)
  where
    and_false : (b : Bool) → false ≡ (b && false)
    and_false true = refl
    and_false false = refl

taken_fits : (k j t y : ℕ) (r : Role) (c : NodesT ℕ) → fits k (role_after y (LocalO t j) r) ≡ (uses_as_address k y (Do (LocalO t j) c) && fits k r)
taken_fits k j t y r c = go (eqb t y)
  where
    unit : (b : Bool) → ((false || (true && b)) && true) ≡ b
    unit true = refl
    unit false = refl

    go : (b : Bool) → fits k (cond b (met r j) r) ≡ (((not (b || false) || (b && eqb j k)) && true) && fits k r)
    go true = met_fits k j r ∙ ap (λ b. b && fits k r) (sym (unit (eqb j k)))
    go false = refl

op_fits : (k y : ℕ) (o : OpT ℕ) (r : Role) (c : NodesT ℕ) → fits k (role_after y o r) ≡ (uses_as_address k y (Do o c) && fits k r)
op_fits k y (ConstO t word) r c = spoilt_fits k (others (ConstO t word)) y r ∙ ap (λ b. b && fits k r) (sym (used_plainly (t ∷ []) ([]) y))
op_fits k y (NullO t) r c = spoilt_fits k (others (NullO t)) y r ∙ ap (λ b. b && fits k r) (sym (used_plainly (t ∷ []) ([]) y))
op_fits k y (MoveO t a) r c = spoilt_fits k (others (MoveO t a)) y r ∙ ap (λ b. b && fits k r) (sym (used_plainly (t ∷ []) (a ∷ []) y))
op_fits k y (OneO o t a) r c = spoilt_fits k (others (OneO o t a)) y r ∙ ap (λ b. b && fits k r) (sym (used_plainly (t ∷ []) (a ∷ []) y))
op_fits k y (TwoO o t a b) r c = spoilt_fits k (others (TwoO o t a b)) y r ∙ ap (λ b. b && fits k r) (sym (used_plainly (t ∷ []) (a ∷ b ∷ []) y))
op_fits k y (GlobalO t number) r c = spoilt_fits k (others (GlobalO t number)) y r ∙ ap (λ b. b && fits k r) (sym (used_plainly (t ∷ []) ([]) y))
op_fits k y (LocalO t i) r c = taken_fits k i t y r c
op_fits k y (LiteralO t number) r c = spoilt_fits k (others (LiteralO t number)) y r ∙ ap (λ b. b && fits k r) (sym (used_plainly (t ∷ []) ([]) y))
op_fits k y (CardO t) r c = spoilt_fits k (others (CardO t)) y r ∙ ap (λ b. b && fits k r) (sym (used_plainly (t ∷ []) ([]) y))
op_fits k y (StepO t p n) r c = spoilt_fits k (others (StepO t p n)) y r ∙ ap (λ b. b && fits k r) (sym (used_plainly (t ∷ []) (p ∷ n ∷ []) y))
op_fits k y (ApartO t p q) r c = spoilt_fits k (others (ApartO t p q)) y r ∙ ap (λ b. b && fits k r) (sym (used_plainly (t ∷ []) (p ∷ q ∷ []) y))
op_fits k y (PtrTestO o t p q) r c = spoilt_fits k (others (PtrTestO o t p q)) y r ∙ ap (λ b. b && fits k r) (sym (used_plainly (t ∷ []) (p ∷ q ∷ []) y))
op_fits k y (LoadO t p) r c = spoilt_fits k (t ∷ []) y r ∙ ap (λ b. b && fits k r) (sym (loaded (eqb t y) (eqb p y)))
op_fits k y (StoreO p a) r c = spoilt_fits k (a ∷ []) y r ∙ ap (λ b. b && fits k r) (sym (stored (eqb p y) (eqb a y)))
op_fits k y (FreshO number) r c = spoilt_fits k (others (FreshO number)) y r ∙ ap (λ b. b && fits k r) (sym (used_plainly ([]) ([]) y))
op_fits k y (EndO number) r c = spoilt_fits k (others (EndO number)) y r ∙ ap (λ b. b && fits k r) (sym (used_plainly ([]) ([]) y))
op_fits k y (InO t port) r c = spoilt_fits k (others (InO t port)) y r ∙ ap (λ b. b && fits k r) (sym (used_plainly (t ∷ []) ([]) y))
op_fits k y (OutO port a) r c = spoilt_fits k (others (OutO port a)) y r ∙ ap (λ b. b && fits k r) (sym (used_plainly ([]) (a ∷ []) y))
op_fits k y WaitO r c = spoilt_fits k (others WaitO) y r ∙ ap (λ b. b && fits k r) (sym (used_plainly ([]) ([]) y))
op_fits k y HaltO r c = spoilt_fits k (others HaltO) y r ∙ ap (λ b. b && fits k r) (sym (used_plainly ([]) ([]) y))

-- ---- nodes

two : (t c f : Bool) → (c && (t && f)) ≡ ((t && c) && f)
two true c f = refl
two false true f = refl
two false false f = refl

three : (t b c f : Bool) → (c && (b && (t && f))) ≡ ((t && (b && c)) && f)
three true true c f = refl
three true false true f = refl
three true false false f = refl
three false true true f = refl
three false true false f = refl
three false false true f = refl
three false false false f = refl

four : (t a b c f : Bool) → (c && (b && (a && (t && f)))) ≡ ((t && (a && (b && c))) && f)
four true true b c f = three true b c f
four true false true true f = refl
four true false true false f = refl
four true false false true f = refl
four true false false false f = refl
four false true true true f = refl
four false true true false f = refl
four false true false true f = refl
four false true false false f = refl
four false false true true f = refl
four false false true false f = refl
four false false false true f = refl
four false false false false f = refl

-- a node whose temporaries are these, used for something else
uses_fits : (k y : ℕ) (us : List ℕ) (r : Role) (d : NodesT ℕ) → uses_as_address k y d ≡ not (is_among us y) → fits k (spoilt us y r) ≡ (uses_as_address k y d && fits k r)
uses_fits k y us r d e = spoilt_fits k us y r ∙ ap (λ b. b && fits k r) (sym e)

one_side : (q : Bool) → ((not false || false) && (not q || false)) ≡ not q
one_side true = refl
one_side false = refl

call_uses : (k y : ℕ) (t : Option ℕ) (f : ℕ) (args : List ℕ) (c : NodesT ℕ) → uses_as_address k y (Call t f args c) ≡ not (is_among (maybe t ++ args) y)
call_uses k y t f args c = used_plainly (maybe t) args y

call_fits : (k y : ℕ) (t : Option ℕ) (f : ℕ) (args : List ℕ) (c : NodesT ℕ) (r : Role) → fits k (spoilt (maybe t) y (spoilt args y r)) ≡ (uses_as_address k y (Call t f args c) && fits k r)
call_fits k y t f args c r = spoilt_fits k (maybe t) y (spoilt args y r) ∙ ap (λ b. not (is_among (maybe t) y) && b) (spoilt_fits k args y r) ∙ swap (is_among args y) (is_among (maybe t) y) (fits k r) ∙ ap (λ b. not b && fits k r) (or_swap (is_among args y) (is_among (maybe t) y) ∙ sym (among_both (maybe t) args y)) ∙ ap (λ b. b && fits k r) (sym (call_uses k y t f args c))
  where
    or_swap : (a b : Bool) → (a || b) ≡ (b || a)
    or_swap true true = refl
    or_swap true false = refl
    or_swap false true = refl
    or_swap false false = refl

pub role_fits : (k y : ℕ) (c : NodesT ℕ) (r : Role) → fits k (role_in y c r) ≡ (all_nodes (uses_as_address k y) c && fits k r)
role_fits k y Stop r = refl
role_fits k y (Do o c) r = role_fits k y c (role_after y o r) ∙ ap (λ b. all_nodes (uses_as_address k y) c && b) (op_fits k y o r c) ∙ two (uses_as_address k y (Do o c)) (all_nodes (uses_as_address k y) c) (fits k r)
role_fits k y (Call t f args c) r = role_fits k y c (spoilt (maybe t) y (spoilt args y r)) ∙ ap (λ b. all_nodes (uses_as_address k y) c && b) (call_fits k y t f args c r) ∙ two (uses_as_address k y (Call t f args c)) (all_nodes (uses_as_address k y) c) (fits k r)
role_fits k y (Choose p a b c) r =
    let n : NodesT ℕ → Bool = λ d. all_nodes (uses_as_address k y) d in
    role_fits k y c (role_in y b (role_in y a (spoilt (p ∷ []) y r)))
    ∙ ap (λ e. n c && e) (role_fits k y b (role_in y a (spoilt (p ∷ []) y r)) ∙ ap (λ e. n b && e) (role_fits k y a (spoilt (p ∷ []) y r) ∙ ap (λ e. n a && e) (uses_fits k y (p ∷ []) r (Choose p a b c) (one_side (is_among (p ∷ []) y)))))
    ∙ four (uses_as_address k y (Choose p a b c)) (n a) (n b) (n c) (fits k r)
role_fits k y (Block b c) r =
    let n : NodesT ℕ → Bool = λ d. all_nodes (uses_as_address k y) d in
    role_fits k y c (role_in y b r) ∙ ap (λ e. n c && e) (role_fits k y b r) ∙ three true (n b) (n c) (fits k r)
role_fits k y (Loop b c) r =
    let n : NodesT ℕ → Bool = λ d. all_nodes (uses_as_address k y) d in
    role_fits k y c (role_in y b r) ∙ ap (λ e. n c && e) (role_fits k y b r) ∙ three true (n b) (n c) (fits k r)
role_fits k y (Leave m c) r = role_fits k y c r
role_fits k y (Again m c) r = role_fits k y c r
role_fits k y (Return p c) r = role_fits k y c (spoilt (maybe p) y r) ∙ ap (λ e. all_nodes (uses_as_address k y) c && e) (uses_fits k y (maybe p) r (Return p c) (one_side (is_among (maybe p) y))) ∙ two (uses_as_address k y (Return p c)) (all_nodes (uses_as_address k y) c) (fits k r)

-- ---- functions

pub clean_is : (f : FunctionT ℕ) (k t : ℕ) → is_clean f k t ≡ fits k (role_of f t)
clean_is f k t = sym (role_fits k t f.body (spoilt f.params t Open) ∙ ap (λ b. all_nodes (uses_as_address k t) f.body && b) (spoilt_fits k f.params t Open) ∙ turn (is_among f.params t) (all_nodes (uses_as_address k t) f.body))
  where
    turn : (p a : Bool) → (a && (not p && true)) ≡ (not p && a)
    turn true true = refl
    turn true false = refl
    turn false true = refl
    turn false false = refl

takes_is : (f : FunctionT ℕ) (k : ℕ) (o : OpT ℕ) (c : NodesT ℕ) → takes_well f k (Do o c) ≡ takes_by (role_of f) k (Do o c)
takes_is f k (ConstO t word) c = refl
takes_is f k (NullO t) c = refl
takes_is f k (MoveO t a) c = refl
takes_is f k (OneO o t a) c = refl
takes_is f k (TwoO o t a b) c = refl
takes_is f k (GlobalO t number) c = refl
takes_is f k (LocalO t i) c = ap (λ b. not (eqb i k) || b) (clean_is f k t)
takes_is f k (LiteralO t number) c = refl
takes_is f k (CardO t) c = refl
takes_is f k (StepO t p n) c = refl
takes_is f k (ApartO t p q) c = refl
takes_is f k (PtrTestO o t p q) c = refl
takes_is f k (LoadO t p) c = refl
takes_is f k (StoreO p a) c = refl
takes_is f k (FreshO number) c = refl
takes_is f k (EndO number) c = refl
takes_is f k (InO t port) c = refl
takes_is f k (OutO port a) c = refl
takes_is f k WaitO c = refl
takes_is f k HaltO c = refl

pub all_takes : (f : FunctionT ℕ) (k : ℕ) (c : NodesT ℕ) → all_nodes (takes_well f k) c ≡ all_nodes (takes_by (role_of f) k) c
all_takes f k Stop = refl
all_takes f k (Do o c) = ap (λ b. b && all_nodes (takes_well f k) c) (takes_is f k o c) ∙ ap (λ b. takes_by (role_of f) k (Do o c) && b) (all_takes f k c)
all_takes f k (Call q g args c) = all_takes f k c
all_takes f k (Choose p a b c) = ap (λ d. d && (all_nodes (takes_well f k) b && all_nodes (takes_well f k) c)) (all_takes f k a) ∙ ap (λ d. all_nodes (takes_by (role_of f) k) a && (d && all_nodes (takes_well f k) c)) (all_takes f k b) ∙ ap (λ d. all_nodes (takes_by (role_of f) k) a && (all_nodes (takes_by (role_of f) k) b && d)) (all_takes f k c)
all_takes f k (Block b c) = ap (λ d. d && all_nodes (takes_well f k) c) (all_takes f k b) ∙ ap (λ d. all_nodes (takes_by (role_of f) k) b && d) (all_takes f k c)
all_takes f k (Loop b c) = ap (λ d. d && all_nodes (takes_well f k) c) (all_takes f k b) ∙ ap (λ d. all_nodes (takes_by (role_of f) k) b && d) (all_takes f k c)
all_takes f k (Leave m c) = all_takes f k c
all_takes f k (Again m c) = all_takes f k c
all_takes f k (Return p c) = all_takes f k c
