-- What came of the checks of nodes.
use Rattle.std.proofs.Common.{◌≡◌, ◌≢◌, ℕ, suc, ◌+◌, ◌-◌, ◌<◌, ◌↔◌, ◌⊎◌, inl, inr, Bool, true, false, nat_eq, ◌||◌, eqb, cond, List, [], ◌∷◌, length, get_or, map, drop, Option, Some, refl, ap, sym, ◌∙◌, subst, arith}
use Rattle.std.proofs.lemmas.Bool.{eq-eqb, eqb-true, eqb-false, false≢true}
use Rattle.std.proofs.lemmas.Option.{same_Some}
use Rattle.mid_code.specs.declared.placed.Where.{Where}
use Rattle.mid_code.specs.declared.placed.Where.TheVariants.{Reg, Slot}
use Rattle.mid_code.specs.declared.node.Op.{Op}
use Rattle.mid_code.specs.declared.node.Node.{Node}
use Rattle.mid_code.specs.Code.{Stop}
use Rattle.mid_code.specs.Functions.{NodeT, ListT, DoN, ChooseN, BlockN, LoopN, before, joined, op_before, node, nodes, listed}
use Rattle.mid_code.specs.Live.{label, live_before, is_live, is_used, is_target}
use Rattle.mid_code.specs.Safe.{place_of, IsSlot}
use Rattle.mid_live.specs.Sets.{on}
use Rattle.reg_choose.specs.inner.Checked.{Labels, Set, ApartIn, FreeIn, TargetIn, live_set, in_block, in_loop, InsideChecked, ListChecked}
use Rattle.reg_choose.specs.inner.Holding.{number_at, Stands, Laid, Made, NodeTried, ListTried}
use Rattle.mid_live.proofs.Facts.{op_live}
use Rattle.mid_live.proofs.Turned.{turn_same}
use Rattle.reg_choose.proofs.Checking.{Like, unlike, apart_like, list_like, node_like, list_drop, one_more, block_whole, loop_whole}
use Rattle.reg_choose.proofs.Holders.{same_number, reg_number, number_slot, number_same, stands_apart}

nat_eqb : (a b : ℕ) → nat_eq a b ≡ eqb a b
nat_eqb a b = grind arith

nat_same : (a b : ℕ) → a ≡ b → nat_eq a b ≡ true
nat_same a b e = nat_eqb a b ∙ eq-eqb a b e

nat_true : (a b : ℕ) → nat_eq a b ≡ true → a ≡ b
nat_true a b e = eqb-true a b (sym (nat_eqb a b) ∙ e)

nat_false : (a b : ℕ) → nat_eq a b ≡ false → a ≢ b
nat_false a b e = eqb-false a b (sym (nat_eqb a b) ∙ e)

-- ---- targets

module _ (at : List Where) (chosen : (x r : ℕ) → place_of at x ≡ Reg r → r < 9) (s hs : List ℕ) (g : Stands at s hs) where
  pub free_none : (t : ℕ) → get_or hs (number_at at t) 0 ≡ 0 → FreeIn (length at) at (Some t) (on s)
  free_none t e x y h q o i = absurd (let a = g.holds y h o in let b = ap (λ z. get_or hs z 0) (number_same at y x (sym i) ∙ ap (number_at at) (sym (same_Some t x q))) in omega (arith, e, a, b))

  pub free_same : (t : ℕ) → get_or hs (number_at at t) 0 ≡ suc t → FreeIn (length at) at (Some t) (on s)
  free_same t e x y h q o i = (let a = g.holds y h o in let d = same_Some t x q in let b = ap (λ z. get_or hs z 0) (number_same at y x (sym i) ∙ ap (number_at at) (sym d)) in omega (arith, e, a, b, d))

  pub free_other : (t z : ℕ) → get_or hs (number_at at t) 0 ≡ suc z → z ≢ t → FreeIn (length at) at (Some t) (on s) → ⊥
  free_other t z e d f = (let u = g.held (number_at at t) z e in d (sym (f t z u.0 refl u.1 (same_number at chosen t z (sym u.2)))))

  pub free_zero : (t k : ℕ) → k ≡ number_at at t → get_or hs k 0 ≡ 0 → (nat_eq (get_or hs k 0) 0 ≡ true → FreeIn (length at) at (Some t) (on s)) × (FreeIn (length at) at (Some t) (on s) → nat_eq (get_or hs k 0) 0 ≡ true)
  free_zero t k e z = ((λ b. free_none t (sym (ap (λ i. get_or hs i 0) e) ∙ z)), (λ f. nat_same (get_or hs k 0) 0 z))

  pub free_else : (t k : ℕ) → k ≡ number_at at t → get_or hs k 0 ≢ 0 → (nat_eq (get_or hs k 0 - 1) t ≡ true → FreeIn (length at) at (Some t) (on s)) × (FreeIn (length at) at (Some t) (on s) → nat_eq (get_or hs k 0 - 1) t ≡ true)
  free_else t k e n =
      let i = ap (λ z. get_or hs z 0) e in
      ((λ b. free_same t (let a = nat_true (get_or hs k 0 - 1) t b in omega (arith, i, a, n))), (λ f. turn f (nat_eq (get_or hs k 0 - 1) t) refl))
    where
      turn : FreeIn (length at) at (Some t) (on s) → (b : Bool) → nat_eq (get_or hs k 0 - 1) t ≡ b → nat_eq (get_or hs k 0 - 1) t ≡ true
      turn f true q = q
      turn f false q = absurd (let i = ap (λ z. get_or hs z 0) e in free_other t (get_or hs k 0 - 1) (omega (arith, i, n)) (nat_false (get_or hs k 0 - 1) t q) f)

  pub slot_all : (t : Option ℕ) → ((y : ℕ) → y < length at → on s y ≡ true → t ≢ Some y → number_at at y < 9 → ⊥) → (y : ℕ) → y < length at → on s y ≡ true → t ≢ Some y → IsSlot (place_of at y)
  slot_all t f y h o d = turn (place_of at y) refl
    where
      turn : (w : Where) → place_of at y ≡ w → IsSlot w
      turn (Reg r) e = f y h o d (let a = reg_number at chosen y r e in let b = chosen y r e in omega (arith, a, b))
      turn (Slot k) e = tt

  pub slot_other : (t : Option ℕ) (r z : ℕ) → r < 9 → get_or hs r 0 ≡ suc z → t ≢ Some z → ((y : ℕ) → y < length at → on s y ≡ true → t ≢ Some y → IsSlot (place_of at y)) → ⊥
  slot_other t r z l e d f = (let u = g.held r z e in number_slot at chosen z (let a = u.2 in omega (arith, l, a)) (f z u.0 u.1 d))

  -- one register more
  pub slot_turn : (t : Option ℕ) (r : ℕ) → (get_or hs r 0 ≡ 0) ⊎ ((z : ℕ) × (get_or hs r 0 ≡ suc z) × (t ≡ Some z)) → ((y : ℕ) → y < length at → on s y ≡ true → t ≢ Some y → number_at at y < r → ⊥) → (y : ℕ) → y < length at → on s y ≡ true → t ≢ Some y → number_at at y < r + 1 → ⊥
  slot_turn t r a f y h o d l = elim (eq_or (number_at at y) r) [
    | inl e ↦ (let b = g.holds y h o in let c = ap (λ z. get_or hs z 0) e in elim a [ inl p ↦ omega (arith, b, c, p) | inr p ↦ (let q = p.1 in d (p.2 ∙ ap Some (omega (arith, b, c, q)))) ])
    | inr n ↦ f y h o d (less n l)
  ]
    where
      eq_or : (a b : ℕ) → (a ≡ b) ⊎ (a ≢ b)
      eq_or a b = go (eqb a b) refl
        where
          go : (t : Bool) → eqb a b ≡ t → (a ≡ b) ⊎ (a ≢ b)
          go true e = inl (eqb-true a b e)
          go false e = inr (eqb-false a b e)

      less : {a b : ℕ} → a ≢ b → a < b + 1 → a < b
      less {a} {b} n l = omega (arith, n, l)

-- ---- an operation

live_used : (u t j : Bool) → (u || cond t false j) ≡ live_before u t j
live_used true t j = refl
live_used false true j = refl
live_used false false j = refl

pub op_tried : (at : List Where) (ls : Labels) (o : Op ℕ) (s mid new hs : List ℕ) (b : Bool) → TargetIn (length at) at (op_before o Stop) (on s) → ((y : ℕ) → y < length at → on mid y ≡ cond (is_target (op_before o Stop) y) false (on s y)) → Laid at (λ y. is_used (op_before o Stop) y) mid new hs b → NodeTried at ls (DoN o) s new hs b
op_tried at ls o s mid new hs true f i l = ((λ y h. l.0 y h ∙ ap (λ z. is_used (op_before o Stop) y || z) (i y h) ∙ live_used (is_used (op_before o Stop) y) (is_target (op_before o Stop) y) (on s y) ∙ sym (op_live o y (ls y) (on s y))), l.1, f)
op_tried at ls o s mid new hs false f i l = λ n. l (apart_like (length at) at (live_set ls (before (DoN o) Stop) (on s)) (λ y. is_used (op_before o Stop) y || on mid y) (λ y h. op_live o y (ls y) (on s y) ∙ sym (live_used (is_used (op_before o Stop) y) (is_target (op_before o Stop) y) (on s y)) ∙ ap (λ z. is_used (op_before o Stop) y || z) (sym (i y h))) n.0)

pub op_not : (at : List Where) (ls : Labels) (o : Op ℕ) (s new hs : List ℕ) → (TargetIn (length at) at (op_before o Stop) (on s) → ⊥) → NodeTried at ls (DoN o) s new hs false
op_not at ls o s new hs f = λ n. f n.1

pub slot_nine : (at : List Where) (s : List ℕ) (t : Option ℕ) (r : ℕ) → r ≡ 9 → ((y : ℕ) → y < length at → on s y ≡ true → t ≢ Some y → number_at at y < r → ⊥) → (y : ℕ) → y < length at → on s y ≡ true → t ≢ Some y → number_at at y < 9 → ⊥
slot_nine at s t r e f y h o d l = f y h o d (omega (arith, e, l))

-- ---- other nodes

module _ (at : List Where) (ls : Labels) (x : NodeT ℕ) (s new hs : List ℕ) where
  pub choose_no_b : (p : ℕ) (a b : ListT ℕ) (mid ks : List ℕ) → x ≡ ChooseN p a b → ListTried at ls b s mid ks false → NodeTried at ls x s new hs false
  choose_no_b p a b mid ks e l = λ n. l (subst (λ z. InsideChecked (length at) at ls z (on s)) e n.1).1

  pub never_behind : (gs t mid ks : List ℕ) → Stands at s gs → t ≡ s → Made at t mid ks false → NodeTried at ls x s new hs false
  never_behind gs t mid ks g e l = λ n. l (subst (λ z. ApartIn (length at) at (on z)) (sym e) (stands_apart at s gs g))

  pub choose_no_a : (p : ℕ) (a b : ListT ℕ) (t old mid ks : List ℕ) → x ≡ ChooseN p a b → t ≡ s → Like (length at) (on old) (on t) → ListTried at ls a old mid ks false → NodeTried at ls x s new hs false
  choose_no_a p a b t old mid ks e f k l = λ n. l (list_like (length at) at ls ls a (on s) (on old) (λ y h. refl) (λ y h. sym (k y h ∙ ap (λ z. on z y) f)) (subst (λ z. InsideChecked (length at) at ls z (on s)) e n.1).0)

  choose_set : (p : ℕ) (a b : ListT ℕ) (t other old third : List ℕ) → x ≡ ChooseN p a b → t ≡ s → Like (length at) (on other) (live_set ls (joined b) (on s)) → Like (length at) (on old) (on t) → Like (length at) (on third) (live_set ls (joined a) (on old)) → (y : ℕ) → y < length at → (((eqb p y || false) || on other y) || on third y) ≡ live_set ls (before x Stop) (on s) y
  choose_set p a b t other old third e f i k l y h =
      ap (λ z. ((eqb p y || false) || z) || on third y) (i y h)
      ∙ ap (λ z. ((eqb p y || false) || is_live y (ls y) (joined b) (on s y)) || z) (l y h ∙ ap (is_live y (ls y) (joined a)) (k y h ∙ ap (λ z. on z y) f))
      ∙ used_or (eqb p y || false) (is_live y (ls y) (joined a) (on s y)) (is_live y (ls y) (joined b) (on s y))
      ∙ ap (λ z. live_set ls (before z Stop) (on s) y) (sym e)
    where
      used_or : (u v w : Bool) → ((u || w) || v) ≡ live_before u false (v || w)
      used_or true v w = refl
      used_or false true true = refl
      used_or false true false = refl
      used_or false false true = refl
      used_or false false false = refl

  pub choose_join : (p : ℕ) (a b : ListT ℕ) (t mid ks other old third js : List ℕ) (r : Bool) → x ≡ ChooseN p a b → t ≡ s → other ≡ mid → ListTried at ls b s mid ks true → Like (length at) (on old) (on t) → ListTried at ls a old third js true → Laid at (λ y. (eqb p y || false) || on other y) third new hs r → NodeTried at ls x s new hs r
  choose_join p a b t mid ks other old third js true e f g l k m o =
      let i : Like (length at) (on other) (live_set ls (joined b) (on s)) = λ y h. ap (λ z. on z y) g ∙ l.0 y h in
      ((λ y h. o.0 y h ∙ choose_set p a b t other old third e f i k m.0 y h), o.1, subst (λ z. InsideChecked (length at) at ls z (on s)) (sym e) (list_like (length at) at ls ls a (on old) (on s) (λ y h. refl) (λ y h. k y h ∙ ap (λ z. on z y) f) m.2, l.2))
  choose_join p a b t mid ks other old third js false e f g l k m o =
      let i : Like (length at) (on other) (live_set ls (joined b) (on s)) = λ y h. ap (λ z. on z y) g ∙ l.0 y h in
      λ n. o (apart_like (length at) at (live_set ls (before x Stop) (on s)) (λ y. ((eqb p y || false) || on other y) || on third y) (λ y h. sym (choose_set p a b t other old third e f i k m.0 y h)) n.0)

  pub block_tried : (b : ListT ℕ) (ms : Labels) (r : Bool) → x ≡ BlockN b → Like (length at) ms (in_block (on s) ls) → ListTried at ms b s new hs r → NodeTried at ls x s new hs r
  block_tried b ms true e k l = ((λ y h. l.0 y h ∙ ap (λ z. is_live y z (joined b) (on s y)) (k y h) ∙ ap (λ z. live_set ls (before z Stop) (on s) y) (sym e)), l.1, (block_whole (length at) at ls (on s) x b ms e k).1 l.2)
  block_tried b ms false e k l = λ n. l ((block_whole (length at) at ls (on s) x b ms e k).0 n.1)

  pub made_tried : (t : List ℕ) (r : Bool) → Like (length at) (on t) (live_set ls (before x Stop) (on s)) → InsideChecked (length at) at ls x (on s) → Made at t new hs r → NodeTried at ls x s new hs r
  made_tried t true i n m = ((λ y h. m.0 y h ∙ i y h), m.1, n)
  made_tried t false i n m = λ c. m (apart_like (length at) at (live_set ls (before x Stop) (on s)) (on t) (λ y h. sym (i y h)) c.0)

  -- the set before the body is the one at the head: a second turn tells nothing more
  pub loop_tried : (b : ListT ℕ) (g : Set) (ms : Labels) (r : Bool) → x ≡ LoopN b → Like (length at) g (live_set ls (before x Stop) (on s)) → Like (length at) ms (in_loop g (on s) ls) → ListTried at ms b s new hs r → NodeTried at ls x s new hs r
  loop_tried b g ms true e j k l = ((λ y h. l.0 y h ∙ ap (λ z. is_live y z (joined b) (on s y)) (k y h ∙ ap (λ z. label z (on s y) ∷ ls y) (j y h ∙ ap (λ z. live_set ls (before z Stop) (on s) y) e)) ∙ turn_same y (ls y) (joined b) (on s y) ∙ ap (λ z. live_set ls (before z Stop) (on s) y) (sym e)), l.1, (loop_whole (length at) at ls (on s) x b g ms e j k).1 l.2)
  loop_tried b g ms false e j k l = λ n. l ((loop_whole (length at) at ls (on s) x b g ms e j k).0 n.1)

-- ---- nodes

module _ (at : List Where) (ls : Labels) (ns : List (Node ℕ)) (s : List ℕ) where
  pub none_tried : (hs : List ℕ) → Stands at s hs → ListTried at ls (listed (map node (drop (length ns) ns))) s s hs true
  none_tried hs g = subst (λ z. ListTried at ls (listed (map node z)) s s hs true) (sym (all_dropped ns)) ((λ y h. refl), g, stands_apart at s hs g)
    where
      all_dropped : (ns : List (Node ℕ)) → drop (length ns) ns ≡ []
      all_dropped [] = refl
      all_dropped (n ∷ ns) = all_dropped ns

  pub list_no : (i k : ℕ) (x : Node ℕ) (mid ks new hs : List ℕ) → listed (map node (drop k ns)) ≡ listed (node x ∷ map node (drop i ns)) → ListTried at ls (listed (map node (drop i ns))) s mid ks true → NodeTried at ls (node x) mid new hs false → ListTried at ls (listed (map node ns)) s new hs false
  list_no i k x mid ks new hs e l n = λ h. (let c = subst (λ z. ListChecked (length at) at ls z (on s)) e (list_drop (length at) at ls ns k (on s) h) in n (node_like (length at) at ls (node x) (live_set ls (nodes (drop i ns)) (on s)) (on mid) (unlike (length at) (on mid) (live_set ls (nodes (drop i ns)) (on s)) l.0) (c.0, c.1)))

  pub list_yes : (i k : ℕ) (x : Node ℕ) (mid ks new hs : List ℕ) → listed (map node (drop k ns)) ≡ listed (node x ∷ map node (drop i ns)) → ListTried at ls (listed (map node (drop i ns))) s mid ks true → NodeTried at ls (node x) mid new hs true → ListTried at ls (listed (map node (drop k ns))) s new hs true
  list_yes i k x mid ks new hs e l n = (let o = one_more (length at) at ls ns (on s) i k x (on mid) e l.0 (on new) n.0 (stands_apart at new hs n.1) n.2 l.2 in (o.0, n.1, o.1))

pub list_tried_is : (at : List Where) (ls : Labels) (x : ListT ℕ) (s new hs : List ℕ) (b : Bool) → ListTried at ls x s new hs b → (b ≡ true) ↔ ListChecked (length at) at ls x (on s)
list_tried_is at ls x s new hs true l = ((λ e. l.2), (λ h. refl))
list_tried_is at ls x s new hs false l = ((λ e. absurd (false≢true e)), (λ h. absurd (l h)))
