-- Nodes that are swept where they stand: those that stay gather at the end, in their order, and those still to come stand as they did.
use Rattle.std.proofs.Common.{arith, ℕ, zero, suc, ◌+◌, ◌-◌, ◌<◌, ◌≤◌, ◌≡◌, ◌≢◌, List, [], ◌∷◌, map, length, drop, drop-cons, set, get_or, refl, sym, ap, ◌∙◌, subst}
use Rattle.std.specs.List.{SwappedAt}
use Rattle.std.proofs.lemmas.List.{get_or-set_same, get_or-set_other}
use Rattle.mid_code.specs.declared.node.Node.{Node}
use Rattle.mid_code.specs.Functions.{listed, node}
use Rattle.mid_live.specs.declared.heads.Head.{Head}
use Rattle.mid_live.specs.Heads.{list_loops, NodeTold, ListTold}
use Rattle.mid_live.proofs.Learned.{told_turn, no_loops}

pub no_nodes : (ns : List (Node ℕ)) → length ns ≡ 0 → ns ≡ []
no_nodes [] e = refl
no_nodes (x ∷ ns) e = absurd (omega (arith, e))

pub none_left : (ns : List (Node ℕ)) → drop (length ns) ns ≡ []
none_left [] = refl
none_left (x ∷ ns) = none_left ns

get_any : (ns : List (Node ℕ)) (i : ℕ) (d e : Node ℕ) → i < length ns → get_or ns i d ≡ get_or ns i e
get_any [] i d e lt = absurd (omega (arith, lt))
get_any (x ∷ ns) zero d e lt = refl
get_any (x ∷ ns) (suc i) d e lt = get_any ns i d e (omega (arith, lt))

drop_set : (ns : List (Node ℕ)) (j n : ℕ) (y : Node ℕ) → j < n → drop n (set ns j y) ≡ drop n ns
drop_set [] zero n y lt = refl
drop_set [] (suc j) n y lt = refl
drop_set (x ∷ ns) j zero y lt = absurd (omega (arith, lt))
drop_set (x ∷ ns) zero (suc n) y lt = refl
drop_set (x ∷ ns) (suc j) (suc n) y lt = drop_set ns j n y (omega (arith, lt))

-- the next node to come is told of
pub told_next : (w v k n i : ℕ) (t : List Head) (now all : List (Node ℕ)) → v ≡ w → ListTold w t k (listed (map node all)) → n ≡ list_loops (listed (map node (drop i all))) + k → i ≤ length all
    → ((j : ℕ) (d : Node ℕ) → j < i → get_or now j d ≡ get_or all j d) → (d : Node ℕ) → 0 < i → NodeTold v t n (node (get_or now (i - 1) d))
told_next w v k n i t now all s told e le same d p =
    let x : Node ℕ = get_or all (i - 1) d in
    let lt : i - 1 < length all = omega (arith, le, p) in
    subst (λ y. NodeTold v t n (node y)) (sym (same (i - 1) d (omega (arith, p)))) (told_turn w v k n i t all x told s e p lt (get_any all (i - 1) d x lt))

pub told_first : (w k : ℕ) (t : List Head) (all : List (Node ℕ)) → ListTold w t k (listed (map node all)) → (d : Node ℕ) → 0 < length all → NodeTold w t k (node (get_or all (length all - 1) d))
told_first w k t all told = told_next w w k k (length all) t all all refl told (let z = no_loops all in omega (arith, z)) (omega arith) (λ j d lt. refl)

-- a node stays: it goes before those that stayed
pub kept_first : (now placed : List (Node ℕ)) (x : Node ℕ) (i from : ℕ) → 0 < i → i ≤ from → from ≤ length now → length placed ≡ length now → SwappedAt (set now (i - 1) x) placed (i - 1) (from - 1) → drop (from - 1) placed ≡ x ∷ drop from now
kept_first now placed x i from p le fits len at =
    let lt : i - 1 < length now = omega (arith, p, le, fits) in
    let here : get_or placed (from - 1) x ≡ x = at.1 x ∙ get_or-set_same now (i - 1) x x lt in
    let next : suc (from - 1) ≡ from = omega (arith, p, le) in
    drop-cons placed (from - 1) x (omega (arith, p, le, fits, len))
    ∙ (λ j. here j ∷ drop (next j) placed)
    ∙ ap (λ l. x ∷ drop from l) (at.3 x)
    ∙ ap (λ l. x ∷ l) (drop_set _ (from - 1) from _ (omega (arith, p, le)) ∙ drop_set _ (i - 1) from _ (omega (arith, p, le)) ∙ drop_set now (i - 1) from x (omega (arith, p, le)))

pub kept_others : (now placed : List (Node ℕ)) (x : Node ℕ) (i from k : ℕ) (d : Node ℕ) → 0 < i → i ≤ from → SwappedAt (set now (i - 1) x) placed (i - 1) (from - 1) → k < i - 1 → get_or placed k d ≡ get_or now k d
kept_others now placed x i from k d p le at lt = at.2 k d (λ e. omega (arith, e, lt)) (λ e. omega (arith, e, lt, le, p)) ∙ get_or-set_other now (i - 1) k x d (λ e. omega (arith, e, lt))

-- a node is taken out: it stands before those that stayed
pub gone_others : (now : List (Node ℕ)) (x : Node ℕ) (i k : ℕ) (d : Node ℕ) → k < i - 1 → get_or (set now (i - 1) x) k d ≡ get_or now k d
gone_others now x i k d lt = get_or-set_other now (i - 1) k x d (λ e. omega (arith, e, lt))

pub gone_first : (now : List (Node ℕ)) (x : Node ℕ) (i from : ℕ) → 0 < i → i ≤ from → drop from (set now (i - 1) x) ≡ drop from now
gone_first now x i from p le = drop_set now (i - 1) from x (omega (arith, p, le))
