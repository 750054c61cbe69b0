-- Nodes that are sunk where they stand: what is held back stands before the nodes that are still to come, and goes behind the next one by a swap.
use Rattle.std.proofs.Common.{arith, ℕ, ◌+◌, ◌-◌, ◌<◌, ◌≤◌, ◌≡◌, Bool, true, false, cond, List, [], ◌∷◌, ◌++◌, map, length, drop, set, get_or, Option, Some, None, refl, sym, ap, ◌∙◌, subst, append_assoc, length-append}
use Rattle.std.specs.List.{swap}
use Rattle.std.proofs.lemmas.List.{map-append, append-nil, set_at, get_or_at, get_or-append_right, get_or-drop, get_or-set_same, length-drop, drop_more}
use Rattle.std.proofs.lemmas.List.Edits.{swap_is}
use Rattle.mid_code.specs.declared.node.Op.{Op}
use Rattle.mid_code.specs.declared.node.Op.TheVariants as op
use Rattle.mid_code.specs.declared.node.Node.{Node}
use Rattle.mid_code.specs.Code.{OpT}
use Rattle.mid_code.specs.Functions.{NodeT, DoN, ChooseN, BlockN, LoopN, LeaveN, AgainN, ReturnN, listed, node}
use Rattle.mid_improve.specs.declared.sinking.Walk.{Walk}
use Rattle.mid_improve.specs.inner.Sinking.{Held, is_free, goes_on, held_alone}
use Rattle.mid_improve.specs.inner.SinkListed.{op_of, plain_op, node_op, held_nodes, passes, nodes_at, held_at, node_sunk, list_sunk}

-- the nodes now: those that are done, the one that is held back, and those that are still to come
pub record Sunk (W : Walk) (h : Held) (i : ℕ) (now rest all : List (Node ℕ)) : Type 0 where
  pub done : List (Node ℕ)
  pub last : List (Node ℕ)
  pub is : now ≡ (done ++ last) ++ rest
  pub holds : map node last ≡ held_nodes h
  pub len : length (done ++ last) ≡ i
  pub gives : map node done ++ list_sunk W h (listed (map node rest)) ≡ list_sunk W None (listed (map node all))

pub sunk_none : (W : Walk) (all : List (Node ℕ)) → Sunk W None 0 all all all
sunk_none W all = record { done = []; last = []; is = refl; holds = refl; len = refl; gives = refl }

-- an operation in memory by what it is as plain data
abbrev op_in : Option (OpT ℕ) → Op ℕ → Op ℕ
op_in None o = o
op_in (Some q) o = op_of q

op_again : (o : Op ℕ) → op_in (plain_op o) o ≡ o
op_again (op.Const t word) = refl
op_again o = refl

node_again : (x : NodeT ℕ) (q : OpT ℕ) → node_op x ≡ Some q → x ≡ DoN (op_of q)
node_again (DoN o) q e = ap DoN (sym (op_again o) ∙ ap (λ u. op_in u o) e)
node_again (ChooseN p a b) q e = cc
node_again (BlockN b) q e = cc
node_again (LoopN b) q e = cc
node_again (LeaveN k) q e = cc
node_again (AgainN k) q e = cc
node_again (ReturnN p) q e = cc

-- two neighbours change places
swap_at : (us vs : List (Node ℕ)) (a b : Node ℕ) (i : ℕ) → length us + 1 ≡ i → swap (us ++ a ∷ b ∷ vs) (i - 1) i ≡ us ++ b ∷ a ∷ vs
swap_at us vs a b i e =
    let before : length us ≡ i - 1 = omega (arith, e) in
    let behind : length (us ++ a ∷ []) ≡ i = length-append us (a ∷ []) ∙ e in
    let len = length-append us (a ∷ b ∷ vs) in
    let first : get_or (us ++ a ∷ b ∷ vs) (i - 1) a ≡ a = get_or_at us a (b ∷ vs) a (i - 1) before in
    let second : get_or (us ++ a ∷ b ∷ vs) i a ≡ b = ap (λ xs. get_or xs i a) (sym (append_assoc us (a ∷ []) (b ∷ vs))) ∙ get_or_at (us ++ a ∷ []) b vs a i behind in
    let put : set (us ++ a ∷ b ∷ vs) (i - 1) b ≡ us ++ b ∷ b ∷ vs = set_at us a (b ∷ vs) b (i - 1) before in
    let behind' : length (us ++ b ∷ []) ≡ i = length-append us (b ∷ []) ∙ e in
    sym (swap_is (us ++ a ∷ b ∷ vs) (i - 1) i a (omega (arith, len, e)) (omega (arith, len, e)))
    ∙ (λ j. set (set (us ++ a ∷ b ∷ vs) (i - 1) (second j)) i (first j))
    ∙ ap (λ xs. set xs i a) (put ∙ sym (append_assoc us (b ∷ []) (b ∷ vs)))
    ∙ set_at (us ++ b ∷ []) b vs a i behind'
    ∙ append_assoc us (b ∷ []) (a ∷ vs)

-- more nodes that are done
more_done : (done more : List (Node ℕ)) (zs ws : List (NodeT ℕ)) → map node done ++ (map node more ++ zs) ≡ ws → map node (done ++ more) ++ zs ≡ ws
more_done done more zs ws e = ap (λ u. u ++ zs) (map-append node done more) ∙ append_assoc (map node done) (map node more) zs ∙ e

-- what is known of the nodes before one is passed
abbrev Gives : Walk → List (Node ℕ) → Held → Option (OpT ℕ) → Node ℕ → List (Node ℕ) → List (Node ℕ) → Type 0
Gives W done h o r tail all = map node done ++ (nodes_at W h o (node r) ++ list_sunk W (held_at W h o) (listed (map node tail))) ≡ list_sunk W None (listed (map node all))

-- nothing is held back before it
alone : (W : Walk) (b : Bool) (q : OpT ℕ) (i : ℕ) (done tail all ns : List (Node ℕ)) (r : Node ℕ) → node r ≡ DoN (op_of q) → length done ≡ i → ns ≡ done ++ r ∷ tail
    → map node done ++ (cond b [] (node r ∷ []) ++ list_sunk W (cond b (Some q) None) (listed (map node tail))) ≡ list_sunk W None (listed (map node all)) → Sunk W (cond b (Some q) None) (i + 1) ns tail all
alone W true q i done tail all ns r x len is gives = record {
  done = done;
  last = r ∷ [];
  is = is ∙ sym (append_assoc done (r ∷ []) tail);
  holds = ap (λ y. y ∷ []) x;
  len = length-append done (r ∷ []) ∙ ap (λ n. n + 1) len;
  gives = gives;
}
alone W false q i done tail all ns r x len is gives = record {
  done = done ++ r ∷ [];
  last = [];
  is = is ∙ sym (append_assoc done (r ∷ []) tail) ∙ ap (λ u. u ++ tail) (sym (append-nil (done ++ r ∷ [])));
  holds = refl;
  len = ap length (append-nil (done ++ r ∷ [])) ∙ length-append done (r ∷ []) ∙ ap (λ n. n + 1) len;
  gives = more_done done (r ∷ []) _ _ gives;
}

-- what stands for a node before which none is held any more, and what is held back behind it
abbrev nodes_anew : Walk → Held → Option (OpT ℕ) → NodeT ℕ → List (NodeT ℕ)
nodes_anew W h None x = x ∷ []
nodes_anew W h (Some q) x = cond (is_free W h q) [] (x ∷ [])

abbrev held_anew : Walk → Held → Option (OpT ℕ) → Held
held_anew W h None = None
held_anew W h (Some q) = held_alone W h q

anew : (W : Walk) (h : Held) (o : Option (OpT ℕ)) (i : ℕ) (done tail all ns : List (Node ℕ)) (r : Node ℕ) → node_op (node r) ≡ o → length done ≡ i → ns ≡ done ++ r ∷ tail
    → map node done ++ (nodes_anew W h o (node r) ++ list_sunk W (held_anew W h o) (listed (map node tail))) ≡ list_sunk W None (listed (map node all)) → Sunk W (held_anew W h o) (i + 1) ns tail all
anew W h None i done tail all ns r x len is gives = record {
  done = done ++ r ∷ [];
  last = [];
  is = is ∙ sym (append_assoc done (r ∷ []) tail) ∙ ap (λ u. u ++ tail) (sym (append-nil (done ++ r ∷ [])));
  holds = refl;
  len = ap length (append-nil (done ++ r ∷ [])) ∙ length-append done (r ∷ []) ∙ ap (λ n. n + 1) len;
  gives = more_done done (r ∷ []) _ _ gives;
}
anew W h (Some q) i done tail all ns r x len is gives = alone W (is_free W h q) q i done tail all ns r (node_again (node r) q x) len is gives

-- one is, and is done
behind : (W : Walk) (p : OpT ℕ) (o : Option (OpT ℕ)) (i : ℕ) (done tail all ns : List (Node ℕ)) (a r : Node ℕ) → node_op (node r) ≡ o → node a ≡ DoN (op_of p) → length done + 1 ≡ i
    → ns ≡ done ++ a ∷ r ∷ tail
    → map node done ++ (DoN (op_of p) ∷ (nodes_anew W (Some p) o (node r) ++ list_sunk W (held_anew W (Some p) o) (listed (map node tail)))) ≡ list_sunk W None (listed (map node all))
    → Sunk W (held_anew W (Some p) o) (i + 1) ns tail all
behind W p o i done tail all ns a r e x len is gives =
    anew W (Some p) o i (done ++ a ∷ []) tail all ns r e (length-append done (a ∷ []) ∙ len) (is ∙ sym (append_assoc done (a ∷ []) (r ∷ tail)))
    (more_done done (a ∷ []) _ _ (ap (λ y. map node done ++ (y ∷ (nodes_anew W (Some p) o (node r) ++ list_sunk W (held_anew W (Some p) o) (listed (map node tail))))) x ∙ gives))

-- one is, and an operation comes
beside : (W : Walk) (b : Bool) (p q : OpT ℕ) (i : ℕ) (done tail all ns ms : List (Node ℕ)) (a r : Node ℕ) → node_op (node r) ≡ Some q → node a ≡ DoN (op_of p) → length done + 1 ≡ i
    → ns ≡ done ++ a ∷ r ∷ tail → ms ≡ cond b (swap ns (i - 1) i) ns
    → map node done ++ (cond b (node r ∷ []) (DoN (op_of p) ∷ cond (is_free W (Some p) q) [] (node r ∷ [])) ++ list_sunk W (cond b (Some p) (held_alone W (Some p) q)) (listed (map node tail))) ≡ list_sunk W None (listed (map node all))
    → Sunk W (cond b (Some p) (held_alone W (Some p) q)) (i + 1) ms tail all
beside W true p q i done tail all ns ms a r o x len is e gives = record {
  done = done ++ r ∷ [];
  last = a ∷ [];
  is = e ∙ ap (λ u. swap u (i - 1) i) is ∙ swap_at done tail a r i len ∙ sym (append_assoc done (r ∷ []) (a ∷ tail)) ∙ sym (append_assoc (done ++ r ∷ []) (a ∷ []) tail);
  holds = ap (λ y. y ∷ []) x;
  len = length-append (done ++ r ∷ []) (a ∷ []) ∙ ap (λ n. n + 1) (length-append done (r ∷ []) ∙ len);
  gives = more_done done (r ∷ []) _ _ gives;
}
beside W false p q i done tail all ns ms a r o x len is e gives = behind W p (Some q) i done tail all ms a r o x len (e ∙ is) gives

after : (W : Walk) (h : Held) (o : Option (OpT ℕ)) (i : ℕ) (done last tail all ns ms : List (Node ℕ)) (r : Node ℕ) → node_op (node r) ≡ o → map node last ≡ held_nodes h → length (done ++ last) ≡ i
    → ns ≡ (done ++ last) ++ r ∷ tail → ms ≡ cond (passes W h o) (swap ns (i - 1) i) ns → Gives W done h o r tail all → Sunk W (held_at W h o) (i + 1) ms tail all
after W None None i done [] tail all ns ms r x holds len is e gives =
    anew W None None i done tail all ms r x (sym (ap length (append-nil done)) ∙ len) (e ∙ is ∙ ap (λ u. u ++ r ∷ tail) (append-nil done)) gives
after W None (Some q) i done [] tail all ns ms r x holds len is e gives =
    anew W None (Some q) i done tail all ms r x (sym (ap length (append-nil done)) ∙ len) (e ∙ is ∙ ap (λ u. u ++ r ∷ tail) (append-nil done)) gives
after W None o i done (a ∷ as') tail all ns ms r x holds len is e gives = cc
after W (Some p) o i done [] tail all ns ms r x holds len is e gives = cc
after W (Some p) None i done (a ∷ []) tail all ns ms r x holds len is e gives =
    behind W p None i done tail all ms a r x (cc) (sym (length-append done (a ∷ [])) ∙ len) (e ∙ is ∙ append_assoc done (a ∷ []) (r ∷ tail)) gives
after W (Some p) (Some q) i done (a ∷ []) tail all ns ms r x holds len is e gives =
    beside W (goes_on W (Some p) q) p q i done tail all ns ms a r x (cc) (sym (length-append done (a ∷ [])) ∙ len) (is ∙ append_assoc done (a ∷ []) (r ∷ tail)) e gives
after W (Some p) o i done (a ∷ b ∷ as') tail all ns ms r x holds len is e gives = cc

-- one node more
pub sunk_more : (W : Walk) (h k : Held) (i : ℕ) (now tail all ns ms : List (Node ℕ)) (x r : Node ℕ) → Sunk W h i now (x ∷ tail) all → ns ≡ set now i r → node r ≡ node_sunk W (node x) → node_op (node r) ≡ node_op (node x)
    → ms ≡ cond (passes W h (node_op (node r))) (swap ns (i - 1) i) ns → k ≡ held_at W h (node_op (node r)) → Sunk W k (i + 1) ms tail all
sunk_more W h k i now tail all ns ms x r s put inside same e kept =
    let is : ns ≡ (s.done ++ s.last) ++ r ∷ tail = put ∙ ap (λ u. set u i r) s.is ∙ set_at (s.done ++ s.last) x tail r i s.len in
    let gives : Gives W s.done h (node_op (node r)) r tail all =
    (λ j. map node s.done ++ (nodes_at W h (same j) (inside j) ++ list_sunk W (held_at W h (same j)) (listed (map node tail)))) ∙ s.gives in
    subst (λ u. Sunk W u (i + 1) ms tail all) (sym kept) (after W h (node_op (node r)) i s.done s.last tail all ns ms r refl s.holds s.len is e gives)

-- where one is held back, there is a node before
pub sunk_before : (W : Walk) (h : Held) (i : ℕ) (p : OpT ℕ) (now rest all : List (Node ℕ)) → Sunk W h i now rest all → h ≡ Some p → 0 < i
sunk_before W h i p now rest all s e = go s.last (s.holds ∙ ap held_nodes e) s.len
  where
    go : (last : List (Node ℕ)) → map node last ≡ held_nodes (Some p) → length (s.done ++ last) ≡ i → 0 < i
    go [] m l = cc
    go (a ∷ as') m l = omega (arith, l, length-append s.done (a ∷ as'))

-- all of them
pub sunk_all : (W : Walk) (h : Held) (i : ℕ) (now all : List (Node ℕ)) → Sunk W h i now [] all → map node now ≡ list_sunk W None (listed (map node all))
sunk_all W h i now all s =
    ap (map node) (s.is ∙ append-nil (s.done ++ s.last)) ∙ map-append node s.done s.last ∙ ap (λ u. map node s.done ++ u) s.holds ∙ s.gives

-- as many as there were, and those that are still to come as they were
pub sunk_len : (W : Walk) (h : Held) (i : ℕ) (now all : List (Node ℕ)) → Sunk W h i now (drop i all) all → i ≤ length all → length now ≡ length all
sunk_len W h i now all s below =
    let whole : length now ≡ length (s.done ++ s.last) + length (drop i all) = ap length s.is ∙ length-append (s.done ++ s.last) (drop i all) in
    omega (arith, whole, s.len, length-drop i all, below)

pub sunk_rest : (W : Walk) (h : Held) (i : ℕ) (now all : List (Node ℕ)) → Sunk W h i now (drop i all) all → (k : ℕ) (d : Node ℕ) → i ≤ k → get_or now k d ≡ get_or all k d
sunk_rest W h i now all s k d le =
    ap (λ u. get_or u k d) s.is ∙ get_or-append_right (s.done ++ s.last) (drop i all) i k d s.len le ∙ get_or-drop i all (k - i) d ∙ ap (λ n. get_or all n d) (omega (arith, le))

-- a turn of the loop
pub sunk_turn : (W : Walk) (h k : Held) (i : ℕ) (now all ns ms : List (Node ℕ)) (x r : Node ℕ) → Sunk W h i now (drop i all) all → i < length all → x ≡ get_or now i x → ns ≡ set now i r
    → node r ≡ node_sunk W (node x) → node_op (node r) ≡ node_op (node x) → ((d : Node ℕ) → ms ≡ cond (passes W h (node_op (node (get_or ns i d)))) (swap ns (i - 1) i) ns)
    → ((d : Node ℕ) → k ≡ held_at W h (node_op (node (get_or ns i d)))) → Sunk W k (i + 1) ms (drop (i + 1) all) all
sunk_turn W h k i now all ns ms x r s below read put inside same e kept =
    let first : drop i all ≡ x ∷ drop (i + 1) all = drop_more all i x below ∙ ap (λ y. y ∷ drop (i + 1) all) (sym (read ∙ sunk_rest W h i now all s i x (omega arith))) in
    let len : i < length now = omega (arith, below, sunk_len W h i now all s (omega (arith, below))) in
    let there : get_or ns i x ≡ r = ap (λ u. get_or u i x) put ∙ get_or-set_same now i r x len in
    sunk_more W h k i now (drop (i + 1) all) all ns ms x r (subst (λ u. Sunk W h i now u all) first s) put inside same
    (e x ∙ ap (λ y. cond (passes W h (node_op (node y))) (swap ns (i - 1) i) ns) there) (kept x ∙ ap (λ y. held_at W h (node_op (node y))) there)
