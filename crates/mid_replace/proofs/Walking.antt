-- One node after another.
use Rattle.std.proofs.Common.{◌≡◌, ℕ, suc, ◌+◌, ◌<◌, add-one, length, get_or, drop, drop-cons, Bool, true, false, ◌&&◌, cond, List, [], ◌∷◌, ◌++◌, map, Option, Some, None, refl, sym, ap, ◌∙◌}
use Rattle.mid_code.specs.declared.node.Op.{Op}
use Rattle.mid_code.specs.declared.node.Node.{Node}
use Rattle.mid_code.specs.Functions.{node, NodeT, DoN, ChooseN, BlockN, LoopN, LeaveN, AgainN, ReturnN, ListT, MoreN, listed}
use Rattle.mid_replace.specs.inner.Facts.{Plain, Note, Plan, fact_at}
use Rattle.mid_replace.specs.inner.Replaced.{turn_of, may_stand, may_be_made, some_node, noted, noted_maybe, is_plain, is_maybe_plain, asks_by, if_some, when, prepended, loop_by, replaced, node_replaced}
use Rattle.mid_replace.specs.inner.Loops.{asking}
use Rattle.mid_replace.specs.inner.Onto.{Onto, onto, op_onto, asking_onto, loop_onto, node_onto}
use Rattle.mid_replace.proofs.Asks.{asks_shape}

-- an operation that may stand there
pub op_done : (X : Plan) (out : List (NodeT ℕ)) (ns : List Note) (o : Op ℕ) (out' : List (NodeT ℕ)) (ns' : List Note)
    → (turn_of X (fact_at (X.base) ns) o).fine ≡ true → may_be_made X (turn_of X (fact_at (X.base) ns) o).made ≡ true
    → out' ≡ out ++ some_node (turn_of X (fact_at (X.base) ns) o).stands → ns' ≡ noted_maybe (turn_of X (fact_at (X.base) ns) o).made ns
    → Some (onto out' ns') ≡ op_onto X out ns o
op_done X out ns o out' ns' f m e g =
    let u = turn_of X (fact_at (X.base) ns) o in
    (λ i. Some (onto (e i) (g i))) ∙ (λ i. when (sym f i && sym m i) (Some (onto (out ++ some_node u.stands) (noted_maybe u.made ns))))

-- a loop that only asks
pub asks_done : (X : Plan) (out : List (NodeT ℕ)) (ns : List Note) (b : ListT ℕ) (t : ℕ) (r : Option Onto)
    → asks_by b ≡ Some t → r ≡ asking_onto X out ns (asking t) t → r ≡ node_onto X out ns (LoopN b)
asks_done X out ns b t r e f = f ∙ ap (λ c. asking_onto X out ns c t) (sym (asks_shape b t e)) ∙ ap (loop_onto X out ns b) (sym e)

-- ---- what comes behind

abbrev behind : Option Onto → (List Note → Option (List (NodeT ℕ))) → Option (List (NodeT ℕ))
behind r go = if_some r (λ s. prepended s.out (go s.notes))

joined_lists : (a b c : List (NodeT ℕ)) → a ++ (b ++ c) ≡ (a ++ b) ++ c
joined_lists [] b c = refl
joined_lists (x ∷ a) b c = ap (λ r. x ∷ r) (joined_lists a b c)

pre_pre : (a b : List (NodeT ℕ)) (r : Option (List (NodeT ℕ))) → prepended a (prepended b r) ≡ prepended (a ++ b) r
pre_pre a b None = refl
pre_pre a b (Some c) = ap Some (joined_lists a b c)

pre_nil : (r : Option (List (NodeT ℕ))) → r ≡ prepended [] r
pre_nil None = refl
pre_nil (Some c) = refl

when_behind : (b : Bool) (out add : List (NodeT ℕ)) (ms : List Note) (go : List Note → Option (List (NodeT ℕ)))
    → prepended out (when b (prepended add (go ms))) ≡ behind (when b (Some (onto (out ++ add) ms))) go
when_behind true out add ms go = pre_pre out add (go ms)
when_behind false out add ms go = refl

some_behind : (r : Option (List (NodeT ℕ))) (out : List (NodeT ℕ)) (add : List (NodeT ℕ) → List (NodeT ℕ)) (go : List Note → Option (List (NodeT ℕ)))
    → prepended out (if_some r (λ c. prepended (add c) (go []))) ≡ behind (if_some r (λ c. Some (onto (out ++ add c) []))) go
some_behind None out add go = refl
some_behind (Some c) out add go = pre_pre out (add c) (go [])

two_behind : (q : Bool) (r s : Option (List (NodeT ℕ))) (out : List (NodeT ℕ)) (add : (c d : List (NodeT ℕ)) → List (NodeT ℕ)) (go : List Note → Option (List (NodeT ℕ)))
    → prepended out (when q (if_some r (λ c. if_some s (λ d. prepended (add c d) (go [])))))
    ≡ behind (when q (if_some r (λ c. if_some s (λ d. Some (onto (out ++ add c d) []))))) go
two_behind false r s out add go = refl
two_behind true None s out add go = refl
two_behind true (Some c) None out add go = refl
two_behind true (Some c) (Some d) out add go = pre_pre out (add c d) (go [])

module _ (X : Plan) (out : List (NodeT ℕ)) (ns : List Note) (go : List Note → Option (List (NodeT ℕ))) where
  loop_behind : (b : ListT ℕ) (asks : Option ℕ) → prepended out (loop_by (fact_at (X.base) ns) ns b asks (replaced X [] b) go) ≡ behind (loop_onto X out ns b asks) go
  loop_behind b None = some_behind (replaced X [] b) out (λ c. LoopN (listed c) ∷ []) go
  loop_behind b (Some t) = when_behind (is_plain (fact_at (X.base) ns t)) out (LoopN b ∷ []) (noted t Plain ns) go

  node_behind : (x : NodeT ℕ) → prepended out (node_replaced X ns x go) ≡ behind (node_onto X out ns x) go
  node_behind (DoN o) = let u = turn_of X (fact_at (X.base) ns) o in when_behind (may_stand X u) out (some_node u.stands) (noted_maybe u.made ns) go
  node_behind (ChooseN p a b) =
      two_behind (is_plain (fact_at (X.base) ns p)) (replaced X [] a) (replaced X [] b) out (λ c d. ChooseN p (listed c) (listed d) ∷ []) go
  node_behind (BlockN b) = some_behind (replaced X [] b) out (λ c. BlockN (listed c) ∷ []) go
  node_behind (LoopN b) = loop_behind b (asks_by b)
  node_behind (LeaveN k) = pre_pre out (LeaveN k ∷ []) (go [])
  node_behind (AgainN k) = pre_pre out (AgainN k ∷ []) (go [])
  node_behind (ReturnN p) = when_behind (is_maybe_plain (fact_at (X.base) ns) p) out (ReturnN p ∷ []) [] go

-- a turn of the loop over a list
pub goes_on : (X : Plan) (out : List (NodeT ℕ)) (ns : List Note) (x : NodeT ℕ) (rest : ListT ℕ) (out' : List (NodeT ℕ)) (ns' : List Note)
    → Some (onto out' ns') ≡ node_onto X out ns x → prepended out' (replaced X ns' rest) ≡ prepended out (replaced X ns (MoreN x rest))
goes_on X out ns x rest out' ns' e =
    let go : List Note → Option (List (NodeT ℕ)) = λ ms. replaced X ms rest in ap (λ r. behind r go) e ∙ sym (node_behind X out ns go x)

pub stops : (X : Plan) (out : List (NodeT ℕ)) (ns : List Note) (x : NodeT ℕ) (rest : ListT ℕ)
    → None ≡ node_onto X out ns x → None ≡ prepended out (replaced X ns (MoreN x rest))
stops X out ns x rest e = let go : List Note → Option (List (NodeT ℕ)) = λ ms. replaced X ms rest in ap (λ r. behind r go) e ∙ sym (node_behind X out ns go x)

-- ---- over a slice

pub drop_one : (ns : List (Node ℕ)) (i : ℕ) (n : Node ℕ) → i < length ns → n ≡ get_or ns i n
    → listed (map node (drop i ns)) ≡ MoreN (node n) (listed (map node (drop (i + 1) ns)))
drop_one ns i n l e =
    ap (λ ms. listed (map node ms)) (drop-cons ns i n l) ∙ ap (λ m. MoreN (node m) (listed (map node (drop (suc i) ns)))) (sym e)
    ∙ ap (λ k. MoreN (node n) (listed (map node (drop k ns)))) (sym (add-one i))

pub slice_goes_on : (X : Plan) (out out' : List (NodeT ℕ)) (ms ms' : List Note) (ns : List (Node ℕ)) (i : ℕ) (n : Node ℕ) (b : Bool)
    (r : Option (List (NodeT ℕ))) → i < length ns → n ≡ get_or ns i n → cond b (Some (onto out' ms')) None ≡ node_onto X out ms (node n) → b ≡ true
    → prepended out (replaced X ms (listed (map node (drop i ns)))) ≡ r
    → prepended out' (replaced X ms' (listed (map node (drop (i + 1) ns)))) ≡ r
slice_goes_on X out out' ms ms' ns i n b r l e f t k =
    goes_on X out ms (node n) (listed (map node (drop (i + 1) ns))) out' ms' (ap (λ c. cond c (Some (onto out' ms')) None) (sym t) ∙ f)
    ∙ ap (λ z. prepended out (replaced X ms z)) (sym (drop_one ns i n l e)) ∙ k

pub slice_stops : (X : Plan) (out out' : List (NodeT ℕ)) (ms ms' : List Note) (ns : List (Node ℕ)) (i : ℕ) (n : Node ℕ) (b : Bool)
    (r : Option (List (NodeT ℕ))) → i < length ns → n ≡ get_or ns i n → cond b (Some (onto out' ms')) None ≡ node_onto X out ms (node n) → b ≡ false
    → prepended out (replaced X ms (listed (map node (drop i ns)))) ≡ r → None ≡ r
slice_stops X out out' ms ms' ns i n b r l e f t k =
    stops X out ms (node n) (listed (map node (drop (i + 1) ns))) (ap (λ c. cond c (Some (onto out' ms')) None) (sym t) ∙ f)
    ∙ ap (λ z. prepended out (replaced X ms z)) (sym (drop_one ns i n l e)) ∙ k
