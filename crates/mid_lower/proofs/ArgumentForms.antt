-- Arguments, structures or not, are evaluated, and calls behind them: mid code follows them.
use Rattle.std.proofs.Common.{◌≡◌, ℕ, suc, ◌+◌, ◌*◌, ◌<◌, ◌≤◌, Bool, true, false, List, [], ◌∷◌, ◌++◌, length, slice_get, Option, Some, None, refl, sym, ap, ◌∙◌, subst, arith, if◌then◌else◌}
use Rattle.std.proofs.lemmas.List.{append-nil}
use Rattle.std.specs.Option.{option_map_or}
use Rattle.c_tree.specs.declared.span.Span.{Span}
use Rattle.c_types.specs.Types.{Ty}
use Rattle.c_types.specs.Typed.{TExprT, Typed, CallK, TExprTs, NoX, MoreX}
use Rattle.c_types.specs.Programs.{TFunctionT}
use Rattle.obj_mem.specs.declared.cell.Cell.{Cell}
use Rattle.obj_mem.specs.declared.cell.Cell.TheVariants.{Ptr}
use Rattle.obj_mem.specs.Worlds.{World, spend}
use Rattle.c_meaning.specs.declared.end.End.{End}
use Rattle.c_meaning.specs.Kinds.{span_of}
use Rattle.c_types.specs.Kinds.{is_structure}
use Rattle.c_meaning.specs.Operators.{converted}
use Rattle.c_meaning.specs.Outcomes.{Val, Vals, Short, Stops, asked, then_values, in_front}
use Rattle.c_meaning.specs.Expressions as src
use Rattle.c_meaning.specs.Expressions.{value_of, evaluated, evaluated_all}
use Rattle.mid_code.specs.Code.{NodesT}
use Rattle.mid_code.specs.Meaning.{Res}
use Rattle.lower_trees.specs.Shape.{Shape, shape_in, words, params_of, result_of}
use Rattle.lower_trees.specs.Flags.{is_flag}
use Rattle.lower_trees.specs.Parts as part
use Rattle.lower_trees.specs.Counts.{one_size, value_sizes, sizes_all}
use Rattle.lower_trees.specs.Expressions as low
use Rattle.lower_trees.specs.Pieces.{coded}
use Rattle.lower_trees.specs.Expressions.{value, second, beyond, spots, low_args}
use Rattle.mid_lower.proofs.Grows.{Mid, Grows}
use Rattle.mid_lower.proofs.Fits.{Site}
use Rattle.mid_lower.proofs.Room.{Room, join_length, room_first, room_second}
use Rattle.mid_lower.proofs.Following.{Side, mk, Goal, goal, Now, Kept, SimV, Way, scratch, spare, above_free, eqb_less, kept_wider, M, M_grows}
use Rattle.mid_lower.proofs.Storing.{converts}
use Rattle.mid_lower.proofs.Values.{Follow, uses}
use Rattle.mid_lower.proofs.OperatorForms.{begin_value}
use Rattle.mid_lower.proofs.StructureValues.{anew}
use Rattle.mid_lower.proofs.Taken.{TakenAll, none_taken, taken_less, taken_here, taken_on, taken_more, taken_room}
use Rattle.mid_lower.proofs.Structures.{structure_goal, SimS, FollowValue}
use Rattle.mid_lower.proofs.StructureUses.{begin_structure, value_then, kept_structure, same_code}
use Rattle.mid_lower.proofs.StructureMembers.{FollowStructure}
use Rattle.mid_lower.proofs.Trees.{IsScalar}
use Rattle.mid_lower.proofs.Arguments.{Holds, with_object, passed, passed_front, front_is}
use Rattle.mid_lower.proofs.Calling.{BodiesFollow}
use Rattle.mid_lower.proofs.CallForms.{called_value, called_structure}

-- what it is for mid code to follow a call: one whose value is a structure, or another
abbrev pub Comes : (structure : Bool) → Goal → (Mid → Res Mid) → (hi : ℕ) → Val → Res Mid → Type 0
Comes true γ k hi r q = SimS γ k hi r q
Comes false γ k hi r q = SimV γ k false r q

comes_stops : (b : Bool) (γ : Goal) (k : Mid → Res Mid) (hi : ℕ) (i : End) (v : World) (q : Res Mid) → Kept γ i v q → Comes b γ k hi (Stops i v) q
comes_stops true γ k hi i v q a = a
comes_stops false γ k hi i v q a = a

module _ (S : Site) where
  abbrev R : NodesT ℕ → Mid → Res Mid
  R = M S

  abbrev R_grows : (c : NodesT ℕ) (t : Mid) → Grows t (R c t)
  R_grows = M_grows S

  abbrev h : Shape
  h = shape_in S.s

  abbrev tick : World → World
  tick w = spend 1 w

  -- Structures that were passed before are taken. The argument comes to n; `later` are those behind it.
  module _ (γ : Goal) (T : Val → Res Mid → Type 0) (stops : (e : End) (v : World) (q : Res Mid) → Kept γ e v q → T (Stops e v) q) (e : TExprT) (ty : Ty) (s n m : ℕ) (ts : List ℕ) (w : World) (x : Side) (c : NodesT ℕ) (h0 : TakenAll γ s m ts w x) (le : γ.first ≤ n) (sn : scratch ≤ n) (room : Room S γ.base m (value_sizes h e)) (later : World → Vals) (go : List Cell → World → Val) where
    abbrev γ1 : Goal
    γ1 = anew γ w x

    abbrev σ : Way γ1
    σ = record { R = Vals; stop = Short; T = λ r q. T (then_values r go) q; stops = λ i v q a. stops i v q (kept_wider γ γ1 (omega arith) i v q a) }

    abbrev hi : ℕ
    hi = m + length (value_sizes h e)

    -- what follows the argument
    abbrev pub AfterArgument : (structure : Bool) → Type 0
    AfterArgument b = (z : Cell) (wa : World) (xa : Side) → TakenAll γ (s + 20) hi (ts ++ with_object b z []) wa xa → xa.temps n ≡ z → ((j : ℕ) → scratch ≤ j → j < n → xa.temps j ≡ x.temps j) → T (then_values (later wa) (λ vs v. go (z ∷ vs) v)) (R c (mk wa xa))

    abbrev next : Cell → World → Vals
    next d v = asked Short (span_of e) v (converted ty d) (λ z. in_front z (later v))

    abbrev code : NodesT ℕ
    code = coded (value h e (low.low h e) n (n + 1) m) (coded (part.converted ty (is_flag e) n) c)

    abbrev Followed : Type 0
    Followed = T (then_values (src.with_value Short S.s S.bound e (evaluated S.s S.bound S.prev e w) next) go) (R code (mk w x))

    start : Now γ1 s w x
    start = taken_here γ s m ts w x h0

    free_room : Room S γ1.base m (value_sizes h e)
    free_room = taken_room S γ s m m ts (value_sizes h e) w x h0 (omega arith) room

    scalar : Follow S e → IsScalar e → AfterArgument false → Followed
    scalar sim ns f =
        uses S γ1 σ s n (n + 1) m w x (coded (part.converted ty (is_flag e) n) c) start (above_free γ1 n le) (omega (arith, le)) sn (omega arith) e ns free_room next sim
        (λ d wa xa flag ha ea below. converts S γ1 σ (span_of e) wa (s + 20) xa ty (is_flag e) n d c (spare γ1 (s + 28) (s + 20 + 8) wa xa (omega arith) ha) (above_free γ1 n le) ea flag (λ z. in_front z (later wa))
        (λ z xb hb eb rest. subst (λ r. T r (R c (mk wa xb))) (sym (front_is z (later wa) go))
        (f z wa xb (still z wa xb hb) eb (λ j a lt. rest j (eqb_less j n lt) ∙ below j a (omega (arith, lt)) (eqb_less j n lt)))))
      where
        still : (z : Cell) (wa : World) (xb : Side) → Now γ1 (s + 20) wa xb → TakenAll γ (s + 20) hi (ts ++ []) wa xb
        still z wa xb hb = subst (λ us. TakenAll γ (s + 20) hi us wa xb) (sym (append-nil ts)) (taken_less γ (s + 20) (s + 20) m hi ts wa xb (omega arith) (omega arith) (taken_on γ s (s + 20) m ts w x wa xb h0 hb))

    structure : FollowValue S e → is_structure ty ≡ true → AfterArgument true → Followed
    structure sim is f =
        value_then γ1 σ s n (n + 1) hi w x (R (coded (part.converted ty (is_flag e) n) c)) start (above_free γ1 n le) (omega (arith, le)) (R_grows (coded (part.converted ty (is_flag e) n) c)) (span_of e) (value_of S.s S.bound e (evaluated S.s S.bound S.prev e w)) (R code (mk w x))
        (sim n (n + 1) m (coded (part.converted ty (is_flag e) n) c) w x sn (omega arith) h0.fit free_room) next
        (λ o j wa xa k at before. subst (λ d. T (then_values (next (Ptr o j) wa) go) (R d (mk wa xa))) (sym (same_code S ty (is_flag e) n c is))
        (subst (λ q. T (then_values (asked Short (span_of e) wa q (λ z. in_front z (later wa))) go) (R c (mk wa xa))) (sym (kept_structure S ty (Ptr o j) is))
        (subst (λ r. T r (R c (mk wa xa))) (sym (front_is (Ptr o j) (later wa) go))
        (f (Ptr o j) wa xa (taken_more γ s (s + 20) m hi ts (o ∷ []) w x wa xa h0 k) at (λ i a lt. before i a (omega (arith, lt)) (eqb_less i n lt))))))

    pub argument_sim : (is_structure ty ≡ false → Follow S e × IsScalar e) → (is_structure ty ≡ true → FollowValue S e) → AfterArgument (is_structure ty) → Followed
    argument_sim plain taken f = by (is_structure ty) refl
      where
        by : (b : Bool) → is_structure ty ≡ b → Followed
        by false is = let k = plain is in scalar k.0 k.1 (subst AfterArgument is f)
        by true is = structure (taken is) is (subst AfterArgument is f)

  -- ---- all arguments, each in its temporary

  -- that mid code follows them, for parameters of these types, with structures that were taken before
  abbrev pub FollowAll : TExprTs → List Ty → Type 0
  FollowAll xs tys =
      (γ : Goal) (b : Bool) (k : NodesT ℕ) (hi s n m : ℕ) (ts : List ℕ) (c : NodesT ℕ) (w : World) (x : Side) → TakenAll γ s m ts w x → γ.first ≤ n → scratch ≤ n → Room S γ.base m (sizes_all h xs) → (go : List Cell → World → Val)
      → ((vs : List Cell) (wa : World) (xa : Side) → TakenAll γ (s + 20 * length vs) (m + length (sizes_all h xs)) (ts ++ passed tys vs) wa xa → Holds (spots xs n) vs xa.temps → ((j : ℕ) → scratch ≤ j → j < n → xa.temps j ≡ x.temps j) → Comes b γ (R k) hi (go vs wa) (R c (mk wa xa)))
      → Comes b γ (R k) hi (then_values (evaluated_all S.s S.bound S.prev tys xs w) go) (R (coded (low_args h tys xs n m) c) (mk w x))

  pub no_arguments : (tys : List Ty) → FollowAll NoX tys
  no_arguments tys γ b k hi s n m ts c w x h0 le sn room go f = f [] w x (subst (λ us. TakenAll γ (s + 20 * 0) (m + 0) us w x) (sym (append-nil ts)) (taken_less γ s (s + 20 * 0) m (m + 0) ts w x (omega arith) (omega arith) h0)) tt (λ j a b. refl)

  pub more_arguments : (e : TExprT) (xs : TExprTs) (ty : Ty) (tys : List Ty) → (is_structure ty ≡ false → Follow S e × IsScalar e) → (is_structure ty ≡ true → FollowValue S e) → FollowAll xs tys → FollowAll (MoreX e xs) (ty ∷ tys)
  more_arguments e xs ty tys plain taken rest γ b k hi s n m ts c w x h0 le sn room go f =
      let n2 : ℕ = second e n in
      let m2 : ℕ = beyond h e m in
      let long = join_length (value_sizes h e) (sizes_all h xs) in
      argument_sim γ (Comes b γ (R k) hi) (comes_stops b γ (R k) hi) e ty s n m ts w x (coded (low_args h tys xs n2 m2) c) h0 le sn (room_first S γ.base m (value_sizes h e) (sizes_all h xs) room) (evaluated_all S.s S.bound S.prev tys xs) go plain taken
      (λ z wb xb hb eb keep. rest γ b k hi (s + 20) n2 m2 (ts ++ with_object (is_structure ty) z []) c wb xb hb (omega (arith, le)) (omega (arith, sn)) (room_second S γ.base m (value_sizes h e) (sizes_all h xs) room) (λ vs v. go (z ∷ vs) v)
      (λ vs wc xc hc holds below. f (z ∷ vs) wc xc
      (subst (λ us. TakenAll γ (s + 20 * suc (length vs)) (m + length (value_sizes h e ++ sizes_all h xs)) us wc xc) (passed_front ts (is_structure ty) z (passed tys vs))
      (taken_less γ (s + 20 + 20 * length vs) (s + 20 * suc (length vs)) (m2 + length (sizes_all h xs)) (m + length (value_sizes h e ++ sizes_all h xs)) ((ts ++ with_object (is_structure ty) z []) ++ passed tys vs) wc xc (omega arith) (omega (arith, long)) hc))
      (below n sn (omega arith) ∙ eb, holds)
      (λ j a lt. below j a (omega (arith, lt)) ∙ keep j a lt)))

  -- ---- calls

  params_are : (o : Option TFunctionT) → src.params_of o ≡ option_map_or (λ g. g.params) o []
  params_are None = refl
  params_are (Some g) = refl

  module _ (bodies : BodiesFollow S) (f : ℕ) (xs : TExprTs) (args : FollowAll xs (params_of h f)) (ty : Ty) (span : Span) where
    -- the code of a call, whose own local is the k-th
    abbrev called : (k t n : ℕ) → NodesT ℕ → NodesT ℕ
    called k t n c = coded (low.called (result_of h f) f k t (spots xs n)) c

    abbrev call : List Cell → World → Val
    call vs v = src.call S.s S.bound S.prev f vs span v

    pub call_value : is_structure (result_of h f) ≡ false → Follow S (Typed (CallK f xs) ty span)
    call_value is t n m c w x st tn u room =
        let γ = goal false t n w x in
        let k : ℕ = m + length (sizes_all h xs) in
        let free = room.free in
        subst (λ tys. SimV γ (R c) false (then_values (evaluated_all S.s S.bound S.prev tys xs (tick w)) call) (R (coded (low_args h (params_of h f) xs n m) (called k t n c)) (mk w x))) (sym (params_are (slice_get S.s.functions f)))
        (args γ false c 0 36 n m [] (called k t n c) (tick w) x (none_taken γ 36 m (tick w) x free (begin_value S t n w x u)) (omega arith) (omega (arith, st, tn)) (room_first S γ.base m (sizes_all h xs) (one_size h (result_of h f)) room) call
        (λ vs wa xa ha holds below. called_value S bodies t n k k w x c f span (spots xs n) vs wa xa is ha holds))

    pub call_structure : is_structure (result_of h f) ≡ true → FollowStructure S (Typed (CallK f xs) ty span)
    call_structure is t n m c w x st tn u room =
        let γ = structure_goal t n w x in
        let k : ℕ = m + length (sizes_all h xs) in
        let free = room.free in
        let one : one_size h (result_of h f) ≡ words h (result_of h f) ∷ [] = ap (λ b. if b then words h (result_of h f) ∷ [] else []) is in
        let length_one : length (one_size h (result_of h f)) ≡ 1 = ap (λ zs. length zs) one in
        let long = join_length (sizes_all h xs) (one_size h (result_of h f)) in
        let place_room = subst (λ zs. Room S γ.base k zs) one (room_second S γ.base m (sizes_all h xs) (one_size h (result_of h f)) room) in
        let hi_is : k + 1 ≡ m + length (sizes_all h xs ++ one_size h (result_of h f)) = omega (arith, long, length_one) in
        subst (λ hi. SimS γ (R c) hi (evaluated S.s S.bound S.prev (Typed (CallK f xs) ty span) w) (R (coded (low_args h (params_of h f) xs n m) (called k t n c)) (mk w x))) hi_is
        (subst (λ tys. SimS γ (R c) (k + 1) (then_values (evaluated_all S.s S.bound S.prev tys xs (tick w)) call) (R (coded (low_args h (params_of h f) xs n m) (called k t n c)) (mk w x))) (sym (params_are (slice_get S.s.functions f)))
        (args γ true c (k + 1) 44 n m [] (called k t n c) (tick w) x (none_taken γ 44 m (tick w) x free (begin_structure S t n w x u)) (omega arith) (omega (arith, st, tn)) (room_first S γ.base m (sizes_all h xs) (one_size h (result_of h f)) room) call
        (λ vs wa xa ha holds below. called_structure S bodies t n k w x c f span xs vs wa xa tn is place_room ha holds)))
