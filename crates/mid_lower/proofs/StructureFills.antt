-- An object, or a part of one, is filled with a structure that is a value.
use Rattle.std.proofs.Common.{◌≡◌, ℕ, ◌+◌, ◌^◌, ◌<◌, ◌≤◌, Bool, true, [], ◌∷◌, length, Some, refl, sym, ◌∙◌, subst, arith, if◌then◌else◌}
use Rattle.c_types.specs.Types.{Ty}
use Rattle.c_types.specs.Typed.{TExprT, OneI}
use Rattle.c_types.specs.Sizes.{words_of}
use Rattle.obj_mem.specs.declared.cell.Cell.TheVariants.{Ptr}
use Rattle.obj_mem.specs.Stores.{with_objects}
use Rattle.obj_mem.specs.Queries.{write}
use Rattle.obj_mem.specs.Worlds.{World, on_store, spend}
use Rattle.c_meaning.specs.Kinds.{span_of}
use Rattle.c_types.specs.Kinds.{is_structure}
use Rattle.c_meaning.specs.Outcomes.{Went, Through, CutOff, nowhere, asked, then_went}
use Rattle.c_meaning.specs.Cells.{cells_set, stored, released, end_temporary}
use Rattle.c_meaning.specs.Operators.{converted}
use Rattle.c_meaning.specs.Expressions.{value_of, evaluated}
use Rattle.c_meaning.specs.Initialisers.{filled}
use Rattle.mid_code.specs.Code.{NodesT}
use Rattle.mid_code.specs.Meaning.{Res}
use Rattle.lower_trees.specs.Pieces.{coded}
use Rattle.lower_trees.specs.Shape.{Shape, shape_in, words}
use Rattle.lower_trees.specs.Flags.{is_flag}
use Rattle.lower_trees.specs.Parts as part
use Rattle.lower_trees.specs.Initialisers as low
use Rattle.lower_trees.specs.Counts.{value_sizes}
use Rattle.mid_lower.proofs.Grows.{Mid, Grows}
use Rattle.mid_lower.proofs.Words.{in_words}
use Rattle.mid_lower.proofs.Fits.{Site}
use Rattle.mid_lower.proofs.Following.{Side, mk, Goal, Now, Way, spare, low_free, eqb_more, kept_wider, M, M_grows}
use Rattle.mid_lower.proofs.Room.{Room, room_at}
use Rattle.mid_lower.proofs.Calling.{BodiesFollow}
use Rattle.mid_lower.proofs.CellLoops.{copies_on}
use Rattle.mid_lower.proofs.FillParts.{went_went, way_went, part_of, at_part, worked, Goes}
use Rattle.mid_lower.proofs.StructureValues.{anew, back_to}
use Rattle.mid_lower.proofs.Taken.{Taken, taken_here, taken_on, taken_left}
use Rattle.mid_lower.proofs.Structures.{FollowValue}
use Rattle.mid_lower.proofs.StructureUses.{value_then, kept_structure, same_code}

module _ (S : Site) (bodies : BodiesFollow S) (γ : Goal) (skips : 2 ≤ γ.skip) where
  abbrev R : NodesT ℕ → Mid → Res Mid
  R = M S

  abbrev R_grows : (c : NodesT ℕ) (t : Mid) → Grows t (R c t)
  R_grows = M_grows S

  abbrev h : Shape
  h = shape_in S.s

  -- the value in `item` is copied to the part and ends
  structure_filled : (ty : Ty) (known : Bool) (σ : Way γ) (s0 o p offset n hi q j : ℕ) (w : World) (x : Side) (wa : World) (xa : Side) (c : NodesT ℕ) → is_structure ty ≡ true → Taken γ (s0 + 84) hi q wa xa → xa.temps part.item ≡ Ptr q j → ((k : ℕ) → 7 ≤ k → k < n → xa.temps k ≡ x.temps k) → 7 ≤ p → p < n → x.temps p ≡ Ptr o 0 → (go : World → σ.R) → Goes S bodies γ skips σ s0 n x c go
      → σ.T (then_went σ.stop (asked CutOff nowhere wa (converted ty (Ptr q j)) (λ z. then_went CutOff (stored S.s S.bound 1 ty nowhere (part_of o offset) z wa) (λ v. Through (on_store (released ty z) v)))) go) (R (coded (part.converted ty known part.item) (coded (low.part_filled h ty p offset) c)) (mk wa xa))
  structure_filled ty known σ s0 o p offset n hi q j w x wa xa c structure hx at below le lt ep go f =
      let size : ℕ = words h ty in
      let few : size < 2 ^ 32 = in_words (words_of h.layouts ty) in
      let γ1 : Goal = anew γ wa xa in
      let σ1 : Way γ1 = record { R = σ.R; stop = σ.stop; T = σ.T; stops = λ i u m k. σ.stops i u m (kept_wider γ γ1 (omega arith) i u m k) } in
      let after : World → σ.R = λ v. go (on_store (end_temporary (Ptr q j)) v) in
      let loop : Went = cells_set nowhere (1 + 1) S.bound size (Some (Ptr q j)) (part_of o offset) wa in
      let r : σ.R = then_went σ.stop loop after in
      subst (λ d. σ.T (then_went σ.stop (asked CutOff nowhere wa (converted ty (Ptr q j)) (λ z. then_went CutOff (stored S.s S.bound 1 ty nowhere (part_of o offset) z wa) (λ v. Through (on_store (released ty z) v)))) go) (R d (mk wa xa))) (sym (same_code S ty known part.item (coded (low.part_filled h ty p offset) c) structure))
      (subst (λ i. σ.T (then_went σ.stop (asked CutOff nowhere wa i (λ z. then_went CutOff (stored S.s S.bound 1 ty nowhere (part_of o offset) z wa) (λ v. Through (on_store (released ty z) v)))) go) (R (coded (low.part_filled h ty p offset) c) (mk wa xa))) (sym (kept_structure S ty (Ptr q j) structure))
      (subst (λ b. σ.T (then_went σ.stop (then_went CutOff (if b then cells_set nowhere (1 + 1) S.bound size (Some (Ptr q j)) (part_of o offset) wa else asked CutOff nowhere (spend 1 wa) (write wa.store.objects (part_of o offset) (Ptr q j)) (λ os. Through (on_store (with_objects os) (spend 1 wa)))) (λ v. Through (on_store (λ t. if b then end_temporary (Ptr q j) t else t) v))) go) (R (if b then coded (low.part_at p offset) (coded (part.copied_on size part.item) c) else coded (low.cell_filled p offset) c) (mk wa xa))) (sym structure)
      (subst (λ d. σ.T d (R (coded (low.part_at p offset) (coded (part.copied_on size part.item) c)) (mk wa xa))) (sym (went_went σ.stop loop (λ v. Through (on_store (end_temporary (Ptr q j)) v)) go))
      (at_part S bodies γ1 skips σ.T (s0 + 68) o p offset wa xa (coded (part.copied_on size part.item) c) (spare γ1 (s0 + 84) (s0 + 68 + 16) wa xa (omega arith) (taken_here γ (s0 + 84) hi (q ∷ []) wa xa hx)) le (below p le lt ∙ ep) r (λ z hz ez rest.
      copies_on S γ1 nowhere 2 (omega arith) σ1 (s0 + 44) size (omega (arith, few)) part.item (Ptr q j) (part_of o offset) wa z c (spare γ1 (s0 + 68) (s0 + 44 + 24) wa z (omega arith) hz) (omega arith) (rest part.item refl ∙ at) ez after (λ v u hu others.
      f (on_store (end_temporary (Ptr q j)) v) (back_to γ.base.floor u)
      (spare γ (s0 + 44 + 16) s0 (on_store (end_temporary (Ptr q j)) v) (back_to γ.base.floor u) (omega arith) (taken_left γ (s0 + 44 + 16) hi q j v u (taken_on γ (s0 + 84) (s0 + 44 + 16) hi (q ∷ []) wa xa v u hx hu)))
      (λ k g l. others k (omega (arith, g)) ∙ rest k (eqb_more k part.to (omega (arith, g))) ∙ below k g l)))))))

  pub one_structure : (e : TExprT) (ty : Ty) → FollowValue S e → is_structure ty ≡ true → (σ : Way γ) (s0 o p offset n m : ℕ) (w : World) (x : Side) (c : NodesT ℕ) → Now γ s0 w x → 7 ≤ p → p < n → γ.first ≤ n → Room S γ.base m (value_sizes h e) → x.temps p ≡ Ptr o 0 → (go : World → σ.R) → Goes S bodies γ skips σ s0 n x c go
      → σ.T (then_went σ.stop (filled S.s S.bound S.prev (OneI e) ty (part_of o offset) w) go) (R (coded (low.low_init h (OneI e) ty p offset n m) c) (mk w x))
  one_structure e ty sim structure σ s0 o p offset n m w x c hn le lt first room ep go f =
      let cc : NodesT ℕ = coded (part.converted ty (is_flag e) part.item) (coded (low.part_filled h ty p offset) c) in
      let hi : ℕ = m + length (value_sizes h e) in
      let hw = worked S bodies γ skips s0 w x hn in
      value_then γ (way_went γ σ go) (s0 + 64) part.item n hi (spend 1 w) x (R cc) hw (low_free γ part.item (omega (arith, skips))) first (R_grows cc) (span_of e) (value_of S.s S.bound e (evaluated S.s S.bound S.prev e (spend 1 w))) (R (coded (low.low_init h (OneI e) ty p offset n m) c) (mk w x))
      (sim part.item n m cc (spend 1 w) x (omega arith) (omega (arith, le, lt)) hw.stays.fit (room_at S γ.base m (value_sizes h e) (spend 1 w) x room hw.stays))
      (λ d u. asked CutOff nowhere u (converted ty d) (λ z. then_went CutOff (stored S.s S.bound 1 ty nowhere (part_of o offset) z u) (λ v. Through (on_store (released ty z) v))))
      (λ q j wa xa hx at below. structure_filled ty (is_flag e) σ s0 o p offset n hi q j w x wa xa c structure (as_84 hi q wa xa hx) at (λ k g l. below k (omega (arith, g)) l (eqb_more k part.item (omega (arith, g)))) le lt ep go f)
    where
      as_84 : (hi q : ℕ) (wa : World) (xa : Side) → Taken γ (s0 + 64 + 20) hi q wa xa → Taken γ (s0 + 84) hi q wa xa
      as_84 hi q wa xa k = record { fit = k.fit; same_function = k.same_function; same_own = k.same_own; later = k.later; over = k.over; most = k.most; long = k.long; keep = k.keep; there = k.there; mine = k.mine; below = k.below; cost = omega (arith, k.cost) }
