-- Initialisers: mid code follows them. A pointer to the object stands in p, and the part begins so many words behind it.
use Rattle.std.proofs.Common.{◌≡◌, ℕ, ◌+◌, ◌-◌, ◌%◌, ◌^◌, ◌<◌, ◌≤◌, Bool, true, false, List, [], ◌∷◌, ◌++◌, length, Option, Some, None, Ok, Err, refl, sym, ap, ◌∙◌, subst, arith, if◌then◌else◌}
use Rattle.c_types.specs.Types.{Ty}
use Rattle.c_types.specs.Sizes.{words_of}
use Rattle.c_types.specs.Typed.{TExprT, TInitT, OneI, TextI, ListI, TInitTs, NoI, MoreI, TVarT}
use Rattle.obj_mem.specs.declared.cell.Cell.{Cell}
use Rattle.obj_mem.specs.declared.cell.Cell.TheVariants.{Ptr}
use Rattle.obj_mem.specs.declared.refusal.Refusal.TheVariants.{Strays, Faults}
use Rattle.obj_mem.specs.Stores.{with_objects, local_object}
use Rattle.obj_mem.specs.Worlds.{World, on_store, spend}
use Rattle.obj_mem.specs.Queries.{Answer, write, further, first_cell}
use Rattle.c_meaning.specs.declared.end.End.{End}
use Rattle.c_meaning.specs.declared.end.End.TheVariants.{Stray}
use Rattle.c_meaning.specs.Outcomes.{Went, Through, CutOff, nowhere, asked, then_went}
use Rattle.c_meaning.specs.Setting.{literal_at}
use Rattle.c_types.specs.Parts.{part_type}
use Rattle.c_meaning.specs.Operators.{converted}
use Rattle.c_meaning.specs.Cells.{cells_set, stored, released, end_temporary}
use Rattle.c_meaning.specs.Initialisers.{filled, all_filled, object_of, variable_filled, variables_filled}
use Rattle.mid_code.specs.Code.{GlobalO, LocalO, LiteralO, NodesT}
use Rattle.mid_code.specs.Meaning.{Res}
use Rattle.mid_code.specs.States.{temporaries, to, spent}
use Rattle.lower_trees.specs.Pieces.{coded}
use Rattle.lower_trees.specs.Shape.{Shape, shape_in, words, literal_words}
use Rattle.lower_trees.specs.Flags.{is_flag}
use Rattle.lower_trees.specs.Parts as part
use Rattle.lower_trees.specs.Counts.{init_temps, init_sizes, behind_address, inits_sizes, vars_sizes}
use Rattle.lower_trees.specs.Initialisers as low
use Rattle.mid_lower.proofs.Grows.{Mid, Grows}
use Rattle.mid_lower.proofs.Under.{Alike}
use Rattle.mid_lower.proofs.Words.{in_words}
use Rattle.mid_lower.proofs.Trees.{Plain, IsScalar, Fills, FillAll, FillVars}
use Rattle.mid_lower.proofs.Fits.{Site}
use Rattle.mid_lower.proofs.Room.{Room, room_first, room_second}
use Rattle.mid_lower.proofs.Following.{Side, mk, Goal, Now, Way, Free, Rest, spare, low_free, above_free, eqb_more, M, M_grows, sets}
use Rattle.mid_lower.proofs.Storing.{converts, went_asked}
use Rattle.mid_lower.proofs.Values.{local_front, uses}
use Rattle.mid_lower.proofs.Calling.{BodiesFollow}
use Rattle.mid_lower.proofs.EveryExpression.{expr_sim}
use Rattle.mid_lower.proofs.CellLoops.{copies}
use Rattle.c_types.specs.Kinds.{is_structure}
use Rattle.mid_lower.proofs.FillParts.{went_went, way_went, part_of, part_further, worked, at_part, cell_sim, zeros_sim, rest_sim, Goes}
use Rattle.mid_lower.proofs.StructureFills.{one_structure}
use Rattle.mid_lower.proofs.EveryExpression.{value_sim}

module _ (S : Site) (bodies : BodiesFollow S) (γ : Goal) (skips : 2 ≤ γ.skip) where
  abbrev R : NodesT ℕ → Mid → Res Mid
  R = M S

  abbrev R_grows : (c : NodesT ℕ) (t : Mid) → Grows t (R c t)
  R_grows = M_grows S

  abbrev h : Shape
  h = shape_in S.s

  one_sim : (e : TExprT) (ty : Ty) → Plain h e × IsScalar e × (is_structure ty ≡ false) → (σ : Way γ) (s0 o p offset n m : ℕ) (w : World) (x : Side) (c : NodesT ℕ) → Now γ s0 w x → 7 ≤ p → p < n → γ.first ≤ n → Room S γ.base m (init_sizes h (OneI e)) → x.temps p ≡ Ptr o 0 → (go : World → σ.R) → Goes S bodies γ skips σ s0 n x c go
      → σ.T (then_went σ.stop (filled S.s S.bound S.prev (OneI e) ty (part_of o offset) w) go) (R (coded (low.low_init h (OneI e) ty p offset n m) c) (mk w x))
  one_sim e ty fs σ s0 o p offset n m w x c hn le lt first room ep go f =
      let σ' = way_went γ σ go in
      let c1 : NodesT ℕ = coded (low.part_filled h ty p offset) c in
      uses S γ σ' (s0 + 64) part.item n m (spend 1 w) x (coded (part.converted ty (is_flag e) part.item) c1) (worked S bodies γ skips s0 w x hn) (low_free γ part.item (omega (arith, skips))) first (omega arith) (omega (arith, le, lt)) e fs.1 room
      (λ d u. asked CutOff nowhere u (converted ty d) (λ z. then_went CutOff (stored S.s S.bound 1 ty nowhere (part_of o offset) z u) (λ v. Through (on_store (released ty z) v)))) (expr_sim S bodies e fs.0)
      (λ d wa xa flag ha at below. converts S γ σ' nowhere wa (s0 + 84) xa ty (is_flag e) part.item d c1 (spare γ (s0 + 64 + 28) (s0 + 84 + 8) wa xa (omega arith) ha) (low_free γ part.item (omega (arith, skips))) at flag (λ z. then_went CutOff (stored S.s S.bound 1 ty nowhere (part_of o offset) z wa) (λ v. Through (on_store (released ty z) v)))
      (λ z xb hb eb rest.
      subst (λ q. σ.T (then_went σ.stop (then_went CutOff (if q then cells_set nowhere (1 + 1) S.bound (words h ty) (Some z) (part_of o offset) wa else asked CutOff nowhere (spend 1 wa) (write wa.store.objects (part_of o offset) z) (λ os. Through (on_store (with_objects os) (spend 1 wa)))) (λ v. Through (on_store (λ t. if q then end_temporary z t else t) v))) go) (R (if q then coded (low.part_at p offset) (coded (part.copied_on (words h ty) part.item) c) else coded (low.cell_filled p offset) c) (mk wa xb))) (sym fs.2)
      (subst (λ d2. σ.T d2 (R (coded (low.cell_filled p offset) c) (mk wa xb))) (sym (went_went σ.stop (asked CutOff nowhere (spend 1 wa) (write wa.store.objects (part_of o offset) z) (λ os. Through (on_store (with_objects os) (spend 1 wa)))) (λ v. Through v) go ∙ went_asked σ.stop nowhere (spend 1 wa) (write wa.store.objects (part_of o offset) z) (λ os. on_store (with_objects os) (spend 1 wa)) go))
      (cell_sim S bodies γ skips σ s0 o p offset (spend 1 wa) xb z c (spare γ (s0 + 84 + 64) (s0 + 24) (spend 1 wa) xb (omega arith) (worked S bodies γ skips (s0 + 84) wa xb hb)) le (rest p (eqb_more p part.item (omega (arith, le))) ∙ below p (omega (arith, le)) lt (eqb_more p part.item (omega (arith, le))) ∙ ep) eb go
      (λ os y hy alike. f (on_store (with_objects os) (spend 1 wa)) y hy (λ j g l. alike j (omega (arith, g)) ∙ rest j (eqb_more j part.item (omega (arith, g))) ∙ below j (omega (arith, g)) l (eqb_more j part.item (omega (arith, g)))))))))

  either_sim : (e : TExprT) (ty : Ty) → Fills h (OneI e) ty → (b : Bool) → is_structure ty ≡ b → (σ : Way γ) (s0 o p offset n m : ℕ) (w : World) (x : Side) (c : NodesT ℕ) → Now γ s0 w x → 7 ≤ p → p < n → γ.first ≤ n → Room S γ.base m (init_sizes h (OneI e)) → x.temps p ≡ Ptr o 0 → (go : World → σ.R) → Goes S bodies γ skips σ s0 n x c go
      → σ.T (then_went σ.stop (filled S.s S.bound S.prev (OneI e) ty (part_of o offset) w) go) (R (coded (low.low_init h (OneI e) ty p offset n m) c) (mk w x))
  either_sim e ty fs true structure σ s0 o p offset n m w x c hn le lt first room ep go f = one_structure S bodies γ skips e ty (value_sim S bodies e (fs.1 structure).0 (fs.1 structure).1) structure σ s0 o p offset n m w x c hn le lt first room ep go f
  either_sim e ty fs false scalar σ s0 o p offset n m w x c hn le lt first room ep go f = one_sim e ty ((fs.0 scalar).0, (fs.0 scalar).1, scalar) σ s0 o p offset n m w x c hn le lt first room ep go f

  text_sim : (number : ℕ) (ty : Ty) → Fills h (TextI number) ty → (σ : Way γ) (s0 o p offset n m : ℕ) (w : World) (x : Side) (c : NodesT ℕ) → Now γ s0 w x → 7 ≤ p → x.temps p ≡ Ptr o 0 → (go : World → σ.R) → Goes S bodies γ skips σ s0 n x c go
      → σ.T (then_went σ.stop (filled S.s S.bound S.prev (TextI number) ty (part_of o offset) w) go) (R (coded (low.low_init h (TextI number) ty p offset n m) c) (mk w x))
  text_sim number ty fits σ s0 o p offset n m w x c hn le ep go f =
      let w1 : World = spend 1 w in
      let size : ℕ = literal_words h number in
      let more : NodesT ℕ = coded (low.part_zeroed p ((offset + size) % 2 ^ 32) (words h ty - size)) c in
      let rest_of : World → Went = λ v. cells_set nowhere 1 S.bound (words h ty - size) None (further (part_of o offset) size) v in
      let r : σ.R = then_went σ.stop (filled S.s S.bound S.prev (TextI number) ty (part_of o offset) w) go in
      sets S σ.T γ (s0 + 56) w1 x part.from (literal_at S.s number) (LiteralO part.from number) (coded (low.part_at p offset) (coded (part.copied size) more)) (spare γ (s0 + 64) (s0 + 56 + 8) w1 x (omega arith) (worked S bodies γ skips s0 w x hn)) (low_free γ part.from (omega arith)) (ap (λ k. to temporaries part.from (Ok (Ptr (k + number) 0)) (spent 8 (mk w1 x))) S.fits.first_literal) r (λ y hy at rest.
      at_part S bodies γ skips σ.T (s0 + 40) o p offset w1 y (coded (part.copied size) more) (spare γ (s0 + 56) (s0 + 40 + 16) w1 y (omega arith) hy) le (rest p (eqb_more p part.from (omega (arith, le))) ∙ ep) r (λ z hz at2 rest2.
      subst (λ d. σ.T d (R (coded (part.copied size) more) (mk w1 z))) (sym (went_went σ.stop (cells_set nowhere 1 S.bound size (Some (literal_at S.s number)) (part_of o offset) w1) rest_of go))
      (copies S γ nowhere 1 (omega arith) σ (s0 + 24) size fits (literal_at S.s number) (part_of o offset) w1 z more (spare γ (s0 + 40) (s0 + 24 + 16) w1 z (omega arith) hz) (rest2 part.from refl ∙ at) at2 (λ v. then_went σ.stop (rest_of v) go) (λ v u hu others.
      subst (λ q. σ.T (then_went σ.stop (cells_set nowhere 1 S.bound (words h ty - size) None q v) go) (R more (mk v u))) (sym (part_further o offset size))
      (zeros_sim S bodies γ skips σ s0 (words h ty - size) o p ((offset + size) % 2 ^ 32) (let lt : words h ty < 2 ^ 32 = in_words (words_of h.layouts ty) in omega (arith, lt)) v u c (spare γ (s0 + 24 + 16) (s0 + 40) v u (omega arith) hu) le (others p (omega (arith, le)) ∙ rest2 p (eqb_more p part.to (omega (arith, le))) ∙ rest p (eqb_more p part.from (omega (arith, le))) ∙ ep) go
      (λ v2 e he alike. f v2 e he (λ j g l. alike j (omega (arith, g)) ∙ others j (omega (arith, g)) ∙ rest2 j (eqb_more j part.to (omega (arith, g))) ∙ rest j (eqb_more j part.from (omega (arith, g))))))))))

  mutual
    pub fills_sim : (i : TInitT) (ty : Ty) → Fills h i ty → (σ : Way γ) (s0 o p offset n m : ℕ) (w : World) (x : Side) (c : NodesT ℕ) → Now γ s0 w x → 7 ≤ p → p < n → γ.first ≤ n → Room S γ.base m (init_sizes h i) → x.temps p ≡ Ptr o 0 → (go : World → σ.R) → Goes S bodies γ skips σ s0 n x c go
        → σ.T (then_went σ.stop (filled S.s S.bound S.prev i ty (part_of o offset) w) go) (R (coded (low.low_init h i ty p offset n m) c) (mk w x))
    fills_sim (OneI e) ty fs σ s0 o p offset n m w x c hn le lt first room ep go f = either_sim e ty fs (is_structure ty) refl σ s0 o p offset n m w x c hn le lt first room ep go f
    fills_sim (TextI number) ty fs σ s0 o p offset n m w x c hn le lt first room ep go f = text_sim number ty fs σ s0 o p offset n m w x c hn le ep go f
    fills_sim (ListI items) ty fs σ s0 o p offset n m w x c hn le lt first room ep go f =
        all_fill_sim items ty 0 fs σ s0 o p offset n m (spend 1 w) x c (spare γ (s0 + 64) (s0 + 40) (spend 1 w) x (omega arith) (worked S bodies γ skips s0 w x hn)) le lt first room ep go f

    all_fill_sim : (items : TInitTs) (ty : Ty) (k : ℕ) → FillAll h items ty k → (σ : Way γ) (s0 o p offset n m : ℕ) (w : World) (x : Side) (c : NodesT ℕ) → Now γ (s0 + 40) w x → 7 ≤ p → p < n → γ.first ≤ n → Room S γ.base m (inits_sizes h items) → x.temps p ≡ Ptr o 0 → (go : World → σ.R) → Goes S bodies γ skips σ s0 n x c go
        → σ.T (then_went σ.stop (all_filled S.s S.bound S.prev items ty k (part_of o offset) w) go) (R (coded (low.low_inits h items ty k p offset n m) c) (mk w x))
    all_fill_sim NoI ty k fs σ s0 o p offset n m w x c hn le lt first room ep go f = rest_sim S bodies γ skips ty k fs σ s0 o p offset w x c hn le ep go (λ v y hy alike. f v y hy (λ j g l. alike j (omega (arith, g))))
    all_fill_sim (MoreI i rest) ty k fs σ s0 o p offset n m w x c hn le lt first room ep go f =
        let tp : Ty = part_type h.layouts ty k in
        let n2 : ℕ = n + init_temps i in
        let m2 : ℕ = m + length (init_sizes h i) in
        let c2 : NodesT ℕ = coded (low.low_inits h rest ty (k + 1) p ((offset + words h tp) % 2 ^ 32) n2 m2) c in
        let next : World → Went = λ v. all_filled S.s S.bound S.prev rest ty (k + 1) (further (part_of o offset) (words h tp)) v in
        subst (λ d. σ.T d (R (coded (low.low_init h i tp p offset n m) c2) (mk w x))) (sym (went_went σ.stop (filled S.s S.bound S.prev i tp (part_of o offset) w) next go))
        (fills_sim i tp fs.0 σ (s0 + 40) o p offset n m w x c2 hn le lt first (room_first S γ.base m (init_sizes h i) (inits_sizes h rest) room) ep (λ v. then_went σ.stop (next v) go)
        (λ v y hy keep. subst (λ q. σ.T (then_went σ.stop (all_filled S.s S.bound S.prev rest ty (k + 1) q v) go) (R c2 (mk v y))) (sym (part_further o offset (words h tp)))
        (all_fill_sim rest ty (k + 1) fs.1 σ s0 o p ((offset + words h tp) % 2 ^ 32) n2 m2 v y c hy le (omega (arith, lt)) (omega (arith, first)) (room_second S γ.base m (init_sizes h i) (inits_sizes h rest) room) (keep p le lt ∙ ep) go
        (λ v2 z hz keep2. f v2 z hz (λ j g l. keep2 j g (omega (arith, l)) ∙ keep j g l)))))

  -- ---- variables

  object_sim : (σ : Way γ) (global : Bool) (number s0 t : ℕ) (c : NodesT ℕ) (w : World) (x : Side) → Free γ t → Now γ s0 w x → (go : Cell → World → σ.R) → ((o : ℕ) (y : Side) → Now γ (s0 + 56) (spend 1 w) y → y.temps t ≡ Ptr o 0 → Rest t x y → σ.T (go (Ptr o 0) (spend 1 w)) (R c (mk (spend 1 w) y)))
      → σ.T (asked σ.stop nowhere w (object_of global number w.store) (λ p. go p (spend 1 w))) (R (coded (low.object_to global number t) c) (mk w x))
  object_sim σ true number s0 t c w x free hn go f = sets S σ.T γ (s0 + 56) (spend 1 w) x t (Ptr number 0) (GlobalO t number) c (spare γ (s0 + 64) (s0 + 56 + 8) (spend 1 w) x (omega arith) (worked S bodies γ skips s0 w x hn)) free refl (go (Ptr number 0) (spend 1 w)) (λ y hy at rest. f number y hy at rest)
  object_sim σ false number s0 t c w x free hn go f = by (local_object w.store.locals number) (local_front w.store.locals x.extra number)
    where
      by : (o : Option ℕ) → Alike (first_cell o) (first_cell (local_object (w.store.locals ++ x.extra) number)) → σ.T (asked σ.stop nowhere w (first_cell o) (λ p. go p (spend 1 w))) (R (coded (low.object_to false number t) c) (mk w x))
      by None a = σ.stops (Stray nowhere) w (R (coded (low.object_to false number t) c) (mk w x)) (R_grows (coded (low.object_to false number t) c) (mk w x))
      by (Some o) a = sets S σ.T γ (s0 + 56) (spend 1 w) x t (Ptr o 0) (LocalO t number) c (spare γ (s0 + 64) (s0 + 56 + 8) (spend 1 w) x (omega arith) (worked S bodies γ skips s0 w x hn)) free (ap (λ q. to temporaries t q (spent 8 (mk w x))) a) (go (Ptr o 0) (spend 1 w)) (λ y hy at rest. f o y hy at rest)

  object_is : {A : Type 0} (stop : End → World → A) (q : Answer Cell) (w : World) (go : Cell → Went) (rest : World → A) → then_went stop (asked CutOff nowhere w q go) rest ≡ asked stop nowhere w q (λ p. then_went stop (go p) rest)
  object_is stop (Ok p) w go rest = refl
  object_is stop (Err Strays) w go rest = refl
  object_is stop (Err (Faults i)) w go rest = refl

  -- where the address of a variable stands, and where the temporaries behind it begin
  address_free : (i : TInitT) (n : ℕ) → γ.first ≤ n → Free γ (low.address_of i n)
  address_free (OneI e) n le = above_free γ n le
  address_free (TextI k) n le = low_free γ part.object (omega (arith, skips))
  address_free (ListI items) n le = low_free γ part.object (omega (arith, skips))

  address_least : (i : TInitT) (n : ℕ) → 8 ≤ n → 7 ≤ low.address_of i n
  address_least (OneI e) n le = omega (arith, le)
  address_least (TextI k) n le = omega arith
  address_least (ListI items) n le = omega arith

  address_before : (i : TInitT) (n : ℕ) → 8 ≤ n → low.address_of i n < behind_address i n
  address_before (OneI e) n le = omega arith
  address_before (TextI k) n le = omega (arith, le)
  address_before (ListI items) n le = omega (arith, le)

  address_behind : (i : TInitT) (n : ℕ) → n ≤ behind_address i n
  address_behind (OneI e) n = omega arith
  address_behind (TextI k) n = omega arith
  address_behind (ListI items) n = omega arith

  pub vars_sim : (vars : List TVarT) → FillVars h vars → (σ : Way γ) (s0 n m : ℕ) (c : NodesT ℕ) (w : World) (x : Side) → γ.first ≤ n → 8 ≤ n → Room S γ.base m (vars_sizes h vars) → Now γ s0 w x → (go : World → σ.R) → ((v : World) (y : Side) → Now γ s0 v y → σ.T (go v) (R c (mk v y)))
      → σ.T (then_went σ.stop (variables_filled S.s S.bound S.prev vars w) go) (R (coded (low.low_vars h vars n m) c) (mk w x))
  vars_sim [] fs σ s0 n m c w x first le room hn go f = f w x hn
  vars_sim (v ∷ vs) fs σ s0 n m c w x first le room hn go f =
      let a : ℕ = low.address_of v.init n in
      let nb : ℕ = behind_address v.init n in
      let n2 : ℕ = nb + init_temps v.init in
      let m2 : ℕ = m + length (init_sizes h v.init) in
      let c2 : NodesT ℕ = coded (low.low_vars h vs n2 m2) c in
      let behind : n ≤ nb = address_behind v.init n in
      let rest : World → σ.R = λ z. then_went σ.stop (variables_filled S.s S.bound S.prev vs z) go in
      let fill : Cell → World → Went = λ p u. filled S.s S.bound S.prev v.init v.ty p u in
      subst (λ d. σ.T d (R (coded (low.low_vars h (v ∷ vs) n m) c) (mk w x))) (sym (went_went σ.stop (variable_filled S.s S.bound S.prev v w) (variables_filled S.s S.bound S.prev vs) go ∙ object_is σ.stop (object_of v.global v.object w.store) w (λ p. fill p (spend 1 w)) rest))
      (object_sim σ v.global v.object s0 a (coded (low.low_init h v.init v.ty a 0 nb m) c2) w x (address_free v.init n first) hn (λ p u. then_went σ.stop (fill p u) rest)
      (λ o y hy at keep. fills_sim v.init v.ty fs.0 σ (s0 + 56) o a 0 nb m (spend 1 w) y c2 hy (address_least v.init n le) (address_before v.init n le) (omega (arith, first, behind)) (room_first S γ.base m (init_sizes h v.init) (vars_sizes h vs) room) at rest
      (λ u z hz keep2. vars_sim vs fs.1 σ s0 n2 m2 c u z (omega (arith, first, behind)) (omega (arith, le, behind)) (room_second S γ.base m (init_sizes h v.init) (vars_sizes h vs) room) (spare γ (s0 + 56) s0 u z (omega arith) hz) go f)))
