-- Parts of objects that are filled: loops and stores at a part, and what they leave.
use Rattle.std.proofs.Common.{◌≡◌, ℕ, zero, suc, ◌+◌, ◌*◌, ◌-◌, ◌%◌, ◌^◌, ◌<◌, ◌≤◌, List, None, Ok, refl, sym, ap, ◌∙◌, subst, arith}
use Rattle.std.proofs.Math.Nat.{mod-add-mod, mod-eq_of_lt}
use Rattle.c_types.specs.Types.{Ty, VoidY, IntY, BoolY, EnumY, StructY, UnionY, PointerY, ArrayY}
use Rattle.obj_mem.specs.Objects.{ObjectT}
use Rattle.obj_mem.specs.declared.cell.Cell.{Cell}
use Rattle.obj_mem.specs.declared.cell.Cell.TheVariants.{Num, Ptr}
use Rattle.obj_mem.specs.Stores.{with_objects}
use Rattle.obj_mem.specs.Worlds.{World, on_store, spend}
use Rattle.obj_mem.specs.Queries.{write, further, step}
use Rattle.c_meaning.specs.declared.end.End.{End}
use Rattle.c_meaning.specs.Outcomes.{Went, Through, CutOff, nowhere, asked, then_went}
use Rattle.c_meaning.specs.Cells.{cells_set}
use Rattle.c_meaning.specs.Initialisers.{rest_filled}
use Rattle.mid_code.specs.Code.{MoveO, ConstO, StepO, StoreO, NodesT, Do}
use Rattle.mid_code.specs.Meaning.{Res}
use Rattle.mid_code.specs.States.{temporaries, to, spent}
use Rattle.lower_trees.specs.Pieces.{coded}
use Rattle.lower_trees.specs.Shape.{Shape, shape_in, words}
use Rattle.lower_trees.specs.Parts as part
use Rattle.lower_trees.specs.Initialisers as low
use Rattle.mid_lower.proofs.Grows.{Mid, Grows}
use Rattle.mid_lower.proofs.Words.{in_words}
use Rattle.mid_lower.proofs.Trees.{RestFits}
use Rattle.mid_lower.proofs.Fits.{Site}
use Rattle.mid_lower.proofs.Following.{Side, mk, Goal, Now, Way, Rest, scratch, spare, now_work, low_free, eqb_more, M, M_grows, sets}
use Rattle.mid_lower.proofs.Instructions.{step_eq}
use Rattle.mid_lower.proofs.Storing.{stores}
use Rattle.mid_lower.proofs.Calling.{BodiesFollow}
use Rattle.mid_lower.proofs.CellLoops.{zeroes}

-- one loop or store after another
pub went_went : {A : Type 0} (stop : End → World → A) (v : Went) (rest : World → Went) (go : World → A) → then_went stop (then_went CutOff v rest) go ≡ then_went stop v (λ z. then_went stop (rest z) go)
went_went stop (Through w) rest go = refl
went_went stop (CutOff f w) rest go = refl

-- what comes to a loop or a store that something follows
abbrev pub way_went : (γ : Goal) (σ : Way γ) → (World → σ.R) → Way γ
way_went γ σ go = record { R = Went; stop = CutOff; T = λ r q. σ.T (then_went σ.stop r go) q; stops = σ.stops }

-- the part that begins so many words behind the first cell
abbrev pub part_of : (o offset : ℕ) → Cell
part_of o offset = Ptr o (offset % 2 ^ 32)

pub part_further : (o offset size : ℕ) → further (part_of o offset) size ≡ part_of o ((offset + size) % 2 ^ 32)
part_further o offset size = ap (λ k. Ptr o k) (mod-add-mod offset (2 ^ 32) size ∙ sym (mod-eq_of_lt (in_words (offset + size))))

part_stepped : (o offset : ℕ) → step (Ptr o 0) offset ≡ Ok (part_of o offset)
part_stepped o offset = ap (λ k. Ok (Ptr o (k % 2 ^ 32))) plain
  where
    plain : 0 + offset ≡ offset
    plain = omega arith

module _ (S : Site) (bodies : BodiesFollow S) (γ : Goal) (skips : 2 ≤ γ.skip) where
  abbrev pub R : NodesT ℕ → Mid → Res Mid
  R = M S

  abbrev pub R_grows : (c : NodesT ℕ) (t : Mid) → Grows t (R c t)
  R_grows = M_grows S

  abbrev pub h : Shape
  h = shape_in S.s

  pub worked : (s0 : ℕ) (w : World) (x : Side) → Now γ s0 w x → Now γ (s0 + 64) (spend 1 w) x
  worked s0 w x hn = now_work γ s0 (s0 + 64) w (spend 1 w) x x.work refl (omega (arith, hn.cost)) hn

  -- ---- parts

  pub at_part : {A : Type 0} (T : A → Res Mid → Type 0) (s0 o p offset : ℕ) (w : World) (x : Side) (c : NodesT ℕ) → Now γ (s0 + 16) w x → 7 ≤ p → x.temps p ≡ Ptr o 0 → (r : A) → ((y : Side) → Now γ s0 w y → y.temps part.to ≡ part_of o offset → Rest part.to x y → T r (R c (mk w y))) → T r (R (coded (low.part_at p offset) c) (mk w x))
  at_part T s0 o p zero w x c hn le e r f = sets S T γ (s0 + 8) w x part.to (Ptr o 0) (MoveO part.to p) c (spare γ (s0 + 16) (s0 + 8 + 8) w x (omega arith) hn) (low_free γ part.to (omega arith)) (ap (λ q. to temporaries part.to (Ok q) (spent 8 (mk w x))) e) r (λ y hy at rest. f y (spare γ (s0 + 8) s0 w y (omega arith) hy) at rest)
  at_part T s0 o p (suc k) w x c hn le e r f =
      sets S T γ (s0 + 8) w x part.to (Num (suc k)) (ConstO part.to (suc k)) (Do (StepO part.to p part.to) c) (spare γ (s0 + 16) (s0 + 8 + 8) w x (omega arith) hn) (low_free γ part.to (omega arith)) refl r (λ y hy at rest.
      sets S T γ s0 w y part.to (part_of o (suc k)) (StepO part.to p part.to) c hy (low_free γ part.to (omega arith)) (ap (λ q. to temporaries part.to q (spent 8 (mk w y))) (step_eq (Ptr o 0) (Num (suc k)) (y.temps p) (y.temps part.to) (rest p (eqb_more p part.to (omega (arith, le))) ∙ e) at ∙ part_stepped o (suc k))) r
      (λ z hz at2 rest2. f z hz at2 (λ j ne. rest2 j ne ∙ rest j ne)))

  -- the cell in `item` fills the part
  pub cell_sim : (σ : Way γ) (s0 o p offset : ℕ) (w : World) (x : Side) (z : Cell) (c : NodesT ℕ) → Now γ (s0 + 24) w x → 7 ≤ p → x.temps p ≡ Ptr o 0 → x.temps part.item ≡ z → (go : World → σ.R) → ((os : List ObjectT) (y : Side) → Now γ s0 (on_store (with_objects os) w) y → ((j : ℕ) → scratch ≤ j → y.temps j ≡ x.temps j) → σ.T (go (on_store (with_objects os) w)) (R c (mk (on_store (with_objects os) w) y)))
      → σ.T (asked σ.stop nowhere w (write w.store.objects (part_of o offset) z) (λ os. go (on_store (with_objects os) w))) (R (coded (low.cell_filled p offset) c) (mk w x))
  cell_sim σ s0 o p zero w x z c hn le e ez go f = stores S γ σ nowhere w s0 x p part.item (Ptr o 0) z c (spare γ (s0 + 24) (s0 + 8) w x (omega arith) hn) e ez go (λ os y hy alike. f os y hy (λ j g. alike j))
  cell_sim σ s0 o p (suc k) w x z c hn le e ez go f =
      at_part σ.T (s0 + 8) o p (suc k) w x (Do (StoreO part.to part.item) c) (spare γ (s0 + 24) (s0 + 8 + 16) w x (omega arith) hn) le e (asked σ.stop nowhere w (write w.store.objects (part_of o (suc k)) z) (λ os. go (on_store (with_objects os) w)))
      (λ y hy at rest. stores S γ σ nowhere w s0 y part.to part.item (part_of o (suc k)) z c hy at (rest part.item refl ∙ ez) go (λ os u hu alike. f os u hu (λ j g. alike j ∙ rest j (eqb_more j part.to (omega (arith, g))))))

  -- cells of the part are set to 0
  pub zeros_sim : (σ : Way γ) (s0 size o p offset : ℕ) → size ≤ 2 ^ 32 → (w : World) (x : Side) (c : NodesT ℕ) → Now γ (s0 + 40) w x → 7 ≤ p → x.temps p ≡ Ptr o 0 → (go : World → σ.R) → ((v : World) (y : Side) → Now γ s0 v y → ((j : ℕ) → scratch ≤ j → y.temps j ≡ x.temps j) → σ.T (go v) (R c (mk v y)))
      → σ.T (then_went σ.stop (cells_set nowhere 1 S.bound size None (part_of o offset) w) go) (R (coded (low.part_zeroed p offset size) c) (mk w x))
  zeros_sim σ s0 zero o p offset fits w x c hn le e go f = f w x (spare γ (s0 + 40) s0 w x (omega arith) hn) (λ j g. refl)
  zeros_sim σ s0 (suc left) o p offset fits w x c hn le e go f =
      at_part σ.T (s0 + 24) o p offset w x (coded (part.zeroed (suc left)) c) (spare γ (s0 + 40) (s0 + 24 + 16) w x (omega arith) hn) le e (then_went σ.stop (cells_set nowhere 1 S.bound (suc left) None (part_of o offset) w) go)
      (λ y hy at rest. zeroes S γ nowhere 1 (omega arith) σ s0 (suc left) fits (part_of o offset) w y c hy at go (λ v u hu others. f v u (spare γ (s0 + 16) s0 v u (omega arith) hu) (λ j g. others j (omega (arith, g)) ∙ rest j (eqb_more j part.to (omega (arith, g))))))

  pub rest_sim : (ty : Ty) (k : ℕ) → RestFits h ty k → (σ : Way γ) (s0 o p offset : ℕ) (w : World) (x : Side) (c : NodesT ℕ) → Now γ (s0 + 40) w x → 7 ≤ p → x.temps p ≡ Ptr o 0 → (go : World → σ.R) → ((v : World) (y : Side) → Now γ s0 v y → ((j : ℕ) → scratch ≤ j → y.temps j ≡ x.temps j) → σ.T (go v) (R c (mk v y)))
      → σ.T (then_went σ.stop (rest_filled S.s S.bound ty k (part_of o offset) w) go) (R (coded (low.low_rest h ty k p offset) c) (mk w x))
  rest_sim (ArrayY of len) k fits σ s0 o p offset w x c hn le e go f =
      subst (λ q. σ.T (then_went σ.stop (cells_set nowhere 1 S.bound (words h of * (len - k)) None (part_of o offset) w) go) (R (coded (low.part_zeroed p offset q) c) (mk w x))) (sym (mod-eq_of_lt fits))
      (zeros_sim σ s0 (words h of * (len - k)) o p offset (omega (arith, fits)) w x c hn le e go f)
  rest_sim VoidY k fits σ s0 o p offset w x c hn le e go f = f w x (spare γ (s0 + 40) s0 w x (omega arith) hn) (λ j g. refl)
  rest_sim IntY k fits σ s0 o p offset w x c hn le e go f = f w x (spare γ (s0 + 40) s0 w x (omega arith) hn) (λ j g. refl)
  rest_sim BoolY k fits σ s0 o p offset w x c hn le e go f = f w x (spare γ (s0 + 40) s0 w x (omega arith) hn) (λ j g. refl)
  rest_sim (EnumY i) k fits σ s0 o p offset w x c hn le e go f = f w x (spare γ (s0 + 40) s0 w x (omega arith) hn) (λ j g. refl)
  rest_sim (StructY i) k fits σ s0 o p offset w x c hn le e go f = f w x (spare γ (s0 + 40) s0 w x (omega arith) hn) (λ j g. refl)
  rest_sim (UnionY i) k fits σ s0 o p offset w x c hn le e go f = f w x (spare γ (s0 + 40) s0 w x (omega arith) hn) (λ j g. refl)
  rest_sim (PointerY i) k fits σ s0 o p offset w x c hn le e go f = f w x (spare γ (s0 + 40) s0 w x (omega arith) hn) (λ j g. refl)

  -- ---- initialisers

  -- what follows: the temporaries before n stay
  abbrev pub Goes : (σ : Way γ) (s0 n : ℕ) → Side → NodesT ℕ → (World → σ.R) → Type 0
  Goes σ s0 n x c go = (v : World) (y : Side) → Now γ s0 v y → ((j : ℕ) → 7 ≤ j → j < n → y.temps j ≡ x.temps j) → σ.T (go v) (R c (mk v y))
