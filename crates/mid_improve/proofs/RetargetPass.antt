-- The pass that has operations put into the temporaries to which their targets are moved: how states are alike between the operation and the move.
use Rattle.std.proofs.Common.{◌≡◌, ℕ, Bool, true, false, cond, eqb, ◌||◌, List, [], ◌∷◌, Option, Some, None, refl, sym, ap, ◌∙◌, subst}
use Rattle.std.proofs.lemmas.Bool.{true≢false, eqb-true, eq-eqb}
use Rattle.obj_mem.specs.declared.cell.Cell.{Cell}
use Rattle.obj_mem.specs.Worlds.{World, spend}
use Rattle.mid_code.specs.Code.{OpT, MoveO, target, CodeT}
use Rattle.mid_code.specs.States.{State, temporaries, put, put_in, in_world, spent, over_worlds}
use Rattle.mid_code.specs.inner.Passing.{Pass}
use Rattle.mid_improve.specs.inner.Retarget.{Turn, op_to}
use Rattle.mid_improve.proofs.SweepPass.{SameWorlds, worlds_spend, put_off}
use Rattle.mid_improve.proofs.SinkPass.{put_on}

pub or_false : (a b : Bool) → (a || b) ≡ false → (a ≡ false) × (b ≡ false)
or_false true b e = absurd (true≢false e)
or_false false b e = (refl, e)

-- ---- states

-- the two temporaries whose cells may differ
abbrev pub hides : Turn → ℕ → Bool
hides None r = false
hides (Some p) r = eqb r p.0 || eqb r p.1

-- the second one has the cell of the target
abbrev pub Holds : Turn → (a b : ℕ → Cell) → Type 0
Holds None a b = Unit {0}
Holds (Some p) a b = (eqb p.1 p.0 ≡ false) × (a p.0 ≡ b p.1)

pub record Agree (h : Turn) (s t : State ℕ) : Type 0 where
  pub worlds : SameWorlds s.world t.world
  pub given : s.given ≡ t.given
  pub cells : (r : ℕ) → hides h r ≡ false → s.cells r ≡ t.cells r
  pub held : Holds h s.cells t.cells

pub world_agrees : (h : Turn) (s t : State ℕ) → Agree h s t → (v w : World) → SameWorlds v w → Agree h (in_world v s) (in_world w t)
world_agrees h s t a v w b = record { worlds = b; given = a.given; cells = a.cells; held = a.held }

pub spent_agrees : (h : Turn) (s t : State ℕ) → Agree h s t → (n : ℕ) → Agree h (spent n s) (spent n t)
spent_agrees h s t a n = world_agrees h s t a (spend n s.world) (spend n t.world) (worlds_spend s.world t.world n a.worlds)

-- ---- where a target goes

pub data LandsAt (q u : ℕ) (k : Turn) : Type 0 where
  here : u ≡ q → k ≡ None → LandsAt q u k
  there : eqb u q ≡ false → k ≡ Some (q, u) → LandsAt q u k

abbrev pub Lands : Option ℕ → Option ℕ → Turn → Type 0
Lands None None k = k ≡ None
Lands None (Some u) k = ⊥
Lands (Some q) None k = ⊥
Lands (Some q) (Some u) k = LandsAt q u k

-- ---- one temporary takes a cell on each side

both_put : (a b : ℕ → Cell) (q : ℕ) (c d : Cell) (r : ℕ) → c ≡ d → a r ≡ b r → put temporaries a q c r ≡ put temporaries b q d r
both_put a b q c d r e h = go (eqb r q)
  where
    go : (x : Bool) → cond x c (a r) ≡ cond x d (b r)
    go true = e
    go false = h

put_here : (s t : State ℕ) → Agree None s t → (q : ℕ) (c d : Cell) → c ≡ d → Agree None (put_in temporaries q c s) (put_in temporaries q d t)
put_here s t a q c d e = record { worlds = a.worlds; given = a.given; cells = λ r n. both_put s.cells t.cells q c d r e (a.cells r refl); held = tt }

put_there : (s t : State ℕ) → Agree None s t → (q u : ℕ) (c d : Cell) → eqb u q ≡ false → c ≡ d → Agree (Some (q, u)) (put_in temporaries q c s) (put_in temporaries u d t)
put_there s t a q u c d n e = record {
  worlds = a.worlds;
  given = a.given;
  cells = λ r h. let o = or_false (eqb r q) (eqb r u) h in put_off s.cells q c r o.0 ∙ a.cells r refl ∙ sym (put_off t.cells u d r o.1);
  held = (n, put_on s.cells q c ∙ e ∙ sym (put_on t.cells u d));
}

pub put_lands : (s t : State ℕ) → Agree None s t → (q u : ℕ) (k : Turn) (c d : Cell) → LandsAt q u k → c ≡ d → Agree k (put_in temporaries q c s) (put_in temporaries u d t)
put_lands s t a q u k c d (here f g) e = subst (λ h. Agree h (put_in temporaries q c s) (put_in temporaries u d t)) (sym g) (subst (λ v. Agree None (put_in temporaries q c s) (put_in temporaries v d t)) (sym f) (put_here s t a q c d e))
put_lands s t a q u k c d (there n g) e = subst (λ h. Agree h (put_in temporaries q c s) (put_in temporaries u d t)) (sym g) (put_there s t a q u c d n e)

-- the move, and the one that goes the other way
pub move_agrees : (s t : State ℕ) (q u : ℕ) → Agree (Some (q, u)) s t → Agree None (put_in temporaries u (s.cells q) s) (put_in temporaries q (t.cells u) t)
move_agrees s t q u a = record { worlds = a.worlds; given = a.given; cells = λ r n. go r (eqb r q) refl (eqb r u) refl; held = tt }
  where
    go : (r : ℕ) (x : Bool) → eqb r q ≡ x → (y : Bool) → eqb r u ≡ y → put temporaries s.cells u (s.cells q) r ≡ put temporaries t.cells q (t.cells u) r
    go r true e true f = absurd (true≢false (sym (eq-eqb u q (sym (eqb-true r u f) ∙ eqb-true r q e)) ∙ a.held.0))
    go r true e false f = put_off s.cells u (s.cells q) r f ∙ ap s.cells (eqb-true r q e) ∙ a.held.1 ∙ sym (put_on t.cells q (t.cells u)) ∙ ap (put temporaries t.cells q (t.cells u)) (sym (eqb-true r q e))
    go r false e true f = ap (put temporaries s.cells u (s.cells q)) (eqb-true r u f) ∙ put_on s.cells u (s.cells q) ∙ a.held.1 ∙ ap t.cells (sym (eqb-true r u f)) ∙ sym (put_off t.cells q (t.cells u) r e)
    go r false e false f = put_off s.cells u (s.cells q) r f ∙ a.cells r (λ i. e i || f i) ∙ sym (put_off t.cells q (t.cells u) r e)

-- ---- the pass

-- an operation puts into the temporary where its target lands, or the move goes the other way
pub data Turns (h : Turn) (o : OpT ℕ) (ps : List (OpT ℕ)) (k : Turn) : Type 0 where
  lands : h ≡ None → (u : Option ℕ) → ps ≡ op_to u o ∷ [] → Lands (target o) u k → Turns h o ps k
  turns : (q u : ℕ) → h ≡ Some (q, u) → o ≡ MoveO u q → ps ≡ MoveO q u ∷ [] → k ≡ None → Turns h o ps k

abbrev pub retargeting : (x y : CodeT ℕ) → (frames : List ℕ) → Pass (over_worlds temporaries x frames) (over_worlds temporaries y frames)
retargeting x y frames = record {
  K = Option ℕ;
  I = Turn;
  fn = λ f. f;
  opens = λ f. None;
  closes = λ f. None;
  R = λ f h s t. Agree h s t;
  G = λ f s t. Agree None s t;
  E = λ s t. SameWorlds s.world t.world;
  O = λ s t. SameWorlds s.world t.world;
  D = λ s t. SameWorlds s.world t.world;
  ev = λ s. s.world.events;
  ev' = λ t. t.world.events;
  weaker = λ i j. i ≡ j;
  op = λ f h o ps k. Turns h o ps k;
  test = λ f h a b. (b ≡ a) × (h ≡ None);
  giving = λ f h a b. (b ≡ a) × (h ≡ None);
  call = λ f h t g args u brgs k. (brgs ≡ args) × (h ≡ None) × Lands t u k;
}
