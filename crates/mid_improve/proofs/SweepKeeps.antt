-- What the parts of the sweep keep.
use Rattle.std.proofs.Common.{◌≡◌, ℕ, Bool, true, false, List, [], ◌∷◌, map, Option, Some, None, refl, sym, ap, ◌∙◌, subst}
use Rattle.std.proofs.lemmas.Bool.{false≢true}
use Rattle.obj_mem.specs.declared.cell.Cell.{Cell}
use Rattle.obj_mem.specs.declared.cell.Cell.TheVariants.{Unwritten}
use Rattle.obj_mem.specs.Stores.{Sizes, has_room, entered, returned_to}
use Rattle.obj_mem.specs.Worlds.{on_store, spend}
use Rattle.mid_code.specs.Code.{CodeT, maybe}
use Rattle.mid_code.specs.Meaning.{Next, Lang, did}
use Rattle.mid_code.specs.States.{State, temporaries, received, cell_of, word_tested, begun, if_room, back, entry_weight, over_worlds, sizes_of, function_at}
use Rattle.mid_code.specs.inner.Passing.{Pass, Like, CallAlike, TestAlike, Keeps}
use Rattle.mid_code.proofs.More.{act_more, enter_more, back_more}
use Rattle.mid_improve.specs.inner.Wanted.{Set}
use Rattle.mid_improve.specs.inner.Sweep.{none_live}
use Rattle.mid_improve.proofs.SweepPass.{worlds_spend, worlds_store, Agree, Through, Uses, less_agrees, spent_agrees, put_agrees, opened, sweeping}
use Rattle.mid_improve.proofs.SweepOps.{each}

pub test_same : (c d : Cell) → c ≡ d → TestAlike (word_tested c) (word_tested d)
test_same c d e = subst (λ b. TestAlike (word_tested c) (word_tested b)) e (go (word_tested c))
  where
    go : (o : Option ℕ) → TestAlike o o
    go None = tt
    go (Some n) = refl

module _ (x y : CodeT ℕ) (frames : List ℕ) (sizes : sizes_of y frames ≡ sizes_of x frames) (params : (h : ℕ) → (function_at y h).params ≡ (function_at x h).params) where
  abbrev L : Lang ℕ
  L = over_worlds temporaries x frames

  abbrev L' : Lang ℕ
  L' = over_worlds temporaries y frames

  abbrev PP : Pass L L'
  PP = sweeping x y frames

  abbrev z : Sizes
  z = sizes_of x frames

  abbrev z' : Sizes
  z' = sizes_of y frames

  -- ---- calls

  all_cells : (i : Set) (s t : State ℕ) → Agree i s t → (qs : List ℕ) → Uses i qs → map s.cells qs ≡ map t.cells qs
  all_cells i s t A [] u = refl
  all_cells i s t A (q ∷ qs) u = let e = A.cells q u.0 in let f = all_cells i s t A qs u.1 in λ j. e j ∷ f j

  module _ (f : Option ℕ) (i : Set) (s t : State ℕ) (A : Agree i s t) where
    room_same : (h : ℕ) → has_room z' h t.world.store ≡ has_room z h s.world.store
    room_same h = let e = A.worlds.store in λ j. has_room (sizes j) h (e j)

    module _ (h : ℕ) (args : List ℕ) (u : Uses i args) where
      abbrev s0 : State ℕ
      s0 = begun temporaries z (function_at x h).params h args s

      abbrev t0 : State ℕ
      t0 = begun temporaries z' (function_at y h).params h args t

      begins : Agree (opened x (Some h)) s0 t0
      begins = record {
        worlds = worlds_store (spend entry_weight s.world) (spend entry_weight t.world) (entered z h) (entered z' h) (sym (ap (λ u. entered u h) sizes)) (worlds_spend s.world t.world entry_weight A.worlds);
        given = refl;
        cells = λ r n. (let p = sym (params h) in let c = all_cells i s t A args u in λ j. received temporaries (p j) (c j) r);
      }

    module _ (v w : State ℕ) (B : Agree none_live v w) where
      abbrev s1 : State ℕ
      s1 = record { world = on_store (returned_to s.world.store) v.world; cells = s.cells; given = s.given }

      abbrev t1 : State ℕ
      t1 = record { world = on_store (returned_to t.world.store) w.world; cells = t.cells; given = t.given }

      back_there : Agree i s1 t1
      back_there = record {
        worlds = record { store = (let a = A.worlds.store in let b = B.worlds.store in λ j. returned_to (a j) (b j)); events = B.worlds.events; work = B.worlds.work };
        given = A.given;
        cells = A.cells;
      }

      returns : (k : Set) (u : Option ℕ) → Through i u k → Agree k (back temporaries u s v) (back temporaries u t w)
      returns k None h = less_agrees i k s1 t1 (λ r n. h r refl n) back_there
      returns k (Some q) h = put_agrees i s1 t1 back_there k q v.given w.given h B.given

    module _ (k : Set) (u : Option ℕ) (h : ℕ) (args : List ℕ) (us : Uses i args) (th : Through i u k) where
      abbrev begun_here : State ℕ
      begun_here = begun temporaries z (function_at x h).params h args s

      abbrev begun_there : State ℕ
      begun_there = begun temporaries z' (function_at y h).params h args t

      entered_alike : (b b' : Bool) → b' ≡ b → CallAlike PP f k u u h s t (if_room b s begun_here) (if_room b' t begun_there)
      entered_alike true b' e = record {
        inner = Some h;
        fn_is = refl;
        s0' = begun_there;
        enters = ap (λ b. if_room b t begun_there) e;
        alike = begins h args us;
        back = λ v w B. returns v w B k u th;
      }
      entered_alike false b' e = (t, ap (λ b. did (if_room b t begun_there) (λ w. Next w)) e, A.worlds)

      calls : CallAlike PP f k u u h s t (L.enter h args s) (L'.enter h args t)
      calls = entered_alike (has_room z h s.world.store) (has_room z' h t.world.store) (room_same h)

  call_kept : (f : Option ℕ) (i k : Set) (t u : Option ℕ) (h : ℕ) (args brgs : List ℕ) (s s' : State ℕ) → PP.call f i t h args u brgs k → Agree i s s' → CallAlike PP f k t u h s s' (L.enter h args s) (L'.enter h brgs s')
  call_kept f i k t u h args brgs s s' c A =
      subst (λ v. CallAlike PP f k t v h s s' (L.enter h args s) (L'.enter h brgs s')) (sym c.0)
      (subst (λ cs. CallAlike PP f k t t h s s' (L.enter h args s) (L'.enter h cs s')) (sym c.1) (calls f i s s' A k t h args c.2 c.3))

  -- ---- what the parts keep

  given_agrees : (s t : State ℕ) (c d : Cell) (i : Set) → c ≡ d → Agree i s t → Agree none_live (record s { given = c }) (record t { given = d })
  given_agrees s t c d i e A = record { worlds = A.worlds; given = e; cells = λ r n. absurd (false≢true n) }

  gives_same : (i : Set) (a : Option ℕ) (s t : State ℕ) → Uses i (maybe a) → Agree i s t → cell_of s.cells a ≡ cell_of t.cells a
  gives_same i None s t u A = refl
  gives_same i (Some q) s t u A = A.cells q u.0

  module _ (bodies : (h : ℕ) → Like PP (Some h) [] (opened x (Some h)) (function_at x h).body (function_at y h).body none_live) where
    pub keeps : Keeps L L' PP
    keeps = record {
      events = λ f i s t A. sym A.worlds.events;
      given = λ f s t A. sym A.worlds.events;
      out = λ f i s t A. A.worlds;
      weaker_same = λ i r h. h;
      weaker = λ f i j s t h A. less_agrees i j s t h A;
      ticks = λ f i n s t A. spent_agrees i s t A n;
      op = λ f i k o ps s t c A. each x y frames sizes f i s t A o ps k c;
      test = λ f i a b s t c A. subst (λ q. TestAlike (word_tested (s.cells a)) (word_tested (t.cells q))) (sym c.0) (test_same (s.cells a) (t.cells a) (A.cells a c.1));
      give = λ f i a b s t c A. given_agrees s t (cell_of s.cells a) (cell_of t.cells b) i (gives_same i a s t c.1 A ∙ sym (ap (cell_of t.cells) c.0)) A;
      none = λ f s t A. given_agrees s t Unwritten Unwritten none_live refl A;
      call = λ f i k t u h args brgs s s' c A. call_kept f i k t u h args brgs s s' c A;
      bodies = bodies;
      act_more = λ o t. act_more temporaries y frames o t;
      enter_more = λ h args t. enter_more temporaries y frames h args t;
      back_more = λ u t v. back_more temporaries y frames u t v;
      give_more = λ w t. refl;
      none_more = λ t. refl;
      tick_more = λ n t. refl;
    }
