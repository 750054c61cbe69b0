-- What the parts of the pass keep that has operations put into the temporaries to which their targets are moved.
use Rattle.std.proofs.Common.{◌≡◌, ℕ, Bool, true, false, List, [], ◌∷◌, map, Option, Some, None, refl, sym, ap, ◌∙◌, subst}
use Rattle.obj_mem.specs.declared.cell.Cell.{Cell}
use Rattle.obj_mem.specs.declared.cell.Cell.TheVariants.{Unwritten}
use Rattle.obj_mem.specs.Stores.{Sizes, has_room, entered, returned_to}
use Rattle.obj_mem.specs.Worlds.{on_store, spend}
use Rattle.mid_code.specs.Code.{CodeT}
use Rattle.mid_code.specs.Meaning.{Next, Lang, did}
use Rattle.mid_code.specs.States.{State, temporaries, received, cell_of, word_tested, begun, if_room, back, entry_weight, over_worlds, sizes_of, function_at}
use Rattle.mid_code.specs.inner.Passing.{Pass, Like, CallAlike, TestAlike, Keeps}
use Rattle.mid_code.proofs.More.{act_more, enter_more, back_more}
use Rattle.mid_improve.specs.inner.Retarget.{Turn}
use Rattle.mid_improve.proofs.SweepPass.{worlds_spend, worlds_store}
use Rattle.mid_improve.proofs.SweepKeeps.{test_same}
use Rattle.mid_improve.proofs.RetargetPass.{Agree, spent_agrees, Lands, put_lands, retargeting}
use Rattle.mid_improve.proofs.RetargetOps.{each}

module _ (x y : CodeT ℕ) (frames : List ℕ) (sizes : sizes_of y frames ≡ sizes_of x frames) (params : (h : ℕ) → (function_at y h).params ≡ (function_at x h).params) where
  abbrev L : Lang ℕ
  L = over_worlds temporaries x frames

  abbrev L' : Lang ℕ
  L' = over_worlds temporaries y frames

  abbrev PP : Pass L L'
  PP = retargeting x y frames

  abbrev z : Sizes
  z = sizes_of x frames

  abbrev z' : Sizes
  z' = sizes_of y frames

  -- ---- calls

  all_cells : (s t : State ℕ) → Agree None s t → (qs : List ℕ) → map s.cells qs ≡ map t.cells qs
  all_cells s t A [] = refl
  all_cells s t A (q ∷ qs) = let e = A.cells q refl in let f = all_cells s t A qs in λ i. e i ∷ f i

  module _ (f : Option ℕ) (s t : State ℕ) (A : Agree None s t) where
    room_same : (h : ℕ) → has_room z' h t.world.store ≡ has_room z h s.world.store
    room_same h = let e = A.worlds.store in λ j. has_room (sizes j) h (e j)

    module _ (h : ℕ) (args : List ℕ) where
      abbrev s0 : State ℕ
      s0 = begun temporaries z (function_at x h).params h args s

      abbrev t0 : State ℕ
      t0 = begun temporaries z' (function_at y h).params h args t

      begins : Agree None s0 t0
      begins = record {
        worlds = worlds_store (spend entry_weight s.world) (spend entry_weight t.world) (entered z h) (entered z' h) (sym (ap (λ u. entered u h) sizes)) (worlds_spend s.world t.world entry_weight A.worlds);
        given = refl;
        cells = λ r n. (let p = sym (params h) in let c = all_cells s t A args in λ j. received temporaries (p j) (c j) r);
        held = tt;
      }

    module _ (v w : State ℕ) (B : Agree None v w) where
      abbrev s1 : State ℕ
      s1 = record { world = on_store (returned_to s.world.store) v.world; cells = s.cells; given = s.given }

      abbrev t1 : State ℕ
      t1 = record { world = on_store (returned_to t.world.store) w.world; cells = t.cells; given = t.given }

      back_there : Agree None s1 t1
      back_there = record {
        worlds = record { store = (let a = A.worlds.store in let b = B.worlds.store in λ j. returned_to (a j) (b j)); events = B.worlds.events; work = B.worlds.work };
        given = A.given;
        cells = A.cells;
        held = tt;
      }

      returns : (k : Turn) (q u : Option ℕ) → Lands q u k → Agree k (back temporaries q s v) (back temporaries u t w)
      returns k None None l = subst (λ j. Agree j s1 t1) (sym l) back_there
      returns k None (Some u) l = absurd l
      returns k (Some q) None l = absurd l
      returns k (Some q) (Some u) l = put_lands s1 t1 back_there q u k v.given w.given l B.given

    module _ (k : Turn) (q u : Option ℕ) (l : Lands q u k) (h : ℕ) (args : List ℕ) where
      abbrev begun_here : State ℕ
      begun_here = begun temporaries z (function_at x h).params h args s

      abbrev begun_there : State ℕ
      begun_there = begun temporaries z' (function_at y h).params h args t

      entered_alike : (b b' : Bool) → b' ≡ b → CallAlike PP f k q u h s t (if_room b s begun_here) (if_room b' t begun_there)
      entered_alike true b' e = record {
        inner = Some h;
        fn_is = refl;
        s0' = begun_there;
        enters = ap (λ b. if_room b t begun_there) e;
        alike = begins h args;
        back = λ v w B. returns v w B k q u l;
      }
      entered_alike false b' e = (t, ap (λ b. did (if_room b t begun_there) (λ w. Next w)) e, A.worlds)

      calls : CallAlike PP f k q u h s t (L.enter h args s) (L'.enter h args t)
      calls = entered_alike (has_room z h s.world.store) (has_room z' h t.world.store) (room_same h)

  call_kept : (f : Option ℕ) (i k : Turn) (q u : Option ℕ) (h : ℕ) (args brgs : List ℕ) (s s' : State ℕ) → PP.call f i q h args u brgs k → Agree i s s' → CallAlike PP f k q u h s s' (L.enter h args s) (L'.enter h brgs s')
  call_kept f i k q u h args brgs s s' c A =
      subst (λ cs. CallAlike PP f k q u h s s' (L.enter h args s) (L'.enter h cs s')) (sym c.0) (calls f s s' (subst (λ j. Agree j s s') c.1 A) k q u c.2 h args)

  -- ---- what the parts keep

  given_agrees : (s t : State ℕ) (c d : Cell) → c ≡ d → Agree None s t → Agree None (record s { given = c }) (record t { given = d })
  given_agrees s t c d e A = record { worlds = A.worlds; given = e; cells = A.cells; held = tt }

  gives_same : (a : Option ℕ) (s t : State ℕ) → Agree None s t → cell_of s.cells a ≡ cell_of t.cells a
  gives_same None s t A = refl
  gives_same (Some q) s t A = A.cells q refl

  module _ (bodies : (h : ℕ) → Like PP (Some h) [] None (function_at x h).body (function_at y h).body None) where
    pub keeps : Keeps L L' PP
    keeps = record {
      events = λ f h s t A. sym A.worlds.events;
      given = λ f s t A. sym A.worlds.events;
      out = λ f h s t A. A.worlds;
      weaker_same = λ i. refl;
      weaker = λ f i j s t h A. subst (λ k. Agree k s t) h A;
      ticks = λ f h n s t A. spent_agrees h s t A n;
      op = λ f h k o ps s t c A. each x y frames sizes f h k o ps s t c A;
      test = λ f h a b s t c A. subst (λ q. TestAlike (word_tested (s.cells a)) (word_tested (t.cells q))) (sym c.0) (test_same (s.cells a) (t.cells a) ((subst (λ j. Agree j s t) c.1 A).cells a refl));
      give = λ f h a b s t c A. let B = subst (λ j. Agree j s t) c.1 A in given_agrees s t (cell_of s.cells a) (cell_of t.cells b) (gives_same a s t B ∙ sym (ap (cell_of t.cells) c.0)) B;
      none = λ f s t A. given_agrees s t Unwritten Unwritten refl A;
      call = λ f i k q u h args brgs s s' c A. call_kept f i k q u h args brgs s s' c A;
      bodies = bodies;
      act_more = λ o t. act_more temporaries y frames o t;
      enter_more = λ h args t. enter_more temporaries y frames h args t;
      back_more = λ u t v. back_more temporaries y frames u t v;
      give_more = λ w t. refl;
      none_more = λ t. refl;
      tick_more = λ n t. refl;
    }
