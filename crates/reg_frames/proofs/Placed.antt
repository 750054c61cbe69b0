-- Placed code keeps the runs of the code, and does no more work.
use Rattle.std.proofs.Common.{◌≡◌, ℕ, zero, suc, ◌+◌, Bool, true, false, List, [], ◌∷◌, map, length, get_or, sum, Option, Some, None, refl, sym, ap, subst, arith}
use Rattle.std.proofs.lemmas.Bool.{false≢true}
use Rattle.obj_mem.specs.Objects.{object_at, opening_objects}
use Rattle.obj_mem.specs.Worlds.{World, spend}
use Rattle.obj_mem.specs.Stores.{has_room}
use Rattle.obj_mem.specs.Runs.{opening_world}
use Rattle.mid_code.specs.declared.placed.Where.{Where}
use Rattle.mid_code.specs.Code.{OpT, Stop, FunctionT, CodeT, uses, target, maybe}
use Rattle.mid_code.specs.Meaning.{Next, Lang, did}
use Rattle.mid_code.specs.Live.{is_among, is_live_at, Live}
use Rattle.mid_code.specs.Safe.{IsSafe}
use Rattle.mid_code.specs.Invariants.{AreNodes, AllOf, IsFunction, IsTemporary, IsMid}
use Rattle.mid_code.specs.States.{State, temporaries, registers_and_slots, received, cell_of, if_room, begun, entry_weight, word_tested, over_worlds, sizes_of, function_at, no_function}
use Rattle.mid_code.specs.Runs.{mid_runs, placed_runs}
use Rattle.mid_code.specs.Keeps.{KeepsRuns, WorksAtMost}
use Rattle.mid_code.specs.inner.Passing.{acts, Pass, Like, CallAlike, DidAlike, TestAlike, Keeps}
use Rattle.mid_code.specs.inner.Alike.{Known}
use Rattle.mid_code.specs.inner.Programs.{KeptWorlds, Program}
use Rattle.mid_code.proofs.Values.{test_known, word_kept}
use Rattle.mid_code.proofs.More.{act_more, enter_more, back_more}
use Rattle.mid_code.proofs.Liveness.{path_computed}
use Rattle.mid_code.proofs.Programs.{program_keeps, program_works}
use Rattle.reg_frames.specs.inner.Placing.{placed_op, placed_maybe, placed_nodes, placed_function, placing, choice_at, placed_functions, placed_code, placed}
use Rattle.mid_code.specs.Choices.{EachSafe}
use Rattle.reg_frames.specs.inner.Pass.{SameNumber, WorldsAlike, LiveSet, StatesAlike, Apart, Before, AllLive, Stays, places_pass}
use Rattle.reg_frames.proofs.Objects.{memory, twin_self}
use Rattle.reg_frames.proofs.Moving.{worlds_spend, worlds_entered, room_same, received_alike, each, args_known, returns}
use Rattle.reg_frames.proofs.Slots.{placing_one, placing_slot}
use Rattle.reg_frames.proofs.Likeness.{like_placed}

abbrev N : ℕ → ℕ → Type 0
N = SameNumber

worlds_ended : (globals card : ℕ) (v u : World) → WorldsAlike v u → KeptWorlds globals card v u
worlds_ended globals card v u a = record {
  so_far = record { events = a.events; work = let e = a.work in omega (arith, e) };
  there = λ o lt h. let e = a.count in omega (arith, e, h);
  of_globals = λ o lt. word_kept N (object_at v.store.objects o) (object_at u.store.objects o) (a.memory.twin o o refl);
  of_card = word_kept N (object_at v.store.objects card) (object_at u.store.objects card) (a.memory.twin card card refl);
}

-- what is asked of the places of a program
pub record Fits (w : Option ℕ → ℕ → Where) (x : CodeT ℕ) (y : CodeT Where) (frames : List ℕ) : Type 0 where
  pub globals : y.globals ≡ x.globals
  pub literals : y.literals ≡ x.literals
  pub main : y.main ≡ x.main
  pub locals : (g : ℕ) → (function_at y g).locals ≡ (function_at x g).locals
  pub params : (g : ℕ) → (function_at y g).params ≡ map (w (Some g)) (function_at x g).params
  pub params_apart : (g a b : ℕ) → is_among (function_at x g).params a ≡ true → is_among (function_at x g).params b ≡ true → w (Some g) a ≡ w (Some g) b → a ≡ b
  pub bodies : (g : ℕ) → Like (places_pass w x y frames frames) (Some g) [] (λ q. is_live_at q [] (function_at x g).body) (function_at x g).body (function_at y g).body (λ q. false)
  pub start : Like (places_pass w x y frames frames) None [] (λ q. is_live_at q [] x.start.body) x.start.body y.start.body (λ q. false)

module _ (w : Option ℕ → ℕ → Where) (x : CodeT ℕ) (y : CodeT Where) (frames : List ℕ) (F : Fits w x y frames) where
  abbrev L : Lang ℕ
  L = over_worlds temporaries x frames

  abbrev L' : Lang Where
  L' = over_worlds registers_and_slots y frames

  abbrev PP : Pass L L'
  PP = places_pass w x y frames frames

  abbrev M : Option ℕ → LiveSet → State ℕ → State Where → Type 0
  M f i s t = StatesAlike (w f) i s t

  op_kept : (f : Option ℕ) (i k : LiveSet) (o : OpT ℕ) (ps : List (OpT Where)) (s : State ℕ) (t : State Where) → (ps ≡ placed_op (w f) o ∷ []) × Before (uses o) (maybe (target o)) i k × Apart (w f) (target o) k → M f i s t → DidAlike PP f k (L.act o s) (acts L' ps t)
  op_kept f i k o ps s t h m = subst (λ q. DidAlike PP f k (L.act o s) (acts L' q t)) (sym h.0) (each w x y frames F.locals F.globals F.literals f i k s t m o h.1 h.2)

  give_kept : (f : Option ℕ) (i : LiveSet) (a : Option ℕ) (b : Option Where) (s : State ℕ) (t : State Where) → (b ≡ placed_maybe (w f) a) × AllLive i (maybe a) → M f i s t → Known N (cell_of s.cells a) (cell_of t.cells b)
  give_kept f i None b s t h m = tt
  give_kept f i (Some a) b s t h m = subst (λ q. Known N (s.cells a) (cell_of t.cells q)) (sym h.0) (m.cells a h.1.0)

  call_kept : (f : Option ℕ) (i k : LiveSet) (t : Option ℕ) (u : Option Where) (g : ℕ) (args : List ℕ) (brgs : List Where) (s : State ℕ) (s' : State Where) → (u ≡ placed_maybe (w f) t) × (brgs ≡ map (w f) args) × Before args (maybe t) i k × Apart (w f) t k × Stays (w f) t k → M f i s s' → CallAlike PP f k t u g s s' (L.enter g args s) (L'.enter g brgs s')
  call_kept f i k t u g args brgs s s' h m = subst (λ q. CallAlike PP f k t q g s s' (L.enter g args s) (L'.enter g brgs s')) (sym h.0) (subst (λ q. CallAlike PP f k t (placed_maybe (w f) t) g s s' (L.enter g args s) (L'.enter g q s')) (sym h.1) (go (has_room (sizes_of x frames) g s.world.store) (has_room (sizes_of y frames) g s'.world.store) (room_same (sizes_of x frames) (sizes_of y frames) globals (λ f. refl) s.world s'.world g m.worlds)))
    where
      globals : (sizes_of y frames).globals ≡ (sizes_of x frames).globals
      globals = ap sum F.globals

      go : (b b' : Bool) → b' ≡ b → CallAlike PP f k t (placed_maybe (w f) t) g s s' (if_room b s (begun temporaries (sizes_of x frames) (function_at x g).params g args s)) (if_room b' s' (begun registers_and_slots (sizes_of y frames) (function_at y g).params g (map (w f) args) s'))
      go true b' e = record {
        inner = Some g;
        fn_is = refl;
        s0' = begun registers_and_slots (sizes_of y frames) (function_at y g).params g (map (w f) args) s';
        enters = ap (λ q. if_room q s' (begun registers_and_slots (sizes_of y frames) (function_at y g).params g (map (w f) args) s')) e;
        alike = record {
          worlds = worlds_entered (sizes_of x frames) (sizes_of y frames) F.locals (λ f. refl) (spend entry_weight s.world) (spend entry_weight s'.world) g (worlds_spend s.world s'.world entry_weight m.worlds);
          cells = λ q e. subst (λ ps. Known N (received temporaries (function_at x g).params (map s.cells args) q) (received registers_and_slots ps (map s'.cells (map (w f) args)) (w (Some g) q))) (sym (F.params g)) (received_alike (w (Some g)) (function_at x g).params (map s.cells args) (map s'.cells (map (w f) args)) (F.params_apart g) (args_known w x y frames F.locals F.globals F.literals f i k s s' m args (maybe t) h.2 args (λ a l. l)) q);
        };
        back = λ v v' g. returns w x y frames F.locals F.globals F.literals f i k s s' m t args h.2 h.3 h.4 v v' g.0.worlds g.1;
      }
      go false b' e = (s', ap (λ q. did (if_room q s' (begun registers_and_slots (sizes_of y frames) (function_at y g).params g (map (w f) args) s')) (λ v. Next v)) e, m.worlds)

  pub keeps : Keeps L L' PP
  keeps = record {
    events = λ f i s t m. sym m.worlds.events;
    given = λ f s t g. sym g.0.worlds.events;
    out = λ f i s t m. m.worlds;
    weaker_same = λ i q e. e;
    weaker = λ f i j s t h m. record { worlds = m.worlds; cells = λ q e. m.cells q (h q e) };
    ticks = λ f i n s t m. record { worlds = worlds_spend s.world t.world n m.worlds; cells = m.cells };
    op = λ f i k o ps s t h m. op_kept f i k o ps s t h m;
    test = λ f i a b s t h m. subst (λ q. TestAlike (word_tested (s.cells a)) (word_tested (t.cells q))) (sym h.0) (test_known N (s.cells a) (t.cells (w f a)) (m.cells a h.1));
    give = λ f i a b s t h m. (record { worlds = m.worlds; cells = λ q e. absurd (false≢true e) }, give_kept f i a b s t h m);
    none = λ f s t m. (record { worlds = m.worlds; cells = λ q e. absurd (false≢true e) }, tt);
    call = λ f i k t u g args brgs s s' h m. call_kept f i k t u g args brgs s s' h m;
    bodies = λ g. F.bodies g;
    act_more = λ o t. act_more registers_and_slots y frames o t;
    enter_more = λ g args t. enter_more registers_and_slots y frames g args t;
    back_more = λ u t v. back_more registers_and_slots y frames u t v;
    give_more = λ a t. refl;
    none_more = λ t. refl;
    tick_more = λ n t. refl;
  }

  opened : (answers : List ℕ) (card : Option (List ℕ)) → WorldsAlike (opening_world x.globals x.literals answers card) (opening_world y.globals y.literals answers card)
  opened answers card = subst (λ gs. WorldsAlike (opening_world x.globals x.literals answers card) (opening_world gs y.literals answers card)) (sym F.globals) (subst (λ ls. WorldsAlike (opening_world x.globals x.literals answers card) (opening_world x.globals ls answers card)) (sym F.literals) (record {
    count = refl;
    memory = memory (opening_objects x.globals x.literals card) (opening_objects x.globals x.literals card) (λ o. twin_self (object_at (opening_objects x.globals x.literals card) o));
    answers = refl;
    function = refl;
    locals = refl;
    used = refl;
    events = refl;
    work = refl;
  }))

  pub program : Program temporaries registers_and_slots x y frames frames PP
  program = record {
    keeps = keeps;
    ev = λ s. refl;
    ev' = λ t. refl;
    globals = ap length F.globals;
    literals = ap length F.literals;
    main = F.main;
    begun = None;
    of_start = refl;
    start = F.start;
    opening = λ answers card is. record { worlds = opened answers card; cells = λ q e. tt };
    goes = λ s t g. g.0;
    call = (refl, refl, (λ q. refl), (λ a b e. absurd (cc)), (λ q e. absurd (false≢true e)));
    ended = λ s t a. worlds_ended (length x.globals) (length x.globals + length x.literals) s.world t.world a;
    out = λ s t a. worlds_ended (length x.globals) (length x.globals + length x.literals) s.world t.world a;
    deep = λ s t a. record { events = a.events; work = let e = a.work in omega (arith, e) };
  }

-- ---- the placed code of a program

nothing_live : (q : ℕ) → Live q [] Stop → ⊥
nothing_live q l = false≢true (path_computed q [] Stop l)

safe_none : IsSafe no_function []
safe_none = record {
  count = refl;
  chosen = tt;
  params = λ a b e. absurd (false≢true e);
  points = (λ a b l. absurd (nothing_live a l), tt);
}

safe_at : (fs : List (FunctionT ℕ)) (wss : List (List Where)) → EachSafe fs wss → (g : ℕ) → IsSafe (get_or fs g no_function) (choice_at wss g)
safe_at [] [] h g = safe_none
safe_at [] (ws ∷ wss) h g = absurd h
safe_at (f ∷ fs) [] h g = absurd h
safe_at (f ∷ fs) (ws ∷ wss) h zero = h.0
safe_at (f ∷ fs) (ws ∷ wss) h (suc g) = safe_at fs wss h.1 g

placed_at : (fs : List (FunctionT ℕ)) (wss : List (List Where)) (g : ℕ) → get_or (placed_functions wss fs) g no_function ≡ placed_function (placing (choice_at wss g)) (get_or fs g no_function)
placed_at [] wss g = refl
placed_at (f ∷ fs) [] zero = refl
placed_at (f ∷ fs) [] (suc g) = placed_at fs [] g
placed_at (f ∷ fs) (ws ∷ wss) zero = refl
placed_at (f ∷ fs) (ws ∷ wss) (suc g) = placed_at fs wss g

nodes_at : (x : CodeT ℕ) (fs : List (FunctionT ℕ)) → AllOf (IsFunction IsTemporary x) fs → (g : ℕ) → (m : ℕ) × AreNodes x m [] (get_or fs g no_function).body
nodes_at x [] h g = (0, tt)
nodes_at x (f ∷ fs) h zero = (length f.locals, h.0.nodes)
nodes_at x (f ∷ fs) h (suc g) = nodes_at x fs h.1 g

-- the place of each temporary, by function
abbrev pub places_by : (start : List Where) → List (List Where) → Option ℕ → ℕ → Where
places_by start wss None = placing start
places_by start wss (Some g) = placing (choice_at wss g)

module _ (x : CodeT ℕ) (start : List Where) (wss : List (List Where)) (is_mid : IsMid x) (start_safe : IsSafe x.start start) (all_safe : EachSafe x.functions wss) (frames : List ℕ) where
  abbrev W : Option ℕ → ℕ → Where
  W = places_by start wss

  abbrev Y : CodeT Where
  Y = placed_code start wss x

  is_placed : (g : ℕ) → function_at Y g ≡ placed_function (placing (choice_at wss g)) (function_at x g)
  is_placed g = placed_at x.functions wss g

  body_like : (g : ℕ) → Like (places_pass W x Y frames frames) (Some g) [] (λ q. is_live_at q [] (function_at x g).body) (function_at x g).body (placed_nodes (placing (choice_at wss g)) (function_at x g).body) (λ q. false)
  body_like g =
      let n = nodes_at x x.functions is_mid.functions g in
      like_placed W x Y frames (Some g) (choice_at wss g) (placing_one (choice_at wss g)) (placing_slot (choice_at wss g)) n.0 [] (function_at x g).body (safe_at x.functions wss all_safe g).points n.1

  pub fits : Fits W x Y frames
  fits = record {
    globals = refl;
    literals = refl;
    main = refl;
    locals = λ g. ap (λ f. f.locals) (is_placed g);
    params = λ g. ap (λ f. f.params) (is_placed g);
    params_apart = λ g a b e f h. (safe_at x.functions wss all_safe g).params a b e f (placing_one (choice_at wss g) a b h);
    bodies = λ g. subst (λ c. Like (places_pass W x Y frames frames) (Some g) [] (λ q. is_live_at q [] (function_at x g).body) (function_at x g).body c (λ q. false)) (sym (ap (λ f. f.body) (is_placed g))) (body_like g);
    start = like_placed W x Y frames None start (placing_one start) (placing_slot start) (length x.start.locals) [] x.start.body start_safe.points is_mid.start.function.nodes;
  }

-- Placed code keeps the runs of mid code, for the frame sizes that it has.
pub placed_keeps : (x : CodeT ℕ) (start : List Where) (wss : List (List Where)) → IsMid x → IsSafe x.start start → EachSafe x.functions wss → KeepsRuns (mid_runs x (placed start wss x).frames) (placed_runs (placed start wss x))
placed_keeps x start wss m s a = let f = (placed start wss x).frames in program_keeps temporaries registers_and_slots x (placed_code start wss x) f f (places_pass (places_by start wss) x (placed_code start wss x) f f) (program (places_by start wss) x (placed_code start wss x) f (fits x start wss m s a f))

-- It does no more work.
pub placed_works : (x : CodeT ℕ) (start : List Where) (wss : List (List Where)) → IsMid x → IsSafe x.start start → EachSafe x.functions wss → WorksAtMost 1 (mid_runs x (placed start wss x).frames) (placed_runs (placed start wss x))
placed_works x start wss m s a = let f = (placed start wss x).frames in program_works temporaries registers_and_slots x (placed_code start wss x) f f (places_pass (places_by start wss) x (placed_code start wss x) f f) (program (places_by start wss) x (placed_code start wss x) f (fits x start wss m s a f))
