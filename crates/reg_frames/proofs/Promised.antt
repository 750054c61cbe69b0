-- What `place` promises holds of the code by the choices.
use Rattle.std.proofs.Common.{◌≡◌, ℕ, List, [], ◌∷◌, refl, arith}
use Rattle.mid_code.specs.declared.placed.Where.{Where}
use Rattle.mid_code.specs.Code.{FunctionT, CodeT}
use Rattle.mid_code.specs.Placed.{SpotsT, PlacedT}
use Rattle.mid_code.specs.Safe.{IsSafe}
use Rattle.mid_code.specs.Choices.{EachSafe, AreSafe}
use Rattle.mid_code.specs.Invariants.{AllOf, IsFunction, IsTemporary, IsMid, IsPlaced}
use Rattle.reg_frames.specs.inner.Placing.{placing, placed_function, frame_sizes, placed_functions, all_spots, placed}
use Rattle.reg_frames.specs.Placeable.{first_of, later, IsPlaceable, ArePlaceable}
use Rattle.reg_frames.specs.PlacedFrom.{AreFrames, IsPlacedFrom}
use Rattle.reg_frames.proofs.Slots.{named_count}
use Rattle.reg_frames.proofs.Frames.{weight_same, adds_none, none_added, numbers_few, size_at_most, size_at_least}
use Rattle.reg_frames.proofs.AtOnce.{frame_holds}
use Rattle.reg_frames.proofs.Invariants.{placed_is}
use Rattle.reg_frames.proofs.Placed.{placed_keeps, placed_works}

placeable : (x : CodeT ℕ) (f : FunctionT ℕ) (ws : List Where) → IsFunction IsTemporary x f → IsSafe f ws → IsPlaceable f ws
placeable x f ws i s =
    let params = numbers_few f.temps f.params i.params_named i.params_differ in
    let slots = named_count ws in
    let count = i.count in
    let words = i.words in
    let temps = s.count in
    record {
      few = omega (arith, count, temps);
      params = omega (arith, params, count);
      fits = omega (arith, slots, temps, count, words);
    }

each_placeable : (x : CodeT ℕ) (fs : List (FunctionT ℕ)) (wss : List (List Where)) → AllOf (IsFunction IsTemporary x) fs → EachSafe fs wss → ArePlaceable fs wss
each_placeable x [] wss i s = tt
each_placeable x (f ∷ fs) [] i s = absurd s
each_placeable x (f ∷ fs) (ws ∷ wss) i s = (placeable x f ws i.0 s.0, each_placeable x fs wss i.1 s.1)

pub start_placeable : (x : CodeT ℕ) (wss : List (List Where)) → IsMid x → AreSafe x wss → IsPlaceable x.start (first_of wss)
start_placeable x [] m s = absurd s
start_placeable x (ws ∷ wss) m s = placeable x x.start ws m.start.function s.0

pub functions_placeable : (x : CodeT ℕ) (wss : List (List Where)) → IsMid x → AreSafe x wss → ArePlaceable x.functions (later wss)
functions_placeable x [] m s = absurd s
functions_placeable x (ws ∷ wss) m s = each_placeable x x.functions wss m.functions s.1

frames_are : (x : CodeT ℕ) (start : List Where) (wss all : List (List Where)) (fs : List (FunctionT ℕ)) → AllOf (IsFunction IsTemporary x) fs → EachSafe fs wss → AreFrames fs wss (frame_sizes wss fs)
frames_are x start [] all [] i s = tt
frames_are x start (ws ∷ wss) all [] i s = absurd s
frames_are x start [] all (f ∷ fs) i s = absurd s
frames_are x start (ws ∷ wss) all (f ∷ fs) i s =
    let le = size_at_most ws f in
    (record { at_most = omega (arith, le); holds_all = size_at_least ws f; at_least = frame_holds ws f }, frames_are x start wss all fs i.1 s.1)

pub is_placed : (x : CodeT ℕ) (wss : List (List Where)) → IsMid x → AreSafe x wss → IsPlaced (placed (first_of wss) (later wss) x)
is_placed x [] m s = absurd s
is_placed x (ws ∷ wss) m s = placed_is x ws wss m s.0 s.1

pub is_placed_from : (x : CodeT ℕ) (wss : List (List Where)) → IsMid x → AreSafe x wss → IsPlacedFrom x wss (placed (first_of wss) (later wss) x)
is_placed_from x [] m s = absurd s
is_placed_from x (ws ∷ wss) m s = record {
  is_placed = placed_is x ws wss m s.0 s.1;
  keeps = placed_keeps x ws wss m s.0 s.1;
  works = placed_works x ws wss m s.0 s.1;
  weighs = let e = weight_same x ws wss in omega (arith, e);
  frames = frames_are x ws wss wss x.functions m.functions s.1;
  adds_none = none_added wss x.functions;
  start_adds_none = adds_none ws x.start;
  globals = refl;
  literals = refl;
  main = refl;
}

-- the code of these parts
abbrev pub made : FunctionT Where → List (FunctionT Where) → List ℕ → List (List ℕ) → ℕ → List ℕ → List SpotsT → PlacedT
made s fs gs ls m zs ss = record { code = record { start = s; functions = fs; globals = gs; literals = ls; main = m }; frames = zs; spots = ss }

pub placed_of : (x : CodeT ℕ) (start : List Where) (wss : List (List Where)) (s : FunctionT Where) (fs : List (FunctionT Where)) (gs : List ℕ) (ls : List (List ℕ)) (m : ℕ) (zs : List ℕ) (ss : List SpotsT)
    → s ≡ placed_function (placing start) x.start → fs ≡ placed_functions wss x.functions → gs ≡ x.globals → ls ≡ x.literals → m ≡ x.main → zs ≡ frame_sizes wss x.functions → ss ≡ all_spots wss x.functions
    → made s fs gs ls m zs ss ≡ placed start wss x
placed_of x start wss s fs gs ls m zs ss a b c d e f g = λ i. made (a i) (b i) (c i) (d i) (e i) (f i) (g i)

pub ruleset promised = (start_placeable, functions_placeable, is_placed, is_placed_from)
