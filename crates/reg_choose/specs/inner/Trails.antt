-- The span of a temporary, and whether it is live across a call, as one walk over the code finds them.
use Rattle.std.specs.Prelude.{ℕ, suc, ◌+◌, List, [], ◌∷◌, Bool, true, false, ◌&&◌, ◌||◌, not, cond, min, max, get_or}
use Rattle.mid_code.specs.Code.{NodesT, Stop, Do, Call, Choose, Block, Loop, Leave, Again, Return, FunctionT, maybe}
use Rattle.mid_code.specs.Live.{Label, label, is_among, is_target, is_live}
use Rattle.mid_code.specs.Spans.{places}
use Rattle.reg_choose.specs.declared.trail.Trail.{Trail}

abbrev pub no_trail : Trail
no_trail = record { held = false; first = 0; last = 0; crosses = false }

abbrev pub trail_at : List Trail → ℕ → Trail
trail_at rs x = get_or rs x no_trail

-- the place added
abbrev pub longer : ℕ → Trail → Trail
longer p r = record { held = true; first = cond r.held (min p r.first) p; last = cond r.held (max p r.last) p; crosses = r.crosses }

-- where it stands at the place
abbrev pub stood : Bool → ℕ → Trail → Trail
stood b p r = cond b (longer p r) r

-- where it is live across a call
abbrev pub crossing : Bool → Trail → Trail
crossing b r = record { held = r.held; first = r.first; last = r.last; crosses = b || r.crosses }

-- what is live behind a call, and is not its target, crosses it
abbrev pub called : NodesT ℕ → (x : ℕ) → (behind : Bool) → Trail → Trail
called (Call t f args c) x j r = crossing (j && not (is_among (maybe t) x)) r
called _ x j r = r

-- what nodes with a first place n add to the trail of x
abbrev pub trailed : (x : ℕ) → List Label → NodesT ℕ → (behind : Bool) → (n : ℕ) → Trail → Trail
trailed x ls Stop j n r = r
trailed x ls (Do o c) j n r = stood (is_target (Do o c) x) n (stood (is_live x ls (Do o c) j) n (trailed x ls c j (suc n) r))
trailed x ls (Call t f args c) j n r =
    stood (is_target (Call t f args c) x) n (stood (is_live x ls (Call t f args c) j) n
    (called (Call t f args c) x (is_live x ls c j) (trailed x ls c j (suc n) r)))
trailed x ls (Choose p a b c) j n r =
    stood (is_live x ls (Choose p a b c) j) n
    (trailed x ls a (is_live x ls c j) (suc n)
    (trailed x ls b (is_live x ls c j) (suc (places a + n)) (trailed x ls c j (suc (places a + (places b + n))) r)))
trailed x ls (Block b c) j n r =
    stood (is_live x ls (Block b c) j) n
    (trailed x (label false (is_live x ls c j) ∷ ls) b (is_live x ls c j) (suc n) (trailed x ls c j (suc (places b + n)) r))
trailed x ls (Loop b c) j n r =
    stood (is_live x ls (Loop b c) j) n
    (trailed x (label (is_live x ls (Loop b c) j) (is_live x ls c j) ∷ ls) b (is_live x ls c j) (suc n) (trailed x ls c j (suc (places b + n)) r))
trailed x ls (Leave k c) j n r = stood (is_live x ls (Leave k c) j) n (trailed x ls c j (suc n) r)
trailed x ls (Again k c) j n r = stood (is_live x ls (Again k c) j) n (trailed x ls c j (suc n) r)
trailed x ls (Return p c) j n r = stood (is_live x ls (Return p c) j) n (trailed x ls c j (suc n) r)

-- the trail of a temporary of a function
abbrev pub trail_of : FunctionT ℕ → ℕ → Trail
trail_of f x = stood (is_among f.params x) 0 (trailed x [] f.body false 1 no_trail)
