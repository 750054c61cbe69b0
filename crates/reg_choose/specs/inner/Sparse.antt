-- Trails found with less: what a node names stands there, and elsewhere only what begins or ceases to be live.
use Rattle.std.specs.Prelude.{ℕ, suc, ◌+◌, ◌∷◌, List, Bool, true, false, ◌&&◌, ◌||◌, not}
use Rattle.mid_code.specs.Code.{NodesT, Stop, Do, Call, Choose, Block, Loop, Leave, Again, Return}
use Rattle.mid_code.specs.Live.{Label, label, is_used, is_target, is_live}
use Rattle.mid_code.specs.Spans.{places}
use Rattle.reg_choose.specs.declared.trail.Trail.{Trail}
use Rattle.reg_choose.specs.inner.Trails.{stood, called}

abbrev pub follows : NodesT ℕ → Bool
follows Stop = false
follows _ = true

-- live behind a node, and not before it, where more nodes follow
abbrev pub ceases : (before behind more : Bool) → Bool
ceases l j w = j && (not l && w)

-- what nodes with a first place n add to the trail of x; whether more nodes follow them
abbrev pub sparse : (x : ℕ) → List Label → NodesT ℕ → (behind more : Bool) → (n : ℕ) → Trail → Trail
sparse x ls Stop j w n r = r
sparse x ls (Do o c) j w n r = stood (is_target (Do o c) x) n (stood (is_used (Do o c) x) n (sparse x ls c j w (suc n) r))
sparse x ls (Call t f args c) j w n r =
    stood (is_target (Call t f args c) x) n
    (stood (is_used (Call t f args c) x) n (called (Call t f args c) x (is_live x ls c j) (sparse x ls c j w (suc n) r)))
sparse x ls (Choose p a b c) j w n r =
    stood (is_used (Choose p a b c) x) n
    (stood (ceases (is_live x ls (Choose p a b c) j) (is_live x ls c j) (follows c || w)) (suc (places a + (places b + n)))
    (sparse x ls a (is_live x ls c j) false (suc n)
    (sparse x ls b (is_live x ls c j) false (suc (places a + n))
    (sparse x ls c j w (suc (places a + (places b + n))) r))))
sparse x ls (Block b c) j w n r =
    stood (ceases (is_live x ls (Block b c) j) (is_live x ls c j) (follows c || w)) (suc (places b + n))
    (sparse x (label false (is_live x ls c j) ∷ ls) b (is_live x ls c j) false (suc n) (sparse x ls c j w (suc (places b + n)) r))
sparse x ls (Loop b c) j w n r =
    stood (ceases (is_live x ls (Loop b c) j) (is_live x ls c j) (follows c || w)) (suc (places b + n))
    (sparse x (label (is_live x ls (Loop b c) j) (is_live x ls c j) ∷ ls) b (is_live x ls c j) false (suc n)
    (sparse x ls c j w (suc (places b + n)) r))
sparse x ls (Leave k c) j w n r = stood (ceases (is_live x ls (Leave k c) j) (is_live x ls c j) (follows c || w)) (suc n) (sparse x ls c j w (suc n) r)
sparse x ls (Again k c) j w n r =
    stood (is_live x ls (Again k c) j && not (is_live x ls c j)) n
    (stood (ceases (is_live x ls (Again k c) j) (is_live x ls c j) (follows c || w)) (suc n) (sparse x ls c j w (suc n) r))
sparse x ls (Return p c) j w n r =
    stood (is_used (Return p c) x) n
    (stood (ceases (is_live x ls (Return p c) j) (is_live x ls c j) (follows c || w)) (suc n) (sparse x ls c j w (suc n) r))
