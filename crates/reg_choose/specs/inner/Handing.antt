-- The scan as it goes: what each temporary has, a register or none, and the places made of it.
use Rattle.std.specs.Prelude.{ℕ, suc, List, [], ◌∷◌, Bool, true, false, ◌&&◌, not, eqb, cond, Option, Some, None, get_or}
use Rattle.mid_code.specs.declared.placed.Where.{Where}
use Rattle.mid_code.specs.declared.placed.Where.TheVariants.{Reg, Slot}
use Rattle.mid_code.specs.Spans.{Span}
use Rattle.reg_choose.specs.declared.interval.Interval.{Interval}
use Rattle.reg_choose.specs.declared.trail.Trail.{Trail}
use Rattle.reg_choose.specs.inner.Scan.{free, taking}

-- ---- what is scanned

-- as it stands in memory
abbrev pub span : Interval → Span
span s = record { temp = s.temp; first = s.first; last = s.last }

abbrev pub span_at : ℕ → Trail → Span
span_at x r = record { temp = x; first = r.first; last = r.last }

-- the spans of what stands anywhere and is live across no call; the first trail is that of x
abbrev pub spans_from : ℕ → List Trail → List Span
spans_from x [] = []
spans_from x (r ∷ rs) = cond (r.held && not r.crosses) (span_at x r ∷ spans_from (suc x) rs) (spans_from (suc x) rs)

-- the flag of a temporary
abbrev pub flag : List Bool → ℕ → Bool
flag s x = get_or s x false

-- the spans of what is not put out
abbrev pub kept : (ℕ → Bool) → List Span → List Span
kept o [] = []
kept o (s ∷ ss) = cond (o s.temp) (kept o ss) (s ∷ kept o ss)

-- ---- registers handed out

-- the place from which the register of a tenant is free
abbrev pub freed : Option Interval → ℕ
freed None = 0
freed (Some s) = suc s.last

abbrev pub freed_at : List (Option Interval) → ℕ → ℕ
freed_at ts r = freed (get_or ts r None)

abbrev pub written : (ℕ → Option ℕ) → ℕ → Option ℕ → ℕ → Option ℕ
written g k v x = cond (eqb x k) v (g x)

abbrev pub give : (ℕ → Option ℕ) → (ℕ → ℕ) → List Span → (ℕ → Option ℕ)
give g f [] = g
give g f (s ∷ ss) = give (written g s.temp (free f s.first 9)) (taking f s (free f s.first 9)) ss

abbrev pub got : List (Option ℕ) → ℕ → Option ℕ
got os x = get_or os x None

-- before the scan: nothing for what is put out
abbrev pub first_got : Bool → Option ℕ
first_got true = None
first_got false = Some 0

-- ---- places

-- slots by their numbers, from n on
abbrev pub numbered : ℕ → List (Option ℕ) → List Where
numbered n [] = []
numbered n (None ∷ os) = Slot n ∷ numbered (suc n) os
numbered n (Some r ∷ os) = Reg r ∷ numbered n os
