-- Lines taken from tokens that are still to be read.
use Rattle.std.proofs.Common.{◌≡◌, ℕ, Bool, true, false, not, ◌||◌, cond, List, [], ◌∷◌, ◌++◌, refl, sym, ap, subst, append_assoc, ◌∙◌}
use Rattle.std.specs.Prelude.{Option, Some, None, IfNone, IfSome, Result, Ok, Vec}
use Rattle.std.specs.declared.alloc.Global.{Global}
use Rattle.std.specs.List.{AllByRecursion}
use Rattle.c_lex.specs.declared.token.Token.{Token}
use Rattle.c_lex.specs.Reading.{goes_on}
use Rattle.c_prep.specs.declared.conditions.Condition.{Condition}
use Rattle.c_prep.specs.Faults.{◌>>=◌}
use Rattle.c_prep.specs.Conditions.{skips}
use Rattle.c_prep.specs.Lines.{IsLine, before, begins, begins_directive, lines_of}
use Rattle.c_prep.specs.Directives.{Directed, directive_in}
use Rattle.c_prep.specs.Steps.{Moment, step_by, step_at}
use Rattle.c_prep.specs.Files.{Progress, Stop, InFile, Including, Inclusion, stopping, refusing, line_by, include_in, lines_at, ended}
use Rattle.c_prep.specs.inner.Inner.{ArePlaced, lines_left}

pub at_some : {T : Type 0} (P : T → Type 0) (o : Option T) (x : T) → o ≡ Some x → IfSome o P → P x
at_some {T} P o x is h = subst (λ (o : Option T). IfSome o P) is h

pub at_none : {T : Type 0} (P : Type 0) (o : Option T) → o ≡ None → IfNone o P → P
at_none {T} P o is h = subst (λ (o : Option T). IfNone o P) is h

-- ---- one line

more_by : (us : List Token) (t : Token) → AllByRecursion (λ u. u.first ≡ false) us → t.first ≡ false → AllByRecursion (λ u. u.first ≡ false) (us ++ t ∷ [])
more_by [] t all here = (here, tt)
more_by (u ∷ us) t all here = (all.0, more_by us t all.1 here)

pub line_more : (line : List Token) (t : Token) → IsLine line → t.first ≡ false → IsLine (line ++ t ∷ [])
line_more [] t is here = absurd is
line_more (u ∷ us) t is here = more_by us t is here

is_first : (b : Bool) → not b ≡ false → b ≡ true
is_first true e = refl
is_first false e = absurd cc

abbrev Alone : Token → List (List Token) → Type 0
Alone t lines = before t lines ≡ (t ∷ []) ∷ lines

alone_by : (t u : Token) (ls : List (List Token)) → u.first ≡ true → Alone t (before u ls)
alone_by t u [] e = rw e refl
alone_by t u (l ∷ ls) e = elim (begins l) as (λ b. Alone t (cond b ((u ∷ []) ∷ l ∷ ls) ((u ∷ l) ∷ ls))) [ true ↦ rw e refl | false ↦ rw e refl ]

joined : (t u : Token) (us : List Token) (lines : List (List Token)) → u.first ≡ false → before t ((u ∷ us) ∷ lines) ≡ (t ∷ u ∷ us) ∷ lines
joined t u us lines e = rw e refl

alone : (t : Token) (rest : List Token) → goes_on rest ≡ false → lines_of (t ∷ rest) ≡ (t ∷ []) ∷ lines_of rest
unfolding lines_of
alone t [] end = refl
alone t (u ∷ us) end = alone_by t u (lines_of us) (is_first u.first end)

pub line_then : (line rest : List Token) → IsLine line → goes_on rest ≡ false → lines_of (line ++ rest) ≡ line ∷ lines_of rest
unfolding lines_of
line_then [] rest is end = absurd is
line_then (t ∷ []) rest is end = alone t rest end
line_then (t ∷ u ∷ us) rest is end = ap (before t) (line_then (u ∷ us) rest is.1 end) ∙ joined t u us (lines_of rest) is.0

pub line_whole : (all line tokens new : List Token) → all ≡ line ++ tokens → IsLine line → goes_on tokens ≡ false → new ≡ tokens → lines_of all ≡ line ∷ lines_of new
line_whole all line tokens new parts is end left = ap lines_of parts ∙ line_then line tokens is end ∙ ap (λ (ts : List Token). line ∷ lines_of ts) (sym left)

pub parts_more : (all line tokens new line' : List Token) (t : Token) → all ≡ line ++ tokens → tokens ≡ t ∷ new → line' ≡ line ++ t ∷ [] → all ≡ line' ++ new
parts_more all line tokens new line' t parts next is =
    parts ∙ ap (λ (ts : List Token). line ++ ts) next ∙ sym (append_assoc line (t ∷ []) new) ∙ ap (λ (l : List Token). l ++ new) (sym is)

pub no_lines_left : (tokens : List Token) → tokens ≡ [] → lines_of tokens ≡ []
unfolding lines_of
no_lines_left tokens is = ap lines_of is

-- ---- a part that is skipped

pub both_no : (skipped directive : Bool) → (not skipped || directive) ≡ false → (skipped ≡ true) × (directive ≡ false)
both_no true directive e = (refl, e)
both_no false directive e = absurd cc

unbegun : (line : List Token) → begins line ≡ false → directive_in line ≡ None
unfolding directive_in
unbegun [] e = refl
unbegun (u ∷ us) e = rw e refl

no_directive_by : (t : Token) (ts : List Token) → begins_directive t ≡ false → directive_in (t ∷ ts) ≡ None
unfolding directive_in
no_directive_by t ts e = rw e refl

module _ (include : Including) (p : Progress) (cs : List Condition) (skip : skips cs ≡ true) where
  abbrev After : List (List Token) → Result InFile Stop → Result InFile Stop
  After lines r = r >>= λ q. lines_at include lines q.0 q.1

  abbrev with_names : Moment → Result InFile Stop
  with_names q = Ok (record { work = q.0; names = p.names }, q.1)

  none_included : (line : List Token) → include_in line cs ≡ None
  unfolding include_in
  none_included line = rw skip refl

  nothing_done : (line : List Token) → directive_in line ≡ None → step_at line p.work cs ≡ Ok (p.work, cs)
  unfolding step_at
  nothing_done line none = ap (λ (d : Option Directed). step_by d line p.work cs) none ∙ rw skip refl

  silent : (line : List Token) (lines : List (List Token)) → directive_in line ≡ None → lines_at include (line ∷ lines) p cs ≡ lines_at include lines p cs
  unfolding lines_at
  silent line lines none =
      ap (λ (o : Option Inclusion). After lines (line_by o include line p cs)) (none_included line)
      ∙ ap (λ r. After lines (stopping p.names (refusing r) >>= with_names)) (nothing_done line none)

  passed_by : (t : Token) (ls : List (List Token)) → begins_directive t ≡ false → lines_at include (before t ls) p cs ≡ lines_at include ls p cs
  passed_by t [] e = silent (t ∷ []) [] (no_directive_by t [] e)
  passed_by t (line ∷ lines) e = elim (begins line) as (λ b. begins line ≡ b → lines_at include (cond b ((t ∷ []) ∷ line ∷ lines) ((t ∷ line) ∷ lines)) p cs ≡ lines_at include (line ∷ lines) p cs) [
    | true ↦ λ h. silent (t ∷ []) (line ∷ lines) (no_directive_by t [] e)
    | false ↦ λ h. silent (t ∷ line) lines (no_directive_by t line e) ∙ sym (silent line lines (unbegun line h))
  ] refl

  -- a token that begins no directive is passed
  pub passed : (t : Token) (ts : List Token) → begins_directive t ≡ false → lines_at include (lines_of (t ∷ ts)) p cs ≡ lines_at include (lines_of ts) p cs
  unfolding lines_of
  passed t ts e = passed_by t (lines_of ts) e

-- ---- where the tokens are placed

pub placed_parts : (n : ℕ) (xs ys : List Token) → ArePlaced n (xs ++ ys) → ArePlaced n xs × ArePlaced n ys
placed_parts n [] ys a = (tt, a)
placed_parts n (x ∷ xs) ys a = let more = placed_parts n xs ys a.1 in ((a.0, more.0), more.1)

module _ (n : ℕ) (new : List Token) (line : Vec Token Global) (o : Option (Vec Token Global)) (is : o ≡ Some line) where
  pub placed_line : (text : List Token) → IfSome o (λ l. ArePlaced n l.items) → text ≡ line.items → ArePlaced n text
  placed_line text placed text-is =
      let here : ArePlaced n line.items = subst (λ (o : Option (Vec Token Global)). IfSome o (λ l. ArePlaced n l.items)) is placed in
      subst (ArePlaced n) (sym text-is) here

  pub placed_rest : IfSome o (λ l. ArePlaced n new) → ArePlaced n new
  placed_rest placed = subst (λ (o : Option (Vec Token Global)). IfSome o (λ l. ArePlaced n new)) is placed

-- ---- what is due of a file, from its next line on

module _ (include : Including) (file : ℕ) (tokens new : List Token) (o : Option (Vec Token Global)) (p : Progress) (cs : List Condition) (total : Result Progress Stop)
    (same : lines_at include (lines_of tokens) p cs ≡ lines_at include (lines_left o new) p cs) (so_far : (lines_at include (lines_of tokens) p cs >>= ended file) ≡ total) where
  from_here : (lines : List (List Token)) → lines_left o new ≡ lines → (lines_at include lines p cs >>= ended file) ≡ total
  from_here lines is = sym (ap (λ (r : Result InFile Stop). r >>= ended file) (same ∙ ap (λ (ls : List (List Token)). lines_at include ls p cs) is)) ∙ so_far

  pub taken : (line : Vec Token Global) (text : List Token) → o ≡ Some line → text ≡ line.items → (lines_at include (text ∷ lines_of new) p cs >>= ended file) ≡ total
  taken line text is text-is = from_here (text ∷ lines_of new) (ap (λ (o : Option (Vec Token Global)). lines_left o new) is ∙ ap (λ (l : List Token). l ∷ lines_of new) (sym text-is))

  pub all_taken : o ≡ None → (lines_at include [] p cs >>= ended file) ≡ total
  all_taken is = from_here [] (ap (λ (o : Option (Vec Token Global)). lines_left o new) is)
