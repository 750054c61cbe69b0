-- A file, line by line, with the files that it includes.
use Rattle.std.proofs.Common.{◌≡◌, ℕ, zero, suc, ◌-◌, ◌<◌, Bool, true, false, ◌&&◌, ltb, List, [], ◌∷◌, ◌++◌, length, refl, sym, ap, ◌∙◌, subst, arith}
use Rattle.std.specs.Prelude.{Option, Some, None, Result, Ok, Err}
use Rattle.std.proofs.lemmas.Bool.{lt-ltb}
use Rattle.kit_base.specs.Held.{Held}
use Rattle.kit_base.specs.Outside.{due}
use Rattle.kit_base.specs.declared.failure.Failure.{Failure}
use Rattle.kit_base.specs.declared.failure.Failure.TheVariants.{Memory, Cause}
use Rattle.c_lex.specs.declared.token.Token.{Token}
use Rattle.c_lex.specs.Found.{reading_of}
use Rattle.c_prep.specs.declared.error.PrepFault.{PrepFault}
use Rattle.c_prep.specs.declared.error.PrepFault.TheVariants as e
use Rattle.c_prep.specs.declared.conditions.Condition.{Condition}
use Rattle.c_prep.specs.declared.work.Work.{Work}
use Rattle.c_prep.specs.Faults.{◌>>=◌}
use Rattle.c_prep.specs.Conditions.{closed}
use Rattle.c_prep.specs.Lines.{lines_of}
use Rattle.c_prep.specs.Steps.{step_at}
use Rattle.c_prep.specs.Files.{Progress, Stop, InFile, Including, Inclusion, stopping, refusing, line_by, include_in, lines_at, bytes_of, lexed, tokens_of, ended, with_name, file_at, missing_at, too_deep, include_at}
use Rattle.c_prep.specs.inner.Inner.{GivesAs, GivesOut}

-- the tokens of a file
module _ (m : Held) (missing : PrepFault) (name : List ℕ) (file : ℕ) {X Y : Type 0} (bytes_in : X → List ℕ) (tokens_in : Y → List Token) where
  pub tokens_refused : (x : Failure PrepFault) → GivesAs bytes_in (Err x) (bytes_of missing file (due m name)) → GivesAs tokens_in (Err x) (tokens_of m missing name file)
  unfolding tokens_of
  tokens_refused (Cause (e.At code at line)) h = ap (λ (r : Result (List ℕ) PrepFault). r >>= λ bytes. lexed file (reading_of file bytes)) h
  tokens_refused (Cause e.NoSource) h = ap (λ (r : Result (List ℕ) PrepFault). r >>= λ bytes. lexed file (reading_of file bytes)) h
  tokens_refused (Cause (e.Failed at)) h = tt
  tokens_refused (Cause (e.TooLong at)) h = ap (λ (r : Result (List ℕ) PrepFault). r >>= λ bytes. lexed file (reading_of file bytes)) h
  tokens_refused Memory h = tt

  pub tokens_read : (bytes : List ℕ) (r : Result Y (Failure PrepFault)) → bytes_of missing file (due m name) ≡ Ok bytes → GivesAs tokens_in r (lexed file (reading_of file bytes)) → GivesAs tokens_in r (tokens_of m missing name file)
  unfolding tokens_of
  tokens_read bytes r one h = subst (λ (s : Result (List ℕ) PrepFault). GivesAs tokens_in r (s >>= λ bytes. lexed file (reading_of file bytes))) (sym one) h

-- a file from its beginning
module _ (m : Held) (include : Including) (missing : PrepFault) (name : List ℕ) (p : Progress) where
  abbrev from_tokens : Result (List Token) PrepFault → Result Progress Stop
  from_tokens r = stopping (p.names ++ name ∷ []) r >>= (λ tokens. lines_at include (lines_of tokens) (with_name name p) [] >>= ended (length p.names))

  pub not_read : {Y : Type 0} (tokens_in : Y → List Token) (new : Progress) (x : Failure PrepFault) → GivesAs tokens_in (Err x) (tokens_of m missing name (length p.names))
      → GivesOut {X = Unit {0}} new (p.names ++ name ∷ []) (Err x) (file_at m include missing name p)
  unfolding file_at
  not_read tokens_in new (Cause (e.At code at line)) h = ap from_tokens h
  not_read tokens_in new (Cause e.NoSource) h = ap from_tokens h
  not_read tokens_in new (Cause (e.Failed at)) h = tt
  not_read tokens_in new (Cause (e.TooLong at)) h = ap from_tokens h
  not_read tokens_in new Memory h = tt

  pub begun : (tokens : List Token) → tokens_of m missing name (length p.names) ≡ Ok tokens
      → (lines_at include (lines_of tokens) (with_name name p) [] >>= ended (length p.names)) ≡ file_at m include missing name p
  unfolding file_at
  begun tokens one = sym (ap from_tokens one)

  -- the same with the number and the names that the program has
  module _ (file : ℕ) (names : List (List ℕ)) (numbered : file ≡ length p.names) (named : names ≡ p.names ++ name ∷ []) where
    pub not_read_at : {Y : Type 0} (tokens_in : Y → List Token) (new : Progress) (x : Failure PrepFault) → GivesAs tokens_in (Err x) (tokens_of m missing name file)
        → GivesOut {X = Unit {0}} new names (Err x) (file_at m include missing name p)
    not_read_at tokens_in new x h =
        subst (λ (ns : List (List ℕ)). GivesOut {X = Unit {0}} new ns (Err x) (file_at m include missing name p)) (sym named)
        (not_read tokens_in new x (subst (λ (n : ℕ). GivesAs tokens_in (Err x) (tokens_of m missing name n)) numbered h))

    pub begun_at : (tokens rest : List Token) (cs : List Condition) → tokens_of m missing name file ≡ Ok tokens → rest ≡ tokens → cs ≡ []
        → (lines_at include (lines_of rest) (record { work = p.work; names = names }) cs >>= ended file) ≡ file_at m include missing name p
    begun_at tokens rest cs one all none =
        let read : tokens_of m missing name (length p.names) ≡ Ok tokens = ap (tokens_of m missing name) (sym numbered) ∙ one in
        rw (all, none, named, numbered) (begun tokens read)

-- an include
module _ (m : Held) (room : ℕ) (i : Inclusion) (p : Progress) where
  pub deeper : 0 < room → length p.names < 10000 → include_at m room i p ≡ file_at m (include_at m (room - 1)) (missing_at i.hash) i.name p
  unfolding include_at
  deeper some few =
      let k : room ≡ suc (room - 1) = omega arith in
      let b : ltb (length p.names) 10000 ≡ true = lt-ltb _ _ few in
      ap (λ (r : ℕ). include_at m r i p) k ∙ rw b refl

  deep_by : (r : ℕ) (b : Bool) → ltb (length p.names) 10000 ≡ b → ltb 0 r && b ≡ false → include_at m r i p ≡ too_deep i p
  unfolding include_at
  deep_by zero b e h = refl
  deep_by (suc r) true e h = let k : ltb 0 (suc r) ≡ true = lt-ltb 0 (suc r) (omega arith) in absurd cc
  deep_by (suc r) false e h = rw e refl

  pub deep : ltb 0 room && ltb (length p.names) 10000 ≡ false → include_at m room i p ≡ too_deep i p
  deep h = deep_by room (ltb (length p.names) 10000) refl h

-- a line
module _ (include : Including) (file : ℕ) (lines : List (List Token)) (line : List Token) (after : List (List Token)) (p : Progress) (cs : List Condition) (total : Result Progress Stop) (whole : lines ≡ line ∷ after) (so_far : (lines_at include lines p cs >>= ended file) ≡ total) where
  abbrev with_conds : Progress → Result InFile Stop
  with_conds p' = Ok (p', cs)

  abbrev with_names : Work × List Condition → Result InFile Stop
  with_names q = Ok (record { work = q.0; names = p.names }, q.1)

  abbrev on_lines : Result InFile Stop → Result Progress Stop
  on_lines r = r >>= (λ q. lines_at include after q.0 q.1) >>= ended file

  abbrev after_include : Result Progress Stop → Result Progress Stop
  after_include r = on_lines (r >>= with_conds)

  abbrev after_step : Result (Work × List Condition) Stop → Result Progress Stop
  after_step r = on_lines (r >>= with_names)

  abbrev stepped : Result (Work × List Condition) Stop
  stepped = stopping p.names (refusing (step_at line p.work cs))

  step : (lines_at include lines p cs >>= ended file) ≡ on_lines (line_by (include_in line cs) include line p cs)
  unfolding lines_at
  step = ap (λ (ls : List (List Token)). lines_at include ls p cs >>= ended file) whole

  by_option : (o : Option Inclusion) → include_in line cs ≡ o → on_lines (line_by o include line p cs) ≡ total
  by_option o here = sym (step ∙ ap (λ (o : Option Inclusion). on_lines (line_by o include line p cs)) here) ∙ so_far

  pub by_include : (i : Inclusion) → include_in line cs ≡ Some i → after_include (include i p) ≡ total
  by_include i here = by_option (Some i) here

  by_line : include_in line cs ≡ None → after_step stepped ≡ total
  by_line here = by_option None here

  pub include_next : (i : Inclusion) (p' : Progress) → include_in line cs ≡ Some i → include i p ≡ Ok p' → (lines_at include after p' cs >>= ended file) ≡ total
  include_next i p' here one = sym (ap after_include one) ∙ by_include i here

  include_stops : (i : Inclusion) (stop : Stop) → include_in line cs ≡ Some i → include i p ≡ Err stop → total ≡ Err stop
  include_stops i stop here one = sym (by_include i here) ∙ ap after_include one

  pub include_refused : (i : Inclusion) (new new' : Progress) (names : List (List ℕ)) (x : Failure PrepFault) → include_in line cs ≡ Some i → GivesOut {X = Unit {0}} new names (Err x) (include i p) → GivesOut {X = Unit {0}} new' names (Err x) total
  include_refused i new new' names (Cause (e.At code at n)) here one = include_stops i _ here one
  include_refused i new new' names (Cause e.NoSource) here one = include_stops i _ here one
  include_refused i new new' names (Cause (e.Failed at)) here one = tt
  include_refused i new new' names (Cause (e.TooLong at)) here one = include_stops i _ here one
  include_refused i new new' names Memory here one = tt

  pub line_next : (w : Work) (cs' : List Condition) → include_in line cs ≡ None → stepped ≡ Ok (w, cs') → (lines_at include after (record { work = w; names = p.names }) cs' >>= ended file) ≡ total
  line_next w cs' here one = sym (ap after_step one) ∙ by_line here

  line_stops : (stop : Stop) → include_in line cs ≡ None → stepped ≡ Err stop → total ≡ Err stop
  line_stops stop here one = sym (by_line here) ∙ ap after_step one

  pub line_refused : (new : Work × List Condition) (new' : Progress) (x : Failure PrepFault) → include_in line cs ≡ None → GivesOut {X = Unit {0}} new p.names (Err x) stepped → GivesOut {X = Unit {0}} new' p.names (Err x) total
  line_refused new new' (Cause (e.At code at n)) here one = line_stops _ here one
  line_refused new new' (Cause e.NoSource) here one = line_stops _ here one
  line_refused new new' (Cause (e.Failed at)) here one = tt
  line_refused new new' (Cause (e.TooLong at)) here one = line_stops _ here one
  line_refused new new' Memory here one = tt

-- the end of a file
module _ (include : Including) (file : ℕ) (lines : List (List Token)) (p : Progress) (cs : List Condition) (total : Result Progress Stop) (empty : lines ≡ []) (so_far : (lines_at include lines p cs >>= ended file) ≡ total) where
  at_last : stopping p.names (refusing (closed file cs)) >>= (λ x. Ok p) ≡ total
  unfolding lines_at
  at_last = sym (ap (λ (ls : List (List Token)). lines_at include ls p cs >>= ended file) empty) ∙ so_far

  last_stops : (stop : Stop) → stopping p.names (refusing (closed file cs)) ≡ Err stop → total ≡ Err stop
  last_stops stop one = sym at_last ∙ ap (λ (r : Result (Unit {0}) Stop). r >>= (λ x. Ok p)) one

  pub at_end : (r : Result (Unit {0}) (Failure PrepFault)) → GivesOut tt p.names r (stopping p.names (refusing (closed file cs))) → GivesOut p p.names r total
  at_end (Ok x) h = sym at_last ∙ ap (λ (r : Result (Unit {0}) Stop). r >>= (λ x. Ok p)) h
  at_end (Err (Cause (e.At code at line))) h = last_stops _ h
  at_end (Err (Cause e.NoSource)) h = last_stops _ h
  at_end (Err (Cause (e.Failed at))) h = tt
  at_end (Err (Cause (e.TooLong at))) h = last_stops _ h
  at_end (Err Memory) h = tt
