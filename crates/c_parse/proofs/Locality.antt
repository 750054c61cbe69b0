-- Two lists of tokens that agree up to one token, and what it is that readings of both are the same up to there: what they read, and their faults. Then turns, single tokens and lists, of which readers are made.
use Rattle.std.proofs.Common.{◌≡◌, ℕ, zero, suc, ◌+◌, ◌<◌, ◌≤◌, Bool, true, false, cond, List, [], ◌∷◌, length, Option, Some, None, Result, Ok, Err, refl, ap, arith, ◌⊎◌, inl, inr}
use Rattle.std.specs.Prelude.{nat_lt}
use Rattle.c_parse.specs.declared.fault.Fault.{Fault}
use Rattle.c_parse.specs.declared.fault.Fault.TheVariants.{Syntax, TooDeep}
use Rattle.c_parse.specs.Tok.{Tok, keyword, refused, word, number, character, text, mark}
use Rattle.c_lex.specs.declared.token.Punct.TheVariants as m
use Rattle.c_parse.specs.inner.ReadingLists.{pushed, comma_by, comma_turn, separated, more_turn, listed, brace_by, brace_turn, braced}
use Rattle.c_parse.specs.inner.Reader.{◌>>=◌, Got, Reader, bad, deep, no_room, room_fault, above, Turn, goes_on, repeat, loop, behind, must, is_behind, is_open_paren, open_paren, is_close_paren, close_paren, is_close_bracket, close_bracket, is_open_brace, open_brace, is_close_brace, at_close_brace, close_brace, is_semicolon, semicolon, is_colon, colon, is_while_word, while_word, is_comma, at_comma, end_list, at_more, bytes_at, at_semicolon, at_open_brace, at_assign, at_star, at_open_paren, at_close_paren, at_open_bracket, is_new, at_new, new}
use Rattle.c_parse.proofs.Single.{comma_is}

-- each turn takes a token at least
abbrev pub Takes : {A : Type 0} → Turn A → Type 0
Takes {A} t = (a : A) (ts : List Tok) (x : Got A) → t a ts ≡ Ok (Some x) → length x.1 < length ts

-- behind the token up to which they agree come more in the one and more' in the other
module _ (more more' : List Tok) where
  pub data Agree : List Tok → List Tok → Type 0 where
    last : {o : Tok} → Agree (o ∷ more) (o ∷ more')
    next : {o : Tok} {ts ts' : List Tok} → Agree ts ts' → Agree (o ∷ ts) (o ∷ ts')

  -- no more tokens are left than behind it
  abbrev pub Gone : List Tok → Type 0
  Gone ts = length ts ≤ length more

  abbrev pub GoneFault : Fault → Type 0
  GoneFault (Syntax k) = k ≤ length more
  GoneFault (TooDeep k) = k ≤ length more

  -- a reading that went on behind it: P is what is known of its result
  abbrev pub Past : {A : Type 0} → (A → Type 0) → Result A Fault → Type 0
  Past P (Ok x) = P x
  Past P (Err e) = GoneFault e

  -- the results are R of each other, or the same fault at the same place, or the first went on behind
  pub data Same {A B : Type 0} (R : A → B → Type 0) (P : A → Type 0) : Result A Fault → Result B Fault → Type 0 where
    read : {x : A} {y : B} → R x y → Same R P (Ok x) (Ok y)
    syntax : {ts ts' : List Tok} → Agree ts ts' → Same R P (Err (Syntax (length ts))) (Err (Syntax (length ts')))
    too_deep : {ts ts' : List Tok} → Agree ts ts' → Same R P (Err (TooDeep (length ts))) (Err (TooDeep (length ts')))
    past : {r : Result A Fault} {r' : Result B Fault} → Past P r → Same R P r r'

  pub bind_past : {A B : Type 0} (P : A → Type 0) (Q : B → Type 0) (r : Result A Fault) (f : A → Result B Fault) → Past P r → ((x : A) → P x → Past Q (f x)) → Past Q (r >>= f)
  bind_past P Q (Ok x) f p h = h x p
  bind_past P Q (Err (Syntax k)) f p h = p
  bind_past P Q (Err (TooDeep k)) f p h = p

  pub bind_same : {A A' B B' : Type 0} (R : A → A' → Type 0) (P : A → Type 0) (S : B → B' → Type 0) (Q : B → Type 0) {r : Result A Fault} {r' : Result A' Fault} → Same R P r r'
      → (f : A → Result B Fault) (f' : A' → Result B' Fault) → ((x : A) (y : A') → R x y → Same S Q (f x) (f' y)) → ((x : A) → P x → Past Q (f x)) → Same S Q (r >>= f) (r' >>= f')
  bind_same R P S Q (read {x = x} {y = y} a) f f' h p = h x y a
  bind_same R P S Q (syntax a) f f' h p = syntax a
  bind_same R P S Q (too_deep a) f f' h p = too_deep a
  bind_same R P S Q (past {r = r} {r' = r'} q) f f' h p = past (bind_past P Q r f q p)

  -- what is read, with the tokens behind it
  abbrev pub Alike : {A : Type 0} → Got A → Got A → Type 0
  Alike x y = (x.0 ≡ y.0) × Agree x.1 y.1

  abbrev pub Beyond : {A : Type 0} → Got A → Type 0
  Beyond x = Gone x.1

  abbrev pub SameGot : {A : Type 0} → Result (Got A) Fault → Result (Got A) Fault → Type 0
  SameGot r r' = Same Alike Beyond r r'

  abbrev pub PastGot : {A : Type 0} → Result (Got A) Fault → Type 0
  PastGot r = Past Beyond r

  abbrev pub SameTokens : Result (List Tok) Fault → Result (List Tok) Fault → Type 0
  SameTokens r r' = Same Agree Gone r r'

  abbrev pub PastTokens : Result (List Tok) Fault → Type 0
  PastTokens r = Past Gone r

  -- a reader, and the same for the other tokens
  pub record Local {A : Type 0} (f f' : Reader A) : Type 0 where
    pub short : (ts : List Tok) → Gone ts → PastGot (f ts)
    pub same : (ts ts' : List Tok) → Agree ts ts' → SameGot (f ts) (f' ts')

  -- ---- turns

  abbrev pub TurnAlike : {A : Type 0} → Option (Got A) → Option (Got A) → Type 0
  TurnAlike None None = Unit {0}
  TurnAlike (Some x) (Some y) = Alike x y
  TurnAlike None (Some y) = ⊥
  TurnAlike (Some x) None = ⊥

  abbrev pub TurnBeyond : {A : Type 0} → Option (Got A) → Type 0
  TurnBeyond None = ⊥
  TurnBeyond (Some x) = Beyond x

  abbrev pub TurnShort : {A : Type 0} → Option (Got A) → Type 0
  TurnShort None = Unit {0}
  TurnShort (Some x) = Beyond x

  pub record LocalTurn {A : Type 0} (t t' : Turn A) : Type 0 where
    pub short : (a : A) (ts : List Tok) → Gone ts → Past TurnShort (t a ts)
    pub same : (a : A) (ts ts' : List Tok) → Agree ts ts' → Same TurnAlike TurnBeyond (t a ts) (t' a ts')

  pub agree_length : {ts ts' : List Tok} → Agree ts ts' → length ts + length more' ≡ length ts' + length more
  agree_length last = omega arith
  agree_length (next a) = omega (arith, agree_length a)

  abbrev pub Short : {A : Type 0} → Turn A → Type 0
  Short {A} t = (a : A) (ts : List Tok) → Gone ts → Past TurnShort (t a ts)

  went_past : {A : Type 0} (t : Turn A) (n : ℕ) (a : A) (ts : List Tok) → Gone ts → ((x : Got A) → Beyond x → PastGot (repeat t n x.0 x.1)) → (o : Option (Got A)) → TurnShort o
      → PastGot (goes_on (repeat t n) a ts o)
  went_past t n a ts g again None p = g
  went_past t n a ts g again (Some x) p = again x p

  pub repeat_past : {A : Type 0} (t : Turn A) → Short t → (n : ℕ) (a : A) (ts : List Tok) → Gone ts → PastGot (repeat t n a ts)
  unfolding repeat
  repeat_past t l zero a ts g = g
  repeat_past t l (suc n) a ts g = bind_past TurnShort Beyond (t a ts) (goes_on (repeat t n) a ts) (l a ts g) (went_past t n a ts g (λ x b. repeat_past t l n x.0 x.1 b))

  abbrev Again : {A : Type 0} → Turn A → Turn A → ℕ → ℕ → List Tok → List Tok → Type 0
  Again {A} t t' n n' ts ts' = (x y : Got A) → Alike x y → length x.1 < length ts → length y.1 < length ts' → SameGot (repeat t n x.0 x.1) (repeat t' n' y.0 y.1)

  went_same : {A : Type 0} (t t' : Turn A) → LocalTurn t t' → Takes t → (n n' : ℕ) (a : A) (ts ts' : List Tok) → Agree ts ts' → Again t t' n n' ts ts'
      → (r r' : Result (Option (Got A)) Fault) → t a ts ≡ r → Same TurnAlike TurnBeyond r r' → SameGot (r >>= goes_on (repeat t n) a ts) (r' >>= goes_on (repeat t' n') a ts')
  went_same t t' l takes n n' a ts ts' g again _ _ e (read {x = None} {y = None} w) = read (refl, g)
  went_same t t' l takes n n' a ts ts' g again _ _ e (read {x = Some x} {y = Some y} w) =
      let shorter = takes a ts x e in
      again x y w shorter (omega (arith, shorter, agree_length g, agree_length w.1))
  went_same t t' l takes n n' a ts ts' g again _ _ e (read {x = None} {y = Some y} w) = absurd w
  went_same t t' l takes n n' a ts ts' g again _ _ e (read {x = Some x} {y = None} w) = absurd w
  went_same t t' l takes n n' a ts ts' g again _ _ e (syntax b) = syntax b
  went_same t t' l takes n n' a ts ts' g again _ _ e (too_deep b) = too_deep b
  went_same t t' l takes n n' a ts ts' g again _ _ e (past {r = r} q) = past (bind_past TurnBeyond Beyond r (goes_on (repeat t n) a ts) q (went_on t t' l n a ts))
    where
      went_on : {A : Type 0} (t t' : Turn A) → LocalTurn t t' → (n : ℕ) (a : A) (ts : List Tok) (o : Option (Got A)) → TurnBeyond o → PastGot (goes_on (repeat t n) a ts o)
      went_on t t' l n a ts None p = absurd p
      went_on t t' l n a ts (Some x) p = repeat_past t l.short n x.0 x.1 p

  pub repeat_same : {A : Type 0} (t t' : Turn A) → LocalTurn t t' → Takes t → (n n' : ℕ) (a : A) (ts ts' : List Tok) → Agree ts ts' → length ts < n → length ts' < n'
      → SameGot (repeat t n a ts) (repeat t' n' a ts')
  unfolding repeat
  repeat_same t t' l takes zero n' a ts ts' g e e' = absurd (omega (arith, e))
  repeat_same t t' l takes (suc n) zero a ts ts' g e e' = absurd (omega (arith, e'))
  repeat_same t t' l takes (suc n) (suc n') a ts ts' g e e' = went_same t t' l takes n n' a ts ts' g
      (λ x y w s s'. rw (w.0) (repeat_same t t' l takes n n' y.0 x.1 y.1 w.1 (omega (arith, s, e)) (omega (arith, s', e')))) (t a ts) (t' a ts') refl (l.same a ts ts' g)

  pub loop_past : {A : Type 0} (t : Turn A) → Short t → (a : A) (ts : List Tok) → Gone ts → PastGot (loop t a ts)
  loop_past t l a ts g = repeat_past t l (suc (length ts)) a ts g

  pub loop_same : {A : Type 0} (t t' : Turn A) → LocalTurn t t' → Takes t → (a : A) (ts ts' : List Tok) → Agree ts ts' → SameGot (loop t a ts) (loop t' a ts')
  loop_same t t' l takes a ts ts' g = repeat_same t t' l takes (suc (length ts)) (suc (length ts')) a ts ts' g (omega arith) (omega arith)

  -- ---- the parts of which readers are made

  pub behind_gone : (ts : List Tok) → Gone ts → Gone (behind ts)
  behind_gone [] g = g
  behind_gone (o ∷ ts) g = omega (arith, g)

  pub above_past : {A : Type 0} (P : A → Type 0) (depth room : ℕ) (ts : List Tok) (r : Result A Fault) → Gone ts → Past P r → Past P (above depth room ts r)
  above_past P depth room ts r g p = by (nat_lt depth room)
    where
      by : (b : Bool) → Past P (cond b r (deep ts))
      by true = p
      by false = g

  pub above_same : {A B : Type 0} (R : A → B → Type 0) (P : A → Type 0) (depth room : ℕ) (ts ts' : List Tok) (r : Result A Fault) (r' : Result B Fault) → Agree ts ts' → Same R P r r'
      → Same R P (above depth room ts r) (above depth room ts' r')
  above_same R P depth room ts ts' r r' g s = by (nat_lt depth room)
    where
      by : (b : Bool) → Same R P (cond b r (deep ts)) (cond b r' (deep ts'))
      by true = s
      by false = too_deep g

  -- ---- binds, by what is bound and what comes of it

  pub bind_got : {A B B' : Type 0} (S : B → B' → Type 0) (Q : B → Type 0) {r r' : Result (Got A) Fault} → SameGot r r' → (f : Got A → Result B Fault) (f' : Got A → Result B' Fault)
      → ((x : A) (ts ts' : List Tok) → Agree ts ts' → Same S Q (f (x, ts)) (f' (x, ts'))) → ((x : Got A) → Beyond x → Past Q (f x)) → Same S Q (r >>= f) (r' >>= f')
  bind_got S Q s f f' h p = bind_same Alike Beyond S Q s f f' (λ x y w. rw (w.0) (h y.0 x.1 y.1 w.1)) p

  pub bind_tokens : {B B' : Type 0} (S : B → B' → Type 0) (Q : B → Type 0) {r r' : Result (List Tok) Fault} → SameTokens r r' → (f : List Tok → Result B Fault) (f' : List Tok → Result B' Fault)
      → ((ts ts' : List Tok) → Agree ts ts' → Same S Q (f ts) (f' ts')) → ((ts : List Tok) → Gone ts → Past Q (f ts)) → Same S Q (r >>= f) (r' >>= f')
  bind_tokens S Q s f f' h p = bind_same Agree Gone S Q s f f' h p

  -- ---- one token that must come next

  pub must_past : (b : Bool) (ts : List Tok) → Gone ts → PastTokens (must (is_behind ts b) ts)
  must_past true ts g = behind_gone ts g
  must_past false ts g = g

  must_last : (b : Bool) (o : Tok) → SameTokens (must (is_behind (o ∷ more) b) (o ∷ more)) (must (is_behind (o ∷ more') b) (o ∷ more'))
  must_last true o = past (omega arith)
  must_last false o = syntax {ts = o ∷ more} {ts' = o ∷ more'} last

  must_next : (b : Bool) (o : Tok) (ts ts' : List Tok) → Agree ts ts' → SameTokens (must (is_behind (o ∷ ts) b) (o ∷ ts)) (must (is_behind (o ∷ ts') b) (o ∷ ts'))
  must_next true o ts ts' a = read a
  must_next false o ts ts' a = syntax {ts = o ∷ ts} {ts' = o ∷ ts'} (next a)

  pub open_paren_same : {ts ts' : List Tok} → Agree ts ts' → SameTokens (open_paren ts) (open_paren ts')
  open_paren_same (last {o = o}) = must_last (is_open_paren o) o
  open_paren_same (next {o = o} {ts = ts} {ts' = ts'} a) = must_next (is_open_paren o) o ts ts' a

  pub close_paren_same : {ts ts' : List Tok} → Agree ts ts' → SameTokens (close_paren ts) (close_paren ts')
  close_paren_same (last {o = o}) = must_last (is_close_paren o) o
  close_paren_same (next {o = o} {ts = ts} {ts' = ts'} a) = must_next (is_close_paren o) o ts ts' a

  pub close_bracket_same : {ts ts' : List Tok} → Agree ts ts' → SameTokens (close_bracket ts) (close_bracket ts')
  close_bracket_same (last {o = o}) = must_last (is_close_bracket o) o
  close_bracket_same (next {o = o} {ts = ts} {ts' = ts'} a) = must_next (is_close_bracket o) o ts ts' a

  pub open_brace_same : {ts ts' : List Tok} → Agree ts ts' → SameTokens (open_brace ts) (open_brace ts')
  open_brace_same (last {o = o}) = must_last (is_open_brace o) o
  open_brace_same (next {o = o} {ts = ts} {ts' = ts'} a) = must_next (is_open_brace o) o ts ts' a

  pub close_brace_same : {ts ts' : List Tok} → Agree ts ts' → SameTokens (close_brace ts) (close_brace ts')
  close_brace_same (last {o = o}) = must_last (is_close_brace o) o
  close_brace_same (next {o = o} {ts = ts} {ts' = ts'} a) = must_next (is_close_brace o) o ts ts' a

  pub semicolon_same : {ts ts' : List Tok} → Agree ts ts' → SameTokens (semicolon ts) (semicolon ts')
  semicolon_same (last {o = o}) = must_last (is_semicolon o) o
  semicolon_same (next {o = o} {ts = ts} {ts' = ts'} a) = must_next (is_semicolon o) o ts ts' a

  pub colon_same : {ts ts' : List Tok} → Agree ts ts' → SameTokens (colon ts) (colon ts')
  colon_same (last {o = o}) = must_last (is_colon o) o
  colon_same (next {o = o} {ts = ts} {ts' = ts'} a) = must_next (is_colon o) o ts ts' a

  pub while_word_same : {ts ts' : List Tok} → Agree ts ts' → SameTokens (while_word ts) (while_word ts')
  while_word_same (last {o = o}) = must_last (is_while_word o) o
  while_word_same (next {o = o} {ts = ts} {ts' = ts'} a) = must_next (is_while_word o) o ts ts' a

  pub end_list_past : (ts : List Tok) → Gone ts → PastTokens (end_list ts)
  end_list_past ts g = by (at_comma ts)
    where
      by : (b : Bool) → PastTokens (cond b (close_brace (behind ts)) (close_brace ts))
      by true = must_past (at_close_brace (behind ts)) (behind ts) (behind_gone ts g)
      by false = must_past (at_close_brace ts) ts g

  end_list_last : (b : Bool) (o : Tok) → SameTokens (cond b (close_brace more) (close_brace (o ∷ more))) (cond b (close_brace more') (close_brace (o ∷ more')))
  end_list_last true o = past (must_past (at_close_brace more) more (omega arith))
  end_list_last false o = close_brace_same (last {o = o})

  end_list_next : (b : Bool) (o : Tok) (ts ts' : List Tok) → Agree ts ts' → SameTokens (cond b (close_brace ts) (close_brace (o ∷ ts))) (cond b (close_brace ts') (close_brace (o ∷ ts')))
  end_list_next true o ts ts' a = close_brace_same a
  end_list_next false o ts ts' a = close_brace_same (next {o = o} a)

  pub end_list_same : {ts ts' : List Tok} → Agree ts ts' → SameTokens (end_list ts) (end_list ts')
  end_list_same (last {o = o}) = end_list_last (is_comma o) o
  end_list_same (next {o = o} {ts = ts} {ts' = ts'} a) = end_list_next (is_comma o) o ts ts' a

  pub bytes_same : (o : Tok) (ts ts' : List Tok) → bytes_at (o ∷ ts) ≡ bytes_at (o ∷ ts')
  bytes_same (keyword k) ts ts' = refl
  bytes_same (refused n) ts ts' = refl
  bytes_same (word n) ts ts' = refl
  bytes_same (number n) ts ts' = refl
  bytes_same (character n) ts ts' = refl
  bytes_same (text t) ts ts' = refl
  bytes_same (mark p) ts ts' = refl

  abbrev worded : Bool → List Tok → Result (Got (List ℕ)) Fault
  worded b ts = cond b (Ok (bytes_at ts, behind ts)) (bad ts)

  pub worded_past : (b : Bool) (ts : List Tok) → Gone ts → PastGot (worded b ts)
  worded_past true ts g = behind_gone ts g
  worded_past false ts g = g

  pub worded_last : (b : Bool) (o : Tok) → SameGot (worded b (o ∷ more)) (worded b (o ∷ more'))
  worded_last true o = past (omega arith)
  worded_last false o = syntax {ts = o ∷ more} {ts' = o ∷ more'} last

  pub worded_next : (b : Bool) (o : Tok) (ts ts' : List Tok) → Agree ts ts' → SameGot (worded b (o ∷ ts)) (worded b (o ∷ ts'))
  worded_next true o ts ts' a = read (bytes_same o ts ts', a)
  worded_next false o ts ts' a = syntax {ts = o ∷ ts} {ts' = o ∷ ts'} (next a)

  pub new_past : (ts : List Tok) → Gone ts → PastGot (new ts)
  new_past ts g = worded_past (at_new ts) ts g

  pub new_same : {ts ts' : List Tok} → Agree ts ts' → SameGot (new ts) (new ts')
  new_same (last {o = o}) = worded_last (is_new o) o
  new_same (next {o = o} {ts = ts} {ts' = ts'} a) = worded_next (is_new o) o ts ts' a

  -- what stands in front of a closing parenthesis
  pub closed_past : {A : Type 0} (x : Got A) → Beyond x → PastGot (close_paren x.1 >>= λ rest. Ok (x.0, rest))
  closed_past x g = bind_past Gone Beyond (close_paren x.1) (λ rest. Ok (x.0, rest)) (must_past (at_close_paren x.1) x.1 g) (λ ts p. p)

  pub closed_same : {A : Type 0} (x : A) (ts ts' : List Tok) → Agree ts ts' → SameGot (close_paren ts >>= λ rest. Ok (x, rest)) (close_paren ts' >>= λ rest. Ok (x, rest))
  closed_same x ts ts' w = bind_tokens Alike Beyond (close_paren_same w) (λ rest. Ok (x, rest)) (λ rest. Ok (x, rest)) (λ us us' v. read (refl, v)) (λ us p. p)

  -- ---- what comes next is told by the first tokens

  pub at_close_brace_same : {ts ts' : List Tok} → Agree ts ts' → at_close_brace ts ≡ at_close_brace ts'
  at_close_brace_same last = refl
  at_close_brace_same (next a) = refl

  pub at_star_same : {ts ts' : List Tok} → Agree ts ts' → at_star ts ≡ at_star ts'
  at_star_same last = refl
  at_star_same (next a) = refl

  pub at_open_paren_same : {ts ts' : List Tok} → Agree ts ts' → at_open_paren ts ≡ at_open_paren ts'
  at_open_paren_same last = refl
  at_open_paren_same (next a) = refl

  pub at_close_paren_same : {ts ts' : List Tok} → Agree ts ts' → at_close_paren ts ≡ at_close_paren ts'
  at_close_paren_same last = refl
  at_close_paren_same (next a) = refl

  pub at_open_bracket_same : {ts ts' : List Tok} → Agree ts ts' → at_open_bracket ts ≡ at_open_bracket ts'
  at_open_bracket_same last = refl
  at_open_bracket_same (next a) = refl

  pub at_comma_same : {ts ts' : List Tok} → Agree ts ts' → at_comma ts ≡ at_comma ts'
  at_comma_same last = refl
  at_comma_same (next a) = refl

  pub at_open_brace_same : {ts ts' : List Tok} → Agree ts ts' → at_open_brace ts ≡ at_open_brace ts'
  at_open_brace_same last = refl
  at_open_brace_same (next a) = refl

  pub at_semicolon_same : {ts ts' : List Tok} → Agree ts ts' → at_semicolon ts ≡ at_semicolon ts'
  at_semicolon_same last = refl
  at_semicolon_same (next a) = refl

  pub at_assign_same : {ts ts' : List Tok} → Agree ts ts' → at_assign ts ≡ at_assign ts'
  at_assign_same last = refl
  at_assign_same (next a) = refl

  -- ---- what a reader answers that has no room

  pub fault_past : (b : Bool) (ts : List Tok) → Gone ts → GoneFault (room_fault b ts)
  fault_past true ts g = g
  fault_past false ts g = g

  pub roomless_same : {A : Type 0} (b : Bool) {ts ts' : List Tok} → Agree ts ts' → Same {A = Got A} {B = Got A} Alike Beyond (no_room b ts) (no_room b ts')
  roomless_same true w = too_deep w
  roomless_same false w = syntax w

  pub room_local : {A : Type 0} (b b' : List Tok → Bool) → ((ts ts' : List Tok) → Agree ts ts' → b ts ≡ b' ts') → Local {A = A} (λ ts. no_room (b ts) ts) (λ ts. no_room (b' ts) ts)
  room_local b b' h = record {
    short = λ ts g. fault_past (b ts) ts g;
    same = λ ts ts' w. rw (h ts ts' w) (roomless_same (b' ts') w);
  }

  -- ---- lists

  pushed_on : {A : Type 0} (f : Reader A) → ((ts : List Tok) → Gone ts → PastGot (f ts)) → (xs : List A) (ts : List Tok) → Gone ts → Past TurnBeyond (f ts >>= pushed xs)
  pushed_on f l xs ts g = bind_past Beyond TurnBeyond (f ts) (pushed xs) (l ts g) (λ x p. p)

  pub weaken_turn : {A : Type 0} (r : Result (Option (Got A)) Fault) → Past TurnBeyond r → Past TurnShort r
  weaken_turn (Ok None) p = tt
  weaken_turn (Ok (Some x)) p = p
  weaken_turn (Err e) p = p

  module _ {A : Type 0} (f f' : Reader A) (l : Local f f') where
    pushed_same : (xs : List A) (ts ts' : List Tok) → Agree ts ts' → Same TurnAlike TurnBeyond (f ts >>= pushed xs) (f' ts' >>= pushed xs)
    pushed_same xs ts ts' w = bind_got TurnAlike TurnBeyond (l.same ts ts' w) (pushed xs) (pushed xs) (λ x us us' v. read (refl, v)) (λ x p. p)

    comma_short : (xs : List A) (b : Bool) (ts : List Tok) → Gone ts → Past TurnShort (comma_by f xs ts b)
    comma_short xs false ts g = tt
    comma_short xs true ts g = weaken_turn _ (pushed_on f l.short xs (behind ts) (behind_gone ts g))

    comma_last : (xs : List A) (b : Bool) (o : Tok) → Same TurnAlike TurnBeyond (comma_by f xs (o ∷ more) b) (comma_by f' xs (o ∷ more') b)
    comma_last xs false o = read tt
    comma_last xs true o = past (pushed_on f l.short xs more (omega arith))

    comma_next : (xs : List A) (b : Bool) (o : Tok) (ts ts' : List Tok) → Agree ts ts' → Same TurnAlike TurnBeyond (comma_by f xs (o ∷ ts) b) (comma_by f' xs (o ∷ ts') b)
    comma_next xs false o ts ts' w = read tt
    comma_next xs true o ts ts' w = pushed_same xs ts ts' w

    comma_same : (xs : List A) {ts ts' : List Tok} → Agree ts ts' → Same TurnAlike TurnBeyond (comma_turn f xs ts) (comma_turn f' xs ts')
    comma_same xs (last {o = o}) = comma_last xs (is_comma o) o
    comma_same xs (next {o = o} {ts = ts} {ts' = ts'} w) = comma_next xs (is_comma o) o ts ts' w

    comma_turns : LocalTurn (comma_turn f) (comma_turn f')
    comma_turns = record { short = λ xs ts g. comma_short xs (at_comma ts) ts g; same = λ xs ts ts' w. comma_same xs w }

    pub more_past : (x : Got A) → Beyond x → PastGot (loop (comma_turn f) (x.0 ∷ []) x.1)
    more_past x g = loop_past (comma_turn f) comma_turns.short (x.0 ∷ []) x.1 g

    pub separated_is_local : Takes (comma_turn f) → Local (separated f) (separated f')
    separated_is_local take = record {
      short = λ ts g. bind_past Beyond Beyond (f ts) (λ x. loop (comma_turn f) (x.0 ∷ []) x.1) (l.short ts g) more_past;
      same = λ ts ts' w. bind_got Alike Beyond (l.same ts ts' w) (λ x. loop (comma_turn f) (x.0 ∷ []) x.1) (λ x. loop (comma_turn f') (x.0 ∷ []) x.1)
          (λ x us us' v. loop_same (comma_turn f) (comma_turn f') comma_turns take (x ∷ []) us us' v) more_past;
    }

    brace_short : (xs : List A) (b : Bool) (ts : List Tok) → Gone ts → Past TurnShort (brace_by f xs ts b)
    brace_short xs true ts g = tt
    brace_short xs false ts g = weaken_turn _ (pushed_on f l.short xs ts g)

    brace_both : (xs : List A) (b : Bool) (ts ts' : List Tok) → Agree ts ts' → Same TurnAlike TurnBeyond (brace_by f xs ts b) (brace_by f' xs ts' b)
    brace_both xs true ts ts' w = read tt
    brace_both xs false ts ts' w = pushed_same xs ts ts' w

    brace_same : (xs : List A) {ts ts' : List Tok} → Agree ts ts' → Same TurnAlike TurnBeyond (brace_turn f xs ts) (brace_turn f' xs ts')
    brace_same xs (last {o = o}) = brace_both xs (is_close_brace o) (o ∷ more) (o ∷ more') last
    brace_same xs (next {o = o} {ts = ts} {ts' = ts'} w) = brace_both xs (is_close_brace o) (o ∷ ts) (o ∷ ts') (next w)

    brace_turns : LocalTurn (brace_turn f) (brace_turn f')
    brace_turns = record { short = λ xs ts g. brace_short xs (at_close_brace ts) ts g; same = λ xs ts ts' w. brace_same xs w }

    pub braced_is_local : Takes (brace_turn f) → Local (braced f) (braced f')
    braced_is_local take = record {
      short = λ ts g. loop_past (brace_turn f) brace_turns.short [] ts g;
      same = λ ts ts' w. loop_same (brace_turn f) (brace_turn f') brace_turns take [] ts ts' w;
    }

  -- A list that may end with a comma stops before it where the brace follows, which the token behind the comma tells.
  abbrev pub Halts : List Tok → Type 0
  Halts ts = (ts ≡ mark m.Comma ∷ more) × (at_close_brace more ≡ true)

  abbrev pub ListBeyond : {A : Type 0} → Got A → Type 0
  ListBeyond x = Beyond x ⊎ Halts x.1

  abbrev pub ListTurnBeyond : {A : Type 0} → List Tok → Option (Got A) → Type 0
  ListTurnBeyond ts None = Halts ts
  ListTurnBeyond ts (Some x) = Beyond x

  list_past : {A : Type 0} (r : Result (Got A) Fault) → PastGot r → Past ListBeyond r
  list_past (Ok x) p = inl p
  list_past (Err e) p = p

  module _ {A : Type 0} (t t' : Turn A) (short : Short t) (same : (a : A) (ts ts' : List Tok) → Agree ts ts' → Same TurnAlike (ListTurnBeyond ts) (t a ts) (t' a ts')) (take : Takes t) where
    abbrev ListAgain : ℕ → ℕ → List Tok → List Tok → Type 0
    ListAgain n n' ts ts' = (x y : Got A) → Alike x y → length x.1 < length ts → length y.1 < length ts' → Same Alike ListBeyond (repeat t n x.0 x.1) (repeat t' n' y.0 y.1)

    list_went_on : (n : ℕ) (a : A) (ts : List Tok) (o : Option (Got A)) → ListTurnBeyond ts o → Past ListBeyond (goes_on (repeat t n) a ts o)
    list_went_on n a ts None p = inr p
    list_went_on n a ts (Some x) p = list_past _ (repeat_past t short n x.0 x.1 p)

    list_went_same : (n n' : ℕ) (a : A) (ts ts' : List Tok) → Agree ts ts' → ListAgain n n' ts ts'
        → (r r' : Result (Option (Got A)) Fault) → t a ts ≡ r → Same TurnAlike (ListTurnBeyond ts) r r' → Same Alike ListBeyond (r >>= goes_on (repeat t n) a ts) (r' >>= goes_on (repeat t' n') a ts')
    list_went_same n n' a ts ts' g again _ _ e (read {x = None} {y = None} w) = read (refl, g)
    list_went_same n n' a ts ts' g again _ _ e (read {x = Some x} {y = Some y} w) =
        let shorter = take a ts x e in
        again x y w shorter (omega (arith, shorter, agree_length g, agree_length w.1))
    list_went_same n n' a ts ts' g again _ _ e (read {x = None} {y = Some y} w) = absurd w
    list_went_same n n' a ts ts' g again _ _ e (read {x = Some x} {y = None} w) = absurd w
    list_went_same n n' a ts ts' g again _ _ e (syntax b) = syntax b
    list_went_same n n' a ts ts' g again _ _ e (too_deep b) = too_deep b
    list_went_same n n' a ts ts' g again _ _ e (past {r = r} q) = past (bind_past (ListTurnBeyond ts) ListBeyond r (goes_on (repeat t n) a ts) q (list_went_on n a ts))

    list_repeat_same : (n n' : ℕ) (a : A) (ts ts' : List Tok) → Agree ts ts' → length ts < n → length ts' < n' → Same Alike ListBeyond (repeat t n a ts) (repeat t' n' a ts')
    unfolding repeat
    list_repeat_same zero n' a ts ts' g e e' = absurd (omega (arith, e))
    list_repeat_same (suc n) zero a ts ts' g e e' = absurd (omega (arith, e'))
    list_repeat_same (suc n) (suc n') a ts ts' g e e' = list_went_same n n' a ts ts' g
        (λ x y w s s'. rw (w.0) (list_repeat_same n n' y.0 x.1 y.1 w.1 (omega (arith, s, e)) (omega (arith, s', e')))) (t a ts) (t' a ts') refl (same a ts ts' g)

    pub list_loop_same : (a : A) (ts ts' : List Tok) → Agree ts ts' → Same Alike ListBeyond (loop t a ts) (loop t' a ts')
    list_loop_same a ts ts' g = list_repeat_same (suc (length ts)) (suc (length ts')) a ts ts' g (omega arith) (omega arith)

  -- the end of a list, whose reading may have stopped before its last comma
  pub end_beyond : (ts : List Tok) → Gone ts ⊎ Halts ts → PastTokens (end_list ts)
  end_beyond ts (inl g) = end_list_past ts g
  end_beyond ts (inr h) = rw (h.0) (by (at_close_brace more) h.1)
    where
      by : (b : Bool) → b ≡ true → PastTokens (must (is_behind more b) more)
      by true e = behind_gone more (omega arith)
      by false e = absurd cc

  turn_beyond : {A : Type 0} (ts : List Tok) (r : Result (Option (Got A)) Fault) → Past TurnBeyond r → Past (ListTurnBeyond ts) r
  turn_beyond ts (Ok None) p = absurd p
  turn_beyond ts (Ok (Some x)) p = p
  turn_beyond ts (Err e) p = p

  module _ {A : Type 0} (f f' : Reader A) (l : Local f f') (take : Takes (more_turn f)) where
    halts_or_not : (xs : List A) (b : Bool) (o : Tok) → at_close_brace more ≡ b → is_comma o ≡ true
        → Same TurnAlike (ListTurnBeyond (o ∷ more)) (comma_by f xs (o ∷ more) (cond b false true)) (comma_by f' xs (o ∷ more') (cond (at_close_brace more') false true))
    halts_or_not xs true o e c = past (ap (λ (p : Tok). p ∷ more) (comma_is o c), e)
    halts_or_not xs false o e c = past (turn_beyond (o ∷ more) _ (pushed_on f l.short xs more (omega arith)))

    list_turn_last : (xs : List A) (b : Bool) (o : Tok) → is_comma o ≡ b
        → Same TurnAlike (ListTurnBeyond (o ∷ more)) (comma_by f xs (o ∷ more) (cond b (cond (at_close_brace more) false true) false)) (comma_by f' xs (o ∷ more') (cond b (cond (at_close_brace more') false true) false))
    list_turn_last xs false o c = read tt
    list_turn_last xs true o c = halts_or_not xs (at_close_brace more) o refl c

    list_turn_both : (xs : List A) (b : Bool) (o : Tok) (ts ts' : List Tok) → Agree ts ts' → Same TurnAlike (ListTurnBeyond (o ∷ ts)) (comma_by f xs (o ∷ ts) b) (comma_by f' xs (o ∷ ts') b)
    list_turn_both xs false o ts ts' w = read tt
    list_turn_both xs true o ts ts' w = bind_got TurnAlike (ListTurnBeyond (o ∷ ts)) (l.same ts ts' w) (pushed xs) (pushed xs) (λ x us us' v. read (refl, v)) (λ x p. p)

    list_turn_same : (xs : List A) (ts ts' : List Tok) → Agree ts ts' → Same TurnAlike (ListTurnBeyond ts) (more_turn f xs ts) (more_turn f' xs ts')
    list_turn_same xs _ _ (last {o = o}) = list_turn_last xs (is_comma o) o refl
    list_turn_same xs _ _ (next {o = o} {ts = ts} {ts' = ts'} w) = rw (at_close_brace_same w) (list_turn_both xs (cond (is_comma o) (cond (at_close_brace ts') false true) false) o ts ts' w)

    list_turn_short : Short (more_turn f)
    list_turn_short xs ts g = comma_short f f' l xs (at_more ts) ts g

    listed_beyond : (x : Got A) → Beyond x → Past ListBeyond (loop (more_turn f) (x.0 ∷ []) x.1)
    listed_beyond x g = list_past _ (loop_past (more_turn f) list_turn_short (x.0 ∷ []) x.1 g)

    pub listed_past : (ts : List Tok) → Gone ts → Past ListBeyond (listed f ts)
    listed_past ts g = bind_past Beyond ListBeyond (f ts) (λ x. loop (more_turn f) (x.0 ∷ []) x.1) (l.short ts g) listed_beyond

    pub listed_same : (ts ts' : List Tok) → Agree ts ts' → Same Alike ListBeyond (listed f ts) (listed f' ts')
    listed_same ts ts' w = bind_got Alike ListBeyond (l.same ts ts' w) (λ x. loop (more_turn f) (x.0 ∷ []) x.1) (λ x. loop (more_turn f') (x.0 ∷ []) x.1)
        (λ x us us' v. list_loop_same (more_turn f) (more_turn f') list_turn_short list_turn_same take (x ∷ []) us us' v) listed_beyond
