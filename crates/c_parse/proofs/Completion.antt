-- What is read goes on: what was read stands in its own tokens, whatever follows them; and from a fault on tokens can be put that complete what was begun.
use Rattle.std.proofs.Common.{◌≡◌, ℕ, zero, suc, ◌<◌, Bool, true, false, cond, List, [], ◌∷◌, ◌++◌, length, Option, Some, None, Result, Ok, Err, refl, sym, ap, subst, ◌∙◌, append_assoc, arith, ◌⊎◌, inl, inr}
use Rattle.std.specs.Prelude.{nat_lt}
use Rattle.c_parse.specs.declared.fault.Fault.{Fault}
use Rattle.c_parse.specs.declared.fault.Fault.TheVariants.{Syntax, TooDeep}
use Rattle.c_parse.specs.Tok.{Tok}
use Rattle.c_parse.specs.inner.Reader.{◌>>=◌, Got, deep, above, Turn, goes_on, repeat, loop, at_else_word, at_open_bracket}

-- tokens that a rule takes, and those behind them
abbrev pub Rule : Type 1
Rule = List Tok → List Tok → Type 0

-- what begins neither an `else` nor a bracket
abbrev pub Plain : List Tok → Type 0
Plain ts = (at_else_word ts ≡ false) × (at_open_bracket ts ≡ false)

-- the same token stands first
pub record SameFirst (rest after : List Tok) : Type 0 where
  pub first : Tok
  pub behind_one : List Tok
  pub behind_other : List Tok
  pub one : rest ≡ first ∷ behind_one
  pub other : after ≡ first ∷ behind_other

-- may stand where the rest stood
abbrev pub Fits : List Tok → List Tok → Type 0
Fits rest after = Plain after ⊎ SameFirst rest after

-- what was read stands in its own tokens, whatever follows them
pub record Frame (P : Rule) (ts rest : List Tok) : Type 0 where
  pub part : List Tok
  pub is : ts ≡ part ++ rest
  pub any : (after : List Tok) → Fits rest after → P (part ++ after) after

-- before the tokens at fault stands what some tokens complete
pub record Cut (P : Rule) (ts : List Tok) (n : ℕ) : Type 0 where
  pub pre : List Tok
  pub wrong : List Tok
  pub end : List Tok
  pub is : ts ≡ pre ++ wrong
  pub size : length wrong ≡ n
  pub any : (after : List Tok) → Plain after → P (pre ++ (end ++ after)) after
  pub fits : (after : List Tok) → Plain after → Fits wrong (end ++ after)

-- the token at fault itself goes on what was begun
pub record Begun (wrong end : List Tok) : Type 0 where
  pub first : Tok
  pub behind_one : List Tok
  pub behind_other : List Tok
  pub one : wrong ≡ first ∷ behind_one
  pub other : end ≡ first ∷ behind_other

pub record Deep (P : Rule) (ts : List Tok) (n : ℕ) : Type 0 where
  pub cut : Cut P ts n
  pub begun : Begun cut.wrong cut.end

abbrev pub GoodFault : Rule → List Tok → Fault → Type 0
GoodFault P ts (Syntax n) = Cut P ts n
GoodFault P ts (TooDeep n) = Deep P ts n

abbrev pub Good : {A : Type 0} → Rule → List Tok → Result (Got A) Fault → Type 0
Good P ts (Ok x) = Frame P ts x.1
Good P ts (Err e) = GoodFault P ts e

abbrev pub GoodTokens : Rule → List Tok → Result (List Tok) Fault → Type 0
GoodTokens P ts (Ok rest) = Frame P ts rest
GoodTokens P ts (Err e) = GoodFault P ts e

abbrev pub GoodTurn : {A : Type 0} → Rule → List Tok → Result (Option (Got A)) Fault → Type 0
GoodTurn P ts (Ok None) = Unit {0}
GoodTurn P ts (Ok (Some x)) = Frame P ts x.1
GoodTurn P ts (Err e) = GoodFault P ts e

-- some tokens that a rule takes
pub record Word (P : Rule) : Type 0 where
  pub tokens : List Tok
  pub takes : (after : List Tok) → Plain after → P (tokens ++ after) after
  pub plain : (after : List Tok) → Plain after → Plain (tokens ++ after)

-- one rule behind another
abbrev pub Seq : Rule → Rule → Rule
Seq P Q ts rest = (mid : List Tok) × P ts mid × Q mid rest

abbrev pub Nil : Rule
Nil ts rest = ts ≡ rest

abbrev pub Implies : Rule → Rule → Type 0
Implies P Q = (ts rest : List Tok) → P ts rest → Q ts rest

-- ---- the same for a wider rule

pub widen_fault : (P Q : Rule) → Implies P Q → (ts : List Tok) (e : Fault) → GoodFault P ts e → GoodFault Q ts e
widen_fault P Q h ts (Syntax n) g = record { pre = g.pre; wrong = g.wrong; end = g.end; is = g.is; size = g.size; any = λ after p. h _ after (g.any after p); fits = g.fits }
widen_fault P Q h ts (TooDeep n) g = record {
  cut = record { pre = g.cut.pre; wrong = g.cut.wrong; end = g.cut.end; is = g.cut.is; size = g.cut.size; any = λ after p. h _ after (g.cut.any after p); fits = g.cut.fits };
  begun = g.begun;
}

pub widen_frame : (P Q : Rule) → Implies P Q → (ts rest : List Tok) → Frame P ts rest → Frame Q ts rest
widen_frame P Q h ts rest f = record { part = f.part; is = f.is; any = λ after w. h _ after (f.any after w) }

pub widen : {A : Type 0} (P Q : Rule) → Implies P Q → (ts : List Tok) (r : Result (Got A) Fault) → Good P ts r → Good Q ts r
widen P Q h ts (Ok x) g = widen_frame P Q h ts x.1 g
widen P Q h ts (Err e) g = widen_fault P Q h ts e g

pub widen_turn : {A : Type 0} (P Q : Rule) → Implies P Q → (ts : List Tok) (r : Result (Option (Got A)) Fault) → GoodTurn P ts r → GoodTurn Q ts r
widen_turn P Q h ts (Ok None) g = tt
widen_turn P Q h ts (Ok (Some x)) g = widen_frame P Q h ts x.1 g
widen_turn P Q h ts (Err e) g = widen_fault P Q h ts e g

-- ---- one behind the other

pub fits_part : (part rest after : List Tok) → Fits rest after → Fits (part ++ rest) (part ++ after)
fits_part [] rest after w = w
fits_part (o ∷ part) rest after w = inr (record { first = o; behind_one = part ++ rest; behind_other = part ++ after; one = refl; other = refl })

pub frame_seq : (P Q : Rule) (ts mid rest : List Tok) → Frame P ts mid → Frame Q mid rest → Frame (Seq P Q) ts rest
frame_seq P Q ts mid rest f g = record {
  part = f.part ++ g.part;
  is = f.is ∙ ap (λ (z : List Tok). f.part ++ z) g.is ∙ sym (append_assoc f.part g.part rest);
  any = λ after w. rw (append_assoc f.part g.part after) (g.part ++ after, f.any (g.part ++ after) (subst (λ (z : List Tok). Fits z (g.part ++ after)) (sym g.is) (fits_part g.part rest after w)), g.any after w);
}

abbrev cut_behind : (P Q : Rule) (ts mid : List Tok) (n : ℕ) → Frame P ts mid → Cut Q mid n → Cut (Seq P Q) ts n
cut_behind P Q ts mid n f g = record {
  pre = f.part ++ g.pre;
  wrong = g.wrong;
  end = g.end;
  is = f.is ∙ ap (λ (z : List Tok). f.part ++ z) g.is ∙ sym (append_assoc f.part g.pre g.wrong);
  size = g.size;
  any = λ after p. rw (append_assoc f.part g.pre (g.end ++ after)) (g.pre ++ (g.end ++ after), f.any (g.pre ++ (g.end ++ after)) (subst (λ (z : List Tok). Fits z (g.pre ++ (g.end ++ after))) (sym g.is) (fits_part g.pre g.wrong (g.end ++ after) (g.fits after p))), g.any after p);
  fits = g.fits;
}

pub fault_behind : (P Q : Rule) (ts mid : List Tok) (e : Fault) → Frame P ts mid → GoodFault Q mid e → GoodFault (Seq P Q) ts e
fault_behind P Q ts mid (Syntax n) f g = cut_behind P Q ts mid n f g
fault_behind P Q ts mid (TooDeep n) f g = record { cut = cut_behind P Q ts mid n f g.cut; begun = g.begun }

abbrev cut_front : (P Q : Rule) (ts : List Tok) (n : ℕ) → Word Q → Cut P ts n → Cut (Seq P Q) ts n
cut_front P Q ts n w g = record {
  pre = g.pre;
  wrong = g.wrong;
  end = g.end ++ w.tokens;
  is = g.is;
  size = g.size;
  any = λ after p. rw (append_assoc g.end w.tokens after) (w.tokens ++ after, g.any (w.tokens ++ after) (w.plain after p), w.takes after p);
  fits = λ after p. rw (append_assoc g.end w.tokens after) (g.fits (w.tokens ++ after) (w.plain after p));
}

begun_more : (wrong end more : List Tok) → Begun wrong end → Begun wrong (end ++ more)
begun_more wrong end more b = record { first = b.first; behind_one = b.behind_one; behind_other = b.behind_other ++ more; one = b.one; other = ap (λ (z : List Tok). z ++ more) b.other }

pub fault_front : (P Q : Rule) (ts : List Tok) (e : Fault) → Word Q → GoodFault P ts e → GoodFault (Seq P Q) ts e
fault_front P Q ts (Syntax n) w g = cut_front P Q ts n w g
fault_front P Q ts (TooDeep n) w g = record { cut = cut_front P Q ts n w g.cut; begun = begun_more g.cut.wrong g.cut.end w.tokens g.begun }

pub good_behind : {A : Type 0} (P Q : Rule) (ts mid : List Tok) (r : Result (Got A) Fault) → Frame P ts mid → Good Q mid r → Good (Seq P Q) ts r
good_behind P Q ts mid (Ok x) f g = frame_seq P Q ts mid x.1 f g
good_behind P Q ts mid (Err e) f g = fault_behind P Q ts mid e f g

pub good_turn_behind : {A : Type 0} (P Q : Rule) (ts mid : List Tok) (r : Result (Got A) Fault) → Frame P ts mid → Good Q mid r → GoodTurn (Seq P Q) ts (r >>= λ x. Ok (Some x))
good_turn_behind P Q ts mid (Ok x) f g = frame_seq P Q ts mid x.1 f g
good_turn_behind P Q ts mid (Err e) f g = fault_behind P Q ts mid e f g

pub bind_good : {A B : Type 0} (P Q : Rule) → Word Q → (ts : List Tok) (r : Result (Got A) Fault) (k : Got A → Result (Got B) Fault) → Good P ts r → ((x : Got A) → r ≡ Ok x → Good Q x.1 (k x)) → Good (Seq P Q) ts (r >>= k)
bind_good P Q w ts (Ok x) k g h = good_behind P Q ts x.1 (k x) g (h x refl)
bind_good P Q w ts (Err e) k g h = fault_front P Q ts e w g

pub bind_good_tokens : {B : Type 0} (P Q : Rule) → Word Q → (ts : List Tok) (r : Result (List Tok) Fault) (k : List Tok → Result (Got B) Fault) → GoodTokens P ts r → ((rest : List Tok) → Good Q rest (k rest)) → Good (Seq P Q) ts (r >>= k)
bind_good_tokens P Q w ts (Ok rest) k g h = good_behind P Q ts rest (k rest) g (h rest)
bind_good_tokens P Q w ts (Err e) k g h = fault_front P Q ts e w g

pub seq_word : (P Q : Rule) → Word P → Word Q → Word (Seq P Q)
seq_word P Q v w = record {
  tokens = v.tokens ++ w.tokens;
  takes = λ after p. rw (append_assoc v.tokens w.tokens after) (w.tokens ++ after, v.takes (w.tokens ++ after) (w.plain after p), w.takes after p);
  plain = λ after p. rw (append_assoc v.tokens w.tokens after) (v.plain (w.tokens ++ after) (w.plain after p));
}

pub nil_word : Word Nil
nil_word = record { tokens = []; takes = λ after p. refl; plain = λ after p. p }

pub widen_word : (P Q : Rule) → Implies P Q → Word P → Word Q
widen_word P Q h w = record { tokens = w.tokens; takes = λ after p. h _ after (w.takes after p); plain = w.plain }

pub nil_good : {A : Type 0} (x : A) (ts : List Tok) → Good Nil ts (Ok (x, ts))
nil_good x ts = record { part = []; is = refl; any = λ after w. refl }

-- a fault at the first token
pub first_wrong : (P : Rule) (ts : List Tok) → Word P → Cut P ts (length ts)
first_wrong P ts w = record { pre = []; wrong = ts; end = w.tokens; is = refl; size = refl; any = w.takes; fits = λ after p. inl (w.plain after p) }

-- the first token begins it, with the tokens that complete it
pub first_deep : (P : Rule) (o : Tok) (ts end : List Tok) → ((after : List Tok) → Plain after → P (o ∷ (end ++ after)) after) → Deep P (o ∷ ts) (suc (length ts))
first_deep P o ts end h = record {
  cut = record { pre = []; wrong = o ∷ ts; end = o ∷ end; is = refl; size = refl; any = h; fits = λ after p. inr (record { first = o; behind_one = ts; behind_other = end ++ after; one = refl; other = refl }) };
  begun = record { first = o; behind_one = ts; behind_other = end; one = refl; other = refl };
}

-- ---- repeats

-- what repeats T is L
pub record Repeats (T L : Rule) : Type 0 where
  pub ends : (ts : List Tok) → L ts ts
  pub goes : (ts mid rest : List Tok) → T ts mid → L mid rest → L ts rest

pub repeats_word : (T L : Rule) → Repeats T L → Word L
repeats_word T L r = record { tokens = []; takes = λ after p. r.ends after; plain = λ after p. p }

abbrev pub TurnTakes : {A : Type 0} → Turn A → Type 0
TurnTakes {A} t = (a : A) (ts : List Tok) (x : Got A) → t a ts ≡ Ok (Some x) → length x.1 < length ts

turn_good : {A : Type 0} (T L : Rule) → Repeats T L → (t : Turn A) (n : ℕ) (a : A) (ts : List Tok) → ((x : Got A) → length x.1 < length ts → Good L x.1 (repeat t n x.0 x.1))
    → (r : Result (Option (Got A)) Fault) → ((x : Got A) → r ≡ Ok (Some x) → length x.1 < length ts) → GoodTurn T ts r → Good L ts (r >>= goes_on (repeat t n) a ts)
turn_good T L l t n a ts again (Ok None) s g = record { part = []; is = refl; any = λ after w. l.ends after }
turn_good T L l t n a ts again (Ok (Some x)) s g = widen (Seq T L) L (λ us rest p. l.goes us p.0 rest p.1 p.2) ts (repeat t n x.0 x.1) (good_behind T L ts x.1 (repeat t n x.0 x.1) g (again x (s x refl)))
turn_good T L l t n a ts again (Err e) s g = widen_fault (Seq T L) L (λ us rest p. l.goes us p.0 rest p.1 p.2) ts e (fault_front T L ts e (repeats_word T L l) g)

pub repeat_good : {A : Type 0} (T L : Rule) → Repeats T L → (t : Turn A) → TurnTakes t → ((a : A) (ts : List Tok) → GoodTurn T ts (t a ts)) → (n : ℕ) (a : A) (ts : List Tok) → length ts < n → Good L ts (repeat t n a ts)
unfolding repeat
repeat_good T L l t s g zero a ts e = absurd (omega (arith, e))
repeat_good T L l t s g (suc n) a ts e = turn_good T L l t n a ts (λ x shorter. repeat_good T L l t s g n x.0 x.1 (omega (arith, shorter, e))) (t a ts) (s a ts) (g a ts)

pub loop_good : {A : Type 0} (T L : Rule) → Repeats T L → (t : Turn A) → TurnTakes t → ((a : A) (ts : List Tok) → GoodTurn T ts (t a ts)) → (a : A) (ts : List Tok) → Good L ts (loop t a ts)
loop_good T L l t s g a ts = repeat_good T L l t s g (suc (length ts)) a ts (omega arith)

pub above_good : {A : Type 0} (P : Rule) (depth room : ℕ) (ts : List Tok) (r : Result (Got A) Fault) → Good P ts r → Deep P ts (length ts) → Good P ts (above depth room ts r)
above_good P depth room ts r g d = by (nat_lt depth room)
  where
    by : (b : Bool) → Good P ts (cond b r (deep ts))
    by true = g
    by false = d

pub above_turn_good : {A : Type 0} (P : Rule) (depth room : ℕ) (ts : List Tok) (r : Result (Option (Got A)) Fault) → GoodTurn P ts r → Deep P ts (length ts) → GoodTurn P ts (above depth room ts r)
above_turn_good P depth room ts r g d = by (nat_lt depth room)
  where
    by : (b : Bool) → GoodTurn P ts (cond b r (deep ts))
    by true = g
    by false = d
