-- What one turn of the loop over items gives.
use Rattle.std.proofs.Common.{◌≡◌, ℕ, zero, suc, ◌<◌, Bool, true, false, eqb, List, [], ◌∷◌, ◌++◌, length, Some, None, Ok, refl, ap, arith}
use Rattle.kit_base.specs.declared.failure.Failure.{Failure}
use Rattle.kit_base.specs.Gives.{Fails}
use Rattle.c_tree.specs.Tree.{ItemT}
use Rattle.c_lex.specs.declared.token.Token.{Token}
use Rattle.c_parse.specs.declared.fault.Fault.{Fault}
use Rattle.c_parse.specs.Tok.{Tok, toks}
use Rattle.c_parse.specs.inner.Reader.{loop}
use Rattle.c_parse.specs.Units.{behind_item}
use Rattle.c_parse.specs.inner.ReadingUnits.{Unit_so_far, item_read, item_turn, unit_at}
use Rattle.c_parse.proofs.Loops.{fails_on}

abbrev pub Some_tokens : List Tok → Type 0
Some_tokens [] = ⊥
Some_tokens (o ∷ ts) = Unit {0}

pub some_tokens : (ts : List Tok) → 0 < length ts → Some_tokens ts
some_tokens [] h = absurd (omega arith)
some_tokens (o ∷ ts) h = tt

pub items_end : (n : ℕ) (a : Unit_so_far) (ts : List Tok) → length ts ≡ 0 → item_turn n a ts ≡ Ok None
items_end n a [] h = refl
items_end n a (o ∷ ts) h = absurd (omega (arith, h))

pub items_fail : (n : ℕ) (a : Unit_so_far) (ts : List Tok) (e : Failure Fault) → 0 < length ts → Fails e (item_read a.0 n ts) → Fails e (item_turn n a ts)
items_fail n a [] e h bad = absurd (omega arith)
items_fail n a (o ∷ ts) e h bad = fails_on e (item_read a.0 n (o ∷ ts)) _ bad

pub items_go : (n : ℕ) (a : Unit_so_far) (ts : List Tok) (d : ItemT) (rest : List Tok) → 0 < length ts → item_read a.0 n ts ≡ Ok (d, rest) → item_turn n a ts ≡ Ok (Some ((behind_item d a.0, a.1 ++ d ∷ []), rest))
items_go n a [] d rest h good = absurd (omega arith)
items_go n a (o ∷ ts) d rest h good = rw good refl

pub unit_fails : (n : ℕ) (ts : List Tok) (e : Failure Fault) → Fails e (loop (item_turn n) (record { total = length ts; types = [] }, []) ts) → Fails e (unit_at n ts)
unfolding unit_at
unit_fails n ts e bad = fails_on e (loop (item_turn n) (record { total = length ts; types = [] }, []) ts) _ bad

pub unit_is : (n : ℕ) (ts rest : List Tok) (a : Unit_so_far) → loop (item_turn n) (record { total = length ts; types = [] }, []) ts ≡ Ok (a, rest) → unit_at n ts ≡ Ok a.1
unfolding unit_at
unit_is n ts rest a e = rw e refl

never : (b : Bool) → b ≡ true → b ≡ false → ⊥
never b e h = cc

pub toks_length : (ts : List Token) → length (toks ts) ≡ length ts
toks_length [] = refl
toks_length (t ∷ ts) = ap suc (toks_length ts)

pub some_left : (b : Bool) (n : ℕ) → b ≡ eqb n 0 → b ≡ false → 0 < n
some_left b zero e h = absurd (never b e h)
some_left b (suc n) e h = omega arith
