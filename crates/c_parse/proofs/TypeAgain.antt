-- A type that is read is read the same with less room, where it has that little depth.
use Rattle.std.proofs.Common.{◌≡◌, ℕ, zero, suc, ◌<◌, true, List, length, Option, Some, None, Result, Ok, refl, arith}
use Rattle.std.specs.Prelude.{nat_lt}
use Rattle.std.proofs.lemmas.Bool.{ltb-true}
use Rattle.c_tree.specs.Tree.{TypeT, PointerY}
use Rattle.c_tree.specs.Depth.{type_depth}
use Rattle.c_parse.specs.declared.fault.Fault.{Fault}
use Rattle.c_parse.specs.declared.lead.TypeMark.{TypeMark}
use Rattle.c_parse.specs.declared.lead.TypeMark.TheVariants as type_mark
use Rattle.c_parse.specs.Tok.{Tok}
use Rattle.c_parse.specs.Scope.{Context}
use Rattle.c_parse.specs.inner.Reader.{Got, loop, behind}
use Rattle.c_parse.specs.inner.Leads.{type_mark_at}
use Rattle.c_parse.specs.inner.Reading.{Readers, run_with, type_mark_by, type_mark_turn, base, readers, type_read}
use Rattle.c_parse.proofs.FrontsRead.{bind_ok, above_ok}
use Rattle.c_parse.proofs.Soundness.{repeat_runs, type_derived}
use Rattle.c_parse.proofs.Outcomes.{fits_is}
use Rattle.c_parse.proofs.ExprReads.{ty_reads}

abbrev held : Option (Got TypeT) → Result (Option (Got TypeT)) Fault
held o = Ok o

not_some : (x : Got TypeT) → held (Some x) ≡ held None → ⊥
not_some x e = cc

by_none : (r : Readers) (room : ℕ) (a : TypeT) (ts : List Tok) (k : TypeMark) → type_mark_by r room a ts k ≡ Ok None → k ≡ type_mark.Nothing
by_none r room a ts type_mark.Star e = let p = above_ok (type_depth a) room ts (Ok (Some (PointerY a, behind ts))) None e in absurd (not_some (PointerY a, behind ts) p.1)
by_none r room a ts type_mark.Bracket e = let p = bind_ok (run_with r room a ts) (λ b. Ok (Some b)) None e in absurd (not_some p.0 p.2)
by_none r room a ts type_mark.Nothing e = refl

-- no mark comes behind a type that is read
pub type_ends : (c : Context) (n : ℕ) (ts : List Tok) (x : Got TypeT) → type_read c n ts ≡ Ok x → type_mark_at x.1 ≡ type_mark.Nothing
unfolding readers
type_ends c zero ts x e = absurd cc
type_ends c (suc n) ts x e =
    let p = bind_ok (base c ts) (λ a. loop (type_mark_turn (readers c n) (suc n)) a.0 a.1) x e in
    repeat_runs (type_mark_turn (readers c n) (suc n)) (λ a us b rest. type_mark_at rest ≡ type_mark.Nothing)
    (λ a us is. by_none (readers c n) (suc n) a us (type_mark_at us) is) (λ a us b y vs rest is h. h) (suc (length p.0.1)) p.0.0 p.0.1 x p.2

pub type_again : (c : Context) (room : ℕ) (ts : List Tok) (x : Got TypeT) → type_read c (suc room) ts ≡ Ok x → nat_lt (type_depth x.0) (suc room) ≡ true → type_read c room ts ≡ Ok x
type_again c room ts x e lt =
    let f = type_derived c (suc room) ts x e in
    let less : type_depth x.0 < suc room = ltb-true _ _ lt in
    fits_is (type_depth x.0) room x (type_read c room ts) (ty_reads f.derived (type_ends c (suc room) ts x e) room) (omega (arith, less))
