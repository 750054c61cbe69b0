-- Parameters and members, from their loops.
use Rattle.std.proofs.Common.{◌≡◌, ℕ, ◌<◌, Bool, true, false, List, ◌++◌, length, Option, Some, None, Result, Ok, Err, refl, sym, ap, subst}
use Rattle.kit_base.specs.declared.failure.Failure.{Failure}
use Rattle.kit_base.specs.declared.failure.Failure.TheVariants as errors
use Rattle.kit_base.specs.Gives.{Fails}
use Rattle.c_tree.specs.Tree.{VarT}
use Rattle.c_parse.specs.declared.fault.Fault.{Fault}
use Rattle.c_parse.specs.Tok.{Tok}
use Rattle.c_parse.specs.Scope.{Context}
use Rattle.c_parse.specs.inner.Reader.{◌>>=◌, Got, at_close_paren, at_close_brace}
use Rattle.c_parse.specs.inner.ReadingLists.{separated}
use Rattle.c_parse.specs.inner.ReadingDeclarations.{param_at, params_by, params_at, at_void, member_at, behind_others, members_turn}
use Rattle.c_parse.proofs.Less.{member_less}
use Rattle.c_parse.proofs.FrontsRead.{bind_ok, ok_at}

module _ (c : Context) (room : ℕ) (ts : List Tok) where
  params_pick : (b v : Bool) → b ≡ false → v ≡ false → params_by c room ts b v ≡ separated (param_at c room) ts
  params_pick false false e f = refl
  params_pick true v e f = absurd cc
  params_pick false true e f = absurd cc

  pub params_list : at_close_paren ts ≡ false → at_void ts ≡ false → params_at c room ts ≡ separated (param_at c room) ts
  params_list e f = params_pick (at_close_paren ts) (at_void ts) e f

  pub params_fail : (e : Failure Fault) → at_close_paren ts ≡ false → at_void ts ≡ false → Fails e (separated (param_at c room) ts) → Fails e (params_at c room ts)
  params_fail e a b bad = subst (λ (r : Result (Got (List VarT)) Fault). Fails e r) (sym (params_list a b)) bad

others_fail : (vs : List VarT) (r : Result (Got (List VarT)) Fault) (e : Failure Fault) → Fails e (behind_others vs r) → Fails {Y = Option (Got (List VarT))} e (r >>= λ us. Ok (Some (vs ++ us.0, us.1)))
others_fail vs r errors.Memory h = tt
others_fail vs (Ok x) (errors.Cause f) h = absurd cc
others_fail vs (Err d) (errors.Cause f) h = let same : d ≡ f = cc in rw same refl

others_ok : (vs : List VarT) (r : Result (Got (List VarT)) Fault) (x : Got (List VarT)) → behind_others vs r ≡ Ok x → (r >>= λ us. Ok (Some (vs ++ us.0, us.1))) ≡ Ok (Some x)
others_ok vs (Ok y) x h = let same : (vs ++ y.0, y.1) ≡ x = cc in ap (λ (z : Got (List VarT)). Ok (Some z)) same
others_ok vs (Err d) x h = absurd cc

pub others_less : (c : Context) (n : ℕ) (vs : List VarT) (ts : List Tok) (x : Got (List VarT)) → behind_others vs (member_at c n ts) ≡ Ok x → length x.1 < length ts
others_less c n vs ts x e =
    let a = bind_ok (member_at c n ts) _ x e in
    ok_at (λ (z : Got (List VarT)). length z.1 < length ts) (vs ++ a.0.0, a.0.1) x a.2 (member_less c n ts a.0 a.1)

module _ (c : Context) (room : ℕ) (vs : List VarT) (ts : List Tok) where
  pub members_end : at_close_brace ts ≡ true → members_turn c room vs ts ≡ Ok None
  members_end e = rw e refl

  pub members_fail : (e : Failure Fault) → at_close_brace ts ≡ false → Fails e (behind_others vs (member_at c room ts)) → Fails e (members_turn c room vs ts)
  members_fail e is bad = rw is (others_fail vs (member_at c room ts) e bad)

  pub members_ok : (x : Got (List VarT)) → at_close_brace ts ≡ false → behind_others vs (member_at c room ts) ≡ Ok x → members_turn c room vs ts ≡ Ok (Some x)
  members_ok x is good = rw is (others_ok vs (member_at c room ts) x good)
