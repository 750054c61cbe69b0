-- Initial values in braces, from their loop.
use Rattle.std.proofs.Common.{◌≡◌, ℕ, ◌-◌, ◌<◌, true, List, Ok, refl}
use Rattle.kit_base.specs.declared.failure.Failure.{Failure}
use Rattle.kit_base.specs.Gives.{Fails}
use Rattle.c_tree.specs.Tree.{InitT, ListI}
use Rattle.c_tree.specs.View.{inits}
use Rattle.c_parse.specs.declared.fault.Fault.{Fault}
use Rattle.c_parse.specs.Tok.{Tok}
use Rattle.c_parse.specs.Scope.{Context, span}
use Rattle.c_parse.specs.inner.Reader.{behind, at_open_brace, end_list}
use Rattle.c_parse.specs.inner.ReadingLists.{listed}
use Rattle.c_parse.specs.inner.ReadingDeclarations.{init_at}
use Rattle.c_parse.proofs.Loops.{fails_on}
use Rattle.c_parse.proofs.CodeSteps.{init_step}

module _ (c : Context) (r : ℕ) (ts : List Tok) (pos : 0 < r) (opens : at_open_brace ts ≡ true) where
  pub inits_fail : (e : Failure Fault) → Fails e (listed (λ us. init_at c (r - 1) us) (behind ts)) → Fails e (init_at c r ts)
  inits_fail e bad = rw (init_step c r ts pos, opens) (fails_on e (listed (λ us. init_at c (r - 1) us) (behind ts)) _ bad)

  pub inits_unended : (e : Failure Fault) (is : List InitT) (mid : List Tok) → listed (λ us. init_at c (r - 1) us) (behind ts) ≡ Ok (is, mid) → Fails e (end_list mid) → Fails e (init_at c r ts)
  inits_unended e is mid good bad = rw (init_step c r ts pos, opens, good) (fails_on e (end_list mid) _ bad)

  pub inits_ok : (is : List InitT) (mid rest : List Tok) → listed (λ us. init_at c (r - 1) us) (behind ts) ≡ Ok (is, mid) → end_list mid ≡ Ok rest → init_at c r ts ≡ Ok (ListI (inits is) (span c ts rest), rest)
  inits_ok is mid rest good ends = rw (init_step c r ts pos, opens, good, ends) refl
