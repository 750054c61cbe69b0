-- A function that is made by a table is one by a choice.
use Rattle.std.proofs.Common.{◌≡◌, ℕ, inl, inr, List, [], ◌∷◌, Some, refl, sym, ap, ◌∙◌, arith}
use Rattle.mid_code.specs.Code.{NodesT, FunctionT, CodeT}
use Rattle.mid_code.specs.Functions.{NodeT, ListT, joined, listed}
use Rattle.mid_code.specs.Invariants.{AllOf, IsFunction, IsTemporary, IsMid}
use Rattle.mid_replace.specs.declared.table.Table.{Table}
use Rattle.mid_replace.specs.inner.Chosen.{IsReplacedBy}
use Rattle.mid_replace.specs.inner.Replaced.{replaced}
use Rattle.mid_replace.specs.inner.Tables.{plan_in, IsTableOf, HaveCounts}
use Rattle.mid_replace.proofs.Planning.{choice_in, plan_is}

pub made_by : (f : FunctionT ℕ) (t : Table) (before : ListT ℕ) (after : List (NodeT ℕ)) (body : NodesT ℕ) → IsTableOf f t → f.body ≡ joined before
    → Some after ≡ replaced (plan_in t) [] before → body ≡ joined (listed after)
    → IsReplacedBy f (record { temps = t.end; params = f.params; locals = f.locals; gives = f.gives; body = body })
made_by f t before after body is e d b = inl (record {
  choice = choice_in t;
  before = before;
  after = after;
  few = is.few;
  words = is.words;
  count = let a = is.end in let c = is.count in omega (arith, a, c);
  body = e;
  done = ap (λ X. replaced X [] before) (sym (plan_is f t is)) ∙ sym d;
  is = λ i. record { temps = is.end i; params = f.params; locals = f.locals; gives = f.gives; body = b i };
})

pub stays_by : (f : FunctionT ℕ) → IsReplacedBy f f
stays_by f = inr refl

have_counts : (x : CodeT ℕ) (fs : List (FunctionT ℕ)) → AllOf (IsFunction IsTemporary x) fs → HaveCounts fs
have_counts x [] h = tt
have_counts x (f ∷ fs) h = (h.0.count, have_counts x fs h.1)

pub mid_counts : (x : CodeT ℕ) → IsMid x → HaveCounts x.functions
mid_counts x m = have_counts x x.functions m.functions
