-- Tokens that are no unit, told with their place.
use Rattle.std.proofs.Common.{ℕ, ◌≡◌}
use Rattle.std.specs.Prelude.{Option}
use Rattle.c_parse.specs.Tok.{toks}
use Rattle.c_parse.specs.Places.{FirstBad, FirstDeep}
use Rattle.c_front.specs.declared.error.FrontErr.{FrontErr}
use Rattle.c_front.specs.declared.error.FrontErr.TheVariants as errors
use Rattle.c_front.specs.declared.places.Places.{Places}
use Rattle.c_front.specs.Due.{refusal_at, bad_code, IsNoUnit, bad, deep}
use Rattle.c_front.specs.inner.Inner.{Tells, Faults}

faults : (p : Places) (e due_one : FrontErr) → (e ≡ due_one → IsNoUnit p e) → Tells e due_one → Faults p e
faults p (errors.Source code file line) due_one says tells = says tells
faults p (errors.Missing name) due_one says tells = says tells
faults p (errors.Failed name) due_one says tells = says tells
faults p (errors.Limit name) due_one says tells = says tells
faults p errors.Memory due_one says tells = tt

pub faults_bad : (p : Places) (t : ℕ) (what : Option ℕ) (e : FrontErr) → FirstBad (toks p.tokens) t what → Tells e (refusal_at p (bad_code what) t) → Faults p e
faults_bad p t what e first tells = faults p e (refusal_at p (bad_code what) t) (λ is. bad t what first is) tells

pub faults_deep : (p : Places) (t : ℕ) (e : FrontErr) → FirstDeep (toks p.tokens) t → Tells e (refusal_at p 31 t) → Faults p e
faults_deep p t e first tells = faults p e (refusal_at p 31 t) (λ is. deep t first is) tells
