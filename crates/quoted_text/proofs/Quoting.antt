-- What a loop over the bytes of a text keeps.
use Rattle.std.proofs.Common.{◌≡◌, ℕ, List, [], ◌∷◌, ◌++◌, length, refl, sym, ap, ◌∙◌, append_assoc, append-nil}
use Rattle.std.proofs.lemmas.List.{nil_from_length}
use Rattle.std.specs.Prelude.{Some, None}
use Rattle.quoted_text.specs.declared.quoted.Within.{Within}
use Rattle.quoted_text.specs.declared.quoted.Within.TheVariants as w
use Rattle.quoted_text.specs.declared.quoted.Turn.{Turn}
use Rattle.quoted_text.specs.declared.quoted.Turn.TheVariants as t
use Rattle.quoted_text.specs.Quoted.{Content, front, by_turn, turn_of, quoted_at}

abbrev pub with_front : List ℕ → Content → Content
with_front out None = None
with_front out (Some r) = Some (out ++ r.0, r.1)

behind : (out : List ℕ) (b : ℕ) (o : Content) → with_front out (front b o) ≡ with_front (out ++ b ∷ []) o
behind out b None = refl
behind out b (Some r) = ap (λ (x : List ℕ). Some (x, r.1)) (sym (append_assoc out (b ∷ []) r.0))

step : (q : ℕ) (s : Within) (rest : List ℕ) (b : ℕ) (after : List ℕ) (turn : Turn) → rest ≡ b ∷ after → turn ≡ turn_of q s b → quoted_at q s rest ≡ by_turn turn after (λ s'. quoted_at q s' after)
unfolding quoted_at
step q s rest b after turn whole is = rw (whole, is) refl

pub ends : (q : ℕ) (out : List ℕ) (s : Within) (rest : List ℕ) (b : ℕ) (after : List ℕ) (total : Content) → rest ≡ b ∷ after → t.Ends ≡ turn_of q s b → with_front out (quoted_at q s rest) ≡ total → Some (out, after) ≡ total
ends q out s rest b after total whole is so_far = ap (λ (x : List ℕ). Some (x, after)) (sym (append-nil out)) ∙ ap (with_front out) (sym (step q s rest b after t.Ends whole is)) ∙ so_far

pub fails : (q : ℕ) (out : List ℕ) (s : Within) (rest : List ℕ) (b : ℕ) (after : List ℕ) (total : Content) → rest ≡ b ∷ after → t.Fails ≡ turn_of q s b → with_front out (quoted_at q s rest) ≡ total → None ≡ total
fails q out s rest b after total whole is so_far = ap (with_front out) (sym (step q s rest b after t.Fails whole is)) ∙ so_far

pub goes : (q : ℕ) (out : List ℕ) (s next : Within) (rest : List ℕ) (b : ℕ) (after : List ℕ) (total : Content) → rest ≡ b ∷ after → t.Goes next ≡ turn_of q s b → with_front out (quoted_at q s rest) ≡ total → with_front out (quoted_at q next after) ≡ total
goes q out s next rest b after total whole is so_far = ap (with_front out) (sym (step q s rest b after (t.Goes next) whole is)) ∙ so_far

pub gives : (q : ℕ) (out new : List ℕ) (s : Within) (rest : List ℕ) (b given : ℕ) (after : List ℕ) (total : Content) → rest ≡ b ∷ after → new ≡ out ++ given ∷ [] → t.Gives given ≡ turn_of q s b → with_front out (quoted_at q s rest) ≡ total → with_front new (quoted_at q w.Plain after) ≡ total
gives q out new s rest b given after total whole pushed is so_far = ap (λ (x : List ℕ). with_front x (quoted_at q w.Plain after)) pushed ∙ sym (behind out given (quoted_at q w.Plain after)) ∙ ap (with_front out) (sym (step q s rest b after (t.Gives given) whole is)) ∙ so_far

pub at_end : (q : ℕ) (out : List ℕ) (s : Within) (rest : List ℕ) (total : Content) → length rest ≡ 0 → with_front out (quoted_at q s rest) ≡ total → None ≡ total
unfolding quoted_at
at_end q out s rest total empty so_far = let e : with_front out (quoted_at q s rest) ≡ None = rw (nil_from_length rest empty) refl in sym e ∙ so_far

pub ruleset quoting = (ends, fails, goes, gives, at_end)
