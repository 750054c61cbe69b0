-- The lists that are read are derived by the grammar.
use Rattle.std.proofs.Common.{◌≡◌, ℕ, suc, ◌≤◌, Bool, true, false, cond, List, [], ◌∷◌, ◌++◌, length, Some, None, Ok, refl, sym, ap, subst, ◌∙◌, append_assoc, arith}
use Rattle.std.specs.Prelude.{max}
use Rattle.std.proofs.lemmas.List.{append-nil}
use Rattle.c_lex.specs.declared.token.Punct.TheVariants as m
use Rattle.c_parse.specs.Tok.{Tok, mark}
use Rattle.c_parse.specs.Lists as l
use Rattle.c_parse.specs.Lists.{Separated, ListEnd}
use Rattle.c_parse.specs.inner.Reader.{◌>>=◌, Got, Reader, loop, behind, at_comma, at_close_brace, at_more, close_brace, end_list}
use Rattle.c_parse.specs.inner.ReadingLists.{comma_by, separated, listed, brace_by, brace_turn, braced}
use Rattle.c_parse.proofs.FrontsRead as f
use Rattle.c_parse.proofs.FrontsRead.{bind_ok, ok_at}
use Rattle.c_parse.proofs.Soundness.{IsSound, repeat_runs, some_at}

abbrev pub deepest : {A : Type 0} → (A → ℕ) → List A → ℕ
deepest deep [] = 0
deepest deep (x ∷ xs) = max (deep x) (deepest deep xs)

-- any number of them
pub data Several {A : Type 0} (P : List Tok → A → List Tok → Type 0) : List Tok → List A → List Tok → Type 0 where
  none : {ts : List Tok} → Several P ts [] ts
  some : {ts mid rest : List Tok} {x : A} {xs : List A} → P ts x mid → Several P mid xs rest → Several P ts (x ∷ xs) rest

module _ {A : Type 0} (P : List Tok → A → List Tok → Type 0) (deep : A → ℕ) (room : ℕ) (reader : Reader A) (s : IsSound P deep room reader) where
  -- behind an element that ends where the tokens begin
  abbrev CommaFit : List A → List Tok → List A → List Tok → Type 0
  CommaFit xs ts all rest = (x : A) (us : List Tok) → P us x ts → (ys : List A) × (all ≡ xs ++ ys) × Separated P us (x ∷ ys) rest × (deepest deep ys ≤ room)

  comma_loop : (test : List Tok → Bool) → ((ts : List Tok) → test ts ≡ true → ts ≡ mark m.Comma ∷ behind ts) → (xs : List A) (ts : List Tok) (x : Got (List A))
      → loop (λ ys us. comma_by reader ys us (test us)) xs ts ≡ Ok x → CommaFit xs ts x.0 x.1
  comma_loop test is_comma xs ts x e = repeat_runs (λ ys us. comma_by reader ys us (test us)) CommaFit end more (suc (length ts)) xs ts x e
    where
      end : (xs : List A) (ts : List Tok) → comma_by reader xs ts (test ts) ≡ Ok None → CommaFit xs ts xs ts
      end xs ts is x us d = ([], sym (append-nil xs), l.last d, omega arith)

      step : (xs : List A) (ts : List Tok) (xs' all : List A) (us rest : List Tok) (b : Bool) → test ts ≡ b → comma_by reader xs ts b ≡ Ok (Some (xs', us)) → CommaFit xs' us all rest → CommaFit xs ts all rest
      step xs ts xs' all us rest false is e' back = absurd cc
      step xs ts xs' all us rest true is e' back =
          let a = bind_ok (reader (behind ts)) _ _ e' in
          let d = s (behind ts) a.0 a.1 in
          some_at (λ (z : Got (List A)). CommaFit z.0 z.1 all rest → CommaFit xs ts all rest) (xs ++ a.0.0 ∷ [], a.0.1) (xs', us) a.2
          (λ h. λ x vs first. let k = h a.0.0 (behind ts) d.derived in
          (a.0.0 ∷ k.0, k.1 ∙ append_assoc xs (a.0.0 ∷ []) k.0, l.more (subst (λ (z : List Tok). P vs x z) (is_comma ts is) first) k.2, omega (arith, d.fits, k.3))) back

      more : (xs : List A) (ts : List Tok) (xs' all : List A) (us rest : List Tok) → comma_by reader xs ts (test ts) ≡ Ok (Some (xs', us)) → CommaFit xs' us all rest → CommaFit xs ts all rest
      more xs ts xs' all us rest e' back = step xs ts xs' all us rest (test ts) refl e' back

  list_sound : (test : List Tok → Bool) → ((ts : List Tok) → test ts ≡ true → ts ≡ mark m.Comma ∷ behind ts)
      → IsSound (Separated P) (deepest deep) room (λ ts. reader ts >>= λ x. loop (λ ys us. comma_by reader ys us (test us)) (x.0 ∷ []) x.1)
  list_sound test is_comma ts x e =
      let a = bind_ok (reader ts) _ x e in
      let d = s ts a.0 a.1 in
      let k = comma_loop test is_comma (a.0.0 ∷ []) a.0.1 x a.2 a.0.0 ts d.derived in
      record {
        derived = subst (λ (z : List A). Separated P ts z x.1) (sym k.1) k.2;
        fits = subst (λ (z : List A). deepest deep z ≤ room) (sym k.1) (omega (arith, d.fits, k.3));
      }

  pub separated_sound : IsSound (Separated P) (deepest deep) room (separated reader)
  separated_sound ts x e = list_sound at_comma f.at_comma-is ts x e

  comma_before : (b d : Bool) → cond b (cond d false true) false ≡ true → b ≡ true
  comma_before true d e = refl
  comma_before false d e = absurd cc

  pub listed_sound : IsSound (Separated P) (deepest deep) room (listed reader)
  listed_sound ts x e = list_sound at_more (λ us is. f.at_comma-is us (comma_before (at_comma us) (at_close_brace (behind us)) is)) ts x e

  abbrev BraceFit : List A → List Tok → List A → List Tok → Type 0
  BraceFit xs ts all rest = (ys : List A) × (all ≡ xs ++ ys) × Several P ts ys rest × (deepest deep ys ≤ room)

  brace_loop : (xs : List A) (ts : List Tok) (x : Got (List A)) → loop (brace_turn reader) xs ts ≡ Ok x → BraceFit xs ts x.0 x.1
  brace_loop xs ts x e = repeat_runs (brace_turn reader) BraceFit end more (suc (length ts)) xs ts x e
    where
      end : (xs : List A) (ts : List Tok) → brace_turn reader xs ts ≡ Ok None → BraceFit xs ts xs ts
      end xs ts is = ([], sym (append-nil xs), none, omega arith)

      step : (xs : List A) (ts : List Tok) (xs' all : List A) (us rest : List Tok) (b : Bool) → brace_by reader xs ts b ≡ Ok (Some (xs', us)) → BraceFit xs' us all rest → BraceFit xs ts all rest
      step xs ts xs' all us rest true e' back = absurd cc
      step xs ts xs' all us rest false e' back =
          let a = bind_ok (reader ts) _ _ e' in
          let d = s ts a.0 a.1 in
          some_at (λ (z : Got (List A)). BraceFit z.0 z.1 all rest → BraceFit xs ts all rest) (xs ++ a.0.0 ∷ [], a.0.1) (xs', us) a.2
          (λ h. (a.0.0 ∷ h.0, h.1 ∙ append_assoc xs (a.0.0 ∷ []) h.0, some d.derived h.2, omega (arith, d.fits, h.3))) back

      more : (xs : List A) (ts : List Tok) (xs' all : List A) (us rest : List Tok) → brace_turn reader xs ts ≡ Ok (Some (xs', us)) → BraceFit xs' us all rest → BraceFit xs ts all rest
      more xs ts xs' all us rest e' back = step xs ts xs' all us rest (at_close_brace ts) e' back

  pub braced_sound : IsSound (Several P) (deepest deep) room (braced reader)
  braced_sound ts x e =
      let k = brace_loop [] ts x e in
      record {
        derived = subst (λ (z : List A). Several P ts z x.1) (sym k.1) k.2;
        fits = subst (λ (z : List A). deepest deep z ≤ room) (sym k.1) k.3;
      }

end_by : (b : Bool) (ts rest : List Tok) → at_comma ts ≡ b → cond b (close_brace (behind ts)) (close_brace ts) ≡ Ok rest → ListEnd ts rest
end_by true ts rest is e = subst (λ (z : List Tok). ListEnd z rest) (sym (f.at_comma-is ts is ∙ ap (λ (z : List Tok). mark m.Comma ∷ z) (f.close_brace-is (behind ts) rest e))) l.comma
end_by false ts rest is e = subst (λ (z : List Tok). ListEnd z rest) (sym (f.close_brace-is ts rest e)) l.brace

pub end_list-is : (ts rest : List Tok) → end_list ts ≡ Ok rest → ListEnd ts rest
end_list-is ts rest e = end_by (at_comma ts) ts rest refl e
